-- `text_refusals::put_reason` meets its contract: no row has a number that no refusal has. Assumes nothing.
use mathlib.Core.Path.{◌≡◌, refl, sym}
use Prim.Native.Nat.{ℕ}
use borrow.Author.Tests.{ne_eqb}
use Rattle.refusals.specs.Refusals.{refusal_number}
use Rattle.refusals.specs.declared.Refusal.{Refusal}
use Rattle.refusals.specs.declared.Refusal.TheVariants as it
use Rattle.text_refusals.specs.Refusals.{reason, no_row}
use Rattle.text_refusals.proofs.put_reason.Goals as goal

unworded : (n : ℕ) → ((r : Refusal) → refusal_number r ≡ n → ⊥) → reason n ≡ no_row
unfolding reason
unworded n none =
    let no : (r : Refusal) → n ≡ refusal_number r → ⊥ = λ r e. none r (sym e) in
    rw (
      ne_eqb n 1 (no it.BadEscape),
      ne_eqb n 2 (no it.EscapeBeforeFlag),
      ne_eqb n 3 (no it.TooLong),
      ne_eqb n 4 (no it.TooShort),
      ne_eqb n 5 (no it.WrongCheck),
      ne_eqb n 6 (no it.Room),
      ne_eqb n 10 (no it.UnknownId),
      ne_eqb n 11 (no it.MessageLength),
      ne_eqb n 12 (no it.Fixed),
      ne_eqb n 13 (no it.Field),
      ne_eqb n 20 (no it.MavlinkShort),
      ne_eqb n 21 (no it.MavlinkStart),
      ne_eqb n 22 (no it.MavlinkUnknownId),
      ne_eqb n 23 (no it.MavlinkLength),
      ne_eqb n 24 (no it.MavlinkWrongCheck),
      ne_eqb n 25 (no it.MavlinkField),
    )
    refl

pub returns-in-Err : goal.returns-in-Err
returns-in-Err c = rw (unworded c.args.number c.in-Err.ensures.1) c.put_word-in-Err.ensures
