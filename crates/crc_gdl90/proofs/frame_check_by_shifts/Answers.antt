-- `crc_gdl90::frame_check_by_shifts` meets its contract: the first octets are their own check, and pairs are left. Assumes nothing.
use mathlib.Core.Path.{sym, ap, ◌∙◌}
use mathlib.Core.List.{List}
use Prim.Native.Nat.{ℕ}
use native.Mathlib.Omega.{arith}
use lib.ListN.{drop, length-drop}
use Rattle.std.proofs.lemmas.List.{take_all}
use Rattle.crc_polynomial.specs.Polynomial.{bits_of_octets, divided}
use Rattle.crc_gdl90.specs.Check.{frame_check}
use Rattle.crc_gdl90.proofs.Head.{head_first}
use Rattle.crc_gdl90.proofs.frame_check_by_shifts.Goals as goal

pub returns : goal.returns
unfolding frame_check
returns c =
    let body = c.args.body.now in
    let start = c.head_length-start.result in
    c.check_words.ensures
    ∙ ap (λ (xs : List ℕ). divided c.head_check.result (bits_of_octets xs)) (take_all _ _ (simp length-drop (omega arith)))
    ∙ ap (λ (check : ℕ). divided check (bits_of_octets (drop start body))) c.head_check.ensures
    ∙ sym (head_first start body)
