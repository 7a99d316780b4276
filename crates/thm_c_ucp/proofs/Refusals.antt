-- When the linked receiver refuses: the answer's numbers tell it as the answer does. Assumes nothing.
use mathlib.Core.Path.{◌≡◌, refl, ap}
use mathlib.Core.List.{List, map}
use mathlib.Core.Logic.{◌↔◌}
use Prim.Native.Nat.{ℕ}
use native.Mathlib.Omega.{arith}
use lib.ListN.{length}
use borrow.Author.Tests.{eq-eqb, ne_eqb}
use Rattle.ucp_frame.specs.Frame.{flag}
use Rattle.ucp_frame.specs.Stretch.{Verdict, verdict}
use Rattle.ucp_history.specs.History.{cut_at_flags, open_stretch, answer}
use Rattle.ucp_receiver.specs.Answers.{ReceiverAnswer, nothing, refusal, body, answer_for}
use Rattle.c_ucp_receiver.specs.Numbers.{kind_told, value_told}
use Rattle.thm_ucp_receiver.proofs.Refusals.{answer_refuses, refuses_as, open_flag_free}
use Rattle.thm_c_ucp.specs.Receiver.{linked_call_of}
use Rattle.thm_c_ucp.specs.Refusals.{NumbersRefuse, LinkedReceiverRefusesWhen}
use Rattle.thm_c_ucp.proofs.Receiver.{linked_answers}

refused_told : (a : ReceiverAnswer) (number : ℕ) → NumbersRefuse (kind_told a) (value_told a) number ↔ (a ≡ refusal number)
refused_told a number = (go a, λ e. rw e (refl, refl))
  where
    go : (a : ReceiverAnswer) → NumbersRefuse (kind_told a) (value_told a) number → a ≡ refusal number
    go nothing t = absurd (omega (arith, t.0))
    go (refusal m) t = ap refusal t.1
    go (body octets) t = absurd (omega (arith, t.0))

silent_told : (a : ReceiverAnswer) → (kind_told a ≡ 0) ↔ (a ≡ nothing)
silent_told a = (go a, λ e. rw e refl)
  where
    go : (a : ReceiverAnswer) → kind_told a ≡ 0 → a ≡ nothing
    go nothing t = refl
    go (refusal m) t = absurd (omega (arith, t))
    go (body octets) t = absurd (omega (arith, t))

pub linked_receiver_refuses_when : LinkedReceiverRefusesWhen
unfolding answer
linked_receiver_refuses_when before after c l =
    let stretch : List ℕ = open_stretch (cut_at_flags (map linked_call_of before)).flags in
    let a = linked_answers before after c l in
    let v : Verdict = verdict stretch (length c.output) in (
      λ e.
          let kind : c.kind ≡ kind_told (answer_for v) = rw (eq-eqb c.octet flag e) at a.kind in
          let value : c.value ≡ value_told (answer_for v) = rw (eq-eqb c.octet flag e) at a.value in
          rw (kind, value)
          (refuses_as (refused_told (answer_for v)) (silent_told (answer_for v))
          (answer_refuses stretch (length c.output) (open_flag_free (map linked_call_of before)))),
      λ n. rw (ne_eqb c.octet flag n) at a.kind,
    )
