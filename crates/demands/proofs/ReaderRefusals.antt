-- The reader of messages gives 10, 11, 12 and 13 exactly when each is due. Assumes nothing.
use mathlib.Core.Path.{◌≡◌, refl, sym}
use mathlib.Core.Bool.{false}
use mathlib.Core.List.{List}
use mathlib.Core.Logic.{◌↔◌}
use Prim.Native.Nat.{ℕ, ◌≤◌}
use native.Mathlib.Omega.{arith}
use Rattle.ucp_messages.specs.declared.Kind.{Kind}
use Rattle.ucp_messages.specs.declared.Kind.TheVariants.{Uplink, Unknown}
use Rattle.ucp_messages.specs.Kinds.{kind_in}
use Rattle.ucp_messages.specs.Messages as Reads
use Rattle.ucp_messages.specs.Messages.{refusal_in, answer_as}
use Rattle.ucp_messages.specs.Refusals.{UnknownId, HasKindLength, WrongMessageLength, HasFixedOctets, WrongFixedOctet, fields_in_range, FieldOutsideRange}
use Rattle.thm_c_messages.proofs.Tests.{Is, is, is_lawful, unknown_so, Tested, tested_lawful, tested_uplink, exact}
use Rattle.ucp_messages.proofs.Formats.{Lawful, formatted, uplink, unknown, lawful}
use Rattle.demands.proofs.MessageRefusals.{tabled_message}

-- ---- the refusal of a body as a message of a kind
abbrev KindExact : Kind → List ℕ → Type 0
KindExact k body =
    ((refusal_in k body ≡ 10) ↔ (k ≡ Unknown))
    × ((refusal_in k body ≡ 11) ↔ (Is k × (HasKindLength k body → ⊥)))
    × ((refusal_in k body ≡ 12) ↔ (Is k × HasKindLength k body × (HasFixedOctets k body → ⊥)))
    × ((refusal_in k body ≡ 13) ↔ (Is k × HasKindLength k body × HasFixedOctets k body × (fields_in_range k body ≡ false)))

by_tests : (k : Kind) (body : List ℕ) → Is k → Tested k body (refusal_in k body) → KindExact k body
by_tests k body known t =
    let e = exact t in (
      (λ h. absurd (e.0 h), λ h. absurd (known h)),
      (λ h. (known, e.1.0 h), λ h. e.1.1 h.1),
      (λ h. let c = e.2.0 h in (known, c.0, c.1), λ h. e.2.1 (h.1, h.2)),
      (λ h. let c = e.3.0 h in (known, c.0, c.1, c.2), λ h. e.3.1 (h.1, h.2, h.3)),
    )

kind_exact : {k : Kind} → Lawful k → (body : List ℕ) → KindExact k body
unfolding refusal_in
kind_exact {k} (formatted f message l) body = by_tests k body (is_lawful l) (tested_lawful l body)
kind_exact uplink body = by_tests Uplink body (is Uplink (omega arith)) (tested_uplink body)
kind_exact unknown body = (
  (λ h. refl, λ h. refl),
  (λ h. absurd (omega arith), λ h. absurd (h.0 refl)),
  (λ h. absurd (omega arith), λ h. absurd (h.0 refl)),
  (λ h. absurd (omega arith), λ h. absurd (h.0 refl)),
)

-- ---- the answer to a body
answered : (k : Kind) (body : List ℕ) (n : ℕ) → 10 ≤ n → n ≤ 13 → (answer_as k body ≡ Reads.refused n) ↔ (refusal_in k body ≡ n)
answered k body n least most =
    let t = tabled_message k body n in
    (λ e. sym (t.0 e).0, λ e. t.1 (sym e, least, most))

module _ (body : List ℕ) where
  pub exactly_10 : (Reads.message_due body ≡ Reads.refused 10) ↔ UnknownId body
  exactly_10 =
      let a = answered (kind_in body) body 10 (omega arith) (omega arith) in
      let u = unknown_so body in
      let e = (kind_exact (lawful (kind_in body)) body).0 in
      (λ h. u.0 (e.0 (a.0 h)), λ h. a.1 (e.1 (u.1 h)))

  pub exactly_11 : (Reads.message_due body ≡ Reads.refused 11) ↔ WrongMessageLength body
  exactly_11 =
      let a = answered (kind_in body) body 11 (omega arith) (omega arith) in
      let u = unknown_so body in
      let e = (kind_exact (lawful (kind_in body)) body).1 in
      (λ h. let c = e.0 (a.0 h) in (λ k. c.0 (u.1 k), c.1), λ h. a.1 (e.1 (λ k. h.0 (u.0 k), h.1)))

  pub exactly_12 : (Reads.message_due body ≡ Reads.refused 12) ↔ WrongFixedOctet body
  exactly_12 =
      let a = answered (kind_in body) body 12 (omega arith) (omega arith) in
      let u = unknown_so body in
      let e = (kind_exact (lawful (kind_in body)) body).2 in
      (λ h. let c = e.0 (a.0 h) in (λ k. c.0 (u.1 k), c.1, c.2), λ h. a.1 (e.1 (λ k. h.0 (u.0 k), h.1, h.2)))

  pub exactly_13 : (Reads.message_due body ≡ Reads.refused 13) ↔ FieldOutsideRange body
  exactly_13 =
      let a = answered (kind_in body) body 13 (omega arith) (omega arith) in
      let u = unknown_so body in
      let e = (kind_exact (lawful (kind_in body)) body).3 in (
        λ h. let c = e.0 (a.0 h) in (λ k. c.0 (u.1 k), c.1, c.2, c.3),
        λ h. a.1 (e.1 (λ k. h.0 (u.0 k), h.1, h.2, h.3)),
      )
