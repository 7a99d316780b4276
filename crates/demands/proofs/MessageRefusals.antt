-- The refusals that the readers and the writers of messages can give. Assumes nothing.
use mathlib.Core.Path.{◌≡◌, refl, sym, ap}
use mathlib.Core.Bool.{Bool, true, false, cond}
use mathlib.Core.List.{List}
use mathlib.Core.Logic.{◌⊎◌, inl, inr, ◌↔◌}
use Prim.Native.Nat.{ℕ, ◌+◌, ◌≤◌, ◌<◌}
use native.Mathlib.Omega.{arith}
use borrow.Author.Tests.{ltb-true, lt-ltb}
use lib.Dec.{ltb}
use lib.ListN.{length}
use Rattle.ucp_answers.specs.Refusals.{refusal_of, reads, refusal_by}
use Rattle.ucp_messages.specs.Kinds.{Reading, format, uplink, unknown, reading_of}
use Rattle.ucp_messages.specs.Messages.{means_unless_refused, refusal_in, answer_as}
use Rattle.output_writing.specs.Writing.{refused, wrote}
use Rattle.ucp_messages.specs.declared.Kind.{Kind}
use Rattle.ucp_messages.specs.declared.Message.{Message}
use Rattle.ucp_messages.specs.Messages as Reads
use Rattle.ucp_answers.specs.Writes.{body_due}
use Rattle.mavlink_messages.specs.declared.Message as mavlink
use Rattle.mavlink_messages.specs.Messages.{in_range, write_due, payload_of}

-- ---- 10 to 13
abbrev ByTable : ℕ → ℕ → Type 0
ByTable due n = (n ≡ due) × (10 ≤ n) × (n ≤ 13)

by_tests : (length fixed range : Bool) (m : Message) (n : ℕ)
    → (means_unless_refused (refusal_by length fixed range) m ≡ Reads.refused n) ↔ ByTable (refusal_by length fixed range) n
unfolding refusal_by
by_tests true true true m n = (λ e. let z : ◌≡◌ {A = ℕ} 0 1 = cc in absurd (omega arith), λ t. absurd (omega (arith, t.0, t.1)))
by_tests true true false m n = (λ e. let z : n ≡ 13 = cc in (z, omega arith, omega arith), λ t. ap Reads.refused (sym t.0))
by_tests true false range m n = (λ e. let z : n ≡ 12 = cc in (z, omega arith, omega arith), λ t. ap Reads.refused (sym t.0))
by_tests false fixed range m n = (λ e. let z : n ≡ 11 = cc in (z, omega arith, omega arith), λ t. ap Reads.refused (sym t.0))

by_reading : (r : Reading) (body : List ℕ) (n : ℕ) → (Reads.answer_by r body ≡ Reads.refused n) ↔ ByTable (Reads.refusal_by_reading r body) n
unfolding reads refusal_of
by_reading (format f message) body n = by_tests _ _ _ _ n
by_reading uplink body n = by_tests _ _ _ _ n
by_reading unknown body n =
    (λ e. let z : n ≡ 10 = cc in (z, omega arith, omega arith), λ t. ap Reads.refused (sym t.0))

pub tabled_message : (k : Kind) (body : List ℕ) (n : ℕ) → (answer_as k body ≡ Reads.refused n) ↔ ByTable (refusal_in k body) n
unfolding answer_as refusal_in
tabled_message k body n = by_reading (reading_of k) body n

-- ---- a range, then room
abbrev RangeOrRoom : ℕ → Bool → ℕ → ℕ → ℕ → Type 0
RangeOrRoom number fits room octets n = ((n ≡ number) × (fits ≡ false)) ⊎ ((n ≡ 8) × (fits ≡ true) × (room < octets))

range_or_room : (number : ℕ) (fits : Bool) (room octets n : ℕ)
    → (cond fits (cond (ltb room octets) (refused 8) (wrote octets)) (refused number) ≡ refused n)
    ↔ RangeOrRoom number fits room octets n
range_or_room number false room octets n = ((λ e. inl (cc, refl)), back)
  where
    back : RangeOrRoom number false room octets n → refused number ≡ refused n
    back (inl h) = ap refused (sym h.0)
    back (inr h) = let f = h.1 in let z : ◌≡◌ {A = ℕ} 0 1 = cc in absurd (omega arith)
range_or_room number true room octets n = go (ltb room octets) refl
  where
    go : (short : Bool) → ltb room octets ≡ short
        → (cond short (refused 8) (wrote octets) ≡ refused n) ↔ RangeOrRoom number true room octets n
    go true e = ((λ f. let z : n ≡ 8 = cc in inr (z, refl, ltb-true _ _ e)), back)
      where
        back : RangeOrRoom number true room octets n → refused 8 ≡ refused n
        back (inl h) = let f = h.1 in let z : ◌≡◌ {A = ℕ} 0 1 = cc in absurd (omega arith)
        back (inr h) = ap refused (sym h.0)
    go false e = ((λ f. let z : ◌≡◌ {A = ℕ} 0 1 = cc in absurd (omega arith)), back)
      where
        back : RangeOrRoom number true room octets n → wrote octets ≡ refused n
        back (inl h) = let f = h.1 in let z : ◌≡◌ {A = ℕ} 0 1 = cc in absurd (omega arith)
        back (inr h) = let t = lt-ltb room octets h.2 in let z : ◌≡◌ {A = ℕ} 0 1 = cc in absurd (omega arith)

pub message_refused : (fits : Bool) (body output : List ℕ) (n : ℕ)
    → (body_due fits body output ≡ refused n) ↔ RangeOrRoom 13 fits (length output) (length body) n
unfolding body_due
message_refused fits body output n = range_or_room 13 fits (length output) (length body) n

pub mavlink_refused : (m : mavlink.Message) (output : List ℕ) (n : ℕ)
    → (write_due m output ≡ refused n) ↔ RangeOrRoom 25 (in_range m) (length output) (length (payload_of m) + 8) n
mavlink_refused m output n = range_or_room 25 (in_range m) (length output) (length (payload_of m) + 8) n
