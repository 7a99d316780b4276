-- When the reader of messages gives each refusal (document 01, the table's rows 10 to 13, and "Message reading tests 10 to 13 in that
-- order"): each condition says that none before it is met. Assumes nothing.
use Rattle.std.specs.Prelude.{◌≡◌, Bool, true, false, List, [], ◌∷◌, ◌⊎◌, ℕ, ◌+◌, length, get_or}
use Rattle.field_format.specs.Format.{value_in}
use Rattle.ucp_messages.specs.declared.Kind.{Kind}
use Rattle.ucp_messages.specs.Kinds.{Reading, format, uplink, unknown, reading_of, kind_length, fixed_octets, known_ids, kind_in}

abbrev pub Among : List ℕ → ℕ → Type 0
Among [] n = ⊥
Among (x ∷ xs) n = (n ≡ x) ⊎ Among xs n

-- 10: no octet, or an ID that no kind has
abbrev pub UnknownId : List ℕ → Type 0
UnknownId body = (length body ≡ 0) ⊎ (Among known_ids (get_or body 0 0) → ⊥)

abbrev pub HasKindLength : Kind → List ℕ → Type 0
HasKindLength k body = length body ≡ kind_length k

-- 11: a known ID, and another length than the kind's
abbrev pub WrongMessageLength : List ℕ → Type 0
WrongMessageLength body = (UnknownId body → ⊥) × (HasKindLength (kind_in body) body → ⊥)

-- these octets stand from a place on
abbrev pub StandFrom : ℕ → List ℕ → List ℕ → Type 0
StandFrom place [] body = Unit {0}
StandFrom place (x ∷ xs) body = (get_or body place 0 ≡ x) × StandFrom (place + 1) xs body

abbrev pub HasFixedOctets : Kind → List ℕ → Type 0
HasFixedOctets k body = StandFrom 1 (fixed_octets k) body

-- 12: the kind's length, and another version, signature or subtype
abbrev pub WrongFixedOctet : List ℕ → Type 0
WrongFixedOctet body = (UnknownId body → ⊥) × HasKindLength (kind_in body) body × (HasFixedOctets (kind_in body) body → ⊥)

-- whether the fields are in their ranges
abbrev ranges_by : Reading → List ℕ → Bool
ranges_by (format f message) body = f.ranges (value_in f body)
ranges_by uplink body = true
ranges_by unknown body = true

abbrev pub fields_in_range : Kind → List ℕ → Bool
fields_in_range k = ranges_by (reading_of k)

-- 13: all that, and a field outside its range
abbrev pub FieldOutsideRange : List ℕ → Type 0
FieldOutsideRange body =
    (UnknownId body → ⊥)
    × HasKindLength (kind_in body) body
    × HasFixedOctets (kind_in body) body
    × (fields_in_range (kind_in body) body ≡ false)
