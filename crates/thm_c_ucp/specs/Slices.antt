-- A line of linked calls by the octet and by the slice, in any order, on one store and line: `ostrogosz_ucp_receive` and
-- `ostrogosz_ucp_receive_slice`. It is a line driven by slices in C's numbers. Assumes nothing.
use Rattle.std.specs.Prelude.{◌≡◌, List, [], ◌∷◌, ◌++◌, map, ℕ, ◌≤◌, length, take, get_or, replicate}
use Rattle.crc_polynomial.specs.Polynomial.{Octets}
use Rattle.ucp_frame.specs.Frame.{flag}
use Rattle.ucp_receiver.specs.Octet.{no_octets}
use Rattle.c_ucp_receiver.specs.Numbers.{record_numbers, answer_kind, answer_value, TakesNumbers, StartsNumbers}
use Rattle.thm_ucp_receiver.specs.Slice.{ObservedSlice, SliceLine, gathered}
use Rattle.thm_c_ucp.specs.Receiver.{LinkedCall, MeetsLinked, LinkedLine}

-- one call with a slice: the slice and the output as at entry; the answer's three numbers; what was lent as at return
pub record LinkedSlice : Type 0 where
  pub octets : List ℕ
  pub output : List ℕ
  pub kind : ℕ
  pub value : ℕ
  pub taken : ℕ
  pub store_after : List ℕ
  pub line_after : List ℕ
  pub output_then : List ℕ

abbrev pub MeetsLinkedSlice : List ℕ → List ℕ → LinkedSlice → Type 0
MeetsLinkedSlice store line s =
    Octets s.octets
    × TakesNumbers store line s.octets s.output s.kind s.value s.taken s.store_after s.line_after s.output_then

pub data LinkedTake : Type 0 where
  by_octet : LinkedCall → LinkedTake
  by_slice : LinkedSlice → LinkedTake

-- each call meets its contract, the first from this store and line and the others from what the one before left
abbrev pub LinkedTakes : List ℕ → List ℕ → List LinkedTake → Type 0
LinkedTakes store line [] = Unit
LinkedTakes store line (by_octet c ∷ ts) = MeetsLinked store line c × LinkedTakes c.store_after c.line_after ts
LinkedTakes store line (by_slice s ∷ ts) = MeetsLinkedSlice store line s × LinkedTakes s.store_after s.line_after ts

pub record LinkedSliceLine (calls : List LinkedTake) : Type 0 where
  pub store : List ℕ
  pub line : List ℕ
  pub starts : StartsNumbers store line
  pub takes : LinkedTakes store line calls

-- ---- it is a line driven by slices

-- a call of the receiver with a slice in C's numbers
abbrev pub slice_in_numbers : ObservedSlice → LinkedSlice
slice_in_numbers s =
    record {
      octets = s.line;
      output = s.output;
      kind = answer_kind s.given.answer;
      value = answer_value s.given.answer;
      taken = s.given.taken;
      store_after = s.store_after;
      line_after = record_numbers s.given.receiver;
      output_then = s.output_then;
    }

-- an octet is a slice of one, which is taken
abbrev pub as_slice : LinkedTake → LinkedSlice
as_slice (by_slice s) = s
as_slice (by_octet c) =
    record {
      octets = c.octet ∷ [];
      output = c.output;
      kind = c.kind;
      value = c.value;
      taken = 1;
      store_after = c.store_after;
      line_after = c.line_after;
      output_then = c.output_then;
    }

pub record IsSliceLine (calls : List LinkedTake) : Type 0 where
  pub slices : List ObservedSlice
  pub line : SliceLine slices
  pub same : map slice_in_numbers slices ≡ map as_slice calls

-- every line of linked calls is a line driven by slices in numbers, and every line driven by slices in numbers is one of linked calls
pub record LinkedSliceLines : Type 0 where
  pub is_line : (calls : List LinkedTake) → LinkedSliceLine calls → IsSliceLine calls
  pub of_line : (slices : List ObservedSlice) → SliceLine slices → LinkedSliceLine (map (λ (s : ObservedSlice). by_slice (slice_in_numbers s)) slices)

-- ---- one call, from any store and line

-- octets are taken up to the first that brings an answer, or all of them
abbrev pub LinkedSliceTakesAll : Type 0
LinkedSliceTakesAll =
    (store line octets output : List ℕ) (kind value taken : ℕ) (store_after line_after output_then : List ℕ)
    → TakesNumbers store line octets output kind value taken store_after line_after output_then → kind ≡ 0 → taken ≡ length octets

-- where the octets taken end in a flag, whatever the answer, the store is zero, the phase 1 and nothing is stored
abbrev pub LinkedSliceFlagClears : Type 0
LinkedSliceFlagClears =
    (store line octets output : List ℕ) (kind value taken : ℕ) (store_after line_after output_then earlier : List ℕ)
    → TakesNumbers store line octets output kind value taken store_after line_after output_then → take taken octets ≡ earlier ++ flag ∷ []
    → (store_after ≡ no_octets) × (get_or line_after 0 0 ≡ 1) × (get_or line_after 1 0 ≡ 0)

-- ---- and so a linked line by the octet

-- the octets that a call took, and the rooms lent to a call for each of them
abbrev pub linked_taken : LinkedTake → List ℕ
linked_taken t = take (as_slice t).taken (as_slice t).octets

abbrev pub linked_rooms : LinkedTake → List ℕ
linked_rooms t = replicate (as_slice t).taken (length (as_slice t).output)

-- none of these calls has an answer
abbrev pub AllLinkedSilent : List LinkedCall → Type 0
AllLinkedSilent [] = Unit
AllLinkedSilent (c ∷ cs) = (c.kind ≡ 0) × AllLinkedSilent cs

-- a linked line by the octet, first for the calls before, then for this one, silent up to a last call that is lent the same output
-- and gives back what this call does
pub record EndsAsLinked (before : List LinkedTake) (t : LinkedTake) : Type 0 where
  pub earlier : List LinkedCall
  pub quiet : List LinkedCall
  pub last : LinkedCall
  pub line : LinkedLine ((earlier ++ quiet) ++ last ∷ [])
  pub octets_before : map (λ (c : LinkedCall). c.octet) earlier ≡ gathered linked_taken before
  pub octets : map (λ (c : LinkedCall). c.octet) (quiet ++ last ∷ []) ≡ linked_taken t
  pub rooms_before : map (λ (c : LinkedCall). length c.output) earlier ≡ gathered linked_rooms before
  pub rooms : map (λ (c : LinkedCall). length c.output) (quiet ++ last ∷ []) ≡ linked_rooms t
  pub silence : AllLinkedSilent quiet
  pub output : last.output ≡ (as_slice t).output
  pub kind : last.kind ≡ (as_slice t).kind
  pub value : last.value ≡ (as_slice t).value
  pub store_after : last.store_after ≡ (as_slice t).store_after
  pub line_after : last.line_after ≡ (as_slice t).line_after
  pub output_then : last.output_then ≡ (as_slice t).output_then

-- so every promise of a linked line's call holds of a call with a slice that took an octet
abbrev pub LinkedSliceIsCall : Type 0
LinkedSliceIsCall =
    (before after : List LinkedTake) (t : LinkedTake) → LinkedSliceLine (before ++ t ∷ after) → 1 ≤ (as_slice t).taken
    → EndsAsLinked before t
