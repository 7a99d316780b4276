-- What is left of octets, stuffed: the next, and then the others. Assumes nothing.
use mathlib.Core.Path.{◌≡◌, ap, ◌∙◌}
use mathlib.Core.List.{List, [], ◌++◌}
use Prim.Native.Nat.{ℕ, ◌+◌, ◌<◌, ◌≤◌}
use native.Mathlib.Numerals.{add-one}
use lib.ListN.{length, get_or, take, drop, length-append, drop_of_length-le}
use lib.Seq.{drop-cons}
use Rattle.field_words.proofs.Parts.{part}
use Rattle.ucp_frame.specs.Frame.{escaped, stuffed}
use Rattle.ucp_frame.proofs.Stuffing.{stuffed_append}

-- the octet at i, and then the others
pub octet_first : (body : List ℕ) (i : ℕ) → i < length body → stuffed (drop i body) ≡ escaped (get_or body i 0) ++ stuffed (drop (i + 1) body)
unfolding stuffed
octet_first body i h = rw (add-one, drop-cons body i 0)

pub octet_length : (body : List ℕ) (i : ℕ) → i < length body
    → length (stuffed (drop i body)) ≡ length (escaped (get_or body i 0)) + length (stuffed (drop (i + 1) body))
octet_length body i h = ap length (octet_first body i h) ∙ length-append (escaped (get_or body i 0)) (stuffed (drop (i + 1) body))

-- k octets from i on, and then the others
pub part_length : (k : ℕ) (body : List ℕ) (i : ℕ) (first : List ℕ) → first ≡ take k (drop i body)
    → length (stuffed (drop i body)) ≡ length (stuffed first) + length (stuffed (drop (i + k) body))
part_length k body i first e =
    ap (λ (l : List ℕ). length (stuffed l)) (part k body i e) ∙ ap length (stuffed_append first (drop (i + k) body))
    ∙ length-append (stuffed first) (stuffed (drop (i + k) body))

-- none
pub none_left : (body : List ℕ) (i : ℕ) → length body ≤ i → stuffed (drop i body) ≡ []
unfolding stuffed
none_left body i h = ap stuffed (drop_of_length-le body h)
