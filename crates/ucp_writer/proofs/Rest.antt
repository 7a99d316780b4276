-- What is left to write of a frame. Assumes nothing.
use mathlib.Core.Path.{◌≡◌, sym, ◌∙◌, ap, ap₂}
use mathlib.Core.List.{List, [], ◌∷◌, ◌++◌, append_assoc, append-nil}
use Prim.Native.Nat.{ℕ, ◌+◌, ◌/◌, ◌%◌, ◌<◌, ◌≤◌}
use native.Mathlib.Nat.{zero-add}
use native.Mathlib.Numerals.{add-one}
use native.Mathlib.Omega.{arith}
use lib.ListN.{length, get_or, take, drop, drop_of_length-le}
use lib.Seq.{sets, sets-eq, drop-cons}
use Rattle.crc_polynomial.specs.Polynomial.{bits_of_octets, bits_of, divided}
use Rattle.crc_polynomial.proofs.Laws.{divided_append}
use Rattle.crc_gdl90.specs.Check.{frame_check}
use Rattle.field_words.proofs.Parts.{part}
use Rattle.crc_gdl90.proofs.Eight.{part_first}
use Rattle.ucp_frame.specs.Frame.{flag, escaped, stuffed, frame}
use Rattle.ucp_frame.proofs.Stuffing.{stuffed_append}
use Rattle.ucp_writer.specs.Steps.{frame_end, frame_rest}
use Rattle.output_writing.specs.Puts.{Puts}
use Rattle.output_writing.proofs.ToPut.{ToPut, first_room, first_put}

pub frame_rest_lem : (body : List ℕ) → frame body ≡ flag ∷ frame_rest 0 body
unfolding frame frame_check frame_rest frame_end
frame_rest_lem body =
    rw stuffed_append (ap (λ (l : List ℕ). flag ∷ l) (append_assoc (stuffed body) _ _))

-- the octet at i, and then the others
pub rest_octet : (check : ℕ) (body : List ℕ) (i : ℕ) → i < length body
    → frame_rest check (drop i body) ≡ escaped (get_or body i 0) ++ frame_rest (divided check (bits_of 8 (get_or body i 0))) (drop (i + 1) body)
unfolding frame_rest stuffed bits_of_octets
rest_octet check body i h = rw (add-one, drop-cons body i 0, divided_append) (append_assoc (escaped (get_or body i 0)) _ _)

-- the two octets from i on, and then the others
rest_pair : (check : ℕ) (body : List ℕ) (i : ℕ) → i + 1 < length body
    → frame_rest check (drop i body)
    ≡ escaped (get_or body i 0) ++ escaped (get_or body (i + 1) 0)
    ++ frame_rest (divided check (bits_of 8 (get_or body i 0) ++ bits_of 8 (get_or body (i + 1) 0))) (drop (i + 2) body)
rest_pair check body i h =
    let on : i + 1 + 1 ≡ i + 2 = omega arith in
    rest_octet check body i (omega arith)
    ∙ ap (λ (l : List ℕ). escaped (get_or body i 0) ++ l) (rest_octet _ body (i + 1) h)
    ∙ rw (on, divided_append) (sym (append_assoc (escaped (get_or body i 0)) (escaped (get_or body (i + 1) 0)) _))

-- k octets from i on, and then the others
pub rest_part : (k check : ℕ) (body : List ℕ) (i : ℕ) (first : List ℕ) → first ≡ take k (drop i body)
    → frame_rest check (drop i body) ≡ stuffed first ++ frame_rest (divided check (bits_of_octets first)) (drop (i + k) body)
unfolding frame_rest
rest_part k check body i first e =
    ap₂ (λ (l : List ℕ) (r : ℕ). l ++ frame_end r) (ap stuffed (part k body i e) ∙ stuffed_append first (drop (i + k) body))
    (part_first k check body i first e)
    ∙ append_assoc (stuffed first) (stuffed (drop (i + k) body)) _

-- no octet of the body is left
pub rest_none : (check : ℕ) (body : List ℕ) (i : ℕ) → length body ≤ i → frame_rest check (drop i body) ≡ frame_end check
unfolding frame_rest stuffed bits_of_octets divided
rest_none check body i h = rw (drop_of_length-le body h)

-- the check's two octets, and the flag
pub closing_octets : (check : ℕ) → frame_end check ≡ escaped (check % 256) ++ (escaped (check / 256) ++ flag ∷ [])
unfolding frame_end stuffed
closing_octets check = simp (append_assoc, append-nil)

module _ {output : List ℕ} {at end : ℕ} {final : List ℕ} (check : ℕ) (body : List ℕ) (i : ℕ)
    (t : ToPut output at (frame_rest check (drop i body)) end final) where
  -- the two octets from i on have room
  pub pair_room : i + 1 < length body → at + length (escaped (get_or body i 0) ++ escaped (get_or body (i + 1) 0)) ≤ length output
  pair_room h = first_room (escaped (get_or body i 0) ++ escaped (get_or body (i + 1) 0)) _ (rw (rest_pair check body i h) at t)

  -- they are put
  pub pair_put : i + 1 < length body → {next later : ℕ} {after : List ℕ}
      → Puts output at (escaped (get_or body i 0) ++ escaped (get_or body (i + 1) 0)) next after
      → later ≡ divided check (bits_of 8 (get_or body i 0) ++ bits_of 8 (get_or body (i + 1) 0))
      → ToPut after next (frame_rest later (drop (i + 2) body)) end final
  pair_put h p e =
      rw e (first_put (escaped (get_or body i 0) ++ escaped (get_or body (i + 1) 0)) _ (rw (rest_pair check body i h) at t) p)

  -- the eight octets from i on have room
  pub eight_room : (first : List ℕ) → first ≡ take 8 (drop i body) → at + length (stuffed first) ≤ length output
  eight_room first e = first_room (stuffed first) _ (rw (rest_part 8 check body i first e) at t)

  -- they are put
  pub eight_put : (first : List ℕ) → first ≡ take 8 (drop i body) → {next later : ℕ} {after : List ℕ}
      → Puts output at (stuffed first) next after → later ≡ divided check (bits_of_octets first)
      → ToPut after next (frame_rest later (drop (i + 8) body)) end final
  eight_put first e p d = rw d (first_put (stuffed first) _ (rw (rest_part 8 check body i first e) at t) p)

  -- none is left
  pub closing_left : length body ≤ i → ToPut output at (frame_end check) end final
  closing_left h = rw (rest_none check body i h) at t

-- a whole frame put at the start
pub frame_put : (body output : List ℕ) → length (frame body) ≤ length output
    → sets output 0 (frame body) ≡ frame body ++ drop (length (frame body)) output
frame_put body output h = sets-eq (frame body) output 0 (omega arith) ∙ rw zero-add
