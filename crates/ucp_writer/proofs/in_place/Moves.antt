-- Octets put from the back to the front, and what is left to move. Assumes nothing.
use mathlib.Core.Path.{◌≡◌, refl, sym, ap, ap₂, ◌∙◌}
use mathlib.Core.List.{List, [], ◌∷◌, ◌++◌, append-nil}
use Prim.Native.Nat.{ℕ, suc, ◌+◌, ◌≤◌, ◌<◌}
use native.Mathlib.Omega.{arith}
use lib.ListN.{length, get_or, set, take, drop, length-append, length-set}
use lib.Seq.{sets, length-sets, set_comm, take-set-le, take-add, length-take-le, drop-cons}
use Rattle.field_words.proofs.Sets.{sets_append}
use Rattle.crc_gdl90.specs.Check.{frame_check}
use Rattle.ucp_frame.specs.Frame.{flag, escaped, stuffed, frame}
use Rattle.ucp_frame.proofs.Stuffing.{stuffed_append, stuffed_length_least}
use Rattle.output_writing.specs.Puts.{Puts}
use Rattle.ucp_writer.specs.Steps.{frame_end, frame_rest, Moves, ToMove}
use Rattle.ucp_writer.proofs.Rest.{frame_rest_lem, frame_put}

-- ---- stores that do not meet
pub set_before : (l : List ℕ) (i j a : ℕ) (vs : List ℕ) → i < j → set (sets l j vs) i a ≡ sets (set l i a) j vs
set_before l i j a [] h = refl
set_before l i j a (v ∷ vs) h =
    set_before (set l j v) i (suc j) a vs (omega arith)
    ∙ ap (λ (m : List ℕ). sets m (suc j) vs) (set_comm l j i v a (λ e. omega arith))

sets_before : (us vs l : List ℕ) (i j : ℕ) → i + length us ≤ j → sets (sets l j vs) i us ≡ sets (sets l i us) j vs
sets_before [] vs l i j h = refl
sets_before (u ∷ us) vs l i j h =
    ap (λ (m : List ℕ). sets m (suc i) us) (set_before l i j u vs (omega arith)) ∙ sets_before us vs (set l i u) (suc i) j (omega arith)

take_sets : (n : ℕ) (l : List ℕ) (i : ℕ) (vs : List ℕ) → n ≤ i → take n (sets l i vs) ≡ take n l
take_sets n l i [] h = refl
take_sets n l i (v ∷ vs) h = take_sets n (set l i v) (suc i) vs (omega arith) ∙ take-set-le n l i v h

-- ---- what is left to move
pub none_left : {buffer final : List ℕ} {end : ℕ} → ToMove buffer 0 end final → buffer ≡ final
unfolding stuffed
none_left t = t.gives

-- moved further
pub then_moved : {buffer middle final : List ℕ} {left end next at : ℕ} → ToMove buffer left end final
    → ToMove middle next at (sets buffer 1 (stuffed (take left buffer))) → ToMove middle next at final
then_moved t u = record { moves = u.moves; gives = u.gives ∙ t.gives }

-- nothing of them is moved yet
pub to_move : {buffer : List ℕ} {left end : ℕ} → Moves buffer left end → ToMove buffer left end (sets buffer 1 (stuffed (take left buffer)))
to_move m = record { moves = m; gives = refl }

-- one octet of a buffer
pub octet_part : (buffer : List ℕ) (i : ℕ) → i < length buffer → stuffed (take 1 (drop i buffer)) ≡ escaped (get_or buffer i 0)
unfolding stuffed
octet_part buffer i h = ap (λ (l : List ℕ). stuffed (take 1 l)) (drop-cons buffer i 0 h) ∙ append-nil (escaped (get_or buffer i 0))

-- the last k of them, and those before
module _ {buffer final : List ℕ} {left end : ℕ} (t : ToMove buffer left end final) (k next : ℕ) (cut : next + k ≡ left) where
  abbrev part : List ℕ
  part = take k (drop next buffer)

  parts : stuffed (take left buffer) ≡ stuffed (take next buffer) ++ stuffed part
  parts =
      ap (λ (n : ℕ). stuffed (take n buffer)) (sym cut) ∙ ap stuffed (take-add next k buffer)
      ∙ stuffed_append (take next buffer) part

  ends : 1 + length (stuffed (take next buffer)) + length (stuffed part) ≡ end
  ends = omega (arith, t.moves.ends, ap length parts ∙ length-append (stuffed (take next buffer)) (stuffed part))

  pub part_room : length (stuffed part) ≤ end
  part_room = omega (arith, ends)

  pub part_within : next + k ≤ length buffer
  part_within = omega (arith, t.moves.within)

  -- they are moved
  pub part_moved : {at : ℕ} {after : List ℕ} → at + length (stuffed part) ≡ end → after ≡ sets buffer at (stuffed part)
      → ToMove after next at final
  part_moved {at} {after} e is =
      let us : List ℕ = stuffed (take next buffer) in
      let place : at ≡ 1 + length us = omega (arith, ends, e) in
      let front : length (take next buffer) ≡ next = length-take-le next buffer (omega (arith, t.moves.within, cut)) in
      let behind : next ≤ at = omega (arith, place, front, stuffed_length_least (take next buffer)) in
      let same : take next after ≡ take next buffer = ap (take next) is ∙ take_sets next buffer at (stuffed part) behind in
      let size : length after ≡ length buffer = ap length is ∙ length-sets buffer at (stuffed part) in
      record {
        moves = record {
          within = omega (arith, size, t.moves.within, cut);
          room = omega (arith, size, t.moves.room, e);
          ends = ap (λ (l : List ℕ). 1 + length (stuffed l)) same ∙ sym place;
        };
        gives =
            ap₂ (λ (m l : List ℕ). sets m 1 (stuffed l)) is same
            ∙ sets_before us (stuffed part) buffer 1 at (omega (arith, place))
            ∙ ap (λ (n : ℕ). sets (sets buffer 1 us) n (stuffed part)) place
            ∙ sym (sets_append buffer 1 us (stuffed part))
            ∙ ap (sets buffer 1) (sym parts)
            ∙ t.gives;
      }

-- ---- the frame around the moved octets
frame_parts : (body : List ℕ) → frame body ≡ flag ∷ (stuffed body ++ frame_end (frame_check body))
unfolding frame_rest frame_check
frame_parts body = frame_rest_lem body

module _ (body buffer : List ℕ) (room : length (frame body) ≤ length buffer) {check end : ℕ} (is : check ≡ frame_check body)
    (at : end ≡ 1 + length (stuffed body)) {moved : List ℕ} (m : moved ≡ sets buffer 1 (stuffed body)) where
  frame_size : end + length (frame_end check) ≡ length (frame body)
  frame_size =
      omega (arith, at, ap (λ (n : ℕ). length (frame_end n)) is, ap length (frame_parts body), length-append (stuffed body) (frame_end (frame_check body)))

  pub end_room : end + length (frame_end check) ≤ length (set moved 0 flag)
  end_room = omega (arith, frame_size, room, length-set moved 0 flag, ap length m ∙ length-sets buffer 1 (stuffed body))

  pub framed : {next : ℕ} {after : List ℕ} → Puts (set moved 0 flag) end (frame_end check) next after
      → (next ≡ length (frame body)) × (after ≡ frame body ++ drop next buffer)
  framed {next} {after} p =
      let size : next ≡ length (frame body) = p.ends ∙ frame_size in
      let front : set moved 0 flag ≡ sets buffer 0 (flag ∷ stuffed body) =
      ap (λ (l : List ℕ). set l 0 flag) m ∙ set_before buffer 0 1 flag (stuffed body) (omega arith) in
      let place : end ≡ 0 + length (flag ∷ stuffed body) = omega (arith, at) in (
        size,
        p.leaves
            ∙ (λ i. sets (front i) (place i) (frame_end (is i)))
            ∙ sym (sets_append buffer 0 (flag ∷ stuffed body) (frame_end (frame_check body)))
            ∙ ap (sets buffer 0) (sym (frame_parts body))
            ∙ rw size (frame_put body buffer room),
      )
