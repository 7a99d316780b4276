-- Laws of frames: how long one is, and that a line of them decodes in one way only. Assumes nothing.
use mathlib.Core.Path.{◌≡◌, refl, sym, ◌∙◌, ap}
use mathlib.Core.List.{List, [], ◌∷◌, ◌++◌, append_assoc}
use Prim.Native.Nat.{ℕ, suc, ◌+◌, ◌*◌, ◌≤◌}
use native.Mathlib.Omega.{arith}
use lib.ListN.{length, take, length-append}
use lib.Seq.{take-append_seam, take_at}
use Rattle.crc_polynomial.specs.Polynomial.{bits_of_octets, bits_of, divided, step, reduced}
use Rattle.crc_gdl90.specs.Check.{frame_check, frame_check_octets}
use Rattle.ucp_frame.specs.Frame.{flag, escaped, stuffed, frame, frames_of, longest_body, longest_frame, longest_frame_body}
use Rattle.ucp_frame.proofs.Stuffing.{FlagFree, stuffed_flag_free, stuffed_length_most}
use Rattle.ucp_frame.proofs.Unstuffing.{stuffed_injective}

-- ---- lengths

pub frame_length_most : (body : List ℕ) → length (frame body) ≤ 2 * length body + 6
unfolding frame
frame_length_most body =
    simp length-append (omega (arith, simp length-append at (stuffed_length_most (body ++ frame_check_octets body))))

pub frame_length_longest : (body : List ℕ) → length body ≤ longest_body → length (frame body) ≤ longest_frame
frame_length_longest body h = omega (arith, frame_length_most body)

-- the bound is reached, by a body of the longest length
pub longest_frame_length : length (frame longest_frame_body) ≡ longest_frame
unfolding frame stuffed escaped frame_check divided step reduced bits_of_octets bits_of longest_frame_body
longest_frame_length = refl

-- ---- a line of frames decodes in one way only

-- a list is cut at its first flag in one way only
until_flag : (us vs rs ss : List ℕ) → FlagFree us → FlagFree vs → us ++ flag ∷ rs ≡ vs ++ flag ∷ ss → (us ≡ vs) × (rs ≡ ss)
until_flag [] [] rs ss h k e = (refl, (cc))
until_flag [] (v ∷ vs) rs ss h k e = absurd (k 0 (cc))
until_flag (u ∷ us) [] rs ss h k e = absurd (h 0 (cc))
until_flag (u ∷ us) (v ∷ vs) rs ss h k e =
    let w = until_flag us vs rs ss (λ i. h (suc i)) (λ i. k (suc i)) (cc) in
    let q : u ≡ v = cc in
    ((cc), w.1)

pub append_injective : (xs ys us vs : List ℕ) → length us ≡ length vs → xs ++ us ≡ ys ++ vs → xs ≡ ys
append_injective xs ys us vs h e =
    let n : length ys ≡ length xs = omega (arith, simp length-append at (ap length e)) in
    sym (take-append_seam xs us) ∙ ap (take (length xs)) e ∙ take_at ys vs (length xs) n

-- what a line starts with is one frame in one way only
first_frame : (x y rest other : List ℕ) → frame x ++ rest ≡ frame y ++ other → (x ≡ y) × (rest ≡ other)
unfolding frame
first_frame x y rest other e =
    let s : List ℕ = stuffed (x ++ frame_check_octets x) in
    let t : List ℕ = stuffed (y ++ frame_check_octets y) in
    let w = until_flag s t rest other (stuffed_flag_free _) (stuffed_flag_free _)
    (cc (append_assoc s (flag ∷ []) rest, append_assoc t (flag ∷ []) other)) in
    (append_injective x y (frame_check_octets x) (frame_check_octets y) refl (stuffed_injective _ _ w.0), w.1)

pub frames_injective : (xs ys : List (List ℕ)) → frames_of xs ≡ frames_of ys → xs ≡ ys
unfolding frames_of frame
frames_injective [] [] e = refl
frames_injective [] (y ∷ ys) e = cc
frames_injective (x ∷ xs) [] e = cc
frames_injective (x ∷ xs) (y ∷ ys) e =
    let w = first_frame x y (frames_of xs) (frames_of ys) e in
    let t = frames_injective xs ys w.1 in
    cc
