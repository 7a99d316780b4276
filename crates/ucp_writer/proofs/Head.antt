-- The first octets of a body, at most two, and what is left behind them. Assumes nothing.
use mathlib.Core.Path.{◌≡◌, refl, ap, ◌∙◌}
use mathlib.Core.List.{List, [], ◌++◌, append-nil}
use Prim.Native.Nat.{ℕ, ◌+◌, ◌<◌}
use native.Mathlib.Nat.{zero-add}
use native.Mathlib.Omega.{arith}
use lib.ListN.{length, get_or, take, drop, length-append}
use Rattle.crc_polynomial.specs.Polynomial.{bits_of_octets, divided}
use Rattle.crc_gdl90.proofs.Head.{take_none, take_one, take_two}
use Rattle.ucp_frame.specs.Frame.{escaped, stuffed, frame}
use Rattle.ucp_writer.specs.Steps.{frame_rest}
use Rattle.ucp_writer.proofs.Rest.{rest_part, frame_rest_lem}

pub stuffed_none : (n : ℕ) (body : List ℕ) → n ≡ 0 → stuffed (take n body) ≡ []
unfolding stuffed
stuffed_none n body e = ap stuffed (take_none n body e)

pub stuffed_one : (n : ℕ) (body : List ℕ) → n ≡ 1 → 0 < length body → stuffed (take n body) ≡ escaped (get_or body 0 0)
unfolding stuffed
stuffed_one n body e h = ap stuffed (take_one n body e h) ∙ append-nil (escaped (get_or body 0 0))

pub stuffed_two : (n : ℕ) (body : List ℕ) → n ≡ 2 → 1 < length body
    → stuffed (take n body) ≡ escaped (get_or body 0 0) ++ escaped (get_or body 1 0)
unfolding stuffed
stuffed_two n body e h =
    ap stuffed (take_two n body e h) ∙ ap (λ (l : List ℕ). escaped (get_or body 0 0) ++ l) (append-nil (escaped (get_or body 1 0)))

pub rest_head : (k : ℕ) (body : List ℕ)
    → frame_rest 0 body ≡ stuffed (take k body) ++ frame_rest (divided 0 (bits_of_octets (take k body))) (drop k body)
rest_head k body =
    rest_part k 0 body 0 (take k body) refl
    ∙ ap (λ (n : ℕ). stuffed (take k body) ++ frame_rest (divided 0 (bits_of_octets (take k body))) (drop n body)) (zero-add k)

-- so a frame has the flag, the first octets, and what is left
pub head_size : (k : ℕ) (body : List ℕ) → length (frame body)
    ≡ 1 + (length (stuffed (take k body)) + length (frame_rest (divided 0 (bits_of_octets (take k body))) (drop k body)))
head_size k body =
    let rest = ap length (rest_head k body) ∙ length-append (stuffed (take k body)) _ in
    omega (arith, ap length (frame_rest_lem body), rest)
