-- What the steps of the frame writer do to the output. Assumes nothing.
use Rattle.std.specs.Prelude.{◌≡◌, List, [], ◌∷◌, ◌++◌, ℕ, ◌+◌, ◌/◌, ◌%◌, ◌≤◌, length, take}
use Rattle.std.proofs.lemmas.List.Edits.{sets}
use Rattle.crc_polynomial.specs.Polynomial.{bits_of_octets, divided}
use Rattle.ucp_frame.specs.Frame.{flag, stuffed}

-- a frame's end: its check, low octet first, stuffed, and the flag
unfoldable pub frame_end : ℕ → List ℕ
frame_end check = stuffed (check % 256 ∷ check / 256 ∷ []) ++ flag ∷ []

-- what is left of a frame where the octets xs of its body are, and the check of those before is known
unfoldable pub frame_rest : ℕ → List ℕ → List ℕ
frame_rest check xs = stuffed xs ++ frame_end (divided check (bits_of_octets xs))

-- the first octets of a buffer, stuffed behind its first place, end at a place that it has
pub record Moves (buffer : List ℕ) (octets end : ℕ) : Type 0 where
  pub within : octets ≤ length buffer
  pub room : end ≤ length buffer
  pub ends : 1 + length (stuffed (take octets buffer)) ≡ end

-- the first octets of a buffer are left to move, they end at a place, and once they are moved the buffer is `final`
pub record ToMove (buffer : List ℕ) (left end : ℕ) (final : List ℕ) : Type 0 where
  pub moves : Moves buffer left end
  pub gives : sets buffer 1 (stuffed (take left buffer)) ≡ final
