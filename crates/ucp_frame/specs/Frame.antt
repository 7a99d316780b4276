-- Stuffing, and the frame of a body (document 01, "Check and stuffing"). Assumes nothing.
use Rattle.std.specs.Prelude.{cond, List, [], ◌∷◌, ◌++◌, ℕ, eqb, replicate}
use Rattle.crc_gdl90.specs.Check.{frame_check_octets}

abbrev pub flag : ℕ
flag = 0x7E

abbrev pub escape : ℕ
escape = 0x7D

-- 7E becomes 7D 5E, 7D becomes 7D 5D, nothing else is escaped
unfoldable pub escaped : ℕ → List ℕ
escaped x = cond (eqb x flag) (escape ∷ 0x5E ∷ []) (cond (eqb x escape) (escape ∷ 0x5D ∷ []) (x ∷ []))

unfoldable pub stuffed : List ℕ → List ℕ
stuffed [] = []
stuffed (x ∷ xs) = escaped x ++ stuffed xs

-- 7E, the body and its check stuffed together, 7E
unfoldable pub frame : List ℕ → List ℕ
frame body = flag ∷ stuffed (body ++ frame_check_octets body) ++ (flag ∷ [])

-- the longest body, and the longest frame
abbrev pub longest_body : ℕ
longest_body = 436

abbrev pub longest_frame : ℕ
longest_frame = 878

-- a body whose frame is the longest: 436 octets that need an escape, and so do the two of its check, 7E7D
unfoldable pub longest_frame_body : List ℕ
longest_frame_body = flag ∷ escape ∷ replicate 371 flag ++ escape ∷ replicate 62 flag

-- the line's octets: the frames of the bodies in order, with nothing between
unfoldable pub frames_of : List (List ℕ) → List ℕ
frames_of [] = []
frames_of (body ∷ bodies) = frame body ++ frames_of bodies
