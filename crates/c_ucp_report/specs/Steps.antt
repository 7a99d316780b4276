-- What the parts of the reader and of the writer do. Assumes nothing.
use Rattle.std.specs.Prelude.{◌≡◌, List, [], ◌∷◌, ℕ, ◌+◌, ◌*◌, ◌/◌, ◌%◌, ◌<◌, get_or, set}
use Rattle.std.proofs.lemmas.List.Edits.{sets}
use Rattle.field_layout.specs.Steps.{big16, big24, big32, little16, little32}
use Rattle.field_signed.specs.Signed.{signed, complement}
use Rattle.field_layout.specs.Layout.{text_octets, text_at}
use Rattle.c_lent.specs.Steps.{two_of}

-- ---- numbers in a struct: two fields of 4 bits, and 32 bits
abbrev pub halves_of : ℕ → List ℕ
halves_of n = n / 16 ∷ n % 16 ∷ []

abbrev pub four_of : ℕ → List ℕ
four_of n = n % 16777216 % 65536 % 256 ∷ n % 16777216 % 65536 / 256 ∷ n % 16777216 / 65536 ∷ n / 16777216 ∷ []

-- ---- a signed number of 24 bits as one of 32, and of 12 as one of 16
abbrev pub wide24 : ℕ → ℕ
wide24 n = complement 2147483648 (signed 8388608 n)

abbrev pub wide12 : ℕ → ℕ
wide12 n = complement 32768 (signed 2048 n)

-- ---- the struct's octets behind what octets 1 to 7 of a body put there, 8 to 15, and the others
abbrev pub left_stored : List ℕ → List ℕ → List ℕ
left_stored body l =
    sets (sets (sets l 0 (halves_of (get_or body 1 0))) 4 (four_of (big24 body 2))) 8 (four_of (wide24 (big24 body 5)))

abbrev pub right_stored : List ℕ → List ℕ → List ℕ
right_stored body l =
    let position = sets l 12 (four_of (wide24 (big24 body 8))) in
    let height = set (sets position 16 (two_of (big16 body 11 / 16))) 18 (big16 body 11 % 16) in
    sets (sets height 19 (halves_of (get_or body 13 0))) 22 (two_of (big32 body 14 / 1048576))

abbrev pub others_stored : List ℕ → List ℕ → List ℕ
others_stored body l =
    let rate = sets l 24 (two_of (wide12 (big32 body 14 % 1048576 / 256))) in
    let codes = set (set rate 26 (big32 body 14 % 1048576 % 256)) 27 (get_or body 18 0) in
    sets (sets codes 28 (text_octets (text_at body 19))) 36 (halves_of (get_or body 27 0))

-- what holds of a struct's octets whose fields fit a body
pub record Small (m : List ℕ) : Type 0 where
  pub alert : get_or m 0 0 < 16
  pub kind : get_or m 1 0 < 16
  pub address : little32 m 4 < 16777216
  pub latitude : complement 8388608 (signed 2147483648 (little32 m 8)) ≡ little32 m 8 % 16777216
  pub longitude : complement 8388608 (signed 2147483648 (little32 m 12)) ≡ little32 m 12 % 16777216
  pub altitude : little16 m 16 < 4096
  pub miscellaneous : get_or m 18 0 < 16
  pub nic : get_or m 19 0 < 16
  pub nacp : get_or m 20 0 < 16
  pub speed : little16 m 22 < 4096
  pub rate : complement 2048 (signed 32768 (little16 m 24)) ≡ little16 m 24 % 4096
  pub emergency : get_or m 36 0 < 16
  pub spare : get_or m 37 0 < 16

-- octets 0 to 7 of the body, and 8 to 15
abbrev pub left_of : ℕ → List ℕ → List ℕ
left_of id m =
    let address = little32 m 4 in
    let latitude = little32 m 8 % 16777216 in
    id
    ∷ (get_or m 0 0 * 16 + get_or m 1 0)
    ∷ address / 65536
    ∷ address % 65536 / 256
    ∷ address % 65536 % 256
    ∷ latitude / 65536
    ∷ latitude % 65536 / 256
    ∷ latitude % 65536 % 256
    ∷ []

abbrev pub right_of : List ℕ → List ℕ
right_of m =
    let longitude = little32 m 12 % 16777216 in
    let height = little16 m 16 * 16 + get_or m 18 0 in
    let motion = little16 m 22 * 16 + little16 m 24 % 4096 / 256 in
    longitude / 65536
    ∷ longitude % 65536 / 256
    ∷ longitude % 65536 % 256
    ∷ height / 256
    ∷ height % 256
    ∷ (get_or m 19 0 * 16 + get_or m 20 0)
    ∷ motion / 256
    ∷ motion % 256
    ∷ []
