-- The struct of 201 and its payload: the address has four octets in the one and three in the other, and the integrity stands in
-- different places. Assumes nothing.
use mathlib.Core.Path.{◌≡◌, refl, sym, ap, ap₂, ◌∙◌}
use mathlib.Core.Bool.{Bool, true}
use mathlib.Core.List.{List, [], ◌∷◌, ◌++◌}
use Prim.Native.Nat.{ℕ, zero, suc, ◌+◌, ◌*◌, ◌<◌, ◌≤◌}
use native.Mathlib.Omega.{arith}
use borrow.Author.Tests.{ltb-true}
use lib.ListN.{length, get_or, set, take, drop, take-append-drop, replicate}
use lib.Seq.{sets, paste, take_at, drop_at, drop-drop, length-take-le}
use Rattle.crc_polynomial.specs.Polynomial.{Octets}
use Rattle.field_layout.specs.Layout.{low, layout_octets, text_at}
use Rattle.field_layout.specs.Steps.{little24, little32}
use Rattle.field_layout.proofs.Elements.{elements, by_elements}
use Rattle.field_layout.proofs.RoundTrips.{octets_fields}
use Rattle.field_format.specs.Format.{value_in, body_of}
use Rattle.field_format.proofs.ByOctets.{by_octets}
use Rattle.field_format.proofs.Conjunction.{both}
use Rattle.mavlink_frame.specs.declared.Header.{Header}
use Rattle.mavlink_frame.specs.declared.Kind.{Kind}
use Rattle.mavlink_frame.specs.Frame.{mavlink_frame}
use Rattle.mavlink_frame.specs.Reader.{payload_at}
use Rattle.mavlink_messages.specs.declared.Static.{Static}
use Rattle.mavlink_messages.specs.Ranges.{static_fits}
use Rattle.mavlink_messages.specs.Static201.{static_format}
use Rattle.c_lent.specs.Structs.{stored, held}
use Rattle.c_mavlink.specs.Structs.{static_struct}
use Rattle.c_mavlink.proofs.Parts.{part}

-- ---- the ranges
abbrev pub fits_in : ℕ → List ℕ → Bool
fits_in address xs = static_fits address (text_at xs 6) (get_or xs 14 0) (get_or xs 15 0) (get_or xs 16 0) (get_or xs 17 0) (get_or xs 18 0)

pub static_payload : (p : List ℕ) → length p ≡ 19 → fits_in (little24 p 0) p ≡ static_format.ranges (value_in static_format p)
unfolding value_in
static_payload p n = ap static_format.ranges (by_octets static_format 19 p n)

pub static_held : (m : List ℕ) → length m ≡ 20 → fits_in (little32 m 0) m ≡ static_format.ranges (held static_struct m)
unfolding held
static_held m n = ap (λ (xs : List ℕ). static_format.ranges (held static_struct xs)) (sym (by_elements 20 m n))

-- an address that is in range has 24 bits
pub address_small : (address : ℕ) (xs : List ℕ) → fits_in address xs ≡ true → address < 16777216
unfolding static_fits
address_small address xs e =
    ltb-true _ _ (both _ _ (both _ _ (both _ _ (both _ _ (both _ _ (both _ _ e).0).0).0).0).0).0

-- ---- numbers of two, three and four octets
four_octets : (a b c d : ℕ) → a < 256 → b < 256 → c < 256 → d < 256 → Octets (a ∷ b ∷ c ∷ d ∷ [])
four_octets a b c d la lb lc ld zero = la
four_octets a b c d la lb lc ld (suc zero) = lb
four_octets a b c d la lb lc ld (suc (suc zero)) = lc
four_octets a b c d la lb lc ld (suc (suc (suc zero))) = ld
four_octets a b c d la lb lc ld (suc (suc (suc (suc i)))) = omega arith

two_octets : (a b : ℕ) → a < 256 → b < 256 → Octets (a ∷ b ∷ [])
two_octets a b la lb zero = la
two_octets a b la lb (suc zero) = lb
two_octets a b la lb (suc (suc i)) = omega arith

three_octets : (a b c : ℕ) → a < 256 → b < 256 → c < 256 → Octets (a ∷ b ∷ c ∷ [])
three_octets a b c la lb lc zero = la
three_octets a b c la lb lc (suc zero) = lb
three_octets a b c la lb lc (suc (suc zero)) = lc
three_octets a b c la lb lc (suc (suc (suc i))) = omega arith

two : (a b : ℕ) → a < 256 → b < 256 → layout_octets (low 2 ∷ []) ((b * 256 + a) ∷ []) ≡ a ∷ b ∷ []
two a b la lb = octets_fields (low 2 ∷ []) (a ∷ b ∷ []) tt (two_octets a b la lb) refl

-- 24 bits in four octets
four : (a b c : ℕ) → a < 256 → b < 256 → c < 256 → layout_octets (low 4 ∷ []) ((c * 65536 + (b * 256 + a)) ∷ []) ≡ a ∷ b ∷ c ∷ 0 ∷ []
four a b c la lb lc =
    let e : c * 65536 + (b * 256 + a) ≡ 0 * 16777216 + (c * 65536 + (b * 256 + a)) = omega arith in
    ap (λ (n : ℕ). layout_octets (low 4 ∷ []) (n ∷ [])) e
    ∙ octets_fields (low 4 ∷ []) (a ∷ b ∷ c ∷ 0 ∷ []) tt (four_octets a b c 0 la lb lc (omega arith)) refl

-- four octets that hold 24 bits, in three
three : (a b c d : ℕ) → a < 256 → b < 256 → c < 256 → d * 16777216 + (c * 65536 + (b * 256 + a)) < 16777216
    → layout_octets (low 3 ∷ []) ((d * 16777216 + (c * 65536 + (b * 256 + a))) ∷ []) ≡ a ∷ b ∷ c ∷ []
three a b c d la lb lc small =
    let e : d * 16777216 + (c * 65536 + (b * 256 + a)) ≡ c * 65536 + (b * 256 + a) = omega arith in
    ap (λ (n : ℕ). layout_octets (low 3 ∷ []) (n ∷ [])) e
    ∙ octets_fields (low 3 ∷ []) (a ∷ b ∷ c ∷ []) tt (three_octets a b c la lb lc) refl

-- ---- the struct's octets, from a payload's
pub static_stored : (p : List ℕ) → Octets p → length p ≡ 19 → {after : List ℕ} → after ≡ paste (replicate 20 0) 0 p (length p)
    → set (set after 3 0) 19 (get_or p 3 0) ≡ stored static_struct (value_in static_format p)
unfolding stored value_in
static_stored p is n put =
    let all = put ∙ ap₂ (λ (xs : List ℕ) (k : ℕ). paste (replicate 20 0) 0 xs k) (by_elements 19 p n) n in
    let address = four (get_or p 0 0) (get_or p 1 0) (get_or p 2 0) (is 0) (is 1) (is 2) in
    let stall = two (get_or p 4 0) (get_or p 5 0) (is 4) (is 5) in
    ap (λ (xs : List ℕ). set (set xs 3 0) 19 (get_or p 3 0)) all
    ∙ (λ t. sym address t ++ (sym stall t ++ elements 13 6 p ++ get_or p 3 0 ∷ []))
    ∙ ap (λ (xs : List ℕ). stored static_struct (value_in static_format xs)) (sym (by_elements 19 p n))

-- ---- the payload, from the struct's octets
abbrev moved : List ℕ → List ℕ
moved m = get_or m 0 0 ∷ get_or m 1 0 ∷ get_or m 2 0 ∷ get_or m 19 0 ∷ elements 15 4 m

module _ (m : List ℕ) (is : Octets m) (n : length m ≡ 20) (small : little32 m 0 < 16777216) where
  body_moved : moved m ≡ body_of static_format (held static_struct m)
  unfolding body_of held
  body_moved =
      let address = three (get_or m 0 0) (get_or m 1 0) (get_or m 2 0) (get_or m 3 0) (is 0) (is 1) (is 2) small in
      let stall = two (get_or m 4 0) (get_or m 5 0) (is 4) (is 5) in
      (λ t. sym address t ++ (get_or m 19 0 ∷ (sym stall t ++ elements 13 6 m)))
      ∙ ap (λ (xs : List ℕ). body_of static_format (held static_struct xs)) (sym (by_elements 20 m n))

  module _ (output : List ℕ) (room : 27 ≤ length output) where
    -- it is put in three words, and the integrity over one octet
    pub payload_put : {after : List ℕ}
        → after ≡ set (sets (sets (sets output 6 (take 8 (drop 0 m))) 14 (take 8 (drop 8 m))) 17 (take 8 (drop 11 m))) 9 (get_or m 19 0)
        → after ≡ take 6 output ++ (body_of static_format (held static_struct m) ++ drop 25 output)
    payload_put put =
        let whole : output ≡ elements 25 0 output ++ drop 25 output =
        sym (take-append-drop 25 output) ∙ ap (λ (xs : List ℕ). xs ++ drop 25 output) (part 25 0 output (omega arith))
        in
        put
        ∙ ap₂ (λ (o xs : List ℕ). set (sets (sets (sets o 6 (take 8 (drop 0 xs))) 14 (take 8 (drop 8 xs))) 17 (take 8 (drop 11 xs))) 9 (get_or m 19 0))
        whole (by_elements 20 m n)
        ∙ ap₂ (λ (o xs : List ℕ). o ++ (xs ++ drop 25 output)) (sym (part 6 0 output (omega arith))) body_moved

pub body_length : (v : Static) → length (body_of static_format v) ≡ 19
unfolding body_of
body_length v = refl

pub frame_length : (v : Static) → length (body_of static_format v) + 8 ≡ 27
unfolding body_of
frame_length v = refl

-- ---- the frame around a payload that is put from 6 on
pub framed : (k : Kind) (h : Header) (body output : List ℕ) {mid after : List ℕ} → length body ≡ 19 → 27 ≤ length output
    → mid ≡ take 6 output ++ (body ++ drop 25 output) → after ≡ mavlink_frame k h (payload_at 19 mid) ++ drop 27 mid
    → after ≡ mavlink_frame k h body ++ drop 27 output
framed k h body output {mid} n room placed put =
    let six : length (take 6 output) ≡ 6 = length-take-le 6 output (omega arith) in
    let from-6 = ap (drop 6) placed ∙ drop_at (take 6 output) (body ++ drop 25 output) 6 six in
    let payload = ap (take 19) from-6 ∙ take_at body (drop 25 output) 19 n in
    let rest =
    sym (drop-drop 21 6 mid) ∙ ap (drop 21) from-6 ∙ sym (drop-drop 2 19 (body ++ drop 25 output))
    ∙ ap (drop 2) (drop_at body (drop 25 output) 19 n) ∙ drop-drop 2 25 output
    in
    put ∙ ap₂ (λ (xs ys : List ℕ). mavlink_frame k h xs ++ ys) payload rest
