-- What a struct holds, by its octets. Assumes nothing.
use mathlib.Core.Path.{◌≡◌, refl, sym, ap, ◌∙◌}
use mathlib.Core.Bool.{true, ◌&&◌}
use mathlib.Core.List.{List, [], ◌∷◌, ◌++◌}
use Prim.Native.Nat.{ℕ, ◌+◌, ◌*◌, ◌/◌, ◌%◌, ◌<◌, ◌≤◌}
use native.Mathlib.Omega.{arith}
use lib.Dec.{ltb}
use lib.ListN.{get_or, length, drop}
use lib.Seq.{sets, sets-eq}
use Rattle.crc_polynomial.specs.Polynomial.{Octets}
use Rattle.field_layout.specs.Steps.{little16, little32}
use Rattle.field_layout.proofs.Elements.{elements, by_elements}
use Rattle.field_signed.specs.Signed.{signed, holds}
use Rattle.field_format.proofs.Conjunction.{both}
use Rattle.ucp_messages.specs.declared.Report.{Report}
use Rattle.field_format.specs.Format.{body_of, fits}
use Rattle.ucp_messages.specs.Report10.{report_format}
use Rattle.field_format.proofs.Formats.{fitting, bound}
use Rattle.ucp_messages.proofs.Formats.{report_right}
use Rattle.c_lent.specs.Structs.{held}
use Rattle.c_ucp_report.specs.Struct.{report_struct}
use Rattle.c_ucp_report.specs.Steps.{Small, left_of, right_of}
use Rattle.c_ucp_report.proofs.Numbers.{cut_24, cut_12, moves}

pub body_length : (id : ℕ) (r : Report) → length (body_of (report_format id) r) ≡ 28
unfolding body_of
body_length id r = refl

-- what fits has no ID in it
pub same_fits : (id : ℕ) (r : Report) → fits (report_format 10) r ≡ fits (report_format id) r
unfolding fits
same_fits id r = refl

number_lt : (a b c d : ℕ) → a < 256 → b < 256 → c < 256 → d < 256 → d * 16777216 + (c * 65536 + (b * 256 + a)) < 4294967296
number_lt a b c d la lb lc ld = omega arith

-- the three tests of signed numbers
signs : (r : Report) → fits (report_format 10) r ≡ true
    → (holds 8388608 r.latitude ≡ true) × (holds 8388608 r.longitude ≡ true) × (holds 2048 r.vertical_rate ≡ true)
unfolding fits
signs r h =
    let before-latitude = ltb r.alert 16 && ltb r.address_type 16 && ltb r.address 16777216 in
    let before-longitude = before-latitude && holds 8388608 r.latitude in
    let position = before-longitude && holds 8388608 r.longitude in
    let height = position && ltb r.altitude 4096 in
    let others = height && ltb r.miscellaneous 16 in
    let nic = others && ltb r.nic 16 in
    let nacp = nic && ltb r.nacp 16 in
    let before-rate = nacp && ltb r.speed 4096 in
    let rate = before-rate && holds 2048 r.vertical_rate in
    let of-rate = both before-rate _ (both rate _ (both (rate && ltb r.emergency 16) _ h).0).0 in
    let of-height = both height _ (both others _ (both nic _ (both nacp _ of-rate.0).0).0).0 in
    let of-longitude = both before-longitude _ (both position _ of-height.0).0 in
    ((both before-latitude _ of-longitude.0).1, of-longitude.1, of-rate.1)

low_octet : (high low : ℕ) → low < 256 → (high * 256 + low) % 4096 % 256 ≡ low
low_octet high low h = omega arith

-- the body, by the struct's octets
abbrev pub whole : ℕ → List ℕ → List ℕ
whole id m =
    left_of id m ++ (right_of m ++ (get_or m 24 0 ∷ (elements 10 26 m ++ ((get_or m 36 0 * 16 + get_or m 37 0) ∷ []))))

module _ (m : List ℕ) (n : length m ≡ 40) where
  pub in_range : (ltb (get_or m 0 0) 16
      && ltb (get_or m 1 0) 16
      && ltb (little32 m 4) 16777216
      && holds 8388608 (signed 2147483648 (little32 m 8))
      && holds 8388608 (signed 2147483648 (little32 m 12))
      && ltb (little16 m 16) 4096
      && ltb (get_or m 18 0) 16
      && ltb (get_or m 19 0) 16
      && ltb (get_or m 20 0) 16
      && ltb (little16 m 22) 4096
      && holds 2048 (signed 32768 (little16 m 24))
      && ltb (get_or m 36 0) 16
      && ltb (get_or m 37 0) 16)
      ≡ fits (report_format 10) (held report_struct m)
  unfolding fits held
  in_range = ap (λ (xs : List ℕ). fits (report_format 10) (held report_struct xs)) (sym (by_elements 40 m n))

  module _ (is : Octets m) where
    pub small : fits (report_format 10) (held report_struct m) ≡ true → Small m
    unfolding held
    small h =
        let r = held report_struct (elements 40 0 m) in
        let g = ap (λ (xs : List ℕ). fits (report_format 10) (held report_struct xs)) (sym (by_elements 40 m n)) ∙ h in
        let at = bound (report_format 10) (report_right 10) r (fitting (report_format 10) (report_right 10) r g) in
        let z = signs r g in
        let rate-lt : get_or m 25 0 * 256 + get_or m 24 0 < 65536 = omega (arith, is 24, is 25) in
        record {
          alert = at 0;
          kind = at 1;
          address = at 2;
          latitude = cut_24 (little32 m 8) (number_lt (get_or m 8 0) (get_or m 9 0) (get_or m 10 0) (get_or m 11 0) (is 8) (is 9) (is 10) (is 11)) z.0;
          longitude = cut_24 (little32 m 12) (number_lt (get_or m 12 0) (get_or m 13 0) (get_or m 14 0) (get_or m 15 0) (is 12) (is 13) (is 14) (is 15)) z.1;
          altitude = at 5;
          miscellaneous = at 6;
          nic = at 7;
          nacp = at 8;
          speed = at 9;
          rate = cut_12 (little16 m 24) rate-lt z.2;
          emergency = at 14;
          spare = at 15;
        }

    pub body_of_lem : (id : ℕ) → Small m → body_of (report_format id) (held report_struct m) ≡ whole id m
    unfolding body_of held
    body_of_lem id s =
        let lat = s.latitude in
        let lon = s.longitude in
        let x : ℕ → ℕ = λ r. little16 m 22 * 1048576 + (r * 256 + get_or m 26 0) in
        let v = moves (little16 m 22) (little16 m 24 % 4096) (get_or m 26 0) (is 26) in
        ap (λ (xs : List ℕ). body_of (report_format id) (held report_struct xs)) (by_elements 40 m n)
        ∙ (λ i. id
        ∷ (get_or m 0 0 * 16 + get_or m 1 0)
        ∷ little32 m 4 / 65536
        ∷ little32 m 4 % 65536 / 256
        ∷ little32 m 4 % 65536 % 256
        ∷ lat i / 65536
        ∷ lat i % 65536 / 256
        ∷ lat i % 65536 % 256
        ∷ lon i / 65536
        ∷ lon i % 65536 / 256
        ∷ lon i % 65536 % 256
        ∷ (little16 m 16 * 16 + get_or m 18 0) / 256
        ∷ (little16 m 16 * 16 + get_or m 18 0) % 256
        ∷ (get_or m 19 0 * 16 + get_or m 20 0)
        ∷ (ap (λ (r : ℕ). x r / 16777216) s.rate ∙ v.m0) i
        ∷ (ap (λ (r : ℕ). x r % 16777216 / 65536) s.rate ∙ v.m1) i
        ∷ (ap (λ (r : ℕ). x r % 16777216 % 65536 / 256) s.rate ∙ v.m2 ∙ low_octet (get_or m 25 0) (get_or m 24 0) (is 24)) i
        ∷ (ap (λ (r : ℕ). x r % 16777216 % 65536 % 256) s.rate ∙ v.m3) i
        ∷ (elements 9 27 m ++ ((get_or m 36 0 * 16 + get_or m 37 0) ∷ [])))

    pub body_put : (id : ℕ) → Small m → (output : List ℕ) {after : List ℕ} → 28 ≤ length output → after ≡ sets output 0 (whole id m)
        → after ≡ body_of (report_format id) (held report_struct m) ++ drop 28 output
    body_put id s output room put =
        put
        ∙ sets-eq (whole id m) output 0 room
        ∙ ap (λ (body : List ℕ). body ++ drop 28 output) (sym (body_of_lem id s))
