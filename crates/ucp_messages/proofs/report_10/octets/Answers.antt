-- `report_10::octets` meets its contract: each octet of a number, as Rattle's numbers give it and as the format has it. Assumes nothing.
use Rattle.std.proofs.Common.{◌≡◌, ℕ, ◌+◌, ◌*◌, ◌/◌, ◌%◌, ◌<◌, arith, w16, w32, to_z-of_z}
use mir.Val.{to_z, of_z}
use Rattle.field_signed.specs.Signed.{complement}
use Rattle.field_format.specs.Format.{body_of}
use Rattle.field_format.proofs.Formats.{bound}
use Rattle.ucp_messages.specs.Report10.{report_format}
use Rattle.ucp_messages.proofs.Formats.{report_right}
use Rattle.ucp_messages.proofs.report_10.octets.Goals as goal

-- the octets of 16 bits, of 24 and of 32
second_of_two : (n : ℕ) → n < 65536 → n / 256 % 256 ≡ n / 256
second_of_two n h = omega arith

third : (n : ℕ) → n < 16777216 → n / 65536 % 256 ≡ n / 65536
third n h = omega arith

second : (n : ℕ) → n / 256 % 256 ≡ n % 65536 / 256
second n = omega arith

first : (n : ℕ) → n % 256 ≡ n % 65536 % 256
first n = omega arith

fourth_of_four : (n : ℕ) → n < 4294967296 → n / 16777216 % 256 ≡ n / 16777216
fourth_of_four n h = omega arith

third_of_four : (n : ℕ) → n / 65536 % 256 ≡ n % 16777216 / 65536
third_of_four n = omega arith

second_of_four : (n : ℕ) → n / 256 % 256 ≡ n % 16777216 % 65536 / 256
second_of_four n = omega arith

first_of_four : (n : ℕ) → n % 256 ≡ n % 16777216 % 65536 % 256
first_of_four n = omega arith

pub returns : goal.returns
unfolding body_of
returns c =
    let r = c.args.report in
    let at = bound (report_format c.args.id) (report_right c.args.id) r c.requires in
    let latitude = complement 8388608 r.latitude in
    let longitude = complement 8388608 r.longitude in
    let height = r.altitude * 16 + r.miscellaneous in
    let motion = r.speed * 1048576 + (complement 2048 r.vertical_rate * 256 + r.track) in
    let latitude_is : to_z w32 (of_z w32 r.latitude) ≡ r.latitude = grind (arith, to_z-of_z) in
    let longitude_is : to_z w32 (of_z w32 r.longitude) ≡ r.longitude = grind (arith, to_z-of_z) in
    let rate_is : to_z w16 (of_z w16 r.vertical_rate) ≡ r.vertical_rate = grind (arith, to_z-of_z) in
    rw (
      c.halves.ensures,
      c.halves-2.ensures,
      c.halves-3.ensures,
      c.to_be_bytes-address.ensures,
      c.to_be_bytes-latitude.ensures,
      c.to_be_bytes-longitude.ensures,
      c.to_be_bytes-height.ensures,
      c.to_be_bytes-motion.ensures,
      c.bits_24.ensures,
      c.bits_24-2.ensures,
      c.bits_12-rate.ensures,
      latitude_is,
      longitude_is,
      rate_is,
      third r.address (at 2),
      second r.address,
      first r.address,
      third latitude (at 3),
      second latitude,
      first latitude,
      third longitude (at 4),
      second longitude,
      first longitude,
      second_of_two height (omega arith),
      fourth_of_four motion (omega (arith, at 10)),
      third_of_four motion,
      second_of_four motion,
      first_of_four motion,
    )
