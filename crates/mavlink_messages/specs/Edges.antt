-- The last value in each range of 201, 202 and 246, and the first outside. Assumes nothing.
use Rattle.std.specs.Prelude.{◌≡◌, true, false}
use Rattle.field_layout.specs.declared.Text.{Text}
use Rattle.mavlink_messages.specs.Ranges.{static_fits, dynamic_fits, traffic_fits}

-- "A B     "
abbrev pub spaced_callsign : Text
spaced_callsign = record { c0 = 0x41; c1 = 0x20; c2 = 0x42; c3 = 0x20; c4 = 0x20; c5 = 0x20; c6 = 0x20; c7 = 0x20 }

pub record RangeEdges : Type 0 where
  pub static_last : static_fits 0xFFFFFF spaced_callsign 0 21 15 7 31 ≡ true
  pub address_1000000 : static_fits 0x1000000 spaced_callsign 0 21 15 7 31 ≡ false
  pub ninth_octet_1 : static_fits 0xFFFFFF spaced_callsign 1 21 15 7 31 ≡ false
  pub emitter_22 : static_fits 0xFFFFFF spaced_callsign 0 22 15 7 31 ≡ false
  pub size_16 : static_fits 0xFFFFFF spaced_callsign 0 21 16 7 31 ≡ false
  pub lateral_8 : static_fits 0xFFFFFF spaced_callsign 0 21 15 8 31 ≡ false
  pub longitudinal_32 : static_fits 0xFFFFFF spaced_callsign 0 21 15 7 32 ≡ false
  pub fix_5 : dynamic_fits 7777 5 ≡ true
  pub fix_6 : dynamic_fits 7777 6 ≡ false
  pub squawk_7778 : dynamic_fits 7778 5 ≡ false
  pub squawk_65535 : dynamic_fits 65535 5 ≡ false
  pub traffic_7777 : traffic_fits 7777 ≡ true
  pub traffic_7778 : traffic_fits 7778 ≡ false
  pub traffic_65534 : traffic_fits 65534 ≡ false
  pub traffic_65535 : traffic_fits 65535 ≡ true
