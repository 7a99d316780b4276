-- The edges, by computation. Assumes nothing.
use mathlib.Core.Path.{refl}
use Rattle.field_codes.specs.Codes.{is_squawk, is_emitter, is_size_code}
use Rattle.field_texts.specs.Text.{is_spaced}
use Rattle.mavlink_messages.specs.Ranges.{static_fits, dynamic_fits, traffic_fits}
use Rattle.mavlink_messages.specs.Edges.{RangeEdges}

pub edges : RangeEdges
unfolding is_squawk is_emitter is_size_code is_spaced static_fits dynamic_fits traffic_fits
edges =
    record {
      static_last = refl;
      address_1000000 = refl;
      ninth_octet_1 = refl;
      emitter_22 = refl;
      size_16 = refl;
      lateral_8 = refl;
      longitudinal_32 = refl;
      fix_5 = refl;
      fix_6 = refl;
      squawk_7778 = refl;
      squawk_65535 = refl;
      traffic_7777 = refl;
      traffic_7778 = refl;
      traffic_65534 = refl;
      traffic_65535 = refl;
    }
