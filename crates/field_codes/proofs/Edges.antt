-- The edges, by computation. Assumes nothing.
use mathlib.Core.Path.{refl}
use Rattle.field_codes.specs.Codes.{is_squawk, is_emitter, is_size_code}
use Rattle.field_codes.specs.Squawks.{mode_a}
use Rattle.field_codes.specs.Edges.{CodeEdges}

pub edges : CodeEdges
unfolding is_squawk is_emitter is_size_code mode_a
edges =
    record {
      squawk_7 = refl;
      code_of_7 = refl;
      squawk_8 = refl;
      squawk_1277 = refl;
      squawk_1280 = refl;
      squawk_1800 = refl;
      squawk_7777 = refl;
      squawk_7778 = refl;
      squawk_8000 = refl;
      squawk_10000 = refl;
      squawk_65535 = refl;
      emitter_20 = refl;
      emitter_21 = refl;
      emitter_22 = refl;
      size_15 = refl;
      size_16 = refl;
    }
