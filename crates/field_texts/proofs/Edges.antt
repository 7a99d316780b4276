-- The edges, by computation. Assumes nothing.
use mathlib.Core.Path.{refl}
use Rattle.field_texts.specs.Text.{all_spaces, is_padded, is_spaced}
use Rattle.field_texts.specs.Edges.{TextEdges}

pub edges : TextEdges
unfolding all_spaces is_padded is_spaced
edges =
    record {
      before_0 = refl;
      digit_0 = refl;
      digit_9 = refl;
      behind_9 = refl;
      before_a = refl;
      capital_a = refl;
      capital_z = refl;
      behind_z = refl;
      small_a = refl;
      small_z = refl;
      space_inside_padded = refl;
      space_inside_spaced = refl;
      space_first_padded = refl;
      space_last_padded = refl;
      spaces_padded = refl;
      spaces_spaced = refl;
      small_padded = refl;
      small_spaced = refl;
    }
