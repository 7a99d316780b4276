-- `c_ucp_control::body_fits` meets its contract. Assumes nothing.
use mathlib.Core.Path.{◌∙◌, ap, ap₂}
use mathlib.Core.Bool.{◌&&◌}
use native.Mathlib.Omega.{arith}
use Rattle.field_codes.specs.Codes.{is_squawk}
use Rattle.c_ucp_control.proofs.Stored.{in_range}
use Rattle.c_ucp_control.proofs.body_fits.Goals as goal

pub returns : goal.returns
returns c =
    ap₂ ◌&&◌ (c.is_squawk.ensures ∙ ap is_squawk c.little_16.ensures) c.is_padded_at.ensures
    ∙ in_range c.args.body.now c.requires

pub is_padded_at-requires : goal.is_padded_at-requires
is_padded_at-requires c = omega arith
