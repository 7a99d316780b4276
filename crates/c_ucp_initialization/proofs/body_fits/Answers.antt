-- `c_ucp_initialization::body_fits` meets its contract. Assumes nothing.
use mathlib.Core.Path.{◌∙◌}
use mathlib.Core.Bool.{◌&&◌}
use Rattle.c_ucp_initialization.proofs.Stored.{in_range}
use Rattle.c_ucp_initialization.proofs.body_fits.Goals as goal

pub returns : goal.returns
returns c =
    (λ i. c.is_emitter.ensures i && c.is_spaced_at.ensures i && c.is_size_code.ensures i)
    ∙ in_range c.args.body.now c.requires
