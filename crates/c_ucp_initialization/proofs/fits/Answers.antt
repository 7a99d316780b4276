-- `c_ucp_initialization::fits` meets its contract, test by test. Assumes nothing.
use mathlib.Core.Path.{sym, ◌∙◌}
use mathlib.Core.Bool.{◌&&◌}
use lib.Dec.{ltb}
use lib.ListN.{get_or}
use Rattle.c_ucp_initialization.proofs.Stored.{held_range, small}
use Rattle.c_ucp_initialization.proofs.fits.Goals as goal

pub returns : goal.returns
returns c =
    let m = c.args.message.now in
    let is = (λ i. c.is_emitter.ensures i
    && c.is_spaced_at.ensures i
    && c.is_size_code.ensures i
    && ltb (c.little_32.ensures i) 16777216
    && ltb (get_or m 19 0) 8
    && ltb (get_or m 20 0) 32)
    ∙ held_range m c.requires
    in
    (is, λ t. small m c.requires (sym is ∙ t))
