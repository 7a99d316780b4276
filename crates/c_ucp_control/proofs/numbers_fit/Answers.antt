-- `c_ucp_control::numbers_fit` meets its contract. Assumes nothing.
use mathlib.Core.Path.{◌∙◌, ap}
use mathlib.Core.Bool.{Bool, ◌&&◌}
use lib.Dec.{ltb}
use lib.ListN.{get_or}
use Rattle.field_codes.specs.Codes.{is_squawk}
use Rattle.c_ucp_control.proofs.numbers_fit.Goals as goal

pub returns : goal.returns
returns c =
    ap (λ (a : Bool). ltb (get_or c.args.message.now 5 0) 4 && a)
    (c.is_squawk.ensures ∙ ap is_squawk c.little_16.ensures)
