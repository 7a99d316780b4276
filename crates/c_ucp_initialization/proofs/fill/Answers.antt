-- `c_ucp_initialization::fill` meets its contract: the octets, and then the callsign. Assumes nothing.
use mathlib.Core.Path.{◌∙◌}
use native.Mathlib.Omega.{arith}
use lib.Seq.{sets}
use Rattle.field_words.proofs.Digits.{eight_from}
use Rattle.c_ucp_initialization.proofs.Stored.{before_callsign, body_stored}
use Rattle.c_ucp_initialization.proofs.fill.Goals as goal

pub returns : goal.returns
returns c =
    let body = c.args.body.now in
    let callsign = c.little_64.ensures ∙ eight_from body 8 (omega (arith, c.requires)) in
    c.put_64.ensures ∙ (λ i. sets (before_callsign body) 9 (callsign i)) ∙ body_stored body (λ i. (c.shared_slice_known-1.given i).fits) c.requires
