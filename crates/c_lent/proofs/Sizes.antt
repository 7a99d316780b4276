-- Octets that are set keep their number: by it the check finds that each place of a body or of a struct that is put octet by octet is in
-- it, as `#[tactic(auto, using(c_lent::proofs::Sizes::sizes))]`. Assumes nothing.
use lib.ListN.{length-set}

pub ruleset sizes = (length-set)
