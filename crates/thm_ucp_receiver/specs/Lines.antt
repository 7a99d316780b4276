-- Every list of octets, each with an output lent to it, is the line of some calls: what is said of lines is said of some. Assumes
-- nothing.
use Rattle.std.specs.Prelude.{◌≡◌, List, map, ℕ}
use Rattle.crc_polynomial.specs.Polynomial.{Octets}
use Rattle.thm_ucp_receiver.specs.Line.{Observed, Line}

-- what a call is given: a line octet, and an output
pub record Handed : Type 0 where
  pub octet : ℕ
  pub output : List ℕ

abbrev pub handed_to : Observed → Handed
handed_to o = record { octet = o.octet; output = o.output }

pub record LineOver (given : List Handed) : Type 0 where
  pub calls : List Observed
  pub line : Line calls
  pub same : map handed_to calls ≡ given

abbrev pub EveryLine : Type 0
EveryLine = (given : List Handed) → Octets (map (λ (h : Handed). h.octet) given) → LineOver given
