-- Every list of octets, each with an output lent to it, is the line of some linked calls by the octet; and every list of octets and
-- slices, in any order, is the line of some by the octet and by the slice: what is said of linked lines is said of some. Assumes nothing.
use Rattle.std.specs.Prelude.{◌≡◌, List, [], ◌∷◌, map, ℕ}
use Rattle.crc_polynomial.specs.Polynomial.{Octets}
use Rattle.thm_ucp_receiver.specs.Lines.{Handed}
use Rattle.thm_c_ucp.specs.Receiver.{LinkedCall, LinkedLine}
use Rattle.thm_c_ucp.specs.Slices.{LinkedTake, by_octet, by_slice, LinkedSliceLine}

-- ---- by the octet
abbrev pub handed_to_linked : LinkedCall → Handed
handed_to_linked c = record { octet = c.octet; output = c.output }

pub record LinkedLineOver (given : List Handed) : Type 0 where
  pub calls : List LinkedCall
  pub line : LinkedLine calls
  pub same : map handed_to_linked calls ≡ given

-- ---- by the octet and by the slice: what a call is given, and an output
pub data HandedTake : Type 0 where
  an_octet : ℕ → List ℕ → HandedTake
  a_slice : List ℕ → List ℕ → HandedTake

abbrev pub handed_take : LinkedTake → HandedTake
handed_take (by_octet c) = an_octet c.octet c.output
handed_take (by_slice s) = a_slice s.octets s.output

abbrev pub AllOctets : List HandedTake → Type 0
AllOctets [] = Unit
AllOctets (an_octet x output ∷ ts) = Octets (x ∷ []) × AllOctets ts
AllOctets (a_slice xs output ∷ ts) = Octets xs × AllOctets ts

pub record LinkedSliceLineOver (given : List HandedTake) : Type 0 where
  pub calls : List LinkedTake
  pub line : LinkedSliceLine calls
  pub same : map handed_take calls ≡ given

pub record EveryLinkedLine : Type 0 where
  pub by_octets : (given : List Handed) → Octets (map (λ (h : Handed). h.octet) given) → LinkedLineOver given
  pub by_slices : (given : List HandedTake) → AllOctets given → LinkedSliceLineOver given
