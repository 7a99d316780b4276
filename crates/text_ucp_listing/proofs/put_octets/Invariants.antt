-- `text_ucp_listing::put_octets` meets its contract. The loop's invariant: what is left of the octets, put at the present place of the
-- present text, gives the text with all of them. Assumes nothing.
use lib.ListN.{drop}
use Rattle.text_ucp_listing.specs.Listing.{hex_octets}
use Rattle.text_ucp_listing.proofs.Whole.{Left}
use Rattle.text_ucp_listing.proofs.put_octets.Given as goal

abbrev pub invariant-loop-octet : goal.invariant-loop-octet
invariant-loop-octet l = Left l.initial.text l.initial.at (hex_octets l.body) l.text l.at (hex_octets (drop l.octet-index l.body))
