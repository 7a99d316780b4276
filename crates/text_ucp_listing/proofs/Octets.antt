-- Octets in hexadecimal, one after the other. Assumes nothing.
use mathlib.Core.Path.{◌≡◌}
use mathlib.Core.List.{List, [], ◌++◌}
use Prim.Native.Nat.{ℕ, ◌+◌, ◌<◌, ◌≤◌}
use lib.ListN.{length, get_or, drop, drop_of_length-le}
use Rattle.text_output.specs.Text.{printed}
use Rattle.text_output.proofs.Printed.{drop_next}
use Rattle.text_ucp_listing.specs.Listing.{hex_octet, hex_octets}

-- the octet at i, and then the others
pub octet_next : (body : List ℕ) (i : ℕ) → i < length body → hex_octets (drop i body) ≡ hex_octet (get_or body i 0) ++ hex_octets (drop (i + 1) body)
unfolding printed
octet_next body i h = rw (drop_next body i)

pub no_octet : (body : List ℕ) (i : ℕ) → length body ≤ i → hex_octets (drop i body) ≡ []
unfolding printed
no_octet body i h = rw (drop_of_length-le body h)
