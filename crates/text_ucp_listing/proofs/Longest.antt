-- How long a line can be. Assumes nothing.
use mathlib.Core.List.{List}
use Prim.Native.Nat.{ℕ, ◌+◌, ◌^◌, ◌<◌, ◌≤◌}
use native.Mathlib.Omega.{arith}
use lib.ListN.{length, length-append}
use Rattle.ucp_receiver.specs.declared.Counts.{Counts}
use Rattle.text_ucp_listing.specs.Listing.{ok_line, no_line, body_room, longest_line, counted, closing_line, longest_closing, bytes_received, bytes_word, flags_word, delivered_word, refused_word, skipped_word, open_word}
use Rattle.text_ucp_listing.proofs.Decimal.{decimal_length}
use Rattle.text_output.proofs.Printed.{hex_length}

pub ok_most : (body : List ℕ) → length body ≤ body_room → length (ok_line body) ≤ longest_line
unfolding ok_line
ok_most body h = simp length-append (omega (arith, decimal_length 2 (length body) (omega arith), hex_length body))

pub no_most : (number : ℕ) → number < 256 → length (no_line number) ≤ longest_line
unfolding no_line
no_most number h = simp length-append (omega (arith, decimal_length 2 number (omega arith)))

counted_most : (word : List ℕ) (n : ℕ) → n < 2 ^ 32 → length (counted word n) ≤ length word + 10
unfolding counted
counted_most word n h = simp length-append (omega (arith, decimal_length 9 n (omega arith)))

pub closing_most : (c : Counts) → c.flags < 2 ^ 32 → c.delivered < 2 ^ 32 → c.refused < 2 ^ 32 → c.skipped < 2 ^ 32 → c.unclosed < 2 ^ 32
    → length (closing_line c) ≤ longest_closing
unfolding closing_line
closing_most c f d r s u =
    simp length-append
    (omega (
      arith,
      counted_most bytes_word (bytes_received c) (omega arith),
      counted_most flags_word _ f,
      counted_most delivered_word _ d,
      counted_most refused_word _ r,
      counted_most skipped_word _ s,
      counted_most open_word _ u,
    ))
