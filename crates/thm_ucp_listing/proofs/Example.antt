-- The examples, by computation. Assumes nothing.
use mathlib.Core.Path.{refl}
use Rattle.crc_polynomial.specs.Polynomial.{bits_of_octets, bits_of, divided, step, reduced}
use Rattle.crc_gdl90.specs.Check.{frame_check}
use Rattle.ucp_frame.specs.Stretch.{unstuffed, at_flag, judged, verdict}
use Rattle.ucp_history.specs.History.{cut_at_flags, open_stretch, answer, over_closed}
use Rattle.text_output.specs.Text.{hex_digit, printed, numeral}
use Rattle.text_ucp_listing.specs.Listing.{ok_line, no_line, counted, closing_line}
use Rattle.thm_ucp_listing.specs.Input.{answer_lines}
use Rattle.thm_ucp_listing.specs.Example.{ListingExamples}

pub listing_examples : ListingExamples
unfolding bits_of_octets bits_of divided step reduced frame_check unstuffed at_flag judged verdict cut_at_flags open_stretch answer over_closed hex_digit printed numeral ok_line no_line counted closing_line answer_lines
listing_examples = record { example = refl; empty = refl }
