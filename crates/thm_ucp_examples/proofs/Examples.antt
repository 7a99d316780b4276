-- The frames, by computation. Assumes nothing.
use mathlib.Core.Path.{refl}
use Rattle.crc_polynomial.specs.Polynomial.{bits_of_octets, bits_of, divided, step, reduced}
use Rattle.crc_gdl90.specs.Check.{frame_check}
use Rattle.ucp_frame.specs.Frame.{escaped, stuffed, frame}
use Rattle.ucp_frame.specs.Stretch.{unstuffed, at_flag, judged, verdict}
use Rattle.ucp_history.specs.History.{cut_at_flags, open_stretch, answer}
use Rattle.ucp_receiver.specs.Octet.{storing, state_after, verdict_due, counts_after}
use Rattle.ucp_receiver.specs.Slice.{slice_run}
use Rattle.crc_gdl90_strength.proofs.Limits.{four_bits_unseen}
use Rattle.crc_gdl90_strength.proofs.Premises.{premises_met}
use Rattle.thm_ucp_examples.specs.Examples.{answers_after, FrameExamples, DataOctetBecomesFlag}

pub examples : FrameExamples
unfolding bits_of_octets bits_of divided step reduced frame_check escaped stuffed frame unstuffed at_flag judged verdict cut_at_flags open_stretch answer answers_after
examples =
    record {
      frame_2c022b = refl;
      frame_2c01 = refl;
      frame_00 = refl;
      frame_7d7e = refl;
      wrong_check = refl;
      bad_escape = refl;
      escape_last = refl;
      too_short = refl;
      no_answer = refl;
      shared_check = four_bits_unseen;
      within_demand_3 = premises_met;
      two_flips = refl;
    }

pub data_octet_becomes_flag : DataOctetBecomesFlag
unfolding bits_of_octets bits_of divided step reduced frame_check escaped stuffed frame unstuffed at_flag judged verdict cut_at_flags open_stretch answer answers_after slice_run state_after verdict_due counts_after storing
data_octet_becomes_flag = record { sent = refl; received = refl; flipped = refl; step = refl }
