-- The examples of C's numbers, by computation. Assumes nothing.
use mathlib.Core.Path.{refl}
use Rattle.mavlink_messages.specs.FailureBits.{failure_bits}
use Rattle.mavlink_messages.specs.Failures.{failures_in}
use Rattle.thm_c_examples.specs.Numbers.{NumberExamples}

pub number_examples : NumberExamples
unfolding failure_bits failures_in
number_examples =
    record {
      line_taken = refl;
      line_written = refl;
      hunting = (refl, refl);
      reading = (refl, refl);
      escape = (refl, refl);
      bad_escape = (refl, refl);
      too_long = (refl, refl);
      greater = refl;
      no_answer = (refl, refl, refl);
      delivered = (refl, refl, refl);
      refused = (refl, refl, refl);
      no_measure = refl;
      measure = refl;
      no_failure = refl;
      bit_4 = refl;
      bits_3_and_4 = refl;
    }
