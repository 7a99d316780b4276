-- What the flag that closes a stretch brings (document 01, "The receiver, byte by byte"). Assumes nothing.
use Rattle.std.specs.Prelude.{◌≡◌, ℕ, cond, List, take, ◌==◌, nat_lt}
use Rattle.refusals.specs.Numbers as because
use Rattle.ucp_frame.specs.Stretch.{Verdict, silent, refused, store_octets, at_flag}
use Rattle.ucp_receiver.specs.Answers.{Answer, receiver_answer, answer_for, verdict_of, output_at_flag}

-- a stretch without a fault, by how many octets are stored; over 438 are in no record that a fresh one leads to
abbrev pub closed_stretch : ℕ → List ℕ → ℕ → Verdict
closed_stretch stored store room =
    cond (stored == 0) silent
    (cond (nat_lt store_octets stored) (refused because.too_long)
    (at_flag (take stored store) room))

-- the answer, with the output as at entry and as at return
pub record Closes (answer : Answer) (store output output_then : List ℕ) (due : Verdict) : Type 0 where
  pub means : verdict_of answer store ≡ due
  pub answers : receiver_answer answer ≡ answer_for due
  pub puts : output_then ≡ output_at_flag due output
