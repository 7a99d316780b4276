-- `mavlink_messages::read_message` meets its contract: a frame that is found ends within the input, and its payload is of its kind.
-- Assumes nothing.
use Rattle.std.proofs.Common.{sym, ap, ◌∙◌, arith}
use Rattle.mavlink_frame.specs.Reader.{found_answer}
use Rattle.mavlink_messages.proofs.Answers.{payload-ends, payload-of-its-kind, payload-read}
use Rattle.mavlink_messages.proofs.read_message.Goals as goal

pub overflow_sub-end : goal.overflow_sub-end
overflow_sub-end c = omega (arith, payload-ends c.args.input.now _ _ _ (sym c.read_frame.ensures ∙ ap found_answer c.in_ok-found.was))

pub slice_bounds-read_payload-count : goal.slice_bounds-read_payload-count
slice_bounds-read_payload-count c = omega (arith, payload-ends c.args.input.now _ _ _ (sym c.read_frame.ensures ∙ ap found_answer c.in_ok-found.was))

pub slice_bounds-read_payload-start : goal.slice_bounds-read_payload-start
slice_bounds-read_payload-start c = omega (arith, payload-ends c.args.input.now _ _ _ (sym c.read_frame.ensures ∙ ap found_answer c.in_ok-found.was))

pub slice_bounds-read_payload-end : goal.slice_bounds-read_payload-end
slice_bounds-read_payload-end c = omega (arith, payload-ends c.args.input.now _ _ _ (sym c.read_frame.ensures ∙ ap found_answer c.in_ok-found.was))

pub read_payload-requires : goal.read_payload-requires
read_payload-requires c = payload-of-its-kind c.args.input.now _ _ _ (sym c.read_frame.ensures ∙ ap found_answer c.in_ok-found.was)

pub returns : goal.returns
returns c = c.read_payload.ensures ∙ payload-read c.args.input.now _ _ _ (sym c.read_frame.ensures ∙ ap found_answer c.in_ok-found.was)
