-- `text_ucp_explanation::explain_next` meets its contract: the line of any answer fits. Assumes nothing.
use Rattle.std.proofs.Common.{◌≡◌, length, arith, rules}
use Rattle.ucp_receiver.specs.Octet.{state_of}
use Rattle.ucp_receiver.specs.Slice.{slice_run}
use Rattle.text_ucp_listing.specs.Listing.{body_room}
use Rattle.text_output.proofs.Clipped.{all_fits}
use Rattle.text_ucp_explanation.proofs.Longest.{line_most}
use Rattle.text_ucp_explanation.proofs.Verdicts.{verdict_answer, verdict_fits}
use Rattle.text_ucp_explanation.proofs.explain_next.Goals as goal

pub returns : goal.returns
returns c =
    let a = c.args in
    let t = c.receive_slice-taken in
    let long : length a.room.now ≡ body_room = search rules in
    let v = (slice_run (state_of a.receiver.rest a.store.now) a.receiver.counts a.line.now body_room).verdict in
    let few = line_most v (verdict_fits t.ensures long t.auto.output) in
    let clips = rw (c.clear.ensures.0, c.clear.ensures.1, verdict_answer t.ensures long) at c.put_answer.ensures in
    let ends = all_fits clips (omega (arith, few)) in
    record { long = long; takes = t.ensures; puts = record { ends = ends; leaves = clips.leaves }; within = omega (arith, few, ends) }
