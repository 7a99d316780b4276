-- `ucp_writer::write_frame` meets its contract: the refusal that is due, or the frame. Assumes nothing.
use mathlib.Core.Path.{refl, sym, ap, ◌∙◌}
use Rattle.std.proofs.lemmas.Result.{err_from_is_err_and}
use Rattle.output_writing.specs.Writing.{wrote}
use Rattle.ucp_writer.proofs.room.Due.{due_refused, due_accepted}
use Rattle.ucp_writer.proofs.write_frame.Goals as goal

pub returns-in_err-admit : goal.returns-in_err-admit
returns-in_err-admit c =
    let a = c.args in
    let p = err_from_is_err_and c.from_residual.result c.from_residual.ensures.1 in
    rw (p.1, p.2) (record { answers = due_refused a.body.now a.output.now _ c.in_err-admit.ensures; leaves = refl })

pub returns : goal.returns
returns c =
    let a = c.args in
    let f = c.fill.ensures in
    let room = c.in_ok-admit.ensures in
    record { answers = ap wrote f.0 ∙ sym (due_accepted a.body.now a.output.now room.0 room.1 room.2); leaves = f.1 }
