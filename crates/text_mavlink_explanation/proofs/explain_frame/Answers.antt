-- `text_mavlink_explanation::explain_frame` meets its contract, by what is read. Assumes nothing.
use mathlib.Core.Path.{refl, sym, ap, ◌∙◌}
use Rattle.mavlink_messages.specs.Messages.{mavlink_answer}
use Rattle.text_mavlink_explanation.proofs.Longest.{explained}
use Rattle.text_mavlink_explanation.proofs.explain_frame.Goals as goal

pub returns-in-Ok : goal.returns-in-Ok
returns-in-Ok c =
    explained _ (sym c.read_message.ensures ∙ ap mavlink_answer c.in-Ok.is) refl
    (rw (c.clear.ensures.0, c.clear.ensures.1) at c.put_frame.ensures)

pub returns-in-Err : goal.returns-in-Err
returns-in-Err c =
    explained _ (sym c.read_message.ensures ∙ ap mavlink_answer c.in-Err.is) refl
    (rw (c.clear.ensures.0, c.clear.ensures.1) at c.put_refused.ensures)
