-- `text_mavlink_messages::put_status` meets its contract: its template over its numbers is its fields. Assumes nothing.
use mathlib.Core.Path.{sym}
use Rattle.text_fields.specs.Fields.{fields_shown, shown}
use Rattle.text_fields.specs.Templates.{filled}
use Rattle.text_fields.proofs.Taken.{put_as}
use Rattle.mavlink_messages.specs.Failures.{lowest_answer}
use Rattle.text_mavlink_messages.specs.Messages.{status_fields}
use Rattle.text_mavlink_messages.proofs.put_status.Goals as goal

pub returns-in-Some : goal.returns-in-Some
unfolding fields_shown filled
returns-in-Some c =
    let m = c.args.message in
    let f = c.args.failures in
    let e = c.in-Some.is in
    put_as c.put_fields.ensures (λ i. fields_shown (status_fields m (record { count = f.count; lowest = lowest_answer (sym e i) })))

pub returns-in-None : goal.returns-in-None
unfolding fields_shown filled shown
returns-in-None c =
    let m = c.args.message in
    let f = c.args.failures in
    let e = c.in-None.is in
    put_as c.put_fields-in-None.ensures (λ i. fields_shown (status_fields m (record { count = f.count; lowest = lowest_answer (sym e i) })))
