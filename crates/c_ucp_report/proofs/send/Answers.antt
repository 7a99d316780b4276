-- `send` meets its contract: its two halves make up a send. Assumes nothing.
use Rattle.std.proofs.Common.{arith, rules}
use Rattle.ucp_messages.specs.Report10.{report_format}
use Rattle.c_lent.specs.Structs.{held}
use Rattle.output_writing.proofs.Numbers.{as_numbers}
use Rattle.c_lent.proofs.Sends.{struct_sends}
use Rattle.c_ucp_report.specs.Struct.{report_struct}
use Rattle.c_ucp_report.proofs.Held.{body_length}
use Rattle.c_ucp_report.proofs.send.Goals as goal

pub returns : goal.returns
returns c =
    let a = c.args in
    let report = held report_struct a.message.now in
    let size = body_length a.id report in
    as_numbers c.from.ensures (struct_sends (report_format a.id) report a.buffer.now _ 28 _ (search rules) (omega (arith, size)) (omega (arith, size))
    c.write_body-written.ensures c.frame_if_written.ensures)
