-- `ostrogosz_ucp_write_ownship` meets its contract: the answer is handed on. Assumes nothing.
use Rattle.output_writing.proofs.Numbers.{as_numbers}
use Rattle.c_ucp_report.proofs.ostrogosz_ucp_write_ownship.Goals as goal

pub returns : goal.returns
returns c = as_numbers c.written_numbers.ensures c.write_body.ensures
