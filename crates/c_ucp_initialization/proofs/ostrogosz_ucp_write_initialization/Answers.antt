-- `ostrogosz_ucp_write_initialization` meets its contract: the answer is handed on. Assumes nothing.
use Rattle.output_writing.proofs.Numbers.{as_numbers}
use Rattle.c_ucp_initialization.proofs.ostrogosz_ucp_write_initialization.Goals as goal

pub returns : goal.returns
returns c = as_numbers c.written_numbers.ensures c.write_body.ensures
