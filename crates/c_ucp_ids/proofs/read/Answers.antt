-- `read` meets its contract, by its three ways. Assumes nothing.
use Rattle.c_ucp_ids.proofs.Ids.{no_octet, unknown_id, known_id}
use Rattle.c_ucp_ids.proofs.read.Goals as goal

pub returns-then-body-eq0 : goal.returns-then-body-eq0
returns-then-body-eq0 c = no_octet _ c.if-body-eq0.true

pub returns-then-not-is_known : goal.returns-then-not-is_known
returns-then-not-is_known c =
    unknown_id _ c.if-body-eq0.false c.kind_of.result c.kind_of.ensures c.is_known.ensures
    c.if-not-is_known.true

pub returns : goal.returns
returns c =
    known_id _ c.if-body-eq0.false c.kind_of.result c.kind_of.ensures c.is_known.ensures
    c.if-not-is_known.false
