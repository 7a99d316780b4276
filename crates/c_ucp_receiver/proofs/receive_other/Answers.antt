-- `c_ucp_receiver::receive_other` meets its contract: three counts are as they were. Assumes nothing.
use Rattle.c_ucp_receiver.proofs.Bounds.{kept_counts}
use Rattle.c_ucp_receiver.proofs.receive_other.Goals as goal

pub put_open_line-requires : goal.put_open_line-requires
put_open_line-requires c =
    let e = c.received_by-received.ensures in
    let kept = kept_counts _ _ _ _ _ c.requires e.received.account in
    (e.stored, kept.0, kept.1, kept.2)
