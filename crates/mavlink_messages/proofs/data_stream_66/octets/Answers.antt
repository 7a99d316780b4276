-- `mavlink_messages::data_stream_66::octets` meets its contract: each number's octets are its run. Assumes nothing.
use Rattle.std.proofs.Common.{◌≡◌, arith, ◌∙◌, [], ◌∷◌}
use Rattle.field_layout.specs.Layout.{low, run_octets}
use Rattle.field_format.specs.Format.{body_of}
use Rattle.mavlink_messages.proofs.Octets.{low_2}
use Rattle.mavlink_messages.proofs.data_stream_66.octets.Goals as goal

pub returns : goal.returns
unfolding body_of
returns c =
    let v = c.args.data_stream in
    let req_message_rate : c.copy_from_slice.new.self ≡ run_octets (low 2) (v.req_message_rate ∷ []) = c.copy_from_slice.ensures.after ∙ c.to_le_bytes.ensures ∙ low_2 v.req_message_rate (omega arith) in
    rw req_message_rate
