-- Message 44, Message Request version 2 (document 003, section 6.1.2.2). Assumes nothing.
use Rattle.std.specs.Prelude.{true, [], ◌∷◌}
use Rattle.field_format.specs.Format.{Format, octet}
use Rattle.ucp_messages.specs.declared.Request.{Request}

-- offset 0: ID; 1: version; 2: requested message ID
abbrev pub request_format : Format Request
request_format = record {
  head = 44 ∷ 2 ∷ [];
  items =
      octet (λ q. q.requested_id)
      ∷ [];
  value = λ id. record { requested_id = id };
  ranges = λ q. true;
}
