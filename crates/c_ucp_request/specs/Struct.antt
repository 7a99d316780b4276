-- Message 44 as the octets of its C struct. Assumes nothing.
use Rattle.std.specs.Prelude.{[], ◌∷◌}
use Rattle.ucp_messages.specs.declared.Request.{Request}
use Rattle.ucp_messages.specs.Request44.{request_format}
use Rattle.c_lent.specs.Structs.{Struct, struct_octet}

-- offset 0: requested message ID
abbrev pub request_struct : Struct Request
request_struct = record {
  members =
      struct_octet (λ q. q.requested_id)
      ∷ [];
  value = request_format.value;
}
