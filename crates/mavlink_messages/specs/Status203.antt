-- Message 203, the status of a transponder (document 001, "Status Message"), 1 octet. Assumes nothing.
use Rattle.std.specs.Prelude.{true, [], ◌∷◌}
use Rattle.field_format.specs.Format.{Format, octet}
use Rattle.mavlink_messages.specs.declared.Status.{Status}

-- offset 0: self-test status
abbrev pub status_format : Format Status
status_format = record {
  head = [];
  items =
      octet (λ s. s.status)
      ∷ [];
  value = λ status. record {
    status = status;
  };
  ranges = λ s. true;
}
