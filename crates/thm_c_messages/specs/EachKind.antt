-- What holds of the calls for C of every kind of the UCP line: the kinds, each by its ID, its format and its struct. Assumes nothing.
use Rattle.std.specs.Prelude.{ℕ}
use Rattle.field_format.specs.Format.{Format}
use Rattle.ucp_messages.specs.declared.Kind.{Kind}
use Rattle.ucp_messages.specs.declared.Kind.TheVariants.{Heartbeat, Ownship, GeometricAltitude, Traffic, Request, Control, Initialization}
use Rattle.ucp_messages.specs.Heartbeat0.{heartbeat_format}
use Rattle.ucp_messages.specs.Report10.{report_format}
use Rattle.ucp_messages.specs.GeometricAltitude11.{geometric_format}
use Rattle.ucp_messages.specs.Request44.{request_format}
use Rattle.ucp_messages.specs.Control45.{control_format}
use Rattle.ucp_messages.specs.Initialization117.{initialization_format}
use Rattle.c_lent.specs.Structs.{Struct}
use Rattle.c_ucp_heartbeat.specs.Struct.{heartbeat_struct}
use Rattle.c_ucp_report.specs.Struct.{report_struct}
use Rattle.c_ucp_geometric_altitude.specs.Struct.{geometric_struct}
use Rattle.c_ucp_request.specs.Struct.{request_struct}
use Rattle.c_ucp_control.specs.Struct.{control_struct}
use Rattle.c_ucp_initialization.specs.Struct.{initialization_struct}

-- `Of` of each kind that has a struct, and `OfUplink` of the uplink, whose payload is lent
pub record OfEachKind (Of : (A : Type 0) → ℕ → Kind → Format A → Struct A → Type 0) (OfUplink : Type 0) : Type 0 where
  pub heartbeat : Of _ 0 Heartbeat heartbeat_format heartbeat_struct
  pub uplink : OfUplink
  pub ownship : Of _ 10 Ownship (report_format 10) report_struct
  pub geometric_altitude : Of _ 11 GeometricAltitude geometric_format geometric_struct
  pub traffic : Of _ 20 Traffic (report_format 20) report_struct
  pub request : Of _ 44 Request request_format request_struct
  pub control : Of _ 45 Control control_format control_struct
  pub initialization : Of _ 117 Initialization initialization_format initialization_struct
