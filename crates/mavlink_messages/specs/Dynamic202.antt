-- Message 202, the dynamic data of an aircraft (document 001, "Dynamic / Ownship Message"), 42 octets. Assumes nothing.
use Rattle.std.specs.Prelude.{[], ◌∷◌}
use Rattle.mavlink_messages.specs.Ranges.{dynamic_fits}
use Rattle.field_format.specs.Format.{unsigned, integer, Format, low, octet}
use Rattle.mavlink_messages.specs.declared.Dynamic.{Dynamic}

-- offset 0: UTC time; 4: latitude, signed; 8: longitude, signed; 12: pressure altitude, signed; 16: GNSS altitude,
-- signed; 20: horizontal accuracy; 24: vertical accuracy; 26: velocity accuracy; 28: vertical speed, signed; 30:
-- velocity north, signed; 32: velocity east, signed; 34: state; 36: squawk; 38: fix; 39: satellites; 40: emergency;
-- 41: control
abbrev pub dynamic_format : Format Dynamic
dynamic_format = record {
  head = [];
  items =
      low 4 unsigned (λ d. d.utc_time)
      ∷ low 4 integer (λ d. d.latitude)
      ∷ low 4 integer (λ d. d.longitude)
      ∷ low 4 integer (λ d. d.alt_pres)
      ∷ low 4 integer (λ d. d.alt_gnss)
      ∷ low 4 unsigned (λ d. d.acc_horiz)
      ∷ low 2 unsigned (λ d. d.acc_vert)
      ∷ low 2 unsigned (λ d. d.acc_vel)
      ∷ low 2 integer (λ d. d.vel_vert)
      ∷ low 2 integer (λ d. d.ns_vog)
      ∷ low 2 integer (λ d. d.ew_vog)
      ∷ low 2 unsigned (λ d. d.state)
      ∷ low 2 unsigned (λ d. d.squawk)
      ∷ octet (λ d. d.fix_type)
      ∷ octet (λ d. d.num_sats)
      ∷ octet (λ d. d.em_status)
      ∷ octet (λ d. d.control)
      ∷ [];
  value = λ utc latitude longitude pressure gnss horizontal vertical velocity climb north east state squawk fix satellites emergency control. record {
    utc_time = utc;
    latitude = latitude;
    longitude = longitude;
    alt_pres = pressure;
    alt_gnss = gnss;
    acc_horiz = horizontal;
    acc_vert = vertical;
    acc_vel = velocity;
    vel_vert = climb;
    ns_vog = north;
    ew_vog = east;
    state = state;
    squawk = squawk;
    fix_type = fix;
    num_sats = satellites;
    em_status = emergency;
    control = control;
  };
  ranges = λ d. dynamic_fits d.squawk d.fix_type;
}
