-- `report_10::fits` meets its contract. Assumes nothing.
use Rattle.std.proofs.Common.{◌≡◌, arith, w16, w32, to_z-of_z}
use mir.Val.{to_z, of_z}
use Rattle.field_format.specs.Format.{fits}
use Rattle.ucp_messages.proofs.report_10.fits.Goals as goal

pub returns : goal.returns
unfolding fits
returns c =
    let r = c.args.report in
    let latitude_is : to_z w32 (of_z w32 r.latitude) ≡ r.latitude = grind (arith, to_z-of_z) in
    let longitude_is : to_z w32 (of_z w32 r.longitude) ≡ r.longitude = grind (arith, to_z-of_z) in
    let rate_is : to_z w16 (of_z w16 r.vertical_rate) ≡ r.vertical_rate = grind (arith, to_z-of_z) in
    rw (c.holds_24-latitude.ensures, c.holds_24-longitude.ensures, c.holds_12-rate.ensures, latitude_is, longitude_is, rate_is)
