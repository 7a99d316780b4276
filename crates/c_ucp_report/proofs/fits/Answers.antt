-- `c_ucp_report::fits` meets its contract, test by test. Assumes nothing.
use mathlib.Core.Path.{sym, ◌∙◌, ap}
use mathlib.Core.Bool.{◌&&◌}
use Prim.Native.Nat.{ℕ}
use lib.Dec.{ltb}
use lib.ListN.{get_or}
use Rattle.field_signed.specs.Signed.{signed, holds}
use Rattle.c_ucp_report.proofs.Held.{in_range, small}
use Rattle.c_ucp_report.proofs.fits.Goals as goal

pub returns : goal.returns
returns c =
    let m = c.args.message.now in
    let latitude = c.in_24-latitude.ensures ∙ ap (λ (n : ℕ). holds 8388608 (signed 2147483648 n)) c.little_32.ensures in
    let longitude = c.in_24-longitude.ensures ∙ ap (λ (n : ℕ). holds 8388608 (signed 2147483648 n)) c.little_32-2.ensures in
    let rate = c.in_12-rate.ensures ∙ ap (λ (n : ℕ). holds 2048 (signed 32768 n)) c.little_16.ensures in
    let is = (λ i. ltb (get_or m 0 0) 16
    && ltb (get_or m 1 0) 16
    && ltb (c.little_32-3.ensures i) 16777216
    && latitude i
    && longitude i
    && ltb (c.little_16-2.ensures i) 4096
    && ltb (get_or m 18 0) 16
    && ltb (get_or m 19 0) 16
    && ltb (get_or m 20 0) 16
    && ltb (c.little_16-3.ensures i) 4096
    && rate i
    && ltb (get_or m 36 0) 16
    && ltb (get_or m 37 0) 16)
    ∙ in_range m c.requires
    in
    (is, λ t. small m c.requires (λ i. (c.shared_slice_known-1.given i).fits) (sym is ∙ t))
