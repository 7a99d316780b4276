-- The struct's octets, from a body's. Assumes nothing.
use mathlib.Core.Path.{◌≡◌, refl, sym, ap}
use mathlib.Core.List.{List}
use Prim.Native.Nat.{ℕ}
use lib.ListN.{length, replicate}
use Rattle.field_layout.proofs.Elements.{by_elements}
use Rattle.field_format.specs.Format.{value_in}
use Rattle.ucp_messages.specs.Report10.{report_format}
use Rattle.c_lent.specs.Structs.{stored}
use Rattle.c_ucp_report.specs.Struct.{report_struct}
use Rattle.c_ucp_report.specs.Steps.{left_stored, right_stored, others_stored}

-- the three parts behind zeros
pub of_body : (body : List ℕ) → length body ≡ 28
    → others_stored body (right_stored body (left_stored body (replicate 40 0))) ≡ stored report_struct (value_in (report_format 10) body)
unfolding stored value_in
of_body body n = ap (λ (b : List ℕ). stored report_struct (value_in (report_format 10) b)) (sym (by_elements 28 body n))

-- what a body carries has no ID in it
pub same_stored : (id : ℕ) (body : List ℕ) → stored report_struct (value_in (report_format 10) body) ≡ stored report_struct (value_in (report_format id) body)
unfolding value_in
same_stored id body = refl
