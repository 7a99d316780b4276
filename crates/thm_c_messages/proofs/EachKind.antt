-- Each kind's format and its struct are of the same values, so both round trips and the delivery hold of its calls. Assumes nothing.
use mathlib.Core.Path.{◌≡◌, refl, sym, ap, ◌∙◌, subst}
use mathlib.Core.Bool.{Bool, true}
use mathlib.Core.List.{List, [], ◌∷◌}
use Prim.Native.Nat.{ℕ, ◌^◌, ◌≤◌, ◌<◌}
use native.Mathlib.Omega.{arith}
use borrow.Author.Tests.{ltb-true, lt-ltb, eqb-true, eq-eqb}
use lib.Dec.{eqb, ltb}
use lib.IntN.{ℤ}
use lib.ListN.{length, get_or, drop, length-drop}
use lib.Signed.{mag}
use Rattle.field_signed.specs.Signed.{holds}
use Rattle.field_format.specs.Format.{Format, Column, half, tested, Row, row_tested, columns, row_of}
use Rattle.field_format.proofs.Columns.{row_before}
use Rattle.ucp_answers.specs.Refusals.{refusal_by}
use Rattle.ucp_answers.proofs.RoundTrips.{none_due}
use Rattle.ucp_messages.specs.Heartbeat0.{heartbeat_format}
use Rattle.ucp_messages.specs.Uplink7.{uplink_fits, uplink_body, uplink_refusal}
use Rattle.ucp_messages.specs.Report10.{report_format}
use Rattle.ucp_messages.specs.GeometricAltitude11.{geometric_format}
use Rattle.ucp_messages.specs.Request44.{request_format}
use Rattle.ucp_messages.specs.Control45.{control_format}
use Rattle.ucp_messages.specs.Initialization117.{initialization_format}
use Rattle.ucp_messages.specs.declared.Kind.{Kind}
use Rattle.ucp_messages.specs.declared.Kind.TheVariants as kind
use Rattle.ucp_messages.specs.declared.Message.{Message}
use Rattle.ucp_messages.specs.declared.Message.TheVariants.{Heartbeat, Ownship, GeometricAltitude, Traffic, Request, Control, Initialization}
use Rattle.ucp_messages.proofs.Formats.{heartbeat_right, report_right, geometric_right, request_right, control_right, initialization_right, LawfulFormat, heartbeat_lawful, ownship_lawful, geometric_lawful, traffic_lawful, request_lawful, control_lawful, initialization_lawful}
use Rattle.c_lent.specs.Structs.{Struct}
use Rattle.c_ucp_heartbeat.specs.Struct.{heartbeat_struct}
use Rattle.c_ucp_heartbeat.proofs.Agree.{heartbeat_struct_right}
use Rattle.c_ucp_report.specs.Struct.{report_struct}
use Rattle.c_ucp_report.proofs.Agree.{report_struct_right}
use Rattle.c_ucp_geometric_altitude.specs.Struct.{geometric_struct}
use Rattle.c_ucp_geometric_altitude.proofs.Agree.{geometric_struct_right}
use Rattle.c_ucp_request.specs.Struct.{request_struct}
use Rattle.c_ucp_request.proofs.Agree.{request_struct_right}
use Rattle.c_ucp_control.specs.Struct.{control_struct}
use Rattle.c_ucp_control.proofs.Agree.{control_struct_right}
use Rattle.c_ucp_initialization.specs.Struct.{initialization_struct}
use Rattle.c_ucp_initialization.proofs.Agree.{initialization_struct_right}
use Rattle.c_ucp_uplink.specs.Uplink.{ReadsUplink}
use Rattle.thm_c_ucp.specs.Delivery.{DeliversLinked}
use Rattle.thm_c_ucp.proofs.Delivery.{frame_delivered_linked}
use Rattle.thm_c_messages.specs.EachKind.{OfEachKind}
use Rattle.thm_c_messages.specs.RoundTrips.{StructRoundTrips, UplinkRoundTrips, LentRoundTrips}
use Rattle.thm_c_messages.specs.Refusals.{StructRefuses, UplinkRefuses, LentRefusals}
use Rattle.thm_c_messages.proofs.Refusals.{struct_refuses, uplink_refuses}
use Rattle.thm_c_messages.specs.Delivery.{Delivering, DeliversOnLine, StructSentIsDelivered, UplinkSentIsDelivered, LentSentIsDelivered}
use Rattle.thm_c_messages.proofs.Accepted.{accepted, writes, sent, fills, of_kind, kind_of}
use Rattle.thm_c_messages.proofs.Delivery.{DeliversFrames, frame_delivered}
use Rattle.thm_c_messages.proofs.Structs.{SameValues, struct_round_trips, struct_sent_is_delivered}

-- ---- what a writer tested, one by one
abbrev RowTests : (cs : List Column) → Row cs → Type 0
RowTests [] r = Unit {0}
RowTests (c ∷ cs) r = (tested true c r.first ≡ true) × RowTests cs r.rest

row_tests : (b : Bool) (cs : List Column) (r : Row cs) → row_tested b cs r ≡ true → RowTests cs r
row_tests b [] r h = tt
row_tests b (c ∷ cs) r h = (
  subst (λ (x : Bool). tested x c r.first ≡ true) (row_before b (c ∷ cs) r h) (row_before (tested b c r.first) cs r.rest h),
  row_tests (tested b c r.first) cs r.rest h,
)

-- what has room in fewer bits has room in more
wider : {n few many : ℕ} → ltb n few ≡ true → few ≤ many → n < many
wider {n} {few} {many} h k = omega (arith, ltb-true n few h)

wider_signed : (z : ℤ) (few many : ℕ) → holds few z ≡ true → few ≤ many → holds many z ≡ true
unfolding holds
wider_signed z few many h k = lt-ltb (mag z) many (omega (arith, ltb-true (mag z) few h))

-- ---- the kinds
heartbeat_same : SameValues heartbeat_format heartbeat_struct
heartbeat_same = record {
  format = heartbeat_right;
  struct = heartbeat_struct_right;
  some_id = omega arith;
  again = λ r. refl;
  typed = λ a t. t.0;
  roomy = λ a t h. (t, refl);
}

geometric_same : SameValues geometric_format geometric_struct
geometric_same = record {
  format = geometric_right;
  struct = geometric_struct_right;
  some_id = omega arith;
  again = λ r. refl;
  typed = λ a t. t.0;
  roomy = λ a t h. (t, refl);
}

request_same : SameValues request_format request_struct
request_same = record {
  format = request_right;
  struct = request_struct_right;
  some_id = omega arith;
  again = λ r. refl;
  typed = λ a t. t.0;
  roomy = λ a t h. (t, refl);
}

control_same : SameValues control_format control_struct
control_same = record {
  format = control_right;
  struct = control_struct_right;
  some_id = omega arith;
  again = λ r. refl;
  typed = λ a t. (tt, (tt, (tt, (tt, (tt, (tt, t.0.1.1.1.1.1.1))))));
  roomy = λ a t h.
      let g = row_tests true (columns control_format.items) (row_of control_format.items a) h in
      ((tt, (tt, (tt, (tt, (tt, (wider g.1.1.1.1.1.0 (omega arith), t.1.1.1.1.1.1)))))), refl);
}

initialization_same : SameValues initialization_format initialization_struct
initialization_same = record {
  format = initialization_right;
  struct = initialization_struct_right;
  some_id = omega arith;
  again = λ r. refl;
  typed = λ a t.
      let u = t.0.1.1 in
      (t.0.0, (tt, (u.0, (u.1.0, (u.1.1.0, (u.1.1.1.0, (tt, (tt, tt))))))));
  roomy = λ a t h.
      let g = row_tests true (columns initialization_format.items) (row_of initialization_format.items a) h in
      let u = t.1.1 in
      let v = g.1.1.1.1.1.1 in (
        (
          t.0,
          (
            wider g.1.0 (omega arith),
            (
              u.0,
              (
                u.1.0,
                (
                  u.1.1.0,
                  (
                    u.1.1.1.0,
                    (wider v.0 (omega arith), (wider v.1.0 (omega arith), tt)),
                  ),
                ),
              ),
            ),
          ),
        ),
        refl,
      );
}

report_same : (id : ℕ) → SameValues (report_format id) report_struct
report_same id = record {
  format = report_right id;
  struct = report_struct_right;
  some_id = omega arith;
  again = λ r. refl;
  typed = λ a t.
      let u = t.0.1.1.1.1.1.1.1.1.1.1.1 in
      (tt, (tt, (tt, (tt, (tt, (tt, (tt, (tt, (tt, (tt, (tt, (u.0, (u.1.0, (u.1.1.0, (tt, (tt, tt))))))))))))))));
  roomy = λ a t h.
      let g = row_tests true (columns (report_format id).items) (row_of (report_format id).items a) h in
      let k = g.1.1.1.1.1.1.1.1 in
      let u = t.1.1.1.1.1.1.1.1.1.1.1 in
      let v = g.1.1.1.1.1.1.1.1.1.1.1.1.1.1 in (
        (
          wider g.0 (omega arith),
          (
            wider g.1.0 (omega arith),
            (
              wider g.1.1.0 (omega arith),
              (
                wider_signed a.latitude (half 24) (half 32) g.1.1.1.0 (omega arith),
                (
                  wider_signed a.longitude (half 24) (half 32) g.1.1.1.1.0 (omega arith),
                  (
                    wider g.1.1.1.1.1.0 (omega arith),
                    (
                      wider g.1.1.1.1.1.1.0 (omega arith),
                      (
                        wider g.1.1.1.1.1.1.1.0 (omega arith),
                        (
                          wider k.0 (omega arith),
                          (
                            wider k.1.0 (omega arith),
                            (
                              wider_signed a.vertical_rate (half 12) (half 16) k.1.1.0 (omega arith),
                              (
                                u.0,
                                (
                                  u.1.0,
                                  (
                                    u.1.1.0,
                                    (wider v.0 (omega arith), (wider v.1.0 (omega arith), tt)),
                                  ),
                                ),
                              ),
                            ),
                          ),
                        ),
                      ),
                    ),
                  ),
                ),
              ),
            ),
          ),
        ),
        refl,
      );
}

-- ---- every kind
of_each : (Of : (A : Type 0) → ℕ → Kind → Format A → Struct A → Type 0) (OfUplink : Type 0)
    → ((A : Type 0) (k : Kind) (f : Format A) (s : Struct A) (message : A → Message) → LawfulFormat k f message → SameValues f s → Of A (get_or f.head 0 0) k f s)
    → OfUplink → OfEachKind Of OfUplink
of_each Of OfUplink by lent = record {
  heartbeat = by _ kind.Heartbeat heartbeat_format heartbeat_struct Heartbeat heartbeat_lawful heartbeat_same;
  uplink = lent;
  ownship = by _ kind.Ownship (report_format 10) report_struct Ownship ownship_lawful (report_same 10);
  geometric_altitude = by _ kind.GeometricAltitude geometric_format geometric_struct GeometricAltitude geometric_lawful geometric_same;
  traffic = by _ kind.Traffic (report_format 20) report_struct Traffic traffic_lawful (report_same 20);
  request = by _ kind.Request request_format request_struct Request request_lawful request_same;
  control = by _ kind.Control control_format control_struct Control control_lawful control_same;
  initialization = by _ kind.Initialization initialization_format initialization_struct Initialization initialization_lawful initialization_same;
}

-- ---- the uplink
payload_back : (body : List ℕ) → get_or body 0 0 ≡ 7 → length body ≡ 436 → uplink_body (drop 1 body) ≡ body
payload_back [] e n = absurd (omega arith)
payload_back (x ∷ xs) e n = ap (λ (y : ℕ). y ∷ xs) (sym e)

uplink_reads_back : (payload before left : List ℕ) (r : ℕ) → uplink_fits payload ≡ true → ReadsUplink (uplink_body payload) before r left
    → (r ≡ 0) × (left ≡ payload)
unfolding uplink_fits refusal_by
uplink_reads_back payload before left r fit reading =
    let n = eqb-true (length payload) 435 fit in
    fills reading (of_kind 7 (uplink_body payload) (uplink_refusal (uplink_body payload)) (omega arith) refl (rw n))

uplink_round_trips : UplinkRoundTrips
unfolding uplink_fits
uplink_round_trips = (
  λ payload output after before left w r call none reading.
      let l = accepted call none in
      uplink_reads_back payload before left r l.fit (rw l.whole at reading),
  λ body before payload output after w reading enough call.
      let k = kind_of 7 body (uplink_refusal body) reading.answers in
      let n = eqb-true (length body) 436 (none_due (eqb (length body) 436) true true k.1).0 in
      let same = (fills reading (sym reading.answers)).1 in
      writes body (ap uplink_fits same ∙ eq-eqb (length (drop 1 body)) 435 (length-drop 1 body ∙ omega arith))
      (ap uplink_body same ∙ payload_back body k.0 n) enough call,
)

pub lent_round_trips : LentRoundTrips
lent_round_trips = of_each (λ A id k f s. StructRoundTrips f s) UplinkRoundTrips (λ A k f s g l same. struct_round_trips f s same) uplink_round_trips

pub lent_refusals : LentRefusals
lent_refusals = of_each (λ A id k f s. StructRefuses id k f s) UplinkRefuses (λ A k f s g l same. struct_refuses f s l) uplink_refuses

-- on either line, where that delivers every frame
module _ (Delivers : Delivering) (delivers : DeliversFrames Delivers) where
  uplink_sent_is_delivered : UplinkSentIsDelivered Delivers
  uplink_sent_is_delivered payload buffer after w call none =
      let body : List ℕ = uplink_body payload in
      let e = sent (uplink_fits payload) body buffer call none in
      subst (λ (octets : List ℕ). Delivers octets body (λ (b : List ℕ). (lent left : List ℕ) (r : ℕ) → ReadsUplink b lent r left → (r ≡ 0) × (left ≡ payload)))
      e.whole
      (delivers body (λ (b : List ℕ). (lent left : List ℕ) (r : ℕ) → ReadsUplink b lent r left → (r ≡ 0) × (left ≡ payload)) e.long
      (λ lent left r reading. uplink_reads_back payload lent left r e.fit reading))

  each_sent_is_delivered : LentSentIsDelivered Delivers
  each_sent_is_delivered =
      of_each (λ A id k f s. StructSentIsDelivered Delivers f s) (UplinkSentIsDelivered Delivers)
      (λ A k f s g l same. struct_sent_is_delivered f s same Delivers delivers) uplink_sent_is_delivered

pub lent_sent_is_delivered : LentSentIsDelivered DeliversOnLine
lent_sent_is_delivered = each_sent_is_delivered DeliversOnLine frame_delivered

pub linked_sent_is_delivered : LentSentIsDelivered DeliversLinked
linked_sent_is_delivered = each_sent_is_delivered DeliversLinked frame_delivered_linked
