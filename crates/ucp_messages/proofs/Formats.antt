-- The formats of the kinds are right, and agree with the kinds' rows. A kind more has a line in each list here; every other law about all
-- kinds goes over `lawful` or `made_of`. Assumes nothing.
use mathlib.Core.Path.{◌≡◌, refl, sym, ap, ◌∙◌}
use mathlib.Core.List.{List, [], ◌∷◌}
use Prim.Native.Nat.{ℕ, ◌<◌, ◌≤◌}
use native.Mathlib.Omega.{arith}
use lib.ListN.{length, get_or, drop}
use Rattle.field_format.specs.Format.{Format, Right, HasId, offsets, body_size, fits, body_of, value_in}
use Rattle.std.specs.Prelude.{Result, Ok, Err}
use Rattle.ucp_answers.specs.Refusals.{unless_refused, refusal_of, reads}
use Rattle.ucp_answers.proofs.Answers.{in-terms-of}
use Rattle.ucp_answers.proofs.Readers.{in_other_terms}
use Rattle.ucp_messages.specs.Heartbeat0.{heartbeat_format}
use Rattle.ucp_messages.specs.Uplink7.{uplink_refusal}
use Rattle.ucp_messages.specs.Report10.{report_format}
use Rattle.ucp_messages.specs.GeometricAltitude11.{geometric_format}
use Rattle.ucp_messages.specs.Request44.{request_format}
use Rattle.ucp_messages.specs.Control45.{control_format}
use Rattle.ucp_messages.specs.Initialization117.{initialization_format}
use Rattle.ucp_messages.specs.declared.Kind.{Kind}
use Rattle.ucp_messages.specs.declared.Kind.TheVariants as kind
use Rattle.ucp_messages.specs.declared.Message.{Message}
use Rattle.ucp_messages.specs.declared.Message.TheVariants.{Heartbeat, Uplink, Ownship, GeometricAltitude, Traffic, Request, Control, Initialization}
use Rattle.ucp_messages.specs.Kinds.{its, kind_row, Carried, value, carried_by, kind_length, fixed_octets, kind_of, kind_in}
use Rattle.ucp_messages.specs.Messages.{ReaderAnswer, refused, means, refusal_in, answer_as, message_due, carried_fits, carried_body, message_fits, message_body}
use Rattle.ucp_messages.specs.Refusals.{fields_in_range}

pub heartbeat_right : Right heartbeat_format
heartbeat_right = record { whole = omega arith; sound = omega arith; back = λ h. refl; again = λ r. refl }

pub report_right : (id : ℕ) → Right (report_format id)
report_right id = record { whole = omega arith; sound = omega arith; back = λ r. refl; again = λ r. refl }

pub geometric_right : Right geometric_format
geometric_right = record { whole = omega arith; sound = omega arith; back = λ g. refl; again = λ r. refl }

-- the document's offsets, behind the ID
report_offsets : (id : ℕ) → offsets (report_format id) ≡ 1 ∷ 2 ∷ 5 ∷ 8 ∷ 11 ∷ 13 ∷ 14 ∷ 18 ∷ 19 ∷ 27 ∷ []
report_offsets id = refl

pub request_right : Right request_format
request_right = record { whole = omega arith; sound = omega arith; back = λ q. refl; again = λ r. refl }

pub control_right : Right control_format
control_right = record { whole = omega arith; sound = omega arith; back = λ c. refl; again = λ r. refl }

pub initialization_right : Right initialization_format
initialization_right = record { whole = omega arith; sound = omega arith; back = λ n. refl; again = λ r. refl }

-- the documents' offsets, behind the ID and what is fixed
control_offsets : offsets control_format ≡ 2 ∷ 3 ∷ 7 ∷ 9 ∷ 10 ∷ []
control_offsets = refl

initialization_offsets : offsets initialization_format ≡ 3 ∷ 4 ∷ 7 ∷ 8 ∷ 16 ∷ 17 ∷ 18 ∷ []
initialization_offsets = refl

-- ---- a kind that has a format
pub record LawfulFormat {A : Type 0} (k : Kind) (f : Format A) (message : A → Message) : Type 1 where
  pub right : Right f
  -- its row: the ID, which is no other kind's, the length, the fixed octets and the ranges
  pub id_is : (kind_row k).id ≡ its (get_or f.head 0 0)
  pub first : kind_of (get_or f.head 0 0) ≡ k
  pub size_is : body_size f ≡ kind_length k
  pub fixed_is : drop 1 f.head ≡ fixed_octets k
  pub ranges_are : (body : List ℕ) → f.ranges (value_in f body) ≡ fields_in_range k body
  -- its bodies start with the ID, may be sent, and are read and written by the format
  pub some : 1 ≤ body_size f
  pub has_id : (body : List ℕ) → get_or body 0 0 ≡ get_or f.head 0 0 → HasId f.head body
  pub body_kind : (a : A) → kind_in (body_of f a) ≡ k
  pub sized : (a : A) → (1 ≤ length (body_of f a)) × (length (body_of f a) ≤ 436)
  pub refusal_is : (body : List ℕ) → refusal_in k body ≡ refusal_of f body
  pub answer_is : (body : List ℕ) → answer_as k body ≡ reads f refused (λ a. means (message a)) body
  pub carried : (a : A) → carried_by (message a) ≡ value f a

module _ {A : Type 0} {k : Kind} {f : Format A} {message : A → Message} (l : LawfulFormat k f message) (a : A) (octets : List ℕ) where
  pub fits_as : message_fits (message a) octets ≡ fits f a
  unfolding message_fits
  fits_as = ap (λ (c : Carried). carried_fits c octets) (l.carried a)

  pub body_as : message_body (message a) octets ≡ body_of f a
  unfolding message_body
  body_as = ap (λ (c : Carried). carried_body c octets) (l.carried a)

pub heartbeat_lawful : LawfulFormat kind.Heartbeat heartbeat_format Heartbeat
unfolding kind_of refusal_in answer_as body_of
heartbeat_lawful = record {
  right = heartbeat_right;
  id_is = refl;
  first = refl;
  size_is = refl;
  fixed_is = refl;
  ranges_are = λ b. refl;
  some = omega arith;
  has_id = λ b e. e;
  body_kind = λ a. refl;
  sized = λ a. (omega arith, omega arith);
  refusal_is = λ b. refl;
  answer_is = λ b. refl;
  carried = λ a. refl;
}

pub ownship_lawful : LawfulFormat kind.Ownship (report_format 10) Ownship
unfolding kind_of refusal_in answer_as body_of
ownship_lawful = record {
  right = report_right 10;
  id_is = refl;
  first = refl;
  size_is = refl;
  fixed_is = refl;
  ranges_are = λ b. refl;
  some = omega arith;
  has_id = λ b e. e;
  body_kind = λ a. refl;
  sized = λ a. (omega arith, omega arith);
  refusal_is = λ b. refl;
  answer_is = λ b. refl;
  carried = λ a. refl;
}

pub geometric_lawful : LawfulFormat kind.GeometricAltitude geometric_format GeometricAltitude
unfolding kind_of refusal_in answer_as body_of
geometric_lawful = record {
  right = geometric_right;
  id_is = refl;
  first = refl;
  size_is = refl;
  fixed_is = refl;
  ranges_are = λ b. refl;
  some = omega arith;
  has_id = λ b e. e;
  body_kind = λ a. refl;
  sized = λ a. (omega arith, omega arith);
  refusal_is = λ b. refl;
  answer_is = λ b. refl;
  carried = λ a. refl;
}

pub traffic_lawful : LawfulFormat kind.Traffic (report_format 20) Traffic
unfolding kind_of refusal_in answer_as body_of
traffic_lawful = record {
  right = report_right 20;
  id_is = refl;
  first = refl;
  size_is = refl;
  fixed_is = refl;
  ranges_are = λ b. refl;
  some = omega arith;
  has_id = λ b e. e;
  body_kind = λ a. refl;
  sized = λ a. (omega arith, omega arith);
  refusal_is = λ b. refl;
  answer_is = λ b. refl;
  carried = λ a. refl;
}

pub request_lawful : LawfulFormat kind.Request request_format Request
unfolding kind_of refusal_in answer_as body_of
request_lawful = record {
  right = request_right;
  id_is = refl;
  first = refl;
  size_is = refl;
  fixed_is = refl;
  ranges_are = λ b. refl;
  some = omega arith;
  has_id = λ b e. e;
  body_kind = λ a. refl;
  sized = λ a. (omega arith, omega arith);
  refusal_is = λ b. refl;
  answer_is = λ b. refl;
  carried = λ a. refl;
}

pub control_lawful : LawfulFormat kind.Control control_format Control
unfolding kind_of refusal_in answer_as body_of
control_lawful = record {
  right = control_right;
  id_is = refl;
  first = refl;
  size_is = refl;
  fixed_is = refl;
  ranges_are = λ b. refl;
  some = omega arith;
  has_id = λ b e. e;
  body_kind = λ a. refl;
  sized = λ a. (omega arith, omega arith);
  refusal_is = λ b. refl;
  answer_is = λ b. refl;
  carried = λ a. refl;
}

pub initialization_lawful : LawfulFormat kind.Initialization initialization_format Initialization
unfolding kind_of refusal_in answer_as body_of
initialization_lawful = record {
  right = initialization_right;
  id_is = refl;
  first = refl;
  size_is = refl;
  fixed_is = refl;
  ranges_are = λ b. refl;
  some = omega arith;
  has_id = λ b e. e;
  body_kind = λ a. refl;
  sized = λ a. (omega arith, omega arith);
  refusal_is = λ b. refl;
  answer_is = λ b. refl;
  carried = λ a. refl;
}

-- ---- every kind, and every message
pub data Lawful : Kind → Type 1 where
  formatted : {A : Type 0} {k : Kind} (f : Format A) (message : A → Message) → LawfulFormat k f message → Lawful k
  uplink : Lawful kind.Uplink
  unknown : Lawful kind.Unknown

pub lawful : (k : Kind) → Lawful k
lawful kind.Heartbeat = formatted heartbeat_format Heartbeat heartbeat_lawful
lawful kind.Ownship = formatted (report_format 10) Ownship ownship_lawful
lawful kind.GeometricAltitude = formatted geometric_format GeometricAltitude geometric_lawful
lawful kind.Traffic = formatted (report_format 20) Traffic traffic_lawful
lawful kind.Request = formatted request_format Request request_lawful
lawful kind.Control = formatted control_format Control control_lawful
lawful kind.Initialization = formatted initialization_format Initialization initialization_lawful
lawful kind.Uplink = uplink
lawful kind.Unknown = unknown

pub data MadeOf : Message → Type 1 where
  of_format : {A : Type 0} {m : Message} (k : Kind) (f : Format A) (message : A → Message) (a : A) → LawfulFormat k f message → message a ≡ m → MadeOf m
  of_uplink : MadeOf Uplink

pub made_of : (m : Message) → MadeOf m
made_of (Heartbeat a) = of_format kind.Heartbeat heartbeat_format Heartbeat a heartbeat_lawful refl
made_of (Ownship a) = of_format kind.Ownship (report_format 10) Ownship a ownship_lawful refl
made_of (GeometricAltitude a) = of_format kind.GeometricAltitude geometric_format GeometricAltitude a geometric_lawful refl
made_of (Traffic a) = of_format kind.Traffic (report_format 20) Traffic a traffic_lawful refl
made_of (Request a) = of_format kind.Request request_format Request a request_lawful refl
made_of (Control a) = of_format kind.Control control_format Control a control_lawful refl
made_of (Initialization a) = of_format kind.Initialization initialization_format Initialization a initialization_lawful refl
made_of Uplink = of_uplink

-- ---- what a body means, by its ID and what its kind's reader gives: what `read_message` needs of each kind
abbrev pub meaning : {A : Type 0} → (A → Message) → Result A ℕ → ReaderAnswer
meaning message (Err number) = refused number
meaning message (Ok a) = means (message a)

-- the kind of a body, by its ID
kind_due : {k : Kind} (id : ℕ) → kind_of id ≡ k → (body : List ℕ) → 0 < length body → get_or body 0 0 ≡ id → message_due body ≡ answer_as k body
kind_due id known [] some is = absurd (omega arith)
kind_due id known (x ∷ xs) some is =
    ap (λ (n : ℕ). answer_as (kind_of n) (x ∷ xs)) is ∙ ap (λ (j : Kind). answer_as j (x ∷ xs)) known

due : {A : Type 0} {k : Kind} {f : Format A} {message : A → Message} → LawfulFormat k f message → (body : List ℕ) → 0 < length body
    → get_or body 0 0 ≡ get_or f.head 0 0 → message_due body ≡ meaning message (reads f Err Ok body)
due {f = f} {message = message} l body some is =
    kind_due (get_or f.head 0 0) l.first body some is ∙ l.answer_is body ∙ sym (in-terms-of f (meaning message) Err Ok body)

pub heartbeat_due : (body : List ℕ) → 0 < length body → get_or body 0 0 ≡ 0 → message_due body ≡ meaning Heartbeat (reads heartbeat_format Err Ok body)
heartbeat_due = due heartbeat_lawful

-- an uplink has no value
pub uplink_due : (body : List ℕ) → 0 < length body → get_or body 0 0 ≡ 7
    → message_due body ≡ meaning (λ (nothing : Unit {0}). Uplink) (unless_refused Err (uplink_refusal body) (Ok tt))
unfolding kind_of answer_as
uplink_due body some is =
    kind_due 7 refl body some is
    ∙ sym (in_other_terms (meaning (λ (nothing : Unit {0}). Uplink)) Err (uplink_refusal body) (Ok tt))

pub ownship_due : (body : List ℕ) → 0 < length body → get_or body 0 0 ≡ 10 → message_due body ≡ meaning Ownship (reads (report_format 10) Err Ok body)
ownship_due = due ownship_lawful

pub geometric_due : (body : List ℕ) → 0 < length body → get_or body 0 0 ≡ 11
    → message_due body ≡ meaning GeometricAltitude (reads geometric_format Err Ok body)
geometric_due = due geometric_lawful

-- the two reports have one reader: their formats differ in the ID alone, which it does not look at
pub traffic_due : (body : List ℕ) → 0 < length body → get_or body 0 0 ≡ 20 → message_due body ≡ meaning Traffic (reads (report_format 10) Err Ok body)
unfolding value_in refusal_of reads
traffic_due = due traffic_lawful

pub request_due : (body : List ℕ) → 0 < length body → get_or body 0 0 ≡ 44 → message_due body ≡ meaning Request (reads request_format Err Ok body)
request_due = due request_lawful

pub control_due : (body : List ℕ) → 0 < length body → get_or body 0 0 ≡ 45 → message_due body ≡ meaning Control (reads control_format Err Ok body)
control_due = due control_lawful

pub initialization_due : (body : List ℕ) → 0 < length body → get_or body 0 0 ≡ 117
    → message_due body ≡ meaning Initialization (reads initialization_format Err Ok body)
initialization_due = due initialization_lawful

pub ruleset kinds_due = (heartbeat_due, uplink_due, ownship_due, geometric_due, traffic_due, request_due, control_due, initialization_due)
