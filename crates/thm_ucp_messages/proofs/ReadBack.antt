-- A written message reads back equal, by its format. Assumes nothing.
use mathlib.Core.Path.{◌≡◌, refl, sym, ap, subst, ◌∙◌}
use mathlib.Core.Bool.{Bool, true, false, cond}
use mathlib.Core.List.{List, ◌++◌}
use Prim.Native.Nat.{ℕ}
use native.Mathlib.Omega.{arith}
use borrow.Author.Tests.{eqb-true}
use lib.Dec.{ltb}
use lib.ListN.{length, take, drop}
use lib.Seq.{take_at}
use Rattle.output_writing.specs.Writing.{Written, refused as writer-refused, wrote, writer_answer, output_after}
use Rattle.ucp_answers.specs.Writes.{body_due, WritesBody}
use Rattle.ucp_answers.specs.Refusals.{refusal_by}
use Rattle.field_format.specs.Format.{body_of}
use Rattle.ucp_answers.proofs.RoundTrips as formats
use Rattle.ucp_messages.specs.Uplink7.{uplink_fits}
use Rattle.ucp_messages.proofs.Formats.{MadeOf, of_format, of_uplink, made_of, fits_as, body_as}
use Rattle.ucp_messages.specs.declared.Kind.{Kind}
use Rattle.ucp_messages.specs.declared.Message.{Message}
use Rattle.ucp_messages.specs.declared.Message.TheVariants.{Uplink}
use Rattle.ucp_messages.specs.Kinds.{kind_of}
use Rattle.ucp_messages.specs.Messages.{ReaderAnswer, means, refused, payload_by, answer_as, message_due, message_fits, message_body}
use Rattle.thm_ucp_messages.specs.Typed.{TypedCarried, MessageTyped}
use Rattle.thm_ucp_messages.specs.RoundTrips.{MessageReadsBack, UplinkReadsBack}

-- the body of a typed message whose fields fit means that message
abbrev Meant : List ℕ → Message → Type 0
Meant payload m = MessageTyped m → message_fits m payload ≡ true → message_due (message_body m payload) ≡ means m

by_kind : {m : Message} → MadeOf m → (payload : List ℕ) → Meant payload m
unfolding message_fits message_body kind_of answer_as uplink_fits refusal_by
by_kind (of_format k f message a l e) payload =
    subst (Meant payload) e
    (λ t h. ap message_due (body_as l a payload)
    ∙ ap (λ (j : Kind). answer_as j (body_of f a)) (l.body_kind a)
    ∙ l.answer_is (body_of f a)
    ∙ formats.written_reads_back f l.right a (subst TypedCarried (l.carried a) t) (sym (fits_as l a payload) ∙ h) refused (λ x. means (message x)))
by_kind of_uplink payload = λ t h. let e = eqb-true (length payload) 435 h in rw e

pub body_means : (m : Message) (payload : List ℕ) → MessageTyped m → message_fits m payload ≡ true → message_due (message_body m payload) ≡ means m
body_means m payload t h = by_kind (made_of m) payload t h

-- ---- calls
-- an accepted call: the fields fit, and the body is there
pub accepted : {fits : Bool} {body output after : List ℕ} {w : Written} {octets : ℕ} → WritesBody fits body output w after
    → writer_answer w ≡ wrote octets → (fits ≡ true) × (take octets after ≡ body)
unfolding body_due
accepted {fits} {body} {output} {after} {w} {octets} call e =
    go fits (ltb (length output) (length body)) (sym e ∙ call.answers) (call.leaves ∙ ap (output_after body output) e)
  where
    go : (f t : Bool) → wrote octets ≡ cond f (cond t (writer-refused 8) (wrote (length body))) (writer-refused 13) → after ≡ body ++ drop octets output
        → (f ≡ true) × (take octets after ≡ body)
    go true true h l = let z : ◌≡◌ {A = ℕ} 0 1 = cc in absurd (omega arith)
    go true false h l = let n : length body ≡ octets = cc in (refl, ap (take octets) l ∙ take_at body (drop octets output) octets n)
    go false t h l = let z : ◌≡◌ {A = ℕ} 0 1 = cc in absurd (omega arith)

pub written_reads_back : MessageReadsBack
written_reads_back m payload output after w octets r t call e reading =
    let a = accepted call e in
    reading ∙ ap message_due a.1 ∙ body_means m payload t a.0

pub uplink_reads_back : UplinkReadsBack
unfolding message_body
uplink_reads_back payload output after given w octets call e gives =
    let a = accepted call e in
    gives ∙ ap (λ (body : List ℕ). payload_by (message_due body) body) a.1
    ∙ ap (λ (answer : ReaderAnswer). payload_by answer (message_body Uplink payload)) (body_means Uplink payload tt a.0)
