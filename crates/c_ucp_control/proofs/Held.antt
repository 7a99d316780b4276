-- What a struct holds, by its octets. Assumes nothing.
use mathlib.Core.Path.{◌≡◌, refl, sym, ap, ◌∙◌}
use mathlib.Core.Bool.{Bool, true, false, ◌&&◌}
use mathlib.Core.List.{List, ◌∷◌, ◌++◌}
use Prim.Native.Nat.{ℕ, ◌<◌, ◌≤◌}
use native.Mathlib.Omega.{arith}
use lib.Dec.{ltb}
use lib.ListN.{get_or, length, take, drop, set, length-drop}
use lib.Seq.{sets, sets-eq, drop-drop}
use Rattle.crc_polynomial.specs.Polynomial.{Octets}
use Rattle.field_layout.specs.Steps.{little16}
use Rattle.field_layout.specs.Layout.{text_octets, text_at}
use Rattle.field_layout.proofs.Elements.{elements, by_elements}
use Rattle.field_codes.specs.Codes.{is_squawk}
use Rattle.field_texts.specs.Text.{is_padded}
use Rattle.ucp_frame.specs.Frame.{frame}
use Rattle.ucp_frame.proofs.Frame.{frame_length_most}
use Rattle.std.specs.Prelude.{Ok, Err}
use Rattle.refusals.specs.declared.Refusal.TheVariants.{Field}
use Rattle.ucp_writer.specs.Sends.{send_due, SendsBody}
use Rattle.ucp_writer.proofs.room.Due.{due_accepted}
use Rattle.ucp_messages.specs.declared.Control.{Control}
use Rattle.field_format.specs.Format.{body_of, fits}
use Rattle.field_format.proofs.Formats.{fitting, bound}
use Rattle.ucp_messages.specs.Control45.{control_format}
use Rattle.ucp_messages.proofs.Formats.{control_right}
use Rattle.c_lent.specs.Structs.{held}
use Rattle.c_ucp_control.specs.Struct.{control_struct, control_state}
use Rattle.c_ucp_control.proofs.Stored.{body_held}

-- the order of three tests
last_first : (a b c : Bool) → ((a && b) && c) ≡ ((b && c) && a)
last_first true true true = refl
last_first true true false = refl
last_first true false c = refl
last_first false true true = refl
last_first false true false = refl
last_first false false c = refl

pub body_length : (c : Control) → length (body_of control_format c) ≡ 18
unfolding body_of
body_length c = refl

module _ (message : List ℕ) (n : length message ≡ 24) where
  pub held_range : ((ltb (get_or message 5 0) 4 && is_squawk (little16 message 12)) && is_padded (text_octets (text_at message 15)))
      ≡ fits control_format (held control_struct message)
  unfolding fits held
  held_range =
      last_first (ltb (get_or message 5 0) 4) (is_squawk (little16 message 12)) (is_padded (text_octets (text_at message 15)))
      ∙ ap (λ (xs : List ℕ). fits control_format (held control_struct xs)) (sym (by_elements 24 message n))

  pub held_small : fits control_format (held control_struct message) ≡ true → get_or message 5 0 < 4
  unfolding held
  held_small h =
      let c = held control_struct (elements 24 0 message) in
      let g = ap (λ (xs : List ℕ). fits control_format (held control_struct xs)) (sym (by_elements 24 message n)) ∙ h in
      bound control_format control_right c (fitting control_format control_right c g) 5

  module _ (is : Octets message) where
    -- the body, with the octet at 2 as it was found
    pub body_found : {s : ℕ} → s ≡ control_state (held control_struct message)
        → body_of control_format (held control_struct message) ≡ 45 ∷ 1 ∷ s ∷ elements 15 8 message
    body_found e = rw e (body_held message is n)

    -- the body is put: three octets, and two words of which the second starts with the last octet of the first
    pub body_put : {s : ℕ} (output : List ℕ) {after : List ℕ} → s ≡ control_state (held control_struct message) → 18 ≤ length output
        → after ≡ sets (sets (set (set (set output 0 45) 1 1) 2 s) 3 (elements 8 8 message)) 10 (elements 8 15 message)
        → after ≡ body_of control_format (held control_struct message) ++ drop 18 output
    body_put {s} output e room put =
        let first : List ℕ = 45 ∷ 1 ∷ s ∷ elements 8 8 message in
        let wide : 18 ≤ length (first ++ drop 11 output) = simp length-drop (omega arith) in
        put
        ∙ ap (λ (l : List ℕ). sets l 10 (elements 8 15 message)) (sets-eq first output 0 (omega arith))
        ∙ sets-eq (elements 8 15 message) (first ++ drop 11 output) 10 wide
        ∙ ap (λ (l : List ℕ). (45 ∷ 1 ∷ s ∷ elements 15 8 message) ++ l) (drop-drop 7 11 output)
        ∙ ap (λ (body : List ℕ). body ++ drop 18 output) (sym (body_found e))

  -- the body's octets from 10 on
  pub from_15 : take 8 (drop 15 message) ≡ elements 8 15 message
  from_15 = ap (λ (xs : List ℕ). take 8 (drop 15 xs)) (by_elements 24 message n)

-- ---- sending
pub frame_room : (c : Control) → length (frame (body_of control_format c)) ≤ 878
frame_room c = omega (arith, frame_length_most (body_of control_format c), body_length c)

pub not_sent : (c : Control) (buffer : List ℕ) → fits control_format c ≡ false → SendsBody (fits control_format c) (body_of control_format c) buffer (Err Field) buffer
unfolding send_due
not_sent c buffer e = rw e (record { answers = refl; leaves = refl })

pub sent : (c : Control) (buffer : List ℕ) {octets : ℕ} {after : List ℕ} → fits control_format c ≡ true → length buffer ≡ 878
    → octets ≡ length (frame (body_of control_format c)) → after ≡ frame (body_of control_format c) ++ drop octets buffer
    → SendsBody (fits control_format c) (body_of control_format c) buffer (Ok octets) after
unfolding send_due
sent c buffer e n whole is =
    rw (e, due_accepted (body_of control_format c) buffer (omega (arith, body_length c)) (omega (arith, body_length c)) (omega (arith, frame_room c)), ← whole)
    (record { answers = refl; leaves = is })
