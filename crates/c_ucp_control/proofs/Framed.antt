-- The frame of the message that a struct holds: a pair and two words. Assumes nothing.
use mathlib.Core.Path.{◌≡◌, refl, sym, ap, ◌∙◌, subst}
use mathlib.Core.List.{List, ◌∷◌, ◌++◌}
use Prim.Native.Nat.{ℕ, ◌+◌, ◌≤◌}
use native.Mathlib.Omega.{arith}
use lib.ListN.{length, take, drop, set, length-set}
use lib.Seq.{sets}
use Rattle.crc_polynomial.specs.Polynomial.{Octets, bits_of, bits_of_octets, divided}
use Rattle.field_words.specs.Words.{octets_up}
use Rattle.field_layout.proofs.Elements.{elements}
use Rattle.ucp_frame.specs.Frame.{flag, escaped, stuffed, frame}
use Rattle.ucp_writer.specs.Steps.{frame_rest}
use Rattle.output_writing.specs.Puts.{Puts}
use Rattle.output_writing.proofs.ToPut.{ToPut, all_to_put, last_put}
use Rattle.ucp_writer.proofs.Rest.{frame_rest_lem, frame_put, pair_room, pair_put, eight_room, eight_put}
use Rattle.field_format.specs.Format.{body_of}
use Rattle.ucp_messages.specs.Control45.{control_format}
use Rattle.c_lent.specs.Structs.{held}
use Rattle.c_ucp_control.specs.Struct.{control_struct, control_state}
use Rattle.c_ucp_control.proofs.Held.{body_found, from_15}

module _ (message : List ℕ) (n : length message ≡ 24) (is : Octets message) (buffer : List ℕ)
    (room : length (frame (body_of control_format (held control_struct message))) ≤ length buffer) where
  -- octets are left to put, and then the buffer has the whole frame
  abbrev pub Left : List ℕ → ℕ → List ℕ → Type 0
  Left output at octets =
      let body = body_of control_format (held control_struct message) in
      ToPut output at octets (1 + length (frame_rest 0 body)) (sets buffer 0 (flag ∷ frame_rest 0 body))

  -- the body, by the struct's octets
  abbrev found : List ℕ
  found = 45 ∷ 1 ∷ control_state (held control_struct message) ∷ elements 15 8 message

  flag_put : Left (set buffer 0 flag) 1 (frame_rest 0 found)
  flag_put =
      let body = body_of control_format (held control_struct message) in
      subst (λ (b : List ℕ). Left (set buffer 0 flag) 1 (frame_rest 0 b)) (body_found message n is refl)
      (all_to_put (set buffer 0 flag) 1 refl (simp length-set (omega (arith, ap length (frame_rest_lem body), room))))

  pub first_room : 1 + length (escaped 45 ++ escaped 1) ≤ length (set buffer 0 flag)
  first_room = pair_room 0 found 0 flag_put (omega arith)

  module _ {next : ℕ} {after : List ℕ} (p : Puts (set buffer 0 flag) 1 (escaped 45 ++ escaped 1) next after) (word : ℕ)
      (e : octets_up 8 word ≡ take 8 (drop 2 (body_of control_format (held control_struct message)))) where
    first_put : {check : ℕ} → check ≡ divided 0 (bits_of 8 45 ++ bits_of 8 1) → Left after next (frame_rest check (drop 2 found))
    first_put = pair_put 0 found 0 flag_put (omega arith) p

    octets : octets_up 8 word ≡ take 8 (drop 2 found)
    octets = e ∙ ap (λ (b : List ℕ). take 8 (drop 2 b)) (body_found message n is refl)

    pub second_room : next + length (stuffed (octets_up 8 word)) ≤ length after
    second_room = eight_room _ found 2 (first_put refl) (octets_up 8 word) octets

    pub second_put : {at check later : ℕ} {then : List ℕ} → Puts after next (stuffed (octets_up 8 word)) at then
        → check ≡ divided 0 (bits_of 8 45 ++ bits_of 8 1) → later ≡ divided check (bits_of_octets (octets_up 8 word))
        → Left then at (frame_rest later (take 8 (drop 15 message)))
    second_put q c d = rw (from_15 message n) (eight_put _ found 2 (first_put c) (octets_up 8 word) octets q d)

  -- the frame is whole
  pub filled : {output octets : List ℕ} {at : ℕ} → Left output at octets → {next : ℕ} {after : List ℕ} → Puts output at octets next after
      → (next ≡ length (frame (body_of control_format (held control_struct message))))
      × (after ≡ frame (body_of control_format (held control_struct message)) ++ drop next buffer)
  filled t {next} {after} q =
      let body = body_of control_format (held control_struct message) in
      let p = last_put t q in
      let e : next ≡ length (frame body) = omega (arith, p.0, ap length (frame_rest_lem body)) in
      (e, p.1 ∙ ap (sets buffer 0) (sym (frame_rest_lem body)) ∙ rw e (frame_put body buffer room))
