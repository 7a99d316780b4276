-- The parts that are put make the frame. Assumes nothing.
use mathlib.Core.Path.{◌≡◌, refl, sym, ap, ap₂, ◌∙◌}
use mathlib.Core.List.{List, [], ◌∷◌, ◌++◌, append_assoc}
use Prim.Native.Nat.{ℕ, suc, ◌+◌, ◌≤◌}
use native.Mathlib.Omega.{arith}
use native.Mathlib.Nat.{le_of_eq}
use lib.ListN.{length, set, take, drop, length-append, length-drop, take-append-drop}
use lib.Seq.{sets, sets-eq, drop-set-lt, paste, drop-paste, take_at, drop_at, take-length, length-take-le, take_all, drop-drop, drop-append-add}
use Rattle.field_words.proofs.Digits.{elements, from}
use Rattle.crc_x25.specs.Check.{x25}
use Rattle.mavlink_frame.specs.declared.Kind.{Kind}
use Rattle.mavlink_frame.specs.declared.Header.{Header}
use Rattle.mavlink_frame.specs.Frame.{header_octets, covered, mavlink_frame}
use Rattle.mavlink_frame.specs.Reader.{payload_at}
use Rattle.mavlink_frame.specs.Steps.{low_first, closed}

module _ (k : Kind) (h : Header) (payload output : List ℕ) (room : length payload + 8 ≤ length output) where
  -- the output up to the check, and what is behind
  abbrev ahead : List ℕ
  ahead = header_octets k h ++ payload

  abbrev behind : List ℕ
  behind = drop (6 + length payload) output

  header_put : sets output 0 (header_octets k h) ≡ header_octets k h ++ drop 6 output
  header_put = sets-eq (header_octets k h) output 0 (omega arith)

  pub ahead_put : payload ≡ take (length payload) (drop 6 output) → sets output 0 (header_octets k h) ≡ ahead ++ behind
  ahead_put e =
      header_put
      ∙ ap (λ (xs : List ℕ). header_octets k h ++ xs)
      (sym (take-append-drop (length payload) (drop 6 output))
      ∙ ap₂ (λ (p q : List ℕ). p ++ q) (sym e) (drop-drop (length payload) 6 output))

  ahead_length : length ahead ≡ length payload + 6
  ahead_length = omega arith

  two_more : length payload + 6 + 2 ≡ length ahead + 2
  two_more = omega arith

  eight_more : 6 + length payload + 2 ≡ length payload + 8
  eight_more = omega arith

  -- the check behind
  pub frame_put : (check : ℕ) (before : List ℕ) → before ≡ ahead ++ behind
      → sets before (length payload + 6) (low_first check) ≡ closed k h payload check ++ drop (length payload + 8) output
  frame_put check before e =
      rw e
      (sets-eq (low_first check) (ahead ++ behind) (length payload + 6) (simp (length-append, length-drop) (omega arith))
      ∙ ap₂ (λ (p q : List ℕ). p ++ low_first check ++ q)
      (take_at ahead behind (length payload + 6) ahead_length)
      (ap (λ (n : ℕ). drop n (ahead ++ behind)) two_more ∙ drop-append-add ahead behind 2 ∙ drop-drop 2 (6 + length payload) output
      ∙ ap (λ (n : ℕ). drop n output) eight_more))

-- with the right check it is the frame
pub frame_closed : (k : Kind) (h : Header) (payload : List ℕ) {check : ℕ} → check ≡ x25 (covered k h payload)
    → closed k h payload check ≡ mavlink_frame k h payload
unfolding mavlink_frame
frame_closed k h payload e = ap (closed k h payload) e

-- a payload that is put from 6 on, and what is behind
module _ (payload output : List ℕ) (room : length payload + 8 ≤ length output) where
  abbrev pasted : List ℕ
  pasted = paste output 6 payload (length payload)

  pub payload_pasted : payload_at (length payload) pasted ≡ payload
  payload_pasted =
      let six : length (take 6 output) ≡ 6 = length-take-le 6 output (omega arith) in
      let n : length (take (length payload) payload) ≡ length payload = ap length (take-length payload) in
      ap (λ (xs : List ℕ). take (length payload) (drop 6 xs))
      (append_assoc (take 6 output) (take (length payload) payload) (drop (6 + length payload) output))
      ∙ ap (take (length payload)) (drop_at (take 6 output) (take (length payload) payload ++ drop (6 + length payload) output) 6 six)
      ∙ take_at (take (length payload) payload) (drop (6 + length payload) output) (length payload) n
      ∙ take-length payload

  pub behind_pasted : drop (length payload + 8) pasted ≡ drop (length payload + 8) output
  behind_pasted =
      let e : length payload + 8 ≡ 6 + length payload + 2 = omega arith in
      ap (λ (m : ℕ). drop m pasted) e
      ∙ sym (drop-drop 2 (6 + length payload) pasted)
      ∙ ap (drop 2) (drop-paste output 6 payload (length payload) (omega arith) (omega arith))
      ∙ drop-drop 2 (6 + length payload) output
      ∙ ap (λ (m : ℕ). drop m output) (sym e)

-- one of six octets, octet by octet
pub six : (payload : List ℕ) → length payload ≡ 6 → elements payload 0 0 6 ≡ payload
six payload e = sym (from payload 0 6 0 (omega arith)) ∙ take_all 6 payload (le_of_eq e)

-- what is behind octets that are put stays
behind_sets : (vs l : List ℕ) (i n : ℕ) → i + length vs ≤ n → drop n (sets l i vs) ≡ drop n l
behind_sets [] l i n h = refl
behind_sets (v ∷ vs) l i n h = behind_sets vs (set l i v) (suc i) n (omega arith) ∙ drop-set-lt n l i v (omega arith)

-- one that is put from 6 on, and up to two octets more, over which the check goes
module _ (payload more output : List ℕ) (few : length more ≤ 2) (room : length payload + 8 ≤ length output)
    {mid : List ℕ} (put : mid ≡ sets output 6 (payload ++ more)) where
  pub payload_placed : payload_at (length payload) mid ≡ payload
  payload_placed =
      let behind = drop (6 + length (payload ++ more)) output in
      let six : length (take 6 output) ≡ 6 = length-take-le 6 output (omega arith) in
      ap (λ (xs : List ℕ). take (length payload) (drop 6 xs))
      (put ∙ sets-eq (payload ++ more) output 6 (simp length-append (omega arith)) ∙ append_assoc (take 6 output) (payload ++ more) behind)
      ∙ ap (take (length payload)) (drop_at (take 6 output) (payload ++ more ++ behind) 6 six ∙ append_assoc payload more behind)
      ∙ take_at payload (more ++ behind) (length payload) refl

  pub behind_placed : drop (length payload + 8) mid ≡ drop (length payload + 8) output
  behind_placed =
      ap (drop (length payload + 8)) put
      ∙ behind_sets (payload ++ more) output 6 (length payload + 8) (simp length-append (omega arith))

  -- with the right check around it, the frame
  pub framed : (k : Kind) (h : Header) {check : ℕ} {after : List ℕ} → k.length ≡ length payload → check ≡ x25 (covered k h payload)
      → after ≡ closed k h (payload_at k.length mid) check ++ drop (k.length + 8) mid
      → after ≡ mavlink_frame k h payload ++ drop (length payload + 8) output
  framed k h {check} n e around =
      around
      ∙ ap (λ (m : ℕ). closed k h (payload_at m mid) check ++ drop (m + 8) mid) n
      ∙ ap₂ (λ (p behind : List ℕ). closed k h p check ++ behind) payload_placed behind_placed
      ∙ ap (λ (xs : List ℕ). xs ++ drop (length payload + 8) output) (frame_closed k h payload e)
