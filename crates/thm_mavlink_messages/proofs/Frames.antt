-- A frame reads back, and an accepted frame is the frame of its own payload. Assumes nothing.
use mathlib.Core.Path.{◌≡◌, refl, sym, ap, ap₂, ◌∙◌}
use mathlib.Core.List.{List, [], ◌∷◌, ◌++◌, append_assoc}
use Prim.Native.Nat.{ℕ, suc, ◌+◌, ◌*◌, ◌/◌, ◌%◌, ◌≤◌}
use native.Mathlib.Numerals.{add-one}
use native.Mathlib.Omega.{arith}
use borrow.Author.Tests.{le-ltb, ne_eqb}
use lib.ListN.{length, get_or, take, drop, length-append, length-drop, take-append-drop}
use lib.Seq.{take_at, drop-cons, drop-drop, take-add, get_or-append-add, length-take-le}
use Rattle.crc_polynomial.specs.Polynomial.{Octets}
use Rattle.crc_x25.specs.Check.{x25, x25_octets}
use Rattle.mavlink_frame.specs.declared.Kind.{Kind}
use Rattle.mavlink_frame.specs.declared.Header.{Header}
use Rattle.mavlink_frame.specs.Frame as kinds-as
use Rattle.mavlink_frame.specs.Reader as found_as
use Rattle.mavlink_frame.specs.Frame.{mavlink_kind, header_octets, covered, mavlink_frame}
use Rattle.mavlink_frame.specs.Reader.{payload_at, check_at, check_due, found}
use Rattle.mavlink_frame.proofs.reader.Tests.{right}
use Rattle.mavlink_frame.proofs.reader.Accepted.{Accepted}

module _ (k : Kind) (h : Header) (payload rest : List ℕ) (known : mavlink_kind k.id ≡ kinds-as.known k) (l : length payload ≡ k.length) where
  abbrev pub check : ℕ
  check = x25 (covered k h payload)

  abbrev pub whole : List ℕ
  whole = header_octets k h ++ (payload ++ (check % 256 ∷ check / 256 ∷ rest))

  pub whole_is : mavlink_frame k h payload ++ rest ≡ whole
  unfolding mavlink_frame
  whole_is = ap (λ (xs : List ℕ). header_octets k h ++ xs) (append_assoc payload (x25_octets (covered k h payload)) rest)

  whole_length : k.length + 8 ≤ length whole
  whole_length = simp length-append (omega arith)

  -- the check stands behind the payload
  low_at : get_or whole (k.length + 6) 0 ≡ check % 256
  low_at =
      let n : k.length + 6 ≡ length (header_octets k h ++ payload) + 0 = simp length-append (omega arith) in
      ap (λ (i : ℕ). get_or whole i 0) n ∙ get_or-append-add (header_octets k h ++ payload) (check % 256 ∷ check / 256 ∷ rest) 0 0

  high_at : get_or whole (k.length + 6 + 1) 0 ≡ check / 256
  high_at =
      let n : k.length + 6 + 1 ≡ length (header_octets k h ++ payload) + 1 = simp length-append (omega arith) in
      ap (λ (i : ℕ). get_or whole i 0) n ∙ get_or-append-add (header_octets k h ++ payload) (check % 256 ∷ check / 256 ∷ rest) 1 0

  checks : check_at k.length whole ≡ check_due k.length k.extra whole
  checks =
      let a = low_at in
      let b = high_at in
      let sent : check_at k.length whole ≡ check = omega arith in
      sent
      ∙ ap (λ (xs : List ℕ). x25 (xs ++ k.extra ∷ []))
      (sym (take_at (drop 1 (header_octets k h ++ payload)) (check % 256 ∷ check / 256 ∷ rest) (k.length + 5) (omega arith)))

  pub frame_found : found whole ≡ found_as.frame k.id h (k.length + 8)
  unfolding found
  frame_found =
      let a = whole_length in
      let some : length whole ≡ 0 → ⊥ = λ e. omega arith in
      let enough : 6 ≤ length whole = omega arith in
      rw (ne_eqb _ _ some, le-ltb _ _ enough, known) (right k whole refl whole_length checks)

  pub frame_payload : payload_at k.length whole ≡ payload
  frame_payload = take_at payload (check % 256 ∷ check / 256 ∷ rest) k.length l

-- six octets, and what is behind them
pub six : (s : List ℕ) → 6 ≤ length s
    → s ≡ get_or s 0 0 ∷ get_or s 1 0 ∷ get_or s 2 0 ∷ get_or s 3 0 ∷ get_or s 4 0 ∷ get_or s 5 0 ∷ drop 6 s
six s l =
    drop-cons s 0 0 (omega arith)
    ∙ ap (λ (xs : List ℕ). get_or s 0 0 ∷ xs) (drop-cons s 1 0 (omega arith)
    ∙ ap (λ (xs : List ℕ). get_or s 1 0 ∷ xs) (drop-cons s 2 0 (omega arith)
    ∙ ap (λ (xs : List ℕ). get_or s 2 0 ∷ xs) (drop-cons s 3 0 (omega arith)
    ∙ ap (λ (xs : List ℕ). get_or s 3 0 ∷ xs) (drop-cons s 4 0 (omega arith)
    ∙ ap (λ (xs : List ℕ). get_or s 4 0 ∷ xs) (drop-cons s 5 0 (omega arith))))))

module _ (s : List ℕ) (id : ℕ) (h : Header) (used : ℕ) (o : Octets s) (a : Accepted s id h used) where
  abbrev n : ℕ
  n = a.kind.length

  abbrev payload : List ℕ
  payload = payload_at n s

  header_is : s ≡ header_octets a.kind h ++ drop 6 s
  header_is =
      let b = a.ends in
      let c = a.room in
      six s (omega arith)
      ∙ (λ i. a.starts i ∷ a.sized i ∷ (sym a.header i).sequence ∷ (sym a.header i).system ∷ (sym a.header i).component ∷ (a.numbered ∙ sym a.named) i ∷ drop 6 s)

  -- the octets that the check is over
  covered_is : take (n + 5) (drop 1 s) ++ a.kind.extra ∷ [] ≡ covered a.kind h payload
  covered_is =
      let e : n + 5 ≡ 5 + n = omega arith in
      ap (λ (xs : List ℕ). xs ++ a.kind.extra ∷ [])
      (ap₂ (λ (m : ℕ) (xs : List ℕ). take m (drop 1 xs)) e header_is
      ∙ take-add 5 n (drop 1 (header_octets a.kind h ++ drop 6 s)))

  abbrev due : ℕ
  due = x25 (covered a.kind h payload)

  sent : get_or s (n + 6) 0 + 256 * get_or s (n + 6 + 1) 0 ≡ due
  sent = a.checks ∙ ap x25 covered_is

  -- the two octets of the check, and what is behind the frame
  behind_is : drop (n + 6) s ≡ due % 256 ∷ due / 256 ∷ drop used s
  behind_is =
      let b = a.ends in
      let c = a.room in
      let e = sent in
      let low = o (n + 6) in
      let high = o (n + 6 + 1) in
      let first : get_or s (n + 6) 0 ≡ due % 256 = omega arith in
      let second : get_or s (n + 6 + 1) 0 ≡ due / 256 = omega arith in
      let end : suc (n + 6 + 1) ≡ used = omega arith in
      drop-cons s (n + 6) 0 (omega arith)
      ∙ ap (λ (xs : List ℕ). get_or s (n + 6) 0 ∷ xs)
      (ap (λ (m : ℕ). drop m s) (sym (add-one (n + 6))) ∙ drop-cons s (n + 6 + 1) 0 (omega arith))
      ∙ (λ i. first i ∷ second i ∷ drop (end i) s)

  pub accepted_frame : s ≡ mavlink_frame a.kind h payload ++ drop used s
  unfolding mavlink_frame
  accepted_frame =
      let e : 6 + n ≡ n + 6 = omega arith in
      header_is
      ∙ ap (λ (xs : List ℕ). header_octets a.kind h ++ xs)
      (sym (take-append-drop n (drop 6 s))
      ∙ ap (λ (xs : List ℕ). payload ++ xs) (drop-drop n 6 s ∙ ap (λ (m : ℕ). drop m s) e ∙ behind_is)
      ∙ sym (append_assoc payload (x25_octets (covered a.kind h payload)) (drop used s)))

  pub payload_length : length payload ≡ n
  payload_length =
      let b = a.ends in
      let c = a.room in
      length-take-le n (drop 6 s) (omega (arith, length-drop 6 s))

pub frame_length : (k : Kind) (h : Header) (payload : List ℕ) → length (mavlink_frame k h payload) ≡ length payload + 8
unfolding mavlink_frame
frame_length k h payload = simp length-append (omega arith)
