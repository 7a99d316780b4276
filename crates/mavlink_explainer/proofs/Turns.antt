-- What a turn of each loop keeps. Assumes nothing.
use Rattle.std.proofs.Common.{◌≡◌, ℕ, zero, suc, ◌+◌, ◌-◌, ◌%◌, ◌^◌, ◌<◌, ◌≤◌, Bool, true, false, cond, List, [], ◌∷◌, ◌++◌, length, take, drop, sym, refl, ap, ◌∙◌, subst, ap₂, append_assoc, append-nil, arith, length-append, length-drop, drop-drop}
use native.Mathlib.Nat.{mod-add-mod}
use lib.Seq.{paste, take-paste}
use Rattle.io_streams.specs.declared.Input.TheVariants.{More, Ended, Failed}
use Rattle.std.proofs.Common.{Option, Some, None, Result, Ok, Err}
use Rattle.io_streams.specs.declared.StreamError.{StreamError}
use Rattle.io_streams.specs.Gathering.{WritesWaiting}
use Rattle.text_output.specs.declared.page.Page.{Page}
use Rattle.mavlink_messages.specs.Messages.{MavlinkAnswer, means, refused, read_due}
use Rattle.text_mavlink_explanation.specs.Explanation.{frame_line, used_by, used_answer, is_refused}
use Rattle.text_mavlink_explanation.specs.Calls.{ExplainsFrame}
use Rattle.text_mavlink_explanation.specs.Decided.{frame_room}
use Rattle.text_mavlink_explanation.proofs.Used.{used_within, used_some}
use Rattle.io_streams.specs.Turns.{UnlessFailed}
use Rattle.mavlink_explainer.specs.Blocks.{Carries, Walks, few, stops, onward, input_of, octets_out, explains, Explores}

-- ---- explaining

read_uses : (r : MavlinkAnswer) {n : ℕ} → used_answer r ≡ Some n → (used_by r ≡ n) × (is_refused r ≡ false)
read_uses (means h used m f) e = (cc, refl)
read_uses (refused number) e = cc

read_none : (r : MavlinkAnswer) → used_answer r ≡ None → is_refused r ≡ true
read_none (means h used m f) e = cc
read_none (refused number) e = refl

module _ {input : List ℕ} {page : Page} {given : Option ℕ} {after : Page} (e : ExplainsFrame input page given after) where
  uses : {n : ℕ} → given ≡ Some n → (used_by (read_due input) ≡ n) × (is_refused (read_due input) ≡ false)
  uses r = read_uses (read_due input) (sym e.used ∙ r)

  pub turn_within : {n : ℕ} → given ≡ Some n → n ≤ length input
  turn_within r = omega (arith, (uses r).0, used_within input)

  pub turn_uses : {n : ℕ} → given ≡ Some n → 0 < n
  turn_uses r = omega (arith, (uses r).0, used_some input (uses r).1)

-- too few octets to decide, and the input goes on; or none, and it has ended
pub few_left : (last : Bool) (left : ℕ) → left < cond last 1 frame_room → Carries (cond last Ended More) left
few_left true left h = tt
few_left false left h = h

goes_on : (last : Bool) {claim : Type 0} → claim → UnlessFailed (cond last Ended More) claim
goes_on true t = t
goes_on false t = t

-- what is left, walked, is the whole block walked, behind these lines
abbrev Onward : ℕ → List ℕ → ℕ → ℕ → List ℕ → Type 0
Onward least block count left done =
    (n l : ℕ) (r : Bool) (lines : List ℕ) → Walks least (drop (length block - left) block) n l r lines → Walks least block (n + count) l r (done ++ lines)

-- so far explained: these lines, and as many octets went out or wait
pub record SoFar (least : ℕ) (block : List ℕ) (count left total : ℕ) : Type 0 where
  pub done : List ℕ
  pub goes : Onward least block count left done
  pub number : total ≡ length done % 2 ^ 64

pub from_start : (least : ℕ) (block : List ℕ) → SoFar least block 0 (length block) 0
from_start least block = record {
  done = [];
  goes = λ n l r lines w.
      let none : length block - length block ≡ 0 = omega arith in
      let same : n ≡ n + 0 = omega arith in
      subst (λ (k : ℕ). Walks least block k l r lines) same (subst (λ (d : ℕ). Walks least (drop d block) n l r lines) none w);
  number = refl;
}

module _ (least : ℕ) (block : List ℕ) (count left total : ℕ) (h : left ≤ length block) (so : SoFar least block count left total) where
  abbrev rest : List ℕ
  rest = drop (length block - left) block

  long : left ≡ length rest
  long = simp length-drop (omega arith)

  abbrev with_line : List ℕ
  with_line = so.done ++ frame_line (read_due rest)

  -- one line more
  more_out : {page : Page} {given : Option ℕ} {after : Page} → ExplainsFrame rest page given after → {next : ℕ}
      → next ≡ (total + after.end) % 2 ^ 64 → next ≡ length with_line % 2 ^ 64
  more_out e adds =
      adds
      ∙ ap₂ (λ (a b : ℕ). (a + b) % 2 ^ 64) so.number e.line.all
      ∙ mod-add-mod (length so.done) (2 ^ 64) (length (frame_line (read_due rest)))
      ∙ ap (λ (k : ℕ). k % 2 ^ 64) (sym (length-append so.done (frame_line (read_due rest))))

  pub next_frame : {page : Page} {given : Option ℕ} {after : Page} → ExplainsFrame rest page given after
      → least ≤ left → {n : ℕ} → given ≡ Some n → (next : ℕ) → next ≡ (total + after.end) % 2 ^ 64
      → SoFar least block (count + 1) (left - n) next
  next_frame {page} {given} e enough {n = used} r next adds = record {
    done = with_line;
    goes = λ n l q lines w.
        let within : used ≤ left = omega (arith, turn_within e r, long) in
        let place : length block - (left - used) ≡ length block - left + used = omega arith in
        let there =
        ap (λ (k : ℕ). drop k block) place
        ∙ sym (drop-drop used (length block - left) block)
        ∙ ap (λ (k : ℕ). drop k rest) (sym (uses e r).0) in
        let further = subst (λ (d : List ℕ). Walks least d n l q lines) there w in
        let more : n + 1 + count ≡ n + (count + 1) = omega arith in
        let all = so.goes (n + 1) l q (frame_line (read_due rest) ++ lines) (onward (omega (arith, long)) (uses e r).1 further) in
        subst (λ (ls : List ℕ). Walks least block (n + (count + 1)) l q ls) (sym (append_assoc so.done (frame_line (read_due rest)) lines))
        (subst (λ (k : ℕ). Walks least block k l q (so.done ++ (frame_line (read_due rest) ++ lines))) more all);
    number = more_out e adds;
  }

  module _ (last : Bool) (same : least ≡ cond last 1 frame_room) (frames bytes : ℕ) where
    walked : (r : Bool) (lines : List ℕ) → Walks least rest 0 left r lines → Walks (cond last 1 frame_room) block count left r (so.done ++ lines)
    walked r lines w =
        let all : 0 + count ≡ count = omega arith in
        subst (λ (k : ℕ). Walks (cond last 1 frame_room) block k left r (so.done ++ lines)) all
        (subst (λ (m : ℕ). Walks m block (0 + count) left r (so.done ++ lines)) same (so.goes 0 left r lines w))

    -- where a write failed
    pub at_failure : Explores last block frames bytes (explains frames bytes count (length block - left) left Failed 0)
    at_failure = record { leaves = record { carries = tt; within = h }; explored = tt }

    pub at_refused : {page : Page} {given : Option ℕ} {after : Page} → ExplainsFrame rest page given after → least ≤ left
        → given ≡ None → (written waiting : ℕ) → (written + waiting) % 2 ^ 64 ≡ (total + after.end) % 2 ^ 64
        → (output : Result ℕ StreamError) → WritesWaiting written waiting output
        → Explores last block frames bytes (explains frames bytes count (length block - left) left (input_of output Ended) (octets_out output))
    at_refused e enough r written waiting adds (Err x) w = at_failure
    at_refused e enough r written waiting adds (Ok n) w = record {
      leaves = record { carries = tt; within = h };
      explored = record {
        count = count;
        refused = true;
        lines = with_line;
        walks = walked true _ (stops long enough (read_none _ (sym e.used ∙ r)));
        counts = ap (explains frames bytes count (length block - left) left Ended) (w ∙ more_out e adds);
      };
    }

    pub at_end : left < least → (written waiting : ℕ) → (written + waiting) % 2 ^ 64 ≡ total → (output : Result ℕ StreamError) → WritesWaiting written waiting output
        → Explores last block frames bytes (explains frames bytes count (length block - left) left (input_of output (cond last Ended More)) (octets_out output))
    at_end less written waiting all (Err x) w = at_failure
    at_end less written waiting all (Ok n) w =
        let out : n ≡ length (so.done ++ []) % 2 ^ 64 = w ∙ all ∙ so.number ∙ ap (λ (ls : List ℕ). length ls % 2 ^ 64) (sym (append-nil so.done)) in
        record {
          leaves = record { carries = few_left last left (omega (arith, same)); within = h };
          explored =
              goes_on last
              (record {
                count = count;
                refused = false;
                lines = so.done ++ [];
                walks = walked false [] (few long less);
                counts = ap (explains frames bytes count (length block - left) left (cond last Ended More)) out;
              });
        }

-- ---- carrying over

take_none : (n : ℕ) → take {A = ℕ} n [] ≡ []
take_none zero = refl
take_none (suc n) = refl

drop_take : (from end : ℕ) (l : List ℕ) → from ≤ end → drop from (take end l) ≡ take (end - from) (drop from l)
drop_take zero end l h = let same : end ≡ end - 0 = omega arith in ap (λ (n : ℕ). take n l) same
drop_take (suc from) zero l h = absurd (omega arith)
drop_take (suc from) (suc end) [] h = sym (take_none (suc end - suc from))
drop_take (suc from) (suc end) (x ∷ xs) h =
    let same : end - from ≡ suc end - suc from = omega arith in
    drop_take from end xs (omega arith) ∙ ap (λ (n : ℕ). take n (drop from xs)) same

-- what is carried over, and kept where more is read, stands at the block's start
pub held_carried : (before moved after : List ℕ) (end held : ℕ) → held ≤ end → end ≤ length before
    → moved ≡ paste before 0 (drop (end - held) before) (end - (end - held)) → take held after ≡ take held moved
    → take held after ≡ drop (end - held) (take end before)
held_carried before moved after end held h within is same =
    let few : end - (end - held) ≡ held = omega arith in
    let none : held ≡ 0 + held = omega arith in
    same
    ∙ ap (take held) (is ∙ ap (paste before 0 (drop (end - held) before)) few)
    ∙ ap (λ (n : ℕ). take n (paste before 0 (drop (end - held) before) held)) none
    ∙ take-paste before 0 (drop (end - held) before) held (omega arith) (simp length-drop (omega arith))
    ∙ ap (λ (n : ℕ). take n (drop (end - held) before)) (sym few)
    ∙ sym (drop_take (end - held) end before (omega arith))
