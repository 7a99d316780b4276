-- What putting a line behind those that wait leaves. Assumes nothing.
use Rattle.std.proofs.Common.{◌≡◌, ℕ, ◌+◌, ◌-◌, ◌%◌, ◌^◌, ◌<◌, ◌≤◌, min, Bool, true, false, leb, List, length, take, sym, refl, ap, ◌∙◌, arith, length-take, take_all, leb-false, leb-true}
use native.Mathlib.Nat.{mod-add-mod}
use lib.Seq.{paste}
use Rattle.io_streams.specs.Gathering.{GathersLine}

module _ (before : List ℕ) (waiting : ℕ) (line : List ℕ) (within : waiting ≤ length before) {after : List ℕ} where
  pub fits_behind : length line ≤ length before - waiting → after ≡ paste before waiting line (length line)
      → GathersLine before waiting line (waiting + length line) 0 after
  fits_behind h e =
      let none : waiting ≡ waiting - 0 = omega arith in
      record {
        fits = λ f. refl;
        full = λ f. absurd (omega arith);
        ends = omega arith;
        leaves = e ∙ ap (λ (n : ℕ). paste before n line (length line)) none;
      }

  pub in_place : length before - waiting < length line → after ≡ paste before 0 line (length line)
      → GathersLine before waiting line (length line) waiting after
  in_place h e =
      let all : 0 ≡ waiting - waiting = omega arith in
      record {
        fits = λ f. absurd (omega arith);
        full = λ f. refl;
        ends = refl;
        leaves = e ∙ ap (λ (n : ℕ). paste before n line (length line)) all;
      }

-- the first octets of a list are those of all that it has
pub take_clipped : (l : List ℕ) (n : ℕ) → take (min n (length l)) l ≡ take n l
take_clipped l n = go (leb (length l) n) refl
  where
    go : (b : Bool) → leb (length l) n ≡ b → take (min n (length l)) l ≡ take n l
    go true e =
        let h : length l ≤ n = leb-true (length l) n e in
        let some : length l ≤ min n (length l) = omega arith in
        take_all (min n (length l)) l some ∙ sym (take_all n l h)
    go false e =
        let h = leb-false (length l) n e in
        let same : min n (length l) ≡ n = omega arith in
        ap (λ (k : ℕ). take k l) same

-- a line of n octets more, whether it waits or those before it went out: what went out and what waits make up the same
pub makes_up : (written waiting n out next : ℕ) → out + next ≡ waiting + n
    → ((written + out) % 2 ^ 64 + next) % 2 ^ 64 ≡ ((written + waiting) % 2 ^ 64 + n) % 2 ^ 64
makes_up written waiting n out next e =
    let same : written + out + next ≡ written + waiting + n = omega arith in
    mod-add-mod (written + out) (2 ^ 64) next
    ∙ ap (λ (k : ℕ). k % 2 ^ 64) same
    ∙ sym (mod-add-mod (written + waiting) (2 ^ 64) n)

waits_within : {before : List ℕ} {waiting : ℕ} {line : List ℕ} {next out : ℕ} {after : List ℕ} → GathersLine before waiting line next out after
    → length line ≤ length before → next ≤ length before
waits_within {before} {waiting} {line} {next} g h = go (leb (waiting + length line) (length before)) refl
  where
    go : (b : Bool) → leb (waiting + length line) (length before) ≡ b → next ≤ length before
    go true e =
        let f : waiting + length line ≤ length before = leb-true _ _ e in
        omega (arith, g.fits f, g.ends)
    go false e =
        let f : length before < waiting + length line = leb-false _ _ e in
        omega (arith, g.full f, g.ends)

-- a line of n octets, behind others within the buffer
pub gathered_line : {before : List ℕ} (text : List ℕ) (waiting n : ℕ) {next out : ℕ} {after : List ℕ}
    → GathersLine before (min waiting (length before)) (take (min n (length before)) text) next out after
    → waiting ≤ length before → n ≤ length before → n ≤ length text → (next ≤ length before) × (out + next ≡ waiting + n)
gathered_line {before} text waiting n g w b t =
    let long : length (take (min n (length before)) text) ≡ n = simp length-take (omega arith) in
    (waits_within g (omega (arith, long)), omega (arith, g.ends, long))
