-- Octets printed one after the other. Assumes nothing.
use mathlib.Core.Path.{◌≡◌, refl, ap}
use mathlib.Core.Bool.{Bool, true, false}
use mathlib.Core.List.{List, [], ◌∷◌}
use Prim.Native.Nat.{ℕ, ◌+◌, ◌*◌, ◌/◌, ◌<◌, ◌≤◌}
use native.Mathlib.Numerals.{add-one}
use native.Mathlib.Omega.{arith}
use lib.Dec.{ltb}
use lib.ListN.{length, get_or, drop, drop_of_length-le}
use lib.Seq.{drop-cons}
use borrow.Author.Tests.{ltb-true, ltb-false}
use Rattle.text_output.specs.declared.Printing.{Printing}
use Rattle.text_output.specs.declared.Printing.TheVariants.{Plain, Hex}
use Rattle.text_output.specs.Clips.{Clips}
use Rattle.text_output.specs.Text.{hex_digit, printed_octet, printed}
use Rattle.text_output.proofs.Clipped.{then}

-- a digit by arithmetic
pub hex_digit_lem : (d : ℕ) → d < 16 → d + 48 + (d + 6) / 16 * 39 ≡ hex_digit d
unfolding hex_digit
hex_digit_lem d h = go (ltb d 10) refl
  where
    go : (b : Bool) → ltb d 10 ≡ b → d + 48 + (d + 6) / 16 * 39 ≡ hex_digit d
    go true e = let l : d < 10 = ltb-true d 10 e in rw e (omega arith)
    go false e = let l : 10 ≤ d = ltb-false d 10 e in rw e (omega arith)

-- the element at i, and then the others
pub drop_next : (xs : List ℕ) (i : ℕ) → i < length xs → drop i xs ≡ get_or xs i 0 ∷ drop (i + 1) xs
drop_next xs i h = rw (add-one, drop-cons xs i 0)

pub plain_same : (xs : List ℕ) → printed Plain xs ≡ xs
unfolding printed
plain_same [] = refl
plain_same (x ∷ xs) = ap (λ (l : List ℕ). x ∷ l) (plain_same xs)

pub hex_length : (xs : List ℕ) → length (printed Hex xs) ≡ 3 * length xs
unfolding printed
hex_length [] = refl
hex_length (x ∷ xs) = omega (arith, hex_length xs)

-- once some octets are put from here on, the whole is there
abbrev pub Left : List ℕ → ℕ → List ℕ → List ℕ → ℕ → List ℕ → Type 0
Left first start whole text at octets = (end : ℕ) (last : List ℕ) → Clips text at octets end last → Clips first start whole end last

module _ (s : Printing) (octets : List ℕ) {first : List ℕ} {start : ℕ} {whole text : List ℕ} {at : ℕ} where
  -- the octet at i is put
  pub next_printed : (i : ℕ) → i < length octets → Left first start whole text at (printed s (drop i octets))
      → {next : ℕ} {after : List ℕ} → Clips text at (printed_octet s (get_or octets i 0)) next after
      → Left first start whole after next (printed s (drop (i + 1) octets))
  unfolding printed
  next_printed i h left p end last q = left end last (rw (drop_next octets i h) (then p q))

  -- nothing is left
  pub all_printed : (i : ℕ) → length octets ≤ i → Left first start whole text at (printed s (drop i octets))
      → Clips text at [] at text → Clips first start whole at text
  unfolding printed
  all_printed i h left p = left at text (rw (drop_of_length-le octets h) p)
