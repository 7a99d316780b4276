-- Octets that are marked where they are not 0, all of a word at once, and the marks of four octets side by side. Assumes nothing.
use mathlib.Core.Path.{◌≡◌, refl, ap, ap₂, ◌∙◌}
use mathlib.Core.List.{[], ◌∷◌}
use Prim.Native.Nat.{ℕ, zero, suc, ◌+◌, ◌*◌, ◌/◌, ◌%◌, ◌<◌, ◌≤◌}
use native.Mathlib.Omega.{arith}
use native.Mathlib.Nat.{add_comm}
use mathlib.Core.Bool.{Bool, true, false}
use lib.Bits.{bit_and, bit_or, and_zero_r, and_le_r, and_block, or_block, or_lt}
use Rattle.crc_polynomial.proofs.Linear.{up_from, everywhere}
use Rattle.field_words.specs.Words.{octets_up}
use Rattle.field_layout.specs.Layout.{bit_of}
use Rattle.c_lent.specs.Structs.{is_yes}
use Rattle.c_ucp_control.specs.Steps.{marks}

-- the same octet n times
abbrev repeated : ℕ → ℕ → ℕ
repeated zero x = 0
repeated (suc n) x = repeated n x * 256 + x

-- an octet, computed at each
octet : ℕ → ℕ
octet x = bit_and (bit_or (bit_and x 127 + 127) x) 128

computed : up_from octet 256 0 ≡ up_from (λ x. bit_of (is_yes x) * 128) 256 0
unfolding octet
computed = refl

one : (x : ℕ) → x < 256 → octet x ≡ bit_of (is_yes x) * 128
one = everywhere octet (λ x. bit_of (is_yes x) * 128) 256 computed

-- a word: no octet's sum goes over into the next
pub each : (n w : ℕ)
    → bit_and (bit_or (bit_and w (repeated n 127) + repeated n 127) w) (repeated n 128) ≡ marks (octets_up n w)
unfolding octets_up octet
each zero w = and_zero_r (bit_or (bit_and w 0 + 0) w)
each (suc n) w =
    let h = w / 256 in
    let x = w % 256 in
    let l = repeated n 127 in
    let t = repeated n 128 in
    let a = bit_and h l in
    let b = bit_and x 127 in
    let few : b ≤ 127 = and_le_r x 127 in
    let split : w ≡ h * 256 + x = omega arith in
    let sum : a * 256 + b + (l * 256 + 127) ≡ (a + l) * 256 + (b + 127) = omega arith in
    ap (λ (m : ℕ). bit_and (bit_or (m + (l * 256 + 127)) w) (t * 256 + 128))
    (ap (λ (m : ℕ). bit_and m (l * 256 + 127)) split ∙ and_block 8 h l x 127 (omega arith) (omega arith))
    ∙ ap (λ (m : ℕ). bit_and (bit_or m w) (t * 256 + 128)) sum
    ∙ ap (λ (m : ℕ). bit_and (bit_or ((a + l) * 256 + (b + 127)) m) (t * 256 + 128)) split
    ∙ ap (λ (m : ℕ). bit_and m (t * 256 + 128)) (or_block 8 (a + l) h (b + 127) x (omega arith) (omega arith))
    ∙ and_block 8 (bit_or (a + l) h) t (bit_or (b + 127) x) 128 (or_lt 8 (b + 127) x (omega arith) (omega arith)) (omega arith)
    ∙ ap₂ (λ (m k : ℕ). m * 256 + k) (each n h) (one x (omega arith))
    ∙ add_comm (marks (octets_up n h) * 256) (bit_of (is_yes x) * 128)

-- ---- of four octets
abbrev pub worth : ℕ → ℕ
worth x = bit_of (is_yes x)

cases : (t : Bool) → bit_of t ≤ 1
cases true = omega arith
cases false = omega arith

pub few : (x : ℕ) → worth x ≤ 1
few x = cases (is_yes x)

module _ (x0 x1 x2 x3 : ℕ) where
  abbrev all : ℕ
  all = marks (x0 ∷ x1 ∷ x2 ∷ x3 ∷ [])

  each_one : all / 128 ≡ worth x0 + (worth x1 * 256 + (worth x2 * 65536 + worth x3 * 16777216))
  each_one = omega arith

  -- from bit 24 on: in the low octet the four stand, the first highest, and the terms above are whole octets
  abbrev above : ℕ
  above = worth x1 * 128 + (worth x2 * 32832 + worth x3 * 8405024)

  abbrev low : ℕ
  low = worth x0 * 128 + (worth x1 * 64 + (worth x2 * 32 + worth x3 * 16))

  product : all / 128 * 0x80402010 / 16777216 ≡ above * 256 + low
  product = omega (arith, each_one, few x0, few x1, few x2, few x3)

  pub gathered : all / 128 * 0x80402010 / 16777216 % 256 ≡ low
  gathered = ap (λ (m : ℕ). m % 256) product ∙ omega (arith, few x0, few x1, few x2, few x3)
