-- The test of a word is the test of each of its octets, which antt computes at all 256. Assumes nothing.
use mathlib.Core.Path.{◌≡◌, refl, sym, ap, ap₂, ◌∙◌, subst}
use mathlib.Core.Bool.{cond}
use mathlib.Core.List.{List, [], ◌∷◌, ◌++◌}
use Prim.Native.Nat.{ℕ, zero, suc, ◌+◌, ◌*◌, ◌/◌, ◌%◌, ◌<◌}
use native.Mathlib.Omega.{arith}
use native.Mathlib.Nat.{mod-lt, div-add-mod'}
use lib.Dec.{eqb}
use lib.Bits.{bit_and, bit_xor, and_block, xor_block, and_le_r, and_lt, xor_lt}
use Rattle.crc_polynomial.proofs.Linear.{up_from, everywhere}
use Rattle.field_words.specs.Words.{octets_up}
use Rattle.ucp_frame.specs.Frame.{escaped, stuffed}

-- an octet, k times
abbrev repeated : ℕ → ℕ → ℕ
repeated x zero = 0
repeated x (suc k) = repeated x k * 256 + x

abbrev one : ℕ → ℕ
one octet = bit_and (bit_and (bit_and octet 127 + 3) (bit_xor octet 128)) 128

abbrev pub test : ℕ → ℕ → ℕ
test k word = bit_and (bit_and (bit_and word (repeated 127 k) + repeated 3 k) (bit_xor word (repeated 128 k))) (repeated 128 k)

sums : (a b x y : ℕ) → a * 256 + x + (b * 256 + y) ≡ (a + b) * 256 + (x + y)
sums a b x y = omega arith

none : (a b : ℕ) → a * 256 + b ≡ 0 → (a ≡ 0) × (b ≡ 0)
none a b e = (omega arith, omega arith)

test_step : (k word : ℕ) → test (suc k) word ≡ test k (word / 256) * 256 + one (word % 256)
test_step k word =
    let q = word / 256 in
    let o = word % 256 in
    let ho : o < 256 = mod-lt word (omega arith) in
    let is : word ≡ q * 256 + o = sym (div-add-mod' word 256) in
    let near : bit_and o 127 + 3 < 256 = omega (arith, and_le_r o 127) in
    let top : bit_xor o 128 < 256 = xor_lt 8 o 128 ho (omega arith) in
    ap (λ (n : ℕ). bit_and n (repeated 128 (suc k)))
    (ap₂ bit_and
    (ap (λ (n : ℕ). n + repeated 3 (suc k))
    (ap (λ (n : ℕ). bit_and n (repeated 127 (suc k))) is ∙ and_block 8 q (repeated 127 k) o 127 ho (omega arith))
    ∙ sums (bit_and q (repeated 127 k)) (repeated 3 k) (bit_and o 127) 3)
    (ap (λ (n : ℕ). bit_xor n (repeated 128 (suc k))) is ∙ xor_block 8 q (repeated 128 k) o 128 ho (omega arith))
    ∙ and_block 8 (bit_and q (repeated 127 k) + repeated 3 k) (bit_xor q (repeated 128 k)) (bit_and o 127 + 3) (bit_xor o 128) near top)
    ∙ and_block 8 (bit_and (bit_and q (repeated 127 k) + repeated 3 k) (bit_xor q (repeated 128 k))) (repeated 128 k)
    (bit_and (bit_and o 127 + 3) (bit_xor o 128)) 128 (and_lt 8 (bit_and o 127 + 3) (bit_xor o 128) near top) (omega arith)

-- an octet that passes is itself on the line
abbrev kept : ℕ → List ℕ
kept octet = cond (eqb (one octet) 0) (escaped octet) (octet ∷ [])

octets_computed : up_from kept 256 0 ≡ up_from (λ octet. octet ∷ []) 256 0
unfolding escaped
octets_computed = refl

octet_plain : (octet : ℕ) → octet < 256 → one octet ≡ 0 → escaped octet ≡ octet ∷ []
octet_plain octet h z =
    subst (λ (n : ℕ). cond (eqb n 0) (escaped octet) (octet ∷ []) ≡ octet ∷ []) z
    (everywhere kept (λ octet. octet ∷ []) 256 octets_computed octet h)

pub plain : (k word : ℕ) → test k word ≡ 0 → stuffed (octets_up k word) ≡ octets_up k word
unfolding stuffed octets_up
plain zero word e = refl
plain (suc k) word e =
    let z = none (test k (word / 256)) (one (word % 256)) (sym (test_step k word) ∙ e) in
    ap₂ (λ (xs ys : List ℕ). xs ++ ys) (octet_plain (word % 256) (mod-lt word (omega arith)) z.1) (plain k (word / 256) z.0)

pub near_lt : (word : ℕ) → bit_and word 0x7F7F7F7F7F7F7F7F + 0x0303030303030303 < 0x10000000000000000
near_lt word = omega (arith, and_le_r word 0x7F7F7F7F7F7F7F7F)
