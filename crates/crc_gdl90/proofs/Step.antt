-- The table's rule from one computation over all of its entries, and the step that a table allows: eight places of the long
-- division at once. Assumes nothing.
use mathlib.Core.Path.{◌≡◌, refl, sym, ap, ap₂, ◌∙◌}
use mathlib.Core.Bool.{false}
use mathlib.Core.List.{List, ◌∷◌, ◌++◌}
use Prim.Native.Nat.{ℕ, ◌+◌, ◌*◌, ◌/◌, ◌%◌, ◌<◌, ◌≤◌}
use native.Mathlib.Omega.{arith}
use native.Mathlib.Nat.{zero-add, mod-eq_of_lt}
use native.Mathlib.Numerals.{add-one}
use lib.ListN.{length, get_or, drop, drop_of_length-le, replicate}
use lib.Seq.{drop-cons}
use lib.Bits.{bit_xor}
use Rattle.crc_polynomial.specs.Polynomial.{bits_of, bits_of_octets, divided, polynomial}
use Rattle.crc_polynomial.proofs.Laws.{sum_zeros, divided_xor, divided_append, divided_lt, divided_small, polynomial_bits_of}
use Rattle.crc_polynomial.proofs.Linear.{up_from, up_from_at, two_octets}
use Rattle.crc_gdl90.specs.Check.{frame_check, table_entry, IsTable}

-- the whole table, computed
abbrev pub rule : List ℕ
rule = up_from table_entry 256 0

-- a list that is equal to it has the rule at each of its entries
pub carried : (table : List ℕ) → table ≡ rule → IsTable table
carried table e octet h = ap (λ (xs : List ℕ). get_or xs octet 0) e ∙ up_from_at table_entry 256 0 octet 0 h ∙ ap table_entry (zero-add octet)

-- an octet brought down behind n
pub octet_down : (n x : ℕ) → n < 256 → x < 256 → divided n (bits_of 8 x) ≡ n * 256 + x
octet_down n x hn hx =
    let e : polynomial n (bits_of 8 x) ≡ n * 256 + x =
    polynomial_bits_of n 8 x ∙ ap (λ (m : ℕ). n * 256 + m) (mod-eq_of_lt hx) in
    divided_small n (bits_of 8 x) (omega arith) ∙ e

-- what stands eight places above, with no coefficient brought down
shifted : (h : ℕ) → h < 256 → divided h (replicate 8 false) ≡ h * 256
unfolding polynomial
shifted h l =
    let e : polynomial h (replicate 8 false) ≡ h * 256 = omega arith in
    divided_small h (replicate 8 false) (omega arith) ∙ e

entry : (h : ℕ) → h < 256 → table_entry h ≡ divided (h * 256) (replicate 8 false)
unfolding table_entry
entry h l =
    divided_append 0 (bits_of 8 h) (replicate 16 false)
    ∙ ap (λ (r : ℕ). divided r (replicate 16 false)) (octet_down 0 h (omega arith) l ∙ zero-add h)
    ∙ divided_append h (replicate 8 false) (replicate 8 false)
    ∙ ap (λ (r : ℕ). divided r (replicate 8 false)) (shifted h l)

pub table_step : (r x : ℕ) → r < 65536 → x < 256 → divided r (bits_of 8 x) ≡ bit_xor (table_entry (r / 256)) (r % 256 * 256 + x)
unfolding bits_of
table_step r x hr hx =
    ap₂ divided (two_octets r) (sym (sum_zeros (bits_of 8 x)))
    ∙ divided_xor (r / 256 * 256) (r % 256) (replicate 8 false) (bits_of 8 x) (omega arith) (omega arith) refl
    ∙ ap₂ bit_xor (sym (entry (r / 256) (omega arith))) (octet_down (r % 256) x (omega arith) hx)

-- the octet at i, and then the others
pub octet_first : (check : ℕ) (body : List ℕ) (i : ℕ) → i < length body
    → divided check (bits_of_octets (drop i body)) ≡ divided (divided check (bits_of 8 (get_or body i 0))) (bits_of_octets (drop (i + 1) body))
unfolding bits_of_octets
octet_first check body i h =
    ap (λ (xs : List ℕ). divided check (bits_of_octets xs)) (drop-cons body i 0 h ∙ ap (λ (n : ℕ). get_or body i 0 ∷ drop n body) (sym (add-one i)))
    ∙ divided_append check (bits_of 8 (get_or body i 0)) (bits_of_octets (drop (i + 1) body))

-- the two octets from i on, and then the others
pub pair_first : (check : ℕ) (body : List ℕ) (i : ℕ) → i + 1 < length body
    → divided check (bits_of_octets (drop i body))
    ≡ divided (divided check (bits_of 8 (get_or body i 0) ++ bits_of 8 (get_or body (i + 1) 0))) (bits_of_octets (drop (i + 2) body))
pair_first check body i h =
    let on : i + 1 + 1 ≡ i + 2 = omega arith in
    octet_first check body i (omega arith)
    ∙ octet_first (divided check (bits_of 8 (get_or body i 0))) body (i + 1) h
    ∙ rw (on, divided_append)

-- no octet is left
pub none_left : (check : ℕ) (body : List ℕ) (i : ℕ) → length body ≤ i → divided check (bits_of_octets (drop i body)) ≡ check
unfolding divided bits_of_octets
none_left check body i h = ap (λ (xs : List ℕ). divided check (bits_of_octets xs)) (drop_of_length-le body h)

pub frame_check_lt : (body : List ℕ) → frame_check body < 65536
unfolding frame_check
frame_check_lt body = divided_lt 0 (bits_of_octets body) (omega arith)
