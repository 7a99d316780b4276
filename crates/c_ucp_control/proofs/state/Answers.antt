-- `c_ucp_control::state` meets its contract: the marks of the struct's first four octets, and two bits, have their places. Assumes
-- nothing.
use mathlib.Core.Path.{◌≡◌, sym, ap, ap₂, ◌∙◌}
use mathlib.Core.List.{List, [], ◌∷◌}
use Prim.Native.Nat.{ℕ, ◌+◌, ◌*◌, ◌/◌, ◌%◌, ◌<◌, ◌≤◌}
use native.Mathlib.Omega.{arith}
use lib.ListN.{length, get_or}
use Rattle.field_layout.specs.Steps.{little32}
use Rattle.field_layout.proofs.Elements.{by_elements}
use Rattle.field_words.specs.Words.{octets_up}
use Rattle.field_format.specs.Format.{body_of}
use Rattle.c_lent.specs.Structs.{held}
use Rattle.c_ucp_control.specs.Struct.{control_struct, control_state}
use Rattle.c_ucp_control.specs.Steps.{marks}
use Rattle.c_ucp_control.proofs.Marks.{worth, few, gathered}
use Rattle.c_ucp_control.proofs.state.Goals as goal

low : (n x : ℕ) → x < 256 → (n * 256 + x) % 256 ≡ x
low n x h = omega arith

others : (n x : ℕ) → x < 256 → (n * 256 + x) / 256 ≡ n
others n x h = omega arith

mod-small : (x : ℕ) → x < 256 → x % 256 ≡ x
mod-small x h = omega arith

-- the struct's octets, what was made of the number that the first four are, and the two bits
module _ (message : List ℕ) (whole : length message ≡ 24) (small : (i : ℕ) → get_or message i 0 < 256) (yes ident baro : ℕ)
    (marked : yes ≡ marks (octets_up 4 (little32 message 0))) (i4 : ident ≡ worth (get_or message 4 0) * 8)
    (i6 : baro ≡ worth (get_or message 6 0) * 1) where
  abbrev at : ℕ → ℕ
  at k = get_or message k 0

  four : octets_up 4 (little32 message 0) ≡ at 0 ∷ at 1 ∷ at 2 ∷ at 3 ∷ []
  unfolding octets_up
  four =
      let n2 = at 3 * 256 + at 2 in
      let n1 = n2 * 256 + at 1 in
      let n0 : little32 message 0 ≡ n1 * 256 + at 0 = omega arith in
      ap (octets_up 4) n0
      ∙ ap₂ (λ (x n : ℕ). x ∷ octets_up 3 n) (low n1 (at 0) (small 0)) (others n1 (at 0) (small 0))
      ∙ ap₂ (λ (x n : ℕ). at 0 ∷ x ∷ octets_up 2 n) (low n2 (at 1) (small 1)) (others n2 (at 1) (small 1))
      ∙ ap₂ (λ (x n : ℕ). at 0 ∷ at 1 ∷ x ∷ octets_up 1 n) (low (at 3) (at 2) (small 2)) (others (at 3) (at 2) (small 2))
      ∙ ap (λ (x : ℕ). at 0 ∷ at 1 ∷ at 2 ∷ x ∷ []) (mod-small (at 3) (small 3))

  high_is : yes / 128 * 0x80402010 / 16777216 % 256
      ≡ worth (at 0) * 128 + (worth (at 1) * 64 + (worth (at 2) * 32 + worth (at 3) * 16))
  high_is =
      ap (λ (y : ℕ). y / 128 * 0x80402010 / 16777216 % 256) (marked ∙ ap marks four) ∙ gathered (at 0) (at 1) (at 2) (at 3)

  abbrev sum : ℕ
  sum = yes / 128 * 0x80402010 / 16777216 % 256 + (ident + (at 5 * 2 + baro))

  placed : sum ≡ worth (at 0) * 128 + (worth (at 1) * 64 + (worth (at 2) * 32 + (worth (at 3) * 16 + (worth (at 4) * 8 + (at 5 * 2 + worth (at 6))))))
  placed = omega (arith, high_is, i4, i6)

  sum_fits : at 5 ≤ 3 → sum ≤ 255
  sum_fits h = omega (arith, placed, few (at 0), few (at 1), few (at 2), few (at 3), few (at 4), few (at 6))

  sum_is : sum ≡ control_state (held control_struct message)
  unfolding body_of held
  sum_is = placed ∙ ap (λ (xs : List ℕ). control_state (held control_struct xs)) (sym (by_elements 24 message whole))

pub overflow_add-result-3 : goal.overflow_add-result-3
overflow_add-result-3 c =
    let marked = c.marked-yes.ensures ∙ ap (λ (w : ℕ). marks (octets_up 4 w)) c.little_32.ensures in
    omega (arith, sum_fits c.args.message.now c.requires.0 (λ i. (c.shared_slice_known-1.given i).fits) _ _ _ marked c.bit-ident.ensures.0 c.bit-baro_checked.ensures.0 (omega arith))

pub returns : goal.returns
returns c =
    let marked = c.marked-yes.ensures ∙ ap (λ (w : ℕ). marks (octets_up 4 w)) c.little_32.ensures in
    sum_is c.args.message.now c.requires.0 (λ i. (c.shared_slice_known-1.given i).fits) _ _ _ marked c.bit-ident.ensures.0 c.bit-baro_checked.ensures.0
