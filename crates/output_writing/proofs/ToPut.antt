-- Octets still to put at a place of the output. Assumes nothing.
use mathlib.Core.Path.{◌≡◌, sym, ◌∙◌, ap, ap₂}
use mathlib.Core.List.{List, ◌++◌}
use Prim.Native.Nat.{ℕ, ◌+◌, ◌≤◌}
use native.Mathlib.Omega.{arith}
use lib.ListN.{length, length-append}
use lib.Seq.{sets, length-sets}
use Rattle.field_words.proofs.Sets.{sets_append}
use Rattle.output_writing.specs.Puts.{Puts}

-- there is room for them, they end at `end`, and once they are put the output is `final`
pub record ToPut (output : List ℕ) (at : ℕ) (octets : List ℕ) (end : ℕ) (final : List ℕ) : Type 0 where
  pub room : end ≤ length output
  pub ends : at + length octets ≡ end
  pub gives : sets output at octets ≡ final

pub all_to_put : (output : List ℕ) (at : ℕ) {octets same : List ℕ} → same ≡ octets → at + length octets ≤ length output
    → ToPut output at same (at + length octets) (sets output at octets)
all_to_put output at e h = record { room = h; ends = ap (λ (l : List ℕ). at + length l) e; gives = ap (sets output at) e }

module _ {output : List ℕ} {at end : ℕ} {final : List ℕ} (us vs : List ℕ) (t : ToPut output at (us ++ vs) end final) where
  -- there is room for the first of them
  pub first_room : at + length us ≤ length output
  first_room = omega (arith, t.room, simp length-append at t.ends)

  -- the first of them are put
  pub first_put : {next : ℕ} {after : List ℕ} → Puts output at us next after → ToPut after next vs end final
  first_put {next} {after} p = record {
    room = omega (arith, t.room, ap length p.leaves ∙ length-sets output at us);
    ends = omega (arith, p.ends, simp length-append at t.ends);
    gives =
        ap₂ (λ (l : List ℕ) (n : ℕ). sets l n vs) p.leaves p.ends ∙ sym (sets_append output at us vs) ∙ t.gives;
  }

module _ {output octets : List ℕ} {at end : ℕ} {final : List ℕ} (t : ToPut output at octets end final) where
  pub last_room : at + length octets ≤ length output
  last_room = omega (arith, t.room, t.ends)

  -- all of them are put
  pub last_put : {next : ℕ} {after : List ℕ} → Puts output at octets next after → (next ≡ end) × (after ≡ final)
  last_put p = (p.ends ∙ t.ends, p.leaves ∙ t.gives)
