-- Text put piece by piece. Assumes nothing.
use mathlib.Core.Path.{◌≡◌, refl, sym, ap, ◌∙◌}
use mathlib.Core.Bool.{Bool, true, false}
use mathlib.Core.List.{List, [], ◌∷◌, ◌++◌, append-nil}
use Prim.Native.Nat.{ℕ, suc, ◌+◌, ◌≤◌, min}
use native.Mathlib.Omega.{arith}
use lib.Dec.{leb}
use lib.ListN.{length, take, drop, length-append}
use lib.Seq.{sets, sets-eq, length-sets, set_out, paste, take_all}
use borrow.Author.Tests.{leb-true, leb-false}
use Rattle.field_words.proofs.Sets.{sets_append}
use Rattle.text_output.specs.Clips.{text_room, Clips}

-- octets past the end change nothing
sets_past : (l : List ℕ) (i : ℕ) (vs : List ℕ) → length l ≤ i → sets l i vs ≡ l
sets_past l i [] h = refl
sets_past l i (v ∷ vs) h = rw (set_out l i v h) (sets_past l (suc i) vs (omega arith))

-- a place past the end is as good as the end
sets_clipped : (l : List ℕ) (i : ℕ) (vs : List ℕ) → sets l (min i (length l)) vs ≡ sets l i vs
sets_clipped l i vs = go (leb (length l) i) refl
  where
    go : (b : Bool) → leb (length l) i ≡ b → sets l (min i (length l)) vs ≡ sets l i vs
    go true e =
        let h : length l ≤ i = leb-true (length l) i e in
        sets_past l (min i (length l)) vs (omega arith) ∙ sym (sets_past l i vs h)
    go false e =
        let h = leb-false (length l) i e in
        let same : min i (length l) ≡ i = omega arith in
        ap (λ (n : ℕ). sets l n vs) same

-- octets that fit, pasted
pub pasted : (l : List ℕ) (at : ℕ) (vs : List ℕ) → at + length vs ≤ length l → paste l at vs (length vs) ≡ sets l at vs
pasted l at vs h =
    ap (λ (xs : List ℕ). take at l ++ xs ++ drop (at + length vs) l) (take_all (length vs) vs (omega arith)) ∙ sym (sets-eq vs l at h)

-- no octets are put
pub none_put : (room : List ℕ) (end : ℕ) → length room ≡ text_room → end ≤ text_room → Clips room end [] end room
none_put room end long within = record { room = long; ends = omega (arith, within); leaves = refl }

module _ {before : List ℕ} {at : ℕ} {us : List ℕ} {next : ℕ} {after : List ℕ} (p : Clips before at us next after) where
  pub clips_long : length after ≡ length before
  clips_long = ap length p.leaves ∙ length-sets before at us

  -- a piece behind another
  pub then : {vs : List ℕ} {end : ℕ} {last : List ℕ} → Clips after next vs end last → Clips before at (us ++ vs) end last
  then {vs} {end} {last} q =
      record {
        room = p.room;
        ends = simp length-append (omega (arith, p.ends, q.ends));
        leaves =
            q.leaves
            ∙ ap (λ (n : ℕ). sets after n vs) (p.ends ∙ ap (λ (n : ℕ). min (at + length us) n) (sym q.room))
            ∙ sets_clipped after (at + length us) vs
            ∙ ap (λ (l : List ℕ). sets l (at + length us) vs) p.leaves
            ∙ sym (sets_append before at us vs);
      }

  -- the last piece of some
  pub last_piece : Clips before at (us ++ []) next after
  last_piece = rw (append-nil us) p

  -- where all of it fits all of it is put
  pub all_fits : at + length us ≤ text_room → next ≡ at + length us
  all_fits h = omega (arith, p.ends)
