-- A struct's octets hold the value that was stored in them, proved once for every struct. Assumes nothing.
use mathlib.Core.Path.{◌≡◌, refl, ap, ap₂, ◌∙◌}
use mathlib.Core.Bool.{Bool, true, false}
use mathlib.Core.List.{List, [], ◌∷◌, ◌++◌}
use Prim.Native.Nat.{ℕ, zero, suc, ◌*◌, ◌^◌, ◌<◌}
use native.Mathlib.Omega.{arith}
use lib.ListN.{length, drop, replicate}
use Rattle.crc_polynomial.specs.Polynomial.{Octets}
use Rattle.field_layout.specs.Layout.{Within, bit_of, Run, octet_run, layout_widths, layout_fields, Whole, text_at}
use Rattle.field_layout.proofs.RoundTrips.{fields_octets, fields_within}
use Rattle.field_format.specs.Format.{Sort, Column, field, letters, Number, number_to, number_of, tested, Typed, Sound, ◌&◌, Row, made, RowTyped, row_tested, RowSound}
use Rattle.field_format.proofs.Columns.{row_before, row_within, row_back, Again, row_again as columns-again}
use Rattle.c_lent.specs.Structs.{is_yes, Member, bool, low, text, padding, struct_runs, struct_columns, struct_row_of, struct_row_to, struct_row_from, Struct, RightStruct, struct_size, stored, held, TypedIn}

yes_bit : (b : Bool) → is_yes (bit_of b) ≡ b
yes_bit true = refl
yes_bit false = refl

bit_lt : (b : Bool) → bit_of b < 256
bit_lt true = omega arith
bit_lt false = omega arith

-- ---- one number that its type has, and that has room
module _ (b : Bool) (s : Sort) (w : ℕ) (v : Number s) (sound : Sound (field s w)) (t : Typed (field s w) v)
    (h : tested b (field s w) v ≡ true) where
  number_lt : number_to s w v < 2 ^ w
  number_lt = (row_within b (field s w ∷ []) (v & tt) (sound, tt) (t, tt) h).0

  number_back : number_of s w (number_to s w v) ≡ v
  number_back = ap (λ (r : Row (field s w ∷ [])). r.first) (row_back b (field s w ∷ []) (v & tt) (sound, tt) (t, tt) h)

-- ---- padding
padded_whole : (n : ℕ) (rs : List Run) → Whole rs → Whole (replicate n octet_run ++ rs)
padded_whole zero rs h = h
padded_whole (suc n) rs h = (refl, padded_whole n rs h)

padded_within : (n : ℕ) (rs : List Run) (vs : List ℕ) → Within (layout_widths rs) vs
    → Within (layout_widths (replicate n octet_run ++ rs)) (replicate n 0 ++ vs)
padded_within zero rs vs h = h
padded_within (suc n) rs vs h = (omega arith, padded_within n rs vs h)

padding_gone : (n : ℕ) (vs : List ℕ) → drop n (replicate n 0 ++ vs) ≡ vs
padding_gone zero vs = refl
padding_gone (suc n) vs = padding_gone n vs

-- ---- the members
module _ {A : Type 0} where
  whole : (ms : List (Member A)) → Whole (struct_runs ms)
  whole [] = tt
  whole (bool get ∷ ms) = (refl, whole ms)
  whole (low n s get ∷ ms) = whole ms
  whole (text get ∷ ms) = (refl, (refl, (refl, (refl, (refl, (refl, (refl, (refl, whole ms))))))))
  whole (padding n ∷ ms) = padded_whole n (struct_runs ms) (whole ms)

  within : (b : Bool) (ms : List (Member A)) (r : Row (struct_columns ms)) → RowSound (struct_columns ms) → RowTyped (struct_columns ms) r
      → row_tested b (struct_columns ms) r ≡ true → Within (layout_widths (struct_runs ms)) (struct_row_to ms r)
  within b [] r s t h = tt
  within b (bool get ∷ ms) r s t h = (bit_lt r.first, within b ms r.rest s.1 t.1 h)
  within b (low n k get ∷ ms) r s t h =
      let c = tested b (field k (n * 8)) r.first in (
        number_lt b k (n * 8) r.first s.0 t.0 (row_before c (struct_columns ms) r.rest h),
        within c ms r.rest s.1 t.1 h,
      )
  within b (text get ∷ ms) r s t h =
      let l = t.0 in
      (l.0, (l.1, (l.2, (l.3, (l.4, (l.5, (l.6, (l.7, within b ms r.rest s.1 t.1 h))))))))
  within b (padding n ∷ ms) r s t h = padded_within n (struct_runs ms) (struct_row_to ms r) (within b ms r s t h)

  row_again : (b : Bool) (ms : List (Member A)) (r : Row (struct_columns ms)) → RowSound (struct_columns ms) → RowTyped (struct_columns ms) r
      → row_tested b (struct_columns ms) r ≡ true → struct_row_from ms (struct_row_to ms r) ≡ r
  row_again b [] r s t h = refl
  row_again b (bool get ∷ ms) r s t h =
      ap₂ (λ (v : Bool) (o : Row (struct_columns ms)). v & o) (yes_bit r.first) (row_again b ms r.rest s.1 t.1 h)
  row_again b (low n k get ∷ ms) r s t h =
      let c = tested b (field k (n * 8)) r.first in
      ap₂ (λ (v : Number k) (o : Row (struct_columns ms)). v & o)
      (number_back b k (n * 8) r.first s.0 t.0 (row_before c (struct_columns ms) r.rest h))
      (row_again c ms r.rest s.1 t.1 h)
  row_again b (text get ∷ ms) r s t h =
      ap (λ (o : Row (struct_columns ms)). r.first & o) (row_again b ms r.rest s.1 t.1 h)
  row_again b (padding n ∷ ms) r s t h =
      ap (struct_row_from ms) (padding_gone n (struct_row_to ms r)) ∙ row_again b ms r s t h

-- the two definitions agree
pub held_stored : {A : Type 0} (s : Struct A) → RightStruct s → (a : A) → TypedIn s a → held s (stored s a) ≡ a
unfolding held stored
held_stored s ok a t =
    ap (λ (vs : List ℕ). made (struct_columns s.members) s.value (struct_row_from s.members vs))
    (fields_octets (struct_runs s.members) (struct_row_to s.members (struct_row_of s.members a)) (whole s.members)
    (within true s.members (struct_row_of s.members a) ok.sound t.0 t.1))
    ∙ ap (made (struct_columns s.members) s.value)
    (row_again true s.members (struct_row_of s.members a) ok.sound t.0 t.1)
    ∙ ok.back a

-- ---- what octets hold is typed, and has room
-- a number within its width
module _ (s : Sort) (w n : ℕ) (sound : Sound (field s w)) (h : n < 2 ^ w) where
  number_again : Again (field s w ∷ []) (n ∷ [])
  number_again = columns-again (field s w ∷ []) (n ∷ []) (sound, tt) (h, tt)

-- eight octets, and what is behind them
text_typed : (ws vs : List ℕ) → Within (8 ∷ 8 ∷ 8 ∷ 8 ∷ 8 ∷ 8 ∷ 8 ∷ 8 ∷ ws) vs → Typed letters (text_at vs 0) × Within ws (drop 8 vs)
text_typed ws [] h = absurd h
text_typed ws (a ∷ []) h = absurd h.1
text_typed ws (a ∷ b ∷ []) h = absurd h.1.1
text_typed ws (a ∷ b ∷ c ∷ []) h = absurd h.1.1.1
text_typed ws (a ∷ b ∷ c ∷ d ∷ []) h = absurd h.1.1.1.1
text_typed ws (a ∷ b ∷ c ∷ d ∷ e ∷ []) h = absurd h.1.1.1.1.1
text_typed ws (a ∷ b ∷ c ∷ d ∷ e ∷ f ∷ []) h = absurd h.1.1.1.1.1.1
text_typed ws (a ∷ b ∷ c ∷ d ∷ e ∷ f ∷ g ∷ []) h = absurd h.1.1.1.1.1.1.1
text_typed ws (a ∷ b ∷ c ∷ d ∷ e ∷ f ∷ g ∷ i ∷ vs) h =
    ((h.0, h.1.0, h.1.1.0, h.1.1.1.0, h.1.1.1.1.0, h.1.1.1.1.1.0, h.1.1.1.1.1.1.0, h.1.1.1.1.1.1.1.0), h.1.1.1.1.1.1.1.1)

padding_dropped : (n : ℕ) (rs : List Run) (vs : List ℕ) → Within (layout_widths (replicate n octet_run ++ rs)) vs → Within (layout_widths rs) (drop n vs)
padding_dropped zero rs vs h = h
padding_dropped (suc n) rs [] h = absurd h
padding_dropped (suc n) rs (v ∷ vs) h = padding_dropped n rs vs h.1

-- each number is one that its type has, and the tests of its room change nothing
abbrev RowOk : (cs : List Column) → Row cs → Type 0
RowOk cs r = RowTyped cs r × ((b : Bool) → row_tested b cs r ≡ b)

module _ {A : Type 0} where
  row_typed : (ms : List (Member A)) (vs : List ℕ) → RowSound (struct_columns ms) → Within (layout_widths (struct_runs ms)) vs
      → RowOk (struct_columns ms) (struct_row_from ms vs)
  row_typed [] vs s h = (tt, λ b. refl)
  row_typed (bool get ∷ ms) [] s h = absurd h
  row_typed (bool get ∷ ms) (v ∷ vs) s h = let r = row_typed ms vs s.1 h.1 in ((tt, r.0), r.1)
  row_typed (low n k get ∷ ms) [] s h = absurd h
  row_typed (low n k get ∷ ms) (v ∷ vs) s h =
      let r = row_typed ms vs s.1 h.1 in
      let a = number_again k (n * 8) v s.0 h.0 in
      ((a.typed.0, r.0), λ b. r.1 (tested b (field k (n * 8)) (number_of k (n * 8) v)) ∙ a.fit b)
  row_typed (text get ∷ ms) vs s h =
      let t = text_typed (layout_widths (struct_runs ms)) vs h in
      let r = row_typed ms (drop 8 vs) s.1 t.1 in
      ((t.0, r.0), r.1)
  row_typed (padding n ∷ ms) vs s h = row_typed ms (drop n vs) s (padding_dropped n (struct_runs ms) vs h)

-- where the members of a value made of members are these
pub held_typed : {A : Type 0} (s : Struct A) → RightStruct s
    → ((r : Row (struct_columns s.members)) → struct_row_of s.members (made (struct_columns s.members) s.value r) ≡ r)
    → (message : List ℕ) → Octets message → length message ≡ struct_size s → TypedIn s (held s message)
unfolding held
held_typed s ok again message is n =
    let vs : List ℕ = layout_fields (struct_runs s.members) message in
    let r = row_typed s.members vs ok.sound (fields_within (struct_runs s.members) message (whole s.members) is n) in
    let e = again (struct_row_from s.members vs) in
    rw e (r.0, r.1 true)
