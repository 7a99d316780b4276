-- What the reader of a kind answers, by its tests. Assumes nothing.
use mathlib.Core.Path.{◌≡◌}
use mathlib.Core.List.{List}
use Prim.Native.Nat.{ℕ, ◌+◌, ◌<◌, ◌≤◌}
use borrow.Author.Tests.{eq-eqb, ne_eqb, lt-ltb, le-ltb}
use lib.ListN.{length, get_or}
use Rattle.mavlink_frame.specs.declared.Kind.{Kind}
use Rattle.mavlink_frame.specs.Reader.{refused, frame, header_at, check_at, check_due, found_of}

pub other_length : (k : Kind) (s : List ℕ) → (get_or s 1 0 ≡ k.length → ⊥) → found_of k s ≡ refused 23
unfolding found_of
other_length k s ne = rw (ne_eqb _ _ ne)

module _ (k : Kind) (s : List ℕ) (l : get_or s 1 0 ≡ k.length) where
  pub short : length s < k.length + 8 → found_of k s ≡ refused 20
  unfolding found_of
  short h = rw (eq-eqb _ _ l, lt-ltb _ _ h)

  pub wrong : k.length + 8 ≤ length s → (check_at k.length s ≡ check_due k.length k.extra s → ⊥) → found_of k s ≡ refused 24
  unfolding found_of
  wrong h ne = rw (eq-eqb _ _ l, le-ltb _ _ h, ne_eqb _ _ ne)

  pub right : k.length + 8 ≤ length s → check_at k.length s ≡ check_due k.length k.extra s
      → found_of k s ≡ frame k.id (header_at s) (k.length + 8)
  unfolding found_of
  right h e = rw (eq-eqb _ _ l, le-ltb _ _ h, eq-eqb _ _ e)
