-- A text with a whole line put, from its parts. Assumes nothing.
use mathlib.Core.Path.{◌≡◌, sym, refl, ◌∙◌, ap}
use mathlib.Core.List.{List, ◌++◌}
use Prim.Native.Nat.{ℕ, ◌+◌, ◌≤◌}
use native.Mathlib.Omega.{arith}
use lib.ListN.{length}
use lib.Seq.{sets, sets-eq, length-sets, take_all, paste}
use Rattle.output_writing.specs.Puts.{Puts}
use Rattle.text_ucp_listing.specs.Listing.{decimal, hex_octets, newline, ok_word, no_word, ok_line, no_line, counted}
use Rattle.output_writing.proofs.ToPut.{ToPut, all_to_put, last_put}

-- octets are left to put at a place, and then `first` has all of `whole` from `start` on
abbrev pub Left : (first : List ℕ) (start : ℕ) (whole : List ℕ) (text : List ℕ) (at : ℕ) (octets : List ℕ) → Type 0
Left first start whole text at octets = ToPut text at octets (start + length whole) (sets first start whole)

-- all of it is put
pub put_all : {first : List ℕ} {start : ℕ} {whole text : List ℕ} {at : ℕ} {octets : List ℕ} → Left first start whole text at octets
    → {next : ℕ} {after : List ℕ} → Puts text at octets next after → Puts first start whole next after
put_all t p = record { ends = (last_put t p).0; leaves = (last_put t p).1 }

pub same_long : {before : List ℕ} {at : ℕ} {octets : List ℕ} {next : ℕ} {after : List ℕ} → Puts before at octets next after
    → length after ≡ length before
same_long {before} {at} {octets} p = ap length p.leaves ∙ length-sets before at octets

-- ---- a word that is copied

pub copied : (text word : List ℕ) (at : ℕ) → at + length word ≤ length text → paste text at word (length word) ≡ sets text at word
copied text word at h = rw (take_all (length word) word (omega arith)) (sym (sets-eq word text at h))

-- ---- lines, before any of their parts is put

module _ (text : List ℕ) (at : ℕ) where
  pub counted_left : (word : List ℕ) (n : ℕ) → at + length (counted word n) ≤ length text
      → Left text at (counted word n) text at (word ++ decimal n)
  unfolding counted
  counted_left word n h = all_to_put text at refl h

  pub ok_left : (body : List ℕ) → at + length (ok_line body) ≤ length text
      → Left text at (ok_line body) text at (ok_word ++ (decimal (length body) ++ (hex_octets body ++ newline)))
  unfolding ok_line
  ok_left body h = all_to_put text at refl h

  pub no_left : (number : ℕ) → at + length (no_line number) ≤ length text
      → Left text at (no_line number) text at (no_word ++ (decimal number ++ newline))
  unfolding no_line
  no_left number h = all_to_put text at refl h
