-- Octets that are stored as they are, eight at a time and one by one. Assumes nothing.
use Rattle.std.proofs.Common.{◌≡◌, ℕ, suc, ◌+◌, ◌*◌, ◌/◌, ◌<◌, ◌≤◌, false, ◌||◌, eqb, List, [], ◌∷◌, ◌++◌, length, length-drop, length-take, length-take-le, get_or, take, take-take, drop, drop-cons, set, sym, refl, ap, ◌∙◌, subst, add-zero, arith}
use lib.Seq.{sets, take-add}
use Rattle.ucp_frame.specs.Frame.{flag, escape, stuffed}
use Rattle.ucp_frame.specs.Stretch.{store_octets}
use Rattle.ucp_frame.proofs.Stuffing.{stuffed_append, escaped_one}
use Rattle.ucp_receiver.specs.Steps.{Plain, StoresPlain}

-- what two parts of a line are, they are together
both : (n k : ℕ) (line : List ℕ) → Plain line n → Plain (drop n line) k → Plain line (n + k)
both n k line p q =
    record {
      within = omega (arith, p.within, q.within, length-drop {A = ℕ});
      plain = rw take-add (stuffed_append (take n line) (take k (drop n line)) ∙ rw (p.plain, q.plain));
    }

-- two parts of a list are put one behind the other
sets_append : (xs ys store : List ℕ) (at : ℕ) → sets store at (xs ++ ys) ≡ sets (sets store at xs) (at + length xs) ys
sets_append [] ys store at = ap (λ (k : ℕ). sets store k ys) (sym (add-zero at))
sets_append (x ∷ xs) ys store at =
    let place : suc at + length xs ≡ at + suc (length xs) = omega arith in
    sets_append xs ys (set store at x) (suc at) ∙ ap (λ (k : ℕ). sets (sets store at (x ∷ xs)) k ys) place

-- no octet is stored
pub none_put : (store line : List ℕ) (stored : ℕ) → stored ≤ store_octets → StoresPlain store stored line 0 store
unfolding stuffed
none_put store line stored h = record { fits = omega arith; plain = record { within = omega arith; plain = refl }; puts = refl }

-- octets more
puts_more : {store line s : List ℕ} {stored n : ℕ} → StoresPlain store stored line n s → (k : ℕ) (xs : List ℕ)
    → stored + length line ≤ store_octets → n + k ≤ length line
    → xs ≡ take k (drop n line) → stuffed xs ≡ xs → StoresPlain store stored line (n + k) (sets s (stored + n) xs)
puts_more {store} {line} {s} {stored} {n} p k xs room h e plain =
    let long : length (take n line) ≡ n = length-take-le n line p.plain.within in
    let next : Plain (drop n line) k =
    record { within = simp length-drop (omega arith); plain = subst (λ (l : List ℕ). stuffed l ≡ l) e plain } in
    record {
      fits = omega arith;
      plain = both n k line p.plain next;
      puts = ap (λ (l : List ℕ). sets l (stored + n) xs) p.puts
          ∙ ap (λ (l : List ℕ). sets (sets store stored (take n line)) (stored + n) l) e
          ∙ ap (λ (m : ℕ). sets (sets store stored (take n line)) (stored + m) (take k (drop n line))) (sym long)
          ∙ sym (sets_append (take n line) (take k (drop n line)) store stored)
          ∙ ap (sets store stored) (sym (take-add n k line));
    }

-- what is stored of the first octets of a line is stored of it
pub of_line : {store line s : List ℕ} {stored n : ℕ} (m : ℕ) → StoresPlain store stored (take m line) n s → StoresPlain store stored line n s
of_line {line = line} {n = n} m p =
    let most : (n ≤ m) × (n ≤ length line) = (omega (arith, p.plain.within, length-take {A = ℕ}), omega (arith, p.plain.within, length-take {A = ℕ})) in
    let cut = take-take n m line most.0 in
    record {
      fits = p.fits;
      plain = record { within = most.1; plain = rw cut at p.plain.plain };
      puts = rw cut at p.puts;
    }

-- eight octets more
pub puts_word : {store line s : List ℕ} {stored i : ℕ} → StoresPlain store stored line (i * 8) s → (xs : List ℕ)
    → stored + length line ≤ store_octets → i < length line / 8
    → xs ≡ take 8 (drop (i * 8) line) → stuffed xs ≡ xs → StoresPlain store stored line ((i + 1) * 8) (sets s (stored + i * 8) xs)
puts_word {store} {line} {s} {stored} {i} p xs room h e plain =
    let next : i * 8 + 8 ≡ (i + 1) * 8 = omega arith in
    subst (λ (n : ℕ). StoresPlain store stored line n (sets s (stored + i * 8) xs)) next (puts_more p 8 xs room (omega arith) e plain)

-- one octet more
pub puts_one : {store line s : List ℕ} {stored n : ℕ} → StoresPlain store stored line n s
    → stored + length line ≤ store_octets → n < length line
    → (eqb (get_or line n 0) flag || eqb (get_or line n 0) escape) ≡ false → StoresPlain store stored line (n + 1) (set s (stored + n) (get_or line n 0))
unfolding stuffed
puts_one {line = line} {n = n} p room h other =
    let x = get_or line n 0 in
    puts_more p 1 (x ∷ []) room (omega arith) (ap (take 1) (sym (drop-cons line n 0 h))) (ap (λ (l : List ℕ). l ++ []) (escaped_one x other))
