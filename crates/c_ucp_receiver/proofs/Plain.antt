-- An octet that is only stored, or only counted, on the numbers. Assumes nothing.
use Rattle.std.proofs.Common.{◌≡◌, ℕ, ◌+◌, ◌<◌, Bool, true, false, eqb, List, length, get_or, set, sym, refl, ap, ◌∙◌, subst, arith, lt-ltb, ne_eqb, eqb-true, None}
use lib.Seq.{set-get_or}
use borrow.Author.Tests.{eqb-false}
use Rattle.ucp_frame.specs.Frame.{flag, escape}
use Rattle.ucp_frame.specs.Stretch.{store_octets}
use Rattle.ucp_receiver.specs.declared.Phase.{Phase}
use Rattle.ucp_receiver.specs.declared.Phase.TheVariants.{Reading, BadEscape, TooLong}
use Rattle.ucp_receiver.specs.declared.Counts.{Counts}
use Rattle.ucp_receiver.specs.Account.{plus, counted_open}
use Rattle.ucp_receiver.specs.Octet.{State, storing, advanced_in, state_after, verdict_due, counted_octet, counts_after}
use Rattle.c_ucp_receiver.specs.Numbers.{phase_of, phase_number, counts_in, ReceivesNumbers}
use Rattle.c_ucp_receiver.proofs.Numbers.{phase_back, receives, seven}

-- ---- in a phase that counts an octet as open
module _ (line store : List ℕ) (octet : ℕ) (output : List ℕ) (whole : length line ≡ 7) (no_flag : octet ≡ flag → ⊥)
    (phase : Phase) (number : get_or line 0 0 ≡ phase_number phase)
    (counted : (c : Counts) → counted_octet phase c ≡ counted_open c) where
  abbrev before : State
  before = record { rest = record { phase = phase; stored = get_or line 1 0 }; store = store }

  in_phase : phase_of (get_or line 0 0) ≡ phase
  in_phase = ap phase_of number ∙ phase_back phase

  -- the call, by what the phase makes of the octet
  counts_open : (stored : ℕ) (store_after : List ℕ)
      → record { rest = record { phase = phase; stored = stored }; store = store_after } ≡ advanced_in phase octet before
      → ReceivesNumbers store line octet output 0 0 store_after (set (set line 1 stored) 6 (plus (get_or line 6 0) 1)) output
  unfolding state_after verdict_due counts_after
  counts_open stored store_after e =
      receives _ 0 0 (record { rest = record { phase = phase; stored = stored }; counts = counted_open (counts_in line) }) None
      (rw (seven line whole, number)) refl refl line store octet output store_after output
      (record {
        state = rw (ne_eqb octet flag no_flag, in_phase) e;
        account = rw (ne_eqb octet flag no_flag, in_phase) (sym (counted (counts_in line)));
        answers = rw (ne_eqb octet flag no_flag);
        puts = rw (ne_eqb octet flag no_flag);
      })

-- a plain octet in a stretch without a fault is stored
pub plain : (line store : List ℕ) (octet : ℕ) (output : List ℕ) → length line ≡ 7 → get_or line 0 0 ≡ 1
    → get_or line 1 0 < store_octets → (octet ≡ flag → ⊥) → (octet ≡ escape → ⊥)
    → ReceivesNumbers store line octet output 0 0 (set store (get_or line 1 0) octet)
    (set (set line 1 (get_or line 1 0 + 1)) 6 (plus (get_or line 6 0) 1)) output
unfolding storing
plain line store octet output whole reading room no_flag no-escape =
    counts_open line store octet output whole no_flag Reading reading (λ c. refl) (get_or line 1 0 + 1) (set store (get_or line 1 0) octet)
    (rw (ne_eqb octet escape no-escape, lt-ltb (get_or line 1 0) store_octets room))

-- any octet behind a fault is counted and no more
pub ignored : (line store : List ℕ) (octet : ℕ) (output : List ℕ) → length line ≡ 7 → 2 < get_or line 0 0 → get_or line 0 0 < 5
    → (octet ≡ flag → ⊥)
    → ReceivesNumbers store line octet output 0 0 store (set line 6 (plus (get_or line 6 0) 1)) output
ignored line store octet output whole least most no_flag =
    subst (λ (l : List ℕ). ReceivesNumbers store line octet output 0 0 store (set l 6 (plus (get_or line 6 0) 1)) output)
    (set-get_or line 1 0)
    (go (eqb (get_or line 0 0) 3) refl)
  where
    go : (t : Bool) → eqb (get_or line 0 0) 3 ≡ t
        → ReceivesNumbers store line octet output 0 0 store (set (set line 1 (get_or line 1 0)) 6 (plus (get_or line 6 0) 1)) output
    go true e = counts_open line store octet output whole no_flag BadEscape (eqb-true _ _ e) (λ c. refl) (get_or line 1 0) store refl
    go false e =
        let other : get_or line 0 0 ≡ 3 → ⊥ = eqb-false _ _ e in
        counts_open line store octet output whole no_flag TooLong (omega arith) (λ c. refl) (get_or line 1 0) store refl
