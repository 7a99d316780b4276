-- The decision at a flag, in the values that the code computes from the octets of a stretch. Assumes nothing.
use Rattle.std.proofs.Common.{◌≡◌, ℕ, ◌-◌, ◌<◌, ◌≤◌, cond, eqb, ltb, List, ◌++◌, length, take, drop, sym, ap, ◌∙◌, arith, length-take, length-take-le, take-take, le-ltb, lt-ltb, eq-eqb, ne_eqb, Some, Result, Ok, Err}
use Rattle.crc_gdl90.specs.Check.{frame_check}
use Rattle.refusals.specs.declared.Refusal.{Refusal}
use Rattle.refusals.specs.declared.Refusal.TheVariants as because
use Rattle.ucp_frame.specs.Stretch.{Verdict, refused, delivered, without_check, check_sent, at_flag}
use Rattle.ucp_receiver.specs.Answers.{body, answer_for, output_at_flag}
use Rattle.ucp_receiver.specs.Closing.{Closes}
use Rattle.ucp_receiver.specs.Steps.{Judges, PutsOut}

pub too_short : (octets : List ℕ) (room : ℕ) → length octets < 3 → Judges (Err because.TooShort) octets room (at_flag octets room)
unfolding at_flag
too_short octets room l = record { means = rw (lt-ltb (length octets) 3 l); has_room = tt }

-- what the code knows before it compares
module _ (octets : List ℕ) (room sent check : ℕ) (long : 3 ≤ length octets) (s : sent ≡ check_sent octets) (k : check ≡ frame_check (without_check octets)) where
  decided : at_flag octets room
      ≡ cond (eqb sent check) (cond (ltb room (length octets - 2)) (refused 6) (delivered (without_check octets))) (refused 5)
  unfolding at_flag
  decided =
      let n : length (without_check octets) ≡ length octets - 2 = length-take-le (length octets - 2) octets (omega arith) in
      rw (le-ltb (length octets) 3 long, n, ← s, ← k)

  pub wrong_check : (sent ≡ check → ⊥) → Judges (Err because.WrongCheck) octets room (at_flag octets room)
  wrong_check h = record { means = sym (decided ∙ rw (ne_eqb sent check h)); has_room = tt }

  pub no_room : sent ≡ check → room < length octets - 2 → Judges (Err because.Room) octets room (at_flag octets room)
  no_room h l = record { means = sym (decided ∙ rw (eq-eqb sent check h, lt-ltb room (length octets - 2) l)); has_room = tt }

  pub body_due : sent ≡ check → length octets - 2 ≤ room → Judges (Ok (length octets - 2)) octets room (at_flag octets room)
  body_due h l =
      record { means = sym (decided ∙ rw (eq-eqb sent check h, le-ltb room (length octets - 2) l)); has_room = (omega arith, l) }

-- ---- what is put out

pub body_out : (n : ℕ) (octets output : List ℕ) (due : Verdict) → Judges (Ok n) octets (length output) due
    → PutsOut (Ok n) octets output (take n octets ++ drop n output) due
body_out n octets output due j =
    record {
      judges = j;
      puts = ap (λ (k : ℕ). take n octets ++ drop k output) (sym (length-take-le n octets j.has_room.0)) ∙ ap (λ (v : Verdict). output_at_flag v output) j.means;
    }

-- the answer by the first octets of the store is that by the store
pub closes : (answer : Result ℕ Refusal) (stored : ℕ) (store output output_then : List ℕ) (due : Verdict)
    → PutsOut answer (take stored store) output output_then due → Closes (Some answer) store output output_then due
closes (Err why) stored store output output_then due p =
    record { means = p.judges.means; answers = ap answer_for p.judges.means; puts = p.puts }
closes (Ok n) stored store output output_then due p =
    let short : length (take n (take stored store)) ≡ n = length-take-le n (take stored store) p.judges.has_room.0 in
    let least : n ≤ stored = omega (arith, p.judges.has_room.0, length-take {A = ℕ}) in
    record {
      means = ap delivered (sym (take-take n stored store least)) ∙ p.judges.means;
      answers = ap body (sym short) ∙ ap answer_for p.judges.means;
      puts = p.puts;
    }
