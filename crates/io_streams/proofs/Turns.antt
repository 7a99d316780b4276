-- What every turn keeps: its octets are within the block, and fewer turns are left. Assumes nothing.
use Rattle.std.proofs.Common.{◌≡◌, ℕ, ◌+◌, ◌-◌, ◌<◌, ◌≤◌, Bool, true, false, cond, eqb, sym, refl, ap, ◌∙◌, subst, arith}
use Rattle.std.specs.Prelude.{Result, Ok, Err, Option, Some, None}
use Rattle.io_streams.specs.declared.StreamError.{StreamError}
use Rattle.io_streams.specs.declared.Input.{Input}
use Rattle.io_streams.specs.declared.Input.TheVariants.{More, Ended, Failed}
use Rattle.io_streams.specs.declared.Turn.{Turn}
use Rattle.io_streams.specs.Blocks.{WithinBlock}
use Rattle.io_streams.specs.Turns.{Behind, over, AtEnd, ReadsBlock, BlockTurns, UnlessFailed}

pub read_behind : (r : Result (Option ℕ) StreamError) (part held block : ℕ) → WithinBlock r part → held + part ≤ block → Behind r held block
read_behind (Ok (Some n)) part held block w h = (omega (arith, w.0), w.1)
read_behind (Ok None) part held block w h = tt
read_behind (Err e) part held block w h = tt

pub record Onward (left block : ℕ) (t : Turn) : Type 0 where
  pub within : t.octets ≤ block
  pub fewer : t.left ≤ left - 1

from : {left block : ℕ} (given t : Turn) → t ≡ given → Onward left block given → Onward left block t
from {left} {block} given t e o = subst (Onward left block) (sym e) o

at_over : (left block : ℕ) (i : Input) → Onward left block (over i)
at_over left block i = record { within = omega arith; fewer = omega arith }

at_end : (b : Bool) (left block held : ℕ) → held ≤ block → Onward left block (cond b (over Ended) (record { octets = held; input = Ended; left = left - 1 }))
at_end true left block held h = at_over left block Ended
at_end false left block held h = record { within = h; fewer = omega arith }

-- by either arm the input has ended
ended : (b : Bool) (held left : ℕ) → (cond b (over Ended) (record { octets = held; input = Ended; left = left - 1 })).input ≡ Ended
ended true held left = refl
ended false held left = refl

-- once something failed no turn is left
abbrev pub NoneLeft : Input → ℕ → Type 0
NoneLeft More left = Unit {0}
NoneLeft Ended left = Unit {0}
NoneLeft Failed left = left ≡ 0

pub not_failed : (i : Input) (left : ℕ) {claim : Type 0} → 0 < left → NoneLeft i left → UnlessFailed i claim → claim
not_failed More left h n u = u
not_failed Ended left h n u = u
not_failed Failed left h n u = absurd (omega (arith, n))

pub claimed : (i : Input) {claim : Type 0} → claim → UnlessFailed i claim
claimed More p = p
claimed Ended p = p
claimed Failed p = tt

module _ (left block held : ℕ) (t : Turn) where
  pub reads_onward : (i : Input) → ReadsBlock i left block held t → Onward left block t
  reads_onward More r = record { within = r.1; fewer = omega (arith, r.2) }
  reads_onward Ended r = from _ t r.2 (at_end (eqb held 0) left block held r.0)
  reads_onward Failed r = from _ t r (at_over left block Failed)

  pub turns_onward : (input : Input) → BlockTurns input left block held t → Onward left block t
  turns_onward More r = reads_onward t.input r
  turns_onward Ended r = from _ t r (at_over left block Ended)
  turns_onward Failed r = from _ t r (at_over left block Failed)

  -- ---- what the calls give

  pub failed_reads : t ≡ over Failed → ReadsBlock t.input left block held t
  failed_reads e = subst (λ (u : Turn). ReadsBlock u.input left block held u) (sym e) refl

  pub ended_reads : held ≤ block → 0 < left → AtEnd held left t → ReadsBlock t.input left block held t
  ended_reads h l e = subst (λ (i : Input). ReadsBlock i left block held t) (sym (ap (λ (u : Turn). u.input) e ∙ ended (eqb held 0) held left)) (h, l, e)

  still : (i : Input) → ReadsBlock i left block held t → NoneLeft i t.left
  still More r = tt
  still Ended r = tt
  still Failed r = ap (λ (u : Turn). u.left) r

  pub reads_none : ReadsBlock t.input left block held t → NoneLeft t.input t.left
  reads_none r = still t.input r

  pub turns_none : (input : Input) → BlockTurns input left block held t → NoneLeft t.input t.left
  turns_none More r = reads_none r
  turns_none Ended r = subst (λ (u : Turn). NoneLeft u.input u.left) (sym r) tt
  turns_none Failed r = subst (λ (u : Turn). NoneLeft u.input u.left) (sym r) refl

  -- a turn behind a failure claims nothing
  pub failed_claims : (claim : Type 0) → t ≡ over Failed → UnlessFailed t.input claim
  failed_claims claim r = subst (λ (u : Turn). UnlessFailed u.input claim) (sym r) tt
