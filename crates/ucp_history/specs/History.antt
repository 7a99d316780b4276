-- What a line answers and counts, by its history (document 01, "The receiver, byte by byte", "The byte account"): the
-- calls so far are cut at flags, and each stretch is judged by itself. Nothing here speaks of a record or a step.
-- Assumes nothing.
use Rattle.std.specs.Prelude.{cond, List, [], ◌∷◌, ℕ, ◌+◌, eqb, length}
use Rattle.ucp_frame.specs.Frame.{flag}
use Rattle.ucp_frame.specs.Stretch.{Verdict, silent, refused, delivered, verdict}

-- one call: the line octet, and how many octets of output are lent
pub record Call : Type 0 where
  pub octet : ℕ
  pub room : ℕ

-- a flag, by the room lent to its call, and the line octets from it up to the next flag
pub record Segment : Type 0 where
  pub room : ℕ
  pub octets : List ℕ

-- a history: the octets before its first flag, then its flags
pub record Cut : Type 0 where
  pub hunted : List ℕ
  pub flags : List Segment

unfoldable pub cut_at_flags : List Call → Cut
cut_at_flags [] = record { hunted = []; flags = [] }
cut_at_flags (c ∷ cs) =
    cond (eqb c.octet flag)
    (record { hunted = []; flags = (record { room = c.room; octets = (cut_at_flags cs).hunted }) ∷ (cut_at_flags cs).flags })
    (record { hunted = c.octet ∷ (cut_at_flags cs).hunted; flags = (cut_at_flags cs).flags })

-- the stretch that is open: the octets since the last of these flags. Before the first flag the line hunts, and it has none
unfoldable pub open_stretch : List Segment → List ℕ
open_stretch [] = []
open_stretch (s ∷ []) = s.octets
open_stretch (s ∷ t ∷ ss) = open_stretch (t ∷ ss)

-- ---- the answer to a call, after the calls before it: a flag closes the open stretch, with the room lent to its call
unfoldable pub answer : List Call → Call → Verdict
answer before c = cond (eqb c.octet flag) (verdict (open_stretch (cut_at_flags before).flags) c.room) silent

-- ---- the byte account, in line octets

-- those of a stretch that is closed, by its answer
abbrev pub if_delivered : Verdict → ℕ → ℕ
if_delivered silent n = 0
if_delivered (refused number) n = 0
if_delivered (delivered body) n = n

abbrev pub if_refused : Verdict → ℕ → ℕ
if_refused silent n = 0
if_refused (refused number) n = n
if_refused (delivered body) n = 0

-- a sum over the closed stretches: each goes from one flag to the next, whose room is the room lent at its close
unfoldable pub over_closed : (Verdict → ℕ → ℕ) → List Segment → ℕ
over_closed f [] = 0
over_closed f (s ∷ []) = 0
over_closed f (s ∷ t ∷ ss) = f (verdict s.octets t.room) (length s.octets) + over_closed f (t ∷ ss)

pub record Account : Type 0 where
  pub flags : ℕ
  pub delivered : ℕ
  pub refused : ℕ
  pub skipped : ℕ
  pub open_octets : ℕ

abbrev pub account : List Call → Account
account calls =
    record {
      flags = length (cut_at_flags calls).flags;
      delivered = over_closed if_delivered (cut_at_flags calls).flags;
      refused = over_closed if_refused (cut_at_flags calls).flags;
      skipped = length (cut_at_flags calls).hunted;
      open_octets = length (open_stretch (cut_at_flags calls).flags);
    }
