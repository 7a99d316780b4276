-- What the parts of the readers show. Assumes nothing.
use Rattle.std.specs.Prelude.{◌≡◌, List, ℕ, ◌+◌, ◌≤◌, length, get_or, Result, Ok, Err, MatchResult}
use Rattle.refusals.specs.Refusals.{refusal_number}
use Rattle.refusals.specs.declared.Refusal.{Refusal}
use Rattle.mavlink_frame.specs.declared.Kind.{Kind}
use Rattle.mavlink_frame.specs.Frame.{KindAnswer, known, unknown, mavlink_kind}
use Rattle.mavlink_frame.specs.Reader.{frame, header_at, found_of}
use Rattle.mavlink_frame.specs.Reader as answered
use Rattle.c_mavlink.specs.Readers.{found_as}

-- an input that begins with a right frame of a kind
pub record Taken (k : Kind) (s : List ℕ) : Type 0 where
  pub room : k.length + 8 ≤ length s
  pub is : found_as k.id s ≡ frame k.id (header_at s) (k.length + 8)

abbrev pub TakenBy : KindAnswer → List ℕ → Type 0
TakenBy (known k) s = Taken k s
TakenBy unknown s = ⊥

-- one that begins with a frame of a kind, of whatever check
pub record WholeOfKind (k : Kind) (s : List ℕ) : Type 0 where
  pub room : k.length + 8 ≤ length s
  pub sized : get_or s 1 0 ≡ k.length
  pub is : found_as k.id s ≡ found_of k s

-- a test up to the check: that the frame is whole, or the refusal that is due
abbrev pub Before : Kind → List ℕ → Result (Unit {0}) Refusal → Type 0
Before k s answer = MatchResult answer (λ done. WholeOfKind k s) (λ refusal. found_as k.id s ≡ answered.refused (refusal_number refusal))

-- and with the check: that the frame is right, or the refusal that is due
abbrev pub Tested : ℕ → List ℕ → Result (Unit {0}) Refusal → Type 0
Tested id s answer = MatchResult answer (λ done. TakenBy (mavlink_kind id) s) (λ refusal. found_as id s ≡ answered.refused (refusal_number refusal))
