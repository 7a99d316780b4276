-- A run goes on turn by turn: what was worked on stays one line, from the record that the run began with. Assumes nothing.
use mathlib.Core.Path.{◌≡◌, refl, sym, ◌∙◌, ap, ap₂, subst}
use mathlib.Core.Bool.{Bool, true, false, true≢false}
use mathlib.Core.List.{List, [], ◌∷◌, ◌++◌}
use Prim.Native.Nat.{ℕ, ◌+◌, ◌%◌, ◌^◌, ◌<◌, ◌≤◌}
use native.Mathlib.Nat.{mod-add-mod}
use native.Mathlib.Omega.{arith}
use lib.ListN.{length, take, length-append}
use lib.Seq.{length-take-le}
use Rattle.ucp_receiver.specs.declared.Counts.{Counts}
use Rattle.ucp_receiver.specs.declared.Record.{Record}
use Rattle.ucp_receiver.specs.Octet.{State, state_of, state_after, counts_after}
use Rattle.text_ucp_listing.specs.Listing.{body_room}
use Rattle.text_ucp_listing.specs.Lists.{RecordBehind, behind_all}
use Rattle.io_streams.specs.declared.Input.{Input}
use Rattle.io_streams.specs.declared.Input.TheVariants.{More, Ended, Failed}
use Rattle.io_streams.specs.declared.Turn.{Turn}
use Rattle.io_streams.specs.Turns.{BlockTurns, UnlessFailed}
use Rattle.io_streams.proofs.Turns.{NoneLeft, not_failed, claimed, failed_claims}
use Rattle.io_ucp.specs.declared.BlockDone.{BlockDone}
use Rattle.io_ucp.specs.declared.TurnDone.{TurnDone}
use Rattle.io_ucp.specs.Records.{Leaves, WritesLines, Follows, LinesOf, WorksTurn, Passed, RunsLine, Ends}

-- lines of octets behind others are those from the record behind the others on
pub record Onto (every : LinesOf) : Type 0 where
  pub none : (s : State) (c : Counts) → every s c [] ≡ []
  pub more : (s : State) (c : Counts) (xs ys : List ℕ)
      → every s c (xs ++ ys) ≡ every s c xs ++ every (behind_all s c xs).state (behind_all s c xs).counts ys

behind_onto : (s : State) (c : Counts) (xs ys : List ℕ)
    → behind_all s c (xs ++ ys) ≡ behind_all (behind_all s c xs).state (behind_all s c xs).counts ys
unfolding behind_all
behind_onto s c [] ys = refl
behind_onto s c (x ∷ xs) ys = behind_onto (state_after s x) (counts_after c s x body_room) xs ys

-- sums that run round
round : (a b m n k : ℕ) → a ≡ m % 2 ^ 64 → b ≡ n % 2 ^ 64 → k ≡ m + n → (a + b) % 2 ^ 64 ≡ k % 2 ^ 64
round a b m n k ea eb ek =
    ap₂ (λ (x y : ℕ). (x + y) % 2 ^ 64) ea eb ∙ mod-add-mod m (2 ^ 64) (n % 2 ^ 64)
    ∙ omega (arith, ek)

module _ (every : LinesOf) (onto : Onto every) (s : State) (c : Counts) where
  pub passed_none : Passed every s c 0 0 (record { state = s; counts = c })
  unfolding behind_all
  passed_none =
      record { line = []; long = refl; texts = sym (ap (λ (l : List ℕ). length l % 2 ^ 64) (onto.none s c)); ends = refl }

  module _ (octets written : ℕ) (b : RecordBehind) (p : Passed every s c octets written b) where
    pub passed_more : (block : List ℕ) (n : ℕ) (last : RecordBehind) (m k : ℕ) → n ≡ length (every b.state b.counts block) % 2 ^ 64
        → last ≡ behind_all b.state b.counts block → m ≡ (octets + length block) % 2 ^ 64 → k ≡ (written + n) % 2 ^ 64
        → Passed every s c m k last
    passed_more block n last m k texts ends em ek =
        let onward : RecordBehind → RecordBehind = λ x. behind_all x.state x.counts block in
        let text : RecordBehind → List ℕ = λ x. every x.state x.counts block in
        record {
          line = p.line ++ block;
          long =
              em ∙ ap (λ (x : ℕ). (x + length block) % 2 ^ 64) p.long ∙ mod-add-mod (length p.line) (2 ^ 64) (length block)
              ∙ ap (λ (x : ℕ). x % 2 ^ 64) (sym (length-append p.line block));
          texts =
              ek ∙ round written n (length (every s c p.line)) (length (text (behind_all s c p.line))) (length (every s c (p.line ++ block)))
              p.texts (texts ∙ ap (λ (x : RecordBehind). length (text x) % 2 ^ 64) p.ends)
              (ap length (onto.more s c p.line block) ∙ length-append (every s c p.line) _);
          ends = ends ∙ ap onward p.ends ∙ sym (behind_onto s c p.line block);
        }

  -- a turn, of which there is one left
  module _ (receiver : Record) (store block : List ℕ) (turn : Turn) (octets written : ℕ) (left : 0 < turn.left) (within : turn.octets ≤ length block)
      (none : NoneLeft turn.input turn.left)
      (p : UnlessFailed turn.input (Passed every s c octets written (record { state = state_of receiver.rest store; counts = receiver.counts }))) where
    pub turn_passed : (given : TurnDone) (after : List ℕ) (m n : ℕ) → WorksTurn every receiver store block turn given after
        → m ≡ (octets + turn.octets) % 2 ^ 64 → n ≡ (written + given.written) % 2 ^ 64
        → UnlessFailed given.turn.input (Passed every s c m n (record { state = state_of given.receiver.rest after; counts = given.receiver.counts }))
    turn_passed given after m n w em en = go w.input w.leaves w.writes w.follows
      where
        before : RecordBehind
        before = record { state = state_of receiver.rest store; counts = receiver.counts }

        go : (i : Input)
            → Leaves i (state_of given.receiver.rest after) given.receiver.counts (behind_all (state_of receiver.rest store) receiver.counts (take turn.octets block)) (take turn.octets block)
            → WritesLines i given.written (every (state_of receiver.rest store) receiver.counts (take turn.octets block))
            → BlockTurns i turn.left (length block) 0 given.turn
            → UnlessFailed given.turn.input (Passed every s c m n (record { state = state_of given.receiver.rest after; counts = given.receiver.counts }))
        go More l o f =
            claimed given.turn.input
            (passed_more octets written before (not_failed turn.input turn.left left none p) (take turn.octets block) given.written _ m n o
            (λ i. record { state = l.0 i; counts = l.1 i })
            (em ∙ ap (λ (k : ℕ). (octets + k) % 2 ^ 64) (sym (length-take-le turn.octets block within))) en)
        go Ended l o f = absurd l
        go Failed l o f = failed_claims turn.left (length block) 0 given.turn _ f

  -- the end
  pub run_ends : (i : Input) (octets written : ℕ) (b : RecordBehind) (whole : Bool) (before after : List ℕ)
      → UnlessFailed i (Passed every s c octets written b) → Ends i b.counts before whole after
      → RunsLine every s c (record { whole = whole; octets = octets; written = written }) after
  run_ends More octets written b whole before after p e h = absurd (true≢false (sym h ∙ e.0))
  run_ends Ended octets written b true before after p e h = record { last = b; passed = p; before = before; closes = e }
  run_ends Ended octets written b false before after p e h = absurd (true≢false (sym h))
  run_ends Failed octets written b whole before after p e h = absurd (true≢false (sym h ∙ e.0))

leaves_as : (i : Input) (r t : Record) (after : List ℕ) (b : RecordBehind) (block : List ℕ) → t ≡ r
    → Leaves i (state_of r.rest after) r.counts b block → Leaves i (state_of t.rest after) t.counts b block
leaves_as i r t after b block e = subst (λ (u : Record). Leaves i (state_of u.rest after) u.counts b block) (sym e)

writes_as : (i : Input) (m n : ℕ) (lines : List ℕ) → n ≡ m → WritesLines i m lines → WritesLines i n lines
writes_as i m n lines e = subst (λ (k : ℕ). WritesLines i k lines) (sym e)

-- a turn by its block, and by what follows
pub turn_works : (every : LinesOf) (receiver : Record) (store block : List ℕ) (turn : Turn) (done : BlockDone) (after : List ℕ) (given : TurnDone)
    → Leaves done.progress.input (state_of done.progress.receiver.rest after) done.progress.receiver.counts (behind_all (state_of receiver.rest store) receiver.counts (take turn.octets block)) (take turn.octets block)
    → WritesLines done.progress.input done.written (every (state_of receiver.rest store) receiver.counts (take turn.octets block))
    → Follows done turn.left (length block) given → WorksTurn every receiver store block turn given after
turn_works every receiver store block turn done after given l w f =
    record {
      input = done.progress.input;
      leaves = leaves_as done.progress.input done.progress.receiver given.receiver after _ _ f.receiver l;
      writes = writes_as done.progress.input done.written given.written _ f.written w;
      follows = f.follows;
    }
