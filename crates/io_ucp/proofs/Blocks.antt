-- How a program goes on with a block: the record behind the block is the one behind the octets that are left, from the present
-- record on; and its lines are those that went out and those of the octets that are left. Assumes nothing.
use mathlib.Core.Path.{◌≡◌, refl, sym, ◌∙◌, ap, ap₂}
use mathlib.Core.List.{List, [], ◌∷◌, ◌++◌, append_assoc, append-nil}
use Prim.Native.Nat.{ℕ, ◌+◌, ◌%◌, ◌^◌, ◌<◌, ◌≤◌}
use native.Mathlib.Nat.{mod-add-mod}
use native.Mathlib.Omega.{arith}
use lib.ListN.{length, drop, length-append, length-drop, drop_of_length-le}
use lib.Seq.{drop-drop}
use Rattle.ucp_receiver.specs.declared.Counts.{Counts}
use Rattle.ucp_receiver.specs.declared.Record.{Record}
use Rattle.ucp_receiver.specs.Octet.{State, state_of}
use Rattle.text_ucp_listing.specs.Lists.{RecordBehind, behind_all}
use Rattle.io_streams.specs.declared.Input.TheVariants.{More}
use Rattle.std.proofs.Common.{Result, Ok, Err}
use Rattle.io_streams.specs.declared.StreamError.{StreamError}
use Rattle.io_streams.specs.Gathering.{WritesWaiting}
use Rattle.io_ucp.specs.Records.{BehindSome, Leaves, block_done, WritesLines, LinesOf}

length_zero : (xs : List ℕ) → length xs ≡ 0 → xs ≡ []
length_zero [] h = refl
length_zero (x ∷ xs) h = absurd (omega arith)

-- the record behind the block is the one behind the rest of it, from the present record on
pub record Reached (block : List ℕ) (last : RecordBehind) (s : State) (c : Counts) (rest : List ℕ) : Type 0 where
  pub taken : ℕ
  pub within : taken ≤ length block
  pub left : rest ≡ drop taken block
  pub leads : last ≡ behind_all s c rest

module _ (block : List ℕ) where
  pub reached_first : (s : State) (c : Counts) → Reached block (behind_all s c block) s c block
  reached_first s c = record { taken = 0; within = omega arith; left = refl; leads = refl }

  module _ (last : RecordBehind) (s : State) (c : Counts) (rest : List ℕ) (r : Reached block last s c rest) where
    pub reached_more : (t : State) (d : Counts) (more : ℕ) (further : List ℕ) → more ≤ length rest
        → behind_all s c rest ≡ behind_all t d (drop more rest) → further ≡ drop more rest → Reached block last t d further
    reached_more t d more further within same on =
        record {
          taken = r.taken + more;
          within = omega (arith, within, ap length r.left, length-drop r.taken block, r.within);
          left = on ∙ ap (drop more) r.left ∙ drop-drop more r.taken block;
          leads = r.leads ∙ same ∙ ap (behind_all t d) (sym on);
        }

    pub reached_last : length rest ≡ 0 → Leaves More s c last block
    unfolding behind_all
    reached_last none =
        let end : last ≡ record { state = s; counts = c } = r.leads ∙ ap (behind_all s c) (length_zero rest none) in
        (sym (ap (λ (b : RecordBehind). b.state) end), sym (ap (λ (b : RecordBehind). b.counts) end))

    pub reached_some : BehindSome s c last block
    reached_some = record { taken = r.taken; within = r.within; leads = r.leads ∙ ap (behind_all s c) r.left }

  pub behind_all_lem : (s : State) (c : Counts) (b : RecordBehind) → Leaves More s c b block → BehindSome s c b block
  unfolding behind_all
  behind_all_lem s c b l =
      record {
        taken = length block;
        within = omega arith;
        leads = rw (drop_of_length-le block {i = length block} (omega arith)) (λ i. record { state = sym l.0 i; counts = sym l.1 i });
      }

-- ---- what went out

-- the lines of the block are those that went out or wait, and then those of the rest of it
pub record WentOut (every : LinesOf) (whole : List ℕ) (s : State) (c : Counts) (rest : List ℕ) (written waiting : ℕ) : Type 0 where
  pub done : List ℕ
  pub makes : whole ≡ done ++ every s c rest
  pub number : written ≡ length done % 2 ^ 64
  pub waits : waiting ≤ length done

module _ (every : LinesOf) where
  pub went_first : (block : List ℕ) (s : State) (c : Counts) → WentOut every (every s c block) s c block 0 0
  went_first block s c = record { done = []; makes = refl; number = refl; waits = omega arith }

  module _ (whole : List ℕ) (s : State) (c : Counts) (rest : List ℕ) (written waiting : ℕ) (w : WentOut every whole s c rest written waiting) where
    pub went_more : (t : State) (d : Counts) (more n next later : ℕ) (text further : List ℕ)
        → every s c rest ≡ text ++ every t d (drop more rest)
        → n ≡ length text → next ≡ (written + n) % 2 ^ 64 → later ≤ waiting + n → further ≡ drop more rest → WentOut every whole t d further next later
    went_more t d more n next later text further same long adds least on =
        record {
          done = w.done ++ text;
          makes =
              w.makes ∙ ap (λ (l : List ℕ). w.done ++ l) (same ∙ ap (λ (l : List ℕ). text ++ every t d l) (sym on))
              ∙ sym (append_assoc w.done text _);
          number =
              adds ∙ ap₂ (λ (a b : ℕ). (a + b) % 2 ^ 64) w.number long ∙ mod-add-mod (length w.done) (2 ^ 64) (length text)
              ∙ ap (λ (k : ℕ). k % 2 ^ 64) (sym (length-append w.done text));
          waits = omega (arith, w.waits, long, least, length-append w.done text);
        }

    -- where some of the block's text was to be written, it has lines
    pub waits_some : 0 < waiting → 0 < length whole
    waits_some h = omega (arith, w.waits, ap length w.makes ∙ length-append w.done (every s c rest))

    pub text_some : (text left : List ℕ) → every s c rest ≡ text ++ left → 0 < length text → 0 < length whole
    text_some text left same h =
        omega (
          arith,
          ap length w.makes ∙ length-append w.done (every s c rest),
          ap length same ∙ length-append text left,
        )

    pub went_last : every s c [] ≡ [] → length rest ≡ 0 → WritesLines More written whole
    went_last none all =
        let end : whole ≡ w.done ++ [] = w.makes ∙ ap (λ (l : List ℕ). w.done ++ every s c l) (length_zero rest all) ∙ ap (λ (l : List ℕ). w.done ++ l) none in
        w.number ∙ ap (λ (l : List ℕ). length l % 2 ^ 64) (sym (end ∙ append-nil w.done))

-- ---- the end of a block: what waits goes out

pub done_block : (receiver : Record) (output : Result ℕ StreamError) (store block : List ℕ) (b : RecordBehind) (lines : List ℕ) (written waiting k : ℕ)
    → WritesWaiting written k output → k ≡ waiting
    → Leaves More (state_of receiver.rest store) receiver.counts b block → WritesLines More ((written + waiting) % 2 ^ 64) lines
    → (0 < waiting → 0 < length lines)
    → let d = block_done receiver output in
    Leaves d.progress.input (state_of d.progress.receiver.rest store) d.progress.receiver.counts b block × WritesLines d.progress.input d.written lines
done_block receiver (Ok n) store block b lines written waiting k w e l o some = (l, w ∙ ap (λ (m : ℕ). (written + m) % 2 ^ 64) e ∙ o)
done_block receiver (Err q) store block b lines written waiting k w e l o some = (behind_all_lem block _ _ b l, some (omega (arith, w, e)))
