-- `line_lister::list_input` meets its contract and ends: each turn goes on from what the one before left, and leaves fewer. Assumes
-- nothing.
use Rattle.std.proofs.Common.{◌≡◌, ℕ, List, [], ◌∷◌, ◌++◌, length, sym, refl, ap, ◌∙◌, subst, append_assoc, arith}
use Rattle.ucp_receiver.specs.declared.Counts.{Counts}
use Rattle.ucp_receiver.specs.declared.Record.{Record}
use Rattle.ucp_receiver.specs.Account.{zero_counts}
use Rattle.ucp_receiver.specs.Octet.{State, state_of, state_after, counts_after, verdict_due, fresh_rest}
use Rattle.text_ucp_listing.specs.Listing.{body_room, answer_line}
use Rattle.text_ucp_listing.specs.Lists.{behind_all, every_line}
use Rattle.io_streams.proofs.Turns.{reads_onward, turns_onward, reads_none, turns_none, claimed}
use Rattle.io_ucp.specs.Records.{Passed}
use Rattle.io_ucp.proofs.Runs.{Onto, passed_none, turn_passed, run_ends}
use Rattle.line_lister.proofs.list_input.Goals as goal

lines-onto : (s : State) (c : Counts) (xs ys : List ℕ)
    → every_line s c (xs ++ ys) ≡ every_line s c xs ++ every_line (behind_all s c xs).state (behind_all s c xs).counts ys
unfolding every_line behind_all
lines-onto s c [] ys = refl
lines-onto s c (x ∷ xs) ys =
    ap (λ (l : List ℕ). answer_line (verdict_due s x body_room) ++ l) (lines-onto (state_after s x) (counts_after c s x body_room) xs ys)
    ∙ sym (append_assoc (answer_line (verdict_due s x body_room)) _ _)

no_lines : (s : State) (c : Counts) → every_line s c [] ≡ []
unfolding every_line
no_lines s c = refl

onto : Onto every_line
onto = record { none = no_lines; more = lines-onto }

pub loop-turn-init : goal.loop-turn-init
loop-turn-init c =
    let a = c.args in
    let t = c.first_turn-turn in
    let fresh = c.fresh_record-receiver.ensures in (
      refl,
      refl,
      omega (arith, (reads_onward _ (length a.block.now) 0 t.result t.result.input t.ensures).within, t.auto.block),
      reads_none _ (length a.block.now) 0 t.result t.ensures,
      claimed t.result.input
          (subst (λ (r : Record). Passed every_line (state_of fresh_rest a.store.now) zero_counts 0 0 (record { state = state_of r.rest a.store.now; counts = r.counts })) (sym fresh)
          (passed_none every_line onto (state_of fresh_rest a.store.now) zero_counts)),
    )

pub list_turn-done-requires : goal.list_turn-done-requires
list_turn-done-requires c = (omega (arith, c.loop-turn.invariant.1, c.requires), c.loop-turn.invariant.2)

pub loop-turn-smaller : goal.loop-turn-smaller
loop-turn-smaller c =
    let l = c.loop-turn in
    let w = c.list_turn-done.ensures in
    omega (arith, (turns_onward l.turn.left (length l.block) 0 _ w.input w.follows).fewer, c.loop-turn-test.true)

pub loop-turn-preserved : goal.loop-turn-preserved
loop-turn-preserved c =
    let a = c.args in
    let l = c.loop-turn in
    let t = c.list_turn-done in
    let w = t.ensures in
    let o = turns_onward l.turn.left (length l.block) 0 t.result.turn w.input w.follows in (
      t.auto.block ∙ l.invariant.0,
      t.auto.text ∙ l.invariant.1,
      omega (arith, o.within, t.auto.block),
      turns_none l.turn.left (length l.block) 0 t.result.turn w.input w.follows,
      turn_passed every_line onto (state_of fresh_rest a.store.now) zero_counts l.receiver l.store l.block l.turn l.octets l.written c.loop-turn-test.true l.invariant.2 l.invariant.3 l.invariant.4 t.result _ _ _ w refl refl,
    )

pub returns : goal.returns
returns c =
    let a = c.args in
    let l = c.loop-turn in
    run_ends every_line onto (state_of fresh_rest a.store.now) zero_counts l.turn.input l.octets l.written (record { state = state_of l.receiver.rest l.store; counts = l.receiver.counts }) c.write_ending.result _ _ l.invariant.4 c.write_ending.ensures
