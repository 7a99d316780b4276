-- `line_explainer::explain_input` meets its contract and ends: each turn goes on from what the one before left, and leaves fewer. Assumes
-- nothing.
use Rattle.std.proofs.Common.{◌≡◌, ℕ, List, [], ◌∷◌, ◌++◌, length, sym, refl, ap, ◌∙◌, subst, append_assoc, arith}
use Rattle.ucp_receiver.specs.declared.Counts.{Counts}
use Rattle.ucp_receiver.specs.declared.Record.{Record}
use Rattle.ucp_receiver.specs.Account.{zero_counts}
use Rattle.ucp_receiver.specs.Octet.{State, state_of, state_after, counts_after, verdict_due, fresh_rest}
use Rattle.text_ucp_listing.specs.Listing.{body_room}
use Rattle.text_ucp_listing.specs.Lists.{behind_all}
use Rattle.text_ucp_explanation.specs.Explanation.{explanation, every_explanation}
use Rattle.io_streams.proofs.Turns.{reads_onward, turns_onward, reads_none, turns_none, claimed}
use Rattle.io_ucp.specs.Records.{Passed}
use Rattle.io_ucp.proofs.Runs.{Onto, passed_none, turn_passed, run_ends}
use Rattle.line_explainer.proofs.explain_input.Goals as goal

explanations-onto : (s : State) (c : Counts) (xs ys : List ℕ)
    → every_explanation s c (xs ++ ys) ≡ every_explanation s c xs ++ every_explanation (behind_all s c xs).state (behind_all s c xs).counts ys
unfolding every_explanation behind_all
explanations-onto s c [] ys = refl
explanations-onto s c (x ∷ xs) ys =
    ap (λ (l : List ℕ). explanation (verdict_due s x body_room) ++ l) (explanations-onto (state_after s x) (counts_after c s x body_room) xs ys)
    ∙ sym (append_assoc (explanation (verdict_due s x body_room)) _ _)

no_lines : (s : State) (c : Counts) → every_explanation s c [] ≡ []
unfolding every_explanation
no_lines s c = refl

onto : Onto every_explanation
onto = record { none = no_lines; more = explanations-onto }

pub loop-turn-init : goal.loop-turn-init
loop-turn-init c =
    let a = c.args in
    let t = c.first_turn-turn in
    let fresh = c.fresh_record-receiver.ensures in (
      refl,
      refl,
      omega (arith, (reads_onward _ (length a.block.now) 0 t.result t.result.input t.ensures).within, t.auto.block),
      reads_none _ (length a.block.now) 0 t.result t.ensures,
      claimed t.result.input
          (subst (λ (r : Record). Passed every_explanation (state_of fresh_rest a.store.now) zero_counts 0 0 (record { state = state_of r.rest a.store.now; counts = r.counts })) (sym fresh)
          (passed_none every_explanation onto (state_of fresh_rest a.store.now) zero_counts)),
    )

pub explain_turn-done-requires : goal.explain_turn-done-requires
explain_turn-done-requires c = (omega (arith, c.loop-turn.invariant.1, c.requires), c.loop-turn.invariant.2)

pub loop-turn-smaller : goal.loop-turn-smaller
loop-turn-smaller c =
    let l = c.loop-turn in
    let w = c.explain_turn-done.ensures in
    omega (arith, (turns_onward l.turn.left (length l.block) 0 _ w.input w.follows).fewer, c.loop-turn-test.true)

pub loop-turn-preserved : goal.loop-turn-preserved
loop-turn-preserved c =
    let a = c.args in
    let l = c.loop-turn in
    let t = c.explain_turn-done in
    let w = t.ensures in
    let o = turns_onward l.turn.left (length l.block) 0 t.result.turn w.input w.follows in (
      t.auto.block ∙ l.invariant.0,
      t.auto.buffer ∙ l.invariant.1,
      omega (arith, o.within, t.auto.block),
      turns_none l.turn.left (length l.block) 0 t.result.turn w.input w.follows,
      turn_passed every_explanation onto (state_of fresh_rest a.store.now) zero_counts l.receiver l.store l.block l.turn l.octets l.written c.loop-turn-test.true l.invariant.2 l.invariant.3 l.invariant.4 t.result _ _ _ w refl refl,
    )

pub returns : goal.returns
returns c =
    let a = c.args in
    let l = c.loop-turn in
    run_ends every_explanation onto (state_of fresh_rest a.store.now) zero_counts l.turn.input l.octets l.written (record { state = state_of l.receiver.rest l.store; counts = l.receiver.counts }) c.write_ending.result _ _ l.invariant.4 c.write_ending.ensures
