-- `mavlink_explainer::explain_input` meets its contract: each turn leaves fewer, and what is lent keeps its length. Assumes nothing.
use Rattle.std.proofs.Common.{◌≡◌, ℕ, ◌≤◌, List, length, sym, refl, ◌∙◌, true≢false, arith}
use Rattle.io_streams.proofs.Turns.{Onward, reads_onward, turns_onward}
use Rattle.io_streams.specs.declared.Turn.{Turn}
use Rattle.mavlink_explainer.specs.declared.TurnDone.{TurnDone}
use Rattle.mavlink_explainer.specs.Blocks.{WorksFrames, first, later}
use Rattle.mavlink_explainer.proofs.explain_input.Goals as goal

-- what follows a turn is within the block, and leaves fewer
onward : (frames bytes : ℕ) {before : List ℕ} {turn : Turn} {given : TurnDone} {after : List ℕ}
    → WorksFrames frames bytes before turn given after → Onward turn.left (length before) given.turn
onward frames bytes {before} {turn} {given} w = turns_onward turn.left (length before) given.progress.left given.turn given.progress.input w.follows

-- no turn is left
none_left : (left : ℕ) → left ≤ 0 → left ≡ 0
none_left left h = omega arith

pub loop-turn-init : goal.loop-turn-init
loop-turn-init c = let a = c.args in let t = c.first_turn-turn in (refl, omega (arith, (reads_onward _ (length a.block.now) 0 t.result t.result.input t.ensures).within, t.auto.block), refl, first {block = t.new.block} {turn = t.result} (rw t.auto.block t.ensures))

pub explain_turn-done-requires : goal.explain_turn-done-requires
explain_turn-done-requires c = (omega (arith, c.loop-turn.invariant.2, c.requires), c.loop-turn.invariant.1)

pub loop-turn-smaller : goal.loop-turn-smaller
loop-turn-smaller c = omega (arith, (onward c.loop-turn.frames c.loop-turn.bytes c.explain_turn-done.ensures).fewer, c.loop-turn-test.true)

pub loop-turn-preserved : goal.loop-turn-preserved
loop-turn-preserved c =
    let l = c.loop-turn in
    let t = c.explain_turn-done in
    (t.auto.block ∙ l.invariant.0, omega (arith, (onward c.loop-turn.frames c.loop-turn.bytes c.explain_turn-done.ensures).within, t.auto.block), t.auto.buffer ∙ l.invariant.2, later l.invariant.3 c.loop-turn-test.true t.ensures)

pub shape_of-block-then-has_ended : goal.shape_of-block-then-has_ended
shape_of-block-then-has_ended c = c.loop-turn.invariant.0 ∙ c.first_turn-turn.auto.block

pub shape_of-buffer-then-has_ended : goal.shape_of-buffer-then-has_ended
shape_of-buffer-then-has_ended c = c.loop-turn.invariant.2

pub returns-then-has_ended : goal.returns-then-has_ended
returns-then-has_ended c =
    let l = c.loop-turn in
    let ended = sym c.has_ended.ensures ∙ c.if-has_ended.true in
    record {
      frames = l.frames;
      bytes = l.bytes;
      block = l.block;
      turn = l.turn;
      before = _;
      runs = l.invariant.3;
      none = none_left l.turn.left c.loop-turn-test.false;
      closes = λ e. c.write_closing.ensures;
      unfinished = λ e. absurd (true≢false (sym ended ∙ e));
    }

pub shape_of-block : goal.shape_of-block
shape_of-block c = c.loop-turn.invariant.0 ∙ c.first_turn-turn.auto.block

pub shape_of-buffer : goal.shape_of-buffer
shape_of-buffer c = c.loop-turn.invariant.2

pub returns : goal.returns
returns c =
    let l = c.loop-turn in
    let goes_on = sym c.has_ended.ensures ∙ c.if-has_ended.false in
    record {
      frames = l.frames;
      bytes = l.bytes;
      block = l.block;
      turn = l.turn;
      before = l.page;
      runs = l.invariant.3;
      none = none_left l.turn.left c.loop-turn-test.false;
      closes = λ e. absurd (true≢false (sym e ∙ goes_on));
      unfinished = λ e. refl;
    }
