-- `mavlink_explainer::explain_block` meets its contract. The loop's invariant: walking what is left walks the whole block, behind
-- the lines so far, of which as many octets went out or wait. Assumes nothing.
use Rattle.mavlink_explainer.proofs.Turns.{turn_within, turn_uses, from_start, next_frame, at_failure, at_refused, at_end}
use Rattle.text_output.specs.declared.page.Page.{Page}
use Rattle.text_mavlink_explanation.specs.Calls.{ExplainsFrame}
use Rattle.io_streams.specs.declared.Waiting.{Waiting}
use Rattle.io_streams.specs.Gathering.{Gathers, WritesWaiting}
use Rattle.text_output.specs.Clips.{text_room}
use Rattle.io_streams.proofs.Gathering.{gathered_line, makes_up}
use Rattle.std.proofs.Common.{Option, Ok, ◌≡◌, ℕ, ◌+◌, ◌-◌, ◌%◌, ◌^◌, ◌≤◌, min, List, length, take, drop, refl, ◌∙◌, subst, arith, length-drop, take_all}
use Rattle.mavlink_explainer.proofs.explain_block.Goals as goal

-- what a turn explains, of the part of the block that is left
explained : (block : List ℕ) (left : ℕ) {page : Page} {given : Option ℕ} {after : Page} → left ≤ length block
    → ExplainsFrame (take (length block - (length block - left)) (drop (length block - left) block)) page given after
    → ExplainsFrame (drop (length block - left) block) page given after
explained block left h e =
    let used = length block - left in
    let all : take (length block - used) (drop used block) ≡ drop used block =
    take_all (length block - used) (drop used block) (simp length-drop (omega arith)) in
    rw all at e

-- what gathering the line came to: so many octets wait within the buffer, and with those that went out they are those that waited and the line's
gathered : {input : List ℕ} {page : Page} {given : Option ℕ} {line : Page} (waiting written : ℕ) {buffer after : List ℕ} {next : Waiting}
    → ExplainsFrame input page given line → Gathers buffer (min waiting (length buffer)) (take (min line.end (length buffer)) line.room) (Ok next) after
    → waiting ≤ length buffer → text_room ≤ length buffer → text_room ≤ length line.room
    → (next.octets ≤ length buffer) × (((written + next.written) % 2 ^ 64 + next.octets) % 2 ^ 64 ≡ ((written + waiting) % 2 ^ 64 + line.end) % 2 ^ 64)
gathered {line = line} waiting written {next = next} e g w b t =
    let h = gathered_line line.room waiting line.end g w (omega (arith, e.line.within)) (omega (arith, e.line.within)) in
    (h.0, makes_up written waiting line.end next.written next.octets h.1)

pub loop-left-init : goal.loop-left-init
loop-left-init c = (omega arith, from_start c.least_octets-least.result c.args.block.now, refl, omega arith)

pub overflow_sub-used : goal.overflow_sub-used
overflow_sub-used c = omega (arith, c.loop-left.invariant.0)

pub shape_of-buffer-in_default : goal.shape_of-buffer-in_default
shape_of-buffer-in_default c = c.gather-gathered.auto.buffer ∙ c.loop-left.invariant.2

pub returns-in_default : goal.returns-in_default
returns-in_default c =
    let l = c.loop-left in
    let a = c.args in
    let least = c.least_octets-least in
    rw c.stopped.ensures
    (at_failure least.result a.block.now l.count l.left _ (omega (arith, l.invariant.0)) l.invariant.1 a.last least.ensures a.frames a.bytes)

pub returns-in_default-explained : goal.returns-in_default-explained
returns-in_default-explained c =
    let l = c.loop-left in
    let a = c.args in
    let least = c.least_octets-least in
    let next = c.in-Ok.next.octets in
    let w = c.write_waiting-output in
    let waits : min next (length c.gather-gathered.new.buffer) ≡ next = omega (arith, (gathered c.loop-left.waiting c.loop-left.written c.explain_frame-explained.ensures (rw c.in-Ok.is at c.gather-gathered.ensures) c.loop-left.invariant.3 (omega (arith, c.loop-left.invariant.2, c.requires)) (omega arith)).0, c.gather-gathered.auto.buffer) in
    rw c.progressed.ensures
    (at_refused least.result a.block.now l.count l.left _ (omega (arith, l.invariant.0)) l.invariant.1 a.last least.ensures a.frames a.bytes (explained c.args.block.now c.loop-left.left (omega (arith, c.loop-left.invariant.0)) c.explain_frame-explained.ensures) c.loop-left-test.true c.in_default-explained.is
    ((c.loop-left.written + c.in-Ok.next.written) % 2 ^ 64) next (gathered c.loop-left.waiting c.loop-left.written c.explain_frame-explained.ensures (rw c.in-Ok.is at c.gather-gathered.ensures) c.loop-left.invariant.3 (omega (arith, c.loop-left.invariant.2, c.requires)) (omega arith)).1 w.result (subst (λ (k : ℕ). WritesWaiting ((c.loop-left.written + c.in-Ok.next.written) % 2 ^ 64) k w.result) waits w.ensures))

pub overflow_add-count : goal.overflow_add-count
overflow_add-count c = omega (arith, c.loop-left.invariant.0, c.well_formed, turn_uses (explained c.args.block.now c.loop-left.left (omega (arith, c.loop-left.invariant.0)) c.explain_frame-explained.ensures) c.in-Some.is, simp length-drop at (turn_within (explained c.args.block.now c.loop-left.left (omega (arith, c.loop-left.invariant.0)) c.explain_frame-explained.ensures) c.in-Some.is))

pub overflow_sub-left : goal.overflow_sub-left
overflow_sub-left c = omega (arith, c.loop-left.invariant.0, simp length-drop at (turn_within (explained c.args.block.now c.loop-left.left (omega (arith, c.loop-left.invariant.0)) c.explain_frame-explained.ensures) c.in-Some.is))

pub loop-left-smaller : goal.loop-left-smaller
loop-left-smaller c = omega (arith, c.loop-left.invariant.0, turn_uses (explained c.args.block.now c.loop-left.left (omega (arith, c.loop-left.invariant.0)) c.explain_frame-explained.ensures) c.in-Some.is, simp length-drop at (turn_within (explained c.args.block.now c.loop-left.left (omega (arith, c.loop-left.invariant.0)) c.explain_frame-explained.ensures) c.in-Some.is))

pub loop-left-preserved : goal.loop-left-preserved
loop-left-preserved c =
    let l = c.loop-left in
    let a = c.args in
    let least = c.least_octets-least in
    let e = explained c.args.block.now c.loop-left.left (omega (arith, c.loop-left.invariant.0)) c.explain_frame-explained.ensures in
    let kept = c.gather-gathered.auto.buffer in (
      omega (arith, l.invariant.0, turn_uses e c.in-Some.is, simp length-drop at (turn_within e c.in-Some.is)),
      next_frame least.result a.block.now l.count l.left _ (omega (arith, l.invariant.0)) l.invariant.1 e c.loop-left-test.true c.in-Some.is _ (gathered c.loop-left.waiting c.loop-left.written c.explain_frame-explained.ensures (rw c.in-Ok.is at c.gather-gathered.ensures) c.loop-left.invariant.3 (omega (arith, c.loop-left.invariant.2, c.requires)) (omega arith)).1,
      kept ∙ l.invariant.2,
      omega (arith, (gathered c.loop-left.waiting c.loop-left.written c.explain_frame-explained.ensures (rw c.in-Ok.is at c.gather-gathered.ensures) c.loop-left.invariant.3 (omega (arith, c.loop-left.invariant.2, c.requires)) (omega arith)).0, kept),
    )

pub overflow_sub-used-2 : goal.overflow_sub-used-2
overflow_sub-used-2 c = omega (arith, c.loop-left.invariant.0)

pub shape_of-buffer : goal.shape_of-buffer
shape_of-buffer c = c.loop-left.invariant.2

pub returns : goal.returns
returns c =
    let l = c.loop-left in
    let a = c.args in
    let least = c.least_octets-least in
    let w = c.write_waiting-output-2 in
    let waits : min l.waiting (length l.buffer) ≡ l.waiting = omega (arith, l.invariant.3) in
    rw (c.progressed-2.ensures, c.goes_on.ensures)
    (at_end least.result a.block.now l.count l.left _ (omega (arith, l.invariant.0)) l.invariant.1 a.last least.ensures a.frames a.bytes (omega (arith, c.loop-left-test.false))
    l.written l.waiting refl w.result (subst (λ (k : ℕ). WritesWaiting l.written k w.result) waits w.ensures))
