-- `text_fields::put_fields` meets its contract: by what a code of the template stands for. Assumes nothing.
use Rattle.std.proofs.Common.{rules}
use mathlib.Core.Path.{refl, sym, ◌∙◌}
use mathlib.Core.Logic.{inl, inr}
use native.Mathlib.Omega.{arith}
use lib.ListN.{length-drop}
use mir.Syntax.{w16, w32}
use mir.ValLaws.{to_z-of_z}
use Rattle.text_output.proofs.Clipped.{none_put}
use Rattle.text_fields.specs.Templates.{from_code}
use Rattle.text_fields.proofs.Filled.{filled_natural, filled_short, filled_long, filled_quoted, filled_none, filled_from_code, code_first, last_code, behind_less, piece_put, code_put}
use Rattle.text_fields.proofs.put_fields.Goals as goal

pub loop-code-init : goal.loop-code-init
loop-code-init c = (inr (refl, refl), c.args.page.now.long, λ end last q. q)

pub loop-code-smaller-in-37 : goal.loop-code-smaller-in-37
loop-code-smaller-in-37 c =
    let e = sym c.put_label.ensures.leaves ∙ c.in-Some.ensures.cases.0 in
    rw c.past_code-rest.ensures (simp length-drop (omega (arith, behind_less c.loop-code.rest.now e)))

pub loop-code-preserved-in-37 : goal.loop-code-preserved-in-37
loop-code-preserved-in-37 c =
    let l = c.loop-code in
    let e = sym c.put_label.ensures.leaves ∙ c.in-Some.ensures.cases.0 in
    let n = c.next_or.ensures in
    let p = code_put l.rest.now _ _ _ _ l.invariant.1 l.invariant.2 c.put_label.ensures.shows (filled_natural e _ _ _ _ c.in-37.is)
    (rw (c.code_at.ensures, n.gives) at c.put_natural.ensures) in
    rw (c.past_code-rest.ensures, n.leaves) (inl p.0, p.1, p.2)

pub loop-code-smaller-in-38 : goal.loop-code-smaller-in-38
loop-code-smaller-in-38 c =
    let e = sym c.put_label.ensures.leaves ∙ c.in-Some.ensures.cases.0 in
    rw c.past_code-rest-in-38.ensures (simp length-drop (omega (arith, behind_less c.loop-code.rest.now e)))

pub loop-code-preserved-in-38 : goal.loop-code-preserved-in-38
loop-code-preserved-in-38 c =
    let l = c.loop-code in
    let e = sym c.put_label.ensures.leaves ∙ c.in-Some.ensures.cases.0 in
    let n = c.next_or-in-38.ensures in
    let p = code_put l.rest.now _ _ _ _ l.invariant.1 l.invariant.2 c.put_label.ensures.shows (filled_short e _ _ _ _ c.in-38.is)
    (rw (to_z-of_z w16 c.next_or-in-38.result (record { sfits = c.next_or-in-38.type_inv }), c.code_at-in-38.ensures, n.gives) at c.put_short.ensures) in
    rw (c.past_code-rest-in-38.ensures, n.leaves) (inl p.0, p.1, p.2)

pub loop-code-smaller-in-36 : goal.loop-code-smaller-in-36
loop-code-smaller-in-36 c =
    let e = sym c.put_label.ensures.leaves ∙ c.in-Some.ensures.cases.0 in
    rw c.past_code-rest-in-36.ensures (simp length-drop (omega (arith, behind_less c.loop-code.rest.now e)))

pub loop-code-preserved-in-36 : goal.loop-code-preserved-in-36
loop-code-preserved-in-36 c =
    let l = c.loop-code in
    let e = sym c.put_label.ensures.leaves ∙ c.in-Some.ensures.cases.0 in
    let n = c.next_or-in-36.ensures in
    let p = code_put l.rest.now _ _ _ _ l.invariant.1 l.invariant.2 c.put_label.ensures.shows (filled_long e _ _ _ _ c.in-36.is)
    (rw (to_z-of_z w32 c.next_or-in-36.result (record { sfits = c.next_or-in-36.type_inv }), c.code_at-in-36.ensures, n.gives) at c.put_long.ensures) in
    rw (c.past_code-rest-in-36.ensures, n.leaves) (inl p.0, p.1, p.2)

pub loop-code-smaller : goal.loop-code-smaller
loop-code-smaller c = behind_less c.loop-code.rest.now (sym c.put_label.ensures.leaves ∙ c.in-Some.ensures.cases.0)

pub loop-code-preserved : goal.loop-code-preserved
loop-code-preserved c =
    let l = c.loop-code in
    let e = sym c.put_label.ensures.leaves ∙ c.in-Some.ensures.cases.0 in
    let quote = last_code (rw e at (code_first l.rest.now)) (search rules) (search rules) (search rules) in
    let p = code_put l.rest.now _ _ _ _ l.invariant.1 l.invariant.2 c.put_label.ensures.shows (filled_quoted e _ _ _ _ quote) c.put_quoted.ensures in
    (inl p.0, p.1, p.2)

pub returns : goal.returns
returns c =
    let l = c.loop-code in
    let p = piece_put l.invariant.1 l.invariant.2 (filled_from_code l.rest.now _ _ _ _) c.put_label.ensures.shows in
    let none = rw c.put_label.ensures.leaves at c.in_default.ensures.cases in
    rw (← c.iter-naturals.ensures.rest, ← c.iter-shorts.ensures.rest, ← c.iter-longs.ensures.rest)
    (p.2 _ _ (rw (filled_none (from_code l.rest.now) none) (none_put _ _ p.1 p.0)))
