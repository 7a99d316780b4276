-- `field_words::copies::copy` meets its contract: eight more stand in the output at each turn, and then the rest. Assumes nothing.
use mathlib.Core.Path.{◌≡◌, sym, ap, ◌∙◌}
use Prim.Native.Nat.{ℕ, ◌+◌, ◌-◌, ◌*◌, ◌/◌, ◌≤◌}
use native.Mathlib.Omega.{arith}
use lib.ListN.{length, drop, length-drop}
use lib.Seq.{sets, paste}
use Rattle.std.proofs.lemmas.List.{take_all}
use Rattle.std.proofs.lemmas.Slice.{put_mid-paste}
use Rattle.field_words.proofs.copies.Pastes.{sets_more, paste_more}
use Rattle.field_words.proofs.copies.copy.Goals as goal

pub loop-i-preserved : goal.loop-i-preserved
loop-i-preserved c =
    let l = c.loop-i in
    let a = c.args in
    let few : l.i * 8 + 8 ≤ length a.octets.now = omega arith in
    let next : l.i * 8 + 8 ≡ (l.i + 1) * 8 = omega arith in (
      omega arith,
      c.put_64.auto.output ∙ l.invariant.1,
      c.put_64.ensures
          ∙ ap (sets l.output (a.at + l.i * 8)) c.little_64.ensures
          ∙ sets_more a.output.now a.at a.octets.now (l.i * 8) 8 (omega (arith, c.requires)) few l.invariant.2
          ∙ ap (paste a.output.now a.at a.octets.now) next,
    )

pub returns : goal.returns
returns c =
    let l = c.loop-i in
    let a = c.args in
    let whole : ℕ = length a.octets.now in
    let words : ℕ = whole / 8 * 8 in
    let passed : l.i * 8 ≡ words = omega (arith, l.invariant.0, c.loop-i-test.false) in
    let all : words + (whole - words) ≡ whole = omega arith in
    put_mid-paste (a.at + words) _ l.output c.copy_from_slice.new.self (drop words a.octets.now) (whole - words)
    (c.copy_from_slice.ensures.after ∙ take_all (whole - words) (drop words a.octets.now) (omega (arith, length-drop words a.octets.now)))
    (omega arith) (sym (length-drop words a.octets.now))
    ∙ (λ j. paste ((l.invariant.2 ∙ ap (paste a.output.now a.at a.octets.now) passed) j) (a.at + words) (drop words a.octets.now) (whole - words))
    ∙ paste_more a.output.now a.at a.octets.now words (whole - words) (omega (arith, c.requires)) (omega arith)
    ∙ ap (paste a.output.now a.at a.octets.now) all
