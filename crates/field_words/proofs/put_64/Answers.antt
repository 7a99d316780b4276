-- `field_words::put_64` meets its contract: the bytes of the number take the place of eight octets. Assumes nothing.
use mathlib.Core.Path.{refl, sym, ap, ◌∙◌}
use native.Mathlib.Omega.{arith}
use lib.Seq.{sets-eq}
use Rattle.std.proofs.lemmas.Slice.{put_mid-paste}
use Rattle.field_words.specs.Words.{octets_up}
use Rattle.field_words.proofs.Bytes.{bytes_up}
use Rattle.field_words.proofs.put_64.Goals as goal

pub returns : goal.returns
unfolding octets_up
returns c =
    let a = c.args in
    put_mid-paste a.at _ a.output.now c.copy_from_slice.new.self (octets_up 8 a.word) 8
    (c.copy_from_slice.ensures.after ∙ c.to_le_bytes.ensures ∙ bytes_up _ ∙ ap (octets_up 8) (omega arith)) (omega arith) refl
    ∙ sym (sets-eq (octets_up 8 a.word) a.output.now a.at c.requires)
