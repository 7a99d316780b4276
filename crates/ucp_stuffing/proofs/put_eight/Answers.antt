-- `ucp_stuffing::put_eight` meets its contract: where the word is plain, stuffing leaves it as it is. Assumes nothing.
use mathlib.Core.Path.{sym, ap, ◌∙◌}
use native.Mathlib.Omega.{arith}
use lib.ListN.{length}
use lib.Seq.{sets}
use Rattle.field_words.specs.Words.{octets_up}
use Rattle.field_words.proofs.Bytes.{bytes_up}
use Rattle.ucp_stuffing.proofs.put_eight.Goals as goal

pub put_64-requires : goal.put_64-requires
unfolding octets_up
put_64-requires c = omega (arith, ap length (c.is_plain.ensures c.if-is_plain.true), c.requires)

pub returns-then-is_plain : goal.returns-then-is_plain
unfolding octets_up
returns-then-is_plain c =
    let plain = c.is_plain.ensures c.if-is_plain.true in
    record { ends = omega (arith, ap length plain); leaves = c.put_64.ensures ∙ ap (sets c.args.output.now c.args.at) (sym plain) }

pub put_octets-requires : goal.put_octets-requires
put_octets-requires c = rw (c.to_le_bytes.ensures ∙ bytes_up c.args.word) c.requires

pub returns-else-is_plain : goal.returns-else-is_plain
returns-else-is_plain c = rw (sym (c.to_le_bytes.ensures ∙ bytes_up c.args.word)) c.put_octets.ensures
