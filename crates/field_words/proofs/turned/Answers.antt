-- `field_words::turned` meets its contract, by the digits of the number that the swap gives. Assumes nothing.
use mathlib.Core.Path.{◌∙◌}
use native.Mathlib.Omega.{arith}
use Rattle.std.specs.Int.{byte_at}
use Rattle.field_words.proofs.Bytes.{bytes_up}
use Rattle.field_words.proofs.Digits.{down_eight}
use Rattle.field_words.proofs.turned.Goals as goal

pub returns : goal.returns
returns c =
    let n = c.args.word in
    down_eight c.swap_bytes.result (byte_at 7 n) (byte_at 6 n) (byte_at 5 n) (byte_at 4 n) (byte_at 3 n) (byte_at 2 n) (byte_at 1 n) (byte_at 0 n)
    (omega arith) (omega arith) (omega arith) (omega arith) (omega arith) (omega arith) (omega arith) (omega arith) (omega arith)
    ∙ bytes_up n
