-- A call whose answer is given in numbers. Assumes nothing.
use mathlib.Core.Path.{◌≡◌, ap, ◌∙◌}
use mathlib.Core.List.{List}
use Prim.Native.Nat.{ℕ}
use Rattle.output_writing.specs.declared.OstrogoszWritten.{OstrogoszWritten}
use Rattle.output_writing.specs.Writing.{Written, WriterAnswer, writer_answer, output_after, Writing, written_numbers, WritingNumbers}

pub as_numbers : {due : WriterAnswer} {octets output after : List ℕ} {answer : Written} {given : OstrogoszWritten}
    → given ≡ written_numbers (writer_answer answer) → Writing due octets output answer after → WritingNumbers due octets output given after
as_numbers e w = record { answers = e ∙ ap written_numbers w.answers; leaves = w.leaves ∙ ap (output_after _ _) w.answers }
