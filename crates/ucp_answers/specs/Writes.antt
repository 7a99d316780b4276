-- What a message writer answers, and what it leaves in the output that it is lent (document 01, the table's rows 8 and 13
-- and the paragraph below it). Assumes nothing.
use Rattle.std.specs.Prelude.{Bool, cond, List, ℕ, length}
use Rattle.refusals.specs.Numbers as because
use Rattle.output_writing.specs.Writing.{Written, WriterAnswer, refused, room_for, Writing}

-- the answer that is due: 13 for a field outside its range, then 8 for an output shorter than the body
unfoldable pub body_due : Bool → List ℕ → List ℕ → WriterAnswer
body_due fits body output = cond fits (room_for (length body) output) (refused because.field)

-- one call, whole: whether the fields fit, their body, the output as at entry, the answer, and the output as at return
abbrev pub WritesBody : Bool → List ℕ → List ℕ → Written → List ℕ → Type 0
WritesBody fits body output = Writing (body_due fits body output) body output
