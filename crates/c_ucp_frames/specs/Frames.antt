-- What the frame writer for C and Rust does: `WritesFrame` in numbers. Assumes nothing.
use Rattle.std.specs.Prelude.{List, ℕ}
use Rattle.output_writing.specs.declared.OstrogoszWritten.{OstrogoszWritten}
use Rattle.output_writing.specs.Writing.{WritingNumbers}
use Rattle.ucp_frame.specs.Frame.{frame}
use Rattle.ucp_writer.specs.Room.{frame_due}

-- one call, whole: the body and the output as at entry; what is given back, and the output as at return
abbrev pub WritesFrameNumbers : List ℕ → List ℕ → OstrogoszWritten → List ℕ → Type 0
WritesFrameNumbers body output = WritingNumbers (frame_due body output) (frame body) output
