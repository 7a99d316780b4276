-- `Page::put_printed` meets its contract. The loop's invariant: once what is left is put, all is there. Assumes nothing.
use mathlib.Core.Path.{◌≡◌}
use Prim.Native.Nat.{◌≤◌}
use lib.ListN.{length, drop}
use Rattle.text_output.specs.Clips.{text_room}
use Rattle.text_output.specs.Text.{printed}
use Rattle.text_output.proofs.Printed.{Left}
use Rattle.text_output.proofs.page.Page.put_printed.Given as goal

abbrev pub invariant-loop-octet : goal.invariant-loop-octet
invariant-loop-octet l =
    (l.self.end ≤ text_room) × (length l.self.room ≡ text_room)
    × Left l.initial.self.room l.initial.self.end (printed l.printing l.octets) l.self.room l.self.end (printed l.printing (drop l.octet-index l.octets))
