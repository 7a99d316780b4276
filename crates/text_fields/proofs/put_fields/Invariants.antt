-- `text_fields::put_fields` meets its contract. The loop's invariant: the page's end is in the room, or nothing of the template is put yet;
-- and once what is left is put, all is there. Assumes nothing.
use mathlib.Core.Path.{◌≡◌}
use mathlib.Core.Logic.{◌⊎◌}
use Prim.Native.Nat.{◌≤◌}
use lib.ListN.{length}
use Rattle.text_output.specs.Clips.{text_room}
use Rattle.text_output.proofs.Printed.{Left}
use Rattle.text_fields.specs.Templates.{filled}
use Rattle.text_fields.proofs.put_fields.Given as goal

abbrev pub invariant-loop-code : goal.invariant-loop-code
invariant-loop-code l =
    ((l.page.end ≤ text_room) ⊎ ((l.rest ≡ l.template) × (l.page.end ≡ l.initial.page.end))) × (length l.page.room ≡ text_room)
    × Left l.initial.page.room l.initial.page.end (filled 0 l.template l.initial.naturals.rest.now l.initial.shorts.rest.now l.initial.longs.rest.now l.values.octets.now) l.page.room l.page.end (filled 0 l.rest l.naturals.rest.now l.shorts.rest.now l.longs.rest.now l.values.octets.now)

abbrev pub decreases-loop-code : goal.decreases-loop-code
decreases-loop-code l = length l.rest
