-- A writer's ways: a field is outside its range, there is no room, or the frame is written. Assumes nothing.
use Rattle.std.proofs.Common.{◌≡◌, true, false, List, ◌++◌, ℕ, ◌+◌, ◌<◌, ◌≤◌, length, drop, Ok, Err, refl}
use borrow.Author.Tests.{lt-ltb, le-ltb}
use Rattle.refusals.specs.declared.Refusal.TheVariants.{MavlinkField, OutputLength}
use Rattle.mavlink_frame.specs.declared.Header.{Header}
use Rattle.mavlink_messages.specs.declared.Message.{Message}
use Rattle.mavlink_messages.specs.Messages.{payload_of, in_range, message_frame}
use Rattle.c_mavlink.specs.Writers.{WritesMavlinkMessage}

module _ (m : Message) (h : Header) (output : List ℕ) where
  pub refused : in_range m ≡ false → WritesMavlinkMessage m h output (Err MavlinkField) output
  refused e = rw e (record { answers = refl; leaves = refl })

  pub no_room : in_range m ≡ true → length output < length (payload_of m) + 8 → WritesMavlinkMessage m h output (Err OutputLength) output
  no_room e small = rw (e, lt-ltb _ _ small) (record { answers = refl; leaves = refl })

  pub put : {n : ℕ} {after : List ℕ} → in_range m ≡ true → length (payload_of m) + 8 ≡ n → n ≤ length output
      → after ≡ message_frame m h ++ drop n output → WritesMavlinkMessage m h output (Ok n) after
  put e size room is = rw (e, size, le-ltb _ _ room) (record { answers = refl; leaves = is })
