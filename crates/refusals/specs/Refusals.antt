-- The paper's number of each refusal (document 01, the table). Assumes nothing.
use Rattle.std.specs.Prelude.{◌≡◌, ◌≢◌, ℕ, Result, MatchResult}
use Rattle.refusals.specs.Numbers as because
use Rattle.refusals.specs.declared.Refusal.{Refusal}
use Rattle.refusals.specs.declared.UnknownRefusal.{UnknownRefusal}
use Rattle.refusals.specs.declared.Refusal.TheVariants as it

abbrev pub refusal_number : Refusal → ℕ
refusal_number it.BadEscape = because.bad_escape
refusal_number it.EscapeBeforeFlag = because.escape_before_flag
refusal_number it.TooLong = because.too_long
refusal_number it.TooShort = because.too_short
refusal_number it.WrongCheck = because.wrong_check
refusal_number it.Room = because.room
refusal_number it.BodyLength = because.body_length
refusal_number it.OutputLength = because.output_length
refusal_number it.UnknownId = because.unknown_id
refusal_number it.MessageLength = because.message_length
refusal_number it.Fixed = because.fixed
refusal_number it.Field = because.field
refusal_number it.MavlinkShort = because.mavlink_short
refusal_number it.MavlinkStart = because.mavlink_start
refusal_number it.MavlinkUnknownId = because.mavlink_unknown_id
refusal_number it.MavlinkLength = because.mavlink_length
refusal_number it.MavlinkWrongCheck = because.mavlink_wrong_check
refusal_number it.MavlinkField = because.mavlink_field

-- the refusal of a number; or the number, where no refusal has it
abbrev pub Decodes : ℕ → Result Refusal UnknownRefusal → Type 0
Decodes number r =
    MatchResult r (λ refusal. refusal_number refusal ≡ number) (λ e. (e.0 ≡ number) × ((refusal : Refusal) → refusal_number refusal ≢ number))
