-- Both round trips of the messages' calls for C, over what a writer's call and a reader's call ensure: each written message reads
-- back equal, and each accepted one writes back to the same octets (the tender, demand 2). Assumes nothing.
use Rattle.std.specs.Prelude.{◌≡◌, List, ◌++◌, ℕ, ◌≤◌, length, take, drop}
use Rattle.crc_polynomial.specs.Polynomial.{Octets}
use Rattle.field_format.specs.Format.{Format}
use Rattle.output_writing.specs.declared.OstrogoszWritten.{OstrogoszWritten}
use Rattle.c_lent.specs.Structs.{Struct, struct_size, stored, held}
use Rattle.c_lent.specs.Reads.{ReadsInto}
use Rattle.c_lent.specs.Writes.{WritesStructBody}
use Rattle.c_ucp_uplink.specs.Uplink.{ReadsUplink, WritesUplink}
use Rattle.thm_c_messages.specs.EachKind.{OfEachKind}

-- a reader answered 0, and the struct that it left holds what the other does; with padding zero, that is all that it holds
abbrev pub ReadsSame : {A : Type 0} → Struct A → List ℕ → ℕ → List ℕ → Type 0
ReadsSame s message r left = (r ≡ 0) × (held s left ≡ held s message) × (left ≡ stored s (held s message))

-- the writer accepted the message that a struct holds, and the reader is given the octets written: its struct holds the same. (The struct's octets are octets, and as many as it has: as a running program's are, and antt's numbers
-- need not be.)
abbrev pub StructReadsBack : {A : Type 0} → Format A → Struct A → Type 0
StructReadsBack f s =
    (message output after before left : List ℕ) (w : OstrogoszWritten) (r : ℕ) → Octets message → length message ≡ struct_size s
    → WritesStructBody f (held s message) output w after → w.refusal ≡ 0
    → ReadsInto f s (take w.length after) before r left
    → ReadsSame s message r left

-- the reader accepted a body, and the writer is given the struct that it left, and room: it writes the same octets
abbrev pub StructWritesBack : {A : Type 0} → Format A → Struct A → Type 0
StructWritesBack f s =
    (body before message output after : List ℕ) (w : OstrogoszWritten) → Octets body
    → ReadsInto f s body before 0 message → length body ≤ length output
    → WritesStructBody f (held s message) output w after
    → (w ≡ record { refusal = 0; length = length body }) × (after ≡ body ++ drop (length body) output)

abbrev pub StructRoundTrips : {A : Type 0} → Format A → Struct A → Type 0
StructRoundTrips f s = StructReadsBack f s × StructWritesBack f s

-- the same of an uplink, whose payload is lent
abbrev pub UplinkRoundTrips : Type 0
UplinkRoundTrips =
    ((payload output after before left : List ℕ) (w : OstrogoszWritten) (r : ℕ)
    → WritesUplink payload output w after → w.refusal ≡ 0 → ReadsUplink (take w.length after) before r left
    → (r ≡ 0) × (left ≡ payload))
    × ((body before payload output after : List ℕ) (w : OstrogoszWritten)
    → ReadsUplink body before 0 payload → length body ≤ length output → WritesUplink payload output w after
    → (w ≡ record { refusal = 0; length = length body }) × (after ≡ body ++ drop (length body) output))

-- every kind of the UCP line
abbrev pub LentRoundTrips : Type 0
LentRoundTrips = OfEachKind (λ A id k f s. StructRoundTrips f s) UplinkRoundTrips
