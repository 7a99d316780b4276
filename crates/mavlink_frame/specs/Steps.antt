-- What the parts of the writer of frames do. Assumes nothing.
use Rattle.std.specs.Prelude.{List, [], ◌∷◌, ◌++◌, ℕ, ◌/◌, ◌%◌}
use Rattle.mavlink_frame.specs.declared.Kind.{Kind}
use Rattle.mavlink_frame.specs.declared.Header.{Header}
use Rattle.mavlink_frame.specs.Frame.{header_octets}

-- a check as it is sent
abbrev pub low_first : ℕ → List ℕ
low_first check = check % 256 ∷ check / 256 ∷ []

-- header, payload, and whatever check
abbrev pub closed : Kind → Header → List ℕ → ℕ → List ℕ
closed k h payload check = header_octets k h ++ (payload ++ low_first check)
