-- A message as the octets of its C struct: one more layout of a kind's columns, by the offsets
-- of the System V ABI for x86-64, numbers little-endian. Assumes nothing.
use Rattle.std.specs.Prelude.{◌≡◌, Bool, true, not, List, [], ◌∷◌, ◌++◌, ℕ, ◌+◌, ◌*◌, eqb, get_or, drop, replicate}
use Rattle.field_layout.specs.Layout.{bit_of, Run, low as low_run, octet_run, layout_size, layout_fields, layout_octets, text_runs, text_octets, text_at}
use Rattle.field_layout.specs.declared.Text.{Text}
use Rattle.field_format.specs.Format.{Sort, unsigned, Column, field, flag, letters, Number, number_to, number_of, ◌&◌, Row, Made, made, RowTyped, row_tested, RowSound}

-- a bool of C in memory: 0 is no, any other octet is yes
abbrev pub is_yes : ℕ → Bool
is_yes octet = not (eqb octet 0)

-- what stands in a struct, in its order
pub data Member (A : Type 0) : Type 0 where
  bool : (A → Bool) → Member A
  -- one number of so many octets, least significant octet first
  low : ℕ → (s : Sort) → (A → Number s) → Member A
  -- a text of eight octets
  text : (A → Text) → Member A
  -- so many octets that mean nothing
  padding : ℕ → Member A

module _ {A : Type 0} where
  -- one octet that is a number
  abbrev pub struct_octet : (A → ℕ) → Member A
  struct_octet get = low 1 unsigned get

  abbrev pub struct_runs : List (Member A) → List Run
  struct_runs [] = []
  struct_runs (bool get ∷ ms) = octet_run ∷ struct_runs ms
  struct_runs (low n s get ∷ ms) = low_run n ∷ struct_runs ms
  struct_runs (text get ∷ ms) = text_runs ++ struct_runs ms
  struct_runs (padding n ∷ ms) = replicate n octet_run ++ struct_runs ms

  abbrev pub struct_columns : List (Member A) → List Column
  struct_columns [] = []
  struct_columns (bool get ∷ ms) = flag ∷ struct_columns ms
  struct_columns (low n s get ∷ ms) = field s (n * 8) ∷ struct_columns ms
  struct_columns (text get ∷ ms) = letters ∷ struct_columns ms
  struct_columns (padding n ∷ ms) = struct_columns ms

  -- a value's members
  abbrev pub struct_row_of : (ms : List (Member A)) → A → Row (struct_columns ms)
  struct_row_of [] a = tt
  struct_row_of (bool get ∷ ms) a = get a & struct_row_of ms a
  struct_row_of (low n s get ∷ ms) a = get a & struct_row_of ms a
  struct_row_of (text get ∷ ms) a = get a & struct_row_of ms a
  struct_row_of (padding n ∷ ms) a = struct_row_of ms a

  -- the numbers of members, and the members of numbers
  abbrev pub struct_row_to : (ms : List (Member A)) → Row (struct_columns ms) → List ℕ
  struct_row_to [] r = []
  struct_row_to (bool get ∷ ms) r = bit_of r.first ∷ struct_row_to ms r.rest
  struct_row_to (low n s get ∷ ms) r = number_to s (n * 8) r.first ∷ struct_row_to ms r.rest
  struct_row_to (text get ∷ ms) r = text_octets r.first ++ struct_row_to ms r.rest
  struct_row_to (padding n ∷ ms) r = replicate n 0 ++ struct_row_to ms r

  abbrev pub struct_row_from : (ms : List (Member A)) → List ℕ → Row (struct_columns ms)
  struct_row_from [] vs = tt
  struct_row_from (bool get ∷ ms) vs = is_yes (get_or vs 0 0) & struct_row_from ms (drop 1 vs)
  struct_row_from (low n s get ∷ ms) vs = number_of s (n * 8) (get_or vs 0 0) & struct_row_from ms (drop 1 vs)
  struct_row_from (text get ∷ ms) vs = text_at vs 0 & struct_row_from ms (drop 8 vs)
  struct_row_from (padding n ∷ ms) vs = struct_row_from ms (drop n vs)

-- a struct whose values are those of A
pub record Struct (A : Type 0) : Type 0 where
  pub members : List (Member A)
  -- a value by its members
  pub value : Made (struct_columns members) A

module _ {A : Type 0} where
  -- the offsets of the members, padding left out
  abbrev pub struct_offsets_from : ℕ → List (Member A) → List ℕ
  struct_offsets_from k [] = []
  struct_offsets_from k (bool get ∷ ms) = k ∷ struct_offsets_from (k + 1) ms
  struct_offsets_from k (low n s get ∷ ms) = k ∷ struct_offsets_from (k + n) ms
  struct_offsets_from k (text get ∷ ms) = k ∷ struct_offsets_from (k + 8) ms
  struct_offsets_from k (padding n ∷ ms) = struct_offsets_from (k + n) ms

-- a struct is right if signed numbers have a sign, and its members make up the value
pub record RightStruct {A : Type 0} (s : Struct A) : Type 0 where
  pub sound : RowSound (struct_columns s.members)
  pub back : (a : A) → made (struct_columns s.members) s.value (struct_row_of s.members a) ≡ a

module _ {A : Type 0} (s : Struct A) where
  abbrev pub struct_offsets : List ℕ
  struct_offsets = struct_offsets_from 0 s.members

  -- how many octets it has
  abbrev pub struct_size : ℕ
  struct_size = layout_size (struct_runs s.members)

  -- the octets that hold a value, the padding zero
  unfoldable pub stored : A → List ℕ
  stored a = layout_octets (struct_runs s.members) (struct_row_to s.members (struct_row_of s.members a))

  -- the value that octets hold, whatever the padding
  unfoldable pub held : List ℕ → A
  held xs = made (struct_columns s.members) s.value (struct_row_from s.members (layout_fields (struct_runs s.members) xs))

  -- every number is one that its type in C has, and has room
  abbrev pub TypedIn : A → Type 0
  TypedIn a =
      RowTyped (struct_columns s.members) (struct_row_of s.members a)
      × (row_tested true (struct_columns s.members) (struct_row_of s.members a) ≡ true)
