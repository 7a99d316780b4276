-- The format of a kind of message: the octets that are fixed, the fields in the document's order, and their ranges; what a body
-- carries, and the body that carries a value. Assumes nothing.
use Rattle.std.specs.Prelude.{◌≡◌, Bool, true, ◌&&◌, List, [], ◌∷◌, ◌++◌, ℕ, zero, suc, ◌+◌, ◌*◌, ◌/◌, ◌^◌, ◌<◌, ltb, eqb, ℤ, get_or, length, drop}
use Rattle.field_layout.specs.Layout.{bit_of, is_set, eights, text_octets, text_at, total, Run, high as high_run, low as low_run, layout_size, layout_fields, layout_octets, Whole, text_runs}
use Rattle.field_layout.specs.declared.Text.{Text}
use Rattle.field_signed.specs.Signed.{signed, complement, holds}

-- what a number is
pub data Sort : Type 0 where
  -- unsigned, and as wide as its type, so that every value has room
  unsigned : Sort
  -- unsigned, in fewer bits than its type has, so that a writer tests it
  part : Sort
  -- signed by two's complement; the same two
  integer : Sort
  integer_part : Sort

-- a field: a number of so many bits, a bit as a truth value, or a text of eight octets
pub data Column : Type 0 where
  field : Sort → ℕ → Column
  flag : Column
  letters : Column

-- the number at which a signed number of so many bits turns negative
abbrev pub half : ℕ → ℕ
half w = 2 ^ w / 2

-- ---- a number
abbrev pub Number : Sort → Type 0
Number unsigned = ℕ
Number part = ℕ
Number integer = ℤ
Number integer_part = ℤ

abbrev pub number_to : (s : Sort) → ℕ → Number s → ℕ
number_to unsigned w n = n
number_to part w n = n
number_to integer w z = complement (half w) z
number_to integer_part w z = complement (half w) z

abbrev pub number_of : (s : Sort) → ℕ → ℕ → Number s
number_of unsigned w n = n
number_of part w n = n
number_of integer w n = signed (half w) n
number_of integer_part w n = signed (half w) n

-- ---- a field
abbrev pub Of : Column → Type 0
Of (field s w) = Number s
Of flag = Bool
Of letters = Text

-- the widths of its numbers, in bits, and how many they are
abbrev pub widths_of : Column → List ℕ
widths_of (field s w) = w ∷ []
widths_of flag = 1 ∷ []
widths_of letters = eights 8

abbrev pub count : Column → ℕ
count (field s w) = 1
count flag = 1
count letters = 8

-- its numbers, and its value from the numbers from a place on
abbrev pub to : (c : Column) → Of c → List ℕ
to (field s w) v = number_to s w v ∷ []
to flag b = bit_of b ∷ []
to letters t = text_octets t

abbrev pub from : (c : Column) → ℕ → List ℕ → Of c
from (field s w) k vs = number_of s w (get_or vs k 0)
from flag k vs = is_set (get_or vs k 0)
from letters k vs = text_at vs k

-- what its type says of a value, what a writer tests besides, and what the test shows
abbrev pub Typed : (c : Column) → Of c → Type 0
Typed (field unsigned w) n = n < 2 ^ w
Typed (field part w) n = Unit {0}
Typed (field integer w) z = holds (half w) z ≡ true
Typed (field integer_part w) z = Unit {0}
Typed flag b = Unit {0}
Typed letters t =
    (t.c0 < 256) × (t.c1 < 256) × (t.c2 < 256) × (t.c3 < 256) × (t.c4 < 256) × (t.c5 < 256) × (t.c6 < 256) × (t.c7 < 256)

abbrev pub tested : Bool → (c : Column) → Of c → Bool
tested before (field unsigned w) n = before
tested before (field part w) n = before && ltb n (2 ^ w)
tested before (field integer w) z = before
tested before (field integer_part w) z = before && holds (half w) z
tested before flag b = before
tested before letters t = before

abbrev pub Bounded : (c : Column) → Of c → Type 0
Bounded (field unsigned w) n = Unit {0}
Bounded (field part w) n = n < 2 ^ w
Bounded (field integer w) z = Unit {0}
Bounded (field integer_part w) z = complement (half w) z < 2 ^ w
Bounded flag b = Unit {0}
Bounded letters t = Unit {0}

-- a signed number has a bit for its sign
abbrev pub Sound : Column → Type 0
Sound (field unsigned w) = Unit {0}
Sound (field part w) = Unit {0}
Sound (field integer w) = 0 < w
Sound (field integer_part w) = 0 < w
Sound flag = Unit {0}
Sound letters = Unit {0}

-- ---- a row: a value for each column
pub record Cell (A B : Type 0) : Type 0 where
  pub first : A
  pub rest : B

infixr 20 ◌&◌
abbrev pub ◌&◌ : {A B : Type 0} → A → B → Cell A B
a & b = record { first = a; rest = b }

abbrev pub Row : List Column → Type 0
Row [] = Unit {0}
Row (c ∷ cs) = Cell (Of c) (Row cs)

-- a function of a value for each column, and what it gives for a row
abbrev pub Made : List Column → Type 0 → Type 0
Made [] A = A
Made (c ∷ cs) A = Of c → Made cs A

abbrev pub made : {A : Type 0} (cs : List Column) → Made cs A → Row cs → A
made [] f r = f
made (c ∷ cs) f r = made cs (f r.first) r.rest

abbrev pub row_widths : List Column → List ℕ
row_widths [] = []
row_widths (c ∷ cs) = widths_of c ++ row_widths cs

abbrev pub row_to : (cs : List Column) → Row cs → List ℕ
row_to [] r = []
row_to (c ∷ cs) r = to c r.first ++ row_to cs r.rest

abbrev pub row_from : (cs : List Column) → ℕ → List ℕ → Row cs
row_from [] k vs = tt
row_from (c ∷ cs) k vs = from c k vs & row_from cs (k + count c) vs

abbrev pub RowTyped : (cs : List Column) → Row cs → Type 0
RowTyped [] r = Unit {0}
RowTyped (c ∷ cs) r = Typed c r.first × RowTyped cs r.rest

abbrev pub row_tested : Bool → (cs : List Column) → Row cs → Bool
row_tested before [] r = before
row_tested before (c ∷ cs) r = row_tested (tested before c r.first) cs r.rest

abbrev pub RowBounded : (cs : List Column) → Row cs → Type 0
RowBounded [] r = Unit {0}
RowBounded (c ∷ cs) r = Bounded c r.first × RowBounded cs r.rest

-- the same of one column, by its place
abbrev pub BoundedAt : (cs : List Column) → Row cs → ℕ → Type 0
BoundedAt [] r k = Unit {0}
BoundedAt (c ∷ cs) r zero = Bounded c r.first
BoundedAt (c ∷ cs) r (suc k) = BoundedAt cs r.rest k

abbrev pub RowSound : List Column → Type 0
RowSound [] = Unit {0}
RowSound (c ∷ cs) = Sound c × RowSound cs

-- a field of a value: how it stands in numbers, and what it is
pub record Field (A : Type 0) : Type 0 where
  pub column : Column
  pub get : A → Of column

-- what stands in a message, in the document's order
pub data Item (A : Type 0) : Type 0 where
  -- fields in whole octets, most significant bit first
  high : List (Field A) → Item A
  -- one number of so many octets, least significant octet first
  low : ℕ → (s : Sort) → (A → Number s) → Item A
  -- a text of eight octets
  text : (A → Text) → Item A

module _ {A : Type 0} where
  -- a number of so many bits; one that is narrower than its type; and a bit
  abbrev pub number : (s : Sort) → ℕ → (A → Number s) → Field A
  number s w get = record { column = field s w; get = get }

  abbrev pub bits : ℕ → (A → ℕ) → Field A
  bits w get = number part w get

  abbrev pub bit : (A → Bool) → Field A
  bit get = record { column = flag; get = get }

  -- one octet that is a number
  abbrev pub octet : (A → ℕ) → Item A
  octet get = high (number unsigned 8 get ∷ [])

  abbrev pub field_columns : List (Field A) → List Column
  field_columns [] = []
  field_columns (f ∷ fs) = f.column ∷ field_columns fs

  abbrev pub runs : List (Item A) → List Run
  runs [] = []
  runs (high fs ∷ is) = high_run (row_widths (field_columns fs)) ∷ runs is
  runs (low n s get ∷ is) = low_run n ∷ runs is
  runs (text get ∷ is) = text_runs ++ runs is

  abbrev pub columns : List (Item A) → List Column
  columns [] = []
  columns (high fs ∷ is) = field_columns fs ++ columns is
  columns (low n s get ∷ is) = field s (n * 8) ∷ columns is
  columns (text get ∷ is) = letters ∷ columns is

  -- a value's fields
  abbrev pub fields_row : (fs : List (Field A)) (cs : List Column) → A → Row cs → Row (field_columns fs ++ cs)
  fields_row [] cs a r = r
  fields_row (f ∷ fs) cs a r = f.get a & fields_row fs cs a r

  abbrev pub row_of : (is : List (Item A)) → A → Row (columns is)
  row_of [] a = tt
  row_of (high fs ∷ is) a = fields_row fs (columns is) a (row_of is a)
  row_of (low n s get ∷ is) a = get a & row_of is a
  row_of (text get ∷ is) a = get a & row_of is a

-- a kind whose values are those of A
pub record Format (A : Type 0) : Type 0 where
  -- the ID, and the octets behind it that are the same in each message: 12 for another
  pub head : List ℕ
  -- what follows
  pub items : List (Item A)
  -- a value by its fields
  pub value : Made (columns items) A
  -- whether the fields are in the document's ranges: 13 where not
  pub ranges : A → Bool

-- a format is right if its runs fill whole octets, signed numbers have a sign, and a value and its fields are one to one
pub record Right {A : Type 0} (f : Format A) : Type 0 where
  pub whole : Whole (runs f.items)
  pub sound : RowSound (columns f.items)
  pub back : (a : A) → made (columns f.items) f.value (row_of f.items a) ≡ a
  pub again : (r : Row (columns f.items)) → row_of f.items (made (columns f.items) f.value r) ≡ r

-- the octets are those from a place on
abbrev pub stand_at : Bool → ℕ → List ℕ → List ℕ → Bool
stand_at before k [] body = before
stand_at before k (x ∷ xs) body = stand_at (before && eqb (get_or body k 0) x) (k + 1) xs body

-- what the round trips ask of a body's first octet: it is the kind's ID, if the kind has one. Of no octets this says that the ID is 0:
-- that there is an octet, the length shows
abbrev pub HasId : List ℕ → List ℕ → Type 0
HasId [] body = Unit {0}
HasId (id ∷ xs) body = get_or body 0 0 ≡ id

module _ {A : Type 0} where
  -- the offsets at which the items stand, as the documents' tables give them
  abbrev pub offsets_from : ℕ → List (Item A) → List ℕ
  offsets_from k [] = []
  offsets_from k (high fs ∷ is) = k ∷ offsets_from (k + total (row_widths (field_columns fs)) / 8) is
  offsets_from k (low n s get ∷ is) = k ∷ offsets_from (k + n) is
  offsets_from k (text get ∷ is) = k ∷ offsets_from (k + 8) is

module _ {A : Type 0} (f : Format A) where
  abbrev pub offsets : List ℕ
  offsets = offsets_from (length f.head) f.items

  -- how many octets a body has
  abbrev pub body_size : ℕ
  body_size = length f.head + layout_size (runs f.items)

  -- the value that a body carries, and the body that carries a value
  unfoldable pub value_in : List ℕ → A
  value_in body = made (columns f.items) f.value (row_from (columns f.items) 0 (layout_fields (runs f.items) (drop (length f.head) body)))

  unfoldable pub body_of : A → List ℕ
  body_of a = f.head ++ layout_octets (runs f.items) (row_to (columns f.items) (row_of f.items a))

  -- a writer's test, and what it shows of the numbers that are narrower than their type
  unfoldable pub fits : A → Bool
  fits a = row_tested (f.ranges a) (columns f.items) (row_of f.items a)

  -- the same without the ranges: every number has room in its bits
  abbrev pub has_room : A → Bool
  has_room a = row_tested true (columns f.items) (row_of f.items a)

  abbrev pub Fitting : A → Type 0
  Fitting a = RowBounded (columns f.items) (row_of f.items a)

  -- every number is one that its type has
  abbrev pub TypedAs : A → Type 0
  TypedAs a = RowTyped (columns f.items) (row_of f.items a)
