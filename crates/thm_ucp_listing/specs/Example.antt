-- Document 01's input for the line lister, and its whole output. Assumes nothing.
use Rattle.std.specs.Prelude.{◌≡◌, List, [], ◌∷◌, ◌++◌, ℕ}
use Rattle.text_output.specs.Text.{codes}
use Rattle.thm_ucp_listing.specs.Input.{listing}

abbrev pub example_input : List ℕ
example_input = 0x7E ∷ 0x2C ∷ 0x01 ∷ 0x01 ∷ 0x2C ∷ 0x7E ∷ 0x2C ∷ 0x02 ∷ 0x2B ∷ 0xC5 ∷ 0xE7 ∷ 0x7E ∷ 0x7D ∷ 0x7E ∷ []

abbrev pub example_output : List ℕ
example_output =
    codes "ok 2 2c 01\n"
    ++ (codes "ok 3 2c 02 2b\n" ++ (codes "no 2\n" ++ codes "bytes 14 flags 4 delivered 9 refused 1 skipped 0 open 0\n"))

pub record ListingExamples : Type 0 where
  pub example : listing example_input ≡ example_output
  -- no input: the account alone
  pub empty : listing [] ≡ codes "bytes 0 flags 0 delivered 0 refused 0 skipped 0 open 0\n"
