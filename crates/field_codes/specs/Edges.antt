-- The last code in each range, and the first outside; of the squawk also a digit 8 in each place, of the emitter both that document
-- 02 added. Assumes nothing.
use Rattle.std.specs.Prelude.{◌≡◌, true, false}
use Rattle.field_codes.specs.Codes.{is_squawk, is_emitter, is_size_code}
use Rattle.field_codes.specs.Squawks.{mode_a}

pub record CodeEdges : Type 0 where
  -- 7 is the code 0007; 1280 is what a renter typed (document 02, c)
  pub squawk_7 : is_squawk 7 ≡ true
  pub code_of_7 : mode_a 7 ≡ 7
  pub squawk_8 : is_squawk 8 ≡ false
  pub squawk_1277 : is_squawk 1277 ≡ true
  pub squawk_1280 : is_squawk 1280 ≡ false
  pub squawk_1800 : is_squawk 1800 ≡ false
  pub squawk_7777 : is_squawk 7777 ≡ true
  pub squawk_7778 : is_squawk 7778 ≡ false
  pub squawk_8000 : is_squawk 8000 ≡ false
  pub squawk_10000 : is_squawk 10000 ≡ false
  pub squawk_65535 : is_squawk 65535 ≡ false
  -- obstacles of the ground crews (document 02, e)
  pub emitter_20 : is_emitter 20 ≡ true
  pub emitter_21 : is_emitter 21 ≡ true
  pub emitter_22 : is_emitter 22 ≡ false
  pub size_15 : is_size_code 15 ≡ true
  pub size_16 : is_size_code 16 ≡ false
