-- The X.25 check as document 001 computes it ("CRC Code"), line by line: C widens what it computes with, and cuts what it stores. Its
-- `length` is a uint16_t, which every frame is far below; here a list may have any length. Assumes nothing.
use Rattle.std.specs.Prelude.{List, [], ◌∷◌, ℕ, ◌*◌, ◌/◌, ◌%◌, ◌^◌}
use Rattle.std.specs.Int.Bits.{bit_and, bit_xor}

-- #define X25_INIT_CRC 0xffff
abbrev pub x25_init_crc : ℕ
x25_init_crc = 0xFFFF

-- what is stored in a uint8_t and in a uint16_t
abbrev pub uint8 : ℕ → ℕ
uint8 n = n % 2 ^ 8

abbrev pub uint16 : ℕ → ℕ
uint16 n = n % 2 ^ 16

-- void crc_accumulate(uint8_t data, uint16_t *crcAccum)
--   tmp = data ^ (uint8_t) (*crcAccum & 0xff);
--   tmp ^= (tmp << 4);
--   *crcAccum = (*crcAccum >> 8) ^ (tmp << 8) ^ (tmp << 3) ^ (tmp >> 4);
unfoldable pub crc_accumulate : ℕ → ℕ → ℕ
crc_accumulate «data» crc_accum =
    let tmp = uint8 (bit_xor «data» (uint8 (bit_and crc_accum 0xFF))) in
    let tmp = uint8 (bit_xor tmp (tmp * 2 ^ 4)) in
    uint16 (bit_xor (bit_xor (bit_xor (crc_accum / 2 ^ 8) (tmp * 2 ^ 8)) (tmp * 2 ^ 3)) (tmp / 2 ^ 4))

-- void crc_accumulate_buffer(uint16_t *crcAccum, const char *pBuffer, uint16_t length)
--   while (length--) crc_accumulate(*p++, crc_accum);
unfoldable pub crc_accumulate_buffer : ℕ → List ℕ → ℕ
crc_accumulate_buffer crc_accum [] = crc_accum
crc_accumulate_buffer crc_accum («data» ∷ buffer) = crc_accumulate_buffer (crc_accumulate «data» crc_accum) buffer

-- uint16_t crc_calculate(const uint8_t *pBuffer, uint16_t length)
--   crc_init(&crcTmp);
--   while (length--) crc_accumulate(*pBuffer++, &crcTmp);
--   return crcTmp;
abbrev pub crc_calculate : List ℕ → ℕ
crc_calculate = crc_accumulate_buffer x25_init_crc
