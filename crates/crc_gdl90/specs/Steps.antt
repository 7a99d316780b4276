-- The steps of the frame check as the functions take them: each is its function's own expression. Assumes nothing.
use Rattle.std.specs.Prelude.{List, [], ◌∷◌, ℕ, ◌+◌, ◌*◌, ◌/◌, ◌%◌, ◌^◌, get_or}
use Rattle.std.specs.Int.Bits.{bit_xor}

-- `next_check`: one octet, by a table
unfoldable pub by_table : List ℕ → ℕ → ℕ → ℕ
by_table table check octet = bit_xor (get_or table (check / 256) 0) (check % 256 * 256 + octet)

-- `next_check_octet`: one octet, by shifts of 16 bits
unfoldable pub by_shifts : ℕ → ℕ → ℕ
by_shifts check octet =
    let high = check / 2 ^ 8 in
    let fold = bit_xor high (high / 2 ^ 4) in
    bit_xor (bit_xor (bit_xor (bit_xor fold (fold * 2 ^ 5 % 2 ^ 16)) (fold * 2 ^ 12 % 2 ^ 16)) (check * 2 ^ 8 % 2 ^ 16)) octet

-- `next_check_pair`: two octets, by shifts
unfoldable pub two_by_shifts : ℕ → ℕ → ℕ → ℕ
two_by_shifts check first second =
    let q = bit_xor (bit_xor (bit_xor (bit_xor check (check / 16)) (check / 256)) (check / 2048)) (check / 4096) in
    bit_xor (bit_xor (bit_xor q (q * 32)) (q * 4096) % 65536) (first * 256 + second)

-- `next_check_eight`: eight octets, the most significant of the word first, by shifts of 64 bits
unfoldable pub eight_by_shifts : ℕ → ℕ → ℕ
eight_by_shifts check word =
    let joined = bit_xor (check * 2 ^ 48 % 2 ^ 64) (word / 2 ^ 16) in
    let a = bit_xor joined (joined / 2 ^ 32) in
    let b = bit_xor (bit_xor a (a / 2 ^ 16)) (a / 2 ^ 44) in
    let c = bit_xor (bit_xor (bit_xor b (b / 2 ^ 8)) (b / 2 ^ 22)) (b / 2 ^ 32) in
    let q = bit_xor (bit_xor (bit_xor c (c / 2 ^ 4)) (c / 2 ^ 11)) (c / 2 ^ 16) in
    bit_xor (bit_xor (bit_xor q (q * 2 ^ 5 % 2 ^ 64)) (q * 2 ^ 12 % 2 ^ 64)) word % 65536

-- so many single steps
unfoldable pub one_by_one : ℕ → List ℕ → ℕ
one_by_one check [] = check
one_by_one check (octet ∷ octets) = one_by_one (by_shifts check octet) octets
