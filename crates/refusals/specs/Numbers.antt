-- The refusals' numbers, each named once for all definitions (document 01, the table). Definitions import this module as
-- `because`: `refused because.wrong_check`. Assumes nothing.
use Rattle.std.specs.Prelude.{ℕ}

-- ---- the receiver

-- 7D followed by an octet other than 5D, 5E, 7E
abbrev pub bad_escape : ℕ
bad_escape = 1

-- 7D directly before the closing flag
abbrev pub escape_before_flag : ℕ
escape_before_flag = 2

-- more than 438 unstuffed octets
abbrev pub too_long : ℕ
too_long = 3

-- fewer than 3 unstuffed octets
abbrev pub too_short : ℕ
too_short = 4

-- check wrong
abbrev pub wrong_check : ℕ
wrong_check = 5

-- lent output shorter than the body; the frame is lost
abbrev pub room : ℕ
room = 6

-- ---- writers

-- a body of 0 or more than 436 octets
abbrev pub body_length : ℕ
body_length = 7

-- output shorter than the frame or body it writes
abbrev pub output_length : ℕ
output_length = 8

-- ---- messages of the UCP line

-- unknown ID, or empty body
abbrev pub unknown_id : ℕ
unknown_id = 10

-- length not the kind's
abbrev pub message_length : ℕ
message_length = 11

-- wrong version, signature or subtype
abbrev pub fixed : ℕ
fixed = 12

-- a field outside its range
abbrev pub field : ℕ
field = 13

-- ---- MAVLink

-- too few octets
abbrev pub mavlink_short : ℕ
mavlink_short = 20

-- first octet not FE
abbrev pub mavlink_start : ℕ
mavlink_start = 21

-- unknown message ID
abbrev pub mavlink_unknown_id : ℕ
mavlink_unknown_id = 22

-- length octet not the kind's
abbrev pub mavlink_length : ℕ
mavlink_length = 23

-- check wrong
abbrev pub mavlink_wrong_check : ℕ
mavlink_wrong_check = 24

-- a field outside its range
abbrev pub mavlink_field : ℕ
mavlink_field = 25
