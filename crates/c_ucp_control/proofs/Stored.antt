-- The struct's octets from a body's, and the body's from the struct's. Assumes nothing.
use mathlib.Core.Path.{◌≡◌, refl, sym, ap, ◌∙◌, subst}
use mathlib.Core.Bool.{◌&&◌}
use mathlib.Core.List.{List, [], ◌∷◌, ◌++◌}
use Prim.Native.Nat.{ℕ, zero, suc, ◌+◌, ◌*◌, ◌/◌, ◌%◌, ◌<◌}
use native.Mathlib.Omega.{arith}
use lib.ListN.{get_or, length}
use Rattle.crc_polynomial.specs.Polynomial.{Octets}
use Rattle.field_layout.specs.Layout.{bit_of, is_set, Run, low, octet_run, layout_octets, text_runs, text_octets, text_at}
use Rattle.field_layout.specs.Steps.{little16}
use Rattle.field_layout.proofs.RoundTrips.{octets_fields}
use Rattle.field_layout.proofs.Elements.{elements, by_elements}
use Rattle.field_signed.specs.Signed.{signed, complement}
use Rattle.field_signed.proofs.Signed.{complement_signed}
use Rattle.field_codes.specs.Codes.{is_squawk}
use Rattle.field_texts.specs.Text.{is_padded}
use Rattle.field_format.specs.Format.{value_in, body_of}
use Rattle.field_format.proofs.ByOctets.{by_octets}
use Rattle.ucp_messages.specs.Control45.{control_format}
use Rattle.c_lent.specs.Structs.{stored, held}
use Rattle.c_ucp_control.specs.Struct.{control_struct, control_state}

-- a bit as a truth value and back
bit_back : (n : ℕ) → n < 2 → n ≡ bit_of (is_set n)
bit_back zero h = refl
bit_back (suc zero) h = refl
bit_back (suc (suc n)) h = absurd (omega arith)

elements_octets : (n i : ℕ) (xs : List ℕ) → Octets xs → Octets (elements n i xs)
elements_octets zero i xs h k = omega arith
elements_octets (suc n) i xs h zero = h i
elements_octets (suc n) i xs h (suc k) = elements_octets n (suc i) xs h k

-- what a body and the struct have alike: altitude, squawk, emergency, identity
abbrev alike : List Run
alike = low 4 ∷ low 2 ∷ octet_run ∷ text_runs

number_lt : (a b c d : ℕ) → a < 256 → b < 256 → c < 256 → d < 256 → d * 16777216 + (c * 65536 + (b * 256 + a)) < 4294967296
number_lt a b c d la lb lc ld = omega arith

-- fifteen octets read and written again, the altitude by way of its sign
again : (a b c d e f g h i j k l m n o : ℕ) → Octets (a ∷ b ∷ c ∷ d ∷ e ∷ f ∷ g ∷ h ∷ i ∷ j ∷ k ∷ l ∷ m ∷ n ∷ o ∷ [])
    → (a ∷ b ∷ c ∷ d ∷ e ∷ f ∷ g ∷ h ∷ i ∷ j ∷ k ∷ l ∷ m ∷ n ∷ o ∷ [])
    ≡ layout_octets alike
    (complement 2147483648 (signed 2147483648 (d * 16777216 + (c * 65536 + (b * 256 + a))))
    ∷ (f * 256 + e) ∷ g ∷ h ∷ i ∷ j ∷ k ∷ l ∷ m ∷ n ∷ o ∷ [])
again a b c d e f g h i j k l m n o is =
    sym (octets_fields alike (a ∷ b ∷ c ∷ d ∷ e ∷ f ∷ g ∷ h ∷ i ∷ j ∷ k ∷ l ∷ m ∷ n ∷ o ∷ []) (refl, (refl, (refl, (refl, (refl, (refl, (refl, (refl, (refl, tt))))))))) is refl)
    ∙ ap (λ (v : ℕ). layout_octets alike (v ∷ (f * 256 + e) ∷ g ∷ h ∷ i ∷ j ∷ k ∷ l ∷ m ∷ n ∷ o ∷ []))
    (sym (complement_signed 2147483648 (d * 16777216 + (c * 65536 + (b * 256 + a))) (number_lt a b c d (is 0) (is 1) (is 2) (is 3))))

-- the struct's octets, from a body's
pub body_stored : (body : List ℕ) → Octets body → length body ≡ 18
    → (get_or body 2 0 / 128
    ∷ get_or body 2 0 % 128 / 64
    ∷ get_or body 2 0 % 128 % 64 / 32
    ∷ get_or body 2 0 % 128 % 64 % 32 / 16
    ∷ get_or body 2 0 % 128 % 64 % 32 % 16 / 8
    ∷ get_or body 2 0 % 128 % 64 % 32 % 16 % 8 / 2
    ∷ get_or body 2 0 % 128 % 64 % 32 % 16 % 8 % 2
    ∷ 0
    ∷ get_or body 3 0 ∷ get_or body 4 0 ∷ get_or body 5 0 ∷ get_or body 6 0 ∷ get_or body 7 0 ∷ get_or body 8 0 ∷ get_or body 9 0 ∷ get_or body 10 0 ∷ get_or body 11 0 ∷ get_or body 12 0 ∷ get_or body 13 0 ∷ get_or body 14 0 ∷ get_or body 15 0 ∷ get_or body 16 0 ∷ get_or body 17 0
    ∷ 0
    ∷ [])
    ≡ stored control_struct (value_in control_format body)
unfolding stored value_in
body_stored body is n =
    let s = get_or body 2 0 in
    let small = is 2 in
    let tail = again (get_or body 3 0) (get_or body 4 0) (get_or body 5 0) (get_or body 6 0) (get_or body 7 0) (get_or body 8 0) (get_or body 9 0) (get_or body 10 0) (get_or body 11 0) (get_or body 12 0) (get_or body 13 0) (get_or body 14 0) (get_or body 15 0) (get_or body 16 0) (get_or body 17 0) (elements_octets 15 3 body is) in
    let of : (get_or body 2 0 / 128 ∷ get_or body 2 0 % 128 / 64 ∷ get_or body 2 0 % 128 % 64 / 32 ∷ get_or body 2 0 % 128 % 64 % 32 / 16 ∷ get_or body 2 0 % 128 % 64 % 32 % 16 / 8 ∷ get_or body 2 0 % 128 % 64 % 32 % 16 % 8 / 2 ∷ get_or body 2 0 % 128 % 64 % 32 % 16 % 8 % 2 ∷ 0 ∷ get_or body 3 0 ∷ get_or body 4 0 ∷ get_or body 5 0 ∷ get_or body 6 0 ∷ get_or body 7 0 ∷ get_or body 8 0 ∷ get_or body 9 0 ∷ get_or body 10 0 ∷ get_or body 11 0 ∷ get_or body 12 0 ∷ get_or body 13 0 ∷ get_or body 14 0 ∷ get_or body 15 0 ∷ get_or body 16 0 ∷ get_or body 17 0 ∷ 0 ∷ []) ≡ stored control_struct (value_in control_format (elements 18 0 body)) =
    λ t. bit_back (s / 128) (omega arith) t
    ∷ bit_back (s % 128 / 64) (omega arith) t
    ∷ bit_back (s % 128 % 64 / 32) (omega arith) t
    ∷ bit_back (s % 128 % 64 % 32 / 16) (omega arith) t
    ∷ bit_back (s % 128 % 64 % 32 % 16 / 8) (omega arith) t
    ∷ s % 128 % 64 % 32 % 16 % 8 / 2
    ∷ bit_back (s % 128 % 64 % 32 % 16 % 8 % 2) (omega arith) t
    ∷ 0
    ∷ tail t ++ 0
    ∷ []
    in
    of ∙ ap (λ (b : List ℕ). stored control_struct (value_in control_format b)) (sym (by_elements 18 body n))

-- the ranges of a body's fields, by its octets
pub in_range : (body : List ℕ) → length body ≡ 18
    → (is_squawk (little16 body 7) && is_padded (text_octets (text_at body 10))) ≡ control_format.ranges (value_in control_format body)
unfolding value_in
in_range body n = ap control_format.ranges (by_octets control_format 18 body n)

-- the body, from the struct's octets
pub body_held : (message : List ℕ) → Octets message → length message ≡ 24
    → body_of control_format (held control_struct message) ≡ 45 ∷ 1 ∷ control_state (held control_struct message) ∷ elements 15 8 message
unfolding body_of held
body_held message is n =
    let tail = again (get_or message 8 0) (get_or message 9 0) (get_or message 10 0) (get_or message 11 0) (get_or message 12 0) (get_or message 13 0) (get_or message 14 0) (get_or message 15 0) (get_or message 16 0) (get_or message 17 0) (get_or message 18 0) (get_or message 19 0) (get_or message 20 0) (get_or message 21 0) (get_or message 22 0) (elements_octets 15 8 message is) in
    subst (λ (xs : List ℕ). body_of control_format (held control_struct xs) ≡ 45 ∷ 1 ∷ control_state (held control_struct xs) ∷ elements 15 8 message)
    (sym (by_elements 24 message n))
    (λ t. 45 ∷ 1 ∷ control_state (held control_struct (elements 24 0 message)) ∷ sym tail t)
