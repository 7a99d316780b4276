-- `ucp_writer::in_place::frame_front` meets its contract: nothing is done, or the octets are moved and the frame is closed around them.
-- Assumes nothing.
use mathlib.Core.Path.{◌≡◌, ap}
use mathlib.Core.List.{List}
use mathlib.Core.Logic.{◌⊎◌, inl, inr}
use Prim.Native.Nat.{ℕ, ◌≤◌, ◌<◌}
use native.Mathlib.Omega.{arith}
use lib.ListN.{length, take}
use lib.Seq.{length-take-le}
use Rattle.std.specs.Prelude.{Ok}
use Rattle.ucp_frame.specs.Frame.{frame, longest_body, longest_frame}
use Rattle.ucp_frame.proofs.Stuffing.{stuffed_length_most}
use Rattle.ucp_frame.proofs.Frame.{frame_length_longest}
use Rattle.ucp_writer.proofs.in_place.Moves.{end_room, framed}
use Rattle.ucp_writer.proofs.in_place.frame_front.Goals as goal

-- the first octets of a buffer for any frame are as many as they are said to be
size : (buffer : List ℕ) (octets : ℕ) → length buffer ≡ longest_frame → octets ≤ longest_body → length (take octets buffer) ≡ octets
size buffer octets n most = length-take-le octets buffer (omega (arith, n))

-- and their frame has room
room : (buffer : List ℕ) (octets : ℕ) → length buffer ≡ longest_frame → octets ≤ longest_body
    → length (frame (take octets buffer)) ≤ length buffer
room buffer octets n most = omega (arith, frame_length_longest (take octets buffer) (omega (arith, size buffer octets n most)))

-- no octet or too many
neither : (n : ℕ) → 1 ≤ n → n ≤ longest_body → (n ≡ 0) ⊎ (longest_body < n) → ⊥
neither n some few (inl e) = omega arith
neither n some few (inr h) = omega arith

pub overflow_add-end : goal.overflow_add-end
overflow_add-end c =
    let a = c.args in
    omega (arith, size a.buffer.now a.octets c.requires c.in_ok-admit_length.ensures.1, stuffed_length_most (take a.octets a.buffer.now))

pub move_words-requires : goal.move_words-requires
move_words-requires c =
    let a = c.args in
    let few = c.in_ok-admit_length.ensures.1 in
    record {
      within = omega (arith, c.requires, few);
      room = omega (arith, c.requires, size a.buffer.now a.octets c.requires few, stuffed_length_most (take a.octets a.buffer.now));
      ends = omega arith;
    }

pub close-requires : goal.close-requires
close-requires c =
    let a = c.args in
    end_room (take a.octets a.buffer.now) a.buffer.now (room a.buffer.now a.octets c.requires c.in_ok-admit_length.ensures.1)
    c.frame_check_by_shifts-check.ensures (omega arith) c.move_words.ensures

pub returns : goal.returns
returns c =
    let a = c.args in
    let ok = c.in_ok-admit_length.ensures in
    let f = framed (take a.octets a.buffer.now) a.buffer.now (room a.buffer.now a.octets c.requires ok.1)
    c.frame_check_by_shifts-check.ensures (omega arith) c.move_words.ensures c.close.ensures in
    record { frames = λ some few. (ap Ok f.0, rw f.0 at f.1); leaves = λ none. absurd (neither a.octets ok.0 ok.1 none); size = c.requires }
