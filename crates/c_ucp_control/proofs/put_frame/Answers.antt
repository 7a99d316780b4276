-- `c_ucp_control::put_frame` meets its contract: the flag is put, a pair, a word, and the word of the struct. Assumes nothing.
use mathlib.Core.Path.{◌≡◌, ◌∙◌, ap}
use mathlib.Core.List.{List}
use Prim.Native.Nat.{ℕ}
use native.Mathlib.Omega.{arith}
use lib.ListN.{length, take, drop, length-set, length-take, length-drop}
use Rattle.crc_polynomial.specs.Polynomial.{bits_of_octets, divided}
use Rattle.field_format.specs.Format.{body_of}
use Rattle.ucp_messages.specs.Control45.{control_format}
use Rattle.ucp_writer.specs.Steps.{frame_rest}
use Rattle.ucp_writer.proofs.Rest.{frame_rest_lem}
use Rattle.output_writing.proofs.ToPut.{last_room}
use Rattle.c_lent.specs.Structs.{held}
use Rattle.c_ucp_control.specs.Struct.{control_struct}
use Rattle.c_ucp_control.proofs.Framed.{Left, first_room, second_room, second_put, filled}
use Rattle.c_ucp_control.proofs.put_frame.Lts as lts
use Rattle.c_ucp_control.proofs.put_frame.Tie as tie
use Rattle.c_ucp_control.proofs.put_frame.Reads as reads
use Rattle.c_ucp_control.proofs.put_frame.Goals as goal

abbrev From-After-put_eight : Type 0
From-After-put_eight = lts.After-put_eight tie.the-claims reads.Pre reads.Post

-- the octets behind the first word are left to put
words_left : (c : From-After-put_eight)
    → Left c.args.message.now c.requires.0 (λ i. (c.shared_slice_known-1.given i).fits)
    c.args.buffer.now c.requires.2
    c.put_eight-at.new.output c.put_eight-at.result
    (frame_rest c.next_check_eight-check.result (take 8 (drop 15 c.args.message.now)))
words_left c =
    second_put c.args.message.now c.requires.0 (λ i. (c.shared_slice_known-1.given i).fits) c.args.buffer.now c.requires.2
    c.put_pair-next.ensures c.first_word-word.result c.first_word-word.ensures c.put_eight-at.ensures c.next_check_pair-head.ensures.0
    (c.next_check_eight-check.ensures.0
    ∙ ap (λ (xs : List ℕ). divided c.next_check_pair-head.result (bits_of_octets xs)) c.turned.ensures)

pub bounds-buffer-0 : goal.bounds-buffer-0
bounds-buffer-0 c =
    omega (arith, ap length (frame_rest_lem (body_of control_format (held control_struct c.args.message.now))), c.requires.2)

pub put_pair-next-requires : goal.put_pair-next-requires
put_pair-next-requires c =
    first_room c.args.message.now c.requires.0 (λ i. (c.shared_slice_known-1.given i).fits) c.args.buffer.now c.requires.2

pub put_eight-at-requires : goal.put_eight-at-requires
put_eight-at-requires c =
    second_room c.args.message.now c.requires.0 (λ i. (c.shared_slice_known-1.given i).fits) c.args.buffer.now c.requires.2
    c.put_pair-next.ensures c.first_word-word.result c.first_word-word.ensures

pub fill_words-requires : goal.fill_words-requires
fill_words-requires c =
    let n : length (take 8 (drop 15 c.args.message.now)) ≡ 8 = simp (length-take, length-drop) (omega arith) in
    (omega arith, omega arith, last_room (words_left c.before.before.before.before.before))

pub shape_of-buffer : goal.shape_of-buffer
shape_of-buffer c = c.fill_words.auto.output ∙ c.put_eight-at.auto.output ∙ c.put_pair-next.auto.output ∙ simp length-set

pub returns : goal.returns
returns c =
    filled c.args.message.now c.requires.0 (λ i. (c.shared_slice_known-1.given i).fits) c.args.buffer.now c.requires.2
    (words_left c.before.before.before.before.before.before.before.before) c.fill_words.ensures
