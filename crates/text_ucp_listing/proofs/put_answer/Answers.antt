-- `text_ucp_listing::put_answer` meets its contract: by the answer, the line that is put. Assumes nothing.
use Rattle.std.proofs.Common.{◌≡◌, ℕ, ◌+◌, ◌≤◌, length, take, ap, ◌∙◌, arith, length-take, Some, Result, Ok, Err}
use Rattle.refusals.specs.declared.Refusal.{Refusal}
use Rattle.text_ucp_listing.specs.Listing.{ok_line, no_line, body_room}
use Rattle.text_ucp_listing.proofs.Longest.{ok_most, no_most}
use Rattle.text_ucp_listing.proofs.put_answer.Goals as goal

pub put_ok-requires : goal.put_ok-requires
put_ok-requires c =
    let n = c.in-Some-Ok.n in
    let is : c.args.answer ≡ Some (Ok n) = c.in-Some-Ok.is ∙ ap (λ (r : Result ℕ Refusal). Some r) (rw c.in-Some-Ok.is at c.in-Some-Ok.field-0-is) in
    let h : n ≤ body_room = rw is at c.requires.2 in
    omega (arith, ok_most (take n c.args.room.now) (simp length-take (omega (arith, c.requires.1))), c.requires.0)

pub put_no-requires : goal.put_no-requires
put_no-requires c = omega (arith, no_most c.number.result (omega arith), c.requires.0)

pub returns-in-Some-Ok : goal.returns-in-Some-Ok
returns-in-Some-Ok c =
    let put = c.put_ok.ensures in
    let n = c.in-Some-Ok.n in
    let is : c.args.answer ≡ Some (Ok n) = c.in-Some-Ok.is ∙ ap (λ (r : Result ℕ Refusal). Some r) (rw c.in-Some-Ok.is at c.in-Some-Ok.field-0-is) in
    let h : n ≤ body_room = rw is at c.requires.2 in
    let room : c.args.at + length (ok_line (take n c.args.room.now)) ≤ length c.args.text.now =
    omega (arith, ok_most (take n c.args.room.now) (simp length-take (omega (arith, c.requires.1))), c.requires.0) in
    rw is (record { puts = put; within = omega (arith, put.ends, room) })

pub returns-in-Some-Err : goal.returns-in-Some-Err
returns-in-Some-Err c =
    let put = c.put_no.ensures in
    let room : c.args.at + length (no_line c.number.result) ≤ length c.args.text.now =
    omega (arith, no_most c.number.result (omega arith), c.requires.0) in
    let is : c.args.answer ≡ Some (Err c.in-Some-Err.why) = c.in-Some-Err.is ∙ ap (λ (r : Result ℕ Refusal). Some r) (rw c.in-Some-Err.is at c.in-Some-Err.field-0-is) in
    rw (is, ← c.number.ensures) (record { puts = put; within = omega (arith, put.ends, room) })
