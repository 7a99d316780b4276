-- As many octets go out for blocks as the listing of their octets has. Assumes nothing.
use mathlib.Core.Path.{◌≡◌, refl, sym, ap, ap₂, subst, ◌∙◌}
use mathlib.Core.List.{List, [], ◌∷◌, map, append-nil}
use Prim.Native.Nat.{ℕ, ◌+◌, ◌%◌, ◌^◌}
use native.Mathlib.Nat.{add-mod, mod-mod, zero-add}
use native.Mathlib.Omega.{arith}
use borrow.Author.Tests.{le-leb}
use lib.ListN.{length, length-append}
use Rattle.ucp_history.specs.History.{Call, account}
use Rattle.ucp_receiver.specs.declared.Counts.{Counts}
use Rattle.ucp_receiver.specs.declared.Record.{Record}
use Rattle.ucp_receiver.specs.Octet.{State, state_of, no_octets, fresh_record}
use Rattle.text_ucp_listing.specs.Listing.{closing_line, longest_closing}
use Rattle.text_ucp_listing.specs.Lists.{behind_all}
use Rattle.thm_ucp_receiver.specs.Slice.{gathered}
use Rattle.thm_ucp_receiver.specs.Promises.{account_counts}
use Rattle.thm_ucp_listing.specs.Input.{listed_call, answer_lines}
use Rattle.thm_ucp_listing.specs.Blocks.{BlockCall, BlockRuns, block_counts, written_all, BlocksAreListing}
use Rattle.thm_ucp_listing.proofs.Input.{listed_after, Keeps, KeepsBehind, keeps_fresh, keeps_behind, lines_by_history}
use Rattle.thm_ucp_listing.proofs.Calls.{answer_lines_append, listed_both}

abbrev octets_in : List BlockCall → List ℕ
octets_in = gathered (λ (b : BlockCall). b.block)

-- numbers that are the same modulo m add up to the same
sum_mod : (a b c d m : ℕ) → a % m ≡ c % m → b % m ≡ d % m → (a + b) % m ≡ (c + d) % m
sum_mod a b c d m e k = add-mod a b m ∙ ap₂ (λ (x y : ℕ). (x + y) % m) e k ∙ sym (add-mod c d m)

record AllBlocks (h : List Call) (counts : Counts) (bs : List BlockCall) : Type 0 where
  number : written_all bs % 2 ^ 64 ≡ length (answer_lines h (octets_in bs)) % 2 ^ 64
  tally : block_counts counts bs ≡ account_counts (account (listed_after h (octets_in bs)))

all_blocks : (h : List Call) (receiver : Record) (store : List ℕ) (bs : List BlockCall) → BlockRuns receiver store bs
    → Keeps h (state_of receiver.rest store) receiver.counts → AllBlocks h receiver.counts bs
unfolding answer_lines
all_blocks h receiver store [] r k = record { number = refl; tally = rw append-nil k.tally }
all_blocks h receiver store (b ∷ bs) r k =
    let s : State = state_of receiver.rest store in
    let left : behind_all s receiver.counts b.block ≡ record { state = state_of b.receiver.rest b.store_after; counts = b.receiver.counts } =
    λ i. record { state = sym r.0.0 i; counts = sym r.0.1 i } in
    let on = subst (KeepsBehind (listed_after h b.block)) left (keeps_behind h s receiver.counts b.block k) in
    let rest = all_blocks (listed_after h b.block) b.receiver b.store_after bs r.2 on in
    let own = r.1 ∙ ap (λ (l : List ℕ). length l % 2 ^ 64) (lines_by_history h s receiver.counts b.block k) in
    record {
      number =
          sum_mod b.written (written_all bs) (length (answer_lines h b.block)) (length (answer_lines (listed_after h b.block) (octets_in bs))) (2 ^ 64)
          (ap (λ (n : ℕ). n % 2 ^ 64) own ∙ mod-mod (length (answer_lines h b.block)) (2 ^ 64)) rest.number
          ∙ ap (λ (n : ℕ). n % 2 ^ 64)
          (sym (ap length (answer_lines_append h b.block (octets_in bs)) ∙ length-append (answer_lines h b.block) _));
      tally = rest.tally ∙ ap (λ (l : List Call). account_counts (account l)) (listed_both h b.block (octets_in bs));
    }

pub blocks_are_listing : BlocksAreListing
blocks_are_listing bs r text next after room p =
    let all = all_blocks [] fresh_record no_octets bs r keeps_fresh in
    let put = rw (le-leb (0 + longest_closing) (length text) (omega arith)) at p in
    let long : next ≡ length (closing_line (account_counts (account (map listed_call (octets_in bs))))) =
    put.puts.ends ∙ zero-add _ ∙ ap (λ (c : Counts). length (closing_line c)) all.tally in
    sum_mod (written_all bs) next (length (answer_lines [] (octets_in bs))) _ (2 ^ 64) all.number (ap (λ (n : ℕ). n % 2 ^ 64) long)
    ∙ ap (λ (n : ℕ). n % 2 ^ 64) (sym (length-append (answer_lines [] (octets_in bs)) _))
