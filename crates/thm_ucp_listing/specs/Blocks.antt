-- The lister's input block by block: what `list_block` of line_lister ensures of each, from the record as the last one left it, and then
-- the closing line. As many octets go out as the input's listing has. Assumes nothing.
use Rattle.std.specs.Prelude.{◌≡◌, List, [], ◌∷◌, ℕ, ◌+◌, ◌%◌, ◌^◌, ◌≤◌, length}
use Rattle.ucp_receiver.specs.declared.Counts.{Counts}
use Rattle.ucp_receiver.specs.declared.Record.{Record}
use Rattle.ucp_receiver.specs.Account.{zero_counts}
use Rattle.ucp_receiver.specs.Octet.{state_of, no_octets, fresh_record}
use Rattle.text_ucp_listing.specs.Listing.{longest_closing}
use Rattle.text_ucp_listing.specs.Lists.{behind_all, every_line, PutsClosing}
use Rattle.io_streams.specs.declared.Input.TheVariants.{More}
use Rattle.io_ucp.specs.Records.{Leaves, WritesLines}
use Rattle.thm_ucp_receiver.specs.Slice.{gathered}
use Rattle.thm_ucp_listing.specs.Input.{listing}

-- one block behind which the input goes on: the record and the store that it leaves, and how many octets of text went out
pub record BlockCall : Type 0 where
  pub block : List ℕ
  pub receiver : Record
  pub store_after : List ℕ
  pub written : ℕ

abbrev pub BlockRuns : Record → List ℕ → List BlockCall → Type 0
BlockRuns receiver store [] = Unit
BlockRuns receiver store (b ∷ bs) =
    Leaves More (state_of b.receiver.rest b.store_after) b.receiver.counts (behind_all (state_of receiver.rest store) receiver.counts b.block) b.block
    × WritesLines More b.written (every_line (state_of receiver.rest store) receiver.counts b.block)
    × BlockRuns b.receiver b.store_after bs

abbrev pub block_counts : Counts → List BlockCall → Counts
block_counts counts [] = counts
block_counts counts (b ∷ bs) = block_counts b.receiver.counts bs

abbrev pub written_all : List BlockCall → ℕ
written_all [] = 0
written_all (b ∷ bs) = b.written + written_all bs

-- modulo 2^64, as the counts of what went out are
abbrev pub BlocksAreListing : Type 0
BlocksAreListing =
    (blocks : List BlockCall) → BlockRuns fresh_record no_octets blocks
    → (text : List ℕ) (next : ℕ) (after : List ℕ) → longest_closing ≤ length text
    → PutsClosing text 0 (block_counts zero_counts blocks) next after
    → (written_all blocks + next) % 2 ^ 64 ≡ length (listing (gathered (λ (b : BlockCall). b.block) blocks)) % 2 ^ 64
