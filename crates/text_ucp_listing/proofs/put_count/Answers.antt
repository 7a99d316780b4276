-- `text_ucp_listing::put_count` meets its contract: what is left to put after each of its steps. Assumes nothing.
use Rattle.output_writing.proofs.ToPut.{first_room, first_put, last_room}
use Rattle.text_ucp_listing.specs.Listing.{decimal}
use Rattle.text_ucp_listing.proofs.Whole.{counted_left, put_all}
use Rattle.text_ucp_listing.proofs.put_count.Goals as goal

pub put_word-at-requires : goal.put_word-at-requires
put_word-at-requires c =
    first_room c.args.word.now (decimal c.args.n) (counted_left c.args.text.now c.args.at c.args.word.now c.args.n c.requires)

pub put_decimal-requires : goal.put_decimal-requires
put_decimal-requires c =
    last_room (first_put c.args.word.now (decimal c.args.n) (counted_left c.args.text.now c.args.at c.args.word.now c.args.n c.requires) c.put_word-at.ensures)

pub returns : goal.returns
returns c =
    put_all
    (first_put c.args.word.now (decimal c.args.n) (counted_left c.args.text.now c.args.at c.args.word.now c.args.n c.requires) c.put_word-at.ensures)
    c.put_decimal.ensures
