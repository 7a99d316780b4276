-- The digits but the last are put by the call of itself, and the last one behind them.
use Rattle.std.proofs.Common.{[], ◌∷◌, ◌/◌, ◌%◌, arith}
use Rattle.output_writing.proofs.ToPut.{first_room, first_put}
use Rattle.text_ucp_listing.specs.Listing.{decimal}
use Rattle.text_ucp_listing.proofs.Decimal.{digit, digit_room, digit_put, digits_left}
use Rattle.text_ucp_listing.proofs.+put_decimal.Goals as goal

pub bounds-text-at : goal.bounds-text-at
bounds-text-at t c = digit_room c.args.text.now c.args.at c.args.n (omega arith) c.requires c.if-n-lt10.true

pub returns-then-n-lt10 : goal.returns-then-n-lt10
returns-then-n-lt10 t c = digit_put c.args.text.now c.args.at c.args.n (omega arith) c.requires c.if-n-lt10.true

pub put_decimal-last-requires : goal.put_decimal-last-requires
put_decimal-last-requires t c = (
  omega (arith, c.decreases),
  first_room (decimal (c.args.n / 10)) _ (digits_left c.args.text.now c.args.at c.args.n (omega arith) c.requires c.if-n-lt10.false),
)

pub bounds-text-last : goal.bounds-text-last
bounds-text-last t c =
    omega (
      arith,
      first_put (decimal (c.args.n / 10)) (digit (c.args.n % 10) ∷ [])
          (digits_left c.args.text.now c.args.at c.args.n (omega arith) c.requires c.if-n-lt10.false)
          c.put_decimal-last.ensures,
    )

pub overflow_add-result-2 : goal.overflow_add-result-2
overflow_add-result-2 t c =
    omega (
      arith,
      first_put (decimal (c.args.n / 10)) (digit (c.args.n % 10) ∷ [])
          (digits_left c.args.text.now c.args.at c.args.n (omega arith) c.requires c.if-n-lt10.false)
          c.put_decimal-last.ensures,
    )

pub returns : goal.returns
returns t c =
    let left =
    first_put (decimal (c.args.n / 10)) (digit (c.args.n % 10) ∷ [])
    (digits_left c.args.text.now c.args.at c.args.n (omega arith) c.requires c.if-n-lt10.false)
    c.put_decimal-last.ensures in
    record { ends = omega (arith, left); leaves = left.gives }
