-- `field_texts::is_padded` meets its contract: once the spaces at the end are passed, each octet is a letter or a digit. Assumes nothing.
use Rattle.std.proofs.Common.{◌∙◌, rules, tests}
use Rattle.std.proofs.lemmas.Iterator.Adapters.{YieldsList-from_rev_slice, YieldsList-from_skip_while}
use Rattle.std.proofs.lemmas.Iterator.Search.{all_from_yields_List}
use Rattle.field_texts.specs.Text.{is_letter_or_digit, is_space}
use Rattle.field_texts.proofs.Ends.{padded}
use Rattle.field_texts.proofs.is_padded.Goals as goal

pub returns : goal.returns
returns c =
    all_from_yields_List is_letter_or_digit _ _ _ c.all.ensures.ran
    (YieldsList-from_skip_while _ _ _ is_space _ (λ x b q k. search (rules, tests)) (YieldsList-from_rev_slice c.args.text.now cc) c.skip_while.ensures.closure c.skip_while.ensures.done_skipping)
    (λ x b q k. search (rules, tests))
    ∙ padded c.args.text.now
