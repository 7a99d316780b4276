-- `text_fields::label_length` meets its contract: the first code's place, or the template's end. Assumes nothing.
use Rattle.std.proofs.Common.{◌∙◌, ap, rules, tests, length}
use Rattle.std.proofs.lemmas.Iterator.{YieldsList-from_slice}
use Rattle.std.proofs.lemmas.Iterator.Search.{position_from_yields_List}
use Rattle.std.specs.Option.{unwrap_or}
use Rattle.text_fields.specs.Templates.{is_code}
use Rattle.text_fields.proofs.Filled.{code_found, label_most}
use Rattle.text_fields.proofs.label_length.Goals as goal

pub returns : goal.returns
returns c =
    let template = c.args.template.now in
    let found = position_from_yields_List is_code _ _ _ c.position.ensures.ran (YieldsList-from_slice template cc) (λ x b q k. search (rules, tests)) in
    let place = c.unwrap_or.ensures ∙ ap (λ r. unwrap_or r (length template)) found ∙ code_found template in
    (place, rw place (label_most template))
