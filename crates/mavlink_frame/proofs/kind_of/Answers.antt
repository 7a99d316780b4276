-- `mavlink_frame::kind_of` meets its contract: the first row that has the ID is the table's kind. Assumes nothing.
use Rattle.std.proofs.Common.{◌≡◌, Some, Bool, true, false, cond, List, [], ◌∷◌, ℕ, eqb, refl, ap, ◌∙◌, rules, tests}
use Rattle.std.specs.List.{find}
use Rattle.std.proofs.lemmas.Iterator.{YieldsList-from_slice}
use Rattle.std.proofs.lemmas.Iterator.Search.{find_from_yields_List}
use Rattle.mavlink_frame.specs.declared.Kind.{Kind}
use Rattle.mavlink_frame.specs.Frame.{known, kind_answer, kind_among, kinds, mavlink_kind}
use Rattle.mavlink_frame.proofs.kind_of.Goals as goal

-- what is found among rows
among : (ks : List Kind) (id : ℕ) → kind_answer (find (λ k. eqb id k.id) ks) ≡ kind_among ks id
among [] id = refl
among (k ∷ ks) id = by (eqb id k.id) (among ks id)
  where
    by : (t : Bool) → kind_answer (find (λ k. eqb id k.id) ks) ≡ kind_among ks id
        → kind_answer (cond t (Some k) (find (λ k. eqb id k.id) ks)) ≡ cond t (known k) (kind_among ks id)
    by true later = refl
    by false later = later

pub returns : goal.returns
unfolding mavlink_kind
returns c =
    ap kind_answer (c.copied.ensures ∙ find_from_yields_List (λ k. eqb c.args.id k.id) _ _ _ c.find.ensures.ran (YieldsList-from_slice kinds cc) (λ x b q k. search (rules, tests)))
    ∙ among kinds c.args.id
