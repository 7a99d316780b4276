-- `field_texts::each::is_spaced_at` meets its contract, octet by octet. Assumes nothing.
use mathlib.Core.Path.{◌≡◌, refl, ◌∙◌}
use mathlib.Core.Bool.{Bool, true, false, ◌&&◌}
use Rattle.field_texts.specs.Text.{is_spaced}
use Rattle.field_texts.proofs.each.is_spaced_at.Goals as goal

-- nothing behind the last
ends : (b : Bool) → b ≡ (b && true)
ends true = refl
ends false = refl

pub returns : goal.returns
unfolding is_spaced
returns c =
    let last = c.is_spaced_octet-2.ensures ∙ ends _ in
    (λ i. c.is_spaced_octet-7.ensures i
    && (c.is_spaced_octet-8.ensures i
    && (c.is_spaced_octet-5.ensures i
    && (c.is_spaced_octet-6.ensures i
    && (c.is_spaced_octet-3.ensures i
    && (c.is_spaced_octet-4.ensures i
    && (c.is_spaced_octet.ensures i && last i)))))))
