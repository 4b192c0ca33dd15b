-- `words::in_order` meets its contract. Assumes nothing.
use mathlib.Core.Path.{◌∙◌, ap₂}
use mathlib.Core.Bool.{Bool, ◌&&◌}
use Rattle.words.proofs.Order.{order_words}
use Rattle.words.proofs.in_order.Goals as goal

pub returns : goal.returns
returns c =
    ap₂ (λ (a b : Bool). a && b) c.is_within.ensures c.has_no_spare.ensures
    ∙ order_words _ _ c.args.total c.requires.0 c.requires.1 (λ w. (c.type_inv.present w).fits) (λ w. (c.type_inv.refined w).fits)
