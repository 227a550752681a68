use mir.Syntax.{w128}
use Rattle.std.proofs.Common.{◌∙◌}
use Rattle.std.proofs.lemmas.Int.{to_z-of_z}
use Rattle.expr_rewriter.proofs.RangeBounds.{bounds_hold}
use Rattle.expr_rewriter.proofs.ranges.bounds_of.Goals as goal

pub returns-in-len4 : goal.returns-in-len4
returns-in-len4 c =
    bounds_hold c.args.args.now c.low-item.result c.high-item.result _ _ _ _ c.in-len4.len_at_least c.in-len4.len_below
    c.low-item.is c.high-item.is
    (λ n e. to_z-of_z w128 c.number_of.result (record { sfits = c.number_of.type_inv }) ∙ c.number_of.ensures n e)
    (λ n e. to_z-of_z w128 c.number_of-in-len4.result
    (record { sfits = c.number_of-in-len4.type_inv }) ∙ c.number_of-in-len4.ensures n e)
