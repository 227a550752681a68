use Rattle.std.proofs.Common.{[], ◌∷◌, ◌++◌, ◌∙◌, ap}
use Rattle.std.proofs.lemmas.List.{replicate_more}
use Rattle.kernel_shapes.specs.declared.bounds.Shape.TheVariants as shape
use Rattle.path_cell_tests.proofs.paths.empties.Goals as goal

pub loop-i-preserved : goal.loop-i-preserved
loop-i-preserved c =
    c.in_ok-push.ensures.items ∙ ap (λ l. l ++ shape.Empty ∷ []) c.loop-i.invariant ∙ replicate_more c.loop-i._i
    shape.Empty
