use Rattle.std.proofs.Common.{[], ◌∷◌, ◌++◌, ◌∙◌, ap, None}
use Rattle.std.proofs.lemmas.List.{replicate_more}
use Rattle.path_cell_tests.proofs.paths.blanks.Goals as goal

pub loop-i-preserved : goal.loop-i-preserved
loop-i-preserved c =
    c.in_ok-push.ensures.items ∙ ap (λ l. l ++ None ∷ []) c.loop-i.invariant ∙ replicate_more c.loop-i._i None
