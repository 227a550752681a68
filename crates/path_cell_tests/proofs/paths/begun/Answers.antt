use Rattle.std.proofs.Common.{◌∙◌, ap}
use Rattle.path_cell_tests.proofs.ReadyPaths.{empty-among, one-text}
use Rattle.path_cell_tests.proofs.paths.begun.Goals as goal

pub returns : goal.returns
returns c =
    empty-among _ (ap (λ a. a.texts) c.in_ok-b.ensures.arena
    ∙ one-text _ _ _ _ c.in_ok-push.ensures.added c.new-texts.ensures c.from_vec.ensures c.new.ensures.items)
