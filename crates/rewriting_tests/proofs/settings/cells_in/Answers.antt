use Rattle.std.proofs.Common.{[], ◌∷◌, subst}
use Rattle.expr_rewriter.specs.Rewriting.{texts_in}
use Rattle.rewriting_tests.specs.Cases.{HasCells}
use Rattle.rewriting_tests.proofs.Operands.{can-rewrite, have-kinds, texts-among-later}
use Rattle.rewriting_tests.proofs.settings.cells_in.Goals as goal

pub environment-requires : goal.environment-requires
environment-requires c = have-kinds _ _ _ c.requires.sound c.as_slice.ensures

pub measured-requires : goal.measured-requires
measured-requires c =
    can-rewrite _ c.args.kernel.now _ _ c.requires.sound
    (subst (λ ts. HasCells c.environment.new.b.arena.kinds ts c.in_ok-env.env) c.as_slice.ensures c.in_ok-env.ensures.cells)
    (texts-among-later _ _ ([] ∷ texts_in c.args.k.now) c.requires.texts c.in_ok-env.ensures.grows)
