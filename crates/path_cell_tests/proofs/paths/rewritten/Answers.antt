use Rattle.std.proofs.Common.{All, subst}
use Rattle.path_cell_tests.specs.Tested.{IsTextlessStep}
use Rattle.path_cell_tests.proofs.ReadyPaths.{can-rewrite}
use Rattle.path_cell_tests.proofs.paths.rewritten.Goals as goal

pub rewrite_path-requires : goal.rewrite_path-requires
rewrite_path-requires c =
    can-rewrite c.args.b.now c.args.env.now c.args.path.now.steps c.requires.ready c.requires.text
    (subst (All IsTextlessStep) c.as_slice.ensures (c.are_textless.ensures c.if-not-are_textless.false))
