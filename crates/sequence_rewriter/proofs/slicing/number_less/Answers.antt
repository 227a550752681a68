use Rattle.sequence_rewriter.proofs.Cutting.{number-words, numbers-less}
use Rattle.sequence_rewriter.proofs.slicing.number_less.Goals as goal

pub less-requires-clause-words : goal.less-requires-clause-words
less-requires-clause-words c =
    number-words c.args.arena.now c.args.formula.now c.args.m c.args.n _ _ _ _ c.in-Word.left c.in-Word-kind.right c.requires.over c.kind.ensures.same c.in-Word.is c.kind.ensures.held c.kind-2.ensures.same c.in-Word-kind.is c.kind-2.ensures.held

pub returns-clause-value : goal.returns-clause-value
returns-clause-value c =
    numbers-less c.args.arena.now c.args.formula.now c.args.m c.args.n _ _ c.in-Word.left c.in-Word-kind.right c.requires.over c.requires.left c.requires.right c.kind.ensures.same c.in-Word.is c.kind-2.ensures.same c.in-Word-kind.is _ _ c.in_ok-below.ensures.value
