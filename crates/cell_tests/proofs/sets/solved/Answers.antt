use Rattle.cell_tests.specs.Kinds.{sort_of}
use Rattle.cell_tests.proofs.sets.solved.Goals as goal

pub deep_answer-requires-clause-types : goal.deep_answer-requires-clause-types
deep_answer-requires-clause-types c = record { sort = sort_of c.args.kind; left = c.requires.left; right = c.requires.right }

pub answer-requires-clause-types : goal.answer-requires-clause-types
answer-requires-clause-types c = record { sort = sort_of c.args.kind; left = c.requires.left; right = c.requires.right }
