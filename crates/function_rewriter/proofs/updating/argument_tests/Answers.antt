use Rattle.function_rewriter.proofs.Updates.{tests-are, arrows-to-match}
use Rattle.function_rewriter.proofs.updating.argument_tests.Goals as goal

pub match_arguments-requires-clause-arrows : goal.match_arguments-requires-clause-arrows
match_arguments-requires-clause-arrows c = arrows-to-match c.args.arena.now _ _ _ _ _ c.in-Fun.arrows _ c.requires.over c.requires.types c.kind.ensures.same c.in-Fun.is c.as_slice.ensures c.kind.ensures.held

pub returns-clause-matches : goal.returns-clause-matches
returns-clause-matches c = tests-are c.args.arena.now _ _ _ _ c.in-Fun.arrows _ _ c.kind.ensures.same c.in-Fun.is c.as_slice.ensures c.in_ok-tests.ensures.matches
