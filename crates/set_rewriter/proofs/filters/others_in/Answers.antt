use Rattle.set_rewriter.proofs.Marking.{tests-negated}
use Rattle.set_rewriter.proofs.filters.others_in.Goals as goal

pub returns-clause-tests : goal.returns-clause-tests
returns-clause-tests c = rw (c.in_ok-others.ensures, c.as_slice.ensures.value) (tests-negated _ _ _ _ _ _ c.in_ok-found.ensures.tests)
