use Rattle.std.proofs.Common.{take, map}
use Rattle.refutation_checker.proofs.StatusLemmas.{Found}
use Rattle.watched_search.specs.Codes.{literal}
use Rattle.watched_search.specs.Trail.{lits_of}
use Rattle.cdcl_solver.proofs.CheckingLemmas.{literal_found}
use Rattle.cdcl_solver.proofs.checking.status_of.Given as goal

abbrev pub invariant-loop-code : goal.invariant-loop-code
invariant-loop-code l = Found (lits_of l.trail.entries) (take l.code-index (map (λ n. literal n) l.codes)) (literal_found l.found)
