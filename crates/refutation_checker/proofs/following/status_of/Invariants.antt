use Rattle.std.proofs.Common.{take}
use Rattle.refutation_checker.proofs.StatusLemmas.{Found}
use Rattle.refutation_checker.proofs.following.status_of.Given as goal

abbrev pub invariant-loop-l : goal.invariant-loop-l
invariant-loop-l l = Found l.trail (take l.l-index l.clause) l.found
