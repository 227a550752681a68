use Rattle.flat_modules.proofs.Scopes.{IsTold}
use Rattle.flat_modules.proofs.scope.repeated.Given as goal

abbrev pub invariant-loop-place : goal.invariant-loop-place
invariant-loop-place l = IsTold l.new l.entries l.place l.told.items

abbrev pub decreases-loop-place : goal.decreases-loop-place
decreases-loop-place l = l.place
