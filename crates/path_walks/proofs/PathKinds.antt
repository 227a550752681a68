-- What the kinds of a path's steps say in the words of the law of paths.
use Rattle.std.proofs.Common.{List, [], ◌∷◌}
use Rattle.tla_meaning.specs.declared.job.State.{State}
use Rattle.tla_meaning.specs.Numbers.{Width}
use Rattle.tla_meaning.specs.Scopes.{Scope}
use Rattle.kernel_trees.specs.declared.path.AssignedStep.{AssignedStep}
use Rattle.kernel_trees.specs.declared.path.AssignedStep.TheVariants as mark
use Rattle.kernel_trees.specs.Assignments.{HasSets}
use Rattle.kernel_trees.specs.Picks.{picking}
use Rattle.path_walks.specs.Steps.{PathHasKinds}

-- the right sides of memberships are sets as far as the path leads
pub has_sets : (w : Width) (s t : State) (zs : List AssignedStep) (sc : Scope) → PathHasKinds w s t zs sc → HasSets w s t zs sc
has_sets w s t [] sc h = tt
has_sets w s t (mark.Guard k b ∷ zs) sc h = λ e. has_sets w s t zs sc (h.1 [] e)
has_sets w s t (mark.Pick ps ∷ zs) sc h = λ vs p. has_sets w s t zs (picking ps vs sc) (h.1 vs p)
has_sets w s t (mark.Equals i e ∷ zs) sc h = λ x. has_sets w s t zs sc (h.1 [] x)
has_sets w s t (mark.Among i e ∷ zs) sc h = (h.0, λ m. has_sets w s t zs sc (h.1 [] m))
