-- The law of paths, as it is to be cited: for trees in which no number is bound again.
use Rattle.std.proofs.Common.{◌≡◌, ℕ, IsTrue, List, map, subst}
use Rattle.tla_meaning.specs.declared.actions.Assignable.{Assignable}
use Rattle.tla_meaning.specs.declared.job.State.{State}
use Rattle.tla_meaning.specs.Actions.{counts}
use Rattle.tla_meaning.specs.Numbers.{Width}
use Rattle.tla_meaning.specs.Scopes.{Scope}
use Rattle.kernel_trees.specs.declared.kernel.Ker.{Ker}
use Rattle.kernel_trees.specs.Trees.{ker_effect}
use Rattle.kernel_trees.specs.Ways.{Way}
use Rattle.kernel_trees.specs.Paths.{Marks, Step, marks_below, names_below, ways, paths}
use Rattle.kernel_trees.specs.Picks.{IsByPaths}
use Rattle.kernel_trees.specs.Scoped.{Names, scoped}
use Rattle.kernel_trees.specs.Assignments.{AllHaveKinds, AllHaveSets, ReadsNext, IsByKerPaths, IsByAssigned, assigned_of}
use Rattle.kernel_trees.specs.inner.Runs.{ways_effect}
use Rattle.kernel_trees.proofs.LawOfPaths.{law_of_paths}
use Rattle.kernel_trees.proofs.Picking.{action_by_paths}
use Rattle.kernel_trees.proofs.KerPaths.{by_ker_paths}
use Rattle.kernel_trees.proofs.Verdicts.{by_assigned}
use Rattle.kernel_trees.proofs.Scopes.{scoped_separate}
use Rattle.kernel_trees.proofs.Marking.{ways_below}

module _ (w : Width) (m : Assignable) (k : Ker) (B : Names) (h : IsTrue (scoped k B)) (sc : Scope) (s t : State) where
  -- as an equation, with all places
  pub as_effects : ker_effect w m k sc s t ≡ ways_effect w (ways (counts m) k) sc s t
  as_effects = law_of_paths w m k (scoped_separate (counts m) k B h) sc s t

  -- with values for the picks, at every state and scope
  pub for_picks : IsByPaths w s t (ways (counts m) k) sc (ker_effect w m k sc s t)
  for_picks = action_by_paths w m k (scoped_separate (counts m) k B h) sc s t

  module _ (n : ℕ) (b : IsTrue (names_below n k)) where
    abbrev ms : Marks
    ms = marks_below n m

    -- by the marks of the first names
    pub for_names : IsByPaths w s t (ways ms k) sc (ker_effect w m k sc s t)
    for_names = subst (λ (ys : List (Way Step)). IsByPaths w s t ys sc (ker_effect w m k sc s t)) (ways_below n (counts m) k b) for_picks

    -- for the paths that are handed on
    pub for_split : AllHaveKinds w s t (paths ms k) sc → IsByKerPaths w s t (paths ms k) sc (ker_effect w m k sc s t)
    for_split c = by_ker_paths w ms k sc s t (ker_effect w m k sc s t) for_names c

    -- and for those with their assignments
    pub for_assign : ReadsNext ms s t → AllHaveKinds w s t (paths ms k) sc → AllHaveSets w s t (map (assigned_of ms) (paths ms k)) sc →
        IsByAssigned w s t (map (assigned_of ms) (paths ms k)) sc (ker_effect w m k sc s t)
    for_assign r c d = by_assigned w ms k sc s t (ker_effect w m k sc s t) (for_split c) r d
