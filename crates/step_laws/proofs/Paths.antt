-- The effect of an action by the ends of its paths, where the trees of the paths have the kinds of their types.
use Rattle.std.proofs.Common.{◌↔◌, ℕ, IsTrue, List, [], ◌∷◌, map}
use Rattle.tla_values.specs.declared.value.Value.{Value}
use Rattle.tla_meaning.specs.declared.actions.Assignable.{Assignable}
use Rattle.tla_meaning.specs.declared.actions.Effect.{Effect}
use Rattle.tla_meaning.specs.declared.job.State.{State}
use Rattle.tla_meaning.specs.declared.outcome.Fault.{Fault}
use Rattle.tla_meaning.specs.declared.outcome.Fault.TheVariants.{NoFault, IsWrong, IsBig}
use Rattle.tla_meaning.specs.Executions.{no_scope}
use Rattle.tla_meaning.specs.Numbers.{Width}
use Rattle.kernel_trees.specs.declared.kernel.Ker.{Ker}
use Rattle.kernel_trees.specs.declared.path.KerPath.{KerPath}
use Rattle.kernel_trees.specs.Assignments.{AllHaveKinds, AllHaveSets, AssignedMeets, AssignedPath, IsByAssigned, ReadsNext, assigned_of}
use Rattle.kernel_trees.specs.Laws.{assigned_paths, job_paths}
use Rattle.kernel_trees.specs.Paths.{Marks, marks_below, names_below}
use Rattle.kernel_trees.specs.Picks.{IsOneOf}
use Rattle.kernel_trees.specs.Scoped.{Names, scoped}
use Rattle.kernel_trees.specs.Trees.{ker_effect}
use Rattle.kernel_trees.proofs.Assigning.{Kinds, kinds_sets, marked_kinds}
use Rattle.kernel_trees.proofs.Law.{for_assign}
use Rattle.kernel_trees.proofs.Verdicts.{IsSomeBig, IsSomeWrong, Some_met, big_exactly, wrong_exactly}
use Rattle.level_laws.specs.Branches.{MetWrong, MetBig}
use Rattle.step_laws.specs.Outcomes.{EffectBy, IsBigFault, IsWrongFault}
use Rattle.step_laws.specs.PathEnds.{SomeEnds}

-- ---- the law of paths, as ends

wrong_fault : (f : Fault) → IsSomeWrong f ↔ IsWrongFault f
wrong_fault NoFault = (λ h. h, λ h. h)
wrong_fault (IsWrong p) = (λ h. h, λ h. h)
wrong_fault (IsBig p) = (λ h. h, λ h. h)

big_fault : (f : Fault) → IsSomeBig f ↔ IsBigFault f
big_fault NoFault = (λ h. h, λ h. h)
big_fault (IsWrong p) = (λ h. h, λ h. h)
big_fault (IsBig p) = (λ h. h, λ h. h)

module _ (w : Width) (s t : State) (xs : List AssignedPath) where
  abbrev Met : Fault → Type 0
  Met f = (x : AssignedPath) × IsOneOf x xs × ((vss : List (List Value)) × AssignedMeets w s t x vss no_scope f)

  some_wrong : Some_met Met IsSomeWrong ↔ SomeEnds w xs MetWrong s t
  some_wrong = (λ m. at m.0 m.1.0 m.1.1, λ m. (IsWrong m.1.1.0, ((m.0, m.1.0, m.1.1.1), tt)))
    where
      at : (f : Fault) → Met f → IsSomeWrong f → SomeEnds w xs MetWrong s t
      at NoFault m n = absurd n
      at (IsWrong p) m n = (m.0, (m.1, (p, m.2)))
      at (IsBig p) m n = absurd n

  some_big : Some_met Met IsSomeBig ↔ SomeEnds w xs MetBig s t
  some_big = (λ m. at m.0 m.1.0 m.1.1, λ m. (IsBig m.1.1.0, ((m.0, m.1.0, m.1.1.1), tt)))
    where
      at : (f : Fault) → Met f → IsSomeBig f → SomeEnds w xs MetBig s t
      at NoFault m n = absurd n
      at (IsWrong p) m n = absurd n
      at (IsBig p) m n = (m.0, (m.1, (p, m.2)))

  pub effect_by_paths : (e : Effect) → IsByAssigned w s t xs no_scope e → EffectBy (λ k. SomeEnds w xs k s t) e
  effect_by_paths e h = record {
    goes = (λ y. let u = h.holds.0 y in (u.0, (u.1, u.2)), λ m. h.holds.1 (m.0, m.1.0, m.1.1));
    is_wrong = (
      λ y. some_wrong.0 ((wrong_exactly e.fault h.fault).0 ((wrong_fault e.fault).1 y)),
      λ m. (wrong_fault e.fault).0 ((wrong_exactly e.fault h.fault).1 (some_wrong.1 m)),
    );
    is_big = (
      λ y.
          let u = (big_exactly e.fault h.fault).0 ((big_fault e.fault).1 y) in
          (some_big.0 u.0, λ m. u.1 (some_wrong.1 m)),
      λ m. (big_fault e.fault).0 ((big_exactly e.fault h.fault).1 (some_big.1 m.0, λ x. m.1 (some_wrong.0 x))),
    );
  }

-- ---- kinds

module _ (w : Width) (m : Marks) (s t : State) (r : ReadsNext m s t) where
  abbrev pub AllKinds : List KerPath → Type 0
  AllKinds [] = Unit {0}
  AllKinds (x ∷ xs) = Kinds w m s t r (assigned_of m x) no_scope × AllKinds xs

  all_kinds : (xs : List KerPath) → AllKinds xs → AllHaveKinds w s t xs no_scope
  all_kinds [] h = tt
  all_kinds (x ∷ xs) h = (marked_kinds w m s t r [] x.steps no_scope h.0, all_kinds xs h.1)

  all_sets : (xs : List KerPath) → AllKinds xs → AllHaveSets w s t (map (assigned_of m) xs) no_scope
  all_sets [] h = tt
  all_sets (x ∷ xs) h = (kinds_sets w m s t r (assigned_of m x) no_scope h.0, all_sets xs h.1)

-- the effect of a tree in an action position, at two states at which its paths have kinds
pub action_by : (w : Width) (m : Assignable) (n : ℕ) (k : Ker) (B : Names) → IsTrue (scoped k B) → IsTrue (names_below n k) →
    (s t : State) → (r : ReadsNext (marks_below n m) s t) → AllKinds w (marks_below n m) s t r (job_paths n m k) →
    EffectBy (λ e. SomeEnds w (assigned_paths n m k) e s t) (ker_effect w m k no_scope s t)
action_by w m n k B h b s t r c =
    effect_by_paths w s t (assigned_paths n m k) (ker_effect w m k no_scope s t)
    (for_assign w m k B h no_scope s t n b r (all_kinds w (marks_below n m) s t r (job_paths n m k) c) (all_sets w (marks_below n m) s t r (job_paths n m k) c))
