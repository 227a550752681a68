-- The paths of an action one by one: the transition along the paths so far and along one more is that along all of them.
use Rattle.std.proofs.Common.{◌≡◌, ◌⊎◌, inl, inr, Bool, true, List, [], ◌∷◌, ◌++◌}
use Rattle.tla_values.specs.declared.value.Value.{Value}
use Rattle.tla_meaning.specs.declared.job.Job.{Job}
use Rattle.tla_meaning.specs.declared.job.State.{State}
use Rattle.tla_meaning.specs.Numbers.{Width}
use Rattle.kernel_trees.specs.Assignments.{AssignedPath}
use Rattle.kernel_trees.specs.Picks.{IsOneOf}
use Rattle.level_laws.specs.Constraints.{Assignment, Constraint, Grown, IsFreeBit, Reads}
use Rattle.level_laws.specs.Branches.{Branch, BranchReading, Ending, IsMerged, Transition, either, never}
use Rattle.level_laws.proofs.Branches.{branch_more, branch_never, branch_same}
use Rattle.step_laws.specs.Laws.{IsNext}
use Rattle.step_laws.specs.PathEnds.{SomeEnds}
use Rattle.step_laws.specs.Transitions.{ConstantsGo, HasConstants, InitGoes, StepGoes}

one_last : {X : Type 0} (x : X) (xs : List X) (y : X) → IsOneOf x (xs ++ y ∷ []) → IsOneOf x xs ⊎ (x ≡ y)
one_last x [] y (inl e) = inr e
one_last x [] y (inr e) = absurd e
one_last x (z ∷ zs) y (inl e) = inl (inl e)
one_last {X = X} x (z ∷ zs) y (inr h) = by (one_last x zs y h)
  where
    by : IsOneOf x zs ⊎ (x ≡ y) → IsOneOf x (z ∷ zs) ⊎ (x ≡ y)
    by (inl r) = inl (inr r)
    by (inr e) = inr e

one_before : {X : Type 0} (x : X) (xs : List X) (y : X) → IsOneOf x xs → IsOneOf x (xs ++ y ∷ [])
one_before x [] y h = absurd h
one_before x (z ∷ zs) y (inl e) = inl e
one_before x (z ∷ zs) y (inr h) = inr (one_before x zs y h)

one_here : {X : Type 0} (x : X) (xs : List X) (y : X) → x ≡ y → IsOneOf x (xs ++ y ∷ [])
one_here x [] y e = inl e
one_here x (z ∷ zs) y e = inr (one_here x zs y e)

-- one path more
pub ends_more : (w : Width) (xs : List AssignedPath) (y : AssignedPath) (k : Ending) (s t : State) → SomeEnds w (xs ++ y ∷ []) k s t → SomeEnds w xs k s t ⊎ SomeEnds w (y ∷ []) k s t
ends_more w xs y k s t m = by (one_last m.0 xs y m.1.0)
  where
    by : IsOneOf m.0 xs ⊎ (m.0 ≡ y) → SomeEnds w xs k s t ⊎ SomeEnds w (y ∷ []) k s t
    by (inl o) = inl (m.0, (o, m.1.1))
    by (inr e) = inr (m.0, (inl e, m.1.1))

pub ends_before : (w : Width) (xs : List AssignedPath) (y : AssignedPath) (k : Ending) (s t : State) → SomeEnds w xs k s t → SomeEnds w (xs ++ y ∷ []) k s t
ends_before w xs y k s t m = (m.0, (one_before m.0 xs y m.1.0, m.1.1))

pub ends_here : (w : Width) (xs : List AssignedPath) (y : AssignedPath) (k : Ending) (s t : State) → SomeEnds w (y ∷ []) k s t → SomeEnds w (xs ++ y ∷ []) k s t
ends_here w xs y k s t m = by m.1.0
  where
    by : IsOneOf m.0 (y ∷ []) → SomeEnds w (xs ++ y ∷ []) k s t
    by (inl e) = (m.0, (one_here m.0 xs y e, m.1.1))
    by (inr o) = absurd o

-- ---- transitions that are made of those along single paths

pub record IsByPaths {E S : Type 0} (F : List AssignedPath → Transition E S) : Type 0 where
  pub none : (k : Ending) (e : E) (t : S) → F [] k e t → ⊥
  pub split : (xs : List AssignedPath) (x : AssignedPath) (k : Ending) (e : E) (t : S) → F (xs ++ x ∷ []) k e t → F xs k e t ⊎ F (x ∷ []) k e t
  pub before : (xs : List AssignedPath) (x : AssignedPath) (k : Ending) (e : E) (t : S) → F xs k e t → F (xs ++ x ∷ []) k e t
  pub here : (xs : List AssignedPath) (x : AssignedPath) (k : Ending) (e : E) (t : S) → F (x ∷ []) k e t → F (xs ++ x ∷ []) k e t

pub step_by_paths : (w : Width) (job : Job) → IsByPaths (StepGoes w job)
step_by_paths w job = record {
  none = λ k s t m. m.1.1.0;
  split = λ xs x k s t m. by xs x k s t m.0 (ends_more w xs x k s t m.1);
  before = λ xs x k s t m. (m.0, ends_before w xs x k s t m.1);
  here = λ xs x k s t m. (m.0, ends_here w xs x k s t m.1);
}
  where
    by : (xs : List AssignedPath) (x : AssignedPath) (k : Ending) (s t : State) → IsNext job s t → SomeEnds w xs k s t ⊎ SomeEnds w (x ∷ []) k s t →
        StepGoes w job xs k s t ⊎ StepGoes w job (x ∷ []) k s t
    by xs x k s t n (inl m) = inl (n, m)
    by xs x k s t n (inr m) = inr (n, m)

pub init_by_paths : (w : Width) (job : Job) → IsByPaths (InitGoes w job)
init_by_paths w job = record {
  none = λ k cs t m. m.1.1.0;
  split = λ xs x k cs t m. by xs x k cs t m.0 (ends_more w xs x k t t m.1);
  before = λ xs x k cs t m. (m.0, ends_before w xs x k t t m.1);
  here = λ xs x k cs t m. (m.0, ends_here w xs x k t t m.1);
}
  where
    by : (xs : List AssignedPath) (x : AssignedPath) (k : Ending) (cs : List Value) (t : State) → HasConstants job cs t → SomeEnds w xs k t t ⊎ SomeEnds w (x ∷ []) k t t →
        InitGoes w job xs k cs t ⊎ InitGoes w job (x ∷ []) k cs t
    by xs x k cs t n (inl m) = inl (n, m)
    by xs x k cs t n (inr m) = inr (n, m)

pub constants_by_paths : (w : Width) (job : Job) → IsByPaths (ConstantsGo w job)
constants_by_paths w job = record {
  none = λ k e cs m. m.1.1.1.0;
  split = λ xs x k e cs m. by xs x k e cs m.0 m.1.0 (ends_more w xs x k m.0 m.0 m.1.1);
  before = λ xs x k e cs m. (m.0, (m.1.0, ends_before w xs x k m.0 m.0 m.1.1));
  here = λ xs x k e cs m. (m.0, (m.1.0, ends_here w xs x k m.0 m.0 m.1.1));
}
  where
    by : (xs : List AssignedPath) (x : AssignedPath) (k : Ending) (e : Unit {0}) (cs : List Value) (t : State) → HasConstants job cs t → SomeEnds w xs k t t ⊎ SomeEnds w (x ∷ []) k t t →
        ConstantsGo w job xs k e cs ⊎ ConstantsGo w job (x ∷ []) k e cs
    by xs x k e cs t n (inl m) = inl (t, (n, m))
    by xs x k e cs t n (inr m) = inr (t, (n, m))

-- ---- the loop over the paths

module _ {E S : Type 0} (F : List AssignedPath → Transition E S) (by : IsByPaths F) where
  -- no path yet: literals that are nowhere true, and any next state
  pub paths_none : (f : Constraint) (now : Assignment → E) (x : BranchReading S) →
      ((k : Ending) → Reads f.vars (x.ends k)) → Reads f.vars x.next → ((k : Ending) (a : Assignment) → f.Sat a → x.ends k a ≡ true → ⊥) → Branch f f now (F []) x
  paths_none f now x l n false_all =
      branch_same f f now (never E S) (F []) x (λ k e t m. absurd m) (λ k e t m. by.none k e t m) (branch_never f now x l n false_all)

  -- one path more: a free bit chooses
  pub paths_more : (xs : List AssignedPath) (p : AssignedPath) (f g h i j : Constraint) (now : Assignment → E) (x y r : BranchReading S) (free : Assignment → Bool) →
      Reads f.vars now → Branch f g now (F xs) x → Branch g h now (F (p ∷ [])) y → IsFreeBit h i free → Grown i j → IsMerged j free x y r →
      Branch f j now (F (xs ++ p ∷ [])) r
  paths_more xs p f g h i j now x y r free reads b c fr gr merged =
      branch_same f j now (either (F xs) (F (p ∷ []))) (F (xs ++ p ∷ [])) r to (λ k e t m. by.split xs p k e t m)
      (branch_more f g h i j now (F xs) (F (p ∷ [])) x y r free reads b c fr gr merged)
    where
      to : (k : Ending) (e : E) (t : S) → either (F xs) (F (p ∷ [])) k e t → F (xs ++ p ∷ []) k e t
      to k e t (inl m) = by.before xs p k e t m
      to k e t (inr m) = by.here xs p k e t m
