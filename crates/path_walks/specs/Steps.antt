-- A path with its assignments, step by step, for given picks. Source: Konnov, Kukovec and Tran, "TLA+ Model Checking
-- Made Symbolic", OOPSLA 2019, on symbolic transitions and assignments.
use Rattle.std.specs.Prelude.{◌≡◌, Bool, IsTrue, List, [], ◌∷◌, ℕ, flat_map}
use Rattle.tla_meaning.specs.declared.job.State.{State}
use Rattle.tla_meaning.specs.declared.outcome.Fault.{Fault}
use Rattle.tla_meaning.specs.declared.outcome.Fault.TheVariants.{NoFault}
use Rattle.tla_meaning.specs.Forms.{form_fault}
use Rattle.tla_meaning.specs.Numbers.{Width}
use Rattle.tla_meaning.specs.Outcomes.{fault_of, joined, values}
use Rattle.tla_meaning.specs.Scopes.{Scope}
use Rattle.tla_meaning.specs.Shapes.{all_set_items}
use Rattle.kernel_trees.specs.declared.path.AssignedStep.{AssignedStep}
use Rattle.kernel_trees.specs.declared.path.AssignedStep.TheVariants as mark
use Rattle.kernel_trees.specs.Assignments.{IsSetForm, IsTruth, assigned_by, is_in, is_there}
use Rattle.kernel_trees.specs.Picks.{set_outcomes}
use Rattle.kernel_trees.specs.Trees.{ker_form, ker_val}
pub use Rattle.path_bounds.specs.Steps.{Along, PathWithin, StepWithin, Takes, scope_past}

-- ---- one step

-- the fault of its trees; the sets of a pick are all evaluated
abbrev pub step_fault : Width → State → State → AssignedStep → Scope → Fault
step_fault w s t (mark.Guard k b) sc = fault_of (ker_val w k sc s t)
step_fault w s t (mark.Pick ps) sc = joined (set_outcomes w s t ps sc)
step_fault w s t (mark.Equals i e) sc = fault_of (ker_val w e sc s t)
step_fault w s t (mark.Among i e) sc = form_fault (ker_form w e sc s t)

-- of a path's picks, one list of values for each pick on it, those of the step
abbrev pub own_picks : {X : Type 0} → AssignedStep → List X → List (List X)
own_picks (mark.Guard k b) vs = []
own_picks (mark.Pick ps) vs = vs ∷ []
own_picks (mark.Equals i e) vs = []
own_picks (mark.Among i e) vs = []

-- ---- a path

-- the step's trees give what their types say: a guard a truth value, the sets of a pick sets, and the right side of a
-- membership a set
abbrev pub StepHasKind : Width → State → State → AssignedStep → Scope → Type 0
StepHasKind w s t (mark.Guard k b) sc = IsTruth (ker_val w k sc s t)
StepHasKind w s t (mark.Pick ps) sc =
    joined (set_outcomes w s t ps sc) ≡ NoFault → IsTrue (is_there (all_set_items (values (set_outcomes w s t ps sc))))
StepHasKind w s t (mark.Equals i e) sc = Unit {0}
StepHasKind w s t (mark.Among i e) sc = IsSetForm (ker_form w e sc s t)

abbrev pub PathHasKinds : Width → State → State → List AssignedStep → Scope → Type 0
PathHasKinds w s t zs sc = Along (StepHasKind w s t) w s t zs sc

-- whether a step of the path assigns the name
abbrev pub assigns : List AssignedStep → ℕ → Bool
assigns zs i = is_in (flat_map assigned_by zs) i

-- of something for each pick of a path, what belongs to the picks of its first steps
abbrev pub front_picks : {X : Type 0} → List AssignedStep → List X → List X
front_picks [] xs = []
front_picks (mark.Guard k b ∷ zs) xs = front_picks zs xs
front_picks (mark.Pick ps ∷ zs) [] = []
front_picks (mark.Pick ps ∷ zs) (x ∷ xs) = x ∷ front_picks zs xs
front_picks (mark.Equals i e ∷ zs) xs = front_picks zs xs
front_picks (mark.Among i e ∷ zs) xs = front_picks zs xs
