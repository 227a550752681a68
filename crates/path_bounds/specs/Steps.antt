-- A path with its assignments, step by step, for given picks, and what its steps evaluate. Source: Konnov, Kukovec and
-- Tran, "TLA+ Model Checking Made Symbolic", OOPSLA 2019, on symbolic transitions and assignments.
use Rattle.std.specs.Prelude.{◌≡◌, IsTrue, List, [], ◌∷◌}
use Rattle.std.specs.List.{list_all}
use Rattle.tla_values.specs.declared.value.Value.{Value}
use Rattle.tla_meaning.specs.declared.job.State.{State}
use Rattle.tla_meaning.specs.declared.outcome.Outcome.TheVariants.{Val}
use Rattle.tla_meaning.specs.Numbers.{Width}
use Rattle.tla_meaning.specs.Operators.{yes_no}
use Rattle.tla_meaning.specs.Scopes.{Scope}
use Rattle.kernel_trees.specs.declared.path.AssignedStep.{AssignedStep}
use Rattle.kernel_trees.specs.declared.path.AssignedStep.TheVariants as mark
use Rattle.kernel_trees.specs.Assignments.{Has, HasMember, read_by}
use Rattle.kernel_trees.specs.Picks.{Picked, picking, set_outcomes}
use Rattle.kernel_trees.specs.Trees.{ker_form, ker_val}
use Rattle.kernel_ranges.specs.Ranges.{is_within}

-- the step holds; a pick does for these values
abbrev pub Takes : Width → State → State → AssignedStep → List Value → Scope → Type 0
Takes w s t (mark.Guard k b) vs sc = ker_val w k sc s t ≡ yes_no b
Takes w s t (mark.Pick ps) vs sc = Picked (set_outcomes w s t ps sc) vs
Takes w s t (mark.Equals i e) vs sc = (v : Value) × ((ker_val w e sc s t ≡ Val v) × Has t i v)
Takes w s t (mark.Among i e) vs sc = HasMember t i (ker_form w e sc s t)

-- in the scope behind it the numbers of a pick stand for these values
abbrev pub scope_past : AssignedStep → List Value → Scope → Scope
scope_past (mark.Guard k b) vs sc = sc
scope_past (mark.Pick ps) vs sc = picking ps vs sc
scope_past (mark.Equals i e) vs sc = sc
scope_past (mark.Among i e) vs sc = sc

-- each step that the path reaches, in the scope in which it is reached, has the property
abbrev pub Along : (AssignedStep → Scope → Type 0) → Width → State → State → List AssignedStep → Scope → Type 0
Along Q w s t [] sc = Unit {0}
Along Q w s t (z ∷ zs) sc = Q z sc × ((vs : List Value) → Takes w s t z vs sc → Along Q w s t zs (scope_past z vs sc))

-- each range that the step evaluates lies within its bounds
abbrev pub StepWithin : Width → State → State → AssignedStep → Scope → Type 0
StepWithin w s t z sc = IsTrue (list_all (λ k. is_within w k sc s t) (read_by z))

abbrev pub PathWithin : Width → State → State → List AssignedStep → Scope → Type 0
PathWithin w s t zs sc = Along (StepWithin w s t) w s t zs sc
