-- How paths end between two states. Source: Konnov, Kukovec and Tran, "TLA+ Model Checking Made Symbolic", OOPSLA
-- 2019, on symbolic transitions.
use Rattle.std.specs.Prelude.{List}
use Rattle.tla_values.specs.declared.value.Value.{Value}
use Rattle.tla_meaning.specs.declared.job.State.{State}
use Rattle.tla_meaning.specs.declared.outcome.Fault.TheVariants.{IsWrong, IsBig}
use Rattle.tla_meaning.specs.declared.place.Place.{Place}
use Rattle.tla_meaning.specs.Executions.{no_scope}
use Rattle.tla_meaning.specs.Numbers.{Width}
use Rattle.kernel_trees.specs.Assignments.{AssignedHolds, AssignedMeets, AssignedPath}
use Rattle.kernel_trees.specs.Picks.{IsOneOf}
use Rattle.level_laws.specs.Branches.{Ending, Held, MetWrong, MetBig}

-- the path holds for some picks; or it meets for some picks something Wrong, or Big, at some place
abbrev pub PathEnds : Width → AssignedPath → Ending → State → State → Type 0
PathEnds w zs Held s t = (vss : List (List Value)) × AssignedHolds w s t zs vss no_scope
PathEnds w zs MetWrong s t = (p : Place) × ((vss : List (List Value)) × AssignedMeets w s t zs vss no_scope (IsWrong p))
PathEnds w zs MetBig s t = (p : Place) × ((vss : List (List Value)) × AssignedMeets w s t zs vss no_scope (IsBig p))

-- one of the paths does
abbrev pub SomeEnds : Width → List AssignedPath → Ending → State → State → Type 0
SomeEnds w xs k s t = (x : AssignedPath) × (IsOneOf x xs × PathEnds w x k s t)
