-- The names that an action may assign. Source: Konnov, Kukovec and Tran, "TLA+ Model Checking Made Symbolic", OOPSLA
-- 2019, on assignments.
use Rattle.std.specs.Prelude.{ℕ, List, length, filter}
use Rattle.tla_meaning.specs.declared.actions.Assignable.{Assignable}
use Rattle.tla_meaning.specs.declared.actions.Assignable.TheVariants as assignable
use Rattle.tla_meaning.specs.declared.expr.Decl.{Decl}
use Rattle.kernel_trees.specs.declared.action_kind.ActionKind.{ActionKind}
use Rattle.kernel_trees.specs.declared.action_kind.ActionKind.TheVariants as action
use Rattle.kernel_trees.specs.declared.action_kind.AssignableNames.{AssignableNames}
use Rattle.kernel_trees.specs.Paths.{Marks, marks_below}

-- how many names are constants; these stand first in a job
abbrev pub constants : List Decl → ℕ
constants names = length (filter (λ (d : Decl). d.constant) names)

-- behind so many constants
abbrev pub assignable_in : ActionKind → ℕ → Assignable
assignable_in action.Constants n = assignable.Constants n
assignable_in action.Start n = assignable.Variables n
assignable_in action.Step n = assignable.PrimedVariables n

abbrev pub marks : AssignableNames → Marks
marks m = marks_below m.declared m.assignable

abbrev pub marks_of : ActionKind → List Decl → Marks
marks_of kind names = marks_below (length names) (assignable_in kind (constants names))
