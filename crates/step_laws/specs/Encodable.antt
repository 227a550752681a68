-- Which systems can be encoded, whatever job stands behind them. Source: Konnov, Kukovec and Tran, "TLA+ Model Checking Made
-- Symbolic", OOPSLA 2019, on assignments and symbolic transitions.
use Rattle.std.specs.Prelude.{◌≡◌, ℕ, Bool, false, IsTrue, List, length, filter, Some}
use Rattle.tla_meaning.specs.declared.actions.Assignable.TheVariants.{PrimedVariables, Variables}
use Rattle.tla_meaning.specs.Actions.{counts}
use Rattle.kernel_trees.specs.declared.system.System.{System}
use Rattle.kernel_trees.specs.Paths.{Marks, marks_below, mentions}
use Rattle.kernel_trees.specs.Systems.{kinds_of_names, sound_system}
use Rattle.kernel_trees.specs.TypeKinds.{Kind}
use Rattle.kernel_shapes.specs.Laws.{ConstantPathsAre, PathsAre}

-- the constants stand first
abbrev pub constant_count : System → ℕ
constant_count s = length (filter (λ (b : Bool). b) s.ker.fixed)

-- what Init may assign, and what Next may
abbrev pub start_marks : System → Marks
start_marks s = marks_below (length s.ker.fixed) (Variables (constant_count s))

abbrev pub step_marks : System → Marks
step_marks s = marks_below (length s.ker.fixed) (PrimedVariables (constant_count s))

-- the variables, with and without a prime
abbrev pub the_variables : System → Marks
the_variables s = counts (Variables (constant_count s))

-- Trees and paths are sound; paths read no name before they assign it, and assign what they must unless they have ended;
-- CInit and the assumption read no variable.
pub record CanEncode (s : System) : Type 0 where
  pub names : List Kind
  pub kinds : kinds_of_names s.ker ≡ Some names
  pub sound : IsTrue (sound_system s)
  pub constants : ConstantPathsAre names s.ker.fixed s.constants
  pub assume : mentions (the_variables s) s.ker.assume ≡ false
  pub start : PathsAre names (start_marks s) s.start
  pub next : PathsAre names (step_marks s) s.next
