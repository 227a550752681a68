-- An operator's own cells: what it gives of values of its operands, before these operands' faults.
use Rattle.std.specs.Prelude.{◌≡◌, Bool, true, false, IsTrue, List, [], ◌∷◌, ◌++◌, map, Some, pos}
use Rattle.sat_formula.specs.Formula.{Satisfies}
use Rattle.tla_values.specs.declared.value.Value.{Value}
use Rattle.tla_meaning.specs.declared.job.State.{State}
use Rattle.tla_meaning.specs.declared.op.Op.TheVariants as op
use Rattle.tla_meaning.specs.declared.outcome.Fault.TheVariants.{NoFault}
use Rattle.tla_meaning.specs.declared.outcome.Outcome.{Outcome}
use Rattle.tla_meaning.specs.declared.place.Place.{Place}
use Rattle.tla_meaning.specs.Numbers.{Width, number}
use Rattle.tla_meaning.specs.Operators.{table}
use Rattle.tla_meaning.specs.Outcomes.{joined, with_value}
use Rattle.tla_meaning.specs.Scopes.{Scope}
use Rattle.cell_arena.specs.declared.build.Build.{Build}
use Rattle.kernel_trees.specs.declared.kernel.Ker.{Ker, out-Ker}
use Rattle.kernel_trees.specs.declared.kernel.KerOp.{KerOp}
use Rattle.kernel_trees.specs.declared.kernel.KerOp.TheVariants as ker
use Rattle.kernel_trees.specs.Trees.{ker_val, op_of}
use Rattle.kernel_ranges.specs.Ranges.{is_within}
use Rattle.outcome_cells.specs.declared.cells.Cells.{Cells}
use Rattle.outcome_cells.specs.Shows.{AllShow, Shows, cell_values}
use Rattle.expr_rewriter.specs.Operating.{operands}
use Rattle.expr_rewriter.specs.Rewriting.{HasTreeSort}

-- the row of the table; an item's number is an operand too
abbrev pub own_outcome : Width → Place → KerOp → List Value → Outcome
own_outcome w p (ker.Item i) vs = with_value (number w p (pos i)) (λ n. table w p op.Apply (vs ++ n ∷ []))
own_outcome w p o vs = table w p (op_of o) vs

-- what the operands give
abbrev pub gives : Width → Ker → Scope → State → State → List Outcome
gives w k sc s t = map (λ j. ker_val w j sc s t) (operands k)

-- the cells are of the node's sort, and where no operand has a fault they show the row of their values
pub record MakesOwn (old new : Build) (k : Ker) (xs : List Cells) (r : Cells) : Type 0 where
  pub sort : HasTreeSort new k r
  pub shows : (a : List Bool) → Satisfies a new.formula → (sc : Scope) (s t : State) →
      IsTrue (is_within (Some old.arena.width) k sc s t) →
      AllShow old.arena a xs (gives (Some old.arena.width) k sc s t) →
      joined (gives (Some old.arena.width) k sc s t) ≡ NoFault →
      Shows new.arena a r
      (own_outcome (Some old.arena.width) (out-Ker k).place (out-Ker k).op (cell_values old.arena a xs))

abbrev pub is_arithmetic : KerOp → Bool
is_arithmetic ker.Plus = true
is_arithmetic ker.Minus = true
is_arithmetic ker.Times = true
is_arithmetic ker.Quotient = true
is_arithmetic ker.Remainder = true
is_arithmetic o = false

abbrev pub is_of_sets : KerOp → Bool
is_of_sets ker.Union = true
is_of_sets ker.Inter = true
is_of_sets ker.Without = true
is_of_sets o = false
