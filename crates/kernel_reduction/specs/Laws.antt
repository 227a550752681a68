-- What the reduction keeps of values, as a law. Source: Konnov, Kukovec and Tran, "TLA+ Model Checking Made Symbolic",
-- OOPSLA 2019, on the reduction to KerA+.
use Rattle.std.specs.Prelude.{◌≡◌, false, IsTrue, Option, None, Some}
use Rattle.tla_meaning.specs.declared.actions.Assignable.{Assignable}
use Rattle.tla_meaning.specs.declared.expr.Expr.{Expr}
use Rattle.tla_meaning.specs.Numbers.{Width}
use Rattle.kernel_trees.specs.declared.kernel.Ker.{Ker}
use Rattle.kernel_reduction.specs.Reduction.{Keeps, Numbering, is_wide, mentioned}
use Rattle.kernel_reduction.specs.Builds.{Builds}

-- in an action position, no name that may be assigned
abbrev pub IsSilent : Option Assignable → Expr → Type 0
IsSilent None e = Unit {0}
IsSilent (Some m) e = mentioned m e ≡ false

-- what is built keeps value and form, without a width and under each from 4 on: as a value, and in an action position
-- where the expression holds no name that may be assigned, since a CASE that holds one is split there
abbrev pub KeepsOutcomes : Width → Option Assignable → Numbering → Expr → Ker → Type 0
KeepsOutcomes w i ρ e k = IsTrue (is_wide w) → IsSilent i e → Builds i ρ e k → Keeps w ρ e k
