-- Parts of a job that are values.
use Rattle.std.specs.Prelude.{List, [], ◌∷◌, None}
use Rattle.tla_meaning.specs.declared.expr.Expr.{Expr}
use Rattle.snowcat_rows.specs.declared.types.Ty.{Ty}
use Rattle.kernel_trees.specs.declared.kernel.Ker.{Ker}
use Rattle.kernel_reduction.specs.BuildsTyped.{BuildsTyped}

-- each is built of all types of its own
abbrev pub ArePartsBuilt : List Expr → List (List Ty) → List Ker → Type 0
ArePartsBuilt [] [] [] = Unit {0}
ArePartsBuilt (e ∷ es) (ts ∷ tss) (k ∷ ks) = BuildsTyped None [] e ts k [] × ArePartsBuilt es tss ks
ArePartsBuilt es tss ks = ⊥
