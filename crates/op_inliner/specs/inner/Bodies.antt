-- A fold with an operator's name, as a node to be changed.
use Rattle.std.specs.Prelude.{ℕ, Bool, true, false, List, [], ◌∷◌, map}
use Rattle.tla_meaning.specs.declared.expr.Def.{Def}
use Rattle.tla_meaning.specs.declared.expr.Expr.{Expr, out-Expr}
use Rattle.tla_meaning.specs.declared.op.Op.{Op}
use Rattle.tla_meaning.specs.declared.op.Op.TheVariants as op
use Rattle.tla_meaning.specs.Folds.{used_with}
use Rattle.op_inliner.specs.Annotations.{body_of}

-- whether the node is a fold with an operator's name
abbrev pub is_named_fold : Op → List (List ℕ) → List Expr → Bool
is_named_fold op.Fold [] (e ∷ es) = true
is_named_fold o xs es = false

-- the operands of a fold, with the two names as the arguments of the first
abbrev pub first_used : List Expr → List Expr
first_used [] = []
first_used (e ∷ es) = used_with (out-Expr e) ∷ es

abbrev pub bodies_of : List Def → List Expr
bodies_of ds = map body_of ds
