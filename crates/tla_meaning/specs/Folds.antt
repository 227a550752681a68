-- An operator's name in a fold stands for LAMBDA a, b: Op(a, b).
use Rattle.std.specs.Prelude.{ℕ, List, [], ◌∷◌, ◌++◌, codes}
use Rattle.tla_meaning.specs.declared.expr.Expr.{Expr, out-Expr, roll-Expr}
use Rattle.tla_meaning.specs.declared.expr.Expr.TheOpen.{Expr-F}
use Rattle.tla_meaning.specs.declared.expr.Expr.TheFolds.{fold-Expr}
use Rattle.tla_meaning.specs.declared.op.Op.{Op}
use Rattle.tla_meaning.specs.declared.op.Op.TheVariants as op
use Rattle.tla_meaning.specs.declared.place.Place.{Place}

-- the two bound names
abbrev pub two_names : List (List ℕ)
two_names = codes "a" ∷ codes "b" ∷ []

abbrev pub bound_at : Place → List ℕ → Expr
bound_at p x = roll-Expr (record { place = p; op = op.Bound x; args = []; binds = [] })

-- the use of the operator's name, with these two as its arguments
abbrev pub used_with : Expr-F Expr → Expr
used_with x = roll-Expr (record x { args = x.args ++ bound_at x.place (codes "a") ∷ bound_at x.place (codes "b") ∷ [] })

abbrev pub lambda_at : Place → Op → List (List ℕ) → List Expr → Expr
lambda_at p op.Fold [] (e ∷ es) = roll-Expr (record { place = p; op = op.Fold; args = used_with (out-Expr e) ∷ es; binds = two_names })
lambda_at p o xs es = roll-Expr (record { place = p; op = o; args = es; binds = xs })

unfoldable pub with_lambdas : Expr → Expr
with_lambdas = fold-Expr Expr (λ x. lambda_at x.place x.op x.binds x.args)
