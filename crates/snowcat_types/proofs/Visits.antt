-- What is found of a tree, by its node.
use Rattle.std.proofs.Common.{◌≡◌, ℕ, ap, map}
use Rattle.tla_meaning.specs.declared.expr.Expr.{Expr, roll-Expr}
use Rattle.tla_meaning.specs.declared.expr.Expr.TheOpen.{Expr-F}
use Rattle.tla_meaning.specs.declared.expr.Expr.TheFolds.{fold-roll-Expr, map-Expr}
use Rattle.snowcat_types.specs.Rows.{Context}
use Rattle.snowcat_types.specs.Systems.{Visit, visit, visit_node}

pub visit-roll : (x : Expr-F Expr) → visit (roll-Expr x) ≡ visit_node (map-Expr Expr Visit visit x)
unfolding visit
visit-roll x = fold-roll-Expr Visit visit_node x

pub visit-at : (x : Expr-F Expr) (v : ℕ) (c : Context) →
    visit (roll-Expr x) v c ≡ visit_node (record { place = x.place; op = x.op; args = map visit x.args; binds = x.binds }) v c
visit-at x v c = ap (λ m. m v c) (visit-roll x)
