-- A node whose parts are built is built.
use Rattle.std.proofs.Common.{ℕ, List, sym, subst, Option}
use Rattle.tla_meaning.specs.declared.actions.Assignable.{Assignable}
use Rattle.tla_meaning.specs.declared.expr.Expr.{Expr, roll-Expr, out-roll-Expr}
use Rattle.tla_meaning.specs.declared.expr.Expr.TheOpen.{Expr-F}
use Rattle.tla_meaning.specs.declared.op.Op.{Op}
use Rattle.tla_meaning.specs.declared.place.Place.{Place}
use Rattle.kernel_trees.specs.declared.kernel.Ker.{Ker}
use Rattle.kernel_reduction.specs.Reduction.{Numbering}
use Rattle.kernel_reduction.specs.Builds.{Builds, BuildsNode, at_node}

pub built : (i : Option Assignable) (ρ : Numbering) (p : Place) (o : Op) (es : List Expr) (xs : List (List ℕ))
    (k : Ker) →
    BuildsNode i ρ p o es xs k → Builds i ρ (roll-Expr (record { place = p; op = o; args = es; binds = xs })) k
built i ρ p o es xs k b =
    at_node i ρ _ k
    (subst (λ (x : Expr-F Expr). BuildsNode i ρ x.place x.op x.args x.binds k)
    (sym (out-roll-Expr (record { place = p; op = o; args = es; binds = xs }))) b)
