-- What the definitions give of a node, by its children.
use Rattle.std.proofs.Common.{◌≡◌, ℕ, Bool, length}
use Rattle.tla_meaning.specs.declared.expr.Expr.{Expr, roll-Expr}
use Rattle.tla_meaning.specs.declared.expr.Expr.TheOpen.{Expr-F}
use Rattle.tla_meaning.specs.declared.expr.Expr.TheFolds.{fold-roll-Expr, map-Expr}
use Rattle.op_inliner.specs.declared.parts.PartKind.{PartKind}
use Rattle.tla_meaning.specs.Meaning.{role}
use Rattle.op_inliner.specs.Known.{Uses, node_uses, uses_known}
use Rattle.op_inliner.specs.Primes.{Turned, turned, turned_node}

pub turned-roll : (part : PartKind) (c : ℕ → Bool) (x : Expr-F Expr) →
    turned part c (roll-Expr x) ≡ turned_node part c (map-Expr Expr Turned (turned part c) x)
unfolding turned
turned-roll part c x = fold-roll-Expr Turned (turned_node part c) x

pub uses-roll : (x : Expr-F Expr) → uses_known (roll-Expr x) ≡ node_uses (map-Expr Expr Uses uses_known x) (role x.op (length x.binds))
uses-roll x = fold-roll-Expr Uses (λ x. node_uses x (role x.op (length x.binds))) x
