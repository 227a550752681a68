-- Where the nodes of a tree stand, and which texts it holds: a kernel tree has no place and no text that its expression
-- does not have.
use Rattle.std.specs.Prelude.{ℕ, Bool, false, ◌||◌, IsTrue, List, Option}
use Rattle.std.specs.List.{list_any}
use Rattle.std.specs.Ordering.{is_eq}
use Rattle.tla_values.specs.Order.{Layer}
use Rattle.tla_values.specs.declared.value.Value.{Value, out-Value}
use Rattle.tla_values.specs.declared.value.Value.TheOpen as layer
use Rattle.tla_meaning.specs.declared.actions.Assignable.{Assignable}
use Rattle.tla_meaning.specs.declared.expr.Expr.{Expr}
use Rattle.tla_meaning.specs.declared.expr.Expr.TheFolds.{fold-Expr}
use Rattle.tla_meaning.specs.declared.op.Op.{Op}
use Rattle.tla_meaning.specs.declared.op.Op.TheVariants as op
use Rattle.tla_meaning.specs.declared.place.Place.{Place}
use Rattle.tla_meaning.specs.Outcomes.{place_cmp}
use Rattle.tla_meaning.specs.Scopes.{same_text}
use Rattle.kernel_trees.specs.declared.kernel.Ker.{Ker}
use Rattle.kernel_trees.specs.declared.kernel.Ker.TheFolds.{fold-Ker}
use Rattle.kernel_trees.specs.declared.kernel.KerOp.{KerOp}
use Rattle.kernel_trees.specs.declared.kernel.KerOp.TheVariants as ker
use Rattle.kernel_reduction.specs.Reduction.{Numbering}
use Rattle.kernel_reduction.specs.Builds.{Builds}

-- a literal text that passes
abbrev pub is_text_op : (List ℕ → Bool) → Op → Bool
is_text_op T (op.Str x) = T x
is_text_op T o = false

abbrev pub is_text_value : (List ℕ → Bool) → Layer Value → Bool
is_text_value T (layer.Text x) = T x
is_text_value T v = false

abbrev pub is_text_constant : (List ℕ → Bool) → KerOp → Bool
is_text_constant T (ker.Const v) = is_text_value T (out-Value v)
is_text_constant T o = false

-- whether a node of a tree stands at a place that passes, or is a text that passes
unfoldable pub has_node : (Place → Bool) → (List ℕ → Bool) → Expr → Bool
has_node P T = fold-Expr Bool (λ x. (P x.place || is_text_op T x.op) || list_any (λ b. b) x.args)

unfoldable pub kernel_has_node : (Place → Bool) → (List ℕ → Bool) → Ker → Bool
kernel_has_node P T = fold-Ker Bool (λ x. (P x.place || is_text_constant T x.op) || list_any (λ b. b) x.args)

-- whether a node stands there
abbrev pub stands_at : Expr → Place → Bool
stands_at e p = has_node (λ q. is_eq (place_cmp p q)) (λ x. false) e

abbrev pub kernel_stands_at : Ker → Place → Bool
kernel_stands_at k p = kernel_has_node (λ q. is_eq (place_cmp p q)) (λ x. false) k

-- whether it holds this text
abbrev pub has_text : Expr → List ℕ → Bool
has_text e x = has_node (λ q. false) (same_text x) e

abbrev pub kernel_has_text : Ker → List ℕ → Bool
kernel_has_text k x = kernel_has_node (λ q. false) (same_text x) k

-- what is built has no place and no text of its own
abbrev pub KeepsPlaces : Option Assignable → Numbering → Expr → Ker → Place → Type 0
KeepsPlaces i ρ e k p = Builds i ρ e k → IsTrue (kernel_stands_at k p) → IsTrue (stands_at e p)

abbrev pub KeepsTexts : Option Assignable → Numbering → Expr → Ker → List ℕ → Type 0
KeepsTexts i ρ e k x = Builds i ρ e k → IsTrue (kernel_has_text k x) → IsTrue (has_text e x)
