-- The equations of the types in kernel trees, and the law of shapes for kernel trees.
use Rattle.std.proofs.Common.{◌≡◌, ℕ, zero, suc, Bool, true, ◌&&◌, IsTrue, List, [], ◌∷◌, ◌++◌, map, take, refl, sym, subst}
use Rattle.std.specs.List.{list_all}
use Rattle.tla_values.specs.Order.{Layer}
use Rattle.tla_values.specs.declared.value.Value.{Value, out-Value}
use Rattle.tla_values.specs.declared.value.Value.TheOpen as layer
use Rattle.tla_meaning.specs.declared.expr.Expr.{Expr, roll-Expr}
use Rattle.tla_meaning.specs.declared.expr.Expr.TheOpen.{Expr-F}
use Rattle.tla_meaning.specs.declared.expr.Expr.TheFolds.{fold-roll-Expr}
use Rattle.tla_meaning.specs.declared.job.State.{State}
use Rattle.tla_meaning.specs.declared.place.Place.{Place}
use Rattle.tla_meaning.specs.Expanded.{is_expanded_op, is_expanded}
use Rattle.tla_meaning.specs.Scopes.{Scope}
use Rattle.tla_meaning.proofs.Views.{and_left, and_right, and_both}
use Rattle.kernel_trees.specs.declared.kernel.Ker.{Ker, roll-Ker}
use Rattle.kernel_trees.specs.declared.kernel.Ker.TheOpen.{Ker-F}
use Rattle.kernel_trees.specs.declared.kernel.Ker.TheFolds.{fold-roll-Ker, map-Ker}
use Rattle.kernel_trees.specs.declared.kernel.KerOp.{KerOp}
use Rattle.kernel_trees.specs.declared.kernel.KerOp.TheVariants as ker
use Rattle.kernel_trees.specs.Trees.{as_expr, op_of, operands, constant, literal}
use Rattle.kernel_trees.specs.TypeKinds.{Kind}
use Rattle.kernel_trees.proofs.Trees.{Each, by_nodes, as_expr-roll}
use Rattle.kernel_shapes.specs.Kernel.{kinds_in, node_kinds}
use Rattle.kernel_shapes.specs.Laws.{SizedFits}
use Rattle.kernel_shapes.specs.Sized.{Extent}
use Rattle.kernel_shapes.proofs.Law.{each_value_fits}

pub kinds-roll : (x : Ker-F Ker) → kinds_in (roll-Ker x) ≡ node_kinds (map-Ker Ker (List Kind) kinds_in x)
unfolding kinds_in
kinds-roll x = fold-roll-Ker (List Kind) node_kinds x

-- ---- a kernel tree stands for an expression that is expanded

constant_expanded : (l : Layer Value) → IsTrue (is_expanded_op (constant l))
constant_expanded (layer.Bool b) = refl
constant_expanded (layer.Int i) = refl
constant_expanded (layer.Text a) = refl
constant_expanded l = refl

op_expanded : (o : KerOp) → IsTrue (is_expanded_op (op_of o))
op_expanded (ker.Const v) = constant_expanded (out-Value v)
op_expanded o = refl

expanded-roll : (x : Expr-F Expr) → is_expanded (roll-Expr x) ≡ is_expanded_op x.op && list_all (λ b. b) (map is_expanded x.args)
expanded-roll x = fold-roll-Expr Bool (λ x. is_expanded_op x.op && list_all (λ b. b) x.args) x

abbrev all_expanded : List Expr → Bool
all_expanded es = list_all (λ b. b) (map is_expanded es)

literal_expanded : (p : Place) (i : ℕ) → IsTrue (is_expanded (literal p i))
literal_expanded p i = expanded-roll _

and_one_more : (es : List Expr) (e : Expr) → IsTrue (all_expanded es) → IsTrue (is_expanded e) → IsTrue (all_expanded (es ++ e ∷ []))
and_one_more [] e h k = and_both (is_expanded e) true k refl
and_one_more (d ∷ es) e h k =
    and_both (is_expanded d) (all_expanded (es ++ e ∷ [])) (and_left (is_expanded d) (all_expanded es) h)
    (and_one_more es e (and_right (is_expanded d) (all_expanded es) h) k)

front_expanded : (n : ℕ) (es : List Expr) → IsTrue (all_expanded es) → IsTrue (all_expanded (take n es))
front_expanded zero es h = refl
front_expanded (suc n) [] h = refl
front_expanded (suc n) (e ∷ es) h =
    and_both (is_expanded e) (all_expanded (take n es)) (and_left (is_expanded e) (all_expanded es) h)
    (front_expanded n es (and_right (is_expanded e) (all_expanded es) h))

operands_expanded : (o : KerOp) (p : Place) (es : List Expr) → IsTrue (all_expanded es) → IsTrue (all_expanded (operands o p es))
operands_expanded (ker.Const v) p es h = refl
operands_expanded ker.NoCase p es h = refl
operands_expanded (ker.Item i) p es h = and_one_more es (literal p i) h (literal_expanded p i)
operands_expanded ker.Range p es h = front_expanded 2 es h
operands_expanded o p es h = h

each_expanded : (ks : List Ker) → Each (λ k. IsTrue (is_expanded (as_expr k))) ks → IsTrue (all_expanded (map as_expr ks))
each_expanded [] h = refl
each_expanded (k ∷ ks) h = and_both (is_expanded (as_expr k)) (all_expanded (map as_expr ks)) h.0 (each_expanded ks h.1)

pub tree_expanded : (k : Ker) → IsTrue (is_expanded (as_expr k))
tree_expanded = by_nodes (λ k. IsTrue (is_expanded (as_expr k))) (λ x h.
    let y : Ker-F Expr = map-Ker Ker Expr as_expr x in
    subst (λ (e : Expr). IsTrue (is_expanded e)) (sym (as_expr-roll x))
    (subst IsTrue (sym (expanded-roll (node x y)))
    (and_both (is_expanded_op (op_of x.op)) (all_expanded (operands x.op x.place y.args)) (op_expanded x.op)
    (operands_expanded x.op x.place y.args (each_expanded x.args h)))))
  where
    node : Ker-F Ker → Ker-F Expr → Expr-F Expr
    node x y = record { place = x.place; op = op_of x.op; args = operands x.op x.place y.args; binds = map (λ n. n ∷ []) x.binds }

-- each value that a sound kernel tree has under the width, at states that fit, fits its shape
pub each_kernel_value_fits : (w : ℕ) (k : Ker) (sc : Scope) (g : Extent) (s t : State) (v : Value) → SizedFits w k sc g s t v
each_kernel_value_fits w k sc g s t v wide r h is = each_value_fits w (as_expr k) (kinds_in k) sc g s t v wide (tree_expanded k) r h is
