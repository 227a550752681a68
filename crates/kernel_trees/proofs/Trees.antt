-- The equations of kernel trees: recursion with trees, the expression of a node, and its meaning.
use Rattle.std.proofs.Common.{◌≡◌, Bool, List, [], ◌∷◌, map, refl, ◌∙◌, ap, ap₂, subst}
use Rattle.tla_meaning.specs.declared.expr.Expr.{Expr}
use Rattle.tla_meaning.specs.declared.expr.Expr.TheOpen.{Expr-F}
use Rattle.tla_meaning.specs.Numbers.{Width}
use Rattle.kernel_trees.specs.Paths.{Marks, tree_of, mentions, mentions_at}
use Rattle.tla_meaning.specs.Meaning.{Meaning}
use Rattle.tla_meaning.specs.Actions.{meaning, node}
use Rattle.tla_meaning.proofs.MeaningLemmas.{meaning-roll}
use Rattle.kernel_trees.specs.declared.kernel.Ker.{Ker, roll-Ker}
use Rattle.kernel_trees.specs.declared.kernel.Ker.TheOpen.{Ker-F}
use Rattle.kernel_trees.specs.declared.kernel.Ker.TheFolds.{fold-roll-Ker, map-Ker, ind-Ker}
use Rattle.kernel_trees.specs.Trees.{with_trees, recur, as_expr, expr_of, op_of, operands, names_of}

-- ---- induction over trees

abbrev pub Each : {X : Type 0} → (X → Type 0) → List X → Type 0
Each P [] = Unit {0}
Each P (x ∷ xs) = P x × Each P xs

each_of : (P : Ker → Type 0) (ys : List ((k : Ker) × P k)) → Each P (map (λ y. y.0) ys)
each_of P [] = tt
each_of P (y ∷ ys) = (y.1, each_of P ys)

-- what holds of a node where it holds of its children holds of every tree
pub by_nodes : (P : Ker → Type 0) → ((x : Ker-F Ker) → Each P x.args → P (roll-Ker x)) → (k : Ker) → P k
by_nodes P step = ind-Ker P (λ x y is.
    subst (λ (z : Ker-F Ker). P (roll-Ker z)) is (step (map-Ker ((k : Ker) × P k) Ker (λ y. y.0) y) (each_of P y.args)))

-- ---- recursion that sees trees

abbrev with_args : Ker-F Ker → List Ker → Ker-F Ker
with_args x ks = record { place = x.place; ty = x.ty; op = x.op; args = ks; binds = x.binds }

trees_stay : {X : Type 0} (f : Ker-F (Ker × X) → X) (ks : List Ker) → Each (λ k. (with_trees f k).0 ≡ k) ks →
    map (λ y. y.0) (map (with_trees f) ks) ≡ ks
trees_stay f [] h = refl
trees_stay f (k ∷ ks) h = ap₂ (λ (x : Ker) (xs : List Ker). x ∷ xs) h.0 (trees_stay f ks h.1)

tree_stays : {X : Type 0} (f : Ker-F (Ker × X) → X) (k : Ker) → (with_trees f k).0 ≡ k
tree_stays {X = X} f = by_nodes (λ k. (with_trees f k).0 ≡ k) (λ x h.
    ap (λ (p : Ker × X). p.0) (fold-roll-Ker (Ker × X) (λ x. (tree_of x, f x)) x)
    ∙ ap (λ ks. roll-Ker (with_args x ks)) (trees_stay f x.args h))

beside : {X : Type 0} (f : Ker-F (Ker × X) → X) (k : Ker) → with_trees f k ≡ (k, recur f k)
unfolding recur
beside f k = λ i. (tree_stays f k i, (with_trees f k).1)

all_beside : {X : Type 0} (f : Ker-F (Ker × X) → X) (ks : List Ker) → map (with_trees f) ks ≡ map (λ k. (k, recur f k)) ks
all_beside f [] = refl
all_beside {X = X} f (k ∷ ks) = ap₂ (λ (x : Ker × X) (xs : List (Ker × X)). x ∷ xs) (beside f k) (all_beside f ks)

pub recur-roll : {X : Type 0} (f : Ker-F (Ker × X) → X) (x : Ker-F Ker) →
    recur f (roll-Ker x) ≡ f (map-Ker Ker (Ker × X) (λ k. (k, recur f k)) x)
unfolding recur
recur-roll {X = X} f x =
    ap (λ (p : Ker × X). p.1) (fold-roll-Ker (Ker × X) (λ x. (tree_of x, f x)) x)
    ∙ ap (λ ks. f (record { place = x.place; ty = x.ty; op = x.op; args = ks; binds = x.binds })) (all_beside f x.args)

-- ---- the expression and the meaning of a node

pub as_expr-roll : (x : Ker-F Ker) → as_expr (roll-Ker x) ≡ expr_of (map-Ker Ker Expr as_expr x)
unfolding as_expr
as_expr-roll x = fold-roll-Ker Expr expr_of x

abbrev pub node_of : Width → Ker-F Ker → Expr-F Meaning
node_of w x = record {
  place = x.place;
  op = op_of x.op;
  args = map (meaning w) (operands x.op x.place (map as_expr x.args));
  binds = names_of x.binds;
}

pub ker-roll : (w : Width) (x : Ker-F Ker) → meaning w (as_expr (roll-Ker x)) ≡ node w (node_of w x)
ker-roll w x =
    ap (meaning w) (as_expr-roll x)
    ∙ meaning-roll w (record { place = x.place; op = op_of x.op; args = operands x.op x.place (map as_expr x.args); binds = names_of x.binds })

pub mentions-roll : (m : Marks) (x : Ker-F Ker) → mentions m (roll-Ker x) ≡ mentions_at m x.op (map (mentions m) x.args)
unfolding mentions
mentions-roll m x = fold-roll-Ker Bool (λ x. mentions_at m x.op x.args) x
