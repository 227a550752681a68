-- The equations of what is computed of typed trees.
use Rattle.std.proofs.Common.{◌≡◌, ℕ, suc, Bool, List, [], ◌∷◌, map, drop, refl, ◌∙◌, ap, ap₂, subst}
use Rattle.tla_meaning.specs.declared.expr.Expr.{Expr, roll-Expr}
use Rattle.tla_meaning.specs.declared.expr.Expr.TheOpen.{Expr-F}
use Rattle.tla_meaning.specs.declared.expr.Expr.TheFolds.{fold-roll-Expr, map-Expr, ind-Expr}
use Rattle.kernel_trees.specs.TypeKinds.{Kind}
use Rattle.kernel_shapes.specs.Sized.{Extent, Sized, Position}
use Rattle.kernel_shapes.specs.Trees.{SizedTree, with_trees, recur, is_part, tree_node, tree_sized, tree_sizes, sized_node, first_kind, kinds_of, sizings}

-- ---- induction over trees

abbrev pub Each : {X : Type 0} → (X → Type 0) → List X → Type 0
Each P [] = Unit {0}
Each P (x ∷ xs) = P x × Each P xs

each_of : (P : Expr → Type 0) (ys : List ((e : Expr) × P e)) → Each P (map (λ y. y.0) ys)
each_of P [] = tt
each_of P (y ∷ ys) = (y.1, each_of P ys)

-- what holds of a node where it holds of its children holds of every tree
pub by_nodes : (P : Expr → Type 0) → ((x : Expr-F Expr) → Each P x.args → P (roll-Expr x)) → (e : Expr) → P e
by_nodes P step = ind-Expr P (λ x y is.
    subst (λ (z : Expr-F Expr). P (roll-Expr z)) is (step (map-Expr ((e : Expr) × P e) Expr (λ y. y.0) y) (each_of P y.args)))

-- ---- recursion that sees trees

abbrev tree_of : {X : Type 0} → Expr-F (Expr × X) → Expr
tree_of {X = X} x = roll-Expr (map-Expr (Expr × X) Expr (λ y. y.0) x)

abbrev with_args : Expr-F Expr → List Expr → Expr-F Expr
with_args x es = record { place = x.place; op = x.op; args = es; binds = x.binds }

trees_stay : {X : Type 0} (f : Expr-F (Expr × X) → X) (es : List Expr) → Each (λ e. (with_trees f e).0 ≡ e) es →
    map (λ y. y.0) (map (with_trees f) es) ≡ es
trees_stay f [] h = refl
trees_stay f (e ∷ es) h = ap₂ (λ (x : Expr) (xs : List Expr). x ∷ xs) h.0 (trees_stay f es h.1)

tree_stays : {X : Type 0} (f : Expr-F (Expr × X) → X) (e : Expr) → (with_trees f e).0 ≡ e
tree_stays {X = X} f = by_nodes (λ e. (with_trees f e).0 ≡ e) (λ x h.
    ap (λ (p : Expr × X). p.0) (fold-roll-Expr (Expr × X) (λ x. (tree_of x, f x)) x)
    ∙ ap (λ es. roll-Expr (with_args x es)) (trees_stay f x.args h))

beside : {X : Type 0} (f : Expr-F (Expr × X) → X) (e : Expr) → with_trees f e ≡ (e, recur f e)
unfolding recur
beside f e = λ i. (tree_stays f e i, (with_trees f e).1)

all_beside : {X : Type 0} (f : Expr-F (Expr × X) → X) (es : List Expr) → map (with_trees f) es ≡ map (λ e. (e, recur f e)) es
all_beside f [] = refl
all_beside {X = X} f (e ∷ es) = ap₂ (λ (x : Expr × X) (xs : List (Expr × X)). x ∷ xs) (beside f e) (all_beside f es)

recur-roll : {X : Type 0} (f : Expr-F (Expr × X) → X) (x : Expr-F Expr) →
    recur f (roll-Expr x) ≡ f (map-Expr Expr (Expr × X) (λ e. (e, recur f e)) x)
unfolding recur
recur-roll {X = X} f x =
    ap (λ (p : Expr × X). p.1) (fold-roll-Expr (Expr × X) (λ x. (tree_of x, f x)) x)
    ∙ ap (λ es. f (record { place = x.place; op = x.op; args = es; binds = x.binds })) (all_beside f x.args)

-- ---- what is computed of a node

-- the children's, and which of them are parts of an EXCEPT
abbrev pub parts_of : Expr-F Expr → List Bool
parts_of x = map (λ e. is_part x.place x.binds e) x.args

abbrev pub node_sized : ℕ → Expr-F Expr → SizedTree
node_sized w x =
    let as' : List SizedTree = map (tree_sized w) x.args in
    record {
      size = suc (tree_sizes as');
      sizing = λ ks.
          sized_node w x.place x.op x.binds (parts_of x) (first_kind ks) (kinds_of as' (drop 1 ks)) (sizings as' (drop 1 ks));
    }

seconds : (w : ℕ) (es : List Expr) → map (λ (y : Expr × SizedTree). y.1) (map (λ e. (e, tree_sized w e)) es) ≡ map (tree_sized w) es
seconds w [] = refl
seconds w (e ∷ es) = ap (λ (as' : List SizedTree). tree_sized w e ∷ as') (seconds w es)

parts_same : (w : ℕ) (x : Expr-F Expr) (es : List Expr) →
    map (λ (y : Expr × SizedTree). is_part x.place x.binds y.0) (map (λ e. (e, tree_sized w e)) es) ≡ map (λ e. is_part x.place x.binds e) es
parts_same w x [] = refl
parts_same w x (e ∷ es) = ap (λ (ps : List Bool). is_part x.place x.binds e ∷ ps) (parts_same w x es)

abbrev of_parts : ℕ → Expr-F Expr → List SizedTree → List Bool → SizedTree
of_parts w x as' ps = record {
  size = suc (tree_sizes as');
  sizing = λ ks.
      sized_node w x.place x.op x.binds ps (first_kind ks) (kinds_of as' (drop 1 ks)) (sizings as' (drop 1 ks));
}

pub tree-roll : (w : ℕ) (x : Expr-F Expr) → tree_sized w (roll-Expr x) ≡ node_sized w x
tree-roll w x =
    recur-roll (tree_node w) x
    ∙ ap₂ (of_parts w x) (seconds w x.args) (parts_same w x x.args)

pub size-roll : (w : ℕ) (x : Expr-F Expr) → (tree_sized w (roll-Expr x)).size ≡ suc (tree_sizes (map (tree_sized w) x.args))
size-roll w x = ap (λ (a : SizedTree). a.size) (tree-roll w x)

abbrev there : ℕ → Expr-F Expr → List Kind → Extent → Sized
there w x ks g = (node_sized w x).sizing ks g

pub shape-roll : (w : ℕ) (x : Expr-F Expr) (ks : List Kind) (g : Extent) → ((tree_sized w (roll-Expr x)).sizing ks g).shape ≡ (there w x ks g).shape
shape-roll w x ks g = ap (λ (a : SizedTree). (a.sizing ks g).shape) (tree-roll w x)

pub counts-roll : (w : ℕ) (x : Expr-F Expr) (ks : List Kind) (g : Extent) (q : Position) →
    ((tree_sized w (roll-Expr x)).sizing ks g).counts q ≡ (there w x ks g).counts q
counts-roll w x ks g q = ap (λ (a : SizedTree). (a.sizing ks g).counts q) (tree-roll w x)

pub beyond-roll : (w : ℕ) (x : Expr-F Expr) (ks : List Kind) (g : Extent) → ((tree_sized w (roll-Expr x)).sizing ks g).beyond ≡ (there w x ks g).beyond
beyond-roll w x ks g = ap (λ (a : SizedTree). (a.sizing ks g).beyond) (tree-roll w x)

pub literal-roll : (w : ℕ) (x : Expr-F Expr) (ks : List Kind) (g : Extent) → ((tree_sized w (roll-Expr x)).sizing ks g).literal ≡ (there w x ks g).literal
literal-roll w x ks g = ap (λ (a : SizedTree). (a.sizing ks g).literal) (tree-roll w x)

pub sound-roll : (w : ℕ) (x : Expr-F Expr) (ks : List Kind) (g : Extent) → ((tree_sized w (roll-Expr x)).sizing ks g).sound ≡ (there w x ks g).sound
sound-roll w x ks g = ap (λ (a : SizedTree). (a.sizing ks g).sound) (tree-roll w x)
