-- The equations of a job's trees, node by node: recursion that sees trees, names, annotations, paths.
use Rattle.std.proofs.Common.{◌≡◌, ℕ, zero, suc, Bool, List, [], ◌∷◌, map, refl, ◌∙◌, ap, ap₂, subst}
use Rattle.std.specs.Prelude.{sum, take, drop}
use Rattle.tla_meaning.specs.declared.expr.Expr.{Expr, roll-Expr}
use Rattle.tla_meaning.specs.declared.expr.Expr.TheOpen.{Expr-F}
use Rattle.tla_meaning.specs.declared.expr.Expr.TheFolds.{fold-roll-Expr, map-Expr, ind-Expr}
use Rattle.tla_meaning.specs.declared.op.Op.{Op}
use Rattle.tla_meaning.specs.declared.place.Place.{Place}
use Rattle.kernel_trees.specs.Paths.{Marks}
use Rattle.kernel_trees.specs.TypeKinds.{Kind}
use Rattle.kernel_shapes.specs.Trees.{with_trees, recur}
use Rattle.kernel_trees.specs.Ways.{Way}
use Rattle.kernel_reduction.specs.JobPaths.{TypedTree, JobStep, JobParted, JobWays, names_inside, below_notes, below_of, has_name, has_name_at, job_ways, job_ways_at, job_ways_of, nodes, parted, set_count, tree_of, typed_trees}

-- ---- induction over trees

abbrev pub Each : {X : Type 0} → (X → Type 0) → List X → Type 0
Each P [] = Unit {0}
Each P (x ∷ xs) = P x × Each P xs

each_of : (P : Expr → Type 0) (ys : List ((e : Expr) × P e)) → Each P (map (λ y. y.0) ys)
each_of P [] = tt
each_of P (y ∷ ys) = (y.1, each_of P ys)

-- what holds of a node where it holds of its children holds of every tree
pub by_nodes : (P : Expr → Type 0) → ((x : Expr-F Expr) → Each P x.args → P (roll-Expr x)) → (e : Expr) → P e
by_nodes P step = ind-Expr P (λ x y is.
    subst (λ (z : Expr-F Expr). P (roll-Expr z)) is (step (map-Expr ((e : Expr) × P e) Expr (λ y. y.0) y) (each_of P y.args)))

-- ---- recursion that sees trees

abbrev with_args : Expr-F Expr → List Expr → Expr-F Expr
with_args x es = record { place = x.place; op = x.op; args = es; binds = x.binds }

trees_stay : {X : Type 0} (f : Expr-F (Expr × X) → X) (es : List Expr) → Each (λ e. (with_trees f e).0 ≡ e) es →
    map (λ y. y.0) (map (with_trees f) es) ≡ es
trees_stay f [] h = refl
trees_stay f (e ∷ es) h = ap₂ (λ (x : Expr) (xs : List Expr). x ∷ xs) h.0 (trees_stay f es h.1)

tree_stays : {X : Type 0} (f : Expr-F (Expr × X) → X) (e : Expr) → (with_trees f e).0 ≡ e
tree_stays {X = X} f = by_nodes (λ e. (with_trees f e).0 ≡ e) (λ x h.
    ap (λ (p : Expr × X). p.0) (fold-roll-Expr (Expr × X) (λ x. (tree_of x, f x)) x)
    ∙ ap (λ es. roll-Expr (with_args x es)) (trees_stay f x.args h))

beside : {X : Type 0} (f : Expr-F (Expr × X) → X) (e : Expr) → with_trees f e ≡ (e, recur f e)
unfolding recur
beside f e = λ i. (tree_stays f e i, (with_trees f e).1)

all_beside : {X : Type 0} (f : Expr-F (Expr × X) → X) (es : List Expr) → map (with_trees f) es ≡ map (λ e. (e, recur f e)) es
all_beside f [] = refl
all_beside {X = X} f (e ∷ es) = ap₂ (λ (x : Expr × X) (xs : List (Expr × X)). x ∷ xs) (beside f e) (all_beside f es)

pub recur-roll : {X : Type 0} (f : Expr-F (Expr × X) → X) (x : Expr-F Expr) →
    recur f (roll-Expr x) ≡ f (map-Expr Expr (Expr × X) (λ e. (e, recur f e)) x)
unfolding recur
recur-roll {X = X} f x =
    ap (λ (p : Expr × X). p.1) (fold-roll-Expr (Expr × X) (λ x. (tree_of x, f x)) x)
    ∙ ap (λ es. f (record { place = x.place; op = x.op; args = es; binds = x.binds })) (all_beside f x.args)

pub trees_of : {X : Type 0} (f : Expr → X) (es : List Expr) → map (λ (y : Expr × X). y.0) (map (λ e. (e, f e)) es) ≡ es
trees_of f [] = refl
trees_of f (e ∷ es) = ap (λ l. e ∷ l) (trees_of f es)

results_of : {X : Type 0} (f : Expr → X) (es : List Expr) → map (λ (y : Expr × X). y.1) (map (λ e. (e, f e)) es) ≡ map f es
results_of f [] = refl
results_of f (e ∷ es) = ap (λ l. f e ∷ l) (results_of f es)

-- ---- names, annotations and numbers of nodes

pub has_name-roll : (test : ℕ → Bool → Place → Bool) (x : Expr-F Expr) →
    has_name test (roll-Expr x) ≡ has_name_at test x.place x.op (map (has_name test) x.args)
unfolding has_name
has_name-roll test x = fold-roll-Expr Bool (λ x. has_name_at test x.place x.op x.args) x

pub below-roll : (x : Expr-F Expr) → below_notes (roll-Expr x) ≡ below_of x.op (roll-Expr x) (map below_notes x.args)
unfolding below_notes
below-roll x =
    recur-roll (λ x. below_of x.op (tree_of x) (map (λ k. k.1) x.args)) x
    ∙ ap₂ (λ es ks. below_of x.op (roll-Expr (with_args x es)) ks) (trees_of below_notes x.args) (results_of below_notes x.args)

pub nodes-roll : (x : Expr-F Expr) → nodes (roll-Expr x) ≡ suc (sum (map nodes x.args))
unfolding nodes
nodes-roll x = fold-roll-Expr ℕ (λ x. suc (sum x.args)) x

-- ---- paths

-- trees, each with its paths
abbrev pub with_job_ways : Marks → List TypedTree → List JobParted
with_job_ways m ts = map (λ t. (t, job_ways m t)) ts

parted_are : (m : Marks) (n : ℕ) (outer inner : List (List ℕ)) (es : List Expr) (ks : List Kind) →
    parted n outer inner (map (λ e. (e, recur (job_ways_at m) e)) es) ks ≡ with_job_ways m (typed_trees n outer inner es ks)
parted_are m n outer inner [] ks = refl
parted_are m zero outer inner (e ∷ es) ks =
    let t : TypedTree = record { tree = e; kinds = take (nodes e) ks; around = inner } in
    ap (λ l. (t, job_ways m t) ∷ l) (parted_are m zero outer inner es (drop (nodes e) ks))
parted_are m (suc n) outer inner (e ∷ es) ks =
    let t : TypedTree = record { tree = e; kinds = take (nodes e) ks; around = outer } in
    ap (λ l. (t, job_ways m t) ∷ l) (parted_are m n outer inner es (drop (nodes e) ks))

-- the children of a node through which a path leads
abbrev pub inside_trees : Op → List (List ℕ) → List (List ℕ) → List Expr → List Kind → List TypedTree
inside_trees o xs around es ks = typed_trees (set_count o xs) around (names_inside o xs around) es ks

pub job_ways-roll : (m : Marks) (x : Expr-F Expr) (around : List (List ℕ)) (ks : List Kind) →
    job_ways m (record { tree = roll-Expr x; kinds = ks; around = around })
    ≡ job_ways_of m x.op (record { tree = roll-Expr x; kinds = ks; around = around }) x.place x.binds
    (with_job_ways m (inside_trees x.op x.binds around x.args (drop 1 ks)))
job_ways-roll m x around ks =
    ap (λ (f : JobWays). f around ks) (recur-roll (job_ways_at m) x)
    ∙ ap₂ (λ es l. job_ways_of m x.op (record { tree = roll-Expr (with_args x es); kinds = ks; around = around }) x.place x.binds l)
    (trees_of (recur (job_ways_at m)) x.args)
    (parted_are m (set_count x.op x.binds) around (names_inside x.op x.binds around) x.args (drop 1 ks))
