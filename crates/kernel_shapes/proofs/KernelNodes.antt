-- What is computed of a kernel node, by what is computed of its children.
use Rattle.std.proofs.Common.{◌≡◌, ℕ, zero, suc, ◌+◌, Bool, List, [], ◌∷◌, ◌++◌, map, take, drop, length, refl, sym, ◌∙◌, ap, ap₂, subst, arith}
use Rattle.std.proofs.lemmas.List.{length-append}
use Rattle.tla_meaning.specs.declared.expr.Expr.{Expr}
use Rattle.tla_meaning.specs.declared.expr.Expr.TheOpen.{Expr-F}
use Rattle.tla_meaning.specs.declared.place.Place.{Place}
use Rattle.kernel_trees.specs.declared.kernel.Ker.{Ker, roll-Ker}
use Rattle.kernel_trees.specs.declared.kernel.Ker.TheOpen.{Ker-F}
use Rattle.kernel_trees.specs.declared.kernel.KerOp.{KerOp}
use Rattle.kernel_trees.specs.declared.kernel.KerOp.TheVariants as ker
use Rattle.kernel_trees.specs.Trees.{as_expr, op_of, operands, names_of, literal}
use Rattle.kernel_trees.specs.TypeKinds as kind
use Rattle.kernel_trees.specs.TypeKinds.{Kind, kind_of}
use Rattle.kernel_trees.proofs.Trees.{Each, by_nodes, as_expr-roll}
use Rattle.kernel_shapes.specs.Sized.{Extent, Position, Sizing}
use Rattle.kernel_shapes.specs.Trees.{SizedTree, tree_sizes, first_kind, sizings, kinds_of, sized_node, is_part, tree_sized}
use Rattle.kernel_shapes.specs.Kernel.{operand_kinds, kind_or_truth, all_kinds, kinds_in, ker_sized}
use Rattle.kernel_shapes.proofs.KernelLaw.{kinds-roll}
use Rattle.kernel_shapes.proofs.TreeLemmas.{tree-roll, size-roll}

-- ---- a tree has as many types as nodes

-- trees with as many types each
abbrev Sizes : ℕ → List Expr → List (List Kind) → Type 0
Sizes w [] [] = Unit {0}
Sizes w (e ∷ es) (ks ∷ kss) = ((tree_sized w e).size ≡ length ks) × Sizes w es kss
Sizes w [] (ks ∷ kss) = ⊥
Sizes w (e ∷ es) [] = ⊥

sizes_take : (w n : ℕ) (es : List Expr) (kss : List (List Kind)) → Sizes w es kss → Sizes w (take n es) (take n kss)
sizes_take w zero es kss h = tt
sizes_take w (suc n) [] [] h = tt
sizes_take w (suc n) (e ∷ es) (ks ∷ kss) h = (h.0, sizes_take w n es kss h.1)
sizes_take w (suc n) [] (ks ∷ kss) h = absurd h
sizes_take w (suc n) (e ∷ es) [] h = absurd h

sizes_more : (w : ℕ) (es : List Expr) (kss : List (List Kind)) (e : Expr) (ks : List Kind) → Sizes w es kss → (tree_sized w e).size ≡ length ks → Sizes w (es ++ e ∷ []) (kss ++ ks ∷ [])
sizes_more w [] [] e ks h k = (k, tt)
sizes_more w (d ∷ es) (js ∷ kss) e ks h k = (h.0, sizes_more w es kss e ks h.1 k)
sizes_more w [] (js ∷ kss) e ks h k = absurd h
sizes_more w (d ∷ es) [] e ks h k = absurd h

literal_size : (w : ℕ) (p : Place) (i : ℕ) → (tree_sized w (literal p i)).size ≡ 1
literal_size w p i = size-roll w _

operand_sizes : (w : ℕ) (o : KerOp) (p : Place) (es : List Expr) (kss : List (List Kind)) → Sizes w es kss → Sizes w (operands o p es) (operand_kinds o kss)
operand_sizes w (ker.Const v) p es kss h = tt
operand_sizes w ker.NoCase p es kss h = tt
operand_sizes w (ker.Item i) p es kss h = sizes_more w es kss (literal p i) (kind.Number ∷ []) h (literal_size w p i)
operand_sizes w ker.Range p es kss h = sizes_take w 2 es kss h
operand_sizes w o p es kss h = h

all_sizes : (w : ℕ) (es : List Expr) (kss : List (List Kind)) → Sizes w es kss → tree_sizes (map (tree_sized w) es) ≡ length (all_kinds kss)
all_sizes w [] [] h = refl
all_sizes w (e ∷ es) (ks ∷ kss) h = ap₂ (λ (m n : ℕ). m + n) h.0 (all_sizes w es kss h.1) ∙ sym (length-append ks (all_kinds kss))
all_sizes w [] (ks ∷ kss) h = absurd h
all_sizes w (e ∷ es) [] h = absurd h

abbrev expr_node : Ker-F Ker → Expr-F Expr
expr_node x = record { place = x.place; op = op_of x.op; args = operands x.op x.place (map as_expr x.args); binds = names_of x.binds }

each_size : (w : ℕ) (ks : List Ker) → Each (λ k. (tree_sized w (as_expr k)).size ≡ length (kinds_in k)) ks → Sizes w (map as_expr ks) (map kinds_in ks)
each_size w [] h = tt
each_size w (k ∷ ks) h = (h.0, each_size w ks h.1)

pub ker_size : (w : ℕ) (k : Ker) → (tree_sized w (as_expr k)).size ≡ length (kinds_in k)
ker_size w = by_nodes (λ k. (tree_sized w (as_expr k)).size ≡ length (kinds_in k)) (λ x h.
    ap (λ (e : Expr). (tree_sized w e).size) (as_expr-roll x)
    ∙ size-roll w (expr_node x)
    ∙ ap suc (all_sizes w (operands x.op x.place (map as_expr x.args)) (operand_kinds x.op (map kinds_in x.args))
    (operand_sizes w x.op x.place (map as_expr x.args) (map kinds_in x.args) (each_size w x.args h)))
    ∙ sym (ap length (kinds-roll x)))

-- ---- the types of children, apart

take_front : (n : ℕ) (xs ys : List Kind) → n ≡ length xs → take n (xs ++ ys) ≡ xs
take_front n xs ys e = subst (λ (m : ℕ). take m (xs ++ ys) ≡ xs) (sym e) (by xs)
  where
    by : (xs : List Kind) → take (length xs) (xs ++ ys) ≡ xs
    by [] = refl
    by (x ∷ xs) = ap (λ (l : List Kind). x ∷ l) (by xs)

drop_front : (n : ℕ) (xs ys : List Kind) → n ≡ length xs → drop n (xs ++ ys) ≡ ys
drop_front n xs ys e = subst (λ (m : ℕ). drop m (xs ++ ys) ≡ ys) (sym e) (by xs)
  where
    by : (xs : List Kind) → drop (length xs) (xs ++ ys) ≡ ys
    by [] = refl
    by (x ∷ xs) = by xs

-- each tree by its types
abbrev paired : ℕ → List Expr → List (List Kind) → List Sizing
paired w [] kss = []
paired w (e ∷ es) [] = []
paired w (e ∷ es) (ks ∷ kss) = (tree_sized w e).sizing ks ∷ paired w es kss

abbrev pub firsts : List (List Kind) → List Kind
firsts kss = map first_kind kss

sizings_apart : (w : ℕ) (es : List Expr) (kss : List (List Kind)) → Sizes w es kss → sizings (map (tree_sized w) es) (all_kinds kss) ≡ paired w es kss
sizings_apart w [] [] h = refl
sizings_apart w (e ∷ es) (ks ∷ kss) h =
    ap₂ (λ (as' bs : List Kind). (tree_sized w e).sizing as' ∷ sizings (map (tree_sized w) es) bs)
    (take_front (tree_sized w e).size ks (all_kinds kss) h.0) (drop_front (tree_sized w e).size ks (all_kinds kss) h.0)
    ∙ ap (λ (zs : List Sizing). (tree_sized w e).sizing ks ∷ zs) (sizings_apart w es kss h.1)
sizings_apart w [] (ks ∷ kss) h = absurd h
sizings_apart w (e ∷ es) [] h = absurd h

first_apart : (w : ℕ) (e : Expr) (ks rest : List Kind) → (tree_sized w e).size ≡ length ks → (m : ℕ) → length ks ≡ suc m → first_kind (ks ++ rest) ≡ first_kind ks
first_apart w e [] rest h m l = absurd (none l)
  where
    none : 0 ≡ suc m → ⊥
    none q = omega (arith, q)
first_apart w e (k ∷ ks) rest h m l = refl

-- trees have types
abbrev Typed : List (List Kind) → Type 0
Typed [] = Unit {0}
Typed (ks ∷ kss) = ((m : ℕ) × (length ks ≡ suc m)) × Typed kss

kinds_apart : (w : ℕ) (es : List Expr) (kss : List (List Kind)) → Sizes w es kss → Typed kss → kinds_of (map (tree_sized w) es) (all_kinds kss) ≡ firsts kss
kinds_apart w [] [] h t = refl
kinds_apart w (e ∷ es) (ks ∷ kss) h t =
    ap₂ (λ (a : Kind) (bs : List Kind). a ∷ kinds_of (map (tree_sized w) es) bs)
    (first_apart w e ks (all_kinds kss) h.0 t.0.0 t.0.1) (drop_front (tree_sized w e).size ks (all_kinds kss) h.0)
    ∙ ap (λ (bs : List Kind). first_kind ks ∷ bs) (kinds_apart w es kss h.1 t.1)
kinds_apart w [] (ks ∷ kss) h t = absurd h
kinds_apart w (e ∷ es) [] h t = absurd h

-- ---- the sizings of operands

abbrev pub literal_sizing : ℕ → Place → ℕ → Sizing
literal_sizing w p i = (tree_sized w (literal p i)).sizing (kind.Number ∷ [])

abbrev pub operand_sizings : ℕ → KerOp → Place → List Sizing → List Sizing
operand_sizings w (ker.Const v) p zs = []
operand_sizings w ker.NoCase p zs = []
operand_sizings w (ker.Item i) p zs = zs ++ literal_sizing w p i ∷ []
operand_sizings w ker.Range p zs = take 2 zs
operand_sizings w o p zs = zs

paired_children : (w : ℕ) (ks : List Ker) → paired w (map as_expr ks) (map kinds_in ks) ≡ map (ker_sized w) ks
paired_children w [] = refl
paired_children w (k ∷ ks) = ap (λ (zs : List Sizing). ker_sized w k ∷ zs) (paired_children w ks)

paired_more : (w : ℕ) (ks : List Ker) (e : Expr) (js : List Kind) →
    paired w (map as_expr ks ++ e ∷ []) (map kinds_in ks ++ js ∷ []) ≡ map (ker_sized w) ks ++ (tree_sized w e).sizing js ∷ []
paired_more w [] e js = refl
paired_more w (k ∷ ks) e js = ap (λ (zs : List Sizing). ker_sized w k ∷ zs) (paired_more w ks e js)

paired_front : (w n : ℕ) (ks : List Ker) → paired w (take n (map as_expr ks)) (take n (map kinds_in ks)) ≡ take n (map (ker_sized w) ks)
paired_front w zero ks = refl
paired_front w (suc n) [] = refl
paired_front w (suc n) (k ∷ ks) = ap (λ (zs : List Sizing). ker_sized w k ∷ zs) (paired_front w n ks)

operands_paired : (w : ℕ) (o : KerOp) (p : Place) (ks : List Ker) →
    paired w (operands o p (map as_expr ks)) (operand_kinds o (map kinds_in ks)) ≡ operand_sizings w o p (map (ker_sized w) ks)
operands_paired w (ker.Const v) p ks = refl
operands_paired w ker.NoCase p ks = refl
operands_paired w (ker.Item i) p ks = paired_more w ks (literal p i) (kind.Number ∷ [])
operands_paired w ker.Range p ks = paired_front w 2 ks
operands_paired w o p ks = paired_children w ks

-- ---- the node

kinds_there : (k : Ker) → (m : ℕ) × (length (kinds_in k) ≡ suc m)
kinds_there = by_nodes (λ k. (m : ℕ) × (length (kinds_in k) ≡ suc m)) (λ x h. (length (all_kinds (operand_kinds x.op (map kinds_in x.args))), ap length (kinds-roll x)))

children_typed : (ks : List Ker) → Typed (map kinds_in ks)
children_typed [] = tt
children_typed (k ∷ ks) = (kinds_there k, children_typed ks)

typed_take : (n : ℕ) (kss : List (List Kind)) → Typed kss → Typed (take n kss)
typed_take zero kss h = tt
typed_take (suc n) [] h = tt
typed_take (suc n) (ks ∷ kss) h = (h.0, typed_take n kss h.1)

typed_more : (kss : List (List Kind)) (k : Kind) → Typed kss → Typed (kss ++ (k ∷ []) ∷ [])
typed_more [] k h = ((0, refl), tt)
typed_more (ks ∷ kss) k h = (h.0, typed_more kss k h.1)

operands_typed : (o : KerOp) (ks : List Ker) → Typed (operand_kinds o (map kinds_in ks))
operands_typed (ker.Const v) ks = tt
operands_typed ker.NoCase ks = tt
operands_typed (ker.Item i) ks = typed_more (map kinds_in ks) kind.Number (children_typed ks)
operands_typed ker.Range ks = typed_take 2 (map kinds_in ks) (children_typed ks)
operands_typed o ks = children_typed ks

abbrev pub ker_parts : Ker-F Ker → List Bool
ker_parts x = map (λ e. is_part x.place (names_of x.binds) e) (operands x.op x.place (map as_expr x.args))

abbrev pub first_kinds : Ker-F Ker → List Kind
first_kinds x = firsts (operand_kinds x.op (map kinds_in x.args))

abbrev pub node_sizing : ℕ → Ker-F Ker → Sizing
node_sizing w x g =
    sized_node w x.place (op_of x.op) (names_of x.binds) (ker_parts x) (kind_or_truth (kind_of x.ty)) (first_kinds x)
    (operand_sizings w x.op x.place (map (ker_sized w) x.args)) g

every_size : (w : ℕ) (ks : List Ker) → Each (λ k. (tree_sized w (as_expr k)).size ≡ length (kinds_in k)) ks
every_size w [] = tt
every_size w (k ∷ ks) = (ker_size w k, every_size w ks)

pub ker_sized-roll : (w : ℕ) (x : Ker-F Ker) → ker_sized w (roll-Ker x) ≡ node_sizing w x
ker_sized-roll w x =
    let es : List Expr = operands x.op x.place (map as_expr x.args) in
    let kss : List (List Kind) = operand_kinds x.op (map kinds_in x.args) in
    let sizes : Sizes w es kss = operand_sizes w x.op x.place (map as_expr x.args) (map kinds_in x.args) (each_size w x.args (every_size w x.args)) in
    let node : List Kind → List Sizing → Sizing = λ ks zs. sized_node w x.place (op_of x.op) (names_of x.binds) (ker_parts x) (kind_or_truth (kind_of x.ty)) ks zs in
    ap₂ (λ (e : Expr) (ks : List Kind). (tree_sized w e).sizing ks) (as_expr-roll x) (kinds-roll x)
    ∙ ap (λ (a : SizedTree). a.sizing (kind_or_truth (kind_of x.ty) ∷ all_kinds kss)) (tree-roll w (expr_node x))
    ∙ ap₂ node (kinds_apart w es kss sizes (operands_typed x.op x.args)) (sizings_apart w es kss sizes ∙ operands_paired w x.op x.place x.args)

-- the type of a tree
pub first_of_kinds : (x : Ker-F Ker) → first_kind (kinds_in (roll-Ker x)) ≡ kind_or_truth (kind_of x.ty)
first_of_kinds x = ap first_kind (kinds-roll x)

pub ker-shape-roll : (w : ℕ) (x : Ker-F Ker) (g : Extent) → (ker_sized w (roll-Ker x) g).shape ≡ (node_sizing w x g).shape
ker-shape-roll w x g = ap (λ (z : Sizing). (z g).shape) (ker_sized-roll w x)

pub ker-counts-roll : (w : ℕ) (x : Ker-F Ker) (g : Extent) (q : Position) → (ker_sized w (roll-Ker x) g).counts q ≡ (node_sizing w x g).counts q
ker-counts-roll w x g q = ap (λ (z : Sizing). (z g).counts q) (ker_sized-roll w x)

pub ker-literal-roll : (w : ℕ) (x : Ker-F Ker) (g : Extent) → (ker_sized w (roll-Ker x) g).literal ≡ (node_sizing w x g).literal
ker-literal-roll w x g = ap (λ (z : Sizing). (z g).literal) (ker_sized-roll w x)

pub ker-beyond-roll : (w : ℕ) (x : Ker-F Ker) (g : Extent) → (ker_sized w (roll-Ker x) g).beyond ≡ (node_sizing w x g).beyond
ker-beyond-roll w x g = ap (λ (z : Sizing). (z g).beyond) (ker_sized-roll w x)
