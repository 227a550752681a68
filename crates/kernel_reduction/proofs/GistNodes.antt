-- The gist of a typed tree's node and of a kernel node, by those of its children.
use Rattle.std.proofs.Common.{◌≡◌, ℕ, zero, suc, ◌+◌, Bool, true, false, List, [], ◌∷◌, ◌++◌, map, take, drop, length, Option, None, pos, refl, sym, ◌∙◌, ap, ap₂}
use Rattle.std.specs.Prelude.{sum}
use Rattle.std.proofs.lemmas.List.Sums.{sum-map, sum_by-cons}
use Rattle.tla_meaning.specs.declared.expr.Expr.{Expr, roll-Expr}
use Rattle.tla_meaning.specs.declared.expr.Expr.TheOpen.{Expr-F}
use Rattle.tla_meaning.specs.declared.op.Op.{Op}
use Rattle.tla_meaning.specs.declared.op.Op.TheVariants as op
use Rattle.tla_meaning.specs.declared.place.Place.{Place}
use Rattle.tla_meaning.specs.Meaning.{role}
use Rattle.tla_meaning.proofs.Views.{false≢true}
use Rattle.kernel_trees.specs.declared.kernel.Ker.{Ker, roll-Ker}
use Rattle.kernel_trees.specs.declared.kernel.Ker.TheOpen.{Ker-F}
use Rattle.kernel_trees.specs.declared.kernel.KerOp.{KerOp}
use Rattle.kernel_trees.specs.declared.kernel.KerOp.TheVariants as ker
use Rattle.kernel_trees.specs.Trees.{op_of, names_of}
use Rattle.kernel_trees.specs.TypeKinds as kind
use Rattle.kernel_trees.specs.TypeKinds.{Kind, kind_of}
use Rattle.kernel_shapes.specs.Shape.{Shape, interval}
use Rattle.kernel_shapes.specs.Rows.{Literal, number}
use Rattle.kernel_shapes.specs.Sized.{Extent, Sizing, seen, outside, underneath, bind_shapes}
use Rattle.kernel_shapes.specs.Trees.{SizedTree, family_of, family_with, read_shape, marks_of, sized_node, sizings, kinds_of, first_kind, tree_sized, tree_sizes, is_except}
use Rattle.kernel_shapes.specs.Kernel.{kind_or_truth, ker_sized}
use Rattle.kernel_shapes.proofs.KernelNodes.{ker_parts, first_kinds, literal_sizing, operand_sizings, ker_sized-roll}
use Rattle.kernel_shapes.proofs.TreeLemmas.{parts_of, tree-roll, size-roll}
use Rattle.kernel_reduction.specs.JobPaths.{nodes}
use Rattle.kernel_reduction.proofs.JobTrees.{Each, by_nodes, nodes-roll}
use Rattle.kernel_reduction.proofs.Gists.{Gist, gist, gists, gist_at, gist_child, no_gist, View, view_of, node_gist, sized_gist, NoParts, IsWhole}

-- ---- what a node reads

abbrev pub Gists : Type 0
Gists = List (Extent → Gist)

abbrev pub gist_outside : List Bool → Gists → Extent → List Gist
gist_outside ms [] g = []
gist_outside [] (z ∷ zs) g = z g ∷ gist_outside [] zs g
gist_outside (true ∷ ms) (z ∷ zs) g = no_gist ∷ gist_outside ms zs g
gist_outside (false ∷ ms) (z ∷ zs) g = z g ∷ gist_outside ms zs g

abbrev pub gist_under : List Bool → Gists → Extent → List Gist
gist_under ms [] g = []
gist_under [] (z ∷ zs) g = no_gist ∷ gist_under [] zs g
gist_under (true ∷ ms) (z ∷ zs) g = z g ∷ gist_under ms zs g
gist_under (false ∷ ms) (z ∷ zs) g = no_gist ∷ gist_under ms zs g

abbrev pub view_at : (Extent → Option Shape) → List Bool → List (List ℕ) → Gists → Extent → View
view_at read ms xs zs g = record {
  here = gist_outside ms zs g;
  under = λ as'. gist_under ms zs (bind_shapes xs as' g);
  name = read g;
}

abbrev pub of_sizing : Sizing → Extent → Gist
of_sizing z g = gist (z g)

outside_gists : (ms : List Bool) (zs : List Sizing) (g : Extent) → gists (outside ms zs g) ≡ gist_outside ms (map of_sizing zs) g
outside_gists ms [] g = refl
outside_gists [] (z ∷ zs) g = ap (λ (l : List Gist). gist (z g) ∷ l) (outside_gists [] zs g)
outside_gists (true ∷ ms) (z ∷ zs) g = ap (λ (l : List Gist). no_gist ∷ l) (outside_gists ms zs g)
outside_gists (false ∷ ms) (z ∷ zs) g = ap (λ (l : List Gist). gist (z g) ∷ l) (outside_gists ms zs g)

under_gists : (ms : List Bool) (zs : List Sizing) (g : Extent) → gists (underneath ms zs g) ≡ gist_under ms (map of_sizing zs) g
under_gists ms [] g = refl
under_gists [] (z ∷ zs) g = ap (λ (l : List Gist). no_gist ∷ l) (under_gists [] zs g)
under_gists (true ∷ ms) (z ∷ zs) g = ap (λ (l : List Gist). gist (z g) ∷ l) (under_gists ms zs g)
under_gists (false ∷ ms) (z ∷ zs) g = ap (λ (l : List Gist). no_gist ∷ l) (under_gists ms zs g)

view_gists : (read : Extent → Option Shape) (ms : List Bool) (xs : List (List ℕ)) (zs : List Sizing) (g : Extent) →
    view_of (seen read ms xs zs g) ≡ view_at read ms xs (map of_sizing zs) g
view_gists read ms xs zs g = λ i. record {
  here = outside_gists ms zs g i;
  under = λ as'. under_gists ms zs (bind_shapes xs as' g) i;
  name = read g;
}

-- ---- a node

abbrev pub view_of_node : Op → List (List ℕ) → Gists → Extent → View
view_of_node o xs zs g = view_at (read_shape o) (marks_of (role o (length xs))) xs zs g

abbrev pub node_at : ℕ → Place → Op → List (List ℕ) → List Bool → Kind → List Kind → Gists → Extent → Gist
node_at w p o xs ps k ks zs g =
    let v : View = view_of_node o xs zs g in
    node_gist w p (family_with o (length xs) k ks (gist_at 1 v.here).literal ps) v

-- no right side of an EXCEPT is a part
abbrev pub Whole : Op → List Bool → Type 0
Whole o ps = is_except o ≡ true → NoParts (drop 1 ps)

of_whole : (o : Op) (k : Kind) (ks : List Kind) (l : Literal) (ps : List Bool) → Whole o ps → IsWhole (family_of o k ks l ps)
of_whole (op.Except ns) k ks l ps h = h refl
of_whole (op.Bool b) k ks l ps h = tt
of_whole o k ks l ps h = tt

with_whole : (o : Op) (n : ℕ) (k : Kind) (ks : List Kind) (l : Literal) (ps : List Bool) → Whole o ps → IsWhole (family_with o n k ks l ps)
with_whole op.Exists n k ks l ps h = tt
with_whole op.Forall n k ks l ps h = tt
with_whole op.Filter n k ks l ps h = tt
with_whole op.MapTo n k ks l ps h = tt
with_whole op.Lambda n k ks l ps h = tt
with_whole o n k ks l ps h = of_whole o k ks l ps h

pub sized_node_gist : (w : ℕ) (p : Place) (o : Op) (xs : List (List ℕ)) (ps : List Bool) (k : Kind) (ks : List Kind) (zs : List Sizing) (g : Extent) → Whole o ps →
    gist (sized_node w p o xs ps k ks zs g) ≡ node_at w p o xs ps k ks (map of_sizing zs) g
sized_node_gist w p o xs ps k ks zs g h =
    let ms : List Bool = marks_of (role o (length xs)) in
    sized_gist w p (family_with o (length xs) k ks _ ps) (seen (read_shape o) ms xs zs g) (with_whole o (length xs) k ks _ ps h)
    ∙ ap (λ (b : Gist). node_gist w p (family_with o (length xs) k ks b.literal ps) (view_of (seen (read_shape o) ms xs zs g))) (sym (gist_child 1 (outside ms zs g)))
    ∙ ap (λ (v : View). node_gist w p (family_with o (length xs) k ks (gist_at 1 v.here).literal ps) v) (view_gists (read_shape o) ms xs zs g)

-- ---- a typed tree

abbrev pub job_gist : ℕ → Expr → List Kind → Extent → Gist
job_gist w e ks g = gist ((tree_sized w e).sizing ks g)

-- trees beside each other, from the types that stand behind their parent's own
abbrev pub job_gists : ℕ → List Expr → List Kind → Gists
job_gists w [] ks = []
job_gists w (e ∷ es) ks = job_gist w e (take (nodes e) ks) ∷ job_gists w es (drop (nodes e) ks)

abbrev pub job_kinds : List Expr → List Kind → List Kind
job_kinds [] ks = []
job_kinds (e ∷ es) ks = first_kind ks ∷ job_kinds es (drop (nodes e) ks)

sizes_sum : (w : ℕ) (es : List Expr) → Each (λ e. (tree_sized w e).size ≡ nodes e) es → tree_sizes (map (tree_sized w) es) ≡ sum (map nodes es)
sizes_sum w [] h = refl
sizes_sum w (e ∷ es) h =
    ap₂ (λ (m n : ℕ). m + n) h.0 (sizes_sum w es h.1 ∙ sum-map nodes es) ∙ sym (sum-map nodes (e ∷ es) ∙ sum_by-cons nodes e es)

size_is : (w : ℕ) (e : Expr) → (tree_sized w e).size ≡ nodes e
size_is w = by_nodes (λ e. (tree_sized w e).size ≡ nodes e) (λ x h. size-roll w x ∙ ap suc (sizes_sum w x.args h) ∙ sym (nodes-roll x))

sizings_gists : (w : ℕ) (es : List Expr) (ks : List Kind) → map of_sizing (sizings (map (tree_sized w) es) ks) ≡ job_gists w es ks
sizings_gists w [] ks = refl
sizings_gists w (e ∷ es) ks =
    ap (λ (n : ℕ). of_sizing ((tree_sized w e).sizing (take n ks)) ∷ map of_sizing (sizings (map (tree_sized w) es) (drop n ks))) (size_is w e)
    ∙ ap (λ (l : Gists). job_gist w e (take (nodes e) ks) ∷ l) (sizings_gists w es (drop (nodes e) ks))

kinds_are : (w : ℕ) (es : List Expr) (ks : List Kind) → kinds_of (map (tree_sized w) es) ks ≡ job_kinds es ks
kinds_are w [] ks = refl
kinds_are w (e ∷ es) ks =
    ap (λ (n : ℕ). first_kind ks ∷ kinds_of (map (tree_sized w) es) (drop n ks)) (size_is w e)
    ∙ ap (λ (l : List Kind). first_kind ks ∷ l) (kinds_are w es (drop (nodes e) ks))

pub job_node : (w : ℕ) (x : Expr-F Expr) (ks : List Kind) (g : Extent) → Whole x.op (parts_of x) →
    job_gist w (roll-Expr x) ks g ≡ node_at w x.place x.op x.binds (parts_of x) (first_kind ks) (job_kinds x.args (drop 1 ks)) (job_gists w x.args (drop 1 ks)) g
job_node w x ks g h =
    ap (λ (a : SizedTree). gist (a.sizing ks g)) (tree-roll w x)
    ∙ sized_node_gist w x.place x.op x.binds (parts_of x) (first_kind ks) (kinds_of (map (tree_sized w) x.args) (drop 1 ks)) (sizings (map (tree_sized w) x.args) (drop 1 ks)) g h
    ∙ ap₂ (λ (l : List Kind) (zs : Gists). node_at w x.place x.op x.binds (parts_of x) (first_kind ks) l zs g) (kinds_are w x.args (drop 1 ks)) (sizings_gists w x.args (drop 1 ks))

-- ---- a kernel tree

abbrev pub ker_gist : ℕ → Ker → Extent → Gist
ker_gist w k g = gist (ker_sized w k g)

abbrev pub ker_gists : ℕ → List Ker → Gists
ker_gists w ks = map (ker_gist w) ks

-- a number that is written out
abbrev pub literal_gist : ℕ → ℕ → Gist
literal_gist w i = record { shape = interval w (pos i) (pos i); literal = number (pos i); rank = λ q. None }

abbrev pub operand_gists : ℕ → KerOp → Gists → Gists
operand_gists w (ker.Const v) zs = []
operand_gists w ker.NoCase zs = []
operand_gists w (ker.Item i) zs = zs ++ (λ g. literal_gist w i) ∷ []
operand_gists w ker.Range zs = take 2 zs
operand_gists w o zs = zs

literal_is : (w : ℕ) (p : Place) (i : ℕ) → of_sizing (literal_sizing w p i) ≡ (λ g. literal_gist w i)
literal_is w p i = λ j. λ g. ap (λ (a : SizedTree). gist (a.sizing (kind.Number ∷ []) g)) (tree-roll w (record { place = p; op = op.Int (pos i); args = []; binds = [] })) j

all_sizings : (w : ℕ) (ks : List Ker) → map of_sizing (map (ker_sized w) ks) ≡ ker_gists w ks
all_sizings w [] = refl
all_sizings w (k ∷ ks) = ap (λ (l : Gists). ker_gist w k ∷ l) (all_sizings w ks)

more_gists : (w : ℕ) (zs : List Sizing) (z : Sizing) → map of_sizing (zs ++ z ∷ []) ≡ map of_sizing zs ++ of_sizing z ∷ []
more_gists w [] z = refl
more_gists w (y ∷ zs) z = ap (λ (l : Gists). of_sizing y ∷ l) (more_gists w zs z)

front_gists : (n : ℕ) (zs : List Sizing) → map of_sizing (take n zs) ≡ take n (map of_sizing zs)
front_gists zero zs = refl
front_gists (suc n) [] = refl
front_gists (suc n) (z ∷ zs) = ap (λ (l : Gists). of_sizing z ∷ l) (front_gists n zs)

operands_are : (w : ℕ) (o : KerOp) (p : Place) (zs : List Sizing) → map of_sizing (operand_sizings w o p zs) ≡ operand_gists w o (map of_sizing zs)
operands_are w (ker.Const v) p zs = refl
operands_are w ker.NoCase p zs = refl
operands_are w (ker.Item i) p zs = more_gists w zs (literal_sizing w p i) ∙ ap (λ (z : Extent → Gist). map of_sizing zs ++ z ∷ []) (literal_is w p i)
operands_are w ker.Range p zs = front_gists 2 zs
operands_are w o p zs = refl

pub ker_node : (w : ℕ) (x : Ker-F Ker) (g : Extent) → Whole (op_of x.op) (ker_parts x) →
    ker_gist w (roll-Ker x) g ≡ node_at w x.place (op_of x.op) (names_of x.binds) (ker_parts x) (kind_or_truth (kind_of x.ty)) (first_kinds x) (operand_gists w x.op (ker_gists w x.args)) g
ker_node w x g h =
    ap (λ (z : Sizing). gist (z g)) (ker_sized-roll w x)
    ∙ sized_node_gist w x.place (op_of x.op) (names_of x.binds) (ker_parts x) (kind_or_truth (kind_of x.ty)) (first_kinds x) (operand_sizings w x.op x.place (map (ker_sized w) x.args)) g h
    ∙ ap (λ (zs : Gists). node_at w x.place (op_of x.op) (names_of x.binds) (ker_parts x) (kind_or_truth (kind_of x.ty)) (first_kinds x) zs g)
    (operands_are w x.op x.place (map (ker_sized w) x.args) ∙ ap (operand_gists w x.op) (all_sizings w x.args))

-- any node that is no EXCEPT
pub whole : (o : Op) (ps : List Bool) → is_except o ≡ false → Whole o ps
whole o ps h g = absurd (false≢true (sym h ∙ g))
