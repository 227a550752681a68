-- A tree with bounds reads the names that the tree reads, and what is computed of it is what is computed of the tree.
use Rattle.std.proofs.Common.{◌≡◌, ℕ, List, [], ◌∷◌, map, refl, sym, ◌∙◌, ap, ap₂}
use Rattle.tla_meaning.specs.declared.place.Place.{Place}
use Rattle.kernel_trees.specs.declared.kernel.Ker.{Ker}
use Rattle.kernel_trees.specs.declared.kernel.KerOp.{KerOp}
use Rattle.kernel_trees.specs.declared.kernel.KerOp.TheVariants as ker
use Rattle.kernel_trees.specs.Paths.{Marks, mentions, mentions_at}
use Rattle.kernel_trees.specs.TypeKinds.{kind_of}
use Rattle.kernel_trees.proofs.Trees.{by_nodes, mentions-roll}
use Rattle.kernel_shapes.specs.Kernel.{all_kinds, kind_or_truth, kinds_in, operand_kinds}
use Rattle.kernel_shapes.specs.Shape.{Shape}
use Rattle.kernel_shapes.specs.Sized.{Extent}
use Rattle.kernel_shapes.specs.Trees.{tree_sized}
use Rattle.kernel_shapes.proofs.KernelLaw.{kinds-roll}
use Rattle.tree_bounds.specs.Bounded.{with_ends}
use Rattle.tree_bounds.specs.Laws.{SameNames, SameShape}
use Rattle.tree_bounds.proofs.SameExpressions.{Stays, bounds_node, each_stays, same_expressions}

-- ---- names

-- a range's bounds are passed over
names_at : (m : Marks) (o : KerOp) (p : Place) (a : Shape) (ks : List Ker) →
    mentions_at m o (map (mentions m) (with_ends o p a ks)) ≡ mentions_at m o (map (mentions m) ks)
names_at m ker.Range p a [] = refl
names_at m ker.Range p a (x ∷ []) = refl
names_at m ker.Range p a (x ∷ y ∷ ks) = refl
names_at m o p a ks = refl

pub same_names : (n : ℕ) (k : Ker) (gs : List Extent) (m : Marks) → SameNames n k gs m
same_names n k gs m = by k gs
  where
    by : (k : Ker) → Stays n (mentions m) k
    by = by_nodes (Stays n (mentions m)) (λ x h gs.
        ap (mentions m) (bounds_node n x gs)
        ∙ mentions-roll m _
        ∙ names_at m x.op x.place _ _
        ∙ ap (mentions_at m x.op) (each_stays n (mentions m) _ gs _ x.args h)
        ∙ sym (mentions-roll m x))

-- ---- types and shapes

-- its bounds are no operands of a range
kinds_at : (o : KerOp) (p : Place) (a : Shape) (ks : List Ker) →
    operand_kinds o (map kinds_in (with_ends o p a ks)) ≡ operand_kinds o (map kinds_in ks)
kinds_at ker.Range p a [] = refl
kinds_at ker.Range p a (x ∷ []) = refl
kinds_at ker.Range p a (x ∷ y ∷ ks) = refl
kinds_at o p a ks = refl

pub same_kinds : (n : ℕ) (k : Ker) → Stays n kinds_in k
same_kinds n = by_nodes (Stays n kinds_in) (λ x h gs.
    ap kinds_in (bounds_node n x gs)
    ∙ kinds-roll _
    ∙ ap (λ kss. kind_or_truth (kind_of x.ty) ∷ all_kinds kss) (kinds_at x.op x.place _ _)
    ∙ ap (λ kss. kind_or_truth (kind_of x.ty) ∷ all_kinds (operand_kinds x.op kss))
    (each_stays n kinds_in _ gs _ x.args h)
    ∙ sym (kinds-roll x))

pub same_shapes : (n : ℕ) (k : Ker) (gs : List Extent) (w : ℕ) → SameShape n k gs w
same_shapes n k gs w = ap₂ (λ e ks. (tree_sized w e).sizing ks) (same_expressions n k gs) (same_kinds n k gs)
