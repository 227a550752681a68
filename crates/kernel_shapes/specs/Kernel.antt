-- Shapes of kernel trees: those of the expressions for which they stand, by the types of the kernel's nodes.
use Rattle.std.specs.Prelude.{ℕ, List, [], ◌∷◌, ◌++◌, take, Option, Some, None}
use Rattle.kernel_trees.specs.declared.kernel.Ker.{Ker}
use Rattle.kernel_trees.specs.declared.kernel.Ker.TheOpen.{Ker-F}
use Rattle.kernel_trees.specs.declared.kernel.Ker.TheFolds.{fold-Ker}
use Rattle.kernel_trees.specs.declared.kernel.KerOp.{KerOp}
use Rattle.kernel_trees.specs.declared.kernel.KerOp.TheVariants as ker
use Rattle.kernel_trees.specs.Trees.{as_expr}
use Rattle.kernel_trees.specs.TypeKinds as kind
use Rattle.kernel_trees.specs.TypeKinds.{Kind, kind_of}
use Rattle.kernel_shapes.specs.Shape.{Shape}
use Rattle.kernel_shapes.specs.Sized.{Extent, Sizing}
use Rattle.kernel_shapes.specs.Trees.{tree_sized}

-- the types of the operands of the expression for which a node stands, each list in preorder: an item has its number
-- as a literal, the bounds of a range are no operands, and a constant and no case have none
abbrev pub operand_kinds : KerOp → List (List Kind) → List (List Kind)
operand_kinds (ker.Const v) kss = []
operand_kinds ker.NoCase kss = []
operand_kinds (ker.Item i) kss = kss ++ (kind.Number ∷ []) ∷ []
operand_kinds ker.Range kss = take 2 kss
operand_kinds o kss = kss

-- a type without a kind stands in no sound tree
abbrev pub kind_or_truth : Option Kind → Kind
kind_or_truth (Some k) = k
kind_or_truth None = kind.Truth

abbrev pub all_kinds : List (List Kind) → List Kind
all_kinds [] = []
all_kinds (ks ∷ kss) = ks ++ all_kinds kss

abbrev pub node_kinds : Ker-F (List Kind) → List Kind
node_kinds x = kind_or_truth (kind_of x.ty) ∷ all_kinds (operand_kinds x.op x.args)

-- the types of the nodes of the expression for which a tree stands, in preorder
unfoldable pub kinds_in : Ker → List Kind
kinds_in = fold-Ker (List Kind) node_kinds

-- what is computed of a kernel tree
abbrev pub ker_sized : ℕ → Ker → Sizing
ker_sized w k = (tree_sized w (as_expr k)).sizing (kinds_in k)

abbrev pub ker_shape : ℕ → Ker → Extent → Shape
ker_shape w k g = (ker_sized w k g).shape
