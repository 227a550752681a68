-- Small trees for examples.
use Rattle.std.proofs.Common.{ℕ, suc, true, false, List, [], ◌∷◌, map, pos, neg_ℤ, Some}
use Rattle.tla_meaning.specs.declared.expr.Expr.{Expr, roll-Expr}
use Rattle.tla_meaning.specs.declared.place.Place.{Place}
use Rattle.tla_meaning.specs.declared.op.Op.{Op}
use Rattle.tla_meaning.specs.declared.op.Op.TheVariants as op
use Rattle.kernel_trees.specs.TypeKinds.{Kind}
use Rattle.kernel_shapes.specs.Shape.{Shape, Num}
use Rattle.kernel_shapes.specs.Counts.{Count}
use Rattle.kernel_shapes.specs.Sized.{Extent, Position}
use Rattle.kernel_shapes.specs.Trees.{tree_sized, shape_of_tree}

abbrev pub at : ℕ → Place
at n = record { file = 0; line = 8; col = n }

abbrev pub leaf : ℕ → Op → Expr
leaf n o = roll-Expr (record { place = at n; op = o; args = []; binds = [] })

abbrev pub tree : ℕ → Op → List Expr → Expr
tree n o es = roll-Expr (record { place = at n; op = o; args = es; binds = [] })

abbrev pub binding : ℕ → Op → List (List ℕ) → List Expr → Expr
binding n o xs es = roll-Expr (record { place = at n; op = o; args = es; binds = xs })

-- a number that is written out
abbrev pub number : ℕ → ℕ → Expr
number c n = leaf c (op.Int (pos n))

-- a to b, and -a to b
abbrev pub from_to : ℕ → ℕ → Shape
from_to a b = Num (pos a) (pos b)

abbrev pub from_minus : ℕ → ℕ → Shape
from_minus a b = Num (neg_ℤ (pos a)) (pos b)

-- the declared name of a number, at the column of that number, and the texts "a", "b", "@"
abbrev pub name : ℕ → Expr
name i = leaf i (op.Name i false)

abbrev pub a : List ℕ
a = 97 ∷ []

abbrev pub b : List ℕ
b = 98 ∷ []

abbrev pub old : List ℕ
old = 64 ∷ []

-- where the declared names have these shapes
abbrev pub given : List Shape → Extent
given as' = record { now = map (λ x. Some x) as'; next = map (λ x. Some x) as'; bound = [] }

abbrev pub names : ℕ → List Shape → List Expr
names n [] = []
names n (x ∷ as') = name n ∷ names (suc n) as'

-- at 8 bits, of an operator whose operands are names of these shapes, where a tree and its operands have these types
abbrev pub of_types : List Kind → Op → List Shape → Shape
of_types ks o as' = shape_of_tree 8 (tree 9 o (names 0 as')) ks (given as')

-- where no type is read
abbrev pub shape : Op → List Shape → Shape
shape o as' = of_types [] o as'

-- of a whole tree
abbrev pub shape_in : Expr → List Shape → Shape
shape_in e as' = shape_of_tree 8 e [] (given as')

abbrev pub counts_in : Position → Expr → List Shape → List Count
counts_in q e as' = ((tree_sized 32 e).sizing [] (given as')).counts q

abbrev pub members : ℕ → ℕ → Count
members c n = record { place = at c; of_sequence = false; number = n }

abbrev pub places : ℕ → ℕ → Count
places c n = record { place = at c; of_sequence = true; number = n }
