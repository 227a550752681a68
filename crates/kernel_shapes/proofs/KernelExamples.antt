-- Shapes and numbers of small kernel trees, by computing: at 32 bits.
use Rattle.std.proofs.Common.{◌≡◌, ℕ, false, List, [], ◌∷◌, pos}
use Rattle.tla_values.specs.declared.value.Value.TheVariants as value
use Rattle.tla_meaning.specs.declared.expr.Expr.{out-roll-Expr}
use Rattle.snowcat_rows.specs.declared.types.Ty.{Ty}
use Rattle.kernel_trees.specs.declared.kernel.Ker.{Ker, roll-Ker}
use Rattle.kernel_trees.specs.declared.kernel.KerOp.{KerOp}
use Rattle.kernel_trees.specs.declared.kernel.KerOp.TheVariants as ker
use Rattle.kernel_trees.proofs.Trees.{as_expr-roll}
use Rattle.kernel_shapes.specs.Shape.{Shape, Atom, Set, Fun, Rec, Tup, shapes}
use Rattle.kernel_shapes.specs.Counts.{Count}
use Rattle.kernel_shapes.specs.Kernel.{ker_sized, ker_shape}
use Rattle.kernel_shapes.specs.Sized.{Position, walked, picked_from}
use Rattle.kernel_shapes.proofs.ExampleTrees.{at, from_to, a, given, members}
use Rattle.kernel_shapes.proofs.KernelNodes.{ker-shape-roll, ker-counts-roll, ker-literal-roll, ker-beyond-roll}
use Rattle.kernel_shapes.proofs.TreeLemmas.{literal-roll}

module _ (t : Ty) where
  abbrev tree : ℕ → KerOp → List Ker → Ker
  tree n o ks = roll-Ker (record { place = at n; ty = t; op = o; args = ks; binds = [] })

  abbrev binding : ℕ → KerOp → List ℕ → List Ker → Ker
  binding n o xs ks = roll-Ker (record { place = at n; ty = t; op = o; args = ks; binds = xs })

  abbrev number : ℕ → ℕ → Ker
  number c n = tree c (ker.Const (value.Int (pos n))) []

  abbrev text : ℕ → List ℕ → Ker
  text c x = tree c (ker.Const (value.Text x)) []

  -- the declared name of a number, at the column of that number
  abbrev name : ℕ → Ker
  name i = tree i (ker.Name i false) []

  abbrev counts_in : Position → Ker → List Shape → List Count
  counts_in q k as' = (ker_sized 32 k (given as')).counts q

  -- an item by its number, an IF with a NoCase, a range with its bounds
  item : ker_shape 32 (tree 9 (ker.Item 2) (name 0 ∷ [])) (given (Tup (shapes (Atom ∷ from_to 1 3 ∷ [])) ∷ [])) ≡ from_to 1 3
  item = simp (ker-shape-roll, literal-roll)

  no_case : ker_shape 32 (tree 9 ker.If (name 0 ∷ name 1 ∷ tree 8 ker.NoCase [] ∷ [])) (given (Atom ∷ from_to 2 4 ∷ [])) ≡ from_to 2 4
  no_case = simp (ker-shape-roll)

  range : ker_shape 32 (tree 9 ker.Range (name 0 ∷ name 1 ∷ number 3 7 ∷ number 4 8 ∷ [])) (given (from_to 2 4 ∷ from_to 3 9 ∷ [])) ≡ Set 8 (from_to 2 9)
  range = simp (ker-shape-roll)

  -- the subsets of a set of 17 members, walked and picked from
  subsets : counts_in walked (tree 17 ker.Subsets (name 0 ∷ [])) (Set 17 Atom ∷ []) ≡ members 17 131072 ∷ members 0 17 ∷ []
  subsets = simp (ker-shape-roll, ker-counts-roll)

  picked : counts_in picked_from (tree 17 ker.Subsets (name 0 ∷ [])) (Set 17 Atom ∷ []) ≡ members 0 17 ∷ []
  picked = simp (ker-counts-roll)

  -- [f EXCEPT ![1] = 7] of a function on 1..3
  updated : ker_shape 32 (binding 9 ker.Update (5 ∷ []) (name 0 ∷ number 12 1 ∷ number 17 7 ∷ [])) (given (Fun 3 (from_to 1 3) (from_to 0 2) ∷ [])) ≡ Fun 3 (from_to 1 3) (from_to 0 7)
  updated = simp (ker-shape-roll, ker-literal-roll, value.outs-Int)

  -- [x EXCEPT !.a[1] = 5] of a record with a function of 70000 arguments has no number, with its path in parts at one place
  abbrev in_parts : Ker
  in_parts = binding 9 ker.Update (5 ∷ []) (name 0 ∷ text 14 a ∷ binding 9 ker.Update (6 ∷ []) (tree 30 (ker.Bound 5) [] ∷ number 16 1 ∷ number 20 5 ∷ []) ∷ [])

  along_a_path : counts_in walked in_parts (Rec (a ∷ []) (shapes (Fun 70000 (from_to 1 70000) (from_to 0 0) ∷ [])) ∷ []) ≡ []
  along_a_path = simp (as_expr-roll, out-roll-Expr, ker-shape-roll, ker-counts-roll, ker-literal-roll, ker-beyond-roll, value.outs-Int, value.outs-Text)
