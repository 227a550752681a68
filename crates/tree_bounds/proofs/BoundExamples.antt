-- The bounds of ranges in small trees, by computing: at 32 bits.
use Rattle.std.proofs.Common.{◌≡◌, ℕ, false, List, [], ◌∷◌, map, drop, pos}
use Rattle.tla_values.specs.Order.{Layer}
use Rattle.tla_values.specs.declared.value.Value.{Value}
use Rattle.tla_values.specs.declared.value.Value.TheVariants as value
use Rattle.tla_values.specs.declared.value.Value.TheOpen as layer
use Rattle.snowcat_rows.specs.declared.types.Ty.{Ty}
use Rattle.kernel_trees.specs.declared.kernel.Ker.{Ker, roll-Ker, out-Ker, out-roll-Ker}
use Rattle.kernel_trees.specs.declared.kernel.KerOp.{KerOp}
use Rattle.kernel_trees.specs.declared.kernel.KerOp.TheVariants as ker
use Rattle.kernel_trees.specs.Sound.{literal_of}
use Rattle.kernel_shapes.specs.Shape.{Set, Fun, Seq, Empty}
use Rattle.kernel_shapes.proofs.ExampleTrees.{from_to, given}
use Rattle.kernel_shapes.proofs.KernelNodes.{ker-shape-roll, ker-literal-roll}
use Rattle.tree_bounds.specs.Bounded.{with_bounds}
use Rattle.tree_bounds.proofs.SameExpressions.{bounds-roll}

module _ (t : Ty) where
  abbrev binding : ℕ → KerOp → List ℕ → List Ker → Ker
  binding n o xs ks =
      roll-Ker (record { place = record { file = 0; line = 1; col = n }; ty = t; op = o; args = ks; binds = xs })

  abbrev tree : ℕ → KerOp → List Ker → Ker
  tree n o ks = binding n o [] ks

  abbrev number : ℕ → Ker
  number n = tree n (ker.Const (value.Int (pos n))) []

  abbrev name : ℕ → Ker
  name i = tree i (ker.Name i false) []

  abbrev bound : ℕ → Ker
  bound n = tree n (ker.Bound n) []

  abbrev child : ℕ → Ker → Ker
  child i k = first (drop i (out-Ker k).args)
    where
      first : List Ker → Ker
      first [] = k
      first (x ∷ xs) = x

  abbrev bounds_in : Ker → List (Layer Value)
  bounds_in k = map (λ k. literal_of (out-Ker k).op) (drop 2 (out-Ker k).args)

  abbrev two : ℕ → ℕ → List (Layer Value)
  two m n = layer.Int (pos m) ∷ layer.Int (pos n) ∷ []

  -- from the least first end to the greatest second one
  of_names : bounds_in (with_bounds 32 (tree 9 ker.Range (name 0 ∷ name 1 ∷ []))
      (given (from_to 2 4 ∷ from_to 3 9 ∷ []) ∷ [])) ≡ two 2 9
  of_names = simp (bounds-roll, ker-shape-roll, out-roll-Ker, value.outs-Int)

  -- over two extents
  of_two : bounds_in (with_bounds 32 (tree 9 ker.Range (name 0 ∷ name 1 ∷ []))
      (given (from_to 2 4 ∷ from_to 3 5 ∷ []) ∷ given (from_to 3 4 ∷ from_to 6 9 ∷ []) ∷ [])) ≡ two 2 9
  of_two = simp (bounds-roll, ker-shape-roll, out-roll-Ker, value.outs-Int)

  -- a name without values
  of_empty : bounds_in (with_bounds 32 (tree 9 ker.Range (name 0 ∷ number 9 ∷ [])) (given (Empty ∷ []) ∷ [])) ≡ two 0 0
  of_empty = simp (bounds-roll, ker-shape-roll, out-roll-Ker, value.outs-Int)

  -- a range that has bounds gets others
  again : bounds_in (with_bounds 32 (tree 9 ker.Range (name 0 ∷ number 9 ∷ number 7 ∷ number 8 ∷ []))
      (given (from_to 2 4 ∷ []) ∷ [])) ≡ two 2 9
  again = simp (bounds-roll, ker-shape-roll, out-roll-Ker, value.outs-Int)

  -- \E i \in x0: i..7
  abbrev some_to_seven : Ker
  some_to_seven = binding 9 ker.Some (5 ∷ []) (name 0 ∷ tree 12 ker.Range (bound 5 ∷ number 7 ∷ []) ∷ [])

  in_a_body : bounds_in (child 1 (with_bounds 32 some_to_seven (given (Set 3 (from_to 4 6) ∷ []) ∷ []))) ≡ two 4 7
  in_a_body = simp (bounds-roll, ker-shape-roll, out-roll-Ker, value.outs-Int)

  -- [x0 EXCEPT ![1] = @..50], by the results of x0
  abbrev updated_to_fifty : Ker
  updated_to_fifty =
      binding 9 ker.Update (5 ∷ []) (name 0 ∷ number 1 ∷ tree 12 ker.Range (bound 5 ∷ number 50 ∷ []) ∷ [])

  in_a_right_side :
      bounds_in (child 2 (with_bounds 32 updated_to_fifty (given (Fun 2 (from_to 1 2) (from_to 30 40) ∷ []) ∷ [])))
      ≡ two 30 50
  in_a_right_side = simp (bounds-roll, ker-shape-roll, ker-literal-roll, out-roll-Ker, value.outs-Int)

  -- a fold over two items, whose steps give how many numbers there are from the value so far to 9
  abbrev counts_to_nine : Ker
  counts_to_nine =
      binding 9 ker.FoldLeft (5 ∷ 6 ∷ [])
      (tree 12 ker.Count (tree 14 ker.Range (bound 5 ∷ number 9 ∷ []) ∷ []) ∷ number 1 ∷ name 0 ∷ [])

  in_a_fold :
      bounds_in (child 0 (child 0 (with_bounds 32 counts_to_nine (given (Seq 2 (from_to 0 0) ∷ []) ∷ [])))) ≡ two 0 9
  in_a_fold = simp (bounds-roll, ker-shape-roll, out-roll-Ker, value.outs-Int)
