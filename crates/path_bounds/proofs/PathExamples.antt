-- The bounds of ranges along small paths, by computing: at 32 bits.
use Rattle.std.proofs.Common.{◌≡◌, ℕ, true, false, List, [], ◌∷◌, map, drop, pos, None}
use Rattle.tla_values.specs.Order.{Layer}
use Rattle.tla_values.specs.declared.value.Value.{Value}
use Rattle.tla_values.specs.declared.value.Value.TheVariants as value
use Rattle.tla_values.specs.declared.value.Value.TheOpen as layer
use Rattle.snowcat_rows.specs.declared.types.Ty.{Ty}
use Rattle.kernel_trees.specs.declared.kernel.Ker.{Ker, roll-Ker, out-Ker, out-roll-Ker}
use Rattle.kernel_trees.specs.declared.kernel.KerOp.{KerOp}
use Rattle.kernel_trees.specs.declared.kernel.KerOp.TheVariants as ker
use Rattle.kernel_trees.specs.declared.path.AssignedStep.{AssignedStep}
use Rattle.kernel_trees.specs.declared.path.AssignedStep.TheVariants as mark
use Rattle.kernel_trees.specs.Assignments.{read_by}
use Rattle.kernel_trees.specs.Sound.{literal_of}
use Rattle.kernel_shapes.specs.Levels.{in_next, in_state}
use Rattle.kernel_shapes.specs.Sized.{Extent}
use Rattle.kernel_shapes.proofs.KernelNodes.{ker-shape-roll}
use Rattle.tree_bounds.proofs.SameExpressions.{bounds-roll}
use Rattle.path_bounds.specs.BoundedPaths.{bounded_steps}

-- two names, neither of which has a shape
abbrev nothing : Extent
nothing = record { now = None ∷ None ∷ []; next = None ∷ None ∷ []; bound = [] }

module _ (t : Ty) where
  abbrev tree : ℕ → KerOp → List Ker → Ker
  tree n o ks = roll-Ker (record { place = record { file = 0; line = 1; col = n }; ty = t; op = o; args = ks; binds = [] })

  abbrev number : ℕ → Ker
  number n = tree n (ker.Const (value.Int (pos n))) []

  abbrev range : Ker → Ker → Ker
  range x y = tree 9 ker.Range (x ∷ y ∷ [])

  abbrev bounds_in : List AssignedStep → List (List (Layer Value))
  bounds_in zs = map (λ z. of_trees (read_by z)) zs
    where
      of_trees : List Ker → List (Layer Value)
      of_trees [] = []
      of_trees (k ∷ ks) = map (λ j. literal_of (out-Ker j).op) (drop 2 (out-Ker k).args)

  abbrev two : ℕ → ℕ → List (Layer Value)
  two m n = layer.Int (pos m) ∷ layer.Int (pos n) ∷ []

  -- x0' \in 2..4, and then x1' \in x0'..7
  after_a_member :
      bounds_in (bounded_steps 32 in_next
      (mark.Among 0 (range (number 2) (number 4)) ∷ mark.Among 1 (range (tree 5 (ker.Name 0 true) []) (number 7)) ∷ []) nothing)
      ≡ two 2 4 ∷ two 2 7 ∷ []
  after_a_member = simp (bounds-roll, ker-shape-roll, out-roll-Ker, value.outs-Int)

  -- \E i \in 3..6, and then x0' \in i..9
  after_a_pick :
      bounds_in (bounded_steps 32 in_next
      (mark.Pick ((5, range (number 3) (number 6)) ∷ []) ∷ mark.Among 0 (range (tree 5 (ker.Bound 5) []) (number 9)) ∷ []) nothing)
      ≡ two 3 6 ∷ two 3 9 ∷ []
  after_a_pick = simp (bounds-roll, ker-shape-roll, out-roll-Ker, value.outs-Int)

  -- a name that is assigned no value has no shape
  after_nothing :
      bounds_in (bounded_steps 32 in_next
      (mark.Equals 0 (tree 4 ker.NoCase []) ∷ mark.Among 1 (range (tree 5 (ker.Name 0 true) []) (number 9)) ∷ []) nothing)
      ≡ [] ∷ two 0 0 ∷ []
  after_nothing = simp (bounds-roll, ker-shape-roll, out-roll-Ker, value.outs-Int)

  -- in Init an assigned name has its shape in the state, too
  in_init :
      bounds_in (bounded_steps 32 in_state
      (mark.Equals 0 (number 3) ∷ mark.Among 1 (range (tree 5 (ker.Name 0 false) []) (number 8)) ∷ []) nothing)
      ≡ [] ∷ two 3 8 ∷ []
  in_init = simp (bounds-roll, ker-shape-roll, out-roll-Ker, value.outs-Int)
