-- A kernel tree whose ranges carry the ends of their numbers as two further children. Source: Konnov, Kukovec and Tran,
-- "TLA+ Model Checking Made Symbolic", OOPSLA 2019, on the static bounds of cells and arenas.
use Rattle.std.specs.Prelude.{ℕ, zero, suc, Bool, true, false, List, [], ◌∷◌, map, take, length, flat_map, ℤ, pos}
use Rattle.tla_values.specs.declared.value.Value.TheVariants as value
use Rattle.tla_meaning.specs.declared.place.Place.{Place}
use Rattle.tla_meaning.specs.Meaning.{role}
use Rattle.snowcat_rows.specs.declared.types.Ty.{Int as int_ty}
use Rattle.kernel_trees.specs.declared.kernel.Ker.{Ker, roll-Ker}
use Rattle.kernel_trees.specs.declared.kernel.Ker.TheOpen.{Ker-F}
use Rattle.kernel_trees.specs.declared.kernel.KerOp.{KerOp}
use Rattle.kernel_trees.specs.declared.kernel.KerOp.TheVariants as ker
use Rattle.kernel_trees.specs.Paths.{tree_of}
use Rattle.kernel_trees.specs.Trees.{names_of, op_of, recur}
use Rattle.kernel_shapes.specs.Shape.{Shape, Num, Set, count, inside, join_all}
use Rattle.kernel_shapes.specs.Rows.{insides, shape_at}
use Rattle.kernel_shapes.specs.Sized.{Extent, bind_shapes}
use Rattle.kernel_shapes.specs.Trees.{marks_of}
use Rattle.kernel_shapes.specs.Kernel.{ker_shape, ker_sized}

-- the ends of a range's numbers; 0 and 0 where its shape has none
abbrev pub low_end : Shape → ℤ
low_end (Set n (Num a b)) = a
low_end a = pos 0

abbrev pub high_end : Shape → ℤ
high_end (Set n (Num a b)) = b
high_end a = pos 0

abbrev pub constant : Place → ℤ → Ker
constant p n = roll-Ker (record { place = p; ty = int_ty; op = ker.Const (value.Int n); args = []; binds = [] })

abbrev pub ends : Place → Shape → List Ker
ends p a = constant p (low_end a) ∷ constant p (high_end a) ∷ []

-- ---- in which extents what stands under bound numbers is evaluated

-- one for each step of a fold: `a` is the shape of the value so far, `b` that of the items
abbrev pub step_extents : ℕ → List ℕ → Ker → Shape → ℕ → Shape → Extent → List Extent
step_extents w xs e b zero a g = []
step_extents w xs e b (suc n) a g =
    let h : Extent = bind_shapes (names_of xs) (a ∷ b ∷ []) g in h ∷ step_extents w xs e b n (ker_shape w e h) g

abbrev pub extents_under : ℕ → KerOp → List ℕ → List Ker → Extent → List Extent
extents_under w ker.Update xs (f ∷ i ∷ ks) g =
    bind_shapes (names_of xs) (shape_at (ker_shape w f g) ((ker_sized w i g).literal ∷ []) ∷ []) g ∷ []
extents_under w ker.FoldLeft xs (e ∷ f ∷ q ∷ []) g =
    step_extents w xs e (inside (ker_shape w q g)) (count (ker_shape w q g)) (ker_shape w f g) g
extents_under w o xs ks g =
    bind_shapes (names_of xs) (insides (map (λ k. ker_shape w k g) (take (length xs) ks))) g ∷ []

-- ---- a tree, by all extents in which it is evaluated

abbrev pub Bounding : Type 0
Bounding = List Extent → Ker

-- the children, of which some stand under the bound numbers
abbrev pub bounded_each : List Bool → List Extent → List Extent → List (Ker × Bounding) → List Ker
bounded_each ms gs hs [] = []
bounded_each [] gs hs (k ∷ ks) = k.1 gs ∷ bounded_each [] gs hs ks
bounded_each (true ∷ ms) gs hs (k ∷ ks) = k.1 hs ∷ bounded_each ms gs hs ks
bounded_each (false ∷ ms) gs hs (k ∷ ks) = k.1 gs ∷ bounded_each ms gs hs ks

-- a range has its two ends, and the bounds of its numbers over all extents
abbrev pub with_ends : KerOp → Place → Shape → List Ker → List Ker
with_ends ker.Range p a (x ∷ y ∷ ks) = x ∷ y ∷ ends p a
with_ends o p a ks = ks

abbrev pub bounded_node : ℕ → Ker-F (Ker × Bounding) → Bounding
bounded_node w x gs =
    let trees : List Ker = map (λ k. k.0) x.args in
    let marks : List Bool = marks_of (role (op_of x.op) (length x.binds)) in
    let under : List Extent = flat_map (extents_under w x.op x.binds trees) gs in
    let shape : Shape = join_all (map (ker_shape w (tree_of x)) gs) in
    roll-Ker (record {
      place = x.place;
      ty = x.ty;
      op = x.op;
      args = with_ends x.op x.place shape (bounded_each marks gs under x.args);
      binds = x.binds;
    })

-- the tree, changed in its ranges alone
abbrev pub with_bounds : ℕ → Ker → Bounding
with_bounds w = recur (bounded_node w)
