-- Two records or tuples, part by part.
use Rattle.std.specs.Prelude.{◌≡◌, ℕ, ◌<◌, ◌≤◌, ◌⊎◌, Bool, true, false, ◌&&◌, List, [], ◌∷◌, All, map, take, length, slice_index_or}
use Rattle.std.specs.List.{list_all}
use Rattle.sat_formula.specs.declared.lit.Lit.{Lit}
use Rattle.sat_formula.specs.declared.cnf.Cnf.{Cnf}
use Rattle.sat_formula.specs.Lit.{lit_value, IsBelow}
use Rattle.sat_formula.specs.Formula.{Satisfies}
use Rattle.tla_values.specs.Order.{same_value}
use Rattle.tla_values.specs.declared.value.Value.{Value}
use Rattle.cell_arena.specs.declared.build.Build.{Build}
use Rattle.cell_arena.specs.declared.kinds.CellId.{CellId}
use Rattle.cell_arena.specs.declared.kinds.CellKind.{CellKind}
use Rattle.cell_arena.specs.Cells.{Cells, kind_at}
use Rattle.cell_arena.specs.Decode.{decode}
use Rattle.cell_merge.specs.Sorts.{OneType}
use Rattle.cell_merge.specs.Composites.{parts_of, IsComposite}
use Rattle.cell_merge.specs.Choices.{Chooses}

-- two records, or two tuples, of one sort
pub record CompositesOfOneType (ks : List CellKind) (x y : CellId) : Type 0 where
  pub types : OneType ks x y
  pub composite : IsComposite (kind_at ks x)

-- two cells of which each of the first n parts of the one has a sort that the other's has
pub record PartsOfOneType (ks : List CellKind) (x y : CellId) (n : ℕ) : Type 0 where
  pub x_there : x.index < length ks
  pub y_there : y.index < length ks
  pub left : n ≤ length (parts_of (kind_at ks x))
  pub right : n ≤ length (parts_of (kind_at ks y))
  pub each : (i : ℕ) (d : CellId) → i < n → OneType ks (slice_index_or (parts_of (kind_at ks x)) i d) (slice_index_or (parts_of (kind_at ks y)) i d)

-- so many parts both have, and one of the two has no more
pub record IsCommon (ks : List CellKind) (x y : CellId) (n : ℕ) : Type 0 where
  pub left : n ≤ length (parts_of (kind_at ks x))
  pub right : n ≤ length (parts_of (kind_at ks y))
  pub all : (length (parts_of (kind_at ks x)) ≤ n) ⊎ (length (parts_of (kind_at ks y)) ≤ n)

-- whether the items of two lists are the same ones in one order
abbrev pub each_same : List Value → List Value → Bool
each_same [] [] = true
each_same [] (w ∷ ws) = false
each_same (v ∷ vs) [] = false
each_same (v ∷ vs) (w ∷ ws) = same_value v w && each_same vs ws

-- literals over the formula's variables that are true together where the first n parts of the one have
-- the values of the other's
pub record TestsParts (c : Cells) (f : Cnf) (ps qs : List CellId) (n : ℕ) (ls : List Lit) : Type 0 where
  pub named : All (IsBelow f.vars) ls
  pub values : (a : List Bool) → Satisfies a f → list_all (λ l. lit_value l a) ls ≡ each_same (map (decode c a) (take n ps)) (map (decode c a) (take n qs))

-- the part at a place of the one or of the other
abbrev pub ChoosesAt : Build → Build → Lit → List CellId → List CellId → ℕ → CellId → Type 0
ChoosesAt old new l ps qs i id = (d : CellId) → Chooses old new l (slice_index_or ps i d) (slice_index_or qs i d) id

-- the first n parts of the one or of the other
pub record ChoosesParts (old new : Build) (l : Lit) (ps qs : List CellId) (n : ℕ) (out : List CellId) : Type 0 where
  pub count : length out ≡ n
  pub each : (i : ℕ) (d : CellId) → i < n → Chooses old new l (slice_index_or ps i d) (slice_index_or qs i d) (slice_index_or out i d)
