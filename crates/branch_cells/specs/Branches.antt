-- Paths over cells as branches: filled, and chosen among. Source: Konnov, Kukovec and Tran, "TLA+ Model Checking Made
-- Symbolic", OOPSLA 2019, on symbolic transitions.
use Rattle.std.specs.Prelude.{◌≡◌, ℕ, Bool, true, false, List, [], ◌∷◌, length, map, All, Option, Some, None}
use Rattle.std.specs.Prelude.{if◌then◌else◌, slice_get}
use Rattle.sat_formula.specs.declared.cnf.Cnf.{Cnf}
use Rattle.sat_formula.specs.Formula.{Satisfies}
use Rattle.sat_formula.specs.Lit.{lit_value}
use Rattle.cell_arena.specs.declared.build.Build.{Build}
use Rattle.cell_arena.specs.declared.kinds.CellId.{CellId}
use Rattle.cell_arena.specs.declared.kinds.CellKind.{CellKind}
use Rattle.cell_arena.specs.Cells.{Cells as Arena}
use Rattle.cell_arena.specs.Decode.{decode}
use Rattle.cell_arena.specs.Growth.{Grows}
use Rattle.cell_merge.specs.Sorts.{OfSort}
use Rattle.kernel_trees.specs.Picks.{IsOneOf}
use Rattle.kernel_trees.specs.TypeKinds.{Kind}
use Rattle.typed_cells.specs.KindSorts.{sort_of}
use Rattle.sat_formula.specs.declared.lit.Lit.{Lit}
use Rattle.path_walks.specs.declared.answer.PathCells.{PathCells}
use Rattle.path_walks.specs.Paths.{GoesOn, item_at}
use Rattle.level_laws.specs.Branches.{Ending}
use Rattle.branch_cells.specs.declared.branch.BranchCells.{BranchCells}
use Rattle.branch_cells.specs.declared.branch.Ends.{Ends}
use Rattle.branch_cells.specs.Ends.{EndsBelow, ends_at}

-- ---- cells of names

-- one cell for each name, of its kind
abbrev pub AreOfKinds : List CellKind → List Kind → List CellId → Type 0
AreOfKinds ks [] [] = Unit {0}
AreOfKinds ks [] (id ∷ ids) = ⊥
AreOfKinds ks (a ∷ as') [] = ⊥
AreOfKinds ks (a ∷ as') (id ∷ ids) = OfSort ks (sort_of a) id × AreOfKinds ks as' ids

-- the literals are the formula's, and there is one cell for each name, of its kind
pub record IsWhole (b : Build) (names : List Kind) (x : BranchCells) : Type 0 where
  pub below : EndsBelow b.formula.vars x.ends
  pub cells : AreOfKinds b.arena.kinds names x.next

-- one item for each name, whose cell is of its kind
pub record ItemsOfKinds (ks : List CellKind) (names : List Kind) (items : List (Option (CellId × Lit))) : Type 0 where
  pub count : length items ≡ length names
  pub sorts : (i : ℕ) (a : Kind) (y : CellId × Lit) → slice_get names i ≡ Some a → item_at items i ≡ Some y →
      OfSort ks (sort_of a) y.0

-- where the path holds each name with an item has its value
abbrev pub HasWhole : Cnf → PathCells → Type 0
HasWhole f x = (a : List Bool) → Satisfies a f → lit_value x.holds a ≡ true → (i : ℕ) (y : CellId × Lit) →
    item_at x.next i ≡ Some y → lit_value y.1 a ≡ true

-- ---- names that a path leaves out

-- the literals of a path's ends
abbrev pub ends_of : PathCells → Ends
ends_of x = record { holds = x.holds; wrong = x.wrong; big = x.big }

-- The path's ends; a name without an item has the other cell, and where the path ends at all, a name has the value of its
-- item where that one's literal is true, and else of the other cell.
pub record IsFilled (old new : Build) (others : List CellId) (x : PathCells) (r : BranchCells) : Type 0 where
  pub grows : Grows old new
  pub ends : r.ends ≡ ends_of x
  pub count : length r.next ≡ length others
  pub blank : (i : ℕ) → item_at x.next i ≡ None → slice_get r.next i ≡ slice_get others i
  pub given : (a : List Bool) → Satisfies a new.formula → (k : Ending) → ends_at r.ends k a ≡ true →
      (i : ℕ) (y : CellId × Lit) (id : CellId) → item_at x.next i ≡ Some y → slice_get r.next i ≡ Some id →
      lit_value y.1 a ≡ true → decode new.arena a id ≡ decode new.arena a y.0
  pub rest : (a : List Bool) → Satisfies a new.formula → (k : Ending) → ends_at r.ends k a ≡ true →
      (i : ℕ) (y : CellId × Lit) (id other : CellId) → item_at x.next i ≡ Some y → slice_get r.next i ≡ Some id →
      slice_get others i ≡ Some other → lit_value y.1 a ≡ false → decode new.arena a id ≡ decode new.arena a other

-- ---- one of two

-- the cells have the values of the first where the literal is true, and else of the second
abbrev pub AreOfEither : Build → Lit → List CellId → List CellId → List CellId → Type 0
AreOfEither b l xs ys ids =
    (a : List Bool) → Satisfies a b.formula →
    map (decode b.arena a) ids ≡ (if lit_value l a then map (decode b.arena a) xs else map (decode b.arena a) ys)

-- ---- one of several

-- both end alike, and have the same values
pub record IsSame (c : Arena) (a : List Bool) (x y : BranchCells) : Type 0 where
  pub ends : (k : Ending) → ends_at x.ends k a ≡ ends_at y.ends k a
  pub next : map (decode c a) x.next ≡ map (decode c a) y.next

-- Where it ends at all it is one of the parts; each part that ends at all can be taken, whatever else is assigned; and a
-- cell that all parts, and the rest, have for a name stays.
pub record IsChoice (old new : Build) (rest : List CellId) (parts : List BranchCells) (r : BranchCells) : Type 0 where
  pub grows : Grows old new
  pub count : length r.next ≡ length rest
  pub sound : (a : List Bool) → Satisfies a new.formula → (k : Ending) → ends_at r.ends k a ≡ true →
      (p : BranchCells) × (IsOneOf p parts × IsSame new.arena a r p)
  pub free : (a : List Bool) → length a ≡ old.formula.vars → Satisfies a old.formula → (p : BranchCells) → IsOneOf p parts →
      (k : Ending) → ends_at p.ends k a ≡ true → GoesOn new.formula a (λ b. IsSame new.arena b r p)
  pub kept : (i : ℕ) (id : CellId) → slice_get rest i ≡ Some id → All (λ p. slice_get p.next i ≡ Some id) parts →
      slice_get r.next i ≡ Some id
