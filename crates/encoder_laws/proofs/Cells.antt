-- Cells under assignments as a build grows.
use Rattle.std.proofs.Common.{◌≡◌, ◌<◌, List, [], ◌∷◌, map, length, reverse, refl, sym, ap, ap₂, arith}
use mathlib.Core.Path.{fun_ext}
use Rattle.std.specs.Prelude.{All}
use Rattle.std.proofs.lemmas.List.Elements.{All-cons, All-head, All-nil, All-tail, All-weaker}
use Rattle.sat_formula.specs.Formula.{WellFormed}
use Rattle.tla_values.specs.declared.value.Value.{Value}
use Rattle.tla_meaning.specs.declared.job.State.{State}
use Rattle.cell_arena.specs.declared.build.Build.{Build}
use Rattle.cell_arena.specs.declared.kinds.CellId.{CellId}
use Rattle.cell_arena.specs.Cells.{Cells as Arena}
use Rattle.cell_arena.specs.Growth.{Grows, Keeps}
use Rattle.cell_arena.proofs.Growing.{decode-before}
use Rattle.cell_merge.proofs.Edges.{sort-there}
use Rattle.kernel_trees.specs.TypeKinds.{Kind}
use Rattle.typed_cells.specs.KindSorts.{sort_of}
use Rattle.level_laws.specs.Constraints.{Assignment, Grown, of_formula}
use Rattle.level_laws.proofs.Formulas.{formula_grown}
use Rattle.branch_cells.specs.Branches.{AreOfKinds}
use Rattle.step_branches.specs.Readings.{state_at, values_at}
use Rattle.encoder_laws.specs.declared.level.LevelCells.{LevelCells}

-- a build that grows; its formula is well formed, as each formula is
pub record IsLater (old new : Build) : Type 0 where
  pub formed : WellFormed old.formula
  pub grows : Grows old new

pub later_grown : (b c : Build) → IsLater b c → Grown (of_formula b.formula) (of_formula c.formula)
later_grown b c l = formula_grown b.formula c.formula l.formed l.grows.formula

pub width_stays : (b c : Build) → Grows b c → c.arena.width ≡ b.arena.width
unfolding Keeps
width_stays b c g = g.keeps.width

-- the cells are there
abbrev pub AreThere : Build → List CellId → Type 0
AreThere b ids = All (λ id. id.index < length b.arena.kinds) ids

pub there_later : (b c : Build) (ids : List CellId) → Grows b c → AreThere b ids → AreThere c ids
there_later b c ids g h =
    All-weaker (λ id. id.index < length b.arena.kinds) (λ id. id.index < length c.arena.kinds)
    (λ id lt. let le = g.longer in omega (arith, lt)) ids h

-- the states of levels, the newest first
abbrev pub past_at : Arena → List LevelCells → Assignment → List State
past_at c xs a = reverse (map (λ y. state_at c y.cells a) xs)

module _ (b c : Build) (g : Grows b c) where
  values_stay : (ids : List CellId) (a : Assignment) → AreThere b ids →
      values_at b.arena ids a ≡ values_at c.arena ids a
  values_stay [] a h = refl
  values_stay (id ∷ ids) a h =
      ap₂ (λ (v : Value) (vs : List Value). v ∷ vs)
      (sym (decode-before b c a id g (All-head (λ i. i.index < length b.arena.kinds) id ids h)))
      (values_stay ids a (All-tail (λ i. i.index < length b.arena.kinds) id ids h))

  pub values_same : (ids : List CellId) → AreThere b ids → values_at b.arena ids ≡ values_at c.arena ids
  values_same ids h = fun_ext (λ a. values_stay ids a h)

  pub state_same : (ids : List CellId) → AreThere b ids → state_at b.arena ids ≡ state_at c.arena ids
  state_same ids h = fun_ext (λ a. ap (λ (vs : List Value). record { vals = vs }) (values_stay ids a h))

  -- of each of several levels
  abbrev pub AllThere : List LevelCells → Type 0
  AllThere [] = Unit {0}
  AllThere (x ∷ xs) = AreThere b x.cells × AllThere xs

  past_stays : (xs : List LevelCells) (a : Assignment) → AllThere xs →
      map (λ (y : LevelCells). state_at b.arena y.cells a) xs ≡ map (λ (y : LevelCells). state_at c.arena y.cells a) xs
  past_stays [] a h = refl
  past_stays (x ∷ xs) a h =
      ap₂ (λ (s : State) (ss : List State). s ∷ ss) (ap (λ (f : Assignment → State). f a) (state_same x.cells h.0))
      (past_stays xs a h.1)

  pub past_same : (xs : List LevelCells) → AllThere xs → past_at b.arena xs ≡ past_at c.arena xs
  past_same xs h = fun_ext (λ a. ap reverse (past_stays xs a h))

-- ---- cells of kinds are there

pub kinds_there : (b : Build) (names : List Kind) (ids : List CellId) → AreOfKinds b.arena.kinds names ids →
    AreThere b ids
kinds_there b [] [] h = All-nil (λ id. id.index < length b.arena.kinds)
kinds_there b [] (id ∷ ids) h = absurd h
kinds_there b (k ∷ ks) [] h = absurd h
kinds_there b (k ∷ ks) (id ∷ ids) h =
    All-cons (λ id. id.index < length b.arena.kinds) id ids (sort-there b.arena.kinds (sort_of k) id h.0)
    (kinds_there b ks ids h.1)
