-- What the parts of a level are made of, put together.
use Rattle.std.proofs.Common.{◌≡◌, ℕ, ◌<◌, ◌≤◌, List, sym, ◌∙◌, subst}
use Rattle.std.proofs.Common.{arith}
use Rattle.sat_formula.specs.declared.lit.Lit.{Lit}
use Rattle.cell_arena.specs.declared.build.Build.{Build}
use Rattle.cell_arena.specs.declared.kinds.CellId.{CellId}
use Rattle.cell_arena.specs.Growth.{Grows}
use Rattle.cell_arena.proofs.Growing.{Grows-trans}
use Rattle.snowcat_rows.specs.declared.types.Ty.{Ty}
use Rattle.kernel_trees.specs.declared.path.Assigned.{Assigned}
use Rattle.kernel_trees.specs.declared.system.System.{System}
use Rattle.kernel_trees.specs.TypeKinds.{Kind}
use Rattle.kernel_shapes.specs.declared.bounds.Shape.{Shape as Code}
use Rattle.kernel_shapes.specs.Levels.{constant_shapes}
use Rattle.kernel_shapes.specs.Systems.{system_parts}
use Rattle.typed_cells.specs.inner.Defaulted.{AreDefaults}
use Rattle.branch_cells.specs.declared.branch.BranchCells.{BranchCells}
use Rattle.branch_cells.specs.declared.branch.Ends.{Ends}
use Rattle.branch_cells.specs.declared.way.Way.{Way}
use Rattle.branch_cells.specs.Along.{CanGoAlong, IsAlong}
use Rattle.branch_cells.specs.Branches.{AreOfEither, AreOfKinds, IsWhole}
use Rattle.branch_cells.specs.Ends.{EndsBelow, end_of}
use Rattle.level_laws.specs.Branches.{Held}
use Rattle.step_branches.specs.Ways.{IsConstantsWay, IsStartWay, IsStepWay}
use Rattle.encoder_laws.specs.declared.level.LevelCells.{LevelCells}
use Rattle.step_encoder.specs.inner.Asked.{AreKept, CanJudge, IsOver, names_of}
use Rattle.step_encoder.specs.inner.Made.{CanGoOn, CanStep, IsConstantsPart, IsStartPart, IsStepPart, IsWayOfStart}
use Rattle.step_encoder.proofs.CellKinds.{kinds_later, kinds_of_defaults}
use Rattle.step_encoder.proofs.Conditions.{width_kept}
use Rattle.step_encoder.proofs.FirstLevel.{over_later}
use Rattle.step_encoder.proofs.Going.{can_constants, can_start, can_step}
use Rattle.step_encoder.proofs.Systems.{known}

-- ---- literals

pub ends_later : (b c : Build) (x : Ends) → Grows b c → EndsBelow b.formula.vars x → EndsBelow c.formula.vars x
ends_later b c x g h k = less (end_of x k).var b.formula.vars c.formula.vars (h k) g.formula.vars
  where
    less : (i m n : ℕ) → i < m → m ≤ n → i < n
    less i m n p q = omega (arith, p, q)

-- the width of a build, as a number that was read of it
pub record IsWide (b : Build) (w : ℕ) : Type 0 where
  pub same : w ≡ b.arena.width
  pub narrow : (4 ≤ w) × (w ≤ 64)

from_four : (b : Build) (w : ℕ) → IsWide b w → 4 ≤ b.arena.width
from_four b w h = subst (λ (n : ℕ). 4 ≤ n) h.same h.narrow.0

to_most : (b : Build) (w : ℕ) → IsWide b w → b.arena.width ≤ 64
to_most b w h = subst (λ (n : ℕ). n ≤ 64) h.same h.narrow.1

-- the paths and names as they are handed in
goes_as : (b : Build) (names ks : List Kind) (way : Way) (xs ys : List Assigned) → names ≡ ks → xs ≡ ys →
    CanGoAlong b ks way ys → CanGoAlong b names way xs
goes_as b names ks way xs ys e f h =
    subst (λ (ns : List Kind). CanGoAlong b ns way xs) (sym e) (subst (λ (zs : List Assigned). CanGoAlong b ks way zs)
    (sym f) h)

-- ---- the constants

pub record DefaultWay (b c : Build) (s : System) (w : ℕ) (types : List Ty) (ids others : List CellId)
    (way : Way) : Type 0 where
  pub over : IsOver b s
  pub wide : IsWide b w
  pub grows : Grows b c
  pub types_are : types ≡ s.ker.names
  pub cells : AreDefaults c types ids
  pub others_are : others ≡ ids
  pub is : IsConstantsWay s w others way

module _ (b c : Build) (s : System) (w : ℕ) (types : List Ty) (ids others : List CellId) (way : Way)
    (h : DefaultWay b c s w types ids others way) where
  pub defaults_are : AreDefaults c s.ker.names ids
  defaults_are = subst (λ (ts : List Ty). AreDefaults c ts ids) h.types_are h.cells

  pub default_kinds : AreOfKinds c.arena.kinds (names_of s) ids
  default_kinds = kinds_of_defaults c s.ker.names (names_of s) ids defaults_are (known s h.over.known).kinds

  width_there : w ≡ c.arena.width
  width_there = h.wide.same ∙ sym (width_kept b c h.grows)

  pub default_way : IsConstantsWay s c.arena.width ids way
  default_way =
      subst (λ (n : ℕ). IsConstantsWay s n ids way) width_there (subst (λ (xs : List CellId). IsConstantsWay s w xs
      way) h.others_are h.is)

  pub constants_go : (names : List Kind) (xs : List Assigned) → names ≡ names_of s → xs ≡ s.constants →
      CanGoAlong c names way xs
  constants_go names xs e f =
      goes_as c names (names_of s) way xs s.constants e f
      (can_constants c s (over_later b c s h.grows h.over) (subst (λ (n : ℕ). 4 ≤ n) (sym (width_kept b c h.grows))
      (from_four b w h.wide))
      (subst (λ (n : ℕ). n ≤ 64) (sym (width_kept b c h.grows)) (to_most b w h.wide)) ids way default_kinds default_way)

-- the answer of `along` as it is kept
pub along_as : (b c : Build) (way : Way) (xs ys : List Assigned) (r : BranchCells) → xs ≡ ys → IsAlong b c way xs r →
    IsAlong b c way ys r
along_as b c way xs ys r e h = subst (λ (zs : List Assigned). IsAlong b c way zs r) e h

pub whole_as : (b : Build) (names ks : List Kind) (r : BranchCells) → names ≡ ks → IsWhole b names r → IsWhole b ks r
whole_as b names ks r e h = subst (λ (ns : List Kind). IsWhole b ns r) e h

-- ---- the start

pub start_goes : (b c : Build) (s : System) (constants : BranchCells) (way : Way) (w : ℕ) (names : List Kind)
    (xs : List Assigned) → CanGoOn b s constants way → IsWide b w →
    Grows b c → names ≡ names_of s → xs ≡ s.start → CanGoAlong c names way xs
start_goes b c s constants way w names xs h wide g e f =
    goes_as c names (names_of s) way xs s.start e f
    (can_start c s (over_later b c s g h.over) (subst (λ (n : ℕ). 4 ≤ n) (sym (width_kept b c g)) (from_four b w wide))
    (subst (λ (n : ℕ). n ≤ 64) (sym (width_kept b c g)) (to_most b w wide)) constants.next h.is.codes way
    (record { shapes = constant_shapes (system_parts b.arena.width s); kept = h.is.shapes })
    (kinds_later b c (names_of s) constants.next g h.whole.cells)
    (subst (λ (n : ℕ). IsStartWay s n constants.next h.is.codes way) (sym (width_kept b c g)) h.is.is))

-- the cells behind the constants stay of their kinds
pub constants_stay : (b c : Build) (s : System) (constants : BranchCells) (way : Way) (names : List Kind)
    (ys : List CellId) → CanGoOn b s constants way → Grows b c → names ≡ names_of s → ys ≡ constants.next →
    AreOfKinds c.arena.kinds names ys
constants_stay b c s constants way names ys h g e f =
    subst (λ (ns : List Kind). AreOfKinds c.arena.kinds ns ys) (sym e)
    (subst (AreOfKinds c.arena.kinds (names_of s)) (sym f)
    (kinds_later b c (names_of s) constants.next g h.whole.cells))

pub cells_as : (b : Build) (names : List Kind) (xs ys : List CellId) → xs ≡ ys → AreOfKinds b.arena.kinds names ys →
    AreOfKinds b.arena.kinds names xs
cells_as b names xs ys e h = subst (AreOfKinds b.arena.kinds names) (sym e) h

pub kinds_as : (b : Build) (names ks : List Kind) (xs : List CellId) → names ≡ ks →
    AreOfKinds b.arena.kinds names xs → AreOfKinds b.arena.kinds ks xs
kinds_as b names ks xs e h = subst (λ (ns : List Kind). AreOfKinds b.arena.kinds ns xs) e h

pub either_as : (b : Build) (l : Lit) (xs us ys vs ids : List CellId) → xs ≡ us → ys ≡ vs → AreOfEither b l xs ys ids →
    AreOfEither b l us vs ids
either_as b l xs us ys vs ids e f h =
    subst (λ (zs : List CellId). AreOfEither b l zs vs ids) e (subst (λ (zs : List CellId). AreOfEither b l xs zs ids)
    f h)

pub can_go_on : (old b : Build) (s : System) (constants : BranchCells) (way : Way) → IsOver old s →
    IsConstantsPart old b s constants → IsWayOfStart b s constants way →
    CanGoOn b s constants way
can_go_on old b s constants way h p w = record {
  over = over_later old b s
      (Grows-trans old p.middle b p.before p.grows) h;
  whole = p.whole;
  is = w;
}

pub can_judge_start : (old b c : Build) (s : System) (constants : BranchCells) (way : Way) (codes : List Code)
    (r : BranchCells) → IsOver old s → IsConstantsPart old b s constants →
    IsStartPart b c s constants way r → AreKept codes → CanJudge c s codes r.next
can_judge_start old b c s constants way codes r h p q k = record {
  over = over_later old c s (Grows-trans old b c (Grows-trans old p.middle b p.before p.grows) grows) h;
  kinds = subst (AreOfKinds c.arena.kinds (names_of s)) (sym q.next)
      (kinds_later q.chosen c (names_of s) q.cells q.after q.kinds);
  shapes = k;
}
  where
    grows : Grows b c
    grows = Grows-trans b q.from c (Grows-trans b q.assumed q.from q.before q.onto)
        (Grows-trans q.from q.to c q.grows (Grows-trans q.to q.chosen c q.choosing q.after))

pub start_run : (b c : Build) (s : System) (constants : BranchCells) (way : Way) (r : BranchCells) →
    IsStartPart b c s constants way r → r.ends.holds.var < c.formula.vars
start_run b c s constants way r q = (q.ends Held).below

-- ---- a step

pub record StepWay (b : Build) (s : System) (from : LevelCells) (codes : List Code) (w : ℕ) (cells : List CellId)
    (shapes : List Code) (way : Way) : Type 0 where
  pub can : CanStep b s from codes
  pub wide : IsWide b w
  pub cells_are : cells ≡ from.cells
  pub shapes_are : shapes ≡ codes
  pub is : IsStepWay s w cells shapes way

module _ (b : Build) (s : System) (from : LevelCells) (codes : List Code) (w : ℕ) (cells : List CellId)
    (shapes : List Code) (way : Way) (h : StepWay b s from codes w cells shapes way) where
  pub the_step_way : IsStepWay s b.arena.width from.cells codes way
  the_step_way =
      subst (λ (n : ℕ). IsStepWay s n from.cells codes way) h.wide.same
      (subst (λ (cs : List Code). IsStepWay s w from.cells cs way) h.shapes_are
      (subst (λ (ids : List CellId). IsStepWay s w ids shapes way) h.cells_are h.is))

  pub step_goes : (names : List Kind) (xs : List Assigned) → names ≡ names_of s → xs ≡ s.next →
      CanGoAlong b names way xs
  step_goes names xs e f =
      goes_as b names (names_of s) way xs s.next e f
      (can_step b s h.can.over (from_four b w h.wide) (to_most b w h.wide) from.cells codes way h.can.shapes
      h.can.cells the_step_way)

pub can_judge_step : (b c : Build) (s : System) (from : LevelCells) (codes after : List Code) (r : BranchCells) →
    CanStep b s from codes → IsStepPart b c s from codes r → AreKept after →
    CanJudge c s after r.next
can_judge_step b c s from codes after r h q k = record {
  over = over_later b c s (Grows-trans b q.to c q.grows q.after) h.over;
  kinds = subst (AreOfKinds c.arena.kinds (names_of s)) (sym q.next)
      (kinds_later q.to c (names_of s) q.part.next q.after q.whole.cells);
  shapes = k;
}

pub step_run : (b c : Build) (s : System) (from : LevelCells) (codes : List Code) (r : BranchCells) →
    IsStepPart b c s from codes r → r.ends.holds.var < c.formula.vars
step_run b c s from codes r q = (q.ends Held).below
