-- An encoder with one level more is one.
use Rattle.std.proofs.Common.{◌≡◌, ◌⊎◌, inl, inr, ℕ, zero, suc, ◌+◌, ◌-◌, ◌<◌, ◌≤◌, List, [], ◌∷◌, ◌++◌, map, length}
use Rattle.std.proofs.Common.{get_or, Some, sym, ◌∙◌, ap, subst, arith}
use Rattle.std.specs.Prelude.{slice_get}
use Rattle.std.proofs.lemmas.List.{length_push}
use Rattle.std.proofs.lemmas.Option.{get_or_from_slice_get}
use Rattle.sat_formula.specs.declared.lit.Lit.{Lit}
use Rattle.sat_formula.specs.Formula.{WellFormed}
use Rattle.tla_meaning.specs.declared.job.Job.{Job}
use Rattle.tla_meaning.specs.declared.questions.Query.{Query}
use Rattle.tla_meaning.specs.declared.questions.Query.TheVariants.{StepWrong, StepBig, InvNotTrue, InvBig, AssumeBig}
use Rattle.cell_arena.specs.declared.build.Build.{Build}
use Rattle.cell_arena.specs.Growth.{Grows}
use Rattle.cell_arena.proofs.Growing.{Grows-trans}
use Rattle.kernel_trees.specs.declared.system.System.{System}
use Rattle.kernel_trees.specs.TypeKinds.{Kind}
use Rattle.kernel_shapes.specs.declared.bounds.Shape.{Shape as Code}
use Rattle.kernel_shapes.specs.Codes.{mean}
use Rattle.kernel_shapes.specs.Levels.{next_shapes, start_shapes}
use Rattle.kernel_shapes.specs.Shape.{Shape}
use Rattle.kernel_shapes.specs.Systems.{system_parts}
use Rattle.shape_bounds.specs.Kept.{capped}
use Rattle.branch_cells.specs.Branches.{AreOfKinds}
use Rattle.level_laws.specs.Branches.{Held}
use Rattle.level_laws.specs.Constraints.{Allowed, of_formula}
use Rattle.step_laws.specs.Systems.{StandsFor}
use Rattle.step_laws.proofs.Questions.{IsOfLevels as IsOfLevelsThere}
use Rattle.encoder_laws.specs.declared.level.LevelCells.{LevelCells}
use Rattle.encoder_laws.specs.Levels.{IsLevelOf, kept_at}
use Rattle.encoder_laws.proofs.Asking.{level_asks}
use Rattle.encoder_laws.proofs.Cells.{IsLater}
use Rattle.encoder_laws.proofs.Growing.{AreLevels, HasLevelCells, levels_grow}
use Rattle.encoder_laws.proofs.Meant.{level_shapes}
use Rattle.encoder_laws.proofs.Places.{place_of}
use Rattle.step_encoder.specs.declared.encoder.Encoder.{Encoder}
use Rattle.step_encoder.specs.Encoders.{AddsLevel, AsksAt, IsEncoder, IsOfLevels, width_of}
use Rattle.step_encoder.specs.inner.Asked.{AreKept, IsOver, names_of}
use Rattle.step_encoder.specs.inner.Made.{CanStep, IsFirst, IsNextLevel}
use Rattle.step_encoder.proofs.CellKinds.{kinds_later, kinds_there}
use Rattle.step_encoder.proofs.Conditions.{width_kept}
use Rattle.step_encoder.proofs.FirstLevel.{Starts, allowed_later, first_is, over_later}
use Rattle.step_encoder.proofs.NextLevel.{Steps, next_is}
use Rattle.step_encoder.proofs.Systems.{known}

-- ---- what an encoder holds, of a system, a build and levels

pub record Holds (s : System) (b : Build) (levels : List LevelCells) (codes : List Code) : Type 0 where
  pub over : IsOver b s
  pub narrow : 4 ≤ b.arena.width
  pub wide : b.arena.width ≤ 64
  pub some : Allowed (of_formula b.formula) (λ a. Unit {0})
  pub shapes : (n : ℕ) → length levels ≡ n + 1 → map mean codes ≡ map capped (level_shapes b.arena.width s n)
  pub kinds : (n : ℕ) (x : LevelCells) → slice_get levels n ≡ Some x → AreOfKinds b.arena.kinds (names_of s) x.cells
  pub runs : (n : ℕ) (x : LevelCells) → slice_get levels n ≡ Some x → x.run.var < b.formula.vars
  pub are : (job : Job) → StandsFor (Some b.arena.width) job s → AreLevels (Some b.arena.width) job s b levels

pub holds : (e : Encoder) → IsEncoder e → Holds e.system.now e.build e.levels e.shapes
holds e h = record {
  over = record { known = h.system; texts = h.texts };
  narrow = h.narrow;
  wide = h.wide;
  some = h.satisfiable;
  shapes = h.shapes;
  kinds = λ n x q. h.cells n x q (names_of e.system.now) (known e.system.now h.system).kinds;
  runs = h.runs;
  are = λ job stands n x q. h.levels n x q job stands;
}

encoded : (e : Encoder) → Holds e.system.now e.build e.levels e.shapes → IsEncoder e
encoded e h = record {
  system = h.over.known;
  narrow = h.narrow;
  wide = h.wide;
  texts = h.over.texts;
  satisfiable = h.some;
  shapes = h.shapes;
  cells = λ n x q names k. subst (λ (ks : List Kind). AreOfKinds e.build.arena.kinds ks x.cells)
      (same (names_of e.system.now) names ((sym (known e.system.now h.over.known).kinds) ∙ k)) (h.kinds n x q);
  runs = h.runs;
  levels = λ n x q job stands. h.are job stands n x q;
}
  where
    same : (ks js : List Kind) → Some ks ≡ Some js → ks ≡ js
    same ks js q = cc

-- ---- one level more

pub record Grew (s : System) (b c : Build) (levels : List LevelCells) (x : LevelCells)
    (old codes : List Code) : Type 0 where
  pub before : Holds s b levels old
  pub formed : WellFormed b.formula
  pub grows : Grows b c
  pub shapes : map mean codes ≡ map capped (level_shapes b.arena.width s (length levels))
  pub kinds : AreOfKinds c.arena.kinds (names_of s) x.cells
  pub run : x.run.var < c.formula.vars
  pub level : (job : Job) → StandsFor (Some b.arena.width) job s →
      IsLevelOf (Some b.arena.width) job s c.formula (length levels)
      (kept_at c.arena (levels ++ x ∷ []) (length levels) x)

module _ (s : System) (b c : Build) (levels : List LevelCells) (x : LevelCells) (old codes : List Code)
    (h : Grew s b c levels x old codes) where
  width : c.arena.width ≡ b.arena.width
  width = width_kept b c h.grows

  later : IsLater b c
  later = record { formed = h.formed; grows = h.grows }

  more : (i m n : ℕ) → i < m → m ≤ n → i < n
  more i m n p q = omega (arith, p, q)

  many : (n : ℕ) → length (levels ++ x ∷ []) ≡ n + 1 → length levels ≡ n
  many n e = less (length levels) n (sym (length_push levels x) ∙ e)
    where
      less : (m n : ℕ) → m + 1 ≡ n + 1 → m ≡ n
      less m n q = omega (arith, q)

  cells_there : HasLevelCells b levels
  cells_there n y q = kinds_there b.arena.kinds (names_of s) y.cells (h.before.kinds n y q)

  shapes_then : (n : ℕ) → length (levels ++ x ∷ []) ≡ n + 1 → map mean codes ≡ map capped
      (level_shapes c.arena.width s n)
  shapes_then n e =
      subst (λ (w : ℕ). map mean codes ≡ map capped (level_shapes w s n)) (sym width)
      (subst (λ (k : ℕ). map mean codes ≡ map capped (level_shapes b.arena.width s k)) (many n e) h.shapes)

  kinds_then : (n : ℕ) (y : LevelCells) → ((n < length levels) × (slice_get levels n ≡ Some y)) ⊎
      ((n ≡ length levels) × (x ≡ y)) → AreOfKinds c.arena.kinds (names_of s) y.cells
  kinds_then n y (inl q) = kinds_later b c (names_of s) y.cells h.grows (h.before.kinds n y q.1)
  kinds_then n y (inr q) = subst (λ (z : LevelCells). AreOfKinds c.arena.kinds (names_of s) z.cells) q.1 h.kinds

  runs_then : (n : ℕ) (y : LevelCells) → ((n < length levels) × (slice_get levels n ≡ Some y)) ⊎
      ((n ≡ length levels) × (x ≡ y)) → y.run.var < c.formula.vars
  runs_then n y (inl q) = more y.run.var b.formula.vars c.formula.vars (h.before.runs n y q.1) h.grows.formula.vars
  runs_then n y (inr q) = subst (λ (z : LevelCells). z.run.var < c.formula.vars) q.1 h.run

  levels_then : (job : Job) → StandsFor (Some b.arena.width) job s →
      AreLevels (Some b.arena.width) job s c (levels ++ x ∷ [])
  levels_then job stands = levels_grow (Some b.arena.width) job s b c later levels x cells_there
      (h.before.are job stands) (h.level job stands)

  pub held_then : Holds s c (levels ++ x ∷ []) codes
  held_then = record {
    over = over_later b c s h.grows h.before.over;
    narrow = subst (λ (n : ℕ). 4 ≤ n) (sym width) h.before.narrow;
    wide = subst (λ (n : ℕ). n ≤ 64) (sym width) h.before.wide;
    some = allowed_later b c h.formed h.grows h.before.some;
    shapes = shapes_then;
    kinds = λ n y q. kinds_then n y (place_of levels x n y q);
    runs = λ n y q. runs_then n y (place_of levels x n y q);
    are = λ job stands.
        subst (λ (w : ℕ). AreLevels (Some w) job s c (levels ++ x ∷ [])) (sym width)
        (levels_then job (subst (λ (w : ℕ). StandsFor (Some w) job s) width stands));
  }

pub adds : (old new : Encoder) (x : LevelCells) (codes : List Code) →
    Grew old.system.now old.build new.build old.levels x old.shapes codes → new.levels ≡ old.levels ++ x ∷ [] →
    new.shapes ≡ codes → new.system.now ≡ old.system.now → AddsLevel old new
adds old new x codes g e f k = record {
  level = x;
  levels = e;
  system = k;
  width = width_kept old.build new.build g.grows;
  encodes = encoded new
      (subst (λ (s : System). Holds s new.build new.levels new.shapes) (sym k)
      (subst (λ (ls : List LevelCells). Holds old.system.now new.build ls new.shapes) (sym e)
      (subst (λ (cs : List Code). Holds old.system.now new.build (old.levels ++ x ∷ []) cs) (sym f)
      (held_then old.system.now old.build new.build old.levels x old.shapes codes g))));
}

pub adds_as : (old new : Encoder) (c : Build) (x : LevelCells) (codes : List Code) → new.build ≡ c →
    Grew old.system.now old.build c old.levels x old.shapes codes →
    new.levels ≡ old.levels ++ x ∷ [] → new.shapes ≡ codes → new.system.now ≡ old.system.now → AddsLevel old new
adds_as old new c x codes b g e f k = adds old new x codes (subst (λ (d : Build). Grew old.system.now old.build d
    old.levels x old.shapes codes) (sym b) g) e f k

-- the cells and the run literal of a level that was made
pub first_kinds : (b c : Build) (s : System) (codes : List Code) (x : LevelCells) → IsFirst b c s codes x →
    AreOfKinds c.arena.kinds (names_of s) x.cells
first_kinds b c s codes x m =
    subst (AreOfKinds c.arena.kinds (names_of s)) (sym (m.level.cells ∙ m.rest.next))
    (kinds_later m.rest.chosen c (names_of s) m.rest.cells (Grows-trans m.rest.chosen m.end c m.rest.after m.grows)
    m.rest.kinds)

pub next_kinds : (b c : Build) (s : System) (from : LevelCells) (codes after : List Code) (x : LevelCells) →
    IsNextLevel b c s from codes after x →
    AreOfKinds c.arena.kinds (names_of s) x.cells
next_kinds b c s from codes after x m =
    subst (AreOfKinds c.arena.kinds (names_of s)) (sym (m.level.cells ∙ m.part.next))
    (kinds_later m.part.to c (names_of s) m.part.part.next (Grows-trans m.part.to m.end c m.part.after m.grows)
    m.part.whole.cells)

below_later : (i m n : ℕ) → i < m → m ≤ n → i < n
below_later i m n p q = omega (arith, p, q)

pub first_run : (b c : Build) (s : System) (codes : List Code) (x : LevelCells) → IsFirst b c s codes x →
    x.run.var < c.formula.vars
first_run b c s codes x m =
    subst (λ (l : Lit). l.var < c.formula.vars) (sym m.level.run)
    (below_later m.whole.ends.holds.var m.end.formula.vars c.formula.vars (m.rest.ends Held).below m.grows.formula.vars)

pub next_run : (b c : Build) (s : System) (from : LevelCells) (codes after : List Code) (x : LevelCells) →
    IsNextLevel b c s from codes after x → x.run.var < c.formula.vars
next_run b c s from codes after x m =
    subst (λ (l : Lit). l.var < c.formula.vars) (sym m.level.run)
    (below_later m.whole.ends.holds.var m.end.formula.vars c.formula.vars (m.part.ends Held).below m.grows.formula.vars)

-- ---- none so far

pub record Begins (s : System) (b : Build) : Type 0 where
  pub over : IsOver b s
  pub narrow : 4 ≤ b.arena.width
  pub wide : b.arena.width ≤ 64
  pub some : Allowed (of_formula b.formula) (λ a. Unit {0})

pub begun : (e : Encoder) → Begins e.system.now e.build → e.levels ≡ [] → IsEncoder e
begun e h q = encoded e (record {
  over = h.over;
  narrow = h.narrow;
  wide = h.wide;
  some = h.some;
  shapes = λ n k. absurd (none n (sym (ap length q) ∙ k));
  kinds = λ n x k. absurd (nothing n x (sym (ap (λ (ls : List LevelCells). slice_get ls n) q) ∙ k));
  runs = λ n x k. absurd (nothing n x (sym (ap (λ (ls : List LevelCells). slice_get ls n) q) ∙ k));
  are = λ job stands n x k. absurd (nothing n x (sym (ap (λ (ls : List LevelCells). slice_get ls n) q) ∙ k));
})
  where
    none : (n : ℕ) → 0 ≡ n + 1 → ⊥
    none n q = omega (arith, q)

    nothing : (n : ℕ) (x : LevelCells) → slice_get [] n ≡ Some x → ⊥
    nothing zero x q = cc
    nothing (suc n) x q = cc

-- ---- questions

pub read_at : (xs ys : List LevelCells) (i : ℕ) (r x : LevelCells) → ys ≡ xs → r ≡ get_or ys i r →
    slice_get xs i ≡ Some x → r ≡ x
read_at xs ys i r x e f g = f ∙ (ap (λ (zs : List LevelCells). get_or zs i r) e ∙ get_or_from_slice_get xs i x r g)

of_levels : (q : Query) → IsOfLevels q → IsOfLevelsThere q
of_levels StepWrong h = tt
of_levels StepBig h = tt
of_levels InvNotTrue h = tt
of_levels InvBig h = tt
of_levels AssumeBig h = h

pub asks_at : (e : Encoder) (n : ℕ) (x : LevelCells) (q : Query) → IsEncoder e → slice_get e.levels n ≡ Some x →
    IsOfLevels q → AsksAt e n x q
asks_at e n x q h k o = λ job stands.
    level_asks (Some (width_of e)) job e.system.now e.build e.levels (λ m y r. h.levels m y r job stands) n x k q
    (of_levels q o)

-- ---- from what the two ways of going on make

-- shapes at a width that was read
pub start_shapes_as : (s : System) (w v : ℕ) (codes : List Code) → w ≡ v →
    map capped (start_shapes (system_parts w s)) ≡ map mean codes →
    map capped (start_shapes (system_parts v s)) ≡ map mean codes
start_shapes_as s w v codes e h = subst (λ (n : ℕ). map capped (start_shapes (system_parts n s)) ≡ map mean codes) e h

abbrev pub NextShapes : System → ℕ → List Code → List Code → Type 0
NextShapes s w before codes = (as' : List Shape) → map capped as' ≡ map mean before →
    map capped (next_shapes (system_parts w s) as') ≡ map mean codes

pub next_shapes_as : (s : System) (w v : ℕ) (before codes : List Code) → w ≡ v → NextShapes s w before codes →
    NextShapes s v before codes
next_shapes_as s w v before codes e h = subst (λ (n : ℕ). NextShapes s n before codes) e h

-- a start adds the first level
pub record Started (old new : Encoder) (c : Build) (x : LevelCells) (codes : List Code) : Type 0 where
  pub encoder : IsEncoder old
  pub empty : old.levels ≡ []
  pub shapes : map capped (start_shapes (system_parts (width_of old) old.system.now)) ≡ map mean codes
  pub made : IsFirst old.build c old.system.now codes x
  pub grows : Grows old.build c
  pub levels : new.levels ≡ old.levels ++ x ∷ []
  pub kept : new.shapes ≡ codes
  pub system : new.system.now ≡ old.system.now
  pub build : new.build ≡ c

module _ (old new : Encoder) (c : Build) (x : LevelCells) (codes : List Code) (h : Started old new c x codes) where
  abbrev s : System
  s = old.system.now

  starts : (job : Job) → StandsFor (Some old.build.arena.width) job s → Starts job s old.build c codes x
  starts job stands = record {
    over = record { known = h.encoder.system; texts = h.encoder.texts };
    narrow = h.encoder.narrow;
    wide = h.encoder.wide;
    some = h.encoder.satisfiable;
    stands = stands;
    shapes = sym h.shapes;
    made = h.made;
  }

  first_there : (levels : List LevelCells) → levels ≡ [] → (job : Job) → StandsFor (Some old.build.arena.width) job s →
      IsLevelOf (Some old.build.arena.width) job s c.formula (length levels)
      (kept_at c.arena (levels ++ x ∷ []) (length levels) x)
  first_there levels e job stands =
      subst (λ (ls : List LevelCells). IsLevelOf (Some old.build.arena.width) job s c.formula (length ls)
      (kept_at c.arena (ls ++ x ∷ []) (length ls) x)) (sym e)
      (first_is job s old.build c codes x (starts job stands) (x ∷ []))

  first_shapes : (levels : List LevelCells) → levels ≡ [] → map mean codes ≡ map capped
      (level_shapes old.build.arena.width s (length levels))
  first_shapes levels e =
      subst (λ (ls : List LevelCells). map mean codes ≡ map capped (level_shapes old.build.arena.width s (length ls)))
      (sym e) (sym h.shapes)

  pub adds_first : AddsLevel old new
  adds_first =
      adds_as old new c x codes h.build (record {
        before = holds old h.encoder;
        formed = h.made.first.formed;
        grows = h.grows;
        shapes = first_shapes old.levels h.empty;
        kinds = first_kinds old.build c s codes x h.made;
        run = first_run old.build c s codes x h.made;
        level = λ job stands. first_there old.levels h.empty job stands;
      }) h.levels h.kept h.system

-- a step adds the next one
pub record Stepped (old new : Encoder) (c : Build) (from x : LevelCells) (codes : List Code) : Type 0 where
  pub encoder : IsEncoder old
  pub some : 0 < length old.levels
  pub last : slice_get old.levels (length old.levels - 1) ≡ Some from
  pub shapes : NextShapes old.system.now (width_of old) old.shapes codes
  pub made : IsNextLevel old.build c old.system.now from old.shapes codes x
  pub grows : Grows old.build c
  pub levels : new.levels ≡ old.levels ++ x ∷ []
  pub kept : new.shapes ≡ codes
  pub system : new.system.now ≡ old.system.now
  pub build : new.build ≡ c

module _ (old new : Encoder) (c : Build) (from x : LevelCells) (codes : List Code)
    (h : Stepped old new c from x codes) where
  abbrev n : ℕ
  n = length old.levels - 1

  before_one : (m : ℕ) → 0 < m → m ≡ (m - 1) + 1
  before_one m q = omega (arith, q)

  before_suc : (m : ℕ) → 0 < m → m ≡ suc (m - 1)
  before_suc m q = omega (arith, q)

  so_many : length old.levels ≡ suc n
  so_many = before_suc (length old.levels) h.some

  kept_codes : map mean old.shapes ≡ map capped (level_shapes old.build.arena.width old.system.now n)
  kept_codes = h.encoder.shapes n (before_one (length old.levels) h.some)

  next_codes : map mean codes ≡ map capped (level_shapes old.build.arena.width old.system.now (suc n))
  next_codes = sym (h.shapes (level_shapes old.build.arena.width old.system.now n) (sym kept_codes))

  old_holds : Holds old.system.now old.build old.levels old.shapes
  old_holds = holds old h.encoder

  steps : (job : Job) → StandsFor (Some old.build.arena.width) job old.system.now →
      Steps job old.system.now old.build c old.levels n from old.shapes codes x
  steps job stands = record {
    over = old_holds.over;
    narrow = h.encoder.narrow;
    wide = h.encoder.wide;
    stands = stands;
    last = h.last;
    many = so_many;
    cells = λ m y q. kinds_there old.build.arena.kinds (names_of old.system.now) y.cells (old_holds.kinds m y q);
    kinds = old_holds.kinds n from h.last;
    run = old_holds.runs n from h.last;
    level = old_holds.are job stands n from h.last;
    kept = kept_codes;
    next = next_codes;
    made = h.made;
  }

  pub adds_next : AddsLevel old new
  adds_next =
      adds_as old new c x codes h.build (record {
        before = old_holds;
        formed = h.made.part.formed;
        grows = h.grows;
        shapes = subst (λ (m : ℕ). map mean codes ≡ map capped (level_shapes old.build.arena.width old.system.now m))
            (sym so_many) next_codes;
        kinds = next_kinds old.build c old.system.now from old.shapes codes x h.made;
        run = next_run old.build c old.system.now from old.shapes codes x h.made;
        level = λ job stands.
            subst (λ (m : ℕ). IsLevelOf (Some old.build.arena.width) job old.system.now c.formula m
            (kept_at c.arena (old.levels ++ x ∷ []) m x)) (sym so_many)
            (next_is job old.system.now old.build c old.levels n from old.shapes codes x (steps job stands));
      }) h.levels h.kept h.system

-- ---- what is asked of a step

get_is : (xs : List LevelCells) (i : ℕ) (r : LevelCells) → i < length xs → r ≡ get_or xs i r → slice_get xs i ≡ Some r
get_is [] i r lt e = absurd (omega (arith, lt))
get_is (x ∷ xs) zero r lt e = ap Some (sym e)
get_is (x ∷ xs) (suc i) r lt e = get_is xs i r (less i (length xs) lt) e
  where
    less : (m n : ℕ) → suc m < suc n → m < n
    less m n q = omega (arith, q)

pub last_at : (xs ys : List LevelCells) (r : LevelCells) → ys ≡ xs → 0 < length xs → r ≡ get_or ys (length ys - 1) r →
    slice_get xs (length xs - 1) ≡ Some r
last_at xs ys r e some is =
    get_is xs (length xs - 1) r (before (length xs) some) (subst (λ (zs : List LevelCells). r ≡ get_or zs
    (length zs - 1) r) e is)
  where
    before : (n : ℕ) → 0 < n → n - 1 < n
    before n q = omega (arith, q)

one_less : (m : ℕ) → 0 < m → m ≡ (m - 1) + 1
one_less m q = omega (arith, q)

kept_before : (e : Encoder) → IsEncoder e → 0 < length e.levels →
    map mean e.shapes ≡ map capped (level_shapes (width_of e) e.system.now (length e.levels - 1))
kept_before e h some = h.shapes (length e.levels - 1) (one_less (length e.levels) some)

pub can_step_from : (e : Encoder) (from : LevelCells) → IsEncoder e → 0 < length e.levels →
    slice_get e.levels (length e.levels - 1) ≡ Some from →
    CanStep e.build e.system.now from e.shapes
can_step_from e from h some last = record {
  over = record { known = h.system; texts = h.texts };
  cells = (holds e h).kinds (length e.levels - 1) from last;
  run = h.runs (length e.levels - 1) from last;
  shapes = record {
    shapes = level_shapes (width_of e) e.system.now (length e.levels - 1);
    kept =
        kept_before e h some;
  };
}

pub next_kept : (e : Encoder) (w : ℕ) (codes : List Code) → IsEncoder e → 0 < length e.levels → w ≡ width_of e →
    NextShapes e.system.now w e.shapes codes → AreKept codes
next_kept e w codes h some same n = record {
  shapes = next_shapes (system_parts w e.system.now) (level_shapes (width_of e) e.system.now (length e.levels - 1));
  kept = sym (n (level_shapes (width_of e) e.system.now (length e.levels - 1)) (sym (kept_before e h some)));
}
