-- The first level that is made says what it is to say.
use Rattle.std.proofs.Common.{◌≡◌, ℕ, ◌≤◌, Bool, true, List, map, take, length}
use Rattle.std.proofs.Common.{Some, sym, ◌∙◌, ap, subst, arith}
use Rattle.sat_formula.specs.declared.lit.Lit.{Lit}
use Rattle.sat_formula.specs.Formula.{Satisfies, WellFormed}
use Rattle.sat_formula.specs.Lit.{lit_value}
use Rattle.tla_meaning.specs.declared.job.Job.{Job}
use Rattle.tla_meaning.specs.declared.job.State.{State}
use Rattle.tla_meaning.specs.Actions.{val}
use Rattle.tla_meaning.specs.Executions.{IsState, constants, no_scope}
use Rattle.cell_arena.specs.declared.build.Build.{Build}
use Rattle.cell_arena.specs.declared.kinds.CellId.{CellId}
use Rattle.cell_arena.specs.Growth.{Grows, Keeps}
use Rattle.cell_arena.proofs.Growing.{Grows-trans, Satisfies-before}
use Rattle.kernel_trees.specs.declared.system.System.{System}
use Rattle.kernel_trees.specs.TypeKinds.{Kind}
use Rattle.kernel_shapes.specs.declared.bounds.Shape.{Shape as Code}
use Rattle.kernel_shapes.specs.Codes.{mean}
use Rattle.kernel_shapes.specs.Fits.{StateFits}
use Rattle.kernel_shapes.specs.Laws.{FitsTyped}
use Rattle.kernel_shapes.specs.Levels.{constant_shapes, kept_constants, start_shapes}
use Rattle.kernel_shapes.specs.Systems.{system_parts}
use Rattle.kernel_shapes.specs.TypedStates.{EachOfKind}
use Rattle.kernel_shapes.proofs.StartLaw.{constants_fit}
use Rattle.shape_bounds.specs.Kept.{capped}
use Rattle.system_texts.specs.SystemTexts.{HasSystemTexts}
use Rattle.branch_cells.specs.declared.branch.BranchCells.{BranchCells}
use Rattle.branch_cells.specs.declared.branch.Ends.{Ends}
use Rattle.branch_cells.specs.Along.{CanGoAlong}
use Rattle.branch_cells.specs.Branches.{IsWhole}
use Rattle.branch_cells.specs.Ends.{AreEndsOf, ends_at}
use Rattle.level_laws.specs.Branches.{Held}
use Rattle.level_laws.specs.Constraints.{Allowed, Assignment, of_formula}
use Rattle.level_laws.proofs.Bits.{first_true}
use Rattle.level_laws.proofs.Formulas.{formula_grown, lit_reads}
use Rattle.level_laws.proofs.Growing.{allowed_more}
use Rattle.step_laws.specs.Encodable.{CanEncode}
use Rattle.step_laws.specs.PathEnds.{SomeEnds}
use Rattle.step_laws.specs.Systems.{StandsFor, steps_of}
use Rattle.step_laws.specs.Transitions.{HasConstants}
use Rattle.step_branches.specs.Readings.{state_at, values_at}
use Rattle.step_branches.specs.Ways.{IsStartWay, shapes_of_constants}
use Rattle.step_branches.proofs.Laws.{constants_are, constants_quiet, starts_are, starts_over}
use Rattle.step_branches.proofs.Premises.{GoesFromConstants, GoesFromNothing}
use Rattle.step_branches.proofs.Runs.{all_normal, follows, many}
use Rattle.encoder_laws.specs.declared.level.LevelCells.{LevelCells}
use Rattle.encoder_laws.specs.Levels.{IsLevelOf, kept_at}
use Rattle.encoder_laws.proofs.Cells.{AreThere, IsLater, state_same, there_later}
use Rattle.encoder_laws.proofs.Judging.{IsJudged}
use Rattle.encoder_laws.proofs.Laws.{MakesConstants, MakesStart, constants_held, first_level, level_cells, start_fits}
use Rattle.encoder_laws.proofs.Meant.{IsMeant, filled, level_shapes, same_count}
use Rattle.step_encoder.specs.inner.Asked.{AreKept, IsConditionOf, IsJudgedLevel, IsOver, names_of}
use Rattle.step_encoder.specs.inner.Made.{IsConstantsPart, IsFirst, IsStartPart}
use Rattle.step_encoder.proofs.AtStates.{AtLevel, assumption_ends, invariants_end, invariants_truth}
use Rattle.step_encoder.proofs.CellKinds.{kinds_count, kinds_later, kinds_there}
use Rattle.step_encoder.proofs.Conditions.{condition_later, width_kept}
use Rattle.step_encoder.proofs.Reached.{IsReached, below_later, over_reached, starts_reached}
use Rattle.step_encoder.proofs.Going.{can_constants, can_start}
use Rattle.step_encoder.proofs.Systems.{known, same_names}

-- ---- what stays as a build grows

texts_stay : (b c : Build) → Grows b c → c.arena.texts ≡ b.arena.texts
unfolding Keeps
texts_stay b c g = g.keeps.texts

pub over_later : (b c : Build) (s : System) → Grows b c → IsOver b s → IsOver c s
over_later b c s g h = record {
  known = h.known;
  texts = subst (λ (ts : List (List ℕ)). HasSystemTexts ts s) (sym (texts_stay b c g)) h.texts;
}

pub stands_later : (b c : Build) (job : Job) (s : System) → Grows b c → StandsFor (Some b.arena.width) job s →
    StandsFor (Some c.arena.width) job s
stands_later b c job s g h = subst (λ (n : ℕ). StandsFor (Some n) job s) (sym (width_kept b c g)) h

pub narrow_later : (b c : Build) → Grows b c → 4 ≤ b.arena.width → 4 ≤ c.arena.width
narrow_later b c g h = subst (λ (n : ℕ). 4 ≤ n) (sym (width_kept b c g)) h

pub wide_later : (b c : Build) → Grows b c → b.arena.width ≤ 64 → c.arena.width ≤ 64
wide_later b c g h = subst (λ (n : ℕ). n ≤ 64) (sym (width_kept b c g)) h

pub allowed_later : (b c : Build) → WellFormed b.formula → Grows b c →
    Allowed (of_formula b.formula) (λ a. Unit {0}) → Allowed (of_formula c.formula) (λ a. Unit {0})
allowed_later b c f g h =
    allowed_more (of_formula b.formula) (of_formula c.formula) (λ a. Unit {0}) (λ a. Unit {0})
    (formula_grown b.formula c.formula f g.formula) h
    (λ p q u ag. tt)

pub two : (n : ℕ) → 4 ≤ n → 2 ≤ n
two n h = omega (arith, h)

-- ---- a level whose invariants are judged

-- what is known of its state where its run literal is true
pub record IsFitting (b : Build) (s : System) (job : Job) (n : ℕ) (codes : List Code) (cells : List CellId)
    (run : Assignment → Bool) : Type 0 where
  pub known : CanEncode s
  pub stands : StandsFor (Some b.arena.width) job s
  pub kept : map mean codes ≡ map capped (level_shapes b.arena.width s n)
  pub fits : (a : Assignment) → Satisfies a b.formula → run a ≡ true →
      IsState job (state_at b.arena cells a) × FitsTyped known.names (level_shapes b.arena.width s n)
      (state_at b.arena cells a)

module _ (b : Build) (s : System) (job : Job) (n : ℕ) (codes : List Code) (whole : BranchCells) (x : LevelCells)
    (h : IsFitting b s job n codes whole.next (ends_at whole.ends Held))
    (j : IsJudgedLevel b s codes whole x) where
  at_level : (a : Assignment) → Satisfies a b.formula → ends_at whole.ends Held a ≡ true →
      AtLevel b s job codes whole.next a
  at_level a sat o =
      let f = h.fits a sat o in
      record {
        known = known s h.known;
        stands = h.stands;
        satisfies = sat;
        state = f.0;
        shapes = level_shapes b.arena.width s n;
        kept = h.kept;
        fits = subst (λ (ks : List Kind). FitsTyped ks (level_shapes b.arena.width s n)
            (state_at b.arena whole.next a)) (sym (same_names s h.known)) f.1;
      }

  pub judged_level : IsJudged (Some b.arena.width) job b.formula whole.ends.holds
      (state_at b.arena whole.next) j.asked.conditions j.asked.literals.judged x.not_true x.inv_big
  judged_level = record {
    outcomes = λ a sat o. invariants_end b s job codes whole.next a (at_level a sat o) j.asked.conditions j.asked.are;
    truths = λ a sat o. invariants_truth b s job codes whole.next a (at_level a sat o) j.asked.conditions j.asked.are;
    judged = j.asked.literals.judges;
    asks_not_true = j.asked.literals.not_true;
    asks_big = j.asked.literals.inv_big;
  }

abbrev level_by : List CellId → Lit → Lit → Lit → Lit → Lit → LevelCells
level_by ids run wrong big not_true inv_big = record {
  cells = ids;
  run = run;
  step_wrong = wrong;
  step_big = big;
  not_true = not_true;
  inv_big = inv_big;
}

pub level_same : (x : LevelCells) (cells : List CellId) (ends : Ends) → x.cells ≡ cells → x.run ≡ ends.holds →
    x.step_wrong ≡ ends.wrong → x.step_big ≡ ends.big →
    level_cells cells ends x.not_true x.inv_big ≡ x
level_same x cells ends e f g h =
    ap (λ (ids : List CellId). level_by ids ends.holds ends.wrong ends.big x.not_true x.inv_big) (sym e)
    ∙ (ap (λ (l : Lit). level_by x.cells l ends.wrong ends.big x.not_true x.inv_big) (sym f)
    ∙ (ap (λ (l : Lit). level_by x.cells x.run l ends.big x.not_true x.inv_big) (sym g)
    ∙ ap (λ (l : Lit). level_by x.cells x.run x.step_wrong l x.not_true x.inv_big) (sym h)))

-- ---- the first level

pub record Starts (job : Job) (s : System) (old new : Build) (codes : List Code) (x : LevelCells) : Type 0 where
  pub over : IsOver old s
  pub narrow : 4 ≤ old.arena.width
  pub wide : old.arena.width ≤ 64
  pub some : Allowed (of_formula old.formula) (λ a. Unit {0})
  pub stands : StandsFor (Some old.arena.width) job s
  pub shapes : map mean codes ≡ map capped (start_shapes (system_parts old.arena.width s))
  pub made : IsFirst old new s codes x

module _ (job : Job) (s : System) (old new : Build) (codes : List Code) (x : LevelCells)
    (h : Starts job s old new codes x) where
  abbrev m : IsFirst old new s codes x
  m = h.made

  abbrev c : IsConstantsPart old m.middle s m.constants
  c = m.first

  abbrev r : IsStartPart m.middle m.end s m.constants m.way m.whole
  r = m.rest

  abbrev b0 : Build
  b0 = c.middle

  abbrev b1 : Build
  b1 = m.middle

  abbrev b2 : Build
  b2 = r.from

  abbrev b3 : Build
  b3 = r.to

  abbrev bc : Build
  bc = r.chosen

  abbrev b4 : Build
  b4 = m.end

  g1 : Grows old b1
  g1 = Grows-trans old b0 b1 c.before c.grows

  g12 : Grows b1 b2
  g12 = Grows-trans b1 r.assumed b2 r.before r.onto

  g2 : Grows old b2
  g2 = Grows-trans old b1 b2 g1 g12

  gc : Grows b2 bc
  gc = Grows-trans b2 b3 bc r.grows r.choosing

  g4 : Grows old b4
  g4 = Grows-trans old bc b4 (Grows-trans old b2 bc g2 gc) r.after

  abbrev w : ℕ
  w = old.arena.width

  wide2 : (b : Build) → Grows old b → 2 ≤ b.arena.width
  wide2 b g = two b.arena.width (narrow_later old b g h.narrow)

  abbrev meant : IsMeant w job s
  meant = record { stands = h.stands; can = h.over.known; quiet = constants_quiet (Some w) job s h.over.known h.stands }

  names : names_of s ≡ h.over.known.names
  names = same_names s h.over.known

  nothing : GoesFromNothing job s b0 b1 c.others c.way m.constants
  nothing = record {
    wide = wide2 b0 c.before;
    formed = c.formed_middle;
    can = h.over.known;
    stands = stands_later old b0 job s c.before h.stands;
    begins = c.is;
    follow = subst (λ (ks : List Kind). CanGoAlong b0 ks c.way s.constants) names
        (can_constants b0 s (over_later old b0 s c.before h.over) (narrow_later old b0 c.before h.narrow)
        (wide_later old b0 c.before h.wide) c.others c.way c.kinds c.is);
    along = c.along;
    whole = subst (λ (ks : List Kind). IsWhole b1 ks m.constants) names c.whole;
    grows = c.grows;
    some = allowed_later old b0 c.formed c.before h.some;
  }

  abbrev constants_made : MakesConstants w job s b0 b1 b2 m.constants
  constants_made = record {
    meant = meant;
    width = width_kept old b0 c.before;
    first = c.grows;
    constants = constants_are job s b0 b1 c.others c.way m.constants nothing;
    there = kinds_there b1.arena.kinds (names_of s) m.constants.next c.whole.cells;
    later = record { formed = r.formed; grows = g12 };
  }

  -- where CInit holds
  held : (a : Assignment) → Satisfies a b2.formula → ends_at m.constants.ends Held a ≡ true → (t : State) →
      HasConstants job (take (constants job) (values_at b2.arena m.constants.next a)) t →
      SomeEnds (Some w) (steps_of s.constants) Held t t
  held a sat o t l = constants_held w job s b0 b1 b2 m.constants constants_made a sat o t l

  condition : IsConditionOf b2 m.way.env m.way.now m.way.next s.ker.assume r.truth
  condition = condition_later r.assumed b2 m.way.env m.way.now m.way.next s.ker.assume r.truth r.onto r.condition

  names_many : length h.over.known.names ≡ length job.names
  names_many = sym (filled w job s meant) ∙ (ap length h.stands.fixed ∙ many job.names)

  shapes_fit : (t : State) → IsState job t → SomeEnds (Some w) (steps_of s.constants) Held t t →
      StateFits (kept_constants s.ker.fixed (constant_shapes (system_parts w s))) t.vals ×
      EachOfKind h.over.known.names (constant_shapes (system_parts w s))
  shapes_fit t st e =
      constants_fit w s h.over.known.names t (two w h.narrow) (filled w job s meant)
      (st.fills ∙ sym names_many) h.over.known.constants (all_normal t.vals st.normal)
      (follows w s.constants t t e)

  assumed : (a : Assignment) → Satisfies a b2.formula → ends_at m.constants.ends Held a ≡ true → (t : State) →
      HasConstants job (take (constants job) (values_at b2.arena m.constants.next a)) t →
      AreEndsOf a r.truth (val (Some w) job.assume no_scope t t)
  assumed a sat o t l =
      let f = shapes_fit t l.0 (held a sat o t l) in
      subst (λ (n : ℕ). AreEndsOf a r.truth (val (Some n) job.assume no_scope t t)) (width_kept old b2 g2)
      (assumption_ends b2 s job m.is.codes m.constants.next m.way.env a t r.truth (record {
        known = known s h.over.known;
        silent = h.over.known.assume;
        stands = stands_later old b2 job s g2 h.stands;
        satisfies = sat;
        current = m.is.is.current;
        following = m.is.is.following;
        bound = m.is.is.is.bound;
        counted = same_count w job s meant;
        constants_are = l;
        shapes = constant_shapes (system_parts w s);
        kept = subst (λ (n : ℕ). map mean m.is.codes ≡ map capped (constant_shapes (system_parts n s)))
            (width_kept old b1 g1) m.is.shapes;
        fits = f.0;
        kinds = subst (λ (ks : List Kind). EachOfKind ks (constant_shapes (system_parts w s))) (sym names) f.1;
      }) (subst (λ (cs : List Code). IsConditionOf b2 m.way.env (shapes_of_constants s.ker.fixed m.is.codes) cs
      s.ker.assume r.truth) m.is.is.shapes_next
      (subst (λ (cs : List Code). IsConditionOf b2 m.way.env cs m.way.next s.ker.assume r.truth) m.is.is.shapes_now
      condition)))

  start_kept : AreKept m.is.codes
  start_kept = record { shapes = constant_shapes (system_parts b1.arena.width s); kept = m.is.shapes }

  -- from the constants
  from_constants : GoesFromConstants job s b2 b3 (lit_value r.known.holds) m.constants.next m.is.codes m.way r.part
  from_constants =
      let e : b2.arena.width ≡ b1.arena.width = width_kept b1 b2 g12 in
      let is : IsStartWay s b2.arena.width m.constants.next m.is.codes m.way =
      subst (λ (n : ℕ). IsStartWay s n m.constants.next m.is.codes m.way) (sym e) m.is.is in
      record {
        wide = wide2 b2 g2;
        formed = r.formed_from;
        can = h.over.known;
        stands = stands_later old b2 job s g2 h.stands;
        begins = is;
        follow = subst (λ (ks : List Kind). CanGoAlong b2 ks m.way s.start) names
            (can_start b2 s (over_later old b2 s g2 h.over) (narrow_later old b2 g2 h.narrow)
            (wide_later old b2 g2 h.wide) m.constants.next m.is.codes m.way start_kept
            (kinds_later b1 b2 (names_of s) m.constants.next g12 c.whole.cells) is);
        along = r.along;
        whole = subst (λ (ks : List Kind). IsWhole b3 ks r.part) names r.whole;
        grows = r.grows;
        reads = lit_reads b2.formula.vars r.known.holds (r.behind Held).below;
        kept = subst (λ (n : ℕ). map mean m.is.codes ≡ map capped (constant_shapes (system_parts n s)))
            (sym e) m.is.shapes;
        held = λ a sat o t l.
            subst (λ (n : ℕ). SomeEnds (Some n) (steps_of s.constants) Held t t) (sym (width_kept old b2 g2))
            (held a sat (first_true (ends_at m.constants.ends Held a) (ends_at r.truth Held a)
            (sym ((r.behind Held).value a sat) ∙ o)) t l);
      }

  -- Init where it is reached, and else the constants
  abbrev init : BranchCells
  init = record { ends = r.part.ends; next = r.cells }

  abbrev chosen : IsReached b2 b3 bc r.known.holds m.constants.next r.part.next r.cells
  chosen = record {
    below = below_later b2 b3 r.known.holds r.grows (r.behind Held).below;
    first = r.grows;
    formed = r.formed_to;
    grows = r.choosing;
    there = there_later b1 b2 m.constants.next g12 (kinds_there b1.arena.kinds (names_of s) m.constants.next
        c.whole.cells);
    part_there = kinds_there b3.arena.kinds (names_of s) r.part.next r.whole.cells;
    choice = r.choice;
  }

  abbrev start_made : MakesStart w job s b0 b1 b2 bc b4 m.constants r.truth r.known init m.whole.ends
  start_made = record {
    made = constants_made;
    some = nothing.some;
    below = condition.below;
    assumed = assumed;
    first = r.behind;
    starts = starts_reached job s b2 b3 bc r.known.holds m.constants.next r.part r.cells chosen
        (starts_are job s b2 b3 (lit_value r.known.holds) m.constants.next m.is.codes m.way r.part from_constants);
    onward = record { formed = r.formed_from; grows = gc };
    over = over_reached job b2 b3 bc r.known.holds m.constants.next r.part.next r.cells chosen
        (kinds_count b1.arena.kinds (names_of s) m.constants.next c.whole.cells ∙ (ap length names ∙ names_many))
        (λ a sat. starts_over job s b2 b3 (lit_value r.known.holds) m.constants.next m.is.codes m.way r.part
        from_constants a sat);
    there = kinds_there bc.arena.kinds (names_of s) r.cells r.kinds;
    last = record { formed = r.formed_chosen; grows = r.after };
    all = r.ends;
  }

  later : IsLater b4 new
  later = record { formed = m.formed; grows = m.grows }

  there_four : AreThere b4 r.cells
  there_four = there_later bc b4 r.cells r.after (kinds_there bc.arena.kinds (names_of s) r.cells r.kinds)

  state_new : (a : Assignment) → state_at b4.arena r.cells a ≡ state_at new.arena m.whole.next a
  state_new a =
      ap (λ (f : Assignment → State). f a) (state_same b4 new m.grows r.cells there_four)
      ∙ ap (λ (ids : List CellId). state_at new.arena ids a) (sym r.next)

  width_new : new.arena.width ≡ w
  width_new = width_kept old new (Grows-trans old b4 new g4 m.grows)

  fitting : IsFitting new s job 0 codes m.whole.next (ends_at m.whole.ends Held)
  fitting = record {
    known = h.over.known;
    stands = stands_later old new job s (Grows-trans old b4 new g4 m.grows) h.stands;
    kept = subst (λ (n : ℕ). map mean codes ≡ map capped (level_shapes n s 0)) (sym width_new) h.shapes;
    fits = λ a sat o.
        let f = start_fits w job s b0 b1 b2 bc b4 m.constants r.truth r.known init m.whole.ends start_made
        (two w h.narrow) a (Satisfies-before b4 new a m.grows sat) o in
        subst (λ (n : ℕ). IsState job (state_at new.arena m.whole.next a) × FitsTyped h.over.known.names
        (level_shapes n s 0) (state_at new.arena m.whole.next a)) (sym width_new)
        (subst (λ (t : State). IsState job t × FitsTyped h.over.known.names (level_shapes w s 0) t) (state_new a) f);
  }

  judged : IsJudged (Some w) job new.formula m.whole.ends.holds (state_at new.arena r.cells)
      m.level.asked.conditions m.level.asked.literals.judged x.not_true x.inv_big
  judged =
      subst (λ (ids : List CellId).
      IsJudged (Some w) job new.formula m.whole.ends.holds (state_at new.arena ids) m.level.asked.conditions
      m.level.asked.literals.judged x.not_true x.inv_big) r.next
      (subst (λ (n : ℕ).
      IsJudged (Some n) job new.formula m.whole.ends.holds (state_at new.arena m.whole.next) m.level.asked.conditions
      m.level.asked.literals.judged x.not_true x.inv_big) width_new
      (judged_level new s job 0 codes m.whole x fitting m.level))

  pub first_is : (levels : List LevelCells) → IsLevelOf (Some w) job s new.formula 0 (kept_at new.arena levels 0 x)
  first_is levels =
      subst (λ (y : LevelCells). IsLevelOf (Some w) job s new.formula 0 (kept_at new.arena levels 0 y))
      (level_same x r.cells m.whole.ends (m.level.cells ∙ r.next) m.level.run m.level.wrong m.level.big)
      (first_level w job s b0 b1 b2 bc b4 m.constants r.truth r.known init m.whole.ends start_made new later
      m.level.asked.conditions m.level.asked.literals.judged x.not_true x.inv_big
      levels judged)
