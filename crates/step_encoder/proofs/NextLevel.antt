-- One level more that is made says what it is to say.
use Rattle.std.proofs.Common.{◌≡◌, ℕ, suc, ◌<◌, ◌≤◌, List, [], ◌∷◌, ◌++◌, map, length, Some}
use Rattle.std.proofs.Common.{refl, sym, ◌∙◌, ap, subst}
use Rattle.std.specs.Prelude.{slice_get}
use Rattle.sat_formula.specs.Lit.{lit_value}
use Rattle.tla_meaning.specs.declared.job.Job.{Job}
use Rattle.tla_meaning.specs.declared.job.State.{State}
use Rattle.tla_meaning.specs.Executions.{IsState}
use Rattle.cell_arena.specs.declared.build.Build.{Build}
use Rattle.cell_arena.specs.declared.kinds.CellId.{CellId}
use Rattle.cell_arena.specs.Growth.{Grows}
use Rattle.cell_arena.proofs.Growing.{Grows-trans, Satisfies-before}
use Rattle.kernel_trees.specs.declared.system.System.{System}
use Rattle.kernel_trees.specs.TypeKinds.{Kind}
use Rattle.kernel_shapes.specs.declared.bounds.Shape.{Shape as Code}
use Rattle.kernel_shapes.specs.Codes.{mean}
use Rattle.kernel_shapes.specs.Laws.{FitsTyped}
use Rattle.shape_bounds.specs.Kept.{capped}
use Rattle.branch_cells.specs.Along.{CanGoAlong}
use Rattle.branch_cells.specs.Branches.{AreOfKinds, IsWhole}
use Rattle.branch_cells.specs.Ends.{ends_at}
use Rattle.level_laws.specs.Branches.{Held}
use Rattle.level_laws.specs.Constraints.{Assignment, of_formula}
use Rattle.level_laws.proofs.Formulas.{lit_reads}
use Rattle.step_laws.specs.Systems.{StandsFor}
use Rattle.step_branches.specs.Readings.{state_at}
use Rattle.step_branches.proofs.Laws.{constants_quiet, steps_are}
use Rattle.step_branches.proofs.Premises.{GoesFromLevel}
use Rattle.encoder_laws.specs.declared.level.LevelCells.{LevelCells}
use Rattle.encoder_laws.specs.Levels.{IsLevelOf, kept_at}
use Rattle.encoder_laws.proofs.Cells.{AreThere, IsLater, state_same, there_later}
use Rattle.encoder_laws.proofs.Growing.{HasLevelCells}
use Rattle.encoder_laws.proofs.Judging.{IsJudged}
use Rattle.encoder_laws.proofs.Laws.{MakesStep, next_level, step_fits}
use Rattle.encoder_laws.proofs.Meant.{IsMeant, level_fits, level_shapes}
use Rattle.step_encoder.specs.inner.Asked.{AreKept, IsOver, names_of}
use Rattle.step_encoder.specs.inner.Made.{IsNextLevel, IsStepPart}
use Rattle.step_encoder.proofs.CellKinds.{kinds_there}
use Rattle.step_encoder.proofs.Conditions.{width_kept}
use Rattle.step_encoder.proofs.FirstLevel.{IsFitting, judged_level, level_same, stands_later, two}
use Rattle.step_encoder.proofs.Going.{can_step}
use Rattle.step_encoder.proofs.Systems.{same_names}

pub record Steps (job : Job) (s : System) (old new : Build) (levels : List LevelCells) (n : ℕ) (from : LevelCells)
    (codes after : List Code) (x : LevelCells) : Type 0 where
  pub over : IsOver old s
  pub narrow : 4 ≤ old.arena.width
  pub wide : old.arena.width ≤ 64
  pub stands : StandsFor (Some old.arena.width) job s
  pub last : slice_get levels n ≡ Some from
  pub many : length levels ≡ suc n
  pub cells : HasLevelCells old levels
  pub kinds : AreOfKinds old.arena.kinds (names_of s) from.cells
  pub run : from.run.var < old.formula.vars
  pub level : IsLevelOf (Some old.arena.width) job s old.formula n (kept_at old.arena levels n from)
  pub kept : map mean codes ≡ map capped (level_shapes old.arena.width s n)
  pub next : map mean after ≡ map capped (level_shapes old.arena.width s (suc n))
  pub made : IsNextLevel old new s from codes after x

module _ (job : Job) (s : System) (old new : Build) (levels : List LevelCells) (n : ℕ) (from : LevelCells)
    (codes after : List Code) (x : LevelCells)
    (h : Steps job s old new levels n from codes after x) where
  abbrev m : IsNextLevel old new s from codes after x
  m = h.made

  abbrev r : IsStepPart old m.end s from codes m.whole
  r = m.part

  abbrev w : ℕ
  w = old.arena.width

  g2 : Grows old m.end
  g2 = Grows-trans old r.to m.end r.grows r.after

  g3 : Grows old new
  g3 = Grows-trans old m.end new g2 m.grows

  abbrev meant : IsMeant w job s
  meant = record { stands = h.stands; can = h.over.known; quiet = constants_quiet (Some w) job s h.over.known h.stands }

  names : names_of s ≡ h.over.known.names
  names = same_names s h.over.known

  step_kept : AreKept codes
  step_kept = record { shapes = level_shapes w s n; kept = h.kept }

  from_level : GoesFromLevel job s old r.to (lit_value from.run) from.cells codes r.way r.part
  from_level = record {
    wide = two w h.narrow;
    formed = r.formed;
    can = h.over.known;
    stands = h.stands;
    begins = r.is;
    follow = subst (λ (ks : List Kind). CanGoAlong old ks r.way s.next) names
        (can_step old s h.over h.narrow h.wide from.cells codes r.way step_kept h.kinds r.is);
    along = r.along;
    whole = subst (λ (ks : List Kind). IsWhole r.to ks r.part) names r.whole;
    grows = r.grows;
    reads = lit_reads old.formula.vars from.run h.run;
    shapes = level_shapes w s n;
    kept = h.kept;
    fits = λ a sat o. (level_fits w job s meant (two w h.narrow) (of_formula old.formula) n
        (kept_at old.arena levels n from).run h.level.encoded.level a sat o).1;
  }

  abbrev step_made : MakesStep w job s old r.to m.end levels n from r.part m.whole.ends
  step_made = record {
    meant = meant;
    width = refl;
    last = h.last;
    many = h.many;
    cells = h.cells;
    level = h.level;
    steps = steps_are job s old r.to (lit_value from.run) from.cells codes r.way r.part from_level;
    onward = record { formed = r.formed; grows = r.grows };
    there = kinds_there r.to.arena.kinds (names_of s) r.part.next r.whole.cells;
    after = record { formed = r.formed_to; grows = r.after };
    also = r.ends;
  }

  later : IsLater m.end new
  later = record { formed = m.formed; grows = m.grows }

  there_end : AreThere m.end r.part.next
  there_end = there_later r.to m.end r.part.next r.after (kinds_there r.to.arena.kinds
      (names_of s) r.part.next r.whole.cells)

  state_new : (a : Assignment) → state_at m.end.arena r.part.next a ≡ state_at new.arena m.whole.next a
  state_new a =
      ap (λ (f : Assignment → State). f a) (state_same m.end new m.grows r.part.next there_end)
      ∙ ap (λ (ids : List CellId). state_at new.arena ids a) (sym r.next)

  width_new : new.arena.width ≡ w
  width_new = width_kept old new g3

  fitting : IsFitting new s job (suc n) after m.whole.next (ends_at m.whole.ends Held)
  fitting = record {
    known = h.over.known;
    stands = stands_later old new job s g3 h.stands;
    kept = subst (λ (k : ℕ). map mean after ≡ map capped (level_shapes k s (suc n))) (sym width_new) h.next;
    fits = λ a sat o.
        let f = step_fits w job s old r.to m.end levels n from r.part m.whole.ends step_made (two w h.narrow) a
        (Satisfies-before m.end new a m.grows sat) o in
        subst (λ (k : ℕ). IsState job (state_at new.arena m.whole.next a) × FitsTyped h.over.known.names
        (level_shapes k s (suc n)) (state_at new.arena m.whole.next a)) (sym width_new)
        (subst (λ (t : State). IsState job t × FitsTyped h.over.known.names (level_shapes w s (suc n)) t)
        (state_new a) f);
  }

  judged : IsJudged (Some w) job new.formula m.whole.ends.holds (state_at new.arena r.part.next)
      m.level.asked.conditions m.level.asked.literals.judged x.not_true x.inv_big
  judged =
      subst (λ (ids : List CellId).
      IsJudged (Some w) job new.formula m.whole.ends.holds (state_at new.arena ids) m.level.asked.conditions
      m.level.asked.literals.judged x.not_true x.inv_big) r.next
      (subst (λ (k : ℕ).
      IsJudged (Some k) job new.formula m.whole.ends.holds (state_at new.arena m.whole.next) m.level.asked.conditions
      m.level.asked.literals.judged x.not_true x.inv_big) width_new
      (judged_level new s job (suc n) after m.whole x fitting m.level))

  pub next_is : IsLevelOf (Some w) job s new.formula (suc n) (kept_at new.arena (levels ++ x ∷ []) (suc n) x)
  next_is =
      subst (λ (y : LevelCells). IsLevelOf (Some w) job s new.formula (suc n)
      (kept_at new.arena (levels ++ y ∷ []) (suc n) y))
      (level_same x r.part.next m.whole.ends (m.level.cells ∙ r.next) m.level.run m.level.wrong m.level.big)
      (next_level w job s old r.to m.end levels n from r.part m.whole.ends step_made new later
      m.level.asked.conditions m.level.asked.literals.judged x.not_true x.inv_big judged)
