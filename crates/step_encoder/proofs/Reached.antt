-- The cells of Init where it is reached, and of the constants elsewhere, say what Init's say.
use Rattle.std.proofs.Common.{◌≡◌, ◌<◌, Bool, true, false, List, take, length, refl, sym, ◌∙◌, ap, subst, arith}
use Rattle.sat_formula.specs.declared.lit.Lit.{Lit}
use Rattle.sat_formula.specs.Formula.{Satisfies, WellFormed}
use Rattle.sat_formula.specs.Lit.{lit_value}
use Rattle.tla_values.specs.declared.value.Value.{Value}
use Rattle.tla_meaning.specs.declared.job.Job.{Job}
use Rattle.tla_meaning.specs.declared.job.State.{State}
use Rattle.tla_meaning.specs.Executions.{constants}
use Rattle.cell_arena.specs.declared.build.Build.{Build}
use Rattle.cell_arena.specs.declared.kinds.CellId.{CellId}
use Rattle.cell_arena.specs.Growth.{Grows}
use Rattle.cell_arena.proofs.Growing.{Grows-trans, Satisfies-before}
use Rattle.kernel_trees.specs.declared.system.System.{System}
use Rattle.branch_cells.specs.declared.branch.BranchCells.{BranchCells}
use Rattle.branch_cells.specs.Branches.{AreOfEither}
use Rattle.level_laws.specs.Branches.{Branch, BranchReading, Held, Transition}
use Rattle.level_laws.specs.Constraints.{Assignment, Constraint, Reads, of_formula, under}
use Rattle.level_laws.proofs.Bits.{if_false, if_true}
use Rattle.level_laws.proofs.Branches.{branch_later}
use Rattle.level_laws.proofs.Formulas.{formula_grown, lit_reads}
use Rattle.level_laws.proofs.Growing.{grown_under}
use Rattle.step_laws.specs.Transitions.{HasConstants, InitGoes}
use Rattle.step_laws.specs.Systems.{steps_of}
use Rattle.step_branches.specs.Branches.{AreStarts, width_of}
use Rattle.step_branches.specs.Readings.{reading, state_at, values_at}
use Rattle.step_branches.proofs.Fitting.{state_is, state_reads}
use Rattle.encoder_laws.proofs.Cells.{AreThere, state_same}

pub below_later : (b c : Build) (l : Lit) → Grows b c → l.var < b.formula.vars → l.var < c.formula.vars
below_later b c l g lt = let le = g.formula.vars in omega (arith, lt, le)

-- another next state may be read that is the same under each allowed assignment
branch_next : {E S : Type 0} (f g : Constraint) (now : Assignment → E) (P : Transition E S) (x : BranchReading S)
    (next : Assignment → S) → Reads g.vars next → ((a : Assignment) → g.Sat a → next a ≡ x.next a) →
    Branch f g now P x → Branch f g now P (record { ends = x.ends; next = next })
branch_next {E = E} {S = S} f g now P x next reads same b = record {
  grown = b.grown;
  ends_read = b.ends_read;
  next_reads = reads;
  sound = λ k a s e. subst (λ (t : S). P k (now a) t) (sym (same a s)) (b.sound k a s e);
  reach = λ a t s p.
      let u = b.reach a t s p in
      record {
        to = u.to;
        agrees = u.agrees;
        satisfies = u.satisfies;
        so = (u.so.0, same u.to u.satisfies ∙ u.so.1);
      };
  find = b.find;
}

-- Over b3 stand the cells of Init, over b4 those that are chosen by the literal: Init's, or those of the constants,
-- which stand over b2.
pub record IsReached (b2 b3 b4 : Build) (l : Lit) (others cells ids : List CellId) : Type 0 where
  pub below : l.var < b3.formula.vars
  pub first : Grows b2 b3
  pub formed : WellFormed b3.formula
  pub grows : Grows b3 b4
  pub there : AreThere b2 others
  pub part_there : AreThere b3 cells
  pub choice : AreOfEither b4 l cells others ids

module _ (b2 b3 b4 : Build) (l : Lit) (others cells ids : List CellId)
    (h : IsReached b2 b3 b4 l others cells ids) where
  -- where the literal is true the state is Init's
  reached : (a : Assignment) → Satisfies a b4.formula → lit_value l a ≡ true →
      state_at b4.arena ids a ≡ state_at b3.arena cells a
  reached a sat o =
      ap (λ (vs : List Value). record { vals = vs })
      (h.choice a sat ∙ if_true (lit_value l a) (values_at b4.arena cells a) (values_at b4.arena others a) o)
      ∙ sym (ap (λ (f : Assignment → State). f a) (state_same b3 b4 h.grows cells h.part_there))

  -- and else that of the constants
  left : (a : Assignment) → Satisfies a b4.formula → lit_value l a ≡ false →
      state_at b4.arena ids a ≡ state_at b2.arena others a
  left a sat o =
      ap (λ (vs : List Value). record { vals = vs })
      (h.choice a sat ∙ if_false (lit_value l a) (values_at b4.arena cells a) (values_at b4.arena others a) o)
      ∙ sym (ap (λ (f : Assignment → State). f a)
      (state_same b2 b4 (Grows-trans b2 b3 b4 h.first h.grows) others h.there))

pub starts_reached : (job : Job) (s : System) (b2 b3 b4 : Build) (l : Lit) (others : List CellId) (part : BranchCells)
    (ids : List CellId) → IsReached b2 b3 b4 l others part.next ids →
    AreStarts job s b2 b3 (lit_value l) others part →
    AreStarts job s b2 b4 (lit_value l) others (record { ends = part.ends; next = ids })
starts_reached job s b2 b3 b4 l others part ids h z =
    let on : Assignment → Bool = lit_value l in
    let f : Constraint = under (of_formula b2.formula) on in
    let g : Constraint = under (of_formula b3.formula) on in
    let i : Constraint = under (of_formula b4.formula) on in
    let now : Assignment → List Value = λ a. take (constants job) (values_at b2.arena others a) in
    record {
      branch =
          branch_next f i now (InitGoes (width_of b2) job (steps_of s.start)) (reading b3.arena part)
          (state_at b4.arena ids) (state_reads b4 ids)
          (λ a sat. reached b2 b3 b4 l others part.next ids h a sat.0 sat.1)
          (branch_later f g i now (InitGoes (width_of b2) job (steps_of s.start)) (reading b3.arena part) z.branch
          (grown_under (of_formula b3.formula) (of_formula b4.formula) on (lit_reads b3.formula.vars l h.below)
          (formula_grown b3.formula b4.formula h.formed h.grows.formula)));
      kinds = z.kinds;
    }

-- the states have the constants, whatever the literal
pub over_reached : (job : Job) (b2 b3 b4 : Build) (l : Lit) (others cells ids : List CellId) →
    IsReached b2 b3 b4 l others cells ids → length others ≡ length job.names →
    ((a : Assignment) → Satisfies a b3.formula →
    HasConstants job (take (constants job) (values_at b2.arena others a)) (state_at b3.arena cells a)) →
    (a : Assignment) → Satisfies a b4.formula →
    HasConstants job (take (constants job) (values_at b2.arena others a)) (state_at b4.arena ids a)
over_reached job b2 b3 b4 l others cells ids h many over a sat = by (lit_value l a) refl
  where
    has : State → Type 0
    has = HasConstants job (take (constants job) (values_at b2.arena others a))

    by : (t : Bool) → lit_value l a ≡ t → has (state_at b4.arena ids a)
    by true o =
        subst has (sym (reached b2 b3 b4 l others cells ids h a sat o)) (over a (Satisfies-before b3 b4 a h.grows sat))
    by false o =
        subst has (sym (left b2 b3 b4 l others cells ids h a sat o)) (state_is job b2 others a many, refl)
