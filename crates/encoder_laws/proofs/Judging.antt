-- The invariants of a level: their literals, and that they are truth values.
use Rattle.std.proofs.Common.{◌≡◌, ◌↔◌, Bool, true, ◌&&◌, List, map, sym, ◌∙◌, subst}
use Rattle.sat_formula.specs.declared.cnf.Cnf.{Cnf}
use Rattle.sat_formula.specs.declared.lit.Lit.{Lit}
use Rattle.sat_formula.specs.Formula.{HasValue as HasGate, Satisfies}
use Rattle.sat_formula.specs.Lit.{lit_value}
use Rattle.tla_meaning.specs.declared.job.Job.{Job}
use Rattle.tla_meaning.specs.declared.job.State.{State}
use Rattle.tla_meaning.specs.Actions.{val}
use Rattle.tla_meaning.specs.Executions.{invariant, no_scope}
use Rattle.tla_meaning.specs.Numbers.{Width}
use Rattle.tla_meaning.specs.Questions.{IsBigOutcome, IsNotTrue}
use Rattle.level_laws.specs.Constraints.{Assignment, IsTrueWhere, of_formula}
use Rattle.level_laws.specs.Levels.{Level, LevelReading}
use Rattle.level_laws.proofs.Formulas.{lit_reads}
use Rattle.level_laws.proofs.Levels.{OnState}
use Rattle.branch_cells.specs.declared.branch.Ends.{Ends}
use Rattle.branch_cells.specs.Ends.{AreAllEndsOf, AreJudged}
use Rattle.encoder_laws.specs.Levels.{HaveTruths}
use Rattle.encoder_laws.proofs.Literals.{and_first, and_second, and_true}

-- Over a formula, of the state that is read of a level: where the run literal is true, the ends are those of the
-- invariants (`condition`), which are truth values (their cells are bits); of the ends the first that is not TRUE is
-- judged (`judged`), and counts where the run literal is true (`Formula::and`).
pub record IsJudged (w : Width) (job : Job) (f : Cnf) (run : Lit) (state : Assignment → State) (xs : List Ends)
    (bad : Lit × Lit)
    (not_true inv_big : Lit) : Type 0 where
  pub outcomes : (a : Assignment) → Satisfies a f → lit_value run a ≡ true →
      AreAllEndsOf a xs (map (λ e. val w e.1 no_scope (state a) (state a)) job.invs)
  pub truths : (a : Assignment) → Satisfies a f → lit_value run a ≡ true → HaveTruths w job (state a)
  pub judged : AreJudged f xs bad
  pub asks_not_true : HasGate f not_true (λ a. lit_value run a && lit_value bad.0 a)
  pub asks_big : HasGate f inv_big (λ a. lit_value run a && lit_value bad.1 a)

-- a literal that counts where the run literal is true
counted : (f : Cnf) (run bad l : Lit) (x : LevelReading State) (Q : State → Type 0) → x.on ≡ lit_value run →
    HasGate f l (λ a. lit_value run a && lit_value bad a) →
    ((a : Assignment) → Satisfies a f → lit_value run a ≡ true → (lit_value bad a ≡ true) ↔ Q (x.now a)) →
    IsTrueWhere (of_formula f) (lit_value l) (OnState x Q)
counted f run bad l x Q same gate says = record {
  reads = lit_reads f.vars l gate.below;
  exact = λ a s.
      subst (λ (on : Assignment → Bool). (lit_value l a ≡ true) ↔ ((on a ≡ true) × Q (x.now a))) (sym same) (
        λ e.
            let z = sym (gate.value a s) ∙ e in
            let o = and_first (lit_value run a) (lit_value bad a) z in
            (o, (says a s o).0 (and_second (lit_value run a) (lit_value bad a) z)),
        λ m. gate.value a s ∙ and_true (lit_value run a) (lit_value bad a) m.0 ((says a s m.0).1 m.1),
      );
}

module _ (w : Width) (job : Job) (f : Cnf) (run : Lit) (x : LevelReading State) (same : x.on ≡ lit_value run)
    (xs : List Ends) (bad : Lit × Lit) (not_true inv_big : Lit)
    (h : IsJudged w job f run x.now xs bad not_true inv_big) where
  both : (a : Assignment) → Satisfies a f → lit_value run a ≡ true →
      ((lit_value bad.0 a ≡ true) ↔ IsNotTrue (invariant w job (x.now a)))
      × ((lit_value bad.1 a ≡ true) ↔ IsBigOutcome (invariant w job (x.now a)))
  both a s o = h.judged.says a s (map (λ e. val w e.1 no_scope (x.now a) (x.now a)) job.invs) (h.outcomes a s o)

  pub judges_not_true : IsTrueWhere (of_formula f) (lit_value not_true) (OnState x (λ s. IsNotTrue (invariant w job s)))
  judges_not_true =
      counted f run bad.0 not_true x (λ s. IsNotTrue (invariant w job s)) same h.asks_not_true (λ a s o. (both a s o).0)

  pub judges_big : IsTrueWhere (of_formula f) (lit_value inv_big) (OnState x (λ s. IsBigOutcome (invariant w job s)))
  judges_big =
      counted f run bad.1 inv_big x (λ s. IsBigOutcome (invariant w job s)) same h.asks_big (λ a s o. (both a s o).1)

  -- at the ends of runs too
  pub truths_of : (R : List State → State → Type 0) → Level (of_formula f) x R → (ss : List State) (t : State) →
      R ss t → HaveTruths w job t
  truths_of R l ss t r =
      let u = l.reach ss t r in
      subst (HaveTruths w job) u.so.1.1 (h.truths u.at u.satisfies (subst (λ (on : Assignment → Bool). on u.at ≡ true)
      same u.so.0))
