-- A journal after one more question.
use Rattle.std.proofs.Common.{◌≡◌, ℕ, ◌+◌, ◌≤◌, Bool, true, false, List, [], ◌∷◌, ◌++◌, length, Option, Some, refl, sym, ◌∙◌, ap, subst, arith}
use Rattle.std.specs.Prelude.{unwrap_or}
use Rattle.sat_formula.specs.declared.cnf.Cnf.{Cnf}
use Rattle.sat_formula.specs.declared.lit.Lit.{Lit}
use Rattle.cdcl_solver.specs.Answers.{clauses_with}
use Rattle.refutation_checker.specs.declared.log.Step.{Step}
use Rattle.refutation_checker.specs.declared.section.Section.{Section}
use Rattle.sat_formula.specs.Clause.{NamesBelow}
use Rattle.snowcat_rows.specs.declared.types.Ty.{Ty}
use Rattle.tla_meaning.specs.Numbers.{Width}
use Rattle.tla_meaning.specs.Questions.{NoneBelow}
use Rattle.tla_meaning.specs.declared.job.Job.{Job}
use Rattle.tla_meaning.specs.declared.questions.Query.{Query}
use Rattle.tla_meaning.specs.declared.questions.Query.TheVariants.{AssumeBig}
use Rattle.tla_meaning.proofs.LevelLaw.{none_errs}
use Rattle.trace_text.specs.declared.verdict.Verdict.{Verdict}
use Rattle.trace_text.specs.declared.verdict.Verdict.TheVariants.{Spent}
use Rattle.trace_text.specs.declared.verdict.Where.TheVariants.{Level}
use Rattle.bounded_engine.specs.declared.asking.Journal.{Journal}
use Rattle.bounded_engine.specs.declared.asking.Question.{Question}
use Rattle.bounded_engine.specs.Answers.{IsChecked}
use Rattle.bounded_engine.specs.Sections.{Asked, AreRefuted, Encodes, IsCutAt, IsLiteralOf, IsRefuted, IsWithin, asked_below, asked_until, conflicts_in, conflicts_spent, name_of}
use Rattle.bounded_engine.specs.Verdicts.{NoneErrsBelow}
use Rattle.bounded_engine.specs.inner.Asking.{AddsOpen, AddsRefuted, HasRefuted, IsLeft, section_of}
use Rattle.bounded_engine.proofs.Conflicts.{all_conflicts, left_at_first, left_more, left_spent, left_within, log_within, spent_more}
use Rattle.bounded_engine.proofs.InFiles.{no_places}
use Rattle.bounded_engine.proofs.Holding.{levels_before, no_step_before, none_more, not_holds}

-- ---- one section more

refuted_more : (w : Width) (job : Job) (questions : List Asked) (x : Asked) (sections : List Section) (s : Section)
    → AreRefuted w job questions sections → IsRefuted w job x s → AreRefuted w job (questions ++ x ∷ []) (sections ++ s ∷ [])
refuted_more w job [] x [] s are is = (is, tt)
refuted_more w job [] x (t ∷ sections) s are is = absurd are
refuted_more w job (y ∷ questions) x [] s are is = absurd are
refuted_more w job (y ∷ questions) x (t ∷ sections) s are is = (are.0, refuted_more w job questions x sections s are.1 is)

encodes : (w : Width) (job : Job) (f : Cnf) (n : ℕ) (q : Query) (l : Lit) → IsLiteralOf w job f n q l
    → Encodes w job n q record { vars = f.vars; clauses = clauses_with f l }
encodes w job f n q l asks = record { rest = f.clauses; asked = l; clauses = refl; asks = asks }

-- the section that was added
pub section_added : (old new : List Section) (x : Section) (f g : Cnf) (q : Question) (l : Lit) (log : List Step) (is_open : Bool) → new ≡ old ++ x ∷ []
    → x ≡ record { level = q.level; typed = false; query = name_of q.query; formula = g; log = log; is_open = is_open }
    → g ≡ record { vars = f.vars; clauses = clauses_with f l } → new ≡ old ++ section_of f q l log is_open ∷ []
section_added old new x f g q l log is_open added is same =
    let whole : x ≡ section_of f q l log is_open =
    is ∙ ap (λ (c : Cnf). record { level = q.level; typed = false; query = name_of q.query; formula = c; log = log; is_open = is_open }) same in
    added ∙ ap (λ (y : Section). old ++ y ∷ []) whole

pub names_below : (f g : Cnf) (l : Lit) → g ≡ record { vars = f.vars; clauses = clauses_with f l } → NamesBelow g.vars g.clauses
    → NamesBelow f.vars (clauses_with f l)
names_below f g l same below = subst (λ (c : Cnf). NamesBelow c.vars c.clauses) same below

-- ---- the questions that are left

abbrev pub asked_of : Question → Asked
asked_of question = (question.level, question.query)

module _ (w : Width) (job : Job) (budget : Option ℕ) (question : Question) (f : Cnf) (l : Lit) (old new : Journal) where
  pub journal_more : IsLiteralOf w job f question.level question.query l
      → HasRefuted w job budget (asked_until question.level question.query) old → AddsRefuted f question l old new
      → HasRefuted w job budget (asked_until question.level question.query ++ asked_of question ∷ []) new
  journal_more asks has adds =
      let n = question.level in
      let q = question.query in
      let questions : List Asked = asked_until n q in
      let x : Section = section_of f question l adds.log false in
      let spent = log_within old.left adds.log adds.refutation.within adds.refutation.refutes.1 in
      let more = left_more budget (conflicts_spent old.sections.items) (conflicts_in adds.log) old.left has.left spent in
      let sum : conflicts_spent new.sections.items ≡ conflicts_spent old.sections.items + conflicts_in adds.log =
      ap conflicts_spent adds.sections ∙ spent_more old.sections.items x in
      record {
        refuted = subst (AreRefuted w job (questions ++ (n, q) ∷ [])) (sym adds.sections)
            (refuted_more w job questions (n, q) old.sections.items x has.refuted record {
              of = record {
                level = refl;
                typed = refl;
                query = refl;
                encodes = encodes w job f n q l asks;
                clauses = adds.within;
                steps = adds.refutation.derived.names;
                new = adds.refutation.derived.new;
              };
              closed = refl;
              refutes = adds.refutation.refutes;
            });
        none = none_more w job questions n q has.none (not_holds w job f n q l asks (no_step_before w job n q has.none) adds.unsatisfiable);
        left =
            subst (λ (k : ℕ). IsLeft budget k new.left) (sym sum)
            (subst (IsLeft budget (conflicts_spent old.sections.items + conflicts_in adds.log)) (sym adds.left) more);
        budget_is = adds.budget ∙ has.budget_is;
      }

  pub journal_cut : (q : question.query ≡ AssumeBig → ⊥) → IsLiteralOf w job f question.level question.query l
      → HasRefuted w job budget (asked_until question.level question.query) old → AddsOpen f question l old new
      → IsCutAt w job (conflicts_spent new.sections.items) question.level new.sections.items
      × (budget ≡ Some (conflicts_spent new.sections.items)) × (new.budget ≡ budget)
  journal_cut of_levels asks has adds =
      let n = question.level in
      let q = question.query in
      let x : Section = section_of f question l adds.log true in
      let sum : conflicts_spent new.sections.items ≡ conflicts_spent old.sections.items + length adds.log =
      ap conflicts_spent adds.sections ∙ spent_more old.sections.items x
      ∙ ap (λ (k : ℕ). conflicts_spent old.sections.items + k) (all_conflicts adds.log adds.spent.some) in (
        record {
          query = q;
          of_levels = of_levels;
          refuted = old.sections.items;
          last = x;
          sections_are = adds.sections;
          before = has.refuted;
          left = record {
            of = record {
              level = refl;
              typed = refl;
              query = refl;
              encodes = encodes w job f n q l asks;
              clauses = adds.within;
              steps = adds.spent.derived.names;
              new = adds.spent.derived.new;
            };
            open_there = refl;
            follow = adds.spent.derived.follow;
            some = adds.spent.some;
          };
          spent = refl;
        },
        left_spent budget (conflicts_spent old.sections.items) (length adds.log) old.left has.left adds.spent.count ∙ ap (λ (k : ℕ). Some k) (sym sum),
        adds.budget ∙ has.budget_is,
      )

pub first_journal : (w : Width) (job : Job) (budget : Option ℕ) (journal : Journal) → journal.sections.items ≡ [] → journal.budget ≡ budget
    → journal.left ≡ budget → HasRefuted w job budget (asked_below 0) journal
first_journal w job budget journal none same all = record {
  refuted = subst (AreRefuted w job []) (sym none) tt;
  none = tt;
  left = subst (IsLeft budget (conflicts_spent journal.sections.items)) (sym all)
      (subst (λ (s : List Section). IsLeft budget (conflicts_spent s) budget) (sym none) (left_at_first budget));
  budget_is = same;
}

pub is_within : (w : Width) (job : Job) (budget : Option ℕ) (questions : List Asked) (journal : Journal) → HasRefuted w job budget questions journal
    → IsWithin budget (conflicts_spent journal.sections.items)
is_within w job budget questions journal has = left_within budget (conflicts_spent journal.sections.items) journal.left has.left

pub none_errs_below : (w : ℕ) (job : Job) (n : ℕ) → NoneBelow (Some w) job n → NoneErrsBelow job n
none_errs_below w job n none k lt = none_errs w job k (λ m less. none m (omega arith))

-- ---- the budget spent

spent_within : (budget : Option ℕ) (spent : ℕ) → budget ≡ Some spent → IsWithin budget spent
spent_within budget spent e = subst (λ (b : Option ℕ). IsWithin b spent) (sym e) (omega arith)

conflicts_are : (budget new : Option ℕ) (spent : ℕ) → budget ≡ Some spent → new ≡ budget → unwrap_or new 0 ≡ spent
conflicts_are budget new spent e same = ap (λ (o : Option ℕ). unwrap_or o 0) (same ∙ e)

pub spent_answer : (w : ℕ) (job : Job) (types : List Ty) (budget : Option ℕ) (question : Question) (f : Cnf) (l : Lit) (old new : Journal) (v : Verdict)
    → (question.query ≡ AssumeBig → ⊥) → IsLiteralOf (Some w) job f question.level question.query l
    → HasRefuted (Some w) job budget (asked_until question.level question.query) old → AddsOpen f question l old new
    → v ≡ Spent (unwrap_or new.budget 0) (Level question.level)
    → (longest : ℕ) → question.level ≤ longest → IsChecked (Some w) job types longest budget v new.sections.items
spent_answer w job types budget question f l old new v of_levels asks has adds same longest le =
    let n = question.level in
    let cut = journal_cut (Some w) job budget question f l old new of_levels asks has adds in
    let spent : ℕ = conflicts_spent new.sections.items in
    let none : NoneBelow (Some w) job n = levels_before (Some w) job n question.query has.none in
    let is : v ≡ Spent spent (Level n) = same ∙ ap (λ (k : ℕ). Spent k (Level n)) (conflicts_are budget new.budget spent cut.1 cut.2) in
    subst (λ (x : Verdict). IsChecked (Some w) job types longest budget x new.sections.items) (sym is) record {
      verdict_is = record { given = cut.1; within = le; least = none_errs_below w job n none; questions = none };
      typed = λ i d lt. absurd (omega arith);
      placed = no_places job;
      certificate = cut.0;
      within = spent_within budget spent cut.1;
    }
