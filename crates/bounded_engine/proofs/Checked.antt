-- The verdict of all levels with its certificate.
use Rattle.std.proofs.Common.{◌≡◌, ℕ, ◌+◌, ◌≤◌, List, Option, Some, refl, sym, subst, arith}
use Rattle.refutation_checker.specs.declared.section.Section.{Section}
use Rattle.snowcat_rows.specs.declared.types.Ty.{Ty}
use Rattle.tla_meaning.specs.Executions.{Errs}
use Rattle.tla_meaning.specs.Numbers.{Width}
use Rattle.tla_meaning.specs.Questions.{Holds, IsFirst, NoneBelow}
use Rattle.tla_meaning.specs.declared.job.Job.{Job}
use Rattle.tla_meaning.specs.declared.questions.Query.{Query}
use Rattle.tla_meaning.proofs.LevelLaw.{not_true_errs, wrong_errs}
use Rattle.trace_text.specs.declared.verdict.Fault.{Fault}
use Rattle.trace_text.specs.declared.verdict.Fault.TheVariants.{InvFalse, InvWrong, StartWrong, StepWrong}
use Rattle.trace_text.specs.declared.verdict.Part.{Part}
use Rattle.trace_text.specs.declared.verdict.Trace.{Trace}
use Rattle.trace_text.specs.declared.verdict.Verdict.{Verdict}
use Rattle.trace_text.specs.declared.verdict.Verdict.TheVariants.{Clean, Inductive, Error, Overflow, Spent, NotInductive}
use Rattle.trace_text.specs.declared.verdict.Where.TheVariants.{Level, Typed}
use Rattle.tla_meaning.specs.declared.place.Place.{Place}
use Rattle.bounded_engine.specs.declared.asking.Journal.{Journal}
use Rattle.bounded_engine.specs.declared.run.Run.{Run}
use Rattle.bounded_engine.specs.Answers.{IsChecked}
use Rattle.bounded_engine.specs.Sections.{AreRefuted, asked_below, asked_until}
use Rattle.bounded_engine.specs.Verdicts.{AreTyped, ShowsBig, ShowsFault, query_of_fault, query_of_part, states_of, states_told}
use Rattle.bounded_engine.specs.inner.Asking.{HasRefuted}
use Rattle.bounded_engine.specs.inner.Finding.{IsShown}
use Rattle.front_end.specs.Accepted.{IsInFiles}
use Rattle.bounded_engine.proofs.InFiles.{big_in_files, fault_in_files, no_places}
use Rattle.bounded_engine.proofs.Holding.{levels_before, none_below, questions_before}
use Rattle.bounded_engine.proofs.Journals.{is_within, none_errs_below}

errs_by : (w : Width) (job : Job) (n : ℕ) (fault : Fault) → Holds (query_of_fault fault) w job n → Errs job n
errs_by w job n (StartWrong p) h = wrong_errs w job n h
errs_by w job n (StepWrong p) h = wrong_errs w job n h
errs_by w job n (InvFalse name) h = not_true_errs w job n h
errs_by w job n (InvWrong name p) h = not_true_errs w job n h

module _ (w : ℕ) (job : Job) (in_files : IsInFiles job) (types : List Ty) (budget : Option ℕ) (n : ℕ) (journal : Journal) where
  -- the first question that holds, where the others are refuted
  is_first : (q : Query) → Holds q (Some w) job n → HasRefuted (Some w) job budget (asked_until n q) journal → IsFirst (Some w) job n q
  is_first q holds has = record {
    holds = holds;
    before = questions_before (Some w) job n q has.none;
    below = levels_before (Some w) job n q has.none;
  }

  error_checked : (fault : Fault) (t : Trace) → ShowsFault (Some w) job n fault t → AreTyped types (states_of t) → Holds (query_of_fault fault) (Some w) job n
      → HasRefuted (Some w) job budget (asked_until n (query_of_fault fault)) journal
      → (longest : ℕ) → n ≤ longest → IsChecked (Some w) job types longest budget (Error n fault t) journal.sections.items
  error_checked fault t shown typed holds has longest le = record {
    verdict_is = record {
      within = le;
      shown = shown;
      errs = errs_by (Some w) job n fault holds;
      least = none_errs_below w job n (levels_before (Some w) job n (query_of_fault fault) has.none);
      first = is_first (query_of_fault fault) holds has;
    };
    typed = typed;
    placed = fault_in_files (Some w) job in_files n fault t shown;
    certificate = has.refuted;
    within = is_within (Some w) job budget (asked_until n (query_of_fault fault)) journal has;
  }

  overflow_checked : (part : Part) (p : Place) (t : Trace) → ShowsBig (Some w) job n part p t → AreTyped types (states_of t) → Holds (query_of_part part) (Some w) job n
      → HasRefuted (Some w) job budget (asked_until n (query_of_part part)) journal
      → (longest : ℕ) → n ≤ longest → IsChecked (Some w) job types longest budget (Overflow (Level n) part p t) journal.sections.items
  overflow_checked part p t shown typed holds has longest le = record {
    verdict_is = record {
      within = le;
      shown = shown;
      least = none_errs_below w job n (levels_before (Some w) job n (query_of_part part) has.none);
      first = is_first (query_of_part part) holds has;
    };
    typed = typed;
    placed = big_in_files (Some w) job in_files n part p t shown;
    certificate = has.refuted;
    within = is_within (Some w) job budget (asked_until n (query_of_part part)) journal has;
  }

  -- a question that holds, as a verdict tells it
  pub found_checked : (q : Query) (v : Verdict) → IsShown (Some w) job n q v → AreTyped types (states_told v) → Holds q (Some w) job n
      → HasRefuted (Some w) job budget (asked_until n q) journal
      → (longest : ℕ) → n ≤ longest → IsChecked (Some w) job types longest budget v journal.sections.items
  found_checked q (Error m fault t) shown typed holds has longest le =
      let holds2 : Holds (query_of_fault fault) (Some w) job n = subst (λ (r : Query). Holds r (Some w) job n) (sym shown.1) holds in
      let has2 : HasRefuted (Some w) job budget (asked_until n (query_of_fault fault)) journal =
      subst (λ (r : Query). HasRefuted (Some w) job budget (asked_until n r) journal) (sym shown.1) has in
      subst (λ (k : ℕ). IsChecked (Some w) job types longest budget (Error k fault t) journal.sections.items) (sym shown.0)
      (error_checked fault t shown.2 typed holds2 has2 longest le)
  found_checked q (Overflow (Level m) part p t) shown typed holds has longest le =
      let holds2 : Holds (query_of_part part) (Some w) job n = subst (λ (r : Query). Holds r (Some w) job n) (sym shown.1) holds in
      let has2 : HasRefuted (Some w) job budget (asked_until n (query_of_part part)) journal =
      subst (λ (r : Query). HasRefuted (Some w) job budget (asked_until n r) journal) (sym shown.1) has in
      subst (λ (k : ℕ). IsChecked (Some w) job types longest budget (Overflow (Level k) part p t) journal.sections.items) (sym shown.0)
      (overflow_checked part p t shown.2 typed holds2 has2 longest le)
  found_checked q (Overflow Typed part p t) shown typed holds has longest le = absurd shown
  found_checked q (Spent conflicts at) shown typed holds has longest le = absurd shown
  found_checked q (Clean k) shown typed holds has longest le = absurd shown
  found_checked q Inductive shown typed holds has longest le = absurd shown
  found_checked q (NotInductive fault t) shown typed holds has longest le = absurd shown

pub clean_checked : (w : ℕ) (job : Job) (types : List Ty) (budget : Option ℕ) (n longest : ℕ) (journal : Journal) → n ≡ longest + 1
    → HasRefuted (Some w) job budget (asked_below n) journal → IsChecked (Some w) job types longest budget (Clean longest) journal.sections.items
clean_checked w job types budget n longest journal all has =
    let none : NoneBelow (Some w) job n = none_below (Some w) job n has.none in
    let here : NoneBelow (Some w) job (longest + 1) = subst (NoneBelow (Some w) job) all none in
    record {
      verdict_is = record { all = refl; none = none_errs_below w job (longest + 1) here; questions = here };
      typed = λ i d lt. absurd (omega arith);
      placed = no_places job;
      certificate = subst (λ (x : ℕ). AreRefuted (Some w) job (asked_below x) journal.sections.items) all has.refuted;
      within = is_within (Some w) job budget (asked_below n) journal has;
    }

-- the run that is answered
pub run_checked : (w : Width) (job : Job) (types : List Ty) (longest : ℕ) (budget : Option ℕ) (v : Verdict) (sections : List Section) (r : Run) → r.verdict ≡ v
    → r.certificate ≡ sections → IsChecked w job types longest budget v sections → IsChecked w job types longest budget r.verdict r.certificate
run_checked w job types longest budget v sections r same all is =
    subst (λ (x : Verdict). IsChecked w job types longest budget x r.certificate) (sym same)
    (subst (IsChecked w job types longest budget v) (sym all) is)
