-- What `check_to` answers (begin here): a verdict on the executions of a job with its certificate.
use Rattle.std.specs.Prelude.{ℕ, ◌+◌, List, Option}
use Rattle.refutation_checker.specs.declared.section.Section.{Section}
use Rattle.snowcat_rows.specs.declared.types.Ty.{Ty}
use Rattle.tla_meaning.specs.declared.job.Job.{Job}
use Rattle.tla_meaning.specs.Numbers.{Width}
use Rattle.trace_text.specs.declared.verdict.Verdict.{Verdict}
use Rattle.trace_text.specs.declared.verdict.Verdict.TheVariants.{Clean, Inductive, Error}
use Rattle.trace_text.specs.declared.verdict.Verdict.TheVariants.{Overflow, Spent, NotInductive}
use Rattle.trace_text.specs.declared.verdict.Where.TheVariants.{Level, Typed}
use Rattle.bounded_engine.specs.Sections.{AreRefuted, IsCutAt, IsWithin, asked_below, asked_until, conflicts_spent}
use Rattle.bounded_engine.specs.Verdicts.{AreInFiles, AreTyped, IsVerdict, places_told, query_of_fault, query_of_part}
use Rattle.bounded_engine.specs.Verdicts.{states_told}

-- a section for each question that was refuted, in the order in which they are asked; where the budget was spent, one
-- more that is open
abbrev pub IsCertificateOf : Width → Job → Verdict → List Section → Type 0
IsCertificateOf w job (Clean n) sections = AreRefuted w job (asked_below (n + 1)) sections
IsCertificateOf w job (Error n fault t) sections = AreRefuted w job (asked_until n (query_of_fault fault)) sections
IsCertificateOf w job (Overflow (Level n) part p t) sections =
    AreRefuted w job (asked_until n (query_of_part part)) sections
IsCertificateOf w job (Overflow Typed part p t) sections = ⊥
IsCertificateOf w job (Spent conflicts (Level n)) sections = IsCutAt w job conflicts n sections
IsCertificateOf w job (Spent conflicts Typed) sections = ⊥
IsCertificateOf w job Inductive sections = ⊥
IsCertificateOf w job (NotInductive fault t) sections = ⊥

-- a verdict with its certificate, on the executions of at most so many steps of a job whose names have these types, by
-- at most so many conflicts
pub record IsChecked (w : Width) (job : Job) (types : List Ty) (longest : ℕ) (budget : Option ℕ) (v : Verdict)
    (sections : List Section) : Type 0 where
  pub verdict_is : IsVerdict w job longest budget v
  pub typed : AreTyped types (states_told v)
  pub placed : AreInFiles job (places_told v)
  pub certificate : IsCertificateOf w job v sections
  pub within : IsWithin budget (conflicts_spent sections)
