-- What one question after another adds to the sections of a certificate.
use Rattle.std.specs.Prelude.{◌≡◌, ℕ, ◌+◌, ◌-◌, Bool, true, false, List, [], ◌∷◌, ◌++◌, ⊤}
use Rattle.std.specs.Prelude.{Option, Some, None, option_map}
use Rattle.cdcl_solver.specs.Answers.{clauses_with, IsModel, IsRefutation, IsSpent}
use Rattle.refutation_checker.specs.Follows.{IsUnsatisfiable}
use Rattle.refutation_checker.specs.declared.log.Step.{Step}
use Rattle.refutation_checker.specs.declared.section.Section.{Section}
use Rattle.sat_formula.specs.Clause.{NamesBelow}
use Rattle.sat_formula.specs.declared.cnf.Cnf.{Cnf}
use Rattle.sat_formula.specs.declared.lit.Lit.{Lit}
use Rattle.tla_meaning.specs.Numbers.{Width}
use Rattle.tla_meaning.specs.Questions.{Holds}
use Rattle.tla_meaning.specs.declared.job.Job.{Job}
use Rattle.bounded_engine.specs.declared.asking.Journal.{Journal}
use Rattle.bounded_engine.specs.declared.asking.Question.{Question}
use Rattle.bounded_engine.specs.declared.asking.Reply.{Reply}
use Rattle.bounded_engine.specs.declared.asking.Reply.TheVariants as reply
use Rattle.bounded_engine.specs.Sections.{Asked, AreRefuted, conflicts_in, conflicts_spent, name_of}

-- what is left of a budget, where there is one
abbrev pub left_after : Option ℕ → ℕ → Option ℕ
left_after left spent = option_map (λ n. n - spent) left

-- the section of a question to a formula, by its literal
abbrev pub section_of : Cnf → Question → Lit → List Step → Bool → Section
section_of f q l log is_open = record {
  level = q.level;
  typed = false;
  query = name_of q.query;
  formula = record { vars = f.vars; clauses = clauses_with f l };
  log = log;
  is_open = is_open;
}

-- a section that refutes the question was added
pub record AddsRefuted (f : Cnf) (q : Question) (l : Lit) (old new : Journal) : Type 0 where
  pub log : List Step
  pub refutation : IsRefutation f.vars (clauses_with f l) old.left log
  pub unsatisfiable : IsUnsatisfiable (clauses_with f l)
  pub within : NamesBelow f.vars (clauses_with f l)
  pub sections : new.sections.items ≡ old.sections.items ++ section_of f q l log false ∷ []
  pub left : new.left ≡ left_after old.left (conflicts_in log)
  pub budget : new.budget ≡ old.budget

-- an open section was added, whose log is as long as what was left of the budget
pub record AddsOpen (f : Cnf) (q : Question) (l : Lit) (old new : Journal) : Type 0 where
  pub log : List Step
  pub spent : IsSpent f.vars (clauses_with f l) old.left log
  pub within : NamesBelow f.vars (clauses_with f l)
  pub sections : new.sections.items ≡ old.sections.items ++ section_of f q l log true ∷ []
  pub budget : new.budget ≡ old.budget

abbrev pub IsReply : Cnf → Question → Lit → Journal → Journal → Reply → Type 0
IsReply f q l old new reply.Refuted = AddsRefuted f q l old new
IsReply f q l old new (reply.Holds a) = IsModel f l a × (new ≡ old)
IsReply f q l old new reply.Spent = AddsOpen f q l old new

-- what was spent and what is left are the budget
abbrev pub IsLeft : Option ℕ → ℕ → Option ℕ → Type 0
IsLeft None spent None = ⊤
IsLeft None spent (Some left) = ⊥
IsLeft (Some budget) spent None = ⊥
IsLeft (Some budget) spent (Some left) = spent + left ≡ budget

-- none of these questions holds
abbrev pub NoneHold : Width → Job → List Asked → Type 0
NoneHold w job [] = ⊤
NoneHold w job (x ∷ xs) = (Holds x.1 w job x.0 → ⊥) × NoneHold w job xs

-- the journal has a section for each of these questions, which refutes it, and keeps to the budget
pub record HasRefuted (w : Width) (job : Job) (budget : Option ℕ) (questions : List Asked) (journal : Journal)
    : Type 0 where
  pub refuted : AreRefuted w job questions journal.sections.items
  pub none : NoneHold w job questions
  pub left : IsLeft budget (conflicts_spent journal.sections.items) journal.left
  pub budget_is : journal.budget ≡ budget
