-- What the sections of a certificate tell by themselves.
use Rattle.std.proofs.Common.{ℕ, zero, suc, List, [], ◌∷◌, ◌++◌, subst}
use Rattle.sat_formula.specs.declared.cnf.Cnf.{Cnf}
use Rattle.refutation_checker.specs.Follows.{IsUnsatisfiable}
use Rattle.refutation_checker.specs.declared.section.Section.{Section}
use Rattle.refutation_checker.proofs.Soundness.{Refutes-sound}
use Rattle.tla_meaning.specs.Numbers.{Width}
use Rattle.tla_meaning.specs.Questions.{Holds, NoneBelow}
use Rattle.tla_meaning.specs.declared.job.Job.{Job}
use Rattle.tla_meaning.specs.declared.questions.Query.{Query}
use Rattle.tla_meaning.specs.declared.questions.Query.TheVariants.{StepWrong, StepBig, InvNotTrue, InvBig}
use Rattle.bounded_engine.specs.Sections.{AreRefuted, Asked, IsRefuted, all_queries, asked_below, asked_until, of_level}
use Rattle.bounded_engine.specs.inner.Asking.{NoneHold}
use Rattle.bounded_engine.proofs.Holding.{no_step_before, none_below, not_holds}

module _ (w : Width) (job : Job) where
  none_both : (xs ys : List Asked) → NoneHold w job xs → NoneHold w job ys → NoneHold w job (xs ++ ys)
  none_both [] ys none more = more
  none_both (x ∷ xs) ys none more = (none.0, none_both xs ys none.1 more)

  -- a refuted question does not hold, where those that are asked before do not
  section_refutes : (n : ℕ) (q : Query) (s : Section) → IsRefuted w job (n, q) s → NoneHold w job (asked_until n q) → Holds q w job n → ⊥
  section_refutes n q s is none =
      let f : Cnf = record { vars = s.formula.vars; clauses = is.of.encodes.rest } in
      not_holds w job f n q is.of.encodes.asked is.of.encodes.asks (no_step_before w job n q none)
      (subst IsUnsatisfiable is.of.encodes.clauses (Refutes-sound s.formula.clauses s.log is.refutes.0 is.refutes.1))

  -- the sections of the first questions, and the others
  record Parted (xs ys : List Asked) : Type 0 where
    front : List Section
    behind : List Section
    first : AreRefuted w job xs front
    second : AreRefuted w job ys behind

  parted : (xs ys : List Asked) (sections : List Section) → AreRefuted w job (xs ++ ys) sections → Parted xs ys
  parted [] ys sections are = record { front = []; behind = sections; first = tt; second = are }
  parted (x ∷ xs) ys [] are = absurd are
  parted (x ∷ xs) ys (s ∷ sections) are =
      let rest = parted xs ys sections are.1 in
      record { front = s ∷ rest.front; behind = rest.behind; first = (are.0, rest.first); second = rest.second }

  -- one level more
  level_none : (n : ℕ) (sections : List Section) → NoneHold w job (asked_below n) → AreRefuted w job (of_level n all_queries) sections
      → NoneHold w job (asked_below (suc n))
  level_none n (a ∷ b ∷ c ∷ d ∷ []) none are =
      let wrong = section_refutes n StepWrong a are.0 (none_both (asked_below n) [] none tt) in
      let big = section_refutes n StepBig b are.1.0 (none_both (asked_below n) (of_level n (StepWrong ∷ [])) none (wrong, tt)) in
      let not_true =
      section_refutes n InvNotTrue c are.1.1.0 (none_both (asked_below n) (of_level n (StepWrong ∷ StepBig ∷ [])) none (wrong, (big, tt))) in
      let inv_big =
      section_refutes n InvBig d are.1.1.1.0
      (none_both (asked_below n) (of_level n (StepWrong ∷ StepBig ∷ InvNotTrue ∷ [])) none (wrong, (big, (not_true, tt)))) in
      none_both (asked_below n) (of_level n all_queries) none (wrong, (big, (not_true, (inv_big, tt))))
  level_none n [] none are = absurd are
  level_none n (a ∷ []) none are = absurd are.1
  level_none n (a ∷ b ∷ []) none are = absurd are.1.1
  level_none n (a ∷ b ∷ c ∷ []) none are = absurd are.1.1.1
  level_none n (a ∷ b ∷ c ∷ d ∷ e ∷ sections) none are = absurd are.1.1.1.1

  certified : (n : ℕ) (sections : List Section) → AreRefuted w job (asked_below n) sections → NoneHold w job (asked_below n)
  certified zero sections are = tt
  certified (suc n) sections are =
      let two = parted (asked_below n) (of_level n all_queries) sections are in
      level_none n two.behind (certified n two.front two.first) two.second

  pub none_certified : (n : ℕ) (sections : List Section) → AreRefuted w job (asked_below n) sections → NoneBelow w job n
  none_certified n sections are = none_below w job n (certified n sections are)
