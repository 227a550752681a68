-- There is one first question that holds, and verdicts tell of it.
use Rattle.std.proofs.Common.{◌≡◌, ◌⊎◌, inl, inr, ℕ, ◌+◌, ◌<◌, ◌≤◌, Option, refl, ap, subst, arith}
use Rattle.tla_meaning.specs.Numbers.{Width}
use Rattle.tla_meaning.specs.Questions.{Holds, IsFirst, NoneBelow}
use Rattle.tla_meaning.specs.declared.job.Job.{Job}
use Rattle.tla_meaning.specs.declared.questions.Query.{Query}
use Rattle.tla_meaning.specs.declared.questions.Query.TheVariants.{StepWrong, StepBig, InvNotTrue, InvBig, AssumeBig}
use Rattle.trace_text.specs.declared.verdict.Verdict.{Verdict}
use Rattle.trace_text.specs.declared.verdict.Verdict.TheVariants.{Clean, Inductive, Error, Overflow, Spent, NotInductive}
use Rattle.trace_text.specs.declared.verdict.Where.TheVariants.{Level, Typed}
use Rattle.bounded_engine.specs.Verdicts.{IsSpentBy, IsVerdict, Tells, query_of_fault, query_of_part}

module _ (w : Width) (job : Job) where
  -- the number of a question in its level
  same_query : (n : ℕ) (q r : Query) → IsFirst w job n q → IsFirst w job n r → q ≡ r
  same_query n StepWrong StepWrong a b = refl
  same_query n StepWrong StepBig a b = absurd (b.before 0 StepWrong (omega arith) a.holds)
  same_query n StepWrong InvNotTrue a b = absurd (b.before 0 StepWrong (omega arith) a.holds)
  same_query n StepWrong InvBig a b = absurd (b.before 0 StepWrong (omega arith) a.holds)
  same_query n StepBig StepWrong a b = absurd (a.before 0 StepWrong (omega arith) b.holds)
  same_query n StepBig StepBig a b = refl
  same_query n StepBig InvNotTrue a b = absurd (b.before 1 StepBig (omega arith) a.holds)
  same_query n StepBig InvBig a b = absurd (b.before 1 StepBig (omega arith) a.holds)
  same_query n InvNotTrue StepWrong a b = absurd (a.before 0 StepWrong (omega arith) b.holds)
  same_query n InvNotTrue StepBig a b = absurd (a.before 1 StepBig (omega arith) b.holds)
  same_query n InvNotTrue InvNotTrue a b = refl
  same_query n InvNotTrue InvBig a b = absurd (b.before 2 InvNotTrue (omega arith) a.holds)
  same_query n InvBig StepWrong a b = absurd (a.before 0 StepWrong (omega arith) b.holds)
  same_query n InvBig StepBig a b = absurd (a.before 1 StepBig (omega arith) b.holds)
  same_query n InvBig InvNotTrue a b = absurd (a.before 2 InvNotTrue (omega arith) b.holds)
  same_query n InvBig InvBig a b = refl
  same_query n AssumeBig r a b = absurd a.holds
  same_query n q AssumeBig a b = absurd b.holds

  which : (m n : ℕ) → (m ≡ n) ⊎ ((m < n) ⊎ (n < m))
  which m n = grind arith

  same_level : (m n : ℕ) (q r : Query) → IsFirst w job m q → IsFirst w job n r → m ≡ n
  same_level m n q r a b =
      elim (which m n) as (λ _. m ≡ n) [
        | inl e ↦ e
        | inr other ↦ elim other as (λ _. m ≡ n) [
          | inl less ↦ absurd (b.below m less q a.holds)
          | inr more ↦ absurd (a.below n more r b.holds)
        ]
      ]

  one_first : (m n : ℕ) (q r : Query) → IsFirst w job m q → IsFirst w job n r → (m ≡ n) × (q ≡ r)
  one_first m n q r a b =
      let e : m ≡ n = same_level m n q r a b in
      (e, same_query n q r (subst (λ (k : ℕ). IsFirst w job k q) e a) b)

  none_first : (n longest : ℕ) (q : Query) → NoneBelow w job (longest + 1) → n ≤ longest → Holds q w job n → ⊥
  none_first n longest q none le holds = none n (omega arith) q holds

  pub tells_first : (longest n : ℕ) (budget : Option ℕ) (q : Query) (v : Verdict) → IsVerdict w job longest budget v → n ≤ longest → IsFirst w job n q
      → Tells n q v ⊎ IsSpentBy budget n v
  tells_first longest n budget q (Error m fault t) is le first = inl (one_first m n (query_of_fault fault) q is.first first)
  tells_first longest n budget q (Overflow (Level m) part p t) is le first = inl (one_first m n (query_of_part part) q is.first first)
  tells_first longest n budget q (Overflow Typed part p t) is le first = absurd is
  tells_first longest n budget q (Clean m) is le first = absurd (none_first n longest q is.questions le first.holds)
  tells_first longest n budget q (Spent conflicts (Level m)) is le first =
      inr (is.given, elim (which_end m n) as (λ _. m ≤ n) [ inl not_above ↦ not_above | inr above ↦ absurd (is.questions n above q first.holds) ])
    where
      which_end : (m n : ℕ) → (m ≤ n) ⊎ (n < m)
      which_end m n = grind arith
  tells_first longest n budget q (Spent conflicts Typed) is le first = absurd is
  tells_first longest n budget q Inductive is le first = absurd is
  tells_first longest n budget q (NotInductive fault t) is le first = absurd is

  pub tells_none : (longest : ℕ) (budget : Option ℕ) (v : Verdict) → IsVerdict w job longest budget v → NoneBelow w job (longest + 1)
      → (v ≡ Clean longest) ⊎ IsSpentBy budget longest v
  tells_none longest budget (Error m fault t) is none = absurd (none_first m longest (query_of_fault fault) none is.within is.first.holds)
  tells_none longest budget (Overflow (Level m) part p t) is none = absurd (none_first m longest (query_of_part part) none is.within is.first.holds)
  tells_none longest budget (Overflow Typed part p t) is none = absurd is
  tells_none longest budget (Clean m) is none = inl (ap (λ (k : ℕ). Clean k) is.all)
  tells_none longest budget (Spent conflicts (Level m)) is none = inr (is.given, is.within)
  tells_none longest budget (Spent conflicts Typed) is none = absurd is
  tells_none longest budget Inductive is none = absurd is
  tells_none longest budget (NotInductive fault t) is none = absurd is
