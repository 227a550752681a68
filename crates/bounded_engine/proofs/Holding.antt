-- A question of a level holds exactly where some states and an attempt show it; what is refuted does not hold.
use Rattle.std.proofs.Common.{◌≡◌, ◌⊎◌, inl, inr, ℕ, zero, suc, ◌<◌, Bool, true, List, [], ◌∷◌, ◌++◌, refl, sym, ◌∙◌, ap, subst, arith}
use Rattle.std.specs.Prelude.{All, IsTrue, ◌||◌, false}
use Rattle.std.proofs.lemmas.List.Elements.{All-append, All-cons}
use Rattle.sat_formula.specs.Clause.{AllTrue, clause_true}
use Rattle.sat_formula.specs.Formula.{Satisfies}
use Rattle.sat_formula.specs.Lit.{lit_value}
use Rattle.cell_arena.specs.Cells.{Cells as Arena}
use Rattle.sat_formula.specs.declared.cnf.Cnf.{Cnf}
use Rattle.sat_formula.specs.declared.lit.Lit.{Lit}
use Rattle.refutation_checker.specs.Follows.{IsUnsatisfiable}
use Rattle.tla_meaning.specs.Numbers.{Width}
use Rattle.tla_meaning.specs.Questions.{Holds, NoneBelow, NoneHolds, asked_before}
use Rattle.tla_meaning.specs.declared.job.Job.{Job}
use Rattle.tla_meaning.specs.declared.job.State.{State}
use Rattle.tla_meaning.specs.declared.questions.Query.{Query}
use Rattle.tla_meaning.specs.declared.questions.Query.TheVariants.{StepWrong, StepBig, InvNotTrue, InvBig, AssumeBig}
use Rattle.encoder_laws.specs.declared.level.LevelCells.{LevelCells}
use Rattle.step_laws.specs.Encoded.{question}
use Rattle.step_laws.specs.Origins.{the_start}
use Rattle.step_laws.specs.Rows.{NoFaultBefore, NoFaultHere, NoStepFault, NoneShows, Shows}
use Rattle.step_laws.proofs.Questions.{SomeShow, question_holds}
use Rattle.step_laws.proofs.Questions as questions
use Rattle.encoder_laws.specs.Levels.{kept_at}
use Rattle.step_encoder.specs.Encoders.{IsOfLevels, literal_of}
use Rattle.bounded_engine.specs.Sections.{Asked, IsLiteralOf, all_queries, asked_below, asked_until, of_level}
use Rattle.bounded_engine.specs.inner.Asking.{NoneHold}

-- ---- what shows a question

-- both say it of all but AssumeBig
levels_of : (q : Query) → IsOfLevels q → questions.IsOfLevels q
levels_of StepWrong of = tt
levels_of StepBig of = tt
levels_of InvNotTrue of = tt
levels_of InvBig of = tt
levels_of AssumeBig of = of

abbrev pub no_state : State
no_state = record { vals = [] }

shown_of : (q : Query) (w : Width) (job : Job) (n : ℕ) → Holds q w job n → SomeShow (Shows q w job (the_start w job) n)
shown_of StepWrong w job n h = (question_holds StepWrong w job n tt).0 h
shown_of StepBig w job n h = (question_holds StepBig w job n tt).0 h
shown_of InvNotTrue w job n h = (question_holds InvNotTrue w job n tt).0 h
shown_of InvBig w job n h = (question_holds InvBig w job n tt).0 h
shown_of AssumeBig w job n h = absurd h

pub holds_by : (q : Query) (w : Width) (job : Job) (n : ℕ) (states : List State) (t : State) → IsOfLevels q
    → Shows q w job (the_start w job) n states t → Holds q w job n
holds_by q w job n states t of h = (question_holds q w job n (levels_of q of)).1 (states, (t, h))

-- ---- questions that do not hold

module _ (w : Width) (job : Job) where
  pub none_more : (xs : List Asked) (n : ℕ) (q : Query) → NoneHold w job xs → (Holds q w job n → ⊥) → NoneHold w job (xs ++ (n, q) ∷ [])
  none_more [] n q none not = (not, tt)
  none_more (x ∷ xs) n q none not = (none.0, none_more xs n q none.1 not)

  none_front : (xs ys : List Asked) → NoneHold w job (xs ++ ys) → NoneHold w job xs
  none_front [] ys none = tt
  none_front (x ∷ xs) ys none = (none.0, none_front xs ys none.1)

  none_behind : (xs ys : List Asked) → NoneHold w job (xs ++ ys) → NoneHold w job ys
  none_behind [] ys none = none
  none_behind (x ∷ xs) ys none = none_behind xs ys none.1

  none_of_level : (n : ℕ) → NoneHold w job (of_level n all_queries) → NoneHolds w job n
  none_of_level n none StepWrong h = none.0 h
  none_of_level n none StepBig h = none.1.0 h
  none_of_level n none InvNotTrue h = none.1.1.0 h
  none_of_level n none InvBig h = none.1.1.1.0 h
  none_of_level n none AssumeBig h = absurd h

  at_or_below : (n m : ℕ) → m < suc n → (m ≡ n) ⊎ (m < n)
  at_or_below n m lt = grind arith

  pub none_below : (n : ℕ) → NoneHold w job (asked_below n) → NoneBelow w job n
  none_below zero none m lt = absurd (omega arith)
  none_below (suc n) none m lt =
      elim (at_or_below n m lt) as (λ _. NoneHolds w job m) [
        | inl e ↦ subst (NoneHolds w job) (sym e) (none_of_level n (none_behind (asked_below n) (of_level n all_queries) none))
        | inr less ↦ none_below n (none_front (asked_below n) (of_level n all_queries) none) m less
      ]

  all_of : (n : ℕ) (qs : List Query) → NoneHold w job (of_level n qs) → All (λ r. Holds r w job n → ⊥) qs
  all_of n [] none = λ k d lt. absurd (omega arith)
  all_of n (q ∷ qs) none = All-cons (λ r. Holds r w job n → ⊥) q qs none.0 (all_of n qs none.1)

  -- what was asked until a question
  pub levels_before : (n : ℕ) (q : Query) → NoneHold w job (asked_until n q) → NoneBelow w job n
  levels_before n q none = none_below n (none_front (asked_below n) (of_level n (asked_before q)) none)

  pub questions_before : (n : ℕ) (q : Query) → NoneHold w job (asked_until n q) → All (λ r. Holds r w job n → ⊥) (asked_before q)
  questions_before n q none = all_of n (asked_before q) (none_behind (asked_below n) (of_level n (asked_before q)) none)

  not_shown : (q : Query) (n : ℕ) → IsOfLevels q → (Holds q w job n → ⊥) → NoneShows q w job (the_start w job) n
  not_shown q n of not = λ states t h. not (holds_by q w job n states t of h)

  no_step_fault : (n : ℕ) → (Holds StepWrong w job n → ⊥) → (Holds StepBig w job n → ⊥) → NoStepFault w job (the_start w job) n
  no_step_fault n wrong big = (not_shown StepWrong n tt wrong, not_shown StepBig n tt big)

  none_here : (n : ℕ) (q : Query) → NoneHold w job (of_level n (asked_before q)) → NoFaultHere q w job (the_start w job) n
  none_here n StepWrong none = tt
  none_here n StepBig none = not_shown StepWrong n tt none.0
  none_here n InvNotTrue none = no_step_fault n none.0 none.1.0
  none_here n InvBig none = no_step_fault n none.0 none.1.0
  none_here n AssumeBig none = tt

  pub no_step_before : (n : ℕ) (q : Query) → NoneHold w job (asked_until n q) → NoFaultBefore q w job (the_start w job) n
  no_step_before n q none =
      let below : NoneBelow w job n = levels_before n q none in
      (λ m lt. no_step_fault m (below m lt StepWrong) (below m lt StepBig), none_here n q (none_behind (asked_below n) (of_level n (asked_before q)) none))

-- ---- what is refuted

-- the literal of a question at a level, and what is read of it
pub same_literal : (c : Arena) (xs : List LevelCells) (n : ℕ) (x : LevelCells) (q : Query) (a : List Bool)
    → (question q (kept_at c xs n x)).asks a ≡ lit_value (literal_of x q) a
same_literal c xs n x StepWrong a = refl
same_literal c xs n x StepBig a = refl
same_literal c xs n x InvNotTrue a = refl
same_literal c xs n x InvBig a = refl
same_literal c xs n x AssumeBig a = refl

all_true_with : (a : List Bool) (rest : List (List Lit)) (l : Lit) → AllTrue a rest → lit_value l a ≡ true → AllTrue a (rest ++ (l ∷ []) ∷ [])
all_true_with a rest l all holds =
    All-append (λ c. IsTrue (clause_true a c)) rest ((l ∷ []) ∷ []) all
    (All-cons (λ c. IsTrue (clause_true a c)) (l ∷ []) [] (one_true (lit_value l a) holds) (λ k d lt. absurd (omega arith)))
  where
    one_true : (b : Bool) → b ≡ true → IsTrue (b || false)
    one_true true h = refl
    one_true false h = h

-- a question whose formula has no model does not hold, where no step before it is Wrong or Big
pub not_holds : (w : Width) (job : Job) (f : Cnf) (n : ℕ) (q : Query) (l : Lit) → IsLiteralOf w job f n q l
    → NoFaultBefore q w job (the_start w job) n → IsUnsatisfiable (f.clauses ++ (l ∷ []) ∷ []) → Holds q w job n → ⊥
unfolding Satisfies
not_holds w job f n q l is before none holds =
    let shown = shown_of q w job n holds in
    let stood = is.asks.asks.missed before shown.0 shown.1.0 shown.1.1 in
    let true_there : lit_value l stood.at ≡ true =
    ap (λ (m : Lit). lit_value m stood.at) is.literal ∙ sym (same_literal is.arena is.levels n is.level q stood.at) ∙ stood.so.0 in
    none stood.at (all_true_with stood.at f.clauses l stood.satisfies true_there)
