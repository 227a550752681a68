-- The certificate of a verdict: a section for each question that was refuted, in the order in which they are asked.
-- What a section's formula says: Konnov, Kukovec and Tran, "TLA+ Model Checking Made Symbolic", OOPSLA 2019; when a log
-- refutes it: the format LRAT (Cruz-Filipe and others, "Efficient Certified RAT Verification", 2017).
use Rattle.std.specs.Prelude.{◌≡◌, ℕ, zero, suc, ◌<◌, ◌≤◌, nat_lt, true, false, Option, None, Some, ⊤}
use Rattle.std.specs.Prelude.{List, [], ◌∷◌, ◌++◌, map, length, All, count_by, sum_by, slice_get}
use Rattle.cdcl_solver.specs.Answers.{EachNew}
use Rattle.refutation_checker.specs.Follows.{EachFollows, Refutes}
use Rattle.refutation_checker.specs.declared.log.Step.{Step}
use Rattle.refutation_checker.specs.declared.section.QueryName.{QueryName}
use Rattle.refutation_checker.specs.declared.section.QueryName.TheVariants as name
use Rattle.refutation_checker.specs.declared.section.Section.{Section}
use Rattle.sat_formula.specs.Clause.{NamesBelow}
use Rattle.sat_formula.specs.Lit.{IsBelow}
use Rattle.sat_formula.specs.declared.cnf.Cnf.{Cnf}
use Rattle.sat_formula.specs.declared.lit.Lit.{Lit}
use Rattle.tla_meaning.specs.declared.job.Job.{Job}
use Rattle.tla_meaning.specs.declared.questions.Query.{Query}
use Rattle.tla_meaning.specs.declared.questions.Query.TheVariants.{StepWrong, StepBig, InvNotTrue, InvBig, AssumeBig}
use Rattle.tla_meaning.specs.Numbers.{Width}
use Rattle.tla_meaning.specs.Questions.{asked_before}
use Rattle.cell_arena.specs.Cells.{Cells as Arena}
use Rattle.level_laws.specs.Constraints.{Allowed, Reads, of_formula}
use Rattle.step_laws.specs.Encoded.{asked_states}
use Rattle.step_branches.specs.Readings.{state_at}
use Rattle.encoder_laws.specs.Levels.{AsksOf, kept_at}
use Rattle.encoder_laws.specs.declared.level.LevelCells.{LevelCells}
use Rattle.step_encoder.specs.Encoders.{literal_of}

-- ---- the order of the questions

-- a question of a level
abbrev pub Asked : Type 0
Asked = ℕ × Query

abbrev pub all_queries : List Query
all_queries = StepWrong ∷ StepBig ∷ InvNotTrue ∷ InvBig ∷ []

-- these questions of a level
abbrev pub of_level : ℕ → List Query → List Asked
of_level n qs = map (λ q. (n, q)) qs

-- the questions of all levels below n
abbrev pub asked_below : ℕ → List Asked
asked_below zero = []
asked_below (suc n) = asked_below n ++ of_level n all_queries

-- the questions that are asked before this one of level n
abbrev pub asked_until : ℕ → Query → List Asked
asked_until n q = asked_below n ++ of_level n (asked_before q)

-- ---- sections

-- Over a formula that some assignment satisfies, and cells that are there and whose values are told by its variables: the
-- literal is that of the question at level n, and asks it.
pub record IsLiteralOf (w : Width) (job : Job) (f : Cnf) (n : ℕ) (q : Query) (l : Lit) : Type 0 where
  pub satisfiable : Allowed (of_formula f) (λ a. Unit {0})
  pub arena : Arena
  pub width : w ≡ Some arena.width
  pub levels : List LevelCells
  pub cells : All (λ x. All (λ id. id.index < length arena.kinds) x.cells) levels
  pub level : LevelCells
  pub there : slice_get levels n ≡ Some level
  pub literal : l ≡ literal_of level q
  pub states : Reads f.vars (asked_states q (kept_at arena levels n level))
  pub attempt : Reads f.vars (state_at arena level.cells)
  pub asks : AsksOf w job f n q (kept_at arena levels n level)

-- the formula's last clause is one literal, which asks the question over the rest
pub record Encodes (w : Width) (job : Job) (n : ℕ) (q : Query) (formula : Cnf) : Type 0 where
  pub rest : List (List Lit)
  pub asked : Lit
  pub clauses : formula.clauses ≡ rest ++ (asked ∷ []) ∷ []
  pub asks : IsLiteralOf w job (record { vars = formula.vars; clauses = rest }) n q asked

abbrev pub name_of : Query → QueryName
name_of StepWrong = name.StepWrong
name_of StepBig = name.StepBig
name_of InvNotTrue = name.InvNotTrue
name_of InvBig = name.InvBig
name_of AssumeBig = name.AssumeBig

-- the section is the question's, over the first variables; no step of its log but the empty clause contains what stands
-- before it
pub record IsSectionOf (w : Width) (job : Job) (asked : Asked) (s : Section) : Type 0 where
  pub level : s.level ≡ asked.0
  pub typed : s.typed ≡ false
  pub query : s.query ≡ name_of asked.1
  pub encodes : Encodes w job asked.0 asked.1 s.formula
  pub clauses : NamesBelow s.formula.vars s.formula.clauses
  pub steps : All (λ step. All (IsBelow s.formula.vars) step.lits) s.log
  pub new : EachNew s.formula.clauses s.log

-- and its log refutes it
pub record IsRefuted (w : Width) (job : Job) (asked : Asked) (s : Section) : Type 0 where
  pub of : IsSectionOf w job asked s
  pub closed : s.is_open ≡ false
  pub refutes : Refutes s.formula.clauses s.log

-- or its log goes so far, without the empty clause
pub record IsLeftOpen (w : Width) (job : Job) (asked : Asked) (s : Section) : Type 0 where
  pub of : IsSectionOf w job asked s
  pub open_there : s.is_open ≡ true
  pub follow : EachFollows s.formula.clauses s.log
  pub some : All (λ step. 0 < length step.lits) s.log

-- the sections refute the questions, one by one
abbrev pub AreRefuted : Width → Job → List Asked → List Section → Type 0
AreRefuted w job [] [] = ⊤
AreRefuted w job [] (s ∷ sections) = ⊥
AreRefuted w job (x ∷ questions) [] = ⊥
AreRefuted w job (x ∷ questions) (s ∷ sections) = IsRefuted w job x s × AreRefuted w job questions sections

-- ---- conflicts

-- the steps of a log that are not the empty clause
abbrev pub conflicts_in : List Step → ℕ
conflicts_in log = count_by (λ (step : Step). nat_lt 0 (length step.lits)) log

abbrev pub conflicts_spent : List Section → ℕ
conflicts_spent sections = sum_by (λ (s : Section). conflicts_in s.log) sections

-- no more conflicts than the budget, where there is one
abbrev pub IsWithin : Option ℕ → ℕ → Type 0
IsWithin None spent = ⊤
IsWithin (Some budget) spent = spent ≤ budget

-- the questions up to one that was left open, by as many conflicts as could be spent
pub record IsCutAt (w : Width) (job : Job) (conflicts n : ℕ) (sections : List Section) : Type 0 where
  pub query : Query
  pub of_levels : query ≡ AssumeBig → ⊥
  pub refuted : List Section
  pub last : Section
  pub sections_are : sections ≡ refuted ++ last ∷ []
  pub before : AreRefuted w job (asked_until n query) refuted
  pub left : IsLeftOpen w job (n, query) last
  pub spent : conflicts_spent sections ≡ conflicts
