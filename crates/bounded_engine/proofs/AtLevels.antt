-- The encoder's levels, and the questions of a level in their order.
use Rattle.std.proofs.Common.{◌≡◌, ◌⊎◌, inl, inr, ℕ, zero, suc, ◌+◌, ◌<◌, ◌≤◌, Bool, true, false, List, [], ◌∷◌, ◌++◌, length, take, Option, Some, None, refl, sym, ◌∙◌, ap, subst, arith, append_assoc, length-append, reverse}
use Rattle.std.specs.Prelude.{All, if◌then◌else◌, not, slice_get, slice_index_or, unwrap_or}
use Rattle.std.proofs.lemmas.List.{append-nil, map-append, take_all}
use Rattle.std.proofs.lemmas.List.Elements.{All-cons}
use Rattle.cdcl_solver.specs.Answers.{IsModel}
use Rattle.sat_formula.specs.Lit.{lit_value}
use Rattle.sat_formula.specs.declared.cnf.Cnf.{Cnf}
use Rattle.sat_formula.specs.declared.lit.Lit.{Lit}
use Rattle.level_laws.specs.Branches.{Transition}
use Rattle.level_laws.specs.Constraints.{Reads, bit, of_formula}
use Rattle.level_laws.specs.Levels.{Start}
use Rattle.kernel_trees.specs.declared.system.System.{System}
use Rattle.tla_meaning.specs.Numbers.{Width}
use Rattle.tla_meaning.specs.Questions.{Holds, asked_before}
use Rattle.tla_meaning.specs.declared.job.Job.{Job}
use Rattle.tla_meaning.specs.declared.job.State.{State}
use Rattle.tla_meaning.specs.declared.questions.Query.{Query}
use Rattle.tla_meaning.specs.declared.questions.Query.TheVariants.{StepWrong, StepBig, InvNotTrue, InvBig, AssumeBig}
use Rattle.trace_text.specs.declared.verdict.Verdict.{Verdict}
use Rattle.trace_text.specs.declared.verdict.Verdict.TheVariants.{Spent}
use Rattle.trace_text.specs.declared.verdict.Where.TheVariants.{Level}
use Rattle.step_branches.specs.Readings.{state_at}
use Rattle.step_laws.specs.Encoded.{IsEncoded, Kept, asked_states, question}
use Rattle.step_laws.specs.Origins.{the_start}
use Rattle.step_laws.specs.Rows.{Shows}
use Rattle.step_laws.specs.Systems.{StandsFor}
use Rattle.encoder_laws.specs.Levels.{AsksOf, IsLevelOf}
use Rattle.encoder_laws.specs.declared.level.LevelCells.{LevelCells}
use Rattle.step_encoder.specs.Encoders.{AddsLevel, AsksAt, IsOfLevels, kept, literal_of, width_of}
use Rattle.step_encoder.specs.declared.encoder.Encoder.{Encoder}
use Rattle.bounded_engine.specs.declared.asking.Journal.{Journal}
use Rattle.bounded_engine.specs.declared.asking.Question.{Question}
use Rattle.bounded_engine.specs.declared.asking.Reply.TheVariants as reply
use Rattle.bounded_engine.specs.declared.subject.Subject.{Subject}
use Rattle.bounded_engine.specs.Sections.{Asked, IsLiteralOf, all_queries, asked_below, asked_until, of_level}
use Rattle.bounded_engine.specs.inner.Asking.{HasRefuted, IsReply}
use Rattle.bounded_engine.specs.inner.Finding.{HasLevel, IsAnswered, IsEncoderOf, IsReady, IsShownBy, IsTold, ShowsQuestion, types_of}
use Rattle.bounded_engine.proofs.Cells.{cells_there}
use Rattle.bounded_engine.proofs.Checked.{found_checked}
use Rattle.bounded_engine.proofs.Holding.{holds_by, no_step_before, same_literal}
use Rattle.bounded_engine.proofs.Journals.{asked_of, journal_more, spent_answer}

-- ---- one level more

pub with_level : (a : Subject) (old new : Encoder) → IsEncoderOf a old → AddsLevel old new → IsEncoderOf a new
with_level a old new is adds = record { encoder = adds.encodes; system = adds.system ∙ is.system; width = adds.width ∙ is.width }

pub levels_more : (old new : Encoder) (n : ℕ) → length old.levels ≡ n → AddsLevel old new → length new.levels ≡ n + 1
levels_more old new n count adds = ap length adds.levels ∙ length-append old.levels (adds.level ∷ []) ∙ ap (λ (k : ℕ). k + 1) count

-- ---- the questions of a level

-- the question with this number of its level
pub record IsQueryAt (i : ℕ) (q : Query) : Type 0 where
  pub before : asked_before q ≡ take i all_queries
  pub more : take (i + 1) all_queries ≡ asked_before q ++ q ∷ []
  pub of_levels : IsOfLevels q

pub query_at : (i : ℕ) (d : Query) → i < length all_queries → IsQueryAt i (slice_index_or all_queries i d)
query_at zero d lt = record { before = refl; more = refl; of_levels = tt }
query_at (suc zero) d lt = record { before = refl; more = refl; of_levels = tt }
query_at (suc (suc zero)) d lt = record { before = refl; more = refl; of_levels = tt }
query_at (suc (suc (suc zero))) d lt = record { before = refl; more = refl; of_levels = tt }
query_at (suc (suc (suc (suc i)))) d lt = absurd (omega arith)

abbrev pub asked_first : ℕ → ℕ → List Asked
asked_first n i = asked_below n ++ of_level n (take i all_queries)

module _ (w : Width) (job : Job) (budget : Option ℕ) (n : ℕ) (journal : Journal) where
  same_questions : (xs ys : List Asked) → xs ≡ ys → HasRefuted w job budget xs journal → HasRefuted w job budget ys journal
  same_questions xs ys same has = subst (λ (x : List Asked). HasRefuted w job budget x journal) same has

  pub begins_level : HasRefuted w job budget (asked_below n) journal → HasRefuted w job budget (asked_first n 0) journal
  begins_level has = same_questions (asked_below n) (asked_first n 0) (sym (append-nil (asked_below n))) has

  pub until_query : (i : ℕ) (q : Query) → IsQueryAt i q → HasRefuted w job budget (asked_first n i) journal → HasRefuted w job budget (asked_until n q) journal
  until_query i q is has = same_questions (asked_first n i) (asked_until n q) (ap (λ (qs : List Query). asked_below n ++ of_level n qs) (sym is.before)) has

  pub next_query : (i : ℕ) (q : Query) → IsQueryAt i q → HasRefuted w job budget (asked_until n q ++ (n, q) ∷ []) journal
      → HasRefuted w job budget (asked_first n (i + 1)) journal
  next_query i q is has =
      let front : of_level n (asked_before q) ++ (n, q) ∷ [] ≡ of_level n (take (i + 1) all_queries) =
      sym (map-append (λ (r : Query). (n, r)) (asked_before q) (q ∷ [])) ∙ ap (of_level n) (sym is.more) in
      let whole : asked_until n q ++ (n, q) ∷ [] ≡ asked_first n (i + 1) =
      append_assoc (asked_below n) (of_level n (asked_before q)) ((n, q) ∷ []) ∙ ap (λ (xs : List Asked). asked_below n ++ xs) front in
      same_questions (asked_until n q ++ (n, q) ∷ []) (asked_first n (i + 1)) whole has

  pub ends_level : (i : ℕ) → length all_queries ≤ i → HasRefuted w job budget (asked_first n i) journal → HasRefuted w job budget (asked_below (n + 1)) journal
  ends_level i all has =
      same_questions (asked_first n i) (asked_below (n + 1)) (ap (λ (qs : List Query). asked_below n ++ of_level n qs) (all_taken i all) ∙ ap asked_below (one_more n)) has
    where
      one_more : (n : ℕ) → suc n ≡ n + 1
      one_more n = omega arith

      all_taken : (i : ℕ) → length all_queries ≤ i → take i all_queries ≡ all_queries
      all_taken i le = take_all i all_queries le

-- the budget is the journal's
pub own_budget : (w : Width) (job : Job) (budget : Option ℕ) (xs : List Asked) (journal : Journal) → HasRefuted w job budget xs journal
    → HasRefuted w job journal.budget xs journal
own_budget w job budget xs journal has = subst (λ (b : Option ℕ). HasRefuted w job b xs journal) (sym has.budget_is) has

-- what is answered with a budget that is another's
pub by_budget : (a : Subject) (budget other : Option ℕ) (n : ℕ) (xs : List Asked) (journal : Journal) (found is : Option Verdict)
    → budget ≡ other → found ≡ is → IsAnswered a budget n xs journal found → IsAnswered a other n xs journal is
by_budget a budget other n xs journal found is same e answered =
    subst (λ (b : Option ℕ). IsAnswered a b n xs journal is) same (subst (IsAnswered a budget n xs journal) e answered)

-- ---- the literal of a question

pub there_is : (xs : List LevelCells) (n : ℕ) → n < length xs → (x : LevelCells) × (slice_get xs n ≡ Some x)
there_is [] n lt = absurd (omega arith)
there_is (x ∷ xs) zero lt = (x, refl)
there_is (x ∷ xs) (suc n) lt = there_is xs n (omega arith)

all_levels : (P : LevelCells → Type 0) (xs : List LevelCells) → ((n : ℕ) (x : LevelCells) → slice_get xs n ≡ Some x → P x) → All P xs
all_levels P [] h = λ i d lt. absurd (omega arith)
all_levels P (x ∷ xs) h = All-cons P x xs (h zero x refl) (all_levels P xs (λ n y get. h (suc n) y get))

-- what is read of the first variables alone is a literal of one of them
reads_below : (n : ℕ) (l : Lit) → Reads n (lit_value l) → l.var < n
reads_below n l reads =
    elim (which l.var n) as (λ _. l.var < n) [
      | inl lt ↦ lt
      | inr le ↦ absurd (apart l.neg _ _ (none l.var) (here l.var) (reads [] (assigned l.var) (λ i lt. nothing i l.var (omega arith))))
    ]
  where
    which : (i n : ℕ) → (i < n) ⊎ (n ≤ i)
    which i n = grind arith

    -- false up to the variable, and there true
    assigned : ℕ → List Bool
    assigned zero = true ∷ []
    assigned (suc i) = false ∷ assigned i

    nothing : (i k : ℕ) → i < k → bit [] i ≡ bit (assigned k) i
    nothing i zero lt = absurd (omega arith)
    nothing zero (suc k) lt = refl
    nothing (suc i) (suc k) lt = nothing i k (omega arith)

    here : (k : ℕ) → bit (assigned k) k ≡ true
    here zero = refl
    here (suc k) = here k

    none : (k : ℕ) → bit [] k ≡ false
    none zero = refl
    none (suc k) = refl

    apart : (neg b c : Bool) → b ≡ false → c ≡ true → (if neg then not b else b) ≡ (if neg then not c else c) → ⊥
    apart neg true c was is same = absurd cc
    apart neg false false was is same = absurd cc
    apart true false true was is same = absurd cc
    apart false false true was is same = absurd cc

-- the states of which a question speaks are told by the formula's variables
states_read : {w : Width} {job : Job} {I : Start State} {P : Transition State State} {n : ℕ} {y : Kept} (f : Cnf) (q : Query) → IsEncoded w job I P (of_formula f) n y →
    Reads f.vars (asked_states q y)
states_read f StepWrong e a b same = ap reverse (e.wrong.states_read a b same)
states_read f StepBig e a b same = ap reverse (e.big.states_read a b same)
states_read f InvNotTrue e a b same = ap reverse (e.not_true.states_read a b same)
states_read f InvBig e a b same = ap reverse (e.inv_big.states_read a b same)
states_read f AssumeBig e a b same = ap reverse (e.big.states_read a b same)

-- what is said of a question's literal
abbrev pub IsLiteral : Encoder → ℕ → Query → Lit → Type 0
IsLiteral e n q l = (x : LevelCells) → slice_get e.levels n ≡ Some x → (l ≡ literal_of x q) × AsksAt e n x q

module _ (a : Subject) (e : Encoder) (n : ℕ) (is_ready : IsReady a) (has_level : HasLevel a e n) where
  stands : StandsFor (Some (width_of e)) a.job.now e.system.now
  stands =
      subst (λ (w : ℕ). StandsFor (Some w) a.job.now e.system.now) (sym has_level.of.width)
      (subst (λ (s : System). StandsFor (Some a.width) a.job.now s) (sym has_level.of.system) is_ready.stands)

  pub level_is : (x : LevelCells) → slice_get e.levels n ≡ Some x → IsLevelOf (Some a.width) a.job.now e.system.now e.build.formula n (kept e n x)
  level_is x get =
      subst (λ (w : ℕ). IsLevelOf (Some w) a.job.now e.system.now e.build.formula n (kept e n x)) has_level.of.width
      (has_level.of.encoder.levels n x get a.job.now stands)

  pub literal_is : (q : Query) (l : Lit) → IsLiteral e n q l → IsLiteralOf (Some a.width) a.job.now e.build.formula n q l
  literal_is q l literal =
      let x = there_is e.levels n has_level.there in
      record {
        satisfiable = has_level.of.encoder.satisfiable;
        arena = e.build.arena;
        width = ap (λ (w : ℕ). Some w) (sym has_level.of.width);
        levels = e.levels;
        cells = all_levels (λ y. All (λ id. id.index < length e.build.arena.kinds) y.cells) e.levels
            (λ m y get. cells_there e y.cells has_level.of.encoder (has_level.of.encoder.cells m y get));
        level = x.0;
        there = x.1;
        literal = (literal x.0 x.1).0;
        states = states_read e.build.formula q (level_is x.0 x.1).encoded;
        attempt = (level_is x.0 x.1).encoded.wrong.attempt_reads;
        asks = subst (λ (w : ℕ). AsksOf (Some w) a.job.now e.build.formula n q (kept e n x.0)) has_level.of.width
            ((literal x.0 x.1).1 a.job.now stands);
      }

  pub literal_below : (q : Query) (l : Lit) → IsOfLevels q → IsLiteral e n q l → l.var < e.build.formula.vars
  literal_below q l of literal =
      let x = there_is e.levels n has_level.there in
      subst (λ (m : Lit). m.var < e.build.formula.vars) (sym (literal x.0 x.1).0) (reads_below e.build.formula.vars (literal_of x.0 q) (by q of (level_is x.0 x.1).encoded))
    where
      by : {w : Width} {I : Start State} {P : Transition State State} (q : Query) → IsOfLevels q →
          IsEncoded w a.job.now I P (of_formula e.build.formula) n (kept e n (there_is e.levels n has_level.there).0) →
          Reads e.build.formula.vars (lit_value (literal_of (there_is e.levels n has_level.there).0 q))
      by StepWrong of y = y.wrong.asks_reads
      by StepBig of y = y.big.asks_reads
      by InvNotTrue of y = y.not_true.asks_reads
      by InvBig of y = y.inv_big.asks_reads
      by AssumeBig of y = absurd of

  -- what satisfies the formula with the literal shows the question
  pub shown_by : (q : Query) (l : Lit) (budget : Option ℕ) (journal : Journal) (bits : List Bool) → IsLiteral e n q l
      → HasRefuted (Some a.width) a.job.now budget (asked_until n q) journal → IsModel e.build.formula l bits → IsShownBy a e n q bits
  shown_by q l budget journal bits literal has model = λ x get.
      let asks = subst (λ (w : ℕ). AsksOf (Some w) a.job.now e.build.formula n q (kept e n x)) has_level.of.width ((literal x get).1 a.job.now stands) in
      let made_true : (question q (kept e n x)).asks bits ≡ true =
      same_literal e.build.arena e.levels n x q bits ∙ ap (λ (m : Lit). lit_value m bits) (sym (literal x get).0) ∙ model.assumed in
      shown_at x (asks.asks.real (no_step_before (Some a.width) a.job.now n q has.none) bits model.satisfies made_true)
    where
      shown_at : (x : LevelCells) → Shows q (Some a.width) a.job.now (the_start (Some a.width) a.job.now) n ((question q (kept e n x)).states bits) ((question q (kept e n x)).attempt bits)
          → ShowsQuestion a n q (asked_states q (kept e n x) bits) (state_at e.build.arena x.cells bits)
      shown_at x h = h

  pub holds_now : (q : Query) (bits : List Bool) → IsOfLevels q → IsShownBy a e n q bits → Holds q (Some a.width) a.job.now n
  holds_now q bits of shown =
      let x = there_is e.levels n has_level.there in
      holds_by q (Some a.width) a.job.now n (asked_states q (kept e n x.0) bits) (state_at e.build.arena x.0.cells bits) of (shown x.0 x.1)

-- ---- what is answered to a question

no_assumption : (q : Query) → IsOfLevels q → q ≡ AssumeBig → ⊥
no_assumption q of e = subst IsOfLevels e of

module _ (a : Subject) (e : Encoder) (question : Question) (l : Lit) (budget : Option ℕ) (old new : Journal) (is_ready : IsReady a)
    (has_level : HasLevel a e question.level) (of : IsOfLevels question.query) (literal : IsLiteral e question.level question.query l)
    (has : HasRefuted (Some a.width) a.job.now budget (asked_until question.level question.query) old) where
  asks : IsLiteralOf (Some a.width) a.job.now e.build.formula question.level question.query l
  asks = literal_is a e question.level is_ready has_level question.query l literal

  abbrev pub Answers : Option Verdict → Type 0
  Answers v = IsAnswered a budget question.level (asked_until question.level question.query ++ asked_of question ∷ []) new v

  pub refuted_answer : IsReply e.build.formula question l old new reply.Refuted → Answers None
  refuted_answer is = journal_more (Some a.width) a.job.now budget question e.build.formula l old new asks has is

  pub open_answer : (v : Verdict) → IsReply e.build.formula question l old new reply.Spent → v ≡ Spent (unwrap_or new.budget 0) (Level question.level) → Answers (Some v)
  open_answer v is same =
      spent_answer a.width a.job.now (types_of a) budget question e.build.formula l old new v (no_assumption question.query of) asks has is same

  pub shown_after : (bits : List Bool) → IsReply e.build.formula question l old new (reply.Holds bits) → IsShownBy a e question.level question.query bits
  shown_after bits is = shown_by a e question.level is_ready has_level question.query l budget old bits literal has is.0

  pub holds_answer : (bits : List Bool) (v : Verdict) → IsReply e.build.formula question l old new (reply.Holds bits)
      → IsTold a question.level question.query v → Answers (Some v)
  holds_answer bits v is told =
      found_checked a.width a.job.now is_ready.placed (types_of a) budget question.level new question.query v told.shown told.typed
      (holds_now a e question.level is_ready has_level question.query bits of (shown_after bits is))
      (subst (λ (j : Journal). HasRefuted (Some a.width) a.job.now budget (asked_until question.level question.query) j) (sym is.1) has)
