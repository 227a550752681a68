-- The states for which cells stand: their types, those of the first levels, and what they show.
use Rattle.std.proofs.Common.{◌≡◌, ℕ, zero, suc, ◌+◌, ◌<◌, Bool, List, [], ◌∷◌, ◌++◌, map, length, reverse, take, Some, None, refl, sym, ◌∙◌, ap, subst, arith}
use Rattle.std.specs.Prelude.{slice_get}
use Rattle.std.proofs.lemmas.List.{map-append, reverse-append, reverse-reverse}
use Rattle.std.proofs.lemmas.List.Elements.{All-append, All-cons}
use Rattle.cell_arena.specs.Decode.{decode}
use Rattle.cell_arena.specs.declared.build.Build.{Build}
use Rattle.cell_arena.specs.declared.kinds.CellId.{CellId}
use Rattle.kernel_trees.specs.TypeKinds.{Kind, all_there, kind_of}
use Rattle.level_laws.specs.Branches.{Held}
use Rattle.snowcat_rows.specs.declared.types.Ty.{Ty}
use Rattle.trace_decoder.specs.Typed.{HaveTypes}
use Rattle.typed_cells.specs.KindSorts.{OfSorts, sort_of}
use Rattle.tla_meaning.specs.Executions.{last_of}
use Rattle.tla_meaning.specs.Numbers.{Width}
use Rattle.tla_meaning.specs.Questions.{IsBigOutcome, IsNotTrue}
use Rattle.tla_meaning.specs.declared.job.State.{State}
use Rattle.tla_meaning.specs.declared.job.Job.{Job}
use Rattle.tla_meaning.specs.declared.outcome.Outcome.{Outcome}
use Rattle.tla_meaning.specs.declared.questions.Query.{Query}
use Rattle.tla_meaning.specs.declared.questions.Query.TheVariants.{StepWrong, StepBig, InvNotTrue, InvBig, AssumeBig}
use Rattle.sat_formula.specs.declared.cnf.Cnf.{Cnf}
use Rattle.kernel_trees.specs.declared.system.System.{System}
use Rattle.step_branches.specs.Readings.{state_at}
use Rattle.step_laws.specs.Encoded.{Kept, asked_states}
use Rattle.step_laws.specs.Origins.{Begins, the_start}
use Rattle.step_laws.specs.Rows.{EndsWith, InvariantShows}
use Rattle.step_laws.proofs.Executing.{exec_run}
use Rattle.step_laws.proofs.Ordered.{turned}
use Rattle.encoder_laws.specs.Levels.{HaveTruths, IsLevelOf, start_along, step_along}
use Rattle.encoder_laws.specs.declared.level.LevelCells.{LevelCells}
use Rattle.step_encoder.specs.Encoders.{IsEncoder, kept}
use Rattle.step_encoder.specs.declared.encoder.Encoder.{Encoder}
use Rattle.bounded_engine.specs.Verdicts.{AreTyped}
use Rattle.bounded_engine.specs.declared.subject.Subject.{Subject}
use Rattle.bounded_engine.specs.inner.Finding.{AreCellsOf, AreDecoded, EndInTruths, HasLevel, IsEncoderOf, IsDecoded, IsOfInvariants, IsOfSteps, IsReady, IsShownBy, ShowsQuestion, states_below, types_of}
use Rattle.bounded_engine.proofs.AtLevels.{level_is, there_is}
use Rattle.bounded_engine.proofs.Cells.{of_sorts}
use Rattle.bounded_engine.proofs.AtStates.{some_is}

-- ---- their types

-- the cells of a level are the names'
pub level_cells : (e : Encoder) (n : ℕ) (ids : List CellId) → IsEncoder e → n < length e.levels
    → ((x : LevelCells) → slice_get e.levels n ≡ Some x → ids ≡ x.cells) → AreCellsOf e ids
level_cells e n ids is lt same =
    let x = there_is e.levels n lt in
    subst (AreCellsOf e) (sym (same x.0 x.1)) (is.cells n x.0 x.1)

-- what `decoded_values_have_their_types` says of states
abbrev pub TypesOfStates : Type 0
TypesOfStates =
    (b : Build) (ts : List Ty) (ks : List Kind) (ids : List CellId) (a : List Bool) → all_there (map kind_of ts) ≡ Some ks
    → OfSorts b.arena.kinds (map sort_of ks) ids → HaveTypes ts (map (decode b.arena a) ids)

pub decoded : (e : Encoder) (ids : List CellId) (bits : List Bool) (s : State) → IsEncoder e → AreCellsOf e ids → TypesOfStates
    → s.vals ≡ map (decode e.build.arena bits) ids → IsDecoded e ids bits s
decoded e ids bits s is are law values =
    let names = is.system.names in
    let typed = law e.build e.system.now.ker.names names ids bits is.system.kinds (of_sorts e.build.arena.kinds names ids (are names is.system.kinds)) in
    record {
      values = values;
      typed = All-cons (λ (t : State). HaveTypes e.system.now.ker.names t.vals) s [] (subst (HaveTypes e.system.now.ker.names) (sym values) typed) (λ i d lt. absurd (omega arith));
    }

-- ---- the states of the first levels

take_one : (xs : List LevelCells) (n : ℕ) (x : LevelCells) → slice_get xs n ≡ Some x → take (suc n) xs ≡ take n xs ++ x ∷ []
take_one [] n x get = absurd (none x (sym get))
  where
    none : (x : LevelCells) → Some x ≡ None → ⊥
    none x e = cc
take_one (y ∷ xs) zero x get = ap (λ (z : LevelCells). z ∷ []) (here x y get)
  where
    here : (x y : LevelCells) → Some y ≡ Some x → y ≡ x
    here x y e = cc
take_one (y ∷ xs) (suc n) x get = ap (λ (zs : List LevelCells). y ∷ zs) (take_one xs n x get)

pub no_states : (e : Encoder) (bits : List Bool) (states : List State) → states ≡ [] → AreDecoded e bits 0 states
no_states e bits states none = record { same = none; typed = subst (AreTyped e.system.now.ker.names) (sym none) (λ i d lt. absurd (omega arith)) }

module _ (e : Encoder) (bits : List Bool) (n : ℕ) (x : LevelCells) (get : slice_get e.levels n ≡ Some x) where
  abbrev state_of : LevelCells → State
  state_of y = state_at e.build.arena y.cells bits

  one_more : states_below e bits n ++ state_of x ∷ [] ≡ states_below e bits (n + 1)
  one_more =
      sym (map-append state_of (take n e.levels) (x ∷ []))
      ∙ ap (map state_of) (sym (take_one e.levels n x get) ∙ ap (λ (k : ℕ). take k e.levels) (next n))
    where
      next : (n : ℕ) → suc n ≡ n + 1
      next n = omega arith

  is_state : (s : State) → s.vals ≡ map (decode e.build.arena bits) x.cells → s ≡ state_of x
  is_state s values = ap (λ vs. record { vals = vs }) values

  pub states_more : (ids : List CellId) (made new : List State) (s : State) → ids ≡ x.cells → AreDecoded e bits n made → IsDecoded e ids bits s
      → new ≡ made ++ s ∷ [] → AreDecoded e bits (n + 1) new
  states_more ids made new s cells are is pushed = record {
    same = pushed ∙ ap (λ (ss : List State). ss ++ s ∷ []) are.same
        ∙ ap (λ (t : State). states_below e bits n ++ t ∷ []) (is_state s (is.values ∙ ap (map (decode e.build.arena bits)) cells)) ∙ one_more;
    typed = subst (AreTyped e.system.now.ker.names) (sym pushed) (All-append (λ (t : State). HaveTypes e.system.now.ker.names t.vals) made (s ∷ []) are.typed is.typed);
  }

  -- ---- what they show

  steps_asked : (q : Query) → IsOfSteps q → asked_states q (kept e n x) bits ≡ states_below e bits n
  steps_asked StepWrong of = reverse-reverse (states_below e bits n)
  steps_asked StepBig of = reverse-reverse (states_below e bits n)
  steps_asked InvNotTrue of = absurd of
  steps_asked InvBig of = absurd of
  steps_asked AssumeBig of = absurd of

  pub steps_shown : (a : Subject) (q : Query) (ids : List CellId) (states : List State) (attempt : State) → IsOfSteps q → ids ≡ x.cells → IsShownBy a e n q bits
      → AreDecoded e bits n states → IsDecoded e ids bits attempt → ShowsQuestion a n q states attempt
  steps_shown a q ids states attempt of cells shown are is =
      subst (λ (ss : List State). ShowsQuestion a n q ss attempt) (steps_asked q of ∙ sym are.same)
      (subst (ShowsQuestion a n q (asked_states q (kept e n x) bits)) (sym (is_state attempt (is.values ∙ ap (map (decode e.build.arena bits)) cells))) (shown x get))

  all_asked : (q : Query) → IsOfInvariants q → asked_states q (kept e n x) bits ≡ states_below e bits (n + 1)
  all_asked q of = by q of ∙ reverse-append (state_of x ∷ []) (reverse (states_below e bits n)) ∙ ap (λ (ss : List State). ss ++ state_of x ∷ []) (reverse-reverse (states_below e bits n)) ∙ one_more
    where
      by : (q : Query) → IsOfInvariants q → asked_states q (kept e n x) bits ≡ reverse (state_of x ∷ reverse (states_below e bits n))
      by StepWrong of = absurd of
      by StepBig of = absurd of
      by InvNotTrue of = refl
      by InvBig of = refl
      by AssumeBig of = absurd of

  any_attempt : (a : Subject) (q : Query) (states : List State) (s t : State) → IsOfInvariants q → ShowsQuestion a n q states s → ShowsQuestion a n q states t
  any_attempt a StepWrong states s t of h = absurd of
  any_attempt a StepBig states s t of h = absurd of
  any_attempt a InvNotTrue states s t of h = h
  any_attempt a InvBig states s t of h = h
  any_attempt a AssumeBig states s t of h = absurd of

  pub invariants_shown : (a : Subject) (q : Query) (states : List State) → IsOfInvariants q → IsShownBy a e n q bits → AreDecoded e bits (n + 1) states
      → (t : State) → ShowsQuestion a n q states t
  invariants_shown a q states of shown are t =
      any_attempt a q states (state_of x) t of (subst (λ (ss : List State). ShowsQuestion a n q ss (state_of x)) (all_asked q of ∙ sym are.same) (shown x get))

-- the system's names are the encoder's
pub own_types : (a : Subject) (e : Encoder) → IsEncoderOf a e → (states : List State) → AreTyped e.system.now.ker.names states → AreTyped (types_of a) states
own_types a e is states typed = subst (λ (s : System). AreTyped s.ker.names states) is.system typed

pub both_typed : (a : Subject) (e : Encoder) → IsEncoderOf a e → (states : List State) (attempt : State) → AreTyped e.system.now.ker.names states
    → AreTyped e.system.now.ker.names (attempt ∷ []) → AreTyped (types_of a) (states ++ attempt ∷ [])
both_typed a e is states attempt typed one =
    own_types a e is (states ++ attempt ∷ []) (All-append (λ (t : State). HaveTypes e.system.now.ker.names t.vals) states (attempt ∷ []) typed one)

-- ---- invariants are truth values

module _ (w : Width) (job : Job) (sys : System) (f : Cnf) (n : ℕ) (x : Kept) (level : IsLevelOf w job sys f n x) where
  ends_true : (Is : Outcome → Type 0) (states : List State) (s : State) → InvariantShows Is w job (the_start w job) n states → last_of states ≡ Some s → HaveTruths w job s
  ends_true Is states s shown ends =
      let e : EndsWith w job (the_start w job) n states (λ (u : State). u ≡ s) =
      record { execution = shown.execution; steps = shown.steps; last = shown.last; ends = shown.ends; so = some_is shown.last s (sym shown.ends ∙ ends) } in
      let z = turned w job (the_start w job) n states (λ (u : State). u ≡ s) e in
      let begins : (u : State) → Begins (the_start w job) u → start_along w job sys Held tt u = λ u b. (level.starts.law u b.0).yes b.1 in
      let run = exec_run w job (the_start w job) (start_along w job sys) (step_along w job sys) begins n level.steps z.past z.now z.reached in
      subst (HaveTruths w job) z.so (level.truths z.past z.now run)

pub end_truths : (a : Subject) (e : Encoder) (n : ℕ) (q : Query) (states : List State) (t : State) → IsReady a → HasLevel a e n → IsOfInvariants q
    → ShowsQuestion a n q states t → EndInTruths a states
end_truths a e n q states t is_ready has_level of shown = λ s ends.
    let x = there_is e.levels n has_level.there in
    by q s of shown ends (level_is a e n is_ready has_level x.0 x.1)
  where
    by : (q : Query) (s : State) → IsOfInvariants q → ShowsQuestion a n q states t → last_of states ≡ Some s
        → IsLevelOf (Some a.width) a.job.now e.system.now e.build.formula n (kept e n (there_is e.levels n has_level.there).0) → HaveTruths (Some a.width) a.job.now s
    by StepWrong s of shown ends level = absurd of
    by StepBig s of shown ends level = absurd of
    by InvNotTrue s of shown ends level = ends_true (Some a.width) a.job.now e.system.now e.build.formula n (kept e n (there_is e.levels n has_level.there).0) level IsNotTrue states s shown ends
    by InvBig s of shown ends level = ends_true (Some a.width) a.job.now e.system.now e.build.formula n (kept e n (there_is e.levels n has_level.there).0) level IsBigOutcome states s shown ends
    by AssumeBig s of shown ends level = absurd of
