-- Verdicts with the types of their states.
use Rattle.std.proofs.Common.{◌≡◌, ℕ, List, [], ◌∷◌, ◌++◌, Some, None, sym, subst}
use Rattle.std.proofs.lemmas.List.{append-nil}
use Rattle.tla_meaning.specs.Numbers.{Width}
use Rattle.tla_meaning.specs.declared.job.Job.{Job}
use Rattle.tla_meaning.specs.declared.job.State.{State}
use Rattle.tla_meaning.specs.declared.outcome.Outcome.{Outcome}
use Rattle.tla_meaning.specs.declared.questions.Query.{Query}
use Rattle.trace_text.specs.declared.verdict.Verdict.{Verdict}
use Rattle.bounded_engine.specs.Verdicts.{AreTyped, InvariantGives, states_of, states_told}
use Rattle.bounded_engine.specs.declared.subject.Subject.{Subject}
use Rattle.bounded_engine.specs.inner.Finding.{IsShown, IsTold, PartGives, types_of}

-- by what a part gives
pub step_told : (a : Subject) (n : ℕ) (q : Query) (states : List State) (attempt : State) (o : Outcome) (v : Verdict)
    → PartGives (Some a.width) a.job.now n o record { states = states; attempt = Some attempt }
    → ((w : Width) (job : Job) → PartGives w job n o record { states = states; attempt = Some attempt } → IsShown w job n q v)
    → states_told v ≡ states_of record { states = states; attempt = Some attempt } → AreTyped (types_of a) (states ++ attempt ∷ []) → IsTold a n q v
step_told a n q states attempt o v gives shown told typed =
    record { shown = shown (Some a.width) a.job.now gives; typed = subst (AreTyped (types_of a)) (sym told) typed }

-- by what an invariant gives
pub invariant_told : (a : Subject) (n : ℕ) (q : Query) (states : List State) (name : List ℕ) (o : Outcome) (v : Verdict)
    → InvariantGives (Some a.width) a.job.now n name o record { states = states; attempt = None }
    → ((w : Width) (job : Job) → InvariantGives w job n name o record { states = states; attempt = None } → IsShown w job n q v)
    → states_told v ≡ states_of record { states = states; attempt = None } → AreTyped (types_of a) states → IsTold a n q v
invariant_told a n q states name o v gives shown told typed = record {
  shown = shown (Some a.width) a.job.now gives;
  typed = subst (AreTyped (types_of a)) (sym told) (subst (AreTyped (types_of a)) (sym (append-nil states)) typed);
}
