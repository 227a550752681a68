-- What the ends of paths say of the outcome of an action.
use Rattle.std.specs.Prelude.{◌≡◌, ◌↔◌, true}
use Rattle.tla_meaning.specs.declared.actions.Effect.{Effect}
use Rattle.tla_meaning.specs.declared.outcome.Fault.{Fault}
use Rattle.tla_meaning.specs.declared.outcome.Fault.TheVariants.{NoFault, IsWrong, IsBig}
use Rattle.tla_meaning.specs.declared.outcome.Outcome.{Outcome}
use Rattle.tla_meaning.specs.Executions.{IsYes, IsWrongOutcome}
use Rattle.tla_meaning.specs.Questions.{IsBigOutcome}
use Rattle.level_laws.specs.Branches.{Ending, Held, MetWrong, MetBig}

abbrev pub IsWrongFault : Fault → Type 0
IsWrongFault NoFault = ⊥
IsWrongFault (IsWrong p) = Unit {0}
IsWrongFault (IsBig p) = ⊥

abbrev pub IsBigFault : Fault → Type 0
IsBigFault NoFault = ⊥
IsBigFault (IsWrong p) = ⊥
IsBigFault (IsBig p) = Unit {0}

-- TRUE only where something held; Wrong exactly where something Wrong was met, and Big where something Big was and
-- nothing Wrong; else TRUE where something held
pub record OutcomeBy (M : Ending → Type 0) (o : Outcome) : Type 0 where
  pub yes : IsYes o → M Held
  pub is_yes : M Held → (M MetWrong → ⊥) → (M MetBig → ⊥) → IsYes o
  pub is_wrong : IsWrongOutcome o ↔ M MetWrong
  pub is_big : IsBigOutcome o ↔ (M MetBig × (M MetWrong → ⊥))

-- the same of an effect, which may hold and have a fault
pub record EffectBy (M : Ending → Type 0) (e : Effect) : Type 0 where
  pub goes : (e.holds ≡ true) ↔ M Held
  pub is_wrong : IsWrongFault e.fault ↔ M MetWrong
  pub is_big : IsBigFault e.fault ↔ (M MetBig × (M MetWrong → ⊥))

-- an expression that is taken as a whole
abbrev pub outcome_ends : Outcome → Ending → Type 0
outcome_ends o Held = IsYes o
outcome_ends o MetWrong = IsWrongOutcome o
outcome_ends o MetBig = IsBigOutcome o
