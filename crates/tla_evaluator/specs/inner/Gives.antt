-- What a call answers for an outcome: its value, its fault, or want of memory.
use Rattle.std.specs.Prelude.{◌≡◌, Bool, List, [], ◌∷◌, ◌++◌, map, Result, Ok, Err}
use Rattle.tla_values.specs.Sets.{Normal}
use Rattle.tla_meaning.specs.declared.outcome.Fault.{Fault}
use Rattle.tla_meaning.specs.declared.outcome.Fault.TheVariants.{NoFault, IsWrong, IsBig}
use Rattle.tla_meaning.specs.declared.place.Place.{Place}
use Rattle.tla_meaning.specs.Meaning.{Update, choose, updated}
use Rattle.tla_meaning.specs.Operators.{yes_no}
use Rattle.tla_meaning.specs.Outcomes.{join_faults, least}
use Rattle.tla_meaning.specs.declared.actions.Effect.{Effect}
use Rattle.tla_meaning.specs.declared.forms.SetForm.{SetForm}
use Rattle.tla_meaning.specs.Actions.{fails_by}
use Rattle.tla_meaning.specs.Forms.{Broken, Formed, Made, form_faults}
use Rattle.tla_values.specs.declared.value.Value.{Value}
use Rattle.tla_meaning.specs.declared.outcome.Outcome.{Outcome}
use Rattle.tla_meaning.specs.declared.outcome.Outcome.TheVariants as outcome
use Rattle.tla_evaluator.specs.declared.answers.Stop.{Stop}
use Rattle.tla_evaluator.specs.declared.answers.Stop.TheVariants.{Wrong, Big, Memory}
use Rattle.tla_evaluator.specs.inner.Branches.{Branch, GivesBranch, by_guard}

abbrev pub Gives : Outcome → Result Value Stop → Type 0
Gives o (Ok v) = o ≡ outcome.Val v
Gives o (Err (Wrong p)) = o ≡ outcome.Wrong p
Gives o (Err (Big p)) = o ≡ outcome.Big p
Gives o (Err (Memory e)) = Unit {0}

-- the form of a tree, its fault, or want of memory
abbrev pub GivesForm : Formed → Result SetForm Stop → Type 0
GivesForm f (Ok s) = f ≡ Made s
GivesForm f (Err (Wrong p)) = f ≡ Broken (IsWrong p)
GivesForm f (Err (Big p)) = f ≡ Broken (IsBig p)
GivesForm f (Err (Memory e)) = Unit {0}

-- what several trees give, or the join of their faults
abbrev pub GivesAll : {X : Type 0} → Fault → List X → Result (List X) Stop → Type 0
GivesAll f xs (Ok ys) = (f ≡ NoFault) × (xs ≡ ys)
GivesAll f xs (Err (Wrong p)) = f ≡ IsWrong p
GivesAll f xs (Err (Big p)) = f ≡ IsBig p
GivesAll f xs (Err (Memory e)) = Unit {0}

-- the forms of several trees, or the join of their faults
abbrev pub GivesForms : List Formed → Result (List SetForm) Stop → Type 0
GivesForms fs (Ok gs) = fs ≡ map (λ g. Made g) gs
GivesForms fs (Err (Wrong p)) = form_faults fs ≡ IsWrong p
GivesForms fs (Err (Big p)) = form_faults fs ≡ IsBig p
GivesForms fs (Err (Memory e)) = Unit {0}

-- one more joins a fault and what was given
abbrev pub Joins : {X : Type 0} → Fault → List X → Result X Stop → Fault → List X → Type 0
Joins f xs (Ok x) g ys = (g ≡ f) × (ys ≡ xs ++ x ∷ [])
Joins f xs (Err (Wrong p)) g ys = (g ≡ join_faults f (IsWrong p)) × (ys ≡ xs)
Joins f xs (Err (Big p)) g ys = (g ≡ join_faults f (IsBig p)) × (ys ≡ xs)
Joins f xs (Err (Memory e)) g ys = ⊥

-- of two that stop, want of memory, and else the join of their faults
abbrev pub worse : Stop → Stop → Stop
worse (Memory e) t = Memory e
worse (Wrong p) (Memory e) = Memory e
worse (Wrong p) (Wrong q) = Wrong (least p q)
worse (Wrong p) (Big q) = Wrong p
worse (Big p) (Memory e) = Memory e
worse (Big p) (Wrong q) = Wrong q
worse (Big p) (Big q) = Big (least p q)

abbrev pub both : {X Y : Type 0} → Result X Stop → Result Y Stop → Result (X × Y) Stop
both (Ok x) (Ok y) = Ok (x, y)
both (Ok x) (Err t) = Err t
both (Err s) (Ok y) = Err s
both (Err s) (Err t) = Err (worse s t)

-- the truth value of a guard, or what stops every choice by it
abbrev pub Guards : Place → Outcome → Result Bool Stop → Type 0
Guards p o (Ok b) = o ≡ yes_no b
Guards p o (Err s) = ((x y : Outcome) → Gives (choose p o x y) (Err s)) × ((a b : Branch) → GivesBranch (by_guard p o a b) (Err s))

-- the value with one update, or what ends every list of updates that begins with it
abbrev pub Updates : Place → Update → Value → Result Value Stop → Type 0
Updates p u f (Ok v) = Normal v × ((us : List Update) → updated p us v ≡ updated p (u ∷ us) f)
Updates p u f (Err s) = (us : List Update) → Gives (updated p (u ∷ us) f) (Err s)

-- the effect of an action's part, its fault, or want of memory
abbrev pub GivesEffect : Effect → Result Effect Stop → Type 0
GivesEffect f (Ok g) = f ≡ g
GivesEffect f (Err (Wrong p)) = f ≡ fails_by (IsWrong p)
GivesEffect f (Err (Big p)) = f ≡ fails_by (IsBig p)
GivesEffect f (Err (Memory e)) = Unit {0}
