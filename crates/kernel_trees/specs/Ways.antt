-- Paths over steps of any kind: those of a conjunction, of alternatives, behind the step that leads to a branch. Source:
-- Konnov, Kukovec and Tran, "TLA+ Model Checking Made Symbolic", OOPSLA 2019, on symbolic transitions.
use Rattle.std.specs.Prelude.{Bool, false, List, [], ◌∷◌, ◌++◌, map, Option, Some, None, if◌then◌else◌}
use Rattle.tla_meaning.specs.declared.place.Place.{Place}
use Rattle.tla_meaning.specs.Scopes.{or_else}

-- a path: the root of the last branch that it takes, and its steps
pub record Way (S : Type 0) : Type 0 where
  pub taken : Option Place
  pub steps : List S

-- a path has ended where its last step is an end
abbrev pub has_ended : {S : Type 0} → (S → Bool) → List S → Bool
has_ended ends [] = false
has_ended ends (x ∷ []) = ends x
has_ended ends (x ∷ y ∷ ys) = has_ended ends (y ∷ ys)

abbrev pub one_after : {S : Type 0} → Way S → Way S → Way S
one_after a b = record { taken = or_else b.taken a.taken; steps = a.steps ++ b.steps }

-- the paths of what follows, behind a path that has not ended
abbrev pub after : {S : Type 0} → (S → Bool) → Way S → List (Way S) → List (Way S)
after ends a bs = if has_ended ends a.steps then a ∷ [] else map (one_after a) bs

abbrev pub after_each : {S : Type 0} → (S → Bool) → List (Way S) → List (Way S) → List (Way S)
after_each ends [] bs = []
after_each ends (a ∷ as') bs = after ends a bs ++ after_each ends as' bs

-- of a conjunction: one path of each operand, in every combination
abbrev pub all_of : {S : Type 0} → (S → Bool) → List (List (Way S)) → List (Way S)
all_of ends [] = record { taken = None; steps = [] } ∷ []
all_of ends (as' ∷ rest) = after_each ends as' (all_of ends rest)

-- of a branch with this root, behind the steps that lead to it
abbrev pub branch : {S : Type 0} → List S → Place → List (Way S) → List (Way S)
branch front p ys = map (λ y. record { taken = or_else y.taken (Some p); steps = front ++ y.steps }) ys

-- of alternatives, each with its root
abbrev pub any_of : {S : Type 0} → List (Place × List (Way S)) → List (Way S)
any_of [] = []
any_of (k ∷ ks) = branch [] k.0 k.1 ++ any_of ks

-- one step alone
abbrev pub alone : {S : Type 0} → S → List (Way S)
alone x = record { taken = None; steps = x ∷ [] } ∷ []
