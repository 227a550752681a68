-- What a path comes to over all its choices: an effect, as that of an action.
use Rattle.std.specs.Prelude.{Bool, true, false, List, [], ◌∷◌, map}
use Rattle.tla_meaning.specs.declared.actions.Effect.{Effect}
use Rattle.tla_meaning.specs.declared.place.Place.{Place}
use Rattle.tla_meaning.specs.declared.job.State.{State}
use Rattle.tla_meaning.specs.declared.outcome.Outcome.{Outcome}
use Rattle.tla_meaning.specs.declared.outcome.Fault.TheVariants.{NoFault}
use Rattle.tla_meaning.specs.Outcomes.{join_faults}
use Rattle.tla_meaning.specs.Numbers.{Width}
use Rattle.tla_meaning.specs.Scopes.{Scope, bind}
use Rattle.tla_meaning.specs.Actions.{fails_by, effect_of, effects_or, guarded, exists_effect}
use Rattle.kernel_trees.specs.Trees.{names_of, ker_val}
use Rattle.kernel_trees.specs.Ways.{Way}
use Rattle.kernel_trees.specs.Paths.{Step, Holds, Branch, Choice, numbers, sets}

abbrev pub done : Effect
done = record { holds = true; fault = NoFault }

-- goes on where an action holds, and has the faults of both
abbrev pub and_then : Effect → Effect → Effect
and_then e f = elim e.holds [ true ↦ record { holds = f.holds; fault = join_faults e.fault f.fault } | false ↦ e ]

-- goes on where a guard has this truth value
abbrev pub led : Place → Bool → Outcome → Effect → Effect
led p true o e = guarded p o e (fails_by NoFault)
led p false o e = guarded p o (fails_by NoFault) e

-- the steps over all choices, where what follows comes to `rest` in the scope of the choices made
abbrev pub go : Width → State → State → List Step → (Scope → Effect) → Scope → Effect
go w s t [] rest sc = rest sc
go w s t (Holds k ∷ ys) rest sc = and_then (effect_of (ker_val w k sc s t)) (go w s t ys rest sc)
go w s t (Branch p k b ∷ ys) rest sc = led p b (ker_val w k sc s t) (go w s t ys rest sc)
go w s t (Choice p ps ∷ ys) rest sc =
    exists_effect p (map (λ k. ker_val w k sc s t) (sets ps)) (λ vs. go w s t ys rest (bind (names_of (numbers ps)) vs sc))

-- whether the path holds for some choices, and the join of its faults over all choices
abbrev pub way_effect : Width → Way Step → Scope → State → State → Effect
way_effect w y sc s t = go w s t y.steps (λ sc. done) sc

-- one path holds for some choices, and the join of all paths' faults over all choices
abbrev pub ways_effect : Width → List (Way Step) → Scope → State → State → Effect
ways_effect w ys sc s t = effects_or (map (λ y. way_effect w y sc s t) ys)
