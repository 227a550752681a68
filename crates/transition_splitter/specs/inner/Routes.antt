-- The ways that routes stand for.
use Rattle.std.specs.Prelude.{◌≡◌, Bool, List, ◌++◌, map, zip, length, slice_get, take}
use Rattle.tla_meaning.specs.declared.place.Place.{Place}
use Rattle.kernel_trees.specs.declared.kernel.Ker.{Ker, out-Ker}
use Rattle.kernel_trees.specs.Paths.{Marks, Parted, Step, Holds, Branch, Choice, choice_ways, ends_at, if_ways}
use Rattle.kernel_trees.specs.Paths.{ways}
use Rattle.kernel_trees.specs.Ways.{Way, has_ended}
use Rattle.transition_splitter.specs.declared.routes.LentStep.{LentStep}
use Rattle.transition_splitter.specs.declared.routes.LentStep.TheVariants as lent
use Rattle.transition_splitter.specs.declared.routes.Route.{Route}

abbrev pub step_lent : LentStep → Step
step_lent (lent.Holds k) = Holds k.now
step_lent (lent.Branch p k b) = Branch p k.now b
step_lent (lent.Choice k) = Choice (out-Ker k.now).place (zip (out-Ker k.now).binds (out-Ker k.now).args)

abbrev pub way : Route → Way Step
way r = record { taken = r.taken; steps = map step_lent r.steps.items }

abbrev pub ways_by : List Route → List (Way Step)
ways_by rs = map way rs

-- the new routes are the old ones and then those of these ways
abbrev pub Adds : List Route → List Route → List (Way Step) → Type 0
Adds old new ys = ways_by new ≡ ways_by old ++ ys

abbrev pub has_way_ended : Way Step → Bool
has_way_ended y = has_ended ends_at y.steps

-- the ways of each tree, with its root
abbrev pub rooted : Marks → Ker → Place × List (Way Step)
rooted m k = ((out-Ker k).place, ways m k)

-- each tree with its ways
abbrev pub with_ways : Marks → List Ker → List Parted
with_ways m ks = map (λ k. (k, ways m k)) ks

-- of an IF that is taken apart
abbrev pub branch_ways : Marks → Ker → List (Way Step)
branch_ways m k = if_ways k (out-Ker k).place (with_ways m (out-Ker k).args)

-- of an `\E`
abbrev pub some_ways : Marks → Ker → List (Way Step)
some_ways m k =
    let x = out-Ker k in
    let ks = with_ways m x.args in
    choice_ways k x.place (zip x.binds (map (λ k. k.0) (take (length x.binds) ks))) (slice_get ks (length x.binds))
