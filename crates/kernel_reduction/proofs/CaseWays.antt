-- The paths of a branch of a CASE that is split: those of its own tree, behind the guards.
use Rattle.std.proofs.Common.{◌≡◌, Bool, true, false, List, [], ◌∷◌, ◌++◌, map, refl, sym, ◌∙◌, ap, ap₂, Option, Some, None, if◌then◌else◌}
use Rattle.tla_meaning.specs.declared.place.Place.{Place}
use Rattle.tla_meaning.specs.Scopes.{or_else}
use Rattle.snowcat_rows.specs.declared.types.Ty.{Ty}
use Rattle.kernel_trees.specs.declared.kernel.Ker.{Ker, out-Ker, out-roll-Ker}
use Rattle.kernel_trees.specs.declared.kernel.Ker.TheOpen.{Ker-F}
use Rattle.kernel_trees.specs.declared.kernel.KerOp.TheVariants as ker
use Rattle.kernel_trees.specs.Paths.{Marks, Step, Holds, ends_at, is_end, ways}
use Rattle.kernel_trees.specs.Ways.{Way, all_of, alone, branch, has_ended, one_after}
use Rattle.kernel_trees.proofs.LawOfPaths.{ways-roll}
use Rattle.kernel_reduction.specs.Rows.{negation, node, twice_negated}
use Rattle.kernel_reduction.proofs.Basics.{append_none, map_append, map_map}

or_none : {X : Type 0} (o : Option X) → or_else o None ≡ o
or_none None = refl
or_none (Some x) = refl

after_empty : (a : Way Step) (b : Bool) → (if b then a ∷ [] else map (one_after a) (record { taken = None; steps = [] } ∷ [])) ≡ a ∷ []
after_empty a true = refl
after_empty a false = λ i. record { taken = a.taken; steps = append_none a.steps i } ∷ []

all_of_one : (as' : List (Way Step)) → all_of ends_at (as' ∷ []) ≡ as'
all_of_one [] = refl
all_of_one (a ∷ as') = ap₂ (λ xs ys. xs ++ ys) (after_empty a (has_ended ends_at a.steps)) (all_of_one as')

abbrev behind_step : Step → Way Step → Way Step
behind_step x y = record { taken = y.taken; steps = x ∷ y.steps }

abbrev pub behind_steps : List Step → Way Step → Way Step
behind_steps xs y = record { taken = y.taken; steps = xs ++ y.steps }

all_of_step : (k : Ker) (rest : List (List (Way Step))) → is_end (out-Ker k).op ≡ false →
    all_of ends_at (alone (Holds k) ∷ rest) ≡ map (behind_step (Holds k)) (all_of ends_at rest)
all_of_step k rest h =
    append_none _
    ∙ ap (λ b. if b then (record { taken = None; steps = Holds k ∷ [] }) ∷ [] else map (one_after (record { taken = None; steps = Holds k ∷ [] })) (all_of ends_at rest)) h
    ∙ by (all_of ends_at rest)
  where
    by : (bs : List (Way Step)) → map (one_after (record { taken = None; steps = Holds k ∷ [] })) bs ≡ map (behind_step (Holds k)) bs
    by [] = refl
    by (b ∷ bs) = λ i. record { taken = or_none b.taken i; steps = Holds k ∷ b.steps } ∷ by bs i

module _ (m : Marks) (p : Place) (a : Ty) where
  abbrev pub guard_steps : List Ker → List Step
  guard_steps gs = map (λ g. Holds (negation p a g)) gs

  -- guards that are asked first
  guards_first : (gs : List Ker) (rest : List (List (Way Step))) →
      all_of ends_at (map (ways m) (map (negation p a) gs) ++ rest) ≡ map (behind_steps (guard_steps gs)) (all_of ends_at rest)
  guards_first [] rest = sym (same (all_of ends_at rest))
    where
      same : (ys : List (Way Step)) → map (behind_steps []) ys ≡ ys
      same [] = refl
      same (y ∷ ys) = ap (λ l. y ∷ l) (same ys)
  guards_first (g ∷ gs) rest =
      ap (λ ws. all_of ends_at (ws ∷ (map (ways m) (map (negation p a) gs) ++ rest))) (ways-roll m _)
      ∙ all_of_step (negation p a g) (map (ways m) (map (negation p a) gs) ++ rest) (ap (λ (x : Ker-F Ker). is_end x.op) (out-roll-Ker _))
      ∙ ap (map (behind_step (Holds (negation p a g)))) (guards_first gs rest)
      ∙ map_map (behind_step (Holds (negation p a g))) (behind_steps (guard_steps gs)) (all_of ends_at rest)

  pairs_ways : (ks : List Ker) → map (λ (k : Ker × List (Way Step)). k.1) (map (λ k. (k, ways m k)) ks) ≡ map (ways m) ks
  pairs_ways ks = map_map (λ (k : Ker × List (Way Step)). k.1) (λ k. (k, ways m k)) ks

  -- one tree behind guards that are to be FALSE
  last_ways : (q : Place) (gs : List Ker) (k : Ker) → ways m (node q a ker.And (map (negation p a) gs ++ k ∷ [])) ≡ map (behind_steps (guard_steps gs)) (ways m k)
  last_ways q gs k =
      ways-roll m _
      ∙ ap (all_of ends_at) (pairs_ways (map (negation p a) gs ++ k ∷ []) ∙ map_append (ways m) (map (negation p a) gs) (k ∷ []))
      ∙ guards_first gs (ways m k ∷ [])
      ∙ ap (map (behind_steps (guard_steps gs))) (all_of_one (ways m k))

  one_list : (gs : List Ker) (g k : Ker) → map (negation p a) gs ++ twice_negated p a g ∷ k ∷ [] ≡ map (negation p a) (gs ++ negation p a g ∷ []) ++ k ∷ []
  one_list [] g k = refl
  one_list (x ∷ xs) g k = ap (λ l. negation p a x ∷ l) (one_list xs g k)

  branch_behind : (q : Place) (fs : List Step) (ys : List (Way Step)) → branch [] q (map (behind_steps fs) ys) ≡ branch fs q ys
  branch_behind q fs [] = refl
  branch_behind q fs (y ∷ ys) = ap (λ l. record { taken = or_else y.taken (Some q); steps = fs ++ y.steps } ∷ l) (branch_behind q fs ys)

  guard_steps_more : (gs : List Ker) (g : Ker) → guard_steps (gs ++ g ∷ []) ≡ guard_steps gs ++ Holds (negation p a g) ∷ []
  guard_steps_more [] g = refl
  guard_steps_more (x ∷ xs) g = ap (λ l. Holds (negation p a x) ∷ l) (guard_steps_more xs g)

  -- the branch of an arm, and the last one
  pub arm_branch : (q r : Place) (gs : List Ker) (g k : Ker) →
      branch [] r (ways m (node q a ker.And (map (negation p a) gs ++ twice_negated p a g ∷ k ∷ [])))
      ≡ branch (guard_steps gs ++ Holds (twice_negated p a g) ∷ []) r (ways m k)
  arm_branch q r gs g k =
      ap (λ l. branch [] r (ways m (node q a ker.And l))) (one_list gs g k)
      ∙ ap (branch [] r) (last_ways q (gs ++ negation p a g ∷ []) k)
      ∙ branch_behind r (guard_steps (gs ++ negation p a g ∷ [])) (ways m k)
      ∙ ap (λ fs. branch fs r (ways m k)) (guard_steps_more gs (negation p a g))

  pub last_branch : (q r : Place) (gs : List Ker) (k : Ker) →
      branch [] r (ways m (node q a ker.And (map (negation p a) gs ++ k ∷ []))) ≡ branch (guard_steps gs) r (ways m k)
  last_branch q r gs k = ap (branch [] r) (last_ways q gs k) ∙ branch_behind r (guard_steps gs) (ways m k)

  pub more_guards : (gs : List Ker) (g : Ker) → guard_steps (gs ++ g ∷ []) ≡ guard_steps gs ++ Holds (negation p a g) ∷ []
  more_guards = guard_steps_more
