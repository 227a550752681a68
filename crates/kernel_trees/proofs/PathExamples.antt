-- The paths of small actions and their assignments, by computing.
use Rattle.std.proofs.Common.{◌≡◌, ℕ, Bool, true, false, List, [], ◌∷◌, map, pos, refl}
use Rattle.tla_values.specs.declared.value.Value.TheVariants as value
use Rattle.tla_meaning.specs.declared.place.Place.{Place}
use Rattle.snowcat_rows.specs.declared.types.Ty.{Ty}
use Rattle.kernel_trees.specs.declared.kernel.Ker.{Ker, roll-Ker, out-roll-Ker}
use Rattle.kernel_trees.specs.declared.kernel.KerOp.{KerOp}
use Rattle.kernel_trees.specs.declared.kernel.KerOp.TheVariants as ker
use Rattle.kernel_trees.specs.declared.path.KerPath.{KerPath}
use Rattle.kernel_trees.specs.declared.path.PathStep.{PathStep}
use Rattle.kernel_trees.specs.declared.path.PathStep.TheVariants as path
use Rattle.kernel_trees.specs.declared.path.AssignedStep.TheVariants as mark
use Rattle.kernel_trees.specs.Paths.{Marks, paths, names_below}
use Rattle.kernel_trees.specs.Assignments.{lacks, marked, path_ended, reads_early, reads_late}
use Rattle.kernel_trees.specs.Scoped.{scoped}
use Rattle.kernel_trees.proofs.Trees.{mentions-roll}
use Rattle.kernel_trees.proofs.LawOfPaths.{ways-roll}
use Rattle.kernel_trees.proofs.Marking.{below-roll}
use Rattle.kernel_trees.proofs.Reading.{reads-roll}
use Rattle.kernel_trees.proofs.Scopes.{scoped-roll}

abbrev pub at : ℕ → Place
at n = record { file = 0; line = 1; col = n }

-- the primed names are marked
abbrev pub primed : Marks
primed i b = b

-- the place and the steps of each path
abbrev places : List KerPath → List Place
places xs = map (λ x. x.place) xs

abbrev steps : List KerPath → List (List PathStep)
steps xs = map (λ x. x.steps) xs

module _ (a : Ty) where
  abbrev tree : ℕ → KerOp → List Ker → Ker
  tree n o ks = roll-Ker (record { place = at n; ty = a; op = o; args = ks; binds = [] })

  abbrev number : ℕ → ℕ → Ker
  number n i = tree n (ker.Const (value.Int (pos i))) []

  abbrev truth : ℕ → Bool → Ker
  truth n b = tree n (ker.Const (value.Bool b)) []

  abbrev next : ℕ → ℕ → Ker
  next n i = tree n (ker.Name i true) []

  abbrev now : ℕ → ℕ → Ker
  now n i = tree n (ker.Name i false) []

  -- x' = 1, of the name i, all at column n
  abbrev is_one : ℕ → ℕ → Ker
  is_one n i = tree n ker.Equal (next n i ∷ number n 1 ∷ [])

  abbrev for_some : ℕ → ℕ → Ker → Ker → Ker
  for_some n x s e = roll-Ker (record { place = at n; ty = a; op = ker.Some; args = s ∷ e ∷ []; binds = x ∷ [] })

  abbrev set : ℕ → Ker
  set n = tree n ker.SetOf []

  -- ---- FALSE

  -- FALSE /\ x' = 1 has one path, which ends at FALSE
  ended_places : places (paths primed (tree 1 ker.And (truth 9 false ∷ is_one 2 0 ∷ []))) ≡ at 1 ∷ []
  ended_places = simp (ways-roll, out-roll-Ker, value.outs-Bool)

  ended : steps (paths primed (tree 1 ker.And (truth 9 false ∷ is_one 2 0 ∷ [])))
      ≡ (path.Guard (truth 9 false) true ∷ []) ∷ []
  ended = simp (ways-roll, out-roll-Ker, value.outs-Bool)

  -- TRUE ends none
  goes_on_places : places (paths primed (tree 1 ker.And (truth 9 true ∷ is_one 2 0 ∷ []))) ≡ at 1 ∷ []
  goes_on_places = simp (ways-roll, out-roll-Ker, value.outs-Bool)

  goes_on : steps (paths primed (tree 1 ker.And (truth 9 true ∷ is_one 2 0 ∷ [])))
      ≡ (path.Guard (truth 9 true) true ∷ path.Guard (is_one 2 0) true ∷ []) ∷ []
  goes_on = simp (ways-roll, out-roll-Ker, value.outs-Bool)

  -- (x' = 1 \/ FALSE) /\ y' = 1 has two, and the second ends before y' = 1
  two_places : places (paths primed (tree 1 ker.And (tree 5 ker.Or (is_one 2 0 ∷ truth 9 false ∷ []) ∷ is_one 12 1 ∷ []))) ≡ at 2 ∷ at 9 ∷ []
  two_places = simp (ways-roll, mentions-roll, out-roll-Ker, value.outs-Bool)

  two : steps (paths primed (tree 1 ker.And (tree 5 ker.Or (is_one 2 0 ∷ truth 9 false ∷ []) ∷ is_one 12 1 ∷ [])))
      ≡ (path.Guard (is_one 2 0) true ∷ path.Guard (is_one 12 1) true ∷ [])
      ∷ (path.Guard (truth 9 false) true ∷ []) ∷ []
  two = simp (ways-roll, mentions-roll, out-roll-Ker, value.outs-Bool)

  -- (x' = 1 \/ x' = 1) /\ (y' = 1 \/ y' = 1): the first operand's paths in order, each with the second's in order
  abbrev four : Ker
  four = tree 1 ker.And (tree 2 ker.Or (is_one 3 0 ∷ is_one 4 0 ∷ []) ∷ tree 5 ker.Or (is_one 6 1 ∷ is_one 7 1 ∷ []) ∷ [])

  four_places : places (paths primed four) ≡ at 6 ∷ at 7 ∷ at 6 ∷ at 7 ∷ []
  four_places = simp (ways-roll, mentions-roll, out-roll-Ker)

  four_steps : steps (paths primed four)
      ≡ (path.Guard (is_one 3 0) true ∷ path.Guard (is_one 6 1) true ∷ [])
      ∷ (path.Guard (is_one 3 0) true ∷ path.Guard (is_one 7 1) true ∷ [])
      ∷ (path.Guard (is_one 4 0) true ∷ path.Guard (is_one 6 1) true ∷ [])
      ∷ (path.Guard (is_one 4 0) true ∷ path.Guard (is_one 7 1) true ∷ []) ∷ []
  four_steps = simp (ways-roll, mentions-roll, out-roll-Ker)

  -- ---- disjunctions

  -- x' = 1 \/ x \/ x has three, each the root of its branch
  flat_places : places (paths primed (tree 4 ker.Or (is_one 1 0 ∷ now 6 0 ∷ now 8 0 ∷ []))) ≡ at 1 ∷ at 6 ∷ at 8 ∷ []
  flat_places = simp (ways-roll, mentions-roll, out-roll-Ker)

  flat : steps (paths primed (tree 4 ker.Or (is_one 1 0 ∷ now 6 0 ∷ now 8 0 ∷ [])))
      ≡ (path.Guard (is_one 1 0) true ∷ [])
      ∷ (path.Guard (now 6 0) true ∷ [])
      ∷ (path.Guard (now 8 0) true ∷ []) ∷ []
  flat = simp (ways-roll, mentions-roll)

  -- x' = 1 \/ (x \/ x) has two: the inner disjunction holds no primed name
  nested_places : places (paths primed (tree 4 ker.Or (is_one 1 0 ∷ tree 7 ker.Or (now 6 0 ∷ now 8 0 ∷ []) ∷ []))) ≡ at 1 ∷ at 7 ∷ []
  nested_places = simp (ways-roll, mentions-roll, out-roll-Ker)

  nested : steps (paths primed (tree 4 ker.Or (is_one 1 0 ∷ tree 7 ker.Or (now 6 0 ∷ now 8 0 ∷ []) ∷ [])))
      ≡ (path.Guard (is_one 1 0) true ∷ [])
      ∷ (path.Guard (tree 7 ker.Or (now 6 0 ∷ now 8 0 ∷ [])) true ∷ []) ∷ []
  nested = simp (ways-roll, mentions-roll)

  -- a disjunction without a primed name is one operand, at the action's root
  whole_places : places (paths primed (tree 7 ker.Or (now 6 0 ∷ now 8 0 ∷ []))) ≡ at 7 ∷ []
  whole_places = simp (ways-roll, mentions-roll, out-roll-Ker)

  whole : steps (paths primed (tree 7 ker.Or (now 6 0 ∷ now 8 0 ∷ [])))
      ≡ (path.Guard (tree 7 ker.Or (now 6 0 ∷ now 8 0 ∷ [])) true ∷ []) ∷ []
  whole = simp (ways-roll, mentions-roll)

  -- x' \in S /\ ~(x' = 1 /\ ~y): what is under a negation is one operand
  negated_places : places (paths primed (tree 1 ker.And (tree 3 ker.Member (next 2 0 ∷ set 4 ∷ []) ∷ tree 6 ker.Not (tree 6 ker.And (is_one 7 0 ∷ tree 10 ker.Not (now 11 1 ∷ []) ∷ []) ∷ []) ∷ []))) ≡ at 1 ∷ []
  negated_places = simp (ways-roll, out-roll-Ker)

  negated : steps (paths primed (tree 1 ker.And (tree 3 ker.Member (next 2 0 ∷ set 4 ∷ []) ∷ tree 6 ker.Not (tree 6 ker.And (is_one 7 0 ∷ tree 10 ker.Not (now 11 1 ∷ []) ∷ []) ∷ []) ∷ [])))
      ≡ (path.Guard (tree 3 ker.Member (next 2 0 ∷ set 4 ∷ [])) true ∷ path.Guard (tree 6 ker.Not (tree 6 ker.And (is_one 7 0 ∷ tree 10 ker.Not (now 11 1 ∷ []) ∷ []) ∷ [])) true ∷ []) ∷ []
  negated = simp (ways-roll, out-roll-Ker)

  -- ---- IF

  -- IF x THEN x' = 1 ELSE FALSE
  abbrev either : Ker
  either = tree 1 ker.If (now 2 0 ∷ is_one 4 0 ∷ truth 9 false ∷ [])

  branches_places : places (paths primed either) ≡ at 4 ∷ at 9 ∷ []
  branches_places = simp (ways-roll, mentions-roll, out-roll-Ker)

  branches : steps (paths primed either)
      ≡ (path.Guard (now 2 0) true ∷ path.Guard (is_one 4 0) true ∷ [])
      ∷ (path.Guard (now 2 0) false ∷ path.Guard (truth 9 false) true ∷ []) ∷ []
  branches = simp (ways-roll, mentions-roll)

  -- (IF x THEN x' = 1 ELSE no case) /\ y' = 1: the second path ends before y' = 1
  no_case_ends : steps (paths primed (tree 1 ker.And (tree 2 ker.If (now 3 0 ∷ is_one 4 0 ∷ tree 5 ker.NoCase [] ∷ []) ∷ is_one 6 1 ∷ [])))
      ≡ (path.Guard (now 3 0) true ∷ path.Guard (is_one 4 0) true ∷ path.Guard (is_one 6 1) true ∷ [])
      ∷ (path.Guard (now 3 0) false ∷ path.Guard (tree 5 ker.NoCase []) true ∷ []) ∷ []
  no_case_ends = simp (ways-roll, mentions-roll, out-roll-Ker)

  -- the guard FALSE of an IF is an end as it is handed on, where it is to be TRUE
  guard_end : path_ended (path.Guard (truth 9 false) true ∷ []) ≡ true
  guard_end = simp (out-roll-Ker, value.outs-Bool)

  no_end : path_ended (path.Guard (truth 9 false) false ∷ []) ≡ false
  no_end = refl

  -- a conjunction of nothing has one path without steps, which has not ended and lacks x'
  empty_path : steps (paths primed (tree 1 ker.And [])) ≡ [] ∷ []
  empty_path = simp (ways-roll)

  empty_lacks : lacks primed [] 0 ≡ true
  empty_lacks = refl

  -- IF ~~(x' = 1) THEN TRUE ELSE x' = 1: what stands under two negations is no assignment
  abbrev guard : Ker
  guard = tree 3 ker.Not (tree 3 ker.Not (is_one 2 0 ∷ []) ∷ [])

  guarded : marked primed [] (path.Guard guard true ∷ path.Guard (truth 9 true) true ∷ []) ≡ mark.Guard guard true ∷ mark.Guard (truth 9 true) true ∷ []
  guarded = simp (out-roll-Ker)

  guard_reads : reads_late primed [] (mark.Guard guard true ∷ mark.Guard (truth 9 true) true ∷ []) ≡ false
  guard_reads = simp (mentions-roll)

  -- ---- `\E`

  -- (\E x1 \in {}: x' = 1) /\ y' = 1 binds no number again, and has one path with a choice
  abbrev some_first : Ker
  some_first = tree 1 ker.And (for_some 2 1 (set 3) (is_one 4 0) ∷ is_one 8 1 ∷ [])

  its_numbers : scoped some_first (λ x. false) ≡ true
  its_numbers = simp (scoped-roll)

  its_path_places : places (paths primed some_first) ≡ at 1 ∷ []
  its_path_places = simp (ways-roll, out-roll-Ker)

  its_path : steps (paths primed some_first)
      ≡ (path.Pick ((1, set 3) ∷ []) ∷ path.Guard (is_one 4 0) true ∷ path.Guard (is_one 8 1) true ∷ []) ∷ []
  its_path = simp (ways-roll, out-roll-Ker)

  -- (\E x1 \in {}: x1) /\ (\E x1 \in {}: x1): the number is bound twice, but never where it is bound
  abbrev two_choices : Ker
  two_choices = tree 1 ker.And (for_some 2 1 (set 3) (tree 4 (ker.Bound 1) []) ∷ for_some 5 1 (set 6) (tree 7 (ker.Bound 1) []) ∷ [])

  beside_each_other : scoped two_choices (λ x. false) ≡ true
  beside_each_other = simp (scoped-roll)

  -- \E x1 \in {}: \E x1 \in {}: x1
  bound_again : scoped (for_some 2 1 (set 3) (for_some 5 1 (set 6) (tree 7 (ker.Bound 1) []))) (λ x. false) ≡ false
  bound_again = simp (scoped-roll)

  -- (\E x1 \in {}: TRUE) /\ x1
  read_outside : scoped (tree 1 ker.And (for_some 2 1 (set 3) (truth 4 true) ∷ tree 5 (ker.Bound 1) [] ∷ [])) (λ x. false) ≡ false
  read_outside = simp (scoped-roll)

  -- ---- CASE

  -- CASE x' = 1 -> y' = 1, as a disjunction of its branches with one for no guard
  abbrev by_cases : Ker
  by_cases = tree 1 ker.Or (
      tree 7 ker.And (tree 3 ker.Not (tree 3 ker.Not (is_one 2 0 ∷ []) ∷ []) ∷ is_one 6 1 ∷ [])
      ∷ tree 1 ker.And (tree 3 ker.Not (is_one 2 0 ∷ []) ∷ tree 1 ker.NoCase [] ∷ [])
      ∷ []
      )

  cases_places : places (paths primed by_cases) ≡ at 7 ∷ at 1 ∷ []
  cases_places = simp (ways-roll, mentions-roll, out-roll-Ker)

  cases : steps (paths primed by_cases)
      ≡ (path.Guard guard true ∷ path.Guard (is_one 6 1) true ∷ [])
      ∷ (path.Guard (tree 3 ker.Not (is_one 2 0 ∷ [])) true ∷ path.Guard (tree 1 ker.NoCase []) true ∷ []) ∷ []
  cases = simp (ways-roll, mentions-roll, out-roll-Ker)

  -- the first path reads x' before it is assigned
  first_case : marked primed [] (path.Guard guard true ∷ path.Guard (is_one 6 1) true ∷ []) ≡ mark.Guard guard true ∷ mark.Equals 1 (number 6 1) ∷ []
  first_case = simp (out-roll-Ker)

  early : reads_early primed [] (mark.Guard guard true) 0 (at 2) ≡ true
  early = simp (reads-roll)

  -- not there, and not y'
  elsewhere : reads_early primed [] (mark.Guard guard true) 0 (at 3) ≡ false
  elsewhere = simp (reads-roll)

  another : reads_early primed [] (mark.Guard guard true) 1 (at 2) ≡ false
  another = simp (reads-roll)

  -- ---- assignments

  -- x' = 1 /\ x' = 1 /\ y' \in S: the first of each name; the second reads what is assigned
  assigned : marked primed [] (path.Guard (is_one 1 0) true ∷ path.Guard (is_one 5 0) true ∷ path.Guard (tree 9 ker.Member (next 8 1 ∷ set 10 ∷ [])) true ∷ [])
      ≡ mark.Equals 0 (number 1 1) ∷ mark.Guard (is_one 5 0) true ∷ mark.Among 1 (set 10) ∷ []
  assigned = simp (out-roll-Ker)

  assigned_late : reads_late primed [] (mark.Equals 0 (number 1 1) ∷ mark.Guard (is_one 5 0) true ∷ mark.Among 1 (set 10) ∷ []) ≡ true
  assigned_late = simp (mentions-roll)

  -- x' = y' /\ y' = 1 reads y' early, in x's own right side
  own_side : marked primed [] (path.Guard (tree 2 ker.Equal (next 1 0 ∷ next 3 1 ∷ [])) true ∷ path.Guard (is_one 5 1) true ∷ [])
      ≡ mark.Equals 0 (next 3 1) ∷ mark.Equals 1 (number 5 1) ∷ []
  own_side = simp (out-roll-Ker)

  own_early : reads_late primed [] (mark.Equals 0 (next 3 1) ∷ mark.Equals 1 (number 5 1) ∷ []) ≡ false
  own_early = simp (mentions-roll)

  -- x' = x' reads x' early, in its own right side, and \E x1 \in {x'} in its set
  own_name : reads_early primed [] (mark.Equals 0 (next 3 0)) 0 (at 3) ≡ true
  own_name = simp (reads-roll)

  in_set : reads_early primed [] (mark.Pick ((1, tree 2 ker.SetOf (next 3 0 ∷ [])) ∷ [])) 0 (at 3) ≡ true
  in_set = simp (reads-roll)

  -- an IF's guard that is to be FALSE assigns nothing, and 1 = x' does not either
  no_assignments : marked primed [] (path.Guard (is_one 1 0) false ∷ path.Guard (tree 6 ker.Equal (number 5 1 ∷ next 7 0 ∷ [])) true ∷ [])
      ≡ mark.Guard (is_one 1 0) false ∷ mark.Guard (tree 6 ker.Equal (number 5 1 ∷ next 7 0 ∷ [])) true ∷ []
  no_assignments = simp (out-roll-Ker)

  -- ---- names

  declared : names_below 2 (tree 1 ker.And (is_one 2 0 ∷ is_one 6 1 ∷ [])) ≡ true
  declared = simp (below-roll)

  past : names_below 1 (tree 1 ker.And (is_one 2 0 ∷ is_one 6 1 ∷ [])) ≡ false
  past = simp (below-roll)
