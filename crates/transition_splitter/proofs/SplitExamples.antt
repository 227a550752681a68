-- Small actions and a large one, by computing.
use Rattle.std.proofs.Common.{◌≡◌, ℕ, zero, suc, ◌<◌, ◌≤◌, Bool, true, false, List, [], ◌∷◌, map, length, refl, sym, ◌∙◌}
use Rattle.std.proofs.Common.{ap, arith, Err, Ok, lit<}
use Rattle.tla_values.specs.declared.value.Value.TheVariants as value
use Rattle.tla_meaning.specs.declared.expr.Decl.{Decl}
use Rattle.tla_meaning.specs.declared.place.Place.{Place}
use Rattle.snowcat_rows.specs.declared.types.Ty.{Ty}
use Rattle.kernel_trees.specs.declared.kernel.Ker.{Ker, roll-Ker, out-roll-Ker}
use Rattle.kernel_trees.specs.declared.kernel.KerOp.{KerOp}
use Rattle.kernel_trees.specs.declared.kernel.KerOp.TheVariants as ker
use Rattle.kernel_trees.specs.declared.path.KerPath.{KerPath}
use Rattle.kernel_trees.specs.declared.path.PathStep.{PathStep}
use Rattle.kernel_trees.specs.declared.path.PathStep.TheVariants as path
use Rattle.kernel_trees.specs.Paths.{ends_at, paths, ways}
use Rattle.kernel_trees.specs.Ways.{all_of}
use Rattle.kernel_trees.proofs.Trees.{mentions-roll}
use Rattle.kernel_trees.proofs.LawOfPaths.{ways-roll}
use Rattle.kernel_trees.specs.declared.action_kind.ActionKind.{ActionKind}
use Rattle.kernel_trees.specs.declared.action_kind.ActionKind.TheVariants as action
use Rattle.kernel_trees.specs.ActionNames.{constants, marks_of}
use Rattle.transition_splitter.specs.declared.counts.Tally.{Tally}
use Rattle.transition_splitter.specs.declared.split_fault.SplitFault.TheVariants.{TooManyPaths}
use Rattle.transition_splitter.specs.Splitting.{IsSplit, most_paths}
use Rattle.transition_splitter.specs.inner.Counts.{behind, number_of, tally}
use Rattle.transition_splitter.proofs.Answering.{answered, number_is, refused}
use Rattle.transition_splitter.proofs.NodeWays.{ways_and}
use Rattle.transition_splitter.proofs.Tallying.{tally_each}

abbrev at : ℕ → Place
at n = record { file = 0; line = 1; col = n }

abbrev declared : Bool → Decl
declared c = record { name = []; place = at 0; constant = c; note = [] }

-- one constant and two variables
abbrev names : List Decl
names = declared true ∷ declared false ∷ declared false ∷ []

-- ---- which names are assigned

one_constant : constants names ≡ 1
one_constant = refl

constant_in_cinit : marks_of action.Constants names 0 false ≡ true
constant_in_cinit = refl

variable_in_cinit : marks_of action.Constants names 1 false ≡ false
variable_in_cinit = refl

variable_in_init : marks_of action.Start names 1 false ≡ true
variable_in_init = refl

constant_in_init : marks_of action.Start names 0 false ≡ false
constant_in_init = refl

primed_in_next : marks_of action.Step names 2 true ≡ true
primed_in_next = refl

unprimed_in_next : marks_of action.Step names 2 false ≡ false
unprimed_in_next = refl

constant_in_next : marks_of action.Step names 0 true ≡ false
constant_in_next = refl

undeclared_in_next : marks_of action.Step names 3 true ≡ false
undeclared_in_next = refl

-- ---- answers

-- an action that has its paths does not have too many
exclusive : (kind : ActionKind) (ds : List Decl) (part : Ker) (ps : List KerPath) (n : ℕ) →
    IsSplit kind ds part (Ok ps) → IsSplit kind ds part (Err (TooManyPaths n)) → ⊥
exclusive kind ds part ps n h i =
    let l = h.1 in
    let m = i.1 in
    let e : length ps ≡ length (paths (marks_of kind ds) part) = ap length h.0 in
    omega (arith, m, l, e)

-- ---- actions

abbrev places : List KerPath → List Place
places xs = map (λ x. x.place) xs

abbrev steps : List KerPath → List (List PathStep)
steps xs = map (λ x. x.steps) xs

module _ (a : Ty) where
  abbrev tree : ℕ → KerOp → List Ker → Ker
  tree n o ks = roll-Ker (record { place = at n; ty = a; op = o; args = ks; binds = [] })

  abbrev truth : ℕ → Bool → Ker
  truth n b = tree n (ker.Const (value.Bool b)) []

  abbrev name : ℕ → ℕ → Bool → Ker
  name n i primed = tree n (ker.Name i primed) []

  -- FALSE /\ (x' \/ y'): one path, at the root, which ends at FALSE
  abbrev ended : Ker
  ended = tree 1 ker.And (truth 2 false ∷ tree 5 ker.Or (name 4 1 true ∷ name 6 2 true ∷ []) ∷ [])

  ended_places : places (paths (marks_of action.Step names) ended) ≡ at 1 ∷ []
  ended_places = simp (ways-roll, out-roll-Ker, value.outs-Bool)

  ended_steps : steps (paths (marks_of action.Step names) ended) ≡ (path.Guard (truth 2 false) true ∷ []) ∷ []
  ended_steps = simp (ways-roll, out-roll-Ker, value.outs-Bool)

  -- (x' \/ y') /\ x: two paths, each behind the root of its branch
  abbrev either : Ker
  either = tree 7 ker.And (tree 3 ker.Or (name 2 1 true ∷ name 4 2 true ∷ []) ∷ name 9 1 false ∷ [])

  either_places : places (paths (marks_of action.Step names) either) ≡ at 2 ∷ at 4 ∷ []
  either_places = simp (ways-roll, mentions-roll, out-roll-Ker)

  either_steps : steps (paths (marks_of action.Step names) either)
      ≡ (path.Guard (name 2 1 true) true ∷ path.Guard (name 9 1 false) true ∷ [])
      ∷ (path.Guard (name 4 2 true) true ∷ path.Guard (name 9 1 false) true ∷ []) ∷ []
  either_steps = simp (ways-roll, mentions-roll, out-roll-Ker)

  -- CInit assigns no variable, so the disjunction is one operand
  in_cinit : steps (paths (marks_of action.Constants names) (tree 3 ker.Or (name 2 1 false ∷ name 4 2 false ∷ [])))
      ≡ (path.Guard (tree 3 ker.Or (name 2 1 false ∷ name 4 2 false ∷ [])) true ∷ []) ∷ []
  in_cinit = simp (ways-roll, mentions-roll)

  -- in Init it has two branches
  in_init : steps (paths (marks_of action.Start names) (tree 3 ker.Or (name 2 1 false ∷ name 4 2 false ∷ [])))
      ≡ (path.Guard (name 2 1 false) true ∷ []) ∷ (path.Guard (name 4 2 false) true ∷ []) ∷ []
  in_init = simp (ways-roll, mentions-roll)

  -- IF x THEN x' ELSE FALSE: the guard is an operand, or one that is to be FALSE
  abbrev branches : Ker
  branches = tree 1 ker.If (name 2 1 false ∷ name 4 1 true ∷ truth 6 false ∷ [])

  branches_places : places (paths (marks_of action.Step names) branches) ≡ at 4 ∷ at 6 ∷ []
  branches_places = simp (ways-roll, mentions-roll, out-roll-Ker)

  branches_steps : steps (paths (marks_of action.Step names) branches)
      ≡ (path.Guard (name 2 1 false) true ∷ path.Guard (name 4 1 true) true ∷ [])
      ∷ (path.Guard (name 2 1 false) false ∷ path.Guard (truth 6 false) true ∷ []) ∷ []
  branches_steps = simp (ways-roll, mentions-roll)

  -- \E x1 \in {}, x2 \in {}: x' \/ y' : each path behind one choice of both
  abbrev choices : Ker
  choices = roll-Ker (record {
    place = at 1;
    ty = a;
    op = ker.Some;
    args = tree 2 ker.SetOf [] ∷ tree 3 ker.SetOf [] ∷ tree 5 ker.Or (name 4 1 true ∷ name 6 2 true ∷ []) ∷ [];
    binds = 1 ∷ 2 ∷ [];
  })

  choices_places : places (paths (marks_of action.Step names) choices) ≡ at 4 ∷ at 6 ∷ []
  choices_places = simp (ways-roll, mentions-roll, out-roll-Ker)

  choices_steps : steps (paths (marks_of action.Step names) choices)
      ≡ (path.Pick ((1, tree 2 ker.SetOf []) ∷ (2, tree 3 ker.SetOf []) ∷ []) ∷ path.Guard (name 4 1 true) true ∷ [])
      ∷ (path.Pick ((1, tree 2 ker.SetOf []) ∷ (2, tree 3 ker.SetOf []) ∷ []) ∷ path.Guard (name 6 2 true)
      true ∷ []) ∷ []
  choices_steps = simp (ways-roll, mentions-roll)

  -- ---- answers at the limit and behind it

  abbrev pair : Ker
  pair = tree 3 ker.Or (name 2 1 true ∷ name 4 2 true ∷ [])

  pair_tally : tally (ways (marks_of action.Step names) pair) ≡ record { ended = 0; running = 2 }
  pair_tally = simp (ways-roll, mentions-roll, out-roll-Ker)

  abbrev pairs : ℕ → List Ker
  pairs zero = []
  pairs (suc n) = pair ∷ pairs n

  abbrev doubled : ℕ → Tally
  doubled zero = record { ended = 0; running = 1 }
  doubled (suc n) = behind (record { ended = 0; running = 2 }) (doubled n)

  pairs_tally : (n : ℕ) → doubled n ≡ tally (all_of ends_at (map (ways (marks_of action.Step names)) (pairs n)))
  pairs_tally zero = refl
  pairs_tally (suc n) =
      ap (behind (record { ended = 0; running = 2 })) (pairs_tally n)
      ∙ sym (
      tally_each (ways (marks_of action.Step names) pair)
      (all_of ends_at (map (ways (marks_of action.Step names)) (pairs n)))
      ∙ ap (λ t. behind t (tally (all_of ends_at (map (ways (marks_of action.Step names)) (pairs n))))) pair_tally
      )

  -- a conjunction of so many disjunctions of two
  abbrev conjunction : ℕ → Ker
  conjunction n = tree 1 ker.And (pairs n)

  its_tally : (n : ℕ) → doubled n ≡ tally (ways (marks_of action.Step names) (conjunction n))
  its_tally n =
      let out = out-roll-Ker (record { place = at 1; ty = a; op = ker.And; args = pairs n; binds = [] }) in
      pairs_tally n
      ∙ ap tally (ways_and (marks_of action.Step names) (conjunction n) (pairs n) (sym (ap (λ x. x.args) out))
      (ap (λ x. x.op) out))

  -- all its paths, where the number is not above the limit
  answered_as : (n number : ℕ) → number ≡ number_of (doubled n) → number ≤ most_paths →
      IsSplit action.Step names (conjunction n) (Ok (paths (marks_of action.Step names) (conjunction n)))
  answered_as n number e h =
      answered (marks_of action.Step names) (marks_of action.Step names) (conjunction n) (doubled n) number refl
      (its_tally n) e (paths (marks_of action.Step names) (conjunction n)) h refl

  refused_as : (n number : ℕ) → number ≡ number_of (doubled n) → most_paths < number →
      IsSplit action.Step names (conjunction n) (Err (TooManyPaths number))
  refused_as n number e h =
      refused (marks_of action.Step names) (marks_of action.Step names) (conjunction n) (doubled n) number refl
      (its_tally n) e h

  -- 12 have 4,096 paths, the most that are answered
  at_the_limit : IsSplit action.Step names (conjunction 12) (Ok (paths (marks_of action.Step names) (conjunction 12)))
  at_the_limit = answered_as 12 4096 refl (omega arith)

  their_number : length (paths (marks_of action.Step names) (conjunction 12)) ≡ 4096
  their_number =
      let e = number_is (marks_of action.Step names) (marks_of action.Step names) (conjunction 12) (doubled 12) 4096 refl
      (its_tally 12) refl in
      omega (arith, e)

  -- 13 have 8,192 paths, and 40 more than the greatest number
  refusal : IsSplit action.Step names (conjunction 13) (Err (TooManyPaths 8192))
  refusal = refused_as 13 8192 refl (lit< tt)

  greatest : IsSplit action.Step names (conjunction 40) (Err (TooManyPaths 1000000000000))
  greatest = refused_as 40 1000000000000 refl (lit< tt)

  no_answer : (ps : List KerPath) → IsSplit action.Step names (conjunction 13) (Ok ps) → ⊥
  no_answer ps h = exclusive action.Step names (conjunction 13) ps 8192 h refusal
