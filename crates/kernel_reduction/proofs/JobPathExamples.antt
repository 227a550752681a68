-- What is told of the paths of small actions, by computing.
use Rattle.std.proofs.Common.{◌≡◌, ℕ, Bool, true, false, List, [], ◌∷◌, map, pos, Option, Some, None}
use Rattle.tla_meaning.specs.declared.expr.Expr.{Expr, roll-Expr, out-roll-Expr}
use Rattle.tla_meaning.specs.declared.op.Op.{Op}
use Rattle.tla_meaning.specs.declared.op.Op.TheVariants as op
use Rattle.tla_meaning.specs.declared.place.Place.{Place}
use Rattle.kernel_trees.specs.Paths.{Marks}
use Rattle.kernel_reduction.specs.JobPaths.{JobPath, JobAssigned, Asks, Picks, Sets, SetsFrom, Stops, Told, TypedTree, assigned_names, job_marked, job_paths, told_path, tree_reads}
use Rattle.kernel_reduction.proofs.InfiniteKept.{form-roll}
use Rattle.kernel_reduction.proofs.JobTrees.{has_name-roll, below-roll, nodes-roll, job_ways-roll}

abbrev at : ℕ → Place
at n = record { file = 0; line = 1; col = n }

-- the primed names count
abbrev primed : Marks
primed i b = b

-- a tree whose types are of no account
abbrev typed : Expr → TypedTree
typed e = record { tree = e; kinds = []; around = [] }

abbrev paths_of : Expr → List JobPath
paths_of e = job_paths primed (typed e)

-- of each path its place, whether it ends, and the names that it assigns
pub record Shown : Type 0 where
  place : Place
  ended : Bool
  names : List ℕ

abbrev one : ℕ → Bool → List ℕ → Shown
one n b is = record { place = at n; ended = b; names = is }

abbrev show : Told → Shown
show x = record { place = x.place; ended = x.ended; names = assigned_names x }

abbrev shown : Expr → List Shown
shown e = map (λ x. show (told_path primed x)) (paths_of e)

-- the steps of each path with its assignments
abbrev steps : Expr → List (List JobAssigned)
steps e = map (λ (x : JobPath). job_marked primed [] x.steps) (paths_of e)

abbrev tree : ℕ → Op → List Expr → Expr
tree n o es = roll-Expr (record { place = at n; op = o; args = es; binds = [] })

abbrev number : ℕ → ℕ → Expr
number n i = tree n (op.Int (pos i)) []

abbrev truth : ℕ → Bool → Expr
truth n b = tree n (op.Bool b) []

abbrev next : ℕ → ℕ → Expr
next n i = tree n (op.Name i true) []

abbrev now : ℕ → ℕ → Expr
now n i = tree n (op.Name i false) []

-- x' = 1, of the name i, all at column n
abbrev is_one : ℕ → ℕ → Expr
is_one n i = tree n op.Eq (next n i ∷ number n 1 ∷ [])

abbrev set : ℕ → Expr
set n = tree n op.SetEnum []

abbrev for_some : ℕ → List ℕ → Expr → Expr → Expr
for_some n x s e = roll-Expr (record { place = at n; op = op.Exists; args = s ∷ e ∷ []; binds = x ∷ [] })

-- ---- what is one operand

-- x' \in {} /\ (x' = 1 => x = 1) has one path
abbrev implies : Expr
implies = tree 1 op.And (tree 3 op.In (next 2 0 ∷ set 4 ∷ []) ∷ tree 6 op.Implies (is_one 5 0 ∷ tree 8 op.Eq (now 7 0 ∷ number 9 1 ∷ []) ∷ []) ∷ [])

implied : shown implies ≡ one 1 false (0 ∷ []) ∷ []
implied = simp (job_ways-roll, nodes-roll, below-roll, out-roll-Expr)

-- x' = 1 /\ (x' = 1 => y' = 1) has one path, whose second step reads y' there, which the path does not assign
abbrev implies_next : Expr
implies_next = tree 5 op.Implies (is_one 4 0 ∷ is_one 6 1 ∷ [])

then_read : steps (tree 2 op.And (is_one 1 0 ∷ implies_next ∷ [])) ≡ (Sets 0 (typed (number 1 1)) ∷ Asks (typed implies_next) ∷ []) ∷ []
then_read = simp (job_ways-roll, nodes-roll, below-roll, out-roll-Expr)

reads_there : tree_reads primed implies_next 1 (at 6) ≡ true
reads_there = simp (has_name-roll)

-- x' <=> TRUE assigns nothing, and reads x'
equivalence_reads : tree_reads primed (tree 2 op.Iff (next 1 0 ∷ truth 3 true ∷ [])) 0 (at 1) ≡ true
equivalence_reads = simp (has_name-roll)

equivalence : shown (tree 2 op.Iff (next 1 0 ∷ truth 3 true ∷ [])) ≡ one 2 false [] ∷ []
equivalence = simp (job_ways-roll, below-roll, out-roll-Expr)

-- x' := 1 does
assign : shown (tree 2 op.Assign (next 1 0 ∷ number 3 1 ∷ [])) ≡ one 2 false (0 ∷ []) ∷ []
assign = simp (job_ways-roll, nodes-roll, below-roll, out-roll-Expr)

-- x' = 1 /\ x' = 2 assigns x once; of x' = y' its right side is read alone
twice : steps (tree 1 op.And (is_one 2 0 ∷ tree 5 op.Eq (next 4 0 ∷ next 6 1 ∷ []) ∷ []))
    ≡ (Sets 0 (typed (number 2 1)) ∷ Asks (typed (tree 5 op.Eq (next 4 0 ∷ next 6 1 ∷ []))) ∷ []) ∷ []
twice = simp (job_ways-roll, nodes-roll, below-roll, out-roll-Expr)

-- ---- disjunctions

-- x' = 1 \/ x = 1 \/ x = 1 has three paths, and the last two assign nothing
abbrev flat : Expr
flat = tree 4 op.Or (is_one 1 0 ∷ tree 6 op.Eq (now 5 0 ∷ number 7 1 ∷ []) ∷ tree 9 op.Eq (now 8 0 ∷ number 10 1 ∷ []) ∷ [])

three : shown flat ≡ one 1 false (0 ∷ []) ∷ one 6 false [] ∷ one 9 false [] ∷ []
three = simp (job_ways-roll, has_name-roll, nodes-roll, below-roll, out-roll-Expr)

-- x' = 1 \/ (x = 1 \/ x = 1) has two, the second at the inner disjunction
abbrev nested : Expr
nested = tree 4 op.Or (is_one 1 0 ∷ tree 6 op.Or (tree 6 op.Eq (now 5 0 ∷ number 7 1 ∷ []) ∷ tree 9 op.Eq (now 8 0 ∷ number 10 1 ∷ []) ∷ []) ∷ [])

two : shown nested ≡ one 1 false (0 ∷ []) ∷ one 6 false [] ∷ []
two = simp (job_ways-roll, has_name-roll, nodes-roll, below-roll, out-roll-Expr)

-- x' = {} \/ (FALSE /\ x' = Nat) has two, and the second ends at FALSE
abbrev false_first : Expr
false_first = tree 3 op.Or (tree 2 op.Eq (next 1 0 ∷ set 3 ∷ []) ∷ tree 5 op.And (truth 4 false ∷ tree 7 op.Eq (next 6 0 ∷ tree 8 op.NatSet [] ∷ []) ∷ []) ∷ [])

second_ends : shown false_first ≡ one 2 false (0 ∷ []) ∷ one 5 true [] ∷ []
second_ends = simp (job_ways-roll, has_name-roll, nodes-roll, below-roll, out-roll-Expr)

-- FALSE /\ x' \in Int has one, which ends at FALSE: the membership is on no path
never_reached : shown (tree 1 op.And (truth 2 false ∷ tree 4 op.In (next 3 0 ∷ tree 5 op.IntSet [] ∷ []) ∷ [])) ≡ one 1 true [] ∷ []
never_reached = simp (job_ways-roll, nodes-roll, below-roll, out-roll-Expr)

-- ---- annotations

-- FALSE below an annotation ends a path, and what follows is on none
abbrev noted : ℕ → Expr → Expr
noted n e = tree n (op.Noted []) (e ∷ [])

noted_false : steps (tree 1 op.And (noted 2 (truth 3 false) ∷ is_one 5 0 ∷ [])) ≡ (Asks (typed (truth 3 false)) ∷ []) ∷ []
noted_false = simp (job_ways-roll, nodes-roll, out-roll-Expr)

noted_end : shown (tree 1 op.And (noted 2 (truth 3 false) ∷ is_one 5 0 ∷ [])) ≡ one 1 true [] ∷ []
noted_end = simp (job_ways-roll, nodes-roll, below-roll, out-roll-Expr)

-- an annotated left side, in annotated branches below an annotation: roots are those below
abbrev all_noted : Expr
all_noted = noted 1 (tree 2 op.Or (noted 3 (tree 5 op.Eq (noted 4 (next 4 0) ∷ number 6 1 ∷ [])) ∷ noted 7 (noted 8 (is_one 9 1)) ∷ []))

noted_roots : shown all_noted ≡ one 5 false (0 ∷ []) ∷ one 9 false (1 ∷ []) ∷ []
noted_roots = simp (job_ways-roll, has_name-roll, nodes-roll, below-roll, out-roll-Expr)

-- ---- IF

-- IF x' = 1 THEN TRUE ELSE x' = 1 /\ y' = 1: the guard assigns nothing, and each path reads x' there
abbrev by_next : Expr
by_next = tree 1 op.If (is_one 2 0 ∷ truth 5 true ∷ tree 8 op.And (is_one 7 0 ∷ is_one 9 1 ∷ []) ∷ [])

branches : shown by_next ≡ one 5 false [] ∷ one 8 false (0 ∷ 1 ∷ []) ∷ []
branches = simp (job_ways-roll, has_name-roll, nodes-roll, below-roll, out-roll-Expr)

guards : steps by_next
    ≡ (Asks (typed (is_one 2 0)) ∷ Asks (typed (truth 5 true)) ∷ [])
    ∷ (Asks (typed (is_one 2 0)) ∷ Sets 0 (typed (number 7 1)) ∷ Sets 1 (typed (number 9 1)) ∷ []) ∷ []
guards = simp (job_ways-roll, has_name-roll, nodes-roll, below-roll, out-roll-Expr)

guard_reads : tree_reads primed (is_one 2 0) 0 (at 2) ≡ true
guard_reads = simp (has_name-roll)

not_elsewhere : tree_reads primed (is_one 2 0) 0 (at 3) ≡ false
not_elsewhere = simp (has_name-roll)

not_another : tree_reads primed (is_one 2 0) 1 (at 2) ≡ false
not_another = simp (has_name-roll)

-- IF FALSE THEN x' = 1 ELSE x' = 1: a guard is no end
false_guard : shown (tree 1 op.If (truth 2 false ∷ is_one 4 0 ∷ is_one 6 0 ∷ [])) ≡ one 4 false (0 ∷ []) ∷ one 6 false (0 ∷ []) ∷ []
false_guard = simp (job_ways-roll, has_name-roll, nodes-roll, below-roll, out-roll-Expr)

-- IF x THEN x ELSE y is one operand
no_branches : shown (tree 1 op.If (now 2 0 ∷ now 3 0 ∷ now 4 1 ∷ [])) ≡ one 1 false [] ∷ []
no_branches = simp (job_ways-roll, has_name-roll, nodes-roll, below-roll, out-roll-Expr)

-- ---- CASE

-- CASE x' = 1 -> y' = 1: a second path, on which x' = 1 is FALSE, ends at the CASE
abbrev one_arm : Expr
one_arm = tree 1 (op.Case false) (is_one 2 0 ∷ is_one 6 1 ∷ [])

arm : shown one_arm ≡ one 6 false (1 ∷ []) ∷ one 1 true [] ∷ []
arm = simp (job_ways-roll, has_name-roll, nodes-roll, below-roll, out-roll-Expr)

arm_steps : steps one_arm
    ≡ (Asks (typed (is_one 2 0)) ∷ Sets 1 (typed (number 6 1)) ∷ [])
    ∷ (Asks (typed (is_one 2 0)) ∷ Stops ∷ []) ∷ []
arm_steps = simp (job_ways-roll, has_name-roll, nodes-roll, below-roll, out-roll-Expr)

-- CASE x -> x' = 1 [] y -> y' = 1 [] OTHER -> FALSE, and y' = 1 behind it
abbrev with_other : Expr
with_other = tree 9 op.And (tree 1 (op.Case true) (now 2 0 ∷ is_one 3 0 ∷ now 4 1 ∷ is_one 5 1 ∷ truth 6 false ∷ []) ∷ is_one 8 1 ∷ [])

arms_and_other : shown with_other ≡ one 3 false (0 ∷ 1 ∷ []) ∷ one 5 false (1 ∷ []) ∷ one 6 true [] ∷ []
arms_and_other = simp (job_ways-roll, has_name-roll, nodes-roll, below-roll, out-roll-Expr)

other_steps : steps with_other
    ≡ (Asks (typed (now 2 0)) ∷ Sets 0 (typed (number 3 1)) ∷ Sets 1 (typed (number 8 1)) ∷ [])
    ∷ (Asks (typed (now 2 0)) ∷ Asks (typed (now 4 1)) ∷ Sets 1 (typed (number 5 1)) ∷ Asks (typed (is_one 8 1)) ∷ [])
    ∷ (Asks (typed (now 2 0)) ∷ Asks (typed (now 4 1)) ∷ Asks (typed (truth 6 false)) ∷ []) ∷ []
other_steps = simp (job_ways-roll, has_name-roll, nodes-roll, below-roll, out-roll-Expr)

-- ---- `\E`

-- (\E i \in {}: x' = 1) /\ (\E i \in {}: y' \in {}): one path with two choices
abbrev two_choices : Expr
two_choices = tree 1 op.And (for_some 2 (105 ∷ []) (set 3) (is_one 4 0) ∷ for_some 6 (105 ∷ []) (set 7) (tree 9 op.In (next 8 1 ∷ set 10 ∷ [])) ∷ [])

abbrev name_i : List ℕ
name_i = 105 ∷ []

abbrev under_i : Expr → TypedTree
under_i e = record { tree = e; kinds = []; around = name_i ∷ [] }

choices : shown two_choices ≡ one 1 false (0 ∷ 1 ∷ []) ∷ []
choices = simp (job_ways-roll, nodes-roll, below-roll, out-roll-Expr)

choice_steps : steps two_choices
    ≡ (Picks ((name_i, typed (set 3)) ∷ []) ∷ Sets 0 (under_i (number 4 1)) ∷ Picks ((name_i, typed (set 7)) ∷ []) ∷ SetsFrom 1 (under_i (set 10)) ∷ []) ∷ []
choice_steps = simp (job_ways-roll, nodes-roll, below-roll, out-roll-Expr)

-- ---- sets of which a name takes a member

abbrev taken : Expr → List (List (Option (List Place)))
taken e = map (λ x. map (λ y. y.among) (told_path primed x).steps) (paths_of e)

-- x' \in [Int -> Nat] is infinite at Nat alone, and x' = 1 takes no member
abbrev from_functions : Expr
from_functions = tree 3 op.In (next 1 0 ∷ tree 6 op.FunSet (tree 5 op.IntSet [] ∷ tree 7 op.NatSet [] ∷ []) ∷ [])

taken_from_functions : taken from_functions ≡ (Some (at 7 ∷ []) ∷ []) ∷ []
taken_from_functions = simp (job_ways-roll, nodes-roll, below-roll, form-roll, out-roll-Expr)

taken_by_value : taken (is_one 1 0) ≡ (None ∷ []) ∷ []
taken_by_value = simp (job_ways-roll, nodes-roll, below-roll, form-roll, out-roll-Expr)
