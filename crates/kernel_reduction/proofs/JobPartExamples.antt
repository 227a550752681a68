-- Shapes and numbers of small jobs' own trees, by computing: at 32 bits.
use Rattle.std.proofs.Common.{◌≡◌, ℕ, true, false, List, [], ◌∷◌, map, pos, Some, None, ap}
use Rattle.tla_meaning.specs.declared.expr.Expr.{Expr, roll-Expr, out-roll-Expr}
use Rattle.tla_meaning.specs.declared.op.Op.{Op}
use Rattle.tla_meaning.specs.declared.op.Op.TheVariants as op
use Rattle.tla_meaning.specs.declared.place.Place.{Place}
use Rattle.tla_values.specs.declared.value.Value.TheVariants as value
use Rattle.snowcat_rows.specs.declared.types.Ty.TheVariants.{Bool as bool_type}
use Rattle.kernel_trees.specs.declared.kernel.Ker.{Ker, roll-Ker, out-roll-Ker}
use Rattle.kernel_trees.specs.declared.kernel.KerOp.{KerOp}
use Rattle.kernel_trees.specs.declared.kernel.KerOp.TheVariants as ker
use Rattle.kernel_trees.specs.declared.path.AssignedStep.{AssignedStep}
use Rattle.kernel_trees.specs.declared.path.AssignedStep.TheVariants as mark
use Rattle.kernel_trees.specs.declared.path.KerPath.{KerPath}
use Rattle.kernel_trees.specs.Assignments.{marked}
use Rattle.kernel_trees.specs.Paths.{Marks, paths}
use Rattle.kernel_trees.proofs.LawOfPaths.{ways-roll}
use Rattle.kernel_shapes.specs.Systems.{sized_path}
use Rattle.kernel_shapes.proofs.KernelNodes.{ker-counts-roll, ker-literal-roll, ker-shape-roll}
use Rattle.kernel_shapes.specs.Shape.{Num, Set, Fun, Rec, Empty, shapes}
use Rattle.kernel_shapes.specs.Counts.{Count, refusal}
use Rattle.kernel_trees.specs.Trees.{number_name}
use Rattle.kernel_shapes.specs.Levels.{Path, Parts, Guard, Pick, Equals, Among, in_next, after_path, path_numbers, level_numbers, refused}
use Rattle.kernel_shapes.specs.Sized.{Extent, Sizing, no_size, walked, picked_from}
use Rattle.kernel_shapes.proofs.TreeLemmas.{size-roll, shape-roll, counts-roll, literal-roll}
use Rattle.kernel_reduction.specs.JobParts.{sized_job_paths, typed_sized}
use Rattle.kernel_reduction.specs.JobPaths.{TypedTree}
use Rattle.kernel_reduction.proofs.JobTrees.{below-roll, nodes-roll, job_ways-roll}

abbrev at : ℕ → Place
at n = record { file = 0; line = 1; col = n }

abbrev tree : ℕ → Op → List Expr → Expr
tree n o es = roll-Expr (record { place = at n; op = o; args = es; binds = [] })

abbrev number : ℕ → ℕ → Expr
number n i = tree n (op.Int (pos i)) []

abbrev next : ℕ → Expr
next n = tree n (op.Name 0 true) []

abbrev now : ℕ → Expr
now n = tree n (op.Name 0 false) []

abbrev name_x : List ℕ
name_x = 120 ∷ []

abbrev name_a : List ℕ
name_a = 97 ∷ []

abbrev old : List ℕ
old = 64 ∷ []

abbrev nowhere : Extent
nowhere = record { now = []; next = []; bound = [] }

-- x' = e
abbrev becomes : ℕ → Expr → Expr
becomes n e = tree n op.Eq (next n ∷ e ∷ [])

abbrev typed : Expr → TypedTree
typed e = record { tree = e; kinds = []; around = [] }

abbrev primed : Marks
primed i b = b

abbrev both : Marks
both i b = true

abbrev in_state : Expr → List Path
in_state e = sized_job_paths 32 both (typed e)

abbrev on_step : Expr → List Path
on_step e = sized_job_paths 32 primed (typed e)

abbrev of_tree : Expr → Sizing
of_tree e = typed_sized 32 (typed e)

-- a job of one variable, with these paths
abbrev parts : List Path → List Path → Parts
parts start next = record { fixed = false ∷ []; constants = []; assume = λ g. no_size; start = start; next = next; invariants = [] }

abbrev members : ℕ → ℕ → Count
members c n = record { place = at c; of_sequence = false; number = n }

-- ---- the steps of paths

-- Init x = {} and Next x' = 1..70000
abbrev empty : ℕ → Expr
empty n = tree n op.SetEnum []

abbrev many : ℕ → Expr
many n = tree n op.Range (number n 1 ∷ number n 70000 ∷ [])

starts : in_state (tree 2 op.Eq (now 1 ∷ empty 3 ∷ [])) ≡ (Equals 0 (of_tree (empty 3)) ∷ []) ∷ []
starts = simp (job_ways-roll, nodes-roll, below-roll, out-roll-Expr)

steps : on_step (becomes 4 (many 5)) ≡ (Equals 0 (of_tree (many 5)) ∷ []) ∷ []
steps = simp (job_ways-roll, nodes-roll, below-roll, out-roll-Expr)

-- x' \in {} is a member of a set, and its set a form
from_set : on_step (tree 2 op.In (next 1 ∷ many 5 ∷ [])) ≡ (Among 0 (of_tree (many 5)) ∷ []) ∷ []
from_set = simp (job_ways-roll, nodes-roll, below-roll, out-roll-Expr)

-- of x' = {} /\ x' = 1..70000 the second is a guard, in which x' has the shape {} of its assignment
guarded : on_step (tree 3 op.And (becomes 2 (empty 2) ∷ becomes 4 (many 5) ∷ [])) ≡ (Equals 0 (of_tree (empty 2)) ∷ Guard (of_tree (becomes 4 (many 5))) ∷ []) ∷ []
guarded = simp (job_ways-roll, nodes-roll, below-roll, out-roll-Expr)

-- what follows FALSE is on no path
never_reached : on_step (tree 1 op.And (tree 2 (op.Bool false) [] ∷ becomes 4 (many 5) ∷ [])) ≡ (Guard (of_tree (tree 2 (op.Bool false) [])) ∷ []) ∷ []
never_reached = simp (job_ways-roll, nodes-roll, below-roll, out-roll-Expr)

-- Q == \E i \in 1..4: x' = i and Next == \E i \in 1..2: Q /\ s' = 1..i, written out: i is bound again in its scope, and the
-- last step reads the outer one, whose number is 0
abbrev name_i : List ℕ
name_i = 105 ∷ []

abbrev some_i : ℕ → Expr → Expr → Expr
some_i n a b = roll-Expr (record { place = at n; op = op.Exists; args = a ∷ b ∷ []; binds = name_i ∷ [] })

abbrev up_to : ℕ → Expr → Expr
up_to n e = tree n op.Range (number n 1 ∷ e ∷ [])

abbrev read_i : ℕ → Expr
read_i n = tree n (op.Bound name_i) []

abbrev bound_again : Expr
bound_again =
    some_i 28 (up_to 30 (number 31 2)) (tree 35 op.And (some_i 32 (up_to 33 (number 33 4)) (becomes 34 (read_i 34)) ∷ tree 41 op.Eq (tree 40 (op.Name 1 true) [] ∷ up_to 42 (read_i 43) ∷ []) ∷ []))

abbrev under : List (List ℕ) → Expr → Sizing
under around e = typed_sized 32 (record { tree = e; kinds = []; around = around })

abbrev with_numbers : Path
with_numbers =
    Pick ((number_name 0, of_tree (up_to 30 (number 31 2))) ∷ [])
    ∷ Pick ((number_name 1, under (name_i ∷ []) (up_to 33 (number 33 4))) ∷ [])
    ∷ Equals 0 (under (name_i ∷ name_i ∷ []) (read_i 34)) ∷ Equals 1 (under (name_i ∷ []) (up_to 42 (read_i 43))) ∷ []

steps_of_numbers : on_step bound_again ≡ with_numbers ∷ []
steps_of_numbers = simp (job_ways-roll, nodes-roll, below-roll, out-roll-Expr)

abbrev two_names : Extent
two_names = record { now = None ∷ None ∷ []; next = None ∷ None ∷ []; bound = [] }

-- what x and s have behind it, and what counts
outer_is_meant : (after_path in_next with_numbers two_names).next ≡ Some (Num (pos 1) (pos 4)) ∷ Some (Set 2 (Num (pos 1) (pos 2))) ∷ []
outer_is_meant = simp (size-roll, shape-roll, counts-roll, literal-roll)

counts_of_numbers : path_numbers in_next with_numbers two_names ≡ members 30 2 ∷ members 33 4 ∷ members 42 2 ∷ []
counts_of_numbers = simp (size-roll, shape-roll, counts-roll, literal-roll)

-- its kernel binds the numbers 0 and 1, and the same is left and counts
abbrev kernel_tree : ℕ → KerOp → List Ker → List ℕ → Ker
kernel_tree n o ks ns = roll-Ker (record { place = at n; ty = bool_type; op = o; args = ks; binds = ns })

abbrev kernel_number : ℕ → ℕ → Ker
kernel_number n i = kernel_tree n (ker.Const (value.Int (pos i))) [] []

abbrev kernel_up_to : ℕ → Ker → Ker
kernel_up_to n k = kernel_tree n ker.Range (kernel_number n 1 ∷ k ∷ []) []

abbrev kernel_next : ℕ → ℕ → Ker
kernel_next n i = kernel_tree n (ker.Name i true) [] []

abbrev bound_number : ℕ → ℕ → Ker
bound_number n i = kernel_tree n (ker.Bound i) [] []

abbrev kernel_bound_again : Ker
kernel_bound_again =
    kernel_tree 28 ker.Some
    (kernel_up_to 30 (kernel_number 31 2)
    ∷ kernel_tree 35 ker.And
    (kernel_tree 32 ker.Some (kernel_up_to 33 (kernel_number 33 4) ∷ kernel_tree 34 ker.Equal (kernel_next 34 0 ∷ bound_number 34 1 ∷ []) [] ∷ []) (1 ∷ [])
    ∷ kernel_tree 41 ker.Equal (kernel_next 40 1 ∷ kernel_up_to 42 (bound_number 43 0) ∷ []) [] ∷ []) [] ∷ []) (0 ∷ [])

abbrev kernel_steps : List AssignedStep
kernel_steps =
    mark.Pick ((0, kernel_up_to 30 (kernel_number 31 2)) ∷ []) ∷ mark.Pick ((1, kernel_up_to 33 (kernel_number 33 4)) ∷ [])
    ∷ mark.Equals 0 (bound_number 34 1) ∷ mark.Equals 1 (kernel_up_to 42 (bound_number 43 0)) ∷ []

steps_of_kernel : map (λ (x : KerPath). marked primed [] x.steps) (paths primed kernel_bound_again) ≡ kernel_steps ∷ []
steps_of_kernel = simp (ways-roll, out-roll-Ker)

same_is_left : (after_path in_next (sized_path 32 kernel_steps) two_names).next ≡ Some (Num (pos 1) (pos 4)) ∷ Some (Set 2 (Num (pos 1) (pos 2))) ∷ []
same_is_left = simp (ker-shape-roll, ker-counts-roll, ker-literal-roll, value.outs-Int)

same_counts : path_numbers in_next (sized_path 32 kernel_steps) two_names ≡ members 30 2 ∷ members 33 4 ∷ members 42 2 ∷ []
same_counts = simp (ker-shape-roll, ker-counts-roll, ker-literal-roll, value.outs-Int)

-- ---- levels

abbrev growing : Parts
growing = parts ((Equals 0 (of_tree (empty 3)) ∷ []) ∷ []) ((Equals 0 (of_tree (many 5)) ∷ []) ∷ [])

-- level 0 is accepted, and the step into level 1 has 70000 members
accepted : refused growing 0 ≡ None
accepted = simp (shape-roll, counts-roll, literal-roll)

numbers_there : level_numbers growing [] (Set 0 Empty ∷ []) 1 ≡ members 5 70000 ∷ []
numbers_there = simp (size-roll, shape-roll, counts-roll, literal-roll)

too_many : refusal (level_numbers growing [] (Set 0 Empty ∷ []) 1) ≡ Some (members 5 70000)
too_many = ap refusal numbers_there

-- ---- rows that speak of numbers

-- x \in 100000..5: 1..x^1 is walked for no member, and its number is that of the upper end, 5
abbrev upside_down : Expr
upside_down = roll-Expr (record {
  place = at 1;
  op = op.Forall;
  binds = name_x ∷ [];
  args = tree 2 op.Range (number 2 100000 ∷ number 3 5 ∷ []) ∷ tree 6 op.Eq (tree 5 op.Range (number 4 1 ∷ tree 7 op.Pow (tree 7 (op.Bound name_x) [] ∷ number 8 1 ∷ []) ∷ []) ∷ empty 9 ∷ []) ∷ [];
})

not_refused : refusal ((of_tree upside_down nowhere).counts walked) ≡ None
not_refused = simp (size-roll, shape-roll, counts-roll, literal-roll)

-- [x EXCEPT !.a[1] = 5] of a record with a function of 70000 arguments has no number along its path
abbrev along_a_path : Expr
along_a_path = roll-Expr (record {
  place = at 14;
  op = op.Except (2 ∷ []);
  binds = old ∷ [];
  args = now 15 ∷ tree 50 (op.Str name_a) [] ∷ number 51 1 ∷ number 52 5 ∷ [];
})

abbrev of_record : Extent
of_record = record { now = Some (Rec (name_a ∷ []) (shapes (Fun 70000 (Num (pos 1) (pos 70000)) (Num (pos 0) (pos 0)) ∷ []))) ∷ []; next = []; bound = [] }

nothing_counts : (of_tree along_a_path of_record).counts walked ≡ []
nothing_counts = simp (out-roll-Expr, size-roll, shape-roll, counts-roll, literal-roll)

-- the domain of \E S \in SUBSET (1..17) on a path: the members of 1..17 count alone; where it is walked its subsets do
abbrev subsets : Expr
subsets = tree 17 op.Powerset (tree 26 op.Range (number 25 1 ∷ number 27 17 ∷ []) ∷ [])

picked : (of_tree subsets nowhere).counts picked_from ≡ members 26 17 ∷ []
picked = simp (size-roll, shape-roll, counts-roll)

walked_there : (of_tree subsets nowhere).counts walked ≡ members 17 131072 ∷ members 26 17 ∷ []
walked_there = simp (size-roll, shape-roll, counts-roll)
