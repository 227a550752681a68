-- The laws of levels at a small system, by computing: a variable x of Int, Init x = 0, Next x' = x + 1 \/ FALSE, at 32 bits.
-- The second path of Next has ended, and assigns nothing.
use Rattle.std.proofs.Common.{◌≡◌, ℕ, zero, suc, ◌<◌, ◌≤◌, ◌+ℤ◌, Bool, true, false, IsTrue, List, [], ◌∷◌, map, Some, pos, inl, refl, ◌∙◌, ap, ap₂, arith}
use Rattle.std.specs.List.{AllByRecursion, list_all}
use Rattle.tla_values.specs.Sets.{Normal}
use Rattle.tla_values.specs.declared.value.Value.{out-Value}
use Rattle.tla_values.specs.declared.value.Value.TheVariants as value
use Rattle.tla_meaning.specs.declared.job.State.{State}
use Rattle.tla_meaning.specs.declared.outcome.Outcome.{Outcome}
use Rattle.tla_meaning.specs.declared.outcome.Outcome.TheVariants.{Val}
use Rattle.tla_meaning.specs.Numbers as numbers
use Rattle.tla_meaning.specs.Operators.{on_numbers, yes_no}
use Rattle.tla_meaning.specs.Outcomes.{strict}
use Rattle.tla_meaning.proofs.Laws.{none≢some}
use Rattle.tla_meaning.proofs.NormalShapes.{int_normal}
use Rattle.snowcat_rows.specs.declared.types.Ty.{Ty, Bool as bool_ty, Int as int_ty}
use Rattle.kernel_trees.specs.declared.kernel.Ker.{Ker, roll-Ker, out-roll-Ker}
use Rattle.kernel_trees.specs.declared.kernel.KerOp.{KerOp}
use Rattle.kernel_trees.specs.declared.kernel.KerOp.TheVariants as ker
use Rattle.kernel_trees.specs.declared.path.Assigned.{Assigned}
use Rattle.kernel_trees.specs.declared.path.AssignedStep.{AssignedStep}
use Rattle.kernel_trees.specs.declared.path.AssignedStep.TheVariants as mark
use Rattle.kernel_trees.specs.declared.system.System.{System}
use Rattle.kernel_trees.specs.Paths.{Marks}
use Rattle.kernel_trees.specs.Trees.{ker_val}
use Rattle.kernel_trees.specs.TypeKinds.{Kind, Number}
use Rattle.kernel_trees.proofs.Operators.{constant_value, val_const, val_name, val_plus}
use Rattle.kernel_trees.proofs.SoundNodes.{sound-roll}
use Rattle.kernel_trees.proofs.Trees.{mentions-roll}
use Rattle.kernel_trees.proofs.TypeLaws.{type_kinds}
use Rattle.kernel_shapes.specs.Laws.{ConstantPathsAre, FitsTyped, PathsAre}
use Rattle.kernel_shapes.specs.Levels.{shapes_at, start_shapes}
use Rattle.kernel_shapes.specs.Systems.{Follows, IsStep, MarksInInit, MarksVariables, assigns, no_scope, system_parts, the_constants_of}
use Rattle.kernel_shapes.proofs.ExampleTrees.{at, from_to}
use Rattle.kernel_shapes.proofs.KernelNodes.{ker-shape-roll}
use Rattle.kernel_shapes.proofs.LevelLaw.{each_level_fits}
use Rattle.kernel_shapes.proofs.StartLaw.{each_start_fits}

-- ---- the system

abbrev tree : ℕ → Ty → KerOp → List Ker → Ker
tree n a o ks = roll-Ker (record { place = at n; ty = a; op = o; args = ks; binds = [] })

abbrev number : ℕ → Ker
number n = tree 1 int_ty (ker.Const (value.Int (pos n))) []

abbrev truth : Bool → Ker
truth b = tree 1 bool_ty (ker.Const (value.Bool b)) []

abbrev x : Bool → Ker
x primed = tree 1 int_ty (ker.Name 0 primed) []

-- x + 1
abbrev more : Ker
more = tree 2 int_ty ker.Plus (x false ∷ number 1 ∷ [])

abbrev path : List AssignedStep → Assigned
path zs = record { place = at 1; steps = zs }

abbrev counter : System
counter = record {
  ker = record {
    names = int_ty ∷ [];
    fixed = false ∷ [];
    texts = [];
    cinit = truth true;
    assume = truth true;
    init = tree 1 bool_ty ker.Equal (x false ∷ number 0 ∷ []);
    next = tree 1 bool_ty ker.Or (tree 1 bool_ty ker.Equal (x true ∷ more ∷ []) ∷ truth false ∷ []);
    invs = [];
  };
  constants = path (mark.Guard (truth true) true ∷ []) ∷ [];
  start = path (mark.Equals 0 (number 0) ∷ []) ∷ [];
  next = path (mark.Equals 0 more ∷ []) ∷ path (mark.Guard (truth false) true ∷ []) ∷ [];
}

abbrev kinds : List Kind
kinds = Number ∷ []

-- x in each state, and x'
abbrev in_init : Marks
in_init zero primed = true
in_init (suc i) primed = false

abbrev in_step : Marks
in_step zero primed = primed
in_step (suc i) primed = false

-- ---- its paths

constants_are : ConstantPathsAre kinds (false ∷ []) counter.constants
constants_are = record { sound = simp (sound-roll, type_kinds, out-roll-Ker, value.outs-Bool); late = simp (mentions-roll); assign = all }
  where
    all : (i : ℕ) → IsTrue (list_all (λ p. assigns (the_constants_of (false ∷ [])) p.steps i) counter.constants)
    all zero = simp (out-roll-Ker, value.outs-Bool)
    all (suc i) = simp (out-roll-Ker, value.outs-Bool)

start_are : PathsAre kinds in_init counter.start
start_are = record { sound = simp (sound-roll, type_kinds, out-roll-Ker, value.outs-Int); late = simp (mentions-roll); assign = all }
  where
    all : (i : ℕ) → IsTrue (list_all (λ p. assigns in_init p.steps i) counter.start)
    all zero = refl
    all (suc i) = refl

next_are : PathsAre kinds in_step counter.next
next_are = record { sound = simp (sound-roll, type_kinds, out-roll-Ker, value.outs-Int, value.outs-Bool); late = simp (mentions-roll); assign = all }
  where
    all : (i : ℕ) → IsTrue (list_all (λ p. assigns in_step p.steps i) counter.next)
    all zero = simp (out-roll-Ker, value.outs-Bool)
    all (suc i) = simp (out-roll-Ker, value.outs-Bool)

marks_init : MarksInInit in_init (false ∷ [])
marks_init zero primed e = refl
marks_init (suc i) primed e = absurd (none≢some e)

marks_step : MarksVariables in_step (false ∷ [])
marks_step zero e = refl
marks_step (suc i) e = absurd (none≢some e)

-- ---- a run

abbrev run : ℕ → State
run i = record { vals = value.Int (pos i) ∷ [] }

run_normal : (i : ℕ) → AllByRecursion Normal (run i).vals
run_normal i = (int_normal (pos i), tt)

number_value : (n : ℕ) (s t : State) → ker_val (Some 32) (number n) no_scope s t ≡ numbers.number (Some 32) (at 1) (pos n)
number_value n s t =
    val_const (Some 32) s t (at 1) int_ty (value.Int (pos n)) [] [] no_scope ∙ ap (constant_value (Some 32) (at 1)) (value.outs-Int (pos n))

abbrev added : Outcome → Outcome → Outcome
added a b = strict (a ∷ b ∷ []) (λ vs. on_numbers (at 2) (λ i j. numbers.number (Some 32) (at 2) (i +ℤ j)) (map out-Value vs))

more_value : (i : ℕ) (t : State) → ker_val (Some 32) more no_scope (run i) t ≡ numbers.number (Some 32) (at 2) (pos i +ℤ pos 1)
more_value i t =
    val_plus (Some 32) (run i) t (at 2) int_ty (x false ∷ number 1 ∷ []) [] no_scope
    ∙ ap₂ added (val_name (Some 32) (run i) t (at 1) int_ty 0 false [] [] no_scope) (number_value 1 (run i) t)
    ∙ sum
  where
    sum : added (Val (value.Int (pos i))) (Val (value.Int (pos 1))) ≡ numbers.number (Some 32) (at 2) (pos i +ℤ pos 1)
    sum = simp (value.outs-Int)

by_constants : Follows 32 counter.constants (run 0) (run 0)
by_constants = (path (mark.Guard (truth true) true ∷ []), inl refl, ([], (holds, refl)))
  where
    holds : ker_val (Some 32) (truth true) no_scope (run 0) (run 0) ≡ yes_no true
    holds = val_const (Some 32) (run 0) (run 0) (at 1) bool_ty (value.Bool true) [] [] no_scope ∙ ap (constant_value (Some 32) (at 1)) (value.outs-Bool true)

by_start : Follows 32 counter.start (run 0) (run 0)
by_start = (path (mark.Equals 0 (number 0) ∷ []), inl refl, ([], ((value.Int (pos 0), (number_value 0 (run 0) (run 0), refl)), refl)))

by_next : (i : ℕ) → i < 2 → IsStep 32 counter (run i) (run (suc i))
by_next zero l = (refl, (path (mark.Equals 0 more ∷ []), inl refl, ([], ((value.Int (pos 1), (more_value 0 (run 1), refl)), refl))))
by_next (suc zero) l = (refl, (path (mark.Equals 0 more ∷ []), inl refl, ([], ((value.Int (pos 2), (more_value 1 (run 2), refl)), refl))))
by_next (suc (suc i)) l = absurd (omega (arith, l))

-- ---- what the laws say of it

wide : 2 ≤ 32
wide = omega arith

start_fits : FitsTyped kinds (start_shapes (system_parts 32 counter)) (run 0)
start_fits = each_start_fits 32 counter kinds in_init (run 0) wide refl refl marks_init constants_are start_are (run_normal 0) by_constants by_start

second_fits : FitsTyped kinds (shapes_at (system_parts 32 counter) (start_shapes (system_parts 32 counter)) 2) (run 2)
second_fits = each_level_fits 32 counter kinds in_step (start_shapes (system_parts 32 counter)) run 2 wide refl marks_step next_are start_fits run_normal by_next

-- x is 0 at the start, and 2 two steps later
start_is : start_shapes (system_parts 32 counter) ≡ from_to 0 0 ∷ []
start_is = simp (ker-shape-roll, value.outs-Int)

second_is : shapes_at (system_parts 32 counter) (from_to 0 0 ∷ []) 2 ≡ from_to 2 2 ∷ []
second_is = simp (ker-shape-roll, value.outs-Int)
