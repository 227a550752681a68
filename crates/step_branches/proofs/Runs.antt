-- The ends of runs along the paths of a system fit the shapes of their levels.
use Rattle.std.proofs.Common.{◌≡◌, ℕ, zero, suc, ◌≤◌, ◌<◌, Bool, true, false, cond, not, IsTrue, List, [], ◌∷◌, map}
use Rattle.std.proofs.Common.{take, length, filter, Some, refl, sym, ◌∙◌, ap, subst, arith, All}
use Rattle.std.specs.List.{AllByRecursion, list_all}
use Rattle.std.proofs.lemmas.List.Elements.{All-head, All-tail}
use Rattle.tla_values.specs.Sets.{Normal}
use Rattle.tla_values.specs.declared.value.Value.{Value}
use Rattle.tla_meaning.specs.declared.expr.Decl.{Decl}
use Rattle.tla_meaning.specs.declared.job.Job.{Job}
use Rattle.tla_meaning.specs.declared.job.State.{State}
use Rattle.tla_meaning.specs.Executions.{IsState, Keeps}
use Rattle.tla_meaning.proofs.Views.{false≢true}
use Rattle.kernel_trees.specs.declared.path.Assigned.{Assigned}
use Rattle.kernel_trees.specs.declared.system.System.{System}
use Rattle.kernel_trees.specs.Assignments.{AssignedHolds, AssignedPath}
use Rattle.kernel_trees.specs.Paths.{Marks}
use Rattle.kernel_trees.specs.Systems.{constants_first}
use Rattle.kernel_trees.specs.TypeKinds.{Kind}
use Rattle.kernel_trees.proofs.Picking.{map_one}
use Rattle.kernel_shapes.specs.Laws.{FitsTyped, PathsAre}
use Rattle.kernel_shapes.specs.Levels.{Parts, shapes_at}
use Rattle.kernel_shapes.specs.Shape.{Shape}
use Rattle.kernel_shapes.specs.Systems.{ConstantsKept, Follows, MarksVariables, no_scope, system_parts}
use Rattle.kernel_shapes.proofs.LevelLaw.{each_level_fits}
use Rattle.level_laws.specs.Branches.{Held, Transition}
use Rattle.level_laws.specs.Levels.{Run, Start}
use Rattle.step_laws.specs.PathEnds.{SomeEnds}
use Rattle.step_laws.specs.Systems.{steps_of}
use Rattle.step_laws.specs.Transitions.{StepGoes}

-- ---- normal values, and constants that are kept

pub all_normal : (vs : List Value) → All Normal vs → AllByRecursion Normal vs
all_normal [] h = tt
all_normal (v ∷ vs) h = (All-head Normal v vs h, all_normal vs (All-tail Normal v vs h))

abbrev pub count : List Bool → ℕ
count bs = length (filter (λ (b : Bool). b) bs)

no_constants : (bs : List Bool) → IsTrue (list_all not bs) → (us vs : List Value) → length us ≡ length vs →
    length bs ≡ length us → ConstantsKept bs us vs
no_constants [] h us vs e f = e
no_constants (true ∷ bs) h us vs e f = absurd (false≢true h)
no_constants (false ∷ bs) h [] [] e f = tt
no_constants (false ∷ bs) h [] (v ∷ vs) e f = absurd (none (length vs) e)
  where
    none : (n : ℕ) → 0 ≡ suc n → ⊥
    none n q = omega (arith, q)
no_constants (false ∷ bs) h (u ∷ us) [] e f = absurd (none (length us) e)
  where
    none : (n : ℕ) → suc n ≡ 0 → ⊥
    none n q = omega (arith, q)
no_constants (false ∷ bs) h (u ∷ us) (v ∷ vs) e f =
    no_constants bs h us vs (less (length us) (length vs) e) (less (length bs) (length us) f)
  where
    less : (m n : ℕ) → suc m ≡ suc n → m ≡ n
    less m n q = omega (arith, q)

kept_by : (bs : List Bool) → IsTrue (constants_first bs) → (us vs : List Value) → length us ≡ length vs →
    length bs ≡ length us → take (count bs) us ≡ take (count bs) vs → ConstantsKept bs us vs
kept_by [] h us vs e f k = e
kept_by (false ∷ bs) h us vs e f k = no_constants (false ∷ bs) h us vs e f
kept_by (true ∷ bs) h [] [] e f k = tt
kept_by (true ∷ bs) h [] (v ∷ vs) e f k = absurd (none (length vs) e)
  where
    none : (n : ℕ) → 0 ≡ suc n → ⊥
    none n q = omega (arith, q)
kept_by (true ∷ bs) h (u ∷ us) [] e f k = absurd (none (length us) e)
  where
    none : (n : ℕ) → suc n ≡ 0 → ⊥
    none n q = omega (arith, q)
kept_by (true ∷ bs) h (u ∷ us) (v ∷ vs) e f k =
    (first k, kept_by bs h us vs (less (length us) (length vs) e) (less (length bs) (length us) f) (rest k))
  where
    less : (m n : ℕ) → suc m ≡ suc n → m ≡ n
    less m n q = omega (arith, q)

    first : u ∷ take (count bs) us ≡ v ∷ take (count bs) vs → u ≡ v
    first q = cc

    rest : u ∷ take (count bs) us ≡ v ∷ take (count bs) vs → take (count bs) us ≡ take (count bs) vs
    rest q = cc

as_many : (b x : Bool) (xs : List Bool) (d : Decl) (ds : List Decl) → length xs ≡ length ds →
    length (cond b (x ∷ xs) xs) ≡ length (cond b (d ∷ ds) ds)
as_many true x xs d ds e = ap suc e
as_many false x xs d ds e = e

pub counted : (ds : List Decl) → count (map (λ d. d.constant) ds) ≡ length (filter (λ (d : Decl). d.constant) ds)
counted [] = refl
counted (d ∷ ds) = as_many d.constant d.constant (filter (λ (b : Bool). b) (map (λ d. d.constant) ds)) d
    (filter (λ (d : Decl). d.constant) ds) (counted ds)

pub many : (ds : List Decl) → length (map (λ (d : Decl). d.constant) ds) ≡ length ds
many [] = refl
many (d ∷ ds) = ap suc (many ds)

pub keeps_constants : (job : Job) (fixed : List Bool) → fixed ≡ map (λ d. d.constant) job.names →
    IsTrue (constants_first fixed) → (s t : State) → IsState job s → IsState job t → Keeps job s t →
    ConstantsKept fixed s.vals t.vals
keeps_constants job fixed is h s t ss st k =
    kept_by fixed h s.vals t.vals (ss.fills ∙ sym st.fills) (ap length is ∙ many job.names ∙ sym ss.fills)
    (subst (λ (n : ℕ). take n s.vals ≡ take n t.vals) (sym (ap count is ∙ counted job.names)) k)

-- ---- paths

pub follows : (w : ℕ) (xs : List Assigned) (s t : State) → SomeEnds (Some w) (steps_of xs) Held s t → Follows w xs s t
follows w xs s t m =
    let z = map_one (λ (x : Assigned). x.steps) m.0 xs m.1.0 in
    (z.0, z.1, (m.1.1.0, subst (λ (y : AssignedPath). AssignedHolds (Some w) s t y m.1.1.0 no_scope) z.2 m.1.1.1))

-- ---- runs

module _ (w : ℕ) (wide : 2 ≤ w) (job : Job) (sys : System) (fixed : sys.ker.fixed ≡ map (λ d. d.constant) job.names)
    (first_ones : IsTrue (constants_first sys.ker.fixed))
    (names : List Kind) (filled : length sys.ker.fixed ≡ length names) (m : Marks)
    (marks : MarksVariables m sys.ker.fixed) (paths : PathsAre names m sys.next)
    (I : Start State) (first : List Shape)
    (begins : (s : State) → I Held tt s → IsState job s × FitsTyped names first s) where
  abbrev P : Transition State State
  P = StepGoes (Some w) job (steps_of sys.next)

  abbrev parts : Parts
  parts = system_parts w sys

  abbrev shapes : ℕ → List Shape
  shapes n = shapes_at parts first n

  abbrev two_states : State → State → ℕ → State
  two_states s t zero = s
  two_states s t (suc n) = t

  -- the end of a run of n steps fits the shapes of level n
  pub run_fits : (n : ℕ) (ss : List State) (s : State) → Run I P n ss s → IsState job s × FitsTyped names (shapes n) s
  run_fits zero [] s r = begins s r
  run_fits (suc n) (u ∷ ss) t r = (r.1.0.0, one (run_fits n ss u r.0) r.1)
    where
      one : IsState job u × FitsTyped names (shapes n) u → P Held u t → FitsTyped names (shapes (suc n)) t
      one before m' =
          each_level_fits w sys names m (shapes n) (two_states u t) 1 wide filled marks paths before.1 normal
          (λ i lt. step i (before.0) m' lt)
        where
          normal : (i : ℕ) → AllByRecursion Normal (two_states u t i).vals
          normal zero = all_normal u.vals before.0.normal
          normal (suc i) = all_normal t.vals m'.0.0.normal

          step : (i : ℕ) → IsState job u → P Held u t → i < 1 →
              ConstantsKept sys.ker.fixed (two_states u t i).vals (two_states u t (suc i)).vals × Follows w sys.next
              (two_states u t i) (two_states u t (suc i))
          step zero su k lt = (
            keeps_constants job sys.ker.fixed fixed first_ones u t su k.0.0 k.0.1,
            follows w
                sys.next u t k.1,
          )
          step (suc i) su k lt = absurd (omega (arith, lt))
  run_fits zero (u ∷ ss) s r = absurd r
  run_fits (suc n) [] s r = absurd r
