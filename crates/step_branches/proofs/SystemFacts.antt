-- What is known of a system that can be encoded and stands for a job.
use Rattle.std.proofs.Common.{◌≡◌, ℕ, suc, ◌≤◌, ◌<◌, Bool, true, false, ◌&&◌, IsTrue, List, [], ◌∷◌, map, length}
use Rattle.std.proofs.Common.{Option, Some, None, refl, sym, ◌∙◌, ap, subst, arith}
use Rattle.std.specs.Prelude.{◌==◌, nat_le, nat_lt, option_and_then, option_map}
use Rattle.std.specs.List.{list_all}
use Rattle.std.proofs.lemmas.Bool.{eqb-true}
use Rattle.tla_meaning.specs.declared.actions.Assignable.TheVariants.{Constants, PrimedVariables, Variables}
use Rattle.tla_meaning.specs.declared.job.Job.{Job}
use Rattle.tla_meaning.specs.Executions.{constants}
use Rattle.tla_meaning.specs.Numbers.{Width}
use Rattle.tla_meaning.proofs.Laws.{none≢some}
use Rattle.tla_meaning.proofs.Views.{and_both, and_left, and_right}
use Rattle.snowcat_rows.specs.declared.types.Ty.{Ty}
use Rattle.snowcat_rows.specs.TypeTexts.{are_distinct}
use Rattle.kernel_trees.specs.declared.path.Assigned.{Assigned}
use Rattle.kernel_trees.specs.declared.system.System.{System}
use Rattle.kernel_trees.specs.Assignments.{reads_late}
use Rattle.kernel_trees.specs.Paths.{mentions}
use Rattle.kernel_trees.specs.Picks.{IsOneOf}
use Rattle.kernel_trees.specs.Sound.{passes, sound_assigned}
use Rattle.kernel_trees.specs.Systems.{constants_first, kinds_of_names, parts, sound_job, sound_part, sound_paths}
use Rattle.kernel_trees.specs.TypeKinds.{Kind, all_there, kind_of}
use Rattle.kernel_shapes.specs.Systems.{MarksInInit, MarksVariables, every_name}
use Rattle.path_walks.specs.Steps.{assigns}
use Rattle.step_laws.specs.Encodable.{CanEncode, constant_count, start_marks, step_marks}
use Rattle.step_laws.specs.Systems.{StandsFor}
use Rattle.step_laws.proofs.Constants.{variables}
use Rattle.step_laws.proofs.Sound.{sound_first}
use Rattle.step_branches.proofs.Covers.{one_of_all, variable_above}
use Rattle.step_branches.proofs.Marked.{system_marked}
use Rattle.step_branches.proofs.Parts.{IsPathOf}
use Rattle.step_branches.proofs.Runs.{count, counted, many as declared}

-- ---- kinds of names

as_many : (ts : List Ty) (ks : List Kind) → all_there (map kind_of ts) ≡ Some ks → length ks ≡ length ts
as_many [] ks e = ap length (sym (same e))
  where
    same : Some [] ≡ Some ks → [] ≡ ks
    same q = cc
as_many (t ∷ ts) ks e = by (kind_of t) (all_there (map kind_of ts)) refl e (λ js q. as_many ts js q)
  where
    by : (o : Option Kind) (r : Option (List Kind)) → all_there (map kind_of ts) ≡ r →
        option_and_then (λ x. option_map (λ xs. x ∷ xs) r) o ≡ Some ks →
        ((js : List Kind) → all_there (map kind_of ts) ≡ Some js → length js ≡ length ts) → length ks ≡ suc (length ts)
    by None r q k go = absurd (none≢some k)
    by (Some a) None q k go = absurd (none≢some k)
    by (Some a) (Some js) q k go = ap length (sym (same k)) ∙ ap suc (go js q)
      where
        same : Some (a ∷ js) ≡ Some ks → a ∷ js ≡ ks
        same z = cc

-- ---- numbers

below : (i n : ℕ) → i < n → nat_lt i n ≡ true
below i n lt = grind (arith, lt)

from_on : (c i : ℕ) → c ≤ i → nat_le c i ≡ true
from_on c i le = grind (arith, le)

is_below : (i n : ℕ) → nat_lt i n ≡ true → i < n
is_below i n q = grind (arith, q)

is_from : (c i : ℕ) → nat_le c i ≡ true → c ≤ i
is_from c i q = grind (arith, q)

-- ---- a system

module _ (w : Width) (job : Job) (s : System) (can : CanEncode s) (stands : StandsFor w job s) where
  sound_kernel : IsTrue (sound_job s.ker)
  sound_kernel =
      let all : List Kind → Bool = λ names.
      sound_paths names s.ker.texts s.constants &&
      (sound_paths names s.ker.texts s.start && sound_paths names s.ker.texts s.next) in
      and_left (sound_job s.ker) (passes all (kinds_of_names s.ker)) can.sound

  -- constants stand first, and there are as many as the job's
  pub first_ones : IsTrue (constants_first s.ker.fixed)
  first_ones = sound_first s.ker sound_kernel

  pub counts : count s.ker.fixed ≡ constants job
  counts = ap count stands.fixed ∙ counted job.names

  pub many : length s.ker.fixed ≡ length job.names
  many = ap length stands.fixed ∙ declared job.names

  pub filled : length s.ker.fixed ≡ length can.names
  filled = sym named ∙ sym (as_many s.ker.names can.names can.kinds)
    where
      named : length s.ker.names ≡ length s.ker.fixed
      named =
          let one : Bool = length s.ker.names == length s.ker.fixed in
          let two : Bool = one && constants_first s.ker.fixed in
          let three : Bool = two && are_distinct s.ker.texts in
          eqb-true (length s.ker.names) (length s.ker.fixed)
          (and_left one (constants_first s.ker.fixed)
          (and_left two (are_distinct s.ker.texts)
          (and_left three (passes (λ names. list_all (sound_part names s.ker.texts) (parts s.ker))
          (kinds_of_names s.ker)) sound_kernel)))

  -- ---- marks

  pub step_marked : MarksVariables (step_marks s) s.ker.fixed
  step_marked i q =
      let z = variable_above s.ker.fixed i first_ones q in
      and_both (nat_lt i (length s.ker.fixed)) (nat_le (constant_count s) i) (below i (length s.ker.fixed) z.1)
      (from_on (constant_count s) i z.0)

  pub start_marked : MarksInInit (start_marks s) s.ker.fixed
  start_marked i primed q =
      let z = variable_above s.ker.fixed i first_ones q in
      and_both (nat_lt i (length s.ker.fixed)) (nat_le (constant_count s) i) (below i (length s.ker.fixed) z.1)
      (from_on (constant_count s) i z.0)

  -- ---- paths

  pub step_path : (x : Assigned) → IsOneOf x s.next →
      IsPathOf can.names (step_marks s) (constants job) (length job.names) x
  step_path x o = record {
    sound = one_of_all (λ (y : Assigned). sound_assigned can.names [] y.steps) s.next x can.next.sound o;
    late = one_of_all (λ (y : Assigned). reads_late (step_marks s) [] y.steps) s.next x can.next.late o;
    assigned = λ i e.
        let z = system_marked (length job.names) (PrimedVariables (constants job)) s.ker.next s.next stands.paths.next
        x o i e in
        let inside : Bool = nat_lt i (length job.names) in
        let behind : Bool = z.0 && nat_le (constants job) i in (
          is_from (constants job) i (and_right z.0 (nat_le (constants job) i) (and_right inside behind z.1)),
          is_below
              i (length job.names) (and_left inside behind z.1),
        );
  }

  pub start_path : (x : Assigned) → IsOneOf x s.start →
      IsPathOf can.names (start_marks s) (constants job) (length job.names) x
  start_path x o = record {
    sound = one_of_all (λ (y : Assigned). sound_assigned can.names [] y.steps) s.start x can.start.sound o;
    late = one_of_all (λ (y : Assigned). reads_late (start_marks s) [] y.steps) s.start x can.start.late o;
    assigned = λ i e.
        let z = system_marked (length job.names) (Variables (constants job)) s.ker.init s.start stands.paths.start x o
        i e in
        let inside : Bool = nat_lt i (length job.names) in
        let behind : Bool = nat_le (constants job) i in (
          is_from (constants job) i (and_right inside behind z.1),
          is_below i (length job.names)
              (and_left inside behind z.1),
        );
  }

  -- CInit assigns constants alone
  pub constant_assigned : (x : Assigned) → IsOneOf x s.constants → (i : ℕ) → assigns x.steps i ≡ true →
      i < constants job
  constant_assigned x o i e =
      let z = system_marked (length job.names) (Constants (constants job)) s.ker.cinit s.constants
      stands.paths.constants x o i e in
      is_below i (constants job) (and_right (nat_lt i (length job.names)) (nat_lt i (constants job)) z.1)

  pub constant_path : (x : Assigned) → IsOneOf x s.constants → IsPathOf can.names every_name 0 (length job.names) x
  constant_path x o = record {
    sound = one_of_all (λ (y : Assigned). sound_assigned can.names [] y.steps) s.constants x can.constants.sound o;
    late = one_of_all (λ (y : Assigned). reads_late every_name [] y.steps) s.constants x can.constants.late o;
    assigned = λ i e.
        let z = system_marked (length job.names) (Constants (constants job)) s.ker.cinit s.constants
        stands.paths.constants x o i e in (
          omega arith,
          is_below i (length job.names)
              (and_left (nat_lt i (length job.names)) (nat_lt i (constants job)) z.1),
        );
  }

  -- ---- the assumption

  pub assume_silent : mentions (variables (constants job)) s.ker.assume ≡ false
  assume_silent = subst (λ (c : ℕ). mentions (variables c) s.ker.assume ≡ false) counts can.assume
