-- Paths assign marked names alone.
use Rattle.std.proofs.Common.{◌≡◌, ℕ, Bool, true, false, not, ◌&&◌, ◌||◌, IsTrue, List, [], ◌∷◌, ◌++◌, Option, Some}
use Rattle.std.proofs.Common.{None, refl, subst, arith, if◌then◌else◌}
use Rattle.std.specs.Prelude.{flat_map, nat_eq, option_map}
use Rattle.tla_meaning.specs.declared.actions.Assignable.{Assignable}
use Rattle.tla_meaning.proofs.Laws.{none≢some}
use Rattle.tla_meaning.proofs.Views.{and_left, false≢true}
use Rattle.kernel_trees.specs.declared.kernel.Ker.{Ker, out-Ker}
use Rattle.kernel_trees.specs.declared.kernel.KerOp.{KerOp}
use Rattle.kernel_trees.specs.declared.kernel.KerOp.TheVariants as ker
use Rattle.kernel_trees.specs.declared.path.Assigned.{Assigned}
use Rattle.kernel_trees.specs.declared.path.AssignedStep.{AssignedStep}
use Rattle.kernel_trees.specs.declared.path.AssignedStep.TheVariants as mark
use Rattle.kernel_trees.specs.declared.path.PathStep.{PathStep}
use Rattle.kernel_trees.specs.declared.path.PathStep.TheVariants as path
use Rattle.kernel_trees.specs.Assignments.{AssignedPath, assigned_by, assigned_of, assignment, assignment_of, is_in}
use Rattle.kernel_trees.specs.Assignments.{marked, step_by, target}
use Rattle.kernel_trees.specs.Laws.{assigned_paths, job_paths}
use Rattle.kernel_trees.specs.Paths.{Marks, marks_below}
use Rattle.kernel_trees.specs.Picks.{IsOneOf}
use Rattle.kernel_trees.proofs.Picking.{map_one, one_map}
use Rattle.path_walks.specs.Steps.{assigns}
use Rattle.step_laws.specs.Systems.{steps_of}

abbrev pub IsMarked : Marks → ℕ → Type 0
IsMarked m i = (primed : Bool) × (m i primed ≡ true)

-- the step assigns this name alone, which is marked
record Assigning (m : Marks) (a : ℕ × AssignedStep) : Type 0 where
  pub one : assigned_by a.1 ≡ a.0 ∷ []
  pub marked : IsMarked m a.0

some_is : {X : Type 0} {u v : X} → Some u ≡ Some v → u ≡ v
some_is e = cc

by_test : (m : Marks) (i j : ℕ) (primed : Bool) (b : Bool) → (IsTrue b → m i primed ≡ true) →
    (if b then Some i else None) ≡ Some j → IsMarked m j
by_test m i j primed true h e = (primed, subst (λ (n : ℕ). m n primed ≡ true) (some_is e) (h refl))
by_test m i j primed false h e = absurd (none≢some e)

target_marked : (m : Marks) (before : List ℕ) (o : KerOp) (i : ℕ) → target m before o ≡ Some i → IsMarked m i
target_marked m before (ker.Name j primed) i e =
    by_test m j i primed (m j primed && not (is_in before j)) (λ h. and_left (m j primed) (not (is_in before j)) h) e
target_marked m before o i e = absurd (none≢some e)

assigning : (m : Marks) (before : List ℕ) (o : KerOp) (ks : List Ker) (a : ℕ × AssignedStep) →
    assignment_of m before o ks ≡ Some a → Assigning m a
assigning m before ker.Equal (x ∷ e ∷ []) a h = by (target m before (out-Ker x).op) refl h
  where
    by : (r : Option ℕ) → target m before (out-Ker x).op ≡ r → option_map (λ i. (i, mark.Equals i e)) r ≡ Some a →
        Assigning m a
    by None q k = absurd (none≢some k)
    by (Some i) q k = subst (Assigning m) (some_is k)
        (record { one = refl; marked = target_marked m before (out-Ker x).op i q })
assigning m before ker.Member (x ∷ e ∷ []) a h = by (target m before (out-Ker x).op) refl h
  where
    by : (r : Option ℕ) → target m before (out-Ker x).op ≡ r → option_map (λ i. (i, mark.Among i e)) r ≡ Some a →
        Assigning m a
    by None q k = absurd (none≢some k)
    by (Some i) q k = subst (Assigning m) (some_is k)
        (record { one = refl; marked = target_marked m before (out-Ker x).op i q })
assigning m before o ks a h = absurd (none≢some h)

-- this name, or one of the others
first_or : (i j : ℕ) (js : List ℕ) (P : ℕ → Type 0) → is_in (j ∷ js) i ≡ true → P j → (is_in js i ≡ true → P i) → P i
first_or i j js P e h go = by (nat_eq i j) refl e
  where
    by : (b : Bool) → nat_eq i j ≡ b → (b || is_in js i) ≡ true → P i
    by true q k = let same : j ≡ i = grind (arith, q) in subst P same h
    by false q k = go k

pub marked_names : (m : Marks) (before : List ℕ) (ys : List PathStep) (i : ℕ) →
    assigns (marked m before ys) i ≡ true → IsMarked m i
marked_names m before [] i e = absurd (false≢true e)
marked_names m before (path.Guard k false ∷ ys) i e = marked_names m before ys i e
marked_names m before (path.Pick ps ∷ ys) i e = marked_names m before ys i e
marked_names m before (path.Guard k true ∷ ys) i e =
    by (λ names. marked_names m names ys i) (assignment m before k) refl e
  where
    by : ((names : List ℕ) → assigns (marked m names ys) i ≡ true → IsMarked m i) → (o : Option (ℕ × AssignedStep)) →
        assignment m before k ≡ o →
        assigns (step_by k before (λ names. marked m names ys) o) i ≡ true → IsMarked m i
    by go None q h = go before h
    by go (Some a) q h =
        let z = assigning m before (out-Ker k).op (out-Ker k).args a q in
        let rest : AssignedPath = marked m (a.0 ∷ before) ys in
        first_or i a.0 (flat_map assigned_by rest) (IsMarked m)
        (subst (λ (js : List ℕ). is_in (js ++ flat_map assigned_by rest) i ≡ true) z.one h) z.marked (go (a.0 ∷ before))

-- so do those of a system
pub system_marked : (n : ℕ) (m : Assignable) (k : Ker) (xs : List Assigned) → steps_of xs ≡ assigned_paths n m k →
    (x : Assigned) → IsOneOf x xs →
    (i : ℕ) → assigns x.steps i ≡ true → IsMarked (marks_below n m) i
system_marked n m k xs is x o i e =
    let own : IsOneOf x.steps (steps_of xs) = one_map (λ (y : Assigned). y.steps) x xs o in
    let z = map_one (assigned_of (marks_below n m)) x.steps (job_paths n m k) (subst (IsOneOf x.steps) is own) in
    marked_names (marks_below n m) [] z.0.steps i (subst (λ (ys : AssignedPath). assigns ys i ≡ true) z.2 e)
