-- A path assigns no name twice, and none that was assigned before.
use Rattle.std.proofs.Common.{◌≡◌, ℕ, Bool, true, false, not, ◌||◌, IsTrue, List, [], ◌∷◌, flat_map, refl, sym, ◌∙◌, ap, arith, Option, Some, None}
use Rattle.std.specs.Prelude.{nat_eq}
use Rattle.tla_meaning.proofs.Views.{and_both, and_right, false≢true}
use Rattle.kernel_trees.specs.declared.kernel.Ker.{Ker, out-Ker}
use Rattle.kernel_trees.specs.declared.kernel.KerOp.{KerOp}
use Rattle.kernel_trees.specs.declared.path.AssignedStep.{AssignedStep}
use Rattle.kernel_trees.specs.declared.path.PathStep.{PathStep}
use Rattle.kernel_trees.specs.declared.path.PathStep.TheVariants as path
use Rattle.kernel_trees.specs.Assignments.{assigned_by, assignment, is_in, marked, step_by}
use Rattle.kernel_trees.specs.Paths.{Marks}
use Rattle.kernel_trees.specs.Scoped.{differ}
use Rattle.kernel_trees.specs.Systems.{assigns_once}
use Rattle.kernel_trees.proofs.Reading.{nat_same}
use Rattle.kernel_reduction.proofs.Basics.{or_left, or_right}
use Rattle.kernel_reduction.proofs.Tying.{not_true}
use Rattle.accepted_systems.proofs.Assigning.{IsAssignment, by_form, by_value, is_assignment}

nat_is : (i j : ℕ) → nat_eq i j ≡ true → i ≡ j
nat_is i j h = grind (arith, h)

-- the names differ, and none was assigned before
pub record Fresh (before given : List ℕ) : Type 0 where
  pub new : (j : ℕ) → is_in given j ≡ true → is_in before j ≡ false
  pub once : IsTrue (differ given)

-- one name more in front
module _ (before given : List ℕ) (i : ℕ) (out : is_in before i ≡ false) (h : Fresh (i ∷ before) given) where
  new_more : (j : ℕ) → is_in (i ∷ given) j ≡ true → is_in before j ≡ false
  new_more j e = by (nat_eq j i) refl e
    where
      by : (b : Bool) → nat_eq j i ≡ b → (b || is_in given j) ≡ true → is_in before j ≡ false
      by true q e = ap (is_in before) (nat_is j i q) ∙ out
      by false q e = or_right (nat_eq j i) (is_in before j) (h.new j e)

  not_again : IsTrue (not (is_in given i))
  not_again = by (is_in given i) refl
    where
      by : (b : Bool) → is_in given i ≡ b → IsTrue (not b)
      by true q = absurd (false≢true (sym (or_left (nat_eq i i) (is_in before i) (h.new i q)) ∙ nat_same i))
      by false q = refl

  one_more : Fresh before (i ∷ given)
  one_more = record { new = new_more; once = and_both (not (is_in given i)) (differ given) not_again h.once }

module _ (m : Marks) where
  abbrev pub IsFresh : List ℕ → List AssignedStep → Type 0
  IsFresh before zs = Fresh before (flat_map assigned_by zs)

  made_fresh : (before : List ℕ) (o : KerOp) (ks : List Ker) (a : ℕ × AssignedStep) → IsAssignment m before o ks a →
      (zs : List AssignedStep) →
      IsFresh (a.0 ∷ before) zs → IsFresh before (a.1 ∷ zs)
  made_fresh before o ks a (by_value x e i primed q t) zs h =
      one_more before (flat_map assigned_by zs) i
      (not_true (is_in before i) (and_right (m i primed) (not (is_in before i)) t)) h
  made_fresh before o ks a (by_form x e i primed q t) zs h =
      one_more before (flat_map assigned_by zs) i
      (not_true (is_in before i) (and_right (m i primed) (not (is_in before i)) t)) h

  step_fresh : (before : List ℕ) (k : Ker) (rest : List ℕ → List AssignedStep) (o : Option (ℕ × AssignedStep)) →
      assignment m before k ≡ o →
      ((given : List ℕ) → IsFresh given (rest given)) → IsFresh before (step_by k before rest o)
  step_fresh before k rest None q h = h before
  step_fresh before k rest (Some a) q h =
      made_fresh before (out-Ker k).op (out-Ker k).args a (is_assignment m before (out-Ker k).op (out-Ker k).args a q)
      (rest (a.0 ∷ before)) (h (a.0 ∷ before))

  fresh : (ys : List PathStep) (before : List ℕ) → IsFresh before (marked m before ys)
  fresh [] before = record { new = λ j h. absurd (false≢true h); once = refl }
  fresh (path.Guard k false ∷ ys) before = fresh ys before
  fresh (path.Guard k true ∷ ys) before =
      step_fresh before k (λ given. marked m given ys) (assignment m before k) refl (fresh ys)
  fresh (path.Pick ps ∷ ys) before = fresh ys before

  pub marked_once : (ys : List PathStep) → IsTrue (assigns_once (marked m [] ys))
  marked_once ys = (fresh ys []).once
