-- What an assignment is: an equation of a name that may be assigned and is not yet, or a membership.
use Rattle.std.proofs.Common.{◌≡◌, ℕ, Bool, true, false, not, ◌&&◌, IsTrue, List, [], ◌∷◌, refl, ap, subst, Option, Some, None, option_map, if◌then◌else◌}
use Rattle.tla_meaning.proofs.Laws.{none≢some}
use Rattle.kernel_trees.specs.declared.kernel.Ker.{Ker, out-Ker}
use Rattle.kernel_trees.specs.declared.kernel.KerOp.{KerOp}
use Rattle.kernel_trees.specs.declared.kernel.KerOp.TheVariants as ker
use Rattle.kernel_trees.specs.declared.path.AssignedStep.{AssignedStep}
use Rattle.kernel_trees.specs.declared.path.AssignedStep.TheVariants as mark
use Rattle.kernel_trees.specs.Assignments.{assignment_of, is_in, target}
use Rattle.kernel_trees.specs.Paths.{Marks}

pub data IsAssignment (m : Marks) (before : List ℕ) : KerOp → List Ker → ℕ × AssignedStep → Type 0 where
  by_value : (x e : Ker) (i : ℕ) (primed : Bool) → (out-Ker x).op ≡ ker.Name i primed →
      IsTrue (m i primed && not (is_in before i)) → IsAssignment m before ker.Equal (x ∷ e ∷ []) (i, mark.Equals i e)
  by_form : (x e : Ker) (i : ℕ) (primed : Bool) → (out-Ker x).op ≡ ker.Name i primed →
      IsTrue (m i primed && not (is_in before i)) → IsAssignment m before ker.Member (x ∷ e ∷ []) (i, mark.Among i e)

some_same : {X : Type 0} {x y : X} → Some x ≡ Some y → x ≡ y
some_same e = cc

module _ (m : Marks) (before : List ℕ) where
  abbrev Named : KerOp → ℕ → Type 0
  Named o i = (primed : Bool) × (o ≡ ker.Name i primed) × IsTrue (m i primed && not (is_in before i))

  named_if : (i j : ℕ) (primed : Bool) (b : Bool) → m i primed && not (is_in before i) ≡ b →
      (if b then Some i else None) ≡ Some j →
      Named (ker.Name i primed) j
  named_if i j primed true q e =
      let same : i ≡ j = some_same e in
      (primed, ap (λ n. ker.Name n primed) same, subst (λ n. IsTrue (m n primed && not (is_in before n))) same q)
  named_if i j primed false q e = absurd (none≢some e)

  named : (o : KerOp) (i : ℕ) → target m before o ≡ Some i → Named o i
  named (ker.Name j primed) i e = named_if j i primed (m j primed && not (is_in before j)) refl e
  named o i e = absurd (none≢some e)

  of_value : (x e : Ker) (a : ℕ × AssignedStep) (r : Option ℕ) → target m before (out-Ker x).op ≡ r →
      option_map (λ i. (i, mark.Equals i e)) r ≡ Some a → IsAssignment m before ker.Equal (x ∷ e ∷ []) a
  of_value x e a None q h = absurd (none≢some h)
  of_value x e a (Some i) q h =
      let n : Named (out-Ker x).op i = named (out-Ker x).op i q in
      subst (IsAssignment m before ker.Equal (x ∷ e ∷ [])) (some_same h) (by_value x e i n.0 n.1 n.2)

  of_form : (x e : Ker) (a : ℕ × AssignedStep) (r : Option ℕ) → target m before (out-Ker x).op ≡ r →
      option_map (λ i. (i, mark.Among i e)) r ≡ Some a → IsAssignment m before ker.Member (x ∷ e ∷ []) a
  of_form x e a None q h = absurd (none≢some h)
  of_form x e a (Some i) q h =
      let n : Named (out-Ker x).op i = named (out-Ker x).op i q in
      subst (IsAssignment m before ker.Member (x ∷ e ∷ [])) (some_same h) (by_form x e i n.0 n.1 n.2)

  pub is_assignment : (o : KerOp) (ks : List Ker) (a : ℕ × AssignedStep) → assignment_of m before o ks ≡ Some a →
      IsAssignment m before o ks a
  is_assignment ker.Equal (x ∷ e ∷ []) a h = of_value x e a (target m before (out-Ker x).op) refl h
  is_assignment ker.Member (x ∷ e ∷ []) a h = of_form x e a (target m before (out-Ker x).op) refl h
  is_assignment o ks a h = absurd (none≢some h)
