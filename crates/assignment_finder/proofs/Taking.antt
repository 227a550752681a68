-- How a step is taken or refused.
use Rattle.std.proofs.Common.{◌≡◌, ℕ, Bool, true, false, not, ◌&&◌, ◌||◌, List, [], ◌∷◌, ◌++◌, Option, Some, None, option_map, if◌then◌else◌, Ok, Err, refl, sym, ◌∙◌, ap, subst, arith, ◌<◌, length}
use Rattle.std.specs.Prelude.{Contains}
use Rattle.std.specs.List.{list_any}
use Rattle.tla_meaning.specs.declared.place.Place.{Place}
use Rattle.kernel_trees.specs.declared.kernel.Ker.{Ker, out-Ker}
use Rattle.kernel_trees.specs.declared.kernel.KerOp.{KerOp}
use Rattle.kernel_trees.specs.declared.kernel.KerOp.TheVariants as ker
use Rattle.kernel_trees.specs.declared.path.AssignedStep.{AssignedStep}
use Rattle.kernel_trees.specs.declared.path.AssignedStep.TheVariants as mark
use Rattle.kernel_trees.specs.declared.path.PathStep.TheVariants as path
use Rattle.kernel_trees.specs.Paths.{Marks}
use Rattle.kernel_trees.specs.Assignments.{assigned_by, assignment, assignment_of, is_in, marked, open_names, read_by, reads_at, step_by, target}
use Rattle.assignment_finder.specs.declared.assign_fault.AssignFault.{AssignFault}
use Rattle.assignment_finder.specs.declared.assign_fault.AssignFault.TheVariants.{Unassigned, ReadEarly, Infinite, Memory}
use Rattle.assignment_finder.specs.declared.open_names.OpenNames.{OpenNames}
use Rattle.assignment_finder.specs.declared.reading.Read.{Read}
use Rattle.assignment_finder.specs.Finding.{endless}
use Rattle.assignment_finder.specs.inner.Open.{IsOpen, MayAssign, open_by}
use Rattle.assignment_finder.specs.inner.Places.{IsEarliest}
use Rattle.assignment_finder.specs.inner.Reads.{IsFirst, Reads}
use Rattle.tla_meaning.specs.Outcomes.{before}
use Rattle.tla_meaning.proofs.Views.{false≢true}
use Rattle.assignment_finder.specs.inner.Steps.{AssignsMarked, Becomes, IsEarlierFault, IsLaterRead, IsNoEarlier, IsStep}
use Rattle.assignment_finder.proofs.FirstReads.{same_first}
use Rattle.assignment_finder.proofs.PlaceOrder.{not_before}

or_none : (b : Bool) → b ≡ (b || false)
or_none true = refl
or_none false = refl

-- ---- what a step reads

abbrev pub early : Marks → AssignedStep → Reads
early m z i p = list_any (λ k. reads_at m k i p) (read_by z)

-- of a step that reads one tree
pub early_one : (m : Marks) (k : Ker) (z : AssignedStep) (x : Option Read) → read_by z ≡ k ∷ [] → IsFirst (reads_at m k) x → IsFirst (early m z) x
early_one m k z x e =
    same_first (reads_at m k) (early m z) x
    (λ i p. or_none (reads_at m k i p) ∙ ap (λ (ks : List Ker). list_any (λ k. reads_at m k i p) ks) (sym e))

-- ---- the earlier of two faults

later_reads : (r : Reads) (p : Place) (x : Option Read) → IsFirst r x → IsLaterRead p x → (i : ℕ) (q : Place) → r i q ≡ true → before p q ≡ true
later_reads r p None f l i q e = absurd (false≢true (sym (f i q) ∙ e))
later_reads r p (Some y) f l i q e = by (before p q) refl
  where
    by : (b : Bool) → before p q ≡ b → before p q ≡ true
    by true h = h
    by false h = absurd (false≢true (sym (not_before y.place q p (f.first i q e) h) ∙ l))

-- no place is in an empty list
pub none_endless : (p : Place) (q : Place) → Contains [] q → before q p ≡ false
none_endless p q h = absurd (let lt : h.0 < 0 = h.1 in omega (arith, lt))

-- ---- the answers

-- `o` is what is open before the step `z`, and `x` what of it the step reads first
module _ (o : OpenNames) (z : AssignedStep) (x : Option Read) (f : IsFirst (early (open_by o) z) x) where
  by_names : (m : Marks) (before : List ℕ) → IsOpen m before o → IsFirst (early (open_names m before) z) x
  by_names m before h = subst (λ (g : Marks). IsFirst (early g z) x) h.are f

  pub refused_early : (o' : OpenNames) (y : Read) → x ≡ Some y → ((q : Place) → Contains (endless z) q → before q y.place ≡ false) →
      IsStep o z o' (Err (ReadEarly y.name y.place))
  refused_early o' y e none = λ m before h may.
      let g : IsFirst (early (open_names m before) z) (Some y) = subst (λ (x : Option Read). IsFirst (early (open_names m before) z) x) e (by_names m before h) in
      (record { read = g.read; first = g.first }, none)

  -- no name is read early, or each at a later place
  pub refused_endless : (o' : OpenNames) (p : Place) → IsLaterRead p x → IsEarliest (endless z) (Some p) → IsStep o z o' (Err (Infinite p))
  refused_endless o' p l i = λ m before h may.
      (record { there = i.there; first = i.first }, later_reads (early (open_names m before) z) p x (by_names m before h) l)

  pub takes : (o' : OpenNames) (y : AssignedStep) → x ≡ None → y ≡ z → endless z ≡ [] →
      ((m : Marks) (before : List ℕ) → AssignsMarked m z → IsOpen m before o → IsOpen m (assigned_by z ++ before) o') →
      IsStep o z o' (Ok y)
  takes o' y e s n l = λ m before h may. (
    s,
    record {
      fine = (subst (λ (x : Option Read). IsFirst (early (open_names m before) z) x) e (by_names m before h), n);
      left = l m before may h;
    },
  )

  -- what is told of a form
  pub refused : (o' : OpenNames) (place : Option Place) (fault : AssignFault) → IsEarlierFault x place (Some fault) → IsEarliest (endless z) place →
      IsStep o z o' (Err fault)
  refused o' place (ReadEarly i p) e h =
      let P : ℕ → Place → Type 0 = λ i p. IsStep o z o' (Err (ReadEarly i p)) in
      subst (λ i. P i p) (sym e.name) (subst (λ p. P e.it.name p) (sym e.at)
      (refused_early o' e.it e.is (λ q k. none_before place (subst (λ p. IsNoEarlier p place) e.at e.earlier) h q k)))
    where
      none_before : (place : Option Place) → IsNoEarlier e.it.place place → IsEarliest (endless z) place → (q : Place) → Contains (endless z) q → before q e.it.place ≡ false
      none_before None n h q k = absurd (let lt : k.0 < 0 = subst (λ (ps : List Place). k.0 < length ps) h k.1 in omega (arith, lt))
      none_before (Some r) n h q k = not_before e.it.place r q n (h.first q k)
  refused o' place (Infinite p) e h = refused_endless o' p e.1 (subst (λ (place : Option Place). IsEarliest (endless z) place) e.0 h)
  refused o' place (Unassigned i p) e h = absurd e
  refused o' place (Memory m) e h = absurd e

-- ---- assignments

at : {f g : Marks} → f ≡ g → (i : ℕ) (primed : Bool) → f i primed ≡ g i primed
at e i primed = ap (λ (f : Marks). f i primed) e

pub target_is : (o : OpenNames) (m : Marks) (before : List ℕ) (left : KerOp) (i : ℕ) (primed b : Bool) (r : Option ℕ) → IsOpen m before o →
    left ≡ ker.Name i primed → open_by o i primed ≡ b → r ≡ (if b then Some i else None) → r ≡ target m before left
target_is o m before left i primed b r h e f g =
    g ∙ ap (λ b. if b then Some i else None) (sym f ∙ at h.are i primed) ∙ sym (ap (target m before) e)

target_else : (m : Marks) (before : List ℕ) (left : KerOp) → ((i : ℕ) (primed : Bool) → left ≡ ker.Name i primed → ⊥) → None ≡ target m before left
target_else m before (ker.Name i primed) h = absurd (h i primed refl)
target_else m before o h = refl

pub no_target : (m : Marks) (before : List ℕ) (left : KerOp) → ((i : ℕ) (primed : Bool) → left ≡ ker.Name i primed → ⊥) → None ≡ target m before left
no_target = target_else

-- a target may be assigned
pub target_may : (m : Marks) (before : List ℕ) (left : KerOp) (i : ℕ) → target m before left ≡ Some i → MayAssign m i
target_may m before (ker.Name j primed) i h = by (m j primed) (not (is_in before j)) refl h
  where
    by : (a b : Bool) → m j primed ≡ a → (if a && b then Some j else None) ≡ Some i → MayAssign m i
    by true true e k = let s : j ≡ i = cc in (primed, subst (λ j. m j primed ≡ true) s e)
    by true false e k = absurd (cc)
    by false b e k = absurd (cc)
target_may m before o i h = absurd (cc)

-- ---- what an operand becomes

module _ (m : Marks) (before : List ℕ) (k : Ker) where
  pub becomes_guard : assignment m before k ≡ None → Becomes m before (path.Guard k true) (mark.Guard k true)
  becomes_guard e = λ rest. ap (step_by k before (λ names. marked m names rest)) e

  pub becomes : (i : ℕ) (z : AssignedStep) → assignment m before k ≡ Some (i, z) → assigned_by z ≡ i ∷ [] → Becomes m before (path.Guard k true) z
  becomes i z e f = λ rest.
      ap (step_by k before (λ names. marked m names rest)) e
      ∙ ap (λ (xs : List ℕ). z ∷ marked m (xs ++ before) rest) (sym f)

mapped_some : {X Y : Type 0} (f : X → Y) (o : Option X) (y : Y) → option_map f o ≡ Some y → (x : X) × ((o ≡ Some x) × (f x ≡ y))
mapped_some f None y e = absurd (cc)
mapped_some f (Some x) y e = (x, (refl, cc))

-- what is assigned may be
of_may : (m : Marks) (before : List ℕ) (o : KerOp) (ks : List Ker) (i : ℕ) (z : AssignedStep) → assignment_of m before o ks ≡ Some (i, z) → MayAssign m i
of_may m before ker.Equal (x ∷ e ∷ []) i z h =
    let s = mapped_some (λ i. (i, mark.Equals i e)) (target m before (out-Ker x).op) (i, z) h in
    subst (MayAssign m) (ap (λ (y : ℕ × AssignedStep). y.0) s.1.1) (target_may m before (out-Ker x).op s.0 s.1.0)
of_may m before ker.Member (x ∷ e ∷ []) i z h =
    let s = mapped_some (λ i. (i, mark.Among i e)) (target m before (out-Ker x).op) (i, z) h in
    subst (MayAssign m) (ap (λ (y : ℕ × AssignedStep). y.0) s.1.1) (target_may m before (out-Ker x).op s.0 s.1.0)
of_may m before o ks i z h = absurd (cc)

pub assignment_may : (m : Marks) (before : List ℕ) (k : Ker) (i : ℕ) (z : AssignedStep) → assignment m before k ≡ Some (i, z) → MayAssign m i
assignment_may m before k i z h = of_may m before (out-Ker k).op (out-Ker k).args i z h
