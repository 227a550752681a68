-- A path with its assignments marked means what it means without.
use Rattle.std.proofs.Common.{◌≡◌, ◌⊎◌, inl, inr, ◌↔◌, ℕ, Bool, true, false, not, ◌&&◌, IsTrue, List, [], ◌∷◌, length, refl, sym, ◌∙◌, ap, subst, Option, Some, None, option_map, if◌then◌else◌}
use Rattle.std.specs.List.{slice_get}
use Rattle.std.specs.declared.cmp.Ordering.{Ordering}
use Rattle.std.specs.declared.cmp.Ordering.TheVariants.{Less, Equal, Greater}
use Rattle.std.specs.Ordering.{is_eq}
use Rattle.tla_values.specs.Order.{value_cmp, same_value}
use Rattle.tla_values.proofs.Laws.{equal_exactly}
use Rattle.tla_values.specs.declared.value.Value.{Value}
use Rattle.tla_meaning.specs.declared.place.Place.{Place}
use Rattle.tla_meaning.specs.declared.job.State.{State}
use Rattle.tla_meaning.specs.declared.outcome.Fault.{Fault}
use Rattle.tla_meaning.specs.declared.outcome.Fault.TheVariants.{NoFault, IsWrong, IsBig}
use Rattle.tla_meaning.specs.declared.outcome.Outcome.{Outcome}
use Rattle.tla_meaning.specs.declared.outcome.Outcome.TheVariants.{Val, Wrong, Big}
use Rattle.tla_meaning.specs.Outcomes.{fault_of, joined, strict, values}
use Rattle.tla_meaning.specs.Shapes.{all_set_items}
use Rattle.tla_meaning.specs.declared.forms.SetForm.{SetForm}
use Rattle.tla_meaning.specs.Forms.{Formed, Made, Broken, form_fault, is_set_form, belongs}
use Rattle.tla_meaning.specs.Operators.{yes_no, table}
use Rattle.tla_meaning.specs.Numbers.{Width}
use Rattle.kernel_trees.specs.Paths.{Marks}
use Rattle.tla_meaning.specs.Scopes.{Scope, value_found}
use Rattle.tla_meaning.specs.Meaning.{in_form}
use Rattle.tla_meaning.proofs.Laws.{none≢some}
use Rattle.tla_meaning.proofs.Views.{false≢true, and_left}
use Rattle.kernel_trees.specs.declared.kernel.Ker.{Ker, out-Ker}
use Rattle.kernel_trees.specs.declared.kernel.KerOp.{KerOp}
use Rattle.kernel_trees.specs.declared.path.PathStep.{PathStep}
use Rattle.kernel_trees.specs.declared.path.AssignedStep.{AssignedStep}
use Rattle.kernel_trees.specs.Trees.{names_of, ker_val, ker_form}
use Rattle.kernel_trees.specs.Picks.{IsFault, Picked, set_outcomes, picking}
use Rattle.kernel_trees.specs.Assignments.{PathHolds, PathMeets, is_in, target, assignment_of, assignment, marked, Has, HasMember, AssignedHolds, AssignedMeets, ReadsNext, is_truth, IsTruth, IsSetForm, HasSets, HasKinds, is_there}
use Rattle.kernel_trees.proofs.LawOfPaths.{val_of}
use Rattle.kernel_trees.proofs.Nodes.{sense_at}
use Rattle.kernel_trees.proofs.Picking.{truth_opens, wrong≢val, big≢val, differ, val_same}
use Rattle.tla_meaning.specs.declared.op.Op.TheVariants as op
use Rattle.tla_values.specs.declared.value.Value.TheVariants as value
use Rattle.kernel_trees.specs.declared.kernel.KerOp.TheVariants as ker
use Rattle.kernel_trees.specs.declared.path.PathStep.TheVariants as path
use Rattle.kernel_trees.specs.declared.path.AssignedStep.TheVariants as mark

abbrev Picks : Type 0
Picks = List (List Value)

some_same : {X : Type 0} {x y : X} → Some x ≡ Some y → x ≡ y
some_same e = cc

not_none : {f : Fault} → NoFault ≡ f → IsFault f → ⊥
not_none e n = subst IsFault (sym e) n

truths_same : (a b : Bool) → yes_no a ≡ yes_no b → a ≡ b
truths_same a b e = differ a b (sym (truth_opens _ a refl) ∙ truth_opens _ b e)

-- ---- what an assignment is

data Assigns (m : Marks) : KerOp → List Ker → ℕ × AssignedStep → Type 0 where
  by_equal : (x e : Ker) (i : ℕ) (primed : Bool) → (out-Ker x).op ≡ ker.Name i primed → m i primed ≡ true → Assigns m ker.Equal (x ∷ e ∷ []) (i, mark.Equals i e)
  by_member : (x e : Ker) (i : ℕ) (primed : Bool) → (out-Ker x).op ≡ ker.Name i primed → m i primed ≡ true → Assigns m ker.Member (x ∷ e ∷ []) (i, mark.Among i e)

abbrev Named : Marks → KerOp → ℕ → Type 0
Named m o i = (primed : Bool) × (o ≡ ker.Name i primed) × (m i primed ≡ true)

abbrev named_if : Marks → ℕ → Bool → Option ℕ
named_if m i b = if b then Some i else None

named_at : (m : Marks) (i j : ℕ) (primed : Bool) (b : Bool) → (IsTrue b → m i primed ≡ true) → (if b then Some i else None) ≡ Some j → Named m (ker.Name i primed) j
named_at m i j primed true h e =
    let same : i ≡ j = some_same e in
    (primed, ap (λ n. ker.Name n primed) same, subst (λ n. m n primed ≡ true) same (h refl))
named_at m i j primed false h e = absurd (none≢some e)

named : (m : Marks) (before : List ℕ) (o : KerOp) (i : ℕ) → target m before o ≡ Some i → Named m o i
named m before (ker.Name j primed) i e = named_at m j i primed (m j primed && not (is_in before j)) (λ h. and_left (m j primed) (not (is_in before j)) h) e
named m before o i e = absurd (none≢some e)

assigns_equal : (m : Marks) (before : List ℕ) (x e : Ker) (a : ℕ × AssignedStep) (r : Option ℕ) → target m before (out-Ker x).op ≡ r →
    option_map (λ i. (i, mark.Equals i e)) r ≡ Some a → Assigns m ker.Equal (x ∷ e ∷ []) a
assigns_equal m before x e a None q h = absurd (none≢some h)
assigns_equal m before x e a (Some i) q h =
    let n : Named m (out-Ker x).op i = named m before (out-Ker x).op i q in
    subst (Assigns m ker.Equal (x ∷ e ∷ [])) (some_same h) (by_equal x e i n.0 n.1 n.2)

assigns_member : (m : Marks) (before : List ℕ) (x e : Ker) (a : ℕ × AssignedStep) (r : Option ℕ) → target m before (out-Ker x).op ≡ r →
    option_map (λ i. (i, mark.Among i e)) r ≡ Some a → Assigns m ker.Member (x ∷ e ∷ []) a
assigns_member m before x e a None q h = absurd (none≢some h)
assigns_member m before x e a (Some i) q h =
    let n : Named m (out-Ker x).op i = named m before (out-Ker x).op i q in
    subst (Assigns m ker.Member (x ∷ e ∷ [])) (some_same h) (by_member x e i n.0 n.1 n.2)

assigns : (m : Marks) (before : List ℕ) (o : KerOp) (ks : List Ker) (a : ℕ × AssignedStep) → assignment_of m before o ks ≡ Some a → Assigns m o ks a
assigns m before ker.Equal (x ∷ e ∷ []) a h = assigns_equal m before x e a (target m before (out-Ker x).op) refl h
assigns m before ker.Member (x ∷ e ∷ []) a h = assigns_member m before x e a (target m before (out-Ker x).op) refl h
assigns m before o ks a h = absurd (none≢some h)

-- ---- an equation of a name

name_value : (w : Width) (m : Marks) (s t : State) → ReadsNext m s t → (x : Ker) (i : ℕ) (primed : Bool) (sc : Scope) →
    (out-Ker x).op ≡ ker.Name i primed → m i primed ≡ true → (v : Value) × ((ker_val w x sc s t ≡ Val v) × Has t i v)
name_value w m s t r x i primed sc q h =
    let u = r i primed h in
    (u.0, (val_of w x sc s t ∙ by_op q u.1.0, u.1.1))
  where
    by_op : {o : KerOp} {v : Value} → o ≡ ker.Name i primed → slice_get (if primed then t else s).vals i ≡ Some v →
        (sense_at w (out-Ker x).place o (length (names_of (out-Ker x).binds)) (out-Ker x).binds (out-Ker x).args sc).value s t ≡ Val v
    by_op {o = o} {v = v} q g =
        ap (λ (o : KerOp). (sense_at w (out-Ker x).place o (length (names_of (out-Ker x).binds)) (out-Ker x).binds (out-Ker x).args sc).value s t) q
        ∙ ap (value_found (out-Ker x).place) g

equal_values : (u v : Value) → same_value u v ≡ true → u ≡ v
equal_values u v h = (equal_exactly u v (value_cmp u v) refl).0 (by (value_cmp u v) h)
  where
    by : (o : Ordering) → is_eq o ≡ true → o ≡ Equal
    by Less h = absurd (false≢true h)
    by Equal h = refl
    by Greater h = absurd (false≢true h)

values_equal : (u v : Value) → u ≡ v → same_value u v ≡ true
values_equal u v e = ap is_eq ((equal_exactly u v (value_cmp u v) refl).1 e)

equal_holds : (w : Width) (p : Place) (t : State) (i : ℕ) (u : Value) → Has t i u → (o : Outcome) →
    (strict (Val u ∷ o ∷ []) (table w p op.Eq) ≡ yes_no true) ↔ ((v : Value) × ((o ≡ Val v) × Has t i v))
equal_holds w p t i u h (Val v) = (
  λ e. (v, (refl, h ∙ ap Some (equal_values u v (truths_same (same_value u v) true e)))),
  λ x. ap yes_no (values_equal u v (some_same (sym h ∙ x.1.1) ∙ sym (val_same x.1.0))),
)
equal_holds w p t i u h (Wrong q) = (λ e. absurd (wrong≢val e), λ x. absurd (wrong≢val x.1.0))
equal_holds w p t i u h (Big q) = (λ e. absurd (big≢val e), λ x. absurd (big≢val x.1.0))

equal_fault : (w : Width) (p : Place) (u : Value) (o : Outcome) → fault_of (strict (Val u ∷ o ∷ []) (table w p op.Eq)) ≡ fault_of o
equal_fault w p u (Val v) = refl
equal_fault w p u (Wrong q) = refl
equal_fault w p u (Big q) = refl

-- ---- a membership of a name

abbrev in_set : Place → Value → SetForm → Bool → Outcome
in_set p u f b = if b then yes_no (belongs f u) else Wrong p

made_same : {f g : SetForm} → Made f ≡ Made g → f ≡ g
made_same e = cc

made≢broken : {f : SetForm} {g : Fault} → Broken g ≡ Made f → ⊥
made≢broken e = cc

set_holds : (p : Place) (t : State) (i : ℕ) (u : Value) → Has t i u → (f : SetForm) (b : Bool) → is_set_form f ≡ b →
    (in_set p u f b ≡ yes_no true) ↔ HasMember t i (Made f)
set_holds p t i u h f true q = (
  λ e. record { form = f; made = refl; set = q; value = u; has = h; belongs = truths_same (belongs f u) true e },
  λ x. ap yes_no (subst (λ (g : SetForm). belongs g u ≡ true) (sym (made_same x.made)) (subst (λ (v : Value). belongs x.form v ≡ true) (some_same (sym x.has ∙ h)) x.belongs)),
)
set_holds p t i u h f false q = (
  λ e. absurd (wrong≢val e),
  λ x. absurd (false≢true (sym q ∙ ap is_set_form (made_same x.made) ∙ x.set)),
)

abbrev fault_out : Place → Fault → Outcome
fault_out p g = elim g [ NoFault ↦ Wrong p | IsWrong q ↦ Wrong q | IsBig q ↦ Big q ]

broken_holds : (p : Place) (g : Fault) → fault_out p g ≡ yes_no true → ⊥
broken_holds p NoFault e = wrong≢val e
broken_holds p (IsWrong q) e = wrong≢val e
broken_holds p (IsBig q) e = big≢val e

member_holds : (p : Place) (t : State) (i : ℕ) (u : Value) → Has t i u → (os : List Outcome) (d o : Formed) →
    (in_form p (λ v f. yes_no (belongs f v)) (Val u ∷ os) (d ∷ o ∷ []) ≡ yes_no true) ↔ HasMember t i o
member_holds p t i u h os d (Made f) = set_holds p t i u h f (is_set_form f) refl
member_holds p t i u h os d (Broken g) = (λ e. absurd (broken_holds p g e), λ x. absurd (made≢broken x.made))

in_set_fault : (p : Place) (u : Value) (f : SetForm) (b : Bool) → IsTrue b → fault_of (in_set p u f b) ≡ NoFault
in_set_fault p u f true h = refl
in_set_fault p u f false h = absurd (false≢true h)

member_fault : (p : Place) (u : Value) (os : List Outcome) (d o : Formed) → IsSetForm o →
    fault_of (in_form p (λ v f. yes_no (belongs f v)) (Val u ∷ os) (d ∷ o ∷ [])) ≡ form_fault o
member_fault p u os d (Made f) h = in_set_fault p u f (is_set_form f) h
member_fault p u os d (Broken NoFault) h = absurd h
member_fault p u os d (Broken (IsWrong q)) h = refl
member_fault p u os d (Broken (IsBig q)) h = refl

-- a fault of the form is met in any case
form_met : (p : Place) (u : Value) (os : List Outcome) (d o : Formed) (f : Fault) → IsFault f → form_fault o ≡ f →
    fault_of (in_form p (λ v f. yes_no (belongs f v)) (Val u ∷ os) (d ∷ o ∷ [])) ≡ f
form_met p u os d (Made g) f n e = absurd (not_none e n)
form_met p u os d (Broken NoFault) f n e = absurd (not_none e n)
form_met p u os d (Broken (IsWrong q)) f n e = e
form_met p u os d (Broken (IsBig q)) f n e = e

bool_truth : (b : Bool) → IsTruth (yes_no b)
bool_truth b = ap is_truth (value.outs-Bool b)

equal_truth : (w : Width) (p : Place) (u : Value) (o : Outcome) → IsTruth (strict (Val u ∷ o ∷ []) (table w p op.Eq))
equal_truth w p u (Val v) = bool_truth (same_value u v)
equal_truth w p u (Wrong q) = tt
equal_truth w p u (Big q) = tt

in_set_truth : (p : Place) (u : Value) (f : SetForm) (b : Bool) → IsTruth (in_set p u f b)
in_set_truth p u f true = bool_truth (belongs f u)
in_set_truth p u f false = tt

member_truth : (p : Place) (u : Value) (os : List Outcome) (d o : Formed) → IsTruth (in_form p (λ v f. yes_no (belongs f v)) (Val u ∷ os) (d ∷ o ∷ []))
member_truth p u os d (Made f) = in_set_truth p u f (is_set_form f)
member_truth p u os d (Broken NoFault) = tt
member_truth p u os d (Broken (IsWrong q)) = tt
member_truth p u os d (Broken (IsBig q)) = tt

-- ---- a marked step

module _ (w : Width) (m : Marks) (s t : State) (r : ReadsNext m s t) where
  abbrev node_val : Ker → KerOp → List Ker → Scope → Outcome
  node_val k o ks sc = (sense_at w (out-Ker k).place o (length (names_of (out-Ker k).binds)) (out-Ker k).binds ks sc).value s t

  step_holds : (k : Ker) (sc : Scope) (zs : List AssignedStep) (vss : Picks) (H : Type 0) → (H ↔ AssignedHolds w s t zs vss sc) →
      {o : KerOp} {ks : List Ker} {a : ℕ × AssignedStep} → Assigns m o ks a →
      ((node_val k o ks sc ≡ yes_no true) × H) ↔ AssignedHolds w s t (a.1 ∷ zs) vss sc
  step_holds k sc zs vss H g (by_equal x e i primed q h) =
      let u = name_value w m s t r x i primed sc q h in
      let first : strict (ker_val w x sc s t ∷ ker_val w e sc s t ∷ []) (table w (out-Ker k).place op.Eq) ≡ strict (Val u.0 ∷ ker_val w e sc s t ∷ []) (table w (out-Ker k).place op.Eq) =
      ap (λ (o : Outcome). strict (o ∷ ker_val w e sc s t ∷ []) (table w (out-Ker k).place op.Eq)) u.1.0 in
      let l = equal_holds w (out-Ker k).place t i u.0 u.1.1 (ker_val w e sc s t) in
      (λ y. (l.0 (sym first ∙ y.0), g.0 y.1), λ y. (first ∙ l.1 y.0, g.1 y.1))
  step_holds k sc zs vss H g (by_member x e i primed q h) =
      let u = name_value w m s t r x i primed sc q h in
      let out : Outcome → Outcome = λ o.
      in_form (out-Ker k).place (λ v f. yes_no (belongs f v)) (o ∷ ker_val w e sc s t ∷ []) (ker_form w x sc s t ∷ ker_form w e sc s t ∷ []) in
      let first : out (ker_val w x sc s t) ≡ out (Val u.0) = ap out u.1.0 in
      let l = member_holds (out-Ker k).place t i u.0 u.1.1 (ker_val w e sc s t ∷ []) (ker_form w x sc s t) (ker_form w e sc s t) in
      (λ y. (l.0 (sym first ∙ y.0), g.0 y.1), λ y. (first ∙ l.1 y.0, g.1 y.1))

  step_meets : (k : Ker) (sc : Scope) (zs : List AssignedStep) (vss : Picks) (f : Fault) (M : Type 0) → IsFault f →
      (M → AssignedMeets w s t zs vss sc f) → {o : KerOp} {ks : List Ker} {a : ℕ × AssignedStep} → Assigns m o ks a →
      HasSets w s t (a.1 ∷ zs) sc → (fault_of (node_val k o ks sc) ≡ f) ⊎ ((node_val k o ks sc ≡ yes_no true) × M) → AssignedMeets w s t (a.1 ∷ zs) vss sc f
  step_meets k sc zs vss f M n g (by_equal x e i primed q h) c y =
      let u = name_value w m s t r x i primed sc q h in
      let out : Outcome → Outcome = λ o. strict (o ∷ ker_val w e sc s t ∷ []) (table w (out-Ker k).place op.Eq) in
      by u.0 u.1.1 (ap out u.1.0) y
    where
      by : (u : Value) → Has t i u →
          strict (ker_val w x sc s t ∷ ker_val w e sc s t ∷ []) (table w (out-Ker k).place op.Eq) ≡ strict (Val u ∷ ker_val w e sc s t ∷ []) (table w (out-Ker k).place op.Eq) →
          (fault_of (node_val k ker.Equal (x ∷ e ∷ []) sc) ≡ f) ⊎ ((node_val k ker.Equal (x ∷ e ∷ []) sc ≡ yes_no true) × M) →
          AssignedMeets w s t (mark.Equals i e ∷ zs) vss sc f
      by u has first (inl y) = inl (sym (equal_fault w (out-Ker k).place u (ker_val w e sc s t)) ∙ sym (ap fault_of first) ∙ y)
      by u has first (inr y) = inr ((equal_holds w (out-Ker k).place t i u has (ker_val w e sc s t)).0 (sym first ∙ y.0), g y.1)
  step_meets k sc zs vss f M n g (by_member x e i primed q h) c y =
      let u = name_value w m s t r x i primed sc q h in
      by u.0 u.1.1 (ap (λ o. in_form (out-Ker k).place (λ v f. yes_no (belongs f v)) (o ∷ ker_val w e sc s t ∷ []) (ker_form w x sc s t ∷ ker_form w e sc s t ∷ [])) u.1.0) y
    where
      by : (u : Value) → Has t i u →
          node_val k ker.Member (x ∷ e ∷ []) sc
          ≡ in_form (out-Ker k).place (λ v f. yes_no (belongs f v)) (Val u ∷ ker_val w e sc s t ∷ []) (ker_form w x sc s t ∷ ker_form w e sc s t ∷ []) →
          (fault_of (node_val k ker.Member (x ∷ e ∷ []) sc) ≡ f) ⊎ ((node_val k ker.Member (x ∷ e ∷ []) sc ≡ yes_no true) × M) →
          AssignedMeets w s t (mark.Among i e ∷ zs) vss sc f
      by u has first (inl y) =
          inl (sym (member_fault (out-Ker k).place u (ker_val w e sc s t ∷ []) (ker_form w x sc s t) (ker_form w e sc s t) c.0) ∙ sym (ap fault_of first) ∙ y)
      by u has first (inr y) =
          inr ((member_holds (out-Ker k).place t i u has (ker_val w e sc s t ∷ []) (ker_form w x sc s t) (ker_form w e sc s t)).0 (sym first ∙ y.0), g y.1)

  step_met : (k : Ker) (sc : Scope) (zs : List AssignedStep) (vss : Picks) (f : Fault) (M : Type 0) → IsFault f →
      (AssignedMeets w s t zs vss sc f → M) → {o : KerOp} {ks : List Ker} {a : ℕ × AssignedStep} → Assigns m o ks a →
      AssignedMeets w s t (a.1 ∷ zs) vss sc f → (fault_of (node_val k o ks sc) ≡ f) ⊎ ((node_val k o ks sc ≡ yes_no true) × M)
  step_met k sc zs vss f M n g (by_equal x e i primed q h) y =
      let u = name_value w m s t r x i primed sc q h in
      by u.0 u.1.1 (ap (λ o. strict (o ∷ ker_val w e sc s t ∷ []) (table w (out-Ker k).place op.Eq)) u.1.0) y
    where
      by : (u : Value) → Has t i u →
          node_val k ker.Equal (x ∷ e ∷ []) sc ≡ strict (Val u ∷ ker_val w e sc s t ∷ []) (table w (out-Ker k).place op.Eq) →
          AssignedMeets w s t (mark.Equals i e ∷ zs) vss sc f →
          (fault_of (node_val k ker.Equal (x ∷ e ∷ []) sc) ≡ f) ⊎ ((node_val k ker.Equal (x ∷ e ∷ []) sc ≡ yes_no true) × M)
      by u has first (inl y) = inl (ap fault_of first ∙ equal_fault w (out-Ker k).place u (ker_val w e sc s t) ∙ y)
      by u has first (inr y) = inr (first ∙ (equal_holds w (out-Ker k).place t i u has (ker_val w e sc s t)).1 y.0, g y.1)
  step_met k sc zs vss f M n g (by_member x e i primed q h) y =
      let u = name_value w m s t r x i primed sc q h in
      by u.0 u.1.1 (ap (λ o. in_form (out-Ker k).place (λ v f. yes_no (belongs f v)) (o ∷ ker_val w e sc s t ∷ []) (ker_form w x sc s t ∷ ker_form w e sc s t ∷ [])) u.1.0) y
    where
      by : (u : Value) → Has t i u →
          node_val k ker.Member (x ∷ e ∷ []) sc
          ≡ in_form (out-Ker k).place (λ v f. yes_no (belongs f v)) (Val u ∷ ker_val w e sc s t ∷ []) (ker_form w x sc s t ∷ ker_form w e sc s t ∷ []) →
          AssignedMeets w s t (mark.Among i e ∷ zs) vss sc f →
          (fault_of (node_val k ker.Member (x ∷ e ∷ []) sc) ≡ f) ⊎ ((node_val k ker.Member (x ∷ e ∷ []) sc ≡ yes_no true) × M)
      by u has first (inl y) = inl (ap fault_of first ∙ form_met (out-Ker k).place u (ker_val w e sc s t ∷ []) (ker_form w x sc s t) (ker_form w e sc s t) f n y)
      by u has first (inr y) =
          inr (first ∙ (member_holds (out-Ker k).place t i u has (ker_val w e sc s t ∷ []) (ker_form w x sc s t) (ker_form w e sc s t)).1 y.0, g y.1)

  -- an assignment gives a truth value or has a fault
  step_truth : (k : Ker) (sc : Scope) {o : KerOp} {ks : List Ker} {a : ℕ × AssignedStep} → Assigns m o ks a → IsTruth (node_val k o ks sc)
  step_truth k sc (by_equal x e i primed q h) =
      let u = name_value w m s t r x i primed sc q h in
      subst IsTruth (sym (ap (λ o. strict (o ∷ ker_val w e sc s t ∷ []) (table w (out-Ker k).place op.Eq)) u.1.0)) (equal_truth w (out-Ker k).place u.0 (ker_val w e sc s t))
  step_truth k sc (by_member x e i primed q h) =
      let u = name_value w m s t r x i primed sc q h in
      subst IsTruth (sym (ap (λ o. in_form (out-Ker k).place (λ v f. yes_no (belongs f v)) (o ∷ ker_val w e sc s t ∷ []) (ker_form w x sc s t ∷ ker_form w e sc s t ∷ [])) u.1.0))
      (member_truth (out-Ker k).place u.0 (ker_val w e sc s t ∷ []) (ker_form w x sc s t) (ker_form w e sc s t))

  -- ---- the path

  abbrev with_step : List ℕ → Ker → List PathStep → Option (ℕ × AssignedStep) → List AssignedStep
  with_step before k ys o = elim o [
    | None ↦ mark.Guard k true ∷ marked m before ys
    | Some a ↦ a.1 ∷ marked m (a.0 ∷ before) ys
  ]

  pub marked_holds : (before : List ℕ) (ys : List PathStep) (vss : Picks) (sc : Scope) →
      PathHolds w s t ys vss sc ↔ AssignedHolds w s t (marked m before ys) vss sc
  marked_holds before [] vss sc = (λ h. h, λ h. h)
  marked_holds before (path.Guard k false ∷ ys) vss sc =
      let g = marked_holds before ys vss sc in (λ h. (h.0, g.0 h.1), λ h. (h.0, g.1 h.1))
  marked_holds before (path.Pick ps ∷ ys) [] sc = (λ h. h, λ h. h)
  marked_holds before (path.Pick ps ∷ ys) (vs ∷ vss) sc =
      let g = marked_holds before ys vss (picking ps vs sc) in (λ h. (h.0, g.0 h.1), λ h. (h.0, g.1 h.1))
  marked_holds before (path.Guard k true ∷ ys) vss sc =
      guard_holds (λ b. marked_holds b ys vss sc) (assignment m before k) refl
    where
      guard_holds : ((b : List ℕ) → PathHolds w s t ys vss sc ↔ AssignedHolds w s t (marked m b ys) vss sc) →
          (o : Option (ℕ × AssignedStep)) → assignment m before k ≡ o →
          PathHolds w s t (path.Guard k true ∷ ys) vss sc ↔ AssignedHolds w s t (with_step before k ys o) vss sc
      guard_holds g None q = (λ h. (h.0, (g before).0 h.1), λ h. (h.0, (g before).1 h.1))
      guard_holds g (Some a) q =
          let l = step_holds k sc (marked m (a.0 ∷ before) ys) vss (PathHolds w s t ys vss sc) (g (a.0 ∷ before))
          (assigns m before (out-Ker k).op (out-Ker k).args a q) in
          (λ h. l.0 (sym (val_of w k sc s t) ∙ h.0, h.1), λ h. let x = l.1 h in (val_of w k sc s t ∙ x.0, x.1))

  pub marked_meets : (before : List ℕ) (ys : List PathStep) (vss : Picks) (sc : Scope) (f : Fault) → IsFault f → HasSets w s t (marked m before ys) sc →
      PathMeets w s t ys vss sc f → AssignedMeets w s t (marked m before ys) vss sc f
  marked_meets before [] vss sc f n c h = h
  marked_meets before (path.Guard k false ∷ ys) vss sc f n c (inl h) = inl h
  marked_meets before (path.Guard k false ∷ ys) vss sc f n c (inr h) = inr (h.0, marked_meets before ys vss sc f n (c h.0) h.1)
  marked_meets before (path.Pick ps ∷ ys) vss sc f n c (inl h) = inl h
  marked_meets before (path.Pick ps ∷ ys) [] sc f n c (inr h) = absurd h
  marked_meets before (path.Pick ps ∷ ys) (vs ∷ vss) sc f n c (inr h) =
      inr (h.0, marked_meets before ys vss (picking ps vs sc) f n (c vs h.0) h.1)
  marked_meets before (path.Guard k true ∷ ys) vss sc f n c h =
      guard_meets (λ b d. marked_meets b ys vss sc f n d) (assignment m before k) refl c h
    where
      guard_meets : ((b : List ℕ) → HasSets w s t (marked m b ys) sc → PathMeets w s t ys vss sc f → AssignedMeets w s t (marked m b ys) vss sc f) →
          (o : Option (ℕ × AssignedStep)) → assignment m before k ≡ o → HasSets w s t (with_step before k ys o) sc →
          PathMeets w s t (path.Guard k true ∷ ys) vss sc f → AssignedMeets w s t (with_step before k ys o) vss sc f
      guard_meets g None q c (inl h) = inl h
      guard_meets g None q c (inr h) = inr (h.0, g before (c h.0) h.1)
      guard_meets g (Some a) q c h = by_case (by_value h)
        where
          way : Assigns m (out-Ker k).op (out-Ker k).args a
          way = assigns m before (out-Ker k).op (out-Ker k).args a q

          rest : (zs : List AssignedStep) {o : KerOp} {ks : List Ker} {a : ℕ × AssignedStep} → Assigns m o ks a → AssignedHolds w s t (a.1 ∷ []) [] sc →
              HasSets w s t (a.1 ∷ zs) sc → HasSets w s t zs sc
          rest zs (by_equal x e i primed q h) l c = c l.0
          rest zs (by_member x e i primed q h) l c = c.1 l.0

          by_case : (fault_of (node_val k (out-Ker k).op (out-Ker k).args sc) ≡ f) ⊎ ((node_val k (out-Ker k).op (out-Ker k).args sc ≡ yes_no true) × PathMeets w s t ys vss sc f) →
              AssignedMeets w s t (a.1 ∷ marked m (a.0 ∷ before) ys) vss sc f
          by_case (inl e) = step_meets k sc (marked m (a.0 ∷ before) ys) vss f ⊥ n (λ z. absurd z) way c (inl e)
          by_case (inr x) =
              let l = (step_holds k sc [] [] (Unit {0}) (λ z. refl, λ z. tt) way).0 (x.0, tt) in
              step_meets k sc (marked m (a.0 ∷ before) ys) vss f (PathMeets w s t ys vss sc f) n
              (g (a.0 ∷ before) (rest (marked m (a.0 ∷ before) ys) way l c)) way c (inr x)

          by_value : (fault_of (ker_val w k sc s t) ≡ f) ⊎ ((ker_val w k sc s t ≡ yes_no true) × PathMeets w s t ys vss sc f) →
              (fault_of (node_val k (out-Ker k).op (out-Ker k).args sc) ≡ f) ⊎ ((node_val k (out-Ker k).op (out-Ker k).args sc ≡ yes_no true) × PathMeets w s t ys vss sc f)
          by_value (inl e) = inl (sym (ap fault_of (val_of w k sc s t)) ∙ e)
          by_value (inr x) = inr (sym (val_of w k sc s t) ∙ x.0, x.1)

  pub marked_met : (before : List ℕ) (ys : List PathStep) (vss : Picks) (sc : Scope) (f : Fault) → IsFault f →
      AssignedMeets w s t (marked m before ys) vss sc f → PathMeets w s t ys vss sc f
  marked_met before [] vss sc f n h = h
  marked_met before (path.Guard k false ∷ ys) vss sc f n (inl h) = inl h
  marked_met before (path.Guard k false ∷ ys) vss sc f n (inr h) = inr (h.0, marked_met before ys vss sc f n h.1)
  marked_met before (path.Pick ps ∷ ys) vss sc f n (inl h) = inl h
  marked_met before (path.Pick ps ∷ ys) [] sc f n (inr h) = absurd h
  marked_met before (path.Pick ps ∷ ys) (vs ∷ vss) sc f n (inr h) = inr (h.0, marked_met before ys vss (picking ps vs sc) f n h.1)
  marked_met before (path.Guard k true ∷ ys) vss sc f n h = guard_met (λ b. marked_met b ys vss sc f n) (assignment m before k) refl h
    where
      guard_met : ((b : List ℕ) → AssignedMeets w s t (marked m b ys) vss sc f → PathMeets w s t ys vss sc f) →
          (o : Option (ℕ × AssignedStep)) → assignment m before k ≡ o →
          AssignedMeets w s t (with_step before k ys o) vss sc f → PathMeets w s t (path.Guard k true ∷ ys) vss sc f
      guard_met g None q (inl h) = inl h
      guard_met g None q (inr h) = inr (h.0, g before h.1)
      guard_met g (Some a) q h =
          by_value (step_met k sc (marked m (a.0 ∷ before) ys) vss f (PathMeets w s t ys vss sc f) n (g (a.0 ∷ before))
          (assigns m before (out-Ker k).op (out-Ker k).args a q) h)
        where
          by_value : (fault_of (node_val k (out-Ker k).op (out-Ker k).args sc) ≡ f) ⊎ ((node_val k (out-Ker k).op (out-Ker k).args sc ≡ yes_no true) × PathMeets w s t ys vss sc f) →
              (fault_of (ker_val w k sc s t) ≡ f) ⊎ ((ker_val w k sc s t ≡ yes_no true) × PathMeets w s t ys vss sc f)
          by_value (inl e) = inl (ap fault_of (val_of w k sc s t) ∙ e)
          by_value (inr x) = inr (val_of w k sc s t ∙ x.0, x.1)

  -- the marked path has kinds: at a guard a truth value, at a pick sets, at a membership a set
  abbrev pub Kinds : List AssignedStep → Scope → Type 0
  Kinds [] sc = Unit {0}
  Kinds (mark.Guard k b ∷ zs) sc = IsTruth (ker_val w k sc s t) × (ker_val w k sc s t ≡ yes_no b → Kinds zs sc)
  Kinds (mark.Pick ps ∷ zs) sc =
      (joined (set_outcomes w s t ps sc) ≡ NoFault → IsTrue (is_there (all_set_items (values (set_outcomes w s t ps sc)))))
      × ((vs : List Value) → Picked (set_outcomes w s t ps sc) vs → Kinds zs (picking ps vs sc))
  Kinds (mark.Equals i e ∷ zs) sc = (v : Value) × ((ker_val w e sc s t ≡ Val v) × Has t i v) → Kinds zs sc
  Kinds (mark.Among i e ∷ zs) sc = IsSetForm (ker_form w e sc s t) × (HasMember t i (ker_form w e sc s t) → Kinds zs sc)

  pub kinds_sets : (zs : List AssignedStep) (sc : Scope) → Kinds zs sc → HasSets w s t zs sc
  kinds_sets [] sc h = tt
  kinds_sets (mark.Guard k b ∷ zs) sc h = λ e. kinds_sets zs sc (h.1 e)
  kinds_sets (mark.Pick ps ∷ zs) sc h = λ vs p. kinds_sets zs (picking ps vs sc) (h.1 vs p)
  kinds_sets (mark.Equals i e ∷ zs) sc h = λ x. kinds_sets zs sc (h x)
  kinds_sets (mark.Among i e ∷ zs) sc h = (h.0, λ x. kinds_sets zs sc (h.1 x))

  pub marked_kinds : (before : List ℕ) (ys : List PathStep) (sc : Scope) → Kinds (marked m before ys) sc → HasKinds w s t ys sc
  marked_kinds before [] sc h = tt
  marked_kinds before (path.Guard k false ∷ ys) sc h = (h.0, λ e. marked_kinds before ys sc (h.1 e))
  marked_kinds before (path.Pick ps ∷ ys) sc h = (h.0, λ vs p. marked_kinds before ys (picking ps vs sc) (h.1 vs p))
  marked_kinds before (path.Guard k true ∷ ys) sc h = guard_kinds (λ b. marked_kinds b ys sc) (assignment m before k) refl h
    where
      guard_kinds : ((b : List ℕ) → Kinds (marked m b ys) sc → HasKinds w s t ys sc) → (o : Option (ℕ × AssignedStep)) → assignment m before k ≡ o →
          Kinds (with_step before k ys o) sc → HasKinds w s t (path.Guard k true ∷ ys) sc
      guard_kinds g None q c = (c.0, λ e. g before (c.1 e))
      guard_kinds g (Some a) q c = (
        subst IsTruth (sym (val_of w k sc s t)) (step_truth k sc way),
        λ e. g (a.0 ∷ before) (rest (marked m (a.0 ∷ before) ys) way ((step_holds k sc [] [] (Unit {0}) (λ z. refl, λ z. tt) way).0 (sym (val_of w k sc s t) ∙ e, tt)) c),
      )
        where
          way : Assigns m (out-Ker k).op (out-Ker k).args a
          way = assigns m before (out-Ker k).op (out-Ker k).args a q

          rest : (zs : List AssignedStep) {o : KerOp} {ks : List Ker} {a : ℕ × AssignedStep} → Assigns m o ks a → AssignedHolds w s t (a.1 ∷ []) [] sc → Kinds (a.1 ∷ zs) sc → Kinds zs sc
          rest zs (by_equal x e i primed q h) l c = c l.0
          rest zs (by_member x e i primed q h) l c = c.1 l.0
