-- A sound path is sound with its assignments, if no form from which it assigns has infinite parts.
use Rattle.std.proofs.Common.{◌≡◌, ℕ, Bool, true, false, ◌&&◌, IsTrue, List, [], ◌∷◌, ◌++◌, zip, refl, sym, ◌∙◌, ap, subst, Option, Some, None}
use Rattle.std.specs.Prelude.{slice_get}
use Rattle.tla_meaning.proofs.Views.{and_left, and_right, and_both}
use Rattle.kernel_trees.specs.declared.kernel.Ker.{Ker, out-Ker}
use Rattle.kernel_trees.specs.declared.kernel.KerOp.{KerOp}
use Rattle.kernel_trees.specs.declared.kernel.KerOp.TheVariants as ker
use Rattle.kernel_trees.specs.declared.path.AssignedStep.{AssignedStep}
use Rattle.kernel_trees.specs.declared.path.PathStep.{PathStep}
use Rattle.kernel_trees.specs.declared.path.PathStep.TheVariants as path
use Rattle.kernel_trees.specs.Assignments.{assignment, marked, step_by}
use Rattle.kernel_trees.specs.Paths.{Marks, numbers}
use Rattle.kernel_trees.specs.Sound.{Context, infinite_places, is_finite, is_nil, kind_at, passes, picked_kinds, sound, sound_assigned, sound_guard, sound_path, sound_pick}
use Rattle.kernel_trees.specs.TypeKinds.{Kind, Set, Truth, is_kind}
use Rattle.kernel_trees.proofs.SoundRows.{BinderRow, Row, row_equal, row_member}
use Rattle.kernel_trees.proofs.SoundTrees.{Child, Children, Node, node_binder, node_name, node_plain, sound_step}
use Rattle.kernel_trees.proofs.SoundWider.{and_mono, passes_mono}
use Rattle.kernel_trees.proofs.Trees.{Each}
use Rattle.kernel_reduction.proofs.SoundMade.{same_self}
use Rattle.assignment_finder.specs.Finding.{AreFine, endless}
use Rattle.accepted_systems.proofs.Assigning.{IsAssignment, by_form, by_value, is_assignment}

some_same : {X : Type 0} {x y : X} → Some x ≡ Some y → x ≡ y
some_same e = cc

-- ---- no form has infinite parts

abbrev pub IsFinite : AssignedStep → Type 0
IsFinite z = endless z ≡ []

pub fine_finite : (m : Marks) (before : List ℕ) (zs : List AssignedStep) → AreFine m before zs → Each IsFinite zs
fine_finite m before [] h = tt
fine_finite m before (z ∷ zs) h = (h.0.1, fine_finite m _ zs h.1)

kind_found : (a : Kind) (o : Option Kind) → o ≡ Some a → is_kind a o ≡ true
kind_found a o e = ap (is_kind a) e ∙ same_self a

module _ (names : List Kind) (c : Context) where
  -- ---- a name, and the operands of an equation and of a membership

  no_row : {i : ℕ} {primed : Bool} {a : Kind} {as' : List Kind} → Row (ker.Name i primed) a as' → ⊥
  no_row r = elim r [ ]

  no_binder : {i : ℕ} {primed : Bool} {a d : Kind} {ms : List Kind} → BinderRow (ker.Name i primed) a ms d → ⊥
  no_binder r = elim r [ ]

  no_equal : {a d : Kind} {ms : List Kind} → BinderRow ker.Equal a ms d → ⊥
  no_equal r = elim r [ ]

  no_member : {a d : Kind} {ms : List Kind} → BinderRow ker.Member a ms d → ⊥
  no_member r = elim r [ ]

  of_name : (b : Bool) {i : ℕ} {primed : Bool} {a : Kind} {xs : List ℕ} {ks : List Ker} →
      Node names c b (ker.Name i primed) a xs ks →
      slice_get names i ≡ Some a
  of_name b (node_name i primed a xs q) = q
  of_name b (node_plain o a xs ks as' r g i) = absurd (no_row r)
  of_name b (node_binder o a xs ks sets body ms e q n r g h) = absurd (no_binder r)

  name_kind : (b : Bool) (x : Ker) (i : ℕ) (primed : Bool) (a : Kind) → (out-Ker x).op ≡ ker.Name i primed →
      Child names c b a x →
      slice_get names i ≡ Some a
  name_kind b x i primed a q h =
      let u = sound_step names x c b h.1 in
      of_name b (subst (λ (o : KerOp). Node names c b o u.0 (out-Ker x).binds (out-Ker x).args) q u.2) ∙ sym u.1 ∙ h.0

  equal_row : (x e : Ker) {a : Kind} {as' : List Kind} → Row ker.Equal a as' →
      Children names ker.Equal 0 c false (x ∷ e ∷ []) as' →
      (d : Kind) × Child names c false d x × Child names c false d e
  equal_row x e (row_equal d) h = (d, h.0, h.1.0)

  equal_children : (x e : Ker) {a : Kind} {xs : List ℕ} → Node names c false ker.Equal a xs (x ∷ e ∷ []) →
      (d : Kind) × Child names c false d x × Child names c false d e
  equal_children x e (node_plain o a xs ks as' r g i) = equal_row x e r g
  equal_children x e (node_binder o a xs ks sets body ms d q n r g h) = absurd (no_equal r)

  member_row : (x e : Ker) {a : Kind} {as' : List Kind} → Row ker.Member a as' →
      Children names ker.Member 0 c false (x ∷ e ∷ []) as' →
      (d : Kind) × Child names c false d x × Child names c true (Set d) e
  member_row x e (row_member d) h = (d, h.0, h.1.0)

  member_children : (x e : Ker) {a : Kind} {xs : List ℕ} → Node names c false ker.Member a xs (x ∷ e ∷ []) →
      (d : Kind) × Child names c false d x × Child names c true (Set d) e
  member_children x e (node_plain o a xs ks as' r g i) = member_row x e r g
  member_children x e (node_binder o a xs ks sets body ms d q n r g h) = absurd (no_member r)

  -- ---- an assignment

  value_sound : (x e : Ker) (i : ℕ) (primed : Bool) (d : Kind) → (out-Ker x).op ≡ ker.Name i primed →
      Child names c false d x →
      Child names c false d e →
      IsTrue (passes (λ a. is_kind a (kind_at e)) (slice_get names i) && sound names e c false)
  value_sound x e i primed d q h g =
      and_both (passes (λ a. is_kind a (kind_at e)) (slice_get names i)) (sound names e c false)
      (ap (passes (λ a. is_kind a (kind_at e))) (name_kind false x i primed d q h) ∙ kind_found d (kind_at e) g.0) g.1

  form_sound : (x e : Ker) (i : ℕ) (primed : Bool) (d : Kind) → (out-Ker x).op ≡ ker.Name i primed →
      Child names c false d x →
      Child names c true (Set d) e → infinite_places e ≡ [] →
      IsTrue ((passes (λ a. is_kind (Set a) (kind_at e)) (slice_get names i) && is_finite e) && sound names e c true)
  form_sound x e i primed d q h g f =
      let typed : Bool = passes (λ a. is_kind (Set a) (kind_at e)) (slice_get names i) in
      and_both (typed && is_finite e) (sound names e c true)
      (and_both typed (is_finite e)
      (ap (passes (λ a. is_kind (Set a) (kind_at e))) (name_kind false x i primed d q h)
      ∙ kind_found (Set d) (kind_at e) g.0) (ap is_nil f))
      g.1

  made_sound : (m : Marks) (before : List ℕ) (o : KerOp) (ks : List Ker) (a : ℕ × AssignedStep) →
      IsAssignment m before o ks a →
      (d : Kind) (xs : List ℕ) → Node names c false o d xs ks → IsFinite a.1 → (zs : List AssignedStep) →
      IsTrue (sound_assigned names c zs) →
      IsTrue (sound_assigned names c (a.1 ∷ zs))
  made_sound m before o ks a (by_value x e i primed q t) d xs n f zs h =
      let u = equal_children x e n in
      and_both (passes (λ a. is_kind a (kind_at e)) (slice_get names i) && sound names e c false)
      (sound_assigned names c zs)
      (value_sound x e i primed u.0 q u.1 u.2) h
  made_sound m before o ks a (by_form x e i primed q t) d xs n f zs h =
      let u = member_children x e n in
      and_both ((passes (λ a. is_kind (Set a) (kind_at e)) (slice_get names i) && is_finite e) && sound names e c true)
      (sound_assigned names c zs)
      (form_sound x e i primed u.0 q u.1 u.2 f) h

  guard_made : (m : Marks) (before : List ℕ) (k : Ker) (a : ℕ × AssignedStep) → assignment m before k ≡ Some a →
      IsTrue (sound_guard names c k) → IsFinite a.1 → (zs : List AssignedStep) → IsTrue (sound_assigned names c zs) →
      IsTrue (sound_assigned names c (a.1 ∷ zs))
  guard_made m before k a q g f zs h =
      let u = sound_step names k c false (and_right (is_kind Truth (kind_at k)) (sound names k c false) g) in
      made_sound m before (out-Ker k).op (out-Ker k).args a (is_assignment m before (out-Ker k).op (out-Ker k).args a q)
      u.0 (out-Ker k).binds u.2 f zs h

  step_sound : (m : Marks) (before : List ℕ) (k : Ker) (rest : List ℕ → List AssignedStep)
      (o : Option (ℕ × AssignedStep)) →
      assignment m before k ≡ o → IsTrue (sound_guard names c k) →
      ((given : List ℕ) → Each IsFinite (rest given) → IsTrue (sound_assigned names c (rest given))) →
      Each IsFinite (step_by k before rest o) → IsTrue (sound_assigned names c (step_by k before rest o))
  step_sound m before k rest None q g h f =
      and_both (sound_guard names c k) (sound_assigned names c (rest before)) g (h before f.1)
  step_sound m before k rest (Some a) q g h f =
      guard_made m before k a q g f.0 (rest (a.0 ∷ before)) (h (a.0 ∷ before) f.1)

-- THE PATH
pub marked_sound : (names : List Kind) (m : Marks) (ys : List PathStep) (c : Context) (before : List ℕ) →
    IsTrue (sound_path names c ys) →
    Each IsFinite (marked m before ys) → IsTrue (sound_assigned names c (marked m before ys))
marked_sound names m [] c before h f = refl
marked_sound names m (path.Guard k false ∷ ys) c before h f =
    and_mono (sound_guard names c k) (sound_path names c ys) (sound_guard names c k)
    (sound_assigned names c (marked m before ys)) (λ x. x)
    (λ g. marked_sound names m ys c before g f.1) h
marked_sound names m (path.Guard k true ∷ ys) c before h f =
    let guard : Bool = sound_guard names c k in
    let rest : Bool = sound_path names c ys in
    step_sound names c m before k (λ given. marked m given ys) (assignment m before k) refl (and_left guard rest h)
    (λ given. marked_sound names m ys c given (and_right guard rest h)) f
marked_sound names m (path.Pick ps ∷ ys) c before h f =
    let old : List Kind → Bool = λ ms. sound_path names (c ++ zip (numbers ps) ms) ys in
    let new : List Kind → Bool = λ ms. sound_assigned names (c ++ zip (numbers ps) ms) (marked m before ys) in
    and_mono (sound_pick names c ps) (passes old (picked_kinds ps)) (sound_pick names c ps)
    (passes new (picked_kinds ps)) (λ x. x)
    (passes_mono old new (picked_kinds ps) (λ ms g. marked_sound names m ys (c ++ zip (numbers ps) ms) before g f.1)) h
