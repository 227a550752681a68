-- Paths and trees that read and assign no variable end alike at all states with the same constants.
use Rattle.std.proofs.Common.{◌≡◌, inl, inr, ℕ, zero, suc, Bool, true, false, not, ◌&&◌, IsTrue, List, [], ◌∷◌, map, take, refl, sym, ◌∙◌, ap, ap₂, subst, arith, if◌then◌else◌}
use Rattle.std.specs.Prelude.{nat_le, slice_get}
use Rattle.std.specs.List.{list_all}
use Rattle.tla_values.specs.declared.value.Value.{Value}
use Rattle.tla_meaning.specs.declared.actions.Assignable.TheVariants.{Variables}
use Rattle.tla_meaning.specs.declared.job.State.{State}
use Rattle.tla_meaning.specs.declared.outcome.Fault.{Fault}
use Rattle.tla_meaning.specs.declared.outcome.Fault.TheVariants.{IsWrong, IsBig}
use Rattle.tla_meaning.specs.declared.outcome.Outcome.{Outcome}
use Rattle.tla_meaning.specs.declared.outcome.Outcome.TheVariants.{Val}
use Rattle.tla_meaning.specs.Actions.{counts}
use Rattle.tla_meaning.specs.Executions.{no_scope}
use Rattle.tla_meaning.specs.Forms.{form_fault}
use Rattle.tla_meaning.specs.Numbers.{Width}
use Rattle.tla_meaning.specs.Outcomes.{fault_of, joined}
use Rattle.tla_meaning.specs.Scopes.{Scope}
use Rattle.tla_meaning.proofs.Views.{and_left, and_right, false≢true}
use Rattle.kernel_trees.specs.declared.kernel.Ker.{Ker}
use Rattle.kernel_trees.specs.declared.path.AssignedStep.{AssignedStep}
use Rattle.kernel_trees.specs.declared.path.AssignedStep.TheVariants as mark
use Rattle.kernel_trees.specs.Assignments.{AssignedHolds, AssignedMeets, AssignedPath, Has, HasMember, SameBut}
use Rattle.kernel_trees.specs.Paths.{Marks, mentions, sets}
use Rattle.kernel_trees.specs.Picks.{IsOneOf, Picked, picking}
use Rattle.kernel_trees.specs.Trees.{ker_form, ker_val}
use Rattle.kernel_trees.proofs.States.{same_form_at, same_value_at}
use Rattle.level_laws.specs.Branches.{Ending, Held, MetWrong, MetBig}
use Rattle.step_laws.specs.PathEnds.{PathEnds, SomeEnds}

-- the step neither holds nor assigns a marked name
abbrev pub untouched : Marks → AssignedStep → Bool
untouched m (mark.Guard k b) = not (mentions m k)
untouched m (mark.Pick ps) = list_all (λ k. not (mentions m k)) (sets ps)
untouched m (mark.Equals i e) = not (m i true) && not (mentions m e)
untouched m (mark.Among i e) = not (m i true) && not (mentions m e)

not_true : (b : Bool) → IsTrue (not b) → b ≡ false
not_true true h = absurd (false≢true h)
not_true false h = refl

module _ (w : Width) (m : Marks) (s t s' t' : State) (r : SameBut m s t s' t') where
  value_same : (k : Ker) (sc : Scope) → IsTrue (not (mentions m k)) → ker_val w k sc s t ≡ ker_val w k sc s' t'
  value_same k sc h = same_value_at w m s t s' t' r k (not_true (mentions m k) h) sc

  form_same : (k : Ker) (sc : Scope) → IsTrue (not (mentions m k)) → ker_form w k sc s t ≡ ker_form w k sc s' t'
  form_same k sc h = same_form_at w m s t s' t' r k (not_true (mentions m k) h) sc

  sets_same : (ks : List Ker) (sc : Scope) → IsTrue (list_all (λ k. not (mentions m k)) ks) →
      map (λ k. ker_val w k sc s t) ks ≡ map (λ k. ker_val w k sc s' t') ks
  sets_same [] sc h = refl
  sets_same (k ∷ ks) sc h =
      let a : Bool = not (mentions m k) in
      let b : Bool = list_all (λ k. not (mentions m k)) ks in
      ap₂ (λ (o : Outcome) (os : List Outcome). o ∷ os) (value_same k sc (and_left a b h)) (sets_same ks sc (and_right a b h))

  has_same : (i : ℕ) (v : Value) → IsTrue (not (m i true)) → Has t i v → Has t' i v
  has_same i v h e = sym (r i true (not_true (m i true) h)) ∙ e

  equals_same : (i : ℕ) (e : Ker) (sc : Scope) → IsTrue (not (m i true) && not (mentions m e)) →
      (v : Value) × ((ker_val w e sc s t ≡ Val v) × Has t i v) → (v : Value) × ((ker_val w e sc s' t' ≡ Val v) × Has t' i v)
  equals_same i e sc h x =
      let a : Bool = not (m i true) in
      let b : Bool = not (mentions m e) in
      (x.0, (sym (value_same e sc (and_right a b h)) ∙ x.1.0, has_same i x.0 (and_left a b h) x.1.1))

  member_same : (i : ℕ) (e : Ker) (sc : Scope) → IsTrue (not (m i true) && not (mentions m e)) →
      HasMember t i (ker_form w e sc s t) → HasMember t' i (ker_form w e sc s' t')
  member_same i e sc h x =
      let a : Bool = not (m i true) in
      let b : Bool = not (mentions m e) in
      record {
        form = x.form;
        made = sym (form_same e sc (and_right a b h)) ∙ x.made;
        set = x.set;
        value = x.value;
        has = has_same i x.value (and_left a b h) x.has;
        belongs = x.belongs;
      }

  abbrev Quiet : List AssignedStep → Type 0
  Quiet zs = IsTrue (list_all (untouched m) zs)

  holds_same : (zs : List AssignedStep) (vss : List (List Value)) (sc : Scope) → Quiet zs → AssignedHolds w s t zs vss sc → AssignedHolds w s' t' zs vss sc
  holds_same [] vss sc h l = l
  holds_same (mark.Guard k b ∷ zs) vss sc h l =
      let q : Bool = untouched m (mark.Guard k b) in
      (sym (value_same k sc (and_left q (list_all (untouched m) zs) h)) ∙ l.0, holds_same zs vss sc (and_right q (list_all (untouched m) zs) h) l.1)
  holds_same (mark.Pick ps ∷ zs) [] sc h l = absurd l
  holds_same (mark.Pick ps ∷ zs) (vs ∷ vss) sc h l =
      let q : Bool = untouched m (mark.Pick ps) in (
        subst (λ (os : List Outcome). Picked os vs) (sets_same (sets ps) sc (and_left q (list_all (untouched m) zs) h)) l.0,
        holds_same zs vss (picking ps vs sc) (and_right q (list_all (untouched m) zs) h) l.1,
      )
  holds_same (mark.Equals i e ∷ zs) vss sc h l =
      let q : Bool = untouched m (mark.Equals i e) in
      (equals_same i e sc (and_left q (list_all (untouched m) zs) h) l.0, holds_same zs vss sc (and_right q (list_all (untouched m) zs) h) l.1)
  holds_same (mark.Among i e ∷ zs) vss sc h l =
      let q : Bool = untouched m (mark.Among i e) in
      (member_same i e sc (and_left q (list_all (untouched m) zs) h) l.0, holds_same zs vss sc (and_right q (list_all (untouched m) zs) h) l.1)

  meets_same : (zs : List AssignedStep) (vss : List (List Value)) (sc : Scope) (f : Fault) → Quiet zs → AssignedMeets w s t zs vss sc f → AssignedMeets w s' t' zs vss sc f
  meets_same [] vss sc f h x = x
  meets_same (mark.Guard k b ∷ zs) vss sc f h (inl x) =
      inl (sym (ap fault_of (value_same k sc (and_left (untouched m (mark.Guard k b)) (list_all (untouched m) zs) h))) ∙ x)
  meets_same (mark.Guard k b ∷ zs) vss sc f h (inr x) =
      let q : Bool = untouched m (mark.Guard k b) in
      inr (sym (value_same k sc (and_left q (list_all (untouched m) zs) h)) ∙ x.0, meets_same zs vss sc f (and_right q (list_all (untouched m) zs) h) x.1)
  meets_same (mark.Pick ps ∷ zs) vss sc f h (inl x) =
      inl (sym (ap joined (sets_same (sets ps) sc (and_left (untouched m (mark.Pick ps)) (list_all (untouched m) zs) h))) ∙ x)
  meets_same (mark.Pick ps ∷ zs) [] sc f h (inr x) = absurd x
  meets_same (mark.Pick ps ∷ zs) (vs ∷ vss) sc f h (inr x) =
      let q : Bool = untouched m (mark.Pick ps) in
      inr (
        subst (λ (os : List Outcome). Picked os vs) (sets_same (sets ps) sc (and_left q (list_all (untouched m) zs) h)) x.0,
        meets_same zs vss (picking ps vs sc) f (and_right q (list_all (untouched m) zs) h) x.1,
      )
  meets_same (mark.Equals i e ∷ zs) vss sc f h (inl x) =
      let q = and_left (untouched m (mark.Equals i e)) (list_all (untouched m) zs) h in
      inl (sym (ap fault_of (value_same e sc (and_right (not (m i true)) (not (mentions m e)) q))) ∙ x)
  meets_same (mark.Equals i e ∷ zs) vss sc f h (inr x) =
      let q : Bool = untouched m (mark.Equals i e) in
      inr (equals_same i e sc (and_left q (list_all (untouched m) zs) h) x.0, meets_same zs vss sc f (and_right q (list_all (untouched m) zs) h) x.1)
  meets_same (mark.Among i e ∷ zs) vss sc f h (inl x) =
      let q = and_left (untouched m (mark.Among i e)) (list_all (untouched m) zs) h in
      inl (sym (ap form_fault (form_same e sc (and_right (not (m i true)) (not (mentions m e)) q))) ∙ x)
  meets_same (mark.Among i e ∷ zs) vss sc f h (inr x) =
      let q : Bool = untouched m (mark.Among i e) in
      inr (member_same i e sc (and_left q (list_all (untouched m) zs) h) x.0, meets_same zs vss sc f (and_right q (list_all (untouched m) zs) h) x.1)

  path_same : (zs : AssignedPath) (k : Ending) → Quiet zs → PathEnds w zs k s t → PathEnds w zs k s' t'
  path_same zs Held h e = (e.0, holds_same zs e.0 no_scope h e.1)
  path_same zs MetWrong h e = (e.0, (e.1.0, meets_same zs e.1.0 no_scope (IsWrong e.0) h e.1.1))
  path_same zs MetBig h e = (e.0, (e.1.0, meets_same zs e.1.0 no_scope (IsBig e.0) h e.1.1))

-- ---- states with the same constants

-- the numbers of variables
abbrev pub variables : ℕ → Marks
variables c = counts (Variables c)

taken : (n : ℕ) (xs : List Value) (i : ℕ) → nat_le n i ≡ false → slice_get (take n xs) i ≡ slice_get xs i
taken zero xs i h = absurd (none i h)
  where
    none : (i : ℕ) → nat_le 0 i ≡ false → ⊥
    none i q = grind (arith, q)
taken (suc n) [] i h = refl
taken (suc n) (x ∷ xs) zero h = refl
taken (suc n) (x ∷ xs) (suc i) h = taken n xs i (less n i h)
  where
    less : (n i : ℕ) → nat_le (suc n) (suc i) ≡ false → nat_le n i ≡ false
    less n i q = grind (arith, q)

pub same_constants : (c : ℕ) (s t : State) → take c s.vals ≡ take c t.vals → SameBut (variables c) s s t t
same_constants c s t e i primed h = by primed
  where
    there : slice_get s.vals i ≡ slice_get t.vals i
    there = sym (taken c s.vals i h) ∙ (ap (λ (xs : List Value). slice_get xs i) e ∙ taken c t.vals i h)

    by : (b : Bool) → slice_get (if b then s else s).vals i ≡ slice_get (if b then t else t).vals i
    by true = there
    by false = there

-- every path is so
abbrev pub AllQuiet : Marks → List AssignedPath → Type 0
AllQuiet m [] = Unit {0}
AllQuiet m (x ∷ xs) = IsTrue (list_all (untouched m) x) × AllQuiet m xs

quiet_one : (m : Marks) (xs : List AssignedPath) (x : AssignedPath) → AllQuiet m xs → IsOneOf x xs → IsTrue (list_all (untouched m) x)
quiet_one m [] x h o = absurd o
quiet_one m (y ∷ ys) x h (inl e) = subst (λ (z : AssignedPath). IsTrue (list_all (untouched m) z)) (sym e) h.0
quiet_one m (y ∷ ys) x h (inr o) = quiet_one m ys x h.1 o

pub some_same : (w : Width) (c : ℕ) (xs : List AssignedPath) (k : Ending) (s t : State) → AllQuiet (variables c) xs → take c s.vals ≡ take c t.vals →
    SomeEnds w xs k s s → SomeEnds w xs k t t
some_same w c xs k s t h e m =
    (m.0, (m.1.0, path_same w (variables c) s s t t (same_constants c s t e) m.0 k (quiet_one (variables c) xs m.0 h m.1.0) m.1.1))

pub tree_same : (w : Width) (c : ℕ) (k : Ker) (s t : State) → mentions (variables c) k ≡ false → take c s.vals ≡ take c t.vals →
    ker_val w k no_scope s s ≡ ker_val w k no_scope t t
tree_same w c k s t h e = same_value_at w (variables c) s s t t (same_constants c s t e) k h no_scope
