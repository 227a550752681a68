-- In a typing each name has its annotated type, and each node has its types by the row of its operator.
use Rattle.std.proofs.Common.{◌≡◌, ℕ, zero, suc, ◌+◌, ◌<◌, Bool, false, IsTrue, List, [], ◌∷◌, ◌++◌, map, length, refl, ap, sym, ◌∙◌, subst, arith, Option, Some, None}
use Rattle.std.specs.Prelude.{All, slice_get}
use Rattle.std.specs.List.{list_all}
use Rattle.std.proofs.lemmas.List.Elements.{All-cons, All-nil}
use Rattle.tla_meaning.specs.declared.expr.Expr.{Expr}
use Rattle.tla_meaning.specs.declared.job.Job.{Job}
use Rattle.tla_meaning.proofs.Views.{and_left, and_right}
use Rattle.snowcat_rows.specs.Types.{Term, Slot, var, con, app, fields, none, some}
use Rattle.snowcat_rows.specs.Substitutions.{Sub, apply, apply_slot, or_else, then_sub, Fronts}
use Rattle.snowcat_rows.specs.Readings.{moved, moved_slot}
use Rattle.snowcat_rows.specs.declared.types.Typed.{Typed}
use Rattle.snowcat_types.specs.declared.waiting.Wait.{Wait}
use Rattle.snowcat_types.specs.declared.waiting.Wait.TheVariants as wait
use Rattle.snowcat_rows.specs.Closing.{closing}
use Rattle.snowcat_types.specs.TypeForms.{bool_type, int_type}
use Rattle.snowcat_types.specs.Rows.{Context, or_type}
use Rattle.snowcat_types.specs.Requirements.{Requirement, Equal, ItemOf, FieldOf, IsFormed, Never, MeetAll}
use Rattle.snowcat_types.specs.Waiting.{items_from, choice}
use Rattle.snowcat_types.specs.Systems.{Annotations, Entry, Found, root_asks, visit, visits, all_entries, asked, waited, declared_types, names_from, outermost, first_unknown, parts_of, system, all_asked, all_waits}
use Rattle.snowcat_types.specs.Typings.{Each, IsTyping}
use Rattle.snowcat_types.specs.Annotated.{AreAnnotations}
use Rattle.snowcat_types.specs.Answers.{is_typable, is_typable_tree, IsTypedAs, types_of_names, types_of_parts, AreInstances, outside_of, AllHaveTypes, IsTruthFirst, MeetsRows}
use Rattle.snowcat_types.specs.Judgement.{HasChoice}
use Rattle.snowcat_types.proofs.Choices.{meet_left, meet_right, choices_made}
use Rattle.snowcat_types.proofs.Fitting.{AllFit, SystemFits, system_fits}
use Rattle.snowcat_types.proofs.Held.{RequirementHas, AllRequired, choice_has, WaitHas}
use Rattle.snowcat_types.proofs.Holding.{KeepsForms, AllTypes}
use Rattle.snowcat_types.proofs.Joining.{meets_then}
use Rattle.snowcat_types.proofs.Judging.{Sees, asked_both, tree_judged, types_begin, waited_both}
use Rattle.snowcat_types.proofs.PlainTypes.{closed_same}
use Rattle.snowcat_types.proofs.SystemHeld.{noted_closed, same_length}
use Rattle.snowcat_types.specs.inner.Solved.{Stable}

-- ---- what is met stays met where more is put in place

all_then : (n : ℕ) (l : Fronts) (r s : Sub) (qs : List Requirement) → AllFit n l qs → MeetAll s qs → MeetAll (then_sub r s) qs
all_then n l r s [] f h = tt
all_then n l r s (q ∷ qs) f h = (meets_then r s q f.0.0.0.1 h.0, all_then n l r s qs f.1 h.1)

abbrev Anything : Term → Type 0
Anything t = Unit {0}

all_anything : (ts : List Term) → AllTypes Anything ts
all_anything [] = tt
all_anything (t ∷ ts) = (tt, all_anything ts)

keeps_anything : KeepsForms Anything
keeps_anything = record {
  plain = record {
    truth = tt;
    number = tt;
    text = tt;
    named = λ x. tt;
    set = λ t h. tt;
    seq = λ t h. tt;
    fun = λ t u h k. tt;
    tuple = λ ts h. tt;
  };
  of_record = λ fs h. tt;
}

any_wait : (w : Wait) → WaitHas Anything w
any_wait (wait.Apply p f i t x) = (tt, (tt, tt))
any_wait (wait.Domain p f t x y) = (tt, (tt, (tt, tt)))
any_wait (wait.Tuple p t x i n) = (tt, (tt, all_anything (items_from i n)))

stable_of : (q : Requirement) → RequirementHas Anything q → Stable q
stable_of (Equal a b) h = tt
stable_of (ItemOf t i u) h = tt
stable_of (FieldOf t x u) h = tt
stable_of (IsFormed k t) h = h.1
stable_of Never h = tt

chosen_then : (r s : Sub) (qs : List Requirement) → AllRequired Anything qs → MeetAll s qs → MeetAll (then_sub r s) qs
chosen_then r s [] f h = tt
chosen_then r s (q ∷ qs) f h = (meets_then r s q (stable_of q f.0) h.0, chosen_then r s qs f.1 h.1)

choices_then : (r s : Sub) (ws : List Wait) → Each (HasChoice s) ws → Each (HasChoice (then_sub r s)) ws
choices_then r s [] h = tt
choices_then r s (w ∷ ws) h =
    ((h.0.0, chosen_then r s (choice w h.0.0) (choice_has Anything keeps_anything w h.0.0 (any_wait w)) h.0.1), choices_then r s ws h.1)

-- ---- the types of names

abbrev shifted : ℕ → Sub → Sub
shifted m s = record { type_of = λ v. s.type_of (m + v); row_of = λ v. s.row_of (m + v) }

mutual
  moved_under : (m : ℕ) (s : Sub) (t : Term) → apply s (moved m t) ≡ apply (shifted m s) t
  moved_under m s (var v) = refl
  moved_under m s (con c) = refl
  moved_under m s (app a b) = λ i. app (moved_under m s a i) (moved_under m s b i)
  moved_under m s (fields f None) = λ i. fields (λ x. or_else (moved_slot_under m s (f x) i) none) None
  moved_under m s (fields f (Some r)) = λ i. fields (λ x. or_else (moved_slot_under m s (f x) i) ((s.row_of (m + r)).at x)) (s.row_of (m + r)).tail

  moved_slot_under : (m : ℕ) (s : Sub) (x : Slot) → apply_slot s (moved_slot m x) ≡ apply_slot (shifted m s) x
  moved_slot_under m s none = refl
  moved_slot_under m s (some t) = ap some (moved_under m s t)

instances : (s : Sub) (i v : ℕ) (ts : List (Term × ℕ)) → MeetAll s (declared_types i v ts) → AreInstances ts (map (apply s) (names_from i (length ts)))
instances s i v [] h = tt
instances s i v (t ∷ ts) h = ((shifted v s, sym h.0 ∙ moved_under v s t.0), instances s (i + 1) (v + t.1) ts h.1)

name_there : (s : Sub) (j m i : ℕ) → i < m → slice_get (map (apply s) (names_from j m)) i ≡ Some (s.type_of (j + i))
name_there s j zero i lt = absurd (omega (arith, lt))
name_there s j (suc m) zero lt = let e : j ≡ j + 0 = omega arith in ap (λ z. Some (s.type_of z)) e
name_there s j (suc m) (suc i) lt =
    let e : (j + 1) + i ≡ j + suc i = omega arith in name_there s (j + 1) m i (omega (arith, lt)) ∙ ap (λ z. Some (s.type_of z)) e

-- ---- the parts

module _ (s : Sub) (n : ℕ) where
  parts_judged : (es : List Expr) → IsTrue (list_all (λ e. is_typable_tree n e (λ x. false)) es) → (v : ℕ) (c d : Context) → Sees s n c d →
      MeetAll s (asked (all_entries (visits c es v))) → Each (HasChoice s) (waited (all_entries (visits c es v))) →
      AllHaveTypes d es (map (map (apply s)) (map (λ k. k.types) (visits c es v)))
  parts_judged [] t v c d h ha hw = tt
  parts_judged (e ∷ es) t v c d h ha hw =
      let one : Found = visit e v c in
      let rest : List Entry = all_entries (visits c es one.next) in
      let p : Bool = is_typable_tree n e (λ x. false) in
      let q : Bool = list_all (λ e. is_typable_tree n e (λ x. false)) es in
      let a = asked_both s n (one.entries ++ root_asks one ∷ []) rest ha in
      let w = waited_both s n (one.entries ++ root_asks one ∷ []) rest hw in (
        tree_judged s n e (λ x. false) (and_left p q t) v c d h (asked_both s n one.entries (root_asks one ∷ []) a.0).0
            (waited_both s n one.entries (root_asks one ∷ []) w.0).0,
        parts_judged es (and_right p q t) one.next c d h a.1 w.1,
      )

  -- the first type of each part is asked to be Bool
  truths_met : (es : List Expr) (v : ℕ) (c : Context) → MeetAll s (asked (all_entries (visits c es v))) →
      All IsTruthFirst (map (map (apply s)) (map (λ k. k.types) (visits c es v)))
  truths_met [] v c h = All-nil IsTruthFirst
  truths_met (e ∷ es) v c h =
      let one : Found = visit e v c in
      let a = asked_both s n (one.entries ++ root_asks one ∷ []) (all_entries (visits c es one.next)) h in
      let own : bool_type ≡ apply s one.type = (asked_both s n one.entries (root_asks one ∷ []) a.0).1.0 in
      let b = types_begin e v c in
      let P : List Term → Type 0 = λ z. IsTruthFirst (map (apply s) z) in
      All-cons IsTruthFirst (map (apply s) one.types) (map (map (apply s)) (map (λ k. k.types) (visits c es one.next)))
      (subst P (sym b.1) (sym own)) (truths_met es one.next c a.1)

-- ---- a typing

module _ (job : Job) (an : Annotations) (are : AreAnnotations job an) (can : IsTrue (is_typable job)) (names : List Term) (parts : List (List Term)) (ds : List Wait)
    (t : IsTyping (system an job) names parts ds) where
  all : Sub
  all = then_sub closing t.last

  -- what is met at the end, and each waiting node's choice
  met : MeetAll all (all_asked (system an job)) × Each (HasChoice all) (all_waits (system an job))
  unfolding all
  met =
      let f : SystemFits (system an job) = system_fits job an are can in
      let c = choices_made t.last (all_asked (system an job)) (all_waits (system an job)) t.all [] ds t.reached t.principal.meets tt in
      (all_then (system an job).count f.fronts closing t.last (all_asked (system an job)) f.asked c.0, choices_then closing t.last (all_waits (system an job)) c.1)

  or_some : (o : Option Term) (u : Term) → o ≡ Some u → or_type o int_type ≡ u
  or_some o u e = ap (λ z. or_type z int_type) e

  sees : Sees all (length job.names) (outermost an) (outside_of an names)
  unfolding all
  sees = record {
    declared = λ i lt.
        let e : length job.names ≡ length an.declared = same_length job.aliases job.names an.declared are.names in
        let j : 0 + i ≡ i = omega arith in
        or_some (slice_get names i) (apply closing (t.last.type_of i))
        (ap (λ z. slice_get z i) t.names_are ∙ name_there (then_sub closing t.last) 0 (length an.declared) i (omega (arith, lt, e)) ∙ ap (λ z. Some (apply closing (t.last.type_of z))) j);
    noted = λ x. refl;
    closed = λ x u e. closed_same (then_sub closing t.last) u (noted_closed job an are x u e).0;
    bound = refl;
  }

  pub names_met : AreInstances an.declared names
  unfolding all
  names_met =
      let d : List Requirement = declared_types 0 (length an.declared) an.declared in
      let h : MeetAll (then_sub closing t.last) d = meet_left (then_sub closing t.last) d (asked (system an job).entries) met.0 in
      let P : List Term → Type 0 = AreInstances an.declared in
      subst P (sym t.names_are) (instances (then_sub closing t.last) 0 (length an.declared) an.declared h)

  pub parts_met : AllHaveTypes (outside_of an names) (parts_of job) parts
  unfolding all
  parts_met =
      let d : List Requirement = declared_types 0 (length an.declared) an.declared in
      let h : MeetAll (then_sub closing t.last) (asked (system an job).entries) = meet_right (then_sub closing t.last) d (asked (system an job).entries) met.0 in
      let P : List (List Term) → Type 0 = AllHaveTypes (outside_of an names) (parts_of job) in
      subst P (sym t.parts_are)
      (parts_judged (then_sub closing t.last) (length job.names) (parts_of job) can (first_unknown an) (outermost an) (outside_of an names) sees h met.1)

  pub parts_true : All IsTruthFirst parts
  unfolding all
  parts_true =
      let d : List Requirement = declared_types 0 (length an.declared) an.declared in
      let h : MeetAll (then_sub closing t.last) (asked (system an job).entries) = meet_right (then_sub closing t.last) d (asked (system an job).entries) met.0 in
      let P : List (List Term) → Type 0 = All IsTruthFirst in
      subst P (sym t.parts_are)
      (truths_met (then_sub closing t.last) (length job.names) (parts_of job) (first_unknown an) (outermost an) h)

pub typed_meets : (job : Job) (t : Typed) → IsTrue (is_typable job) → IsTypedAs job t → MeetsRows job t
typed_meets job t can h = record {
  annotations = h.annotations;
  are = h.are;
  names = names_met job h.annotations h.are can (types_of_names t) (types_of_parts t) h.defaults h.typing;
  parts = parts_met job h.annotations h.are can (types_of_names t) (types_of_parts t) h.defaults h.typing;
  truths = parts_true job h.annotations h.are can (types_of_names t) (types_of_parts t) h.defaults h.typing;
}
