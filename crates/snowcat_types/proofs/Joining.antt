-- The run of a typing: what unification gives leads from step to step.
use Rattle.std.proofs.Common.{◌≡◌, ℕ, zero, suc, ◌<◌, ◌≤◌, List, [], ◌∷◌, ◌++◌, refl, ap, sym, ◌∙◌, arith}
use Rattle.snowcat_rows.specs.Types.{Term, var, con, app, fields, some, FunHead, SeqHead, TupHead}
use Rattle.snowcat_rows.specs.Substitutions.{Sub, apply, apply_slot, or_else, tail_row, then_sub, Fronts, Extends, Agree, Unified}
use Rattle.snowcat_rows.proofs.RowTheory.{apply_apply}
use Rattle.snowcat_rows.specs.Chains.{number}
use Rattle.snowcat_rows.specs.Sorting.{Within}
use Rattle.snowcat_rows.proofs.General.{apply_agree}
use Rattle.snowcat_types.specs.declared.waiting.Wait.{Wait}
use Rattle.snowcat_types.specs.declared.kinds.Kind.{Kind}
use Rattle.snowcat_types.specs.declared.kinds.Kind.TheVariants.{NotFormed}
use Rattle.snowcat_types.specs.Requirements.{kind, Requirement, Equal, ItemOf, FieldOf, IsFormed, Never, item_of, item_at, field_at, Meets, MeetAll}
use Rattle.snowcat_types.specs.Typings.{Reached}
use Rattle.snowcat_types.specs.inner.Solved.{AllInside, Inside, Solved, Stable}
use Rattle.snowcat_types.proofs.Choices.{meet_left, meet_right, meet_append}

-- ---- what a general solution decides is what all solutions decide

pub kind_kept : (r : Sub) (t : Term) → (kind t ≡ NotFormed → ⊥) → kind (apply r t) ≡ kind t
kind_kept r (var v) n = absurd (n refl)
kind_kept r (con h) n = refl
kind_kept r (app (con FunHead) b) n = refl
kind_kept r (app (con SeqHead) b) n = refl
kind_kept r (app (con TupHead) b) n = refl
kind_kept r (app (con h) b) n = refl
kind_kept r (app (var v) b) n = absurd (n refl)
kind_kept r (app a b) n = refl
kind_kept r (fields f k) n = refl

item_row_kept : (r : Sub) (t : Term) (n : ℕ) (u : Term) → item_of t n ≡ some u → item_of (apply r t) n ≡ some (apply r u)
item_row_kept r (app x rest) (suc zero) u e = ap (apply_slot r) e
item_row_kept r (app x rest) (suc (suc n)) u e = item_row_kept r rest (suc n) u e
item_row_kept r t n u e = absurd (cc)

pub item_kept : (r : Sub) (t : Term) (n : ℕ) (u : Term) → item_at t n ≡ some u → item_at (apply r t) n ≡ some (apply r u)
item_kept r (app (con TupHead) b) n u e = item_row_kept r b n u e
item_kept r t n u e = absurd (cc)

pub field_kept : (r : Sub) (t : Term) (x : List ℕ) (u : Term) → field_at t x ≡ some u → field_at (apply r t) x ≡ some (apply r u)
field_kept r (fields f k) x u e = ap (λ y. or_else (apply_slot r y) ((tail_row r k).at x)) e
field_kept r t x u e = absurd (cc)

-- what extends a solution is one
pub meets_then : (r s : Sub) (q : Requirement) → Stable q → Meets s q → Meets (then_sub r s) q
meets_then r s (Equal a b) g e = sym (apply_apply r s a) ∙ ap (apply r) e ∙ apply_apply r s b
meets_then r s (ItemOf t i u) g e =
    ap (λ z. item_at z i) (sym (apply_apply r s t)) ∙ item_kept r (apply s t) i (apply s u) e ∙ ap some (apply_apply r s u)
meets_then r s (FieldOf t x u) g e =
    ap (λ z. field_at z x) (sym (apply_apply r s t)) ∙ field_kept r (apply s t) x (apply s u) e ∙ ap some (apply_apply r s u)
meets_then r s (IsFormed k t) g e =
    ap kind (sym (apply_apply r s t)) ∙ kind_kept r (apply s t) (λ h. g (sym e ∙ h)) ∙ e
meets_then r s Never g e = e

pub meets_agree : (n : ℕ) (s t : Sub) (q : Requirement) → Agree n s t → Inside n q → Meets s q → Meets t q
meets_agree n s t (Equal a b) g w e = sym (apply_agree n s t a g w.0) ∙ e ∙ apply_agree n s t b g w.1
meets_agree n s t (ItemOf a i b) g w e =
    ap (λ z. item_at z i) (sym (apply_agree n s t a g w.0)) ∙ e ∙ ap some (apply_agree n s t b g w.1)
meets_agree n s t (FieldOf a x b) g w e =
    ap (λ z. field_at z x) (sym (apply_agree n s t a g w.0)) ∙ e ∙ ap some (apply_agree n s t b g w.1)
meets_agree n s t (IsFormed k a) g w e = ap kind (sym (apply_agree n s t a g w)) ∙ e
meets_agree n s t Never g w e = e

agrees : (n : ℕ) (s t : Sub) → (x : Extends n s t) → Agree n (then_sub x.rest s) t
agrees n s t x = record { types = λ v lt. sym (x.types v lt); rows = λ v lt. sym (x.rows v lt) }

pub meets_extended : (n : ℕ) (s t : Sub) (q : Requirement) → Extends n s t → Inside n q → Stable q → Meets s q → Meets t q
meets_extended n s t q x w g e = meets_agree n (then_sub x.rest s) t q (agrees n s t x) w (meets_then x.rest s q g e)

pub carried : (n : ℕ) (s t : Sub) (qs : List Requirement) → Extends n s t → AllInside n qs → MeetAll s qs → MeetAll t qs
carried n s t [] x w h = tt
carried n s t (q ∷ qs) x w h = (meets_extended n s t q x w.0.0 w.0.1 h.0, carried n s t qs x w.1 h.1)

pub solves_agree : (n : ℕ) (s t : Sub) (qs : List Requirement) → Agree n s t → AllInside n qs → MeetAll s qs → MeetAll t qs
solves_agree n s t [] g w h = tt
solves_agree n s t (q ∷ qs) g w h = (meets_agree n s t q g w.0.0 h.0, solves_agree n s t qs g w.1 h.1)

-- ---- the invariant of a run

-- the entries so far ask and wait; what is done is solved, and those in ws still wait
pub record Going (asked : List Requirement) (waits : List Wait) (done : List Requirement) (ws ds : List Wait) : Type 0 where
  pub rs : List Requirement
  pub reached : Reached asked waits rs ws ds
  pub to_done : (u : Sub) → MeetAll u rs → MeetAll u done
  pub from_done : (u : Sub) → MeetAll u done → MeetAll u rs

abbrev pub IsUnknown : ℕ → Term → Type 0
IsUnknown n t = (v : ℕ) × (v < n) × (t ≡ var v)

-- ---- steps without unification

pub extends_less : (n m : ℕ) (s t : Sub) → n ≤ m → Extends m s t → Extends n s t
extends_less n m s t le x = record { rest = x.rest; types = λ v lt. x.types v (wider v lt); rows = λ v lt. x.rows v (wider v lt) }
  where
    wider : (v : ℕ) → v < n → v < m
    wider v lt = omega arith

pub agree_more : (n m : ℕ) (s t u : Sub) → n ≤ m → Agree n s t → Agree m t u → Agree n s u
agree_more n m s t u le a b = record { types = λ v lt. a.types v lt ∙ b.types v (wider v lt); rows = λ v lt. a.rows v lt ∙ b.rows v (wider v lt) }
  where
    wider : (v : ℕ) → v < n → v < m
    wider v lt = omega arith

-- ---- one requirement more, which is met exactly where two types are equal
pub one_more : (n m p : ℕ) (l k j : Fronts) (rs : List Requirement) (s t : Sub) (q : Requirement) (a b : Term) → m ≤ p → AllInside n rs →
    Inside n q → Solved n m l k rs s → Unified m p k j s a b t →
    ((u : Sub) → Extends m s u → Meets u q → apply u a ≡ apply u b) → ((u : Sub) → Extends m s u → apply u a ≡ apply u b → Meets u q) →
    Solved n p l j (rs ++ q ∷ []) t
one_more n m p l k j rs s t q a b mp w wq g h only if' = record {
  more = omega (arith, g.more);
  solves = meet_append t rs (q ∷ []) (carried n s t rs (extends_less n m s t g.more h.extends) w g.solves) (if' t h.extends h.equal, tt);
  general = λ u f y.
      let first = g.general u f (meet_left u rs (q ∷ []) y) in
      let e : Meets first.to q = meets_agree n u first.to q first.agree wq (meet_right u rs (q ∷ []) y).0 in
      let second = h.general first.to first.fits first.extends (only first.to first.extends e) in
      record { to = second.to; agree = agree_more n m u first.to second.to g.more first.agree second.agree; fits = second.fits; extends = second.extends };
}

-- two equal types
pub same_more : (n m p : ℕ) (l k j : Fronts) (rs : List Requirement) (s t : Sub) (a b : Term) → m ≤ p → AllInside n rs → Within n a → Within n b →
    Solved n m l k rs s → Unified m p k j s a b t → Solved n p l j (rs ++ Equal a b ∷ []) t
same_more n m p l k j rs s t a b mp w wa wb g h = one_more n m p l k j rs s t (Equal a b) a b mp w (wa, wb) g h (λ u x e. e) (λ u x e. e)

-- an item_at or a field_at that is known, and that is in itself as s leaves it
through : (m : ℕ) (s u : Sub) (x : Extends m s u) (a : Term) → Within m a → apply u a ≡ apply x.rest (apply s a)
through m s u x a w = sym (apply_agree m (then_sub x.rest s) u a (agrees m s u x) w) ∙ sym (apply_apply x.rest s a)

some_same : (a b : Term) → some a ≡ some b → a ≡ b
some_same a b e = cc

pub within_more : (n m : ℕ) (a : Term) → n ≤ m → Within n a → Within m a
within_more n m a le w v o = let lt : number v < n = w v o in omega (arith, lt, le)

module _ (m : ℕ) (s : Sub) (f a : Term) (wf : Within m f) (wa : Within m a) (own : apply s a ≡ a) where
  pub known_item : (i : ℕ) → item_at (apply s f) i ≡ some a → (u : Sub) → Extends m s u → item_at (apply u f) i ≡ some (apply u a)
  known_item i e u x =
      ap (λ z. item_at z i) (through m s u x f wf) ∙ item_kept x.rest (apply s f) i a e
      ∙ ap some (sym (through m s u x a wa ∙ ap (apply x.rest) own))

  pub known_field : (y : List ℕ) → field_at (apply s f) y ≡ some a → (u : Sub) → Extends m s u → field_at (apply u f) y ≡ some (apply u a)
  known_field y e u x =
      ap (λ z. field_at z y) (through m s u x f wf) ∙ field_kept x.rest (apply s f) y a e
      ∙ ap some (sym (through m s u x a wa ∙ ap (apply x.rest) own))

pub item_more : (n m p : ℕ) (l k j : Fronts) (rs : List Requirement) (s t : Sub) (f : Term) (i : ℕ) (a b : Term) → m ≤ p → AllInside n rs →
    Within n f → Within n b → Within m a → apply s a ≡ a → item_at (apply s f) i ≡ some a →
    Solved n m l k rs s → Unified m p k j s a b t → Solved n p l j (rs ++ ItemOf f i b ∷ []) t
item_more n m p l k j rs s t f i a b mp w wf wb wa own e g h =
    let known = known_item m s f a (within_more n m f g.more wf) wa own i e in
    one_more n m p l k j rs s t (ItemOf f i b) a b mp w (wf, wb) g h
    (λ u x y. some_same (apply u a) (apply u b) (sym (known u x) ∙ y))
    (λ u x y. known u x ∙ ap some y)

pub field_more : (n m p : ℕ) (l k j : Fronts) (rs : List Requirement) (s t : Sub) (f : Term) (y : List ℕ) (a b : Term) → m ≤ p → AllInside n rs →
    Within n f → Within n b → Within m a → apply s a ≡ a → field_at (apply s f) y ≡ some a →
    Solved n m l k rs s → Unified m p k j s a b t → Solved n p l j (rs ++ FieldOf f y b ∷ []) t
field_more n m p l k j rs s t f y a b mp w wf wb wa own e g h =
    let known = known_field m s f a (within_more n m f g.more wf) wa own y e in
    one_more n m p l k j rs s t (FieldOf f y b) a b mp w (wf, wb) g h
    (λ u x z. some_same (apply u a) (apply u b) (sym (known u x) ∙ z))
    (λ u x z. known u x ∙ ap some z)

-- a form that is known asks nothing more
pub formed_more : (n m : ℕ) (l k : Fronts) (rs : List Requirement) (s : Sub) (q : Kind) (f : Term) → Solved n m l k rs s →
    kind (apply s f) ≡ q → Solved n m l k (rs ++ IsFormed q f ∷ []) s
formed_more n m l k rs s q f g e = record {
  more = g.more;
  solves = meet_append s rs (IsFormed q f ∷ []) g.solves (e, tt);
  general = λ u x h. g.general u x (meet_left u rs (IsFormed q f ∷ []) h);
}
