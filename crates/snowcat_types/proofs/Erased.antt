-- No operator type stands in most general types: where operator types are made something else, what is asked is still met.
use Rattle.std.proofs.Common.{◌≡◌, ℕ, zero, suc, ◌<◌, List, [], ◌∷◌, refl, ap, sym, ◌∙◌, Option, Some, None}
use Rattle.snowcat_rows.specs.Types.{Term, Slot, Head, var, con, app, fields, none, some, BoolHead, IntHead, StrHead, NamedHead, SetHead, SeqHead, FunHead, TupHead, OperHead, EndHead}
use Rattle.snowcat_rows.specs.Substitutions.{Sub, apply, apply_slot, or_else, tail_row}
use Rattle.snowcat_rows.specs.Throughout.{ThroughoutSlot}
use Rattle.snowcat_rows.specs.Operators.{IsNoOperator, HasNoOperator}
use Rattle.snowcat_types.specs.Requirements.{kind, Requirement, Equal, ItemOf, FieldOf, IsFormed, Never, item_of, item_at, field_at, Meets, MeetAll}
use Rattle.snowcat_types.specs.Typings.{Principal}
use Rattle.snowcat_types.proofs.Held.{RequirementHas, AllRequired}

abbrev erased_head : Head → Head
erased_head OperHead = BoolHead
erased_head h = h

abbrev mutual
  pub erased : Term → Term
  erased (var v) = var v
  erased (con h) = con (erased_head h)
  erased (app a b) = app (erased a) (erased b)
  erased (fields f k) = fields (λ x. erased_slot (f x)) k

  pub erased_slot : Slot → Slot
  erased_slot none = none
  erased_slot (some t) = some (erased t)

abbrev pub erased_sub : Sub → Sub
erased_sub s = record {
  type_of = λ v. erased (s.type_of v);
  row_of = λ r. record { at = λ x. erased_slot ((s.row_of r).at x); tail = (s.row_of r).tail };
}

-- ---- types without operator types

head_kept : (h : Head) → IsNoOperator h → con h ≡ con (erased_head h)
head_kept BoolHead i = refl
head_kept IntHead i = refl
head_kept StrHead i = refl
head_kept (NamedHead x) i = refl
head_kept SetHead i = refl
head_kept SeqHead i = refl
head_kept FunHead i = refl
head_kept TupHead i = refl
head_kept OperHead i = absurd i
head_kept EndHead i = refl

abbrev NoSlot : Slot → Type 0
NoSlot = ThroughoutSlot (λ v. Unit {0}) IsNoOperator (λ k. Unit {0})

slot_joined : (s : Sub) (x y : Slot) (z : Slot) → z ≡ erased_slot (apply_slot s x) → or_else z (erased_slot y) ≡ erased_slot (or_else (apply_slot s x) y)
slot_joined s none y z e = ap (λ w. or_else w (erased_slot y)) e
slot_joined s (some t) y z e = ap (λ w. or_else w (erased_slot y)) e

tail_at : (s : Sub) (k : Option ℕ) (x : List ℕ) → (tail_row (erased_sub s) k).at x ≡ erased_slot ((tail_row s k).at x)
tail_at s None x = refl
tail_at s (Some r) x = refl

tail_tail : (s : Sub) (k : Option ℕ) → (tail_row (erased_sub s) k).tail ≡ (tail_row s k).tail
tail_tail s None = refl
tail_tail s (Some r) = refl

mutual
  pub erased_apply : (s : Sub) (t : Term) → HasNoOperator t → apply (erased_sub s) t ≡ erased (apply s t)
  erased_apply s (var v) h = refl
  erased_apply s (con c) h = head_kept c h
  erased_apply s (app a b) h = λ i. app (erased_apply s a h.0 i) (erased_apply s b h.1 i)
  erased_apply s (fields f k) h = λ i. fields
      (λ x. (ap (λ w. or_else (apply_slot (erased_sub s) (f x)) w) (tail_at s k x)
      ∙ slot_joined s (f x) ((tail_row s k).at x) (apply_slot (erased_sub s) (f x)) (erased_apply_slot s (f x) (h.0 x))) i)
      (tail_tail s k i)

  erased_apply_slot : (s : Sub) (x : Slot) → NoSlot x → apply_slot (erased_sub s) x ≡ erased_slot (apply_slot s x)
  erased_apply_slot s none h = refl
  erased_apply_slot s (some t) h = ap some (erased_apply s t h)

-- ---- what is asked is still met

item_row_erased : (t : Term) (n : ℕ) (u : Term) → item_of t n ≡ some u → item_of (erased t) n ≡ some (erased u)
item_row_erased (app x rest) (suc zero) u e = ap erased_slot e
item_row_erased (app x rest) (suc (suc n)) u e = item_row_erased rest (suc n) u e
item_row_erased t n u e = absurd (cc)

item_erased : (t : Term) (n : ℕ) (u : Term) → item_at t n ≡ some u → item_at (erased t) n ≡ some (erased u)
item_erased (app (con TupHead) r) n u e = item_row_erased r n u e
item_erased t n u e = absurd (cc)

field_erased : (t : Term) (x : List ℕ) (u : Term) → field_at t x ≡ some u → field_at (erased t) x ≡ some (erased u)
field_erased (fields f k) x u e = ap erased_slot e
field_erased t x u e = absurd (cc)

kind_erased : (t : Term) → kind (erased t) ≡ kind t
kind_erased (var v) = refl
kind_erased (con h) = refl
kind_erased (app (var v) b) = refl
kind_erased (app (con BoolHead) b) = refl
kind_erased (app (con IntHead) b) = refl
kind_erased (app (con StrHead) b) = refl
kind_erased (app (con (NamedHead x)) b) = refl
kind_erased (app (con SetHead) b) = refl
kind_erased (app (con SeqHead) b) = refl
kind_erased (app (con FunHead) b) = refl
kind_erased (app (con TupHead) b) = refl
kind_erased (app (con OperHead) b) = refl
kind_erased (app (con EndHead) b) = refl
kind_erased (app (app a c) b) = refl
kind_erased (app (fields f k) b) = refl
kind_erased (fields f k) = refl

meets_erased : (s : Sub) (q : Requirement) → RequirementHas HasNoOperator q → Meets s q → Meets (erased_sub s) q
meets_erased s (Equal a b) h e = erased_apply s a h.0 ∙ ap erased e ∙ sym (erased_apply s b h.1)
meets_erased s (ItemOf t n u) h e =
    ap (λ z. item_at z n) (erased_apply s t h.0) ∙ item_erased (apply s t) n (apply s u) e ∙ ap some (sym (erased_apply s u h.1))
meets_erased s (FieldOf t x u) h e =
    ap (λ z. field_at z x) (erased_apply s t h.0) ∙ field_erased (apply s t) x (apply s u) e ∙ ap some (sym (erased_apply s u h.1))
meets_erased s (IsFormed k t) h e = ap kind (erased_apply s t h.0) ∙ kind_erased (apply s t) ∙ e
meets_erased s Never h e = e

all_erased : (s : Sub) (rs : List Requirement) → AllRequired HasNoOperator rs → MeetAll s rs → MeetAll (erased_sub s) rs
all_erased s [] h m = tt
all_erased s (q ∷ qs) h m = (meets_erased s q h.0 m.0, all_erased s qs h.1 m.1)

-- ---- so most general types have none

head_differs : (h : Head) → con (erased_head h) ≡ con h → IsNoOperator h
head_differs OperHead e = cc
head_differs BoolHead e = tt
head_differs h e = tt

app_left : (a b c d : Term) → app a b ≡ app c d → a ≡ c
app_left a b c d e = cc

app_right : (a b c d : Term) → app a b ≡ app c d → b ≡ d
app_right a b c d e = cc

abbrev at_of : Term → List ℕ → Slot
at_of (fields f k) x = f x
at_of t x = none

abbrev type_in : Slot → Term → Term
type_in none d = d
type_in (some t) d = t

mutual
  kept_plain : (r : Sub) (t : Term) → erased t ≡ apply r t → HasNoOperator t
  kept_plain r (var v) e = tt
  kept_plain r (con h) e = head_differs h e
  kept_plain r (app a b) e =
      (kept_plain r a (app_left (erased a) (erased b) (apply r a) (apply r b) e), kept_plain r b (app_right (erased a) (erased b) (apply r a) (apply r b) e))
  kept_plain r (fields f k) e =
      (λ x. kept_slot r (f x) ((tail_row r k).at x) (fields_at x), tt)
    where
      fields_at : (x : List ℕ) → erased_slot (f x) ≡ or_else (apply_slot r (f x)) ((tail_row r k).at x)
      fields_at x = ap (λ z. at_of z x) e

  kept_slot : (r : Sub) (x y : Slot) → erased_slot x ≡ or_else (apply_slot r x) y → NoSlot x
  kept_slot r none y e = tt
  kept_slot r (some t) y e = kept_plain r t (ap (λ z. type_in z t) e)

pub principal_plain : (n : ℕ) (rs : List Requirement) (s : Sub) → AllRequired HasNoOperator rs → Principal n rs s → (v : ℕ) → v < n → HasNoOperator (s.type_of v)
principal_plain n rs s h p v lt =
    let g = p.general (erased_sub s) (all_erased s rs h p.meets) in
    kept_plain g.0 (s.type_of v) (g.1 v lt)
