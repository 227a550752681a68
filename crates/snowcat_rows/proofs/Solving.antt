-- What stands in a type once bindings are put in place.
use Rattle.std.proofs.Common.{◌≡◌, ℕ, ◌<◌, ◌≤◌, Bool, if◌then◌else◌, ◌⊎◌, inl, inr, List, [], ◌∷◌, refl, sym, ◌∙◌, subst, Option, Some, None, arith}
use Rattle.std.proofs.lemmas.Bool.Decides.{eqb_tells}
use Rattle.snowcat_rows.specs.Types.{Term, Slot, var, con, app, fields, none, some}
use Rattle.snowcat_rows.specs.inner.Parts.{Part, PartSlot, IsPart}
use Rattle.snowcat_rows.specs.Substitutions.{apply, apply_slot, or_else, tail_row, same_sub}
use Rattle.snowcat_rows.specs.Sorting.{Within, BindingWithin, AllWithin}
use Rattle.snowcat_rows.specs.Chains.{Variable, number, type_var, row_var, Stands, Ends, Binding, to_type, to_row, single, solved, Occurs, OccursSlot, OccursIn, key, Absent, Chain}
use Rattle.snowcat_rows.proofs.General.{Unbound}

-- ---- after one binding

abbrev Came : Variable → Binding → Type 0 → Type 0
Came v b P = (P × (v ≡ key b → ⊥)) ⊎ OccursIn v b

came : (v : Variable) (b : Binding) (P Q : Type 0) → (P → Q) → Came v b P → Came v b Q
came v b P Q f (inl h) = inl (f h.0, h.1)
came v b P Q f (inr h) = inr h

some_same : (i j : ℕ) → Some i ≡ Some j → i ≡ j
some_same i j e = cc

from_type : (v : Variable) (x w : ℕ) → (w ≡ x → ⊥) → Stands v w → v ≡ type_var x → ⊥
from_type (type_var y) x w n o e = n (sym o ∙ names e)
  where
    names : type_var y ≡ type_var x → y ≡ x
    names k = cc
from_type (row_var y) x w n o e = absurd o

from_row : (v : Variable) (r w : ℕ) → Stands v w → v ≡ row_var r → ⊥
from_row (type_var y) r w o e = absurd (cc)
from_row (row_var y) r w o e = absurd o

end_type : (v : Variable) (x : ℕ) (k : Option ℕ) → Ends v k → v ≡ type_var x → ⊥
end_type (type_var y) x k o e = absurd o
end_type (row_var y) x k o e = absurd (cc)

end_row : (v : Variable) (r q : ℕ) → (q ≡ r → ⊥) → Ends v (Some q) → v ≡ row_var r → ⊥
end_row (type_var y) r q n o e = absurd o
end_row (row_var y) r q n o e = n (some_same q y o ∙ names e)
  where
    names : row_var y ≡ row_var r → y ≡ r
    names k = cc

end_none : (v : Variable) → Ends v None → ⊥
end_none (type_var y) o = o
end_none (row_var y) o = absurd (cc)

-- what is found behind a record's own names
tail_at : (v : Variable) (b : Binding) (k : Option ℕ) (n : List ℕ) → OccursSlot v ((tail_row (single b) k).at n) → OccursIn v b
tail_at v b None n o = absurd o
tail_at v (to_type x t) (Some q) n o = absurd o
tail_at v (to_row r w) (Some q) n o =
    elim (eqb_tells q r) [
      | inl h ↦ inl (n, let P : Bool → Type 0 = λ z. OccursSlot v ((if z then w else same_sub.row_of q).at n) in subst P h.0 o)
      | inr h ↦ absurd (let P : Bool → Type 0 = λ z. OccursSlot v ((if z then w else same_sub.row_of q).at n) in subst P h.0 o)
    ]

tail_end : (v : Variable) (b : Binding) (k : Option ℕ) → Ends v (tail_row (single b) k).tail → Came v b (Ends v k)
tail_end v b None o = absurd (end_none v o)
tail_end v (to_type x t) (Some q) o = inl (o, end_type v x (Some q) o)
tail_end v (to_row r w) (Some q) o =
    elim (eqb_tells q r) [
      | inl h ↦ inr (inr (let P : Bool → Type 0 = λ z. Ends v (if z then w else same_sub.row_of q).tail in subst P h.0 o))
      | inr h ↦ (let e : Ends v (Some q) = (let P : Bool → Type 0 = λ z. Ends v (if z then w else same_sub.row_of q).tail in subst P h.0 o) in inl (e, end_row v r q h.1 e))
    ]

mutual
  pub occurs_single : (v : Variable) (b : Binding) (u : Term) → Occurs v (apply (single b) u) → Came v b (Occurs v u)
  occurs_single v (to_type x t) (var w) o =
      elim (eqb_tells w x) [
        | inl h ↦ inr (let P : Bool → Type 0 = λ z. Occurs v (if z then t else var w) in subst P h.0 o)
        | inr h ↦ (let e : Stands v w = (let P : Bool → Type 0 = λ z. Occurs v (if z then t else var w) in subst P h.0 o) in inl (e, from_type v x w h.1 e))
      ]
  occurs_single v (to_row r y) (var w) o = inl (o, from_row v r w o)
  occurs_single v b (con h) o = absurd o
  occurs_single v b (app x y) (inl o) = came v b (Occurs v x) (Occurs v (app x y)) (λ h. inl h) (occurs_single v b x o)
  occurs_single v b (app x y) (inr o) = came v b (Occurs v y) (Occurs v (app x y)) (λ h. inr h) (occurs_single v b y o)
  occurs_single v b (fields f k) (inl (n, o)) =
      came v b (OccursSlot v (f n)) (Occurs v (fields f k)) (λ h. inl (n, h)) (occurs_or v b (f n) ((tail_row (single b) k).at n) (tail_at v b k n) o)
  occurs_single v b (fields f k) (inr o) = came v b (Ends v k) (Occurs v (fields f k)) (λ h. inr h) (tail_end v b k o)

  occurs_or : (v : Variable) (b : Binding) (x y : Slot) → (OccursSlot v y → OccursIn v b) → OccursSlot v (or_else (apply_slot (single b) x) y) → Came v b (OccursSlot v x)
  occurs_or v b none y f o = inr (f o)
  occurs_or v b (some t) y f o = occurs_single v b t o

-- ---- after all

pub occurs_solved : (v : Variable) (bs : List Binding) (u : Term) → Absent v bs → Occurs v (solved bs u) → Occurs v u
occurs_solved v [] u a o = o
occurs_solved v (b ∷ bs) u a o =
    elim (occurs_single v b u (occurs_solved v bs (apply (single b) u) a.1.1 o)) [ inl h ↦ h.0 | inr h ↦ absurd (a.1.0 h) ]

-- no bound variable stands in the type
abbrev pub Clear : List Binding → Term → Type 0
Clear [] u = Unit {0}
Clear (b ∷ bs) u = (Occurs (key b) u → ⊥) × Clear bs u

pub solved_clear : (bs : List Binding) (u : Term) → Chain bs → Clear bs (solved bs u)
solved_clear [] u c = tt
solved_clear (b ∷ bs) u c = (
  λ o. elim (occurs_single (key b) b u (occurs_solved (key b) bs (apply (single b) u) c.1.0 o)) [ inl h ↦ h.1 refl | inr h ↦ c.0 h ],
  solved_clear bs (apply (single b) u) c.1.1,
)

pub clear_sub : (bs : List Binding) (u x : Term) → ((v : Variable) → Occurs v x → Occurs v u) → Clear bs u → Clear bs x
clear_sub [] u x f c = tt
clear_sub (b ∷ bs) u x f c = (λ o. c.0 (f (key b) o), clear_sub bs u x f c.1)

-- so a binding of what stands there is no binding of what is bound
pub clear_unbound : (bs : List Binding) (d : Binding) (x y : Term) → Clear bs x → Clear bs y → Occurs (key d) x ⊎ Occurs (key d) y →
    ((v : Variable) → OccursIn v d → Occurs v x ⊎ Occurs v y) → Unbound bs d
clear_unbound [] d x y cx cy k f = tt
clear_unbound (b ∷ bs) d x y cx cy k f = (
  λ e. own (let P : Variable → Type 0 = λ z. Occurs z x ⊎ Occurs z y in subst P (sym e) k),
  (λ o. own (f (key b) o), clear_unbound bs d x y cx.1 cy.1 k f),
)
  where
    own : Occurs (key b) x ⊎ Occurs (key b) y → ⊥
    own (inl o) = cx.0 o
    own (inr o) = cy.0 o

-- ---- variables below a number

pub within_single : (m : ℕ) (b : Binding) (u : Term) → BindingWithin m b → Within m u → Within m (apply (single b) u)
within_single m b u h w v o = elim (occurs_single v b u o) [ inl k ↦ w v k.0 | inr k ↦ h.1 v k ]

pub within_solved : (m : ℕ) (bs : List Binding) (u : Term) → AllWithin m bs → Within m u → Within m (solved bs u)
within_solved m [] u h w = w
within_solved m (b ∷ bs) u h w = within_solved m bs (apply (single b) u) h.1 (within_single m b u h.0 w)

AllWithin-up : (n m : ℕ) (bs : List Binding) → n ≤ m → AllWithin n bs → AllWithin m bs
AllWithin-up n m [] le h = tt
AllWithin-up n m (b ∷ bs) le h = ((up (key b) h.0.0, λ v o. up v (h.0.1 v o)), AllWithin-up n m bs le h.1)
  where
    up : (v : Variable) → number v < n → number v < m
    up v lt = omega (arith, le, lt)

-- what a type is once all is put in place
pub within_settled : (n m : ℕ) (bs : List Binding) (t r : Term) → AllWithin n bs → n ≤ m → Within m t → r ≡ solved bs t → Within m r
within_settled n m bs t r h le w e =
    let P : Term → Type 0 = λ u. Within m u in
    subst P (sym e) (within_solved m bs t (AllWithin-up n m bs le h) w)

-- ---- parts

mutual
  pub occurs_part : (v : Variable) (x a : Term) → Part x a → Occurs v x → Occurs v a
  occurs_part v x (var w) p o = absurd p
  occurs_part v x (con h) p o = absurd p
  occurs_part v x (app a b) (inl (inl e)) o = inl (let P : Term → Type 0 = λ t. Occurs v t in subst P e o)
  occurs_part v x (app a b) (inl (inr p)) o = inl (occurs_part v x a p o)
  occurs_part v x (app a b) (inr (inl e)) o = inr (let P : Term → Type 0 = λ t. Occurs v t in subst P e o)
  occurs_part v x (app a b) (inr (inr p)) o = inr (occurs_part v x b p o)
  occurs_part v x (fields f k) (n, p) o = inl (n, occurs_slot_part v x (f n) p o)

  occurs_slot_part : (v : Variable) (x : Term) (y : Slot) → PartSlot x y → Occurs v x → OccursSlot v y
  occurs_slot_part v x none p o = absurd p
  occurs_slot_part v x (some t) (inl e) o = let P : Term → Type 0 = λ t. Occurs v t in subst P e o
  occurs_slot_part v x (some t) (inr p) o = occurs_part v x t p o

pub occurs_is_part : (v : Variable) (x a : Term) → IsPart x a → Occurs v x → Occurs v a
occurs_is_part v x a (inl e) o = let P : Term → Type 0 = λ t. Occurs v t in subst P e o
occurs_is_part v x a (inr p) o = occurs_part v x a p o
