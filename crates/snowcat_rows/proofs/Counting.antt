-- Each round leaves fewer variables without a binding.
use Rattle.std.proofs.Common.{◌≡◌, ℕ, zero, suc, ◌+◌, ◌<◌, ◌≤◌, Bool, true, false, ◌||◌, if◌then◌else◌, inl, inr, List, [], ◌∷◌, ◌++◌, refl, ap, sym, ◌∙◌, subst, arith}
use Rattle.std.proofs.lemmas.Bool.Decides.{eqb_tells}
use Rattle.snowcat_rows.specs.Types.{Term}
use Rattle.snowcat_rows.specs.Chains.{Variable, type_var, row_var, Binding, key}
use Rattle.snowcat_rows.specs.inner.Measures.{same_variable, is_bound, open_among, TypesBelow, BindingTypes, AllTypes}
use Rattle.snowcat_rows.proofs.General.{Unbound}
use Rattle.snowcat_rows.proofs.Solving.{occurs_single}
use Rattle.snowcat_rows.specs.Chains.{single, solved}
use Rattle.snowcat_rows.specs.Substitutions.{apply}

or_false : (x y : Bool) → x ≡ false → y ≡ false → (x || y) ≡ false
or_false true y e h = absurd (cc)
or_false false y e h = h

same_is : (v w : Variable) → (v ≡ w → ⊥) → same_variable v w ≡ false
same_is (type_var v) (type_var w) n = elim (eqb_tells v w) [ inl h ↦ absurd (n (ap type_var h.1)) | inr h ↦ h.0 ]
same_is (type_var v) (row_var w) n = refl
same_is (row_var v) (type_var w) n = refl
same_is (row_var v) (row_var w) n = elim (eqb_tells v w) [ inl h ↦ absurd (n (ap row_var h.1)) | inr h ↦ h.0 ]

same_self : (v : Variable) → same_variable v v ≡ true
same_self (type_var v) = elim (eqb_tells v v) [ inl h ↦ h.0 | inr h ↦ absurd (h.1 refl) ]
same_self (row_var v) = elim (eqb_tells v v) [ inl h ↦ h.0 | inr h ↦ absurd (h.1 refl) ]

pub unbound_not : (bs : List Binding) (d : Binding) → Unbound bs d → is_bound (key d) bs ≡ false
unbound_not [] d u = refl
unbound_not (b ∷ bs) d u = or_false (same_variable (key d) (key b)) (is_bound (key d) bs) (same_is (key d) (key b) (λ e. u.0 (sym e))) (unbound_not bs d u.1.1)

bound_snoc : (bs : List Binding) (d : Binding) (v : Variable) → is_bound v (bs ++ d ∷ []) ≡ (is_bound v bs || same_variable v (key d))
bound_snoc [] d v = or_none (same_variable v (key d))
  where
    or_none : (x : Bool) → (x || false) ≡ x
    or_none true = refl
    or_none false = refl
bound_snoc (b ∷ bs) d v = ap (λ z. same_variable v (key b) || z) (bound_snoc bs d v) ∙ assoc (same_variable v (key b)) (is_bound v bs) (same_variable v (key d))
  where
    assoc : (x y z : Bool) → (x || (y || z)) ≡ ((x || y) || z)
    assoc true y z = refl
    assoc false y z = refl

less_open : (x y z : Bool) (p q : ℕ) → y ≡ (x || z) → p ≤ q → (if y then 0 else 1) + p ≤ (if x then 0 else 1) + q
less_open true true z p q e k = omega (arith, k)
less_open true false z p q e k = absurd (cc)
less_open false true z p q e k = omega (arith, k)
less_open false false z p q e k = omega (arith, k)

strictly_here : (x y z : Bool) (p q : ℕ) → y ≡ (x || z) → x ≡ false → z ≡ true → p ≤ q → (if y then 0 else 1) + p < (if x then 0 else 1) + q
strictly_here true y z p q e f g k = absurd (cc)
strictly_here false true z p q e f g k = omega (arith, k)
strictly_here false false true p q e f g k = absurd (cc)
strictly_here false false false p q e f g k = absurd (cc)

strictly_there : (x y z : Bool) (p q : ℕ) → y ≡ (x || z) → p < q → (if y then 0 else 1) + p < (if x then 0 else 1) + q
strictly_there true true z p q e k = omega (arith, k)
strictly_there true false z p q e k = absurd (cc)
strictly_there false true z p q e k = omega (arith, k)
strictly_there false false z p q e k = omega (arith, k)

pub open_le : (f : ℕ → Variable) (n : ℕ) (bs : List Binding) (d : Binding) → open_among f n (bs ++ d ∷ []) ≤ open_among f n bs
open_le f zero bs d = omega arith
open_le f (suc n) bs d = less_open (is_bound (f n) bs) (is_bound (f n) (bs ++ d ∷ [])) (same_variable (f n) (key d)) (open_among f n (bs ++ d ∷ [])) (open_among f n bs) (bound_snoc bs d (f n)) (open_le f n bs d)

pub open_less : (f : ℕ → Variable) (n w : ℕ) (bs : List Binding) (d : Binding) → w < n → f w ≡ key d → is_bound (key d) bs ≡ false →
    open_among f n (bs ++ d ∷ []) < open_among f n bs
open_less f zero w bs d lt e b = absurd (omega (arith, lt))
open_less f (suc n) w bs d lt e b =
    elim (eqb_tells w n) [
      | inl h ↦ strictly_here (is_bound (f n) bs) (is_bound (f n) (bs ++ d ∷ [])) (same_variable (f n) (key d)) (open_among f n (bs ++ d ∷ [])) (open_among f n bs) (bound_snoc bs d (f n))
          (ap (λ z. is_bound z bs) (ap f (sym h.1) ∙ e) ∙ b) (ap (λ z. same_variable z (key d)) (ap f (sym h.1) ∙ e) ∙ same_self (key d)) (open_le f n bs d)
      | inr h ↦ strictly_there (is_bound (f n) bs) (is_bound (f n) (bs ++ d ∷ [])) (same_variable (f n) (key d)) (open_among f n (bs ++ d ∷ [])) (open_among f n bs) (bound_snoc bs d (f n))
          (open_less f n w bs d (below w n lt h.1) e b)
    ]
  where
    below : (w n : ℕ) → w < suc n → (w ≡ n → ⊥) → w < n
    below w n l q = omega arith

pub open_fresh : (f : ℕ → Variable) (m : ℕ) (bs : List Binding) → open_among f (m + 1) bs ≤ open_among f m bs + 1
open_fresh f m bs =
    let e : m + 1 ≡ suc m = omega arith in
    let P : ℕ → Type 0 = λ z. open_among f z bs ≤ open_among f m bs + 1 in
    subst P (sym e) (here (is_bound (f m) bs))
  where
    here : (x : Bool) → (if x then 0 else 1) + open_among f m bs ≤ open_among f m bs + 1
    here true = omega arith
    here false = omega arith

-- ---- type variables below a number

pub AllTypes-snoc : (n : ℕ) (bs : List Binding) (b : Binding) → AllTypes n bs → BindingTypes n b → AllTypes n (bs ++ b ∷ [])
AllTypes-snoc n [] b h k = (k, tt)
AllTypes-snoc n (c ∷ bs) b h k = (h.0, AllTypes-snoc n bs b h.1 k)

pub types_single : (n : ℕ) (b : Binding) (u : Term) → BindingTypes n b → TypesBelow n u → TypesBelow n (apply (single b) u)
types_single n b u h w v o = elim (occurs_single (type_var v) b u o) [ inl k ↦ w v k.0 | inr k ↦ h.1 v k ]

pub types_solved : (n : ℕ) (bs : List Binding) (u : Term) → AllTypes n bs → TypesBelow n u → TypesBelow n (solved bs u)
types_solved n [] u h w = w
types_solved n (b ∷ bs) u h w = types_solved n bs (apply (single b) u) h.1 (types_single n b u h.0 w)
