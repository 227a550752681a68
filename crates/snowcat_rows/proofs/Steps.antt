-- What one binding of a type variable says.
use Rattle.std.proofs.Common.{◌≡◌, ℕ, Bool, true, false, inl, inr, List, [], ◌∷◌, ◌++◌, refl, ap, sym, ◌∙◌, subst, Option}
use Rattle.std.specs.Bool.{MatchBool}
use Rattle.snowcat_rows.specs.declared.types.Ty.{Ty, Rec}
use Rattle.snowcat_rows.specs.Types.{Term, Slot, var, con, app, fields, none, some, mean}
use Rattle.snowcat_rows.specs.inner.Parts.{Part, PartSlot, IsPart}
use Rattle.snowcat_rows.specs.Substitutions.{Sub, apply, apply_slot, or_else, tail_row}
use Rattle.snowcat_rows.specs.Chains.{type_var, Binding, to_type, Occurs, OccursSlot}
use Rattle.snowcat_rows.specs.inner.Rounds.{Advances, left_type, right_type, Stuck, never}
use Rattle.snowcat_rows.specs.Codes.{has, Begins}
use Rattle.snowcat_rows.proofs.RowTheory.{not_part}
use Rattle.snowcat_rows.proofs.Means.{mean-Rec}

-- what a variable stands for is a part of what a type stands for in which it stands
mutual
  exposed : (s : Sub) (v : ℕ) (u : Term) → Occurs (type_var v) u → IsPart (s.type_of v) (apply s u)
  exposed s v (var w) o = inl (ap s.type_of o)
  exposed s v (con h) o = absurd o
  exposed s v (app a b) (inl o) = inr (inl (exposed s v a o))
  exposed s v (app a b) (inr o) = inr (inr (exposed s v b o))
  exposed s v (fields f k) (inl (n, o)) = inr (n, exposed_slot s v (f n) ((tail_row s k).at n) o)
  exposed s v (fields f k) (inr o) = absurd o

  exposed_slot : (s : Sub) (v : ℕ) (x y : Slot) → OccursSlot (type_var v) x → PartSlot (s.type_of v) (or_else (apply_slot s x) y)
  exposed_slot s v none y o = absurd o
  exposed_slot s v (some t) y o = exposed s v t o

never_self : (s : Sub) (v : ℕ) (u : Term) → Occurs (type_var v) u → (var v ≡ u → ⊥) → s.type_of v ≡ apply s u → ⊥
never_self s v (var w) o n e = n (ap var o)
never_self s v (con h) o n e = o
never_self s v (app a b) o n e = proper (exposed s v (app a b) o)
  where
    proper : IsPart (s.type_of v) (apply s (app a b)) → ⊥
    proper (inl h) = within (shape o)
      where
        shape : Occurs (type_var v) (app a b) → Part (s.type_of v) (apply s (app a b))
        shape (inl p) = inl (exposed s v a p)
        shape (inr p) = inr (exposed s v b p)

        within : Part (s.type_of v) (apply s (app a b)) → ⊥
        within p = not_part (apply s (app a b)) (let P : Term → Type 0 = λ z. Part z (apply s (app a b)) in subst P e p)
    proper (inr p) = not_part (apply s (app a b)) (let P : Term → Type 0 = λ z. Part z (apply s (app a b)) in subst P e p)
never_self s v (fields f k) (inl (n, o)) m e =
    not_part (apply s (fields f k)) (let P : Term → Type 0 = λ z. Part z (apply s (fields f k)) in subst P e (n, exposed_slot s v (f n) ((tail_row s k).at n) o))
never_self s v (fields f k) (inr o) m e = absurd o

module _ (x y : Term) (v m : ℕ) (cs ds : List Binding) (unequal : x ≡ y → ⊥) where
  pub type_left : x ≡ var v → (b : Bool) → MatchBool b ((Occurs (type_var v) y → ⊥) × (ds ≡ cs ++ to_type v y ∷ [])) (Occurs (type_var v) y) → MatchBool b (Advances x y m cs ds m) (Stuck x y m)
  type_left e true h = let P : List Binding → Type 0 = λ z. Advances x y m cs z m in subst P (sym h.1) (left_type v e h.0)
  type_left e false o = never (λ s h. never_self s v y o (λ k. unequal (e ∙ k)) (ap (apply s) (sym e) ∙ h))

  pub type_right : y ≡ var v → (b : Bool) → MatchBool b ((Occurs (type_var v) x → ⊥) × (ds ≡ cs ++ to_type v x ∷ [])) (Occurs (type_var v) x) → MatchBool b (Advances x y m cs ds m) (Stuck x y m)
  type_right e true h = let P : List Binding → Type 0 = λ z. Advances x y m cs z m in subst P (sym h.1) (right_type v e h.0)
  type_right e false o = never (λ s h. never_self s v x o (λ k. unequal (sym k ∙ sym e)) (ap (apply s) (sym e) ∙ sym h))

pub rec_is : (a : Ty) (xs us : List (List ℕ × Ty)) (k : Option ℕ) → a ≡ Rec xs k → us ≡ xs → mean a ≡ fields (has us) k
rec_is a xs us k e h = ap mean e ∙ mean-Rec xs k ∙ ap (λ l. fields (has l) k) (sym h)

-- of records, by what stands for them
pub for_records : (x y u w : Term) (m p : ℕ) (cs ds : List Binding) (b : Bool) → x ≡ u → y ≡ w → MatchBool b (Advances u w m cs ds p) (Stuck u w m) → MatchBool b (Advances x y m cs ds p) (Stuck x y m)
for_records x y u w m p cs ds b e h k =
    let P : Term → Type 0 = λ z. MatchBool b (Advances z y m cs ds p) (Stuck z y m) in
    let Q : Term → Type 0 = λ z. MatchBool b (Advances u z m cs ds p) (Stuck u z m) in
    subst P (sym e) (subst Q (sym h) k)

pub begins_same : {A : Type 0} (l : List A) → Begins l l
begins_same l = ([], sym (none_more l))
  where
    none_more : {A : Type 0} (l : List A) → l ++ [] ≡ l
    none_more [] = refl
    none_more (a ∷ l) = ap (λ z. a ∷ z) (none_more l)
