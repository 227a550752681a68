-- Laws of substitutions with rows.
use Rattle.std.proofs.Common.{◌≡◌, ℕ, ◌==◌, if◌then◌else◌, ◌⊎◌, inl, inr, List, [], ◌∷◌, refl, ap, sym, ◌∙◌, subst, Option, Some, None}
use Rattle.std.proofs.lemmas.Bool.Decides.{eqb_tells}
use Rattle.snowcat_rows.specs.Types.{Term, Slot, var, con, app, fields, none, some}
use Rattle.snowcat_rows.specs.inner.Parts.{Part, PartSlot}
use Rattle.snowcat_rows.specs.inner.Rounds.{only, Is}
use Rattle.snowcat_rows.specs.Substitutions.{Row, Sub, apply, apply_slot, apply_row, or_else, tail_row, then_sub, same_sub}
use Rattle.snowcat_rows.specs.Chains.{Variable, type_var, row_var, Stands, Ends, Binding, to_type, to_row, single, solved, sub_of, Occurs, OccursSlot, OccursRow, OccursIn, key, Keeps, Solves, Absent, Chain}

abbrev the_row : (List ℕ → Slot) → Option ℕ → Row
the_row f k = record { at = f; tail = k }

pub or_none : (x : Slot) → or_else x none ≡ x
or_none none = refl
or_none (some t) = refl

or_or : (r : Sub) (x y z : Slot) → or_else (apply_slot r (or_else x y)) z ≡ or_else (apply_slot r x) (or_else (apply_slot r y) z)
or_or r none y z = refl
or_or r (some t) y z = refl

mutual
  pub apply_apply : (r s : Sub) (u : Term) → apply r (apply s u) ≡ apply (then_sub r s) u
  apply_apply r s (var v) = refl
  apply_apply r s (con h) = refl
  apply_apply r s (app a b) = λ i. app (apply_apply r s a i) (apply_apply r s b i)
  apply_apply r s (fields f None) = λ i. fields (λ n. slot_slot r s (f n) none none i) None
  apply_apply r s (fields f (Some k)) = λ i. fields (λ n. slot_slot r s (f n) ((s.row_of k).at n) ((tail_row r (s.row_of k).tail).at n) i) (tail_row r (s.row_of k).tail).tail

  slot_slot : (r s : Sub) (x y z : Slot) → or_else (apply_slot r (or_else (apply_slot s x) y)) z ≡ or_else (apply_slot (then_sub r s) x) (or_else (apply_slot r y) z)
  slot_slot r s none y z = refl
  slot_slot r s (some t) y z = ap some (apply_apply r s t)

pub row_row : (r s : Sub) (at' : List ℕ → Slot) (k : Option ℕ) →
    apply_row r (apply_row s (record { at = at'; tail = k })) ≡ apply_row (then_sub r s) (record { at = at'; tail = k })
row_row r s f None = λ i. record { at = λ n. slot_slot r s (f n) none none i; tail = None }
row_row r s f (Some k) = λ i. record { at = λ n. slot_slot r s (f n) ((s.row_of k).at n) ((tail_row r (s.row_of k).tail).at n) i; tail = (tail_row r (s.row_of k).tail).tail }

-- ---- nothing changed

mutual
  pub apply_same : (u : Term) → apply same_sub u ≡ u
  apply_same (var v) = refl
  apply_same (con h) = refl
  apply_same (app a b) = λ i. app (apply_same a i) (apply_same b i)
  apply_same (fields f None) = λ i. fields (λ n. slot_same (f n) i) None
  apply_same (fields f (Some k)) = λ i. fields (λ n. slot_same (f n) i) (Some k)

  slot_same : (x : Slot) → or_else (apply_slot same_sub x) none ≡ x
  slot_same none = refl
  slot_same (some t) = ap some (apply_same t)

-- ---- one binding

pub type_off : (b : Binding) (v : ℕ) → (type_var v ≡ key b → ⊥) → (single b).type_of v ≡ var v
type_off (to_type w t) v n = elim (eqb_tells v w) [ inl h ↦ absurd (n (ap type_var h.1)) | inr h ↦ rw h.0 refl ]
type_off (to_row w t) v n = refl

pub row_off : (b : Binding) (v : ℕ) → (row_var v ≡ key b → ⊥) → (single b).row_of v ≡ same_sub.row_of v
row_off (to_type w t) v n = refl
row_off (to_row w t) v n = elim (eqb_tells v w) [ inl h ↦ absurd (n (ap row_var h.1)) | inr h ↦ rw h.0 refl ]

pub tail_off : (b : Binding) (k : Option ℕ) → ((v : ℕ) → k ≡ Some v → row_var v ≡ key b → ⊥) → tail_row (single b) k ≡ tail_row same_sub k
tail_off b None n = refl
tail_off b (Some v) n = row_off b v (n v refl)

tail_end : (f : List ℕ → Slot) (k : Option ℕ) → fields (λ m. or_else (f m) ((tail_row same_sub k).at m)) (tail_row same_sub k).tail ≡ fields f k
tail_end f None = λ i. fields (λ m. or_none (f m) i) None
tail_end f (Some k) = λ i. fields (λ m. or_none (f m) i) (Some k)

mutual
  pub single_free : (b : Binding) (u : Term) → (Occurs (key b) u → ⊥) → apply (single b) u ≡ u
  single_free b (var v) n = type_off b v (λ e. n (let P : Variable → Type 0 = λ z. Stands z v in subst P e refl))
  single_free b (con h) n = refl
  single_free b (app x y) n = λ i. app (single_free b x (λ o. n (inl o)) i) (single_free b y (λ o. n (inr o)) i)
  single_free b (fields f k) n =
      let e : tail_row (single b) k ≡ tail_row same_sub k = tail_off b k (λ v h g. n (inr (let P : Variable → Type 0 = λ z. Ends z k in subst P g h))) in
      (λ i. fields (λ m. or_else (free_slot b (f m) (λ o. n (inl (m, o))) i) ((e i).at m)) (e i).tail)
      ∙ tail_end f k

  free_slot : (b : Binding) (x : Slot) → (OccursSlot (key b) x → ⊥) → apply_slot (single b) x ≡ x
  free_slot b none n = refl
  free_slot b (some t) n = ap some (single_free b t n)

-- a substitution that keeps a binding is as it was after it
pub kept_type : (s : Sub) (b : Binding) → Keeps s b → (v : ℕ) → apply s ((single b).type_of v) ≡ s.type_of v
kept_type s (to_type w t) e v = elim (eqb_tells v w) [ inl h ↦ rw h.0 (sym e ∙ ap s.type_of (sym h.1)) | inr h ↦ rw h.0 refl ]
kept_type s (to_row w t) e v = refl

pub kept_row : (s : Sub) (b : Binding) → Keeps s b → (v : ℕ) → apply_row s ((single b).row_of v) ≡ s.row_of v
kept_row s (to_type w t) e v = refl
kept_row s (to_row w t) e v = elim (eqb_tells v w) [ inl h ↦ rw h.0 (sym e ∙ ap s.row_of (sym h.1)) | inr h ↦ rw h.0 refl ]

pub kept_sub : (s : Sub) (b : Binding) → Keeps s b → then_sub s (single b) ≡ s
kept_sub s b e = λ i. record { type_of = λ v. kept_type s b e v i; row_of = λ v. kept_row s b e v i }

pub solved_kept : (s : Sub) (bs : List Binding) (u : Term) → Solves s bs → apply s (solved bs u) ≡ apply s u
solved_kept s [] u h = refl
solved_kept s (b ∷ bs) u h =
    solved_kept s bs (apply (single b) u) h.1 ∙ apply_apply s (single b) u ∙ ap (λ r. apply r u) (kept_sub s b h.0)

-- what solves a chain is the chain and then itself
pub chain_first : (s : Sub) (bs : List Binding) → Solves s bs → then_sub s (sub_of bs) ≡ s
chain_first s [] h = refl
chain_first s (b ∷ bs) h = assoc s (sub_of bs) (single b) ∙ ap (λ r. then_sub r (single b)) (chain_first s bs h.1) ∙ kept_sub s b h.0
  where
    assoc : (p q r : Sub) → then_sub p (then_sub q r) ≡ then_sub (then_sub p q) r
    assoc p q r = λ i. record { type_of = λ v. apply_apply p q (r.type_of v) i; row_of = λ v. row_row p q (r.row_of v).at (r.row_of v).tail i }

pub solved_is : (bs : List Binding) (u : Term) → solved bs u ≡ apply (sub_of bs) u
solved_is [] u = sym (apply_same u)
solved_is (b ∷ bs) u = solved_is bs (apply (single b) u) ∙ apply_apply (sub_of bs) (single b) u

-- ---- a chain solves itself

pub single_at_type : (v : ℕ) (t : Term) → (single (to_type v t)).type_of v ≡ t
single_at_type v t = elim (eqb_tells v v) [ inl h ↦ rw h.0 refl | inr h ↦ absurd (h.1 refl) ]

pub single_at_row : (v : ℕ) (w : Row) → (single (to_row v w)).row_of v ≡ w
single_at_row v w = elim (eqb_tells v v) [ inl h ↦ rw h.0 refl | inr h ↦ absurd (h.1 refl) ]

-- a row without the variable is as it was
free_row : (b : Binding) (w : Row) → (OccursRow (key b) w → ⊥) → apply_row (single b) w ≡ w
free_row b w n =
    let e : tail_row (single b) w.tail ≡ tail_row same_sub w.tail = tail_off b w.tail (λ v h g. n (inr (let P : Variable → Type 0 = λ z. Ends z w.tail in subst P g h))) in
    (λ i. record { at = λ m. or_else (free_slot b (w.at m) (λ o. n (inl (m, o))) i) ((e i).at m); tail = (e i).tail })
    ∙ row_end w.at w.tail
  where
    row_end : (f : List ℕ → Slot) (k : Option ℕ) → the_row (λ m. or_else (f m) ((tail_row same_sub k).at m)) (tail_row same_sub k).tail ≡ the_row f k
    row_end f None = λ i. record { at = λ m. or_none (f m) i; tail = None }
    row_end f (Some k) = λ i. record { at = λ m. or_none (f m) i; tail = Some k }

keeps_own : (s : Sub) (b : Binding) → (OccursIn (key b) b → ⊥) → Keeps (then_sub s (single b)) b
keeps_own s (to_type v t) n =
    ap (apply s) (single_at_type v t ∙ sym (single_free (to_type v t) t n)) ∙ apply_apply s (single (to_type v t)) t
keeps_own s (to_row v w) n =
    ap (apply_row s) (single_at_row v w ∙ sym (free_row (to_row v w) w n)) ∙ row_row s (single (to_row v w)) w.at w.tail

keeps_later : (s : Sub) (b d : Binding) → (key b ≡ key d → ⊥) → (OccursIn (key b) d → ⊥) → Keeps s d → Keeps (then_sub s (single b)) d
keeps_later s b (to_type v t) n o e =
    ap (apply s) (type_off b v (λ h. n (sym h))) ∙ e ∙ sym (ap (apply s) (single_free b t o)) ∙ apply_apply s (single b) t
keeps_later s b (to_row v w) n o e =
    ap (apply_row s) (row_off b v (λ h. n (sym h))) ∙ e ∙ sym (ap (apply_row s) (free_row b w o)) ∙ row_row s (single b) w.at w.tail

pub chain_solves : (bs : List Binding) → Chain bs → Solves (sub_of bs) bs
chain_solves [] c = tt
chain_solves (b ∷ bs) c = (keeps_own (sub_of bs) b c.0, later bs c.1.0 (chain_solves bs c.1.1))
  where
    later : (cs : List Binding) → Absent (key b) cs → Solves (sub_of bs) cs → Solves (then_sub (sub_of bs) (single b)) cs
    later [] a h = tt
    later (d ∷ cs) a h = (keeps_later (sub_of bs) b d a.0 a.1.0 h.0, later cs a.1.1 h.1)

-- ---- two records with other fields, and a new row variable for the rest

abbrev pub renewed : Sub → ℕ → Row → Sub
renewed s m w = record { type_of = s.type_of; row_of = λ v. if v == m then w else s.row_of v }

-- of a name, in each record and in what follows each: the rows that follow are the names of the other and a rest
pub record Split (s : Sub) (x y p q : Slot) : Type 0 where
  pub left : p ≡ or_else (apply_slot s (only y x)) (only (only p x) y)
  pub right : q ≡ or_else (apply_slot s (only x y)) (only (only p x) y)

split : (s : Sub) (x y p q : Slot) → (Is x → p ≡ none) → (Is y → q ≡ none) → or_else (apply_slot s x) p ≡ or_else (apply_slot s y) q → Split s x y p q
split s none none p q f g e = record { left = refl; right = sym e }
split s none (some t) p q f g e = record { left = e; right = g tt }
split s (some t) none p q f g e = record { left = f tt; right = sym e }
split s (some t) (some u) p q f g e = record { left = f tt; right = g tt }

-- the row that stands for the rest
abbrev pub rest_row : Sub → (List ℕ → Slot) → (List ℕ → Slot) → ℕ → Row
rest_row s f g r = record { at = λ n. only (only ((s.row_of r).at n) (f n)) (g n); tail = (s.row_of r).tail }

at_of : Term → List ℕ → Slot
at_of (var v) n = none
at_of (con h) n = none
at_of (app a b) n = none
at_of (fields f k) n = f n

tail_of : Term → Option ℕ
tail_of (var v) = None
tail_of (con h) = None
tail_of (app a b) = None
tail_of (fields f k) = k

-- what is equal under s: each solution gives the two variables the other's names and one rest
module _ (s : Sub) (f g : List ℕ → Slot) (r q : ℕ) (e : apply s (fields f (Some r)) ≡ apply s (fields g (Some q)))
    (lf : (n : List ℕ) → Is (f n) → (s.row_of r).at n ≡ none) (lg : (n : List ℕ) → Is (g n) → (s.row_of q).at n ≡ none) where
  at_name : (n : List ℕ) → Split s (f n) (g n) ((s.row_of r).at n) ((s.row_of q).at n)
  unfolding at_of
  at_name n = split s (f n) (g n) ((s.row_of r).at n) ((s.row_of q).at n) (lf n) (lg n) (ap (λ t. at_of t n) e)

  same_tail : (s.row_of r).tail ≡ (s.row_of q).tail
  unfolding tail_of
  same_tail = ap tail_of e

  pub row_left : s.row_of r ≡ the_row (λ n. or_else (apply_slot s (only (g n) (f n))) (only (only ((s.row_of r).at n) (f n)) (g n))) (s.row_of r).tail
  row_left = λ i. record { at = λ n. (at_name n).left i; tail = (s.row_of r).tail }

  pub row_right : s.row_of q ≡ the_row (λ n. or_else (apply_slot s (only (f n) (g n))) (only (only ((s.row_of r).at n) (f n)) (g n))) (s.row_of r).tail
  row_right = λ i. record { at = λ n. (at_name n).right i; tail = same_tail' i }
    where
      same_tail' : (s.row_of q).tail ≡ (s.row_of r).tail
      same_tail' = sym same_tail

-- ---- a substitution with a new variable says the same of types without it

pub renewed_at : (s : Sub) (m : ℕ) (w : Row) → (renewed s m w).row_of m ≡ w
renewed_at s m w = elim (eqb_tells m m) [ inl h ↦ rw h.0 refl | inr h ↦ absurd (h.1 refl) ]

pub renewed_off : (s : Sub) (m v : ℕ) (w : Row) → (v ≡ m → ⊥) → (renewed s m w).row_of v ≡ s.row_of v
renewed_off s m v w n = elim (eqb_tells v m) [ inl h ↦ absurd (n h.1) | inr h ↦ rw h.0 refl ]

renewed_tail : (s : Sub) (m : ℕ) (w : Row) (k : Option ℕ) → (k ≡ Some m → ⊥) → tail_row (renewed s m w) k ≡ tail_row s k
renewed_tail s m w None n = refl
renewed_tail s m w (Some v) n = renewed_off s m v w (λ e. n (ap Some e))

mutual
  pub renewed_same : (s : Sub) (m : ℕ) (w : Row) (u : Term) → (Occurs (row_var m) u → ⊥) → apply (renewed s m w) u ≡ apply s u
  renewed_same s m w (var v) n = refl
  renewed_same s m w (con h) n = refl
  renewed_same s m w (app a b) n = λ i. app (renewed_same s m w a (λ o. n (inl o)) i) (renewed_same s m w b (λ o. n (inr o)) i)
  renewed_same s m w (fields f k) n =
      let e : tail_row (renewed s m w) k ≡ tail_row s k = renewed_tail s m w k (λ h. n (inr h)) in
      λ i. fields (λ x. or_else (renewed_slot s m w (f x) (λ o. n (inl (x, o))) i) ((e i).at x)) (e i).tail

  pub renewed_slot : (s : Sub) (m : ℕ) (w : Row) (x : Slot) → (OccursSlot (row_var m) x → ⊥) → apply_slot (renewed s m w) x ≡ apply_slot s x
  renewed_slot s m w none n = refl
  renewed_slot s m w (some t) n = ap some (renewed_same s m w t n)

-- ---- no type is a part of itself

mutual
  pub part_trans : (x y z : Term) → Part x y → Part y z → Part x z
  part_trans x y (var v) p q = absurd q
  part_trans x y (con h) p q = absurd q
  part_trans x y (app a b) p (inl (inl e)) = inl (inr (let P : Term → Type 0 = λ t. Part x t in subst P e p))
  part_trans x y (app a b) p (inl (inr q)) = inl (inr (part_trans x y a p q))
  part_trans x y (app a b) p (inr (inl e)) = inr (inr (let P : Term → Type 0 = λ t. Part x t in subst P e p))
  part_trans x y (app a b) p (inr (inr q)) = inr (inr (part_trans x y b p q))
  part_trans x y (fields f k) p (n, q) = (n, part_trans_slot x y (f n) p q)

  part_trans_slot : (x y : Term) (z : Slot) → Part x y → PartSlot y z → PartSlot x z
  part_trans_slot x y none p q = absurd q
  part_trans_slot x y (some t) p (inl e) = inr (let P : Term → Type 0 = λ t. Part x t in subst P e p)
  part_trans_slot x y (some t) p (inr q) = inr (part_trans x y t p q)

part_or_same : (a t : Term) → (t ≡ a) ⊎ Part t a → Part a t → Part a a
part_or_same a t (inl e) p = let P : Term → Type 0 = λ u. Part a u in subst P e p
part_or_same a t (inr q) p = part_trans a t a p q

mutual
  pub not_part : (t : Term) → Part t t → ⊥
  not_part (var v) p = p
  not_part (con h) p = p
  not_part (app a b) (inl p) = not_part a (part_or_same a (app a b) p (inl (inl refl)))
  not_part (app a b) (inr p) = not_part b (part_or_same b (app a b) p (inr (inl refl)))
  not_part (fields f k) (n, p) = not_part_slot (f n) (fields f k) p (λ t e. (n, let P : Slot → Type 0 = λ x. PartSlot t x in subst P (sym e) (inl refl)))

  not_part_slot : (x : Slot) (y : Term) → PartSlot y x → ((t : Term) → x ≡ some t → Part t y) → ⊥
  not_part_slot none y p f = p
  not_part_slot (some t) y p f = not_part t (part_or_same t y p (f t refl))

-- ---- a row variable within a type that its row would hold

abbrev pub HasRow : ℕ → Term → Type 0
HasRow r u = Occurs (row_var r) u

abbrev pub HasRowSlot : ℕ → Slot → Type 0
HasRowSlot r x = OccursSlot (row_var r) x

through : (y z : Slot) (x : Term) → PartSlot x y → PartSlot x (or_else y z)
through none z x p = absurd p
through (some t) z x p = p

-- each occurrence of the variable lets the name through
mutual
  pub exposed : (s : Sub) (r : ℕ) (m : List ℕ) (x u : Term) → (s.row_of r).at m ≡ some x → HasRow r u →
      ((f : List ℕ → Slot) → Part (fields f (Some r)) u ⊎ (fields f (Some r) ≡ u) → f m ≡ none) → Part x (apply s u)
  exposed s r m x (var w) e o c = absurd o
  exposed s r m x (con h) e o c = absurd o
  exposed s r m x (app a b) e (inl o) c = inl (inr (exposed s r m x a e o (λ f p. c f (inl (inl (elim p [ inl q ↦ inr q | inr q ↦ inl q ]))))))
  exposed s r m x (app a b) e (inr o) c = inr (inr (exposed s r m x b e o (λ f p. c f (inl (inr (elim p [ inl q ↦ inr q | inr q ↦ inl q ]))))))
  exposed s r m x (fields f k) e (inl (n, o)) c =
      (n, through (apply_slot s (f n)) ((tail_row s k).at n) x (exposed_slot s r m x (f n) e o (λ t h g p. c g (inl (n, let P : Slot → Type 0 = λ z. PartSlot (fields g (Some r)) z in subst P (sym h) (elim p [ inl q ↦ inr q | inr q ↦ inl q ]))))))
  exposed s r m x (fields f k) e (inr o) c =
      let h : f m ≡ none = c f (inr (ap (fields f) (sym o))) in
      let i : or_else (apply_slot s (f m)) ((tail_row s k).at m) ≡ some x = ap (λ z. or_else (apply_slot s z) ((tail_row s k).at m)) h ∙ ap (λ z. (tail_row s z).at m) o ∙ e in
      (m, let P : Slot → Type 0 = λ z. PartSlot x z in subst P (sym i) (inl refl))

  exposed_slot : (s : Sub) (r : ℕ) (m : List ℕ) (x : Term) (z : Slot) → (s.row_of r).at m ≡ some x → HasRowSlot r z →
      ((t : Term) → z ≡ some t → (f : List ℕ → Slot) → Part (fields f (Some r)) t ⊎ (fields f (Some r) ≡ t) → f m ≡ none) → PartSlot x (apply_slot s z)
  exposed_slot s r m x none e o c = absurd o
  exposed_slot s r m x (some t) e o c = inr (exposed s r m x t e o (c t refl))

-- so no substitution gives it
pub row_apart : (s : Sub) (r : ℕ) (m : List ℕ) (u : Term) → HasRow r u →
    ((f : List ℕ → Slot) → Part (fields f (Some r)) u ⊎ (fields f (Some r) ≡ u) → f m ≡ none) → (s.row_of r).at m ≡ some (apply s u) → ⊥
row_apart s r m u o c e = not_part (apply s u) (exposed s r m (apply s u) u e o c)
