-- A round's bindings follow from the two types, and what is stuck is never equal.
use Rattle.std.proofs.Common.{◌≡◌, ℕ, ◌+◌, ◌<◌, Bool, true, false, ◌||◌, ◌⊎◌, inl, inr, List, [], ◌∷◌, ◌++◌, refl, ap, sym, ◌∙◌, subst, arith, append_assoc, Option, Some, None}
use Rattle.std.proofs.lemmas.Bool.Decides.{eqb_tells}
use Rattle.snowcat_rows.specs.Types.{Term, Slot, var, con, app, fields, none, some}
use Rattle.snowcat_rows.specs.inner.Parts.{Part, PartSlot, IsPart}
use Rattle.snowcat_rows.specs.Substitutions.{Sub, apply, apply_slot, apply_row, or_else, tail_row, then_sub, same_sub, Fits, Fronts, Sorted, SortedSlot, Present}
use Rattle.snowcat_rows.specs.Sorting.{Within, RowSorted, Follows, BindingSorted}
use Rattle.snowcat_rows.specs.Chains.{Variable, type_var, row_var, Binding, to_type, to_row, single, solved, Occurs, OccursSlot, OccursIn, key, Keeps}
use Rattle.snowcat_rows.specs.FirstDifferences.{Common}
use Rattle.snowcat_rows.specs.inner.Rounds.{only, others, Is, SameNames, extra, extra_after, Covers, Advances, left_type, right_type, left_row, right_row, both_rows, Stuck, never, row_left, row_right, row_after, same_tail}
use Rattle.snowcat_rows.specs.inner.Measures.{TypesBelow}
use Rattle.snowcat_rows.proofs.RowTheory.{apply_apply, kept_sub, or_none, row_off, single_at_row, renewed, renewed_same, rest_row, row_apart}
use Rattle.snowcat_rows.proofs.Sorts.{Sorted-single, SortedSlot-single, more_fronts, is_some, keeps_left}
use Rattle.snowcat_rows.proofs.General.{Reached, step, step_fresh, keeps_one, sorted_agree, sorted_slot_agree, fronts_off, fronts_at, follows_new, follows_other, sorted_only}
use Rattle.snowcat_rows.proofs.Solving.{Clear}
use Rattle.snowcat_rows.proofs.Advancing.{Plain, add_one, occurs_extra, first_unbound, second_unbound, second_within, second_own}

-- ---- parts are sorted

mutual
  pub sorted_part : (l : Fronts) (x a : Term) → Part x a → Sorted l a → Sorted l x
  sorted_part l x (var v) p h = absurd p
  sorted_part l x (con c) p h = absurd p
  sorted_part l x (app a b) (inl (inl e)) h = let P : Term → Type 0 = λ t. Sorted l t in subst P (sym e) h.0
  sorted_part l x (app a b) (inl (inr p)) h = sorted_part l x a p h.0
  sorted_part l x (app a b) (inr (inl e)) h = let P : Term → Type 0 = λ t. Sorted l t in subst P (sym e) h.1
  sorted_part l x (app a b) (inr (inr p)) h = sorted_part l x b p h.1
  sorted_part l x (fields f k) (n, p) h = sorted_slot_part l x (f n) p (h.0 n)

  sorted_slot_part : (l : Fronts) (x : Term) (y : Slot) → PartSlot x y → SortedSlot l y → Sorted l x
  sorted_slot_part l x none p h = absurd p
  sorted_slot_part l x (some t) (inl e) h = let P : Term → Type 0 = λ t. Sorted l t in subst P (sym e) h
  sorted_slot_part l x (some t) (inr p) h = sorted_part l x t p h

pub sorted_is_part : (l : Fronts) (x a : Term) → IsPart x a → Sorted l a → Sorted l x
sorted_is_part l x a (inl e) h = let P : Term → Type 0 = λ t. Sorted l t in subst P (sym e) h
sorted_is_part l x a (inr p) h = sorted_part l x a p h

sorted_at : (l : Fronts) (x u : Term) → x ≡ u → Sorted l x → Sorted l u
sorted_at l x u e h = let P : Term → Type 0 = λ t. Sorted l t in subst P e h

within_at : (m : ℕ) (x u : Term) → x ≡ u → Within m x → Within m u
within_at m x u e h = let P : Term → Type 0 = λ t. Within m t in subst P e h

equal_at : (s : Sub) (x y u w : Term) → x ≡ u → y ≡ w → apply s x ≡ apply s y → apply s u ≡ apply s w
equal_at s x y u w e i h = ap (apply s) (sym e) ∙ h ∙ ap (apply s) i

-- ---- what fits gives no name that stands before

front_is : (x : Slot) (b : Bool) → Present x b → Is x → b ≡ true
front_is none b p i = absurd i
front_is (some t) b p i = p

tail_lacks : (m : ℕ) (l : Fronts) (s : Sub) (f : List ℕ → Slot) (k : Option ℕ) → Fits m l s → Within m (fields f k) → Sorted l (fields f k) →
    (n : List ℕ) → Is (f n) → (tail_row s k).at n ≡ none
tail_lacks m l s f None fs w h n i = refl
tail_lacks m l s f (Some r) fs w h n i = fs r (w (row_var r) (inr refl)) n (front_is (f n) (l r n) (h.1 r refl n) i)

-- the names that one record has and the other lacks may stand in the place of the other's variable
follows_one : (x y : Slot) (p q : Bool) → Present x q → Present y p → (Is y → Is x) → Follows (only x y) p q
follows_one none none true q h g c = absurd (g refl)
follows_one none none false true h g c = absurd (h refl)
follows_one none none false false h g c = refl
follows_one none (some t) p q h g c = absurd (c tt)
follows_one (some u) none p q h g c = (g, h)
follows_one (some u) (some t) p q h g c = h ∙ sym g

extra_sorted : (l : Fronts) (f g : List ℕ → Slot) (k : Option ℕ) (q : ℕ) → Sorted l (fields f k) → Sorted l (fields g (Some q)) → Covers f g →
    RowSorted l q (extra f g k)
extra_sorted l f g k q sf sg c = record {
  slots = λ n. sorted_only l (f n) (g n) (sf.0 n);
  follows = λ i e n. follows_one (f n) (g n) (l q n) (l i n) (sf.1 i e n) (sg.1 q refl n) (c n);
}

-- the new variable may stand for what follows both records
pub fresh_sorted : (m : ℕ) (k : Fronts) (f g : List ℕ → Slot) (r : ℕ) (q : Option ℕ) → Sorted k (fields f (Some r)) → Sorted k (fields g q) →
    Within m (fields f (Some r)) → Within m (fields g q) → BindingSorted (more_fronts k m r g) (to_row r (others f g m))
fresh_sorted m k f g r q sf sg wf wg = record {
  slots = λ x. sorted_only (more_fronts k m r g) (g x) (f x) (sorted_slot_agree k (more_fronts k m r g) (g x) (λ v o. off v (wg (row_var v) (inl (x, o)))) (sg.0 x));
  follows = λ p e x.
      (let P : ℕ → Type 0 = λ z. Follows (only (g x) (f x)) (more_fronts k m r g r x) (more_fronts k m r g z x) in
      let w : Follows (only (g x) (f x)) (k r x) (more_fronts k m r g m x) = follows_new (f x) (g x) (k r x) (more_fronts k m r g m x) (sf.1 r refl x) (fronts_at k m r g x) in
      let Q : Bool → Type 0 = λ z. Follows (only (g x) (f x)) z (more_fronts k m r g m x) in
      subst P (some_is m p e) (subst Q (sym (off r (wf (row_var r) (inr refl)) x)) w));
}
  where
    some_is : (i j : ℕ) → Some i ≡ Some j → i ≡ j
    some_is i j p = cc

    not_m : (v : ℕ) → v < m → v ≡ m → ⊥
    not_m v lt e = omega arith

    off : (v : ℕ) → v < m → (x : List ℕ) → more_fronts k m r g v x ≡ k v x
    off v lt x = fronts_off k m r g v (not_m v lt) x

-- ---- the two records after the first of two bindings

-- the names of f, and those of g that f lacks
abbrev pub joined : (List ℕ → Slot) → (List ℕ → Slot) → ℕ → ℕ → List ℕ → Slot
joined f g r m n = or_else (apply_slot (single (to_row r (others f g m))) (f n)) (only (g n) (f n))

abbrev pub changed : (List ℕ → Slot) → (List ℕ → Slot) → ℕ → ℕ → List ℕ → Slot
changed f g r m n = apply_slot (single (to_row r (others f g m))) (g n)

pub left_after : (f g : List ℕ → Slot) (r m : ℕ) → apply (single (to_row r (others f g m))) (fields f (Some r)) ≡ fields (joined f g r m) (Some m)
left_after f g r m =
    λ i. fields (λ n. or_else (apply_slot (single (to_row r (others f g m))) (f n)) ((single_at_row r (others f g m) i).at n)) (single_at_row r (others f g m) i).tail

pub right_after : (f g : List ℕ → Slot) (r q m : ℕ) → (r ≡ q → ⊥) → apply (single (to_row r (others f g m))) (fields g (Some q)) ≡ fields (changed f g r m) (Some q)
right_after f g r q m n =
    let e : (single (to_row r (others f g m))).row_of q ≡ same_sub.row_of q = row_off (to_row r (others f g m)) q (λ h. n (rows h)) in
    (λ i. fields (λ x. or_else (apply_slot (single (to_row r (others f g m))) (g x)) ((e i).at x)) (e i).tail)
    ∙ (λ i. fields (λ x. or_none (apply_slot (single (to_row r (others f g m))) (g x)) i) (Some q))
  where
    rows : row_var q ≡ row_var r → r ≡ q
    rows h = cc

-- what is extra then
pub extra_is : (s : Sub) (x y : Slot) → only (or_else (apply_slot s x) (only y x)) (apply_slot s y) ≡ apply_slot s (only x y)
extra_is s none none = refl
extra_is s none (some t) = refl
extra_is s (some u) none = refl
extra_is s (some u) (some t) = refl

joined_is : (s : Sub) (x y : Slot) → Is (or_else (apply_slot s x) (only y x)) → Is x ⊎ Is y
joined_is s none none i = absurd i
joined_is s none (some t) i = inr tt
joined_is s (some u) y i = inl tt

slot_is : (s : Sub) (x : Slot) → Is (apply_slot s x) → Is x
slot_is s none i = i
slot_is s (some t) i = tt

pub joined_covers : (s : Sub) (x y : Slot) → Is (apply_slot s y) → Is (or_else (apply_slot s x) (only y x))
joined_covers s none none i = i
joined_covers s none (some t) i = tt
joined_covers s (some u) y i = tt

follows_slot : (s : Sub) (x : Slot) (p q : Bool) → Follows x p q → Follows (apply_slot s x) p q
follows_slot s none p q h = h
follows_slot s (some t) p q h = h

or_left : (a b : Bool) → a ≡ true → (a || b) ≡ true
or_left true b e = refl
or_left false b e = absurd (cc)

or_right : (a b : Bool) → b ≡ true → (a || b) ≡ true
or_right true b e = refl
or_right false b e = e

is_some_is : (x : Slot) → Is x → is_some x ≡ true
is_some_is none i = absurd i
is_some_is (some t) i = refl

solved_snoc : (bs : List Binding) (d : Binding) (u : Term) → solved (bs ++ d ∷ []) u ≡ apply (single d) (solved bs u)
solved_snoc [] d u = refl
solved_snoc (b ∷ bs) d u = solved_snoc bs d (apply (single b) u)

module _ (m : ℕ) (k : Fronts) (f g : List ℕ → Slot) (r q : ℕ) (sf : Sorted k (fields f (Some r))) (sg : Sorted k (fields g (Some q)))
    (wf : Within m (fields f (Some r))) (wg : Within m (fields g (Some q))) (apart : r ≡ q → ⊥) where
  not_m : (v : ℕ) → v < m → v ≡ m → ⊥
  not_m v lt e = omega arith

  off : (v : ℕ) → v < m → (x : List ℕ) → more_fronts k m r g v x ≡ k v x
  off v lt x = fronts_off k m r g v (not_m v lt) x

  -- where the records are equal after the first binding, the second is kept
  pub second_kept : (s : Sub) → Fits (m + 1) (more_fronts k m r g) s →
      apply s (fields (joined f g r m) (Some m)) ≡ apply s (fields (changed f g r m) (Some q)) → Keeps s (to_row q (extra_after f g r m))
  second_kept s fs e =
      keeps_one s (joined f g r m) (changed f g r m) (Some m) q e lacks_new lacks_other (λ x. joined_covers (single (to_row r (others f g m))) (f x) (g x))
      ∙ (λ i. apply_row s (record { at = λ x. extra_is (single (to_row r (others f g m))) (f x) (g x) i; tail = Some m }))
    where
      m_below : m < m + 1
      m_below = omega arith

      q_below : q < m + 1
      q_below = let lt : q < m = wg (row_var q) (inr refl) in omega (arith, lt)

      front : (x : List ℕ) → Is (f x) ⊎ Is (g x) → (k r x || is_some (g x)) ≡ true
      front x (inl i) = or_left (k r x) (is_some (g x)) (front_is (f x) (k r x) (sf.1 r refl x) i)
      front x (inr i) = or_right (k r x) (is_some (g x)) (is_some_is (g x) i)

      lacks_new : (x : List ℕ) → Is (joined f g r m x) → (s.row_of m).at x ≡ none
      lacks_new x i = fs m m_below x (fronts_at k m r g x ∙ front x (joined_is (single (to_row r (others f g m))) (f x) (g x) i))

      lacks_other : (x : List ℕ) → Is (changed f g r m x) → (s.row_of q).at x ≡ none
      lacks_other x i =
          fs q q_below x (off q (wg (row_var q) (inr refl)) x ∙ front_is (g x) (k q x) (sg.1 q refl x) (slot_is (single (to_row r (others f g m))) (g x) i))

  pub second_sorted : RowSorted (more_fronts k m r g) q (extra_after f g r m)
  second_sorted = record {
    slots = λ x. SortedSlot-single (more_fronts k m r g) (to_row r (others f g m)) (only (f x) (g x)) (fresh_sorted m k f g r (Some q) sf sg wf wg)
        (sorted_only (more_fronts k m r g) (f x) (g x) (sorted_slot_agree k (more_fronts k m r g) (f x) (λ v o. off v (wf (row_var v) (inl (x, o)))) (sf.0 x)));
    follows = λ p e x.
        (let P : ℕ → Type 0 = λ z. Follows (apply_slot (single (to_row r (others f g m))) (only (f x) (g x))) (more_fronts k m r g q x) (more_fronts k m r g z x) in
        let w : Follows (only (f x) (g x)) (k q x) (more_fronts k m r g m x) =
        follows_other (f x) (g x) (k r x) (k q x) (more_fronts k m r g m x) (sf.1 r refl x) (sg.1 q refl x) (fronts_at k m r g x) in
        let Q : Bool → Type 0 = λ z. Follows (only (f x) (g x)) z (more_fronts k m r g m x) in
        subst P (some_is m p e) (follows_slot (single (to_row r (others f g m))) (only (f x) (g x)) (more_fronts k m r g q x) (more_fronts k m r g m x)
        (subst Q (sym (off q (wg (row_var q) (inr refl)) x)) w)));
  }
    where
      some_is : (i j : ℕ) → Some i ≡ Some j → i ≡ j
      some_is i j p = cc

  -- a solution of the two types, extended to the new variable
  pub extended : (s : Sub) → Fits m k s → apply s (fields f (Some r)) ≡ apply s (fields g (Some q)) →
      (t : Sub) × (apply t (fields (joined f g r m) (Some m)) ≡ apply t (fields (changed f g r m) (Some q)))
  extended s fs e =
      let t : Sub = renewed s m (rest_row s f g r) in
      let d : Binding = to_row r (others f g m) in
      let kept : Keeps t d = keeps_left k s f g r q m e (λ x. from_front r f x (sf.1 r refl x) (wf (row_var r) (inr refl))) (λ x. from_front q g x (sg.1 q refl x) (wg (row_var q) (inr refl)))
      (not_m r (wf (row_var r) (inr refl))) (not_m q (wg (row_var q) (inr refl)))
      (λ x o. not_m m (wf (row_var m) (inl (x, o))) refl) (λ x o. not_m m (wg (row_var m) (inl (x, o))) refl) in (
        t,
        ap (apply t) (sym (left_after f g r m)) ∙ through t d kept (fields f (Some r)) ∙ renewed_same s m (rest_row s f g r) (fields f (Some r)) (λ o. not_m m (wf (row_var m) o) refl)
            ∙ e ∙ sym (renewed_same s m (rest_row s f g r) (fields g (Some q)) (λ o. not_m m (wg (row_var m) o) refl))
            ∙ sym (through t d kept (fields g (Some q))) ∙ ap (apply t) (right_after f g r q m apart),
      )
    where
      from_front : (v : ℕ) (y : List ℕ → Slot) (x : List ℕ) → Present (y x) (k v x) → v < m → Is (y x) → (s.row_of v).at x ≡ none
      from_front v y x p lt i = fs v lt x (front_is (y x) (k v x) p i)

      through : (t : Sub) (d : Binding) → Keeps t d → (u : Term) → apply t (apply (single d) u) ≡ apply t u
      through t d h u = apply_apply t (single d) u ∙ ap (λ z. apply z u) (kept_sub t d h)

-- ---- a round in a search

pub record Next (n p : ℕ) (l : Fronts) (bs ds : List Binding) (a b : Term) : Type 0 where
  pub fronts : Fronts
  pub reached : Reached n p l fronts bs ds a b

module _ (n m : ℕ) (l k : Fronts) (bs cs : List Binding) (a b x y : Term) (h : Reached n m l k bs cs a b) (wa : Within n a) (wb : Within n b)
    (pl : Plain n m cs) (wx : Within m x) (wy : Within m y) (tx : TypesBelow n x) (ty : TypesBelow n y) (cx : Clear cs x) (cy : Clear cs y)
    (sx : Sorted k x) (sy : Sorted k y) (within : (s : Sub) → apply s (solved cs a) ≡ apply s (solved cs b) → apply s x ≡ apply s y) where
  by_one : (d : Binding) → Occurs (key d) x ⊎ Occurs (key d) y → ((v : Variable) → OccursIn v d → Occurs v x ⊎ Occurs v y) → (OccursIn (key d) d → ⊥) →
      BindingSorted k d → ((s : Sub) → Fits m k s → apply s x ≡ apply s y → Keeps s d) → Next n m l bs (cs ++ d ∷ []) a b
  by_one d o f own sd forced =
      let one = add_one n m cs x y d pl wx wy tx ty cx cy o f own in
      record { fronts = k; reached = step n m l k bs cs a b d h wa wb one.0 own one.1.0 sd (λ s fs e. forced s fs (within s e)) }

  stands : (v : Variable) (z u : Term) → z ≡ u → Occurs v u → Occurs v z
  stands v z u e o = let P : Term → Type 0 = λ t. Occurs v t in subst P (sym e) o

  pub next : (p : ℕ) (ds : List Binding) → Advances x y m cs ds p → Next n p l bs ds a b
  next p ds (left_type v e f) =
      by_one (to_type v y) (inl (stands (type_var v) x (var v) e refl)) (λ w o. inr o) f sy (λ s fs q. ap (apply s) (sym e) ∙ q)
  next p ds (right_type v e f) =
      by_one (to_type v x) (inr (stands (type_var v) y (var v) e refl)) (λ w o. inl o) f sx (λ s fs q. ap (apply s) (sym e) ∙ sym q)
  next p ds (left_row f g r z e i c own) =
      let sf = sorted_at k x (fields f (Some r)) e sx in
      let sg = sorted_at k y (fields g z) i sy in
      by_one (to_row r (extra g f z)) (inl (stands (row_var r) x (fields f (Some r)) e (inr refl)))
      (λ w o. inr (stands w y (fields g z) i (occurs_extra w g f z o))) own (extra_sorted k g f z r sg sf c)
      (λ s fs q. keeps_one s g f z r (sym (equal_at s x y (fields f (Some r)) (fields g z) e i q))
      (tail_lacks m k s g z fs (within_at m y (fields g z) i wy) sg) (tail_lacks m k s f (Some r) fs (within_at m x (fields f (Some r)) e wx) sf) c)
  next p ds (right_row f g z r e i c own) =
      let sf = sorted_at k x (fields f z) e sx in
      let sg = sorted_at k y (fields g (Some r)) i sy in
      by_one (to_row r (extra f g z)) (inr (stands (row_var r) y (fields g (Some r)) i (inr refl)))
      (λ w o. inl (stands w x (fields f z) e (occurs_extra w f g z o))) own (extra_sorted k f g z r sf sg c)
      (λ s fs q. keeps_one s f g z r (equal_at s x y (fields f z) (fields g (Some r)) e i q)
      (tail_lacks m k s f z fs (within_at m x (fields f z) e wx) sf) (tail_lacks m k s g (Some r) fs (within_at m y (fields g (Some r)) i wy) sg) c)
  next p ds (both_rows f g r q e i apart lf lg fr fq) =
      let sf = sorted_at k x (fields f (Some r)) e sx in
      let sg = sorted_at k y (fields g (Some q)) i sy in
      let wf = within_at m x (fields f (Some r)) e wx in
      let wg = within_at m y (fields g (Some q)) i wy in
      let d : Binding = to_row r (others f g m) in
      let d2 : Binding = to_row q (extra_after f g r m) in
      let one : Reached n (m + 1) l (more_fronts k m r g) bs (cs ++ d ∷ []) a b =
      step_fresh n m l k bs cs a b f g r q h wa wb sf sg wf wg (first_unbound n m cs x y pl wx wy tx ty cx cy f g r q e i apart fr fq) fr
      (λ s eq. equal_at s x y (fields f (Some r)) (fields g (Some q)) e i (within s eq)) in
      let two : Reached n (m + 1) l (more_fronts k m r g) bs ((cs ++ d ∷ []) ++ d2 ∷ []) a b =
      step n (m + 1) l (more_fronts k m r g) bs (cs ++ d ∷ []) a b d2 one wa wb (second_unbound n m cs x y pl wx wy tx ty cx cy f g r q e i apart fr fq)
      (second_own n m cs x y pl wx wy tx ty cx cy f g r q e i apart fr fq) (second_within n m cs x y pl wx wy tx ty cx cy f g r q e i apart fr fq)
      (second_sorted m k f g r q sf sg wf wg apart)
      (λ s fs eq. second_kept m k f g r q sf sg wf wg apart s fs (after s d f g r q e i apart eq)) in
      let P : List Binding → Type 0 = λ z. Reached n (m + 1) l (more_fronts k m r g) bs z a b in
      record { fronts = more_fronts k m r g; reached = subst P (append_assoc cs (d ∷ []) (d2 ∷ [])) two }
    where
      after : (s : Sub) (d : Binding) (f g : List ℕ → Slot) (r q : ℕ) → x ≡ fields f (Some r) → y ≡ fields g (Some q) → (r ≡ q → ⊥) →
          apply s (solved (cs ++ to_row r (others f g m) ∷ []) a) ≡ apply s (solved (cs ++ to_row r (others f g m) ∷ []) b) →
          apply s (fields (joined f g r m) (Some m)) ≡ apply s (fields (changed f g r m) (Some q))
      after s d f g r q e i apart eq =
          let c : Binding = to_row r (others f g m) in
          let t : Sub = then_sub s (single c) in
          let base : apply t (solved cs a) ≡ apply t (solved cs b) =
          sym (apply_apply s (single c) (solved cs a)) ∙ ap (apply s) (sym (solved_snoc cs c a)) ∙ eq ∙ ap (apply s) (solved_snoc cs c b) ∙ apply_apply s (single c) (solved cs b) in
          let here : apply t (fields f (Some r)) ≡ apply t (fields g (Some q)) = equal_at t x y (fields f (Some r)) (fields g (Some q)) e i (within t base) in
          ap (apply s) (sym (left_after f g r m)) ∙ apply_apply s (single c) (fields f (Some r)) ∙ here ∙ sym (apply_apply s (single c) (fields g (Some q))) ∙ ap (apply s) (right_after f g r q m apart)

-- ---- the names before row variables after a round

abbrev pub fronts_after : Fronts → (m p : ℕ) (x y : Term) (cs ds : List Binding) → Advances x y m cs ds p → Fronts
fronts_after k m p x y cs ds (left_type v e f) = k
fronts_after k m p x y cs ds (right_type v e f) = k
fronts_after k m p x y cs ds (left_row f g r j e i c o) = k
fronts_after k m p x y cs ds (right_row f g j q e i c o) = k
fronts_after k m p x y cs ds (both_rows f g r q e i a lf lg fr fq) = more_fronts k m r g

module _ (n m : ℕ) (l k : Fronts) (bs cs : List Binding) (a b x y : Term) (h : Reached n m l k bs cs a b) (wa : Within n a) (wb : Within n b)
    (pl : Plain n m cs) (wx : Within m x) (wy : Within m y) (tx : TypesBelow n x) (ty : TypesBelow n y) (cx : Clear cs x) (cy : Clear cs y)
    (sx : Sorted k x) (sy : Sorted k y) (within : (s : Sub) → apply s (solved cs a) ≡ apply s (solved cs b) → apply s x ≡ apply s y) where
  pub next_fronts : (p : ℕ) (ds : List Binding) (v : Advances x y m cs ds p) →
      (next n m l k bs cs a b x y h wa wb pl wx wy tx ty cx cy sx sy within p ds v).fronts ≡ fronts_after k m p x y cs ds v
  unfolding next by_one
  next_fronts p ds (left_type v e f) = refl
  next_fronts p ds (right_type v e f) = refl
  next_fronts p ds (left_row f g r j e i c o) = refl
  next_fronts p ds (right_row f g j q e i c o) = refl
  next_fronts p ds (both_rows f g r q e i apart lf lg fr fq) = refl

-- ---- what is stuck

abbrev at_of : Term → List ℕ → Slot
at_of (var v) n = none
at_of (con h) n = none
at_of (app a b) n = none
at_of (fields f k) n = f n

-- a row that would hold a type in which its own variable stands after the same names
holds_itself : (l : Fronts) (s : Sub) (f g : List ℕ → Slot) (r : ℕ) (k : Option ℕ) (n : List ℕ) (u : Term) → f n ≡ none → g n ≡ some u → Occurs (row_var r) u →
    Present (f n) (l r n) → Sorted l u → apply s (fields f (Some r)) ≡ apply s (fields g k) → ⊥
holds_itself l s f g r k n u ef eg o p su e =
    row_apart s r n u o lacks
    (ap (λ z. or_else (apply_slot s z) ((s.row_of r).at n)) (sym ef) ∙ ap (λ t. at_of t n) e ∙ ap (λ z. or_else (apply_slot s z) ((tail_row s k).at n)) eg)
  where
    not_front : l r n ≡ true → ⊥
    not_front = let P : Slot → Type 0 = λ z. Present z (l r n) in subst P ef p

    empty : (z : Slot) → Present z (l r n) → z ≡ none
    empty none q = refl
    empty (some t) q = absurd (not_front q)

    lacks : (h : List ℕ → Slot) → Part (fields h (Some r)) u ⊎ (fields h (Some r) ≡ u) → h n ≡ none
    lacks h (inl q) = empty (h n) ((sorted_part l (fields h (Some r)) u q su).1 r refl n)
    lacks h (inr q) = empty (h n) ((let P : Term → Type 0 = λ t. Sorted l t in subst P (sym q) su).1 r refl n)

slot_sorted : (l : Fronts) (z : Slot) (u : Term) → z ≡ some u → SortedSlot l z → Sorted l u
slot_sorted l z u e h = let P : Slot → Type 0 = λ x. SortedSlot l x in subst P e h

-- the same names with the same types
pub same_names : (f g : List ℕ → Slot) (k : Option ℕ) → Common f g → SameNames f g → fields f k ≡ fields g k
same_names f g k c h = λ i. fields (λ n. same_slot (f n) (g n) (c n) (h.0 n) (h.1 n) i) k
  where
    same_slot : (a b : Slot) → ((t u : Term) → a ≡ some t → b ≡ some u → t ≡ u) → (Is a → Is b) → (Is b → Is a) → a ≡ b
    same_slot none none c p q = refl
    same_slot none (some u) c p q = absurd (q tt)
    same_slot (some t) none c p q = absurd (p tt)
    same_slot (some t) (some u) c p q = ap some (c t u refl refl)

from_equal : (s : Sub) (a b : Slot) → or_else (apply_slot s a) none ≡ or_else (apply_slot s b) none → Is a → Is b
from_equal s none b e p = absurd p
from_equal s (some t) none e p = absurd (cc)
from_equal s (some t) (some u) e p = tt

from_front : (a b : Slot) (c : Bool) → Present a c → Present b c → Is a → Is b
from_front none b c p q i = absurd i
from_front (some t) none c p q i = absurd (q p)
from_front (some t) (some u) c p q i = tt

pub stuck_never : (m : ℕ) (l : Fronts) (x y : Term) → Sorted l x → Sorted l y → Within m x → Within m y → Stuck x y m →
    (s : Sub) → Fits m l s → apply s x ≡ apply s y → ⊥
stuck_never m l x y sx sy wx wy (never h) s fs e = h s e
stuck_never m l x y sx sy wx wy (row_left f g r k n u ex ey ef eg o) s fs e =
    holds_itself l s f g r k n u ef eg o ((sorted_at l x (fields f (Some r)) ex sx).1 r refl n) (slot_sorted l (g n) u eg ((sorted_at l y (fields g k) ey sy).0 n))
    (equal_at s x y (fields f (Some r)) (fields g k) ex ey e)
stuck_never m l x y sx sy wx wy (row_right f g k q n u ex ey eg ef o) s fs e =
    holds_itself l s g f q k n u eg ef o ((sorted_at l y (fields g (Some q)) ey sy).1 q refl n) (slot_sorted l (f n) u ef ((sorted_at l x (fields f k) ex sx).0 n))
    (sym (equal_at s x y (fields f k) (fields g (Some q)) ex ey e))
stuck_never m l x y sx sy wx wy (same_tail f g k ex ey c n) s fs e =
    n (ex ∙ same_names f g k c (named k (sorted_at l x (fields f k) ex sx) (sorted_at l y (fields g k) ey sy) (equal_at s x y (fields f k) (fields g k) ex ey e)) ∙ sym ey)
  where
    named : (k : Option ℕ) → Sorted l (fields f k) → Sorted l (fields g k) → apply s (fields f k) ≡ apply s (fields g k) → SameNames f g
    named None sf sg h = (λ i p. from_equal s (f i) (g i) (ap (λ t. at_of t i) h) p, λ i p. from_equal s (g i) (f i) (sym (ap (λ t. at_of t i) h)) p)
    named (Some r) sf sg h = (λ i p. from_front (f i) (g i) (l r i) (sf.1 r refl i) (sg.1 r refl i) p, λ i p. from_front (g i) (f i) (l r i) (sg.1 r refl i) (sf.1 r refl i) p)
stuck_never m l x y sx sy wx wy (row_after f g r q n u ex ey eg ef o) s fs e =
    elim (eqb_tells r q) [
      | inl i ↦ same_row i.1
      | inr i ↦ after i.1
    ]
  where
    sf : Sorted l (fields f (Some r))
    sf = sorted_at l x (fields f (Some r)) ex sx

    sg : Sorted l (fields g (Some q))
    sg = sorted_at l y (fields g (Some q)) ey sy

    -- the same variable stands after the same names
    same_row : r ≡ q → ⊥
    same_row i = contrary (f n) (g n) (l r n) ef eg (sf.1 r refl n) (let P : ℕ → Type 0 = λ z. Present (g n) (l z n) in subst P (sym i) (sg.1 q refl n))
      where
        contrary : (a b : Slot) (c : Bool) → a ≡ some u → b ≡ none → Present a c → Present b c → ⊥
        contrary none b c p w j h = absurd (cc)
        contrary (some t) none c p w j h = h j
        contrary (some t) (some z) c p w j h = absurd (cc)

    wf : Within m (fields f (Some r))
    wf = within_at m x (fields f (Some r)) ex wx

    wg : Within m (fields g (Some q))
    wg = within_at m y (fields g (Some q)) ey wy

    not_m : (v : ℕ) → v < m → v ≡ m → ⊥
    not_m v lt h = omega arith

    off : (v : ℕ) → v < m → (i : List ℕ) → more_fronts l m r g v i ≡ l v i
    off v lt i = fronts_off l m r g v (not_m v lt) i

    after : (r ≡ q → ⊥) → ⊥
    after apart =
        let t = extended m l f g r q sf sg wf wg apart s fs (equal_at s x y (fields f (Some r)) (fields g (Some q)) ex ey e) in
        let d : Binding = to_row r (others f g m) in
        let su : Sorted (more_fronts l m r g) u = sorted_agree l (more_fronts l m r g) u (λ v w. off v (u_within v w)) (slot_sorted l (f n) u ef (sf.0 n)) in
        holds_itself (more_fronts l m r g) t.0 (changed f g r m) (joined f g r m) q (Some m) n (apply (single d) u)
        (ap (apply_slot (single d)) eg)
        (ap (λ z. or_else (apply_slot (single d) z) (only (g n) (f n))) ef)
        o (present_none (g n) (more_fronts l m r g q n) eg (let P : Bool → Type 0 = λ z. Present (g n) z in subst P (sym (off q (wg (row_var q) (inr refl)) n)) (sg.1 q refl n)))
        (Sorted-single (more_fronts l m r g) d u (fresh_sorted m l f g r (Some q) sf sg wf wg) su) (sym t.1)
      where
        u_within : (v : ℕ) → Occurs (row_var v) u → v < m
        u_within v w = wf (row_var v) (inl (n, let P : Slot → Type 0 = λ z. OccursSlot (row_var v) z in subst P (sym ef) w))

        present_none : (z : Slot) (c : Bool) → z ≡ none → Present z c → Present (apply_slot (single (to_row r (others f g m))) z) c
        present_none none c p h = h
        present_none (some w) c p h = absurd (cc)
