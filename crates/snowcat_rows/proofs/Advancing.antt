-- A round's bindings keep the chain and leave fewer variables open.
use Rattle.std.proofs.Common.{◌≡◌, ℕ, ◌+◌, ◌<◌, ◌≤◌, ◌⊎◌, inl, inr, List, [], ◌∷◌, ◌++◌, refl, ap, sym, subst, arith, append_assoc, Option, Some}
use Rattle.snowcat_rows.specs.Types.{Term, Slot, var, fields, none, some}
use Rattle.snowcat_rows.specs.Substitutions.{apply_slot}
use Rattle.snowcat_rows.specs.Sorting.{Within, BindingWithin, AllWithin}
use Rattle.snowcat_rows.specs.Chains.{Variable, type_var, row_var, number, Binding, to_type, to_row, single, Occurs, OccursSlot, OccursRow, OccursIn, key, Chain}
use Rattle.snowcat_rows.specs.inner.Measures.{open_among, open_count, TypesBelow, AllTypes}
use Rattle.snowcat_rows.specs.inner.Rounds.{only, others, extra, extra_after, Advances, left_type, right_type, left_row, right_row, both_rows}
use Rattle.snowcat_rows.proofs.General.{Unbound, Chain-snoc, AllWithin-snoc, AllWithin-more, occurs_only}
use Rattle.snowcat_rows.proofs.Solving.{Clear, clear_unbound, occurs_single}
use Rattle.snowcat_rows.proofs.Counting.{unbound_not, open_le, open_less, open_fresh, AllTypes-snoc}

pub record Plain (n m : ℕ) (cs : List Binding) : Type 0 where
  pub chain : Chain cs
  pub within : AllWithin m cs
  pub types : AllTypes n cs

-- the same, and fewer variables are open
pub record Fewer (n m p : ℕ) (cs ds : List Binding) : Type 0 where
  pub plain : Plain n p ds
  pub more : m ≤ p
  pub fewer : open_count n p ds < open_count n m cs

abbrev Either : Variable → Term → Term → Type 0
Either v x y = Occurs v x ⊎ Occurs v y

less_of : (n m : ℕ) (cs : List Binding) (d : Binding) → Unbound cs d → number (key d) < m → ((v : ℕ) → key d ≡ type_var v → v < n) →
    open_count n m (cs ++ d ∷ []) < open_count n m cs
less_of n m cs d un lt ty = by_key (key d) refl
  where
    by_key : (v : Variable) → key d ≡ v → open_count n m (cs ++ d ∷ []) < open_count n m cs
    by_key (type_var v) e =
        let p : open_among type_var n (cs ++ d ∷ []) < open_among type_var n cs = open_less type_var n v cs d (ty v e) (sym e) (unbound_not cs d un) in
        let q : open_among row_var m (cs ++ d ∷ []) ≤ open_among row_var m cs = open_le row_var m cs d in
        omega (arith, p, q)
    by_key (row_var v) e =
        let l : v < m = (let P : Variable → Type 0 = λ z. number z < m in subst P e lt) in
        let p : open_among type_var n (cs ++ d ∷ []) ≤ open_among type_var n cs = open_le type_var n cs d in
        let q : open_among row_var m (cs ++ d ∷ []) < open_among row_var m cs = open_less row_var m v cs d l (sym e) (unbound_not cs d un) in
        omega (arith, p, q)

pub add_one : (n m : ℕ) (cs : List Binding) (x y : Term) (d : Binding) → Plain n m cs → Within m x → Within m y → TypesBelow n x → TypesBelow n y →
    Clear cs x → Clear cs y → Either (key d) x y → ((v : Variable) → OccursIn v d → Either v x y) → (OccursIn (key d) d → ⊥) →
    Unbound cs d × (BindingWithin m d × Fewer n m m cs (cs ++ d ∷ []))
add_one n m cs x y d p wx wy tx ty cx cy k f own =
    let un : Unbound cs d = clear_unbound cs d x y cx cy k f in
    let w : BindingWithin m d = (below (key d) k, λ v o. below v (f v o)) in (
      un,
      (
        w,
        record {
          plain = record {
            chain = Chain-snoc cs d p.chain un own;
            within = AllWithin-snoc m cs d p.within w;
            types = AllTypes-snoc n cs d p.types (key_type, λ v o. type_below v (f (type_var v) o));
          };
          more = omega arith;
          fewer = less_of n m cs d un (below (key d) k) key_type;
        },
      ),
    )
  where
    below : (v : Variable) → Either v x y → number v < m
    below v (inl o) = wx v o
    below v (inr o) = wy v o

    type_below : (v : ℕ) → Either (type_var v) x y → v < n
    type_below v (inl o) = tx v o
    type_below v (inr o) = ty v o

    key_type : (v : ℕ) → key d ≡ type_var v → v < n
    key_type v e = type_below v (let P : Variable → Type 0 = λ z. Either z x y in subst P e k)

pub occurs_extra : (v : Variable) (f g : List ℕ → Slot) (k : Option ℕ) → OccursRow v (extra f g k) → Occurs v (fields f k)
occurs_extra v f g k (inl (n, o)) = inl (n, occurs_only v (f n) (g n) o)
occurs_extra v f g k (inr o) = inr o

occurs_at : (v : Variable) (x u : Term) → x ≡ u → Occurs v u → Occurs v x
occurs_at v x u e o = let P : Term → Type 0 = λ t. Occurs v t in subst P (sym e) o

Unbound-snoc : (cs : List Binding) (c d : Binding) → Unbound cs d → (key c ≡ key d → ⊥) → (OccursIn (key c) d → ⊥) → Unbound (cs ++ c ∷ []) d
Unbound-snoc [] c d u n o = (n, (o, tt))
Unbound-snoc (b ∷ bs) c d u n o = (u.0, (u.1.0, Unbound-snoc bs c d u.1.1 n o))

-- two records that each lack names of the other
module _ (n m : ℕ) (cs : List Binding) (x y : Term) (p : Plain n m cs) (wx : Within m x) (wy : Within m y) (tx : TypesBelow n x) (ty : TypesBelow n y)
    (cx : Clear cs x) (cy : Clear cs y) (f g : List ℕ → Slot) (r q : ℕ) (ex : x ≡ fields f (Some r)) (ey : y ≡ fields g (Some q)) (apart : r ≡ q → ⊥)
    (free_r : (i : List ℕ) → OccursSlot (row_var r) (only (g i) (f i)) → ⊥) (free_q : (i : List ℕ) → OccursSlot (row_var q) ((extra_after f g r m).at i) → ⊥) where
  abbrev first : Binding
  first = to_row r (others f g m)

  abbrev second : Binding
  second = to_row q (extra_after f g r m)

  r_in : Occurs (row_var r) x
  r_in = occurs_at (row_var r) x (fields f (Some r)) ex (inr refl)

  q_in : Occurs (row_var q) y
  q_in = occurs_at (row_var q) y (fields g (Some q)) ey (inr refl)

  r_below : r < m
  r_below = wx (row_var r) r_in

  q_below : q < m
  q_below = wy (row_var q) q_in

  same_end : (i j : ℕ) → Some i ≡ Some j → i ≡ j
  same_end i j e = cc

  -- what stands in the bindings
  in_first : (v : Variable) → OccursIn v first → Occurs v y ⊎ (v ≡ row_var m)
  in_first v (inl (i, o)) = inl (occurs_at v y (fields g (Some q)) ey (inl (i, occurs_only v (g i) (f i) o)))
  in_first (type_var v) (inr o) = absurd o
  in_first (row_var v) (inr o) = inr (ap row_var (sym (same_end m v o)))

  slot_after : (v : Variable) (z : Slot) → OccursSlot v (apply_slot (single first) z) → OccursSlot v z ⊎ OccursIn v first
  slot_after v none o = absurd o
  slot_after v (some t) o = elim (occurs_single v first t o) [ inl h ↦ inl h.0 | inr h ↦ inr h ]

  slot_apart : (z : Slot) → OccursSlot (row_var r) (apply_slot (single first) z) → OccursIn (row_var r) first
  slot_apart none o = absurd o
  slot_apart (some t) o = elim (occurs_single (row_var r) first t o) [ inl h ↦ absurd (h.1 refl) | inr h ↦ h ]

  in_second : (v : Variable) → OccursIn v second → Either v x y ⊎ (v ≡ row_var m)
  in_second v (inl (i, o)) =
      elim (slot_after v (only (f i) (g i)) o) [
        | inl h ↦ inl (inl (occurs_at v x (fields f (Some r)) ex (inl (i, occurs_only v (f i) (g i) h))))
        | inr h ↦ elim (in_first v h) [ inl k ↦ inl (inr k) | inr k ↦ inr k ]
      ]
  in_second (type_var v) (inr o) = absurd o
  in_second (row_var v) (inr o) = inr (ap row_var (sym (same_end m v o)))

  not_below : (v : Variable) → number v < m → v ≡ row_var m → ⊥
  not_below v lt e = let k : number v ≡ m = ap number e in omega (arith, k)

  first_free : OccursIn (row_var r) first → ⊥
  first_free (inl (i, o)) = free_r i o
  first_free (inr o) = let e : m ≡ r = same_end m r o in let lt = r_below in omega (arith, e, lt)

  second_free : OccursIn (row_var q) second → ⊥
  second_free (inl (i, o)) = free_q i o
  second_free (inr o) = let e : m ≡ q = same_end m q o in let lt = q_below in omega (arith, e, lt)

  -- nothing that is bound stands in them
  unbound_by : (d : Binding) (bs : List Binding) → AllWithin m bs → Clear bs x → Clear bs y → Either (key d) x y →
      ((v : Variable) → OccursIn v d → Either v x y ⊎ (v ≡ row_var m)) → Unbound bs d
  unbound_by d [] w dx dy k h = tt
  unbound_by d (b ∷ bs) w dx dy k h = (
    λ e. own (let P : Variable → Type 0 = λ z. Either z x y in subst P (sym e) k),
    ((λ o. elim (h (key b) o) [ inl i ↦ own i | inr i ↦ not_below (key b) w.0.0 i ]), unbound_by d bs w.1 dx.1 dy.1 k h),
  )
    where
      own : Either (key b) x y → ⊥
      own (inl o) = dx.0 o
      own (inr o) = dy.0 o

  pub first_unbound : Unbound cs first
  first_unbound = unbound_by first cs p.within cx cy (inl r_in) (λ v o. elim (in_first v o) [ inl h ↦ inl (inr h) | inr h ↦ inr h ])

  pub second_unbound : Unbound (cs ++ first ∷ []) second
  second_unbound =
      Unbound-snoc cs first second (unbound_by second cs p.within cx cy (inr q_in) in_second) (λ e. apart (rows e)) r_not
    where
      rows : row_var r ≡ row_var q → r ≡ q
      rows e = cc

      r_not : OccursIn (row_var r) second → ⊥
      r_not (inl (i, o)) = first_free (slot_apart (only (f i) (g i)) o)
      r_not (inr o) = let e : m ≡ r = same_end m r o in let lt = r_below in omega (arith, e, lt)

  below_or : (v : Variable) → Either v x y ⊎ (v ≡ row_var m) → number v < m + 1
  below_or v (inl (inl o)) = let lt : number v < m = wx v o in omega (arith, lt)
  below_or v (inl (inr o)) = let lt : number v < m = wy v o in omega (arith, lt)
  below_or v (inr e) = let k : number v ≡ m = ap number e in omega (arith, k)

  type_or : (v : ℕ) → Either (type_var v) x y ⊎ (type_var v ≡ row_var m) → v < n
  type_or v (inl (inl o)) = tx v o
  type_or v (inl (inr o)) = ty v o
  type_or v (inr e) = absurd (cc)

  first_within : BindingWithin (m + 1) first
  first_within = (below_or (row_var r) (inl (inl r_in)), λ v o. below_or v (elim (in_first v o) [ inl h ↦ inl (inr h) | inr h ↦ inr h ]))

  pub second_within : BindingWithin (m + 1) second
  second_within = (below_or (row_var q) (inl (inr q_in)), λ v o. below_or v (in_second v o))

  pub second_own : OccursIn (row_var q) second → ⊥
  second_own = second_free

  no_type : (i : ℕ) (v : ℕ) → row_var i ≡ type_var v → v < n
  no_type i v e = absurd (cc)

  fewer_both : open_count n (m + 1) ((cs ++ first ∷ []) ++ second ∷ []) < open_count n m cs
  fewer_both =
      let a : open_count n (m + 1) ((cs ++ first ∷ []) ++ second ∷ []) < open_count n (m + 1) (cs ++ first ∷ []) =
      less_of n (m + 1) (cs ++ first ∷ []) second second_unbound second_within.0 (no_type q) in
      let b : open_count n (m + 1) (cs ++ first ∷ []) < open_count n (m + 1) cs = less_of n (m + 1) cs first first_unbound first_within.0 (no_type r) in
      let c : open_among row_var (m + 1) cs ≤ open_among row_var m cs + 1 = open_fresh row_var m cs in
      omega (arith, a, b, c)

  pub both_fewer : Fewer n m (m + 1) cs ((cs ++ first ∷ []) ++ second ∷ [])
  both_fewer = record {
    plain = record {
      chain = Chain-snoc (cs ++ first ∷ []) second (Chain-snoc cs first p.chain first_unbound first_free) second_unbound second_free;
      within = AllWithin-snoc (m + 1) (cs ++ first ∷ []) second (AllWithin-snoc (m + 1) cs first (AllWithin-more m cs p.within) first_within) second_within;
      types = AllTypes-snoc n (cs ++ first ∷ []) second (AllTypes-snoc n cs first p.types (no_type r, λ v o. type_or v (elim (in_first (type_var v) o) [ inl h ↦ inl (inr h) | inr h ↦ inr h ])))
          (no_type q, λ v o. type_or v (in_second (type_var v) o));
    };
    more = omega arith;
    fewer = fewer_both;
  }

pub next_plain : (n m p : ℕ) (cs ds : List Binding) (x y : Term) → Plain n m cs → Within m x → Within m y → TypesBelow n x → TypesBelow n y →
    Clear cs x → Clear cs y → Advances x y m cs ds p → Fewer n m p cs ds
next_plain n m p cs ds x y h wx wy tx ty cx cy (left_type v e f) =
    (add_one n m cs x y (to_type v y) h wx wy tx ty cx cy (inl (occurs_at (type_var v) x (var v) e refl)) (λ w o. inr o) f).1.1
next_plain n m p cs ds x y h wx wy tx ty cx cy (right_type v e f) =
    (add_one n m cs x y (to_type v x) h wx wy tx ty cx cy (inr (occurs_at (type_var v) y (var v) e refl)) (λ w o. inl o) f).1.1
next_plain n m p cs ds x y h wx wy tx ty cx cy (left_row f g r k e i c own) =
    (add_one n m cs x y (to_row r (extra g f k)) h wx wy tx ty cx cy (inl (occurs_at (row_var r) x (fields f (Some r)) e (inr refl)))
    (λ w o. inr (occurs_at w y (fields g k) i (occurs_extra w g f k o))) own).1.1
next_plain n m p cs ds x y h wx wy tx ty cx cy (right_row f g k q e i c own) =
    (add_one n m cs x y (to_row q (extra f g k)) h wx wy tx ty cx cy (inr (occurs_at (row_var q) y (fields g (Some q)) i (inr refl)))
    (λ w o. inl (occurs_at w x (fields f k) e (occurs_extra w f g k o))) own).1.1
next_plain n m p cs ds x y h wx wy tx ty cx cy (both_rows f g r q e i a lf lg fr fq) =
    let P : List Binding → Type 0 = λ z. Fewer n m (m + 1) cs z in
    subst P (append_assoc cs (to_row r (others f g m) ∷ []) (to_row q (extra_after f g r m) ∷ []))
    (both_fewer n m cs x y h wx wy tx ty cx cy f g r q e i a fr fq)
