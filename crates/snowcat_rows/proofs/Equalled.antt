-- The bindings of a round make its two types equal.
use Rattle.std.proofs.Common.{◌≡◌, ℕ, ◌+◌, ◌<◌, ◌≤◌, inl, inr, List, [], ◌∷◌, ◌++◌, refl, ap, sym, ◌∙◌, subst, arith, Option, Some, None}
use Rattle.std.proofs.lemmas.Bool.Decides.{eqb_tells}
use Rattle.snowcat_rows.specs.Types.{Term, Slot, app, fields, none, some, Beside, here, first, second, field}
use Rattle.snowcat_rows.specs.inner.Parts.{PartSlot, IsPart}
use Rattle.snowcat_rows.specs.Substitutions.{Row, Sub, apply, apply_slot, or_else, tail_row, same_sub, Fronts, Sorted}
use Rattle.snowcat_rows.specs.Sorting.{Within}
use Rattle.snowcat_rows.specs.Chains.{type_var, row_var, Binding, to_type, to_row, key, single, solved, Occurs, OccursSlot, OccursRow}
use Rattle.snowcat_rows.specs.FirstDifferences.{Common}
use Rattle.snowcat_rows.specs.inner.Rounds.{only, others, extra, extra_after, Is, Covers, Advances, left_type, right_type, left_row, right_row, both_rows}
use Rattle.snowcat_rows.specs.inner.Measures.{TypesBelow}
use Rattle.snowcat_rows.specs.Unifying.{IsBound, IsNeeded, Made}
use Rattle.snowcat_rows.proofs.RowTheory.{single_free, single_at_type, single_at_row, tail_off}
use Rattle.snowcat_rows.proofs.General.{Reached, unified}
use Rattle.snowcat_rows.proofs.Advancing.{Plain}
use Rattle.snowcat_rows.proofs.Rounding.{joined, changed, left_after, right_after, extra_is, joined_covers, next, fronts_after, next_fronts}

-- ---- parts at one place

part_of_first : (x a c : Term) → IsPart x a → IsPart x (app a c)
part_of_first x a c (inl e) = inr (inl (inl e))
part_of_first x a c (inr p) = inr (inl (inr p))

part_of_second : (x a c : Term) → IsPart x c → IsPart x (app a c)
part_of_second x a c (inl e) = inr (inr (inl e))
part_of_second x a c (inr p) = inr (inr (inr p))

in_slot : (z : Slot) (t x : Term) → z ≡ some t → IsPart x t → PartSlot x z
in_slot z t x e p = let P : Slot → Type 0 = λ w. PartSlot x w in subst P (sym e) p

pub beside_left : (x y a b : Term) → Beside x y a b → IsPart x a
beside_left x y _ _ here = inl refl
beside_left x y _ _ (first a b c d p) = part_of_first x a c (beside_left x y a b p)
beside_left x y _ _ (second a c d p) = part_of_second x a c (beside_left x y c d p)
beside_left x y _ _ (field f g k j n t u e h p) = inr (n, in_slot (f n) t x e (beside_left x y t u p))

pub beside_right : (x y a b : Term) → Beside x y a b → IsPart y b
beside_right x y _ _ here = inl refl
beside_right x y _ _ (first a b c d p) = part_of_first y b d (beside_right x y a b p)
beside_right x y _ _ (second a c d p) = part_of_second y a d (beside_right x y c d p)
beside_right x y _ _ (field f g k j n t u e h p) = inr (n, in_slot (g n) u y h (beside_right x y t u p))

-- ---- a row variable that stands for the names which its record lacks

at_slot : (d : Binding) (y z : Slot) → (Is y → Is z) → ((t u : Term) → y ≡ some t → z ≡ some u → t ≡ u) → (OccursSlot (key d) (only z y) → ⊥) →
    or_else (apply_slot (single d) y) (only z y) ≡ or_else (apply_slot (single d) z) none
at_slot d none none c e n = refl
at_slot d none (some u) c e n = ap some (sym (single_free d u n))
at_slot d (some t) none c e n = absurd (c tt)
at_slot d (some t) (some u) c e n = ap (λ w. some (apply (single d) w)) (e t u refl refl)

same_end : (k : Option ℕ) → tail_row same_sub k ≡ record { at = λ n. none; tail = k }
same_end None = refl
same_end (Some r) = refl

one_row : (f g : List ℕ → Slot) (r : ℕ) (k : Option ℕ) → Common f g → Covers g f → (OccursRow (row_var r) (extra g f k) → ⊥) →
    apply (single (to_row r (extra g f k))) (fields f (Some r)) ≡ apply (single (to_row r (extra g f k))) (fields g k)
one_row f g r k c v own =
    let d : Binding = to_row r (extra g f k) in
    let e : tail_row (single d) k ≡ record { at = λ n. none; tail = k } = tail_off d k (λ q h i. own (inr (h ∙ ap Some (rows q i)))) ∙ same_end k in
    (λ i. fields (λ n. or_else (apply_slot (single d) (f n)) ((single_at_row r (extra g f k) i).at n)) (single_at_row r (extra g f k) i).tail)
    ∙ (λ i. fields (λ n. at_slot d (f n) (g n) (v n) (c n) (λ o. own (inl (n, o))) i) k)
    ∙ sym (λ i. fields (λ n. or_else (apply_slot (single d) (g n)) ((e i).at n)) (e i).tail)
  where
    rows : (q : ℕ) → row_var q ≡ row_var r → q ≡ r
    rows q h = cc

turned : (f g : List ℕ → Slot) → Common f g → Common g f
turned f g c n t u e h = sym (c n u t h e)

-- ---- two row variables

both : (m r q : ℕ) (f g : List ℕ → Slot) → Common f g → (r ≡ q → ⊥) → (m ≡ q → ⊥) → ((n : List ℕ) → OccursSlot (row_var r) (only (g n) (f n)) → ⊥) →
    ((n : List ℕ) → OccursSlot (row_var q) ((extra_after f g r m).at n) → ⊥) →
    solved (to_row r (others f g m) ∷ to_row q (extra_after f g r m) ∷ []) (fields f (Some r)) ≡ solved (to_row r (others f g m) ∷ to_row q (extra_after f g r m) ∷ []) (fields g (Some q))
both m r q f g c apart new fr fq =
    let d : Binding = to_row r (others f g m) in
    let s : Sub = single d in
    let w : extra (joined f g r m) (changed f g r m) (Some m) ≡ extra_after f g r m = (λ i. record { at = λ n. extra_is s (f n) (g n) i; tail = Some m }) in
    let P : Row → Type 0 = λ z. apply (single (to_row q z)) (fields (changed f g r m) (Some q)) ≡ apply (single (to_row q z)) (fields (joined f g r m) (Some m)) in
    let h = one_row (changed f g r m) (joined f g r m) q (Some m) (λ n t u e i. common (f n) (g n) (c n) (fr n) t u e i) (λ n. joined_covers s (f n) (g n)) (own w) in
    ap (apply (single (to_row q (extra_after f g r m)))) (left_after f g r m)
    ∙ sym (subst P w h)
    ∙ sym (ap (apply (single (to_row q (extra_after f g r m)))) (right_after f g r q m apart))
  where
    same_some : (t u : Term) → some t ≡ some u → t ≡ u
    same_some t u e = cc

    common : (x y : Slot) → ((t u : Term) → x ≡ some t → y ≡ some u → t ≡ u) → (OccursSlot (row_var r) (only y x) → ⊥) → (t u : Term) →
        apply_slot (single (to_row r (others f g m))) y ≡ some t → or_else (apply_slot (single (to_row r (others f g m))) x) (only y x) ≡ some u → t ≡ u
    common none none e o t u h i = absurd (cc)
    common none (some y) e o t u h i = sym (same_some _ t h) ∙ single_free (to_row r (others f g m)) y o ∙ same_some y u i
    common (some x) none e o t u h i = absurd (cc)
    common (some x) (some y) e o t u h i = sym (same_some _ t h) ∙ ap (apply (single (to_row r (others f g m)))) (sym (e x y refl refl)) ∙ same_some _ u i

    own : extra (joined f g r m) (changed f g r m) (Some m) ≡ extra_after f g r m → OccursRow (row_var q) (extra (joined f g r m) (changed f g r m) (Some m)) → ⊥
    own w (inl (n, o)) = fq n (let P : Row → Type 0 = λ z. OccursSlot (row_var q) (z.at n) in subst P w o)
    own w (inr e) = new (ends m e)
      where
        ends : (i : ℕ) → Some i ≡ Some q → i ≡ q
        ends i h = cc

-- ---- a round

-- the bindings of a round alone
pub record Alone (x y : Term) (m p : ℕ) (cs ds : List Binding) : Type 0 where
  pub news : List Binding
  pub added : ds ≡ cs ++ news
  pub advances : Advances x y m [] news p
  pub few : p ≤ m + 1

pub alone : (x y : Term) (m p : ℕ) (cs ds : List Binding) → Advances x y m cs ds p → Alone x y m p cs ds
alone x y m p cs ds (left_type v e f) = record { news = to_type v y ∷ []; added = refl; advances = left_type v e f; few = omega arith }
alone x y m p cs ds (right_type v e f) = record { news = to_type v x ∷ []; added = refl; advances = right_type v e f; few = omega arith }
alone x y m p cs ds (left_row f g r k e i c o) = record { news = to_row r (extra g f k) ∷ []; added = refl; advances = left_row f g r k e i c o; few = omega arith }
alone x y m p cs ds (right_row f g k q e i c o) = record { news = to_row q (extra f g k) ∷ []; added = refl; advances = right_row f g k q e i c o; few = omega arith }
alone x y m p cs ds (both_rows f g r q e i a lf lg fr fq) = record { news = to_row r (others f g m) ∷ to_row q (extra_after f g r m) ∷ []; added = refl; advances = both_rows f g r q e i a lf lg fr fq; few = omega arith }

at_terms : (ds : List Binding) (x y u w : Term) → x ≡ u → y ≡ w → solved ds u ≡ solved ds w → solved ds x ≡ solved ds y
at_terms ds x y u w e h q = ap (solved ds) e ∙ q ∙ sym (ap (solved ds) h)

pub equalled : (x y : Term) (m p : ℕ) (ds : List Binding) → ((f g : List ℕ → Slot) (k j : Option ℕ) → x ≡ fields f k → y ≡ fields g j → Common f g) → Within m y →
    Advances x y m [] ds p → solved ds x ≡ solved ds y
equalled x y m p ds c wy (left_type v e f) = ap (apply (single (to_type v y))) e ∙ single_at_type v y ∙ sym (single_free (to_type v y) y f)
equalled x y m p ds c wy (right_type v e f) = single_free (to_type v x) x f ∙ sym (single_at_type v x) ∙ sym (ap (apply (single (to_type v x))) e)
equalled x y m p ds c wy (left_row f g r k e i v o) = at_terms ds x y (fields f (Some r)) (fields g k) e i (one_row f g r k (c f g (Some r) k e i) v o)
equalled x y m p ds c wy (right_row f g k q e i v o) = at_terms ds x y (fields f k) (fields g (Some q)) e i (sym (one_row g f q k (turned f g (c f g k (Some q) e i)) v o))
equalled x y m p ds c wy (both_rows f g r q e i a lf lg fr fq) =
    at_terms ds x y (fields f (Some r)) (fields g (Some q)) e i (both m r q f g (c f g (Some r) (Some q) e i) a (λ h. later (wy (row_var q) (ends (sym i))) h) fr fq)
  where
    later : q < m → m ≡ q → ⊥
    later lt h = omega arith

    ends : fields g (Some q) ≡ y → Occurs (row_var q) y
    ends h = let P : Term → Type 0 = λ t. Occurs (row_var q) t in subst P h (inr refl)

alone_fronts : (k : Fronts) (m p : ℕ) (x y : Term) (cs ds : List Binding) (v : Advances x y m cs ds p) →
    fronts_after k m p x y [] (alone x y m p cs ds v).news (alone x y m p cs ds v).advances ≡ fronts_after k m p x y cs ds v
unfolding alone
alone_fronts k m p x y cs ds (left_type v e f) = refl
alone_fronts k m p x y cs ds (right_type v e f) = refl
alone_fronts k m p x y cs ds (left_row f g r j e i c o) = refl
alone_fronts k m p x y cs ds (right_row f g j q e i c o) = refl
alone_fronts k m p x y cs ds (both_rows f g r q e i a lf lg fr fq) = refl

-- ---- the variables that a round issues

bound_before : (r : ℕ) (w : Row) (cs ds : List Binding) → IsBound r w cs → IsBound r w (cs ++ ds)
bound_before r w [] ds h = absurd (h)
bound_before r w (to_type v t ∷ cs) ds h = bound_before r w cs ds h
bound_before r w (to_row q z ∷ cs) ds (inl h) = inl h
bound_before r w (to_row q z ∷ cs) ds (inr h) = inr (bound_before r w cs ds h)

bound_behind : (r : ℕ) (w : Row) (cs ds : List Binding) → IsBound r w ds → IsBound r w (cs ++ ds)
bound_behind r w [] ds h = h
bound_behind r w (to_type v t ∷ cs) ds h = bound_behind r w cs ds h
bound_behind r w (to_row q z ∷ cs) ds h = inr (bound_behind r w cs ds h)

needed_before : (cs ds : List Binding) (v : ℕ) → IsNeeded cs v → IsNeeded (cs ++ ds) v
needed_before cs ds v (r, q, w, z, a, b, e, d) = (r, q, w, z, a, (bound_before r w cs ds b.0, bound_before q z cs ds b.1), e, d)

only_some : (x y : Slot) → Is x → y ≡ none → (t : Term) × (only x y ≡ some t)
only_some (some t) none i e = (t, refl)
only_some none y i e = absurd (i)
only_some (some t) (some u) i e = absurd (cc)

after_some : (s : Sub) (x y : Slot) → Is x → y ≡ none → (t : Term) × (apply_slot s (only x y) ≡ some t)
after_some s (some t) none i e = (apply s t, refl)
after_some s none y i e = absurd (i)
after_some s (some t) (some u) i e = absurd (cc)

one_only : (s : Sub) (x y : Slot) (t u : Term) → only x y ≡ some t → apply_slot s (only y x) ≡ some u → ⊥
one_only s none none t u e h = absurd (cc)
one_only s none (some y) t u e h = absurd (cc)
one_only s (some x) none t u e h = absurd (cc)
one_only s (some x) (some y) t u e h = absurd (cc)

pub needed_next : (n m p : ℕ) (x y : Term) (cs ds : List Binding) → Advances x y m cs ds p → ((v : ℕ) → n ≤ v → v < m → IsNeeded cs v) →
    (v : ℕ) → n ≤ v → v < p → IsNeeded ds v
needed_next n m p x y cs ds (left_type w e f) h v le lt = needed_before cs (to_type w y ∷ []) v (h v le lt)
needed_next n m p x y cs ds (right_type w e f) h v le lt = needed_before cs (to_type w x ∷ []) v (h v le lt)
needed_next n m p x y cs ds (left_row f g r k e i c o) h v le lt = needed_before cs (to_row r (extra g f k) ∷ []) v (h v le lt)
needed_next n m p x y cs ds (right_row f g k q e i c o) h v le lt = needed_before cs (to_row q (extra f g k) ∷ []) v (h v le lt)
needed_next n m p x y cs ds (both_rows f g r q e i a lf lg fr fq) h v le lt =
    elim (eqb_tells v m) [
      | inl k ↦
          let ns = to_row r (others f g m) ∷ to_row q (extra_after f g r m) ∷ [] in
          let s = single (to_row r (others f g m)) in
          let left = only_some (g lf.0) (f lf.0) lf.1 lf.2 in
          let right = after_some s (f lg.0) (g lg.0) lg.1 lg.2 in
          let one : IsBound r (others f g m) ns = inl (refl, refl) in
          let other : IsBound q (extra_after f g r m) ns = inr (inl (refl, refl)) in
          let P : ℕ → Type 0 = λ z. IsNeeded (cs ++ ns) z in
          subst P (sym k.1) (
            r,
            q,
            others f g m,
            extra_after f g r m,
            a,
            (bound_behind r (others f g m) cs ns one, bound_behind q (extra_after f g r m) cs ns other),
            (((lf.0, left.0, left.1), refl), ((lg.0, right.0, right.1), refl)),
            λ n t u. one_only s (g n) (f n) t u,
          )
      | inr k ↦ needed_before cs (to_row r (others f g m) ∷ to_row q (extra_after f g r m) ∷ []) v (h v le (omega (arith, lt, k.1)))
    ]

-- ---- a round is the most general way to make its two types equal

at_start : (m : ℕ) (k : Fronts) (x y : Term) → Reached m m k k [] [] x y
at_start m k x y = record {
  chain = tt;
  within = tt;
  sorted = tt;
  more = omega arith;
  fronts = λ v lt n. refl;
  added = ([], refl);
  kept = λ s fs h e. record { to = s; agree = record { types = λ v lt. refl; rows = λ v lt. refl }; fits = fs; solves = tt };
}

pub made_alone : (m p : ℕ) (k : Fronts) (x y : Term) (cs ds : List Binding) (v : Advances x y m cs ds p) → Within m x → Within m y → Sorted k x → Sorted k y →
    ((f g : List ℕ → Slot) (i j : Option ℕ) → x ≡ fields f i → y ≡ fields g j → Common f g) →
    (h : Made m p k [] (alone x y m p cs ds v).news x y) × (h.fronts ≡ fronts_after k m p x y cs ds v)
made_alone m p k x y cs ds v wx wy sx sy c =
    let o : Alone x y m p cs ds = alone x y m p cs ds v in
    let none : Plain m m [] = record { chain = tt; within = tt; types = tt } in
    let tx : TypesBelow m x = λ i q. wx (type_var i) q in
    let ty : TypesBelow m y = λ i q. wy (type_var i) q in
    let z = next m m k k [] [] x y x y (at_start m k x y) wx wy none wx wy tx ty tt tt sx sy (λ s e. e) p o.news o.advances in (
      record {
        fronts = z.fronts;
        same = z.reached.fronts;
        sorted = z.reached.sorted;
        unified = unified m p k z.fronts [] o.news x y z.reached tt wx wy (equalled x y m p o.news c wy o.advances);
        needed = needed_next m m p x y [] o.news o.advances (λ v le lt. absurd (omega (arith, le, lt)));
      },
      next_fronts m m k k [] [] x y x y (at_start m k x y) wx wy none wx wy tx ty tt tt sx sy (λ s e. e) p o.news o.advances ∙ alone_fronts k m p x y cs ds v,
    )
