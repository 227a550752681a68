use Rattle.std.proofs.Common.{◌≡◌, ◌≢◌, ℕ, zero, suc, ◌+◌, ◌<◌, ◌≤◌, inl, inr, true, false, not, List, [], ◌∷◌, length, set, drop, get_or, All, refl, sym, ◌∙◌, arith, length-set, add-one, eqb, eq-eqb}
use Rattle.std.specs.Prelude.{Contains}
use Rattle.std.specs.List.{remove, list_any, range_with_len}
use Rattle.std.proofs.lemmas.Bool.{cases_lt, cases_order, eqb-true, ne_eqb, or_cases, false≢true}
use Rattle.std.proofs.lemmas.List.{get_or-set_same, get_or-set_other, drop_more, drop_all, get_or_past, get_or_default}
use Rattle.std.proofs.lemmas.List.Elements.{filter_passes, All-contains}
use Rattle.std.proofs.lemmas.List.Edits.{length-remove, get_or-remove_below, get_or-remove_above}
use Rattle.std.proofs.lemmas.List.FromFn.{length-range_with_len, get_or-range_with_len}
use Rattle.std.proofs.lemmas.Map.Keys.{IsDistinct-from_apart}
use Rattle.std.proofs.lemmas.Map.Steps.{length-le_from_distinct_below}
use Rattle.decision_queue.specs.Queue.{without}
use Rattle.decision_queue.specs.Ring.{walk, Linked}

-- a member stands at some place
any_at : (xs : List ℕ) (q d : ℕ) → list_any (eqb q) xs ≡ true → (i : ℕ) × ((i < length xs) × (q ≡ get_or xs i d))
any_at [] q d h = absurd (false≢true h)
any_at (x ∷ xs) q d h = elim (or_cases (eqb q x) (list_any (eqb q) xs) h) [
  | inl e ↦ (0, (omega arith, eqb-true q x e))
  | inr t ↦ (let s = any_at xs q d t in let lt : s.0 < length xs = s.1.0 in (suc s.0, (omega arith, s.1.1)))
]

module _ (n : ℕ) (next prev items : List ℕ) (linked : Linked n next prev items) where
  pub count_bound : length items ≤ n
  count_bound = length-le_from_distinct_below items n
      (IsDistinct-from_apart eqb items (λ i j d lt within.
      ne_eqb (get_or items i d) (get_or items j d) (λ e.
      let li : i < length items = omega arith in
      linked.apart i j lt within (get_or_default items i n d li ∙ e ∙ get_or_default items j d n within))))
      (λ q h. let s = any_at items q n h in let b : get_or items s.0 n < n = linked.below s.0 s.1.0 in let e : q ≡ get_or items s.0 n = s.1.1 in omega arith)

  -- the walk from the place i on
  pub walk_at : (fuel i : ℕ) → i ≤ length items → length items ≤ i + fuel → walk next n fuel (get_or (n ∷ items) i n) ≡ drop i items
  walk_at zero i le enough = sym (drop_all i items (omega arith))
  walk_at (suc fuel) i le enough = elim (cases_lt i (length items)) [
    | inl lt ↦
        (let b : get_or items i n < n = linked.below i lt in
        let ne : eqb (get_or items i n) n ≡ false = ne_eqb (get_or items i n) n (λ e. absurd (omega arith)) in
        let rest : walk next n fuel (get_or items i n) ≡ drop (i + 1) items = rw add-one (walk_at fuel (suc i) (omega arith) (omega arith)) in
        rw (linked.forward i le, ne, rest) (sym (drop_more items i n lt)))
    | inr ge ↦
        (let past : get_or items i n ≡ n = get_or_past items i n ge in
        let eq : eqb n n ≡ true = eq-eqb n n refl in
        rw (linked.forward i le, past, eq) (sym (drop_all i items ge)))
  ]

  pub walk_is : walk next n n n ≡ items
  walk_is = walk_at n 0 (omega arith) (let c = count_bound in omega arith)

  pub ring_apart : (i j : ℕ) → i < j → j ≤ length items → get_or (n ∷ items) i n ≡ get_or (n ∷ items) j n → ⊥
  ring_apart zero zero lt le e = absurd (omega arith)
  ring_apart zero (suc j) lt le e = let b : get_or items j n < n = linked.below j le in let f : n ≡ get_or items j n = e in absurd (omega arith)
  ring_apart (suc i) zero lt le e = absurd (omega arith)
  ring_apart (suc i) (suc j) lt le e = linked.apart i j (omega arith) le e

  pub items_apart : (i j : ℕ) → i < j → j ≤ length items → get_or items i n ≡ get_or items j n → ⊥
  items_apart i j lt le e = elim (cases_lt j (length items)) [
    | inl within ↦ linked.apart i j lt within e
    | inr ge ↦
        (let past : get_or items j n ≡ n = get_or_past items j n ge in
        let b : get_or items i n < n = linked.below i (omega arith) in
        absurd (omega arith))
  ]

  pub ring_bound : (i : ℕ) → i ≤ length items → get_or (n ∷ items) i n < n + 1
  ring_bound zero le = let f : get_or (n ∷ items) 0 n ≡ n = refl in omega arith
  ring_bound (suc i) le = let b : get_or items i n < n = linked.below i le in omega arith

  pub items_bound : (i : ℕ) → get_or items i n < n + 1
  items_bound i = elim (cases_lt i (length items)) [
    | inl within ↦ (let b : get_or items i n < n = linked.below i within in omega arith)
    | inr ge ↦ (let past : get_or items i n ≡ n = get_or_past items i n ge in omega arith)
  ]

ring_below : (n : ℕ) (items : List ℕ) (k i : ℕ) → k < length items → i ≤ k → get_or (n ∷ remove items k) i n ≡ get_or (n ∷ items) i n
ring_below n items k zero lt le = refl
ring_below n items k (suc i) lt le = get_or-remove_below items k n i le lt

ring_above : (n : ℕ) (items : List ℕ) (k i : ℕ) → k < length items → k < i → get_or (n ∷ remove items k) i n ≡ get_or (n ∷ items) (i + 1) n
ring_above n items k zero lt le = absurd (omega arith)
ring_above n items k (suc i) lt le = rw add-one (rw add-one at (get_or-remove_above items k n i (omega arith) lt))

-- v is taken out at the place k
pub Linked-unlink : (n : ℕ) (next prev items : List ℕ) → Linked n next prev items → (k : ℕ) → k < length items
    → Linked n (set next (get_or (n ∷ items) k n) (get_or items (k + 1) n)) (set prev (get_or items (k + 1) n) (get_or (n ∷ items) k n)) (remove items k)
Linked-unlink n next prev items L k lt =
    let size : length (remove items k) + 1 ≡ length items = length-remove items k lt in
    let p : ℕ = get_or (n ∷ items) k n in
    let q : ℕ = get_or items (k + 1) n in
    let pb : p < length next = (let b = ring_bound n next prev items L k (omega arith) in let s = L.next_size in omega arith) in
    let qb : q < length prev = (let b = items_bound n next prev items L (k + 1) in let s = L.prev_size in omega arith) in
    record {
      next_size = length-set next p q ∙ L.next_size;
      prev_size = length-set prev q p ∙ L.prev_size;
      below = λ i within. elim (cases_lt i k) [
        | inl l ↦ rw (get_or-remove_below items k n i l lt) (L.below i (omega arith))
        | inr g ↦ rw (get_or-remove_above items k n i g lt) (L.below (i + 1) (omega arith))
      ];
      apart = λ i j ij within e. elim (cases_lt j k) [
        | inl l ↦ L.apart i j ij (omega arith) (sym (get_or-remove_below items k n i (omega arith) lt) ∙ e ∙ get_or-remove_below items k n j l lt)
        | inr g ↦ elim (cases_lt i k) [
          | inl l ↦ L.apart i (j + 1) (omega arith) (omega arith) (sym (get_or-remove_below items k n i l lt) ∙ e ∙ get_or-remove_above items k n j g lt)
          | inr h ↦ L.apart (i + 1) (j + 1) (omega arith) (omega arith) (sym (get_or-remove_above items k n i h lt) ∙ e ∙ get_or-remove_above items k n j g lt)
        ]
      ];
      forward = λ i le. elim (cases_order i k) [
        | inl same ↦ rw (same, ring_below n items k k lt (omega arith), get_or-set_same next p q 0 pb) (sym (get_or-remove_above items k n k (omega arith) lt))
        | inr c ↦ elim c [
          | inl l ↦
              (let ne : get_or (n ∷ items) i n ≢ p = ring_apart n next prev items L i k l (omega arith) in
              rw (ring_below n items k i lt (omega arith), get_or-set_other next p (get_or (n ∷ items) i n) q 0 ne)
              (L.forward i (omega arith) ∙ sym (get_or-remove_below items k n i l lt)))
          | inr g ↦
              (let ne : get_or (n ∷ items) (i + 1) n ≢ p = (λ e. ring_apart n next prev items L k (i + 1) (omega arith) (omega arith) (sym e)) in
              rw (ring_above n items k i lt g, get_or-set_other next p (get_or (n ∷ items) (i + 1) n) q 0 ne)
              (L.forward (i + 1) (omega arith) ∙ sym (get_or-remove_above items k n i (omega arith) lt)))
        ]
      ];
      back = λ i le. elim (cases_order i k) [
        | inl same ↦ rw (same, get_or-remove_above items k n k (omega arith) lt, get_or-set_same prev q p 0 qb) (sym (ring_below n items k k lt (omega arith)))
        | inr c ↦ elim c [
          | inl l ↦
              (let ne : get_or items i n ≢ q = items_apart n next prev items L i (k + 1) (omega arith) (omega arith) in
              rw (get_or-remove_below items k n i l lt, get_or-set_other prev q (get_or items i n) p 0 ne)
              (L.back i (omega arith) ∙ sym (ring_below n items k i lt (omega arith))))
          | inr g ↦
              (let ne : get_or items (i + 1) n ≢ q = (λ e. items_apart n next prev items L (k + 1) (i + 1) (omega arith) (omega arith) (sym e)) in
              rw (get_or-remove_above items k n i (omega arith) lt, get_or-set_other prev q (get_or items (i + 1) n) p 0 ne)
              (L.back (i + 1) (omega arith) ∙ sym (ring_above n items k i lt g)))
        ]
      ];
    }

-- the parts of a list with one more at its front
module _ (n v : ℕ) (items : List ℕ) where
  bound : ((i : ℕ) → i < length items → get_or items i n < n) → v < n → (i : ℕ) → i < length (v ∷ items) → get_or (v ∷ items) i n < n
  bound h vn zero lt = vn
  bound h vn (suc i) lt = h i (omega arith)

  distinct : ((i j : ℕ) → i < j → j < length items → get_or items i n ≡ get_or items j n → ⊥) → ((i : ℕ) → i < length items → get_or items i n ≡ v → ⊥)
      → (i j : ℕ) → i < j → j < length (v ∷ items) → get_or (v ∷ items) i n ≡ get_or (v ∷ items) j n → ⊥
  distinct a d zero zero lt le e = absurd (omega arith)
  distinct a d zero (suc j) lt le e = d j (omega arith) (sym e)
  distinct a d (suc i) zero lt le e = absurd (omega arith)
  distinct a d (suc i) (suc j) lt le e = a i j (omega arith) (omega arith) e

  forward_at : (next : List ℕ) → get_or next n 0 ≡ v → get_or next v 0 ≡ get_or items 0 n
      → ((i : ℕ) → i < length items → get_or next (get_or items i n) 0 ≡ get_or items (suc i) n)
      → (i : ℕ) → i ≤ length (v ∷ items) → get_or next (get_or (n ∷ v ∷ items) i n) 0 ≡ get_or (v ∷ items) i n
  forward_at next a b c zero le = a
  forward_at next a b c (suc zero) le = b
  forward_at next a b c (suc (suc i)) le = c i (omega arith)

  back_at : (prev : List ℕ) → get_or prev v 0 ≡ n → get_or prev (get_or items 0 n) 0 ≡ v
      → ((i : ℕ) → suc i ≤ length items → get_or prev (get_or items (suc i) n) 0 ≡ get_or items i n)
      → (i : ℕ) → i ≤ length (v ∷ items) → get_or prev (get_or (v ∷ items) i n) 0 ≡ get_or (n ∷ v ∷ items) i n
  back_at prev a b c zero le = a
  back_at prev a b c (suc zero) le = b
  back_at prev a b c (suc (suc i)) le = c i (omega arith)

-- v is put to the front
pub Linked-relink : (n : ℕ) (next prev items : List ℕ) → Linked n next prev items → (v : ℕ) → v < n → (Contains items v → ⊥)
    → Linked n (set (set next v (get_or items 0 n)) n v) (set (set prev v n) (get_or items 0 n) v) (v ∷ items)
Linked-relink n next prev items L v vn absent =
    let q : ℕ = get_or items 0 n in
    let differs : (i : ℕ) → i < length items → get_or items i n ≡ v → ⊥ = (λ i within e. absent (i, within, get_or_default items i v n within ∙ e)) in
    let qb : q < n + 1 = items_bound n next prev items L 0 in
    let ns = L.next_size in
    let ps = L.prev_size in
    let q_ne : q ≢ v = (λ e. elim (cases_lt 0 (length items)) [
      | inl within ↦ differs 0 within e
      | inr ge ↦ (let past : get_or items 0 n ≡ n = get_or_past items 0 n ge in absurd (omega arith))
    ]) in
    let n_ne : n ≢ v = (λ e. absurd (omega arith)) in
    let v_ne : v ≢ n = (λ e. absurd (omega arith)) in
    let at_n : n < length (set next v q) = rw (length-set next v q) (omega arith) in
    let at_q : q < length (set prev v n) = rw (length-set prev v n) (omega arith) in
    record {
      next_size = length-set (set next v q) n v ∙ (length-set next v q ∙ ns);
      prev_size = length-set (set prev v n) q v ∙ (length-set prev v n ∙ ps);
      below = bound n v items L.below vn;
      apart = distinct n v items L.apart differs;
      forward = forward_at n v items (set (set next v q) n v)
          (get_or-set_same (set next v q) n v 0 at_n)
          (get_or-set_other (set next v q) n v v 0 v_ne ∙ get_or-set_same next v q 0 (omega arith))
          (λ i within.
          let b : get_or items i n < n = L.below i within in
          get_or-set_other (set next v q) n (get_or items i n) v 0 (λ e. absurd (omega arith)) ∙
          (get_or-set_other next v (get_or items i n) q 0 (differs i within) ∙ L.forward (suc i) within));
      back = back_at n v items (set (set prev v n) q v)
          (get_or-set_other (set prev v n) q v v 0 (λ e. q_ne (sym e)) ∙ get_or-set_same prev v n 0 (omega arith))
          (get_or-set_same (set prev v n) q v 0 at_q)
          (λ i le.
          let ne : get_or items (suc i) n ≢ q = (λ e. items_apart n next prev items L 0 (suc i) (omega arith) le (sym e)) in
          let ne' : get_or items (suc i) n ≢ v = (λ e. elim (cases_lt (suc i) (length items)) [
            | inl within ↦ differs (suc i) within e
            | inr ge ↦ (let past : get_or items (suc i) n ≡ n = get_or_past items (suc i) n ge in absurd (omega arith))
          ]) in
          get_or-set_other (set prev v n) q (get_or items (suc i) n) v 0 ne ∙ (get_or-set_other prev v (get_or items (suc i) n) n 0 ne' ∙ L.back (suc i) le));
    }

keeps_all : (v : ℕ) (xs : List ℕ) → ((i : ℕ) → i < length xs → get_or xs i 0 ≡ v → ⊥) → without v xs ≡ xs
keeps_all v [] h = refl
keeps_all v (x ∷ xs) h =
    let ne : eqb x v ≡ false = ne_eqb x v (λ e. h 0 (omega arith) e) in
    rw (ne, keeps_all v xs (λ i lt e. h (suc i) (omega arith) e))

-- to take out v is to remove its place
pub without-remove : (v : ℕ) (xs : List ℕ) (k : ℕ) → k < length xs → get_or xs k 0 ≡ v
    → ((i : ℕ) → i < length xs → i ≢ k → get_or xs i 0 ≡ v → ⊥) → without v xs ≡ remove xs k
without-remove v [] k lt at h = absurd (omega arith)
without-remove v (x ∷ xs) zero lt at h =
    let eq : eqb x v ≡ true = eq-eqb x v at in
    rw (eq, keeps_all v xs (λ i lt' e. h (suc i) (omega arith) (λ z. absurd (omega arith)) e))
without-remove v (x ∷ xs) (suc k) lt at h =
    let ne : eqb x v ≡ false = ne_eqb x v (λ e. h 0 (omega arith) (λ z. absurd (omega arith)) e) in
    rw (ne, without-remove v xs k (omega arith) at (λ i lt' z e. h (suc i) (omega arith) (λ y. z (omega arith)) e))

pub without-linked : (n : ℕ) (next prev items : List ℕ) → Linked n next prev items → (k : ℕ) → k < length items → without (get_or items k n) items ≡ remove items k
without-linked n next prev items L k lt =
    without-remove (get_or items k n) items k lt (get_or_default items k 0 n lt)
    (λ i within ne e. elim (cases_lt i k) [
      | inl l ↦ L.apart i k l lt (get_or_default items i n 0 within ∙ e)
      | inr g ↦ L.apart k i (omega arith) within (sym (get_or_default items i n 0 within ∙ e))
    ])

-- what the code of `unlink` makes
pub unlinked : (n v p q : ℕ) (next prev items : List ℕ) → Linked n next prev items → Contains items v → p ≡ get_or prev v 0 → q ≡ get_or next v 0
    → Linked n (set next p q) (set prev q p) (without v items)
unlinked n v p q next prev items L has ep eq =
    let k : ℕ = has.0 in
    let lt : k < length items = has.1 in
    let at : get_or items k n ≡ v = get_or_default items k n v lt ∙ has.2 in
    let pe : p ≡ get_or (n ∷ items) k n = ep ∙ (rw at at (L.back k (omega arith))) in
    let qe : q ≡ get_or items (k + 1) n = eq ∙ (rw add-one (rw at at (L.forward (suc k) lt))) in
    let made : Linked n (set next p q) (set prev q p) (remove items k) = rw (pe, qe) (Linked-unlink n next prev items L k lt) in
    rw (rw at at (without-linked n next prev items L k lt)) made

pub v_bound : (n v : ℕ) (next prev items : List ℕ) → Linked n next prev items → Contains items v → v < n
v_bound n v next prev items L has =
    let lt : has.0 < length items = has.1 in
    rw (get_or_default items has.0 n v lt ∙ has.2) at (L.below has.0 lt)

pub next_bound : (n v : ℕ) (next prev items : List ℕ) → Linked n next prev items → Contains items v → get_or next v 0 < n + 1
next_bound n v next prev items L has =
    let lt : has.0 < length items = has.1 in
    let at : get_or items has.0 n ≡ v = get_or_default items has.0 n v lt ∙ has.2 in
    rw (rw at at (L.forward (suc has.0) lt)) (items_bound n next prev items L (suc has.0))

pub without_absent : (v : ℕ) (items : List ℕ) → Contains (without v items) v → ⊥
without_absent v items has =
    let kept : All (λ x. not (eqb x v) ≡ true) (without v items) = filter_passes (λ x. not (eqb x v)) items in
    let p : not (eqb v v) ≡ true = All-contains (λ x. not (eqb x v) ≡ true) (without v items) v kept has in
    let e : eqb v v ≡ true = eq-eqb v v refl in
    false≢true (rw e at p)

number : (n i : ℕ) → i ≤ n → get_or (range_with_len 0 n) i n ≡ i
number n i le = elim (cases_lt i n) [
  | inl lt ↦ (let e = get_or-range_with_len 0 n i n lt in omega arith)
  | inr ge ↦ (let size = length-range_with_len 0 n in let past = get_or_past (range_with_len 0 n) i n (omega arith) in omega arith)
]

pub Linked-new : (n : ℕ) (next prev : List ℕ) → length next ≡ n + 1 → length prev ≡ n + 1 → ((k : ℕ) → k < n → get_or next k 0 ≡ k + 1) → get_or next n 0 ≡ 0
    → get_or prev 0 0 ≡ n → ((k : ℕ) → k < n → get_or prev (k + 1) 0 ≡ k) → Linked n next prev (range_with_len 0 n)
Linked-new n next prev ns ps each last first back_each =
    let size : length (range_with_len 0 n) ≡ n = length-range_with_len 0 n in
    record {
      next_size = ns;
      prev_size = ps;
      below = λ i lt. let e = number n i (omega arith) in omega arith;
      apart = λ i j ij lt e. let ei = number n i (omega arith) in let ej = number n j (omega arith) in absurd (omega arith);
      forward = λ i le. rw (number n i (omega arith)) (forward_new i (omega arith));
      back = λ i le. rw (number n i (omega arith)) (back_new i (omega arith));
    } where
      forward_new : (i : ℕ) → i ≤ n → get_or next (get_or (n ∷ range_with_len 0 n) i n) 0 ≡ i
      forward_new zero le = last
      forward_new (suc i) le = rw (number n i (omega arith)) (each i le ∙ add-one i)

      back_new : (i : ℕ) → i ≤ n → get_or prev i 0 ≡ get_or (n ∷ range_with_len 0 n) i n
      back_new zero le = first
      back_new (suc i) le = rw (number n i (omega arith)) (rw add-one at (back_each i le))

-- what the code of `relink` makes
pub relinked : (n v q : ℕ) (next prev items : List ℕ) → Linked n next prev items → v < n → (Contains items v → ⊥) → q ≡ get_or next n 0
    → Linked n (set (set next v q) n v) (set (set prev v n) q v) (v ∷ items)
relinked n v q next prev items L vn absent eq =
    let qe : q ≡ get_or items 0 n = eq ∙ L.forward 0 (omega arith) in
    rw qe (Linked-relink n next prev items L v vn absent)

-- the view of fields that are linked
pub view_of : (n : ℕ) (next prev items : List ℕ) → Linked n next prev items → Linked n next prev (walk next n n n)
view_of n next prev items L = rw (walk_is n next prev items L) L
