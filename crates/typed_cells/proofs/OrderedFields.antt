-- Fields in the order of their names: the same names, different ones, and the same function.
use Rattle.std.proofs.Common.{◌≡◌, ℕ, zero, suc, ◌-◌, ◌<◌, ◌≤◌, Bool, true, false, ◌&&◌, ◌||◌, not, IsTrue, List, []}
use Rattle.std.proofs.Common.{◌∷◌, ◌++◌, length, map, take, drop, get_or, All, Option, Some, refl, sym, ◌∙◌, ap}
use Rattle.std.proofs.Common.{subst, arith, if◌then◌else◌, cond, zip}
use Rattle.std.proofs.Math.Seq.{drop-length}
use Rattle.std.proofs.lemmas.List.Elements.{All-cons, All-head, All-nil, All-tail}
use Rattle.std.specs.Ordering.{is_lt}
use Rattle.tla_values.specs.Order.{same_value, text_cmp}
use Rattle.tla_values.specs.Sets.{apply, distinct, function_of, member}
use Rattle.tla_values.specs.declared.value.Value.{Value}
use Rattle.tla_values.specs.declared.value.Value.TheVariants as value
use Rattle.tla_values.proofs.Extensional.{same_equal, same_itself, true_test}
use Rattle.cell_arena.specs.declared.kinds.CellId.{CellId}
use Rattle.cell_arena.specs.Cells.{AllDiffer}
use Rattle.cell_arena.specs.Decode.{field_pairs}
use Rattle.cell_merge.proofs.Graphs.{same-functions}
use Rattle.typed_cells.specs.FieldOrder.{in_order, put_field}

abbrev text : List ℕ → Value
text x = value.Text x

abbrev Field : Type 0
Field = List ℕ × CellId

abbrev names_of : List Field → List (List ℕ)
names_of fs = map (λ (f : Field). f.0) fs

abbrev texts : List (List ℕ) → List Value
texts xs = map text xs

-- ---- which names there are

or_turned : (p q r : Bool) → (q || (p || r)) ≡ (p || (q || r))
or_turned p q r = grind arith

-- a field is put before another or behind it, as the test says
in_front : (t : Bool) (x : List ℕ) (c : CellId) (f : Field) (fs gs : List Field) (v : Value) →
    member v (texts (names_of gs)) ≡ (same_value v (text x) || member v (texts (names_of fs))) →
    member v (texts (names_of (if t then (x, c) ∷ f ∷ fs else f ∷ gs))) ≡
    (same_value v (text x) || member v (texts (names_of (f ∷ fs))))
in_front true x c f fs gs v h = refl
in_front false x c f fs gs v h =
    ap (λ (b : Bool). same_value v (text f.0) || b) h
    ∙ or_turned (same_value v (text x)) (same_value v (text f.0)) (member v (texts (names_of fs)))

member-put : (x : List ℕ) (c : CellId) (fs : List Field) (v : Value) →
    member v (texts (names_of (put_field x c fs))) ≡ (same_value v (text x) || member v (texts (names_of fs)))
member-put x c [] v = refl
member-put x c (f ∷ fs) v = in_front (is_lt (text_cmp x f.0)) x c f fs (put_field x c fs) v (member-put x c fs v)

member-in_order : (xs : List (List ℕ)) (cs : List CellId) (v : Value) → length cs ≡ length xs →
    member v (texts (names_of (in_order xs cs))) ≡ member v (texts xs)
member-in_order [] [] v n = refl
member-in_order [] (c ∷ cs) v n = absurd (omega arith)
member-in_order (x ∷ xs) [] v n = absurd (omega arith)
member-in_order (x ∷ xs) (c ∷ cs) v n =
    member-put x c (in_order xs cs) v
    ∙ ap (λ (b : Bool). same_value v (text x) || b) (member-in_order xs cs v (omega arith))

-- ---- that they differ

both_so : (p q : Bool) → IsTrue p → IsTrue q → IsTrue (p && q)
both_so true q h k = k
both_so false q h k = absurd (cc)

first_so : (p q : Bool) → IsTrue (p && q) → IsTrue p
first_so true q h = refl
first_so false q h = absurd (cc)

rest_so : (p q : Bool) → IsTrue (p && q) → IsTrue q
rest_so true q h = h
rest_so false q h = absurd (cc)

turned : (v w : Value) → same_value v w ≡ same_value w v
turned v w = true_test _ _
    (λ e. subst (λ u. same_value u v ≡ true) (same_equal v w e) (same_itself v))
    (λ e. subst (λ u. same_value u w ≡ true) (same_equal w v e) (same_itself w))

-- neither is the other, nor among them
apart_so : (p q r : Bool) → IsTrue (not (p || r)) → IsTrue (not q) → IsTrue (not (p || q)) × IsTrue (not r)
apart_so true q r h k = absurd (cc)
apart_so false true r h k = absurd (cc)
apart_so false false true h k = absurd (cc)
apart_so false false false h k = (refl, refl)

abbrev Differ : List Field → Type 0
Differ fs = IsTrue (distinct (texts (names_of fs)))

put-differs : (x : List ℕ) (c : CellId) (fs : List Field) → IsTrue (not (member (text x) (texts (names_of fs)))) →
    Differ fs → Differ (put_field x c fs)
put-differs x c [] h d = refl
put-differs x c (f ∷ fs) h d =
    let a = apart_so (same_value (text f.0) (text x)) (member (text f.0) (texts (names_of fs)))
    (member (text x) (texts (names_of fs)))
    (subst (λ (b : Bool). IsTrue (not (b || member (text x) (texts (names_of fs))))) (turned (text x) (text f.0)) h)
    (first_so _ _ d) in
    by (is_lt (text_cmp x f.0)) (put_field x c fs) (member-put x c fs (text f.0))
    (put-differs x c fs a.1 (rest_so _ _ d)) a.0
  where
    by : (t : Bool) (gs : List Field) →
        member (text f.0) (texts (names_of gs)) ≡
        (same_value (text f.0) (text x) || member (text f.0) (texts (names_of fs))) →
        Differ gs → IsTrue (not (same_value (text f.0) (text x) || member (text f.0) (texts (names_of fs)))) →
        Differ (if t then (x, c) ∷ f ∷ fs else f ∷ gs)
    by true gs m e n = both_so _ _ h d
    by false gs m e n = both_so _ _ (subst (λ (b : Bool). IsTrue (not b)) (sym m) n) e

pub ordered-differ : (xs : List (List ℕ)) (cs : List CellId) → length cs ≡ length xs → AllDiffer xs →
    AllDiffer (names_of (in_order xs cs))
ordered-differ [] [] n d = refl
ordered-differ [] (c ∷ cs) n d = absurd (omega arith)
ordered-differ (x ∷ xs) [] n d = absurd (omega arith)
ordered-differ (x ∷ xs) (c ∷ cs) n d =
    let k : length cs ≡ length xs = omega arith in
    put-differs x c (in_order xs cs)
    (subst (λ (b : Bool). IsTrue (not b)) (sym (member-in_order xs cs (text x) k)) (first_so _ _ d))
    (ordered-differ xs cs k (rest_so _ _ d))

-- ---- which cells there are

module _ (P : CellId → Type 0) where
  abbrev Each : List Field → Type 0
  Each fs = All (λ (f : Field). P f.1) fs

  each-put : (x : List ℕ) (c : CellId) (fs : List Field) → P c → Each fs → Each (put_field x c fs)
  each-put x c [] h all = All-cons (λ (f : Field). P f.1) (x, c) [] h all
  each-put x c (f ∷ fs) h all =
      by (is_lt (text_cmp x f.0)) (put_field x c fs)
      (each-put x c fs h (All-tail (λ (g : Field). P g.1) f fs all))
    where
      by : (t : Bool) (gs : List Field) → Each gs → Each (if t then (x, c) ∷ f ∷ fs else f ∷ gs)
      by true gs e = All-cons (λ (g : Field). P g.1) (x, c) (f ∷ fs) h all
      by false gs e = All-cons (λ (g : Field). P g.1) f gs (All-head (λ (g : Field). P g.1) f fs all) e

  pub each-in_order : (xs : List (List ℕ)) (cs : List CellId) → All P cs → All (λ (f : Field). P f.1) (in_order xs cs)
  each-in_order [] cs h = All-nil (λ (f : Field). P f.1)
  each-in_order (x ∷ xs) [] h = All-nil (λ (f : Field). P f.1)
  each-in_order (x ∷ xs) (c ∷ cs) h =
      each-put x c (in_order xs cs) (All-head P c cs h) (each-in_order xs cs (All-tail P c cs h))

-- ---- the function that they are

module _ (of : CellId → Value) where
  -- of two pairs with different arguments it does not matter which comes first
  passed : (u v w y z : Value) (o : Option Value) → same_value v w ≡ false →
      cond (same_value u w) (Some z) (cond (same_value u v) (Some y) o)
      ≡ cond (same_value u v) (Some y) (cond (same_value u w) (Some z) o)
  passed u v w y z o d = by (same_value u v) (same_value u w) refl refl
    where
      by : (p q : Bool) → same_value u v ≡ p → same_value u w ≡ q →
          cond q (Some z) (cond p (Some y) o) ≡ cond p (Some y) (cond q (Some z) o)
      by false q e f = refl
      by true false e f = refl
      by true true e f =
          let one : same_value v w ≡ true = ap (λ t. same_value t w) (sym (same_equal u v e)) ∙ f in
          absurd (let never : true ≡ false = sym one ∙ d in cc)

  apply-put : (x : List ℕ) (c : CellId) (fs : List Field) (u : Value) →
      IsTrue (not (member (text x) (texts (names_of fs)))) →
      apply (field_pairs of (put_field x c fs)) u
      ≡ cond (same_value u (text x)) (Some (of c)) (apply (field_pairs of fs) u)
  apply-put x c [] u h = refl
  apply-put x c (f ∷ fs) u h =
      let a = parts (same_value (text x) (text f.0)) (member (text x) (texts (names_of fs))) h in
      by (is_lt (text_cmp x f.0)) (put_field x c fs) (apply-put x c fs u a.1) a.0
    where
      parts : (p q : Bool) → IsTrue (not (p || q)) → (p ≡ false) × IsTrue (not q)
      parts true q k = absurd (cc)
      parts false q k = (refl, k)

      by : (t : Bool) (gs : List Field) →
          apply (field_pairs of gs) u ≡ cond (same_value u (text x)) (Some (of c)) (apply (field_pairs of fs) u) →
          same_value (text x) (text f.0) ≡ false →
          apply (field_pairs of (if t then (x, c) ∷ f ∷ fs else f ∷ gs)) u
          ≡ cond (same_value u (text x)) (Some (of c)) (apply (field_pairs of (f ∷ fs)) u)
      by true gs k d = refl
      by false gs k d =
          ap (λ (o : Option Value). cond (same_value u (text f.0)) (Some (of f.1)) o) k
          ∙ passed u (text x) (text f.0) (of c) (of f.1) (apply (field_pairs of fs) u) d

  apply-in_order : (xs : List (List ℕ)) (cs : List CellId) (u : Value) → length cs ≡ length xs → AllDiffer xs →
      apply (field_pairs of (in_order xs cs)) u ≡ apply (zip (texts xs) (map of cs)) u
  apply-in_order [] [] u n d = refl
  apply-in_order [] (c ∷ cs) u n d = absurd (omega arith)
  apply-in_order (x ∷ xs) [] u n d = absurd (omega arith)
  apply-in_order (x ∷ xs) (c ∷ cs) u n d =
      let k : length cs ≡ length xs = omega arith in
      apply-put x c (in_order xs cs) u
      (subst (λ (b : Bool). IsTrue (not b)) (sym (member-in_order xs cs (text x) k)) (first_so _ _ d))
      ∙ ap (λ (o : Option Value). cond (same_value u (text x)) (Some (of c)) o)
      (apply-in_order xs cs u k (rest_so _ _ d))

  pub ordered-function : (xs : List (List ℕ)) (cs : List CellId) → length cs ≡ length xs → AllDiffer xs →
      function_of (field_pairs of (in_order xs cs)) ≡ function_of (zip (texts xs) (map of cs))
  ordered-function xs cs n d =
      same-functions (field_pairs of (in_order xs cs)) (zip (texts xs) (map of cs)) (λ u. apply-in_order xs cs u n d)

-- ---- where a field is put

pub put-here : (x : List ℕ) (c : CellId) (fs : List Field) (i : ℕ) (f : Field) → i < length fs →
    is_lt (text_cmp x (get_or fs i f).0) ≡ true →
    take i fs ++ put_field x c (drop i fs) ≡ take i fs ++ (x, c) ∷ drop i fs
put-here x c [] i f lt e = absurd (omega arith)
put-here x c (g ∷ fs) zero f lt e = ap (λ (t : Bool). if t then (x, c) ∷ g ∷ fs else g ∷ put_field x c fs) e
put-here x c (g ∷ fs) (suc i) f lt e = ap (λ (gs : List Field). g ∷ gs) (put-here x c fs i f (omega arith) e)

pub put-behind : (x : List ℕ) (c : CellId) (fs : List Field) (i : ℕ) (f : Field) → i < length fs →
    is_lt (text_cmp x (get_or fs i f).0) ≡ false →
    take i fs ++ put_field x c (drop i fs) ≡ take (suc i) fs ++ put_field x c (drop (suc i) fs)
put-behind x c [] i f lt e = absurd (omega arith)
put-behind x c (g ∷ fs) zero f lt e = ap (λ (t : Bool). if t then (x, c) ∷ g ∷ fs else g ∷ put_field x c fs) e
put-behind x c (g ∷ fs) (suc i) f lt e = ap (λ (gs : List Field). g ∷ gs) (put-behind x c fs i f (omega arith) e)

pub put-last : (x : List ℕ) (c : CellId) (fs : List Field) (i : ℕ) → length fs ≤ i →
    take i fs ++ put_field x c (drop i fs) ≡ take (length fs) fs ++ (x, c) ∷ drop (length fs) fs
put-last x c [] zero le = refl
put-last x c [] (suc i) le = refl
put-last x c (g ∷ fs) zero le = absurd (omega arith)
put-last x c (g ∷ fs) (suc i) le = ap (λ (gs : List Field). g ∷ gs) (put-last x c fs i (omega arith))

-- one more field, of those that are taken from the end
order-more : (xs : List (List ℕ)) (cs : List CellId) (i : ℕ) (x : List ℕ) (d : CellId) → i < length xs →
    length cs ≡ length xs → x ≡ get_or xs i x →
    put_field x (get_or cs i d) (in_order (drop (suc i) xs) (drop (suc i) cs)) ≡ in_order (drop i xs) (drop i cs)
order-more [] cs i x d lt n e = absurd (omega arith)
order-more (y ∷ xs) [] i x d lt n e = absurd (omega arith)
order-more (y ∷ xs) (c ∷ cs) zero x d lt n e = ap (λ (z : List ℕ). put_field z c (in_order xs cs)) e
order-more (y ∷ xs) (c ∷ cs) (suc i) x d lt n e = order-more xs cs i x d (omega arith) (omega arith) e

pub order-turn : (xs : List (List ℕ)) (cs : List CellId) (i : ℕ) (x name : List ℕ) (d : CellId)
    (before after : List Field) → 0 < i → i ≤ length xs → length cs ≡ length xs →
    before ≡ in_order (drop i xs) (drop i cs) → x ≡ get_or xs (i - 1) x → name ≡ x →
    after ≡ put_field name (get_or cs (i - 1) d) before →
    after ≡ in_order (drop (i - 1) xs) (drop (i - 1) cs)
order-turn xs cs i x name d before after lt le n h e copied put =
    let one : i ≡ suc (i - 1) = omega arith in
    put ∙ ap (λ (z : List ℕ). put_field z (get_or cs (i - 1) d) before) copied
    ∙ ap (put_field x (get_or cs (i - 1) d)) (h ∙ ap (λ (m : ℕ). in_order (drop m xs) (drop m cs)) one)
    ∙ order-more xs cs (i - 1) x d (omega arith) n e

pub order-none : (xs : List (List ℕ)) (cs : List CellId) (n : ℕ) → n ≡ length xs → [] ≡ in_order (drop n xs) (drop n cs)
order-none xs cs n e =
    ap (λ (ys : List (List ℕ)). in_order ys (drop n cs)) (sym (ap (λ m. drop m xs) e ∙ drop-length xs))
