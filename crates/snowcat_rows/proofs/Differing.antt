-- How the first difference of parts is that of the whole.
use Rattle.std.proofs.Common.{◌≡◌, ℕ, zero, suc, ◌<◌, ◌≤◌, List, [], ◌∷◌, map, length, drop, get_or, drop-cons, ap, ◌∙◌, sym, subst, Option, Some, None, MatchOption, inl, inr, arith}
use Rattle.std.proofs.lemmas.List.{drop_all}
use Rattle.snowcat_rows.specs.declared.types.Ty.{Ty}
use Rattle.snowcat_rows.specs.Types.{Term, Slot, var, con, app, fields, none, some, row, mean, Beside, here, first, second, field}
use Rattle.snowcat_rows.specs.Substitutions.{Sub, apply, apply_slot, or_else, tail_row}
use Rattle.snowcat_rows.specs.Chains.{Variable, Occurs}
use Rattle.snowcat_rows.specs.FirstDifferences.{Common}
use Rattle.snowcat_rows.specs.inner.Rounds.{Unlike, Differ, Is, SameNames}
use Rattle.snowcat_rows.proofs.Rounding.{same_names}

differ_left : (a b c d x y : Term) → Differ a b x y → Differ (app a c) (app b d) x y
differ_left a b c d x y h = record {
  within = λ s e. h.within s (firsts s e);
  beside = first a b c d h.beside;
  unlike = h.unlike;
}
  where
    firsts : (s : Sub) → apply s (app a c) ≡ apply s (app b d) → apply s a ≡ apply s b
    firsts s e = cc

differ_right : (a c d x y : Term) → Differ c d x y → Differ (app a c) (app a d) x y
differ_right a c d x y h = record {
  within = λ s e. h.within s (seconds s e);
  beside = second a c d h.beside;
  unlike = h.unlike;
}
  where
    seconds : (s : Sub) → apply s (app a c) ≡ apply s (app a d) → apply s c ≡ apply s d
    seconds s e = cc

pub differ_here : (a b : Term) → Unlike a b → Differ a b a b
differ_here a b u = record { within = λ s e. e; beside = here; unlike = u }

-- what is left of two lists from a place on decides them
pub record Rest (xs ys us vs : List Term) : Type 0 where
  pub same : row us ≡ row vs → row xs ≡ row ys
  pub within : (s : Sub) → apply s (row xs) ≡ apply s (row ys) → apply s (row us) ≡ apply s (row vs)
  pub beside : (x y : Term) → Beside x y (row us) (row vs) → Beside x y (row xs) (row ys)

pub moved : (a b c d x y : Term) → a ≡ c → b ≡ d → Differ c d x y → Differ a b x y
moved a b c d x y e f h =
    let P : Term → Type 0 = λ t. Differ t b x y in
    let Q : Term → Type 0 = λ t. Differ c t x y in
    subst P (sym e) (subst Q (sym f) h)

pub through_right : {A : Type 0} (r : Option A) (f g : A → Term) (a b h u w : Term) → a ≡ app h u → b ≡ app h w →
    MatchOption r (u ≡ w) (λ z. Differ u w (f z) (g z)) → MatchOption r (a ≡ b) (λ z. Differ a b (f z) (g z))
through_right None f g a b h u w e k m = e ∙ ap (λ t. app h t) m ∙ sym k
through_right (Some z) f g a b h u w e k m = moved a b (app h u) (app h w) (f z) (g z) e k (differ_right h u w (f z) (g z) m)

-- the first of two parts
pub through_first : (a b h u w v z x y : Term) → a ≡ app h (app u v) → b ≡ app h (app w z) → Differ u w x y → Differ a b x y
through_first a b h u w v z x y e k d =
    moved a b (app h (app u v)) (app h (app w z)) x y e k (differ_right h (app u v) (app w z) x y (differ_left u w v z x y d))

-- the second of two parts, where the first are equal
pub through_second : {A : Type 0} (r : Option A) (f g : A → Term) (a b h u w v z : Term) → a ≡ app h (app u v) → b ≡ app h (app w z) → u ≡ w →
    MatchOption r (v ≡ z) (λ p. Differ v z (f p) (g p)) → MatchOption r (a ≡ b) (λ p. Differ a b (f p) (g p))
through_second None f g a b h u w v z e k l m = e ∙ ap (λ t. app h (app t v)) l ∙ ap (λ t. app h (app w t)) m ∙ sym k
through_second (Some p) f g a b h u w v z e k l m =
    moved a b (app h (app u v)) (app h (app u z)) (f p) (g p) e (k ∙ ap (λ t. app h (app t z)) (sym l))
    (differ_right h (app u v) (app u z) (f p) (g p) (differ_right u v z (f p) (g p) m))

pub rest_none : (xs ys : List Term) → Rest xs ys xs ys
rest_none xs ys = record { same = λ e. e; within = λ s e. e; beside = λ x y p. p }

-- two lists that go on
rest_cons : (xs ys us vs : List Term) (x y : Term) → x ≡ y → Rest xs ys (x ∷ us) (y ∷ vs) → Rest xs ys us vs
rest_cons xs ys us vs x y e r = record {
  same = λ h. r.same (ap (λ t. app t (row us)) e ∙ ap (λ t. app y t) h);
  within = λ s h. seconds s (r.within s h);
  beside = λ p q z. (let P : Term → Type 0 = λ t. Beside p q (app x (row us)) (app t (row vs)) in r.beside p q (subst P e (second x (row us) (row vs) z)));
}
  where
    seconds : (s : Sub) → app (apply s x) (apply s (row us)) ≡ app (apply s y) (apply s (row vs)) → apply s (row us) ≡ apply s (row vs)
    seconds s h = cc

found_cons : (xs ys us vs : List Term) (x y p q : Term) → Rest xs ys (x ∷ us) (y ∷ vs) → Differ x y p q → Differ (row xs) (row ys) p q
found_cons xs ys us vs x y p q r d =
    let k : Differ (app x (row us)) (app y (row vs)) p q = differ_left x y (row us) (row vs) p q d in
    record {
      within = λ s h. k.within s (r.within s h);
      beside = r.beside p q k.beside;
      unlike = k.unlike;
    }

module _ (xs ys : List Ty) (i : ℕ) (x y : Ty) (lx : i < length xs) (ly : i < length ys) (ex : x ≡ get_or xs i x) (ey : y ≡ get_or ys i y)
    (r : Rest (map mean xs) (map mean ys) (map mean (drop i xs)) (map mean (drop i ys))) where
  opened_x : drop i xs ≡ x ∷ drop (suc i) xs
  opened_x = drop-cons xs i x lx ∙ ap (λ t. t ∷ drop (suc i) xs) (sym ex)

  opened_y : drop i ys ≡ y ∷ drop (suc i) ys
  opened_y = drop-cons ys i y ly ∙ ap (λ t. t ∷ drop (suc i) ys) (sym ey)

  opened : Rest (map mean xs) (map mean ys) (mean x ∷ map mean (drop (suc i) xs)) (mean y ∷ map mean (drop (suc i) ys))
  opened =
      let P : List Ty → Type 0 = λ l. Rest (map mean xs) (map mean ys) (map mean l) (map mean (drop i ys)) in
      let Q : List Ty → Type 0 = λ l. Rest (map mean xs) (map mean ys) (mean x ∷ map mean (drop (suc i) xs)) (map mean l) in
      subst Q opened_y (subst P opened_x r)

  pub rest_more : (j : ℕ) → j ≡ suc i → mean x ≡ mean y → Rest (map mean xs) (map mean ys) (map mean (drop j xs)) (map mean (drop j ys))
  rest_more j k e =
      let P : ℕ → Type 0 = λ n. Rest (map mean xs) (map mean ys) (map mean (drop n xs)) (map mean (drop n ys)) in
      subst P (sym k) (rest_cons _ _ (map mean (drop (suc i) xs)) (map mean (drop (suc i) ys)) (mean x) (mean y) e opened)

  pub rest_found : (p q : Term) → Differ (mean x) (mean y) p q → Differ (row (map mean xs)) (row (map mean ys)) p q
  rest_found p q d = found_cons _ _ (map mean (drop (suc i) xs)) (map mean (drop (suc i) ys)) (mean x) (mean y) p q opened d

pub rest_end : (xs ys : List Ty) (i : ℕ) → length xs ≤ i → length ys ≤ i → Rest (map mean xs) (map mean ys) (map mean (drop i xs)) (map mean (drop i ys)) → row (map mean xs) ≡ row (map mean ys)
rest_end xs ys i l k r = r.same (ap (λ m. row (map mean m)) (drop_all i xs l) ∙ sym (ap (λ m. row (map mean m)) (drop_all i ys k)))

-- ---- records

slot_same : (t u : Term) → some t ≡ some u → t ≡ u
slot_same t u e = cc

at_name : Term → List ℕ → Slot
at_name (var v) n = none
at_name (con h) n = none
at_name (app a b) n = none
at_name (fields f k) n = f n

-- a common field
pub through_field : (a b : Term) (f g : List ℕ → Slot) (k j : Option ℕ) (n : List ℕ) (t u x y : Term) → a ≡ fields f k → b ≡ fields g j → f n ≡ some t → g n ≡ some u →
    Differ t u x y → Differ a b x y
unfolding at_name
through_field a b f g k j n t u x y ea eb ef eg d = moved a b (fields f k) (fields g j) x y ea eb (record {
  within = λ s e. d.within s (slot_same (apply s t) (apply s u)
      (ap (λ z. or_else (apply_slot s z) ((tail_row s k).at n)) (sym ef) ∙ ap (λ z. at_name z n) e ∙ ap (λ z. or_else (apply_slot s z) ((tail_row s j).at n)) eg));
  beside = field f g k j n t u ef eg d.beside;
  unlike = d.unlike;
})

no_form : (f : List ℕ → Slot) (k : Option ℕ) (h x : Term) → fields f k ≡ app h x → ⊥
no_form f k h x e = cc

not_record : (f : List ℕ → Slot) (k : Option ℕ) (v : ℕ) → fields f k ≡ var v → ⊥
not_record f k v e = cc

-- two records whose common fields are equal
pub differ_records : (a b : Term) (f g : List ℕ → Slot) (k j : Option ℕ) → a ≡ fields f k → b ≡ fields g j → Common f g → (SameNames f g × (k ≡ j) → ⊥) → Differ a b a b
unfolding at_name
differ_records a b f g k j ea eb c n = differ_here a b (record {
  at_once = record {
    unequal = λ e. n (names (sym ea ∙ e ∙ eb), tails (sym ea ∙ e ∙ eb));
    forms = λ h x y p q o. absurd (no_form f k (con h) x (sym ea ∙ p));
    records = λ p q i l e h. common_at p q i l (sym e ∙ ea) (sym h ∙ eb);
  };
  apart = λ p q h. absurd (h (f, k, ea) (g, j, eb));
})
  where
    is_of : (x y : Slot) → x ≡ y → Is x → Is y
    is_of x y e i = let P : Slot → Type 0 = λ z. Is z in subst P e i

    names : fields f k ≡ fields g j → SameNames f g
    names e = (λ m i. is_of (f m) (g m) (ap (λ t. at_name t m) e) i, λ m i. is_of (g m) (f m) (sym (ap (λ t. at_name t m) e)) i)

    tails : fields f k ≡ fields g j → k ≡ j
    tails e = cc

    common_at : (p q : List ℕ → Slot) (i l : Option ℕ) → fields p i ≡ fields f k → fields q l ≡ fields g j → Common p q
    common_at p q i l e h m t u x y = c m t u (sym (ap (λ z. at_name z m) e) ∙ x) (sym (ap (λ z. at_name z m) h) ∙ y)

pub equal_records : (a b : Term) (f g : List ℕ → Slot) (k j : Option ℕ) → a ≡ fields f k → b ≡ fields g j → Common f g → SameNames f g × (k ≡ j) → a ≡ b
equal_records a b f g k j ea eb c h = ea ∙ same_names f g k c h.0 ∙ ap (fields g) h.1 ∙ sym eb

-- a type in a list stands in its row
pub occurs_at : (v : Variable) (ts : List Ty) (i : ℕ) (t : Ty) → i < length ts → t ≡ get_or ts i t → Occurs v (mean t) → Occurs v (row (map mean ts))
occurs_at v [] i t lt e o = absurd (omega (arith, lt))
occurs_at v (x ∷ xs) zero t lt e o = inl (let P : Ty → Type 0 = λ z. Occurs v (mean z) in subst P e o)
occurs_at v (x ∷ xs) (suc i) t lt e o = inr (occurs_at v xs i t (omega (arith, lt)) e o)
