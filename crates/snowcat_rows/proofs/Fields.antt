-- Fields by their names.
use Rattle.std.proofs.Common.{◌≡◌, ℕ, zero, suc, ◌<◌, ◌≤◌, true, false, ◌⊎◌, inl, inr, List, [], ◌∷◌, ◌++◌, length, drop, get_or, drop-cons, refl, ap, ◌∙◌, sym, subst, Option, Some, None, MatchOption, arith}
use Rattle.std.specs.Prelude.{bytes_eq}
use Rattle.std.specs.Option.{is_some}
use Rattle.std.proofs.lemmas.Bool.{cases_Bool}
use Rattle.std.proofs.lemmas.List.{drop_all}
use Rattle.std.proofs.lemmas.Slice.Eq.{bytes_eq-Decides}
use Rattle.snowcat_rows.specs.declared.types.Ty.{Ty}
use Rattle.snowcat_rows.specs.declared.types.Ty.TheVariants.{Int}
use Rattle.snowcat_rows.specs.Types.{Term, Slot, none, some, lookup, mean}
use Rattle.snowcat_rows.specs.Substitutions.{or_else}
use Rattle.snowcat_rows.specs.Chains.{Variable, OccursSlot}
use Rattle.snowcat_rows.specs.FirstDifferences.{Common}
use Rattle.snowcat_rows.specs.inner.Rounds.{only, Is, Covers, Lacks}
use Rattle.snowcat_rows.specs.Codes.{named, has}
use Rattle.snowcat_rows.proofs.Means.{lookup-append, or_none}

-- a name that is tested
pub has_first : (f : List ℕ × Ty) (fs : List (List ℕ × Ty)) (n : List ℕ) → f.0 ≡ n → has (f ∷ fs) n ≡ some (mean f.1)
has_first f fs n e = let k : bytes_eq f.0 n ≡ true = (bytes_eq-Decides f.0 n).1 e in rw k refl

pub has_later : (f : List ℕ × Ty) (fs : List (List ℕ × Ty)) (n : List ℕ) → (f.0 ≡ n → ⊥) → has (f ∷ fs) n ≡ has fs n
has_later f fs n h =
    elim (cases_Bool (bytes_eq f.0 n)) [
      | inl e ↦ absurd (h ((bytes_eq-Decides f.0 n).0 e))
      | inr e ↦ rw e refl
    ]

pub name_cases : (a n : List ℕ) → (a ≡ n) ⊎ (a ≡ n → ⊥)
name_cases a n = elim (cases_Bool (bytes_eq a n)) [ inl e ↦ inl ((bytes_eq-Decides a n).0 e) | inr e ↦ inr (λ h. absurd (contrary ((bytes_eq-Decides a n).1 h) e)) ]
  where
    contrary : bytes_eq a n ≡ true → bytes_eq a n ≡ false → ⊥
    contrary p q = cc

-- the list from its i-th field on
pub opened : (fs : List (List ℕ × Ty)) (i : ℕ) (f : List ℕ × Ty) → i < length fs → f ≡ get_or fs i f → drop i fs ≡ f ∷ drop (suc i) fs
opened fs i f lt e = drop-cons fs i f lt ∙ ap (λ t. t ∷ drop (suc i) fs) (sym e)

-- ---- what is left of the names

-- each name for which P holds stands in the rest
abbrev pub Left : (List ℕ → Type 0) → List (List ℕ × Ty) → Type 0
Left P fs = (n : List ℕ) → P n → Is (has fs n)

pub is_at : (a b : Slot) → a ≡ b → Is a → Is b
is_at a b e i = let P : Slot → Type 0 = λ z. Is z in subst P e i

pub left_next : (P : List ℕ → Type 0) (fs : List (List ℕ × Ty)) (i j : ℕ) (f : List ℕ × Ty) → i < length fs → f ≡ get_or fs i f → j ≡ suc i → (P f.0 → ⊥) → Left P (drop i fs) →
    Left P (drop j fs)
left_next P fs i j f lt e q not_it h n p =
    elim (name_cases f.0 n) [
      | inl k ↦ absurd (not_it (let Q : List ℕ → Type 0 = λ z. P z in subst Q (sym k) p))
      | inr k ↦ is_at (has (drop i fs) n) (has (drop j fs) n) (ap (λ l. has l n) (opened fs i f lt e) ∙ has_later f (drop (suc i) fs) n k ∙ ap (λ z. has (drop z fs) n) (sym q)) (h n p)
    ]

pub left_end : (P : List ℕ → Type 0) (fs : List (List ℕ × Ty)) (i : ℕ) → length fs ≤ i → Left P (drop i fs) → (n : List ℕ) → P n → ⊥
left_end P fs i le h n p = is_at (has (drop i fs) n) none (ap (λ l. has l n) (drop_all i fs le)) (h n p)

-- ---- where a variable stands

pub occurs_none : (v : Variable) (z : Slot) → z ≡ none → OccursSlot v z → ⊥
occurs_none v z e o = let P : Slot → Type 0 = λ x. OccursSlot v x in subst P e o

pub occurs_is : (v : Variable) (z : Slot) → OccursSlot v z → Is z
occurs_is v none o = o
occurs_is v (some t) o = tt

-- ---- the fields that another record lacks

pub missing_start : (fs gs : List (List ℕ × Ty)) (items : List (List ℕ × Ty)) (i : ℕ) → items ≡ [] → i ≡ 0 → (n : List ℕ) →
    or_else (has items n) (only (has (drop i fs) n) (has gs n)) ≡ only (has fs n) (has gs n)
missing_start fs gs items i e q n = ap (λ l. or_else (has l n) (only (has (drop i fs) n) (has gs n))) e ∙ ap (λ z. only (has (drop z fs) n) (has gs n)) q

only_some : (x y : Slot) (t : Term) → y ≡ some t → only x y ≡ none
only_some x none t e = absurd (cc)
only_some x (some u) t e = refl

only_same : (x z y : Slot) → (y ≡ none → ⊥) → only x y ≡ only z y
only_same x z none h = absurd (h refl)
only_same x z (some t) h = refl

abbrev Missing : List (List ℕ × Ty) → List (List ℕ × Ty) → List (List ℕ × Ty) → List (List ℕ × Ty) → Type 0
Missing fs gs items rest = (n : List ℕ) → or_else (has items n) (only (has rest n) (has gs n)) ≡ only (has fs n) (has gs n)

-- the other record has the name
pub missing_skip : (fs gs items more : List (List ℕ × Ty)) (i j : ℕ) (f : List ℕ × Ty) → i < length fs → f ≡ get_or fs i f → j ≡ suc i → (has gs f.0 ≡ none → ⊥) →
    more ≡ items → Missing fs gs items (drop i fs) → Missing fs gs more (drop j fs)
missing_skip fs gs items more i j f lt e q h p m n =
    ap (λ l. or_else (has l n) (only (has (drop j fs) n) (has gs n))) p ∙ ap (or_else (has items n)) (here (name_cases f.0 n)) ∙ m n
  where
    here : (f.0 ≡ n) ⊎ (f.0 ≡ n → ⊥) → only (has (drop j fs) n) (has gs n) ≡ only (has (drop i fs) n) (has gs n)
    here (inl k) = only_same (has (drop j fs) n) (has (drop i fs) n) (has gs n) (λ z. h (ap (has gs) k ∙ z))
    here (inr k) = ap (λ z. only z (has gs n)) (ap (λ z. has (drop z fs) n) q ∙ sym (ap (λ l. has l n) (opened fs i f lt e) ∙ has_later f (drop (suc i) fs) n k))

-- it lacks the name
pub missing_take : (fs gs items more : List (List ℕ × Ty)) (i j : ℕ) (f g : List ℕ × Ty) → i < length fs → f ≡ get_or fs i f → j ≡ suc i → has gs f.0 ≡ none →
    more ≡ items ++ g ∷ [] → g.0 ≡ f.0 → mean g.1 ≡ mean f.1 → Missing fs gs items (drop i fs) → Missing fs gs more (drop j fs)
missing_take fs gs items more i j f g lt e q h p gn gm m n =
    ap (λ l. or_else (has l n) (only (has (drop j fs) n) (has gs n))) p
    ∙ ap (λ z. or_else z (only (has (drop j fs) n) (has gs n))) (ap (λ l. lookup l n) (named_append items (g ∷ [])) ∙ lookup-append (named items) (named (g ∷ [])) n)
    ∙ or_or (has items n) (has (g ∷ []) n) (only (has (drop j fs) n) (has gs n))
    ∙ ap (or_else (has items n)) (here (name_cases f.0 n))
    ∙ m n
  where
    named_append : (xs ys : List (List ℕ × Ty)) → named (xs ++ ys) ≡ named xs ++ named ys
    named_append [] ys = refl
    named_append (x ∷ xs) ys = ap (λ l. (x.0, mean x.1) ∷ l) (named_append xs ys)

    or_or : (x y z : Slot) → or_else (or_else x y) z ≡ or_else x (or_else y z)
    or_or none y z = refl
    or_or (some t) y z = refl

    here : (f.0 ≡ n) ⊎ (f.0 ≡ n → ⊥) → or_else (has (g ∷ []) n) (only (has (drop j fs) n) (has gs n)) ≡ only (has (drop i fs) n) (has gs n)
    here (inl k) =
        ap (λ z. or_else z (only (has (drop j fs) n) (has gs n))) (has_first g [] n (gn ∙ k) ∙ ap some gm)
        ∙ sym (ap (only (has (drop i fs) n)) (ap (has gs) (sym k) ∙ h) ∙ ap (λ l. has l n) (opened fs i f lt e) ∙ has_first f (drop (suc i) fs) n k)
    here (inr k) =
        ap (λ z. or_else z (only (has (drop j fs) n) (has gs n))) (has_later g [] n (λ z. k (sym gn ∙ z)))
        ∙ ap (λ z. only z (has gs n)) (ap (λ z. has (drop z fs) n) q ∙ sym (ap (λ l. has l n) (opened fs i f lt e) ∙ has_later f (drop (suc i) fs) n k))

pub missing_end : (fs gs items : List (List ℕ × Ty)) (i : ℕ) → length fs ≤ i → Missing fs gs items (drop i fs) → (n : List ℕ) → has items n ≡ only (has fs n) (has gs n)
missing_end fs gs items i le m n =
    sym (or_only (has items n) (has gs n)) ∙ ap (λ l. or_else (has items n) (only (has l n) (has gs n))) (sym (drop_all i fs le)) ∙ m n
  where
    or_only : (x y : Slot) → or_else x (only none y) ≡ x
    or_only none none = refl
    or_only none (some u) = refl
    or_only (some t) y = refl

-- ---- the fields of two records, the first of each name

abbrev pub Joined : List (List ℕ × Ty) → List (List ℕ × Ty) → List (List ℕ × Ty) → List (List ℕ × Ty) → Type 0
Joined fs gs items rest = (n : List ℕ) → or_else (has items n) (has rest n) ≡ or_else (has fs n) (has gs n)

-- the name is there
pub joined_skip : (fs gs items more : List (List ℕ × Ty)) (i j : ℕ) (g : List ℕ × Ty) → i < length gs → g ≡ get_or gs i g → j ≡ suc i → (has items g.0 ≡ none → ⊥) →
    more ≡ items → Joined fs gs items (drop i gs) → Joined fs gs more (drop j gs)
joined_skip fs gs items more i j g lt e q h p m n = ap (λ l. or_else (has l n) (has (drop j gs) n)) p ∙ here (name_cases g.0 n) ∙ m n
  where
    first_counts : (x y z : Slot) → (x ≡ none → ⊥) → or_else x y ≡ or_else x z
    first_counts none y z k = absurd (k refl)
    first_counts (some t) y z k = refl

    here : (g.0 ≡ n) ⊎ (g.0 ≡ n → ⊥) → or_else (has items n) (has (drop j gs) n) ≡ or_else (has items n) (has (drop i gs) n)
    here (inl k) = first_counts (has items n) (has (drop j gs) n) (has (drop i gs) n) (λ z. h (ap (has items) k ∙ z))
    here (inr k) = ap (or_else (has items n)) (ap (λ z. has (drop z gs) n) q ∙ sym (ap (λ l. has l n) (opened gs i g lt e) ∙ has_later g (drop (suc i) gs) n k))

-- it is not
pub joined_take : (fs gs items more : List (List ℕ × Ty)) (i j : ℕ) (g f : List ℕ × Ty) → i < length gs → g ≡ get_or gs i g → j ≡ suc i →
    more ≡ items ++ f ∷ [] → f.0 ≡ g.0 → mean f.1 ≡ mean g.1 → Joined fs gs items (drop i gs) → Joined fs gs more (drop j gs)
joined_take fs gs items more i j g f lt e q p gn gm m n =
    ap (λ z. or_else z (has (drop j gs) n)) (ap (λ l. has l n) p ∙ ap (λ l. lookup l n) (named_append items (f ∷ [])) ∙ lookup-append (named items) (named (f ∷ [])) n)
    ∙ or_or (has items n) (has (f ∷ []) n) (has (drop j gs) n)
    ∙ ap (or_else (has items n)) (here (name_cases g.0 n))
    ∙ m n
  where
    named_append : (xs ys : List (List ℕ × Ty)) → named (xs ++ ys) ≡ named xs ++ named ys
    named_append [] ys = refl
    named_append (x ∷ xs) ys = ap (λ l. (x.0, mean x.1) ∷ l) (named_append xs ys)

    or_or : (x y z : Slot) → or_else (or_else x y) z ≡ or_else x (or_else y z)
    or_or none y z = refl
    or_or (some t) y z = refl

    here : (g.0 ≡ n) ⊎ (g.0 ≡ n → ⊥) → or_else (has (f ∷ []) n) (has (drop j gs) n) ≡ has (drop i gs) n
    here (inl k) =
        ap (λ z. or_else z (has (drop j gs) n)) (has_first f [] n (gn ∙ k) ∙ ap some gm) ∙ sym (ap (λ l. has l n) (opened gs i g lt e) ∙ has_first g (drop (suc i) gs) n k)
    here (inr k) =
        ap (λ z. or_else z (has (drop j gs) n)) (has_later f [] n (λ z. k (sym gn ∙ z)))
        ∙ ap (λ z. has (drop z gs) n) q ∙ sym (ap (λ l. has l n) (opened gs i g lt e) ∙ has_later g (drop (suc i) gs) n k)

pub joined_end : (fs gs items : List (List ℕ × Ty)) (i : ℕ) → length gs ≤ i → Joined fs gs items (drop i gs) → (n : List ℕ) → has items n ≡ or_else (has fs n) (has gs n)
joined_end fs gs items i le m n = sym (or_none (has items n)) ∙ ap (λ l. or_else (has items n) (has l n)) (sym (drop_all i gs le)) ∙ m n

-- ---- a name that is not found
pub uncovered : (fs gs : List (List ℕ × Ty)) (i : ℕ) (g : List ℕ × Ty) → i < length gs → g ≡ get_or gs i g → has fs g.0 ≡ none → Lacks (has fs) (has gs)
uncovered fs gs i g lt e h = (g.0, there gs i lt e, h)
  where
    there : (l : List (List ℕ × Ty)) (i : ℕ) → i < length l → g ≡ get_or l i g → Is (has l g.0)
    there [] i lt e = absurd (omega (arith, lt))
    there (x ∷ xs) zero lt e = is_at (some (mean x.1)) (has (x ∷ xs) g.0) (sym (has_first x xs g.0 (ap (λ (y : List ℕ × Ty). y.0) (sym e)))) tt
    there (x ∷ xs) (suc i) lt e = elim (name_cases x.0 g.0) [
      | inl k ↦ is_at (some (mean x.1)) (has (x ∷ xs) g.0) (sym (has_first x xs g.0 k)) tt
      | inr k ↦ is_at (has xs g.0) (has (x ∷ xs) g.0) (sym (has_later x xs g.0 k)) (there xs i (omega (arith, lt)) e)
    ]

pub not_covered : (f g : List ℕ → Slot) → Lacks f g → Covers f g → ⊥
not_covered f g (n, i, e) c = clash (f n) e (c n i)
  where
    clash : (x : Slot) → x ≡ none → Is x → ⊥
    clash none e i = i
    clash (some t) e i = absurd (cc)

pub none_is : (fs : List (List ℕ × Ty)) (n : List ℕ) (r : Option ℕ) → MatchOption r (has fs n ≡ none) (λ i. (i < length fs) × ((d : List ℕ × Ty) → has fs n ≡ some (mean (get_or fs i d).1))) → is_some r ≡ false → has fs n ≡ none
none_is fs n None h e = h
none_is fs n (Some i) h e = absurd (cc)

-- the first field of a name that is found
pub some_is_at : (fs : List (List ℕ × Ty)) (n : List ℕ) (i : ℕ) (x : List ℕ × Ty) → ((d : List ℕ × Ty) → has fs n ≡ some (mean (get_or fs i d).1)) → x ≡ get_or fs i x → has fs n ≡ some (mean x.1)
some_is_at fs n i x h e = h x ∙ ap (λ (y : List ℕ × Ty). some (mean y.1)) (sym e)

pub some_is : (fs : List (List ℕ × Ty)) (n : List ℕ) (r : Option ℕ) → MatchOption r (has fs n ≡ none) (λ i. (i < length fs) × ((d : List ℕ × Ty) → has fs n ≡ some (mean (get_or fs i d).1))) → is_some r ≡ true → has fs n ≡ none → ⊥
some_is fs n None h e q = absurd (cc)
some_is fs n (Some i) h e q = clash (has fs n) q (h.1 (n, Int))
  where
    clash : (z : Slot) {t : Term} → z ≡ none → z ≡ some t → ⊥
    clash z p k = cc

-- ---- the common fields that were compared

abbrev pub Compared : List (List ℕ × Ty) → List (List ℕ × Ty) → List (List ℕ × Ty) → Type 0
Compared fs gs rest = (n : List ℕ) (t u : Term) → has fs n ≡ some t → has gs n ≡ some u → (t ≡ u) ⊎ Is (has rest n)

some_some : (z : Slot) (t u : Term) → z ≡ some t → z ≡ some u → t ≡ u
some_some z t u e h = inner (sym e ∙ h)
  where
    inner : some t ≡ some u → t ≡ u
    inner k = cc

none_some : (z : Slot) (t : Term) → z ≡ none → z ≡ some t → ⊥
none_some z t e h = cc

pub compared_start : (fs gs : List (List ℕ × Ty)) (i : ℕ) → i ≡ 0 → Compared fs gs (drop i fs)
compared_start fs gs i q n t u e h = inr (is_at (some t) (has (drop i fs) n) (sym e ∙ ap (λ z. has (drop z fs) n) (sym q)) tt)

pub compared_next : (fs gs : List (List ℕ × Ty)) (i j : ℕ) (f : List ℕ × Ty) → i < length fs → f ≡ get_or fs i f → j ≡ suc i →
    ((t u : Term) → has fs f.0 ≡ some t → has gs f.0 ≡ some u → t ≡ u) → Compared fs gs (drop i fs) → Compared fs gs (drop j fs)
compared_next fs gs i j f lt e q same c n t u x y =
    elim (name_cases f.0 n) [
      | inl k ↦ inl (same t u (ap (has fs) k ∙ x) (ap (has gs) k ∙ y))
      | inr k ↦ elim (c n t u x y) [
        | inl z ↦ inl z
        | inr z ↦ inr (is_at (has (drop i fs) n) (has (drop j fs) n) (ap (λ l. has l n) (opened fs i f lt e) ∙ has_later f (drop (suc i) fs) n k ∙ ap (λ z. has (drop z fs) n) (sym q)) z)
      ]
    ]

pub compared_end : (fs gs : List (List ℕ × Ty)) (i : ℕ) → length fs ≤ i → Compared fs gs (drop i fs) → Common (has fs) (has gs)
compared_end fs gs i le c n t u x y =
    elim (c n t u x y) [ inl z ↦ z | inr z ↦ absurd (is_at (has (drop i fs) n) none (ap (λ l. has l n) (drop_all i fs le)) z) ]

pub same_both : (fs gs : List (List ℕ × Ty)) (n : List ℕ) (a b : Term) → has fs n ≡ some a → has gs n ≡ some b → a ≡ b → (t u : Term) → has fs n ≡ some t → has gs n ≡ some u → t ≡ u
same_both fs gs n a b x y e t u p q = some_some (has fs n) t a p x ∙ e ∙ some_some (has gs n) b u y q

pub same_none : (z : Slot) (w : Slot) → w ≡ none → (t u : Term) → z ≡ some t → w ≡ some u → t ≡ u
same_none z w e t u p q = absurd (none_some w u e q)

pub same_first : (z : Slot) (w : Slot) → z ≡ none → (t u : Term) → z ≡ some t → w ≡ some u → t ≡ u
same_first z w e t u p q = absurd (none_some z t e p)
