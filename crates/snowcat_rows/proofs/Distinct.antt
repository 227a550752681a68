-- Field names that differ, as fields are added and left out.
use Rattle.std.proofs.Common.{◌≡◌, ℕ, zero, suc, ◌+◌, ◌-◌, ◌<◌, Bool, true, false, ◌&&◌, List, [], ◌∷◌, ◌++◌, length, take, drop, drop-cons, get_or, refl, ap, sym, ◌∙◌, subst, inl, inr, Option, arith}
use Rattle.std.specs.Prelude.{bytes_eq, not, ◌||◌}
use Rattle.std.specs.List.{list_all}
use Rattle.std.proofs.lemmas.Bool.{cases_Bool}
use Rattle.std.proofs.lemmas.List.{take_more, take_all, length-drop}
use Rattle.std.proofs.lemmas.List.Folds.{list_all-append}
use Rattle.std.proofs.lemmas.Slice.Eq.{bytes_eq-Decides}
use Rattle.snowcat_rows.specs.declared.types.Ty.{Ty, Rec}
use Rattle.snowcat_rows.specs.Types.{Term, Slot, none, some, mean}
use Rattle.snowcat_rows.specs.TypeTexts.{is_among, are_distinct}
use Rattle.snowcat_rows.specs.Codes.{has}
use Rattle.snowcat_rows.specs.FieldNames.{names, names_differ}
use Rattle.snowcat_rows.specs.inner.Naming.{are_named, fields_named, record_named}
use Rattle.snowcat_rows.proofs.Naming.{and_not, and_left, and_right, or_parts, last_of, differ-Rec}

contrary : (b : Bool) → b ≡ true → b ≡ false → ⊥
contrary b p q = cc

flipped : (x y : List ℕ) → bytes_eq x y ≡ false → bytes_eq y x ≡ false
flipped x y e = elim (cases_Bool (bytes_eq y x)) [
  | inl h ↦ absurd (contrary (bytes_eq x y) ((bytes_eq-Decides x y).1 (sym ((bytes_eq-Decides y x).0 h))) e)
  | inr h ↦ h
]

or_false : (a b : Bool) → a ≡ false → b ≡ false → (a || b) ≡ false
or_false false b e h = h
or_false true b e h = absurd (cc)

not_and : (a b : Bool) → a ≡ false → b ≡ true → (not a && b) ≡ true
not_and false b e h = h
not_and true b e h = absurd (cc)

and_both : (a b : Bool) → a ≡ true → b ≡ true → (a && b) ≡ true
and_both true b e h = h
and_both false b e h = absurd (cc)

-- ---- a list of names with one more

among_snoc : (x y : List ℕ) (ns : List (List ℕ)) → is_among x ns ≡ false → bytes_eq x y ≡ false → is_among x (ns ++ y ∷ []) ≡ false
among_snoc x y [] e h = or_false (bytes_eq x y) false h refl
among_snoc x y (n ∷ ns) e h =
    let p = or_parts (bytes_eq x n) (is_among x ns) e in
    or_false (bytes_eq x n) (is_among x (ns ++ y ∷ [])) p.0 (among_snoc x y ns p.1 h)

among_parts : (x y : List ℕ) (ns : List (List ℕ)) → is_among x (ns ++ y ∷ []) ≡ false → (is_among x ns ≡ false) × (bytes_eq x y ≡ false)
among_parts x y [] e = (refl, (or_parts (bytes_eq x y) false e).0)
among_parts x y (n ∷ ns) e =
    let p = or_parts (bytes_eq x n) (is_among x (ns ++ y ∷ [])) e in
    let q = among_parts x y ns p.1 in
    (or_false (bytes_eq x n) (is_among x ns) p.0 q.0, q.1)

distinct_snoc : (y : List ℕ) (ns : List (List ℕ)) → are_distinct ns ≡ true → is_among y ns ≡ false → are_distinct (ns ++ y ∷ []) ≡ true
distinct_snoc y [] d e = refl
distinct_snoc y (n ∷ ns) d e =
    let p = or_parts (bytes_eq y n) (is_among y ns) e in
    not_and (is_among n (ns ++ y ∷ [])) (are_distinct (ns ++ y ∷ []))
    (among_snoc n y ns (and_not (is_among n ns) (are_distinct ns) d) (flipped y n p.0))
    (distinct_snoc y ns (and_right (not (is_among n ns)) (are_distinct ns) d) p.1)

distinct_parts : (y : List ℕ) (ns : List (List ℕ)) → are_distinct (ns ++ y ∷ []) ≡ true → (are_distinct ns ≡ true) × (is_among y ns ≡ false)
distinct_parts y [] d = (refl, refl)
distinct_parts y (n ∷ ns) d =
    let p = among_parts n y ns (and_not (is_among n (ns ++ y ∷ [])) (are_distinct (ns ++ y ∷ [])) d) in
    let q = distinct_parts y ns (and_right (not (is_among n (ns ++ y ∷ []))) (are_distinct (ns ++ y ∷ [])) d) in
    (not_and (is_among n ns) (are_distinct ns) p.0 q.0, or_false (bytes_eq y n) (is_among y ns) (flipped n y p.1) q.1)

-- ---- fields with one more

abbrev Fields : Type 0
Fields = List (List ℕ × Ty)

names_snoc : (xs : Fields) (f : List ℕ × Ty) → names (xs ++ f ∷ []) ≡ names xs ++ f.0 ∷ []
names_snoc [] f = refl
names_snoc (x ∷ xs) f = ap (λ z. x.0 ∷ z) (names_snoc xs f)

pub record_snoc : (xs : Fields) (f : List ℕ × Ty) → record_named xs ≡ true → is_among f.0 (names xs) ≡ false → names_differ f.1 ≡ true → record_named (xs ++ f ∷ []) ≡ true
record_snoc xs f h n d =
    and_both (are_distinct (names (xs ++ f ∷ []))) (fields_named (xs ++ f ∷ []))
    (ap are_distinct (names_snoc xs f) ∙ distinct_snoc f.0 (names xs) (and_left (are_distinct (names xs)) (fields_named xs) h) n)
    (list_all-append (λ g. names_differ g.1) xs (f ∷ [])
    ∙ and_both (fields_named xs) (names_differ f.1 && true) (and_right (are_distinct (names xs)) (fields_named xs) h) (and_both (names_differ f.1) true d refl))

pub record_parts : (xs : Fields) (f : List ℕ × Ty) → record_named (xs ++ f ∷ []) ≡ true → (record_named xs ≡ true) × (is_among f.0 (names xs) ≡ false) × (names_differ f.1 ≡ true)
record_parts xs f h =
    let d = distinct_parts f.0 (names xs) (sym (ap are_distinct (names_snoc xs f)) ∙ and_left (are_distinct (names (xs ++ f ∷ []))) (fields_named (xs ++ f ∷ [])) h) in
    let e : (fields_named xs && (names_differ f.1 && true)) ≡ true =
    sym (list_all-append (λ g. names_differ g.1) xs (f ∷ [])) ∙ and_right (are_distinct (names (xs ++ f ∷ []))) (fields_named (xs ++ f ∷ [])) h in (
      and_both (are_distinct (names xs)) (fields_named xs) d.0 (and_left (fields_named xs) (names_differ f.1 && true) e),
      d.1,
      and_left (names_differ f.1) true (and_right (fields_named xs) (names_differ f.1 && true) e),
    )

-- a name that the record lacks
pub lacks : (fs : Fields) (n : List ℕ) → has fs n ≡ none → is_among n (names fs) ≡ false
lacks [] n e = refl
lacks (f ∷ fs) n e = elim (cases_Bool (bytes_eq f.0 n)) [
  | inl h ↦ absurd (there (has (f ∷ fs) n) (rw h refl) e)
  | inr h ↦ or_false (bytes_eq n f.0) (is_among n (names fs)) (flipped f.0 n h) (lacks fs n (sym (rw h refl) ∙ e))
]
  where
    there : (z : Slot) → z ≡ some (mean f.1) → z ≡ none → ⊥
    there z p q = cc

-- ---- some of the fields

-- what differs in all differs in some
pub record Thin (some_of all : Fields) : Type 0 where
  pub lacking : (x : List ℕ) → is_among x (names all) ≡ false → is_among x (names some_of) ≡ false
  pub named : record_named all ≡ true → record_named some_of ≡ true

pub thin_none : Thin [] []
thin_none = record { lacking = λ x e. e; named = λ e. e }

thin_at : (xs ys us vs : Fields) → xs ≡ us → ys ≡ vs → Thin us vs → Thin xs ys
thin_at xs ys us vs e h t =
    let P : Fields → Type 0 = λ z. Thin z vs in
    let Q : Fields → Type 0 = λ z. Thin xs z in
    subst Q (sym h) (subst P (sym e) t)

lacking_front : (xs : Fields) (f : List ℕ × Ty) (x : List ℕ) → is_among x (names (xs ++ f ∷ [])) ≡ false → (is_among x (names xs) ≡ false) × (bytes_eq x f.0 ≡ false)
lacking_front xs f x e = among_parts x f.0 (names xs) (sym (ap (is_among x) (names_snoc xs f)) ∙ e)

module _ (fs : Fields) (i : ℕ) (f : List ℕ × Ty) (lt : i < length fs) (is : f ≡ get_or fs i f) (xs : Fields) (t : Thin xs (take i fs)) where
  one_more : take (i + 1) fs ≡ take i fs ++ f ∷ []
  one_more = take_more fs i f lt ∙ ap (λ z. take i fs ++ z ∷ []) (sym is)

  pub thin_skip : (more : Fields) → more ≡ xs → Thin more (take (i + 1) fs)
  thin_skip more e = thin_at more (take (i + 1) fs) xs (take i fs ++ f ∷ []) e one_more (record {
    lacking = λ x h. t.lacking x (lacking_front (take i fs) f x h).0;
    named = λ h. t.named (record_parts (take i fs) f h).0;
  })

  pub thin_take : (more : Fields) (g : List ℕ × Ty) → more ≡ xs ++ g ∷ [] → g.0 ≡ f.0 → names_differ g.1 ≡ names_differ f.1 → Thin more (take (i + 1) fs)
  thin_take more g e n d = thin_at more (take (i + 1) fs) (xs ++ g ∷ []) (take i fs ++ f ∷ []) e one_more (record {
    lacking = λ x h.
        let k = lacking_front (take i fs) f x h in
        ap (is_among x) (names_snoc xs g) ∙ among_snoc x g.0 (names xs) (t.lacking x k.0) (ap (bytes_eq x) n ∙ k.1);
    named = λ h.
        let k = record_parts (take i fs) f h in
        record_snoc xs g (t.named k.0) (ap (λ z. is_among z (names xs)) n ∙ t.lacking f.0 k.1) (d ∙ k.2);
  })

-- ---- one of the bindings, or one more field

grown : {X : Type 0} (xs : List X) (i : ℕ) (x : X) → i < length xs → x ≡ get_or xs i x → take (i + 1) xs ≡ take i xs ++ x ∷ []
grown xs i x lt e = take_more xs i x lt ∙ ap (λ z. take i xs ++ z ∷ []) (sym e)

-- of a front with one more item
pub front_passes : {X : Type 0} (p : X → Bool) (xs : List X) (i : ℕ) (x : X) → i < length xs → x ≡ get_or xs i x → list_all p (take (i + 1) xs) ≡ true →
    (list_all p (take i xs) ≡ true) × (p x ≡ true)
front_passes p xs i x lt e h = last_of p (take i xs) x (sym (ap (list_all p) (grown xs i x lt e)) ∙ h)

pub passes_more : {X : Type 0} (p : X → Bool) (xs ys : List X) (x : X) → ys ≡ xs ++ x ∷ [] → list_all p xs ≡ true → p x ≡ true → list_all p ys ≡ true
passes_more p xs ys x e h k = ap (list_all p) e ∙ list_all-append p xs (x ∷ []) ∙ and_both (list_all p xs) (p x && true) h (and_both (p x) true k refl)

-- a field of a name that was not there
pub joined_named : (items more : Fields) (g f : List ℕ × Ty) → more ≡ items ++ f ∷ [] → has items g.0 ≡ none → f.0 ≡ g.0 → names_differ f.1 ≡ names_differ g.1 →
    record_named items ≡ true → names_differ g.1 ≡ true → record_named more ≡ true
joined_named items more g f e h n d r k =
    ap record_named e ∙ record_snoc items f r (ap (λ z. is_among z (names items)) n ∙ lacks items g.0 h) (d ∙ k)

pub of_fields : (fs : Fields) → record_named fs ≡ true → fields_named fs ≡ true
of_fields fs h = and_right (are_distinct (names fs)) (fields_named fs) h

-- of a part of a list
all_behind : {X : Type 0} (p : X → Bool) (xs : List X) (i : ℕ) → list_all p xs ≡ true → list_all p (drop i xs) ≡ true
all_behind p xs zero h = h
all_behind p [] (suc i) h = refl
all_behind p (x ∷ xs) (suc i) h = all_behind p xs i (and_right (p x) (list_all p xs) h)

all_before : {X : Type 0} (p : X → Bool) (xs : List X) (i : ℕ) → list_all p xs ≡ true → list_all p (take i xs) ≡ true
all_before p xs zero h = refl
all_before p [] (suc i) h = refl
all_before p (x ∷ xs) (suc i) h = and_both (p x) (list_all p (take i xs)) (and_left (p x) (list_all p xs) h) (all_before p xs i (and_right (p x) (list_all p xs) h))

pub all_within : {X : Type 0} (p : X → Bool) (xs : List X) (i j : ℕ) → list_all p xs ≡ true → list_all p (take j (drop i xs)) ≡ true
all_within p xs i j h = all_before p (drop i xs) j (all_behind p xs i h)

-- fields with the same names
pub record_same : (fs gs : Fields) → names gs ≡ names fs → record_named fs ≡ true → fields_named gs ≡ true → record_named gs ≡ true
record_same fs gs e h k =
    and_both (are_distinct (names gs)) (fields_named gs) (ap are_distinct e ∙ and_left (are_distinct (names fs)) (fields_named fs) h) k

pub rec_parts : (t : Ty) (fs us : Fields) (k : Option ℕ) → t ≡ Rec fs k → us ≡ fs → names_differ t ≡ true → record_named us ≡ true
rec_parts t fs us k e q h = ap record_named q ∙ sym (ap names_differ e ∙ differ-Rec fs k) ∙ h

-- of two types
pub both : (a b : Bool) → a ≡ true → b ≡ true → (a && b) ≡ true
both a b h k = and_both a b h k

pub named_parts : (x y : Ty) → are_named x y ≡ true → (names_differ x ≡ true) × (names_differ y ≡ true)
named_parts x y h = (and_left (names_differ x) (names_differ y) h, and_right (names_differ x) (names_differ y) h)

-- ---- tests

-- a name that the record has
has_it : (fs : Fields) (n : List ℕ) (t : Term) → has fs n ≡ some t → is_among n (names fs) ≡ true
has_it [] n t e = absurd (cc)
has_it (f ∷ fs) n t e = elim (cases_Bool (bytes_eq f.0 n)) [
  | inl h ↦ (let k : bytes_eq n f.0 ≡ true = (bytes_eq-Decides n f.0).1 (sym ((bytes_eq-Decides f.0 n).0 h)) in ap (λ b. b || is_among n (names fs)) k)
  | inr h ↦ or_true (bytes_eq n f.0) (is_among n (names fs)) (has_it fs n t (sym (rw h refl) ∙ e))
]
  where
    or_true : (a b : Bool) → b ≡ true → (a || b) ≡ true
    or_true true b k = refl
    or_true false b k = k

opened_at : {X : Type 0} (xs : List X) (i j : ℕ) (x : X) → i < length xs → x ≡ get_or xs i x → j ≡ suc i → drop i xs ≡ x ∷ drop j xs
opened_at xs i j x lt e q = drop-cons xs i x lt ∙ ap (λ z. z ∷ drop (suc i) xs) (sym e) ∙ ap (λ z. x ∷ drop z xs) (sym q)

pub again_at : (fs : Fields) (i j : ℕ) (f : List ℕ × Ty) (t : Term) → i < length fs → f ≡ get_or fs i f → j ≡ suc i → has (drop j fs) f.0 ≡ some t →
    are_distinct (names fs) ≡ are_distinct (names (drop i fs)) → false ≡ are_distinct (names fs)
again_at fs i j f t lt e q k h =
    sym (h ∙ ap (λ l. are_distinct (names l)) (opened_at fs i j f lt e q) ∙ ap (λ b. not b && are_distinct (names (drop j fs))) (has_it (drop j fs) f.0 t k))

pub new_at : (fs : Fields) (i j : ℕ) (f : List ℕ × Ty) → i < length fs → f ≡ get_or fs i f → j ≡ suc i → has (drop j fs) f.0 ≡ none →
    are_distinct (names fs) ≡ are_distinct (names (drop i fs)) → are_distinct (names fs) ≡ are_distinct (names (drop j fs))
new_at fs i j f lt e q k h =
    h ∙ ap (λ l. are_distinct (names l)) (opened_at fs i j f lt e q) ∙ ap (λ b. not b && are_distinct (names (drop j fs))) (lacks (drop j fs) f.0 k)

-- what a slice behind a place holds
pub all_behind_it : {X : Type 0} (xs : List X) (j k : ℕ) → k ≡ length xs - j → take k (drop j xs) ≡ drop j xs
all_behind_it xs j k e = take_all k (drop j xs) (let l : length (drop j xs) ≡ length xs - j = length-drop j xs in omega (arith, l, e))
