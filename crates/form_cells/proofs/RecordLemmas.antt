-- The fields of records, in whatever order they are asked for.
use Rattle.std.proofs.Common.{◌≡◌, ℕ, zero, suc, ◌+◌, ◌<◌, ◌≤◌, Bool, true, false, ◌&&◌, ◌||◌, List, [], ◌∷◌, ◌++◌, map, length, take, get_or, refl, sym, ◌∙◌, ap, ap₂, subst, arith, Some, Option, ◌⊎◌, inl, inr, if◌then◌else◌}
use Rattle.std.specs.Ordering.{is_lt}
use Rattle.std.specs.List.{cons_option, filter_map, list_all}
use Rattle.std.proofs.lemmas.List.{get_or_default, get_or-map, length-map, map_push, take_all, take_more}
use Rattle.tla_values.specs.Order.{same_value, text_cmp}
use Rattle.tla_values.specs.Sets.{apply, member, set_of}
use Rattle.tla_values.specs.declared.value.Value.{Value}
use Rattle.tla_values.specs.declared.value.Value.TheVariants as value
use Rattle.tla_values.proofs.Extensional.{member-set_of, members_of}
use Rattle.tla_values.proofs.Members.{list_all-set_of}
use Rattle.tla_meaning.specs.Forms.{fields_at, has_fields, same_set}
use Rattle.cell_arena.specs.declared.build.Build.{Build}
use Rattle.cell_arena.specs.declared.kinds.CellId.{CellId}
use Rattle.cell_arena.specs.declared.kinds.CellKind.{CellKind}
use Rattle.cell_arena.specs.Cells.{kind_at}
use Rattle.cell_arena.specs.Decode.{decode}
use Rattle.cell_arena.proofs.Decoding.{decode-kind}
use Rattle.cell_merge.specs.Arrows.{pairs_of}
use Rattle.cell_merge.specs.Sorts.{IsRecord, OfSort, Sort, truth}
use Rattle.cell_merge.proofs.Edges.{is-record}
use Rattle.function_rewriter.specs.Functions.{HasField, IsField}
use Rattle.function_rewriter.specs.inner.Constants.{names_of}
use Rattle.function_rewriter.proofs.KnownValues.{record-arguments}
use Rattle.typed_cells.specs.FieldOrder.{in_order, put_field}
use Rattle.typed_cells.specs.KindSorts.{OfSorts, sort_at}
use Rattle.form_cells.specs.inner.Listed.{AreFields, AreFirstFields, IsRecordCell}

-- ---- where fields stand once they are put in order

abbrev Field : Type 0
Field = List ℕ × Sort

abbrev Among : Field → List Field → Type 0
Among p [] = ⊥
Among p (f ∷ fs) = (f ≡ p) ⊎ Among p fs

put-new : (x : List ℕ) (s : Sort) (fs : List Field) → Among (x, s) (put_field x s fs)
put-new x s [] = inl refl
put-new x s (f ∷ fs) = by_order (is_lt (text_cmp x f.0)) (put-new x s fs)
  where
    by_order : (b : Bool) → Among (x, s) (put_field x s fs) → Among (x, s) (if b then (x, s) ∷ f ∷ fs else f ∷ put_field x s fs)
    by_order true h = inl refl
    by_order false h = inr h

put-old : (x : List ℕ) (s : Sort) (p : Field) (fs : List Field) → Among p fs → Among p (put_field x s fs)
put-old x s p [] h = absurd h
put-old x s p (f ∷ fs) h = by_order (is_lt (text_cmp x f.0)) h (put-old x s p fs)
  where
    by_order : (b : Bool) → (f ≡ p) ⊎ Among p fs → (Among p fs → Among p (put_field x s fs)) →
        Among p (if b then (x, s) ∷ f ∷ fs else f ∷ put_field x s fs)
    by_order true h go = inr h
    by_order false (inl e) go = inl e
    by_order false (inr h) go = inr (go h)

ordered-has : (names : List (List ℕ)) (ss : List Sort) (i : ℕ) → i < length names → length ss ≡ length names →
    Among (get_or names i [], get_or ss i truth) (in_order names ss)
ordered-has [] ss i lt e = absurd (omega arith)
ordered-has (x ∷ names) [] i lt e = absurd (omega arith)
ordered-has (x ∷ names) (s ∷ ss) zero lt e = put-new x s (in_order names ss)
ordered-has (x ∷ names) (s ∷ ss) (suc i) lt e =
    put-old x s (get_or names i [], get_or ss i truth) (in_order names ss) (ordered-has names ss i (omega arith) (omega arith))

record Stands (p : Field) (fs : List Field) : Type 0 where
  place : ℕ
  within : place < length fs
  at : (d : Field) → get_or fs place d ≡ p

stands : (p : Field) (fs : List Field) → Among p fs → Stands p fs
stands p [] h = absurd h
stands p (f ∷ fs) (inl e) = record { place = 0; within = omega arith; at = λ d. e }
stands p (f ∷ fs) (inr h) =
    let s = stands p fs h in let lt = s.within in record { place = suc s.place; within = omega arith; at = λ d. s.at d }

sort-get : (ss : List Sort) (i : ℕ) → sort_at ss i ≡ get_or ss i truth
sort-get [] zero = refl
sort-get [] (suc i) = refl
sort-get (s ∷ ss) zero = refl
sort-get (s ∷ ss) (suc i) = sort-get ss i

-- the place of a name among the fields in their order, with its sort
pub record PlaceOf (names : List (List ℕ)) (ss : List Sort) (i : ℕ) : Type 0 where
  pub place : ℕ
  pub within : place < length (map (λ (f : Field). f.0) (in_order names ss))
  pub named : get_or (map (λ (f : Field). f.0) (in_order names ss)) place [] ≡ get_or names i []
  pub sort : sort_at (map (λ (f : Field). f.1) (in_order names ss)) place ≡ get_or ss i truth

pub place-of : (names : List (List ℕ)) (ss : List Sort) (i : ℕ) → i < length names → length ss ≡ length names → PlaceOf names ss i
place-of names ss i lt e =
    let fs : List Field = in_order names ss in
    let s = stands (get_or names i [], get_or ss i truth) fs (ordered-has names ss i lt e) in
    let d : Field = ([], truth) in
    record {
      place = s.place;
      within = subst (λ n. s.place < n) (sym (length-map fs (λ (f : Field). f.0))) s.within;
      named = get_or-map (λ (f : Field). f.0) fs s.place d [] s.within ∙ ap (λ (f : Field). f.0) (s.at d);
      sort = sort-get (map (λ (f : Field). f.1) fs) s.place ∙ get_or-map (λ (f : Field). f.1) fs s.place d truth s.within ∙ ap (λ (f : Field). f.1) (s.at d);
    }

pub has-field : (ks : List CellKind) (r : CellId) (names : List (List ℕ)) (i : ℕ) (name : List ℕ) → IsRecordCell ks r names → i < length names →
    name ≡ get_or names i name → HasField ks r name
has-field ks r names i name h lt is =
    let p = place-of names h.sorts i lt h.count in
    record { names = _; sorts = _; is = h.is; place = p.place; within = p.within; named = p.named ∙ sym (is ∙ get_or_default names i name [] lt) }

-- ---- fields that are read one by one

pub sorts-push : (ks : List CellKind) (ss : List Sort) (xs : List CellId) (s : Sort) (x : CellId) → OfSorts ks ss xs → OfSort ks s x →
    OfSorts ks (ss ++ s ∷ []) (xs ++ x ∷ [])
sorts-push ks [] [] s x h o = (o, tt)
sorts-push ks [] (y ∷ xs) s x h o = absurd h
sorts-push ks (r ∷ ss) [] s x h o = absurd h
sorts-push ks (r ∷ ss) (y ∷ xs) s x h o = (h.0, sorts-push ks ss xs s x h.1 o)

pub fields-none : (b : Build) (r : CellId) (names : List (List ℕ)) (xs : List CellId) → xs ≡ [] → AreFirstFields b r names 0 xs
fields-none b r names xs e = rw e (record { sorts = λ ss c o. none ss; values = λ a. no_values a names })
  where
    none : (ss : List Sort) → OfSorts b.arena.kinds (take 0 ss) []
    none [] = tt
    none (s ∷ ss) = tt

    no_values : (a : List Bool) (names : List (List ℕ)) → map (λ n. apply (pairs_of (decode b.arena a r)) (value.Text n)) (take 0 names) ≡ []
    no_values a [] = refl
    no_values a (n ∷ names) = refl

pub fields-turn : (b : Build) (r : CellId) (names : List (List ℕ)) (i : ℕ) (name : List ℕ) (xs after : List CellId) (x : CellId)
    → AreFirstFields b r names i xs → i < length names → name ≡ get_or names i name → IsField b r name x → after ≡ xs ++ x ∷ []
    → AreFirstFields b r names (i + 1) after
fields-turn b r names i name xs after x h lt is field pushed = rw pushed (record {
  sorts = λ ss count o.
      let p = place-of names ss i lt count in
      subst (λ l. OfSorts b.arena.kinds l (xs ++ x ∷ [])) (sym (take_more ss i truth (subst (λ n. i < n) (sym count) lt)))
      (sorts-push b.arena.kinds (take i ss) xs (get_or ss i truth) x (h.sorts ss count o)
      (subst (λ s. OfSort b.arena.kinds s x) p.sort (field.sort _ _ p.place o p.within (p.named ∙ sym (is ∙ get_or_default names i name [] lt)))));
  values = λ a.
      let at : List ℕ → Option Value = λ n. apply (pairs_of (decode b.arena a r)) (value.Text n) in
      ap (map at) (take_more names i [] lt) ∙ map_push at (take i names) (get_or names i [])
      ∙ ap₂ (λ l o. l ++ o ∷ []) (h.values a) (ap at (sym (is ∙ get_or_default names i name [] lt)) ∙ field.gives a)
      ∙ sym (map_push (λ x. Some (decode b.arena a x)) xs x);
})

pub fields-all : (b : Build) (r : CellId) (names : List (List ℕ)) (i : ℕ) (xs : List CellId) → length names ≤ i → AreFirstFields b r names i xs →
    AreFields b r names xs
fields-all b r names i xs le h = record {
  sorts = λ ss count o. subst (λ l. OfSorts b.arena.kinds l xs) (take_all i ss (omega arith) ∙ sym (take_all (length names) ss (omega arith))) (h.sorts ss count o);
  values = λ a. ap (map (λ n. apply (pairs_of (decode b.arena a r)) (value.Text n))) (take_all (length names) names (omega arith) ∙ sym (take_all i names le)) ∙ h.values a;
}

-- ---- the names of a record

abbrev texts : List (List ℕ) → List Value
texts names = map (λ n. value.Text n) names

abbrev name_of : Field → List ℕ
name_of f = f.0

or-swap : (p q r : Bool) → (p || (q || r)) ≡ (q || (p || r))
or-swap true true r = refl
or-swap true false r = refl
or-swap false q r = refl

put-member : (v : Value) (x : List ℕ) (s : Sort) (fs : List Field) →
    member v (texts (map name_of (put_field x s fs))) ≡ (same_value v (value.Text x) || member v (texts (map name_of fs)))
put-member v x s [] = refl
put-member v x s (f ∷ fs) = by_order (is_lt (text_cmp x f.0)) (put-member v x s fs)
  where
    by_order : (b : Bool) → member v (texts (map name_of (put_field x s fs))) ≡ (same_value v (value.Text x) || member v (texts (map name_of fs))) →
        member v (texts (map name_of (if b then (x, s) ∷ f ∷ fs else f ∷ put_field x s fs)))
        ≡ (same_value v (value.Text x) || (same_value v (value.Text f.0) || member v (texts (map name_of fs))))
    by_order true h = refl
    by_order false h =
        ap (λ t. same_value v (value.Text f.0) || t) h ∙ or-swap (same_value v (value.Text f.0)) (same_value v (value.Text x)) (member v (texts (map name_of fs)))

ordered-member : (v : Value) (names : List (List ℕ)) (ss : List Sort) → length ss ≡ length names →
    member v (texts (map name_of (in_order names ss))) ≡ member v (texts names)
ordered-member v [] [] e = refl
ordered-member v [] (s ∷ ss) e = absurd (omega arith)
ordered-member v (x ∷ names) [] e = absurd (omega arith)
ordered-member v (x ∷ names) (s ∷ ss) e =
    put-member v x s (in_order names ss) ∙ ap (λ t. same_value v (value.Text x) || t) (ordered-member v names ss (omega arith))

all-same : (p q : Value → Bool) (xs : List Value) → ((v : Value) → p v ≡ q v) → list_all p xs ≡ list_all q xs
all-same p q [] h = refl
all-same p q (x ∷ xs) h = ap₂ (λ a b. a && b) (h x) (all-same p q xs h)

same-names : (xs ys : List Value) → ((v : Value) → member v ys ≡ member v xs) → same_set xs (set_of ys) ≡ true
same-names xs ys h =
    ap₂ (λ a b. a && b)
    (all-same (λ x. member x (set_of ys)) (λ x. member x xs) xs (λ v. member-set_of v ys ∙ h v) ∙ members_of xs xs (λ v e. e))
    (list_all-set_of (λ y. member y xs) ys ∙ members_of xs ys (λ v e. sym (h v) ∙ e))

pub record-names : (b : Build) (a : List Bool) (r : CellId) (names : List (List ℕ)) → IsRecordCell b.arena.kinds r names →
    has_fields names (pairs_of (decode b.arena a r)) ≡ true
record-names b a r names h =
    let k = kind_at b.arena.kinds r in
    let e = is-record _ (λ i. OfSort b.arena.kinds (sort_at (map (λ (f : Field). f.1) (in_order names h.sorts)) i)) k h.is.1 in
    let P : CellKind → Type 0 = IsRecord _ (λ i. OfSort b.arena.kinds (sort_at (map (λ (f : Field). f.1) (in_order names h.sorts)) i)) in
    let is : map (λ (f : List ℕ × CellId). f.0) e.0 ≡ map name_of (in_order names h.sorts) = (subst P e.1 h.is.1).0 in
    ap (same_set (texts names)) (record-arguments b.arena a k r e.0 (decode-kind b.arena a r b.built h.is.0) e.1 ∙ ap (λ (j : CellKind). set_of (texts (names_of j))) e.1 ∙ ap (λ l. set_of (texts l)) is)
    ∙ same-names (texts names) (texts (map name_of (in_order names h.sorts))) (λ v. ordered-member v names h.sorts h.count)

-- ---- what stands at the names

head-one : {X : Type 0} (x y : X) (xs ys : List X) → (x ∷ xs) ≡ (y ∷ ys) → x ≡ y
head-one x y xs ys e = cc

tail-one : {X : Type 0} (x y : X) (xs ys : List X) → (x ∷ xs) ≡ (y ∷ ys) → xs ≡ ys
tail-one x y xs ys e = cc

pub values-found : (f : List ℕ → Option Value) (of : CellId → Value) (names : List (List ℕ)) (xs : List CellId) →
    map f names ≡ map (λ x. Some (of x)) xs → filter_map f names ≡ map of xs
values-found f of [] [] e = refl
values-found f of [] (x ∷ xs) e = absurd (cc)
values-found f of (n ∷ names) [] e = absurd (cc)
values-found f of (n ∷ names) (x ∷ xs) e =
    ap (λ o. cons_option o (filter_map f names)) (head-one (f n) (Some (of x)) (map f names) (map (λ x. Some (of x)) xs) e)
    ∙ ap (λ l. of x ∷ l) (values-found f of names xs (tail-one (f n) (Some (of x)) (map f names) (map (λ x. Some (of x)) xs) e))

pub record-fields : (b : Build) (a : List Bool) (r : CellId) (names : List (List ℕ)) (xs : List CellId) → AreFields b r names xs →
    fields_at names (pairs_of (decode b.arena a r)) ≡ map (decode b.arena a) xs
record-fields b a r names xs h =
    values-found (λ n. apply (pairs_of (decode b.arena a r)) (value.Text n)) (decode b.arena a) names xs
    (ap (map (λ n. apply (pairs_of (decode b.arena a r)) (value.Text n))) (sym (take_all (length names) names (omega arith))) ∙ h.values a)
