-- Records, and sets of records and of tuples that are walked.
use Rattle.std.proofs.Common.{◌≡◌, ℕ, suc, Bool, true, false, not, ◌&&◌, ◌||◌, IsTrue, List, [], ◌∷◌, map, zip, length, nat_eq, Option, Some, None, refl, sym, ◌∙◌, ap, subst, arith, is_some, if◌then◌else◌}
use Rattle.std.proofs.lemmas.List.{length-map}
use Rattle.std.specs.List.{AllByRecursion, list_all, list_any}
use Rattle.std.specs.Ordering.{is_eq, is_lt}
use Rattle.std.specs.declared.cmp.Ordering.{Ordering}
use Rattle.std.specs.declared.cmp.Ordering.TheVariants.{Less, Equal, Greater}
use Rattle.tla_values.specs.Order.{same_value, value_cmp, text_cmp}
use Rattle.tla_values.specs.Sets.{apply, arguments, function_of, insert_pair, member, set_of, by_order}
use Rattle.tla_values.specs.declared.value.Value.{Value, out-Value}
use Rattle.tla_values.specs.declared.value.Value.TheVariants as value
use Rattle.tla_values.specs.declared.value.Value.TheOpen as layer
use Rattle.tla_values.proofs.OrderLemmas.{by_kinds}
use Rattle.tla_values.proofs.SetLaws.{all_set_of}
use Rattle.tla_values.proofs.FunLaws.{all_function, apply_domain}
use Rattle.tla_values.proofs.Extensional.{same_equal, same_itself}
use Rattle.tla_meaning.specs.declared.op.Op.TheVariants as op
use Rattle.tla_meaning.specs.declared.place.Place.{Place}
use Rattle.tla_meaning.specs.Scopes.{same_text}
use Rattle.tla_meaning.specs.Shapes.{choices, record_of, sequence}
use Rattle.tla_meaning.specs.Operators.{table}
use Rattle.tla_meaning.proofs.NormalShapes.{all_mapped}
use Rattle.tla_meaning.proofs.Views.{and_left, and_right, and_both, false≢true}
use Rattle.kernel_shapes.specs.Shape.{Shape, Set, Tup, shapes}
use Rattle.kernel_shapes.specs.Rows.{no_literal, a_record, the_records, the_tuples, insides, product_of, put_field, in_order, record_shape, row_shape}
use Rattle.kernel_shapes.specs.Sized.{Sized, shapes_of, index_of, row_joins, names_differ, is_record_of}
use Rattle.kernel_shapes.specs.Fits.{OfSome, FitsLayer, Fits, FitAll, FieldsFit}
use Rattle.kernel_shapes.proofs.FitLemmas.{IfVal, all_to}
use Rattle.kernel_shapes.proofs.Sizes.{set_size, function_size}
use Rattle.kernel_shapes.proofs.Operators.{fits_set, same_length}
use Rattle.kernel_shapes.proofs.Combine.{MeetAll, all_fit}
use Rattle.kernel_shapes.proofs.Tables.{Gives}
use Rattle.kernel_shapes.proofs.Binders.{SetsFit, on_sets_fit, choices_fit, choices_below, zip_size}
use Rattle.kernel_shapes.proofs.Sequences.{fits_tuple}

-- ---- what a function of pairs gives is what the first pair with the argument says

apart : (q p a : Value) → value_cmp q p ≡ Greater → same_value a p ≡ true → same_value a q ≡ true → ⊥
apart q p a g h k =
    let e : q ≡ p = sym (same_equal a q k) ∙ same_equal a p h in
    let s : same_value q p ≡ true = subst (λ (z : Value). same_value q z ≡ true) e (same_itself q) in
    false≢true (sym (ap is_eq g) ∙ s)

apply_insert : (q : Value × Value) (ps : List (Value × Value)) (a : Value) →
    apply (insert_pair q ps) a ≡ (if same_value a q.0 then Some q.1 else apply ps a)
apply_insert q [] a = refl
apply_insert q (p ∷ ps) a = by (value_cmp q.0 p.0) refl (apply_insert q ps a)
  where
    two : (b c : Bool) → same_value a q.0 ≡ b → same_value a p.0 ≡ c → (b ≡ true → c ≡ true → ⊥) →
        (if c then Some p.1 else (if b then Some q.1 else apply ps a)) ≡ (if b then Some q.1 else (if c then Some p.1 else apply ps a))
    two true true e f no_both = absurd (no_both refl refl)
    two true false e f no_both = refl
    two false c e f no_both = refl

    equal : (b c : Bool) → same_value a q.0 ≡ b → same_value a p.0 ≡ c → q.0 ≡ p.0 →
        (if b then Some q.1 else apply ps a) ≡ (if b then Some q.1 else (if c then Some p.1 else apply ps a))
    equal true c e f s = refl
    equal false false e f s = refl
    equal false true e f s = absurd (false≢true (sym e ∙ subst (λ (z : Value). same_value a z ≡ true) (sym s) f))

    by : (o : Ordering) → value_cmp q.0 p.0 ≡ o → apply (insert_pair q ps) a ≡ (if same_value a q.0 then Some q.1 else apply ps a) →
        apply (by_order o (q ∷ p ∷ ps) (q ∷ ps) (p ∷ insert_pair q ps)) a ≡ (if same_value a q.0 then Some q.1 else apply (p ∷ ps) a)
    by Less e r = refl
    by Equal e r = equal (same_value a q.0) (same_value a p.0) refl refl (same_equal q.0 p.0 (ap is_eq e))
    by Greater e r =
        ap (λ (o : Option Value). if same_value a p.0 then Some p.1 else o) r
        ∙ two (same_value a q.0) (same_value a p.0) refl refl (λ f g. apart q.0 p.0 a e g f)

pub apply_function : (ps : List (Value × Value)) (a : Value) → apply (function_of ps) a ≡ apply ps a
apply_function [] a = refl
apply_function (p ∷ ps) a =
    apply_insert p (function_of ps) a ∙ ap (λ (o : Option Value). if same_value a p.0 then Some p.1 else o) (apply_function ps a)

-- ---- names and their texts

abbrev pub texts : List (List ℕ) → List Value
texts xs = map (λ n. value.Text n) xs

abbrev pub Field : Type 0
Field = List ℕ × Shape

abbrev names : List Field → List (List ℕ)
names ys = map (λ y. y.0) ys

abbrev field_shapes : List Field → List Shape
field_shapes ys = map (λ y. y.1) ys

pub same_texts : (x y : List ℕ) → same_value (value.Text x) (value.Text y) ≡ same_text x y
same_texts x y = ap is_eq (by_kinds (value.Text x) (value.Text y) (layer.Text x) (layer.Text y) (value.outs-Text x) (value.outs-Text y))

all_put : (P : Field → Type 0) (x : List ℕ) (a : Shape) (ys : List Field) → P (x, a) → AllByRecursion P ys → AllByRecursion P (put_field x a ys)
all_put P x a [] h k = (h, tt)
all_put P x a (y ∷ ys) h k = by (is_lt (text_cmp x y.0)) (all_put P x a ys h k.1)
  where
    by : (b : Bool) → AllByRecursion P (put_field x a ys) → AllByRecursion P (if b then (x, a) ∷ y ∷ ys else y ∷ put_field x a ys)
    by true r = (h, k)
    by false r = (k.0, r)

all_in_order : (P : Field → Type 0) (xs : List (List ℕ)) (as' : List Shape) → AllByRecursion P (zip xs as') → AllByRecursion P (in_order xs as')
all_in_order P [] as' h = tt
all_in_order P (x ∷ xs) [] h = tt
all_in_order P (x ∷ xs) (a ∷ as') h = all_put P x a (in_order xs as') h.0 (all_in_order P xs as' h.1)

put_size : (x : List ℕ) (a : Shape) (ys : List Field) → length (put_field x a ys) ≡ suc (length ys)
put_size x a [] = refl
put_size x a (y ∷ ys) = by (is_lt (text_cmp x y.0)) (put_size x a ys)
  where
    by : (b : Bool) → length (put_field x a ys) ≡ suc (length ys) → length (if b then (x, a) ∷ y ∷ ys else y ∷ put_field x a ys) ≡ suc (length (y ∷ ys))
    by true r = refl
    by false r = ap suc r

order_size : (xs : List (List ℕ)) (as' : List Shape) → length xs ≡ length as' → length (in_order xs as') ≡ length xs
order_size [] as' e = refl
order_size (x ∷ xs) [] e = absurd (none (length xs) e)
  where
    none : (n : ℕ) → suc n ≡ 0 → ⊥
    none n e = omega (arith, e)
order_size (x ∷ xs) (a ∷ as') e = put_size x a (in_order xs as') ∙ ap suc (order_size xs as' (less (length xs) (length as') e))
  where
    less : (m n : ℕ) → suc m ≡ suc n → m ≡ n
    less m n e = omega (arith, e)

or_left : (a b : Bool) → IsTrue a → IsTrue (a || b)
or_left true b h = refl
or_left false b h = absurd (false≢true h)

or_right : (a b : Bool) → IsTrue b → IsTrue (a || b)
or_right true b h = refl
or_right false b h = h

put_there : (x : List ℕ) (a : Shape) (ys : List Field) → IsTrue (member (value.Text x) (texts (names (put_field x a ys))))
put_there x a [] = or_left (same_value (value.Text x) (value.Text x)) false (same_itself (value.Text x))
put_there x a (y ∷ ys) = by (is_lt (text_cmp x y.0)) (put_there x a ys)
  where
    by : (b : Bool) → IsTrue (member (value.Text x) (texts (names (put_field x a ys)))) → IsTrue (member (value.Text x) (texts (names (if b then (x, a) ∷ y ∷ ys else y ∷ put_field x a ys))))
    by true r = or_left (same_value (value.Text x) (value.Text x)) _ (same_itself (value.Text x))
    by false r = or_right (same_value (value.Text x) (value.Text y.0)) _ r

put_keeps : (v : Value) (x : List ℕ) (a : Shape) (ys : List Field) → IsTrue (member v (texts (names ys))) → IsTrue (member v (texts (names (put_field x a ys))))
put_keeps v x a [] h = absurd (false≢true h)
put_keeps v x a (y ∷ ys) h = by (is_lt (text_cmp x y.0)) (λ k. put_keeps v x a ys k)
  where
    first : (IsTrue (member v (texts (names ys))) → IsTrue (member v (texts (names (put_field x a ys))))) → (b : Bool) → same_value v (value.Text y.0) ≡ b → IsTrue (b || member v (texts (names ys))) →
        IsTrue (same_value v (value.Text y.0) || member v (texts (names (put_field x a ys))))
    first r true e k = or_left (same_value v (value.Text y.0)) _ e
    first r false e k = or_right (same_value v (value.Text y.0)) _ (r k)

    by : (b : Bool) → (IsTrue (member v (texts (names ys))) → IsTrue (member v (texts (names (put_field x a ys))))) → IsTrue (member v (texts (names (if b then (x, a) ∷ y ∷ ys else y ∷ put_field x a ys))))
    by true r = or_right (same_value v (value.Text x)) _ h
    by false r = first r (same_value v (value.Text y.0)) refl h

-- each name is one of those in order
each_there : (xs : List (List ℕ)) (as' : List Shape) → length xs ≡ length as' →
    AllByRecursion (λ x. IsTrue (member (value.Text x) (texts (names (in_order xs as'))))) xs
each_there [] as' e = tt
each_there (x ∷ xs) [] e = absurd (none (length xs) e)
  where
    none : (n : ℕ) → suc n ≡ 0 → ⊥
    none n e = omega (arith, e)
each_there (x ∷ xs) (a ∷ as') e = (
  put_there x a (in_order xs as'),
  all_to _ _ (λ y. put_keeps (value.Text y) x a (in_order xs as')) xs (each_there xs as' (less (length xs) (length as') e)),
)
  where
    less : (m n : ℕ) → suc m ≡ suc n → m ≡ n
    less m n e = omega (arith, e)

-- ---- the value of a record

-- the function has a value of the field's shape at the field's name
abbrev Held : List (Value × Value) → Field → Type 0
Held ps y = OfSome (λ v. FitsLayer y.1 (out-Value v)) (apply ps (value.Text y.0))

-- with one more pair in front, whose name is another
held_behind : (x : List ℕ) (v : Value) (ps : List (Value × Value)) (xs : List (List ℕ)) (as' : List Shape) → IsTrue (not (list_any (λ y. same_text y x) xs)) →
    AllByRecursion (Held ps) (zip xs as') → AllByRecursion (Held ((value.Text x, v) ∷ ps)) (zip xs as')
held_behind x v ps [] as' e h = tt
held_behind x v ps (y ∷ ys) [] e h = tt
held_behind x v ps (y ∷ ys) (a ∷ as') e h = (by (same_text y x) refl e, held_behind x v ps ys as' (rest (same_text y x) e) h.1)
  where
    rest : (b : Bool) → IsTrue (not (b || list_any (λ z. same_text z x) ys)) → IsTrue (not (list_any (λ z. same_text z x) ys))
    rest true f = absurd (false≢true f)
    rest false f = f

    by : (b : Bool) → same_text y x ≡ b → IsTrue (not (b || list_any (λ z. same_text z x) ys)) → Held ((value.Text x, v) ∷ ps) (y, a)
    by true s f = absurd (false≢true f)
    by false s f =
        subst (λ (c : Bool). OfSome (λ u. FitsLayer a (out-Value u)) (if c then Some v else apply ps (value.Text y))) (sym (same_texts y x ∙ s)) h.0

held_all : (xs : List (List ℕ)) (as' : List Shape) (vs : List Value) → IsTrue (names_differ xs) → FitAll as' vs → AllByRecursion (Held (zip (texts xs) vs)) (zip xs as')
held_all [] as' vs e h = tt
held_all (x ∷ xs) [] vs e h = tt
held_all (x ∷ xs) (a ∷ as') [] e h = absurd h
held_all (x ∷ xs) (a ∷ as') (v ∷ vs) e h =
    let fresh : Bool = not (list_any (λ y. same_text y x) xs) in (
      subst (λ (c : Bool). OfSome (λ u. FitsLayer a (out-Value u)) (if c then Some v else apply (zip (texts xs) vs) (value.Text x))) (sym (same_itself (value.Text x))) h.0,
      held_behind x v (zip (texts xs) vs) xs as' (and_left fresh (names_differ xs) e) (held_all xs as' vs (and_right fresh (names_differ xs) e) h.1),
    )

fields_from : (ps : List (Value × Value)) (ys : List Field) → AllByRecursion (Held ps) ys → FieldsFit (names ys) (shapes (field_shapes ys)) ps
fields_from ps [] h = tt
fields_from ps (y ∷ ys) h = (h.0, fields_from ps ys h.1)

names_held : (ps : List (Value × Value)) (ys : List Field) → AllByRecursion (Held ps) ys → IsTrue (list_all (λ v. member v (arguments ps)) (texts (names ys)))
names_held ps [] h = refl
names_held ps (y ∷ ys) h =
    and_both (member (value.Text y.0) (arguments ps)) _ (by (apply ps (value.Text y.0)) refl h.0) (names_held ps ys h.1)
  where
    by : (o : Option Value) → apply ps (value.Text y.0) ≡ o → OfSome (λ v. FitsLayer y.1 (out-Value v)) o → IsTrue (member (value.Text y.0) (arguments ps))
    by (Some v) e k = sym (apply_domain (value.Text y.0) ps) ∙ ap is_some e
    by None e k = absurd k

abbrev IsNamed : List (List ℕ) → Value × Value → Type 0
IsNamed ns q = IsTrue (member q.0 (texts ns))

zip_named : (ns xs : List (List ℕ)) (vs : List Value) → AllByRecursion (λ x. IsTrue (member (value.Text x) (texts ns))) xs → AllByRecursion (IsNamed ns) (zip (texts xs) vs)
zip_named ns [] vs h = tt
zip_named ns (x ∷ xs) [] h = tt
zip_named ns (x ∷ xs) (v ∷ vs) h = (h.0, zip_named ns xs vs h.1)

all_named : (ns : List (List ℕ)) (ps : List (Value × Value)) → AllByRecursion (IsNamed ns) ps → IsTrue (list_all (λ v. member v (texts ns)) (arguments ps))
all_named ns [] h = refl
all_named ns (p ∷ ps) h = and_both (member p.0 (texts ns)) _ h.0 (all_named ns ps h.1)

pub record_fits : (xs : List (List ℕ)) (as' : List Shape) (vs : List Value) → IsTrue (is_record_of xs as') → FitAll as' vs → Fits (record_shape xs as') (record_of xs vs)
record_fits xs as' vs e h =
    let ps0 : List (Value × Value) = zip (texts xs) vs in
    let ps : List (Value × Value) = function_of ps0 in
    let ys : List Field = in_order xs as' in
    let many : length xs ≡ length as' = as_many (length xs) (length as') (and_right (names_differ xs) (nat_eq (length xs) (length as')) e) in
    let held : AllByRecursion (Held ps) ys =
    all_in_order (Held ps) xs as' (all_to (Held ps0) (Held ps) (λ y k. subst (OfSome (λ v. FitsLayer y.1 (out-Value v))) (sym (apply_function ps0 (value.Text y.0))) k)
    (zip xs as') (held_all xs as' vs (and_left (names_differ xs) (nat_eq (length xs) (length as')) e) h)) in
    let q0 = function_size ps0 in
    let q1 = zip_size (texts xs) vs in
    let q2 = same_length as' vs h in
    let q3 = order_size xs as' many in
    let q4 = length-map ys (λ (y : Field). y.0) in
    subst (FitsLayer (record_shape xs as')) (sym (value.outs-Fun ps)) (
      omega (arith, q0, q1, q2, q3, q4, many),
      and_both (list_all (λ v. member v (arguments ps)) (texts (names ys))) _ (names_held ps ys held)
          (all_named (names ys) ps (all_function _ ps0 (zip_named (names ys) xs vs (each_there xs as' many)))),
      fields_from ps ys held,
    )
  where
    as_many : (m n : ℕ) → IsTrue (nat_eq m n) → m ≡ n
    as_many m n e = grind arith

pub record_gives : (w : ℕ) (p : Place) (xs : List (List ℕ)) (as' : List Sized) (vs : List Value) → MeetAll as' vs →
    IsTrue (row_joins (a_record xs) (index_of as') (shapes_of as')) → Gives w p (op.Record xs) (a_record xs) as' vs
record_gives w p xs as' vs h e = record_fits xs (shapes_of as') vs e (all_fit as' vs h)

-- ---- sets of tuples and of records

set_made : (as' : List Shape) (b : Shape) (make : List Value → Value) (xss : List (List Value)) → SetsFit as' xss → ((c : List Value) → FitAll (insides as') c → Fits b (make c)) →
    Fits (Set (product_of as') b) (value.Set (set_of (map make (choices xss))))
set_made as' b make xss h k =
    let vs : List Value = map make (choices xss) in
    let m = set_size vs in
    let l = choices_below as' xss h in
    let n = length-map (choices xss) make in
    fits_set (product_of as') b (set_of vs) (omega (arith, m, l, n))
    (all_set_of _ vs (all_mapped (FitAll (insides as')) (λ v. FitsLayer b (out-Value v)) make k (choices xss) (choices_fit as' xss h)))

pub tuples_give : (w : ℕ) (p : Place) (as' : List Sized) (vs : List Value) → MeetAll as' vs →
    IfVal (Fits (row_shape w the_tuples no_literal (shapes_of as'))) (table (Some w) p op.Product vs)
tuples_give w p as' vs h =
    on_sets_fit _ p (shapes_of as') vs _ (all_fit as' vs h) (λ xss k.
    set_made (shapes_of as') (Tup (shapes (insides (shapes_of as')))) sequence xss k (λ c l. fits_tuple (insides (shapes_of as')) c l))

as_many_insides : (xs : List (List ℕ)) (as' : List Shape) → IsTrue (is_record_of xs as') → IsTrue (is_record_of xs (insides as'))
as_many_insides xs as' e = subst (λ (n : ℕ). IsTrue (names_differ xs && nat_eq (length xs) n)) (sym (same as')) e
  where
    same : (bs : List Shape) → length (insides bs) ≡ length bs
    same [] = refl
    same (b ∷ bs) = ap suc (same bs)

pub records_give : (w : ℕ) (p : Place) (xs : List (List ℕ)) (as' : List Sized) (vs : List Value) → MeetAll as' vs → IsTrue (row_joins (the_records xs) no_literal (shapes_of as')) →
    IfVal (Fits (row_shape w (the_records xs) no_literal (shapes_of as'))) (table (Some w) p (op.RecSet xs) vs)
records_give w p xs as' vs h e =
    on_sets_fit _ p (shapes_of as') vs _ (all_fit as' vs h) (λ xss k.
    set_made (shapes_of as') (record_shape xs (insides (shapes_of as'))) (record_of xs) xss k (λ c l. record_fits xs (insides (shapes_of as')) c (as_many_insides xs (shapes_of as') e) l))
