-- The operators on sequences: what they give fits their rows.
use Rattle.std.proofs.Common.{◌≡◌, ℕ, zero, suc, ◌+◌, ◌-◌, ◌≤◌, Bool, true, false, ◌&&◌, take, drop, nat_le, int_le, ℤ, IsTrue, List, [], ◌∷◌, ◌++◌, map, length, Option, Some, None, option_map, pos, refl, sym, ◌∙◌, ap, subst, arith, if◌then◌else◌}
use Rattle.std.proofs.lemmas.Int.{ints}
use Rattle.std.proofs.lemmas.List.{length-append}
use Rattle.std.specs.Ordering.{int_eq}
use Rattle.std.specs.List.{AllByRecursion}
use Rattle.tla_values.specs.Order.{Layer}
use Rattle.tla_values.specs.declared.value.Value.{Value, out-Value}
use Rattle.tla_values.specs.declared.value.Value.TheVariants as value
use Rattle.tla_values.specs.declared.value.Value.TheOpen as layer
use Rattle.tla_meaning.specs.declared.op.Op.TheVariants as op
use Rattle.tla_meaning.specs.declared.place.Place.{Place}
use Rattle.tla_meaning.specs.declared.outcome.Outcome.{Outcome}
use Rattle.tla_meaning.specs.declared.outcome.Outcome.TheVariants.{Val, Wrong}
use Rattle.tla_meaning.specs.Numbers.{number}
use Rattle.tla_meaning.specs.Shapes.{numbered, sequence, items_of, items_from, is_int}
use Rattle.tla_meaning.specs.Operators.{on_items, on_sequence, on_sequences, head_of, tail_of, appended, part_of, part_from_to}
use Rattle.tla_meaning.proofs.NormalShapes.{all_plus}
use Rattle.tla_meaning.proofs.Views.{and_left, and_right, false≢true}
use Rattle.kernel_shapes.specs.Shape.{Shape, Atom, Num, Set, Fun, Rec, Tup, Seq, Empty, shapes, count, inside, result, join, join_all, alike, interval}
use Rattle.kernel_shapes.specs.Rows.{a_length, a_head, a_shorter, an_append, a_concatenation, a_sequence, a_tuple, row_shape}
use Rattle.kernel_shapes.specs.Sized.{Sized, shapes_of, index_of, row_joins, is_sequence}
use Rattle.kernel_shapes.specs.Fits.{OfSome, FitsLayer, Fits, FitAll, ItemsFit}
use Rattle.kernel_shapes.proofs.FitLemmas.{IfVal, AllFit, all_to, join_left}
use Rattle.kernel_shapes.proofs.JoinRight.{join_right, all_joined}
use Rattle.kernel_shapes.proofs.Operators.{same_length, number_fits}
use Rattle.kernel_shapes.proofs.Combine.{MeetAll, all_fit}
use Rattle.kernel_shapes.proofs.Tables.{Gives}

number_itself : (n : ℕ) → is_int n (out-Value (value.Int (pos n))) ≡ true
number_itself n = ap (is_int n) (value.outs-Int (pos n)) ∙ same
  where
    same : int_eq (pos n) (pos n) ≡ true
    same = grind (arith, ints)

-- the items of a sequence are those that it was made of
pub items_numbered : (n : ℕ) (xs : List Value) → items_from n (numbered n xs) ≡ Some xs
items_numbered n [] = refl
items_numbered n (x ∷ xs) =
    ap (λ (b : Bool). if b then option_map (λ ys. x ∷ ys) (items_from (n + 1) (numbered (n + 1) xs)) else None) (number_itself n)
    ∙ ap (option_map (λ ys. x ∷ ys)) (items_numbered (n + 1) xs)

pub fits_sequence : (n : ℕ) (a : Shape) (xs : List Value) → length xs ≤ n → AllFit a xs → Fits (Seq n a) (sequence xs)
fits_sequence n a xs h k =
    subst (FitsLayer (Seq n a)) (sym (value.outs-Fun (numbered 1 xs)))
    (subst (OfSome (λ vs. (length vs ≤ n) × AllFit a vs)) (sym (items_numbered 1 xs)) (h, k))

items_fit : (as' : List Shape) (vs : List Value) → FitAll as' vs → ItemsFit (shapes as') vs
items_fit [] [] h = tt
items_fit (a ∷ as') (v ∷ vs) h = (h.0, items_fit as' vs h.1)
items_fit [] (v ∷ vs) h = absurd h
items_fit (a ∷ as') [] h = absurd h

pub fits_tuple : (as' : List Shape) (vs : List Value) → FitAll as' vs → Fits (Tup (shapes as')) (sequence vs)
fits_tuple as' vs h =
    subst (FitsLayer (Tup (shapes as'))) (sym (value.outs-Fun (numbered 1 vs)))
    (subst (OfSome (ItemsFit (shapes as'))) (sym (items_numbered 1 vs)) (items_fit as' vs h))

pub data IsSeq : Shape → List Value → Type 0 where
  is_seq : {n : ℕ} {a : Shape} {vs : List Value} → length vs ≤ n → AllFit a vs → IsSeq (Seq n a) vs

places_of : (a : Shape) (ps : List (Value × Value)) (xs : List Value) → IsTrue (is_sequence a) → FitsLayer a (layer.Fun ps) → items_of ps ≡ Some xs → IsSeq a xs
places_of (Seq n a) ps xs e h s = let g = subst (OfSome (λ vs. (length vs ≤ n) × AllFit a vs)) s h in is_seq g.0 g.1
places_of Empty ps xs e h s = absurd h
places_of Atom ps xs e h s = absurd h
places_of (Num a b) ps xs e h s = absurd h
places_of (Set n a) ps xs e h s = absurd h
places_of (Fun n a r) ps xs e h s = absurd (false≢true e)
places_of (Rec ys as') ps xs e h s = absurd (false≢true e)
places_of (Tup as') ps xs e h s = absurd (false≢true e)

-- a value whose shape is a sequence's
on_layer : (P : Value → Type 0) (p : Place) (a : Shape) (x : Layer Value) (f : List Value → Outcome) → IsTrue (is_sequence a) → FitsLayer a x →
    ((xs : List Value) → IsSeq a xs → IfVal P (f xs)) → IfVal P (on_sequence p f (x ∷ []))
on_layer P p a (layer.Fun ps) f e h k = by (items_of ps) refl
  where
    by : (o : Option (List Value)) → items_of ps ≡ o → IfVal P (on_items p f o)
    by None s = tt
    by (Some xs) s = k xs (places_of a ps xs e h s)
on_layer P p a x f e h k = tt

wrong_many : (P : Value → Type 0) (p : Place) (x y : Layer Value) (ls : List (Layer Value)) (f : List Value → Outcome) → IfVal P (on_sequence p f (x ∷ y ∷ ls))
wrong_many P p (layer.Bool b) y ls f = tt
wrong_many P p (layer.Int b) y ls f = tt
wrong_many P p (layer.Text b) y ls f = tt
wrong_many P p (layer.Set b) y ls f = tt
wrong_many P p (layer.Fun b) y ls f = tt

abbrev first_is_sequence : List Shape → Bool
first_is_sequence [] = true
first_is_sequence (a ∷ as') = is_sequence a

first_a_length : (as' : List Sized) → IsTrue (row_joins a_length (index_of as') (shapes_of as')) → IsTrue (first_is_sequence (shapes_of as'))
first_a_length [] e = refl
first_a_length (a ∷ as') e = e

first_a_head : (as' : List Sized) → IsTrue (row_joins a_head (index_of as') (shapes_of as')) → IsTrue (first_is_sequence (shapes_of as'))
first_a_head [] e = refl
first_a_head (a ∷ as') e = e

first_a_shorter : (as' : List Sized) → IsTrue (row_joins a_shorter (index_of as') (shapes_of as')) → IsTrue (first_is_sequence (shapes_of as'))
first_a_shorter [] e = refl
first_a_shorter (a ∷ as') e = e

-- one operand, a sequence
one_sequence : (Q : Value → Type 0) (p : Place) (f : List Value → Outcome) (as' : List Shape) (vs : List Value) → FitAll as' vs → IsTrue (first_is_sequence as') →
    ((a : Shape) (xs : List Value) → as' ≡ a ∷ [] → IsSeq a xs → IfVal Q (f xs)) → IfVal Q (on_sequence p f (map out-Value vs))
one_sequence Q p f [] [] h e k = tt
one_sequence Q p f (a ∷ []) (v ∷ []) h e k = on_layer Q p a (out-Value v) f e h.0 (λ xs l. k a xs refl l)
one_sequence Q p f as' (v ∷ u ∷ vs) h e k = wrong_many Q p (out-Value v) (out-Value u) (map out-Value vs) f
one_sequence Q p f [] (v ∷ []) h e k = absurd h
one_sequence Q p f (a ∷ as') [] h e k = absurd h
one_sequence Q p f (a ∷ b ∷ as') (v ∷ []) h e k = absurd h.1

head_fits : (p : Place) (a : Shape) (xs : List Value) → IsSeq a xs → IfVal (Fits (result a)) (head_of p xs)
head_fits p _ [] (is_seq h k) = tt
head_fits p _ (x ∷ xs) (is_seq h k) = k.0

tail_fits : (p : Place) (a : Shape) (xs : List Value) → IsSeq a xs → IfVal (Fits (Seq (count a) (inside a))) (tail_of p xs)
tail_fits p _ [] (is_seq h k) = tt
tail_fits p _ (x ∷ xs) (is_seq {n = n} {a = a} h k) = fits_sequence n a xs (omega (arith, h)) k.1

length_fits : (w : ℕ) (p : Place) (a : Shape) (xs : List Value) → IsSeq a xs → IfVal (Fits (interval w (pos 0) (pos (count a)))) (number (Some w) p (pos (length xs)))
length_fits w p _ xs (is_seq {n = n} h k) = number_fits w p (pos 0) (pos n) (pos (length xs)) (record { low = omega (arith, ints); high = omega (arith, ints, h) })

pub length_gives : (w : ℕ) (p : Place) (as' : List Sized) (vs : List Value) → MeetAll as' vs → IsTrue (row_joins a_length (index_of as') (shapes_of as')) → Gives w p op.Len a_length as' vs
length_gives w p as' vs h e =
    one_sequence _ p _ (shapes_of as') vs (all_fit as' vs h) (first_a_length as' e) (λ a xs s l.
    subst (λ (bs : List Shape). IfVal (Fits (row_shape w a_length (index_of as') bs)) (number (Some w) p (pos (length xs)))) (sym s) (length_fits w p a xs l))

pub head_gives : (w : ℕ) (p : Place) (as' : List Sized) (vs : List Value) → MeetAll as' vs → IsTrue (row_joins a_head (index_of as') (shapes_of as')) → Gives w p op.Head a_head as' vs
head_gives w p as' vs h e =
    one_sequence _ p _ (shapes_of as') vs (all_fit as' vs h) (first_a_head as' e) (λ a xs s l.
    subst (λ (bs : List Shape). IfVal (Fits (row_shape w a_head (index_of as') bs)) (head_of p xs)) (sym s) (head_fits p a xs l))

pub tail_gives : (w : ℕ) (p : Place) (as' : List Sized) (vs : List Value) → MeetAll as' vs → IsTrue (row_joins a_shorter (index_of as') (shapes_of as')) → Gives w p op.Tail a_shorter as' vs
tail_gives w p as' vs h e =
    one_sequence _ p _ (shapes_of as') vs (all_fit as' vs h) (first_a_shorter as' e) (λ a xs s l.
    subst (λ (bs : List Shape). IfVal (Fits (row_shape w a_shorter (index_of as') bs)) (tail_of p xs)) (sym s) (tail_fits p a xs l))

pub sequence_gives : (w : ℕ) (p : Place) (as' : List Sized) (vs : List Value) → MeetAll as' vs → IsTrue (row_joins a_sequence (index_of as') (shapes_of as')) → Gives w p op.Tuple a_sequence as' vs
sequence_gives w p as' vs h e =
    let s = same_length (shapes_of as') vs (all_fit as' vs h) in
    fits_sequence (length (shapes_of as')) (join_all (shapes_of as')) vs (omega (arith, s)) (all_joined (shapes_of as') vs e (all_fit as' vs h))

pub tuple_gives : (w : ℕ) (p : Place) (as' : List Sized) (vs : List Value) → MeetAll as' vs → Gives w p op.Tuple a_tuple as' vs
tuple_gives w p as' vs h = fits_tuple (shapes_of as') vs (all_fit as' vs h)

append_fits : (a b : Shape) (xs : List Value) (y : Value) → IsSeq a xs → IsTrue (alike (inside a) b) → Fits b y → Fits (Seq (count a + 1) (join (inside a) b)) (sequence (xs ++ y ∷ []))
append_fits _ b xs y (is_seq {n = n} {a = a} h k) e l =
    let s = length-append xs (y ∷ []) in
    fits_sequence (n + 1) (join a b) (xs ++ y ∷ []) (omega (arith, h, s))
    (all_plus _ xs (y ∷ []) (all_to _ _ (λ v. join_left a b (out-Value v)) xs k) (join_right a b (out-Value y) e l, tt))

append_at : (p : Place) (a b : Shape) (x : Layer Value) (v y : Value) → IsTrue (is_sequence a) → IsTrue (alike (inside a) b) → FitsLayer a x → Fits b y →
    IfVal (Fits (Seq (count a + 1) (join (inside a) b))) (appended p (x ∷ out-Value y ∷ []) (v ∷ y ∷ []))
append_at p a b (layer.Fun ps) v y e g h k = by (items_of ps) refl
  where
    by : (o : Option (List Value)) → items_of ps ≡ o → IfVal (Fits (Seq (count a + 1) (join (inside a) b))) (on_items p (λ xs. Val (sequence (xs ++ y ∷ []))) o)
    by None s = tt
    by (Some xs) s = append_fits a b xs y (places_of a ps xs e h s) g k
append_at p a b (layer.Bool c) v y e g h k = tt
append_at p a b (layer.Int c) v y e g h k = tt
append_at p a b (layer.Text c) v y e g h k = tt
append_at p a b (layer.Set c) v y e g h k = tt

append_wrong : (P : Value → Type 0) (p : Place) (x y z : Layer Value) (ls : List (Layer Value)) (vs : List Value) → IfVal P (appended p (x ∷ y ∷ z ∷ ls) vs)
append_wrong P p (layer.Fun ps) y z ls vs = tt
append_wrong P p (layer.Bool c) y z ls vs = tt
append_wrong P p (layer.Int c) y z ls vs = tt
append_wrong P p (layer.Text c) y z ls vs = tt
append_wrong P p (layer.Set c) y z ls vs = tt

append_one : (P : Value → Type 0) (p : Place) (x : Layer Value) (vs : List Value) → IfVal P (appended p (x ∷ []) vs)
append_one P p (layer.Fun ps) vs = tt
append_one P p (layer.Bool c) vs = tt
append_one P p (layer.Int c) vs = tt
append_one P p (layer.Text c) vs = tt
append_one P p (layer.Set c) vs = tt

pub append_gives : (w : ℕ) (p : Place) (as' : List Sized) (vs : List Value) → MeetAll as' vs → IsTrue (row_joins an_append (index_of as') (shapes_of as')) → Gives w p op.Append an_append as' vs
append_gives w p (a ∷ b ∷ []) (v ∷ y ∷ []) h e =
    append_at p a.shape b.shape (out-Value v) v y (and_left (is_sequence a.shape) (alike (inside a.shape) b.shape) e) (and_right (is_sequence a.shape) (alike (inside a.shape) b.shape) e) h.0.0 h.1.0.0
append_gives w p as' [] h e = tt
append_gives w p as' (v ∷ []) h e = append_one _ p (out-Value v) (v ∷ [])
append_gives w p as' (v ∷ y ∷ z ∷ vs) h e = append_wrong _ p (out-Value v) (out-Value y) (out-Value z) (map out-Value vs) (v ∷ y ∷ z ∷ vs)
append_gives w p [] (v ∷ y ∷ []) h e = absurd h
append_gives w p (a ∷ []) (v ∷ y ∷ []) h e = absurd h.1
append_gives w p (a ∷ b ∷ c ∷ as') (v ∷ y ∷ []) h e = absurd h.1.1

joined_sequences : (a b : Shape) (xs ys : List Value) → IsSeq a xs → IsSeq b ys → IsTrue (alike (inside a) (inside b)) → Fits (Seq (count a + count b) (join (inside a) (inside b))) (sequence (xs ++ ys))
joined_sequences _ _ xs ys (is_seq {n = n} {a = a} h k) (is_seq {n = m} {a = b} i l) e =
    let s = length-append xs ys in
    fits_sequence (n + m) (join a b) (xs ++ ys) (omega (arith, h, i, s))
    (all_plus _ xs ys (all_to _ _ (λ v. join_left a b (out-Value v)) xs k) (all_to _ _ (λ v. join_right a b (out-Value v) e) ys l))

concat_at : (p : Place) (a b : Shape) (x y : Layer Value) → IsTrue (is_sequence a) → IsTrue (is_sequence b) → IsTrue (alike (inside a) (inside b)) → FitsLayer a x → FitsLayer b y →
    IfVal (Fits (Seq (count a + count b) (join (inside a) (inside b)))) (on_sequences p (λ xs ys. Val (sequence (xs ++ ys))) (x ∷ y ∷ []))
concat_at p a b (layer.Fun ps) (layer.Fun qs) e f g h k = by (items_of ps) refl
  where
    second : (xs : List Value) → IsSeq a xs → (o : Option (List Value)) → items_of qs ≡ o →
        IfVal (Fits (Seq (count a + count b) (join (inside a) (inside b)))) (on_items p (λ ys. Val (sequence (xs ++ ys))) o)
    second xs l None s = tt
    second xs l (Some ys) s = joined_sequences a b xs ys l (places_of b qs ys f k s) g

    by : (o : Option (List Value)) → items_of ps ≡ o →
        IfVal (Fits (Seq (count a + count b) (join (inside a) (inside b)))) (on_items p (λ xs. on_items p (λ ys. Val (sequence (xs ++ ys))) (items_of qs)) o)
    by None s = tt
    by (Some xs) s = second xs (places_of a ps xs e h s) (items_of qs) refl
concat_at p a b x y e f g h k = tt

concat_wrong : (P : Value → Type 0) (p : Place) (f : List Value → List Value → Outcome) (x y z : Layer Value) (ls : List (Layer Value)) → IfVal P (on_sequences p f (x ∷ y ∷ z ∷ ls))
concat_wrong P p f (layer.Fun ps) (layer.Fun qs) z ls = tt
concat_wrong P p f x y z ls = tt

concat_one : (P : Value → Type 0) (p : Place) (f : List Value → List Value → Outcome) (x : Layer Value) → IfVal P (on_sequences p f (x ∷ []))
concat_one P p f (layer.Fun ps) = tt
concat_one P p f x = tt

pub concat_gives : (w : ℕ) (p : Place) (as' : List Sized) (vs : List Value) → MeetAll as' vs → IsTrue (row_joins a_concatenation (index_of as') (shapes_of as')) → Gives w p op.Concat a_concatenation as' vs
concat_gives w p (a ∷ b ∷ []) (v ∷ y ∷ []) h e =
    let rest : Bool = is_sequence b.shape && alike (inside a.shape) (inside b.shape) in
    let e1 = and_right (is_sequence a.shape) rest e in
    concat_at p a.shape b.shape (out-Value v) (out-Value y) (and_left (is_sequence a.shape) rest e) (and_left (is_sequence b.shape) (alike (inside a.shape) (inside b.shape)) e1)
    (and_right (is_sequence b.shape) (alike (inside a.shape) (inside b.shape)) e1) h.0.0 h.1.0.0
concat_gives w p as' [] h e = tt
concat_gives w p as' (v ∷ []) h e = concat_one _ p _ (out-Value v)
concat_gives w p as' (v ∷ y ∷ z ∷ vs) h e = concat_wrong _ p _ (out-Value v) (out-Value y) (out-Value z) (map out-Value vs)
concat_gives w p [] (v ∷ y ∷ []) h e = absurd h
concat_gives w p (a ∷ []) (v ∷ y ∷ []) h e = absurd h.1
concat_gives w p (a ∷ b ∷ c ∷ as') (v ∷ y ∷ []) h e = absurd h.1.1

-- ---- SubSeq

all_taken : (P : Value → Type 0) (n : ℕ) (xs : List Value) → AllByRecursion P xs → AllByRecursion P (take n xs)
all_taken P zero xs h = tt
all_taken P (suc n) [] h = tt
all_taken P (suc n) (x ∷ xs) h = (h.0, all_taken P n xs h.1)

all_dropped : (P : Value → Type 0) (n : ℕ) (xs : List Value) → AllByRecursion P xs → AllByRecursion P (drop n xs)
all_dropped P zero xs h = h
all_dropped P (suc n) [] h = tt
all_dropped P (suc n) (x ∷ xs) h = all_dropped P n xs h.1

part_size : (m n : ℕ) (xs : List Value) → length (take m (drop n xs)) ≤ length xs
part_size zero n xs = omega arith
part_size (suc m) zero [] = omega arith
part_size (suc m) (suc n) [] = omega arith
part_size (suc m) zero (x ∷ xs) = let r = part_size m zero xs in omega (arith, r)
part_size (suc m) (suc n) (x ∷ xs) = let r = part_size (suc m) n xs in omega (arith, r)

no_items : (n : ℕ) (a : Shape) → Fits (Seq n a) (sequence [])
no_items n a = fits_sequence n a [] (omega arith) tt

part_fits : (p : Place) (a : Shape) (xs : List Value) (m n : ℤ) → IsSeq a xs → IfVal (Fits (Seq (count a) (inside a))) (part_of p xs m n)
part_fits p _ xs (pos (suc m)) (pos n) (is_seq {n = k} {a = a} h l) = by (nat_le (suc m) n) (nat_le n (length xs))
  where
    by : (b c : Bool) → IfVal (Fits (Seq k a)) (if b then (if c then Val (sequence (take (n - m) (drop m xs))) else Wrong p) else Val (sequence []))
    by true true =
        let s = part_size (n - m) m xs in
        fits_sequence k a (take (n - m) (drop m xs)) (omega (arith, h, s)) (all_taken _ (n - m) (drop m xs) (all_dropped _ m xs l))
    by true false = tt
    by false c = no_items k a
part_fits p _ xs m n (is_seq {n = k} {a = a} h l) = by (int_le m n)
  where
    by : (b : Bool) → IfVal (Fits (Seq k a)) (if b then Wrong p else Val (sequence []))
    by true = tt
    by false = no_items k a

part_at : (p : Place) (a : Shape) (x y z : Layer Value) → IsTrue (is_sequence a) → FitsLayer a x → IfVal (Fits (Seq (count a) (inside a))) (part_from_to p (x ∷ y ∷ z ∷ []))
part_at p a (layer.Fun ps) (layer.Int m) (layer.Int n) e h = by (items_of ps) refl
  where
    by : (o : Option (List Value)) → items_of ps ≡ o → IfVal (Fits (Seq (count a) (inside a))) (on_items p (λ xs. part_of p xs m n) o)
    by None s = tt
    by (Some xs) s = part_fits p a xs m n (places_of a ps xs e h s)
part_at p a x y z e h = tt

part_few : (P : Value → Type 0) (p : Place) (x : Layer Value) → IfVal P (part_from_to p (x ∷ []))
part_few P p (layer.Fun ps) = tt
part_few P p x = tt

part_two : (P : Value → Type 0) (p : Place) (x y : Layer Value) → IfVal P (part_from_to p (x ∷ y ∷ []))
part_two P p (layer.Fun ps) (layer.Int m) = tt
part_two P p x y = tt

part_many : (P : Value → Type 0) (p : Place) (x y z q : Layer Value) (ls : List (Layer Value)) → IfVal P (part_from_to p (x ∷ y ∷ z ∷ q ∷ ls))
part_many P p (layer.Fun ps) (layer.Int m) (layer.Int n) q ls = tt
part_many P p x y z q ls = tt

pub part_gives : (w : ℕ) (p : Place) (as' : List Sized) (vs : List Value) → MeetAll as' vs → IsTrue (row_joins a_shorter (index_of as') (shapes_of as')) → Gives w p op.SubSeq a_shorter as' vs
part_gives w p (a ∷ b ∷ c ∷ []) (v ∷ x ∷ y ∷ []) h e = part_at p a.shape (out-Value v) (out-Value x) (out-Value y) e h.0.0
part_gives w p as' [] h e = tt
part_gives w p as' (v ∷ []) h e = part_few _ p (out-Value v)
part_gives w p as' (v ∷ x ∷ []) h e = part_two _ p (out-Value v) (out-Value x)
part_gives w p as' (v ∷ x ∷ y ∷ z ∷ vs) h e = part_many _ p (out-Value v) (out-Value x) (out-Value y) (out-Value z) (map out-Value vs)
part_gives w p [] (v ∷ x ∷ y ∷ []) h e = absurd h
part_gives w p (a ∷ []) (v ∷ x ∷ y ∷ []) h e = absurd h.1
part_gives w p (a ∷ b ∷ []) (v ∷ x ∷ y ∷ []) h e = absurd h.1.1
part_gives w p (a ∷ b ∷ c ∷ d ∷ as') (v ∷ x ∷ y ∷ []) h e = absurd h.1.1.1
