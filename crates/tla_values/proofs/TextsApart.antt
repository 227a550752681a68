-- The text of a value can be read back in one way only: for every kind of value.
use Rattle.std.proofs.Common.{◌≡◌, ℕ, ◌+◌, ◌<◌, Bool, true, false, not, ◌&&◌, List, [], ◌∷◌, ◌++◌, map, flat_map, Option, Some, None, unwrap_or, refl, ap, ap₂, ◌∙◌, sym, ℤ, pos, subst, arith, append_assoc, IsTrue, codes}
use Rattle.std.proofs.lemmas.Bool.Decides.{Decides-int_eq}
use Rattle.std.specs.Ordering.{int_eq}
use Rattle.std.proofs.lemmas.Bool.{false≢true}
use Rattle.std.specs.Prelude.{if◌then◌else◌, is_some}
use Rattle.std.specs.List.{AllByRecursion, join_by, list_all}
use Rattle.tla_values.specs.Names.{is_name, begins_fairness, is_name_byte, is_word}
use Rattle.tla_values.specs.Order.{Layer, kind_of}
use Rattle.tla_values.specs.Show.{Ends, Shown, are_named, counts_from, escaped, field_text, function_text, integers_fit, is_at, is_digit, layer_fits, layer_text, name_of, number_of, pair_text, pairs_text, quoted, record_text, set_text, shown, text_of, tuple_text}
use Rattle.tla_values.specs.declared.value.Value.{Value, out-Value, roll-Value, out-roll-Value, roll-out-Value, Int, Text}
use Rattle.tla_values.specs.declared.value.Value.TheVariants.{rolls-Int, rolls-Text}
use Rattle.tla_values.specs.declared.value.Value.TheOpen as layer
use Rattle.tla_values.specs.declared.value.Value.TheFolds.{fold_out-Value, ind-Value, map-Value}
use Rattle.tla_values.proofs.ShowLemmas.{shown_out}
use Rattle.tla_values.proofs.TextLaw.{Only, NoClosing, cancel, head_is, int_fits, kind_at, kind_is, lists_apart, quoted_apart, runs_apart, signed_apart, tail_is}

-- ---- a value by its layer

abbrev fit : Value → Bool
fit v = integers_fit 128 v

abbrev Fits : Value → Type 0
Fits v = IsTrue (fit v)

fits_out : (v : Value) → fit v ≡ layer_fits 128 (map-Value Value Bool fit (out-Value v))
unfolding integers_fit
fits_out v = fold_out-Value Bool (layer_fits 128) v

abbrev text_at : Layer Value → List ℕ
text_at x = layer_text (map-Value Value Shown shown x)

text_out : (v : Value) → text_of v ≡ text_at (out-Value v)
text_out v = ap (λ s. s.text) (shown_out v)

abbrev LayerFits : Layer Value → Type 0
LayerFits x = IsTrue (layer_fits 128 (map-Value Value Bool fit x))

int_fits_of : (x : Layer Value) → LayerFits x → IsTrue (int_fits (map-Value Value Shown shown x))
int_fits_of (layer.Int n) h = h
int_fits_of (layer.Bool b) h = refl
int_fits_of (layer.Text t) h = refl
int_fits_of (layer.Set xs) h = refl
int_fits_of (layer.Fun ps) h = refl

kind_kept : (x : Layer Value) → kind_of (map-Value Value Shown shown x) ≡ kind_of x
kind_kept (layer.Bool b) = refl
kind_kept (layer.Int n) = refl
kind_kept (layer.Text t) = refl
kind_kept (layer.Set xs) = refl
kind_kept (layer.Fun ps) = refl

kind_there : (x : Layer Value) (r : List ℕ) → LayerFits x → kind_at (text_at x ++ r) ≡ kind_of x
kind_there x r h = kind_is (map-Value Value Shown shown x) r (int_fits_of x h) ∙ kind_kept x

same_kind : (x y : Layer Value) (r q : List ℕ) → LayerFits x → LayerFits y → text_at x ++ r ≡ text_at y ++ q → kind_of x ≡ kind_of y
same_kind x y r q g h e = sym (kind_there x r g) ∙ ap kind_at e ∙ kind_there y q h

kind_small : (x : Layer Value) → kind_of x < 5
kind_small (layer.Bool b) = omega arith
kind_small (layer.Int n) = omega arith
kind_small (layer.Text t) = omega arith
kind_small (layer.Set xs) = omega arith
kind_small (layer.Fun ps) = omega arith

-- no value's text begins with a byte of no kind
no_kind : (v : Value) (b : ℕ) (r q : List ℕ) → Fits v → kind_at (b ∷ q) ≡ 9 → text_of v ++ r ≡ b ∷ q → ⊥
no_kind v b r q h none e =
    let there : kind_at (text_at (out-Value v) ++ r) ≡ kind_of (out-Value v) = kind_there (out-Value v) r (subst IsTrue (fits_out v) h) in
    let small : kind_of (out-Value v) < 5 = kind_small (out-Value v) in
    let nine : kind_of (out-Value v) ≡ 9 = sym there ∙ ap (λ t. kind_at (t ++ r)) (sym (text_out v)) ∙ ap kind_at e ∙ none in
    omega arith

-- ---- the parts of lists

abbrev One : Value → Type 0
One v = (u : Value) (r q : List ℕ) → Fits v → Fits u → Ends r → Ends q → text_of v ++ r ≡ text_of u ++ q → (v ≡ u) × (r ≡ q)

abbrev AndOne : Type 0
AndOne = (z : Value) × One z

abbrev of_one : AndOne → Value
of_one e = e.0

abbrev pair_one : AndOne × AndOne → Value × Value
pair_one p = (p.0.0, p.1.0)

and_left : (a b : Bool) → IsTrue (a && b) → IsTrue a
and_left true b h = refl
and_left false b h = h

and_right : (a b : Bool) → IsTrue (a && b) → IsTrue b
and_right true b h = h
and_right false b h = cc

-- several values

join_shown : {X Y : Type 0} (g : X → Y) (f : Y → List ℕ) (sep : List ℕ) (xs : List X) → join_by f sep (map g xs) ≡ join_by (λ x. f (g x)) sep xs
join_shown g f sep [] = refl
join_shown g f sep (x ∷ xs) = ap (λ t. f (g x) ++ t) (more xs)
  where
    more : (ys : List _) → flat_map (λ y. sep ++ f y) (map g ys) ≡ flat_map (λ y. sep ++ f (g y)) ys
    more [] = refl
    more (y ∷ ys) = ap (λ t. (sep ++ f (g y)) ++ t) (more ys)

abbrev comma : List ℕ
comma = 44 ∷ 32 ∷ []

only_values : (c : ℕ) (cs : List ℕ) (d : 44 ≡ c → ⊥) (p : IsTrue (not (is_digit c))) (ys : List AndOne) →
    IsTrue (list_all (λ b. b) (map fit (map of_one ys))) → AllByRecursion (Only text_of Fits 44 (32 ∷ []) c cs d refl p) (map of_one ys)
only_values c cs d p [] h = tt
only_values c cs d p (y ∷ ys) h =
    ((λ u r q k s t e. y.1 u r q (and_left (fit y.0) _ h) k s t e), only_values c cs d p ys (and_right (fit y.0) _ h))

all_fit : (zs : List Value) → IsTrue (list_all (λ b. b) (map fit zs)) → AllByRecursion Fits zs
all_fit [] h = tt
all_fit (z ∷ zs) h = (and_left (fit z) _ h, all_fit zs (and_right (fit z) _ h))

no_closing : (s : ℕ) (ss : List ℕ) (c : ℕ) (cs : List ℕ) (d : s ≡ c → ⊥) (o : IsTrue (not (is_digit s))) (p : IsTrue (not (is_digit c))) →
    ((q : List ℕ) → kind_at (c ∷ q) ≡ 9) → (zs : List Value) → AllByRecursion Fits zs → AllByRecursion (NoClosing text_of Fits s ss c cs d o p) zs
no_closing s ss c cs d o p none [] h = tt
no_closing s ss c cs d o p none (z ∷ zs) h = ((λ r q e. no_kind z c r q h.0 (none q) e), no_closing s ss c cs d o p none zs h.1)

-- ---- sets

abbrev Differ : ℕ → ℕ → Type 0
Differ a b = a ≡ b → ⊥

differ_brace : Differ 44 125
differ_brace e = omega arith

set_opened : (xs : List Value) (r : List ℕ) → set_text (map shown xs) ++ r ≡ 123 ∷ (join_by text_of comma xs ++ (125 ∷ r))
set_opened xs r =
    ap (λ t. 123 ∷ t) (append_assoc (join_by (λ (x : Shown). x.text) comma (map shown xs)) (125 ∷ []) r
    ∙ ap (λ t. t ++ (125 ∷ r)) (join_shown shown (λ (x : Shown). x.text) comma xs))

sets_apart : (ys : List AndOne) (zs : List Value) (r q : List ℕ) → IsTrue (list_all (λ b. b) (map fit (map of_one ys))) →
    IsTrue (list_all (λ b. b) (map fit zs)) → set_text (map shown (map of_one ys)) ++ r ≡ set_text (map shown zs) ++ q →
    (map of_one ys ≡ zs) × (r ≡ q)
sets_apart ys zs r q g h e =
    lists_apart text_of Fits 44 (32 ∷ []) 125 [] differ_brace refl refl (map of_one ys) zs r q
    (only_values 125 [] differ_brace refl ys g) (all_fit zs h)
    (no_closing 44 (32 ∷ []) 125 [] differ_brace refl refl (λ t. refl) (map of_one ys) (all_fit (map of_one ys) g))
    (no_closing 44 (32 ∷ []) 125 [] differ_brace refl refl (λ t. refl) zs (all_fit zs h))
    (tail_is 123 123 _ _ (sym (set_opened (map of_one ys) r) ∙ e ∙ set_opened zs q))

-- ---- functions

abbrev pair_fit : Value × Value → Bool
pair_fit p = fit p.0 && fit p.1

abbrev PairFits : Value × Value → Type 0
PairFits p = IsTrue (pair_fit p)

abbrev shown_pair : Value × Value → Shown × Shown
shown_pair p = (shown p.0, shown p.1)

-- the tuple of a sequence: its values
differ_angle : Differ 44 62
differ_angle e = omega arith

abbrev right : Value × Value → Value
right p = p.1

tuple_opened : (ps : List (Value × Value)) (r : List ℕ) → tuple_text (map shown_pair ps) ++ r ≡ 60 ∷ 60 ∷ (join_by text_of comma (map right ps) ++ (62 ∷ 62 ∷ r))
tuple_opened ps r =
    ap (λ t. 60 ∷ 60 ∷ t) (append_assoc (join_by (λ (p : Shown × Shown). p.1.text) comma (map shown_pair ps)) (62 ∷ 62 ∷ []) r
    ∙ ap (λ t. t ++ (62 ∷ 62 ∷ r)) (join_shown shown_pair (λ (p : Shown × Shown). p.1.text) comma ps ∙ sym (join_shown right text_of comma ps)))

only_rights : (ys : List (AndOne × AndOne)) → IsTrue (list_all (λ b. b) (map pair_fit (map pair_one ys))) →
    AllByRecursion (Only text_of Fits 44 (32 ∷ []) 62 (62 ∷ []) differ_angle refl refl) (map right (map pair_one ys))
only_rights [] h = tt
only_rights (y ∷ ys) h = (
  (λ u r q k s t e. y.1.1 u r q (and_right (fit y.0.0) (fit y.1.0) (and_left (pair_fit (pair_one y)) _ h)) k s t e),
  only_rights ys (and_right (pair_fit (pair_one y)) _ h),
)

rights_fit : (ps : List (Value × Value)) → IsTrue (list_all (λ b. b) (map pair_fit ps)) → AllByRecursion Fits (map right ps)
rights_fit [] h = tt
rights_fit (p ∷ ps) h = (and_right (fit p.0) (fit p.1) (and_left (pair_fit p) _ h), rights_fit ps (and_right (pair_fit p) _ h))

-- equal values at arguments that count up make equal pairs
number_is : (v : Value) (n : ℕ) → is_at n (shown v).number ≡ true → v ≡ Int (pos n)
number_is v n h = by_layer (out-Value v) refl
  where
    wrong : (o : Option ℤ) → o ≡ None → is_at n o ≡ true → ⊥
    wrong o e h = false≢true (sym (ap (is_at n) e) ∙ h)

    number_at : (x : Layer Value) → out-Value v ≡ x → (shown v).number ≡ number_of (map-Value Value Shown shown x)
    number_at x e = ap (λ s. s.number) (shown_out v) ∙ ap (λ y. number_of (map-Value Value Shown shown y)) e

    by_layer : (x : Layer Value) → out-Value v ≡ x → v ≡ Int (pos n)
    by_layer (layer.Int z) e =
        let at : int_eq z (pos n) ≡ true = sym (ap (is_at n) (number_at (layer.Int z) e)) ∙ h in
        sym (roll-out-Value v) ∙ ap roll-Value e ∙ rolls-Int z ∙ ap Int ((Decides-int_eq z (pos n)).0 at)
    by_layer (layer.Bool b) e = absurd (wrong (shown v).number (number_at (layer.Bool b) e) h)
    by_layer (layer.Text t) e = absurd (wrong (shown v).number (number_at (layer.Text t) e) h)
    by_layer (layer.Set xs) e = absurd (wrong (shown v).number (number_at (layer.Set xs) e) h)
    by_layer (layer.Fun ps) e = absurd (wrong (shown v).number (number_at (layer.Fun ps) e) h)

counted_same : (n : ℕ) (ps qs : List (Value × Value)) → counts_from n (map shown_pair ps) ≡ true → counts_from n (map shown_pair qs) ≡ true →
    map right ps ≡ map right qs → ps ≡ qs
counted_same n [] [] g h e = refl
counted_same n [] (q ∷ qs) g h e = cc
counted_same n (p ∷ ps) [] g h e = cc
counted_same n (p ∷ ps) (q ∷ qs) g h e =
    let first : p.1 ≡ q.1 = cc in
    let rest : map right ps ≡ map right qs = cc in
    let argument : p.0 ≡ q.0 =
    number_is p.0 n (and_left (is_at n (shown p.0).number) _ g) ∙ sym (number_is q.0 n (and_left (is_at n (shown q.0).number) _ h)) in
    ap₂ (λ (a b : Value). (a, b) ∷ ps) argument first
    ∙ ap (λ l. q ∷ l) (counted_same (n + 1) ps qs (and_right (is_at n (shown p.0).number) _ g) (and_right (is_at n (shown q.0).number) _ h) rest)

tuples_apart : (ys : List (AndOne × AndOne)) (zs : List (Value × Value)) (r q : List ℕ) → IsTrue (list_all (λ b. b) (map pair_fit (map pair_one ys))) →
    IsTrue (list_all (λ b. b) (map pair_fit zs)) → counts_from 1 (map shown_pair (map pair_one ys)) ≡ true → counts_from 1 (map shown_pair zs) ≡ true →
    tuple_text (map shown_pair (map pair_one ys)) ++ r ≡ tuple_text (map shown_pair zs) ++ q → (map pair_one ys ≡ zs) × (r ≡ q)
tuples_apart ys zs r q g h m n e =
    let ps : List (Value × Value) = map pair_one ys in
    let same = lists_apart text_of Fits 44 (32 ∷ []) 62 (62 ∷ []) differ_angle refl refl (map right ps) (map right zs) r q
    (only_rights ys g) (rights_fit zs h)
    (no_closing 44 (32 ∷ []) 62 (62 ∷ []) differ_angle refl refl (λ t. refl) (map right ps) (rights_fit ps g))
    (no_closing 44 (32 ∷ []) 62 (62 ∷ []) differ_angle refl refl (λ t. refl) (map right zs) (rights_fit zs h))
    (tail_is 60 60 _ _ (tail_is 60 60 _ _ (sym (tuple_opened ps r) ∙ e ∙ tuple_opened zs q))) in
    (counted_same 1 ps zs m n same.0, same.1)

-- ---- records

abbrev name_of_value : Value → List ℕ
name_of_value v = unwrap_or (shown v).name []

abbrev field : Value × Value → List ℕ × Value
field p = (name_of_value p.0, p.1)

abbrev field_line : List ℕ × Value → List ℕ
field_line b = (b.0 ++ codes " |-> ") ++ text_of b.1

abbrev NameBytes : List ℕ → Type 0
NameBytes n = AllByRecursion (λ b. is_name_byte b ≡ true) n

abbrev GoodField : List ℕ × Value → Type 0
GoodField b = NameBytes b.0 × Fits b.1

differ_square : Differ 44 93
differ_square e = omega arith

field_opened : (b : List ℕ × Value) (r : List ℕ) → field_line b ++ r ≡ b.0 ++ (32 ∷ 124 ∷ 45 ∷ 62 ∷ 32 ∷ (text_of b.1 ++ r))
field_opened b r = append_assoc (b.0 ++ codes " |-> ") (text_of b.1) r ∙ append_assoc b.0 (codes " |-> ") (text_of b.1 ++ r)

field_apart : (n : List ℕ) (v : Value) → NameBytes n → Fits v → One v → (b : List ℕ × Value) (r q : List ℕ) → GoodField b → Ends r → Ends q →
    field_line (n, v) ++ r ≡ field_line b ++ q → ((n, v) ≡ b) × (r ≡ q)
field_apart n v g h one b r q good s t e =
    let names = runs_apart is_name_byte n b.0 _ _ g good.0 refl refl (sym (field_opened (n, v) r) ∙ e ∙ field_opened b q) in
    let values = one b.1 r q h good.1 s t (cancel (codes " |-> ") _ _ names.1) in
    (ap₂ (λ (x : List ℕ) (y : Value). (x, y)) names.0 values.0, values.1)

no_square : (b : List ℕ × Value) → GoodField b → (r q : List ℕ) → field_line b ++ r ≡ 93 ∷ q → ⊥
no_square b good r q e = by_name b.0 good.0 (sym (field_opened b r) ∙ e)
  where
    by_name : (n : List ℕ) → NameBytes n → n ++ (32 ∷ 124 ∷ 45 ∷ 62 ∷ 32 ∷ (text_of b.1 ++ r)) ≡ 93 ∷ q → ⊥
    by_name [] h k = omega (arith, head_is 32 93 _ _ k)
    by_name (c ∷ n) h k = false≢true (ap is_name_byte (sym (head_is c 93 _ _ k)) ∙ h.0)

bytes_pass : (t : List ℕ) → list_all is_name_byte t ≡ true → NameBytes t
bytes_pass [] h = tt
bytes_pass (b ∷ t) h = (and_left (is_name_byte b) _ h, bytes_pass t (and_right (is_name_byte b) _ h))

name_bytes : (t : List ℕ) → is_name t ≡ true → NameBytes t
unfolding is_name
name_bytes t h = bytes_pass t (and_left (list_all is_name_byte t) _ (and_left (is_word t) _ (and_left (is_word t && not (begins_fairness t)) _ h)))

-- a value that is a name
named_is : (v : Value) → is_some (shown v).name ≡ true → (v ≡ Text (name_of_value v)) × NameBytes (name_of_value v)
named_is v h = by_layer (out-Value v) refl
  where
    wrong : (o : Option (List ℕ)) → o ≡ None → is_some o ≡ true → ⊥
    wrong o e k = false≢true (sym (ap is_some e) ∙ k)

    name_at : (x : Layer Value) → out-Value v ≡ x → (shown v).name ≡ name_of (map-Value Value Shown shown x)
    name_at x e = ap (λ s. s.name) (shown_out v) ∙ ap (λ y. name_of (map-Value Value Shown shown y)) e

    by_name : (t : List ℕ) (b : Bool) → is_name t ≡ b → v ≡ Text t → (shown v).name ≡ (if b then Some t else None) → (v ≡ Text (name_of_value v)) × NameBytes (name_of_value v)
    by_name t true e is k =
        let same : name_of_value v ≡ t = ap (λ o. unwrap_or o []) k in
        (is ∙ ap Text (sym same), subst NameBytes (sym same) (name_bytes t e))
    by_name t false e is k = absurd (wrong (shown v).name k h)

    by_layer : (x : Layer Value) → out-Value v ≡ x → (v ≡ Text (name_of_value v)) × NameBytes (name_of_value v)
    by_layer (layer.Text t) e = by_name t (is_name t) refl (sym (roll-out-Value v) ∙ ap roll-Value e ∙ rolls-Text t) (name_at (layer.Text t) e)
    by_layer (layer.Bool b) e = absurd (wrong (shown v).name (name_at (layer.Bool b) e) h)
    by_layer (layer.Int z) e = absurd (wrong (shown v).name (name_at (layer.Int z) e) h)
    by_layer (layer.Set xs) e = absurd (wrong (shown v).name (name_at (layer.Set xs) e) h)
    by_layer (layer.Fun ps) e = absurd (wrong (shown v).name (name_at (layer.Fun ps) e) h)

only_fields : (ys : List (AndOne × AndOne)) → IsTrue (list_all (λ b. b) (map pair_fit (map pair_one ys))) → are_named (map shown_pair (map pair_one ys)) ≡ true →
    AllByRecursion (Only field_line GoodField 44 (32 ∷ []) 93 [] differ_square refl refl) (map field (map pair_one ys))
only_fields [] h n = tt
only_fields (y ∷ ys) h n = (
  field_apart (name_of_value y.0.0) y.1.0 (named_is y.0.0 (and_left (is_some (shown y.0.0).name) _ n)).1
      (and_right (fit y.0.0) (fit y.1.0) (and_left (pair_fit (pair_one y)) _ h)) y.1.1,
  only_fields ys (and_right (pair_fit (pair_one y)) _ h) (and_right (is_some (shown y.0.0).name) _ n),
)

fields_good : (ps : List (Value × Value)) → IsTrue (list_all (λ b. b) (map pair_fit ps)) → are_named (map shown_pair ps) ≡ true → AllByRecursion GoodField (map field ps)
fields_good [] h n = tt
fields_good (p ∷ ps) h n = (
  ((named_is p.0 (and_left (is_some (shown p.0).name) _ n)).1, and_right (fit p.0) (fit p.1) (and_left (pair_fit p) _ h)),
  fields_good ps (and_right (pair_fit p) _ h) (and_right (is_some (shown p.0).name) _ n),
)

fields_unclosed : (bs : List (List ℕ × Value)) → AllByRecursion GoodField bs → AllByRecursion (NoClosing field_line GoodField 44 (32 ∷ []) 93 [] differ_square refl refl) bs
fields_unclosed [] h = tt
fields_unclosed (b ∷ bs) h = (no_square b h.0, fields_unclosed bs h.1)

named_same : (ps qs : List (Value × Value)) → are_named (map shown_pair ps) ≡ true → are_named (map shown_pair qs) ≡ true → map field ps ≡ map field qs → ps ≡ qs
named_same [] [] g h e = refl
named_same [] (q ∷ qs) g h e = cc
named_same (p ∷ ps) [] g h e = cc
named_same (p ∷ ps) (q ∷ qs) g h e =
    let first : field p ≡ field q = cc in
    let names : name_of_value p.0 ≡ name_of_value q.0 = ap (λ (b : List ℕ × Value). b.0) first in
    let values : p.1 ≡ q.1 = ap (λ (b : List ℕ × Value). b.1) first in
    let rest : map field ps ≡ map field qs = cc in
    let argument : p.0 ≡ q.0 =
    (named_is p.0 (and_left (is_some (shown p.0).name) _ g)).0 ∙ ap Text names ∙ sym (named_is q.0 (and_left (is_some (shown q.0).name) _ h)).0 in
    ap₂ (λ (a b : Value). (a, b) ∷ ps) argument values
    ∙ ap (λ l. q ∷ l) (named_same ps qs (and_right (is_some (shown p.0).name) _ g) (and_right (is_some (shown q.0).name) _ h) rest)

record_opened : (ps : List (Value × Value)) (r : List ℕ) → record_text (map shown_pair ps) ++ r ≡ 91 ∷ (join_by field_line comma (map field ps) ++ (93 ∷ r))
record_opened ps r =
    ap (λ t. 91 ∷ t) (append_assoc (join_by field_text comma (map shown_pair ps)) (93 ∷ []) r
    ∙ ap (λ t. t ++ (93 ∷ r)) (join_shown shown_pair field_text comma ps ∙ sym (join_shown field field_line comma ps)))

records_apart : (ys : List (AndOne × AndOne)) (zs : List (Value × Value)) (r q : List ℕ) → IsTrue (list_all (λ b. b) (map pair_fit (map pair_one ys))) →
    IsTrue (list_all (λ b. b) (map pair_fit zs)) → are_named (map shown_pair (map pair_one ys)) ≡ true → are_named (map shown_pair zs) ≡ true →
    record_text (map shown_pair (map pair_one ys)) ++ r ≡ record_text (map shown_pair zs) ++ q → (map pair_one ys ≡ zs) × (r ≡ q)
records_apart ys zs r q g h m n e =
    let ps : List (Value × Value) = map pair_one ys in
    let same = lists_apart field_line GoodField 44 (32 ∷ []) 93 [] differ_square refl refl (map field ps) (map field zs) r q
    (only_fields ys g m) (fields_good zs h n) (fields_unclosed (map field ps) (fields_good ps g m)) (fields_unclosed (map field zs) (fields_good zs h n))
    (tail_is 91 91 _ _ (sym (record_opened ps r) ∙ e ∙ record_opened zs q)) in
    (named_same ps zs m n same.0, same.1)

-- ---- other functions

abbrev pair_line : Value × Value → List ℕ
pair_line p = (text_of p.0 ++ codes " :> ") ++ text_of p.1

differ_round : Differ 32 41
differ_round e = omega arith

pair_opened : (p : Value × Value) (r : List ℕ) → pair_line p ++ r ≡ text_of p.0 ++ (32 ∷ 58 ∷ 62 ∷ 32 ∷ (text_of p.1 ++ r))
pair_opened p r = append_assoc (text_of p.0 ++ codes " :> ") (text_of p.1) r ∙ append_assoc (text_of p.0) (codes " :> ") (text_of p.1 ++ r)

pair_apart : (a b : AndOne) → PairFits (a.0, b.0) → (p : Value × Value) (r q : List ℕ) → PairFits p → Ends r → Ends q →
    pair_line (a.0, b.0) ++ r ≡ pair_line p ++ q → ((a.0, b.0) ≡ p) × (r ≡ q)
pair_apart a b g p r q h s t e =
    let first = a.1 p.0 _ _ (and_left (fit a.0) (fit b.0) g) (and_left (fit p.0) (fit p.1) h) refl refl (sym (pair_opened (a.0, b.0) r) ∙ e ∙ pair_opened p q) in
    let second = b.1 p.1 r q (and_right (fit a.0) (fit b.0) g) (and_right (fit p.0) (fit p.1) h) s t (cancel (codes " :> ") _ _ first.1) in
    (ap₂ (λ (x y : Value). (x, y)) first.0 second.0, second.1)

only_pairs : (ys : List (AndOne × AndOne)) → IsTrue (list_all (λ b. b) (map pair_fit (map pair_one ys))) →
    AllByRecursion (Only pair_line PairFits 32 (64 ∷ 64 ∷ 32 ∷ []) 41 [] differ_round refl refl) (map pair_one ys)
only_pairs [] h = tt
only_pairs (y ∷ ys) h = (pair_apart y.0 y.1 (and_left (pair_fit (pair_one y)) _ h), only_pairs ys (and_right (pair_fit (pair_one y)) _ h))

pairs_fit : (ps : List (Value × Value)) → IsTrue (list_all (λ b. b) (map pair_fit ps)) → AllByRecursion PairFits ps
pairs_fit [] h = tt
pairs_fit (p ∷ ps) h = (and_left (pair_fit p) _ h, pairs_fit ps (and_right (pair_fit p) _ h))

pairs_unclosed : (ps : List (Value × Value)) → AllByRecursion PairFits ps → AllByRecursion (NoClosing pair_line PairFits 32 (64 ∷ 64 ∷ 32 ∷ []) 41 [] differ_round refl refl) ps
pairs_unclosed [] h = tt
pairs_unclosed (p ∷ ps) h =
    ((λ r q e. no_kind p.0 41 _ q (and_left (fit p.0) (fit p.1) h.0) refl (sym (pair_opened p r) ∙ e)), pairs_unclosed ps h.1)

pairs_opened : (ps : List (Value × Value)) (r : List ℕ) → pairs_text (map shown_pair ps) ++ r ≡ 40 ∷ (join_by pair_line (32 ∷ 64 ∷ 64 ∷ 32 ∷ []) ps ++ (41 ∷ r))
pairs_opened ps r =
    ap (λ t. 40 ∷ t) (append_assoc (join_by pair_text (32 ∷ 64 ∷ 64 ∷ 32 ∷ []) (map shown_pair ps)) (41 ∷ []) r
    ∙ ap (λ t. t ++ (41 ∷ r)) (join_shown shown_pair pair_text (32 ∷ 64 ∷ 64 ∷ 32 ∷ []) ps))

others_apart : (ys : List (AndOne × AndOne)) (zs : List (Value × Value)) (r q : List ℕ) → IsTrue (list_all (λ b. b) (map pair_fit (map pair_one ys))) →
    IsTrue (list_all (λ b. b) (map pair_fit zs)) → pairs_text (map shown_pair (map pair_one ys)) ++ r ≡ pairs_text (map shown_pair zs) ++ q →
    (map pair_one ys ≡ zs) × (r ≡ q)
others_apart ys zs r q g h e =
    let ps : List (Value × Value) = map pair_one ys in
    lists_apart pair_line PairFits 32 (64 ∷ 64 ∷ 32 ∷ []) 41 [] differ_round refl refl ps zs r q
    (only_pairs ys g) (pairs_fit zs h) (pairs_unclosed ps (pairs_fit ps g)) (pairs_unclosed zs (pairs_fit zs h))
    (tail_is 40 40 _ _ (sym (pairs_opened ps r) ∙ e ∙ pairs_opened zs q))

-- a function's text by its form
abbrev form_text : Bool → Bool → List (Shown × Shown) → List ℕ
form_text a b ps = if a then tuple_text ps else (if b then record_text ps else pairs_text ps)

functions_apart : (ys : List (AndOne × AndOne)) (zs : List (Value × Value)) (r q : List ℕ) → IsTrue (list_all (λ b. b) (map pair_fit (map pair_one ys))) →
    IsTrue (list_all (λ b. b) (map pair_fit zs)) → function_text (map shown_pair (map pair_one ys)) ++ r ≡ function_text (map shown_pair zs) ++ q →
    (map pair_one ys ≡ zs) × (r ≡ q)
functions_apart ys zs r q g h e =
    by_forms (counts_from 1 (map shown_pair (map pair_one ys))) (are_named (map shown_pair (map pair_one ys)))
    (counts_from 1 (map shown_pair zs)) (are_named (map shown_pair zs)) refl refl refl refl e
  where
    ps : List (Value × Value)
    ps = map pair_one ys

    by_forms : (a b c d : Bool) → counts_from 1 (map shown_pair ps) ≡ a → are_named (map shown_pair ps) ≡ b → counts_from 1 (map shown_pair zs) ≡ c →
        are_named (map shown_pair zs) ≡ d → form_text a b (map shown_pair ps) ++ r ≡ form_text c d (map shown_pair zs) ++ q → (ps ≡ zs) × (r ≡ q)
    by_forms true b true d i j k l e = tuples_apart ys zs r q g h i k e
    by_forms true b false true i j k l e = absurd (omega (arith, head_is 60 91 _ _ e))
    by_forms true b false false i j k l e = absurd (omega (arith, head_is 60 40 _ _ e))
    by_forms false true true d i j k l e = absurd (omega (arith, head_is 91 60 _ _ e))
    by_forms false true false true i j k l e = records_apart ys zs r q g h j l e
    by_forms false true false false i j k l e = absurd (omega (arith, head_is 91 40 _ _ e))
    by_forms false false true d i j k l e = absurd (omega (arith, head_is 40 60 _ _ e))
    by_forms false false false true i j k l e = absurd (omega (arith, head_is 40 91 _ _ e))
    by_forms false false false false i j k l e = others_apart ys zs r q g h e

-- ---- all values

quoted_opened : (t r : List ℕ) → quoted t ++ r ≡ 34 ∷ (flat_map escaped t ++ (34 ∷ r))
quoted_opened t r = ap (λ l. 34 ∷ l) (append_assoc (flat_map escaped t) (34 ∷ []) r)

bools_apart : (a b : Bool) (r q : List ℕ) → (if a then codes "TRUE" else codes "FALSE") ++ r ≡ (if b then codes "TRUE" else codes "FALSE") ++ q → (a ≡ b) × (r ≡ q)
bools_apart true true r q e = (refl, cancel (codes "TRUE") r q e)
bools_apart true false r q e = absurd (omega (arith, head_is 84 70 _ _ e))
bools_apart false true r q e = absurd (omega (arith, head_is 70 84 _ _ e))
bools_apart false false r q e = (refl, cancel (codes "FALSE") r q e)

both_fit : (ps : List (Value × Value)) → LayerFits (layer.Fun ps) → IsTrue (list_all (λ b. b) (map pair_fit ps))
both_fit ps h = same ps ∙ h
  where
    same : (qs : List (Value × Value)) → list_all (λ b. b) (map pair_fit qs) ≡ list_all (λ (p : Bool × Bool). p.0 && p.1) (map (λ (p : Value × Value). (fit p.0, fit p.1)) qs)
    same [] = refl
    same (p ∷ qs) = ap (λ b. (fit p.0 && fit p.1) && b) (same qs)

layers_apart : (y : Layer AndOne) (z : Layer Value) (r q : List ℕ) → LayerFits (map-Value AndOne Value of_one y) → LayerFits z → Ends r → Ends q →
    text_at (map-Value AndOne Value of_one y) ++ r ≡ text_at z ++ q → (map-Value AndOne Value of_one y ≡ z) × (r ≡ q)
layers_apart (layer.Bool a) (layer.Bool b) r q g h s t e = let same = bools_apart a b r q e in (ap (λ c. layer.Bool c) same.0, same.1)
layers_apart (layer.Int a) (layer.Int b) r q g h s t e = let same = signed_apart a b r q g h s t e in (ap (λ n. layer.Int n) same.0, same.1)
layers_apart (layer.Text a) (layer.Text b) r q g h s t e =
    let same = quoted_apart a b r q (tail_is 34 34 _ _ (sym (quoted_opened a r) ∙ e ∙ quoted_opened b q)) in (ap (λ x. layer.Text x) same.0, same.1)
layers_apart (layer.Set ys) (layer.Set zs) r q g h s t e = let same = sets_apart ys zs r q g h e in (ap (λ xs. layer.Set xs) same.0, same.1)
layers_apart (layer.Fun ys) (layer.Fun zs) r q g h s t e = let same = functions_apart ys zs r q (both_fit (map pair_one ys) g) (both_fit zs h) e in (ap (λ ps. layer.Fun ps) same.0, same.1)
layers_apart y z r q g h s t e = absurd (omega (arith, same_kind (map-Value AndOne Value of_one y) z r q g h e))

pub one_text : (v : Value) → One v
one_text = ind-Value One (λ x y is u r q g h s t e.
    let o : out-Value (roll-Value x) ≡ map-Value AndOne Value of_one y = out-roll-Value x ∙ sym is in
    let same = layers_apart y (out-Value u) r q
    (subst LayerFits o (subst IsTrue (fits_out (roll-Value x)) g)) (subst IsTrue (fits_out u) h) s t
    (sym (ap (λ l. text_at l ++ r) o) ∙ sym (ap (λ l. l ++ r) (text_out (roll-Value x))) ∙ e ∙ ap (λ l. l ++ q) (text_out u)) in
    (sym (roll-out-Value (roll-Value x)) ∙ ap roll-Value (o ∙ same.0) ∙ roll-out-Value u, same.1))
