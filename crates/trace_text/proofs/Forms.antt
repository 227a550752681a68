-- Sets and functions as pieces between brackets.
use Rattle.std.proofs.Common.{◌≡◌, ℕ, ◌+◌, Bool, true, false, List, [], ◌∷◌, ◌++◌, map, flat_map, refl, ap, ap₂, ◌∙◌, sym, pos, subst, append_assoc, codes}
use Rattle.std.specs.Prelude.{if◌then◌else◌, is_some}
use Rattle.std.specs.List.{join_by, list_all}
use Rattle.tla_values.specs.Order.{Layer}
use Rattle.tla_values.specs.Show.{Shown, are_named, counts_from, field_text, is_at, pair_text, record_text, pairs_text, shown, text_of, tuple_text}
use Rattle.tla_values.specs.declared.value.Value.{Value, out-Value, Int, Set, Fun}
use Rattle.tla_values.specs.declared.value.Value.TheVariants.{rolls-Set, rolls-Fun}
use Rattle.tla_values.specs.declared.value.Value.TheOpen as layer
use Rattle.trace_text.specs.declared.brackets.Bracket.{Bracket}
use Rattle.trace_text.specs.declared.brackets.Bracket.TheVariants.{Brace, Angle, Square, Round}
use Rattle.trace_text.specs.inner.Reading.{Fits}
use Rattle.trace_text.specs.inner.Pieces.{ArePieces, IsPlain, PlainHere, closing, made, opening, piece_text, pieces_text, separator, tail_text}
use Rattle.trace_text.proofs.Runs.{left_of, right_of}
use Rattle.trace_text.proofs.ValueForms.{fit, members_fit, named_is, number_is, pair_fit, pairs_fit, rolled, text_at}

-- ---- the text of pieces

abbrev shown_pair : Value × Value → Shown × Shown
shown_pair p = (shown p.0, shown p.1)

tails_same : {Y : Type 0} (f : Y → List ℕ) (ys : List Y) (k : Bracket) (ps : List (Value × Value)) (r : List ℕ) →
    map (piece_text k) ps ≡ map f ys → flat_map (λ y. separator k ++ f y) ys ++ (closing k ++ r) ≡ tail_text k ps r
tails_same f [] k [] r e = refl
tails_same f [] k (p ∷ ps) r e = cc
tails_same f (y ∷ ys) k [] r e = cc
tails_same f (y ∷ ys) k (p ∷ ps) r e =
    let first : piece_text k p ≡ f y = cc in
    let rest : map (piece_text k) ps ≡ map f ys = cc in
    append_assoc (separator k ++ f y) (flat_map (λ z. separator k ++ f z) ys) (closing k ++ r)
    ∙ ap₂ (λ (a b : List ℕ). (separator k ++ a) ++ b) (sym first) (tails_same f ys k ps r rest)
    ∙ sym (append_assoc (separator k ++ piece_text k p) (flat_map (λ q. separator k ++ piece_text k q) ps) (closing k ++ r))

closed_same : {Y : Type 0} (f : Y → List ℕ) (ys : List Y) (k : Bracket) (ps : List (Value × Value)) (r : List ℕ) →
    map (piece_text k) ps ≡ map f ys → join_by f (separator k) ys ++ (closing k ++ r) ≡ pieces_text k ps r
closed_same f [] k [] r e = refl
closed_same f [] k (p ∷ ps) r e = cc
closed_same f (y ∷ ys) k [] r e = cc
closed_same f (y ∷ ys) k (p ∷ ps) r e =
    let first : piece_text k p ≡ f y = cc in
    let rest : map (piece_text k) ps ≡ map f ys = cc in
    append_assoc (f y) (flat_map (λ z. separator k ++ f z) ys) (closing k ++ r)
    ∙ ap₂ (λ (a b : List ℕ). a ++ b) (sym first) (tails_same f ys k ps r rest)

-- between its brackets
bracketed_same : {Y : Type 0} (f : Y → List ℕ) (ys : List Y) (k : Bracket) (ps : List (Value × Value)) (r : List ℕ) →
    map (piece_text k) ps ≡ map f ys → ((opening k ++ join_by f (separator k) ys) ++ closing k) ++ r ≡ opening k ++ pieces_text k ps r
bracketed_same f ys k ps r e =
    append_assoc (opening k ++ join_by f (separator k) ys) (closing k) r
    ∙ append_assoc (opening k) (join_by f (separator k) ys) (closing k ++ r)
    ∙ ap (λ x. opening k ++ x) (closed_same f ys k ps r e)

-- ---- the pieces of a value

pub data HasForm (v : Value) : Type 0 where
  plain : IsPlain v → HasForm v
  bracketed : (k : Bracket) (ps : List (Value × Value)) → made k ps ≡ v → ArePieces k 0 ps →
      ((r : List ℕ) → text_of v ++ r ≡ opening k ++ pieces_text k ps r) → HasForm v

-- the members of a set, counted
abbrev counted : ℕ → List Value → List (Value × Value)
counted i [] = []
counted i (x ∷ xs) = (Int (pos (i + 1)), x) ∷ counted (i + 1) xs

counted_values : (i : ℕ) (xs : List Value) → map (λ (p : Value × Value). p.1) (counted i xs) ≡ xs
counted_values i [] = refl
counted_values i (x ∷ xs) = ap (λ l. x ∷ l) (counted_values (i + 1) xs)

counted_texts : (i : ℕ) (xs : List Value) → map (piece_text Brace) (counted i xs) ≡ map (λ (s : Shown). s.text) (map shown xs)
counted_texts i [] = refl
counted_texts i (x ∷ xs) = ap (λ l. text_of x ∷ l) (counted_texts (i + 1) xs)

counted_pieces : (i : ℕ) (xs : List Value) → list_all fit xs ≡ true → ArePieces Brace i (counted i xs)
counted_pieces i [] h = tt
counted_pieces i (x ∷ xs) h = ((refl, left_of (fit x) (list_all fit xs) h), counted_pieces (i + 1) xs (right_of (fit x) (list_all fit xs) h))

set_form : (v : Value) (xs : List Value) → Fits v → out-Value v ≡ layer.Set xs → HasForm v
set_form v xs fits e =
    bracketed Brace (counted 0 xs) (ap Set (counted_values 0 xs) ∙ sym (rolled v (layer.Set xs) e ∙ rolls-Set xs))
    (counted_pieces 0 xs (members_fit v xs e fits))
    (λ r. ap (λ t. t ++ r) (text_at v (layer.Set xs) e) ∙ bracketed_same (λ (s : Shown). s.text) (map shown xs) Brace (counted 0 xs) r (counted_texts 0 xs))

-- a tuple's items
item_texts : (ps : List (Value × Value)) → map (piece_text Angle) ps ≡ map (λ (p : Shown × Shown). p.1.text) (map shown_pair ps)
item_texts [] = refl
item_texts (p ∷ ps) = ap (λ l. text_of p.1 ∷ l) (item_texts ps)

item_pieces : (i : ℕ) (ps : List (Value × Value)) → list_all pair_fit ps ≡ true → counts_from (i + 1) (map shown_pair ps) ≡ true → ArePieces Angle i ps
item_pieces i [] h c = tt
item_pieces i (p ∷ ps) h c = (
  (number_is p.0 (i + 1) (left_of (is_at (i + 1) (shown p.0).number) _ c), right_of (fit p.0) (fit p.1) (left_of (pair_fit p) (list_all pair_fit ps) h)),
  item_pieces (i + 1) ps (right_of (pair_fit p) (list_all pair_fit ps) h) (right_of (is_at (i + 1) (shown p.0).number) _ c),
)

-- a record's fields
field_texts : (ps : List (Value × Value)) → are_named (map shown_pair ps) ≡ true → map (piece_text Square) ps ≡ map field_text (map shown_pair ps)
field_texts [] n = refl
field_texts (p ∷ ps) n =
    let name = named_is p.0 (left_of (is_some (shown p.0).name) (are_named (map shown_pair ps)) n) in
    ap₂ (λ (a : List ℕ) (l : List (List ℕ)). ((a ++ codes " |-> ") ++ text_of p.1) ∷ l) (sym name.name)
    (field_texts ps (right_of (is_some (shown p.0).name) (are_named (map shown_pair ps)) n))

field_pieces : (i : ℕ) (ps : List (Value × Value)) → list_all pair_fit ps ≡ true → are_named (map shown_pair ps) ≡ true → ArePieces Square i ps
field_pieces i [] h n = tt
field_pieces i (p ∷ ps) h n =
    let name = named_is p.0 (left_of (is_some (shown p.0).name) (are_named (map shown_pair ps)) n) in (
      ((name.is, name.bytes), right_of (fit p.0) (fit p.1) (left_of (pair_fit p) (list_all pair_fit ps) h)),
      field_pieces (i + 1) ps (right_of (pair_fit p) (list_all pair_fit ps) h) (right_of (is_some (shown p.0).name) (are_named (map shown_pair ps)) n),
    )

-- the pairs of any other function
pair_texts : (ps : List (Value × Value)) → map (piece_text Round) ps ≡ map pair_text (map shown_pair ps)
pair_texts [] = refl
pair_texts (p ∷ ps) = ap (λ l. ((text_of p.0 ++ codes " :> ") ++ text_of p.1) ∷ l) (pair_texts ps)

pair_pieces : (i : ℕ) (ps : List (Value × Value)) → list_all pair_fit ps ≡ true → ArePieces Round i ps
pair_pieces i [] h = tt
pair_pieces i (p ∷ ps) h =
    let here = left_of (pair_fit p) (list_all pair_fit ps) h in
    ((left_of (fit p.0) (fit p.1) here, right_of (fit p.0) (fit p.1) here), pair_pieces (i + 1) ps (right_of (pair_fit p) (list_all pair_fit ps) h))

function_form : (v : Value) (ps : List (Value × Value)) → Fits v → out-Value v ≡ layer.Fun ps → HasForm v
function_form v ps fits e = by_form (counts_from 1 (map shown_pair ps)) (are_named (map shown_pair ps)) refl refl
  where
    all_fit : list_all pair_fit ps ≡ true
    all_fit = pairs_fit v ps e fits

    is : Fun ps ≡ v
    is = sym (rolled v (layer.Fun ps) e ∙ rolls-Fun ps)

    form_text : Bool → Bool → List ℕ
    form_text a b = if a then tuple_text (map shown_pair ps) else (if b then record_text (map shown_pair ps) else pairs_text (map shown_pair ps))

    text : (a b : Bool) → counts_from 1 (map shown_pair ps) ≡ a → are_named (map shown_pair ps) ≡ b → text_of v ≡ form_text a b
    text a b g h = text_at v (layer.Fun ps) e ∙ ap₂ form_text g h

    by_form : (a b : Bool) → counts_from 1 (map shown_pair ps) ≡ a → are_named (map shown_pair ps) ≡ b → HasForm v
    by_form true b g h =
        bracketed Angle ps is (item_pieces 0 ps all_fit g)
        (λ r. ap (λ t. t ++ r) (text true b g h) ∙ bracketed_same (λ (p : Shown × Shown). p.1.text) (map shown_pair ps) Angle ps r (item_texts ps))
    by_form false true g h =
        bracketed Square ps is (field_pieces 0 ps all_fit h)
        (λ r. ap (λ t. t ++ r) (text false true g h) ∙ bracketed_same field_text (map shown_pair ps) Square ps r (field_texts ps h))
    by_form false false g h =
        bracketed Round ps is (pair_pieces 0 ps all_fit)
        (λ r. ap (λ t. t ++ r) (text false false g h) ∙ bracketed_same pair_text (map shown_pair ps) Round ps r (pair_texts ps))

pub form_of : (v : Value) → Fits v → HasForm v
form_of v fits = by_layer (out-Value v) refl
  where
    by_layer : (x : Layer Value) → out-Value v ≡ x → HasForm v
    by_layer (layer.Set xs) e = set_form v xs fits e
    by_layer (layer.Fun ps) e = function_form v ps fits e
    by_layer (layer.Bool b) e = plain (subst PlainHere (sym e) tt)
    by_layer (layer.Int z) e = plain (subst PlainHere (sym e) tt)
    by_layer (layer.Text t) e = plain (subst PlainHere (sym e) tt)
