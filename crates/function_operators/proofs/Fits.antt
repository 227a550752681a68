-- The numbers among the arguments of functions and records fit the width, so their domain is never Big.
use Rattle.std.proofs.Common.{◌≡◌, ℕ, suc, ◌+◌, ◌-◌, ◌^◌, ◌<◌, ◌≤◌, Bool, true, false, cond, List, [], ◌∷◌, map}
use Rattle.std.proofs.Common.{length, get_or, Option, Some, None, pos, refl, ap, ◌∙◌, sym, subst, arith}
use Rattle.std.specs.Prelude.{if◌then◌else◌, option_map, filter}
use Rattle.std.specs.List.{AllByRecursion}
use Rattle.std.proofs.lemmas.Bool.{ltb-true, lt-ltb}
use Rattle.std.proofs.lemmas.Bool.Decides.{Decides-int_eq}
use Rattle.std.proofs.lemmas.List.{length-map}
use Rattle.std.proofs.lemmas.Nat.{pow_pos}
use Rattle.sat_formula.specs.declared.lit.Lit.{Lit}
use Rattle.sat_formula.specs.Lit.{lit_value}
use Rattle.tla_values.specs.Integers.{fits_width}
use Rattle.tla_values.specs.Order.{Layer}
use Rattle.tla_values.specs.Sets.{arguments, function_of}
use Rattle.tla_values.specs.declared.value.Value.{Value, out-Value}
use Rattle.tla_values.specs.declared.value.Value.TheVariants as value
use Rattle.tla_values.specs.declared.value.Value.TheVariants.{outs-Bool, outs-Int, outs-Text, outs-Set, outs-Fun}
use Rattle.tla_values.specs.declared.value.Value.TheOpen as layer
use Rattle.tla_values.proofs.SetLaws.{all_set_of}
use Rattle.tla_meaning.specs.declared.op.Op.TheVariants as op
use Rattle.tla_meaning.specs.declared.outcome.Outcome.TheVariants.{Val, Big}
use Rattle.tla_meaning.specs.declared.place.Place.{Place}
use Rattle.tla_meaning.specs.Operators.{table, domain}
use Rattle.tla_meaning.specs.Shapes.{is_int, items_from, items_of}
use Rattle.word_blaster.specs.Word.{word_value, values}
use Rattle.word_blaster.proofs.Signs.{fits_own}
use Rattle.cell_arena.specs.declared.kinds.CellId.{CellId}
use Rattle.cell_arena.specs.declared.kinds.CellKind.{CellKind}
use Rattle.cell_arena.specs.declared.kinds.CellKind.TheVariants.{Bit, Word, Text, Set, Fun, Rec, Tup, Seq}
use Rattle.cell_arena.specs.Cells.{Cells, WellBuilt, IsFormed, RefersBelow, kind_at}
use Rattle.cell_arena.specs.Decode.{decode, kind_value, present_pairs, field_pairs}
use Rattle.cell_arena.proofs.Decoding.{decode-kind}
use Rattle.cell_merge.specs.Arrows.{pairs_of}
use Rattle.cell_merge.specs.Sorts.{Sort, OfSort, function_of as function_sort, record_of}
use Rattle.cell_merge.proofs.Edges.{is-function, is-record}
use Rattle.function_rewriter.proofs.Composites.{pairs-fun}
use Rattle.function_rewriter.proofs.PairLists.{arguments_function}
use Rattle.sequence_rewriter.specs.Sequences.{int_here}
use Rattle.function_operators.proofs.Rows.{IsMapping, row_domain}
use Rattle.function_operators.proofs.Values.{by_kind}

abbrev Pair : Type 0
Pair = Value × Value

-- a value that is a natural number fits
abbrev pub FitsValue : ℕ → Value → Type 0
FitsValue w v = (n : ℕ) → out-Value v ≡ layer.Int (pos n) → n < 2 ^ (w - 1)

abbrev pub ArgumentsFit : ℕ → List Pair → Type 0
ArgumentsFit w ps = AllByRecursion (FitsValue w) (arguments ps)

-- ---- so a function on the numbers from 1 has no more of them than fit

is_number : (n : ℕ) (l : Layer Value) → is_int n l ≡ true → l ≡ layer.Int (pos n)
is_number n (layer.Int m) e = ap layer.Int ((Decides-int_eq m (pos n)).0 e)
is_number n (layer.Bool b) e = absurd (cc)
is_number n (layer.Text x) e = absurd (cc)
is_number n (layer.Set xs) e = absurd (cc)
is_number n (layer.Fun ps) e = absurd (cc)

some_one : (xs ys : List Value) → Some xs ≡ Some ys → xs ≡ ys
some_one xs ys e = cc

counted : (w k : ℕ) (ps : List Pair) (xs : List Value) → ArgumentsFit w ps → k ≤ 2 ^ (w - 1) →
    items_from k ps ≡ Some xs →
    k + length xs ≤ 2 ^ (w - 1)
counted w k [] xs h le e = let n = ap length (some_one [] xs e) in omega arith
counted w k (p ∷ ps) xs h le e = here (is_int k (out-Value p.0)) refl e (λ ys. counted w (k + 1) ps ys h.1)
  where
    more : k < 2 ^ (w - 1) → (o : Option (List Value)) → items_from (k + 1) ps ≡ o →
        option_map (λ (ys : List Value). p.1 ∷ ys) o ≡ Some xs →
        ((ys : List Value) → k + 1 ≤ 2 ^ (w - 1) → items_from (k + 1) ps ≡ Some ys → k + 1 + length ys ≤ 2 ^ (w - 1)) →
        k + length xs ≤ 2 ^ (w - 1)
    more lt None is f rest = absurd (cc)
    more lt (Some ys) is f rest = let n = ap length (some_one (p.1 ∷ ys) xs f) in let m = rest ys (omega arith) is in
        omega arith

    here : (b : Bool) → is_int k (out-Value p.0) ≡ b →
        (if b then option_map (λ (ys : List Value). p.1 ∷ ys) (items_from (k + 1) ps) else None) ≡ Some xs →
        ((ys : List Value) → k + 1 ≤ 2 ^ (w - 1) → items_from (k + 1) ps ≡ Some ys → k + 1 + length ys ≤ 2 ^ (w - 1)) →
        k + length xs ≤ 2 ^ (w - 1)
    here false is f rest = absurd (cc)
    here true is f rest = more (h.0 k (is_number k (out-Value p.0) is)) (items_from (k + 1) ps) refl f rest

domain_fits : (w : ℕ) (p : Place) (ps : List Pair) → ArgumentsFit w ps → (o : Option (List Value)) → items_of ps ≡ o →
    domain (Some w) p ps o ≡ Val (value.Set (arguments ps))
domain_fits w p ps h None e = refl
domain_fits w p ps h (Some xs) e =
    let some = pow_pos (w - 1) in
    let n = counted w 1 ps xs h (omega arith) e in
    ap (λ (b : Bool). if b then Val (value.Set (arguments ps)) else Big p)
    (lt-ltb (length xs) (2 ^ (w - 1)) (omega arith))

pub row_domain_fits : (w : ℕ) (p : Place) (v : Value) → IsMapping v → ArgumentsFit w (pairs_of v) →
    table (Some w) p op.Domain (v ∷ []) ≡ Val (value.Set (arguments (pairs_of v)))
row_domain_fits w p v h fit = row_domain (Some w) p v h ∙ domain_fits w p (pairs_of v) fit (items_of (pairs_of v)) refl

-- ---- the arguments are values of cells, or texts

not_number : (v : Value) (l : Layer Value) (w : ℕ) → out-Value v ≡ l → ((n : ℕ) → l ≡ layer.Int (pos n) → ⊥) →
    FitsValue w v
not_number v l w e h = λ n f. absurd (h n (sym e ∙ f))

kind_fits : (ts : List (List ℕ)) (a : List Bool) (of : CellId → Value) (w : ℕ) (k : CellKind) → 0 < w → IsFormed w k →
    FitsValue w (kind_value ts a of k)
kind_fits ts a of w (Bit l) some h = not_number _ _ w (outs-Bool _) (λ n e. cc)
kind_fits ts a of w (Word v) some h = λ n e.
    let same : word_value v a ≡ pos n = ap int_here (sym (outs-Int (word_value v a)) ∙ e) in
    let fits : fits_width w (word_value v a) ≡ true =
    fits_own w (values v a) some (length-map v (λ l. lit_value l a) ∙ h) in
    ltb-true n (2 ^ (w - 1)) (sym (ap (fits_width w) same) ∙ fits)
kind_fits ts a of w (Text v) some h = not_number _ _ w (outs-Text _) (λ n e. cc)
kind_fits ts a of w (Set es) some h = not_number _ _ w (outs-Set _) (λ n e. cc)
kind_fits ts a of w (Fun es) some h = not_number _ _ w (outs-Fun _) (λ n e. cc)
kind_fits ts a of w (Rec fs) some h = not_number _ _ w (outs-Fun _) (λ n e. cc)
kind_fits ts a of w (Tup ps) some h = not_number _ _ w (outs-Fun _) (λ n e. cc)
kind_fits ts a of w (Seq v ps) some h = not_number _ _ w (outs-Fun _) (λ n e. cc)

pub cell_fits : (c : Cells) (a : List Bool) (id : CellId) → WellBuilt c → id.index < length c.kinds →
    FitsValue c.width (decode c a id)
cell_fits c a id built lt =
    let narrow = built.narrow.0 in
    subst (FitsValue c.width) (sym (decode-kind c a id built lt))
    (kind_fits c.texts a (decode c a) c.width (kind_at c.kinds id) (omega arith) (built.held id lt).formed)

abbrev Arrow : Type 0
Arrow = Lit × CellId × CellId

arrows_fit : (w : ℕ) (a : List Bool) (of : CellId → Value) (es : List Arrow) →
    AllByRecursion (λ (e : Arrow). FitsValue w (of e.1)) es →
    ArgumentsFit w (present_pairs a of es)
arrows_fit w a of [] h = tt
arrows_fit w a of (e ∷ es) h = split (lit_value e.0 a) (arrows_fit w a of es h.1)
  where
    split : (t : Bool) → ArgumentsFit w (present_pairs a of es) →
        ArgumentsFit w (map (λ (d : Arrow). (of d.1, of d.2))
        (cond t (e ∷ filter (λ d. lit_value d.0 a) es) (filter (λ d. lit_value d.0 a) es)))
    split true k = (h.0, k)
    split false k = k

by_recursion : {X : Type 0} (P : X → Type 0) (xs : List X) → ((i : ℕ) (d : X) → i < length xs → P (get_or xs i d)) →
    AllByRecursion P xs
by_recursion P [] h = tt
by_recursion P (x ∷ xs) h = (h 0 x (omega arith), by_recursion P xs (λ i d lt. h (suc i) d (omega arith)))

fields_fit : (w : ℕ) (of : CellId → Value) (fs : List (List ℕ × CellId)) → ArgumentsFit w (field_pairs of fs)
fields_fit w of [] = tt
fields_fit w of (f ∷ fs) = (not_number _ _ w (outs-Text f.0) (λ n e. cc), fields_fit w of fs)

function_fits : (w : ℕ) (v : Value) (ps : List Pair) → v ≡ value.Fun (function_of ps) → ArgumentsFit w ps →
    ArgumentsFit w (pairs_of v)
function_fits w v ps e h =
    subst (λ (xs : List Value). AllByRecursion (FitsValue w) xs)
    (sym (ap (λ (u : Value). arguments (pairs_of u)) e
    ∙ (ap arguments (pairs-fun (function_of ps)) ∙ arguments_function ps)))
    (all_set_of (FitsValue w) (arguments ps) h)

pub function_arguments_fit : (c : Cells) (a : List Bool) (f : CellId) (s t : Sort) → WellBuilt c →
    OfSort c.kinds (function_sort s t) f →
    ArgumentsFit c.width (pairs_of (decode c a f))
function_arguments_fit c a f s t built h =
    let k = is-function (OfSort c.kinds s) (OfSort c.kinds t) (kind_at c.kinds f) h.1 in
    let older : RefersBelow f.index (Fun k.0) = subst (RefersBelow f.index) k.1 (built.held f h.0).older in
    function_fits c.width (decode c a f) (present_pairs a (decode c a) k.0) (by_kind c a f (Fun k.0) built h.0 k.1)
    (arrows_fit c.width a (decode c a) k.0
    (by_recursion (λ (e : Arrow). FitsValue c.width (decode c a e.1)) k.0
    (λ i d lt. let below = (older i d lt).0 in let there = h.0 in
    cell_fits c a (get_or k.0 i d).1 built (omega arith))))

pub record_arguments_fit : (c : Cells) (a : List Bool) (f : CellId) (names : List (List ℕ)) (s : ℕ → Sort) →
    WellBuilt c →
    OfSort c.kinds (record_of names s) f → ArgumentsFit c.width (pairs_of (decode c a f))
record_arguments_fit c a f names s built h =
    let k = is-record names (λ i. OfSort c.kinds (s i)) (kind_at c.kinds f) h.1 in
    function_fits c.width (decode c a f) (field_pairs (decode c a) k.0) (by_kind c a f (Rec k.0) built h.0 k.1)
    (fields_fit c.width (decode c a) k.0)
