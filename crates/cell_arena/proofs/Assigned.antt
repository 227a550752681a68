-- What a cell decodes to under a longer assignment.
use Rattle.std.proofs.Common.{◌≡◌, ℕ, Bool, cond, List, [], ◌∷◌, ◌++◌, length, map, All, get_or, refl, ◌∙◌, ap}
use Rattle.std.specs.Prelude.{filter}
use Rattle.std.specs.List.{fold}
use Rattle.std.proofs.lemmas.List.Elements.{All-head, All-tail}
use Rattle.sat_formula.specs.declared.lit.Lit.{Lit}
use Rattle.sat_formula.specs.Lit.{lit_value, IsBelow}
use Rattle.sat_formula.proofs.Extension.{lit_value-append}
use Rattle.word_blaster.specs.Word.{word_value, signed, values, WordBelow}
use Rattle.tla_values.specs.declared.value.Value.{Value}
use Rattle.tla_values.specs.declared.value.Value.TheVariants as value
use Rattle.tla_values.specs.Sets.{set_of, function_of}
use Rattle.tla_values.specs.Sequences.{sequence}
use Rattle.cell_arena.specs.declared.kinds.CellId.{CellId}
use Rattle.cell_arena.specs.declared.kinds.CellKind.{CellKind}
use Rattle.cell_arena.specs.declared.kinds.CellKind.TheVariants.{Bit, Word, Text, Set, Fun, Rec, Tup, Seq}
use Rattle.cell_arena.specs.Cells.{Cells, NamesBelow}
use Rattle.cell_arena.specs.Decode.{first_places, text_at, kind_value, value_at, decode_all, decode}

-- two tests that agree on the items keep the same
filter-agree : {X : Type 0} (p q : X → Bool) (xs : List X) → All (λ x. p x ≡ q x) xs → filter p xs ≡ filter q xs
filter-agree p q [] h = refl
filter-agree p q (x ∷ xs) h =
    let here : p x ≡ q x = All-head (λ x. p x ≡ q x) x xs h in
    let rest = filter-agree p q xs (All-tail (λ x. p x ≡ q x) x xs h) in
    ap (λ b. cond b (x ∷ filter p xs) (filter p xs)) here ∙ ap (λ l. cond (q x) (x ∷ l) l) rest

-- literals of the first variables
pub values-append : (w : List Lit) (a b : List Bool) → All (IsBelow (length a)) w → values w (a ++ b) ≡ values w a
values-append [] a b h = refl
values-append (l ∷ w) a b h =
    let p = lit_value-append l a b (All-head (IsBelow (length a)) l w h) in
    let q = values-append w a b (All-tail (IsBelow (length a)) l w h) in
    ap (λ t. t ∷ values w (a ++ b)) p ∙ ap (λ ts. lit_value l a ∷ ts) q

pub word_value-append : (w : List Lit) (a b : List Bool) → WordBelow (length a) w → word_value w (a ++ b) ≡ word_value w a
unfolding WordBelow
word_value-append w a b h = ap signed (values-append w a b h)

kind_value-append : (ts : List (List ℕ)) (a b : List Bool) (f : CellId → Value) (k : CellKind) → NamesBelow (length a) k → kind_value ts (a ++ b) f k ≡ kind_value ts a f k
kind_value-append ts a b f (Bit l) h = ap (λ v. value.Bool v) (lit_value-append l a b h)
kind_value-append ts a b f (Word w) h = ap (λ v. value.Int v) (word_value-append w a b h)
kind_value-append ts a b f (Text w) h = ap (λ v. value.Text (text_at ts v)) (word_value-append w a b h)
kind_value-append ts a b f (Set es) h =
    ap (λ l. value.Set (set_of (map (λ e. f e.1) l))) (filter-agree (λ e. lit_value e.0 (a ++ b)) (λ e. lit_value e.0 a) es (λ i d lt. lit_value-append (get_or es i d).0 a b (h i d lt)))
kind_value-append ts a b f (Fun es) h =
    ap (λ l. value.Fun (function_of (map (λ e. (f e.1, f e.2)) l))) (filter-agree (λ e. lit_value e.0 (a ++ b)) (λ e. lit_value e.0 a) es (λ i d lt. lit_value-append (get_or es i d).0 a b (h i d lt)))
kind_value-append ts a b f (Rec fs) h = refl
kind_value-append ts a b f (Tup ps) h = refl
kind_value-append ts a b f (Seq w ps) h = ap (λ v. sequence (first_places v (map f ps))) (word_value-append w a b h)

abbrev step : List (List ℕ) → List Bool → List Value → CellKind → List Value
step ts a vs k = vs ++ kind_value ts a (value_at vs) k ∷ []

fold-append-bits : (ts : List (List ℕ)) (a b : List Bool) (vs : List Value) (ks : List CellKind) → All (NamesBelow (length a)) ks → fold (step ts (a ++ b)) vs ks ≡ fold (step ts a) vs ks
fold-append-bits ts a b vs [] h = refl
fold-append-bits ts a b vs (k ∷ ks) h =
    let p = kind_value-append ts a b (value_at vs) k (All-head (NamesBelow (length a)) k ks h) in
    ap (λ v. fold (step ts (a ++ b)) (vs ++ v ∷ []) ks) p ∙ fold-append-bits ts a b (step ts a vs k) ks (All-tail (NamesBelow (length a)) k ks h)

-- a cell keeps its value as the assignment grows
pub decode-append : (c : Cells) (a b : List Bool) (id : CellId) → All (NamesBelow (length a)) c.kinds → decode c (a ++ b) id ≡ decode c a id
unfolding decode decode_all
decode-append c a b id h = ap (λ vs. value_at vs id) (fold-append-bits c.texts a b [] c.kinds h)
