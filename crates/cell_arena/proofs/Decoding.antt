-- What a cell decodes to as cells are added.
use Rattle.std.proofs.Common.{◌≡◌, ℕ, suc, ◌+◌, ◌<◌, Bool, true, false, cond, List, [], ◌∷◌, ◌++◌, length, take, drop, map, All, get_or, refl, sym, ◌∙◌, ap, arith, append_assoc, drop-cons}
use Rattle.std.specs.Prelude.{filter}
use Rattle.std.specs.List.{fold}
use Rattle.std.proofs.lemmas.List.{get_or_append_left, append-nil, length_push, get_or_push, take-append-drop, length-take-le}
use Rattle.std.proofs.lemmas.List.Sums.{fold-append}
use Rattle.std.proofs.lemmas.List.Elements.{All-head, All-tail}
use Rattle.sat_formula.specs.Lit.{lit_value}
use Rattle.word_blaster.specs.Word.{word_value}
use Rattle.tla_values.specs.declared.value.Value.{Value}
use Rattle.tla_values.specs.declared.value.Value.TheVariants as value
use Rattle.tla_values.specs.Sets.{set_of, function_of}
use Rattle.tla_values.specs.Sequences.{sequence}
use Rattle.cell_arena.specs.declared.kinds.CellId.{CellId}
use Rattle.cell_arena.specs.declared.kinds.CellKind.{CellKind}
use Rattle.cell_arena.specs.declared.kinds.CellKind.TheVariants.{Bit, Word, Text, Set, Fun, Rec, Tup, Seq}
use Rattle.cell_arena.specs.Cells.{Cells, WellBuilt, RefersBelow, kind_at}
use Rattle.cell_arena.specs.Decode.{first_places, kind_value, value_at, decode_all, decode}

abbrev step : List (List ℕ) → List Bool → List Value → CellKind → List Value
step ts a vs k = vs ++ kind_value ts a (value_at vs) k ∷ []

decode_all-append : (ts : List (List ℕ)) (ks ms : List CellKind) (a : List Bool) → decode_all ts (ks ++ ms) a ≡ fold (step ts a) (decode_all ts ks a) ms
unfolding decode_all
decode_all-append ts ks ms a = fold-append (step ts a) [] ks ms

-- the older values are the first
grown : (ts : List (List ℕ)) (a : List Bool) (vs : List Value) (ms : List CellKind) → (more : List Value) × ((fold (step ts a) vs ms ≡ vs ++ more) × (length more ≡ length ms))
grown ts a vs [] = ([], (sym (append-nil vs), refl))
grown ts a vs (k ∷ ms) =
    let v : Value = kind_value ts a (value_at vs) k in
    let rest = grown ts a (vs ++ v ∷ []) ms in
    (v ∷ rest.0, (rest.1.0 ∙ append_assoc vs (v ∷ []) rest.0, ap (λ (n : ℕ). suc n) rest.1.1))

decode_all-length : (ts : List (List ℕ)) (ks : List CellKind) (a : List Bool) → length (decode_all ts ks a) ≡ length ks
unfolding decode_all
decode_all-length ts ks a =
    let g = grown ts a [] ks in
    ap length g.1.0 ∙ g.1.1

-- the value of a cell among these texts and kinds
abbrev pub decoded : List (List ℕ) → List CellKind → List Bool → CellId → Value
decoded ts ks a id = value_at (decode_all ts ks a) id

-- an older cell keeps its value as cells are added
pub decoded-older : (ts : List (List ℕ)) (ks ms : List CellKind) (a : List Bool) (id : CellId) → id.index < length ks → decoded ts (ks ++ ms) a id ≡ decoded ts ks a id
decoded-older ts ks ms a id lt =
    let g = grown ts a (decode_all ts ks a) ms in
    let h : id.index < length (decode_all ts ks a) = rw (decode_all-length ts ks a) lt in
    ap (λ (vs : List Value). value_at vs id) (decode_all-append ts ks ms a ∙ g.1.0) ∙ get_or_append_left (decode_all ts ks a) g.0 (value.Bool false) id.index h

-- the newest cell has the value of its kind
decoded-newest : (ts : List (List ℕ)) (ks : List CellKind) (k : CellKind) (a : List Bool) (id : CellId) → id.index ≡ length ks → decoded ts (ks ++ k ∷ []) a id ≡ kind_value ts a (decoded ts ks a) k
decoded-newest ts ks k a id e =
    ap (λ (vs : List Value). value_at vs id) (decode_all-append ts ks (k ∷ []) a)
    ∙ get_or_push (decode_all ts ks a) (kind_value ts a (value_at (decode_all ts ks a)) k) (value.Bool false) id.index (decode_all-length ts ks a ∙ sym e)

-- two functions that agree on the items give one list of the kept items
pub map-agree : {X : Type 0} {Y : Type 0} (p : X → Bool) (f g : X → Y) (xs : List X) → All (λ x. f x ≡ g x) xs → map f (filter p xs) ≡ map g (filter p xs)
map-agree p f g [] h = refl
map-agree p f g (x ∷ xs) h =
    let here : f x ≡ g x = All-head (λ x. f x ≡ g x) x xs h in
    let rest = map-agree p f g xs (All-tail (λ x. f x ≡ g x) x xs h) in
    split (p x) here rest
  where
    split : (b : Bool) → f x ≡ g x → map f (filter p xs) ≡ map g (filter p xs) → map f (cond b (x ∷ filter p xs) (filter p xs)) ≡ map g (cond b (x ∷ filter p xs) (filter p xs))
    split true e q = ap (λ y. y ∷ map f (filter p xs)) e ∙ ap (λ l. g x ∷ l) q
    split false e q = q

map-all-agree : {X : Type 0} {Y : Type 0} (f g : X → Y) (xs : List X) → All (λ x. f x ≡ g x) xs → map f xs ≡ map g xs
map-all-agree f g [] h = refl
map-all-agree f g (x ∷ xs) h =
    let here : f x ≡ g x = All-head (λ x. f x ≡ g x) x xs h in
    let rest = map-all-agree f g xs (All-tail (λ x. f x ≡ g x) x xs h) in
    ap (λ y. y ∷ map f xs) here ∙ ap (λ l. g x ∷ l) rest

-- a kind reads the values of its cells alone
pub kind_value-agree : (ts : List (List ℕ)) (a : List Bool) (f g : CellId → Value) (n : ℕ) → ((id : CellId) → id.index < n → f id ≡ g id) → (k : CellKind) → RefersBelow n k → kind_value ts a f k ≡ kind_value ts a g k
kind_value-agree ts a f g n same (Bit l) h = refl
kind_value-agree ts a f g n same (Word w) h = refl
kind_value-agree ts a f g n same (Text w) h = refl
kind_value-agree ts a f g n same (Set es) h = ap (λ vs. value.Set (set_of vs)) (map-agree (λ e. lit_value e.0 a) (λ e. f e.1) (λ e. g e.1) es (λ i d lt. same (get_or es i d).1 (h i d lt)))
kind_value-agree ts a f g n same (Fun es) h =
    ap (λ vs. value.Fun (function_of vs)) (map-agree (λ e. lit_value e.0 a) (λ e. (f e.1, f e.2)) (λ e. (g e.1, g e.2)) es
    (λ i d lt. ap (λ v. (v, f (get_or es i d).2)) (same (get_or es i d).1 (h i d lt).0) ∙ ap (λ v. (g (get_or es i d).1, v)) (same (get_or es i d).2 (h i d lt).1)))
kind_value-agree ts a f g n same (Rec fs) h =
    ap (λ vs. value.Fun (function_of vs)) (map-all-agree (λ e. (value.Text e.0, f e.1)) (λ e. (value.Text e.0, g e.1)) fs
    (λ i d lt. ap (λ v. (value.Text (get_or fs i d).0, v)) (same (get_or fs i d).1 (h i d lt))))
kind_value-agree ts a f g n same (Tup ps) h = ap sequence (map-all-agree f g ps (λ i d lt. same (get_or ps i d) (h i d lt)))
kind_value-agree ts a f g n same (Seq w ps) h = ap (λ vs. sequence (first_places (word_value w a) vs)) (map-all-agree f g ps (λ i d lt. same (get_or ps i d) (h i d lt)))

decoded-kind : (ts : List (List ℕ)) (ks : List CellKind) (a : List Bool) (id : CellId) → id.index < length ks → RefersBelow id.index (kind_at ks id) → decoded ts ks a id ≡ kind_value ts a (decoded ts ks a) (kind_at ks id)
decoded-kind ts ks a id lt older =
    let i : ℕ = id.index in
    let k : CellKind = kind_at ks id in
    let front : List CellKind = take i ks in
    let m : length front ≡ i = length-take-le i ks (omega arith) in
    let whole : front ++ k ∷ drop (suc i) ks ≡ ks =
    ap (λ l. front ++ l) (sym (drop-cons ks i (Bit (record { var = 0; neg = false })) lt)) ∙ take-append-drop i ks in
    let parts : (front ++ k ∷ []) ++ drop (suc i) ks ≡ ks = append_assoc front (k ∷ []) (drop (suc i) ks) ∙ whole in
    let pushed : length (front ++ k ∷ []) ≡ i + 1 = length_push front k ∙ ap (λ (n : ℕ). n + 1) m in
    let e1 : decoded ts ks a id ≡ decoded ts (front ++ k ∷ []) a id =
    ap (λ l. decoded ts l a id) (sym parts) ∙ decoded-older ts (front ++ k ∷ []) (drop (suc i) ks) a id (omega arith) in
    let e2 : decoded ts (front ++ k ∷ []) a id ≡ kind_value ts a (decoded ts front a) k = decoded-newest ts front k a id (sym m) in
    let e3 : kind_value ts a (decoded ts front a) k ≡ kind_value ts a (decoded ts ks a) k =
    kind_value-agree ts a (decoded ts front a) (decoded ts ks a) i
    (λ j jlt. sym (ap (λ l. decoded ts l a j) (sym whole) ∙ decoded-older ts front (k ∷ drop (suc i) ks) a j (omega arith))) k older in
    e1 ∙ e2 ∙ e3

-- each cell has the value of its kind
pub decode-kind : (c : Cells) (a : List Bool) (id : CellId) → WellBuilt c → id.index < length c.kinds → decode c a id ≡ kind_value c.texts a (decode c a) (kind_at c.kinds id)
unfolding decode
decode-kind c a id built lt = decoded-kind c.texts c.kinds a id lt (built.held id lt).older

-- an older cell keeps its value in an arena that begins with these cells
pub decode-older : (c d : Cells) (more : List CellKind) (a : List Bool) (id : CellId) → d.kinds ≡ c.kinds ++ more → d.texts ≡ c.texts → id.index < length c.kinds → decode d a id ≡ decode c a id
unfolding decode
decode-older c d more a id e t lt =
    ap (λ ks. decoded d.texts ks a id) e ∙ ap (λ ts. decoded ts (c.kinds ++ more) a id) t ∙ decoded-older c.texts c.kinds more a id lt

-- the newest cell has the value of its kind
pub decode-newest : (c d : Cells) (k : CellKind) (a : List Bool) (id : CellId) → d.kinds ≡ c.kinds ++ k ∷ [] → d.texts ≡ c.texts → id.index ≡ length c.kinds → decode d a id ≡ kind_value c.texts a (decode c a) k
unfolding decode
decode-newest c d k a id e t n =
    ap (λ ks. decoded d.texts ks a id) e ∙ ap (λ ts. decoded ts (c.kinds ++ k ∷ []) a id) t ∙ decoded-newest c.texts c.kinds k a id n

pub ruleset decoding = (decode-kind)
