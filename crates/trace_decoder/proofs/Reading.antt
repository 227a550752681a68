-- Edges, fields and parts read one by one.
use Rattle.std.proofs.Common.{◌≡◌, ℕ, zero, suc, ◌+◌, ◌<◌, ◌≤◌, Bool, true, false, cond, List, [], ◌∷◌, ◌++◌, length, map, max, take, get_or, All, refl, sym, ◌∙◌, ap, ap₂, subst, arith, pos, ℤ, to_z, of_z}
use Rattle.std.specs.Prelude.{filter, ◌+ℤ◌}
use Rattle.std.specs.Int.{w128}
use Rattle.std.proofs.lemmas.List.{length-map, take_all, take_more}
use Rattle.std.proofs.lemmas.Int.{ints, to_z-of_z, to_z_pos}
use Rattle.sat_formula.specs.declared.lit.Lit.{Lit}
use Rattle.sat_formula.specs.Lit.{lit_value}
use Rattle.word_blaster.specs.Word.{word_value}
use Rattle.tla_values.specs.declared.value.Value.{Value}
use Rattle.tla_values.specs.declared.value.Value.TheVariants as value
use Rattle.tla_values.specs.Sequences.{numbered}
use Rattle.cell_arena.specs.declared.kinds.CellId.{CellId}
use Rattle.cell_arena.specs.declared.kinds.CellKind.{CellKind}
use Rattle.cell_arena.specs.declared.kinds.CellKind.TheVariants.{Set, Fun, Rec, Tup, Seq}
use Rattle.cell_arena.specs.Cells.{RefersBelow}
use Rattle.cell_arena.specs.Decode.{first_places, kind_value, present, present_pairs}
use Rattle.trace_decoder.specs.inner.Known.{above}

-- ---- the measure: what edges lead to is older

pub above-under : {X : Type 0} (f : X → ℕ) (n : ℕ) (xs : List X) → All (λ x. f x < n) xs → above (map f xs) ≤ n
above-under f n [] h = omega arith
above-under f n (x ∷ xs) h =
    let here = h zero x (omega arith) in
    let rest = above-under f n xs (λ i d lt. h (suc i) d (omega arith)) in
    omega (arith, here, rest)

pub above-read : {X : Type 0} (f : X → ℕ) (xs : List X) (i : ℕ) (d : X) → i < length xs → f (get_or xs i d) < above (map f xs)
above-read f [] i d lt = absurd (omega arith)
above-read f (x ∷ xs) zero d lt = omega arith
above-read f (x ∷ xs) (suc i) d lt = let rest = above-read f xs i d (omega arith) in omega (arith, rest)

-- an item that was read at an index
pub read-below : {X : Type 0} (f : X → ℕ) (n : ℕ) (xs : List X) (i : ℕ) (x : X) → x ≡ get_or xs i x → i < length xs → All (λ x. f x < n) xs → f x < n
read-below f n xs i x e lt h = rw (← e) at (h i x lt)

pub read-above : {X : Type 0} (f : X → ℕ) (xs : List X) (i : ℕ) (x : X) → x ≡ get_or xs i x → i < length xs → f x < above (map f xs)
read-above f xs i x e lt = rw (← e) at (above-read f xs i x lt)

-- ---- what a kind leads to

pub set-older : (n : ℕ) (k : CellKind) (es s : List (Lit × CellId)) → RefersBelow n k → k ≡ Set es → s ≡ es → All (λ e. e.1.index < n) s
set-older n k es s h e q = rw q (let P : CellKind → Type 0 = RefersBelow n in subst P e h)

pub fun-older : (n : ℕ) (k : CellKind) (es s : List (Lit × CellId × CellId)) → RefersBelow n k → k ≡ Fun es → s ≡ es → All (λ e. (e.1.index < n) × (e.2.index < n)) s
fun-older n k es s h e q = rw q (let P : CellKind → Type 0 = RefersBelow n in subst P e h)

pub rec-older : (n : ℕ) (k : CellKind) (fs s : List (List ℕ × CellId)) → RefersBelow n k → k ≡ Rec fs → s ≡ fs → All (λ f. f.1.index < n) s
rec-older n k fs s h e q = rw q (let P : CellKind → Type 0 = RefersBelow n in subst P e h)

pub tup-older : (n : ℕ) (k : CellKind) (ps s : List CellId) → RefersBelow n k → k ≡ Tup ps → s ≡ ps → All (λ p. p.index < n) s
tup-older n k ps s h e q = rw q (let P : CellKind → Type 0 = RefersBelow n in subst P e h)

pub seq-older : (n : ℕ) (k : CellKind) (w : List Lit) (ps s : List CellId) → RefersBelow n k → k ≡ Seq w ps → s ≡ ps → All (λ p. p.index < n) s
seq-older n k w ps s h e q = rw q (let P : CellKind → Type 0 = RefersBelow n in subst P e h)

-- ---- one more that is read

filter-end : {X : Type 0} (p : X → Bool) (xs : List X) (x : X) → filter p (xs ++ x ∷ []) ≡ filter p xs ++ cond (p x) (x ∷ []) []
filter-end p [] x = refl
filter-end p (y ∷ ys) x = split (p y) (filter-end p ys x)
  where
    split : (b : Bool) → filter p (ys ++ x ∷ []) ≡ filter p ys ++ cond (p x) (x ∷ []) [] →
        cond b (y ∷ filter p (ys ++ x ∷ [])) (filter p (ys ++ x ∷ [])) ≡ cond b (y ∷ filter p ys) (filter p ys) ++ cond (p x) (x ∷ []) []
    split true h = ap (λ l. y ∷ l) h
    split false h = h

map-end : {X Y : Type 0} (f : X → Y) (xs ys : List X) → map f (xs ++ ys) ≡ map f xs ++ map f ys
map-end f [] ys = refl
map-end f (x ∷ xs) ys = ap (λ l. f x ∷ l) (map-end f xs ys)

module _ {X Y : Type 0} (p : X → Bool) (f : X → Y) (xs : List X) (i : ℕ) (d : X) (lt : i < length xs) (out : List Y) (done : out ≡ map f (filter p (take i xs))) where
  more : map f (filter p (take (i + 1) xs)) ≡ map f (filter p (take i xs)) ++ map f (cond (p (get_or xs i d)) (get_or xs i d ∷ []) [])
  more =
      ap (λ l. map f (filter p l)) (take_more xs i d lt) ∙ ap (map f) (filter-end p (take i xs) (get_or xs i d))
      ∙ map-end f (filter p (take i xs)) (cond (p (get_or xs i d)) (get_or xs i d ∷ []) [])

  pub counted : (new : List Y) (y : Y) → p (get_or xs i d) ≡ true → y ≡ f (get_or xs i d) → new ≡ out ++ y ∷ [] → new ≡ map f (filter p (take (i + 1) xs))
  counted new y t e q =
      q ∙ ap₂ (λ (l : List Y) (z : Y). l ++ z ∷ []) done e
      ∙ sym (more ∙ ap (λ (b : Bool). map f (filter p (take i xs)) ++ map f (cond b (get_or xs i d ∷ []) [])) t)

  pub passed : (new : List Y) → p (get_or xs i d) ≡ false → new ≡ out → new ≡ map f (filter p (take (i + 1) xs))
  passed new t q =
      q ∙ done ∙ sym (more ∙ ap (λ (b : Bool). map f (filter p (take i xs)) ++ map f (cond b (get_or xs i d ∷ []) [])) t ∙ nothing (map f (filter p (take i xs))))
    where
      nothing : (l : List Y) → l ++ [] ≡ l
      nothing [] = refl
      nothing (x ∷ xs) = ap (λ l. x ∷ l) (nothing xs)

-- ---- items at their numbers

numbered-end : (n : ℕ) (vs : List Value) (v : Value) → numbered n (vs ++ v ∷ []) ≡ numbered n vs ++ (value.Int (pos (n + length vs)), v) ∷ []
numbered-end n [] v = ap (λ (k : ℕ). (value.Int (pos k), v) ∷ []) (omega arith)
numbered-end n (u ∷ us) v =
    ap (λ l. (value.Int (pos n), u) ∷ l) (numbered-end (n + 1) us v ∙ ap (λ (k : ℕ). numbered (n + 1) us ++ (value.Int (pos k), v) ∷ []) (omega arith))

pub item-number : (i n : ℕ) → i < n → n < 18446744073709551616 → to_z w128 (of_z w128 (to_z w128 i +ℤ pos 1)) ≡ pos (i + 1)
item-number i n lt few =
    let x : to_z w128 i ≡ pos i = to_z_pos w128 i (omega arith) in
    to_z-of_z w128 (to_z w128 i +ℤ pos 1) (rw x (omega (arith, ints, few))) ∙ ap (λ (m : ℤ). m +ℤ pos 1) x

pub item-more : (of : CellId → Value) (ps : List CellId) (i : ℕ) (d : CellId) (out new : List (Value × Value)) (k : ℤ) (v : Value) → i < length ps →
    out ≡ numbered 1 (take i (map of ps)) → k ≡ pos (i + 1) → v ≡ of (get_or ps i d) → new ≡ out ++ (value.Int k, v) ∷ [] →
    new ≡ numbered 1 (take (i + 1) (map of ps))
item-more of ps i d out new k v lt done e q made =
    made ∙ ap₂ (λ l z. l ++ z ∷ []) done (ap₂ (λ (m : ℤ) (z : Value). (value.Int m, z)) e q) ∙ sym whole
  where
    long : length (map of ps) ≡ length ps
    long = length-map ps of

    front : take (i + 1) (map of ps) ≡ take i (map of ps) ++ of (get_or ps i d) ∷ []
    front = take_more (map of ps) i (of d) (rw long lt) ∙ ap (λ (z : Value). take i (map of ps) ++ z ∷ []) (at ps i lt)
      where
        at : (ps : List CellId) (i : ℕ) → i < length ps → get_or (map of ps) i (of d) ≡ of (get_or ps i d)
        at [] i lt = absurd (omega arith)
        at (p ∷ ps) zero lt = refl
        at (p ∷ ps) (suc i) lt = at ps i (omega arith)

    count : 1 + length (take i (map of ps)) ≡ i + 1
    count = go (map of ps) i (omega (arith, long))
      where
        go : (vs : List Value) (i : ℕ) → i ≤ length vs → 1 + length (take i vs) ≡ i + 1
        go vs zero le = refl
        go [] (suc i) le = absurd (omega arith)
        go (v ∷ vs) (suc i) le = let r = go vs i (omega arith) in omega (arith, r)

    whole : numbered 1 (take (i + 1) (map of ps)) ≡ numbered 1 (take i (map of ps)) ++ (value.Int (pos (i + 1)), of (get_or ps i d)) ∷ []
    whole =
        ap (numbered 1) front ∙ numbered-end 1 (take i (map of ps)) (of (get_or ps i d))
        ∙ ap (λ (n : ℕ). numbered 1 (take i (map of ps)) ++ (value.Int (pos n), of (get_or ps i d)) ∷ []) count

-- ---- tuples and sequences

module _ (ts : List (List ℕ)) (a : List Bool) (of : CellId → Value) (v : Value) (k : CellKind) (ps s : List CellId) (n : ℕ) (out : List (Value × Value))
    (is : v ≡ kind_value ts a of k) (slice : s ≡ ps) (made : out ≡ numbered 1 (take n (map of s))) where
  pub tuple-made : k ≡ Tup ps → n ≡ length ps → value.Fun out ≡ v
  tuple-made e q =
      let P : CellKind → Value = kind_value ts a of in
      let l = length-map ps of in
      ap value.Fun (made ∙ ap (λ (l : List CellId). numbered 1 (take n (map of l))) slice ∙ ap (numbered 1) (take_all n (map of ps) (omega (arith, l, q))))
      ∙ sym (is ∙ ap P e)

  pub sequence-made : (w : List Lit) (m : ℤ) (places : ℕ) → k ≡ Seq w ps → m ≡ word_value w a → places ≡ length ps →
      ((vs : List Value) → length vs ≡ places → take n vs ≡ first_places m vs) → value.Fun out ≡ v
  sequence-made w m places e f q first =
      let P : CellKind → Value = kind_value ts a of in
      ap value.Fun (made ∙ ap (λ (l : List CellId). numbered 1 (take n (map of l))) slice
      ∙ ap (numbered 1) (first (map of ps) (length-map ps of ∙ sym q) ∙ ap (λ (i : ℤ). first_places i (map of ps)) f))
      ∙ sym (is ∙ ap P e)
