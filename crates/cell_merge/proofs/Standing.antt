-- The items of sets and functions: their sorts and values, and which of them stand.
use Rattle.std.proofs.Common.{◌≡◌, ℕ, ◌+◌, ◌<◌, ◌≤◌, Bool, true, false, not, cond, ◌&&◌, ◌||◌, List, [], ◌∷◌, ◌++◌, map, length, take, get_or, All, Some, None, refl, ap, ◌∙◌, sym, subst, arith}
use Rattle.std.specs.Prelude.{filter, if◌then◌else◌}
use Rattle.std.specs.List.{list_all}
use Rattle.std.proofs.lemmas.List.{length-map, get_or-map, map_more, take_more, take_all, take-map, map-append, length-take-le, length_push}
use Rattle.std.proofs.lemmas.List.Elements.{filter-append, All-nil}
use Rattle.sat_formula.specs.declared.lit.Lit.{Lit}
use Rattle.sat_formula.specs.declared.cnf.Cnf.{Cnf}
use Rattle.sat_formula.specs.Lit.{lit_value, values, IsBelow}
use Rattle.sat_formula.specs.Formula.{Grows as FormulaGrows, HasValue}
use Rattle.sat_formula.proofs.Extension.{Satisfies-older}
use Rattle.tla_values.specs.Order.{same_value}
use Rattle.tla_values.specs.Sets.{apply, arguments, set_of, member, subset}
use Rattle.tla_values.specs.declared.value.Value.{Value}
use Rattle.tla_values.specs.declared.value.Value.TheVariants as value
use Rattle.tla_values.proofs.Extensional.{same_value-sets, member-set_of}
use Rattle.tla_values.proofs.Members.{list_all-set_of}
use Rattle.cell_arena.specs.declared.kinds.CellId.{CellId}
use Rattle.cell_arena.specs.declared.kinds.CellKind.{CellKind}
use Rattle.cell_arena.specs.declared.kinds.CellKind.TheVariants.{Bit, Word, Text, Set, Fun, Rec, Tup, Seq}
use Rattle.cell_arena.specs.Cells.{Cells, WellBuilt, kind_at}
use Rattle.cell_arena.specs.Decode.{decode, kind_value, present, present_pairs}
use Rattle.cell_arena.proofs.Decoding.{decode-kind}
use Rattle.cell_merge.specs.Sorts.{Sort, truth, number, name, set_of as set_sort, function_of as function_sort, sequence_of as sequence_sort, record_of, tuple_of, OfSort, IsSet, IsFunction, OneType}
use Rattle.cell_merge.specs.Arrows.{argument_edges}
use Rattle.cell_merge.specs.Edges.{any_edge}
use Rattle.cell_merge.specs.inner.Items.{HasItems, ItemsOfOneType, ItemsAlike, heads_of, head_of, tail_of, item_value, item_at, items, pair_value, stands_at, kept, gives, IsGraph, AreStanding, TellStanding}
use Rattle.cell_merge.proofs.Edges.{is-bit, is-word, is-text, is-set, is-function, is-sequence, is-record, is-tuple, sort-there}
use Rattle.cell_merge.proofs.Tested.{named-push, named-later}
use Rattle.cell_merge.proofs.Unions.{any-more}
use Rattle.cell_merge.proofs.Graphs.{Pair, of_pair, pair-same, with_pair, graph-more, same-graphs}
use Rattle.cell_merge.proofs.Along.{values-push}

abbrev Edge : Type 0
Edge = Lit × CellId

abbrev Arrow : Type 0
Arrow = Lit × CellId × CellId

abbrev none-id : CellId
none-id = record { index = 0 }

abbrev none-edge : Edge
none-edge = (record { var = 0; neg = false }, none-id)

abbrev none-arrow : Arrow
none-arrow = (record { var = 0; neg = false }, none-id, none-id)

-- ---- items of a kind

pub no-heads : (k : CellKind) → ((es : List Edge) → k ≡ Set es → ⊥) → ((es : List Arrow) → k ≡ Fun es → ⊥) → heads_of k ≡ []
no-heads (Bit l) s f = refl
no-heads (Word w) s f = refl
no-heads (Text w) s f = refl
no-heads (Set es) s f = absurd (s es refl)
no-heads (Fun es) s f = absurd (f es refl)
no-heads (Rec fs) s f = refl
no-heads (Tup ps) s f = refl
no-heads (Seq w ps) s f = refl

pub length-items : (of : CellId → Value) (k : CellKind) → length (items of k) ≡ length (heads_of k)
length-items of (Bit l) = refl
length-items of (Word w) = refl
length-items of (Text w) = refl
length-items of (Set es) = length-map es (λ (e : Edge). of e.1)
length-items of (Fun es) = length-map es (λ (e : Arrow). pair_value (of e.1) (of e.2)) ∙ sym (length-map es (λ (e : Arrow). (e.0, e.1)))
length-items of (Rec fs) = refl
length-items of (Tup ps) = refl
length-items of (Seq w ps) = refl

arguments-long : (es : List Arrow) → length (argument_edges es) ≡ length es
arguments-long es = length-map es (λ (e : Arrow). (e.0, e.1))

arrow-head : (es : List Arrow) (n : ℕ) → n < length (argument_edges es) → get_or (argument_edges es) n none-edge ≡ ((get_or es n none-arrow).0, (get_or es n none-arrow).1)
arrow-head es n lt = get_or-map (λ (e : Arrow). (e.0, e.1)) es n none-arrow none-edge (let q : length (argument_edges es) ≡ length es = arguments-long es in omega arith)

pub item-at : (of : CellId → Value) (k : CellKind) (n : ℕ) (d : Value) → n < length (heads_of k) → get_or (items of k) n d ≡ item_at of k n
item-at of (Bit l) n d lt = absurd (omega arith)
item-at of (Word w) n d lt = absurd (omega arith)
item-at of (Text w) n d lt = absurd (omega arith)
item-at of (Set es) n d lt = get_or-map (λ (e : Edge). of e.1) es n none-edge d lt
item-at of (Fun es) n d lt =
    let le : n < length es = let q : length (argument_edges es) ≡ length es = arguments-long es in omega arith in
    get_or-map (λ (e : Arrow). pair_value (of e.1) (of e.2)) es n none-arrow d le
    ∙ sym (ap (λ (h : Edge). pair_value (of h.1) (of (get_or (map (λ (e : Arrow). e.2) es) n none-id))) (arrow-head es n lt)
    ∙ ap (λ (r : CellId). pair_value (of (get_or es n none-arrow).1) (of r)) (get_or-map (λ (e : Arrow). e.2) es n none-arrow none-id le))
item-at of (Rec fs) n d lt = absurd (omega arith)
item-at of (Tup ps) n d lt = absurd (omega arith)
item-at of (Seq w ps) n d lt = absurd (omega arith)

-- ---- sorts

pub by-items : (ks : List CellKind) (s : Sort) (id : CellId) (M : Sort → CellKind → Type 0)
    → ((t : Sort) (es : List Edge) → All (λ (e : Edge). OfSort ks t e.1) es → M (set_sort t) (Set es))
    → ((t u : Sort) (es : List Arrow) → All (λ (e : Arrow). OfSort ks t e.1 × OfSort ks u e.2) es → M (function_sort t u) (Fun es))
    → OfSort ks s id → HasItems (kind_at ks id) → M s (kind_at ks id)
by-items ks truth id M f g h c = let b = is-bit (kind_at ks id) h.1 in absurd (let P : CellKind → Type 0 = HasItems in subst P b.1 c)
by-items ks number id M f g h c = let b = is-word (kind_at ks id) h.1 in absurd (let P : CellKind → Type 0 = HasItems in subst P b.1 c)
by-items ks name id M f g h c = let b = is-text (kind_at ks id) h.1 in absurd (let P : CellKind → Type 0 = HasItems in subst P b.1 c)
by-items ks (set_sort s) id M f g h c =
    let b = is-set (OfSort ks s) (kind_at ks id) h.1 in
    let P : CellKind → Type 0 = IsSet (OfSort ks s) in
    let Q : CellKind → Type 0 = M (set_sort s) in
    subst Q (sym b.1) (f s b.0 (subst P b.1 h.1))
by-items ks (function_sort s t) id M f g h c =
    let b = is-function (OfSort ks s) (OfSort ks t) (kind_at ks id) h.1 in
    let P : CellKind → Type 0 = IsFunction (OfSort ks s) (OfSort ks t) in
    let Q : CellKind → Type 0 = M (function_sort s t) in
    subst Q (sym b.1) (g s t b.0 (subst P b.1 h.1))
by-items ks (sequence_sort s) id M f g h c = let b = is-sequence (OfSort ks s) (kind_at ks id) h.1 in absurd (let P : CellKind → Type 0 = HasItems in subst P b.2 c)
by-items ks (record_of names s) id M f g h c = let b = is-record names (λ i. OfSort ks (s i)) (kind_at ks id) h.1 in absurd (let P : CellKind → Type 0 = HasItems in subst P b.1 c)
by-items ks (tuple_of n s) id M f g h c = let b = is-tuple n (λ i. OfSort ks (s i)) (kind_at ks id) h.1 in absurd (let P : CellKind → Type 0 = HasItems in subst P b.1 c)

abbrev ItemSort : Sort → Type 0
ItemSort (set_sort s) = Unit {0}
ItemSort (function_sort s t) = Unit {0}
ItemSort s = ⊥

abbrev pub head_sort : Sort → Sort
head_sort (set_sort s) = s
head_sort (function_sort s t) = s
head_sort s = s

abbrev pub tail_sort : Sort → Sort
tail_sort (function_sort s t) = t
tail_sort s = s

sort-has : (ks : List CellKind) (s : Sort) (y : CellId) → ItemSort s → OfSort ks s y → HasItems (kind_at ks y)
sort-has ks truth y p h = absurd p
sort-has ks number y p h = absurd p
sort-has ks name y p h = absurd p
sort-has ks (set_sort s) y p h = let b = is-set (OfSort ks s) (kind_at ks y) h.1 in let P : CellKind → Type 0 = HasItems in subst P (sym b.1) tt
sort-has ks (function_sort s t) y p h = let b = is-function (OfSort ks s) (OfSort ks t) (kind_at ks y) h.1 in let P : CellKind → Type 0 = HasItems in subst P (sym b.1) tt
sort-has ks (sequence_sort s) y p h = absurd p
sort-has ks (record_of names s) y p h = absurd p
sort-has ks (tuple_of n s) y p h = absurd p

module _ (ks : List CellKind) (s : Sort) (id : CellId) (sort : OfSort ks s id) (has : HasItems (kind_at ks id)) where
  item-sort : ItemSort s
  item-sort = by-items ks s id (λ s k. ItemSort s) (λ t es h. tt) (λ t u es h. tt) sort has

  head-sort : (n : ℕ) → n < length (heads_of (kind_at ks id)) → OfSort ks (head_sort s) (head_of (kind_at ks id) n).1
  head-sort = by-items ks s id (λ s k. (n : ℕ) → n < length (heads_of k) → OfSort ks (head_sort s) (head_of k n).1)
      (λ t es h n lt. h n none-edge lt)
      (λ t u es h n lt.
      let P : Edge → Type 0 = λ e. OfSort ks t e.1 in
      subst P (sym (arrow-head es n lt)) (h n none-arrow (let q : length (argument_edges es) ≡ length es = arguments-long es in omega arith)).0) sort has

  tail-sort : (n : ℕ) → n < length (heads_of (kind_at ks id)) → (r : CellId) → tail_of (kind_at ks id) n ≡ Some r → OfSort ks (tail_sort s) r
  tail-sort = by-items ks s id (λ s k. (n : ℕ) → n < length (heads_of k) → (r : CellId) → tail_of k n ≡ Some r → OfSort ks (tail_sort s) r)
      (λ t es h n lt r e. absurd (none-some r e))
      (λ t u es h n lt r e.
      let le : n < length es = let q : length (argument_edges es) ≡ length es = arguments-long es in omega arith in
      subst (OfSort ks u) (sym (get_or-map (λ (e : Arrow). e.2) es n none-arrow none-id le) ∙ one-some _ r e) (h n none-arrow le).1) sort has
    where
      none-some : (r : CellId) → None ≡ Some r → ⊥
      none-some r e = cc

      one-some : (p q : CellId) → Some p ≡ Some q → p ≡ q
      one-some p q e = cc

-- two of one sort are two sets or two functions
pub two-kinds : (ks : List CellKind) (x y : CellId) (M : CellKind → CellKind → Type 0) → ((es fs : List Edge) → M (Set es) (Set fs)) → ((es fs : List Arrow) → M (Fun es) (Fun fs))
    → ItemsOfOneType ks x y → M (kind_at ks x) (kind_at ks y)
two-kinds ks x y M f g t =
    by-items ks t.types.sort x (λ s k. OfSort ks s y → M k (kind_at ks y))
    (λ s es h right. let b = is-set (OfSort ks s) (kind_at ks y) right.1 in let Q : CellKind → Type 0 = M (Set es) in subst Q (sym b.1) (f es b.0))
    (λ s u es h right. let b = is-function (OfSort ks s) (OfSort ks u) (kind_at ks y) right.1 in let Q : CellKind → Type 0 = M (Fun es) in subst Q (sym b.1) (g es b.0))
    t.types.left t.items t.types.right

pub items-back : (ks : List CellKind) (x y : CellId) → ItemsOfOneType ks x y → ItemsOfOneType ks y y
items-back ks x y t = record {
  types = record { sort = t.types.sort; left = t.types.right; right = t.types.right };
  items = sort-has ks t.types.sort y (item-sort ks t.types.sort x t.types.left t.items) t.types.right;
}

pub items-front : (ks : List CellKind) (x y : CellId) → ItemsOfOneType ks x y → ItemsOfOneType ks x x
items-front ks x y t = record { types = record { sort = t.types.sort; left = t.types.left; right = t.types.left }; items = t.items }

module _ (ks : List CellKind) (x y : CellId) (i j : ℕ) (t : ItemsAlike ks x y i j) where
  right-has : HasItems (kind_at ks y)
  right-has = sort-has ks t.types.types.sort y (item-sort ks t.types.types.sort x t.types.types.left t.types.items) t.types.types.right

  pub heads-typed : (left right : Edge) → (left.0, left.1) ≡ head_of (kind_at ks x) i → (right.0, right.1) ≡ head_of (kind_at ks y) j → OneType ks left.1 right.1
  heads-typed left right p q = record {
    sort = head_sort t.types.types.sort;
    left = subst (λ (e : Edge). OfSort ks (head_sort t.types.types.sort) e.1) (sym p) (head-sort ks t.types.types.sort x t.types.types.left t.types.items i t.left);
    right = subst (λ (e : Edge). OfSort ks (head_sort t.types.types.sort) e.1) (sym q) (head-sort ks t.types.types.sort y t.types.types.right right-has j t.right);
  }

  pub tails-typed : (left right : CellId) → tail_of (kind_at ks x) i ≡ Some left → tail_of (kind_at ks y) j ≡ Some right → OneType ks left right
  tails-typed left right p q = record {
    sort = tail_sort t.types.types.sort;
    left = tail-sort ks t.types.types.sort x t.types.types.left t.types.items i t.left left p;
    right = tail-sort ks t.types.types.sort y t.types.types.right right-has j t.right right q;
  }

  -- either both have a result or none has
  pub tails-none : tail_of (kind_at ks x) i ≡ None → tail_of (kind_at ks y) j ≡ None
  tails-none = two-kinds ks x y (λ k m. tail_of k i ≡ None → tail_of m j ≡ None) (λ es fs e. refl) (λ es fs e. absurd (clash _ e)) t.types
    where
      clash : (r : CellId) → Some r ≡ None → ⊥
      clash r e = cc

  pub tails-some : (r : CellId) → tail_of (kind_at ks x) i ≡ Some r → tail_of (kind_at ks y) j ≡ None → ⊥
  tails-some r = two-kinds ks x y (λ k m. tail_of k i ≡ Some r → tail_of m j ≡ None → ⊥) (λ es fs e f. clash r e) (λ es fs e f. clash _ (sym f)) t.types
    where
      clash : (r : CellId) → None ≡ Some r → ⊥
      clash r e = cc

-- ---- values of items

pub item-alone : (of : CellId → Value) (k m : CellKind) (i j : ℕ) (left right : Edge) → (left.0, left.1) ≡ head_of k i → (right.0, right.1) ≡ head_of m j → tail_of k i ≡ None → tail_of m j ≡ None
    → same_value (of left.1) (of right.1) ≡ same_value (item_at of k i) (item_at of m j)
item-alone of k m i j left right p q e f =
    ap (λ (h : Edge). same_value (of h.1) (of right.1)) p ∙ ap (λ (h : Edge). same_value (of (head_of k i).1) (of h.1)) q
    ∙ sym (ap (λ t. same_value (item_value of (head_of k i).1 t) (item_at of m j)) e ∙ ap (λ t. same_value (of (head_of k i).1) (item_value of (head_of m j).1 t)) f)

pub item-pair : (of : CellId → Value) (k m : CellKind) (i j : ℕ) (left right : Edge) (u w : CellId) → (left.0, left.1) ≡ head_of k i → (right.0, right.1) ≡ head_of m j → tail_of k i ≡ Some u → tail_of m j ≡ Some w
    → (same_value (of left.1) (of right.1) && same_value (of u) (of w)) ≡ same_value (item_at of k i) (item_at of m j)
item-pair of k m i j left right u w p q e f =
    ap (λ (h : Edge). same_value (of h.1) (of right.1) && same_value (of u) (of w)) p ∙ ap (λ (h : Edge). same_value (of (head_of k i).1) (of h.1) && same_value (of u) (of w)) q
    ∙ sym (ap (λ t. same_value (item_value of (head_of k i).1 t) (item_at of m j)) e ∙ ap (λ t. same_value (pair_value (of (head_of k i).1) (of u)) (item_value of (head_of m j).1 t)) f
    ∙ pair-same (of (head_of k i).1) (of u) (of (head_of m j).1) (of w))

-- arguments that differ make different pairs
pub item-apart : (of : CellId → Value) (k m : CellKind) (i j : ℕ) (left right : Edge) (u w : CellId) → (left.0, left.1) ≡ head_of k i → (right.0, right.1) ≡ head_of m j → tail_of k i ≡ Some u → tail_of m j ≡ Some w
    → same_value (of left.1) (of right.1) ≡ false → false ≡ same_value (item_at of k i) (item_at of m j)
item-apart of k m i j left right u w p q e f apart = sym (ap (λ t. t && same_value (of u) (of w)) apart) ∙ item-pair of k m i j left right u w p q e f

-- ---- which items stand

any-arguments : (a : List Bool) (of : CellId → Value) (v : Value) (es : List Arrow) → any_edge a of (same_value v) (argument_edges es) ≡ member v (arguments (present_pairs a of es))
any-arguments a of v [] = refl
any-arguments a of v (e ∷ es) = split (lit_value e.0 a) (any-arguments a of v es)
  where
    split : (b : Bool) → any_edge a of (same_value v) (argument_edges es) ≡ member v (arguments (present_pairs a of es))
        → ((b && same_value v (of e.1)) || any_edge a of (same_value v) (argument_edges es))
        ≡ member v (arguments (map (λ (e : Arrow). (of e.1, of e.2)) (cond b (e ∷ filter (λ (e : Arrow). lit_value e.0 a) es) (filter (λ (e : Arrow). lit_value e.0 a) es))))
    split true q = ap (λ t. same_value v (of e.1) || t) q
    split false q = q

pairs-more : (a : List Bool) (of : CellId → Value) (es : List Arrow) (n : ℕ) → n < length es
    → present_pairs a of (take (n + 1) es) ≡ with_pair (lit_value (get_or es n none-arrow).0 a) (present_pairs a of (take n es)) (of (get_or es n none-arrow).1) (of (get_or es n none-arrow).2)
pairs-more a of es n lt =
    let e : Arrow = get_or es n none-arrow in
    ap (present_pairs a of) (take_more es n none-arrow lt)
    ∙ ap (map (λ (e : Arrow). (of e.1, of e.2))) (filter-append (λ (e : Arrow). lit_value e.0 a) (take n es) (e ∷ []))
    ∙ map-append (λ (e : Arrow). (of e.1, of e.2)) (filter (λ (e : Arrow). lit_value e.0 a) (take n es)) (filter (λ (e : Arrow). lit_value e.0 a) (e ∷ []))
    ∙ split (lit_value e.0 a) e (present_pairs a of (take n es))
  where
    split : (b : Bool) (e : Arrow) (ps : List Pair) → (ps ++ map (λ (e : Arrow). (of e.1, of e.2)) (cond b (e ∷ []) [])) ≡ with_pair b ps (of e.1) (of e.2)
    split true e ps = refl
    split false e ps = end ps
      where
        end : (ps : List Pair) → ps ++ [] ≡ ps
        end [] = refl
        end (p ∷ ps) = ap (λ l. p ∷ l) (end ps)

pub standing-none : (a : List Bool) (of : CellId → Value) (k : CellKind) → AreStanding a of k 0 []
standing-none a of (Bit l) = tt
standing-none a of (Word w) = tt
standing-none a of (Text w) = tt
standing-none a of (Set es) = refl
standing-none a of (Fun es) = λ u w. refl
standing-none a of (Rec fs) = tt
standing-none a of (Tup ps) = tt
standing-none a of (Seq w ps) = tt

flags-more : (a : List Bool) (of : CellId → Value) (k : CellKind) (n : ℕ) (bs : List Bool) (b : Bool) → AreStanding a of k n bs → length bs ≡ n → n < length (heads_of k) → b ≡ stands_at a of k n → AreStanding a of k (n + 1) (bs ++ b ∷ [])
flags-more a of (Bit l) n bs b h m lt e = tt
flags-more a of (Word w) n bs b h m lt e = tt
flags-more a of (Text w) n bs b h m lt e = tt
flags-more a of (Set es) n bs b h m lt e =
    ap (λ l. l ++ b ∷ []) h ∙ ap (λ t. map (λ (e : Edge). lit_value e.0 a) (take n es) ++ t ∷ []) e ∙ sym (map_more (λ (e : Edge). lit_value e.0 a) es n none-edge lt)
flags-more a of (Fun es) n bs b h m lt e = λ u w.
    let le : n < length es = let q : length (argument_edges es) ≡ length es = arguments-long es in omega arith in
    let f : Arrow → Value = λ e. pair_value (of e.1) (of e.2) in
    let x : Arrow = get_or es n none-arrow in
    let ps : List Pair = present_pairs a of (take n es) in
    let lf : n < length (map f es) = let q = length-map es f in omega arith in
    let vs : List Value = take n (map f es) in
    let more : take (n + 1) (map f es) ≡ vs ++ f x ∷ [] = take_more (map f es) n (f none-arrow) lf ∙ ap (λ v. vs ++ v ∷ []) (get_or-map f es n none-arrow (f none-arrow) le) in
    let hidden : any_edge a of (same_value (of x.1)) (take n (argument_edges es)) ≡ member (of x.1) (arguments ps) =
    ap (any_edge a of (same_value (of x.1))) (take-map (λ (e : Arrow). (e.0, e.1)) n es) ∙ any-arguments a of (of x.1) (take n es) in
    let flag : b ≡ (lit_value x.0 a && not (member (of x.1) (arguments ps))) =
    e ∙ ap (λ (h : Edge). lit_value h.0 a && not (any_edge a of (same_value (of h.1)) (take n (argument_edges es)))) (arrow-head es n lt) ∙ ap (λ t. lit_value x.0 a && not t) hidden in
    let long : length bs ≡ length vs = m ∙ sym (take-long (map f es) n lf) in
    ap (λ t. member (pair_value u w) (kept (bs ++ t ∷ []) (take (n + 1) (map f es)))) flag
    ∙ ap (λ l. member (pair_value u w) (kept (bs ++ (lit_value x.0 a && not (member (of x.1) (arguments ps))) ∷ []) l)) more
    ∙ graph-more bs vs ps (lit_value x.0 a) (of x.1) (of x.2) h long u w
    ∙ ap (λ qs. gives (apply qs u) w) (sym (pairs-more a of es n le))
  where
    take-long : (vs : List Value) (n : ℕ) → n < length vs → length (take n vs) ≡ n
    take-long vs n lt = length-take-le n vs (omega arith)
flags-more a of (Rec fs) n bs b h m lt e = tt
flags-more a of (Tup ps) n bs b h m lt e = tt
flags-more a of (Seq w ps) n bs b h m lt e = tt

pub tell-none : (c : Cells) (f : Cnf) (k : CellKind) (ls : List Lit) → ls ≡ [] → TellStanding c f k 0 ls
tell-none c f k ls is = rw is (record { named = All-nil (IsBelow f.vars); count = refl; flags = λ a s. standing-none a (decode c a) k })

pub tell-more : (c : Cells) (f g : Cnf) (k : CellKind) (n : ℕ) (ls after : List Lit) (l : Lit) → TellStanding c f k n ls → FormulaGrows f g → n < length (heads_of k)
    → HasValue g l (λ a. stands_at a (decode c a) k n) → after ≡ ls ++ l ∷ [] → TellStanding c g k (n + 1) after
tell-more c f g k n ls after l h grows lt gate pushed = record {
  named = named-push f.vars g.vars ls after l h.named grows.vars gate.below pushed;
  count = ap length pushed ∙ length_push ls l ∙ ap (λ (n : ℕ). n + 1) h.count;
  flags = λ a s.
      subst (AreStanding a (decode c a) k (n + 1)) (sym (ap (λ ls. values ls a) pushed ∙ values-push ls a l))
      (flags-more a (decode c a) k n (values ls a) (lit_value l a) (h.flags a (Satisfies-older f g a grows s)) (length-map ls (λ l. lit_value l a) ∙ h.count) lt (gate.value a s));
}

pub tell-all : (c : Cells) (f : Cnf) (k : CellKind) (i : ℕ) (ls : List Lit) → TellStanding c f k i ls → i ≡ length (heads_of k) → TellStanding c f k (length (heads_of k)) ls
tell-all c f k i ls h e = subst (λ (n : ℕ). TellStanding c f k n ls) e h

pub tell-later : (c : Cells) (f g : Cnf) (k : CellKind) (n : ℕ) (ls : List Lit) → TellStanding c f k n ls → FormulaGrows f g → TellStanding c g k n ls
tell-later c f g k n ls h grows = record {
  named = named-later f.vars g.vars ls h.named grows.vars;
  count = h.count;
  flags = λ a s. h.flags a (Satisfies-older f g a grows s);
}

-- an arrow alone
pub stands-known : (a : List Bool) (of : CellId → Value) (k : CellKind) (es : List Arrow) (n i : ℕ) (l : Lit) (e : CellId) → k ≡ Fun es → (l, e) ≡ head_of k n → i ≡ n
    → (lit_value l a && not (any_edge a of (same_value (of e)) (take i (heads_of k)))) ≡ stands_at a of k n
stands-known a of k es n i l e is head at =
    let test : Edge → ℕ → CellKind → Bool = λ h i k. lit_value h.0 a && not (any_edge a of (same_value (of h.1)) (take i (heads_of k))) in
    ap (λ h. test h i k) head ∙ ap (λ (i : ℕ). test (head_of k n) i k) at ∙ subst (λ k. test (head_of k n) n k ≡ stands_at a of k n) (sym is) refl

pub hidden-more : (a : List Bool) (of : CellId → Value) (v : Value) (k : CellKind) (i : ℕ) (m : Lit) (earlier : CellId) → i < length (heads_of k) → (m, earlier) ≡ head_of k i
    → any_edge a of (same_value v) (take (i + 1) (heads_of k)) ≡ (any_edge a of (same_value v) (take i (heads_of k)) || (lit_value m a && same_value v (of earlier)))
hidden-more a of v k i m earlier lt is =
    any-more a of (same_value v) (heads_of k) i none-edge lt ∙ ap (λ (h : Edge). any_edge a of (same_value v) (take i (heads_of k)) || (lit_value h.0 a && same_value v (of h.1))) (sym is)

-- ---- sets and functions with the same items

kept-present : (a : List Bool) (of : CellId → Value) (es : List Edge) → kept (map (λ (e : Edge). lit_value e.0 a) es) (map (λ (e : Edge). of e.1) es) ≡ present a of es
kept-present a of [] = refl
kept-present a of (e ∷ es) = split (lit_value e.0 a) (kept-present a of es)
  where
    split : (b : Bool) → kept (map (λ (e : Edge). lit_value e.0 a) es) (map (λ (e : Edge). of e.1) es) ≡ present a of es
        → (if b then of e.1 ∷ kept (map (λ (e : Edge). lit_value e.0 a) es) (map (λ (e : Edge). of e.1) es) else kept (map (λ (e : Edge). lit_value e.0 a) es) (map (λ (e : Edge). of e.1) es))
        ≡ map (λ (e : Edge). of e.1) (cond b (e ∷ filter (λ (e : Edge). lit_value e.0 a) es) (filter (λ (e : Edge). lit_value e.0 a) es))
    split true q = ap (λ l. of e.1 ∷ l) q
    split false q = q

all-one : (p q : Value → Bool) → ((v : Value) → p v ≡ q v) → (xs : List Value) → list_all p xs ≡ list_all q xs
all-one p q h [] = refl
all-one p q h (x ∷ xs) = ap (λ t. t && list_all p xs) (h x) ∙ ap (λ t. q x && t) (all-one p q h xs)

subset-sets : (xs ys : List Value) → subset (set_of xs) (set_of ys) ≡ subset xs ys
subset-sets xs ys = list_all-set_of (λ x. member x (set_of ys)) xs ∙ all-one (λ x. member x (set_of ys)) (λ x. member x ys) (λ v. member-set_of v ys) xs

same-sets : (xs ys : List Value) → (subset xs ys && subset ys xs) ≡ same_value (value.Set (set_of xs)) (value.Set (set_of ys))
same-sets xs ys = sym (same_value-sets xs ys ∙ ap (λ t. t && subset (set_of ys) (set_of xs)) (subset-sets xs ys) ∙ ap (λ t. subset xs ys && t) (subset-sets ys xs))

items-pairs : (of : CellId → Value) (es : List Arrow) → map (λ (e : Arrow). pair_value (of e.1) (of e.2)) es ≡ map of_pair (map (λ (e : Arrow). (of e.1, of e.2)) es)
items-pairs of [] = refl
items-pairs of (e ∷ es) = ap (λ l. pair_value (of e.1) (of e.2) ∷ l) (items-pairs of es)

graph-all : (a : List Bool) (of : CellId → Value) (es : List Arrow) (n : ℕ) (bs : List Bool) → n ≡ length (argument_edges es) → AreStanding a of (Fun es) n bs
    → IsGraph bs (map of_pair (map (λ (e : Arrow). (of e.1, of e.2)) es)) (present_pairs a of es)
graph-all a of es n bs m h = λ u w.
    let f : Arrow → Value = λ e. pair_value (of e.1) (of e.2) in
    let le : length es ≤ n = let q : length (argument_edges es) ≡ length es = arguments-long es in omega arith in
    let lf : length (map f es) ≤ n = let q = length-map es f in omega arith in
    ap (λ l. member (pair_value u w) (kept bs l)) (sym (items-pairs of es) ∙ sym (take_all n (map f es) lf)) ∙ h u w ∙ ap (λ l. gives (apply (present_pairs a of l) u) w) (take_all n es le)

flags-all : (a : List Bool) (of : CellId → Value) (es : List Edge) (n : ℕ) (bs : List Bool) → n ≡ length es → AreStanding a of (Set es) n bs → kept bs (items of (Set es)) ≡ present a of es
flags-all a of es n bs m h = ap (λ l. kept l (items of (Set es))) (h ∙ ap (map (λ (e : Edge). lit_value e.0 a)) (take_all n es (omega arith))) ∙ kept-present a of es

pub same-standing : (c : Cells) (a : List Bool) (x y : CellId) (bs ds : List Bool) → WellBuilt c → ItemsOfOneType c.kinds x y
    → AreStanding a (decode c a) (kind_at c.kinds x) (length (heads_of (kind_at c.kinds x))) bs → AreStanding a (decode c a) (kind_at c.kinds y) (length (heads_of (kind_at c.kinds y))) ds
    → (subset (kept bs (items (decode c a) (kind_at c.kinds x))) (kept ds (items (decode c a) (kind_at c.kinds y))) && subset (kept ds (items (decode c a) (kind_at c.kinds y))) (kept bs (items (decode c a) (kind_at c.kinds x))))
    ≡ same_value (decode c a x) (decode c a y)
same-standing c a x y bs ds built t p q =
    let of : CellId → Value = decode c a in
    two-kinds c.kinds x y (λ k m. AreStanding a of k (length (heads_of k)) bs → AreStanding a of m (length (heads_of m)) ds
    → (subset (kept bs (items of k)) (kept ds (items of m)) && subset (kept ds (items of m)) (kept bs (items of k))) ≡ same_value (kind_value c.texts a of k) (kind_value c.texts a of m))
    (λ es fs h g.
    ap (λ l. subset l (kept ds (items of (Set fs))) && subset (kept ds (items of (Set fs))) l) (flags-all a of es (length es) bs refl h)
    ∙ ap (λ l. subset (present a of es) l && subset l (present a of es)) (flags-all a of fs (length fs) ds refl g)
    ∙ same-sets (present a of es) (present a of fs))
    (λ es fs h g.
    let ps : List Pair = map (λ (e : Arrow). (of e.1, of e.2)) es in
    let qs : List Pair = map (λ (e : Arrow). (of e.1, of e.2)) fs in
    ap (λ l. subset (kept bs l) (kept ds (items of (Fun fs))) && subset (kept ds (items of (Fun fs))) (kept bs l)) (items-pairs of es)
    ∙ ap (λ l. subset (kept bs (map of_pair ps)) (kept ds l) && subset (kept ds l) (kept bs (map of_pair ps))) (items-pairs of fs)
    ∙ same-graphs bs ds ps qs (present_pairs a of es) (present_pairs a of fs) (graph-all a of es _ bs refl h) (graph-all a of fs _ ds refl g)) t p q
    ∙ sym (ap (λ v. same_value v (of y)) (decode-kind c a x built (sort-there c.kinds t.types.sort x t.types.left))
    ∙ ap (same_value (kind_value c.texts a of (kind_at c.kinds x))) (decode-kind c a y built (sort-there c.kinds t.types.sort y t.types.right)))
