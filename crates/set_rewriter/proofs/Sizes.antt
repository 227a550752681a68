-- How many members the first edges have.
use Rattle.std.proofs.Common.{◌≡◌, ℕ, ◌+◌, ◌<◌, ◌≤◌, Bool, true, false, cond, not, ◌&&◌, ◌||◌, List, [], ◌∷◌, ◌++◌, length, take, get_or, ℤ, pos, refl, ap, ◌∙◌, sym, arith}
use Rattle.std.specs.Prelude.{filter}
use Rattle.std.specs.Ordering.{is_eq}
use Rattle.std.specs.declared.cmp.Ordering.{Ordering}
use Rattle.std.specs.declared.cmp.Ordering.TheVariants.{Less, Equal, Greater}
use Rattle.std.proofs.lemmas.List.{length-map, length-take-le, append-nil}
use Rattle.std.proofs.lemmas.List.Folds.{list_any-append}
use Rattle.sat_formula.specs.declared.lit.Lit.{Lit}
use Rattle.std.proofs.lemmas.List.Elements.{All-take}
use Rattle.sat_formula.specs.declared.cnf.Cnf.{Cnf}
use Rattle.sat_formula.specs.Lit.{lit_value, IsBelow}
use Rattle.sat_formula.specs.Formula.{Satisfies, HasValue, Grows as FormulaGrows}
use Rattle.sat_formula.proofs.Extension.{Satisfies-older, HasValue-later, HasValue-same}
use Rattle.word_blaster.specs.Word.{bit, values, word_value, number as bit_number, WordBelow, IsExact, fits_width}
use Rattle.word_blaster.proofs.Words.{WordBelow-nil, number-nil}
use Rattle.tla_values.specs.Order.{value_cmp, same_value}
use Rattle.tla_values.specs.Sets.{by_order, insert, set_of, member}
use Rattle.tla_values.specs.declared.value.Value.{Value}
use Rattle.tla_values.proofs.Extensional.{same_equal, member-set_of}
use Rattle.cell_arena.specs.declared.kinds.CellId.{CellId}
use Rattle.tla_values.specs.declared.value.Value.TheVariants as value
use Rattle.cell_arena.specs.declared.build.Build.{Build}
use Rattle.cell_arena.specs.declared.kinds.CellKind.{CellKind}
use Rattle.cell_arena.specs.declared.kinds.CellKind.TheVariants.{Word, Set}
use Rattle.cell_arena.specs.Cells.{Cells}
use Rattle.cell_arena.specs.Growth.{Grows, Decodes, Adds}
use Rattle.cell_arena.specs.Decode.{decode, present, kind_value}
use Rattle.cell_arena.proofs.Growing.{Satisfies-before}
use Rattle.cell_merge.specs.Sorts.{OfSort}
use Rattle.cell_merge.proofs.SortLaws.{sort-word}
use Rattle.cell_merge.proofs.Unions.{AreNamed-later}
use Rattle.set_rewriter.specs.Counts.{Counts, size}
use Rattle.cell_merge.specs.Edges.{OneSort}
use Rattle.set_rewriter.specs.inner.Steps.{CellAndEdges, CountsEdges}
use Rattle.cell_merge.specs.Edges.{any_edge}
use Rattle.cell_merge.proofs.Edges.{any-present, elements-cell}
use Rattle.cell_merge.proofs.Chosen.{set_of-same}
use Rattle.cell_merge.proofs.Present.{one, present-more}

abbrev Edge : Type 0
Edge = Lit × CellId

-- ---- one more member

insert_le : (v : Value) (xs : List Value) → length (insert v xs) ≤ length xs + 1
insert_le v [] = omega arith
insert_le v (x ∷ xs) = go (value_cmp v x) (insert_le v xs)
  where
    go : (o : Ordering) → length (insert v xs) ≤ length xs + 1 → length (by_order o (v ∷ x ∷ xs) (x ∷ xs) (x ∷ insert v xs)) ≤ length (x ∷ xs) + 1
    go Less h = omega arith
    go Equal h = omega arith
    go Greater h = omega arith

set_of_le : (xs : List Value) → length (set_of xs) ≤ length xs
set_of_le [] = omega arith
set_of_le (x ∷ xs) = let a = insert_le x (set_of xs) in let b = set_of_le xs in omega arith

or_false : (p q : Bool) → (p || q) ≡ false → (p ≡ false) × (q ≡ false)
or_false true q e = absurd (cc)
or_false false q e = (refl, e)

-- a new member
insert_new : (v : Value) (xs : List Value) → member v xs ≡ false → length (insert v xs) ≡ length xs + 1
insert_new v [] e = refl
insert_new v (x ∷ xs) e = go (value_cmp v x) refl (insert_new v xs (or_false _ _ e).1)
  where
    go : (o : Ordering) → value_cmp v x ≡ o → length (insert v xs) ≡ length xs + 1 → length (by_order o (v ∷ x ∷ xs) (x ∷ xs) (x ∷ insert v xs)) ≡ length (x ∷ xs) + 1
    go Less f h = omega arith
    go Equal f h =
        let s : same_value v x ≡ true = ap is_eq f in
        let n : same_value v x ≡ false = (or_false (same_value v x) (member v xs) e).0 in
        absurd (cc)
    go Greater f h = omega arith

-- one that is there already
same_in_test : (v w : Value) (xs : List Value) → member v xs ≡ true → (same_value w v || member w xs) ≡ member w xs
same_in_test v w xs e = go (same_value w v) refl
  where
    go : (t : Bool) → same_value w v ≡ t → (t || member w xs) ≡ member w xs
    go true f = sym (ap (λ (u : Value). member u xs) (same_equal w v f) ∙ e)
    go false f = refl

set_more : (v : Value) (xs : List Value) → length (set_of (v ∷ xs)) ≡ length (set_of xs) + bit (not (member v xs))
set_more v xs = go (member v xs) refl
  where
    go : (t : Bool) → member v xs ≡ t → length (set_of (v ∷ xs)) ≡ length (set_of xs) + bit (not t)
    go true e = ap length (set_of-same (v ∷ xs) xs (λ w. same_in_test v w xs e)) ∙ omega arith
    go false e = insert_new v (set_of xs) (member-set_of v xs ∙ e)

swap_last : (v : Value) (xs : List Value) → set_of (xs ++ v ∷ []) ≡ set_of (v ∷ xs)
swap_last v xs = set_of-same (xs ++ v ∷ []) (v ∷ xs) (λ w. list_any-append (same_value w) xs (v ∷ []) ∙ swapped (member w xs) (same_value w v))
  where
    swapped : (p q : Bool) → (p || (q || false)) ≡ (q || p)
    swapped true true = refl
    swapped true false = refl
    swapped false true = refl
    swapped false false = refl

-- ---- one more edge

pub count-more : (a : List Bool) (of : CellId → Value) (es : List Edge) (i : ℕ) (d : Edge) → i < length es
    → length (set_of (present a of (take (i + 1) es))) ≡ length (set_of (present a of (take i es))) + bit (lit_value (get_or es i d).0 a && not (any_edge a of (same_value (of (get_or es i d).1)) (take i es)))
count-more a of es i d lt =
    let v : Value = of (get_or es i d).1 in
    let xs : List Value = present a of (take i es) in
    ap (λ (l : List Value). length (set_of l)) (present-more a of es i d lt) ∙ split (lit_value (get_or es i d).0 a)
    ∙ ap (λ t. length (set_of xs) + bit (lit_value (get_or es i d).0 a && not t)) (any-present (same_value v) a of (take i es))
  where
    split : (t : Bool) → length (set_of (present a of (take i es) ++ one t (of (get_or es i d).1))) ≡ length (set_of (present a of (take i es))) + bit (t && not (member (of (get_or es i d).1) (present a of (take i es))))
    split true = ap length (swap_last (of (get_or es i d).1) (present a of (take i es))) ∙ set_more (of (get_or es i d).1) (present a of (take i es))
    split false = ap (λ (l : List Value). length (set_of l)) (append-nil (present a of (take i es))) ∙ omega arith

filter_le : (p : Edge → Bool) (es : List Edge) → length (filter p es) ≤ length es
filter_le p [] = omega arith
filter_le p (e ∷ es) = go (p e) (filter_le p es)
  where
    go : (t : Bool) → length (filter p es) ≤ length es → length (cond t (e ∷ filter p es) (filter p es)) ≤ length (e ∷ es)
    go true h = omega arith
    go false h = omega arith

bit_le : (b : Bool) → bit b ≤ 1
bit_le true = omega arith
bit_le false = omega arith

-- no more members than edges
pub count_le : (a : List Bool) (of : CellId → Value) (es : List Edge) (i : ℕ) (n : ℕ) (b : Bool) → i ≤ length es → n ≡ length (set_of (present a of (take i es))) → n + bit b ≤ i + 1
count_le a of es i n b le e =
    let s = set_of_le (present a of (take i es)) in
    let m : length (present a of (take i es)) ≡ length (filter (λ (e : Edge). lit_value e.0 a) (take i es)) = length-map (filter (λ (e : Edge). lit_value e.0 a) (take i es)) (λ e. of e.1) in
    let f = filter_le (λ (e : Edge). lit_value e.0 a) (take i es) in
    let t = length-take-le i es le in
    let l = bit_le b in
    omega arith

-- ---- the steps of the loops

pub bits-nothing : (c : Cells) (f : Cnf) (bits : List Lit) → bits ≡ [] → CountsEdges c f [] bits
bits-nothing c f bits e = rw e (record { below = WordBelow-nil f.vars; value = λ a s. number-nil })

pub front-edges : (ks : List CellKind) (m n : ℕ) (es : List Edge) (i : ℕ) (d : Edge) → OneSort ks m es → m ≤ n → i < length es → CellAndEdges ks n (get_or es i d).1 (take i es)
front-edges ks m n es i d h le lt = record {
  sort = h.sort;
  is = h.cells i d lt;
  cells = All-take (λ (e : Edge). OfSort ks h.sort e.1) i es h.cells;
  named = AreNamed-later m n (take i es) (All-take (λ (e : Edge). IsBelow m e.0) i es h.named) le;
}

module _ (c : Cells) (f g h : Cnf) (es : List Edge) (i : ℕ) (d : Edge) (bits : List Lit) (before none first : Lit) (lt : i < length es) (counts : CountsEdges c f (take i es) bits)
    (one : FormulaGrows f g) (two : FormulaGrows g h)
    (stands : HasValue g before (λ a. any_edge a (decode c a) (same_value (decode c a (get_or es i d).1)) (take i es)))
    (turned : (a : List Bool) → lit_value none a ≡ not (lit_value before a)) (gate : HasValue h first (λ a. lit_value (get_or es i d).0 a && lit_value none a)) where
  abbrev adds : List Bool → Bool
  adds a = lit_value (get_or es i d).0 a && not (any_edge a (decode c a) (same_value (decode c a (get_or es i d).1)) (take i es))

  first-is : (a : List Bool) → Satisfies a h → lit_value first a ≡ adds a
  first-is a s = gate.value a s ∙ ap (λ t. lit_value (get_or es i d).0 a && t) (turned a ∙ ap not (stands.value a (Satisfies-older g h a two s)))

  older : (a : List Bool) → Satisfies a h → bit_number (values bits a) ≡ length (set_of (present a (decode c a) (take i es)))
  older a s = counts.value a (Satisfies-older f g a one (Satisfies-older g h a two s))

  pub counts-most : (a : List Bool) → Satisfies a h → bit_number (values bits a) + bit (lit_value first a) ≤ i + 1
  counts-most a s = count_le a (decode c a) es i (bit_number (values bits a)) (lit_value first a) (omega arith) (older a s)

  pub counts-more : (k : Cnf) (after : List Lit) → FormulaGrows h k → WordBelow k.vars after → ((a : List Bool) → Satisfies a k → bit_number (values after a) ≡ bit_number (values bits a) + bit (lit_value first a))
      → CountsEdges c k (take (i + 1) es) after
  counts-more k after three below sum = record {
    below = below;
    value = λ a s.
        let s1 = Satisfies-older h k a three s in
        sum a s ∙ ap (λ (n : ℕ). n + bit (lit_value first a)) (older a s1) ∙ ap (λ t. length (set_of (present a (decode c a) (take i es))) + bit t) (first-is a s1)
        ∙ sym (count-more a (decode c a) es i d lt);
  }

-- ---- the cell

pub counted : (old mid new : Build) (set id : CellId) (width : ℕ) (word : List Lit) (out : Lit) (es : List Edge) → width ≡ old.arena.width → Grows mid new
    → IsExact mid.formula width word out (λ a. pos (length (set_of (present a (decode old.arena a) es))))
    → ((a : List Bool) → decode old.arena a set ≡ kind_value old.arena.texts a (decode old.arena a) (Set es)) → Adds mid new (Word word) id → Decodes new id (λ a. value.Int (word_value word a)) → Counts old new set (id, out)
counted old mid new set id width word out es wide grows exact is adds decodes =
    let same : (a : List Bool) → pos (length (set_of (present a (decode old.arena a) es))) ≡ size old.arena a set = λ a. ap (λ (xs : List Value). pos (length xs)) (sym (elements-cell old.arena a set es (is a))) in
    record {
      sort = sort-word mid new word id adds;
      outside = HasValue-same new.formula out _ _ (HasValue-later mid.formula new.formula out _ exact.outside grows.formula)
          (λ a s. ap (λ (z : ℤ). not (fits_width width z)) (same a) ∙ ap (λ (w : ℕ). not (fits_width w (size old.arena a set))) wide);
      value = λ a s off. decodes.value a s ∙ ap (λ (z : ℤ). value.Int z) (exact.value a (Satisfies-before mid new a grows s) off ∙ same a);
    }
