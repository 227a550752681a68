-- The domains of sequences.
use Rattle.std.proofs.Common.{◌≡◌, ℕ, zero, suc, ◌+◌, ◌<◌, ◌≤◌, Bool, true, false, not, IsTrue, List, [], ◌∷◌, ◌++◌, length, take, get_or, All, pos, refl, ap, ◌∙◌, sym, subst, arith}
use Rattle.std.specs.Prelude.{nat_lt}
use Rattle.std.specs.Cmp.{int_cmp_is}
use Rattle.std.specs.declared.cmp.Ordering.TheVariants.{Less}
use Rattle.std.proofs.lemmas.Int.{ints}
use Rattle.std.proofs.lemmas.Bool.Decides.{nat_tests}
use Rattle.std.proofs.lemmas.List.{length-map, length-take-le, take_all}
use Rattle.std.proofs.lemmas.List.Elements.{All-push, All-nil}
use Rattle.sat_formula.specs.declared.lit.Lit.{Lit}
use Rattle.sat_formula.specs.Lit.{lit_value, IsBelow}
use Rattle.sat_formula.specs.Formula.{Grows as FormulaGrows}
use Rattle.sat_formula.proofs.Extension.{Satisfies-older}
use Rattle.word_blaster.specs.Word.{IsExact, number, values, word_value}
use Rattle.tla_values.specs.Integers.{fits_width}
use Rattle.tla_values.specs.Order.{value_cmp}
use Rattle.tla_values.specs.Sequences.{numbered, sequence}
use Rattle.tla_values.specs.Sets.{arguments, by_order, insert, set_of}
use Rattle.tla_values.specs.declared.value.Value.{Value}
use Rattle.tla_values.specs.declared.value.Value.TheVariants as value
use Rattle.tla_values.specs.declared.value.Value.TheOpen as layer
use Rattle.tla_values.proofs.OrderLemmas.{by_kinds}
use Rattle.cell_arena.specs.declared.build.Build.{Build}
use Rattle.cell_arena.specs.declared.kinds.CellId.{CellId}
use Rattle.cell_arena.specs.declared.kinds.CellKind.TheVariants.{Word, Set}
use Rattle.cell_arena.specs.Cells.{Cells}
use Rattle.cell_arena.specs.Decode.{decode, present}
use Rattle.cell_arena.specs.Growth.{Grows, Decodes, Adds, Keeps}
use Rattle.cell_arena.proofs.Decoding.{map-agree}
use Rattle.cell_arena.proofs.Growing.{Satisfies-before, decode-before}
use Rattle.cell_merge.specs.Arrows.{pairs_of}
use Rattle.cell_merge.specs.Edges.{LeadTo}
use Rattle.cell_merge.specs.Partial.{Tells}
use Rattle.cell_merge.specs.Sorts.{Sort, OfSort, number as number_sort}
use Rattle.cell_merge.proofs.Chosen.{lead-there}
use Rattle.cell_merge.proofs.Edges.{sort-there}
use Rattle.cell_merge.proofs.Layering.{LeadTo-later}
use Rattle.cell_merge.proofs.Present.{one, present-append, present-one}
use Rattle.cell_merge.proofs.SortLaws.{sort-set, sort-word}
use Rattle.cell_merge.proofs.Unions.{AreNamed-later}
use Rattle.sequence_rewriter.specs.Sequences.{IsDomainCell, where_fits}
use Rattle.sequence_rewriter.specs.inner.Domains.{CountsTo, IsCountedEdge, IsNumberCell, numbers_from}
use Rattle.sequence_rewriter.specs.inner.Lengths.{IsLength, places_of, place_values}
use Rattle.sequence_rewriter.proofs.Lists.{pairs-sequence, length-tells}

-- ---- numbers in a row

next_number : (n : ℕ) → value_cmp (value.Int (pos n)) (value.Int (pos (n + 1))) ≡ Less
next_number n =
    by_kinds (value.Int (pos n)) (value.Int (pos (n + 1))) (layer.Int (pos n)) (layer.Int (pos (n + 1))) (value.outs-Int (pos n)) (value.outs-Int (pos (n + 1)))
    ∙ sym (int_cmp_is (pos n) (pos (n + 1)) Less (omega (arith, ints)))

-- they are a set
pub numbers-set : (k n : ℕ) → set_of (numbers_from k n) ≡ numbers_from k n
numbers-set k zero = refl
numbers-set k (suc n) = ap (insert (value.Int (pos k))) (numbers-set (k + 1) n) ∙ front k n
  where
    front : (k n : ℕ) → insert (value.Int (pos k)) (numbers_from (k + 1) n) ≡ value.Int (pos k) ∷ numbers_from (k + 1) n
    front k zero = refl
    front k (suc n) = ap (λ o. by_order o (value.Int (pos k) ∷ numbers_from (k + 1) (suc n)) (numbers_from (k + 1) (suc n)) (value.Int (pos (k + 1)) ∷ insert (value.Int (pos k)) (numbers_from (k + 1 + 1) n))) (next_number k)

numbers-length : (k n : ℕ) → length (numbers_from k n) ≡ n
numbers-length k zero = refl
numbers-length k (suc n) = ap suc (numbers-length (k + 1) n)

number-arguments : (k : ℕ) (xs : List Value) → arguments (numbered k xs) ≡ numbers_from k (length xs)
number-arguments k [] = refl
number-arguments k (x ∷ xs) = ap (λ (l : List Value). value.Int (pos k) ∷ l) (number-arguments (k + 1) xs)

-- one number more, if there are so many
next-taken : (k n len : ℕ) (t : Bool) (v : Value) → (t ≡ true → n < len) → (t ≡ false → len ≤ n) → (t ≡ true → v ≡ value.Int (pos (k + n))) → take n (numbers_from k len) ++ one t v ≡ take (suc n) (numbers_from k len)
next-taken k zero zero true v lt le is = let q = lt refl in absurd (omega arith)
next-taken k zero zero false v lt le is = refl
next-taken k zero (suc len) true v lt le is = ap (λ (u : Value). u ∷ []) (is refl ∙ ap (λ (m : ℕ). value.Int (pos m)) (omega arith))
next-taken k zero (suc len) false v lt le is = let q = le refl in absurd (omega arith)
next-taken k (suc n) zero true v lt le is = let q = lt refl in absurd (omega arith)
next-taken k (suc n) zero false v lt le is = refl
next-taken k (suc n) (suc len) t v lt le is =
    ap (λ (l : List Value). value.Int (pos k) ∷ l)
    (next-taken (k + 1) n len t v (λ e. let q = lt e in omega arith) (λ e. let q = le e in omega arith) (λ e. is e ∙ ap (λ (m : ℕ). value.Int (pos m)) (omega arith)))

-- what the numbers of a sequence say, where they fit the width
domain-tells : (out : Bool) (v w : Value) (width n : ℕ) (xs : List Value) → w ≡ sequence xs → length xs ≡ n → out ≡ not (fits_width width (pos n)) → (out ≡ false → v ≡ value.Set (numbers_from 1 n))
    → Tells out v (where_fits width (length (pairs_of w)) (value.Set (arguments (pairs_of w))))
domain-tells out v w width n xs is count outside fits =
    let ps : List (Value × Value) = numbered 1 xs in
    let keys : arguments ps ≡ numbers_from 1 n = number-arguments 1 xs ∙ ap (numbers_from 1) count in
    let many : length ps ≡ n = sym (length-map ps (λ (p : Value × Value). p.0)) ∙ ap length keys ∙ numbers-length 1 n in
    subst (λ (ps : List (Value × Value)). Tells out v (where_fits width (length ps) (value.Set (arguments ps)))) (sym (ap pairs_of is ∙ pairs-sequence xs))
    (subst (λ (m : ℕ). Tells out v (where_fits width m (value.Set (arguments ps)))) (sym many)
    (subst (λ (vs : List Value). Tells out v (where_fits width n (value.Set vs))) (sym keys) (length-tells out v width n (value.Set (numbers_from 1 n)) outside fits)))

-- ---- edges to numbers

width-later : (b c : Build) → Grows b c → c.arena.width ≡ b.arena.width
unfolding Keeps
width-later b c g = g.keeps.width

present-before : (b c : Build) (a : List Bool) (s : Sort) (es : List (Lit × CellId)) → Grows b c → LeadTo b.arena.kinds s es → present a (decode c.arena a) es ≡ present a (decode b.arena a) es
present-before b c a s es g h =
    map-agree (λ (e : Lit × CellId). lit_value e.0 a) (λ (e : Lit × CellId). decode c.arena a e.1) (λ (e : Lit × CellId). decode b.arena a e.1) es (λ i d lt. decode-before b c a (get_or es i d).1 g (sort-there b.arena.kinds s _ (h i d lt)))

pub number-cell : (mid new : Build) (n width : ℕ) (word : List Lit) (out : Lit) (id : CellId) → width ≡ mid.arena.width → IsExact mid.formula width word out (λ a. pos n) → Adds mid new (Word word) id → Grows mid new
    → Decodes new id (λ a. value.Int (word_value word a)) → IsNumberCell new n id
number-cell mid new n width word out id wide exact adds grows decodes = record {
  number = λ a sat fits.
      let s1 = Satisfies-before mid new a grows sat in
      let here : fits_width width (pos n) ≡ true = ap (λ (w : ℕ). fits_width w (pos n)) (wide ∙ sym (width-later mid new grows)) ∙ fits in
      decodes.value a sat ∙ ap (λ z. value.Int z) (exact.value a s1 (exact.outside.value a s1 ∙ ap not here));
  sort = sort-word mid new word id adds;
}

pub counted-none : (b : Build) (bits : List Lit) (es : List (Lit × CellId)) → es ≡ [] → CountsTo b bits 0 es
counted-none b bits es is = rw is (record { cells = All-nil (λ (e : Lit × CellId). OfSort b.arena.kinds number_sort e.1); named = All-nil (λ (e : Lit × CellId). IsBelow b.formula.vars e.0); there = λ a sat fits. refl })

fits-below : (w m n : ℕ) → m < n + 1 → IsTrue (fits_width w (pos n)) → IsTrue (fits_width w (pos m))
fits-below w m n lt h = grind (arith, nat_tests)

above : (t : Bool) (m n : ℕ) → t ≡ nat_lt m n → t ≡ true → m < n
above t m n h e = grind (arith, nat_tests)

not-above : (t : Bool) (m n : ℕ) → t ≡ nat_lt m n → t ≡ false → n ≤ m
not-above t m n h e = grind (arith, nat_tests)

pub counted-more : (mid new : Build) (bits : List Lit) (n : ℕ) (es after : List (Lit × CellId)) (e : Lit × CellId) → CountsTo mid bits n es → Grows mid new → IsCountedEdge new bits n e → after ≡ es ++ e ∷ [] → CountsTo new bits (n + 1) after
counted-more mid new bits n es after e h grows edge pushed = record {
  cells = rw pushed (All-push (λ (e : Lit × CellId). OfSort new.arena.kinds number_sort e.1) es e (LeadTo-later mid new number_sort es h.cells grows) edge.cell.sort);
  named = rw pushed (All-push (λ (e : Lit × CellId). IsBelow new.formula.vars e.0) es e (AreNamed-later mid.formula.vars new.formula.vars es h.named grows.formula.vars) edge.there.below);
  there = λ a sat fits.
      let len : ℕ = number (values bits a) in
      let of : CellId → Value = decode new.arena a in
      let fits0 : IsTrue (fits_width mid.arena.width (pos len)) = subst (λ (w : ℕ). IsTrue (fits_width w (pos len))) (width-later mid new grows) fits in
      let t = edge.there.value a sat in
      let next : n + 1 ≡ 1 + n = omega arith in
      let more : suc n ≡ n + 1 = omega arith in
      ap (present a of) pushed ∙ present-append a of es (e ∷ []) ∙ ap (λ (l : List Value). l ++ present a of (e ∷ [])) (present-before mid new a number_sort es grows h.cells ∙ h.there a (Satisfies-before mid new a grows sat) fits0)
      ∙ ap (λ (l : List Value). take n (numbers_from 1 len) ++ l) (present-one a of e)
      ∙ next-taken 1 n len (lit_value e.0 a) (of e.1) (above _ n len t) (not-above _ n len t)
      (λ on. edge.cell.number a sat (fits-below new.arena.width (n + 1) len (let q = above _ n len t on in omega arith) fits) ∙ ap (λ (m : ℕ). value.Int (pos m)) next)
      ∙ ap (λ (m : ℕ). take m (numbers_from 1 len)) more;
}

-- ---- the set of them

pub counted-older : (b : Build) (bits : List Lit) (n : ℕ) (es out : List (Lit × CellId)) → CountsTo b bits n es → out ≡ es → All (λ e. e.1.index < length b.arena.kinds) out
counted-older b bits n es out h given = rw given (lead-there b.arena.kinds number_sort es h.cells)

pub domain-cell : (old mid edged new : Build) (s id : CellId) (width : ℕ) (bits word : List Lit) (out : Lit) (es given : List (Lit × CellId)) → width ≡ old.arena.width → mid.arena ≡ old.arena → IsLength old.arena old.formula s bits
    → FormulaGrows old.formula mid.formula → IsExact mid.formula width word out (λ a. pos (number (values bits a))) → Grows mid edged → CountsTo edged bits (length (places_of old.arena s)) es → given ≡ es → Adds edged new (Set given) id
    → Grows edged new → Decodes new id (λ a. value.Set (set_of (present a (decode edged.arena a) given))) → IsDomainCell old new s (id, out)
domain-cell old mid edged new s id width bits word out es given wide same h before exact grows counts is adds last decodes = record {
  yields = record {
    there = decodes.there;
    below = let p = exact.outside.below in let q = grows.formula.vars in let r = last.formula.vars in omega arith;
    tells = λ a sat.
        let s2 = Satisfies-before edged new a last sat in
        let s1 = Satisfies-before mid edged a grows s2 in
        let s0 = Satisfies-older old.formula mid.formula a before s1 in
        let n : ℕ = number (values bits a) in
        let places = length-map (places_of old.arena s) (decode old.arena a) in
        let within = h.within a s0 in
        let long = numbers-length 1 n in
        domain-tells (lit_value out a) (decode new.arena a id) (decode old.arena a s) old.arena.width n (take n (place_values old.arena a s)) (h.items a s0)
        (length-take-le n (place_values old.arena a s) (omega arith))
        (exact.outside.value a s1 ∙ ap (λ (w : ℕ). not (fits_width w (pos n))) wide)
        (λ off.
        let fits : IsTrue (fits_width edged.arena.width (pos n)) =
        subst (λ (w : ℕ). IsTrue (fits_width w (pos n))) (wide ∙ ap (λ (c : Cells). c.width) (sym same) ∙ sym (width-later mid edged grows)) (not-off (fits_width width (pos n)) (sym (exact.outside.value a s1) ∙ off)) in
        decodes.value a sat ∙ ap (λ (l : List (Lit × CellId)). value.Set (set_of (present a (decode edged.arena a) l))) is
        ∙ ap (λ (l : List Value). value.Set (set_of l)) (counts.there a s2 fits ∙ take_all (length (places_of old.arena s)) (numbers_from 1 n) (omega arith))
        ∙ ap (λ (l : List Value). value.Set l) (numbers-set 1 n));
  };
  sort = sort-set edged new given number_sort id adds last (rw is counts.cells);
}
  where
    not-off : (b : Bool) → not b ≡ false → b ≡ true
    not-off true e = refl
    not-off false e = absurd (let q : true ≡ false = e in cc)
