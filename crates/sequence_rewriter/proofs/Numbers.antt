-- Places of sequences by their numbers.
use Rattle.std.proofs.Common.{◌≡◌, ◌≢◌, ℕ, zero, suc, ◌+◌, ◌^◌, ◌<◌, ◌≤◌, Bool, true, false, not, ◌&&◌, List, length, take, get_or, ℤ, pos, negsuc, refl, ap, ◌∙◌, sym, subst, arith, ◌⊎◌, inl, inr, Option, Some}
use Rattle.std.specs.Prelude.{◌==◌, nat_lt, if◌then◌else◌}
use Rattle.sat_formula.specs.declared.lit.Lit.{Lit}
use Rattle.sat_formula.specs.declared.cnf.Cnf.{Cnf}
use Rattle.sat_formula.specs.Lit.{lit_value}
use Rattle.sat_formula.specs.Formula.{Satisfies, HasValue, Grows as FormulaGrows}
use Rattle.sat_formula.proofs.Extension.{Satisfies-older}
use Rattle.word_blaster.specs.Word.{WordBelow, number, values, word_value, is_below}
use Rattle.word_blaster.proofs.Bits.{number_lt}
use Rattle.word_blaster.proofs.Words.{WordBelow-later, WordBelow-take}
use Rattle.std.proofs.Math.Dec.{eqb-suc-zero}
use Rattle.std.proofs.lemmas.Bool.{cases_lt, lt-ltb, le-ltb}
use Rattle.std.proofs.lemmas.Bool.Decides.{eqb_tells}
use Rattle.std.proofs.lemmas.List.{length-map, length-take-le, take_all, get_or-map, get_or-take}
use Rattle.tla_values.specs.Order.{same_value}
use Rattle.tla_values.specs.Sets.{apply, override_at}
use Rattle.tla_values.specs.Sequences.{numbered, sequence}
use Rattle.tla_values.specs.declared.value.Value.{Value}
use Rattle.tla_values.specs.declared.value.Value.TheVariants as value
use Rattle.tla_values.specs.declared.value.Value.TheVariants.{outs-Int}
use Rattle.tla_values.proofs.Extensional.{same_equal}
use Rattle.cell_arena.specs.declared.build.Build.{Build}
use Rattle.cell_arena.specs.declared.kinds.CellId.{CellId}
use Rattle.cell_arena.specs.declared.kinds.CellKind.{CellKind}
use Rattle.cell_arena.specs.declared.kinds.CellKind.TheVariants.{Word}
use Rattle.cell_arena.specs.Cells.{Cells, IsHeld, NamesBelow, kind_at}
use Rattle.cell_arena.specs.Decode.{decode, kind_value}
use Rattle.cell_arena.specs.Growth.{Grows}
use Rattle.cell_arena.proofs.Decoding.{decode-kind}
use Rattle.cell_arena.proofs.Growing.{Satisfies-before, decode-before}
use Rattle.cell_merge.specs.Sorts.{sequence_of, OfSort, IsOver}
use Rattle.cell_merge.specs.Arrows.{pairs_of}
use Rattle.cell_merge.specs.Choices.{Chooses}
use Rattle.cell_merge.specs.Partial.{Tells}
use Rattle.cell_merge.proofs.Edges.{sort-there}
use Rattle.cell_merge.proofs.SortLaws.{OfSort-later}
use Rattle.cell_merge.proofs.Ends.{place-sorts}
use Rattle.sequence_rewriter.specs.Sequences.{HasPlace, IsSequenceCell, SequenceAndItem, SequenceAndNumber, SequenceNumberAndItem, SetsPlace, int_here, int_of}
use Rattle.sequence_rewriter.specs.inner.Lengths.{IsLength, MakesFirst, ReplacesPlaces, replaced}
use Rattle.sequence_rewriter.proofs.Lists.{pairs-sequence, same-numbers, apply-at, apply-none, override-numbered}
use Rattle.sequence_rewriter.specs.declared.replacing.Index.{Index}
use Rattle.sequence_rewriter.specs.inner.Lengths.{IsIndexOf, IsOutside, FindsPlace, PicksPlace, ReplacesPlace, is_meant, places_of, place_values}

pub is-outside : (f1 f2 f3 f4 : Cnf) (index : Index) (bits : List Lit) (none past within inside off_zero off_past out : Lit) → FormulaGrows f1 f2 → FormulaGrows f2 f3 → FormulaGrows f3 f4
    → HasValue f1 none (λ a. number (values index.bits.items a) == 0) → HasValue f2 past (λ a. nat_lt (number (values bits a)) (number (values index.bits.items a)))
    → HasValue f3 within (λ a. lit_value off_zero a && lit_value off_past a) → HasValue f4 inside (λ a. lit_value index.valid a && lit_value within a)
    → ((a : List Bool) → lit_value off_zero a ≡ not (lit_value none a)) → ((a : List Bool) → lit_value off_past a ≡ not (lit_value past a)) → out.var ≡ inside.var → ((a : List Bool) → lit_value out a ≡ not (lit_value inside a))
    → IsOutside f4 index bits out
is-outside f1 f2 f3 f4 index bits none past within inside off_zero off_past out g2 g3 g4 gate_zero gate_past gate_within gate_inside not_zero not_past var not_inside = record {
  below = let b = gate_inside.below in omega arith;
  value = λ a s.
      let s3 = Satisfies-older f3 f4 a g4 s in
      let s2 = Satisfies-older f2 f3 a g3 s3 in
      let s1 = Satisfies-older f1 f2 a g2 s2 in
      not_inside a ∙ ap not (gate_inside.value a s ∙ ap (λ b. lit_value index.valid a && b) (gate_within.value a s3
      ∙ ap (λ b. b && lit_value off_past a) (not_zero a ∙ ap not (gate_zero.value a s1))
      ∙ ap (λ b. not (number (values index.bits.items a) == 0) && b) (not_past a ∙ ap not (gate_past.value a s2))));
}

-- ---- the number of a cell as that of a place

ltb_tells : (m n : ℕ) → ((nat_lt m n ≡ true) × (m < n)) ⊎ ((nat_lt m n ≡ false) × (n ≤ m))
ltb_tells m n = elim (cases_lt m n) [ inl h ↦ inl (lt-ltb m n h, h) | inr h ↦ inr (le-ltb m n h, h) ]

int-one : (m n : ℤ) → value.Int m ≡ value.Int n → m ≡ n
int-one m n e = sym (ap int_here (outs-Int m)) ∙ ap int_of e ∙ ap int_here (outs-Int n)

other-number : (z : ℤ) (p : ℕ) → (z ≡ pos p → ⊥) → same_value (value.Int z) (value.Int (pos p)) ≡ false
other-number z p h = go (same_value (value.Int z) (value.Int (pos p))) refl
  where
    go : (b : Bool) → same_value (value.Int z) (value.Int (pos p)) ≡ b → b ≡ false
    go false e = refl
    go true e = absurd (h (int-one z (pos p) (same_equal (value.Int z) (value.Int (pos p)) e)))

-- what bits within a number of bits tell of a number
meant-tells : (z : ℤ) (k most n low p : ℕ) (valid : Bool) → valid ≡ not (not (is_below k z)) → ((m : ℕ) → z ≡ pos m → m < 2 ^ k → n ≡ m) → ((m : ℕ) → z ≡ pos m → m ≤ most → low ≡ m) → low < 2 ^ k → p ≤ most
    → (valid && (n == p)) ≡ same_value (value.Int z) (value.Int (pos p))
meant-tells (negsuc m) k most n low p valid e exact fewer small le = ap (λ b. b && (n == p)) e ∙ sym (other-number (negsuc m) p (λ h. absurd (let q : false ≡ true = ap is_pos h in cc)))
  where
    is_pos : ℤ → Bool
    is_pos (pos n) = true
    is_pos (negsuc n) = false
meant-tells (pos m) k most n low p valid e exact fewer small le = elim (ltb_tells m (2 ^ k)) [
  | inl h ↦ ap (λ b. b && (n == p)) (e ∙ ap (λ b. not (not b)) h.0) ∙ ap (λ (j : ℕ). j == p) (exact m refl h.1) ∙ sym (same-numbers m p)
  | inr h ↦ ap (λ b. b && (n == p)) (e ∙ ap (λ b. not (not b)) h.0) ∙ sym (other-number (pos m) p (λ q.
      let r : m ≡ p = int-pos m p q in let low_is = fewer m refl (omega arith) in let big = h.1 in omega arith))
]
  where
    magnitude_of : ℤ → ℕ
    magnitude_of (pos n) = n
    magnitude_of (negsuc n) = n

    int-pos : (m p : ℕ) → pos m ≡ pos p → m ≡ p
    int-pos m p q = ap magnitude_of q

exact-value : (z : ℤ) (k n : ℕ) → not (not (is_below k z)) ≡ true → ((m : ℕ) → z ≡ pos m → m < 2 ^ k → n ≡ m) → z ≡ pos n
exact-value (negsuc m) k n e exact = absurd (let q : false ≡ true = e in cc)
exact-value (pos m) k n e exact = elim (ltb_tells m (2 ^ k)) [
  | inl h ↦ ap (λ (j : ℕ). pos j) (sym (exact m refl h.1))
  | inr h ↦ absurd (let q : false ≡ true = sym (ap (λ b. not (not b)) h.0) ∙ e in cc)
]

module _ (c : Cells) (f g : Cnf) (s i : CellId) (index : Index) (n : ℕ) (k : CellKind) (word low : List Lit) (beyond : Lit) (over : IsOver c f) (types : SequenceAndNumber c.kinds s i)
    (same : k ≡ kind_at c.kinds i) (is : k ≡ Word word) (held : IsHeld n c.vars c.width k) where
  pub index-named : WordBelow f.vars word
  index-named = let N : CellKind → Type 0 = NamesBelow c.vars in WordBelow-later c.vars f.vars word (subst N is held.named) over.fits

  value-is : (a : List Bool) → decode c a i ≡ value.Int (word_value word a)
  value-is a = decode-kind c a i over.built types.index.0 ∙ ap (kind_value c.texts a (decode c a)) (sym same ∙ is)

  pub is-index-of : FormulaGrows f g → index.first ≡ 1 → ((a : List Bool) (m : ℕ) → word_value word a ≡ pos m → m ≤ length (places_of c s) → number (values low a) ≡ m) → index.bits.items ≡ take (length low) word
      → HasValue g beyond (λ a. not (is_below (length low) (word_value word a))) → ((a : List Bool) (m : ℕ) → word_value word a ≡ pos m → m < 2 ^ length low → number (values index.bits.items a) ≡ m)
      → index.valid.var ≡ beyond.var → ((a : List Bool) → lit_value index.valid a ≡ not (lit_value beyond a)) → IsIndexOf c g s i index
  is-index-of grows first fewer front gate exact var negated = record {
    bits = rw front (WordBelow-take g.vars (length low) word (WordBelow-later f.vars g.vars word index-named grows.vars));
    valid = let b = gate.below in omega arith;
    first = first;
    tells = λ a sat p from to.
        let z = word_value word a in
        meant-tells z (length low) (length (places_of c s)) (number (values index.bits.items a)) (number (values low a)) p (lit_value index.valid a)
        (negated a ∙ ap not (gate.value a sat)) (λ m e lt. exact a m e lt) (λ m e le. fewer a m e le) (low-small a) to
        ∙ ap (λ (v : Value). same_value v (value.Int (pos p))) (sym (value-is a));
    exact = λ a s on. value-is a ∙ ap (λ (z : ℤ). value.Int z) (exact-value (word_value word a) (length low) (number (values index.bits.items a)) (sym (negated a ∙ ap not (gate.value a s)) ∙ on) (λ m e lt. exact a m e lt));
  }
    where
      low-small : (a : List Bool) → number (values low a) < 2 ^ length low
      low-small a = let h = number_lt (values low a) in let n = length-map low (λ l. lit_value l a) in subst (λ (m : ℕ). number (values low a) < 2 ^ m) n h

pub index-later : (c : Cells) (f g : Cnf) (s i : CellId) (index : Index) → IsIndexOf c f s i index → FormulaGrows f g → IsIndexOf c g s i index
index-later c f g s i index h grows = record {
  bits = WordBelow-later f.vars g.vars index.bits.items h.bits grows.vars;
  valid = let v = h.valid in let n = grows.vars in omega arith;
  first = h.first;
  tells = λ a sat. h.tells a (Satisfies-older f g a grows sat);
  exact = λ a sat. h.exact a (Satisfies-older f g a grows sat);
}

-- ---- the place that is meant

pub picks-more : (old mid new : Build) (index : Index) (s v part id : CellId) (hit : Lit) (place : ℕ) (t : SequenceAndItem old.arena.kinds s v) → place < length (places_of old.arena s) → mid.arena ≡ old.arena
    → HasValue mid.formula hit (λ a. is_meant index a (place + index.first)) → ((d : CellId) → part ≡ get_or (places_of old.arena s) place d) → Grows mid new → Chooses mid new hit part v id
    → ReplacesPlace old new s v place (λ a. not (is_meant index a (place + index.first))) id
picks-more old mid new index s v part id hit place t lt same gate is grows chosen = record {
  value = λ d. record {
    there = chosen.value.there;
    value = λ a sat.
        chosen.value.value a sat
        ∙ ap (λ (c : Cells). if lit_value hit a then decode c a part else decode c a v) same
        ∙ ap (λ b. if b then decode old.arena a part else decode old.arena a v) (gate.value a (Satisfies-before mid new a grows sat))
        ∙ ap (λ (p : CellId). if is_meant index a (place + index.first) then decode old.arena a p else decode old.arena a v) (is d)
        ∙ turned (is_meant index a (place + index.first)) (decode old.arena a (get_or (places_of old.arena s) place d)) (decode old.arena a v);
  };
  sort = λ r p q.
      let P : CellId → Type 0 = OfSort old.arena.kinds r in
      let at : OfSort old.arena.kinds r part = subst P (sym (is part)) (place-sorts old.arena.kinds r s p place part lt) in
      chosen.sort r (subst (λ (c : Cells). OfSort c.kinds r part) (sym same) at) (subst (λ (c : Cells). OfSort c.kinds r v) (sym same) q);
}
  where
    turned : (b : Bool) (u w : Value) → (if b then u else w) ≡ (if not b then w else u)
    turned true u w = refl
    turned false u w = refl

pub picks-first : (b : Build) (index : Index) (s part : CellId) (h : IsSequenceCell b.arena.kinds s) → 0 < length (places_of b.arena s) → ((d : CellId) → part ≡ get_or (places_of b.arena s) 0 d) → PicksPlace b b index s 1 part
picks-first b index s part h lt is = record {
  there = sort-there b.arena.kinds h.sort part (let P : CellId → Type 0 = OfSort b.arena.kinds h.sort in subst P (sym (is part)) (place-sorts b.arena.kinds h.sort s h.is 0 part lt));
  value = λ a sat p d l e. ap (decode b.arena a) (is d ∙ ap (λ (n : ℕ). get_or (places_of b.arena s) n d) (let z : 0 ≡ p = omega arith in z));
  sort = λ t q. let P : CellId → Type 0 = OfSort b.arena.kinds t in subst P (sym (is part)) (place-sorts b.arena.kinds t s q 0 part lt);
}

pub picks-next : (old mid new : Build) (index : Index) (s so_far id : CellId) (n : ℕ) (h : IsSequenceCell old.arena.kinds s) → n < length (places_of old.arena s) → PicksPlace old mid index s n so_far → Grows old mid → Grows mid new
    → places_of mid.arena s ≡ places_of old.arena s → ReplacesPlace mid new s so_far n (λ a. not (is_meant index a (n + index.first))) id → PicksPlace old new index s (n + 1) id
picks-next old mid new index s so_far id n h lt picks before grows same one = record {
  there = (one.value id).there;
  value = λ a sat p d l e. (one.value d).value a sat ∙ go a (Satisfies-before mid new a grows sat) p d l e (is_meant index a (n + index.first)) refl;
  sort = λ t q. one.sort t (OfSort-later old mid (sequence_of t) s q before) (picks.sort t q);
}
  where
    go : (a : List Bool) → Satisfies a mid.formula → (p : ℕ) (d : CellId) → p < n + 1 → is_meant index a (p + index.first) ≡ true → (b : Bool) → is_meant index a (n + index.first) ≡ b
        → (if not b then decode mid.arena a so_far else decode mid.arena a (get_or (places_of mid.arena s) n d)) ≡ decode old.arena a (get_or (places_of old.arena s) p d)
    go a s1 p d l e true m =
        let q : p + index.first ≡ n + index.first = sym (meant-number _ _ _ e) ∙ meant-number _ _ _ m in
        let r : n ≡ p = omega arith in
        let here = sort-there old.arena.kinds h.sort (get_or (places_of old.arena s) n d) (place-sorts old.arena.kinds h.sort s h.is n d lt) in
        ap (λ (ps : List CellId). decode mid.arena a (get_or ps n d)) same ∙ decode-before old mid a _ before here ∙ ap (λ (j : ℕ). decode old.arena a (get_or (places_of old.arena s) j d)) r
      where
        meant-number : (v : Bool) (x y : ℕ) → (v && (x == y)) ≡ true → x ≡ y
        meant-number true x y e = elim (eqb_tells x y) [ inl h ↦ h.1 | inr h ↦ absurd (let q : false ≡ true = sym h.0 ∙ e in cc) ]
        meant-number false x y e = absurd (cc)
    go a s1 p d l e false m = picks.value a s1 p d (below p l (is-other p e)) e
      where
        is-other : (p : ℕ) → is_meant index a (p + index.first) ≡ true → p ≢ n
        is-other p e q = let r : true ≡ false = sym e ∙ ap (λ (j : ℕ). is_meant index a (j + index.first)) q ∙ m in absurd (cc)

        below : (p : ℕ) → p < n + 1 → p ≢ n → p < n
        below p l h = grind (arith, h)

-- ---- what the calls answer

module _ (old : Build) (f : Cnf) (s i : CellId) (index : Index) (bits : List Lit) (len : IsLength old.arena old.formula s bits) (grows : FormulaGrows old.formula f) (at : IsIndexOf old.arena f s i index) where
  -- what the sequence gives at the number, by what is meant
  gives : (a : List Bool) → Satisfies a f → (out : Bool) → out ≡ not (lit_value index.valid a && (not (number (values index.bits.items a) == 0) && not (nat_lt (number (values bits a)) (number (values index.bits.items a))))) → (v : Value)
      → ((p : ℕ) (d : CellId) → p < length (places_of old.arena s) → is_meant index a (p + index.first) ≡ true → v ≡ decode old.arena a (get_or (places_of old.arena s) p d))
      → Tells out v (apply (pairs_of (decode old.arena a s)) (decode old.arena a i))
  gives a sat out e v picks =
      subst (λ (ps : List (Value × Value)). Tells out v (apply ps (decode old.arena a i))) (sym (ap pairs_of (len.items a s0) ∙ pairs-sequence (take n ws)))
      (go (lit_value index.valid a) (number (values index.bits.items a)) refl refl)
    where
      s0 : Satisfies a old.formula
      s0 = Satisfies-older old.formula f a grows sat

      n : ℕ
      n = number (values bits a)

      ws : List Value
      ws = place_values old.arena a s

      short : n ≤ length ws
      short = let w = len.within a s0 in let m = length-map (places_of old.arena s) (decode old.arena a) in omega arith

      count : length (take n ws) ≡ n
      count = length-take-le n ws short

      none : (valid : Bool) (m : ℕ) → lit_value index.valid a ≡ valid → number (values index.bits.items a) ≡ m → ((p : ℕ) → 1 ≤ p → p ≤ n → (valid && (m == p)) ≡ false) → out ≡ true → Tells out v (apply (numbered 1 (take n ws)) (decode old.arena a i))
      none valid m ev em h on =
          let w = len.within a s0 in
          subst (λ (o : Option Value). Tells out v o) (sym (apply-none 1 (take n ws) (decode old.arena a i)
          (λ p l r. sym (at.tells a sat p l (omega (arith, count))) ∙ ap (λ b. b && (number (values index.bits.items a) == p)) ev ∙ ap (λ (k : ℕ). valid && (k == p)) em ∙ h p l (omega (arith, count))))) on

      go : (valid : Bool) (m : ℕ) → lit_value index.valid a ≡ valid → number (values index.bits.items a) ≡ m → Tells out v (apply (numbered 1 (take n ws)) (decode old.arena a i))
      go false m ev em = none false m ev em (λ p l r. refl) (e ∙ ap (λ b. not (b && (not (number (values index.bits.items a) == 0) && not (nat_lt n (number (values index.bits.items a)))))) ev)
      go true zero ev em = none true zero ev em (λ p l r. elim (eqb_tells zero p) [ inl h ↦ absurd (let q = h.1 in omega arith) | inr h ↦ h.0 ])
          (e ∙ ap (λ b. not (b && (not (number (values index.bits.items a) == 0) && not (nat_lt n (number (values index.bits.items a)))))) ev ∙ ap (λ (k : ℕ). not (not (k == 0) && not (nat_lt n k))) em)
      go true (suc j) ev em = elim (ltb_tells n (suc j)) [
        | inl h ↦ none true (suc j) ev em (λ p l r. elim (eqb_tells (suc j) p) [ inl q ↦ absurd (let k = q.1 in let m = h.1 in omega arith) | inr q ↦ q.0 ])
            (e ∙ ap (λ b. not (b && (not (number (values index.bits.items a) == 0) && not (nat_lt n (number (values index.bits.items a)))))) ev ∙ ap (λ (k : ℕ). not (not (k == 0) && not (nat_lt n k))) em
            ∙ ap (λ b. not (not (suc j == 0) && not b)) h.0 ∙ last (suc j == 0))
        | inr h ↦ let lt : j < n = let m = h.1 in omega arith in
            let off : out ≡ false = e ∙ ap (λ b. not (b && (not (number (values index.bits.items a) == 0) && not (nat_lt n (number (values index.bits.items a)))))) ev ∙ ap (λ (k : ℕ). not (not (k == 0) && not (nat_lt n k))) em
            ∙ ap (λ b. not (not (suc j == 0) && not b)) h.0 ∙ ap (λ b. not (not b && true)) (eqb-suc-zero j) in
            let here : apply (numbered 1 (take n ws)) (decode old.arena a i) ≡ Some (get_or (take n ws) j v) =
            ap (apply (numbered 1 (take n ws))) (at.exact a sat ev ∙ ap (λ (k : ℕ). value.Int (pos k)) (em ∙ (let q : suc j ≡ j + 1 = omega arith in q))) ∙ apply-at 1 j (take n ws) v (omega (arith, count)) in
            subst (λ (o : Option Value). Tells out v o) (sym here) (off, found j lt em ev)
      ]
        where
          last : (b : Bool) → not (not b && false) ≡ true
          last true = refl
          last false = refl

          found : (j : ℕ) → j < n → number (values index.bits.items a) ≡ suc j → lit_value index.valid a ≡ true → v ≡ get_or (take n ws) j v
          found j lt em ev =
              let w = len.within a s0 in
              let d : CellId = s in
              let meant : is_meant index a (j + index.first) ≡ true = ap (λ b. b && (number (values index.bits.items a) == j + index.first)) ev ∙ ap (λ (k : ℕ). k == j + index.first) em ∙ same (suc j) (j + index.first) (let q = at.first in omega arith) in
              picks j d (omega arith) meant ∙ sym (get_or-map (decode old.arena a) (places_of old.arena s) j d v (omega arith)) ∙ sym (get_or-take n ws j v lt)
            where
              same : (x y : ℕ) → x ≡ y → (x == y) ≡ true
              same x y e = elim (eqb_tells x y) [ inl h ↦ h.0 | inr h ↦ absurd (h.1 e) ]

pub has-place : (old mid new : Build) (s i id : CellId) (index : Index) (bits : List Lit) (out : Lit) → IsLength old.arena old.formula s bits → FormulaGrows old.formula mid.formula → mid.arena ≡ old.arena → FindsPlace old.arena mid.formula s i bits (index, out)
    → Grows mid new → PicksPlace mid new index s (length (places_of old.arena s)) id → HasPlace old new s i (id, out)
has-place old mid new s i id index bits out len before same finds grows picks = record {
  yields = record {
    there = picks.there;
    below = let p = finds.out.below in let q = grows.formula.vars in omega arith;
    tells = λ a sat.
        let s1 = Satisfies-before mid new a grows sat in
        gives old mid.formula s i index bits len before finds.index a s1 (lit_value out a) (finds.out.value a s1) (decode new.arena a id)
        (λ p d lt e. picks.value a sat p d lt e ∙ ap (λ (c : Cells). decode c a (get_or (places_of c s) p d)) same);
  };
  sort = λ t p. picks.sort t (subst (λ (c : Cells). OfSort c.kinds (sequence_of t) s) (sym same) p);
}

pub sets-place : (old mid far new : Build) (s i v id : CellId) (index : Index) (bits : List Lit) (places : List CellId) (t : SequenceNumberAndItem old.arena.kinds s i v) → IsLength old.arena old.formula s bits → FormulaGrows old.formula mid.formula → mid.arena ≡ old.arena
    → IsIndexOf old.arena mid.formula s i index → Grows mid far → ReplacesPlaces mid far index s v (length (places_of mid.arena s)) places → Grows far new → MakesFirst far new bits places id → SetsPlace old new s i v id
sets-place old mid far new s i v id index bits places t len before same at grows h later made = record {
  value = record {
    there = made.value.there;
    value = λ a sat.
        let of : CellId → Value = decode old.arena a in
        let s2 = Satisfies-before far new a later sat in
        let s1 = Satisfies-before mid far a grows s2 in
        let s0 = Satisfies-older old.formula mid.formula a before s1 in
        let n = number (values bits a) in
        let ws = place_values old.arena a s in
        let k : length ws ≡ length (places_of old.arena s) = length-map (places_of old.arena s) of in
        made.value.value a sat ∙ ap (λ (us : List Value). sequence (take n us)) (h.values a s2
        ∙ ap (λ (c : Cells). replaced (is_meant index a) index.first (decode c a v) (take (length (places_of c s)) (place_values c a s))) same
        ∙ ap (λ (us : List Value). replaced (is_meant index a) index.first (of v) us) (take_all (length (places_of old.arena s)) ws (omega arith))
        ∙ ap (λ (m : ℕ). replaced (is_meant index a) m (of v) ws) at.first)
        ∙ ap (λ (ps : List (Value × Value)). value.Fun ps) (sym (ap (λ (ps : List (Value × Value)). override_at ps (of i) (of v)) (ap pairs_of (len.items a s0) ∙ pairs-sequence (take n ws))
        ∙ override-numbered 1 n ws (of i) (of v) (is_meant index a) (λ p l r. at.tells a s1 p l (omega arith))));
  };
  sort = λ r p q. made.sort r (h.sorts r (subst (λ (c : Cells). OfSort c.kinds (sequence_of r) s) (sym same) p) (subst (λ (c : Cells). OfSort c.kinds r v) (sym same) q));
}
