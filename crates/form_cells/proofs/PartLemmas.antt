-- Edges and cells that are listed: of sets, of sequences and of records.
use Rattle.std.proofs.Common.{◌≡◌, ℕ, zero, suc, ◌+◌, ◌-◌, ◌<◌, ◌≤◌, Bool, true, false, not, List, [], ◌∷◌, ◌++◌, map, length, take, get_or, refl, sym, ◌∙◌, ap, ap₂, subst, arith, min, nat_lt, ◌⊎◌, inl, inr}
use Rattle.std.specs.Prelude.{ℤ, pos, negsuc}
use Rattle.std.specs.List.{list_all}
use Rattle.std.proofs.lemmas.List.{append-nil, length-map, length-take, length_push, map_push, take-append-le, take_all, take_more}
use Rattle.std.proofs.lemmas.List.Elements.{All-get_or, All-nil, All-push}
use Rattle.std.proofs.lemmas.Bool.{cases_lt, le-ltb, lt-ltb}
use Rattle.std.proofs.lemmas.Int.{ints}
use Rattle.sat_formula.specs.declared.lit.Lit.{Lit}
use Rattle.sat_formula.specs.declared.cnf.Cnf.{Cnf}
use Rattle.sat_formula.specs.Lit.{IsBelow}
use Rattle.sat_formula.specs.Formula.{Grows as FormulaGrows, HasValue}
use Rattle.sat_formula.proofs.Extension.{Satisfies-older}
use Rattle.word_blaster.specs.Word.{WordBelow, number, sign, signed, taken, values, word_value}
use Rattle.word_blaster.proofs.CountLemmas.{low-last}
use Rattle.word_blaster.proofs.Signs.{signed-is}
use Rattle.word_blaster.proofs.Words.{WordBelow-get, sign-values}
use Rattle.tla_values.specs.declared.value.Value.{Value, out-Value}
use Rattle.tla_values.specs.declared.value.Value.TheVariants as value
use Rattle.tla_values.specs.declared.value.Value.TheOpen as layer
use Rattle.tla_values.proofs.Members.{list_all-set_of}
use Rattle.tla_meaning.specs.Forms.{is_natural}
use Rattle.cell_arena.specs.declared.build.Build.{Build}
use Rattle.cell_arena.specs.declared.kinds.CellId.{CellId}
use Rattle.cell_arena.specs.declared.kinds.CellKind.{CellKind}
use Rattle.cell_arena.specs.declared.kinds.CellKind.TheVariants.{Set, Tup, Word}
use Rattle.cell_arena.specs.Cells.{Cells, IsFormed, IsHeld, NamesBelow, kind_at}
use Rattle.cell_arena.specs.Decode.{decode, first_places, kind_value, present}
use Rattle.cell_arena.proofs.Decoding.{decode-kind}
use Rattle.cell_merge.specs.Arrows.{length_word}
use Rattle.cell_merge.specs.Composites.{parts_of}
use Rattle.cell_merge.specs.Edges.{LeadTo}
use Rattle.cell_merge.specs.Sorts.{OfSort, number as number_sort}
use Rattle.cell_merge.specs.inner.Places.{reaches}
use Rattle.cell_merge.proofs.Edges.{edges-sort, elements-cell, is-sequence, is-set, is-tuple, is-word, negated-value, places-sort}
use Rattle.cell_merge.proofs.FunctionValues.{results-numbered}
use Rattle.cell_merge.proofs.Present.{one, present-append, present-one}
use Rattle.cell_merge.proofs.Unions.{AreNamed-later, edges-named}
use Rattle.function_rewriter.proofs.Composites.{pairs-fun}
use Rattle.sequence_rewriter.specs.Sequences.{IsSequenceCell, items}
use Rattle.form_cells.specs.inner.Listed.{IsSetCell, IsTupleCell, ListsItems, ListsMembers, TellsPlaces}

-- ---- the sign of a number

unset : (bs : List Bool) → sign bs ≡ false → signed bs ≡ pos (number bs)
unfolding taken
unset bs e = signed-is bs ∙ rw e (omega (arith, ints))

natural-sign : (bs : List Bool) → 0 < length bs → is_natural (layer.Int (signed bs)) ≡ not (sign bs)
natural-sign bs some = by_sign (signed bs) (sign bs) refl refl
  where
    by_sign : (z : ℤ) (s : Bool) → signed bs ≡ z → sign bs ≡ s → is_natural (layer.Int z) ≡ not s
    by_sign (pos n) s e k = ap not (sym (low-last bs n some e).0 ∙ k)
    by_sign (negsuc n) true e k = refl
    by_sign (negsuc n) false e k = absurd (let u : negsuc n ≡ pos (number bs) = sym e ∙ unset bs k in omega (arith, ints))

pub not-negative : (b : Build) (x : CellId) (k : CellKind) (w bits : List Lit) (d m : Lit) → x.index < length b.arena.kinds → k ≡ kind_at b.arena.kinds x
    → IsHeld x.index b.arena.vars b.arena.width k → k ≡ Word w → bits ≡ w → m ≡ record { var = (get_or bits (length bits - 1) d).var; neg = not (get_or bits (length bits - 1) d).neg }
    → HasValue b.formula m (λ a. is_natural (out-Value (decode b.arena a x)))
not-negative b x k w bits d m there same held is copied turned =
    let named : WordBelow b.arena.vars w = subst (NamesBelow b.arena.vars) is held.named in
    let wide : length w ≡ b.arena.width = subst (IsFormed b.arena.width) is held.formed in
    let narrow = b.built.narrow.0 in
    let some : 0 < length w = omega arith in
    let l : Lit = get_or w (length w - 1) d in
    let at : get_or bits (length bits - 1) d ≡ l = ap (λ ls. get_or ls (length ls - 1) d) copied in
    let below : l.var < b.formula.vars = WordBelow-get b.arena.vars b.formula.vars w (length w - 1) d named (omega arith) b.fits in
    let var : m.var ≡ l.var = ap (λ (n : Lit). n.var) (turned ∙ ap (λ (n : Lit). record { var = n.var; neg = not n.neg }) at) in
    record {
      below = omega arith;
      value = λ a s.
          negated-value l m a (turned ∙ ap (λ (n : Lit). record { var = n.var; neg = not n.neg }) at) ∙ ap not (sym (sign-values w d a some))
          ∙ sym (natural-sign (values w a) (some-values w a some))
          ∙ sym (ap (λ v. is_natural (out-Value v)) (decode-kind b.arena a x b.built there ∙ ap (kind_value b.arena.texts a (decode b.arena a)) (sym same ∙ is)) ∙ ap is_natural (value.outs-Int (word_value w a)));
    }
  where
    some-values : (w : List Lit) (a : List Bool) → 0 < length w → 0 < length (values w a)
    some-values [] a h = absurd (omega arith)
    some-values (l ∷ w) a h = omega arith

-- ---- the edges of a set

pub members-listed : (b : Build) (s : CellId) (k : CellKind) (es out : List (Lit × CellId)) → k ≡ kind_at b.arena.kinds s → s.index < length b.arena.kinds
    → IsHeld s.index b.arena.vars b.arena.width k → k ≡ Set es → out ≡ es → ListsMembers b s out
members-listed b s k es out same there held is copied = rw copied (record {
  named = edges-named b.arena s.index b.formula.vars k es held is b.fits;
  sorts = λ t h. edges-sort b.arena.kinds t s es h (sym same ∙ is);
  values = λ a sat p.
      sym (ap (list_all p) (elements-cell b.arena a s es (decode-kind b.arena a s b.built there ∙ ap (kind_value b.arena.texts a (decode b.arena a)) (sym same ∙ is)))
      ∙ list_all-set_of p (present a (decode b.arena a) es));
})

pub set-kind : (ks : List CellKind) (s : CellId) (k : CellKind) → IsSetCell ks s → k ≡ kind_at ks s → ((es : List (Lit × CellId)) → k ≡ Set es → ⊥) → ⊥
set-kind ks s k h same other = let e = is-set (OfSort ks h.sort) (kind_at ks s) h.is.1 in other e.0 (same ∙ e.1)

-- ---- the parts of a tuple

pub tuple-kind : (ks : List CellKind) (t : CellId) (k : CellKind) → IsTupleCell ks t → k ≡ kind_at ks t → ((ps : List CellId) → k ≡ Tup ps → ⊥) → ⊥
tuple-kind ks t k h same other = let e = is-tuple h.count (λ i. OfSort ks (h.sorts i)) (kind_at ks t) h.is.1 in other e.0 (same ∙ e.1)

pub tuple-parts : (ks : List CellKind) (t : CellId) (k : CellKind) (ps out : List CellId) → k ≡ kind_at ks t → k ≡ Tup ps → out ≡ ps → out ≡ parts_of (kind_at ks t)
tuple-parts ks t k ps out same is copied = copied ∙ sym (ap parts_of (sym same ∙ is))

-- ---- the places of a sequence

ltb_tells : (m n : ℕ) → ((nat_lt m n ≡ true) × (m < n)) ⊎ ((nat_lt m n ≡ false) × (n ≤ m))
ltb_tells m n = elim (cases_lt m n) [ inl h ↦ inl (lt-ltb m n h, h) | inr h ↦ inr (le-ltb m n h, h) ]

-- a place more, which is there where the length is greater
take-more : (k : ℕ) (xs : List Value) (x : Value) → take k (xs ++ x ∷ []) ≡ take k xs ++ one (nat_lt (length xs) k) x
take-more k xs x = by_test (ltb_tells (length xs) k)
  where
    by_test : ((nat_lt (length xs) k ≡ true) × (length xs < k)) ⊎ ((nat_lt (length xs) k ≡ false) × (k ≤ length xs)) →
        take k (xs ++ x ∷ []) ≡ take k xs ++ one (nat_lt (length xs) k) x
    by_test (inl h) =
        take_all k (xs ++ x ∷ []) (omega (arith, length_push xs x)) ∙ sym (ap₂ (λ l b. l ++ one b x) (take_all k xs (omega arith)) h.0)
    by_test (inr h) = take-append-le k xs (x ∷ []) h.1 ∙ sym (ap (λ b. take k xs ++ one b x) h.0 ∙ append-nil (take k xs))

places-more : (z : ℤ) (xs : List Value) (x : Value) → first_places z (xs ++ x ∷ []) ≡ first_places z xs ++ one (reaches z (length xs)) x
places-more (pos k) xs x = take-more k xs x
places-more (negsuc k) xs x = refl

pub places-none : (c : Cells) (f : Cnf) (s : CellId) (es : List (Lit × CellId)) → es ≡ [] → TellsPlaces c f s 0 es
places-none c f s es e = rw e (record {
  named = All-nil (λ (e : Lit × CellId). IsBelow f.vars e.0);
  sorts = λ t h. All-nil (λ (e : Lit × CellId). OfSort c.kinds t e.1);
  values = λ a sat. sym (nothing (word_value (length_word (kind_at c.kinds s)) a));
})
  where
    nothing : (z : ℤ) → first_places z [] ≡ []
    nothing (pos zero) = refl
    nothing (pos (suc k)) = refl
    nothing (negsuc k) = refl

pub places-turn : (c : Cells) (f g : Cnf) (s : CellId) (i : ℕ) (es after : List (Lit × CellId)) (here : Lit) (part : CellId)
    → TellsPlaces c f s i es → FormulaGrows f g → i < length (parts_of (kind_at c.kinds s))
    → HasValue g here (λ a. reaches (word_value (length_word (kind_at c.kinds s)) a) i) → part ≡ get_or (parts_of (kind_at c.kinds s)) i part
    → after ≡ es ++ (here, part) ∷ [] → TellsPlaces c g s (i + 1) after
places-turn c f g s i es after here part h grows lt tells is pushed = rw pushed (record {
  named = All-push (λ (e : Lit × CellId). IsBelow g.vars e.0) es (here, part) (AreNamed-later f.vars g.vars es h.named grows.vars) tells.below;
  sorts = λ t o.
      let k = is-sequence (OfSort c.kinds t) (kind_at c.kinds s) o.1 in
      let ps : parts_of (kind_at c.kinds s) ≡ k.1 = ap parts_of k.2 in
      All-push (λ (e : Lit × CellId). OfSort c.kinds t e.1) es (here, part) (h.sorts t o)
      (subst (OfSort c.kinds t) (sym (is ∙ ap (λ l. get_or l i part) ps))
      (All-get_or (OfSort c.kinds t) k.1 i part (subst (λ (l : List CellId). i < length l) ps lt) (places-sort c.kinds t s k.0 k.1 o k.2)));
  values = λ a sat.
      let of : CellId → Value = decode c a in
      let ps : List CellId = parts_of (kind_at c.kinds s) in
      let z : ℤ = word_value (length_word (kind_at c.kinds s)) a in
      present-append a of es ((here, part) ∷ []) ∙ ap₂ (λ xs ys. xs ++ ys) (h.values a (Satisfies-older f g a grows sat)) (present-one a of (here, part))
      ∙ ap₂ (λ b n. first_places z (map of (take i ps)) ++ one b (of n)) (tells.value a sat) is
      ∙ ap (λ n. first_places z (map of (take i ps)) ++ one (reaches z n) (of (get_or ps i part))) (sym (length-map (take i ps) of ∙ length-take i ps ∙ least i (length ps) lt))
      ∙ sym (places-more z (map of (take i ps)) (of (get_or ps i part)))
      ∙ ap (first_places z) (sym (ap (map of) (take_more ps i part lt) ∙ map_push of (take i ps) (get_or ps i part)));
})
  where
    least : (i n : ℕ) → i < n → min i n ≡ i
    least i n lt = omega arith

pub items-listed : (b c : Build) (s : CellId) (es : List (Lit × CellId)) (n : ℕ) → IsSequenceCell b.arena.kinds s → c.arena ≡ b.arena
    → length (parts_of (kind_at b.arena.kinds s)) ≤ n → TellsPlaces b.arena c.formula s n es → ListsItems b c s es
items-listed b c s es n h same all tells = record {
  named = tells.named;
  sorts = λ t o. subst (λ (d : Cells). LeadTo d.kinds t es) (sym same) (tells.sorts t o);
  values = λ a sat p.
      let k = is-sequence (OfSort b.arena.kinds h.sort) (kind_at b.arena.kinds s) h.is.1 in
      let of : CellId → Value = decode b.arena a in
      ap (list_all p) (ap (λ d. present a (decode d a) es) same ∙ tells.values a sat
      ∙ ap (λ l. first_places (word_value (length_word (kind_at b.arena.kinds s)) a) (map of l)) (take_all n (parts_of (kind_at b.arena.kinds s)) all)
      ∙ ap (λ j. first_places (word_value (length_word j) a) (map of (parts_of j))) k.2
      ∙ sym (ap items (decode-kind b.arena a s b.built h.is.0 ∙ ap (kind_value b.arena.texts a of) k.2) ∙ ap (map (λ p. p.1)) (pairs-fun _) ∙ results-numbered 1 _));
}

pub number-kind : (ks : List CellKind) (x : CellId) (k : CellKind) → OfSort ks number_sort x → k ≡ kind_at ks x → ((w : List Lit) → k ≡ Word w → ⊥) → ⊥
number-kind ks x k h same other = let e = is-word (kind_at ks x) h.1 in other e.0 (same ∙ e.1)
