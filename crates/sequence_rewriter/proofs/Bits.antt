-- Sequences by the bits of their lengths.
use Rattle.std.proofs.Common.{◌≡◌, ℕ, suc, ◌+◌, ◌-◌, ◌^◌, ◌<◌, ◌≤◌, Bool, true, false, not, IsTrue, ◌&&◌, List, [], ◌∷◌, ◌++◌, map, length, take, drop, get_or, All, ℤ, pos, refl, ap, ◌∙◌, sym, subst, arith, inl, inr}
use Rattle.std.specs.Prelude.{◌==◌, option_map, if◌then◌else◌}
use Rattle.std.proofs.lemmas.Bool.{eqb-true, lt-ltb}
use Rattle.std.proofs.lemmas.Bool.Decides.{eqb_tells}
use Rattle.std.proofs.lemmas.List.{length-map, length-drop, length-take-le, drop-map, take-map, map_more, map-append, take_all, take_more, length_push, get_or-drop}
use Rattle.std.proofs.lemmas.List.Elements.{All-weaker, All-push, All-drop, All-nil}
use Rattle.sat_formula.specs.declared.lit.Lit.{Lit}
use Rattle.sat_formula.specs.declared.cnf.Cnf.{Cnf}
use Rattle.sat_formula.specs.Lit.{lit_value}
use Rattle.sat_formula.specs.Formula.{Satisfies, HasValue, Grows as FormulaGrows}
use Rattle.sat_formula.proofs.Extension.{Satisfies-older}
use Rattle.word_blaster.specs.Word.{AreFew, IsExact, WordBelow, bit, number, values, word_value, fits_width}
use Rattle.word_blaster.proofs.Words.{WordBelow-later}
use Rattle.tla_values.specs.declared.value.Value.{Value}
use Rattle.tla_values.specs.declared.value.Value.TheVariants as value
use Rattle.tla_values.specs.Sequences.{sequence}
use Rattle.cell_arena.specs.declared.build.Build.{Build}
use Rattle.cell_arena.specs.declared.kinds.CellId.{CellId}
use Rattle.cell_arena.specs.declared.kinds.CellKind.{CellKind}
use Rattle.cell_arena.specs.declared.kinds.CellKind.TheVariants.{Word, Seq}
use Rattle.cell_arena.specs.Cells.{Cells, IsHeld, IsFormed, NamesBelow, kind_at, is_index}
use Rattle.cell_arena.specs.Decode.{decode, first_places}
use Rattle.cell_arena.specs.Growth.{Grows, Adds, Decodes}
use Rattle.cell_arena.proofs.Growing.{Satisfies-before, decode-before, kind-before}
use Rattle.cell_merge.specs.Sorts.{sequence_of, OfSort, OneType}
use Rattle.cell_merge.specs.Arrows.{length_word}
use Rattle.cell_merge.specs.Composites.{parts_of}
use Rattle.cell_merge.specs.Choices.{Chooses}
use Rattle.cell_merge.specs.Partial.{Tells}
use Rattle.cell_merge.proofs.Edges.{is-sequence, sort-there}
use Rattle.cell_merge.proofs.SortLaws.{OfSort-later, sort-word, sort-sequence}
use Rattle.cell_merge.proofs.Shapes.{maps-one}
use Rattle.cell_merge.proofs.Ends.{place-sorts, sequence-value, sequence-range}
use Rattle.sequence_rewriter.specs.Sequences.{IsSequenceCell, IsLengthCell, IsPart, SequenceAndItem, MakesSequence, items, tail_of, where_fits}
use Rattle.sequence_rewriter.specs.declared.replacing.Index.{Index}
use Rattle.sequence_rewriter.specs.inner.Lengths.{IsLength, IsLess, IsCount, MakesFirst, MakesOneMore, ReplacesPlace, ReplacesPlaces, is_meant, places_of, place_values, replaced}
use Rattle.sequence_rewriter.proofs.Lists.{items-sequence, index-number, fits-small, push-items, replaced-push, rest-tells, length-tells}

-- ---- the length of a sequence

-- the low bits of its word are the length
pub is-length : (b : Build) (s : CellId) (h : IsSequenceCell b.arena.kinds s) (k : CellKind) (n : ℕ) (word bits : List Lit) (ps items : List CellId) → k ≡ kind_at b.arena.kinds s → k ≡ Seq word ps → items ≡ ps → IsHeld n b.arena.vars b.arena.width k
    → ((v : ℕ) → WordBelow v word → WordBelow v bits) → AreFew (length items) (length word) bits
    → ((a : List Bool) (m : ℕ) → word_value word a ≡ pos m → m ≤ length items → number (values bits a) ≡ m) → IsLength b.arena b.formula s bits
is-length b s h k n word bits ps items same is list held below few value =
    let N : CellKind → Type 0 = NamesBelow b.arena.vars in
    let F : CellKind → Type 0 = IsFormed b.arena.width in
    let e : kind_at b.arena.kinds s ≡ Seq word ps = sym same ∙ is in
    let long : length (parts_of (kind_at b.arena.kinds s)) ≡ length ps = ap (λ (k : CellKind). length (parts_of k)) e in
    let wide : length word ≡ 32 = (subst F is held.formed).0 in
    let count : length items ≡ length (parts_of (kind_at b.arena.kinds s)) = ap length list ∙ sym long in
    let at : (a : List Bool) → Satisfies a b.formula → (m : ℕ) × (word_value word a ≡ pos m) × (m < length ps + 1) = λ a sat.
    let P : CellKind → Type 0 = λ k. (w : List Lit) (qs : List CellId) → k ≡ Seq w qs → IsTrue (is_index (length qs + 1) (word_value w a)) in
    index-number (length ps + 1) (word_value word a)
    (let Q : CellKind → Type 0 = λ k. IsTrue (is_index (length (parts_of k) + 1) (word_value (length_word k) a)) in subst Q e (sequence-range b.arena b.formula a h.sort s b.ranges sat h.is)) in
    let is_number : (a : List Bool) (sat : Satisfies a b.formula) → number (values bits a) ≡ (at a sat).0 = λ a sat. let m = at a sat in value a m.0 m.1 (let l = m.2 in let c = ap length list in omega arith) in
    record {
      below = below b.formula.vars (WordBelow-later b.arena.vars b.formula.vars word (subst N is held.named) b.fits);
      few = subst (λ (w : ℕ). AreFew (length (parts_of (kind_at b.arena.kinds s))) w bits) wide (subst (λ (m : ℕ). AreFew m (length word) bits) count few);
      within = λ a sat. let m = at a sat in let l = m.2 in let c = is_number a sat in omega arith;
      items = λ a sat.
          let m = at a sat in
          sequence-value b.arena a h.sort s b.built h.is ∙ ap (λ (k : CellKind). sequence (first_places (word_value (length_word k) a) (map (decode b.arena a) (parts_of (kind_at b.arena.kinds s))))) e
          ∙ ap (λ (z : ℤ). sequence (first_places z (map (decode b.arena a) (parts_of (kind_at b.arena.kinds s))))) m.1
          ∙ ap (λ (j : ℕ). sequence (take j (map (decode b.arena a) (parts_of (kind_at b.arena.kinds s))))) (sym (is_number a sat));
    }

-- what it holds, and how much
pub length-items : (c : Cells) (f : Cnf) (s : CellId) (bits : List Lit) (a : List Bool) → IsLength c f s bits → Satisfies a f → items (decode c a s) ≡ take (number (values bits a)) (place_values c a s)
length-items c f s bits a h sat = ap items (h.items a sat) ∙ items-sequence _

pub length-count : (c : Cells) (f : Cnf) (s : CellId) (bits : List Lit) (a : List Bool) → IsLength c f s bits → Satisfies a f → length (items (decode c a s)) ≡ number (values bits a)
length-count c f s bits a h sat =
    ap length (length-items c f s bits a h sat) ∙ length-take-le (number (values bits a)) (place_values c a s) (let w = h.within a sat in let m = length-map (places_of c s) (decode c a) in omega arith)

pub is-count : (f g : Cnf) (bits word : List Lit) (out : Lit) → FormulaGrows f g → ((a : List Bool) → Satisfies a f → number (values bits a) < 2 ^ 31) → IsExact g 32 word out (λ a. pos (number (values bits a))) → IsCount g bits word
is-count f g bits word out grows few exact = record {
  wide = record { below = exact.below; width = exact.width };
  value = λ a s.
      exact.value a s (exact.outside.value a s ∙ ap not (fits-small (number (values bits a)) (few a (Satisfies-older f g a grows s))));
}

-- ---- the cells that the calls make

pub within-count : (f g : Cnf) (bits word : List Lit) (places : List CellId) → FormulaGrows f g → ((a : List Bool) → Satisfies a f → number (values bits a) ≤ length places) → IsCount g bits word
    → (a : List Bool) → Satisfies a g → IsTrue (is_index (length places + 1) (word_value word a))
within-count f g bits word places grows within count a s =
    let P : ℤ → Type 0 = λ z. IsTrue (is_index (length places + 1) z) in
    subst P (sym (count.value a s)) (lt-ltb _ _ (let w = within a (Satisfies-older f g a grows s) in omega arith))

pub makes-first : (old mid new : Build) (bits word : List Lit) (places : List CellId) (id : CellId) → mid.arena ≡ old.arena → IsCount mid.formula bits word → Adds mid new (Seq word places) id → Grows mid new
    → Decodes new id (λ a. sequence (first_places (word_value word a) (map (decode mid.arena a) places))) → MakesFirst old new bits places id
makes-first old mid new bits word places id same count adds grows decodes = record {
  value = record {
    there = decodes.there;
    value = λ a s.
        decodes.value a s ∙ ap (λ (z : ℤ). sequence (first_places z (map (decode mid.arena a) places))) (count.value a (Satisfies-before mid new a grows s))
        ∙ ap (λ (c : Cells). sequence (take (number (values bits a)) (map (decode c a) places))) same;
  };
  sort = λ t h. sort-sequence mid new word places t id adds grows (subst (λ (c : Cells). All (OfSort c.kinds t) places) (sym same) h);
}

pub length-cell : (old mid new : Build) (s id : CellId) (width : ℕ) (bits word : List Lit) (out : Lit) → width ≡ old.arena.width → IsLength old.arena old.formula s bits → FormulaGrows old.formula mid.formula
    → IsExact mid.formula width word out (λ a. pos (number (values bits a))) → Adds mid new (Word word) id → Grows mid new → Decodes new id (λ a. value.Int (word_value word a)) → IsLengthCell old new s (id, out)
length-cell old mid new s id width bits word out wide h before exact adds grows decodes = record {
  yields = record {
    there = decodes.there;
    below = let p = exact.outside.below in let q = grows.formula.vars in omega arith;
    tells = λ a sat.
        let s1 = Satisfies-before mid new a grows sat in
        let s0 = Satisfies-older old.formula mid.formula a before s1 in
        let n = length-count old.arena old.formula s bits a h s0 in
        subst (λ (m : ℕ). Tells (lit_value out a) (decode new.arena a id) (where_fits old.arena.width m (value.Int (pos m)))) (sym n)
        (length-tells (lit_value out a) (decode new.arena a id) old.arena.width (number (values bits a)) (value.Int (pos (number (values bits a))))
        (exact.outside.value a s1 ∙ ap (λ (w : ℕ). not (fits_width w (pos (number (values bits a))))) wide)
        (λ off. decodes.value a sat ∙ ap (λ (z : ℤ). value.Int z) (exact.value a s1 off)));
  };
  sort = sort-word mid new word id adds;
}

-- ---- all items but the first

pub places-more : (ps : List CellId) (from p : ℕ) (d : CellId) (out after : List CellId) → from ≤ p → p < length ps → out ≡ take (p - from) (drop from ps) → d ≡ get_or ps p d → after ≡ out ++ d ∷ [] → after ≡ take (p + 1 - from) (drop from ps)
places-more ps from p d out after le lt h is pushed =
    let m : p - from < length (drop from ps) = let n = length-drop from ps in omega arith in
    let e : d ≡ get_or (drop from ps) (p - from) d = is ∙ ap (λ (j : ℕ). get_or ps j d) (omega arith) ∙ sym (get_or-drop from ps (p - from) d) in
    pushed ∙ ap (λ (us : List CellId). us ++ d ∷ []) h ∙ ap (λ (x : CellId). take (p - from) (drop from ps) ++ x ∷ []) e
    ∙ sym (take_more (drop from ps) (p - from) d m) ∙ ap (λ (j : ℕ). take j (drop from ps)) (omega arith)

pub is-less : (f g : Cnf) (bits less : List Lit) (empty not_empty : Lit) → HasValue g empty (λ a. number (values bits a) == 0) → ((a : List Bool) → lit_value not_empty a ≡ not (lit_value empty a)) → WordBelow g.vars less
    → ((a : List Bool) → Satisfies a g → bit (lit_value not_empty a) ≤ number (values bits a) → number (values less a) + bit (lit_value not_empty a) ≡ number (values bits a)) → IsLess g bits (empty, less)
is-less f g bits less empty not_empty gate negated below value = record {
  empty = gate;
  below = below;
  value = λ a s. go a s (lit_value empty a) refl;
}
  where
    go : (a : List Bool) → Satisfies a g → (e : Bool) → lit_value empty a ≡ e → number (values less a) ≡ number (values bits a) - 1
    go a s true e =
        let z : number (values bits a) ≡ 0 = eqb-true _ _ (sym (gate.value a s) ∙ e) in
        let off : lit_value not_empty a ≡ false = negated a ∙ ap not e in
        let k : bit (lit_value not_empty a) ≡ 0 = ap bit off in
        let v = value a s (omega arith) in omega arith
    go a s false e =
        let on : lit_value not_empty a ≡ true = negated a ∙ ap not e in
        let k : bit (lit_value not_empty a) ≡ 1 = ap bit on in
        let z : 0 < number (values bits a) = positive (number (values bits a)) (sym (gate.value a s) ∙ e) in
        let v = value a s (omega arith) in omega arith
      where
        positive : (n : ℕ) → (n == 0) ≡ false → 0 < n
        positive n e = elim (eqb_tells n 0) [ inl h ↦ absurd (let q : true ≡ false = sym h.0 ∙ e in cc) | inr h ↦ grind (arith, h.1) ]

pub rest-part : (old mid new : Build) (s id : CellId) (bits less : List Lit) (empty : Lit) (places : List CellId) (h : IsSequenceCell old.arena.kinds s) → IsLength old.arena old.formula s bits → FormulaGrows old.formula mid.formula → mid.arena ≡ old.arena
    → IsLess mid.formula bits (empty, less) → places ≡ drop 1 (places_of old.arena s) → Grows mid new → MakesFirst mid new less places id → IsPart old new s (λ a. tail_of (items (decode old.arena a s))) (id, empty)
rest-part old mid new s id bits less empty places h len before same is_less dropped grows made = record {
  yields = record {
    there = made.value.there;
    below = let p = is_less.empty.below in let q = grows.formula.vars in omega arith;
    tells = λ a sat.
        let s1 = Satisfies-before mid new a grows sat in
        let s0 = Satisfies-older old.formula mid.formula a before s1 in
        let n = number (values bits a) in
        let ws = place_values old.arena a s in
        subst (λ (xs : List Value). Tells (lit_value empty a) (decode new.arena a id) (option_map sequence (tail_of xs))) (sym (length-items old.arena old.formula s bits a len s0))
        (rest-tells n ws (lit_value empty a) (decode new.arena a id) (let w = len.within a s0 in let m = length-map (places_of old.arena s) (decode old.arena a) in omega arith) (is_less.empty.value a s1)
        (made.value.value a sat ∙ ap (λ (m : ℕ). sequence (take m (map (decode mid.arena a) places))) (is_less.value a s1)
        ∙ ap (λ (c : Cells). sequence (take (n - 1) (map (decode c a) places))) same
        ∙ ap (λ (us : List CellId). sequence (take (n - 1) (map (decode old.arena a) us))) dropped
        ∙ ap (λ (us : List Value). sequence (take (n - 1) us)) (sym (drop-map (decode old.arena a) 1 (places_of old.arena s)))));
  };
  sort = λ t p. made.sort t (subst (λ (c : Cells). All (OfSort c.kinds t) places) (sym same) (rw dropped (All-drop (OfSort old.arena.kinds t) 1 (places_of old.arena s) (place-sorts old.arena.kinds t s p))));
}

-- ---- places with another cell

-- a sequence has few places
pub few-places : (b : Build) (s : CellId) → IsSequenceCell b.arena.kinds s → length (places_of b.arena s) < 2 ^ 31
few-places b s h =
    let e = is-sequence (OfSort b.arena.kinds h.sort) (kind_at b.arena.kinds s) h.is.1 in
    let F : CellKind → Type 0 = IsFormed b.arena.width in
    let m = ap (λ (k : CellKind). length (parts_of k)) e.2 in
    let l = (subst F e.2 (b.built.held s h.is.0).formed).1 in
    omega arith

pub places-there : (b : Build) (s : CellId) → IsSequenceCell b.arena.kinds s → All (λ p. p.index < length b.arena.kinds) (places_of b.arena s)
places-there b s h = All-weaker (OfSort b.arena.kinds h.sort) (λ p. p.index < length b.arena.kinds) (λ p k. sort-there b.arena.kinds h.sort p k) (places_of b.arena s) (place-sorts b.arena.kinds h.sort s h.is)

-- a place and the other cell have one sort
pub item-types : (ks : List CellKind) (s v part : CellId) (place : ℕ) (t : SequenceAndItem ks s v) → place < length (parts_of (kind_at ks s)) → part ≡ get_or (parts_of (kind_at ks s)) place part → OneType ks v part
item-types ks s v part place t lt is =
    let P : CellId → Type 0 = OfSort ks t.sort in
    record { sort = t.sort; left = t.item; right = subst P (sym is) (place-sorts ks t.sort s t.sequence place part lt) }

pub types-later : (b c : Build) (s v : CellId) → SequenceAndItem b.arena.kinds s v → Grows b c → SequenceAndItem c.arena.kinds s v
types-later b c s v t g = record { sort = t.sort; sequence = OfSort-later b c (sequence_of t.sort) s t.sequence g; item = OfSort-later b c t.sort v t.item g }

pub places-later : (b c : Build) (s v : CellId) (t : SequenceAndItem b.arena.kinds s v) → Grows b c → places_of c.arena s ≡ places_of b.arena s
places-later b c s v t g = ap parts_of (kind-before b c s g (sort-there b.arena.kinds (sequence_of t.sort) s t.sequence))

pub replaces-place : (old mid new : Build) (index : Index) (s v part id : CellId) (hit : Lit) (place : ℕ) (t : SequenceAndItem old.arena.kinds s v) → place < length (places_of old.arena s) → mid.arena ≡ old.arena
    → HasValue mid.formula hit (λ a. is_meant index a (place + index.first)) → ((d : CellId) → part ≡ get_or (places_of old.arena s) place d) → Grows mid new → Chooses mid new hit v part id
    → ReplacesPlace old new s v place (λ a. is_meant index a (place + index.first)) id
replaces-place old mid new index s v part id hit place t lt same gate is grows chosen = record {
  value = λ d. record {
    there = chosen.value.there;
    value = λ a sat.
        chosen.value.value a sat
        ∙ ap (λ (c : Cells). if lit_value hit a then decode c a v else decode c a part) same
        ∙ ap (λ b. if b then decode old.arena a v else decode old.arena a part) (gate.value a (Satisfies-before mid new a grows sat))
        ∙ ap (λ (p : CellId). if is_meant index a (place + index.first) then decode old.arena a v else decode old.arena a p) (is d);
  };
  sort = λ r p q.
      let P : CellId → Type 0 = OfSort old.arena.kinds r in
      let at : OfSort old.arena.kinds r part = subst P (sym (is part)) (place-sorts old.arena.kinds r s p place part lt) in
      chosen.sort r (subst (λ (c : Cells). OfSort c.kinds r v) (sym same) q) (subst (λ (c : Cells). OfSort c.kinds r part) (sym same) at);
}

pub replaces-none : (b : Build) (index : Index) (s v : CellId) (out : List CellId) → out ≡ [] → ReplacesPlaces b b index s v 0 out
replaces-none b index s v out is = rw is (record { there = All-nil (λ (p : CellId). p.index < length b.arena.kinds); count = refl; values = λ a sat. refl; sorts = λ t p q. All-nil (OfSort b.arena.kinds t) })

pub replaces-more : (old mid new : Build) (index : Index) (s v id : CellId) (n : ℕ) (out after : List CellId) (t : SequenceAndItem old.arena.kinds s v) → n < length (places_of old.arena s) → ReplacesPlaces old mid index s v n out → Grows old mid → Grows mid new
    → ReplacesPlace mid new s v n (λ a. is_meant index a (n + index.first)) id → after ≡ out ++ id ∷ [] → ReplacesPlaces old new index s v (n + 1) after
replaces-more old mid new index s v id n out after t lt h before grows one pushed =
    let there = sort-there old.arena.kinds (sequence_of t.sort) s t.sequence in
    let item = sort-there old.arena.kinds t.sort v t.item in
    let ps : List CellId = places_of old.arena s in
    let same : places_of mid.arena s ≡ ps = ap parts_of (kind-before old mid s before there) in
    record {
      there = rw pushed (All-push (λ (p : CellId). p.index < length new.arena.kinds) out id (All-weaker (λ (p : CellId). p.index < length mid.arena.kinds) (λ (p : CellId). p.index < length new.arena.kinds) (λ p l. let g = grows.longer in omega arith) out h.there) (one.value id).there);
      count = ap length pushed ∙ length_push out id ∙ ap (λ (m : ℕ). m + 1) h.count;
      values = λ a sat.
          let of : CellId → Value = decode old.arena a in
          let w : CellId = get_or ps n id in
          let s1 = Satisfies-before mid new a grows sat in
          let older : map (decode new.arena a) out ≡ map (decode mid.arena a) out = maps-one (decode new.arena a) (decode mid.arena a) out out refl (λ i d l. decode-before mid new a _ grows (h.there i d l)) in
          let here : w.index < length old.arena.kinds = sort-there old.arena.kinds t.sort w (place-sorts old.arena.kinds t.sort s t.sequence n id lt) in
          let k : length (take n (map of ps)) ≡ n = length-take-le n (map of ps) (let m = length-map ps of in omega arith) in
          ap (map (decode new.arena a)) pushed ∙ map-append (decode new.arena a) out (id ∷ [])
          ∙ ap (λ (us : List Value). us ++ decode new.arena a id ∷ []) (older ∙ h.values a s1)
          ∙ ap (λ (u : Value). replaced (is_meant index a) index.first (of v) (take n (map of ps)) ++ u ∷ []) ((one.value id).value a sat
          ∙ ap (λ (qs : List CellId). if is_meant index a (n + index.first) then decode mid.arena a v else decode mid.arena a (get_or qs n id)) same
          ∙ ap (λ (u : Value). if is_meant index a (n + index.first) then u else decode mid.arena a w) (decode-before old mid a v before item)
          ∙ ap (λ (u : Value). if is_meant index a (n + index.first) then of v else u) (decode-before old mid a w before here)
          ∙ ap (λ (m : ℕ). if is_meant index a m then of v else of w) (omega arith))
          ∙ sym (ap (λ (us : List Value). replaced (is_meant index a) index.first (of v) us) (take-map of (n + 1) ps ∙ map_more of ps n id lt)
          ∙ replaced-push (is_meant index a) index.first (of v) (map of (take n ps)) (of w)
          ∙ ap (λ (us : List Value). replaced (is_meant index a) index.first (of v) us ++ (if is_meant index a (index.first + length us) then of v else of w) ∷ []) (sym (take-map of n ps)));
      sorts = λ r p q.
          rw pushed (All-push (OfSort new.arena.kinds r) out id (All-weaker (OfSort mid.arena.kinds r) (OfSort new.arena.kinds r) (λ c k. OfSort-later mid new r c k grows) out (h.sorts r p q))
          (one.sort r (OfSort-later old mid (sequence_of r) s p before) (OfSort-later old mid r v q before)));
    }

bit-most : (b : Bool) → bit b ≤ 1
bit-most true = omega arith
bit-most false = omega arith

pub one-more-within : (n m : ℕ) (b : Bool) → n < m → n + bit b ≤ m
one-more-within n m b lt = let h = bit-most b in omega arith

pub one-more : (f : Cnf) (bits more : List Lit) (one : Lit) → ((a : List Bool) → Satisfies a f → lit_value one a ≡ true) → ((a : List Bool) → Satisfies a f → number (values more a) ≡ number (values bits a) + bit (lit_value one a))
    → (a : List Bool) → Satisfies a f → number (values more a) ≡ number (values bits a) + 1
one-more f bits more one on h a s = h a s ∙ ap (λ b. number (values bits a) + bit b) (on a s)

pub makes-one-more : (old mid new : Build) (bits more : List Lit) (places : List CellId) (id : CellId) → mid.arena ≡ old.arena → Grows mid new → ((a : List Bool) → Satisfies a mid.formula → number (values more a) ≡ number (values bits a) + 1)
    → MakesFirst mid new more places id → MakesOneMore old new bits places id
makes-one-more old mid new bits more places id same grows more_is made = record {
  value = record {
    there = made.value.there;
    value = λ a s.
        made.value.value a s ∙ ap (λ (n : ℕ). sequence (take n (map (decode mid.arena a) places))) (more_is a (Satisfies-before mid new a grows s))
        ∙ ap (λ (c : Cells). sequence (take (number (values bits a) + 1) (map (decode c a) places))) same;
  };
  sort = λ t h. made.sort t (subst (λ (c : Cells). All (OfSort c.kinds t) places) (sym same) h);
}

pub pushed-sequence : (old mid new : Build) (index : Index) (s x id : CellId) (out places : List CellId) (t : SequenceAndItem old.arena.kinds s x) → IsLength old.arena old.formula s index.bits.items → index.first ≡ 0
    → ((a : List Bool) → Satisfies a old.formula → lit_value index.valid a ≡ true) → ReplacesPlaces old mid index s x (length (places_of old.arena s)) out → places ≡ out ++ x ∷ [] → Grows old mid → Grows mid new → MakesOneMore mid new index.bits.items places id
    → MakesSequence old new (λ r. OfSort old.arena.kinds (sequence_of r) s × OfSort old.arena.kinds r x) (λ a. items (decode old.arena a s) ++ decode old.arena a x ∷ []) id
pushed-sequence old mid new index s x id out places t len first on h pushed before grows made = record {
  value = record {
    there = made.value.there;
    value = λ a sat.
        let of : CellId → Value = decode old.arena a in
        let n = number (values index.bits.items a) in
        let s1 = Satisfies-before mid new a grows sat in
        let s0 = Satisfies-before old mid a before s1 in
        let ws = place_values old.arena a s in
        let k : length ws ≡ length (places_of old.arena s) = length-map (places_of old.arena s) of in
        made.value.value a sat ∙ ap (λ (us : List CellId). sequence (take (n + 1) (map (decode mid.arena a) us))) pushed
        ∙ ap (λ (us : List Value). sequence (take (n + 1) us)) (map-append (decode mid.arena a) out (x ∷ [])
        ∙ ap (λ (us : List Value). us ++ decode mid.arena a x ∷ []) (h.values a s1)
        ∙ ap (λ (u : Value). replaced (is_meant index a) index.first (of x) (take (length (places_of old.arena s)) ws) ++ u ∷ []) (decode-before old mid a x before (sort-there old.arena.kinds t.sort x t.item))
        ∙ ap (λ (us : List Value). replaced (is_meant index a) index.first (of x) us ++ of x ∷ []) (take_all (length (places_of old.arena s)) ws (omega arith))
        ∙ ap (λ (m : ℕ). replaced (is_meant index a) m (of x) ws ++ of x ∷ []) first)
        ∙ (let e : n + 1 ≡ suc n = omega arith in ap (λ (m : ℕ). sequence (take m (replaced (is_meant index a) 0 (of x) ws ++ of x ∷ []))) e) ∙ ap sequence (push-items n 0 (of x) ws (is_meant index a) (λ p. ap (λ b. b && (n == p)) (on a s0) ∙ ap (λ (m : ℕ). m == p) (omega arith)) (let w = len.within a s0 in omega arith))
        ∙ ap (λ (us : List Value). sequence (us ++ of x ∷ [])) (sym (length-items old.arena old.formula s index.bits.items a len s0));
  };
  sort = λ r p. made.sort r (rw pushed (All-push (OfSort mid.arena.kinds r) out x (h.sorts r p.0 p.1) (OfSort-later old mid r x p.1 before)));
}
