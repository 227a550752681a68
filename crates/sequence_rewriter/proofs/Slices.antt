-- Parts of sequences.
use Rattle.std.proofs.Common.{◌≡◌, ℕ, ◌+◌, ◌-◌, ◌<◌, ◌≤◌, Bool, true, false, not, ◌&&◌, List, map, length, take, drop, get_or, All, ℤ, pos, ap, ◌∙◌, sym, subst, arith, ◌⊎◌, inl, inr, Option, Some, None}
use Rattle.std.specs.Prelude.{option_map, if◌then◌else◌}
use Rattle.std.proofs.lemmas.List.{length-map, length-take-le, length-drop, get_or-take, get_or-drop}
use Rattle.sat_formula.specs.declared.lit.Lit.{Lit}
use Rattle.sat_formula.specs.declared.cnf.Cnf.{Cnf}
use Rattle.sat_formula.specs.Lit.{lit_value}
use Rattle.sat_formula.specs.Formula.{Satisfies, Grows as FormulaGrows}
use Rattle.sat_formula.proofs.Extension.{Satisfies-older}
use Rattle.word_blaster.specs.Word.{number, values, word_value}
use Rattle.tla_values.specs.Order.{same_value}
use Rattle.tla_values.specs.Sequences.{sequence}
use Rattle.tla_values.specs.declared.value.Value.{Value}
use Rattle.tla_values.specs.declared.value.Value.TheVariants as value
use Rattle.tla_values.specs.declared.value.Value.TheVariants.{outs-Int}
use Rattle.tla_values.proofs.Extensional.{same_itself}
use Rattle.cell_arena.specs.declared.build.Build.{Build}
use Rattle.cell_arena.specs.declared.kinds.CellId.{CellId}
use Rattle.cell_arena.specs.Cells.{Cells, kind_at}
use Rattle.cell_arena.specs.Decode.{decode, kind_value}
use Rattle.cell_arena.specs.Growth.{Grows}
use Rattle.cell_arena.proofs.Decoding.{decode-kind}
use Rattle.cell_arena.proofs.Growing.{Satisfies-before}
use Rattle.cell_merge.specs.Sorts.{OfSort, IsOver, number as number_sort}
use Rattle.cell_merge.specs.Partial.{Tells}
use Rattle.cell_merge.proofs.Edges.{is-word}
use Rattle.cell_merge.proofs.FunctionValues.{lists_one}
use Rattle.cell_merge.proofs.Ends.{place-sorts}
use Rattle.sequence_rewriter.specs.declared.replacing.Index.{Index}
use Rattle.sequence_rewriter.specs.declared.slicing.Cut.{Cut}
use Rattle.sequence_rewriter.specs.declared.slicing.Ends.{Ends}
use Rattle.sequence_rewriter.specs.Sequences.{IsPart, SequenceAndNumbers, int_here, int_of, items, part_of}
use Rattle.sequence_rewriter.specs.inner.Lengths.{IsIndexOf, IsLength, MakesFirst, is_meant, places_of, place_values}
use Rattle.sequence_rewriter.specs.inner.Shifts.{ShiftsLeft}
use Rattle.sequence_rewriter.specs.inner.Cuts.{AreEnds, CutsAt, IsCutOf, ends_fit, is_fine}
use Rattle.sequence_rewriter.proofs.Bits.{length-items}
use Rattle.sequence_rewriter.proofs.Cuts.{cut-tells, cut-named, fine-order}

-- ---- the items of a part

part-items : (count shift len : ℕ) (us ws : List Value) (d : Value) → length us ≡ length ws → len ≤ length ws → (count ≡ 0) ⊎ (count + shift ≤ len) → ((q : ℕ) → shift ≤ q → q < length ws → get_or us (q - shift) d ≡ get_or ws q d)
    → take count us ≡ take count (drop shift (take len ws))
part-items count shift len us ws d same le (inl none) moved = ap (λ (k : ℕ). take k us) none ∙ sym (ap (λ (k : ℕ). take k (drop shift (take len ws))) none)
part-items count shift len us ws d same le (inr within) moved =
    let front : length (take len ws) ≡ len = length-take-le len ws le in
    let dropped = length-drop shift (take len ws) in
    let here : length (take count us) ≡ count = length-take-le count us (omega arith) in
    let there : length (take count (drop shift (take len ws))) ≡ count = length-take-le count (drop shift (take len ws)) (omega arith) in
    lists_one (take count us) (take count (drop shift (take len ws))) d (here ∙ sym there) (λ i lt.
    let i_lt : i < count = omega (arith, here) in
    let e : i ≡ (shift + i) - shift = omega arith in
    get_or-take count us i d i_lt ∙ ap (λ (k : ℕ). get_or us k d) e ∙ moved (shift + i) (omega arith) (omega arith)
    ∙ sym (get_or-take count (drop shift (take len ws)) i d i_lt ∙ get_or-drop shift (take len ws) i d ∙ get_or-take len ws (shift + i) d (omega arith)))

-- ---- the numbers of the cells

number-value : (c : Cells) (f : Cnf) (i : CellId) → IsOver c f → OfSort c.kinds number_sort i → (a : List Bool) → decode c a i ≡ value.Int (int_of (decode c a i))
number-value c f i over of a =
    let w = is-word (kind_at c.kinds i) of.1 in
    let e : decode c a i ≡ value.Int (word_value w.0 a) = decode-kind c a i over.built of.0 ∙ ap (kind_value c.texts a (decode c a)) w.1 in
    e ∙ ap (λ (z : ℤ). value.Int z) (sym (ap int_of e ∙ ap int_here (outs-Int (word_value w.0 a))))

index-exact : (c : Cells) (f : Cnf) (s i : CellId) (index : Index) → IsIndexOf c f s i index → (a : List Bool) → Satisfies a f → lit_value index.valid a ≡ true → int_of (decode c a i) ≡ pos (number (values index.bits.items a))
index-exact c f s i index h a sat on = ap int_of (h.exact a sat on) ∙ ap int_here (outs-Int (pos (number (values index.bits.items a))))

index-meant : (c : Cells) (f g : Cnf) (s i : CellId) (index : Index) → IsOver c f → OfSort c.kinds number_sort i → IsIndexOf c g s i index → (a : List Bool) → Satisfies a g → (p : ℕ) → 1 ≤ p → p ≤ length (places_of c s) → int_of (decode c a i) ≡ pos p → is_meant index a p ≡ true
index-meant c f g s i index over of h a sat p from to e =
    h.tells a sat p from to ∙ ap (λ (v : Value). same_value v (value.Int (pos p))) (number-value c f i over of a ∙ ap (λ (z : ℤ). value.Int z) e) ∙ same_itself (value.Int (pos p))

-- ---- a cut of a sequence

module _ (old : Build) (f g : Cnf) (s m n : CellId) (bits : List Lit) (ends : Ends) (cut : Cut) (types : SequenceAndNumbers old.arena.kinds s m n) (over : IsOver old.arena old.formula)
    (len : IsLength old.arena old.formula s bits) (to_ends : FormulaGrows old.formula f) (are : AreEnds old.arena f s m n ends) (to_cut : FormulaGrows f g) (at : CutsAt g ends bits cut) where
  pub cut-of : (a : List Bool) → Satisfies a g → (xs : List Value) → length xs ≡ number (values bits a) →
      IsCutOf xs (int_of (decode old.arena a m)) (int_of (decode old.arena a n)) (lit_value cut.wrong a) (number (values cut.count.items a)) (number (values cut.shift.items a))
  cut-of a sat xs long =
      let s1 = Satisfies-older f g a to_cut sat in
      let s0 = Satisfies-older old.formula f a to_ends s1 in
      let zm = int_of (decode old.arena a m) in
      let zn = int_of (decode old.arena a n) in
      let empty = lit_value ends.empty a in
      let vm = lit_value ends.first.valid a in
      let vn = lit_value ends.last.valid a in
      let nm = number (values ends.first.bits.items a) in
      let nn = number (values ends.last.bits.items a) in
      let w = len.within a s0 in
      let fit : ends_fit ends bits a ≡ is_fine empty vm vn nm nn (length xs) = ap (is_fine empty vm vn nm nn) (sym long) in
      let xm : vm ≡ true → zm ≡ pos nm = index-exact old.arena f s m ends.first are.first a s1 in
      let xn : vn ≡ true → zn ≡ pos nn = index-exact old.arena f s n ends.last are.last a s1 in
      cut-named xs zm zn (lit_value cut.wrong a) (not empty && not (is_fine empty vm vn nm nn (length xs))) (number (values cut.count.items a)) (if is_fine empty vm vn nm nn (length xs) then nn - (nm - 1) else 0) (number (values cut.shift.items a)) (nm - 1)
      (at.wrong.value a sat ∙ ap (λ b. not empty && not b) fit)
      (at.span a sat (λ on. fine-order zm zn empty vm vn nm nn (number (values bits a)) (are.empty.value a s1) xm xn on) ∙ ap (λ b. if b then nn - (nm - 1) else 0) fit)
      (at.start a sat)
      (cut-tells xs zm zn empty vm vn nm nn (are.empty.value a s1) xm xn
      (λ p from to e. index-meant old.arena old.formula f s m ends.first over types.first are.first a s1 p from (omega arith) e)
      (λ p from to e. index-meant old.arena old.formula f s n ends.last over types.last are.last a s1 p from (omega arith) e))

  -- the first places, as many as the sequence has items
  first-values : List Bool → List Value
  first-values a = take (number (values bits a)) (place_values old.arena a s)

  first-count : (a : List Bool) → Satisfies a g → length (first-values a) ≡ number (values bits a)
  unfolding first-values
  first-count a sat =
      let s0 = Satisfies-older old.formula f a to_ends (Satisfies-older f g a to_cut sat) in
      let w = len.within a s0 in
      let k = length-map (places_of old.arena s) (decode old.arena a) in
      length-take-le (number (values bits a)) (place_values old.arena a s) (omega arith)

  -- the places are enough
  pub cut-within : (places moved : List CellId) → places ≡ drop 0 (places_of old.arena s) → length moved ≡ length places → (a : List Bool) → Satisfies a g → number (values cut.count.items a) ≤ length moved
  cut-within places moved is count a sat = go (cut-of a sat (first-values a) (first-count a sat)).within
    where
      go : (number (values cut.count.items a) ≡ 0) ⊎ (number (values cut.count.items a) + number (values cut.shift.items a) ≤ length (first-values a)) → number (values cut.count.items a) ≤ length moved
      go (inl none) = omega arith
      go (inr le) =
          let s0 = Satisfies-older old.formula f a to_ends (Satisfies-older f g a to_cut sat) in
          let w = len.within a s0 in
          let k = first-count a sat in
          let e = ap (λ (ps : List CellId). length ps) is in
          omega arith

  -- what the call gives
  pub sliced : (mid over_cells new : Build) (id : CellId) (places moved : List CellId) → places ≡ drop 0 (places_of old.arena s) → mid.arena ≡ old.arena → mid.formula ≡ g → Grows mid over_cells → ShiftsLeft mid over_cells cut.shift.items places moved
      → Grows over_cells new → MakesFirst over_cells new cut.count.items moved id
      → IsPart old new s (λ a. part_of (items (decode old.arena a s)) (int_of (decode old.arena a m)) (int_of (decode old.arena a n))) (id, cut.wrong)
  unfolding first-values
  sliced mid over_cells new id places moved is same formula_is shifts_grow shifts last made = record {
    yields = record {
      there = made.value.there;
      below = let p = at.wrong.below in let q = shifts_grow.formula.vars in let r = last.formula.vars in let v = ap (λ (f : Cnf). f.vars) formula_is in omega arith;
      tells = λ a sat.
          let s2 = Satisfies-before over_cells new a last sat in
          let s1 = Satisfies-before mid over_cells a shifts_grow s2 in
          let sg : Satisfies a g = subst (λ (f : Cnf). Satisfies a f) formula_is s1 in
          let s0 = Satisfies-older old.formula f a to_ends (Satisfies-older f g a to_cut sg) in
          let ws = place_values old.arena a s in
          let us = map (decode over_cells.arena a) moved in
          let of = cut-of a sg (first-values a) (first-count a sg) in
          let w = len.within a s0 in
          let k = length-map (places_of old.arena s) (decode old.arena a) in
          let j = length-map moved (decode over_cells.arena a) in
          let c = shifts.count in
          let e = ap (λ (ps : List CellId). length ps) is in
          let back : map (decode mid.arena a) places ≡ ws = ap (λ (c : Cells). map (decode c a) places) same ∙ ap (λ (ps : List CellId). map (decode old.arena a) ps) is in
          subst (λ (xs : List Value). Tells (lit_value cut.wrong a) (decode new.arena a id) (option_map sequence (part_of xs (int_of (decode old.arena a m)) (int_of (decode old.arena a n)))))
          (sym (length-items old.arena old.formula s bits a len s0))
          (tell (lit_value cut.wrong a) (decode new.arena a id) (part_of (first-values a) (int_of (decode old.arena a m)) (int_of (decode old.arena a n)))
          (take (number (values cut.count.items a)) (drop (number (values cut.shift.items a)) (first-values a))) of.part
          (made.value.value a sat ∙ ap sequence (part-items (number (values cut.count.items a)) (number (values cut.shift.items a)) (number (values bits a)) us ws (decode old.arena a s) (omega arith) (omega arith)
          (bound a sg of.within)
          (λ q from lt. shifts.values a s2 q (decode old.arena a s) from (omega arith) ∙ ap (λ (vs : List Value). get_or vs q (decode old.arena a s)) back))));
    };
    sort = λ t p.
        made.sort t (shifts.sorts t (subst (λ (c : Cells). All (OfSort c.kinds t) places) (sym same) (let P : List CellId → Type 0 = λ ps. All (OfSort old.arena.kinds t) ps in subst P (sym is) (place-sorts old.arena.kinds t s p))));
  }
    where
      tell : (w : Bool) (v : Value) (part : Option (List Value)) (xs : List Value) → ((w ≡ true) × (part ≡ None)) ⊎ ((w ≡ false) × (part ≡ Some xs)) → v ≡ sequence xs → Tells w v (option_map sequence part)
      tell w v part xs (inl h) is = subst (λ (p : Option (List Value)). Tells w v (option_map sequence p)) (sym h.1) h.0
      tell w v part xs (inr h) is = subst (λ (p : Option (List Value)). Tells w v (option_map sequence p)) (sym h.1) (h.0, is)

      bound : (a : List Bool) → Satisfies a g → (number (values cut.count.items a) ≡ 0) ⊎ (number (values cut.count.items a) + number (values cut.shift.items a) ≤ length (first-values a))
          → (number (values cut.count.items a) ≡ 0) ⊎ (number (values cut.count.items a) + number (values cut.shift.items a) ≤ number (values bits a))
      bound a sg (inl h) = inl h
      bound a sg (inr h) = let k = first-count a sg in inr (omega arith)
