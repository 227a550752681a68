-- The first cells of one list and then those of another, and sequences made so.
use Rattle.std.proofs.Common.{◌≡◌, ℕ, zero, suc, ◌+◌, ◌-◌, ◌^◌, ◌<◌, ◌≤◌, Bool, true, false, List, [], ◌∷◌, ◌++◌, map, length, take, get_or, All, refl, ap, ◌∙◌, sym, subst, arith, ◌⊎◌, inl, inr, below_more}
use Rattle.std.specs.Prelude.{nat_lt, if◌then◌else◌}
use Rattle.std.proofs.lemmas.Bool.{cases_lt, lt-ltb, le-ltb}
use Rattle.std.proofs.lemmas.List.{length-map, length-append, length-take-le, length_push, append-nil, get_or_default, get_or-map, get_or-take, get_or_append_left, get_or-append-add, get_or_push}
use Rattle.std.proofs.lemmas.List.Elements.{All-nil, All-push, All-weaker}
use Rattle.sat_formula.specs.declared.lit.Lit.{Lit}
use Rattle.sat_formula.specs.Lit.{lit_value}
use Rattle.sat_formula.specs.declared.cnf.Cnf.{Cnf}
use Rattle.sat_formula.specs.Formula.{Satisfies, HasValue, Grows as FormulaGrows}
use Rattle.sat_formula.proofs.Extension.{Satisfies-older}
use Rattle.word_blaster.specs.Word.{number, values}
use Rattle.word_blaster.proofs.Bits.{number_lt}
use Rattle.word_blaster.proofs.Words.{values-length}
use Rattle.tla_values.specs.declared.value.Value.{Value}
use Rattle.tla_values.specs.Sequences.{sequence}
use Rattle.cell_arena.specs.declared.build.Build.{Build}
use Rattle.cell_arena.specs.declared.kinds.CellId.{CellId}
use Rattle.cell_arena.specs.Cells.{Cells}
use Rattle.cell_arena.specs.Decode.{decode}
use Rattle.cell_arena.specs.Growth.{Grows}
use Rattle.cell_arena.proofs.Growing.{Satisfies-before, decode-before}
use Rattle.cell_merge.specs.Sorts.{sequence_of, OfSort, SequencesOfOneType}
use Rattle.cell_merge.specs.Choices.{Chooses}
use Rattle.cell_merge.proofs.Edges.{sort-there}
use Rattle.cell_merge.proofs.SortLaws.{OfSort-later}
use Rattle.cell_merge.proofs.FunctionValues.{lists_one}
use Rattle.cell_merge.proofs.Ends.{place-sorts}
use Rattle.sequence_rewriter.specs.Sequences.{MakesSequence, items}
use Rattle.sequence_rewriter.specs.inner.Lengths.{IsLength, MakesFirst, places_of, place_values}
use Rattle.sequence_rewriter.specs.inner.Shifts.{AreLists, ShiftsRight}
use Rattle.sequence_rewriter.specs.inner.Glued.{ListAndCell, IsFrontCell, ChoosesFront}
use Rattle.sequence_rewriter.proofs.Bits.{length-items}

-- ---- one place

past-end : {X : Type 0} (xs : List X) (n : ℕ) (d : X) → length xs ≤ n → get_or xs n d ≡ d
past-end [] n d le = refl
past-end (x ∷ xs) zero d le = absurd (omega arith)
past-end (x ∷ xs) (suc n) d le = past-end xs n d (omega arith)

pub front-past : (b : Build) (bits : List Lit) (xs : List CellId) (y : CellId) (place : ℕ) (t : ListAndCell b.arena.kinds xs y) → length xs ≤ place → IsFrontCell b b bits xs y place y
front-past b bits xs y place t le = record {
  value = record {
    there = sort-there b.arena.kinds t.sort y t.cell;
    value = λ a s. either (nat_lt place (number (values bits a))) a;
  };
  sort = λ r p q. q;
}
  where
    either : (c : Bool) (a : List Bool) → decode b.arena a y ≡ (if c then decode b.arena a (get_or xs place y) else decode b.arena a y)
    either true a = ap (decode b.arena a) (sym (past-end xs place y le))
    either false a = refl

pub front-chosen : (old mid new : Build) (bits : List Lit) (xs : List CellId) (x y id : CellId) (place : ℕ) (above : Lit) → place < length xs → mid.arena ≡ old.arena → x ≡ get_or xs place y → HasValue mid.formula above (λ a. nat_lt place (number (values bits a)))
    → Grows mid new → Chooses mid new above x y id → IsFrontCell old new bits xs y place id
front-chosen old mid new bits xs x y id place above lt same is gate grows chosen = record {
  value = record {
    there = chosen.value.there;
    value = λ a s.
        chosen.value.value a s ∙ ap (λ (c : Cells). if lit_value above a then decode c a x else decode c a y) same
        ∙ ap (λ b. if b then decode old.arena a x else decode old.arena a y) (gate.value a (Satisfies-before mid new a grows s))
        ∙ ap (λ (p : CellId). if nat_lt place (number (values bits a)) then decode old.arena a p else decode old.arena a y) is;
  };
  sort = λ r p q.
      let P : CellId → Type 0 = OfSort old.arena.kinds r in
      chosen.sort r (subst (λ (c : Cells). OfSort c.kinds r x) (sym same) (subst P (sym is) (p place y lt))) (subst (λ (c : Cells). OfSort c.kinds r y) (sym same) q);
}

-- ---- one place more

pub front-none : (b : Build) (bits : List Lit) (xs ys out : List CellId) → out ≡ [] → ChoosesFront b b bits xs ys 0 out
front-none b bits xs ys out is = rw is (record {
  count = refl;
  there = All-nil (λ (p : CellId). p.index < length b.arena.kinds);
  values = λ a s p d lt. absurd (omega arith);
  sorts = λ t p q. All-nil (OfSort b.arena.kinds t);
})

pub front-types : (b c : Build) (xs ys : List CellId) (n : ℕ) (y : CellId) → AreLists b.arena.kinds xs ys → Grows b c → n < length ys → y ≡ get_or ys n y → ListAndCell c.arena.kinds xs y
front-types b c xs ys n y t g lt is = record {
  sort = t.sort;
  list = All-weaker (OfSort b.arena.kinds t.sort) (OfSort c.arena.kinds t.sort) (λ p h. OfSort-later b c t.sort p h g) xs t.left;
  cell = OfSort-later b c t.sort y (let P : CellId → Type 0 = OfSort b.arena.kinds t.sort in subst P (sym is) (t.right n y lt)) g;
}

pub front-more : (old mid new : Build) (bits : List Lit) (xs ys : List CellId) (n : ℕ) (y id : CellId) (out after : List CellId) → AreLists old.arena.kinds xs ys → n < length ys → y ≡ get_or ys n y → ChoosesFront old mid bits xs ys n out → Grows old mid → Grows mid new
    → IsFrontCell mid new bits xs y n id → after ≡ out ++ id ∷ [] → ChoosesFront old new bits xs ys (n + 1) after
front-more old mid new bits xs ys n y id out after t lt is h before grows one pushed =
    let here : OfSort old.arena.kinds t.sort y = (let P : CellId → Type 0 = OfSort old.arena.kinds t.sort in subst P (sym is) (t.right n y lt)) in
    record {
      count = ap length pushed ∙ length_push out id ∙ ap (λ (m : ℕ). m + 1) h.count;
      there = rw pushed (All-push (λ (p : CellId). p.index < length new.arena.kinds) out id (All-weaker (λ (p : CellId). p.index < length mid.arena.kinds) (λ (p : CellId). p.index < length new.arena.kinds) (λ p l. let g = grows.longer in omega arith) out h.there) one.value.there);
      values = λ a s p d.
          let F : ℕ → Type 0 = λ p. decode new.arena a (get_or (out ++ id ∷ []) p d) ≡ (if nat_lt p (number (values bits a)) then decode old.arena a (get_or xs p (get_or ys p d)) else decode old.arena a (get_or ys p d)) in
          rw pushed (below_more F n
          (λ k le.
          let m : k < length out = let c = h.count in omega arith in
          ap (decode new.arena a) (get_or_append_left out (id ∷ []) d k m) ∙ decode-before mid new a _ grows (h.there k d m) ∙ h.values a (Satisfies-before mid new a grows s) k d le)
          (let e : y ≡ get_or ys n d = is ∙ get_or_default ys n y d lt in
          let chosen : (get_or xs n y).index < length old.arena.kinds = in-list t n y lt is in
          ap (decode new.arena a) (get_or_push out id d n h.count) ∙ one.value.value a s
          ∙ ap (λ (v : Value). if nat_lt n (number (values bits a)) then v else decode mid.arena a y) (decode-before old mid a (get_or xs n y) before chosen)
          ∙ ap (λ (v : Value). if nat_lt n (number (values bits a)) then decode old.arena a (get_or xs n y) else v) (decode-before old mid a y before (sort-there old.arena.kinds t.sort y here))
          ∙ ap (λ (c : CellId). if nat_lt n (number (values bits a)) then decode old.arena a (get_or xs n c) else decode old.arena a c) e) p);
      sorts = λ r p q.
          let P : CellId → Type 0 = OfSort old.arena.kinds r in
          rw pushed (All-push (OfSort new.arena.kinds r) out id (All-weaker (OfSort mid.arena.kinds r) (OfSort new.arena.kinds r) (λ c k. OfSort-later mid new r c k grows) out (h.sorts r p q))
          (one.sort r (All-weaker (OfSort old.arena.kinds r) (OfSort mid.arena.kinds r) (λ c k. OfSort-later old mid r c k before) xs p) (OfSort-later old mid r y (subst P (sym is) (q n y lt)) before)));
    }
  where
    in-list : (t : AreLists old.arena.kinds xs ys) (n : ℕ) (y : CellId) → n < length ys → y ≡ get_or ys n y → (get_or xs n y).index < length old.arena.kinds
    in-list t n y lt is = elim (cases_lt n (length xs)) [
      | inl l ↦ sort-there old.arena.kinds t.sort (get_or xs n y) (t.left n y l)
      | inr l ↦ let P : CellId → Type 0 = λ c. c.index < length old.arena.kinds in
          subst P (sym (past-end xs n y l)) (let Q : CellId → Type 0 = OfSort old.arena.kinds t.sort in sort-there old.arena.kinds t.sort y (subst Q (sym is) (t.right n y lt)))
    ]

-- ---- one sequence behind another

-- items of one list and then of another, by their places
glued-items : (n m : ℕ) (us ws vs : List Value) (d : Value) → n + m ≤ length us → n ≤ length ws → m ≤ length vs → ((i : ℕ) → i < n → get_or us i d ≡ get_or ws i d) → ((q : ℕ) → q < m → get_or us (q + n) d ≡ get_or vs q d)
    → take (n + m) us ≡ take n ws ++ take m vs
glued-items n m us ws vs d long left right first second =
    let count : length (take n ws ++ take m vs) ≡ n + m = let a = length-append (take n ws) (take m vs) in let b = length-take-le n ws left in let c = length-take-le m vs right in omega arith in
    let whole : length (take (n + m) us) ≡ n + m = length-take-le (n + m) us long in
    lists_one (take (n + m) us) (take n ws ++ take m vs) d (omega arith) (λ i lt. get_or-take (n + m) us i d (omega arith) ∙ at i (omega (arith, whole)) (cases_lt i n))
  where
    at : (i : ℕ) → i < n + m → (i < n) ⊎ (n ≤ i) → get_or us i d ≡ get_or (take n ws ++ take m vs) i d
    at i lt (inl l) =
        let k : i < length (take n ws) = let b = length-take-le n ws left in omega arith in
        first i l ∙ sym (get_or_append_left (take n ws) (take m vs) d i k ∙ get_or-take n ws i d l)
    at i lt (inr l) =
        let q : i - n < m = omega arith in
        let e : i ≡ (i - n) + n = omega arith in
        let f : i ≡ length (take n ws) + (i - n) = let b = length-take-le n ws left in omega arith in
        ap (λ (k : ℕ). get_or us k d) e ∙ second (i - n) q ∙ sym (get_or-take m vs (i - n) d q)
        ∙ sym (ap (λ (k : ℕ). get_or (take n ws ++ take m vs) k d) f ∙ get_or-append-add (take n ws) (take m vs) (i - n) d)

module _ (old mid far : Build) (g : Cnf) (s t : CellId) (front back sum : List Lit) (mine theirs moved places : List CellId) (types : SequencesOfOneType old.arena.kinds s t)
    (left : IsLength old.arena old.formula s front) (right : IsLength old.arena old.formula t back) (is_mine : mine ≡ places_of old.arena s) (is_theirs : theirs ≡ places_of old.arena t)
    (some : 0 < length (places_of old.arena t)) (to_mid : Grows old mid) (shifts : ShiftsRight old mid front theirs moved) (to_far : Grows mid far) (chosen : ChoosesFront mid far front mine moved (length moved) places)
    (to_over : FormulaGrows far.formula g) (adds : (a : List Bool) → Satisfies a g → number (values sum a) ≡ number (values front a) + number (values back a)) where
  -- the places are enough
  pub places-enough : (a : List Bool) → Satisfies a g → number (values sum a) ≤ length places
  places-enough a sat =
      let s2 = Satisfies-older far.formula g a to_over sat in
      let s0 = Satisfies-before old mid a to_mid (Satisfies-before mid far a to_far s2) in
      let m = right.within a s0 in
      let n = number_lt (values front a) in
      let k = values-length front a in
      let p : 2 ^ length (values front a) ≡ 2 ^ length front = ap (λ (j : ℕ). 2 ^ j) k in
      let c = shifts.count in let e = ap (λ (ps : List CellId). length ps) is_theirs in let d = chosen.count in let f = adds a sat in
      omega arith

  glued-values : (over : Build) → over.arena ≡ far.arena → (a : List Bool) → Satisfies a g → take (number (values sum a)) (map (decode over.arena a) places) ≡ items (decode old.arena a s) ++ items (decode old.arena a t)
  glued-values over same a sat =
      let s2 = Satisfies-older far.formula g a to_over sat in
      let s1 = Satisfies-before mid far a to_far s2 in
      let s0 = Satisfies-before old mid a to_mid s1 in
      let of : CellId → Value = decode old.arena a in
      let n = number (values front a) in
      let m = number (values back a) in
      let us = map (decode over.arena a) places in
      let e = ap (λ (ps : List CellId). length ps) is_theirs in let d = chosen.count in
      let c = shifts.count in let enough = places-enough a sat in let f = adds a sat in
      let v : Value = of s in
      let ks = length-map (places_of old.arena s) of in let kt = length-map (places_of old.arena t) of in let ku = length-map places (decode over.arena a) in
      let wl = left.within a s0 in let wr = right.within a s0 in
      ap (λ (j : ℕ). take j us) f
      ∙ glued-items n m us (place_values old.arena a s) (place_values old.arena a t) v (omega arith) (omega arith) (omega arith)
      (λ i lt.
      let in_places : i < length moved = omega arith in
      let in_mine : i < length mine = let g = ap (λ (ps : List CellId). length ps) is_mine in omega arith in
      let here = sort-there old.arena.kinds types.sort (get_or mine i s) (let P : List CellId → Type 0 = λ ps. All (OfSort old.arena.kinds types.sort) ps in subst P (sym is_mine) (place-sorts old.arena.kinds types.sort s types.left) i s in_mine) in
      get_or-map (decode over.arena a) places i s v (omega arith) ∙ ap (λ (k : Cells). decode k a (get_or places i s)) same ∙ chosen.values a s2 i s in_places
      ∙ ap (λ b. if b then decode mid.arena a (get_or mine i (get_or moved i s)) else decode mid.arena a (get_or moved i s)) (lt-ltb i n lt)
      ∙ ap (decode mid.arena a) (get_or_default mine i (get_or moved i s) s in_mine) ∙ decode-before old mid a (get_or mine i s) to_mid here
      ∙ ap (λ (ps : List CellId). of (get_or ps i s)) is_mine ∙ sym (get_or-map of (places_of old.arena s) i s v (omega arith)))
      (λ q lt.
      let in_places : q + n < length moved = omega arith in
      let in_theirs : q < length theirs = omega arith in
      get_or-map (decode over.arena a) places (q + n) s v (omega arith) ∙ ap (λ (k : Cells). decode k a (get_or places (q + n) s)) same ∙ chosen.values a s2 (q + n) s in_places
      ∙ ap (λ b. if b then decode mid.arena a (get_or mine (q + n) (get_or moved (q + n) s)) else decode mid.arena a (get_or moved (q + n) s)) (le-ltb (q + n) n (omega arith))
      ∙ sym (get_or-map (decode mid.arena a) moved (q + n) s v in_places) ∙ shifts.values a s1 q v in_theirs ∙ ap (λ (ps : List CellId). get_or (map of ps) q v) is_theirs)
      ∙ ap (λ (xs : List Value). xs ++ take m (place_values old.arena a t)) (sym (length-items old.arena old.formula s front a left s0))
      ∙ ap (λ (xs : List Value). items (of s) ++ xs) (sym (length-items old.arena old.formula t back a right s0))

  pub glued : (over new : Build) (id : CellId) → over.arena ≡ far.arena → over.formula ≡ g → Grows over new → MakesFirst over new sum places id
      → MakesSequence old new (λ u. OfSort old.arena.kinds (sequence_of u) s × OfSort old.arena.kinds (sequence_of u) t) (λ a. items (decode old.arena a s) ++ items (decode old.arena a t)) id
  glued over new id same is last made = record {
    value = record {
      there = made.value.there;
      value = λ a sat. made.value.value a sat ∙ ap sequence (glued-values over same a (subst (λ (f : Cnf). Satisfies a f) is (Satisfies-before over new a last sat)));
    };
    sort = λ u p.
        made.sort u (subst (λ (k : Cells). All (OfSort k.kinds u) places) (sym same) (chosen.sorts u
        (All-weaker (OfSort old.arena.kinds u) (OfSort mid.arena.kinds u) (λ c k. OfSort-later old mid u c k to_mid) mine (let P : List CellId → Type 0 = λ ps. All (OfSort old.arena.kinds u) ps in subst P (sym is_mine) (place-sorts old.arena.kinds u s p.0)))
        (shifts.sorts u (let P : List CellId → Type 0 = λ ps. All (OfSort old.arena.kinds u) ps in subst P (sym is_theirs) (place-sorts old.arena.kinds u t p.1)))));
  }

pub no-places : (ps : List CellId) → length ps ≡ 0 → ps ≡ []
no-places [] e = refl
no-places (p ∷ ps) e = absurd (omega arith)

-- behind a sequence nothing
pub glued-none : (b : Build) (s t : CellId) (back : List Lit) (types : SequencesOfOneType b.arena.kinds s t) (front : List Lit) → IsLength b.arena b.formula s front → IsLength b.arena b.formula t back → places_of b.arena t ≡ []
    → MakesSequence b b (λ u. OfSort b.arena.kinds (sequence_of u) s × OfSort b.arena.kinds (sequence_of u) t) (λ a. items (decode b.arena a s) ++ items (decode b.arena a t)) s
glued-none b s t back types front left right none = record {
  value = record {
    there = types.left.0;
    value = λ a sat.
        left.items a sat ∙ ap sequence (sym (length-items b.arena b.formula s front a left sat) ∙ sym (append-nil (items (decode b.arena a s))
        ∙ (refl)) ∙ ap (λ (xs : List Value). items (decode b.arena a s) ++ xs) (sym (length-items b.arena b.formula t back a right sat ∙ ap (λ (ps : List CellId). take (number (values back a)) (map (decode b.arena a) ps)) none
        ∙ take-nil (number (values back a)))));
  };
  sort = λ u p. p.0;
}
  where
    take-nil : (n : ℕ) → ◌≡◌ {A = List Value} (take n []) []
    take-nil zero = refl
    take-nil (suc n) = refl
