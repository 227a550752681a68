-- The items of a sequence by its places.
use Rattle.std.proofs.Common.{◌≡◌, ℕ, ◌+◌, ◌<◌, ◌≤◌, Bool, true, false, not, nat_lt, IsTrue, List, map, length, take}
use Rattle.std.proofs.Common.{get_or, ℤ, pos, negsuc, refl, ap, ◌∙◌, sym, subst, arith}
use Rattle.std.specs.Prelude.{slice_get}
use Rattle.std.proofs.lemmas.Bool.Decides.{Decides-ltb}
use Rattle.std.proofs.lemmas.List.{get_or-map, get_or-take, length-map, length-take-le}
use Rattle.std.proofs.lemmas.Option.{slice_get-get_or, slice_get_past}
use Rattle.sat_formula.specs.declared.lit.Lit.{Lit}
use Rattle.sat_formula.specs.declared.cnf.Cnf.{Cnf}
use Rattle.sat_formula.specs.Lit.{lit_value}
use Rattle.sat_formula.specs.Formula.{HasValue, Satisfies, Grows as FormulaGrows}
use Rattle.sat_formula.proofs.Extension.{Satisfies-older}
use Rattle.word_blaster.specs.Word.{number, values, word_value}
use Rattle.tla_values.specs.Sequences.{numbered, sequence}
use Rattle.tla_values.specs.declared.value.Value.{Value}
use Rattle.tla_values.specs.declared.value.Value.TheVariants as value
use Rattle.cell_arena.specs.declared.build.Build.{Build}
use Rattle.cell_arena.specs.declared.kinds.CellId.{CellId}
use Rattle.cell_arena.specs.declared.kinds.CellKind.{CellKind}
use Rattle.cell_arena.specs.declared.kinds.CellKind.TheVariants.{Seq}
use Rattle.cell_arena.specs.Cells.{Cells as Arena, InRange, WellBuilt, is_index, kind_at}
use Rattle.cell_arena.specs.Decode.{decode, first_places, kind_value}
use Rattle.cell_arena.proofs.Decoding.{decode-kind}
use Rattle.cell_merge.specs.Arrows.{pairs_here, pairs_of}
use Rattle.cell_merge.specs.Composites.{parts_of}
use Rattle.cell_merge.specs.Partial.{Tells}
use Rattle.cell_merge.specs.Sorts.{IsOver, OfSort}
use Rattle.cell_merge.proofs.Edges.{is-sequence, places-sort}
use Rattle.cell_merge.proofs.Ends.{length-in}
use Rattle.cell_merge.proofs.FunctionValues.{results-numbered}
use Rattle.outcome_cells.proofs.OneText.{same-sequence}
use Rattle.member_choices.specs.Folds.{HasPlaceIn, HoldsItems, IsItemAt, IsSequenceIn, items_in}
use Rattle.member_choices.specs.inner.Steps.{IsAbsent}

pub pairs-fun : (ps : List (Value × Value)) → pairs_of (value.Fun ps) ≡ ps
unfolding pairs_of
pairs-fun ps = ap pairs_here (value.outs-Fun ps)

pub items-sequence : (xs : List Value) → items_in (sequence xs) ≡ xs
items-sequence xs = ap (map (λ (q : Value × Value). q.1)) (pairs-fun (numbered 1 xs)) ∙ results-numbered 1 xs

-- ---- how many items

record Holds (c : Arena) (a : List Bool) (s : CellId) (w : List Lit) (ps : List CellId) : Type 0 where
  pub count : ℕ
  pub word : word_value w a ≡ pos count
  pub within : count ≤ length ps
  pub value : decode c a s ≡ sequence (take count (map (decode c a) ps))
  pub items : items_in (decode c a s) ≡ take count (map (decode c a) ps)

holds : (c : Arena) (f : Cnf) (a : List Bool) (s : CellId) (w : List Lit) (ps : List CellId) → WellBuilt c →
    InRange c f → Satisfies a f →
    s.index < length c.kinds → kind_at c.kinds s ≡ Seq w ps → Holds c a s w ps
holds c f a s w ps built ranges sat lt e =
    go (word_value w a) refl (length-in c f a s w ps ranges sat lt e)
  where
    go : (z : ℤ) → word_value w a ≡ z → IsTrue (is_index (length ps + 1) z) → Holds c a s w ps
    go (pos n) is i =
        let v : decode c a s ≡ sequence (take n (map (decode c a) ps)) =
        decode-kind c a s built lt ∙ ap (kind_value c.texts a (decode c a)) e
        ∙ ap (λ (z : ℤ). sequence (first_places z (map (decode c a) ps))) is in
        record {
          count = n;
          word = is;
          within = let k : n < length ps + 1 = (Decides-ltb n (length ps + 1)).0 i in omega arith;
          value = v;
          items = ap items_in v ∙ items-sequence (take n (map (decode c a) ps));
        }
    go (negsuc n) is i = absurd (cc)

held-count : (c : Arena) (a : List Bool) (s : CellId) (w : List Lit) (ps : List CellId) (h : Holds c a s w ps) →
    length (items_in (decode c a s)) ≡ h.count
held-count c a s w ps h =
    ap (λ (vs : List Value). length vs) h.items
    ∙ length-take-le h.count (map (decode c a) ps) (let w = h.within in
    let m : length (map (decode c a) ps) ≡ length ps = length-map ps (decode c a) in omega arith)

-- the word and the places of a sequence
as-sequence : (ks : List CellKind) (s : CellId) → IsSequenceIn ks s →
    (w : List Lit) × (ps : List CellId) × (kind_at ks s ≡ Seq w ps)
as-sequence ks s h = is-sequence (OfSort ks h.sort) (kind_at ks s) h.is.1

pub holds-items : (b : Build) (s : CellId) (n : ℕ) → IsSequenceIn b.arena.kinds s →
    n ≡ length (parts_of (kind_at b.arena.kinds s)) → HoldsItems b s n
holds-items b s n h e =
    let q = as-sequence b.arena.kinds s h in
    let count : n ≡ length q.1 = e ∙ ap (λ (k : CellKind). length (parts_of k)) q.2 in
    record {
      places = e;
      items = λ a sat.
          let r = holds b.arena b.formula a s q.0 q.1 b.built b.ranges sat h.is.0 q.2 in
          r.value ∙ ap sequence (sym r.items) ∙ same-sequence (items_in (decode b.arena a s));
      within = λ a sat.
          let r = holds b.arena b.formula a s q.0 q.1 b.built b.ranges sat h.is.0 q.2 in
          let m = held-count b.arena a s q.0 q.1 r in
          let w = r.within in omega arith;
    }

-- ---- the item at a place

pub is-absent : (c : Arena) (f g : Cnf) (s : CellId) (i : ℕ) (k : CellKind) (w bits : List Lit)
    (ps items : List CellId) (l nl : Lit) →
    IsOver c f → IsSequenceIn c.kinds s → FormulaGrows f g → k ≡ kind_at c.kinds s → k ≡ Seq w ps → items ≡ ps →
    ((a : List Bool) (n : ℕ) → word_value w a ≡ pos n → n ≤ length items → number (values bits a) ≡ n) →
    HasValue g l (λ a. nat_lt i (number (values bits a))) → nl.var ≡ l.var →
    ((a : List Bool) → lit_value nl a ≡ not (lit_value l a)) → IsAbsent c g s i nl
is-absent c f g s i k w bits ps items l nl over h grows same is list low gate var negated = record {
  below = rw var gate.below;
  value = λ a sat.
      let r = holds c f a s w ps over.built over.ranges (Satisfies-older f g a grows sat) h.is.0 (sym same ∙ is) in
      negated a ∙ ap not (gate.value a sat ∙ ap (nat_lt i)
      (low a r.count r.word (subst (λ (xs : List CellId). r.count ≤ length xs) (sym list) r.within)
      ∙ sym (held-count c a s w ps r)));
}

tells : (xs : List Value) (i : ℕ) (v : Value) (out : Bool) → out ≡ not (nat_lt i (length xs)) →
    (i < length xs → v ≡ get_or xs i v) → Tells out v (slice_get xs i)
tells xs i v out e h = go (nat_lt i (length xs)) refl
  where
    go : (t : Bool) → nat_lt i (length xs) ≡ t → Tells out v (slice_get xs i)
    go true n =
        let lt : i < length xs = (Decides-ltb i (length xs)).0 n in
        subst (Tells out v) (sym (slice_get-get_or xs i v lt)) (e ∙ ap not n, h lt)
    go false n =
        let le : length xs ≤ i = let k : i < length xs → ⊥ = λ lt. let m : nat_lt i (length xs) ≡ true =
        (Decides-ltb i (length xs)).1 lt in absurd (cc) in omega (arith, k) in
        subst (Tells out v) (sym (slice_get_past xs i le)) (e ∙ ap not n)

pub item-at : (b c : Build) (s : CellId) (i : ℕ) (part : CellId) (out : Lit) → HasPlaceIn b.arena.kinds s i →
    c.arena ≡ b.arena → FormulaGrows b.formula c.formula →
    ((d : CellId) → part ≡ get_or (parts_of (kind_at b.arena.kinds s)) i d) → part.index < s.index →
    IsAbsent b.arena c.formula s i out → IsItemAt b c s i (part, out)
item-at b c s i part out h same grows at older absent =
    let q = as-sequence b.arena.kinds s (record { sort = h.sort; is = h.is }) in
    let k = h.within in
    let lt : i < length q.1 = subst (λ (j : CellKind). i < length (parts_of j)) q.2 k in
    let is : part ≡ get_or q.1 i part = at part ∙ ap (λ (j : CellKind). get_or (parts_of j) i part) q.2 in
    record {
      yields = record {
        there = rw same (let t = h.is.0 in omega arith);
        below = absent.below;
        tells = λ a sat.
            let r = holds b.arena b.formula a s q.0 q.1 b.built b.ranges
            (Satisfies-older b.formula c.formula a grows sat) h.is.0 q.2 in
            let v : Value = decode b.arena a part in
            let xs : List Value = items_in (decode b.arena a s) in
            let n = held-count b.arena a s q.0 q.1 r in
            subst (λ (d : Arena). Tells (lit_value out a) (decode d a part) (slice_get xs i)) (sym same)
            (tells xs i v (lit_value out a) (absent.value a sat) (λ l.
            let m : i < r.count = omega arith in
            ap (decode b.arena a) is ∙ sym (get_or-map (decode b.arena a) q.1 i part v lt)
            ∙ sym (get_or-take r.count (map (decode b.arena a) q.1) i v m)
            ∙ ap (λ (vs : List Value). get_or vs i v) (sym r.items)));
      };
      sort = λ t p.
          let S = places-sort b.arena.kinds t s q.0 q.1 p q.2 in
          subst (λ (d : Arena). OfSort d.kinds t part) (sym same)
          (subst (OfSort b.arena.kinds t) (sym is) (S i part lt));
    }
