-- The parts of records and tuples, read and replaced.
use Rattle.std.proofs.Common.{◌≡◌, ◌≢◌, ℕ, ◌+◌, ◌-◌, ◌<◌, ◌≤◌, Bool, IsTrue, List, [], ◌∷◌, ◌++◌, map, length, take, get_or, set, All, ap, ◌∙◌, sym, subst, arith, Some, pos, ◌⊎◌, inl, inr}
use Rattle.std.specs.List.{zip}
use Rattle.std.proofs.lemmas.Bool.{cases_lt}
use Rattle.std.proofs.lemmas.List.{length-map, length-set, get_or-map, get_or-set_same, get_or-set_other, map-set, take_more}
use Rattle.std.proofs.lemmas.List.Elements.{All-nil}
use Rattle.tla_values.specs.Sets.{apply, distinct, function_of, override_at}
use Rattle.tla_values.specs.Sequences.{numbered, sequence}
use Rattle.tla_values.specs.declared.value.Value.{Value}
use Rattle.tla_values.specs.declared.value.Value.TheVariants as value
use Rattle.tla_values.specs.declared.value.Value.TheVariants.{outs-Fun}
use Rattle.cell_arena.specs.declared.build.Build.{Build}
use Rattle.cell_arena.specs.declared.kinds.CellId.{CellId}
use Rattle.cell_arena.specs.declared.kinds.CellKind.{CellKind}
use Rattle.cell_arena.specs.declared.kinds.CellKind.TheVariants.{Bit, Word, Text, Set, Fun, Rec, Tup, Seq}
use Rattle.cell_arena.specs.Cells.{Cells, WellBuilt, IsFormed, RefersBelow, kind_at}
use Rattle.cell_arena.specs.Decode.{decode}
use Rattle.cell_arena.specs.Growth.{Grows}
use Rattle.cell_arena.proofs.Decoding.{decode-kind}
use Rattle.cell_merge.specs.Sorts.{Sort, OfSort, IsRecord, IsTuple, record_of, tuple_of}
use Rattle.cell_merge.specs.Composites.{parts_of, IsComposite, FitsParts}
use Rattle.cell_merge.proofs.Edges.{is-record, is-tuple}
use Rattle.cell_merge.proofs.FunctionValues.{apply_function, apply_zip}
use Rattle.cell_merge.proofs.Names.{place-one}
use Rattle.cell_merge.proofs.Shapes.{part-sort, composed-value, other-value, other-sort}
use Rattle.cell_merge.proofs.SortLaws.{OfSort-later, added-kind, added-there}
use Rattle.function_rewriter.specs.Functions.{pairs_here, pairs_of, HasField, IsField, SetsField, HasItem, IsItem, SetsItem}
use Rattle.function_rewriter.specs.inner.Places.{HasPlace, StandsAt, Finds, Replaces}
use Rattle.function_rewriter.proofs.Overrides.{override_function, override_zip, apply_numbered, override_numbered}

pub pairs-fun : (ps : List (Value × Value)) → pairs_of (value.Fun ps) ≡ ps
unfolding pairs_of
pairs-fun ps = ap pairs_here (outs-Fun ps)

abbrev keys : List (List ℕ) → List Value
keys names = map (λ t. value.Text t) names

-- one copied part more
pub copied-more : (ps : List CellId) (i : ℕ) (part : CellId) (before after : List CellId) → i < length ps → before ≡ take i ps → part ≡ get_or ps i part → after ≡ before ++ part ∷ [] → after ≡ take (i + 1) ps
copied-more ps i part before after lt h is pushed = pushed ∙ ap (λ l. l ++ part ∷ []) h ∙ ap (λ p. take i ps ++ p ∷ []) is ∙ sym (take_more ps i part lt)

-- what each part has, where one is replaced
set-each : (P : ℕ → CellId → Type 0) (ps : List CellId) (place : ℕ) (v : CellId) → place < length ps → ((j : ℕ) (d : CellId) → j < length ps → P j (get_or ps j d)) → P place v
    → (j : ℕ) (d : CellId) → j < length (set ps place v) → P j (get_or (set ps place v) j d)
set-each P ps place v lt all one j d le = go (cases_lt j place) (cases_lt place j)
  where
    n : length (set ps place v) ≡ length ps
    n = length-set ps place v

    inside : j < length ps
    inside = let m = n in omega arith

    other : j ≢ place → P j (get_or (set ps place v) j d)
    other h = subst (P j) (sym (get_or-set_other ps place j v d h)) (all j d inside)

    go : (j < place) ⊎ (place ≤ j) → (place < j) ⊎ (j ≤ place) → P j (get_or (set ps place v) j d)
    go (inl p) q = other (omega arith)
    go (inr p) (inl q) = other (omega arith)
    go (inr p) (inr q) =
        let same : place ≡ j = omega arith in
        let Q : ℕ → Type 0 = λ k. P k (get_or (set ps place v) k d) in
        subst Q same (subst (P place) (sym (get_or-set_same ps place v d lt)) one)

parts-older : (n : ℕ) (k : CellKind) → RefersBelow n k → All (λ (p : CellId). p.index < n) (parts_of k)
parts-older n (Bit l) h = All-nil (λ (p : CellId). p.index < n)
parts-older n (Word w) h = All-nil (λ (p : CellId). p.index < n)
parts-older n (Text w) h = All-nil (λ (p : CellId). p.index < n)
parts-older n (Set es) h = All-nil (λ (p : CellId). p.index < n)
parts-older n (Fun es) h = All-nil (λ (p : CellId). p.index < n)
parts-older n (Rec fs) h = λ i d lt.
    let le : i < length fs = let m = length-map fs (λ (f : List ℕ × CellId). f.1) in omega arith in
    let P : CellId → Type 0 = λ p. p.index < n in
    subst P (sym (get_or-map (λ (f : List ℕ × CellId). f.1) fs i ([], d) d le)) (h i ([], d) le)
parts-older n (Tup ps) h = h
parts-older n (Seq w ps) h = h

-- other parts that fit
pub fits-set : (c : Cells) (id : CellId) (place : ℕ) (v : CellId) (ps : List CellId) → WellBuilt c → HasPlace c.kinds id place → v.index < length c.kinds → ps ≡ set (parts_of (kind_at c.kinds id)) place v → FitsParts c.kinds id ps
fits-set c id place v ps built h there is =
    let qs : List CellId = parts_of (kind_at c.kinds id) in
    let lt = h.there in
    let older = parts-older id.index (kind_at c.kinds id) (built.held id lt).older in
    rw is (record {
      there = lt;
      composite = h.composite;
      count = length-set qs place v;
      parts = set-each (λ j p. p.index < length c.kinds) qs place v h.within (λ j d le. let m = older j d le in omega arith) there;
    })

-- ---- records

module _ (names : List (List ℕ)) (s : ℕ → Sort) where
  module _ (ks : List CellKind) (r : CellId) (is : OfSort ks (record_of names s) r) where
    pub record-fields : (fs : List (List ℕ × CellId)) × (kind_at ks r ≡ Rec fs)
    record-fields = is-record names (λ i. OfSort ks (s i)) (kind_at ks r) is.1

    pub record-composite : IsComposite (kind_at ks r)
    record-composite = let P : CellKind → Type 0 = IsComposite in subst P (sym record-fields.1) tt

    record-here : IsRecord names (λ i. OfSort ks (s i)) (Rec record-fields.0)
    record-here = let P : CellKind → Type 0 = IsRecord names (λ i. OfSort ks (s i)) in subst P record-fields.1 is.1

    pub record-names : map (λ (f : List ℕ × CellId). f.0) record-fields.0 ≡ names
    record-names = record-here.0

    pub record-count : length (parts_of (kind_at ks r)) ≡ length names
    record-count = ap (λ (k : CellKind). length (parts_of k)) record-fields.1 ∙ record-here.1.0

  module _ (c : Cells) (r : CellId) (built : WellBuilt c) (is : OfSort c.kinds (record_of names s) r) where
    pub names-apart : IsTrue (distinct (keys names))
    names-apart =
        let P : CellKind → Type 0 = IsFormed c.width in
        subst (λ (ns : List (List ℕ)). IsTrue (distinct (keys ns))) (record-names c.kinds r is) (subst P (record-fields c.kinds r is).1 (built.held r is.0).formed)

    record-value : (a : List Bool) → decode c a r ≡ value.Fun (function_of (zip (keys names) (map (decode c a) (parts_of (kind_at c.kinds r)))))
    record-value a = decode-kind c a r built is.0 ∙ composed-value c.kinds (record_of names s) r is (record-composite c.kinds r is) c.texts a (decode c a)

    record-pairs : (a : List Bool) → pairs_of (decode c a r) ≡ function_of (zip (keys names) (map (decode c a) (parts_of (kind_at c.kinds r))))
    record-pairs a = ap pairs_of (record-value a) ∙ pairs-fun _

-- the key at the place of the name
key-at : (names : List (List ℕ)) (name : List ℕ) (place : ℕ) (d : Value) → place < length names → get_or names place [] ≡ name → value.Text name ≡ get_or (keys names) place d
key-at names name place d lt e = sym (get_or-map (λ t. value.Text t) names place [] d lt ∙ ap (λ t. value.Text t) e)

-- two sorts of one record name the same fields
names-one : (ks : List CellKind) (r : CellId) (ms ns : List (List ℕ)) (s t : ℕ → Sort) → OfSort ks (record_of ms s) r → OfSort ks (record_of ns t) r → ms ≡ ns
names-one ks r ms ns s t p q =
    let b = is-record ms (λ i. OfSort ks (s i)) (kind_at ks r) p.1 in
    let P : CellKind → Type 0 = IsRecord ms (λ i. OfSort ks (s i)) in
    let Q : CellKind → Type 0 = IsRecord ns (λ i. OfSort ks (t i)) in
    sym (subst P b.1 p.1).0 ∙ (subst Q b.1 q.1).0

place-is : (c : Cells) (r : CellId) (name : List ℕ) (place i : ℕ) (names : List (List ℕ)) (s : ℕ → Sort) → WellBuilt c → StandsAt c.kinds r name place → OfSort c.kinds (record_of names s) r → i < length names
    → get_or names i [] ≡ name → place ≡ i
place-is c r name place i names s built at is lt e =
    let same : at.names ≡ names = names-one c.kinds r at.names names at.sorts s at.is is in
    let n = ap length same in
    place-one names (names-apart names s c r built is) place i (let m = at.within in omega arith) lt (ap (λ (ns : List (List ℕ)). get_or ns place []) (sym same) ∙ at.named ∙ sym e)

pub stands-within : (ks : List CellKind) (r : CellId) (name : List ℕ) (place : ℕ) → StandsAt ks r name place → place < length (parts_of (kind_at ks r))
stands-within ks r name place at = let n = record-count at.names at.sorts ks r at.is in let m = at.within in omega arith

pub record-place : (ks : List CellKind) (r : CellId) (name : List ℕ) (place : ℕ) → StandsAt ks r name place → HasPlace ks r place
record-place ks r name place at = record { there = at.is.0; composite = record-composite at.names at.sorts ks r at.is; within = stands-within ks r name place at }

pub is-field : (b : Build) (r : CellId) (name : List ℕ) (place : ℕ) (id : CellId) → StandsAt b.arena.kinds r name place → id ≡ get_or (parts_of (kind_at b.arena.kinds r)) place id → IsField b r name id
is-field b r name place id at is =
    let c : Cells = b.arena in
    let names : List (List ℕ) = at.names in
    let ps : List CellId = parts_of (kind_at c.kinds r) in
    let n = record-count names at.sorts c.kinds r at.is in
    let lt = stands-within c.kinds r name place at in
    record {
      gives = λ a.
          let of : CellId → Value = decode c a in
          let d : Value = of id in
          let vs : List Value = map of ps in
          let long : length vs ≡ length (keys names) = length-map ps of ∙ n ∙ sym (length-map names (λ t. value.Text t)) in
          let le : place < length (keys names) = let m = length-map names (λ t. value.Text t) in let k = at.within in omega arith in
          ap (λ l. apply l (value.Text name)) (record-pairs names at.sorts c r b.built at.is a) ∙ apply_function (zip (keys names) vs) (value.Text name)
          ∙ ap (apply (zip (keys names) vs)) (key-at names name place d at.within at.named) ∙ apply_zip (keys names) vs place d (names-apart names at.sorts c r b.built at.is) long le
          ∙ ap (λ v. Some v) (get_or-map of ps place id d lt ∙ ap of (sym is));
      sort = λ ns s i h le e.
          let same : place ≡ i = place-is c r name place i ns s b.built at h le e in
          let P : ℕ → Type 0 = λ j. OfSort c.kinds (s j) id in
          let Q : CellId → Type 0 = OfSort c.kinds (s place) in
          subst P same (subst Q (sym is) (part-sort c.kinds (record_of ns s) r h (record-composite ns s c.kinds r h) place id lt));
    }

pub sets-field : (old new : Build) (r : CellId) (name : List ℕ) (place : ℕ) (v id : CellId) → StandsAt old.arena.kinds r name place → Replaces old new r place v id → Grows old new
    → SetsField old new r name v id
sets-field old new r name place v id at made grows =
    let c : Cells = old.arena in
    let names : List (List ℕ) = at.names in
    let ps : List CellId = parts_of (kind_at c.kinds r) in
    let n = record-count names at.sorts c.kinds r at.is in
    let lt = stands-within c.kinds r name place at in
    record {
      gives = record {
        there = made.value.there;
        value = λ a s.
            let of : CellId → Value = decode c a in
            let d : Value = of v in
            let vs : List Value = map of ps in
            let long : length vs ≡ length (keys names) = length-map ps of ∙ n ∙ sym (length-map names (λ t. value.Text t)) in
            let le : place < length (keys names) = let m = length-map names (λ t. value.Text t) in let k = at.within in omega arith in
            made.value.value a s ∙ other-value c.kinds (record_of names at.sorts) r at.is (record-composite names at.sorts c.kinds r at.is) c.texts a of (set ps place v)
            ∙ ap (λ us. value.Fun (function_of (zip (keys names) us))) (map-set of ps place v)
            ∙ ap (λ us. value.Fun (function_of us)) (sym (override_zip (keys names) vs place d d (names-apart names at.sorts c r old.built at.is) long le))
            ∙ ap (λ us. value.Fun us) (sym (override_function (zip (keys names) vs) (get_or (keys names) place d) d))
            ∙ ap (λ k. value.Fun (override_at (function_of (zip (keys names) vs)) k d)) (sym (key-at names name place d at.within at.named))
            ∙ ap (λ us. value.Fun (override_at us (value.Text name) d)) (sym (record-pairs names at.sorts c r old.built at.is a));
      };
      sort = λ ns s i h le e w.
          let same : place ≡ i = place-is c r name place i ns s old.built at h le e in
          let P : ℕ → CellId → Type 0 = λ j p. OfSort new.arena.kinds (s j) p in
          let R : ℕ → Type 0 = λ j. OfSort c.kinds (s j) v in
          let composite = record-composite ns s c.kinds r h in
          other-sort c.kinds (record_of ns s) r h composite new.arena.kinds id (set ps place v) (added-there old new _ id made.cell) (added-kind old new _ id made.cell) (length-set ps place v)
          (set-each P ps place v lt (λ j d k. OfSort-later old new (s j) _ (part-sort c.kinds (record_of ns s) r h composite j d k) grows) (OfSort-later old new (s place) v (subst R (sym same) w) grows));
    }

-- the first place of the name in the fields of the record
pub stands-at : (ks : List CellKind) (r : CellId) (name : List ℕ) (place : ℕ) (k : CellKind) (fs items : List (List ℕ × CellId)) → HasField ks r name → k ≡ kind_at ks r → k ≡ Rec fs → items ≡ fs
    → Finds items name place → StandsAt ks r name place
stands-at ks r name place k fs items h same is list found =
    let first : List ℕ × CellId → List ℕ = λ (f : List ℕ × CellId). f.0 in
    let P : CellKind → Type 0 = IsRecord h.names (λ i. OfSort ks (h.sorts i)) in
    let ns : map first items ≡ h.names = ap (map first) list ∙ (subst P (sym same ∙ is) h.is.1).0 in
    let n : length items ≡ length h.names = sym (length-map items first) ∙ ap length ns in
    let d : List ℕ × CellId = ([], r) in
    let lt : h.place < length items = let m = h.within in omega arith in
    let at = found h.place d lt (sym (get_or-map first items h.place d [] lt) ∙ ap (λ (l : List (List ℕ)). get_or l h.place []) ns ∙ h.named) in
    record {
      names = h.names;
      sorts = h.sorts;
      is = h.is;
      within = let m = at.within in omega arith;
      named = ap (λ (l : List (List ℕ)). get_or l place []) (sym ns) ∙ get_or-map first items place d [] at.within ∙ at.named d;
    }

-- a record is one
pub field-record : (ks : List CellKind) (r : CellId) (name : List ℕ) (k : CellKind) → HasField ks r name → k ≡ kind_at ks r → ((fs : List (List ℕ × CellId)) → k ≡ Rec fs → ⊥) → ⊥
field-record ks r name k h same none = let b = record-fields h.names h.sorts ks r h.is in none b.0 (same ∙ b.1)

-- ---- tuples

module _ (n : ℕ) (s : ℕ → Sort) where
  module _ (ks : List CellKind) (t : CellId) (is : OfSort ks (tuple_of n s) t) where
    tuple-parts : (ps : List CellId) × (kind_at ks t ≡ Tup ps)
    tuple-parts = is-tuple n (λ i. OfSort ks (s i)) (kind_at ks t) is.1

    pub tuple-composite : IsComposite (kind_at ks t)
    tuple-composite = let P : CellKind → Type 0 = IsComposite in subst P (sym tuple-parts.1) tt

    pub tuple-count : length (parts_of (kind_at ks t)) ≡ n
    tuple-count =
        let P : CellKind → Type 0 = IsTuple n (λ i. OfSort ks (s i)) in
        let h = subst P tuple-parts.1 is.1 in
        ap (λ (k : CellKind). length (parts_of k)) tuple-parts.1 ∙ h.0

  tuple-pairs : (c : Cells) (t : CellId) → WellBuilt c → OfSort c.kinds (tuple_of n s) t → (a : List Bool) → pairs_of (decode c a t) ≡ numbered 1 (map (decode c a) (parts_of (kind_at c.kinds t)))
  tuple-pairs c t built is a =
      ap pairs_of (decode-kind c a t built is.0 ∙ composed-value c.kinds (tuple_of n s) t is (tuple-composite c.kinds t is) c.texts a (decode c a)) ∙ pairs-fun _

pub tuple-place : (ks : List CellKind) (t : CellId) (i : ℕ) → HasItem ks t i → HasPlace ks t (i - 1)
tuple-place ks t i h = record {
  there = h.is.0;
  composite = tuple-composite h.count h.sorts ks t h.is;
  within = let n = tuple-count h.count h.sorts ks t h.is in let p = h.from in let q = h.to in omega arith;
}

number-at : (i : ℕ) → 1 ≤ i → value.Int (pos i) ≡ value.Int (pos (1 + (i - 1)))
number-at i h = ap (λ (k : ℕ). value.Int (pos k)) (omega arith)

pub is-item : (b : Build) (t : CellId) (i : ℕ) (id : CellId) → HasItem b.arena.kinds t i → id ≡ get_or (parts_of (kind_at b.arena.kinds t)) (i - 1) id → IsItem b t i id
is-item b t i id h is =
    let c : Cells = b.arena in
    let ps : List CellId = parts_of (kind_at c.kinds t) in
    let lt = (tuple-place c.kinds t i h).within in
    record {
      gives = λ a.
          let of : CellId → Value = decode c a in
          let vs : List Value = map of ps in
          let le : i - 1 < length vs = let m = length-map ps of in omega arith in
          ap (λ l. apply l (value.Int (pos i))) (tuple-pairs h.count h.sorts c t b.built h.is a) ∙ ap (apply (numbered 1 vs)) (number-at i h.from) ∙ apply_numbered vs 1 (i - 1) (of id) le
          ∙ ap (λ v. Some v) (get_or-map of ps (i - 1) id (of id) lt ∙ ap of (sym is));
      sort = λ n s k.
          let Q : CellId → Type 0 = OfSort c.kinds (s (i - 1)) in
          subst Q (sym is) (part-sort c.kinds (tuple_of n s) t k (tuple-composite n s c.kinds t k) (i - 1) id lt);
    }

pub sets-item : (old new : Build) (t : CellId) (i : ℕ) (v id : CellId) → HasItem old.arena.kinds t i → Replaces old new t (i - 1) v id → Grows old new → SetsItem old new t i v id
sets-item old new t i v id h made grows =
    let c : Cells = old.arena in
    let ps : List CellId = parts_of (kind_at c.kinds t) in
    let lt = (tuple-place c.kinds t i h).within in
    record {
      gives = record {
        there = made.value.there;
        value = λ a s.
            let of : CellId → Value = decode c a in
            let vs : List Value = map of ps in
            let le : i - 1 < length vs = let m = length-map ps of in omega arith in
            made.value.value a s ∙ other-value c.kinds (tuple_of h.count h.sorts) t h.is (tuple-composite h.count h.sorts c.kinds t h.is) c.texts a of (set ps (i - 1) v)
            ∙ ap sequence (map-set of ps (i - 1) v)
            ∙ ap (λ us. value.Fun us) (sym (override_numbered vs 1 (i - 1) (of v) le))
            ∙ ap (λ k. value.Fun (override_at (numbered 1 vs) k (of v))) (sym (number-at i h.from))
            ∙ ap (λ us. value.Fun (override_at us (value.Int (pos i)) (of v))) (sym (tuple-pairs h.count h.sorts c t old.built h.is a));
      };
      sort = λ n s k w.
          let P : ℕ → CellId → Type 0 = λ j p. OfSort new.arena.kinds (s j) p in
          let composite = tuple-composite n s c.kinds t k in
          other-sort c.kinds (tuple_of n s) t k composite new.arena.kinds id (set ps (i - 1) v) (added-there old new _ id made.cell) (added-kind old new _ id made.cell) (length-set ps (i - 1) v)
          (set-each P ps (i - 1) v lt (λ j d q. OfSort-later old new (s j) _ (part-sort c.kinds (tuple_of n s) t k composite j d q) grows) (OfSort-later old new (s (i - 1)) v w grows));
    }
