-- What stands at an index: in each kind of whole.
use Rattle.std.proofs.Common.{Bor, ◌≡◌, ℕ, ◌<◌, Bool, true, false, List, [], map, length, Option, Some, None, IfSome, ℤ}
use Rattle.std.proofs.Common.{pos, negsuc, refl, ap, ◌∙◌, sym, subst}
use Rattle.std.proofs.Math.Seq.{take-nil}
use Rattle.sat_formula.specs.declared.lit.Lit.{Lit}
use Rattle.sat_formula.specs.Lit.{lit_value}
use Rattle.sat_formula.specs.Formula.{Satisfies}
use Rattle.tla_values.specs.Sequences.{sequence}
use Rattle.tla_values.specs.declared.text.Text.{Text}
use Rattle.tla_values.specs.Sets.{apply}
use Rattle.tla_values.specs.declared.value.Value.{Value}
use Rattle.tla_values.specs.declared.value.Value.TheVariants as value
use Rattle.word_blaster.specs.Word.{word_value}
use Rattle.cell_arena.specs.declared.build.Build.{Build}
use Rattle.cell_arena.specs.declared.kinds.CellId.{CellId}
use Rattle.cell_arena.specs.declared.kinds.CellKind.{CellKind}
use Rattle.cell_arena.specs.declared.kinds.CellKind.TheVariants.{Fun, Seq}
use Rattle.cell_arena.specs.Cells.{Cells, WellBuilt, kind_at}
use Rattle.cell_arena.specs.Decode.{decode, first_places}
use Rattle.cell_merge.specs.Arrows.{pairs_of}
use Rattle.cell_merge.specs.Composites.{parts_of}
use Rattle.cell_merge.specs.Partial.{Tells}
use Rattle.cell_merge.specs.Sorts.{Sort, OfSort, IsFunction, IsSequence, function_of as function_sort, sequence_of}
use Rattle.cell_merge.specs.Sorts.{record_of, tuple_of}
use Rattle.cell_merge.proofs.Edges.{is-function, is-sequence, sort-there}
use Rattle.function_rewriter.specs.Arrows.{Applies}
use Rattle.function_rewriter.specs.Functions.{HasField, HasItem, IsField, IsItem}
use Rattle.function_rewriter.proofs.Composites.{pairs-fun}
use Rattle.sequence_rewriter.specs.Sequences.{HasPlace}
use Rattle.sequence_rewriter.proofs.Lists.{pairs-sequence}
use Rattle.function_operators.specs.declared.index.Index.{Index}
use Rattle.function_operators.specs.declared.index.Index.TheVariants as index
use Rattle.function_operators.specs.Parts.{HasPart, IsOfPart, index_value}
use Rattle.function_operators.specs.Updates.{IsOld}
use Rattle.function_operators.specs.inner.Found.{Finds, Gives}
use Rattle.function_operators.proofs.Changes.{reach_tells}
use Rattle.function_operators.proofs.Rows.{IsMapping}
use Rattle.function_operators.proofs.Values.{by_kind, function_value, record_value, sequence_value, tuple_value}

-- ---- what has parts is a function

pub part_mapping : (c : Cells) (a : List Bool) (f : CellId) (i : Index) (whole part : Sort) → WellBuilt c →
    OfSort c.kinds whole f →
    HasPart c.kinds i whole part → IsMapping (decode c a f)
part_mapping c a f i (function_sort s t) part built h at = function_value c a f s t built h
part_mapping c a f i (sequence_of t) part built h at = (sequence_value c a f t built h).mapping
part_mapping c a f i (record_of names s) part built h at = record_value c a f names s built h
part_mapping c a f i (tuple_of n s) part built h at = (tuple_value c a f n s built h).mapping
part_mapping c a f (index.Cell x) whole part built h at = absurd at
part_mapping c a f (index.Number i) whole part built h at = absurd at
part_mapping c a f (index.Name x) whole part built h at = absurd at

-- ---- literal indexes

pub item_there : (ks : List CellKind) (f : CellId) (j : Index) (i : ℕ) (whole part : Sort) → j ≡ index.Number i →
    OfSort ks whole f →
    HasPart ks j whole part → HasItem ks f i
item_there ks f j i whole part e h at = by whole h (subst (λ (k : Index). HasPart ks k whole part) e at)
  where
    by : (w : Sort) → OfSort ks w f → HasPart ks (index.Number i) w part → HasItem ks f i
    by (tuple_of n s) h at = record { count = n; sorts = s; is = h; from = at.0; to = at.1.0 }
    by w h at = absurd at

pub field_there : (ks : List CellKind) (f : CellId) (j : Index) (x : Bor Text) (whole part : Sort) → j ≡ index.Name x →
    OfSort ks whole f →
    HasPart ks j whole part → HasField ks f x.now
field_there ks f j x whole part e h at = by whole h (subst (λ (k : Index). HasPart ks k whole part) e at)
  where
    by : (w : Sort) → OfSort ks w f → HasPart ks (index.Name x) w part → HasField ks f x.now
    by (record_of names s) h at = record {
      names = names;
      sorts = s;
      is = h;
      place = at.0;
      within = at.1.0;
      named =
          at.1.1.0;
    }
    by w h at = absurd at

-- the literal that is never true
abbrev pub IsNever : Build → Lit → Type 0
IsNever b l = (l.var < b.formula.vars) × ((a : List Bool) → Satisfies a b.formula → lit_value l a ≡ false)

never : (b : Build) (f id : CellId) (i : Value) (l : Lit) → IsNever b l → id.index < length b.arena.kinds →
    ((a : List Bool) → apply (pairs_of (decode b.arena a f)) i ≡ Some (decode b.arena a id)) →
    Gives b (Some (id, l)) (λ a. apply (pairs_of (decode b.arena a f)) i)
never b f id i l h lt gives = record {
  there = lt;
  below = h.0;
  tells = λ a s. subst (Tells (lit_value l a) (decode b.arena a id)) (sym (gives a)) (h.1 a s, refl);
}

pub finds_item : (b : Build) (f id : CellId) (j : Index) (i : ℕ) (l : Lit) → j ≡ index.Number i →
    HasItem b.arena.kinds f i → IsItem b f i id →
    IsNever b l → Finds b b f j (Some (id, l))
finds_item b f id j i l e has is h = subst (λ (k : Index). Finds b b f k (Some (id, l))) (sym e) (record {
  gives = never b f id (value.Int (pos i)) l h
      (sort-there b.arena.kinds _ id (is.sort has.count has.sorts has.is)) is.gives;
  sort = sorts;
})
  where
    sorts : IsOfPart b.arena.kinds b.arena.kinds f (index.Number i) id
    sorts (tuple_of n s) part h at = subst (λ (t : Sort). OfSort b.arena.kinds t id) (sym at.1.1) (is.sort n s h)
    sorts whole part h at = absurd at

pub finds_field : (b : Build) (f id : CellId) (j : Index) (x : Bor Text) (l : Lit) → j ≡ index.Name x →
    HasField b.arena.kinds f x.now →
    IsField b f x.now id → IsNever b l → Finds b b f j (Some (id, l))
finds_field b f id j x l e has is h = subst (λ (k : Index). Finds b b f k (Some (id, l))) (sym e) (record {
  gives = never b f id (value.Text x.now) l h
      (sort-there b.arena.kinds _ id (is.sort has.names has.sorts has.place has.is has.within has.named)) is.gives;
  sort = sorts;
})
  where
    sorts : IsOfPart b.arena.kinds b.arena.kinds f (index.Name x) id
    sorts (record_of names s) part h at =
        subst (λ (t : Sort). OfSort b.arena.kinds t id) (sym at.1.1.1) (is.sort names s at.0 h at.1.0 at.1.1.0)
    sorts whole part h at = absurd at

-- ---- a cell as an index

first_none : (z : ℤ) → first_places z [] ≡ []
first_none (pos n) = take-nil n
first_none (negsuc n) = refl

pub sequence_gives : (b c : Build) (f x : CellId) (w : List Lit) (ps : List CellId) (found : Option (CellId × Lit)) →
    f.index < length b.arena.kinds → kind_at b.arena.kinds f ≡ Seq w ps →
    (found ≡ None → parts_of (kind_at b.arena.kinds f) ≡ []) →
    IfSome found (HasPlace b c f x) → Gives c found (λ a. apply (pairs_of (decode b.arena a f)) (decode b.arena a x))
sequence_gives b c f x w ps None lt e none h = λ a s.
    let empty : ps ≡ [] = sym (ap parts_of e) ∙ none refl in
    let v : decode b.arena a f ≡ sequence [] =
    by_kind b.arena a f (Seq w ps) b.built lt e
    ∙ ap sequence (ap (λ (qs : List CellId). first_places (word_value w a) (map (decode b.arena a) qs)) empty
    ∙ first_none (word_value w a)) in
    ap (λ (ps : List (Value × Value)). apply ps (decode b.arena a x)) (ap pairs_of v ∙ pairs-sequence [])
sequence_gives b c f x w ps (Some r) lt e none h = h.yields

pub finds_place : (b c : Build) (f x : CellId) (w : List Lit) (ps : List CellId) (found : Option (CellId × Lit)) →
    f.index < length b.arena.kinds → kind_at b.arena.kinds f ≡ Seq w ps →
    (found ≡ None → parts_of (kind_at b.arena.kinds f) ≡ []) →
    IfSome found (HasPlace b c f x) → Finds b c f (index.Cell x) found
finds_place b c f x w ps found lt e none h = record {
  gives = sequence_gives b c f x w ps found lt e none h;
  sort = by found h;
}
  where
    by : (o : Option (CellId × Lit)) → IfSome o (HasPlace b c f x) →
        IfSome o (λ o. IsOfPart b.arena.kinds c.arena.kinds f (index.Cell x) o.0)
    by None h = h
    by (Some r) h = sorts
      where
        sorts : IsOfPart b.arena.kinds c.arena.kinds f (index.Cell x) r.0
        sorts (sequence_of t) part k at = subst (λ (u : Sort). OfSort c.arena.kinds u r.0) (sym at.1) (h.sort t k)
        sorts (function_sort s t) part k at =
            absurd (subst (IsFunction (OfSort b.arena.kinds s) (OfSort b.arena.kinds t)) e k.1)
        sorts whole part k at = absurd at

pub function_kind : (ks : List CellKind) (f x : CellId) (whole part : Sort) → OfSort ks whole f →
    HasPart ks (index.Cell x) whole part →
    ((w : List Lit) (ps : List CellId) → kind_at ks f ≡ Seq w ps → ⊥) →
    (es : List (Lit × CellId × CellId)) × (kind_at ks f ≡ Fun es)
function_kind ks f x (function_sort s t) part h at not_seq = is-function (OfSort ks s) (OfSort ks t) (kind_at ks f) h.1
function_kind ks f x (sequence_of t) part h at not_seq =
    let k = is-sequence (OfSort ks t) (kind_at ks f) h.1 in absurd (not_seq k.0 k.1 k.2)
function_kind ks f x whole part h at not_seq = absurd at

function_gives : (b c : Build) (f x : CellId) (es : List (Lit × CellId × CellId)) (found : Option (CellId × Lit)) →
    f.index < length b.arena.kinds → kind_at b.arena.kinds f ≡ Fun es →
    (found ≡ None → kind_at b.arena.kinds f ≡ Fun []) →
    IfSome found (Applies b c f x) → Gives c found (λ a. apply (pairs_of (decode b.arena a f)) (decode b.arena a x))
function_gives b c f x es None lt e none h = λ a s.
    ap (λ (ps : List (Value × Value)). apply ps (decode b.arena a x))
    (ap pairs_of (by_kind b.arena a f (Fun []) b.built lt (none refl)) ∙ pairs-fun [])
function_gives b c f x es (Some r) lt e none h = h.yields

pub finds_argument : (b c : Build) (f x : CellId) (es : List (Lit × CellId × CellId)) (found : Option (CellId × Lit)) →
    f.index < length b.arena.kinds → kind_at b.arena.kinds f ≡ Fun es →
    (found ≡ None → kind_at b.arena.kinds f ≡ Fun []) →
    IfSome found (Applies b c f x) → Finds b c f (index.Cell x) found
finds_argument b c f x es found lt e none h = record {
  gives = function_gives b c f x es found lt e none h;
  sort = by found h;
}
  where
    by : (o : Option (CellId × Lit)) → IfSome o (Applies b c f x) →
        IfSome o (λ o. IsOfPart b.arena.kinds c.arena.kinds f (index.Cell x) o.0)
    by None h = h
    by (Some r) h = sorts
      where
        sorts : IsOfPart b.arena.kinds c.arena.kinds f (index.Cell x) r.0
        sorts (function_sort s t) part k at = subst (λ (u : Sort). OfSort c.arena.kinds u r.0) (sym at.1) (h.sort s t k)
        sorts (sequence_of t) part k at = absurd (subst (IsSequence (OfSort b.arena.kinds t)) e k.1)
        sorts whole part k at = absurd at

-- ---- what was found is the old value

pub old_found : (b c : Build) (f : CellId) (i : Index) (r : Option (CellId × Lit)) →
    ((a : List Bool) → IsMapping (decode b.arena a f)) → Finds b c f i r → IsOld b c f i r
old_found b c f i None is h = record {
  reaches = λ a s. reach_tells (decode b.arena a f) (index_value b.arena a i) (decode b.arena a f) true None (is a)
      (h.gives a s) refl;
  below = h.sort;
  sort = h.sort;
}
old_found b c f i (Some r) is h = record {
  reaches = λ a s. reach_tells (decode b.arena a f) (index_value b.arena a i) (decode c.arena a r.0)
      (lit_value r.1 a) _ (is a) refl (h.gives.tells a s);
  below = h.gives.below;
  sort = h.sort;
}
