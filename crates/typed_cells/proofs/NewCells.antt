-- The values and sorts of cells that are made of others.
use Rattle.std.proofs.Common.{◌≡◌, ℕ, ◌<◌, Bool, List, length, map, All, sym, ◌∙◌, ap, subst}
use Rattle.sat_formula.specs.declared.lit.Lit.{Lit}
use Rattle.sat_formula.specs.declared.cnf.Cnf.{Cnf}
use Rattle.sat_formula.specs.Formula.{Satisfies}
use Rattle.tla_values.specs.Sets.{function_of, set_of}
use Rattle.tla_values.specs.declared.value.Value.{Value}
use Rattle.tla_values.specs.declared.value.Value.TheVariants as value
use Rattle.tla_meaning.specs.Shapes.{record_of}
use Rattle.cell_arena.specs.declared.build.Build.{Build}
use Rattle.cell_arena.specs.declared.kinds.CellId.{CellId}
use Rattle.cell_arena.specs.declared.kinds.CellKind.{CellKind}
use Rattle.cell_arena.specs.declared.kinds.CellKind.TheVariants.{Rec, Seq, Set, Tup}
use Rattle.cell_arena.specs.Cells.{AllDiffer, Cells}
use Rattle.cell_arena.specs.Decode.{decode, field_pairs, present}
use Rattle.cell_arena.specs.Growth.{Adds, Decodes, Grows}
use Rattle.cell_arena.proofs.Growing.{Decodes-same, Satisfies-before}
use Rattle.cell_merge.specs.Edges.{JoinsAll, LeadTo}
use Rattle.cell_merge.specs.Sorts.{ArePlaced, OfSort, Sort, sequence_of}
use Rattle.cell_merge.proofs.Chosen.{lead-there, set_of-same}
use Rattle.cell_merge.proofs.Edges.{any-present}
use Rattle.cell_merge.proofs.SortLaws.{sort-record, sort-sequence, sort-set, sort-tuple}
use Rattle.tla_values.specs.Order.{same_value}
use Rattle.typed_cells.specs.FieldOrder.{in_order}
use Rattle.typed_cells.specs.KindSorts.{OfSorts, record_sort, sort_at, tuple_sort}
use Rattle.typed_cells.specs.Known.{IsSetOfEdges}
use Rattle.typed_cells.proofs.OrderedFields.{each-in_order, ordered-differ, ordered-function}
use Rattle.typed_cells.proofs.PartSorts.{fields-placed, sorts-placed}

abbrev Edge : Type 0
Edge = Lit × CellId

abbrev Field : Type 0
Field = List ℕ × CellId

-- ---- records

module _ (xs : List (List ℕ)) (cs : List CellId) (fs given : List Field) (ordered : fs ≡ in_order xs cs)
    (same : given ≡ fs) where
  is_ordered : given ≡ in_order xs cs
  is_ordered = same ∙ ordered

  pub record-differs : length cs ≡ length xs → AllDiffer xs → AllDiffer (map (λ (f : Field). f.0) given)
  record-differs n d =
      subst (λ (gs : List Field). AllDiffer (map (λ (f : Field). f.0) gs)) (sym is_ordered) (ordered-differ xs cs n d)

  pub record-there : (n : ℕ) → All (λ (c : CellId). c.index < n) cs → All (λ (f : Field). f.1.index < n) given
  record-there n all =
      subst (λ (gs : List Field). All (λ (f : Field). f.1.index < n) gs) (sym is_ordered)
      (each-in_order (λ (c : CellId). c.index < n) xs cs all)

  pub record-value : (b c : Build) (id : CellId) → length cs ≡ length xs → AllDiffer xs →
      Decodes c id (λ a. value.Fun (function_of (field_pairs (decode b.arena a) given))) →
      Decodes c id (λ a. record_of xs (map (decode b.arena a) cs))
  record-value b c id n d decodes = Decodes-same c id _ _ decodes (λ a sat.
      ap (λ (gs : List Field). value.Fun (function_of (field_pairs (decode b.arena a) gs))) is_ordered
      ∙ ap (λ ps. value.Fun ps) (ordered-function (decode b.arena a) xs cs n d))

  pub record-sort : (b c : Build) (id : CellId) (ss : List Sort) → Adds b c (Rec given) id → Grows b c →
      OfSorts b.arena.kinds ss cs →
      OfSort c.arena.kinds (record_sort (in_order xs ss)) id
  record-sort b c id ss adds grows h =
      let names : List (List ℕ) = map (λ (s : List ℕ × Sort). s.0) (in_order xs ss) in
      let sorts : List Sort = map (λ (s : List ℕ × Sort). s.1) (in_order xs ss) in
      let p = fields-placed b.arena.kinds xs ss cs h in
      sort-record b c given names (sort_at sorts) id adds grows
      (ap (map (λ (f : Field). f.0)) is_ordered ∙ p.0)
      (subst (λ (gs : List Field). ArePlaced (length names) (λ i. OfSort b.arena.kinds (sort_at sorts i))
      (map (λ (f : Field). f.1) gs)) (sym is_ordered) p.1)

-- ---- tuples

module _ (b c : Build) (cs given : List CellId) (id : CellId) (same : given ≡ cs) where
  pub tuple-sort : (ss : List Sort) → Adds b c (Tup given) id → Grows b c → OfSorts b.arena.kinds ss cs →
      OfSort c.arena.kinds (tuple_sort ss) id
  tuple-sort ss adds grows h =
      sort-tuple b c given (length ss) (sort_at ss) id adds grows
      (sorts-placed b.arena.kinds ss given (subst (OfSorts b.arena.kinds ss) (sym same) h))

-- ---- sequences

pub sequence-sort : (old mid new : Build) (word : List Lit) (cs given : List CellId) (id : CellId) (s : Sort) →
    given ≡ cs → mid.arena ≡ old.arena → Adds mid new (Seq word given) id → Grows mid new →
    All (OfSort old.arena.kinds s) cs → OfSort new.arena.kinds (sequence_of s) id
sequence-sort old mid new word cs given id s same arena adds grows all =
    sort-sequence mid new word given s id adds grows
    (subst (λ (c : Cells). All (OfSort c.kinds s) given) (sym arena)
    (subst (All (OfSort old.arena.kinds s)) (sym same) all))

-- ---- sets of edges

pub given-there : (ks : List CellKind) (s : Sort) (es given : List Edge) → given ≡ es → LeadTo ks s es →
    All (λ (e : Edge). e.1.index < length ks) given
given-there ks s es given same h =
    subst (λ (gs : List Edge). All (λ (e : Edge). e.1.index < length ks) gs) (sym same) (lead-there ks s es h)

pub edges-set : (old new : Build) (es given : List Edge) (id : CellId) → given ≡ es → Adds old new (Set given) id →
    Grows old new →
    Decodes new id (λ a. value.Set (set_of (present a (decode old.arena a) given))) → IsSetOfEdges old new es id
edges-set old new es given id same adds grows decodes = record {
  value = subst
      (λ (gs : List Edge). Decodes new id (λ a. value.Set (set_of (present a (decode old.arena a) gs)))) same decodes;
  sort = λ s h. sort-set old new given s id adds grows (subst (LeadTo old.arena.kinds s) (sym same) h);
}

-- joined edges have the members of the first ones
joined-set : (c : Cells) (f : Cnf) (a : List Bool) (es out : List Edge) → JoinsAll c f es es out → Satisfies a f →
    set_of (present a (decode c a) out) ≡ set_of (present a (decode c a) es)
joined-set c f a es out j s =
    let of : CellId → Value = decode c a in
    set_of-same (present a of out) (present a of es)
    (λ v. any-present (same_value v) a of out ∙ j.members a s (same_value v) ∙ sym (any-present (same_value v) a of es))

pub joined-edges : (old mid new : Build) (es out given : List Edge) (id : CellId) → given ≡ out →
    mid.arena ≡ old.arena → JoinsAll old.arena mid.formula es es out →
    Adds mid new (Set given) id → Grows mid new →
    Decodes new id (λ a. value.Set (set_of (present a (decode mid.arena a) given))) → IsSetOfEdges old new es id
joined-edges old mid new es out given id same arena j adds grows decodes = record {
  value = Decodes-same new id _ _ decodes (λ a s.
      ap (λ (c : Cells). value.Set (set_of (present a (decode c a) given))) arena
      ∙ ap (λ (gs : List Edge). value.Set (set_of (present a (decode old.arena a) gs))) same
      ∙ ap (λ vs. value.Set vs) (joined-set old.arena mid.formula a es out j (Satisfies-before mid new a grows s)));
  sort = λ s h.
      sort-set mid new given s id adds grows
      (subst (λ (c : Cells). LeadTo c.kinds s given) (sym arena)
      (subst (LeadTo old.arena.kinds s) (sym same) (j.sorts s h)));
}
