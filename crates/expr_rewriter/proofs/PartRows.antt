-- What stands at an argument, an index or a name, and domains: what is needed of the operands' cells, and the sorts
-- of what is there.
use Rattle.std.proofs.Common.{◌≡◌, ℕ, zero, suc, ◌-◌, ◌<◌, ◌≤◌, arith, Bool, true, false, List, [], ◌∷◌, ◌++◌, map}
use Rattle.std.proofs.Common.{flat_map, length, refl, sym, ◌∙◌, ap, subst, All, Some}
use Rattle.std.specs.Prelude.{slice_index_or, if◌then◌else◌}
use Rattle.std.specs.Ordering.{is_eq}
use Rattle.std.proofs.lemmas.List.Elements.{All-cons, All-head, All-nil, All-tail}
use Rattle.tla_values.specs.Order.{text_cmp}
use Rattle.tla_values.proofs.TotalLemmas.{texts_equal}
use Rattle.tla_meaning.proofs.Laws.{equal_of, none≢some}
use Rattle.cell_arena.specs.declared.build.Build.{Build}
use Rattle.cell_merge.specs.Sorts.{OfSort, Sort, function_of, record_of, sequence_of, tuple_of}
use Rattle.function_rewriter.specs.Functions.{HasField, HasItem}
use Rattle.snowcat_rows.specs.declared.types.Ty.{Ty}
use Rattle.kernel_trees.specs.declared.kernel.KerOp.TheVariants as ker
use Rattle.kernel_trees.specs.TypeKinds.{Fields, Kind, Kinds, Rec, Tup, field_kind, item_kind, kind_of, more_fields}
use Rattle.kernel_trees.specs.TypeKinds.{more_kinds, no_fields, no_kinds}
use Rattle.kernel_trees.proofs.SoundRows.{Row, row_at, row_at_number, row_domain, row_domain_record}
use Rattle.kernel_trees.proofs.SoundRows.{row_domain_sequence, row_domain_tuple, row_field, row_item}
use Rattle.outcome_cells.specs.declared.cells.Cells.{Cells}
use Rattle.outcome_cells.specs.Shows.{AreCells}
use Rattle.typed_cells.specs.KindSorts.{all_field_names, field_sorts, item_sorts, names_within, sort_at, sort_of}
use Rattle.typed_cells.specs.Known.{IsTextAmong}
use Rattle.function_operators.specs.Operands.{HasArguments, domain_sort, of_function, of_record, of_sequence, of_tuple}
use Rattle.function_operators.specs.Parts.{HasPart, Indexed}
use Rattle.function_operators.specs.declared.index.Index.TheVariants as index
use Rattle.expr_rewriter.proofs.OwnSorts.{OfKinds}
use Rattle.expr_rewriter.proofs.TextsIn.{back_of, front_of}

-- ---- at an argument

pub at_needs : (b : Build) (x y : Cells) (a : Kind) (ks : List Kind) → Row ker.At a ks → OfKinds b ks (x ∷ y ∷ []) →
    Indexed b.arena.kinds x.cell (index.Cell y.cell)
at_needs b x y _ _ (row_at c d) h =
    record { whole = function_of (sort_of c) (sort_of d); part = sort_of d; is = h.0.sort; at = (h.1.0.sort, refl) }
at_needs b x y _ _ (row_at_number d) h =
    record { whole = sequence_of (sort_of d); part = sort_of d; is = h.0.sort; at = (h.1.0.sort, refl) }

pub at_makes : (b n : Build) (x y r : Cells) (t : Ty) → ((whole : Sort) (k : Kind) → OfSort b.arena.kinds whole x.cell →
    HasPart b.arena.kinds (index.Cell y.cell) whole (sort_of k) → kind_of t ≡ Some k → AreCells n (sort_of k) r) →
    (a : Kind) (ks : List Kind) → kind_of t ≡ Some a → Row ker.At a ks → OfKinds b ks (x ∷ y ∷ []) →
    AreCells n (sort_of a) r
at_makes b n x y r t h _ _ e (row_at c d) k = h (function_of (sort_of c) (sort_of d)) d k.0.sort (k.1.0.sort, refl) e
at_makes b n x y r t h _ _ e (row_at_number d) k = h (sequence_of (sort_of d)) d k.0.sort (k.1.0.sort, refl) e

-- ---- domains

-- the names of a record's fields are among those in its kind
field_names : (P : List ℕ → Type 0) (fs : Fields) → All P (all_field_names fs) → All P (map (λ f. f.0) (field_sorts fs))
field_names P no_fields h = All-nil P
field_names P (more_fields x a fs) h =
    All-cons P x (map (λ f. f.0) (field_sorts fs)) (All-head P x (names_within a ++ all_field_names fs) h)
    (field_names P fs (back_of P (names_within a) (all_field_names fs)
    (All-tail P x (names_within a ++ all_field_names fs) h)))

pub domain_needs : (b : Build) (x : Cells) (a : Kind) (ks : List Kind) → Row ker.Domain a ks → OfKinds b ks (x ∷ []) →
    All (IsTextAmong b.arena.texts) (flat_map names_within ks) → HasArguments b x.cell
domain_needs b x _ _ (row_domain c d) h t = of_function (sort_of c) (sort_of d) h.0.sort
domain_needs b x _ _ (row_domain_sequence c) h t = of_sequence (sort_of c) h.0.sort
domain_needs b x _ _ (row_domain_tuple as') h t = of_tuple (length (item_sorts as')) (sort_at (item_sorts as')) h.0.sort
domain_needs b x _ _ (row_domain_record fs) h t =
    of_record (map (λ f. f.0) (field_sorts fs)) (sort_at (map (λ f. f.1) (field_sorts fs))) h.0.sort
    (field_names (IsTextAmong b.arena.texts) fs (front_of (IsTextAmong b.arena.texts) (all_field_names fs) [] t))

pub domain_makes : (b n : Build) (x r : Cells) → ((s : Sort) → OfSort b.arena.kinds s x.cell →
    AreCells n (domain_sort s) r) →
    (a : Kind) (ks : List Kind) → Row ker.Domain a ks → OfKinds b ks (x ∷ []) → AreCells n (sort_of a) r
domain_makes b n x r h _ _ (row_domain c d) k = h (function_of (sort_of c) (sort_of d)) k.0.sort
domain_makes b n x r h _ _ (row_domain_sequence c) k = h (sequence_of (sort_of c)) k.0.sort
domain_makes b n x r h _ _ (row_domain_tuple as') k = h (sort_of (Tup as')) k.0.sort
domain_makes b n x r h _ _ (row_domain_record fs) k = h (sort_of (Rec fs)) k.0.sort

-- ---- an item of a tuple

some_one : (x y : Kind) → Some x ≡ Some y → x ≡ y
some_one x y e = cc

pub item_from : (as' : Kinds) (i : ℕ) (a : Kind) → item_kind as' i ≡ Some a → 1 ≤ i
item_from no_kinds i a e = absurd (none≢some e)
item_from (more_kinds b as') zero a e = absurd (none≢some e)
item_from (more_kinds b as') (suc i) a e = omega arith

pub item_to : (as' : Kinds) (i : ℕ) (a : Kind) → item_kind as' i ≡ Some a → i ≤ length (item_sorts as')
item_to no_kinds i a e = absurd (none≢some e)
item_to (more_kinds b as') zero a e = absurd (none≢some e)
item_to (more_kinds b as') (suc zero) a e = omega arith
item_to (more_kinds b as') (suc (suc i)) a e = let h = item_to as' (suc i) a e in omega (arith, h)

item_sort : (as' : Kinds) (i : ℕ) (a : Kind) → item_kind as' (suc i) ≡ Some a → sort_at (item_sorts as') i ≡ sort_of a
item_sort no_kinds i a e = absurd (none≢some e)
item_sort (more_kinds b as') zero a e = ap sort_of (some_one b a e)
item_sort (more_kinds b as') (suc i) a e = item_sort as' i a e

pub item_needs : (b : Build) (x : Cells) (i : ℕ) (a : Kind) (ks : List Kind) → Row (ker.Item i) a ks →
    OfKinds b ks (x ∷ []) →
    HasItem b.arena.kinds x.cell i
item_needs b x i _ _ (row_item _ a as' e) h = record {
  count = length (item_sorts as');
  sorts = sort_at (item_sorts as');
  is = h.0.sort;
  from = item_from as' i a e;
  to = item_to as' i a e;
}

pub item_makes : (b : Build) (x r : Cells) (i : ℕ) → ((n : ℕ) (s : ℕ → Sort) →
    OfSort b.arena.kinds (tuple_of n s) x.cell → AreCells b (s (i - 1)) r) →
    (a : Kind) (ks : List Kind) → Row (ker.Item i) a ks → OfKinds b ks (x ∷ []) → AreCells b (sort_of a) r
item_makes b x r zero h _ _ (row_item _ a as' e) k = let f = item_from as' 0 a e in absurd (omega (arith, f))
item_makes b x r (suc i) h _ _ (row_item _ a as' e) k =
    let q : suc i - 1 ≡ i = omega arith in
    subst (λ s. AreCells b s r) (ap (sort_at (item_sorts as')) q ∙ item_sort as' i a e)
    (h (length (item_sorts as')) (sort_at (item_sorts as')) k.0.sort)

-- ---- a field of a record

-- where the name stands, and the sort of the field there
pub record FieldPlace (fs : Fields) (x : List ℕ) (a : Kind) : Type 0 where
  pub place : ℕ
  pub within : place < length (map (λ f. f.0) (field_sorts fs))
  pub named : slice_index_or (map (λ f. f.0) (field_sorts fs)) place [] ≡ x
  pub sort : sort_at (map (λ f. f.1) (field_sorts fs)) place ≡ sort_of a

field_place : (fs : Fields) (x : List ℕ) (a : Kind) → field_kind fs x ≡ Some a → FieldPlace fs x a
field_place no_fields x a e = absurd (none≢some e)
field_place (more_fields y b fs) x a e = by (is_eq (text_cmp x y)) refl (field_place fs x a) e
  where
    by : (t : Bool) → is_eq (text_cmp x y) ≡ t → (field_kind fs x ≡ Some a → FieldPlace fs x a) →
        (if t then Some b else field_kind fs x) ≡ Some a → FieldPlace (more_fields y b fs) x a
    by true q more e =
        record {
          place = 0;
          within = omega arith;
          named = sym
              (texts_equal x y (equal_of (text_cmp x y) q));
          sort = ap sort_of (some_one b a e);
        }
    by false q more e =
        let z = more e in
        record {
          place = suc z.place;
          within =
              (let lt = z.within in omega (arith, lt));
          named = z.named;
          sort = z.sort;
        }

pub field_needs : (b : Build) (t : Cells) (x : List ℕ) (a : Kind) (ks : List Kind) → Row (ker.FieldOf x) a ks →
    OfKinds b ks (t ∷ []) →
    HasField b.arena.kinds t.cell x
field_needs b t x _ _ (row_field _ a fs e) h =
    let z = field_place fs x a e in
    record {
      names = map (λ f. f.0) (field_sorts fs);
      sorts = sort_at (map (λ f. f.1) (field_sorts fs));
      is = h.0.sort;
      place = z.place;
      within = z.within;
      named = z.named;
    }

pub field_makes : (b : Build) (t r : Cells) (x : List ℕ) → ((names : List (List ℕ)) (s : ℕ → Sort) (i : ℕ) →
    OfSort b.arena.kinds (record_of names s) t.cell → i < length names → slice_index_or names i [] ≡ x →
    AreCells b (s i) r) →
    (a : Kind) (ks : List Kind) → Row (ker.FieldOf x) a ks → OfKinds b ks (t ∷ []) → AreCells b (sort_of a) r
field_makes b t r x h _ _ (row_field _ a fs e) k =
    let z = field_place fs x a e in
    subst (λ s. AreCells b s r) z.sort
    (h (map (λ f. f.0) (field_sorts fs)) (sort_at (map (λ f. f.1) (field_sorts fs))) z.place k.0.sort z.within z.named)
