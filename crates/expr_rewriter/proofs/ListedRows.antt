-- Operators with any number of operands: what is needed of their cells, and the sort of what is made.
use Rattle.std.proofs.Common.{◌≡◌, ℕ, suc, ◌<◌, List, [], ◌∷◌, map, length, refl, sym, ◌∙◌, ap, subst, All}
use Rattle.std.proofs.lemmas.List.Elements.{All-cons, All-nil}
use Rattle.cell_arena.specs.declared.build.Build.{Build}
use Rattle.cell_arena.specs.declared.kinds.CellId.{CellId}
use Rattle.cell_merge.specs.Picks.{IsSetCell}
use Rattle.cell_merge.specs.Sorts.{OfSort, Sort, sequence_of, set_of}
use Rattle.kernel_trees.specs.declared.kernel.KerOp.TheVariants as ker
use Rattle.kernel_trees.specs.TypeKinds.{Kind, Set}
use Rattle.kernel_trees.proofs.SoundRows.{AreAll, Row, row_record, row_sequence, row_set, row_records, row_tuple}
use Rattle.kernel_trees.proofs.SoundRows.{row_tuples}
use Rattle.outcome_cells.specs.declared.cells.Cells.{Cells}
use Rattle.outcome_cells.specs.Shows.{AllCells, AreCells}
use Rattle.typed_cells.specs.FieldOrder.{in_order}
use Rattle.typed_cells.specs.KindSorts.{OfSorts, record_sort, sort_of, tuple_sort}
use Rattle.typed_cells.proofs.PartSorts.{fields-sorts, kinds-sorts, sorts-count, sorts-there}
use Rattle.member_choices.specs.Binders.{fields_sort}
use Rattle.value_operators.specs.Operands.{HasSorts, OfOneSort}
use Rattle.expr_rewriter.proofs.OwnSorts.{OfKinds}

abbrev pub ids_in : List Cells → List CellId
ids_in xs = map (λ x. x.cell) xs

-- ---- the cells alone

cells_sorts : (b : Build) (ss : List Sort) (xs : List Cells) → AllCells b ss xs → OfSorts b.arena.kinds ss (ids_in xs)
cells_sorts b [] [] h = tt
cells_sorts b [] (x ∷ xs) h = absurd h
cells_sorts b (s ∷ ss) [] h = absurd h
cells_sorts b (s ∷ ss) (x ∷ xs) h = (h.0.sort, cells_sorts b ss xs h.1)

alike : (b : Build) (a : Kind) (ks : List Kind) (xs : List Cells) → AreAll a ks → OfKinds b ks xs →
    All (OfSort b.arena.kinds (sort_of a)) (ids_in xs)
alike b a [] [] e h = All-nil (OfSort b.arena.kinds (sort_of a))
alike b a [] (x ∷ xs) e h = absurd h
alike b a (c ∷ ks) [] e h = absurd h
alike b a (c ∷ ks) (x ∷ xs) e h =
    All-cons (OfSort b.arena.kinds (sort_of a)) x.cell (ids_in xs)
    (subst (λ k. OfSort b.arena.kinds (sort_of k) x.cell) e.0 h.0.sort) (alike b a ks xs e.1 h.1)

module _ (b : Build) (xs : List Cells) (ids : List CellId) (is : ids ≡ ids_in xs) where
  sorts_of : (ks : List Kind) → OfKinds b ks xs → OfSorts b.arena.kinds (map sort_of ks) ids
  sorts_of ks h = subst (OfSorts b.arena.kinds (map sort_of ks)) (sym is) (cells_sorts b (map sort_of ks) xs h)

  all_alike : (a : Kind) (ks : List Kind) → AreAll a ks → OfKinds b ks xs → All (OfSort b.arena.kinds (sort_of a)) ids
  all_alike a ks e h = subst (All (OfSort b.arena.kinds (sort_of a))) (sym is) (alike b a ks xs e h)

  pub are_there : (ks : List Kind) → OfKinds b ks xs → All (λ x. x.index < length b.arena.kinds) ids
  are_there ks h = sorts-there b.arena.kinds (map sort_of ks) ids (sorts_of ks h)

  -- ---- sets and sequences

  pub set_needs : (a : Kind) (ks : List Kind) → Row ker.SetOf a ks → OfKinds b ks xs → OfOneSort b.arena.kinds ids
  set_needs _ _ (row_set a ks e) h = record { sort = sort_of a; cells = all_alike a ks e h }

  pub set_makes : (n : Build) (r : Cells) → HasSorts b n (λ s. s) set_of ids r → (a : Kind) (ks : List Kind) →
      Row ker.SetOf a ks → OfKinds b ks xs →
      AreCells n (sort_of a) r
  set_makes n r m _ _ (row_set a ks e) h = m.cells (sort_of a) (all_alike a ks e h)

  pub sequence_makes : (n : Build) (r : Cells) → ((s : Sort) → All (OfSort b.arena.kinds s) ids →
      AreCells n (sequence_of s) r) →
      (a : Kind) (ks : List Kind) → Row ker.SeqOf a ks → OfKinds b ks xs → AreCells n (sort_of a) r
  sequence_makes n r m _ _ (row_sequence a ks e) h = m (sort_of a) (all_alike a ks e h)

  -- ---- tuples and records

  pub tuple_makes : (n : Build) (r : Cells) → ((ss : List Sort) → OfSorts b.arena.kinds ss ids →
      AreCells n (tuple_sort ss) r) →
      (a : Kind) (ks : List Kind) → Row ker.TupOf a ks → OfKinds b ks xs → AreCells n (sort_of a) r
  tuple_makes n r m _ _ (row_tuple ks) h =
      subst (λ (ss : List Sort). AreCells n (tuple_sort ss) r) (sym (kinds-sorts ks))
      (m (map sort_of ks) (sorts_of ks h))

  lengths : (ks : List Kind) → length (map sort_of ks) ≡ length ks
  lengths [] = refl
  lengths (k ∷ ks) = ap suc (lengths ks)

  pub record_needs : (names : List (List ℕ)) (a : Kind) (ks : List Kind) → Row (ker.RecOf names) a ks →
      OfKinds b ks xs → length ids ≡ length names
  record_needs _ _ _ (row_record names ks e) h =
      sorts-count b.arena.kinds (map sort_of ks) ids (sorts_of ks h) ∙ lengths ks ∙ sym e

  pub record_makes : (n : Build) (r : Cells) (names : List (List ℕ)) →
      ((ss : List Sort) → OfSorts b.arena.kinds ss ids → AreCells n (record_sort (in_order names ss)) r) →
      (a : Kind) (ks : List Kind) → Row (ker.RecOf names) a ks → OfKinds b ks xs → AreCells n (sort_of a) r
  record_makes n r _ m _ _ (row_record names ks e) h =
      subst (λ (fs : List (List ℕ × Sort)). AreCells n (record_sort fs) r) (sym (fields-sorts names ks))
      (m (map sort_of ks) (sorts_of ks h))

-- ---- sets of tuples

product_sets : (b : Build) (ms : List Kind) (xs : List Cells) → OfKinds b (map Set ms) xs →
    All (IsSetCell b) (ids_in xs)
product_sets b [] [] h = All-nil (IsSetCell b)
product_sets b [] (x ∷ xs) h = absurd h
product_sets b (m ∷ ms) [] h = absurd h
product_sets b (m ∷ ms) (x ∷ xs) h =
    All-cons (IsSetCell b) x.cell (ids_in xs) (record { sort = sort_of m; is = h.0.sort }) (product_sets b ms xs h.1)

product_sorts : (b : Build) (ms : List Kind) (xs : List Cells) → OfKinds b (map Set ms) xs →
    OfSorts b.arena.kinds (map set_of (map sort_of ms)) (ids_in xs)
product_sorts b [] [] h = tt
product_sorts b [] (x ∷ xs) h = absurd h
product_sorts b (m ∷ ms) [] h = absurd h
product_sorts b (m ∷ ms) (x ∷ xs) h = (h.0.sort, product_sorts b ms xs h.1)

pub tuples_need : (b : Build) (xs : List Cells) (ids : List CellId) → ids ≡ ids_in xs → (a : Kind) (ks : List Kind) →
    Row ker.TupForm a ks →
    OfKinds b ks xs → All (IsSetCell b) ids
tuples_need b xs ids is _ _ (row_tuples ms) h = subst (All (IsSetCell b)) (sym is) (product_sets b ms xs h)

pub tuples_make : (b n : Build) (xs : List Cells) (ids : List CellId) (r : Cells) → ids ≡ ids_in xs →
    ((ss : List Sort) → OfSorts b.arena.kinds (map set_of ss) ids → AreCells n (set_of (tuple_sort ss)) r) →
    (a : Kind) (ks : List Kind) → Row ker.TupForm a ks → OfKinds b ks xs → AreCells n (sort_of a) r
tuples_make b n xs ids r is m _ _ (row_tuples ms) h =
    subst (λ (ss : List Sort). AreCells n (set_of (tuple_sort ss)) r) (sym (kinds-sorts ms))
    (m (map sort_of ms) (subst (OfSorts b.arena.kinds (map set_of (map sort_of ms))) (sym is)
    (product_sorts b ms xs h)))

-- ---- sets of records

set_lengths : (ms : List Kind) → length (map set_of (map sort_of ms)) ≡ length ms
set_lengths [] = refl
set_lengths (m ∷ ms) = ap suc (set_lengths ms)

pub records_need : (b : Build) (xs : List Cells) (ids : List CellId) (names : List (List ℕ)) → ids ≡ ids_in xs →
    (a : Kind) (ks : List Kind) →
    Row (ker.RecForm names) a ks → OfKinds b ks xs → All (IsSetCell b) ids
records_need b xs ids _ is _ _ (row_records names ms e) h = subst (All (IsSetCell b)) (sym is) (product_sets b ms xs h)

pub records_count : (b : Build) (xs : List Cells) (ids : List CellId) (names : List (List ℕ)) → ids ≡ ids_in xs →
    (a : Kind) (ks : List Kind) →
    Row (ker.RecForm names) a ks → OfKinds b ks xs → length ids ≡ length names
records_count b xs ids _ is _ _ (row_records names ms e) h =
    ap length is
    ∙ sorts-count b.arena.kinds (map set_of (map sort_of ms)) (ids_in xs) (product_sorts b ms xs h)
    ∙ set_lengths ms
    ∙ sym e

pub records_make : (b n : Build) (xs : List Cells) (ids : List CellId) (r : Cells) (names : List (List ℕ)) →
    ids ≡ ids_in xs →
    ((ss : List Sort) → OfSorts b.arena.kinds (map set_of ss) ids → AreCells n (set_of (fields_sort names ss)) r) →
    (a : Kind) (ks : List Kind) → Row (ker.RecForm names) a ks → OfKinds b ks xs → AreCells n (sort_of a) r
records_make b n xs ids r _ is m _ _ (row_records names ms e) h =
    subst (λ (fs : List (List ℕ × Sort)). AreCells n (set_of (record_sort fs)) r) (sym (fields-sorts names ms))
    (m (map sort_of ms) (subst (OfSorts b.arena.kinds (map set_of (map sort_of ms))) (sym is)
    (product_sorts b ms xs h)))
