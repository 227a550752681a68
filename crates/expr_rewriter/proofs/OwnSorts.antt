-- What each operator needs of its operands' cells and the sort of its own, by its row of the table of types.
use Rattle.std.proofs.Common.{◌≡◌, List, [], ◌∷◌, map, true, All, Some}
use Rattle.std.proofs.lemmas.List.Elements.{All-cons, All-nil}
use Rattle.cell_arena.specs.declared.build.Build.{Build}
use Rattle.cell_merge.specs.Sorts.{FunctionsOfOneType, OfSort, OneType, SequencesOfOneType, SetsOfOneType, Sort}
use Rattle.cell_merge.specs.Sorts.{function_of, number, sequence_of, set_of, truth}
use Rattle.cell_merge.specs.Picks.{IsSetCell}
use Rattle.cell_arena.specs.declared.kinds.CellId.{CellId}
use Rattle.set_rewriter.specs.Edges.{IsSetOfSets}
use Rattle.set_rewriter.specs.Ranges.{AreNumbers}
use Rattle.function_rewriter.specs.FunctionSets.{AreSetCells}
use Rattle.sequence_rewriter.specs.Sequences.{IsSequenceCell, SequenceAndItem, SequenceAndNumbers}
use Rattle.snowcat_rows.specs.declared.types.Ty.{Ty}
use Rattle.kernel_trees.specs.declared.kernel.KerOp.{KerOp}
use Rattle.kernel_trees.specs.declared.kernel.KerOp.TheVariants as ker
use Rattle.kernel_trees.specs.TypeKinds.{Kind, kind_of}
use Rattle.kernel_trees.proofs.SoundRows.{Row, row_not, row_equal, row_less, row_plus, row_minus, row_times}
use Rattle.kernel_trees.proofs.SoundRows.{row_quotient, row_remainder}
use Rattle.kernel_trees.proofs.SoundRows.{row_flatten, row_union, row_inter, row_without, row_range, row_subsets}
use Rattle.kernel_trees.proofs.SoundRows.{row_functions, row_count}
use Rattle.kernel_trees.proofs.SoundRows.{row_join, row_length, row_push, row_first, row_rest, row_slice, row_glue}
use Rattle.outcome_cells.specs.declared.cells.Cells.{Cells}
use Rattle.outcome_cells.specs.Shows.{AllCells, AreCells}
use Rattle.typed_cells.specs.KindSorts.{sort_of}
use Rattle.tla_meaning.proofs.Views.{false≢true}
use Rattle.value_operators.specs.Operands.{HasFunctionSorts, HasSorts}
use Rattle.expr_rewriter.specs.inner.Owning.{is_arithmetic, is_of_sets}

-- cells of the sorts of these kinds
abbrev pub OfKinds : Build → List Kind → List Cells → Type 0
OfKinds b ks xs = AllCells b (map sort_of ks) xs

-- ---- of one operand

pub not_needs : (b : Build) (x : Cells) (a : Kind) (ks : List Kind) → Row ker.Not a ks → OfKinds b ks (x ∷ []) →
    OfSort b.arena.kinds truth x.cell
not_needs b x _ _ row_not h = h.0.sort

pub not_makes : (n : Build) (r : Cells) → AreCells n truth r → (a : Kind) (ks : List Kind) → Row ker.Not a ks →
    AreCells n (sort_of a) r
not_makes n r h _ _ row_not = h

pub flatten_needs : (b : Build) (x : Cells) (a : Kind) (ks : List Kind) → Row ker.Flatten a ks → OfKinds b ks (x ∷ []) →
    IsSetOfSets b x.cell
flatten_needs b x _ _ (row_flatten a) h = record { sort = sort_of a; is = h.0.sort }

-- a list of one cell, and of two
one_of : (P : CellId → Type 0) (x : CellId) → P x → All P (x ∷ [])
one_of P x h = All-cons P x [] h (All-nil P)

two_of : (P : CellId → Type 0) (x y : CellId) → P x → P y → All P (x ∷ y ∷ [])
two_of P x y h k = All-cons P x (y ∷ []) h (one_of P y k)

pub flatten_makes : (b n : Build) (x r : Cells) → HasSorts b n (λ s. set_of (set_of s)) set_of (x.cell ∷ []) r →
    (a : Kind) (ks : List Kind) →
    Row ker.Flatten a ks → OfKinds b ks (x ∷ []) → AreCells n (sort_of a) r
flatten_makes b n x r h _ _ (row_flatten a) k =
    h.cells (sort_of a) (one_of (OfSort b.arena.kinds (set_of (set_of (sort_of a)))) x.cell k.0.sort)

pub subsets_needs : (b : Build) (x : Cells) (a : Kind) (ks : List Kind) → Row ker.Subsets a ks → OfKinds b ks (x ∷ []) →
    IsSetCell b x.cell
subsets_needs b x _ _ (row_subsets a) h = record { sort = sort_of a; is = h.0.sort }

pub subsets_makes : (b n : Build) (x r : Cells) → HasSorts b n set_of (λ s. set_of (set_of s)) (x.cell ∷ []) r →
    (a : Kind) (ks : List Kind) →
    Row ker.Subsets a ks → OfKinds b ks (x ∷ []) → AreCells n (sort_of a) r
subsets_makes b n x r h _ _ (row_subsets a) k =
    h.cells (sort_of a) (one_of (OfSort b.arena.kinds (set_of (sort_of a))) x.cell k.0.sort)

pub count_needs : (b : Build) (x : Cells) (a : Kind) (ks : List Kind) → Row ker.Count a ks → OfKinds b ks (x ∷ []) →
    IsSetCell b x.cell
count_needs b x _ _ (row_count a) h = record { sort = sort_of a; is = h.0.sort }

pub count_makes : (n : Build) (r : Cells) → AreCells n number r → (a : Kind) (ks : List Kind) → Row ker.Count a ks →
    AreCells n (sort_of a) r
count_makes n r h _ _ (row_count a) = h

-- ---- of one sequence

pub length_needs : (b : Build) (x : Cells) (a : Kind) (ks : List Kind) → Row ker.Length a ks → OfKinds b ks (x ∷ []) →
    IsSequenceCell b.arena.kinds x.cell
length_needs b x _ _ (row_length a) h = record { sort = sort_of a; is = h.0.sort }

pub length_makes : (n : Build) (r : Cells) → AreCells n number r → (a : Kind) (ks : List Kind) → Row ker.Length a ks →
    AreCells n (sort_of a) r
length_makes n r h _ _ (row_length a) = h

pub rest_needs : (b : Build) (x : Cells) (a : Kind) (ks : List Kind) → Row ker.Rest a ks → OfKinds b ks (x ∷ []) →
    IsSequenceCell b.arena.kinds x.cell
rest_needs b x _ _ (row_rest a) h = record { sort = sort_of a; is = h.0.sort }

pub rest_makes : (b n : Build) (x r : Cells) → ((t : Sort) → OfSort b.arena.kinds (sequence_of t) x.cell →
    AreCells n (sequence_of t) r) →
    (a : Kind) (ks : List Kind) → Row ker.Rest a ks → OfKinds b ks (x ∷ []) → AreCells n (sort_of a) r
rest_makes b n x r h _ _ (row_rest a) k = h (sort_of a) k.0.sort

pub first_needs : (b : Build) (x : Cells) (a : Kind) (ks : List Kind) → Row ker.First a ks → OfKinds b ks (x ∷ []) →
    IsSequenceCell b.arena.kinds x.cell
first_needs b x _ _ (row_first a) h = record { sort = sort_of a; is = h.0.sort }

pub first_makes : (b n : Build) (x r : Cells) (t : Ty) →
    ((k : Kind) → OfSort b.arena.kinds (sequence_of (sort_of k)) x.cell → kind_of t ≡ Some k →
    AreCells n (sort_of k) r) →
    (a : Kind) (ks : List Kind) → kind_of t ≡ Some a → Row ker.First a ks → OfKinds b ks (x ∷ []) →
    AreCells n (sort_of a) r
first_makes b n x r t h _ _ e (row_first a) k = h a k.0.sort e

-- ---- of two numbers

pub numbers_need : (b : Build) (x y : Cells) (o : KerOp) (a : Kind) (ks : List Kind) → is_arithmetic o ≡ true →
    Row o a ks → OfKinds b ks (x ∷ y ∷ []) →
    AreNumbers b.arena.kinds x.cell y.cell
numbers_need b x y _ _ _ e row_plus h = record { left = h.0.sort; right = h.1.0.sort }
numbers_need b x y _ _ _ e row_minus h = record { left = h.0.sort; right = h.1.0.sort }
numbers_need b x y _ _ _ e row_times h = record { left = h.0.sort; right = h.1.0.sort }
numbers_need b x y _ _ _ e row_quotient h = record { left = h.0.sort; right = h.1.0.sort }
numbers_need b x y _ _ _ e row_remainder h = record { left = h.0.sort; right = h.1.0.sort }
numbers_need b x y o a ks e row h = absurd (false≢true e)

pub numbers_make : (n : Build) (r : Cells) (o : KerOp) → AreCells n number r → is_arithmetic o ≡ true →
    (a : Kind) (ks : List Kind) → Row o a ks →
    AreCells n (sort_of a) r
numbers_make n r _ h e _ _ row_plus = h
numbers_make n r _ h e _ _ row_minus = h
numbers_make n r _ h e _ _ row_times = h
numbers_make n r _ h e _ _ row_quotient = h
numbers_make n r _ h e _ _ row_remainder = h
numbers_make n r o h e a ks row = absurd (false≢true e)

pub less_needs : (b : Build) (x y : Cells) (a : Kind) (ks : List Kind) → Row ker.Less a ks → OfKinds b ks (x ∷ y ∷ []) →
    AreNumbers b.arena.kinds x.cell y.cell
less_needs b x y _ _ row_less h = record { left = h.0.sort; right = h.1.0.sort }

pub less_makes : (n : Build) (r : Cells) → AreCells n truth r → (a : Kind) (ks : List Kind) → Row ker.Less a ks →
    AreCells n (sort_of a) r
less_makes n r h _ _ row_less = h

pub range_needs : (b : Build) (x y : Cells) (a : Kind) (ks : List Kind) → Row ker.Range a ks →
    OfKinds b ks (x ∷ y ∷ []) → AreNumbers b.arena.kinds x.cell y.cell
range_needs b x y _ _ row_range h = record { left = h.0.sort; right = h.1.0.sort }

pub range_makes : (n : Build) (r : Cells) → AreCells n (set_of number) r → (a : Kind) (ks : List Kind) →
    Row ker.Range a ks → AreCells n (sort_of a) r
range_makes n r h _ _ row_range = h

pub equal_needs : (b : Build) (x y : Cells) (a : Kind) (ks : List Kind) → Row ker.Equal a ks →
    OfKinds b ks (x ∷ y ∷ []) → OneType b.arena.kinds x.cell y.cell
equal_needs b x y _ _ (row_equal a) h = record { sort = sort_of a; left = h.0.sort; right = h.1.0.sort }

pub equal_makes : (n : Build) (r : Cells) → AreCells n truth r → (a : Kind) (ks : List Kind) → Row ker.Equal a ks →
    AreCells n (sort_of a) r
equal_makes n r h _ _ (row_equal a) = h

-- ---- of two sets

pub sets_need : (b : Build) (x y : Cells) (o : KerOp) (a : Kind) (ks : List Kind) → is_of_sets o ≡ true → Row o a ks →
    OfKinds b ks (x ∷ y ∷ []) →
    SetsOfOneType b.arena.kinds x.cell y.cell
sets_need b x y _ _ _ e (row_union a) h = record { sort = sort_of a; left = h.0.sort; right = h.1.0.sort }
sets_need b x y _ _ _ e (row_inter a) h = record { sort = sort_of a; left = h.0.sort; right = h.1.0.sort }
sets_need b x y _ _ _ e (row_without a) h = record { sort = sort_of a; left = h.0.sort; right = h.1.0.sort }
sets_need b x y o a ks e row h = absurd (false≢true e)

pub sets_make : (b n : Build) (x y r : Cells) (o : KerOp) → HasSorts b n set_of set_of (x.cell ∷ y.cell ∷ []) r →
    is_of_sets o ≡ true →
    (a : Kind) (ks : List Kind) → Row o a ks → OfKinds b ks (x ∷ y ∷ []) → AreCells n (sort_of a) r
sets_make b n x y r _ h e _ _ (row_union a) k =
    h.cells (sort_of a) (two_of (OfSort b.arena.kinds (set_of (sort_of a))) x.cell y.cell k.0.sort k.1.0.sort)
sets_make b n x y r _ h e _ _ (row_inter a) k =
    h.cells (sort_of a) (two_of (OfSort b.arena.kinds (set_of (sort_of a))) x.cell y.cell k.0.sort k.1.0.sort)
sets_make b n x y r _ h e _ _ (row_without a) k =
    h.cells (sort_of a) (two_of (OfSort b.arena.kinds (set_of (sort_of a))) x.cell y.cell k.0.sort k.1.0.sort)
sets_make b n x y r o h e a ks row k = absurd (false≢true e)

pub functions_need : (b : Build) (x y : Cells) (a : Kind) (ks : List Kind) → Row ker.Functions a ks →
    OfKinds b ks (x ∷ y ∷ []) → AreSetCells b x.cell y.cell
functions_need b x y _ _ (row_functions c d) h =
    record { domain = record { sort = sort_of c; is = h.0.sort }; range = record { sort = sort_of d; is = h.1.0.sort } }

pub functions_make : (b n : Build) (x y r : Cells) → HasFunctionSorts b n x.cell y.cell r →
    (a : Kind) (ks : List Kind) → Row ker.Functions a ks →
    OfKinds b ks (x ∷ y ∷ []) → AreCells n (sort_of a) r
functions_make b n x y r h _ _ (row_functions c d) k = h.cells (sort_of c) (sort_of d) k.0.sort k.1.0.sort

-- ---- of two functions, and of sequences

pub join_needs : (b : Build) (x y : Cells) (a : Kind) (ks : List Kind) → Row ker.Join a ks → OfKinds b ks (x ∷ y ∷ []) →
    FunctionsOfOneType b.arena.kinds x.cell y.cell
join_needs b x y _ _ (row_join c d) h = record { from = sort_of c; to = sort_of d; left = h.0.sort; right = h.1.0.sort }

pub join_makes : (b n : Build) (x y r : Cells) → ((s t : Sort) → OfSort b.arena.kinds (function_of s t) x.cell →
    OfSort b.arena.kinds (function_of s t) y.cell → AreCells n (function_of s t) r) → (a : Kind) (ks : List Kind) →
    Row ker.Join a ks →
    OfKinds b ks (x ∷ y ∷ []) → AreCells n (sort_of a) r
join_makes b n x y r h _ _ (row_join c d) k = h (sort_of c) (sort_of d) k.0.sort k.1.0.sort

pub push_needs : (b : Build) (x y : Cells) (a : Kind) (ks : List Kind) → Row ker.Push a ks → OfKinds b ks (x ∷ y ∷ []) →
    SequenceAndItem b.arena.kinds x.cell y.cell
push_needs b x y _ _ (row_push c) h = record { sort = sort_of c; sequence = h.0.sort; item = h.1.0.sort }

pub push_makes : (b n : Build) (x y r : Cells) → ((t : Sort) → OfSort b.arena.kinds (sequence_of t) x.cell →
    OfSort b.arena.kinds t y.cell →
    AreCells n (sequence_of t) r) → (a : Kind) (ks : List Kind) → Row ker.Push a ks → OfKinds b ks (x ∷ y ∷ []) →
    AreCells n (sort_of a) r
push_makes b n x y r h _ _ (row_push c) k = h (sort_of c) k.0.sort k.1.0.sort

pub glue_needs : (b : Build) (x y : Cells) (a : Kind) (ks : List Kind) → Row ker.Glue a ks → OfKinds b ks (x ∷ y ∷ []) →
    SequencesOfOneType b.arena.kinds x.cell y.cell
glue_needs b x y _ _ (row_glue c) h = record { sort = sort_of c; left = h.0.sort; right = h.1.0.sort }

pub glue_makes : (b n : Build) (x y r : Cells) → ((t : Sort) → OfSort b.arena.kinds (sequence_of t) x.cell →
    OfSort b.arena.kinds (sequence_of t) y.cell → AreCells n (sequence_of t) r) → (a : Kind) (ks : List Kind) →
    Row ker.Glue a ks →
    OfKinds b ks (x ∷ y ∷ []) → AreCells n (sort_of a) r
glue_makes b n x y r h _ _ (row_glue c) k = h (sort_of c) k.0.sort k.1.0.sort

pub slice_needs : (b : Build) (x y z : Cells) (a : Kind) (ks : List Kind) → Row ker.Slice a ks →
    OfKinds b ks (x ∷ y ∷ z ∷ []) →
    SequenceAndNumbers b.arena.kinds x.cell y.cell z.cell
slice_needs b x y z _ _ (row_slice c) h =
    record { sort = sort_of c; sequence = h.0.sort; first = h.1.0.sort; last = h.1.1.0.sort }

pub slice_makes : (b n : Build) (x y z r : Cells) → ((t : Sort) → OfSort b.arena.kinds (sequence_of t) x.cell →
    AreCells n (sequence_of t) r) →
    (a : Kind) (ks : List Kind) → Row ker.Slice a ks → OfKinds b ks (x ∷ y ∷ z ∷ []) → AreCells n (sort_of a) r
slice_makes b n x y z r h _ _ (row_slice c) k = h (sort_of c) k.0.sort
