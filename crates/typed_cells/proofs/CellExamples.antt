-- Cells of numbers and sets of edges in a small arena, by computing.
use Rattle.std.proofs.Common.{◌≡◌, ℕ, ◌<◌, Bool, true, false, not, cond, map, List, [], ◌∷◌, get_or, pos, refl, sym}
use Rattle.std.proofs.Common.{◌∙◌, ap, subst, arith}
use Rattle.std.proofs.lemmas.List.Elements.{All-cons, All-head, All-nil}
use Rattle.sat_formula.specs.declared.lit.Lit.{Lit}
use Rattle.sat_formula.specs.Formula.{Satisfies}
use Rattle.word_blaster.specs.Word.{number as bits_number, signed, taken}
use Rattle.tla_values.specs.Sets.{set_of}
use Rattle.tla_values.specs.declared.value.Value.{Value}
use Rattle.tla_values.specs.declared.value.Value.TheVariants as value
use Rattle.cell_arena.specs.declared.build.Build.{Build}
use Rattle.cell_arena.specs.declared.kinds.CellId.{CellId}
use Rattle.cell_arena.specs.declared.kinds.CellKind.TheVariants.{Bit, Set, Word}
use Rattle.cell_arena.specs.Cells.{Cells}
use Rattle.cell_arena.specs.Decode.{decode, decode_all, present}
use Rattle.cell_merge.specs.Edges.{LeadTo}
use Rattle.cell_merge.specs.Sorts.{OfSort, Sort, function_of, name, number, record_of, sequence_of}
use Rattle.cell_merge.specs.Sorts.{set_of as set_sort, truth, tuple_of}
use Rattle.typed_cells.specs.Known.{IsNumber, IsSetOfEdges}

abbrev top : Lit
top = record { var = 0; neg = false }

abbrev bottom : Lit
bottom = record { var = 0; neg = true }

abbrev Edge : Type 0
Edge = Lit × CellId

abbrev cell : ℕ → CellId
cell i = record { index = i }

-- the word 0011 of four bits, and a truth value
abbrev small : Cells
small = record { texts = []; width = 4; kinds = Word (top ∷ top ∷ bottom ∷ bottom ∷ []) ∷ Bit top ∷ []; vars = 1 }

three_bits : (t : Bool) → t ≡ true → value.Int (signed (t ∷ t ∷ not t ∷ not t ∷ [])) ≡ value.Int (pos 3)
unfolding signed bits_number taken
three_bits true e = refl
three_bits false e = absurd (cc)

decoded-three : (a : List Bool) → get_or a 0 false ≡ true → decode small a (cell 0) ≡ value.Int (pos 3)
unfolding decode decode_all
decoded-three a on = three_bits (get_or a 0 false) on

module _ (b : Build) (is : b.arena ≡ small) (some : 0 < b.formula.vars)
    (on : (a : List Bool) → Satisfies a b.formula → get_or a 0 false ≡ true) where
  -- 3 fits four bits
  three : IsNumber b (pos 3) (cell 0, bottom)
  three = record {
    sort = rw is (omega arith, tt);
    outside = record { below = some; value = λ a s. rw is (ap not (on a s)) };
    value = λ a s e. rw is (decoded-three a (on a s));
  }

  -- 8 does not, and then the cell has any value
  eight : IsNumber b (pos 8) (cell 0, top)
  eight = record {
    sort = rw is (omega arith, tt);
    outside = record { below = some; value = λ a s. rw is (on a s) };
    value = λ a s e. absurd (let never : true ≡ false = sym (on a s) ∙ e in cc);
  }

  -- the cell is no 2, and 3 is not outside, where there is an assignment
  no-two : (a : List Bool) → Satisfies a b.formula → IsNumber b (pos 2) (cell 0, bottom) →
      value.Int (pos 3) ≡ value.Int (pos 2)
  no-two a s h = sym (decoded-three a (on a s)) ∙ (rw is at (h.value a s (ap not (on a s))))

  not-outside : (a : List Bool) → Satisfies a b.formula → IsNumber b (pos 3) (cell 0, top) → ⊥
  not-outside a s h =
      let told : get_or a 0 false ≡ false = rw is at (h.outside.value a s) in
      absurd (let never : true ≡ false = sym (on a s) ∙ told in cc)

  -- a truth value is of another sort
  no-number : IsNumber b (pos 3) (cell 1, bottom) → ⊥
  no-number h = (rw is at h.sort).1

-- ---- sets

-- the set of an edge that is there
abbrev larger : Cells
larger =
    record {
      texts = [];
      width = 4;
      kinds = Word (top ∷ top ∷ bottom ∷ bottom ∷ []) ∷ Bit top ∷ Set ((top, cell 0) ∷ []) ∷ [];
      vars = 1;
    }

one_there : (of : CellId → Value) (t : Bool) → t ≡ true →
    map (λ (e : Edge). of e.1) (cond t ((top, cell 0) ∷ []) []) ≡ of (cell 0) ∷ []
one_there of true e = refl
one_there of false e = absurd (cc)

decoded-set : (a : List Bool) → get_or a 0 false ≡ true → decode larger a (cell 2) ≡ value.Set (value.Int (pos 3) ∷ [])
unfolding decode decode_all
decoded-set a on =
    ap (λ (vs : List Value). value.Set (set_of vs)) (one_there _ (get_or a 0 false) on)
    ∙ ap (λ (v : Value). value.Set (v ∷ [])) (three_bits (get_or a 0 false) on)

-- an edge of the literal `top`, and one that is never there
abbrev edges : List Edge
edges = (top, cell 0) ∷ (bottom, cell 0) ∷ []

first_there : (of : CellId → Value) (t : Bool) → t ≡ true →
    map (λ (e : Edge). of e.1)
    (cond t ((top, cell 0) ∷ cond (not t) ((bottom, cell 0) ∷ []) []) (cond (not t) ((bottom, cell 0) ∷ []) []))
    ≡ of (cell 0) ∷ []
first_there of true e = refl
first_there of false e = absurd (cc)

edges-there : (a : List Bool) → get_or a 0 false ≡ true → present a (decode small a) edges ≡ value.Int (pos 3) ∷ []
edges-there a on = first_there (decode small a) (get_or a 0 false) on ∙ ap (λ (v : Value). v ∷ []) (decoded-three a on)

same_sort : (t : Sort) → OfSort small.kinds t (cell 0) → OfSort larger.kinds t (cell 0)
same_sort truth h = absurd (h.1)
same_sort number h = (omega arith, tt)
same_sort name h = absurd (h.1)
same_sort (set_sort t) h = absurd (h.1)
same_sort (function_of r t) h = absurd (h.1)
same_sort (sequence_of t) h = absurd (h.1)
same_sort (record_of xs t) h = absurd (h.1)
same_sort (tuple_of n t) h = absurd (h.1)

set_sorted : (t : Sort) → OfSort larger.kinds t (cell 0) → OfSort larger.kinds (set_sort t) (cell 2)
set_sorted t h = (
  omega arith,
  All-cons (λ (e : Edge). OfSort larger.kinds t e.1) (top, cell 0) [] h
      (All-nil (λ (e : Edge). OfSort larger.kinds t e.1)),
)

module _ (old new : Build) (before : old.arena ≡ small) (after : new.arena ≡ larger)
    (on : (a : List Bool) → Satisfies a new.formula → get_or a 0 false ≡ true) where
  -- the set may leave out what is never there
  set-of-three : IsSetOfEdges old new edges (cell 2)
  set-of-three = record {
    value = record {
      there = rw after (omega arith);
      value = λ a s. rw (after, before)
          (decoded-set a (on a s) ∙ ap (λ (vs : List Value). value.Set (set_of vs)) (sym (edges-there a (on a s))));
    };
    sort = λ t h.
        let given : OfSort small.kinds t (cell 0) =
        All-head (λ (e : Edge). OfSort small.kinds t e.1) (top, cell 0) ((bottom, cell 0) ∷ [])
        (subst (λ (c : Cells). LeadTo c.kinds t edges) before h) in
        subst (λ (c : Cells). OfSort c.kinds (set_sort t) (cell 2)) (sym after) (set_sorted t (same_sort t given));
  }

  -- and nothing else: it is not that of no edges
  no-empty-set : (a : List Bool) → Satisfies a new.formula → IsSetOfEdges old new [] (cell 2) →
      value.Set (value.Int (pos 3) ∷ []) ≡ value.Set []
  no-empty-set a s h = sym (decoded-set a (on a s)) ∙ (rw after at (h.value.value a s))
