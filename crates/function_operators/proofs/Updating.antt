-- What EXCEPT makes, as cells.
use Rattle.std.proofs.Common.{◌≡◌, ℕ, Bool, not, ◌&&◌, Some, None, refl, ap, ◌∙◌, sym, subst, arith}
use Rattle.sat_formula.specs.declared.cnf.Cnf.{Cnf}
use Rattle.sat_formula.specs.declared.lit.Lit.{Lit}
use Rattle.sat_formula.specs.Lit.{lit_value}
use Rattle.sat_formula.specs.Formula.{HasValue, Grows as FormulaGrows}
use Rattle.sat_formula.proofs.Extension.{Satisfies-older}
use Rattle.tla_values.specs.declared.value.Value.{Value}
use Rattle.tla_meaning.specs.declared.outcome.Outcome.{Outcome}
use Rattle.tla_meaning.specs.declared.outcome.Outcome.TheVariants.{Val}
use Rattle.cell_arena.specs.declared.build.Build.{Build}
use Rattle.cell_arena.specs.declared.kinds.CellId.{CellId}
use Rattle.cell_arena.specs.Cells.{Cells as Arena}
use Rattle.cell_arena.specs.Decode.{decode}
use Rattle.cell_merge.specs.Sorts.{Sort, OfSort, tuple_of}
use Rattle.cell_merge.proofs.Edges.{negated-value}
use Rattle.function_rewriter.specs.Functions.{SetsItem}
use Rattle.outcome_cells.specs.declared.cells.Cells.{Cells}
use Rattle.outcome_cells.specs.declared.cells.Faults.{Faults}
use Rattle.outcome_cells.specs.Rows.{ShowsAt}
use Rattle.outcome_cells.specs.Shown.{Shown}
use Rattle.outcome_cells.specs.Shows.{AreCells, Shows, faults_of}
use Rattle.function_operators.specs.declared.index.Index.{Index}
use Rattle.function_operators.specs.declared.index.Index.TheVariants as index
use Rattle.function_operators.specs.Parts.{HasPart, index_value}
use Rattle.function_operators.specs.Updates.{Change, IsUpdate}
use Rattle.function_operators.specs.inner.Found.{Masks, Puts}
use Rattle.function_operators.proofs.Changes.{outside_row, update_shown}
use Rattle.function_operators.proofs.Found.{part_mapping}

-- faults where a literal is false
pub masks : (g h : Cnf) (outside inside : Lit) (x r : Faults) →
    inside ≡ record { var = outside.var; neg = not outside.neg } →
    FormulaGrows g h → HasValue g r.wrong (λ a. lit_value inside a && lit_value x.wrong a) →
    HasValue h r.big (λ a. lit_value inside a && lit_value x.big a) → Masks h outside x r
masks g h outside inside x r is grows wrong big = record {
  wrong = record {
    below = let p = wrong.below in let q = grows.vars in omega arith;
    value = λ a s. wrong.value a (Satisfies-older g h a grows s)
        ∙ ap (λ (b : Bool). b && lit_value x.wrong a) (negated-value outside inside a is);
  };
  big = record {
    below = big.below;
    value = λ a s. big.value a s ∙ ap (λ (b : Bool). b && lit_value x.big a) (negated-value outside inside a is);
  };
}

-- the literals may be written otherwise
with_literals : (w w' b b' : Bool) (v v' : Value) (o : Outcome) → w ≡ w' → b ≡ b' → v ≡ v' → Shown w' b' v' o →
    Shown w b v o
with_literals w w' b b' v v' o e f g h = record {
  wrong = e ∙ h.wrong;
  big = f ∙ h.big;
  value = λ x k. g ∙ h.value x k;
}

made : (old mid new : Build) (f id : CellId) (i : Index) (out : Lit) (x r : Cells) (m : Faults) (whole part : Sort) →
    OfSort old.arena.kinds whole f → HasPart old.arena.kinds i whole part → new.arena ≡ mid.arena →
    FormulaGrows mid.formula new.formula →
    Puts old mid f i x.cell id → Masks new.formula out (faults_of x) m →
    r ≡ record { cell = id; wrong = m.wrong; big = m.big } →
    IsUpdate old new f i (Some (out, x)) r
made old mid new f id i out x r m whole part is at same grows puts masks e = rw e (record {
  shows = λ a s p right h.
      let put = update_shown p right (lit_value out a) (lit_value x.wrong a) (lit_value x.big a)
      (decode old.arena a x.cell) (decode mid.arena a id)
      (decode old.arena a f) (index_value old.arena a i) (part_mapping old.arena a f i whole part old.built is at)
      (puts.value.value a (Satisfies-older mid.formula new.formula a grows s)) h.outside (λ u k. (h.shows u k).shown) in
      record {
        shown = with_literals _ _ _ _ _ _ _ (masks.wrong.value a s) (masks.big.value a s)
            (ap (λ (c : Arena). decode c a id) same) put;
      };
  cells = λ w q h k n. record {
    sort = rw same (puts.sort w q h k n);
    wrong = masks.wrong.below;
    big = masks.big.below;
  };
})

pub made_there : (old mid new : Build) (f id : CellId) (i : Index) (change : Change) (out : Lit) (x r : Cells)
    (fs m : Faults) (whole part : Sort) →
    OfSort old.arena.kinds whole f → HasPart old.arena.kinds i whole part → change ≡ Some (out, x) →
    new.arena ≡ mid.arena →
    FormulaGrows mid.formula new.formula → Puts old mid f i x.cell id → fs ≡ faults_of x → Masks new.formula out fs m →
    r ≡ record { cell = id; wrong = m.wrong; big = m.big } → IsUpdate old new f i change r
made_there old mid new f id i change out x r fs m whole part is at there same grows puts faults masks e =
    subst (λ (c : Change). IsUpdate old new f i c r) (sym there)
    (made old mid new f id i out x r m whole part is at same grows puts
    (subst (λ (y : Faults). Masks new.formula out y m) faults masks) e)

pub unmade : (b : Build) (f : CellId) (i : Index) (change : Change) (r : Cells) (whole part : Sort) →
    OfSort b.arena.kinds whole f →
    HasPart b.arena.kinds i whole part → ((x : Lit × Cells) → change ≡ Some x → ⊥) →
    ((s : Sort) → OfSort b.arena.kinds s f → AreCells b s r) → ShowsAt b r (λ a _. Val (decode b.arena a f)) →
    IsUpdate b b f i change r
unmade b f i (Some x) r whole part is at not_some cells h = absurd (not_some x refl)
unmade b f i None r whole part is at not_some cells h = record {
  shows = λ a s p right k. subst (Shows b.arena a r)
      (sym (outside_row p right (decode b.arena a f) (index_value b.arena a i)
      (part_mapping b.arena a f i whole part b.built is at) (sym k.outside)))
      (h.shows a s p);
  cells = λ w q h k n. cells w h;
}

-- ---- what is put into a tuple

pub puts_item : (b c : Build) (f v id : CellId) (j : Index) (i : ℕ) → j ≡ index.Number i → SetsItem b c f i v id →
    Puts b c f j v id
puts_item b c f v id j i e h =
    subst (λ (k : Index). Puts b c f k v id) (sym e) (record { value = h.gives; sort = sorts })
  where
    sorts : (whole part : Sort) → OfSort b.arena.kinds whole f → HasPart b.arena.kinds (index.Number i) whole part →
        OfSort b.arena.kinds part v →
        OfSort c.arena.kinds whole id
    sorts (tuple_of n s) part k at new = h.sort n s k (subst (λ (t : Sort). OfSort b.arena.kinds t v) at.1.1 new)
    sorts whole part k at new = absurd at
