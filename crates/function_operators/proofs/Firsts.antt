-- The first item of a sequence, as what stands at the number 1.
use Rattle.std.proofs.Common.{◌≡◌, ℕ, zero, suc, ◌-◌, ◌^◌, ◌<◌, ◌≤◌, Bool, true, not, List, [], ◌∷◌, Option, Some}
use Rattle.std.proofs.Common.{None, IfSome, pos, ap, ap₂, ◌∙◌, sym, arith}
use Rattle.std.proofs.lemmas.Bool.{lt-ltb}
use Rattle.std.proofs.lemmas.Nat.{pow_pos}
use Rattle.sat_formula.specs.declared.lit.Lit.{Lit}
use Rattle.sat_formula.specs.Formula.{Satisfies}
use Rattle.tla_values.specs.Integers.{fits_width}
use Rattle.tla_values.specs.Sets.{apply}
use Rattle.tla_values.specs.declared.value.Value.{Value}
use Rattle.tla_values.specs.declared.value.Value.TheVariants as value
use Rattle.tla_meaning.specs.declared.op.Op.TheVariants as op
use Rattle.tla_meaning.specs.Operators.{or_wrong}
use Rattle.cell_arena.specs.declared.build.Build.{Build}
use Rattle.cell_arena.specs.declared.kinds.CellId.{CellId}
use Rattle.cell_arena.specs.Cells.{kind_at}
use Rattle.cell_arena.specs.Decode.{decode}
use Rattle.cell_arena.specs.Growth.{Grows}
use Rattle.cell_arena.proofs.Growing.{Grows-trans, Satisfies-before, decode-before, kind-before}
use Rattle.cell_merge.specs.Arrows.{pairs_of}
use Rattle.cell_merge.specs.Composites.{parts_of}
use Rattle.cell_merge.specs.Sorts.{Sort, OfSort, sequence_of}
use Rattle.cell_merge.proofs.Edges.{is-sequence}
use Rattle.cell_merge.proofs.SortLaws.{OfSort-later}
use Rattle.sequence_rewriter.specs.Sequences.{HasPlace, IsSequenceCell}
use Rattle.outcome_cells.specs.declared.cells.Cells.{Cells}
use Rattle.outcome_cells.specs.Rows.{ShowsAt}
use Rattle.typed_cells.specs.Known.{IsNumber}
use Rattle.function_operators.specs.Operands.{HasRow}
use Rattle.function_operators.specs.inner.Found.{Gives}
use Rattle.function_operators.proofs.Found.{sequence_gives}
use Rattle.function_operators.proofs.Rows.{row_first}
use Rattle.function_operators.proofs.Shown.{row_shown}
use Rattle.function_operators.proofs.Values.{sequence_value}

-- 1 fits each width
one_fits : (w : ℕ) → 4 ≤ w → fits_width w (pos 1) ≡ true
one_fits w le = lt-ltb 1 (2 ^ (w - 1)) (more (w - 1) (omega arith))
  where
    more : (n : ℕ) → 1 ≤ n → 1 < 2 ^ n
    more zero h = absurd (omega arith)
    more (suc n) h = let p = pow_pos n in omega arith

-- so the cell of the known number is 1
one_value : (b : Build) (one : CellId) (outside : Lit) (a : List Bool) → IsNumber b (pos 1) (one, outside) →
    Satisfies a b.formula →
    decode b.arena a one ≡ value.Int (pos 1)
one_value b one outside a h s = h.value a s (h.outside.value a s ∙ ap not (one_fits b.arena.width b.built.narrow.0))

pub place_gives : (b d e : Build) (s one : CellId) (found : Option (CellId × Lit)) → IsSequenceCell b.arena.kinds s →
    Grows b d →
    (found ≡ None → parts_of (kind_at d.arena.kinds s) ≡ []) → IfSome found (HasPlace d e s one) →
    Gives e found (λ a. apply (pairs_of (decode d.arena a s)) (decode d.arena a one))
place_gives b d e s one found h g none applies =
    let k = is-sequence (OfSort b.arena.kinds h.sort) (kind_at b.arena.kinds s) h.is.1 in
    let there = h.is.0 in
    let longer = g.longer in
    sequence_gives d e s one k.0 k.1 found (omega arith) (kind-before b d s g h.is.0 ∙ k.2) none applies

pub first_shown : (b d e : Build) (s one : CellId) (outside : Lit) (x : Cells) → IsSequenceCell b.arena.kinds s →
    Grows b d → Grows d e →
    IsNumber d (pos 1) (one, outside) →
    ShowsAt e x (λ a p. or_wrong p (apply (pairs_of (decode d.arena a s)) (decode d.arena a one))) →
    HasRow b e op.Head (s ∷ []) x
first_shown b d e s one outside x h g later is shows =
    row_shown b e op.Head (s ∷ []) x _ (Grows-trans b d e g later) shows (λ a sat p.
    row_first (Some b.arena.width) p (decode b.arena a s) (sequence_value b.arena a s h.sort b.built h.is)
    ∙ ap₂ (λ (u v : Value). or_wrong p (apply (pairs_of u) v)) (sym (decode-before b d a s g h.is.0))
    (sym (one_value d one outside a is (Satisfies-before d e a later sat))))

pub first_sorts : (b d e : Build) (s one : CellId) (t : Sort) (found : Option (CellId × Lit)) → Grows b d →
    OfSort b.arena.kinds (sequence_of t) s →
    IfSome found (HasPlace d e s one) → IfSome found (λ o. OfSort e.arena.kinds t o.0)
first_sorts b d e s one t None g h applies = applies
first_sorts b d e s one t (Some r) g h applies = applies.sort t (OfSort-later b d (sequence_of t) s h g)
