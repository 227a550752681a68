use Rattle.std.proofs.Common.{◌≡◌, List, [], ◌∷◌, sym, ◌∙◌, subst}
use Rattle.tla_meaning.specs.declared.op.Op.TheVariants as op
use Rattle.cell_merge.specs.Sorts.{Sort}
use Rattle.sat_formula.specs.declared.lit.Lit.{Lit}
use Rattle.cell_arena.specs.declared.kinds.CellId.{CellId}
use Rattle.cell_arena.specs.declared.kinds.CellKind.TheVariants.{Seq}
use Rattle.cell_arena.specs.Cells.{kind_at}
use Rattle.outcome_cells.specs.Shows.{AreCells}
use Rattle.function_operators.proofs.Shown.{row_shown, value_shown}
use Rattle.function_operators.proofs.Rows.{row_sequence_domain}
use Rattle.function_operators.proofs.Values.{sequence_value}
use Rattle.function_operators.specs.Operands.{domain_sort}
use Rattle.function_operators.proofs.DomainRows.{arguments_sort, as_sequence, domain_row, has_domain, sequence_cell}
use Rattle.function_operators.proofs.DomainRows.{tuple_cell}
use Rattle.function_operators.proofs.domains.domain.Goals as goal

pub seq_domain-requires : goal.seq_domain-requires
seq_domain-requires c = sequence_cell c.args.b.now _ _ _ c.requires (sym c.kind.ensures.same ∙ c.in-Seq.is)

pub tuple_domain-requires : goal.tuple_domain-requires
tuple_domain-requires c = tuple_cell c.args.b.now _ _ c.requires (sym c.kind.ensures.same ∙ c.in-Tup.is)

pub domain-requires : goal.domain-requires
domain-requires c =
    has_domain c.args.b.now c.args.f c.requires (λ w ps e. c.in_default.not-Seq w ps (c.kind.ensures.same ∙ e))
    (λ ps e. c.in_default.not-Tup ps (c.kind.ensures.same ∙ e))

pub returns-in_ok-id-in-Seq-clause-row : goal.returns-in_ok-id-in-Seq-clause-row
returns-in_ok-id-in-Seq-clause-row c =
    let b = c.args.b.now in
    let s = sequence_cell b _ _ _ c.requires (sym c.kind.ensures.same ∙ c.in-Seq.is) in
    row_shown b _ op.Domain (c.args.f ∷ []) _ _ c.in_ok-id-in-Seq.ensures.grows
    (c.big_where.ensures.shows _ c.in_ok-id-in-Seq.ensures.domain.yields)
    (λ a t p. row_sequence_domain b.arena.width p _ (sequence_value b.arena a c.args.f s.sort b.built s.is))

pub returns-in_ok-id-in-Seq-clause-cells : goal.returns-in_ok-id-in-Seq-clause-cells
returns-in_ok-id-in-Seq-clause-cells c = λ s h.
    let t = as_sequence _ _ s _ _ h (sym c.kind.ensures.same ∙ c.in-Seq.is) in
    subst (λ (u : Sort). AreCells c.seq_domain.new.b (domain_sort u) c.big_where.result) (sym t.1)
    (c.big_where.ensures.cells _ c.in_ok-id-in-Seq.ensures.domain.sort)

pub returns-in_ok-id-in_default : goal.returns-in_ok-id-in_default
returns-in_ok-id-in_default c =
    let b = c.args.b.now in
    let no_sequence : (w : List Lit) (ps : List CellId) → kind_at b.arena.kinds c.args.f ≡ Seq w ps → ⊥ =
    λ w ps e. c.in_default.not-Seq w ps (c.kind.ensures.same ∙ e) in
    let has = has_domain b c.args.f c.requires no_sequence
    (λ ps e. c.in_default.not-Tup ps (c.kind.ensures.same ∙ e)) in
    record {
      row = value_shown b _ op.Domain (c.args.f ∷ []) _ _ _ c.in_ok-id-in_default.ensures.grows
          c.in_ok-id-in_default.ensures.domain.value c.sure.ensures.shows (domain_row b c.args.f has);
      cells = λ s h. subst (λ (u : Sort). AreCells c.domain.new.b u c.sure.result)
          (arguments_sort b.arena.kinds c.args.f s h no_sequence)
          (c.sure.ensures.cells _ (c.in_ok-id-in_default.ensures.domain.sort s h));
      grows = c.in_ok-id-in_default.ensures.grows;
    }
