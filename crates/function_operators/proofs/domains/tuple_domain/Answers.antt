use Rattle.std.proofs.Common.{ℕ, [], ◌∷◌, None, ap₂, ◌∙◌, sym, pos}
use Rattle.tla_meaning.specs.declared.op.Op.TheVariants as op
use Rattle.tla_values.specs.Integers.{fits_width}
use Rattle.cell_merge.specs.Sorts.{number, tuple_of}
use Rattle.function_rewriter.specs.Arrows.{of_tuple}
use Rattle.function_operators.proofs.Shown.{row_shown, value_shown}
use Rattle.function_operators.proofs.Values.{tuple_count}
use Rattle.function_operators.proofs.DomainRows.{domain_row, lead_nowhere, no_edges, tuple_domain_big}
use Rattle.function_operators.proofs.domains.tuple_domain.Goals as goal

pub domain-requires : goal.domain-requires
domain-requires c =
    of_tuple c.requires.count c.requires.sorts c.requires.is
    (ap₂ (λ (w n : ℕ). fits_width w (pos n)) (sym c.width.ensures.same)
    (sym (c.part_count.ensures ∙ tuple_count _ _ _ _ c.requires.is)) ∙ (sym c.fits.ensures ∙ c.if-fits.true))

pub returns-then-fits-clause-row : goal.returns-then-fits-clause-row
returns-then-fits-clause-row c =
    let b = c.args.b.now in
    let fits = ap₂ (λ (w n : ℕ). fits_width w (pos n)) (sym c.width.ensures.same)
    (sym (c.part_count.ensures ∙ tuple_count _ _ _ _ c.requires.is)) ∙ (sym c.fits.ensures ∙ c.if-fits.true) in
    value_shown b _ op.Domain (c.args.t ∷ []) _ _ _ c.in_ok-id.ensures.grows c.in_ok-id.ensures.domain.value
    c.sure.ensures.shows
    (domain_row b c.args.t (of_tuple c.requires.count c.requires.sorts c.requires.is fits))

pub returns-then-fits-clause-cells : goal.returns-then-fits-clause-cells
returns-then-fits-clause-cells c =
    c.sure.ensures.cells _ (c.in_ok-id.ensures.domain.sort (tuple_of c.requires.count c.requires.sorts) c.requires.is)

pub set_of_edges-requires : goal.set_of_edges-requires
set_of_edges-requires c = no_edges _ _ _ c.new.ensures.items

pub returns-clause-row : goal.returns-clause-row
returns-clause-row c =
    let b = c.args.b.now in
    let fits = ap₂ (λ (w n : ℕ). fits_width w (pos n)) (sym c.width.ensures.same)
    (sym (c.part_count.ensures ∙ tuple_count _ _ _ _ c.requires.is)) ∙ (sym c.fits.ensures ∙ c.if-fits.false) in
    row_shown b _ op.Domain (c.args.t ∷ []) _ _ c.in_ok-id-2.ensures.grows
    (c.big_where.ensures.shows (λ a. None) (record {
      there = c.in_ok-id-2.ensures.set.value.there;
      below = c.top-top.ensures.below;
      tells = λ a s. c.top-top.ensures.forced a s;
    }))
    (λ a s p. tuple_domain_big b c.args.t c.requires.count c.requires.sorts c.requires.is fits a p)

pub returns-clause-cells : goal.returns-clause-cells
returns-clause-cells c =
    c.big_where.ensures.cells _ (c.in_ok-id-2.ensures.set.sort number
    (lead_nowhere c.args.b.now.arena.kinds number _ c.new.ensures.items))
