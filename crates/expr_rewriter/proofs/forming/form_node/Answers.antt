use Rattle.std.proofs.Common.{refl}
use Rattle.cell_arena.proofs.Growing.{Grows-formula}
use Rattle.expr_rewriter.proofs.FormShown.{form_made, form_makes, form_sort, joins_made, parts_below, sets_below}
use Rattle.expr_rewriter.proofs.forming.form_node.Goals as goal

pub all_faults-requires-clause-sets : goal.all_faults-requires-clause-sets
all_faults-requires-clause-sets c = sets_below c.args.b.now c.args.e.now c.args.sets.now c.args.parts.items c.requires

pub all_faults-requires-clause-parts : goal.all_faults-requires-clause-parts
all_faults-requires-clause-parts c =
    rw c.as_slice.ensures.value (parts_below c.args.b.now c.args.e.now c.args.sets.now c.args.parts.items c.requires)

pub returns-clause-sort : goal.returns-clause-sort
returns-clause-sort c =
    form_sort c.args.b.now _ c.args.e.now c.args.sets.now c.args.parts.items c.requires _
    (Grows-formula c.args.b.now _ c.in_ok-faults.ensures.grows refl)
    (form_made c.args.e.now c.args.sets.now c.args.parts.items _ _ c.in_ok-forms.ensures c.in_ok-form.ensures)
    c.in_ok-faults.ensures.joins.below

pub returns-clause-makes : goal.returns-clause-makes
returns-clause-makes c =
    form_makes c.args.b.now _ c.args.e.now c.args.sets.now c.args.parts.items c.requires _
    (Grows-formula c.args.b.now _ c.in_ok-faults.ensures.grows refl)
    (form_made c.args.e.now c.args.sets.now c.args.parts.items _ _ c.in_ok-forms.ensures c.in_ok-form.ensures)
    (joins_made _ c.args.sets.now _ _ _ c.as_slice.ensures.value c.in_ok-faults.ensures.joins)
