use Rattle.std.proofs.Common.{◌∙◌, refl}
use Rattle.cell_arena.proofs.Growing.{Grows-formula, Grows-trans}
use Rattle.form_choices.proofs.Makings.{function-made, made-named, made-older}
use Rattle.form_choices.proofs.making.function_from.Goals as goal

pub fun-requires-clause-named : goal.fun-requires-clause-named
fun-requires-clause-named c =
    made-named c.args.b.now c.args.edges.now c.args.cells.now c.args.lits.now c.requires _ c.in_ok-all.ensures.grows _ (c.from_vec.ensures ∙ c.in_ok-list.ensures)

pub fun-requires-clause-older : goal.fun-requires-clause-older
fun-requires-clause-older c =
    made-older c.args.b.now c.args.edges.now c.args.cells.now c.args.lits.now c.requires _ c.in_ok-all.ensures.grows _ (c.from_vec.ensures ∙ c.in_ok-list.ensures)

pub returns-in_err-id-clause-grows : goal.returns-in_err-id-clause-grows
returns-in_err-id-clause-grows c = Grows-trans _ _ _ (Grows-formula _ _ c.in_ok-all.ensures.grows refl) c.in_err-id.ensures.grows

pub returns-clause-grows : goal.returns-clause-grows
returns-clause-grows c = Grows-trans _ _ _ (Grows-formula _ _ c.in_ok-all.ensures.grows refl) c.in_ok-id.ensures.grows

pub returns-clause-makes : goal.returns-clause-makes
returns-clause-makes c =
    function-made c.args.b.now c.args.edges.now c.args.cells.now c.args.lits.now c.requires _ _ refl refl _ (c.from_vec.ensures ∙ c.in_ok-list.ensures)
    _ _ _ c.in_ok-id.ensures.grows c.in_ok-all.ensures.holds c.in_ok-id.ensures.cell c.in_ok-id.ensures.value
