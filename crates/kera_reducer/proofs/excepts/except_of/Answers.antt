use Rattle.std.proofs.Common.{sym, ◌∙◌, ap}
use Rattle.kernel_reduction.specs.Rows.{all_plain}
use Rattle.kera_reducer.proofs.Excepted.{made_plain, made_by_let}
use Rattle.kera_reducer.proofs.IfOks.{ok_by}
use Rattle.kera_reducer.proofs.excepts.except_of.Goals as goal

pub returns-then-all_plain : goal.returns-then-all_plain
returns-then-all_plain c =
    ok_by _ _ c.changed.result c.changed.ensures
    (λ k h. made_plain c.args.made.now.place c.args.made.now.ty.now c.args.counts.now c.args.made.now.depth c.args.kids.items
    c.in_ok-children.children.operands.function c.in_ok-children.children.operands.indexes.items
    c.in_ok-children.children.rights.items (sym c.are_paths.ensures ∙ c.if-not-are_paths.false) c.in_ok-children.ensures k
    (ap all_plain (sym c.as_slice.ensures.value) ∙ sym c.all_plain.ensures ∙ c.if-all_plain.true) h)

pub returns-else-all_plain : goal.returns-else-all_plain
returns-else-all_plain c =
    ok_by _ _ c.changed_by_let.result c.changed_by_let.ensures
    (λ k h. made_by_let c.args.made.now.place c.args.made.now.ty.now c.args.counts.now c.args.made.now.depth c.args.kids.items
    c.in_ok-children.children.operands.function c.in_ok-children.children.operands.indexes.items
    c.in_ok-children.children.rights.items (sym c.are_paths.ensures ∙ c.if-not-are_paths.false) c.in_ok-children.ensures k h.0
    (ap all_plain (sym c.as_slice.ensures.value) ∙ sym c.all_plain.ensures ∙ c.if-all_plain.false) h.1.0 h.1.1)
