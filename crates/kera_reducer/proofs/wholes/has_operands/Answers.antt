use Rattle.std.proofs.Common.{◌∙◌, ap, sym}
use Rattle.std.specs.Prelude.{nat_eq}
use Rattle.kera_reducer.proofs.WholeNodes.{and_count, as_many, binder_count, except_count, record_count}
use Rattle.kera_reducer.specs.inner.Wholes.{update_count}
use Rattle.kera_reducer.proofs.wholes.has_operands.Goals as goal

pub returns-in-Except : goal.returns-in-Except
returns-in-Except c =
    c.has_updates.ensures
    ∙ ap (λ ns. nat_eq (update_count ns) c.args.children) c.as_slice.ensures
    ∙ ap (λ n. nat_eq n c.args.children)
    (sym (except_count c.args.op.now c.in-Except.counts c.in-Except.is c.args.names.now c.args.children))

pub returns-in-Exists : goal.returns-in-Exists
returns-in-Exists c =
    c.binds.ensures
    ∙ ap (λ n. nat_eq n c.args.children)
    (sym (binder_count c.args.op.now c.in-Exists.is c.args.names.now c.args.children))

pub returns-in-Record : goal.returns-in-Record
returns-in-Record c = as_many _ c.args.children (record_count c.args.op.now c.in-Record.is c.args.names.now c.args.children)

pub returns-in-Record-2 : goal.returns-in-Record-2
returns-in-Record-2 c = as_many _ c.args.children (record_count c.args.op.now c.in-Record.is c.args.names.now c.args.children)

pub returns-in-Record-3 : goal.returns-in-Record-3
returns-in-Record-3 c = as_many _ c.args.children (record_count c.args.op.now c.in-Record.is c.args.names.now c.args.children)

pub returns-in-Record-4 : goal.returns-in-Record-4
returns-in-Record-4 c = as_many _ c.args.children (record_count c.args.op.now c.in-Record.is c.args.names.now c.args.children)

pub returns-in-And-4 : goal.returns-in-And-4
returns-in-And-4 c = as_many _ c.args.children (and_count c.args.op.now c.in-And.is c.args.names.now c.args.children)
