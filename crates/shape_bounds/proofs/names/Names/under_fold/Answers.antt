use Rattle.std.proofs.Common.{◌∙◌, sym}
use Rattle.shape_bounds.proofs.ExtentsUnder.{fold_under}
use Rattle.shape_bounds.proofs.Families.{three_children}
use Rattle.shape_bounds.proofs.names.Names.under_fold.Goals as goal

pub returns-in_ok-stacks-in-len3 : goal.returns-in_ok-stacks-in-len3
returns-in_ok-stacks-in-len3 c =
    fold_under c.args.self.now c.enter.new.self c.size.new.self c.size-in-len3.new.self c.steps.new.self c.along.new.self c.args.k.now c.body-item.result
    c.start-item.result c.list-item.result c.args.stack.now c.as_slice-numbers.result.now c.in_ok-first-in-len3.first c.in_ok-items-in-len3.items
    c.in_ok-values-in-len3.values.items c.as_slice-in-len3.result.now c.in_ok-values-in-len3.values.len c.in_ok-stacks-in-len3.stacks.items c.requires.kind
    (sym c.as_slice.ensures ∙ three_children c.as_slice.result.now _ _ _ c.in-len3.len_at_least c.in-len3.len_below c.body-item.is c.start-item.is c.list-item.is)
    c.as_slice-numbers.ensures c.in_ok-enter-in-len3.ensures.stays c.in_ok-enter-in-len3.ensures.bound c.in_ok-first-in-len3.ensures c.in_ok-items-in-len3.ensures
    c.in_ok-values-in-len3.ensures c.in_ok-values-in-len3.values.ok.0 (c.as_slice-in-len3.ensures.value ∙ c.pop.ensures.rest) c.in_ok-stacks-in-len3.ensures
