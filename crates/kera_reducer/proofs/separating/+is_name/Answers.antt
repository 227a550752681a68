use Rattle.std.proofs.Common.{◌∙◌, ap}
use Rattle.kernel_reduction.proofs.Apart.{name_bare, name_noted, name_other, name_there}
use Rattle.kera_reducer.proofs.separating.+is_name.Goals as goal

pub returns-in-empty : goal.returns-in-empty
returns-in-empty t c = name_bare c.args.name.now c.args.e.now _ c.as_slice.result.now c.in-Noted.is c.as_slice.ensures c.in-empty.len_below

pub returns-in-len1-up : goal.returns-in-len1-up
returns-in-len1-up t c =
    c.is_name.ensures
    ∙ name_noted c.args.name.now c.args.e.now c.inner-item.result _ c.as_slice.result.now c.in-Noted.is c.as_slice.ensures c.in-len1-up.len_at_least c.inner-item.is

pub returns-in-Bound : goal.returns-in-Bound
returns-in-Bound t c = c.same_text.ensures ∙ name_there c.args.name.now _ c.args.e.now c.in-Bound.is

pub returns-in_default : goal.returns-in_default
returns-in_default t c = name_other c.args.name.now c.args.e.now c.in_default.not-Noted c.in_default.not-Bound
