use Rattle.std.proofs.Common.{◌∙◌, ◌&&◌, ap, refl, sym}
use Rattle.tla_meaning.specs.declared.expr.Expr.{out-Expr}
use Rattle.kernel_reduction.specs.SizeLaws.{begins_below}
use Rattle.kernel_reduction.proofs.Apart.{goes_bare, goes_except, goes_noted, goes_other}
use Rattle.kera_reducer.proofs.separating.+goes_on.Goals as goal

pub returns-in-empty : goal.returns-in-empty
returns-in-empty t c = goes_bare c.args.place c.args.name.now c.args.e.now _ c.as_slice.result.now c.in-Noted.is c.as_slice.ensures c.in-empty.len_below

pub returns-in-len1-up : goal.returns-in-len1-up
returns-in-len1-up t c =
    c.goes_on.ensures
    ∙ goes_noted c.args.place c.args.name.now c.args.e.now c.inner-item.result _ c.as_slice.result.now c.in-Noted.is c.as_slice.ensures c.in-len1-up.len_at_least c.inner-item.is

pub returns-then-same_place : goal.returns-then-same_place
returns-then-same_place t c =
    ap (λ b. b && c.begins_below.result) (sym c.if-same_place.true)
    ∙ goes_except c.args.place c.args.name.now c.args.e.now _ c.same_place.result c.begins_below.result c.in-Except.is c.same_place.ensures
    (c.begins_below.ensures ∙ ap (begins_below c.args.name.now) c.as_slice-then-same_place.ensures)

pub returns-else-same_place : goal.returns-else-same_place
returns-else-same_place t c =
    let rest = begins_below c.args.name.now (out-Expr c.args.e.now).args in
    c.if-same_place.false
    ∙ ap (λ b. b && rest) (sym c.if-same_place.false)
    ∙ goes_except c.args.place c.args.name.now c.args.e.now _ c.same_place.result rest c.in-Except.is c.same_place.ensures refl

pub returns-in_default : goal.returns-in_default
returns-in_default t c = goes_other c.args.place c.args.name.now c.args.e.now c.in_default.not-Noted c.in_default.not-Except
