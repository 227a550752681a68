use Rattle.std.proofs.Common.{◌∙◌, ap, sym}
use Rattle.std.specs.Int.{w128}
use Rattle.std.specs.List.{list_all}
use Rattle.std.proofs.lemmas.Int.{to_z-of_z}
use Rattle.snowcat_rows.specs.FieldNames.{names_differ}
use Rattle.snowcat_rows.specs.Substitutions.{apply}
use Rattle.snowcat_rows.specs.Types.{mean, var}
use Rattle.snowcat_rows.specs.Views.{stands_for}
use Rattle.snowcat_rows.proofs.Means.{mean-Tup, mean-Var}
use Rattle.snowcat_rows.proofs.Naming.{differ-Tup, differ-Var}
use Rattle.snowcat_types.specs.Requirements.{kind}
use Rattle.snowcat_types.specs.TypeForms.{tuple_type}
use Rattle.snowcat_types.specs.inner.Built.{means}
use Rattle.snowcat_types.proofs.Chosen.{tuple_formed}
use Rattle.snowcat_types.proofs.Picked.{item_same}
use Rattle.snowcat_types.proofs.choosing.item_under.Goals as goal

pub item_in-requires : goal.item_in-requires
item_in-requires c =
    ap (list_all names_differ) c.as_slice.ensures ∙ sym (differ-Tup c.in-Tup.items) ∙ sym (ap names_differ c.in-Tup.is) ∙ c.in_ok-tuple.ensures.named (differ-Var c.args.whole)

pub returns-in-Tup : goal.returns-in-Tup
returns-in-Tup c =
    item_same (tuple_type (means c.as_slice.result.now)) (apply (stands_for c.args.subst.now) (var c.args.whole)) _ c.args.place c.item_in.result
    (ap (λ z. tuple_type (means z)) c.as_slice.ensures ∙ sym (mean-Tup c.in-Tup.items) ∙ sym (ap mean c.in-Tup.is) ∙ c.in_ok-tuple.ensures.mean ∙ ap (apply (stands_for c.args.subst.now)) (mean-Var c.args.whole))
    (to_z-of_z w128 c.args.place c.ranges.place) c.item_in.ensures

pub returns : goal.returns
returns c =
    let t = tuple_formed c.in_ok-tuple.tuple (ap kind (c.in_ok-tuple.ensures.mean ∙ ap (apply (stands_for c.args.subst.now)) (mean-Var c.args.whole)) ∙ c.requires) in
    absurd (c.in_default.not-Tup t.0 t.1)
