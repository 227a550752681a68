use Rattle.std.proofs.Common.{◌∷◌, [], refl, rules}
use Rattle.snowcat_rows.specs.Types.{var}
use Rattle.snowcat_rows.specs.Views.{issued_of}
use Rattle.snowcat_types.specs.declared.kinds.Kind.TheVariants.{Tuple}
use Rattle.snowcat_types.specs.Requirements.{Equal}
use Rattle.snowcat_types.specs.TypeForms.{set_type, tuple_type, int_type}
use Rattle.snowcat_types.specs.Waiting.{items_from}
use Rattle.snowcat_types.specs.inner.Gathered.{requirements_of}
use Rattle.snowcat_types.proofs.Chosen.{never_chosen}
use Rattle.snowcat_types.proofs.Picked.{apply_below, apply_is, nowhere_chosen, number_chosen, picked}
use Rattle.snowcat_types.proofs.Tied.{built_below, domain_below, domain_chosen, is_chosen, items_below}
use Rattle.snowcat_types.proofs.choosing.choose_tuple.Goals as goal
use Rattle.std.specs.Int.{w128}
use Rattle.std.proofs.lemmas.Int.{to_z-of_z}
use mir.Val.{SFits}
use Rattle.snowcat_rows.specs.Types.{mean}

pub tie-requires : goal.tie-requires
tie-requires c = record {
  within =
      built_below (λ v. requirements_of v.items) c.number_domain.result (issued_of c.args.subst.now) _ c.number_domain.ensures
      (domain_below int_type c.in-Domain.is (λ n. tt) (issued_of c.args.subst.now) c.requires.within);
}

pub returns-in-Domain-clause-tried : goal.returns-in-Domain-clause-tried
returns-in-Domain-clause-tried c =
    let asked = Equal (set_type int_type) (var c.in-Domain.domain) ∷ [] in
    domain_chosen Tuple asked c.args.subst.now c.tie.new.subst c.tie.result c.in-Domain.is refl (λ e. absurd (cc)) (λ e. absurd (cc)) c.requires.due
    (c.tie.ensures.tied c.args.wait.now asked c.number_domain.ensures (domain_below int_type c.in-Domain.is (λ n. tt)))

pub tie-requires-in-Tuple : goal.tie-requires-in-Tuple
tie-requires-in-Tuple c = record {
  within =
      built_below (λ v. requirements_of v.items) c.tuple_tied.result (issued_of c.args.subst.now) _ c.tuple_tied.ensures
      (items_below c.in-Tuple.is (issued_of c.args.subst.now) c.requires.within);
}

pub returns-in-Tuple-clause-tried : goal.returns-in-Tuple-clause-tried
returns-in-Tuple-clause-tried c =
    let asked = Equal (var c.in-Tuple.whole) (tuple_type (items_from c.in-Tuple.first c.in-Tuple.count)) ∷ [] in
    is_chosen Tuple asked c.args.subst.now c.tie-in-Tuple.new.subst c.tie-in-Tuple.result c.in-Tuple.is refl
    (c.tie-in-Tuple.ensures.tied c.args.wait.now asked c.tuple_tied.ensures (items_below c.in-Tuple.is))

pub returns-in-Ok-Some-clause-tried : goal.returns-in-Ok-Some-clause-tried
returns-in-Ok-Some-clause-tried c =
    let found = rw c.in-Ok-Some.field-0-is at c.in-Ok-Some.ensures in
    let fits : SFits w128 c.in-Number.place = search rules in
    number_chosen c.in-Ok-Some.found.0 c.args.subst.now c.choose_item.new.subst c.choose_item.result c.in-Apply.is c.in-Number.is (to_z-of_z w128 c.in-Number.place fits) found.place
    (picked c.args.wait.now c.args.subst.now c.choose_item.new.subst c.choose_item.result c.in-Apply.whole c.in-Apply.part c.in-Ok-Some.found.0 (mean c.in-Ok-Some.found.1)
    (apply_below c.in-Apply.is) found.item c.choose_item.ensures.met)

pub returns-in-Ok-None-clause-tried : goal.returns-in-Ok-None-clause-tried
returns-in-Ok-None-clause-tried c =
    let absent = rw c.in-Ok-None.field-0-is at c.in-Ok-None.ensures in
    let fits : SFits w128 c.in-Number.place = search rules in
    nowhere_chosen c.in-Number.place c.args.subst.now c.refuse.new.subst c.refuse.result c.in-Apply.is c.in-Number.is (to_z-of_z w128 c.in-Number.place fits) absent c.refuse.ensures.excluded

pub returns-in-Word-clause-tried : goal.returns-in-Word-clause-tried
returns-in-Word-clause-tried c = never_chosen Tuple c.args.subst.now c.refuse-in-Word.new.subst c.refuse-in-Word.result (apply_is c.in-Apply.is c.in-Word.is) refl c.refuse-in-Word.ensures.excluded

pub returns-in-NoLiteral-clause-tried : goal.returns-in-NoLiteral-clause-tried
returns-in-NoLiteral-clause-tried c = never_chosen Tuple c.args.subst.now c.refuse-in-NoLiteral.new.subst c.refuse-in-NoLiteral.result (apply_is c.in-Apply.is c.in-NoLiteral.is) refl c.refuse-in-NoLiteral.ensures.excluded
