use Rattle.std.proofs.Common.{◌∷◌, [], refl}
use Rattle.snowcat_rows.specs.Types.{var}
use Rattle.snowcat_rows.specs.Views.{issued_of}
use Rattle.snowcat_types.specs.declared.kinds.Kind.TheVariants.{Record}
use Rattle.snowcat_types.specs.Requirements.{Equal, FieldOf}
use Rattle.snowcat_types.specs.TypeForms.{set_type, str_type}
use Rattle.snowcat_types.specs.inner.Gathered.{requirements_of}
use Rattle.snowcat_types.proofs.Chosen.{never_chosen}
use Rattle.snowcat_types.proofs.Picked.{apply_below, apply_is, field_picked}
use Rattle.snowcat_types.proofs.Tied.{built_below, domain_below, domain_chosen, is_chosen}
use Rattle.snowcat_types.proofs.choosing.choose_record.Goals as goal

pub tie-requires : goal.tie-requires
tie-requires c = record {
  within =
      built_below (λ v. requirements_of v.items) c.text_domain.result (issued_of c.args.subst.now) _ c.text_domain.ensures
      (domain_below str_type c.in-Domain.is (λ n. tt) (issued_of c.args.subst.now) c.requires.within);
}

pub returns-in-Domain-clause-tried : goal.returns-in-Domain-clause-tried
returns-in-Domain-clause-tried c =
    let asked = Equal (set_type str_type) (var c.in-Domain.domain) ∷ [] in
    domain_chosen Record asked c.args.subst.now c.tie.new.subst c.tie.result c.in-Domain.is refl (λ e. absurd (cc)) (λ e. absurd (cc)) c.requires.due
    (c.tie.ensures.tied c.args.wait.now asked c.text_domain.ensures (domain_below str_type c.in-Domain.is (λ n. tt)))

pub returns-in-Word-clause-tried : goal.returns-in-Word-clause-tried
returns-in-Word-clause-tried c =
    is_chosen Record (FieldOf (var c.in-Apply.whole) c.in-Word.name (var c.in-Apply.part) ∷ []) c.args.subst.now c.choose_field.new.subst c.choose_field.result (apply_is c.in-Apply.is c.in-Word.is) refl
    (field_picked c.args.wait.now c.args.subst.now c.choose_field.new.subst c.choose_field.result c.in-Apply.whole c.in-Apply.part c.in-Word.name (apply_below c.in-Apply.is) c.choose_field.ensures.met)

pub returns-in-Number-clause-tried : goal.returns-in-Number-clause-tried
returns-in-Number-clause-tried c = never_chosen Record c.args.subst.now c.refuse.new.subst c.refuse.result (apply_is c.in-Apply.is c.in-Number.is) refl c.refuse.ensures.excluded

pub returns-in-NoLiteral-clause-tried : goal.returns-in-NoLiteral-clause-tried
returns-in-NoLiteral-clause-tried c = never_chosen Record c.args.subst.now c.refuse-in-NoLiteral.new.subst c.refuse-in-NoLiteral.result (apply_is c.in-Apply.is c.in-NoLiteral.is) refl c.refuse-in-NoLiteral.ensures.excluded

pub returns-in-Tuple-clause-tried : goal.returns-in-Tuple-clause-tried
returns-in-Tuple-clause-tried c = never_chosen Record c.args.subst.now c.refuse-in-Tuple.new.subst c.refuse-in-Tuple.result c.in-Tuple.is refl c.refuse-in-Tuple.ensures.excluded
