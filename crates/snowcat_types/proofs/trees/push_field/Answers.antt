use Rattle.snowcat_types.specs.declared.gathered.Requirement.TheVariants.{FieldOf}
use Rattle.snowcat_types.proofs.NamedSteps.{asked_more}
use Rattle.snowcat_types.proofs.trees.push_field.Goals as goal

pub returns-in_ok-push-clause-named : goal.returns-in_ok-push-clause-named
returns-in_ok-push-clause-named c = λ h.
    asked_more c.args.asked.now.items c.push.new.self.items (FieldOf c.args.first c.in_ok-name.name c.in_ok-field.field) c.in_ok-push.ensures.items h tt
