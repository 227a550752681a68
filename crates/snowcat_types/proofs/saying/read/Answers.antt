use Rattle.std.proofs.Common.{subst}
use Rattle.snowcat_rows.specs.Readings.{WantsMemory}
use Rattle.snowcat_rows.specs.Views.{known_by}
use Rattle.snowcat_types.proofs.SayingSteps.{not_read}
use Rattle.snowcat_types.proofs.saying.read.Goals as goal

pub returns-in-Err-BadType : goal.returns-in-Err-BadType
returns-in-Err-BadType c = λ al h.
    not_read al (known_by c.args.aliases.now) c.args.text.now c.in-Err-BadType.field-0 h c.in-Err-BadType.ensures.read
    (λ w. subst WantsMemory c.in-Err-BadType.field-0-is w)

pub returns-in-Err-UnknownAlias : goal.returns-in-Err-UnknownAlias
returns-in-Err-UnknownAlias c = λ al h.
    not_read al (known_by c.args.aliases.now) c.args.text.now c.in-Err-UnknownAlias.field-0 h c.in-Err-UnknownAlias.ensures.read
    (λ w. subst WantsMemory c.in-Err-UnknownAlias.field-0-is w)
