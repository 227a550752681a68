use Rattle.snowcat_types.proofs.NameSteps.{read_good, read_bad}
use Rattle.snowcat_types.proofs.names.Names.add.Goals as goal

pub returns-in_ok-push-in-Some : goal.returns-in_ok-push-in-Some
returns-in_ok-push-in-Some c = λ al ds h r.
    read_good al ds c.args.decl.now c.args.self.now.types.items c.push.new.self.items c.args.self.now.worst c.in_ok-read.field-0 c.in-Some.read
    r (c.in_ok-read.ensures al h) c.in-Some.is c.in_ok-push-in-Some.ensures.items

pub returns-in-None : goal.returns-in-None
returns-in-None c = λ al ds h r.
    read_bad al ds c.args.decl.now c.args.self.now.types.items c.args.self.now.worst c.in_ok-read.field-0 c.earlier.result
    r (c.in_ok-read.ensures al h) c.in-None.is c.earlier.ensures
