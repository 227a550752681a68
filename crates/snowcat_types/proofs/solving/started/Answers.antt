use Rattle.snowcat_types.proofs.Starting.{never_refused, started_so}
use Rattle.snowcat_types.proofs.solving.started.Goals as goal

pub unreachable-requires : goal.unreachable-requires
unreachable-requires c =
    never_refused c.args.system.now c.issued-subst.result c.ask_all.new.subst c.requires.fitting c.issued-subst.ensures.0 c.issued-subst.ensures.1
    c.as_slice.result.now c.in-Err-Clash.field-0 c.in-Err-Clash.field-0-0 c.in-Err-Clash.field-0-1 c.as_slice.ensures c.in-Err-Clash.field-0-is
    c.in-Err-Clash.ensures.tried

pub returns-in-Ok-clause-started : goal.returns-in-Ok-clause-started
returns-in-Ok-clause-started c =
    started_so c.args.system.now c.issued-subst.result c.ask_all.new.subst c.requires.fitting c.issued-subst.ensures.0 c.issued-subst.ensures.1
    c.as_slice.result.now c.as_slice.ensures c.in-Ok.ensures.tried
