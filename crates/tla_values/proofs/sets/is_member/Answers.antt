use Rattle.std.proofs.Common.{sym}
use Rattle.tla_values.proofs.SetLaws.{member_found, member_split}
use Rattle.tla_values.proofs.sets.is_member.Goals as goal

pub returns-in-Ok : goal.returns-in-Ok
returns-in-Ok c = sym (member_found _ _ _ c.in-Ok.ensures.bound c.in-Ok.ensures.place)

pub returns-in-Err : goal.returns-in-Err
returns-in-Err c = sym (member_split _ _ _ c.in-Err.ensures.place)
