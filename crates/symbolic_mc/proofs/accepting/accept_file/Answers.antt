use Rattle.std.proofs.Common.{subst, sym}
use Rattle.front_end.specs.Requests.{IsRequest}
use Rattle.symbolic_mc.proofs.Commands.{may_be_asked}
use Rattle.symbolic_mc.proofs.accepting.accept_file.Goals as goal

pub accept-requires : goal.accept-requires
accept-requires g c = subst IsRequest (sym c.in-Ok.ensures) (may_be_asked c.args.request.now.file.now c.args.request.now.longest c.requires)
