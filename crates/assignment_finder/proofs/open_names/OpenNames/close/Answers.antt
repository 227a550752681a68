use Rattle.std.proofs.Common.{refl}
use Rattle.assignment_finder.proofs.Opening.{closes}
use Rattle.assignment_finder.proofs.open_names.OpenNames.close.Goals as goal

pub returns-in-Some : goal.returns-in-Some
returns-in-Some c = λ m before may h. closes c.args.self.now _ m before c.args.name refl refl may h
