use Rattle.std.proofs.Common.{refl}
use Rattle.tla_parser.proofs.Kept.{start_empty}
use Rattle.tla_parser.proofs.places.Places.new.Goals as goal

pub returns : goal.returns
returns c = start_empty _ refl refl refl refl
