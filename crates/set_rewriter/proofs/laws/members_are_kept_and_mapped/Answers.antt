use Rattle.set_rewriter.proofs.Keeping.{kept-set}
use Rattle.set_rewriter.proofs.MapLaws.{mapped-set}
use Rattle.set_rewriter.proofs.laws.members_are_kept_and_mapped.Goals as goal

pub returns : goal.returns
returns c = record { kept = kept-set; mapped = mapped-set }
