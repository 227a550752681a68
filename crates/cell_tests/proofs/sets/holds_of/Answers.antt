use Rattle.cell_tests.proofs.MemberSorts.{as-type}
use Rattle.cell_tests.proofs.sets.holds_of.Goals as goal

pub same-requires : goal.same-requires
same-requires c = as-type _ _ _ c.requires.types
