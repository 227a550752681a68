use Rattle.std.proofs.Common.{sym, subst, IsTrue}
use Rattle.tla_values.specs.Sets.{increasing}
use Rattle.tla_values.proofs.NormalLemmas.{set_order}
use Rattle.tla_values.proofs.sets.subset.Goals as goal

pub are_members-requires : goal.are_members-requires
are_members-requires c = subst (λ l. IsTrue (increasing l)) (sym c.as_slice-2.ensures) (set_order _ c.requires)
