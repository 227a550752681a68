use Rattle.std.proofs.Common.{sym, subst, IsTrue}
use Rattle.tla_values.specs.Sets.{increasing}
use Rattle.tla_values.proofs.NormalLemmas.{set_order}
use Rattle.tla_values.proofs.sets.member.Goals as goal

pub is_member-requires : goal.is_member-requires
is_member-requires c = subst (λ l. IsTrue (increasing l)) (sym c.as_slice.ensures) (set_order _ c.requires)
