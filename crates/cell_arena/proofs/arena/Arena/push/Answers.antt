use Rattle.std.proofs.Common.{◌≡◌, ◌++◌, ◌∷◌, ◌∙◌, [], ap, arith, refl}
use Rattle.cell_arena.proofs.Held.{WellBuilt-push}
use Rattle.cell_arena.proofs.PlaceLaws.{chains_more}
use Rattle.cell_arena.proofs.arena.Arena.push.Goals as goal

pub invariant_of-self-2 : goal.invariant_of-self-2
invariant_of-self-2 c =
    let more = rw (← c.self.view_is) at c.requires.more in
    let held = rw (← c.self.view_is) at c.requires.held in
    let new = rw (← c.self.view_is) at c.requires.new in
    let all = c.push_reserved.ensures.items ∙ ap (λ l. l ++ c.args.kind ∷ []) c.in_ok-reserve.ensures.items in (
      WellBuilt-push (record { texts = c.self.inside.texts; width = c.self.inside.width; kinds = c.self.inside.kinds.items; vars = c.self.inside.vars }) _ c.args.kind all refl refl more c.self.invariant.0 held new,
      chains_more c.self.inside.kinds.items _ c.args.kind c.self.inside.chains _ c.self.invariant.1 (omega arith) c.in_ok-push.ensures.added all,
    )

pub returns-clause-built : goal.returns-clause-built
returns-clause-built c = (invariant_of-self-2 c).0
