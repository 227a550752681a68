use Rattle.std.proofs.Common.{◌∙◌, ◌++◌, ◌∷◌, [], ap, subst}
use Rattle.flat_modules.specs.inner.Places.{AreChains}
use Rattle.flat_modules.proofs.Places.{key_more}
use Rattle.flat_modules.proofs.index.Index.push.Goals as goal

pub invariant_of-self-2 : goal.invariant_of-self-2
invariant_of-self-2 c =
    let room = c.make_room.new.self in
    let kept = subst (λ l. AreChains l room) c.deref.ensures.value c.make_room.ensures.kept in
    (key_more c.self.inside.keys.items room.heads.items room.links.items kept c.args.key c.in_ok-make_room.ensures.room
    (c.push_reserved.ensures.items ∙ ap (λ l. l ++ c.args.key ∷ []) c.in_ok-reserve.ensures.items) c.in_ok-push.ensures.added.heads c.in_ok-push.ensures.added.links).0
