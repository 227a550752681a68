use Rattle.std.proofs.Common.{◌-◌, ◌<◌, ◌∙◌, ap, arith, get_or, length, take}
use Rattle.flat_modules.specs.inner.Places.{place_of}
use Rattle.flat_modules.proofs.Places.{link_begins}
use Rattle.flat_modules.proofs.index.Index.before.Goals as goal

pub seek-requires-clause-begins : goal.seek-requires-clause-begins
seek-requires-clause-begins c =
    let chains = c.self.inside.chains in
    let lt : c.args.place - 1 < length c.self.inside.keys.items = omega (arith, c.requires.within, ap length c.self.view_is) in
    (link_begins c.self.inside.keys.items chains.heads.items chains.links.items c.self.invariant (c.args.place - 1) c.index-key.result.now c.index-link.result.now lt
    c.index-key.ensures c.index-link.ensures c.deref.ensures.value).0

pub returns : goal.returns
returns c =
    let chains = c.self.inside.chains in
    let j = c.args.place - 1 in
    let lt : j < length c.self.inside.keys.items = omega (arith, c.requires.within, ap length c.self.view_is) in
    c.seek.ensures
    ∙ (link_begins c.self.inside.keys.items chains.heads.items chains.links.items c.self.invariant j c.index-key.result.now c.index-link.result.now lt
    c.index-key.ensures c.index-link.ensures c.deref.ensures.value).1
    ∙ ap (λ l. place_of (get_or l j 0) (take j l)) c.self.view_is
