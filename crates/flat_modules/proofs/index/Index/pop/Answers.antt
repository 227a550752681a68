use Rattle.std.proofs.Common.{◌≡◌, ◌-◌, ap, arith, length, suc}
use Rattle.flat_modules.proofs.Places.{key_less}
use Rattle.flat_modules.proofs.index.Index.pop.Goals as goal

pub invariant_of-self : goal.invariant_of-self
invariant_of-self c =
    let chains = c.self.inside.chains in
    let size : length c.self.inside.keys.items ≡ suc (c.len-last.result - 1) = omega (arith, c.self.inside.keys.ok.0, ap length c.self.view_is) in
    key_less c.self.inside.keys.items chains.heads.items chains.links.items c.self.invariant (c.len-last.result - 1) c.index-key.result.now size c.index-key.ensures c.truncate.ensures.items
    c.pop.ensures.heads c.pop.ensures.links
