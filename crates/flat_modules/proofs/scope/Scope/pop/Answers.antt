use Rattle.std.proofs.Common.{◌≡◌, ◌-◌, ap, arith, length, suc}
use Rattle.flat_modules.proofs.Scopes.{scope_less}
use Rattle.flat_modules.proofs.scope.Scope.pop.Goals as goal

pub invariant_of-self : goal.invariant_of-self
invariant_of-self c =
    let inside = c.self.inside in
    let n = c.len-last.result - 1 in
    let size : length inside.entries.items ≡ suc n = omega (arith, inside.entries.ok.0, ap length c.self.view_is) in
    let many : c.len.result - length c.declared_origin-origin.result.now ≡ length inside.origins.items - length c.declared_origin-origin.result.now = omega (arith, inside.origins.ok.0) in
    scope_less inside.index inside.origins.items inside.entries.items n _ c.index.result.now c.self.invariant size c.index.ensures
    c.declared_origin-origin.ensures many c.truncate-2.ensures.items c.pop.ensures c.truncate.ensures.items
