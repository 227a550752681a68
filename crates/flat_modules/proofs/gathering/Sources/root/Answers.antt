use Rattle.std.proofs.Common.{◌≡◌, ◌+◌, arith, length, subst, suc}
use Rattle.tla_meaning.specs.Flattening.{known_within, root_copy}
use Rattle.flat_modules.specs.inner.Learning.{IsKnown}
use Rattle.flat_modules.proofs.Depths.{fits_here}
use Rattle.flat_modules.proofs.gathering.Sources.root.Goals as goal

pub returns-clause-known : goal.returns-clause-known
returns-clause-known c =
    let ms = c.args.self.modules.now in
    let reached = c.in_ok-reached.reached in
    let up : length ms + 1 ≡ suc (length ms) = omega arith in
    subst (λ n. IsKnown c.args.told reached.knowing (known_within n ms (root_copy c.args.name.now c.args.decls.now))) up
    (c.in_ok-reached.ensures.known (length ms + 1) (fits_here reached.spare (length ms + 1)))
