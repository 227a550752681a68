use Rattle.std.proofs.Common.{refl, arith, ◌≤◌}
use Rattle.cell_arena.proofs.Growing.{InRange-after, fits-after, Grows-push, Decodes-found, Decodes-push}
use Rattle.cell_arena.proofs.build.Build.make.Goals as goal

pub invariant_of-self-clause-fits : goal.invariant_of-self-clause-fits
invariant_of-self-clause-fits c =
    let e = c.vars-vars.ensures.same in
    let old = c.args.self.now.fits in
    let h : c.push.new.self.vars ≤ c.vars-vars.result =
    fits-after c.args.self.now.arena _ c.args.kind c.vars-vars.result c.push.result c.push.ensures.added c.push.ensures.kept (omega arith) in
    omega arith

pub invariant_of-self-clause-ranges : goal.invariant_of-self-clause-ranges
invariant_of-self-clause-ranges c =
    InRange-after c.args.self.now.arena _ c.args.kind c.vars-vars.result c.push.result c.args.self.now.formula c.push.ensures.added c.push.ensures.kept c.args.self.now.ranges c.requires.ranges

pub returns-in-Some-clause-value : goal.returns-in-Some-clause-value
returns-in-Some-clause-value c = Decodes-found c.args.self.now c.args.kind c.in-Some.id c.in-Some.ensures.found

pub returns-clause-value : goal.returns-clause-value
returns-clause-value c = Decodes-push c.args.self.now _ c.args.kind _ _ c.in_ok-id.ensures.added c.in_ok-id.ensures.id

pub returns-clause-grows : goal.returns-clause-grows
returns-clause-grows c = Grows-push c.args.self.now _ c.args.kind _ c.in_ok-id.ensures.added refl
