use Rattle.std.proofs.Common.{◌∙◌, ◌∷◌, [], ap, sym}
use Rattle.kernel_trees.specs.declared.kernel.KerOp.TheVariants as ker
use Rattle.kernel_reduction.specs.Rows.{node}
use Rattle.kera_reducer.specs.inner.Standing.{nested}
use Rattle.kera_reducer.proofs.CaseArms.{nested_more}
use Rattle.kera_reducer.proofs.cases.nested.Goals as goal

pub loop-guard-preserved : goal.loop-guard-preserved
loop-guard-preserved c =
    let p = c.args.made.now.place in
    let a = c.args.made.now.ty.now in
    let next = c.in_ok-rest.ensures
    ∙ ap (λ t. node p t ker.If (c.in-Some.guard ∷ c.in-Some.branch ∷ c.loop-guard.rest ∷ [])) c.in_ok-ty.ensures in
    ap (nested p a c.pop.new.self.items) next
    ∙ nested_more p a c.pop.new.self.items c.in-Some.guard c.in-Some.branch c.loop-guard.rest
    ∙ ap (λ xs. nested p a xs c.loop-guard.rest) (sym c.in-Some.ensures.items)
    ∙ c.loop-guard.invariant
