use Rattle.std.proofs.Common.{◌∙◌, ap, refl, subst, List}
use Rattle.std.proofs.lemmas.Result.{err_from_is_err_and}
use Rattle.tla_meaning.specs.declared.expr.Def.{Def}
use Rattle.op_inliner.specs.Inlining.{no_names, with_names}
use Rattle.op_inliner.specs.NamesBack.{opened}
use Rattle.op_inliner.specs.inner.Frames.{Opens}
use Rattle.op_inliner.specs.inner.Naming.{Pairs, news, renaming}
use Rattle.op_inliner.proofs.ExpandSteps.{finish_fails, finish_is}
use Rattle.op_inliner.proofs.expanding.Module.finished.Goals as goal

pub returns : goal.returns
returns c =
    let opens = subst (λ (ds : List Def). Opens c.new-frames.result.items c.define_module.new.frames.items c.in_ok-scope.scope (with_names ds no_names)) c.as_slice.ensures c.in_ok-scope.ensures in
    finish_is c.args.self (record { alloc = c.args.self.alloc; kind = c.args.kind; constants = c.args.self.constants }) c.new-frames.result.items c.define_module.new.frames.items
    (record { e = c.args.e; scope = c.in_ok-scope.scope; level = 0; primes = 0 }) c.args.kind c.args.e.now c.requires.ready opens refl refl refl refl refl
    c.in_ok-tree.tree c.in_ok-whole.whole c.in_ok-tree.ensures.built
    (c.in_ok-whole.ensures.back ∙ ap (λ (ps : Pairs). (opened c.in_ok-tree.tree).back (renaming ps) (news ps)) c.new-pairs.ensures.items)

pub returns-in_err-tree : goal.returns-in_err-tree
returns-in_err-tree c =
    let opens = subst (λ (ds : List Def). Opens c.new-frames.result.items c.define_module.new.frames.items c.in_ok-scope.scope (with_names ds no_names)) c.as_slice.ensures c.in_ok-scope.ensures in
    let p = err_from_is_err_and c.from_residual-in_err-tree.result c.from_residual-in_err-tree.ensures.1 in
    rw (p.1, p.2) (finish_fails c.args.self (record { alloc = c.args.self.alloc; kind = c.args.kind; constants = c.args.self.constants }) c.new-frames.result.items c.define_module.new.frames.items
    (record { e = c.args.e; scope = c.in_ok-scope.scope; level = 0; primes = 0 }) c.args.kind c.args.e.now c.requires.ready opens refl refl refl refl refl
    400 c.in_err-tree.field-0.0 c.in_err-tree.ensures.built)
