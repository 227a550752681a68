use Rattle.std.proofs.Common.{◌∙◌, ◌++◌, ◌∷◌, [], ap, take}
use Rattle.flat_modules.specs.inner.Places.{keys_of}
use Rattle.flat_modules.proofs.LearningLemmas.{names_next}
use Rattle.flat_modules.proofs.Scopes.{keys_next}
use Rattle.flat_modules.proofs.resolving.Resolving.tell_names.Goals as goal

pub loop-i-preserved : goal.loop-i-preserved
loop-i-preserved c =
    let i = c.loop-i.i in
    let fs = c.args.entries.now in
    let f = c.index-entries-i.result in (
      names_next fs i f c.loop-i-test.true c.index-entries-i.is c.loop-i.invariant.0 c.in_ok-tell_beside.ensures,
      c.in_ok-push.ensures.added ∙ ap (λ l. l ++ c.key.result ∷ []) c.loop-i.invariant.1 ∙ ap (λ k. keys_of (take i fs) ++ k ∷ []) c.key.ensures
          ∙ keys_next fs i f c.loop-i-test.true c.index-entries-i.is,
    )
