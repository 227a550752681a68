use Rattle.std.proofs.Common.{◌∙◌, sym, ap, subst}
use Rattle.watched_search.specs.inner.Keeping.{Watched, IsKept}
use Rattle.watched_search.proofs.KeepLemmas.{IsKept-add}
use Rattle.watched_search.proofs.searching.Search.learn.Goals as goal

pub invariant_of-self-2 : goal.invariant_of-self-2
invariant_of-self-2 c =
    let added = c.in_ok-add.ensures.added in (
      subst (λ (w : Watched). IsKept w c.self.inside.trail c.self.inside.progress) (sym added.same)
          (IsKept-add c.self.inside.watched c.self.inside.trail c.self.inside.progress c.args.clause.now added.first added.second c.add.new.self.chains c.count-c.ensures.paired c.self.invariant.0),
      ap (λ (w : Watched). w.vars) added.same ∙ c.self.invariant.1,
    )
