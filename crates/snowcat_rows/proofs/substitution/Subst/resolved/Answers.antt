use Rattle.std.proofs.Common.{ap, ◌∙◌}
use Rattle.snowcat_rows.specs.Types.{mean}
use Rattle.snowcat_rows.specs.Chains.{solved}
use Rattle.snowcat_rows.specs.Codes.{bindings_of}
use Rattle.snowcat_rows.proofs.RowTheory.{solved_is}
use Rattle.snowcat_rows.proofs.Solving.{within_settled}
use Rattle.snowcat_rows.proofs.substitution.Subst.resolved.Goals as goal

pub returns-clause-mean : goal.returns-clause-mean
returns-clause-mean c = c.in_ok-settled.ensures.mean ∙ ap (λ l. solved (bindings_of l) (mean c.args.t.now)) c.as_slice.ensures.value ∙ solved_is (bindings_of c.args.self.now.store.bindings.items) (mean c.args.t.now)

pub returns-clause-within : goal.returns-clause-within
returns-clause-within c = λ n le w.
    let s = c.args.self.now in
    within_settled s.store.issued n (bindings_of s.store.bindings.items) (mean c.args.t.now) (mean c.in_ok-settled.settled) s.sound.1.0 le w
    (c.in_ok-settled.ensures.mean ∙ ap (λ l. solved (bindings_of l) (mean c.args.t.now)) c.as_slice.ensures.value)
