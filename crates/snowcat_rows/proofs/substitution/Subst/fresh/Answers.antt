use Rattle.snowcat_rows.specs.Codes.{bindings_of}
use Rattle.snowcat_rows.proofs.Means.{mean-Var}
use Rattle.snowcat_rows.proofs.General.{AllWithin-more}
use Rattle.snowcat_rows.proofs.substitution.Subst.fresh.Goals as goal

pub invariant_of-self : goal.invariant_of-self
invariant_of-self c =
    let s = c.args.self.now in
    record { sound = (s.sound.0, (AllWithin-more s.store.issued (bindings_of s.store.bindings.items) s.sound.1.0, s.sound.1.1)) }

pub returns-clause-var : goal.returns-clause-var
returns-clause-var c = mean-Var c.args.self.now.store.issued
