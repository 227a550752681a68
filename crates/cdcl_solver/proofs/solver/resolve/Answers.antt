use Rattle.std.proofs.Common.{sym, ◌∙◌, ap, length}
use Rattle.std.proofs.lemmas.Bool.{false≢true}
use Rattle.cdcl_solver.proofs.SolvingLemmas.{ends_spent, advanced_learned, unspent_more}
use Rattle.cdcl_solver.proofs.solver.resolve.Goals as goal

pub returns-then-is_spent : goal.returns-then-is_spent
returns-then-is_spent c = ends_spent c.args.budget c.args.solver.now c.requires.solving (rw c.len.ensures at (c.is_spent.ensures.0 c.if-is_spent.true))

pub returns : goal.returns
returns c =
    let s = c.args.solver.now in
    let learned = c.in_ok-learn.ensures in (
      advanced_learned s c.learn.new.solver c.settle.new.solver c.settle.result learned.keeps learned.longer c.settle.ensures,
      unspent_more c.args.budget s.steps c.settle.new.solver.steps c.requires.unspent (λ e. false≢true (sym c.if-is_spent.false ∙ c.is_spent.ensures.1 (rw c.len.ensures e)))
          (ap length c.settle.ensures.steps ∙ learned.longer),
    )
