use Rattle.tla_meaning.proofs.Laws.{substituted}
use Rattle.tla_meaning.proofs.theorems.trees_may_be_put_in.Goals as goal

pub returns : goal.returns
returns c = λ w S σ e sc k h. substituted w S σ k e h sc
