use Rattle.std.proofs.Common.{map}
use Rattle.kernel_reduction.proofs.Once.{of_node}
use Rattle.kera_reducer.proofs.texts.+literals.Goals as goal

pub push_literals-returns : goal.push_literals-returns
push_literals-returns t c =
    of_node c.args.e.now c.as_slice.result.now (map (λ t. t.now) c.args.out.now.items) (map (λ t. t.now) c.push_here.new.out.items)
    (map (λ t. t.now) c.push_all.new.out.items) c.as_slice.ensures c.in_ok-push_here.ensures c.in_ok-push_all.ensures
