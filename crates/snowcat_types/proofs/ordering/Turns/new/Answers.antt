use Rattle.std.proofs.Common.{length, map, sym}
use Rattle.std.proofs.lemmas.List.{length-map}
use Rattle.snowcat_types.proofs.Turning.{turns_sorted}
use Rattle.snowcat_types.proofs.ordering.Turns.new.Goals as goal

pub returns-clause-ordered : goal.returns-clause-ordered
returns-clause-ordered c =
    turns_sorted (map (λ w. w.now) c.args.waits.now) (length c.args.waits.now) c.in_ok-all.all.items c.sort_unstable.new.self.items
    (sym (length-map c.args.waits.now (λ w. w.now))) c.in_ok-all.ensures c.sort_unstable.ensures.permutation c.sort_unstable.ensures.sorted
