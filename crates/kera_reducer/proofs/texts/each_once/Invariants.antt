use Rattle.std.proofs.Common.{◌≡◌, map, take}
use Rattle.kernel_reduction.specs.Literals.{each_once}
use Rattle.kera_reducer.proofs.texts.each_once.Given as goal

abbrev pub invariant-loop-text : goal.invariant-loop-text
invariant-loop-text l = record {
  keys : map (λ k. k.now) l.seen.keys ≡ l.once.items;
  once : l.once.items ≡ each_once (map (λ t. t.now) (take l.text-index l.texts));
}
