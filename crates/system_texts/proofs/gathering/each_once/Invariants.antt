use Rattle.std.proofs.Common.{◌≡◌, IsTrue, map, take}
use Rattle.cell_arena.specs.Cells.{AllDiffer}
use Rattle.system_texts.specs.inner.Gathered.{are_among}
use Rattle.system_texts.proofs.gathering.each_once.Given as goal

abbrev pub invariant-loop-text : goal.invariant-loop-text
invariant-loop-text l = record {
  keys : map (λ k. k.now) l.seen.keys ≡ l.once.items;
  differ : AllDiffer l.once.items;
  among : IsTrue (are_among l.once.items (map (λ t. t.now) (take l.text-index l.texts)));
}
