use Rattle.std.proofs.Common.{refl, ap, length, arith}
use Rattle.cell_arena.proofs.Growing.{Grows-trans, Grows-formula}
use Rattle.cell_merge.specs.Sorts.{number}
use Rattle.cell_merge.proofs.SortLaws.{sort-sequence}
use Rattle.function_tests.proofs.Shaped.{numbers-there, length-within}
use Rattle.function_tests.proofs.equalities.counted.Goals as goal

pub seq-requires-clause-older : goal.seq-requires-clause-older
seq-requires-clause-older c = rw c.from_vec.ensures (numbers-there _ _ c.requires)

pub seq-requires-clause-within : goal.seq-requires-clause-within
seq-requires-clause-within c = λ a s. length-within _ _ _ (c.in_ok-word.ensures.value a s) (let p = ap length c.as_slice-count.ensures.value in let q = ap length c.from_vec.ensures in omega arith)

pub returns-clause-sort : goal.returns-clause-sort
returns-clause-sort c = sort-sequence _ _ _ _ number _ c.in_ok-id.ensures.cell c.in_ok-id.ensures.grows (rw c.from_vec.ensures c.requires)

pub returns-in_err-id-clause-grows : goal.returns-in_err-id-clause-grows
returns-in_err-id-clause-grows c = Grows-trans _ _ _ (Grows-formula _ _ c.in_ok-word.ensures.grows refl) c.in_err-id.ensures.grows
