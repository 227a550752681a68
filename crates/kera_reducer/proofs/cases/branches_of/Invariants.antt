use Rattle.std.proofs.Common.{◌≡◌, ◌++◌, [], List, Option}
use Rattle.snowcat_rows.specs.declared.types.Ty.TheVariants as ty
use Rattle.kernel_trees.specs.declared.kernel.Ker.{Ker}
use Rattle.kernel_reduction.specs.Rows.{case_branches}
use Rattle.kera_reducer.proofs.cases.branches_of.Given as goal

abbrev pub invariant-loop-guard : goal.invariant-loop-guard
invariant-loop-guard l =
    (rest : List (Ker × Ker)) (o : Option Ker) →
    l.branches.items ++ case_branches l.made.place ty.Bool l.front.items rest o
    ≡ case_branches l.made.place ty.Bool [] (l.yielded ++ rest) o
