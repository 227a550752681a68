-- When an action is taken apart into its paths, and when it has too many. Source: Konnov, Kukovec and Tran, "TLA+ Model
-- Checking Made Symbolic", OOPSLA 2019, on symbolic transitions.
use Rattle.std.specs.Prelude.{ℕ, ◌≡◌, ◌<◌, ◌≤◌, ◌^◌, min, List, length, Result}
use Rattle.std.specs.Prelude.{Ok, Err, ⊤}
use Rattle.tla_meaning.specs.declared.expr.Decl.{Decl}
use Rattle.kernel_trees.specs.declared.kernel.Ker.{Ker}
use Rattle.kernel_trees.specs.declared.path.KerPath.{KerPath}
use Rattle.kernel_trees.specs.ActionNames.{marks_of}
use Rattle.kernel_trees.specs.Paths.{paths}
use Rattle.kernel_trees.specs.declared.action_kind.ActionKind.{ActionKind}
use Rattle.transition_splitter.specs.declared.split_fault.SplitFault.{SplitFault}
use Rattle.transition_splitter.specs.declared.split_fault.SplitFault.TheVariants.{TooManyPaths, Memory}

-- ---- the answer

abbrev pub most_paths : ℕ
most_paths = 4096

-- it stands for every greater number
abbrev pub greatest_number : ℕ
greatest_number = 10 ^ 12

-- the paths of an action from left to right, at most so many; else how many there are
abbrev pub IsSplit : ActionKind → List Decl → Ker → Result (List KerPath) SplitFault → Type 0
IsSplit kind names part (Ok ps) = (ps ≡ paths (marks_of kind names) part) × (length ps ≤ most_paths)
IsSplit kind names part (Err (TooManyPaths n)) =
    let number = length (paths (marks_of kind names) part) in
    (n ≡ min number greatest_number) × (most_paths < number)
IsSplit kind names part (Err (Memory e)) = ⊤
