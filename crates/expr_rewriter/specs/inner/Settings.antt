-- In which setting each child of a node is evaluated.
use Rattle.std.specs.Prelude.{ℕ, List, ◌++◌, take, zip}
use Rattle.cell_arena.specs.declared.kinds.CellId.{CellId}
use Rattle.kernel_trees.specs.declared.kernel.KerOp.{KerOp}
use Rattle.kernel_trees.specs.declared.kernel.KerOp.TheVariants as ker
use Rattle.expr_rewriter.specs.declared.cell_env.CellEnv.{CellEnv}
use Rattle.expr_rewriter.specs.declared.settings.Setting.{Setting}
use Rattle.expr_rewriter.specs.declared.settings.Setting.TheVariants.{Leaf, Level, Binder, Update, Fold, Form}

-- ---- bound numbers

-- a cell for each number, behind those that are bound
abbrev pub with_bound : CellEnv → List ℕ → List CellId → CellEnv
with_bound env xs ids = record { now = env.now; next = env.next; bound = env.bound ++ zip xs ids }

abbrev pub cut_bound : CellEnv → ℕ → CellEnv
cut_bound env n = record { now = env.now; next = env.next; bound = take n env.bound }

-- ---- operators

abbrev pub setting_of : KerOp → Setting
setting_of (ker.Const v) = Leaf
setting_of (ker.Name i primed) = Leaf
setting_of (ker.Bound n) = Leaf
setting_of ker.NoCase = Leaf
setting_of ker.Some = Binder
setting_of ker.Every = Binder
setting_of ker.Filter = Binder
setting_of ker.MapOver = Binder
setting_of ker.FunOf = Binder
setting_of ker.Update = Update
setting_of ker.FoldLeft = Fold
setting_of ker.Member = Form
setting_of ker.Included = Form
setting_of ker.IntForm = Form
setting_of ker.NatForm = Form
setting_of ker.TextForm = Form
setting_of ker.SeqForm = Form
setting_of o = Level
