-- Which operators of the kernel bind numbers, and which child stands under them.
use Rattle.std.specs.Prelude.{ℕ, Bool, true, false, nat_eq}
use Rattle.kernel_trees.specs.declared.kernel.KerOp.{KerOp}
use Rattle.kernel_trees.specs.declared.kernel.KerOp.TheVariants as ker

abbrev pub is_binding : KerOp → Bool
is_binding ker.Filter = true
is_binding ker.MapOver = true
is_binding ker.FunOf = true
is_binding ker.Some = true
is_binding ker.Every = true
is_binding ker.Update = true
is_binding ker.FoldLeft = true
is_binding o = false

-- the i-th child of a node that binds n numbers
abbrev pub mark_at : KerOp → ℕ → ℕ → Bool
mark_at ker.Filter n i = nat_eq i n
mark_at ker.MapOver n i = nat_eq i n
mark_at ker.FunOf n i = nat_eq i n
mark_at ker.Some n i = nat_eq i n
mark_at ker.Every n i = nat_eq i n
mark_at ker.Update n i = nat_eq i 2
mark_at ker.FoldLeft n i = nat_eq i 0
mark_at o n i = false
