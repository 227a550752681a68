use Rattle.std.proofs.Common.{◌≡◌, ◌++◌, take}
use Rattle.op_inliner.specs.inner.Expanding.{kind_of}
use Rattle.op_inliner.proofs.expanding.push_decls.Given as goal

abbrev pub invariant-loop-decl : goal.invariant-loop-decl
invariant-loop-decl l = l.all.items ≡ l.fn.all.items ++ kind_of l.constant (take l.decl-index l.decls)
