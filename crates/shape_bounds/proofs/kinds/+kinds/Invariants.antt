use Rattle.std.proofs.Common.{map, take}
use Rattle.std.specs.Prelude.{is_some}
use Rattle.std.specs.Bool.{IsTrue}
use Rattle.kernel_trees.specs.TypeKinds.{all_fields_there, all_there, kind_of}
use Rattle.shape_bounds.proofs.kinds.+kinds.Given as goal

abbrev pub invariant-have_kinds-loop-i : goal.invariant-have_kinds-loop-i
invariant-have_kinds-loop-i l = IsTrue (is_some (all_there (map kind_of (take l.i l.ts))))

abbrev pub invariant-fields_have_kinds-loop-i : goal.invariant-fields_have_kinds-loop-i
invariant-fields_have_kinds-loop-i l = IsTrue (is_some (all_fields_there (map (λ f. (f.0, kind_of f.1)) (take l.i l.fs))))
