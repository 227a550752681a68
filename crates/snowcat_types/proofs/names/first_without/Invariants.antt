use Rattle.std.proofs.Common.{All, take}
use Rattle.snowcat_types.specs.Annotated.{IsAnnotated}
use Rattle.snowcat_types.proofs.names.first_without.Given as goal

abbrev pub invariant-loop-decl : goal.invariant-loop-decl
invariant-loop-decl l = All IsAnnotated (take l.decl-index l.decls)
