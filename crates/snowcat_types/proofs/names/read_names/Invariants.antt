use Rattle.std.proofs.Common.{[], take}
use Rattle.snowcat_rows.specs.Readings.{Knows}
use Rattle.snowcat_rows.specs.Views.{known_by}
use Rattle.snowcat_types.specs.Annotated.{Aliases}
use Rattle.snowcat_types.specs.inner.Telling.{AreNamesRead}
use Rattle.snowcat_types.proofs.names.read_names.Given as goal

abbrev pub invariant-loop-decl : goal.invariant-loop-decl
invariant-loop-decl l =
    (al : Aliases) → Knows [] al (known_by l.aliases) → AreNamesRead al (take l.decl-index l.decls) l.names.types.items l.names.worst
