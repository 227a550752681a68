use Rattle.std.proofs.Common.{◌≡◌}
use Rattle.tool_outside.specs.Outside.{Changes}
use Rattle.symbolic_mc.proofs.Saved.{HoldsNow, front_text}
use Rattle.symbolic_mc.proofs.saving.save.Given as goal

abbrev pub invariant-loop-section : goal.invariant-loop-section
invariant-loop-section g l = record {
  saved : Changes (g.F.Files.held l.fn.files) (g.F.Files.held l.files) l.name (HoldsNow (front_text l.sections l.section-index));
  faults : g.F.Files.faults l.files ≡ g.F.Files.faults l.fn.files;
}
