use Rattle.snowcat_rows.specs.declared.types.Ty.TheVariants.{Var}
use Rattle.snowcat_rows.proofs.Naming.{differ-Var}
use Rattle.snowcat_types.proofs.NamedSteps.{types_more}
use Rattle.snowcat_types.proofs.PartSteps.{next_name_type}
use Rattle.snowcat_types.proofs.gathering.names_of.Goals as goal

pub loop-i-preserved : goal.loop-i-preserved
loop-i-preserved c = record {
  same =
      next_name_type c.loop-i.i c.in_ok-v.v c.loop-i.names.items c.push.new.self.items c.in_ok-push.ensures.items c.loop-i.invariant.same c.in_ok-v.ensures;
  named =
      types_more c.loop-i.names.items c.push.new.self.items (Var c.in_ok-v.v) c.in_ok-push.ensures.items c.loop-i.invariant.named (differ-Var c.in_ok-v.v);
}
