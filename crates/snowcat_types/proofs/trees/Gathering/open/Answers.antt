use Rattle.snowcat_types.proofs.NamedSteps.{types_more}
use Rattle.snowcat_types.proofs.trees.Gathering.open.Goals as goal

pub returns-clause-named : goal.returns-clause-named
returns-clause-named c = λ h.
    let row = c.in_ok-row.ensures.named h.around in (
      record {
        around = h.around;
        types =
            types_more c.args.self.now.types.items c.push.new.self.items c.in_ok-row.row.result c.in_ok-push.ensures.items h.types row.result;
        entries = h.entries;
        parts = h.parts;
      },
      row.operands,
    )
