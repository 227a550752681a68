use Rattle.std.proofs.Common.{◌∙◌, ap}
use Rattle.tla_meaning.specs.declared.expr.Expr.{out-Expr}
use Rattle.snowcat_rows.specs.FieldNames.{names_differ}
use Rattle.snowcat_types.specs.declared.gathered.Entry.TheVariants.{Asks}
use Rattle.snowcat_types.proofs.NamedSteps.{entries_more, type_at_named}
use Rattle.snowcat_types.proofs.trees.Gathering.close.Goals as goal

pub returns-clause-named : goal.returns-clause-named
returns-clause-named c = λ h os ts. (
  record {
    around = h.around;
    types = h.types;
    entries =
        c.in_ok-push_waits.ensures.named
        (entries_more c.args.self.now.entries.items c.push.new.self.items (Asks (out-Expr c.args.e.now).place c.in_ok-asked.asked) c.in_ok-push.ensures.items
        h.entries (c.in_ok-asked.ensures.named os ts));
    parts = h.parts;
  },
  ap names_differ c.in_ok-of.ensures
      ∙ type_at_named c.args.self.now.types.items c.args.opened.at c.index.result.now c.requires c.index.ensures h.types,
)
