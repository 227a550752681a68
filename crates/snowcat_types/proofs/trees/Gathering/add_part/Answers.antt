use Rattle.std.proofs.Common.{◌∙◌, ap, subst, sym}
use Rattle.snowcat_types.specs.inner.Gathered.{TypesNamed}
use Rattle.snowcat_types.proofs.NamedSteps.{entries_more, parts_more}
use Rattle.snowcat_types.proofs.trees.Gathering.add_part.Goals as goal

pub returns-clause-named : goal.returns-clause-named
returns-clause-named c = λ h.
    let s =
    c.in_ok-root.ensures.named (record {
      around = h.around;
      types = subst TypesNamed (sym c.clear.ensures.items) tt;
      entries = h.entries;
      parts = h.parts;
    }) in
    record {
      around = s.0.around;
      types = subst TypesNamed (sym (ap (λ v. v.items) c.replace-types.ensures.after ∙ c.new.ensures.items)) tt;
      entries =
          entries_more c.visit.new.whole.entries.items c.push.new.self.items c.in_ok-asked.asked c.in_ok-push.ensures.items s.0.entries
          (c.in_ok-asked.ensures.named s.1);
      parts =
          parts_more c.visit.new.whole.parts.items c.push-2.new.self.items c.from_vec.result c.in_ok-push-2.ensures.items s.0.parts
          (subst TypesNamed (sym (c.from_vec.ensures ∙ ap (λ v. v.items) c.replace-types.ensures.value)) s.0.types);
    }
