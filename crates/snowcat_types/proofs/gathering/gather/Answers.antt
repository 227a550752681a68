use Rattle.std.proofs.Common.{◌≡◌, ◌∙◌, ap, length, subst, sym}
use Rattle.snowcat_types.specs.Systems.{names_from}
use Rattle.snowcat_types.specs.inner.Built.{means}
use Rattle.snowcat_types.specs.inner.Gathered.{AllNamedIn, DeclaredNamed, EntriesNamed, PartsNamed, TypesNamed, system_of_built}
use Rattle.snowcat_types.specs.inner.Visiting.{AreDeclared}
use Rattle.snowcat_types.proofs.PartSteps.{system_is}
use Rattle.snowcat_types.proofs.gathering.gather.Goals as goal

pub returns-clause-system : goal.returns-clause-system
returns-clause-system c =
    let declared : AreDeclared c.args.told.declared c.in_ok-named.named = subst (λ z. AreDeclared z c.in_ok-named.named) c.as_slice.ensures c.in_ok-named.ensures.asked in
    let names : means c.in_ok-names.names.items ≡ names_from 0 (length c.args.told.declared) =
    c.in_ok-names.ensures.mean ∙ ap (λ z. names_from 0 (length z)) c.as_slice-count.ensures in
    (λ i. system_of_built (record {
      count = c.add_job.new.self.next;
      declared = c.from_vec.ensures i;
      entries = c.from_vec-2.ensures i;
      names = c.from_vec-3.ensures i;
      parts = c.from_vec-4.ensures i;
    }))
    ∙ system_is c.args.told c.args.job.now c.in_ok-named.named c.nothing-whole.result c.add_job.new.self c.in_ok-names.names.items declared
    c.nothing-whole.ensures.start c.in_ok-add_job.ensures.added names

pub returns-clause-named : goal.returns-clause-named
returns-clause-named c =
    let whole = c.in_ok-add_job.ensures.named (c.nothing-whole.ensures.named c.requires.named.notes) in
    record {
      declared =
          subst AllNamedIn (sym c.from_vec.ensures)
          (c.in_ok-named.ensures.named (subst DeclaredNamed (sym c.as_slice.ensures) c.requires.named.declared));
      entries = subst EntriesNamed (sym c.from_vec-2.ensures) whole.entries;
      names = subst TypesNamed (sym c.from_vec-3.ensures) c.in_ok-names.ensures.named;
      parts = subst PartsNamed (sym c.from_vec-4.ensures) whole.parts;
    }
