use Rattle.std.proofs.Common.{refl, subst}
use Rattle.tla_meaning.specs.Symbols.{all_repeated}
use Rattle.flat_modules.specs.inner.Telling.{Told}
use Rattle.flat_modules.proofs.LearningLemmas.{instance_learns, on_ok}
use Rattle.flat_modules.proofs.knowing.Knowing.instance.Goals as goal

pub returns : goal.returns
returns c =
    let names = subst (λ l. Told c.args.self.now.resolving c.tell_names.new.self (all_repeated c.args.self.now.resolving.scope l)) c.deref.ensures.value c.in_ok-tell_names.ensures in
    on_ok c.add_definitions.result
    (instance_learns c.args.unit.now c.args.prefix.now c.args.inside c.in_ok-names.names.items c.entries-entries.result.now c.in_ok-replacing.replacing.items
    c.entries-entries.ensures c.in_ok-names.ensures names c.in_ok-replacing.ensures.0 c.in_ok-replacing.ensures.1 c.in_ok-tell_symbols.ensures
    c.in_ok-add_all.ensures refl c.in_ok-add_all-2.ensures)
    c.add_definitions.ensures
