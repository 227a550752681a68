use Rattle.std.proofs.Common.{arith, ◌≡◌, ◌-◌, ◌∙◌, ap, sym}
use Rattle.tla_meaning.specs.Scopes.{find_last}
use Rattle.flat_modules.specs.inner.Orders.{AddsBehind, names_behind, with_names}
use Rattle.flat_modules.proofs.Behind.{behind_next, behind_some}
use Rattle.flat_modules.proofs.LearningLemmas.{on_ok}
use Rattle.flat_modules.proofs.Visited.{both_ok, none_new, walked_more}
use Rattle.flat_modules.proofs.gathering.Sources.+add_behind.Goals as goal

pub loop-other-preserved : goal.loop-other-preserved
loop-other-preserved t c = (
  behind_next (c.args.depth - 1) c.args.self.modules.now c.args.behind.now.names.items c.deref-other-items.result.now c.loop-other.other-index c.other-item.result
      c.loop-other-test.true c.other-item.is c.loop-other.invariant.0 c.in_ok-add_behind.ensures.added,
  c.in_ok-add_behind.ensures.kept,
)

pub returns-then-is_walked-clause-added : goal.returns-then-is_walked-clause-added
returns-then-is_walked-clause-added t c =
    sym (none_new c.args.behind.now.names.items (names_behind c.args.depth c.args.self.modules.now c.args.name.now)
    (c.is_walked.ensures c.args.self.modules.now c.requires c.if-is_walked.true))

pub returns-clause-added : goal.returns-clause-added
returns-clause-added t c =
    behind_some c.args.depth (c.args.depth - 1) c.args.self.modules.now c.args.behind.now.names.items c.args.name.now c.in-Some.source.now
    c.add.result c.loop-other.behind.names.items c.add.new.self.names.items (omega arith) (c.in-Some.ensures ∙ ap (λ x. find_last x c.args.self.modules.now) c.bytes.ensures)
    c.loop-other.other-index c.deref-other-items.result.now c.loop-other-test.false (c.deref-other-items.ensures.value ∙ c.in_ok-names.ensures)
    c.loop-other.invariant.0 (on_ok c.add.result (λ (a : AddsBehind c.loop-other.behind c.add.new.self c.args.name.now c.args.depth). a.names) c.add.ensures)

pub returns-clause-kept : goal.returns-clause-kept
returns-clause-kept t c =
    let ms = c.args.self.modules.now in
    let start = c.args.behind.now.names.items in
    let whole = behind_some c.args.depth (c.args.depth - 1) ms start c.args.name.now c.in-Some.source.now
    c.add.result c.loop-other.behind.names.items c.add.new.self.names.items (omega arith) (c.in-Some.ensures ∙ ap (λ x. find_last x ms) c.bytes.ensures)
    c.loop-other.other-index c.deref-other-items.result.now c.loop-other-test.false (c.deref-other-items.ensures.value ∙ c.in_ok-names.ensures)
    c.loop-other.invariant.0 (on_ok c.add.result (λ (a : AddsBehind c.loop-other.behind c.add.new.self c.args.name.now c.args.depth). a.names) c.add.ensures) in
    both_ok c.add.result (λ (a : AddsBehind c.loop-other.behind c.add.new.self c.args.name.now c.args.depth)
    (w : c.add.new.self.names.items ≡ with_names start (names_behind c.args.depth ms c.args.name.now)).
    walked_more ms start c.loop-other.behind c.add.new.self c.args.name.now c.args.depth c.loop-other.invariant.1 a w) c.add.ensures whole
