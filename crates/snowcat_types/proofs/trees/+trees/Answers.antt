use Rattle.std.proofs.Common.{List, ◌∙◌, ◌<◌, ◌+◌, ap, arith, drop, length, map, subst, sym}
use Rattle.snowcat_types.specs.Rows.{Operand, Context}
use Rattle.snowcat_types.specs.Systems.{Children, children, under_first, visit}
use Rattle.snowcat_types.specs.inner.Built.{context_of, operand_of}
use Rattle.snowcat_types.specs.inner.Named.{OperandsNamed, ScopeNamed}
use Rattle.snowcat_types.proofs.NamedSteps.{scope_taken, types_more}
use Rattle.snowcat_types.proofs.TreeSteps.{left_of, node_visited, place_within, walk_ends, walk_goes_on}
use Rattle.snowcat_types.proofs.trees.+trees.Goals as goal

pub visit-loop-i-preserved : goal.visit-loop-i-preserved
visit-loop-i-preserved t c =
    let os : List Operand = map operand_of c.in_ok-opened.opened.operands in
    record {
      walked =
          walk_goes_on c.open.new.self c.loop-i.whole c.visit_under.new.whole c.loop-i.children c.push.new.self
          (left_of c.as_slice-trees.result.now os (context_of c.open.new.self.around) 0 c.open.new.self.next)
          c.in_ok-seen.seen c.as_slice-trees.result.now os c.loop-i.i c.index-trees-i.result c.under-names.result.now
          c.loop-i-test.true c.index-trees-i.is
          (c.under-names.ensures.scope ∙ ap (λ z. under_first (drop c.loop-i.i (map operand_of z))) c.as_slice.ensures)
          c.loop-i.invariant.walked c.in_ok-seen.ensures.visited c.in_ok-push.ensures.0 c.in_ok-push.ensures.1;
      named = λ h o.
          let k = c.loop-i.invariant.named h o in
          let s = c.in_ok-seen.ensures.named k.0 (c.under-names.ensures.named (subst OperandsNamed (sym c.as_slice.ensures) o)) in
          (s.0, types_more c.loop-i.children.types.items c.push.new.self.types.items c.in_ok-seen.seen.of c.in_ok-push.ensures.0 k.1 s.1);
    }

pub visit-close-requires : goal.visit-close-requires
visit-close-requires t c =
    let os : List Operand = map operand_of c.in_ok-opened.opened.operands in
    let whole : Children = left_of c.as_slice-trees.result.now os (context_of c.open.new.self.around) 0 c.open.new.self.next in
    let le : length c.as_slice-trees.result.now < c.loop-i.i + 1 = let h = c.loop-i-test.false in omega (arith, h) in
    place_within c.args.whole.now c.open.new.self c.loop-i.whole c.args.e.now c.in_ok-opened.opened c.loop-i.children whole c.in_ok-opened.ensures.opened
    (walk_ends c.open.new.self c.loop-i.whole c.loop-i.children whole c.as_slice-trees.result.now os c.loop-i.i le c.loop-i.invariant.walked)

pub visit-returns-clause-visited : goal.visit-returns-clause-visited
visit-returns-clause-visited t c =
    let os : List Operand = map operand_of c.in_ok-opened.opened.operands in
    let around : Context = context_of c.open.new.self.around in
    let whole : Children = left_of c.as_slice-trees.result.now os around 0 c.open.new.self.next in
    let le : length c.as_slice-trees.result.now < c.loop-i.i + 1 = let h = c.loop-i-test.false in omega (arith, h) in
    node_visited c.args.whole.now c.open.new.self c.loop-i.whole c.args.e.now c.in_ok-opened.opened c.loop-i.children whole c.close.new.self c.in_ok-node.node
    c.in_ok-opened.ensures.opened (ap (λ z. children (map visit z) os c.open.new.self.next around) c.as_slice-trees.ensures)
    (walk_ends c.open.new.self c.loop-i.whole c.loop-i.children whole c.as_slice-trees.result.now os c.loop-i.i le c.loop-i.invariant.walked)
    c.in_ok-node.ensures.closed

pub visit-returns-clause-named : goal.visit-returns-clause-named
visit-returns-clause-named t c = λ h.
    let o = c.in_ok-opened.ensures.named h in
    let k = c.loop-i.invariant.named o.0 o.1 in
    c.in_ok-node.ensures.named k.0 o.1 k.1

pub visit_under-returns-clause-named : goal.visit_under-returns-clause-named
visit_under-returns-clause-named t c = λ h n.
    let s =
    c.in_ok-seen.ensures.named (record {
      around = record { notes = h.around.notes; bound = c.in_ok-bind.ensures.named h.around.bound n };
      types = h.types;
      entries = h.entries;
      parts = h.parts;
    }) in (
      record {
        around = record {
          notes = s.0.around.notes;
          bound =
              subst ScopeNamed (sym c.truncate.ensures.items) (scope_taken c.len-outside.result c.visit.new.whole.around.bound.items s.0.around.bound);
        };
        types = s.0.types;
        entries = s.0.entries;
        parts = s.0.parts;
      },
      s.1,
    )
