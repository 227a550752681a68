use Rattle.std.proofs.Common.{◌≡◌, ◌∙◌, ap, map, refl, subst, sym}
use Rattle.std.specs.Prelude.{false, slice_index_or, slice_set, true}
use Rattle.snowcat_rows.specs.Views.{kept_by}
use Rattle.snowcat_types.specs.inner.Awaited.{At, Stands}
use Rattle.snowcat_types.proofs.Leaving.{at_read, marked_stands, marked_within}
use Rattle.snowcat_types.proofs.Nexts.{drops, none_known, stays, takes, watches}
use Rattle.snowcat_types.proofs.awaiting.Awaiting.next_decided.Goals as goal

pub agenda-preserved-then-not-is_marked : goal.agenda-preserved-then-not-is_marked
agenda-preserved-then-not-is_marked c = record {
  awaiting =
      drops (kept_by c.args.subst.now) (map (λ w. w.now) c.args.waits.now) c.agenda.self.marks.items c.agenda.self.watching c.agenda.self.turns
      c.agenda.invariant.awaiting c.in-Some.node c.next.new.self c.in-Some.ensures.taken
      (ap (λ z. slice_index_or z c.in-Some.node false) (sym c.as_slice.ensures.value) ∙ sym c.if-not-is_marked.ensures);
  marks = c.agenda.invariant.marks;
  same = c.agenda.invariant.same;
}

pub agenda-preserved : goal.agenda-preserved
agenda-preserved c =
    let marked : slice_index_or c.agenda.self.marks.items c.in-Some.node false ≡ true =
    ap (λ z. slice_index_or z c.in-Some.node false) (sym c.as_slice.ensures.value) ∙ sym c.if-not-is_marked.ensures in
    record {
      awaiting =
          watches (kept_by c.args.subst.now) (map (λ w. w.now) c.args.waits.now) c.agenda.self.marks.items c.agenda.self.watching c.agenda.self.turns
          c.agenda.invariant.awaiting c.in-Some.node c.in-Some-variable_of.variable c.index-waits-node.result.now c.next.new.self c.watch.new.self
          c.in-Some.ensures.taken
          (at_read (λ w. w.now) c.args.waits.now c.in-Some.node c.index-waits-node.result
          (marked_within (λ w. w.now) c.args.waits.now c.agenda.self.marks.items c.in-Some.node c.agenda.invariant.awaiting.size marked)
          c.index-waits-node.is)
          c.in-Some-variable_of.ensures c.in_ok-watch.ensures;
      marks = c.agenda.invariant.marks;
      same = c.agenda.invariant.same;
    }

pub returns-in_default-variable_of : goal.returns-in_default-variable_of
returns-in_default-variable_of c =
    let marked : slice_index_or c.agenda.self.marks.items c.in-Some.node false ≡ true =
    ap (λ z. slice_index_or z c.in-Some.node false) (sym c.as_slice.ensures.value) ∙ sym c.if-not-is_marked.ensures in
    let at : At (map (λ w. w.now) c.args.waits.now) c.in-Some.node c.index-waits-node.result.now =
    at_read (λ w. w.now) c.args.waits.now c.in-Some.node c.index-waits-node.result
    (marked_within (λ w. w.now) c.args.waits.now c.agenda.self.marks.items c.in-Some.node c.agenda.invariant.awaiting.size marked)
    c.index-waits-node.is in
    let P : _ → Type 0 = λ z. Stands z.items (map (λ w. w.now) c.args.waits.now) c.in-Some.node c.index-waits-node.result.now in
    record {
      wait = c.index-waits-node.result.now;
      off = record {
        stands =
            subst P c.agenda.invariant.marks
            (marked_stands c.agenda.self.marks.items (map (λ w. w.now) c.args.waits.now) c.in-Some.node c.index-waits-node.result.now marked at);
        marks = ap (λ z. slice_set z.items c.in-Some.node false) c.agenda.invariant.marks;
      };
      decided = c.in_default-variable_of.ensures;
      awaiting =
          takes (kept_by c.args.subst.now) (map (λ w. w.now) c.args.waits.now) c.agenda.self.marks.items c.agenda.self.watching c.agenda.self.turns
          c.agenda.invariant.awaiting c.in-Some.node c.next.new.self _ c.in-Some.ensures.taken refl;
      same = ap (λ z. z.items) c.agenda.invariant.same;
    }

pub returns : goal.returns
returns c =
    let kept = stays (kept_by c.args.subst.now) (map (λ w. w.now) c.args.waits.now) c.agenda.self.marks.items c.agenda.self.watching
    c.agenda.self.turns c.agenda.invariant.awaiting c.next.new.self c.in_default.ensures.taken in
    record {
      none =
          none_known c.args.subst.now (map (λ w. w.now) c.args.waits.now) c.agenda.self.marks.items c.next.new.self c.agenda.self.turns kept
          c.in_default.ensures.taken.1;
      awaiting = kept;
      marks = ap (λ z. z.items) c.agenda.invariant.marks;
      same = ap (λ z. z.items) c.agenda.invariant.same;
    }
