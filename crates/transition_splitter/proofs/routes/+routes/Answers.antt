use Rattle.std.proofs.Common.{◌∙◌, ◌++◌, List, Some, ap, ap₂, map, refl, sym}
use Rattle.std.specs.List.{slice_get}
use Rattle.std.proofs.lemmas.Option.{slice_get_read}
use Rattle.std.proofs.lemmas.Result.{IfOk-weaker}
use Rattle.kernel_trees.specs.declared.kernel.Ker.{Ker, out-Ker}
use Rattle.kernel_trees.specs.Paths.{ends_at, if_ways}
use Rattle.kernel_trees.specs.Ways.{after_each, one_after}
use Rattle.kernel_trees.specs.ActionNames.{marks}
use Rattle.transition_splitter.specs.declared.routes.LentStep.{LentStep}
use Rattle.transition_splitter.specs.declared.routes.Route.{Route}
use Rattle.transition_splitter.specs.inner.Routes.{step_lent, ways_by, with_ways}
use Rattle.transition_splitter.proofs.NodeSteps.{if_parts, with_body}
use Rattle.transition_splitter.proofs.NodeWays.{ways_and, ways_if, ways_or, ways_plain, ways_plain_if, ways_plain_or}
use Rattle.transition_splitter.proofs.NodeWays.{ways_some}
use Rattle.transition_splitter.proofs.WalkSteps.{all_have_ended, all_of_more, all_of_stops, any_of_more, made_of_one}
use Rattle.transition_splitter.proofs.WalkSteps.{made_of_two}
use Rattle.transition_splitter.proofs.routes.+routes.Goals as goal

pub routes-returns-in-And : goal.routes-returns-in-And
routes-returns-in-And t c =
    IfOk-weaker c.of_all.result _ _
    (λ rs h. h ∙ ways_and (marks c.args.marked) c.args.k.now c.as_slice-args.result.now c.as_slice-args.ensures
    c.in-And.is)
    c.of_all.ensures

pub routes-returns-then-any_mentions : goal.routes-returns-then-any_mentions
routes-returns-then-any_mentions t c =
    IfOk-weaker c.of_any.result _ _
    (λ rs h. h ∙ ways_or (marks c.args.marked) c.args.k.now c.as_slice-args.result.now c.as_slice-args.ensures
    c.in-Or.is
    (sym c.any_mentions.ensures ∙ c.if-any_mentions.true))
    c.of_any.ensures

pub routes-returns-else-any_mentions : goal.routes-returns-else-any_mentions
routes-returns-else-any_mentions t c =
    IfOk-weaker c.one_operand.result _ _
    (λ rs h. h ∙ ways_plain_or (marks c.args.marked) c.args.k.now c.as_slice-args.result.now c.as_slice-args.ensures
    c.in-Or.is
    (sym c.any_mentions.ensures ∙ c.if-any_mentions.false))
    c.one_operand.ensures

pub routes-returns-then-any_mentions-2 : goal.routes-returns-then-any_mentions-2
routes-returns-then-any_mentions-2 t c =
    IfOk-weaker c.of_branches.result _ _
    (λ rs h. h ∙ ways_if (marks c.args.marked) c.args.k.now c.as_slice-args.result.now c.as_slice-args.ensures
    c.in-If.is
    (sym c.any_mentions-in-If.ensures ∙ c.if-any_mentions-2.true))
    c.of_branches.ensures

pub routes-returns-else-any_mentions-2 : goal.routes-returns-else-any_mentions-2
routes-returns-else-any_mentions-2 t c =
    IfOk-weaker c.one_operand-else-any_mentions-2.result _ _
    (λ rs h. h ∙ ways_plain_if (marks c.args.marked) c.args.k.now c.as_slice-args.result.now c.as_slice-args.ensures
    c.in-If.is
    (sym c.any_mentions-in-If.ensures ∙ c.if-any_mentions-2.false))
    c.one_operand-else-any_mentions-2.ensures

pub routes-returns-in-Some : goal.routes-returns-in-Some
routes-returns-in-Some t c =
    IfOk-weaker c.of_choice.result _ _ (λ rs h. h ∙ ways_some (marks c.args.marked) c.args.k.now c.in-Some.is)
    c.of_choice.ensures

pub routes-returns-in_default : goal.routes-returns-in_default
routes-returns-in_default t c =
    IfOk-weaker c.one_operand-in_default.result _ _
    (λ rs h. h ∙ ways_plain (marks c.args.marked) c.args.k.now (record {
      no_and = c.in_default.not-And;
      no_or = c.in_default.not-Or;
      no_if = c.in_default.not-If;
      no_some = c.in_default.not-Some;
    }))
    c.one_operand-in_default.ensures

pub of_all-returns-then-all_ended : goal.of_all-returns-then-all_ended
of_all-returns-then-all_ended t c =
    all_of_stops (marks c.args.marked) c.args.ks.now c.loop-k.k-index (ways_by c.loop-k.made.items) c.loop-k.invariant
    (all_have_ended c.loop-k.made.items c.as_slice.result.now c.all_ended.result c.as_slice.ensures.value
    c.all_ended.ensures
    c.if-all_ended.true)

pub of_all-loop-k-preserved : goal.of_all-loop-k-preserved
of_all-loop-k-preserved t c =
    all_of_more (marks c.args.marked) c.args.ks.now c.loop-k.k-index c.k-item.result (ways_by c.loop-k.made.items)
    (ways_by c.in_ok-found.found.items) (ways_by c.in_ok-made-2.made.items) c.loop-k-test.true c.k-item.is
    c.loop-k.invariant
    c.in_ok-found.ensures
    (c.in_ok-made-2.ensures
    ∙ ap (λ (ys : List Route). after_each ends_at (ways_by c.loop-k.made.items) (ways_by ys))
    c.as_slice-seconds.ensures.value)

pub of_any-loop-k-preserved : goal.of_any-loop-k-preserved
of_any-loop-k-preserved t c =
    any_of_more (marks c.args.marked) c.args.ks.now c.loop-k.k-index c.k-item.result (ways_by c.loop-k.made.items)
    (ways_by c.in_ok-found.found.items) (ways_by c.push_behind.new.made.items) c.loop-k-test.true c.k-item.is
    c.loop-k.invariant
    c.in_ok-found.ensures
    (c.in_ok-push_behind.ensures
    ∙ ap₂ (λ (ss : List LentStep) (rs : List Route). ways_by c.loop-k.made.items
    ++ map (one_after (record { taken = Some (out-Ker c.k-item.result).place; steps = map step_lent ss })) (ways_by rs))
    c.new.ensures.items c.as_slice-seconds.ensures.value)

pub of_branches-returns : goal.of_branches-returns
of_branches-returns t c =
    let one = made_of_one _ _ (ways_by c.new-made.result.items) _ _ (ways_by c.push_behind.new.made.items)
    (ap ways_by c.new-made.ensures.items) c.in_ok-front.ensures
    (ap ways_by c.as_slice-seconds.ensures.value ∙ c.in_ok-found.ensures) c.in_ok-push_behind.ensures in
    made_of_two _ _ _ _ (ways_by c.push_behind.new.made.items) (ways_by c.push_behind-2.new.made.items) _ one
    c.in_ok-other_front.ensures
    (ap ways_by c.as_slice-other_seconds.ensures.value ∙ c.in_ok-others.ensures) c.in_ok-push_behind-2.ensures
    ∙ if_parts (marks c.args.marked) c.args.k.now (out-Ker c.args.k.now).place c.as_slice-args.result.now
    c.guard-item.result c.yes-item.result
    c.no-item.result c.in-len3.len_at_least c.in-len3.len_below c.guard-item.is c.yes-item.is c.no-item.is
    ∙ ap (λ (ks : List Ker). if_ways c.args.k.now (out-Ker c.args.k.now).place (with_ways (marks c.args.marked) ks))
    c.as_slice-args.ensures

pub of_choice-returns : goal.of_choice-returns
of_choice-returns t c =
    made_of_one _ _ (ways_by c.new-made.result.items) _ _ (ways_by c.push_behind.new.made.items)
    (ap ways_by c.new-made.ensures.items) c.in_ok-front.ensures
    (ap ways_by c.as_slice-seconds.ensures.value ∙ c.in_ok-found.ensures) c.in_ok-push_behind.ensures
    ∙ sym (with_body (marks c.args.marked) c.args.k.now c.in-Some.body.now (
    ap₂ slice_get (sym c.as_slice.ensures) (sym c.len.ensures)
    ∙ slice_get_read c.as_slice.result.now _ c.len.result c.in-Some.body.now refl c.in-Some.ensures.lookup.3.0
    c.in-Some.ensures.lookup.1
    ))
