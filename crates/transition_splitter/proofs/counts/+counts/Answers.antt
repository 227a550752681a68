use Rattle.std.proofs.Common.{◌≡◌, ◌∙◌, List, ap, ap₂, arith, length, refl, rules, sym}
use Rattle.std.specs.List.{slice_get}
use Rattle.std.proofs.lemmas.Option.{slice_get_read}
use Rattle.kernel_trees.specs.declared.kernel.Ker.{Ker, out-Ker}
use Rattle.kernel_trees.specs.Paths.{if_ways}
use Rattle.kernel_trees.specs.ActionNames.{marks}
use Rattle.transition_splitter.specs.inner.Counts.{both, tally}
use Rattle.transition_splitter.specs.inner.Routes.{with_ways}
use Rattle.transition_splitter.proofs.NodeSteps.{not_three, tally_branches, tally_choice}
use Rattle.transition_splitter.proofs.NodeWays.{ways_and, ways_if, ways_or, ways_plain, ways_plain_if, ways_plain_or}
use Rattle.transition_splitter.proofs.NodeWays.{ways_some}
use Rattle.transition_splitter.proofs.WalkSteps.{all_tally_more, any_tally_more}
use Rattle.transition_splitter.proofs.counts.+counts.Goals as goal
use Rattle.transition_splitter.proofs.counts.+counts.Goals.{count_branches-in_default-via-then-as_slice-lt3}
use Rattle.transition_splitter.proofs.counts.+counts.Goals.{count_branches-in_default-via-else-as_slice-lt3+else-this-lt4}

pub count-returns-in-And : goal.count-returns-in-And
count-returns-in-And t c =
    c.count_all.ensures ∙ ap tally (ways_and (marks c.args.marked) c.args.k.now c.as_slice-args.result.now
    c.as_slice-args.ensures c.in-And.is)

pub count-returns-then-any_mentions : goal.count-returns-then-any_mentions
count-returns-then-any_mentions t c =
    c.count_any.ensures
    ∙ ap tally (ways_or (marks c.args.marked) c.args.k.now c.as_slice-args.result.now c.as_slice-args.ensures c.in-Or.is
    (sym c.any_mentions.ensures ∙ c.if-any_mentions.true))

pub count-returns-else-any_mentions : goal.count-returns-else-any_mentions
count-returns-else-any_mentions t c =
    c.one_operand.ensures
    ∙ ap tally (ways_plain_or (marks c.args.marked) c.args.k.now c.as_slice-args.result.now c.as_slice-args.ensures
    c.in-Or.is
    (sym c.any_mentions.ensures ∙ c.if-any_mentions.false))

pub count-returns-then-any_mentions-2 : goal.count-returns-then-any_mentions-2
count-returns-then-any_mentions-2 t c =
    c.count_branches.ensures
    ∙ ap tally (ways_if (marks c.args.marked) c.args.k.now c.as_slice-args.result.now c.as_slice-args.ensures c.in-If.is
    (sym c.any_mentions-in-If.ensures ∙ c.if-any_mentions-2.true))

pub count-returns-else-any_mentions-2 : goal.count-returns-else-any_mentions-2
count-returns-else-any_mentions-2 t c =
    c.one_operand-else-any_mentions-2.ensures
    ∙ ap tally (ways_plain_if (marks c.args.marked) c.args.k.now c.as_slice-args.result.now c.as_slice-args.ensures
    c.in-If.is
    (sym c.any_mentions-in-If.ensures ∙ c.if-any_mentions-2.false))

pub count-returns-in-Some : goal.count-returns-in-Some
count-returns-in-Some t c =
    c.count_choice.ensures ∙ ap tally (ways_some (marks c.args.marked) c.args.k.now c.in-Some.is)

pub count-returns-in_default : goal.count-returns-in_default
count-returns-in_default t c =
    c.one_operand-in_default.ensures
    ∙ ap tally (ways_plain (marks c.args.marked) c.args.k.now (record {
      no_and = c.in_default.not-And;
      no_or = c.in_default.not-Or;
      no_if = c.in_default.not-If;
      no_some = c.in_default.not-Some;
    }))

pub count_all-loop-k-preserved : goal.count_all-loop-k-preserved
count_all-loop-k-preserved t c =
    all_tally_more (marks c.args.marked) c.args.ks.now c.loop-k.k-index c.k-item.result c.loop-k.whole c.count.result
    c.and-whole.result
    c.loop-k-test.true c.k-item.is c.loop-k.invariant c.count.ensures c.and-whole.ensures

pub count_any-loop-k-preserved : goal.count_any-loop-k-preserved
count_any-loop-k-preserved t c =
    any_tally_more (marks c.args.marked) c.args.ks.now c.loop-k.k-index c.k-item.result c.loop-k.whole c.count.result
    c.or-whole.result
    c.loop-k-test.true c.k-item.is c.loop-k.invariant c.count.ensures c.or-whole.ensures

pub count_branches-returns-in_default : goal.count_branches-returns-in_default
count_branches-returns-in_default t c =
    let e : length c.as_slice.result.now ≡ length (out-Ker c.args.k.now).args = ap length c.as_slice.ensures in
    c.one_operand.ensures
    ∙ sym (ap tally (not_three (marks c.args.marked) c.args.k.now (out-Ker c.args.k.now).place
    (out-Ker c.args.k.now).args
    (elim c.in_default.branch [
      | count_branches-in_default-via-then-as_slice-lt3 w ↦ λ h. search (rules, e, h)
      | count_branches-in_default-via-else-as_slice-lt3+else-this-lt4 w ↦ λ h. grind (arith, e, h)
    ])))

pub count_branches-returns : goal.count_branches-returns
count_branches-returns t c =
    c.or.ensures
    ∙ ap₂ both c.count-first.ensures c.count-second.ensures
    ∙ tally_branches (marks c.args.marked) c.args.k.now (out-Ker c.args.k.now).place c.as_slice.result.now
    c.yes-item.result c.no-item.result
    c.in-len3.len_at_least c.in-len3.len_below c.yes-item.is c.no-item.is
    ∙ ap (λ (ks : List Ker). tally (if_ways c.args.k.now (out-Ker c.args.k.now).place
    (with_ways (marks c.args.marked) ks))) c.as_slice.ensures

pub count_choice-returns : goal.count_choice-returns
count_choice-returns t c =
    c.count.ensures ∙ tally_choice (marks c.args.marked) c.args.k.now c.in-Some.body.now (
    ap₂ slice_get (sym c.as_slice.ensures) (sym c.len.ensures)
    ∙ slice_get_read c.as_slice.result.now _ c.len.result c.in-Some.body.now refl c.in-Some.ensures.lookup.3.0
    c.in-Some.ensures.lookup.1
    )
