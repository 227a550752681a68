use Rattle.std.proofs.Common.{◌∙◌, ap, sym}
use Rattle.std.specs.List.{list_any}
use Rattle.kernel_trees.specs.Paths.{mentions}
use Rattle.kernel_trees.specs.ActionNames.{marks}
use Rattle.transition_splitter.proofs.NodeSteps.{or_first, or_second, range_of_none, range_of_one, range_of_two}
use Rattle.transition_splitter.proofs.NodeWays.{mentions_by, mentions_read}
use Rattle.transition_splitter.proofs.mentioning.+mentioning.Goals as goal

pub mentions-returns-in-Name : goal.mentions-returns-in-Name
mentions-returns-in-Name t c = c.holds.ensures ∙ sym (mentions_by (marks c.args.marked) c.args.k.now _ c.in-Name.is)

pub mentions-returns-in-Const : goal.mentions-returns-in-Const
mentions-returns-in-Const t c = sym (mentions_by (marks c.args.marked) c.args.k.now _ c.in-Const.is)

pub mentions-returns-in-NoCase : goal.mentions-returns-in-NoCase
mentions-returns-in-NoCase t c = sym (mentions_by (marks c.args.marked) c.args.k.now _ c.in-NoCase.is)

pub mentions-returns-in-empty : goal.mentions-returns-in-empty
mentions-returns-in-empty t c =
    range_of_none (marks c.args.marked) c.args.k.now c.as_slice.result.now c.in-Range.is c.as_slice.ensures
    c.in-empty.len_below

pub mentions-returns-in-len1 : goal.mentions-returns-in-len1
mentions-returns-in-len1 t c =
    c.mentions.ensures
    ∙ range_of_one (marks c.args.marked) c.args.k.now c.as_slice.result.now c.low-item.result c.in-Range.is
    c.as_slice.ensures
    c.in-len1.len_at_least c.in-len1.len_below c.low-item.is

pub mentions-returns-then-mentions : goal.mentions-returns-then-mentions
mentions-returns-then-mentions t c =
    or_first _ (mentions (marks c.args.marked) c.high-item.result) c.mentions-in-len2-up.result
    c.mentions-in-len2-up.ensures c.if-mentions.true
    ∙ range_of_two (marks c.args.marked) c.args.k.now c.as_slice.result.now c.low-item-in-Range.result
    c.high-item.result c.in-Range.is
    c.as_slice.ensures c.in-len2-up.len_at_least c.low-item-in-Range.is c.high-item.is

pub mentions-returns-else-mentions : goal.mentions-returns-else-mentions
mentions-returns-else-mentions t c =
    or_second _ _ c.mentions-in-len2-up.result c.mentions-else-mentions.result c.mentions-in-len2-up.ensures
    c.if-mentions.false
    c.mentions-else-mentions.ensures
    ∙ range_of_two (marks c.args.marked) c.args.k.now c.as_slice.result.now c.low-item-in-Range.result
    c.high-item.result c.in-Range.is
    c.as_slice.ensures c.in-len2-up.len_at_least c.low-item-in-Range.is c.high-item.is

pub mentions-returns-in_default : goal.mentions-returns-in_default
mentions-returns-in_default t c =
    c.any_mentions.ensures
    ∙ ap (list_any (mentions (marks c.args.marked))) c.as_slice-in_default.ensures
    ∙ mentions_read (marks c.args.marked) c.args.k.now (record {
      no_name = c.in_default.not-Name;
      no_const = c.in_default.not-Const;
      no_case = c.in_default.not-NoCase;
      no_range = c.in_default.not-Range;
    })
