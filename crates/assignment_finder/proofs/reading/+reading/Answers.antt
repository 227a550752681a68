use Rattle.std.proofs.Common.{List, take, refl, sym, subst, arith}
use Rattle.kernel_trees.specs.declared.kernel.Ker.{Ker}
use Rattle.kernel_trees.specs.Assignments.{reads_at}
use Rattle.assignment_finder.specs.inner.Open.{open_by}
use Rattle.assignment_finder.specs.inner.Reads.{IsFirst, reads_any}
use Rattle.assignment_finder.proofs.FirstReads.{range_of_none, range_of_one, range_of_two, reads_const, reads_end, reads_name, reads_no_case, reads_read}
use Rattle.assignment_finder.proofs.Listing.{take_all, take_more}
use Rattle.assignment_finder.proofs.reading.+reading.Goals as goal

pub first_of-loop-k-preserved : goal.first_of-loop-k-preserved
first_of-loop-k-preserved t c =
    let m = open_by c.args.free.now in
    subst (λ (ks : List Ker). IsFirst (reads_any m ks) c.earlier-first.result)
    (sym (take_more c.args.ks.now c.loop-k.k-index c.k-item.result c.loop-k-test.true c.k-item.is))
    (reads_end m (take c.loop-k.k-index c.args.ks.now) c.k-item.result c.earlier-first.result
    (c.earlier-first.ensures (reads_any m (take c.loop-k.k-index c.args.ks.now)) (reads_at m c.k-item.result) c.loop-k.invariant c.first_read.ensures))

pub first_of-returns : goal.first_of-returns
first_of-returns t c =
    subst (λ (ks : List Ker). IsFirst (reads_any (open_by c.args.free.now) ks) c.loop-k.first)
    (take_all c.args.ks.now c.loop-k.k-index (let lt = c.loop-k-test.false in omega (arith, lt)))
    c.loop-k.invariant

pub first_read-returns-in-Name : goal.first_read-returns-in-Name
first_read-returns-in-Name t c =
    reads_name (open_by c.args.free.now) c.args.k.now c.in-Name.name c.in-Name.primed
    (open_by c.args.free.now c.in-Name.name c.in-Name.primed) c.own_read.result c.in-Name.is refl c.own_read.ensures

pub first_read-returns-in-Const : goal.first_read-returns-in-Const
first_read-returns-in-Const t c = reads_const (open_by c.args.free.now) c.args.k.now _ c.in-Const.is

pub first_read-returns-in-NoCase : goal.first_read-returns-in-NoCase
first_read-returns-in-NoCase t c = reads_no_case (open_by c.args.free.now) c.args.k.now c.in-NoCase.is

pub first_read-returns-in-empty : goal.first_read-returns-in-empty
first_read-returns-in-empty t c =
    range_of_none (open_by c.args.free.now) c.args.k.now c.as_slice.result.now c.in-Range.is c.as_slice.ensures c.in-empty.len_below

pub first_read-returns-in-len1 : goal.first_read-returns-in-len1
first_read-returns-in-len1 t c =
    range_of_one (open_by c.args.free.now) c.args.k.now c.as_slice.result.now c.low-item.result c.first_read.result c.in-Range.is
    c.as_slice.ensures c.in-len1.len_at_least c.in-len1.len_below c.low-item.is c.first_read.ensures

pub first_read-returns-in-len2-up : goal.first_read-returns-in-len2-up
first_read-returns-in-len2-up t c =
    let m = open_by c.args.free.now in
    range_of_two m c.args.k.now c.as_slice.result.now c.low-item-in-Range.result c.high-item.result c.earlier.result c.in-Range.is
    c.as_slice.ensures c.in-len2-up.len_at_least c.low-item-in-Range.is c.high-item.is
    (c.earlier.ensures (reads_at m c.low-item-in-Range.result) (reads_at m c.high-item.result) c.first_read-in-len2-up.ensures
    c.first_read-in-len2-up-2.ensures)

pub first_read-returns-in_default : goal.first_read-returns-in_default
first_read-returns-in_default t c =
    reads_read (open_by c.args.free.now) c.args.k.now c.as_slice-in_default.result.now c.first_of.result (record {
      no_name = c.in_default.not-Name;
      no_const = c.in_default.not-Const;
      no_case = c.in_default.not-NoCase;
      no_range = c.in_default.not-Range;
    }) c.as_slice-in_default.ensures c.first_of.ensures
