use Rattle.std.proofs.Common.{sym, refl, ap}
use Rattle.snowcat_rows.specs.Types.{fields}
use Rattle.snowcat_rows.specs.inner.Rounds.{same_tail}
use Rattle.snowcat_rows.specs.Codes.{has, bindings_of}
use Rattle.snowcat_rows.proofs.Rows.{bound_right, bound_left, closed_right, closed_left}
use Rattle.snowcat_rows.proofs.bindings.advance_rows.Goals as goal

pub returns-then-is_same_end-clause-ok : goal.returns-then-is_same_end-clause-ok
returns-then-is_same_end-clause-ok c =
    same_tail (has c.args.fs.now) (has c.args.gs.now) c.args.k refl (ap (fields (has c.args.gs.now)) (sym c.if-is_same_end.ensures)) c.requires.common c.requires.unequal

pub returns-in_ok-bound-in-Some-clause-ok : goal.returns-in_ok-bound-in-Some-clause-ok
returns-in_ok-bound-in-Some-clause-ok c =
    bound_right (has c.args.fs.now) (has c.args.gs.now) (has c.in_ok-right-in-Some.right.items) c.args.k c.args.j c.in-Some.q c.args.issued.now (bindings_of c.args.bindings.now.items) _ c.if-is_same_end.ensures c.in_ok-right-in-Some.ensures.has
    c.if-covers.ensures c.in-Some.is c.in_ok-bound-in-Some.bound c.in_ok-bound-in-Some.ensures.ok

pub returns-in_ok-bound-in-Some-k-clause-ok : goal.returns-in_ok-bound-in-Some-k-clause-ok
returns-in_ok-bound-in-Some-k-clause-ok c =
    bound_left (has c.args.gs.now) (has c.args.fs.now) (has c.in_ok-left-in-Some-k.left.items) c.args.j c.args.k c.in-Some-k.r c.args.issued.now (bindings_of c.args.bindings.now.items) _ (λ e. c.if-is_same_end.ensures (sym e)) c.in_ok-left-in-Some-k.ensures.has
    c.if-covers-2.ensures c.in-Some-k.is c.in_ok-bound-in-Some-k.bound c.in_ok-bound-in-Some-k.ensures.ok

pub returns-else-covers-2-clause-ok : goal.returns-else-covers-2-clause-ok
returns-else-covers-2-clause-ok c =
    closed_right (has c.args.fs.now) (has c.args.gs.now) c.args.k c.args.j c.args.issued.now c.in-None.is c.if-covers-2.ensures

pub returns-in-None-k-2-clause-ok : goal.returns-in-None-k-2-clause-ok
returns-in-None-k-2-clause-ok c =
    closed_left (has c.args.fs.now) (has c.args.gs.now) c.args.k c.args.j c.args.issued.now c.in-None-k-2.is c.if-covers.ensures

pub returns-in_ok-bound-in-Some-k-2-clause-ok : goal.returns-in_ok-bound-in-Some-k-2-clause-ok
returns-in_ok-bound-in-Some-k-2-clause-ok c =
    bound_left (has c.args.gs.now) (has c.args.fs.now) (has c.in_ok-left-in-Some-k-2.left.items) c.args.j c.args.k c.in-Some-k-2.r c.args.issued.now (bindings_of c.args.bindings.now.items) _ (λ e. c.if-is_same_end.ensures (sym e)) c.in_ok-left-in-Some-k-2.ensures.has
    c.if-covers-3.ensures c.in-Some-k-2.is c.in_ok-bound-in-Some-k-2.bound c.in_ok-bound-in-Some-k-2.ensures.ok

pub returns-in-None-j-clause-ok : goal.returns-in-None-j-clause-ok
returns-in-None-j-clause-ok c =
    closed_right (has c.args.fs.now) (has c.args.gs.now) c.args.k c.args.j c.args.issued.now c.in-None-j.is c.if-covers-3.ensures
