use Rattle.std.proofs.Common.{◌≡◌, ℕ, Some, refl}
use Rattle.snowcat_rows.specs.Codes.{has, bindings_of}
use Rattle.snowcat_rows.proofs.Rows.{both_then, both_else}
use Rattle.snowcat_rows.proofs.bindings.advance_both.Goals as goal

same : (i j : ℕ) → Some i ≡ Some j → i ≡ j
same i j e = cc

pub returns-then-bound-clause-ok : goal.returns-then-bound-clause-ok
returns-then-bound-clause-ok c =
    both_then (has c.args.fs.now) (has c.args.gs.now) (has c.in_ok-left.left.items) (has c.in_ok-right.right.items) (Some c.args.r) (Some c.args.q) c.args.r c.args.q c.args.issued.now (bindings_of c.args.bindings.now.items) _
    (λ e. c.requires.apart (same c.args.r c.args.q e)) refl refl c.in_ok-left.ensures.has c.in_ok-right.ensures.has c.requires.left c.requires.right c.in_ok-bound.bound c.if-bound.true c.in_ok-bound.ensures.ok

pub returns-else-bound-clause-ok : goal.returns-else-bound-clause-ok
returns-else-bound-clause-ok c =
    both_else (has c.args.fs.now) (has c.args.gs.now) (has c.in_ok-left.left.items) (has c.in_ok-right.right.items) (Some c.args.r) (Some c.args.q) c.args.r c.args.q c.args.issued.now (bindings_of c.args.bindings.now.items) _
    (λ e. c.requires.apart (same c.args.r c.args.q e)) refl refl c.in_ok-left.ensures.has c.in_ok-right.ensures.has c.requires.left c.requires.right c.in_ok-bound.bound c.if-bound.false c.in_ok-bound.ensures.ok
