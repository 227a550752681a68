use Rattle.std.proofs.Common.{◌∙◌, subst, sym}
use Rattle.flat_modules.specs.inner.Gathering.{IsExtended}
use Rattle.flat_modules.proofs.Depths.{remembers_more}
use Rattle.flat_modules.proofs.memo.Memo.keep.Goals as goal

pub returns : goal.returns
returns c = λ ms k remembers inside.
    let named = c.from_vec-name.ensures ∙ c.in_ok-from_slice.ensures.items in
    let known = subst (λ x. IsExtended c.args.inside.now ms k x c.args.depth) (sym named) inside in
    remembers_more ms k c.args.self.now (record { kept = c.push.new.self }) c.args.inside.now c.from_vec-name.result c.args.depth c.in-Some.spare
    (record { knowing = c.in_ok-share.field-0; levels = c.saturating_sub.result }) remembers known c.in-Some.is c.saturating_sub.ensures c.in_ok-share.ensures c.in_ok-push.ensures.items
