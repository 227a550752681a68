use Rattle.std.proofs.Common.{◌+◌, ◌∙◌, subst, sym, take}
use Rattle.snowcat_rows.specs.Views.{kept_by}
use Rattle.snowcat_types.specs.declared.watching.Watching.{Watching}
use Rattle.snowcat_types.specs.inner.Awaited.{Holds}
use Rattle.snowcat_types.proofs.Watched.{holds_on, holds_released}
use Rattle.snowcat_types.proofs.watching.Watching.release_from.Goals as goal
use Rattle.snowcat_types.proofs.watching.Watching.release_from.Goals.{in-Some+in_ok-release, in_default}

pub loop-i-preserved : goal.loop-i-preserved
loop-i-preserved c =
    let P : Watching → Type 0 = λ z. Holds (take c.args.mark (kept_by c.args.subst.now)) c.args.self.now
    (take (c.loop-i.i + 1) (kept_by c.args.subst.now)) z in
    elim c.match-bound_type.branch [
      | in-Some+in_ok-release w ↦ subst P (sym w.self-is)
          (holds_released (take c.args.mark (kept_by c.args.subst.now)) (kept_by c.args.subst.now) c.loop-i.i c.args.self.now c.loop-i.self
          c.loop-i.invariant w.in-Some.variable w.release.new.self (sym w.in-Some.is ∙ c.bound_type.ensures) w.in_ok-release.ensures)
      | in_default w ↦ subst P (sym w.self-is)
          (holds_on (take c.args.mark (kept_by c.args.subst.now)) (kept_by c.args.subst.now) c.loop-i.i c.args.self.now c.loop-i.self
          c.loop-i.invariant (sym w.in_default.is ∙ c.bound_type.ensures))
    ]
