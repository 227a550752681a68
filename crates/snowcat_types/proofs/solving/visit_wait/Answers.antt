use Rattle.std.proofs.Common.{◌∙◌, ◌++◌, List, [], ◌∷◌, ap, map, subst, sym}
use Rattle.std.proofs.lemmas.List.{map-append}
use Rattle.snowcat_types.specs.declared.waiting.Wait.{Wait}
use Rattle.snowcat_types.specs.Systems.{Waits}
use Rattle.snowcat_types.specs.Waiting.{place_of}
use Rattle.snowcat_types.specs.inner.Runs.{HasVisited}
use Rattle.snowcat_types.proofs.Faulting.{choice_failed, choice_met, placed_at}
use Rattle.snowcat_types.proofs.Visiting.{wait_visited}
use Rattle.snowcat_types.proofs.solving.visit_wait.Goals as goal

pub returns-in-Ok : goal.returns-in-Ok
returns-in-Ok c = λ system front back is v.
    choice_met system front back _ c.args.subst.now c.choose.new.subst v c.args.wait.now c.kind_of-kind.result is c.kind_of-kind.ensures
    c.if-is_open.ensures (λ a. c.in-Ok.ensures.tried system.count v.fitting.fronts v.done v.solved v.are a)

pub returns-in-Err : goal.returns-in-Err
returns-in-Err c = λ system front back is v.
    choice_failed system front back _ c.args.subst.now c.choose.new.subst v c.args.wait.now c.kind_of-kind.result c.in-Err.fault
    c.clash_at.result is c.kind_of-kind.ensures c.if-is_open.ensures
    (λ a. c.in-Err.ensures.tried system.count v.fitting.fronts v.done v.solved v.are a) c.in-Err.ensures.names
    (placed_at c.in-Err.fault c.place_of.result (place_of c.args.wait.now) [] c.clash_at.result c.place_of.ensures c.clash_at.ensures)

pub returns-then-is_open : goal.returns-then-is_open
returns-then-is_open c = λ system front back is v.
    let P : List Wait → Type 0 = λ z. HasVisited system (front ++ Waits c.args.wait.now ∷ []) z c.args.subst.now in
    subst P (sym (ap (map (λ w. w.now)) c.in_ok-push.ensures.items ∙ map-append (λ w. w.now) c.args.waits.now.items (c.args.wait ∷ [])))
    (wait_visited system front back _ c.args.subst.now v c.args.wait.now is (sym c.kind_of-kind.ensures ∙ c.if-is_open.ensures))
