use Rattle.std.proofs.Common.{sym, ◌∙◌}
use Rattle.tla_values.proofs.SetLaws.{found_in_set, split_in_set}
use Rattle.tla_values.proofs.sets.insert.Goals as goal

pub returns-in-Ok : goal.returns-in-Ok
returns-in-Ok c =
    sym (found_in_set _ c.as_slice.result.now _ _ c.as_slice.ensures.value c.requires c.in-Ok.ensures.bound c.in-Ok.ensures.place)

pub returns-in_ok-insert-in-Err : goal.returns-in_ok-insert-in-Err
returns-in_ok-insert-in-Err c =
    c.in_ok-insert-in-Err.ensures.items
    ∙ sym (split_in_set _ c.as_slice.result.now _ _ c.as_slice.ensures.value c.in-Err.ensures.bound c.in-Err.ensures.place)
