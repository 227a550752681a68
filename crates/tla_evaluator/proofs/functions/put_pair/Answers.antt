use Rattle.tla_evaluator.proofs.FunctionLemmas.{put_found, put_split}
use Rattle.tla_evaluator.proofs.functions.put_pair.Goals as goal

pub returns-in-Ok : goal.returns-in-Ok
returns-in-Ok c = put_found c.args.pair _ _ _ c.as_slice.ensures.value c.requires c.in-Ok.ensures.bound c.in-Ok.ensures.place

pub returns-in_ok-insert-in-Err : goal.returns-in_ok-insert-in-Err
returns-in_ok-insert-in-Err c = put_split c.args.pair _ _ _ _ c.as_slice.ensures.value c.in-Err.ensures.bound c.in-Err.ensures.place c.in_ok-insert-in-Err.ensures.items
