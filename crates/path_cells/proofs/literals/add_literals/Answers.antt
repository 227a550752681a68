use Rattle.std.proofs.Common.{◌∙◌}
use Rattle.path_cells.proofs.AddedLiterals.{all_below, literals_added}
use Rattle.path_cells.proofs.literals.add_literals.Goals as goal

pub and_all-requires : goal.and_all-requires
and_all-requires c =
    rw (c.as_slice.ensures.value, c.in_ok-all.ensures) (all_below c.args.f.now.vars c.args.x c.args.m.now c.requires.path_below c.requires.step_below)

pub returns-clause-adds : goal.returns-clause-adds
returns-clause-adds c =
    literals_added c.and_all.new.self c.and.new.self c.or.new.self c.and-2.new.self c.or-2.new.self c.args.x _ c.args.m.now c.as_slice.result.now c.in_ok-own_wrong.own_wrong
    c.in_ok-own_big.own_big
    (record {
      are = c.as_slice.ensures.value ∙ c.in_ok-all.ensures;
      holds = c.in_ok-holds.ensures.value;
      own_wrong_is = c.in_ok-own_wrong.ensures.value;
      wrong = c.in_ok-wrong.ensures.value;
      own_big_is = c.in_ok-own_big.ensures.value;
      big = c.in_ok-big.ensures.value;
    })
    c.in_ok-own_wrong.ensures.grows c.in_ok-wrong.ensures.grows c.in_ok-own_big.ensures.grows c.in_ok-big.ensures.grows
