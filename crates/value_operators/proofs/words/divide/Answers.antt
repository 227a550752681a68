use Rattle.std.proofs.Common.{sym, ◌∙◌}
use Rattle.sat_formula.proofs.Extension.{HasValue-later}
use Rattle.word_blaster.proofs.Words.{WordBelow-later}
use Rattle.value_operators.proofs.words.divide.Goals as goal

pub div_rem_floor-requires-clause-words : goal.div_rem_floor-requires-clause-words
div_rem_floor-requires-clause-words c =
    let g = c.in_ok-none.ensures.grows.vars in
    record {
      left = WordBelow-later _ _ _ c.requires.first.below g;
      right = WordBelow-later _ _ _ c.requires.second.below g;
      same = c.requires.first.width ∙ sym c.requires.second.width;
    }

pub returns-clause-divides : goal.returns-clause-divides
returns-clause-divides c =
    let r = c.in_ok-quotient.ensures in
    record {
      quotient = rw c.requires.first.width at r.quotient_word;
      remainder = rw c.requires.first.width at r.rest_word;
      none = HasValue-later _ _ _ _ c.in_ok-none.ensures.value r.grows;
      whole = r.quotient;
      left = r.rest;
    }
