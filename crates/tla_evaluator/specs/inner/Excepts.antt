-- What a path of arguments leads to in a program.
use Rattle.tla_meaning.specs.Meaning.{Reached, At, Outside, NoFunction}
use Rattle.tla_evaluator.specs.declared.excepts.Reached.{Reached as Found}
use Rattle.tla_evaluator.specs.declared.excepts.Reached.TheVariants as found

abbrev pub reached_of : Found → Reached
reached_of (found.At v) = At v.now
reached_of found.Outside = Outside
reached_of found.NoFunction = NoFunction
