use Rattle.std.proofs.Common.{Option, refl, subst, sym}
use Rattle.symbolic_mc.specs.Top.{NoCommand, Touches}
use Rattle.symbolic_mc.specs.Words.{Request, recheck_of}
use Rattle.symbolic_mc.proofs.top.decide.Goals as goal

pub returns-in-Some-clause-files : goal.returns-in-Some-clause-files
returns-in-Some-clause-files g c =
    subst (λ (r : Option Request). Touches (r, recheck_of c.args.words.now) (g.F.Files.held c.args.files.now) (g.F.Files.held c.check_file.new.files))
    c.in-Some.ensures (c.check_file.ensures.files (recheck_of c.args.words.now))

pub returns-in-None-clause-answer : goal.returns-in-None-clause-answer
returns-in-None-clause-answer g c = NoCommand (sym c.in_default.ensures) (sym c.in-None.ensures) refl
