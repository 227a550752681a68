use Rattle.std.proofs.Common.{IfOk, Option, sym, subst, ◌≡◌}
use Rattle.tla_parser.proofs.Notes.{name_found, name_missing}
use Rattle.tla_parser.specs.Aliases.{Alias}
use Rattle.tla_parser.proofs.aliases.name_in.Goals as goal

pub returns-in-Some : goal.returns-in-Some
returns-in-Some c =
    subst (λ (o : Option Alias). IfOk c.type_in.result (λ r. r ≡ o))
    (sym (name_found c.args.bytes.now c.in-Some.rest.now c.after_blanks.result.now c.run_length-end.result c.run_length-end.ensures c.if-end-eq0.false c.after_blanks.ensures c.in-Some.ensures.some))
    c.type_in.ensures

pub returns-in-None : goal.returns-in-None
returns-in-None c = name_missing c.args.bytes.now c.after_blanks.result.now c.run_length-end.result c.run_length-end.ensures c.after_blanks.ensures c.in-None.ensures.none
