use Rattle.std.proofs.Common.{◌∙◌, ap, sym, arith}
use Rattle.std.specs.Char.{is_ascii_digit}
use Rattle.std.specs.List.{list_all}
use Rattle.symbolic_mc.proofs.Numbers.{no_number}
use Rattle.symbolic_mc.proofs.words.number.Goals as goal

pub returns-in_default-3 : goal.returns-in_default-3
returns-in_default-3 c =
    no_number c.args.least c.args.greatest c.args.text.now c.parse.result c.in_default.field-0 (omega arith)
    (ap (list_all is_ascii_digit) (sym c.as_bytes.ensures.value) ∙ sym c.if-not-are_digits.ensures) c.in_default.is c.parse.ensures.value.0
