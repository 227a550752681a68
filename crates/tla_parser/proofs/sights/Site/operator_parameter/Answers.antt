use Rattle.tla_parser.proofs.Sighted.{has_sign}
use Rattle.tla_parser.specs.declared.signs.Sign.TheVariants.{LeftParen, Underscore}
use Rattle.tla_parser.proofs.sights.Site.operator_parameter.Goals as goal

pub blank_parameter-requires : goal.blank_parameter-requires
blank_parameter-requires c = has_sign Underscore c.sign_of.result c.is.result c.args.self.now.token.now c.sign_of.ensures c.is.ensures c.if-is.true

pub blank_behind-requires : goal.blank_behind-requires
blank_behind-requires c = has_sign LeftParen c.sign_of-2.result c.is-2.result c.args.self.now.token.now c.sign_of-2.ensures c.is-2.ensures c.if-is-2.true
