use Rattle.std.proofs.Common.{◌∙◌}
use Rattle.tla_parser.proofs.Sighted.{instance_of, module_of, pattern_of, proof_of}
use Rattle.tla_parser.specs.Signs.{sign}
use Rattle.tla_parser.proofs.sights.Site.place_of.Goals as goal

pub nested_module-requires : goal.nested_module-requires
nested_module-requires c = module_of (sign c.args.self.now.token.now) (c.requires ∙ c.in-NestedModule.is)

pub parametrized_instance-requires : goal.parametrized_instance-requires
parametrized_instance-requires c = instance_of (sign c.args.self.now.token.now) (c.requires ∙ c.in-ParametrizedInstance.is)

pub tuple_pattern-requires : goal.tuple_pattern-requires
tuple_pattern-requires c = pattern_of (sign c.args.self.now.token.now) (c.requires ∙ c.in-TuplePattern.is)

pub proof-requires : goal.proof-requires
proof-requires c = proof_of (sign c.args.self.now.token.now) (c.requires ∙ c.in-Proof.is)
