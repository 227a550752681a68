use Rattle.snowcat_rows.specs.Views.{issued_of}
use Rattle.snowcat_types.proofs.Asked.{equal_asked, field_asked, field_inside}
use Rattle.snowcat_types.proofs.asking.ask_one.Goals as goal

pub ask_field-requires : goal.ask_field-requires
ask_field-requires c = field_inside (issued_of c.args.subst.now) c.args.asked.now c.in-FieldOf.whole c.in-FieldOf.name c.in-FieldOf.field c.in-FieldOf.is c.requires.within

pub returns-in-Equal-clause-tried : goal.returns-in-Equal-clause-tried
returns-in-Equal-clause-tried c = equal_asked c.args.asked.now c.in-Equal.a c.in-Equal.b c.args.subst.now c.equate.new.subst c.equate.result c.in-Equal.is c.equate.ensures.met

pub returns-in-FieldOf-clause-tried : goal.returns-in-FieldOf-clause-tried
returns-in-FieldOf-clause-tried c =
    field_asked c.args.asked.now c.in-FieldOf.whole c.in-FieldOf.name c.in-FieldOf.field c.args.subst.now c.ask_field.new.subst c.ask_field.result c.in-FieldOf.is c.ask_field.ensures.met
