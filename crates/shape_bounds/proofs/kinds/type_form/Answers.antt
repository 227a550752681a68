use Rattle.shape_bounds.proofs.TypeForms.{bool_form, fun_form, int_form, named_form, oper_form, rec_form, seq_form, set_form, some_form, str_form, tup_form, var_form}
use Rattle.shape_bounds.proofs.kinds.type_form.Goals as goal

pub returns-in-Bool : goal.returns-in-Bool
returns-in-Bool c = bool_form c.args.t.now c.in-Bool.is

pub returns-in-Int : goal.returns-in-Int
returns-in-Int c = int_form c.args.t.now c.in-Int.is

pub returns-in-Str : goal.returns-in-Str
returns-in-Str c = str_form c.args.t.now c.in-Str.is

pub returns-in-Named : goal.returns-in-Named
returns-in-Named c = named_form c.args.t.now _ c.in-Named.is

pub returns-in-Var : goal.returns-in-Var
returns-in-Var c = var_form c.args.t.now _ c.in-Var.is

pub returns-in-Set : goal.returns-in-Set
returns-in-Set c = set_form c.args.t.now _ c.in-Set.is

pub returns-in-Tup : goal.returns-in-Tup
returns-in-Tup c = tup_form c.args.t.now _ c.in-Tup.is

pub returns-in-Oper : goal.returns-in-Oper
returns-in-Oper c = oper_form c.args.t.now _ _ c.in-Oper.is

pub returns-in-Seq : goal.returns-in-Seq
returns-in-Seq c = some_form _ _ _ _ c.where_known.ensures (seq_form c.args.t.now _ c.in-Seq.is)

pub returns-in-Fun : goal.returns-in-Fun
returns-in-Fun c = some_form _ _ _ _ c.where_known-in-Fun.ensures (fun_form c.args.t.now _ _ c.in-Fun.is)

pub returns-in-Rec : goal.returns-in-Rec
returns-in-Rec c = some_form _ _ _ _ c.where_known-in-Rec.ensures (rec_form c.args.t.now _ _ c.in-Rec.is)
