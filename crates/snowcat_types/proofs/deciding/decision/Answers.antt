use Rattle.snowcat_rows.specs.Types.{mean}
use Rattle.snowcat_rows.specs.Views.{stands_for}
use Rattle.snowcat_types.proofs.RootKinds.{of_Bool, of_Fun, of_Int, of_Named, of_Oper, of_Rec, of_Seq, of_Set, of_Str, of_Tup, of_Var}
use Rattle.snowcat_types.proofs.deciding.decision.Goals as goal

pub returns-in-Var : goal.returns-in-Var
returns-in-Var c = of_Var (stands_for c.args.subst.now) (mean c.args.t.now) c.root.result.now c.root.ensures c.in-Var.field-0 c.in-Var.is

pub returns-in-Fun : goal.returns-in-Fun
returns-in-Fun c = of_Fun (stands_for c.args.subst.now) (mean c.args.t.now) c.root.result.now c.root.ensures c.in-Fun.field-0 c.in-Fun.field-1 c.in-Fun.is

pub returns-in-Seq : goal.returns-in-Seq
returns-in-Seq c = of_Seq (stands_for c.args.subst.now) (mean c.args.t.now) c.root.result.now c.root.ensures c.in-Seq.field-0 c.in-Seq.is

pub returns-in-Tup : goal.returns-in-Tup
returns-in-Tup c = of_Tup (stands_for c.args.subst.now) (mean c.args.t.now) c.root.result.now c.root.ensures c.in-Tup.field-0 c.in-Tup.is

pub returns-in-Rec : goal.returns-in-Rec
returns-in-Rec c = of_Rec (stands_for c.args.subst.now) (mean c.args.t.now) c.root.result.now c.root.ensures c.in-Rec.field-0 c.in-Rec.field-1 c.in-Rec.is

pub returns-in-Bool : goal.returns-in-Bool
returns-in-Bool c = of_Bool (stands_for c.args.subst.now) (mean c.args.t.now) c.root.result.now c.root.ensures c.in-Bool.is

pub returns-in-Int : goal.returns-in-Int
returns-in-Int c = of_Int (stands_for c.args.subst.now) (mean c.args.t.now) c.root.result.now c.root.ensures c.in-Int.is

pub returns-in-Str : goal.returns-in-Str
returns-in-Str c = of_Str (stands_for c.args.subst.now) (mean c.args.t.now) c.root.result.now c.root.ensures c.in-Str.is

pub returns-in-Named : goal.returns-in-Named
returns-in-Named c = of_Named (stands_for c.args.subst.now) (mean c.args.t.now) c.root.result.now c.root.ensures c.in-Named.field-0 c.in-Named.is

pub returns-in-Set : goal.returns-in-Set
returns-in-Set c = of_Set (stands_for c.args.subst.now) (mean c.args.t.now) c.root.result.now c.root.ensures c.in-Set.field-0 c.in-Set.is

pub returns-in-Oper : goal.returns-in-Oper
returns-in-Oper c = of_Oper (stands_for c.args.subst.now) (mean c.args.t.now) c.root.result.now c.root.ensures c.in-Oper.field-0 c.in-Oper.field-1 c.in-Oper.is
