use Rattle.std.proofs.Common.{subst}
use Rattle.path_cell_tests.proofs.Plain.{IsPlain, plain-bool, plain-int, plain-set, plain-seq, plain-fun}
use Rattle.path_cell_tests.proofs.texts.+is_plain.Goals as goal

pub returns-in-Bool : goal.returns-in-Bool
returns-in-Bool t c = λ h. plain-bool _ c.in-Bool.is

pub returns-in-Int : goal.returns-in-Int
returns-in-Int t c = λ h. plain-int _ c.in-Int.is

pub returns-in-Set : goal.returns-in-Set
returns-in-Set t c = λ h. plain-set _ _ c.in-Set.is (subst IsPlain c.get.ensures (c.is_plain.ensures h))

pub returns-in-Seq : goal.returns-in-Seq
returns-in-Seq t c = λ h. plain-seq _ _ c.in-Seq.is (subst IsPlain c.get-in-Seq.ensures (c.is_plain-in-Seq.ensures h))

pub returns-then-is_plain : goal.returns-then-is_plain
returns-then-is_plain t c = λ h.
    plain-fun _ _ _ c.in-Fun.is (subst IsPlain c.get-in-Fun.ensures (c.is_plain-in-Fun.ensures c.if-is_plain.true))
    (subst IsPlain c.get-then-is_plain.ensures (c.is_plain-then-is_plain.ensures h))
