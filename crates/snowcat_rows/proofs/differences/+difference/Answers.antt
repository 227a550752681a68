use Rattle.std.proofs.Common.{Option, ◌≡◌, ℕ, sym, ap, ◌∙◌, refl, arith, ◌<◌, length, map, List, ◌+◌, false}
use Rattle.std.specs.Cmp.Lexicographic.{bytes_decides}
use lib.Pointwise.{pointwise}
use lib.Dec.{eqb}
use Rattle.snowcat_rows.specs.declared.types.Ty.{Ty, Set, Seq, Fun, Tup, Rec, Oper}
use Rattle.snowcat_rows.specs.Types.{mean, row, con, app, SetHead, SeqHead, FunHead, TupHead, OperHead}
use Rattle.snowcat_rows.specs.Types.{fields}
use Rattle.snowcat_rows.specs.FirstDifferences.{Common}
use Rattle.snowcat_rows.specs.Codes.{has}
use Rattle.snowcat_rows.proofs.Fields.{compared_next, compared_end, same_both, same_none, same_first}
use Rattle.snowcat_rows.proofs.Means.{mean-Rec, mean-Set, mean-Seq, mean-Fun, mean-Tup, mean-Oper}
use Rattle.snowcat_rows.proofs.Roots.{differ-Bool, differ-Int, differ-Str, differ-Named, differ-Var, differ-Set, differ-Seq, differ-Fun, differ-Tup, differ-Oper, differ-Rec, differ_names, differ_vars, differ_tuples, differ_opers}
use Rattle.snowcat_rows.proofs.Differing.{through_right, through_first, through_second, rest_more, rest_found, through_field, differ_records, equal_records}
use Rattle.snowcat_rows.proofs.differences.+difference.Goals as goal
use Rattle.snowcat_rows.proofs.differences.+difference.Goals.{difference_fields-in-Some+in-Some-find+in_default-difference, difference_fields-in-Some+in_default-find, difference_fields-in_default}

different : (xs ys : List ℕ) → xs ≡ ys → pointwise eqb xs ys ≡ false → ⊥
different xs ys e f = let k = (bytes_decides xs ys).1 e in absurd (cc)

set_is : (a u : Ty) (x : Ty) → a ≡ Set x → u ≡ x → mean a ≡ app (con SetHead) (mean u)
set_is a u x e k = ap mean e ∙ mean-Set x ∙ ap (λ t. app (con SetHead) (mean t)) (sym k)

seq_is : (a u : Ty) (x : Ty) → a ≡ Seq x → u ≡ x → mean a ≡ app (con SeqHead) (mean u)
seq_is a u x e k = ap mean e ∙ mean-Seq x ∙ ap (λ t. app (con SeqHead) (mean t)) (sym k)

fun_is : (a u v : Ty) (x y : Ty) → a ≡ Fun x y → u ≡ x → v ≡ y → mean a ≡ app (con FunHead) (app (mean u) (mean v))
fun_is a u v x y e k l = ap mean e ∙ mean-Fun x y ∙ ap (λ t. app (con FunHead) (app (mean t) (mean y))) (sym k) ∙ ap (λ t. app (con FunHead) (app (mean u) (mean t))) (sym l)

tup_is : (a : Ty) (xs us : List Ty) → a ≡ Tup xs → us ≡ xs → mean a ≡ app (con TupHead) (row (map mean us))
tup_is a xs us e k = ap mean e ∙ mean-Tup xs ∙ ap (λ l. app (con TupHead) (row (map mean l))) (sym k)

oper_is : (a v : Ty) (xs us : List Ty) (y : Ty) → a ≡ Oper xs y → us ≡ xs → v ≡ y → mean a ≡ app (con OperHead) (app (row (map mean us)) (mean v))
oper_is a v xs us y e k l = ap mean e ∙ mean-Oper xs y ∙ ap (λ m. app (con OperHead) (app (row (map mean m)) (mean y))) (sym k) ∙ ap (λ t. app (con OperHead) (app (row (map mean us)) (mean t))) (sym l)

pub difference-returns-in_default-clause-differ : goal.difference-returns-in_default-clause-differ
difference-returns-in_default-clause-differ t c = differ-Bool _ _ c.in-Bool.is c.in_default.not-Bool

pub difference-returns-in_default-b-clause-differ : goal.difference-returns-in_default-b-clause-differ
difference-returns-in_default-b-clause-differ t c = differ-Int _ _ c.in-Int.is c.in_default-b.not-Int

pub difference-returns-in_default-b-2-clause-differ : goal.difference-returns-in_default-b-2-clause-differ
difference-returns-in_default-b-2-clause-differ t c = differ-Str _ _ c.in-Str.is c.in_default-b-2.not-Str

pub difference-returns-else-eq-clause-differ : goal.difference-returns-else-eq-clause-differ
difference-returns-else-eq-clause-differ t c = differ_names _ _ c.in-Named.x c.in-Named-b.y c.in-Named.is c.in-Named-b.is (λ e. different _ _ (ap (λ (l : List ℕ). l) (c.bytes.ensures ∙ e ∙ sym c.bytes-in-Named-b.ensures)) (sym c.if-eq.ensures))

pub difference-returns-in_default-b-3-clause-differ : goal.difference-returns-in_default-b-3-clause-differ
difference-returns-in_default-b-3-clause-differ t c = differ-Named _ _ _ c.in-Named.is c.in_default-b-3.not-Named

pub difference-returns-else-v-w-clause-differ : goal.difference-returns-else-v-w-clause-differ
difference-returns-else-v-w-clause-differ t c = differ_vars _ _ c.in-Var.v c.in-Var-b.w c.in-Var.is c.in-Var-b.is c.if-v-w.false

pub difference-returns-in_default-b-4-clause-differ : goal.difference-returns-in_default-b-4-clause-differ
difference-returns-in_default-b-4-clause-differ t c = differ-Var _ _ _ c.in-Var.is c.in_default-b-4.not-Var

pub difference-returns-in-Set-b-clause-differ : goal.difference-returns-in-Set-b-clause-differ
difference-returns-in-Set-b-clause-differ t c =
    through_right c.difference.result (λ p. mean p.0.now) (λ p. mean p.1.now) (mean c.args.a.now) (mean c.args.b.now) (con SetHead) (mean c.get.result.now) (mean c.get-in-Set-b.result.now)
    (set_is _ _ _ c.in-Set.is c.get.ensures) (set_is _ _ _ c.in-Set-b.is c.get-in-Set-b.ensures) c.difference.ensures.differ

pub difference-returns-in_default-b-5-clause-differ : goal.difference-returns-in_default-b-5-clause-differ
difference-returns-in_default-b-5-clause-differ t c = differ-Set _ _ _ c.in-Set.is c.in_default-b-5.not-Set

pub difference-returns-in_default-b-6-clause-differ : goal.difference-returns-in_default-b-6-clause-differ
difference-returns-in_default-b-6-clause-differ t c = differ-Seq _ _ _ c.in-Seq.is c.in_default-b-6.not-Seq

pub difference-returns-in_default-b-7-clause-differ : goal.difference-returns-in_default-b-7-clause-differ
difference-returns-in_default-b-7-clause-differ t c = differ-Fun _ _ _ _ c.in-Fun.is c.in_default-b-7.not-Fun

pub difference-returns-in_default-b-8-clause-differ : goal.difference-returns-in_default-b-8-clause-differ
difference-returns-in_default-b-8-clause-differ t c = differ-Tup _ _ _ c.in-Tup.is c.in_default-b-8.not-Tup

pub difference-returns-in_default-b-9-clause-differ : goal.difference-returns-in_default-b-9-clause-differ
difference-returns-in_default-b-9-clause-differ t c = differ-Oper _ _ _ _ c.in-Oper.is c.in_default-b-9.not-Oper

pub difference-returns-in-Seq-b-clause-differ : goal.difference-returns-in-Seq-b-clause-differ
difference-returns-in-Seq-b-clause-differ t c =
    through_right c.difference-in-Seq-b.result (λ p. mean p.0.now) (λ p. mean p.1.now) (mean c.args.a.now) (mean c.args.b.now) (con SeqHead) (mean c.get-in-Seq-b.result.now) (mean c.get-in-Seq-b-2.result.now)
    (seq_is _ _ _ c.in-Seq.is c.get-in-Seq-b.ensures) (seq_is _ _ _ c.in-Seq-b.is c.get-in-Seq-b-2.ensures) c.difference-in-Seq-b.ensures.differ

pub difference-returns-in-Some-clause-differ : goal.difference-returns-in-Some-clause-differ
difference-returns-in-Some-clause-differ t c =
    through_first (mean c.args.a.now) (mean c.args.b.now) (con FunHead) (mean c.get-in-Fun-b.result.now) (mean c.get-in-Fun-b-2.result.now) (mean c.in-Fun.z) (mean c.in-Fun-b.w) _ _
    (fun_is _ _ _ _ _ c.in-Fun.is c.get-in-Fun-b.ensures refl) (fun_is _ _ _ _ _ c.in-Fun-b.is c.get-in-Fun-b-2.ensures refl) c.in-Some.ensures.differ

pub difference-returns-in-None-clause-differ : goal.difference-returns-in-None-clause-differ
difference-returns-in-None-clause-differ t c =
    through_second c.difference-in-None.result (λ p. mean p.0.now) (λ p. mean p.1.now) (mean c.args.a.now) (mean c.args.b.now) (con FunHead)
    (mean c.get-in-Fun-b.result.now) (mean c.get-in-Fun-b-2.result.now) (mean c.get-in-None.result.now) (mean c.get-in-None-2.result.now)
    (fun_is _ _ _ _ _ c.in-Fun.is c.get-in-Fun-b.ensures c.get-in-None.ensures) (fun_is _ _ _ _ _ c.in-Fun-b.is c.get-in-Fun-b-2.ensures c.get-in-None-2.ensures)
    c.in-None.ensures.differ c.difference-in-None.ensures.differ

pub difference-returns-then-len-clause-differ : goal.difference-returns-then-len-clause-differ
difference-returns-then-len-clause-differ t c =
    through_right c.difference_all.result (λ p. mean p.0.now) (λ p. mean p.1.now) (mean c.args.a.now) (mean c.args.b.now) (con TupHead) (row (map mean c.as_slice.result.now)) (row (map mean c.as_slice-then-len.result.now))
    (tup_is _ _ _ c.in-Tup.is c.as_slice.ensures) (tup_is _ _ _ c.in-Tup-b.is c.as_slice-then-len.ensures) c.difference_all.ensures.differ

pub difference-returns-else-len-clause-differ : goal.difference-returns-else-len-clause-differ
difference-returns-else-len-clause-differ t c =
    differ_tuples _ _ c.in-Tup.xs c.in-Tup-b.ys c.in-Tup.is c.in-Tup-b.is (λ e. c.if-len.false (c.len.ensures ∙ e ∙ sym c.len-in-Tup-b.ensures))

pub difference-returns-in-Some-difference_all-clause-differ : goal.difference-returns-in-Some-difference_all-clause-differ
difference-returns-in-Some-difference_all-clause-differ t c =
    through_first (mean c.args.a.now) (mean c.args.b.now) (con OperHead) (row (map mean c.as_slice-then-len-2.result.now)) (row (map mean c.as_slice-then-len-2-2.result.now)) (mean c.in-Oper.z) (mean c.in-Oper-b.w) _ _
    (oper_is _ _ _ _ _ c.in-Oper.is c.as_slice-then-len-2.ensures refl) (oper_is _ _ _ _ _ c.in-Oper-b.is c.as_slice-then-len-2-2.ensures refl) c.in-Some-difference_all.ensures.differ

pub difference-returns-in-None-difference_all-clause-differ : goal.difference-returns-in-None-difference_all-clause-differ
difference-returns-in-None-difference_all-clause-differ t c =
    through_second c.difference-in-None-difference_all.result (λ p. mean p.0.now) (λ p. mean p.1.now) (mean c.args.a.now) (mean c.args.b.now) (con OperHead)
    (row (map mean c.as_slice-then-len-2.result.now)) (row (map mean c.as_slice-then-len-2-2.result.now)) (mean c.get-in-None-difference_all.result.now) (mean c.get-in-None-difference_all-2.result.now)
    (oper_is _ _ _ _ _ c.in-Oper.is c.as_slice-then-len-2.ensures c.get-in-None-difference_all.ensures) (oper_is _ _ _ _ _ c.in-Oper-b.is c.as_slice-then-len-2-2.ensures c.get-in-None-difference_all-2.ensures)
    c.in-None-difference_all.ensures.differ c.difference-in-None-difference_all.ensures.differ

pub difference-returns-else-len-2-clause-differ : goal.difference-returns-else-len-2-clause-differ
difference-returns-else-len-2-clause-differ t c =
    differ_opers _ _ c.in-Oper.xs c.in-Oper-b.ys c.in-Oper.z c.in-Oper-b.w c.in-Oper.is c.in-Oper-b.is (λ e. c.if-len-2.false (c.len-in-Oper-b.ensures ∙ e ∙ sym c.len-in-Oper-b-2.ensures))

pub difference_all-returns-in-Some-clause-differ : goal.difference_all-returns-in-Some-clause-differ
difference_all-returns-in-Some-clause-differ t c =
    let lx : c.loop-i.i < length c.args.xs.now = omega arith in
    let ly : c.loop-i.i < length c.args.ys.now = omega arith in
    rest_found c.args.xs.now c.args.ys.now c.loop-i.i c.index-xs-i.result c.index-ys-i.result lx ly c.index-xs-i.is c.index-ys-i.is c.loop-i.invariant _ _ c.in-Some.ensures.differ

pub difference_all-loop-i-preserved : goal.difference_all-loop-i-preserved
difference_all-loop-i-preserved t c =
    let lx : c.loop-i.i < length c.args.xs.now = omega arith in
    let ly : c.loop-i.i < length c.args.ys.now = omega arith in
    rest_more c.args.xs.now c.args.ys.now c.loop-i.i c.index-xs-i.result c.index-ys-i.result lx ly c.index-xs-i.is c.index-ys-i.is c.loop-i.invariant (c.loop-i.i + 1) (omega arith) c.in_default.ensures.differ

rec_is : (a : Ty) (xs us : List (List ℕ × Ty)) (k : Option ℕ) → a ≡ Rec xs k → us ≡ xs → mean a ≡ fields (has us) k
rec_is a xs us k e h = ap mean e ∙ mean-Rec xs k ∙ ap (λ l. fields (has l) k) (sym h)

moved_common : (fs gs us vs : List (List ℕ × Ty)) → us ≡ fs → vs ≡ gs → Common (has us) (has vs) → Common (has fs) (has gs)
moved_common fs gs us vs e h c n t u p q = c n t u (ap (λ l. has l n) e ∙ p) (ap (λ l. has l n) h ∙ q)

pub difference-returns-in-Some-difference_fields-clause-differ : goal.difference-returns-in-Some-difference_fields-clause-differ
difference-returns-in-Some-difference_fields-clause-differ t c =
    let w = c.in-Some-difference_fields.ensures.differ in
    through_field (mean c.args.a.now) (mean c.args.b.now) (has c.as_slice-in-Rec-b.result.now) (has c.as_slice-in-Rec-b-2.result.now) c.in-Rec.k c.in-Rec-b.j w.name w.first w.second _ _
    (rec_is _ _ _ _ c.in-Rec.is c.as_slice-in-Rec-b.ensures) (rec_is _ _ _ _ c.in-Rec-b.is c.as_slice-in-Rec-b-2.ensures) w.left w.right w.differ

pub difference-returns-then-is_alike-clause-differ : goal.difference-returns-then-is_alike-clause-differ
difference-returns-then-is_alike-clause-differ t c =
    equal_records (mean c.args.a.now) (mean c.args.b.now) (has c.as_slice-in-None-difference_fields.result.now) (has c.as_slice-in-None-difference_fields-2.result.now) c.in-Rec.k c.in-Rec-b.j
    (rec_is _ _ _ _ c.in-Rec.is c.as_slice-in-None-difference_fields.ensures) (rec_is _ _ _ _ c.in-Rec-b.is c.as_slice-in-None-difference_fields-2.ensures)
    (moved_common _ _ c.as_slice-in-Rec-b.result.now c.as_slice-in-Rec-b-2.result.now (c.as_slice-in-Rec-b.ensures ∙ sym c.as_slice-in-None-difference_fields.ensures) (c.as_slice-in-Rec-b-2.ensures ∙ sym c.as_slice-in-None-difference_fields-2.ensures) c.in-None-difference_fields.ensures.differ)
    c.if-is_alike.ensures

pub difference-returns-else-is_alike-clause-differ : goal.difference-returns-else-is_alike-clause-differ
difference-returns-else-is_alike-clause-differ t c =
    differ_records (mean c.args.a.now) (mean c.args.b.now) (has c.as_slice-in-None-difference_fields.result.now) (has c.as_slice-in-None-difference_fields-2.result.now) c.in-Rec.k c.in-Rec-b.j
    (rec_is _ _ _ _ c.in-Rec.is c.as_slice-in-None-difference_fields.ensures) (rec_is _ _ _ _ c.in-Rec-b.is c.as_slice-in-None-difference_fields-2.ensures)
    (moved_common _ _ c.as_slice-in-Rec-b.result.now c.as_slice-in-Rec-b-2.result.now (c.as_slice-in-Rec-b.ensures ∙ sym c.as_slice-in-None-difference_fields.ensures) (c.as_slice-in-Rec-b-2.ensures ∙ sym c.as_slice-in-None-difference_fields-2.ensures) c.in-None-difference_fields.ensures.differ)
    c.if-is_alike.ensures

pub difference-returns-in_default-b-10-clause-differ : goal.difference-returns-in_default-b-10-clause-differ
difference-returns-in_default-b-10-clause-differ t c = differ-Rec _ _ _ _ c.in-Rec.is c.in_default-b-10.not-Rec

pub difference_fields-loop-f-preserved : goal.difference_fields-loop-f-preserved
difference_fields-loop-f-preserved t c =
    let lt : c.loop-f.f-index < length c.args.fs.now = omega arith in
    compared_next c.args.fs.now c.args.gs.now c.loop-f.f-index (c.loop-f.f-index + 1) c.f-item.result lt c.f-item.is (omega arith)
    (elim c.match-find.branch [
      | difference_fields-in-Some+in-Some-find+in_default-difference w ↦
          same_both c.args.fs.now c.args.gs.now c.f-item.result.0 _ _ (w.in-Some.ensures.1 w.index-fs-i.result) (w.in-Some-find.ensures.1 w.index-gs-j.result) w.in_default-difference.ensures.differ
      | difference_fields-in-Some+in_default-find w ↦ same_none (has c.args.fs.now c.f-item.result.0) (has c.args.gs.now c.f-item.result.0) w.in_default-find.ensures
      | difference_fields-in_default w ↦ same_first (has c.args.fs.now c.f-item.result.0) (has c.args.gs.now c.f-item.result.0) w.in_default.ensures
    ])
    c.loop-f.invariant

pub difference_fields-returns-clause-differ : goal.difference_fields-returns-clause-differ
difference_fields-returns-clause-differ t c = compared_end c.args.fs.now c.args.gs.now c.loop-f.f-index (omega arith) c.loop-f.invariant
