-- The rows of the operators that the kernel has, too, all of them.
use Rattle.std.proofs.Common.{◌≡◌, ℕ, zero, suc, ◌+◌, Bool, true, false, not, List, [], ◌∷◌, map, length, refl, sym, ◌∙◌, ap, subst, Some}
use Rattle.std.specs.Prelude.{nat_eq}
use Rattle.std.proofs.lemmas.Bool.{eqb-true}
use Rattle.tla_meaning.specs.declared.expr.Expr.{Expr}
use Rattle.tla_meaning.specs.declared.op.Op.TheVariants as op
use Rattle.tla_meaning.specs.declared.place.Place.{Place}
use Rattle.tla_meaning.proofs.Views.{and_left, and_right, false≢true}
use Rattle.snowcat_rows.specs.Types.{Term, mean}
use Rattle.snowcat_rows.specs.TypeTexts.{are_distinct}
use Rattle.snowcat_rows.specs.declared.types.Ty.{Ty, out-Ty}
use Rattle.snowcat_types.specs.Judgement.{sight_of}
use Rattle.snowcat_types.specs.Rows.{Context as TypeContext, from_type, sets_of, plain as plain_operand}
use Rattle.snowcat_types.specs.Waiting.{second_literal}
use Rattle.kernel_trees.specs.declared.kernel.Ker.{Ker}
use Rattle.kernel_trees.specs.declared.kernel.KerOp.{KerOp}
use Rattle.kernel_trees.specs.declared.kernel.KerOp.TheVariants as ker
use Rattle.kernel_trees.specs.Trees.{op_of}
use Rattle.kernel_trees.specs.TypeKinds.{Kind, kind_of, is_kind}
use Rattle.kernel_trees.specs.Sound.{Context, row}
use Rattle.kernel_reduction.specs.Infinite.{form_child}
use Rattle.kernel_reduction.specs.Builds.{is_same}
use Rattle.kernel_reduction.specs.BuildsTyped.{is_chosen, is_tuple, is_record}
use Rattle.kernel_reduction.specs.Rows.{type_of}
use Rattle.kernel_reduction.proofs.SoundMade.{same_self}
use Rattle.kernel_reduction.proofs.KindsOf.{Of, AreOf, no_more, and_of, same_of, of_seq}
use Rattle.kernel_reduction.proofs.SameRows.{signature, types_of, direct_row, sets_there}
use Rattle.kernel_reduction.proofs.SoundForms.{AllAt}
use Rattle.kernel_reduction.proofs.BuiltParts.{Met, types_at}
use Rattle.kernel_reduction.proofs.ChoiceRows.{form_of, tuple_form, record_form, field_found, plus_none, at_row, dom_row, plain_types, Tupled, a_sequence, tuple_row, seq_of_row, tup_of_row, rec_of_row, rec_form_row}

from_long : (s : ℕ → Term) (i n : ℕ) → length (from_type s i n) ≡ n
from_long s i zero = refl
from_long s i (suc n) = ap suc (from_long s (i + 1) n)

are_long : (xs : List Term) (as' : List Kind) → AreOf xs as' → length as' ≡ length xs
are_long _ _ no_more = refl
are_long _ _ (and_of x a xs as' h g) = ap suc (are_long xs as' g)

long_map : {X Y : Type 0} (f : X → Y) (xs : List X) → length (map f xs) ≡ length xs
long_map f [] = refl
long_map f (x ∷ xs) = ap suc (long_map f xs)

long_sets : (xs : List Term) → length (types_of (map plain_operand (sets_of xs))) ≡ length xs
long_sets [] = refl
long_sets (x ∷ xs) = ap suc (long_sets xs)

module _ (names : List Kind) where
  -- a tuple, as a tuple or a sequence
  tupled : (g : TypeContext) (p : Place) (es : List Expr) (xs : List (List ℕ)) (b : Bool) (t : Ty)
      (tss : List (List Term)) (h : Met (length names) g p op.Tuple es xs b (mean t) tss) (a : Kind) (as' : List Kind) →
      kind_of t ≡ Some a →
      AreOf (types_of (signature g op.Tuple xs (length es) (types_at h)).operands) as' → Tupled a as'
  tupled g p [] xs b t tss h a _ q no_more =
      let r = of_seq (types_at h 0) a (t, q, h.result) in a_sequence r.0 r.1 refl
  tupled g p (e ∷ es) xs b t tss h a as' q are =
      tuple_row h.sub h.from p (suc (length (map sight_of es))) h.choice.0.0 a as' h.choice.0.1
      (subst (λ z. Of (h.sub.type_of z) a) (plus_none h.from) (t, q, h.result))
      (subst (λ z. AreOf (from_type (types_at h) 2 (suc z)) as') (sym (long_map sight_of es))
      (subst (λ z. AreOf z as') (plain_types (from_type (types_at h) 2 (suc (length es)))) are))

  pub row_of_same : (g : TypeContext) (p : Place) (ko : KerOp) (es : List Expr) (xs : List (List ℕ)) (b : Bool) (t : Ty)
      (tss : List (List Term)) (h : Met (length names) g p (op_of ko) es xs b (mean t) tss) (c : Context) (ks : List Ker)
      (as' : List Kind) (a : Kind) → is_same ko ≡ true → is_chosen ko t ks ≡ true → kind_of t ≡ Some a →
      AreOf (types_of (signature g (op_of ko) xs (length es) (types_at h)).operands) as' →
      AllAt names (λ n. form_child (op_of ko) n b) 0 c as' ks → row ko a as' ≡ true
  row_of_same g p (ker.Const v) es xs b t tss h c ks as' a i ch q are l = absurd (false≢true i)
  row_of_same g p (ker.Name j primed) es xs b t tss h c ks as' a i ch q are l = absurd (false≢true i)
  row_of_same g p (ker.Bound n) es xs b t tss h c ks as' a i ch q are l = absurd (false≢true i)
  row_of_same g p ker.Filter es xs b t tss h c ks as' a i ch q are l = absurd (false≢true i)
  row_of_same g p ker.MapOver es xs b t tss h c ks as' a i ch q are l = absurd (false≢true i)
  row_of_same g p ker.FunOf es xs b t tss h c ks as' a i ch q are l = absurd (false≢true i)
  row_of_same g p ker.Update es xs b t tss h c ks as' a i ch q are l = absurd (false≢true i)
  row_of_same g p (ker.Item n) es xs b t tss h c ks as' a i ch q are l = absurd (false≢true i)
  row_of_same g p ker.FoldLeft es xs b t tss h c ks as' a i ch q are l = absurd (false≢true i)
  row_of_same g p ker.Some es xs b t tss h c ks as' a i ch q are l = absurd (false≢true i)
  row_of_same g p ker.Every es xs b t tss h c ks as' a i ch q are l = absurd (false≢true i)
  row_of_same g p ker.NoCase es xs b t tss h c ks as' a i ch q are l = absurd (false≢true i)
  row_of_same g p ker.At es xs b t tss h c [] _ a i ch q (and_of _ d _ _ hd (and_of _ e _ _ he no_more)) l = absurd l
  row_of_same g p ker.At es xs b t tss h c (k ∷ ks) _ a i ch q (and_of _ d _ _ hd (and_of _ e _ _ he no_more)) l =
      at_row h.sub h.from p (second_literal (map sight_of es)) h.choice.0.0 a d e h.choice.0.1
      (subst (λ z. Of (h.sub.type_of z) d) (plus_none h.from) hd) he (t, q, h.result)
      (λ f. no_truth (is_tuple (out-Ty (type_of k)))
      (and_left (not (is_tuple (out-Ty (type_of k)))) (not (is_record (out-Ty (type_of k)))) ch)
      (tuple_form (out-Ty (type_of k)) (form_of (type_of k) d l.0.0 ∙ f)))
      (λ f. no_truth (is_record (out-Ty (type_of k)))
      (and_right (not (is_tuple (out-Ty (type_of k)))) (not (is_record (out-Ty (type_of k)))) ch)
      (record_form (out-Ty (type_of k)) (form_of (type_of k) d l.0.0 ∙ f)))
    where
      no_truth : (d : Bool) → not d ≡ true → d ≡ true → ⊥
      no_truth true m n = false≢true m
      no_truth false m n = false≢true n
  row_of_same g p ker.Domain es xs b t tss h c ks _ a i ch q (and_of _ d _ _ hd no_more) l =
      dom_row h.sub h.from p h.choice.0.0 a d h.choice.0.1 (subst (λ z. Of (h.sub.type_of z) d) (plus_none h.from) hd)
      (t, q, h.result)
  row_of_same g p ker.TupOf es xs b t tss h c ks as' a i ch q are l =
      tup_of_row t a as' q ch (tupled g p es xs b t tss h a as' q are)
  row_of_same g p ker.SeqOf es xs b t tss h c ks as' a i ch q are l =
      seq_of_row t a as' q ch (tupled g p es xs b t tss h a as' q are)
  row_of_same g p (ker.RecOf ns) es xs b t tss h c ks as' a i ch q are l =
      let ts : List Term = from_type (types_at h) 0 (length es) in
      let are' : AreOf ts as' = subst (λ z. AreOf z as') (plain_types ts) are in
      let m = eqb-true (length ns) (length es) (and_left (nat_eq (length ns) (length es)) (are_distinct ns) h.fine.fields) in
      rec_of_row ns ts a as' (m ∙ sym (from_long (types_at h) 0 (length es))) (are_long ts as' are')
      (and_right (nat_eq (length ns) (length es)) (are_distinct ns) h.fine.fields) are' (t, q, h.result)
  row_of_same g p (ker.RecForm ns) es xs b t tss h c ks as' a i ch q are l =
      let ts : List Term = from_type (types_at h) 0 (length es) in
      let s = sets_there ts as' are in
      let m = eqb-true (length ns) (length es) (and_left (nat_eq (length ns) (length es)) (are_distinct ns) h.fine.fields) in
      rec_form_row ns ts a as' s.0 (m ∙ sym (from_long (types_at h) 0 (length es)))
      (are_long (types_of (map plain_operand (sets_of ts))) as' are ∙ long_sets ts)
      (and_right (nat_eq (length ns) (length es)) (are_distinct ns) h.fine.fields) s.1 s.2 (t, q, h.result)
  row_of_same g p (ker.FieldOf x) es xs b t tss h c ks _ a i ch q (and_of _ d _ _ hd no_more) l =
      let r =
      field_found (h.sub.type_of h.from) (types_at h 1) x d (subst (λ z. Of (h.sub.type_of z) d) (plus_none h.from) hd)
      h.fields.0 in
      (λ j. row (ker.FieldOf x) a (r.1 j ∷ [])) ∙ ap (is_kind a) r.2.1
      ∙ ap (λ z. is_kind a (Some z)) (same_of (types_at h 1) r.2.0 a r.2.2 (t, q, h.result)) ∙ same_self a
  row_of_same g p o es xs b t tss h c ks as' a i ch q are l =
      direct_row o g xs (length es) (types_at h) a as' refl (t, q, h.result) are
