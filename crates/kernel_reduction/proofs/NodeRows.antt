-- Nodes of the operators that the kernel has, too, and of binders: by the types of their children they are sound.
use Rattle.std.proofs.Common.{◌≡◌, ℕ, zero, suc, Bool, true, false, not, ◌&&◌, ◌||◌, List, [], ◌∷◌, length, refl, sym, ◌∙◌, ap, subst, Option, Some, None, arith, if◌then◌else◌}
use Rattle.std.specs.Prelude.{replicate}
use Rattle.tla_meaning.specs.declared.expr.Expr.{Expr}
use Rattle.tla_meaning.specs.declared.op.Op.TheVariants as op
use Rattle.tla_meaning.specs.declared.place.Place.{Place}
use Rattle.tla_meaning.proofs.Views.{and_both, false≢true}
use Rattle.snowcat_rows.specs.Types.{Term, mean, con, StrHead, NamedHead}
use Rattle.snowcat_rows.specs.declared.types.Ty.{Ty}
use Rattle.snowcat_rows.specs.LiteralTypes.{literal_type, type_of_parts, last_of, is_word, is_type_name}
use Rattle.snowcat_types.specs.TypeForms.{bool_type, set_type, seq_type, fun_type}
use Rattle.snowcat_types.specs.Rows.{Context as TypeContext, from_type, sets_of, over, argument_type, first_type, noted_row, gives}
use Rattle.kernel_trees.specs.declared.kernel.Ker.{Ker}
use Rattle.kernel_trees.specs.declared.kernel.KerOp.{KerOp}
use Rattle.kernel_trees.specs.declared.kernel.KerOp.TheVariants as ker
use Rattle.kernel_trees.specs.Trees.{op_of}
use Rattle.kernel_trees.specs.TypeKinds.{Kind, Truth, Word, Set, Fun, kind_of, same}
use Rattle.kernel_trees.specs.Sound as sound
use Rattle.kernel_trees.specs.Sound.{Context, Part, row, plain, binder, binder_row, sound_at, is_literal, argument_kind}
use Rattle.kernel_trees.proofs.SoundTrees.{Child}
use Rattle.kernel_reduction.specs.Infinite.{is_infinite, form_child}
use Rattle.kernel_reduction.specs.Builds.{is_same, is_binder}
use Rattle.kernel_reduction.specs.Rows.{node}
use Rattle.kernel_reduction.proofs.SoundMade.{same_self}
use Rattle.kernel_reduction.proofs.KindsOf.{Of, AreOf, no_more, and_of, same_of, has_str, has_set, has_fun, is_truth, of_seq, IsWord, of_name}
use Rattle.kernel_reduction.proofs.SameRows.{signature, is_direct}
use Rattle.kernel_reduction.proofs.SoundForms.{AllAt, plain_at}
use Rattle.kernel_reduction.proofs.BuiltParts.{Met, all_plain, plain_map}
use Rattle.kernel_reduction.proofs.RowsDone.{argument_done}

-- ---- the same operator

pub same_plain : (names : List Kind) (ko : KerOp) (a : Kind) (ps : List Part) (c : Context) (b : Bool) →
    is_same ko ≡ true → sound_at names ko a [] ps c b ≡ plain ko a c b ps
same_plain names (ker.Const v) a ps c b h = absurd (false≢true h)
same_plain names (ker.Name i primed) a ps c b h = absurd (false≢true h)
same_plain names (ker.Bound n) a ps c b h = absurd (false≢true h)
same_plain names ker.Filter a ps c b h = absurd (false≢true h)
same_plain names ker.MapOver a ps c b h = absurd (false≢true h)
same_plain names ker.Range a ps c b h = absurd (false≢true h)
same_plain names ker.FunOf a ps c b h = absurd (false≢true h)
same_plain names ker.Update a ps c b h = absurd (false≢true h)
same_plain names (ker.Item i) a ps c b h = absurd (false≢true h)
same_plain names ker.FoldLeft a ps c b h = absurd (false≢true h)
same_plain names ker.Some a ps c b h = absurd (false≢true h)
same_plain names ker.Every a ps c b h = absurd (false≢true h)
same_plain names ker.NoCase a ps c b h = absurd (false≢true h)
same_plain names o a ps c b h = refl

pub same_infinite : (ko : KerOp) → is_same ko ≡ true → is_infinite (op_of ko) ≡ sound.is_infinite ko
same_infinite (ker.Const v) h = absurd (false≢true h)
same_infinite o h = refl

pub same_forms : (ko : KerOp) → is_same ko ≡ true → (n : ℕ) (b : Bool) → form_child (op_of ko) n b ≡ sound.form_child ko n b
same_forms (ker.Const v) h n b = absurd (false≢true h)
same_forms ker.Member h zero b = refl
same_forms ker.Member h (suc zero) b = refl
same_forms ker.Member h (suc (suc n)) b = refl
same_forms ker.Included h zero b = refl
same_forms ker.Included h (suc zero) b = refl
same_forms ker.Included h (suc (suc n)) b = refl
same_forms ker.Functions h zero b = refl
same_forms ker.Functions h (suc zero) b = refl
same_forms ker.Functions h (suc (suc n)) b = refl
same_forms o h n b = refl

pub along : (names : List Kind) (f g : ℕ → Bool) → ((n : ℕ) → f n ≡ g n) → (n : ℕ) (c : Context) (as' : List Kind)
    (ks : List Ker) → AllAt names f n c as' ks → AllAt names g n c as' ks
along names f g e n c [] [] h = tt
along names f g e n c [] (k ∷ ks) h = absurd h
along names f g e n c (a ∷ as') [] h = absurd h
along names f g e n c (a ∷ as') (k ∷ ks) h =
    (subst (λ z. Child names c z a k) (e n) h.0, along names f g e (suc n) c as' ks h.1)

tuple_plain : (c : TypeContext) (xs : List (List ℕ)) (n : ℕ) (s : ℕ → Term) →
    all_plain (signature c op.Tuple xs n s).operands ≡ true
tuple_plain c xs zero s = refl
tuple_plain c xs (suc n) s = plain_map (from_type s 3 n)

pub same_operands : (c : TypeContext) (ko : KerOp) (xs : List (List ℕ)) (n : ℕ) (s : ℕ → Term) → is_same ko ≡ true →
    all_plain (signature c (op_of ko) xs n s).operands ≡ true
same_operands c (ker.Const v) xs n s h = absurd (false≢true h)
same_operands c (ker.Name i primed) xs n s h = absurd (false≢true h)
same_operands c (ker.Bound k) xs n s h = absurd (false≢true h)
same_operands c ker.Filter xs n s h = absurd (false≢true h)
same_operands c ker.MapOver xs n s h = absurd (false≢true h)
same_operands c ker.FunOf xs n s h = absurd (false≢true h)
same_operands c ker.Update xs n s h = absurd (false≢true h)
same_operands c ker.FoldLeft xs n s h = absurd (false≢true h)
same_operands c ker.Some xs n s h = absurd (false≢true h)
same_operands c ker.Every xs n s h = absurd (false≢true h)
same_operands c ker.NoCase xs n s h = absurd (false≢true h)
same_operands c ker.And xs n s h = plain_map (replicate n bool_type)
same_operands c ker.Or xs n s h = plain_map (replicate n bool_type)
same_operands c ker.SetOf xs n s h = plain_map (replicate n (s 0))
same_operands c ker.TupOf xs n s h = tuple_plain c xs n s
same_operands c ker.SeqOf xs n s h = tuple_plain c xs n s
same_operands c (ker.RecOf fs) xs n s h = plain_map (from_type s 0 n)
same_operands c (ker.RecForm fs) xs n s h = plain_map (sets_of (from_type s 0 n))
same_operands c ker.TupForm xs n s h = plain_map (sets_of (from_type s 0 n))
same_operands c o xs n s h = refl

module _ (names : List Kind) where
  -- the rows that say all without a choice
  abbrev pub is_simple : KerOp → Bool
  is_simple o = is_same o && is_direct o

  pub same_done : (g : TypeContext) (p : Place) (ko : KerOp) (es : List Expr) (xs : List (List ℕ)) (b : Bool) (t : Ty)
      (tss : List (List Term)) (h : Met (length names) g p (op_of ko) es xs b (mean t) tss) (c : Context) (ks : List Ker)
      (as' : List Kind) (a : Kind) → is_same ko ≡ true → kind_of t ≡ Some a → row ko a as' ≡ true →
      AllAt names (λ n. form_child (op_of ko) n b) 0 c as' ks →
      Child names c b a (node p t ko ks)
  same_done g p ko es xs b t tss h c ks as' a i q r l =
      plain_at names c b p t ko as' ks [] a (same_plain names ko a _ c b i)
      (ap (λ z. not z || b) (sym (same_infinite ko i)) ∙ h.fine.here) q r
      (along names (λ n. form_child (op_of ko) n b) (λ n. sound.form_child ko n b) (λ n. same_forms ko i n b) 0 c as' ks l)

  -- ---- literals

  pub constant_done : (c : Context) (b : Bool) (p : Place) (t : Ty) (v : _) (a : Kind) → kind_of t ≡ Some a →
      row (ker.Const v) a [] ≡ true → Child names c b a (node p t (ker.Const v) [])
  constant_done c b p t v a q r = plain_at names c b p t (ker.Const v) [] [] [] a refl refl q r tt

pub word_of_text : (s : List ℕ) (a : Kind) → Of (literal_type s) a → IsWord a
word_of_text s a h = by (last_of [] s None) h
  where
    str : Of (con StrHead) a → IsWord a
    str h = ([], same_of (con StrHead) a (Word []) h has_str)

    cond : (d : Bool) (x : List ℕ) → Of (if d then con (NamedHead x) else con StrHead) a → IsWord a
    cond true x h = of_name x a h
    cond false x h = str h

    by : (o : Option (List ℕ × List ℕ)) → Of (type_of_parts o) a → IsWord a
    by None h = str h
    by (Some p) h = cond (is_word p.0 && is_type_name p.1) p.1 h

-- ---- binders

-- the type of the body and that of the whole
abbrev pub body_of : KerOp → List (List ℕ) → (ℕ → Term) → Term
body_of ker.MapOver xs s = s (length xs)
body_of ker.FunOf xs s = s (length xs)
body_of o xs s = bool_type

abbrev pub result_of : KerOp → List (List ℕ) → (ℕ → Term) → Term
result_of ker.Filter xs s = set_type (first_type (from_type s 0 (length xs)))
result_of ker.MapOver xs s = set_type (s (length xs))
result_of ker.FunOf xs s = fun_type (argument_type (from_type s 0 (length xs))) (s (length xs))
result_of o xs s = bool_type

pub over_is : (c : TypeContext) (ko : KerOp) (xs : List (List ℕ)) (n : ℕ) (s : ℕ → Term) → is_binder ko ≡ true →
    signature c (op_of ko) xs n s ≡ over xs s (body_of ko xs s) (result_of ko xs s)
over_is c ker.Filter xs n s h = refl
over_is c ker.MapOver xs n s h = refl
over_is c ker.FunOf xs n s h = refl
over_is c ker.Some xs n s h = refl
over_is c ker.Every xs n s h = refl
over_is c o xs n s h = absurd (false≢true h)

pub binder_plain : (names : List Kind) (ko : KerOp) (a : Kind) (ns : List ℕ) (ps : List Part) (c : Context) →
    is_binder ko ≡ true → sound_at names ko a ns ps c false ≡ binder ko a ns c ps
binder_plain names ker.Filter a ns ps c h = refl
binder_plain names ker.MapOver a ns ps c h = refl
binder_plain names ker.FunOf a ns ps c h = refl
binder_plain names ker.Some a ns ps c h = refl
binder_plain names ker.Every a ns ps c h = refl
binder_plain names o a ns ps c h = absurd (false≢true h)

pub no_forms : (ko : KerOp) → is_binder ko ≡ true → (n : ℕ) (b : Bool) → form_child (op_of ko) n b ≡ false
no_forms ker.Filter h n b = refl
no_forms ker.MapOver h n b = refl
no_forms ker.FunOf h n b = refl
no_forms ker.Some h n b = refl
no_forms ker.Every h n b = refl
no_forms o h n b = absurd (false≢true h)

one_set : (xs : List (List ℕ)) (s : ℕ → Term) (ms : List Kind) (a d : Kind) → length xs ≡ 1 →
    AreOf (from_type s 0 (length xs)) ms → Of (set_type (first_type (from_type s 0 (length xs)))) a → d ≡ Truth →
    binder_row ker.Filter a ms d ≡ true
one_set [] s ms a d l h g e = absurd (uneven 0 l)
  where
    uneven : (n : ℕ) → n ≡ suc n → ⊥
    uneven n e = omega (arith, e)
one_set (x ∷ y ∷ xs) s ms a d l h g e = absurd (uneven (length xs) l)
  where
    uneven : (n : ℕ) → suc (suc n) ≡ 1 → ⊥
    uneven n e = omega (arith, e)
one_set (x ∷ []) s _ a d l (and_of _ b _ _ h no_more) g e =
    (λ i. binder_row ker.Filter (same_of (set_type (s 0)) a (Set b) g (has_set (s 0) b h) i) (b ∷ []) (e i))
    ∙ same_self b

pub row_of_binder : (names : List Kind) (ko : KerOp) (xs : List (List ℕ)) (s : ℕ → Term) (ms : List Kind) (a d : Kind) →
    is_binder ko ≡ true → (ko ≡ ker.Filter → length xs ≡ 1) → AreOf (from_type s 0 (length xs)) ms →
    Of (result_of ko xs s) a → Of (body_of ko xs s) d → binder_row ko a ms d ≡ true
row_of_binder names ker.Some xs s ms a d i l h g k = λ j. binder_row ker.Some (is_truth a g j) ms (is_truth d k j)
row_of_binder names ker.Every xs s ms a d i l h g k = λ j. binder_row ker.Every (is_truth a g j) ms (is_truth d k j)
row_of_binder names ker.Filter xs s ms a d i l h g k = one_set xs s ms a d (l refl) h g (is_truth d k)
row_of_binder names ker.MapOver xs s ms a d i l h g k =
    ap (λ z. binder_row ker.MapOver z ms d) (same_of (set_type (s (length xs))) a (Set d) g (has_set (s (length xs)) d k))
    ∙ same_self d
row_of_binder names ker.FunOf xs s ms a d i l h g k =
    let y = argument_done names (from_type s 0 (length xs)) ms h in
    ap (λ z. binder_row ker.FunOf z ms d)
    (same_of (fun_type (argument_type (from_type s 0 (length xs))) (s (length xs))) a (Fun (argument_kind ms) d) g
    (has_fun (argument_type (from_type s 0 (length xs))) (s (length xs)) (argument_kind ms) d y k))
    ∙ and_both (same (argument_kind ms) (argument_kind ms)) (same d d) (same_self (argument_kind ms)) (same_self d)
row_of_binder names o xs s ms a d i l h g k = absurd (false≢true i)

-- ---- folds

pub two_kinds : (x y : Term) (as' : List Kind) → AreOf (x ∷ x ∷ seq_type y ∷ []) as' →
    (a : Kind) × (b : Kind) × Of x a × Of y b
two_kinds x y _ (and_of _ a _ _ h (and_of _ b _ _ g (and_of _ d _ _ k no_more))) =
    let r = of_seq y d k in (a, r.0, h, r.2)

-- ---- notes

pub noted_says : (o : Option Term) (s : ℕ → Term) → (y : Term) × ((noted_row o).says s ≡ gives (y ∷ []) y)
noted_says None s = (s 0, refl)
noted_says (Some t) s = (t, refl)
