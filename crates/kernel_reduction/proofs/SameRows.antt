-- The rows of operators that the kernel has, too: where the types of a node and of its children meet the row of the type
-- table, their kinds meet that of the kernel's.
use Rattle.std.proofs.Common.{◌≡◌, ℕ, zero, suc, Bool, true, false, ◌&&◌, List, [], ◌∷◌, map, refl, ◌∙◌, ap, Some}
use Rattle.std.specs.Prelude.{replicate, option_map}
use Rattle.tla_meaning.proofs.Views.{and_both, false≢true}
use Rattle.tla_meaning.specs.declared.op.Op.{Op}
use Rattle.snowcat_rows.specs.Types.{Term}
use Rattle.snowcat_types.specs.TypeForms.{bool_type, int_type, str_type, set_type, seq_type, fun_type, tuple_type}
use Rattle.snowcat_types.specs.Rows.{Operand, Signature, Context, row_of, from_type, sets_of, plain as plain_operand}
use Rattle.kernel_trees.specs.declared.kernel.KerOp.{KerOp}
use Rattle.kernel_trees.specs.declared.kernel.KerOp.TheVariants as ker
use Rattle.kernel_trees.specs.Trees.{op_of}
use Rattle.kernel_trees.specs.TypeKinds.{Kind, Truth, Number, Word, Set, Seq, Fun, Tup, kinds, same, all_same, each_is, members}
use Rattle.kernel_trees.specs.Sound.{row, passes}
use Rattle.kernel_reduction.proofs.SoundMade.{same_self, all_self}
use Rattle.kernel_reduction.proofs.KindsOf.{Of, AreOf, no_more, and_of, same_of, has_bool, has_int, has_str, has_set, has_seq, has_fun, is_truth, is_number, of_set, of_seq, of_fun, has_tuple}

abbrev pub signature : Context → Op → List (List ℕ) → ℕ → (ℕ → Term) → Signature
signature c o xs n a = (row_of c o xs n).says a

abbrev pub types_of : List Operand → List Term
types_of os = map (λ o. o.type) os

-- rows that say all without a choice
abbrev pub is_direct : KerOp → Bool
is_direct ker.And = true
is_direct ker.Or = true
is_direct ker.Not = true
is_direct ker.If = true
is_direct ker.Equal = true
is_direct ker.Less = true
is_direct ker.Plus = true
is_direct ker.Minus = true
is_direct ker.Times = true
is_direct ker.Quotient = true
is_direct ker.Remainder = true
is_direct ker.SetOf = true
is_direct ker.Member = true
is_direct ker.Included = true
is_direct ker.Flatten = true
is_direct ker.Union = true
is_direct ker.Inter = true
is_direct ker.Without = true
is_direct ker.Subsets = true
is_direct ker.Functions = true
is_direct ker.Count = true
is_direct ker.Join = true
is_direct ker.Length = true
is_direct ker.Push = true
is_direct ker.First = true
is_direct ker.Rest = true
is_direct ker.Slice = true
is_direct ker.Glue = true
is_direct ker.IntForm = true
is_direct ker.NatForm = true
is_direct ker.TextForm = true
is_direct ker.SeqForm = true
is_direct ker.TupForm = true
is_direct ker.Range = true
is_direct o = false

both_self : (a b : Kind) → (same a a && same b b) ≡ true
both_self a b = and_both (same a a) (same b b) (same_self a) (same_self b)

pub each_same : (n : ℕ) (x : Term) (a : Kind) (as' : List Kind) → Of x a →
    AreOf (types_of (map plain_operand (replicate n x))) as' → each_is a as' ≡ true
each_same zero x a _ h no_more = refl
each_same (suc n) x a _ h (and_of _ b _ as' g r) =
    and_both (same a b) (each_is a as') (ap (same a) (same_of x b a g h) ∙ same_self a) (each_same n x a as' h r)

pub sets_there : (xs : List Term) (as' : List Kind) →
    AreOf (types_of (map plain_operand (sets_of xs))) as' →
    (ms : List Kind) × AreOf xs ms × (members as' ≡ Some ms)
sets_there [] _ no_more = ([], no_more, refl)
sets_there (x ∷ xs) _ (and_of _ a _ as' h g) =
    let s = of_set x a h in
    let r = sets_there xs as' g in (
      s.0 ∷ r.0,
      and_of x s.0 xs r.0 s.2 r.1,
      (λ i. members (s.1 i ∷ as')) ∙ ap (option_map (λ bs. s.0 ∷ bs)) r.2,
    )

pub direct_row : (ko : KerOp) (c : Context) (xs : List (List ℕ)) (n : ℕ) (s : ℕ → Term) (a : Kind) (as' : List Kind) →
    is_direct ko ≡ true → Of (signature c (op_of ko) xs n s).result a →
    AreOf (types_of (signature c (op_of ko) xs n s).operands) as' → row ko a as' ≡ true
direct_row ker.And c xs n s a as' d h g =
    ap (λ z. row ker.And z as') (is_truth a h) ∙ each_same n bool_type Truth as' has_bool g
direct_row ker.Or c xs n s a as' d h g =
    ap (λ z. row ker.Or z as') (is_truth a h) ∙ each_same n bool_type Truth as' has_bool g
direct_row ker.Not c xs n s a _ d h (and_of _ b _ _ g no_more) =
    λ i. row ker.Not (is_truth a h i) (is_truth b g i ∷ [])
direct_row ker.If c xs n s a _ d h (and_of _ b _ _ g (and_of _ e _ _ k (and_of _ f _ _ l no_more))) =
    (λ i. row ker.If a (is_truth b g i ∷ same_of (s 0) e a k h i ∷ same_of (s 0) f a l h i ∷ [])) ∙ both_self a a
direct_row ker.Equal c xs n s a _ d h (and_of _ b _ _ g (and_of _ e _ _ k no_more)) =
    (λ i. row ker.Equal (is_truth a h i) (b ∷ same_of (s 0) e b k g i ∷ [])) ∙ same_self b
direct_row ker.Less c xs n s a _ d h (and_of _ b _ _ g (and_of _ e _ _ k no_more)) =
    λ i. row ker.Less (is_truth a h i) (is_number b g i ∷ is_number e k i ∷ [])
direct_row ker.Plus c xs n s a _ d h (and_of _ b _ _ g (and_of _ e _ _ k no_more)) =
    λ i. row ker.Plus (is_number a h i) (is_number b g i ∷ is_number e k i ∷ [])
direct_row ker.Minus c xs n s a _ d h (and_of _ b _ _ g (and_of _ e _ _ k no_more)) =
    λ i. row ker.Minus (is_number a h i) (is_number b g i ∷ is_number e k i ∷ [])
direct_row ker.Times c xs n s a _ d h (and_of _ b _ _ g (and_of _ e _ _ k no_more)) =
    λ i. row ker.Times (is_number a h i) (is_number b g i ∷ is_number e k i ∷ [])
direct_row ker.Quotient c xs n s a _ d h (and_of _ b _ _ g (and_of _ e _ _ k no_more)) =
    λ i. row ker.Quotient (is_number a h i) (is_number b g i ∷ is_number e k i ∷ [])
direct_row ker.Remainder c xs n s a _ d h (and_of _ b _ _ g (and_of _ e _ _ k no_more)) =
    λ i. row ker.Remainder (is_number a h i) (is_number b g i ∷ is_number e k i ∷ [])
direct_row ker.SetOf c xs n s a as' d h g =
    let r = of_set (s 0) a h in
    ap (λ z. row ker.SetOf z as') r.1 ∙ each_same n (s 0) r.0 as' r.2 g
direct_row ker.Member c xs n s a _ d h (and_of _ b _ _ g (and_of _ e _ _ k no_more)) =
    (λ i. row ker.Member (is_truth a h i) (b ∷ same_of (set_type (s 0)) e (Set b) k (has_set (s 0) b g) i ∷ []))
    ∙ same_self b
direct_row ker.Included c xs n s a _ d h (and_of _ b _ _ g (and_of _ e _ _ k no_more)) =
    let r = of_set (s 0) b g in
    (λ i. row ker.Included (is_truth a h i)
    (r.1 i ∷ same_of (set_type (s 0)) e (Set r.0) k (has_set (s 0) r.0 r.2) i ∷ [])) ∙ same_self r.0
direct_row ker.Flatten c xs n s a _ d h (and_of _ b _ _ g no_more) =
    let r = of_set (s 0) a h in
    (λ i. row ker.Flatten (r.1 i)
    (same_of (set_type (set_type (s 0))) b (Set (Set r.0)) g (has_set (set_type (s 0)) (Set r.0) (has_set (s 0) r.0 r.2)) i ∷ []))
    ∙ same_self r.0
direct_row ker.Union c xs n s a _ d h (and_of _ b _ _ g (and_of _ e _ _ k no_more)) =
    let r = of_set (s 0) a h in
    let y = has_set (s 0) r.0 r.2 in
    (λ i. row ker.Union (r.1 i) (same_of (set_type (s 0)) b (Set r.0) g y i ∷ same_of (set_type (s 0)) e (Set r.0) k y i ∷ []))
    ∙ both_self r.0 r.0
direct_row ker.Inter c xs n s a _ d h (and_of _ b _ _ g (and_of _ e _ _ k no_more)) =
    let r = of_set (s 0) a h in
    let y = has_set (s 0) r.0 r.2 in
    (λ i. row ker.Inter (r.1 i) (same_of (set_type (s 0)) b (Set r.0) g y i ∷ same_of (set_type (s 0)) e (Set r.0) k y i ∷ []))
    ∙ both_self r.0 r.0
direct_row ker.Without c xs n s a _ d h (and_of _ b _ _ g (and_of _ e _ _ k no_more)) =
    let r = of_set (s 0) a h in
    let y = has_set (s 0) r.0 r.2 in
    (λ i. row ker.Without (r.1 i)
    (same_of (set_type (s 0)) b (Set r.0) g y i ∷ same_of (set_type (s 0)) e (Set r.0) k y i ∷ []))
    ∙ both_self r.0 r.0
direct_row ker.Range c xs n s a _ d h (and_of _ b _ _ g (and_of _ e _ _ k no_more)) =
    λ i. row ker.Range (same_of (set_type int_type) a (Set Number) h (has_set int_type Number has_int) i)
    (is_number b g i ∷ is_number e k i ∷ [])
direct_row ker.Subsets c xs n s a _ d h (and_of _ b _ _ g no_more) =
    let r = of_set (s 0) b g in
    (λ i. row ker.Subsets
    (same_of (set_type (set_type (s 0))) a (Set (Set r.0)) h (has_set (set_type (s 0)) (Set r.0) (has_set (s 0) r.0 r.2)) i)
    (r.1 i ∷ [])) ∙ same_self r.0
direct_row ker.Functions c xs n s a _ d h (and_of _ b _ _ g (and_of _ e _ _ k no_more)) =
    let r = of_set (s 0) b g in
    let q = of_set (s 1) e k in
    (λ i. row ker.Functions
    (same_of (set_type (fun_type (s 0) (s 1))) a (Set (Fun r.0 q.0)) h
    (has_set (fun_type (s 0) (s 1)) (Fun r.0 q.0) (has_fun (s 0) (s 1) r.0 q.0 r.2 q.2)) i) (r.1 i ∷ q.1 i ∷ []))
    ∙ both_self r.0 q.0
direct_row ker.Count c xs n s a _ d h (and_of _ b _ _ g no_more) =
    let r = of_set (s 0) b g in
    λ i. row ker.Count (is_number a h i) (r.1 i ∷ [])
direct_row ker.Join c xs n s a _ d h (and_of _ b _ _ g (and_of _ e _ _ k no_more)) =
    let r = of_fun (s 0) (s 1) a h in
    let y = has_fun (s 0) (s 1) r.0 r.1 r.3 r.4 in
    (λ i. row ker.Join (r.2 i)
    (same_of (fun_type (s 0) (s 1)) b (Fun r.0 r.1) g y i ∷ same_of (fun_type (s 0) (s 1)) e (Fun r.0 r.1) k y i ∷ []))
    ∙ and_both (same r.0 r.0 && same r.1 r.1) (same r.0 r.0 && same r.1 r.1) (both_self r.0 r.1) (both_self r.0 r.1)
direct_row ker.Length c xs n s a _ d h (and_of _ b _ _ g no_more) =
    let r = of_seq (s 0) b g in
    λ i. row ker.Length (is_number a h i) (r.1 i ∷ [])
direct_row ker.Push c xs n s a _ d h (and_of _ b _ _ g (and_of _ e _ _ k no_more)) =
    let y = has_seq (s 0) e k in
    (λ i. row ker.Push (same_of (seq_type (s 0)) a (Seq e) h y i) (same_of (seq_type (s 0)) b (Seq e) g y i ∷ e ∷ []))
    ∙ both_self e e
direct_row ker.First c xs n s a _ d h (and_of _ b _ _ g no_more) =
    (λ i. row ker.First a (same_of (seq_type (s 0)) b (Seq a) g (has_seq (s 0) a h) i ∷ [])) ∙ same_self a
direct_row ker.Rest c xs n s a _ d h (and_of _ b _ _ g no_more) =
    let r = of_seq (s 0) a h in
    let y = has_seq (s 0) r.0 r.2 in
    (λ i. row ker.Rest (r.1 i) (same_of (seq_type (s 0)) b (Seq r.0) g y i ∷ [])) ∙ same_self r.0
direct_row ker.Slice c xs n s a _ d h (and_of _ b _ _ g (and_of _ e _ _ k (and_of _ f _ _ l no_more))) =
    let r = of_seq (s 0) a h in
    let y = has_seq (s 0) r.0 r.2 in
    (λ i. row ker.Slice (r.1 i)
    (same_of (seq_type (s 0)) b (Seq r.0) g y i ∷ is_number e k i ∷ is_number f l i ∷ [])) ∙ same_self r.0
direct_row ker.Glue c xs n s a _ d h (and_of _ b _ _ g (and_of _ e _ _ k no_more)) =
    let r = of_seq (s 0) a h in
    let y = has_seq (s 0) r.0 r.2 in
    (λ i. row ker.Glue (r.1 i) (same_of (seq_type (s 0)) b (Seq r.0) g y i ∷ same_of (seq_type (s 0)) e (Seq r.0) k y i ∷ []))
    ∙ both_self r.0 r.0
direct_row ker.IntForm c xs n s a _ d h no_more =
    λ i. row ker.IntForm (same_of (set_type int_type) a (Set Number) h (has_set int_type Number has_int) i) []
direct_row ker.NatForm c xs n s a _ d h no_more =
    λ i. row ker.NatForm (same_of (set_type int_type) a (Set Number) h (has_set int_type Number has_int) i) []
direct_row ker.TextForm c xs n s a _ d h no_more =
    λ i. row ker.TextForm (same_of (set_type str_type) a (Set (Word [])) h (has_set str_type (Word []) has_str) i) []
direct_row ker.SeqForm c xs n s a _ d h (and_of _ b _ _ g no_more) =
    let r = of_set (s 0) b g in
    (λ i. row ker.SeqForm
    (same_of (set_type (seq_type (s 0))) a (Set (Seq r.0)) h (has_set (seq_type (s 0)) (Seq r.0) (has_seq (s 0) r.0 r.2)) i)
    (r.1 i ∷ [])) ∙ same_self r.0
direct_row ker.TupForm c xs n s a as' d h g =
    let ts : List Term = from_type s 0 n in
    let r = sets_there ts as' g in
    (λ i. row ker.TupForm (same_of (set_type (tuple_type ts)) a (Set (Tup (kinds r.0))) h
    (has_set (tuple_type ts) (Tup (kinds r.0)) (has_tuple ts r.0 r.1)) i) as')
    ∙ ap (passes (λ ms. all_same (kinds r.0) (kinds ms))) r.2 ∙ all_self (kinds r.0)
direct_row o c xs n s a as' d h g = absurd (false≢true d)
