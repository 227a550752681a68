-- The table of types, as one case for each of its rows.
use Rattle.std.proofs.Common.{◌≡◌, ℕ, suc, Bool, true, ◌&&◌, arith, List, [], ◌∷◌, map, zip, length, refl, sym, ◌∙◌, ap, subst, Option, Some, None, option_map}
use Rattle.std.specs.Prelude.{◌==◌}
use Rattle.tla_values.specs.declared.value.Value.{Value, out-Value}
use Rattle.tla_meaning.proofs.Laws.{none≢some}
use Rattle.tla_meaning.proofs.Views.{and_left, and_right, false≢true}
use Rattle.kernel_trees.specs.declared.kernel.KerOp.{KerOp}
use Rattle.kernel_trees.specs.declared.kernel.KerOp.TheVariants as ker
use Rattle.kernel_trees.specs.TypeKinds.{Kind, Truth, Number, Word, Set, Seq, Fun, Tup, Rec, Kinds, Fields, kinds, fields, is_kind, same, all_same, fields_same, each_is, item_kind, field_kind, members}
use Rattle.kernel_trees.specs.Sound.{passes, argument_kind, is_literal, binder_row, row}
use Rattle.kernel_trees.proofs.TypeLaws.{same_is, all_same_is, fields_same_is}

-- each of the kinds is this one
abbrev pub AreAll : Kind → List Kind → Type 0
AreAll a [] = Unit {0}
AreAll a (b ∷ bs) = (b ≡ a) × AreAll a bs

-- the kind of a node that binds nothing, and those of its children
pub data Row : KerOp → Kind → List Kind → Type 0 where
  row_const : (v : Value) (a : Kind) → is_literal a (out-Value v) ≡ true → Row (ker.Const v) a []
  row_and : (ks : List Kind) → AreAll Truth ks → Row ker.And Truth ks
  row_or : (ks : List Kind) → AreAll Truth ks → Row ker.Or Truth ks
  row_not : Row ker.Not Truth (Truth ∷ [])
  row_if : (a : Kind) → Row ker.If a (Truth ∷ a ∷ a ∷ [])
  row_equal : (a : Kind) → Row ker.Equal Truth (a ∷ a ∷ [])
  row_less : Row ker.Less Truth (Number ∷ Number ∷ [])
  row_plus : Row ker.Plus Number (Number ∷ Number ∷ [])
  row_minus : Row ker.Minus Number (Number ∷ Number ∷ [])
  row_times : Row ker.Times Number (Number ∷ Number ∷ [])
  row_quotient : Row ker.Quotient Number (Number ∷ Number ∷ [])
  row_remainder : Row ker.Remainder Number (Number ∷ Number ∷ [])
  row_set : (a : Kind) (ks : List Kind) → AreAll a ks → Row ker.SetOf (Set a) ks
  row_member : (a : Kind) → Row ker.Member Truth (a ∷ Set a ∷ [])
  row_included : (a : Kind) → Row ker.Included Truth (Set a ∷ Set a ∷ [])
  row_flatten : (a : Kind) → Row ker.Flatten (Set a) (Set (Set a) ∷ [])
  row_union : (a : Kind) → Row ker.Union (Set a) (Set a ∷ Set a ∷ [])
  row_inter : (a : Kind) → Row ker.Inter (Set a) (Set a ∷ Set a ∷ [])
  row_without : (a : Kind) → Row ker.Without (Set a) (Set a ∷ Set a ∷ [])
  row_range : Row ker.Range (Set Number) (Number ∷ Number ∷ [])
  row_subsets : (a : Kind) → Row ker.Subsets (Set (Set a)) (Set a ∷ [])
  row_functions : (a b : Kind) → Row ker.Functions (Set (Fun a b)) (Set a ∷ Set b ∷ [])
  row_count : (a : Kind) → Row ker.Count Number (Set a ∷ [])
  row_at : (a b : Kind) → Row ker.At b (Fun a b ∷ a ∷ [])
  row_at_number : (b : Kind) → Row ker.At b (Seq b ∷ Number ∷ [])
  row_domain : (a b : Kind) → Row ker.Domain (Set a) (Fun a b ∷ [])
  row_domain_sequence : (a : Kind) → Row ker.Domain (Set Number) (Seq a ∷ [])
  row_domain_tuple : (as' : Kinds) → Row ker.Domain (Set Number) (Tup as' ∷ [])
  row_domain_record : (fs : Fields) → Row ker.Domain (Set (Word [])) (Rec fs ∷ [])
  row_join : (a b : Kind) → Row ker.Join (Fun a b) (Fun a b ∷ Fun a b ∷ [])
  row_tuple : (ks : List Kind) → Row ker.TupOf (Tup (kinds ks)) ks
  row_item : (i : ℕ) (a : Kind) (as' : Kinds) → item_kind as' i ≡ Some a → Row (ker.Item i) a (Tup as' ∷ [])
  row_record : (names : List (List ℕ)) (ks : List Kind) → length names ≡ length ks →
      Row (ker.RecOf names) (Rec (fields (zip names ks))) ks
  row_field : (x : List ℕ) (a : Kind) (fs : Fields) → field_kind fs x ≡ Some a → Row (ker.FieldOf x) a (Rec fs ∷ [])
  row_sequence : (a : Kind) (ks : List Kind) → AreAll a ks → Row ker.SeqOf (Seq a) ks
  row_length : (a : Kind) → Row ker.Length Number (Seq a ∷ [])
  row_push : (a : Kind) → Row ker.Push (Seq a) (Seq a ∷ a ∷ [])
  row_first : (a : Kind) → Row ker.First a (Seq a ∷ [])
  row_rest : (a : Kind) → Row ker.Rest (Seq a) (Seq a ∷ [])
  row_slice : (a : Kind) → Row ker.Slice (Seq a) (Seq a ∷ Number ∷ Number ∷ [])
  row_glue : (a : Kind) → Row ker.Glue (Seq a) (Seq a ∷ Seq a ∷ [])
  row_nocase : (a : Kind) → Row ker.NoCase a []
  row_ints : Row ker.IntForm (Set Number) []
  row_nats : Row ker.NatForm (Set Number) []
  row_texts : Row ker.TextForm (Set (Word [])) []
  row_sequences : (a : Kind) → Row ker.SeqForm (Set (Seq a)) (Set a ∷ [])
  row_tuples : (ms : List Kind) → Row ker.TupForm (Set (Tup (kinds ms))) (map Set ms)
  row_records : (names : List (List ℕ)) (ms : List Kind) → length names ≡ length ms →
      Row (ker.RecForm names) (Set (Rec (fields (zip names ms)))) (map Set ms)

-- ---- from the test

are_all : (a : Kind) (bs : List Kind) → each_is a bs ≡ true → AreAll a bs
are_all a [] h = tt
are_all a (b ∷ bs) h = (sym (same_is a b (and_left (same a b) (each_is a bs) h)), are_all a bs (and_right (same a b) (each_is a bs) h))

-- one kind, and two, for one
with_one : (P : Kind → Type 0) (a b : Kind) → same a b ≡ true → P a → P b
with_one P a b h x = subst P (same_is a b h) x

with_two : (P : Kind → Kind → Type 0) (a b c : Kind) → (same a b && same a c) ≡ true → P a a → P b c
with_two P a b c h x =
    with_one (λ z. P b z) a c (and_right (same a b) (same a c) h) (with_one (λ z. P z a) a b (and_left (same a b) (same a c) h) x)

-- two kinds for two
with_pair : (P : Kind → Kind → Type 0) (a b c d : Kind) → (same a c && same b d) ≡ true → P a b → P c d
with_pair P a b c d h x =
    with_one (λ z. P c z) b d (and_right (same a c) (same b d) h) (with_one (λ z. P z b) a c (and_left (same a c) (same b d) h) x)

pub found : (a : Kind) (o : Option Kind) → is_kind a o ≡ true → o ≡ Some a
found a None h = absurd (false≢true h)
found a (Some b) h = ap Some (sym (same_is a b h))

join_row : (a b c d e f : Kind) → ((same a c && same b d) && (same a e && same b f)) ≡ true → Row ker.Join (Fun a b) (Fun c d ∷ Fun e f ∷ [])
join_row a b c d e f h =
    with_pair (λ x y. Row ker.Join (Fun a b) (Fun c d ∷ Fun x y ∷ [])) a b e f (and_right (same a c && same b d) (same a e && same b f) h)
    (with_pair (λ x y. Row ker.Join (Fun a b) (Fun x y ∷ Fun a b ∷ [])) a b c d (and_left (same a c && same b d) (same a e && same b f) h) (row_join a b))

tuple_row : (as' : Kinds) (ks : List Kind) → all_same as' (kinds ks) ≡ true → Row ker.TupOf (Tup as') ks
tuple_row as' ks h = subst (λ l. Row ker.TupOf (Tup l) ks) (sym (all_same_is as' (kinds ks) h)) (row_tuple ks)

same_length : (m n : ℕ) → (m == n) ≡ true → m ≡ n
same_length m n h = grind (arith, h)

record_row : (names : List (List ℕ)) (fs : Fields) (ks : List Kind) → ((length names == length ks) && fields_same fs (fields (zip names ks))) ≡ true →
    Row (ker.RecOf names) (Rec fs) ks
record_row names fs ks h =
    let e : Bool = length names == length ks in
    let g : Bool = fields_same fs (fields (zip names ks)) in
    subst (λ l. Row (ker.RecOf names) (Rec l) ks) (sym (fields_same_is fs (fields (zip names ks)) (and_right e g h)))
    (row_record names ks (same_length (length names) (length ks) (and_left e g h)))

-- sets, by their members
abbrev pub AreSets : List Kind → List Kind → Type 0
AreSets as' ms = as' ≡ map Set ms

some_same : {X : Type 0} {x y : X} → Some x ≡ Some y → x ≡ y
some_same e = cc

sets_more : (a : Kind) (as' : List Kind) (o : Option (List Kind)) (ms : List Kind) → ((ns : List Kind) → o ≡ Some ns → AreSets as' ns) →
    option_map (λ bs. a ∷ bs) o ≡ Some ms → AreSets (Set a ∷ as') ms
sets_more a as' None ms h q = absurd (none≢some q)
sets_more a as' (Some ns) ms h q =
    subst (AreSets (Set a ∷ as')) (some_same q) (ap (λ l. Set a ∷ l) (h ns refl))

pub sets_of : (as' ms : List Kind) → members as' ≡ Some ms → AreSets as' ms
sets_of [] ms q = subst (AreSets []) (some_same q) refl
sets_of (Set a ∷ as') ms q = sets_more a as' (members as') ms (sets_of as') q
sets_of (a ∷ as') ms q = absurd (none≢some q)

tuples_row : (as' : Kinds) (ks : List Kind) (o : Option (List Kind)) → members ks ≡ o → passes (λ ms. all_same as' (kinds ms)) o ≡ true →
    Row ker.TupForm (Set (Tup as')) ks
tuples_row as' ks None q h = absurd (false≢true h)
tuples_row as' ks (Some ms) q h =
    subst (λ l. Row ker.TupForm (Set (Tup as')) l) (sym (sets_of ks ms q))
    (subst (λ l. Row ker.TupForm (Set (Tup l)) (map Set ms)) (sym (all_same_is as' (kinds ms) h)) (row_tuples ms))

set_lengths : (ks ms : List Kind) → AreSets ks ms → length ks ≡ length ms
set_lengths ks ms e = ap length e ∙ lengths ms
  where
    lengths : (ms : List Kind) → length (map Set ms) ≡ length ms
    lengths [] = refl
    lengths (m ∷ ms) = ap (λ n. suc n) (lengths ms)

records_row : (names : List (List ℕ)) (fs : Fields) (ks : List Kind) (o : Option (List Kind)) → members ks ≡ o →
    ((length names == length ks) && passes (λ ms. fields_same fs (fields (zip names ms))) o) ≡ true → Row (ker.RecForm names) (Set (Rec fs)) ks
records_row names fs ks None q h = absurd (false≢true (and_right (length names == length ks) _ h))
records_row names fs ks (Some ms) q h =
    let e : Bool = length names == length ks in
    let g : Bool = fields_same fs (fields (zip names ms)) in
    subst (λ l. Row (ker.RecForm names) (Set (Rec fs)) l) (sym (sets_of ks ms q))
    (subst (λ l. Row (ker.RecForm names) (Set (Rec l)) (map Set ms)) (sym (fields_same_is fs (fields (zip names ms)) (and_right e g h)))
    (row_records names ms (same_length (length names) (length ks) (and_left e g h) ∙ set_lengths ks ms (sets_of ks ms q))))

pub row_is : (o : KerOp) (a : Kind) (ks : List Kind) → row o a ks ≡ true → Row o a ks
row_is (ker.Const v) a [] h = row_const v a h
row_is ker.And Truth ks h = row_and ks (are_all Truth ks h)
row_is ker.Or Truth ks h = row_or ks (are_all Truth ks h)
row_is ker.Not Truth (Truth ∷ []) h = row_not
row_is ker.If a (Truth ∷ b ∷ c ∷ []) h = with_two (λ x y. Row ker.If a (Truth ∷ x ∷ y ∷ [])) a b c h (row_if a)
row_is ker.Equal Truth (a ∷ b ∷ []) h = with_one (λ x. Row ker.Equal Truth (a ∷ x ∷ [])) a b h (row_equal a)
row_is ker.Less Truth (Number ∷ Number ∷ []) h = row_less
row_is ker.Plus Number (Number ∷ Number ∷ []) h = row_plus
row_is ker.Minus Number (Number ∷ Number ∷ []) h = row_minus
row_is ker.Times Number (Number ∷ Number ∷ []) h = row_times
row_is ker.Quotient Number (Number ∷ Number ∷ []) h = row_quotient
row_is ker.Remainder Number (Number ∷ Number ∷ []) h = row_remainder
row_is ker.SetOf (Set a) ks h = row_set a ks (are_all a ks h)
row_is ker.Member Truth (a ∷ Set b ∷ []) h = with_one (λ x. Row ker.Member Truth (a ∷ Set x ∷ [])) a b h (row_member a)
row_is ker.Included Truth (Set a ∷ Set b ∷ []) h = with_one (λ x. Row ker.Included Truth (Set a ∷ Set x ∷ [])) a b h (row_included a)
row_is ker.Flatten (Set a) (Set (Set b) ∷ []) h = with_one (λ x. Row ker.Flatten (Set a) (Set (Set x) ∷ [])) a b h (row_flatten a)
row_is ker.Union (Set a) (Set b ∷ Set c ∷ []) h = with_two (λ x y. Row ker.Union (Set a) (Set x ∷ Set y ∷ [])) a b c h (row_union a)
row_is ker.Inter (Set a) (Set b ∷ Set c ∷ []) h = with_two (λ x y. Row ker.Inter (Set a) (Set x ∷ Set y ∷ [])) a b c h (row_inter a)
row_is ker.Without (Set a) (Set b ∷ Set c ∷ []) h = with_two (λ x y. Row ker.Without (Set a) (Set x ∷ Set y ∷ [])) a b c h (row_without a)
row_is ker.Range (Set Number) (Number ∷ Number ∷ []) h = row_range
row_is ker.Subsets (Set (Set a)) (Set b ∷ []) h = with_one (λ x. Row ker.Subsets (Set (Set a)) (Set x ∷ [])) a b h (row_subsets a)
row_is ker.Functions (Set (Fun a b)) (Set c ∷ Set d ∷ []) h =
    with_pair (λ x y. Row ker.Functions (Set (Fun a b)) (Set x ∷ Set y ∷ [])) a b c d h (row_functions a b)
row_is ker.Count Number (Set a ∷ []) h = row_count a
row_is ker.At b (Fun a c ∷ x ∷ []) h = with_pair (λ y z. Row ker.At b (Fun a z ∷ y ∷ [])) a b x c h (row_at a b)
row_is ker.At b (Seq c ∷ Number ∷ []) h = with_one (λ x. Row ker.At b (Seq x ∷ Number ∷ [])) b c h (row_at_number b)
row_is ker.Domain (Set a) (Fun b c ∷ []) h = with_one (λ x. Row ker.Domain (Set a) (Fun x c ∷ [])) a b h (row_domain a c)
row_is ker.Domain (Set Number) (Seq b ∷ []) h = row_domain_sequence b
row_is ker.Domain (Set Number) (Tup bs ∷ []) h = row_domain_tuple bs
row_is ker.Domain (Set (Word [])) (Rec bs ∷ []) h = row_domain_record bs
row_is ker.Join (Fun a b) (Fun c d ∷ Fun e f ∷ []) h = join_row a b c d e f h
row_is ker.TupOf (Tup as') ks h = tuple_row as' ks h
row_is (ker.Item i) a (Tup bs ∷ []) h = row_item i a bs (found a (item_kind bs i) h)
row_is (ker.RecOf names) (Rec fs) ks h = record_row names fs ks h
row_is (ker.FieldOf x) a (Rec fs ∷ []) h = row_field x a fs (found a (field_kind fs x) h)
row_is ker.SeqOf (Seq a) ks h = row_sequence a ks (are_all a ks h)
row_is ker.Length Number (Seq a ∷ []) h = row_length a
row_is ker.Push (Seq a) (Seq b ∷ c ∷ []) h = with_two (λ x y. Row ker.Push (Seq a) (Seq x ∷ y ∷ [])) a b c h (row_push a)
row_is ker.First a (Seq b ∷ []) h = with_one (λ x. Row ker.First a (Seq x ∷ [])) a b h (row_first a)
row_is ker.Rest (Seq a) (Seq b ∷ []) h = with_one (λ x. Row ker.Rest (Seq a) (Seq x ∷ [])) a b h (row_rest a)
row_is ker.Slice (Seq a) (Seq b ∷ Number ∷ Number ∷ []) h =
    with_one (λ x. Row ker.Slice (Seq a) (Seq x ∷ Number ∷ Number ∷ [])) a b h (row_slice a)
row_is ker.Glue (Seq a) (Seq b ∷ Seq c ∷ []) h = with_two (λ x y. Row ker.Glue (Seq a) (Seq x ∷ Seq y ∷ [])) a b c h (row_glue a)
row_is ker.NoCase a [] h = row_nocase a
row_is ker.IntForm (Set Number) [] h = row_ints
row_is ker.NatForm (Set Number) [] h = row_nats
row_is ker.TextForm (Set (Word [])) [] h = row_texts
row_is ker.SeqForm (Set (Seq a)) (Set b ∷ []) h = with_one (λ x. Row ker.SeqForm (Set (Seq a)) (Set x ∷ [])) a b h (row_sequences a)
row_is ker.TupForm (Set (Tup as')) ks h = tuples_row as' ks (members ks) refl h
row_is (ker.RecForm names) (Set (Rec fs)) ks h = records_row names fs ks (members ks) refl h
row_is o a ks h = absurd (false≢true h)

-- ---- binders, by the members of their sets and by their body

pub data BinderRow : KerOp → Kind → List Kind → Kind → Type 0 where
  row_some : (ms : List Kind) → BinderRow ker.Some Truth ms Truth
  row_every : (ms : List Kind) → BinderRow ker.Every Truth ms Truth
  row_filter : (a : Kind) → BinderRow ker.Filter (Set a) (a ∷ []) Truth
  row_map : (a : Kind) (ms : List Kind) → BinderRow ker.MapOver (Set a) ms a
  row_function : (ms : List Kind) (b : Kind) → BinderRow ker.FunOf (Fun (argument_kind ms) b) ms b

pub binder_is : (o : KerOp) (a : Kind) (ms : List Kind) (b : Kind) → binder_row o a ms b ≡ true → BinderRow o a ms b
binder_is ker.Some Truth ms Truth h = row_some ms
binder_is ker.Every Truth ms Truth h = row_every ms
binder_is ker.Filter (Set a) (b ∷ []) Truth h = with_one (λ x. BinderRow ker.Filter (Set a) (x ∷ []) Truth) a b h (row_filter a)
binder_is ker.MapOver (Set a) ms b h = with_one (λ x. BinderRow ker.MapOver (Set a) ms x) a b h (row_map a ms)
binder_is ker.FunOf (Fun a b) ms c h =
    let d : Bool = same a (argument_kind ms) in
    subst (λ x. BinderRow ker.FunOf (Fun x b) ms c) (sym (same_is a (argument_kind ms) (and_left d (same b c) h)))
    (with_one (λ x. BinderRow ker.FunOf (Fun (argument_kind ms) b) ms x) b c (and_right d (same b c) h) (row_function ms b))
binder_is o a ms b h = absurd (false≢true h)
