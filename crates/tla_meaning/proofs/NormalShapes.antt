-- The values that the operators make of normal values are normal.
use Rattle.std.proofs.Common.{◌≡◌, ℕ, zero, suc, ◌+◌, Bool, true, false, IsTrue, List, [], ◌∷◌, ◌++◌, map, zip, Option, Some, None, ℤ, pos, ◌+ℤ◌, refl, ap, ◌∙◌, sym, subst, arith, if◌then◌else◌}
use Rattle.std.proofs.lemmas.Int.{ints}
use Rattle.std.specs.Prelude.{option_map, option_and_then}
use Rattle.std.specs.List.{AllByRecursion}
use Rattle.std.specs.Ordering.{is_lt, int_cmp}
use Rattle.std.specs.Cmp.{int_cmp_is}
use Rattle.std.specs.declared.cmp.Ordering.TheVariants.{Less}
use Rattle.tla_values.specs.Order.{Layer, value_cmp, same_value}
use Rattle.tla_values.specs.Sets.{Normal, increasing, arguments, set_of, function_of, union_of, apply}
use Rattle.tla_values.specs.declared.value.Value.{Value, out-Value, roll-Value}
use Rattle.tla_values.specs.declared.value.Value.TheVariants as value
use Rattle.tla_values.specs.declared.value.Value.TheOpen as layer
use Rattle.tla_values.specs.declared.value.Value.TheViews.{roll-out-Value}
use Rattle.tla_values.proofs.Rising.{both_to}
use Rattle.tla_values.proofs.SetLaws.{Above, Rising, rising_from, rising_to, rising_insert, all_insert, rising_set_of, all_set_of}
use Rattle.tla_values.proofs.FunLaws.{rising_function, all_function}
use Rattle.tla_values.proofs.OrderLemmas.{by_kinds}
use Rattle.tla_values.proofs.NormalLemmas.{set_order, set_members, set_normal, fun_normal, normal_bool, normal_int, normal_text}
use Rattle.tla_meaning.specs.Numbers.{from_on}
use Rattle.tla_meaning.specs.Shapes.{truth, the_set, the_function, numbered, sequence, record_of, is_int, items_from, set_items, all_set_items, union_all, sublists, with_each, choices, each_to, subsets, functions, records, tuples}

abbrev pub Normals : List Value → Type 0
Normals xs = AllByRecursion Normal xs

abbrev pub NormalPair : Value × Value → Type 0
NormalPair p = Normal p.0 × Normal p.1

abbrev pub NormalPairs : List (Value × Value) → Type 0
NormalPairs ps = AllByRecursion NormalPair ps

abbrev pub NormalSet : List Value → Type 0
NormalSet xs = Rising xs × Normals xs

pub set_made : (xs : List Value) → NormalSet xs → Normal (value.Set xs)
set_made xs h = set_normal xs (rising_to xs h.0) h.1

pub set_parts : (xs : List Value) → Normal (value.Set xs) → NormalSet xs
set_parts xs h = (rising_from xs (set_order xs h), set_members xs h)

-- what is in an opened value
abbrev pub NormalLayer : Layer Value → Type 0
NormalLayer (layer.Bool b) = Unit {0}
NormalLayer (layer.Int n) = Unit {0}
NormalLayer (layer.Text t) = Unit {0}
NormalLayer (layer.Set xs) = NormalSet xs
NormalLayer (layer.Fun ps) = Normal (value.Fun ps)

opened : (v : Value) → Normal v → (l : Layer Value) → out-Value v ≡ l → NormalLayer l
opened v h (layer.Bool b) e = tt
opened v h (layer.Int n) e = tt
opened v h (layer.Text t) e = tt
opened v h (layer.Set xs) e = set_parts xs (subst Normal (sym (roll-out-Value v) ∙ ap roll-Value e ∙ value.rolls-Set xs) h)
opened v h (layer.Fun ps) e = subst Normal (sym (roll-out-Value v) ∙ ap roll-Value e ∙ value.rolls-Fun ps) h

pub layer_normal : (v : Value) → Normal v → NormalLayer (out-Value v)
layer_normal v h = opened v h (out-Value v) refl

pub truth_normal : (b : Bool) → Normal (truth b)
truth_normal b = normal_bool (truth b) b refl

pub int_normal : (n : ℤ) → Normal (value.Int n)
int_normal n = normal_int (value.Int n) n refl

pub text_normal : (t : List ℕ) → Normal (value.Text t)
text_normal t = normal_text (value.Text t) t refl

pub the_set_normal : (xs : List Value) → Normals xs → Normal (the_set xs)
the_set_normal xs h = set_made (set_of xs) (rising_set_of xs, all_set_of Normal xs h)

pub the_function_normal : (ps : List (Value × Value)) → NormalPairs ps → Normal (the_function ps)
the_function_normal ps h = fun_normal (function_of ps) (rising_to _ (rising_function ps)) (all_function NormalPair ps h)

-- ---- lists

pub all_plus : {X : Type 0} (P : X → Type 0) (xs ys : List X) → AllByRecursion P xs → AllByRecursion P ys → AllByRecursion P (xs ++ ys)
all_plus P [] ys h k = k
all_plus P (x ∷ xs) ys h k = (h.0, all_plus P xs ys h.1 k)

pub all_mapped : {X Y : Type 0} (P : X → Type 0) (Q : Y → Type 0) (f : X → Y) → ((x : X) → P x → Q (f x)) → (xs : List X) →
    AllByRecursion P xs → AllByRecursion Q (map f xs)
all_mapped P Q f r [] h = tt
all_mapped P Q f r (x ∷ xs) h = (r x h.0, all_mapped P Q f r xs h.1)

pub zip_pairs : (xs ys : List Value) → Normals xs → Normals ys → NormalPairs (zip xs ys)
zip_pairs [] ys h k = tt
zip_pairs (x ∷ xs) [] h k = tt
zip_pairs (x ∷ xs) (y ∷ ys) h k = ((h.0, k.0), zip_pairs xs ys h.1 k.1)

zip_above : (x : Value) (xs ys : List Value) → Above x xs → Above x (arguments (zip xs ys))
zip_above x [] ys h = tt
zip_above x (z ∷ xs) [] h = tt
zip_above x (z ∷ xs) (y ∷ ys) h = (h.0, zip_above x xs ys h.1)

zip_rising : (xs ys : List Value) → Rising xs → Rising (arguments (zip xs ys))
zip_rising [] ys h = tt
zip_rising (x ∷ xs) [] h = tt
zip_rising (x ∷ xs) (y ∷ ys) h = (zip_above x xs ys h.0, zip_rising xs ys h.1)

pub zip_normal : (xs ys : List Value) → NormalSet xs → Normals ys → Normal (value.Fun (zip xs ys))
zip_normal xs ys h k = fun_normal (zip xs ys) (rising_to _ (zip_rising xs ys h.0)) (zip_pairs xs ys h.1 k)

-- a list that leaves out some items
pub data Part : List Value → List Value → Type 0 where
  part_none : Part [] []
  part_skip : (x : Value) {xs ys : List Value} → Part xs ys → Part (x ∷ xs) ys
  part_keep : (x : Value) {xs ys : List Value} → Part xs ys → Part (x ∷ xs) (x ∷ ys)

part_all : (P : Value → Type 0) {xs ys : List Value} → Part xs ys → AllByRecursion P xs → AllByRecursion P ys
part_all P part_none h = tt
part_all P (part_skip x r) h = part_all P r h.1
part_all P (part_keep x r) h = (h.0, part_all P r h.1)

part_rising : {xs ys : List Value} → Part xs ys → Rising xs → Rising ys
part_rising part_none h = tt
part_rising (part_skip x r) h = part_rising r h.1
part_rising (part_keep x r) h = (part_all (λ y. value_cmp x y ≡ Less) r h.0, part_rising r h.1)

pub part_normal : {xs ys : List Value} → Part xs ys → NormalSet xs → NormalSet ys
part_normal r h = (part_rising r h.0, part_all Normal r h.1)

sublist_parts : (xs : List Value) → AllByRecursion (Part xs) (sublists xs)
sublist_parts [] = (part_none, tt)
sublist_parts (x ∷ xs) =
    all_plus (Part (x ∷ xs)) (sublists xs) (map (λ ys. x ∷ ys) (sublists xs)) (all_skip (sublists xs) (sublist_parts xs))
    (all_mapped (Part xs) (Part (x ∷ xs)) (λ ys. x ∷ ys) (λ ys r. part_keep x r) (sublists xs) (sublist_parts xs))
  where
    all_skip : (yss : List (List Value)) → AllByRecursion (Part xs) yss → AllByRecursion (Part (x ∷ xs)) yss
    all_skip [] h = tt
    all_skip (ys ∷ yss) h = (part_skip x h.0, all_skip yss h.1)

pub subsets_normal : (xs : List Value) → NormalSet xs → Normal (subsets xs)
subsets_normal xs h =
    the_set_normal (map (λ ys. value.Set ys) (sublists xs))
    (all_mapped (Part xs) Normal (λ ys. value.Set ys) (λ ys r. set_made ys (part_normal r h)) (sublists xs) (sublist_parts xs))

-- ---- numbers in order

int_less : (a b : ℤ) → Less ≡ int_cmp a b → value_cmp (value.Int a) (value.Int b) ≡ Less
int_less a b e = by_kinds (value.Int a) (value.Int b) (layer.Int a) (layer.Int b) (value.outs-Int a) (value.outs-Int b) ∙ sym e

next_above : (a : ℤ) → value_cmp (value.Int a) (value.Int (a +ℤ pos 1)) ≡ Less
next_above a = int_less a (a +ℤ pos 1) (int_cmp_is a (a +ℤ pos 1) Less (omega (arith, ints)))

next_number : (n : ℕ) → value_cmp (value.Int (pos n)) (value.Int (pos (n + 1))) ≡ Less
next_number n = int_less (pos n) (pos (n + 1)) (int_cmp_is (pos n) (pos (n + 1)) Less (omega (arith, ints)))

pub falsity_first : value_cmp (truth false) (truth true) ≡ Less
falsity_first =
    by_kinds (truth false) (truth true) (layer.Bool false) (layer.Bool true) (value.outs-Bool false) (value.outs-Bool true)

increasing_from : (n : ℕ) (a : ℤ) → IsTrue (increasing (from_on a n))
increasing_from zero a = refl
increasing_from (suc zero) a = refl
increasing_from (suc (suc n)) a = both_to _ _ (ap is_lt (next_above a)) (increasing_from (suc n) (a +ℤ pos 1))

from_normals : (n : ℕ) (a : ℤ) → Normals (from_on a n)
from_normals zero a = tt
from_normals (suc n) a = (int_normal a, from_normals n (a +ℤ pos 1))

pub from_normal : (n : ℕ) (a : ℤ) → Normal (value.Set (from_on a n))
from_normal n a = set_normal (from_on a n) (increasing_from n a) (from_normals n a)

increasing_numbered : (n : ℕ) (xs : List Value) → IsTrue (increasing (arguments (numbered n xs)))
increasing_numbered n [] = refl
increasing_numbered n (x ∷ []) = refl
increasing_numbered n (x ∷ y ∷ ys) = both_to _ _ (ap is_lt (next_number n)) (increasing_numbered (n + 1) (y ∷ ys))

numbered_pairs : (n : ℕ) (xs : List Value) → Normals xs → NormalPairs (numbered n xs)
numbered_pairs n [] h = tt
numbered_pairs n (x ∷ xs) h = ((int_normal (pos n), h.0), numbered_pairs (n + 1) xs h.1)

pub sequence_normal : (xs : List Value) → Normals xs → Normal (sequence xs)
sequence_normal xs h = fun_normal (numbered 1 xs) (increasing_numbered 1 xs) (numbered_pairs 1 xs h)

-- ---- records, functions and tuples

texts_normal : (names : List (List ℕ)) → Normals (map (λ n. value.Text n) names)
texts_normal [] = tt
texts_normal (n ∷ ns) = (text_normal n, texts_normal ns)

pub record_normal : (names : List (List ℕ)) (vs : List Value) → Normals vs → Normal (record_of names vs)
record_normal names vs h = the_function_normal (zip (map (λ n. value.Text n) names) vs) (zip_pairs _ vs (texts_normal names) h)

abbrev pub NormalLists : List (List Value) → Type 0
NormalLists xss = AllByRecursion Normals xss

with_each_normal : (xs : List Value) (yss : List (List Value)) → Normals xs → NormalLists yss → NormalLists (with_each xs yss)
with_each_normal [] yss h k = tt
with_each_normal (x ∷ xs) yss h k =
    all_plus Normals (map (λ ys. x ∷ ys) yss) (with_each xs yss) (all_mapped Normals Normals (λ ys. x ∷ ys) (λ ys r. (h.0, r)) yss k)
    (with_each_normal xs yss h.1 k)

pub choices_normal : (xss : List (List Value)) → NormalLists xss → NormalLists (choices xss)
choices_normal [] h = (tt, tt)
choices_normal (xs ∷ xss) h = with_each_normal xs (choices xss) h.0 (choices_normal xss h.1)

each_to_normal : (xs ts : List Value) → Normals ts → NormalLists (each_to xs ts)
each_to_normal [] ts h = (tt, tt)
each_to_normal (x ∷ xs) ts h = with_each_normal ts (each_to xs ts) h (each_to_normal xs ts h)

pub functions_normal : (xs ts : List Value) → NormalSet xs → NormalSet ts → Normal (functions xs ts)
functions_normal xs ts h k =
    the_set_normal (map (λ ys. value.Fun (zip xs ys)) (each_to xs ts))
    (all_mapped Normals Normal (λ ys. value.Fun (zip xs ys)) (λ ys r. zip_normal xs ys h r) (each_to xs ts) (each_to_normal xs ts k.1))

pub records_normal : (names : List (List ℕ)) (xss : List (List Value)) → NormalLists xss → Normal (records names xss)
records_normal names xss h =
    the_set_normal (map (record_of names) (choices xss)) (all_mapped Normals Normal (record_of names) (record_normal names) (choices xss) (choices_normal xss h))

pub tuples_normal : (xss : List (List Value)) → NormalLists xss → Normal (tuples xss)
tuples_normal xss h =
    the_set_normal (map sequence (choices xss)) (all_mapped Normals Normal sequence sequence_normal (choices xss) (choices_normal xss h))

-- ---- parts

abbrev pub IfSomes : {X : Type 0} → (X → Type 0) → Option X → Type 0
IfSomes P None = Unit {0}
IfSomes P (Some x) = P x

pub if_mapped : {X Y : Type 0} (P : X → Type 0) (Q : Y → Type 0) (f : X → Y) → ((x : X) → P x → Q (f x)) → (o : Option X) → IfSomes P o → IfSomes Q (option_map f o)
if_mapped P Q f r None h = tt
if_mapped P Q f r (Some x) h = r x h

if_chosen : {X : Type 0} (P : X → Type 0) (b : Bool) (o : Option X) → IfSomes P o → IfSomes P (if b then o else None)
if_chosen P true o h = h
if_chosen P false o h = tt

pub items_normal : (n : ℕ) (ps : List (Value × Value)) → NormalPairs ps → IfSomes Normals (items_from n ps)
items_normal n [] h = tt
items_normal n (p ∷ ps) h =
    if_chosen Normals (is_int n (out-Value p.0)) _
    (if_mapped Normals Normals (λ xs. p.1 ∷ xs) (λ xs r. (h.0.1, r)) (items_from (n + 1) ps) (items_normal (n + 1) ps h.1))

pub apply_normal : (ps : List (Value × Value)) (a : Value) → NormalPairs ps → IfSomes Normal (apply ps a)
apply_normal [] a h = tt
apply_normal (p ∷ ps) a h = by_test (apply_normal ps a h.1) (same_value a p.0)
  where
    by_test : IfSomes Normal (apply ps a) → (b : Bool) → IfSomes Normal (if b then Some p.1 else apply ps a)
    by_test k true = h.0.1
    by_test k false = k

pub set_items_normal : (l : Layer Value) → NormalLayer l → IfSomes NormalSet (set_items l)
set_items_normal (layer.Set xs) h = h
set_items_normal l h = tt

pub all_items_normal : (vs : List Value) → Normals vs → IfSomes (λ xss. AllByRecursion NormalSet xss) (all_set_items vs)
all_items_normal [] h = tt
all_items_normal (v ∷ vs) h = by_first (set_items (out-Value v)) (set_items_normal (out-Value v) (layer_normal v h.0)) (all_items_normal vs h.1)
  where
    by_first : (o : Option (List Value)) → IfSomes NormalSet o → IfSomes (λ xss. AllByRecursion NormalSet xss) (all_set_items vs) →
        IfSomes (λ xss. AllByRecursion NormalSet xss) (option_and_then (λ xs. option_map (λ xss. xs ∷ xss) (all_set_items vs)) o)
    by_first None g k = tt
    by_first (Some xs) g k =
        if_mapped (λ xss. AllByRecursion NormalSet xss) (λ xss. AllByRecursion NormalSet xss) (λ xss. xs ∷ xss) (λ xss r. (g, r)) (all_set_items vs) k

pub union_normal : (xs ys : List Value) → Normals xs → NormalSet ys → NormalSet (union_of xs ys)
union_normal [] ys h k = k
union_normal (x ∷ xs) ys h k =
    let r : NormalSet (union_of xs ys) = union_normal xs ys h.1 k in
    (rising_insert x (union_of xs ys) r.0, all_insert Normal x (union_of xs ys) h.0 r.1)

pub union_all_normal : (xss : List (List Value)) → AllByRecursion NormalSet xss → NormalSet (union_all xss)
union_all_normal [] h = (tt, tt)
union_all_normal (xs ∷ xss) h = union_normal xs (union_all xss) h.0.1 (union_all_normal xss h.1)

pub lists_of : (xss : List (List Value)) → AllByRecursion NormalSet xss → NormalLists xss
lists_of [] h = tt
lists_of (xs ∷ xss) h = (h.0.1, lists_of xss h.1)
