-- The names of fields in each form of type.
use Rattle.std.proofs.Common.{◌≡◌, ℕ, List, [], ◌∷◌, ◌++◌, map, flat_map, Option, append_assoc, refl, sym, ap, ◌∙◌}
use Rattle.std.proofs.lemmas.List.{append-nil}
use Rattle.snowcat_rows.specs.declared.types.Ty.{Ty, out-Ty, Bool, Int, Str, Named, Var, Set, Seq, Fun, Tup, Rec, Oper}
use Rattle.snowcat_rows.specs.declared.types.Ty.TheVariants.{outs-Bool, outs-Int, outs-Str, outs-Named, outs-Var, outs-Set, outs-Seq, outs-Fun, outs-Tup, outs-Rec, outs-Oper}
use Rattle.snowcat_rows.specs.declared.types.Ty.TheOpen as layer
use Rattle.snowcat_rows.specs.declared.types.Ty.TheFolds.{fold_out-Ty, map-Ty}
use Rattle.system_texts.specs.inner.Gathered.{field_layer, field_names}

abbrev Texts : Type 0
Texts = List (List ℕ)

abbrev opened : layer.Ty-F Ty → Texts
opened o = field_layer (map-Ty Ty Texts field_names o)

field_out : (t : Ty) → field_names t ≡ opened (out-Ty t)
unfolding field_names
field_out t = fold_out-Ty Texts field_layer t

field_is : (t : Ty) (o : layer.Ty-F Ty) → out-Ty t ≡ o → field_names t ≡ opened o
field_is t o e = field_out t ∙ ap opened e

all_items : (ts : List Ty) → flat_map (λ t. t) (map field_names ts) ≡ flat_map field_names ts
all_items [] = refl
all_items (t ∷ ts) = ap (λ l. field_names t ++ l) (all_items ts)

abbrev one_field : List ℕ × Ty → List ℕ × Texts
one_field f = (f.0, field_names f.1)

all_fields : (fs : List (List ℕ × Ty)) → flat_map (λ f. f.0 ∷ f.1) (map one_field fs) ≡ flat_map (λ f. f.0 ∷ field_names f.1) fs
all_fields [] = refl
all_fields (f ∷ fs) = ap (λ l. (f.0 ∷ field_names f.1) ++ l) (all_fields fs)

pub field-Bool : field_names Bool ≡ []
field-Bool = field_is Bool _ outs-Bool

pub field-Int : field_names Int ≡ []
field-Int = field_is Int _ outs-Int

pub field-Str : field_names Str ≡ []
field-Str = field_is Str _ outs-Str

pub field-Named : (x : List ℕ) → field_names (Named x) ≡ []
field-Named x = field_is (Named x) _ (outs-Named x)

pub field-Var : (n : ℕ) → field_names (Var n) ≡ []
field-Var n = field_is (Var n) _ (outs-Var n)

pub field-Set : (a : Ty) → field_names (Set a) ≡ field_names a
field-Set a = field_is (Set a) _ (outs-Set a)

pub field-Seq : (a : Ty) → field_names (Seq a) ≡ field_names a
field-Seq a = field_is (Seq a) _ (outs-Seq a)

pub field-Fun : (a b : Ty) → field_names (Fun a b) ≡ field_names a ++ field_names b
field-Fun a b = field_is (Fun a b) _ (outs-Fun a b)

pub field-Tup : (ts : List Ty) → field_names (Tup ts) ≡ flat_map field_names ts
field-Tup ts = field_is (Tup ts) _ (outs-Tup ts) ∙ all_items ts

pub field-Rec : (fs : List (List ℕ × Ty)) (k : Option ℕ) → field_names (Rec fs k) ≡ flat_map (λ f. f.0 ∷ field_names f.1) fs
field-Rec fs k = field_is (Rec fs k) _ (outs-Rec fs k) ∙ all_fields fs

pub field-Oper : (ts : List Ty) (b : Ty) → field_names (Oper ts b) ≡ []
field-Oper ts b = field_is (Oper ts b) _ (outs-Oper ts b)

pub ruleset field_forms = (field-Bool, field-Int, field-Str, field-Named, field-Var, field-Set, field-Seq, field-Fun, field-Tup, field-Rec, field-Oper)

-- one behind the other
pub two_after : (x y z a b c : Texts) → y ≡ x ++ a → z ≡ y ++ b → c ≡ a ++ b → z ≡ x ++ c
two_after x y z a b c e f g = f ∙ ap (λ l. l ++ b) e ∙ append_assoc x a b ∙ ap (λ l. x ++ l) (sym g)

-- nothing is added
pub none_more : (xs : Texts) (t : Ty) → field_names t ≡ [] → xs ≡ xs ++ field_names t
none_more xs t e = sym (ap (λ l. xs ++ l) e ∙ append-nil xs)
