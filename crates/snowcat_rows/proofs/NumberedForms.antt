-- The variables of each form of type, and the form with other numbers.
use Rattle.std.proofs.Common.{◌≡◌, ℕ, List, [], ◌∷◌, ◌++◌, map, Option, option_map, refl, ap, ◌∙◌}
use Rattle.std.specs.List.{flat_map}
use Rattle.snowcat_rows.specs.declared.types.Ty.{Ty, out-Ty, roll-Ty, Bool, Int, Str, Named, Var, Set, Seq, Fun, Tup, Rec, Oper}
use Rattle.snowcat_rows.specs.declared.types.Ty.TheVariants.{outs-Bool, outs-Int, outs-Str, outs-Named, outs-Var, outs-Set, outs-Seq, outs-Fun, outs-Tup, outs-Rec, outs-Oper, rolls-Bool, rolls-Int, rolls-Str, rolls-Named, rolls-Var, rolls-Set, rolls-Seq, rolls-Fun, rolls-Tup, rolls-Rec, rolls-Oper}
use Rattle.snowcat_rows.specs.declared.types.Ty.TheOpen as layer
use Rattle.snowcat_rows.specs.declared.types.Ty.TheFolds.{fold_out-Ty, map-Ty}
use Rattle.snowcat_rows.specs.declared.occurrences.Unknown.{Unknown}
use Rattle.snowcat_rows.specs.declared.occurrences.Unknown.TheVariants as unknown
use Rattle.snowcat_rows.specs.Numbered.{occurring, occurring_layer, numbered, numbered_layer, place, row_variable}

-- ---- the variables

abbrev pub occurring_opened : layer.Ty-F Ty → List Unknown
occurring_opened o = occurring_layer (map-Ty Ty (List Unknown) occurring o)

pub occurring_out : (t : Ty) → occurring t ≡ occurring_opened (out-Ty t)
unfolding occurring
occurring_out t = fold_out-Ty (List Unknown) occurring_layer t

occurring_is : (t : Ty) (o : layer.Ty-F Ty) → out-Ty t ≡ o → occurring t ≡ occurring_opened o
occurring_is t o e = occurring_out t ∙ ap occurring_opened e

pub all_occurring : (ts : List Ty) → flat_map (λ t. t) (map occurring ts) ≡ flat_map occurring ts
all_occurring [] = refl
all_occurring (t ∷ ts) = ap (λ l. occurring t ++ l) (all_occurring ts)

abbrev occurring_field : List ℕ × Ty → List ℕ × List Unknown
occurring_field f = (f.0, occurring f.1)

pub fields_occurring : (fs : List (List ℕ × Ty)) → flat_map (λ f. f.1) (map occurring_field fs) ≡ flat_map (λ f. occurring f.1) fs
fields_occurring [] = refl
fields_occurring (f ∷ fs) = ap (λ l. occurring f.1 ++ l) (fields_occurring fs)

pub occurring-Bool : occurring Bool ≡ []
occurring-Bool = occurring_is Bool _ outs-Bool

pub occurring-Int : occurring Int ≡ []
occurring-Int = occurring_is Int _ outs-Int

pub occurring-Str : occurring Str ≡ []
occurring-Str = occurring_is Str _ outs-Str

pub occurring-Named : (x : List ℕ) → occurring (Named x) ≡ []
occurring-Named x = occurring_is (Named x) _ (outs-Named x)

pub occurring-Var : (n : ℕ) → occurring (Var n) ≡ unknown.Type n ∷ []
occurring-Var n = occurring_is (Var n) _ (outs-Var n)

pub occurring-Set : (a : Ty) → occurring (Set a) ≡ occurring a
occurring-Set a = occurring_is (Set a) _ (outs-Set a)

pub occurring-Seq : (a : Ty) → occurring (Seq a) ≡ occurring a
occurring-Seq a = occurring_is (Seq a) _ (outs-Seq a)

pub occurring-Fun : (a b : Ty) → occurring (Fun a b) ≡ occurring a ++ occurring b
occurring-Fun a b = occurring_is (Fun a b) _ (outs-Fun a b)

pub occurring-Tup : (ts : List Ty) → occurring (Tup ts) ≡ flat_map occurring ts
occurring-Tup ts = occurring_is (Tup ts) _ (outs-Tup ts) ∙ all_occurring ts

pub occurring-Rec : (fs : List (List ℕ × Ty)) (k : Option ℕ) → occurring (Rec fs k) ≡ flat_map (λ f. occurring f.1) fs ++ row_variable k
occurring-Rec fs k = occurring_is (Rec fs k) _ (outs-Rec fs k) ∙ ap (λ l. l ++ row_variable k) (fields_occurring fs)

pub occurring-Oper : (ts : List Ty) (b : Ty) → occurring (Oper ts b) ≡ flat_map occurring ts ++ occurring b
occurring-Oper ts b = occurring_is (Oper ts b) _ (outs-Oper ts b) ∙ ap (λ l. l ++ occurring b) (all_occurring ts)

pub ruleset occurrences = (occurring-Bool, occurring-Int, occurring-Str, occurring-Named, occurring-Var, occurring-Set, occurring-Seq, occurring-Fun, occurring-Tup, occurring-Rec, occurring-Oper)

-- ---- the type with other numbers

abbrev pub numbered_opened : List Unknown → layer.Ty-F Ty → Ty
numbered_opened vs o = roll-Ty (numbered_layer vs (map-Ty Ty Ty (numbered vs) o))

pub numbered_out : (vs : List Unknown) (t : Ty) → numbered vs t ≡ numbered_opened vs (out-Ty t)
unfolding numbered
numbered_out vs t = fold_out-Ty Ty (λ x. roll-Ty (numbered_layer vs x)) t

numbered_is : (vs : List Unknown) (t : Ty) (o : layer.Ty-F Ty) → out-Ty t ≡ o → numbered vs t ≡ numbered_opened vs o
numbered_is vs t o e = numbered_out vs t ∙ ap (numbered_opened vs) e

pub numbered-Bool : (vs : List Unknown) → numbered vs Bool ≡ Bool
numbered-Bool vs = numbered_is vs Bool _ outs-Bool ∙ rolls-Bool

pub numbered-Int : (vs : List Unknown) → numbered vs Int ≡ Int
numbered-Int vs = numbered_is vs Int _ outs-Int ∙ rolls-Int

pub numbered-Str : (vs : List Unknown) → numbered vs Str ≡ Str
numbered-Str vs = numbered_is vs Str _ outs-Str ∙ rolls-Str

pub numbered-Named : (vs : List Unknown) (x : List ℕ) → numbered vs (Named x) ≡ Named x
numbered-Named vs x = numbered_is vs (Named x) _ (outs-Named x) ∙ rolls-Named x

pub numbered-Var : (vs : List Unknown) (n : ℕ) → numbered vs (Var n) ≡ Var (place (unknown.Type n) vs)
numbered-Var vs n = numbered_is vs (Var n) _ (outs-Var n) ∙ rolls-Var (place (unknown.Type n) vs)

pub numbered-Set : (vs : List Unknown) (a : Ty) → numbered vs (Set a) ≡ Set (numbered vs a)
numbered-Set vs a = numbered_is vs (Set a) _ (outs-Set a) ∙ rolls-Set (numbered vs a)

pub numbered-Seq : (vs : List Unknown) (a : Ty) → numbered vs (Seq a) ≡ Seq (numbered vs a)
numbered-Seq vs a = numbered_is vs (Seq a) _ (outs-Seq a) ∙ rolls-Seq (numbered vs a)

pub numbered-Fun : (vs : List Unknown) (a b : Ty) → numbered vs (Fun a b) ≡ Fun (numbered vs a) (numbered vs b)
numbered-Fun vs a b = numbered_is vs (Fun a b) _ (outs-Fun a b) ∙ rolls-Fun (numbered vs a) (numbered vs b)

pub numbered-Tup : (vs : List Unknown) (ts : List Ty) → numbered vs (Tup ts) ≡ Tup (map (numbered vs) ts)
numbered-Tup vs ts = numbered_is vs (Tup ts) _ (outs-Tup ts) ∙ rolls-Tup (map (numbered vs) ts)

pub numbered-Rec : (vs : List Unknown) (fs : List (List ℕ × Ty)) (k : Option ℕ) →
    numbered vs (Rec fs k) ≡ Rec (map (λ f. (f.0, numbered vs f.1)) fs) (option_map (λ r. place (unknown.Row r) vs) k)
numbered-Rec vs fs k =
    numbered_is vs (Rec fs k) _ (outs-Rec fs k) ∙ rolls-Rec (map (λ f. (f.0, numbered vs f.1)) fs) (option_map (λ r. place (unknown.Row r) vs) k)

pub numbered-Oper : (vs : List Unknown) (ts : List Ty) (b : Ty) → numbered vs (Oper ts b) ≡ Oper (map (numbered vs) ts) (numbered vs b)
numbered-Oper vs ts b = numbered_is vs (Oper ts b) _ (outs-Oper ts b) ∙ rolls-Oper (map (numbered vs) ts) (numbered vs b)

pub ruleset numbers = (numbered-Bool, numbered-Int, numbered-Str, numbered-Named, numbered-Var, numbered-Set, numbered-Seq, numbered-Fun, numbered-Tup, numbered-Rec, numbered-Oper)
