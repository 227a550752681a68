-- The text of each form of type.
use Rattle.std.proofs.Common.{◌≡◌, ℕ, List, [], ◌∷◌, ◌++◌, map, length, Option, refl, ap, sym, append_assoc, ◌∙◌, codes}
use Rattle.std.proofs.lemmas.List.{length-map}
use Rattle.std.specs.Prelude.{◌/◌, ◌%◌}
use Rattle.snowcat_rows.specs.Letters.{letter, letter_count, round_text, variable_text}
use Rattle.snowcat_rows.specs.Texts.{Shown, shown, text_layer, form_layer, text_field, typed_field, type_text, form_of, operand_text, result_text, items_text, fields_text, tail_text}
use Rattle.snowcat_rows.specs.declared.showing.Form.TheVariants as form
use Rattle.snowcat_rows.specs.declared.types.Ty.{Ty, out-Ty, Bool, Int, Str, Named, Var, Set, Seq, Fun, Tup, Rec, Oper}
use Rattle.snowcat_rows.specs.declared.types.Ty.TheVariants.{outs-Bool, outs-Int, outs-Str, outs-Named, outs-Var, outs-Set, outs-Seq, outs-Fun, outs-Tup, outs-Rec, outs-Oper}
use Rattle.snowcat_rows.specs.declared.types.Ty.TheOpen as layer
use Rattle.snowcat_rows.specs.declared.types.Ty.TheFolds.{fold_out-Ty, map-Ty}

abbrev Opened : layer.Ty-F Ty → Shown
Opened o = let x = map-Ty Ty Shown shown o in record { text = text_layer x; form = form_layer x }

shown_out : (t : Ty) → shown t ≡ Opened (out-Ty t)
unfolding shown
shown_out t = fold_out-Ty Shown (λ x. record { text = text_layer x; form = form_layer x }) t

text_is : (t : Ty) (o : layer.Ty-F Ty) → out-Ty t ≡ o → type_text t ≡ (Opened o).text
text_is t o e = ap (λ s. s.text) (shown_out t ∙ ap Opened e)

form_is : (t : Ty) (o : layer.Ty-F Ty) → out-Ty t ≡ o → form_of t ≡ (Opened o).form
form_is t o e = ap (λ s. s.form) (shown_out t ∙ ap Opened e)

texts_of : (ts : List Ty) → map (λ s. s.text) (map shown ts) ≡ map type_text ts
texts_of [] = refl
texts_of (t ∷ ts) = ap (λ l. type_text t ∷ l) (texts_of ts)

abbrev shown_field : List ℕ × Ty → List ℕ × Shown
shown_field f = (f.0, shown f.1)

fields_of : (fs : List (List ℕ × Ty)) → map text_field (map shown_field fs) ≡ map typed_field fs
fields_of [] = refl
fields_of (f ∷ fs) = ap (λ l. typed_field f ∷ l) (fields_of fs)

pub text-Bool : type_text Bool ≡ codes "Bool"
text-Bool = text_is Bool _ outs-Bool

pub text-Int : type_text Int ≡ codes "Int"
text-Int = text_is Int _ outs-Int

pub text-Str : type_text Str ≡ codes "Str"
text-Str = text_is Str _ outs-Str

pub text-Named : (x : List ℕ) → type_text (Named x) ≡ x
text-Named x = text_is (Named x) _ (outs-Named x)

pub text-Var : (n : ℕ) → type_text (Var n) ≡ variable_text n
text-Var n = text_is (Var n) _ (outs-Var n)

pub text-Set : (a : Ty) → type_text (Set a) ≡ codes "Set(" ++ type_text a ++ codes ")"
text-Set a = text_is (Set a) _ (outs-Set a)

pub text-Seq : (a : Ty) → type_text (Seq a) ≡ codes "Seq(" ++ type_text a ++ codes ")"
text-Seq a = text_is (Seq a) _ (outs-Seq a)

pub text-Fun : (a b : Ty) → type_text (Fun a b) ≡ operand_text (form_of a) (type_text a) ++ codes " -> " ++ result_text (form_of b) (type_text b)
text-Fun a b = text_is (Fun a b) _ (outs-Fun a b)

pub text-Tup : (ts : List Ty) → type_text (Tup ts) ≡ codes "<<" ++ items_text (map type_text ts) ++ codes ">>"
text-Tup ts = text_is (Tup ts) _ (outs-Tup ts) ∙ ap (λ l. codes "<<" ++ items_text l ++ codes ">>") (texts_of ts)

pub text-Rec : (fs : List (List ℕ × Ty)) (k : Option ℕ) →
    type_text (Rec fs k) ≡ codes "{" ++ fields_text (map typed_field fs) ++ tail_text (length fs) k ++ codes "}"
text-Rec fs k =
    text_is (Rec fs k) _ (outs-Rec fs k) ∙ ap (λ l. codes "{" ++ fields_text l ++ tail_text (length (map shown_field fs)) k ++ codes "}") (fields_of fs)
    ∙ ap (λ n. codes "{" ++ fields_text (map typed_field fs) ++ tail_text n k ++ codes "}") (length-map fs shown_field)

pub text-Oper : (ts : List Ty) (b : Ty) → type_text (Oper ts b) ≡ codes "(" ++ items_text (map type_text ts) ++ codes ") => " ++ type_text b
text-Oper ts b = text_is (Oper ts b) _ (outs-Oper ts b) ∙ ap (λ l. codes "(" ++ items_text l ++ codes ") => " ++ type_text b) (texts_of ts)

pub form-Bool : form_of Bool ≡ form.Operand
form-Bool = form_is Bool _ outs-Bool

pub form-Int : form_of Int ≡ form.Operand
form-Int = form_is Int _ outs-Int

pub form-Str : form_of Str ≡ form.Operand
form-Str = form_is Str _ outs-Str

pub form-Named : (x : List ℕ) → form_of (Named x) ≡ form.Operand
form-Named x = form_is (Named x) _ (outs-Named x)

pub form-Var : (n : ℕ) → form_of (Var n) ≡ form.Operand
form-Var n = form_is (Var n) _ (outs-Var n)

pub form-Set : (a : Ty) → form_of (Set a) ≡ form.Operand
form-Set a = form_is (Set a) _ (outs-Set a)

pub form-Seq : (a : Ty) → form_of (Seq a) ≡ form.Operand
form-Seq a = form_is (Seq a) _ (outs-Seq a)

pub form-Fun : (a b : Ty) → form_of (Fun a b) ≡ form.Function
form-Fun a b = form_is (Fun a b) _ (outs-Fun a b)

pub form-Tup : (ts : List Ty) → form_of (Tup ts) ≡ form.Operand
form-Tup ts = form_is (Tup ts) _ (outs-Tup ts)

pub form-Rec : (fs : List (List ℕ × Ty)) (k : Option ℕ) → form_of (Rec fs k) ≡ form.Operand
form-Rec fs k = form_is (Rec fs k) _ (outs-Rec fs k)

pub form-Oper : (ts : List Ty) (b : Ty) → form_of (Oper ts b) ≡ form.Operator
form-Oper ts b = form_is (Oper ts b) _ (outs-Oper ts b)

pub ruleset texts = (text-Bool, text-Int, text-Str, text-Named, text-Var, text-Set, text-Seq, text-Fun, text-Tup, text-Rec, text-Oper, form-Bool, form-Int, form-Str, form-Named, form-Var, form-Set, form-Seq, form-Fun, form-Tup, form-Rec, form-Oper)

-- ---- what is written piece by piece

pub three_written : (o p q r a b c w : List ℕ) → p ≡ o ++ a → q ≡ p ++ b → r ≡ q ++ c → w ≡ a ++ b ++ c → r ≡ o ++ w
three_written o p q r a b c w e f g h =
    g ∙ ap (λ l. l ++ c) (f ∙ ap (λ l. l ++ b) e ∙ append_assoc o a b) ∙ append_assoc o (a ++ b) c ∙ ap (λ l. o ++ l) (sym h)

pub four_written : (o p q r s a b c d w : List ℕ) → p ≡ o ++ a → q ≡ p ++ b → r ≡ q ++ c → s ≡ r ++ d → w ≡ a ++ b ++ c ++ d → s ≡ o ++ w
four_written o p q r s a b c d w e f g i h =
    i ∙ ap (λ l. l ++ d) (three_written o p q r a b c (a ++ b ++ c) e f g refl) ∙ append_assoc o (a ++ b ++ c) d ∙ ap (λ l. o ++ l) (sym h)

pub variable_written : (o p q : List ℕ) (n : ℕ) → p ≡ o ++ letter (n % letter_count) ∷ [] → q ≡ p ++ round_text (n / letter_count) → q ≡ o ++ variable_text n
unfolding variable_text
variable_written o p q n e f =
    f ∙ ap (λ l. l ++ round_text (n / letter_count)) e ∙ append_assoc o (letter (n % letter_count) ∷ []) (round_text (n / letter_count))
