-- A type that can be written has a spelling that is formed and keeps fronts.
use Rattle.std.proofs.Common.{◌≡◌, ◌<◌, ◌^◌, arith, ℕ, Bool, true, false, ◌&&◌, inl, inr, List, [], ◌∷◌, map, refl, ap, sym, ◌∙◌, subst, Option, Some, None, IsTrue}
use Rattle.std.specs.Prelude.{◌+◌, ◌*◌, ◌-◌, ◌/◌, ◌%◌, ◌==◌, decimal, option_map, bytes_eq, not, ◌||◌}
use Rattle.std.specs.List.{list_all}
use Rattle.std.specs.Str.Parse.{AllDigits, digits_value}
use Rattle.std.proofs.lemmas.Bool.{cases_Bool}
use Rattle.std.proofs.Math.Nat.{div-add-mod}
use Rattle.std.proofs.lemmas.Fmt.{digits_decimal, digits_value-decimal}
use Rattle.std.proofs.lemmas.Str.Parse.{IsNumeralModel, numerals_by_value, tells_digits, digit_from_value}
use Rattle.snowcat_rows.specs.declared.showing.Form.{Form}
use Rattle.snowcat_rows.specs.declared.showing.Form.TheVariants.{Operand, Function, Operator}
use Rattle.snowcat_rows.specs.declared.types.Ty.{Ty, out-Ty, roll-Ty, out-roll-Ty}
use Rattle.snowcat_rows.specs.declared.types.Ty.TheOpen as layer
use Rattle.snowcat_rows.specs.declared.types.Ty.TheFolds.{ind-Ty, map-Ty}
use Rattle.snowcat_rows.specs.Letters.{letter, letter_count, round_text, variable_text}
use Rattle.snowcat_rows.specs.LiteralTypes.{is_digit, is_small}
use Rattle.snowcat_rows.specs.Types.{Term, Slot, none, some, row, lookup, mean, mean_layer}
use Rattle.snowcat_rows.specs.Substitutions.{Present, Sorted, SortedSlot, Fronts as Sides}
use Rattle.snowcat_rows.specs.FieldNames.{names, names_differ, differ_layer}
use Rattle.snowcat_rows.specs.TypeTexts.{Syntax, Syntaxes, Fields, bool, int, str, named, variable, set, seq, function, tuple, record_of, constant, operator, end, more, last, also, names_of, is_among, are_distinct, is_formed, are_formed, fields_formed, is_name, is_operand, is_row, is_variable, Fronts, KeepsFronts, AllKeep, FieldsKeep, RowAfter}
use Rattle.snowcat_rows.specs.Texts.{form_layer}
use Rattle.snowcat_rows.specs.Spellings.{Spelt, spelt, spelling, syntax_layer, left_of_arrow, right_of_arrow, both, others, other_fields, row_name, operator_of}
use Rattle.snowcat_rows.specs.inner.Below.{Below, BelowSlot, EndBelow}
use Rattle.snowcat_rows.specs.Spellable.{HasText, HaveTexts, FieldHasText}
use Rattle.snowcat_rows.proofs.Means.{mean_out}
use Rattle.snowcat_rows.proofs.Naming.{differ_out}
use Rattle.snowcat_rows.proofs.Words.{itself, same_bytes, join, to_yes}
use Rattle.snowcat_rows.proofs.Sayings.{turned, turned_not}
use Rattle.snowcat_rows.proofs.SpellingLaw.{spelt_opened, spelt_out, some_is, got, got_one}

-- ---- numbers of variables in their names

own : IsNumeralModel (AllDigits 10) (digits_value 10)
own = numerals_by_value (AllDigits 10) tells_digits

-- the number of a variable that is shown
abbrev pub number_in : List ℕ → ℕ
number_in [] = 0
number_in (c ∷ cs) = letter_count * digits_value 10 cs + (c - 97)

round_number : (k : ℕ) → k < 2 ^ 32 → digits_value 10 (round_text k) ≡ k
round_number k h = elim (cases_Bool (k == 0)) [
  | inl e ↦ let z : k ≡ 0 = grind (arith, e) in rw e (sym z)
  | inr e ↦ rw e (digits_value-decimal own k (omega (arith, h)))
]

pub shown_number : (n : ℕ) → n < 2 ^ 32 → number_in (variable_text n) ≡ n
unfolding variable_text
shown_number n h =
    let small : n / letter_count < 2 ^ 32 = omega (arith, h) in
    let letter_is : letter (n % letter_count) - 97 ≡ n % letter_count = omega arith in
    ap (λ z. letter_count * z + (letter (n % letter_count) - 97)) (round_number (n / letter_count) small)
    ∙ ap (λ z. letter_count * (n / letter_count) + z) letter_is ∙ div-add-mod n letter_count

digits_only : (ds : List ℕ) → AllDigits 10 ds → list_all is_digit ds ≡ true
digits_only [] h = refl
digits_only (d ∷ ds) h = let k = digit_from_value d h.0 in let e : is_digit d ≡ true = grind (arith, k.0, k.1) in rw e (digits_only ds h.1)

round_digits : (k : ℕ) → k < 2 ^ 32 → list_all is_digit (round_text k) ≡ true
round_digits k h = elim (cases_Bool (k == 0)) [
  | inl e ↦ rw e refl
  | inr e ↦ rw e (digits_only (decimal k) (digits_decimal own k (omega (arith, h))))
]

letter_small : (n : ℕ) → is_small (letter (n % letter_count)) ≡ true
letter_small n = grind arith

variable_formed : (n : ℕ) → n < 2 ^ 32 → IsTrue (is_variable (variable_text n))
unfolding variable_text
variable_formed n h = to_yes _ (rw (letter_small n) (round_digits (n / letter_count) (omega (arith, h))))

abbrev by_names : Sides → Fronts
by_names l x n = l (number_in x) n

-- ---- what is claimed of a type

record Spells (o : Option Syntax) (t : Term) : Type 0 where
  syntax_of : Syntax
  is : o ≡ Some syntax_of
  formed : IsTrue (is_formed syntax_of)
  keeps : (l : Sides) → Sorted l t → KeepsFronts (by_names l) syntax_of

record Claim (t : Ty) : Type 0 where
  operand : (s : Syntax) → spelling t ≡ Some s → IsTrue (is_operand (left_of_arrow (spelt t).form s))
  spells : HasText (mean t) → Below (2 ^ 32) (mean t) → names_differ t ≡ true → Spells (spelling t) (mean t)

abbrev Such : Type 0
Such = (t : Ty) × Claim t

abbrev plain : Such → Ty
plain e = e.0

abbrev spelt_of : List Such → List Spelt
spelt_of ts = map spelt (map plain ts)

abbrev means_of : List Such → List Term
means_of ts = map mean (map plain ts)

abbrev differ_of : List Such → List Bool
differ_of ts = map names_differ (map plain ts)

pair : (a b : Bool) → (a && b) ≡ true → (a ≡ true) × (b ≡ true)
pair true true h = (refl, refl)
pair true false h = absurd (cc)
pair false b h = absurd (cc)

both_are : {A B C : Type 0} (f : A → B → C) (a : Option A) (b : Option B) (x : A) (y : B) → a ≡ Some x → b ≡ Some y → both f a b ≡ Some (f x y)
both_are f a b x y e g = rw e (rw g refl)

operator_are : (a : Option Syntax) (b : Option Syntaxes) (c : Option Syntax) (x : Syntax) (y : Syntaxes) (z : Syntax) → a ≡ Some x → b ≡ Some y → c ≡ Some z →
    operator_of a b c ≡ Some (operator x y z)
operator_are a b c x y z e g h = rw e (rw g (rw h refl))

-- ---- items

record AllSpell (o : Option Syntaxes) (t : Term) : Type 0 where
  syntaxes : Syntaxes
  is : o ≡ Some syntaxes
  formed : IsTrue (are_formed syntaxes)
  keeps : (l : Sides) → Sorted l t → AllKeep (by_names l) syntaxes

all_spell : (ts : List Such) → HaveTexts (row (means_of ts)) → Below (2 ^ 32) (row (means_of ts)) → list_all (λ b. b) (differ_of ts) ≡ true →
    AllSpell (others (spelt_of ts)) (row (means_of ts))
all_spell [] h b d = record { syntaxes = end; is = refl; formed = refl; keeps = λ l k. tt }
all_spell (t ∷ ts) h b d =
    let e = pair (names_differ t.0) (list_all (λ b. b) (differ_of ts)) d in
    let r = t.1.spells h.0 b.0 e.0 in
    let q = all_spell ts h.1 b.1 e.1 in
    record {
      syntaxes = more r.syntax_of q.syntaxes;
      is = both_are more (spelling t.0) (others (spelt_of ts)) r.syntax_of q.syntaxes r.is q.is;
      formed = join (is_formed r.syntax_of) (are_formed q.syntaxes) r.formed q.formed;
      keeps = λ l k. (r.keeps l k.0, q.keeps l k.1);
    }

-- ---- fields

abbrev Named : Type 0
Named = List ℕ × Such

abbrev plain_fields : List Named → List (List ℕ × Ty)
plain_fields fs = map (λ p. (p.0, plain p.1)) fs

abbrev spelt_fields : List Named → List (List ℕ × Spelt)
spelt_fields fs = map (λ p. (p.0, spelt p.1)) (plain_fields fs)

abbrev means_fields : List Named → List (List ℕ × Term)
means_fields fs = map (λ p. (p.0, mean p.1)) (plain_fields fs)

abbrev differ_fields : List Named → List (List ℕ × Bool)
differ_fields fs = map (λ p. (p.0, names_differ p.1)) (plain_fields fs)

not_among : (b : Bool) → not b ≡ true → b ≡ false
not_among false h = refl
not_among true h = absurd (cc)

lacks : (n : List ℕ) (fs : List (List ℕ × Term)) → is_among n (names fs) ≡ false → lookup fs n ≡ none
lacks n [] h = refl
lacks n (f ∷ fs) h =
    let k = neither (bytes_eq n f.0) (is_among n (names fs)) h in
    rw (turned_not n f.0 k.0) (lacks n fs k.1)
  where
    neither : (a b : Bool) → (a || b) ≡ false → (a ≡ false) × (b ≡ false)
    neither false false h = (refl, refl)
    neither false true h = absurd (cc)
    neither true b h = absurd (cc)

-- what holds of every field holds of the first, and of the others where none has its name
first_slot : (P : List ℕ → Slot → Type 0) (f : List ℕ × Term) (fs : List (List ℕ × Term)) → ((n : List ℕ) → P n (lookup (f ∷ fs) n)) → P f.0 (some f.1)
first_slot P f fs h =
    let e : lookup (f ∷ fs) f.0 ≡ some f.1 = rw (itself f.0) refl in
    let Q : Slot → Type 0 = λ z. P f.0 z in
    subst Q e (h f.0)

other_slots : (P : List ℕ → Slot → Type 0) (f : List ℕ × Term) (fs : List (List ℕ × Term)) → ((n : List ℕ) → P n none) → is_among f.0 (names fs) ≡ false →
    ((n : List ℕ) → P n (lookup (f ∷ fs) n)) → (n : List ℕ) → P n (lookup fs n)
other_slots P f fs o a h n = elim (cases_Bool (bytes_eq f.0 n)) [
  | inl e ↦
      let m : lookup fs n ≡ none = lacks n fs (ap (λ z. is_among z (names fs)) (sym (same_bytes f.0 n e)) ∙ a) in
      let Q : Slot → Type 0 = λ z. P n z in
      subst Q (sym m) (o n)
  | inr e ↦
      let m : lookup (f ∷ fs) n ≡ lookup fs n = rw e refl in
      let Q : Slot → Type 0 = λ z. P n z in
      subst Q m (h n)
]

abbrev Texts : List ℕ → Slot → Type 0
Texts n x = FieldHasText n x

abbrev Small : List ℕ → Slot → Type 0
Small n x = BelowSlot (2 ^ 32) x

abbrev Sort : Sides → List ℕ → Slot → Type 0
Sort l n x = SortedSlot l x

same_names : (fs : List Named) → names (differ_fields fs) ≡ names (means_fields fs)
same_names [] = refl
same_names (f ∷ fs) = ap (λ z. f.0 ∷ z) (same_names fs)

record FieldsSpell (o : Option Fields) (fs : List (List ℕ × Term)) : Type 0 where
  syntaxes : Fields
  is : o ≡ Some syntaxes
  formed : IsTrue (fields_formed syntaxes)
  called : names_of syntaxes ≡ names fs
  keeps : (l : Sides) → ((n : List ℕ) → SortedSlot l (lookup fs n)) → FieldsKeep (by_names l) syntaxes

-- the first field, and the others
record OneSpells (f : Named) (fs : List Named) : Type 0 where
  syntax_of : Syntax
  rest : Fields
  is : spelling f.1.0 ≡ Some syntax_of
  are : other_fields (spelt_fields fs) ≡ Some rest
  name : IsTrue (is_name f.0)
  formed : IsTrue (is_formed syntax_of)
  all_formed : IsTrue (fields_formed rest)
  called : names_of rest ≡ names (means_fields fs)
  keeps : (l : Sides) → ((n : List ℕ) → SortedSlot l (lookup (means_fields (f ∷ fs)) n)) → KeepsFronts (by_names l) syntax_of × FieldsKeep (by_names l) rest

-- what is claimed of fields
abbrev Claims : List Named → Type 0
Claims fs =
    ((n : List ℕ) → Texts n (lookup (means_fields fs) n)) → ((n : List ℕ) → Small n (lookup (means_fields fs) n)) →
    are_distinct (names (differ_fields fs)) ≡ true → list_all (λ g. g.1) (differ_fields fs) ≡ true → FieldsSpell (other_fields (spelt_fields fs)) (means_fields fs)

one_spells : (f : Named) (fs : List Named) → Claims fs → ((n : List ℕ) → Texts n (lookup (means_fields (f ∷ fs)) n)) →
    ((n : List ℕ) → Small n (lookup (means_fields (f ∷ fs)) n)) → are_distinct (names (differ_fields (f ∷ fs))) ≡ true →
    list_all (λ g. g.1) (differ_fields (f ∷ fs)) ≡ true → OneSpells f fs
one_spells f fs c h b d a =
    let m : List ℕ × Term = (f.0, mean f.1.0) in
    let ms = means_fields fs in
    let u = pair (not (is_among f.0 (names (differ_fields fs)))) (are_distinct (names (differ_fields fs))) d in
    let v = pair (names_differ f.1.0) (list_all (λ g. g.1) (differ_fields fs)) a in
    let w : is_among f.0 (names ms) ≡ false = ap (λ z. is_among f.0 z) (sym (same_names fs)) ∙ not_among (is_among f.0 (names (differ_fields fs))) u.0 in
    let t = first_slot Texts m ms h in
    let r = f.1.1.spells t.1 (first_slot Small m ms b) v.0 in
    let q = c (other_slots Texts m ms (λ n. tt) w h) (other_slots Small m ms (λ n. tt) w b) u.1 v.1 in
    record {
      syntax_of = r.syntax_of;
      rest = q.syntaxes;
      is = r.is;
      are = q.is;
      name = t.0;
      formed = r.formed;
      all_formed = q.formed;
      called = q.called;
      keeps = λ l k. (r.keeps l (first_slot (Sort l) m ms k), q.keeps l (other_slots (Sort l) m ms (λ n. tt) w k));
    }

fields_spell : (fs : List Named) → Claims fs
fields_spell [] h b d a = record { syntaxes = last; is = refl; formed = refl; called = refl; keeps = λ l k. tt }
fields_spell (f ∷ fs) h b d a =
    let r = one_spells f fs (fields_spell fs) h b d a in
    record {
      syntaxes = also f.0 r.syntax_of r.rest;
      is = both_are (also f.0) (spelling f.1.0) (other_fields (spelt_fields fs)) r.syntax_of r.rest r.is r.are;
      formed = join (is_name f.0 && is_formed r.syntax_of) (fields_formed r.rest) (join (is_name f.0) (is_formed r.syntax_of) r.name r.formed) r.all_formed;
      called = ap (λ z. f.0 ∷ z) r.called;
      keeps = r.keeps;
    }

-- a row variable stands after the names of its record
present_is : (fs : List (List ℕ × Term)) (n : List ℕ) (b : Bool) → Present (lookup fs n) b → b ≡ is_among n (names fs)
present_is [] n true h = absurd (h refl)
present_is [] n false h = refl
present_is (f ∷ fs) n b h = elim (cases_Bool (bytes_eq f.0 n)) [
  | inl e ↦
      let m : lookup (f ∷ fs) n ≡ some f.1 = rw e refl in
      let P : Slot → Type 0 = λ z. Present z b in
      let i : b ≡ true = subst P m h in
      rw (turned f.0 n e) i
  | inr e ↦
      let m : lookup (f ∷ fs) n ≡ lookup fs n = rw e refl in
      let P : Slot → Type 0 = λ z. Present z b in
      rw (turned_not f.0 n e) (present_is fs n b (subst P m h))
]

row_kept : (l : Sides) (fs : List (List ℕ × Term)) (xs : List (List ℕ)) (k : Option ℕ) → xs ≡ names fs → ((r : ℕ) → k ≡ Some r → r < 2 ^ 32) →
    ((r : ℕ) → k ≡ Some r → (n : List ℕ) → Present (lookup fs n) (l r n)) → RowAfter (by_names l) xs (row_name k)
row_kept l fs xs None e b h = tt
row_kept l fs xs (Some r) e b h = λ n.
    ap (λ z. l z n) (shown_number r (b r refl)) ∙ present_is fs n (l r n) (h r refl n) ∙ ap (λ z. is_among n z) (sym e)

row_formed : (k : Option ℕ) → ((r : ℕ) → k ≡ Some r → r < 2 ^ 32) → IsTrue (is_row (row_name k))
row_formed None b = refl
row_formed (Some r) b = variable_formed r (b r refl)

end_small : (k : Option ℕ) → EndBelow (2 ^ 32) k → (r : ℕ) → k ≡ Some r → r < 2 ^ 32
end_small None h r e = absurd (cc)
end_small (Some q) h r e = let P : ℕ → Type 0 = λ z. z < 2 ^ 32 in subst P (number_is q r e) h
  where
    number_is : (a b : ℕ) → Some a ≡ Some b → a ≡ b
    number_is a b e = cc

-- ---- operands

formed_left : (f : Form) (s : Syntax) → IsTrue (is_formed s) → IsTrue (is_formed (left_of_arrow f s))
formed_left Operand s h = h
formed_left Function s h = h
formed_left Operator s h = h

formed_right : (f : Form) (s : Syntax) → IsTrue (is_formed s) → IsTrue (is_formed (right_of_arrow f s))
formed_right Operand s h = h
formed_right Function s h = h
formed_right Operator s h = h

keeps_left : (l : Fronts) (f : Form) (s : Syntax) → KeepsFronts l s → KeepsFronts l (left_of_arrow f s)
keeps_left l Operand s h = h
keeps_left l Function s h = h
keeps_left l Operator s h = h

keeps_right : (l : Fronts) (f : Form) (s : Syntax) → KeepsFronts l s → KeepsFronts l (right_of_arrow f s)
keeps_right l Operand s h = h
keeps_right l Function s h = h
keeps_right l Operator s h = h

operand_is : (s v : Syntax) → s ≡ v → IsTrue (is_operand s) → IsTrue (is_operand v)
operand_is s v e h = let P : Syntax → Type 0 = λ z. IsTrue (is_operand z) in subst P e h

abbrev spelt_at : layer.Ty-F Such → layer.Ty-F Spelt
spelt_at y = map-Ty Ty Spelt spelt (map-Ty Such Ty plain y)

abbrev mean_at : layer.Ty-F Such → Term
mean_at y = mean_layer (map-Ty Ty Term mean (map-Ty Such Ty plain y))

abbrev differ_at : layer.Ty-F Such → Bool
differ_at y = differ_layer (map-Ty Ty Bool names_differ (map-Ty Such Ty plain y))

operand_at : (y : layer.Ty-F Such) (s : Syntax) → syntax_layer (spelt_at y) ≡ Some s → IsTrue (is_operand (left_of_arrow (form_layer (spelt_at y)) s))
operand_at layer.Bool s e = operand_is bool s (some_is bool s e) refl
operand_at layer.Int s e = operand_is int s (some_is int s e) refl
operand_at layer.Str s e = operand_is str s (some_is str s e) refl
operand_at (layer.Named x) s e = operand_is (named x) s (some_is (named x) s e) refl
operand_at (layer.Var n) s e = let v = variable (variable_text n) in operand_is v s (some_is v s e) refl
operand_at (layer.Set a) s e = let g = got_one set (spelling a.0) s e in operand_is (set g.0) s g.2 refl
operand_at (layer.Seq a) s e = let g = got_one seq (spelling a.0) s e in operand_is (seq g.0) s g.2 refl
operand_at (layer.Fun a c) s e = refl
operand_at (layer.Tup []) s e = absurd (cc)
operand_at (layer.Tup (t ∷ ts)) s e = let g = got tuple (spelling t.0) (others (spelt_of ts)) s e in operand_is (tuple g.0 g.1) s g.4 refl
operand_at (layer.Rec [] k) s e = absurd (cc)
operand_at (layer.Rec (f ∷ fs) k) s e =
    let g = got (λ u us. record_of f.0 u us (row_name k)) (spelling f.1.0) (other_fields (spelt_fields fs)) s e in
    operand_is (record_of f.0 g.0 g.1 (row_name k)) s g.4 refl
operand_at (layer.Oper ts c) s e = refl

-- ---- a type by its layer

spells_at : (y : layer.Ty-F Such) → HasText (mean_at y) → Below (2 ^ 32) (mean_at y) → differ_at y ≡ true → Spells (syntax_layer (spelt_at y)) (mean_at y)
spells_at layer.Bool h b d = record { syntax_of = bool; is = refl; formed = refl; keeps = λ l k. tt }
spells_at layer.Int h b d = record { syntax_of = int; is = refl; formed = refl; keeps = λ l k. tt }
spells_at layer.Str h b d = record { syntax_of = str; is = refl; formed = refl; keeps = λ l k. tt }
spells_at (layer.Named x) h b d = record { syntax_of = named x; is = refl; formed = h; keeps = λ l k. tt }
spells_at (layer.Var n) h b d = record { syntax_of = variable (variable_text n); is = refl; formed = variable_formed n b; keeps = λ l k. tt }
spells_at (layer.Set a) h b d =
    let r = a.1.spells h b.1 d in
    record { syntax_of = set r.syntax_of; is = ap (λ z. option_map set z) r.is; formed = r.formed; keeps = λ l k. r.keeps l k.1 }
spells_at (layer.Seq a) h b d =
    let r = a.1.spells h b.1 d in
    record { syntax_of = seq r.syntax_of; is = ap (λ z. option_map seq z) r.is; formed = r.formed; keeps = λ l k. r.keeps l k.1 }
spells_at (layer.Fun a c) h b d =
    let x = a.0 in
    let y = c.0 in
    let e = pair (names_differ x) (names_differ y) d in
    let r = a.1.spells h.0 b.1.0 e.0 in
    let q = c.1.spells h.1 b.1.1 e.1 in
    let p = (spelt x).form in
    let o = (spelt y).form in
    let s = left_of_arrow p r.syntax_of in
    let t = right_of_arrow o q.syntax_of in
    let operand : IsTrue (is_operand s) = a.1.operand r.syntax_of r.is in
    record {
      syntax_of = function s t;
      is = both_are (λ u v. function (left_of_arrow p u) (right_of_arrow o v)) (spelling x) (spelling y) r.syntax_of q.syntax_of r.is q.is;
      formed = join (is_operand s && is_formed s) (is_formed t) (join (is_operand s) (is_formed s) operand (formed_left p r.syntax_of r.formed)) (formed_right o q.syntax_of q.formed);
      keeps = λ l k. (keeps_left (by_names l) p r.syntax_of (r.keeps l k.1.0), keeps_right (by_names l) o q.syntax_of (q.keeps l k.1.1));
    }
spells_at (layer.Tup []) h b d = absurd (h)
spells_at (layer.Tup (t ∷ ts)) h b d =
    let e = pair (names_differ t.0) (list_all (λ z. z) (differ_of ts)) d in
    let r = t.1.spells h.0 b.1.0 e.0 in
    let q = all_spell ts h.1 b.1.1 e.1 in
    record {
      syntax_of = tuple r.syntax_of q.syntaxes;
      is = both_are tuple (spelling t.0) (others (spelt_of ts)) r.syntax_of q.syntaxes r.is q.is;
      formed = join (is_formed r.syntax_of) (are_formed q.syntaxes) r.formed q.formed;
      keeps = λ l k. (r.keeps l k.1.0, q.keeps l k.1.1);
    }
spells_at (layer.Rec [] j) h b d = absurd (clash h.1.1 h.1.2)
  where
    clash : (t : Term) → none ≡ some t → ⊥
    clash t e = cc
spells_at (layer.Rec (f ∷ fs) j) h b d =
    let e = pair (are_distinct (names (differ_fields (f ∷ fs)))) (list_all (λ z. z.1) (differ_fields (f ∷ fs))) d in
    let r = one_spells f fs (fields_spell fs) h.0 b.0 e.0 e.1 in
    let xs = f.0 ∷ names_of r.rest in
    let ms = means_fields (f ∷ fs) in
    let called : xs ≡ names ms = ap (λ z. f.0 ∷ z) r.called in
    let distinct : are_distinct xs ≡ true = ap are_distinct (called ∙ sym (same_names (f ∷ fs))) ∙ e.0 in
    let small = end_small j b.1 in
    let n = is_name f.0 in
    let s = is_formed r.syntax_of in
    let fields_of = fields_formed r.rest in
    record {
      syntax_of = record_of f.0 r.syntax_of r.rest (row_name j);
      is = both_are (λ u us. record_of f.0 u us (row_name j)) (spelling f.1.0) (other_fields (spelt_fields fs)) r.syntax_of r.rest r.is r.are;
      formed = join (n && s && fields_of && are_distinct xs) (is_row (row_name j))
          (join (n && s && fields_of) (are_distinct xs) (join (n && s) fields_of (join n s r.name r.formed) r.all_formed) (to_yes (are_distinct xs) distinct)) (row_formed j small);
      keeps = λ l k. (let g = r.keeps l k.0 in (g.0, g.1, row_kept l ms xs j called small k.1));
    }
spells_at (layer.Oper [] c) h b d =
    let r = c.1.spells h.1 b.1.1 d in
    record { syntax_of = constant r.syntax_of; is = ap (λ z. option_map constant z) r.is; formed = r.formed; keeps = λ l k. r.keeps l k.1.1 }
spells_at (layer.Oper (t ∷ ts) c) h b d =
    let e = pair (list_all (λ z. z) (differ_of (t ∷ ts))) (names_differ c.0) d in
    let i = pair (names_differ t.0) (list_all (λ z. z) (differ_of ts)) e.0 in
    let r = t.1.spells h.0.0 b.1.0.0 i.0 in
    let q = all_spell ts h.0.1 b.1.0.1 i.1 in
    let u = c.1.spells h.1 b.1.1 e.1 in
    record {
      syntax_of = operator r.syntax_of q.syntaxes u.syntax_of;
      is = operator_are (spelling t.0) (others (spelt_of ts)) (spelling c.0) r.syntax_of q.syntaxes u.syntax_of r.is q.is u.is;
      formed = join (is_formed r.syntax_of && are_formed q.syntaxes) (is_formed u.syntax_of) (join (is_formed r.syntax_of) (are_formed q.syntaxes) r.formed q.formed) u.formed;
      keeps = λ l k. (r.keeps l k.1.0.0, q.keeps l k.1.0.1, u.keeps l k.1.1);
    }

all_claims : (t : Ty) → Claim t
all_claims = ind-Ty Claim (λ x y is.
    let o : out-Ty (roll-Ty x) ≡ map-Ty Such Ty plain y = out-roll-Ty x ∙ sym is in
    let here : spelt (roll-Ty x) ≡ spelt_opened (map-Ty Such Ty plain y) = spelt_out (roll-Ty x) ∙ ap spelt_opened o in
    let there : mean (roll-Ty x) ≡ mean_at y = mean_out (roll-Ty x) ∙ ap (λ z. mean_layer (map-Ty Ty Term mean z)) o in
    let names : names_differ (roll-Ty x) ≡ differ_at y = differ_out (roll-Ty x) ∙ ap (λ z. differ_layer (map-Ty Ty Bool names_differ z)) o in
    let P : Spelt → Type 0 = λ z. (s : Syntax) → z.syntax_of ≡ Some s → IsTrue (is_operand (left_of_arrow z.form s)) in
    let Q : Spelt → Term → Type 0 = λ z m. Spells z.syntax_of m in
    let H : Term → Type 0 = λ z. HasText z in
    let B : Term → Type 0 = λ z. Below (2 ^ 32) z in
    let R : Spelt → Type 0 = λ z. Q z (mean (roll-Ty x)) in
    let S : Term → Type 0 = λ z. Q (spelt_opened (map-Ty Such Ty plain y)) z in
    record {
      operand = subst P (sym here) (operand_at y);
      spells = λ h b d. subst R (sym here) (subst S (sym there) (spells_at y (subst H there h) (subst B there b) (sym names ∙ d)));
    })

-- the spelling of a type that can be written
pub has_spelling : (t : Ty) → HasText (mean t) → Below (2 ^ 32) (mean t) → names_differ t ≡ true → (l : Sides) → Sorted l (mean t) →
    (s : Syntax) × (spelling t ≡ Some s) × IsTrue (is_formed s) × ((k : Fronts) × KeepsFronts k s)
has_spelling t h b d l k =
    let r = (all_claims t).spells h b d in
    (r.syntax_of, r.is, r.formed, (by_names l, r.keeps l k))
