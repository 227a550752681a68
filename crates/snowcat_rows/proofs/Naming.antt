-- Field names that differ, form by form, and in the marks of a text.
use Rattle.std.proofs.Common.{◌≡◌, ℕ, zero, suc, ◌<◌, length, get_or, arith, Bool, true, false, ◌&&◌, List, [], ◌∷◌, ◌++◌, map, refl, ap, sym, ◌∙◌, Option}
use Rattle.std.specs.List.{list_all}
use Rattle.std.specs.Prelude.{bytes_eq, not, ◌||◌}
use Rattle.std.proofs.lemmas.List.Folds.{list_all-append, list_all-map}
use Rattle.snowcat_rows.specs.declared.types.Ty.{Ty, out-Ty, Bool as Truth, Int, Str, Named, Var, Set, Seq, Fun, Tup, Rec, Oper}
use Rattle.snowcat_rows.specs.declared.types.Ty.TheVariants.{outs-Bool, outs-Int, outs-Str, outs-Named, outs-Var, outs-Set, outs-Seq, outs-Fun, outs-Tup, outs-Rec, outs-Oper}
use Rattle.snowcat_rows.specs.declared.types.Ty.TheOpen as layer
use Rattle.snowcat_rows.specs.declared.types.Ty.TheFolds.{fold_out-Ty, map-Ty}
use Rattle.snowcat_rows.specs.declared.marks.Mark.{Mark}
use Rattle.snowcat_rows.specs.declared.marks.Mark.TheVariants as mark
use Rattle.snowcat_rows.specs.Types.{Term, mean}
use Rattle.snowcat_rows.specs.Codes.{named}
use Rattle.snowcat_rows.specs.Readings.{zipped}
use Rattle.snowcat_rows.specs.TypeTexts.{Syntax, Syntaxes, Fields, bool, int, str, named as named_type, variable, alias, set, seq, function, tuple, record_of, constant, operator, parens, end, more, last, also, names_of, is_among, are_distinct, is_formed, are_formed, fields_formed, is_operand, is_name, is_row}
use Rattle.snowcat_rows.specs.FieldNames.{names, differ_layer, names_differ}
use Rattle.snowcat_rows.specs.inner.Readers.{AreMarks}
use Rattle.snowcat_rows.specs.inner.Marks.{marked, more_marked, fields_marked}
use Rattle.snowcat_rows.specs.inner.Naming.{fields_named, mark_named}
use Rattle.snowcat_rows.proofs.Words.{to_yes, both_true}

abbrev Opened : layer.Ty-F Ty → Bool
Opened o = differ_layer (map-Ty Ty Bool names_differ o)

pub differ_out : (t : Ty) → names_differ t ≡ Opened (out-Ty t)
unfolding names_differ
differ_out t = fold_out-Ty Bool differ_layer t

differ_is : (t : Ty) (o : layer.Ty-F Ty) → out-Ty t ≡ o → names_differ t ≡ Opened o
differ_is t o e = differ_out t ∙ ap Opened e

each : (ts : List Ty) → list_all (λ b. b) (map names_differ ts) ≡ list_all names_differ ts
each ts = list_all-map (λ b. b) names_differ ts

abbrev told : List ℕ × Ty → List ℕ × Bool
told f = (f.0, names_differ f.1)

each_field : (fs : List (List ℕ × Ty)) → list_all (λ f. f.1) (map told fs) ≡ fields_named fs
each_field fs = list_all-map (λ f. f.1) told fs

each_name : (fs : List (List ℕ × Ty)) → names (map told fs) ≡ names fs
each_name [] = refl
each_name (f ∷ fs) = ap (λ z. f.0 ∷ z) (each_name fs)

pub differ-Bool : names_differ Truth ≡ true
differ-Bool = differ_is Truth _ outs-Bool

pub differ-Int : names_differ Int ≡ true
differ-Int = differ_is Int _ outs-Int

pub differ-Str : names_differ Str ≡ true
differ-Str = differ_is Str _ outs-Str

pub differ-Named : (x : List ℕ) → names_differ (Named x) ≡ true
differ-Named x = differ_is (Named x) _ (outs-Named x)

pub differ-Var : (n : ℕ) → names_differ (Var n) ≡ true
differ-Var n = differ_is (Var n) _ (outs-Var n)

pub differ-Set : (a : Ty) → names_differ (Set a) ≡ names_differ a
differ-Set a = differ_is (Set a) _ (outs-Set a)

pub differ-Seq : (a : Ty) → names_differ (Seq a) ≡ names_differ a
differ-Seq a = differ_is (Seq a) _ (outs-Seq a)

pub differ-Fun : (a b : Ty) → names_differ (Fun a b) ≡ (names_differ a && names_differ b)
differ-Fun a b = differ_is (Fun a b) _ (outs-Fun a b)

pub differ-Tup : (ts : List Ty) → names_differ (Tup ts) ≡ list_all names_differ ts
differ-Tup ts = differ_is (Tup ts) _ (outs-Tup ts) ∙ each ts

pub differ-Rec : (fs : List (List ℕ × Ty)) (k : Option ℕ) → names_differ (Rec fs k) ≡ (are_distinct (names fs) && fields_named fs)
differ-Rec fs k = differ_is (Rec fs k) _ (outs-Rec fs k) ∙ ap (λ l. are_distinct l && list_all (λ f. f.1) (map told fs)) (each_name fs) ∙ ap (λ b. are_distinct (names fs) && b) (each_field fs)

pub differ-Oper : (ts : List Ty) (b : Ty) → names_differ (Oper ts b) ≡ (list_all names_differ ts && names_differ b)
differ-Oper ts b = differ_is (Oper ts b) _ (outs-Oper ts b) ∙ ap (λ z. z && names_differ b) (each ts)

pub ruleset differs = (differ-Bool, differ-Int, differ-Str, differ-Named, differ-Var, differ-Set, differ-Seq, differ-Fun, differ-Tup, differ-Rec, differ-Oper)

-- ---- a front of names that differ

names_named : (fs : List (List ℕ × Ty)) → names (named fs) ≡ names fs
names_named [] = refl
names_named (f ∷ fs) = ap (λ z. f.0 ∷ z) (names_named fs)

pub and_not : (a b : Bool) → (not a && b) ≡ true → a ≡ false
and_not true b e = absurd (cc)
and_not false b e = refl

pub and_right : (a b : Bool) → (a && b) ≡ true → b ≡ true
and_right true b e = e
and_right false b e = absurd (cc)

pub or_parts : (a b : Bool) → (a || b) ≡ false → (a ≡ false) × (b ≡ false)
or_parts true b e = absurd (cc)
or_parts false b e = (refl, e)

not_among : (x : List ℕ) (ns : List (List ℕ)) (ts : List Term) → is_among x ns ≡ false → is_among x (names (zipped ns ts)) ≡ false
not_among x [] ts e = refl
not_among x (n ∷ ns) [] e = refl
not_among x (n ∷ ns) (t ∷ ts) e = let p = or_parts (bytes_eq x n) (is_among x ns) e in rw p.0 (not_among x ns ts p.1)

zipped_distinct : (ns : List (List ℕ)) (ts : List Term) → are_distinct ns ≡ true → are_distinct (names (zipped ns ts)) ≡ true
zipped_distinct [] ts e = refl
zipped_distinct (n ∷ ns) [] e = refl
zipped_distinct (n ∷ ns) (t ∷ ts) e =
    let p = and_not (is_among n ns) (are_distinct ns) e in
    rw (not_among n ns ts p) (zipped_distinct ns ts (and_right (not (is_among n ns)) (are_distinct ns) e))

pub fields_distinct : (ns : List (List ℕ)) (ts : List Term) (fs : List (List ℕ × Ty)) → named fs ≡ zipped ns ts → are_distinct ns ≡ true → are_distinct (names fs) ≡ true
fields_distinct ns ts fs e d = ap are_distinct (sym (names_named fs)) ∙ ap (λ z. are_distinct (names z)) e ∙ zipped_distinct ns ts d

pub record_named : (ns : List (List ℕ)) (ts : List Ty) (fs gs : List (List ℕ × Ty)) (k : Option ℕ) → named fs ≡ zipped ns (map mean ts) → are_distinct ns ≡ true → fields_named fs ≡ true → gs ≡ fs →
    names_differ (Rec gs k) ≡ true
record_named ns ts fs gs k e d h i =
    differ-Rec gs k ∙ ap (λ z. are_distinct (names z) && fields_named z) i ∙ ap (λ z. z && fields_named fs) (fields_distinct ns (map mean ts) fs e d) ∙ h

-- ---- one of a list

pub and_left : (a b : Bool) → (a && b) ≡ true → a ≡ true
and_left true b e = refl
and_left false b e = absurd (cc)

pub all_at : {X : Type 0} (p : X → Bool) (xs : List X) (i : ℕ) (x d : X) → i < length xs → x ≡ get_or xs i d → list_all p xs ≡ true → p x ≡ true
all_at p [] i x d lt e h = absurd (omega (arith, lt))
all_at p (y ∷ ys) zero x d lt e h = ap p e ∙ and_left (p y) (list_all p ys) h
all_at p (y ∷ ys) (suc i) x d lt e h = all_at p ys i x d (omega (arith, lt)) e (and_right (p y) (list_all p ys) h)

pub last_of : {X : Type 0} (p : X → Bool) (xs : List X) (x : X) → list_all p (xs ++ x ∷ []) ≡ true → (list_all p xs ≡ true) × (p x ≡ true)
last_of p xs x h =
    let e : (list_all p xs && (p x && true)) ≡ true = sym (list_all-append p xs (x ∷ [])) ∙ h in
    (and_left (list_all p xs) (p x && true) e, and_left (p x) true (and_right (list_all p xs) (p x && true) e))

-- ---- the marks of a type

abbrev All : List Mark → Type 0
All ms = list_all mark_named ms ≡ true

snoc : (o : List Mark) (m : Mark) → All o → mark_named m ≡ true → All (o ++ m ∷ [])
snoc o m h e = list_all-append mark_named o (m ∷ []) ∙ ap (λ z. z && (mark_named m && true)) h ∙ ap (λ z. z && true) e

mutual
  pub marks_named : (s : Syntax) (o : List Mark) → is_formed s ≡ true → All o → All (marked s o)
  marks_named bool o f h = snoc o mark.Bool h refl
  marks_named int o f h = snoc o mark.Int h refl
  marks_named str o f h = snoc o mark.Str h refl
  marks_named (named_type x) o f h = snoc o (mark.Named x) h refl
  marks_named (variable x) o f h = snoc o (mark.Var x) h refl
  marks_named (alias x) o f h = snoc o (mark.Alias x) h refl
  marks_named (set s) o f h = snoc (marked s o) mark.Set (marks_named s o f h) refl
  marks_named (seq s) o f h = snoc (marked s o) mark.Seq (marks_named s o f h) refl
  marks_named (function s t) o f h =
      let p = both_true (is_operand s && is_formed s) (is_formed t) (to_yes (is_formed (function s t)) f) in
      let q = both_true (is_operand s) (is_formed s) (to_yes (is_operand s && is_formed s) p.0) in
      snoc (marked t (marked s o)) mark.Function (marks_named t (marked s o) p.1 (marks_named s o q.1 h)) refl
  marks_named (tuple s ss) o f h =
      let p = both_true (is_formed s) (are_formed ss) (to_yes (is_formed (tuple s ss)) f) in
      snoc (more_marked ss (marked s o ++ mark.One ∷ [])) mark.Tuple (more_named ss (marked s o ++ mark.One ∷ []) p.1 (snoc (marked s o) mark.One (marks_named s o p.0 h) refl)) refl
  marks_named (record_of n s fs k) o f h =
      let a = is_name n in
      let d = are_distinct (n ∷ names_of fs) in
      let p = both_true (a && is_formed s && fields_formed fs && d) (is_row k) (to_yes (is_formed (record_of n s fs k)) f) in
      let q = both_true (a && is_formed s && fields_formed fs) d (to_yes (a && is_formed s && fields_formed fs && d) p.0) in
      let r = both_true (a && is_formed s) (fields_formed fs) (to_yes (a && is_formed s && fields_formed fs) q.0) in
      let t = both_true a (is_formed s) (to_yes (a && is_formed s) r.0) in
      snoc (fields_marked fs (marked s o ++ mark.One ∷ [])) (mark.Record (n ∷ names_of fs) k) (fields_marks_named fs (marked s o ++ mark.One ∷ []) r.1 (snoc (marked s o) mark.One (marks_named s o t.1 h) refl)) q.1
  marks_named (constant t) o f h = snoc (marked t (o ++ mark.Nothing ∷ [])) mark.Operator (marks_named t (o ++ mark.Nothing ∷ []) f (snoc o mark.Nothing h refl)) refl
  marks_named (operator s ss t) o f h =
      let p = both_true (is_formed s && are_formed ss) (is_formed t) (to_yes (is_formed (operator s ss t)) f) in
      let q = both_true (is_formed s) (are_formed ss) (to_yes (is_formed s && are_formed ss) p.0) in
      let i = more_named ss (marked s o ++ mark.One ∷ []) q.1 (snoc (marked s o) mark.One (marks_named s o q.0 h) refl) in
      snoc (marked t (more_marked ss (marked s o ++ mark.One ∷ []))) mark.Operator (marks_named t (more_marked ss (marked s o ++ mark.One ∷ [])) p.1 i) refl
  marks_named (parens s) o f h = marks_named s o f h

  more_named : (ss : Syntaxes) (o : List Mark) → are_formed ss ≡ true → All o → All (more_marked ss o)
  more_named end o f h = h
  more_named (more s ss) o f h =
      let p = both_true (is_formed s) (are_formed ss) (to_yes (are_formed (more s ss)) f) in
      more_named ss (marked s o ++ mark.Join ∷ []) p.1 (snoc (marked s o) mark.Join (marks_named s o p.0 h) refl)

  fields_marks_named : (fs : Fields) (o : List Mark) → fields_formed fs ≡ true → All o → All (fields_marked fs o)
  fields_marks_named last o f h = h
  fields_marks_named (also n s fs) o f h =
      let a = is_name n in
      let p = both_true (a && is_formed s) (fields_formed fs) (to_yes (fields_formed (also n s fs)) f) in
      let q = both_true a (is_formed s) (to_yes (a && is_formed s) p.0) in
      fields_marks_named fs (marked s o ++ mark.Join ∷ []) p.1 (snoc (marked s o) mark.Join (marks_named s o q.1 h) refl)

pub are_marks_named : (text : List ℕ) (ms : List Mark) → AreMarks text ms → list_all mark_named ms ≡ true
are_marks_named text ms (s, i, e) = ap (list_all mark_named) e ∙ marks_named s [] i.formed refl
