-- Words and their bytes.
use Rattle.std.proofs.Common.{◌≡◌, ℕ, Bool, true, false, ◌&&◌, inl, inr, List, [], ◌∷◌, ◌++◌, refl, ap, codes, Some, IsTrue, arith}
use Rattle.std.specs.Prelude.{bytes_eq, ◌==◌, if◌then◌else◌}
use Rattle.std.specs.List.{list_all}
use Rattle.std.proofs.lemmas.Bool.{cases_Bool}
use Rattle.std.proofs.lemmas.Bool.Decides.{eqb_tells}
use Rattle.std.proofs.lemmas.Slice.Eq.{bytes_eq-Decides}
use Rattle.snowcat_rows.specs.declared.marks.Mark.{Mark}
use Rattle.snowcat_rows.specs.declared.marks.Mark.TheVariants as mark
use Rattle.snowcat_rows.specs.declared.marks.Frame.{Frame}
use Rattle.snowcat_rows.specs.declared.marks.Sign.{Sign}
use Rattle.snowcat_rows.specs.declared.marks.Sign.TheVariants as sign
use Rattle.snowcat_rows.specs.LiteralTypes.{in_word, is_type_name, in_type_name, is_capital, is_small, is_digit}
use Rattle.snowcat_rows.specs.TypeTexts.{is_variable, is_name, has_letter}
use Rattle.snowcat_rows.specs.inner.Machine.{Rows, sign_of, begin_word, ended_word, behind_first}

pub same_bytes : (x y : List ℕ) → bytes_eq x y ≡ true → x ≡ y
same_bytes x y e = (bytes_eq-Decides x y).0 e

pub itself : (x : List ℕ) → bytes_eq x x ≡ true
itself x = (bytes_eq-Decides x x).1 refl

-- a word of another kind is another word
pub other : (p : List ℕ → Bool) (x y : List ℕ) → p x ≡ true → p y ≡ false → bytes_eq x y ≡ false
other p x y h k = elim (cases_Bool (bytes_eq x y)) [ inl e ↦ absurd (clash e) | inr e ↦ e ]
  where
    clash : bytes_eq x y ≡ true → ⊥
    clash e = let q : p x ≡ p y = ap p (same_bytes x y e) in cc

pub small_not_capital : (c : ℕ) → is_small c ≡ true → is_capital c ≡ false
small_not_capital c h = grind (arith)

pub capital_in_word : (c : ℕ) → is_capital c ≡ true → in_word c ≡ true
capital_in_word c h = rw h refl

pub small_in_word : (c : ℕ) → is_small c ≡ true → in_word c ≡ true
small_in_word c h = elim (cases_Bool (is_capital c)) [ inl e ↦ rw e refl | inr e ↦ rw e (rw h refl) ]

pub both_true : (a b : Bool) → IsTrue (a && b) → (a ≡ true) × (b ≡ true)
both_true true true h = (refl, refl)
both_true true false h = absurd (cc)
both_true false b h = absurd (cc)

pub split : (a b : Bool) → IsTrue (a && b) → IsTrue a × IsTrue b
split true true h = (refl, refl)
split true false h = absurd (cc)
split false b h = absurd (cc)

pub join : (a b : Bool) → IsTrue a → IsTrue b → IsTrue (a && b)
join true b h k = k
join false b h k = absurd (cc)

pub to_yes : (a : Bool) → a ≡ true → IsTrue a
to_yes true e = refl
to_yes false e = absurd (cc)

pub is_yes : (a : Bool) → IsTrue a → a ≡ true
is_yes true h = refl
is_yes false h = absurd (cc)

pub named_word : (x : List ℕ) (fs : List Frame) (rs : Rows) (o : List Mark) → IsTrue (is_type_name x) → begin_word x fs rs o ≡ ended_word (Some (mark.Named x)) fs rs o
named_word x fs rs o h =
    let k = is_yes (is_type_name x) h in
    rw (other is_type_name x (codes "Set") k refl) (rw (other is_type_name x (codes "Seq") k refl) (rw (other is_type_name x (codes "Bool") k refl)
    (rw (other is_type_name x (codes "Int") k refl) (rw (other is_type_name x (codes "Str") k refl) (rw k refl)))))

variable_no_name : (x : List ℕ) → is_variable x ≡ true → is_type_name x ≡ false
variable_no_name [] h = refl
variable_no_name (c ∷ cs) h = let k = both_true (is_small c) (list_all is_digit cs) (true_is (is_small c && list_all is_digit cs) h) in rw (small_not_capital c k.0) refl
  where
    true_is : (a : Bool) → a ≡ true → IsTrue a
    true_is true e = refl
    true_is false e = absurd (cc)

pub variable_word : (x : List ℕ) (fs : List Frame) (rs : Rows) (o : List Mark) → IsTrue (is_variable x) → begin_word x fs rs o ≡ ended_word (Some (mark.Var x)) fs rs o
variable_word x fs rs o h =
    let k = is_yes (is_variable x) h in
    rw (other is_variable x (codes "Set") k refl) (rw (other is_variable x (codes "Seq") k refl) (rw (other is_variable x (codes "Bool") k refl)
    (rw (other is_variable x (codes "Int") k refl) (rw (other is_variable x (codes "Str") k refl) (rw (variable_no_name x k) (rw k refl))))))

pub word_sign : (c : ℕ) (cs : List ℕ) → in_word c ≡ true → sign_of (c ∷ cs) ≡ sign.Word
word_sign c cs h = rw h refl

pub named_sign : (x : List ℕ) → IsTrue (is_type_name x) → sign_of x ≡ sign.Word
named_sign [] h = absurd (cc)
named_sign (c ∷ cs) h = word_sign c cs (capital_in_word c (both_true (is_capital c) (list_all in_type_name cs) h).0)

pub variable_sign : (x : List ℕ) → IsTrue (is_variable x) → sign_of x ≡ sign.Word
variable_sign [] h = absurd (cc)
variable_sign (c ∷ cs) h = word_sign c cs (small_in_word c (both_true (is_small c) (list_all is_digit cs) h).0)

pub name_sign : (x : List ℕ) → IsTrue (is_name x) → sign_of x ≡ sign.Word
name_sign [] h = absurd (cc)
name_sign (c ∷ cs) h = word_sign c cs (both_true (in_word c) (list_all in_word cs) (yes_is (list_all in_word (c ∷ cs)) (both_true (list_all in_word (c ∷ cs)) (has_letter (c ∷ cs)) h).0)).0
  where
    yes_is : (a : Bool) → a ≡ true → IsTrue a
    yes_is true e = refl
    yes_is false e = absurd (cc)

-- ---- what a piece is

pub equal_of : (a b : ℕ) → (a == b) ≡ true → a ≡ b
equal_of a b h = elim (eqb_tells a b) [ inl k ↦ k.1 | inr k ↦ absurd (clash k.0) ]
  where
    clash : (a == b) ≡ false → ⊥
    clash k = cc

abbrev pub starts_word : List ℕ → Bool
starts_word [] = false
starts_word (c ∷ cs) = in_word c

abbrev pub Signed : List ℕ → Sign → Type 0
Signed p sign.Word = starts_word p ≡ true
Signed p sign.Alias = p ≡ codes "$" ++ behind_first p
Signed p sign.Arrow = p ≡ codes "->"
Signed p sign.Result = p ≡ codes "=>"
Signed p sign.Comma = p ≡ codes ","
Signed p sign.Colon = p ≡ codes ":"
Signed p sign.Open = p ≡ codes "("
Signed p sign.Close = p ≡ codes ")"
Signed p sign.Left = p ≡ codes "<<"
Signed p sign.Right = p ≡ codes ">>"
Signed p sign.Begin = p ≡ codes "{"
Signed p sign.Finish = p ≡ codes "}"
Signed p s = Unit {0}

if_signed : (p : List ℕ) (b : Bool) (s t : Sign) → (b ≡ true → Signed p s) → Signed p t → Signed p (if b then s else t)
if_signed p true s t h k = h refl
if_signed p false s t h k = k

pub signed : (p : List ℕ) → Signed p (sign_of p)
signed [] = tt
signed (c ∷ cs) =
    let p = c ∷ cs in
    if_signed p (in_word c) _ _ (λ e. e)
    (if_signed p (c == 36) _ _ (λ e. ap (λ z. z ∷ cs) (equal_of c 36 e))
    (if_signed p (bytes_eq p (codes "->")) _ _ (same_bytes p (codes "->"))
    (if_signed p (bytes_eq p (codes "=>")) _ _ (same_bytes p (codes "=>"))
    (if_signed p (bytes_eq p (codes ",")) _ _ (same_bytes p (codes ","))
    (if_signed p (bytes_eq p (codes ":")) _ _ (same_bytes p (codes ":"))
    (if_signed p (bytes_eq p (codes "(")) _ _ (same_bytes p (codes "("))
    (if_signed p (bytes_eq p (codes ")")) _ _ (same_bytes p (codes ")"))
    (if_signed p (bytes_eq p (codes "<<")) _ _ (same_bytes p (codes "<<"))
    (if_signed p (bytes_eq p (codes ">>")) _ _ (same_bytes p (codes ">>"))
    (if_signed p (bytes_eq p (codes "{")) _ _ (same_bytes p (codes "{"))
    (if_signed p (bytes_eq p (codes "}")) sign.Finish sign.Bad (same_bytes p (codes "}")) tt)))))))))))
