-- What may begin can be completed.
use Rattle.std.proofs.Common.{◌≡◌, ℕ, zero, suc, ◌+◌, ◌<◌, Bool, true, false, ◌&&◌, ◌⊎◌, inl, inr, List, [], ◌∷◌, ◌++◌, length, refl, ap, sym, ◌∙◌, codes, Option, Some, None, IsTrue, arith}
use Rattle.std.specs.Prelude.{◌||◌, ◌==◌, not, bytes_eq}
use Rattle.std.specs.List.{list_all, list_any}
use Rattle.std.specs.Option.{is_some}
use Rattle.std.proofs.lemmas.Bool.{cases_Bool}
use Rattle.std.proofs.lemmas.List.{append-nil}
use Rattle.std.proofs.lemmas.Slice.Eq.{bytes_eq-Decides}
use Rattle.snowcat_rows.specs.declared.marks.Mark.{Mark}
use Rattle.snowcat_rows.specs.declared.marks.Mark.TheVariants as mark
use Rattle.snowcat_rows.specs.declared.marks.Frame.{Frame}
use Rattle.snowcat_rows.specs.declared.marks.Frame.TheVariants as frame
use Rattle.snowcat_rows.specs.declared.marks.Mode.{Mode}
use Rattle.snowcat_rows.specs.declared.marks.Mode.TheVariants as mode
use Rattle.snowcat_rows.specs.LiteralTypes.{in_word, is_type_name, is_capital, is_small}
use Rattle.snowcat_rows.specs.TypeTexts.{is_variable, is_name, is_among, has_letter}
use Rattle.snowcat_rows.specs.inner.Machine.{State, Rows, can_name, can_end, called_colon, called_end, at_mode, behind, onward, is_front, accepts, symbols, keywords, word_front, alias_front, word_goes, viable}
use Rattle.snowcat_rows.proofs.Words.{to_yes, both_true, is_yes, named_word, variable_word, named_sign, variable_sign, name_sign, equal_of}
use Rattle.snowcat_rows.proofs.Runs.{at, named_first}
use Rattle.snowcat_rows.proofs.Endings.{Fit, Shaped, Naming, closing, closes, Ends, ends_at}

-- ---- a name that does not stand before

abbrev letters : ℕ → List ℕ
letters zero = []
letters (suc n) = 97 ∷ letters n

abbrev total : List (List ℕ) → ℕ
total [] = 0
total (n ∷ ns) = length n + total ns

letters_long : (n : ℕ) → length (letters n) ≡ n
letters_long zero = refl
letters_long (suc n) = let e = letters_long n in omega (arith, e)

append_long : (xs ys : List ℕ) → length (xs ++ ys) ≡ length xs + length ys
append_long [] ys = omega arith
append_long (x ∷ xs) ys = let e = append_long xs ys in omega (arith, e)

not_among : (w : List ℕ) (ns : List (List ℕ)) → total ns < length w → is_among w ns ≡ false
not_among w [] h = refl
not_among w (n ∷ ns) h = elim (cases_Bool (bytes_eq w n)) [
  | inl e ↦ absurd (let k = ap (λ z. length z) ((bytes_eq-Decides w n).0 e) in omega (arith, h, k))
  | inr e ↦ rw e (not_among w ns (omega (arith, h)))
]

in_word_letters : (n : ℕ) → list_all in_word (letters n) ≡ true
in_word_letters zero = refl
in_word_letters (suc n) = in_word_letters n

in_word_append : (xs ys : List ℕ) → list_all in_word xs ≡ true → list_all in_word ys ≡ true → list_all in_word (xs ++ ys) ≡ true
in_word_append [] ys h k = k
in_word_append (x ∷ xs) ys h k = let p = both_true (in_word x) (list_all in_word xs) (to_yes (list_all in_word (x ∷ xs)) h) in rw p.0 (in_word_append xs ys p.1 k)

pub or_later : (a b : Bool) → b ≡ true → (a || b) ≡ true
or_later true b e = refl
or_later false b e = e

letter_append : (xs ys : List ℕ) → has_letter ys ≡ true → has_letter (xs ++ ys) ≡ true
letter_append [] ys h = h
letter_append (x ∷ xs) ys h = or_later (is_capital x || is_small x) (has_letter (xs ++ ys)) (letter_append xs ys h)

name_append : (w : List ℕ) (n : ℕ) → list_all in_word w ≡ true → is_name (w ++ letters (suc n)) ≡ true
name_append w n h = rw (in_word_append w (letters (suc n)) h (in_word_letters (suc n))) (letter_append w (letters (suc n)) refl)

new_name : (w : List ℕ) (ns : List (List ℕ)) → list_all in_word w ≡ true → can_name ns (w ++ letters (suc (total ns))) ≡ true
new_name w ns h =
    let k = not_among (w ++ letters (suc (total ns))) ns (let e = append_long w (letters (suc (total ns))) in let f = letters_long (suc (total ns)) in omega (arith, e, f)) in
    rw (name_append w (total ns) h) (rw k refl)

-- ---- from each state to the end

-- pieces that lead to the end
abbrev pub Way : Option State → Type 0
Way x = (ws : List (List ℕ)) × Ends (onward x ws)

pub way : (m : Mode) (fs : List Frame) (rs : Rows) (o : List Mark) → Shaped m rs fs → Way (Some (at m fs rs o))
way mode.Begins fs rs o h = (codes "Int" ∷ closing fs, closes fs h false fs rs (o ++ mark.Int ∷ []) (o ++ mark.Int ∷ []) refl)
way mode.Headed fs rs o h = (codes "(" ∷ codes "Int" ∷ closing fs, closes fs h false fs rs (o ++ mark.Int ∷ []) (o ++ mark.Int ∷ []) refl)
way mode.Name [] rs o h = absurd h
way mode.Name (frame.Fields ns ∷ fs) rs o h =
    let n = letters (suc (total ns)) in
    let k = both_true (is_name n) (not (is_among n ns)) (to_yes (can_name ns n) (new_name [] ns refl)) in
    let q = o ++ mark.Int ∷ [] in (
      n ∷ codes ":" ∷ codes "Int" ∷ closing (frame.Field ns n ∷ fs),
      ends_at _ _ (ap (λ z. onward z (codes "Int" ∷ closing (frame.Field ns n ∷ fs))) (named_first n fs rs o ns (to_yes (is_name n) k.0) (not_true (is_among n ns) k.1)))
          (closes (frame.Field ns n ∷ fs) h false (frame.Field ns n ∷ fs) rs q q refl),
    )
  where
    not_true : (a : Bool) → not a ≡ true → a ≡ false
    not_true true e = absurd (cc)
    not_true false e = refl
way mode.Name (f ∷ fs) rs o h = absurd h
way (mode.Called w) [] rs o h = absurd h
way (mode.Called w) (frame.Fields ns ∷ fs) rs o h = elim (cases_Bool (can_name ns w)) [
  | inl e ↦
      let q = o ++ mark.Int ∷ [] in (
        codes ":" ∷ codes "Int" ∷ closing (frame.Field ns w ∷ fs),
        ends_at _ _ (ap (λ z. onward z (codes "Int" ∷ closing (frame.Field ns w ∷ fs))) (colon ns w fs rs o e)) (closes (frame.Field ns w ∷ fs) h.1 false (frame.Field ns w ∷ fs) rs q q refl),
      )
  | inr e ↦
      let q = o ++ mark.Record ns (Some w) ∷ [] in (
        codes "}" ∷ closing fs,
        ends_at _ _ (ap (λ z. onward z (closing fs)) (finish ns w fs rs o (second (can_name ns w) (can_end rs ns w) h.0 e))) (closes fs h.1 false fs (rs ++ (w, ns) ∷ []) q q refl),
      )
]
  where
    second : (a b : Bool) → IsTrue (a || b) → a ≡ false → b ≡ true
    second true b h e = absurd (cc)
    second false b h e = is_yes b h

    colon : (ns : List (List ℕ)) (w : List ℕ) (fs : List Frame) (rs : Rows) (o : List Mark) → can_name ns w ≡ true →
        called_colon w (frame.Fields ns ∷ fs) rs o ≡ Some (at mode.Begins (frame.Field ns w ∷ fs) rs o)
    colon ns w fs rs o e = rw e refl

    finish : (ns : List (List ℕ)) (w : List ℕ) (fs : List Frame) (rs : Rows) (o : List Mark) → can_end rs ns w ≡ true →
        called_end w (frame.Fields ns ∷ fs) rs o ≡ Some (at (mode.Ended false) fs (rs ++ (w, ns) ∷ []) (o ++ mark.Record ns (Some w) ∷ []))
    finish ns w fs rs o e = rw e refl
way (mode.Called w) (f ∷ fs) rs o h = absurd h
way (mode.Ended b) fs rs o h = (closing fs, closes fs h b fs rs o o refl)
way mode.Closed fs rs o h =
    let q = o ++ mark.Int ∷ [] in
    (codes "=>" ∷ codes "Int" ∷ closing fs, closes fs h false (frame.Operator ∷ fs) rs (q ++ mark.Operator ∷ []) q refl)

pub way_of : (x : Option State) → Fit x → (y : State) → x ≡ Some y → Way x
way_of None f y e = absurd (cc)
way_of (Some x) f y e = way x.mode x.frames x.rows x.marks f.1

-- ---- a piece that has begun

-- it goes on to one that may come
abbrev pub Goes : State → List ℕ → Type 0
Goes x w = (rest : List ℕ) × (y : State) × (behind x (w ++ rest) ≡ Some y)

some_of : (x : Option State) → is_some x ≡ true → (y : State) × (x ≡ Some y)
some_of None h = absurd (cc)
some_of (Some y) h = (y, refl)

front_of : (w p : List ℕ) → is_front w p ≡ true → (rest : List ℕ) × (w ++ rest ≡ p)
front_of [] p h = (p, refl)
front_of (x ∷ w) [] h = absurd (cc)
front_of (x ∷ w) (y ∷ p) h =
    let k = both_true (x == y) (is_front w p) (to_yes (is_front (x ∷ w) (y ∷ p)) h) in
    let (rest, e) = front_of w p k.1 in
    (rest, ap (λ z. z ∷ w ++ rest) (equal_of x y k.0) ∙ ap (λ z. y ∷ z) e)

symbol_goes : (x : State) (w : List ℕ) (ps : List (List ℕ)) → list_any (λ p. is_front w p && accepts x p) ps ≡ true → Goes x w
symbol_goes x w [] h = absurd (cc)
symbol_goes x w (p ∷ ps) h = elim (cases_Bool (is_front w p && accepts x p)) [
  | inl e ↦
      let k = both_true (is_front w p) (accepts x p) (to_yes (is_front w p && accepts x p) e) in
      let (rest, f) = front_of w p k.0 in
      let (y, g) = some_of (behind x p) k.1 in
      (rest, y, ap (λ z. behind x z) f ∙ g)
  | inr e ↦ symbol_goes x w ps (let q : list_any (λ p. is_front w p && accepts x p) (p ∷ ps) ≡ list_any (λ p. is_front w p && accepts x p) ps = rw e refl in sym q ∙ h)
]

-- a word, as a type
abbrev Word : List Frame → Rows → List Mark → List ℕ → Type 0
Word fs rs o w = (rest : List ℕ) × (y : State) × (behind (at mode.Begins fs rs o) (w ++ rest) ≡ Some y)

keyword_goes : (fs : List Frame) (rs : Rows) (o : List Mark) (w : List ℕ) (k : List ℕ) (y : State) → behind (at mode.Begins fs rs o) k ≡ Some y → is_front w k ≡ true → Word fs rs o w
keyword_goes fs rs o w k y e h = let (rest, f) = front_of w k h in (rest, y, ap (λ z. behind (at mode.Begins fs rs o) z) f ∙ e)

pub or_cases : (a b : Bool) → (a || b) ≡ true → (a ≡ true) ⊎ (b ≡ true)
or_cases true b h = inl refl
or_cases false b h = inr h

whole_goes : (fs : List Frame) (rs : Rows) (o : List Mark) (w : List ℕ) (y : State) → behind (at mode.Begins fs rs o) w ≡ Some y → Word fs rs o w
whole_goes fs rs o w y e = ([], y, ap (λ z. behind (at mode.Begins fs rs o) z) (append-nil w) ∙ e)

front_goes : (fs : List Frame) (rs : Rows) (o : List Mark) (w : List ℕ) → word_front w ≡ true → Word fs rs o w
front_goes fs rs o w h = elim (or_cases (list_any (λ k. is_front w k) keywords || is_type_name w) (is_variable w) h) [
  | inl a ↦ elim (or_cases (list_any (λ k. is_front w k) keywords) (is_type_name w) a) [
    | inl b ↦ elim (or_cases (is_front w (codes "Bool")) _ b) [
      | inl k ↦ keyword_goes fs rs o w (codes "Bool") _ refl k
      | inr c ↦ elim (or_cases (is_front w (codes "Int")) _ c) [
        | inl k ↦ keyword_goes fs rs o w (codes "Int") _ refl k
        | inr d ↦ elim (or_cases (is_front w (codes "Str")) _ d) [
          | inl k ↦ keyword_goes fs rs o w (codes "Str") _ refl k
          | inr e ↦ elim (or_cases (is_front w (codes "Set")) _ e) [
            | inl k ↦ keyword_goes fs rs o w (codes "Set") _ refl k
            | inr f ↦ elim (or_cases (is_front w (codes "Seq")) false f) [
              | inl k ↦ keyword_goes fs rs o w (codes "Seq") _ refl k
              | inr g ↦ absurd (cc)
            ]
          ]
        ]
      ]
    ]
    | inr b ↦
        let k = to_yes (is_type_name w) b in
        whole_goes fs rs o w _ (ap (λ z. at_mode mode.Begins z w fs rs o) (named_sign w k) ∙ named_word w fs rs o k)
  ]
  | inr a ↦
      let k = to_yes (is_variable w) a in
      whole_goes fs rs o w _ (ap (λ z. at_mode mode.Begins z w fs rs o) (variable_sign w k) ∙ variable_word w fs rs o k)
]

alias_goes : (fs : List Frame) (rs : Rows) (o : List Mark) (w : List ℕ) → alias_front w ≡ true → Word fs rs o w
alias_goes fs rs o [] h = absurd (cc)
alias_goes fs rs o (c ∷ cs) h =
    let k = both_true (c == 36) (list_all in_word cs) (to_yes (alias_front (c ∷ cs)) h) in
    (letters 1, at (mode.Ended false) fs rs (o ++ mark.Alias (cs ++ letters 1) ∷ []), ap (λ z. behind (at mode.Begins fs rs o) (z ∷ cs ++ letters 1)) (equal_of c 36 k.0) ∙ rw (name_append cs 0 k.1) refl)

name_goes : (fs : List Frame) (rs : Rows) (o : List Mark) (w : List ℕ) → Naming fs → list_all in_word w ≡ true → (rest : List ℕ) × (y : State) × (behind (at mode.Name fs rs o) (w ++ rest) ≡ Some y)
name_goes [] rs o w f h = absurd f
name_goes (frame.Fields ns ∷ fs) rs o w f h =
    let rest = letters (suc (total ns)) in
    let k = new_name w ns h in
    let n = both_true (is_name (w ++ rest)) (not (is_among (w ++ rest) ns)) (to_yes (can_name ns (w ++ rest)) k) in
    (rest, at (mode.Called (w ++ rest)) (frame.Fields ns ∷ fs) rs o, ap (λ z. at_mode mode.Name z (w ++ rest) (frame.Fields ns ∷ fs) rs o) (name_sign (w ++ rest) (to_yes (is_name (w ++ rest)) n.0)) ∙ rw k refl)
name_goes (g ∷ fs) rs o w f h = absurd f

word_goes_on : (m : Mode) (fs : List Frame) (rs : Rows) (o : List Mark) (w : List ℕ) → Shaped m rs fs → word_goes m w ≡ true → (rest : List ℕ) × (y : State) × (behind (at m fs rs o) (w ++ rest) ≡ Some y)
word_goes_on mode.Begins fs rs o w f h = elim (or_cases (word_front w) (alias_front w) h) [ inl k ↦ front_goes fs rs o w k | inr k ↦ alias_goes fs rs o w k ]
word_goes_on mode.Headed fs rs o w f h = absurd (cc)
word_goes_on mode.Name fs rs o w f h = name_goes fs rs o w f h
word_goes_on (mode.Called n) fs rs o w f h = absurd (cc)
word_goes_on (mode.Ended b) fs rs o w f h = absurd (cc)
word_goes_on mode.Closed fs rs o w f h = absurd (cc)

pub goes : (x : State) (w : List ℕ) → Fit (Some x) → viable x w ≡ true → Goes x w
goes x w f h = elim (or_cases (list_any (λ p. is_front w p && accepts x p) symbols) (word_goes x.mode w) h) [
  | inl k ↦ symbol_goes x w symbols k
  | inr k ↦ word_goes_on x.mode x.frames x.rows x.marks w f.1 k
]
