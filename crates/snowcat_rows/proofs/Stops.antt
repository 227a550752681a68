-- A piece ends where a byte stands that does not belong to it.
use Rattle.std.proofs.Common.{◌≡◌, ℕ, Bool, true, false, ◌&&◌, ◌⊎◌, inl, inr, List, [], ◌∷◌, ◌++◌, refl, ap, sym, ◌∙◌, subst, codes, Option, Some, None, arith}
use Rattle.std.specs.Prelude.{◌||◌, ◌==◌, bytes_eq, if◌then◌else◌}
use Rattle.std.specs.List.{list_all, list_any}
use Rattle.snowcat_rows.specs.declared.marks.Mark.{Mark}
use Rattle.snowcat_rows.specs.declared.marks.Frame.{Frame}
use Rattle.snowcat_rows.specs.declared.marks.Frame.TheVariants as frame
use Rattle.snowcat_rows.specs.declared.marks.Mode.{Mode}
use Rattle.snowcat_rows.specs.declared.marks.Mode.TheVariants as mode
use Rattle.snowcat_rows.specs.declared.marks.Sign.{Sign}
use Rattle.snowcat_rows.specs.declared.marks.Sign.TheVariants as sign
use Rattle.snowcat_rows.specs.LiteralTypes.{in_word, is_type_name}
use Rattle.snowcat_rows.specs.TypeTexts.{is_variable, is_name, is_blank}
use Rattle.snowcat_rows.specs.inner.Machine.{State, Rows, sign_of, behind_first, can_name, can_end, ended_word, word_mark, name_word, at_mode, behind, bind, is_front, accepts, symbols, keywords, word_front, word_goes, viable}
use Rattle.snowcat_rows.proofs.Words.{to_yes, starts_word, both_true, equal_of}
use Rattle.snowcat_rows.proofs.Ways.{or_cases}
use Rattle.snowcat_rows.proofs.Prefixes.{Kind, symbol, word, sigil, bad, kind, In, bad_none, variable_in_word, type_name_in_word}

-- ---- fronts of words are words

front_in_word : (w k : List ℕ) → list_all in_word k ≡ true → is_front w k ≡ true → list_all in_word w ≡ true
front_in_word [] k h e = refl
front_in_word (c ∷ w) [] h e = absurd (cc)
front_in_word (c ∷ w) (d ∷ k) h e =
    let p = both_true (c == d) (is_front w k) (to_yes (is_front (c ∷ w) (d ∷ k)) e) in
    let q = both_true (in_word d) (list_all in_word k) (to_yes (list_all in_word (d ∷ k)) h) in
    rw (ap in_word (equal_of c d p.0) ∙ q.0) (front_in_word w k q.1 p.1)

any_word : (w : List ℕ) (ks : List (List ℕ)) → list_all (λ k. list_all in_word k) ks ≡ true → list_any (λ k. is_front w k) ks ≡ true → list_all in_word w ≡ true
any_word w [] h e = absurd (cc)
any_word w (k ∷ ks) h e =
    let q = both_true (list_all in_word k) (list_all (λ z. list_all in_word z) ks) (to_yes (list_all (λ z. list_all in_word z) (k ∷ ks)) h) in
    elim (or_cases (is_front w k) (list_any (λ z. is_front w z) ks) e) [ inl i ↦ front_in_word w k q.0 i | inr i ↦ any_word w ks q.1 i ]

front_word : (w : List ℕ) → word_front w ≡ true → list_all in_word w ≡ true
front_word w h = elim (or_cases (list_any (λ k. is_front w k) keywords || is_type_name w) (is_variable w) h) [
  | inl a ↦ elim (or_cases (list_any (λ k. is_front w k) keywords) (is_type_name w) a) [ inl b ↦ any_word w keywords refl b | inr b ↦ type_name_in_word w b ]
  | inr a ↦ variable_in_word w a
]

falls : (a b : Bool) → (a ≡ true → b ≡ true) → b ≡ false → a ≡ false
falls true b h e = absurd (let k = h refl in cc)
falls false b h e = refl

word_ends : (w : List ℕ) (b : ℕ) → in_word b ≡ false → list_all in_word (w ++ b ∷ []) ≡ false
word_ends [] b h = rw h refl
word_ends (c ∷ w) b h = and_false (in_word c) (list_all in_word (w ++ b ∷ [])) (word_ends w b h)
  where
    and_false : (a b : Bool) → b ≡ false → (a && b) ≡ false
    and_false true b e = e
    and_false false b e = refl

no_front : (w : List ℕ) → list_all in_word w ≡ false → word_front w ≡ false
no_front w h = falls (word_front w) (list_all in_word w) (front_word w) h

-- ---- a byte behind a word

not_equal : (c k : ℕ) → in_word c ≡ true → in_word k ≡ false → (c == k) ≡ false
not_equal c k h e = falls (c == k) (in_word k) (λ i. ap in_word (sym (equal_of c k i)) ∙ h) e

no_symbol : (x : State) (c : ℕ) (w : List ℕ) → in_word c ≡ true → list_any (λ p. is_front (c ∷ w) p && accepts x p) symbols ≡ false
no_symbol x c w h =
    rw (not_equal c 45 h refl) (rw (not_equal c 61 h refl) (rw (not_equal c 44 h refl) (rw (not_equal c 58 h refl) (rw (not_equal c 40 h refl) (rw (not_equal c 41 h refl)
    (rw (not_equal c 60 h refl) (rw (not_equal c 62 h refl) (rw (not_equal c 123 h refl) (rw (not_equal c 125 h refl) refl)))))))))

no_word : (m : Mode) (c : ℕ) (w : List ℕ) (b : ℕ) → in_word c ≡ true → in_word b ≡ false → word_goes m (c ∷ w ++ b ∷ []) ≡ false
no_word mode.Begins c w b h k = rw (no_front (c ∷ w ++ b ∷ []) (word_ends (c ∷ w) b k)) (rw (not_equal c 36 h refl) refl)
no_word mode.Name c w b h k = word_ends (c ∷ w) b k
no_word mode.Headed c w b h k = refl
no_word (mode.Called n) c w b h k = refl
no_word (mode.Ended a) c w b h k = refl
no_word mode.Closed c w b h k = refl

-- no word begins so, and no alias
no_word_at : (m : Mode) (c : ℕ) (w : List ℕ) → in_word c ≡ false → (c == 36) ≡ false → word_goes m (c ∷ w) ≡ false
no_word_at mode.Begins c w h k = rw (no_front (c ∷ w) (let e : list_all in_word (c ∷ w) ≡ false = rw h refl in e)) (rw k refl)
no_word_at mode.Name c w h k = rw h refl
no_word_at mode.Headed c w h k = refl
no_word_at (mode.Called n) c w h k = refl
no_word_at (mode.Ended a) c w h k = refl
no_word_at mode.Closed c w h k = refl

no_alias : (m : Mode) (w : List ℕ) (b : ℕ) → in_word b ≡ false → word_goes m (36 ∷ w ++ b ∷ []) ≡ false
no_alias mode.Begins w b h = rw (no_front (36 ∷ w ++ b ∷ []) refl) (word_ends w b h)
no_alias mode.Name w b h = refl
no_alias mode.Headed w b h = refl
no_alias (mode.Called n) w b h = refl
no_alias (mode.Ended a) w b h = refl
no_alias mode.Closed w b h = refl

-- ---- what may stand behind a piece

abbrev pub Follows : Option State → ℕ → Type 0
Follows y b = (is_blank b ≡ true) ⊎ ((q : List ℕ) × (z : State) × (bind y (b ∷ q) ≡ Some z))

-- no word may come
abbrev pub NoWords : Option State → Type 0
NoWords None = Unit {0}
NoWords (Some y) = Wordless y.mode
  where
    Wordless : Mode → Type 0
    Wordless mode.Begins = ⊥
    Wordless mode.Name = ⊥
    Wordless m = Unit {0}

if_no : (b : Bool) (x y : Option State) → NoWords x → NoWords y → NoWords (if b then x else y)
if_no true x y h k = h
if_no false x y h k = k

word_no : (m : Mode) (w : List ℕ) (fs : List Frame) (rs : Rows) (o : List Mark) → NoWords (at_mode m sign.Word w fs rs o)
word_no mode.Begins w fs rs o = if_no (bytes_eq w (codes "Set")) _ _ tt (if_no (bytes_eq w (codes "Seq")) _ _ tt (ended_no (word_mark w)))
  where
    ended_no : (m : Option Mark) → NoWords (ended_word m fs rs o)
    ended_no None = tt
    ended_no (Some m) = tt
word_no mode.Name w fs rs o = name_no fs
  where
    name_no : (fs : List Frame) → NoWords (name_word w fs rs o)
    name_no [] = tt
    name_no (frame.Fields ns ∷ gs) = if_no (can_name ns w || can_end rs ns w) _ _ tt tt
    name_no (f ∷ gs) = tt
word_no mode.Headed w fs rs o = tt
word_no (mode.Called n) w fs rs o = tt
word_no (mode.Ended b) w fs rs o = no_ended b
  where
    no_ended : (b : Bool) → NoWords (at_mode (mode.Ended b) sign.Word w fs rs o)
    no_ended true = tt
    no_ended false = tt
word_no mode.Closed w fs rs o = tt

alias_no : (m : Mode) (w : List ℕ) (fs : List Frame) (rs : Rows) (o : List Mark) → NoWords (at_mode m sign.Alias w fs rs o)
alias_no mode.Begins w fs rs o = if_no (is_name (behind_first w)) _ _ tt tt
alias_no mode.Name w fs rs o = tt
alias_no mode.Headed w fs rs o = tt
alias_no (mode.Called n) w fs rs o = tt
alias_no (mode.Ended b) w fs rs o = no_ended b
  where
    no_ended : (b : Bool) → NoWords (at_mode (mode.Ended b) sign.Alias w fs rs o)
    no_ended true = tt
    no_ended false = tt
alias_no mode.Closed w fs rs o = tt

-- then no byte of a word comes
no_word_byte : (y : Option State) → NoWords y → (b : ℕ) → in_word b ≡ true → (q : List ℕ) → bind y (b ∷ q) ≡ None
no_word_byte None n b h q = refl
no_word_byte (Some y) n b h q = ap (λ s. at_mode y.mode s (b ∷ q) y.frames y.rows y.marks) (let e : sign_of (b ∷ q) ≡ sign.Word = rw h refl in e) ∙ silent y.mode y.frames y.rows y.marks n
  where
    silent : (m : Mode) (fs : List Frame) (rs : Rows) (o : List Mark) → NoWords (Some (record { mode = m; frames = fs; rows = rs; marks = o })) → at_mode m sign.Word (b ∷ q) fs rs o ≡ None
    silent mode.Begins fs rs o n = absurd n
    silent mode.Name fs rs o n = absurd n
    silent mode.Headed fs rs o n = refl
    silent (mode.Called k) fs rs o n = refl
    silent (mode.Ended a) fs rs o n = refl
    silent mode.Closed fs rs o n = refl

blank_no_word : (b : ℕ) → is_blank b ≡ true → in_word b ≡ false
blank_no_word b h = falls (in_word b) false (λ i. absurd (clash i)) refl
  where
    clash : in_word b ≡ true → ⊥
    clash i = grind (arith)

not_word : (y : Option State) → NoWords y → (b : ℕ) → Follows y b → in_word b ≡ false
not_word y n b (inl h) = blank_no_word b h
not_word y n b (inr (q, z, e)) = falls (in_word b) false (λ i. absurd (let k = no_word_byte y n b i q in let d : None ≡ Some z = sym k ∙ e in cc)) refl

-- ---- a piece ends there

symbol_stops : (x : State) (p : List ℕ) (b : ℕ) → In p symbols → viable x (p ++ b ∷ []) ≡ false
symbol_stops x p b (inl e) = ap (λ z. viable x (z ++ b ∷ [])) e ∙ no_word_at x.mode 45 (62 ∷ b ∷ []) refl refl
symbol_stops x p b (inr (inl e)) = ap (λ z. viable x (z ++ b ∷ [])) e ∙ no_word_at x.mode 61 (62 ∷ b ∷ []) refl refl
symbol_stops x p b (inr (inr (inl e))) = ap (λ z. viable x (z ++ b ∷ [])) e ∙ no_word_at x.mode 44 (b ∷ []) refl refl
symbol_stops x p b (inr (inr (inr (inl e)))) = ap (λ z. viable x (z ++ b ∷ [])) e ∙ no_word_at x.mode 58 (b ∷ []) refl refl
symbol_stops x p b (inr (inr (inr (inr (inl e))))) = ap (λ z. viable x (z ++ b ∷ [])) e ∙ no_word_at x.mode 40 (b ∷ []) refl refl
symbol_stops x p b (inr (inr (inr (inr (inr (inl e)))))) = ap (λ z. viable x (z ++ b ∷ [])) e ∙ no_word_at x.mode 41 (b ∷ []) refl refl
symbol_stops x p b (inr (inr (inr (inr (inr (inr (inl e))))))) = ap (λ z. viable x (z ++ b ∷ [])) e ∙ no_word_at x.mode 60 (60 ∷ b ∷ []) refl refl
symbol_stops x p b (inr (inr (inr (inr (inr (inr (inr (inl e)))))))) = ap (λ z. viable x (z ++ b ∷ [])) e ∙ no_word_at x.mode 62 (62 ∷ b ∷ []) refl refl
symbol_stops x p b (inr (inr (inr (inr (inr (inr (inr (inr (inl e))))))))) = ap (λ z. viable x (z ++ b ∷ [])) e ∙ no_word_at x.mode 123 (b ∷ []) refl refl
symbol_stops x p b (inr (inr (inr (inr (inr (inr (inr (inr (inr (inl e)))))))))) = ap (λ z. viable x (z ++ b ∷ [])) e ∙ no_word_at x.mode 125 (b ∷ []) refl refl
symbol_stops x p b (inr (inr (inr (inr (inr (inr (inr (inr (inr (inr h)))))))))) = absurd h

word_stops : (x : State) (w : List ℕ) (b : ℕ) → starts_word w ≡ true → in_word b ≡ false → viable x (w ++ b ∷ []) ≡ false
word_stops x [] b e h = absurd (cc)
word_stops x (c ∷ w) b e h =
    ap (λ z. z || word_goes x.mode (c ∷ w ++ b ∷ [])) (no_symbol x c (w ++ b ∷ []) e) ∙ no_word x.mode c w b e h

pub stops : (x y : State) (p : List ℕ) (b : ℕ) → behind x p ≡ Some y → Follows (Some y) b → viable x (p ++ b ∷ []) ≡ false
stops x y p b h f = by_kind (kind p)
  where
    given : (s : Sign) → sign_of p ≡ s → at_mode x.mode s p x.frames x.rows x.marks ≡ Some y
    given s e = ap (λ z. at_mode x.mode z p x.frames x.rows x.marks) (sym e) ∙ h

    wordless : (s : Sign) → sign_of p ≡ s → NoWords (at_mode x.mode s p x.frames x.rows x.marks) → in_word b ≡ false
    wordless s e n = let P : Option State → Type 0 = λ z. NoWords z in not_word (Some y) (subst P (given s e) n) b f

    by_kind : Kind p → viable x (p ++ b ∷ []) ≡ false
    by_kind (symbol _ i) = symbol_stops x p b i
    by_kind (word _ e i) = word_stops x p b i (wordless sign.Word e (word_no x.mode p x.frames x.rows x.marks))
    by_kind (sigil _ e s) =
        let k = wordless sign.Alias e (alias_no x.mode p x.frames x.rows x.marks) in
        ap (λ z. viable x (z ++ b ∷ [])) s ∙ no_alias x.mode (behind_first p) b k
    by_kind (bad _ e) = absurd (let q = bad_none x.mode p x.frames x.rows x.marks in let r = given sign.Bad e in let d : None ≡ Some y = sym q ∙ r in cc)

-- no piece begins with a blank
pub blank_sign : (c : ℕ) (cs : List ℕ) → is_blank c ≡ true → sign_of (c ∷ cs) ≡ sign.Bad
blank_sign c cs h =
    rw (blank_no_word c h) (rw (not_blank c 36 h refl) (rw (not_blank c 45 h refl) (rw (not_blank c 61 h refl) (rw (not_blank c 44 h refl) (rw (not_blank c 58 h refl) (rw (not_blank c 40 h refl)
    (rw (not_blank c 41 h refl) (rw (not_blank c 60 h refl) (rw (not_blank c 62 h refl) (rw (not_blank c 123 h refl) (rw (not_blank c 125 h refl) refl)))))))))))
  where
    not_blank : (c k : ℕ) → is_blank c ≡ true → is_blank k ≡ false → (c == k) ≡ false
    not_blank c k h e = falls (c == k) (is_blank k) (λ i. ap (λ z. is_blank z) (sym (equal_of c k i)) ∙ h) e
