-- Pieces by their bytes: each front of a piece that may come is viable, and with a byte that does not belong to it none is.
use Rattle.std.proofs.Common.{◌≡◌, ℕ, Bool, true, false, ◌&&◌, ◌⊎◌, inl, inr, List, [], ◌∷◌, ◌++◌, refl, ap, sym, ◌∙◌, codes, Some, None}
use Rattle.std.specs.Prelude.{◌||◌, ◌==◌, not, bytes_eq}
use Rattle.std.specs.List.{list_all, list_any}
use Rattle.std.specs.Option.{is_some}
use Rattle.std.proofs.lemmas.Bool.{cases_Bool}
use Rattle.std.proofs.lemmas.Bool.Decides.{eqb_tells}
use Rattle.snowcat_rows.specs.declared.marks.Mark.{Mark}
use Rattle.snowcat_rows.specs.declared.marks.Frame.{Frame}
use Rattle.snowcat_rows.specs.declared.marks.Frame.TheVariants as frame
use Rattle.snowcat_rows.specs.declared.marks.Mode.{Mode}
use Rattle.snowcat_rows.specs.declared.marks.Mode.TheVariants as mode
use Rattle.snowcat_rows.specs.declared.marks.Sign.{Sign}
use Rattle.snowcat_rows.specs.declared.marks.Sign.TheVariants as sign
use Rattle.snowcat_rows.specs.LiteralTypes.{in_word, is_type_name, in_type_name, is_capital, is_small, is_digit}
use Rattle.snowcat_rows.specs.TypeTexts.{is_variable, is_name, is_among, has_letter}
use Rattle.snowcat_rows.specs.inner.Machine.{State, Rows, sign_of, behind_first, can_name, can_end, some_names, row_fits, begin_word, begin_alias, name_word, at_mode, behind, is_front, accepts, symbols, keywords, word_front, alias_front, word_goes, viable}
use Rattle.snowcat_rows.proofs.Words.{to_yes, starts_word, both_true, same_bytes, Signed, signed, small_in_word, capital_in_word}
use Rattle.snowcat_rows.proofs.Ways.{or_cases, or_later}

-- ---- what a piece is

abbrev pub In : List ℕ → List (List ℕ) → Type 0
In p [] = ⊥
In p (q ∷ qs) = (p ≡ q) ⊎ In p qs

pub any_in : (t : List ℕ → Bool) (p : List ℕ) (qs : List (List ℕ)) → In p qs → t p ≡ true → list_any t qs ≡ true
any_in t p [] i h = absurd i
any_in t p (q ∷ qs) (inl e) h = rw (ap t (sym e) ∙ h) refl
any_in t p (q ∷ qs) (inr i) h = or_later (t q) (list_any t qs) (any_in t p qs i h)

pub data Kind : List ℕ → Type 0 where
  symbol : (p : List ℕ) → In p symbols → Kind p
  word : (p : List ℕ) → sign_of p ≡ sign.Word → starts_word p ≡ true → Kind p
  sigil : (p : List ℕ) → sign_of p ≡ sign.Alias → (p ≡ codes "$" ++ behind_first p) → Kind p
  bad : (p : List ℕ) → sign_of p ≡ sign.Bad → Kind p

kind_of : (p : List ℕ) (s : Sign) → sign_of p ≡ s → Signed p s → Kind p
kind_of p sign.Word e h = word p e h
kind_of p sign.Alias e h = sigil p e h
kind_of p sign.Arrow e h = symbol p (inl h)
kind_of p sign.Result e h = symbol p (inr (inl h))
kind_of p sign.Comma e h = symbol p (inr (inr (inl h)))
kind_of p sign.Colon e h = symbol p (inr (inr (inr (inl h))))
kind_of p sign.Open e h = symbol p (inr (inr (inr (inr (inl h)))))
kind_of p sign.Close e h = symbol p (inr (inr (inr (inr (inr (inl h))))))
kind_of p sign.Left e h = symbol p (inr (inr (inr (inr (inr (inr (inl h)))))))
kind_of p sign.Right e h = symbol p (inr (inr (inr (inr (inr (inr (inr (inl h))))))))
kind_of p sign.Begin e h = symbol p (inr (inr (inr (inr (inr (inr (inr (inr (inl h)))))))))
kind_of p sign.Finish e h = symbol p (inr (inr (inr (inr (inr (inr (inr (inr (inr (inl h))))))))))
kind_of p sign.Bad e h = bad p e

pub kind : (p : List ℕ) → Kind p
kind p = kind_of p (sign_of p) refl (signed p)

-- nothing comes by a bad piece
pub bad_none : (m : Mode) (w : List ℕ) (fs : List Frame) (rs : Rows) (o : List Mark) → at_mode m sign.Bad w fs rs o ≡ None
bad_none mode.Begins w fs rs o = refl
bad_none mode.Headed w fs rs o = refl
bad_none mode.Name w fs rs o = refl
bad_none (mode.Called n) w fs rs o = refl
bad_none (mode.Ended b) w fs rs o = refl
bad_none mode.Closed w fs rs o = refl

-- ---- fronts

front_itself : (u v : List ℕ) → is_front u (u ++ v) ≡ true
front_itself [] v = refl
front_itself (c ∷ u) v = elim (eqb_tells c c) [ inl k ↦ rw k.0 (front_itself u v) | inr k ↦ absurd (k.1 refl) ]

all_front : (p : ℕ → Bool) (u v : List ℕ) → list_all p (u ++ v) ≡ true → list_all p u ≡ true
all_front p [] v h = refl
all_front p (c ∷ u) v h = let k = both_true (p c) (list_all p (u ++ v)) (to_yes (list_all p (c ∷ u ++ v)) h) in rw k.0 (all_front p u v k.1)

both_yes : (a b : Bool) → a ≡ true → b ≡ true → (a && b) ≡ true
both_yes true b e f = f
both_yes false b e f = absurd (cc)

name_front : (c : ℕ) (u v : List ℕ) → is_type_name (c ∷ u ++ v) ≡ true → is_type_name (c ∷ u) ≡ true
name_front c u v h = let k = both_true (is_capital c) (list_all in_type_name (u ++ v)) (to_yes (is_type_name (c ∷ u ++ v)) h) in both_yes (is_capital c) (list_all in_type_name u) k.0 (all_front in_type_name u v k.1)

variable_front : (c : ℕ) (u v : List ℕ) → is_variable (c ∷ u ++ v) ≡ true → is_variable (c ∷ u) ≡ true
variable_front c u v h = let k = both_true (is_small c) (list_all is_digit (u ++ v)) (to_yes (is_variable (c ∷ u ++ v)) h) in both_yes (is_small c) (list_all is_digit u) k.0 (all_front is_digit u v k.1)

-- a word that begins a type
pub data Begun : List ℕ → Type 0 where
  keyword : (w : List ℕ) → In w keywords → Begun w
  typed : (w : List ℕ) → is_type_name w ≡ true → Begun w
  varied : (w : List ℕ) → is_variable w ≡ true → Begun w

begin_kind : (w : List ℕ) (fs : List Frame) (rs : Rows) (o : List Mark) (y : State) → begin_word w fs rs o ≡ Some y → Begun w
begin_kind w fs rs o y e = elim (cases_Bool (bytes_eq w (codes "Set"))) [
  | inl h ↦ keyword w (inr (inr (inr (inl (same_bytes w (codes "Set") h)))))
  | inr h ↦ elim (cases_Bool (bytes_eq w (codes "Seq"))) [
    | inl i ↦ keyword w (inr (inr (inr (inr (inl (same_bytes w (codes "Seq") i))))))
    | inr i ↦ elim (cases_Bool (bytes_eq w (codes "Bool"))) [
      | inl j ↦ keyword w (inl (same_bytes w (codes "Bool") j))
      | inr j ↦ elim (cases_Bool (bytes_eq w (codes "Int"))) [
        | inl k ↦ keyword w (inr (inl (same_bytes w (codes "Int") k)))
        | inr k ↦ elim (cases_Bool (bytes_eq w (codes "Str"))) [
          | inl n ↦ keyword w (inr (inr (inl (same_bytes w (codes "Str") n))))
          | inr n ↦ elim (cases_Bool (is_type_name w)) [
            | inl a ↦ typed w a
            | inr a ↦ elim (cases_Bool (is_variable w)) [
              | inl b ↦ varied w b
              | inr b ↦ absurd (nothing h i j k n a b)
            ]
          ]
        ]
      ]
    ]
  ]
]
  where
    nothing : bytes_eq w (codes "Set") ≡ false → bytes_eq w (codes "Seq") ≡ false → bytes_eq w (codes "Bool") ≡ false → bytes_eq w (codes "Int") ≡ false → bytes_eq w (codes "Str") ≡ false →
        is_type_name w ≡ false → is_variable w ≡ false → ⊥
    nothing h i j k n a b = let q : begin_word w fs rs o ≡ None = rw h (rw i (rw j (rw k (rw n (rw a (rw b refl)))))) in cc

keyword_front : (u w : List ℕ) → In w keywords → is_front u w ≡ true → word_front u ≡ true
keyword_front u w i h = let k = any_in (λ z. is_front u z) w keywords i h in rw k refl

word_begun : (c : ℕ) (u v w : List ℕ) → w ≡ c ∷ u ++ v → Begun w → word_front (c ∷ u) ≡ true
word_begun c u v _ e (keyword w i) = keyword_front (c ∷ u) w i (ap (λ z. is_front (c ∷ u) z) e ∙ front_itself (c ∷ u) v)
word_begun c u v _ e (typed w h) =
    let k = name_front c u v (ap is_type_name (sym e) ∙ h) in
    ap (λ z. (list_any (λ q. is_front (c ∷ u) q) keywords || z) || is_variable (c ∷ u)) k ∙ or_first (list_any (λ q. is_front (c ∷ u) q) keywords) (is_variable (c ∷ u))
  where
    or_first : (a b : Bool) → ((a || true) || b) ≡ true
    or_first true b = refl
    or_first false b = refl
word_begun c u v _ e (varied w h) =
    let k = variable_front c u v (ap is_variable (sym e) ∙ h) in
    or_later (list_any (λ q. is_front (c ∷ u) q) keywords || is_type_name (c ∷ u)) (is_variable (c ∷ u)) k

digits_in_word : (cs : List ℕ) → list_all is_digit cs ≡ true → list_all in_word cs ≡ true
digits_in_word [] h = refl
digits_in_word (c ∷ cs) h = let k = both_true (is_digit c) (list_all is_digit cs) (to_yes (list_all is_digit (c ∷ cs)) h) in both_yes (in_word c) (list_all in_word cs) (digit c k.0) (digits_in_word cs k.1)
  where
    digit : (c : ℕ) → is_digit c ≡ true → in_word c ≡ true
    digit c h = elim (cases_Bool (is_capital c || is_small c)) [ inl e ↦ rw e refl | inr e ↦ rw e (rw h refl) ]

pub variable_in_word : (w : List ℕ) → is_variable w ≡ true → list_all in_word w ≡ true
variable_in_word [] h = refl
variable_in_word (c ∷ cs) h = let k = both_true (is_small c) (list_all is_digit cs) (to_yes (is_variable (c ∷ cs)) h) in both_yes (in_word c) (list_all in_word cs) (small_in_word c k.0) (digits_in_word cs k.1)

pub type_name_in_word : (w : List ℕ) → is_type_name w ≡ true → list_all in_word w ≡ true
type_name_in_word [] h = refl
type_name_in_word (c ∷ cs) h = let k = both_true (is_capital c) (list_all in_type_name cs) (to_yes (is_type_name (c ∷ cs)) h) in both_yes (in_word c) (list_all in_word cs) (capital_in_word c k.0) (rest cs k.1)
  where
    one : (c : ℕ) → in_type_name c ≡ true → in_word c ≡ true
    one c h = elim (or_cases (is_capital c || is_digit c) (c == 95) h) [
      | inl a ↦ elim (or_cases (is_capital c) (is_digit c) a) [
        | inl b ↦ rw b refl
        | inr b ↦ elim (cases_Bool (is_capital c || is_small c)) [ inl e ↦ rw e refl | inr e ↦ rw e (rw b refl) ]
      ]
      | inr a ↦ or_later ((is_capital c || is_small c) || is_digit c) (c == 95) a
    ]

    rest : (cs : List ℕ) → list_all in_type_name cs ≡ true → list_all in_word cs ≡ true
    rest [] h = refl
    rest (d ∷ ds) h = let k = both_true (in_type_name d) (list_all in_type_name ds) (to_yes (list_all in_type_name (d ∷ ds)) h) in both_yes (in_word d) (list_all in_word ds) (one d k.0) (rest ds k.1)

-- a word where names come
named_in_word : (w : List ℕ) (fs : List Frame) (rs : Rows) (o : List Mark) (y : State) → name_word w fs rs o ≡ Some y → list_all in_word w ≡ true
named_in_word w [] rs o y e = absurd (cc)
named_in_word w (frame.Fields ns ∷ fs) rs o y e = elim (cases_Bool (can_name ns w)) [
  | inl h ↦
      let k = both_true (is_name w) (not (is_among w ns)) (to_yes (can_name ns w) h) in
      (both_true (list_all in_word w) (has_letter w) (to_yes (is_name w) k.0)).0
  | inr h ↦ elim (cases_Bool (can_end rs ns w)) [
    | inl i ↦
        let k = both_true (some_names ns && is_variable w) (row_fits rs w ns) (to_yes (can_end rs ns w) i) in
        variable_in_word w (both_true (some_names ns) (is_variable w) (to_yes (some_names ns && is_variable w) k.0)).1
    | inr i ↦ absurd (nothing h i)
  ]
]
  where
    nothing : can_name ns w ≡ false → can_end rs ns w ≡ false → ⊥
    nothing h i = let q : name_word w (frame.Fields ns ∷ fs) rs o ≡ None = rw h (rw i refl) in cc
named_in_word w (f ∷ fs) rs o y e = absurd (cc)

word_viable : (m : Mode) (c : ℕ) (u v w : List ℕ) (fs : List Frame) (rs : Rows) (o : List Mark) (y : State) → w ≡ c ∷ u ++ v → at_mode m sign.Word w fs rs o ≡ Some y → word_goes m (c ∷ u) ≡ true
word_viable mode.Begins c u v w fs rs o y e h = let k = word_begun c u v w e (begin_kind w fs rs o y h) in rw k refl
word_viable mode.Name c u v w fs rs o y e h = all_front in_word (c ∷ u) v (ap (λ z. list_all in_word z) (sym e) ∙ named_in_word w fs rs o y h)
word_viable mode.Headed c u v w fs rs o y e h = absurd (cc)
word_viable (mode.Called n) c u v w fs rs o y e h = absurd (cc)
word_viable (mode.Ended b) c u v w fs rs o y e h = absurd (cc)
word_viable mode.Closed c u v w fs rs o y e h = absurd (cc)

alias_name : (x : List ℕ) (fs : List Frame) (rs : Rows) (o : List Mark) (y : State) → begin_alias x fs rs o ≡ Some y → list_all in_word x ≡ true
alias_name x fs rs o y h = elim (cases_Bool (is_name x)) [
  | inl e ↦ (both_true (list_all in_word x) (has_letter x) (to_yes (is_name x) e)).0
  | inr e ↦ absurd (nothing e)
]
  where
    nothing : is_name x ≡ false → ⊥
    nothing e = let q : begin_alias x fs rs o ≡ None = rw e refl in cc

alias_viable : (m : Mode) (c : ℕ) (u v w : List ℕ) (fs : List Frame) (rs : Rows) (o : List Mark) (y : State) → w ≡ c ∷ u ++ v → w ≡ codes "$" ++ behind_first w → at_mode m sign.Alias w fs rs o ≡ Some y → word_goes m (c ∷ u) ≡ true
alias_viable mode.Begins c u v w fs rs o y e s h =
    let k = alias_name (behind_first w) fs rs o y h in
    let q : u ++ v ≡ behind_first w = ap behind_first (sym e) in
    let d : 36 ≡ c = ap (λ z. first_of z) (sym s ∙ e) in
    let i = all_front in_word u v (ap (λ z. list_all in_word z) q ∙ k) in
    or_later (word_front (c ∷ u)) (alias_front (c ∷ u)) (ap (λ z. z == 36 && list_all in_word u) (sym d) ∙ i)
  where
    first_of : List ℕ → ℕ
    first_of [] = 0
    first_of (c ∷ cs) = c
alias_viable mode.Name c u v w fs rs o y e s h = absurd (cc)
alias_viable mode.Headed c u v w fs rs o y e s h = absurd (cc)
alias_viable (mode.Called n) c u v w fs rs o y e s h = absurd (cc)
alias_viable (mode.Ended b) c u v w fs rs o y e s h = absurd (cc)
alias_viable mode.Closed c u v w fs rs o y e s h = absurd (cc)

-- each front of a piece that may come is viable
viable_by : (x : State) (c : ℕ) (u v w : List ℕ) (y : State) → w ≡ c ∷ u ++ v → behind x w ≡ Some y → Kind w → viable x (c ∷ u) ≡ true
viable_by x c u v _ y e h (symbol w i) =
    let k = any_in (λ p. is_front (c ∷ u) p && accepts x p) w symbols i (both_yes (is_front (c ∷ u) w) (accepts x w) (ap (λ z. is_front (c ∷ u) z) e ∙ front_itself (c ∷ u) v) (ap (λ z. is_some z) h)) in
    rw k refl
viable_by x c u v _ y e h (word w i s) =
    or_later (list_any (λ p. is_front (c ∷ u) p && accepts x p) symbols) (word_goes x.mode (c ∷ u))
    (word_viable x.mode c u v w x.frames x.rows x.marks y e (ap (λ z. at_mode x.mode z w x.frames x.rows x.marks) (sym i) ∙ h))
viable_by x c u v _ y e h (sigil w i s) =
    or_later (list_any (λ p. is_front (c ∷ u) p && accepts x p) symbols) (word_goes x.mode (c ∷ u))
    (alias_viable x.mode c u v w x.frames x.rows x.marks y e s (ap (λ z. at_mode x.mode z w x.frames x.rows x.marks) (sym i) ∙ h))
viable_by x c u v _ y e h (bad w i) = absurd (nothing (ap (λ z. at_mode x.mode z w x.frames x.rows x.marks) (sym i) ∙ h))
  where
    nothing : at_mode x.mode sign.Bad w x.frames x.rows x.marks ≡ Some y → ⊥
    nothing k = let q = bad_none x.mode w x.frames x.rows x.marks in cc

pub fronts_viable : (x : State) (c : ℕ) (u v : List ℕ) (y : State) → behind x (c ∷ u ++ v) ≡ Some y → viable x (c ∷ u) ≡ true
fronts_viable x c u v y h = viable_by x c u v (c ∷ u ++ v) y refl h (kind (c ∷ u ++ v))
