-- The parts of an expression's form lead where the templates lead.
use Rattle.std.proofs.Common.{◌↔◌, ℕ, Bool, true, false, cond, not, ◌≡◌, ◌⊎◌, ◌+◌, inl, inr, List, [], ◌∷◌, ◌++◌, ◌&&◌, ◌||◌, ◌==◌, refl, sym, ap, subst, arith, append_assoc, append-nil, eq-eqb, ◌∙◌}
use Rattle.tla_lexer.specs.declared.token.Token.{Token as Tok}
use Rattle.tla_parser.proofs.Basics.{either, or_cases}
use Rattle.tla_parser.proofs.Columns.{columns, kept_column}
use Rattle.tla_parser.proofs.Endings.{bullets_end, ending, finish, has_any, item_ends, last_ends, reads_finish, residue_ends, wants_end, wants_finish}
use Rattle.tla_parser.proofs.Laws.{is_failed, negated, stays_in}
use Rattle.tla_parser.proofs.MarkKinds.{is_bullets, kinded, kinded_ahead, kinded_move}
use Rattle.tla_parser.proofs.Origins.{ahead_stays}
use Rattle.tla_parser.proofs.TableLaw.{along, behind_all, begins, bullet_on, bullets_left, is_lasting, is_reading, is_wanting, left_of, list_left, postfix_law, residue}
use Rattle.tla_parser.proofs.TableRows.{heads_law, last_law, lasting_law, quiet_law, wanted_law, wants_law}
use Rattle.tla_parser.proofs.Templates.{behind_part, can_end, can_matches, is_never, matches_can, matches_part, never_not, part_matches}
use Rattle.tla_parser.specs.Forms.{FormPart, Matches, Spelled, Template, a_token, an_operand, templates}
use Rattle.tla_parser.specs.Operators.{is_bullet, same_sign}
use Rattle.tla_parser.specs.Rules.{GoesOn, InColumn, ends_in_token}
use Rattle.tla_parser.specs.Signs.{column, sign}
use Rattle.tla_parser.specs.Written.{Parts, class, elements, exp, from, of_module, start, tok, top}
use Rattle.tla_parser.specs.declared.moves.Class.{Class}
use Rattle.tla_parser.specs.declared.moves.Class.TheVariants.{Other}
use Rattle.tla_parser.specs.declared.moves.Construct.{Construct}
use Rattle.tla_parser.specs.declared.moves.Mark.{Mark}
use Rattle.tla_parser.specs.declared.moves.Mark.TheVariants.{Bullets}
use Rattle.tla_parser.specs.declared.moves.Next.{Next}
use Rattle.tla_parser.specs.declared.moves.Next.TheVariants.{Fail, Last, Reads, Shut, Wants}
use Rattle.tla_parser.specs.declared.moves.Seen.{Seen}
use Rattle.tla_parser.specs.declared.signs.Sign.{Sign}
use Rattle.tla_parser.specs.inner.Derivations.{ahead, delta, form_of, given, inner, is_last, is_shut, look, mark_column, point, resumed}
use Rattle.tla_parser.specs.inner.Moves.{ends_as, found, goes_on, in_units, moved, next_bullet, rows}
use Rattle.tla_parser.specs.inner.Recognition.{is_fail}

-- ---- behind a token and behind an operand

after_next : (n : Next) (t : Tok) → stays_in false n ≡ true → behind_all (a_token (sign t)) (left_of n) ≡ left_of (delta (resumed n) t)
unfolding delta moved
after_next (Reads m) t h = heads_law m (sign t) (negated (in_units m) h)
after_next (Wants m) t h = wants_law m (sign t) (negated (in_units m) h)
after_next (Last m) t h = last_law m (sign t)
after_next (Shut c) t h = refl
after_next Fail t h = refl

units_not : (b u : Bool) → ((b || u) || false) ≡ true → not u ≡ true → b ≡ true
units_not true u h k = refl
units_not false true h k = cc
units_not false false h k = cc

goes_rows : (m : Mark) (c : Class) (t : Seen) → mark_column m ≡ 0 → goes_on m c t ≡ found t.sign (rows m c)
unfolding goes_on mark_column
goes_rows (Bullets s n) c t h = absurd (above n h)
  where
    above : (x : ℕ) → x + 1 ≡ 0 → ⊥
    above x q = omega arith
goes_rows _ c t h = refl

wanting_level : (m : Mark) → is_wanting m ≡ true → mark_column m ≡ 0
unfolding is_wanting mark_column
wanting_level (Bullets s n) h = cc
wanting_level _ h = refl

lasting_level : (m : Mark) → is_lasting m ≡ true → mark_column m ≡ 0
unfolding is_lasting mark_column
lasting_level (Bullets s n) h = cc
lasting_level _ h = refl

-- the next bullet, in the column of the list
bullet_next : (b : Sign) (n : ℕ) (k : Class) (t : Tok) → n ≡ column t → behind_all (a_token (sign t)) (behind_all (an_operand k) (list_left b)) ≡ left_of (next_bullet b n (look t))
unfolding is_lasting bullets_left
bullet_next b n k t e =
    let q : (n == column t) ≡ true = eq-eqb n (column t) e in
    bullet_on b (sign t) k ∙ by_sign (is_bullet b) (same_sign b (sign t)) q
  where
    by_sign : (x y : Bool) → (n == column t) ≡ true → cond (x && y) (list_left (sign t)) [] ≡ left_of (cond (x && (y && (n == column t))) (Last (Bullets (sign t) (column t))) Fail)
    by_sign true true q = rw q refl
    by_sign true false q = refl
    by_sign false y q = refl

list_next : (m : Mark) (k : Class) (t : Tok) → is_bullets m ≡ true → (mark_column m ≡ 0) ⊎ (mark_column m ≡ column t + 1) → behind_all (a_token (sign t)) (behind_all (an_operand k) (left_of (Last m))) ≡ left_of (goes_on m k (look t))
unfolding is_lasting bullets_left goes_on mark_column
list_next (Bullets b n) k t i (inl z) = absurd (above n z)
  where
    above : (x : ℕ) → x + 1 ≡ 0 → ⊥
    above x q = omega arith
list_next (Bullets b n) k t i (inr z) = bullet_next b n k t (less n (column t) z)
  where
    less : (x y : ℕ) → x + 1 ≡ y + 1 → x ≡ y
    less x y q = omega arith
list_next _ k t i z = cc

given_next : (n : Next) (k : Class) (t : Tok) → stays_in false n ≡ true → kinded n ≡ true → (inner n ≡ 0) ⊎ (inner n ≡ column t + 1) → behind_all (a_token (sign t)) (behind_all (an_operand k) (left_of n)) ≡ left_of (delta (given n k) t)
unfolding delta moved
given_next (Reads m) k t h w z = ap (behind_all (a_token (sign t))) (quiet_law m k)
given_next (Wants m) k t h w z =
    let i : is_wanting m ≡ true = units_not (is_wanting m) (in_units m) w h in
    wanted_law m (sign t) k (negated (in_units m) h) i ∙ ap left_of (sym (goes_rows m k (look t) (wanting_level m i)))
given_next (Last m) k t h w z =
    elim (or_cases (is_lasting m) (is_bullets m) w) [
      | inl i ↦ lasting_law m (sign t) k i ∙ ap left_of (sym (goes_rows m k (look t) (lasting_level m i)))
      | inr i ↦ list_next m k t i z
    ]
given_next (Shut c) k t h w z = refl
given_next Fail k t h w z = refl

-- ---- along the parts

-- the operands stand behind tokens, and the bullets in their column
abbrev pub Regular : Parts → Type 0
Regular start = Unit {0}
Regular top = Unit {0}
Regular (from w) = Unit {0}
Regular (tok ps t) = Regular ps × InColumn ps t
Regular (exp ps w) = (ends_in_token ps ≡ true) × Regular ps

abbrev pub left_behind : Parts → List Template
left_behind start = templates
left_behind top = []
left_behind (from w) = behind_all (an_operand (class w)) templates
left_behind (tok ps t) = left_of (ahead (tok ps t))
left_behind (exp ps w) = behind_all (an_operand (class w)) (left_of (ahead ps))

pub stays_form : (ps : Parts) → of_module ps ≡ false → stays_in false (ahead ps) ≡ true
stays_form ps h = subst (λ (b : Bool). stays_in b (ahead ps) ≡ true) h (ahead_stays ps)

along_next : (xs : List FormPart) (x : FormPart) (rs : List Template) → along (xs ++ (x ∷ [])) rs ≡ behind_all x (along xs rs)
along_next [] x rs = refl
along_next (y ∷ xs) x rs = along_next xs x (behind_all y rs)

token_left : (ps : Parts) (t : Tok) → of_module ps ≡ false → Regular ps → InColumn ps t → behind_all (a_token (sign t)) (left_behind ps) ≡ left_of (ahead (tok ps t))
unfolding delta moved
token_left start t f p i = begins (look t) (sign t)
token_left top t f p i = cc
token_left (from w) t f p i = postfix_law (sign t) (class w)
token_left (tok ps u) t f p i = after_next (ahead (tok ps u)) t (stays_form (tok ps u) f)
token_left (exp start w) t f p i = absurd (cc)
token_left (exp top w) t f p i = absurd (cc)
token_left (exp (from v) w) t f p i = absurd (cc)
token_left (exp (tok ps u) w) t f p i =
    given_next (ahead (tok ps u)) (class w) t (stays_form (tok ps u) f) (kinded_move (point ps) u) (kept_column ps u t i)
token_left (exp (exp ps v) w) t f p i = absurd (cc)

-- What the templates leave behind the parts of a form is what the table says.
pub form_law : (ps : Parts) → of_module ps ≡ false → Regular ps → along (elements ps) templates ≡ left_behind ps
form_law start f p = refl
form_law top f p = cc
form_law (from w) f p = refl
form_law (tok ps t) f p =
    along_next (elements ps) (a_token (sign t)) templates ∙ ap (behind_all (a_token (sign t))) (form_law ps f p.0) ∙ token_left ps t f p.0 p.1
form_law (exp start w) f p = absurd (cc)
form_law (exp top w) f p = absurd (cc)
form_law (exp (from v) w) f p = absurd (cc)
form_law (exp (exp ps v) w) f p = absurd (cc)
form_law (exp (tok ps t) w) f p =
    along_next (elements (tok ps t)) (an_operand (class w)) templates ∙ ap (behind_all (an_operand (class w))) (form_law (tok ps t) f p.1)

-- ---- what is spelled, and what is left of the templates

behind_spelled : (x : FormPart) (rs : List Template) (c : Construct) (xs : List FormPart) → Spelled (behind_all x rs) c xs → Spelled rs c (x ∷ xs)
behind_spelled x [] c xs h = h
behind_spelled x (r ∷ rs) c xs h =
    elim (either (is_never (behind_part x r.form))) [
      | inl e ↦ inr (behind_spelled x rs c xs (rw e at h))
      | inr e ↦ by_row (behind_spelled x rs c xs) (rw e at h)
    ]
  where
    by_row : (Spelled (behind_all x rs) c xs → Spelled rs c (x ∷ xs)) → ((r.construct ≡ c) × Matches (behind_part x r.form) xs) ⊎ Spelled (behind_all x rs) c xs → Spelled (r ∷ rs) c (x ∷ xs)
    by_row f (inl k) = inl (k.0, part_matches x r.form xs k.1)
    by_row f (inr k) = inr (f k)

spelled_behind : (x : FormPart) (rs : List Template) (c : Construct) (xs : List FormPart) → Spelled rs c (x ∷ xs) → Spelled (behind_all x rs) c xs
spelled_behind x [] c xs h = h
spelled_behind x (r ∷ rs) c xs (inl k) =
    elim (either (is_never (behind_part x r.form))) [
      | inl e ↦ absurd (never_not (behind_part x r.form) xs e (matches_part x r.form xs k.1))
      | inr e ↦ rw e (inl (k.0, matches_part x r.form xs k.1))
    ]
spelled_behind x (r ∷ rs) c xs (inr k) =
    elim (either (is_never (behind_part x r.form))) [
      | inl e ↦ rw e (spelled_behind x rs c xs k)
      | inr e ↦ rw e (inr (spelled_behind x rs c xs k))
    ]

along_spelled : (ys zs : List FormPart) (rs : List Template) (c : Construct) → Spelled (along ys rs) c zs → Spelled rs c (ys ++ zs)
along_spelled [] zs rs c h = h
along_spelled (y ∷ ys) zs rs c h = behind_spelled y rs c (ys ++ zs) (along_spelled ys zs (behind_all y rs) c h)

spelled_along : (ys zs : List FormPart) (rs : List Template) (c : Construct) → Spelled rs c (ys ++ zs) → Spelled (along ys rs) c zs
spelled_along [] zs rs c h = h
spelled_along (y ∷ ys) zs rs c h = spelled_along ys zs (behind_all y rs) c (spelled_behind y rs c (ys ++ zs) h)

abbrev Among : Construct → List Construct → Type 0
Among c [] = ⊥
Among c (d ∷ ds) = (d ≡ c) ⊎ Among c ds

spelled_ends : (rs : List Template) (c : Construct) → Spelled rs c [] → Among c (ending rs)
spelled_ends [] c h = h
spelled_ends (r ∷ rs) c (inl k) = rw (matches_can r.form k.1) (inl k.0)
spelled_ends (r ∷ rs) c (inr k) =
    elim (either (can_end r.form)) [ inl e ↦ rw e (inr (spelled_ends rs c k)) | inr e ↦ rw e (spelled_ends rs c k) ]

ends_spelled : (rs : List Template) (c : Construct) → Among c (ending rs) → Spelled rs c []
ends_spelled [] c h = h
ends_spelled (r ∷ rs) c h =
    elim (either (can_end r.form)) [
      | inl e ↦ by_row (ends_spelled rs c) e (rw e at h)
      | inr e ↦ inr (ends_spelled rs c (rw e at h))
    ]
  where
    by_row : (Among c (ending rs) → Spelled rs c []) → can_end r.form ≡ true → (r.construct ≡ c) ⊎ Among c (ending rs) → Spelled (r ∷ rs) c []
    by_row f e (inl k) = inl (k, can_matches r.form e)
    by_row f e (inr k) = inr (f k)

some_spelled : (rs : List Template) → has_any (ending rs) ≡ true → (c : Construct) × Spelled rs c []
some_spelled rs h = by_ends (ending rs) refl h
  where
    by_ends : (cs : List Construct) → ending rs ≡ cs → has_any cs ≡ true → (c : Construct) × Spelled rs c []
    by_ends [] e k = absurd (cc)
    by_ends (d ∷ ds) e k = (d, ends_spelled rs d (subst (Among d) (sym e) (inl refl)))

-- ---- whole forms

-- the one construct, where the test is passed
abbrev one_if : Bool → Construct → List Construct
one_if true c = c ∷ []
one_if false c = []

among_one : (b : Bool) (d c : Construct) → Among c (one_if b d) → (b ≡ true) × (d ≡ c)
among_one true d c (inl e) = (refl, e)
among_one true d c (inr h) = absurd h
among_one false d c h = absurd h

one_among : (b : Bool) (d c : Construct) → b ≡ true → d ≡ c → Among c (one_if b d)
one_among true d c h e = inl e
one_among false d c h e = cc

cond_ends : (b : Bool) (rs qs : List Template) → ending rs ≡ [] → ending qs ≡ [] → ending (cond b rs qs) ≡ []
cond_ends true rs qs h k = h
cond_ends false rs qs h k = k

shut_ends : (n : Next) → ending (left_of n) ≡ one_if (is_shut n) (form_of n)
shut_ends (Reads m) = cond_ends (is_reading m) (residue m) [] (residue_ends m) refl
shut_ends (Wants m) = cond_ends (is_wanting m) (residue m) [] (residue_ends m) refl
shut_ends (Last m) = cond_ends (is_lasting m) (residue m) (bullets_left m) (residue_ends m) (bullets_end m)
shut_ends (Shut c) = refl
shut_ends Fail = refl

list_last : (m : Mark) (k : Class) → is_bullets m ≡ true → ending (behind_all (an_operand k) (left_of (Last m))) ≡ ends_as m ∷ []
unfolding is_lasting bullets_left ends_as
list_last (Bullets b n) k h = item_ends b k h
list_last _ k h = cc

last_left : (m : Mark) → is_lasting m ≡ true → left_of (Last m) ≡ residue m
last_left m h = rw h refl

operand_ends : (n : Next) (k : Class) → kinded n ≡ true → ending (behind_all (an_operand k) (left_of n)) ≡ one_if (is_last n) (form_of n)
operand_ends (Reads m) k w = ap ending (quiet_law m k)
operand_ends (Wants m) k w = wants_end m k
operand_ends (Last m) k w =
    elim (or_cases (is_lasting m) (is_bullets m) w) [
      | inl i ↦ ap (λ (rs : List Template). ending (behind_all (an_operand k) rs)) (last_left m i) ∙ last_ends m k i
      | inr i ↦ list_last m k i
    ]
operand_ends (Shut c) k w = refl
operand_ends Fail k w = refl

spelled_nil : (ys : List FormPart) (c : Construct) → Spelled templates c ys ↔ Spelled (along ys templates) c []
spelled_nil ys c = (
  (λ h. spelled_along ys [] templates c (subst (Spelled templates c) (sym (append-nil ys)) h)),
  (λ h. subst (Spelled templates c) (append-nil ys) (along_spelled ys [] templates c h)),
)

left_token : (ps : Parts) → ends_in_token ps ≡ true → left_behind ps ≡ left_of (ahead ps)
left_token (tok ps t) h = refl
left_token start h = cc
left_token top h = cc
left_token (from w) h = cc
left_token (exp ps w) h = cc

-- The table says that a form is whole, and which, just where its parts are written as a template has them.
pub whole_law : (c : Construct) (ps : Parts) → of_module ps ≡ false → ends_in_token ps ≡ true → Regular ps → Spelled templates c (elements ps) ↔ ((is_shut (ahead ps) ≡ true) × (form_of (ahead ps) ≡ c))
whole_law c ps f i p =
    let e : along (elements ps) templates ≡ left_of (ahead ps) = form_law ps f p ∙ left_token ps i in
    let k : ending (along (elements ps) templates) ≡ one_if (is_shut (ahead ps)) (form_of (ahead ps)) = ap ending e ∙ shut_ends (ahead ps) in (
      (λ h. among_one (is_shut (ahead ps)) (form_of (ahead ps)) c (subst (Among c) k (spelled_ends (along (elements ps) templates) c ((spelled_nil (elements ps) c).0 h)))),
      (λ g. (spelled_nil (elements ps) c).1 (ends_spelled (along (elements ps) templates) c (subst (Among c) (sym k) (one_among (is_shut (ahead ps)) (form_of (ahead ps)) c g.0 g.1)))),
    )

-- The same of a form that an operand ends.
pub tail_law : (c : Construct) (ps : Parts) (k : Class) → of_module ps ≡ false → ends_in_token ps ≡ true → Regular ps → Spelled templates c (elements ps ++ (an_operand k ∷ [])) ↔ ((is_last (ahead ps) ≡ true) × (form_of (ahead ps) ≡ c))
tail_law c ps k f i p =
    let ys : List FormPart = elements ps ++ (an_operand k ∷ []) in
    let e : along ys templates ≡ behind_all (an_operand k) (left_of (ahead ps)) = along_next (elements ps) (an_operand k) templates ∙ ap (behind_all (an_operand k)) (form_law ps f p ∙ left_token ps i) in
    let q : ending (along ys templates) ≡ one_if (is_last (ahead ps)) (form_of (ahead ps)) = ap ending e ∙ operand_ends (ahead ps) k (kinded_ahead ps i) in (
      (λ h. among_one (is_last (ahead ps)) (form_of (ahead ps)) c (subst (Among c) q (spelled_ends (along ys templates) c ((spelled_nil ys c).0 h)))),
      (λ g. (spelled_nil ys c).1 (ends_spelled (along ys templates) c (subst (Among c) (sym q) (one_among (is_last (ahead ps)) (form_of (ahead ps)) c g.0 g.1)))),
    )

-- ---- where a form goes on

none_along : (xs : List FormPart) (c : Construct) → Spelled (along xs []) c [] → ⊥
none_along [] c h = h
none_along (x ∷ xs) c h = none_along xs c h

fail_left : (n : Next) → is_fail n ≡ true → left_of n ≡ []
fail_left n h = ap left_of (is_failed n h)

none_spelled : (rs : List Template) (c : Construct) (xs : List FormPart) → rs ≡ [] → Spelled rs c xs → ⊥
none_spelled [] c xs e h = h
none_spelled (r ∷ rs) c xs e h = absurd (cc)

-- the rest that ends what is begun
abbrev finish_next : Next → List FormPart
finish_next (Reads m) = finish m
finish_next (Wants m) = finish m
finish_next (Last m) = an_operand Other ∷ []
finish_next (Shut c) = []
finish_next Fail = []

reads_not : (b u : Bool) → ((b || u) || false) ≡ true → not u ≡ true → b ≡ true
reads_not b u h k = units_not b u h k

has_last : (n : Next) (d : Construct) (cs : List Construct) → cs ≡ d ∷ [] → has_any cs ≡ true
has_last n d cs e = rw e refl

finishes : (n : Next) → stays_in false n ≡ true → kinded n ≡ true → is_fail n ≡ false → has_any (ending (along (finish_next n) (left_of n))) ≡ true
finishes (Reads m) h w a = let i : is_reading m ≡ true = units_not (is_reading m) (in_units m) w h in rw i (reads_finish m i)
finishes (Wants m) h w a = let i : is_wanting m ≡ true = units_not (is_wanting m) (in_units m) w h in rw i (wants_finish m i)
finishes (Last m) h w a = has_last (Last m) (ends_as m) (ending (behind_all (an_operand Other) (left_of (Last m)))) (operand_ends (Last m) Other w)
finishes (Shut c) h w a = refl
finishes Fail h w a = cc

-- The table goes on with t just where some form does.
pub goes_table : (ps : Parts) (t : Tok) → of_module ps ≡ false → Regular ps → GoesOn ps t → is_fail (ahead (tok ps t)) ≡ false
goes_table ps t f p g =
    elim (either (is_fail (ahead (tok ps t)))) [
      | inl e ↦ absurd (none_spelled (along (elements (tok ps t)) templates) g.1 g.2
          (form_law (tok ps t) f (p, g.0) ∙ fail_left (ahead (tok ps t)) e)
          (spelled_along (elements (tok ps t)) g.2 templates g.1 (subst (Spelled templates g.1) (sym (append_assoc (elements ps) (a_token (sign t) ∷ []) g.2)) g.3)))
      | inr e ↦ e
    ]

pub table_goes : (ps : Parts) (t : Tok) → of_module ps ≡ false → Regular ps → is_fail (ahead (tok ps t)) ≡ false → GoesOn ps t
table_goes ps t f p a =
    let i : InColumn ps t = (columns ps t a).1 in
    let n : Next = ahead (tok ps t) in
    let xs : List FormPart = finish_next (ahead (tok ps t)) in
    let s : (c : Construct) × Spelled (along xs (left_of (ahead (tok ps t)))) c [] = some_spelled (along xs (left_of (ahead (tok ps t)))) (finishes (ahead (tok ps t)) (stays_form (tok ps t) f) (kinded_move (point ps) t) a) in
    let b : Spelled (left_of (ahead (tok ps t))) s.0 xs = subst (Spelled (left_of (ahead (tok ps t))) s.0) (append-nil xs) (along_spelled xs [] (left_of (ahead (tok ps t))) s.0 s.1) in
    let r : Spelled templates s.0 (elements (tok ps t) ++ xs) = along_spelled (elements (tok ps t)) xs templates s.0 (subst (λ (rs : List Template). Spelled rs s.0 xs) (sym (form_law (tok ps t) f (p, i))) b) in
    (i, s.0, xs, subst (Spelled templates s.0) (append_assoc (elements ps) (a_token (sign t) ∷ []) xs) r)
