-- What is open can be ended, by tokens of one column.
use Rattle.std.proofs.Common.{nat_lt, nat_le, le-leb, le-ltb, ltb-true}
use Rattle.std.proofs.Common.{ℕ, zero, suc, Bool, true, false, cond, not, max, List, length, inl, inr, refl, sym, ap, subst, arith, ◌≡◌, ◌+◌, ◌<◌, ◌≤◌, ◌∷◌, ◌++◌, ◌&&◌, ◌||◌, ◌∙◌, []}
use Rattle.std.specs.Prelude.{codes}
use Rattle.tla_lexer.specs.declared.token.Token.{Token as Tok}
use Rattle.tla_lexer.specs.declared.token.TokenKind.{TokenKind}
use Rattle.tla_lexer.specs.declared.token.TokenKind.TheVariants.{Dashes as DashRun, End, Name, Reserved, Symbol}
use Rattle.tla_parser.proofs.Basics.{and_both, either, or_left, or_right}
use Rattle.tla_parser.proofs.Columns.{plain_level}
use Rattle.tla_parser.proofs.Endings.{finish}
use Rattle.tla_parser.proofs.Laws.{clash, negated, stays_in}
use Rattle.tla_parser.proofs.MarkKinds.{heads_kind, kinded, plain_kind, rows_kind}
use Rattle.tla_parser.proofs.Starts.{no_next, passes_any, plain_last}
use Rattle.tla_parser.proofs.TableLaw.{is_lasting, is_reading, is_wanting}
use Rattle.tla_parser.specs.Forms.{FormPart, a_token, an_operand}
use Rattle.tla_parser.specs.Operators.{after, hi, is_bullet, is_prefix, lo, number_of, prefix_lo, same, same_sign}
use Rattle.tla_parser.specs.Signs.{Spelling, column, fold_name, sign, symbol_signs, word_signs}
use Rattle.tla_parser.specs.Written.{class_of}
use Rattle.tla_parser.specs.declared.moves.Class.{Class}
use Rattle.tla_parser.specs.declared.moves.Class.TheVariants.{Other}
use Rattle.tla_parser.specs.declared.moves.Construct.TheVariants.{NameUse}
use Rattle.tla_parser.specs.declared.moves.Mark.{Mark}
use Rattle.tla_parser.specs.declared.moves.Mark.TheVariants.{AtTop, BehindBlank, BehindSubstituted, BehindUnitArgument, BehindUnitParameter, Bullets, ChoiceBody, DeclaredName, ExtendedName, Finished, InArm, InElse, InOther, InUnitSet, InstanceName, LocalBody, LocalUnit, ModuleHead, ModuleName, ModuleNamed, QuantifierBody, RecursiveBlank, RecursiveName, Substituted, UnitArgument, UnitDefines, UnitHead, UnitParameter}
use Rattle.tla_parser.specs.declared.moves.Next.{Next}
use Rattle.tla_parser.specs.declared.moves.Next.TheVariants.{Fail, Last, Reads, Shut, Wants}
use Rattle.tla_parser.specs.declared.open.Code.{Code}
use Rattle.tla_parser.specs.declared.open.Code.TheVariants.{Close, Part}
use Rattle.tla_parser.specs.declared.open.Form.{Form}
use Rattle.tla_parser.specs.declared.open.Mode.TheVariants.{Have, Read, Stuck, Want}
use Rattle.tla_parser.specs.declared.open.Open.{Open}
use Rattle.tla_parser.specs.declared.open.Open.TheVariants.{Before, Between, Within}
use Rattle.tla_parser.specs.declared.open.Operand.{Operand}
use Rattle.tla_parser.specs.declared.signs.Role.{Role}
use Rattle.tla_parser.specs.declared.signs.Role.TheVariants.{InfixRole, NoRole, PostfixRole}
use Rattle.tla_parser.specs.declared.signs.Sign.{Sign}
use Rattle.tla_parser.specs.declared.signs.Sign.TheVariants.{Dashes, Defines, Element, EndSign, ModuleWord, Replaces, RightBracket, RightParen, Square, Stray, Underscore, Word}
use Rattle.tla_parser.specs.inner.Derivations.{delta, given, idle, inner, is_last, look, mark_column}
use Rattle.tla_parser.specs.inner.Moves.{begin, body_rows, bracket_rows, fair_rows, filled, fold_rows, found, goes_on, heads, in_braces, in_brackets, in_units, insteads, is_finished, listed_heads, local_heads, local_rows, module_heads, moved, name_heads, opens, reading, recursive_heads, rows, subscript_heads, tuple_rows, unit_heads, unit_rows, update_heads, update_rows}
use Rattle.tla_parser.specs.inner.Recognition.{Status, accepting, advance, advances, ended_stack, entered, finished, folded, folded_code, folds, following, form_deeper, freshly, heads_on, is_fail, lost, op, operand, passes_by, read_at, running, wanting}
use Rattle.tla_parser.specs.inner.Standings.{standing_of}
use Rattle.tla_parser.proofs.Nesting.{Nested, by_premise, at_given, at_read, fits, fits_on, holds, module_stays, nested, of_form, reads, reads_on, shut_fits, stays_open, takes_operand, within_fits}

-- ---- tokens, by their signs

abbrev spelled : List Spelling → Sign → List ℕ
spelled [] s = []
spelled (row ∷ others) s = cond (same_sign row.1 s) row.0 (spelled others s)

abbrev symbol_or_word : List ℕ → Sign → TokenKind
symbol_or_word [] s = Reserved (spelled word_signs s)
symbol_or_word (c ∷ cs) s = Symbol (c ∷ cs)

unfoldable pub kind_like : Sign → TokenKind
kind_like Word = Name (codes "x")
kind_like Dashes = DashRun
kind_like EndSign = End
kind_like s = symbol_or_word (spelled symbol_signs s) s

-- a token with the sign, in the column
abbrev pub like : Sign → ℕ → Tok
like s n = record { kind = kind_like s; place = record { file = 0; line = 0; col = n }; notes = [] }

-- ---- how a form ends, and the module

-- parts that end the module
unfoldable unit_end : Mark → List FormPart
unit_end AtTop = a_token Dashes ∷ a_token ModuleWord ∷ a_token Word ∷ a_token Dashes ∷ a_token EndSign ∷ []
unit_end ModuleHead = a_token ModuleWord ∷ a_token Word ∷ a_token Dashes ∷ a_token EndSign ∷ []
unit_end ModuleName = a_token Word ∷ a_token Dashes ∷ a_token EndSign ∷ []
unit_end ModuleNamed = a_token Dashes ∷ a_token EndSign ∷ []
unit_end ExtendedName = a_token Word ∷ a_token EndSign ∷ []
unit_end DeclaredName = a_token Word ∷ a_token EndSign ∷ []
unit_end InstanceName = a_token Word ∷ a_token EndSign ∷ []
unit_end RecursiveName = a_token Word ∷ a_token EndSign ∷ []
unit_end RecursiveBlank = a_token Underscore ∷ a_token RightParen ∷ a_token EndSign ∷ []
unit_end BehindBlank = a_token RightParen ∷ a_token EndSign ∷ []
unit_end LocalUnit = a_token Word ∷ a_token Defines ∷ an_operand Other ∷ a_token EndSign ∷ []
unit_end UnitHead = a_token Defines ∷ an_operand Other ∷ a_token EndSign ∷ []
unit_end UnitParameter = a_token Word ∷ a_token RightParen ∷ a_token Defines ∷ an_operand Other ∷ a_token EndSign ∷ []
unit_end BehindUnitParameter = a_token RightParen ∷ a_token Defines ∷ an_operand Other ∷ a_token EndSign ∷ []
unit_end UnitArgument = a_token Word ∷ a_token Element ∷ an_operand Other ∷ a_token RightBracket ∷ a_token Defines ∷ an_operand Other ∷ a_token EndSign ∷ []
unit_end BehindUnitArgument = a_token Element ∷ an_operand Other ∷ a_token RightBracket ∷ a_token Defines ∷ an_operand Other ∷ a_token EndSign ∷ []
unit_end InUnitSet = an_operand Other ∷ a_token RightBracket ∷ a_token Defines ∷ an_operand Other ∷ a_token EndSign ∷ []
unit_end UnitDefines = a_token Defines ∷ an_operand Other ∷ a_token EndSign ∷ []
unit_end Substituted = a_token Word ∷ a_token Replaces ∷ an_operand Other ∷ a_token EndSign ∷ []
unit_end BehindSubstituted = a_token Replaces ∷ an_operand Other ∷ a_token EndSign ∷ []
unit_end Finished = []
unit_end _ = a_token EndSign ∷ []

-- parts that end the form, or the module
unfoldable ends : Mark → List FormPart
ends m = cond (in_units m) (unit_end m) (finish m)

abbrev next_sign : List FormPart → Sign
next_sign [] = Stray
next_sign (a_token s ∷ xs) = s
next_sign (an_operand k ∷ xs) = next_sign xs

-- the next token that ends it
abbrev leading : Mark → Sign
leading m = next_sign (ends m)

abbrev far : Next → ℕ
far (Reads m) = length (ends m)
far (Wants m) = length (ends m)
far (Last m) = 0
far (Shut c) = 0
far Fail = 0

abbrev nears : Next → ℕ → Bool
nears x q = not (is_fail x) && nat_lt (far x) q

all_open : Bool
unfolding heads listed_heads update_heads subscript_heads local_heads module_heads unit_heads name_heads recursive_heads insteads rows local_rows bracket_rows update_rows tuple_rows fair_rows fold_rows body_rows in_braces in_brackets unit_rows is_reading is_wanting in_units takes_operand unit_end ends is_finished number_of
all_open = true

reads_nears : (m : Mark) → (not (is_reading m || (in_units m && not (takes_operand m))) || (is_finished m || nears (found (leading m) (heads m)) (length (ends m)))) ≡ true
unfolding all_open
reads_nears (Bullets s n) = refl
reads_nears _ = refl

wants_nears : (m : Mark) (k : Class) → (not (is_wanting m || takes_operand m) || nears (found (leading m) (rows m k)) (length (ends m))) ≡ true
unfolding all_open
wants_nears (Bullets s n) k = refl
wants_nears _ k = refl

-- it is no operator, and nothing goes on with it but the form that it ends
unfoldable ends_operand : Sign → Bool
ends_operand s = not (op (after s)) && (not (is_bullet s) && not (same_sign s Square))

wants_ends : (m : Mark) → (not (is_wanting m || takes_operand m) || ends_operand (leading m)) ≡ true
unfolding all_open ends_operand after is_bullet
wants_ends (Bullets s n) = refl
wants_ends _ = refl

sign_leading : (m : Mark) (n : ℕ) → sign (like (leading m) n) ≡ leading m
unfolding all_open sign kind_like symbol_signs word_signs fold_name
sign_leading (Bullets s k) n = refl
sign_leading _ n = refl

-- ---- a token nearer to the end

-- no form stands right of the column
abbrev Left : ℕ → List Open → Type 0
Left n [] = Unit {0}
Left n (Before p ∷ s) = Left n s
Left n (Between a o ∷ s) = Left n s
Left n (Within f ∷ s) = (f.outer ≤ n) × Left n s

-- how many parts are left, at most
abbrev size : List Open → ℕ
size [] = 0
size (Before p ∷ s) = size s
size (Between a o ∷ s) = size s
size (Within f ∷ s) = far f.next + size s

-- it can be ended in fewer than k steps, in the column n
abbrev Good : ℕ → ℕ → Status → Type 0
Good n k lost = ⊥
Good n k (running Want s c m) = (nested s ≡ true) × (m ≤ n) × Left n s × (size s + size s + 1 < k)
Good n k (running (Have w) s c m) = (nested s ≡ true) × (m ≤ n) × Left n s × (size s + size s < k)
Good n k (running Read s c m) = (reads_on s ≡ true) × (m ≤ n) × Left n s × (size s + size s < k)
Good n k (running Stuck s c m) = ⊥

record IsNearer (n : Next) (q : ℕ) : Type 0 where
  pub alive : is_fail n ≡ false
  pub level : inner n ≡ 0
  pub less : far n < q

nears_so : (n : Next) (q : ℕ) → nears n q ≡ true → plain_kind n ≡ true → IsNearer n q
nears_so n q h p =
    let k : (not (is_fail n) ≡ true) × (nat_lt (far n) q ≡ true) = and_both (not (is_fail n)) (nat_lt (far n) q) h in
    record { alive = negated (is_fail n) k.0; level = plain_level n p; less = ltb-true (far n) q k.1 }

entered_good : (n k q : ℕ) (x : Next) (count lv : ℕ) (s : List Open) (c : List Code) (m : ℕ) → IsNearer x q → fits x s ≡ true → m ≤ n → Left n s → (q + size s) + (q + size s) < suc k → Good n k (entered x count lv s c m)
entered_good n k q (Reads j) count lv s c m g h e l b = (h, e, (e, l), omega (arith, g.less, b))
entered_good n k q (Wants j) count lv s c m g h e l b = let z : mark_column j ≡ 0 = g.level in (h, omega (arith, z, e), (e, l), omega (arith, g.less, b))
entered_good n k q (Last j) count lv s c m g h e l b = let z : mark_column j ≡ 0 = g.level in (h, omega (arith, z, e), (e, l), omega (arith, g.less, b))
entered_good n k q (Shut f) count lv s c m g h e l b = (shut_fits f s h, e, l, omega (arith, g.less, b))
entered_good n k q Fail count lv s c m g h e l b = absurd (clash true refl g.alive)

-- where a token of the form is to come
found_read : (j : Mark) (t : Tok) → delta (reading j) t ≡ found (sign t) (heads j)
unfolding delta moved
found_read j t = refl

units_not : (b u : Bool) → ((b || u) || false) ≡ true → not u ≡ true → b ≡ true
units_not true u h k = refl
units_not false true h k = absurd (cc)
units_not false false h k = absurd (cc)

reads_premise : (j : Mark) (s : List Open) → fits (Reads j) s ≡ true → (is_reading j || (in_units j && not (takes_operand j))) ≡ true
reads_premise j [] h = or_right (is_reading j) (in_units j && not (takes_operand j)) h
reads_premise j (g ∷ s) h =
    let k : (kinded (Reads j) ≡ true) × (not (in_units j) ≡ true) = and_both (kinded (Reads j)) (not (in_units j)) (and_both (of_form (Reads j)) (nested (g ∷ s)) h).0 in
    or_left (is_reading j) (in_units j && not (takes_operand j)) (units_not (is_reading j) (in_units j) k.0 k.1)

wants_premise : (j : Mark) (s : List Open) → fits (Wants j) s ≡ true → (is_wanting j || takes_operand j) ≡ true
wants_premise j [] h = or_right (is_wanting j) (takes_operand j) (and_both (in_units j) (takes_operand j) h).1
wants_premise j (g ∷ s) h =
    let k : (kinded (Wants j) ≡ true) × (not (in_units j) ≡ true) = and_both (kinded (Wants j)) (not (in_units j)) (and_both (of_form (Wants j)) (nested (g ∷ s)) h).0 in
    or_left (is_wanting j) (takes_operand j) (units_not (is_wanting j) (in_units j) k.0 k.1)

reads_nearer : (n k : ℕ) (f : Form) (s : List Open) (c : List Code) (m : ℕ) (j : Mark) → f.next ≡ Reads j → is_finished j ≡ false → fits f.next s ≡ true → f.outer ≤ n → Left n s → size (Within f ∷ s) + size (Within f ∷ s) < suc k → Good n k (heads_on (like (leading j) n) (Within f ∷ s) c m)
reads_nearer n k f s c m j e i h o l b =
    let t : Tok = like (leading j) n in
    let y : Next = delta (read_at f.next) t in
    let d : y ≡ found (leading j) (heads j) = ap (λ (x : Next). delta (read_at x) t) e ∙ found_read j t ∙ ap (λ (z : Sign). found z (heads j)) (sign_leading j n) in
    let g : IsNearer (found (leading j) (heads j)) (length (ends j)) =
    nears_so (found (leading j) (heads j)) (length (ends j)) (not_ended (is_finished j) _ i (by_premise _ _ (reads_nears j) (reads_premise j s (subst (λ (x : Next). fits x s ≡ true) e h)))) (heads_kind j (leading j)) in
    let q : nat_lt n f.outer ≡ false = le-ltb n f.outer o in
    rw q
    (entered_good n k (length (ends j)) y (f.count + 1) f.levels s (c ++ (Part t ∷ [])) f.outer (subst (λ (x : Next). IsNearer x (length (ends j))) (sym d) g)
    (fits_on (read_at f.next) f.next t s (at_read f.next) h) o l (subst (λ (x : Next). (far x + size s) + (far x + size s) < suc k) e b))
  where
    not_ended : (a x : Bool) → a ≡ false → (a || x) ≡ true → x ≡ true
    not_ended true x p r = absurd (cc)
    not_ended false x p r = r

-- behind an operand: the token that ends the innermost form that goes on
abbrev leading_next : Next → Sign
leading_next (Wants m) = leading m
leading_next (Reads m) = Stray
leading_next (Last m) = Stray
leading_next (Shut c) = Stray
leading_next Fail = Stray

abbrev awaited : List Open → Sign
awaited [] = Stray
awaited (Before p ∷ s) = awaited s
awaited (Between a o ∷ s) = awaited s
awaited (Within f ∷ s) = cond (is_last f.next) (awaited s) (leading_next f.next)

awaited_last : (f : Form) (s : List Open) → is_last f.next ≡ true → awaited (Within f ∷ s) ≡ awaited s
awaited_last f s e = rw e refl

awaited_wants : (f : Form) (s : List Open) (j : Mark) → f.next ≡ Wants j → awaited (Within f ∷ s) ≡ leading j
awaited_wants f s j e = rw e refl

record IsWants (n : Next) : Type 0 where
  pub mark : Mark
  pub next_so : n ≡ Wants mark

wants_of : (n : Next) → holds n ≡ true → is_last n ≡ false → IsWants n
wants_of (Wants m) h e = record { mark = m; next_so = refl }
wants_of (Last m) h e = absurd (cc)
wants_of (Reads m) h e = absurd (cc)
wants_of (Shut c) h e = absurd (cc)
wants_of Fail h e = absurd (cc)

is_wants : (f : Form) (s : List Open) → nested (Within f ∷ s) ≡ true → is_last f.next ≡ false → IsWants f.next
is_wants f s h e = wants_of f.next (and_both (holds f.next) (fits f.next s) h).0 e

wants_fits : (f : Form) (s : List Open) (j : Mark) → nested (Within f ∷ s) ≡ true → f.next ≡ Wants j → (is_wanting j || takes_operand j) ≡ true
wants_fits f s j h e = wants_premise j s (subst (λ (x : Next). fits x s ≡ true) e (within_fits f s h))

-- the token can be written, and ends an operand
record IsEnding (s : Sign) (n : ℕ) : Type 0 where
  pub sign_so : sign (like s n) ≡ s
  pub ends_so : ends_operand s ≡ true

wants_ending : (f : Form) (s : List Open) (n : ℕ) → nested (Within f ∷ s) ≡ true → is_last f.next ≡ false → IsEnding (awaited (Within f ∷ s)) n
wants_ending f s n h e =
    let i : IsWants f.next = is_wants f s h e in
    subst (λ (x : Sign). IsEnding x n) (sym (awaited_wants f s i.mark i.next_so))
    (record { sign_so = sign_leading i.mark n; ends_so = by_premise _ _ (wants_ends i.mark) (wants_fits f s i.mark h i.next_so) })

awaited_so : (s : List Open) (n : ℕ) → nested s ≡ true → IsEnding (awaited s) n
awaited_so [] n h = absurd (cc)
awaited_so (Before p ∷ s) n h = awaited_so s n h
awaited_so (Between a o ∷ s) n h = awaited_so s n h
awaited_so (Within f ∷ []) n h = wants_ending f [] n h (module_stays f.next (within_fits f [] h))
awaited_so (Within f ∷ g ∷ s) n h = elim (either (is_last f.next)) [
  | inl e ↦ subst (λ (x : Sign). IsEnding x n) (sym (awaited_last f (g ∷ s) e)) (awaited_so (g ∷ s) n (and_both (of_form f.next) (nested (g ∷ s)) (within_fits f (g ∷ s) h)).1)
  | inr e ↦ wants_ending f (g ∷ s) n h e
]

-- what such a sign is
record Quiet (s : Sign) : Type 0 where
  pub role_so : after s ≡ NoRole
  pub bullet_so : is_bullet s ≡ false
  pub square_so : same_sign s Square ≡ false

quiet_so : (s : Sign) → ends_operand s ≡ true → Quiet s
unfolding ends_operand
quiet_so s h =
    let a : (not (op (after s)) ≡ true) × ((not (is_bullet s) && not (same_sign s Square)) ≡ true) = and_both (not (op (after s))) _ h in
    let b : (not (is_bullet s) ≡ true) × (not (same_sign s Square) ≡ true) = and_both (not (is_bullet s)) (not (same_sign s Square)) a.1 in
    record { role_so = no_role (after s) a.0; bullet_so = negated (is_bullet s) b.0; square_so = negated (same_sign s Square) b.1 }
  where
    no_role : (r : Role) → not (op r) ≡ true → r ≡ NoRole
    no_role NoRole q = refl
    no_role InfixRole q = absurd (cc)
    no_role PostfixRole q = absurd (cc)

-- no last operand goes on with it
quiet_rows : (m : Mark) (k : Class) (s : Sign) → is_lasting m ≡ true → same_sign s Square ≡ false → is_fail (found s (rows m k)) ≡ true
unfolding all_open is_lasting
quiet_rows InArm k s h e = rw e refl
quiet_rows QuantifierBody k s h e = refl
quiet_rows ChoiceBody k s h e = refl
quiet_rows InElse k s h e = refl
quiet_rows LocalBody k s h e = refl
quiet_rows InOther k s h e = refl
quiet_rows _ k s h e = absurd (cc)

quiet_goes : (m : Mark) (k : Class) (t : Tok) → kinded (Last m) ≡ true → Quiet (sign t) → is_fail (delta (filled m k) t) ≡ true
unfolding delta moved goes_on
quiet_goes (Bullets s n) k t h q = no_next s n (look t) q.bullet_so
quiet_goes m k t h q = quiet_rows m k (sign t) (plain_last (is_lasting m) h) q.square_so

quiet_passes : (t : Tok) (m : ℕ) (b : Bool) → Quiet (sign t) → passes_by t m b ≡ true
quiet_passes t m b q = passes_any (nat_lt (column t) m) b (after (sign t)) q.role_so

quiet_last : (t : Tok) (n : Next) (k : Class) → is_last n ≡ true → kinded n ≡ true → Quiet (sign t) → is_fail (delta (given n k) t) ≡ true
quiet_last t (Last m) k e h q = quiet_goes m k t h q
quiet_last t (Reads m) k e h q = absurd (cc)
quiet_last t (Wants m) k e h q = absurd (cc)
quiet_last t (Shut c) k e h q = absurd (cc)
quiet_last t Fail k e h q = absurd (cc)

quiet_folds : (t : Tok) (w : Operand) (f : Form) (m : ℕ) → is_last f.next ≡ true → kinded f.next ≡ true → Quiet (sign t) → folds t w (Within f) m ≡ true
quiet_folds t w f m e h q = rw (quiet_last t f.next w.class e h q, e, quiet_passes t m false q) (not_false (nat_le f.outer (column t)))
  where
    not_false : (x : Bool) → (not (x && false) && true) ≡ true
    not_false true = refl
    not_false false = refl

found_filled : (j : Mark) (k : Class) (t : Tok) → (is_wanting j || takes_operand j) ≡ true → delta (filled j k) t ≡ found (sign t) (rows j k)
unfolding delta moved goes_on is_wanting takes_operand
found_filled (Bullets s n) k t h = absurd (cc)
found_filled _ k t h = refl

wants_nearer : (n k : ℕ) (t : Tok) (w : Operand) (f : Form) (s : List Open) (c : List Code) (m : ℕ) (j : Mark) → f.next ≡ Wants j → sign t ≡ leading j → column t ≡ n → nested (Within f ∷ s) ≡ true → Left n (Within f ∷ s) → size (Within f ∷ s) + size (Within f ∷ s) < suc k → Good n k (following t w (Within f ∷ s) c m)
wants_nearer n k t w f s c m j e i r h l b =
    let y : Next = delta (given f.next w.class) t in
    let p : (is_wanting j || takes_operand j) ≡ true = wants_fits f s j h e in
    let d : y ≡ found (leading j) (rows j w.class) = ap (λ (x : Next). delta (given x w.class) t) e ∙ found_filled j w.class t p ∙ ap (λ (z : Sign). found z (rows j w.class)) i in
    let g : IsNearer y (length (ends j)) =
    subst (λ (x : Next). IsNearer x (length (ends j))) (sym d) (nears_so (found (leading j) (rows j w.class)) (length (ends j)) (by_premise _ _ (wants_nears j w.class) p) (rows_kind j w.class (leading j))) in
    let u : nat_le f.outer (column t) ≡ true = le-leb f.outer (column t) (omega (arith, r, l.0)) in
    let z : accepting f w t ≡ true = rw (u, g.alive) refl in
    rw (stays_open t w f m (ap is_last e), z)
    (entered_good n k (length (ends j)) y (f.count + 2) (max f.levels w.levels) s (c ++ (Part t ∷ [])) f.outer g
    (fits_on (given f.next w.class) f.next t s (at_given w.class f.next) (within_fits f s h)) l.0 l.1 (subst (λ (x : Next). (far x + size s) + (far x + size s) < suc k) e b))

behind_nearer : (n k : ℕ) (t : Tok) (w : Operand) (s : List Open) (c : List Code) (m : ℕ) → sign t ≡ awaited s → column t ≡ n → Quiet (sign t) → nested s ≡ true → Left n s → size s + size s < suc k → Good n k (following t w s c m)
behind_nearer n k t w [] c m i r q h l b = absurd (cc)
behind_nearer n k t w (Before p ∷ s) c m i r q h l b =
    rw (quiet_passes t m (nat_lt (hi (sign t)) (prefix_lo (sign p))) q) (behind_nearer n k t (folded (Before p) w) s (c ++ (folded_code (Before p) ∷ [])) m i r q h l b)
behind_nearer n k t w (Between a o ∷ s) c m i r q h l b =
    rw (quiet_passes t m (nat_lt (hi (sign t)) (lo (sign o)) || same (sign o) (sign t)) q) (behind_nearer n k t (folded (Between a o) w) s (c ++ (folded_code (Between a o) ∷ [])) m i r q h l b)
behind_nearer n k t w (Within f ∷ []) c m i r q h l b =
    let x : IsWants f.next = is_wants f [] h (module_stays f.next (within_fits f [] h)) in
    wants_nearer n k t w f [] c m x.mark x.next_so (i ∙ awaited_wants f [] x.mark x.next_so) r h l b
behind_nearer n k t w (Within f ∷ g ∷ s) c m i r q h l b =
    let k2 : (of_form f.next ≡ true) × (nested (g ∷ s) ≡ true) = and_both (of_form f.next) (nested (g ∷ s)) (within_fits f (g ∷ s) h) in
    elim (either (is_last f.next)) [
      | inl e ↦ rw (quiet_folds t w f m e (and_both (kinded f.next) (stays_in false f.next) k2.0).0 q)
          (behind_nearer n k t (folded (Within f) w) (g ∷ s) (c ++ (folded_code (Within f) ∷ [])) f.outer (i ∙ awaited_last f (g ∷ s) e) r q k2.1 l.1 (omega (arith, b)))
      | inr e ↦ (let x : IsWants f.next = is_wants f (g ∷ s) h e in
          wants_nearer n k t w f (g ∷ s) c m x.mark x.next_so (i ∙ awaited_wants f (g ∷ s) x.mark x.next_so) r h l b)
    ]

-- where an operand is to come: a name
word_sign : (n : ℕ) → sign (like Word n) ≡ Word
unfolding sign kind_like fold_name
word_sign n = refl

word_prefix : is_prefix Word ≡ false
unfolding is_prefix
word_prefix = refl

word_opens : (t : Tok) → sign t ≡ Word → delta begin t ≡ Shut NameUse
unfolding delta moved opens
word_opens t e = rw e refl

no_instead : (m : Mark) → found Word (insteads m) ≡ Fail
unfolding insteads number_of
no_instead (Bullets s n) = refl
no_instead _ = refl

word_idle : (n : Next) (t : Tok) → sign t ≡ Word → is_fail (delta (idle n) t) ≡ true
unfolding delta moved
word_idle (Wants m) t e = rw (e, no_instead m) refl
word_idle (Reads m) t e = refl
word_idle (Last m) t e = refl
word_idle (Shut c) t e = refl
word_idle Fail t e = refl

-- behind a name
abbrev named : Tok → List Open → List Code → ℕ → Status
named t s c m = running (Have (operand (class_of NameUse) (form_deeper NameUse 0))) s ((c ++ (Part t ∷ [])) ++ (Close NameUse 1 ∷ [])) m

word_fresh : (t : Tok) (s : List Open) (c : List Code) (m : ℕ) → sign t ≡ Word → m ≤ column t → freshly t s c m ≡ named t s c m
word_fresh t s c m e l =
    let q : nat_lt (column t) m ≡ false = le-ltb (column t) m l in
    rw (q, ap is_prefix e ∙ word_prefix, word_opens t e) refl

word_wanted : (t : Tok) (s : List Open) (c : List Code) (m : ℕ) → sign t ≡ Word → m ≤ column t → wanting t s c m ≡ named t s c m
word_wanted t [] c m e l = word_fresh t [] c m e l
word_wanted t (Before p ∷ s) c m e l = word_fresh t (Before p ∷ s) c m e l
word_wanted t (Between a o ∷ s) c m e l = word_fresh t (Between a o ∷ s) c m e l
word_wanted t (Within f ∷ s) c m e l = rw (not_taken (nat_le f.outer (column t))) (word_fresh t (Within f ∷ s) c m e l)
  where
    not_taken : (q : Bool) → (q && not (is_fail (delta (idle f.next) t))) ≡ false
    not_taken true = ap not (word_idle f.next t e)
    not_taken false = refl

-- ---- what is open can be ended

abbrev pub CanEnd : Status → Type 0
CanEnd st = (more : List Tok) × (finished (advances st more) ≡ true)

one_more : (t : Tok) (st : Status) → CanEnd (advance t st) → CanEnd st
one_more t st e = (t ∷ e.0, e.1)

finished_units : (m : Mark) → is_finished m ≡ true → in_units m ≡ true
unfolding is_finished in_units
finished_units Finished h = refl
finished_units _ h = absurd (cc)

-- the module is at its end
at_end : (f : Form) (s : List Open) (j : Mark) → f.next ≡ Reads j → is_finished j ≡ true → fits f.next s ≡ true → ended_stack (Within f ∷ s) ≡ true
at_end f [] j e h k = rw e h
at_end f (g ∷ s) j e h k =
    let u : not (in_units j) ≡ true = (and_both (kinded (Reads j)) (not (in_units j)) (and_both (of_form (Reads j)) (nested (g ∷ s)) (subst (λ (x : Next). fits x (g ∷ s) ≡ true) e k)).0).1 in
    absurd (clash (in_units j) (finished_units j h) (negated (in_units j) u))

record IsReads (n : Next) : Type 0 where
  pub mark : Mark
  pub next_so : n ≡ Reads mark

reads_of : (n : Next) → reads n ≡ true → IsReads n
reads_of (Reads m) h = record { mark = m; next_so = refl }
reads_of (Wants m) h = absurd (cc)
reads_of (Last m) h = absurd (cc)
reads_of (Shut c) h = absurd (cc)
reads_of Fail h = absurd (cc)

no_steps : (n : ℕ) (st : Status) → Good n 0 st → ⊥
no_steps n lost g = g
no_steps n (running Stuck s c m) g = g
no_steps n (running Want s c m) g = let b : size s + size s + 1 < 0 = g.3 in omega arith
no_steps n (running (Have w) s c m) g = let b : size s + size s < 0 = g.3 in omega arith
no_steps n (running Read s c m) g = let b : size s + size s < 0 = g.3 in omega arith

good_ends : (n k : ℕ) (st : Status) → Good n k st → CanEnd st
good_ends n zero st g = absurd (no_steps n st g)
good_ends n (suc k) lost g = absurd g
good_ends n (suc k) (running Stuck s c m) g = absurd g
good_ends n (suc k) (running Want s c m) g =
    one_more (like Word n) (running Want s c m)
    (good_ends n k (advance (like Word n) (running Want s c m))
    (subst (Good n k) (sym (word_wanted (like Word n) s c m (word_sign n) g.1)) (g.0, g.1, g.2, omega (arith, g.3))))
good_ends n (suc k) (running (Have w) s c m) g =
    let a : IsEnding (awaited s) n = awaited_so s n g.0 in
    one_more (like (awaited s) n) (running (Have w) s c m)
    (good_ends n k (advance (like (awaited s) n) (running (Have w) s c m))
    (behind_nearer n k (like (awaited s) n) w s c m a.sign_so refl (quiet_so (sign (like (awaited s) n)) (ap ends_operand a.sign_so ∙ a.ends_so)) g.0 g.2 g.3))
good_ends n (suc k) (running Read [] c m) g = absurd (clash false g.0 refl)
good_ends n (suc k) (running Read (Before p ∷ s) c m) g = absurd (clash false g.0 refl)
good_ends n (suc k) (running Read (Between a o ∷ s) c m) g = absurd (clash false g.0 refl)
good_ends n (suc k) (running Read (Within f ∷ s) c m) g =
    let h : (reads f.next ≡ true) × (fits f.next s ≡ true) = and_both (reads f.next) (fits f.next s) g.0 in
    let r : IsReads f.next = reads_of f.next h.0 in
    elim (either (is_finished r.mark)) [
      | inl e ↦ ([], at_end f s r.mark r.next_so e h.1)
      | inr e ↦ one_more (like (leading r.mark) n) (running Read (Within f ∷ s) c m)
          (good_ends n k (advance (like (leading r.mark) n) (running Read (Within f ∷ s) c m))
          (reads_nearer n k f s c m r.mark r.next_so e h.1 g.2.0 g.2.1 g.3))
    ]

-- a column that no form stands right of
abbrev columns_of : List Open → ℕ
columns_of [] = 0
columns_of (Before p ∷ s) = columns_of s
columns_of (Between a o ∷ s) = columns_of s
columns_of (Within f ∷ s) = f.outer + columns_of s

left_of_all : (n : ℕ) (s : List Open) → columns_of s ≤ n → Left n s
left_of_all n [] h = tt
left_of_all n (Before p ∷ s) h = left_of_all n s h
left_of_all n (Between a o ∷ s) h = left_of_all n s h
left_of_all n (Within f ∷ s) h = (omega (arith, h), left_of_all n s (omega (arith, h)))

pub alive_ends : (st : Status) → Nested st → (standing_of st).stuck ≡ false → CanEnd st
alive_ends lost g h = absurd (cc)
alive_ends (running Stuck s c m) g h = absurd (cc)
alive_ends (running Want s c m) g h =
    good_ends (m + columns_of s) (size s + size s + 2) (running Want s c m) (g, omega arith, left_of_all (m + columns_of s) s (omega arith), omega arith)
alive_ends (running (Have w) s c m) g h =
    good_ends (m + columns_of s) (size s + size s + 1) (running (Have w) s c m) (g, omega arith, left_of_all (m + columns_of s) s (omega arith), omega arith)
alive_ends (running Read s c m) g h =
    good_ends (m + columns_of s) (size s + size s + 1) (running Read s c m) (g, omega arith, left_of_all (m + columns_of s) s (omega arith), omega arith)
