-- What the proof needs to know of the tables, and nothing else.
use Rattle.std.proofs.Common.{get_or}
use Rattle.std.proofs.lemmas.Bool.{eqb-false}
use Rattle.tla_lexer.specs.declared.token.Token.{Token as Tok}
use Rattle.std.proofs.Common.{ℕ, Bool, true, false, not, List, inl, inr, refl, sym, ap, subst, arith, eqb-true, ◌≡◌, ◌<◌, ◌≤◌, ◌⊎◌, ◌∷◌, ◌&&◌, ◌==◌, ◌∙◌, []}
use Rattle.tla_parser.proofs.Basics.{and_both, either, not_true}
use Rattle.tla_parser.specs.Operators.{after, hi, is_associative, is_bullet, is_prefix, lo, number_of, prefix_hi, prefix_lo, same, same_sign}
use Rattle.tla_parser.specs.Signs.{column, sign}
use Rattle.tla_parser.specs.declared.moves.Class.{Class}
use Rattle.tla_parser.specs.declared.moves.Class.TheVariants.{BareName, FoldName, Joined, Member, Other, PathName, Tuple, TupleMember}
use Rattle.tla_parser.specs.declared.moves.Mark.{Mark}
use Rattle.tla_parser.specs.declared.moves.Mark.TheVariants.{Bullets, InAssumption, InBracket, InItems, InStatement}
use Rattle.tla_parser.specs.declared.moves.Next.{Next}
use Rattle.tla_parser.specs.declared.moves.Next.TheVariants.{Fail, Last, Reads, Shut, Wants}
use Rattle.tla_parser.specs.declared.moves.Seen.{Seen}
use Rattle.tla_parser.specs.declared.signs.Role.TheVariants.{InfixRole, PostfixRole}
use Rattle.tla_parser.specs.declared.signs.Sign.{Sign}
use Rattle.tla_parser.specs.declared.signs.Sign.TheVariants.{AngleSub, Arrow, Assigns, AssumeWord, At, AtLeast, AtMost, Bang, BooleanWord, BracketSub, Caret, CaseWord, ChooseWord, Circle, Colon, Comma, ConstantWord, Dash, Dashes, Defines, Diamond, Difference, Differs, DomainWord, Dot, Dots, DoubleArrow, Element, ElseWord, EnabledWord, EndSign, Equals, Equivalence, ExceptWord, ExistsSign, ExtendsWord, FairWord, FalseWord, FoldWord, ForallSign, Greater, IfWord, InWord, Included, InstanceWord, Intersection, LambdaWord, LeadsTo, LeftAngle, LeftBrace, LeftBracket, LeftParen, Less, LetWord, LocalWord, MapsTo, ModuleWord, NotElement, Number, OtherWord, Overrides, Pairs, Percent, Plus, ProofWord, Quotation, Quotient, RecursiveWord, Replaces, RightAngle, RightBrace, RightBracket, RightParen, Square, Star, Stray, StringWord, SubsetWord, ThenWord, TheoremWord, Tick, Tilde, Times, TrueWord, UnchangedWord, Underscore, UnionSign, UnionWord, VariableWord, Vee, Wedge, WithWord, Word}
use Rattle.tla_parser.specs.inner.Derivations.{delta, look, mark_column}
use Rattle.tla_parser.specs.inner.Moves.{Point, Row, begin, behind_op, body_rows, bracket_rows, fair_rows, filled, fold_rows, found, goes_on, heads, hungry, in_braces, in_brackets, in_units, insteads, listed_heads, local_heads, local_rows, module_heads, moved, name_heads, next_bullet, of_name, off, opens, postfixes, reading, recursive_heads, rows, subscript_heads, tuple_rows, unit_heads, unit_rows, update_heads, update_rows}
use Rattle.tla_parser.specs.inner.Recognition.{is_fail, op}

all_signs : List Sign
all_signs =
    Number ∷ Quotation ∷ Word ∷ FoldWord ∷ TrueWord ∷ FalseWord ∷ BooleanWord ∷ StringWord ∷ At ∷
    LeftParen ∷ RightParen ∷ LeftBracket ∷ RightBracket ∷ LeftBrace ∷ RightBrace ∷ LeftAngle ∷ RightAngle ∷
    Comma ∷ Colon ∷ Dot ∷ Bang ∷ Tick ∷ Underscore ∷ Defines ∷ Replaces ∷ Arrow ∷ MapsTo ∷ BracketSub ∷
    AngleSub ∷ Wedge ∷ Vee ∷ DoubleArrow ∷ Equivalence ∷ LeadsTo ∷ Equals ∷ Differs ∷ Less ∷ Greater ∷
    AtMost ∷ AtLeast ∷ Element ∷ NotElement ∷ Included ∷ Assigns ∷ Overrides ∷ Pairs ∷ UnionSign ∷
    Intersection ∷ Difference ∷ Dots ∷ Plus ∷ Percent ∷ Times ∷ Dash ∷ Star ∷ Quotient ∷ Circle ∷ Caret ∷
    Tilde ∷ UnchangedWord ∷ EnabledWord ∷ Square ∷ Diamond ∷ SubsetWord ∷ UnionWord ∷ DomainWord ∷
    ExistsSign ∷ ForallSign ∷ ChooseWord ∷ IfWord ∷ ThenWord ∷ ElseWord ∷ CaseWord ∷ OtherWord ∷ LetWord ∷
    InWord ∷ LambdaWord ∷ ExceptWord ∷ FairWord ∷ Dashes ∷ EndSign ∷ ModuleWord ∷ ExtendsWord ∷
    VariableWord ∷ ConstantWord ∷ AssumeWord ∷ TheoremWord ∷ InstanceWord ∷ WithWord ∷ RecursiveWord ∷
    LocalWord ∷ ProofWord ∷ Stray ∷ []

sign_at : ℕ → Sign
unfolding all_signs
sign_at n = get_or all_signs n Stray

numbered : (s : Sign) → sign_at (number_of s) ≡ s
unfolding all_signs sign_at number_of
numbered Number = refl
numbered _ = refl

pub same_sign-is : (a b : Sign) → same_sign a b ≡ true → a ≡ b
same_sign-is a b h = sym (numbered a) ∙ ap sign_at (eqb-true (number_of a) (number_of b) h) ∙ numbered b

pub same_self : (s : Sign) → same_sign s s ≡ true
same_self s = elim (either (same_sign s s)) [ inl e ↦ e | inr e ↦ absurd (eqb-false (number_of s) (number_of s) e refl) ]

pub lo_hi : (k : Sign) → lo k ≤ hi k
unfolding lo hi
lo_hi Number = omega arith
lo_hi _ = omega arith

pub prefix_lo_hi : (k : Sign) → prefix_lo k ≤ prefix_hi k
unfolding prefix_lo prefix_hi
prefix_lo_hi Number = omega arith
prefix_lo_hi _ = omega arith

lo_most : (k : Sign) → lo k ≤ 16
unfolding lo
lo_most Number = omega arith
lo_most _ = omega arith

prefix_lo_most : (k : Sign) → prefix_lo k ≤ 16
unfolding prefix_lo
prefix_lo_most Number = omega arith
prefix_lo_most _ = omega arith

pub same_is : (a b : Sign) → same a b ≡ true → a ≡ b
unfolding same
same_is a b h = same_sign-is a b (and_both (is_associative a) (same_sign a b) h).1

top_range : (k : Sign) → after k ≡ PostfixRole → hi k ≡ 16
unfolding after hi
top_range Tick h = refl
top_range Dot h = refl
top_range Bang h = refl
top_range LeftBracket h = refl
top_range LeftParen h = refl
top_range _ h = cc

pub postfix_lo : (j k : Sign) → after k ≡ PostfixRole → lo j ≤ hi k
postfix_lo j k h = omega (arith, lo_most j, top_range k h)

pub postfix_prefix_lo : (j k : Sign) → after k ≡ PostfixRole → prefix_lo j ≤ hi k
postfix_prefix_lo j k h = omega (arith, prefix_lo_most j, top_range k h)

associative_infix : (a : Sign) → is_associative a ≡ true → after a ≡ InfixRole
unfolding is_associative after
associative_infix Wedge h = refl
associative_infix Vee h = refl
associative_infix Overrides h = refl
associative_infix UnionSign h = refl
associative_infix Intersection h = refl
associative_infix Plus h = refl
associative_infix Times h = refl
associative_infix Dash h = refl
associative_infix Star h = refl
associative_infix Circle h = refl
associative_infix _ h = cc

pub postfix_same : (j k : Sign) → after k ≡ PostfixRole → same j k ≡ false
unfolding same
postfix_same j k h = not_true (same j k) (λ e.
    let r : j ≡ k = same_is j k e in
    let i : after j ≡ InfixRole = associative_infix j (and_both (is_associative j) (same_sign j k) e).0 in
    let q : after k ≡ InfixRole = ap after (sym r) ∙ i in
    cc)

pub delta-off : (t : Tok) → delta off t ≡ Fail
unfolding delta moved
delta-off t = refl

-- ---- no form but a list goes on with an operator

abbrev plain : List Row → Bool
plain [] = true
plain (row ∷ others) = not (op (after row.sign)) && plain others

pub negated : (x : Bool) → not x ≡ true → x ≡ false
negated true q = cc
negated false q = refl

pub clash : (x : Bool) → x ≡ true → x ≡ false → ⊥
clash true h k = cc
clash false h k = cc

plain_found : (s : Sign) (rs : List Row) → plain rs ≡ true → op (after s) ≡ true → found s rs ≡ Fail
plain_found s [] h o = refl
plain_found s (r ∷ rs) h o =
    let b : (not (op (after r.sign)) ≡ true) × (plain rs ≡ true) = and_both (not (op (after r.sign))) (plain rs) h in
    rw (not_true (same_sign s r.sign) (λ e.
    clash (op (after r.sign)) (ap (λ (x : Sign). op (after x)) (sym (same_sign-is s r.sign e)) ∙ o) (negated (op (after r.sign)) b.0))) (plain_found s rs b.1 o)

plain_rows : (m : Mark) (c : Class) → plain (rows m c) ≡ true
unfolding rows local_rows bracket_rows update_rows tuple_rows fair_rows fold_rows body_rows in_braces in_brackets unit_rows after
plain_rows (Bullets s n) c = refl
plain_rows _ c = refl

no_bullet : (s : Sign) (n : ℕ) (t : Tok) → n < column t → next_bullet s n (look t) ≡ Fail
no_bullet s n t h = rw (not_true (is_bullet s && (same_sign s (sign t) && (n == column t))) (λ e.
    let k : (is_bullet s ≡ true) × ((same_sign s (sign t) && (n == column t)) ≡ true) = and_both (is_bullet s) (same_sign s (sign t) && (n == column t)) e in
    let q : n ≡ column t = eqb-true n (column t) (and_both (same_sign s (sign t)) (n == column t) k.1).1 in
    omega arith)) refl

pub op-goes_on : (m : Mark) (c : Class) (t : Tok) → op (after (sign t)) ≡ true → mark_column m ≤ column t → delta (filled m c) t ≡ Fail
unfolding delta moved goes_on mark_column
op-goes_on (Bullets s n) c t h m = no_bullet s n t (omega arith)
op-goes_on _ c t h m = plain_found (sign t) (rows _ c) (plain_rows _ c) h

-- ---- no token both begins an operand and stands in the place of one

pub is_failed : (n : Next) → is_fail n ≡ true → n ≡ Fail
is_failed Fail h = refl
is_failed (Reads m) h = cc
is_failed (Wants m) h = cc
is_failed (Last m) h = cc
is_failed (Shut f) h = cc

abbrev closing : Seen → List Row → Bool
closing t [] = true
closing t (row ∷ others) = is_fail (opens t row.sign) && closing t others

closing_insteads : (m : Mark) (t : Seen) → closing t (insteads m) ≡ true
unfolding opens insteads
closing_insteads (Bullets s n) t = refl
closing_insteads _ t = refl

closing_found : (t : Seen) (s : Sign) (rs : List Row) → closing t rs ≡ true → (opens t s ≡ Fail) ⊎ (found s rs ≡ Fail)
closing_found t s [] h = inr refl
closing_found t s (r ∷ rs) h =
    let b : (is_fail (opens t r.sign) ≡ true) × (closing t rs ≡ true) = and_both (is_fail (opens t r.sign)) (closing t rs) h in
    elim (either (same_sign s r.sign)) [
      | inl e ↦ inl (ap (opens t) (same_sign-is s r.sign e) ∙ is_failed (opens t r.sign) b.0)
      | inr e ↦ rw e (closing_found t s rs b.1)
    ]

pub hungry_fresh : (m : Mark) (t : Tok) → (delta begin t ≡ Fail) ⊎ (delta (hungry m) t ≡ Fail)
unfolding delta moved
hungry_fresh m t = closing_found (look t) (sign t) (insteads m) (closing_insteads m (look t))

abbrev unprefixed : List Row → Bool
unprefixed [] = true
unprefixed (row ∷ others) = not (is_prefix row.sign) && unprefixed others

unprefixed_insteads : (m : Mark) → unprefixed (insteads m) ≡ true
unfolding is_prefix insteads
unprefixed_insteads (Bullets s n) = refl
unprefixed_insteads _ = refl

unprefixed_found : (s : Sign) (rs : List Row) → unprefixed rs ≡ true → is_prefix s ≡ true → found s rs ≡ Fail
unprefixed_found s [] h o = refl
unprefixed_found s (r ∷ rs) h o =
    let b : (not (is_prefix r.sign) ≡ true) × (unprefixed rs ≡ true) = and_both (not (is_prefix r.sign)) (unprefixed rs) h in
    rw (not_true (same_sign s r.sign) (λ e.
    clash (is_prefix r.sign) (ap is_prefix (sym (same_sign-is s r.sign e)) ∙ o) (negated (is_prefix r.sign) b.0))) (unprefixed_found s rs b.1 o)

pub hungry_prefix : (m : Mark) (t : Tok) → is_prefix (sign t) ≡ true → delta (hungry m) t ≡ Fail
unfolding delta moved
hungry_prefix m t h = unprefixed_found (sign t) (insteads m) (unprefixed_insteads m) h

prefix_shut : (t : Seen) (k : Sign) → is_prefix k ≡ true → opens t k ≡ Fail
unfolding is_prefix opens
prefix_shut t Tilde h = refl
prefix_shut t UnchangedWord h = refl
prefix_shut t EnabledWord h = refl
prefix_shut t Square h = refl
prefix_shut t Diamond h = refl
prefix_shut t SubsetWord h = refl
prefix_shut t UnionWord h = refl
prefix_shut t DomainWord h = refl
prefix_shut t Dash h = refl
prefix_shut t _ h = cc

pub prefix_opens : (t : Tok) → is_prefix (sign t) ≡ true → delta begin t ≡ Fail
unfolding delta moved
prefix_opens t h = prefix_shut (look t) (sign t) h

-- ---- a module's forms stay among themselves, and no other comes to them

abbrev pub stays_in : Bool → Next → Bool
stays_in true (Reads m) = in_units m
stays_in true (Wants m) = in_units m
stays_in true (Last m) = false
stays_in true (Shut f) = false
stays_in true Fail = true
stays_in false (Reads m) = not (in_units m)
stays_in false (Wants m) = not (in_units m)
stays_in false (Last m) = not (in_units m)
stays_in false (Shut f) = true
stays_in false Fail = true

abbrev kept : Bool → List Row → Bool
kept b [] = true
kept b (row ∷ others) = stays_in b row.next && kept b others

kept_found : (b : Bool) (s : Sign) (rs : List Row) → kept b rs ≡ true → stays_in b (found s rs) ≡ true
kept_found true s [] h = refl
kept_found false s [] h = refl
kept_found b s (r ∷ rs) h =
    let k : (stays_in b r.next ≡ true) × (kept b rs ≡ true) = and_both (stays_in b r.next) (kept b rs) h in
    elim (either (same_sign s r.sign)) [ inl e ↦ rw e k.0 | inr e ↦ rw e (kept_found b s rs k.1) ]

kept_heads : (m : Mark) → kept (in_units m) (heads m) ≡ true
unfolding heads listed_heads update_heads subscript_heads local_heads module_heads unit_heads name_heads recursive_heads unit_rows in_units
kept_heads (Bullets s n) = refl
kept_heads _ = refl

kept_insteads : (m : Mark) → kept (in_units m) (insteads m) ≡ true
unfolding insteads in_units
kept_insteads (Bullets s n) = refl
kept_insteads _ = refl

kept_of_name : (c : Class) (m : Mark) (b : Bool) → stays_in b (Wants m) ≡ true → stays_in b Fail ≡ true → stays_in b (of_name c (Wants m)) ≡ true
kept_of_name BareName m b h k = h
kept_of_name PathName m b h k = k
kept_of_name FoldName m b h k = k
kept_of_name Other m b h k = k
kept_of_name Member m b h k = k
kept_of_name (Joined s) m b h k = k
kept_of_name Tuple m b h k = k
kept_of_name TupleMember m b h k = k

kept_items : (c : Class) → kept false (in_braces c) ≡ true
unfolding in_braces in_units
kept_items BareName = refl
kept_items _ = refl

kept_bracket : (c : Class) → kept false (in_brackets c) ≡ true
unfolding in_brackets in_units
kept_bracket BareName = refl
kept_bracket _ = refl

kept_assumption : (c : Class) → kept true (rows InAssumption c) ≡ true
unfolding rows local_rows bracket_rows update_rows tuple_rows fair_rows fold_rows body_rows unit_rows in_units
kept_assumption BareName = refl
kept_assumption _ = refl

kept_statement : (c : Class) → kept true (rows InStatement c) ≡ true
unfolding rows local_rows bracket_rows update_rows tuple_rows fair_rows fold_rows body_rows unit_rows in_units
kept_statement BareName = refl
kept_statement _ = refl

kept_rows : (m : Mark) (c : Class) → kept (in_units m) (rows m c) ≡ true
unfolding rows local_rows bracket_rows update_rows tuple_rows fair_rows fold_rows body_rows unit_rows in_units
kept_rows (Bullets s n) c = refl
kept_rows InItems c = kept_items c
kept_rows InBracket c = kept_bracket c
kept_rows InAssumption c = kept_assumption c
kept_rows InStatement c = kept_statement c
kept_rows _ c = refl

kept_postfixes : (c : Class) → kept false (postfixes c) ≡ true
unfolding postfixes in_units
kept_postfixes BareName = refl
kept_postfixes _ = refl

kept_opens : (t : Seen) (s : Sign) → stays_in false (opens t s) ≡ true
unfolding opens in_units
kept_opens t Number = refl
kept_opens t _ = refl

kept_bullet : (s : Sign) (n : ℕ) (t : Seen) → stays_in false (next_bullet s n t) ≡ true
unfolding in_units
kept_bullet s n t = elim (either (is_bullet s && (same_sign s t.sign && (n == t.column)))) [ inl h ↦ rw h refl | inr h ↦ rw h refl ]

kept_goes_on : (m : Mark) (c : Class) (t : Seen) → stays_in (in_units m) (goes_on m c t) ≡ true
unfolding goes_on in_units
kept_goes_on (Bullets s n) c t = kept_bullet s n t
kept_goes_on m c t = kept_found (in_units m) t.sign (rows m c) (kept_rows m c)

-- the mark of a point is a module's
abbrev pub stays_at : Bool → Point → Bool
stays_at true begin = false
stays_at true (behind_op c) = false
stays_at true (reading m) = in_units m
stays_at true (hungry m) = in_units m
stays_at true (filled m c) = in_units m
stays_at true off = true
stays_at false begin = true
stays_at false (behind_op c) = true
stays_at false (reading m) = not (in_units m)
stays_at false (hungry m) = not (in_units m)
stays_at false (filled m c) = not (in_units m)
stays_at false off = true

pub moves_stay : (b : Bool) (p : Point) (t : Tok) → stays_at b p ≡ true → stays_in b (delta p t) ≡ true
unfolding delta moved
moves_stay true begin t h = cc
moves_stay true (behind_op c) t h = cc
moves_stay true (reading m) t h = subst (λ (b : Bool). stays_in b (delta (reading m) t) ≡ true) h (kept_found (in_units m) (sign t) (heads m) (kept_heads m))
moves_stay true (hungry m) t h = subst (λ (b : Bool). stays_in b (delta (hungry m) t) ≡ true) h (kept_found (in_units m) (sign t) (insteads m) (kept_insteads m))
moves_stay true (filled m c) t h = subst (λ (b : Bool). stays_in b (delta (filled m c) t) ≡ true) h (kept_goes_on m c (look t))
moves_stay true off t h = refl
moves_stay false begin t h = kept_opens (look t) (sign t)
moves_stay false (behind_op c) t h = kept_found false (sign t) (postfixes c) (kept_postfixes c)
moves_stay false (reading m) t h = subst (λ (b : Bool). stays_in b (delta (reading m) t) ≡ true) (negated (in_units m) h) (kept_found (in_units m) (sign t) (heads m) (kept_heads m))
moves_stay false (hungry m) t h = subst (λ (b : Bool). stays_in b (delta (hungry m) t) ≡ true) (negated (in_units m) h) (kept_found (in_units m) (sign t) (insteads m) (kept_insteads m))
moves_stay false (filled m c) t h = subst (λ (b : Bool). stays_in b (delta (filled m c) t) ≡ true) (negated (in_units m) h) (kept_goes_on m c (look t))
moves_stay false off t h = refl
