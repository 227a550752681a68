-- Each mark of the table comes in its own way: a token, an operand, a last operand or a bullet is to come.
use Rattle.std.proofs.Common.{ℕ, Bool, true, false, ◌≡◌, inl, inr, List, [], ◌∷◌, ◌&&◌, ◌||◌, ◌==◌, refl, sym, ap, ◌∙◌}
use Rattle.tla_lexer.specs.declared.token.Token.{Token as Tok}
use Rattle.tla_parser.proofs.Basics.{and_both, either, or_left, or_right}
use Rattle.tla_parser.proofs.Laws.{same_sign-is}
use Rattle.tla_parser.proofs.TableLaw.{is_lasting, is_reading, is_wanting}
use Rattle.tla_parser.specs.Operators.{is_bullet, same_sign}
use Rattle.tla_parser.specs.Rules.{ends_in_token}
use Rattle.tla_parser.specs.Signs.{sign}
use Rattle.tla_parser.specs.Written.{Parts, exp, from, start, tok, top}
use Rattle.tla_parser.specs.declared.moves.Class.{Class}
use Rattle.tla_parser.specs.declared.moves.Class.TheVariants.{Joined}
use Rattle.tla_parser.specs.declared.moves.Mark.{Mark}
use Rattle.tla_parser.specs.declared.moves.Mark.TheVariants.{Bullets, InAssumption, InBracket, InItems, InStatement}
use Rattle.tla_parser.specs.declared.moves.Next.{Next}
use Rattle.tla_parser.specs.declared.moves.Next.TheVariants.{Fail, Last, Reads, Shut, Wants}
use Rattle.tla_parser.specs.declared.moves.Seen.{Seen}
use Rattle.tla_parser.specs.declared.signs.Sign.{Sign}
use Rattle.tla_parser.specs.declared.signs.Sign.TheVariants.{Number}
use Rattle.tla_parser.specs.inner.Derivations.{ahead, delta, look, point}
use Rattle.tla_parser.specs.inner.Moves.{Point, Row, begin, behind_op, body_rows, bracket_rows, fair_rows, filled, fold_rows, found, goes_on, heads, hungry, in_braces, in_brackets, in_units, insteads, listed_heads, local_heads, local_rows, module_heads, moved, name_heads, next_bullet, off, opens, postfixes, reading, recursive_heads, rows, subscript_heads, tuple_rows, unit_heads, unit_rows, update_heads, update_rows}

-- what is no list of bullets
abbrev pub plain_kind : Next → Bool
plain_kind (Reads m) = is_reading m || in_units m
plain_kind (Wants m) = is_wanting m || in_units m
plain_kind (Last m) = is_lasting m
plain_kind (Shut c) = true
plain_kind Fail = true

abbrev pub is_bullets : Mark → Bool
is_bullets (Bullets s n) = is_bullet s
is_bullets _ = false

abbrev pub is_list : Next → Bool
is_list (Last m) = is_bullets m
is_list (Reads m) = false
is_list (Wants m) = false
is_list (Shut c) = false
is_list Fail = false

abbrev pub kinded : Next → Bool
kinded n = plain_kind n || is_list n

abbrev all_kinded : List Row → Bool
all_kinded [] = true
all_kinded (row ∷ others) = plain_kind row.next && all_kinded others

kinded_found : (s : Sign) (rs : List Row) → all_kinded rs ≡ true → plain_kind (found s rs) ≡ true
kinded_found s [] h = refl
kinded_found s (r ∷ rs) h =
    let k : (plain_kind r.next ≡ true) × (all_kinded rs ≡ true) = and_both (plain_kind r.next) (all_kinded rs) h in
    elim (either (same_sign s r.sign)) [ inl e ↦ rw e k.0 | inr e ↦ rw e (kinded_found s rs k.1) ]

all_open : Bool
unfolding heads listed_heads update_heads subscript_heads local_heads module_heads unit_heads name_heads recursive_heads insteads rows local_rows bracket_rows update_rows tuple_rows fair_rows fold_rows body_rows in_braces in_brackets unit_rows postfixes opens is_reading is_wanting is_lasting in_units
all_open = true

kinded_heads : (m : Mark) → all_kinded (heads m) ≡ true
unfolding all_open
kinded_heads (Bullets s n) = refl
kinded_heads _ = refl

kinded_insteads : (m : Mark) → all_kinded (insteads m) ≡ true
unfolding all_open
kinded_insteads (Bullets s n) = refl
kinded_insteads _ = refl

kinded_items : (c : Class) → all_kinded (in_braces c) ≡ true
unfolding all_open
kinded_items (Joined s) = refl
kinded_items _ = refl

kinded_bracket : (c : Class) → all_kinded (in_brackets c) ≡ true
unfolding all_open
kinded_bracket (Joined s) = refl
kinded_bracket _ = refl

kinded_assumption : (c : Class) → all_kinded (rows InAssumption c) ≡ true
unfolding all_open
kinded_assumption (Joined s) = refl
kinded_assumption _ = refl

kinded_statement : (c : Class) → all_kinded (rows InStatement c) ≡ true
unfolding all_open
kinded_statement (Joined s) = refl
kinded_statement _ = refl

kinded_rows : (m : Mark) (c : Class) → all_kinded (rows m c) ≡ true
unfolding rows local_rows bracket_rows update_rows tuple_rows fair_rows fold_rows body_rows unit_rows is_reading is_wanting is_lasting in_units
kinded_rows (Bullets s n) c = refl
kinded_rows InItems c = kinded_items c
kinded_rows InBracket c = kinded_bracket c
kinded_rows InAssumption c = kinded_assumption c
kinded_rows InStatement c = kinded_statement c
kinded_rows _ c = refl

kinded_postfixes : (c : Class) → all_kinded (postfixes c) ≡ true
unfolding all_open
kinded_postfixes (Joined s) = refl
kinded_postfixes _ = refl

kinded_opens : (t : Seen) (s : Sign) → kinded (opens t s) ≡ true
unfolding all_open is_bullet
kinded_opens t Number = refl
kinded_opens t _ = refl

kinded_bullet : (b : Sign) (n : ℕ) (t : Seen) → kinded (next_bullet b n t) ≡ true
kinded_bullet b n t =
    elim (either (is_bullet b && (same_sign b t.sign && (n == t.column)))) [
      | inl h ↦ (let k : (is_bullet b ≡ true) × ((same_sign b t.sign && (n == t.column)) ≡ true) = and_both (is_bullet b) (same_sign b t.sign && (n == t.column)) h in
          let e : b ≡ t.sign = same_sign-is b t.sign (and_both (same_sign b t.sign) (n == t.column) k.1).0 in
          rw h (list_kind t.sign t.column (ap is_bullet (sym e) ∙ k.0)))
      | inr h ↦ rw h refl
    ]
  where
    list_kind : (s : Sign) (c : ℕ) → is_bullet s ≡ true → kinded (Last (Bullets s c)) ≡ true
    list_kind s c e = or_right (plain_kind (Last (Bullets s c))) (is_bullet s) e

either_kind : (n : Next) → plain_kind n ≡ true → kinded n ≡ true
either_kind n h = or_left (plain_kind n) (is_list n) h

pub heads_kind : (m : Mark) (s : Sign) → plain_kind (found s (heads m)) ≡ true
heads_kind m s = kinded_found s (heads m) (kinded_heads m)

pub insteads_kind : (m : Mark) (s : Sign) → plain_kind (found s (insteads m)) ≡ true
insteads_kind m s = kinded_found s (insteads m) (kinded_insteads m)

pub rows_kind : (m : Mark) (c : Class) (s : Sign) → plain_kind (found s (rows m c)) ≡ true
rows_kind m c s = kinded_found s (rows m c) (kinded_rows m c)

pub postfixes_kind : (c : Class) (s : Sign) → plain_kind (found s (postfixes c)) ≡ true
postfixes_kind c s = kinded_found s (postfixes c) (kinded_postfixes c)

kinded_goes_on : (m : Mark) (c : Class) (t : Seen) → kinded (goes_on m c t) ≡ true
unfolding goes_on
kinded_goes_on (Bullets s n) c t = kinded_bullet s n t
kinded_goes_on m c t = either_kind (found t.sign (rows m c)) (rows_kind m c t.sign)

pub kinded_move : (p : Point) (t : Tok) → kinded (delta p t) ≡ true
unfolding delta moved
kinded_move begin t = kinded_opens (look t) (sign t)
kinded_move (behind_op c) t = either_kind (found (sign t) (postfixes c)) (postfixes_kind c (sign t))
kinded_move (reading m) t = either_kind (found (sign t) (heads m)) (heads_kind m (sign t))
kinded_move (hungry m) t = either_kind (found (sign t) (insteads m)) (insteads_kind m (sign t))
kinded_move (filled m c) t = kinded_goes_on m c (look t)
kinded_move off t = refl

pub kinded_ahead : (ps : Parts) → ends_in_token ps ≡ true → kinded (ahead ps) ≡ true
kinded_ahead (tok ps t) h = kinded_move (point ps) t
kinded_ahead start h = cc
kinded_ahead top h = cc
kinded_ahead (from w) h = cc
kinded_ahead (exp ps w) h = cc
