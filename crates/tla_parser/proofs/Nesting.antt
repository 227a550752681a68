-- What is open while a module is read: its own form at the bottom, forms of expressions above it, and in each that stands
-- below another an operand.
use Rattle.std.proofs.Common.{nat_lt, nat_le}
use Rattle.std.proofs.Common.{ℕ, Bool, true, false, cond, not, max, List, inl, inr, refl, ◌≡◌, ◌+◌, ◌∷◌, ◌++◌, ◌&&◌, ◌||◌, []}
use Rattle.tla_lexer.specs.declared.token.Token.{Token as Tok}
use Rattle.tla_parser.proofs.Basics.{and_both, either}
use Rattle.tla_parser.proofs.Laws.{moves_stay, stays_at, stays_in}
use Rattle.tla_parser.proofs.MarkKinds.{kinded, kinded_move}
use Rattle.tla_parser.proofs.Starts.{by_cond, left_false}
use Rattle.tla_parser.specs.Operators.{after, is_prefix, lo, same_sign}
use Rattle.tla_parser.specs.Signs.{column, sign}
use Rattle.tla_parser.specs.declared.moves.Class.{Class}
use Rattle.tla_parser.specs.declared.moves.Class.TheVariants.{Joined}
use Rattle.tla_parser.specs.declared.moves.Construct.{Construct}
use Rattle.tla_parser.specs.declared.moves.Mark.{Mark}
use Rattle.tla_parser.specs.declared.moves.Mark.TheVariants.{Bullets, InAssumption, InBody, InNamedAssumption, InNamedStatement, InPlainBody, InReplacement, InStatement, InUnitSet}
use Rattle.tla_parser.specs.declared.moves.Next.{Next}
use Rattle.tla_parser.specs.declared.moves.Next.TheVariants.{Fail, Last, Reads, Shut, Wants}
use Rattle.tla_parser.specs.declared.open.Code.{Code}
use Rattle.tla_parser.specs.declared.open.Code.TheVariants.{Part}
use Rattle.tla_parser.specs.declared.open.Form.{Form}
use Rattle.tla_parser.specs.declared.open.Mode.TheVariants.{Have, Read, Stuck, Want}
use Rattle.tla_parser.specs.declared.open.Open.{Open}
use Rattle.tla_parser.specs.declared.open.Open.TheVariants.{Before, Between, Within}
use Rattle.tla_parser.specs.declared.open.Operand.{Operand}
use Rattle.tla_parser.specs.declared.signs.Role.{Role}
use Rattle.tla_parser.specs.declared.signs.Role.TheVariants.{InfixRole, NoRole, PostfixRole}
use Rattle.tla_parser.specs.declared.signs.Sign.{Sign}
use Rattle.tla_parser.specs.inner.Derivations.{delta, given, idle, is_last}
use Rattle.tla_parser.specs.inner.Moves.{Point, Row, begin, behind_op, body_rows, bracket_rows, fair_rows, filled, fold_rows, found, goes_on, heads, hungry, in_braces, in_brackets, in_units, insteads, listed_heads, local_heads, local_rows, module_heads, moved, name_heads, off, reading, recursive_heads, rows, subscript_heads, tuple_rows, unit_heads, unit_rows, update_heads, update_rows}
use Rattle.tla_parser.specs.inner.Recognition.{Status, accepting, acted, advance, advances, entered, folded, folded_code, folds, following, freshly, heads_on, landed, least, lost, placing, read_at, running, taken, wanting}

-- ---- what is open

-- a module's form that an operand stands in
unfoldable pub takes_operand : Mark → Bool
takes_operand InAssumption = true
takes_operand InNamedAssumption = true
takes_operand InStatement = true
takes_operand InNamedStatement = true
takes_operand InUnitSet = true
takes_operand InBody = true
takes_operand InPlainBody = true
takes_operand InReplacement = true
takes_operand _ = false

-- a module's form takes an operand where one is to come, and only there
abbrev pub orderly : Next → Bool
orderly (Reads m) = not (takes_operand m)
orderly (Wants m) = takes_operand m
orderly (Last m) = true
orderly (Shut c) = true
orderly Fail = true

abbrev pub of_module : Next → Bool
of_module n = stays_in true n && orderly n

abbrev pub of_form : Next → Bool
of_form n = kinded n && stays_in false n

-- a token of the form is to come
abbrev pub reads : Next → Bool
reads (Reads m) = true
reads (Wants m) = false
reads (Last m) = false
reads (Shut c) = false
reads Fail = false

-- an operand is to come, or stands there
abbrev pub holds : Next → Bool
holds (Wants m) = true
holds (Last m) = true
holds (Reads m) = false
holds (Shut c) = false
holds Fail = false

abbrev pub is_empty : List Open → Bool
is_empty [] = true
is_empty (g ∷ s) = false

-- an operand is to come in each form, or stands there: in the module's at the bottom, and in forms of expressions above it
abbrev pub nested : List Open → Bool
nested [] = false
nested (Before p ∷ s) = nested s
nested (Between a o ∷ s) = nested s
nested (Within f ∷ s) = holds f.next && cond (is_empty s) (of_module f.next) (of_form f.next && nested s)

abbrev pub fits : Next → List Open → Bool
fits n s = cond (is_empty s) (of_module n) (of_form n && nested s)

-- a token of the innermost form is to come
abbrev pub reads_on : List Open → Bool
reads_on [] = false
reads_on (Before p ∷ s) = false
reads_on (Between a o ∷ s) = false
reads_on (Within f ∷ s) = reads f.next && fits f.next s

abbrev pub Nested : Status → Type 0
Nested lost = Unit {0}
Nested (running Want s c m) = nested s ≡ true
Nested (running (Have w) s c m) = nested s ≡ true
Nested (running Read s c m) = reads_on s ≡ true
Nested (running Stuck s c m) = Unit {0}

-- ---- the table keeps to it

all_open : Bool
unfolding heads listed_heads update_heads subscript_heads local_heads module_heads unit_heads name_heads recursive_heads insteads rows local_rows bracket_rows update_rows tuple_rows fair_rows fold_rows body_rows in_braces in_brackets unit_rows in_units takes_operand
all_open = true

abbrev all_orderly : List Row → Bool
all_orderly [] = true
all_orderly (row ∷ others) = orderly row.next && all_orderly others

orderly_found : (s : Sign) (rs : List Row) → all_orderly rs ≡ true → orderly (found s rs) ≡ true
orderly_found s [] h = refl
orderly_found s (r ∷ rs) h =
    let k : (orderly r.next ≡ true) × (all_orderly rs ≡ true) = and_both (orderly r.next) (all_orderly rs) h in
    elim (either (same_sign s r.sign)) [ inl e ↦ rw e k.0 | inr e ↦ rw e (orderly_found s rs k.1) ]

orderly_heads : (m : Mark) → (not (in_units m) || all_orderly (heads m)) ≡ true
unfolding all_open
orderly_heads (Bullets s n) = refl
orderly_heads _ = refl

orderly_insteads : (m : Mark) → (not (in_units m) || all_orderly (insteads m)) ≡ true
unfolding all_open
orderly_insteads (Bullets s n) = refl
orderly_insteads _ = refl

orderly_assumption : (k : Class) → all_orderly (rows InAssumption k) ≡ true
unfolding all_open
orderly_assumption (Joined s) = refl
orderly_assumption _ = refl

orderly_statement : (k : Class) → all_orderly (rows InStatement k) ≡ true
unfolding all_open
orderly_statement (Joined s) = refl
orderly_statement _ = refl

orderly_rows : (m : Mark) (k : Class) → (not (in_units m) || all_orderly (rows m k)) ≡ true
unfolding all_open
orderly_rows (Bullets s n) k = refl
orderly_rows InAssumption k = orderly_assumption k
orderly_rows InStatement k = orderly_statement k
orderly_rows _ k = refl

pub by_premise : (a b : Bool) → (not a || b) ≡ true → a ≡ true → b ≡ true
by_premise true b h e = h
by_premise false b h e = absurd (cc)

orderly_goes : (m : Mark) (k : Class) (t : Tok) → in_units m ≡ true → orderly (delta (filled m k) t) ≡ true
unfolding delta moved goes_on in_units
orderly_goes (Bullets s n) k t h = absurd (cc)
orderly_goes m k t h = orderly_found (sign t) (rows m k) (by_premise (in_units m) (all_orderly (rows m k)) (orderly_rows m k) h)

orderly_move : (p : Point) (t : Tok) → stays_at true p ≡ true → orderly (delta p t) ≡ true
unfolding delta moved
orderly_move begin t h = absurd (cc)
orderly_move (behind_op c) t h = absurd (cc)
orderly_move (reading m) t h = orderly_found (sign t) (heads m) (by_premise (in_units m) (all_orderly (heads m)) (orderly_heads m) h)
orderly_move (hungry m) t h = orderly_found (sign t) (insteads m) (by_premise (in_units m) (all_orderly (insteads m)) (orderly_insteads m) h)
orderly_move (filled m c) t h = orderly_goes m c t h
orderly_move off t h = refl

module_move : (p : Point) (t : Tok) → stays_at true p ≡ true → of_module (delta p t) ≡ true
module_move p t h = rw (moves_stay true p t h, orderly_move p t h) refl

form_move : (p : Point) (t : Tok) → stays_at false p ≡ true → of_form (delta p t) ≡ true
form_move p t h = rw (kinded_move p t, moves_stay false p t h) refl

off_stays : (b : Bool) → stays_at b off ≡ true
off_stays true = refl
off_stays false = refl

pub at_read : (n : Next) (b : Bool) → stays_in b n ≡ true → stays_at b (read_at n) ≡ true
at_read (Reads m) true h = h
at_read (Reads m) false h = h
at_read (Wants m) b h = off_stays b
at_read (Last m) b h = off_stays b
at_read (Shut c) b h = off_stays b
at_read Fail b h = off_stays b

at_idle : (n : Next) (b : Bool) → stays_in b n ≡ true → stays_at b (idle n) ≡ true
at_idle (Wants m) true h = h
at_idle (Wants m) false h = h
at_idle (Reads m) b h = off_stays b
at_idle (Last m) b h = off_stays b
at_idle (Shut c) b h = off_stays b
at_idle Fail b h = off_stays b

pub at_given : (k : Class) (n : Next) (b : Bool) → stays_in b n ≡ true → stays_at b (given n k) ≡ true
at_given k (Wants m) true h = h
at_given k (Wants m) false h = h
at_given k (Last m) true h = absurd (cc)
at_given k (Last m) false h = h
at_given k (Reads m) b h = off_stays b
at_given k (Shut c) b h = off_stays b
at_given k Fail b h = off_stays b

-- the form that is innermost goes on
pub fits_on : (p : Point) (n : Next) (t : Tok) (s : List Open) → ((b : Bool) → stays_in b n ≡ true → stays_at b p ≡ true) → fits n s ≡ true → fits (delta p t) s ≡ true
fits_on p n t [] a h = module_move p t (a true (and_both (stays_in true n) (orderly n) h).0)
fits_on p n t (g ∷ s) a h =
    let k : (of_form n ≡ true) × (nested (g ∷ s) ≡ true) = and_both (of_form n) (nested (g ∷ s)) h in
    rw (form_move p t (a false (and_both (kinded n) (stays_in false n) k.0).1), k.1) refl

-- a form begins
fits_top : (p : Point) (t : Tok) (s : List Open) → stays_at false p ≡ true → nested s ≡ true → fits (delta p t) s ≡ true
fits_top p t [] h e = absurd (cc)
fits_top p t (g ∷ s) h e = rw (form_move p t h, e) refl

pub shut_fits : (f : Construct) (s : List Open) → fits (Shut f) s ≡ true → nested s ≡ true
shut_fits f [] h = absurd (cc)
shut_fits f (g ∷ s) h = (and_both (of_form (Shut f)) (nested (g ∷ s)) h).1

pub within_fits : (f : Form) (s : List Open) → nested (Within f ∷ s) ≡ true → fits f.next s ≡ true
within_fits f s h = (and_both (holds f.next) (fits f.next s) h).1

-- ---- reading keeps to it

entered_nested : (n : Next) (count lv : ℕ) (s : List Open) (c : List Code) (m : ℕ) → fits n s ≡ true → Nested (entered n count lv s c m)
entered_nested (Reads k) count lv s c m h = h
entered_nested (Wants k) count lv s c m h = h
entered_nested (Last k) count lv s c m h = h
entered_nested (Shut f) count lv s c m h = shut_fits f s h
entered_nested Fail count lv s c m h = tt

freshly_nested : (t : Tok) (s : List Open) (c : List Code) (m : ℕ) → nested s ≡ true → Nested (freshly t s c m)
freshly_nested t s c m h =
    by_cond Nested (nat_lt (column t) m) lost _ tt
    (by_cond Nested (is_prefix (sign t)) (running Want (Before t ∷ s) c m) _ h (entered_nested (delta begin t) 1 0 s (c ++ (Part t ∷ [])) m (fits_top begin t s refl h)))

wanting_nested : (t : Tok) (s : List Open) (c : List Code) (m : ℕ) → nested s ≡ true → Nested (wanting t s c m)
wanting_nested t [] c m h = absurd (cc)
wanting_nested t (Before p ∷ s) c m h = freshly_nested t (Before p ∷ s) c m h
wanting_nested t (Between a o ∷ s) c m h = freshly_nested t (Between a o ∷ s) c m h
wanting_nested t (Within f ∷ s) c m h =
    by_cond Nested (taken f t) _ _
    (entered_nested (delta (idle f.next) t) (f.count + 1) f.levels s (c ++ (Part t ∷ [])) f.outer (fits_on (idle f.next) f.next t s (at_idle f.next) (within_fits f s h)))
    (freshly_nested t (Within f ∷ s) c m h)

heads_nested : (t : Tok) (s : List Open) (c : List Code) (m : ℕ) → reads_on s ≡ true → Nested (heads_on t s c m)
heads_nested t [] c m h = tt
heads_nested t (Before p ∷ s) c m h = tt
heads_nested t (Between a o ∷ s) c m h = tt
heads_nested t (Within f ∷ s) c m h =
    by_cond Nested (nat_lt (column t) f.outer) lost _ tt
    (entered_nested (delta (read_at f.next) t) (f.count + 1) f.levels s (c ++ (Part t ∷ [])) f.outer
    (fits_on (read_at f.next) f.next t s (at_read f.next) (and_both (reads f.next) (fits f.next s) h).1))

acted_nested : (t : Tok) (a : Role) (w : Operand) (s : List Open) (c : List Code) (m : ℕ) → nested s ≡ true → Nested (acted t a w s c m)
acted_nested t InfixRole w s c m h = by_cond Nested (nat_le (least s) (lo (sign t))) (running Want (Between w t ∷ s) c m) lost h tt
acted_nested t PostfixRole w s c m h = entered_nested (delta (behind_op w.class) t) 2 w.levels s (c ++ (Part t ∷ [])) m (fits_top (behind_op w.class) t s refl h)
acted_nested t NoRole w s c m h = tt

placing_nested : (t : Tok) (w : Operand) (s : List Open) (c : List Code) (m : ℕ) → nested s ≡ true → Nested (placing t w s c m)
placing_nested t w s c m h = by_cond Nested (nat_lt (column t) m) lost _ tt (acted_nested t (after (sign t)) w s c m h)

landed_nested : (t : Tok) (w : Operand) (s : List Open) (c : List Code) (m : ℕ) → nested s ≡ true → Nested (landed t w s c m)
landed_nested t w [] c m h = absurd (cc)
landed_nested t w (Before p ∷ s) c m h = placing_nested t w (Before p ∷ s) c m h
landed_nested t w (Between a o ∷ s) c m h = placing_nested t w (Between a o ∷ s) c m h
landed_nested t w (Within f ∷ s) c m h =
    by_cond Nested (accepting f w t) _ _
    (entered_nested (delta (given f.next w.class) t) (f.count + 2) (max f.levels w.levels) s (c ++ (Part t ∷ [])) f.outer
    (fits_on (given f.next w.class) f.next t s (at_given w.class f.next) (within_fits f s h)))
    (placing_nested t w (Within f ∷ s) c m h)

-- a form that goes on behind an operand stays open
pub stays_open : (t : Tok) (w : Operand) (f : Form) (m : ℕ) → is_last f.next ≡ false → folds t w (Within f) m ≡ false
stays_open t w f m e = rw e (left_false (not (accepting f w t)))

pub module_stays : (n : Next) → of_module n ≡ true → is_last n ≡ false
module_stays (Last m) h = absurd (cc)
module_stays (Reads m) h = refl
module_stays (Wants m) h = refl
module_stays (Shut c) h = refl
module_stays Fail h = refl

following_nested : (t : Tok) (w : Operand) (s : List Open) (c : List Code) (m : ℕ) → nested s ≡ true → Nested (following t w s c m)
following_nested t w [] c m h = absurd (cc)
following_nested t w (Before p ∷ s) c m h =
    by_cond Nested (folds t w (Before p) m) _ _ (following_nested t (folded (Before p) w) s (c ++ (folded_code (Before p) ∷ [])) m h) (landed_nested t w (Before p ∷ s) c m h)
following_nested t w (Between a o ∷ s) c m h =
    by_cond Nested (folds t w (Between a o) m) _ _ (following_nested t (folded (Between a o) w) s (c ++ (folded_code (Between a o) ∷ [])) m h) (landed_nested t w (Between a o ∷ s) c m h)
following_nested t w (Within f ∷ []) c m h = rw (stays_open t w f m (module_stays f.next (within_fits f [] h))) (landed_nested t w (Within f ∷ []) c m h)
following_nested t w (Within f ∷ g ∷ s) c m h =
    by_cond Nested (folds t w (Within f) m) _ _
    (following_nested t (folded (Within f) w) (g ∷ s) (c ++ (folded_code (Within f) ∷ [])) f.outer (and_both (of_form f.next) (nested (g ∷ s)) (within_fits f (g ∷ s) h)).1)
    (landed_nested t w (Within f ∷ g ∷ s) c m h)

advance_nested : (t : Tok) (st : Status) → Nested st → Nested (advance t st)
advance_nested t lost h = tt
advance_nested t (running Want s c m) h = wanting_nested t s c m h
advance_nested t (running (Have w) s c m) h = following_nested t w s c m h
advance_nested t (running Read s c m) h = heads_nested t s c m h
advance_nested t (running Stuck s c m) h = tt

pub advances_nested : (ts : List Tok) (st : Status) → Nested st → Nested (advances st ts)
advances_nested [] st h = h
advances_nested (t ∷ ts) st h = advances_nested ts (advance t st) (advance_nested t st h)
