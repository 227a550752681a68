-- Where a unit begins by the parser's table, an end may stand too, and the other way round.
use Rattle.std.proofs.Common.{nat_lt, nat_le, ◌==◌}
use Rattle.std.proofs.Common.{ℕ, Bool, true, false, cond, not, max, List, inl, inr, refl, sym, ap, arith, ◌≡◌, ◌+◌, ◌∷◌, ◌++◌, ◌⊎◌, ◌&&◌, ◌||◌, ◌∙◌, []}
use Rattle.tla_lexer.specs.declared.token.Token.{Token as Tok}
use Rattle.tla_parser.proofs.Basics.{and_both, either}
use Rattle.tla_parser.proofs.FieldLaw.{once_part}
use Rattle.tla_parser.proofs.Laws.{clash, negated, same_sign-is, moves_stay, stays_in}
use Rattle.tla_parser.proofs.MarkKinds.{kinded, kinded_move}
use Rattle.tla_parser.proofs.TableLaw.{is_lasting}
use Rattle.tla_parser.specs.Beginnings.{begins_unit, ended}
use Rattle.tla_parser.specs.Operators.{after, hi, is_bullet, is_prefix, lo, number_of, prefix_lo, same, same_sign}
use Rattle.tla_parser.specs.Signs.{column, sign}
use Rattle.tla_parser.specs.declared.moves.Class.{Class}
use Rattle.tla_parser.specs.declared.moves.Class.TheVariants.{BareName}
use Rattle.tla_parser.specs.declared.moves.Construct.TheVariants.{NameUse}
use Rattle.tla_parser.specs.declared.moves.Mark.{Mark}
use Rattle.tla_parser.specs.declared.moves.Mark.TheVariants.{Bullets, InAssumption, InBody, InBracket, InDefinition, InItems, InNamedAssumption, InNamedStatement, InPlainBody, InReplacement, InStatement}
use Rattle.tla_parser.specs.declared.moves.Next.{Next}
use Rattle.tla_parser.specs.declared.moves.Next.TheVariants.{Fail, Last, Reads, Shut, Wants}
use Rattle.tla_parser.specs.declared.moves.Seen.{Seen}
use Rattle.tla_parser.specs.declared.open.Code.{Code}
use Rattle.tla_parser.specs.declared.open.Code.TheVariants.{Part}
use Rattle.tla_parser.specs.declared.open.Form.{Form}
use Rattle.tla_parser.specs.declared.open.Mode.TheVariants.{Have, Read, Stuck, Want}
use Rattle.tla_parser.specs.declared.open.Open.{Open}
use Rattle.tla_parser.specs.declared.open.Open.TheVariants.{Before, Between, Within}
use Rattle.tla_parser.specs.declared.open.Operand.{Operand}
use Rattle.tla_parser.specs.declared.signs.Role.{Role}
use Rattle.tla_parser.specs.declared.signs.Role.TheVariants.{NoRole, InfixRole, PostfixRole}
use Rattle.tla_parser.specs.declared.signs.Sign.{Sign}
use Rattle.tla_parser.specs.declared.signs.Sign.TheVariants.{AssumeWord, ConstantWord, Dashes, EndSign, InstanceWord, LocalWord, RecursiveWord, TheoremWord, VariableWord, Vee, Wedge, Word}
use Rattle.tla_parser.specs.inner.Derivations.{delta, given, idle, is_last, look}
use Rattle.tla_parser.specs.inner.Moves.{begin, behind_op, body_rows, bracket_rows, fair_rows, filled, fold_rows, found, goes_on, heads, hungry, in_braces, in_brackets, in_units, insteads, is_finished, listed_heads, local_heads, local_rows, module_heads, moved, name_heads, next_bullet, off, opens, reading, recursive_heads, rows, subscript_heads, tuple_rows, unit_heads, unit_rows, update_heads, update_rows}
use Rattle.tla_parser.specs.inner.Recognition.{Status, accepting, acted, advance, advances, ended_module, code_read, entered, finished, folded, folded_code, folds, following, freshly, heads_on, is_fail, landed, least, levels_read, lost, op, passes_by, placing, read_at, running, taken, wanting}
use Rattle.tla_parser.specs.inner.Repeats.{once_codes}
use Rattle.tla_parser.specs.inner.Standings.{declaring, in_unit, innermost, leads, led_by, standing_of, starts, unit_goes_on, wanted_by}

-- ---- tests of all signs that begin a unit

abbrev pub of_each : (Sign → Bool) → Bool
of_each p =
    p Word && (p VariableWord && (p ConstantWord && (p AssumeWord && (p TheoremWord
    && (p InstanceWord && (p RecursiveWord && (p LocalWord && p Dashes)))))))

pub each : (p : Sign → Bool) (s : Sign) → begins_unit s ≡ true → of_each p ≡ true → p s ≡ true
unfolding begins_unit
each p Word b h = (and_both (p Word) _ h).0
each p VariableWord b h = (and_both (p VariableWord) _ (and_both (p Word) _ h).1).0
each p ConstantWord b h = (and_both (p ConstantWord) _ (and_both (p VariableWord) _ (and_both (p Word) _ h).1).1).0
each p AssumeWord b h = grind arith
each p TheoremWord b h = grind arith
each p InstanceWord b h = grind arith
each p RecursiveWord b h = grind arith
each p LocalWord b h = grind arith
each p Dashes b h = grind arith
each p _ b h = cc

-- both or neither
abbrev pub alike : Bool → Bool → Bool
alike true b = b
alike false b = not b

pub alike_is : (a b : Bool) → alike a b ≡ true → a ≡ b
alike_is true b h = sym h
alike_is false true h = cc
alike_is false false h = refl

all_open : Bool
unfolding heads listed_heads update_heads subscript_heads local_heads module_heads unit_heads name_heads recursive_heads insteads rows local_rows bracket_rows update_rows tuple_rows fair_rows fold_rows body_rows in_braces in_brackets unit_rows in_units is_lasting in_unit led_by wanted_by declaring is_finished opens after is_prefix number_of
all_open = true

head_each : (m : Mark) → of_each (λ s. alike (leads s (found s (heads m)) && not (in_unit m)) (ended_module (found EndSign (heads m)))) ≡ true
unfolding all_open
head_each (Bullets s n) = refl
head_each _ = refl

head_law : (m : Mark) (s : Sign) → begins_unit s ≡ true → (leads s (found s (heads m)) && not (in_unit m)) ≡ ended_module (found EndSign (heads m))
head_law m s b = alike_is _ _ (each (λ k. alike (leads k (found k (heads m)) && not (in_unit m)) (ended_module (found EndSign (heads m)))) s b (head_each m))

instead_each : (m : Mark) → of_each (λ s. not (leads s (found s (insteads m)) && not (in_unit m))) ≡ true
unfolding all_open
instead_each (Bullets s n) = refl
instead_each _ = refl

instead_end : (m : Mark) → found EndSign (insteads m) ≡ Fail
unfolding all_open
instead_end (Bullets s n) = refl
instead_end _ = refl

row_test : Mark → Class → Sign → Bool
row_test m c s = alike (leads s (found s (rows m c))) (ended_module (found EndSign (rows m c)))

row_assumption : (c : Class) → of_each (row_test InAssumption c) ≡ true
unfolding all_open row_test
row_assumption BareName = refl
row_assumption _ = refl

row_statement : (c : Class) → of_each (row_test InStatement c) ≡ true
unfolding all_open row_test
row_statement BareName = refl
row_statement _ = refl

row_each : (m : Mark) (c : Class) → in_units m ≡ true → of_each (row_test m c) ≡ true
unfolding all_open row_test
row_each (Bullets s n) c h = cc
row_each InItems c h = cc
row_each InBracket c h = cc
row_each InAssumption c h = row_assumption c
row_each InStatement c h = row_statement c
row_each _ c h = refl

row_law : (m : Mark) (c : Class) (s : Sign) → in_units m ≡ true → begins_unit s ≡ true → leads s (found s (rows m c)) ≡ ended_module (found EndSign (rows m c))
unfolding row_test
row_law m c s h b = alike_is _ _ (each (row_test m c) s b (row_each m c h))

-- ---- what neither begins a unit nor ends a module

begun_is_no_operator : (s : Sign) → begins_unit s ≡ true → after s ≡ NoRole
unfolding begins_unit after
begun_is_no_operator Word h = refl
begun_is_no_operator VariableWord h = refl
begun_is_no_operator ConstantWord h = refl
begun_is_no_operator AssumeWord h = refl
begun_is_no_operator TheoremWord h = refl
begun_is_no_operator InstanceWord h = refl
begun_is_no_operator RecursiveWord h = refl
begun_is_no_operator LocalWord h = refl
begun_is_no_operator Dashes h = refl
begun_is_no_operator _ h = cc

begun_is_no_prefix : (s : Sign) → begins_unit s ≡ true → is_prefix s ≡ false
unfolding begins_unit is_prefix
begun_is_no_prefix Word h = refl
begun_is_no_prefix VariableWord h = refl
begun_is_no_prefix ConstantWord h = refl
begun_is_no_prefix AssumeWord h = refl
begun_is_no_prefix TheoremWord h = refl
begun_is_no_prefix InstanceWord h = refl
begun_is_no_prefix RecursiveWord h = refl
begun_is_no_prefix LocalWord h = refl
begun_is_no_prefix Dashes h = refl
begun_is_no_prefix _ h = cc

-- no list goes on with it, and no last operand
last_test : Mark → Class → Sign → Bool
last_test m c s = is_fail (found s (rows m c))

last_each : (m : Mark) (c : Class) → is_lasting m ≡ true → of_each (last_test m c) ≡ true
unfolding all_open last_test
last_each (Bullets s n) c h = cc
last_each InItems c h = cc
last_each InBracket c h = cc
last_each InAssumption c h = cc
last_each InStatement c h = cc
last_each InDefinition c h = cc
last_each InBody c h = cc
last_each InPlainBody c h = cc
last_each InReplacement c h = cc
last_each InNamedAssumption c h = cc
last_each InNamedStatement c h = cc
last_each _ c h = refl

last_end : (m : Mark) (c : Class) → is_lasting m ≡ true → is_fail (found EndSign (rows m c)) ≡ true
unfolding all_open
last_end (Bullets s n) c h = cc
last_end InItems c h = cc
last_end InBracket c h = cc
last_end InAssumption c h = cc
last_end InStatement c h = cc
last_end InBody c h = cc
last_end InPlainBody c h = cc
last_end InReplacement c h = cc
last_end InNamedAssumption c h = cc
last_end InNamedStatement c h = cc
last_end _ c h = refl

pub plain_last : (b : Bool) → (b || false) ≡ true → b ≡ true
plain_last true h = refl
plain_last false h = h

-- ---- what is open: the module at the bottom

abbrev pub based : List Open → Bool
based [] = false
based (Before p ∷ s) = based s
based (Between a o ∷ s) = based s
based (Within f ∷ []) = stays_in true f.next && (f.outer == 0)
based (Within f ∷ g ∷ s) = kinded f.next && based (g ∷ s)

abbrev pub Based : Status → Type 0
Based lost = Unit {0}
Based (running mode s c m) = based s ≡ true

entered_inner : (n : Next) (count lv : ℕ) (g : Open) (s : List Open) (c : List Code) (m : ℕ) → kinded n ≡ true → based (g ∷ s) ≡ true → Based (entered n count lv (g ∷ s) c m)
entered_inner (Reads k) count lv g s c m h b = rw (h, b) refl
entered_inner (Wants k) count lv g s c m h b = rw (h, b) refl
entered_inner (Last k) count lv g s c m h b = rw (h, b) refl
entered_inner (Shut f) count lv g s c m h b = b
entered_inner Fail count lv g s c m h b = tt

entered_bottom : (n : Next) (count lv : ℕ) (c : List Code) (m : ℕ) → stays_in true n ≡ true → (m == 0) ≡ true → Based (entered n count lv [] c m)
entered_bottom (Reads k) count lv c m h e = rw (h, e) refl
entered_bottom (Wants k) count lv c m h e = rw (h, e) refl
entered_bottom (Last k) count lv c m h e = absurd (cc)
entered_bottom (Shut f) count lv c m h e = absurd (cc)
entered_bottom Fail count lv c m h e = tt

-- the points from which a module's form goes on
read_stays : (n : Next) (t : Tok) → stays_in true n ≡ true → stays_in true (delta (read_at n) t) ≡ true
read_stays (Reads m) t h = moves_stay true (reading m) t h
read_stays (Wants m) t h = moves_stay true off t refl
read_stays (Last m) t h = moves_stay true off t refl
read_stays (Shut c) t h = moves_stay true off t refl
read_stays Fail t h = moves_stay true off t refl

idle_stays : (n : Next) (t : Tok) → stays_in true n ≡ true → stays_in true (delta (idle n) t) ≡ true
idle_stays (Wants m) t h = moves_stay true (hungry m) t h
idle_stays (Reads m) t h = moves_stay true off t refl
idle_stays (Last m) t h = moves_stay true off t refl
idle_stays (Shut c) t h = moves_stay true off t refl
idle_stays Fail t h = moves_stay true off t refl

given_stays : (n : Next) (k : Class) (t : Tok) → stays_in true n ≡ true → stays_in true (delta (given n k) t) ≡ true
given_stays (Wants m) k t h = moves_stay true (filled m k) t h
given_stays (Last m) k t h = absurd (cc)
given_stays (Reads m) k t h = moves_stay true off t refl
given_stays (Shut c) k t h = moves_stay true off t refl
given_stays Fail k t h = moves_stay true off t refl

pub by_cond : {A : Type 0} (P : A → Type 0) (b : Bool) (x y : A) → P x → P y → P (cond b x y)
by_cond P true x y p q = p
by_cond P false x y p q = q

freshly_based : (t : Tok) (s : List Open) (c : List Code) (m : ℕ) → based s ≡ true → Based (freshly t s c m)
freshly_based t [] c m h = absurd (cc)
freshly_based t (g ∷ s) c m h =
    by_cond Based (nat_lt (column t) m) lost _ tt
    (by_cond Based (is_prefix (sign t)) (running Want (Before t ∷ g ∷ s) c m) _ h (entered_inner (delta begin t) 1 0 g s (c ++ (Part t ∷ [])) m (kinded_move begin t) h))

-- a token of the innermost form
within_based : (n : Next) (count lv : ℕ) (f : Form) (s : List Open) (c : List Code) → kinded n ≡ true → (stays_in true f.next ≡ true → stays_in true n ≡ true) → based (Within f ∷ s) ≡ true → Based (entered n count lv s c f.outer)
within_based n count lv f [] c k h b =
    let e : (stays_in true f.next ≡ true) × ((f.outer == 0) ≡ true) = and_both (stays_in true f.next) (f.outer == 0) b in
    entered_bottom n count lv c f.outer (h e.0) e.1
within_based n count lv f (g ∷ s) c k h b =
    entered_inner n count lv g s c f.outer k (and_both (kinded f.next) (based (g ∷ s)) b).1

wanting_based : (t : Tok) (s : List Open) (c : List Code) (m : ℕ) → based s ≡ true → Based (wanting t s c m)
wanting_based t [] c m h = absurd (cc)
wanting_based t (Before p ∷ s) c m h = freshly_based t (Before p ∷ s) c m h
wanting_based t (Between a o ∷ s) c m h = freshly_based t (Between a o ∷ s) c m h
wanting_based t (Within f ∷ s) c m h =
    by_cond Based (taken f t) _ _
    (within_based (delta (idle f.next) t) (f.count + 1) f.levels f s (c ++ (Part t ∷ [])) (kinded_move (idle f.next) t) (idle_stays f.next t) h)
    (freshly_based t (Within f ∷ s) c m h)

heads_based : (t : Tok) (s : List Open) (c : List Code) (m : ℕ) → based s ≡ true → Based (heads_on t s c m)
heads_based t [] c m h = tt
heads_based t (Before p ∷ s) c m h = tt
heads_based t (Between a o ∷ s) c m h = tt
heads_based t (Within f ∷ s) c m h =
    by_cond Based (nat_lt (column t) f.outer) lost _ tt
    (within_based (delta (read_at f.next) t) (f.count + 1) f.levels f s (c ++ (Part t ∷ [])) (kinded_move (read_at f.next) t) (read_stays f.next t) h)

acted_based : (t : Tok) (a : Role) (w : Operand) (s : List Open) (c : List Code) (m : ℕ) → based s ≡ true → Based (acted t a w s c m)
acted_based t InfixRole w s c m h = by_cond Based (nat_le (least s) (lo (sign t))) (running Want (Between w t ∷ s) c m) lost h tt
acted_based t PostfixRole w [] c m h = absurd (cc)
acted_based t PostfixRole w (g ∷ s) c m h = entered_inner (delta (behind_op w.class) t) 2 w.levels g s (c ++ (Part t ∷ [])) m (kinded_move (behind_op w.class) t) h
acted_based t NoRole w s c m h = tt

placing_based : (t : Tok) (w : Operand) (s : List Open) (c : List Code) (m : ℕ) → based s ≡ true → Based (placing t w s c m)
placing_based t w s c m h = by_cond Based (nat_lt (column t) m) lost _ tt (acted_based t (after (sign t)) w s c m h)

landed_based : (t : Tok) (w : Operand) (s : List Open) (c : List Code) (m : ℕ) → based s ≡ true → Based (landed t w s c m)
landed_based t w [] c m h = absurd (cc)
landed_based t w (Before p ∷ s) c m h = placing_based t w (Before p ∷ s) c m h
landed_based t w (Between a o ∷ s) c m h = placing_based t w (Between a o ∷ s) c m h
landed_based t w (Within f ∷ s) c m h =
    by_cond Based (accepting f w t) _ _
    (within_based (delta (given f.next w.class) t) (f.count + 2) (max f.levels w.levels) f s (c ++ (Part t ∷ [])) (kinded_move (given f.next w.class) t) (given_stays f.next w.class t) h)
    (placing_based t w (Within f ∷ s) c m h)

-- a module's form stays open behind an operand
bottom_stays : (f : Form) (w : Operand) (t : Tok) (m : ℕ) → based (Within f ∷ []) ≡ true → folds t w (Within f) m ≡ false
bottom_stays f w t m h = no_last f.next (and_both (stays_in true f.next) (f.outer == 0) h).0
  where
    no_last : (n : Next) → stays_in true n ≡ true → (not (accepting f w t) && (is_last n && passes_by t m false)) ≡ false
    no_last (Reads k) e = none (not (accepting f w t))
      where
        none : (b : Bool) → (b && false) ≡ false
        none true = refl
        none false = refl
    no_last (Wants k) e = none (not (accepting f w t))
      where
        none : (b : Bool) → (b && false) ≡ false
        none true = refl
        none false = refl
    no_last (Last k) e = absurd (cc)
    no_last (Shut c) e = absurd (cc)
    no_last Fail e = none (not (accepting f w t))
      where
        none : (b : Bool) → (b && false) ≡ false
        none true = refl
        none false = refl

following_based : (t : Tok) (w : Operand) (s : List Open) (c : List Code) (m : ℕ) → based s ≡ true → Based (following t w s c m)
following_based t w [] c m h = absurd (cc)
following_based t w (Before p ∷ s) c m h =
    by_cond Based (folds t w (Before p) m) _ _ (following_based t (folded (Before p) w) s (c ++ (folded_code (Before p) ∷ [])) m h) (landed_based t w (Before p ∷ s) c m h)
following_based t w (Between a o ∷ s) c m h =
    by_cond Based (folds t w (Between a o) m) _ _ (following_based t (folded (Between a o) w) s (c ++ (folded_code (Between a o) ∷ [])) m h) (landed_based t w (Between a o ∷ s) c m h)
following_based t w (Within f ∷ []) c m h = rw (bottom_stays f w t m h) (landed_based t w (Within f ∷ []) c m h)
following_based t w (Within f ∷ g ∷ s) c m h =
    by_cond Based (folds t w (Within f) m) _ _
    (following_based t (folded (Within f) w) (g ∷ s) (c ++ (folded_code (Within f) ∷ [])) f.outer (and_both (kinded f.next) (based (g ∷ s)) h).1)
    (landed_based t w (Within f ∷ g ∷ s) c m h)

pub advance_based : (t : Tok) (st : Status) → Based st → Based (advance t st)
advance_based t lost h = tt
advance_based t (running Want s c m) h = wanting_based t s c m h
advance_based t (running (Have w) s c m) h = following_based t w s c m h
advance_based t (running Read s c m) h = heads_based t s c m h
advance_based t (running Stuck s c m) h = tt

pub advances_based : (ts : List Tok) (st : Status) → Based st → Based (advances st ts)
advances_based [] st h = h
advances_based (t ∷ ts) st h = advances_based ts (advance t st) (advance_based t st h)

-- ---- where a unit begins

ended_no_operator : after EndSign ≡ NoRole
unfolding after
ended_no_operator = refl

sign_ended : (t : Tok) → sign (ended t) ≡ EndSign
unfolding sign
sign_ended t = refl

-- the sign leads to a unit in the one form that is open, unless a unit goes on there
abbrev pub leads_to : Bool → Sign → Status → Bool
leads_to z s st = leads s (standing_of st).next && ((standing_of st).alone && not z)

-- it does so just where an end ends the module, with the same levels and fields
abbrev pub Matched : Bool → Sign → Status → Status → Type 0
Matched z s x y =
    (leads_to z s x ≡ finished y)
    × (leads_to z s x ≡ true → (standing_of x).levels ≡ levels_read y)
    × (leads_to z s x ≡ true → once_codes (code_read x) ≡ once_codes (code_read y))

pub left_false : (a : Bool) → (a && false) ≡ false
left_false true = refl
left_false false = refl

-- in the one form that is open
maybe_alone : (z : Bool) (n : Next) (s : Sign) (count lv : ℕ) (c : List Code) (m : ℕ) → leads_to z s (cond (not (is_fail n)) (entered n count lv [] c m) lost) ≡ (leads s n && not z)
maybe_alone z (Reads k) s count lv c m = refl
maybe_alone z (Wants k) s count lv c m = refl
maybe_alone z (Last k) s count lv c m = refl
maybe_alone z (Shut f) s count lv c m = refl
maybe_alone z Fail s count lv c m = refl

maybe_ended : (n : Next) (count lv : ℕ) (c : List Code) (m : ℕ) → finished (cond (not (is_fail n)) (entered n count lv [] c m) lost) ≡ ended_module n
maybe_ended (Reads k) count lv c m = refl
maybe_ended (Wants k) count lv c m = refl
maybe_ended (Last k) count lv c m = refl
maybe_ended (Shut f) count lv c m = refl
maybe_ended Fail count lv c m = refl

-- in one of several
maybe_among : (z : Bool) (n : Next) (s : Sign) (count lv : ℕ) (g : Open) (r : List Open) (c : List Code) (m : ℕ) → leads_to z s (cond (not (is_fail n)) (entered n count lv (g ∷ r) c m) lost) ≡ false
maybe_among z (Reads k) s count lv g r c m = left_false (leads s (Reads k))
maybe_among z (Wants k) s count lv g r c m = left_false (leads s (Wants k))
maybe_among z (Last k) s count lv g r c m = refl
maybe_among z (Shut f) s count lv g r c m = refl
maybe_among z Fail s count lv g r c m = refl

ended_among : (n : Next) (count lv : ℕ) (g : Open) (r : List Open) (c : List Code) (m : ℕ) → finished (cond (not (is_fail n)) (entered n count lv (g ∷ r) c m) lost) ≡ false
ended_among (Reads k) count lv g r c m = refl
ended_among (Wants k) count lv g r c m = refl
ended_among (Last k) count lv g r c m = refl
ended_among (Shut f) count lv g r c m = refl
ended_among Fail count lv g r c m = refl

lost_pair : (z : Bool) (s : Sign) → Matched z s lost lost
lost_pair z s = (refl, λ q. absurd (cc), λ q. absurd (cc))

levels_led : (z : Bool) (n : Next) (s : Sign) (count lv : ℕ) (c : List Code) (m : ℕ) → leads_to z s (cond (not (is_fail n)) (entered n count lv [] c m) lost) ≡ true → (standing_of (cond (not (is_fail n)) (entered n count lv [] c m) lost)).levels ≡ lv
levels_led z (Reads k) s count lv c m h = refl
levels_led z (Wants k) s count lv c m h = refl
levels_led z (Last k) s count lv c m h = refl
levels_led z (Shut f) s count lv c m h = absurd (cc)
levels_led z Fail s count lv c m h = absurd (cc)

levels_ended : (n : Next) (count lv : ℕ) (c : List Code) (m : ℕ) → finished (cond (not (is_fail n)) (entered n count lv [] c m) lost) ≡ true → levels_read (cond (not (is_fail n)) (entered n count lv [] c m) lost) ≡ lv
levels_ended (Reads k) count lv c m h = refl
levels_ended (Wants k) count lv c m h = refl
levels_ended (Last k) count lv c m h = refl
levels_ended (Shut f) count lv c m h = absurd (cc)
levels_ended Fail count lv c m h = absurd (cc)

code_led : (z : Bool) (n : Next) (s : Sign) (count lv : ℕ) (c : List Code) (m : ℕ) → leads_to z s (cond (not (is_fail n)) (entered n count lv [] c m) lost) ≡ true → code_read (cond (not (is_fail n)) (entered n count lv [] c m) lost) ≡ c
code_led z (Reads k) s count lv c m h = refl
code_led z (Wants k) s count lv c m h = refl
code_led z (Last k) s count lv c m h = refl
code_led z (Shut f) s count lv c m h = absurd (cc)
code_led z Fail s count lv c m h = absurd (cc)

code_ended : (n : Next) (count lv : ℕ) (c : List Code) (m : ℕ) → finished (cond (not (is_fail n)) (entered n count lv [] c m) lost) ≡ true → code_read (cond (not (is_fail n)) (entered n count lv [] c m) lost) ≡ c
code_ended (Reads k) count lv c m h = refl
code_ended (Wants k) count lv c m h = refl
code_ended (Last k) count lv c m h = refl
code_ended (Shut f) count lv c m h = absurd (cc)
code_ended Fail count lv c m h = absurd (cc)

-- a token of a form, and an end in its place
pair : (z q : Bool) (n k : Next) (s : Sign) (count lv : ℕ) (r : List Open) (c d : List Code) (m : ℕ) → (r ≡ [] → (leads s n && not z) ≡ ended_module k) → once_codes c ≡ once_codes d → Matched z s (cond (q && not (is_fail n)) (entered n count lv r c m) lost) (cond (q && not (is_fail k)) (entered k count lv r d m) lost)
pair z false n k s count lv r c d m h o = lost_pair z s
pair z true n k s count lv [] c d m h o =
    let e : leads_to z s (cond (not (is_fail n)) (entered n count lv [] c m) lost) ≡ finished (cond (not (is_fail k)) (entered k count lv [] d m) lost) = maybe_alone z n s count lv c m ∙ h refl ∙ sym (maybe_ended k count lv d m) in
    (e, λ q. levels_led z n s count lv c m q ∙ sym (levels_ended k count lv d m (sym e ∙ q)), λ q. ap once_codes (code_led z n s count lv c m q) ∙ o ∙ sym (ap once_codes (code_ended k count lv d m (sym e ∙ q))))
pair z true n k s count lv (g ∷ r) c d m h o =
    let e : leads_to z s (cond (not (is_fail n)) (entered n count lv (g ∷ r) c m) lost) ≡ false = maybe_among z n s count lv g r c m in
    (e ∙ sym (ended_among k count lv g r d m), λ q. absurd (clash (leads_to z s (cond (not (is_fail n)) (entered n count lv (g ∷ r) c m) lost)) q e), λ q. absurd (clash (leads_to z s (cond (not (is_fail n)) (entered n count lv (g ∷ r) c m) lost)) q e))

-- a token in another's place changes no fields
parts_once : (c : List Code) (t u : Tok) → once_codes (c ++ (Part t ∷ [])) ≡ once_codes (c ++ (Part u ∷ []))
parts_once c t u = once_part c t ∙ sym (once_part c u)

placing_lost : (t : Tok) (w : Operand) (s : List Open) (c : List Code) (m : ℕ) → after (sign t) ≡ NoRole → placing t w s c m ≡ lost
placing_lost t w s c m h = by_cond (λ st. st ≡ lost) (nat_lt (column t) m) lost (acted t (after (sign t)) w s c m) refl (rw h refl)

begun_placing : (t : Tok) (w : Operand) (s : List Open) (c : List Code) (m : ℕ) → begins_unit (sign t) ≡ true → placing t w s c m ≡ lost
begun_placing t w s c m b = placing_lost t w s c m (begun_is_no_operator (sign t) b)

ended_placing : (t : Tok) (w : Operand) (s : List Open) (c : List Code) (m : ℕ) → placing (ended t) w s c m ≡ lost
ended_placing t w s c m = placing_lost (ended t) w s c m (ap after (sign_ended t) ∙ ended_no_operator)

-- ---- behind an operand

true_right : (b : Bool) → (b && true) ≡ b
true_right true = refl
true_right false = refl

row_ends : (m : Mark) (k : Class) (t : Tok) → in_units m ≡ true → begins_unit (sign t) ≡ true → leads (sign t) (delta (filled m k) t) ≡ ended_module (delta (filled m k) (ended t))
unfolding delta moved goes_on sign in_units
row_ends (Bullets s n) k t h b = cc
row_ends m k t h b = row_law m k (sign t) h b

off_ends : (t : Tok) → leads (sign t) (delta off t) ≡ ended_module (delta off (ended t))
unfolding delta moved
off_ends t = refl

given_ends : (n : Next) (k : Class) (t : Tok) → stays_in true n ≡ true → begins_unit (sign t) ≡ true → leads (sign t) (delta (given n k) t) ≡ ended_module (delta (given n k) (ended t))
given_ends (Wants m) k t h b = row_ends m k t h b
given_ends (Last m) k t h b = absurd (cc)
given_ends (Reads m) k t h b = off_ends t
given_ends (Shut c) k t h b = off_ends t
given_ends Fail k t h b = off_ends t

landed_pair : (t : Tok) (w : Operand) (s : List Open) (c : List Code) (m : ℕ) → begins_unit (sign t) ≡ true → based s ≡ true → Matched false (sign t) (landed t w s c m) (landed (ended t) w s c m)
landed_pair t w [] c m b h = absurd (cc)
landed_pair t w (Before p ∷ s) c m b h = rw (begun_placing t w (Before p ∷ s) c m b, ended_placing t w (Before p ∷ s) c m) (lost_pair false (sign t))
landed_pair t w (Between a o ∷ s) c m b h = rw (begun_placing t w (Between a o ∷ s) c m b, ended_placing t w (Between a o ∷ s) c m) (lost_pair false (sign t))
landed_pair t w (Within f ∷ s) c m b h =
    rw (begun_placing t w (Within f ∷ s) c m b, ended_placing t w (Within f ∷ s) c m)
    (pair false (nat_le f.outer (column t)) (delta (given f.next w.class) t) (delta (given f.next w.class) (ended t)) (sign t) (f.count + 2) (max f.levels w.levels) s (c ++ (Part t ∷ [])) (c ++ (Part (ended t) ∷ [])) f.outer (of_module s h) (parts_once c t (ended t)))
  where
    of_module : (r : List Open) → based (Within f ∷ r) ≡ true → r ≡ [] → (leads (sign t) (delta (given f.next w.class) t) && not false) ≡ ended_module (delta (given f.next w.class) (ended t))
    of_module [] e q = true_right (leads (sign t) (delta (given f.next w.class) t)) ∙ given_ends f.next w.class t (and_both (stays_in true f.next) (f.outer == 0) e).0 b
    of_module (g ∷ r) e q = absurd (cc)

pub passes_any : (x b : Bool) (r : Role) → r ≡ NoRole → (x || (not (op r) || b)) ≡ true
passes_any true b r h = refl
passes_any false b r h = rw h refl

begun_passes : (t : Tok) (m : ℕ) (b : Bool) → begins_unit (sign t) ≡ true → passes_by t m b ≡ true
begun_passes t m b h = passes_any (nat_lt (column t) m) b (after (sign t)) (begun_is_no_operator (sign t) h)

ended_passes : (t : Tok) (m : ℕ) (b : Bool) → passes_by (ended t) m b ≡ true
ended_passes t m b = passes_any (nat_lt (column (ended t)) m) b (after (sign (ended t))) (ap after (sign_ended t) ∙ ended_no_operator)

-- no last operand goes on with either
no_bullet_begins : (s : Sign) → begins_unit s ≡ true → is_bullet s ≡ false
unfolding begins_unit is_bullet
no_bullet_begins Wedge h = cc
no_bullet_begins Vee h = cc
no_bullet_begins _ h = refl

pub no_next : (b : Sign) (n : ℕ) (t : Seen) → is_bullet t.sign ≡ false → is_fail (next_bullet b n t) ≡ true
no_next b n t h =
    elim (either (is_bullet b && (same_sign b t.sign && (n == t.column)))) [
      | inl e ↦ (let k : (is_bullet b ≡ true) × ((same_sign b t.sign && (n == t.column)) ≡ true) = and_both (is_bullet b) (same_sign b t.sign && (n == t.column)) e in
          absurd (clash (is_bullet b) k.0 (ap is_bullet (same_sign-is b t.sign (and_both (same_sign b t.sign) (n == t.column) k.1).0) ∙ h)))
      | inr e ↦ rw e refl
    ]

end_is_no_bullet : is_bullet EndSign ≡ false
unfolding is_bullet
end_is_no_bullet = refl

last_begun : (m : Mark) (k : Class) (t : Tok) → kinded (Last m) ≡ true → begins_unit (sign t) ≡ true → is_fail (delta (filled m k) t) ≡ true
unfolding delta moved goes_on last_test
last_begun (Bullets s n) k t h b = no_next s n (look t) (no_bullet_begins (sign t) b)
last_begun m k t h b = each (last_test m k) (sign t) b (last_each m k (plain_last (is_lasting m) h))

last_ended : (m : Mark) (k : Class) (t : Tok) → kinded (Last m) ≡ true → is_fail (delta (filled m k) (ended t)) ≡ true
unfolding delta moved goes_on sign
last_ended (Bullets s n) k t h = no_next s n (look (ended t)) end_is_no_bullet
last_ended m k t h = last_end m k (plain_last (is_lasting m) h)

pair_behind : (t : Tok) (w : Operand) (s : List Open) (c : List Code) (m : ℕ) → begins_unit (sign t) ≡ true → based s ≡ true → Matched false (sign t) (following t w s c m) (following (ended t) w s c m)
pair_behind t w [] c m b h = absurd (cc)
pair_behind t w (Before p ∷ s) c m b h =
    rw (begun_passes t m (nat_lt (hi (sign t)) (prefix_lo (sign p))) b, ended_passes t m (nat_lt (hi (sign (ended t))) (prefix_lo (sign p))))
    (pair_behind t (folded (Before p) w) s (c ++ (folded_code (Before p) ∷ [])) m b h)
pair_behind t w (Between a o ∷ s) c m b h =
    rw (begun_passes t m (nat_lt (hi (sign t)) (lo (sign o)) || same (sign o) (sign t)) b, ended_passes t m (nat_lt (hi (sign (ended t))) (lo (sign o)) || same (sign o) (sign (ended t))))
    (pair_behind t (folded (Between a o) w) s (c ++ (folded_code (Between a o) ∷ [])) m b h)
pair_behind t w (Within f ∷ []) c m b h =
    rw (bottom_stays f w t m h, bottom_stays f w (ended t) m h) (landed_pair t w (Within f ∷ []) c m b h)
pair_behind t w (Within f ∷ g ∷ s) c m b h =
    elim (either (is_last f.next)) [
      | inl e ↦ rw (folds_last t e (begun_passes t m false b) (is_fail_begun f.next e), folds_last (ended t) e (ended_passes t m false) (is_fail_ended f.next e))
          (pair_behind t (folded (Within f) w) (g ∷ s) (c ++ (folded_code (Within f) ∷ [])) f.outer b (and_both (kinded f.next) (based (g ∷ s)) h).1)
      | inr e ↦ rw (folds_not t e, folds_not (ended t) e) (landed_pair t w (Within f ∷ g ∷ s) c m b h)
    ]
  where
    kind : kinded f.next ≡ true
    kind = (and_both (kinded f.next) (based (g ∷ s)) h).0

    is_fail_begun : (n : Next) → is_last n ≡ true → n ≡ f.next → is_fail (delta (given n w.class) t) ≡ true
    is_fail_begun (Last k) e q = last_begun k w.class t (ap kinded q ∙ kind) b
    is_fail_begun (Reads k) e q = absurd (cc)
    is_fail_begun (Wants k) e q = absurd (cc)
    is_fail_begun (Shut k) e q = absurd (cc)
    is_fail_begun Fail e q = absurd (cc)

    is_fail_ended : (n : Next) → is_last n ≡ true → n ≡ f.next → is_fail (delta (given n w.class) (ended t)) ≡ true
    is_fail_ended (Last k) e q = last_ended k w.class t (ap kinded q ∙ kind)
    is_fail_ended (Reads k) e q = absurd (cc)
    is_fail_ended (Wants k) e q = absurd (cc)
    is_fail_ended (Shut k) e q = absurd (cc)
    is_fail_ended Fail e q = absurd (cc)

    folds_last : (u : Tok) → is_last f.next ≡ true → passes_by u m false ≡ true → (f.next ≡ f.next → is_fail (delta (given f.next w.class) u) ≡ true) → folds u w (Within f) m ≡ true
    folds_last u e p q = rw (q refl, e, p) (not_false (nat_le f.outer (column u)))
      where
        not_false : (x : Bool) → (not (x && false) && true) ≡ true
        not_false true = refl
        not_false false = refl

    folds_not : (u : Tok) → is_last f.next ≡ false → folds u w (Within f) m ≡ false
    folds_not u e = rw e (left_false (not (accepting f w u)))

-- ---- where an operand is to come

begun_opens : (t : Seen) (s : Sign) → begins_unit s ≡ true → (opens t s ≡ Shut NameUse) ⊎ (opens t s ≡ Fail)
unfolding begins_unit opens
begun_opens t Word h = inl refl
begun_opens t VariableWord h = inr refl
begun_opens t ConstantWord h = inr refl
begun_opens t AssumeWord h = inr refl
begun_opens t TheoremWord h = inr refl
begun_opens t InstanceWord h = inr refl
begun_opens t RecursiveWord h = inr refl
begun_opens t LocalWord h = inr refl
begun_opens t Dashes h = inr refl
begun_opens t _ h = absurd (cc)

begun_begin : (t : Tok) → begins_unit (sign t) ≡ true → (delta begin t ≡ Shut NameUse) ⊎ (delta begin t ≡ Fail)
unfolding delta moved
begun_begin t h = begun_opens (look t) (sign t) h

ended_begin : (t : Tok) → delta begin (ended t) ≡ Fail
unfolding delta moved opens sign
ended_begin t = refl

ended_is_no_prefix : (t : Tok) → is_prefix (sign (ended t)) ≡ false
unfolding is_prefix sign
ended_is_no_prefix t = refl

fresh_led : (z : Bool) (t : Tok) (s : List Open) (c : List Code) (m : ℕ) → begins_unit (sign t) ≡ true → leads_to z (sign t) (freshly t s c m) ≡ false
fresh_led z t s c m b =
    by_cond (λ (st : Status). leads_to z (sign t) st ≡ false) (nat_lt (column t) m) lost _ refl
    (rw (begun_is_no_prefix (sign t) b) (elim (begun_begin t b) [ inl e ↦ rw e refl | inr e ↦ rw e refl ]))

fresh_ended : (t : Tok) (s : List Open) (c : List Code) (m : ℕ) → freshly (ended t) s c m ≡ lost
fresh_ended t s c m =
    by_cond (λ (st : Status). st ≡ lost) (nat_lt (column (ended t)) m) lost _ refl
    (rw (ended_is_no_prefix t) (rw (ended_begin t) refl))

ended_idle : (n : Next) (t : Tok) → delta (idle n) (ended t) ≡ Fail
unfolding delta moved sign
ended_idle (Wants m) t = instead_end m
ended_idle (Reads m) t = refl
ended_idle (Last m) t = refl
ended_idle (Shut c) t = refl
ended_idle Fail t = refl

ended_wanting : (t : Tok) (s : List Open) (c : List Code) (m : ℕ) → wanting (ended t) s c m ≡ lost
ended_wanting t [] c m = fresh_ended t [] c m
ended_wanting t (Before p ∷ s) c m = fresh_ended t (Before p ∷ s) c m
ended_wanting t (Between a o ∷ s) c m = fresh_ended t (Between a o ∷ s) c m
ended_wanting t (Within f ∷ s) c m = rw (not_taken (nat_le f.outer (column (ended t)))) (fresh_ended t (Within f ∷ s) c m)
  where
    not_taken : (q : Bool) → (q && not (is_fail (delta (idle f.next) (ended t)))) ≡ false
    not_taken true = ap (λ (n : Next). not (is_fail n)) (ended_idle f.next t)
    not_taken false = refl

-- whether a unit that began goes on in the one form that is open
abbrev pub goes_alone : List Open → Bool
goes_alone s = (innermost s).alone && unit_goes_on (innermost s).next

instead_led : (n : Next) (t : Tok) → begins_unit (sign t) ≡ true → (leads (sign t) (delta (idle n) t) && not (unit_goes_on n)) ≡ false
unfolding delta moved
instead_led (Wants m) t b = negated (leads (sign t) (found (sign t) (insteads m)) && not (in_unit m)) (each (λ s. not (leads s (found s (insteads m)) && not (in_unit m))) (sign t) b (instead_each m))
instead_led (Reads m) t b = refl
instead_led (Last m) t b = refl
instead_led (Shut c) t b = refl
instead_led Fail t b = refl

taken_led : (q : Bool) (n : Next) (s : Sign) (count lv : ℕ) (f : Form) (r : List Open) (c : List Code) (y : Status) → (r ≡ [] → (leads s n && not (unit_goes_on f.next)) ≡ false) → leads_to (goes_alone (Within f ∷ r)) s y ≡ false → leads_to (goes_alone (Within f ∷ r)) s (cond (q && not (is_fail n)) (entered n count lv r c f.outer) y) ≡ false
taken_led false n s count lv f r c y h e = e
taken_led true (Reads k) s count lv f [] c y h e = h refl
taken_led true (Wants k) s count lv f [] c y h e = h refl
taken_led true (Last k) s count lv f [] c y h e = refl
taken_led true (Shut k) s count lv f [] c y h e = refl
taken_led true Fail s count lv f [] c y h e = e
taken_led true (Reads k) s count lv f (g ∷ r) c y h e = left_false (leads s (Reads k))
taken_led true (Wants k) s count lv f (g ∷ r) c y h e = left_false (leads s (Wants k))
taken_led true (Last k) s count lv f (g ∷ r) c y h e = refl
taken_led true (Shut k) s count lv f (g ∷ r) c y h e = refl
taken_led true Fail s count lv f (g ∷ r) c y h e = e

wanting_led : (t : Tok) (s : List Open) (c : List Code) (m : ℕ) → begins_unit (sign t) ≡ true → leads_to (goes_alone s) (sign t) (wanting t s c m) ≡ false
wanting_led t [] c m b = fresh_led (goes_alone []) t [] c m b
wanting_led t (Before p ∷ s) c m b = fresh_led (goes_alone (Before p ∷ s)) t (Before p ∷ s) c m b
wanting_led t (Between a o ∷ s) c m b = fresh_led (goes_alone (Between a o ∷ s)) t (Between a o ∷ s) c m b
wanting_led t (Within f ∷ s) c m b =
    taken_led (nat_le f.outer (column t)) (delta (idle f.next) t) (sign t) (f.count + 1) f.levels f s (c ++ (Part t ∷ [])) (freshly t (Within f ∷ s) c m)
    (λ q. instead_led f.next t b) (fresh_led (goes_alone (Within f ∷ s)) t (Within f ∷ s) c m b)

wanting_pair : (t : Tok) (s : List Open) (c : List Code) (m : ℕ) → begins_unit (sign t) ≡ true → Matched (goes_alone s) (sign t) (wanting t s c m) (wanting (ended t) s c m)
wanting_pair t s c m b =
    let e : leads_to (goes_alone s) (sign t) (wanting t s c m) ≡ false = wanting_led t s c m b in
    (e ∙ sym (ap finished (ended_wanting t s c m)), λ q. absurd (clash (leads_to (goes_alone s) (sign t) (wanting t s c m)) q e), λ q. absurd (clash (leads_to (goes_alone s) (sign t) (wanting t s c m)) q e))

-- ---- where a token of a form is to come

read_ends : (n : Next) (t : Tok) → begins_unit (sign t) ≡ true → (leads (sign t) (delta (read_at n) t) && not (unit_goes_on n)) ≡ ended_module (delta (read_at n) (ended t))
unfolding delta moved sign
read_ends (Reads m) t b = head_law m (sign t) b
read_ends (Wants m) t b = refl
read_ends (Last m) t b = refl
read_ends (Shut c) t b = refl
read_ends Fail t b = refl

not_both : (q : Bool) (n : Next) (x : Status) → cond q lost (cond (not (is_fail n)) x lost) ≡ cond (not q && not (is_fail n)) x lost
not_both true n x = refl
not_both false n x = refl

entered_maybe : (n : Next) (count lv : ℕ) (s : List Open) (c : List Code) (m : ℕ) → cond (not (is_fail n)) (entered n count lv s c m) lost ≡ entered n count lv s c m
entered_maybe (Reads k) count lv s c m = refl
entered_maybe (Wants k) count lv s c m = refl
entered_maybe (Last k) count lv s c m = refl
entered_maybe (Shut f) count lv s c m = refl
entered_maybe Fail count lv s c m = refl

heads_form : (t : Tok) (f : Form) (s : List Open) (c : List Code) (m : ℕ) → heads_on t (Within f ∷ s) c m ≡ cond (not (nat_lt (column t) f.outer) && not (is_fail (delta (read_at f.next) t))) (entered (delta (read_at f.next) t) (f.count + 1) f.levels s (c ++ (Part t ∷ [])) f.outer) lost
heads_form t f s c m =
    ap (λ (x : Status). cond (nat_lt (column t) f.outer) lost x) (sym (entered_maybe (delta (read_at f.next) t) (f.count + 1) f.levels s (c ++ (Part t ∷ [])) f.outer))
    ∙ not_both (nat_lt (column t) f.outer) (delta (read_at f.next) t) (entered (delta (read_at f.next) t) (f.count + 1) f.levels s (c ++ (Part t ∷ [])) f.outer)

heads_pair : (t : Tok) (s : List Open) (c : List Code) (m : ℕ) → begins_unit (sign t) ≡ true → Matched (goes_alone s) (sign t) (heads_on t s c m) (heads_on (ended t) s c m)
heads_pair t [] c m b = lost_pair (goes_alone []) (sign t)
heads_pair t (Before p ∷ s) c m b = lost_pair (goes_alone (Before p ∷ s)) (sign t)
heads_pair t (Between a o ∷ s) c m b = lost_pair (goes_alone (Between a o ∷ s)) (sign t)
heads_pair t (Within f ∷ s) c m b =
    rw (heads_form t f s c m, heads_form (ended t) f s c m)
    (pair (goes_alone (Within f ∷ s)) (not (nat_lt (column t) f.outer)) (delta (read_at f.next) t) (delta (read_at f.next) (ended t)) (sign t) (f.count + 1) f.levels s (c ++ (Part t ∷ [])) (c ++ (Part (ended t) ∷ [])) f.outer (alone s) (parts_once c t (ended t)))
  where
    alone : (r : List Open) → r ≡ [] → (leads (sign t) (delta (read_at f.next) t) && not (goes_alone (Within f ∷ r))) ≡ ended_module (delta (read_at f.next) (ended t))
    alone [] q = read_ends f.next t b
    alone (g ∷ r) q = absurd (cc)

-- ---- the whole

abbrev pub goes_before : Status → Bool
goes_before st = (standing_of st).alone && unit_goes_on (standing_of st).next

advance_pair : (t : Tok) (st : Status) → Based st → begins_unit (sign t) ≡ true → Matched (goes_before st) (sign t) (advance t st) (advance (ended t) st)
advance_pair t lost h b = lost_pair false (sign t)
advance_pair t (running Want s c m) h b = wanting_pair t s c m b
advance_pair t (running (Have w) s c m) h b = pair_behind t w s c m b h
advance_pair t (running Read s c m) h b = heads_pair t s c m b
advance_pair t (running Stuck s c m) h b = lost_pair false (sign t)

pub started : (t : Tok) (st : Status) → Based st → begins_unit (sign t) ≡ true → starts (sign t) (standing_of st) (standing_of (advance t st)) ≡ finished (advance (ended t) st)
started t st h b = rw b (advance_pair t st h b).0

pub started_levels : (t : Tok) (st : Status) → Based st → starts (sign t) (standing_of st) (standing_of (advance t st)) ≡ true → (standing_of (advance t st)).levels ≡ levels_read (advance (ended t) st)
started_levels t st h e =
    let b : (begins_unit (sign t) ≡ true) × (leads_to (goes_before st) (sign t) (advance t st) ≡ true) = and_both (begins_unit (sign t)) (leads_to (goes_before st) (sign t) (advance t st)) e in
    (advance_pair t st h b.0).1 b.1

pub started_once : (t : Tok) (st : Status) → Based st → starts (sign t) (standing_of st) (standing_of (advance t st)) ≡ true → once_codes (code_read (advance t st)) ≡ once_codes (code_read (advance (ended t) st))
started_once t st h e =
    let b : (begins_unit (sign t) ≡ true) × (leads_to (goes_before st) (sign t) (advance t st) ≡ true) = and_both (begins_unit (sign t)) (leads_to (goes_before st) (sign t) (advance t st)) e in
    (advance_pair t st h b.0).2 b.1
