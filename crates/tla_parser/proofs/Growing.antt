-- What is read of more tokens goes on from what is read of fewer.
use Rattle.std.proofs.Common.{nat_lt, nat_le, max, drop}
use Rattle.std.proofs.lemmas.List.{drop_at}
use Rattle.std.proofs.Common.{ℕ, false, List, length, refl, sym, ap, append_assoc, append-nil, ◌≡◌, ◌+◌, ◌∷◌, ◌++◌, ◌∙◌, []}
use Rattle.tla_lexer.specs.declared.token.Token.{Token}
use Rattle.tla_parser.proofs.Starts.{by_cond}
use Rattle.tla_parser.specs.Operators.{after, is_prefix, lo}
use Rattle.tla_parser.specs.Signs.{column, sign}
use Rattle.tla_parser.specs.declared.moves.Next.{Next}
use Rattle.tla_parser.specs.declared.moves.Next.TheVariants.{Fail, Last, Reads, Shut, Wants}
use Rattle.tla_parser.specs.declared.open.Code.{Code}
use Rattle.tla_parser.specs.declared.open.Code.TheVariants.{Close, Part}
use Rattle.tla_parser.specs.declared.open.Mode.TheVariants.{Have, Read, Stuck, Want}
use Rattle.tla_parser.specs.declared.open.Open.{Open}
use Rattle.tla_parser.specs.declared.open.Open.TheVariants.{Before, Between, Within}
use Rattle.tla_parser.specs.declared.open.Operand.{Operand}
use Rattle.tla_parser.specs.declared.signs.Role.{Role}
use Rattle.tla_parser.specs.declared.signs.Role.TheVariants.{InfixRole, NoRole, PostfixRole}
use Rattle.tla_parser.specs.inner.Derivations.{delta, given, idle}
use Rattle.tla_parser.specs.inner.Moves.{begin, behind_op}
use Rattle.tla_parser.specs.inner.Recognition.{Status, accepting, acted, advance, advances, code_read, entered, folded, folded_code, folded_margin, folds, following, freshly, heads_on, landed, least, lost, placing, read_at, running, taken, wanting}
use Rattle.tla_parser.specs.inner.Standings.{innermost, standing_of}

-- the second list begins with the first
abbrev pub Longer : List Code → List Code → Type 0
Longer c d = (more : List Code) × (d ≡ c ++ more)

same : (c : List Code) → Longer c c
same c = ([], sym (append-nil c))

more_code : (c d : List Code) (x : Code) → Longer c d → Longer c (d ++ (x ∷ []))
more_code c d x l = (l.0 ++ (x ∷ []), ap (λ (cs : List Code). cs ++ (x ∷ [])) l.1 ∙ append_assoc c l.0 (x ∷ []))

-- what was read goes on from the codes
abbrev pub Grows : List Code → Status → Type 0
Grows c lost = Unit {0}
Grows c (running mode s d m) = Longer c d

entered_grows : (n : Next) (count lv : ℕ) (s : List Open) (c d : List Code) (m : ℕ) → Longer c d → Grows c (entered n count lv s d m)
entered_grows (Reads k) count lv s c d m l = l
entered_grows (Wants k) count lv s c d m l = l
entered_grows (Last k) count lv s c d m l = l
entered_grows (Shut f) count lv s c d m l = more_code c d (Close f count) l
entered_grows Fail count lv s c d m l = tt

-- behind a token of a form
part_grows : (t : Token) (n : Next) (count lv : ℕ) (s : List Open) (c d : List Code) (m : ℕ) → Longer c d → Grows c (entered n count lv s (d ++ (Part t ∷ [])) m)
part_grows t n count lv s c d m l = entered_grows n count lv s c (d ++ (Part t ∷ [])) m (more_code c d (Part t) l)

freshly_grows : (t : Token) (s : List Open) (c d : List Code) (m : ℕ) → Longer c d → Grows c (freshly t s d m)
freshly_grows t s c d m l = by_cond (Grows c) (nat_lt (column t) m) lost _ tt (by_cond (Grows c) (is_prefix (sign t)) (running Want (Before t ∷ s) d m) _ l (part_grows t (delta begin t) 1 0 s c d m l))

wanting_grows : (t : Token) (s : List Open) (c d : List Code) (m : ℕ) → Longer c d → Grows c (wanting t s d m)
wanting_grows t [] c d m l = freshly_grows t [] c d m l
wanting_grows t (Before p ∷ s) c d m l = freshly_grows t (Before p ∷ s) c d m l
wanting_grows t (Between a o ∷ s) c d m l = freshly_grows t (Between a o ∷ s) c d m l
wanting_grows t (Within f ∷ s) c d m l = by_cond (Grows c) (taken f t) _ _ (part_grows t (delta (idle f.next) t) (f.count + 1) f.levels s c d f.outer l) (freshly_grows t (Within f ∷ s) c d m l)

heads_grows : (t : Token) (s : List Open) (c d : List Code) (m : ℕ) → Longer c d → Grows c (heads_on t s d m)
heads_grows t [] c d m l = tt
heads_grows t (Before p ∷ s) c d m l = tt
heads_grows t (Between a o ∷ s) c d m l = tt
heads_grows t (Within f ∷ s) c d m l = by_cond (Grows c) (nat_lt (column t) f.outer) lost _ tt (part_grows t (delta (read_at f.next) t) (f.count + 1) f.levels s c d f.outer l)

acted_grows : (t : Token) (a : Role) (w : Operand) (s : List Open) (c d : List Code) (m : ℕ) → Longer c d → Grows c (acted t a w s d m)
acted_grows t InfixRole w s c d m l = by_cond (Grows c) (nat_le (least s) (lo (sign t))) (running Want (Between w t ∷ s) d m) lost l tt
acted_grows t PostfixRole w s c d m l = part_grows t (delta (behind_op w.class) t) 2 w.levels s c d m l
acted_grows t NoRole w s c d m l = tt

placing_grows : (t : Token) (w : Operand) (s : List Open) (c d : List Code) (m : ℕ) → Longer c d → Grows c (placing t w s d m)
placing_grows t w s c d m l = by_cond (Grows c) (nat_lt (column t) m) lost _ tt (acted_grows t (after (sign t)) w s c d m l)

landed_grows : (t : Token) (w : Operand) (s : List Open) (c d : List Code) (m : ℕ) → Longer c d → Grows c (landed t w s d m)
landed_grows t w [] c d m l = placing_grows t w [] c d m l
landed_grows t w (Before p ∷ s) c d m l = placing_grows t w (Before p ∷ s) c d m l
landed_grows t w (Between a o ∷ s) c d m l = placing_grows t w (Between a o ∷ s) c d m l
landed_grows t w (Within f ∷ s) c d m l = by_cond (Grows c) (accepting f w t) _ _ (part_grows t (delta (given f.next w.class) t) (f.count + 2) (max f.levels w.levels) s c d f.outer l) (placing_grows t w (Within f ∷ s) c d m l)

following_grows : (t : Token) (w : Operand) (s : List Open) (c d : List Code) (m : ℕ) → Longer c d → Grows c (following t w s d m)
following_grows t w [] c d m l = landed_grows t w [] c d m l
following_grows t w (f ∷ s) c d m l = by_cond (Grows c) (folds t w f m) _ _ (following_grows t (folded f w) s c (d ++ (folded_code f ∷ [])) (folded_margin f m) (more_code c d (folded_code f) l)) (landed_grows t w (f ∷ s) c d m l)

pub advance_grows : (t : Token) (st : Status) (c : List Code) → Grows c st → Grows c (advance t st)
advance_grows t lost c l = tt
advance_grows t (running Want s d m) c l = wanting_grows t s c d m l
advance_grows t (running (Have w) s d m) c l = following_grows t w s c d m l
advance_grows t (running Read s d m) c l = heads_grows t s c d m l
advance_grows t (running Stuck s d m) c l = tt

pub advances_grow : (ts : List Token) (st : Status) (c : List Code) → Grows c st → Grows c (advances st ts)
advances_grow [] st c l = l
advances_grow (t ∷ ts) st c l = advances_grow ts (advance t st) c (advance_grows t st c l)

-- ---- where reading does not stick

pub grows_code : (st : Status) (c : List Code) → (standing_of st).stuck ≡ false → Grows c st → Longer c (code_read st)
grows_code lost c h g = absurd (cc)
grows_code (running mode s d m) c h g = g

pub grows_self : (st : Status) → Grows (code_read st) st
grows_self lost = tt
grows_self (running mode s d m) = same d

pub never_stuck : (s : List Open) → (innermost s).stuck ≡ false
never_stuck [] = refl
never_stuck (Before p ∷ s) = refl
never_stuck (Between a o ∷ s) = refl
never_stuck (Within f ∷ []) = refl
never_stuck (Within f ∷ g ∷ s) = refl

-- what sticks goes on with no token
pub unstuck_before : (t : Token) (st : Status) → (standing_of (advance t st)).stuck ≡ false → (standing_of st).stuck ≡ false
unstuck_before t lost h = h
unstuck_before t (running Stuck s d m) h = h
unstuck_before t (running (Have w) s d m) h = refl
unstuck_before t (running Want s d m) h = never_stuck s
unstuck_before t (running Read s d m) h = never_stuck s

pub behind_codes : (c d : List Code) (l : Longer c d) → drop (length c) d ≡ l.0
behind_codes c d l = ap (drop (length c)) l.1 ∙ drop_at c l.0 (length c) refl
