-- The parser as a function: a fold over the tokens, whose state is what is open and, behind an operand, the operand.
use Rattle.tla_lexer.specs.declared.token.Token.{Token as Tok}
use Rattle.std.proofs.Math.Dec.{ltb, leb}
use Rattle.std.proofs.Common.{ℕ, suc, Bool, false, cond, not, max, List, Option, Some, None, ◌∷◌, ◌&&◌, ◌||◌, []}
use Rattle.tla_parser.specs.Operators.{after, hi, is_prefix, lo, prefix_hi, prefix_lo, same}
use Rattle.tla_parser.specs.Signs.{column, sign}
use Rattle.tla_parser.specs.declared.moves.Next.{Next}
use Rattle.tla_parser.specs.declared.moves.Next.TheVariants.{Fail, Last, Reads, Shut, Wants}
use Rattle.tla_parser.specs.declared.signs.Role.{Role}
use Rattle.tla_parser.specs.declared.signs.Role.TheVariants.{InfixRole, NoRole, PostfixRole}
use Rattle.tla_parser.specs.Written.{Parts, Written, bin, class, closed, exp, from, pre, start, tailed, tok, top}
use Rattle.tla_parser.specs.inner.Derivations.{ahead, delta, form_of, given, idle, inner, is_last}
use Rattle.tla_parser.specs.inner.Recognition.{ended_module, is_fail, op}

pub data Frame : Type 0 where
  at_pre : Tok → Frame
  at_bin : Written → Tok → Frame
  at_form : Parts → Frame

abbrev pub floor : List Frame → ℕ
floor [] = 0
floor (at_pre p ∷ s) = suc (prefix_hi (sign p))
floor (at_bin a t ∷ s) = suc (hi (sign t))
floor (at_form ps ∷ s) = 0

abbrev pub margin : List Frame → ℕ
margin [] = 0
margin (at_pre p ∷ s) = margin s
margin (at_bin a t ∷ s) = margin s
margin (at_form ps ∷ s) = max (inner (ahead ps)) (margin s)

pub data State : Type 0 where
  want : List Frame → State
  have : Written → List Frame → State
  heading : Parts → List Frame → State
  stuck : State

-- what is behind the parts is known
abbrev pub enter : Next → Parts → List Frame → State
enter (Reads m) ps s = heading ps s
enter (Wants m) ps s = want (at_form ps ∷ s)
enter (Last m) ps s = want (at_form ps ∷ s)
enter (Shut f) ps s = have (closed f ps) s
enter Fail ps s = stuck

abbrev pub act : Tok → Role → Written → List Frame → State
act t InfixRole w s = cond (leb (floor s) (lo (sign t))) (want (at_bin w t ∷ s)) stuck
act t PostfixRole w s = enter (ahead (tok (from w) t)) (tok (from w) t) s
act t NoRole w s = stuck

abbrev pub placed : Tok → Written → List Frame → State
placed t w s = cond (ltb (column t) (margin s)) stuck (act t (after (sign t)) w s)

abbrev pub accepts : Parts → Written → Tok → ℕ → Bool
accepts ps w t n = leb n (column t) && not (is_fail (delta (given (ahead ps) (class w)) t))

-- t stands left of what is open, or is no operator, or takes the operator on top
abbrev pub pops : Tok → ℕ → Bool → Bool
pops t m b = ltb (column t) m || (not (op (after (sign t))) || b)

abbrev pub behind : Tok → Written → List Frame → State
behind t w [] = placed t w []
behind t w (at_pre p ∷ s) = cond (pops t (margin s) (ltb (hi (sign t)) (prefix_lo (sign p)))) (behind t (pre p w) s) (placed t w (at_pre p ∷ s))
behind t w (at_bin a o ∷ s) = cond (pops t (margin s) (ltb (hi (sign t)) (lo (sign o)) || same (sign o) (sign t))) (behind t (bin a o w) s) (placed t w (at_bin a o ∷ s))
behind t w (at_form ps ∷ s) =
    cond (accepts ps w t (margin s)) (enter (delta (given (ahead ps) (class w)) t) (tok (exp ps w) t) s)
    (cond (is_last (ahead ps) && pops t (margin (at_form ps ∷ s)) false) (behind t (tailed (form_of (ahead ps)) ps w) s) (placed t w (at_form ps ∷ s)))

-- t begins an operand
abbrev pub fresh : Tok → List Frame → State
fresh t s = cond (ltb (column t) (margin s)) stuck (cond (is_prefix (sign t)) (want (at_pre t ∷ s)) (enter (ahead (tok start t)) (tok start t) s))

-- t stands in the place of an operand
abbrev pub takes : Parts → Tok → ℕ → Bool
takes ps t n = leb n (column t) && not (is_fail (delta (idle (ahead ps)) t))

abbrev pub wanted : Tok → List Frame → State
wanted t [] = fresh t []
wanted t (at_pre p ∷ s) = fresh t (at_pre p ∷ s)
wanted t (at_bin a o ∷ s) = fresh t (at_bin a o ∷ s)
wanted t (at_form ps ∷ s) = cond (takes ps t (margin s)) (enter (ahead (tok ps t)) (tok ps t) s) (fresh t (at_form ps ∷ s))

abbrev pub step : Tok → State → State
step t (want s) = wanted t s
step t (heading ps s) = cond (ltb (column t) (margin s)) stuck (enter (ahead (tok ps t)) (tok ps t) s)
step t (have w s) = behind t w s
step t stuck = stuck

abbrev pub run : State → List Tok → State
run st [] = st
run st (t ∷ ts) = run (step t st) ts

abbrev pub whole : Written → List Frame → Option Written
whole w [] = Some w
whole w (at_pre p ∷ s) = whole (pre p w) s
whole w (at_bin a o ∷ s) = whole (bin a o w) s
whole w (at_form ps ∷ s) = cond (is_last (ahead ps)) (whole (tailed (form_of (ahead ps)) ps w) s) None

abbrev pub answer : State → Option Written
answer (have w s) = whole w s
answer (want s) = None
answer (heading ps s) = None
answer stuck = None

-- the parts that a module's tokens make
abbrev pub module_of : State → Option Parts
module_of (heading ps []) = cond (ended_module (ahead ps)) (Some ps) None
module_of (heading ps (f ∷ s)) = None
module_of (have w s) = None
module_of (want s) = None
module_of stuck = None

abbrev pub parse_module : List Tok → Option Parts
parse_module ts = module_of (run (heading top []) ts)

abbrev pub parse_fn : List Tok → Option Written
parse_fn ts = answer (run (want []) ts)
