-- What a reduction keeps: what a tree stands for, where numbers stand for its bound names. Source: Konnov, Kukovec and
-- Tran, "TLA+ Model Checking Made Symbolic", OOPSLA 2019, on the reduction to KerA+.
use Rattle.std.specs.Prelude.{◌≡◌, ℕ, zero, suc, Bool, true, false, not, ◌&&◌, nat_eq, nat_le, List, [], ◌∷◌, ◌++◌, Some, None, option_and_then}
use Rattle.std.specs.List.{list_all, list_any}
use Rattle.tla_meaning.specs.declared.actions.Assignable.{Assignable}
use Rattle.tla_meaning.specs.declared.expr.Expr.{Expr}
use Rattle.tla_meaning.specs.declared.expr.Expr.TheFolds.{fold-Expr}
use Rattle.tla_meaning.specs.declared.job.State.{State}
use Rattle.tla_meaning.specs.declared.op.Op.{Op}
use Rattle.tla_meaning.specs.declared.op.Op.TheVariants as op
use Rattle.tla_meaning.specs.Numbers.{Width}
use Rattle.tla_meaning.specs.Scopes.{Scope, find_last}
use Rattle.tla_meaning.specs.Actions.{counts, meaning, val}
use Rattle.kernel_trees.specs.declared.kernel.Ker.{Ker}
use Rattle.kernel_trees.specs.Trees.{number_name, ker_val, ker_form, ker_effect}
use Rattle.kernel_shapes.specs.Laws.{IsNormal}

-- the numbers of bound names; of two with one name the last counts
abbrev pub Numbering : Type 0
Numbering = List (List ℕ × ℕ)

-- each name has the value of its number, and a name without a number is unbound
abbrev pub Tied : Numbering → Scope → Scope → Type 0
Tied ρ a b =
    (x : List ℕ) → find_last x a.bound ≡ option_and_then (λ n. find_last (number_name n) b.bound) (find_last x ρ)

-- the scopes are tied, and all values that a tree reads are normal. Where a function has an argument twice, which no
-- value of the language has, an EXCEPT of two indexes is not what two nested ones are: `[f EXCEPT ![i][j] = e]` leaves
-- such an f as it is where j is no argument of f[i].
pub record Matched (ρ : Numbering) (a b : Scope) (s t : State) : Type 0 where
  pub tied : Tied ρ a b
  pub normal : IsNormal a s t

-- no name has the number
abbrev pub fresh : ℕ → Numbering → Bool
fresh n ρ = list_all (λ e. not (nat_eq e.1 n)) ρ

-- no name has one of the numbers
abbrev pub are_fresh : List ℕ → Numbering → Bool
are_fresh ns ρ = list_all (λ n. fresh n ρ) ns

-- new names with new numbers
abbrev pub numbered : List (List ℕ) → List ℕ → Numbering → Numbering
numbered (x ∷ xs) (n ∷ ns) ρ = numbered xs ns (ρ ++ (x, n) ∷ [])
numbered xs ns ρ = ρ

-- a number for each name, which no name before it has
abbrev pub all_fresh : List (List ℕ) → List ℕ → Numbering → Bool
all_fresh [] [] ρ = true
all_fresh (x ∷ xs) (n ∷ ns) ρ = fresh n ρ && all_fresh xs ns (ρ ++ (x, n) ∷ [])
all_fresh xs ns ρ = false

-- so many numbers, from n on
abbrev pub upward : ℕ → ℕ → List ℕ
upward n zero = []
upward n (suc k) = n ∷ upward (suc n) k

-- no width, or one from 4 on
abbrev pub is_wide : Width → Bool
is_wide None = true
is_wide (Some n) = nat_le 4 n

-- the same value and the same form, at all states
pub record Keeps (w : Width) (ρ : Numbering) (e : Expr) (k : Ker) : Type 0 where
  pub value : (a b : Scope) (s t : State) → Matched ρ a b s t → val w e a s t ≡ ker_val w k b s t
  pub form : (a b : Scope) (s t : State) → Matched ρ a b s t → (meaning w e a).form s t ≡ ker_form w k b s t

-- the same effect in an action position, where these names may be assigned
abbrev pub KeepsAction : Width → Assignable → Numbering → Expr → Ker → Type 0
KeepsAction w m ρ e k =
    (a b : Scope) (s t : State) → Matched ρ a b s t → (meaning w e a).act m s t ≡ ker_effect w m k b s t

-- ---- names that an action may assign, in expanded trees

abbrev pub mentioned_at : Assignable → Op → List Bool → Bool
mentioned_at m (op.Name i primed) bs = counts m i primed
mentioned_at m o bs = list_any (λ b. b) bs

-- whether an expanded tree holds a name that may be assigned
unfoldable pub mentioned : Assignable → Expr → Bool
mentioned m = fold-Expr Bool (λ x. mentioned_at m x.op x.args)

-- whether one of several does
abbrev pub any_mentioned : Assignable → List Expr → Bool
any_mentioned m es = list_any (mentioned m) es
