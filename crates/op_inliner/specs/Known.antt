-- The condition of an expansion: each use names an earlier definition or a parameter, with its number of arguments.
use Rattle.std.specs.Prelude.{ℕ, ◌==◌, Bool, true, false, ◌&&◌, List, [], ◌∷◌, ◌++◌, map, length, take, drop, Option, Some, None}
use Rattle.std.specs.List.{list_all}
use Rattle.tla_meaning.specs.declared.expr.Def.{Def}
use Rattle.tla_meaning.specs.declared.expr.Expr.{Expr}
use Rattle.tla_meaning.specs.declared.expr.Expr.TheOpen.{Expr-F}
use Rattle.tla_meaning.specs.declared.expr.Expr.TheFolds.{fold-Expr}
use Rattle.tla_meaning.specs.declared.modules.Flat.{Flat}
use Rattle.tla_meaning.specs.declared.op.Op.{Op}
use Rattle.tla_meaning.specs.declared.op.Op.TheVariants as op
use Rattle.tla_meaning.specs.Scopes.{find_last}
use Rattle.tla_meaning.specs.Folds.{with_lambdas}
use Rattle.tla_meaning.specs.Meaning.{Role, Named, Held, Lets, Plain_role, role}

-- names with their numbers of parameters
abbrev pub Arities : Type 0
Arities = List (List ℕ × ℕ)

abbrev pub wants : ℕ → Option ℕ → Bool
wants n None = false
wants n (Some k) = k == n

-- the operators that stand for other trees have their operands
abbrev pub shaped : Op → ℕ → Bool
shaped op.Prime n = n == 1
shaped op.Unchanged n = n == 1
shaped (op.Noted x) n = n == 1
shaped op.Boxed n = n == 2
shaped op.Angled n = n == 2
shaped o n = true

abbrev pub Uses : Type 0
Uses = Arities → Bool

abbrev pub all_use : List Uses → Arities → Bool
all_use [] as' = true
all_use (k ∷ ks) as' = k as' && all_use ks as'

abbrev pub with_params : List (List ℕ) → Arities → Arities
with_params xs as' = as' ++ map (λ x. (x, 0)) xs

abbrev pub lets_use : List (List ℕ × ℕ) → List (List ℕ) → List Uses → Arities → Bool
lets_use [] xs [] as' = false
lets_use [] xs (k ∷ ks) as' = k as'
lets_use (d ∷ ds) xs [] as' = false
lets_use (d ∷ ds) xs (k ∷ ks) as' =
    (length (take d.1 xs) == d.1) && k (with_params (take d.1 xs) as') && lets_use ds (drop d.1 xs) ks (as' ++ (d.0, d.1) ∷ [])

abbrev pub node_uses : Expr-F Uses → Role → Uses
node_uses x (Named z) as' = wants (length x.args) (find_last z as') && all_use x.args as'
node_uses x (Held z) as' = all_use x.args as'
node_uses x (Lets ds) as' = lets_use ds x.binds x.args as'
node_uses x (Plain_role ms) as' = shaped x.op (length x.args) && all_use x.args as'

abbrev pub uses_known : Expr → Uses
uses_known = fold-Expr Uses (λ x. node_uses x (role x.op (length x.binds)))

abbrev pub definitions_known : List Def → Arities → Bool
definitions_known [] as' = true
definitions_known (d ∷ ds) as' = uses_known (with_lambdas d.body) (with_params d.params as') && definitions_known ds (as' ++ (d.name, length d.params) ∷ [])

-- the numbers of parameters of all definitions
abbrev pub arities_of : List Def → Arities → Arities
arities_of [] as' = as'
arities_of (d ∷ ds) as' = arities_of ds (as' ++ (d.name, length d.params) ∷ [])

-- each use in the assumptions too
abbrev pub are_known : Flat → Bool
are_known flat =
    definitions_known flat.defs [] && list_all (λ e. uses_known (with_lambdas e) (arities_of flat.defs [])) flat.assumes
