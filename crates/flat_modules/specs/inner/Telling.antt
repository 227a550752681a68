-- What is told of expressions whose names are resolved.
use Rattle.std.specs.Prelude.{◌≡◌, ◌++◌, ◌+◌, ℕ, length, List, [], ◌∷◌, map, flat_map, Result, Ok, Err, Vec, ⊤, Bool, Option, Some, None, if◌then◌else◌}
use Rattle.std.specs.declared.alloc.AllocError.{AllocError}
use Rattle.tla_meaning.specs.Meaning.{role}
use Rattle.tla_meaning.specs.Resolving.{Resolved, announced, let_repeats, own_misuses}
use Rattle.tla_meaning.specs.Symbols.{least_from, parameter, repeated}
use Rattle.tla_meaning.specs.declared.expr.Expr.{Expr}
use Rattle.tla_meaning.specs.declared.expr.Expr.TheOpen.{Expr-F}
use Rattle.tla_meaning.specs.declared.place.Place.{Place}
use Rattle.tla_meaning.specs.declared.symbols.Entry.{Entry}
use Rattle.tla_meaning.specs.declared.symbols.Misuse.{Misuse}
use Rattle.std.specs.Global.{Global}
use Rattle.flat_modules.specs.declared.resolving.Resolving.{Resolving}

-- the names in scope are as before, and these misuses are told behind what was told before
pub record Told (old new : Resolving) (ms : List Misuse) : Type 0 where
  pub scope : new.scope ≡ old.scope
  pub told : new.told ≡ least_from old.told ms

-- a name more is in scope, and it is told where it repeats one
pub record Declares (old new : Resolving) (e : Entry) : Type 0 where
  pub scope : new.scope ≡ old.scope ++ e ∷ []
  pub told : new.told ≡ least_from old.told (repeated old.scope e)

-- and this tree is answered
abbrev pub Tells : Resolving → Resolving → Resolved → Result Expr AllocError → Type 0
Tells old new r (Ok e) = Told old new r.misuses × (e ≡ r.tree)
Tells old new r (Err e) = ⊤

abbrev pub TellsAll : Resolving → Resolving → List Resolved → Result (Vec Expr Global) AllocError → Type 0
TellsAll old new rs (Ok es) = Told old new (flat_map (λ r. r.misuses) rs) × (es.items ≡ map (λ r. r.tree) rs)
TellsAll old new rs (Err e) = ⊤

-- what is wrong with the names of a node itself
abbrev pub node_misuses : Expr-F Expr → ℕ → List Entry → List Misuse
node_misuses x more es = own_misuses x.place x.op x.binds (length x.args + more) (role x.op (length x.binds)) es

-- a walk over expressions has come to where these are left: what was walked is told, and its trees are there
pub record Walks (old new : Resolving) (made : List Expr) (whole rest : List Resolved) : Type 0 where
  pub done : List Resolved
  pub split : whole ≡ done ++ rest
  pub told : new.told ≡ least_from old.told (flat_map (λ r. r.misuses) done)
  pub trees : made ≡ map (λ r. r.tree) done

-- what is told of the definitions of a LET up to where these are left
pub record TellsLets (old new : Resolving) (p : Place) (ds : List (List ℕ × ℕ)) (xs : List (List ℕ)) (more : List (List ℕ × ℕ)) (rest : List (List ℕ)) : Type 0 where
  pub done : List Misuse
  pub split : let_repeats p old.scope ds xs ≡ done ++ let_repeats p new.scope more rest
  pub told : new.told ≡ least_from old.told done

-- where a definition is announced inside itself, with how many parameters
abbrev pub own_count : ℕ → Bool → Option ℕ
own_count n own = if own then Some n else None

abbrev pub own_scope : List Entry → Place → List ℕ → List (List ℕ) → Option ℕ → List Entry
own_scope es p x params None = es ++ [] ++ map (parameter p) params
own_scope es p x params (Some n) = es ++ (announced p x n ∷ []) ++ map (parameter p) params
