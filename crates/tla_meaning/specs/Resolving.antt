-- Expressions with each name's symbol in its place, and what is wrong with the names in them (Specifying Systems, section
-- 17.3).
use Rattle.std.specs.Prelude.{ℕ, suc, ◌+◌, ◌==◌, ◌&&◌, Bool, true, false, List, [], ◌∷◌, ◌++◌, map, length, replicate, take, drop, flat_map, codes, Option, Some, None, if◌then◌else◌}
use Rattle.tla_meaning.specs.declared.expr.Expr.{Expr, roll-Expr}
use Rattle.tla_meaning.specs.declared.expr.Expr.TheFolds.{fold-Expr}
use Rattle.tla_meaning.specs.declared.op.Form.TheVariants.{Recursive}
use Rattle.tla_meaning.specs.declared.op.Op.{Op}
use Rattle.tla_meaning.specs.declared.op.Op.TheVariants as op
use Rattle.tla_meaning.specs.declared.place.Place.{Place}
use Rattle.tla_meaning.specs.declared.symbols.Entry.{Entry}
use Rattle.tla_meaning.specs.declared.symbols.Kind.TheVariants.{Announcement}
use Rattle.tla_meaning.specs.declared.symbols.Misuse.{Misuse}
use Rattle.tla_meaning.specs.declared.symbols.Misuse.TheVariants.{Arity, Unknown}
use Rattle.tla_meaning.specs.Meaning.{Role, Named, Held, Lets, Plain_role, role}
use Rattle.tla_meaning.specs.Symbols.{all_repeated, bound, entry_of, inner_name, is_instance_name, origin_over, parameter}

-- the expression with its names resolved, and the misuses in it
pub record Resolved : Type 0 where
  pub tree : Expr
  pub misuses : List Misuse

-- an expression in a scope, where so many arguments stand beside its own
pub record Resolver : Type 0 where
  -- whether it is a function
  pub function : Bool
  pub resolve : ℕ → List Entry → Resolved

-- a use of a name with so many arguments
abbrev pub misused : Place → List ℕ → ℕ → Option Entry → List Misuse
misused p x n None = Unknown x p ∷ []
misused p x n (Some e) =
    if is_instance_name e.kind then Unknown x p ∷ [] else (if n == e.arity then [] else Arity p n e.arity ∷ [])

abbrev pub op_of : Op → Option Entry → Op
op_of o None = o
op_of o (Some e) = e.stands

-- ---- definitions, of a module or of a LET

-- the use of a name that is announced, before its definition or inside it
abbrev pub announced : Place → List ℕ → ℕ → Entry
announced p x n = record { name = x; kind = Announcement; place = p; origin = origin_over p []; stands = op.Outside Recursive; arity = n; exported = false }

-- the scope of a definition's body, in which the definition itself may be announced
abbrev pub itself : Place → List ℕ → ℕ → Bool → List Entry
itself p x n own = if own then announced p x n ∷ [] else []

abbrev pub body_scope : List Entry → Place → List ℕ → List (List ℕ) → ℕ → Bool → List Entry
body_scope es p x params n own = es ++ itself p x n own ++ map (parameter p) params

-- a definition's name and parameters, where they repeat names in scope
abbrev pub definition_repeats : List Entry → Entry → Place → List (List ℕ) → List Misuse
definition_repeats es e p params = all_repeated es (e ∷ []) ++ all_repeated es (map (parameter p) params)

-- a definition of a LET
abbrev pub let_name : Place → List ℕ × ℕ → Entry
let_name p d = inner_name p d.0 d.1 (op.Use d.0)

-- ---- the children of a node, each in its scope

-- where so many arguments stand beside those of the first
abbrev pub first_with : ℕ → List Entry → List Resolver → List Resolved
first_with n es [] = []
first_with n es (k ∷ ks) = k.resolve n es ∷ first_with 0 es ks

abbrev pub all_in : List Entry → List Resolver → List Resolved
all_in es ks = first_with 0 es ks

-- those that are marked see the bound names
abbrev pub marked_in : List Entry → List Entry → List Bool → List Resolver → List Resolved
marked_in es fs ms [] = []
marked_in es fs [] (k ∷ ks) = k.resolve 0 es ∷ marked_in es fs [] ks
marked_in es fs (true ∷ ms) (k ∷ ks) = k.resolve 0 (es ++ fs) ∷ marked_in es fs ms ks
marked_in es fs (false ∷ ms) (k ∷ ks) = k.resolve 0 es ∷ marked_in es fs ms ks

-- each definition of a LET sees those before it, a function itself too, and the expression after IN sees all
abbrev pub let_in : Place → List Entry → List (List ℕ × ℕ) → List (List ℕ) → List Resolver → List Resolved
let_in p es (d ∷ ds) xs (k ∷ ks) =
    k.resolve 0 (body_scope es p d.0 (take d.1 xs) d.1 (d.1 == 0 && k.function)) ∷ let_in p (es ++ let_name p d ∷ []) ds (drop d.1 xs) ks
let_in p es ds xs ks = all_in es ks

abbrev pub let_repeats : Place → List Entry → List (List ℕ × ℕ) → List (List ℕ) → List Misuse
let_repeats p es [] xs = []
let_repeats p es (d ∷ ds) xs =
    definition_repeats es (let_name p d) p (take d.1 xs) ++ let_repeats p (es ++ let_name p d ∷ []) ds (drop d.1 xs)

-- a form that is only refused may bind names too: its last child sees them
abbrev pub inner_marks : Op → List (List ℕ) → ℕ → List Bool → List Bool
inner_marks (op.Outside f) (x ∷ xs) (suc n) ms = replicate n false ++ true ∷ []
inner_marks o xs n ms = ms

-- an operator's name in a fold is used with two arguments
abbrev pub children : Place → Op → List (List ℕ) → List Resolver → Role → List Entry → List Resolved
children p op.Fold [] ks r es = first_with 2 es ks
children p o xs ks (Lets ds) es = let_in p es ds xs ks
children p o xs ks (Plain_role ms) es = marked_in es (map (bound p) xs) (inner_marks o xs (length ks) ms) ks
children p o xs ks r es = all_in es ks

-- ---- a node

-- the name that EXCEPT binds is no declaration
abbrev pub declared_by : Op → List (List ℕ) → List (List ℕ)
declared_by (op.Except ns) xs = []
declared_by o xs = xs

-- a fold is an operator of the module Apalache
abbrev pub fold_misused : Place → Op → List Entry → List Misuse
fold_misused p op.Fold es = misused p (codes "ApaFoldSeqLeft") 3 (entry_of (codes "ApaFoldSeqLeft") es)
fold_misused p o es = []

-- what is wrong with the names of the node itself, which has so many arguments
abbrev pub own_misuses : Place → Op → List (List ℕ) → ℕ → Role → List Entry → List Misuse
own_misuses p o xs n (Named x) es = misused p x n (entry_of x es)
own_misuses p o xs n (Held x) es = misused p x 0 (entry_of x es)
own_misuses p o xs n (Lets ds) es = let_repeats p es ds xs
own_misuses p o xs n (Plain_role ms) es = fold_misused p o es ++ all_repeated es (map (bound p) (declared_by o xs))

abbrev pub resolved_op : Op → Role → List Entry → Op
resolved_op o (Named x) es = op_of o (entry_of x es)
resolved_op o r es = o

abbrev pub is_function : Op → Bool
is_function op.Lambda = true
is_function o = false

abbrev pub node_resolver : Place → Op → List (List ℕ) → List Resolver → Role → Resolver
node_resolver p o xs ks r = record {
  function = is_function o;
  resolve = λ more es.
      let inside = children p o xs ks r es in
      record {
        tree = roll-Expr (record { place = p; op = resolved_op o r es; args = map (λ (k : Resolved). k.tree) inside; binds = xs });
        misuses = own_misuses p o xs (length ks + more) r es ++ flat_map (λ (k : Resolved). k.misuses) inside;
      };
}

abbrev pub resolver : Expr → Resolver
resolver = fold-Expr Resolver (λ x. node_resolver x.place x.op x.binds x.args (role x.op (length x.binds)))

abbrev pub resolved_in : List Entry → Expr → Resolved
resolved_in es e = (resolver e).resolve 0 es
