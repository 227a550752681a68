-- Definitions written out at their uses.
use Rattle.std.specs.Prelude.{ℕ, zero, suc, ◌/◌, ◌%◌, Bool, true, false, List, [], ◌∷◌, ◌++◌, map, zip, length, take, drop, Option, Some, None}
use Rattle.tla_meaning.specs.declared.expr.Def.{Def}
use Rattle.tla_meaning.specs.declared.expr.Expr.{Expr, roll-Expr}
use Rattle.tla_meaning.specs.declared.expr.Expr.TheOpen.{Expr-F}
use Rattle.tla_meaning.specs.declared.expr.Expr.TheFolds.{fold-Expr}
use Rattle.tla_meaning.specs.declared.modules.Flat.{Flat}
use Rattle.tla_meaning.specs.declared.op.Op.{Op}
use Rattle.tla_meaning.specs.declared.op.Op.TheVariants as op
use Rattle.tla_meaning.specs.declared.place.Place.{Place}
use Rattle.tla_meaning.specs.Meaning.{Role, Named, Held, Lets, Plain_role, role}
use Rattle.tla_meaning.specs.Scopes.{find_last}
use Rattle.op_inliner.specs.Annotations.{body_of}

-- a tree, where this many binders stand around it
abbrev pub Tree : Type 0
Tree = ℕ → Expr

-- what names stand for in trees: bound names for their new names, and parameters and definitions for trees, given
-- those of their arguments
pub record Names : Type 0 where
  pub bound : List (List ℕ × List ℕ)
  pub named : List (List ℕ × (List Tree → Tree))

-- the tree that an expression becomes
abbrev pub Writing : Type 0
Writing = Names → Tree

-- the name of a bound name at a binder with n binders around it: no two binders of a path share one. The number comes
-- first, in a form that is text below 65,536
abbrev pub level_name : ℕ → List ℕ → List ℕ
level_name n x = n / 256 ∷ n % 256 ∷ x

abbrev pub level_names : ℕ → List (List ℕ) → List (List ℕ)
level_names n xs = map (level_name n) xs

abbrev pub bind_names : ℕ → List (List ℕ) → Names → Names
bind_names n xs ns = record ns { bound = ns.bound ++ zip xs (level_names n xs) }

abbrev pub define_name : List ℕ → (List Tree → Tree) → Names → Names
define_name x d ns = record ns { named = ns.named ++ (x, d) ∷ [] }

-- each parameter stands for its argument
abbrev pub pass_names : List (List ℕ) → List Tree → Names → Names
pass_names xs as' ns = record ns { named = ns.named ++ zip xs (map (λ a. λ _. a) as') }

-- a name that stands for nothing
abbrev pub lost : Place → Expr
lost p = roll-Expr (record { place = p; op = op.Use []; args = []; binds = [] })

abbrev pub called : Place → Option (List Tree → Tree) → List Tree → Tree
called p None as' n = lost p
called p (Some d) as' n = d as' n

abbrev pub new_name : Option (List ℕ) → List ℕ
new_name None = []
new_name (Some y) = y

abbrev pub rename_held : List ℕ → Op → Op
rename_held y (op.Bound x) = op.Bound y
rename_held y o = o

-- the children in the node's scope, and those under its bound names
abbrev pub children : List Bool → List Writing → Names → Names → ℕ → List Expr
children ms [] here under n = []
children [] (k ∷ ks) here under n = k here n ∷ children [] ks here under n
children (true ∷ ms) (k ∷ ks) here under n = k under (suc n) ∷ children ms ks here under n
children (false ∷ ms) (k ∷ ks) here under n = k here n ∷ children ms ks here under n

abbrev pub trees : List Writing → Names → List Tree
trees ks ns = map (λ k. k ns) ks

abbrev pub tree_at : Place → ℕ → List Tree → Tree
tree_at p i [] n = lost p
tree_at p zero (t ∷ ts) n = t n
tree_at p (suc i) (t ∷ ts) n = tree_at p i ts n

-- the definitions of a LET
abbrev pub let_names : List (List ℕ × ℕ) → List (List ℕ) → List Writing → Names → Names
let_names (d ∷ ds) xs (k ∷ ks) ns =
    let_names ds (drop d.1 xs) ks (define_name d.0 (λ as'. k (pass_names (take d.1 xs) as' ns)) ns)
let_names ds xs ks ns = ns

abbrev pub write : Expr-F Writing → Role → Writing
write x (Named z) ns n = called x.place (find_last z ns.named) (trees x.args ns) n
write x (Held z) ns n =
    roll-Expr (record { place = x.place; op = rename_held (new_name (find_last z ns.bound)) x.op; args = children [] x.args ns ns n; binds = x.binds })
write x (Lets ds) ns n = tree_at x.place (length ds) (trees x.args (let_names ds x.binds x.args ns)) n
write x (Plain_role ms) ns n =
    roll-Expr (record { place = x.place; op = x.op; args = children ms x.args ns (bind_names n x.binds ns) n; binds = level_names n x.binds })

-- the expression with each use of a name written out
unfoldable pub written : Expr → Writing
written = fold-Expr Writing (λ x. write x (role x.op (length x.binds)))

-- each definition stands for its body, over the definitions before it and with the arguments for its parameters
abbrev pub with_names : List Def → Names → Names
with_names [] ns = ns
with_names (d ∷ ds) ns = with_names ds (define_name d.name (λ as'. written (body_of d) (pass_names d.params as' ns)) ns)

abbrev pub no_names : Names
no_names = record { bound = []; named = [] }

abbrev pub names_of_module : Flat → Names
names_of_module flat = with_names flat.defs no_names

-- the tree that a name of the module stands for at a place
abbrev pub written_of : Flat → Place → List ℕ → Expr
written_of flat p x = called p (find_last x (names_of_module flat).named) [] 0
