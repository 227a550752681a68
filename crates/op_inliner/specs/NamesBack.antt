-- Bound names given back: each keeps its name, unless it would capture an outer one.
use Rattle.std.specs.Prelude.{ℕ, suc, ◌-◌, Bool, true, false, List, [], ◌∷◌, ◌++◌, map, zip, length, replicate, Option, Some, None, nat_lt, if◌then◌else◌}
use Rattle.std.specs.List.{list_any}
use Rattle.tla_meaning.specs.declared.expr.Expr.{Expr, roll-Expr}
use Rattle.tla_meaning.specs.declared.expr.Expr.TheOpen.{Expr-F}
use Rattle.tla_meaning.specs.declared.expr.Expr.TheFolds.{fold-Expr}
use Rattle.tla_meaning.specs.Meaning.{Role, Named, Held, Lets, Plain_role, role}
use Rattle.tla_meaning.specs.Scopes.{find_last, same_text}
use Rattle.op_inliner.specs.Inlining.{rename_held}
use Rattle.tla_meaning.specs.Renamings.{Renaming}

abbrev pub among : List ℕ → List (List ℕ) → Bool
among x xs = list_any (same_text x) xs

abbrev pub without : List (List ℕ) → List (List ℕ) → List (List ℕ)
without xs [] = []
without xs (y ∷ ys) = if among y xs then without xs ys else y ∷ without xs ys

abbrev pub longest : List (List ℕ) → ℕ
longest [] = 0
longest (y ∷ ys) = if nat_lt (longest ys) (length y) then length y else longest ys

-- the name with as many apostrophes as make it longer than all of these
abbrev pub longer_name : List ℕ → List (List ℕ) → List ℕ
longer_name x ys = x ++ replicate (suc (longest ys) - length x) 39

-- the name itself where it is not taken, else one that is longer than all that are taken and all that stand there
abbrev pub free_name : List (List ℕ) → List ℕ → List (List ℕ) → List ℕ
free_name there x taken = if among x taken then longer_name x (taken ++ there) else x

-- the name of which a name of a level was made
abbrev pub own_name : List ℕ → List ℕ
own_name [] = []
own_name (n ∷ []) = []
own_name (n ∷ m ∷ x) = x

abbrev pub own_names : List (List ℕ) → List (List ℕ)
own_names xs = map own_name xs

abbrev pub free_names : List (List ℕ) → List (List ℕ) → List (List ℕ) → List (List ℕ)
free_names there [] taken = []
free_names there (x ∷ xs) taken = let y = free_name there (own_name x) taken in y ∷ free_names there xs (y ∷ taken)

pub record Open : Type 0 where
  -- the names that a tree reads and does not bind
  pub reads : List (List ℕ)
  -- the names that it binds, by their own names
  pub binds : List (List ℕ)
  -- the tree with what it reads renamed, where the binders around it have these names now
  pub back : Renaming → List (List ℕ) → Expr

-- the names that children read under the bound names of their node, and those that the others read
abbrev pub inner_reads : List Bool → List Open → List (List ℕ)
inner_reads ms [] = []
inner_reads [] (k ∷ ks) = inner_reads [] ks
inner_reads (true ∷ ms) (k ∷ ks) = k.reads ++ inner_reads ms ks
inner_reads (false ∷ ms) (k ∷ ks) = inner_reads ms ks

abbrev pub outer_reads : List Bool → List Open → List (List ℕ)
outer_reads ms [] = []
outer_reads [] (k ∷ ks) = k.reads ++ outer_reads [] ks
outer_reads (true ∷ ms) (k ∷ ks) = outer_reads ms ks
outer_reads (false ∷ ms) (k ∷ ks) = k.reads ++ outer_reads ms ks

abbrev pub all_binds : List Open → List (List ℕ)
all_binds [] = []
all_binds (k ∷ ks) = k.binds ++ all_binds ks

-- the children, with these renamings and these names around them, outside and inside
abbrev pub backs : List Bool → List Open → Renaming → List (List ℕ) → Renaming → List (List ℕ) → List Expr
backs ms [] f r g u = []
backs [] (k ∷ ks) f r g u = k.back f r ∷ backs [] ks f r g u
backs (true ∷ ms) (k ∷ ks) f r g u = k.back g u ∷ backs ms ks f r g u
backs (false ∷ ms) (k ∷ ks) f r g u = k.back f r ∷ backs ms ks f r g u

abbrev pub either_name : Option (List ℕ) → List ℕ → List ℕ
either_name None x = x
either_name (Some y) x = y

-- these names renamed to those, and every other one as before
abbrev pub renamed_to : List (List ℕ) → List (List ℕ) → Renaming → Renaming
renamed_to xs ys f z = either_name (find_last z (zip xs ys)) (f z)

-- the new names of a node's bound names: none is the new name of another name that is read under them, and one that
-- is not a name's own is longer than all that the node binds and all around it
abbrev pub new_names : List Bool → List (List ℕ) → List Open → Renaming → List (List ℕ) → List (List ℕ)
new_names ms xs ks f around = free_names (own_names xs ++ all_binds ks ++ around) xs (map f (without xs (inner_reads ms ks)))

abbrev pub open_node : Expr-F Open → Role → Open
open_node x (Named z) = record {
  reads = outer_reads [] x.args;
  binds = all_binds x.args;
  back = λ f r. roll-Expr (record { place = x.place; op = x.op; args = backs [] x.args f r f r; binds = x.binds });
}
open_node x (Held z) = record {
  reads = z ∷ outer_reads [] x.args;
  binds = all_binds x.args;
  back = λ f r. roll-Expr (record { place = x.place; op = rename_held (f z) x.op; args = backs [] x.args f r f r; binds = x.binds });
}
open_node x (Lets ds) = record {
  reads = outer_reads [] x.args;
  binds = all_binds x.args;
  back = λ f r. roll-Expr (record { place = x.place; op = x.op; args = backs [] x.args f r f r; binds = x.binds });
}
open_node x (Plain_role ms) = record {
  reads = outer_reads ms x.args ++ without x.binds (inner_reads ms x.args);
  binds = own_names x.binds ++ all_binds x.args;
  back = λ f r.
      let ys = new_names ms x.binds x.args f r in
      roll-Expr (record { place = x.place; op = x.op; args = backs ms x.args f r (renamed_to x.binds ys f) (r ++ ys); binds = ys });
}

unfoldable pub opened : Expr → Open
opened = fold-Expr Open (λ x. open_node x (role x.op (length x.binds)))

-- a tree that reads no bound name from outside, with its names given back
abbrev pub with_names_back : Expr → Expr
with_names_back e = (opened e).back (λ x. x) []
