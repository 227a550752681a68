-- Bound names renamed.
use Rattle.std.specs.Prelude.{◌≡◌, ℕ, List, map, length}
use Rattle.tla_meaning.specs.declared.op.Op.{Op}
use Rattle.tla_meaning.specs.declared.op.Op.TheVariants as op
use Rattle.tla_meaning.specs.declared.expr.Expr.{Expr, roll-Expr}
use Rattle.tla_meaning.specs.declared.expr.Expr.TheOpen.{Expr-F}
use Rattle.tla_meaning.specs.declared.expr.Expr.TheFolds.{fold-Expr}
use Rattle.tla_meaning.specs.Scopes.{Scope, find_last, same_text}
use Rattle.tla_meaning.specs.Meaning.{Role, Named, Held, Lets, Plain_role, role}

abbrev pub Renaming : Type 0
Renaming = List ℕ → List ℕ

-- two names are the same afterwards exactly where they were before
abbrev pub OneToOne : Renaming → Type 0
OneToOne ρ = (x y : List ℕ) → same_text (ρ x) (ρ y) ≡ same_text x y

abbrev pub rename_op : Renaming → Op → Op
rename_op ρ (op.Bound x) = op.Bound (ρ x)
rename_op ρ o = o

abbrev pub rename_role : Renaming → Role → Role
rename_role ρ (Named x) = Named x
rename_role ρ (Held x) = Held (ρ x)
rename_role ρ (Lets ds) = Lets ds
rename_role ρ (Plain_role ms) = Plain_role ms

-- the parameters of a LET are no bound names
abbrev pub rename_binds : Renaming → Role → List (List ℕ) → List (List ℕ)
rename_binds ρ (Lets ds) xs = xs
rename_binds ρ (Named x) xs = xs
rename_binds ρ (Held x) xs = xs
rename_binds ρ (Plain_role ms) xs = map ρ xs

abbrev pub rename_layer : Renaming → Expr-F Expr → Expr-F Expr
rename_layer ρ x = record { place = x.place; op = rename_op ρ x.op; args = x.args; binds = rename_binds ρ (role x.op (length x.binds)) x.binds }

-- the tree with each bound name renamed, where it is bound and where it is read
abbrev pub rename : Renaming → Expr → Expr
rename ρ = fold-Expr Expr (λ x. roll-Expr (rename_layer ρ x))

-- the first scope has under its new name what the second has under the old one, and the same definitions
abbrev pub Renames : Renaming → Scope → Scope → Type 0
Renames ρ a b =
    ((x : List ℕ) → find_last (ρ x) a.bound ≡ find_last x b.bound)
    × ((x : List ℕ) → find_last x a.named ≡ find_last x b.named)
