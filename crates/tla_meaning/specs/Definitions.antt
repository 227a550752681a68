-- What the definitions of a flat module stand for (Specifying Systems, sections 17.1 and 17.5).
use Rattle.std.specs.Prelude.{ℕ, List, [], ◌∷◌}
use Rattle.tla_meaning.specs.declared.expr.Def.{Def}
use Rattle.tla_meaning.specs.declared.expr.Expr.{Expr}
use Rattle.tla_meaning.specs.declared.modules.Flat.{Flat}
use Rattle.tla_meaning.specs.declared.place.Place.{Place}
use Rattle.tla_meaning.specs.Actions.{meaning}
use Rattle.tla_meaning.specs.Executions.{no_scope}
use Rattle.tla_meaning.specs.Folds.{with_lambdas}
use Rattle.tla_meaning.specs.Numbers.{Width}
use Rattle.tla_meaning.specs.Scopes.{Scope, Denotation, define, find_last, pass, stands_for}

-- each definition stands for its body, over the definitions before it and with its parameters for the arguments
abbrev pub with_definitions : Width → List Def → Scope → Scope
with_definitions w [] sc = sc
with_definitions w (d ∷ ds) sc =
    with_definitions w ds (define d.name (λ arguments. meaning w (with_lambdas d.body) (pass d.params arguments sc)) sc)

-- the scope of a flat module
abbrev pub scope_of_module : Width → Flat → Scope
scope_of_module w flat = with_definitions w flat.defs no_scope

-- what a name of the module stands for at a place
abbrev pub defined_as : Width → Flat → Place → List ℕ → Denotation
defined_as w flat p x = stands_for p (find_last x (scope_of_module w flat).named) []

-- what an assumption of the module stands for
abbrev pub assumed_as : Width → Flat → Expr → Denotation
assumed_as w flat e = meaning w (with_lambdas e) (scope_of_module w flat)
