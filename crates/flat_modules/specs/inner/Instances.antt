-- What an INSTANCE brings in, as the code makes it.
use Rattle.std.specs.Prelude.{◌≡◌, ◌++◌, ◌&&◌, ℕ, Bool, false, not, List, [], map, filter, Option, None, Some}
use Rattle.tla_meaning.specs.declared.expr.Expr.{Expr, out-Expr}
use Rattle.tla_meaning.specs.declared.symbols.Entry.{Entry}
use Rattle.tla_meaning.specs.declared.symbols.Kind.{Kind}
use Rattle.tla_meaning.specs.declared.symbols.Kind.TheVariants.{Member}
use Rattle.tla_meaning.specs.Flattening.{instance_prefix, private_prefix, replaced}
use Rattle.tla_meaning.specs.Flattening as flat
use Rattle.tla_meaning.specs.Resolving.{resolved_in}
use Rattle.tla_meaning.specs.Scopes.{find_last}
use Rattle.tla_meaning.specs.Symbols.{entry_of, is_declaration, is_instance_name}
use Rattle.flat_modules.specs.declared.instances.Instance.{Instance}
use Rattle.flat_modules.specs.declared.instances.InstanceParts.{InstanceParts}

-- the parts of a copy, whose names of WITH's expressions begin so
pub record IsInstance (parts : InstanceParts) (k : flat.Copy) : Type 0 where
  pub prefix : parts.prefix.items ≡ k.prefix
  pub way : parts.way.items ≡ k.way
  pub with_prefix : parts.with_prefix.items ≡ k.prefix ++ private_prefix k

-- the copy that these parts make where these names are in scope around it
abbrev pub from_outside : InstanceParts → List Entry → Instance → flat.Copy
from_outside parts es u = record {
  name = u.module.now;
  prefix = parts.prefix.items;
  way = parts.way.items;
  meant = λ x. replaced (parts.with_prefix.items ++ x) es (entry_of x es) (find_last x u.with.now);
  root = false;
}

-- what comes in under a name is a member of it
abbrev pub member_kind : Option (List ℕ) → Kind → Kind
member_kind None k = k
member_kind (Some i) k = Member

-- whether a name inside is brought in
abbrev pub brought : Option (List ℕ) → Entry → Bool
brought None e = e.exported && not (is_declaration e.kind)
brought (Some i) e = e.exported && not (is_declaration e.kind) && not (is_instance_name e.kind)

-- a name inside as it is seen outside
abbrev pub renamed : Option (List ℕ) → Bool → Entry → Entry
renamed i local e = record e { name = instance_prefix i ++ e.name; kind = member_kind i e.kind; exported = not local }

abbrev pub brought_names : Option (List ℕ) → Bool → List Entry → List Entry
brought_names i local inside = map (renamed i local) (filter (brought i) inside)

-- the definition that an expression of WITH is
abbrev pub with_body : List ℕ → List ℕ × Expr → Expr → flat.Item
with_body prefix c e = flat.Defines (record { name = prefix ++ c.0; place = (out-Expr c.1).place; params = []; note = []; body = e })

abbrev pub with_item : List ℕ → List Entry → List ℕ × Expr → flat.Item
with_item prefix es c = with_body prefix c (resolved_in es c.1).tree
