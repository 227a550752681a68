-- What the visit of a tree adds to what is gathered.
use Rattle.std.specs.Prelude.{ℕ, ◌≡◌, ◌+◌, List, [], ◌∷◌, ◌++◌, get_or, length, map, Option}
use Rattle.tla_meaning.specs.declared.expr.Expr.{Expr, out-Expr}
use Rattle.snowcat_rows.specs.declared.types.Ty.{Ty}
use Rattle.snowcat_rows.specs.Types.{Term, mean}
use Rattle.snowcat_types.specs.declared.gathering.Names.{Names}
use Rattle.snowcat_types.specs.declared.trees.Gathering.{Gathering}
use Rattle.snowcat_types.specs.declared.trees.Seen.{Seen}
use Rattle.snowcat_types.specs.declared.trees.AllSeen.{AllSeen}
use Rattle.snowcat_types.specs.declared.trees.Opened.{Opened}
use Rattle.snowcat_types.specs.Waiting.{literal_of, waiting}
use Rattle.snowcat_types.specs.Systems.{Entry, Asks, Found, Children, all_types, all_entries, all_wait, behind, count_declared, declared_types, sights, operands_meet, fields_asked, visits}
use Rattle.snowcat_types.specs.inner.Built.{means, operand_of, context_of, row_at, unknown_from}
use Rattle.snowcat_types.specs.inner.Gathered.{entries_of, requirements_of}

-- what is known around, and the parts that are done
pub record Stays (old new : Gathering) : Type 0 where
  pub notes : new.around.notes ≡ old.around.notes
  pub bound : new.around.bound.items ≡ old.around.bound.items
  pub parts : new.parts.items ≡ old.parts.items

-- these types and entries are added
pub record Adds (old new : Gathering) (types : List Term) (entries : List Entry) : Type 0 where
  pub types_are : means new.types.items ≡ means old.types.items ++ types
  pub entries_are : entries_of new.entries.items ≡ entries_of old.entries.items ++ entries
  pub stays : Stays old new

-- what is found of the tree is added, and its node is seen
pub record Visited (old new : Gathering) (f : Found) (s : Seen) : Type 0 where
  pub next_is : new.next ≡ f.next
  pub adds : Adds old new f.types f.entries
  pub type_is : mean s.of ≡ f.type
  pub sight_is : s.sight ≡ f.sight

-- the node has its type, and the unknown types of its row
pub record IsOpened (old new : Gathering) (e : Expr) (o : Opened) : Type 0 where
  pub place_is : o.at ≡ length old.types.items
  pub first_is : o.first ≡ old.next
  pub operands_are : map operand_of o.operands ≡ ((row_at (context_of old.around) e).says (unknown_from old.next)).operands
  pub next_is : new.next ≡ old.next + (row_at (context_of old.around) e).unknowns
  pub adds : Adds old new (((row_at (context_of old.around) e).says (unknown_from old.next)).result ∷ []) []

-- what it asks and the nodes that wait are added behind its children
pub record IsClosed (old new : Gathering) (e : Expr) (o : Opened) (k : AllSeen) (s : Seen) : Type 0 where
  pub next_is : new.next ≡ old.next
  pub adds : Adds old new []
      (Asks (out-Expr e).place (operands_meet (map operand_of o.operands) (means k.types.items) ++ fields_asked (out-Expr e).op o.first)
      ∷ all_wait (waiting (out-Expr e).place (out-Expr e).op o.first k.sights.items))
  pub type_is : s.of ≡ get_or old.types.items o.at s.of
  pub sight_is : s.sight ≡ record { place = (out-Expr e).place; literal = literal_of (out-Expr e).op k.sights.items }

-- since the node was opened some of the children are visited, and the rest is left
pub record Walked (start now : Gathering) (k : AllSeen) (whole rest : Children) : Type 0 where
  pub next_is : whole.next ≡ rest.next
  pub types_are : means now.types.items ++ all_types rest.found ≡ means start.types.items ++ all_types whole.found
  pub entries_are : entries_of now.entries.items ++ all_entries rest.found ≡ entries_of start.entries.items ++ all_entries whole.found
  pub types_seen : means k.types.items ++ map (λ f. f.type) rest.found ≡ map (λ f. f.type) whole.found
  pub sights_seen : k.sights.items ++ sights rest.found ≡ sights whole.found
  pub stays : Stays start now

-- the trees are parts that are added
pub record AddsParts (old new : Gathering) (es : List Expr) : Type 0 where
  pub next_is : new.next ≡ behind old.next (visits (context_of old.around) es old.next)
  pub parts_are : map means new.parts.items ≡ map means old.parts.items ++ map (λ f. f.types) (visits (context_of old.around) es old.next)
  pub entries_are : entries_of new.entries.items ≡ entries_of old.entries.items ++ all_entries (visits (context_of old.around) es old.next)
  pub notes : new.around.notes ≡ old.around.notes
  pub bound : new.around.bound.items ≡ old.around.bound.items

-- ---- declared names

abbrev pub declared_of : List (Ty × ℕ) → List (Term × ℕ)
declared_of xs = map (λ x. (mean x.0, x.1)) xs

-- what is asked of the declared names, and the first unknown type behind those of their annotations
pub record AreDeclared (declared : List (Ty × ℕ)) (n : Names) : Type 0 where
  pub asked_are : requirements_of n.asked.items ≡ declared_types 0 (length declared) (declared_of declared)
  pub next_is : n.next ≡ length declared + count_declared (declared_of declared)

-- nothing is gathered yet
pub record IsStart (g : Gathering) (notes : List (List ℕ × Option Ty)) (next : ℕ) : Type 0 where
  pub notes_are : g.around.notes ≡ notes
  pub bound_are : g.around.bound.items ≡ []
  pub next_is : g.next ≡ next
  pub entries_are : g.entries.items ≡ []
  pub parts_are : g.parts.items ≡ []
