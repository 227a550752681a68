-- The flat module of a root: what the root has with all that EXTENDS and INSTANCE bring in (Specifying Systems, sections
-- 4.1, 4.2, 17.5 and 17.8).
use Rattle.std.specs.Prelude.{ℕ, zero, suc, Bool, true, false, not, ◌==◌, ◌&&◌, ◌||◌, List, [], ◌∷◌, ◌++◌, map, filter, flat_map, length, codes, Option, Some, None, if◌then◌else◌}
use Rattle.std.specs.List.{list_any}
use Rattle.tla_meaning.specs.declared.expr.Decl.{Decl}
use Rattle.tla_meaning.specs.declared.expr.Def.{Def}
use Rattle.tla_meaning.specs.declared.expr.Expr.{Expr, out-Expr}
use Rattle.tla_meaning.specs.declared.modules.Flat.{Flat}
use Rattle.tla_meaning.specs.declared.modules.Module.{Module}
use Rattle.tla_meaning.specs.declared.modules.Unit as modules
use Rattle.tla_meaning.specs.declared.modules.Unit.TheVariants as unit
use Rattle.tla_meaning.specs.declared.op.Op.{Op}
use Rattle.tla_meaning.specs.declared.op.Op.TheVariants as op
use Rattle.tla_meaning.specs.declared.place.Place.{Place}
use Rattle.tla_meaning.specs.declared.symbols.Entry.{Entry}
use Rattle.tla_meaning.specs.declared.symbols.Kind.TheVariants.{Declaration, Definition, InstanceName, Member}
use Rattle.tla_meaning.specs.declared.symbols.Misuse.{Misuse}
use Rattle.tla_meaning.specs.declared.symbols.Misuse.TheVariants.{Twice, Unknown}
use Rattle.tla_meaning.specs.Jobs.{in_state_order}
use Rattle.tla_meaning.specs.Resolving.{Resolved, announced, body_scope, definition_repeats, is_function, misused, resolved_in}
use Rattle.tla_meaning.specs.Scopes.{find_last, same_text}
use Rattle.tla_meaning.specs.StandardModules.{standard_module}
use Rattle.tla_meaning.specs.Symbols.{all_repeated, entry_of, is_announced, is_declaration, is_instance_name, least_from, origin_over, outside, place_bytes, same_place, with_new}

-- the modules of a root by their names, in the order in which they are read
abbrev pub Modules : Type 0
Modules = List (List ℕ × Module)

-- ---- a module as the root has it

-- what a declared name stands for, and its origin
abbrev pub Meant : Type 0
Meant = Op × List ℕ

pub record Copy : Type 0 where
  pub name : List ℕ
  -- what the names of its definitions begin with in the flat module
  pub prefix : List ℕ
  -- the places of the INSTANCEs on the way to it
  pub way : List ℕ
  -- what its declared names stand for
  pub meant : List ℕ → Option Meant
  -- the root's own LOCAL names are seen, since nothing mentions it
  pub root : Bool

-- what begins a name of this copy alone, which no text spells
abbrev pub private_prefix : Copy → List ℕ
private_prefix k = k.name ++ k.way ++ 0 ∷ []

abbrev pub local_prefix : Copy → Bool → List ℕ
local_prefix k local = if local && not k.root then private_prefix k else []

abbrev pub flat_name : Copy → Bool → List ℕ → List ℕ
flat_name k local x = k.prefix ++ local_prefix k local ++ x

-- ---- what is known of a module

-- a declaration, a definition or an assumption of the flat module
pub data Item : Type 0 where
  Declares : Decl → Item
  Defines : Def → Item
  Assumes : Expr → Item

-- one item, although it came on two ways
abbrev pub same_item : Item → Item → Bool
same_item (Declares d) (Declares e) = same_text d.name e.name
same_item (Defines d) (Defines e) = same_text d.name e.name
same_item (Assumes a) (Assumes b) = same_place (out-Expr a).place (out-Expr b).place
same_item i j = false

-- more items, but for those that are there
abbrev pub with_items : List Item → List Item → List Item
with_items is [] = is
with_items is (j ∷ js) = with_items (if list_any (same_item j) is then is else is ++ j ∷ []) js

-- the names in scope, what the module brings into the flat module, and what is wrong with the names of its text
pub record Known : Type 0 where
  pub names : List Entry
  pub items : List Item
  pub misuses : List Misuse

abbrev pub nothing_known : Known
nothing_known = record { names = []; items = []; misuses = [] }

abbrev pub know : Known → List Entry → List Item → List Misuse → Known
know s es is ms = record { names = with_new s.names es; items = with_items s.items is; misuses = s.misuses ++ ms }

-- ---- declarations and definitions

-- the origins of the declared names in scope
abbrev pub declared_origins : List Entry → List ℕ
declared_origins es = flat_map (λ (e : Entry). if is_declaration e.kind then e.origin else []) es

-- the origin of what stands at a place, where these names are in scope
abbrev pub origin_at : Place → List Entry → List ℕ
origin_at p es = origin_over p (declared_origins es)

abbrev pub or_itself : Decl → Option Meant → Meant
or_itself d None = (op.Use d.name, origin_over d.place [])
or_itself d (Some m) = m

abbrev pub declared : Copy → Decl → Entry
declared k d =
    let m = or_itself d (k.meant d.name) in
    record { name = d.name; kind = Declaration; place = d.place; origin = m.1; stands = m.0; arity = 0; exported = true }

abbrev pub defined : Copy → List Entry → Def → Bool → Entry
defined k es d local = record {
  name = d.name;
  kind = Definition;
  place = d.place;
  origin = origin_at d.place es;
  stands = op.Use (flat_name k local d.name);
  arity = length d.params;
  exported = not local;
}

-- a definition is announced inside itself where RECURSIVE announces it, and where it is a function
abbrev pub is_own : List Entry → Def → Bool
is_own es d = is_announced (entry_of d.name es) || length d.params == 0 && is_function (out-Expr d.body).op

-- the body of a definition, in the scope before it
abbrev pub resolved_body : List Entry → Def → Resolved
resolved_body es d = resolved_in (body_scope es d.place d.name d.params (length d.params) (is_own es d)) d.body

abbrev pub definition : Copy → List Entry → Def → Bool → Def
definition k es d local = record d { name = flat_name k local d.name; body = (resolved_body es d).tree }

abbrev pub definition_misuses : Copy → List Entry → Def → Bool → List Misuse
definition_misuses k es d local = definition_repeats es (defined k es d local) d.place d.params ++ (resolved_body es d).misuses

-- the names that RECURSIVE announces, but for those that are defined already
abbrev pub is_open : Option Entry → Bool
is_open None = true
is_open (Some e) = is_announced (Some e)

abbrev pub announcements : List Entry → List (List ℕ × ℕ) → List Entry
announcements es xs =
    map (λ (x : List ℕ × ℕ). announced outside x.0 x.1) (filter (λ (x : List ℕ × ℕ). is_open (entry_of x.0 es)) xs)

-- ---- INSTANCE

-- the names that an INSTANCE brings in begin with its own
abbrev pub instance_prefix : Option (List ℕ) → List ℕ
instance_prefix None = []
instance_prefix (Some i) = i ++ codes "!"

-- the expression of WITH that stands for a name of a copy is a definition of its own
abbrev pub with_name : Copy → List ℕ → List ℕ
with_name k x = k.prefix ++ private_prefix k ++ x

abbrev pub meant_by : Option Entry → Option Meant
meant_by None = None
meant_by (Some e) = Some (e.stands, e.origin)

-- what a declared name of the instance stands for: the expression of WITH, or the symbol of the same name
abbrev pub replaced : List ℕ → List Entry → Option Entry → Option Expr → Option Meant
replaced x es symbol None = meant_by symbol
replaced x es symbol (Some e) = Some (op.Use x, origin_at (out-Expr e).place es)

-- a copy of the module, before it is said what its declared names stand for
abbrev pub bare_instance : Copy → Option (List ℕ) → List ℕ → Bool → Place → Copy
bare_instance k i m local p = record {
  name = m;
  prefix = k.prefix ++ local_prefix k local ++ instance_prefix i;
  way = k.way ++ place_bytes p;
  meant = λ x. None;
  root = false;
}

abbrev pub instance : Copy → List Entry → Option (List ℕ) → List ℕ → List (List ℕ × Expr) → Bool → Place → Copy
instance k es i m cs local p =
    let j = bare_instance k i m local p in
    record j { meant = λ x. replaced (with_name j x) es (entry_of x es) (find_last x cs) }

abbrev pub with_item : Copy → List Entry → List ℕ × Expr → Item
with_item j es c =
    Defines (record { name = with_name j c.0; place = (out-Expr c.1).place; params = []; note = []; body = (resolved_in es c.1).tree })

-- an instance brings in its definitions alone
abbrev pub is_definition : Item → Bool
is_definition (Defines d) = true
is_definition i = false

-- the name of the INSTANCE
abbrev pub instance_names : List Entry → Option (List ℕ) → Bool → Place → List Entry
instance_names es None local p = []
instance_names es (Some i) local p =
    record { name = i; kind = InstanceName; place = p; origin = origin_at p es; stands = op.Use i; arity = 0; exported = not local } ∷ []

-- the definitions that it brings in under its name, or else as they are called, with the names of instances among them
abbrev pub instance_entries : Option (List ℕ) → Bool → List Entry → List Entry
instance_entries None local inside =
    map (λ (e : Entry). record e { exported = not local }) (filter (λ (e : Entry). e.exported && not (is_declaration e.kind)) inside)
instance_entries (Some i) local inside =
    map (λ (e : Entry). record e { name = instance_prefix (Some i) ++ e.name; kind = Member; exported = not local })
    (filter (λ (e : Entry). e.exported && not (is_declaration e.kind) && not (is_instance_name e.kind)) inside)

-- each name of WITH is a declared name of the module, and stands there once; its expression is read in the scope outside
abbrev pub with_misuses : Place → List Entry → List Entry → List (List ℕ × Expr) → List Misuse
with_misuses p es inside [] = []
with_misuses p es inside (c ∷ cs) =
    (if list_any (λ (e : Entry). is_declaration e.kind && same_text c.0 e.name) inside then [] else Unknown c.0 p ∷ [])
    ++ (if list_any (λ (d : List ℕ × Expr). same_text c.0 d.0) cs then Twice c.0 p p ∷ [] else [])
    ++ (resolved_in es c.1).misuses ++ with_misuses p es inside cs

-- each declared name that WITH does not replace has a symbol of the same name outside
abbrev pub symbol_misuses : Place → List Entry → List (List ℕ × Expr) → List Entry → List Misuse
symbol_misuses p es cs [] = []
symbol_misuses p es cs (d ∷ ds) =
    (if is_declaration d.kind && not (list_any (λ (c : List ℕ × Expr). same_text d.name c.0) cs)
    then misused p d.name 0 (entry_of d.name es) else [])
    ++ symbol_misuses p es cs ds

-- ---- a module, unit by unit, where `inside` says what is known of those that it mentions

abbrev pub after_instance : Known → Copy → Option (List ℕ) → List (List ℕ × Expr) → Bool → Place → Known → Known
after_instance s j i cs local p a =
    let own = instance_names s.names i local p in
    let brought = instance_entries i local a.names in
    know s (own ++ brought) (map (with_item j s.names) cs ++ filter is_definition a.items)
    (all_repeated s.names (own ++ brought) ++ with_misuses p s.names a.names cs ++ symbol_misuses p s.names cs a.names)

abbrev pub after_unit : (Copy → Known) → Copy → Known → modules.Unit → Known
after_unit inside k s (unit.Declare ds) =
    know s (map (declared k) ds) (map (λ d. Declares d) ds) (all_repeated s.names (map (declared k) ds))
after_unit inside k s (unit.Assume e) =
    know s [] (Assumes (resolved_in s.names e).tree ∷ []) (resolved_in s.names e).misuses
after_unit inside k s (unit.Theorem e) = s
after_unit inside k s (unit.Define d local) =
    know s (defined k s.names d local ∷ []) (Defines (definition k s.names d local) ∷ []) (definition_misuses k s.names d local)
after_unit inside k s (unit.Instance i m cs local p) =
    let j = instance k s.names i m cs local p in
    after_instance s j i cs local p (inside j)
after_unit inside k s (unit.Recursive xs) = record s { names = s.names ++ announcements s.names xs }

abbrev pub after_units : (Copy → Known) → Copy → Known → List modules.Unit → Known
after_units inside k s [] = s
after_units inside k s (u ∷ us) = after_units inside k (after_unit inside k s u) us

-- a module that another extends
abbrev pub extended : Copy → List ℕ → Copy
extended k m = record { name = m; prefix = k.prefix; way = k.way; meant = k.meant; root = false }

-- EXTENDS brings in all that is exported
abbrev pub after_extends : (Copy → Known) → Copy → Known → List (List ℕ) → Known
after_extends inside k s [] = s
after_extends inside k s (m ∷ ms) =
    let a = inside (extended k m) in
    let es = filter (λ (e : Entry). e.exported) a.names in
    after_extends inside k (know s es a.items (all_repeated s.names es)) ms

abbrev pub after_module : (Copy → Known) → Copy → Option Module → Known
after_module inside k None = nothing_known
after_module inside k (Some m) = after_units inside k (after_extends inside k nothing_known m.extends) m.units

-- a standard module is known by itself; the root is read from its file, whatever its name is
abbrev pub standard_or : Option (List Entry) → Known → Known
standard_or None s = s
standard_or (Some es) s = record { names = es; items = []; misuses = [] }

-- what is known of a module at its end, where no module mentions others more than n deep
abbrev pub known_within : ℕ → Modules → Copy → Known
known_within zero ms k = nothing_known
known_within (suc n) ms k =
    standard_or (if k.root then None else standard_module k.name) (after_module (known_within n ms) k (find_last k.name ms))

abbrev pub known : Modules → Copy → Known
known ms k = known_within (suc (length ms)) ms k

-- ---- the flat module

abbrev pub declarations : List Item → List Decl
declarations [] = []
declarations (Declares d ∷ is) = d ∷ declarations is
declarations (Defines d ∷ is) = declarations is
declarations (Assumes e ∷ is) = declarations is

abbrev pub definitions : List Item → List Def
definitions [] = []
definitions (Declares d ∷ is) = definitions is
definitions (Defines d ∷ is) = d ∷ definitions is
definitions (Assumes e ∷ is) = definitions is

abbrev pub assumptions : List Item → List Expr
assumptions [] = []
assumptions (Declares d ∷ is) = assumptions is
assumptions (Defines d ∷ is) = assumptions is
assumptions (Assumes e ∷ is) = e ∷ assumptions is

-- a declared name of the root stands for its number
abbrev pub numbered : List ℕ → List Decl → ℕ → Option Meant
numbered x [] n = None
numbered x (d ∷ ds) n = if same_text x d.name then Some (op.Name n false, origin_over d.place []) else numbered x ds (suc n)

abbrev pub root_copy : List ℕ → List Decl → Copy
root_copy m ds = record { name = m; prefix = []; way = []; meant = λ x. numbered x ds 0; root = true }

-- what is declared does not depend on what declared names stand for
abbrev pub declared_names : Modules → List ℕ → List Decl
declared_names ms m = in_state_order (declarations (known ms (root_copy m [])).items)

-- ---- aliases

abbrev pub mentioned_by : List modules.Unit → List (List ℕ)
mentioned_by [] = []
mentioned_by (unit.Declare ds ∷ us) = mentioned_by us
mentioned_by (unit.Assume e ∷ us) = mentioned_by us
mentioned_by (unit.Theorem e ∷ us) = mentioned_by us
mentioned_by (unit.Define d local ∷ us) = mentioned_by us
mentioned_by (unit.Instance i m cs local p ∷ us) = m ∷ mentioned_by us
mentioned_by (unit.Recursive xs ∷ us) = mentioned_by us

-- the modules that a module mentions, in the order of its text
abbrev pub mentioned : Module → List (List ℕ)
mentioned m = m.extends ++ mentioned_by m.units

abbrev pub is_standard : Option (List Entry) → Bool
is_standard None = false
is_standard (Some es) = true

-- those among them that are read from files
abbrev pub mentioned_files : Module → List (List ℕ)
mentioned_files m = filter (λ x. not (is_standard (standard_module x))) (mentioned m)

-- a module behind those that it mentions
abbrev pub behind_mentioned : ℕ → Modules → List ℕ → Modules
behind_mentioned zero ms x = []
behind_mentioned (suc n) ms x =
    elim (find_last x ms) [ None ↦ [] | Some m ↦ flat_map (behind_mentioned n ms) (mentioned_files m) ++ (x, m) ∷ [] ]

-- each module where it comes first
abbrev pub once : Modules → Modules
once [] = []
once (x ∷ xs) = x ∷ filter (λ (y : List ℕ × Module). not (same_text x.0 y.0)) (once xs)

abbrev pub aliases_of : Modules → List ℕ → List (List ℕ × List ℕ)
aliases_of ms m = flat_map (λ (x : List ℕ × Module). (x.1).aliases) (once (behind_mentioned (length ms) ms m))

-- the flat module of a root, where a module of a name is read from the file of this name
abbrev pub flat_of : (List ℕ → List ℕ) → Modules → List ℕ → Flat
flat_of file ms m =
    let is = (known ms (root_copy m (declared_names ms m))).items in
    record {
      files = map (λ (x : List ℕ × Module). file x.0) ms;
      decls = declarations is;
      defs = definitions is;
      assumes = assumptions is;
      aliases = aliases_of ms m;
    }

-- ---- what is wrong with the names of all modules that are read, each as if it were the root

abbrev pub misuses_of : Modules → List Misuse
misuses_of ms = flat_map (λ (x : List ℕ × Module). (known ms (root_copy x.0 [])).misuses) ms

-- what the modules of a root are refused for, once all are read
abbrev pub misuse_of : Modules → Option Misuse
misuse_of ms = least_from None (misuses_of ms)
