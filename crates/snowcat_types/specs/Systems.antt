-- What a job asks of the types of its nodes: its unknown types, and what must hold of them. Source: the Apalache
-- manual, "Type System 1.2".
use Rattle.std.specs.Prelude.{ℕ, zero, suc, ◌+◌, List, [], ◌∷◌, ◌++◌, map, length, Option}
use Rattle.tla_meaning.specs.declared.op.Op.{Op}
use Rattle.tla_meaning.specs.declared.op.Op.TheVariants as op
use Rattle.tla_meaning.specs.declared.place.Place.{Place}
use Rattle.tla_meaning.specs.declared.expr.Expr.{Expr}
use Rattle.tla_meaning.specs.declared.expr.Expr.TheOpen.{Expr-F}
use Rattle.tla_meaning.specs.declared.expr.Expr.TheFolds.{fold-Expr}
use Rattle.tla_meaning.specs.declared.job.Job.{Job}
use Rattle.snowcat_rows.specs.Types.{Term, var}
use Rattle.snowcat_rows.specs.Readings.{moved}
use Rattle.snowcat_types.specs.declared.waiting.Wait.{Wait}
use Rattle.snowcat_types.specs.TypeForms.{bool_type}
use Rattle.snowcat_types.specs.Rows.{Scope, Operand, Signature, TypeRow, Context, with_bound, row_of}
use Rattle.snowcat_types.specs.Requirements.{Requirement, Equal, FieldOf}
use Rattle.snowcat_types.specs.Waiting.{Sight, literal_of, waiting}

-- ---- the nodes of a tree, each with unknown types of its own

-- what a visit of a node adds: what its row of the table asks, or a node that waits
pub data Entry : Type 0 where
  Asks : Place → List Requirement → Entry
  Waits : Wait → Entry

-- what is found of a tree
pub record Found : Type 0 where
  -- the first unknown type behind its own
  pub next : ℕ
  -- the types of its nodes, a node before its children
  pub types : List Term
  -- what its nodes add, the children of a node before it
  pub entries : List Entry
  pub type : Term
  pub sight : Sight

-- of a tree whose unknown types begin with this number
abbrev pub Visit : Type 0
Visit = ℕ → Context → Found

-- of the children in order
pub record Children : Type 0 where
  pub next : ℕ
  pub found : List Found

abbrev pub under_first : List Operand → Scope
under_first [] = []
under_first (o ∷ os) = o.under

abbrev pub others : List Operand → List Operand
others [] = []
others (o ∷ os) = os

-- each child where the names are bound that the node binds in it
abbrev pub children : List Visit → List Operand → ℕ → Context → Children
children [] os v c = record { next = v; found = [] }
children (k ∷ ks) os v c =
    let one : Found = k v (with_bound (under_first os) c) in
    let rest : Children = children ks (others os) one.next c in
    record { next = rest.next; found = one ∷ rest.found }

abbrev pub all_types : List Found → List Term
all_types [] = []
all_types (k ∷ ks) = k.types ++ all_types ks

abbrev pub all_entries : List Found → List Entry
all_entries [] = []
all_entries (k ∷ ks) = k.entries ++ all_entries ks

abbrev pub sights : List Found → List Sight
sights ks = map (λ k. k.sight) ks

-- each operand has the type that the table asks
abbrev pub operands_meet : List Operand → List Term → List Requirement
operands_meet (o ∷ os) (t ∷ ts) = Equal o.type t ∷ operands_meet os ts
operands_meet os ts = []

abbrev pub fields_asked : Op → ℕ → List Requirement
fields_asked (op.Field f) v = FieldOf (var v) f (var (v + 1)) ∷ []
fields_asked o v = []

abbrev pub all_wait : List Wait → List Entry
all_wait ws = map Waits ws

abbrev pub visit_node : Expr-F Visit → Visit
visit_node x v c =
    let r : TypeRow = row_of c x.op x.binds (length x.args) in
    let sig : Signature = r.says (λ k. var (v + k)) in
    let ks : Children = children x.args sig.operands (v + r.unknowns) c in
    record {
      next = ks.next;
      types = sig.result ∷ all_types ks.found;
      entries =
          all_entries ks.found
          ++ Asks x.place (operands_meet sig.operands (map (λ k. k.type) ks.found) ++ fields_asked x.op v)
          ∷ all_wait (waiting x.place x.op v (sights ks.found));
      type = sig.result;
      sight = record { place = x.place; literal = literal_of x.op (sights ks.found) };
    }

unfoldable pub visit : Expr → Visit
visit = fold-Expr Visit visit_node

-- ---- the whole job

-- what annotations say: of each declared name its type, with the number of that type's variables; and the type
-- that the text of a note binds, if it binds one
pub record Annotations : Type 0 where
  pub declared : List (Term × ℕ)
  pub noted : List ℕ → Option Term

abbrev pub count_declared : List (Term × ℕ) → ℕ
count_declared [] = 0
count_declared (t ∷ ts) = t.1 + count_declared ts

-- the unknown type of the number of each declared name is its annotation, whose variables are unknown types from v on
abbrev pub declared_types : ℕ → ℕ → List (Term × ℕ) → List Requirement
declared_types i v [] = []
declared_types i v (t ∷ ts) = Equal (moved v t.0) (var i) ∷ declared_types (i + 1) (v + t.1) ts

-- the initial predicate, the next-state action and an invariant are true or false, and so are assumptions and what
-- constrains constants (Specifying Systems, section 2.2; the Apalache manual): the root of a part is asked to be Bool
abbrev pub root_asks : Found → Entry
root_asks f = Asks f.sight.place (Equal bool_type f.type ∷ [])

-- behind all that its nodes add
abbrev pub visit_part : Expr → Visit
visit_part e v c =
    let f : Found = visit e v c in
    record { next = f.next; types = f.types; entries = f.entries ++ root_asks f ∷ []; type = f.type; sight = f.sight }

abbrev pub visits : Context → List Expr → ℕ → List Found
visits c [] v = []
visits c (e ∷ es) v = visit_part e v c ∷ visits c es (visit_part e v c).next

abbrev pub behind : ℕ → List Found → ℕ
behind v [] = v
behind v (k ∷ ks) = behind k.next ks

abbrev pub parts_of : Job → List Expr
parts_of job = job.cinit ∷ job.assume ∷ job.init ∷ job.next ∷ map (λ e. e.1) job.invs

abbrev pub asked : List Entry → List Requirement
asked [] = []
asked (Asks p rs ∷ es) = rs ++ asked es
asked (Waits w ∷ es) = asked es

abbrev pub waited : List Entry → List Wait
waited [] = []
waited (Asks p rs ∷ es) = waited es
waited (Waits w ∷ es) = w ∷ waited es

abbrev pub names_from : ℕ → ℕ → List Term
names_from i zero = []
names_from i (suc n) = var i ∷ names_from (i + 1) n

-- the unknown types of a job and what is asked of them
pub record System : Type 0 where
  -- how many unknown types there are
  pub count : ℕ
  -- what is asked of those of the declared names
  pub declared : List Requirement
  -- in the order in which the nodes are visited, part by part
  pub entries : List Entry
  pub names : List Term
  pub parts : List (List Term)

abbrev pub all_asked : System → List Requirement
all_asked system = system.declared ++ asked system.entries

abbrev pub all_waits : System → List Wait
all_waits system = waited system.entries

-- a declared name has the unknown type of its number
abbrev pub outermost : Annotations → Context
outermost an = record { declared = var; noted = an.noted; bound = [] }

abbrev pub first_unknown : Annotations → ℕ
first_unknown an = length an.declared + count_declared an.declared

abbrev pub system_of : Annotations → List Expr → System
system_of an parts =
    let found : List Found = visits (outermost an) parts (first_unknown an) in
    record {
      count = behind (first_unknown an) found;
      declared = declared_types 0 (length an.declared) an.declared;
      entries = all_entries found;
      names = names_from 0 (length an.declared);
      parts = map (λ k. k.types) found;
    }

abbrev pub system : Annotations → Job → System
system an job = system_of an (parts_of job)
