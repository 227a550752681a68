-- A property of types that the forms of the table keep holds of all that a job asks for, where it holds of its unknown types
-- and of what is known around it.
use Rattle.std.proofs.Common.{◌≡◌, ℕ, zero, suc, ◌+◌, ◌≤◌, ◌<◌, Bool, true, false, ◌&&◌, IsTrue, List, [], ◌∷◌, ◌++◌, map, length, drop, refl, ap, sym, ◌∙◌, subst, arith, Option, Some, None, pos}
use Rattle.std.specs.Prelude.{if◌then◌else◌}
use Rattle.std.proofs.lemmas.Bool.{ltb-true}
use Rattle.tla_meaning.specs.declared.expr.Expr.{Expr}
use Rattle.tla_meaning.specs.declared.op.Op.{Op}
use Rattle.tla_meaning.specs.declared.op.Op.TheVariants as op
use Rattle.tla_meaning.specs.declared.place.Place.{Place}
use Rattle.tla_meaning.specs.FreeNames.{closed_all, marks}
use Rattle.tla_meaning.specs.Meaning.{role}
use Rattle.tla_meaning.specs.Scopes.{find_last, or_else, same_text}
use Rattle.tla_meaning.proofs.Views.{and_left, and_right}
use Rattle.snowcat_rows.specs.Types.{Term, var}
use Rattle.snowcat_types.specs.declared.waiting.Index.TheVariants.{Number, Word}
use Rattle.snowcat_types.specs.declared.waiting.Wait.{Wait}
use Rattle.snowcat_types.specs.declared.waiting.Wait.TheVariants as wait
use Rattle.snowcat_types.specs.TypeForms.{bool_type, int_type, str_type}
use Rattle.snowcat_types.specs.Rows.{Scope, Operand, Signature, TypeRow, Context, with_bound, or_type, noted_row, row_of, sum, reached_number}
use Rattle.snowcat_types.specs.declared.kinds.Kind.{Kind}
use Rattle.snowcat_types.specs.declared.kinds.Kind.TheVariants.{NotFormed, Function, Sequence, Tuple as TupleKind, Record as RecordKind}
use Rattle.snowcat_types.specs.Requirements.{Requirement, Equal, ItemOf, FieldOf, IsFormed, Never}
use Rattle.snowcat_types.specs.Waiting.{Sight, items_from, all_equal, choice, waiting, waiting_indexes, waiting_updates}
use Rattle.snowcat_types.specs.Systems.{Entry, Asks, Waits, Found, Visit, Children, children, under_first, others, all_types, all_entries, sights, operands_meet, fields_asked, all_wait, visit, visit_node, asked, waited}
use Rattle.snowcat_types.specs.Answers.{is_typable_op, is_typable_tree}
use Rattle.snowcat_types.proofs.Nodes.{by_nodes, visit-node, typable-node, first_and_rest}
use Rattle.snowcat_types.proofs.Waits.{tree_keyed}
use Rattle.snowcat_types.proofs.Holding.{AllTypes, AllNamed, KeepsForms, AllOperands, SignatureHas, types_append, named_append, table_has}

-- ---- of requirements and of waiting nodes

abbrev pub RequirementHas : (Term → Type 0) → Requirement → Type 0
RequirementHas P (Equal a b) = P a × P b
RequirementHas P (ItemOf t i u) = P t × P u
RequirementHas P (FieldOf t x u) = P t × P u
RequirementHas P (IsFormed q t) = P t × (q ≡ NotFormed → ⊥)
RequirementHas P Never = Unit {0}

abbrev pub AllRequired : (Term → Type 0) → List Requirement → Type 0
AllRequired P [] = Unit {0}
AllRequired P (r ∷ rs) = RequirementHas P r × AllRequired P rs

abbrev pub WaitHas : (Term → Type 0) → Wait → Type 0
WaitHas P (wait.Apply p f i t x) = P (var f) × (P (var i) × P (var t))
WaitHas P (wait.Domain p f t x y) = P (var f) × (P (var t) × (P (var x) × P (var y)))
WaitHas P (wait.Tuple p t x i n) = P (var t) × (P (var x) × AllTypes P (items_from i n))

abbrev pub EntryHas : (Term → Type 0) → Entry → Type 0
EntryHas P (Asks p rs) = AllRequired P rs
EntryHas P (Waits w) = WaitHas P w

abbrev pub AllEntries : (Term → Type 0) → List Entry → Type 0
AllEntries P [] = Unit {0}
AllEntries P (e ∷ es) = EntryHas P e × AllEntries P es

pub required_append : (P : Term → Type 0) (rs qs : List Requirement) → AllRequired P rs → AllRequired P qs → AllRequired P (rs ++ qs)
required_append P [] qs h k = k
required_append P (r ∷ rs) qs h k = (h.0, required_append P rs qs h.1 k)

pub entries_append : (P : Term → Type 0) (es fs : List Entry) → AllEntries P es → AllEntries P fs → AllEntries P (es ++ fs)
entries_append P [] fs h k = k
entries_append P (e ∷ es) fs h k = (h.0, entries_append P es fs h.1 k)

pub asked_have : (P : Term → Type 0) (es : List Entry) → AllEntries P es → AllRequired P (asked es)
asked_have P [] h = tt
asked_have P (Asks p rs ∷ es) h = required_append P rs (asked es) h.0 (asked_have P es h.1)
asked_have P (Waits w ∷ es) h = asked_have P es h.1

abbrev pub EachHas : (Term → Type 0) → List Wait → Type 0
EachHas P [] = Unit {0}
EachHas P (w ∷ ws) = WaitHas P w × EachHas P ws

pub waited_have : (P : Term → Type 0) (es : List Entry) → AllEntries P es → EachHas P (waited es)
waited_have P [] h = tt
waited_have P (Asks p rs ∷ es) h = waited_have P es h.1
waited_have P (Waits w ∷ es) h = (h.0, waited_have P es h.1)

each_entry : (P : Term → Type 0) (ws : List Wait) → EachHas P ws → AllEntries P (all_wait ws)
each_entry P [] h = tt
each_entry P (w ∷ ws) h = (h.0, each_entry P ws h.1)

each_append : (P : Term → Type 0) (ws us : List Wait) → EachHas P ws → EachHas P us → EachHas P (ws ++ us)
each_append P [] us h k = k
each_append P (w ∷ ws) us h k = (h.0, each_append P ws us h.1 k)

equals_have : (P : Term → Type 0) (t : Term) (us : List Term) → P t → AllTypes P us → AllRequired P (all_equal t us)
equals_have P t [] h k = tt
equals_have P t (u ∷ us) h k = ((h, k.0), equals_have P t us h k.1)

formed : (q : Kind) → (q ≡ NotFormed → ⊥) → q ≡ NotFormed → ⊥
formed q f = f

sequence_formed : Sequence ≡ NotFormed → ⊥
sequence_formed e = cc

tuple_formed : TupleKind ≡ NotFormed → ⊥
tuple_formed e = cc

record_formed : RecordKind ≡ NotFormed → ⊥
record_formed e = cc

pub choice_has : (P : Term → Type 0) → KeepsForms P → (w : Wait) (q : Kind) → WaitHas P w → AllRequired P (choice w q)
choice_has P k (wait.Apply p f i t x) Function h = ((h.0, k.plain.fun (var i) (var t) h.1.0 h.1.1), tt)
choice_has P k (wait.Apply p f i t x) Sequence h = ((h.0, k.plain.seq (var t) h.1.1), ((k.plain.number, h.1.0), tt))
choice_has P k (wait.Apply p f i t (Number (pos n))) TupleKind h = ((h.0, h.1.1), tt)
choice_has P k (wait.Apply p f i t (Word x)) RecordKind h = ((h.0, h.1.1), tt)
choice_has P k (wait.Domain p f t x y) Function h =
    ((h.0, k.plain.fun (var x) (var y) h.1.1.0 h.1.1.1), ((k.plain.set (var x) h.1.1.0, h.1.0), tt))
choice_has P k (wait.Domain p f t x y) Sequence h = ((h.0, sequence_formed), ((k.plain.set int_type k.plain.number, h.1.0), tt))
choice_has P k (wait.Domain p f t x y) TupleKind h = ((h.0, tuple_formed), ((k.plain.set int_type k.plain.number, h.1.0), tt))
choice_has P k (wait.Domain p f t x y) RecordKind h = ((h.0, record_formed), ((k.plain.set str_type k.plain.text, h.1.0), tt))
choice_has P k (wait.Tuple p t x i n) TupleKind h = ((h.0, k.plain.tuple (items_from i n) h.1.1), tt)
choice_has P k (wait.Tuple p t x i n) Sequence h = ((h.0, k.plain.seq (var x) h.1.0), equals_have P (var x) (items_from i n) h.1.0 h.1.1)
choice_has P k w q h = (tt, tt)

-- ---- around a node

pub record ContextHas (P : Term → Type 0) (n : ℕ) (c : Context) : Type 0 where
  pub declared : (i : ℕ) → i < n → P (c.declared i)
  pub noted : (x : List ℕ) (t : Term) → c.noted x ≡ Some t → P t
  pub bound : AllNamed P c.bound

pub context_more : (P : Term → Type 0) (n : ℕ) (c : Context) (xs : Scope) → ContextHas P n c → AllNamed P xs → ContextHas P n (with_bound xs c)
context_more P n c xs h k = record { declared = h.declared; noted = h.noted; bound = named_append P c.bound xs h.bound k }

abbrev pub FoundHas : (Term → Type 0) → Found → Type 0
FoundHas P f = (AllTypes P f.types × P f.type) × AllEntries P f.entries

module _ (P : Term → Type 0) (k : KeepsForms P) where
  abbrev IfFound : Option Term → Type 0
  IfFound None = Unit {0}
  IfFound (Some t) = P t

  last_or : (o p : Option Term) → IfFound o → IfFound p → IfFound (or_else o p)
  last_or None p h i = i
  last_or (Some t) p h i = h

  entry_found : (b : Bool) (t : Term) → P t → IfFound (if b then Some t else None)
  entry_found true t h = h
  entry_found false t h = tt

  found_has : (x : List ℕ) (xs : Scope) → AllNamed P xs → IfFound (find_last x xs)
  found_has x [] h = tt
  found_has x (y ∷ ys) h =
      last_or (find_last x ys) (if same_text x y.0 then Some y.1 else None) (found_has x ys h.1) (entry_found (same_text x y.0) y.1 h.0)

  or_has : (o : Option Term) → IfFound o → P (or_type o bool_type)
  or_has None h = k.plain.truth
  or_has (Some t) h = h

  abbrev Has : TypeRow → Type 0
  Has r = (a : ℕ → Term) → ((j : ℕ) → j < r.unknowns → P (a j)) → SignatureHas P (r.says a)

  noted_has : (o : Option Term) → ((t : Term) → o ≡ Some t → P t) → Has (noted_row o)
  noted_has None f a h = (((h 0 (omega arith), tt), tt), h 0 (omega arith))
  noted_has (Some t) f a h = (((f t refl, tt), tt), f t refl)

  row_has : (n : ℕ) (c : Context) (o : Op) (B : List ℕ → Bool) (xs : List (List ℕ)) (m : ℕ) → IsTrue (is_typable_op n o B) → ContextHas P n c →
      Has (row_of c o xs m)
  row_has n c (op.Name i primed) B xs m g h a r = (tt, h.declared i (ltb-true i n g))
  row_has n c (op.Bound x) B xs m g h a r = (tt, or_has (find_last x c.bound) (found_has x c.bound h.bound))
  row_has n c (op.Noted x) B xs m g h a r = noted_has (c.noted x) (h.noted x) a r
  row_has n c op.And B xs m g h a r = table_has P k op.And xs m a r
  row_has n c o B xs m g h a r = table_has P k o xs m a r

  -- ---- the waiting nodes of a node

  indexes_have : (v from i n b : ℕ) (ks : List Sight) → ((j : ℕ) → j < b → P (var (v + j))) → i + i + n + n + 1 ≤ b → P (var from) →
      EachHas P (waiting_indexes v from i n ks)
  indexes_have v from i zero b ks h le f = tt
  indexes_have v from i (suc n) b [] h le f = tt
  indexes_have v from i (suc n) b (k ∷ ks) h le f =
      let r : P (var (v + reached_number i)) = h (i + i + 2) (omega (arith, le)) in
      ((f, (h (i + i + 1) (omega (arith, le)), r)), indexes_have v (v + reached_number i) (i + 1) n b ks h (omega (arith, le)) r)

  updates_have : (v i b : ℕ) (ns : List ℕ) (ks : List Sight) → ((j : ℕ) → j < b → P (var (v + j))) → i + i + sum ns + sum ns + 1 ≤ b → P (var v) →
      EachHas P (waiting_updates v i ns ks)
  updates_have v i b [] ks h le f = tt
  updates_have v i b (n ∷ ns) ks h le f =
      each_append P (waiting_indexes v v i n ks) (waiting_updates v (i + n) ns (drop (suc n) ks))
      (indexes_have v v i n b ks h (omega (arith, le)) f) (updates_have v (i + n) b ns (drop (suc n) ks) h (omega (arith, le)) f)

  items_have : (i n : ℕ) → ((j : ℕ) → i ≤ j → j < i + n → P (var j)) → AllTypes P (items_from i n)
  items_have i zero h = tt
  items_have i (suc n) h = (h i (omega arith) (omega arith), items_have (i + 1) n (λ j le lt. h j (omega (arith, le)) (omega (arith, lt))))

  at_start : (v b : ℕ) → ((j : ℕ) → v ≤ j → j < v + b → P (var j)) → (j : ℕ) → j < b → P (var (v + j))
  at_start v b h j lt = h (v + j) (omega arith) (omega (arith, lt))

  waits_have : (c : Context) (p : Place) (o : Op) (xs : List (List ℕ)) (n v : ℕ) (ks : List Sight) → length ks ≡ n →
      ((j : ℕ) → v ≤ j → j < v + (row_of c o xs n).unknowns → P (var j)) → EachHas P (waiting p o v ks)
  waits_have c p op.Apply xs n v ks e h =
      ((h v (omega arith) (omega arith), (h (v + 1) (omega arith) (omega arith), h (v + 2) (omega arith) (omega arith))), tt)
  waits_have c p (op.Except ns) xs n v [] e h = tt
  waits_have c p (op.Except ns) xs n v (s ∷ ks) e h =
      updates_have v 0 (1 + (sum ns + sum ns)) ns ks (at_start v (1 + (sum ns + sum ns)) h) (omega arith) (h v (omega arith) (omega arith))
  waits_have c p op.Domain xs n v ks e h =
      ((h v (omega arith) (omega arith), (h (v + 1) (omega arith) (omega arith), (h (v + 2) (omega arith) (omega arith), h (v + 3) (omega arith) (omega arith)))), tt)
  waits_have c p op.Tuple xs n v [] e h = tt
  waits_have c p op.Tuple xs zero v (s ∷ ks) e h = absurd (cc)
  waits_have c p op.Tuple xs (suc n) v (s ∷ ks) e h = (
    (
      h v (omega arith) (omega arith),
      (
        h (v + 1) (omega arith) (omega arith),
        items_have (v + 2) (suc (length ks)) (λ j le lt. h j (omega (arith, le)) (let q : suc (length ks) ≡ suc n = e in omega (arith, lt, q))),
      ),
    ),
    tt,
  )
  waits_have c p op.And xs n v ks e h = tt
  waits_have c p o xs n v ks e h = tt

  operands_have : (os : List Operand) (ts : List Term) → AllOperands P os → AllTypes P ts → AllRequired P (operands_meet os ts)
  operands_have [] ts h i = tt
  operands_have (o ∷ os) [] h i = tt
  operands_have (o ∷ os) (t ∷ ts) h i = ((h.0.0, i.0), operands_have os ts h.1 i.1)

  fields_have : (c : Context) (o : Op) (xs : List (List ℕ)) (n v : ℕ) →
      ((j : ℕ) → v ≤ j → j < v + (row_of c o xs n).unknowns → P (var j)) → AllRequired P (fields_asked o v)
  fields_have c (op.Field f) xs n v h = ((h v (omega arith) (omega arith), h (v + 1) (omega arith) (omega arith)), tt)
  fields_have c op.And xs n v h = tt
  fields_have c o xs n v h = tt

  -- ---- of a tree

  abbrev pub IsHeld : ℕ → Expr → Type 0
  IsHeld n e =
      (B : List ℕ → Bool) → IsTrue (is_typable_tree n e B) → (v : ℕ) (c : Context) → ContextHas P n c →
      ((j : ℕ) → v ≤ j → j < (visit e v c).next → P (var j)) → FoundHas P (visit e v c)

  record AllFound (fs : List Found) : Type 0 where
    types : AllTypes P (all_types fs)
    roots : AllTypes P (map (λ f. f.type) fs)
    entries : AllEntries P (all_entries fs)

  children_more : (es : List Expr) (os : List Operand) (v : ℕ) (c : Context) → v ≤ (children (map visit es) os v c).next
  children_more [] os v c = omega arith
  children_more (e ∷ es) os v c =
      let one : Found = visit e v (with_bound (under_first os) c) in
      let le : v ≤ one.next = (tree_keyed e v (with_bound (under_first os) c)).order in
      let more : one.next ≤ (children (map visit es) (others os) one.next c).next = children_more es (others os) one.next c in
      omega (arith, le, more)

  under_has : (os : List Operand) → AllOperands P os → AllNamed P (under_first os)
  under_has [] h = tt
  under_has (o ∷ os) h = h.0.1

  others_have : (os : List Operand) → AllOperands P os → AllOperands P (others os)
  others_have [] h = tt
  others_have (o ∷ os) h = h.1

  children_have : (n : ℕ) (ys : List ((e : Expr) × IsHeld n e)) (ms : List Bool) (xs : List (List ℕ)) (B : List ℕ → Bool) →
      IsTrue (closed_all ms xs (map (is_typable_tree n) (map (λ y. y.0) ys)) B) → (os : List Operand) → AllOperands P os → (v : ℕ) (c : Context) →
      ContextHas P n c → ((j : ℕ) → v ≤ j → j < (children (map visit (map (λ y. y.0) ys)) os v c).next → P (var j)) →
      AllFound (children (map visit (map (λ y. y.0) ys)) os v c).found
  children_have n [] ms xs B t os ho v c hc h = record { types = tt; roots = tt; entries = tt }
  children_have n (y ∷ ys) ms xs B t os ho v c hc h =
      let es : List Expr = map (λ y. y.0) ys in
      let d : Context = with_bound (under_first os) c in
      let one : Found = visit y.0 v d in
      let more : one.next ≤ (children (map visit es) (others os) one.next c).next = children_more es (others os) one.next c in
      let le : v ≤ one.next = (tree_keyed y.0 v d).order in
      let r = first_and_rest ms xs (is_typable_tree n y.0) (map (is_typable_tree n) es) B t in
      let first : FoundHas P one = y.1 r.names r.first v d (context_more P n c (under_first os) hc (under_has os ho)) (λ j i lt. h j i (omega (arith, lt, more))) in
      let rest : AllFound (children (map visit es) (others os) one.next c).found =
      children_have n ys r.others xs B r.rest (others os) (others_have os ho) one.next c hc (λ j i lt. h j (omega (arith, i, le)) lt) in
      record {
        types = types_append P one.types (all_types (children (map visit es) (others os) one.next c).found) first.0.0 rest.types;
        roots = (first.0.1, rest.roots);
        entries = entries_append P one.entries (all_entries (children (map visit es) (others os) one.next c).found) first.1 rest.entries;
      }

  found_length : (es : List Expr) (os : List Operand) (v : ℕ) (c : Context) →
      length (sights (children (map visit es) os v c).found) ≡ length (map visit es)
  found_length [] os v c = refl
  found_length (e ∷ es) os v c =
      let one : Found = visit e v (with_bound (under_first os) c) in ap suc (found_length es (others os) one.next c)

  node_has : (n : ℕ) (p : Place) (o : Op) (xs : List (List ℕ)) (ys : List ((e : Expr) × IsHeld n e)) (B : List ℕ → Bool) →
      IsTrue (is_typable_op n o B) → IsTrue (closed_all (marks (role o (length xs))) xs (map (is_typable_tree n) (map (λ y. y.0) ys)) B) →
      (v : ℕ) (c : Context) → ContextHas P n c →
      (λ (f : Found). ((j : ℕ) → v ≤ j → j < f.next → P (var j)) → FoundHas P f)
      (visit_node (record { place = p; op = o; args = map visit (map (λ y. y.0) ys); binds = xs }) v c)
  node_has n p o xs ys B g t v c hc h =
      let es : List Expr = map (λ y. y.0) ys in
      let ms : List Visit = map visit es in
      let r : TypeRow = row_of c o xs (length ms) in
      let sig : Signature = r.says (λ k. var (v + k)) in
      let ks : Children = children ms sig.operands (v + r.unknowns) c in
      let more : v + r.unknowns ≤ ks.next = children_more es sig.operands (v + r.unknowns) c in
      let own : (j : ℕ) → v ≤ j → j < v + r.unknowns → P (var j) = λ j i lt. h j i (omega (arith, lt, more)) in
      let s : SignatureHas P sig = row_has n c o B xs (length ms) g hc (λ k. var (v + k)) (at_start v r.unknowns own) in
      let rest : AllFound ks.found = children_have n ys (marks (role o (length xs))) xs B t sig.operands s.0 (v + r.unknowns) c hc (λ j i lt. h j (omega (arith, i)) lt) in (
        ((s.1, rest.types), s.1),
        entries_append P (all_entries ks.found) (Asks p (operands_meet sig.operands (map (λ k. k.type) ks.found) ++ fields_asked o v) ∷ all_wait (waiting p o v (sights ks.found)))
            rest.entries (
              required_append P (operands_meet sig.operands (map (λ k. k.type) ks.found)) (fields_asked o v)
                  (operands_have sig.operands (map (λ k. k.type) ks.found) s.0 rest.roots) (fields_have c o xs (length ms) v own),
              each_entry P (waiting p o v (sights ks.found))
                  (waits_have c p o xs (length ms) v (sights ks.found) (found_length es sig.operands (v + r.unknowns) c) own),
            ),
      )

  pub tree_held : (n : ℕ) (e : Expr) → IsHeld n e
  tree_held n = by_nodes (IsHeld n) (λ p o xs ys B t v c hc h.
      let es : List Expr = map (λ y. y.0) ys in
      let w : Bool = is_typable_op n o B in
      let q : Bool = closed_all (marks (role o (length xs))) xs (map (is_typable_tree n) es) B in
      let both : IsTrue (w && q) = sym (typable-node n p o xs es B) ∙ t in
      let Q : Found → Type 0 = λ f. ((j : ℕ) → v ≤ j → j < f.next → P (var j)) → FoundHas P f in
      subst Q (sym (visit-node p o xs es v c)) (node_has n p o xs ys B (and_left w q both) (and_right w q both) v c hc) h)
