-- The nodes that wait are different: each has an unknown type of its own.
use Rattle.std.proofs.Common.{◌≡◌, ℕ, zero, suc, ◌+◌, ◌≤◌, ◌<◌, ◌⊎◌, inl, inr, List, [], ◌∷◌, ◌++◌, map, length, drop, ap, sym, ◌∙◌, subst, arith}
use Rattle.std.proofs.lemmas.List.{append-nil}
use Rattle.tla_meaning.specs.declared.expr.Expr.{Expr}
use Rattle.tla_meaning.specs.declared.op.Op.{Op}
use Rattle.tla_meaning.specs.declared.op.Op.TheVariants as op
use Rattle.tla_meaning.specs.declared.place.Place.{Place}
use Rattle.snowcat_types.specs.declared.waiting.Wait.{Wait}
use Rattle.snowcat_types.specs.declared.waiting.Wait.TheVariants as wait
use Rattle.snowcat_rows.specs.Types.{var}
use Rattle.snowcat_types.specs.Rows.{Operand, Signature, TypeRow, Context, with_bound, row_of, tuple_row, sum, reached_number}
use Rattle.snowcat_types.specs.Requirements.{Requirement}
use Rattle.snowcat_types.specs.Waiting.{Sight, waiting, waiting_indexes, waiting_updates}
use Rattle.snowcat_types.specs.Systems.{Annotations, Entry, Asks, Found, Visit, Children, children, under_first, others, root_asks, visit, visit_node, visits, behind, all_entries, all_wait, waited, sights, operands_meet, fields_asked, outermost, first_unknown, system_of, all_waits}
use Rattle.snowcat_types.specs.Typings.{Each}
use Rattle.snowcat_types.proofs.Nodes.{by_nodes, visit-node, waited-append, waited-all}
use Rattle.snowcat_types.proofs.Order.{In, Distinct, each_at}

-- a number of its own
abbrev pub key : Wait → ℕ
key (wait.Apply p f i t x) = t
key (wait.Domain p f t x y) = t
key (wait.Tuple p t x i n) = t

abbrev pub Lies : ℕ → ℕ → Wait → Type 0
Lies a b w = (a ≤ key w) × (key w < b)

-- the numbers lie from a on below b, and the nodes are different
pub record Keyed (a b : ℕ) (ws : List Wait) : Type 0 where
  pub order : a ≤ b
  pub range : Each (Lies a b) ws
  pub apart : Distinct ws

each_more : (P Q : Wait → Type 0) → ((w : Wait) → P w → Q w) → (ws : List Wait) → Each P ws → Each Q ws
each_more P Q f [] h = tt
each_more P Q f (w ∷ ws) h = (f w h.0, each_more P Q f ws h.1)

each_append : (P : Wait → Type 0) (xs ys : List Wait) → Each P xs → Each P ys → Each P (xs ++ ys)
each_append P [] ys h k = k
each_append P (x ∷ xs) ys h k = (h.0, each_append P xs ys h.1 k)

in_append : (x : Wait) (xs ys : List Wait) → In x (xs ++ ys) → In x xs ⊎ In x ys
in_append x [] ys i = inr i
in_append x (y ∷ xs) ys (inl e) = inl (inl e)
in_append x (y ∷ xs) ys (inr i) = elim (in_append x xs ys i) [ inl k ↦ inl (inr k) | inr k ↦ inr k ]

distinct_append : (a b c d : ℕ) (xs ys : List Wait) → ((w : Wait) → Lies a b w → Lies c d w → ⊥) → Each (Lies a b) xs → Each (Lies c d) ys →
    Distinct xs → Distinct ys → Distinct (xs ++ ys)
distinct_append a b c d [] ys n h k p q = q
distinct_append a b c d (x ∷ xs) ys n h k p q = (
  λ i. elim (in_append x xs ys i) [ inl j ↦ p.0 j | inr j ↦ n x h.0 (each_at (Lies c d) ys x k j) ],
  distinct_append a b c d xs ys n h.1 k p.1 q,
)

keyed_none : (a b : ℕ) → a ≤ b → Keyed a b []
keyed_none a b le = record { order = le; range = tt; apart = tt }

keyed_one : (a b : ℕ) (w : Wait) → Lies a b w → Keyed a b (w ∷ [])
keyed_one a b w h = record { order = omega (arith, h); range = (h, tt); apart = (λ i. i, tt) }

-- one behind another
keyed_append : (a b c : ℕ) (xs ys : List Wait) → Keyed a b xs → Keyed b c ys → Keyed a c (xs ++ ys)
keyed_append a b c xs ys h k = record {
  order = let i : a ≤ b = h.order in let j : b ≤ c = k.order in omega (arith, i, j);
  range = each_append (Lies a c) xs ys
      (each_more (Lies a b) (Lies a c) (λ w q. (q.0, let j : b ≤ c = k.order in let l : key w < b = q.1 in omega (arith, j, l))) xs h.range)
      (each_more (Lies b c) (Lies a c) (λ w q. (let i : a ≤ b = h.order in let l : b ≤ key w = q.0 in omega (arith, i, l), q.1)) ys k.range);
  apart = distinct_append a b b c xs ys (λ w p q. let l : key w < b = p.1 in let m : b ≤ key w = q.0 in omega (arith, l, m)) h.range k.range h.apart k.apart;
}

-- and the other way round
keyed_before : (a b c : ℕ) (xs ys : List Wait) → Keyed b c xs → Keyed a b ys → Keyed a c (xs ++ ys)
keyed_before a b c xs ys h k = record {
  order = let i : b ≤ c = h.order in let j : a ≤ b = k.order in omega (arith, i, j);
  range = each_append (Lies a c) xs ys
      (each_more (Lies b c) (Lies a c) (λ w q. (let i : a ≤ b = k.order in let l : b ≤ key w = q.0 in omega (arith, i, l), q.1)) xs h.range)
      (each_more (Lies a b) (Lies a c) (λ w q. (q.0, let j : b ≤ c = h.order in let l : key w < b = q.1 in omega (arith, j, l))) ys k.range);
  apart = distinct_append b c a b xs ys (λ w p q. let l : b ≤ key w = p.0 in let m : key w < b = q.1 in omega (arith, l, m)) h.range k.range h.apart k.apart;
}

keyed_within : (a b c d : ℕ) (ws : List Wait) → c ≤ a → b ≤ d → Keyed a b ws → Keyed c d ws
keyed_within a b c d ws p q h = record {
  order = let i : a ≤ b = h.order in omega (arith, p, q, i);
  range = each_more (Lies a b) (Lies c d) (λ w l. (let i : a ≤ key w = l.0 in omega (arith, p, i), let i : key w < b = l.1 in omega (arith, q, i))) ws h.range;
  apart = h.apart;
}

-- ---- the waiting nodes of one node

indexes_keyed : (v from i n : ℕ) (ks : List Sight) → Keyed (v + i + i + 1) (v + i + n + i + n + 1) (waiting_indexes v from i n ks)
indexes_keyed v from i zero ks = keyed_none (v + i + i + 1) (v + i + 0 + i + 0 + 1) (omega arith)
indexes_keyed v from i (suc n) [] = keyed_none (v + i + i + 1) (v + i + suc n + i + suc n + 1) (omega arith)
indexes_keyed v from i (suc n) (k ∷ ks) =
    keyed_append (v + i + i + 1) (v + i + i + 3) (v + i + suc n + i + suc n + 1)
    (wait.Apply k.place from (v + (i + i + 1)) (v + reached_number i) k.literal ∷ []) (waiting_indexes v (v + reached_number i) (i + 1) n ks)
    (keyed_one (v + i + i + 1) (v + i + i + 3) (wait.Apply k.place from (v + (i + i + 1)) (v + reached_number i) k.literal) (omega arith, omega arith))
    (keyed_within (v + (i + 1) + (i + 1) + 1) (v + (i + 1) + n + (i + 1) + n + 1) (v + i + i + 3) (v + i + suc n + i + suc n + 1)
    (waiting_indexes v (v + reached_number i) (i + 1) n ks) (omega arith) (omega arith) (indexes_keyed v (v + reached_number i) (i + 1) n ks))

updates_keyed : (v i : ℕ) (ns : List ℕ) (ks : List Sight) → Keyed (v + i + i + 1) (v + i + sum ns + i + sum ns + 1) (waiting_updates v i ns ks)
updates_keyed v i [] ks = keyed_none (v + i + i + 1) (v + i + 0 + i + 0 + 1) (omega arith)
updates_keyed v i (n ∷ ns) ks =
    keyed_append (v + i + i + 1) (v + i + n + i + n + 1) (v + i + (n + sum ns) + i + (n + sum ns) + 1)
    (waiting_indexes v v i n ks) (waiting_updates v (i + n) ns (drop (suc n) ks))
    (indexes_keyed v v i n ks)
    (keyed_within (v + (i + n) + (i + n) + 1) (v + (i + n) + sum ns + (i + n) + sum ns + 1) (v + i + n + i + n + 1) (v + i + (n + sum ns) + i + (n + sum ns) + 1)
    (waiting_updates v (i + n) ns (drop (suc n) ks)) (omega arith) (omega arith) (updates_keyed v (i + n) ns (drop (suc n) ks)))

tuple_more : (n v : ℕ) → v < v + (tuple_row n).unknowns
tuple_more zero v = omega arith
tuple_more (suc n) v = omega arith

own_keyed : (c : Context) (p : Place) (o : Op) (xs : List (List ℕ)) (n v : ℕ) (ks : List Sight) →
    Keyed v (v + (row_of c o xs n).unknowns) (waiting p o v ks)
own_keyed c p op.Apply xs n v ks = keyed_one v (v + 3) (wait.Apply p v (v + 1) (v + 2) _) (omega arith, omega arith)
own_keyed c p (op.Except ns) xs n v [] = keyed_none v (v + (1 + (sum ns + sum ns))) (omega arith)
own_keyed c p (op.Except ns) xs n v (k ∷ ks) =
    keyed_within (v + 0 + 0 + 1) (v + 0 + sum ns + 0 + sum ns + 1) v (v + (1 + (sum ns + sum ns))) (waiting_updates v 0 ns ks)
    (omega arith) (omega arith) (updates_keyed v 0 ns ks)
own_keyed c p op.Domain xs n v ks = keyed_one v (v + 4) (wait.Domain p v (v + 1) (v + 2) (v + 3)) (omega arith, omega arith)
own_keyed c p op.Tuple xs n v [] = keyed_none v (v + (tuple_row n).unknowns) (omega arith)
own_keyed c p op.Tuple xs n v (k ∷ ks) =
    keyed_one v (v + (tuple_row n).unknowns) (wait.Tuple p v (v + 1) (v + 2) _) (omega arith, tuple_more n v)
own_keyed c p op.And xs n v ks = keyed_none v (v + 0) (omega arith)
own_keyed c p o xs n v ks = keyed_none v (v + (row_of c o xs n).unknowns) (omega arith)

-- ---- of a tree

abbrev pub IsKeyed : Expr → Type 0
IsKeyed e = (v : ℕ) (c : Context) → Keyed v (visit e v c).next (waited (visit e v c).entries)

children_keyed : (ys : List ((e : Expr) × IsKeyed e)) (os : List Operand) (v : ℕ) (c : Context) →
    Keyed v (children (map visit (map (λ y. y.0) ys)) os v c).next (waited (all_entries (children (map visit (map (λ y. y.0) ys)) os v c).found))
children_keyed [] os v c = keyed_none v v (omega arith)
children_keyed (y ∷ ys) os v c =
    let one = visit y.0 v (with_bound (under_first os) c) in
    let rest : Children = children (map visit (map (λ y. y.0) ys)) (others os) one.next c in
    let P : List Wait → Type 0 = Keyed v rest.next in
    subst P (sym (waited-append one.entries (all_entries rest.found)))
    (keyed_append v one.next rest.next (waited one.entries) (waited (all_entries rest.found))
    (y.1 v (with_bound (under_first os) c)) (children_keyed ys (others os) one.next c))

node_waited : (es : List Entry) (p : Place) (rs : List Requirement) (ws : List Wait) → waited (es ++ Asks p rs ∷ all_wait ws) ≡ waited es ++ ws
node_waited es p rs ws = waited-append es (Asks p rs ∷ all_wait ws) ∙ ap (λ z. waited es ++ z) (waited-all ws)

node_keyed : (p : Place) (o : Op) (xs : List (List ℕ)) (ys : List ((e : Expr) × IsKeyed e)) (v : ℕ) (c : Context) →
    (λ (f : Found). Keyed v f.next (waited f.entries)) (visit_node (record { place = p; op = o; args = map visit (map (λ y. y.0) ys); binds = xs }) v c)
node_keyed p o xs ys v c =
    let ms : List Visit = map visit (map (λ y. y.0) ys) in
    let r : TypeRow = row_of c o xs (length ms) in
    let sig : Signature = r.says (λ k. var (v + k)) in
    let ks : Children = children ms sig.operands (v + r.unknowns) c in
    let rs : List Requirement = operands_meet sig.operands (map (λ k. k.type) ks.found) ++ fields_asked o v in
    let P : List Wait → Type 0 = Keyed v ks.next in
    subst P (sym (node_waited (all_entries ks.found) p rs (waiting p o v (sights ks.found))))
    (keyed_before v (v + r.unknowns) ks.next (waited (all_entries ks.found)) (waiting p o v (sights ks.found))
    (children_keyed ys sig.operands (v + r.unknowns) c) (own_keyed c p o xs (length ms) v (sights ks.found)))

pub tree_keyed : (e : Expr) → IsKeyed e
tree_keyed = by_nodes IsKeyed (λ p o xs ys v c.
    let P : Found → Type 0 = λ f. Keyed v f.next (waited f.entries) in
    subst P (sym (visit-node p o xs (map (λ y. y.0) ys) v c)) (node_keyed p o xs ys v c))

-- ---- of a job

-- the root of a part asks and does not wait
pub part_waited : (f : Found) (es : List Entry) → waited ((f.entries ++ root_asks f ∷ []) ++ es) ≡ waited f.entries ++ waited es
part_waited f es =
    waited-append (f.entries ++ root_asks f ∷ []) es
    ∙ ap (λ z. z ++ waited es) (waited-append f.entries (root_asks f ∷ []) ∙ append-nil (waited f.entries))

pub trees_keyed : (c : Context) (es : List Expr) (v : ℕ) → Keyed v (behind v (visits c es v)) (waited (all_entries (visits c es v)))
trees_keyed c [] v = keyed_none v v (omega arith)
trees_keyed c (e ∷ es) v =
    let one : Found = visit e v c in
    let rest : List Entry = all_entries (visits c es one.next) in
    let P : List Wait → Type 0 = Keyed v (behind one.next (visits c es one.next)) in
    subst P (sym (part_waited one rest))
    (keyed_append v one.next (behind one.next (visits c es one.next)) (waited one.entries) (waited (all_entries (visits c es one.next)))
    (tree_keyed e v c) (trees_keyed c es one.next))

-- the waiting nodes of a system are different
pub distinct_waits : (an : Annotations) (es : List Expr) → Distinct (all_waits (system_of an es))
distinct_waits an es = (trees_keyed (outermost an) es (first_unknown an)).apart
