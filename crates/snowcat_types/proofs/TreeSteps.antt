-- Steps of visiting a tree.
use Rattle.std.proofs.Common.{◌≡◌, ℕ, zero, suc, ◌+◌, ◌<◌, List, [], ◌∷◌, ◌++◌, append_assoc, drop, get_or, length, map, take, refl, ap, ◌∙◌, sym, subst, arith}
use Rattle.std.specs.Prelude.{zip}
use Rattle.std.proofs.lemmas.List.{drop_all, drop_more, take_more}
use Rattle.tla_meaning.specs.declared.expr.Expr.{Expr, out-Expr, roll-out-Expr}
use Rattle.tla_meaning.specs.declared.op.Op.{Op}
use Rattle.tla_meaning.specs.declared.place.Place.{Place}
use Rattle.snowcat_rows.specs.declared.types.Ty.{Ty}
use Rattle.snowcat_rows.specs.Types.{Term, mean, var}
use Rattle.snowcat_types.specs.declared.forms.Operand.{Operand as BuiltOperand}
use Rattle.snowcat_types.specs.declared.gathered.Requirement.{Requirement as BuiltRequirement}
use Rattle.snowcat_types.specs.declared.gathered.Requirement.TheVariants as built
use Rattle.snowcat_types.specs.declared.gathered.Entry.{Entry as BuiltEntry}
use Rattle.snowcat_types.specs.declared.gathered.Entry.TheVariants as built_entry
use Rattle.snowcat_types.specs.declared.waiting.Wait.{Wait}
use Rattle.snowcat_types.specs.declared.trees.Gathering.{Gathering}
use Rattle.snowcat_types.specs.declared.trees.Seen.{Seen}
use Rattle.snowcat_types.specs.declared.trees.AllSeen.{AllSeen}
use Rattle.snowcat_types.specs.declared.trees.Opened.{Opened}
use Rattle.snowcat_types.specs.Requirements.{Requirement, Equal}
use Rattle.snowcat_types.specs.Rows.{Operand, Signature, TypeRow, Context, with_bound, row_of}
use Rattle.snowcat_types.specs.Waiting.{Sight, literal_of, waiting}
use Rattle.snowcat_types.specs.Systems.{Entry, Asks, Waits, Found, Visit, Children, children, under_first, others, all_types, all_entries, all_wait, sights, operands_meet, fields_asked, visit}
use Rattle.snowcat_types.specs.inner.Built.{means, note_of, operand_of, scope_of, context_of, row_at, unknown_from}
use Rattle.snowcat_types.specs.inner.Gathered.{entries_of, entry_of, requirement_of, requirements_of}
use Rattle.snowcat_types.specs.inner.Visiting.{Stays, Visited, IsOpened, IsClosed, Walked}
use Rattle.snowcat_types.proofs.Nodes.{visit-node}

pub nothing_behind : {X : Type 0} (xs : List X) → xs ++ [] ≡ xs
nothing_behind [] = refl
nothing_behind (x ∷ xs) = ap (λ z. x ∷ z) (nothing_behind xs)

pub as_long : {X Y : Type 0} (f : X → Y) (xs : List X) → length (map f xs) ≡ length xs
as_long f [] = refl
as_long f (x ∷ xs) = ap suc (as_long f xs)

pub map_append : {X Y : Type 0} (f : X → Y) (xs ys : List X) → map f (xs ++ ys) ≡ map f xs ++ map f ys
map_append f [] ys = refl
map_append f (x ∷ xs) ys = ap (λ z. f x ∷ z) (map_append f xs ys)

pub same_context : (a b : Gathering) → Stays a b → context_of b.around ≡ context_of a.around
same_context a b h = λ i. record { declared = var; noted = note_of (h.notes i); bound = scope_of (h.bound i) }

pub stays_on : (a b c : Gathering) → Stays a b → Stays b c → Stays a c
stays_on a b c h k = record { notes = k.notes ∙ h.notes; bound = k.bound ∙ h.bound; parts = k.parts ∙ h.parts }

-- ---- the children

others_drop : (os : List Operand) (i : ℕ) → others (drop i os) ≡ drop (suc i) os
others_drop [] zero = refl
others_drop [] (suc i) = refl
others_drop (o ∷ os) zero = refl
others_drop (o ∷ os) (suc i) = others_drop os i

pub under_at : (os : List BuiltOperand) (i : ℕ) (o : BuiltOperand) → i < length os → o ≡ get_or os i o →
    scope_of o.under ≡ under_first (drop i (map operand_of os))
under_at [] i o lt q = absurd (omega (arith, lt))
under_at (p ∷ os) zero o lt q = ap (λ z. scope_of z.under) q
under_at (p ∷ os) (suc i) o lt q = under_at os i o (omega (arith, lt)) q

-- those from the i-th on
abbrev pub left_of : List Expr → List Operand → Context → ℕ → ℕ → Children
left_of es os c i v = children (map visit (drop i es)) (drop i os) v c

abbrev pub one_before : Found → Children → Children
one_before f r = record { next = r.next; found = f ∷ r.found }

next_left : (es : List Expr) (os : List Operand) (c : Context) (i v : ℕ) (e : Expr) → i < length es → e ≡ get_or es i e →
    left_of es os c i v
    ≡ one_before (visit e v (with_bound (under_first (drop i os)) c)) (left_of es os c (i + 1) (visit e v (with_bound (under_first (drop i os)) c)).next)
next_left es os c i v e lt q =
    let up : suc i ≡ i + 1 = omega arith in
    let f : Found = visit e v (with_bound (under_first (drop i os)) c) in
    ap (λ fs. children (map visit fs) (drop i os) v c) (drop_more es i e lt ∙ ap (λ z. z ∷ drop (i + 1) es) (sym q))
    ∙ ap (λ ps. one_before f (children (map visit (drop (i + 1) es)) ps f.next c)) (others_drop os i ∙ ap (λ z. drop z os) up)

pub walk_begins : (a : Gathering) (k : AllSeen) (whole rest : Children) → k.types.items ≡ [] → k.sights.items ≡ [] → rest ≡ whole → Walked a a k whole rest
walk_begins a k whole rest t u e = record {
  next_is = ap (λ r. r.next) (sym e);
  types_are = ap (λ r. means a.types.items ++ all_types r.found) e;
  entries_are = ap (λ r. entries_of a.entries.items ++ all_entries r.found) e;
  types_seen = ap (λ z. means z ++ map (λ f. f.type) rest.found) t ∙ ap (λ r. map (λ f. f.type) r.found) e;
  sights_seen = ap (λ z. z ++ sights rest.found) u ∙ ap (λ r. sights r.found) e;
  stays = record { notes = refl; bound = refl; parts = refl };
}

means_append : (ts us : List Ty) → means (ts ++ us) ≡ means ts ++ means us
means_append [] us = refl
means_append (t ∷ ts) us = ap (λ z. mean t ∷ z) (means_append ts us)

step : (a b d : Gathering) (k j : AllSeen) (whole rest : Children) (f : Found) (s : Seen) → Walked a b k whole (one_before f rest) → Visited b d f s →
    j.types.items ≡ k.types.items ++ s.of ∷ [] → j.sights.items ≡ k.sights.items ++ s.sight ∷ [] → Walked a d j whole rest
step a b d k j whole rest f s h v t u = record {
  next_is = h.next_is;
  types_are =
      ap (λ z. z ++ all_types rest.found) v.adds.types_are
      ∙ append_assoc (means b.types.items) f.types (all_types rest.found) ∙ h.types_are;
  entries_are =
      ap (λ z. z ++ all_entries rest.found) v.adds.entries_are
      ∙ append_assoc (entries_of b.entries.items) f.entries (all_entries rest.found) ∙ h.entries_are;
  types_seen =
      ap (λ z. means z ++ map (λ g. g.type) rest.found) t
      ∙ ap (λ z. z ++ map (λ g. g.type) rest.found) (means_append k.types.items (s.of ∷ []))
      ∙ ap (λ z. (means k.types.items ++ z ∷ []) ++ map (λ g. g.type) rest.found) v.type_is
      ∙ append_assoc (means k.types.items) (f.type ∷ []) (map (λ g. g.type) rest.found) ∙ h.types_seen;
  sights_seen =
      ap (λ z. z ++ sights rest.found) u
      ∙ ap (λ z. (k.sights.items ++ z ∷ []) ++ sights rest.found) v.sight_is
      ∙ append_assoc k.sights.items (f.sight ∷ []) (sights rest.found) ∙ h.sights_seen;
  stays = stays_on a b d h.stays v.adds.stays;
}

pub walk_goes_on : (a b d : Gathering) (k j : AllSeen) (whole : Children) (s : Seen) (es : List Expr) (os : List Operand) (i : ℕ) (e : Expr) (names : List (List ℕ × Ty)) →
    i < length es → e ≡ get_or es i e → scope_of names ≡ under_first (drop i os) →
    Walked a b k whole (left_of es os (context_of a.around) i b.next) →
    Visited b d (visit e b.next (with_bound (scope_of names) (context_of b.around))) s →
    j.types.items ≡ k.types.items ++ s.of ∷ [] → j.sights.items ≡ k.sights.items ++ s.sight ∷ [] →
    Walked a d j whole (left_of es os (context_of a.around) (i + 1) d.next)
walk_goes_on a b d k j whole s es os i e names lt q n h v t u =
    let c : Context = context_of a.around in
    let f : Found = visit e b.next (with_bound (under_first (drop i os)) c) in
    let one : Visited b d f s =
    subst (λ x. Visited b d (visit e b.next x) s) (λ z. with_bound (n z) ((same_context a b h.stays) z)) v in
    let before : Walked a b k whole (one_before f (left_of es os c (i + 1) f.next)) = subst (Walked a b k whole) (next_left es os c i b.next e lt q) h in
    subst (λ z. Walked a d j whole (left_of es os c (i + 1) z)) (sym one.next_is)
    (step a b d k j whole (left_of es os c (i + 1) f.next) f s before one t u)

pub walk_ends : (a b : Gathering) (k : AllSeen) (whole : Children) (es : List Expr) (os : List Operand) (i : ℕ) → length es < i + 1 →
    Walked a b k whole (left_of es os (context_of a.around) i b.next) → Walked a b k whole (record { next = b.next; found = [] })
walk_ends a b k whole es os i le h =
    subst (λ fs. Walked a b k whole (children (map visit fs) (drop i os) b.next (context_of a.around))) (drop_all i es (omega (arith, le))) h

-- ---- what the node asks of its operands

abbrev pub asked_of : List (BuiltOperand × Ty) → List Requirement
asked_of ps = map (λ p. Equal (mean p.0.of) (mean p.1)) ps

pub meets_pairs : (os : List BuiltOperand) (ts : List Ty) → asked_of (zip os ts) ≡ operands_meet (map operand_of os) (means ts)
meets_pairs [] ts = refl
meets_pairs (o ∷ os) [] = refl
meets_pairs (o ∷ os) (t ∷ ts) = ap (λ z. Equal (mean o.of) (mean t) ∷ z) (meets_pairs os ts)

pub asked_next : (rs qs : List BuiltRequirement) (ps : List (BuiltOperand × Ty)) (p : BuiltOperand × Ty) → qs ≡ rs ++ built.Equal p.0.of p.1 ∷ [] →
    requirements_of rs ≡ asked_of ps → requirements_of qs ≡ asked_of (ps ++ p ∷ [])
asked_next rs qs ps p e h =
    ap requirements_of e ∙ map_append requirement_of rs (built.Equal p.0.of p.1 ∷ []) ∙ ap (λ z. z ++ Equal (mean p.0.of) (mean p.1) ∷ []) h
    ∙ sym (map_append (λ q. Equal (mean q.0.of) (mean q.1)) ps (p ∷ []))

pub waits_next : (old es fs : List BuiltEntry) (ws : List Wait) (w : Wait) → fs ≡ es ++ built_entry.Waits w ∷ [] →
    entries_of es ≡ entries_of old ++ all_wait ws → entries_of fs ≡ entries_of old ++ all_wait (ws ++ w ∷ [])
waits_next old es fs ws w e h =
    ap entries_of e ∙ map_append entry_of es (built_entry.Waits w ∷ []) ∙ ap (λ z. z ++ Waits w ∷ []) h
    ∙ append_assoc (entries_of old) (all_wait ws) (Waits w ∷ []) ∙ ap (λ z. entries_of old ++ z) (sym (map_append Waits ws (w ∷ [])))

pub names_next : (old xs ys names : List (List ℕ × Ty)) (i : ℕ) (x : List ℕ × Ty) (n : List ℕ) (t : Ty) → i < length names → x ≡ get_or names i x →
    n ≡ x.0 → t ≡ x.1 → ys ≡ xs ++ (n, t) ∷ [] → xs ≡ old ++ take i names → ys ≡ old ++ take (i + 1) names
names_next old xs ys names i x n t lt q p u e h =
    e ∙ (λ z. h z ++ (p z, u z) ∷ []) ∙ append_assoc old (take i names) (x ∷ [])
    ∙ ap (λ z. old ++ z) (sym (take_more names i x lt ∙ ap (λ z. take i names ++ z ∷ []) (sym q)))

pub same_pairs : (ps : List (BuiltOperand × Ty)) → map (λ p. (p.0, p.1)) ps ≡ ps
same_pairs [] = refl
same_pairs (p ∷ ps) = ap (λ z. p ∷ z) (same_pairs ps)

-- ---- the node

abbrev node_found : Place → Op → TypeRow → ℕ → List Visit → Context → Found
node_found p o r v ms c =
    let sig : Signature = r.says (λ k. var (v + k)) in
    let ks : Children = children ms sig.operands (v + r.unknowns) c in
    record {
      next = ks.next;
      types = sig.result ∷ all_types ks.found;
      entries =
          all_entries ks.found
          ++ Asks p (operands_meet sig.operands (map (λ k. k.type) ks.found) ++ fields_asked o v)
          ∷ all_wait (waiting p o v (sights ks.found));
      type = sig.result;
      sight = record { place = p; literal = literal_of o (sights ks.found) };
    }

visit_is : (e : Expr) (v : ℕ) (c : Context) →
    visit e v c ≡ node_found (out-Expr e).place (out-Expr e).op (row_at c e) v (map visit (out-Expr e).args) c
visit_is e v c =
    let o = (out-Expr e).op in let xs = (out-Expr e).binds in let es = (out-Expr e).args in
    ap (λ z. visit z v c) (sym (roll-out-Expr e)) ∙ visit-node (out-Expr e).place o xs es v c
    ∙ ap (λ n. node_found (out-Expr e).place o (row_of c o xs n) v (map visit es) c) (as_long visit es)

at_end : {X : Type 0} (xs ys : List X) (y d : X) → get_or (xs ++ y ∷ ys) (length xs) d ≡ y
at_end [] ys y d = refl
at_end (x ∷ xs) ys y d = at_end xs ys y d

mean_at : (ts : List Ty) (n : ℕ) (d : Ty) → mean (get_or ts n d) ≡ get_or (means ts) n (mean d)
mean_at [] n d = refl
mean_at (t ∷ ts) zero d = refl
mean_at (t ∷ ts) (suc n) d = mean_at ts n d

abbrev sight_over : Expr → List Sight → Sight
sight_over e ks = record { place = (out-Expr e).place; literal = literal_of (out-Expr e).op ks }

module _ (old opened walked : Gathering) (e : Expr) (o : Opened) (k : AllSeen) (whole : Children) where
  abbrev all_children : Type 0
  all_children = whole ≡ children (map visit (out-Expr e).args) (map operand_of o.operands) opened.next (context_of opened.around)

  abbrev own_row : TypeRow
  own_row = row_at (context_of old.around) e

  abbrev own : Signature
  own = own_row.says (unknown_from old.next)

  types_now : IsOpened old opened e o → Walked opened walked k whole (record { next = walked.next; found = [] }) →
      means walked.types.items ≡ means old.types.items ++ own.result ∷ all_types whole.found
  types_now h w =
      sym (nothing_behind (means walked.types.items)) ∙ w.types_are
      ∙ ap (λ z. z ++ all_types whole.found) h.adds.types_are
      ∙ append_assoc (means old.types.items) (own.result ∷ []) (all_types whole.found)

  entries_now : IsOpened old opened e o → Walked opened walked k whole (record { next = walked.next; found = [] }) →
      entries_of walked.entries.items ≡ entries_of old.entries.items ++ all_entries whole.found
  entries_now h w =
      sym (nothing_behind (entries_of walked.entries.items)) ∙ w.entries_are
      ∙ ap (λ z. z ++ all_entries whole.found) (h.adds.entries_are ∙ nothing_behind (entries_of old.entries.items))

  abbrev asked_by : AllSeen → List Entry
  asked_by j =
      Asks (out-Expr e).place (operands_meet (map operand_of o.operands) (means j.types.items) ++ fields_asked (out-Expr e).op o.first)
      ∷ all_wait (waiting (out-Expr e).place (out-Expr e).op o.first j.sights.items)

  pub place_within : IsOpened old opened e o → Walked opened walked k whole (record { next = walked.next; found = [] }) →
      o.at < length walked.types.items
  place_within h w =
      let l : length (means old.types.items) ≡ length old.types.items = as_long mean old.types.items in
      let m : length (means walked.types.items) ≡ length walked.types.items = as_long mean walked.types.items in
      let p : o.at ≡ length old.types.items = h.place_is in
      let q : length (means walked.types.items) ≡ length (means old.types.items) + suc (length (all_types whole.found)) =
      ap length (types_now h w) ∙ longer (means old.types.items) own.result (all_types whole.found) in
      omega (arith, l, m, p, q)
    where
      longer : (xs : List Term) (y : Term) (ys : List Term) → length (xs ++ y ∷ ys) ≡ length xs + suc (length ys)
      longer [] y ys = let e : suc (length ys) ≡ 0 + suc (length ys) = omega arith in e
      longer (x ∷ xs) y ys = let h = longer xs y ys in let e : suc (length (xs ++ y ∷ ys)) ≡ suc (length xs) + suc (length ys) = omega (arith, h) in e

  pub node_visited : (closed : Gathering) (s : Seen) → IsOpened old opened e o → all_children →
      Walked opened walked k whole (record { next = walked.next; found = [] }) → IsClosed walked closed e o k s →
      Visited old closed (visit e old.next (context_of old.around)) s
  node_visited closed s h a w z =
      let c : Context = context_of old.around in
      let ms : List Visit = map visit (out-Expr e).args in
      let ks : Children = children ms own.operands (old.next + own_row.unknowns) c in
      let is : whole ≡ ks = a
      ∙ (λ i. children ms (h.operands_are i) (h.next_is i) ((same_context old opened h.adds.stays) i)) in
      let types : means k.types.items ≡ map (λ g. g.type) ks.found = sym (nothing_behind (means k.types.items)) ∙ w.types_seen ∙ ap (λ x. map (λ g. g.type) x.found) is in
      let seen : k.sights.items ≡ sights ks.found = sym (nothing_behind k.sights.items) ∙ w.sights_seen ∙ ap (λ x. sights x.found) is in
      subst (λ f. Visited old closed f s) (sym (visit_is e old.next c)) (record {
        next_is = z.next_is ∙ sym w.next_is ∙ ap (λ x. x.next) is;
        adds = record {
          types_are =
              z.adds.types_are ∙ nothing_behind (means walked.types.items) ∙ types_now h w
              ∙ ap (λ x. means old.types.items ++ own.result ∷ all_types x.found) is;
          entries_are =
              z.adds.entries_are ∙ ap (λ x. x ++ asked_by k) (entries_now h w)
              ∙ append_assoc (entries_of old.entries.items) (all_entries whole.found) (asked_by k)
              ∙ (λ i. entries_of old.entries.items
              ++ (all_entries (is i).found
              ++ Asks (out-Expr e).place (operands_meet (h.operands_are i) (types i) ++ fields_asked (out-Expr e).op (h.first_is i))
              ∷ all_wait (waiting (out-Expr e).place (out-Expr e).op (h.first_is i) (seen i))));
          stays = stays_on old opened closed h.adds.stays (stays_on opened walked closed w.stays z.adds.stays);
        };
        type_is =
            ap mean z.type_is ∙ mean_at walked.types.items o.at s.of
            ∙ ap (λ x. get_or x o.at (mean s.of)) (types_now h w)
            ∙ ap (λ n. get_or (means old.types.items ++ own.result ∷ all_types whole.found) n (mean s.of)) (h.place_is ∙ sym (as_long mean old.types.items))
            ∙ at_end (means old.types.items) (all_types whole.found) own.result (mean s.of);
        sight_is = z.sight_is ∙ ap (sight_over e) seen;
      })
