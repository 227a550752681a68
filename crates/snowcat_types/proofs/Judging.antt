-- The types that meet what a tree asks are its types by the rules.
use Rattle.std.proofs.Common.{◌≡◌, ℕ, suc, ◌+◌, ◌<◌, Bool, true, false, ◌&&◌, IsTrue, if◌then◌else◌, List, [], ◌∷◌, ◌++◌, map, length, refl, ap, sym, ◌∙◌, subst, Option, Some, None}
use Rattle.std.specs.Prelude.{option_map}
use Rattle.std.proofs.lemmas.List.{append-nil}
use Rattle.std.proofs.lemmas.Bool.{ltb-true}
use Rattle.tla_meaning.specs.declared.expr.Expr.{Expr, out-Expr, out-roll-Expr}
use Rattle.tla_meaning.specs.declared.expr.Expr.TheOpen.{Expr-F}
use Rattle.tla_meaning.specs.declared.expr.Expr.TheFolds.{fold-roll-Expr}
use Rattle.tla_meaning.specs.declared.op.Op.{Op}
use Rattle.tla_meaning.specs.declared.op.Op.TheVariants as op
use Rattle.tla_meaning.specs.declared.place.Place.{Place}
use Rattle.tla_meaning.specs.FreeNames.{closed_all, marks}
use Rattle.tla_meaning.specs.Meaning.{role}
use Rattle.tla_meaning.specs.Scopes.{find_last, or_else, same_text}
use Rattle.tla_meaning.proofs.Views.{and_left, and_right}
use Rattle.snowcat_rows.specs.Types.{Term, var}
use Rattle.snowcat_rows.specs.Substitutions.{Sub, apply}
use Rattle.snowcat_types.specs.declared.waiting.Wait.{Wait}
use Rattle.snowcat_types.specs.TypeForms.{bool_type}
use Rattle.snowcat_types.specs.Rows.{Scope, Operand, Signature, TypeRow, Context, with_bound, or_type, noted_row, row_of, gives}
use Rattle.snowcat_types.specs.Requirements.{Requirement, MeetAll}
use Rattle.snowcat_types.specs.Waiting.{Sight, literal_of, waiting}
use Rattle.snowcat_types.specs.Systems.{Entry, Asks, Found, Children, children, under_first, others, all_types, all_entries, sights, operands_meet, fields_asked, all_wait, visit, visit_node, asked, waited}
use Rattle.snowcat_types.specs.Typings.{Each}
use Rattle.snowcat_types.specs.Answers.{is_typable_op, is_typable_tree}
use Rattle.snowcat_types.specs.Judgement.{sight_of, HasChoice, joined_types, HasTypes, HaveTypes, by_row, none_more, one_more, another}
use Rattle.snowcat_types.proofs.Choices.{meet_left, meet_right, all_left, all_right}
use Rattle.snowcat_types.proofs.Nodes.{node, by_nodes, visit-node, asked-append, waited-append, waited-all, typable-node, first_and_rest}
use Rattle.snowcat_types.proofs.Through.{seen_scope, seen_operand, seen, map-append, table_through}

-- ---- what is seen of a tree, and the first of its types

sight-node : (p : Place) (o : Op) (xs : List (List ℕ)) (es : List Expr) →
    sight_of (node p o xs es) ≡ record { place = p; literal = literal_of o (map sight_of es) }
sight-node p o xs es =
    fold-roll-Expr Sight (λ x. record { place = x.place; literal = literal_of x.op x.args }) (record { place = p; op = o; args = es; binds = xs })

abbrev IsSeen : Expr → Type 0
IsSeen e = (v : ℕ) (c : Context) → (visit e v c).sight ≡ sight_of e

children_seen : (ys : List ((e : Expr) × IsSeen e)) (os : List Operand) (v : ℕ) (c : Context) →
    sights (children (map visit (map (λ y. y.0) ys)) os v c).found ≡ map sight_of (map (λ y. y.0) ys)
children_seen [] os v c = refl
children_seen (y ∷ ys) os v c =
    let one : Found = visit y.0 v (with_bound (under_first os) c) in
    λ i. y.1 v (with_bound (under_first os) c) i ∷ children_seen ys (others os) one.next c i

tree_seen : (e : Expr) → IsSeen e
tree_seen = by_nodes IsSeen (λ p o xs ys v c.
    let es : List Expr = map (λ y. y.0) ys in
    let r : TypeRow = row_of c o xs (length (map visit es)) in
    let os : List Operand = (r.says (λ k. var (v + k))).operands in
    let P : Found → Type 0 = λ f. f.sight ≡ sight_of (node p o xs es) in
    subst P (sym (visit-node p o xs es v c))
    (ap (λ z. record { place = p; literal = literal_of o z }) (children_seen ys os (v + r.unknowns) c) ∙ sym (sight-node p o xs es)))

all_seen : (es : List Expr) (os : List Operand) (v : ℕ) (c : Context) → sights (children (map visit es) os v c).found ≡ map sight_of es
all_seen [] os v c = refl
all_seen (e ∷ es) os v c =
    let one : Found = visit e v (with_bound (under_first os) c) in
    λ i. tree_seen e v (with_bound (under_first os) c) i ∷ all_seen es (others os) one.next c i

abbrev Begins : Found → Type 0
Begins f = (rest : List Term) × (f.types ≡ f.type ∷ rest)

pub types_begin : (e : Expr) (v : ℕ) (c : Context) → Begins (visit e v c)
types_begin = by_nodes (λ e. (v : ℕ) (c : Context) → Begins (visit e v c)) (λ p o xs ys v c.
    let es : List Expr = map (λ y. y.0) ys in
    let r : TypeRow = row_of c o xs (length (map visit es)) in
    let ks : Children = children (map visit es) (r.says (λ k. var (v + k))).operands (v + r.unknowns) c in
    subst Begins (sym (visit-node p o xs es v c)) (all_types ks.found, refl))

-- ---- what is known around a node, under a substitution

pub record Sees (s : Sub) (n : ℕ) (c d : Context) : Type 0 where
  pub declared : (i : ℕ) → i < n → d.declared i ≡ apply s (c.declared i)
  pub noted : (x : List ℕ) → d.noted x ≡ c.noted x
  pub closed : (x : List ℕ) (t : Term) → c.noted x ≡ Some t → apply s t ≡ t
  pub bound : d.bound ≡ seen_scope s c.bound

module _ (s : Sub) (n : ℕ) where
  sees_more : (c d : Context) (xs : Scope) → Sees s n c d → Sees s n (with_bound xs c) (with_bound (seen_scope s xs) d)
  sees_more c d xs h = record {
    declared = h.declared;
    noted = h.noted;
    closed = h.closed;
    bound = ap (λ z. z ++ seen_scope s xs) h.bound ∙ sym (map-append (λ x. (x.0, apply s x.1)) c.bound xs);
  }

  sees_same : (c d : Context) → Sees s n c d → Sees s n (with_bound [] c) d
  sees_same c d h = record {
    declared = h.declared;
    noted = h.noted;
    closed = h.closed;
    bound = h.bound ∙ ap (seen_scope s) (sym (append-nil c.bound));
  }

  joined_option : (o p : Option Term) → option_map (apply s) (or_else o p) ≡ or_else (option_map (apply s) o) (option_map (apply s) p)
  joined_option None p = refl
  joined_option (Some t) p = refl

  chosen_option : (b : Bool) (t : Term) → option_map (apply s) (if b then Some t else None) ≡ (if b then Some (apply s t) else None)
  chosen_option true t = refl
  chosen_option false t = refl

  find_seen : (x : List ℕ) (xs : Scope) → option_map (apply s) (find_last x xs) ≡ find_last x (seen_scope s xs)
  find_seen x [] = refl
  find_seen x (y ∷ ys) =
      joined_option (find_last x ys) (if same_text x y.0 then Some y.1 else None)
      ∙ (λ i. or_else (find_seen x ys i) (chosen_option (same_text x y.0) y.1 i))

  or_seen : (o : Option Term) → apply s (or_type o bool_type) ≡ or_type (option_map (apply s) o) bool_type
  or_seen None = refl
  or_seen (Some t) = refl

  noted_through : (o : Option Term) → ((t : Term) → o ≡ Some t → apply s t ≡ t) → (a : ℕ → Term) →
      seen s ((noted_row o).says a) ≡ (noted_row o).says (λ i. apply s (a i))
  noted_through None f a = refl
  noted_through (Some t) f a = ap (λ z. gives (z ∷ []) z) (f t refl)

  row_through : (c d : Context) (o : Op) (B : List ℕ → Bool) (xs : List (List ℕ)) (m : ℕ) → IsTrue (is_typable_op n o B) → Sees s n c d → (a : ℕ → Term) →
      seen s ((row_of c o xs m).says a) ≡ (row_of d o xs m).says (λ i. apply s (a i))
  row_through c d (op.Name i primed) B xs m g h a = ap (gives []) (sym (h.declared i (ltb-true i n g)))
  row_through c d (op.Bound x) B xs m g h a =
      ap (gives []) (or_seen (find_last x c.bound) ∙ ap (λ z. or_type z bool_type) (find_seen x c.bound ∙ ap (find_last x) (sym h.bound)))
  row_through c d (op.Noted x) B xs m g h a =
      noted_through (c.noted x) (h.closed x) a ∙ ap (λ z. (noted_row z).says (λ i. apply s (a i))) (sym (h.noted x))
  row_through c d op.And B xs m g h a = table_through s op.And xs m a
  row_through c d o B xs m g h a = table_through s o xs m a

  -- ---- a rule, for a node whose parts are told

  make : (d : Context) (e : Expr) (z : Expr-F Expr) → out-Expr e ≡ z → (v : ℕ) (tss : List (List Term)) →
      HaveTypes d z.args ((row_of d z.op z.binds (length z.args)).says (λ k. s.type_of (v + k))).operands tss →
      MeetAll s (fields_asked z.op v) → Each (HasChoice s) (waiting z.place z.op v (map sight_of z.args)) →
      HasTypes d e (((row_of d z.op z.binds (length z.args)).says (λ k. s.type_of (v + k))).result ∷ joined_types tss)
  make d e z q =
      let P : Expr-F Expr → Type 0 = λ z. (v : ℕ) (tss : List (List Term)) →
      HaveTypes d z.args ((row_of d z.op z.binds (length z.args)).says (λ k. s.type_of (v + k))).operands tss →
      MeetAll s (fields_asked z.op v) → Each (HasChoice s) (waiting z.place z.op v (map sight_of z.args)) →
      HasTypes d e (((row_of d z.op z.binds (length z.args)).says (λ k. s.type_of (v + k))).result ∷ joined_types tss) in
      subst P q (λ v tss h f w. by_row d e v s tss h f w)

  -- ---- the induction

  abbrev pub Judged : Expr → Type 0
  Judged e =
      (B : List ℕ → Bool) → IsTrue (is_typable_tree n e B) → (v : ℕ) (c d : Context) → Sees s n c d →
      MeetAll s (asked (visit e v c).entries) → Each (HasChoice s) (waited (visit e v c).entries) → HasTypes d e (map (apply s) (visit e v c).types)

  abbrev types_under : List Found → List (List Term)
  types_under fs = map (λ f. map (apply s) f.types) fs

  pub asked_both : (es fs : List Entry) → MeetAll s (asked (es ++ fs)) → MeetAll s (asked es) × MeetAll s (asked fs)
  asked_both es fs h =
      let k : MeetAll s (asked es ++ asked fs) = subst (MeetAll s) (asked-append es fs) h in
      (meet_left s (asked es) (asked fs) k, meet_right s (asked es) (asked fs) k)

  pub waited_both : (es fs : List Entry) → Each (HasChoice s) (waited (es ++ fs)) → Each (HasChoice s) (waited es) × Each (HasChoice s) (waited fs)
  waited_both es fs h =
      let k : Each (HasChoice s) (waited es ++ waited fs) = subst (Each (HasChoice s)) (waited-append es fs) h in
      (all_left (HasChoice s) (waited es) (waited fs) k, all_right (HasChoice s) (waited es) (waited fs) k)

  children_judged : (ys : List ((e : Expr) × Judged e)) (ms : List Bool) (xs : List (List ℕ)) (B : List ℕ → Bool) →
      IsTrue (closed_all ms xs (map (is_typable_tree n) (map (λ y. y.0) ys)) B) → (os : List Operand) (v : ℕ) (c d : Context) → Sees s n c d →
      (λ (fs : List Found).
      MeetAll s (asked (all_entries fs)) → Each (HasChoice s) (waited (all_entries fs)) → MeetAll s (operands_meet os (map (λ f. f.type) fs)) →
      HaveTypes d (map (λ y. y.0) ys) (map (seen_operand s) os) (types_under fs))
      (children (map visit (map (λ y. y.0) ys)) os v c).found
  children_judged [] ms xs B t os v c d h = λ ha hw ho. none_more d (map (seen_operand s) os)
  children_judged (y ∷ ys) ms xs B t [] v c d h = λ ha hw ho.
      let es : List Expr = map (λ y. y.0) ys in
      let one : Found = visit y.0 v (with_bound [] c) in
      let fs : List Found = (children (map visit es) [] one.next c).found in
      let r = first_and_rest ms xs (is_typable_tree n y.0) (map (is_typable_tree n) es) B t in
      let a = asked_both one.entries (all_entries fs) ha in
      let w = waited_both one.entries (all_entries fs) hw in
      another d y.0 es (map (apply s) one.types) (types_under fs)
      (y.1 r.names r.first v (with_bound [] c) d (sees_same c d h) a.0 w.0)
      (children_judged ys r.others xs B r.rest [] one.next c d h a.1 w.1 tt)
  children_judged (y ∷ ys) ms xs B t (o ∷ os) v c d h = λ ha hw ho.
      let es : List Expr = map (λ y. y.0) ys in
      let under : Context = with_bound o.under c in
      let one : Found = visit y.0 v under in
      let fs : List Found = (children (map visit es) os one.next c).found in
      let r = first_and_rest ms xs (is_typable_tree n y.0) (map (is_typable_tree n) es) B t in
      let a = asked_both one.entries (all_entries fs) ha in
      let w = waited_both one.entries (all_entries fs) hw in
      let b = types_begin y.0 v under in
      let q : map (apply s) one.types ≡ apply s o.type ∷ map (apply s) b.0 =
      ap (map (apply s)) b.1 ∙ ap (λ z. z ∷ map (apply s) b.0) (sym ho.0) in
      let first : HasTypes (with_bound (seen_scope s o.under) d) y.0 (map (apply s) one.types) =
      y.1 r.names r.first v under (with_bound (seen_scope s o.under) d) (sees_more c d o.under h) a.0 w.0 in
      let rest : HaveTypes d es (map (seen_operand s) os) (types_under fs) = children_judged ys r.others xs B r.rest os one.next c d h a.1 w.1 ho.1 in
      let P : List Term → Type 0 = λ z. HasTypes (with_bound (seen_scope s o.under) d) y.0 z in
      let Q : List Term → Type 0 = λ z. HaveTypes d (y.0 ∷ es) (map (seen_operand s) (o ∷ os)) (z ∷ types_under fs) in
      subst Q (sym q) (one_more d y.0 es (seen_operand s o) (map (seen_operand s) os) (map (apply s) b.0) (types_under fs) (subst P q first) rest)

  joined_under : (fs : List Found) → map (apply s) (all_types fs) ≡ joined_types (types_under fs)
  joined_under [] = refl
  joined_under (f ∷ fs) = map-append (apply s) f.types (all_types fs) ∙ ap (λ z. map (apply s) f.types ++ z) (joined_under fs)

  visits_length : (es : List Expr) → length (map visit es) ≡ length es
  visits_length [] = refl
  visits_length (e ∷ es) = ap suc (visits_length es)

  node_judged : (p : Place) (o : Op) (xs : List (List ℕ)) (ys : List ((e : Expr) × Judged e)) (B : List ℕ → Bool) →
      IsTrue (is_typable_op n o B) → IsTrue (closed_all (marks (role o (length xs))) xs (map (is_typable_tree n) (map (λ y. y.0) ys)) B) →
      (v : ℕ) (c d : Context) → Sees s n c d →
      (λ (f : Found). MeetAll s (asked f.entries) → Each (HasChoice s) (waited f.entries) → HasTypes d (node p o xs (map (λ y. y.0) ys)) (map (apply s) f.types))
      (visit_node (record { place = p; op = o; args = map visit (map (λ y. y.0) ys); binds = xs }) v c)
  node_judged p o xs ys B g t v c d h = λ ha hw.
      let es : List Expr = map (λ y. y.0) ys in
      let m : ℕ = length (map visit es) in
      let r : TypeRow = row_of c o xs m in
      let sig : Signature = r.says (λ k. var (v + k)) in
      let ks : Children = children (map visit es) sig.operands (v + r.unknowns) c in
      let fs : List Found = ks.found in
      let own : List Requirement = operands_meet sig.operands (map (λ f. f.type) fs) ++ fields_asked o v in
      let ws : List Wait = waiting p o v (sights fs) in
      let a = asked_both (all_entries fs) (Asks p own ∷ all_wait ws) ha in
      let w = waited_both (all_entries fs) (Asks p own ∷ all_wait ws) hw in
      let mine : MeetAll s own = meet_left s own (asked (all_wait ws)) a.1 in
      let there : Each (HasChoice s) (waiting p o v (map sight_of es)) =
      subst (Each (HasChoice s)) (waited-all ws ∙ ap (waiting p o v) (all_seen es sig.operands (v + r.unknowns) c)) w.1 in
      let saw : seen s sig ≡ (row_of d o xs (length es)).says (λ k. s.type_of (v + k)) =
      row_through c d o B xs m g h (λ k. var (v + k)) ∙ ap (λ z. (row_of d o xs z).says (λ k. s.type_of (v + k))) (visits_length es) in
      let P : Signature → Type 0 = λ z. HaveTypes d es z.operands (types_under fs) in
      let kids : HaveTypes d es ((row_of d o xs (length es)).says (λ k. s.type_of (v + k))).operands (types_under fs) =
      subst P saw (children_judged ys (marks (role o (length xs))) xs B t sig.operands (v + r.unknowns) c d h a.0 w.0
      (meet_left s (operands_meet sig.operands (map (λ f. f.type) fs)) (fields_asked o v) mine)) in
      let rule : HasTypes d (node p o xs es) (((row_of d o xs (length es)).says (λ k. s.type_of (v + k))).result ∷ joined_types (types_under fs)) =
      make d (node p o xs es) (record { place = p; op = o; args = es; binds = xs }) (out-roll-Expr (record { place = p; op = o; args = es; binds = xs })) v (types_under fs)
      kids (meet_right s (operands_meet sig.operands (map (λ f. f.type) fs)) (fields_asked o v) mine) there in
      let Q : List Term → Type 0 = λ z. HasTypes d (node p o xs es) z in
      subst Q (λ i. (sym saw i).result ∷ sym (joined_under fs) i) rule

  pub tree_judged : (e : Expr) → Judged e
  tree_judged = by_nodes Judged (λ p o xs ys B t v c d h.
      let es : List Expr = map (λ y. y.0) ys in
      let w : Bool = is_typable_op n o B in
      let q : Bool = closed_all (marks (role o (length xs))) xs (map (is_typable_tree n) es) B in
      let both : IsTrue (w && q) = sym (typable-node n p o xs es B) ∙ t in
      let Q : Found → Type 0 = λ f. MeetAll s (asked f.entries) → Each (HasChoice s) (waited f.entries) → HasTypes d (node p o xs es) (map (apply s) f.types) in
      subst Q (sym (visit-node p o xs es v c)) (node_judged p o xs ys B (and_left w q both) (and_right w q both) v c d h))
