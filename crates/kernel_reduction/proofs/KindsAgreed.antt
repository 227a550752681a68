-- Where the types of a tree meet the rows of the type table and have kinds, what is built of a node as a value carries
-- a type of the kind of the node's own.
use Rattle.std.proofs.Common.{◌≡◌, ℕ, suc, Bool, true, ◌+◌, List, [], ◌∷◌, ◌++◌, map, drop, length, refl, sym, ◌∙◌, ap, subst, Option, Some, None}
use Rattle.std.specs.List.{list_all}
use Rattle.std.specs.Prelude.{is_some}
use Rattle.std.proofs.lemmas.List.{append-nil, append_assoc}
use Rattle.tla_meaning.proofs.Views.{and_left, and_right, false≢true}
use Rattle.tla_meaning.specs.declared.expr.Expr.{Expr, out-Expr}
use Rattle.tla_meaning.specs.declared.actions.Assignable.{Assignable}
use Rattle.tla_meaning.specs.declared.op.Op.{Op}
use Rattle.tla_meaning.specs.declared.place.Place.{Place}
use Rattle.snowcat_rows.specs.Types.{Term, mean}
use Rattle.snowcat_rows.specs.declared.types.Ty.{Ty}
use Rattle.snowcat_rows.specs.declared.types.Ty.TheVariants as ty
use Rattle.snowcat_types.specs.TypeForms.{bool_type, int_type}
use Rattle.snowcat_types.specs.Rows.{Operand, Context, noted_row, with_bound}
use Rattle.snowcat_types.specs.Judgement.{joined_types, HasTypes, HaveTypes, by_row, none_more, one_more, another}
use Rattle.kernel_trees.specs.declared.kernel.Ker.{Ker, out-roll-Ker}
use Rattle.kernel_trees.specs.declared.kernel.Ker.TheOpen.{Ker-F}
use Rattle.kernel_trees.specs.declared.kernel.KerOp.{KerOp}
use Rattle.kernel_trees.specs.TypeKinds.{Kind, kind_of}
use Rattle.kernel_trees.proofs.TypeLaws.{kind-Bool, kind-Int}
use Rattle.kernel_reduction.specs.JobPaths.{nodes}
use Rattle.kernel_reduction.specs.Reduction.{Numbering}
use Rattle.kernel_reduction.specs.Fitting.{the_kind, Fitting}
use Rattle.kernel_reduction.specs.SoundLaws.{has_kind}
use Rattle.kernel_reduction.specs.Builds.{Builds}
use Rattle.kernel_reduction.specs.Rows.{tree, type_of, Level, Change, changed, changed_at}
use Rattle.kernel_reduction.specs.BuildsTyped as typed
use Rattle.kernel_reduction.specs.BuildsTyped.{BuildsTyped, PathTyped, ChangesTyped, TypedNode}
use Rattle.kernel_reduction.proofs.KindsOf.{same_of, is_truth, is_number}
use Rattle.kernel_reduction.proofs.SameRows.{signature}
use Rattle.kernel_reduction.proofs.BuiltParts.{Have, Reads}
use Rattle.kernel_reduction.proofs.FittingTyped.{KindsAgree, EachAgrees, at_tree, no_trees, more_trees, plus, count, nodes_out, typed_fits, typed_levels}
use Rattle.kernel_reduction.proofs.Levelled.{Levelled}
use Rattle.kernel_reduction.proofs.Lengths.{cons_first, cons_rest}

-- ---- roots

own : (p : Place) (t : Ty) (o : KerOp) (ks : List Ker) (ns : List ℕ) → kind_of (type_of (tree p t o ks ns)) ≡ kind_of t
own p t o ks ns =
    ap (λ (x : Ker-F Ker). kind_of x.ty) (out-roll-Ker (record { place = p; ty = t; op = o; args = ks; binds = ns }))

changed_one : (p : Place) (t : Ty) (f : Ker) (ls : List Level) (e : Ker) → kind_of (type_of f) ≡ kind_of t →
    kind_of (type_of (changed_at p t f ls e)) ≡ kind_of t
changed_one p t f [] e h = h
changed_one p t f (l ∷ []) e h = own p t _ _ _
changed_one p t f (l ∷ m ∷ ls) e h = own p t _ _ _

changed_all : (p : Place) (t : Ty) (f : Ker) (ds : List Change) → kind_of (type_of f) ≡ kind_of t →
    kind_of (type_of (changed p t f ds)) ≡ kind_of t
changed_all p t f [] h = h
changed_all p t f (d ∷ ds) h =
    changed_all p t (changed_at p t f d.levels d.right) ds (changed_one p t f d.levels d.right h)

-- an EXCEPT has an update, and this an index
changed_first : (p : Place) (t : Ty) (f e : Ker) {ρ : Numbering} {x ns : List ℕ} {n : ℕ} {es : List Expr} {ts : List Ty}
    {ls : List Level} {us : List Ty} → PathTyped ρ x ns (suc n) es ts ls e us →
    kind_of (type_of (changed_at p t f ls e)) ≡ kind_of t
changed_first p t f e (typed.one_level ρ x ns n a es l [] k ts us vs d1 d2) = own p t _ _ _
changed_first p t f e (typed.one_level ρ x ns n a es l (m ∷ ls) k ts us vs d1 d2) = own p t _ _ _

changed_own : (p : Place) (t : Ty) (f : Ker) (d : Change) (ds : List Change) {ρ : Numbering} {x ns cs : List ℕ}
    {es : List Expr} {ts us : List Ty} → ChangesTyped ρ x ns cs es ts (d ∷ ds) us →
    kind_of (type_of (changed p t f (d ∷ ds))) ≡ kind_of t
changed_own p t f d ds (typed.one_change ρ x ns n cs es _ _ ts us vs g h) =
    changed_all p t (changed_at p t f d.levels d.right) ds (changed_first p t f d.right g)

-- ---- nodes

truth_kind : (p : Place) (t : Ty) (a : Kind) (o : KerOp) (ks : List Ker) (ns : List ℕ) → kind_of t ≡ Some a →
    mean t ≡ bool_type → kind_of (type_of (tree p ty.Bool o ks ns)) ≡ kind_of t
truth_kind p t a o ks ns q r =
    own p ty.Bool o ks ns ∙ kind-Bool ∙ ap Some (sym (is_truth a (t, q, r))) ∙ sym q

number_kind : (p : Place) (t : Ty) (a : Kind) (o : KerOp) (ks : List Ker) (ns : List ℕ) → kind_of t ≡ Some a →
    mean t ≡ int_type → kind_of (type_of (tree p ty.Int o ks ns)) ≡ kind_of t
number_kind p t a o ks ns q r =
    own p ty.Int o ks ns ∙ kind-Int ∙ ap Some (sym (is_number a (t, q, r))) ∙ sym q

-- a note has the type of what it notes
noted_same : (c : Context) (y : Option Term) (s : ℕ → Term) (e : Expr) (es : List Expr) (tss : List (List Term)) →
    HaveTypes c (e ∷ es) ((noted_row y).says s).operands tss → (t : Ty) (ts : List Ty) (rest : List Term) →
    Reads (t ∷ ts) (joined_types tss ++ rest) → mean t ≡ ((noted_row y).says s).result
noted_same c None s e es _ (one_more _ _ _ _ _ xs tss h g) t ts rest r = cons_first r.0
noted_same c (Some u) s e es _ (one_more _ _ _ _ _ xs tss h g) t ts rest r = cons_first r.0

node_kind : {ρ : Numbering} {p : Place} {t : Ty} {o : Op} {es : List Expr} {xs : List (List ℕ)} {ts : List Ty} {k : Ker}
    {us : List Ty} → TypedNode None ρ p t o es xs ts k us → (c : Context) (s : ℕ → Term) (tss : List (List Term)) →
    HaveTypes c es (signature c o xs (length es) s).operands tss → mean t ≡ (signature c o xs (length es) s).result →
    (a : Kind) → kind_of t ≡ Some a → (rest : List Term) → Reads ts (joined_types tss ++ rest) → EachAgrees es ts →
    kind_of (type_of k) ≡ kind_of t
node_kind (typed.boolean ρ p t b xs ts) c s tss have r a q rest reads ag = own p t _ _ _
node_kind (typed.integer ρ p t i xs ts) c s tss have r a q rest reads ag = own p t _ _ _
node_kind (typed.text ρ p t x xs ts) c s tss have r a q rest reads ag = own p t _ _ _
node_kind (typed.declared ρ p t i primed xs ts) c s tss have r a q rest reads ag = own p t _ _ _
node_kind (typed.bound_name ρ p t x n xs ts e) c s tss have r a q rest reads ag = own p t _ _ _
node_kind (typed.same ρ p t o ko es xs kers ts us e i ch d) c s tss have r a q rest reads ag = own p t _ _ _
node_kind (typed.range ρ p t es xs k l ts us d) c s tss have r a q rest reads ag = own p t _ _ _
node_kind (typed.binder ρ p t o ko es xs kers bs ns ts us vs e i f d1 d2) c s tss have r a q rest reads ag =
    own p t _ _ _
node_kind (typed.fold ρ p t es xs bs kers ns ts us vs f d1 d2) c s tss have r a q rest reads ag = own p t _ _ _
node_kind (typed.noted _ ρ p t x es xs k _ us (typed.one_more _ _ e _ es' _ ts vs _ d ds)) c s tss have r a q rest reads
    (more_trees _ _ _ (at_tree _ u us' h kept below) ag) =
    let m : mean u ≡ mean t = noted_same c _ s e es' tss have u us' rest reads ∙ sym r in
    kept ρ k vs d ∙ h.1 ∙ ap Some (same_of (mean t) h.0 a (u, h.1, m) (t, q, refl)) ∙ sym q
node_kind (typed.assign ρ p t es xs kers ts us d) c s tss have r a q rest reads ag = truth_kind p t a _ _ _ q r
node_kind (typed.implies ρ p t es xs k l ts us d) c s tss have r a q rest reads ag = truth_kind p t a _ _ _ q r
node_kind (typed.unequal ρ p t es xs kers ts us d) c s tss have r a q rest reads ag = truth_kind p t a _ _ _ q r
node_kind (typed.no_member ρ p t es xs kers ts us d) c s tss have r a q rest reads ag = truth_kind p t a _ _ _ q r
node_kind (typed.greater ρ p t es xs k l ts us d) c s tss have r a q rest reads ag = truth_kind p t a _ _ _ q r
node_kind (typed.at_most ρ p t es xs k l ts us d) c s tss have r a q rest reads ag = truth_kind p t a _ _ _ q r
node_kind (typed.at_least ρ p t es xs kers ts us d) c s tss have r a q rest reads ag = truth_kind p t a _ _ _ q r
node_kind (typed.negative ρ p t es xs k ts us d) c s tss have r a q rest reads ag = number_kind p t a _ _ _ q r
node_kind (typed.finite ρ p t es xs k n ts us f d) c s tss have r a q rest reads ag = truth_kind p t a _ _ _ q r
node_kind (typed.truth_values ρ p t xs ts) c s tss have r a q rest reads ag = own p t _ _ _
node_kind (typed.equivalent ρ p t es xs u n k m ts us y f d) c s tss have r a q rest reads ag =
    truth_kind p t a _ _ _ q r
node_kind (typed.one_pair ρ p t es xs u n z k m ts us y f e d) c s tss have r a q rest reads ag = own p t _ _ _
node_kind (typed.power ρ p t es xs u n k m j ts us y f e le d) c s tss have r a q rest reads ag = own p t _ _ _
node_kind (typed.high_power ρ p t es xs u n k m j ts us y f e le d) c s tss have r a q rest reads ag = own p t _ _ _
node_kind (typed.field ρ p t es xs k m x ts us y e d) c s tss have r a q rest reads ag = own p t _ _ _
node_kind (typed.low_item ρ p t es xs k m j ts us y e le d) c s tss have r a q rest reads ag = own p t _ _ _
node_kind (typed.high_item ρ p t es xs u n k m j ts us y f z e le d) c s tss have r a q rest reads ag = own p t _ _ _
node_kind (typed.except ρ p t cs e es x u n f d ds ts us vs pl le d1 d2) c s tss have r a q rest reads ag =
    changed_own p t f d ds d2
node_kind (typed.except_let ρ p t cs e es x u n f ds ts us vs pl le re d1 d2) c s tss have r a q rest reads ag =
    own p t _ _ _
node_kind (typed.cases ρ p t other es xs [] ts us y d) c s tss have r a q rest reads ag = absurd (false≢true y)
node_kind (typed.cases ρ p t other es xs (k ∷ []) ts us y d) c s tss have r a q rest reads ag = absurd (false≢true y)
node_kind (typed.cases ρ p t other es xs (g ∷ k ∷ kers) ts us y d) c s tss have r a q rest reads ag = own p t _ _ _

root_kind : (ρ : Numbering) (e : Expr) (t : Ty) (ts : List Ty) (k : Ker) (us : List Ty) →
    BuildsTyped None ρ e (t ∷ ts) k us → (c : Context) (s : ℕ → Term) (tss : List (List Term)) →
    HaveTypes c (out-Expr e).args
    (signature c (out-Expr e).op (out-Expr e).binds (length (out-Expr e).args) s).operands tss →
    mean t ≡ (signature c (out-Expr e).op (out-Expr e).binds (length (out-Expr e).args) s).result →
    (a : Kind) → kind_of t ≡ Some a → (rest : List Term) → Reads ts (joined_types tss ++ rest) →
    EachAgrees (out-Expr e).args ts → kind_of (type_of k) ≡ kind_of t
root_kind ρ e t ts k us (typed.at_node _ _ _ _ _ _ _ d) c s tss h r a q rest w ag =
    node_kind d c s tss h r a q rest w ag

-- ---- trees

length_plus : {X : Type 0} (xs ys : List X) → length (xs ++ ys) ≡ plus (length xs) (length ys)
length_plus [] ys = refl
length_plus (x ∷ xs) ys = ap suc (length_plus xs ys)

mutual
  types_long : (c : Context) (e : Expr) (xs : List Term) → HasTypes c e xs → length xs ≡ nodes e
  types_long _ _ _ (by_row c e v s tss h f g) = ap suc (all_types_long c (out-Expr e).args _ tss h) ∙ sym (nodes_out e)

  all_types_long : (c : Context) (es : List Expr) (os : List Operand) (tss : List (List Term)) → HaveTypes c es os tss →
      length (joined_types tss) ≡ count es
  all_types_long _ _ _ _ (none_more c os) = refl
  all_types_long _ _ _ _ (one_more c e es o os ts tss h g) =
      length_plus (o.type ∷ ts) (joined_types tss) ∙ ap (λ n. plus n (length (joined_types tss)))
      (types_long (with_bound o.under c) e (o.type ∷ ts) h)
      ∙ ap (plus (nodes e)) (all_types_long c es os tss g)
  all_types_long _ _ _ _ (another c e es ts tss h g) =
      length_plus ts (joined_types tss) ∙ ap (λ n. plus n (length (joined_types tss))) (types_long c e ts h)
      ∙ ap (plus (nodes e)) (all_types_long c es [] tss g)

reads_drop : (xs : List Term) (ts : List Ty) (rest : List Term) → Reads ts (xs ++ rest) →
    Reads (drop (length xs) ts) rest
reads_drop [] ts rest r = r
reads_drop (x ∷ xs) [] rest r = absurd (no_first r.0)
  where
    no_first : {x : Term} {xs : List Term} → [] ≡ x ∷ xs → ⊥
    no_first e = cc
reads_drop (x ∷ xs) (t ∷ ts) rest r = reads_drop xs ts rest (cons_rest r.0, r.1.1)

mutual
  pub kinds_agree : (c : Context) (e : Expr) (xs : List Term) → HasTypes c e xs → (ts : List Ty) (rest : List Term) →
      Reads ts (xs ++ rest) → KindsAgree e ts
  kinds_agree _ _ _ (by_row c e v s tss h f g) [] rest r = absurd (no_first r.0)
    where
      no_first : {x : Term} {xs : List Term} → [] ≡ x ∷ xs → ⊥
      no_first e = cc
  kinds_agree _ _ _ (by_row c e v s tss h f g) (t ∷ ts) rest r =
      let w : Reads ts (joined_types tss ++ rest) = (cons_rest r.0, r.1.1) in
      let as' = all_agree c (out-Expr e).args _ tss h ts rest w in
      at_tree e t ts r.1.0
      (λ ρ k us d. root_kind ρ e t ts k us d c (λ n. s.type_of (v + n)) tss h
      (cons_first r.0) r.1.0.0 r.1.0.1 rest w as') as'

  all_agree : (c : Context) (es : List Expr) (os : List Operand) (tss : List (List Term)) → HaveTypes c es os tss →
      (ts : List Ty) (rest : List Term) → Reads ts (joined_types tss ++ rest) → EachAgrees es ts
  all_agree _ _ _ _ (none_more c os) ts rest r = no_trees ts
  all_agree _ _ _ _ (one_more c e es o os xs tss h g) ts rest r =
      let w : Reads ts ((o.type ∷ xs) ++ (joined_types tss ++ rest)) =
      subst (Reads ts) (append_assoc (o.type ∷ xs) (joined_types tss) rest) r in
      more_trees e es ts (kinds_agree (with_bound o.under c) e (o.type ∷ xs) h ts (joined_types tss ++ rest) w)
      (all_agree c es os tss g (drop (nodes e) ts) rest
      (subst (λ n. Reads (drop n ts) (joined_types tss ++ rest)) (types_long (with_bound o.under c) e (o.type ∷ xs) h)
      (reads_drop (o.type ∷ xs) ts (joined_types tss ++ rest) w)))
  all_agree _ _ _ _ (another c e es xs tss h g) ts rest r =
      let w : Reads ts (xs ++ (joined_types tss ++ rest)) =
      subst (Reads ts) (append_assoc xs (joined_types tss) rest) r in
      more_trees e es ts (kinds_agree c e xs h ts (joined_types tss ++ rest) w)
      (all_agree c es [] tss g (drop (nodes e) ts) rest
      (subst (λ n. Reads (drop n ts) (joined_types tss ++ rest)) (types_long c e xs h)
      (reads_drop xs ts (joined_types tss ++ rest) w)))

some_kind : (o : Option Kind) → is_some o ≡ true → (a : Kind) × (o ≡ Some a)
some_kind None h = absurd (false≢true h)
some_kind (Some a) h = (a, refl)

all_have : (ts : List Ty) → list_all has_kind ts ≡ true → Have ts
all_have [] h = tt
all_have (t ∷ ts) h =
    let rest : Bool = list_all has_kind ts in
    (some_kind (kind_of t) (and_left (has_kind t) rest h), all_have ts (and_right (has_kind t) rest h))

-- so what is built fits
pub rows_fit : (i : Option Assignable) (ρ : Numbering) (e : Expr) (ts : List Ty) (k : Ker) (us : List Ty) →
    BuildsTyped i ρ e ts k us → (c : Context) → HasTypes c e (map mean ts) → list_all has_kind ts ≡ true →
    (b : Builds i ρ e k) × Fitting b (map the_kind ts)
rows_fit i ρ e ts k us d c h has =
    typed_fits i ρ e ts k us d
    (kinds_agree c e (map mean ts) h ts [] (sym (append-nil (map mean ts)), all_have ts has))

-- and its numbers are those of names around
pub rows_levelled : (i : Option Assignable) (ρ : Numbering) (e : Expr) (ts : List Ty) (k : Ker) (us : List Ty) →
    BuildsTyped i ρ e ts k us → (c : Context) → HasTypes c e (map mean ts) → list_all has_kind ts ≡ true →
    (b : Builds i ρ e k) × (Fitting b (map the_kind ts) × Levelled b)
rows_levelled i ρ e ts k us d c h has =
    typed_levels i ρ e ts k us d
    (kinds_agree c e (map mean ts) h ts [] (sym (append-nil (map mean ts)), all_have ts has))
