-- What the types and the form of a node say of its children.
use Rattle.std.proofs.Common.{◌≡◌, ℕ, zero, suc, ◌+◌, Bool, true, false, not, ◌&&◌, ◌||◌, List, [], ◌∷◌, ◌++◌, map, take, drop, length, refl, sym, ◌∙◌, ap, subst, Option, Some, None, arith, if◌then◌else◌}
use Rattle.std.specs.Prelude.{replicate, nat_eq}
use Rattle.std.specs.List.{list_all}
use Rattle.std.proofs.lemmas.Bool.{eqb-true}
use Rattle.std.proofs.lemmas.List.{append_assoc}
use Rattle.tla_meaning.specs.declared.expr.Expr.{Expr, out-Expr}
use Rattle.tla_meaning.specs.declared.expr.Expr.TheOpen.{Expr-F}
use Rattle.tla_meaning.specs.declared.expr.Expr.TheFolds.{fold_out-Expr, map-Expr}
use Rattle.tla_meaning.specs.declared.op.Op.{Op}
use Rattle.tla_meaning.specs.declared.op.Op.TheVariants as op
use Rattle.tla_meaning.specs.declared.place.Place.{Place}
use Rattle.tla_meaning.proofs.Views.{and_left, and_right}
use Rattle.snowcat_rows.specs.Types.{Term, mean}
use Rattle.snowcat_rows.specs.Substitutions.{Sub}
use Rattle.snowcat_rows.specs.declared.types.Ty.{Ty}
use Rattle.snowcat_types.specs.TypeForms.{bool_type}
use Rattle.snowcat_types.specs.Rows.{Operand, Context, noted_row, from_type, sets_of, branches, with_bound, index_types, update_operands, plain as plain_operand}
use Rattle.snowcat_types.specs.Requirements.{MeetAll}
use Rattle.snowcat_types.specs.Systems.{fields_asked}
use Rattle.snowcat_types.specs.Typings.{Each}
use Rattle.snowcat_types.specs.Waiting.{waiting}
use Rattle.snowcat_types.specs.Judgement.{sight_of, HasChoice, joined_types, HasTypes, HaveTypes, none_more, one_more}
use Rattle.kernel_trees.specs.TypeKinds.{Kind, kind_of}
use Rattle.kernel_reduction.specs.Infinite.{is_infinite, form_child, infinite_here, infinite_below, infinite_node, infinite_in}
use Rattle.kernel_reduction.specs.Whole.{operand_count, binds_enough, is_declared, names_enough, whole_node, is_whole}
use Rattle.kernel_reduction.proofs.KindsOf.{Of, AreOf, no_more, and_of}
use Rattle.kernel_reduction.proofs.SameRows.{signature, types_of}

-- ---- as many operands as children

same_replicate : (n : ℕ) (x y : Term) → length (map plain_operand (replicate n x)) ≡ length (map plain_operand (replicate n y))
same_replicate zero x y = refl
same_replicate (suc n) x y = ap suc (same_replicate n x y)

same_branches : (n : ℕ) (x y : Term) → length (map plain_operand (branches x n)) ≡ length (map plain_operand (branches y n))
same_branches zero x y = refl
same_branches (suc zero) x y = refl
same_branches (suc (suc n)) x y = ap (λ k. suc (suc k)) (same_branches n x y)

same_from : (a b : ℕ → Term) (i n : ℕ) → length (map plain_operand (from_type a i n)) ≡ length (map plain_operand (from_type b i n))
same_from a b i zero = refl
same_from a b i (suc n) = ap suc (same_from a b (i + 1) n)

same_sets : (a b : ℕ → Term) (i n : ℕ) (os ps : List Operand) → length os ≡ length ps →
    length (map plain_operand (sets_of (from_type a i n)) ++ os) ≡ length (map plain_operand (sets_of (from_type b i n)) ++ ps)
same_sets a b i zero os ps h = h
same_sets a b i (suc n) os ps h = ap suc (same_sets a b (i + 1) n os ps h)

same_only_sets : (a b : ℕ → Term) (i n : ℕ) →
    length (map plain_operand (sets_of (from_type a i n))) ≡ length (map plain_operand (sets_of (from_type b i n)))
same_only_sets a b i zero = refl
same_only_sets a b i (suc n) = ap suc (same_only_sets a b (i + 1) n)

same_indexes : (a b : ℕ → Term) (i n : ℕ) (os ps : List Operand) → length os ≡ length ps →
    length (map plain_operand (index_types a i n) ++ os) ≡ length (map plain_operand (index_types b i n) ++ ps)
same_indexes a b i zero os ps h = h
same_indexes a b i (suc n) os ps h = ap suc (same_indexes a b (i + 1) n os ps h)

same_updates : (xs : List (List ℕ)) (a b : ℕ → Term) (i : ℕ) (ns : List ℕ) →
    length (update_operands xs a i ns) ≡ length (update_operands xs b i ns)
same_updates xs a b i [] = refl
same_updates xs a b i (n ∷ ns) = same_indexes a b i n _ _ (ap suc (same_updates xs a b (i + n) ns))

same_noted : (o : Option Term) (a : ℕ → Term) → length ((noted_row o).says a).operands ≡ 1
same_noted None a = refl
same_noted (Some t) a = refl

same_count : (c : Context) (o : Op) (xs : List (List ℕ)) (n : ℕ) (a : ℕ → Term) →
    length (signature c o xs n a).operands ≡ operand_count o xs n
same_count c op.And xs n a = same_replicate n bool_type bool_type
same_count c op.Or xs n a = same_replicate n bool_type bool_type
same_count c (op.Case other) xs n a = same_branches n (a 0) bool_type
same_count c op.SetEnum xs n a = same_replicate n (a 0) bool_type
same_count c op.Product xs n a = same_only_sets a (λ k. bool_type) 0 n
same_count c op.Tuple xs zero a = refl
same_count c op.Tuple xs (suc n) a = ap suc (same_from a (λ k. bool_type) 3 n)
same_count c (op.RecSet fs) xs n a = same_only_sets a (λ k. bool_type) 0 n
same_count c (op.Record fs) xs n a = same_from a (λ k. bool_type) 0 n
same_count c op.Exists xs n a = same_sets a (λ k. bool_type) 0 (length xs) _ _ refl
same_count c op.Forall xs n a = same_sets a (λ k. bool_type) 0 (length xs) _ _ refl
same_count c op.Filter xs n a = same_sets a (λ k. bool_type) 0 (length xs) _ _ refl
same_count c op.MapTo xs n a = same_sets a (λ k. bool_type) 0 (length xs) _ _ refl
same_count c op.Lambda xs n a = same_sets a (λ k. bool_type) 0 (length xs) _ _ refl
same_count c (op.Except ns) xs n a = ap suc (same_updates xs a (λ k. bool_type) 0 ns)
same_count c (op.Noted x) xs n a = same_noted (c.noted x) a
same_count c o xs n a = refl

-- ---- whole trees without an infinite set outside a form position

module _ (m : ℕ) where
  abbrev pub Fine : Bool → Expr → Type 0
  Fine b e = (is_whole m e ≡ true) × (infinite_in e b ≡ [])

  -- from number n on, each in its position
  abbrev pub AllFine : (ℕ → Bool) → ℕ → List Expr → Type 0
  AllFine f n [] = Unit {0}
  AllFine f n (e ∷ es) = Fine (f n) e × AllFine f (suc n) es

  pub record NodeFine (b : Bool) (o : Op) (xs : List (List ℕ)) (es : List Expr) : Type 0 where
    pub count : operand_count o xs (length es) ≡ length es
    pub binds : binds_enough o (length xs) ≡ true
    pub declared : is_declared m o ≡ true
    pub fields : names_enough o (length es) ≡ true
    pub here : (not (is_infinite o) || b) ≡ true
    pub below : AllFine (λ n. form_child o n b) 0 es

  nil_left : (xs ys : List Place) → xs ++ ys ≡ [] → (xs ≡ []) × (ys ≡ [])
  nil_left [] ys h = (refl, h)
  nil_left (x ∷ xs) ys h = absurd (cc)

  none_here : (d b : Bool) (p : Place) → (if d && not b then p ∷ [] else []) ≡ [] → (not d || b) ≡ true
  none_here false b p h = refl
  none_here true true p h = refl
  none_here true false p h = absurd (cc)

  long_map : {X Y : Type 0} (f : X → Y) (xs : List X) → length (map f xs) ≡ length xs
  long_map f [] = refl
  long_map f (x ∷ xs) = ap suc (long_map f xs)

  whole_out : (e : Expr) → is_whole m e ≡ whole_node m (map-Expr Expr Bool (is_whole m) (out-Expr e))
  unfolding is_whole
  whole_out e = fold_out-Expr Bool (whole_node m) e

  infinite_out : (e : Expr) (b : Bool) →
      infinite_in e b ≡ infinite_node (map-Expr Expr (Bool → List Place) infinite_in (out-Expr e)) b
  unfolding infinite_in
  infinite_out e b = ap (λ (f : Bool → List Place). f b) (fold_out-Expr (Bool → List Place) infinite_node e)

  fine_below : (o : Op) (b : Bool) (n : ℕ) (es : List Expr) → list_all (λ (b : Bool). b) (map (is_whole m) es) ≡ true →
      infinite_below o n b (map infinite_in es) ≡ [] → AllFine (λ n. form_child o n b) n es
  fine_below o b n [] h g = tt
  fine_below o b n (e ∷ es) h g =
      let r = nil_left (infinite_in e (form_child o n b)) (infinite_below o (suc n) b (map infinite_in es)) g in (
        (and_left (is_whole m e) (list_all (λ (b : Bool). b) (map (is_whole m) es)) h, r.0),
        fine_below o b (suc n) es (and_right (is_whole m e) (list_all (λ (b : Bool). b) (map (is_whole m) es)) h) r.1,
      )

  pub fine_at : (b : Bool) (e : Expr) → Fine b e → NodeFine b (out-Expr e).op (out-Expr e).binds (out-Expr e).args
  fine_at b e (h, g) =
      by (out-Expr e) (sym (whole_out e) ∙ h) (sym (infinite_out e b) ∙ g)
    where
      by : (x : Expr-F Expr) → whole_node m (map-Expr Expr Bool (is_whole m) x) ≡ true →
          infinite_node (map-Expr Expr (Bool → List Place) infinite_in x) b ≡ [] → NodeFine b x.op x.binds x.args
      by x h g =
          let n : ℕ = length (map (is_whole m) x.args) in
          let l : n ≡ length x.args = long_map (is_whole m) x.args in
          let count : Bool = nat_eq (operand_count x.op x.binds n) n in
          let binds : Bool = binds_enough x.op (length x.binds) in
          let rest : Bool = list_all (λ (b : Bool). b) (map (is_whole m) x.args) in
          let named : Bool = names_enough x.op n in
          let front = and_left ((count && binds) && (is_declared m x.op && named)) rest h in
          let two = and_left (count && binds) (is_declared m x.op && named) front in
          let three = and_right (count && binds) (is_declared m x.op && named) front in
          let i = nil_left (infinite_here x.op x.place b) (infinite_below x.op 0 b (map infinite_in x.args)) g in record {
            count =
                subst (λ (k : ℕ). operand_count x.op x.binds k ≡ k) l
                (eqb-true (operand_count x.op x.binds n) n (and_left count binds two));
            binds = and_right count binds two;
            declared = and_left (is_declared m x.op) named three;
            fields = subst (λ (k : ℕ). names_enough x.op k ≡ true) l (and_right (is_declared m x.op) named three);
            here = none_here (is_infinite x.op) b x.place i.0;
            below =
                fine_below x.op b 0 x.args (and_right ((count && binds) && (is_declared m x.op && named)) rest h) i.1;
          }

  pub fine_take : (f : ℕ → Bool) (k n : ℕ) (es : List Expr) → AllFine f n es → AllFine f n (take k es)
  fine_take f zero n es h = tt
  fine_take f (suc k) n [] h = tt
  fine_take f (suc k) n (e ∷ es) h = (h.0, fine_take f k (suc n) es h.1)

  fine_from : (n k : ℕ) (es : List Expr) → AllFine (λ n. false) n es → AllFine (λ n. false) k es
  fine_from n k [] h = tt
  fine_from n k (e ∷ es) h = (h.0, fine_from (suc n) (suc k) es h.1)

  pub fine_drop : (k n : ℕ) (es : List Expr) → AllFine (λ n. false) n es → AllFine (λ n. false) 0 (drop k es)
  fine_drop zero n es h = fine_from n 0 es h
  fine_drop (suc k) n [] h = tt
  fine_drop (suc k) n (e ∷ es) h = fine_drop k (suc n) es h.1

-- ---- types that are read

abbrev pub Have : List Ty → Type 0
Have [] = Unit {0}
Have (t ∷ ts) = ((a : Kind) × (kind_of t ≡ Some a)) × Have ts

-- these types mean these, and each has a kind
abbrev pub Reads : List Ty → List Term → Type 0
Reads ts xs = (map mean ts ≡ xs) × Have ts

-- each is of a kind
abbrev pub AllOf : List Term → Type 0
AllOf [] = Unit {0}
AllOf (x ∷ xs) = ((a : Kind) × Of x a) × AllOf xs

pub all_of : (ts : List Ty) → Have ts → AllOf (map mean ts)
all_of [] h = tt
all_of (t ∷ ts) h = ((h.0.0, (t, h.0.1, refl)), all_of ts h.1)

pub of_left : (xs ys : List Term) → AllOf (xs ++ ys) → AllOf xs
of_left [] ys h = tt
of_left (x ∷ xs) ys h = (h.0, of_left xs ys h.1)

pub of_right : (xs ys : List Term) → AllOf (xs ++ ys) → AllOf ys
of_right [] ys h = h
of_right (x ∷ xs) ys h = of_right xs ys h.1

-- ---- the types of children

abbrev pub is_none : {X : Type 0} → List X → Bool
is_none [] = true
is_none (x ∷ xs) = false

abbrev pub all_plain : List Operand → Bool
all_plain [] = true
all_plain (o ∷ os) = is_none o.under && all_plain os

pub plain_map : (ts : List Term) → all_plain (map plain_operand ts) ≡ true
plain_map [] = refl
plain_map (t ∷ ts) = plain_map ts

pub record Front (c : Context) (e : Expr) (es : List Expr) (o : Operand) (os : List Operand) (tss : List (List Term)) :
    Type 0 where
  pub types : List Term
  pub others : List (List Term)
  pub are : tss ≡ (o.type ∷ types) ∷ others
  pub first : HasTypes (with_bound o.under c) e (o.type ∷ types)
  pub rest : HaveTypes c es os others

pub front_of : (c : Context) (e : Expr) (es : List Expr) (o : Operand) (os : List Operand) (tss : List (List Term)) →
    HaveTypes c (e ∷ es) (o ∷ os) tss → Front c e es o os tss
front_of _ _ _ _ _ _ (one_more c e es o os ts tss h g) =
    record { types = ts; others = tss; are = refl; first = h; rest = g }

pub none_of : (c : Context) (os : List Operand) (tss : List (List Term)) → HaveTypes c [] os tss → tss ≡ []
none_of _ _ _ (none_more c os) = refl

pub record Parted (c : Context) (es : List Expr) (os ps : List Operand) (tss : List (List Term)) : Type 0 where
  pub before : List (List Term)
  pub behind : List (List Term)
  pub are : joined_types tss ≡ joined_types before ++ joined_types behind
  pub front : HaveTypes c (take (length os) es) os before
  pub back : HaveTypes c (drop (length os) es) ps behind

pub parted : (c : Context) (es : List Expr) (os ps : List Operand) (tss : List (List Term)) →
    HaveTypes c es (os ++ ps) tss → Parted c es os ps tss
parted c es [] ps tss h = record { before = []; behind = tss; are = refl; front = none_more c []; back = h }
parted c [] (o ∷ os) ps tss h = record {
  before = [];
  behind = [];
  are = ap joined_types (none_of c ((o ∷ os) ++ ps) tss h);
  front = none_more c (o ∷ os);
  back = none_more c ps;
}
parted c (e ∷ es) (o ∷ os) ps tss h =
    let f = front_of c e es o (os ++ ps) tss h in
    let r = parted c es os ps f.others f.rest in record {
      before = (o.type ∷ f.types) ∷ r.before;
      behind = r.behind;
      are =
          ap joined_types f.are ∙ ap (λ z. (o.type ∷ f.types) ++ z) r.are
          ∙ sym (append_assoc (o.type ∷ f.types) (joined_types r.before) (joined_types r.behind));
      front = one_more c e (take (length os) es) o os f.types r.before f.first r.front;
      back = r.back;
    }

none_long : (n : ℕ) → 0 ≡ suc n → ⊥
none_long n e = omega (arith, e)

some_long : (n : ℕ) → suc n ≡ 0 → ⊥
some_long n e = omega (arith, e)

pub less : (m n : ℕ) → suc m ≡ suc n → m ≡ n
less m n e = omega (arith, e)

-- the kinds of operands, from the types of the children
pub kinds_of_operands : (c : Context) (es : List Expr) (os : List Operand) (tss : List (List Term)) →
    HaveTypes c es os tss → length os ≡ length es → AllOf (joined_types tss) →
    (as' : List Kind) × AreOf (types_of os) as'
kinds_of_operands c [] [] tss h l g = ([], no_more)
kinds_of_operands c [] (o ∷ os) tss h l g = absurd (some_long (length os) l)
kinds_of_operands c (e ∷ es) [] tss h l g = absurd (none_long (length es) l)
kinds_of_operands c (e ∷ es) (o ∷ os) tss h l g =
    let f = front_of c e es o os tss h in
    let g' : AllOf ((o.type ∷ f.types) ++ joined_types f.others) = subst (λ z. AllOf (joined_types z)) f.are g in
    let r =
    kinds_of_operands c es os f.others f.rest (less (length os) (length es) l)
    (of_right (o.type ∷ f.types) (joined_types f.others) g') in
    (g'.0.0 ∷ r.0, and_of o.type g'.0.0 (types_of os) r.0 g'.0.1 r.1)

-- ---- a node

pub record Met (m : ℕ) (c : Context) (p : Place) (o : Op) (es : List Expr) (xs : List (List ℕ)) (b : Bool) (x : Term)
    (tss : List (List Term)) : Type 0 where
  pub from : ℕ
  pub sub : Sub
  pub have : HaveTypes c es (signature c o xs (length es) (λ k. sub.type_of (from + k))).operands tss
  pub result : x ≡ (signature c o xs (length es) (λ k. sub.type_of (from + k))).result
  pub fields : MeetAll sub (fields_asked o from)
  pub choice : Each (HasChoice sub) (waiting p o from (map sight_of es))
  pub fine : NodeFine m b o xs es

-- what its row says of types
abbrev pub types_at : {m : ℕ} {c : Context} {p : Place} {o : Op} {es : List Expr} {xs : List (List ℕ)} {b : Bool}
    {x : Term} {tss : List (List Term)} → Met m c p o es xs b x tss → ℕ → Term
types_at h k = h.sub.type_of (h.from + k)

pub as_many : (m : ℕ) (c : Context) (p : Place) (o : Op) (es : List Expr) (xs : List (List ℕ)) (b : Bool) (x : Term)
    (tss : List (List Term)) (h : Met m c p o es xs b x tss) →
    length (signature c o xs (length es) (types_at h)).operands ≡ length es
as_many m c p o es xs b x tss h = same_count c o xs (length es) (types_at h) ∙ h.fine.count
