-- What is built with types is built of nodes that have the types which the table of shapes reads.
use Rattle.std.proofs.Common.{◌≡◌, ℕ, zero, suc, ◌+◌, List, [], ◌∷◌, ◌++◌, map, arith, take, drop, length, refl, sym, ◌∙◌, ap, subst, Option, Some, None}
use Rattle.std.specs.Prelude.{sum, option_map}
use Rattle.std.proofs.lemmas.List.Sums.{sum-map, sum_by-cons}
use Rattle.tla_meaning.specs.declared.actions.Assignable.{Assignable}
use Rattle.tla_meaning.specs.declared.expr.Expr.{Expr, out-Expr, roll-out-Expr}
use Rattle.tla_meaning.specs.declared.op.Op.{Op}
use Rattle.tla_meaning.specs.declared.place.Place.{Place}
use Rattle.snowcat_rows.specs.declared.types.Ty.{Ty}
use Rattle.snowcat_rows.specs.declared.types.Ty.TheVariants as ty
use Rattle.kernel_trees.specs.declared.kernel.Ker.{Ker}
use Rattle.kernel_trees.specs.declared.kernel.Ker.TheFolds.{fold_out-Ker}
use Rattle.kernel_trees.specs.declared.kernel.KerOp.{KerOp}
use Rattle.kernel_trees.specs.declared.kernel.KerOp.TheVariants as ker
use Rattle.kernel_trees.specs.TypeKinds.{Kind, Truth, Seq, Tup, kind_of, kinds, all_there}
use Rattle.kernel_trees.proofs.TypeLaws.{kind-Bool, kind-Seq, kind-Tup}
use Rattle.kernel_shapes.specs.Trees.{domain_row, first_kind, tuple_row}
use Rattle.kernel_shapes.specs.Kernel.{kind_or_truth, kinds_in, node_kinds}
use Rattle.kernel_shapes.specs.Rows.{a_sequence, a_tuple}
use Rattle.kernel_reduction.specs.JobPaths.{nodes}
use Rattle.kernel_reduction.specs.Reduction.{Numbering, numbered, upward}
use Rattle.kernel_reduction.specs.Making.{pair_type, let_of, pairs_type, RestsTyped}
use Rattle.kernel_reduction.specs.Rows.{type_of, Let, Level, Change, all_levels, level_numbers}
use Rattle.kernel_reduction.specs.Builds as rows
use Rattle.kernel_reduction.specs.Builds.{Builds, BuildsEach, BuildsArms, BuildsPath, BuildsChanges, BuildsNode}
use Rattle.kernel_reduction.specs.BuildsTyped as typed
use Rattle.kernel_reduction.specs.BuildsTyped.{BuildsTyped, EachTyped, ArmsTyped, PathTyped, ChangesTyped, TypedNode}
use Rattle.kernel_reduction.specs.Fitting.{the_kind, behind, first_of, LetTypes, IsSequenceType, IsTupleType, PairTypes, SameTable, Fitting, FittingEach, FittingArms, FittingPath, FittingChanges, FittingNode}
use Rattle.kernel_reduction.proofs.Levelled.{Levelled, LevelledEach, LevelledArms, LevelledNode, numbered_long}
use Rattle.kernel_reduction.proofs.JobTrees.{nodes-roll}
use Rattle.kernel_reduction.proofs.PathNumbers.{changes_fresh, under}
use Rattle.kernel_reduction.proofs.ShadowNumbers.{shadow_last}
use Rattle.kernel_reduction.proofs.Shadowed.{Shadows, shadow_all, shadow_fresh, shadow_let, shadow_new}
use Rattle.kernel_reduction.proofs.TypedBuilt.{let_numbers}

-- a type has a kind
abbrev pub HasKind : Ty → Type 0
HasKind t = (a : Kind) × (kind_of t ≡ Some a)

mutual
  -- each type of a tree's nodes has a kind, and what is built of a node as a value carries a type of that kind
  pub data KindsAgree : Expr → List Ty → Type 0 where
    at_tree : (e : Expr) (t : Ty) (ts : List Ty)
        → HasKind t
        → ((ρ : Numbering) (k : Ker) (us : List Ty) → BuildsTyped None ρ e (t ∷ ts) k us →
        kind_of (type_of k) ≡ kind_of t)
        → EachAgrees (out-Expr e).args ts
        → KindsAgree e (t ∷ ts)

  pub data EachAgrees : List Expr → List Ty → Type 0 where
    no_trees : (ts : List Ty) → EachAgrees [] ts
    more_trees : (e : Expr) (es : List Expr) (ts : List Ty)
        → KindsAgree e ts → EachAgrees es (drop (nodes e) ts) → EachAgrees (e ∷ es) ts

-- ---- types that are made

sequence_row : (o : Option Kind) → ((a : Kind) × (o ≡ Some a)) →
    tuple_row (kind_or_truth (option_map Seq o)) ≡ a_sequence
sequence_row o h = ap (λ z. tuple_row (kind_or_truth (option_map Seq z))) h.1

is_sequence_type : (t : Ty) → HasKind t → IsSequenceType (ty.Seq t)
is_sequence_type t h = ap (λ z. tuple_row (kind_or_truth z)) (kind-Seq t) ∙ sequence_row (kind_of t) h

tuple_row_of : (o : Option (List Kind)) → tuple_row (kind_or_truth (option_map (λ xs. Tup (kinds xs)) o)) ≡ a_tuple
tuple_row_of None = refl
tuple_row_of (Some xs) = refl

is_pair_type : (a b : Ty) → IsTupleType (pair_type a b)
is_pair_type a b =
    ap (λ z. tuple_row (kind_or_truth z)) (kind-Tup (a ∷ b ∷ []))
    ∙ tuple_row_of (all_there (kind_of a ∷ kind_of b ∷ []))

abbrev both_there : Option Kind → Option Kind → Option Kind
both_there a b = option_map (λ xs. Tup (kinds xs)) (all_there (a ∷ b ∷ []))

pair_has : (a b : Ty) → HasKind a → HasKind b → HasKind (pair_type a b)
pair_has a b h g =
    (Tup (kinds (h.0 ∷ g.0 ∷ [])), kind-Tup (a ∷ b ∷ []) ∙ (λ i. both_there (h.1 i) (g.1 i)))

let_has : (t s : Ty) (u n : ℕ) → HasKind t → HasKind s → LetTypes (let_of t s u n)
let_has t s u n h g = record { wholes = is_sequence_type t h; items = is_sequence_type s g }

bool_has : HasKind ty.Bool
bool_has = (Truth, kind-Bool)

-- ---- pairs of an operand and indexes

abbrev AllIndexes : List Level → Type 0
AllIndexes [] = Unit {0}
AllIndexes (l ∷ ls) = HasKind (type_of l.index) × AllIndexes ls

join_indexes : (ls ms : List Level) → AllIndexes ls → AllIndexes ms → AllIndexes (ls ++ ms)
join_indexes [] ms h g = g
join_indexes (l ∷ ls) ms h g = (h.0, join_indexes ls ms h.1 g)

pairs_have : (k : Ker) (ls : List Level) → HasKind (type_of k) → AllIndexes ls → HasKind (pairs_type k ls)
pairs_have k [] h g = h
pairs_have k (l ∷ ls) h g = pair_has (type_of k) (pairs_type l.index ls) h (pairs_have l.index ls g.0 g.1)

pairs_typed : (k : Ker) (ls : List Level) → RestsTyped ls → PairTypes (pairs_type k ls) ls
pairs_typed k [] r = tt
pairs_typed k (l ∷ ls) r = (
  is_pair_type (type_of k) (pairs_type l.index ls),
  subst (λ z. PairTypes z ls) (sym r.0) (pairs_typed l.index ls r.1),
)

-- ---- kinds in front of types

-- one that computes
abbrev pub plus : ℕ → ℕ → ℕ
plus zero n = n
plus (suc m) n = suc (plus m n)

plus_is : (m n : ℕ) → m + n ≡ plus m n
plus_is zero n = omega arith
plus_is (suc m) n = omega (arith, plus_is m n)

abbrev Front : ℕ → List Ty → List Kind → Type 0
Front zero ts ks = Unit {0}
Front (suc n) [] ks = Unit {0}
Front (suc n) (t ∷ ts) [] = ⊥
Front (suc n) (t ∷ ts) (k ∷ ks) = (k ≡ the_kind t) × Front n ts ks

front_all : (n : ℕ) (ts : List Ty) → Front n ts (map the_kind ts)
front_all zero ts = tt
front_all (suc n) [] = tt
front_all (suc n) (t ∷ ts) = (refl, front_all n ts)

front_none : (n : ℕ) (ks : List Kind) → Front n [] ks
front_none zero ks = tt
front_none (suc n) ks = tt

front_cut : (n : ℕ) (ts : List Ty) (ks : List Kind) → Front n ts ks → Front n ts (take n ks)
front_cut zero ts ks h = tt
front_cut (suc n) [] ks h = tt
front_cut (suc n) (t ∷ ts) [] h = h
front_cut (suc n) (t ∷ ts) (k ∷ ks) h = (h.0, front_cut n ts ks h.1)

front_left : (m n : ℕ) (ts : List Ty) (ks : List Kind) → Front (plus m n) ts ks → Front m ts ks
front_left zero n ts ks h = tt
front_left (suc m) n [] ks h = tt
front_left (suc m) n (t ∷ ts) [] h = h
front_left (suc m) n (t ∷ ts) (k ∷ ks) h = (h.0, front_left m n ts ks h.1)

front_right : (m n : ℕ) (ts : List Ty) (ks : List Kind) → Front (plus m n) ts ks → Front n (drop m ts) (drop m ks)
front_right zero n ts ks h = h
front_right (suc m) n [] ks h = front_none n (drop (suc m) ks)
front_right (suc m) n (t ∷ ts) [] h = absurd h
front_right (suc m) n (t ∷ ts) (k ∷ ks) h = front_right m n ts ks h.1

-- ---- trees beside each other

-- the types behind those of trees
abbrev past : List Expr → List Ty → List Ty
past [] ts = ts
past (e ∷ es) ts = past es (drop (nodes e) ts)

abbrev pub count : List Expr → ℕ
count [] = 0
count (e ∷ es) = plus (nodes e) (count es)

abbrev FrontEach : List Expr → List Ty → List Kind → Type 0
FrontEach [] ts ks = Unit {0}
FrontEach (e ∷ es) ts ks = Front (nodes e) ts ks × FrontEach es (drop (nodes e) ts) (drop (nodes e) ks)

front_each : (es : List Expr) (ts : List Ty) (ks : List Kind) → Front (count es) ts ks → FrontEach es ts ks
front_each [] ts ks h = tt
front_each (e ∷ es) ts ks h = (
  front_left (nodes e) (count es) ts ks h,
  front_each es (drop (nodes e) ts) (drop (nodes e) ks) (front_right (nodes e) (count es) ts ks h),
)

front_take : (n : ℕ) (es : List Expr) (ts : List Ty) (ks : List Kind) → FrontEach es ts ks → FrontEach (take n es) ts ks
front_take zero es ts ks h = tt
front_take (suc n) [] ts ks h = tt
front_take (suc n) (e ∷ es) ts ks h = (h.0, front_take n es (drop (nodes e) ts) (drop (nodes e) ks) h.1)

front_drop : (n : ℕ) (es : List Expr) (ts : List Ty) (ks : List Kind) → FrontEach es ts ks →
    FrontEach (drop n es) (past (take n es) ts) (behind n es ks)
front_drop zero es ts ks h = h
front_drop (suc n) [] ts ks h = tt
front_drop (suc n) (e ∷ es) ts ks h = front_drop n es (drop (nodes e) ts) (drop (nodes e) ks) h.1

agrees_take : (n : ℕ) (es : List Expr) (ts : List Ty) → EachAgrees es ts → EachAgrees (take n es) ts
agrees_take zero es ts h = no_trees ts
agrees_take (suc n) [] ts h = no_trees ts
agrees_take (suc n) (e ∷ es) ts (more_trees _ _ _ a h) =
    more_trees e (take n es) ts a (agrees_take n es (drop (nodes e) ts) h)

agrees_drop : (n : ℕ) (es : List Expr) (ts : List Ty) → EachAgrees es ts → EachAgrees (drop n es) (past (take n es) ts)
agrees_drop zero es ts h = h
agrees_drop (suc n) [] ts h = h
agrees_drop (suc n) (e ∷ es) ts (more_trees _ _ _ a h) = agrees_drop n es (drop (nodes e) ts) h

past_parts : (n : ℕ) (es : List Expr) (ts : List Ty) → past (drop n es) (past (take n es) ts) ≡ past es ts
past_parts zero es ts = refl
past_parts (suc n) [] ts = refl
past_parts (suc n) (e ∷ es) ts = past_parts n es (drop (nodes e) ts)

drop_sum : (m n : ℕ) (ts : List Ty) → drop n (drop m ts) ≡ drop (plus m n) ts
drop_sum zero n ts = refl
drop_sum (suc m) zero [] = refl
drop_sum (suc m) (suc n) [] = refl
drop_sum (suc m) n (t ∷ ts) = drop_sum m n ts

past_is : (es : List Expr) (ts : List Ty) → past es ts ≡ drop (count es) ts
past_is [] ts = refl
past_is (e ∷ es) ts = past_is es (drop (nodes e) ts) ∙ drop_sum (nodes e) (count es) ts

count_sum : (es : List Expr) → sum (map nodes es) ≡ count es
count_sum [] = refl
count_sum (e ∷ es) =
    sum-map nodes (e ∷ es) ∙ sum_by-cons nodes e es ∙ ap (λ n. nodes e + n) (sym (sum-map nodes es) ∙ count_sum es)
    ∙ plus_is (nodes e) (count es)

pub nodes_out : (e : Expr) → nodes e ≡ suc (count (out-Expr e).args)
nodes_out e = ap nodes (sym (roll-out-Expr e)) ∙ nodes-roll (out-Expr e) ∙ ap suc (count_sum (out-Expr e).args)

first_in : (k : Ker) → first_kind (kinds_in k) ≡ the_kind (type_of k)
unfolding kinds_in
first_in k = ap first_kind (fold_out-Ker (List Kind) node_kinds k)

-- ---- what a root carries

-- of a node that is built as a value
abbrev RootHas : Option Assignable → Ker → Type 0
RootHas None k = HasKind (type_of k)
RootHas (Some m) k = Unit {0}

abbrev AllHave : Option Assignable → List Ker → Type 0
AllHave i [] = Unit {0}
AllHave i (k ∷ ks) = RootHas i k × AllHave i ks

root_has : (i : Option Assignable) (ρ : Numbering) (e : Expr) (ts : List Ty) (k : Ker) (us : List Ty) →
    BuildsTyped i ρ e ts k us → KindsAgree e ts → RootHas i k
root_has None ρ e _ k us d (at_tree _ t ts h r a) = (h.0, r ρ k us d ∙ h.1)
root_has (Some m) ρ e _ k us d a = tt

abbrev both : Ker → Ker → Ty
both k m = pair_type (type_of k) (type_of m)

-- of a node whose operator stays
same_table : (ko : KerOp) (t : Ty) (kers : List Ker) (ks : List Kind) → first_kind ks ≡ the_kind t →
    first_of kers (drop 1 ks) → SameTable ko t kers ks
same_table ker.TupOf t kers ks q g = ap tuple_row q
same_table ker.SeqOf t kers ks q g = ap tuple_row q
same_table ker.Domain t kers ks q g = g
same_table ko t kers ks q g = tt

first_row : (e : Expr) (k : Ker) (t : Ty) (ts : List Ty) (ks : List Kind) → kind_of (type_of k) ≡ kind_of t →
    Front (suc (count (out-Expr e).args)) (t ∷ ts) ks →
    domain_row (first_kind ks) ≡ domain_row (first_kind (kinds_in k))
first_row e k t ts [] h f = absurd f
first_row e k t ts (a ∷ ks) h f =
    ap domain_row (f.0 ∙ ap kind_or_truth (sym h) ∙ sym (first_in k))

rows_first : (ρ : Numbering) (es : List Expr) (ts : List Ty) (kers : List Ker) (us : List Ty) (ks : List Kind) →
    EachTyped None ρ es ts kers us → EachAgrees es ts → FrontEach es ts ks → first_of kers ks
rows_first _ _ _ _ _ ks (typed.none_left _ ρ ts) a f = tt
rows_first _ _ _ _ _ ks (typed.one_more _ ρ e k es kers _ us vs d ds) (more_trees _ _ _ (at_tree _ t ts h r a) as') f =
    first_row e k t ts ks (r ρ k us d) (subst (λ n. Front n (t ∷ ts) ks) (nodes_out e) f.0)

-- ---- what is built

record TreeFits (i : Option Assignable) (ρ τ : Numbering) (e : Expr) (ts : List Ty) (k : Ker) (us : List Ty)
    (ks : List Kind) : Type 0 where
  left : us ≡ drop (nodes e) ts
  built : Builds i τ e k
  fits : Fitting built ks
  levels : length τ ≡ length ρ → Levelled built
  root : RootHas i k

record EachFits (i : Option Assignable) (ρ τ : Numbering) (es : List Expr) (ts : List Ty) (kers : List Ker) (us : List Ty)
    (ks : List Kind) : Type 0 where
  left : us ≡ past es ts
  built : BuildsEach i τ es kers
  fits : FittingEach built ks
  levels : length τ ≡ length ρ → LevelledEach built
  roots : AllHave i kers

record ArmsFit (m : Assignable) (ρ τ : Numbering) (es : List Expr) (ts : List Ty) (xs : List (Ker × Ker)) (o : Option Ker)
    (us : List Ty) (ks : List Kind) : Type 0 where
  left : us ≡ past es ts
  built : BuildsArms m τ es xs o
  fits : FittingArms built ks
  levels : length τ ≡ length ρ → LevelledArms built

record PathFits (τ : Numbering) (x : List ℕ) (n : ℕ) (es : List Expr) (ls : List Level) (k : Ker) (ks : List Kind) :
    Type 0 where
  built : BuildsPath τ x n es ls k
  fits : FittingPath built ks
  indexes : AllIndexes ls

record ChangesFit (τ : Numbering) (x cs : List ℕ) (es : List Expr) (ts : List Ty) (ds : List Change) (us : List Ty)
    (ks : List Kind) : Type 0 where
  left : us ≡ past es ts
  built : BuildsChanges τ x cs es ds
  fits : FittingChanges built ks
  indexes : AllIndexes (all_levels ds)

record NodeFits (i : Option Assignable) (ρ τ : Numbering) (p : Place) (o : Op) (es : List Expr) (xs : List (List ℕ))
    (ts : List Ty) (k : Ker) (us : List Ty) (ks : List Kind) : Type 0 where
  left : us ≡ past es ts
  built : BuildsNode i τ p o es xs k
  fits : FittingNode built ks
  levels : length τ ≡ length ρ → LevelledNode built

-- kinds that begin with those of a node's types
record Starts (t : Ty) (es : List Expr) (ts : List Ty) (ks : List Kind) : Type 0 where
  first : first_kind ks ≡ the_kind t
  rest : FrontEach es ts (drop 1 ks)

starts : (e : Expr) (t : Ty) (ts : List Ty) (ks : List Kind) → Front (nodes e) (t ∷ ts) ks →
    Starts t (out-Expr e).args ts ks
starts e t ts ks h = by ks (subst (λ n. Front n (t ∷ ts) ks) (nodes_out e) h)
  where
    by : (js : List Kind) → Front (suc (count (out-Expr e).args)) (t ∷ ts) js → Starts t (out-Expr e).args ts js
    by [] f = absurd f
    by (j ∷ js) f = record { first = f.0; rest = front_each (out-Expr e).args ts js f.1 }

-- two lists of children, one behind the other
abbrev Behind : ℕ → List Expr → List Ty → List Ty → List Kind → Type 0
Behind n es ts us ks = EachAgrees (drop n es) us × FrontEach (drop n es) us (behind n es ks)

behind_taken : (n : ℕ) (es : List Expr) (ts us : List Ty) (ks : List Kind) → us ≡ past (take n es) ts →
    EachAgrees es ts → FrontEach es ts ks → Behind n es ts us ks
behind_taken n es ts us ks q a f =
    subst (λ z. Behind n es ts z ks) (sym q) (agrees_drop n es ts a, front_drop n es ts ks f)

left_parts : (n : ℕ) (es : List Expr) (ts us vs : List Ty) → us ≡ past (take n es) ts → vs ≡ past (drop n es) us →
    vs ≡ past es ts
left_parts n es ts us vs q r = r ∙ ap (past (drop n es)) q ∙ past_parts n es ts

mutual
  tree_fits : {i : Option Assignable} {ρ : Numbering} {e : Expr} {ts : List Ty} {k : Ker} {us : List Ty} →
      BuildsTyped i ρ e ts k us → (τ : Numbering) → Shadows ρ τ → KindsAgree e ts → (ks : List Kind) →
      Front (nodes e) ts ks → TreeFits i ρ τ e ts k us ks
  tree_fits (typed.at_node i ρ e t ts k us d) τ h (at_tree _ _ _ has r a) ks f =
      let s = starts e t ts ks f in
      let q = node_fits d τ h a ks s has in record {
        left = q.left ∙ past_is (out-Expr e).args ts ∙ ap (λ n. drop n (t ∷ ts)) (sym (nodes_out e));
        built = rows.at_node i τ e k q.built;
        fits = q.fits;
        levels = q.levels;
        root = root_has i ρ e (t ∷ ts) k us (typed.at_node i ρ e t ts k us d) (at_tree e t ts has r a);
      }

  each_fits : {i : Option Assignable} {ρ : Numbering} {es : List Expr} {ts : List Ty} {kers : List Ker} {us : List Ty} →
      EachTyped i ρ es ts kers us → (τ : Numbering) → Shadows ρ τ → EachAgrees es ts → (ks : List Kind) →
      FrontEach es ts ks → EachFits i ρ τ es ts kers us ks
  each_fits (typed.none_left i ρ ts) τ h a ks f =
      record { left = refl; built = rows.none_left i τ; fits = tt; levels = λ z. tt; roots = tt }
  each_fits (typed.one_more i ρ e k es kers ts us vs d ds) τ h (more_trees _ _ _ a as') ks f =
      let r = tree_fits d τ h a (take (nodes e) ks) (front_cut (nodes e) ts ks f.0) in
      let q = each_fits ds τ h (subst (EachAgrees es) (sym r.left) as') (drop (nodes e) ks)
      (subst (λ z. FrontEach es z (drop (nodes e) ks)) (sym r.left) f.1) in
      record {
        left = q.left ∙ ap (past es) r.left;
        built = rows.one_more i τ e k es kers r.built q.built;
        fits = (r.fits, q.fits);
        levels = λ z. (r.levels z, q.levels z);
        roots = (r.root, q.roots);
      }

  arms_fit : {m : Assignable} {ρ : Numbering} {es : List Expr} {ts : List Ty} {xs : List (Ker × Ker)} {o : Option Ker}
      {us : List Ty} → ArmsTyped m ρ es ts xs o us → (τ : Numbering) → Shadows ρ τ → EachAgrees es ts →
      (ks : List Kind) → FrontEach es ts ks → ArmsFit m ρ τ es ts xs o us ks
  arms_fit (typed.no_arms m ρ ts) τ h a ks f = record { left = refl; built = rows.no_arms m τ; fits = tt; levels = λ z. tt }
  arms_fit (typed.other_arm m ρ e k ts us d) τ h (more_trees _ _ _ a as') ks f =
      let r = tree_fits d τ h a (take (nodes e) ks) (front_cut (nodes e) ts ks f.0) in
      record { left = r.left; built = rows.other_arm m τ e k r.built; fits = r.fits; levels = r.levels }
  arms_fit (typed.one_arm m ρ c e g k es xs o ts us vs ws d1 d2 d3) τ h
      (more_trees _ _ _ a (more_trees _ _ _ b as')) ks f =
      let r = tree_fits d1 τ h a (take (nodes c) ks) (front_cut (nodes c) ts ks f.0) in
      let js : List Kind = drop (nodes c) ks in
      let z = subst (λ z. (KindsAgree e z × EachAgrees es (drop (nodes e) z)) × FrontEach (e ∷ es) z js) (sym r.left)
      ((b, as'), f.1) in
      let q = tree_fits d2 τ h z.0.0 (take (nodes e) js) (front_cut (nodes e) us js z.1.0) in
      let y = subst (λ z. EachAgrees es z × FrontEach es z (drop (nodes e) js)) (sym q.left) (z.0.1, z.1.1) in
      let v = arms_fit d3 τ h y.0 (drop (nodes e) js) y.1 in record {
        left = v.left ∙ ap (past es) (q.left ∙ ap (drop (nodes e)) r.left);
        built = rows.one_arm m τ c e g k es xs o r.built q.built v.built;
        fits = (r.fits, (q.fits, v.fits));
        levels = λ z. (q.levels z, v.levels z);
      }

  -- behind a level, whose number is the last one so far; the kinds are those from its index on
  path_fits : {ρ : Numbering} {x ms : List ℕ} {n : ℕ} {es : List Expr} {ts : List Ty} {ls : List Level} {k : Ker}
      {us : List Ty} (ns : List ℕ) (l : Level) (e : Expr) → ms ≡ ns ++ l.number ∷ [] → (τ : Numbering) → Shadows ρ τ →
      (ks : List Kind) (b : Builds None τ e l.index) → Fitting b (take (nodes e) ks) → HasKind (type_of l.index) →
      PathTyped ρ x ms n es ts ls k us → EachAgrees es ts → FrontEach es ts (drop (nodes e) ks) →
      (us ≡ past es ts) × PathFits τ x (suc n) (e ∷ es) (l ∷ ls) k ks
  path_fits ns l e q τ h ks b fit has (typed.right_side ρ x ms f k ts us y d) (more_trees _ _ _ a as') fr =
      let js : List Kind = drop (nodes e) ks in
      let r = tree_fits d (numbered (x ∷ []) (l.number ∷ []) τ)
      (subst (λ z. Shadows (under x z ρ) (τ ++ (x, l.number) ∷ [])) (sym q) (shadow_last x ns l.number ρ τ h)) a
      (take (nodes f) js) (front_cut (nodes f) ts js fr.0) in (
        r.left,
        record { built = rows.last_level τ x e f l k b r.built; fits = (fit, r.fits); indexes = (has, tt) },
      )
  path_fits ns l e q τ h ks b fit has (typed.one_level ρ x ms n f es m ls k ts us vs d1 d2)
      (more_trees _ _ _ a as') fr =
      let js : List Kind = drop (nodes e) ks in
      let r = tree_fits d1 τ h a (take (nodes f) js) (front_cut (nodes f) ts js fr.0) in
      let s = path_fits ms m f refl τ h js r.built r.fits r.root d2 (subst (EachAgrees es) (sym r.left) as')
      (subst (λ z. FrontEach es z (drop (nodes f) js)) (sym r.left) fr.1) in (
        s.0 ∙ ap (past es) r.left,
        record {
          built = rows.one_level τ x (suc n) e (f ∷ es) l m ls k b s.1.built;
          fits = (fit, s.1.fits);
          indexes = (has, s.1.indexes);
        },
      )

  whole_path_fits : {ρ : Numbering} {x ns : List ℕ} {n : ℕ} {es : List Expr} {ts : List Ty} {ls : List Level} {k : Ker}
      {us : List Ty} → PathTyped ρ x ns (suc n) es ts ls k us → (τ : Numbering) → Shadows ρ τ → EachAgrees es ts →
      (ks : List Kind) → FrontEach es ts ks → (us ≡ past es ts) × PathFits τ x (suc n) es ls k ks
  whole_path_fits (typed.one_level ρ x ns n e es l ls k ts us vs d1 d2) τ h (more_trees _ _ _ a as') ks f =
      let r = tree_fits d1 τ h a (take (nodes e) ks) (front_cut (nodes e) ts ks f.0) in
      let s = path_fits ns l e refl τ h ks r.built r.fits r.root d2 (subst (EachAgrees es) (sym r.left) as')
      (subst (λ z. FrontEach es z (drop (nodes e) ks)) (sym r.left) f.1) in
      (s.0 ∙ ap (past es) r.left, s.1)

  changes_fit : {ρ : Numbering} {x ns cs : List ℕ} {es : List Expr} {ts : List Ty} {ds : List Change} {us : List Ty} →
      ChangesTyped ρ x ns cs es ts ds us → (τ : Numbering) → Shadows ρ τ → EachAgrees es ts → (ks : List Kind) →
      FrontEach es ts ks → ChangesFit τ x cs es ts ds us ks
  changes_fit (typed.no_changes ρ x ns ts) τ h a ks f =
      record { left = refl; built = rows.no_changes τ x; fits = tt; indexes = tt }
  changes_fit (typed.one_change ρ x ns n cs es d ds ts us vs g y) τ h a ks f =
      let m : ℕ = suc (suc n) in
      let r = whole_path_fits g τ h (agrees_take m es ts a) ks (front_take m es ts ks f) in
      let b = behind_taken m es ts us ks r.0 a f in
      let s = changes_fit y τ h b.0 (behind m es ks) b.1 in record {
        left = left_parts m es ts us vs r.0 s.left;
        built = rows.one_change τ x (suc n) cs es d ds r.1.built s.built;
        fits = (r.1.fits, s.fits);
        indexes = join_indexes d.levels (all_levels ds) r.1.indexes s.indexes;
      }

  node_fits : {i : Option Assignable} {ρ : Numbering} {p : Place} {t : Ty} {o : Op} {es : List Expr}
      {xs : List (List ℕ)} {ts : List Ty} {k : Ker} {us : List Ty} → TypedNode i ρ p t o es xs ts k us →
      (τ : Numbering) → Shadows ρ τ → EachAgrees es ts → (ks : List Kind) → Starts t es ts ks → HasKind t →
      NodeFits i ρ τ p o es xs ts k us ks
  node_fits (typed.boolean ρ p t b xs ts) τ h a ks s has =
      record { left = refl; built = rows.boolean τ p b xs t; fits = tt; levels = λ z. tt }
  node_fits (typed.integer ρ p t i xs ts) τ h a ks s has =
      record { left = refl; built = rows.integer τ p i xs t; fits = tt; levels = λ z. tt }
  node_fits (typed.text ρ p t s' xs ts) τ h a ks s has =
      record { left = refl; built = rows.text τ p s' xs t; fits = tt; levels = λ z. tt }
  node_fits (typed.declared ρ p t i primed xs ts) τ h a ks s has =
      record { left = refl; built = rows.declared τ p i primed [] xs t; fits = tt; levels = λ z. tt }
  node_fits (typed.bound_name ρ p t x n xs ts e) τ h a ks s has =
      record { left = refl; built = rows.bound_name τ p x n xs t (sym (h.same x) ∙ e); fits = tt; levels = λ z. tt }
  node_fits (typed.truth_values ρ p t xs ts) τ h a ks s has =
      record { left = refl; built = rows.truth_values τ p xs t ty.Bool; fits = tt; levels = λ z. tt }
  node_fits (typed.same ρ p t o ko es xs kers ts us e i ch d) τ h a ks s has =
      let q = each_fits d τ h a (drop 1 ks) s.rest in
      record {
        left = q.left;
        built = rows.same τ p o ko es xs t kers e i q.built;
        fits = (same_table ko t kers ks s.first (rows_first ρ es ts kers us (drop 1 ks) d a s.rest), q.fits);
        levels = λ z. tt;
      }
  node_fits (typed.range ρ p t es xs k l ts us d) τ h a ks s has =
      let q = each_fits d τ h a (drop 1 ks) s.rest in
      record { left = q.left; built = rows.range τ p es xs t k l q.built; fits = q.fits; levels = λ z. tt }
  node_fits (typed.noted i ρ p t x es xs k ts us d) τ h a ks s has =
      let q = each_fits d τ h a (drop 1 ks) s.rest in
      record { left = q.left; built = rows.noted i τ p x es xs k q.built; fits = q.fits; levels = q.levels }
  node_fits (typed.assign ρ p t es xs kers ts us d) τ h a ks s has =
      let q = each_fits d τ h a (drop 1 ks) s.rest in
      record { left = q.left; built = rows.assign τ p es xs ty.Bool kers q.built; fits = q.fits; levels = λ z. tt }
  node_fits (typed.implies ρ p t es xs k l ts us d) τ h a ks s has =
      let q = each_fits d τ h a (drop 1 ks) s.rest in
      record { left = q.left; built = rows.implies τ p es xs ty.Bool k l q.built; fits = q.fits; levels = λ z. tt }
  node_fits (typed.unequal ρ p t es xs kers ts us d) τ h a ks s has =
      let q = each_fits d τ h a (drop 1 ks) s.rest in
      record { left = q.left; built = rows.unequal τ p es xs ty.Bool kers q.built; fits = q.fits; levels = λ z. tt }
  node_fits (typed.no_member ρ p t es xs kers ts us d) τ h a ks s has =
      let q = each_fits d τ h a (drop 1 ks) s.rest in
      record { left = q.left; built = rows.no_member τ p es xs ty.Bool kers q.built; fits = q.fits; levels = λ z. tt }
  node_fits (typed.greater ρ p t es xs k l ts us d) τ h a ks s has =
      let q = each_fits d τ h a (drop 1 ks) s.rest in
      record { left = q.left; built = rows.greater τ p es xs ty.Bool k l q.built; fits = q.fits; levels = λ z. tt }
  node_fits (typed.at_most ρ p t es xs k l ts us d) τ h a ks s has =
      let q = each_fits d τ h a (drop 1 ks) s.rest in
      record { left = q.left; built = rows.at_most τ p es xs ty.Bool k l q.built; fits = q.fits; levels = λ z. tt }
  node_fits (typed.at_least ρ p t es xs kers ts us d) τ h a ks s has =
      let q = each_fits d τ h a (drop 1 ks) s.rest in
      record { left = q.left; built = rows.at_least τ p es xs ty.Bool kers q.built; fits = q.fits; levels = λ z. tt }
  node_fits (typed.negative ρ p t es xs k ts us d) τ h a ks s has =
      let q = each_fits d τ h a (drop 1 ks) s.rest in
      record { left = q.left; built = rows.negative τ p es xs ty.Int (k ∷ []) q.built; fits = q.fits; levels = λ z. tt }
  node_fits (typed.finite ρ p t es xs k n ts us f d) τ h a ks s has =
      let q = each_fits d τ h a (drop 1 ks) s.rest in
      record { left = q.left; built = rows.finite τ p es xs ty.Bool k n q.built; fits = q.fits; levels = λ z. tt }
  node_fits (typed.equivalent ρ p t es xs u n k m ts us y f d) τ h a ks s has =
      let q = each_fits d τ h a (drop 1 ks) s.rest in
      record {
        left = q.left;
        built = rows.equivalent τ p es xs (let_of ty.Bool (both k m) u n) (both k m) k m y q.built;
        fits = (
          let_has ty.Bool (both k m) u n bool_has
              (pair_has (type_of k) (type_of m) q.roots.0 q.roots.1.0),
          (is_pair_type (type_of k) (type_of m), q.fits),
        );
        levels = λ z. tt;
      }
  node_fits (typed.one_pair ρ p t es xs u n z k m ts us y f e d) τ h a ks s has =
      let q = each_fits d τ h a (drop 1 ks) s.rest in
      record {
        left = q.left;
        built = rows.one_pair τ p es xs (let_of t (both k m) u n) (both k m) (ty.Set (type_of k)) z k m y e.1 q.built;
        fits = (
          let_has t (both k m) u n has (pair_has (type_of k) (type_of m) q.roots.0 q.roots.1.0),
          (is_pair_type (type_of k) (type_of m), q.fits),
        );
        levels = λ z. tt;
      }
  node_fits (typed.power ρ p t es xs u n k m j ts us y f e le d) τ h a ks s has =
      let q = each_fits d τ h a (drop 1 ks) s.rest in
      record {
        left = q.left;
        built = rows.power τ p es xs (let_of t (type_of k) u n) ty.Bool k m j y e le q.built;
        fits = (let_has t (type_of k) u n has q.roots.0, q.fits);
        levels = λ z. tt;
      }
  node_fits (typed.high_power ρ p t es xs u n k m j ts us y f e le d) τ h a ks s has =
      let q = each_fits d τ h a (drop 1 ks) s.rest in
      record {
        left = q.left;
        built = rows.high_power τ p es xs (let_of t (both k m) u n) (both k m) ty.Bool k m j y e le q.built;
        fits = (
          let_has t (both k m) u n has (pair_has (type_of k) (type_of m) q.roots.0 q.roots.1.0),
          (is_pair_type (type_of k) (type_of m), q.fits),
        );
        levels = λ z. tt;
      }
  node_fits (typed.field ρ p t es xs k m x ts us r e d) τ h a ks s has =
      let q = each_fits d τ h a (drop 1 ks) s.rest in
      record { left = q.left; built = rows.field τ p es xs t k m x e q.built; fits = q.fits; levels = λ z. tt }
  node_fits (typed.low_item ρ p t es xs k m j ts us r e le d) τ h a ks s has =
      let q = each_fits d τ h a (drop 1 ks) s.rest in
      record { left = q.left; built = rows.low_item τ p es xs t k m j e le q.built; fits = q.fits; levels = λ z. tt }
  node_fits (typed.high_item ρ p t es xs u n k m j ts us y f r e le d) τ h a ks s has =
      let q = each_fits d τ h a (drop 1 ks) s.rest in
      record {
        left = q.left;
        built = rows.high_item τ p es xs (let_of t (both k m) u n) (both k m) k m j y e le q.built;
        fits = (
          let_has t (both k m) u n has (pair_has (type_of k) (type_of m) q.roots.0 q.roots.1.0),
          (is_pair_type (type_of k) (type_of m), q.fits),
        );
        levels = λ z. tt;
      }
  node_fits (typed.cases ρ p t other es xs kers ts us y d) τ h a ks s has =
      let q = each_fits d τ h a (drop 1 ks) s.rest in
      record { left = q.left; built = rows.cases τ p other es xs t kers y q.built; fits = q.fits; levels = λ z. tt }
  node_fits (typed.conjunction m ρ p t es xs kers ts us d) τ h a ks s has =
      let q = each_fits d τ h a (drop 1 ks) s.rest in
      record { left = q.left; built = rows.conjunction m τ p es xs ty.Bool kers q.built; fits = q.fits; levels = q.levels }
  node_fits (typed.disjunction m ρ p t es xs kers ts us d) τ h a ks s has =
      let q = each_fits d τ h a (drop 1 ks) s.rest in
      record { left = q.left; built = rows.disjunction m τ p es xs ty.Bool kers q.built; fits = q.fits; levels = q.levels }
  node_fits (typed.as_value m ρ p t o es xs k ts us e d) τ h a ks s has =
      let q = node_fits d τ h a ks s has in
      record { left = q.left; built = rows.as_value m τ p o es xs k e q.built; fits = q.fits; levels = λ z. tt }
  node_fits (typed.binder ρ p t o ko es xs kers bs ns ts us vs e i f d1 d2) τ h a ks s has =
      let js : List Kind = drop 1 ks in
      let n : ℕ = length xs in
      let q = each_fits d1 τ h (agrees_take n es ts a) js (front_take n es ts js s.rest) in
      let b = behind_taken n es ts us js q.left a s.rest in
      let r = each_fits d2 (numbered xs ns τ) (shadow_all xs ns ρ τ h) b.0 (behind n es js) b.1 in record {
        left = left_parts n es ts us vs q.left r.left;
        built = rows.binder τ p o ko es xs t kers bs ns e i (shadow_new xs ns ρ τ h f) q.built r.built;
        fits = (q.fits, r.fits);
        levels = λ z. tt;
      }
  node_fits (typed.fold ρ p t es xs bs kers ns ts us vs f d1 d2) τ h a ks s has =
      let js : List Kind = drop 1 ks in
      let n : ℕ = 1 in
      let q = each_fits d1 (numbered xs ns τ) (shadow_all xs ns ρ τ h)
      (agrees_take n es ts a) js (front_take n es ts js s.rest) in
      let b = behind_taken n es ts us js q.left a s.rest in
      let r = each_fits d2 τ h b.0 (behind n es js) b.1 in record {
        left = left_parts n es ts us vs q.left r.left;
        built = rows.fold τ p es xs t bs kers ns (shadow_new xs ns ρ τ h f) q.built r.built;
        fits = (q.fits, r.fits);
        levels = λ z. tt;
      }
  node_fits (typed.choice m ρ p t es xs kers bs ns ts us vs f l d1 d2) τ h a ks s has =
      let js : List Kind = drop 1 ks in
      let n : ℕ = length xs in
      let q = each_fits d1 τ h (agrees_take n es ts a) js (front_take n es ts js s.rest) in
      let b = behind_taken n es ts us js q.left a s.rest in
      let r = each_fits d2 (numbered xs ns τ) (shadow_all xs ns ρ τ h) b.0 (behind n es js) b.1 in record {
        left = left_parts n es ts us vs q.left r.left;
        built = rows.choice m τ p es xs ty.Bool kers bs ns (shadow_new xs ns ρ τ h f) q.built r.built;
        fits = (q.fits, r.fits);
        levels = λ z. (l ∙ ap (λ n. upward n (length xs)) (sym z), r.levels (numbered_long xs ns τ ρ z));
      }
  node_fits (typed.branches m ρ p t c es xs g k l ts us vs me d1 d2) τ h (more_trees _ _ _ a as') ks s has =
      let js : List Kind = drop 1 ks in
      let q = tree_fits d1 τ h a (take (nodes c) js) (front_cut (nodes c) ts js s.rest.0) in
      let b = subst (λ z. EachAgrees es z × FrontEach es z (drop (nodes c) js)) (sym q.left) (as', s.rest.1) in
      let r = each_fits d2 τ h b.0 (drop (nodes c) js) b.1 in record {
        left = r.left ∙ ap (past es) q.left;
        built = rows.branches m τ p c es xs ty.Bool ty.Bool g k l me q.built r.built;
        fits = (q.fits, r.fits);
        levels = r.levels;
      }
  node_fits (typed.except ρ p t cs e es x u n f d ds ts us vs pl le d1 d2) τ h (more_trees _ _ _ a as') ks s has =
      let js : List Kind = drop 1 ks in
      let q = tree_fits d1 τ h a (take (nodes e) js) (front_cut (nodes e) ts js s.rest.0) in
      let b = subst (λ z. EachAgrees es z × FrontEach es z (drop (nodes e) js)) (sym q.left) (as', s.rest.1) in
      let r = changes_fit d2 τ h b.0 (drop (nodes e) js) b.1 in record {
        left = r.left ∙ ap (past es) q.left;
        built = rows.except τ p cs e es x t f d ds pl
            (shadow_fresh (level_numbers (d ∷ ds)) ρ τ h (changes_fresh d2)) q.built r.built;
        fits = (q.fits, r.fits);
        levels = λ z. tt;
      }
  node_fits (typed.except_let ρ p t cs e es x u n f ds ts us vs pl le re d1 d2) τ h (more_trees _ _ _ a as') ks s has =
      let js : List Kind = drop 1 ks in
      let q = tree_fits d1 τ h a (take (nodes e) js) (front_cut (nodes e) ts js s.rest.0) in
      let b = subst (λ z. EachAgrees es z × FrontEach es z (drop (nodes e) js)) (sym q.left) (as', s.rest.1) in
      let r = changes_fit d2 τ h b.0 (drop (nodes e) js) b.1 in
      let w : Ty = pairs_type f (all_levels ds) in
      let l : Let = let_of t w u n in record {
        left = r.left ∙ ap (past es) q.left;
        built = rows.except_let τ p cs e es x l w f ds
            (shadow_let l (level_numbers ds) ρ τ h (let_numbers u n ρ x t w ds pl d2)) pl q.built r.built;
        fits = (
          let_has t w u n has (pairs_have f (all_levels ds) q.root r.indexes),
          (pairs_typed f (all_levels ds) re, (q.fits, r.fits)),
        );
        levels = λ z. tt;
      }
  node_fits (typed.split_cases m ρ p t other es xs ys o ts us me d) τ h a ks s has =
      let q = arms_fit d τ h a (drop 1 ks) s.rest in
      record { left = q.left; built = rows.split_cases m τ p other es xs ty.Bool ys o me q.built; fits = q.fits; levels = q.levels }

-- what is built with types, and that it fits
pub typed_fits : (i : Option Assignable) (ρ : Numbering) (e : Expr) (ts : List Ty) (k : Ker) (us : List Ty) →
    BuildsTyped i ρ e ts k us → KindsAgree e ts → (b : Builds i ρ e k) × Fitting b (map the_kind ts)
typed_fits i ρ e ts k us d a =
    let r = tree_fits d ρ (record { same = λ z. refl; new = λ n q. q }) a (map the_kind ts) (front_all (nodes e) ts) in
    (r.built, r.fits)

-- and that its numbers are those of names around
pub typed_levels : (i : Option Assignable) (ρ : Numbering) (e : Expr) (ts : List Ty) (k : Ker) (us : List Ty) →
    BuildsTyped i ρ e ts k us → KindsAgree e ts → (b : Builds i ρ e k) × (Fitting b (map the_kind ts) × Levelled b)
typed_levels i ρ e ts k us d a =
    let r = tree_fits d ρ (record { same = λ z. refl; new = λ n q. q }) a (map the_kind ts) (front_all (nodes e) ts) in
    (r.built, (r.fits, r.levels refl))
