-- What is built of a module's expressions.
use Rattle.std.proofs.Common.{◌≡◌, ◌<◌, ◌≤◌, ℕ, suc, Bool, true, List, [], ◌∷◌, ◌++◌, map, drop, get_or, length, ◌+◌, Result, Ok, Err, IfOk, IsTrue, Option, arith, refl, ap, ◌∙◌, sym, subst, if◌then◌else◌}
use Rattle.std.proofs.lemmas.List.{append-nil, append_assoc, drop_all, drop_more}
use Rattle.tla_meaning.specs.declared.expr.Def.{Def}
use Rattle.tla_meaning.specs.Scopes.{find_last}
use Rattle.op_inliner.specs.Known.{Arities, arities_of, wants}
use Rattle.op_inliner.specs.declared.parts.InlineFault.{InlineFault}
use Rattle.op_inliner.specs.declared.parts.InlineFault.TheVariants.{Memory, NoOperator, Reached, TooDeep, TooLarge}
use Rattle.op_inliner.specs.declared.parts.PartKind.TheVariants.{Inv, Start, Step}
use Rattle.tla_meaning.specs.declared.expr.Expr.{Expr}
use Rattle.tla_meaning.specs.declared.modules.Flat.{Flat}
use Rattle.tla_meaning.specs.Renamings.{Renaming}
use Rattle.op_inliner.specs.declared.frames.Frame.{Frame}
use Rattle.op_inliner.specs.declared.expanding.Module.{Module}
use Rattle.op_inliner.specs.declared.parts.PartKind.{PartKind}
use Rattle.op_inliner.specs.declared.spots.Spot.{Spot}
use Rattle.op_inliner.specs.declared.trees.Part.{Part}
use Rattle.op_inliner.specs.declared.trees.Stop.{Stop}
use Rattle.op_inliner.specs.Answers.{Answer, Gives, IsAnswered, Refuses, checked, expand_answer, assume_answer, cinit_answer, invs_answer, job_answer, then_with, depth, greatest, size, up_to}
use Rattle.op_inliner.specs.Expansion.{assumed, assumptions_expanded, expansion, finish, first_place, is_constant}
use Rattle.op_inliner.specs.Inlining.{Writing, names_of_module, no_names, with_names, written}
use Rattle.op_inliner.specs.NamesBack.{opened, with_names_back}
use Rattle.op_inliner.specs.Primes.{turned}
use Rattle.op_inliner.specs.inner.Building.{Builds, first, seen}
use Rattle.op_inliner.specs.inner.Expanding.{IsReady, finished, use_of}
use Rattle.op_inliner.specs.inner.Frames.{Opens}
use Rattle.op_inliner.specs.inner.Naming.{news, renaming}
use Rattle.op_inliner.specs.inner.Sums.{Scope, definitions_sums, nodes_of, scope_of, summed}
use Rattle.tla_meaning.specs.declared.op.Op.TheVariants as op
use Rattle.op_inliner.proofs.Answered.{answer_means, answer_tree, definitions, job_told}
use Rattle.op_inliner.specs.Known.{are_known}
use Rattle.op_inliner.specs.Means.{IsJobOf, IsTreeOf, Means}
use Rattle.tla_meaning.specs.declared.job.Job.{Job}
use Rattle.tla_meaning.specs.Jobs.{names_of}
use Rattle.op_inliner.proofs.Inlined.{written-roll}
use Rattle.op_inliner.proofs.Summed.{assumed_nodes_are, nodes_are}
use Rattle.op_inliner.proofs.Backs.{same_back}
use Rattle.op_inliner.proofs.BuildSteps.{fails}
use Rattle.op_inliner.proofs.CheckSteps.{depth-roll}

depth_back : (e : Expr) (f : Renaming) (u : List (List ℕ)) → depth ((opened e).back f u) ≡ depth e
depth_back = same_back ℕ depth (λ o xs ns. suc (greatest ns)) depth-roll (λ y o xs ys ns. refl)

-- the tree that is built is the one with names of levels
module _ (m : Module) (p : Part) (fs gs : List Frame) (s : Spot) (kind : PartKind) (e : Expr) (ready : IsReady m) (opens : Opens fs gs s.scope (with_names m.flat.now.defs no_names))
    (tree : s.e.now ≡ e) (level : s.level ≡ 0) (primes : s.primes ≡ 0) (of : p.kind ≡ kind) (constants : p.constants ≡ m.constants) where
  abbrev levelled_tree : Expr
  levelled_tree = (turned kind (is_constant m.flat.now) (written e (names_of_module m.flat.now) 0)).tree 0

  built_is : (seen p gs s).tree ≡ levelled_tree
  built_is = λ i. (turned (of i) (first ((constants ∙ ready.constants) i)) (written (tree i) (opens.names i) (level i))).tree (primes i)

  pub finish_is : (t r : Expr) → t ≡ (seen p gs s).tree → r ≡ (opened t).back (renaming []) (news []) → r ≡ finished m kind e
  finish_is t r a b = b ∙ ap with_names_back (a ∙ built_is)

  pub finish_fails : (k : ℕ) (x : Stop) → Builds k (seen p gs s).tree (Err x) → Builds k (finished m kind e) (Err x)
  finish_fails k x h =
      let d = depth_back levelled_tree (λ z. z) [] in
      let b = ap depth built_is in
      fails k k (seen p gs s).tree (finished m kind e) x h (λ l. omega (arith, l, b, d))

-- ---- operators by their names

abbrev pub arity_of : Def → List ℕ × ℕ
arity_of d = (d.name, length d.params)

arities_are : (ds : List Def) (as' : Arities) → arities_of ds as' ≡ as' ++ map arity_of ds
arities_are [] as' = sym (append-nil as')
arities_are (d ∷ ds) as' = arities_are ds (as' ++ arity_of d ∷ []) ∙ append_assoc as' (arity_of d ∷ []) (map arity_of ds)

pub arities_begun : (z : List ℕ) (ds : List Def) → find_last z (map arity_of ds) ≡ find_last z (arities_of ds [])
arities_begun z ds = sym (ap (find_last z) (arities_are ds []))

-- ---- a name

use_becomes : (m : Module) (kind : PartKind) (x : List ℕ) → finished m kind (use_of x) ≡ expansion kind m.flat.now x
use_becomes m kind x =
    ap (λ (k : Writing). finish kind m.flat.now (k (names_of_module m.flat.now) 0)) (written-roll (record { place = first_place; op = op.Use x; args = []; binds = [] }))

module _ (m : Module) (ready : IsReady m) (kind : PartKind) (x : List ℕ) (e : Expr) (wanted : wants 0 (find_last x (arities_of m.flat.now.defs [])) ≡ true) (is : e ≡ use_of x) where
  pub name_nodes : (n : ℕ) → n ≡ nodes_of x (scope_of m.counts.now) → n ≡ up_to 1000000000000 (size (finished m kind e))
  name_nodes n a =
      a ∙ ap (nodes_of x) ready.counts ∙ nodes_are kind m.flat.now x (definitions m.flat.now ready.known) wanted
      ∙ ap (λ t. up_to 1000000000000 (size t)) (sym (use_becomes m kind x) ∙ ap (finished m kind) (sym is))

  pub name_answered : (r : Result Expr InlineFault) → IsAnswered (checked x (finished m kind e)) r → IsAnswered (expand_answer m.flat.now x kind) r
  name_answered r h =
      subst (λ a. IsAnswered a r)
      (ap (checked x) (ap (finished m kind) is ∙ use_becomes m kind x)
      ∙ sym (ap (λ (b : Bool). if b then checked x (expansion kind m.flat.now x) else Refuses (NoOperator x)) wanted)) h

-- ---- several answers

pub went_wrong : {X : Type 0} → {Y : Type 0} (a : Answer X) (k : X → Answer Y) (f : InlineFault) → IsAnswered a (Err f) → IsAnswered (then_with a k) (Err f)
went_wrong a k (Memory e) h = tt
went_wrong a k (NoOperator x) h = ap (λ a. then_with a k) h
went_wrong a k (TooLarge x n) h = ap (λ a. then_with a k) h
went_wrong a k (TooDeep x) h = ap (λ a. then_with a k) h
went_wrong a k (Reached f p) h = ap (λ a. then_with a k) h

pub answered_as : {X : Type 0} (a b : Answer X) (f : InlineFault) → b ≡ a → IsAnswered a (Err f) → IsAnswered b (Err f)
answered_as a b f e h = subst (λ c. IsAnswered c (Err f)) (sym e) h

then_twice : {X : Type 0} → {Y : Type 0} → {Z : Type 0} (a : Answer X) (f : X → Answer Y) (g : Y → Answer Z) → then_with (then_with a f) g ≡ then_with a (λ x. then_with (f x) g)
then_twice (Gives x) f g = refl
then_twice (Refuses r) f g = refl

then_same : {X : Type 0} (a : Answer X) (f : X → X) → ((x : X) → f x ≡ x) → a ≡ then_with a (λ x. Gives (f x))
then_same (Gives x) f h = ap Gives (sym (h x))
then_same (Refuses r) f h = refl

abbrev Invs : Type 0
Invs = List (List ℕ × Expr)

pub invs_begun : (flat : Flat) (xs : List (List ℕ)) (all : Invs) → all ≡ [] → invs_answer flat xs ≡ then_with (invs_answer flat xs) (λ es. Gives (all ++ es))
invs_begun flat xs all e = then_same (invs_answer flat xs) (λ es. all ++ es) (λ es. ap (λ (vs : Invs). vs ++ es) e)

abbrev invs_left : Flat → Invs → List (List ℕ) → Answer Invs
invs_left flat all xs = then_with (invs_answer flat xs) (λ es. Gives (all ++ es))

pub invs_step : (flat : Flat) (xs : List (List ℕ)) (i : ℕ) (x : List ℕ) (e : Expr) (all : Invs) → i < length xs → x ≡ get_or xs i x → expand_answer flat x Inv ≡ Gives e →
    invs_answer flat xs ≡ invs_left flat all (drop i xs) → invs_answer flat xs ≡ invs_left flat (all ++ (x, e) ∷ []) (drop (i + 1) xs)
invs_step flat xs i x e all h q a b =
    let ys : List (List ℕ) = drop (i + 1) xs in
    b ∙ ap (invs_left flat all) (drop_more xs i x h ∙ ap (λ (y : List ℕ). y ∷ ys) (sym q))
    ∙ ap (λ (a : Answer Expr). then_with (then_with a (λ e. then_with (invs_answer flat ys) (λ es. Gives ((x, e) ∷ es)))) (λ es. Gives (all ++ es))) a
    ∙ then_twice (invs_answer flat ys) (λ es. Gives ((x, e) ∷ es)) (λ es. Gives (all ++ es))
    ∙ (λ i. then_with (invs_answer flat ys) (λ es. Gives (sym (append_assoc all ((x, e) ∷ []) es) i)))

pub invs_end : (flat : Flat) (xs : List (List ℕ)) (i : ℕ) (all : Invs) → length xs ≤ i → invs_answer flat xs ≡ invs_left flat all (drop i xs) → invs_answer flat xs ≡ Gives all
invs_end flat xs i all h b = b ∙ ap (invs_left flat all) (drop_all i xs h) ∙ ap Gives (append-nil all)

pub invs_fail : (flat : Flat) (xs : List (List ℕ)) (i : ℕ) (x : List ℕ) (all : Invs) (f : InlineFault) → i < length xs → x ≡ get_or xs i x → IsAnswered (expand_answer flat x Inv) (Err f) →
    invs_answer flat xs ≡ invs_left flat all (drop i xs) → IsAnswered (invs_answer flat xs) (Err f)
invs_fail flat xs i x all f h q a b =
    let ys : List (List ℕ) = drop (i + 1) xs in
    answered_as (invs_left flat all (x ∷ ys)) (invs_answer flat xs) f (b ∙ ap (invs_left flat all) (drop_more xs i x h ∙ ap (λ (y : List ℕ). y ∷ ys) (sym q)))
    (went_wrong (invs_answer flat (x ∷ ys)) (λ es. Gives (all ++ es)) f
    (went_wrong (expand_answer flat x Inv) (λ e. then_with (invs_answer flat ys) (λ es. Gives ((x, e) ∷ es))) f a))

pub invs_next : (flat : Flat) (xs : List (List ℕ)) (i : ℕ) (x y : List ℕ) (e : Expr) (all new : Invs) → i < length xs → x ≡ get_or xs i x → expand_answer flat x Inv ≡ Gives e →
    invs_answer flat xs ≡ invs_left flat all (drop i xs) → y ≡ x → new ≡ all ++ (y, e) ∷ [] → invs_answer flat xs ≡ invs_left flat new (drop (i + 1) xs)
invs_next flat xs i x y e all new h q a b c d =
    invs_step flat xs i x e all h q a b ∙ ap (λ (vs : Invs). invs_left flat vs (drop (i + 1) xs)) (sym (d ∙ ap (λ (z : List ℕ). all ++ (z, e) ∷ []) c))

-- ---- what is answered means what it is to mean

pub tree_told : (flat : Flat) (x : List ℕ) (part : PartKind) (r : Result Expr InlineFault) → IsTrue (are_known flat) → IsAnswered (expand_answer flat x part) r →
    IfOk r (λ e. IsTreeOf flat e × Means flat x e)
tree_told flat x part (Ok e) known h = (answer_tree flat known x part e h, answer_means flat known x part e h)
tree_told flat x part (Err f) known h = tt

pub job_means : (flat : Flat) (init next : List ℕ) (cinit : Option (List ℕ)) (invs : List (List ℕ)) (r : Result Job InlineFault) → IsTrue (are_known flat) →
    IsAnswered (job_answer flat init next cinit invs) r → IfOk r (IsJobOf flat init next cinit invs)
job_means flat init next cinit invs (Ok job) known h = job_told flat known init next cinit invs job h
job_means flat init next cinit invs (Err f) known h = tt

-- ---- the parts of a job

abbrev job_by : Flat → Answer Expr → Answer Expr → Answer Expr → Answer Expr → Answer Invs → Answer Job
job_by flat c a i n v =
    then_with c (λ c.
    then_with a (λ a.
    then_with i (λ i.
    then_with n (λ n.
    then_with v (λ vs.
    Gives (record { files = flat.files; names = names_of flat; aliases = flat.aliases; cinit = c; assume = a; init = i; next = n; invs = vs }))))))

pub invs_refused : (flat : Flat) (init next : List ℕ) (cinit : Option (List ℕ)) (invs : List (List ℕ)) (c a i n : Expr) (f : InlineFault) → cinit_answer flat cinit ≡ Gives c → assume_answer flat ≡ Gives a →
    expand_answer flat init Start ≡ Gives i → expand_answer flat next Step ≡ Gives n → IsAnswered (invs_answer flat invs) (Err f) → IsAnswered (job_answer flat init next cinit invs) (Err f)
invs_refused flat init next cinit invs c a i n f hc ha hi hn h =
    answered_as (job_by flat (Gives c) (Gives a) (Gives i) (Gives n) (invs_answer flat invs)) (job_answer flat init next cinit invs) f
    (λ j. job_by flat (hc j) (ha j) (hi j) (hn j) (invs_answer flat invs))
    (went_wrong (invs_answer flat invs) (λ vs. Gives (record { files = flat.files; names = names_of flat; aliases = flat.aliases; cinit = c; assume = a; init = i; next = n; invs = vs })) f h)

pub assumed_count_is : (flat : Flat) (e : Expr) (sc : Scope) (ds : List Def) (n : ℕ) → IsTrue (are_known flat) → ds ≡ flat.defs → e ≡ assumed flat → sc ≡ definitions_sums ds [] →
    n ≡ up_to 1000000000000 (summed e 0 sc).tree.base → n ≡ up_to 1000000000000 (size (assumptions_expanded flat))
assumed_count_is flat e sc ds n known d a b h =
    h ∙ (λ i. up_to 1000000000000 (summed (a i) 0 ((b ∙ ap (λ (ds : List Def). definitions_sums ds []) d) i)).tree.base) ∙ assumed_nodes_are flat known
