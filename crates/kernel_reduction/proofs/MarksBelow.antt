-- Names count only where a tree holds them: of a tree whose names are the first n, the paths are those by the marks of the
-- first n names.
use Rattle.std.proofs.Common.{◌≡◌, ℕ, zero, suc, Bool, true, false, not, ◌||◌, List, [], ◌∷◌, map, take, true≢false, refl, sym, ◌∙◌, ap, ap₂}
use Rattle.std.specs.Prelude.{drop, nat_lt}
use Rattle.std.specs.List.{list_any}
use Rattle.tla_meaning.specs.declared.expr.Expr.{Expr}
use Rattle.tla_meaning.specs.declared.op.Op.{Op}
use Rattle.tla_meaning.specs.declared.op.Op.TheVariants as op
use Rattle.tla_meaning.specs.declared.place.Place.{Place}
use Rattle.kernel_trees.specs.declared.kernel.Ker.{Ker}
use Rattle.kernel_trees.specs.declared.kernel.KerOp.{KerOp}
use Rattle.kernel_trees.specs.declared.kernel.KerOp.TheVariants as ker
use Rattle.kernel_trees.specs.Paths.{Marks, Parted, any_mentions, mentions, mentions_at, ways, ways_of}
use Rattle.kernel_trees.specs.TypeKinds.{Kind}
use Rattle.kernel_trees.specs.Ways.{Way}
use Rattle.kernel_trees.proofs.LawOfPaths.{ways-roll}
use Rattle.kernel_trees.proofs.Marking.{SameMarks}
use Rattle.kernel_trees.proofs.Trees.{mentions-roll}
use Rattle.kernel_trees.proofs.Trees as kernel
use Rattle.kernel_reduction.specs.JobPaths.{JobParted, JobStep, TypedTree, names_inside, any_holds, has_name, has_name_at, job_ways, job_ways_of, nodes, outside, set_count, tree_mentions, typed_trees}
use Rattle.kernel_reduction.proofs.Basics.{or_left, or_right}
use Rattle.kernel_reduction.proofs.JobTrees.{Each, by_nodes, has_name-roll, job_ways-roll, with_job_ways}
use Rattle.kernel_reduction.proofs.KernelNames.{ker_has, ker_has_at, has-roll}
use Rattle.kernel_reduction.proofs.Operands.{beside}

is_below : (b : Bool) → not b ≡ false → b ≡ true
is_below true h = refl
is_below false h = absurd (true≢false h)

module _ (n : ℕ) (m m' : Marks) (same : SameMarks n m m') where
  -- ---- the job's trees

  abbrev Within : List Bool → Type 0
  Within bs = list_any (λ b. b) bs ≡ false

  abbrev Fine : Expr → Type 0
  Fine e = has_name (outside n) e ≡ false →
      (tree_mentions m e ≡ tree_mentions m' e)
      × ((around : List (List ℕ)) (ks : List Kind) →
      job_ways m (record { tree = e; kinds = ks; around = around }) ≡ job_ways m' (record { tree = e; kinds = ks; around = around }))

  all_mentions : (es : List Expr) → Each Fine es → Within (map (has_name (outside n)) es) → map (tree_mentions m) es ≡ map (tree_mentions m') es
  all_mentions [] h q = refl
  all_mentions (e ∷ es) h q =
      let rest : Bool = list_any (λ b. b) (map (has_name (outside n)) es) in
      ap₂ (λ (b : Bool) (bs : List Bool). b ∷ bs) (h.0 (or_left (has_name (outside n) e) rest q)).0 (all_mentions es h.1 (or_right (has_name (outside n) e) rest q))

  one_way : (e : Expr) (around : List (List ℕ)) (ks : List Kind) → Fine e → has_name (outside n) e ≡ false → (ts us : List JobParted) → ts ≡ us →
      let t : TypedTree = record { tree = e; kinds = ks; around = around } in (t, job_ways m t) ∷ ts ≡ (t, job_ways m' t) ∷ us
  one_way e around ks h q ts us r =
      let t : TypedTree = record { tree = e; kinds = ks; around = around } in
      ap₂ (λ (ys : List (Way JobStep)) (zs : List JobParted). (t, ys) ∷ zs) ((h q).1 around ks) r

  all_ways : (k : ℕ) (outer inner : List (List ℕ)) (es : List Expr) (ks : List Kind) → Each Fine es → Within (map (has_name (outside n)) es) →
      with_job_ways m (typed_trees k outer inner es ks) ≡ with_job_ways m' (typed_trees k outer inner es ks)
  all_ways k outer inner [] ks h q = refl
  all_ways zero outer inner (e ∷ es) ks h q =
      let rest : Bool = list_any (λ b. b) (map (has_name (outside n)) es) in
      one_way e inner (take (nodes e) ks) h.0 (or_left (has_name (outside n) e) rest q) _ _
      (all_ways zero outer inner es _ h.1 (or_right (has_name (outside n) e) rest q))
  all_ways (suc k) outer inner (e ∷ es) ks h q =
      let rest : Bool = list_any (λ b. b) (map (has_name (outside n)) es) in
      one_way e outer (take (nodes e) ks) h.0 (or_left (has_name (outside n) e) rest q) _ _
      (all_ways k outer inner es _ h.1 (or_right (has_name (outside n) e) rest q))

  any_is : (m l : Marks) (k : ℕ) (outer inner : List (List ℕ)) (es : List Expr) (ks : List Kind) →
      any_holds m (with_job_ways l (typed_trees k outer inner es ks)) ≡ list_any (λ b. b) (map (tree_mentions m) es)
  any_is m l k outer inner [] ks = refl
  any_is m l zero outer inner (e ∷ es) ks = ap (λ b. tree_mentions m e || b) (any_is m l zero outer inner es _)
  any_is m l (suc k) outer inner (e ∷ es) ks = ap (λ b. tree_mentions m e || b) (any_is m l k outer inner es _)

  node_mentions : (p : Place) (o : Op) (bs cs ds : List Bool) → has_name_at (outside n) p o bs ≡ false → (Within bs → cs ≡ ds) →
      has_name_at (λ i primed p. m i primed) p o cs ≡ has_name_at (λ i primed p. m' i primed) p o ds
  node_mentions p (op.Name i primed) bs cs ds h f = same i primed (is_below (nat_lt i n) h)
  node_mentions p o bs cs ds h f = ap (list_any (λ b. b)) (f h)

  -- by marks that agree on the trees
  ways_same : (o : Op) (self : TypedTree) (p : Place) (xs : List (List ℕ)) (ks : List JobParted) → any_holds m ks ≡ any_holds m' ks →
      job_ways_of m o self p xs ks ≡ job_ways_of m' o self p xs ks
  ways_same op.Or self p xs ks e = rw e refl
  ways_same op.If self p xs ks e = rw e refl
  ways_same (op.Case other) self p xs ks e = rw e refl
  ways_same o self p xs ks e = refl

  node_ways : (o : Op) (self : TypedTree) (p : Place) (xs : List (List ℕ)) (bs : List Bool) (ks ls : List JobParted) → has_name_at (outside n) p o bs ≡ false →
      (Within bs → (ks ≡ ls) × (any_holds m ls ≡ any_holds m' ls)) → job_ways_of m o self p xs ks ≡ job_ways_of m' o self p xs ls
  node_ways (op.Name i primed) self p xs bs ks ls h f = refl
  node_ways o self p xs bs ks ls h f = ap (job_ways_of m o self p xs) (f h).0 ∙ ways_same o self p xs ls (f h).1

  fine : (e : Expr) → Fine e
  fine = by_nodes Fine (λ x h b.
      let c : has_name_at (outside n) x.place x.op (map (has_name (outside n)) x.args) ≡ false = sym (has_name-roll (outside n) x) ∙ b in (
        has_name-roll _ x ∙ node_mentions x.place x.op _ _ _ c (all_mentions x.args h) ∙ sym (has_name-roll _ x),
        λ around ks.
            let many : ℕ = set_count x.op x.binds in
            let inner : List (List ℕ) = names_inside x.op x.binds around in
            job_ways-roll m x around ks
            ∙ node_ways x.op _ x.place x.binds _ _ _ c (λ q. (
              all_ways many around inner x.args (drop 1 ks) h q,
              any_is m m' many around inner x.args (drop 1 ks) ∙ ap (list_any (λ b. b)) (all_mentions x.args h q)
                  ∙ sym (any_is m' m' many around inner x.args (drop 1 ks)),
            ))
            ∙ sym (job_ways-roll m' x around ks),
      ))

  pub same_job_ways : (t : TypedTree) → has_name (outside n) t.tree ≡ false → job_ways m t ≡ job_ways m' t
  same_job_ways t h = (fine t.tree h).1 t.around t.kinds

  -- ---- the kernel's

  abbrev FineKernel : Ker → Type 0
  FineKernel k = ker_has (outside n) k ≡ false → (mentions m k ≡ mentions m' k) × (ways m k ≡ ways m' k)

  abbrev AllFine : List Ker → Type 0
  AllFine ks = kernel.Each FineKernel ks

  kernel_mentions : (ks : List Ker) → AllFine ks → Within (map (ker_has (outside n)) ks) → map (mentions m) ks ≡ map (mentions m') ks
  kernel_mentions [] h q = refl
  kernel_mentions (k ∷ ks) h q =
      let rest : Bool = list_any (λ b. b) (map (ker_has (outside n)) ks) in
      ap₂ (λ (b : Bool) (bs : List Bool). b ∷ bs) (h.0 (or_left (ker_has (outside n) k) rest q)).0 (kernel_mentions ks h.1 (or_right (ker_has (outside n) k) rest q))

  kernel_ways : (ks : List Ker) → AllFine ks → Within (map (ker_has (outside n)) ks) → map (beside m) ks ≡ map (beside m') ks
  kernel_ways [] h q = refl
  kernel_ways (k ∷ ks) h q =
      let rest : Bool = list_any (λ b. b) (map (ker_has (outside n)) ks) in
      ap₂ (λ (x : Parted) (xs : List Parted). x ∷ xs)
      (ap (λ ys. (k, ys)) (h.0 (or_left (ker_has (outside n) k) rest q)).1) (kernel_ways ks h.1 (or_right (ker_has (outside n) k) rest q))

  -- the first two of them, as a range has
  two_mentions : (ks : List Ker) → AllFine ks → Within (take 2 (map (ker_has (outside n)) ks)) → take 2 (map (mentions m) ks) ≡ take 2 (map (mentions m') ks)
  two_mentions [] h q = refl
  two_mentions (k ∷ []) h q = ap (λ b. b ∷ []) (h.0 (or_left (ker_has (outside n) k) false q)).0
  two_mentions (k ∷ l ∷ ks) h q =
      let z : Bool = ker_has (outside n) l || false in
      ap₂ (λ (b c : Bool). b ∷ c ∷ []) (h.0 (or_left (ker_has (outside n) k) z q)).0
      (h.1.0 (or_left (ker_has (outside n) l) false (or_right (ker_has (outside n) k) z q))).0

  kernel_any : (m l : Marks) (ks : List Ker) → any_mentions m (map (beside l) ks) ≡ list_any (λ b. b) (map (mentions m) ks)
  kernel_any m l [] = refl
  kernel_any m l (k ∷ ks) = ap (λ b. mentions m k || b) (kernel_any m l ks)

  kernel_node_mentions : (p : Place) (o : KerOp) (ks : List Ker) → AllFine ks → ker_has_at (outside n) p o (map (ker_has (outside n)) ks) ≡ false →
      mentions_at m o (map (mentions m) ks) ≡ mentions_at m' o (map (mentions m') ks)
  kernel_node_mentions p (ker.Name i primed) ks h q = same i primed (is_below (nat_lt i n) q)
  kernel_node_mentions p (ker.Const v) ks h q = refl
  kernel_node_mentions p ker.NoCase ks h q = refl
  kernel_node_mentions p ker.Range ks h q = ap (list_any (λ b. b)) (two_mentions ks h q)
  kernel_node_mentions p o ks h q = ap (list_any (λ b. b)) (kernel_mentions ks h q)

  kernel_ways_same : (o : KerOp) (self : Ker) (p : Place) (xs : List ℕ) (ks : List Parted) → any_mentions m ks ≡ any_mentions m' ks →
      ways_of m o self p xs ks ≡ ways_of m' o self p xs ks
  kernel_ways_same ker.Or self p xs ks e = rw e refl
  kernel_ways_same ker.If self p xs ks e = rw e refl
  kernel_ways_same o self p xs ks e = refl

  kernel_node_ways : (o : KerOp) (self : Ker) (p : Place) (xs : List ℕ) (bs : List Bool) (ks ls : List Parted) → ker_has_at (outside n) p o bs ≡ false →
      (Within bs → (ks ≡ ls) × (any_mentions m ls ≡ any_mentions m' ls)) → ways_of m o self p xs ks ≡ ways_of m' o self p xs ls
  kernel_node_ways (ker.Name i primed) self p xs bs ks ls h f = refl
  kernel_node_ways (ker.Const v) self p xs bs ks ls h f = refl
  kernel_node_ways ker.NoCase self p xs bs ks ls h f = refl
  kernel_node_ways ker.Range self p xs bs ks ls h f = refl
  kernel_node_ways o self p xs bs ks ls h f = ap (ways_of m o self p xs) (f h).0 ∙ kernel_ways_same o self p xs ls (f h).1

  fine_kernel : (k : Ker) → FineKernel k
  fine_kernel = kernel.by_nodes FineKernel (λ x h b.
      let c : ker_has_at (outside n) x.place x.op (map (ker_has (outside n)) x.args) ≡ false = sym (has-roll (outside n) x) ∙ b in (
        mentions-roll m x ∙ kernel_node_mentions x.place x.op x.args h c ∙ sym (mentions-roll m' x),
        ways-roll m x
            ∙ kernel_node_ways x.op _ x.place x.binds _ _ _ c (λ q. (
              kernel_ways x.args h q,
              kernel_any m m' x.args ∙ ap (list_any (λ b. b)) (kernel_mentions x.args h q) ∙ sym (kernel_any m' m' x.args),
            ))
            ∙ sym (ways-roll m' x),
      ))

  pub same_kernel_ways : (k : Ker) → ker_has (outside n) k ≡ false → ways m k ≡ ways m' k
  same_kernel_ways k h = (fine_kernel k h).1
