-- Where a tree holds only the names that are marked, it reads no name early by wider marks either.
use Rattle.std.proofs.Common.{◌≡◌, ℕ, Bool, true, false, not, ◌&&◌, ◌||◌, IsTrue, List, [], ◌∷◌, map, take, refl, sym, ◌∙◌, ap, ap₂}
use Rattle.std.specs.List.{list_all, list_any}
use Rattle.tla_meaning.proofs.Views.{and_both, and_left, and_right, false≢true}
use Rattle.kernel_trees.specs.declared.kernel.Ker.{Ker}
use Rattle.kernel_trees.specs.declared.kernel.KerOp.{KerOp}
use Rattle.kernel_trees.specs.declared.kernel.KerOp.TheVariants as ker
use Rattle.kernel_trees.specs.declared.path.AssignedStep.{AssignedStep}
use Rattle.kernel_trees.specs.declared.path.AssignedStep.TheVariants as mark
use Rattle.kernel_trees.specs.Assignments.{is_in, open_names, reads_late}
use Rattle.kernel_trees.specs.Paths.{Marks, mentions, mentions_at, sets}
use Rattle.kernel_trees.proofs.Trees.{Each, by_nodes, mentions-roll}
use Rattle.kernel_reduction.proofs.Basics.{or_left, or_right}
use Rattle.kernel_reduction.proofs.Tying.{not_true}
use Rattle.accepted_systems.proofs.AlongPaths.{GoesDown, MarkHas, is_parted}

marked_there : (b : Bool) → not b ≡ false → b ≡ true
marked_there true h = refl
marked_there false h = absurd (false≢true (sym h))

both_false : {a b : Bool} → a ≡ false → b ≡ false → (a || b) ≡ false
both_false h g = ap₂ (λ (a b : Bool). a || b) h g

-- ---- marks that are covered by two others

-- a tree holds no name that is marked
abbrev pub HasNone : Marks → Ker → Type 0
HasNone m k = mentions m k ≡ false

module _ (m n u : Marks) (covered : (i : ℕ) (primed : Bool) → m i primed ≡ false → n i primed ≡ false →
    u i primed ≡ false) where
  abbrev Fine : Ker → Type 0
  Fine k = HasNone m k → HasNone n k → HasNone u k

  abbrev None_in : Marks → List Ker → Type 0
  None_in m ks = list_any (λ b. b) (map (mentions m) ks) ≡ false

  any_none : (ks : List Ker) → Each Fine ks → None_in m ks → None_in n ks → None_in u ks
  any_none [] f h g = refl
  any_none (k ∷ ks) f h g =
      let a : Bool = list_any (λ b. b) (map (mentions m) ks) in
      let b : Bool = list_any (λ b. b) (map (mentions n) ks) in
      both_false (f.0 (or_left (mentions m k) a h) (or_left (mentions n k) b g))
      (any_none ks f.1 (or_right (mentions m k) a h) (or_right (mentions n k) b g))

  abbrev None_first : Marks → List Ker → Type 0
  None_first m ks = list_any (λ b. b) (take 2 (map (mentions m) ks)) ≡ false

  two_none : (ks : List Ker) → Each Fine ks → None_first m ks → None_first n ks → None_first u ks
  two_none [] f h g = refl
  two_none (a ∷ []) f h g = any_none (a ∷ []) f h g
  two_none (a ∷ b ∷ ks) f h g = any_none (a ∷ b ∷ []) (f.0, (f.1.0, tt)) h g

  abbrev None_at : Marks → KerOp → List Ker → Type 0
  None_at m o ks = mentions_at m o (map (mentions m) ks) ≡ false

  node_none : (o : KerOp) (ks : List Ker) → Each Fine ks → None_at m o ks → None_at n o ks → None_at u o ks
  node_none (ker.Name i primed) ks f h g = covered i primed h g
  node_none (ker.Const v) ks f h g = refl
  node_none ker.NoCase ks f h g = refl
  node_none ker.Range ks f h g = two_none ks f h g
  node_none o ks f h g = any_none ks f h g

  pub none_covered : (k : Ker) → Fine k
  none_covered = by_nodes Fine (λ x f h g.
      mentions-roll u x ∙ node_none x.op x.args f (sym (mentions-roll m x) ∙ h) (sym (mentions-roll n x) ∙ g))

-- ---- it goes down

each_none : (m : Marks) (ks : List Ker) → list_any (λ b. b) (map (mentions m) ks) ≡ false → Each (HasNone m) ks
each_none m [] h = tt
each_none m (k ∷ ks) h =
    let rest : Bool = list_any (λ b. b) (map (mentions m) ks) in
    (or_left (mentions m k) rest h, each_none m ks (or_right (mentions m k) rest h))

pub none_down : (m : Marks) → GoesDown (HasNone m)
none_down m x e h = by x.op e (sym (mentions-roll m x) ∙ h)
  where
    by : (o : KerOp) → IsTrue (is_parted o) → mentions_at m o (map (mentions m) x.args) ≡ false →
        Each (HasNone m) x.args
    by ker.And e h = each_none m x.args h
    by ker.Or e h = each_none m x.args h
    by ker.If e h = each_none m x.args h
    by ker.Some e h = each_none m x.args h
    by ker.Equal e h = each_none m x.args h
    by ker.Member e h = each_none m x.args h
    by o e h = absurd (false≢true e)

-- ---- along a path whose trees hold only names that are marked

abbrev pub unmarked : Marks → Marks
unmarked m i primed = not (m i primed)

module _ (m u : Marks) where
  open_covered : (before : List ℕ) (i : ℕ) (primed : Bool) → open_names m before i primed ≡ false →
      unmarked m i primed ≡ false →
      open_names u before i primed ≡ false
  open_covered before i primed h g =
      ap (λ b. u i primed && b) (sym (ap (λ b. b && not (is_in before i)) (marked_there (m i primed) g)) ∙ h)
      ∙ none (u i primed)
    where
      none : (b : Bool) → (b && false) ≡ false
      none true = refl
      none false = refl

  tree_late : (before : List ℕ) (k : Ker) → HasNone (unmarked m) k → IsTrue (not (mentions (open_names m before) k)) →
      IsTrue (not (mentions (open_names u before) k))
  tree_late before k g h =
      ap not (none_covered (open_names m before) (unmarked m) (open_names u before) (open_covered before) k
      (not_true (mentions (open_names m before) k) h) g)

  trees_late : (before : List ℕ) (ks : List Ker) → Each (HasNone (unmarked m)) ks →
      IsTrue (list_all (λ k. not (mentions (open_names m before) k)) ks) →
      IsTrue (list_all (λ k. not (mentions (open_names u before) k)) ks)
  trees_late before [] g h = refl
  trees_late before (k ∷ ks) g h =
      let a : Bool = not (mentions (open_names m before) k) in
      let b : Bool = list_all (λ k. not (mentions (open_names m before) k)) ks in
      and_both (not (mentions (open_names u before) k)) (list_all (λ k. not (mentions (open_names u before) k)) ks)
      (tree_late before k g.0 (and_left a b h)) (trees_late before ks g.1 (and_right a b h))

  one_late : (k : Ker) (given later : List ℕ) (zs : List AssignedStep) → HasNone (unmarked m) k →
      (IsTrue (reads_late m later zs) → IsTrue (reads_late u later zs)) →
      IsTrue (not (mentions (open_names m given) k) && reads_late m later zs) →
      IsTrue (not (mentions (open_names u given) k) && reads_late u later zs)
  one_late k given later zs g f h =
      let a : Bool = not (mentions (open_names m given) k) in
      let b : Bool = reads_late m later zs in
      and_both (not (mentions (open_names u given) k)) (reads_late u later zs) (tree_late given k g (and_left a b h))
      (f (and_right a b h))

  pub late_by : (before : List ℕ) (zs : List AssignedStep) → Each (MarkHas (HasNone (unmarked m))) zs →
      IsTrue (reads_late m before zs) →
      IsTrue (reads_late u before zs)
  late_by before [] g h = refl
  late_by before (mark.Guard k b ∷ zs) g h = one_late k before before zs g.0.0 (late_by before zs g.1) h
  late_by before (mark.Pick ps ∷ zs) g h =
      let a : Bool = list_all (λ k. not (mentions (open_names m before) k)) (sets ps) in
      let b : Bool = reads_late m before zs in
      and_both (list_all (λ k. not (mentions (open_names u before) k)) (sets ps)) (reads_late u before zs)
      (trees_late before (sets ps) g.0 (and_left a b h)) (late_by before zs g.1 (and_right a b h))
  late_by before (mark.Equals i e ∷ zs) g h = one_late e before (i ∷ before) zs g.0.0 (late_by (i ∷ before) zs g.1) h
  late_by before (mark.Among i e ∷ zs) g h = one_late e before (i ∷ before) zs g.0.0 (late_by (i ∷ before) zs g.1) h
