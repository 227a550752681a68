-- Marks count only at the names that a tree holds: those of a job may be taken at its declared names alone.
use Rattle.std.proofs.Common.{◌≡◌, ℕ, ◌<◌, Bool, true, false, ◌&&◌, ◌||◌, IsTrue, List, [], ◌∷◌, Some, map, length, refl, sym, ◌∙◌, ap, ap₂, subst, arith, if◌then◌else◌}
use Rattle.std.specs.Prelude.{nat_lt, nat_le, slice_get, get_or}
use Rattle.std.specs.List.{list_all}
use Rattle.std.proofs.lemmas.Option.{slice_get-get_or}
use Rattle.tla_values.specs.declared.value.Value.{Value}
use Rattle.tla_values.specs.declared.value.Value.TheVariants as value
use Rattle.tla_meaning.specs.declared.place.Place.{Place}
use Rattle.tla_meaning.specs.declared.job.Job.{Job}
use Rattle.tla_meaning.specs.declared.job.State.{State}
use Rattle.tla_meaning.specs.Actions.{counts}
use Rattle.tla_meaning.specs.Executions.{IsState, constants, in_cinit, in_init, in_next}
use Rattle.tla_meaning.proofs.Views.{and_left, and_right}
use Rattle.kernel_trees.specs.declared.kernel.Ker.{Ker, roll-Ker}
use Rattle.kernel_trees.specs.declared.kernel.Ker.TheOpen.{Ker-F}
use Rattle.kernel_trees.specs.declared.kernel.Ker.TheFolds.{fold-roll-Ker}
use Rattle.kernel_trees.specs.declared.kernel.KerOp.{KerOp}
use Rattle.kernel_trees.specs.declared.kernel.KerOp.TheVariants as ker
use Rattle.kernel_trees.specs.Ways.{Way}
use Rattle.kernel_trees.specs.Paths.{Marks, only_below, own_below, names_below, mentions, mentions_at, Step, ways, ways_of, any_mentions}
use Rattle.kernel_trees.specs.Assignments.{ReadsNext}
use Rattle.kernel_trees.proofs.Trees.{Each, by_nodes, mentions-roll}
use Rattle.kernel_trees.proofs.LawOfPaths.{ways-roll}

pub below-roll : (n : ℕ) (x : Ker-F Ker) →
    names_below n (roll-Ker x) ≡ (own_below n x.op && list_all (λ b. b) (map (names_below n) x.args))
unfolding names_below
below-roll n x = fold-roll-Ker Bool (λ x. own_below n x.op && list_all (λ b. b) x.args) x

abbrev beside : Marks → Ker → Ker × List (Way Step)
beside m k = (k, ways m k)

-- the two mark the same of the first n names
abbrev pub SameMarks : ℕ → Marks → Marks → Type 0
SameMarks n m m' = (i : ℕ) (primed : Bool) → nat_lt i n ≡ true → m i primed ≡ m' i primed

module _ (n : ℕ) (m m' : Marks) (same : SameMarks n m m') where
  abbrev Fine : Ker → Type 0
  Fine k = IsTrue (names_below n k) → (mentions m k ≡ mentions m' k) × (ways m k ≡ ways m' k)

  abbrev Below : List Ker → Type 0
  Below ks = IsTrue (list_all (λ b. b) (map (names_below n) ks))

  all_mentions : (ks : List Ker) → Each Fine ks → Below ks → map (mentions m) ks ≡ map (mentions m') ks
  all_mentions [] h b = refl
  all_mentions (k ∷ ks) h b =
      let rest : Bool = list_all (λ b. b) (map (names_below n) ks) in
      ap₂ (λ (x : Bool) (xs : List Bool). x ∷ xs) (h.0 (and_left (names_below n k) rest b)).0
      (all_mentions ks h.1 (and_right (names_below n k) rest b))

  all_ways : (ks : List Ker) → Each Fine ks → Below ks → map (beside m) ks ≡ map (beside m') ks
  all_ways [] h b = refl
  all_ways (k ∷ ks) h b =
      let rest : Bool = list_all (λ b. b) (map (names_below n) ks) in
      ap₂ (λ (x : Ker × List (Way Step)) (xs : List (Ker × List (Way Step))). x ∷ xs)
      (ap (λ (ys : List (Way Step)). (k, ys)) (h.0 (and_left (names_below n k) rest b)).1)
      (all_ways ks h.1 (and_right (names_below n k) rest b))

  any_same : (ks : List Ker) → Each Fine ks → Below ks →
      any_mentions m (map (beside m') ks) ≡ any_mentions m' (map (beside m') ks)
  any_same [] h b = refl
  any_same (k ∷ ks) h b =
      let rest : Bool = list_all (λ b. b) (map (names_below n) ks) in
      ap₂ (λ (x y : Bool). x || y) (h.0 (and_left (names_below n k) rest b)).0
      (any_same ks h.1 (and_right (names_below n k) rest b))

  mentions_same : (o : KerOp) (bs : List Bool) → IsTrue (own_below n o) → mentions_at m o bs ≡ mentions_at m' o bs
  mentions_same (ker.Name i primed) bs h = same i primed h
  mentions_same o bs h = refl

  ways_same : (o : KerOp) (self : Ker) (p : Place) (xs : List ℕ) (ks : List (Ker × List (Way Step))) →
      any_mentions m ks ≡ any_mentions m' ks → ways_of m o self p xs ks ≡ ways_of m' o self p xs ks
  ways_same ker.Or self p xs ks e = rw e refl
  ways_same ker.If self p xs ks e = rw e refl
  ways_same o self p xs ks e = refl

  fine : (k : Ker) → Fine k
  fine = by_nodes Fine (λ x h b.
      let own : Bool = own_below n x.op in
      let rest : Bool = list_all (λ b. b) (map (names_below n) x.args) in
      let c : IsTrue (own && rest) = sym (below-roll n x) ∙ b in
      let kids : IsTrue rest = and_right own rest c in (
        mentions-roll m x
            ∙ (ap (mentions_at m x.op) (all_mentions x.args h kids)
            ∙ (mentions_same x.op (map (mentions m') x.args) (and_left own rest c) ∙ sym (mentions-roll m' x))),
        ways-roll m x
            ∙ (ap (ways_of m x.op (roll-Ker x) x.place x.binds) (all_ways x.args h kids)
            ∙ (ways_same x.op (roll-Ker x) x.place x.binds (map (beside m') x.args) (any_same x.args h kids)
            ∙ sym (ways-roll m' x))),
      ))

  pub same_ways : (k : Ker) → IsTrue (names_below n k) → ways m k ≡ ways m' k
  same_ways k b = (fine k b).1

below_same : (n : ℕ) (m : Marks) → SameMarks n m (only_below n m)
below_same n m i primed h = sym (ap (λ b. b && m i primed) h)

-- a tree whose names are the first n has the paths that it has by their marks alone
pub ways_below : (n : ℕ) (m : Marks) (k : Ker) → IsTrue (names_below n k) → ways m k ≡ ways (only_below n m) k
ways_below n m = same_ways n m (only_below n m) (below_same n m)

-- ---- the names of a job that an action may assign have values

module _ (job : Job) (t : State) (st : IsState job t) where
  value_at : (i : ℕ) → nat_lt i (length job.names) ≡ true → slice_get t.vals i ≡ Some (get_or t.vals i (value.Bool false))
  value_at i lt = slice_get-get_or t.vals i (value.Bool false) (subst (λ k. i < k) (sym st.fills) (grind (arith, lt)))

  pub next_reads : (s : State) → ReadsNext (only_below (length job.names) (counts (in_next job))) s t
  next_reads s i primed h =
      let n : ℕ = length job.names in
      let pr : primed ≡ true = and_left primed (nat_le (constants job) i) (and_right (nat_lt i n) (primed && nat_le (constants job) i) h) in
      let e = value_at i (and_left (nat_lt i n) (primed && nat_le (constants job) i) h) in
      (get_or t.vals i (value.Bool false), (ap (λ (b : Bool). slice_get (if b then t else s).vals i) pr ∙ e, e))

  -- in Init and CInit, where the two states are one
  one_reads : (m : Marks) → ReadsNext (only_below (length job.names) m) t t
  one_reads m i primed h = by primed
    where
      e : slice_get t.vals i ≡ Some (get_or t.vals i (value.Bool false))
      e = value_at i (and_left (nat_lt i (length job.names)) (m i primed) h)

      by : (b : Bool) → (v : Value) × ((slice_get (if b then t else t).vals i ≡ Some v) × (slice_get t.vals i ≡ Some v))
      by true = (get_or t.vals i (value.Bool false), (e, e))
      by false = (get_or t.vals i (value.Bool false), (e, e))

  pub init_reads : ReadsNext (only_below (length job.names) (counts (in_init job))) t t
  init_reads = one_reads (counts (in_init job))

  pub cinit_reads : ReadsNext (only_below (length job.names) (counts (in_cinit job))) t t
  cinit_reads = one_reads (counts (in_cinit job))
