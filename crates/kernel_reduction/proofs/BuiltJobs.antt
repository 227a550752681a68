-- What a job's kernel keeps of the job, part by part.
use Rattle.std.proofs.Common.{◌≡◌, ℕ, Bool, true, false, not, ◌&&◌, ◌||◌, IsTrue, List, [], ◌∷◌, map, length, refl, sym, ◌∙◌, ap, ap₂, Option, Some, None}
use Rattle.std.specs.List.{AllByRecursion, list_all, list_any}
use Rattle.tla_values.specs.Sets.{Normal}
use Rattle.tla_meaning.specs.declared.actions.Assignable.{Assignable}
use Rattle.tla_meaning.specs.declared.expr.Expr.{Expr, roll-Expr}
use Rattle.tla_meaning.specs.declared.expr.Expr.TheOpen.{Expr-F}
use Rattle.tla_meaning.specs.declared.expr.Expr.TheFolds.{fold-roll-Expr}
use Rattle.tla_meaning.specs.declared.job.Job.{Job}
use Rattle.tla_meaning.specs.declared.job.State.{State}
use Rattle.tla_meaning.specs.declared.op.Op.{Op}
use Rattle.tla_meaning.specs.declared.op.Op.TheVariants as op
use Rattle.tla_meaning.specs.declared.outcome.Outcome.{Outcome}
use Rattle.tla_meaning.specs.declared.place.Place.{Place}
use Rattle.tla_meaning.specs.Actions.{val}
use Rattle.tla_meaning.specs.Executions.{in_cinit, in_init, in_next, no_scope}
use Rattle.tla_meaning.specs.FreeNames.{closed_all, marks, with_names}
use Rattle.tla_meaning.specs.Meaning.{role}
use Rattle.tla_meaning.specs.Numbers.{Width}
use Rattle.tla_meaning.proofs.Views.{and_left, and_right, false≢true}
use Rattle.kernel_trees.specs.declared.kernel.Ker.{Ker}
use Rattle.kernel_trees.specs.declared.system.KerJob.{KerJob}
use Rattle.kernel_trees.specs.Assignments.{reads_at}
use Rattle.kernel_trees.specs.Paths.{Marks}
use Rattle.kernel_trees.specs.Trees.{ker_val}
use Rattle.snowcat_types.specs.Answers.{is_typable_op, is_typable_tree, typable_layer}
use Rattle.snowcat_types.specs.Systems.{parts_of}
use Rattle.kernel_reduction.specs.BuiltJobs.{IsBuilt, KeepsJobPaths, KeepsJobPlaces, KeepsJobTexts, KeepsJobOutcomes, KeepsJobReads, SamePathsOf, kernel_parts_of}
use Rattle.kernel_reduction.specs.JobPaths.{has_name, has_name_at, outside, tree_reads}
use Rattle.kernel_reduction.specs.Origins.{has_text, kernel_has_text, kernel_stands_at, stands_at}
use Rattle.kernel_reduction.specs.Reduction.{Matched, is_wide}
use Rattle.kernel_reduction.specs.Builds.{Builds, BuildsEach, none_left, one_more}
use Rattle.kernel_reduction.proofs.JobTrees.{Each, by_nodes, has_name-roll}
use Rattle.kernel_reduction.proofs.Keeping.{keeps}
use Rattle.kernel_reduction.proofs.NodesKept.{keeps_places, keeps_texts}
use Rattle.kernel_reduction.proofs.PathLaws.{keeps_actions, keeps_paths_below, keeps_reads}

-- ---- values and effects

-- no name is bound around a part
matched : (s t : State) → AllByRecursion Normal s.vals → AllByRecursion Normal t.vals → Matched [] no_scope no_scope s t
matched s t f g = record { tied = λ x. refl; normal = record { bound = tt; named = refl; now = f; next = g } }

each_val : (w : Width) (s t : State) → IsTrue (is_wide w) → Matched [] no_scope no_scope s t → {es : List Expr} {ks : List Ker} → BuildsEach None [] es ks →
    map (λ e. val w e no_scope s t) es ≡ map (λ k. ker_val w k no_scope s t) ks
each_val w s t h r (none_left i ρ) = refl
each_val w s t h r (one_more i ρ e k es ks b g) =
    ap₂ (λ (o : Outcome) (os : List Outcome). o ∷ os) ((keeps w h None [] e k b tt).value no_scope no_scope s t r) (each_val w s t h r g)

pub keeps_outcomes : (job : Job) (k : KerJob) (w : Width) (s t : State) → KeepsJobOutcomes job k w s t
keeps_outcomes job k w s t b h f g = record {
  cinit = keeps_actions w (in_cinit job) [] job.cinit k.cinit h b.cinit no_scope no_scope s t (matched s t f g);
  assume = (keeps w h None [] job.assume k.assume b.assume tt).value no_scope no_scope s t (matched s t f g);
  init = keeps_actions w (in_init job) [] job.init k.init h b.init no_scope no_scope s t (matched s t f g);
  next = keeps_actions w (in_next job) [] job.next k.next h b.next no_scope no_scope s t (matched s t f g);
  invs = each_val w s t h (matched s t f g) b.invs;
}

-- ---- the names of a typable tree

typable-roll : (n : ℕ) (x : Expr-F Expr) (B : List ℕ → Bool) →
    is_typable_tree n (roll-Expr x) B ≡ (is_typable_op n x.op B && closed_all (marks (role x.op (length x.binds))) x.binds (map (is_typable_tree n) x.args) B)
typable-roll n x B = ap (λ f. f B) (fold-roll-Expr ((List ℕ → Bool) → Bool) (typable_layer n) x)

module _ (n : ℕ) where
  abbrev Below : Expr → Type 0
  Below e = (B : List ℕ → Bool) → IsTrue (is_typable_tree n e B) → has_name (outside n) e ≡ false

  both_false : {a b : Bool} → a ≡ false → b ≡ false → (a || b) ≡ false
  both_false h g = ap₂ (λ (a b : Bool). a || b) h g

  all_below : (es : List Expr) (ms : List Bool) (xs : List (List ℕ)) (B : List ℕ → Bool) → Each Below es → IsTrue (closed_all ms xs (map (is_typable_tree n) es) B) →
      list_any (λ b. b) (map (has_name (outside n)) es) ≡ false
  all_below [] ms xs B h q = refl
  all_below (e ∷ es) [] xs B h q =
      let rest : Bool = closed_all [] xs (map (is_typable_tree n) es) B in
      both_false (h.0 B (and_left (is_typable_tree n e B) rest q)) (all_below es [] xs B h.1 (and_right (is_typable_tree n e B) rest q))
  all_below (e ∷ es) (true ∷ ms) xs B h q =
      let C : List ℕ → Bool = with_names xs B in
      let rest : Bool = closed_all ms xs (map (is_typable_tree n) es) B in
      both_false (h.0 C (and_left (is_typable_tree n e C) rest q)) (all_below es ms xs B h.1 (and_right (is_typable_tree n e C) rest q))
  all_below (e ∷ es) (false ∷ ms) xs B h q =
      let rest : Bool = closed_all ms xs (map (is_typable_tree n) es) B in
      both_false (h.0 B (and_left (is_typable_tree n e B) rest q)) (all_below es ms xs B h.1 (and_right (is_typable_tree n e B) rest q))

  node_below : (p : Place) (o : Op) (bs : List Bool) (B : List ℕ → Bool) → IsTrue (is_typable_op n o B) → list_any (λ b. b) bs ≡ false → has_name_at (outside n) p o bs ≡ false
  node_below p (op.Name i primed) bs B h q = ap not h
  node_below p o bs B h q = q

  typable_below : (e : Expr) → Below e
  typable_below = by_nodes Below (λ x h B q.
      let rest : Bool = closed_all (marks (role x.op (length x.binds))) x.binds (map (is_typable_tree n) x.args) B in
      let z : IsTrue (is_typable_op n x.op B && rest) = sym (typable-roll n x B) ∙ q in
      has_name-roll (outside n) x
      ∙ node_below x.place x.op (map (has_name (outside n)) x.args) B (and_left (is_typable_op n x.op B) rest z)
      (all_below x.args (marks (role x.op (length x.binds))) x.binds B h (and_right (is_typable_op n x.op B) rest z)))

-- ---- paths

part_paths : (job : Job) (m : Assignable) (e : Expr) (k : Ker) → IsTrue (is_typable_tree (length job.names) e (λ x. false)) → Builds (Some m) [] e k → SamePathsOf job m e k
part_paths job m e k h b ks =
    keeps_paths_below (length job.names) m [] (record { tree = e; kinds = ks; around = [] }) k (ap not (typable_below (length job.names) e (λ x. false) h)) b

pub keeps_job_paths : (job : Job) (k : KerJob) → KeepsJobPaths job k
keeps_job_paths job k b h =
    let one : Expr → Bool = λ e. is_typable_tree (length job.names) e (λ x. false) in
    let all : List Expr → Bool = λ es. list_all one es in
    let invs : List Expr = map (λ e. e.1) job.invs in
    let h1 : IsTrue (all (job.assume ∷ job.init ∷ job.next ∷ invs)) = and_right (one job.cinit) (all (job.assume ∷ job.init ∷ job.next ∷ invs)) h in
    let h2 : IsTrue (all (job.init ∷ job.next ∷ invs)) = and_right (one job.assume) (all (job.init ∷ job.next ∷ invs)) h1 in
    let h3 : IsTrue (all (job.next ∷ invs)) = and_right (one job.init) (all (job.next ∷ invs)) h2 in
    record {
      cinit = part_paths job (in_cinit job) job.cinit k.cinit (and_left (one job.cinit) (all (job.assume ∷ job.init ∷ job.next ∷ invs)) h) b.cinit;
      init = part_paths job (in_init job) job.init k.init (and_left (one job.init) (all (job.next ∷ invs)) h2) b.init;
      next = part_paths job (in_next job) job.next k.next (and_left (one job.next) (all invs) h3) b.next;
    }

-- ---- places and texts

or_by : (a b c d : Bool) → (IsTrue a → IsTrue c) → (IsTrue b → IsTrue d) → IsTrue (a || b) → IsTrue (c || d)
or_by true b c d f g h = ap (λ z. z || d) (f refl)
or_by false b true d f g h = refl
or_by false b false d f g h = g h

any_kept : (f : Ker → Bool) (g : Expr → Bool) → ((i : Option Assignable) (e : Expr) (k : Ker) → Builds i [] e k → IsTrue (f k) → IsTrue (g e)) →
    {es : List Expr} {ks : List Ker} → BuildsEach None [] es ks → IsTrue (list_any f ks) → IsTrue (list_any g es)
any_kept f g h (none_left i ρ) q = absurd (false≢true q)
any_kept f g h (one_more i ρ e k es ks b r) q = or_by (f k) (list_any f ks) (g e) (list_any g es) (h None e k b) (any_kept f g h r) q

any_part : (f : Ker → Bool) (g : Expr → Bool) → ((i : Option Assignable) (e : Expr) (k : Ker) → Builds i [] e k → IsTrue (f k) → IsTrue (g e)) →
    (job : Job) (k : KerJob) → IsBuilt job k → IsTrue (list_any f (kernel_parts_of k)) → IsTrue (list_any g (parts_of job))
any_part f g h job k b =
    or_by (f k.cinit) _ (g job.cinit) _ (h (Some (in_cinit job)) job.cinit k.cinit b.cinit)
    (or_by (f k.assume) _ (g job.assume) _ (h None job.assume k.assume b.assume)
    (or_by (f k.init) _ (g job.init) _ (h (Some (in_init job)) job.init k.init b.init)
    (or_by (f k.next) _ (g job.next) _ (h (Some (in_next job)) job.next k.next b.next) (any_kept f g h b.invs))))

pub keeps_job_places : (job : Job) (k : KerJob) (p : Place) → KeepsJobPlaces job k p
keeps_job_places job k p = any_part (λ k. kernel_stands_at k p) (λ e. stands_at e p) (λ i e k b. keeps_places i [] e k p b) job k

pub keeps_job_texts : (job : Job) (k : KerJob) (x : List ℕ) → KeepsJobTexts job k x
keeps_job_texts job k x = any_part (λ k. kernel_has_text k x) (λ e. has_text e x) (λ i e k b. keeps_texts i [] e k x b) job k

-- ---- names

each_reads : (m : Marks) (n : ℕ) (p : Place) {es : List Expr} {ks : List Ker} → BuildsEach None [] es ks →
    map (λ e. tree_reads m e n p) es ≡ map (λ k. reads_at m k n p) ks
each_reads m n p (none_left i ρ) = refl
each_reads m n p (one_more i ρ e k es ks b r) = ap₂ (λ (x : Bool) (xs : List Bool). x ∷ xs) (keeps_reads m i ρ e k n p b) (each_reads m n p r)

pub keeps_job_reads : (m : Marks) (job : Job) (k : KerJob) (n : ℕ) (p : Place) → KeepsJobReads m job k n p
keeps_job_reads m job k n p b = record { assume = keeps_reads m None [] job.assume k.assume n p b.assume; invs = each_reads m n p b.invs }
