-- What is accepted and can be checked is ready for the questions.
use Rattle.std.proofs.Common.{◌≡◌, ℕ, ◌≤◌, Bool, true, false, ◌&&◌, IsTrue, List, [], ◌∷◌, map, length, Some, refl, sym, ap, subst, arith}
use Rattle.std.specs.Prelude.{All, Option}
use Rattle.std.specs.List.{list_all}
use Rattle.std.proofs.lemmas.List.Elements.{All-cons}
use Rattle.tla_meaning.specs.declared.expr.Expr.{Expr, roll-Expr}
use Rattle.tla_meaning.specs.declared.expr.Expr.TheOpen.{Expr-F}
use Rattle.tla_meaning.specs.declared.expr.Expr.TheFolds.{fold-roll-Expr, ind-Expr}
use Rattle.tla_meaning.specs.declared.job.Job.{Job}
use Rattle.tla_meaning.specs.declared.op.Op.{Op}
use Rattle.tla_meaning.specs.declared.op.Op.TheVariants as op
use Rattle.tla_meaning.specs.declared.place.Place.{Place}
use Rattle.tla_meaning.specs.Expanded.{is_expanded, is_expanded_op}
use Rattle.tla_meaning.specs.FreeNames.{closed_all, marks, with_names}
use Rattle.tla_meaning.specs.Meaning.{role}
use Rattle.tla_meaning.proofs.Views.{and_left, and_right}
use Rattle.snowcat_types.specs.Answers.{is_typable, is_typable_op, is_typable_tree, typable_layer}
use Rattle.front_end.specs.Accepted as front
use Rattle.front_end.specs.declared.request.Accepted.{Accepted}
use Rattle.bounded_engine.specs.inner.Finding.{AreExpanded, IsReady}
use Rattle.accepted_systems.specs.Checking.{CanCheck}
use Rattle.kernel_trees.specs.declared.system.System.{System}
use Rattle.step_laws.specs.Encodable.{CanEncode}
use Rattle.step_laws.specs.Systems.{StandsFor}
use Rattle.snowcat_rows.specs.declared.types.Ty.{Ty}
use Rattle.bounded_engine.specs.declared.run.Run.{Run}
use Rattle.bounded_engine.specs.declared.subject.Subject.{Subject}
use Rattle.bounded_engine.specs.Answers.{IsChecked}

-- ---- trees

typable_op_expanded : (n : ℕ) (o : Op) (B : List ℕ → Bool) → IsTrue (is_typable_op n o B) → IsTrue (is_expanded_op o)
typable_op_expanded n (op.Name i primed) B h = refl
typable_op_expanded n (op.Bound x) B h = refl
typable_op_expanded n (op.Outside f) B h = refl
typable_op_expanded n o B h = h

-- the tree is expanded if it may be typed
abbrev IsSo : ℕ → Expr → Type 0
IsSo n e = (B : List ℕ → Bool) → IsTrue (is_typable_tree n e B) → IsTrue (is_expanded e)

abbrev roots : (n : ℕ) → List ((e : Expr) × IsSo n e) → List Expr
roots n ys = map (λ y. y.0) ys

both_true : (a b : Bool) → IsTrue a → IsTrue b → IsTrue (a && b)
both_true true b h k = k
both_true false b h k = h

children_expanded : (n : ℕ) (ms : List Bool) (xs : List (List ℕ)) (ys : List ((e : Expr) × IsSo n e)) (B : List ℕ → Bool)
    → IsTrue (closed_all ms xs (map (is_typable_tree n) (roots n ys)) B) → IsTrue (list_all (λ b. b) (map is_expanded (roots n ys)))
children_expanded n ms xs [] B h = refl
children_expanded n [] xs (y ∷ ys) B h =
    both_true _ _ (y.1 B (and_left _ _ h)) (children_expanded n [] xs ys B (and_right (is_typable_tree n y.0 B) _ h))
children_expanded n (true ∷ ms) xs (y ∷ ys) B h =
    both_true _ _ (y.1 (with_names xs B) (and_left _ _ h)) (children_expanded n ms xs ys B (and_right (is_typable_tree n y.0 (with_names xs B)) _ h))
children_expanded n (false ∷ ms) xs (y ∷ ys) B h =
    both_true _ _ (y.1 B (and_left _ _ h)) (children_expanded n ms xs ys B (and_right (is_typable_tree n y.0 B) _ h))

expanded-roll : (x : Expr-F Expr) → is_expanded (roll-Expr x) ≡ is_expanded_op x.op && list_all (λ b. b) (map is_expanded x.args)
expanded-roll x = fold-roll-Expr Bool (λ x. is_expanded_op x.op && list_all (λ b. b) x.args) x

typable-roll : (n : ℕ) (x : Expr-F Expr) (B : List ℕ → Bool) → is_typable_tree n (roll-Expr x) B
    ≡ is_typable_op n x.op B && closed_all (marks (role x.op (length x.binds))) x.binds (map (is_typable_tree n) x.args) B
typable-roll n x B = ap (λ (f : (List ℕ → Bool) → Bool). f B) (fold-roll-Expr ((List ℕ → Bool) → Bool) (typable_layer n) x)

node_expanded : (n : ℕ) (p : Place) (o : Op) (xs : List (List ℕ)) (ys : List ((e : Expr) × IsSo n e))
    → IsSo n (roll-Expr (record { place = p; op = o; args = roots n ys; binds = xs }))
node_expanded n p o xs ys B h =
    let x : Expr-F Expr = record { place = p; op = o; args = roots n ys; binds = xs } in
    let k : IsTrue (is_typable_op n o B && closed_all (marks (role o (length xs))) xs (map (is_typable_tree n) (roots n ys)) B) =
    subst IsTrue (typable-roll n x B) h in
    subst IsTrue (sym (expanded-roll x))
    (both_true _ _ (typable_op_expanded n o B (and_left _ _ k))
    (children_expanded n (marks (role o (length xs))) xs ys B (and_right (is_typable_op n o B) _ k)))

typable_expanded : (n : ℕ) (e : Expr) → IsSo n e
typable_expanded n =
    ind-Expr (IsSo n) (λ x y is. subst (λ (z : Expr-F Expr). IsSo n (roll-Expr z)) is (node_expanded n y.place y.op y.binds y.args))

module _ (n : ℕ) where
  all_expanded : (es : List (List ℕ × Expr)) → IsTrue (list_all (λ e. is_typable_tree n e (λ x. false)) (map (λ e. e.1) es))
      → All (λ e. IsTrue (is_expanded e.1)) es
  all_expanded [] h = λ k d lt. absurd (omega arith)
  all_expanded (e ∷ es) h =
      All-cons (λ x. IsTrue (is_expanded x.1)) e es (typable_expanded n e.1 (λ x. false) (and_left _ _ h))
      (all_expanded es (and_right (is_typable_tree n e.1 (λ x. false)) _ h))

are_expanded : (job : Job) → IsTrue (is_typable job) → AreExpanded job
are_expanded job h =
    let n = length job.names in
    let h1 = and_right (is_typable_tree n job.cinit (λ x. false)) _ h in
    let h2 = and_right (is_typable_tree n job.assume (λ x. false)) _ h1 in
    let h3 = and_right (is_typable_tree n job.init (λ x. false)) _ h2 in
    let h4 = and_right (is_typable_tree n job.next (λ x. false)) _ h3 in
    record {
      cinit = typable_expanded n job.cinit (λ x. false) (and_left _ _ h);
      assume = typable_expanded n job.assume (λ x. false) (and_left _ _ h1);
      init = typable_expanded n job.init (λ x. false) (and_left _ _ h2);
      next = typable_expanded n job.next (λ x. false) (and_left _ _ h3);
      invs = all_expanded n job.invs h4;
    }

-- ---- the job

pub ready : (a : Accepted) (s : Subject) → front.IsAccepted a → CanCheck a → s.job.now ≡ a.job → s.system.now ≡ a.system → s.width ≡ a.width → IsReady s
ready a s accepted can job system width = record {
  wide = subst (λ (w : ℕ). 4 ≤ w) (sym width) can.wide;
  narrow = subst (λ (w : ℕ). w ≤ 64) (sym width) can.narrow;
  expanded = subst AreExpanded (sym job) (are_expanded a.job accepted.typed.bound);
  placed = subst front.IsInFiles (sym job) accepted.placed;
  stands =
      subst (λ (w : ℕ). StandsFor (Some w) s.job.now s.system.now) (sym width)
      (subst (λ (j : Job). StandsFor (Some a.width) j s.system.now) (sym job)
      (subst (λ (x : System). StandsFor (Some a.width) a.job x) (sym system) can.stands));
  encodable = subst CanEncode (sym system) can.encodable;
}

-- the names' types are those of the kernel
pub with_types : (a : Accepted) → front.IsAccepted a → (budget : Option ℕ) (r : Run)
    → IsChecked (Some a.width) a.job a.system.ker.names a.length budget r.verdict r.certificate
    → IsChecked (Some a.width) a.job a.typed.names a.length budget r.verdict r.certificate
with_types a accepted budget r is =
    subst (λ (types : List Ty). IsChecked (Some a.width) a.job types a.length budget r.verdict r.certificate) accepted.reduced.kernel.names is
