-- Paths that have ended never hold, so a path that holds assigns each marked name; and a marked path has ended where the
-- path of which it is made has.
use Rattle.std.proofs.Common.{◌≡◌, ◌⊎◌, ℕ, Bool, true, false, not, ◌||◌, IsTrue, List, [], ◌∷◌, length, Option, Some, None, option_map, inl, inr, refl, sym, ◌∙◌, ap, subst}
use Rattle.tla_values.specs.Order.{Layer}
use Rattle.tla_values.specs.declared.value.Value.{Value, out-Value}
use Rattle.tla_values.specs.declared.value.Value.TheVariants as value
use Rattle.tla_values.specs.declared.value.Value.TheOpen as layer
use Rattle.tla_meaning.specs.declared.job.State.{State}
use Rattle.tla_meaning.specs.declared.outcome.Outcome.{Outcome}
use Rattle.tla_meaning.specs.declared.place.Place.{Place}
use Rattle.tla_meaning.specs.Actions.{denotation_of, effect_of}
use Rattle.tla_meaning.specs.Meaning.{role, view}
use Rattle.tla_meaning.specs.Numbers.{Width}
use Rattle.tla_meaning.specs.Operators.{yes_no}
use Rattle.tla_meaning.specs.Scopes.{Scope}
use Rattle.tla_meaning.proofs.Views.{false≢true}
use Rattle.kernel_trees.specs.declared.kernel.Ker.{Ker, out-Ker}
use Rattle.kernel_trees.specs.declared.kernel.KerOp.{KerOp}
use Rattle.kernel_trees.specs.declared.kernel.KerOp.TheVariants as ker
use Rattle.kernel_trees.specs.declared.path.AssignedStep.{AssignedStep}
use Rattle.kernel_trees.specs.declared.path.AssignedStep.TheVariants as mark
use Rattle.tla_meaning.proofs.Laws.{none≢some}
use Rattle.kernel_trees.specs.declared.path.PathStep.{PathStep}
use Rattle.kernel_trees.specs.declared.path.PathStep.TheVariants as path
use Rattle.kernel_trees.specs.Assignments.{AssignedHolds, assignment, assignment_of, lacks, marked, path_ended, step_by, target}
use Rattle.kernel_trees.specs.Paths.{Marks, is_end, is_false}
use Rattle.kernel_trees.specs.Trees.{constant, ker_val, names_of}
use Rattle.kernel_trees.proofs.LawOfPaths.{val_of}
use Rattle.kernel_trees.proofs.Nodes.{sense_at}
use Rattle.kernel_shapes.specs.Systems.{assigned_ended, assigns, is_assigned_end}

constant_fails : (w : Width) (p : Place) (l : Layer Value) (n : ℕ) (xs : List (List ℕ)) (sc : Scope) (s t : State) → is_false l ≡ true →
    (effect_of ((denotation_of w p (constant l) n (view p (role (constant l) n) xs [] sc)).value s t)).holds ≡ false
constant_fails w p (layer.Bool true) n xs sc s t h = absurd (false≢true h)
constant_fails w p (layer.Bool false) n xs sc s t h = simp (value.outs-Bool)
constant_fails w p (layer.Int i) n xs sc s t h = absurd (false≢true h)
constant_fails w p (layer.Text a) n xs sc s t h = absurd (false≢true h)
constant_fails w p (layer.Set vs) n xs sc s t h = absurd (false≢true h)
constant_fails w p (layer.Fun ps) n xs sc s t h = absurd (false≢true h)

node_fails : (w : Width) (p : Place) (o : KerOp) (n : ℕ) (xs : List ℕ) (ks : List Ker) (sc : Scope) (s t : State) → is_end o ≡ true →
    (effect_of ((sense_at w p o n xs ks sc).value s t)).holds ≡ false
node_fails w p (ker.Const v) n xs ks sc s t h = constant_fails w p (out-Value v) n (names_of xs) sc s t h
node_fails w p ker.NoCase n xs ks sc s t h = refl
node_fails w p o n xs ks sc s t h = absurd (false≢true h)

end_fails : (w : Width) (k : Ker) (sc : Scope) (s t : State) → is_end (out-Ker k).op ≡ true → (effect_of (ker_val w k sc s t)).holds ≡ false
end_fails w k sc s t h =
    ap (λ (o : Outcome). (effect_of o).holds) (val_of w k sc s t)
    ∙ node_fails w (out-Ker k).place (out-Ker k).op (length (names_of (out-Ker k).binds)) (out-Ker k).binds (out-Ker k).args sc s t h

truth_holds : (effect_of (yes_no true)).holds ≡ true
truth_holds = simp (value.outs-Bool)

pub ended_fails : (w : Width) (s t : State) (zs : List AssignedStep) (vss : List (List Value)) (sc : Scope) → assigned_ended zs ≡ true → AssignedHolds w s t zs vss sc → ⊥
ended_fails w s t [] vss sc h k = false≢true h
ended_fails w s t (mark.Guard e true ∷ []) vss sc h k =
    false≢true (sym (end_fails w e sc s t h) ∙ ap (λ (o : Outcome). (effect_of o).holds) k.0 ∙ truth_holds)
ended_fails w s t (mark.Guard e false ∷ []) vss sc h k = false≢true h
ended_fails w s t (mark.Pick ps ∷ []) vss sc h k = false≢true h
ended_fails w s t (mark.Equals i e ∷ []) vss sc h k = false≢true h
ended_fails w s t (mark.Among i e ∷ []) vss sc h k = false≢true h
ended_fails w s t (mark.Guard e b ∷ y ∷ ys) vss sc h k = ended_fails w s t (y ∷ ys) vss sc h k.1
ended_fails w s t (mark.Pick ps ∷ y ∷ ys) [] sc h k = k
ended_fails w s t (mark.Pick ps ∷ y ∷ ys) (vs ∷ vss) sc h k = ended_fails w s t (y ∷ ys) vss _ h k.1
ended_fails w s t (mark.Equals i e ∷ y ∷ ys) vss sc h k = ended_fails w s t (y ∷ ys) vss sc h k.1
ended_fails w s t (mark.Among i e ∷ y ∷ ys) vss sc h k = ended_fails w s t (y ∷ ys) vss sc h k.1

either : (ended lacking : Bool) → (ended ≡ true → ⊥) → IsTrue (ended || not lacking) → lacking ≡ false
either true b n h = absurd (n refl)
either false true n h = absurd (false≢true h)
either false false n h = refl

-- a path that holds has not ended
pub not_lacking : (w : Width) (s t : State) (zs : List AssignedStep) (vss : List (List Value)) (sc : Scope) (m : Marks) (i : ℕ) → IsTrue (assigns m zs i) → AssignedHolds w s t zs vss sc → lacks m zs i ≡ false
not_lacking w s t zs vss sc m i h k = either (assigned_ended zs) (lacks m zs i) (λ e. ended_fails w s t zs vss sc e k) h

-- ---- marked paths end as the paths of which they are made

abbrev Filled : {X : Type 0} → List X → Type 0
Filled {X = X} xs = (x : X) × ((ys : List X) × (xs ≡ x ∷ ys))

behind : (z : AssignedStep) (zs : List AssignedStep) → Filled zs → assigned_ended (z ∷ zs) ≡ assigned_ended zs
behind z zs f = subst (λ (ys : List AssignedStep). assigned_ended (z ∷ ys) ≡ assigned_ended ys) (sym f.1.1) refl

step_filled : (k : Ker) (before : List ℕ) (rest : List ℕ → List AssignedStep) (o : Option (ℕ × AssignedStep)) → Filled (step_by k before rest o)
step_filled k before rest None = (mark.Guard k true, (rest before, refl))
step_filled k before rest (Some a) = (a.1, (rest (a.0 ∷ before), refl))

marked_filled : (m : Marks) (before : List ℕ) (y : PathStep) (ys : List PathStep) → Filled (marked m before (y ∷ ys))
marked_filled m before (path.Guard k false) ys = (mark.Guard k false, (marked m before ys, refl))
marked_filled m before (path.Guard k true) ys = step_filled k before (λ names. marked m names ys) (assignment m before k)
marked_filled m before (path.Pick ps) ys = (mark.Pick ps, (marked m before ys, refl))

-- an assignment is no end, nor is what it is made of
abbrev Unended : KerOp → ℕ × AssignedStep → Type 0
Unended o a = (is_assigned_end a.1 ≡ false) × (is_end o ≡ false)

of_target : (o : KerOp) (f : ℕ → AssignedStep) (a : ℕ × AssignedStep) (t : Option ℕ) → ((i : ℕ) → is_assigned_end (f i) ≡ false) → is_end o ≡ false → option_map (λ i. (i, f i)) t ≡ Some a → Unended o a
of_target o f a None h e q = absurd (none≢some q)
of_target o f a (Some i) h e q = (subst (λ (b : ℕ × AssignedStep). is_assigned_end b.1 ≡ false) (same q) (h i), e)
  where
    same : Some (i, f i) ≡ Some a → (i, f i) ≡ a
    same q = cc

no_end : (m : Marks) (before : List ℕ) (o : KerOp) (ks : List Ker) (a : ℕ × AssignedStep) → assignment_of m before o ks ≡ Some a → Unended o a
no_end m before ker.Equal (x ∷ e ∷ []) a q = of_target ker.Equal (λ i. mark.Equals i e) a (target m before (out-Ker x).op) (λ i. refl) refl q
no_end m before ker.Member (x ∷ e ∷ []) a q = of_target ker.Member (λ i. mark.Among i e) a (target m before (out-Ker x).op) (λ i. refl) refl q
no_end m before o ks a q = absurd (none≢some q)

last_ends : (m : Marks) (before : List ℕ) (k : Ker) (o : Option (ℕ × AssignedStep)) → assignment m before k ≡ o → assigned_ended (step_by k before (λ names. []) o) ≡ is_end (out-Ker k).op
last_ends m before k None q = refl
last_ends m before k (Some a) q = let z = no_end m before (out-Ker k).op (out-Ker k).args a q in z.0 ∙ sym z.1

pub marked_ends : (m : Marks) (before : List ℕ) (ys : List PathStep) → assigned_ended (marked m before ys) ≡ path_ended ys
marked_ends m before [] = refl
marked_ends m before (path.Guard k false ∷ []) = refl
marked_ends m before (path.Guard k true ∷ []) = last_ends m before k (assignment m before k) refl
marked_ends m before (path.Pick ps ∷ []) = refl
marked_ends m before (path.Guard k false ∷ y ∷ ys) =
    behind (mark.Guard k false) (marked m before (y ∷ ys)) (marked_filled m before y ys) ∙ marked_ends m before (y ∷ ys)
marked_ends m before (path.Guard k true ∷ y ∷ ys) = by (λ names. marked_ends m names (y ∷ ys)) (assignment m before k)
  where
    by : ((names : List ℕ) → assigned_ended (marked m names (y ∷ ys)) ≡ path_ended (y ∷ ys)) → (o : Option (ℕ × AssignedStep)) →
        assigned_ended (step_by k before (λ names. marked m names (y ∷ ys)) o) ≡ path_ended (y ∷ ys)
    by go None = behind (mark.Guard k true) (marked m before (y ∷ ys)) (marked_filled m before y ys) ∙ go before
    by go (Some a) = behind a.1 (marked m (a.0 ∷ before) (y ∷ ys)) (marked_filled m (a.0 ∷ before) y ys) ∙ go (a.0 ∷ before)
marked_ends m before (path.Pick ps ∷ y ∷ ys) =
    behind (mark.Pick ps) (marked m before (y ∷ ys)) (marked_filled m before y ys) ∙ marked_ends m before (y ∷ ys)

-- so a path that has ended or lacks no name assigns each
pub whole_assigns : (m : Marks) (ys : List PathStep) (i : ℕ) → (path_ended ys ≡ true) ⊎ ((j : ℕ) → lacks m (marked m [] ys) j ≡ false) → IsTrue (assigns m (marked m [] ys) i)
whole_assigns m ys i (inl e) = first (assigned_ended (marked m [] ys)) (not (lacks m (marked m [] ys) i)) (marked_ends m [] ys ∙ e)
  where
    first : (a b : Bool) → a ≡ true → IsTrue (a || b)
    first true b h = refl
    first false b h = absurd (false≢true h)
whole_assigns m ys i (inr n) = second (assigned_ended (marked m [] ys)) (lacks m (marked m [] ys) i) (n i)
  where
    second : (a b : Bool) → b ≡ false → IsTrue (a || not b)
    second true b h = refl
    second false true h = absurd (false≢true (sym h))
    second false false h = refl
