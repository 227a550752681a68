-- The paths of a sound kernel are sound, and those of a system whose names are variables can be tested.
use Rattle.std.proofs.Common.{◌≡◌, ℕ, zero, suc, ◌<◌, not, ◌&&◌, IsTrue, List, [], ◌∷◌, All, length, flat_map, get_or, refl, sym, ◌∙◌, ap, ap₂, subst, arith}
use Rattle.std.specs.Prelude.{nat_eq}
use Rattle.std.specs.List.{list_any}
use Rattle.std.proofs.lemmas.List.Elements.{All-weaker}
use Rattle.tla_meaning.specs.declared.actions.Assignable.TheVariants as assignable
use Rattle.tla_meaning.specs.declared.expr.Decl.{Decl}
use Rattle.kernel_trees.specs.declared.action_kind.ActionKind.{ActionKind}
use Rattle.kernel_trees.specs.declared.action_kind.ActionKind.TheVariants as action
use Rattle.kernel_trees.specs.declared.kernel.Ker.{Ker}
use Rattle.kernel_trees.specs.declared.path.Assigned.{Assigned}
use Rattle.kernel_trees.specs.declared.path.KerPath.{KerPath}
use Rattle.kernel_trees.specs.declared.system.KerJob.{KerJob}
use Rattle.kernel_trees.specs.ActionNames.{assignable_in, constants, marks_of}
use Rattle.kernel_trees.specs.Assignments.{assigned_by}
use Rattle.kernel_trees.specs.Paths.{Marks, marks_below, paths}
use Rattle.kernel_trees.specs.Scoped.{differ}
use Rattle.kernel_trees.specs.Systems.{sound_job}
use Rattle.kernel_trees.proofs.Trees.{Each}
use Rattle.assignment_finder.specs.Finding.{IsAssigned}
use Rattle.path_walks.specs.Paths.{each_once}
use Rattle.accepted_systems.proofs.PathFacts.{Sound, facts, paths_sound}
use Rattle.accepted_systems.proofs.SoundParts.{sound_parts}
use Rattle.path_cell_tests.specs.Tested.{AreSound, AreVariables, IsPathOf, IsTested}

-- ---- a path of an action

once-is : (xs : List ℕ) → each_once xs ≡ differ xs
once-is [] = refl
once-is (x ∷ xs) = ap (λ b. not (list_any (nat_eq x) xs) && b) (once-is xs)

each-at : {X : Type 0} (P : X → Type 0) (xs : List X) (i : ℕ) (x : X) → Each P xs → i < length xs →
    x ≡ get_or xs i x → P x
each-at P [] i x h lt e = absurd (omega (arith, lt))
each-at P (y ∷ ys) zero x h lt e = subst P (sym e) h.0
each-at P (y ∷ ys) (suc i) x h lt e = each-at P ys i x h.1 (omega (arith, lt)) e

pub path-of : (m : Marks) (part : Ker) (ps : List KerPath) (i : ℕ) (p : KerPath) (a : Assigned) → ps ≡ paths m part →
    i < length ps →
    p ≡ get_or ps i p → IsAssigned m p a → IsPathOf m part a
path-of m part ps i p a e lt g h names texts s =
    let one : Sound names texts p =
    each-at (Sound names texts) ps i p (subst (Each (Sound names texts)) (sym e) (paths_sound names texts m part s))
    lt g in
    let f = facts m p a h names texts one in
    record {
      sound = f.sound;
      once = once-is (flat_map assigned_by a.steps) ∙ f.once;
      late = f.late;
    }

-- ---- the paths of a system

marks-are : (kind : ActionKind) (ds : List Decl) (n : ℕ) → constants ds ≡ 0 → length ds ≡ n →
    marks_of kind ds ≡ marks_below n (assignable_in kind 0)
marks-are kind ds n z e = ap₂ (λ j c. marks_below j (assignable_in kind c)) e z

pub start-tested : (k : KerJob) (ds : List Decl) (xs : List Assigned) → IsTrue (sound_job k) → AreVariables ds k →
    All (IsPathOf (marks_of action.Start ds) k.init) xs → All (IsTested k.names (assignable.Variables 0)) xs
start-tested k ds xs h v all =
    let p = sound_parts k h in
    All-weaker (IsPathOf (marks_of action.Start ds) k.init) (IsTested k.names (assignable.Variables 0)) (λ a f. record {
      names = p.names;
      kinds = p.kinds;
      are = subst (λ m. AreSound p.names m a.steps) (marks-are action.Start ds (length k.names) v.none v.count)
          (f p.names k.texts p.init);
    }) xs all

pub next-tested : (k : KerJob) (ds : List Decl) (xs : List Assigned) → IsTrue (sound_job k) → AreVariables ds k →
    All (IsPathOf (marks_of action.Step ds) k.next) xs → All (IsTested k.names (assignable.PrimedVariables 0)) xs
next-tested k ds xs h v all =
    let p = sound_parts k h in
    All-weaker (IsPathOf (marks_of action.Step ds) k.next) (IsTested k.names (assignable.PrimedVariables 0))
    (λ a f. record {
      names = p.names;
      kinds = p.kinds;
      are = subst (λ m. AreSound p.names m a.steps) (marks-are action.Step ds (length k.names) v.none v.count)
          (f p.names k.texts p.next);
    }) xs all

pub zero-is : (n m : ℕ) → IsTrue (nat_eq n 0) → n ≡ m → m ≡ 0
zero-is n m h e = grind (arith, h, e)

pub item-of : {X : Type 0} (P : X → Type 0) (xs ys : List X) (i : ℕ) (x : X) → ys ≡ xs → All P xs → i < length ys →
    x ≡ get_or ys i x → P x
item-of P xs ys i x e h lt g = subst P (sym g) (subst (All P) (sym e) h i x lt)
