-- The paths of actions, and their assignments, one behind the other.
use Rattle.std.proofs.Common.{◌≡◌, ◌⊎◌, inl, inr, ℕ, suc, ◌+◌, ◌<◌, List, [], ◌∷◌, ◌++◌, length, take, drop, get_or, Result, Ok, Err, ap, sym, ◌∙◌, subst}
use Rattle.std.specs.Prelude.{MatchResult}
use Rattle.assignment_finder.proofs.Listing.{around, take_more}
use Rattle.assignment_finder.specs.Finding.{IsFound}
use Rattle.assignment_finder.specs.declared.assign_fault.AssignFault.{AssignFault}
use Rattle.front_end.specs.Accepted.{AreAssigned, IsSystem, action_paths, actions}
use Rattle.front_end.specs.Refused.{IsFirstAssign, IsFirstPath, IsKernelRefusal}
use Rattle.front_end.specs.declared.bounding.Bounded.{Bounded}
use Rattle.front_end.specs.declared.fault.FrontFault.{FrontFault}
use Rattle.front_end.specs.declared.request.Request.{Request}
use Rattle.front_end.specs.declared.splitting.Assignments.{Assignments}
use Rattle.front_end.specs.declared.splitting.Paths.{Paths}
use Rattle.front_end.specs.inner.Stages.{AreAllAssigned, AreSplit, HasAll, IsBounded, IsFirstUnassigned, IsKernelBounded}
use Rattle.kernel_trees.specs.declared.action_kind.ActionKind.{ActionKind}
use Rattle.kernel_trees.specs.declared.action_kind.ActionKind.TheVariants.{Constants, Start, Step}
use Rattle.kernel_trees.specs.declared.path.Assigned.{Assigned}
use Rattle.kernel_trees.specs.declared.path.KerPath.{KerPath}
use Rattle.kernel_trees.specs.declared.system.KerJob.{KerJob}
use Rattle.kernel_trees.specs.declared.system.System.{System}
use Rattle.tla_meaning.specs.declared.expr.Decl.{Decl}

-- ---- a walk along paths

pub one_more : (kind : ActionKind) (names : List Decl) (ps : List KerPath) (as' : List Assigned) (p : KerPath) (a : Assigned)
    → AreAssigned kind names ps as' → IsFound kind names p (Ok a) → AreAssigned kind names (ps ++ p ∷ []) (as' ++ a ∷ [])
one_more kind names [] [] p a h found = (found, tt)
one_more kind names (q ∷ ps) (b ∷ as') p a h found = (h.0, one_more kind names ps as' p a h.1 found)
one_more kind names [] (b ∷ as') p a h found = absurd h
one_more kind names (q ∷ ps) [] p a h found = absurd h

pub refused_behind : (kind : ActionKind) (names : List Decl) (ps : List KerPath) (as' : List Assigned) (p : KerPath) (qs : List KerPath)
    (f : AssignFault) → AreAssigned kind names ps as' → IsFound kind names p (Err f) → IsFirstPath kind names (ps ++ p ∷ qs) f
refused_behind kind names [] [] p qs f h found = inl found
refused_behind kind names (q ∷ ps) (b ∷ as') p qs f h found = inr ((b, h.0), refused_behind kind names ps as' p qs f h.1 found)
refused_behind kind names [] (b ∷ as') p qs f h found = absurd h
refused_behind kind names (q ∷ ps) [] p qs f h found = absurd h

pub refused_at : (kind : ActionKind) (names : List Decl) (ps given : List KerPath) (i : ℕ) (p : KerPath) (as' : List Assigned) (f : AssignFault)
    → given ≡ ps → i < length given → p ≡ get_or given i p → AreAssigned kind names (take i given) as' → IsFound kind names p (Err f)
    → IsFirstPath kind names ps f
refused_at kind names ps given i p as' f same lt is h found =
    subst (λ (qs : List KerPath). IsFirstPath kind names qs f) (sym (around given i p lt is) ∙ same)
    (refused_behind kind names (take i given) as' p (drop (suc i) given) f h found)

pub next_assigned : (kind : ActionKind) (names : List Decl) (given : List KerPath) (i : ℕ) (p : KerPath) (a : Assigned) (as' new : List Assigned)
    → i < length given → p ≡ get_or given i p → AreAssigned kind names (take i given) as' → IsFound kind names p (Ok a)
    → new ≡ as' ++ a ∷ [] → AreAssigned kind names (take (i + 1) given) new
next_assigned kind names given i p a as' new lt is h found e =
    subst (λ (qs : List KerPath). AreAssigned kind names qs new) (sym (take_more given i p lt is))
    (subst (λ (bs : List Assigned). AreAssigned kind names (take i given ++ p ∷ []) bs) (sym e)
    (one_more kind names (take i given) as' p a h found))

-- ---- the system of a kernel

abbrev pub system_of : KerJob → Assignments → System
system_of k as' = record { ker = k; constants = as'.constants; start = as'.start; next = as'.next }

module _ (names : List Decl) (k : KerJob) (ps : Paths) (split : AreSplit names k ps) where
  first : (f : AssignFault) → IsFirstPath Constants names (action_paths names (Constants, k.cinit)) f
      ⊎ (HasAll Constants names (action_paths names (Constants, k.cinit))
      × (IsFirstPath Start names (action_paths names (Start, k.init)) f
      ⊎ (HasAll Start names (action_paths names (Start, k.init)) × IsFirstPath Step names (action_paths names (Step, k.next)) f)))
      → IsFirstAssign names (actions k) f
  first f (inl h) = inl h
  first f (inr (c, inl h)) = inr (c, inl h)
  first f (inr (c, inr (s, h))) = inr (c, inr (s, inl h))

  moved : (f : AssignFault) → IsFirstUnassigned names ps f → IsFirstUnassigned names (record {
    constants = action_paths names (Constants, k.cinit);
    start = action_paths names (Start, k.init);
    next = action_paths names (Step, k.next);
  }) f
  moved f h =
      subst (λ (ys : List KerPath). IsFirstUnassigned names (record { constants = action_paths names (Constants, k.cinit); start = action_paths names (Start, k.init); next = ys }) f) split.next
      (subst (λ (ys : List KerPath). IsFirstUnassigned names (record { constants = action_paths names (Constants, k.cinit); start = ys; next = ps.next }) f) split.start
      (subst (λ (ys : List KerPath). IsFirstUnassigned names (record { constants = ys; start = ps.start; next = ps.next }) f) split.constants h))

  -- of the paths of a kernel
  pub first_assign : (f : AssignFault) → IsFirstUnassigned names ps f → IsFirstAssign names (actions k) f
  first_assign f h = first f (moved f h)

  pub whole_system : (as' : Assignments) → AreAllAssigned names ps as' → IsSystem names (system_of k as')
  whole_system as' h = record {
    constants = record { few = split.few.constants; assigned = subst (λ (ys : List KerPath). AreAssigned Constants names ys as'.constants) split.constants h.constants };
    start = record { few = split.few.start; assigned = subst (λ (ys : List KerPath). AreAssigned Start names ys as'.start) split.start h.start };
    next = record { few = split.few.next; assigned = subst (λ (ys : List KerPath). AreAssigned Step names ys as'.next) split.next h.next };
  }

  -- what is answered of it
  pub of_system : (r : Request) (as' : Assignments) (x : Result Bounded FrontFault) → AreAllAssigned names ps as'
      → MatchResult x (λ b. (b.system ≡ system_of k as') × IsBounded r (system_of k as') b.shapes)
      (λ f. (others : List Decl) → IsSystem others (system_of k as') → IsKernelRefusal r others k f)
      → MatchResult x (IsKernelBounded r names k) (IsKernelRefusal r names k)
  of_system r as' (Ok b) h made = record {
    same = ap (λ (s : System). s.ker) made.0;
    paths = subst (IsSystem names) (sym made.0) (whole_system as' h);
    bounded = subst (λ (s : System). IsBounded r s b.shapes) (sym made.0) made.1;
  }
  of_system r as' (Err f) h refused = refused names (whole_system as' h)
