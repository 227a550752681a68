-- What is accepted stands for its job, and can be encoded.
use Rattle.std.proofs.Common.{◌≡◌, ℕ, ◌≤◌, Bool, ◌&&◌, IsTrue, List, [], ◌∷◌, map, filter, length, Option, Some, refl, sym, ◌∙◌, ap, ap₂, subst}
use Rattle.std.specs.List.{list_all}
use Rattle.tla_meaning.specs.declared.actions.Assignable.{Assignable}
use Rattle.tla_meaning.specs.declared.actions.Assignable.TheVariants as assignable
use Rattle.tla_meaning.specs.declared.expr.Decl.{Decl}
use Rattle.tla_meaning.specs.Actions.{counts}
use Rattle.tla_meaning.proofs.Views.{and_both}
use Rattle.tool_outside.specs.Outside.{Folder}
use Rattle.kernel_trees.specs.declared.action_kind.ActionKind.{ActionKind}
use Rattle.kernel_trees.specs.declared.action_kind.ActionKind.TheVariants.{Constants, Start, Step}
use Rattle.kernel_trees.specs.declared.kernel.Ker.{Ker}
use Rattle.kernel_trees.specs.declared.path.Assigned.{Assigned}
use Rattle.kernel_trees.specs.declared.path.KerPath.{KerPath}
use Rattle.kernel_trees.specs.declared.system.System.{System}
use Rattle.kernel_trees.specs.ActionNames.{constants, marks_of}
use Rattle.kernel_trees.specs.Assignments.{AssignedPath, assigned_of, reads_late}
use Rattle.kernel_trees.specs.Paths.{Marks, marks_below, mentions, paths}
use Rattle.kernel_trees.specs.Sound.{passes}
use Rattle.kernel_trees.specs.Systems.{constants_first, kinds_of_names, sound_job, sound_part, sound_paths, sound_system}
use Rattle.kernel_trees.specs.TypeKinds.{Kind}
use Rattle.kernel_trees.proofs.Trees.{Each}
use Rattle.kernel_shapes.specs.Laws.{ConstantPathsAre, PathsAre}
use Rattle.kernel_shapes.specs.Systems.{assigns, every_name, the_constants_of}
use Rattle.assignment_finder.specs.Finding.{IsAssigned}
use Rattle.front_end.specs.Accepted.{AreAssigned, HasPaths, IsAccepted}
use Rattle.front_end.specs.declared.request.Accepted.{Accepted}
use Rattle.front_end.specs.declared.request.Request.{Request}
use Rattle.step_laws.specs.Encodable.{CanEncode, constant_count}
use Rattle.step_laws.specs.Systems.{StandsFor, steps_of}
use Rattle.accepted_systems.specs.Checking.{CanBeChecked}
use Rattle.accepted_systems.proofs.AlongPaths.{PathHas, paths_have}
use Rattle.accepted_systems.proofs.JobMarks.{as_many_constants, assigns_fewer, constant_marked, same_marks}
use Rattle.accepted_systems.proofs.JobNames.{AreConstant, answered_constant}
use Rattle.accepted_systems.proofs.KernelNames.{no_variable, none_past, only_constants, past}
use Rattle.accepted_systems.proofs.PathFacts.{Facts, Sound, all_sound, all_sound_paths, all_true, facts, late_everywhere, paths_are, paths_sound}
use Rattle.accepted_systems.proofs.ReadLate.{HasNone, none_down, unmarked}
use Rattle.accepted_systems.proofs.SoundParts.{SoundParts, sound_parts}
use Rattle.accepted_systems.proofs.Standing.{built_gives_the_same}

-- ---- paths, each with its assignments

each_assigned : (kind : ActionKind) (names : List Decl) (P : KerPath → Type 0) (Q : Assigned → Type 0) →
    ((p : KerPath) (a : Assigned) → P p → IsAssigned (marks_of kind names) p a → Q a) →
    (ps : List KerPath) (as' : List Assigned) →
    Each P ps → AreAssigned kind names ps as' → Each Q as'
each_assigned kind names P Q f [] [] h g = tt
each_assigned kind names P Q f (p ∷ ps) (a ∷ as') h g = (f p a h.0 g.0, each_assigned kind names P Q f ps as' h.1 g.1)
each_assigned kind names P Q f [] (a ∷ as') h g = absurd g
each_assigned kind names P Q f (p ∷ ps) [] h g = absurd g

steps_are : (kind : ActionKind) (names : List Decl) (ps : List KerPath) (as' : List Assigned) →
    AreAssigned kind names ps as' →
    steps_of as' ≡ map (assigned_of (marks_of kind names)) ps
steps_are kind names [] [] h = refl
steps_are kind names (p ∷ ps) (a ∷ as') h =
    ap₂ (λ (x : AssignedPath) (xs : List AssignedPath). x ∷ xs) (ap (λ (x : Assigned). x.steps) h.0.is)
    (steps_are kind names ps as' h.1)
steps_are kind names [] (a ∷ as') h = absurd h
steps_are kind names (p ∷ ps) [] h = absurd h

-- ---- the system stands for the job

pub accepted_stands : (a : Accepted) → IsAccepted a → 4 ≤ a.width → StandsFor (Some a.width) a.job a.system
accepted_stands a h w =
    let sys : System = a.system in
    let names : List Decl = a.job.names in
    record {
      fixed = h.reduced.kernel.fixed;
      paths = record {
        constants = steps_are Constants names
            (paths (marks_of Constants names) sys.ker.cinit) sys.constants h.paths.constants.assigned;
        start = steps_are Start names (paths (marks_of Start names) sys.ker.init) sys.start h.paths.start.assigned;
        next = steps_are Step names (paths (marks_of Step names) sys.ker.next) sys.next h.paths.next.assigned;
      };
      same = built_gives_the_same a.width a.job sys.ker w h.reduced.built;
    }

-- ---- it can be encoded

module _ (names : List Decl) (kinds : List Kind) (texts : List (List ℕ)) where
  -- paths of a sound part, with their assignments
  pub part_facts : (kind : ActionKind) (k : Ker) (as' : List Assigned) → IsTrue (sound_part kinds texts k) →
      HasPaths names (kind, k) as' →
      Each (Facts kinds texts (marks_of kind names)) as'
  part_facts kind k as' h g =
      let m : Marks = marks_of kind names in
      each_assigned kind names (Sound kinds texts) (Facts kinds texts m) (λ p a s q. facts m p a q kinds texts s)
      (paths m k) as'
      (paths_sound kinds texts m k h) g.assigned

  -- paths of CInit, which holds no variable
  constants_late : (k : Ker) (as' : List Assigned) → HasNone (past (constants names)) k →
      HasPaths names (Constants, k) as' →
      IsTrue (list_all (λ (x : Assigned). reads_late every_name [] x.steps) as')
  constants_late k as' h g =
      let m : Marks = marks_of Constants names in
      let none : Ker → Type 0 = HasNone (unmarked m) in
      all_true (λ (x : Assigned). reads_late every_name [] x.steps)
      (λ (x : Assigned). IsTrue (reads_late every_name [] x.steps)) (λ x q. q) as'
      (each_assigned Constants names (PathHas none) (λ (x : Assigned). IsTrue (reads_late every_name [] x.steps))
      (λ p a s q. late_everywhere m p a q s) (paths m k) as'
      (paths_have none (none_down (unmarked m)) m k (only_constants names k h)) g.assigned)

  pub constants_are : (k : Ker) (fixed : List Bool) (as' : List Assigned) →
      fixed ≡ map (λ (d : Decl). d.constant) names →
      IsTrue (constants_first fixed) → IsTrue (sound_part kinds texts k) → HasNone (past (constants names)) k →
      HasPaths names (Constants, k) as' →
      ConstantPathsAre kinds fixed as'
  constants_are k fixed as' e first h none g =
      let m : Marks = marks_of Constants names in
      let fs = part_facts Constants k as' h g in
      record {
        sound = all_sound kinds texts m as' fs;
        late = constants_late k as' none g;
        assign = λ i. all_true (λ (x : Assigned). assigns (the_constants_of fixed) x.steps i) (Facts kinds texts m)
            (λ x f. assigns_fewer m (the_constants_of fixed) x.steps i (constant_marked names fixed e first i)
            (f.assign i)) as' fs;
      }

  -- paths by the system's own marks
  pub moved_paths : (f : ℕ → Assignable) (fixed : List Bool) (as' : List Assigned) →
      fixed ≡ map (λ (d : Decl). d.constant) names →
      PathsAre kinds (marks_below (length names) (f (constants names))) as' →
      PathsAre kinds (marks_below (length fixed) (f (length (filter (λ (b : Bool). b) fixed)))) as'
  moved_paths f fixed as' e h = subst (λ (m : Marks). PathsAre kinds m as') (sym (same_marks f names fixed e)) h

module _ (a : Accepted) (h : IsAccepted a) (c : AreConstant a.job) where
  own : SoundParts a.system.ker
  own = sound_parts a.system.ker h.reduced.sound

  start_facts : Each (Facts own.names a.system.ker.texts (marks_of Start a.job.names)) a.system.start
  start_facts =
      part_facts a.job.names own.names a.system.ker.texts Start a.system.ker.init a.system.start own.init
      h.paths.start

  next_facts : Each (Facts own.names a.system.ker.texts (marks_of Step a.job.names)) a.system.next
  next_facts =
      part_facts a.job.names own.names a.system.ker.texts Step a.system.ker.next a.system.next own.next
      h.paths.next

  constant_facts : Each (Facts own.names a.system.ker.texts (marks_of Constants a.job.names)) a.system.constants
  constant_facts =
      part_facts a.job.names own.names a.system.ker.texts Constants a.system.ker.cinit a.system.constants own.cinit
      h.paths.constants

  system_sound : IsTrue (sound_system a.system)
  system_sound =
      let texts : List (List ℕ) = a.system.ker.texts in
      let of_paths : List Kind → Bool =
      λ names. sound_paths names texts a.system.constants &&
      (sound_paths names texts a.system.start && sound_paths names texts a.system.next) in
      and_both (sound_job a.system.ker) (passes of_paths (kinds_of_names a.system.ker)) h.reduced.sound
      (ap (passes of_paths) own.kinds
      ∙ and_both (sound_paths own.names texts a.system.constants)
      (sound_paths own.names texts a.system.start && sound_paths own.names texts a.system.next)
      (all_sound_paths own.names texts (marks_of Constants a.job.names) a.system.constants constant_facts)
      (and_both (sound_paths own.names texts a.system.start) (sound_paths own.names texts a.system.next)
      (all_sound_paths own.names texts (marks_of Start a.job.names) a.system.start start_facts)
      (all_sound_paths own.names texts (marks_of Step a.job.names) a.system.next next_facts)))

  as_many : constant_count a.system ≡ constants a.job.names
  as_many = ap (λ (bs : List Bool). length (filter (λ (b : Bool). b) bs)) h.reduced.kernel.fixed
      ∙ as_many_constants a.job.names

  pub accepted_can : CanEncode a.system
  accepted_can =
      let names : List Decl = a.job.names in
      let texts : List (List ℕ) = a.system.ker.texts in
      let fixed = h.reduced.kernel.fixed in
      record {
        names = own.names;
        kinds = own.kinds;
        sound = system_sound;
        constants = constants_are names own.names texts a.system.ker.cinit a.system.ker.fixed a.system.constants fixed
            own.first own.cinit
            (none_past (constants names) _ [] a.job.cinit a.system.ker.cinit h.reduced.built.cinit c.cinit) h.paths.constants;
        assume = ap (λ (n : ℕ). mentions (counts (assignable.Variables n)) a.system.ker.assume) as_many
            ∙ no_variable (constants names) a.system.ker.assume
            (none_past (constants names) _ [] a.job.assume a.system.ker.assume h.reduced.built.assume c.assume);
        start = moved_paths names own.names texts (λ n. assignable.Variables n) a.system.ker.fixed a.system.start fixed
            (paths_are own.names texts (marks_of Start names) a.system.start start_facts);
        next = moved_paths names own.names texts
            (λ n. assignable.PrimedVariables n) a.system.ker.fixed a.system.next fixed
            (paths_are own.names texts (marks_of Step names) a.system.next next_facts);
      }

-- THE LAW
pub accepted_check : (held : Option Folder) (r : Request) (a : Accepted) → CanBeChecked held r a
accepted_check held r a q h =
    let wide : 4 ≤ a.width = subst (λ (n : ℕ). 4 ≤ n) (sym h.same_width) q.wide in
    record {
      wide = wide;
      narrow = subst (λ (n : ℕ). n ≤ 64) (sym h.same_width) q.narrow;
      short = subst (λ (n : ℕ). n ≤ 1000) (sym h.same_length) q.short;
      stands = accepted_stands a h.whole wide;
      encodable = accepted_can a h.whole
          (answered_constant h.flat r.init r.next r.cinit r.invs a.job h.makes.gives);
    }
