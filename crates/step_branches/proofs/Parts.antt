-- Paths of an action between two builds: each is a branch, whatever the action, and its trees have their kinds.
use Rattle.std.proofs.Common.{◌≡◌, ◌↔◌, ℕ, ◌≤◌, ◌<◌, Bool, true, false, IsTrue, List, [], ◌++◌, take, length, Some}
use Rattle.std.proofs.Common.{refl, sym, ◌∙◌, ap, subst, arith, lt_of_lt_of_le}
use Rattle.std.specs.Prelude.{slice_get}
use Rattle.sat_formula.specs.Formula.{Satisfies}
use Rattle.tla_meaning.specs.declared.job.Job.{Job}
use Rattle.tla_meaning.specs.declared.job.State.{State}
use Rattle.tla_meaning.specs.Executions.{IsState, no_scope}
use Rattle.tla_meaning.specs.Numbers.{Width}
use Rattle.cell_arena.specs.declared.build.Build.{Build}
use Rattle.cell_arena.specs.declared.kinds.CellId.{CellId}
use Rattle.cell_arena.specs.Decode.{decode}
use Rattle.cell_arena.specs.Growth.{Grows, Keeps}
use Rattle.cell_arena.proofs.Growing.{Grows-trans, Satisfies-before, decode-before}
use Rattle.kernel_trees.specs.declared.path.Assigned.{Assigned}
use Rattle.kernel_trees.specs.Assignments.{ReadsNext, reads_late}
use Rattle.kernel_trees.specs.Paths.{Marks}
use Rattle.kernel_trees.specs.Picks.{IsOneOf}
use Rattle.kernel_trees.specs.Sound.{sound_assigned}
use Rattle.kernel_trees.specs.TypeKinds.{Kind}
use Rattle.kernel_trees.proofs.Assigning.{Kinds}
use Rattle.kernel_shapes.specs.Levels.{Assigns}
use Rattle.kernel_shapes.specs.Sized.{Extent}
use Rattle.shape_bounds.specs.Extents.{assigns_in, extent_of, kept_extent}
use Rattle.path_bounds.specs.BoundedPaths.{Begins, HasPathBounds, StartsAt}
use Rattle.expr_rewriter.specs.Environments.{AreThere, Fits}
use Rattle.path_walks.specs.Paths.{AllNormal, Given, Stands}
use Rattle.path_walks.specs.Steps.{PathHasKinds, PathWithin, assigns}
use Rattle.branch_cells.specs.declared.branch.BranchCells.{BranchCells}
use Rattle.branch_cells.specs.declared.branch.Ends.{Ends}
use Rattle.branch_cells.specs.declared.way.Way.{Way}
use Rattle.branch_cells.specs.Along.{IsPart}
use Rattle.branch_cells.specs.Branches.{ends_of}
use Rattle.branch_cells.specs.Ends.{EndsBelow, end_of, ends_at}
use Rattle.level_laws.specs.Constraints.{Agree, Assignment, Reads}
use Rattle.level_laws.specs.Branches.{Ending, Held, MetWrong, MetBig, Transition}
use Rattle.level_laws.proofs.Growing.{reads_back, reads_more}
use Rattle.step_laws.specs.PathEnds.{PathEnds}
use Rattle.step_branches.specs.Readings.{state_at, values_at}
use Rattle.step_branches.proofs.BoundedKinds.{bounded_assigns, bounded_ends, bounded_kinds}
use Rattle.step_branches.proofs.Choosing.{AllThere, IsLed, ends_read, next_read, reading_of, state_later}
use Rattle.step_branches.proofs.Fitting.{all_at, fits_later, fronts_same, item_there, slice_map, state_is}
use Rattle.step_branches.proofs.Fitting.{state_normal, values_length}
use Rattle.step_branches.proofs.Leads.{Leads, grown_on, leads_before, leads_later, leads_read, leads_same}
use Rattle.step_branches.proofs.PathLeads.{PathGoes, path_leads}

-- ---- what is known of an action where its paths are taken

-- a path is sound, reads no marked name before its assignment, and assigns names from one on alone, among so many
pub record IsPathOf (names : List Kind) (marks : Marks) (free many : ℕ) (x : Assigned) : Type 0 where
  pub sound : IsTrue (sound_assigned names [] x.steps)
  pub late : IsTrue (reads_late marks [] x.steps)
  pub assigned : (i : ℕ) → assigns x.steps i ≡ true → (free ≤ i) × (i < many)

-- two states fit the shapes of the way
pub record FitsWay (way : Way) (names : List Kind) (marks : Marks) (s t : State) : Type 0 where
  pub extent : Extent
  pub given : kept_extent extent ≡ extent_of way.now way.next []
  pub begins : Begins (assigns_in way.target) names marks extent
  pub starts : StartsAt (assigns_in way.target) extent s t

-- `Legal` says which next states count, `current` is the state in which names are read, and `part` what of the next
-- state counts
pub record Scene {E S : Type 0} (job : Job) (old : Build) (way : Way) (xs : List Assigned) (on : Assignment → Bool)
    (now : Assignment → E)
    (Legal : E → State → Type 0) (current : E → State → State) (part : State → S) : Type 0 where
  pub names : List Kind
  pub marks : Marks
  pub free : ℕ
  pub extent : Extent
  pub given : kept_extent extent ≡ extent_of way.now way.next []
  pub wide : 2 ≤ old.arena.width
  pub width : way.width ≡ old.arena.width
  pub bound : way.env.bound ≡ []
  pub there : AreThere (length old.arena.kinds) way.env
  pub others : AllThere old way.others
  pub many : length way.others ≡ length job.names
  pub reads_on : Reads old.formula.vars on
  pub reads : Reads old.formula.vars now
  pub paths : (x : Assigned) → IsOneOf x xs → IsPathOf names marks free (length job.names) x
  pub state : (e : E) (t : State) → Legal e t → IsState job t
  pub fits : (a : Assignment) → Satisfies a old.formula → on a ≡ true → (t : State) → Legal (now a) t →
      Fits old.arena a way.env no_scope (current (now a) t) t
  pub starts : (a : Assignment) → Satisfies a old.formula → on a ≡ true → (t : State) → Legal (now a) t →
      FitsWay way names marks (current (now a) t) t
  pub legal : (a : Assignment) (t : State) → Satisfies a old.formula → on a ≡ true → IsState job t →
      take free t.vals ≡ take free (values_at old.arena way.others a) → Legal (now a) t
  pub known : (x : Assigned) → IsOneOf x xs → (e : E) (t t' : State) → Legal e t → Legal e t' →
      PathEnds (Some old.arena.width) x.steps Held (current e t) t →
      ((i : ℕ) → assigns x.steps i ≡ true → slice_get t.vals i ≡ slice_get t'.vals i) → part t ≡ part t'

pub width_later : (b c : Build) → Grows b c → c.arena.width ≡ b.arena.width
unfolding Keeps
width_later b c g = g.keeps.width

-- the first n cells are those of an older build
pub cells_stay : (b c : Build) → Grows b c → (n : ℕ) (xs ys : List CellId) → length xs ≡ length ys → AllThere b ys →
    ((i : ℕ) → i < n → slice_get xs i ≡ slice_get ys i) → (a : Assignment) →
    take n (values_at c.arena xs a) ≡ take n (values_at b.arena ys a)
cells_stay b c g n xs ys many there same a =
    fronts_same n (values_at c.arena xs a) (values_at b.arena ys a)
    (values_length c xs a ∙ (many ∙ sym (values_length b ys a))) each
  where
    each : (i : ℕ) → i < n → i < length (values_at c.arena xs a) →
        slice_get (values_at c.arena xs a) i ≡ slice_get (values_at b.arena ys a) i
    each i lt k =
        let z = item_there ys i (subst (λ (m : ℕ). i < m) (values_length c xs a ∙ many) k) in
        slice_map (decode c.arena a) xs i z.0 (same i lt ∙ z.1)
        ∙ (ap Some (decode-before b c a z.0 g
        (all_at (λ (id : CellId). id.index < length b.arena.kinds) ys i z.0 there z.1))
        ∙ sym (slice_map (decode b.arena a) ys i z.0 z.1))

-- ---- one path

module _ {E S : Type 0} (job : Job) (old : Build) (way : Way) (xs : List Assigned) (on : Assignment → Bool)
    (now : Assignment → E)
    (Legal : E → State → Type 0) (current : E → State → State) (part : State → S)
    (sc : Scene job old way xs on now Legal current part)
    (x : Assigned) (one : IsOneOf x xs) (r : BranchCells) (from to : Build) (before : Grows old from)
    (p : IsPart from to way x r) where
  abbrev how : Assigns
  how = assigns_in way.target

  abbrev w : Width
  w = Some old.arena.width

  here : IsPathOf sc.names sc.marks sc.free (length job.names) x
  here = sc.paths x one

  first : HasPathBounds way.width how x sc.extent p.bounded
  first = p.bounds sc.extent sc.given

  grows_to : Grows old to
  grows_to = Grows-trans old from to before (Grows-trans from p.middle to p.grows p.filled.grows)

  same_width : way.width ≡ from.arena.width
  same_width = sc.width ∙ sym (width_later old from before)

  -- ---- where the path is taken

  within : (a : Assignment) → Satisfies a old.formula → on a ≡ true → (t : State) → Legal (now a) t →
      PathWithin (Some from.arena.width) (current (now a) t) t p.bounded.steps no_scope
  within a s o t l =
      let z = sc.starts a s o t l in
      let wide : 2 ≤ way.width = subst (λ (n : ℕ). 2 ≤ n) (sym sc.width) sc.wide in
      subst (λ (n : ℕ). PathWithin (Some n) (current (now a) t) t p.bounded.steps no_scope) same_width
      ((p.bounds z.extent z.given).within
      sc.names sc.marks (current (now a) t) t wide here.sound here.late z.begins z.starts)

  stands : (a : Assignment) → Satisfies a from.formula → on a ≡ true → (t : State) → Legal (now a) t →
      Stands from way.env p.bounded.steps a no_scope (current (now a) t) t
  stands a s o t l =
      let so = Satisfies-before old from a before s in
      record {
        fits = fits_later old from way.env a (current (now a) t) t before sc.there sc.bound (sc.fits a so o t l);
        within = within a so o t l;
      }

  normal : (e : E) (t : State) → Legal e t → AllNormal t
  normal e t l = state_normal job t (sc.state e t l)

  -- ---- the path that is rewritten in the place of x

  same_assigns : (i : ℕ) → assigns p.bounded.steps i ≡ assigns x.steps i
  same_assigns = bounded_assigns way.width how x sc.extent p.bounded first

  abbrev Own : Ending → State → State → Type 0
  Own k s t = PathEnds (Some from.arena.width) p.bounded.steps k s t

  same_ends : (k : Ending) (s t : State) → Own k s t ↔ PathEnds w x.steps k s t
  same_ends k s t =
      subst (λ (n : ℕ). PathEnds (Some n) p.bounded.steps k s t ↔ PathEnds w x.steps k s t)
      (sym (width_later old from before))
      (bounded_ends way.width how x sc.extent p.bounded first w k s t)

  -- ---- the next states

  abbrev next : Assignment → State
  next = state_at to.arena r.next

  many : length r.next ≡ length job.names
  many = p.filled.count ∙ sc.many

  -- a name that is not to be assigned has the other cell
  pub free_cell : (i : ℕ) → i < sc.free → slice_get r.next i ≡ slice_get way.others i
  free_cell i lt = p.filled.blank i (p.cells.others i (unassigned (assigns p.bounded.steps i) refl))
    where
      unassigned : (b : Bool) → assigns p.bounded.steps i ≡ b → assigns p.bounded.steps i ≡ false
      unassigned false q = q
      unassigned true q = absurd (omega (arith, lt, (here.assigned i (sym (same_assigns i) ∙ q)).0))

  free_stays : (a : Assignment) →
      take sc.free (values_at to.arena r.next a) ≡ take sc.free (values_at old.arena way.others a)
  free_stays a = cells_stay old to grows_to sc.free r.next way.others p.filled.count sc.others free_cell a

  legal : (k : Ending) (a : Assignment) → Satisfies a to.formula → on a ≡ true → ends_at (ends_of p.path) k a ≡ true →
      Legal (now a) (next a)
  legal k a s o e =
      sc.legal a (next a) (Satisfies-before old to a grows_to s) o (state_is job to r.next a many)
      (free_stays a)

  given : (k : Ending) (a : Assignment) → Satisfies a to.formula → on a ≡ true → ends_at (ends_of p.path) k a ≡ true →
      Given p.middle.arena a p.bounded.steps p.path.next (next a)
  given k a s o e i y assigned item lit =
      let lt = (here.assigned i (sym (same_assigns i) ∙ assigned)).1 in
      let z = item_there r.next i (subst (λ (n : ℕ). i < n) (sym many) lt) in
      let ends : ends_at r.ends k a ≡ true = ap (λ (n : Ends). ends_at n k a) p.filled.ends ∙ e in
      slice_map (decode to.arena a) r.next i z.0 z.1
      ∙ ap Some (p.filled.given a s k ends i y z.0 item z.1 lit ∙ decode-before p.middle to a y.0 p.filled.grows
      (p.cells.below.items i y item).0)

  known : (e : E) (t t' : State) → Legal e t → Legal e t' → Own Held (current e t) t →
      ((i : ℕ) → assigns p.bounded.steps i ≡ true → slice_get t.vals i ≡ slice_get t'.vals i) → part t ≡ part t'
  known e t t' l l' m same = sc.known x one e t t' l l' ((same_ends Held (current e t) t).0 m)
      (λ i q. same i (same_assigns i ∙ q))

  -- ---- the branch

  abbrev Goes : Transition E S
  Goes = PathGoes Legal current part w x.steps

  own_leads : Leads from.formula to.formula on now (PathGoes Legal current part (Some from.arena.width) p.bounded.steps)
      (record { ends = ends_at (ends_of p.path); next = λ a. part (next a) })
  own_leads =
      path_leads Legal current part from p.middle way.env p.bounded.steps p.path p.cells on now
      (reads_more old.formula.vars from.formula.vars on before.formula.vars sc.reads_on)
      (reads_more old.formula.vars from.formula.vars now before.formula.vars sc.reads) stands normal p.grows to
      p.filled.grows next legal given known

  part_leads : Leads from.formula to.formula on now Goes (reading_of part to.arena r)
  part_leads =
      leads_read on now from.formula to.formula Goes
      (record { ends = ends_at (ends_of p.path); next = λ a. part (next a) }) (reading_of part to.arena r)
      (λ k a. ap (λ (n : Ends). ends_at n k a) (sym p.filled.ends)) (λ a. refl)
      (leads_same on now from.formula to.formula (PathGoes Legal current part (Some from.arena.width) p.bounded.steps)
      Goes
      (record { ends = ends_at (ends_of p.path); next = λ a. part (next a) })
      (λ k e s m. (m.0, (m.1.0, ((same_ends k (current e m.0) m.0).0 m.1.1.0, m.1.1.1))))
      (λ k e s m. (m.0, (m.1.0, ((same_ends k (current e m.0) m.0).1 m.1.1.0, m.1.1.1)))) own_leads)

  path_below : (k : Ending) → (end_of (ends_of p.path) k).var < p.middle.formula.vars
  path_below Held = p.cells.below.holds
  path_below MetWrong = p.cells.below.wrong
  path_below MetBig = p.cells.below.big

  part_below : EndsBelow to.formula.vars r.ends
  part_below k =
      subst (λ (n : Ends). (end_of n k).var < to.formula.vars) (sym p.filled.ends)
      (lt_of_lt_of_le (path_below k) p.filled.grows.formula.vars)

  pub part_led : (middle : Build) → Grows to middle → IsLed part old middle on now Goes r
  part_led middle g = record {
    leads =
        leads_read on now old.formula middle.formula Goes (reading_of part to.arena r)
        (reading_of part middle.arena r) (λ k a. refl)
        (λ a. ap part (sym (state_later to middle r.next a g p.there)))
        (leads_later on now old.formula to.formula middle.formula Goes (reading_of part to.arena r) g.formula
        (ends_read to.formula.vars r part_below)
        (next_read part to r)
        (leads_before on now old.formula from.formula to.formula Goes (reading_of part to.arena r) before.formula
        sc.reads_on sc.reads part_leads));
    there = λ i d lt. lt_of_lt_of_le (p.there i d lt) g.longer;
    below = λ k. lt_of_lt_of_le (part_below k) g.formula.vars;
  }

  -- ---- kinds

  pub part_kinds : (a : Assignment) → length a ≡ old.formula.vars → Satisfies a old.formula → on a ≡ true →
      (t : State) → Legal (now a) t →
      (m : Marks) (q : ReadsNext m (current (now a) t) t) → Kinds w m (current (now a) t) t q x.steps no_scope
  part_kinds a n s o t l m q =
      let old_vars = old.formula.vars in
      let u = grown_on old.formula from.formula a (λ c. Agree old_vars a c) before.formula n s (λ b ag sb. ag) in
      let c = a ++ u.more in
      let e : now a ≡ now c = sc.reads a c u.holds in
      let oc = reads_back old_vars on true a c sc.reads_on u.holds o in
      let l' : Legal (now c) t = subst (λ (d : E). Legal d t) e l in
      let k = p.cells.kinds c u.long u.satisfies no_scope (current (now c) t) t (stands c u.satisfies oc t l')
      (normal (now c) t l') in
      let k' : PathHasKinds (Some from.arena.width) (current (now a) t) t p.bounded.steps no_scope =
      subst (λ (d : E). PathHasKinds (Some from.arena.width) (current d t) t p.bounded.steps no_scope) (sym e) k in
      bounded_kinds way.width how x sc.extent p.bounded first w m (current (now a) t) t q
      (subst (λ (n : ℕ). PathHasKinds (Some n) (current (now a) t) t p.bounded.steps no_scope)
      (width_later old from before) k')
