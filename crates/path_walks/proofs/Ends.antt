-- The walk over a path: no step, and a step behind steps that never hold.
use Rattle.std.proofs.Common.{◌≡◌, ◌⊎◌, inl, inr, ℕ, ◌<◌, Bool, true, false, List, [], ◌∷◌, ◌++◌, length, All, refl, sym, ◌∙◌, ap₂, subst, append_assoc}
use Rattle.std.specs.Prelude.{Some, None}
use Rattle.std.proofs.lemmas.List.{append-nil}
use Rattle.std.proofs.lemmas.List.Elements.{All-append, All-nil}
use Rattle.sat_formula.specs.Formula.{Satisfies}
use Rattle.sat_formula.specs.Lit.{lit_value}
use Rattle.tla_values.specs.declared.value.Value.{Value}
use Rattle.tla_meaning.specs.declared.job.State.{State}
use Rattle.tla_meaning.specs.declared.outcome.Fault.{Fault}
use Rattle.tla_meaning.specs.Scopes.{Scope}
use Rattle.cell_arena.specs.declared.build.Build.{Build}
use Rattle.cell_arena.specs.declared.kinds.CellId.{CellId}
use Rattle.cell_arena.proofs.Growing.{Grows-refl}
use Rattle.kernel_trees.specs.declared.path.AssignedStep.{AssignedStep}
use Rattle.kernel_trees.specs.Assignments.{AssignedHolds, AssignedMeets, assigned_by, is_in}
use Rattle.outcome_cells.specs.Shown.{big_fault, wrong_fault}
use Rattle.expr_rewriter.specs.declared.cell_env.CellEnv.{CellEnv}
use Rattle.path_walks.specs.declared.answer.PathCells.{PathCells}
use Rattle.path_walks.specs.Steps.{StepHasKind, StepWithin, assigns, front_picks, own_picks}
use Rattle.path_walks.specs.Paths.{AllNormal, AreBelow, Given, GoesOn, SaysHolds, SaysMeets, Stands, is_given, item_at, picked}
use Rattle.path_walks.specs.inner.Walks.{AreCounted, Walk}
use Rattle.path_walks.proofs.Leading.{MeetsLast, along_before, along_more, holds_last, meets_before, meets_last}
use Rattle.path_walks.proofs.Picks.{Place, assigns_before, assigns_neither, counted_more, front_more, last, earlier, own_there, picked_more, place_of}
use Rattle.path_walks.proofs.Walking.{true_false}

-- ---- no step

pub walk_none : (b : Build) (env : CellEnv) (x : PathCells) → AreBelow b x → ((j : ℕ) → item_at x.next j ≡ None) →
    ((a : List Bool) → Satisfies a b.formula → lit_value x.holds a ≡ true) →
    ((a : List Bool) → Satisfies a b.formula → lit_value x.wrong a ≡ false) →
    ((a : List Bool) → Satisfies a b.formula → lit_value x.big a ≡ false) → Walk b b env env [] x
walk_none b env x below none always never_wrong never_big = record {
  grows = Grows-refl b;
  cells = record {
    below = below;
    picks = [];
    holds = record {
      sound = λ a p on sc s t st given. refl;
      reach = λ a n p sc s t st normal vss h.
          let e : a ++ [] ≡ a = append-nil a in
          record {
            more = [];
            long = subst (λ (l : List Bool). length l ≡ b.formula.vars) (sym e) n;
            satisfies = subst (λ l. Satisfies l b.formula) (sym e) p;
            holds = (subst (λ l. lit_value x.holds l ≡ true) (sym e) (always a p), (sym h, λ j u q. absurd (true_false (sym q))));
          };
    };
    wrong = record {
      sound = λ a p on sc s t st given. absurd (true_false (sym on ∙ never_wrong a p));
      find = λ a n p sc s t st normal vss f. absurd f.meets;
    };
    big = record {
      sound = λ a p on sc s t st given. absurd (true_false (sym on ∙ never_big a p));
      find = λ a n p sc s t st normal vss f. absurd f.meets;
    };
    items = λ front z back e. absurd (nil_cons front z back e);
    whole = λ a p on j e. absurd (true_false (sym e));
    others = λ j e. none j;
    kinds = λ a n p sc s t st normal. tt;
  };
  counted = tt;
  there = All-nil (All (λ (id : CellId). id.index < length b.arena.kinds));
  fits = λ a p on sc s t f given. f;
}
  where
    nil_cons : (front : List AssignedStep) (z : AssignedStep) (back : List AssignedStep) → [] ≡ front ++ z ∷ back → ⊥
    nil_cons [] z back e = cc
    nil_cons (y ∷ ys) z back e = cc

-- ---- a step that is never reached

module _ (old g : Build) (start env : CellEnv) (zs : List AssignedStep) (z : AssignedStep) (x : PathCells) (W : Walk old g start env zs x)
    (never : (a : List Bool) → Satisfies a g.formula → lit_value x.holds a ≡ false)
    (fresh : (j : ℕ) → is_in (assigned_by z) j ≡ true → assigns zs j ≡ false) where
  abbrev picks : List (List CellId)
  picks = W.cells.picks

  abbrev all_picks : List (List CellId)
  all_picks = picks ++ own_picks z []

  fronts : (a : List Bool) (sc : Scope) (s t : State) → Stands old start (zs ++ z ∷ []) a sc s t → Stands old start zs a sc s t
  fronts a sc s t st = record {
    fits = st.fits;
    within = along_before (Some old.arena.width) s t (StepWithin (Some old.arena.width) s t) zs z sc st.within;
  }

  less : (a : List Bool) (t : State) → Given g.arena a (zs ++ z ∷ []) x.next t → Given g.arena a zs x.next t
  less a t q = λ j u e r l. q j u (assigns_before zs (z ∷ []) j e) r l

  no_reach : (a : List Bool) → length a ≡ old.formula.vars → Satisfies a old.formula → (sc : Scope) (s t : State) →
      Stands old start zs a sc s t → AllNormal t → (vss : List (List Value)) → AssignedHolds (Some old.arena.width) s t zs vss sc → ⊥
  no_reach a n p sc s t st normal vss h =
      let r = W.cells.holds.reach a n p sc s t st normal vss h in
      true_false (sym r.holds.0 ∙ never (a ++ r.more) r.satisfies)

  more_picked : (a : List Bool) → picked g.arena a all_picks ≡ picked g.arena a picks ++ own_picks z []
  more_picked a = picked_more g.arena a picks z []

  meets_over : (is : Fault → Bool) (bad : List Bool → Bool) → SaysMeets is old g start x.next zs picks bad →
      SaysMeets is old g start x.next (zs ++ z ∷ []) all_picks bad
  meets_over is bad m = record {
    sound = λ a p on sc s t st q.
        let r = m.sound a p on sc s t (fronts a sc s t st) (less a t q) in
        record {
          fault = r.fault;
          is_so = r.is_so;
          meets = subst (λ vss. AssignedMeets (Some old.arena.width) s t (zs ++ z ∷ []) vss sc r.fault) (sym (more_picked a))
              (meets_before (Some old.arena.width) s t zs z (picked g.arena a picks) (own_picks z []) sc r.fault r.meets);
        };
    find = λ a n p sc s t st normal vss f.
        by a n p sc s t (fronts a sc s t st) normal vss f.fault f.is_so (meets_last (Some old.arena.width) s t zs z vss sc f.fault f.meets);
  }
    where
      by : (a : List Bool) → length a ≡ old.formula.vars → Satisfies a old.formula → (sc : Scope) (s t : State) →
          Stands old start zs a sc s t → AllNormal t → (vss : List (List Value)) (f : Fault) → is f ≡ true →
          AssignedMeets (Some old.arena.width) s t zs vss sc f ⊎ MeetsLast (Some old.arena.width) s t zs z sc f →
          GoesOn g.formula a (λ b. bad b ≡ true)
      by a n p sc s t st normal vss f so (inl e) = m.find a n p sc s t st normal vss (record { fault = f; is_so = so; meets = e })
      by a n p sc s t st normal vss f so (inr e) = absurd (no_reach a n p sc s t st normal e.front e.before)

  whole_none : (a : List Bool) → length a ≡ old.formula.vars → Satisfies a old.formula → (sc : Scope) (s t : State) →
      Stands old start (zs ++ z ∷ []) a sc s t → AllNormal t → (vss : List (List Value)) →
      AssignedHolds (Some old.arena.width) s t (zs ++ z ∷ []) vss sc → ⊥
  whole_none a n p sc s t st normal vss h =
      let l = holds_last (Some old.arena.width) s t zs z vss sc h in
      no_reach a n p sc s t (fronts a sc s t st) normal l.front l.before

  item_none : (front : List AssignedStep) (u : AssignedStep) → front ≡ zs → u ≡ z → (j : ℕ) → is_in (assigned_by u) j ≡ true →
      SaysHolds old g start x.next (front ++ u ∷ []) (front_picks (front ++ u ∷ []) all_picks) (is_given (item_at x.next j))
  item_none front u p q j e =
      let n : is_in (assigned_by z) j ≡ true = subst (λ v. is_in (assigned_by v) j ≡ true) q e in
      subst (λ o. SaysHolds old g start x.next (front ++ u ∷ []) (front_picks (front ++ u ∷ []) all_picks) (is_given o))
      (sym (W.cells.others j (fresh j n)))
      (record {
        sound = λ a r on sc s t st given. absurd (true_false (sym on));
        reach = λ a l r sc s t st normal vss hold.
            absurd (whole_none a l r sc s t (subst (λ fs. Stands old start fs a sc s t) ends st) normal vss
            (subst (λ fs. AssignedHolds (Some old.arena.width) s t fs vss sc) ends hold));
      })
    where
      ends : front ++ u ∷ [] ≡ zs ++ z ∷ []
      ends = ap₂ (λ (l : List AssignedStep) (v : AssignedStep). l ++ v ∷ []) p q

  item_earlier : (front : List AssignedStep) (u : AssignedStep) (rest : List AssignedStep) → zs ≡ front ++ u ∷ rest → (j : ℕ) →
      is_in (assigned_by u) j ≡ true →
      SaysHolds old g start x.next (front ++ u ∷ []) (front_picks (front ++ u ∷ []) all_picks) (is_given (item_at x.next j))
  item_earlier front u rest e j n =
      let whole : zs ≡ (front ++ u ∷ []) ++ rest = e ∙ sym (append_assoc front (u ∷ []) rest) in
      let counted : AreCounted ((front ++ u ∷ []) ++ rest) picks = subst (λ (l : List AssignedStep). AreCounted l picks) whole W.counted in
      subst (λ ps. SaysHolds old g start x.next (front ++ u ∷ []) ps (is_given (item_at x.next j)))
      (sym (front_more (front ++ u ∷ []) rest picks (own_picks z []) counted)) (W.cells.items front u rest e j n)

  items_over : (front : List AssignedStep) (u : AssignedStep) (back : List AssignedStep) (j : ℕ) → is_in (assigned_by u) j ≡ true →
      Place zs z front u back →
      SaysHolds old g start x.next (front ++ u ∷ []) (front_picks (front ++ u ∷ []) all_picks) (is_given (item_at x.next j))
  items_over front u back j e (last p q) = item_none front u p q j e
  items_over front u back j e (earlier rest p) = item_earlier front u rest p j e

  pub walk_over : Walk old g start env (zs ++ z ∷ []) x
  walk_over = record {
    grows = W.grows;
    cells = record {
      below = W.cells.below;
      picks = all_picks;
      holds = record {
        sound = λ a p on sc s t st q. absurd (true_false (sym on ∙ never a p));
        reach = λ a n p sc s t st normal vss q. absurd (whole_none a n p sc s t st normal vss q);
      };
      wrong = meets_over wrong_fault (lit_value x.wrong) W.cells.wrong;
      big = meets_over big_fault (lit_value x.big) W.cells.big;
      items = λ front u back e j n. items_over front u back j n (place_of zs z front u back e);
      whole = λ a p on j e. absurd (true_false (sym on ∙ never a p));
      others = λ j e. W.cells.others j (assigns_neither zs z j e).0;
      kinds = λ a n p sc s t st normal.
          along_more (Some old.arena.width) s t (StepHasKind (Some old.arena.width) s t) zs z sc
          (W.cells.kinds a n p sc s t (fronts a sc s t st) normal)
          (λ vss l. absurd (no_reach a n p sc s t (fronts a sc s t st) normal vss l));
    };
    counted = counted_more zs z picks [] W.counted;
    there = All-append (All (λ (id : CellId). id.index < length g.arena.kinds)) picks (own_picks z []) W.there
        (own_there (All (λ (id : CellId). id.index < length g.arena.kinds)) z [] (All-nil (λ (id : CellId). id.index < length g.arena.kinds)));
    fits = λ a p on sc s t f q. absurd (true_false (sym on ∙ never a p));
  }
