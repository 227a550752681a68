-- The walk over a path: one step more.
use Rattle.std.proofs.Common.{◌≡◌, ◌⊎◌, inl, inr, ℕ, ◌<◌, Bool, true, ◌&&◌, ◌||◌, List, [], ◌∷◌, ◌++◌, map, length, get_or, All, refl, sym, ◌∙◌, ap, ap₂, subst}
use Rattle.std.specs.Prelude.{Some}
use Rattle.sat_formula.specs.declared.lit.Lit.{Lit}
use Rattle.sat_formula.specs.Formula.{HasValue, Satisfies}
use Rattle.sat_formula.specs.Lit.{lit_value}
use Rattle.tla_values.specs.declared.value.Value.{Value}
use Rattle.tla_meaning.specs.declared.job.State.{State}
use Rattle.tla_meaning.specs.declared.outcome.Fault.{Fault}
use Rattle.tla_meaning.specs.Numbers.{Width}
use Rattle.tla_meaning.specs.Scopes.{Scope}
use Rattle.cell_arena.specs.declared.build.Build.{Build}
use Rattle.cell_arena.specs.declared.kinds.CellId.{CellId}
use Rattle.cell_arena.specs.Decode.{decode}
use Rattle.cell_arena.specs.Growth.{Grows}
use Rattle.cell_arena.proofs.Growing.{Grows-refl, Grows-trans, Satisfies-before}
use Rattle.kernel_trees.specs.declared.path.AssignedStep.{AssignedStep}
use Rattle.kernel_trees.specs.declared.path.AssignedStep.TheVariants as mark
use Rattle.kernel_trees.specs.Assignments.{AssignedHolds, AssignedMeets, Has}
use Rattle.outcome_cells.specs.Shown.{ShownFault, big_fault, wrong_fault}
use Rattle.expr_rewriter.specs.declared.cell_env.CellEnv.{CellEnv}
use Rattle.expr_rewriter.specs.Environments.{AreThere, Fits}
use Rattle.path_walks.specs.declared.answer.PathCells.{PathCells}
use Rattle.path_walks.specs.declared.answer.StepCells.{StepCells}
use Rattle.path_walks.specs.Steps.{PathHasKinds, StepHasKind, StepWithin, Takes, assigns, own_picks, step_fault}
use Rattle.path_walks.specs.Paths.{AllNormal, Given, GoesOn, Items, MeetsSome, SaysMeets, Stands, item_at, picked}
use Rattle.path_walks.specs.inner.Walks.{AddsLiterals, Gives, IsStep, Walk, all_true, scope_after}
use Rattle.path_walks.proofs.Leading.{MeetsLast, along_before, along_last, along_more, holds_last, holds_more, meets_before, meets_here, meets_last}
use Rattle.path_walks.proofs.Onward.{Onward, all_onward, decode_onward, fits_onward, go_further, goes_on, onward_longer, onward_same, onward_trans, picked_onward}
use Rattle.path_walks.proofs.Picks.{picked_more}
use Rattle.path_walks.proofs.Walking.{all_four, and_both, and_first, and_second, four_all, given_older, given_onward, or_cases, or_left, or_second, takes_calm}

-- a value that a step gives stays
pub gives_onward : (g : Build) (a : List Bool) (h : Build) (b : List Bool) (z : AssignedStep) (ids : List CellId) (t : State) → Onward g a h b →
    All (λ (id : CellId). id.index < length g.arena.kinds) ids → Gives g.arena a z ids t → Gives h.arena b z ids t
gives_onward g a h b (mark.Guard k c) ids t o there e = tt
gives_onward g a h b (mark.Pick ps) ids t o there e = tt
gives_onward g a h b (mark.Equals j k) ids t o there e = λ n d lt. subst (Has t j) (sym (o.decodes (get_or ids n d) (there n d lt))) (e n d lt)
gives_onward g a h b (mark.Among j k) ids t o there e = λ n d lt. subst (Has t j) (sym (o.decodes (get_or ids n d) (there n d lt))) (e n d lt)

pub gives_older : (g : Build) (a : List Bool) (h : Build) (b : List Bool) (z : AssignedStep) (ids : List CellId) (t : State) → Onward g a h b →
    All (λ (id : CellId). id.index < length g.arena.kinds) ids → Gives h.arena b z ids t → Gives g.arena a z ids t
gives_older g a h b (mark.Guard k c) ids t o there e = tt
gives_older g a h b (mark.Pick ps) ids t o there e = tt
gives_older g a h b (mark.Equals j k) ids t o there e = λ n d lt. subst (Has t j) (o.decodes (get_or ids n d) (there n d lt)) (e n d lt)
gives_older g a h b (mark.Among j k) ids t o there e = λ n d lt. subst (Has t j) (o.decodes (get_or ids n d) (there n d lt)) (e n d lt)

module _ (old g h i : Build) (start env : CellEnv) (zs : List AssignedStep) (z : AssignedStep) (m : StepCells) (x y : PathCells)
    (W : Walk old g start env zs x) (gh : Grows g h) (S : IsStep (Some old.arena.width) g h env z m) (hi : Grows h i)
    (A : AddsLiterals i.formula m x y) (before : AreThere (length old.arena.kinds) start) (there : AreThere (length g.arena.kinds) env) where
  abbrev w : Width
  w = Some old.arena.width

  gi : Grows g i
  gi = Grows-trans g h i gh hi

  abbrev picks : List (List CellId)
  picks = W.cells.picks

  cells_below : (j : ℕ) (u : CellId × Lit) → assigns zs j ≡ true → item_at x.next j ≡ Some u →
      (u.0.index < length g.arena.kinds) × (u.1.var < g.formula.vars)
  cells_below j u e q = W.cells.below.items j u q

  fronts : (a : List Bool) (sc : Scope) (s t : State) → Stands old start (zs ++ z ∷ []) a sc s t → Stands old start zs a sc s t
  fronts a sc s t st = record { fits = st.fits; within = along_before w s t (StepWithin w s t) zs z sc st.within }

  -- ---- what is true is so

  -- where the older steps hold, the last one is reached
  pub record AtLast (a : List Bool) (sc : Scope) (s t : State) : Type 0 where
    pub before_it : AssignedHolds w s t zs (picked g.arena a picks) sc
    pub fits : Fits h.arena a env (scope_after zs (picked g.arena a picks) sc) s t
    pub within : StepWithin w s t z (scope_after zs (picked g.arena a picks) sc)

  at_last : (a : List Bool) → Satisfies a i.formula → lit_value x.holds a ≡ true → (sc : Scope) (s t : State) →
      Stands old start (zs ++ z ∷ []) a sc s t → Given i.arena a zs x.next t → AtLast a sc s t
  at_last a p on sc s t st given =
      let pg = Satisfies-before g i a gi p in
      let given₀ = given_older old g i start x.next x.next zs picks gi W.there (λ j e. refl) cells_below a t given in
      let hold = W.cells.holds.sound a pg on sc s t (fronts a sc s t st) given₀ in
      record {
        before_it = hold;
        fits = fits_onward g a h a (onward_same g h a gh) env (scope_after zs (picked g.arena a picks) sc) s t there (W.fits a pg on sc s t st.fits given₀);
        within = along_last w s t (StepWithin w s t) zs z (picked g.arena a picks) sc st.within hold;
      }

  pub picks_at : (a : List Bool) → picked i.arena a (picks ++ own_picks z m.cells) ≡ picked g.arena a picks ++ own_picks z (map (decode h.arena a) m.cells)
  picks_at a =
      picked_more i.arena a picks z m.cells
      ∙ ap₂ (λ (us vs : List (List Value)). us ++ vs) (picked_onward g a i a (onward_same g i a gi) picks W.there)
      (ap (own_picks z) (decode_onward h a i a (onward_same h i a hi) m.cells S.there))

  pub last_takes : (a : List Bool) → Satisfies a i.formula → lit_value y.holds a ≡ true → (sc : Scope) (s t : State) → AtLast a sc s t →
      Gives i.arena a z m.cells t → Takes w s t z (map (decode h.arena a) m.cells) (scope_after zs (picked g.arena a picks) sc)
  last_takes a p on sc s t l gives =
      let f = four_all (lit_value x.holds a) (all_true m.choices a) (lit_value m.faults.wrong a) (lit_value m.faults.big a) (sym (A.holds.value a p) ∙ on) in
      S.sound a (Satisfies-before h i a hi p) f.second f.third f.fourth (scope_after zs (picked g.arena a picks) sc) s t l.fits l.within
      (gives_older h a i a z m.cells t (onward_same h i a hi) S.there gives)

  pub older_on : (a : List Bool) → Satisfies a i.formula → lit_value y.holds a ≡ true → lit_value x.holds a ≡ true
  older_on a p on =
      (four_all (lit_value x.holds a) (all_true m.choices a) (lit_value m.faults.wrong a) (lit_value m.faults.big a) (sym (A.holds.value a p) ∙ on)).first

  pub whole_sound : (a : List Bool) → Satisfies a i.formula → lit_value y.holds a ≡ true → (sc : Scope) (s t : State) →
      Stands old start (zs ++ z ∷ []) a sc s t → Given i.arena a zs x.next t → Gives i.arena a z m.cells t →
      AssignedHolds w s t (zs ++ z ∷ []) (picked i.arena a (picks ++ own_picks z m.cells)) sc
  whole_sound a p on sc s t st given gives =
      let l = at_last a p (older_on a p on) sc s t st given in
      subst (λ vss. AssignedHolds w s t (zs ++ z ∷ []) vss sc) (sym (picks_at a))
      (holds_more w s t zs z (picked g.arena a picks) (map (decode h.arena a) m.cells) sc l.before_it (last_takes a p on sc s t l gives))

  -- ---- what is so is reached

  -- the last step is reached at an assignment of the formula before it
  pub record Reached (front : List (List Value)) (sc : Scope) (s t : State) (b : List Bool) : Type 0 where
    pub on : lit_value x.holds b ≡ true
    pub picks_are : picked g.arena b picks ≡ front
    pub given : Given g.arena b zs x.next t
    pub fits : Fits g.arena b env (scope_after zs front sc) s t
    pub within : StepWithin w s t z (scope_after zs front sc)

  reached : (a : List Bool) → length a ≡ old.formula.vars → Satisfies a old.formula → (sc : Scope) (s t : State) →
      Stands old start (zs ++ z ∷ []) a sc s t → AllNormal t → (front : List (List Value)) → AssignedHolds w s t zs front sc →
      GoesOn g.formula a (Reached front sc s t)
  reached a n p sc s t st normal front hold =
      let r = W.cells.holds.reach a n p sc s t (fronts a sc s t st) normal front hold in
      let b = a ++ r.more in
      let f = fits_onward old a old b (onward_longer old old a r.more (Grows-refl old) n) start sc s t before st.fits in
      record {
        more = r.more;
        long = r.long;
        satisfies = r.satisfies;
        holds = record {
          on = r.holds.0;
          picks_are = r.holds.1.0;
          given = r.holds.1.1;
          fits = subst (λ vss. Fits g.arena b env (scope_after zs vss sc) s t) r.holds.1.0 (W.fits b r.satisfies r.holds.0 sc s t f r.holds.1.1);
          within = along_last w s t (StepWithin w s t) zs z front sc st.within hold;
        };
      }

  -- the whole holds at the newest
  pub record Whole (vss : List (List Value)) (t : State) (d : List Bool) : Type 0 where
    pub on : lit_value y.holds d ≡ true
    pub picks_are : picked i.arena d (picks ++ own_picks z m.cells) ≡ vss
    pub given : Given i.arena d zs x.next t
    pub gives : Gives i.arena d z m.cells t

  whole_on : (b : List Bool) → length b ≡ g.formula.vars → Satisfies b g.formula → (front : List (List Value)) (own : List Value)
      (sc : Scope) (s t : State) → AllNormal t → Reached front sc s t b → Takes w s t z own (scope_after zs front sc) →
      GoesOn i.formula b (Whole (front ++ own_picks z own) t)
  whole_on b n p front own sc s t normal r takes =
      let sc₁ = scope_after zs front sc in
      let q = S.reach b n p sc₁ s t r.fits r.within normal own takes in
      let c = b ++ q.more in
      let e = goes_on h.formula i.formula c hi.formula q.long q.satisfies in
      let d = c ++ e.more in
      let o₁ = onward_longer g h b q.more gh n in
      let o₂ = onward_longer h i c e.more hi q.long in
      let o = onward_trans g h i b c d gi o₁ o₂ in
      let o₃ = onward_trans g h h b c d gh o₁ (onward_longer h h c e.more (Grows-refl h) q.long) in
      let calm = takes_calm w s t z own sc₁ takes in
      let shown = S.shows d (Satisfies-before h i d hi e.satisfies) sc₁ s t (fits_onward g b h d o₃ env sc₁ s t there r.fits) r.within in
      go_further h.formula i.formula b
      (λ c. (all_true m.choices c ≡ true) × ((own_picks z (map (decode h.arena c) m.cells) ≡ own_picks z own) × Gives h.arena c z m.cells t))
      (Whole (front ++ own_picks z own) t) q
      (record {
        more = e.more;
        long = e.long;
        satisfies = e.satisfies;
        holds = record {
          on = A.holds.value d e.satisfies
              ∙ all_four (lit_value x.holds d) (all_true m.choices d) (lit_value m.faults.wrong d) (lit_value m.faults.big d)
              (o.literals x.holds W.cells.below.holds ∙ r.on) (all_onward h c i d o₂ m.choices S.choices_below ∙ q.holds.0)
              (shown.wrong ∙ ap wrong_fault calm) (shown.big ∙ ap big_fault calm);
          picks_are = picked_more i.arena d picks z m.cells
              ∙ ap₂ (λ (us vs : List (List Value)). us ++ vs) (picked_onward g b i d o picks W.there ∙ r.picks_are)
              (ap (own_picks z) (decode_onward h c i d o₂ m.cells S.there) ∙ q.holds.1.0);
          given = given_onward old g i start x.next x.next zs picks gi W.there (λ j e. refl) cells_below b d t o r.given;
          gives = gives_onward h c i d z m.cells t o₂ S.there q.holds.1.1;
        };
      })

  pub whole_reach : (a : List Bool) → length a ≡ old.formula.vars → Satisfies a old.formula → (sc : Scope) (s t : State) →
      Stands old start (zs ++ z ∷ []) a sc s t → AllNormal t → (vss : List (List Value)) → AssignedHolds w s t (zs ++ z ∷ []) vss sc →
      GoesOn i.formula a (Whole vss t)
  whole_reach a n p sc s t st normal vss hold =
      let l = holds_last w s t zs z vss sc hold in
      let r = reached a n p sc s t st normal l.front l.before in
      subst (λ vss. GoesOn i.formula a (Whole vss t)) (sym l.is)
      (go_further g.formula i.formula a (Reached l.front sc s t) (Whole (l.front ++ own_picks z l.own) t) r
      (whole_on (a ++ r.more) r.long r.satisfies l.front l.own sc s t normal r.holds l.here))

  -- ---- faults

  module _ (is : Fault → Bool) (bad fails bad₁ : Lit) (below : bad.var < g.formula.vars) (fails_below : fails.var < h.formula.vars)
      (value : HasValue i.formula bad₁ (λ a. lit_value bad a || (lit_value x.holds a && lit_value fails a)))
      (shown : (f : Fault) (a : List Bool) → ShownFault (lit_value m.faults.wrong a) (lit_value m.faults.big a) f → lit_value fails a ≡ is f)
      (M : SaysMeets is old g start x.next zs picks (lit_value bad)) where
    meets_at : (a : List Bool) → Satisfies a i.formula → (sc : Scope) (s t : State) →
        Stands old start (zs ++ z ∷ []) a sc s t → Given i.arena a zs x.next t →
        (lit_value bad a ≡ true) ⊎ ((lit_value x.holds a && lit_value fails a) ≡ true) →
        MeetsSome is w s t (zs ++ z ∷ []) (picked i.arena a (picks ++ own_picks z m.cells)) sc
    meets_at a p sc s t st given (inl e) =
        let given₀ = given_older old g i start x.next x.next zs picks gi W.there (λ j e. refl) cells_below a t given in
        let r = M.sound a (Satisfies-before g i a gi p) e sc s t (fronts a sc s t st) given₀ in
        record {
          fault = r.fault;
          is_so = r.is_so;
          meets = subst (λ vss. AssignedMeets w s t (zs ++ z ∷ []) vss sc r.fault) (sym (picks_at a))
              (meets_before w s t zs z (picked g.arena a picks) (own_picks z (map (decode h.arena a) m.cells)) sc r.fault r.meets);
        }
    meets_at a p sc s t st given (inr e) =
        let l = at_last a p (and_first (lit_value x.holds a) (lit_value fails a) e) sc s t st given in
        let sc₁ = scope_after zs (picked g.arena a picks) sc in
        let f = S.shows a (Satisfies-before h i a hi p) sc₁ s t l.fits l.within in
        record {
          fault = step_fault w s t z sc₁;
          is_so = sym (shown (step_fault w s t z sc₁) a f) ∙ and_second (lit_value x.holds a) (lit_value fails a) e;
          meets = subst (λ vss. AssignedMeets w s t (zs ++ z ∷ []) vss sc (step_fault w s t z sc₁)) (sym (picks_at a))
              (meets_here w s t zs z (picked g.arena a picks) (own_picks z (map (decode h.arena a) m.cells)) sc (step_fault w s t z sc₁) l.before_it refl);
        }

    find_at : (a : List Bool) → length a ≡ old.formula.vars → Satisfies a old.formula → (sc : Scope) (s t : State) →
        Stands old start (zs ++ z ∷ []) a sc s t → AllNormal t → (vss : List (List Value)) (f : Fault) → is f ≡ true →
        AssignedMeets w s t zs vss sc f ⊎ MeetsLast w s t zs z sc f → GoesOn i.formula a (λ b. lit_value bad₁ b ≡ true)
    find_at a n p sc s t st normal vss f so (inl e) =
        let r = M.find a n p sc s t (fronts a sc s t st) normal vss (record { fault = f; is_so = so; meets = e }) in
        let b = a ++ r.more in
        let q = goes_on g.formula i.formula b gi.formula r.long r.satisfies in
        let o = onward_longer g i b q.more gi r.long in
        go_further g.formula i.formula a (λ b. lit_value bad b ≡ true) (λ b. lit_value bad₁ b ≡ true) r
        (record {
          more = q.more;
          long = q.long;
          satisfies = q.satisfies;
          holds = value.value (b ++ q.more) q.satisfies
              ∙ or_left (lit_value bad (b ++ q.more)) (lit_value x.holds (b ++ q.more) && lit_value fails (b ++ q.more)) (o.literals bad below ∙ r.holds);
        })
    find_at a n p sc s t st normal vss f so (inr e) =
        let r = reached a n p sc s t st normal e.front e.before in
        let b = a ++ r.more in
        let q = goes_on g.formula i.formula b gi.formula r.long r.satisfies in
        let d = b ++ q.more in
        let o = onward_longer g i b q.more gi r.long in
        let oh = onward_longer g h b q.more gh r.long in
        let sc₁ = scope_after zs e.front sc in
        let sf = S.shows d (Satisfies-before h i d hi q.satisfies) sc₁ s t (fits_onward g b h d oh env sc₁ s t there r.holds.fits) r.holds.within in
        go_further g.formula i.formula a (Reached e.front sc s t) (λ b. lit_value bad₁ b ≡ true) r
        (record {
          more = q.more;
          long = q.long;
          satisfies = q.satisfies;
          holds = value.value d q.satisfies
              ∙ or_second (lit_value bad d) (lit_value x.holds d && lit_value fails d)
              (and_both (lit_value x.holds d) (lit_value fails d) (o.literals x.holds W.cells.below.holds ∙ r.holds.on)
              (shown (step_fault w s t z sc₁) d sf ∙ ap is e.here ∙ so));
        })

    pub meets_more : (items : Items) → ((a : List Bool) (t : State) → Given i.arena a (zs ++ z ∷ []) items t → Given i.arena a zs x.next t) →
        SaysMeets is old i start items (zs ++ z ∷ []) (picks ++ own_picks z m.cells) (lit_value bad₁)
    meets_more items less = record {
      sound = λ a p e sc s t st given.
          meets_at a p sc s t st (less a t given)
          (or_cases (lit_value bad a) (lit_value x.holds a && lit_value fails a) (sym (value.value a p) ∙ e));
      find = λ a n p sc s t st normal vss f.
          find_at a n p sc s t st normal vss f.fault f.is_so (meets_last w s t zs z vss sc f.fault f.meets);
    }

  -- ---- kinds

  pub kinds_more : (a : List Bool) → length a ≡ old.formula.vars → Satisfies a old.formula → (sc : Scope) (s t : State) →
      Stands old start (zs ++ z ∷ []) a sc s t → AllNormal t → PathHasKinds w s t (zs ++ z ∷ []) sc
  kinds_more a n p sc s t st normal =
      along_more w s t (StepHasKind w s t) zs z sc (W.cells.kinds a n p sc s t (fronts a sc s t st) normal)
      (λ vss l.
      let r = reached a n p sc s t st normal vss l in
      let b = a ++ r.more in
      let q = goes_on g.formula h.formula b gh.formula r.long r.satisfies in
      let d = b ++ q.more in
      let oh = onward_longer g h b q.more gh r.long in
      let sc₁ = scope_after zs vss sc in
      S.kind d q.satisfies sc₁ s t (fits_onward g b h d oh env sc₁ s t there r.holds.fits) r.holds.within)
