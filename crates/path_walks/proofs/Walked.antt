-- The walk over a path: no step, one step more, and one that cannot be reached.
use Rattle.std.proofs.Common.{◌≡◌, ◌⊎◌, inl, inr, ℕ, zero, suc, eqb, append_assoc, ◌<◌, Bool, true, false, List, [], ◌∷◌, ◌++◌, set, map, length, All, refl, sym, ◌∙◌, ap, ap₂, subst, arith}
use Rattle.std.specs.Prelude.{Option, Some, None, option_and_then, slice_get}
use Rattle.std.proofs.lemmas.List.{length-map}
use Rattle.std.proofs.lemmas.List.Elements.{All-append, All-cons, All-head, All-nil, All-weaker}
use Rattle.std.proofs.lemmas.Bool.{eqb-false, eqb-true}
use Rattle.sat_formula.specs.declared.lit.Lit.{Lit}
use Rattle.sat_formula.specs.Formula.{Satisfies}
use Rattle.sat_formula.specs.Lit.{lit_value}
use Rattle.tla_values.specs.declared.value.Value.{Value}
use Rattle.tla_meaning.specs.declared.job.State.{State}
use Rattle.tla_meaning.specs.Scopes.{Scope}
use Rattle.cell_arena.specs.declared.build.Build.{Build}
use Rattle.cell_arena.specs.declared.kinds.CellId.{CellId}
use Rattle.cell_arena.specs.Cells.{Cells as Arena}
use Rattle.cell_arena.specs.Decode.{decode}
use Rattle.cell_arena.specs.Growth.{Grows}
use Rattle.cell_arena.proofs.Growing.{Grows-trans, Satisfies-before}
use Rattle.kernel_trees.specs.declared.kernel.Ker.{Ker}
use Rattle.kernel_trees.specs.declared.path.AssignedStep.{AssignedStep}
use Rattle.kernel_trees.specs.declared.path.AssignedStep.TheVariants as mark
use Rattle.kernel_trees.specs.Assignments.{AssignedHolds, Has, assigned_by, is_in}
use Rattle.kernel_trees.specs.Paths.{numbers}
use Rattle.outcome_cells.specs.Shown.{big_fault, wrong_fault}
use Rattle.expr_rewriter.specs.declared.cell_env.CellEnv.{CellEnv}
use Rattle.expr_rewriter.specs.Environments.{AreThere, Fits}
use Rattle.expr_rewriter.proofs.Fitting.{fits_bound}
use Rattle.path_walks.specs.declared.answer.PathCells.{PathCells}
use Rattle.path_walks.specs.declared.answer.StepCells.{StepCells}
use Rattle.path_walks.specs.Steps.{assigns, front_picks, own_picks, scope_past}
use Rattle.path_walks.specs.Paths.{AllNormal, Given, HasItem, Items, SaysHolds, SaysMeets, Stands, is_given, item_at, picked}
use Rattle.path_walks.specs.inner.Walks.{AddsLiterals, AreCounted, Gives, IsStep, OneEach, Walk, env_past, items_past, put_next, scope_after}
use Rattle.path_walks.proofs.Onward.{Onward, fits_onward, onward_same, picked_onward}
use Rattle.path_walks.proofs.Picks.{Place, assigns_before, assigns_here, assigns_last, assigns_neither, counted_map, counted_more, front_all, front_more, front_there, last, earlier, own_there, picked_more, place_of, scope_more}
use Rattle.path_walks.proofs.Items.{Named, get_set_other, is_named, item_other, named_past}
use Rattle.path_walks.proofs.Walking.{given_older, says_later, true_false}
use Rattle.path_walks.proofs.Turning.{kinds_more, meets_more, older_on, whole_reach, whole_sound}

some_one : {X : Type 0} (x y : X) → Some x ≡ Some y → x ≡ y
some_one x y e = cc

none_some : {X : Type 0} (x : X) → None ≡ Some x → ⊥
none_some x e = cc

-- ---- the environment behind a step

at_put : (xs : List (Option CellId)) (j : ℕ) (id d : CellId) → option_and_then (λ o. o) (slice_get (set xs j (Some id)) j) ≡ Some d → id ≡ d
at_put [] j id d e = absurd (cc)
at_put (x ∷ xs) zero id d e = some_one id d e
at_put (x ∷ xs) (suc j) id d e = at_put xs j id d e

number_or : (k j : ℕ) → (k ≡ j) ⊎ (k ≡ j → ⊥)
number_or k j = by (eqb k j) refl
  where
    by : (b : Bool) → eqb k j ≡ b → (k ≡ j) ⊎ (k ≡ j → ⊥)
    by true e = inl (eqb-true k j e)
    by false e = inr (eqb-false k j e)

module _ (c : Arena) (a : List Bool) (env : CellEnv) (sc : Scope) (s t : State) (f : Fits c a env sc s t) where
  put_fits : (j : ℕ) (ids : List CellId) → All (λ id. Has t j (decode c a id)) ids →
      Fits c a (record { now = env.now; next = put_next j ids env.next; bound = env.bound }) sc s t
  put_fits j [] h = record { current = f.current; following = f.following; rest = f.rest; bound = f.bound }
  put_fits j (id ∷ ids) h = record {
    current = f.current;
    following = λ k d e. by k d (number_or k j) e;
    rest = f.rest;
    bound = f.bound;
  }
    where
      by : (k : ℕ) (d : CellId) → (k ≡ j) ⊎ (k ≡ j → ⊥) → option_and_then (λ o. o) (slice_get (set env.next j (Some id)) k) ≡ Some d → Has t k (decode c a d)
      by k d (inl q) e =
          let p : option_and_then (λ o. o) (slice_get (set env.next j (Some id)) j) ≡ Some d =
          subst (λ n. option_and_then (λ o. o) (slice_get (set env.next j (Some id)) n) ≡ Some d) q e in
          subst (λ n. Has t n (decode c a d)) (sym q)
          (subst (λ d. Has t j (decode c a d)) (at_put env.next j id d p) (All-head (λ id. Has t j (decode c a id)) id ids h))
      by k d (inr n) e = f.following k d (ap (option_and_then (λ o. o)) (sym (get_set_other env.next j k (Some id) n)) ∙ e)

  pub fits_past : (z : AssignedStep) (ids : List CellId) → OneEach z ids → Gives c a z ids t →
      Fits c a (env_past z ids env) (scope_past z (map (decode c a) ids) sc) s t
  fits_past (mark.Guard k b) ids one g = f
  fits_past (mark.Pick ps) ids one g = fits_bound c a env sc s t (numbers ps) ids (length-map ps (λ (x : ℕ × Ker). x.0) ∙ sym one) f
  fits_past (mark.Equals j e) ids one g = put_fits j ids g
  fits_past (mark.Among j e) ids one g = put_fits j ids g

-- what a step gives, name by name
pub gives_by : (c : Arena) (a : List Bool) (z : AssignedStep) (ids : List CellId) (t : State) → OneEach z ids →
    ((j : ℕ) (id : CellId) → is_in (assigned_by z) j ≡ true → ids ≡ id ∷ [] → Has t j (decode c a id)) → Gives c a z ids t
gives_by c a (mark.Guard k b) ids t n h = tt
gives_by c a (mark.Pick ps) ids t n h = tt
gives_by c a (mark.Equals j e) [] t n h = absurd (omega arith)
gives_by c a (mark.Equals j e) (id ∷ []) t n h =
    All-cons (λ id. Has t j (decode c a id)) id [] (h j id (is_named j) refl) (All-nil (λ id. Has t j (decode c a id)))
gives_by c a (mark.Equals j e) (id ∷ d ∷ ids) t n h = absurd (omega arith)
gives_by c a (mark.Among j e) [] t n h = absurd (omega arith)
gives_by c a (mark.Among j e) (id ∷ []) t n h =
    All-cons (λ id. Has t j (decode c a id)) id [] (h j id (is_named j) refl) (All-nil (λ id. Has t j (decode c a id)))
gives_by c a (mark.Among j e) (id ∷ d ∷ ids) t n h = absurd (omega arith)

first_same : (c d : CellId) (ids : List CellId) → ids ≡ c ∷ [] → ids ≡ d ∷ [] → c ≡ d
first_same c d ids p q = cc

-- ---- one step more

module _ (old g h i : Build) (start env : CellEnv) (zs : List AssignedStep) (z : AssignedStep) (m : StepCells) (x y : PathCells)
    (W : Walk old g start env zs x) (gh : Grows g h) (S : IsStep (Some old.arena.width) g h env z m) (hi : Grows h i)
    (A : AddsLiterals i.formula m x y) (before : AreThere (length old.arena.kinds) start) (there : AreThere (length g.arena.kinds) env)
    (fresh : (j : ℕ) → is_in (assigned_by z) j ≡ true → assigns zs j ≡ false) where
  abbrev picks : List (List CellId)
  picks = W.cells.picks

  abbrev all_picks : List (List CellId)
  all_picks = picks ++ own_picks z m.cells

  g_i : Grows g i
  g_i = Grows-trans g h i gh hi

  -- a name of the older steps is none of the last
  not_last : (j : ℕ) → assigns zs j ≡ true → is_in (assigned_by z) j ≡ false
  not_last j e = by (is_in (assigned_by z) j) refl
    where
      by : (b : Bool) → is_in (assigned_by z) j ≡ b → b ≡ false
      by true q = absurd (true_false (sym e ∙ fresh j q))
      by false q = refl

  -- ---- what is left of the older steps

  module _ (same : (j : ℕ) → assigns zs j ≡ true → item_at y.next j ≡ item_at x.next j) where
    given_less : (a : List Bool) (t : State) → Given i.arena a (zs ++ z ∷ []) y.next t → Given i.arena a zs x.next t
    given_less a t q = λ j u e r l. q j u (assigns_before zs (z ∷ []) j e) (same j e ∙ r) l

    reads_item : (o : Option (CellId × Lit)) → ((u : CellId × Lit) → o ≡ Some u → u.1.var < g.formula.vars) →
        (b d : List Bool) → Onward g b i d → is_given o d ≡ is_given o b
    reads_item None below b d o = refl
    reads_item (Some u) below b d o = o.literals u.1 (below u refl)

    item_earlier : (front : List AssignedStep) (u : AssignedStep) (rest : List AssignedStep) → zs ≡ front ++ u ∷ rest → (j : ℕ) →
        is_in (assigned_by u) j ≡ true →
        SaysHolds old i start y.next (front ++ u ∷ []) (front_picks (front ++ u ∷ []) all_picks) (is_given (item_at y.next j))
    item_earlier front u rest e j n =
        let whole : zs ≡ (front ++ u ∷ []) ++ rest = e ∙ sym (append_assoc front (u ∷ []) rest) in
        let inside : (k : ℕ) → assigns (front ++ u ∷ []) k ≡ true → assigns zs k ≡ true =
        λ k q. subst (λ (l : List AssignedStep). assigns l k ≡ true) (sym whole) (assigns_before (front ++ u ∷ []) rest k q) in
        let counted : AreCounted ((front ++ u ∷ []) ++ rest) picks = subst (λ (l : List AssignedStep). AreCounted l picks) whole W.counted in
        let fewer = front_more (front ++ u ∷ []) rest picks (own_picks z m.cells) counted in
        let older = says_later old g i start x.next y.next (front ++ u ∷ []) (front_picks (front ++ u ∷ []) picks) g_i
        (front_there (All (λ (id : CellId). id.index < length g.arena.kinds)) (front ++ u ∷ []) picks W.there)
        (λ k q. same k (inside k q)) (λ k v q r. W.cells.below.items k v r)
        (is_given (item_at x.next j)) (reads_item (item_at x.next j) (λ v q. (W.cells.below.items j v q).1))
        (W.cells.items front u rest e j n) in
        subst (λ ps. SaysHolds old i start y.next (front ++ u ∷ []) ps (is_given (item_at y.next j))) (sym fewer)
        (subst (λ o. SaysHolds old i start y.next (front ++ u ∷ []) (front_picks (front ++ u ∷ []) picks) (is_given o))
        (sym (same j (inside j (assigns_here front u j n)))) older)

    wrong_more : SaysMeets wrong_fault old i start y.next (zs ++ z ∷ []) all_picks (lit_value y.wrong)
    wrong_more =
        meets_more old g h i start env zs z m x y W gh S hi A before there wrong_fault x.wrong m.faults.wrong y.wrong W.cells.below.wrong
        S.faults_below.wrong A.wrong (λ f a q. q.wrong) W.cells.wrong y.next given_less

    big_more : SaysMeets big_fault old i start y.next (zs ++ z ∷ []) all_picks (lit_value y.big)
    big_more =
        meets_more old g h i start env zs z m x y W gh S hi A before there big_fault x.big m.faults.big y.big W.cells.below.big
        S.faults_below.big A.big (λ f a q. q.big) W.cells.big y.next given_less

    there_more : All (All (λ (id : CellId). id.index < length i.arena.kinds)) all_picks
    there_more =
        All-append (All (λ (id : CellId). id.index < length i.arena.kinds)) picks (own_picks z m.cells)
        (All-weaker (All (λ (id : CellId). id.index < length g.arena.kinds)) (All (λ (id : CellId). id.index < length i.arena.kinds))
        (λ ids t. All-weaker (λ (id : CellId). id.index < length g.arena.kinds) (λ (id : CellId). id.index < length i.arena.kinds)
        (λ id lt. let q = g_i.longer in omega arith) ids t) picks W.there)
        (own_there (All (λ (id : CellId). id.index < length i.arena.kinds)) z m.cells
        (All-weaker (λ (id : CellId). id.index < length h.arena.kinds) (λ (id : CellId). id.index < length i.arena.kinds)
        (λ id lt. let q = hi.longer in omega arith) m.cells S.there))

    older_below : (j : ℕ) (u : CellId × Lit) → item_at x.next j ≡ Some u → (u.0.index < length i.arena.kinds) × (u.1.var < i.formula.vars)
    older_below j u e =
        let b = W.cells.below.items j u e in
        (let lt = b.0 in let q = g_i.longer in omega arith, let lt = b.1 in let q = g_i.formula.vars in omega arith)

  -- ---- a step that gives its values

  module _ (one : OneEach z m.cells) (next : y.next ≡ items_past z m.cells y.holds x.next)
      (enough : (j : ℕ) → is_in (assigned_by z) j ≡ true → j < length x.next) where
    other : (j : ℕ) → is_in (assigned_by z) j ≡ false → item_at y.next j ≡ item_at x.next j
    other j e = ap (λ (xs : Items). item_at xs j) next ∙ item_other y.holds x.next z m.cells j e

    same_item : (j : ℕ) → assigns zs j ≡ true → item_at y.next j ≡ item_at x.next j
    same_item j e = other j (not_last j e)

    the_item : (j : ℕ) → is_in (assigned_by z) j ≡ true → Named y.holds x.next i.arena z m.cells j
    the_item j e = named_past y.holds x.next i.arena z m.cells j one e (enough j e)

    item_is : (j : ℕ) (e : is_in (assigned_by z) j ≡ true) → item_at y.next j ≡ Some ((the_item j e).cell, y.holds)
    item_is j e = ap (λ (xs : Items). item_at xs j) next ∙ (the_item j e).is

    gives_of : (a : List Bool) (t : State) → lit_value y.holds a ≡ true → Given i.arena a (zs ++ z ∷ []) y.next t → Gives i.arena a z m.cells t
    gives_of a t on q =
        gives_by i.arena a z m.cells t one
        (λ j id e r.
        let n = the_item j e in
        subst (λ d. Has t j (decode i.arena a d)) (first_same n.cell id m.cells n.among r)
        (q j (n.cell, y.holds) (assigns_here zs z j e) (item_is j e) on))

    given_more : (a : List Bool) (t : State) → Given i.arena a zs x.next t → Gives i.arena a z m.cells t → Given i.arena a (zs ++ z ∷ []) y.next t
    given_more a t q r = λ j u e v l. by j u v l (assigns_last zs z j e)
      where
        by : (j : ℕ) (u : CellId × Lit) → item_at y.next j ≡ Some u → lit_value u.1 a ≡ true →
            (assigns zs j ≡ true) ⊎ (is_in (assigned_by z) j ≡ true) → Has t j (decode i.arena a u.0)
        by j u v l (inl e) = q j u e (sym (same_item j e) ∙ v) l
        by j u v l (inr e) =
            let n = the_item j e in
            subst (λ (w : CellId × Lit). Has t j (decode i.arena a w.0)) (some_one (n.cell, y.holds) u (sym (item_is j e) ∙ v)) (n.value a t r)

    holds_more_at : SaysHolds old i start y.next (zs ++ z ∷ []) all_picks (lit_value y.holds)
    holds_more_at = record {
      sound = λ a p on sc s t st q.
          whole_sound old g h i start env zs z m x y W gh S hi A before there a p on sc s t st (given_less same_item a t q) (gives_of a t on q);
      reach = λ a n p sc s t st normal vss q.
          let r = whole_reach old g h i start env zs z m x y W gh S hi A before there a n p sc s t st normal vss q in
          record {
            more = r.more;
            long = r.long;
            satisfies = r.satisfies;
            holds = (r.holds.on, (r.holds.picks_are, given_more (a ++ r.more) t r.holds.given r.holds.gives));
          };
    }

    item_last : (front : List AssignedStep) (u : AssignedStep) → front ≡ zs → u ≡ z → (j : ℕ) → is_in (assigned_by u) j ≡ true →
        SaysHolds old i start y.next (front ++ u ∷ []) (front_picks (front ++ u ∷ []) all_picks) (is_given (item_at y.next j))
    item_last front u p q j e =
        let n : is_in (assigned_by z) j ≡ true = subst (λ v. is_in (assigned_by v) j ≡ true) q e in
        subst (λ l. SaysHolds old i start y.next (l ++ u ∷ []) (front_picks (l ++ u ∷ []) all_picks) (is_given (item_at y.next j))) (sym p)
        (subst (λ v. SaysHolds old i start y.next (zs ++ v ∷ []) (front_picks (zs ++ v ∷ []) all_picks) (is_given (item_at y.next j))) (sym q)
        (subst (λ ps. SaysHolds old i start y.next (zs ++ z ∷ []) ps (is_given (item_at y.next j)))
        (sym (front_all (zs ++ z ∷ []) all_picks (counted_more zs z picks m.cells W.counted)))
        (subst (λ o. SaysHolds old i start y.next (zs ++ z ∷ []) all_picks (is_given o)) (sym (item_is j n)) holds_more_at)))

    items_more : (front : List AssignedStep) (u : AssignedStep) (back : List AssignedStep) (j : ℕ) → is_in (assigned_by u) j ≡ true →
        Place zs z front u back →
        SaysHolds old i start y.next (front ++ u ∷ []) (front_picks (front ++ u ∷ []) all_picks) (is_given (item_at y.next j))
    items_more front u back j e (last p q) = item_last front u p q j e
    items_more front u back j e (earlier rest p) = item_earlier same_item front u rest p j e

    whole_more : (a : List Bool) → Satisfies a i.formula → lit_value y.holds a ≡ true → (j : ℕ) →
        (assigns zs j ≡ true) ⊎ (is_in (assigned_by z) j ≡ true) → HasItem a y.next j
    whole_more a p on j (inl e) =
        let r = W.cells.whole a (Satisfies-before g i a g_i p) (older_on old g h i start env zs z m x y W gh S hi A before there a p on) j e in
        (r.0, (same_item j e ∙ r.1.0, r.1.1))
    whole_more a p on j (inr e) = (((the_item j e).cell, y.holds), (item_is j e, on))

    below_more : (j : ℕ) (u : CellId × Lit) → item_at y.next j ≡ Some u → (b : Bool) → is_in (assigned_by z) j ≡ b →
        (u.0.index < length i.arena.kinds) × (u.1.var < i.formula.vars)
    below_more j u e true n =
        let r = the_item j n in
        let q : (r.cell, y.holds) ≡ u = some_one (r.cell, y.holds) u (sym (item_is j n) ∙ e) in
        let lt = All-head (λ (id : CellId). id.index < length h.arena.kinds) r.cell []
        (subst (λ ids. All (λ (id : CellId). id.index < length h.arena.kinds) ids) r.among S.there) in
        subst (λ (v : CellId × Lit). (v.0.index < length i.arena.kinds) × (v.1.var < i.formula.vars)) q
        (let k = hi.longer in omega arith, A.holds.below)
    below_more j u e false n = older_below same_item j u (sym (other j n) ∙ e)

    fits_more : (a : List Bool) → Satisfies a i.formula → lit_value y.holds a ≡ true → (sc : Scope) (s t : State) →
        Fits old.arena a start sc s t → Given i.arena a (zs ++ z ∷ []) y.next t →
        Fits i.arena a (env_past z m.cells env) (scope_after (zs ++ z ∷ []) (picked i.arena a all_picks) sc) s t
    fits_more a p on sc s t f q =
        let given₀ = given_older old g i start x.next x.next zs picks g_i W.there (λ j e. refl) (λ j v e r. W.cells.below.items j v r) a t
        (given_less same_item a t q) in
        let f₁ = W.fits a (Satisfies-before g i a g_i p) (older_on old g h i start env zs z m x y W gh S hi A before there a p on) sc s t f given₀ in
        let sc₁ = scope_after zs (picked g.arena a picks) sc in
        let f₂ = fits_onward g a i a (onward_same g i a g_i) env sc₁ s t there f₁ in
        let f₃ = fits_past i.arena a env sc₁ s t f₂ z m.cells one (gives_of a t on q) in
        let e : picked i.arena a all_picks ≡ picked g.arena a picks ++ own_picks z (map (decode i.arena a) m.cells) =
        picked_more i.arena a picks z m.cells
        ∙ ap (λ (us : List (List Value)). us ++ own_picks z (map (decode i.arena a) m.cells)) (picked_onward g a i a (onward_same g i a g_i) picks W.there) in
        subst (λ c. Fits i.arena a (env_past z m.cells env) c s t)
        (sym (ap (λ vss. scope_after (zs ++ z ∷ []) vss sc) e
        ∙ scope_more zs z (picked g.arena a picks) (map (decode i.arena a) m.cells) sc (counted_map (map (decode g.arena a)) zs picks W.counted))) f₃

    pub walk_more : Walk old i start (env_past z m.cells env) (zs ++ z ∷ []) y
    walk_more = record {
      grows = Grows-trans old g i W.grows g_i;
      cells = record {
        below = record {
          holds = A.holds.below;
          wrong = A.wrong.below;
          big = A.big.below;
          items = λ j u e. below_more j u e (is_in (assigned_by z) j) refl;
        };
        picks = all_picks;
        holds = holds_more_at;
        wrong = wrong_more same_item;
        big = big_more same_item;
        items = λ front u back e j n. items_more front u back j n (place_of zs z front u back e);
        whole = λ a p on j e. whole_more a p on j (assigns_last zs z j e);
        others = λ j e.
            let r = assigns_neither zs z j e in
            other j r.1 ∙ W.cells.others j r.0;
        kinds = λ a n p sc s t st normal. kinds_more old g h i start env zs z m x y W gh S hi A before there a n p sc s t st normal;
      };
      counted = counted_more zs z picks m.cells W.counted;
      there = there_more same_item;
      fits = fits_more;
    }

  -- ---- a step that never holds

  module _ (never : (a : List Bool) → Satisfies a i.formula → lit_value y.holds a ≡ false) (next : y.next ≡ x.next) where
    kept : (j : ℕ) → assigns zs j ≡ true → item_at y.next j ≡ item_at x.next j
    kept j e = ap (λ (xs : Items). item_at xs j) next

    no_reach : (a : List Bool) → length a ≡ old.formula.vars → Satisfies a old.formula → (sc : Scope) (s t : State) →
        Stands old start (zs ++ z ∷ []) a sc s t → AllNormal t → (vss : List (List Value)) →
        AssignedHolds (Some old.arena.width) s t (zs ++ z ∷ []) vss sc → ⊥
    no_reach a n p sc s t st normal vss q =
        let r = whole_reach old g h i start env zs z m x y W gh S hi A before there a n p sc s t st normal vss q in
        true_false (sym r.holds.on ∙ never (a ++ r.more) r.satisfies)

    item_none : (front : List AssignedStep) (u : AssignedStep) → front ≡ zs → u ≡ z → (j : ℕ) → is_in (assigned_by u) j ≡ true →
        SaysHolds old i start y.next (front ++ u ∷ []) (front_picks (front ++ u ∷ []) all_picks) (is_given (item_at y.next j))
    item_none front u p q j e =
        let n : is_in (assigned_by z) j ≡ true = subst (λ v. is_in (assigned_by v) j ≡ true) q e in
        let none : item_at y.next j ≡ None = ap (λ (xs : Items). item_at xs j) next ∙ W.cells.others j (fresh j n) in
        subst (λ o. SaysHolds old i start y.next (front ++ u ∷ []) (front_picks (front ++ u ∷ []) all_picks) (is_given o)) (sym none)
        (record {
          sound = λ a r on sc s t st given. absurd (true_false (sym on));
          reach = λ a l r sc s t st normal vss hold.
              absurd (no_reach a l r sc s t
              (subst (λ fs. Stands old start fs a sc s t) (ends p q) st) normal vss
              (subst (λ fs. AssignedHolds (Some old.arena.width) s t fs vss sc) (ends p q) hold));
        })
      where
        ends : front ≡ zs → u ≡ z → front ++ u ∷ [] ≡ zs ++ z ∷ []
        ends p q = ap₂ (λ (l : List AssignedStep) (v : AssignedStep). l ++ v ∷ []) p q

    items_none : (front : List AssignedStep) (u : AssignedStep) (back : List AssignedStep) (j : ℕ) → is_in (assigned_by u) j ≡ true →
        Place zs z front u back →
        SaysHolds old i start y.next (front ++ u ∷ []) (front_picks (front ++ u ∷ []) all_picks) (is_given (item_at y.next j))
    items_none front u back j e (last p q) = item_none front u p q j e
    items_none front u back j e (earlier rest p) = item_earlier kept front u rest p j e

    pub walk_never : (after : CellEnv) → Walk old i start after (zs ++ z ∷ []) y
    walk_never after = record {
      grows = Grows-trans old g i W.grows g_i;
      cells = record {
        below = record {
          holds = A.holds.below;
          wrong = A.wrong.below;
          big = A.big.below;
          items = λ j u e. older_below kept j u (sym (ap (λ (xs : Items). item_at xs j) next) ∙ e);
        };
        picks = all_picks;
        holds = record {
          sound = λ a p on sc s t st q. absurd (true_false (sym on ∙ never a p));
          reach = λ a n p sc s t st normal vss q. absurd (no_reach a n p sc s t st normal vss q);
        };
        wrong = wrong_more kept;
        big = big_more kept;
        items = λ front u back e j n. items_none front u back j n (place_of zs z front u back e);
        whole = λ a p on j e. absurd (true_false (sym on ∙ never a p));
        others = λ j e. ap (λ (xs : Items). item_at xs j) next ∙ W.cells.others j (assigns_neither zs z j e).0;
        kinds = λ a n p sc s t st normal. kinds_more old g h i start env zs z m x y W gh S hi A before there a n p sc s t st normal;
      };
      counted = counted_more zs z picks m.cells W.counted;
      there = there_more kept;
      fits = λ a p on sc s t f q. absurd (true_false (sym on ∙ never a p));
    }
