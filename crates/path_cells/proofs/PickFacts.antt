-- Picks: what their cells say of the step.
use Rattle.std.proofs.Common.{◌≡◌, ℕ, ◌<◌, Bool, true, false, IsTrue, List, [], ◌∷◌, ◌++◌, map, length, All, refl, sym, ◌∙◌, ap, ap₂, subst, arith}
use Rattle.std.specs.Prelude.{Option, Some, None, option_and_then, option_map}
use Rattle.std.specs.List.{list_all}
use Rattle.std.proofs.lemmas.List.{length-map}
use Rattle.std.proofs.lemmas.List.Elements.{All-cons, All-nil}
use Rattle.sat_formula.specs.declared.lit.Lit.{Lit}
use Rattle.sat_formula.specs.Formula.{Satisfies}
use Rattle.sat_formula.specs.Lit.{IsBelow, lit_value}
use Rattle.tla_values.specs.Sets.{elements}
use Rattle.tla_values.specs.declared.value.Value.{Value}
use Rattle.tla_meaning.specs.declared.job.State.{State}
use Rattle.tla_meaning.specs.declared.outcome.Fault.TheVariants.{NoFault}
use Rattle.tla_meaning.specs.Numbers.{Width}
use Rattle.tla_meaning.specs.Outcomes.{joined, values}
use Rattle.tla_meaning.specs.Scopes.{Scope}
use Rattle.tla_meaning.specs.Shapes.{all_set_items}
use Rattle.cell_arena.specs.declared.build.Build.{Build}
use Rattle.cell_arena.specs.declared.kinds.CellId.{CellId}
use Rattle.cell_arena.specs.Decode.{decode}
use Rattle.cell_arena.specs.Growth.{Grows}
use Rattle.cell_arena.proofs.Growing.{Grows-trans, Satisfies-before}
use Rattle.cell_merge.specs.Picks.{IsSetCell}
use Rattle.cell_merge.specs.Sorts.{Sort, set_of}
use Rattle.cell_merge.proofs.Edges.{sort-there}
use Rattle.kernel_trees.specs.declared.kernel.Ker.{Ker}
use Rattle.kernel_trees.specs.declared.path.AssignedStep.TheVariants as mark
use Rattle.kernel_trees.specs.Assignments.{is_there}
use Rattle.kernel_trees.specs.Paths.{sets}
use Rattle.kernel_trees.specs.Picks.{AreIn, Picked, set_outcomes}
use Rattle.kernel_trees.specs.Sound.{kind_at, picked_kinds}
use Rattle.kernel_trees.specs.TypeKinds.{Kind, Truth, Number, Word, Set, Seq, Fun, Tup, Rec, all_there, members}
use Rattle.kernel_ranges.specs.Ranges.{is_within}
use Rattle.outcome_cells.specs.declared.cells.Cells.{Cells}
use Rattle.outcome_cells.specs.declared.cells.Faults.{Faults}
use Rattle.outcome_cells.specs.Joins.{JoinsOperands}
use Rattle.outcome_cells.specs.Shows.{AllCells, AllShow}
use Rattle.outcome_cells.proofs.Operands.{values_shown}
use Rattle.typed_cells.specs.KindSorts.{OfSorts, sort_of}
use Rattle.expr_rewriter.specs.declared.cell_env.CellEnv.{CellEnv}
use Rattle.expr_rewriter.specs.Environments.{AreThere, Fits}
use Rattle.expr_rewriter.specs.inner.Parts.{AreTrees}
use Rattle.expr_rewriter.proofs.Steps.{trees_later}
use Rattle.path_walks.specs.Paths.{GoesOn}
use Rattle.path_walks.specs.inner.Walks.{IsStep, all_true}
use Rattle.path_walks.proofs.Onward.{Onward, fits_onward, go_further, goes_on, onward_longer, onward_same}
use Rattle.path_cells.specs.inner.Steps.{CanPick, HasNoChoice, IsStepCells, PicksEach, no_choice, the_bottom}
use Rattle.path_cells.proofs.Shown.{never_all, no_fault, sets_decoded, trees_shown, true_false}

some_one : {X : Type 0} (x y : X) → Some x ≡ Some y → x ≡ y
some_one x y e = cc

-- ---- the sorts of the sets

pub record FirstKind (o : Option Kind) (os : List (Option Kind)) (ms : List Kind) : Type 0 where
  pub member : Kind
  pub rest : List Kind
  pub first : o ≡ Some (Set member)
  pub others : option_and_then members (all_there os) ≡ Some rest
  pub all : ms ≡ member ∷ rest

no_set : (a : Kind) (q : Option (List Kind)) (ms : List Kind) → ((as' : List Kind) → members (a ∷ as') ≡ None) →
    option_and_then members (option_map (λ xs. a ∷ xs) q) ≡ Some ms → ⊥
no_set a None ms h e = absurd (cc)
no_set a (Some as') ms h e = absurd (none_some (sym (h as') ∙ e))
  where
    none_some : None ≡ Some ms → ⊥
    none_some e = cc

first_kind : (o : Option Kind) (os : List (Option Kind)) (ms : List Kind) → option_and_then members (all_there (o ∷ os)) ≡ Some ms → FirstKind o os ms
first_kind None os ms e = absurd (cc)
first_kind (Some Truth) os ms e = absurd (no_set Truth (all_there os) ms (λ as'. refl) e)
first_kind (Some Number) os ms e = absurd (no_set Number (all_there os) ms (λ as'. refl) e)
first_kind (Some (Word x)) os ms e = absurd (no_set (Word x) (all_there os) ms (λ as'. refl) e)
first_kind (Some (Seq a)) os ms e = absurd (no_set (Seq a) (all_there os) ms (λ as'. refl) e)
first_kind (Some (Fun a b)) os ms e = absurd (no_set (Fun a b) (all_there os) ms (λ as'. refl) e)
first_kind (Some (Tup as')) os ms e = absurd (no_set (Tup as') (all_there os) ms (λ bs. refl) e)
first_kind (Some (Rec fs)) os ms e = absurd (no_set (Rec fs) (all_there os) ms (λ bs. refl) e)
first_kind (Some (Set m)) os ms e = by (all_there os) refl e
  where
    at : (as' : List Kind) → all_there os ≡ Some as' → (r : Option (List Kind)) → members as' ≡ r → option_map (λ bs. m ∷ bs) r ≡ Some ms →
        FirstKind (Some (Set m)) os ms
    at as' q None p e = absurd (cc)
    at as' q (Some bs) p e = record {
      member = m;
      rest = bs;
      first = refl;
      others = ap (option_and_then members) q ∙ p;
      all = sym (some_one (m ∷ bs) ms e);
    }

    by : (q : Option (List Kind)) → all_there os ≡ q → option_and_then members (option_map (λ xs. Set m ∷ xs) q) ≡ Some ms → FirstKind (Some (Set m)) os ms
    by None q e = absurd (cc)
    by (Some as') q e = at as' q (members as') refl e

abbrev pub set_sorts : List Kind → List Sort
set_sorts ms = map set_of (map sort_of ms)

pub set_cells : (h : Build) (env : CellEnv) (ps : List (ℕ × Ker)) (xs : List Cells) (ms : List Kind) → AreTrees h env (sets ps) xs →
    picked_kinds ps ≡ Some ms → AllCells h (set_sorts ms) xs
set_cells h env [] [] ms t e = subst (λ ms. AllCells h (set_sorts ms) []) (some_one [] ms e) tt
set_cells h env [] (x ∷ xs) ms t e = absurd t
set_cells h env (p ∷ ps) [] ms t e = absurd t
set_cells h env (p ∷ ps) (x ∷ xs) ms t e =
    let f = first_kind (kind_at p.1) (map (λ (p : ℕ × Ker). kind_at p.1) ps) ms e in
    subst (λ ms. AllCells h (set_sorts ms) (x ∷ xs)) (sym f.all)
    (t.0.sort (Set f.member) f.first, set_cells h env ps xs f.rest t.1 f.others)

pub cell_sorts : (h : Build) (ss : List Sort) (xs : List Cells) → AllCells h ss xs → OfSorts h.arena.kinds ss (map (λ x. x.cell) xs)
cell_sorts h [] [] c = tt
cell_sorts h [] (x ∷ xs) c = absurd c
cell_sorts h (s ∷ ss) [] c = absurd c
cell_sorts h (s ∷ ss) (x ∷ xs) c = (c.0.sort, cell_sorts h ss xs c.1)

pub are_sets : (h : Build) (ms : List Kind) (xs : List Cells) → AllCells h (set_sorts ms) xs → All (λ (x : Cells). IsSetCell h x.cell) xs
are_sets h [] [] c = All-nil (λ (x : Cells). IsSetCell h x.cell)
are_sets h [] (x ∷ xs) c = absurd c
are_sets h (m ∷ ms) [] c = absurd c
are_sets h (m ∷ ms) (x ∷ xs) c =
    All-cons (λ (x : Cells). IsSetCell h x.cell) x xs (record { sort = sort_of m; is = c.0.sort }) (are_sets h ms xs c.1)

trees_count : (h : Build) (env : CellEnv) (ks : List Ker) (xs : List Cells) → AreTrees h env ks xs → length xs ≡ length ks
trees_count h env [] [] t = refl
trees_count h env [] (x ∷ xs) t = absurd t
trees_count h env (k ∷ ks) [] t = absurd t
trees_count h env (k ∷ ks) (x ∷ xs) t = let e = trees_count h env ks xs t.1 in omega arith

map_map : (f : CellId → Value) (xs : List Cells) → map (λ (x : Cells). f x.cell) xs ≡ map f (map (λ x. x.cell) xs)
map_map f [] = refl
map_map f (x ∷ xs) = ap (λ l. f x.cell ∷ l) (map_map f xs)

-- ---- the sets

module _ (g h : Build) (env : CellEnv) (ps : List (ℕ × Ker)) (xs : List Cells) (faults : Faults) (gr : Grows g h) (can : CanPick g ps env)
    (trees : AreTrees h env (sets ps) xs) (joins : JoinsOperands h.formula xs faults) (there : AreThere (length g.arena.kinds) env) where
  abbrev w : Width
  w = Some g.arena.width

  abbrev ids : List CellId
  ids = map (λ (x : Cells). x.cell) xs

  abbrev members_at : Build → List Bool → List (List Value)
  members_at b a = map (λ id. elements (decode b.arena a id)) ids

  sorts_at : OfSorts h.arena.kinds (set_sorts can.members) ids
  sorts_at = cell_sorts h (set_sorts can.members) xs (set_cells h env ps xs can.members trees can.are)

  -- at a later build
  module _ (i : Build) (hi : Grows h i) where
    later : AreTrees i env (sets ps) xs
    later = trees_later g h i env (sets ps) xs can.can gr hi trees

    gi : Grows g i
    gi = Grows-trans g h i gr hi

    all_shown : (a : List Bool) → Satisfies a i.formula → (sc : Scope) (s t : State) → Fits i.arena a env sc s t →
        IsTrue (list_all (λ k. is_within w k sc s t) (sets ps)) → AllShow i.arena a xs (set_outcomes w s t ps sc)
    all_shown a p sc s t f j = trees_shown g i env (sets ps) xs gi later a p sc s t f j

    sets_are : (a : List Bool) → Satisfies a i.formula → (sc : Scope) (s t : State) → Fits i.arena a env sc s t →
        IsTrue (list_all (λ k. is_within w k sc s t) (sets ps)) → joined (set_outcomes w s t ps sc) ≡ NoFault →
        all_set_items (values (set_outcomes w s t ps sc)) ≡ Some (members_at i a)
    sets_are a p sc s t f j none =
        ap all_set_items (values_shown i.arena a xs (set_outcomes w s t ps sc) (all_shown a p sc s t f j) none)
        ∙ ap all_set_items (map_map (decode i.arena a) xs)
        ∙ sets_decoded i a (map sort_of can.members) ids (cell_sorts i (set_sorts can.members) xs (set_cells i env ps xs can.members later can.are))

    members_same : (a b : List Bool) → Onward h a i b → members_at i b ≡ members_at h a
    members_same a b o = by (map sort_of can.members) ids sorts_at
      where
        by : (ss : List Sort) (ys : List CellId) → OfSorts h.arena.kinds (map set_of ss) ys →
            map (λ id. elements (decode i.arena b id)) ys ≡ map (λ id. elements (decode h.arena a id)) ys
        by [] [] q = refl
        by [] (y ∷ ys) q = absurd q
        by (s ∷ ss) [] q = absurd q
        by (s ∷ ss) (y ∷ ys) q =
            ap₂ (λ (v : List Value) (vs : List (List Value)). v ∷ vs) (ap elements (o.decodes y (sort-there h.arena.kinds (set_of s) y q.0))) (by ss ys q.1)

    -- ---- a choice from each

    module _ (cells : List CellId) (ls : List Lit) (P : PicksEach h i ids cells ls) where
      pick_step : IsStep w g i env (mark.Pick ps) (record { faults = faults; choices = ls; cells = cells })
      pick_step = record {
        faults_below = record {
          wrong = let v = hi.formula.vars in let u = joins.below.wrong in omega arith;
          big = let v = hi.formula.vars in let u = joins.below.big in omega arith;
        };
        choices_below = P.below;
        there = P.there;
        shows = λ a p sc s t f j.
            (joins.shows a (Satisfies-before h i a hi p) i.arena (set_outcomes w s t ps sc) (all_shown a p sc s t f j)).shown;
        sound = λ a p on nw nb sc s t f j gives.
            let fault = (joins.shows a (Satisfies-before h i a hi p) i.arena (set_outcomes w s t ps sc) (all_shown a p sc s t f j)).shown in
            let none = no_fault (lit_value faults.wrong a) (lit_value faults.big a) (joined (set_outcomes w s t ps sc)) fault nw nb in
            record {
              members = members_at i a;
              sound = none;
              are_sets = sets_are a p sc s t f j none;
              are_in = subst (AreIn (map (decode i.arena a) cells)) (sym (members_same a a (onward_same h i a hi))) (P.sound a p on);
            };
        reach = λ a n p sc s t f j normal vs takes. pick_reach a n p sc s t f j vs takes;
        kind = λ a p sc s t f j none. ap is_there (sets_are a p sc s t f j none);
      }
        where
          pick_reach : (a : List Bool) → length a ≡ g.formula.vars → Satisfies a g.formula → (sc : Scope) (s t : State) → Fits g.arena a env sc s t →
              IsTrue (list_all (λ k. is_within w k sc s t) (sets ps)) → (vs : List Value) → Picked (set_outcomes w s t ps sc) vs →
              GoesOn i.formula a (λ b. (all_true ls b ≡ true) × ((map (decode i.arena b) cells ∷ [] ≡ vs ∷ []) × Unit {0}))
          pick_reach a n p sc s t f j vs takes =
              let q = goes_on g.formula h.formula a gr.formula n p in
              let b = a ++ q.more in
              let fb = fits_onward g a h b (onward_longer g h a q.more gr n) env sc s t there f in
              let known = sets_here b q.satisfies sc s t fb j takes.sound in
              let same = some_one takes.members (members_at h b) (sym takes.are_sets ∙ known) in
              let r = P.each b q.long q.satisfies vs (subst (AreIn vs) same takes.are_in) in
              go_further h.formula i.formula a (λ b. Unit {0})
              (λ b. (all_true ls b ≡ true) × ((map (decode i.arena b) cells ∷ [] ≡ vs ∷ []) × Unit {0})) q
              (record {
                more = r.more;
                long = r.long;
                satisfies = r.satisfies;
                holds = (r.holds.0, (ap (λ l. l ∷ []) r.holds.1, tt));
              })
            where
              sets_here : (b : List Bool) → Satisfies b h.formula → (sc : Scope) (s t : State) → Fits h.arena b env sc s t →
                  IsTrue (list_all (λ k. is_within w k sc s t) (sets ps)) → joined (set_outcomes w s t ps sc) ≡ NoFault →
                  all_set_items (values (set_outcomes w s t ps sc)) ≡ Some (members_at h b)
              sets_here b p sc s t f j none =
                  ap all_set_items (values_shown h.arena b xs (set_outcomes w s t ps sc) (trees_shown g h env (sets ps) xs gr trees b p sc s t f j) none)
                  ∙ ap all_set_items (map_map (decode h.arena b) xs)
                  ∙ sets_decoded h b (map sort_of can.members) ids sorts_at

      pub pick_cells : IsStepCells g i env (mark.Pick ps) (record { faults = faults; choices = ls; cells = cells })
      pick_cells = record {
        step = pick_step;
        gives = record {
          one = λ e.
              P.count ∙ length-map xs (λ (x : Cells). x.cell) ∙ trees_count h env (sets ps) xs trees ∙ length-map ps (λ (x : ℕ × Ker). x.1);
          sorts = λ e ms q. P.sorts (map sort_of ms) (cell_sorts h (set_sorts ms) xs (set_cells h env ps xs ms trees q));
        };
      }

    -- ---- where a set is always empty

    module _ (none : HasNoChoice h ids) (forced : (a : List Bool) → Satisfies a i.formula → lit_value (record { var = 0; neg = false }) a ≡ true)
        (some : 0 < i.formula.vars) where
      never_step : IsStep w g i env (mark.Pick ps) (no_choice faults)
      never_step = record {
        faults_below = record {
          wrong = let v = hi.formula.vars in let u = joins.below.wrong in omega arith;
          big = let v = hi.formula.vars in let u = joins.below.big in omega arith;
        };
        choices_below = All-cons (IsBelow i.formula.vars) the_bottom [] some (All-nil (IsBelow i.formula.vars));
        there = All-nil (λ (id : CellId). id.index < length i.arena.kinds);
        shows = λ a p sc s t f j.
            (joins.shows a (Satisfies-before h i a hi p) i.arena (set_outcomes w s t ps sc) (all_shown a p sc s t f j)).shown;
        sound = λ a p on nw nb sc s t f j gives. absurd (true_false (sym on ∙ never_all (the_bottom ∷ []) a refl (forced a p)));
        reach = λ a n p sc s t f j normal vs takes.
            let q = goes_on g.formula i.formula a gi.formula n p in
            let b = a ++ q.more in
            let fb = fits_onward g a i b (onward_longer g i a q.more gi n) env sc s t there f in
            let known = sets_are b q.satisfies sc s t fb j takes.sound in
            let same = some_one takes.members (members_at i b) (sym takes.are_sets ∙ known) in
            absurd (none b vs (subst (AreIn vs) (same ∙ members_same b b (onward_same h i b hi)) takes.are_in));
        kind = λ a p sc s t f j none. ap is_there (sets_are a p sc s t f j none);
      }

      pub never_cells : IsStepCells g i env (mark.Pick ps) (no_choice faults)
      never_cells = record { step = never_step; gives = record { one = λ e. absurd (true_false e); sorts = λ e. absurd (true_false e) } }
