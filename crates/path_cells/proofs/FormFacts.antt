-- Members of forms: what their cells say of the step.
use Rattle.std.proofs.Common.{◌≡◌, ℕ, ◌<◌, Bool, true, false, ◌&&◌, IsTrue, List, [], ◌∷◌, ◌++◌, length, All, refl, sym, ◌∙◌, ap, subst, arith}
use Rattle.std.specs.Prelude.{Some}
use Rattle.std.specs.List.{list_all}
use Rattle.std.proofs.lemmas.List.Elements.{All-cons, All-head, All-nil}
use Rattle.sat_formula.specs.declared.lit.Lit.{Lit}
use Rattle.sat_formula.specs.Formula.{Satisfies}
use Rattle.sat_formula.specs.Lit.{IsBelow, lit_value}
use Rattle.tla_values.specs.Sets.{Normal}
use Rattle.tla_values.specs.declared.value.Value.{Value}
use Rattle.tla_meaning.specs.declared.job.State.{State}
use Rattle.tla_meaning.specs.declared.forms.SetForm.{SetForm}
use Rattle.tla_meaning.specs.declared.outcome.Fault.TheVariants.{NoFault, IsWrong, IsBig}
use Rattle.tla_meaning.specs.Forms.{Broken, Formed, Made, belongs, form_fault, is_set_form}
use Rattle.tla_meaning.specs.Numbers.{Width}
use Rattle.tla_meaning.specs.Scopes.{Scope}
use Rattle.cell_arena.specs.declared.build.Build.{Build}
use Rattle.cell_arena.specs.declared.kinds.CellId.{CellId}
use Rattle.cell_arena.specs.Decode.{decode}
use Rattle.cell_arena.specs.Growth.{Grows}
use Rattle.cell_arena.proofs.Growing.{Grows-trans, Satisfies-before}
use Rattle.cell_merge.specs.Sorts.{OfSort}
use Rattle.cell_merge.proofs.Edges.{sort-there}
use Rattle.kernel_trees.specs.declared.kernel.Ker.{Ker}
use Rattle.kernel_trees.specs.declared.path.AssignedStep.TheVariants as mark
use Rattle.kernel_trees.specs.Assignments.{Has, HasMember, IsSetForm}
use Rattle.kernel_trees.specs.Sound.{is_finite as is_finite_tree}
use Rattle.kernel_trees.specs.Trees.{ker_form}
use Rattle.kernel_ranges.specs.Ranges.{is_within}
use Rattle.outcome_cells.specs.declared.cells.Faults.{Faults}
use Rattle.outcome_cells.specs.Shown.{ShownFault}
use Rattle.outcome_cells.proofs.Later.{width-later}
use Rattle.typed_cells.specs.KindSorts.{sort_of}
use Rattle.form_cells.specs.declared.form.FormCells.{FormCells}
use Rattle.form_cells.specs.FormSorts.{IsFormOf}
use Rattle.form_cells.specs.FormValues.{ShownForm, ShowsForm, form_value}
use Rattle.form_cells.proofs.FormsLater.{is-set-form}
use Rattle.form_choices.specs.FiniteForms.{is_finite}
use Rattle.form_choices.specs.FormPicks.{HasMemberSort, HasNoMember, IsMember, PicksMember}
use Rattle.expr_rewriter.specs.declared.cell_env.CellEnv.{CellEnv}
use Rattle.expr_rewriter.specs.Environments.{AreThere, Fits}
use Rattle.expr_rewriter.specs.Forming.{HasFormSort, RewritesForm}
use Rattle.expr_rewriter.proofs.Fitting.{Fits-before}
use Rattle.expr_rewriter.proofs.FormMeanings.{Honest, form-honest}
use Rattle.path_walks.specs.inner.Walks.{IsStep, all_true}
use Rattle.path_walks.proofs.Onward.{fits_onward, go_further, goes_on, onward_longer}
use Rattle.path_cells.specs.inner.Steps.{CanTakeMember, IsStepCells, no_choice, the_bottom}
use Rattle.path_cells.proofs.Shown.{never_all, no_fault, true_false}

and_true : (p : Bool) → (p && true) ≡ true → p ≡ true
and_true true e = refl
and_true false e = absurd (true_false (sym e))

and_one : (p : Bool) → p ≡ true → (p && true) ≡ true
and_one true e = refl
and_one false e = absurd (true_false (sym e))

-- a form without a fault is made
made_of : (w b : Bool) (f : SetForm) (o : Formed) → ShownForm w b f o → Honest o → form_fault o ≡ NoFault → o ≡ Made f
made_of w b f (Made g) h n e = ap Made (sym (h.form g refl))
made_of w b f (Broken NoFault) h n e = absurd n
made_of w b f (Broken (IsWrong p)) h n e = absurd (cc)
made_of w b f (Broken (IsBig p)) h n e = absurd (cc)

set_form_of : (f : SetForm) (o : Formed) → ((g : SetForm) → o ≡ Made g → f ≡ g) → Honest o → is_set_form f ≡ true → IsSetForm o
set_form_of f (Made g) h n e = subst (λ g. is_set_form g ≡ true) (h g refl) e
set_form_of f (Broken NoFault) h n e = absurd n
set_form_of f (Broken (IsWrong p)) h n e = tt
set_form_of f (Broken (IsBig p)) h n e = tt

module _ (g h : Build) (env : CellEnv) (e : Ker) (x : FormCells) (gr : Grows g h) (can : CanTakeMember g e env) (sort : HasFormSort h e x)
    (rewrites : RewritesForm h e env x) (there : AreThere (length g.arena.kinds) env) (there_h : AreThere (length h.arena.kinds) env)
    (finite : (w : Width) (k : Ker) (sc : Scope) (s t : State) (f : SetForm) → IsTrue (is_finite_tree k) → ker_form w k sc s t ≡ Made f → is_finite f ≡ true) where
  abbrev w : Width
  w = Some g.arena.width

  form_sort : IsFormOf h.arena.kinds (sort_of can.member) x.form
  form_sort = (sort can.member can.is).form

  pub member_sort : HasMemberSort h.arena.kinds x.form
  member_sort = record { sort = sort_of can.member; is = form_sort }

  shown_at : (a : List Bool) → Satisfies a h.formula → (sc : Scope) (s t : State) → Fits h.arena a env sc s t →
      list_all (λ k. is_within w k sc s t) (e ∷ []) ≡ true → ShowsForm h.arena a x (ker_form w e sc s t)
  shown_at a p sc s t f i =
      subst (λ n. IsTrue (is_within (Some n) e sc s t) → ShowsForm h.arena a x (ker_form (Some n) e sc s t)) (width-later g h gr)
      (rewrites.shows a p sc s t f) (and_true (is_within w e sc s t) i)

  honest : (sc : Scope) (s t : State) → Honest (ker_form w e sc s t)
  honest sc s t = form-honest w s t e sc

  -- at a later build
  module _ (i : Build) (hi : Grows h i) where
    gi : Grows g i
    gi = Grows-trans g h i gr hi

    abbrev faults : Faults
    faults = record { wrong = x.wrong; big = x.big }

    shown_later : (a : List Bool) → Satisfies a i.formula → (sc : Scope) (s t : State) → Fits i.arena a env sc s t →
        list_all (λ k. is_within w k sc s t) (e ∷ []) ≡ true → ShowsForm h.arena a x (ker_form w e sc s t)
    shown_later a p sc s t f j = shown_at a (Satisfies-before h i a hi p) sc s t (Fits-before h i a env sc s t hi there_h f) j

    fault_at : (a : List Bool) → Satisfies a i.formula → (sc : Scope) (s t : State) → Fits i.arena a env sc s t →
        list_all (λ k. is_within w k sc s t) (e ∷ []) ≡ true → ShownFault (lit_value x.wrong a) (lit_value x.big a) (form_fault (ker_form w e sc s t))
    fault_at a p sc s t f j = let h = (shown_later a p sc s t f j).shown in record { wrong = h.wrong; big = h.big }

    kind_at_all : (a : List Bool) → Satisfies a i.formula → (sc : Scope) (s t : State) → Fits i.arena a env sc s t →
        list_all (λ k. is_within w k sc s t) (e ∷ []) ≡ true → IsSetForm (ker_form w e sc s t)
    kind_at_all a p sc s t f j =
        set_form_of (form_value h.arena a x.form) (ker_form w e sc s t) (shown_later a p sc s t f j).shown.form (honest sc s t)
        (is-set-form h.arena a h.built (sort_of can.member) x.form form_sort)

    wrong_below : x.wrong.var < i.formula.vars
    wrong_below = let v = hi.formula.vars in let u = (sort can.member can.is).wrong in omega arith

    big_below : x.big.var < i.formula.vars
    big_below = let v = hi.formula.vars in let u = (sort can.member can.is).big in omega arith

    -- what a member of the form is
    member_at : (b : List Bool) → Satisfies b h.formula → (sc : Scope) (s t : State) → Fits h.arena b env sc s t →
        list_all (λ k. is_within w k sc s t) (e ∷ []) ≡ true → ((j : ℕ) (v : Value) → Has t j v → Normal v) → (j : ℕ) (m : HasMember t j (ker_form w e sc s t)) →
        IsMember (form_value h.arena b x.form) m.value
    member_at b p sc s t f i normal j m =
        let same = (shown_at b p sc s t f i).shown.form m.form m.made in
        record {
          finite = subst (λ f. is_finite f ≡ true) (sym same) (finite w e sc s t m.form can.finite m.made);
          normal = normal j m.value m.has;
          belongs = subst (λ f. belongs f m.value ≡ true) (sym same) m.belongs;
        }

    module _ (j : ℕ) (r : CellId × Lit) (P : PicksMember h i x.form r) where
      among_step : IsStep w g i env (mark.Among j e) (record { faults = faults; choices = r.1 ∷ []; cells = r.0 ∷ [] })
      among_step = record {
        faults_below = record { wrong = wrong_below; big = big_below };
        choices_below = All-cons (IsBelow i.formula.vars) r.1 [] P.below (All-nil (IsBelow i.formula.vars));
        there = All-cons (λ (id : CellId). id.index < length i.arena.kinds) r.0 []
            (sort-there i.arena.kinds (sort_of can.member) r.0 (P.sort (sort_of can.member) form_sort)) (All-nil (λ (id : CellId). id.index < length i.arena.kinds));
        shows = fault_at;
        sound = λ a p on nw nb sc s t f k gives.
            let none = no_fault (lit_value x.wrong a) (lit_value x.big a) (form_fault (ker_form w e sc s t)) (fault_at a p sc s t f k) nw nb in
            record {
              form = form_value h.arena a x.form;
              made = made_of (lit_value x.wrong a) (lit_value x.big a) (form_value h.arena a x.form) (ker_form w e sc s t)
                  (shown_later a p sc s t f k).shown (honest sc s t) none;
              set = is-set-form h.arena a h.built (sort_of can.member) x.form form_sort;
              value = decode i.arena a r.0;
              has = All-head (λ id. Has t j (decode i.arena a id)) r.0 [] gives;
              belongs = P.sound a p (and_true (lit_value r.1 a) on);
            };
        reach = λ a n p sc s t f k normal vs takes.
            let q = goes_on g.formula h.formula a gr.formula n p in
            let b = a ++ q.more in
            let fb = fits_onward g a h b (onward_longer g h a q.more gr n) env sc s t there f in
            let u = P.complete b q.long q.satisfies takes.value (member_at b q.satisfies sc s t fb k normal j takes) in
            let c = b ++ u.more in
            go_further h.formula i.formula a (λ b. Unit {0})
            (λ b. (all_true (r.1 ∷ []) b ≡ true) × (([] ≡ []) × All (λ id. Has t j (decode i.arena b id)) (r.0 ∷ []))) q
            (record {
              more = u.more;
              long = u.long;
              satisfies = u.satisfies;
              holds = (
                and_one (lit_value r.1 c) u.literal,
                (
                  refl,
                  All-cons (λ id. Has t j (decode i.arena c id)) r.0 [] (subst (Has t j) (sym u.decodes) takes.has) (All-nil (λ id. Has t j (decode i.arena c id))),
                ),
              );
            });
        kind = kind_at_all;
      }

      pub among_cells : IsStepCells g i env (mark.Among j e) (record { faults = faults; choices = r.1 ∷ []; cells = r.0 ∷ [] })
      among_cells = record {
        step = among_step;
        gives = record {
          one = λ q. refl;
          sorts = λ q a k. All-cons (OfSort i.arena.kinds (sort_of a)) r.0 [] (P.sort (sort_of a) (sort a k).form) (All-nil (OfSort i.arena.kinds (sort_of a)));
        };
      }

    module _ (j : ℕ) (none : HasNoMember h x.form) (forced : (a : List Bool) → Satisfies a i.formula → lit_value (record { var = 0; neg = false }) a ≡ true)
        (some : 0 < i.formula.vars) where
      never_step : IsStep w g i env (mark.Among j e) (no_choice faults)
      never_step = record {
        faults_below = record { wrong = wrong_below; big = big_below };
        choices_below = All-cons (IsBelow i.formula.vars) the_bottom [] some (All-nil (IsBelow i.formula.vars));
        there = All-nil (λ (id : CellId). id.index < length i.arena.kinds);
        shows = fault_at;
        sound = λ a p on nw nb sc s t f k gives. absurd (true_false (sym on ∙ never_all (the_bottom ∷ []) a refl (forced a p)));
        reach = λ a n p sc s t f k normal vs takes.
            let q = goes_on g.formula h.formula a gr.formula n p in
            let b = a ++ q.more in
            let fb = fits_onward g a h b (onward_longer g h a q.more gr n) env sc s t there f in
            absurd (none b takes.value (member_at b q.satisfies sc s t fb k normal j takes));
        kind = kind_at_all;
      }

      pub no_member_cells : IsStepCells g i env (mark.Among j e) (no_choice faults)
      no_member_cells = record { step = never_step; gives = record { one = λ q. absurd (true_false q); sorts = λ q. absurd (true_false q) } }
