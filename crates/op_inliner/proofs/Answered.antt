-- What is answered means what the module says, and nothing is left in it.
use Rattle.std.proofs.Common.{◌≡◌, ℕ, Bool, true, false, IsTrue, List, [], ◌∷◌, ◌++◌, map, nat_lt, refl, ap, ◌∙◌, sym, subst, Option, Some, None, if◌then◌else◌}
use Rattle.std.specs.List.{list_all}
use Rattle.tla_meaning.specs.declared.expr.Expr.{Expr, roll-Expr}
use Rattle.tla_meaning.specs.declared.expr.Expr.TheOpen.{Expr-F}
use Rattle.tla_meaning.specs.declared.expr.Expr.TheFolds.{fold-roll-Expr, map-Expr, ind-Expr}
use Rattle.tla_meaning.specs.declared.job.Job.{Job}
use Rattle.tla_meaning.specs.declared.modules.Flat.{Flat}
use Rattle.tla_meaning.specs.declared.op.Form.{Form}
use Rattle.tla_meaning.specs.declared.op.Op.{Op}
use Rattle.tla_meaning.specs.declared.op.Op.TheVariants as op
use Rattle.tla_meaning.specs.declared.place.Place.{Place}
use Rattle.tla_meaning.specs.Scopes.{find_last}
use Rattle.tla_meaning.specs.Substitution.{each}
use Rattle.op_inliner.specs.declared.parts.InlineFault.TheVariants.{NoOperator, TooDeep, TooLarge}
use Rattle.op_inliner.specs.declared.parts.PartKind.{PartKind}
use Rattle.op_inliner.specs.declared.parts.PartKind.TheVariants.{Constants, Start, Step, Inv}
use Rattle.op_inliner.specs.Answers.{Answer, Gives, Refuses, assume_answer, checked, cinit_answer, depth, expand_answer, forms, invs_answer, job_answer, own_form, size, then_with, up_to, without_forms}
use Rattle.op_inliner.specs.Expanded.{is_expanded, is_expanded_op}
use Rattle.op_inliner.specs.Expansion.{assumptions_expanded, expansion, first_place}
use Rattle.op_inliner.specs.Inlining.{written_of}
use Rattle.op_inliner.specs.Known.{are_known, arities_of, definitions_known, uses_known, wants}
use Rattle.op_inliner.specs.Means.{AreInvariants, IsCInit, IsJobOf, IsTreeOf, Means, MeansAssumed}
use Rattle.op_inliner.specs.Places.{joined}
use Rattle.op_inliner.specs.Primes.{done}
use Rattle.tla_meaning.specs.Folds.{with_lambdas}
use Rattle.op_inliner.proofs.Expansions.{assumptions_mean, expansion_means}
use Rattle.op_inliner.proofs.NoNames.{assumed_tidy, name_tidy}
use Rattle.op_inliner.proofs.NoPrimes.{expanded_only, finish_expanded}
use Rattle.op_inliner.proofs.Placed.{assumptions_places, expansion_places}
use Rattle.op_inliner.proofs.Turned.{finished}
use Rattle.tla_meaning.proofs.Laws.{each-roll}
use Rattle.tla_meaning.proofs.Views.{and_both, and_left, and_right}

-- ---- a tree of operators that may stand there, without forms, is finished

pub forms-roll : (x : Expr-F Expr) → forms (roll-Expr x) ≡ own_form x.op x.place ++ joined (map forms x.args)
unfolding forms
forms-roll x = fold-roll-Expr (List (Form × Place)) (λ x. own_form x.op x.place ++ joined x.args) x

abbrev Finishes : Expr → Type 0
Finishes e = IsTrue (each expanded_only e) → forms e ≡ [] → IsTrue (each finished e)

abbrev Child : Type 0
Child = (e : Expr) × Finishes e

abbrev exprs : List Child → List Expr
exprs ys = map (λ y. y.0) ys

left_empty : {X : Type 0} (xs ys : List X) → xs ++ ys ≡ [] → xs ≡ []
left_empty [] ys e = refl
left_empty (x ∷ xs) ys e = absurd (cc)

right_empty : {X : Type 0} (xs ys : List X) → xs ++ ys ≡ [] → ys ≡ []
right_empty [] ys e = e
right_empty (x ∷ xs) ys e = absurd (cc)

children_finished : (ys : List Child) → IsTrue (list_all (λ b. b) (map (each expanded_only) (exprs ys))) → joined (map forms (exprs ys)) ≡ [] →
    IsTrue (list_all (λ b. b) (map (each finished) (exprs ys)))
children_finished [] h e = refl
children_finished (y ∷ ys) h e =
    let all : Bool = list_all (λ b. b) (map (each expanded_only) (exprs ys)) in
    and_both (each finished y.0) (list_all (λ b. b) (map (each finished) (exprs ys)))
    (y.1 (and_left (each expanded_only y.0) all h) (left_empty (forms y.0) (joined (map forms (exprs ys))) e))
    (children_finished ys (and_right (each expanded_only y.0) all h) (right_empty (forms y.0) (joined (map forms (exprs ys))) e))

op_done : (o : Op) (p : Place) → IsTrue (is_expanded_op o) → own_form o p ≡ [] → IsTrue (done o)
op_done (op.Outside f) p h e = absurd (cc)
op_done o p h e = h

finishes : (e : Expr) → Finishes e
finishes = ind-Expr Finishes (λ x y is.
    subst (λ (z : Expr-F Expr). Finishes (roll-Expr z)) is (λ h e.
    let z : Expr-F Expr = map-Expr Child Expr (λ e. e.0) y in
    let k = sym (each-roll expanded_only z) ∙ h in
    let f = sym (forms-roll z) ∙ e in
    let all : Bool = list_all (λ b. b) (map (each expanded_only) z.args) in
    each-roll finished z
    ∙ and_both (done z.op) (list_all (λ b. b) (map (each finished) z.args))
    (op_done z.op z.place (and_left (is_expanded_op z.op) all k) (left_empty (own_form z.op z.place) (joined (map forms z.args)) f))
    (children_finished y.args (and_right (is_expanded_op z.op) all k) (right_empty (own_form z.op z.place) (joined (map forms z.args)) f))))

-- ---- an answer that gives a tree

record Gave (e f : Expr) : Type 0 where
  same : e ≡ f
  clear : forms e ≡ []

given : {X : Type 0} (x y : X) → Gives x ≡ Gives y → x ≡ y
given {X = X} x y e = ap (λ (a : Answer X). elim a [ Gives z ↦ z | Refuses r ↦ x ]) e

by_forms : (e f : Expr) (fs : List (Form × Place)) → forms e ≡ fs → without_forms e fs ≡ Gives f → Gave e f
by_forms e f [] k h = record { same = given e f h; clear = k }
by_forms e f (g ∷ fs) k h = absurd (cc)

by_limits : (x : List ℕ) (e f : Expr) (b c : Bool) →
    (if b then Refuses (TooLarge x (up_to 1000000000000 (size e))) else (if c then Refuses (TooDeep x) else without_forms e (forms e))) ≡ Gives f → Gave e f
by_limits x e f true c h = absurd (cc)
by_limits x e f false true h = absurd (cc)
by_limits x e f false false h = by_forms e f (forms e) refl h

gave : (x : List ℕ) (e f : Expr) → checked x e ≡ Gives f → Gave e f
gave x e f h = by_limits x e f (nat_lt 1000000 (size e)) (nat_lt 400 (depth e)) h

-- a tree of the module that means this
record Told (flat : Flat) (M : Expr → Type 0) (e : Expr) : Type 0 where
  tree : IsTreeOf flat e
  means : M e

expansion_told : (flat : Flat) (x : List ℕ) (part : PartKind) → IsTrue (definitions_known flat.defs []) → IsTrue (wants 0 (find_last x (arities_of flat.defs []))) →
    forms (expansion part flat x) ≡ [] → Told flat (Means flat x) (expansion part flat x)
expansion_told flat x part h k clear =
    let e : Expr = expansion part flat x in
    let whole : IsTrue (is_expanded e) = finish_expanded part flat (written_of flat first_place x) (name_tidy flat x h k) in
    record {
      tree = record { expanded = whole; plain = clear; places = expansion_places part flat x };
      means = expansion_means part flat x (finishes e whole clear);
    }

by_name : (flat : Flat) (x : List ℕ) (part : PartKind) (e : Expr) → IsTrue (definitions_known flat.defs []) → (b : Bool) → wants 0 (find_last x (arities_of flat.defs [])) ≡ b →
    (if b then checked x (expansion part flat x) else Refuses (NoOperator x)) ≡ Gives e → Told flat (Means flat x) e
by_name flat x part e h false k r = absurd (cc)
by_name flat x part e h true k r =
    let g : Gave (expansion part flat x) e = gave x (expansion part flat x) e r in
    subst (Told flat (Means flat x)) g.same (expansion_told flat x part h k g.clear)

module _ (flat : Flat) (known : IsTrue (are_known flat)) where
  pub definitions : IsTrue (definitions_known flat.defs [])
  definitions = and_left (definitions_known flat.defs []) (list_all (λ e. uses_known (with_lambdas e) (arities_of flat.defs [])) flat.assumes) known

  name_told : (x : List ℕ) (part : PartKind) (e : Expr) → expand_answer flat x part ≡ Gives e → Told flat (Means flat x) e
  name_told x part e r = by_name flat x part e definitions (wants 0 (find_last x (arities_of flat.defs []))) refl r

  -- what is answered of a name
  pub answer_tree : (x : List ℕ) (part : PartKind) (e : Expr) → expand_answer flat x part ≡ Gives e → IsTreeOf flat e
  answer_tree x part e r = (name_told x part e r).tree

  pub answer_means : (x : List ℕ) (part : PartKind) (e : Expr) → expand_answer flat x part ≡ Gives e → Means flat x e
  answer_means x part e r = (name_told x part e r).means

  -- ---- jobs

  assumed_told : (e : Expr) → assume_answer flat ≡ Gives e → Told flat (MeansAssumed flat) e
  assumed_told e r =
      let a : Expr = assumptions_expanded flat in
      let g : Gave a e = gave _ a e r in
      let whole : IsTrue (is_expanded a) = finish_expanded Constants flat _ (assumed_tidy flat known) in
      subst (Told flat (MeansAssumed flat)) g.same (record {
        tree = record { expanded = whole; plain = g.clear; places = assumptions_places flat };
        means = assumptions_mean flat (finishes a whole g.clear);
      })

  cinit_told : (cinit : Option (List ℕ)) (e : Expr) → cinit_answer flat cinit ≡ Gives e → IsCInit flat cinit e
  cinit_told None e r = sym (given _ e r)
  cinit_told (Some x) e r = let t = name_told x Constants e r in (t.tree, t.means)

  -- an answer that goes on with another
  went_on : {X : Type 0} {Y : Type 0} (a : Answer X) (f : X → Answer Y) (y : Y) → then_with a f ≡ Gives y → (x : X) × (a ≡ Gives x) × (f x ≡ Gives y)
  went_on (Gives x) f y r = (x, refl, r)
  went_on (Refuses g) f y r = absurd (cc)

  invs_told : (xs : List (List ℕ)) (vs : List (List ℕ × Expr)) → invs_answer flat xs ≡ Gives vs → AreInvariants flat xs vs
  invs_told [] vs r = subst (AreInvariants flat []) (given [] vs r) tt
  invs_told (x ∷ xs) vs r =
      let a = went_on (expand_answer flat x Inv) _ vs r in
      let b = went_on (invs_answer flat xs) _ vs a.2 in
      let t = name_told x Inv a.0 a.1 in
      subst (AreInvariants flat (x ∷ xs)) (given ((x, a.0) ∷ b.0) vs b.2) (refl, t.tree, t.means, invs_told xs b.0 b.1)

  -- what is answered of a job
  pub job_told : (init next : List ℕ) (cinit : Option (List ℕ)) (invs : List (List ℕ)) (job : Job) →
      job_answer flat init next cinit invs ≡ Gives job → IsJobOf flat init next cinit invs job
  job_told init next cinit invs job r =
      let c = went_on (cinit_answer flat cinit) _ job r in
      let a = went_on (assume_answer flat) _ job c.2 in
      let i = went_on (expand_answer flat init Start) _ job a.2 in
      let n = went_on (expand_answer flat next Step) _ job i.2 in
      let v = went_on (invs_answer flat invs) _ job n.2 in
      let at = assumed_told a.0 a.1 in
      let it = name_told init Start i.0 i.1 in
      let nt = name_told next Step n.0 n.1 in
      subst (IsJobOf flat init next cinit invs) (given _ job v.2) (record {
        same_files = refl;
        same_names = refl;
        same_aliases = refl;
        cinit_is = cinit_told cinit c.0 c.1;
        assume_is = (at.tree, at.means);
        init_is = (it.tree, it.means);
        next_is = (nt.tree, nt.means);
        invs_are = invs_told invs v.0 v.1;
      })
