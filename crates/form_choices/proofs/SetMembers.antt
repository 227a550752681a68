-- The members of forms as lists: of each kind of form by those of its parts.
use Rattle.std.proofs.Common.{◌≡◌, ℕ, ◌+◌, Bool, true, false, ◌&&◌, ◌||◌, List, [], ◌∷◌, map, zip, length, refl, sym, ◌∙◌, ap, subst, arith}
use Rattle.std.specs.Prelude.{filter}
use Rattle.std.specs.List.{AllByRecursion, list_all, list_any}
use Rattle.std.proofs.lemmas.List.Folds.{list_any-append}
use Rattle.tla_values.specs.Order.{same_value}
use Rattle.tla_values.specs.Sets.{Normal, arguments, distinct, elements, member, set_of, subset}
use Rattle.tla_values.specs.declared.value.Value.{Value}
use Rattle.tla_values.specs.declared.value.Value.TheVariants as value
use Rattle.tla_values.proofs.Extensional.{member-set_of, same_equal, subset_itself}
use Rattle.tla_values.proofs.Members.{elements-set}
use Rattle.tla_values.proofs.NormalLemmas.{fun_pairs, set_members}
use Rattle.tla_values.proofs.SetLaws.{Rising, all_filter, set_of-rising}
use Rattle.tla_meaning.specs.declared.forms.SetForm.{SetForm}
use Rattle.tla_meaning.specs.declared.forms.SetForm.TheVariants as set
use Rattle.tla_meaning.specs.Forms.{all_belong, belongs, results, same_set}
use Rattle.tla_meaning.specs.Shapes.{choices, numbered, record_of, records, sequence, tuples, with_each}
use Rattle.tla_meaning.proofs.NormalShapes.{NormalPairs, Normals}
use Rattle.cell_arena.specs.Cells.{AllDiffer}
use Rattle.cell_merge.specs.Arrows.{pairs_of}
use Rattle.set_rewriter.specs.Subsets.{all_subsets}
use Rattle.set_rewriter.proofs.Sublists.{subset-test}
use Rattle.function_rewriter.specs.FunctionSets.{all_functions}
use Rattle.function_rewriter.proofs.Composites.{pairs-fun}
use Rattle.function_rewriter.proofs.Graphs.{function-choice, member-any}
use Rattle.function_rewriter.proofs.PairLists.{arguments_graph, graph, set-distinct}
use Rattle.outcome_cells.proofs.OneText.{same-sequence}
use Rattle.value_operators.proofs.OneText.{same-each_to, same-sublists}
use Rattle.kernel_shapes.proofs.Choices.{InSets}
use Rattle.kernel_shapes.proofs.FormMembers.{HasAll, HaveAll, functions_have, records_have, subsets_have, tuples_have}
use Rattle.form_cells.proofs.Meant.{meant-functions, meant-plain, meant-subsets}
use Rattle.form_choices.specs.FiniteForms.{is_finite}
use Rattle.form_choices.specs.FormPicks.{IsMember}
use Rattle.form_choices.specs.inner.Parts.{AreMembersOf, HaveMembers}
use Rattle.form_choices.proofs.FiniteLaws.{all_finite, finite-functions, finite-records, finite-subsets, finite-tuples}
use Rattle.form_choices.proofs.ValueParts.{all-from, all-to, both_so, climbs, fields-of-record, first_so, record-belongs, same-itself, second_so, tuple-belongs}

-- ---- plain sets, and forms without members

pub plain-members : (v : Value) (xs : List Value) → v ≡ value.Set xs → AreMembersOf (set.Plain v) (elements v)
plain-members v xs is = record {
  within = λ w n m. meant-plain (set.Plain v) w v xs refl is ∙ m;
  all = λ w m. sym (meant-plain (set.Plain v) w v xs refl is) ∙ m.belongs;
}

pub no-members : (f : SetForm) → ((v : Value) → IsMember f v → ⊥) → AreMembersOf f []
no-members f none = record { within = λ w n m. absurd (cc); all = λ w m. absurd (none w m) }

pub not-finite : (f : SetForm) → is_finite f ≡ false → (v : Value) → IsMember f v → ⊥
not-finite f e v m = let k : true ≡ false = sym m.finite ∙ e in cc

-- what is normal and among the members belongs
all-within : (g : SetForm) (xs ys : List Value) → AreMembersOf g xs → Normals ys → subset ys xs ≡ true → list_all (belongs g) ys ≡ true
all-within g xs [] h n e = refl
all-within g xs (y ∷ ys) h n e = both_so _ _ (h.within y n.0 (first_so _ _ e)) (all-within g xs ys h n.1 (second_so (member y xs) _ e))

-- all that belongs is among the members
has-all : (g : SetForm) (xs : List Value) → AreMembersOf g xs → is_finite g ≡ true → HasAll g xs
has-all g xs h e v n b = h.all v (record { finite = e; normal = n; belongs = b })

-- ---- subsets

pub subset-members : (g : SetForm) (xs : List Value) → Rising xs → AreMembersOf g xs → AreMembersOf (set.Subsets g) (elements (all_subsets xs))
subset-members g xs up h = record {
  within = λ w n m.
      let r = subset-test w xs (climbs xs up) m in
      let ys : List Value = filter r.0 xs in
      let inside : subset ys xs ≡ true = all-from (λ y. member y xs) ys (all_filter (λ y. member y xs ≡ true) r.0 xs (all-to (λ y. member y xs) xs (subset_itself xs))) in
      meant-subsets (set.Subsets g) w g ys refl r.1 ∙ ap (λ u. list_all (belongs g) (elements u)) r.1 ∙ ap (list_all (belongs g)) (elements-set ys)
      ∙ all-within g xs ys h (set_members ys (subst Normal r.1 n)) inside;
  all = λ w m.
      ap (member w) (elements-set _ ∙ ap (λ (l : List (List Value)). set_of (map (λ ys. value.Set ys) l)) (same-sublists xs))
      ∙ subsets_have g xs up (has-all g xs h (sym (finite-subsets g) ∙ m.finite)) w m.normal m.belongs;
}

-- ---- functions

results-within : (g : SetForm) (ts : List Value) (ps : List (Value × Value)) → AreMembersOf g ts → NormalPairs ps →
    AllByRecursion (λ (p : Value × Value). member p.1 ts ≡ true) ps → list_all (belongs g) (results ps) ≡ true
results-within g ts [] h n e = refl
results-within g ts (p ∷ ps) h n e = both_so _ _ (h.within p.1 n.0.1 e.0) (results-within g ts ps h n.1 e.1)

graph-within : (ts zs xs : List Value) (rule : Value → Value) → ((x : Value) → member x zs ≡ true → member (rule x) ts ≡ true) →
    subset xs zs ≡ true → AllByRecursion (λ (p : Value × Value). member p.1 ts ≡ true) (graph xs rule)
graph-within ts zs [] rule h e = tt
graph-within ts zs (x ∷ xs) rule h e = (h x (first_so _ _ e), graph-within ts zs xs rule h (second_so (member x zs) _ e))

pub function-members : (xs ts : List Value) (g : SetForm) → Rising xs → AreMembersOf g ts → AreMembersOf (set.Functions xs g) (elements (all_functions xs ts))
function-members xs ts g up h = record {
  within = λ w n m.
      let r = function-choice w xs ts (ap distinct (sym (set_of-rising xs up)) ∙ set-distinct xs) m in
      let ps : List (Value × Value) = graph xs r.rule in
      meant-functions (set.Functions xs g) w xs g ps refl r.is
      ∙ ap (λ qs. same_set xs (arguments qs) && list_all (belongs g) (results qs)) (ap pairs_of r.is ∙ pairs-fun ps)
      ∙ both_so _ _ (ap (same_set xs) (arguments_graph xs r.rule) ∙ same-itself xs)
      (results-within g ts ps h (fun_pairs ps (subst Normal r.is n)) (graph-within ts xs xs r.rule r.within (subset_itself xs)));
  all = λ w m.
      ap (member w) (elements-set _ ∙ ap (λ (l : List (List Value)). set_of (map (λ ys. value.Fun (zip xs ys)) l)) (same-each_to xs ts))
      ∙ functions_have xs ts g up (has-all g ts h (sym (finite-functions xs g) ∙ m.finite)) w m.normal m.belongs;
}

-- ---- one of each

any-map : {X : Type 0} {Y : Type 0} (p : Y → Bool) (f : X → Y) (xs : List X) → list_any p (map f xs) ≡ list_any (λ x. p (f x)) xs
any-map p f [] = refl
any-map p f (x ∷ xs) = ap (λ t. p (f x) || t) (any-map p f xs)

any-with : (q : List Value → Bool) (ts : List Value) (yss : List (List Value)) → list_any q (with_each ts yss) ≡ list_any (λ t. list_any (λ ys. q (t ∷ ys)) yss) ts
any-with q [] yss = refl
any-with q (t ∷ ts) yss =
    list_any-append q (map (λ ys. t ∷ ys) yss) (with_each ts yss) ∙ ap (λ b. b || list_any q (with_each ts yss)) (any-map q (λ ys. t ∷ ys) yss)
    ∙ ap (λ b. list_any (λ ys. q (t ∷ ys)) yss || b) (any-with q ts yss)

-- a choice that passes a test
record Chosen (q : List Value → Bool) (xss : List (List Value)) : Type 0 where
  choice : List Value
  within : InSets xss choice
  passes : q choice ≡ true

chosen : (q : List Value → Bool) (xss : List (List Value)) → list_any q (choices xss) ≡ true → Chosen q xss
chosen q [] e = record { choice = []; within = tt; passes = alone (q []) e }
  where
    alone : (b : Bool) → (b || false) ≡ true → b ≡ true
    alone true f = refl
    alone false f = f
chosen q (xs ∷ xss) e =
    let r = member-any (λ t. list_any (λ ys. q (t ∷ ys)) (choices xss)) xs (sym (any-with q xs (choices xss)) ∙ e) in
    let c = chosen (λ ys. q (r.0 ∷ ys)) xss r.1.1 in
    record { choice = r.0 ∷ c.choice; within = (r.1.0, c.within); passes = c.passes }

-- what is made of a choice
made-of : (make : List Value → Value) (xss : List (List Value)) (w : Value) → member w (set_of (map make (choices xss))) ≡ true →
    (vs : List Value) × (InSets xss vs × (w ≡ make vs))
made-of make xss w m =
    let c = chosen (λ vs. same_value w (make vs)) xss (sym (member-set_of w (map make (choices xss)) ∙ any-map (same_value w) make (choices xss)) ∙ m) in
    (c.choice, (c.within, same_equal w (make c.choice) c.passes))

choice-belongs : (gs : List SetForm) (xss : List (List Value)) (vs : List Value) → HaveMembers gs xss → InSets xss vs → Normals vs → all_belong gs vs ≡ true
choice-belongs [] [] [] h i n = refl
choice-belongs [] [] (v ∷ vs) h i n = absurd i
choice-belongs [] (xs ∷ xss) vs h i n = absurd h
choice-belongs (g ∷ gs) [] vs h i n = absurd h
choice-belongs (g ∷ gs) (xs ∷ xss) [] h i n = absurd i
choice-belongs (g ∷ gs) (xs ∷ xss) (v ∷ vs) h i n = both_so _ _ (h.0.within v n.0 i.0) (choice-belongs gs xss vs h.1 i.1 n.1)

choice-count : (gs : List SetForm) (xss : List (List Value)) (vs : List Value) → HaveMembers gs xss → InSets xss vs → length vs ≡ length gs
choice-count [] [] [] h i = refl
choice-count [] [] (v ∷ vs) h i = absurd i
choice-count [] (xs ∷ xss) vs h i = absurd h
choice-count (g ∷ gs) [] vs h i = absurd h
choice-count (g ∷ gs) (xs ∷ xss) [] h i = absurd i
choice-count (g ∷ gs) (xs ∷ xss) (v ∷ vs) h i = let e = choice-count gs xss vs h.1 i.1 in omega arith

have-all : (gs : List SetForm) (xss : List (List Value)) → HaveMembers gs xss → all_finite gs ≡ true → HaveAll gs xss
have-all [] [] h e = tt
have-all [] (xs ∷ xss) h e = absurd h
have-all (g ∷ gs) [] h e = absurd h
have-all (g ∷ gs) (xs ∷ xss) h e = (has-all g xs h.0 (first_so _ _ e), have-all gs xss h.1 (second_so (is_finite g) _ e))

-- ---- tuples

numbered-normal : (n : ℕ) (vs : List Value) → NormalPairs (numbered n vs) → Normals vs
numbered-normal n [] h = tt
numbered-normal n (v ∷ vs) h = (h.0.1, numbered-normal (n + 1) vs h.1)

pub tuple-members : (gs : List SetForm) (xss : List (List Value)) → HaveMembers gs xss → AreMembersOf (set.Tuples gs) (elements (tuples xss))
tuple-members gs xss h = record {
  within = λ w n m.
      let c = made-of sequence xss w (sym (ap (member w) (elements-set (set_of (map sequence (choices xss))))) ∙ m) in
      ap (belongs (set.Tuples gs)) (c.1.1 ∙ sym (same-sequence c.0))
      ∙ tuple-belongs gs c.0 (choice-belongs gs xss c.0 h c.1.0 (numbered-normal 1 c.0 (fun_pairs (numbered 1 c.0) (subst Normal c.1.1 n))));
  all = λ w m.
      ap (member w) (elements-set (set_of (map sequence (choices xss))))
      ∙ tuples_have gs xss (have-all gs xss h (sym (finite-tuples gs) ∙ m.finite)) w m.normal m.belongs;
}

-- ---- records

pub record-members : (names : List (List ℕ)) (gs : List SetForm) (xss : List (List Value)) → AllDiffer names → length gs ≡ length names → HaveMembers gs xss →
    AreMembersOf (set.Records names gs) (elements (records names xss))
record-members names gs xss d e h = record {
  within = λ w n m.
      let c = made-of (record_of names) xss w (sym (ap (member w) (elements-set (set_of (map (record_of names) (choices xss))))) ∙ m) in
      let count : length c.0 ≡ length names = choice-count gs xss c.0 h c.1.0 ∙ e in
      ap (belongs (set.Records names gs)) c.1.1
      ∙ record-belongs names gs c.0 d count (choice-belongs gs xss c.0 h c.1.0 (fields-of-record names c.0 d count (subst Normal c.1.1 n)));
  all = λ w m.
      ap (member w) (elements-set (set_of (map (record_of names) (choices xss))))
      ∙ records_have names gs xss (have-all gs xss h (sym (finite-records names gs) ∙ m.finite)) w m.normal m.belongs;
}
