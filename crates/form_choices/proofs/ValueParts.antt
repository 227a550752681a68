-- What belongs to forms of functions, records and tuples, by its parts.
use Rattle.std.proofs.Common.{◌≡◌, ℕ, Bool, true, false, not, ◌&&◌, ◌||◌, List, [], ◌∷◌, map, zip, length, Option, Some, None, is_some, refl, sym, ◌∙◌, ap, ap₂, subst, arith, if◌then◌else◌}
use Rattle.std.specs.List.{AllByRecursion, cons_option, filter_map, list_all}
use Rattle.std.proofs.lemmas.List.{length-map}
use Rattle.tla_values.specs.Order.{Layer, same_value}
use Rattle.tla_values.specs.Sets.{Normal, apply, arguments, by_order, distinct, elements, function_of, insert_pair, member, set_of, subset}
use Rattle.tla_values.specs.declared.value.Value.{Value, out-Value, roll-Value}
use Rattle.tla_values.specs.declared.value.Value.TheVariants as value
use Rattle.tla_values.specs.declared.value.Value.TheOpen as layer
use Rattle.tla_values.specs.declared.value.Value.TheViews.{roll-out-Value}
use Rattle.tla_values.proofs.Extensional.{member-set_of, members_of, same_equal, same_itself, same_members, subset_itself}
use Rattle.tla_values.proofs.FunLaws.{all_function, apply_domain}
use Rattle.tla_values.proofs.Members.{elements-set}
use Rattle.tla_values.proofs.NormalLemmas.{fun_order, fun_pairs}
use Rattle.tla_values.proofs.SetLaws.{Above, Rising, rising_from, set_of-rising}
use Rattle.tla_values.proofs.Extensional as ext
use Rattle.tla_meaning.specs.declared.forms.SetForm.{SetForm, out-SetForm}
use Rattle.tla_meaning.specs.declared.forms.SetForm.TheVariants as set
use Rattle.tla_meaning.specs.declared.forms.SetForm.TheOpen as form
use Rattle.tla_meaning.specs.declared.forms.SetForm.TheFolds.{map-SetForm}
use Rattle.tla_meaning.specs.Forms.{all_belong, belongs, fields_at, function_passes, has_fields, part_belongs, passes, results, same_set, set_passes}
use Rattle.tla_meaning.specs.Shapes.{items_of, record_of}
use Rattle.tla_values.specs.Sequences.{sequence}
use Rattle.tla_meaning.proofs.MeaningLemmas.{belongs-out}
use Rattle.tla_meaning.proofs.NormalShapes.{IfSomes, NormalPairs, Normals, apply_normal, items_normal}
use Rattle.cell_arena.specs.Cells.{AllDiffer}
use Rattle.cell_merge.specs.Arrows.{pairs_of}
use Rattle.cell_merge.proofs.FunctionValues.{apply_function}
use Rattle.function_rewriter.proofs.Composites.{pairs-fun}
use Rattle.function_rewriter.proofs.PairLists.{arguments_function, graph, graph_function}
use Rattle.outcome_cells.proofs.OneText.{same-numbered}
use Rattle.kernel_shapes.proofs.Choices.{items_back, record_back}
use Rattle.form_cells.proofs.Meant.{meant-functions, meant-records, meant-tuples, passes-fun}
use Rattle.form_choices.specs.FiniteForms.{is_finite}
use Rattle.form_choices.specs.FormPicks.{IsMember}
use Rattle.form_choices.specs.inner.Parts.{AreMembers}
use Rattle.form_choices.proofs.FiniteLaws.{all_finite, finite-functions, finite-records, finite-tuples}

abbrev Pair : Type 0
Pair = Value × Value

pub first_so : (p q : Bool) → (p && q) ≡ true → p ≡ true
first_so true q e = refl
first_so false q e = e

pub second_so : (p q : Bool) → (p && q) ≡ true → q ≡ true
second_so true q e = e
second_so false q e = absurd (cc)

pub both_so : (p q : Bool) → p ≡ true → q ≡ true → (p && q) ≡ true
both_so p q e f = ap₂ (λ a b. a && b) e f

-- ---- values that pass tests on sets and on functions

pub set-is : (test : List Value → Bool) (v : Value) → set_passes test (out-Value v) ≡ true → v ≡ value.Set (elements v)
set-is test v h = by (out-Value v) refl h
  where
    by : (x : Layer Value) → out-Value v ≡ x → set_passes test x ≡ true → v ≡ value.Set (elements v)
    by (layer.Set xs) e k =
        let is : v ≡ value.Set xs = sym (roll-out-Value v) ∙ ap roll-Value e ∙ value.rolls-Set xs in
        is ∙ ap value.Set (sym (ap elements is ∙ elements-set xs))
    by (layer.Bool b) e k = absurd (cc)
    by (layer.Int b) e k = absurd (cc)
    by (layer.Text b) e k = absurd (cc)
    by (layer.Fun b) e k = absurd (cc)

pub function-is : (test : List Pair → Bool) (v : Value) → function_passes test (out-Value v) ≡ true → v ≡ value.Fun (pairs_of v)
function-is test v h = by (out-Value v) refl h
  where
    by : (x : Layer Value) → out-Value v ≡ x → function_passes test x ≡ true → v ≡ value.Fun (pairs_of v)
    by (layer.Fun ps) e k =
        let is : v ≡ value.Fun ps = sym (roll-out-Value v) ∙ ap roll-Value e ∙ value.rolls-Fun ps in
        is ∙ ap value.Fun (sym (ap pairs_of is ∙ pairs-fun ps))
    by (layer.Bool b) e k = absurd (cc)
    by (layer.Int b) e k = absurd (cc)
    by (layer.Text b) e k = absurd (cc)
    by (layer.Set b) e k = absurd (cc)

at : (f : SetForm) (v : Value) (x : form.SetForm-F SetForm) → out-SetForm f ≡ x →
    belongs f v ≡ part_belongs (map-SetForm SetForm (Value → Bool) belongs x) v
at f v x e = belongs-out f v ∙ ap (λ y. part_belongs (map-SetForm SetForm (Value → Bool) belongs y) v) e

pub subset-is : (g : SetForm) (v : Value) → belongs (set.Subsets g) v ≡ true → v ≡ value.Set (elements v)
subset-is g v h = set-is _ v (sym (at (set.Subsets g) v (form.Subsets g) (set.outs-Subsets g)) ∙ h)

pub function-of-form : (xs : List Value) (g : SetForm) (v : Value) → belongs (set.Functions xs g) v ≡ true → v ≡ value.Fun (pairs_of v)
function-of-form xs g v h = function-is _ v (sym (at (set.Functions xs g) v (form.Functions xs g) (set.outs-Functions xs g)) ∙ h)

record-of-form : (names : List (List ℕ)) (gs : List SetForm) (v : Value) → belongs (set.Records names gs) v ≡ true → v ≡ value.Fun (pairs_of v)
record-of-form names gs v h = function-is _ v (sym (at (set.Records names gs) v (form.Records names gs) (set.outs-Records names gs)) ∙ h)

tuple-of-form : (gs : List SetForm) (v : Value) → belongs (set.Tuples gs) v ≡ true → function_passes (λ ps. passes (all_belong gs) (items_of ps)) (out-Value v) ≡ true
tuple-of-form gs v h = sym (at (set.Tuples gs) v (form.Tuples gs) (set.outs-Tuples gs)) ∙ h

-- the pairs of a normal function
pub rising-pairs : (v : Value) → Normal v → v ≡ value.Fun (pairs_of v) → Rising (arguments (pairs_of v))
rising-pairs v n is = rising_from (arguments (pairs_of v)) (fun_order (pairs_of v) (subst Normal is n))

pub normal-pairs : (v : Value) → Normal v → v ≡ value.Fun (pairs_of v) → NormalPairs (pairs_of v)
normal-pairs v n is = fun_pairs (pairs_of v) (subst Normal is n)

-- ---- lists of values and forms

pub members-of : (gs : List SetForm) (vs : List Value) → all_finite gs ≡ true → Normals vs → all_belong gs vs ≡ true → AreMembers gs vs
members-of [] [] f n h = tt
members-of [] (v ∷ vs) f n h = absurd (cc)
members-of (g ∷ gs) [] f n h = absurd (cc)
members-of (g ∷ gs) (v ∷ vs) f n h = (
  record { finite = first_so _ _ f; normal = n.0; belongs = first_so _ _ h },
  members-of gs vs (second_so (is_finite g) _ f) n.1 (second_so (belongs g v) _ h),
)

pub members-belong : (gs : List SetForm) (vs : List Value) → AreMembers gs vs → all_belong gs vs ≡ true
members-belong [] [] h = refl
members-belong [] (v ∷ vs) h = absurd h
members-belong (g ∷ gs) [] h = absurd h
members-belong (g ∷ gs) (v ∷ vs) h = both_so _ _ h.0.belongs (members-belong gs vs h.1)

-- ---- functions

-- a list of pairs in order is the function of them
pub function-rising : (ps : List Pair) → Rising (arguments ps) → function_of ps ≡ ps
function-rising [] h = refl
function-rising (p ∷ ps) h = ap (insert_pair p) (function-rising ps h.1) ∙ front ps h.0
  where
    front : (qs : List Pair) → Above p.0 (arguments qs) → insert_pair p qs ≡ p ∷ qs
    front [] k = refl
    front (q ∷ qs) k = ap (λ o. by_order o (p ∷ q ∷ qs) (p ∷ qs) (q ∷ insert_pair p qs)) k.0

-- a rising list by either of two words for it
pub climbs : (xs : List Value) → Rising xs → ext.Rising xs
climbs xs r = subst ext.Rising (set_of-rising xs r) (ext.set_of_rising xs)

pub all-to : {X : Type 0} (p : X → Bool) (xs : List X) → list_all p xs ≡ true → AllByRecursion (λ x. p x ≡ true) xs
all-to p [] h = tt
all-to p (x ∷ xs) h = (first_so _ _ h, all-to p xs (second_so (p x) _ h))

pub all-from : {X : Type 0} (p : X → Bool) (xs : List X) → AllByRecursion (λ x. p x ≡ true) xs → list_all p xs ≡ true
all-from p [] h = refl
all-from p (x ∷ xs) h = both_so _ _ h.0 (all-from p xs h.1)

results-to : (p : Value → Bool) (ps : List Pair) → list_all p (results ps) ≡ true → AllByRecursion (λ (q : Pair). p q.1 ≡ true) ps
results-to p [] h = tt
results-to p (q ∷ ps) h = (first_so _ _ h, results-to p ps (second_so (p q.1) _ h))

results-from : (p : Value → Bool) (ps : List Pair) → AllByRecursion (λ (q : Pair). p q.1 ≡ true) ps → list_all p (results ps) ≡ true
results-from p [] h = refl
results-from p (q ∷ ps) h = both_so _ _ h.0 (results-from p ps h.1)

pub same-itself : (xs : List Value) → same_set xs xs ≡ true
same-itself xs = both_so _ _ (subset_itself xs) (subset_itself xs)

-- the function of pairs whose results belong to the form
pub pairs-belong : (g : SetForm) (ps : List Pair) → list_all (belongs g) (results ps) ≡ true →
    belongs (set.Functions (set_of (arguments ps)) g) (value.Fun (function_of ps)) ≡ true
pairs-belong g ps h =
    let f : SetForm = set.Functions (set_of (arguments ps)) g in
    meant-functions f (value.Fun (function_of ps)) (set_of (arguments ps)) g (function_of ps) refl refl
    ∙ ap (λ qs. same_set (set_of (arguments ps)) (arguments qs) && list_all (belongs g) (results qs)) (pairs-fun (function_of ps))
    ∙ both_so _ _ (ap (same_set (set_of (arguments ps))) (arguments_function ps) ∙ same-itself (set_of (arguments ps)))
    (results-from (belongs g) (function_of ps) (all_function (λ (q : Pair). belongs g q.1 ≡ true) ps (results-to (belongs g) ps h)))

abbrev pub value_or : Option Value → Value → Value
value_or None d = d
value_or (Some v) d = v

some-at : (o : Option Value) (d : Value) → is_some o ≡ true → o ≡ Some (value_or o d)
some-at None d e = absurd (cc)
some-at (Some v) d e = refl

-- what is given at an argument is a result
result-passes : (p : Value → Bool) (ps : List Pair) (v w : Value) → apply ps v ≡ Some w → list_all p (results ps) ≡ true → p w ≡ true
result-passes p [] v w e h = absurd (cc)
result-passes p (q ∷ ps) v w e h = go (same_value v q.0) e (λ k. result-passes p ps v w k (second_so (p q.1) _ h))
  where
    go : (b : Bool) → (if b then Some q.1 else apply ps v) ≡ Some w → (apply ps v ≡ Some w → p w ≡ true) → p w ≡ true
    go true f next = let k : q.1 ≡ w = cc in ap p (sym k) ∙ first_so _ _ h
    go false f next = next f

normal-some : (o : Option Value) (v : Value) → IfSomes Normal o → o ≡ Some v → Normal v
normal-some None v h e = absurd (cc)
normal-some (Some u) v h e = let k : u ≡ v = cc in subst Normal k h

-- a member of a form of functions, by its rule
pub record ByRule (xs : List Value) (g : SetForm) (v : Value) : Type 0 where
  pub rule : Value → Value
  pub is : v ≡ value.Fun (graph xs rule)
  pub members : (x : Value) → member x xs ≡ true → IsMember g (rule x)

pub function-parts : (xs : List Value) (g : SetForm) (v : Value) → Rising xs → IsMember (set.Functions xs g) v → ByRule xs g v
function-parts xs g v up m =
    let is : v ≡ value.Fun (pairs_of v) = function-of-form xs g v m.belongs in
    let ps : List Pair = pairs_of v in
    let r : Rising (arguments ps) = rising-pairs v m.normal is in
    let both = sym (meant-functions (set.Functions xs g) v xs g ps refl is) ∙ m.belongs in
    let named = first_so (same_set xs (arguments ps)) _ both in
    let args : xs ≡ arguments ps = same_members xs (arguments ps) (climbs xs up) (climbs (arguments ps) r) (first_so _ _ named) (second_so (subset xs (arguments ps)) _ named) in
    let rule : Value → Value = λ x. value_or (apply ps x) v in
    let given : (x : Value) → member x (arguments ps) ≡ true → apply ps x ≡ Some (rule x) = λ x k. some-at (apply ps x) v (apply_domain x ps ∙ k) in
    let pairs : ps ≡ graph xs rule = sym (function-rising ps r) ∙ graph_function ps rule given ∙ ap (λ l. graph l rule) (set_of-rising (arguments ps) r ∙ sym args) in
    record {
      rule = rule;
      is = is ∙ ap value.Fun pairs;
      members = λ x k.
          let at_x = given x (ap (member x) (sym args) ∙ k) in
          record {
            finite = sym (finite-functions xs g) ∙ m.finite;
            normal = normal-some (apply ps x) (rule x) (apply_normal ps x (normal-pairs v m.normal is)) at_x;
            belongs = result-passes (belongs g) ps x (rule x) at_x (second_so (same_set xs (arguments ps)) _ both);
          };
    }

-- ---- records

abbrev texts : List (List ℕ) → List Value
texts names = map (λ n. value.Text n) names

same-back : (u v : Value) → same_value u v ≡ false → same_value v u ≡ false
same-back u v h = go (same_value v u) refl
  where
    go : (b : Bool) → same_value v u ≡ b → b ≡ false
    go false e = refl
    go true e = absurd (let k : true ≡ false = sym (same_itself u) ∙ ap (same_value u) (sym (same_equal v u e)) ∙ h in cc)

or-none : (p q : Bool) → (p || q) ≡ false → (p ≡ false) × (q ≡ false)
or-none true q e = absurd (cc)
or-none false q e = (refl, e)

not-so : (b : Bool) → not b ≡ true → b ≡ false
not-so true e = absurd (cc)
not-so false e = refl

-- fields behind another one
fields-behind : (n : List ℕ) (v : Value) (ns : List (List ℕ)) (zs : List Pair) → member (value.Text n) (texts ns) ≡ false →
    fields_at ns ((value.Text n, v) ∷ zs) ≡ fields_at ns zs
fields-behind n v [] zs h = refl
fields-behind n v (m ∷ ms) zs h =
    let parts = or-none (same_value (value.Text n) (value.Text m)) _ h in
    ap₂ (λ o vs. cons_option o vs)
    (ap (λ b. if b then Some v else apply zs (value.Text m)) (same-back (value.Text n) (value.Text m) parts.0))
    (fields-behind n v ms zs parts.1)

fields-zip : (ns : List (List ℕ)) (vs : List Value) → distinct (texts ns) ≡ true → length vs ≡ length ns → fields_at ns (zip (texts ns) vs) ≡ vs
fields-zip [] [] d e = refl
fields-zip [] (v ∷ vs) d e = absurd (omega arith)
fields-zip (n ∷ ns) [] d e = absurd (omega arith)
fields-zip (n ∷ ns) (v ∷ vs) d e =
    ap₂ (λ o us. cons_option o us) (ap (λ b. if b then Some v else apply (zip (texts ns) vs) (value.Text n)) (same_itself (value.Text n)))
    (fields-behind n v ns (zip (texts ns) vs) (not-so _ (first_so _ _ d)) ∙ fields-zip ns vs (second_so (not (member (value.Text n) (texts ns))) _ d) (omega arith))

arguments-zip : (xs vs : List Value) → length vs ≡ length xs → arguments (zip xs vs) ≡ xs
arguments-zip [] [] e = refl
arguments-zip [] (v ∷ vs) e = absurd (omega arith)
arguments-zip (x ∷ xs) [] e = absurd (omega arith)
arguments-zip (x ∷ xs) (v ∷ vs) e = ap (λ l. x ∷ l) (arguments-zip xs vs (omega arith))

fields-same : (f g : Value → Option Value) (ns : List (List ℕ)) → ((v : Value) → f v ≡ g v) → filter_map (λ n. f (value.Text n)) ns ≡ filter_map (λ n. g (value.Text n)) ns
fields-same f g [] h = refl
fields-same f g (n ∷ ns) h = ap₂ (λ o vs. cons_option o vs) (h (value.Text n)) (fields-same f g ns h)

same-set : (xs : List Value) → same_set xs (set_of xs) ≡ true
same-set xs = both_so _ _ (members_of (set_of xs) xs (λ v e. member-set_of v xs ∙ e)) (members_of xs (set_of xs) (λ v e. sym (member-set_of v xs) ∙ e))

-- the record of values that belong to the fields' forms
pub record-belongs : (names : List (List ℕ)) (gs : List SetForm) (vs : List Value) → AllDiffer names → length vs ≡ length names → all_belong gs vs ≡ true →
    belongs (set.Records names gs) (record_of names vs) ≡ true
record-belongs names gs vs d e h =
    let zs : List Pair = zip (texts names) vs in
    let count : length vs ≡ length (texts names) = e ∙ sym (length-map names (λ n. value.Text n)) in
    meant-records (set.Records names gs) (record_of names vs) names gs (function_of zs) refl refl
    ∙ ap (λ ps. has_fields names ps && all_belong gs (fields_at names ps)) (pairs-fun (function_of zs))
    ∙ both_so _ _ (ap (same_set (texts names)) (arguments_function zs ∙ ap set_of (arguments-zip (texts names) vs count)) ∙ same-set (texts names))
    (ap (all_belong gs) (fields-same (apply (function_of zs)) (apply zs) names (apply_function zs) ∙ fields-zip names vs d e) ∙ h)

fields-normal : (ns : List (List ℕ)) (ps : List Pair) → NormalPairs ps → Normals (fields_at ns ps)
fields-normal [] ps h = tt
fields-normal (n ∷ ns) ps h = by (apply ps (value.Text n)) (apply_normal ps (value.Text n) h) (fields-normal ns ps h)
  where
    by : (o : Option Value) → IfSomes Normal o → Normals (fields_at ns ps) → Normals (cons_option o (fields_at ns ps))
    by (Some v) k r = (k, r)
    by None k r = r

-- a normal record has normal fields
pub fields-of-record : (names : List (List ℕ)) (vs : List Value) → AllDiffer names → length vs ≡ length names → Normal (record_of names vs) → Normals vs
fields-of-record names vs d e n =
    let zs : List Pair = zip (texts names) vs in
    subst Normals (fields-same (apply (function_of zs)) (apply zs) names (apply_function zs) ∙ fields-zip names vs d e)
    (fields-normal names (function_of zs) (fun_pairs (function_of zs) n))

-- a member of a form of records, by its fields
pub record ByFields (names : List (List ℕ)) (gs : List SetForm) (v : Value) : Type 0 where
  pub fields : List Value
  pub is : v ≡ record_of names fields
  pub members : AreMembers gs fields

pub record-parts : (names : List (List ℕ)) (gs : List SetForm) (v : Value) → IsMember (set.Records names gs) v → ByFields names gs v
record-parts names gs v m =
    let is : v ≡ value.Fun (pairs_of v) = record-of-form names gs v m.belongs in
    let ps : List Pair = pairs_of v in
    let both = sym (meant-records (set.Records names gs) v names gs ps refl is) ∙ m.belongs in
    record {
      fields = fields_at names ps;
      is = is ∙ sym (record_back ps names (first_so (has_fields names ps) _ both) (rising-pairs v m.normal is));
      members = members-of gs (fields_at names ps) (sym (finite-records names gs) ∙ m.finite) (fields-normal names ps (normal-pairs v m.normal is)) (second_so (has_fields names ps) _ both);
    }

-- ---- tuples

pub record ByItems (gs : List SetForm) (v : Value) : Type 0 where
  pub items : List Value
  pub is : v ≡ sequence items
  pub members : AreMembers gs items

normal-list : (o : Option (List Value)) (vs : List Value) → IfSomes Normals o → o ≡ Some vs → Normals vs
normal-list None vs h e = absurd (cc)
normal-list (Some us) vs h e = let k : us ≡ vs = cc in subst Normals k h

pub tuple-parts : (gs : List SetForm) (v : Value) → IsMember (set.Tuples gs) v → ByItems gs v
tuple-parts gs v m =
    let test : List Pair → Bool = λ ps. passes (all_belong gs) (items_of ps) in
    let passed = tuple-of-form gs v m.belongs in
    let is : v ≡ value.Fun (pairs_of v) = function-is test v passed in
    by (items_of (pairs_of v)) refl (sym (passes-fun test v (pairs_of v) is) ∙ passed) is
  where
    by : (o : Option (List Value)) → items_of (pairs_of v) ≡ o → passes (all_belong gs) o ≡ true → v ≡ value.Fun (pairs_of v) → ByItems gs v
    by None e h is = absurd (cc)
    by (Some vs) e h is = record {
      items = vs;
      is = is ∙ ap value.Fun (items_back 1 (pairs_of v) vs e ∙ sym (same-numbered 1 vs));
      members = members-of gs vs (sym (finite-tuples gs) ∙ m.finite) (normal-list (items_of (pairs_of v)) vs (items_normal 1 (pairs_of v) (normal-pairs v m.normal is)) e) h;
    }

pub tuple-belongs : (gs : List SetForm) (vs : List Value) → all_belong gs vs ≡ true → belongs (set.Tuples gs) (sequence vs) ≡ true
tuple-belongs gs vs h = meant-tuples (set.Tuples gs) (sequence vs) gs vs refl refl ∙ h
