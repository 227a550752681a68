-- What belongs to a finite form is a member of its value, for values that are normal.
use Rattle.std.proofs.Common.{◌≡◌, ℕ, Bool, true, false, ◌&&◌, IsTrue, List, [], ◌∷◌, map, length, zip, Option, Some, None, refl, sym, ◌∙◌, ap, ap₂, subst, if◌then◌else◌}
use Rattle.std.specs.List.{AllByRecursion, list_all, cons_option}
use Rattle.tla_values.specs.Order.{Layer}
use Rattle.tla_values.specs.Sets.{Normal, apply, arguments, member, set_of, subset}
use Rattle.tla_values.specs.declared.value.Value.{Value, out-Value, roll-Value}
use Rattle.tla_values.specs.declared.value.Value.TheVariants as value
use Rattle.tla_values.specs.declared.value.Value.TheOpen as layer
use Rattle.tla_values.specs.declared.value.Value.TheViews.{roll-out-Value}
use Rattle.tla_values.proofs.Extensional as ext
use Rattle.tla_values.proofs.Extensional.{member-set_of, same_members}
use Rattle.tla_values.proofs.NormalLemmas.{fun_order, fun_pairs, set_order}
use Rattle.tla_values.proofs.SetLaws.{Rising, rising_from, set_of-rising}
use Rattle.tla_meaning.specs.declared.forms.SetForm.{SetForm, out-SetForm}
use Rattle.tla_meaning.specs.declared.forms.SetForm.TheVariants as form
use Rattle.tla_meaning.specs.declared.forms.SetForm.TheOpen as layers
use Rattle.tla_meaning.specs.declared.forms.SetForm.TheFolds.{map-SetForm}
use Rattle.tla_meaning.specs.declared.job.State.{State}
use Rattle.tla_meaning.specs.declared.op.Op.TheVariants as op
use Rattle.tla_meaning.specs.declared.place.Place.{Place}
use Rattle.tla_meaning.specs.declared.outcome.Fault.{Fault}
use Rattle.tla_meaning.specs.declared.outcome.Fault.TheVariants.{NoFault, IsWrong, IsBig}
use Rattle.tla_meaning.specs.declared.outcome.Outcome.{Outcome}
use Rattle.tla_meaning.specs.declared.outcome.Outcome.TheVariants.{Val, Wrong, Big}
use Rattle.tla_meaning.specs.Outcomes.{IsNormalOutcome, strict}
use Rattle.tla_meaning.specs.Numbers.{Width}
use Rattle.tla_meaning.specs.Operators.{table, on_set, on_sets}
use Rattle.tla_meaning.specs.Scopes.{Denotation}
use Rattle.tla_meaning.specs.Meaning.{plain, form_of_one, functions_from, function_form}
use Rattle.tla_meaning.specs.Forms.{Formed, Made, Broken, is_set, is_plain_set, is_set_form, part_belongs, belongs, set_passes, function_passes, passes, same_set, results, has_fields, fields_at, all_belong}
use Rattle.tla_meaning.specs.Shapes.{items_of, set_items, subsets, functions, sequence, record_of, choices, each_to, sublists}
use Rattle.tla_meaning.proofs.MeaningLemmas.{belongs-out}
use Rattle.tla_meaning.proofs.NormalShapes.{NormalLayer, NormalSet, NormalPairs, IfSomes, layer_normal, apply_normal, items_normal}
use Rattle.tla_meaning.proofs.Laws.{none≢some}
use Rattle.tla_meaning.proofs.Views.{and_left, and_right, and_both, false≢true}
use Rattle.kernel_shapes.proofs.Choices.{OneOf, sublist_there, each_there, AllIn, InSets, choice_there, made_member, zip_back, as_many_results, items_back, record_back}

-- ---- what belongs, by the kind of the form

opened : (f : SetForm) (v : Value) (x : layers.SetForm-F SetForm) → out-SetForm f ≡ x → belongs f v ≡ part_belongs (map-SetForm SetForm (Value → Bool) belongs x) v
opened f v x e = belongs-out f v ∙ ap (λ (y : layers.SetForm-F SetForm). part_belongs (map-SetForm SetForm (Value → Bool) belongs y) v) e

in_plain : (s v : Value) → belongs (form.Plain s) v ≡ set_passes (member v) (out-Value s)
in_plain s v = opened (form.Plain s) v (layers.Plain s) (form.outs-Plain s)

in_subsets : (g : SetForm) (v : Value) → belongs (form.Subsets g) v ≡ set_passes (list_all (belongs g)) (out-Value v)
in_subsets g v = opened (form.Subsets g) v (layers.Subsets g) (form.outs-Subsets g)

in_functions : (xs : List Value) (g : SetForm) (v : Value) →
    belongs (form.Functions xs g) v ≡ function_passes (λ ps. same_set xs (arguments ps) && list_all (belongs g) (results ps)) (out-Value v)
in_functions xs g v = opened (form.Functions xs g) v (layers.Functions xs g) (form.outs-Functions xs g)

in_records : (names : List (List ℕ)) (fs : List SetForm) (v : Value) →
    belongs (form.Records names fs) v ≡ function_passes (λ ps. has_fields names ps && all_belong fs (fields_at names ps)) (out-Value v)
in_records names fs v = opened (form.Records names fs) v (layers.Records names fs) (form.outs-Records names fs)

in_tuples : (fs : List SetForm) (v : Value) → belongs (form.Tuples fs) v ≡ function_passes (λ ps. passes (all_belong fs) (items_of ps)) (out-Value v)
in_tuples fs v = opened (form.Tuples fs) v (layers.Tuples fs) (form.outs-Tuples fs)

-- ---- a set that has all that belongs to a form

abbrev pub HasAll : SetForm → List Value → Type 0
HasAll f xs = (v : Value) → Normal v → IsTrue (belongs f v) → IsTrue (member v xs)

a_set : (v : Value) (xs : List Value) → out-Value v ≡ layer.Set xs → value.Set xs ≡ v
a_set v xs e = sym (sym (roll-out-Value v) ∙ ap roll-Value e ∙ value.rolls-Set xs)

a_function : (v : Value) (ps : List (Value × Value)) → out-Value v ≡ layer.Fun ps → value.Fun ps ≡ v
a_function v ps e = sym (sym (roll-out-Value v) ∙ ap roll-Value e ∙ value.rolls-Fun ps)

-- a value that passes a test on sets, or on functions
passing_set : (test : List Value → Bool) (v : Value) → Normal v → IsTrue (set_passes test (out-Value v)) → (xs : List Value) × (out-Value v ≡ layer.Set xs) × IsTrue (test xs) × NormalSet xs
passing_set test v n h = by (out-Value v) refl (layer_normal v n) h
  where
    by : (x : Layer Value) → out-Value v ≡ x → NormalLayer x → IsTrue (set_passes test x) → (xs : List Value) × (out-Value v ≡ layer.Set xs) × IsTrue (test xs) × NormalSet xs
    by (layer.Set xs) e n k = (xs, e, k, n)
    by (layer.Bool b) e n k = absurd (false≢true k)
    by (layer.Int b) e n k = absurd (false≢true k)
    by (layer.Text b) e n k = absurd (false≢true k)
    by (layer.Fun b) e n k = absurd (false≢true k)

passing_function : (test : List (Value × Value) → Bool) (v : Value) → Normal v → IsTrue (function_passes test (out-Value v)) →
    (ps : List (Value × Value)) × (out-Value v ≡ layer.Fun ps) × IsTrue (test ps) × Normal (value.Fun ps)
passing_function test v n h = by (out-Value v) refl (layer_normal v n) h
  where
    by : (x : Layer Value) → out-Value v ≡ x → NormalLayer x → IsTrue (function_passes test x) → (ps : List (Value × Value)) × (out-Value v ≡ layer.Fun ps) × IsTrue (test ps) × Normal (value.Fun ps)
    by (layer.Fun ps) e n k = (ps, e, k, n)
    by (layer.Bool b) e n k = absurd (false≢true k)
    by (layer.Int b) e n k = absurd (false≢true k)
    by (layer.Text b) e n k = absurd (false≢true k)
    by (layer.Set b) e n k = absurd (false≢true k)

abbrev Normals : List Value → Type 0
Normals vs = AllByRecursion Normal vs

all_members : (g : SetForm) (xs vs : List Value) → HasAll g xs → Normals vs → IsTrue (list_all (belongs g) vs) → IsTrue (subset vs xs)
all_members g xs [] h n e = refl
all_members g xs (v ∷ vs) h n e =
    and_both (member v xs) (subset vs xs) (h v n.0 (and_left (belongs g v) (list_all (belongs g) vs) e)) (all_members g xs vs h n.1 (and_right (belongs g v) (list_all (belongs g) vs) e))

all_in_set : (g : SetForm) (xs vs : List Value) → HasAll g xs → Normals vs → IsTrue (list_all (belongs g) vs) → AllIn xs vs
all_in_set g xs [] h n e = tt
all_in_set g xs (v ∷ vs) h n e =
    (h v n.0 (and_left (belongs g v) (list_all (belongs g) vs) e), all_in_set g xs vs h n.1 (and_right (belongs g v) (list_all (belongs g) vs) e))

in_set_of : (v : Value) (xs : List Value) → IsTrue (member v xs) → IsTrue (member v (set_of xs))
in_set_of v xs h = member-set_of v xs ∙ h

-- ---- the sets

-- a rising list by either of two words for it
climbs : (xs : List Value) → Rising xs → ext.Rising xs
climbs xs r = subst ext.Rising (set_of-rising xs r) (ext.set_of_rising xs)

pub subsets_have : (g : SetForm) (xs : List Value) → Rising xs → HasAll g xs → HasAll (form.Subsets g) (set_of (map (λ ys. value.Set ys) (sublists xs)))
subsets_have g xs r h v n e =
    let z = passing_set (list_all (belongs g)) v n (sym (in_subsets g v) ∙ e) in
    in_set_of v (map (λ ys. value.Set ys) (sublists xs))
    (subst (λ (u : Value). IsTrue (member u (map (λ ys. value.Set ys) (sublists xs)))) (a_set v z.0 z.1)
    (made_member (λ ys. value.Set ys) z.0 (sublists xs) (sublist_there xs z.0 r z.3.0 (all_members g xs z.0 h z.3.1 z.2))))

results_normal : (ps : List (Value × Value)) → AllByRecursion (λ p. Normal p.0 × Normal p.1) ps → Normals (results ps)
results_normal [] h = tt
results_normal (p ∷ ps) h = (h.0.1, results_normal ps h.1)

pub functions_have : (xs ts : List Value) (g : SetForm) → Rising xs → HasAll g ts → HasAll (form.Functions xs g) (set_of (map (λ ys. value.Fun (zip xs ys)) (each_to xs ts)))
functions_have xs ts g r h v n e =
    let test : List (Value × Value) → Bool = λ ps. same_set xs (arguments ps) && list_all (belongs g) (results ps) in
    let z = passing_function test v n (sym (in_functions xs g v) ∙ e) in
    let ps : List (Value × Value) = z.0 in
    let same : IsTrue (same_set xs (arguments ps)) = and_left (same_set xs (arguments ps)) (list_all (belongs g) (results ps)) z.2 in
    let inside : IsTrue (list_all (belongs g) (results ps)) = and_right (same_set xs (arguments ps)) (list_all (belongs g) (results ps)) z.2 in
    let args : xs ≡ arguments ps = same_members xs (arguments ps) (climbs xs r) (climbs (arguments ps) (rising_from (arguments ps) (fun_order ps z.3)))
    (and_left (subset xs (arguments ps)) (subset (arguments ps) xs) same) (and_right (subset xs (arguments ps)) (subset (arguments ps) xs) same) in
    let there : OneOf (results ps) (each_to xs ts) = each_there xs ts (results ps) (ap length args ∙ as_many_results ps) (all_in_set g ts (results ps) h (results_normal ps (fun_pairs ps z.3)) inside) in
    let whole : value.Fun (zip xs (results ps)) ≡ v = ap (λ (us : List Value). value.Fun (zip us (results ps))) args ∙ ap value.Fun (zip_back ps) ∙ a_function v ps z.1 in
    in_set_of v (map (λ ys. value.Fun (zip xs ys)) (each_to xs ts))
    (subst (λ (u : Value). IsTrue (member u (map (λ ys. value.Fun (zip xs ys)) (each_to xs ts)))) whole
    (made_member (λ ys. value.Fun (zip xs ys)) (results ps) (each_to xs ts) there))

-- each form with a set that has all that belongs to it
abbrev pub HaveAll : List SetForm → List (List Value) → Type 0
HaveAll [] [] = Unit {0}
HaveAll (f ∷ fs) (xs ∷ xss) = HasAll f xs × HaveAll fs xss
HaveAll [] (xs ∷ xss) = ⊥
HaveAll (f ∷ fs) [] = ⊥

in_sets : (fs : List SetForm) (xss : List (List Value)) (vs : List Value) → HaveAll fs xss → Normals vs → IsTrue (all_belong fs vs) → InSets xss vs
in_sets [] [] [] h n e = tt
in_sets [] [] (v ∷ vs) h n e = absurd (false≢true e)
in_sets [] (xs ∷ xss) vs h n e = absurd h
in_sets (f ∷ fs) [] vs h n e = absurd h
in_sets (f ∷ fs) (xs ∷ xss) [] h n e = absurd (false≢true e)
in_sets (f ∷ fs) (xs ∷ xss) (v ∷ vs) h n e =
    (h.0 v n.0 (and_left (belongs f v) (all_belong fs vs) e), in_sets fs xss vs h.1 n.1 (and_right (belongs f v) (all_belong fs vs) e))

-- the values of fields, and the items, of a normal function
fields_normal : (ns : List (List ℕ)) (ps : List (Value × Value)) → NormalPairs ps → Normals (fields_at ns ps)
fields_normal [] ps h = tt
fields_normal (n ∷ ns) ps h = by (apply ps (value.Text n)) (apply_normal ps (value.Text n) h) (fields_normal ns ps h)
  where
    by : (o : Option Value) → IfSomes Normal o → Normals (fields_at ns ps) → Normals (cons_option o (fields_at ns ps))
    by (Some v) k r = (k, r)
    by None k r = r

there_normal : (o : Option (List Value)) (vs : List Value) → IfSomes Normals o → o ≡ Some vs → Normals vs
there_normal None vs h e = absurd (none≢some e)
there_normal (Some us) vs h e = subst Normals (same e) h
  where
    same : {x y : List Value} → Some x ≡ Some y → x ≡ y
    same q = cc

pub records_have : (ns : List (List ℕ)) (fs : List SetForm) (xss : List (List Value)) → HaveAll fs xss → HasAll (form.Records ns fs) (set_of (map (record_of ns) (choices xss)))
records_have ns fs xss h v n e =
    let test : List (Value × Value) → Bool = λ ps. has_fields ns ps && all_belong fs (fields_at ns ps) in
    let z = passing_function test v n (sym (in_records ns fs v) ∙ e) in
    let ps : List (Value × Value) = z.0 in
    let named = and_left (has_fields ns ps) (all_belong fs (fields_at ns ps)) z.2 in
    let inside = and_right (has_fields ns ps) (all_belong fs (fields_at ns ps)) z.2 in
    let there = choice_there xss (fields_at ns ps) (in_sets fs xss (fields_at ns ps) h (fields_normal ns ps (fun_pairs ps z.3)) inside) in
    let whole : record_of ns (fields_at ns ps) ≡ v = record_back ps ns named (rising_from (arguments ps) (fun_order ps z.3)) ∙ a_function v ps z.1 in
    in_set_of v (map (record_of ns) (choices xss))
    (subst (λ (u : Value). IsTrue (member u (map (record_of ns) (choices xss)))) whole (made_member (record_of ns) (fields_at ns ps) (choices xss) there))

pub tuples_have : (fs : List SetForm) (xss : List (List Value)) → HaveAll fs xss → HasAll (form.Tuples fs) (set_of (map sequence (choices xss)))
tuples_have fs xss h v n e =
    let z = passing_function (λ ps. passes (all_belong fs) (items_of ps)) v n (sym (in_tuples fs v) ∙ e) in
    by z.0 z.1 (items_of z.0) refl z.2 (items_normal 1 z.0 (fun_pairs z.0 z.3))
  where
    by : (ps : List (Value × Value)) → out-Value v ≡ layer.Fun ps → (o : Option (List Value)) → items_of ps ≡ o → IsTrue (passes (all_belong fs) o) → IfSomes Normals (items_of ps) →
        IsTrue (member v (set_of (map sequence (choices xss))))
    by ps q None g k l = absurd (false≢true k)
    by ps q (Some vs) g k l =
        let there = choice_there xss vs (in_sets fs xss vs h (there_normal (items_of ps) vs l g) k) in
        let whole : sequence vs ≡ v = ap value.Fun (sym (items_back 1 ps vs g)) ∙ a_function v ps q in
        in_set_of v (map sequence (choices xss)) (subst (λ (u : Value). IsTrue (member u (map sequence (choices xss)))) whole (made_member sequence vs (choices xss) there))

-- ---- nodes

-- where there is a form that is of a set, the value is a set that has all that belongs to it
abbrev pub MembersOf : Outcome → Formed → Type 0
MembersOf o d = (f : SetForm) → d ≡ Made f → IsTrue (is_set_form f) → (xs : List Value) × (o ≡ Val (value.Set xs)) × HasAll f xs

abbrev pub HasMembers : State → State → Denotation → Type 0
HasMembers s t m = MembersOf (m.value s t) (m.form s t)

-- children that are finite have their members
abbrev pub MembersIf : State → State → List Bool → List Denotation → Type 0
MembersIf s t [] [] = Unit {0}
MembersIf s t (b ∷ bs) (m ∷ ms) = (IsTrue b → HasMembers s t m) × MembersIf s t bs ms
MembersIf s t [] (m ∷ ms) = ⊥
MembersIf s t (b ∷ bs) [] = ⊥

pub same_made : {f g : SetForm} → Made f ≡ Made g → f ≡ g
same_made e = cc

pub broken : {g : Fault} {f : SetForm} → Broken g ≡ Made f → ⊥
broken e = cc

form_is_set : (u : Value) → is_set_form (form.Plain u) ≡ is_set (out-Value u)
form_is_set u = ap is_plain_set (form.outs-Plain u)

pub plain_members : (o : Outcome) → MembersOf o (plain o)
plain_members (Wrong p) f e k = absurd (broken e)
plain_members (Big p) f e k = absurd (broken e)
plain_members (Val u) f e k =
    subst (λ (g : SetForm). (xs : List Value) × (Val u ≡ Val (value.Set xs)) × HasAll g xs) (same_made e)
    (by (out-Value u) refl (sym (form_is_set u) ∙ subst (λ (g : SetForm). IsTrue (is_set_form g)) (sym (same_made e)) k))
  where
    by : (x : Layer Value) → out-Value u ≡ x → IsTrue (is_set x) → (xs : List Value) × (Val u ≡ Val (value.Set xs)) × HasAll (form.Plain u) xs
    by (layer.Set xs) q l = (xs, ap Val (sym (a_set u xs q)), λ v n m. sym (ap (set_passes (member v)) q) ∙ sym (in_plain u v) ∙ m)
    by (layer.Bool b) q l = absurd (false≢true l)
    by (layer.Int b) q l = absurd (false≢true l)
    by (layer.Text b) q l = absurd (false≢true l)
    by (layer.Fun b) q l = absurd (false≢true l)

-- a set that is a normal value rises
pub rises : (o : Outcome) (xs : List Value) → IsNormalOutcome o → o ≡ Val (value.Set xs) → Rising xs
rises o xs n e = rising_from xs (set_order xs (subst IsNormalOutcome e n))

pub subset_members : (w : Width) (p : Place) (s t : State) (m : Denotation) → HasMembers s t m → IsNormalOutcome (m.value s t) →
    MembersOf (strict (m.value s t ∷ []) (table w p op.Powerset)) (form_of_one p form.Subsets (m.form s t ∷ []))
subset_members w p s t m h n f e k = by (m.form s t) refl e
  where
    by : (d : Formed) → m.form s t ≡ d → form_of_one p form.Subsets (d ∷ []) ≡ Made f → (xs : List Value) × (strict (m.value s t ∷ []) (table w p op.Powerset) ≡ Val (value.Set xs)) × HasAll f xs
    by (Broken g) q r = absurd (broken r)
    by (Made g) q r = test (is_set_form g) refl r
      where
        test : (b : Bool) → is_set_form g ≡ b → (if b then Made (form.Subsets g) else Broken (IsWrong p)) ≡ Made f → (xs : List Value) × (strict (m.value s t ∷ []) (table w p op.Powerset) ≡ Val (value.Set xs)) × HasAll f xs
        test false l c = absurd (broken c)
        test true l c =
            let z = h g q l in (
              set_of (map (λ ys. value.Set ys) (sublists z.0)),
              ap (λ (o : Outcome). strict (o ∷ []) (table w p op.Powerset)) z.1 ∙ ap (λ (y : Layer Value). on_set p (λ xs. Val (subsets xs)) (y ∷ [])) (value.outs-Set z.0),
              subst (λ (j : SetForm). HasAll j (set_of (map (λ ys. value.Set ys) (sublists z.0)))) (same_made c) (subsets_have g z.0 (rises (m.value s t) z.0 n z.1) z.2),
            )

pub function_members : (w : Width) (p : Place) (s t : State) (a m : Denotation) → HasMembers s t m → IsNormalOutcome (a.value s t) →
    MembersOf (strict (a.value s t ∷ m.value s t ∷ []) (table w p op.FunSet)) (function_form p (a.value s t ∷ m.value s t ∷ []) (a.form s t ∷ m.form s t ∷ []))
function_members w p s t a m h n f e k = by (a.value s t) refl n (m.form s t) refl e
  where
    Found : Outcome → Type 0
    Found o = (xs : List Value) × (strict (o ∷ m.value s t ∷ []) (table w p op.FunSet) ≡ Val (value.Set xs)) × HasAll f xs

    test : (u : Value) (xs : List Value) (g : SetForm) → out-Value u ≡ layer.Set xs → Normal u → m.form s t ≡ Made g → (b : Bool) → is_set_form g ≡ b →
        (if b then Made (form.Functions xs g) else Broken (IsWrong p)) ≡ Made f → Found (Val u)
    test u xs g q i j false l c = absurd (broken c)
    test u xs g q i j true l c =
        let z = h g j l in (
          set_of (map (λ ys. value.Fun (zip xs ys)) (each_to xs z.0)),
          ap (λ (o : Outcome). strict (Val u ∷ o ∷ []) (table w p op.FunSet)) z.1
              ∙ ap₂ (λ (x y : Layer Value). on_sets p (λ xs ts. Val (functions xs ts)) (x ∷ y ∷ [])) q (value.outs-Set z.0),
          subst (λ (d : SetForm). HasAll d (set_of (map (λ ys. value.Fun (zip xs ys)) (each_to xs z.0)))) (same_made c)
              (functions_have xs z.0 g (rises (Val u) xs i (ap Val (sym (a_set u xs q)))) z.2),
        )

    at_value : (u : Value) → Normal u → (g : SetForm) → m.form s t ≡ Made g → (x : Layer Value) → out-Value u ≡ x → functions_from p (set_items x) (Made g ∷ []) ≡ Made f → Found (Val u)
    at_value u i g j (layer.Set xs) q c = test u xs g q i j (is_set_form g) refl c
    at_value u i g j (layer.Bool b) q c = absurd (broken c)
    at_value u i g j (layer.Int b) q c = absurd (broken c)
    at_value u i g j (layer.Text b) q c = absurd (broken c)
    at_value u i g j (layer.Fun b) q c = absurd (broken c)

    by : (o : Outcome) → a.value s t ≡ o → IsNormalOutcome o → (d : Formed) → m.form s t ≡ d → function_form p (o ∷ m.value s t ∷ []) (a.form s t ∷ d ∷ []) ≡ Made f → Found o
    by (Val u) q i (Made g) j c = at_value u i g j (out-Value u) refl c
    by (Val u) q i (Broken NoFault) j c = absurd (at_none (set_items (out-Value u)) c)
      where
        at_none : (o : Option (List Value)) → functions_from p o (Broken NoFault ∷ []) ≡ Made f → ⊥
        at_none None r = broken r
        at_none (Some xs) r = broken r
    by (Val u) q i (Broken (IsWrong x)) j c = absurd (broken c)
    by (Val u) q i (Broken (IsBig x)) j c = absurd (broken c)
    by (Wrong x) q i (Made g) j c = absurd (broken c)
    by (Wrong x) q i (Broken NoFault) j c = absurd (broken c)
    by (Wrong x) q i (Broken (IsWrong y)) j c = absurd (broken c)
    by (Wrong x) q i (Broken (IsBig y)) j c = absurd (broken c)
    by (Big x) q i (Made g) j c = absurd (broken c)
    by (Big x) q i (Broken NoFault) j c = absurd (broken c)
    by (Big x) q i (Broken (IsWrong y)) j c = absurd (broken c)
    by (Big x) q i (Broken (IsBig y)) j c = absurd (broken c)
