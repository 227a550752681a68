-- The members of forms as cells.
use Rattle.std.proofs.Common.{◌≡◌, ℕ, zero, suc, ◌+◌, ◌<◌, ◌≤◌, Bool, false, List, [], ◌∷◌, ◌++◌, All, map, length, take, get_or, ◌⊎◌, inl, inr, Option, Some, refl, sym, ◌∙◌, ap, ap₂, subst, arith}
use Rattle.std.specs.Prelude.{option_and_then, option_map}
use Rattle.std.proofs.lemmas.List.{length-map, map_push, take_all, take_more}
use Rattle.std.proofs.lemmas.List.Elements.{All-cons, All-nil}
use Rattle.sat_formula.specs.Formula.{Satisfies}
use Rattle.sat_formula.specs.declared.lit.Lit.{Lit}
use Rattle.tla_values.specs.Order.{Layer}
use Rattle.tla_values.specs.Sets.{Normal, elements, elements_here}
use Rattle.tla_values.specs.declared.value.Value.{Value, out-Value}
use Rattle.tla_values.specs.declared.value.Value.TheVariants as value
use Rattle.tla_values.specs.declared.value.Value.TheOpen as layer
use Rattle.tla_values.proofs.Members.{elements-set}
use Rattle.tla_values.proofs.SetLaws.{Rising}
use Rattle.tla_meaning.specs.declared.forms.SetForm.{SetForm}
use Rattle.tla_meaning.specs.declared.forms.SetForm.TheVariants as set
use Rattle.tla_meaning.specs.declared.op.Op.TheVariants as op
use Rattle.tla_meaning.specs.declared.outcome.Outcome.{Outcome}
use Rattle.tla_meaning.specs.declared.outcome.Outcome.TheVariants.{Val}
use Rattle.tla_meaning.specs.declared.place.Place.{Place}
use Rattle.tla_meaning.specs.Shapes.{all_set_items, records, set_items, tuples}
use Rattle.tla_meaning.proofs.NormalShapes.{NormalLayer, layer_normal}
use Rattle.cell_arena.specs.declared.build.Build.{Build}
use Rattle.cell_arena.specs.declared.kinds.CellId.{CellId}
use Rattle.cell_arena.specs.declared.kinds.CellKind.{CellKind}
use Rattle.cell_arena.specs.Cells.{AllDiffer}
use Rattle.cell_arena.specs.Decode.{decode}
use Rattle.cell_arena.specs.Growth.{Grows}
use Rattle.cell_arena.proofs.Growing.{Satisfies-before, decode-before}
use Rattle.cell_merge.specs.Picks.{IsSetCell}
use Rattle.cell_merge.specs.Sorts.{OfSort, Sort, set_of as set_sort}
use Rattle.cell_merge.proofs.Edges.{sort-there}
use Rattle.cell_merge.proofs.Normals.{decoded-normal}
use Rattle.cell_merge.proofs.SortLaws.{OfSort-later}
use Rattle.set_rewriter.specs.Subsets.{IsPowerset, all_subsets}
use Rattle.function_rewriter.specs.FunctionSets.{AreSetCells, IsFunctionSet, all_functions}
use Rattle.outcome_cells.specs.declared.cells.Cells.{Cells}
use Rattle.outcome_cells.specs.Shows.{Shows}
use Rattle.typed_cells.specs.KindSorts.{OfSorts, tuple_sort}
use Rattle.typed_cells.specs.Known.{IsSetOfEdges}
use Rattle.typed_cells.proofs.PartSorts.{OfSorts-later, sorts-count}
use Rattle.member_choices.specs.Binders.{MakesProduct, fields_sort}
use Rattle.member_choices.proofs.Crossed.{product-gives, records-gives}
use Rattle.form_cells.specs.declared.form.Form.{Form, Functions, Ints, Nats, Plain, Records, Sequences, Subsets, Texts, Tuples}
use Rattle.form_cells.specs.FormSorts.{AreFormsOf, IsFormOf, more, none}
use Rattle.form_cells.specs.FormValues.{form_value}
use Rattle.form_cells.proofs.FormsLater.{IsFormOf-later, set-value, value-later}
use Rattle.form_cells.proofs.Opened.{sort-functions, sort-plain, sort-records, sort-subsets, sort-tuples, value-functions, value-ints, value-nats, value-plain, value-records, value-sequences, value-subsets, value-texts, value-tuples}
use Rattle.form_choices.specs.FiniteForms.{is_finite}
use Rattle.form_choices.specs.FormPicks.{HasMemberSort}
use Rattle.form_choices.specs.inner.Parts.{AreFields, AreFunctions, AreMembersOf, HaveMemberSorts, HaveMembers, Lists, ListsEach, ListsForm, ListsRecords, ListsTuples, form_values}
use Rattle.form_choices.proofs.FiniteLaws.{finite-ints, finite-nats, finite-sequences, finite-texts}
use Rattle.form_choices.proofs.SetMembers.{function-members, no-members, not-finite, plain-members, record-members, subset-members, tuple-members}

-- ---- values

-- the members of a normal value rise
pub elements-rise : (v : Value) → Normal v → Rising (elements v)
unfolding elements
elements-rise v n = by (out-Value v) (layer_normal v n)
  where
    by : (x : Layer Value) → NormalLayer x → Rising (elements_here x)
    by (layer.Bool b) h = tt
    by (layer.Int i) h = tt
    by (layer.Text t) h = tt
    by (layer.Set xs) h = h.0
    by (layer.Fun ps) h = tt

pub cell-rises : (b : Build) (a : List Bool) (id : CellId) → Rising (elements (decode b.arena a id))
cell-rises b a id = elements-rise (decode b.arena a id) (decoded-normal b.arena a id)

-- ---- the parts of a form

pub subsets-part : (ks : List CellKind) (f g : Form) → HasMemberSort ks f → f ≡ Subsets g → HasMemberSort ks g
subsets-part ks f g h e = let p = sort-subsets ks h.sort f h.is g e in record { sort = p.0; is = p.1.1 }

pub functions-part : (ks : List CellKind) (f g : Form) (x : CellId) → HasMemberSort ks f → f ≡ Functions x g → AreFunctions ks x g
functions-part ks f g x h e =
    let p = sort-functions ks h.sort f h.is x g e in record { from = p.from; domain = p.domain; to = p.to; results = p.results }

pub records-part : (ks : List CellKind) (f : Form) (names : List (List ℕ)) (fs : List Form) → HasMemberSort ks f → f ≡ Records names fs → AreFields ks names fs
records-part ks f names fs h e =
    let p = sort-records ks h.sort f h.is names fs e in record { sorts = record { sorts = p.sorts; are = p.forms }; one_each = p.count }

pub tuples-part : (ks : List CellKind) (f : Form) (fs : List Form) → HasMemberSort ks f → f ≡ Tuples fs → HaveMemberSorts ks fs
tuples-part ks f fs h e = let p = sort-tuples ks h.sort f h.is fs e in record { sorts = p.sorts; are = p.forms }

-- ---- lists of a form's members

-- a form of these values and sorts
pub lists-as : (old new : Build) (f : Form) {I : Type 0} (sorts : I → Sort) (given : I → Type 0) (form : List Bool → SetForm) (id : CellId)
    → ((a : List Bool) → form_value old.arena a f ≡ form a) → ((s : Sort) → IsFormOf old.arena.kinds s f → (i : I) × ((s ≡ sorts i) × given i))
    → Lists new sorts given form id → ListsForm old new f id
lists-as old new f sorts given form id same sorted h = record {
  sort = λ s o. let i = sorted s o in subst (λ t. OfSort new.arena.kinds (set_sort t) id) (sym i.1.0) (h.sort i.0 i.1.1);
  members = λ a s. subst (λ g. AreMembersOf g (elements (decode new.arena a id))) (sym (same a)) (h.members a s);
}

pub lists-plain : (b : Build) (f : Form) (x : CellId) → HasMemberSort b.arena.kinds f → f ≡ Plain x → ListsForm b b f x
lists-plain b f x h e = record {
  sort = λ s o. sort-plain b.arena.kinds s f o x e;
  members = λ a s.
      let v = set-value b.arena a b.built h.sort x (sort-plain b.arena.kinds h.sort f h.is x e) in
      subst (λ g. AreMembersOf g (elements (decode b.arena a x))) (sym (value-plain b.arena a f x e)) (plain-members (decode b.arena a x) v.items v.is);
}

-- the set without members
pub none-there : (old new : Build) (id : CellId) → IsSetOfEdges old new [] id → (a : List Bool) → Satisfies a new.formula → elements (decode new.arena a id) ≡ []
none-there old new id h a s = ap elements (h.value.value a s) ∙ elements-set []

pub none-sort : (old new : Build) (id : CellId) → IsSetOfEdges old new [] id → (s : Sort) → OfSort new.arena.kinds (set_sort s) id
none-sort old new id h s = h.sort s (All-nil (λ (x : Lit × CellId). OfSort old.arena.kinds s x.1))

pub lists-none : (old new : Build) (f : Form) (id : CellId) → IsSetOfEdges old new [] id → ((a : List Bool) → is_finite (form_value old.arena a f) ≡ false) → ListsForm old new f id
lists-none old new f id h endless = record {
  sort = λ s o. none-sort old new id h s;
  members = λ a s. subst (AreMembersOf (form_value old.arena a f)) (sym (none-there old new id h a s)) (no-members (form_value old.arena a f) (not-finite (form_value old.arena a f) (endless a)));
}

module _ (old : Build) (f : Form) where
  abbrev pub Endless : Type 0
  Endless = (a : List Bool) → is_finite (form_value old.arena a f) ≡ false

  pub endless-ints : f ≡ Ints → Endless
  endless-ints e a = ap is_finite (value-ints old.arena a f e) ∙ finite-ints

  pub endless-nats : f ≡ Nats → Endless
  endless-nats e a = ap is_finite (value-nats old.arena a f e) ∙ finite-nats

  pub endless-texts : f ≡ Texts → Endless
  endless-texts e a = ap is_finite (value-texts old.arena a f e) ∙ finite-texts

  pub endless-sequences : (g : Form) → f ≡ Sequences g → Endless
  endless-sequences g e a = ap is_finite (value-sequences old.arena a f g e) ∙ finite-sequences (form_value old.arena a g)

-- any of them
pub endless-any : (old : Build) (f : Form) → (f ≡ Ints) ⊎ ((f ≡ Nats) ⊎ ((f ≡ Texts) ⊎ ((g : Form) × (f ≡ Sequences g)))) → Endless old f
endless-any old f (inl e) = endless-ints old f e
endless-any old f (inr (inl e)) = endless-nats old f e
endless-any old f (inr (inr (inl e))) = endless-texts old f e
endless-any old f (inr (inr (inr e))) = endless-sequences old f e.0 e.1

pub lists-subsets : (old mid new : Build) (f g : Form) (x id : CellId) → HasMemberSort old.arena.kinds f → f ≡ Subsets g → Grows mid new → ListsForm old mid g x → IsPowerset mid new x id → ListsForm old new f id
lists-subsets old mid new f g x id h e grows lists is = record {
  sort = λ s o.
      let p = sort-subsets old.arena.kinds s f o g e in
      subst (λ t. OfSort new.arena.kinds (set_sort t) id) (sym p.1.0) (is.sort p.0 (lists.sort p.0 p.1.1));
  members = λ a s.
      subst (λ v. AreMembersOf (form_value old.arena a f) (elements v)) (sym (is.value.value a s))
      (subst (λ k. AreMembersOf k (elements (all_subsets (elements (decode mid.arena a x))))) (sym (value-subsets old.arena a f g e))
      (subset-members (form_value old.arena a g) (elements (decode mid.arena a x)) (cell-rises mid a x) (lists.members a (Satisfies-before mid new a grows s))));
}

pub set-of-form : (old mid : Build) (f : Form) (x : CellId) → HasMemberSort old.arena.kinds f → ListsForm old mid f x → IsSetCell mid x
set-of-form old mid f x h lists = record { sort = h.sort; is = lists.sort h.sort h.is }

pub sets-of-functions : (old mid : Build) (f g : Form) (s x : CellId) → HasMemberSort old.arena.kinds f → f ≡ Functions s g → Grows old mid → ListsForm old mid g x → AreSetCells mid s x
sets-of-functions old mid f g s x h e grows lists =
    let p = functions-part old.arena.kinds f g s h e in record {
      domain = record { sort = p.from; is = OfSort-later old mid (set_sort p.from) s p.domain grows };
      range = record { sort = p.to; is = lists.sort p.to p.results };
    }

pub lists-functions : (old mid new : Build) (f g : Form) (s x id : CellId) → HasMemberSort old.arena.kinds f → f ≡ Functions s g → Grows old mid → Grows mid new → ListsForm old mid g x
    → IsFunctionSet mid new s x id → ListsForm old new f id
lists-functions old mid new f g s x id h e before grows lists is = record {
  sort = λ r o.
      let p = sort-functions old.arena.kinds r f o s g e in
      subst (λ t. OfSort new.arena.kinds (set_sort t) id) (sym p.is) (is.sort p.from p.to (OfSort-later old mid (set_sort p.from) s p.domain before) (lists.sort p.to p.results));
  members = λ a sat.
      let p = functions-part old.arena.kinds f g s h e in
      let same : decode mid.arena a s ≡ decode old.arena a s = decode-before old mid a s before (sort-there old.arena.kinds (set_sort p.from) s p.domain) in
      subst (λ v. AreMembersOf (form_value old.arena a f) (elements v)) (sym (is.value.value a sat))
      (subst (λ k. AreMembersOf k (elements (all_functions (elements (decode mid.arena a s)) (elements (decode mid.arena a x))))) (sym (value-functions old.arena a f g s e ∙ ap (λ v. set.Functions (elements v) (form_value old.arena a g)) (sym same)))
      (function-members (elements (decode mid.arena a s)) (elements (decode mid.arena a x)) (form_value old.arena a g) (cell-rises mid a s) (lists.members a (Satisfies-before mid new a grows sat))));
}

pub lists-records-form : (old new : Build) (f : Form) (names : List (List ℕ)) (fs : List Form) (id : CellId) → f ≡ Records names fs → ListsRecords old new names fs id → ListsForm old new f id
lists-records-form old new f names fs id e h =
    lists-as old new f _ _ _ id (λ a. value-records old.arena a f names fs e)
    (λ s o. let p = sort-records old.arena.kinds s f o names fs e in (p.sorts, (p.is, p.forms))) h

pub lists-tuples-form : (old new : Build) (f : Form) (fs : List Form) (id : CellId) → f ≡ Tuples fs → ListsTuples old new fs id → ListsForm old new f id
lists-tuples-form old new f fs id e h =
    lists-as old new f _ _ _ id (λ a. value-tuples old.arena a f fs e)
    (λ s o. let p = sort-tuples old.arena.kinds s f o fs e in (p.sorts, (p.is, p.forms))) h

-- ---- lists of members of several forms

pub forms-count : (ks : List CellKind) (ss : List Sort) (fs : List Form) → AreFormsOf ks ss fs → length ss ≡ length fs
forms-count ks ss fs none = refl
forms-count ks ss fs (more s rs f gs h k) = ap suc (forms-count ks rs gs k)

pub sets-are : (b : Build) (ss : List Sort) (ids : List CellId) → OfSorts b.arena.kinds (map set_sort ss) ids → All (IsSetCell b) ids
sets-are b [] [] h = All-nil (IsSetCell b)
sets-are b [] (x ∷ ids) h = absurd h
sets-are b (s ∷ ss) [] h = absurd h
sets-are b (s ∷ ss) (x ∷ ids) h = All-cons (IsSetCell b) x ids (record { sort = s; is = h.0 }) (sets-are b ss ids h.1)

items-of : (b : Build) (a : List Bool) (ss : List Sort) (ids : List CellId) → OfSorts b.arena.kinds (map set_sort ss) ids →
    all_set_items (map (decode b.arena a) ids) ≡ Some (map (λ id. elements (decode b.arena a id)) ids)
items-of b a [] [] h = refl
items-of b a [] (x ∷ ids) h = absurd h
items-of b a (s ∷ ss) [] h = absurd h
items-of b a (s ∷ ss) (x ∷ ids) h =
    let v = set-value b.arena a b.built s x h.0 in
    let one : set_items (out-Value (decode b.arena a x)) ≡ Some (elements (decode b.arena a x)) =
    ap (λ u. set_items (out-Value u)) v.is ∙ ap set_items (value.outs-Set v.items) ∙ ap Some (sym (ap elements v.is ∙ elements-set v.items)) in
    ap (λ (o : Option (List Value)). option_and_then (λ zs. option_map (λ zss. zs ∷ zss) (all_set_items (map (decode b.arena a) ids))) o) one
    ∙ ap (option_map (λ (zss : List (List Value)). elements (decode b.arena a x) ∷ zss)) (items-of b a ss ids h.1)

shown-value : (new : Build) (a : List Bool) (r : Cells) (o : Outcome) (v : Value) → Shows new.arena a r o → o ≡ Val v → decode new.arena a r.cell ≡ v
shown-value new a r o v h e = h.shown.value v e

pub each-sets : (old mid : Build) (fs : List Form) (ids : List CellId) → HaveMemberSorts old.arena.kinds fs → ListsEach old mid fs ids → All (IsSetCell mid) ids
each-sets old mid fs ids h each = sets-are mid h.sorts ids (each.sorts h.sorts h.are)

pub each-count : (old mid : Build) (fs : List Form) (ids : List CellId) → HaveMemberSorts old.arena.kinds fs → ListsEach old mid fs ids → length ids ≡ length fs
each-count old mid fs ids h each =
    sorts-count mid.arena.kinds (map set_sort h.sorts) ids (each.sorts h.sorts h.are) ∙ length-map h.sorts set_sort ∙ forms-count old.arena.kinds h.sorts fs h.are

module _ (old mid new : Build) (fs : List Form) (ids : List CellId) (r : Cells) (h : HaveMemberSorts old.arena.kinds fs) (each : ListsEach old mid fs ids) (grows : Grows mid new) where
  sets : OfSorts mid.arena.kinds (map set_sort h.sorts) ids
  sets = each.sorts h.sorts h.are

  pub tuples-listed : MakesProduct mid new op.Product tuple_sort ids r → ListsTuples old new fs r.cell
  tuples-listed made = record {
    sort = λ ss o. (made.cells ss (each.sorts ss o)).sort;
    members = λ a s.
        let p : Place = record { file = 0; line = 0; col = 0 } in
        let xss : List (List Value) = map (λ id. elements (decode mid.arena a id)) ids in
        subst (λ v. AreMembersOf (set.Tuples (form_values old a fs)) (elements v))
        (sym (shown-value new a r _ (tuples xss) (made.row.shows a s p) (product-gives (Some new.arena.width) p (map (decode mid.arena a) ids) xss (items-of mid a h.sorts ids sets))))
        (tuple-members (form_values old a fs) xss (each.members a (Satisfies-before mid new a grows s)));
  }

  pub records-listed : (names : List (List ℕ)) → AllDiffer names → length names ≡ length fs → MakesProduct mid new (op.RecSet names) (fields_sort names) ids r → ListsRecords old new names fs r.cell
  records-listed names differ count made = record {
    sort = λ ss o. (made.cells ss (each.sorts ss o)).sort;
    members = λ a s.
        let p : Place = record { file = 0; line = 0; col = 0 } in
        let xss : List (List Value) = map (λ id. elements (decode mid.arena a id)) ids in
        subst (λ v. AreMembersOf (set.Records names (form_values old a fs)) (elements v))
        (sym (shown-value new a r _ (records names xss) (made.row.shows a s p) (records-gives names (Some new.arena.width) p (map (decode mid.arena a) ids) xss (items-of mid a h.sorts ids sets))))
        (record-members names (form_values old a fs) xss differ (length-map fs (form_value old.arena a) ∙ sym count) (each.members a (Satisfies-before mid new a grows s)));
  }

-- ---- form by form

-- the first forms and one more
pub record SplitForms (ks : List CellKind) (ss : List Sort) (fs : List Form) (f : Form) : Type 0 where
  pub front : List Sort
  pub last : Sort
  pub is : ss ≡ front ++ last ∷ []
  pub forms : AreFormsOf ks front fs
  pub form : IsFormOf ks last f

no-forms : (ks : List CellKind) (ss : List Sort) → AreFormsOf ks ss [] → ss ≡ []
no-forms ks ss none = refl

pub split-forms : (ks : List CellKind) (ss : List Sort) (fs : List Form) (f : Form) → AreFormsOf ks ss (fs ++ f ∷ []) → SplitForms ks ss fs f
split-forms ks ss [] f (more s rs _ _ h k) = record { front = []; last = s; is = ap (λ (l : List Sort). s ∷ l) (no-forms ks rs k); forms = none; form = h }
split-forms ks ss (g ∷ fs) f (more s rs _ _ h k) =
    let r = split-forms ks rs fs f k in
    record { front = s ∷ r.front; last = r.last; is = ap (λ (l : List Sort). s ∷ l) r.is; forms = more s r.front g fs h r.forms; form = r.form }

pub sorts-push : (ks : List CellKind) (ss : List Sort) (xs : List CellId) (s : Sort) (x : CellId) → OfSorts ks ss xs → OfSort ks s x → OfSorts ks (ss ++ s ∷ []) (xs ++ x ∷ [])
sorts-push ks [] [] s x h o = (o, tt)
sorts-push ks [] (y ∷ xs) s x h o = absurd h
sorts-push ks (r ∷ ss) [] s x h o = absurd h
sorts-push ks (r ∷ ss) (y ∷ xs) s x h o = (h.0, sorts-push ks ss xs s x h.1 o)

pub form-at : (ks : List CellKind) (ss : List Sort) (fs : List Form) (i : ℕ) (f : Form) → AreFormsOf ks ss fs → i < length fs → f ≡ get_or fs i f → HasMemberSort ks f
form-at ks ss fs i f none lt is = absurd (omega arith)
form-at ks ss fs zero f (more s rs g gs h k) lt is = record { sort = s; is = subst (IsFormOf ks s) (sym is) h }
form-at ks ss fs (suc i) f (more s rs g gs h k) lt is = form-at ks rs gs i f k (omega arith) is

pub part-asked : (old mid : Build) (fs : List Form) (i : ℕ) (f : Form) → HaveMemberSorts old.arena.kinds fs → Grows old mid → i < length fs → f ≡ get_or fs i f → HasMemberSort mid.arena.kinds f
part-asked old mid fs i f h g lt is = let p = form-at old.arena.kinds h.sorts fs i f h.are lt is in record { sort = p.sort; is = IsFormOf-later old mid g p.sort f p.is }

pub form-later : (old mid : Build) (f : Form) → HasMemberSort old.arena.kinds f → Grows old mid → HasMemberSort mid.arena.kinds f
form-later old mid f h g = record { sort = h.sort; is = IsFormOf-later old mid g h.sort f h.is }

have-members-push : (gs : List SetForm) (xss : List (List Value)) (g : SetForm) (xs : List Value) → HaveMembers gs xss → AreMembersOf g xs → HaveMembers (gs ++ g ∷ []) (xss ++ xs ∷ [])
have-members-push [] [] g xs h k = (k, tt)
have-members-push [] (ys ∷ xss) g xs h k = absurd h
have-members-push (f ∷ gs) [] g xs h k = absurd h
have-members-push (f ∷ gs) (ys ∷ xss) g xs h k = (h.0, have-members-push gs xss g xs h.1 k)

-- older cells keep their values
pub values-before : (b c : Build) (a : List Bool) (ss : List Sort) (xs : List CellId) → Grows b c → OfSorts b.arena.kinds ss xs → map (decode c.arena a) xs ≡ map (decode b.arena a) xs
values-before b c a [] [] g h = refl
values-before b c a [] (x ∷ xs) g h = absurd h
values-before b c a (s ∷ ss) [] g h = absurd h
values-before b c a (s ∷ ss) (x ∷ xs) g h = ap₂ (λ v vs. v ∷ vs) (decode-before b c a x g (sort-there b.arena.kinds s x h.0)) (values-before b c a ss xs g h.1)

elements-before : (b c : Build) (a : List Bool) (ss : List Sort) (xs : List CellId) → Grows b c → OfSorts b.arena.kinds ss xs →
    map (λ id. elements (decode c.arena a id)) xs ≡ map (λ id. elements (decode b.arena a id)) xs
elements-before b c a [] [] g h = refl
elements-before b c a [] (x ∷ xs) g h = absurd h
elements-before b c a (s ∷ ss) [] g h = absurd h
elements-before b c a (s ∷ ss) (x ∷ xs) g h =
    ap₂ (λ v (vs : List (List Value)). elements v ∷ vs) (decode-before b c a x g (sort-there b.arena.kinds s x h.0)) (elements-before b c a ss xs g h.1)

no-first : (fs : List Form) → take 0 fs ≡ []
no-first [] = refl
no-first (f ∷ fs) = refl

pub each-none : (b : Build) (fs : List Form) (ids : List CellId) → ids ≡ [] → ListsEach b b (take 0 fs) ids
each-none b fs ids e = rw (e, no-first fs) (record { sorts = λ ss o. sorts ss o; members = λ a s. tt })
  where
    sorts : (ss : List Sort) → AreFormsOf b.arena.kinds ss [] → OfSorts b.arena.kinds (map set_sort ss) []
    sorts ss none = tt

pub front-sorts : (ks : List CellKind) (ss : List Sort) (fs : List Form) (i : ℕ) → AreFormsOf ks ss fs → HaveMemberSorts ks (take i fs)
front-sorts ks ss fs zero none = record { sorts = []; are = none }
front-sorts ks ss fs (suc i) none = record { sorts = []; are = none }
front-sorts ks ss fs zero (more s rs g gs h k) = record { sorts = []; are = none }
front-sorts ks ss fs (suc i) (more s rs g gs h k) = let r = front-sorts ks rs gs i k in record { sorts = s ∷ r.sorts; are = more s r.sorts g (take i gs) h r.are }

pub each-more : (old mid new : Build) (fs : List Form) (i : ℕ) (f : Form) (ids after : List CellId) (x : CellId) → HaveMemberSorts old.arena.kinds fs → Grows old mid → Grows mid new → i < length fs → f ≡ get_or fs i f
    → ListsEach old mid (take i fs) ids → ListsForm mid new f x → after ≡ ids ++ x ∷ [] → ListsEach old new (take (i + 1) fs) after
each-more old mid new fs i f ids after x h before grows lt is each one pushed =
    let more_forms : take (i + 1) fs ≡ take i fs ++ f ∷ [] = take_more fs i f lt ∙ ap (λ g. take i fs ++ g ∷ []) (sym is) in
    rw (pushed, more_forms) (record {
      sorts = λ ss o.
          let p = split-forms old.arena.kinds ss (take i fs) f o in
          subst (λ (rs : List Sort). OfSorts new.arena.kinds rs (ids ++ x ∷ [])) (sym (ap (map set_sort) p.is ∙ map_push set_sort p.front p.last))
          (sorts-push new.arena.kinds (map set_sort p.front) ids (set_sort p.last) x (OfSorts-later mid new (map set_sort p.front) ids (each.sorts p.front p.forms) grows) (one.sort p.last (IsFormOf-later old mid before p.last f p.form)));
      members = λ a s.
          let q = form-at old.arena.kinds h.sorts fs i f h.are lt is in
          let r = front-sorts old.arena.kinds h.sorts fs i h.are in
          subst (λ (gs : List SetForm). HaveMembers gs (map (λ id. elements (decode new.arena a id)) (ids ++ x ∷ []))) (sym (map_push (form_value old.arena a) (take i fs) f))
          (subst (λ (xss : List (List Value)). HaveMembers (form_values old a (take i fs) ++ form_value old.arena a f ∷ []) xss) (sym (map_push (λ id. elements (decode new.arena a id)) ids x))
          (have-members-push (form_values old a (take i fs)) (map (λ id. elements (decode new.arena a id)) ids) (form_value old.arena a f) (elements (decode new.arena a x))
          (subst (HaveMembers (form_values old a (take i fs))) (sym (elements-before mid new a (map set_sort r.sorts) ids grows (each.sorts r.sorts r.are))) (each.members a (Satisfies-before mid new a grows s)))
          (subst (λ g. AreMembersOf g (elements (decode new.arena a x))) (value-later old mid before a q.sort f q.is) (one.members a s))));
    })

pub each-all : (old new : Build) (fs : List Form) (i : ℕ) (ids : List CellId) → length fs ≤ i → ListsEach old new (take i fs) ids → ListsEach old new fs ids
each-all old new fs i ids le h = subst (λ (gs : List Form). ListsEach old new gs ids) (take_all i fs le) h
