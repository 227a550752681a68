-- Members of forms by free choice, form by form.
use Rattle.std.proofs.Common.{◌≡◌, ℕ, zero, suc, ◌+◌, ◌<◌, ◌≤◌, Bool, true, false, ◌&&◌, List, [], ◌∷◌, ◌++◌, All, map, length, take, get_or, Option, Some, None, IfSome, refl, sym, ◌∙◌, ap, ap₂, subst, arith, append_assoc}
use Rattle.std.specs.List.{list_all}
use Rattle.std.proofs.lemmas.List.{append-nil, length-map, length_push, map_push, take_all, take_more}
use Rattle.std.proofs.lemmas.List.Elements.{All-head, All-nil, All-push, All-tail}
use Rattle.std.proofs.lemmas.List.Folds.{list_all-append}
use Rattle.sat_formula.specs.declared.lit.Lit.{Lit}
use Rattle.sat_formula.specs.Lit.{IsBelow, lit_value, values}
use Rattle.sat_formula.specs.Formula.{HasValue, Satisfies}
use Rattle.sat_formula.proofs.Extension.{lit_value-append}
use Rattle.tla_values.specs.Sets.{elements, member}
use Rattle.tla_values.specs.declared.value.Value.{Value}
use Rattle.tla_meaning.specs.declared.forms.SetForm.{SetForm}
use Rattle.tla_meaning.specs.declared.forms.SetForm.TheVariants as set
use Rattle.tla_meaning.specs.Forms.{all_belong, belongs}
use Rattle.tla_meaning.specs.Shapes.{record_of}
use Rattle.tla_values.specs.Sequences.{sequence}
use Rattle.cell_arena.specs.declared.build.Build.{Build}
use Rattle.cell_arena.specs.declared.kinds.CellId.{CellId}
use Rattle.cell_arena.specs.declared.kinds.CellKind.{CellKind}
use Rattle.cell_arena.specs.declared.kinds.CellKind.TheVariants.{Set}
use Rattle.cell_arena.specs.Cells.{kind_at}
use Rattle.cell_arena.specs.Decode.{decode}
use Rattle.cell_arena.specs.Growth.{Grows}
use Rattle.cell_arena.proofs.Growing.{Grows-refl, Grows-trans, Satisfies-before, decode-assigned, decode-before}
use Rattle.cell_merge.specs.Picks.{IsSetCell, PicksFrom, Reaches}
use Rattle.cell_merge.specs.Sorts.{OfSort, Sort, set_of as set_sort}
use Rattle.cell_merge.proofs.Along.{values-push}
use Rattle.cell_merge.proofs.Edges.{sort-there}
use Rattle.cell_merge.proofs.Layering.{goes-on}
use Rattle.cell_merge.proofs.Normals.{decoded-normal}
use Rattle.cell_merge.proofs.SortLaws.{OfSort-later}
use Rattle.cell_merge.proofs.Tested.{named-later}
use Rattle.set_rewriter.specs.Subsets.{PicksSubset}
use Rattle.function_rewriter.specs.FunctionSets.{AreSetCells, PicksFunction}
use Rattle.function_rewriter.proofs.FunctionPicks.{empty-set}
use Rattle.typed_cells.specs.KindSorts.{OfSorts}
use Rattle.typed_cells.proofs.PartSorts.{OfSorts-later, sorts-count, sorts-there}
use Rattle.typed_cells.specs.Known.{IsSetOfEdges}
use Rattle.form_cells.specs.declared.form.Form.{Form, Functions, Plain, Records, Subsets, Tuples}
use Rattle.form_cells.specs.FormSorts.{AreFormsOf, IsFormOf, more, none}
use Rattle.form_cells.specs.FormValues.{form_value}
use Rattle.form_cells.proofs.FormsLater.{IsFormOf-later, set-value, value-later}
use Rattle.form_cells.proofs.Meant.{meant-plain}
use Rattle.form_cells.proofs.Opened.{sort-functions, sort-plain, sort-records, sort-subsets, sort-tuples, value-functions, value-plain, value-records, value-subsets, value-tuples}
use Rattle.form_choices.specs.FiniteForms.{is_finite}
use Rattle.form_choices.specs.FormPicks.{HasMemberSort, HasNoMember, IsMember, PicksMember}
use Rattle.form_choices.specs.inner.Parts.{AreFunctions, AreMembers, AreMembersOf, BelongWhere, HaveMemberSorts, HaveNoMembers, HaveParts, ListsForm, MakesRecord, MakesTuple, Picks, PicksEach, PicksRecord, PicksToNone, PicksTuple, ReachesAll, form_values, repeated}
use Rattle.form_choices.specs.inner.Parts.{PicksFunction as PicksRule, PicksSubset as PicksSome}
use Rattle.form_choices.proofs.FormsAssigned.{value-goes-on, value-on}
use Rattle.form_choices.proofs.Listings.{cell-rises, form-at, forms-count, front-sorts, none-sort, none-there, sorts-push, split-forms, values-before}
use Rattle.form_choices.proofs.SetMembers.{function-members, no-members, not-finite, plain-members, subset-members}
use Rattle.form_choices.proofs.ValueParts.{both_so, first_so, record-belongs, record-parts, second_so, tuple-belongs, tuple-parts}

-- ---- a form of given values and sorts

pub picks-as : (old new : Build) (f : Form) {I : Type 0} (sorts : I → Sort) (given : I → Type 0) (form : List Bool → SetForm) (r : CellId × Lit)
    → ((a : List Bool) → form_value old.arena a f ≡ form a) → ((s : Sort) → IsFormOf old.arena.kinds s f → (i : I) × ((s ≡ sorts i) × given i))
    → Picks old new sorts given form r → PicksMember old new f r
picks-as old new f sorts given form r same sorted h = record {
  below = h.below;
  sort = λ s o. let i = sorted s o in subst (λ t. OfSort new.arena.kinds t r.0) (sym i.1.0) (h.sort i.0 i.1.1);
  sound = λ a s on. ap (λ g. belongs g (decode new.arena a r.0)) (same a) ∙ h.sound a s on;
  complete = λ a n s v m. h.complete a n s v (subst (λ g. IsMember g v) (same a) m);
}

pub picks-subsets-form : (old new : Build) (f g : Form) (r : CellId × Lit) → f ≡ Subsets g → PicksSome old new g r → PicksMember old new f r
picks-subsets-form old new f g r e h =
    picks-as old new f _ _ _ r (λ a. value-subsets old.arena a f g e) (λ s o. let p = sort-subsets old.arena.kinds s f o g e in (p.0, (p.1.0, p.1.1))) h

pub picks-functions-form : (old new : Build) (f g : Form) (x : CellId) (r : CellId × Lit) → f ≡ Functions x g → PicksRule old new x g r → PicksMember old new f r
picks-functions-form old new f g x r e h =
    picks-as old new f _ _ _ r (λ a. value-functions old.arena a f g x e)
    (λ s o. let p = sort-functions old.arena.kinds s f o x g e in ((p.from, p.to), (p.is, (p.domain, p.results)))) h

pub picks-records-form : (old new : Build) (f : Form) (names : List (List ℕ)) (fs : List Form) (r : CellId × Lit) → f ≡ Records names fs → PicksRecord old new names fs r → PicksMember old new f r
picks-records-form old new f names fs r e h =
    picks-as old new f _ _ _ r (λ a. value-records old.arena a f names fs e)
    (λ s o. let p = sort-records old.arena.kinds s f o names fs e in (p.sorts, (p.is, p.forms))) h

pub picks-tuples-form : (old new : Build) (f : Form) (fs : List Form) (r : CellId × Lit) → f ≡ Tuples fs → PicksTuple old new fs r → PicksMember old new f r
picks-tuples-form old new f fs r e h =
    picks-as old new f _ _ _ r (λ a. value-tuples old.arena a f fs e)
    (λ s o. let p = sort-tuples old.arena.kinds s f o fs e in (p.sorts, (p.is, p.forms))) h

pub if-some : {X : Type 0} (P Q : X → Type 0) (o : Option X) → ((x : X) → P x → Q x) → IfSome o P → IfSome o Q
if-some P Q None f h = h
if-some P Q (Some x) f h = f x h

-- ---- no member

pub none-records : (old : Build) (f : Form) (names : List (List ℕ)) (fs : List Form) → f ≡ Records names fs → HaveNoMembers old fs → HasNoMember old f
none-records old f names fs e h a v m =
    let p = record-parts names (form_values old a fs) v (subst (λ g. IsMember g v) (value-records old.arena a f names fs e) m) in
    h a p.fields p.members

pub none-tuples : (old : Build) (f : Form) (fs : List Form) → f ≡ Tuples fs → HaveNoMembers old fs → HasNoMember old f
none-tuples old f fs e h a v m =
    let p = tuple-parts (form_values old a fs) v (subst (λ g. IsMember g v) (value-tuples old.arena a f fs e) m) in
    h a p.items p.members

pub none-endless : (old : Build) (f : Form) → ((a : List Bool) → is_finite (form_value old.arena a f) ≡ false) → HasNoMember old f
none-endless old f h a v m = not-finite (form_value old.arena a f) (h a) v m

pub none-later : (old mid : Build) (f : Form) → HasMemberSort old.arena.kinds f → Grows old mid → HasNoMember mid f → HasNoMember old f
none-later old mid f h g none_there a v m = none_there a v (subst (λ k. IsMember k v) (sym (value-later old mid g a h.sort f h.is)) m)

-- ---- plain sets

module _ (old : Build) (f : Form) (x : CellId) (h : HasMemberSort old.arena.kinds f) (e : f ≡ Plain x) where
  cell-sort : OfSort old.arena.kinds (set_sort h.sort) x
  cell-sort = sort-plain old.arena.kinds h.sort f h.is x e

  pub plain-cell : IsSetCell old x
  plain-cell = record { sort = h.sort; is = cell-sort }

  pub plain-are : (a : List Bool) → AreMembersOf (form_value old.arena a f) (elements (decode old.arena a x))
  plain-are a =
      let v = set-value old.arena a old.built h.sort x cell-sort in
      subst (λ g. AreMembersOf g (elements (decode old.arena a x))) (sym (value-plain old.arena a f x e)) (plain-members (decode old.arena a x) v.items v.is)

  plain-belongs : (a : List Bool) (v : Value) → belongs (form_value old.arena a f) v ≡ member v (elements (decode old.arena a x))
  plain-belongs a v =
      let w = set-value old.arena a old.built h.sort x cell-sort in
      meant-plain (form_value old.arena a f) v (decode old.arena a x) w.items (value-plain old.arena a f x e) w.is

  pub picks-plain : (new : Build) (r : CellId × Lit) → PicksFrom old new x r → PicksMember old new f r
  picks-plain new r picks = record {
    below = picks.below;
    sort = λ s o. picks.sort s (sort-plain old.arena.kinds s f o x e);
    sound = λ a s on. plain-belongs a (decode new.arena a r.0) ∙ picks.sound a s on;
    complete = λ a n s v m. picks.complete a n s v (sym (plain-belongs a v) ∙ m.belongs);
  }

  pub none-plain : kind_at old.arena.kinds x ≡ Set [] → HasNoMember old f
  none-plain empty a v m =
      let k : true ≡ false = sym m.belongs ∙ plain-belongs a v ∙ ap (member v) (empty-set old old x plain-cell (Grows-refl old) empty a) in cc

-- ---- a subset

pub picks-some : (old mid new : Build) (g : Form) (x id : CellId) (l : Lit) → HasMemberSort old.arena.kinds g → Grows old mid → Grows mid new → ListsForm old mid g x → PicksSubset mid new x id
    → l.var < new.formula.vars → ((a : List Bool) → Satisfies a new.formula → lit_value l a ≡ true) → PicksSome old new g (id, l)
picks-some old mid new g x id l h before grows lists picks below forced = record {
  below = below;
  sort = λ s o. picks.sort s (lists.sort s o);
  sound = λ a s on.
      let are = subset-members (form_value old.arena a g) (elements (decode mid.arena a x)) (cell-rises mid a x) (lists.members a (Satisfies-before mid new a grows s)) in
      are.within (decode new.arena a id) (decoded-normal new.arena a id) (picks.sound a s);
  complete = λ a n s v m.
      let go = goes-on old.formula mid.formula a before.formula n s in
      let c : List Bool = a ++ go.0 in
      let same : form_value old.arena c g ≡ form_value old.arena a g = value-on old a go.0 n h.sort g h.is in
      let are = subset-members (form_value old.arena c g) (elements (decode mid.arena c x)) (cell-rises mid c x) (lists.members c go.1.1) in
      let q = picks.complete c go.1.0 go.1.1 v (are.all v (subst (λ k. IsMember (set.Subsets k) v) (sym same) m)) in
      let e : c ++ q.more ≡ a ++ (go.0 ++ q.more) = append_assoc a go.0 q.more in
      record {
        more = go.0 ++ q.more;
        long = subst (λ y. length y ≡ new.formula.vars) e q.long;
        satisfies = subst (λ y. Satisfies y new.formula) e q.satisfies;
        literal = subst (λ y. lit_value l y ≡ true) e (forced (c ++ q.more) q.satisfies);
        decodes = subst (λ y. decode new.arena y id ≡ v) e q.decodes;
      };
}

-- ---- a function to a set of the form's members

pub picks-rule : (old mid new : Build) (s t : CellId) (g : Form) (r : CellId × Lit) → AreFunctions old.arena.kinds s g → Grows old mid → Grows mid new
    → ((to : Sort) → IsFormOf old.arena.kinds to g → OfSort mid.arena.kinds (set_sort to) t)
    → ((a : List Bool) → Satisfies a mid.formula → AreMembersOf (form_value old.arena a g) (elements (decode mid.arena a t)))
    → PicksFunction mid new s t r → PicksRule old new s g r
picks-rule old mid new s t g r h before grows sorts are picks = record {
  below = picks.below;
  sort = λ p o. picks.sort p.0 p.1 (OfSort-later old mid (set_sort p.0) s o.0 before) (sorts p.1 o.1);
  sound = λ a sat on.
      let all = function-members (elements (decode mid.arena a s)) (elements (decode mid.arena a t)) (form_value old.arena a g) (cell-rises mid a s) (are a (Satisfies-before mid new a grows sat)) in
      ap (λ v. belongs (set.Functions (elements v) (form_value old.arena a g)) (decode new.arena a r.0)) (sym (same-set a))
      ∙ all.within (decode new.arena a r.0) (decoded-normal new.arena a r.0) (picks.sound a sat on);
  complete = λ a n sat v m.
      let go = goes-on old.formula mid.formula a before.formula n sat in
      let c : List Bool = a ++ go.0 in
      let same : form_value old.arena c g ≡ form_value old.arena a g = value-on old a go.0 n h.to g h.results in
      let same_domain : decode mid.arena c s ≡ decode old.arena a s = same-set c ∙ decode-assigned old s a go.0 n in
      let all = function-members (elements (decode mid.arena c s)) (elements (decode mid.arena c t)) (form_value old.arena c g) (cell-rises mid c s) (are c go.1.1) in
      let q = picks.complete c go.1.0 go.1.1 v (all.all v (subst (λ k. IsMember k v) (sym (ap₂ (λ u k. set.Functions (elements u) k) same_domain same)) m)) in
      let e : c ++ q.more ≡ a ++ (go.0 ++ q.more) = append_assoc a go.0 q.more in
      record {
        more = go.0 ++ q.more;
        long = subst (λ y. length y ≡ new.formula.vars) e q.long;
        satisfies = subst (λ y. Satisfies y new.formula) e q.satisfies;
        literal = subst (λ y. lit_value r.1 y ≡ true) e q.literal;
        decodes = subst (λ y. decode new.arena y r.0 ≡ v) e q.decodes;
      };
}
  where
    same-set : (a : List Bool) → decode mid.arena a s ≡ decode old.arena a s
    same-set a = decode-before old mid a s before (sort-there old.arena.kinds (set_sort h.from) s h.domain)

pub rule-sets : (old : Build) (s t : CellId) (g : Form) → AreFunctions old.arena.kinds s g → g ≡ Plain t → AreSetCells old s t
rule-sets old s t g h e = record {
  domain = record { sort = h.from; is = h.domain };
  range = plain-cell old g t (record { sort = h.to; is = h.results }) e;
}

pub picks-rule-plain : (old new : Build) (s t : CellId) (g : Form) (r : CellId × Lit) → AreFunctions old.arena.kinds s g → g ≡ Plain t → Grows old new → PicksFunction old new s t r → PicksRule old new s g r
picks-rule-plain old new s t g r h e grows picks =
    picks-rule old old new s t g r h (Grows-refl old) grows (λ to o. sort-plain old.arena.kinds to g o t e)
    (λ a sat. plain-are old g t (record { sort = h.to; is = h.results }) e a) picks

-- where the form has no member
pub picks-rule-none : (old near far new : Build) (s : CellId) (g : Form) (r : CellId × Lit) → AreFunctions old.arena.kinds s g → Grows old near → Grows near far → HasNoMember near g → PicksToNone far new s r → PicksRule old new s g r
picks-rule-none old near far new s g r h first then nothing p =
    let before : Grows old far = Grows-trans old near far first then in
    picks-rule old p.mid new s p.none g r h (Grows-trans old far p.mid before p.before) p.after (λ to o. none-sort far p.mid p.none p.empty to)
    (λ a sat. subst (AreMembersOf (form_value old.arena a g)) (sym (none-there far p.mid p.none p.empty a sat))
    (no-members (form_value old.arena a g) (λ v m. nothing a v (subst (λ k. IsMember k v) (sym (value-later old near first a h.to g h.results)) m)))) p.picks

pub to-none : (old mid : Build) (s none : CellId) → IsSetCell old s → Grows old mid → IsSetOfEdges old mid [] none → AreSetCells mid s none
to-none old mid s x h g e = record {
  domain = record { sort = h.sort; is = OfSort-later old mid (set_sort h.sort) s h.is g };
  range = record { sort = h.sort; is = none-sort old mid x e h.sort };
}

-- ---- a member of each of several forms

belong-push : (bs : List Bool) (gs : List SetForm) (vs : List Value) (b : Bool) (g : SetForm) (v : Value) → BelongWhere bs gs vs → (b ≡ true → belongs g v ≡ true) →
    BelongWhere (bs ++ b ∷ []) (gs ++ g ∷ []) (vs ++ v ∷ [])
belong-push [] [] [] b g v h k = (k, tt)
belong-push [] [] (u ∷ vs) b g v h k = absurd h
belong-push [] (f ∷ gs) [] b g v h k = absurd h
belong-push [] (f ∷ gs) (u ∷ vs) b g v h k = absurd h
belong-push (c ∷ bs) [] [] b g v h k = absurd h
belong-push (c ∷ bs) [] (u ∷ vs) b g v h k = absurd h
belong-push (c ∷ bs) (f ∷ gs) [] b g v h k = absurd h
belong-push (c ∷ bs) (f ∷ gs) (u ∷ vs) b g v h k = (h.0, belong-push bs gs vs b g v h.1 k)

-- where all literals are true
pub all-belong : (a : List Bool) (ls : List Lit) (gs : List SetForm) (vs : List Value) → BelongWhere (values ls a) gs vs → list_all (λ l. lit_value l a) ls ≡ true → all_belong gs vs ≡ true
all-belong a [] [] [] h on = refl
all-belong a [] [] (v ∷ vs) h on = absurd h
all-belong a [] (g ∷ gs) [] h on = absurd h
all-belong a [] (g ∷ gs) (v ∷ vs) h on = absurd h
all-belong a (l ∷ ls) [] [] h on = absurd h
all-belong a (l ∷ ls) [] (v ∷ vs) h on = absurd h
all-belong a (l ∷ ls) (g ∷ gs) [] h on = absurd h
all-belong a (l ∷ ls) (g ∷ gs) (v ∷ vs) h on = both_so _ _ (h.0 (first_so _ _ on)) (all-belong a ls gs vs h.1 (second_so (lit_value l a) _ on))

record SplitMembers (gs : List SetForm) (g : SetForm) (vs : List Value) : Type 0 where
  front : List Value
  last : Value
  is : vs ≡ front ++ last ∷ []
  members : AreMembers gs front
  member : IsMember g last

no-values : (vs : List Value) → AreMembers [] vs → vs ≡ []
no-values [] h = refl
no-values (v ∷ vs) h = absurd h

split-members : (gs : List SetForm) (g : SetForm) (vs : List Value) → AreMembers (gs ++ g ∷ []) vs → SplitMembers gs g vs
split-members [] g [] h = absurd h
split-members [] g (v ∷ vs) h = record { front = []; last = v; is = ap (λ (l : List Value). v ∷ l) (no-values vs h.1); members = tt; member = h.0 }
split-members (f ∷ gs) g [] h = absurd h
split-members (f ∷ gs) g (v ∷ vs) h =
    let r = split-members gs g vs h.1 in
    record { front = v ∷ r.front; last = r.last; is = ap (λ (l : List Value). v ∷ l) r.is; members = (h.0, r.members); member = r.member }

pub lits-longer : (a rest : List Bool) (ls : List Lit) → All (IsBelow (length a)) ls → list_all (λ l. lit_value l (a ++ rest)) ls ≡ list_all (λ l. lit_value l a) ls
lits-longer a rest [] h = refl
lits-longer a rest (l ∷ ls) h =
    ap₂ (λ p q. p && q) (lit_value-append l a rest (All-head (IsBelow (length a)) l ls h)) (lits-longer a rest ls (All-tail (IsBelow (length a)) l ls h))

pub values-longer : (b : Build) (a rest : List Bool) (ids : List CellId) → length a ≡ b.formula.vars → map (decode b.arena (a ++ rest)) ids ≡ map (decode b.arena a) ids
values-longer b a rest [] n = refl
values-longer b a rest (x ∷ ids) n = ap₂ (λ v vs. v ∷ vs) (decode-assigned b x a rest n) (values-longer b a rest ids n)

all-push : (a : List Bool) (ls : List Lit) (l : Lit) → list_all (λ l. lit_value l a) (ls ++ l ∷ []) ≡ (list_all (λ l. lit_value l a) ls && lit_value l a)
all-push a ls l = list_all-append (λ l. lit_value l a) ls (l ∷ []) ∙ ap (λ t. list_all (λ l. lit_value l a) ls && t) (alone (lit_value l a))
  where
    alone : (t : Bool) → (t && true) ≡ t
    alone true = refl
    alone false = refl

pub picks-none : (b : Build) (ids : List CellId) (ls : List Lit) → ids ≡ [] → ls ≡ [] → PicksEach b b [] ids ls
picks-none b ids ls e k = rw (e, k) (record {
  below = All-nil (IsBelow b.formula.vars);
  count = refl;
  sorts = λ ss o. sorts ss o;
  sound = λ a s. tt;
  complete = λ a n s vs m. record { more = []; long = rw (append-nil a) n; satisfies = rw (append-nil a) s; literals = refl; decodes = sym (no-values vs m) };
})
  where
    sorts : (ss : List Sort) → AreFormsOf b.arena.kinds ss [] → OfSorts b.arena.kinds ss []
    sorts ss none = tt

module _ (old mid new : Build) (gs : List Form) (f : Form) (ids : List CellId) (ls : List Lit) (x : CellId) (l : Lit) (h : HaveMemberSorts old.arena.kinds gs) (k : HasMemberSort old.arena.kinds f)
    (before : Grows old mid) (grows : Grows mid new) (each : PicksEach old mid gs ids ls) (one : PicksMember mid new f (x, l)) where
  same-form : (a : List Bool) → form_value mid.arena a f ≡ form_value old.arena a f
  same-form a = value-later old mid before a k.sort f k.is

  front-values : (a : List Bool) → map (decode new.arena a) ids ≡ map (decode mid.arena a) ids
  front-values a = values-before mid new a h.sorts ids grows (each.sorts h.sorts h.are)

  push-forms : (a : List Bool) → form_values old a (gs ++ f ∷ []) ≡ form_values old a gs ++ form_value old.arena a f ∷ []
  push-forms a = map_push (form_value old.arena a) gs f

  push-values : (a : List Bool) → map (decode new.arena a) (ids ++ x ∷ []) ≡ map (decode mid.arena a) ids ++ decode new.arena a x ∷ []
  push-values a = map_push (decode new.arena a) ids x ∙ ap (λ (vs : List Value). vs ++ decode new.arena a x ∷ []) (front-values a)

  push-complete : (a : List Bool) → length a ≡ old.formula.vars → Satisfies a old.formula → (vs : List Value) → AreMembers (form_values old a (gs ++ f ∷ [])) vs → ReachesAll new a (ids ++ x ∷ []) (ls ++ l ∷ []) vs
  push-complete a n s vs m =
      let p = split-members (form_values old a gs) (form_value old.arena a f) vs (subst (λ (hs : List SetForm). AreMembers hs vs) (push-forms a) m) in
      let r = each.complete a n s p.front p.members in
      let c : List Bool = a ++ r.more in
      let same : form_value mid.arena c f ≡ form_value old.arena a f = value-goes-on old a r.more n mid k.sort f before k.is in
      let q = one.complete c r.long r.satisfies p.last (subst (λ g. IsMember g p.last) (sym same) p.member) in
      let d : List Bool = c ++ q.more in
      let e : d ≡ a ++ (r.more ++ q.more) = append_assoc a r.more q.more in
      let on : list_all (λ y. lit_value y d) ls ≡ true = lits-longer c q.more ls (subst (λ m. All (IsBelow m) ls) (sym r.long) each.below) ∙ r.literals in
      record {
        more = r.more ++ q.more;
        long = subst (λ y. length y ≡ new.formula.vars) e q.long;
        satisfies = subst (λ y. Satisfies y new.formula) e q.satisfies;
        literals = subst (λ y. list_all (λ z. lit_value z y) (ls ++ l ∷ []) ≡ true) e (all-push d ls l ∙ both_so _ _ on q.literal);
        decodes = subst (λ y. map (decode new.arena y) (ids ++ x ∷ []) ≡ vs) e
            (push-values d ∙ ap₂ (λ (us : List Value) u. us ++ u ∷ []) (values-longer mid c q.more ids r.long ∙ r.decodes) q.decodes ∙ sym p.is);
      }

  picks-push : PicksEach old new (gs ++ f ∷ []) (ids ++ x ∷ []) (ls ++ l ∷ [])
  picks-push = record {
    below = All-push (IsBelow new.formula.vars) ls l (named-later mid.formula.vars new.formula.vars ls each.below grows.formula.vars) one.below;
    count = length_push ls l ∙ ap (λ n. n + 1) each.count ∙ sym (length_push ids x);
    sorts = λ ss o.
        let p = split-forms old.arena.kinds ss gs f o in
        subst (λ (rs : List Sort). OfSorts new.arena.kinds rs (ids ++ x ∷ [])) (sym p.is)
        (sorts-push new.arena.kinds p.front ids p.last x (OfSorts-later mid new p.front ids (each.sorts p.front p.forms) grows) (one.sort p.last (IsFormOf-later old mid before p.last f p.form)));
    sound = λ a s.
        subst (λ (bs : List Bool). BelongWhere bs (form_values old a (gs ++ f ∷ [])) (map (decode new.arena a) (ids ++ x ∷ []))) (sym (values-push ls a l))
        (subst (λ (hs : List SetForm). BelongWhere (values ls a ++ lit_value l a ∷ []) hs (map (decode new.arena a) (ids ++ x ∷ []))) (sym (push-forms a))
        (subst (BelongWhere (values ls a ++ lit_value l a ∷ []) (form_values old a gs ++ form_value old.arena a f ∷ [])) (sym (push-values a))
        (belong-push (values ls a) (form_values old a gs) (map (decode mid.arena a) ids) (lit_value l a) (form_value old.arena a f) (decode new.arena a x) (each.sound a (Satisfies-before mid new a grows s))
        (λ on. ap (λ g. belongs g (decode new.arena a x)) (sym (same-form a)) ∙ one.sound a s on))));
    complete = push-complete;
  }

  pub picks-after : (after : List CellId) (lits : List Lit) (hs : List Form) → after ≡ ids ++ x ∷ [] → lits ≡ ls ++ l ∷ [] → hs ≡ gs ++ f ∷ [] → PicksEach old new hs after lits
  picks-after after lits hs e i j = rw (e, i, j) picks-push

-- ---- along a list of forms

pub picks-first : (b : Build) (fs : List Form) (ids : List CellId) (ls : List Lit) → ids ≡ [] → ls ≡ [] → PicksEach b b (take 0 fs) ids ls
picks-first b [] ids ls e k = picks-none b ids ls e k
picks-first b (f ∷ fs) ids ls e k = picks-none b ids ls e k

pub picks-next : (old mid new : Build) (fs : List Form) (i : ℕ) (f : Form) (ids after : List CellId) (ls more_ls : List Lit) (x : CellId) (l : Lit) → HaveMemberSorts old.arena.kinds fs → Grows old mid → Grows mid new
    → i < length fs → f ≡ get_or fs i f → PicksEach old mid (take i fs) ids ls → PicksMember mid new f (x, l) → after ≡ ids ++ x ∷ [] → more_ls ≡ ls ++ l ∷ [] → PicksEach old new (take (i + 1) fs) after more_ls
picks-next old mid new fs i f ids after ls more_ls x l h before grows lt is each one e k =
    picks-after old mid new (take i fs) f ids ls x l (front-sorts old.arena.kinds h.sorts fs i h.are) (form-at old.arena.kinds h.sorts fs i f h.are lt is) before grows each one after more_ls (take (i + 1) fs) e k
    (take_more fs i f lt ∙ ap (λ g. take i fs ++ g ∷ []) (sym is))

pub picks-all : (old new : Build) (fs : List Form) (i : ℕ) (ids : List CellId) (ls : List Lit) → length fs ≤ i → PicksEach old new (take i fs) ids ls → PicksEach old new fs ids ls
picks-all old new fs i ids ls le h = subst (λ (gs : List Form). PicksEach old new gs ids ls) (take_all i fs le) h

member-there : (val : Form → SetForm) (fs : List Form) (i : ℕ) (f : Form) (vs : List Value) → i < length fs → f ≡ get_or fs i f → AreMembers (map val fs) vs → (v : Value) × IsMember (val f) v
member-there val [] i f vs lt is m = absurd (omega arith)
member-there val (g ∷ fs) i f [] lt is m = absurd m
member-there val (g ∷ fs) zero f (v ∷ vs) lt is m = (v, subst (λ h. IsMember (val h) v) (sym is) m.0)
member-there val (g ∷ fs) (suc i) f (v ∷ vs) lt is m = member-there val fs i f vs (omega arith) is m.1

pub none-at : (old mid : Build) (fs : List Form) (i : ℕ) (f : Form) → HaveMemberSorts old.arena.kinds fs → Grows old mid → i < length fs → f ≡ get_or fs i f → HasNoMember mid f → HaveNoMembers old fs
none-at old mid fs i f h g lt is none_there a vs m =
    let v = member-there (form_value old.arena a) fs i f vs lt is m in
    let k = form-at old.arena.kinds h.sorts fs i f h.are lt is in
    none_there a v.0 (subst (λ w. IsMember w v.0) (sym (value-later old mid g a k.sort f k.is)) v.1)

-- ---- one form several times

repeated-push : (n : ℕ) (f : Form) → repeated (suc n) f ≡ repeated n f ++ f ∷ []
repeated-push zero f = refl
repeated-push (suc n) f = ap (λ (l : List Form). f ∷ l) (repeated-push n f)

pub repeated-sorts : (ks : List CellKind) (n : ℕ) (f : Form) → HasMemberSort ks f → HaveMemberSorts ks (repeated n f)
repeated-sorts ks zero f h = record { sorts = []; are = none }
repeated-sorts ks (suc n) f h = let r = repeated-sorts ks n f h in record { sorts = h.sort ∷ r.sorts; are = more h.sort r.sorts f (repeated n f) h.is r.are }

pub picks-again : (old mid new : Build) (f : Form) (i : ℕ) (ids after : List CellId) (ls more_ls : List Lit) (x : CellId) (l : Lit) → HasMemberSort old.arena.kinds f → Grows old mid → Grows mid new
    → PicksEach old mid (repeated i f) ids ls → PicksMember mid new f (x, l) → after ≡ ids ++ x ∷ [] → more_ls ≡ ls ++ l ∷ [] → PicksEach old new (repeated (i + 1) f) after more_ls
picks-again old mid new f i ids after ls more_ls x l h before grows each one e k =
    let next : i + 1 ≡ suc i = omega arith in
    picks-after old mid new (repeated i f) f ids ls x l (repeated-sorts old.arena.kinds i f h) h before grows each one after more_ls (repeated (i + 1) f) e k
    (ap (λ n. repeated n f) next ∙ repeated-push i f)

-- ---- records and tuples

pub picked-parts : (old mid : Build) (fs : List Form) (ids : List CellId) (ls : List Lit) → HaveMemberSorts old.arena.kinds fs → PicksEach old mid fs ids ls → HaveParts mid ids ls
picked-parts old mid fs ids ls h each = record { there = sorts-there mid.arena.kinds h.sorts ids (each.sorts h.sorts h.are); below = each.below }

pub picked-count : (old mid : Build) (fs : List Form) (ids : List CellId) (ls : List Lit) → HaveMemberSorts old.arena.kinds fs → PicksEach old mid fs ids ls → length ids ≡ length fs
picked-count old mid fs ids ls h each = sorts-count mid.arena.kinds h.sorts ids (each.sorts h.sorts h.are) ∙ forms-count old.arena.kinds h.sorts fs h.are

module _ (old mid new : Build) (fs : List Form) (ids : List CellId) (ls : List Lit) (h : HaveMemberSorts old.arena.kinds fs) (each : PicksEach old mid fs ids ls) (grows : Grows mid new) where
  belong : (a : List Bool) → Satisfies a new.formula → list_all (λ l. lit_value l a) ls ≡ true → all_belong (form_values old a fs) (map (decode mid.arena a) ids) ≡ true
  belong a s on = all-belong a ls (form_values old a fs) (map (decode mid.arena a) ids) (each.sound a (Satisfies-before mid new a grows s)) on

  -- the literal and the values in the larger build
  reach : (r : CellId × Lit) (v : Value) → HasValue new.formula r.1 (λ a. list_all (λ l. lit_value l a) ls) → (vs : List Value)
      → ((a : List Bool) → Satisfies a new.formula → map (decode mid.arena a) ids ≡ vs → decode new.arena a r.0 ≡ v)
      → (a : List Bool) → length a ≡ old.formula.vars → Satisfies a old.formula → AreMembers (form_values old a fs) vs → Reaches new a r.1 r.0 v
  reach r v holds vs made a n s m =
      let q = each.complete a n s vs m in
      let c : List Bool = a ++ q.more in
      let go = goes-on mid.formula new.formula c grows.formula q.long q.satisfies in
      let e : c ++ go.0 ≡ a ++ (q.more ++ go.0) = append_assoc a q.more go.0 in
      record {
        more = q.more ++ go.0;
        long = subst (λ y. length y ≡ new.formula.vars) e go.1.0;
        satisfies = subst (λ y. Satisfies y new.formula) e go.1.1;
        literal = subst (λ y. lit_value r.1 y ≡ true) e
            (holds.value (c ++ go.0) go.1.1 ∙ lits-longer c go.0 ls (subst (λ m. All (IsBelow m) ls) (sym q.long) each.below) ∙ q.literals);
        decodes = subst (λ y. decode new.arena y r.0 ≡ v) e (made (c ++ go.0) go.1.1 (values-longer mid c go.0 ids q.long ∙ q.decodes));
      }

  pub picks-tuple : (r : CellId × Lit) → MakesTuple mid new ids ls r → PicksTuple old new fs r
  picks-tuple r made = record {
    below = made.literal.below;
    sort = λ ss o. made.sort ss (each.sorts ss o);
    sound = λ a s on.
        ap (belongs (set.Tuples (form_values old a fs))) (made.value a s)
        ∙ tuple-belongs (form_values old a fs) (map (decode mid.arena a) ids) (belong a s (sym (made.literal.value a s) ∙ on));
    complete = λ a n s v m.
        let p = tuple-parts (form_values old a fs) v m in
        reach r v made.literal p.items (λ b t same. made.value b t ∙ ap sequence same ∙ sym p.is) a n s p.members;
  }

  pub picks-record : (names : List (List ℕ)) (r : CellId × Lit) → length names ≡ length fs → MakesRecord mid new names ids ls r → PicksRecord old new names fs r
  picks-record names r count made = record {
    below = made.literal.below;
    sort = λ ss o. made.sort ss (each.sorts ss o);
    sound = λ a s on.
        ap (belongs (set.Records names (form_values old a fs))) (made.value a s)
        ∙ record-belongs names (form_values old a fs) (map (decode mid.arena a) ids) made.differ (length-map ids (decode mid.arena a) ∙ picked-count old mid fs ids ls h each ∙ sym count)
        (belong a s (sym (made.literal.value a s) ∙ on));
    complete = λ a n s v m.
        let p = record-parts names (form_values old a fs) v m in
        reach r v made.literal p.fields (λ b t same. made.value b t ∙ ap (record_of names) same ∙ sym p.is) a n s p.members;
  }
