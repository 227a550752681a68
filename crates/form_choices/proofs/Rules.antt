-- A function by a member of the form for each argument.
use Rattle.std.proofs.Common.{◌≡◌, ℕ, zero, suc, ◌<◌, Bool, true, false, cond, not, ◌&&◌, ◌||◌, List, [], ◌∷◌, ◌++◌, All, map, length, refl, sym, ◌∙◌, ap, ap₂, subst, arith, append_assoc, if◌then◌else◌}
use Rattle.std.specs.Prelude.{filter}
use Rattle.std.specs.List.{list_all}
use Rattle.std.proofs.lemmas.List.Elements.{All-cons, All-head, All-nil, All-tail}
use Rattle.sat_formula.specs.declared.lit.Lit.{Lit}
use Rattle.sat_formula.specs.Lit.{IsBelow, lit_value, values}
use Rattle.sat_formula.specs.Formula.{Satisfies}
use Rattle.sat_formula.proofs.Extension.{lit_value-append}
use Rattle.tla_values.specs.Order.{same_value}
use Rattle.tla_values.specs.Sets.{arguments, elements, function_of, member, set_of}
use Rattle.tla_values.specs.declared.value.Value.{Value}
use Rattle.tla_values.specs.declared.value.Value.TheVariants as value
use Rattle.tla_values.proofs.Extensional.{member-set_of, same_itself}
use Rattle.tla_meaning.specs.declared.forms.SetForm.{SetForm}
use Rattle.tla_meaning.specs.declared.forms.SetForm.TheVariants as set
use Rattle.tla_meaning.specs.Forms.{belongs, results}
use Rattle.cell_arena.specs.declared.build.Build.{Build}
use Rattle.cell_arena.specs.declared.kinds.CellId.{CellId}
use Rattle.cell_arena.specs.declared.kinds.CellKind.{CellKind}
use Rattle.cell_arena.specs.Decode.{decode, present, present_pairs}
use Rattle.cell_arena.specs.Growth.{Grows}
use Rattle.cell_arena.proofs.Growing.{Grows-trans, Satisfies-before, decode-assigned, decode-before}
use Rattle.cell_merge.specs.Edges.{AreNamed, LeadTo}
use Rattle.cell_merge.specs.Picks.{Reaches}
use Rattle.cell_merge.specs.Sorts.{OfSort, Sort, set_of as set_sort}
use Rattle.cell_merge.proofs.Edges.{sort-there}
use Rattle.cell_merge.proofs.Layering.{LeadTo-later, goes-on}
use Rattle.function_rewriter.proofs.ArrowPairs.{Arrow}
use Rattle.cell_merge.proofs.SortLaws.{OfSort-later}
use Rattle.cell_merge.proofs.Unions.{AreNamed-later}
use Rattle.function_rewriter.proofs.PairLists.{function_graph, graph}
use Rattle.typed_cells.specs.KindSorts.{OfSorts}
use Rattle.typed_cells.proofs.PartSorts.{sorts-count}
use Rattle.form_cells.specs.declared.form.Form.{Form}
use Rattle.form_cells.specs.FormSorts.{AreFormsOf, IsFormOf, more, none}
use Rattle.form_cells.specs.FormValues.{form_value}
use Rattle.form_cells.proofs.FormsLater.{IsFormOf-later, value-later}
use Rattle.form_choices.specs.FormPicks.{IsMember}
use Rattle.form_choices.specs.inner.Parts.{AreFunctions, AreMembers, BelongWhere, HaveArrows, ListsArguments, MakesFunction, PicksEach, arrows, form_values, hold_where_there, repeated}
use Rattle.form_choices.specs.inner.Parts.{PicksFunction as PicksRule}
use Rattle.form_choices.proofs.FormsAssigned.{value-on}
use Rattle.form_choices.proofs.Listings.{cell-rises}
use Rattle.form_choices.proofs.Pickings.{lits-longer, values-longer}
use Rattle.form_choices.proofs.ValueParts.{both_so, first_so, function-parts, pairs-belong, second_so}

abbrev Edge : Type 0
Edge = Lit × CellId

-- ---- what is there of an edge in front

present-cons : (a : List Bool) (of : CellId → Value) (e : Edge) (es : List Edge) → present a of (e ∷ es) ≡ (if lit_value e.0 a then of e.1 ∷ present a of es else present a of es)
present-cons a of e es = go (lit_value e.0 a)
  where
    go : (b : Bool) → map (λ (e : Edge). of e.1) (cond b (e ∷ filter (λ (e : Edge). lit_value e.0 a) es) (filter (λ (e : Edge). lit_value e.0 a) es)) ≡ (if b then of e.1 ∷ present a of es else present a of es)
    go true = refl
    go false = refl

pairs-cons : (a : List Bool) (of : CellId → Value) (e : Arrow) (es : List Arrow) → present_pairs a of (e ∷ es) ≡ (if lit_value e.0 a then (of e.1, of e.2) ∷ present_pairs a of es else present_pairs a of es)
pairs-cons a of e es = go (lit_value e.0 a)
  where
    go : (b : Bool) → map (λ (e : Arrow). (of e.1, of e.2)) (cond b (e ∷ filter (λ (e : Arrow). lit_value e.0 a) es) (filter (λ (e : Arrow). lit_value e.0 a) es)) ≡ (if b then (of e.1, of e.2) ∷ present_pairs a of es else present_pairs a of es)
    go true = refl
    go false = refl

-- ---- the pairs of the arrows

-- their arguments are the members of the edges
arguments-are : (a : List Bool) (of : CellId → Value) (es : List Edge) (ids : List CellId) → length ids ≡ length es → arguments (present_pairs a of (arrows es ids)) ≡ present a of es
arguments-are a of [] [] n = refl
arguments-are a of [] (x ∷ ids) n = absurd (omega arith)
arguments-are a of (e ∷ es) [] n = absurd (omega arith)
arguments-are a of (e ∷ es) (x ∷ ids) n =
    ap arguments (pairs-cons a of (e.0, e.1, x) (arrows es ids)) ∙ go (lit_value e.0 a) (arguments-are a of es ids (omega arith)) ∙ sym (present-cons a of e es)
  where
    go : (b : Bool) → arguments (present_pairs a of (arrows es ids)) ≡ present a of es
        → arguments (if b then (of e.1, of x) ∷ present_pairs a of (arrows es ids) else present_pairs a of (arrows es ids)) ≡ (if b then of e.1 ∷ present a of es else present a of es)
    go true h = ap (λ (l : List Value). of e.1 ∷ l) h
    go false h = h

-- one form so many times
abbrev copies : ℕ → SetForm → List SetForm
copies zero g = []
copies (suc n) g = g ∷ copies n g

repeated-values : (b : Build) (a : List Bool) (n : ℕ) (f : Form) → form_values b a (repeated n f) ≡ copies n (form_value b.arena a f)
repeated-values b a zero f = refl
repeated-values b a (suc n) f = ap (λ (l : List SetForm). form_value b.arena a f ∷ l) (repeated-values b a n f)

-- their results belong to the form, where the literals at those that are there are true
results-belong : (a : List Bool) (of : CellId → Value) (g : SetForm) (es : List Edge) (ids : List CellId) (ls : List Lit) → length ids ≡ length es → hold_where_there a es ls ≡ true
    → BelongWhere (values ls a) (copies (length es) g) (map of ids) → list_all (belongs g) (results (present_pairs a of (arrows es ids))) ≡ true
results-belong a of g [] ids ls n on h = refl
results-belong a of g (e ∷ es) [] ls n on h = absurd (omega arith)
results-belong a of g (e ∷ es) (x ∷ ids) [] n on h = absurd h
results-belong a of g (e ∷ es) (x ∷ ids) (l ∷ ls) n on h =
    ap (λ ps. list_all (belongs g) (results ps)) (pairs-cons a of (e.0, e.1, x) (arrows es ids))
    ∙ go (lit_value e.0 a) refl (results-belong a of g es ids ls (omega arith) (second_so (not (lit_value e.0 a) || lit_value l a) _ on) h.1)
  where
    given : lit_value e.0 a ≡ true → lit_value l a ≡ true
    given k = ap (λ b. not b || lit_value l a) (sym k) ∙ first_so _ _ on

    go : (b : Bool) → lit_value e.0 a ≡ b → list_all (belongs g) (results (present_pairs a of (arrows es ids))) ≡ true
        → list_all (belongs g) (results (if b then (of e.1, of x) ∷ present_pairs a of (arrows es ids) else present_pairs a of (arrows es ids))) ≡ true
    go true k r = both_so _ _ (h.0 (given k)) r
    go false k r = r

-- ---- a member at each edge, by a rule

-- where the edge is absent, any
abbrev given_at : List Bool → (CellId → Value) → (Value → Value) → Value → List Edge → List Value
given_at c of rule w [] = []
given_at c of rule w (e ∷ es) = (if lit_value e.0 c then rule (of e.1) else w) ∷ given_at c of rule w es

in-tail : (b : Bool) (v x : Value) (xs : List Value) → member x xs ≡ true → member x (if b then v ∷ xs else xs) ≡ true
in-tail true v x xs m = or_right (same_value x v) (member x xs) m
  where
    or_right : (p q : Bool) → q ≡ true → (p || q) ≡ true
    or_right true q e = refl
    or_right false q e = e
in-tail false v x xs m = m

in-head : (b : Bool) (v : Value) (xs : List Value) → b ≡ true → member v (if b then v ∷ xs else xs) ≡ true
in-head true v xs e = ap (λ t. t || member v xs) (same_itself v)
in-head false v xs e = absurd (cc)

given-members : (c : List Bool) (of : CellId → Value) (g : SetForm) (rule : Value → Value) (w : Value) (es : List Edge) → IsMember g w → ((x : Value) → member x (present c of es) ≡ true → IsMember g (rule x))
    → AreMembers (copies (length es) g) (given_at c of rule w es)
given-members c of g rule w [] m h = tt
given-members c of g rule w (e ∷ es) m h = (
  go (lit_value e.0 c) refl,
  given-members c of g rule w es m (λ x k. h x (ap (member x) (present-cons c of e es) ∙ in-tail (lit_value e.0 c) (of e.1) x (present c of es) k)),
)
  where
    go : (b : Bool) → lit_value e.0 c ≡ b → IsMember g (if b then rule (of e.1) else w)
    go true k = h (of e.1) (ap (member (of e.1)) (present-cons c of e es) ∙ in-head (lit_value e.0 c) (of e.1) (present c of es) k)
    go false k = m

-- edges whose literals and cells have the same values under two assignments
abbrev SameAt : List Bool → List Bool → (CellId → Value) → (CellId → Value) → List Edge → Type 0
SameAt d c of old [] = Unit {0}
SameAt d c of old (e ∷ es) = (lit_value e.0 d ≡ lit_value e.0 c) × ((of e.1 ≡ old e.1) × SameAt d c of old es)

same-present : (d c : List Bool) (of old : CellId → Value) (es : List Edge) → SameAt d c of old es → present d of es ≡ present c old es
same-present d c of old [] h = refl
same-present d c of old (e ∷ es) h =
    present-cons d of e es ∙ ap₂ (λ (b : Bool) (v : Value). if b then v ∷ present d of es else present d of es) h.0 h.1.0
    ∙ ap (λ (l : List Value). if lit_value e.0 c then old e.1 ∷ l else l) (same-present d c of old es h.1.1) ∙ sym (present-cons c old e es)

head-one : (x y : Value) (xs ys : List Value) → (x ∷ xs) ≡ (y ∷ ys) → x ≡ y
head-one x y xs ys e = cc

tail-one : (x y : Value) (xs ys : List Value) → (x ∷ xs) ≡ (y ∷ ys) → xs ≡ ys
tail-one x y xs ys e = cc

-- the arrows to what the rule gives
chosen-pairs : (d c : List Bool) (of old : CellId → Value) (rule : Value → Value) (w : Value) (es : List Edge) (ids : List CellId) → SameAt d c of old es → map of ids ≡ given_at c old rule w es
    → present_pairs d of (arrows es ids) ≡ graph (present c old es) rule
chosen-pairs d c of old rule w [] ids h e = refl
chosen-pairs d c of old rule w (f ∷ es) [] h e = absurd (cc)
chosen-pairs d c of old rule w (f ∷ es) (x ∷ ids) h e =
    pairs-cons d of (f.0, f.1, x) (arrows es ids)
    ∙ ap₂ (λ (b : Bool) (v : Value). if b then (v, of x) ∷ present_pairs d of (arrows es ids) else present_pairs d of (arrows es ids)) h.0 h.1.0
    ∙ go (lit_value f.0 c) (head-one _ _ _ _ e) (chosen-pairs d c of old rule w es ids h.1.1 (tail-one _ _ _ _ e))
    ∙ ap (λ xs. graph xs rule) (sym (present-cons c old f es))
  where
    go : (b : Bool) → of x ≡ (if b then rule (old f.1) else w) → present_pairs d of (arrows es ids) ≡ graph (present c old es) rule
        → (if b then (old f.1, of x) ∷ present_pairs d of (arrows es ids) else present_pairs d of (arrows es ids)) ≡ graph (if b then old f.1 ∷ present c old es else present c old es) rule
    go true k r = ap₂ (λ (v : Value) (l : List (Value × Value)). (old f.1, v) ∷ l) k r
    go false k r = r

hold-all : (d : List Bool) (es : List Edge) (ls : List Lit) → list_all (λ l. lit_value l d) ls ≡ true → hold_where_there d es ls ≡ true
hold-all d [] ls on = refl
hold-all d (e ∷ es) [] on = refl
hold-all d (e ∷ es) (l ∷ ls) on = both_so _ _ (ap (λ b. not (lit_value e.0 d) || b) (first_so _ _ on) ∙ last (not (lit_value e.0 d))) (hold-all d es ls (second_so (lit_value l d) _ on))
  where
    last : (b : Bool) → (b || true) ≡ true
    last true = refl
    last false = refl

-- no edge is there
hold-off : (d : List Bool) (of : CellId → Value) (es : List Edge) (ls : List Lit) → present d of es ≡ [] → hold_where_there d es ls ≡ true
hold-off d of [] ls e = refl
hold-off d of (f ∷ es) [] e = refl
hold-off d of (f ∷ es) (l ∷ ls) e = go (lit_value f.0 d) refl (sym (present-cons d of f es) ∙ e) (hold-off d of es ls)
  where
    go : (b : Bool) → lit_value f.0 d ≡ b → (if b then of f.1 ∷ present d of es else present d of es) ≡ []
        → (present d of es ≡ [] → hold_where_there d es ls ≡ true) → ((not (lit_value f.0 d) || lit_value l d) && hold_where_there d es ls) ≡ true
    go true k r next = absurd (cc)
    go false k r next = ap (λ b. (not b || lit_value l d) && hold_where_there d es ls) k ∙ next r

no-pairs : (ps : List (Value × Value)) → arguments ps ≡ [] → ps ≡ []
no-pairs [] e = refl
no-pairs (p ∷ ps) e = absurd (cc)

-- ---- sorts

abbrev same_sorts : ℕ → Sort → List Sort
same_sorts zero s = []
same_sorts (suc n) s = s ∷ same_sorts n s

same-forms : (ks : List CellKind) (n : ℕ) (s : Sort) (f : Form) → IsFormOf ks s f → AreFormsOf ks (same_sorts n s) (repeated n f)
same-forms ks zero s f h = none
same-forms ks (suc n) s f h = more s (same_sorts n s) f (repeated n f) h (same-forms ks n s f h)

all-sorted : (ks : List CellKind) (n : ℕ) (s : Sort) (ids : List CellId) → OfSorts ks (same_sorts n s) ids → All (OfSort ks s) ids
all-sorted ks zero s [] h = All-nil (OfSort ks s)
all-sorted ks zero s (x ∷ ids) h = absurd h
all-sorted ks (suc n) s [] h = absurd h
all-sorted ks (suc n) s (x ∷ ids) h = All-cons (OfSort ks s) x ids h.0 (all-sorted ks n s ids h.1)

same-long : (n : ℕ) (s : Sort) → length (same_sorts n s) ≡ n
same-long zero s = refl
same-long (suc n) s = ap suc (same-long n s)

-- ---- the function

module _ (far mid : Build) (s : CellId) (g : Form) (es : List Edge) (ids : List CellId) (ls : List Lit) (h : AreFunctions far.arena.kinds s g) (args : ListsArguments far s es)
    (first : Grows far mid) (each : PicksEach far mid (repeated (length es) g) ids ls) where
  leads : LeadTo far.arena.kinds h.from es
  leads = args.sorts h.from h.domain

  cells : OfSorts mid.arena.kinds (same_sorts (length es) h.to) ids
  cells = each.sorts (same_sorts (length es) h.to) (same-forms far.arena.kinds (length es) h.to g h.results)

  one-each : length ids ≡ length es
  one-each = sorts-count mid.arena.kinds (same_sorts (length es) h.to) ids cells ∙ same-long (length es) h.to

  pub have-arrows : HaveArrows mid es ids ls
  have-arrows = record {
    from = h.from;
    to = h.to;
    edges = LeadTo-later far mid h.from es leads first;
    cells = all-sorted mid.arena.kinds (length es) h.to ids cells;
    named = AreNamed-later far.formula.vars mid.formula.vars es args.named first.formula.vars;
    below = each.below;
    one_cell = one-each;
    one_literal = each.count ∙ one-each;
  }

  -- the edges as the assignment goes on
  same-edges : (c rest : List Bool) → length c ≡ far.formula.vars → (fs : List Edge) → LeadTo far.arena.kinds h.from fs → AreNamed far.formula.vars fs
      → SameAt (c ++ rest) c (decode mid.arena (c ++ rest)) (decode far.arena c) fs
  same-edges c rest n [] k m = tt
  same-edges c rest n (e ∷ fs) k m =
      let there : e.1.index < length far.arena.kinds = sort-there far.arena.kinds h.from e.1 (All-head (λ (e : Edge). OfSort far.arena.kinds h.from e.1) e fs k) in
      let named : e.0.var < far.formula.vars = All-head (λ (e : Edge). IsBelow far.formula.vars e.0) e fs m in (
        lit_value-append e.0 c rest (omega arith),
        (
          decode-before far mid (c ++ rest) e.1 first there ∙ decode-assigned far e.1 c rest n,
          same-edges c rest n fs (All-tail (λ (e : Edge). OfSort far.arena.kinds h.from e.1) e fs k) (All-tail (λ (e : Edge). IsBelow far.formula.vars e.0) e fs m),
        ),
      )

  later-edges : (a : List Bool) (fs : List Edge) → LeadTo far.arena.kinds h.from fs → SameAt a a (decode mid.arena a) (decode far.arena a) fs
  later-edges a [] k = tt
  later-edges a (e ∷ fs) k = (
    refl,
    (
      decode-before far mid a e.1 first (sort-there far.arena.kinds h.from e.1 (All-head (λ (e : Edge). OfSort far.arena.kinds h.from e.1) e fs k)),
      later-edges a fs (All-tail (λ (e : Edge). OfSort far.arena.kinds h.from e.1) e fs k),
    ),
  )

  module _ (new : Build) (r : CellId × Lit) (last : Grows mid new) (made : MakesFunction mid new es ids ls r) where
    made-sound : (a : List Bool) → Satisfies a new.formula → lit_value r.1 a ≡ true → belongs (set.Functions (elements (decode far.arena a s)) (form_value far.arena a g)) (decode new.arena a r.0) ≡ true
    made-sound a sat on =
        let sat_mid = Satisfies-before mid new a last sat in
        let sat_far = Satisfies-before far mid a first sat_mid in
        let of : CellId → Value = decode mid.arena a in
        let ps : List (Value × Value) = present_pairs a of (arrows es ids) in
        let inside = results-belong a of (form_value far.arena a g) es ids ls one-each (sym (made.literal.value a sat) ∙ on)
        (subst (λ (gs : List SetForm). BelongWhere (values ls a) gs (map of ids)) (repeated-values far a (length es) g) (each.sound a sat_mid)) in
        let domain : set_of (arguments ps) ≡ elements (decode far.arena a s) =
        ap set_of (arguments-are a of es ids one-each ∙ same-present a a of (decode far.arena a) es (later-edges a es leads)) ∙ args.members a sat_far in
        ap (λ xs. belongs (set.Functions xs (form_value far.arena a g)) (decode new.arena a r.0)) (sym domain)
        ∙ ap (belongs (set.Functions (set_of (arguments ps)) (form_value far.arena a g))) (made.value a sat)
        ∙ pairs-belong (form_value far.arena a g) ps inside

    -- what is reached, once the pairs are those of a rule
    reached : (a rest : List Bool) (v : Value) → length (a ++ rest) ≡ new.formula.vars → Satisfies (a ++ rest) new.formula → hold_where_there (a ++ rest) es ls ≡ true
        → value.Fun (function_of (present_pairs (a ++ rest) (decode mid.arena (a ++ rest)) (arrows es ids))) ≡ v → Reaches new a r.1 r.0 v
    reached a rest v long sat on same = record {
      more = rest;
      long = long;
      satisfies = sat;
      literal = made.literal.value (a ++ rest) sat ∙ on;
      decodes = made.value (a ++ rest) sat ∙ same;
    }

    -- no argument is there
    reach-empty : (a : List Bool) (v : Value) → length a ≡ far.formula.vars → Satisfies a far.formula → present a (decode far.arena a) es ≡ [] → v ≡ value.Fun [] → Reaches new a r.1 r.0 v
    reach-empty a v n sat off is =
        let far_new : Grows far new = Grows-trans far mid new first last in
        let go = goes-on far.formula new.formula a far_new.formula n sat in
        let d : List Bool = a ++ go.0 in
        let absent : present d (decode mid.arena d) es ≡ [] = same-present d a (decode mid.arena d) (decode far.arena a) es (same-edges a go.0 n es leads args.named) ∙ off in
        reached a go.0 v go.1.0 go.1.1 (hold-off d (decode mid.arena d) es ls absent)
        (ap (λ ps. value.Fun (function_of ps)) (no-pairs _ (arguments-are d (decode mid.arena d) es ids one-each ∙ absent)) ∙ sym is)

    -- the members at the arguments are those that the rule gives
    reach-rule : (a : List Bool) (v w : Value) (rule : Value → Value) → length a ≡ far.formula.vars → Satisfies a far.formula → IsMember (form_value far.arena a g) w
        → ((x : Value) → member x (present a (decode far.arena a) es) ≡ true → IsMember (form_value far.arena a g) (rule x))
        → v ≡ value.Fun (graph (set_of (present a (decode far.arena a) es)) rule) → Reaches new a r.1 r.0 v
    reach-rule a v w rule n sat m rules is =
        let of : CellId → Value = decode far.arena a in
        let q = each.complete a n sat (given_at a of rule w es)
        (subst (λ (gs : List SetForm). AreMembers gs (given_at a of rule w es)) (sym (repeated-values far a (length es) g)) (given-members a of (form_value far.arena a g) rule w es m rules)) in
        let d : List Bool = a ++ q.more in
        let go = goes-on mid.formula new.formula d last.formula q.long q.satisfies in
        let e : d ++ go.0 ≡ a ++ (q.more ++ go.0) = append_assoc a q.more go.0 in
        let x : List Bool = a ++ (q.more ++ go.0) in
        let on : list_all (λ l. lit_value l x) ls ≡ true =
        ap (λ y. list_all (λ l. lit_value l y) ls) (sym e) ∙ lits-longer d go.0 ls (subst (λ k. All (IsBelow k) ls) (sym q.long) each.below) ∙ q.literals in
        let given : map (decode mid.arena x) ids ≡ given_at a of rule w es = ap (λ y. map (decode mid.arena y) ids) (sym e) ∙ values-longer mid d go.0 ids q.long ∙ q.decodes in
        let pairs = chosen-pairs x a (decode mid.arena x) of rule w es ids (same-edges a (q.more ++ go.0) n es leads args.named) given in
        reached a (q.more ++ go.0) v (subst (λ y. length y ≡ new.formula.vars) e go.1.0) (subst (λ y. Satisfies y new.formula) e go.1.1) (hold-all x es ls on)
        (ap (λ ps. value.Fun (function_of ps)) pairs ∙ ap value.Fun (function_graph (present a of es) rule) ∙ sym is)

    made-complete : (a : List Bool) → length a ≡ far.formula.vars → Satisfies a far.formula → (v : Value) → IsMember (set.Functions (elements (decode far.arena a s)) (form_value far.arena a g)) v → Reaches new a r.1 r.0 v
    made-complete a n sat v m =
        let xs : List Value = present a (decode far.arena a) es in
        let rule = function-parts (elements (decode far.arena a s)) (form_value far.arena a g) v (cell-rises far a s) m in
        let domain : set_of xs ≡ elements (decode far.arena a s) = args.members a sat in
        let rules : (x : Value) → member x xs ≡ true → IsMember (form_value far.arena a g) (rule.rule x) =
        λ x k. rule.members x (ap (member x) (sym domain) ∙ member-set_of x xs ∙ k) in
        let is : v ≡ value.Fun (graph (set_of xs) rule.rule) = rule.is ∙ ap (λ l. value.Fun (graph l rule.rule)) (sym domain) in
        split xs refl rule.rule rules is
      where
        split : (xs : List Value) → present a (decode far.arena a) es ≡ xs → (rule : Value → Value)
            → ((x : Value) → member x (present a (decode far.arena a) es) ≡ true → IsMember (form_value far.arena a g) (rule x))
            → v ≡ value.Fun (graph (set_of (present a (decode far.arena a) es)) rule) → Reaches new a r.1 r.0 v
        split [] e rule rules is = reach-empty a v n sat e (is ∙ ap (λ l. value.Fun (graph (set_of l) rule)) e)
        split (u ∷ us) e rule rules is =
            reach-rule a v (rule u) rule n sat (rules u (ap (member u) e ∙ ap (λ t. t || member u us) (same_itself u))) rules is

    pub picks-made : PicksRule far new s g r
    picks-made = record {
      below = made.literal.below;
      sort = λ p o.
          made.sort p.0 p.1 (LeadTo-later far mid p.0 es (args.sorts p.0 o.0) first)
          (all-sorted mid.arena.kinds (length es) p.1 ids (each.sorts (same_sorts (length es) p.1) (same-forms far.arena.kinds (length es) p.1 g o.1)));
      sound = made-sound;
      complete = made-complete;
    }

-- ---- from an older build

pub rule-later : (old far new : Build) (s : CellId) (g : Form) (r : CellId × Lit) → AreFunctions old.arena.kinds s g → Grows old far → PicksRule far new s g r → PicksRule old new s g r
rule-later old far new s g r h before picks = record {
  below = picks.below;
  sort = λ p o. picks.sort p (OfSort-later old far (set_sort p.0) s o.0 before, IsFormOf-later old far before p.1 g o.1);
  sound = λ a sat on. ap (λ f. belongs f (decode new.arena a r.0)) (sym (same a)) ∙ picks.sound a sat on;
  complete = λ a n sat v m.
      let go = goes-on old.formula far.formula a before.formula n sat in
      let c : List Bool = a ++ go.0 in
      let back : set.Functions (elements (decode far.arena c s)) (form_value far.arena c g) ≡ set.Functions (elements (decode old.arena a s)) (form_value old.arena a g) =
      same c ∙ ap₂ (λ u k. set.Functions (elements u) k) (decode-assigned old s a go.0 n) (value-on old a go.0 n h.to g h.results) in
      let q = picks.complete c go.1.0 go.1.1 v (subst (λ f. IsMember f v) (sym back) m) in
      let e : c ++ q.more ≡ a ++ (go.0 ++ q.more) = append_assoc a go.0 q.more in
      record {
        more = go.0 ++ q.more;
        long = subst (λ y. length y ≡ new.formula.vars) e q.long;
        satisfies = subst (λ y. Satisfies y new.formula) e q.satisfies;
        literal = subst (λ y. lit_value r.1 y ≡ true) e q.literal;
        decodes = subst (λ y. decode new.arena y r.0 ≡ v) e q.decodes;
      };
}
  where
    same : (a : List Bool) → set.Functions (elements (decode far.arena a s)) (form_value far.arena a g) ≡ set.Functions (elements (decode old.arena a s)) (form_value old.arena a g)
    same a = ap₂ (λ u k. set.Functions (elements u) k) (decode-before old far a s before (sort-there old.arena.kinds (set_sort h.from) s h.domain)) (value-later old far before a h.to g h.results)

pub functions-later : (old far : Build) (s : CellId) (g : Form) → AreFunctions old.arena.kinds s g → Grows old far → AreFunctions far.arena.kinds s g
functions-later old far s g h before = record {
  from = h.from;
  domain = OfSort-later old far (set_sort h.from) s h.domain before;
  to = h.to;
  results = IsFormOf-later old far before h.to g h.results;
}
