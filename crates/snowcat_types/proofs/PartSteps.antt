-- Steps of gathering what a job asks of its types.
use Rattle.std.proofs.Common.{◌≡◌, ℕ, zero, suc, ◌+◌, ◌<◌, List, [], ◌∷◌, ◌++◌, append_assoc, get_or, length, map, take, refl, ap, ◌∙◌, sym, subst, arith}
use Rattle.std.proofs.lemmas.List.{length-take-le, take_more}
use Rattle.tla_meaning.specs.declared.expr.Expr.{Expr}
use Rattle.tla_meaning.specs.declared.job.Job.{Job}
use Rattle.tla_meaning.specs.declared.place.Place.{Place}
use Rattle.snowcat_rows.specs.declared.types.Ty.{Ty, Bool, Var}
use Rattle.snowcat_rows.specs.Types.{Term, mean, var}
use Rattle.snowcat_rows.specs.Readings.{moved}
use Rattle.snowcat_rows.proofs.Means.{mean-Bool, mean-Var}
use Rattle.snowcat_types.specs.declared.gathered.Entry.{Entry as BuiltEntry}
use Rattle.snowcat_types.specs.declared.gathered.Requirement.{Requirement as BuiltRequirement}
use Rattle.snowcat_types.specs.declared.gathered.Requirement.TheVariants as built
use Rattle.snowcat_types.specs.declared.gathering.Names.{Names}
use Rattle.snowcat_types.specs.declared.told.Told.{Told}
use Rattle.snowcat_types.specs.declared.trees.Gathering.{Gathering}
use Rattle.snowcat_types.specs.declared.trees.Seen.{Seen}
use Rattle.snowcat_types.specs.Requirements.{Equal}
use Rattle.snowcat_types.specs.TypeForms.{bool_type}
use Rattle.snowcat_types.specs.Rows.{Context}
use Rattle.snowcat_types.specs.Systems.{Entry, Asks, Found, Annotations, all_entries, behind, count_declared, declared_types, first_unknown, names_from, outermost, parts_of, root_asks, system, visit, visit_part, visits}
use Rattle.snowcat_types.specs.inner.Built.{means, note_of, scope_of, context_of}
use Rattle.snowcat_types.specs.inner.Gathered.{annotations_of, entries_of, entry_of, requirement_of, requirements_of, system_of_built}
use Rattle.snowcat_types.specs.inner.Visiting.{AddsParts, AreDeclared, IsStart, Visited, declared_of}
use Rattle.snowcat_types.proofs.TreeSteps.{as_long, map_append, nothing_behind}

-- ---- parts

pub truth_asked : (p : Place) (t : Ty) (rs : List BuiltRequirement) → rs ≡ built.Equal Bool t ∷ [] →
    Asks p (requirements_of rs) ≡ Asks p (Equal bool_type (mean t) ∷ [])
truth_asked p t rs e = ap (λ z. Asks p (requirements_of z)) e ∙ ap (λ z. Asks p (Equal z (mean t) ∷ [])) mean-Bool

pub part_added : (old b d new : Gathering) (s : Seen) (e : Expr) (asks : BuiltEntry) (ts : List Ty) →
    b.types.items ≡ [] → b.next ≡ old.next → b.around ≡ old.around → b.entries ≡ old.entries → b.parts ≡ old.parts →
    Visited b d (visit e b.next (context_of b.around)) s → entry_of asks ≡ Asks s.sight.place (Equal bool_type (mean s.of) ∷ []) →
    ts ≡ d.types.items → new.next ≡ d.next → new.around ≡ d.around → new.entries.items ≡ d.entries.items ++ asks ∷ [] →
    new.parts.items ≡ d.parts.items ++ ts ∷ [] → AddsParts old new (e ∷ [])
part_added old b d new s e asks ts empty n a es ps v r t m c fs qs =
    let f : Found = visit e old.next (context_of old.around) in
    let one : Visited b d f s = subst (λ z. Visited b d z s) (λ i. visit e (n i) (context_of (a i))) v in
    let own : List Entry = root_asks f ∷ [] in
    let root : entry_of asks ∷ [] ≡ own =
    ap (λ z. z ∷ []) (r ∙ (λ i. Asks (one.sight_is i).place (Equal bool_type (one.type_is i) ∷ []))) in
    let below : entries_of d.entries.items ≡ entries_of old.entries.items ++ f.entries =
    one.adds.entries_are ∙ ap (λ z. entries_of z.items ++ f.entries) es in
    record {
      next_is = m ∙ one.next_is;
      parts_are =
          ap (map means) qs ∙ map_append means d.parts.items (ts ∷ [])
          ∙ (λ i. map means ((one.adds.stays.parts ∙ ap (λ z. z.items) ps) i) ++ ((ap means t ∙ one.adds.types_are ∙ ap (λ z. means z ++ f.types) empty) i) ∷ []);
      entries_are =
          ap entries_of fs ∙ map_append entry_of d.entries.items (asks ∷ []) ∙ (λ i. below i ++ root i)
          ∙ append_assoc (entries_of old.entries.items) f.entries own
          ∙ ap (λ z. entries_of old.entries.items ++ z) (sym (nothing_behind (f.entries ++ own)));
      notes = ap (λ z. z.notes) c ∙ one.adds.stays.notes ∙ ap (λ z. z.notes) a;
      bound = ap (λ z. z.bound.items) c ∙ one.adds.stays.bound ∙ ap (λ z. z.bound.items) a;
    }

visits_append : (c : Context) (es fs : List Expr) (v : ℕ) → visits c (es ++ fs) v ≡ visits c es v ++ visits c fs (behind v (visits c es v))
visits_append c [] fs v = refl
visits_append c (e ∷ es) fs v = ap (λ z. visit_part e v c ∷ z) (visits_append c es fs (visit e v c).next)

behind_append : (v : ℕ) (ks js : List Found) → behind v (ks ++ js) ≡ behind (behind v ks) js
behind_append v [] js = refl
behind_append v (k ∷ ks) js = behind_append k.next ks js

entries_append : (ks js : List Found) → all_entries (ks ++ js) ≡ all_entries ks ++ all_entries js
entries_append [] js = refl
entries_append (k ∷ ks) js = ap (λ z. k.entries ++ z) (entries_append ks js) ∙ sym (append_assoc k.entries (all_entries ks) (all_entries js))

pub no_parts : (a : Gathering) → AddsParts a a []
no_parts a = record {
  next_is = refl;
  parts_are = sym (nothing_behind (map means a.parts.items));
  entries_are = sym (nothing_behind (entries_of a.entries.items));
  notes = refl;
  bound = refl;
}

pub more_parts : (a b d : Gathering) (es fs : List Expr) → AddsParts a b es → AddsParts b d fs → AddsParts a d (es ++ fs)
more_parts a b d es fs h k =
    let c : Context = context_of a.around in
    let ks : List Found = visits c es a.next in
    let js : List Found = visits c fs (behind a.next ks) in
    let same : visits (context_of b.around) fs b.next ≡ js =
    λ i. visits (record { declared = var; noted = note_of (h.notes i); bound = scope_of (h.bound i) }) fs (h.next_is i) in
    let all : ks ++ js ≡ visits c (es ++ fs) a.next = sym (visits_append c es fs a.next) in
    record {
      next_is = k.next_is ∙ (λ i. behind (h.next_is i) (same i)) ∙ sym (behind_append a.next ks js) ∙ ap (behind a.next) all;
      parts_are =
          k.parts_are ∙ (λ i. h.parts_are i ++ map (λ f. f.types) (same i))
          ∙ append_assoc (map means a.parts.items) (map (λ f. f.types) ks) (map (λ f. f.types) js)
          ∙ ap (λ z. map means a.parts.items ++ z) (sym (map_append (λ f. f.types) ks js) ∙ ap (map (λ f. f.types)) all);
      entries_are =
          k.entries_are ∙ (λ i. h.entries_are i ++ all_entries (same i))
          ∙ append_assoc (entries_of a.entries.items) (all_entries ks) (all_entries js)
          ∙ ap (λ z. entries_of a.entries.items ++ z) (sym (entries_append ks js) ∙ ap all_entries all);
      notes = k.notes ∙ h.notes;
      bound = k.bound ∙ h.bound;
    }

pub next_invariant : (a b d : Gathering) (invs : List (List ℕ × Expr)) (i : ℕ) (v : List ℕ × Expr) → i < length invs → v ≡ get_or invs i v →
    AddsParts a b (map (λ x. x.1) (take i invs)) → AddsParts b d (v.1 ∷ []) → AddsParts a d (map (λ x. x.1) (take (i + 1) invs))
next_invariant a b d invs i v lt q h k =
    subst (AddsParts a d)
    (sym (map_append (λ x. x.1) (take i invs) (v ∷ []))
    ∙ ap (map (λ x. x.1)) (sym (take_more invs i v lt ∙ ap (λ z. take i invs ++ z ∷ []) (sym q))))
    (more_parts a b d (map (λ x. x.1) (take i invs)) (v.1 ∷ []) h k)

-- ---- declared names

declared_append : (i v : ℕ) (ts us : List (Term × ℕ)) → declared_types i v (ts ++ us) ≡ declared_types i v ts ++ declared_types (i + length ts) (v + count_declared ts) us
declared_append i v [] us =
    let e : i ≡ i + 0 = omega arith in let f : v ≡ v + 0 = omega arith in λ z. declared_types (e z) (f z) us
declared_append i v (t ∷ ts) us =
    let e : (i + 1) + length ts ≡ i + suc (length ts) = omega arith in
    let f : (v + t.1) + count_declared ts ≡ v + (t.1 + count_declared ts) = omega arith in
    ap (λ z. Equal (moved v t.0) (var i) ∷ z) (declared_append (i + 1) (v + t.1) ts us ∙ (λ z. declared_types (i + 1) (v + t.1) ts ++ declared_types (e z) (f z) us))

count_append : (ts us : List (Term × ℕ)) → count_declared (ts ++ us) ≡ count_declared ts + count_declared us
count_append [] us = let e : count_declared us ≡ 0 + count_declared us = omega arith in e
count_append (t ∷ ts) us = let h = count_append ts us in let e : t.1 + count_declared (ts ++ us) ≡ (t.1 + count_declared ts) + count_declared us = omega (arith, h) in e

pub one_declared : (i v n : ℕ) (of t : Ty) → mean t ≡ moved v (mean of) → n ≡ 0 + i →
    requirements_of (built.Equal t (Var n) ∷ []) ≡ declared_types i v ((mean of, 0) ∷ [])
one_declared i v n of t h e = let q : n ≡ i = omega (arith, e) in λ z. Equal (h z) ((mean-Var n ∙ ap var q) z) ∷ []

-- the first i declared names, whose unknown types begin behind those of all names
pub record Declares (v i : ℕ) (xs : List (Ty × ℕ)) (asked : List BuiltRequirement) (next : ℕ) : Type 0 where
  pub asked_are : requirements_of asked ≡ declared_types 0 v (declared_of (take i xs))
  pub next_is : next ≡ v + count_declared (declared_of (take i xs))

pub declares_more : (v i : ℕ) (xs : List (Ty × ℕ)) (x : Ty × ℕ) (rs qs : List BuiltRequirement) (r : BuiltRequirement) (next later : ℕ) →
    i < length xs → x ≡ get_or xs i x → Declares v i xs rs next → requirements_of (r ∷ []) ≡ declared_types i next ((mean x.0, 0) ∷ []) → qs ≡ rs ++ r ∷ [] →
    later ≡ next + x.1 → Declares v (i + 1) xs qs later
declares_more v i xs x rs qs r next later lt q h e p n =
    let ts : List (Term × ℕ) = declared_of (take i xs) in
    let t : Term × ℕ = (mean x.0, x.1) in
    let more : ts ++ t ∷ [] ≡ declared_of (take (i + 1) xs) =
    sym (map_append (λ y. (mean y.0, y.1)) (take i xs) (x ∷ []))
    ∙ ap declared_of (sym (take_more xs i x lt ∙ ap (λ z. take i xs ++ z ∷ []) (sym q))) in
    let l : length ts ≡ i = as_long (λ y. (mean y.0, y.1)) (take i xs) ∙ length-take-le i xs (omega (arith, lt)) in
    let at_end : i ≡ 0 + length ts = omega (arith, l) in
    record {
      asked_are =
          ap requirements_of p ∙ map_append requirement_of rs (r ∷ []) ∙ (λ z. h.asked_are z ++ e z)
          ∙ (λ z. declared_types 0 v ts ++ declared_types (at_end z) (h.next_is z) (t ∷ []))
          ∙ sym (declared_append 0 v ts (t ∷ [])) ∙ ap (declared_types 0 v) more;
      next_is =
          let m : next ≡ v + count_declared ts = h.next_is in
          let c : count_declared (ts ++ t ∷ []) ≡ count_declared ts + (x.1 + 0) = count_append ts (t ∷ []) in
          let d : later ≡ v + count_declared (ts ++ t ∷ []) = omega (arith, m, n, c) in
          d ∙ ap (λ z. v + count_declared z) more;
    }

names_suc : (i n : ℕ) → names_from i (suc n) ≡ names_from i n ++ var (i + n) ∷ []
names_suc i zero = let e : i ≡ i + 0 = omega arith in ap (λ z. var z ∷ []) e
names_suc i (suc n) =
    let e : (i + 1) + n ≡ i + suc n = omega arith in
    ap (λ z. var i ∷ z) (names_suc (i + 1) n ∙ ap (λ z. names_from (i + 1) n ++ var z ∷ []) e)

pub next_name_type : (i v : ℕ) (ts us : List Ty) → us ≡ ts ++ Var v ∷ [] → means ts ≡ names_from 0 i → v ≡ 0 + i → means us ≡ names_from 0 (i + 1)
next_name_type i v ts us e h q =
    let up : suc i ≡ i + 1 = omega arith in
    ap means e ∙ map_append mean ts (Var v ∷ [])
    ∙ (λ z. h z ++ (mean-Var v ∙ ap var q) z ∷ [])
    ∙ sym (names_suc 0 i) ∙ ap (names_from 0) up

-- ---- the system

pub system_is : (told : Told) (job : Job) (n : Names) (start whole : Gathering) (names : List Ty) → AreDeclared told.declared n →
    IsStart start told.notes n.next → AddsParts start whole (parts_of job) → means names ≡ names_from 0 (length told.declared) →
    system_of_built (record { count = whole.next; declared = n.asked.items; entries = whole.entries.items; names = names; parts = whole.parts.items })
    ≡ system (annotations_of told) job
system_is told job n start whole names a s w t =
    let an : Annotations = annotations_of told in
    let c : context_of start.around ≡ outermost an =
    λ i. record { declared = var; noted = note_of (s.notes_are i); bound = scope_of (s.bound_are i) } in
    let l : length told.declared ≡ length an.declared = sym (as_long (λ x. (mean x.0, x.1)) told.declared) in
    let first : start.next ≡ first_unknown an = s.next_is ∙ a.next_is ∙ ap (λ z. z + count_declared an.declared) l in
    let found : visits (context_of start.around) (parts_of job) start.next ≡ visits (outermost an) (parts_of job) (first_unknown an) =
    λ i. visits (c i) (parts_of job) (first i) in
    λ i. record {
      count = (w.next_is ∙ (λ j. behind (first j) (found j))) i;
      declared = (a.asked_are ∙ ap (λ z. declared_types 0 z an.declared) l) i;
      entries = (w.entries_are ∙ (λ j. entries_of (s.entries_are j) ++ all_entries (found j))) i;
      names = (t ∙ ap (names_from 0) l) i;
      parts = (w.parts_are ∙ (λ j. map means (s.parts_are j) ++ map (λ f. f.types) (found j))) i;
    }
