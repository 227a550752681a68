-- A job has one typing: the types of its names and nodes are determined, but for the order in which a record has its fields.
use Rattle.std.proofs.Common.{◌≡◌, ℕ, ◌<◌, IsTrue, List, [], ◌∷◌, map, refl, ap, sym, ◌∙◌, subst, Option, Some, None}
use Rattle.tla_meaning.specs.declared.job.Job.{Job}
use Rattle.snowcat_rows.specs.Types.{Term, Slot, var, con, app, fields, none, some, IntHead}
use Rattle.snowcat_rows.specs.Substitutions.{Sub, apply, apply_slot, or_else, tail_row, then_sub}
use Rattle.snowcat_rows.specs.Closing.{closing}
use Rattle.snowcat_rows.specs.declared.types.Typed.{Typed}
use Rattle.snowcat_types.specs.declared.waiting.Wait.{Wait}
use Rattle.snowcat_types.specs.Requirements.{Requirement, MeetAll}
use Rattle.snowcat_types.specs.Systems.{Annotations, System, all_asked, all_waits, parts_of, system}
use Rattle.snowcat_types.specs.Typings.{Principal, IsTyping}
use Rattle.snowcat_types.specs.Answers.{HaveSameTypes, IsTypedAs, is_typable, types_of_names, types_of_parts}
use Rattle.snowcat_types.proofs.Fitting.{system_fits}
use Rattle.snowcat_types.proofs.Holding.{AllTypes}
use Rattle.snowcat_types.proofs.OneReading.{one_annotation}
use Rattle.snowcat_types.proofs.Order.{Distinct, always}
use Rattle.snowcat_types.proofs.PlainTypes.{Plain, PlainSlot}
use Rattle.snowcat_types.proofs.SystemHeld.{AllParts}
use Rattle.snowcat_types.proofs.Waits.{distinct_waits}

-- ---- two types that are each made from the other differ in the names of variables alone, and are the same once closed

or_none : (x : Slot) → or_else x none ≡ x
or_none none = refl
or_none (some t) = refl

-- a record once closed
closed_fields : (f : List ℕ → Slot) (k : Option ℕ) → apply closing (fields f k) ≡ fields (λ n. apply_slot closing (f n)) None
closed_fields f None = λ i. fields (λ n. or_none (apply_slot closing (f n)) i) None
closed_fields f (Some r) = λ i. fields (λ n. or_none (apply_slot closing (f n)) i) None

app_first : (a b c d : Term) → app a b ≡ app c d → a ≡ c
app_first a b c d e = cc

app_second : (a b c d : Term) → app a b ≡ app c d → b ≡ d
app_second a b c d e = cc

abbrev slot_at : List ℕ → Term → Slot
slot_at n (fields f k) = f n
slot_at n t = none

some_same : (t u : Term) → some t ≡ some u → t ≡ u
some_same t u e = cc

module _ (r q : Sub) where
  made_of_variable : (b : Term) (v : ℕ) → apply q b ≡ var v → apply closing b ≡ con IntHead
  made_of_variable (var w) v e = refl
  made_of_variable (con h) v e = absurd (cc)
  made_of_variable (app a b) v e = absurd (cc)
  made_of_variable (fields f k) v e = absurd (cc)

  nothing_made : (y z : Slot) → or_else (apply_slot q y) z ≡ none → apply_slot closing y ≡ none
  nothing_made none z e = refl
  nothing_made (some t) z e = absurd (cc)

  mutual
    pub closed_same : (a : Term) → apply q (apply r a) ≡ a → apply closing (apply r a) ≡ apply closing a
    closed_same (var v) e = made_of_variable (r.type_of v) v e
    closed_same (con h) e = refl
    closed_same (app a b) e =
        λ i. app (closed_same a (app_first (apply q (apply r a)) (apply q (apply r b)) a b e) i)
        (closed_same b (app_second (apply q (apply r a)) (apply q (apply r b)) a b e) i)
    closed_same (fields f k) e =
        let g : List ℕ → Slot = λ n. or_else (apply_slot r (f n)) ((tail_row r k).at n) in
        closed_fields g (tail_row r k).tail
        ∙ (λ i. fields (λ n. closed_slot (f n) ((tail_row r k).at n) ((tail_row q (tail_row r k).tail).at n) (ap (slot_at n) e) i) None)
        ∙ sym (closed_fields f k)

    closed_slot : (x y z : Slot) → or_else (apply_slot q (or_else (apply_slot r x) y)) z ≡ x →
        apply_slot closing (or_else (apply_slot r x) y) ≡ apply_slot closing x
    closed_slot none y z e = nothing_made y z e
    closed_slot (some t) y z e = ap some (closed_same t (some_same (apply q (apply r t)) t e))

-- ---- substitutions that say the same of the unknown types say the same of all that is made of these

module _ (n : ℕ) (s u : Sub) (same : (v : ℕ) → v < n → s.type_of v ≡ u.type_of v) where
  mutual
    plain_same : (t : Term) → Plain n t → apply s t ≡ apply u t
    plain_same (var v) h = same v h
    plain_same (con c) h = refl
    plain_same (app a b) h = λ i. app (plain_same a h.0 i) (plain_same b h.1 i)
    plain_same (fields f None) h = λ i. fields (λ x. or_else (plain_slot (f x) (h.0 x) i) none) None
    plain_same (fields f (Some r)) h = absurd (cc h.1)

    plain_slot : (x : Slot) → PlainSlot n x → apply_slot s x ≡ apply_slot u x
    plain_slot none h = refl
    plain_slot (some t) h = ap some (plain_same t h)

  types_same : (ts : List Term) → AllTypes (Plain n) ts → map (apply s) ts ≡ map (apply u) ts
  types_same [] h = refl
  types_same (t ∷ ts) h = λ i. plain_same t h.0 i ∷ types_same ts h.1 i

  parts_same : (tss : List (List Term)) → AllParts (Plain n) tss → map (map (apply s)) tss ≡ map (map (apply u)) tss
  parts_same [] h = refl
  parts_same (ts ∷ tss) h = λ i. types_same ts h.0 i ∷ parts_same tss h.1 i

-- ---- two most general solutions, each of which meets what the other one is asked, are the same once closed

module _ (n : ℕ) (rs qs : List Requirement) (s u : Sub) (gs : Principal n rs s) (gu : Principal n qs u) (meets_q : MeetAll s qs) (meets_r : MeetAll u rs)
  where
    solutions_same : (v : ℕ) → v < n → (then_sub closing s).type_of v ≡ (then_sub closing u).type_of v
    solutions_same v lt =
        let to = gu.general s meets_q in
        let back = gs.general u meets_r in
        let e : s.type_of v ≡ apply to.0 (u.type_of v) = to.1 v lt in
        let f : u.type_of v ≡ apply back.0 (s.type_of v) = back.1 v lt in
        ap (apply closing) e ∙ closed_same to.0 back.0 (u.type_of v) (sym (f ∙ ap (apply back.0) e))

-- ---- of a job

module _ (system : System) (d : Distinct (all_waits system)) (names mames : List Term) (parts qarts : List (List Term)) (ds es : List Wait)
    (t : IsTyping system names parts ds) (u : IsTyping system mames qarts es) where
  one_solution : (v : ℕ) → v < system.count → (then_sub closing t.last).type_of v ≡ (then_sub closing u.last).type_of v
  one_solution =
      solutions_same system.count t.all u.all t.last u.last t.principal u.principal
      (always (all_asked system) (all_waits system) d t.last t.all ds t.reached t.principal.meets u.all [] es u.reached)
      (always (all_asked system) (all_waits system) d u.last u.all es u.reached u.principal.meets t.all [] ds t.reached)

  same_names : AllTypes (Plain system.count) system.names → names ≡ mames
  same_names h = t.names_are ∙ types_same system.count (then_sub closing t.last) (then_sub closing u.last) one_solution system.names h ∙ sym u.names_are

  same_parts : AllParts (Plain system.count) system.parts → parts ≡ qarts
  same_parts h = t.parts_are ∙ parts_same system.count (then_sub closing t.last) (then_sub closing u.last) one_solution system.parts h ∙ sym u.parts_are

pub one_typing : (job : Job) (t u : Typed) → IsTrue (is_typable job) → IsTypedAs job t → IsTypedAs job u → HaveSameTypes t u
one_typing job t u can g h =
    let e : h.annotations ≡ g.annotations = one_annotation job h.annotations g.annotations h.are g.are in
    let P : Annotations → Type 0 = λ z. IsTyping (system z job) (types_of_names u) (types_of_parts u) h.defaults in
    let i : IsTyping (system g.annotations job) (types_of_names u) (types_of_parts u) h.defaults = subst P e h.typing in
    let d = distinct_waits g.annotations (parts_of job) in
    let f = system_fits job g.annotations g.are can in
    record {
      names = same_names (system g.annotations job) d (types_of_names t) (types_of_names u) (types_of_parts t) (types_of_parts u) g.defaults h.defaults
          g.typing i f.names;
      parts = same_parts (system g.annotations job) d (types_of_names t) (types_of_names u) (types_of_parts t) (types_of_parts u) g.defaults h.defaults
          g.typing i f.parts;
    }
