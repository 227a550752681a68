-- All that a job asks for speaks of its unknown types alone, has each row variable after one list of names, and no operator
-- type stands in it.
use Rattle.std.proofs.Common.{◌≡◌, ℕ, zero, suc, ◌+◌, ◌<◌, ◌≤◌, Bool, true, false, IsTrue, inl, inr, List, [], ◌∷◌, ◌++◌, map, length, refl, ap, sym, ◌∙◌, subst, arith, append_assoc, Option, Some, None}
use Rattle.std.specs.Prelude.{replicate, option_map, bytes_eq, if◌then◌else◌, All}
use Rattle.std.proofs.lemmas.List.{length-append, length-replicate}
use Rattle.std.proofs.lemmas.List.Elements.{All-cons, All-nil}
use Rattle.tla_meaning.specs.declared.expr.Decl.{Decl}
use Rattle.tla_meaning.specs.declared.job.Job.{Job}
use Rattle.snowcat_rows.specs.Types.{Term, Slot, var, con, app, fields, none, some, row, lookup}
use Rattle.snowcat_rows.specs.Substitutions.{Sub, apply, then_sub, Fronts, Present, Sorted, SortedSlot}
use Rattle.snowcat_rows.specs.Chains.{Variable, type_var, row_var, number, OccursSlot}
use Rattle.snowcat_rows.specs.Sorting.{Within}
use Rattle.snowcat_rows.specs.Readings.{moved, moved_slot}
use Rattle.snowcat_rows.specs.inner.Fronted.{Front, at, Fronted, FrontedSlot}
use Rattle.snowcat_rows.proofs.RowTheory.{apply_apply}
use Rattle.snowcat_rows.proofs.Sayings.{known_said}
use Rattle.snowcat_rows.specs.Throughout.{ThroughoutSlot}
use Rattle.snowcat_rows.specs.declared.types.Typed.{Typed}
use Rattle.snowcat_types.specs.declared.waiting.Wait.{Wait}
use Rattle.snowcat_types.specs.declared.waiting.Wait.TheVariants as wait
use Rattle.snowcat_rows.specs.Closing.{closing}
use Rattle.snowcat_types.specs.Rows.{Scope}
use Rattle.snowcat_types.specs.Waiting.{items_from}
use Rattle.snowcat_types.specs.Typings.{IsTyping}
use Rattle.snowcat_rows.specs.Operators.{IsNoOperator, HasNoOperator}
use Rattle.snowcat_types.specs.Requirements.{Requirement, Equal, ItemOf, FieldOf, IsFormed, Never}
use Rattle.snowcat_types.specs.Systems.{Annotations, count_declared, declared_types, first_unknown, asked, names_from, System, system, all_asked, all_waits}
use Rattle.snowcat_types.specs.Annotated.{Aliases, IsNameType, AreNameTypes, AreAnnotations}
use Rattle.snowcat_types.specs.Answers.{is_typable, IsGround, IsTypedAs, AllGround, types_of_names, types_of_parts}
use Rattle.snowcat_types.proofs.Held.{RequirementHas, AllRequired, asked_have, EachHas, WaitHas, waited_have}
use Rattle.snowcat_types.proofs.PlainTypes.{Plain, keeps_plain, plain_within, plain_sorted, plain_no_operator, closed_plain, closing_ground, applied_no_operator}
use Rattle.snowcat_types.proofs.SystemHeld.{AllParts, job_held, first_in, reached_held}
use Rattle.snowcat_types.proofs.Erased.{principal_plain}
use Rattle.snowcat_types.proofs.Holding.{AllTypes, AllNamed, KeepsForms}
use Rattle.snowcat_types.specs.inner.Solved.{Inside, SortedIn, Stable}

-- ---- types moved behind others

at_behind : (ps qs : List Front) (r : ℕ) → at (ps ++ qs) (length ps + r) ≡ at qs r
at_behind [] qs r = let e : 0 + r ≡ r = omega arith in ap (at qs) e
at_behind (p ∷ ps) qs r = let e : suc (length ps) + r ≡ suc (length ps + r) = omega arith in ap (at (p ∷ ps ++ qs)) e ∙ at_behind ps qs r

at_first : (ps qs : List Front) (r : ℕ) → r < length ps → at (ps ++ qs) r ≡ at ps r
at_first [] qs r lt = absurd (omega (arith, lt))
at_first (p ∷ ps) qs zero lt = refl
at_first (p ∷ ps) qs (suc r) lt = at_first ps qs r (omega (arith, lt))

long : (ps qs : List Front) → length (ps ++ qs) ≡ length ps + length qs
long ps qs = length-append ps qs

present_is : (x : Slot) (a b : Bool) → a ≡ b → Present x b → Present x a
present_is x a b e p = let P : Bool → Type 0 = λ z. Present x z in subst P (sym e) p

present_moved : (m : ℕ) (x : Slot) (b : Bool) → Present x b → Present (moved_slot m x) b
present_moved m none b p = p
present_moved m (some t) b p = p

some_number : (k : Option ℕ) (m r : ℕ) → option_map (λ z. m + z) k ≡ Some r → (q : ℕ) × (k ≡ Some q) × (r ≡ m + q)
some_number None m r e = absurd (cc)
some_number (Some q) m r e = (q, refl, cc)

mutual
  more_fronts : (ps qs : List Front) (t : Term) → Fronted ps t → Fronted (ps ++ qs) t
  more_fronts ps qs (var v) h = let e : length (ps ++ qs) ≡ length ps + length qs = long ps qs in omega (arith, h, e)
  more_fronts ps qs (con c) h = tt
  more_fronts ps qs (app a b) h = (more_fronts ps qs a h.0, more_fronts ps qs b h.1)
  more_fronts ps qs (fields f k) h = (
    λ x. more_slot ps qs (f x) (h.0 x),
    λ r e.
        let i = h.1 r e in
        let lt : r < length ps = i.0 in
        let l : length (ps ++ qs) ≡ length ps + length qs = long ps qs in
        (omega (arith, lt, l), λ x. present_is (f x) (at (ps ++ qs) r x) (at ps r x) (ap (λ z. z x) (at_first ps qs r lt)) (i.1 x)),
  )

  more_slot : (ps qs : List Front) (x : Slot) → FrontedSlot ps x → FrontedSlot (ps ++ qs) x
  more_slot ps qs none h = tt
  more_slot ps qs (some t) h = more_fronts ps qs t h

mutual
  moved_fronts : (ps qs : List Front) (t : Term) → Fronted qs t → Fronted (ps ++ qs) (moved (length ps) t)
  moved_fronts ps qs (var v) h = let e : length (ps ++ qs) ≡ length ps + length qs = long ps qs in omega (arith, h, e)
  moved_fronts ps qs (con c) h = tt
  moved_fronts ps qs (app a b) h = (moved_fronts ps qs a h.0, moved_fronts ps qs b h.1)
  moved_fronts ps qs (fields f k) h = (
    λ x. moved_slot_fronts ps qs (f x) (h.0 x),
    λ r e.
        let s = some_number k (length ps) r e in
        let i = h.1 s.0 s.1 in
        let lt : s.0 < length qs = i.0 in
        let q : r ≡ length ps + s.0 = s.2 in
        let l : length (ps ++ qs) ≡ length ps + length qs = long ps qs in (
          omega (arith, lt, l, q),
          λ x. present_moved (length ps) (f x) (at (ps ++ qs) r x)
              (present_is (f x) (at (ps ++ qs) r x) (at qs s.0 x) (ap (λ z. at (ps ++ qs) z x) q ∙ ap (λ z. z x) (at_behind ps qs s.0)) (i.1 x)),
        ),
  )

  moved_slot_fronts : (ps qs : List Front) (x : Slot) → FrontedSlot qs x → FrontedSlot (ps ++ qs) (moved_slot (length ps) x)
  moved_slot_fronts ps qs none h = tt
  moved_slot_fronts ps qs (some t) h = moved_fronts ps qs t h

mutual
  fronted_within : (ps : List Front) (t : Term) → Fronted ps t → Within (length ps) t
  fronted_within ps (var w) h (type_var v) o = is_below v w o h
    where
      is_below : (v w : ℕ) → v ≡ w → w < length ps → v < length ps
      is_below v w e lt = omega (arith, e, lt)
  fronted_within ps (var w) h (row_var v) o = absurd o
  fronted_within ps (con c) h v o = absurd o
  fronted_within ps (app a b) h v (inl o) = fronted_within ps a h.0 v o
  fronted_within ps (app a b) h v (inr o) = fronted_within ps b h.1 v o
  fronted_within ps (fields f k) h v (inl o) = fronted_slot_within ps (f o.0) (h.0 o.0) v o.1
  fronted_within ps (fields f k) h (type_var v) (inr o) = absurd o
  fronted_within ps (fields f k) h (row_var v) (inr o) = (h.1 v o).0

  fronted_slot_within : (ps : List Front) (x : Slot) → FrontedSlot ps x → (v : Variable) → OccursSlot v x → number v < length ps
  fronted_slot_within ps none h v o = absurd o
  fronted_slot_within ps (some t) h v o = fronted_within ps t h v o

mutual
  fronted_sorted : (ps : List Front) (t : Term) → Fronted ps t → Sorted (at ps) t
  fronted_sorted ps (var v) h = tt
  fronted_sorted ps (con c) h = tt
  fronted_sorted ps (app a b) h = (fronted_sorted ps a h.0, fronted_sorted ps b h.1)
  fronted_sorted ps (fields f k) h = (λ x. fronted_slot_sorted ps (f x) (h.0 x), λ r e x. (h.1 r e).1 x)

  fronted_slot_sorted : (ps : List Front) (x : Slot) → FrontedSlot ps x → SortedSlot (at ps) x
  fronted_slot_sorted ps none h = tt
  fronted_slot_sorted ps (some t) h = fronted_sorted ps t h

mutual
  moved_no_operator : (m : ℕ) (t : Term) → HasNoOperator t → HasNoOperator (moved m t)
  moved_no_operator m (var v) h = tt
  moved_no_operator m (con c) h = h
  moved_no_operator m (app a b) h = (moved_no_operator m a h.0, moved_no_operator m b h.1)
  moved_no_operator m (fields f k) h = (λ x. moved_slot_no_operator m (f x) (h.0 x), tt)

  moved_slot_no_operator : (m : ℕ) (x : Slot) → ThroughoutSlot (λ v. Unit {0}) IsNoOperator (λ k. Unit {0}) x →
      ThroughoutSlot (λ v. Unit {0}) IsNoOperator (λ k. Unit {0}) (moved_slot m x)
  moved_slot_no_operator m none h = tt
  moved_slot_no_operator m (some t) h = moved_no_operator m t h

-- ---- what is asked of the declared names

-- in the variables below n, with these names before the row variables
abbrev pub FitsIn : ℕ → Fronts → Requirement → Type 0
FitsIn n l q = ((Inside n q × Stable q) × SortedIn l q) × RequirementHas HasNoOperator q

abbrev pub AllFit : ℕ → Fronts → List Requirement → Type 0
AllFit n l [] = Unit {0}
AllFit n l (q ∷ qs) = FitsIn n l q × AllFit n l qs

within_more : (n m : ℕ) (t : Term) → n ≤ m → Within n t → Within m t
within_more n m t le w v o = let lt : number v < n = w v o in omega (arith, lt, le)

-- so many variables behind ps, with the names before them
record Behind (aliases : Aliases) (ts : List (Term × ℕ)) (i : ℕ) (ps : List Front) : Type 0 where
  qs : List Front
  count : length qs ≡ count_declared ts
  fits : (rest : List Front) (n : ℕ) → length (ps ++ (qs ++ rest)) ≤ n → i + length ts ≤ n →
      AllFit n (at (ps ++ (qs ++ rest))) (declared_types i (length ps) ts)

var_within : (n v : ℕ) → v < n → Within n (var v)
var_within n w h (type_var v) o = is_below v w o h
  where
    is_below : (v w : ℕ) → v ≡ w → w < n → v < n
    is_below v w e lt = omega (arith, e, lt)
var_within n w h (row_var v) o = absurd o

name_fronts : (aliases : Aliases) (d : Decl) (t : Term × ℕ) → IsNameType aliases d t → (ps : List Front) × (length ps ≡ t.1) × Fronted ps t.0
name_fronts aliases d t h =
    let r = h.read_with in
    let g = known_said aliases r.0 r.1 h.text r.2.0 r.2.1 in
    let P : Term → Type 0 = λ z. Fronted g.0 z in
    (g.0, g.1 ∙ sym r.2.4, subst P (sym r.2.3) g.2)

declared_behind : (aliases : Aliases) (ds : List Decl) (ts : List (Term × ℕ)) (i : ℕ) (ps : List Front) → AreNameTypes aliases ds ts → Behind aliases ts i ps
declared_behind aliases [] [] i ps h = record { qs = []; count = refl; fits = λ rest n le lt. tt }
declared_behind aliases [] (t ∷ ts) i ps h = absurd h
declared_behind aliases (d ∷ ds) [] i ps h = absurd h
declared_behind aliases (d ∷ ds) (t ∷ ts) i ps h =
    let q = name_fronts aliases d t h.0 in
    let b : Behind aliases ts (i + 1) (ps ++ q.0) = declared_behind aliases ds ts (i + 1) (ps ++ q.0) h.1 in
    let l : length (ps ++ q.0) ≡ length ps + t.1 = long ps q.0 ∙ ap (λ z. length ps + z) q.1 in
    record {
      qs = q.0 ++ b.qs;
      count = long q.0 b.qs ∙ ap (λ z. z + length b.qs) q.1 ∙ ap (λ z. t.1 + z) b.count;
      fits = λ rest n le lt.
          let zs : List Front = ps ++ ((q.0 ++ b.qs) ++ rest) in
          let same : (ps ++ q.0) ++ (b.qs ++ rest) ≡ zs = append_assoc ps q.0 (b.qs ++ rest) ∙ ap (λ z. ps ++ z) (sym (append_assoc q.0 b.qs rest)) in
          let P : List Front → Type 0 = λ z. Fronted z (moved (length ps) t.0) in
          let f : Fronted zs (moved (length ps) t.0) = subst P same (more_fronts (ps ++ q.0) (b.qs ++ rest) (moved (length ps) t.0) (moved_fronts ps q.0 t.0 q.2)) in
          let Q : List Front → Type 0 = λ z. AllFit n (at z) (declared_types (i + 1) (length (ps ++ q.0)) ts) in
          let R : ℕ → Type 0 = λ z. AllFit n (at zs) (declared_types (i + 1) z ts) in
          let le2 : length ((ps ++ q.0) ++ (b.qs ++ rest)) ≤ n = (let e : length ((ps ++ q.0) ++ (b.qs ++ rest)) ≡ length zs = ap length same in omega (arith, le, e)) in
          let lt2 : (i + 1) + length ts ≤ n = omega (arith, lt) in
          let m : Term = moved (length ps) t.0 in
          let inside : Within n m × Within n (var i) = (within_more (length zs) n m le (fronted_within zs m f), var_within n i (omega (arith, lt))) in
          let sorted : Sorted (at zs) m × Sorted (at zs) (var i) = (fronted_sorted zs m f, tt) in
          let plain : HasNoOperator m × HasNoOperator (var i) = (moved_no_operator (length ps) t.0 h.0.no_operator, tt) in
          ((((inside, tt), sorted), plain), subst R l (subst Q same (b.fits rest n le2 lt2)));
    }

fit_append : (n : ℕ) (l : Fronts) (rs qs : List Requirement) → AllFit n l rs → AllFit n l qs → AllFit n l (rs ++ qs)
fit_append n l [] qs h k = k
fit_append n l (r ∷ rs) qs h k = (h.0, fit_append n l rs qs h.1 k)

-- ---- what is asked of nodes

plain_fits : (n : ℕ) (l : Fronts) (q : Requirement) → RequirementHas (Plain n) q → FitsIn n l q
plain_fits n l (Equal a b) h =
    ((((plain_within n a h.0, plain_within n b h.1), tt), (plain_sorted n l a h.0, plain_sorted n l b h.1)), (plain_no_operator n a h.0, plain_no_operator n b h.1))
plain_fits n l (ItemOf a i b) h =
    ((((plain_within n a h.0, plain_within n b h.1), tt), (plain_sorted n l a h.0, plain_sorted n l b h.1)), (plain_no_operator n a h.0, plain_no_operator n b h.1))
plain_fits n l (FieldOf a x b) h =
    ((((plain_within n a h.0, plain_within n b h.1), tt), (plain_sorted n l a h.0, plain_sorted n l b h.1)), (plain_no_operator n a h.0, plain_no_operator n b h.1))
plain_fits n l (IsFormed k a) h = (((plain_within n a h.0, h.1), plain_sorted n l a h.0), (plain_no_operator n a h.0, h.1))
plain_fits n l Never h = (((tt, tt), tt), tt)

pub all_plain_fit : (n : ℕ) (l : Fronts) (qs : List Requirement) → AllRequired (Plain n) qs → AllFit n l qs
all_plain_fit n l [] h = tt
all_plain_fit n l (q ∷ qs) h = (plain_fits n l q h.0, all_plain_fit n l qs h.1)

names_plain : (n i m : ℕ) → i + m ≤ n → AllTypes (Plain n) (names_from i m)
names_plain n i zero le = tt
names_plain n i (suc m) le = (omega (arith, le), names_plain n (i + 1) m (omega (arith, le)))

-- ---- of a job

pub record SystemFits (system : System) : Type 0 where
  pub fronts : Fronts
  pub asked : AllFit system.count fronts (all_asked system)
  pub waits : EachHas (Plain system.count) (all_waits system)
  pub names : AllTypes (Plain system.count) system.names
  pub parts : AllParts (Plain system.count) system.parts

pub system_fits : (job : Job) (an : Annotations) → AreAnnotations job an → IsTrue (is_typable job) → SystemFits (system an job)
system_fits job an are can =
    let n : ℕ = (system an job).count in
    let m : ℕ = length an.declared in
    let held = job_held (Plain n) (keeps_plain n) job an are can (λ j lt. lt) (λ t w h. closed_plain n t w h) in
    let le : first_unknown an ≤ n = first_in (Plain n) (keeps_plain n) job an are can (λ j lt. lt) (λ t w h. closed_plain n t w h) in
    let ps : List Front = replicate m (λ x. false) in
    let lm : length ps ≡ m = length-replicate m (λ x. false) in
    let b : Behind job.aliases an.declared 0 ps = declared_behind job.aliases job.names an.declared 0 ps are.names in
    let zs : List Front = ps ++ (b.qs ++ []) in
    let lz : length zs ≡ first_unknown an =
    long ps (b.qs ++ []) ∙ ap (λ z. z + length (b.qs ++ [])) lm ∙ ap (λ z. m + z) (long b.qs [] ∙ (let e : length b.qs + 0 ≡ length b.qs = omega arith in e) ∙ b.count) in
    let P : ℕ → Type 0 = λ z. AllFit n (at zs) (declared_types 0 z an.declared) in
    record {
      fronts = at zs;
      asked = fit_append n (at zs) (declared_types 0 m an.declared) (asked (system an job).entries)
          (subst P lm (b.fits [] n (omega (arith, le, lz)) (let f : m + count_declared an.declared ≤ n = le in omega (arith, f))))
          (all_plain_fit n (at zs) (asked (system an job).entries) (asked_have (Plain n) (system an job).entries held.1));
      waits = waited_have (Plain n) (system an job).entries held.1;
      names = names_plain n 0 m (let f : m + count_declared an.declared ≤ n = le in omega (arith, f));
      parts = held.0;
    }

-- ---- so no type of a typing holds a variable or an operator type

all_no_operator : (n : ℕ) (l : Fronts) (qs : List Requirement) → AllFit n l qs → AllRequired HasNoOperator qs
all_no_operator n l [] h = tt
all_no_operator n l (q ∷ qs) h = (h.0.1, all_no_operator n l qs h.1)

plain_types : (n : ℕ) (ts : List Term) → AllTypes (Plain n) ts → AllTypes HasNoOperator ts
plain_types n [] h = tt
plain_types n (t ∷ ts) h = (plain_no_operator n t h.0, plain_types n ts h.1)

plain_wait : (n : ℕ) (w : Wait) → WaitHas (Plain n) w → WaitHas HasNoOperator w
plain_wait n (wait.Apply p f i t x) h = (tt, (tt, tt))
plain_wait n (wait.Domain p f t x y) h = (tt, (tt, (tt, tt)))
plain_wait n (wait.Tuple p t x i m) h = (tt, (tt, plain_types n (items_from i m) h.1.1))

plain_waits : (n : ℕ) (ws : List Wait) → EachHas (Plain n) ws → EachHas HasNoOperator ws
plain_waits n [] h = tt
plain_waits n (w ∷ ws) h = (plain_wait n w h.0, plain_waits n ws h.1)

abbrev NoSlot : Slot → Type 0
NoSlot x = ThroughoutSlot (λ v. Unit {0}) IsNoOperator (λ k. Unit {0}) x

row_no_operator : (ts : List Term) → AllTypes HasNoOperator ts → HasNoOperator (row ts)
row_no_operator [] h = tt
row_no_operator (t ∷ ts) h = (h.0, row_no_operator ts h.1)

chosen_no_operator : (b : Bool) (t : Term) (x : Slot) → HasNoOperator t → NoSlot x → NoSlot (if b then some t else x)
chosen_no_operator true t x h k = h
chosen_no_operator false t x h k = k

lookup_no_operator : (fs : Scope) → AllNamed HasNoOperator fs → (x : List ℕ) → NoSlot (lookup fs x)
lookup_no_operator [] h x = tt
lookup_no_operator (f ∷ fs) h x = chosen_no_operator (bytes_eq f.0 x) f.1 (lookup fs x) h.0 (lookup_no_operator fs h.1 x)

keeps_no_operator : KeepsForms HasNoOperator
keeps_no_operator = record {
  plain = record {
    truth = tt;
    number = tt;
    text = tt;
    named = λ x. tt;
    set = λ t h. (tt, h);
    seq = λ t h. (tt, h);
    fun = λ t u h k. (tt, (h, k));
    tuple = λ ts h. (tt, row_no_operator ts h);
  };
  of_record = λ fs h. (lookup_no_operator fs h, tt);
}

module _ (n : ℕ) (s : Sub) (g : (v : ℕ) → v < n → HasNoOperator (s.type_of v)) where
  closed_ground : (t : Term) → Plain n t → IsGround (apply (then_sub closing s) t)
  closed_ground t h =
      let P : Term → Type 0 = λ z. IsGround z in
      subst P (apply_apply closing s t) (closing_ground (apply s t) (applied_no_operator n s t g h))

  all_ground : (ts : List Term) → AllTypes (Plain n) ts → All IsGround (map (apply (then_sub closing s)) ts)
  all_ground [] h = All-nil IsGround
  all_ground (t ∷ ts) h = All-cons IsGround (apply (then_sub closing s) t) (map (apply (then_sub closing s)) ts) (closed_ground t h.0) (all_ground ts h.1)

  parts_ground : (tss : List (List Term)) → AllParts (Plain n) tss → All (All IsGround) (map (map (apply (then_sub closing s))) tss)
  parts_ground [] h = All-nil (All IsGround)
  parts_ground (ts ∷ tss) h =
      All-cons (All IsGround) (map (apply (then_sub closing s)) ts) (map (map (apply (then_sub closing s))) tss) (all_ground ts h.0) (parts_ground tss h.1)

pub typing_ground : (system : System) (names : List Term) (parts : List (List Term)) (ds : List Wait) → SystemFits system → IsTyping system names parts ds →
    All IsGround names × All (All IsGround) parts
typing_ground system names parts ds f t =
    let n : ℕ = system.count in
    let h = reached_held HasNoOperator keeps_no_operator (all_asked system) (all_waits system) (all_no_operator n f.fronts (all_asked system) f.asked)
    (plain_waits n (all_waits system) f.waits) t.all [] ds t.reached in
    let g : (v : ℕ) → v < n → HasNoOperator (t.last.type_of v) = principal_plain n t.all t.last h.0 t.principal in
    let P : List Term → Type 0 = All IsGround in
    let Q : List (List Term) → Type 0 = All (All IsGround) in
    (subst P (sym t.names_are) (all_ground n t.last g system.names f.names), subst Q (sym t.parts_are) (parts_ground n t.last g system.parts f.parts))

pub typed_ground : (job : Job) (t : Typed) → IsTrue (is_typable job) → IsTypedAs job t → AllGround t
typed_ground job t can h =
    typing_ground (system h.annotations job) (types_of_names t) (types_of_parts t) h.defaults (system_fits job h.annotations h.are can) h.typing
