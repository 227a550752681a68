-- What a job asks is of its unknown types: what a choice asks too, and all of it in so many parts.
use Rattle.std.proofs.Common.{IsTrue, ℕ, zero, suc, ◌+◌, ◌<◌, ◌≤◌, List, [], ◌∷◌, ◌++◌, refl, arith}
use Rattle.snowcat_rows.specs.Types.{Term}
use Rattle.snowcat_rows.specs.Substitutions.{Fronts}
use Rattle.snowcat_rows.specs.Chains.{number}
use Rattle.snowcat_rows.specs.Sorting.{Within}
use Rattle.snowcat_types.specs.declared.kinds.Kind.{Kind}
use Rattle.snowcat_types.specs.declared.waiting.Wait.{Wait}
use Rattle.snowcat_types.specs.declared.waiting.Wait.TheVariants as wait
use Rattle.snowcat_types.specs.Requirements.{Requirement, Equal, ItemOf, FieldOf, IsFormed, Never}
use Rattle.snowcat_types.specs.Waiting.{choice, deciding, items_from}
use Rattle.tla_meaning.specs.declared.job.Job.{Job}
use Rattle.snowcat_types.specs.Systems.{Annotations, Entry, Asks, Waits, System, asked, system, waited}
use Rattle.snowcat_types.specs.Annotated.{AreAnnotations}
use Rattle.snowcat_types.specs.Answers.{is_typable}
use Rattle.snowcat_types.specs.inner.Solved.{AllInside, AllSortedIn, AreOf, Inside, WaitInside}
use Rattle.snowcat_types.specs.inner.Runs.{EntriesFit, EntryFits, IsFitting}
use Rattle.snowcat_types.proofs.Declared.{declared_met}
use Rattle.snowcat_types.proofs.Fitting.{AllFit, all_plain_fit, system_fits}
use Rattle.snowcat_types.proofs.Held.{EachHas, WaitHas, choice_has}
use Rattle.snowcat_types.proofs.Holding.{AllTypes}
use Rattle.snowcat_types.proofs.Joining.{IsUnknown}
use Rattle.snowcat_types.proofs.PlainTypes.{Plain, keeps_plain}

-- ---- lists of requirements

pub are_none : (n : ℕ) (l : Fronts) → AreOf n l []
are_none n l = record { inside = tt; sorted = tt }

inside_append : (n : ℕ) (rs qs : List Requirement) → AllInside n rs → AllInside n qs → AllInside n (rs ++ qs)
inside_append n [] qs h k = k
inside_append n (r ∷ rs) qs h k = (h.0, inside_append n rs qs h.1 k)

sorted_append : (l : Fronts) (rs qs : List Requirement) → AllSortedIn l rs → AllSortedIn l qs → AllSortedIn l (rs ++ qs)
sorted_append l [] qs h k = k
sorted_append l (r ∷ rs) qs h k = (h.0, sorted_append l rs qs h.1 k)

pub are_append : (n : ℕ) (l : Fronts) (rs qs : List Requirement) → AreOf n l rs → AreOf n l qs → AreOf n l (rs ++ qs)
are_append n l rs qs h k = record { inside = inside_append n rs qs h.inside k.inside; sorted = sorted_append l rs qs h.sorted k.sorted }

within_more : (n m : ℕ) (t : Term) → n ≤ m → Within n t → Within m t
within_more n m t le w v o = let lt : number v < n = w v o in omega (arith, lt, le)

inside_more : (n m : ℕ) (q : Requirement) → n ≤ m → Inside n q → Inside m q
inside_more n m (Equal a b) le h = (within_more n m a le h.0, within_more n m b le h.1)
inside_more n m (ItemOf t i u) le h = (within_more n m t le h.0, within_more n m u le h.1)
inside_more n m (FieldOf t x u) le h = (within_more n m t le h.0, within_more n m u le h.1)
inside_more n m (IsFormed k t) le h = within_more n m t le h
inside_more n m Never le h = tt

-- of more unknown types
pub all_inside_more : (n m : ℕ) (qs : List Requirement) → n ≤ m → AllInside n qs → AllInside m qs
all_inside_more n m [] le h = tt
all_inside_more n m (q ∷ qs) le h = ((inside_more n m q le h.0.0, h.0.1), all_inside_more n m qs le h.1)

pub wait_inside_more : (n m : ℕ) (w : Wait) → n ≤ m → WaitInside n w → WaitInside m w
wait_inside_more n m (wait.Apply p f i t x) le h = (omega (arith, le, h.0), (omega (arith, le, h.1.0), omega (arith, le, h.1.1)))
wait_inside_more n m (wait.Domain p f t x y) le h =
    (omega (arith, le, h.0), (omega (arith, le, h.1.0), (omega (arith, le, h.1.1.0), omega (arith, le, h.1.1.1))))
wait_inside_more n m (wait.Tuple p t x i k) le h =
    (omega (arith, le, h.0), (omega (arith, le, h.1.0), λ j lt. (let q : i + j < n = h.1.1 j lt in omega (arith, le, q))))

-- ---- what a choice asks

items_plain : (n i k : ℕ) → ((j : ℕ) → j < k → i + j < n) → AllTypes (Plain n) (items_from i k)
items_plain n i zero h = tt
items_plain n i (suc k) h = (
  (let q : i + 0 < n = h 0 (omega arith) in omega (arith, q)),
  items_plain n (i + 1) k (λ j lt. (let q : i + suc j < n = h (suc j) (omega (arith, lt)) in omega (arith, q))),
)

wait_plain : (n : ℕ) (w : Wait) → WaitInside n w → WaitHas (Plain n) w
wait_plain n (wait.Apply p f i t x) h = h
wait_plain n (wait.Domain p f t x y) h = h
wait_plain n (wait.Tuple p t x i k) h = (h.0, (h.1.0, items_plain n i k h.1.1))

pub fit_are : (n : ℕ) (l : Fronts) (qs : List Requirement) → AllFit n l qs → AreOf n l qs
fit_are n l [] h = are_none n l
fit_are n l (q ∷ qs) h =
    let r = fit_are n l qs h.1 in
    record { inside = (h.0.0.0, r.inside); sorted = (h.0.0.1, r.sorted) }

pub choice_are : (n : ℕ) (l : Fronts) (w : Wait) (k : Kind) → WaitInside n w → AreOf n l (choice w k)
choice_are n l w k h =
    fit_are n l (choice w k) (all_plain_fit n l (choice w k) (choice_has (Plain n) (keeps_plain n) w k (wait_plain n w h)))

pub is_unknown : (n : ℕ) (w : Wait) → WaitInside n w → IsUnknown n (deciding w)
is_unknown n (wait.Apply p f i t x) h = (f, h.0, refl)
is_unknown n (wait.Domain p f t x y) h = (f, h.0, refl)
is_unknown n (wait.Tuple p t x i k) h = (t, h.0, refl)

-- ---- entries

pub entry_fits : (n : ℕ) (l : Fronts) (front back : List Entry) (e : Entry) → EntriesFit n l (front ++ e ∷ back) → EntryFits n l e
entry_fits n l [] back e h = h.0
entry_fits n l (d ∷ front) back e h = entry_fits n l front back e h.1

-- ---- of a job

fit_left : (n : ℕ) (l : Fronts) (rs qs : List Requirement) → AllFit n l (rs ++ qs) → AllFit n l rs
fit_left n l [] qs h = tt
fit_left n l (r ∷ rs) qs h = (h.0, fit_left n l rs qs h.1)

fit_right : (n : ℕ) (l : Fronts) (rs qs : List Requirement) → AllFit n l (rs ++ qs) → AllFit n l qs
fit_right n l [] qs h = h
fit_right n l (r ∷ rs) qs h = fit_right n l rs qs h.1

items_inside : (n i k : ℕ) → AllTypes (Plain n) (items_from i k) → (j : ℕ) → j < k → i + j < n
items_inside n i zero h j lt = absurd (omega (arith, lt))
items_inside n i (suc k) h zero lt = let q : i < n = h.0 in omega (arith, q)
items_inside n i (suc k) h (suc j) lt = let q : (i + 1) + j < n = items_inside n (i + 1) k h.1 j (omega (arith, lt)) in omega (arith, q)

plain_wait : (n : ℕ) (w : Wait) → WaitHas (Plain n) w → WaitInside n w
plain_wait n (wait.Apply p f i t x) h = h
plain_wait n (wait.Domain p f t x y) h = h
plain_wait n (wait.Tuple p t x i k) h = (h.0, (h.1.0, items_inside n i k h.1.1))

entries_fit : (n : ℕ) (l : Fronts) (es : List Entry) → AllFit n l (asked es) → EachHas (Plain n) (waited es) → EntriesFit n l es
entries_fit n l [] h k = tt
entries_fit n l (Asks p rs ∷ es) h k =
    (fit_are n l rs (fit_left n l rs (asked es) h), entries_fit n l es (fit_right n l rs (asked es) h) k)
entries_fit n l (Waits w ∷ es) h k = (plain_wait n w k.0, entries_fit n l es h k.1)

pub fitting : (job : Job) (an : Annotations) → AreAnnotations job an → IsTrue (is_typable job) → IsFitting (system an job)
fitting job an are can =
    let f = system_fits job an are can in
    let s : System = system an job in
    record {
      fronts = f.fronts;
      declared = fit_are s.count f.fronts s.declared (fit_left s.count f.fronts s.declared (asked s.entries) f.asked);
      entries = entries_fit s.count f.fronts s.entries (fit_right s.count f.fronts s.declared (asked s.entries) f.asked) f.waits;
      possible = declared_met an;
    }
