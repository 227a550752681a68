-- What a substitution solves while a typing is sought.
use Rattle.std.specs.Prelude.{ℕ, ℤ, pos, ◌≡◌, ◌≤◌, ◌<◌, ◌+◌, ◌⊎◌, true, List, [], ◌∷◌, ◌++◌, Option, Some, None, Result, Ok, Err}
use Rattle.snowcat_rows.specs.declared.substitution.Subst.{Subst}
use Rattle.snowcat_rows.specs.declared.substitution.UnifyFault.{UnifyFault}
use Rattle.snowcat_rows.specs.declared.substitution.UnifyFault.TheVariants.{Clash, Memory}
use Rattle.snowcat_rows.specs.declared.types.Ty.{Ty}
use Rattle.snowcat_rows.specs.Codes.{Begins}
use Rattle.snowcat_rows.specs.FieldNames.{names_differ}
use Rattle.snowcat_rows.specs.Types.{Term, app, con, fields, mean, none, some, var}
use Rattle.snowcat_rows.specs.Substitutions.{Sub, apply, Fits, Fronts, Lifted, Sorted}
use Rattle.snowcat_rows.specs.Chains.{Binding, sub_of}
use Rattle.snowcat_rows.specs.Sorting.{AllSorted, Within}
use Rattle.snowcat_rows.specs.Unifying.{Same, Unmade}
use Rattle.snowcat_rows.specs.Views.{IsIssued, issued_of, kept_by, stands_for}
use Rattle.snowcat_types.specs.declared.kinds.Kind.{Kind}
use Rattle.snowcat_types.specs.declared.kinds.Kind.TheVariants.{NotFormed}
use Rattle.snowcat_types.specs.declared.waiting.Wait.{Wait}
use Rattle.snowcat_types.specs.declared.waiting.Wait.TheVariants as wait
use Rattle.snowcat_types.specs.Requirements.{Requirement, Equal, ItemOf, FieldOf, IsFormed, Never, MeetAll, item_at}
use Rattle.snowcat_types.specs.Systems.{Entry, Asks, Waits}
use Rattle.snowcat_types.specs.Typings.{Principal, Sides, decision, with_field}
use Rattle.snowcat_types.specs.Waiting.{deciding, default_kind, default_type}

-- no requirement is only that nothing is known
abbrev pub Stable : Requirement → Type 0
Stable (IsFormed k t) = k ≡ NotFormed → ⊥
Stable q = Unit {0}

-- its types have unknowns below n alone
abbrev pub Inside : ℕ → Requirement → Type 0
Inside n (Equal a b) = Within n a × Within n b
Inside n (ItemOf t i u) = Within n t × Within n u
Inside n (FieldOf t x u) = Within n t × Within n u
Inside n (IsFormed k t) = Within n t
Inside n Never = Unit {0}

abbrev pub AllInside : ℕ → List Requirement → Type 0
AllInside n [] = Unit {0}
AllInside n (q ∷ qs) = (Inside n q × Stable q) × AllInside n qs

-- each row variable of its types stands after just these names
abbrev pub SortedIn : Fronts → Requirement → Type 0
SortedIn l (Equal a b) = Sorted l a × Sorted l b
SortedIn l (ItemOf t i u) = Sorted l t × Sorted l u
SortedIn l (FieldOf t x u) = Sorted l t × Sorted l u
SortedIn l (IsFormed k t) = Sorted l t
SortedIn l Never = Unit {0}

abbrev pub AllSortedIn : Fronts → List Requirement → Type 0
AllSortedIn l [] = Unit {0}
AllSortedIn l (q ∷ qs) = SortedIn l q × AllSortedIn l qs

-- n unknowns were there and m variables are now; s is a most general solution, among what gives no row variable a name
-- that stands before it
pub record Solved (n m : ℕ) (l k : Fronts) (rs : List Requirement) (s : Sub) : Type 0 where
  pub more : n ≤ m
  pub solves : MeetAll s rs
  pub general : (u : Sub) → Fits n l u → MeetAll u rs → Lifted n m k u s

-- the requirements are of the n unknown types, with these names before their row variables
pub record AreOf (n : ℕ) (l : Fronts) (rs : List Requirement) : Type 0 where
  pub inside : AllInside n rs
  pub sorted : AllSortedIn l rs

-- what stands for the unknown types solves the requirements, in the most general way
pub record IsSolved (n : ℕ) (l : Fronts) (rs : List Requirement) (s : Subst) : Type 0 where
  pub fronts : Fronts
  pub same : Same n l fronts
  pub solved : Solved n (issued_of s) l fronts rs (stands_for s)
  pub sorted : AllSorted fronts (kept_by s)

-- these bindings solve rs, and nothing meets q besides, which makes a and b equal: x and y stand at one place of these
-- where they cannot be equal
pub record Refuses (n : ℕ) (rs : List Requirement) (q : Requirement) (last : List Binding) (a b x y : Term) : Type 0 where
  pub principal : Principal n rs (sub_of last)
  pub none : (u : Sub) → MeetAll u (rs ++ q ∷ []) → ⊥
  pub issued : ℕ
  pub more : n ≤ issued
  pub is_issued : IsIssued issued last
  pub fronts : Fronts
  pub sorted : AllSorted fronts last × (Sorted fronts a × Sorted fronts b)
  pub unmade : Unmade issued fronts last a b x y

-- the requirement is met besides, or a and b, which it makes equal, clash
abbrev pub IsMet : ℕ → Fronts → List Requirement → Requirement → List Binding → Term → Term → Subst → Result (Unit {0}) UnifyFault → Type 0
IsMet n l rs q last a b s (Ok u) = IsSolved n l (rs ++ q ∷ []) s
IsMet n l rs q last a b s (Err (Clash x y)) = Refuses n rs q last a b (mean x) (mean y)
IsMet n l rs q last a b s (Err (Memory e)) = Unit {0}

-- ---- several requirements, in their order

-- the unknown types of a waiting node are below n
abbrev pub WaitInside : ℕ → Wait → Type 0
WaitInside n (wait.Apply p f i t x) = (f < n) × ((i < n) × (t < n))
WaitInside n (wait.Domain p f t x y) = (f < n) × ((t < n) × ((x < n) × (y < n)))
WaitInside n (wait.Tuple p t x i m) = (t < n) × ((x < n) × ((j : ℕ) → j < m → i + j < n))

-- the entry asks for these in this order: the first of them that cannot be met besides what is solved is refused, and x
-- and y stand at one place of the two types that it makes equal
pub record Fails (n : ℕ) (rs : List Requirement) (entry : Entry) (qs : List Requirement) (x y : Term) : Type 0 where
  pub first : List Requirement
  pub asks : Requirement
  pub rest : List Requirement
  pub split : qs ≡ first ++ asks ∷ rest
  pub last : List Binding
  pub a : Term
  pub b : Term
  pub sides : Sides n last entry asks a b
  pub refuses : Refuses n (rs ++ first) asks last a b x y

-- all that the entry asks is met besides, or it fails
abbrev pub IsTried : ℕ → Fronts → List Requirement → Entry → List Requirement → Subst → Result (Unit {0}) UnifyFault → Type 0
IsTried n l rs entry qs s (Ok u) = IsSolved n l (rs ++ qs) s
IsTried n l rs entry qs s (Err (Clash x y)) = Fails n rs entry qs (mean x) (mean y)
IsTried n l rs entry qs s (Err (Memory e)) = Unit {0}

-- ---- what a call makes of a substitution

-- more is issued and bound, and what was stays
pub record IsFurther (old new : Subst) : Type 0 where
  pub more : issued_of old ≤ issued_of new
  pub begins : Begins (kept_by old) (kept_by new)

-- ---- what is built of an entry

-- so it is built; a choice asks for fields and items by other calls
abbrev pub Suits : Entry → Requirement → Type 0
Suits (Asks p qs) q = Unit {0}
Suits (Waits w) (Equal a b) = Unit {0}
Suits (Waits w) q = ⊥

abbrev pub AllSuit : Entry → List Requirement → Type 0
AllSuit e [] = Unit {0}
AllSuit e (q ∷ qs) = Suits e q × AllSuit e qs

-- these are asked besides what is solved, by whatever entry
abbrev pub IsAsked : List Requirement → Subst → Subst → Result (Unit {0}) UnifyFault → Type 0
IsAsked qs old new r =
    (n : ℕ) (l : Fronts) (rs : List Requirement) (e : Entry) → IsSolved n l rs old → AreOf n l rs → AreOf n l qs → AllSuit e qs
    → IsTried n l rs e qs new r

-- ---- choices

-- the choice of that kind is due: the type that decides is so formed, or the kind is the default
abbrev pub IsDue : Sub → Wait → Kind → Type 0
IsDue s w k = ((decision s w ≡ k) × (k ≡ NotFormed → ⊥)) ⊎ (k ≡ default_kind w)

-- the type that decides is formed otherwise than by default
abbrev pub IsElse : Sub → Wait → Type 0
IsElse s w = (decision s w ≡ NotFormed → ⊥) × (decision s w ≡ default_kind w → ⊥)

-- nothing meets q besides
abbrev pub NeverMet : List Requirement → Requirement → Type 0
NeverMet rs q = (u : Sub) → MeetAll u (rs ++ q ∷ []) → ⊥

-- the node asks for these besides what is solved
abbrev pub Tries : Wait → List Requirement → Subst → Subst → Result (Unit {0}) UnifyFault → Type 0
Tries w qs old new r =
    (n : ℕ) (l : Fronts) (rs : List Requirement) → IsSolved n l rs old → AreOf n l rs → WaitInside n w
    → IsTried n l rs (Waits w) qs new r

-- where what decides is not its default: it clashes with that, whatever else cannot be met
abbrev pub Excludes : Wait → Subst → Subst → Result (Unit {0}) UnifyFault → Type 0
Excludes w old new r =
    (n : ℕ) (l : Fronts) (rs : List Requirement) (q : Requirement) → IsSolved n l rs old → AreOf n l rs → WaitInside n w
    → NeverMet rs q → IsMet n l rs q (kept_by old) (deciding w) (default_type w) new r

-- a type of unknown types below n, without records
abbrev pub OfUnknowns : ℕ → Term → Type 0
OfUnknowns n (var v) = v < n
OfUnknowns n (con h) = Unit {0}
OfUnknowns n (app a b) = OfUnknowns n a × OfUnknowns n b
OfUnknowns n (fields f k) = ⊥

-- equations of such types
abbrev pub AreEquations : ℕ → List Requirement → Type 0
AreEquations n [] = Unit {0}
AreEquations n (Equal a b ∷ qs) = (OfUnknowns n a × OfUnknowns n b) × AreEquations n qs
AreEquations n (q ∷ qs) = ⊥

-- the item of the type at that place, from 1; where there is none, no substitution makes one
pub record IsThere (t : Term) (i : ℤ) (x : ℕ × Ty) : Type 0 where
  pub place : i ≡ pos x.0
  pub item : item_at t x.0 ≡ some (mean x.1)
  pub named : names_differ x.1 ≡ true

abbrev pub IsNowhere : Term → ℤ → Type 0
IsNowhere t i = (n : ℕ) → i ≡ pos n → (item_at t n ≡ none) × ((r : Sub) → item_at (apply r t) n ≡ none)

abbrev pub IsItem : Term → ℤ → Option (ℕ × Ty) → Type 0
IsItem t i (Some x) = IsThere t i x
IsItem t i None = IsNowhere t i

-- the record of one field is open for others by a row variable that is new
pub record IsOpened (name : List ℕ) (field : ℕ) (old new : Subst) (t : Ty) : Type 0 where
  pub means : mean t ≡ with_field name (var field) (issued_of old)
  pub named : names_differ t ≡ true
  pub issued : issued_of new ≡ issued_of old + 1
  pub kept : kept_by new ≡ kept_by old
