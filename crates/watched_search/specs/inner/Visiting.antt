-- What looking at clauses finds and changes.
use Rattle.std.specs.Prelude.{◌≡◌, ◌≢◌, ℕ, ◌<◌, ◌≤◌, ◌⊎◌, ◌++◌, List, length, All, Contains, slice_index_or, MatchOption, Bool, true, false, Option, Some, None}
use Rattle.sat_formula.specs.declared.lit.Lit.{Lit}
use Rattle.refutation_checker.specs.Follows.{negation, IsFalse, IsUnit}
use Rattle.watch_chains.specs.declared.link.Link.{Link}
use Rattle.watch_chains.specs.Watches.{list_at, IsSlot}
use Rattle.watched_search.specs.declared.entry.Entry.{Entry}
use Rattle.watched_search.specs.declared.lists.Watch.{Watch}
use Rattle.watched_search.specs.declared.status.Status.{Status}
use Rattle.watched_search.specs.declared.status.Status.TheVariants.{Satisfied, Falsified, Unit as OneLeft, Open}
use Rattle.watched_search.specs.declared.propagation.Progress.{Progress}
use Rattle.watched_search.specs.declared.propagation.Visit.{Visit}
use Rattle.watched_search.specs.declared.propagation.Visit.TheVariants.{Stays, Moves, Fails}
use Rattle.watched_search.specs.Codes.{code}
use Rattle.watched_search.specs.Trail.{TrailView, lits_of}
use Rattle.watched_search.specs.Searching.{clause_at, lit_at, HasTrue, IsOpen, Forced, IsFalseAt}
use Rattle.watched_search.specs.Watching.{HasTwo}
use Rattle.watched_search.specs.inner.Keeping.{Watched, slot_of, watch_at, IsPaired, Held, Rooted, IsKept}
use Rattle.watched_search.specs.inner.Moving.{IsMoved}

-- true, false, a unit with this literal, or a clause of two different literals
abbrev pub IsStatus : List Lit → List Lit → Status → Type 0
IsStatus T c Satisfied = HasTrue T c
IsStatus T c Falsified = IsFalse T c
IsStatus T c (OneLeft u) = IsUnit T c u
IsStatus T c Open = HasTwo c

-- a place of a literal other than this one that is not false, if there is one
abbrev pub IsReplacement : List Lit → List Lit → Lit → Option ℕ → Type 0
IsReplacement T c other None = All (λ m. (m ≡ other) ⊎ Contains T (negation m)) c
IsReplacement T c other (Some k) = (k < length c) × (lit_at c k ≢ other) × (Contains T (negation (lit_at c k)) → ⊥)

-- a place of such a literal from `from` on and before `to`, if there is one
abbrev pub IsReplacementIn : List Lit → List Lit → Lit → ℕ → ℕ → Option ℕ → Type 0
IsReplacementIn T c other from to None = (k : ℕ) → from ≤ k → k < to → (lit_at c k ≡ other) ⊎ Contains T (negation (lit_at c k))
IsReplacementIn T c other from to (Some k) = (from ≤ k) × (k < to) × (lit_at c k ≢ other) × (Contains T (negation (lit_at c k)) → ⊥)

-- forced entries were added, over the same variables
pub record IsDriven (clauses : List (List Lit)) (old new : TrailView) : Type 0 where
  pub room : new.room ≡ old.room
  pub more : List Entry
  pub entries : new.entries ≡ old.entries ++ more
  pub forced : Forced clauses (lits_of old.entries) more

-- and what is known of the clauses stays known
pub record Advances (w new : Watched) (t after : TrailView) : Type 0 where
  pub vars : new.vars ≡ w.vars
  pub clauses : new.clauses ≡ w.clauses
  pub paired : IsPaired new
  pub driven : IsDriven w.clauses t after
  pub kept : (p : Progress) → IsKept w t p → IsKept new after p

-- this is the first place from `from` on whose watch has no true literal at hand, or the end
pub record IsFirstOpen (watches : List Watch) (truths : List Bool) (from place : ℕ) : Type 0 where
  pub later : from ≤ place
  pub within : place ≤ length watches
  pub passed : (i : ℕ) (d : Watch) → from ≤ i → i < place → slice_index_or truths (slice_index_or watches i d).blocker false ≡ true
  pub reached : (d : Watch) → place < length watches → slice_index_or truths (slice_index_or watches place d).blocker false ≡ false

-- what became of a link: its clause is true, it left the list, or its clause is false
abbrev pub IsVisited : Watched → Watched → TrailView → Lit → ℕ → Link → Visit → Type 0
IsVisited old new after l i k Stays = (new ≡ old) × HasTrue (lits_of after.entries) (clause_at new.clauses k.clause)
IsVisited old new after l i k Moves = (v : Lit) × IsMoved old new l i k v
IsVisited old new after l i k Fails = IsFalseAt new.clauses (lits_of after.entries) k.clause

-- each clause that l watches is true, or one is false
abbrev pub IsWalked : Watched → TrailView → Lit → Option ℕ → Type 0
IsWalked w t l None = All (λ k. HasTrue (lits_of t.entries) (clause_at w.clauses k.clause)) (list_at w.chains (code l))
IsWalked w t l (Some c) = IsFalseAt w.clauses (lits_of t.entries) c

-- the clause is true now, or has two different literals; or it is false
abbrev pub IsDriving : List (List Lit) → TrailView → ℕ → Option Bool → Type 0
IsDriving clauses t c None = IsFalseAt clauses (lits_of t.entries) c
IsDriving clauses t c (Some b) = (b ≡ true → HasTrue (lits_of t.entries) (clause_at clauses c)) × ((b ≡ true → ⊥) → HasTwo (clause_at clauses c))

-- what watches in the slots of the clause is held, or the clause is true before the first level
pub record IsSettled (w : Watched) (t : TrailView) (head c : ℕ) : Type 0 where
  pub held : (k : Link) (l : Lit) → IsSlot (length w.clauses) k → k.clause ≡ c → watch_at w.slots k ≡ Some l
      → Held (lits_of t.entries) t.starts head (clause_at w.clauses c) l
  pub rooted : watch_at w.slots (slot_of c 0) ≡ None → Rooted (lits_of t.entries) t.starts (clause_at w.clauses c)

-- forced entries were added, and this is how far it came
pub record IsDrivenTo (w : Watched) (t after : TrailView) (q : Progress) : Type 0 where
  pub driven : IsDriven w.clauses t after
  pub kept : IsKept w after q

-- all was looked at, unless a clause is false
pub record IsPropagated (w new : Watched) (t after : TrailView) (q : Progress) (found : Option ℕ) : Type 0 where
  pub vars : new.vars ≡ w.vars
  pub clauses : new.clauses ≡ w.clauses
  pub driven : IsDriven w.clauses t after
  pub kept : IsKept new after q
  pub answer : MatchOption found (All (IsOpen (lits_of after.entries)) new.clauses) (λ c. IsFalseAt new.clauses (lits_of after.entries) c)
