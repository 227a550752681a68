-- Sorts in a longer arena, and of a new set.
use Rattle.std.proofs.Common.{◌≡◌, ℕ, ◌<◌, false, List, length, map, get_or, All, sym, subst, arith}
use Rattle.std.proofs.lemmas.List.Elements.{All-weaker}
use Rattle.sat_formula.specs.declared.lit.Lit.{Lit}
use Rattle.cell_arena.specs.declared.build.Build.{Build}
use Rattle.cell_arena.specs.declared.kinds.CellId.{CellId}
use Rattle.cell_arena.specs.declared.kinds.CellKind.{CellKind}
use Rattle.cell_arena.specs.declared.kinds.CellKind.TheVariants.{Bit, Word, Text, Set, Fun, Rec, Tup, Seq}
use Rattle.cell_arena.specs.Cells.{kind_at}
use Rattle.cell_arena.specs.Growth.{Grows, Adds}
use Rattle.cell_arena.proofs.Growing.{kind-before}
use Rattle.cell_merge.specs.Sorts.{Sort, truth, number, name, set_of, function_of, sequence_of, record_of, tuple_of, OfSort, IsBit, IsWord, IsText, IsSet, IsFunction, IsSequence, ArePlaced, IsRecord, IsTuple}

IsSet-weaker : (P Q : CellId → Type 0) → ((id : CellId) → P id → Q id) → (k : CellKind) → IsSet P k → IsSet Q k
IsSet-weaker P Q f (Bit l) h = h
IsSet-weaker P Q f (Word w) h = h
IsSet-weaker P Q f (Text w) h = h
IsSet-weaker P Q f (Set es) h = All-weaker (λ e. P e.1) (λ e. Q e.1) (λ e p. f e.1 p) es h
IsSet-weaker P Q f (Fun es) h = h
IsSet-weaker P Q f (Rec fs) h = h
IsSet-weaker P Q f (Tup ps) h = h
IsSet-weaker P Q f (Seq w ps) h = h

IsFunction-weaker : (P Q R S : CellId → Type 0) → ((id : CellId) → P id → Q id) → ((id : CellId) → R id → S id) → (k : CellKind) → IsFunction P R k → IsFunction Q S k
IsFunction-weaker P Q R S f g (Bit l) h = h
IsFunction-weaker P Q R S f g (Word w) h = h
IsFunction-weaker P Q R S f g (Text w) h = h
IsFunction-weaker P Q R S f g (Set es) h = h
IsFunction-weaker P Q R S f g (Fun es) h = All-weaker (λ e. P e.1 × R e.2) (λ e. Q e.1 × S e.2) (λ e p. (f e.1 p.0, g e.2 p.1)) es h
IsFunction-weaker P Q R S f g (Rec fs) h = h
IsFunction-weaker P Q R S f g (Tup ps) h = h
IsFunction-weaker P Q R S f g (Seq w ps) h = h

IsSequence-weaker : (P Q : CellId → Type 0) → ((id : CellId) → P id → Q id) → (k : CellKind) → IsSequence P k → IsSequence Q k
IsSequence-weaker P Q f (Bit l) h = h
IsSequence-weaker P Q f (Word w) h = h
IsSequence-weaker P Q f (Text w) h = h
IsSequence-weaker P Q f (Set es) h = h
IsSequence-weaker P Q f (Fun es) h = h
IsSequence-weaker P Q f (Rec fs) h = h
IsSequence-weaker P Q f (Tup ps) h = h
IsSequence-weaker P Q f (Seq w ps) h = All-weaker P Q f ps h

ArePlaced-weaker : (P Q : ℕ → CellId → Type 0) → ((i : ℕ) (id : CellId) → P i id → Q i id) → (n : ℕ) (ps : List CellId) → ArePlaced n P ps → ArePlaced n Q ps
ArePlaced-weaker P Q f n ps h = (h.0, λ i d lt. f i (get_or ps i d) (h.1 i d lt))

IsRecord-weaker : (P Q : ℕ → CellId → Type 0) → ((i : ℕ) (id : CellId) → P i id → Q i id) → (names : List (List ℕ)) (k : CellKind) → IsRecord names P k → IsRecord names Q k
IsRecord-weaker P Q f names (Bit l) h = h
IsRecord-weaker P Q f names (Word w) h = h
IsRecord-weaker P Q f names (Text w) h = h
IsRecord-weaker P Q f names (Set es) h = h
IsRecord-weaker P Q f names (Fun es) h = h
IsRecord-weaker P Q f names (Rec fs) h = (h.0, ArePlaced-weaker P Q f (length names) (map (λ f. f.1) fs) h.1)
IsRecord-weaker P Q f names (Tup ps) h = h
IsRecord-weaker P Q f names (Seq w ps) h = h

IsTuple-weaker : (P Q : ℕ → CellId → Type 0) → ((i : ℕ) (id : CellId) → P i id → Q i id) → (n : ℕ) (k : CellKind) → IsTuple n P k → IsTuple n Q k
IsTuple-weaker P Q f n (Bit l) h = h
IsTuple-weaker P Q f n (Word w) h = h
IsTuple-weaker P Q f n (Text w) h = h
IsTuple-weaker P Q f n (Set es) h = h
IsTuple-weaker P Q f n (Fun es) h = h
IsTuple-weaker P Q f n (Rec fs) h = h
IsTuple-weaker P Q f n (Tup ps) h = ArePlaced-weaker P Q f n ps h
IsTuple-weaker P Q f n (Seq w ps) h = h

-- a cell keeps its sorts
pub OfSort-later : (b c : Build) (s : Sort) (id : CellId) → OfSort b.arena.kinds s id → Grows b c → OfSort c.arena.kinds s id
OfSort-later b c truth id h g = (let p = h.0 in let q = g.longer in omega arith, subst IsBit (sym (kind-before b c id g h.0)) h.1)
OfSort-later b c number id h g = (let p = h.0 in let q = g.longer in omega arith, subst IsWord (sym (kind-before b c id g h.0)) h.1)
OfSort-later b c name id h g = (let p = h.0 in let q = g.longer in omega arith, subst IsText (sym (kind-before b c id g h.0)) h.1)
OfSort-later b c (set_of s) id h g = (
  let p = h.0 in let q = g.longer in omega arith,
  subst (λ k. IsSet (OfSort c.arena.kinds s) k) (sym (kind-before b c id g h.0))
      (IsSet-weaker (OfSort b.arena.kinds s) (OfSort c.arena.kinds s) (λ e p. OfSort-later b c s e p g) (kind_at b.arena.kinds id) h.1),
)
OfSort-later b c (function_of s t) id h g = (
  let p = h.0 in let q = g.longer in omega arith,
  subst (λ k. IsFunction (OfSort c.arena.kinds s) (OfSort c.arena.kinds t) k) (sym (kind-before b c id g h.0))
      (IsFunction-weaker (OfSort b.arena.kinds s) (OfSort c.arena.kinds s) (OfSort b.arena.kinds t) (OfSort c.arena.kinds t)
      (λ e p. OfSort-later b c s e p g) (λ e p. OfSort-later b c t e p g) (kind_at b.arena.kinds id) h.1),
)
OfSort-later b c (sequence_of s) id h g = (
  let p = h.0 in let q = g.longer in omega arith,
  subst (λ k. IsSequence (OfSort c.arena.kinds s) k) (sym (kind-before b c id g h.0))
      (IsSequence-weaker (OfSort b.arena.kinds s) (OfSort c.arena.kinds s) (λ e p. OfSort-later b c s e p g) (kind_at b.arena.kinds id) h.1),
)
OfSort-later b c (record_of names s) id h g = (
  let p = h.0 in let q = g.longer in omega arith,
  subst (λ k. IsRecord names (λ i. OfSort c.arena.kinds (s i)) k) (sym (kind-before b c id g h.0))
      (IsRecord-weaker (λ i. OfSort b.arena.kinds (s i)) (λ i. OfSort c.arena.kinds (s i)) (λ i e p. OfSort-later b c (s i) e p g) names (kind_at b.arena.kinds id) h.1),
)
OfSort-later b c (tuple_of n s) id h g = (
  let p = h.0 in let q = g.longer in omega arith,
  subst (λ k. IsTuple n (λ i. OfSort c.arena.kinds (s i)) k) (sym (kind-before b c id g h.0))
      (IsTuple-weaker (λ i. OfSort b.arena.kinds (s i)) (λ i. OfSort c.arena.kinds (s i)) (λ i e p. OfSort-later b c (s i) e p g) n (kind_at b.arena.kinds id) h.1),
)

pub added-kind : (b c : Build) (k : CellKind) (id : CellId) → Adds b c k id → kind_at c.arena.kinds id ≡ k
added-kind b c k id h = h.is

pub added-there : (b c : Build) (k : CellKind) (id : CellId) → Adds b c k id → id.index < length c.arena.kinds
added-there b c k id h = h.there

-- the sorts of new cells
pub sort-bit : (b c : Build) (l : Lit) (id : CellId) → Adds b c (Bit l) id → OfSort c.arena.kinds truth id
sort-bit b c l id h = (added-there b c (Bit l) id h, subst IsBit (sym (added-kind b c (Bit l) id h)) tt)

pub sort-word : (b c : Build) (w : List Lit) (id : CellId) → Adds b c (Word w) id → OfSort c.arena.kinds number id
sort-word b c w id h = (added-there b c (Word w) id h, subst IsWord (sym (added-kind b c (Word w) id h)) tt)

pub sort-text : (b c : Build) (w : List Lit) (id : CellId) → Adds b c (Text w) id → OfSort c.arena.kinds name id
sort-text b c w id h = (added-there b c (Text w) id h, subst IsText (sym (added-kind b c (Text w) id h)) tt)

pub sort-set : (b c : Build) (es : List (Lit × CellId)) (s : Sort) (id : CellId) → Adds b c (Set es) id → Grows b c → All (λ e. OfSort b.arena.kinds s e.1) es → OfSort c.arena.kinds (set_of s) id
sort-set b c es s id h g all = (
  added-there b c (Set es) id h,
  subst (λ k. IsSet (OfSort c.arena.kinds s) k) (sym (added-kind b c (Set es) id h))
      (All-weaker (λ e. OfSort b.arena.kinds s e.1) (λ e. OfSort c.arena.kinds s e.1) (λ e p. OfSort-later b c s e.1 p g) es all),
)

pub sort-function : (b c : Build) (es : List (Lit × CellId × CellId)) (s t : Sort) (id : CellId) → Adds b c (Fun es) id → Grows b c → All (λ e. OfSort b.arena.kinds s e.1 × OfSort b.arena.kinds t e.2) es
    → OfSort c.arena.kinds (function_of s t) id
sort-function b c es s t id h g all = (
  added-there b c (Fun es) id h,
  subst (λ k. IsFunction (OfSort c.arena.kinds s) (OfSort c.arena.kinds t) k) (sym (added-kind b c (Fun es) id h))
      (All-weaker (λ e. OfSort b.arena.kinds s e.1 × OfSort b.arena.kinds t e.2) (λ e. OfSort c.arena.kinds s e.1 × OfSort c.arena.kinds t e.2)
      (λ e p. (OfSort-later b c s e.1 p.0 g, OfSort-later b c t e.2 p.1 g)) es all),
)

pub sort-sequence : (b c : Build) (w : List Lit) (ps : List CellId) (s : Sort) (id : CellId) → Adds b c (Seq w ps) id → Grows b c → All (OfSort b.arena.kinds s) ps → OfSort c.arena.kinds (sequence_of s) id
sort-sequence b c w ps s id h g all = (
  added-there b c (Seq w ps) id h,
  subst (λ k. IsSequence (OfSort c.arena.kinds s) k) (sym (added-kind b c (Seq w ps) id h))
      (All-weaker (OfSort b.arena.kinds s) (OfSort c.arena.kinds s) (λ e p. OfSort-later b c s e p g) ps all),
)

pub sort-record : (b c : Build) (fs : List (List ℕ × CellId)) (names : List (List ℕ)) (s : ℕ → Sort) (id : CellId) → Adds b c (Rec fs) id → Grows b c → map (λ (f : List ℕ × CellId). f.0) fs ≡ names
    → ArePlaced (length names) (λ i. OfSort b.arena.kinds (s i)) (map (λ (f : List ℕ × CellId). f.1) fs) → OfSort c.arena.kinds (record_of names s) id
sort-record b c fs names s id h g named placed = (
  added-there b c (Rec fs) id h,
  subst (λ k. IsRecord names (λ i. OfSort c.arena.kinds (s i)) k) (sym (added-kind b c (Rec fs) id h))
      (named, ArePlaced-weaker (λ i. OfSort b.arena.kinds (s i)) (λ i. OfSort c.arena.kinds (s i)) (λ i e p. OfSort-later b c (s i) e p g) (length names) (map (λ (f : List ℕ × CellId). f.1) fs) placed),
)

pub sort-tuple : (b c : Build) (ps : List CellId) (n : ℕ) (s : ℕ → Sort) (id : CellId) → Adds b c (Tup ps) id → Grows b c → ArePlaced n (λ i. OfSort b.arena.kinds (s i)) ps → OfSort c.arena.kinds (tuple_of n s) id
sort-tuple b c ps n s id h g placed = (
  added-there b c (Tup ps) id h,
  subst (λ k. IsTuple n (λ i. OfSort c.arena.kinds (s i)) k) (sym (added-kind b c (Tup ps) id h))
      (ArePlaced-weaker (λ i. OfSort b.arena.kinds (s i)) (λ i. OfSort c.arena.kinds (s i)) (λ i e p. OfSort-later b c (s i) e p g) n ps placed),
)

pub ruleset sorts = (OfSort-later, sort-bit, sort-word, sort-text)
