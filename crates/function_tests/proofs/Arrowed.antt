-- The functions and sets that the tests make are of their sorts.
use Rattle.std.proofs.Common.{◌≡◌, ℕ, ◌<◌, ◌≤◌, List, [], ◌∷◌, All, ◌++◌, length, ap, ◌∙◌, arith}
use Rattle.std.proofs.lemmas.List.Elements.{All-nil, All-cons, All-push, All-weaker}
use Rattle.sat_formula.specs.declared.lit.Lit.{Lit}
use Rattle.sat_formula.specs.Lit.{IsBelow}
use Rattle.cell_arena.specs.declared.build.Build.{Build}
use Rattle.cell_arena.specs.declared.kinds.CellId.{CellId}
use Rattle.cell_arena.specs.declared.kinds.CellKind.{CellKind}
use Rattle.cell_arena.specs.declared.kinds.CellKind.TheVariants.{Set}
use Rattle.cell_arena.specs.Cells.{kind_at}
use Rattle.cell_arena.specs.Growth.{Grows, Adds}
use Rattle.cell_merge.specs.Edges.{edges_of}
use Rattle.cell_merge.specs.Sorts.{OfSort, number}
use Rattle.cell_merge.proofs.SortLaws.{OfSort-later, added-kind}

-- arrows from numbers to numbers
abbrev pub AreArrows : List CellKind → List (Lit × CellId × CellId) → Type 0
AreArrows ks es = All (λ e. OfSort ks number e.1 × OfSort ks number e.2) es

abbrev pub NamesArrows : ℕ → List (Lit × CellId × CellId) → Type 0
NamesArrows n es = All (λ e. IsBelow n e.0) es

pub arrow-pushed : (b m c : Build) (es out : List (Lit × CellId × CellId)) (e : Lit × CellId × CellId) → AreArrows b.arena.kinds es → Grows b m → OfSort m.arena.kinds number e.1 → Grows m c → OfSort c.arena.kinds number e.2
    → out ≡ es ++ (e ∷ []) → AreArrows c.arena.kinds out
arrow-pushed b m c es out e h g p k q is =
    let P : Lit × CellId × CellId → Type 0 = λ e. OfSort b.arena.kinds number e.1 × OfSort b.arena.kinds number e.2 in
    let M : Lit × CellId × CellId → Type 0 = λ e. OfSort m.arena.kinds number e.1 × OfSort m.arena.kinds number e.2 in
    let Q : Lit × CellId × CellId → Type 0 = λ e. OfSort c.arena.kinds number e.1 × OfSort c.arena.kinds number e.2 in
    let mid : All M es = All-weaker P M (λ e r. (OfSort-later b m number e.1 r.0 g, OfSort-later b m number e.2 r.1 g)) es h in
    let last : All Q es = All-weaker M Q (λ e r. (OfSort-later m c number e.1 r.0 k, OfSort-later m c number e.2 r.1 k)) es mid in
    rw is (All-push Q es e last (OfSort-later m c number e.1 p k, q))

pub arrow-named : (m n : ℕ) (es out : List (Lit × CellId × CellId)) (e : Lit × CellId × CellId) → NamesArrows m es → m ≤ n → e.0.var < n → out ≡ es ++ (e ∷ []) → NamesArrows n out
arrow-named m n es out e h le lt is =
    let P : Lit × CellId × CellId → Type 0 = λ e. IsBelow m e.0 in
    let Q : Lit × CellId × CellId → Type 0 = λ e. IsBelow n e.0 in
    rw is (All-push Q es e (All-weaker P Q (λ e r. omega arith) es h) lt)

pub arrows-there : (ks : List CellKind) (es : List (Lit × CellId × CellId)) → AreArrows ks es → All (λ e. (e.1.index < length ks) × (e.2.index < length ks)) es
arrows-there ks es h =
    let P : Lit × CellId × CellId → Type 0 = λ e. OfSort ks number e.1 × OfSort ks number e.2 in
    let Q : Lit × CellId × CellId → Type 0 = λ e. (e.1.index < length ks) × (e.2.index < length ks) in
    All-weaker P Q (λ e r. (r.0.0, r.1.0)) es h

pub both-numbers : (ks : List CellKind) (x y : CellId) → OfSort ks number x → OfSort ks number y → All (OfSort ks number) (x ∷ y ∷ [])
both-numbers ks x y p q = let P : CellId → Type 0 = OfSort ks number in All-cons P x (y ∷ []) p (All-cons P y [] q (All-nil P))

-- as many edges as were given
pub edges-counted : (b c : Build) (es : List (Lit × CellId)) (id : CellId) (n : ℕ) → Adds b c (Set es) id → length es ≡ n → length (edges_of (kind_at c.arena.kinds id)) ≡ n
edges-counted b c es id n h e = ap (λ (k : CellKind). length (edges_of k)) (added-kind b c (Set es) id h) ∙ e
