-- Rows of operators on sets, from the sorts of their cells.
use Rattle.std.proofs.Common.{◌≡◌, Bool, true, false, cond, List, [], ◌∷◌, map, filter, All, refl, ◌∙◌, ap}
use Rattle.std.specs.List.{AllByRecursion}
use Rattle.std.proofs.lemmas.List.Elements.{All-head, All-tail}
use Rattle.sat_formula.specs.declared.lit.Lit.{Lit}
use Rattle.sat_formula.specs.Lit.{lit_value}
use Rattle.sat_formula.specs.Formula.{Satisfies}
use Rattle.tla_values.specs.Sets.{elements, set_of}
use Rattle.tla_values.specs.declared.value.Value.{Value}
use Rattle.tla_values.specs.declared.value.Value.TheVariants as value
use Rattle.tla_values.proofs.SetLaws.{all_set_of}
use Rattle.cell_arena.specs.declared.build.Build.{Build}
use Rattle.cell_arena.specs.declared.kinds.CellId.{CellId}
use Rattle.cell_arena.specs.declared.kinds.CellKind.TheVariants.{Set}
use Rattle.tla_meaning.specs.declared.op.Op.TheVariants as op
use Rattle.tla_meaning.specs.declared.outcome.Outcome.{Outcome}
use Rattle.tla_meaning.specs.declared.outcome.Outcome.TheVariants.{Val}
use Rattle.cell_arena.specs.Cells.{Cells as Arena}
use Rattle.cell_arena.specs.Decode.{decode, kind_value, present}
use Rattle.cell_arena.specs.Growth.{Decodes, Grows}
use Rattle.cell_arena.proofs.Growing.{Grows-trans, Satisfies-before}
use Rattle.cell_arena.proofs.Decoding.{decode-kind}
use Rattle.cell_merge.specs.Edges.{JoinsAll, LeadTo}
use Rattle.cell_merge.specs.Sorts.{OfSort, Sort, set_of as set_sort}
use Rattle.cell_merge.proofs.Edges.{edges-sort, elements-cell, is-set}
use Rattle.outcome_cells.specs.declared.cells.Cells.{Cells}
use Rattle.outcome_cells.specs.Rows.{ShowsAt}
use Rattle.set_rewriter.proofs.Gathering.{joined-set}
use Rattle.value_operators.specs.Operands.{HasRow}
use Rattle.value_operators.proofs.NewCells.{row-by}
use Rattle.value_operators.proofs.Rows.{IsSetValue, set-out}

abbrev Edge : Type 0
Edge = Lit × CellId

-- two operands
pub both-of : (P : CellId → Type 0) (x y : CellId) → All P (x ∷ y ∷ []) → P x × P y
both-of P x y h = (All-head P x (y ∷ []) h, All-head P y [] (All-tail P x (y ∷ []) h))

-- a cell of the sort of a set has a set as its value
pub set-cell : (b : Build) (a : List Bool) (s : Sort) (id : CellId) → OfSort b.arena.kinds (set_sort s) id →
    IsSetValue (decode b.arena a id)
set-cell b a s id h =
    let k = is-set (OfSort b.arena.kinds s) _ h.1 in
    let of : CellId → Value = decode b.arena a in
    set-out (of id) _ (decode-kind b.arena a id b.built h.0 ∙ ap (kind_value b.arena.texts a of) k.1)

present-sets : (b : Build) (a : List Bool) (s : Sort) (es : List Edge) → LeadTo b.arena.kinds (set_sort s) es →
    AllByRecursion IsSetValue (present a (decode b.arena a) es)
present-sets b a s [] h = tt
present-sets b a s (e ∷ es) h =
    let P : Edge → Type 0 = λ e. OfSort b.arena.kinds (set_sort s) e.1 in
    go (lit_value e.0 a) (set-cell b a s e.1 (All-head P e es h)) (present-sets b a s es (All-tail P e es h))
  where
    there : List Edge
    there = filter (λ (d : Edge). lit_value d.0 a) es

    go : (t : Bool) → IsSetValue (decode b.arena a e.1) → AllByRecursion IsSetValue (present a (decode b.arena a) es) →
        AllByRecursion IsSetValue (map (λ (d : Edge). decode b.arena a d.1) (cond t (e ∷ there) there))
    go true p q = (p, q)
    go false p q = q

-- and the members of a set of sets are sets
pub members-are-sets : (b : Build) (a : List Bool) (s : Sort) (id : CellId) →
    OfSort b.arena.kinds (set_sort (set_sort s)) id → AllByRecursion IsSetValue (elements (decode b.arena a id))
members-are-sets b a s id h =
    let ks = b.arena.kinds in
    let of : CellId → Value = decode b.arena a in
    let k = is-set (OfSort ks (set_sort s)) _ h.1 in
    let e : of id ≡ kind_value b.arena.texts a of (Set k.0) =
    decode-kind b.arena a id b.built h.0 ∙ ap (kind_value b.arena.texts a of) k.1 in
    rw (elements-cell b.arena a id k.0 e)
    (all_set_of IsSetValue (present a of k.0) (present-sets b a s k.0 (edges-sort ks (set_sort s) id k.0 h k.1)))

-- edges that are always there
always-there : (a : List Bool) (of : CellId → Value) (top : Lit) (cells : List CellId) → lit_value top a ≡ true →
    present a of (map (λ c. (top, c)) cells) ≡ map of cells
always-there a of top [] e = refl
always-there a of top (c ∷ cells) e =
    let rest : List Edge = map (λ c. (top, c)) cells in
    let there : List Edge = filter (λ (x : Edge). lit_value x.0 a) rest in
    ap (λ t. map (λ (x : Edge). of x.1) (cond t ((top, c) ∷ there) there)) e
    ∙ ap (λ (l : List Value). of c ∷ l) (always-there a of top cells e)

-- so an enumeration, whose edges are joined where they are alike, shows its row
pub set-shown : (old mid new : Build) (top : Lit) (members : List CellId) (edges : List Edge) (id : CellId) (r : Cells)
    → mid.arena ≡ old.arena → Grows old mid → Grows mid new →
    ((a : List Bool) → Satisfies a old.formula → lit_value top a ≡ true) →
    JoinsAll old.arena mid.formula (map (λ c. (top, c)) members) (map (λ c. (top, c)) members) edges →
    Decodes new id (λ a. value.Set (set_of (present a (decode mid.arena a) edges))) →
    ShowsAt new r (λ a _. Val (decode new.arena a id)) → HasRow old new op.SetEnum members r
set-shown old mid new top members edges id r same before after forced joins d h =
    row-by old new op.SetEnum members r (λ a _. Val (decode new.arena a id)) (Grows-trans old mid new before after) h
    (λ a s p.
    let s1 = Satisfies-before mid new a after s in
    let all : List Edge = map (λ (c : CellId). (top, c)) members in
    let set : List Value → Outcome = λ xs. Val (value.Set xs) in
    ap (λ (v : Value). Val v) (d.value a s)
    ∙ ap (λ (c : Arena). set (set_of (present a (decode c a) edges))) same
    ∙ ap set (joined-set old.arena mid.formula a all edges joins s1)
    ∙ ap (λ (xs : List Value). set (set_of xs))
    (always-there a (decode old.arena a) top members (forced a (Satisfies-before old mid a before s1))))
