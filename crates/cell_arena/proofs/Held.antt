-- Cells of an arena refer to older ones.
use Rattle.std.proofs.Common.{◌≡◌, ℕ, ◌+◌, ◌<◌, ◌≤◌, false, List, [], ◌∷◌, ◌++◌, length, sym, subst, ◌∙◌, ap, arith, ◌⊎◌, inl, inr}
use Rattle.std.proofs.lemmas.Bool.{cases_order}
use Rattle.std.proofs.lemmas.List.{get_or_append_left, get_or_push, length_push}
use Rattle.std.proofs.lemmas.List.Elements.{All-weaker}
use Rattle.sat_formula.specs.Lit.{IsBelow}
use Rattle.word_blaster.proofs.Words.{WordBelow-later}
use Rattle.cell_arena.specs.declared.kinds.CellId.{CellId}
use Rattle.cell_arena.specs.declared.kinds.CellKind.{CellKind}
use Rattle.cell_arena.specs.declared.kinds.CellKind.TheVariants.{Bit, Word, Text, Set, Fun, Rec, Tup, Seq}
use Rattle.cell_arena.specs.Cells.{Cells, WellBuilt, AllApart, IsHeld, NamesBelow, kind_at}
use Rattle.cell_arena.specs.inner.Places.{IsNew, IsOfKind}

pub NamesBelow-later : (m n : ℕ) (k : CellKind) → m ≤ n → NamesBelow m k → NamesBelow n k
NamesBelow-later m n (Bit l) le h = omega arith
NamesBelow-later m n (Word w) le h = WordBelow-later m n w h le
NamesBelow-later m n (Text w) le h = WordBelow-later m n w h le
NamesBelow-later m n (Set es) le h = All-weaker (λ e. IsBelow m e.0) (λ e. IsBelow n e.0) (λ e b. omega arith) es h
NamesBelow-later m n (Fun es) le h = All-weaker (λ e. IsBelow m e.0) (λ e. IsBelow n e.0) (λ e b. omega arith) es h
NamesBelow-later m n (Rec fs) le h = tt
NamesBelow-later m n (Tup ps) le h = tt
NamesBelow-later m n (Seq w ps) le h = WordBelow-later m n w h le

-- kinds that differ, and a new one
AllApart-push : (ks : List CellKind) (k : CellKind) → AllApart ks → IsNew ks k → AllApart (ks ++ k ∷ [])
AllApart-push ks k apart new x y xlt ylt e =
    let size = length_push ks k in
    step (place x (omega arith)) (place y (omega arith))
  where
    place : (z : CellId) → z.index < length ks + 1 → (IsOfKind ks (kind_at (ks ++ k ∷ []) z) z) ⊎ ((z.index ≡ length ks) × (kind_at (ks ++ k ∷ []) z ≡ k))
    place z h = pick (cases_order z.index (length ks))
      where
        pick : (z.index ≡ length ks) ⊎ ((z.index < length ks) ⊎ (length ks < z.index)) → (IsOfKind ks (kind_at (ks ++ k ∷ []) z) z) ⊎ ((z.index ≡ length ks) × (kind_at (ks ++ k ∷ []) z ≡ k))
        pick (inl at) = inr (at, get_or_push ks k (Bit (record { var = 0; neg = false })) z.index (sym at))
        pick (inr (inl lt)) = inl (record { there = lt; is = sym (get_or_append_left ks (k ∷ []) (Bit (record { var = 0; neg = false })) z.index lt) })
        pick (inr (inr gt)) = absurd (omega arith)

    step : (IsOfKind ks (kind_at (ks ++ k ∷ []) x) x) ⊎ ((x.index ≡ length ks) × (kind_at (ks ++ k ∷ []) x ≡ k)) →
        (IsOfKind ks (kind_at (ks ++ k ∷ []) y) y) ⊎ ((y.index ≡ length ks) × (kind_at (ks ++ k ∷ []) y ≡ k)) → x.index ≡ y.index
    step (inl p) (inl q) = apart x y p.there q.there (p.is ∙ e ∙ sym q.is)
    step (inl p) (inr q) = absurd (new.none x (record { there = p.there; is = p.is ∙ e ∙ q.1 }))
    step (inr p) (inl q) = absurd (new.none y (record { there = q.there; is = q.is ∙ sym e ∙ p.1 }))
    step (inr p) (inr q) = p.0 ∙ sym q.0

-- one more cell of a new kind over more variables
pub WellBuilt-push : (c d : Cells) (k : CellKind) → d.kinds ≡ c.kinds ++ k ∷ [] → d.texts ≡ c.texts → d.width ≡ c.width → c.vars ≤ d.vars
    → WellBuilt c → IsHeld (length c.kinds) d.vars c.width k → IsNew c.kinds k → WellBuilt d
WellBuilt-push c d k e t w le built new fresh = record {
  differ = rw t built.differ;
  few = rw t built.few;
  narrow = rw w built.narrow;
  held = λ id lt.
      let more : length d.kinds ≡ length c.kinds + 1 = ap length e ∙ length_push c.kinds k in
      place id (cases id.index (length c.kinds) (omega arith));
  apart = subst AllApart (sym e) (AllApart-push c.kinds k built.apart fresh);
}
  where
    cases : (m n : ℕ) → m < n + 1 → (m < n) ⊎ (m ≡ n)
    cases m n h = pick (cases_order m n)
      where
        pick : (m ≡ n) ⊎ ((m < n) ⊎ (n < m)) → (m < n) ⊎ (m ≡ n)
        pick (inl e) = inr e
        pick (inr (inl l)) = inl l
        pick (inr (inr g)) = absurd (omega arith)

    place : (id : CellId) → (id.index < length c.kinds) ⊎ (id.index ≡ length c.kinds) → IsHeld id.index d.vars d.width (kind_at d.kinds id)
    place id (inl lt) =
        let h = built.held id lt in
        let same : kind_at d.kinds id ≡ kind_at c.kinds id =
        ap (λ ks. kind_at ks id) e ∙ get_or_append_left c.kinds (k ∷ []) (Bit (record { var = 0; neg = false })) id.index lt in
        rw (same, w) (record { older = h.older; named = NamesBelow-later c.vars d.vars (kind_at c.kinds id) le h.named; formed = h.formed })
    place id (inr is) =
        let same : kind_at d.kinds id ≡ k =
        ap (λ ks. kind_at ks id) e ∙ get_or_push c.kinds k (Bit (record { var = 0; neg = false })) id.index (sym is) in
        rw (same, w, is) new
