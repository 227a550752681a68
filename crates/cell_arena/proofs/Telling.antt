-- What `==` tells of literals, cells and edges.
use Rattle.std.proofs.Common.{◌≡◌, Bool, true, false, ◌&&◌, ◌==◌, Decides, refl, ap, sym}
use Rattle.std.proofs.lemmas.Bool.Decides.{Decides-and, Decides-eqb, Decides-like}
use Rattle.sat_formula.specs.declared.lit.Lit.{Lit}
use Rattle.sat_formula.specs.contracts.lit.LitPartialEq.TheImpl as lit
use Rattle.cell_arena.specs.declared.kinds.CellId.{CellId}
use Rattle.cell_arena.specs.contracts.kinds.CellIdPartialEq.TheImpl as cell

-- whether two signs are equal, as `==` of literals has it
abbrev same_sign : Bool → Bool → Bool
same_sign a b = lit.eq-value.it (record { var = 0; neg = a }) (record { var = 0; neg = b })

sign_decides : (a b : Bool) → Decides (same_sign a b) (a ≡ b)
sign_decides true true = (λ e. refl, λ e. refl)
sign_decides true false = (λ e. sym e, λ e. sym e)
sign_decides false true = (λ e. e, λ e. e)
sign_decides false false = (λ e. refl, λ e. refl)

lit_of : (l m : Lit) → (l.var ≡ m.var) × (l.neg ≡ m.neg) → l ≡ m
lit_of l m e = λ i. record { var = e.0 i; neg = e.1 i }

pub lit_decides : (l m : Lit) → Decides (lit.eq-value.it l m) (l ≡ m)
lit_decides l m =
    Decides-like _ (lit_of l m) (λ e. (ap (λ (k : Lit). k.var) e, ap (λ (k : Lit). k.neg) e))
    (Decides-and (l.var == m.var) (same_sign l.neg m.neg) (Decides-eqb l.var m.var) (sign_decides l.neg m.neg))

pub cell_decides : (x y : CellId) → Decides (cell.eq-value.it x y) (x ≡ y)
cell_decides x y = Decides-like _ (λ e. λ i. record { index = e i }) (λ e. ap (λ (k : CellId). k.index) e) (Decides-eqb x.index y.index)

abbrev Edge : Type 0
Edge = Lit × CellId

abbrev Arrow : Type 0
Arrow = Lit × CellId × CellId

pub edge_decides : (x y : Edge) → Decides (lit.eq-value.it x.0 y.0 && cell.eq-value.it x.1 y.1) (x ≡ y)
edge_decides x y =
    Decides-like _ (λ e. λ i. (e.0 i, e.1 i)) (λ e. (ap (λ (k : Edge). k.0) e, ap (λ (k : Edge). k.1) e))
    (Decides-and (lit.eq-value.it x.0 y.0) (cell.eq-value.it x.1 y.1) (lit_decides x.0 y.0) (cell_decides x.1 y.1))

pub arrow_decides : (x y : Arrow) → Decides ((lit.eq-value.it x.0 y.0 && cell.eq-value.it x.1 y.1) && cell.eq-value.it x.2 y.2) (x ≡ y)
arrow_decides x y =
    Decides-like _ (λ e. λ i. (e.0.0 i, e.0.1 i, e.1 i)) (λ e. ((ap (λ (k : Arrow). k.0) e, ap (λ (k : Arrow). k.1) e), ap (λ (k : Arrow). k.2) e))
    (Decides-and (lit.eq-value.it x.0 y.0 && cell.eq-value.it x.1 y.1) (cell.eq-value.it x.2 y.2)
    (Decides-and (lit.eq-value.it x.0 y.0) (cell.eq-value.it x.1 y.1) (lit_decides x.0 y.0) (cell_decides x.1 y.1)) (cell_decides x.2 y.2))
