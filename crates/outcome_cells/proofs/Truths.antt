-- The literals of truth values, one more at the end, and from the front.
use Rattle.std.proofs.Common.{◌≡◌, ℕ, ◌+◌, ◌<◌, Bool, List, [], ◌∷◌, ◌++◌, map, take, length, get_or, refl, sym, ◌∙◌, ap, subst}
use Rattle.std.proofs.lemmas.List.{length-map, map-append, take_more}
use Rattle.std.proofs.lemmas.List.Elements.{All-nil, All-push}
use Rattle.sat_formula.specs.declared.lit.Lit.{Lit}
use Rattle.sat_formula.specs.Lit.{IsBelow, lit_value}
use Rattle.tla_values.specs.declared.value.Value.TheVariants as value
use Rattle.cell_arena.specs.Cells.{Cells as Arena}
use Rattle.cell_arena.specs.Decode.{decode}
use Rattle.outcome_cells.specs.declared.cells.Cells.{Cells}
use Rattle.outcome_cells.specs.Bits.{AreBits}

pub bits-none : (c : Arena) → AreBits c [] []
bits-none c = record { named = All-nil (IsBelow c.vars); values = λ a. refl }

pub bits-push : (c : Arena) (xs : List Cells) (ls : List Lit) (x : Cells) (l : Lit) → AreBits c xs ls → l.var < c.vars →
    ((a : List Bool) → decode c a x.cell ≡ value.Bool (lit_value l a)) → AreBits c (xs ++ x ∷ []) (ls ++ l ∷ [])
bits-push c xs ls x l h lt e = record {
  named = All-push (IsBelow c.vars) ls l h.named lt;
  values = λ a.
      map-append (λ (x : Cells). decode c a x.cell) xs (x ∷ []) ∙ ap (λ vs. vs ++ decode c a x.cell ∷ []) (h.values a)
      ∙ ap (λ v. map (λ (l : Lit). value.Bool (lit_value l a)) ls ++ v ∷ []) (e a)
      ∙ sym (map-append (λ (l : Lit). value.Bool (lit_value l a)) ls (l ∷ []));
}

-- with the next one
pub bits-step : (c : Arena) (xs : List Cells) (i : ℕ) (d : Cells) (ls : List Lit) (l : Lit) → i < length xs →
    AreBits c (take i xs) ls → l.var < c.vars →
    ((a : List Bool) → decode c a (get_or xs i d).cell ≡ value.Bool (lit_value l a)) →
    AreBits c (take (i + 1) xs) (ls ++ l ∷ [])
bits-step c xs i d ls l lt h below e =
    subst (λ ys. AreBits c ys (ls ++ l ∷ [])) (sym (take_more xs i d lt)) (bits-push c (take i xs) ls (get_or xs i d) l h below e)

-- as many as there are cells
pub bits-count : (c : Arena) (xs : List Cells) (ls : List Lit) → AreBits c xs ls → length ls ≡ length xs
bits-count c xs ls h =
    sym (length-map ls (λ (l : Lit). value.Bool (lit_value l []))) ∙ ap length (sym (h.values []))
    ∙ length-map xs (λ (x : Cells). decode c [] x.cell)
