-- A set that was made of edges.
use Rattle.std.proofs.Common.{◌≡◌, Bool, List, All, ap, ◌∙◌, sym, subst}
use Rattle.std.specs.List.{list_any}
use Rattle.sat_formula.specs.declared.lit.Lit.{Lit}
use Rattle.sat_formula.specs.Formula.{Satisfies}
use Rattle.tla_values.specs.Order.{same_value}
use Rattle.tla_values.specs.Sets.{set_of}
use Rattle.tla_values.specs.declared.value.Value.{Value}
use Rattle.tla_values.specs.declared.value.Value.TheVariants as value
use Rattle.cell_arena.specs.declared.build.Build.{Build}
use Rattle.cell_arena.specs.declared.kinds.CellId.{CellId}
use Rattle.cell_arena.specs.declared.kinds.CellKind.TheVariants.{Set}
use Rattle.cell_arena.specs.Cells.{Cells}
use Rattle.cell_arena.specs.Decode.{decode, present}
use Rattle.cell_arena.specs.Growth.{Grows, Decodes, Adds}
use Rattle.cell_arena.proofs.Growing.{Decodes-same, Satisfies-before}
use Rattle.cell_merge.specs.Sorts.{Sort, OfSort, set_of as set_sort}
use Rattle.cell_merge.specs.Edges.{any_edge, LeadTo}
use Rattle.cell_merge.proofs.Edges.{any-present}
use Rattle.cell_merge.proofs.SortLaws.{sort-set}
use Rattle.cell_merge.proofs.Chosen.{set_of-same}
use Rattle.set_rewriter.specs.Edges.{MakesSet, MapsSet, MakesOf}

-- the set of the edges that are there, by the tests that find one
pub set-found : (a : List Bool) (of : CellId → Value) (out : List (Lit × CellId)) (xs : List Value) → ((p : Value → Bool) → any_edge a of p out ≡ list_any p xs) → set_of (present a of out) ≡ set_of xs
set-found a of out xs h = set_of-same (present a of out) xs (λ v. any-present (same_value v) a of out ∙ h (same_value v))

pub made : (old mid new : Build) (x y id : CellId) (out : List (Lit × CellId)) (members : List Bool → List Value) → mid.arena ≡ old.arena → Grows mid new → Adds mid new (Set out) id
    → Decodes new id (λ a. value.Set (set_of (present a (decode mid.arena a) out)))
    → ((s : Sort) → OfSort old.arena.kinds (set_sort s) x → OfSort old.arena.kinds (set_sort s) y → LeadTo old.arena.kinds s out)
    → ((a : List Bool) → Satisfies a mid.formula → set_of (present a (decode old.arena a) out) ≡ members a) → MakesSet old new x y id members
made old mid new x y id out members same grows adds decodes sorts is = record {
  value = Decodes-same new id _ _ decodes
      (λ a s. ap (λ (c : Cells). value.Set (set_of (present a (decode c a) out))) same ∙ ap (λ vs. value.Set vs) (is a (Satisfies-before mid new a grows s)));
  sort = λ s p q. sort-set mid new out s id adds grows (subst (λ (c : Cells). LeadTo c.kinds s out) (sym same) (sorts s p q));
}

-- the same for other sorts
module _ (old mid new : Build) (id : CellId) (out : List (Lit × CellId)) (members : List Bool → List Value) (same : mid.arena ≡ old.arena) (grows : Grows mid new) (adds : Adds mid new (Set out) id)
    (decodes : Decodes new id (λ a. value.Set (set_of (present a (decode mid.arena a) out))))
    (is : (a : List Bool) → Satisfies a mid.formula → set_of (present a (decode old.arena a) out) ≡ members a) where
  made-value : Decodes new id (λ a. value.Set (members a))
  made-value = Decodes-same new id _ _ decodes
      (λ a s. ap (λ (c : Cells). value.Set (set_of (present a (decode c a) out))) same ∙ ap (λ vs. value.Set vs) (is a (Satisfies-before mid new a grows s)))

  made-sort : (s : Sort) → LeadTo old.arena.kinds s out → OfSort new.arena.kinds (set_sort s) id
  made-sort s h = sort-set mid new out s id adds grows (subst (λ (c : Cells). LeadTo c.kinds s out) (sym same) h)

  pub maps : (images : List CellId) → ((s : Sort) → All (OfSort old.arena.kinds s) images → LeadTo old.arena.kinds s out) → MapsSet old new images id members
  maps images sorts = record { value = made-value; sort = λ s h. made-sort s (sorts s h) }

  pub makes-of : (x : CellId) (given : Sort → Sort) (to : Sort → Sort) → ((s : Sort) → OfSort old.arena.kinds (given s) x → LeadTo old.arena.kinds (to s) out) → MakesOf old new x id given (λ s. set_sort (to s)) members
  makes-of x given to sorts = record { value = made-value; sort = λ s h. made-sort (to s) (sorts s h) }
