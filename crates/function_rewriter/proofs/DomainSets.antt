-- The arguments of a function cell.
use Rattle.std.proofs.Common.{◌≡◌, ℕ, ◌<◌, Bool, List, All, length, ap, ◌∙◌, sym, subst}
use Rattle.std.proofs.lemmas.List.Elements.{All-map, All-weaker}
use Rattle.sat_formula.specs.declared.lit.Lit.{Lit}
use Rattle.sat_formula.specs.declared.cnf.Cnf.{Cnf}
use Rattle.sat_formula.specs.Lit.{IsBelow}
use Rattle.sat_formula.specs.Formula.{Satisfies}
use Rattle.tla_values.specs.Order.{same_value}
use Rattle.tla_values.specs.Sets.{arguments, function_of, set_of}
use Rattle.tla_values.specs.declared.value.Value.{Value}
use Rattle.tla_values.specs.declared.value.Value.TheVariants as value
use Rattle.cell_arena.specs.declared.build.Build.{Build}
use Rattle.cell_arena.specs.declared.kinds.CellId.{CellId}
use Rattle.cell_arena.specs.declared.kinds.CellKind.{CellKind}
use Rattle.cell_arena.specs.declared.kinds.CellKind.TheVariants.{Set, Fun}
use Rattle.cell_arena.specs.Cells.{Cells, IsHeld, kind_at}
use Rattle.cell_arena.specs.Decode.{decode, present, present_pairs}
use Rattle.cell_arena.specs.Growth.{Grows, Decodes, Adds}
use Rattle.cell_arena.proofs.Growing.{Decodes-same, Satisfies-before}
use Rattle.cell_merge.specs.Sorts.{Sort, OfSort, function_of as function_sort}
use Rattle.cell_merge.specs.Edges.{LeadTo, AreNamed, JoinsAll, OneSort}
use Rattle.cell_merge.specs.Arrows.{LeadFrom, ArrowsNamed, argument_edges}
use Rattle.cell_merge.proofs.Chosen.{set_of-same, lead-there}
use Rattle.cell_merge.proofs.Edges.{any-present, arrows-sort}
use Rattle.cell_merge.proofs.SortLaws.{sort-set}
use Rattle.function_rewriter.specs.Functions.{pairs_of}
use Rattle.function_rewriter.specs.inner.Arrows.{IsArguments, IsFunctionIn}
use Rattle.function_rewriter.proofs.PairLists.{arguments_function}
use Rattle.function_rewriter.proofs.ArrowPairs.{Arrow, arguments-pairs, arrows-named}

abbrev Edge : Type 0
Edge = Lit × CellId

-- edges that are joined have the members of the first ones
pub joined-set : (c : Cells) (f : Cnf) (a : List Bool) (es out : List Edge) → JoinsAll c f es es out → Satisfies a f → set_of (present a (decode c a) out) ≡ set_of (present a (decode c a) es)
joined-set c f a es out j s =
    set_of-same (present a (decode c a) out) (present a (decode c a) es)
    (λ v. any-present (same_value v) a (decode c a) out ∙ j.members a s (same_value v) ∙ sym (any-present (same_value v) a (decode c a) es))

argument-cells : (ks : List CellKind) (s t : Sort) (es : List Arrow) → LeadFrom ks s t es → LeadTo ks s (argument_edges es)
argument-cells ks s t es h =
    All-map (λ (e : Edge). OfSort ks s e.1) (λ (e : Arrow). (e.0, e.1)) es (All-weaker (λ (e : Arrow). OfSort ks s e.1 × OfSort ks t e.2) (λ (e : Arrow). OfSort ks s e.1) (λ e p. p.0) es h)

argument-named : (n : ℕ) (es : List Arrow) → ArrowsNamed n es → AreNamed n (argument_edges es)
argument-named n es h = All-map (λ (e : Edge). IsBelow n e.0) (λ (e : Arrow). (e.0, e.1)) es h

module _ (b : Build) (f : CellId) (k : CellKind) (es items : List Arrow) (fun : IsFunctionIn b.arena.kinds f) (same : k ≡ kind_at b.arena.kinds f) (is : k ≡ Fun es) (list : items ≡ es) where
  leads : (s t : Sort) → OfSort b.arena.kinds (function_sort s t) f → LeadTo b.arena.kinds s (argument_edges items)
  leads s t h = rw list (argument-cells b.arena.kinds s t es (arrows-sort b.arena.kinds s t f es h (sym same ∙ is)))

  pub arguments-joined : (m : ℕ) → IsHeld m b.arena.vars b.arena.width k → OneSort b.arena.kinds b.formula.vars (argument_edges items)
  arguments-joined m held = record {
    sort = fun.from;
    cells = leads fun.from fun.to fun.is;
    named = rw list (argument-named b.formula.vars es (arrows-named b.arena m b.formula.vars k es held is b.fits));
  }

  module _ (g : Cnf) (raw out : List Edge) (joins : JoinsAll b.arena g (argument_edges items) (argument_edges items) raw) (given : out ≡ raw) where
    pub arguments-older : All (λ e. e.1.index < length b.arena.kinds) out
    arguments-older = rw given (lead-there b.arena.kinds fun.from raw (joins.sorts fun.from (leads fun.from fun.to fun.is)))

    pub arguments-set : (mid new : Build) (id : CellId) → mid.arena ≡ b.arena → mid.formula ≡ g → Grows mid new → Adds mid new (Set out) id → Decodes new id (λ a. value.Set (set_of (present a (decode mid.arena a) out)))
        → ((a : List Bool) → pairs_of (decode b.arena a f) ≡ function_of (present_pairs a (decode b.arena a) es)) → IsArguments b new f id
    arguments-set mid new id over is_g grows adds decodes pairs = record {
      value = Decodes-same new id _ _ decodes
          (λ a s.
          let of : CellId → Value = decode b.arena a in
          ap (λ (c : Cells). value.Set (set_of (present a (decode c a) out))) over
          ∙ ap (λ vs. value.Set vs)
          (ap (λ (l : List Edge). set_of (present a of l)) given ∙ joined-set b.arena g a (argument_edges items) raw joins (subst (λ (h : Cnf). Satisfies a h) is_g (Satisfies-before mid new a grows s))
          ∙ ap (λ (l : List Arrow). set_of (present a of (argument_edges l))) list ∙ ap set_of (sym (arguments-pairs a of es)) ∙ sym (arguments_function (present_pairs a of es)) ∙ ap arguments (sym (pairs a))));
      sort = λ s t h. sort-set mid new out s id adds grows (subst (λ (c : Cells). LeadTo c.kinds s out) (sym over) (rw given (joins.sorts s (leads s t h))));
    }
