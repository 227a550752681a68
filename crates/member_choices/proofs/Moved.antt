-- Choices and bodies as a build grows.
use Rattle.std.proofs.Common.{◌≡◌, ◌<◌, Bool, ◌&&◌, ◌||◌, List, [], ◌∷◌, map, length, get_or, All, refl, ap, ◌∙◌, sym}
use Rattle.std.proofs.Common.{arith}
use Rattle.std.proofs.lemmas.List.Elements.{All-head, All-tail}
use Rattle.sat_formula.specs.Lit.{lit_value}
use Rattle.sat_formula.specs.Formula.{Satisfies}
use Rattle.tla_values.specs.declared.value.Value.{Value}
use Rattle.cell_arena.specs.declared.build.Build.{Build}
use Rattle.cell_arena.specs.declared.kinds.CellId.{CellId}
use Rattle.cell_arena.specs.Decode.{decode}
use Rattle.cell_arena.specs.Growth.{Grows}
use Rattle.cell_arena.proofs.Growing.{decode-before}
use Rattle.cell_merge.specs.Sorts.{Sort}
use Rattle.typed_cells.specs.KindSorts.{OfSorts}
use Rattle.member_choices.specs.declared.choice.Choice.{Choice}
use Rattle.member_choices.specs.Choices.{AreChoices, ChoicesOf, any_choice}
use Rattle.member_choices.specs.inner.Tests.{AreWholes, HaveValues}
use Rattle.member_choices.proofs.Tupled.{values-later}

module _ (b c : Build) (a : List Bool) (ss : List Sort) (g : Grows b c) where
  pub choices-agree : (p : List Value → Bool) (cs : List Choice) → ChoicesOf b.arena.kinds ss cs →
      any_choice a (decode c.arena a) p cs ≡ any_choice a (decode b.arena a) p cs
  choices-agree p [] h = refl
  choices-agree p (d ∷ cs) h =
      let P : Choice → Type 0 = λ (d : Choice). OfSorts b.arena.kinds ss d.cells in
      ap (λ (vs : List Value). (lit_value d.there a && p vs) || any_choice a (decode c.arena a) p cs)
      (values-later b c a ss d.cells g (All-head P d cs h))
      ∙ ap (λ t. (lit_value d.there a && p (map (decode b.arena a) d.cells)) || t)
      (choices-agree p cs (All-tail P d cs h))

  pub choices-move : (cs : List Choice) (vss : List (List Value)) → ChoicesOf b.arena.kinds ss cs →
      AreChoices a (decode b.arena a) cs vss → AreChoices a (decode c.arena a) cs vss
  choices-move cs vss h k p = choices-agree p cs h ∙ k p

  pub values-move : (cs : List Choice) (ids : List CellId) (v : List Value → Value) → ChoicesOf b.arena.kinds ss cs →
      length ids ≡ length cs →
      All (λ (x : CellId). x.index < length b.arena.kinds) ids → HaveValues b.arena a cs ids v →
      HaveValues c.arena a cs ids v
  unfolding HaveValues
  values-move cs ids v h n there have = λ i d x lt on.
      decode-before b c a (get_or ids i x) g (there i x (omega arith)) ∙ have i d x lt on
      ∙ ap v (sym (values-later b c a ss (get_or cs i d).cells g (h i d lt)))

  -- one cell for each choice has the value that is made of it
  pub wholes-have : (make : List Value → Value) (made : List Sort → Sort) (cs : List Choice) (ids : List CellId) →
      ChoicesOf b.arena.kinds ss cs → Satisfies a c.formula →
      AreWholes b c make made cs (length cs) ids → HaveValues c.arena a cs ids make
  unfolding HaveValues
  wholes-have make made cs ids h s are = λ i d x lt on.
      are.values a s i d x lt ∙ ap make (sym (values-later b c a ss (get_or cs i d).cells g (h i d lt)))
