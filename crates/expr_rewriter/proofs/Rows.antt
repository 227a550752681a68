-- The sorts of binders, by their rows.
use Rattle.std.proofs.Common.{◌≡◌, true, ◌&&◌, List, [], ◌∷◌, map, refl, sym, ap, subst}
use Rattle.std.specs.Ordering.{is_eq}
use Rattle.tla_values.specs.Order.{text_cmp}
use Rattle.tla_meaning.specs.declared.op.Op.TheVariants as op
use Rattle.tla_meaning.proofs.Views.{and_both}
use Rattle.cell_arena.specs.declared.build.Build.{Build}
use Rattle.cell_merge.specs.Sorts.{function_of}
use Rattle.kernel_trees.specs.declared.kernel.KerOp.{KerOp}
use Rattle.kernel_trees.specs.declared.kernel.KerOp.TheVariants as ker
use Rattle.kernel_trees.specs.Sound.{argument_kind, binder_row}
use Rattle.kernel_trees.specs.TypeKinds.{Kind, Kinds, Fields, Truth, Number, Word, Set, Seq, Fun, Tup, Rec, no_kinds, more_kinds, no_fields, more_fields, all_same, fields_same, same}
use Rattle.kernel_trees.proofs.SoundRows.{BinderRow, binder_is, row_some, row_every, row_filter, row_map, row_function}
use Rattle.kernel_trees.proofs.Steps.{same_text_same}
use Rattle.outcome_cells.specs.declared.cells.Cells.{Cells}
use Rattle.outcome_cells.specs.Shows.{AreCells}
use Rattle.typed_cells.specs.KindSorts.{sort_of, tuple_sort}
use Rattle.typed_cells.proofs.PartSorts.{kinds-sorts}
use Rattle.member_choices.specs.declared.choice.Choice.{Choice}
use Rattle.member_choices.specs.Binders.{MakesFunction, MakesImages, MakesPart, argument_sort}
use Rattle.member_choices.specs.Choices.{ChoicesOf, ChoicesOfOne}
use Rattle.expr_rewriter.specs.inner.Binding.{BindsSort, CanBind}

-- ---- equal kinds

mutual
  same_self : (a : Kind) → same a a ≡ true
  same_self Truth = refl
  same_self Number = refl
  same_self (Word x) = same_text_same x
  same_self (Set a) = same_self a
  same_self (Seq a) = same_self a
  same_self (Fun a b) = and_both (same a a) (same b b) (same_self a) (same_self b)
  same_self (Tup as') = all_self as'
  same_self (Rec fs) = fields_self fs

  all_self : (as' : Kinds) → all_same as' as' ≡ true
  all_self no_kinds = refl
  all_self (more_kinds a as') = and_both (same a a) (all_same as' as') (same_self a) (all_self as')

  fields_self : (fs : Fields) → fields_same fs fs ≡ true
  fields_self no_fields = refl
  fields_self (more_fields x a fs) =
      and_both (is_eq (text_cmp x x)) (same a a && fields_same fs fs) (same_text_same x)
      (and_both (same a a) (fields_same fs fs) (same_self a) (fields_self fs))

pub is_row : (o : KerOp) (a : Kind) (ms : List Kind) (e : Kind) → BinderRow o a ms e → binder_row o a ms e ≡ true
is_row o a ms e (row_some ns) = refl
is_row o a ms e (row_every ns) = refl
is_row o a ms e (row_filter b) = same_self b
is_row o a ms e (row_map b ns) = same_self b
is_row o a ms e (row_function ns b) =
    and_both (same (argument_kind ms) (argument_kind ms)) (same b b) (same_self (argument_kind ms)) (same_self b)

-- ---- the sort of an argument

argument_is : (ms : List Kind) → argument_sort (map sort_of ms) ≡ sort_of (argument_kind ms)
argument_is [] = refl
argument_is (a ∷ []) = refl
argument_is (a ∷ b ∷ ms) = ap tuple_sort (sym (kinds-sorts (a ∷ b ∷ ms)))

-- ---- the operators

filter_row : (o : KerOp) (a : Kind) (ms : List Kind) (e : Kind) → o ≡ ker.Filter → BinderRow o a ms e →
    (b : Kind) × (a ≡ Set b) × (ms ≡ b ∷ [])
filter_row o a ms e q (row_filter b) = (b, refl, refl)
filter_row o a ms e q r = absurd (cc)

map_row : (o : KerOp) (a : Kind) (ms : List Kind) (e : Kind) → o ≡ ker.MapOver → BinderRow o a ms e → a ≡ Set e
map_row o a ms e q (row_map b ns) = refl
map_row o a ms e q r = absurd (cc)

function_row : (o : KerOp) (a : Kind) (ms : List Kind) (e : Kind) → o ≡ ker.FunOf → BinderRow o a ms e → a ≡ Fun (argument_kind ms) e
function_row o a ms e q (row_function ns b) = refl
function_row o a ms e q r = absurd (cc)

pub filter_one : (b : Build) (o : KerOp) (cs : List Choice) (bodies : List Cells) → o ≡ ker.Filter → CanBind b o cs bodies →
    ChoicesOfOne b.arena.kinds cs
filter_one b o cs bodies q c =
    let z = filter_row o c.kind c.members c.body q (binder_is o c.kind c.members c.body c.row) in
    record { sort = sort_of z.0; are = subst (λ ms. ChoicesOf b.arena.kinds (map sort_of ms) cs) z.2 c.choices }

pub filter_sort : (b d : Build) (o : KerOp) (cs : List Choice) (bodies : List Cells) (r : Cells) → o ≡ ker.Filter →
    MakesPart b d op.Filter cs bodies r → BindsSort b d o cs bodies r
filter_sort b d o cs bodies r q m = record {
  cells = λ a ms e h k l.
      let z = filter_row o a ms e q (binder_is o a ms e h) in
      subst (λ u. AreCells d (sort_of u) r) (sym z.1) (m.cells (sort_of z.0) (subst (λ ns. ChoicesOf b.arena.kinds (map sort_of ns) cs) z.2 k));
}

pub map_sort : (b d : Build) (o : KerOp) (cs : List Choice) (bodies : List Cells) (r : Cells) → o ≡ ker.MapOver →
    MakesImages b d op.MapTo cs bodies r → BindsSort b d o cs bodies r
map_sort b d o cs bodies r q m = record {
  cells = λ a ms e h k l.
      subst (λ u. AreCells d (sort_of u) r) (sym (map_row o a ms e q (binder_is o a ms e h))) (m.cells (sort_of e) l.cells);
}

pub function_sort : (b d : Build) (o : KerOp) (cs : List Choice) (bodies : List Cells) (r : Cells) → o ≡ ker.FunOf →
    MakesFunction b d op.Lambda cs bodies r → BindsSort b d o cs bodies r
function_sort b d o cs bodies r q m = record {
  cells = λ a ms e h k l.
      subst (λ u. AreCells d (sort_of u) r) (sym (function_row o a ms e q (binder_is o a ms e h)))
      (subst (λ s. AreCells d (function_of s (sort_of e)) r) (argument_is ms) (m.cells (map sort_of ms) (sort_of e) k l.cells));
}
