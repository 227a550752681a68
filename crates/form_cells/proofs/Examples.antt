-- Forms over a small arena, by computing: what they are, what they show, and of which sorts their members are.
use Rattle.std.proofs.Common.{◌≡◌, ℕ, Bool, true, false, not, cond, map, List, [], ◌∷◌, get_or, pos, refl, sym, ◌∙◌, ap, ap₂, subst, arith}
use Rattle.std.specs.Prelude.{◌&&◌, negsuc}
use Rattle.std.proofs.lemmas.List.Elements.{All-cons, All-nil}
use Rattle.sat_formula.specs.declared.lit.Lit.{Lit}
use Rattle.word_blaster.specs.Word.{number as bits_number, signed, taken}
use Rattle.tla_values.specs.Sets.{elements, set_of}
use Rattle.tla_values.specs.Sequences.{sequence}
use Rattle.tla_values.specs.declared.value.Value.{Value}
use Rattle.tla_values.specs.declared.value.Value.TheVariants as value
use Rattle.tla_values.proofs.Members.{elements-set}
use Rattle.tla_meaning.specs.declared.forms.SetForm.{SetForm}
use Rattle.tla_meaning.specs.declared.forms.SetForm.TheVariants as set
use Rattle.tla_meaning.specs.declared.outcome.Fault.TheVariants.{IsBig, IsWrong}
use Rattle.tla_meaning.specs.declared.place.Place.{Place}
use Rattle.tla_meaning.specs.Forms.{Broken, Made, belongs, is_natural}
use Rattle.cell_arena.specs.declared.kinds.CellId.{CellId}
use Rattle.cell_arena.specs.declared.kinds.CellKind.{CellKind}
use Rattle.cell_arena.specs.declared.kinds.CellKind.TheVariants.{Set, Word}
use Rattle.cell_arena.specs.Cells.{Cells}
use Rattle.cell_arena.specs.Decode.{decode, decode_all}
use Rattle.cell_merge.specs.Sorts.{OfSort, function_of, number, set_of as set_sort, truth}
use Rattle.form_cells.specs.declared.form.Form.{Form, Functions, Nats, Plain, Sequences, Subsets}
use Rattle.form_cells.specs.declared.form.FormCells.{FormCells}
use Rattle.form_cells.specs.declared.form.Form.TheVariants.{outs-Functions, outs-Nats}
use Rattle.form_cells.specs.FormSorts.{HasMembers, IsFormOf, functions, is, nats}
use Rattle.form_cells.specs.FormValues.{ShowsForm, form_value}
use Rattle.form_cells.proofs.Meant.{meant-nats, meant-sequences}
use Rattle.form_cells.proofs.Opened.{sort-nats, sort-plain, value-functions, value-nats, value-plain, value-sequences, value-subsets}

abbrev top : Lit
top = record { var = 0; neg = false }

abbrev bottom : Lit
bottom = record { var = 0; neg = true }

abbrev cell : ℕ → CellId
cell i = record { index = i }

-- the number 3, and the set of it
abbrev kinds : List CellKind
kinds = Word (top ∷ top ∷ bottom ∷ bottom ∷ []) ∷ Set ((top, cell 0) ∷ []) ∷ []

abbrev small : Cells
small = record { texts = []; width = 4; kinds = kinds; vars = 1 }

three : Value
three = value.Int (pos 3)

three_bits : (t : Bool) → t ≡ true → value.Int (signed (t ∷ t ∷ not t ∷ not t ∷ [])) ≡ three
unfolding signed bits_number taken three
three_bits true e = refl
three_bits false e = absurd (cc)

one_there : (of : CellId → Value) (t : Bool) → t ≡ true → map (λ (e : Lit × CellId). of e.1) (cond t ((top, cell 0) ∷ []) []) ≡ of (cell 0) ∷ []
one_there of true e = refl
one_there of false e = absurd (cc)

module _ (a : List Bool) (on : get_or a 0 false ≡ true) where
  the-set : decode small a (cell 1) ≡ value.Set (three ∷ [])
  unfolding decode decode_all
  the-set = ap (λ (vs : List Value). value.Set (set_of vs)) (one_there _ (get_or a 0 false) on) ∙ ap (λ (v : Value). value.Set (v ∷ [])) (three_bits (get_or a 0 false) on)

  -- ---- values

  val : Form → SetForm
  val f = form_value small a f

  three-alone : form_value small a (Plain (cell 1)) ≡ set.Plain (value.Set (three ∷ []))
  three-alone = value-plain small a (Plain (cell 1)) (cell 1) refl ∙ ap set.Plain the-set

  -- [{3} -> Nat]: the set stands by its members
  from-three : form_value small a (Functions (cell 1) Nats) ≡ set.Functions (three ∷ []) set.AllNats
  from-three =
      value-functions small a (Functions (cell 1) Nats) Nats (cell 1) refl
      ∙ ap₂ set.Functions (ap elements the-set ∙ elements-set (three ∷ [])) (value-nats small a Nats refl)

  -- Seq(SUBSET {3})
  nested : form_value small a (Sequences (Subsets (Plain (cell 1)))) ≡ set.Sequences (set.Subsets (set.Plain (value.Set (three ∷ []))))
  nested =
      value-sequences small a (Sequences (Subsets (Plain (cell 1)))) (Subsets (Plain (cell 1))) refl
      ∙ ap set.Sequences (value-subsets small a (Subsets (Plain (cell 1))) (Plain (cell 1)) refl ∙ ap set.Subsets three-alone)

  -- ---- what belongs

  natural : belongs (form_value small a Nats) three ≡ true
  unfolding three
  natural = meant-nats (form_value small a Nats) three (value-nats small a Nats refl) ∙ ap is_natural (value.outs-Int (pos 3))

  below : belongs (form_value small a Nats) (value.Int (negsuc 0)) ≡ false
  below = meant-nats (form_value small a Nats) (value.Int (negsuc 0)) (value-nats small a Nats refl) ∙ ap is_natural (value.outs-Int (negsuc 0))

  -- a truth value is none of the numbers
  no-number : belongs (form_value small a Nats) (value.Bool true) ≡ false
  no-number = meant-nats (form_value small a Nats) (value.Bool true) (value-nats small a Nats refl) ∙ ap is_natural (value.outs-Bool true)

  -- <<3>> is a sequence of numbers from 0 on, <<-1>> is not, and <<>> is one of anything
  one-item : belongs (form_value small a (Sequences Nats)) (sequence (three ∷ [])) ≡ true
  one-item =
      meant-sequences (form_value small a (Sequences Nats)) (sequence (three ∷ [])) (form_value small a Nats) (three ∷ []) (value-sequences small a (Sequences Nats) Nats refl) refl
      ∙ ap (λ t. t && true) natural

  wrong-item : belongs (form_value small a (Sequences Nats)) (sequence (value.Int (negsuc 0) ∷ [])) ≡ false
  wrong-item =
      meant-sequences (form_value small a (Sequences Nats)) (sequence (value.Int (negsuc 0) ∷ [])) (form_value small a Nats) (value.Int (negsuc 0) ∷ [])
      (value-sequences small a (Sequences Nats) Nats refl) refl ∙ ap (λ t. t && true) below

  no-item : belongs (form_value small a (Sequences Nats)) (sequence []) ≡ true
  no-item = meant-sequences (form_value small a (Sequences Nats)) (sequence []) (form_value small a Nats) [] (value-sequences small a (Sequences Nats) Nats refl) refl

  -- ---- what is shown

  abbrev whole : FormCells
  whole = record { form = Nats; wrong = bottom; big = bottom }

  shown : ShowsForm small a whole (Made set.AllNats)
  shown = record { shown = record { wrong = ap not on; big = ap not on; form = λ g e. value-nats small a Nats refl ∙ made-one set.AllNats g e } }
    where
      made-one : (f g : SetForm) → Made f ≡ Made g → f ≡ g
      made-one f g e = cc

  -- another form is not shown
  not-ints : ShowsForm small a whole (Made set.AllInts) → set.AllNats ≡ set.AllInts
  not-ints h = sym (value-nats small a Nats refl) ∙ h.shown.form set.AllInts refl

  -- under a fault that is Wrong any form stands
  under-wrong : (p : Place) (f : Form) → ShowsForm small a (record { form = f; wrong = top; big = bottom }) (Broken (IsWrong p))
  under-wrong p f = record { shown = record { wrong = on; big = ap not on; form = λ g e. absurd (broken-made p g e) } }
    where
      broken-made : (p : Place) (g : SetForm) → Broken (IsWrong p) ≡ Made g → ⊥
      broken-made p g e = cc

  -- Big is told from Wrong, and a fault from none
  not-big : (p : Place) (f : Form) → ShowsForm small a (record { form = f; wrong = top; big = bottom }) (Broken (IsBig p)) → ⊥
  not-big p f h = let e : true ≡ false = sym on ∙ h.shown.wrong in absurd (cc)

  not-broken : (p : Place) → ShowsForm small a whole (Broken (IsWrong p)) → ⊥
  not-broken p h = let e : not true ≡ true = sym (ap not on) ∙ h.shown.wrong in absurd (cc)

-- ---- sorts

set-of-three : OfSort kinds (set_sort number) (cell 1)
set-of-three = (omega arith, All-cons (λ (e : Lit × CellId). OfSort kinds number e.1) (top, cell 0) [] (omega arith, tt) (All-nil (λ (e : Lit × CellId). OfSort kinds number e.1)))

nats-of-numbers : IsFormOf kinds number Nats
nats-of-numbers = is number Nats (subst (HasMembers kinds number) (sym outs-Nats) nats)

functions-of : IsFormOf kinds (function_of number number) (Functions (cell 1) Nats)
functions-of =
    is (function_of number number) (Functions (cell 1) Nats)
    (subst (HasMembers kinds (function_of number number)) (sym (outs-Functions (cell 1) Nats)) (functions number number (cell 1) Nats set-of-three nats-of-numbers))

-- no truth value is a natural number, and a cell of a number is no set
not-truths : IsFormOf kinds truth Nats → ⊥
not-truths h = let e : truth ≡ number = sort-nats kinds truth Nats h refl in absurd (cc)

not-a-set : IsFormOf kinds number (Plain (cell 0)) → ⊥
not-a-set h = (sort-plain kinds number (Plain (cell 0)) h (cell 0) refl).1
