-- Examples of values of types, and of the types of text literals.
use Rattle.std.proofs.Common.{◌≡◌, ℕ, true, List, [], ◌∷◌, refl, ap, sym, ◌∙◌, subst, pos, codes, false, Some, None, arith, ◌⊎◌, inl, inr}
use Rattle.tla_values.specs.declared.value.Value.TheVariants as value
use Rattle.snowcat_rows.specs.Types.{Term, var, con, app, fields, row, lookup, none, some, BoolHead, IntHead, StrHead, NamedHead, SetHead, TupHead, EndHead, Beside, here}
use Rattle.snowcat_rows.specs.Substitutions.{Fronts, Row, apply}
use Rattle.snowcat_rows.specs.Chains.{Binding, to_row, solved, sub_of}
use Rattle.snowcat_rows.specs.Unifying.{IsBound, Follows, IsNeeded, Follow, given, and_then, Made, Unmade}
use Rattle.snowcat_rows.specs.Readings.{unknown_within}
use Rattle.snowcat_rows.specs.LiteralTypes.{literal_type}
use Rattle.snowcat_rows.specs.TypeTexts.{bool, int, str, variable, set, function, record_of, parens, last, also, pieces, is_formed, is_among, Written, IsTypeText}
use Rattle.snowcat_rows.specs.Spellable.{HasText, Spellable}
use Rattle.snowcat_rows.specs.Values.{HasType, InBounds}

of_node : literal_type (codes "1_OF_NODE") ≡ con (NamedHead (codes "NODE"))
of_node = refl

of_no_word : literal_type (codes "_OF_NODE") ≡ con StrHead
of_no_word = refl

of_small_letters : literal_type (codes "1_OF_node") ≡ con StrHead
of_small_letters = refl

last_counts : literal_type (codes "1_OF_A_OF_B") ≡ con (NamedHead (codes "B"))
last_counts = refl

truth : HasType (value.Bool true) (con BoolHead)
truth = (true, refl)

number : InBounds [] (pos 0) (pos 3) 2 (value.Int (pos 3)) (con IntHead)
number = (pos 3, refl, (refl, refl))

a_tuple : HasType (value.Fun ((value.Int (pos 1), value.Bool true) ∷ (value.Int (pos 2), value.Int (pos 7)) ∷ [])) (app (con TupHead) (app (con BoolHead) (app (con IntHead) (con EndHead))))
a_tuple = (value.Bool true ∷ value.Int (pos 7) ∷ [], refl, ((true, refl), ((pos 7, refl, tt), tt)))

-- ---- texts of types

-- a -> Set(Int)
arrow : Written (pieces (function (variable (codes "a")) (set int))) (codes " a->Set( Int )")
arrow = (codes " ", codes "->Set( Int )", refl, refl, ([], codes "Set( Int )", refl, refl, ([], codes "( Int )", refl, refl, ([], codes " Int )", refl, refl, (codes " ", codes " )", refl, refl, (codes " ", [], refl, refl, refl))))))

open_record : IsTypeText (codes "{f:Int,r}") (record_of (codes "f") int last (Some (codes "r")))
open_record = record {
  formed = refl;
  written = ([], codes "f:Int,r}", refl, refl, ([], codes ":Int,r}", refl, refl, ([], codes "Int,r}", refl, refl, ([], codes ",r}", refl, refl, ([], codes "r}", refl, refl, ([], codes "}", refl, refl, ([], [], refl, refl, refl)))))));
  fronts = (λ x n. is_among n (codes "f" ∷ []), ((tt, tt, λ n. refl)));
}

names_differ : is_formed (record_of (codes "f") int (also (codes "f") str last) None) ≡ false
names_differ = refl

left_of_arrow : is_formed (function (function int str) bool) ≡ false
left_of_arrow = refl

left_in_parentheses : is_formed (function (parens (function int str)) bool) ≡ true
left_in_parentheses = refl

-- ---- unknown aliases before a bad byte

unknown_one : unknown_within [] (codes "<<$foo") ≡ Some (codes "foo")
unknown_one = refl

unknown_second : unknown_within ((codes "foo", con IntHead, 0) ∷ []) (codes "<<$foo, $bar1 ") ≡ Some (codes "bar1")
unknown_second = refl

no_name : unknown_within [] (codes "Set($1") ≡ None
no_name = refl

-- ---- Int and Set(a) clash as these two alone

abbrev a_set : Term
a_set = app (con SetHead) (var 0)

one_place : (x y : Term) → Beside x y (con IntHead) a_set → (x ≡ con IntHead) × (y ≡ a_set)
one_place x y here = (refl, refl)

nothing_follows : (n : ℕ) (l : Fronts) (m : ℕ) (k : Fronts) (cs : List Binding) → Follow n l [] (con IntHead) a_set m k cs → cs ≡ []
nothing_follows n l _ _ _ given = refl
nothing_follows n l _ _ _ (and_then m p k cs ds x y f b le h) =
    let P : List Binding → Type 0 = λ z. Beside x y (solved z (con IntHead)) (solved z a_set) in
    let e = one_place x y (subst P (nothing_follows n l m k cs f) b) in
    absurd (unequal (ap (apply (sub_of ds)) (sym e.0) ∙ h.unified.equal ∙ ap (apply (sub_of ds)) e.1))
  where
    unequal : con IntHead ≡ app (con SetHead) ((sub_of ds).type_of 0) → ⊥
    unequal q = cc

these_two : (n : ℕ) (l : Fronts) (x y : Term) → Unmade n l [] (con IntHead) a_set x y → (x ≡ con IntHead) × (y ≡ a_set)
these_two n l x y u =
    let P : List Binding → Type 0 = λ z. Beside x y (solved z (con IntHead)) (solved z a_set) in
    one_place x y (subst P (nothing_follows n l u.issued u.fronts u.reached u.follow) u.beside)

-- ---- types that can be written

-- << >>
no_items : HasText (app (con TupHead) (row [])) → ⊥
no_items h = h

abbrev with_field : List ℕ → Term
with_field x = fields (lookup ((x, con IntHead) ∷ [])) (Some 0)

-- <<{f: Int, r}, {g: Int, r}>>
two_fronts : Spellable (app (con TupHead) (row (with_field (codes "f") ∷ with_field (codes "g") ∷ []))) → ⊥
two_fronts s =
    let k = s.fronts.1.1 in
    k.1.0.1 0 refl (codes "f") (k.0.1 0 refl (codes "f"))

-- ---- a variable that no binding needs is not issued

in_vain : (l : Fronts) (a b : Term) → Made 0 1 l [] [] a b → ⊥
in_vain l a b h = (h.needed 0 (omega arith) (omega arith)).5.0

abbrev with_h : Row
with_h = record { at = lookup ((codes "h", con IntHead) ∷ []); tail = Some 3 }

abbrev alone : Row
alone = record { at = λ n. none; tail = Some 3 }

-- {h: Int, r3} for r0 and r1 and {r3} for r2, where r2 could stand in the place of r3
abbrev three_rows : List Binding
three_rows = to_row 0 with_h ∷ to_row 1 with_h ∷ to_row 2 alone ∷ []

which_row : (r : ℕ) (w : Row) → IsBound r w three_rows → (w ≡ with_h) ⊎ (w ≡ alone)
which_row r w (inl h) = inl h.1
which_row r w (inr (inl h)) = inl h.1
which_row r w (inr (inr (inl h))) = inr h.1
which_row r w (inr (inr (inr h))) = absurd h

not_alone : (w : Row) → (w ≡ with_h) ⊎ (w ≡ alone) → Follows 3 w → w ≡ with_h
not_alone w (inl e) f = e
not_alone w (inr e) f = absurd (nothing f.0.1 (ap (λ z. z.at f.0.0) (sym e) ∙ f.0.2))
  where
    nothing : (t : Term) → none ≡ some t → ⊥
    nothing t e = cc

could_do_without : IsNeeded three_rows 3 → ⊥
could_do_without (r, q, w, z, a, b, f, d) =
    let e = not_alone w (which_row r w b.0) f.0 in
    let k = not_alone z (which_row q z b.1) f.1 in
    d (codes "h") (con IntHead) (con IntHead) (ap (λ x. x.at (codes "h")) e) (ap (λ x. x.at (codes "h")) k)
