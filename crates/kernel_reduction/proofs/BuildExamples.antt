-- Small expressions and the kernel trees that are built of them.
use Rattle.std.proofs.Common.{◌≡◌, ℕ, true, false, List, [], ◌∷◌, ◌&&◌, refl, ◌∙◌, ap, subst, pos, None, if◌then◌else◌}
use Rattle.tla_values.specs.Order.{Layer}
use Rattle.tla_values.specs.declared.value.Value.{Value}
use Rattle.tla_values.specs.declared.value.Value.TheVariants as value
use Rattle.tla_meaning.specs.declared.expr.Expr.{Expr, roll-Expr}
use Rattle.tla_meaning.specs.declared.op.Op.{Op}
use Rattle.tla_meaning.specs.declared.op.Op.TheVariants as op
use Rattle.tla_meaning.specs.declared.place.Place.{Place}
use Rattle.snowcat_rows.specs.declared.types.Ty.{Ty}
use Rattle.kernel_trees.specs.declared.kernel.Ker.{Ker, roll-Ker, out-roll-Ker}
use Rattle.kernel_trees.specs.declared.kernel.Ker.TheOpen.{Ker-F}
use Rattle.kernel_trees.specs.declared.kernel.KerOp.{KerOp}
use Rattle.kernel_trees.specs.declared.kernel.KerOp.TheVariants as ker
use Rattle.kernel_reduction.specs.Reduction.{Numbering}
use Rattle.kernel_reduction.specs.Rows.{op_at, Let, Level, Change, indexes, all_plain, is_literal_op, is_plain_op, is_plain_value}
use Rattle.kernel_reduction.specs.Builds as rows
use Rattle.kernel_reduction.specs.Builds.{Builds, BuildsEach}
use Rattle.kernel_reduction.proofs.Building.{built}

abbrev at : ℕ → Place
at n = record { file = 0; line = 1; col = n }

-- expressions, at a column
abbrev tree : ℕ → Op → List Expr → Expr
tree n o es = roll-Expr (record { place = at n; op = o; args = es; binds = [] })

abbrev number : ℕ → ℕ → Expr
number n i = tree n (op.Int (pos i)) []

abbrev name : ℕ → ℕ → Expr
name n i = tree n (op.Name i false) []

abbrev old : List ℕ
old = 64 ∷ []

abbrev a_field : List ℕ
a_field = 97 ∷ []

abbrev b_field : List ℕ
b_field = 98 ∷ []

module _ (a : Ty) where
  -- kernel trees, whose types are all alike
  abbrev node : ℕ → KerOp → List Ker → List ℕ → Ker
  node n o ks xs = roll-Ker (record { place = at n; ty = a; op = o; args = ks; binds = xs })

  abbrev plain : ℕ → KerOp → List Ker → Ker
  plain n o ks = node n o ks []

  abbrev constant : ℕ → ℕ → Ker
  constant n i = plain n (ker.Const (value.Int (pos i))) []

  abbrev text : ℕ → List ℕ → Ker
  text n x = plain n (ker.Const (value.Text x)) []

  abbrev declared : ℕ → ℕ → Ker
  declared n i = plain n (ker.Name i false) []

  abbrev bound : ℕ → ℕ → Ker
  bound n i = plain n (ker.Bound i) []

  -- what a root shows of its place and its type
  abbrev root : ℕ → KerOp → List Ker → Ker-F Ker
  root n o ks = record { place = at n; ty = a; op = o; args = ks; binds = [] }

  abbrev at_root : Ker-F Ker → KerOp → List Ker → Ker
  at_root x o ks = roll-Ker (record { place = x.place; ty = x.ty; op = o; args = ks; binds = [] })

  abbrev the_let : Let
  the_let = record { type = a; wholes = a; items = a; unread = 0; named = 1 }

  -- `LET y == d IN e` at a column, where y has the number 1
  abbrev let_of : ℕ → Ker → Ker → Ker
  let_of n d e =
      plain n ker.First
      (node n ker.FoldLeft
      (plain n ker.Push (bound n 0 ∷ e ∷ []) ∷ plain n ker.SeqOf [] ∷ plain n ker.SeqOf (d ∷ []) ∷ [])
      (0 ∷ 1 ∷ []) ∷ [])

  -- ---- operands

  of_number : (ρ : Numbering) (n i : ℕ) → Builds None ρ (number n i) (constant n i)
  of_number ρ n i = built None ρ (at n) (op.Int (pos i)) [] [] _ (rows.integer ρ (at n) (pos i) [] a)

  of_text : (ρ : Numbering) (n : ℕ) (x : List ℕ) → Builds None ρ (tree n (op.Str x) []) (text n x)
  of_text ρ n x = built None ρ (at n) (op.Str x) [] [] _ (rows.text ρ (at n) x [] a)

  of_name : (ρ : Numbering) (n i : ℕ) → Builds None ρ (name n i) (declared n i)
  of_name ρ n i = built None ρ (at n) (op.Name i false) [] [] _ (rows.declared ρ (at n) i false [] [] a)

  two : (ρ : Numbering) (e f : Expr) (k l : Ker) → Builds None ρ e k → Builds None ρ f l →
      BuildsEach None ρ (e ∷ f ∷ []) (k ∷ l ∷ [])
  two ρ e f k l b c =
      rows.one_more None ρ e k (f ∷ []) (l ∷ []) b (rows.one_more None ρ f l [] [] c (rows.none_left None ρ))

  -- ---- `x => y`: below a negation, so that no path is split

  implication : Builds None [] (tree 3 op.Implies (name 1 0 ∷ name 6 1 ∷ []))
      (plain 3 ker.Not (plain 3 ker.And (declared 1 0 ∷ plain 3 ker.Not (declared 6 1 ∷ []) ∷ []) ∷ []))
  implication =
      built None [] (at 3) op.Implies (name 1 0 ∷ name 6 1 ∷ []) [] _
      (rows.implies [] (at 3) (name 1 0 ∷ name 6 1 ∷ []) [] a (declared 1 0) (declared 6 1)
      (two [] _ _ _ _ (of_name [] 1 0) (of_name [] 6 1)))

  -- ---- `x <=> y`: what reads x stands at x

  abbrev compared : Ker-F Ker → Ker-F Ker → Ker
  compared x y =
      let_of 3 (plain 3 ker.TupOf (declared 1 0 ∷ declared 7 1 ∷ []))
      (plain 3 ker.Equal
      (plain 3 ker.Not (at_root x (ker.Item 1) (at_root (record x { ty = a }) (ker.Bound 1) [] ∷ []) ∷ [])
      ∷ plain 3 ker.Not (at_root y (ker.Item 2) (at_root (record y { ty = a }) (ker.Bound 1) [] ∷ []) ∷ []) ∷ []))

  equivalence : Builds None [] (tree 3 op.Iff (name 1 0 ∷ name 7 1 ∷ []))
      (let_of 3 (plain 3 ker.TupOf (declared 1 0 ∷ declared 7 1 ∷ []))
      (plain 3 ker.Equal
      (plain 3 ker.Not (plain 1 (ker.Item 1) (bound 1 1 ∷ []) ∷ []) ∷ plain 3 ker.Not
      (plain 7 (ker.Item 2) (bound 7 1 ∷ []) ∷ []) ∷ [])))
  equivalence =
      subst (Builds None [] (tree 3 op.Iff (name 1 0 ∷ name 7 1 ∷ [])))
      (λ i. compared (out-roll-Ker (root 1 (ker.Name 0 false) []) i) (out-roll-Ker (root 7 (ker.Name 1 false) []) i))
      (built None [] (at 3) op.Iff (name 1 0 ∷ name 7 1 ∷ []) [] _
      (rows.equivalent [] (at 3) (name 1 0 ∷ name 7 1 ∷ []) [] the_let a (declared 1 0) (declared 7 1) refl
      (two [] _ _ _ _ (of_name [] 1 0) (of_name [] 7 1))))

  -- ---- `x^2` and `x^1`

  constant_op : (n i : ℕ) → op_at (constant n i) ≡ ker.Const (value.Int (pos i))
  constant_op n i = ap (λ (x : Ker-F Ker). x.op) (out-roll-Ker (root n (ker.Const (value.Int (pos i))) []))

  square : Builds None [] (tree 2 op.Pow (name 1 0 ∷ number 3 2 ∷ []))
      (let_of 2 (declared 1 0) (plain 2 ker.Times (bound 1 1 ∷ bound 1 1 ∷ [])))
  square =
      subst (Builds None [] (tree 2 op.Pow (name 1 0 ∷ number 3 2 ∷ [])))
      (λ i. let x : Ker-F Ker = out-roll-Ker (root 1 (ker.Name 0 false) []) i in
      let_of 2 (declared 1 0) (plain 2 ker.Times (at_root x (ker.Bound 1) [] ∷ at_root x (ker.Bound 1) [] ∷ [])))
      (built None [] (at 2) op.Pow (name 1 0 ∷ number 3 2 ∷ []) [] _
      (rows.power [] (at 2) (name 1 0 ∷ number 3 2 ∷ []) [] the_let a (declared 1 0) (constant 3 2) 2 refl
      (constant_op 3 2) refl
      (two [] _ _ _ _ (of_name [] 1 0) (of_number [] 3 2))))

  -- the product is only compared
  first_power : Builds None [] (tree 2 op.Pow (name 1 0 ∷ number 3 1 ∷ []))
      (let_of 2 (declared 1 0)
      (plain 2 ker.If
      (plain 2 ker.Less
      (plain 2 ker.Times (constant 2 1 ∷ bound 1 1 ∷ []) ∷ bound 1 1 ∷ []) ∷ bound 1 1 ∷ bound 1 1 ∷ [])))
  first_power =
      subst (Builds None [] (tree 2 op.Pow (name 1 0 ∷ number 3 1 ∷ [])))
      (λ i. let x : Ker-F Ker = out-roll-Ker (root 1 (ker.Name 0 false) []) i in
      let y : Ker = at_root x (ker.Bound 1) [] in
      let_of 2 (declared 1 0)
      (plain 2 ker.If (plain 2 ker.Less (plain 2 ker.Times (constant 2 1 ∷ y ∷ []) ∷ y ∷ []) ∷ y ∷ y ∷ [])))
      (built None [] (at 2) op.Pow (name 1 0 ∷ number 3 1 ∷ []) [] _
      (rows.power [] (at 2) (name 1 0 ∷ number 3 1 ∷ []) [] the_let a (declared 1 0) (constant 3 1) 1 refl
      (constant_op 3 1) refl
      (two [] _ _ _ _ (of_name [] 1 0) (of_number [] 3 1))))

  -- ---- `t[7]` and `t[8]`: 8 may be Big, and is so where it stands

  seventh : Builds None [] (tree 2 op.Apply (name 1 0 ∷ number 3 7 ∷ [])) (plain 2 (ker.Item 7) (declared 1 0 ∷ []))
  seventh =
      built None [] (at 2) op.Apply (name 1 0 ∷ number 3 7 ∷ []) [] _
      (rows.low_item [] (at 2) (name 1 0 ∷ number 3 7 ∷ []) [] a (declared 1 0) (constant 3 7) 7 (constant_op 3 7) refl
      (two [] _ _ _ _ (of_name [] 1 0) (of_number [] 3 7)))

  eighth : Builds None [] (tree 2 op.Apply (name 1 0 ∷ number 3 8 ∷ []))
      (let_of 2 (plain 2 ker.TupOf (declared 1 0 ∷ constant 3 8 ∷ []))
      (plain 2 (ker.Item 8) (plain 1 (ker.Item 1) (bound 1 1 ∷ []) ∷ [])))
  eighth =
      subst (Builds None [] (tree 2 op.Apply (name 1 0 ∷ number 3 8 ∷ [])))
      (λ i. let x : Ker-F Ker = out-roll-Ker (root 1 (ker.Name 0 false) []) i in
      let_of 2 (plain 2 ker.TupOf (declared 1 0 ∷ constant 3 8 ∷ []))
      (plain 2 (ker.Item 8) (at_root x (ker.Item 1) (at_root (record x { ty = a }) (ker.Bound 1) [] ∷ []) ∷ [])))
      (built None [] (at 2) op.Apply (name 1 0 ∷ number 3 8 ∷ []) [] _
      (rows.high_item [] (at 2) (name 1 0 ∷ number 3 8 ∷ []) [] the_let a (declared 1 0) (constant 3 8) 8 refl
      (constant_op 3 8) refl
      (two [] _ _ _ _ (of_name [] 1 0) (of_number [] 3 8))))

  -- ---- `[r EXCEPT !.a = 1, !.b = 2]`: two updates, and no LET

  abbrev level : Ker → ℕ → Level
  level k n = record { index = k; number = n; inner = a; rest = a }

  abbrev change : List Level → Ker → Change
  change ls k = record { levels = ls; right = k }

  abbrev of_record : List Expr
  of_record = tree 3 (op.Str a_field) [] ∷ number 4 1 ∷ tree 5 (op.Str b_field) [] ∷ number 6 2 ∷ []

  abbrev first_change : Change
  first_change = change (level (text 3 a_field) 0 ∷ []) (constant 4 1)

  abbrev second_change : Change
  second_change = change (level (text 5 b_field) 1 ∷ []) (constant 6 2)

  texts_are_plain : all_plain (indexes (first_change ∷ second_change ∷ [])) ≡ true
  texts_are_plain =
      ap (λ (x : Ker-F Ker). is_plain_op x.op && true) (out-roll-Ker (root 5 (ker.Const (value.Text b_field)) []))
      ∙ ap (λ (l : Layer Value). is_plain_value l && true) (value.outs-Text b_field)

  record_changes : Builds None []
      (roll-Expr (record { place = at 1; op = op.Except (1 ∷ 1 ∷ []); args = name 2 0 ∷ of_record; binds = old ∷ [] }))
      (node 1 ker.Update
      (node 1 ker.Update (declared 2 0 ∷ text 3 a_field ∷ constant 4 1 ∷ [])
      (0 ∷ []) ∷ text 5 b_field ∷ constant 6 2 ∷ []) (1 ∷ []))
  record_changes =
      built None [] (at 1) (op.Except (1 ∷ 1 ∷ [])) (name 2 0 ∷ of_record) (old ∷ []) _
      (rows.except [] (at 1) (1 ∷ 1 ∷ []) (name 2 0) of_record old a (declared 2 0) first_change
      (second_change ∷ []) texts_are_plain refl (of_name [] 2 0)
      (rows.one_change [] old 1 (1 ∷ []) of_record first_change (second_change ∷ [])
      (rows.last_level [] old _ _ (level (text 3 a_field) 0) (constant 4 1) (of_text [] 3 a_field) (of_number _ 4 1))
      (rows.one_change [] old 1 [] _ second_change []
      (rows.last_level [] old _ _ (level (text 5 b_field) 1) (constant 6 2) (of_text [] 5 b_field) (of_number _ 6 2))
      (rows.no_changes [] old))))

  -- ---- `[f EXCEPT ![1][1 \div 0] = 2]`: the second index is read from what is named, inside the first update

  abbrev quotient : Expr
  quotient = tree 5 op.Div (number 4 1 ∷ number 6 0 ∷ [])

  abbrev built_quotient : Ker
  built_quotient = plain 5 ker.Quotient (constant 4 1 ∷ constant 6 0 ∷ [])

  of_quotient : Builds None [] quotient built_quotient
  of_quotient =
      built None [] (at 5) op.Div (number 4 1 ∷ number 6 0 ∷ []) [] _
      (rows.same [] (at 5) op.Div ker.Quotient (number 4 1 ∷ number 6 0 ∷ []) [] a
      (constant 4 1 ∷ constant 6 0 ∷ []) refl refl
      (two [] _ _ _ _ (of_number [] 4 1) (of_number [] 6 0)))

  abbrev along : Change
  along = change (level (constant 3 1) 2 ∷ level built_quotient 3 ∷ []) (constant 7 2)

  not_plain : all_plain (indexes (along ∷ [])) ≡ false
  not_plain = ap (λ (x : Ker-F Ker). is_plain_op x.op && true)
      (out-roll-Ker (root 5 ker.Quotient (constant 4 1 ∷ constant 6 0 ∷ [])))

  -- what the operands' roots show: of the function, of the first index, which stays a literal, and of the second
  abbrev updated_along : Ker-F Ker → Ker-F Ker → Ker-F Ker → Ker
  updated_along f i j =
      let y : Ker-F Ker → Ker = λ x. at_root (record x { ty = a }) (ker.Bound 1) [] in
      let_of 1 (plain 1 ker.TupOf (declared 2 0 ∷ plain 1 ker.TupOf (constant 3 1 ∷ built_quotient ∷ []) ∷ []))
      (node 1 ker.Update (at_root f (ker.Item 1) (y f ∷ [])
      ∷ (if is_literal_op i.op then constant 3 1
      else at_root i (ker.Item 1) (at_root (record i { ty = a }) (ker.Item 2) (y i ∷ []) ∷ []))
      ∷ node 1 ker.Update (bound 1 2
      ∷ (if is_literal_op j.op then built_quotient
      else at_root (record j { ty = a }) (ker.Item 2) (at_root (record j { ty = a }) (ker.Item 2) (y j ∷ []) ∷ []))
      ∷ constant 7 2 ∷ []) (3 ∷ []) ∷ []) (2 ∷ []))

  path_change : Builds None []
      (roll-Expr
      (record {
        place = at 1;
        op = op.Except
            (2 ∷ []);
        args = name 2 0 ∷ number 3 1 ∷ quotient ∷ number 7 2 ∷ [];
        binds = old ∷ [];
      }))
      (let_of 1 (plain 1 ker.TupOf (declared 2 0 ∷ plain 1 ker.TupOf (constant 3 1 ∷ built_quotient ∷ []) ∷ []))
      (node 1 ker.Update (plain 2 (ker.Item 1) (bound 2 1 ∷ []) ∷ constant 3 1
      ∷ node 1 ker.Update
      (bound 1 2 ∷ plain 5 (ker.Item 2) (plain 5 (ker.Item 2) (bound 5 1 ∷ []) ∷ []) ∷ constant 7 2 ∷ [])
      (3 ∷ []) ∷ []) (2 ∷ [])))
  path_change =
      subst (Builds None []
      (roll-Expr (record {
        place = at 1;
        op = op.Except
            (2 ∷ []);
        args = name 2 0 ∷ number 3 1 ∷ quotient ∷ number 7 2 ∷ [];
        binds = old ∷ [];
      })))
      (λ i. updated_along (out-roll-Ker (root 2 (ker.Name 0 false) []) i)
      (out-roll-Ker (root 3 (ker.Const (value.Int (pos 1))) []) i)
      (out-roll-Ker (root 5 ker.Quotient (constant 4 1 ∷ constant 6 0 ∷ [])) i))
      (built None [] (at 1) (op.Except (2 ∷ [])) (name 2 0 ∷ number 3 1 ∷ quotient ∷ number 7 2 ∷ []) (old ∷ []) _
      (rows.except_let [] (at 1) (2 ∷ []) (name 2 0) (number 3 1 ∷ quotient ∷ number 7 2 ∷ []) old the_let a
      (declared 2 0) (along ∷ []) refl not_plain (of_name [] 2 0)
      (rows.one_change [] old 2 [] (number 3 1 ∷ quotient ∷ number 7 2 ∷ []) along []
      (rows.one_level [] old 1 (number 3 1) (quotient ∷ number 7 2 ∷ []) (level (constant 3 1) 2)
      (level built_quotient 3) [] (constant 7 2) (of_number [] 3 1)
      (rows.last_level [] old quotient (number 7 2) (level built_quotient 3) (constant 7 2) of_quotient
      (of_number _ 7 2)))
      (rows.no_changes [] old))))
