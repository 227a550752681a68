-- Environments of cells: what is bound besides, and growth.
use Rattle.std.proofs.Common.{◌≡◌, ℕ, zero, suc, ◌<◌, Bool, true, false, ◌&&◌, IsTrue, List, [], ◌∷◌, ◌++◌, map, zip, length, All, refl, sym, ◌∙◌, ap, ap₂, subst, arith, Option, Some, None}
use Rattle.std.specs.Prelude.{nat_eq, slice_get, option_and_then, if◌then◌else◌}
use Rattle.std.proofs.lemmas.List.Elements.{All-head, All-tail}
use Rattle.std.proofs.lemmas.Map.Text.{is_eq-slice_cmp}
use Rattle.tla_values.specs.declared.value.Value.{Value}
use Rattle.tla_meaning.specs.declared.job.State.{State}
use Rattle.tla_meaning.specs.Scopes.{Scope, bind, bound_to, find_last, or_else, same_text}
use Rattle.tla_meaning.proofs.Laws.{find-append}
use Rattle.cell_arena.specs.declared.build.Build.{Build}
use Rattle.cell_arena.specs.declared.kinds.CellId.{CellId}
use Rattle.cell_arena.specs.Cells.{Cells as Arena}
use Rattle.cell_arena.specs.Decode.{decode}
use Rattle.cell_arena.specs.Growth.{Grows}
use Rattle.cell_arena.proofs.Growing.{Satisfies-before, decode-before}
use Rattle.kernel_trees.specs.declared.kernel.Ker.{Ker}
use Rattle.kernel_trees.specs.Trees.{ker_val, names_of, number_name}
use Rattle.kernel_ranges.specs.Ranges.{is_within}
use Rattle.outcome_cells.specs.declared.cells.Cells.{Cells}
use Rattle.outcome_cells.specs.Shows.{Shows}
use Rattle.outcome_cells.proofs.Later.{Shows-later, width-later}
use Rattle.expr_rewriter.specs.declared.cell_env.CellEnv.{CellEnv}
use Rattle.expr_rewriter.specs.Environments.{AreThere, Fits, IsThere, bound_cell, next_cell}
use Rattle.expr_rewriter.specs.Rewriting.{Rewrites}
use Rattle.expr_rewriter.specs.inner.Settings.{with_bound}

-- ---- the last entry of two lists

or_none : {X : Type 0} (o : Option X) → or_else o None ≡ o
or_none None = refl
or_none (Some x) = refl

or_assoc : {X : Type 0} (a b c : Option X) → or_else (or_else a b) c ≡ or_else a (or_else b c)
or_assoc None b c = refl
or_assoc (Some x) b c = refl

pub bound_append : (es fs : List (ℕ × CellId)) (n : ℕ) → bound_cell (es ++ fs) n ≡ or_else (bound_cell fs n) (bound_cell es n)
bound_append [] fs n = sym (or_none (bound_cell fs n))
bound_append (e ∷ es) fs n =
    ap (λ (o : Option CellId). or_else o (if nat_eq n e.0 then Some e.1 else None)) (bound_append es fs n)
    ∙ or_assoc (bound_cell fs n) (bound_cell es n) (if nat_eq n e.0 then Some e.1 else None)

and_true : (b : Bool) → (b && true) ≡ b
and_true true = refl
and_true false = refl

-- names of numbers are one text where the numbers are one
pub one_number : (m n : ℕ) → same_text (number_name m) (number_name n) ≡ nat_eq m n
one_number m n = is_eq-slice_cmp (number_name m) (number_name n) ∙ and_true (nat_eq m n)

-- ---- more bound numbers

-- the entry of each number is the value of its cell
module _ (c : Arena) (a : List Bool) where
  abbrev pub value_of : Option CellId → Option Value
  value_of None = None
  value_of (Some id) = Some (decode c a id)

  or_values : (o q : Option CellId) → value_of (or_else o q) ≡ or_else (value_of o) (value_of q)
  or_values None q = refl
  or_values (Some id) q = refl

  one_value : (b : Bool) (id : CellId) → value_of (if b then Some id else None) ≡ (if b then Some (decode c a id) else None)
  one_value true id = refl
  one_value false id = refl

  pub bound_values : (xs : List ℕ) (ids : List CellId) (n : ℕ) → length xs ≡ length ids →
      find_last (number_name n) (bound_to (names_of xs) (map (decode c a) ids)) ≡ value_of (bound_cell (zip xs ids) n)
  bound_values [] ids n h = refl
  bound_values (x ∷ xs) [] n h = absurd (cc)
  bound_values (x ∷ xs) (id ∷ ids) n h =
      ap₂ (λ (o : Option Value) (b : Bool). or_else o (if b then Some (decode c a id) else None)) (bound_values xs ids n (omega arith)) (one_number n x)
      ∙ ap (λ (o : Option Value). or_else (value_of (bound_cell (zip xs ids) n)) o) (sym (one_value (nat_eq n x) id))
      ∙ sym (or_values (bound_cell (zip xs ids) n) (if nat_eq n x then Some id else None))

  split_or : (o q : Option CellId) (r : Option Value) (id : CellId) → or_else o q ≡ Some id → (q ≡ Some id → r ≡ Some (decode c a id)) →
      or_else (value_of o) r ≡ Some (decode c a id)
  split_or None q r id e h = h e
  split_or (Some x) q r id e h = ap value_of e

  -- names have their values in the scope in which these numbers have those of the cells
  pub fits_bound : (env : CellEnv) (sc : Scope) (s t : State) (xs : List ℕ) (ids : List CellId) → length xs ≡ length ids →
      Fits c a env sc s t → Fits c a (with_bound env xs ids) (bind (names_of xs) (map (decode c a) ids) sc) s t
  fits_bound env sc s t xs ids h f = record {
    current = f.current;
    following = f.following;
    rest = f.rest;
    bound = λ n id e.
        find-append (number_name n) sc.bound (bound_to (names_of xs) (map (decode c a) ids))
        ∙ ap (λ (o : Option Value). or_else o (find_last (number_name n) sc.bound)) (bound_values xs ids n h)
        ∙ split_or (bound_cell (zip xs ids) n) (bound_cell env.bound n) (find_last (number_name n) sc.bound) id
        (sym (bound_append env.bound (zip xs ids) n) ∙ e) (λ q. f.bound n id q);
  }

-- ---- growth

some_one : {X : Type 0} (x y : X) → Some x ≡ Some y → x ≡ y
some_one x y e = cc

all_at : {X : Type 0} (P : X → Type 0) (xs : List X) (i : ℕ) (x : X) → All P xs → slice_get xs i ≡ Some x → P x
all_at P [] i x h e = absurd (cc)
all_at P (y ∷ ys) zero x h e = subst P (some_one y x e) (All-head P y ys h)
all_at P (y ∷ ys) (suc i) x h e = all_at P ys i x (All-tail P y ys h) e

next_there : (n : ℕ) (env : CellEnv) (i : ℕ) (id : CellId) → AreThere n env → next_cell env i ≡ Some id → id.index < n
next_there n env i id h e = by (slice_get env.next i) refl e
  where
    by : (o : Option (Option CellId)) → slice_get env.next i ≡ o → option_and_then (λ o. o) o ≡ Some id → id.index < n
    by None q e = absurd (cc)
    by (Some None) q e = absurd (cc)
    by (Some (Some x)) q e = subst (λ (y : CellId). y.index < n) (some_one x id e) (all_at (IsThere n) env.next i (Some x) h.following q)

bound_there : (n : ℕ) (es : List (ℕ × CellId)) (m : ℕ) (id : CellId) → All (λ e. e.1.index < n) es → bound_cell es m ≡ Some id → id.index < n
bound_there n [] m id h e = absurd (cc)
bound_there n (x ∷ xs) m id h e =
    by (bound_cell xs m) (nat_eq m x.0) e (λ q. bound_there n xs m id (All-tail (λ (e : ℕ × CellId). e.1.index < n) x xs h) q)
  where
    by : (o : Option CellId) (b : Bool) → or_else o (if b then Some x.1 else None) ≡ Some id → (o ≡ Some id → id.index < n) → id.index < n
    by (Some y) b e k = k e
    by None true e k = subst (λ (y : CellId). y.index < n) (some_one x.1 id e) (All-head (λ (e : ℕ × CellId). e.1.index < n) x xs h)
    by None false e k = absurd (cc)

-- what fits the newer cells fits the older ones
pub Fits-before : (b c : Build) (a : List Bool) (env : CellEnv) (sc : Scope) (s t : State) → Grows b c →
    AreThere (length b.arena.kinds) env → Fits c.arena a env sc s t → Fits b.arena a env sc s t
Fits-before b c a env sc s t g h f = record {
  current = λ i id e.
      f.current i id e
      ∙ ap Some (decode-before b c a id g (all_at (λ (y : CellId). y.index < length b.arena.kinds) env.now i id h.current e));
  following = λ i id e. f.following i id e ∙ ap Some (decode-before b c a id g (next_there (length b.arena.kinds) env i id h e));
  rest = f.rest;
  bound = λ n id e. f.bound n id e ∙ ap Some (decode-before b c a id g (bound_there (length b.arena.kinds) env.bound n id h.bound e));
}

pub Rewrites-later : (b c : Build) (k : Ker) (env : CellEnv) (x : Cells) → Grows b c → AreThere (length b.arena.kinds) env →
    x.cell.index < length b.arena.kinds → Rewrites b k env x → Rewrites c k env x
Rewrites-later b c k env x g h lt r = record {
  shows = λ a s sc now next f i.
      let e : c.arena.width ≡ b.arena.width = width-later b c g in
      subst (λ w. Shows c.arena a x (ker_val (Some w) k sc now next)) (sym e)
      (Shows-later b c a x (ker_val (Some b.arena.width) k sc now next) g lt
      (r.shows a (Satisfies-before b c a g s) sc now next (Fits-before b c a env sc now next g h f)
      (subst (λ w. IsTrue (is_within (Some w) k sc now next)) e i)));
}
