-- The tree that is made of the operands of an EXCEPT is the one of its row.
use Rattle.std.proofs.Common.{◌≡◌, ℕ, suc, Bool, true, false, not, ◌&&◌, true≢false, List, [], ◌∷◌, ◌++◌, map, length, drop, fold, Option, Some, None, unwrap_or, option_map, option_and_then, refl, sym, ◌∙◌, ap, subst, append_assoc, if◌then◌else◌}
use Rattle.std.specs.Prelude.{nat_eq}
use Rattle.std.specs.List.{list_all}
use Rattle.std.proofs.lemmas.List.{append-nil, map-append}
use Rattle.std.proofs.Math.Seq.{take-append_seam, drop-append_seam}
use Rattle.tla_values.specs.declared.value.Value.TheOpen as layer
use Rattle.tla_meaning.specs.declared.place.Place.{Place}
use Rattle.snowcat_rows.specs.declared.types.Ty.{Ty, out-Ty}
use Rattle.kernel_trees.specs.declared.kernel.Ker.{Ker, out-roll-Ker}
use Rattle.kernel_trees.specs.declared.kernel.Ker.TheOpen.{Ker-F}
use Rattle.kernel_trees.specs.declared.kernel.KerOp.{KerOp}
use Rattle.kernel_trees.specs.declared.kernel.KerOp.TheVariants as ker
use Rattle.kernel_trees.specs.Sound.{literal_of}
use Rattle.kera_reducer.specs.declared.excepts.Opened.{Opened}
use Rattle.kera_reducer.specs.declared.excepts.Begun.{Begun}
use Rattle.kernel_reduction.specs.Making.{pair_type, let_of, part_at, part_type, Leads, AllLead, pairs_type, RestsTyped}
use Rattle.kernel_reduction.specs.Rows.{tree, bound, item, pair, pairs, place_of, type_of, op_at, is_literal, is_literal_op, is_nil, Let, Level, Change, changed_at, changed, indexes, all_levels, all_plain, behind, read_levels, read_changes, except_by_let, let_in}
use Rattle.kera_reducer.specs.inner.Excepts.{operands_of, AreNumbered, AllNumbered, IsExcept, IsExceptOf, are_paths, except_tree, Path, IsSplit, woven, all_indexes, paths_of, closed, start, begun, begun_all, changed_path, changed_by, paired, nested_type, rest_types, read_operand, read_index, reads}

none≢some : {X : Type 0} {x : X} → None ≡ Some x → ⊥
none≢some e = cc

some_is : {X : Type 0} {x y : X} → Some x ≡ Some y → x ≡ y
some_is e = cc

-- ---- paths

paths_back : (xs : List Path) → paths_of (map (λ x. length x.0) xs) (all_indexes xs) (map (λ x. x.1) xs) ≡ xs
paths_back [] = refl
paths_back (x ∷ xs) =
    ap (λ (ks : List Ker). (ks, x.1)
    ∷ paths_of (map (λ x. length x.0) xs) (drop (length x.0) (x.0 ++ all_indexes xs)) (map (λ x. x.1) xs))
    (take-append_seam x.0 (all_indexes xs))
    ∙ ap (λ (ks : List Ker). x ∷ paths_of (map (λ x. length x.0) xs) ks (map (λ x. x.1) xs))
    (drop-append_seam x.0 (all_indexes xs))
    ∙ ap (λ (ys : List Path). x ∷ ys) (paths_back xs)

-- ---- the updates of the row

-- what stands at an index of a value of a type
abbrev part : Ty → Ker → Ty
part t k = unwrap_or (part_type t (op_at k)) t

abbrev levels_at : Ty → ℕ → List Ker → List Ker → List Level
levels_at t n [] later = []
levels_at t n (k ∷ ks) later =
    record { index = k; number = n; inner = part t k; rest = nested_type k (ks ++ later) }
    ∷ levels_at (part t k) (suc n) ks later

abbrev changes_at : Ty → ℕ → List Path → List Change
changes_at t n [] = []
changes_at t n (x ∷ xs) = record { levels = levels_at t n x.0 (all_indexes xs); right = x.1 } ∷ changes_at t n xs

-- ---- an update that is made along its indexes

abbrev Found : Ty → List Ker → Type 0
Found t [] = Unit {0}
Found t (k ∷ ks) = (part_type t (op_at k) ≡ Some (part t k)) × Found (part t k) ks

abbrev opened : Place → Ty → ℕ → Ker → List Ker → List Opened
opened p t n f [] = []
opened p t n f (k ∷ ks) =
    record { ty = t; function = f; index = k; number = n } ∷ opened p (part t k) (suc n) (bound p (part t k) n) ks

none_begun : (p : Place) (ks : List Ker) → fold (λ o k. option_and_then (λ c. begun p c k) o) None ks ≡ None
none_begun p [] = refl
none_begun p (k ∷ ks) = none_begun p ks

abbrev Opens : Place → Begun → List Ker → Begun → Type 0
Opens p b ks c = Found b.ty ks × (c.outer ≡ b.outer ++ opened p b.ty b.number b.function ks)

all_opened : (p : Place) (b : Begun) (ks : List Ker) (c : Begun) → begun_all p b ks ≡ Some c → Opens p b ks c
all_opened p b [] c h = (tt, sym (ap (λ (d : Begun). d.outer) (some_is h)) ∙ sym (append-nil b.outer))
all_opened p b (k ∷ ks) c h = by (λ d r. all_opened p d ks c r) (part_type b.ty (op_at k)) refl
  where
    next : Ty → Begun
    next t = record {
      outer = b.outer ++ record { ty = b.ty; function = b.function; index = k; number = b.number } ∷ [];
      ty = t;
      function = bound p t b.number;
      number = suc b.number;
    }

    by : ((d : Begun) → begun_all p d ks ≡ Some c → Opens p d ks c) → (o : Option Ty) → part_type b.ty (op_at k) ≡ o →
        Opens p b (k ∷ ks) c
    by again None q = absurd (none≢some
        (sym (none_begun p ks)
        ∙ ap (λ o. fold (λ o k. option_and_then (λ c. begun p c k) o) (option_map (λ t. next t) o) ks) (sym q) ∙ h))
    by again (Some t) q =
        let e : t ≡ part b.ty k = ap (λ o. unwrap_or o b.ty) (sym q) in
        let x : Opened = record { ty = b.ty; function = b.function; index = k; number = b.number } in
        let all = subst
        (λ (z : Ty). Found z ks
        × (c.outer ≡ (b.outer ++ x ∷ []) ++ opened p z (suc b.number) (bound p z b.number) ks)) e
        (again (next t)
        (ap (λ o. fold (λ o k. option_and_then (λ c. begun p c k) o) (option_map (λ t. next t) o) ks) (sym q) ∙ h)) in (
          (q ∙ ap Some e, all.0),
          all.1
              ∙ append_assoc b.outer (x ∷ [])
              (opened p (part b.ty k) (suc b.number) (bound p (part b.ty k) b.number) ks),
        )

-- ---- levels that have these indexes

abbrev Along : Ty → ℕ → List Ker → List Level → Type 0
Along t n [] [] = Unit {0}
Along t n [] (l ∷ ls) = ⊥
Along t n (k ∷ ks) [] = ⊥
Along t n (k ∷ ks) (l ∷ ls) = (l.index ≡ k) × (l.number ≡ n) × (l.inner ≡ part t k) × Along (part t k) (suc n) ks ls

abbrev AllAlong : Ty → ℕ → List Path → List Change → Type 0
AllAlong t n [] [] = Unit {0}
AllAlong t n [] (u ∷ us) = ⊥
AllAlong t n (x ∷ xs) [] = ⊥
AllAlong t n (x ∷ xs) (u ∷ us) =
    (is_nil x.0 ≡ false) × Along t n x.0 u.levels × (u.right ≡ x.1) × AllAlong t n xs us

closed_is : (p : Place) (t : Ty) (n : ℕ) (f k : Ker) (ks : List Ker) (ls : List Level) (e : Ker) →
    Along t n (k ∷ ks) ls → closed p (opened p t n f (k ∷ ks)) e ≡ changed_at p t f ls e
closed_is p t n f k ks [] e h = absurd h
closed_is p t n f k [] (l ∷ []) e h =
    ap (λ z. tree p t ker.Update (f ∷ z ∷ e ∷ []) (n ∷ [])) (sym h.0)
    ∙ ap (λ z. tree p t ker.Update (f ∷ l.index ∷ e ∷ []) (z ∷ [])) (sym h.1)
closed_is p t n f k [] (l ∷ m ∷ ls) e h = absurd h.3
closed_is p t n f k (j ∷ ks) (l ∷ []) e h = absurd h.3
closed_is p t n f k (j ∷ ks) (l ∷ m ∷ ls) e h =
    ap (λ z. tree p t ker.Update (f ∷ k ∷ z ∷ []) (n ∷ []))
    (closed_is p (part t k) (suc n) (bound p (part t k) n) j ks (m ∷ ls) e h.3)
    ∙ ap (λ z. tree p t ker.Update (f ∷ k ∷ changed_at p z (bound p z n) (m ∷ ls) e ∷ []) (n ∷ [])) (sym h.2)
    ∙ ap (λ z. tree p t ker.Update (f ∷ k ∷ changed_at p l.inner (bound p l.inner z) (m ∷ ls) e ∷ []) (z ∷ []))
    (sym h.1)
    ∙ ap (λ z. tree p t ker.Update
    (f ∷ z ∷ changed_at p l.inner (bound p l.inner l.number) (m ∷ ls) e ∷ []) (l.number ∷ [])) (sym h.0)

abbrev AllFound : Ty → List Path → Type 0
AllFound t [] = Unit {0}
AllFound t (x ∷ xs) = Found t x.0 × AllFound t xs

path_is : (p : Place) (t : Ty) (n : ℕ) (f : Ker) (x : Path) (ls : List Level) (g : Ker) →
    is_nil x.0 ≡ false → Along t n x.0 ls → changed_path p t n f x ≡ Some g →
    Found t x.0 × (g ≡ changed_at p t f ls x.1)
path_is p t n f ([], e) ls g z a h = absurd (true≢false z)
path_is p t n f (k ∷ ks, e) ls g z a h = by (begun_all p (start t n f) (k ∷ ks)) refl
  where
    by : (o : Option Begun) → begun_all p (start t n f) (k ∷ ks) ≡ o →
        Found t (k ∷ ks) × (g ≡ changed_at p t f ls e)
    by None q = absurd (none≢some (ap (λ o. option_map (λ b. closed p b.outer e) o) (sym q) ∙ h))
    by (Some b) q =
        let all = all_opened p (start t n f) (k ∷ ks) b q in (
          all.0,
          sym (some_is (ap (λ o. option_map (λ b. closed p b.outer e) o) (sym q) ∙ h))
              ∙ ap (λ os. closed p os e) all.1
              ∙ closed_is p t n f k ks ls e a,
        )

changes_are : (p : Place) (t : Ty) (n : ℕ) (f : Ker) (xs : List Path) (us : List Change) (k : Ker) →
    AllAlong t n xs us → changed_by p t n f xs ≡ Some k → AllFound t xs × (k ≡ changed p t f us)
changes_are p t n f [] [] k a h = (tt, sym (some_is h))
changes_are p t n f [] (u ∷ us) k a h = absurd a
changes_are p t n f (x ∷ xs) [] k a h = absurd a
changes_are p t n f (x ∷ xs) (u ∷ us) k a h =
    by (λ g r. changes_are p t n g xs us k a.3 r) (changed_path p t n f x) refl
  where
    by : ((g : Ker) → changed_by p t n g xs ≡ Some k → AllFound t xs × (k ≡ changed p t g us)) → (o : Option Ker) →
        changed_path p t n f x ≡ o → AllFound t (x ∷ xs) × (k ≡ changed p t f (u ∷ us))
    by again None q = absurd (none≢some (ap (λ o. option_and_then (λ g. changed_by p t n g xs) o) (sym q) ∙ h))
    by again (Some g) q =
        let one = path_is p t n f x u.levels g a.0 a.1 q in
        let all = again g
        (ap (λ o. option_and_then (λ g. changed_by p t n g xs) o) (sym q) ∙ h) in (
          (one.0, all.0),
          all.1
              ∙ ap (λ z. changed p t z us) one.1
              ∙ ap (λ z. changed p t (changed_at p t f u.levels z) us) (sym a.2),
        )

-- ---- the updates of the row, as they are without a LET

levels_along : (t : Ty) (n : ℕ) (ks later : List Ker) → Along t n ks (levels_at t n ks later)
levels_along t n [] later = tt
levels_along t n (k ∷ ks) later = (refl, refl, refl, levels_along (part t k) (suc n) ks later)

abbrev AllSome : List Path → Type 0
AllSome [] = Unit {0}
AllSome (x ∷ xs) = (is_nil x.0 ≡ false) × AllSome xs

changes_along : (t : Ty) (n : ℕ) (xs : List Path) → AllSome xs → AllAlong t n xs (changes_at t n xs)
changes_along t n [] h = tt
changes_along t n (x ∷ xs) h = (h.0, levels_along t n x.0 (all_indexes xs), refl, changes_along t n xs h.1)

index_list : (t : Ty) (n : ℕ) (ks later : List Ker) → map (λ l. l.index) (levels_at t n ks later) ≡ ks
index_list t n [] later = refl
index_list t n (k ∷ ks) later = ap (λ z. k ∷ z) (index_list (part t k) (suc n) ks later)

operand_list : (t : Ty) (n : ℕ) (xs : List Path) → operands_of (changes_at t n xs) ≡ woven xs
operand_list t n [] = refl
operand_list t n (x ∷ xs) =
    ap (λ z. (z ++ x.1 ∷ []) ++ operands_of (changes_at t n xs)) (index_list t n x.0 (all_indexes xs))
    ∙ ap (λ z. (x.0 ++ x.1 ∷ []) ++ z) (operand_list t n xs)

all_index_list : (t : Ty) (n : ℕ) (xs : List Path) → indexes (changes_at t n xs) ≡ all_indexes xs
all_index_list t n [] = refl
all_index_list t n (x ∷ xs) =
    map-append (λ l. l.index) (levels_at t n x.0 (all_indexes xs)) (all_levels (changes_at t n xs))
    ∙ ap (λ z. z ++ indexes (changes_at t n xs)) (index_list t n x.0 (all_indexes xs))
    ∙ ap (λ z. x.0 ++ z) (all_index_list t n xs)

level_count : (t : Ty) (n : ℕ) (ks later : List Ker) → length (levels_at t n ks later) ≡ length ks
level_count t n [] later = refl
level_count t n (k ∷ ks) later = ap suc (level_count (part t k) (suc n) ks later)

level_counts : (t : Ty) (n : ℕ) (xs : List Path) →
    map (λ u. length u.levels) (changes_at t n xs) ≡ map (λ x. length x.0) xs
level_counts t n [] = refl
level_counts t n (x ∷ xs) =
    ap (λ z. z ∷ map (λ u. length u.levels) (changes_at t n xs)) (level_count t n x.0 (all_indexes xs))
    ∙ ap (λ z. length x.0 ∷ z) (level_counts t n xs)

levels_numbered : (t : Ty) (n : ℕ) (ks later : List Ker) → AreNumbered n (levels_at t n ks later)
levels_numbered t n [] later = tt
levels_numbered t n (k ∷ ks) later = (refl, levels_numbered (part t k) (suc n) ks later)

all_numbered : (t : Ty) (n : ℕ) (xs : List Path) → AllNumbered n (changes_at t n xs)
all_numbered t n [] = tt
all_numbered t n (x ∷ xs) = (levels_numbered t n x.0 (all_indexes xs), all_numbered t n xs)

levels_lead : (t : Ty) (n : ℕ) (ks later : List Ker) → Found t ks → Leads t (levels_at t n ks later)
levels_lead t n [] later h = tt
levels_lead t n (k ∷ ks) later h = (h.0, levels_lead (part t k) (suc n) ks later h.1)

all_lead : (t : Ty) (n : ℕ) (xs : List Path) → AllFound t xs → AllLead t (changes_at t n xs)
all_lead t n [] h = tt
all_lead t n (x ∷ xs) h = (levels_lead t n x.0 (all_indexes xs) h.0, all_lead t n xs h.1)

-- ---- pairs

nested_is : (k : Ker) (ls : List Level) → nested_type k (map (λ l. l.index) ls) ≡ pairs_type k ls
nested_is k [] = refl
nested_is k (l ∷ ls) = ap (pair_type (type_of k)) (nested_is l.index ls)

rests_typed : (t : Ty) (n : ℕ) (ks later : List Ker) (ls : List Level) → map (λ l. l.index) ls ≡ later →
    RestsTyped ls → RestsTyped (levels_at t n ks later ++ ls)
rests_typed t n [] later ls e h = h
rests_typed t n (k ∷ ks) later ls e h = (
  ap (nested_type k)
      (ap (λ z. ks ++ z) (sym e)
      ∙ ap (λ z. z ++ map (λ l. l.index) ls) (sym (index_list (part t k) (suc n) ks later))
      ∙ sym (map-append (λ l. l.index) (levels_at (part t k) (suc n) ks later) ls))
      ∙ nested_is k (levels_at (part t k) (suc n) ks later ++ ls),
  rests_typed (part t k) (suc n) ks later ls e h,
)

all_rests : (t : Ty) (n : ℕ) (xs : List Path) → RestsTyped (all_levels (changes_at t n xs))
all_rests t n [] = tt
all_rests t n (x ∷ xs) =
    rests_typed t n x.0 (all_indexes xs) (all_levels (changes_at t n xs)) (all_index_list t n xs) (all_rests t n xs)

paired_type : (p : Place) (k : Ker) (ks : List Ker) → type_of (paired p k ks) ≡ nested_type k ks
paired_type p k [] = refl
paired_type p k (l ∷ ls) =
    ap (λ (x : Ker-F Ker). x.ty)
    (out-roll-Ker
    (record {
      place = p;
      ty = pair_type (type_of k) (type_of (paired p l ls));
      op = ker.TupOf;
      args = k ∷ paired p l ls ∷ [];
      binds = [];
    }))
    ∙ ap (pair_type (type_of k)) (paired_type p l ls)

pairs_are : (p : Place) (k : Ker) (ls : List Level) → RestsTyped ls →
    pairs p (pairs_type k ls) k ls ≡ paired p k (map (λ l. l.index) ls)
pairs_are p k [] h = refl
pairs_are p k (l ∷ ls) h =
    ap (λ t. pair p (pair_type (type_of k) (pairs_type l.index ls)) k (pairs p t l.index ls)) h.0
    ∙ ap (λ z. pair p (pair_type (type_of k) (pairs_type l.index ls)) k z) (pairs_are p l.index ls h.1)
    ∙ ap (λ t. pair p (pair_type (type_of k) t) k (paired p l.index (map (λ l. l.index) ls)))
    (sym (paired_type p l.index (map (λ l. l.index) ls) ∙ nested_is l.index ls))

-- ---- an index that is read is the literal that it was, or none as before

no_literal : (o : KerOp) → is_literal_op o ≡ false → literal_of o ≡ layer.Bool false
no_literal (ker.Const v) h = absurd (true≢false h)
no_literal o h = refl

root_of : (q : Place) (a : Ty) (o : KerOp) (ks : List Ker) → literal_of (op_at (tree q a o ks [])) ≡ literal_of o
root_of q a o ks =
    ap (λ (x : Ker-F Ker). literal_of x.op)
    (out-roll-Ker (record { place = q; ty = a; op = o; args = ks; binds = [] }))

behind_root : (q : Place) (y : Ker) (rs : List Ty) → literal_of (op_at y) ≡ layer.Bool false →
    literal_of (op_at (behind q y rs)) ≡ layer.Bool false
behind_root q y [] h = h
behind_root q y (r ∷ rs) h = behind_root q (item q r 2 y) rs (root_of q r (ker.Item 2) (y ∷ []))

operand_root : (n : ℕ) (t : Ty) (rs : List Ty) (last : Bool) (k : Ker) →
    literal_of (op_at (read_operand n t rs last k)) ≡ layer.Bool false
operand_root n t rs true k =
    behind_root (place_of k) (bound (place_of k) t n) rs (root_of (place_of k) t (ker.Bound n) [])
operand_root n t rs false k =
    root_of (place_of k) (type_of k) (ker.Item 1) (behind (place_of k) (bound (place_of k) t n) rs ∷ [])

index_root : (n : ℕ) (t : Ty) (rs : List Ty) (last : Bool) (k : Ker) →
    literal_of (op_at (read_index n t rs last k)) ≡ literal_of (op_at k)
index_root n t rs last k = by (is_literal k) refl
  where
    by : (b : Bool) → is_literal k ≡ b →
        literal_of (op_at (if b then k else read_operand n t rs last k)) ≡ literal_of (op_at k)
    by true y = refl
    by false y = operand_root n t rs last k ∙ sym (no_literal (op_at k) y)

same_part_type : (n : ℕ) (t a : Ty) (rs : List Ty) (last : Bool) (k : Ker) →
    part_type a (op_at (read_index n t rs last k)) ≡ part_type a (op_at k)
same_part_type n t a rs last k = ap (part_at (out-Ty a)) (index_root n t rs last k)

same_part : (n : ℕ) (t a : Ty) (rs : List Ty) (last : Bool) (k : Ker) → part a (read_index n t rs last k) ≡ part a k
same_part n t a rs last k = ap (λ o. unwrap_or o a) (same_part_type n t a rs last k)

-- ---- paths whose indexes are read

abbrev reads_in : ℕ → Ty → List Ty → List Ker → List Ker → List Ker
reads_in n t before [] later = []
reads_in n t before (k ∷ ks) later =
    let here : List Ty = before ++ nested_type k (ks ++ later) ∷ [] in
    read_index n t here (is_nil (ks ++ later)) k ∷ reads_in n t here ks later

abbrev rests_in : List Ker → List Ker → List Ty
rests_in [] later = []
rests_in (k ∷ ks) later = nested_type k (ks ++ later) ∷ rests_in ks later

abbrev read_paths : ℕ → Ty → List Ty → List Path → List Path
read_paths n t before [] = []
read_paths n t before (x ∷ xs) =
    (reads_in n t before x.0 (all_indexes xs), x.1) ∷ read_paths n t (before ++ rests_in x.0 (all_indexes xs)) xs

reads_split : (n : ℕ) (t : Ty) (before : List Ty) (ks later : List Ker) →
    reads n t before (rest_types (ks ++ later)) (ks ++ later)
    ≡ reads_in n t before ks later ++ reads n t (before ++ rests_in ks later) (rest_types later) later
reads_split n t before [] later = ap (λ z. reads n t z (rest_types later) later) (sym (append-nil before))
reads_split n t before (k ∷ ks) later =
    let r : Ty = nested_type k (ks ++ later) in
    let here : List Ty = before ++ r ∷ [] in
    ap (λ z. read_index n t here (is_nil (ks ++ later)) k ∷ z)
    (reads_split n t here ks later
    ∙ ap (λ z. reads_in n t here ks later ++ reads n t z (rest_types later) later)
    (append_assoc before (r ∷ []) (rests_in ks later)))

reads_all : (n : ℕ) (t : Ty) (before : List Ty) (xs : List Path) →
    reads n t before (rest_types (all_indexes xs)) (all_indexes xs) ≡ all_indexes (read_paths n t before xs)
reads_all n t before [] = refl
reads_all n t before (x ∷ xs) =
    reads_split n t before x.0 (all_indexes xs)
    ∙ ap (λ z. reads_in n t before x.0 (all_indexes xs) ++ z)
    (reads_all n t (before ++ rests_in x.0 (all_indexes xs)) xs)

read_count : (n : ℕ) (t : Ty) (before : List Ty) (ks later : List Ker) →
    length (reads_in n t before ks later) ≡ length ks
read_count n t before [] later = refl
read_count n t before (k ∷ ks) later =
    ap suc (read_count n t (before ++ nested_type k (ks ++ later) ∷ []) ks later)

read_counts : (n : ℕ) (t : Ty) (before : List Ty) (xs : List Path) →
    map (λ x. length x.0) (read_paths n t before xs) ≡ map (λ x. length x.0) xs
read_counts n t before [] = refl
read_counts n t before (x ∷ xs) =
    ap (λ z. z ∷ map (λ x. length x.0) (read_paths n t (before ++ rests_in x.0 (all_indexes xs)) xs))
    (read_count n t before x.0 (all_indexes xs))
    ∙ ap (λ z. length x.0 ∷ z) (read_counts n t (before ++ rests_in x.0 (all_indexes xs)) xs)

read_rights : (n : ℕ) (t : Ty) (before : List Ty) (xs : List Path) →
    map (λ x. x.1) (read_paths n t before xs) ≡ map (λ x. x.1) xs
read_rights n t before [] = refl
read_rights n t before (x ∷ xs) =
    ap (λ z. x.1 ∷ z) (read_rights n t (before ++ rests_in x.0 (all_indexes xs)) xs)

read_paths_of : (n : ℕ) (t : Ty) (xs : List Path) →
    paths_of (map (λ x. length x.0) xs) (reads n t [] (rest_types (all_indexes xs)) (all_indexes xs))
    (map (λ x. x.1) xs)
    ≡ read_paths n t [] xs
read_paths_of n t xs =
    ap (λ z. paths_of (map (λ x. length x.0) xs) z (map (λ x. x.1) xs)) (reads_all n t [] xs)
    ∙ ap (λ z. paths_of z (all_indexes (read_paths n t [] xs)) (map (λ x. x.1) xs)) (sym (read_counts n t [] xs))
    ∙ ap (λ z. paths_of (map (λ x. length x.0) (read_paths n t [] xs)) (all_indexes (read_paths n t [] xs)) z)
    (sym (read_rights n t [] xs))
    ∙ paths_back (read_paths n t [] xs)

-- ---- the levels of the row, reading their indexes

not_twice : (b : Bool) → not (not b) ≡ b
not_twice true = refl
not_twice false = refl

nil_levels : (a : Ty) (m : ℕ) (ks later : List Ker) → is_nil (levels_at a m ks later) ≡ is_nil ks
nil_levels a m [] later = refl
nil_levels a m (k ∷ ks) later = refl

nil_behind : (ks later : List Ker) (more : Bool) → more ≡ not (is_nil later) →
    (is_nil ks && not more) ≡ is_nil (ks ++ later)
nil_behind [] later more h = ap not h ∙ not_twice (is_nil later)
nil_behind (k ∷ ks) later more h = refl

read_along : (n : ℕ) (t : Ty) (b : Ty) (u : ℕ) (a : Ty) (m : ℕ) (before : List Ty) (more : Bool)
    (ks later : List Ker) → more ≡ not (is_nil later) →
    Along a m (reads_in n t before ks later) (read_levels (let_of b t u n) t before more (levels_at a m ks later))
read_along n t b u a m before more [] later h = tt
read_along n t b u a m before more (k ∷ ks) later h =
    let here : List Ty = before ++ nested_type k (ks ++ later) ∷ [] in
    let same = sym (same_part n t a here (is_nil (ks ++ later)) k) in (
      ap (λ c. read_index n t here c k)
          (ap (λ c. c && not more) (nil_levels (part a k) (suc m) ks later) ∙ nil_behind ks later more h),
      refl,
      same,
      subst
          (λ (z : Ty). Along z (suc m) (reads_in n t here ks later)
          (read_levels (let_of b t u n) t here more (levels_at (part a k) (suc m) ks later))) same
          (read_along n t b u (part a k) (suc m) here more ks later h),
    )

rest_list : (a : Ty) (m : ℕ) (ks later : List Ker) → map (λ l. l.rest) (levels_at a m ks later) ≡ rests_in ks later
rest_list a m [] later = refl
rest_list a m (k ∷ ks) later = ap (λ z. nested_type k (ks ++ later) ∷ z) (rest_list (part a k) (suc m) ks later)

nil_changes : (a : Ty) (m : ℕ) (xs : List Path) → AllSome xs → is_nil (changes_at a m xs) ≡ is_nil (all_indexes xs)
nil_changes a m [] h = refl
nil_changes a m ((k ∷ ks, e) ∷ xs) h = refl
nil_changes a m (([], e) ∷ xs) h = absurd (true≢false h.0)

nil_reads : (n : ℕ) (t : Ty) (before : List Ty) (ks later : List Ker) →
    is_nil (reads_in n t before ks later) ≡ is_nil ks
nil_reads n t before [] later = refl
nil_reads n t before (k ∷ ks) later = refl

all_read_along : (n : ℕ) (t b : Ty) (u : ℕ) (a : Ty) (m : ℕ) (before : List Ty) (xs : List Path) → AllSome xs →
    AllAlong a m (read_paths n t before xs) (read_changes (let_of b t u n) t before (changes_at a m xs))
all_read_along n t b u a m before [] h = tt
all_read_along n t b u a m before (x ∷ xs) h =
    let later : List Ker = all_indexes xs in
    let rs : List Ty = rests_in x.0 later in (
      nil_reads n t before x.0 later ∙ h.0,
      read_along n t b u a m before (not (is_nil (changes_at a m xs))) x.0 later (ap not (nil_changes a m xs h.1)),
      refl,
      subst
          (λ (z : List Ty). AllAlong a m (read_paths n t (before ++ rs) xs)
          (read_changes (let_of b t u n) t (before ++ z) (changes_at a m xs))) (sym (rest_list a m x.0 later))
          (all_read_along n t b u a m (before ++ rs) xs h.1),
    )

found_before : (n : ℕ) (t a : Ty) (before : List Ty) (ks later : List Ker) → Found a (reads_in n t before ks later) →
    Found a ks
found_before n t a before [] later h = tt
found_before n t a before (k ∷ ks) later h =
    let here : List Ty = before ++ nested_type k (ks ++ later) ∷ [] in
    let last : Bool = is_nil (ks ++ later) in (
      sym (same_part_type n t a here last k) ∙ h.0 ∙ ap Some (same_part n t a here last k),
      found_before n t (part a k) here ks later
          (subst (λ (z : Ty). Found z (reads_in n t here ks later)) (same_part n t a here last k) h.1),
    )

all_found_before : (n : ℕ) (t a : Ty) (before : List Ty) (xs : List Path) → AllFound a (read_paths n t before xs) →
    AllFound a xs
all_found_before n t a before [] h = tt
all_found_before n t a before (x ∷ xs) h = (
  found_before n t a before x.0 (all_indexes xs) h.0,
  all_found_before n t a (before ++ rests_in x.0 (all_indexes xs)) xs h.1,
)

-- ---- the tree of the node

and_right : (a b : Bool) → (a && b) ≡ true → b ≡ true
and_right true b h = h
and_right false b h = absurd (true≢false (sym h))

some_paths : (xs : List Path) → list_all (λ c. not (nat_eq c 0)) (map (λ x. length x.0) xs) ≡ true → AllSome xs
some_paths [] h = tt
some_paths (([], e) ∷ xs) h = absurd (true≢false (sym h))
some_paths ((k ∷ ks, e) ∷ xs) h = (refl, some_paths xs (and_right _ _ h))

-- the function and its updates
except_parts : (t : Ty) (n : ℕ) (f : Ker) (xs : List Path) → AllFound t xs →
    IsExcept t (map (λ x. length x.0) xs) n (f ∷ woven xs) f (changes_at t (suc (suc n)) xs)
except_parts t n f xs h = record {
  children = ap (λ z. f ∷ z) (sym (operand_list t (suc (suc n)) xs));
  counts = level_counts t (suc (suc n)) xs;
  numbers = all_numbered t (suc (suc n)) xs;
  leads = all_lead t (suc (suc n)) xs h;
  rests = all_rests t (suc (suc n)) xs;
}

plain_tree : (p : Place) (t : Ty) (n : ℕ) (f : Ker) (xs : List Path) → all_plain (all_indexes xs) ≡ true →
    changed p t f (changes_at t (suc (suc n)) xs) ≡ except_tree p t n f (changes_at t (suc (suc n)) xs)
plain_tree p t n f xs h =
    let us : List Change = changes_at t (suc (suc n)) xs in
    let l : Let = let_of t (pairs_type f (all_levels us)) n (suc n) in
    ap (λ b. if b then changed p t f us else except_by_let p l (pairs_type f (all_levels us)) f us)
    (sym (ap all_plain (all_index_list t (suc (suc n)) xs) ∙ h))

let_tree : (p : Place) (t : Ty) (n : ℕ) (f b : Ker) (xs : List Path) → all_plain (all_indexes xs) ≡ false →
    b ≡ changed p t (read_operand (suc n) (nested_type f (all_indexes xs)) [] false f)
    (read_changes (let_of t (nested_type f (all_indexes xs)) n (suc n)) (nested_type f (all_indexes xs)) []
    (changes_at t (suc (suc n)) xs)) →
    let_in p (let_of t (nested_type f (all_indexes xs)) n (suc n)) (paired p f (all_indexes xs)) b
    ≡ except_tree p t n f (changes_at t (suc (suc n)) xs)
let_tree p t n f b xs h e =
    let us : List Change = changes_at t (suc (suc n)) xs in
    let w : Ty = nested_type f (all_indexes xs) in
    let v : Ty = pairs_type f (all_levels us) in
    let same : w ≡ v = ap (nested_type f) (sym (all_index_list t (suc (suc n)) xs)) ∙ nested_is f (all_levels us) in
    let operands : paired p f (all_indexes xs) ≡ pairs p v f (all_levels us) =
    ap (paired p f) (sym (all_index_list t (suc (suc n)) xs))
    ∙ sym (pairs_are p f (all_levels us) (all_rests t (suc (suc n)) xs)) in
    ap (λ z. let_in p (let_of t w n (suc n)) (paired p f (all_indexes xs)) z) e
    ∙ ap (λ z. let_in p (let_of t w n (suc n)) z
    (changed p t (read_operand (suc n) w [] false f) (read_changes (let_of t w n (suc n)) w [] us))) operands
    ∙ ap (λ z. let_in p (let_of t z n (suc n)) (pairs p v f (all_levels us))
    (changed p t (read_operand (suc n) z [] false f) (read_changes (let_of t z n (suc n)) z [] us))) same
    ∙ ap (λ c. if c then changed p t f us else except_by_let p (let_of t v n (suc n)) v f us)
    (sym (ap all_plain (all_index_list t (suc (suc n)) xs) ∙ h))

module _ (p : Place) (t : Ty) (cs : List ℕ) (n : ℕ) (ks : List Ker) (f : Ker) (is es : List Ker)
    (counted : are_paths cs ≡ true) (s : IsSplit cs ks (f ∷ []) is es []) where
  split_is : paths_of cs is es ≡ s.paths
  split_is =
      ap (λ z. paths_of z is es) (sym s.counts)
      ∙ ap (λ z. paths_of (map (λ x. length x.0) s.paths) z es) s.indexes
      ∙ ap (λ z. paths_of (map (λ x. length x.0) s.paths) (all_indexes s.paths) z) s.rights
      ∙ paths_back s.paths

  all_some : AllSome s.paths
  all_some = some_paths s.paths (ap (list_all (λ c. not (nat_eq c 0))) s.counts ∙ and_right _ _ counted)

  split_parts : AllFound t s.paths → IsExcept t cs n ks f (changes_at t (suc (suc n)) s.paths)
  split_parts h =
      subst (λ (z : List ℕ). IsExcept t z n ks f (changes_at t (suc (suc n)) s.paths)) s.counts
      (subst (λ (z : List Ker). IsExcept t (map (λ x. length x.0) s.paths) n z f (changes_at t (suc (suc n)) s.paths))
      (sym (s.children ∙ ap (λ z. f ∷ z) (append-nil (woven s.paths)))) (except_parts t n f s.paths h))

  -- where no index but the first can have a fault
  pub made_plain : (k : Ker) → all_plain is ≡ true → changed_by p t (suc (suc n)) f (paths_of cs is es) ≡ Some k →
      IsExceptOf p t cs n ks k
  made_plain k h q =
      let xs : List Path = s.paths in
      let all = changes_are p t (suc (suc n)) f xs (changes_at t (suc (suc n)) xs) k
      (changes_along t (suc (suc n)) xs all_some) (ap (λ z. changed_by p t (suc (suc n)) f z) (sym split_is) ∙ q) in
      record {
        function = f;
        updates = changes_at t (suc (suc n)) xs;
        parts = split_parts all.0;
        counted = counted;
        whole = all.1 ∙ plain_tree p t n f xs (ap all_plain (sym s.indexes) ∙ h);
      }

  read_by : List ℕ → List Ker → List Ker → Option Ker
  read_by ds js gs =
      changed_by p t (suc (suc n)) (read_operand (suc n) (nested_type f js) [] false f)
      (paths_of ds (reads (suc n) (nested_type f js) [] (rest_types js) js) gs)

  -- where one may have a fault
  pub made_by_let : (k b : Ker) → all_plain is ≡ false →
      changed_by p t (suc (suc n)) (read_operand (suc n) (nested_type f is) [] false f)
      (paths_of cs (reads (suc n) (nested_type f is) [] (rest_types is) is) es) ≡ Some b →
      k ≡ let_in p (let_of t (nested_type f is) n (suc n)) (paired p f is) b → IsExceptOf p t cs n ks k
  unfolding read_by
  made_by_let k b h q e =
      let xs : List Path = s.paths in
      let w : Ty = nested_type f (all_indexes xs) in
      let us : List Change = changes_at t (suc (suc n)) xs in
      let whole : changed_by p t (suc (suc n)) (read_operand (suc n) w [] false f) (read_paths (suc n) w [] xs)
      ≡ Some b =
      ap (λ z. changed_by p t (suc (suc n)) (read_operand (suc n) w [] false f) z) (sym (read_paths_of (suc n) w xs))
      ∙ ap (λ z. read_by z (all_indexes xs) (map (λ x. x.1) xs)) s.counts
      ∙ ap (λ z. read_by cs z (map (λ x. x.1) xs)) (sym s.indexes)
      ∙ ap (λ z. read_by cs is z) (sym s.rights)
      ∙ q in
      let all = changes_are p t (suc (suc n)) (read_operand (suc n) w [] false f) (read_paths (suc n) w [] xs)
      (read_changes (let_of t w n (suc n)) w [] us) b
      (all_read_along (suc n) w t n t (suc (suc n)) [] xs all_some) whole in
      record {
        function = f;
        updates = us;
        parts = split_parts (all_found_before (suc n) w t [] xs all.0);
        counted = counted;
        whole =
            e
            ∙ ap (λ z. let_in p (let_of t (nested_type f z) n (suc n)) (paired p f z) b) s.indexes
            ∙ let_tree p t n f b xs (ap all_plain (sym s.indexes) ∙ h) all.1;
      }
