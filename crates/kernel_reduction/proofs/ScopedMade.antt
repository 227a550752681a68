-- The trees that rows make bind no number again, where their operands do not and the numbers that are made are new.
use Rattle.std.proofs.Common.{◌≡◌, ℕ, zero, suc, Bool, true, false, not, ◌&&◌, ◌||◌, List, [], ◌∷◌, ◌++◌, map, replicate, length, refl, sym, ◌∙◌, ap, subst, Option, Some, None, arith, pos, if◌then◌else◌}
use Rattle.std.specs.Prelude.{nat_eq}
use Rattle.std.specs.List.{list_any}
use Rattle.tla_values.specs.Order.{Layer}
use Rattle.tla_values.specs.declared.value.Value.{Value, out-Value}
use Rattle.tla_values.specs.declared.value.Value.TheVariants as value
use Rattle.tla_values.specs.declared.value.Value.TheOpen as layer
use Rattle.tla_meaning.specs.declared.place.Place.{Place}
use Rattle.tla_meaning.specs.FreeNames.{marks, with_names, closed_all}
use Rattle.tla_meaning.specs.Meaning.{role}
use Rattle.tla_meaning.specs.Scopes.{find_last, or_else, same_text}
use Rattle.tla_meaning.proofs.Laws.{find-append}
use Rattle.tla_meaning.proofs.Views.{and_left, and_right, and_both, false≢true}
use Rattle.snowcat_rows.specs.declared.types.Ty.{Ty}
use Rattle.kernel_trees.specs.declared.kernel.Ker.{Ker}
use Rattle.kernel_trees.specs.declared.kernel.KerOp.{KerOp}
use Rattle.kernel_trees.specs.declared.kernel.KerOp.TheVariants as ker
use Rattle.kernel_trees.specs.Paths.{is_end}
use Rattle.kernel_trees.specs.Scoped.{Names, reads_in, outside, differ, scoped}
use Rattle.kernel_trees.specs.Trees.{number_name, names_of, op_of, constant}
use Rattle.kernel_trees.proofs.Scopes.{scoped-roll}
use Rattle.kernel_trees.proofs.Steps.{same_text_same}
use Rattle.kernel_reduction.specs.Reduction.{Numbering, fresh, numbered, all_fresh}
use Rattle.kernel_reduction.specs.Rows.{tree, node, number, bound, negation, item, pair, place_of, type_of, op_at, Let, let_in, named_one, named_first, named_second, implication, equivalence, item_by_let, product, tested, power_body, small_power, large_power, nested_ifs, twice_negated, case_branches, split_case, guard_of, may_assign}
use Rattle.kernel_reduction.proofs.KindTies.{fresh_front, apart_turned}
use Rattle.kernel_reduction.proofs.Tying.{names_apart, some_same}

abbrev pub In : Names → Ker → Type 0
In B k = scoped k B ≡ true

abbrev pub AllIn : Names → List Ker → Type 0
AllIn B [] = Unit {0}
AllIn B (k ∷ ks) = In B k × AllIn B ks

closed_plain : (xs : List (List ℕ)) (ks : List Ker) (B : Names) → AllIn B ks → closed_all [] xs (map scoped ks) B ≡ true
closed_plain xs [] B h = refl
closed_plain xs (k ∷ ks) B h =
    and_both (scoped k B) (closed_all [] xs (map scoped ks) B) h.0 (closed_plain xs ks B h.1)

pub tree_in : (p : Place) (t : Ty) (o : KerOp) (ks : List Ker) (xs : List ℕ) (B : Names) → reads_in B o ≡ true →
    differ xs ≡ true → outside B xs ≡ true →
    closed_all (marks (role (op_of o) (length (names_of xs)))) (names_of xs) (map scoped ks) B ≡ true →
    In B (tree p t o ks xs)
tree_in p t o ks xs B r d u c =
    scoped-roll (record { place = p; ty = t; op = o; args = ks; binds = xs }) B
    ∙ and_both (reads_in B o && differ xs)
    (outside B xs && closed_all (marks (role (op_of o) (length (names_of xs)))) (names_of xs) (map scoped ks) B)
    (and_both (reads_in B o) (differ xs) r d)
    (and_both (outside B xs) (closed_all (marks (role (op_of o) (length (names_of xs)))) (names_of xs) (map scoped ks) B) u c)

-- a node that binds nothing
pub node_in : (p : Place) (t : Ty) (o : KerOp) (ks : List Ker) (B : Names) → marks (role (op_of o) 0) ≡ [] →
    reads_in B o ≡ true → AllIn B ks → In B (node p t o ks)
node_in p t o ks B m r h =
    tree_in p t o ks [] B r refl refl
    (ap (λ z. closed_all z [] (map scoped ks) B) m ∙ closed_plain [] ks B h)

constant_marks : (v : Layer Value) → marks (role (constant v) 0) ≡ []
constant_marks (layer.Bool b) = refl
constant_marks (layer.Int i) = refl
constant_marks (layer.Text x) = refl
constant_marks (layer.Set xs) = refl
constant_marks (layer.Fun ps) = refl

pub constant_in : (p : Place) (t : Ty) (v : Value) (B : Names) → In B (node p t (ker.Const v) [])
constant_in p t v B = node_in p t (ker.Const v) [] B (constant_marks (out-Value v)) refl tt

pub bound_in : (p : Place) (t : Ty) (n : ℕ) (B : Names) → B (number_name n) ≡ true → In B (bound p t n)
bound_in p t n B h = node_in p t (ker.Bound n) [] B refl h tt

closed_behind : (n : ℕ) (xs : List (List ℕ)) (ks : List Ker) (e : Ker) (B : Names) → n ≡ length ks → AllIn B ks →
    In (with_names xs B) e → closed_all (replicate n false ++ true ∷ []) xs (map scoped (ks ++ e ∷ [])) B ≡ true
closed_behind zero xs [] e B l h g = and_both (scoped e (with_names xs B)) true g refl
closed_behind zero xs (k ∷ ks) e B l h g = absurd (none_long (length ks) l)
  where
    none_long : (n : ℕ) → 0 ≡ suc n → ⊥
    none_long n e = omega (arith, e)
closed_behind (suc n) xs [] e B l h g = absurd (some_long n l)
  where
    some_long : (n : ℕ) → suc n ≡ 0 → ⊥
    some_long n e = omega (arith, e)
closed_behind (suc n) xs (k ∷ ks) e B l h g =
    and_both (scoped k B) (closed_all (replicate n false ++ true ∷ []) xs (map scoped (ks ++ e ∷ [])) B) h.0
    (closed_behind n xs ks e B (less n (length ks) l) h.1 g)
  where
    less : (m n : ℕ) → suc m ≡ suc n → m ≡ n
    less m n e = omega (arith, e)

-- a binder: its sets, and the body, in which the numbers are bound
pub binder_in : (p : Place) (t : Ty) (o : KerOp) (ks : List Ker) (e : Ker) (ns : List ℕ) (B : Names) →
    marks (role (op_of o) (length (names_of ns))) ≡ replicate (length (names_of ns)) false ++ true ∷ [] →
    reads_in B o ≡ true → differ ns ≡ true → outside B ns ≡ true → length (names_of ns) ≡ length ks → AllIn B ks →
    In (with_names (names_of ns) B) e → In B (tree p t o (ks ++ e ∷ []) ns)
binder_in p t o ks e ns B m r d u l h g =
    tree_in p t o (ks ++ e ∷ []) ns B r d u
    (ap (λ z. closed_all z (names_of ns) (map scoped (ks ++ e ∷ [])) B) m
    ∙ closed_behind (length (names_of ns)) (names_of ns) ks e B l h g)

pub fold_in : (p : Place) (t : Ty) (e : Ker) (ks : List Ker) (ns : List ℕ) (B : Names) → differ ns ≡ true →
    outside B ns ≡ true → AllIn B ks → In (with_names (names_of ns) B) e → In B (tree p t ker.FoldLeft (e ∷ ks) ns)
fold_in p t e ks ns B d u h g =
    tree_in p t ker.FoldLeft (e ∷ ks) ns B refl d u
    (and_both (scoped e (with_names (names_of ns) B)) (closed_all [] (names_of ns) (map scoped ks) B) g
    (closed_plain (names_of ns) ks B h))

-- ---- negations, LET

pub negation_in : (p : Place) (t : Ty) (k : Ker) (B : Names) → In B k → In B (negation p t k)
negation_in p t k B h = node_in p t ker.Not (k ∷ []) B refl refl (h, tt)

pub implication_in : (p : Place) (t : Ty) (k l : Ker) (B : Names) → In B k → In B l → In B (implication p t k l)
implication_in p t k l B h g =
    negation_in p t (node p t ker.And (k ∷ negation p t l ∷ [])) B
    (node_in p t ker.And (k ∷ negation p t l ∷ []) B refl refl (h, (negation_in p t l B g, tt)))

-- numbers of a LET that differ and are new
pub record NewLet (l : Let) (B : Names) : Type 0 where
  pub apart : nat_eq l.unread l.named ≡ false
  pub unread : B (number_name l.unread) ≡ false
  pub named : B (number_name l.named) ≡ false

abbrev pub inside : Let → Names → Names
inside l B = with_names (names_of (l.unread ∷ l.named ∷ [])) B

pub or_true : (a b : Bool) → b ≡ true → (a || b) ≡ true
or_true true b h = refl
or_true false b h = h

unread_in : (l : Let) (B : Names) → inside l B (number_name l.unread) ≡ true
unread_in l B =
    ap (λ d. (d || (same_text (number_name l.unread) (number_name l.named) || false)) || B (number_name l.unread))
    (same_text_same (number_name l.unread))

pub named_in : (l : Let) (B : Names) → inside l B (number_name l.named) ≡ true
named_in l B =
    ap (λ d. (same_text (number_name l.named) (number_name l.unread) || (d || false)) || B (number_name l.named))
    (same_text_same (number_name l.named))
    ∙ ap (λ d. d || B (number_name l.named)) (or_true (same_text (number_name l.named) (number_name l.unread)) true refl)

pub let_is_in : (p : Place) (l : Let) (d e : Ker) (B : Names) → NewLet l B → In B d → In (inside l B) e →
    In B (let_in p l d e)
let_is_in p l d e B n h g =
    node_in p l.type ker.First _ B refl refl (
      fold_in p l.wholes (node p l.wholes ker.Push (bound p l.wholes l.unread ∷ e ∷ []))
          (node p l.wholes ker.SeqOf [] ∷ node p l.items ker.SeqOf (d ∷ []) ∷ []) (l.unread ∷ l.named ∷ []) B
          (ap (λ z. not (z || false) && true) n.apart)
          ((λ i. not (n.unread i) && (not (n.named i) && true)))
          (node_in p l.wholes ker.SeqOf [] B refl refl tt, (node_in p l.items ker.SeqOf (d ∷ []) B refl refl (h, tt), tt))
          (node_in p l.wholes ker.Push (bound p l.wholes l.unread ∷ e ∷ []) (inside l B) refl refl
          (bound_in p l.wholes l.unread (inside l B) (unread_in l B), (g, tt))),
      tt,
    )

pub pair_in : (p : Place) (t : Ty) (k m : Ker) (B : Names) → In B k → In B m → In B (pair p t k m)
pair_in p t k m B h g = node_in p t ker.TupOf (k ∷ m ∷ []) B refl refl (h, (g, tt))

pub item_in : (p : Place) (t : Ty) (n : ℕ) (k : Ker) (B : Names) → In B k → In B (item p t n k)
item_in p t n k B h = node_in p t (ker.Item n) (k ∷ []) B refl refl (h, tt)

pub first_in : (l : Let) (t : Ty) (k : Ker) (C : Names) → C (number_name l.named) ≡ true → In C (named_first l t k)
first_in l t k C h = item_in (place_of k) (type_of k) 1 _ C (bound_in (place_of k) t l.named C h)

pub second_in : (l : Let) (t : Ty) (k : Ker) (C : Names) → C (number_name l.named) ≡ true → In C (named_second l t k)
second_in l t k C h = item_in (place_of k) (type_of k) 2 _ C (bound_in (place_of k) t l.named C h)

pub equivalence_in : (p : Place) (l : Let) (t : Ty) (k m : Ker) (B : Names) → NewLet l B → In B k → In B m →
    In B (equivalence p l t k m)
equivalence_in p l t k m B n h g =
    let_is_in p l (pair p t k m) _ B n (pair_in p t k m B h g)
    (node_in p l.type ker.Equal _ (inside l B) refl refl (
      negation_in p l.type (named_first l t k) (inside l B) (first_in l t k (inside l B) (named_in l B)),
      (negation_in p l.type (named_second l t m) (inside l B) (second_in l t m (inside l B) (named_in l B)), tt),
    ))

pub item_by_let_in : (p : Place) (l : Let) (t : Ty) (i : ℕ) (k m : Ker) (B : Names) → NewLet l B → In B k → In B m →
    In B (item_by_let p l t i k m)
item_by_let_in p l t i k m B n h g =
    let_is_in p l (pair p t k m) _ B n (pair_in p t k m B h g)
    (item_in p l.type i (named_first l t k) (inside l B) (first_in l t k (inside l B) (named_in l B)))

-- ---- powers

product_in : (p : Place) (a : Ty) (y : Ker) (n : ℕ) (C : Names) → In C y → In C (product p a y n)
product_in p a y zero C h = h
product_in p a y (suc n) C h =
    node_in p a ker.Times (product p a y n ∷ y ∷ []) C refl refl (product_in p a y n C h, (h, tt))

tested_in : (p : Place) (a b : Ty) (x y z : Ker) (C : Names) → In C x → In C y → In C z → In C (tested p a b x y z)
tested_in p a b x y z C h g f =
    node_in p a ker.If (node p b ker.Less (x ∷ y ∷ []) ∷ z ∷ z ∷ []) C refl refl
    (node_in p b ker.Less (x ∷ y ∷ []) C refl refl (h, (g, tt)), (f, (f, tt)))

power_in : (p : Place) (a b : Ty) (y : Ker) (n : ℕ) (C : Names) → In C y → In C (power_body p a b y n)
power_in p a b y zero C h = tested_in p a b y y (number p a 1) C h h (constant_in p a (value.Int (pos 1)) C)
power_in p a b y (suc zero) C h =
    tested_in p a b (node p a ker.Times (number p a 1 ∷ y ∷ [])) y y C
    (node_in p a ker.Times (number p a 1 ∷ y ∷ []) C refl refl (constant_in p a (value.Int (pos 1)) C, (h, tt))) h h
power_in p a b y (suc (suc n)) C h = product_in p a y (suc n) C h

pub small_power_in : (p : Place) (l : Let) (b : Ty) (k : Ker) (n : ℕ) (B : Names) → NewLet l B → In B k →
    In B (small_power p l b k n)
small_power_in p l b k n B w h =
    let_is_in p l k _ B w h
    (power_in p l.type b (named_one l k) n (inside l B)
    (bound_in (place_of k) (type_of k) l.named (inside l B) (named_in l B)))

pub large_power_in : (p : Place) (l : Let) (t b : Ty) (k m : Ker) (n : ℕ) (B : Names) → NewLet l B → In B k → In B m →
    In B (large_power p l t b k m n)
large_power_in p l t b k m n B w h g =
    let_is_in p l (pair p t k m) _ B w (pair_in p t k m B h g)
    (power_in p l.type b (named_first l t k) n (inside l B) (first_in l t k (inside l B) (named_in l B)))

-- ---- CASE and IF

pub nested_in : (p : Place) (t : Ty) (ks : List Ker) (B : Names) → AllIn B ks → In B (nested_ifs p t ks)
nested_in p t [] B h = node_in p t ker.NoCase [] B refl refl tt
nested_in p t (k ∷ []) B h = h.0
nested_in p t (g ∷ k ∷ ks) B h =
    node_in p t ker.If (g ∷ k ∷ nested_ifs p t ks ∷ []) B refl refl (h.0, (h.1.0, (nested_in p t ks B h.1.1, tt)))

twice_in : (p : Place) (t : Ty) (g : Ker) (B : Names) → In B g → In B (twice_negated p t g)
twice_in p t g B h = negation_in p t (negation p t g) B (negation_in p t g B h)

pub guard_in : (p : Place) (t : Ty) (g : Ker) (B : Names) → In B g → In B (guard_of p t g)
guard_in p t g B h = by (may_assign (op_at g) || is_end (op_at g))
  where
    by : (b : Bool) → In B (if b then twice_negated p t g else g)
    by true = twice_in p t g B h
    by false = h

all_plus : (ks ls : List Ker) (B : Names) → AllIn B ks → AllIn B ls → AllIn B (ks ++ ls)
all_plus [] ls B h g = g
all_plus (k ∷ ks) ls B h g = (h.0, all_plus ks ls B h.1 g)

all_off : (p : Place) (t : Ty) (ks : List Ker) (B : Names) → AllIn B ks → AllIn B (map (negation p t) ks)
all_off p t [] B h = tt
all_off p t (k ∷ ks) B h = (negation_in p t k B h.0, all_off p t ks B h.1)

abbrev pub ArmsIn : Names → List (Ker × Ker) → Option Ker → Type 0
ArmsIn B [] None = Unit {0}
ArmsIn B [] (Some o) = In B o
ArmsIn B (x ∷ xs) o = In B x.0 × In B x.1 × ArmsIn B xs o

branches_in : (p : Place) (t : Ty) (front : List Ker) (xs : List (Ker × Ker)) (o : Option Ker) (B : Names) →
    AllIn B front → ArmsIn B xs o → AllIn B (case_branches p t front xs o)
branches_in p t front [] None B f h =
    (node_in p t ker.And _ B refl refl (all_plus (map (negation p t) front) (node p t ker.NoCase [] ∷ []) B (all_off p t front B f) (node_in p t ker.NoCase [] B refl refl tt, tt)), tt)
branches_in p t front [] (Some o) B f h =
    (node_in (place_of o) t ker.And _ B refl refl (all_plus (map (negation p t) front) (o ∷ []) B (all_off p t front B f) (h, tt)), tt)
branches_in p t front (x ∷ xs) o B f h = (
  node_in (place_of x.1) t ker.And _ B refl refl
      (all_plus (map (negation p t) front) (twice_negated p t x.0 ∷ x.1 ∷ []) B (all_off p t front B f)
      (twice_in p t x.0 B h.0, (h.1, tt))),
  branches_in p t (front ++ x.0 ∷ []) xs o B (all_plus front (x.0 ∷ []) B f (h.0, tt)) h.2,
)

pub split_in : (p : Place) (t : Ty) (xs : List (Ker × Ker)) (o : Option Ker) (B : Names) → ArmsIn B xs o →
    In B (split_case p t xs o)
split_in p t xs o B h = node_in p t ker.Or _ B refl refl (branches_in p t [] xs o B tt h)

-- ---- names and numbers

-- the numbers of names are bound, and new ones are not
pub record Covers (ρ : Numbering) (B : Names) : Type 0 where
  pub bound : (x : List ℕ) (n : ℕ) → find_last x ρ ≡ Some n → B (number_name n) ≡ true
  pub new : (n : ℕ) → fresh n ρ ≡ true → B (number_name n) ≡ false

pub cover_one : (ρ : Numbering) (B : Names) (x : List ℕ) (n : ℕ) → Covers ρ B →
    Covers (ρ ++ (x, n) ∷ []) (with_names (number_name n ∷ []) B)
cover_one ρ B x n c = record {
  bound = λ z m q. by z m (same_text z x) (sym (find-append z ρ ((x, n) ∷ [])) ∙ q);
  new = λ m q.
      let f = fresh_front m ρ x n q in
      (λ i. (names_apart m n (apart_turned n m f.1) i || false) || c.new m f.0 i);
}
  where
    by : (z : List ℕ) (m : ℕ) (d : Bool) → or_else (or_else None (if d then Some n else None)) (find_last z ρ) ≡ Some m →
        with_names (number_name n ∷ []) B (number_name m) ≡ true
    by z m true q =
        subst (λ k. with_names (number_name n ∷ []) B (number_name k) ≡ true) (some_same q)
        (ap (λ d. (d || false) || B (number_name n)) (same_text_same (number_name n)))
    by z m false q = or_true (same_text (number_name m) (number_name n) || false) (B (number_name m)) (c.bound z m q)

regroup : (a b c : Bool) → (b || ((a || false) || c)) ≡ ((a || b) || c)
regroup true true c = refl
regroup true false c = refl
regroup false true c = refl
regroup false false c = refl

pub cover_all : (xs : List (List ℕ)) (ns : List ℕ) (ρ : Numbering) (B : Names) → all_fresh xs ns ρ ≡ true → Covers ρ B →
    Covers (numbered xs ns ρ) (with_names (names_of ns) B)
cover_all [] [] ρ B h c = record { bound = c.bound; new = c.new }
cover_all [] (n ∷ ns) ρ B h c = absurd (false≢true h)
cover_all (x ∷ xs) [] ρ B h c = absurd (false≢true h)
cover_all (x ∷ xs) (n ∷ ns) ρ B h c =
    let r =
    cover_all xs ns (ρ ++ (x, n) ∷ []) (with_names (number_name n ∷ []) B)
    (and_right (fresh n ρ) (all_fresh xs ns (ρ ++ (x, n) ∷ [])) h) (cover_one ρ B x n c) in record {
      bound = λ z m q. sym (same m) ∙ r.bound z m q;
      new = λ m q. sym (same m) ∙ r.new m q;
    }
  where
    same : (m : ℕ) →
        with_names (names_of ns) (with_names (number_name n ∷ []) B) (number_name m)
        ≡ with_names (names_of (n ∷ ns)) B (number_name m)
    same m =
        regroup (same_text (number_name m) (number_name n)) (list_any (same_text (number_name m)) (names_of ns))
        (B (number_name m))

pub all_outside : (xs : List (List ℕ)) (ns : List ℕ) (ρ σ : Numbering) (B : Names) → all_fresh xs ns σ ≡ true →
    ((m : ℕ) → fresh m σ ≡ true → fresh m ρ ≡ true) → Covers ρ B → outside B ns ≡ true
all_outside [] [] ρ σ B h f c = refl
all_outside [] (n ∷ ns) ρ σ B h f c = absurd (false≢true h)
all_outside (x ∷ xs) [] ρ σ B h f c = absurd (false≢true h)
all_outside (x ∷ xs) (n ∷ ns) ρ σ B h f c =
    and_both (not (B (number_name n))) (outside B ns)
    (ap not (c.new n (f n (and_left (fresh n σ) (all_fresh xs ns (σ ++ (x, n) ∷ [])) h))))
    (all_outside xs ns ρ (σ ++ (x, n) ∷ []) B (and_right (fresh n σ) (all_fresh xs ns (σ ++ (x, n) ∷ [])) h)
    (λ m q. f m (fresh_front m σ x n q).0) c)

none_like : (n : ℕ) (xs : List (List ℕ)) (ns : List ℕ) (σ : Numbering) → all_fresh xs ns σ ≡ true →
    ((m : ℕ) → fresh m σ ≡ true → nat_eq n m ≡ false) → list_any (nat_eq n) ns ≡ false
none_like n [] [] σ h f = refl
none_like n [] (k ∷ ns) σ h f = absurd (false≢true h)
none_like n (x ∷ xs) [] σ h f = absurd (false≢true h)
none_like n (x ∷ xs) (k ∷ ns) σ h f =
    (λ i. f k (and_left (fresh k σ) (all_fresh xs ns (σ ++ (x, k) ∷ [])) h) i || list_any (nat_eq n) ns)
    ∙ none_like n xs ns (σ ++ (x, k) ∷ []) (and_right (fresh k σ) (all_fresh xs ns (σ ++ (x, k) ∷ [])) h)
    (λ m q. f m (fresh_front m σ x k q).0)

pub all_differ : (xs : List (List ℕ)) (ns : List ℕ) (ρ : Numbering) → all_fresh xs ns ρ ≡ true → differ ns ≡ true
all_differ [] [] ρ h = refl
all_differ [] (n ∷ ns) ρ h = absurd (false≢true h)
all_differ (x ∷ xs) [] ρ h = absurd (false≢true h)
all_differ (x ∷ xs) (n ∷ ns) ρ h =
    let g = and_right (fresh n ρ) (all_fresh xs ns (ρ ++ (x, n) ∷ [])) h in
    and_both (not (list_any (nat_eq n) ns)) (differ ns)
    (ap not (none_like n xs ns (ρ ++ (x, n) ∷ []) g (λ m q. (fresh_front m ρ x n q).1)))
    (all_differ xs ns (ρ ++ (x, n) ∷ []) g)
