-- Updates along paths bind no number again, where what they are made of does not and the numbers of a path are new.
use Rattle.std.proofs.Common.{◌≡◌, ℕ, Bool, true, false, not, ◌&&◌, ◌||◌, List, [], ◌∷◌, ◌++◌, map, refl, sym, ◌∙◌, ap, subst, Some, None, if◌then◌else◌}
use Rattle.std.specs.List.{list_all}
use Rattle.std.proofs.lemmas.List.Folds.{list_all-append}
use Rattle.tla_meaning.specs.declared.place.Place.{Place}
use Rattle.tla_meaning.specs.FreeNames.{with_names}
use Rattle.tla_meaning.specs.Scopes.{find_last, or_else, same_text}
use Rattle.tla_meaning.proofs.Laws.{find-append}
use Rattle.tla_meaning.proofs.Views.{and_left, and_right, and_both, false≢true}
use Rattle.snowcat_rows.specs.declared.types.Ty.{Ty}
use Rattle.kernel_trees.specs.declared.kernel.Ker.{Ker}
use Rattle.kernel_trees.specs.declared.kernel.KerOp.{KerOp}
use Rattle.kernel_trees.specs.declared.kernel.KerOp.TheVariants as ker
use Rattle.kernel_trees.specs.Scoped.{Names, scoped}
use Rattle.kernel_trees.specs.Trees.{number_name, names_of}
use Rattle.kernel_trees.proofs.Steps.{same_text_same}
use Rattle.kernel_reduction.specs.Reduction.{Numbering, fresh}
use Rattle.kernel_reduction.specs.Rows.{tree, bound, item, pairs, place_of, type_of, op_at, is_plain, is_plain_op, is_literal, is_literal_op, Let, Level, Change, changed_at, changed, all_levels, all_plain, behind, operand_at, index_at, read_levels, read_changes, except_by_let}
use Rattle.kernel_reduction.proofs.KindTies.{fresh_front, apart_turned}
use Rattle.kernel_reduction.proofs.PathNumbers.{AreNew, under, under_more, shadows}
use Rattle.kernel_reduction.proofs.ScopedMade.{In, tree_in, bound_in, pair_in, item_in, let_is_in, or_true, NewLet, inside, named_in, Covers, cover_all}
use Rattle.kernel_reduction.proofs.Tying.{names_apart, some_same}

-- ---- updates

update_in : (p : Place) (t : Ty) (f i e : Ker) (n : ℕ) (B : Names) → B (number_name n) ≡ false → In B f → In B i →
    In (with_names (names_of (n ∷ [])) B) e → In B (tree p t ker.Update (f ∷ i ∷ e ∷ []) (n ∷ []))
update_in p t f i e n B h a b c =
    let body : Bool = scoped e (with_names (names_of (n ∷ [])) B) in
    tree_in p t ker.Update (f ∷ i ∷ e ∷ []) (n ∷ []) B refl refl
    (and_both (not (B (number_name n))) true (ap not h) refl)
    (and_both (scoped f B) (scoped i B && (body && true)) a
    (and_both (scoped i B) (body && true) b (and_both body true c refl)))

pub one_in : (n : ℕ) (B : Names) → with_names (names_of (n ∷ [])) B (number_name n) ≡ true
one_in n B = ap (λ d. (d || false) || B (number_name n)) (same_text_same (number_name n))

-- the indexes of a path, each under the numbers before it, and its right side under all of them
abbrev pub PathIn : Names → List Level → Ker → Type 0
PathIn B [] e = In B e
PathIn B (l ∷ ls) e =
    In B l.index × (B (number_name l.number) ≡ false) × PathIn (with_names (names_of (l.number ∷ [])) B) ls e

changed_at_in : (p : Place) (t : Ty) (f : Ker) (ls : List Level) (e : Ker) (B : Names) → In B f → PathIn B ls e →
    In B (changed_at p t f ls e)
changed_at_in p t f [] e B h g = h
changed_at_in p t f (l ∷ []) e B h g = update_in p t f l.index e l.number B g.1 h g.0 g.2
changed_at_in p t f (l ∷ m ∷ ls) e B h g =
    let C : Names = with_names (names_of (l.number ∷ [])) B in
    let old : Ker = bound p l.inner l.number in
    update_in p t f l.index (changed_at p l.inner old (m ∷ ls) e) l.number B g.1 h g.0
    (changed_at_in p l.inner old (m ∷ ls) e C (bound_in p l.inner l.number C (one_in l.number B)) g.2)

abbrev pub ChangesIn : Names → List Change → Type 0
ChangesIn B [] = Unit {0}
ChangesIn B (d ∷ ds) = PathIn B d.levels d.right × ChangesIn B ds

pub changed_in : (p : Place) (t : Ty) (f : Ker) (ds : List Change) (B : Names) → In B f → ChangesIn B ds →
    In B (changed p t f ds)
changed_in p t f [] B h g = h
changed_in p t f (d ∷ ds) B h g =
    changed_in p t (changed_at p t f d.levels d.right) ds B (changed_at_in p t f d.levels d.right B h g.0) g.1

-- ---- pairs, and what is read from them

abbrev pub IndexesIn : Names → List Level → Type 0
IndexesIn B [] = Unit {0}
IndexesIn B (l ∷ ls) = In B l.index × IndexesIn B ls

pub indexes_plus : (B : Names) (ls ms : List Level) → IndexesIn B ls → IndexesIn B ms → IndexesIn B (ls ++ ms)
indexes_plus B [] ms h g = g
indexes_plus B (l ∷ ls) ms h g = (h.0, indexes_plus B ls ms h.1 g)

pairs_in : (p : Place) (t : Ty) (k : Ker) (ls : List Level) (B : Names) → In B k → IndexesIn B ls →
    In B (pairs p t k ls)
pairs_in p t k [] B h g = h
pairs_in p t k (l ∷ ls) B h g =
    pair_in p t k (pairs p l.rest l.index ls) B h (pairs_in p l.rest l.index ls B g.0 g.1)

behind_in : (q : Place) (y : Ker) (rs : List Ty) (C : Names) → In C y → In C (behind q y rs)
behind_in q y [] C h = h
behind_in q y (r ∷ rs) C h = behind_in q (item q r 2 y) rs C (item_in q r 2 y C h)

operand_in : (l : Let) (t : Ty) (rs : List Ty) (last : Bool) (k : Ker) (C : Names) → C (number_name l.named) ≡ true →
    In C (operand_at l t rs last k)
operand_in l t rs last k C h = by last
  where
    left : In C (behind (place_of k) (bound (place_of k) t l.named) rs)
    left = behind_in (place_of k) (bound (place_of k) t l.named) rs C (bound_in (place_of k) t l.named C h)

    by : (b : Bool) → In C (operand_at l t rs b k)
    by true = left
    by false = item_in (place_of k) (type_of k) 1 (behind (place_of k) (bound (place_of k) t l.named) rs) C left

-- a literal binds and reads nothing
abbrev pub LiteralsIn : List Level → Type 0
LiteralsIn [] = Unit {0}
LiteralsIn (l ∷ ls) = (is_literal l.index ≡ true → (C : Names) → In C l.index) × LiteralsIn ls

index_in : (l : Let) (t : Ty) (rs : List Ty) (last : Bool) (k : Ker) (C : Names) →
    (is_literal k ≡ true → (C : Names) → In C k) → C (number_name l.named) ≡ true → In C (index_at l t rs last k)
index_in l t rs last k C g h = by (is_literal k) refl
  where
    by : (b : Bool) → is_literal k ≡ b → In C (if b then k else operand_at l t rs last k)
    by true q = g q C
    by false q = operand_in l t rs last k C h

-- the levels of a path with other indexes, which may stand wherever the name y is bound
abbrev pub Readable : List ℕ → List Level → List Level → Type 0
Readable y [] [] = Unit {0}
Readable y (l ∷ ls) (m ∷ ms) =
    (l.number ≡ m.number) × ((C : Names) → C y ≡ true → In C m.index) × Readable y ls ms
Readable y ls ms = ⊥

pub read_readable : (l : Let) (t : Ty) (rs : List Ty) (more : Bool) (ls : List Level) → LiteralsIn ls →
    Readable (number_name l.named) ls (read_levels l t rs more ls)
read_readable l t rs more [] h = tt
read_readable l t rs more (x ∷ xs) h = (
  refl,
  λ C g. index_in l t (rs ++ x.rest ∷ []) _ x.index C h.0 g,
  read_readable l t (rs ++ x.rest ∷ []) more xs h.1,
)

-- ---- indexes that are literals

plain_literal : (o : KerOp) → is_plain_op o ≡ true → is_literal_op o ≡ true
plain_literal (ker.Const v) h = refl
plain_literal o h = absurd (false≢true h)

abbrev pub indexes_of : List Level → List Ker
indexes_of ls = map (λ l. l.index) ls

pub plain_readable : (y : List ℕ) (ls : List Level) → list_all is_plain (indexes_of ls) ≡ true → LiteralsIn ls →
    Readable y ls ls
plain_readable y [] h g = tt
plain_readable y (l ∷ ls) h g = (
  refl,
  λ C q. g.0 (plain_literal (op_at l.index) (and_left (is_plain l.index) (list_all is_plain (indexes_of ls)) h)) C,
  plain_readable y ls (and_right (is_plain l.index) (list_all is_plain (indexes_of ls)) h) g.1,
)

more_indexes : (ls ms : List Level) → indexes_of (ls ++ ms) ≡ indexes_of ls ++ indexes_of ms
more_indexes [] ms = refl
more_indexes (l ∷ ls) ms = ap (λ z. l.index ∷ z) (more_indexes ls ms)

both_plain : (ls ms : List Level) → list_all is_plain (indexes_of (ls ++ ms)) ≡ true →
    (list_all is_plain (indexes_of ls) ≡ true) × (list_all is_plain (indexes_of ms) ≡ true)
both_plain ls ms h =
    let front : Bool = list_all is_plain (indexes_of ls) in
    let rest : Bool = list_all is_plain (indexes_of ms) in
    let e : list_all is_plain (indexes_of (ls ++ ms)) ≡ (front && rest) =
    ap (list_all is_plain) (more_indexes ls ms) ∙ list_all-append is_plain (indexes_of ls) (indexes_of ms) in
    (and_left front rest (sym e ∙ h), and_right front rest (sym e ∙ h))

-- of the first path, which has a level, and of the others
pub first_plain : (l : Level) (ls ms : List Level) → all_plain (indexes_of ((l ∷ ls) ++ ms)) ≡ true →
    (all_plain (indexes_of (l ∷ ls)) ≡ true) × (list_all is_plain (indexes_of ms) ≡ true)
first_plain l ls ms h = both_plain ls ms h

any_plain : (ls : List Level) → list_all is_plain (indexes_of ls) ≡ true → all_plain (indexes_of ls) ≡ true
any_plain [] h = refl
any_plain (l ∷ ls) h = and_right (is_plain l.index) (list_all is_plain (indexes_of ls)) h

pub later_plain : (ls ms : List Level) → list_all is_plain (indexes_of (ls ++ ms)) ≡ true →
    (all_plain (indexes_of ls) ≡ true) × (list_all is_plain (indexes_of ms) ≡ true)
later_plain ls ms h = let g = both_plain ls ms h in (any_plain ls g.0, g.1)

-- ---- the numbers of a path

-- under some numbers of a path the old names' numbers are bound, and new ones are not
pub record PathCovers (ρ σ : Numbering) (C : Names) : Type 0 where
  pub old : (z : List ℕ) (n : ℕ) → find_last z ρ ≡ Some n → C (number_name n) ≡ true
  pub new : (n : ℕ) → fresh n σ ≡ true → C (number_name n) ≡ false

pub covers_plain : (x : List ℕ) (u m : ℕ) (ρ : Numbering) (B : Names) → Covers ρ B →
    PathCovers ρ (under x (u ∷ m ∷ []) ρ) B
covers_plain x u m ρ B c = record {
  old = c.bound;
  new = λ n h. c.new n (fresh_front n ρ x u (fresh_front n (ρ ++ (x, u) ∷ []) x m h).0).0;
}

pub covers_let : (x : List ℕ) (u m : ℕ) (ρ : Numbering) (B : Names) → AreNew x (u ∷ m ∷ []) ρ → Covers ρ B →
    PathCovers ρ (under x (u ∷ m ∷ []) ρ) (with_names (names_of (u ∷ m ∷ [])) B)
covers_let x u m ρ B f c = record {
  old = λ z n h.
      or_true (same_text (number_name n) (number_name u) || (same_text (number_name n) (number_name m) || false))
      (B (number_name n)) (c.bound z n h);
  new = (cover_all (x ∷ x ∷ []) (u ∷ m ∷ []) ρ B f c).new;
}

pub covers_more : (x ns : List ℕ) (m : ℕ) (ρ : Numbering) (C : Names) → PathCovers ρ (under x ns ρ) C →
    PathCovers ρ (under x (ns ++ m ∷ []) ρ) (with_names (names_of (m ∷ [])) C)
covers_more x ns m ρ C c = record {
  old = λ z n h. or_true (same_text (number_name n) (number_name m) || false) (C (number_name n)) (c.old z n h);
  new = λ n h.
      let f = fresh_front n (under x ns ρ) x m (subst (λ σ. fresh n σ ≡ true) (under_more x ns m ρ) h) in
      (λ i. (names_apart n m (apart_turned m n f.1) i || false) || c.new n f.0 i);
}

pub covers_path : (x ns : List ℕ) (m : ℕ) (ρ : Numbering) (C : Names) → C (number_name m) ≡ true →
    PathCovers ρ (under x (ns ++ m ∷ []) ρ) C → Covers (under x (ns ++ m ∷ []) ρ) C
covers_path x ns m ρ C h c = record {
  bound = λ z n q. by z n (same_text z x)
      (sym ((shadows x ns m ρ).same z ∙ find-append z ρ ((x, m) ∷ [])) ∙ q);
  new = c.new;
}
  where
    by : (z : List ℕ) (n : ℕ) (d : Bool) →
        or_else (or_else None (if d then Some m else None)) (find_last z ρ) ≡ Some n → C (number_name n) ≡ true
    by z n true q = subst (λ k. C (number_name k) ≡ true) (some_same q) h
    by z n false q = c.old z n q

-- ---- with a LET

pub except_by_let_in : (p : Place) (l : Let) (t : Ty) (f : Ker) (ds : List Change) (B : Names) → NewLet l B → In B f →
    IndexesIn B (all_levels ds) → ChangesIn (inside l B) (read_changes l t [] ds) → In B (except_by_let p l t f ds)
except_by_let_in p l t f ds B n h g c =
    let_is_in p l (pairs p t f (all_levels ds)) _ B n (pairs_in p t f (all_levels ds) B h g)
    (changed_in p l.type (operand_at l t [] false f) (read_changes l t [] ds) (inside l B)
    (operand_in l t [] false f (inside l B) (named_in l B)) c)
