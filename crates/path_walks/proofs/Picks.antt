-- The picks of a path and of one step more, and of its first steps alone.
use Rattle.std.proofs.Common.{◌≡◌, ◌⊎◌, inl, inr, ℕ, Bool, true, false, ◌||◌, List, [], ◌∷◌, ◌++◌, map, All, refl, sym, ◌∙◌, ap, append_assoc, arith}
use Rattle.std.specs.Prelude.{flat_map, nat_eq}
use Rattle.std.proofs.lemmas.List.Elements.{All-cons, All-nil, All-tail}
use Rattle.tla_values.specs.declared.value.Value.{Value}
use Rattle.cell_arena.specs.declared.kinds.CellId.{CellId}
use Rattle.cell_arena.specs.Cells.{Cells as Arena}
use Rattle.cell_arena.specs.Decode.{decode}
use Rattle.kernel_trees.specs.declared.path.AssignedStep.{AssignedStep}
use Rattle.kernel_trees.specs.declared.path.AssignedStep.TheVariants as mark
use Rattle.kernel_trees.specs.Assignments.{assigned_by, is_in}
use Rattle.kernel_trees.specs.Picks.{picking}
use Rattle.tla_meaning.specs.Scopes.{Scope}
use Rattle.path_walks.specs.Steps.{assigns, front_picks, own_picks, scope_past}
use Rattle.path_walks.specs.Paths.{picked}
use Rattle.path_walks.specs.inner.Walks.{AreCounted, scope_after}

pub picked_more : (c : Arena) (a : List Bool) (picks : List (List CellId)) (z : AssignedStep) (ids : List CellId) →
    picked c a (picks ++ own_picks z ids) ≡ picked c a picks ++ own_picks z (map (decode c a) ids)
picked_more c a [] (mark.Guard k b) ids = refl
picked_more c a [] (mark.Pick ps) ids = refl
picked_more c a [] (mark.Equals i e) ids = refl
picked_more c a [] (mark.Among i e) ids = refl
picked_more c a (p ∷ picks) z ids = ap (λ l. map (decode c a) p ∷ l) (picked_more c a picks z ids)

pub counted_more : (zs : List AssignedStep) (z : AssignedStep) (picks : List (List CellId)) (ids : List CellId) → AreCounted zs picks →
    AreCounted (zs ++ z ∷ []) (picks ++ own_picks z ids)
counted_more [] z (p ∷ picks) ids h = absurd h
counted_more [] (mark.Guard k b) [] ids h = tt
counted_more [] (mark.Pick ps) [] ids h = tt
counted_more [] (mark.Equals i e) [] ids h = tt
counted_more [] (mark.Among i e) [] ids h = tt
counted_more (mark.Guard k b ∷ zs) z picks ids h = counted_more zs z picks ids h
counted_more (mark.Pick ps ∷ zs) z [] ids h = absurd h
counted_more (mark.Pick ps ∷ zs) z (p ∷ picks) ids h = counted_more zs z picks ids h
counted_more (mark.Equals i e ∷ zs) z picks ids h = counted_more zs z picks ids h
counted_more (mark.Among i e ∷ zs) z picks ids h = counted_more zs z picks ids h

pub counted_map : {X Y : Type 0} (f : X → Y) (zs : List AssignedStep) (xs : List X) → AreCounted zs xs → AreCounted zs (map f xs)
counted_map f [] [] h = tt
counted_map f [] (x ∷ xs) h = absurd h
counted_map f (mark.Guard k b ∷ zs) xs h = counted_map f zs xs h
counted_map f (mark.Pick ps ∷ zs) [] h = absurd h
counted_map f (mark.Pick ps ∷ zs) (x ∷ xs) h = counted_map f zs xs h
counted_map f (mark.Equals i e ∷ zs) xs h = counted_map f zs xs h
counted_map f (mark.Among i e ∷ zs) xs h = counted_map f zs xs h

-- the scope behind one step more
pub scope_more : (zs : List AssignedStep) (z : AssignedStep) (vss : List (List Value)) (vs : List Value) (sc : Scope) → AreCounted zs vss →
    scope_after (zs ++ z ∷ []) (vss ++ own_picks z vs) sc ≡ scope_past z vs (scope_after zs vss sc)
scope_more [] z (us ∷ vss) vs sc h = absurd h
scope_more [] (mark.Guard e b) [] vs sc h = refl
scope_more [] (mark.Pick ps) [] vs sc h = refl
scope_more [] (mark.Equals i e) [] vs sc h = refl
scope_more [] (mark.Among i e) [] vs sc h = refl
scope_more (mark.Guard e b ∷ ys) z vss vs sc h = scope_more ys z vss vs sc h
scope_more (mark.Pick ps ∷ ys) z [] vs sc h = absurd h
scope_more (mark.Pick ps ∷ ys) z (us ∷ vss) vs sc h = scope_more ys z vss vs (picking ps us sc) h
scope_more (mark.Equals i e ∷ ys) z vss vs sc h = scope_more ys z vss vs sc h
scope_more (mark.Among i e ∷ ys) z vss vs sc h = scope_more ys z vss vs sc h

-- all of them, of all steps
pub front_all : (zs : List AssignedStep) (picks : List (List CellId)) → AreCounted zs picks → front_picks zs picks ≡ picks
front_all [] [] h = refl
front_all [] (p ∷ picks) h = absurd h
front_all (mark.Guard k b ∷ zs) picks h = front_all zs picks h
front_all (mark.Pick ps ∷ zs) [] h = absurd h
front_all (mark.Pick ps ∷ zs) (p ∷ picks) h = ap (λ l. p ∷ l) (front_all zs picks h)
front_all (mark.Equals i e ∷ zs) picks h = front_all zs picks h
front_all (mark.Among i e ∷ zs) picks h = front_all zs picks h

-- the first steps keep theirs
pub front_more : (front back : List AssignedStep) (picks more : List (List CellId)) → AreCounted (front ++ back) picks →
    front_picks front (picks ++ more) ≡ front_picks front picks
front_more [] back picks more h = refl
front_more (mark.Guard k b ∷ zs) back picks more h = front_more zs back picks more h
front_more (mark.Pick ps ∷ zs) back [] more h = absurd h
front_more (mark.Pick ps ∷ zs) back (p ∷ picks) more h = ap (λ l. p ∷ l) (front_more zs back picks more h)
front_more (mark.Equals i e ∷ zs) back picks more h = front_more zs back picks more h
front_more (mark.Among i e ∷ zs) back picks more h = front_more zs back picks more h

-- and are among them
module _ (P : List CellId → Type 0) where
  head_of : (p : List CellId) (picks : List (List CellId)) → All P (p ∷ picks) → P p
  head_of p picks t = t 0 p (omega arith)

  tail_of : (p : List CellId) (picks : List (List CellId)) → All P (p ∷ picks) → All P picks
  tail_of p picks t = All-tail P p picks t

  pub front_there : (zs : List AssignedStep) (picks : List (List CellId)) → All P picks → All P (front_picks zs picks)
  front_there [] picks t = All-nil P
  front_there (mark.Guard k b ∷ zs) picks t = front_there zs picks t
  front_there (mark.Pick ps ∷ zs) [] t = All-nil P
  front_there (mark.Pick ps ∷ zs) (p ∷ picks) t = All-cons P p (front_picks zs picks) (head_of p picks t) (front_there zs picks (tail_of p picks t))
  front_there (mark.Equals i e ∷ zs) picks t = front_there zs picks t
  front_there (mark.Among i e ∷ zs) picks t = front_there zs picks t

  pub own_there : (z : AssignedStep) (ids : List CellId) → P ids → All P (own_picks z ids)
  own_there (mark.Guard k b) ids t = All-nil P
  own_there (mark.Pick ps) ids t = All-cons P ids [] t (All-nil P)
  own_there (mark.Equals i e) ids t = All-nil P
  own_there (mark.Among i e) ids t = All-nil P

-- ---- what is assigned

or_right : (p : Bool) → (p || false) ≡ p
or_right true = refl
or_right false = refl

any_append : (i : ℕ) (xs ys : List ℕ) → is_in (xs ++ ys) i ≡ (is_in xs i || is_in ys i)
any_append i [] ys = refl
any_append i (x ∷ xs) ys = by (nat_eq i x) (any_append i xs ys)
  where
    by : (p : Bool) → is_in (xs ++ ys) i ≡ (is_in xs i || is_in ys i) → (p || is_in (xs ++ ys) i) ≡ ((p || is_in xs i) || is_in ys i)
    by true e = refl
    by false e = e

assigned_append : (xs ys : List AssignedStep) → flat_map assigned_by (xs ++ ys) ≡ flat_map assigned_by xs ++ flat_map assigned_by ys
assigned_append [] ys = refl
assigned_append (x ∷ xs) ys =
    ap (λ l. assigned_by x ++ l) (assigned_append xs ys) ∙ sym (append_assoc (assigned_by x) (flat_map assigned_by xs) (flat_map assigned_by ys))

pub assigns_append : (xs ys : List AssignedStep) (i : ℕ) → assigns (xs ++ ys) i ≡ (assigns xs i || assigns ys i)
assigns_append xs ys i =
    ap (λ l. is_in l i) (assigned_append xs ys) ∙ any_append i (flat_map assigned_by xs) (flat_map assigned_by ys)

nil_end : (xs : List ℕ) → xs ++ [] ≡ xs
nil_end [] = refl
nil_end (x ∷ xs) = ap (λ l. x ∷ l) (nil_end xs)

pub assigns_one : (z : AssignedStep) (i : ℕ) → assigns (z ∷ []) i ≡ is_in (assigned_by z) i
assigns_one z i = ap (λ l. is_in l i) (nil_end (assigned_by z))

or_cases : (p q : Bool) → (p || q) ≡ true → (p ≡ true) ⊎ (q ≡ true)
or_cases true q e = inl refl
or_cases false q e = inr e

or_left : (p q : Bool) → p ≡ true → (p || q) ≡ true
or_left true q e = refl
or_left false q e = absurd (cc)

or_second : (p q : Bool) → q ≡ true → (p || q) ≡ true
or_second true q e = refl
or_second false q e = e

or_neither : (p q : Bool) → (p || q) ≡ false → (p ≡ false) × (q ≡ false)
or_neither true q e = absurd (cc)
or_neither false q e = (refl, e)

pub assigns_last : (zs : List AssignedStep) (z : AssignedStep) (i : ℕ) → assigns (zs ++ z ∷ []) i ≡ true →
    (assigns zs i ≡ true) ⊎ (is_in (assigned_by z) i ≡ true)
assigns_last zs z i e =
    or_cases (assigns zs i) (is_in (assigned_by z) i)
    (sym (assigns_append zs (z ∷ []) i ∙ ap (λ (b : Bool). assigns zs i || b) (assigns_one z i)) ∙ e)

pub assigns_neither : (zs : List AssignedStep) (z : AssignedStep) (i : ℕ) → assigns (zs ++ z ∷ []) i ≡ false →
    (assigns zs i ≡ false) × (is_in (assigned_by z) i ≡ false)
assigns_neither zs z i e =
    or_neither (assigns zs i) (is_in (assigned_by z) i)
    (sym (assigns_append zs (z ∷ []) i ∙ ap (λ (b : Bool). assigns zs i || b) (assigns_one z i)) ∙ e)

pub assigns_before : (xs ys : List AssignedStep) (i : ℕ) → assigns xs i ≡ true → assigns (xs ++ ys) i ≡ true
assigns_before xs ys i e = assigns_append xs ys i ∙ or_left (assigns xs i) (assigns ys i) e

pub assigns_here : (zs : List AssignedStep) (z : AssignedStep) (i : ℕ) → is_in (assigned_by z) i ≡ true → assigns (zs ++ z ∷ []) i ≡ true
assigns_here zs z i e =
    assigns_append zs (z ∷ []) i ∙ or_second (assigns zs i) (assigns (z ∷ []) i) (assigns_one z i ∙ e)

-- ---- the last step, or one before it

pub data Place (zs : List AssignedStep) (z : AssignedStep) (front : List AssignedStep) (y : AssignedStep) (back : List AssignedStep) : Type 0 where
  last : front ≡ zs → y ≡ z → Place zs z front y back
  earlier : (rest : List AssignedStep) → zs ≡ front ++ y ∷ rest → Place zs z front y back

pub place_of : (zs : List AssignedStep) (z : AssignedStep) (front : List AssignedStep) (y : AssignedStep) (back : List AssignedStep) →
    zs ++ z ∷ [] ≡ front ++ y ∷ back → Place zs z front y back
place_of [] z [] y back e = last refl (cc)
place_of [] z (x ∷ []) y back e = absurd (cc)
place_of [] z (x ∷ w ∷ front) y back e = absurd (cc)
place_of (x ∷ zs) z [] y back e = earlier zs (let q : x ≡ y = cc in ap (λ u. u ∷ zs) q)
place_of (x ∷ zs) z (w ∷ front) y back e =
    by (place_of zs z front y back (cc))
  where
    by : Place zs z front y back → Place (x ∷ zs) z (w ∷ front) y back
    by (last p q) = last (let r : w ≡ x = cc in ap (λ (u : AssignedStep). u ∷ front) r ∙ ap (λ l. x ∷ l) p) q
    by (earlier rest p) = earlier rest (let r : x ≡ w = cc in ap (λ (u : AssignedStep). u ∷ zs) r ∙ ap (λ l. w ∷ l) p)
