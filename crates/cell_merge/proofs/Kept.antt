-- Items that count, in two lists, by flags.
use Rattle.std.proofs.Common.{◌≡◌, ℕ, zero, suc, ◌<◌, Bool, true, false, ◌&&◌, ◌||◌, not, List, [], ◌∷◌, ◌++◌, map, length, get_or, refl, ap, ◌∙◌, sym, subst, arith}
use Rattle.std.specs.Prelude.{if◌then◌else◌}
use Rattle.tla_values.specs.Order.{same_value}
use Rattle.tla_values.specs.Sets.{member, subset}
use Rattle.tla_values.specs.declared.value.Value.{Value}
use Rattle.tla_values.proofs.Extensional.{same_equal, same_itself, true_test}
use Rattle.cell_merge.specs.inner.Items.{kept, Agree}
use Rattle.cell_merge.specs.inner.Crosses.{any_both, each_holds, crossed}

pub same_turned : (v w : Value) → same_value v w ≡ same_value w v
same_turned v w = true_test _ _
    (λ e. subst (λ u. same_value u v ≡ true) (same_equal v w e) (same_itself v))
    (λ e. subst (λ u. same_value u w ≡ true) (same_equal w v e) (same_itself w))

pub agree-push : (bs ps qs : List Bool) (b p q : Bool) → Agree bs ps qs → (b ≡ true → p ≡ q) → Agree (bs ++ b ∷ []) (ps ++ p ∷ []) (qs ++ q ∷ [])
agree-push [] [] [] b p q h e = (e, tt)
agree-push [] [] (y ∷ qs) b p q h e = absurd h
agree-push [] (x ∷ ps) qs b p q h e = absurd h
agree-push (c ∷ bs) [] qs b p q h e = absurd h
agree-push (c ∷ bs) (x ∷ ps) [] b p q h e = absurd h
agree-push (c ∷ bs) (x ∷ ps) (y ∷ qs) b p q h e = (h.0, agree-push bs ps qs b p q h.1 e)

guarded : (b p q : Bool) → (b ≡ true → p ≡ q) → (not b || p) ≡ (not b || q)
guarded true p q h = h refl
guarded false p q h = refl

pub agree-holds : (bs ps qs : List Bool) → Agree bs ps qs → each_holds bs ps ≡ each_holds bs qs
agree-holds [] ps qs h = refl
agree-holds (b ∷ bs) [] qs h = absurd h
agree-holds (b ∷ bs) (p ∷ ps) [] h = absurd h
agree-holds (b ∷ bs) (p ∷ ps) (q ∷ qs) h = ap (λ t. t && each_holds bs ps) (guarded b p q h.0) ∙ ap (λ t. (not b || q) && t) (agree-holds bs ps qs h.1)

pub any-kept : (v : Value) (ms row : List Bool) (ys : List Value) → Agree ms row (map (same_value v) ys) → any_both ms row ≡ member v (kept ms ys)
any-kept v [] row ys h = refl
any-kept v (m ∷ ms) [] ys h = absurd h
any-kept v (m ∷ ms) (r ∷ row) [] h = absurd h
any-kept v (true ∷ ms) (r ∷ row) (y ∷ ys) h = ap (λ t. t || any_both ms row) (h.0 refl) ∙ ap (λ t. same_value v y || t) (any-kept v ms row ys h.1)
any-kept v (false ∷ ms) (r ∷ row) (y ∷ ys) h = any-kept v ms row ys h.1

-- one kept value more
abbrev pub more : Bool → List Value → Value → List Value
more l zs x = if l then zs ++ x ∷ [] else zs

any-push : (v x : Value) (zs : List Value) → member v (zs ++ x ∷ []) ≡ (member v zs || same_value v x)
any-push v x [] = last (same_value v x)
  where
    last : (p : Bool) → (p || false) ≡ p
    last true = refl
    last false = refl
any-push v x (z ∷ zs) = ap (λ t. same_value v z || t) (any-push v x zs) ∙ assoc (same_value v z) (member v zs) (same_value v x)
  where
    assoc : (p q r : Bool) → (p || (q || r)) ≡ ((p || q) || r)
    assoc true q r = refl
    assoc false q r = refl

pub member-more : (v x : Value) (l : Bool) (zs : List Value) → member v (more l zs x) ≡ (member v zs || (l && same_value v x))
member-more v x true zs = any-push v x zs
member-more v x false zs = last (member v zs)
  where
    last : (p : Bool) → p ≡ (p || false)
    last true = refl
    last false = refl

pub crossed-agree : (x : Value) (l : Bool) (zs : List Value) (ms cs row : List Bool) (ys : List Value) → Agree ms cs (map (λ y. member y zs) ys) → (l ≡ true → Agree ms row (map (same_value x) ys)) → length row ≡ length ms
    → Agree ms (crossed l cs row) (map (λ y. member y (more l zs x)) ys)
crossed-agree x l zs [] [] row [] h g n = tt
crossed-agree x l zs [] [] row (y ∷ ys) h g n = absurd h
crossed-agree x l zs [] (c ∷ cs) row ys h g n = absurd h
crossed-agree x l zs (m ∷ ms) [] row ys h g n = absurd h
crossed-agree x l zs (m ∷ ms) (c ∷ cs) row [] h g n = absurd h
crossed-agree x l zs (m ∷ ms) (c ∷ cs) [] (y ∷ ys) h g n = absurd (omega arith)
crossed-agree x l zs (m ∷ ms) (c ∷ cs) (r ∷ row) (y ∷ ys) h g n = (
  λ on. ap (λ t. t || (l && r)) (h.0 on) ∙ ap (λ t. member y zs || t) (step l (λ e. (g e).0 on ∙ same_turned x y)) ∙ sym (member-more y x l zs),
  crossed-agree x l zs ms cs row ys h.1 (λ e. (g e).1) (omega arith),
)
  where
    step : (l : Bool) → (l ≡ true → r ≡ same_value y x) → (l && r) ≡ (l && same_value y x)
    step true e = e refl
    step false e = refl

-- nothing is covered by nothing
pub agree-none : (ms cs : List Bool) (ys : List Value) → length cs ≡ length ms → length ys ≡ length ms → ((i : ℕ) → i < length cs → get_or cs i false ≡ false) → Agree ms cs (map (λ y. member y []) ys)
agree-none [] [] [] n k h = tt
agree-none [] [] (y ∷ ys) n k h = absurd (omega arith)
agree-none [] (c ∷ cs) ys n k h = absurd (omega arith)
agree-none (m ∷ ms) [] ys n k h = absurd (omega arith)
agree-none (m ∷ ms) (c ∷ cs) [] n k h = absurd (omega arith)
agree-none (m ∷ ms) (c ∷ cs) (y ∷ ys) n k h = (λ e. h zero (omega arith), agree-none ms cs ys (omega arith) (omega arith) (λ i lt. h (suc i) (omega arith)))

pub holds-subset : (ms : List Bool) (ys zs : List Value) → each_holds ms (map (λ y. member y zs) ys) ≡ subset (kept ms ys) zs
holds-subset [] ys zs = refl
holds-subset (m ∷ ms) [] zs = refl
holds-subset (true ∷ ms) (y ∷ ys) zs = ap (λ t. member y zs && t) (holds-subset ms ys zs)
holds-subset (false ∷ ms) (y ∷ ys) zs = holds-subset ms ys zs

pub kept-push : (ls : List Bool) (xs : List Value) (l : Bool) (x : Value) → length ls ≡ length xs → kept (ls ++ l ∷ []) (xs ++ x ∷ []) ≡ more l (kept ls xs) x
kept-push [] [] true x n = refl
kept-push [] [] false x n = refl
kept-push [] (y ∷ xs) l x n = absurd (omega arith)
kept-push (m ∷ ls) [] l x n = absurd (omega arith)
kept-push (true ∷ ls) (y ∷ xs) l x n = ap (λ zs. y ∷ zs) (kept-push ls xs l x (omega arith)) ∙ front l
  where
    front : (l : Bool) → (y ∷ more l (kept ls xs) x) ≡ more l (y ∷ kept ls xs) x
    front true = refl
    front false = refl
kept-push (false ∷ ls) (y ∷ xs) l x n = kept-push ls xs l x (omega arith)

-- each kept value of the one is among those of the other, and the other way round
pub mutual-kept : (ls ms fs cs : List Bool) (xs ys : List Value) → Agree ls fs (map (λ x. member x (kept ms ys)) xs) → Agree ms cs (map (λ y. member y (kept ls xs)) ys)
    → (each_holds ls fs && each_holds ms cs) ≡ (subset (kept ls xs) (kept ms ys) && subset (kept ms ys) (kept ls xs))
mutual-kept ls ms fs cs xs ys h g =
    ap (λ t. t && each_holds ms cs) (agree-holds ls fs _ h ∙ holds-subset ls xs (kept ms ys))
    ∙ ap (λ t. subset (kept ls xs) (kept ms ys) && t) (agree-holds ms cs _ g ∙ holds-subset ms ys (kept ls xs))
