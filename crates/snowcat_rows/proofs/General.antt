-- Most general substitutions with rows, reached by bindings.
use Rattle.std.proofs.Common.{◌≡◌, ℕ, ◌+◌, ◌<◌, ◌≤◌, Bool, true, false, ◌==◌, ◌||◌, if◌then◌else◌, inl, inr, List, [], ◌∷◌, ◌++◌, refl, ap, sym, ◌∙◌, subst, arith, append_assoc, Option, Some, None}
use Rattle.std.proofs.lemmas.Bool.Decides.{eqb_tells}
use Rattle.snowcat_rows.specs.Types.{Term, Slot, var, con, app, fields, none, some}
use Rattle.snowcat_rows.specs.Substitutions.{Row, Sub, apply, apply_slot, apply_row, or_else, tail_row, then_sub, Fits, Extends, MostGeneral, Apart, Sorted, SortedSlot, Present, Fronts, Agree, Lifted, Unified}
use Rattle.snowcat_rows.specs.Chains.{Variable, type_var, row_var, number, Binding, to_type, to_row, solved, sub_of, Occurs, OccursSlot, OccursRow, OccursIn, key, Keeps, Solves, Absent, Chain}
use Rattle.snowcat_rows.proofs.RowTheory.{apply_apply, row_row, solved_kept, solved_is, chain_first, chain_solves, renewed, rest_row, renewed_off, renewed_at}
use Rattle.snowcat_rows.specs.inner.Rounds.{only, others, Is}
use Rattle.snowcat_rows.proofs.Sorts.{more_fronts, is_some, keeps_left}
use Rattle.snowcat_rows.specs.Sorting.{Follows, RowSorted, BindingSorted, AllSorted, Within, BindingWithin, AllWithin}

agree_tail : (n : ℕ) (s t : Sub) (k : Option ℕ) → Agree n s t → ((v : ℕ) → k ≡ Some v → v < n) → tail_row s k ≡ tail_row t k
agree_tail n s t None a h = refl
agree_tail n s t (Some v) a h = a.rows v (h v refl)

mutual
  pub apply_agree : (n : ℕ) (s t : Sub) (u : Term) → Agree n s t → ((v : Variable) → Occurs v u → number v < n) → apply s u ≡ apply t u
  apply_agree n s t (var v) a h = a.types v (h (type_var v) refl)
  apply_agree n s t (con c) a h = refl
  apply_agree n s t (app x y) a h = λ i. app (apply_agree n s t x a (λ v o. h v (inl o)) i) (apply_agree n s t y a (λ v o. h v (inr o)) i)
  apply_agree n s t (fields f k) a h =
      let e : tail_row s k ≡ tail_row t k = agree_tail n s t k a (λ v o. h (row_var v) (inr o)) in
      λ i. fields (λ x. or_else (slot_agree n s t (f x) a (λ v o. h v (inl (x, o))) i) ((e i).at x)) (e i).tail

  slot_agree : (n : ℕ) (s t : Sub) (x : Slot) → Agree n s t → ((v : Variable) → OccursSlot v x → number v < n) → apply_slot s x ≡ apply_slot t x
  slot_agree n s t none a h = refl
  slot_agree n s t (some y) a h = ap some (apply_agree n s t y a h)

pub row_agree : (n : ℕ) (s t : Sub) (w : Row) → Agree n s t → ((v : Variable) → OccursRow v w → number v < n) → apply_row s w ≡ apply_row t w
row_agree n s t w a h =
    let e : tail_row s w.tail ≡ tail_row t w.tail = agree_tail n s t w.tail a (λ v o. h (row_var v) (inr o)) in
    λ i. record { at = λ x. or_else (slot_agree n s t (w.at x) a (λ v o. h v (inl (x, o))) i) ((e i).at x); tail = (e i).tail }

keeps_agree : (n : ℕ) (s t : Sub) (b : Binding) → Agree n s t → BindingWithin n b → Keeps s b → Keeps t b
keeps_agree n s t (to_type v u) a h k = sym (a.types v h.0) ∙ k ∙ apply_agree n s t u a h.1
keeps_agree n s t (to_row v w) a h k = sym (a.rows v h.0) ∙ k ∙ row_agree n s t w a h.1

pub solves_agree : (n : ℕ) (s t : Sub) (bs : List Binding) → Agree n s t → AllWithin n bs → Solves s bs → Solves t bs
solves_agree n s t [] a h k = tt
solves_agree n s t (b ∷ bs) a h k = (keeps_agree n s t b a h.0 k.0, solves_agree n s t bs a h.1 k.1)

keeps_then : (r s : Sub) (b : Binding) → Keeps s b → Keeps (then_sub r s) b
keeps_then r s (to_type v u) k = ap (apply r) k ∙ apply_apply r s u
keeps_then r s (to_row v w) k = ap (apply_row r) k ∙ row_row r s w.at w.tail

pub solves_then : (r s : Sub) (bs : List Binding) → Solves s bs → Solves (then_sub r s) bs
solves_then r s [] h = tt
solves_then r s (b ∷ bs) h = (keeps_then r s b h.0, solves_then r s bs h.1)

pub Solves-append : (s : Sub) (bs cs : List Binding) → Solves s bs → Solves s cs → Solves s (bs ++ cs)
Solves-append s [] cs h k = k
Solves-append s (b ∷ bs) cs h k = (h.0, Solves-append s bs cs h.1 k)

pub Solves-left : (s : Sub) (bs cs : List Binding) → Solves s (bs ++ cs) → Solves s bs
Solves-left s [] cs h = tt
Solves-left s (b ∷ bs) cs h = (h.0, Solves-left s bs cs h.1)

-- ---- what was reached

-- a solution of all the bindings, the same on the variables that were there
pub record Kept (n m : ℕ) (l : Fronts) (s : Sub) (cs : List Binding) : Type 0 where
  pub to : Sub
  pub agree : Agree n s to
  pub fits : Fits m l to
  pub solves : Solves to cs

-- m variables are issued now and n were before; cs is bs and more, all of which follows where a and b are equal
pub record Reached (n m : ℕ) (l k : Fronts) (bs cs : List Binding) (a b : Term) : Type 0 where
  pub chain : Chain cs
  pub within : AllWithin m cs
  pub sorted : AllSorted k cs
  pub more : n ≤ m
  pub fronts : (v : ℕ) → v < n → (x : List ℕ) → k v x ≡ l v x
  pub added : (ds : List Binding) × (cs ≡ bs ++ ds)
  pub kept : (s : Sub) → Fits n l s → Solves s bs → apply s a ≡ apply s b → Kept n m k s cs

module _ (n m : ℕ) (l k : Fronts) (bs cs : List Binding) (a b : Term) (r : Reached n m l k bs cs a b) (chained : Chain bs) (wa : Within n a) (wb : Within n b) where
  module _ (u : Sub) (fu : Fits n l u) (h : Extends n (sub_of bs) u) (e : apply u a ≡ apply u b) where
    solution : Sub
    solution = then_sub h.rest (sub_of bs)

    agrees : Agree n u solution
    unfolding solution
    agrees = record { types = h.types; rows = h.rows }

    fitting : Fits n l solution
    fitting v lt x p = ap (λ (w : Row). w.at x) (sym (agrees.rows v lt)) ∙ fu v lt x p

    solving : Solves solution bs
    unfolding solution
    solving = solves_then h.rest (sub_of bs) bs (chain_solves bs chained)

    equal_here : apply solution a ≡ apply solution b
    equal_here = sym (apply_agree n u solution a agrees wa) ∙ e ∙ apply_agree n u solution b agrees wb

    all_kept : Kept n m k solution cs
    all_kept = r.kept solution fitting solving equal_here

    first : then_sub all_kept.to (sub_of cs) ≡ all_kept.to
    first = chain_first all_kept.to cs all_kept.solves

    pub extends_all : Extends n (sub_of cs) u
    extends_all = record {
      rest = all_kept.to;
      types = λ v lt. agrees.types v lt ∙ all_kept.agree.types v lt ∙ ap (λ (s : Sub). s.type_of v) (sym first);
      rows = λ v lt. agrees.rows v lt ∙ all_kept.agree.rows v lt ∙ ap (λ (s : Sub). s.row_of v) (sym first);
    }

    pub lifted : Lifted n m k u (sub_of cs)
    lifted = record {
      to = all_kept.to;
      agree = record { types = λ v lt. agrees.types v lt ∙ all_kept.agree.types v lt; rows = λ v lt. agrees.rows v lt ∙ all_kept.agree.rows v lt };
      fits = all_kept.fits;
      extends = record { rest = all_kept.to; types = λ v lt. ap (λ (s : Sub). s.type_of v) (sym first); rows = λ v lt. ap (λ (s : Sub). s.row_of v) (sym first) };
    }

    -- what all solutions of the bindings are to make equal, and none does
    pub none_here : (x y : Term) → ((s : Sub) → Fits m k s → apply s (solved cs a) ≡ apply s (solved cs b) → apply s x ≡ apply s y) →
        ((s : Sub) → Fits m k s → apply s x ≡ apply s y → ⊥) → ⊥
    none_here x y f never =
        let t = all_kept.to in
        let ta = apply_agree n solution t a all_kept.agree wa in
        let tb = apply_agree n solution t b all_kept.agree wb in
        never t all_kept.fits (f t all_kept.fits (solved_kept t cs a all_kept.solves ∙ sym ta ∙ equal_here ∙ tb ∙ sym (solved_kept t cs b all_kept.solves)))

  pub most_general : solved cs a ≡ solved cs b → MostGeneral n l (sub_of bs) a b (sub_of cs)
  most_general e = record {
    extends = own;
    equal = sym (solved_is cs a) ∙ e ∙ solved_is cs b;
    general = λ u f h k. extends_all u f h k;
  }
    where
      own_solves : Solves (sub_of cs) bs
      own_solves = Solves-left (sub_of cs) bs r.added.0 (let P : List Binding → Type 0 = λ z. Solves (sub_of cs) z in subst P r.added.1 (chain_solves cs r.chain))

      own_first : then_sub (sub_of cs) (sub_of bs) ≡ sub_of cs
      own_first = chain_first (sub_of cs) bs own_solves

      own : Extends n (sub_of bs) (sub_of cs)
      own = record {
        rest = sub_of cs;
        types = λ v lt. ap (λ (s : Sub). s.type_of v) (sym own_first);
        rows = λ v lt. ap (λ (s : Sub). s.row_of v) (sym own_first);
      }

  pub unified : solved cs a ≡ solved cs b → Unified n m l k (sub_of bs) a b (sub_of cs)
  unified e = record { extends = (most_general e).extends; equal = (most_general e).equal; general = λ u f h g. lifted u f h g }

  pub apart : (x y : Term) → ((s : Sub) → Fits m k s → apply s (solved cs a) ≡ apply s (solved cs b) → apply s x ≡ apply s y) →
      ((s : Sub) → Fits m k s → apply s x ≡ apply s y → ⊥) → Apart n l (sub_of bs) a b
  apart x y f never u fu h e = none_here u fu h e x y f never

-- ---- a step with no new variable

abbrev pub Unbound : List Binding → Binding → Type 0
Unbound [] b = Unit {0}
Unbound (c ∷ cs) b = (key c ≡ key b → ⊥) × ((OccursIn (key c) b → ⊥) × Unbound cs b)

pub Absent-snoc : (v : Variable) (bs : List Binding) (b : Binding) → Absent v bs → (v ≡ key b → ⊥) → (OccursIn v b → ⊥) → Absent v (bs ++ b ∷ [])
Absent-snoc v [] b a n f = (n, (f, tt))
Absent-snoc v (c ∷ bs) b a n f = (a.0, (a.1.0, Absent-snoc v bs b a.1.1 n f))

pub Chain-snoc : (bs : List Binding) (b : Binding) → Chain bs → Unbound bs b → (OccursIn (key b) b → ⊥) → Chain (bs ++ b ∷ [])
Chain-snoc [] b c u f = (f, (tt, tt))
Chain-snoc (d ∷ bs) b c u f = (c.0, (Absent-snoc (key d) bs b c.1.0 u.0 u.1.0, Chain-snoc bs b c.1.1 u.1.1 f))

pub AllWithin-snoc : (n : ℕ) (bs : List Binding) (b : Binding) → AllWithin n bs → BindingWithin n b → AllWithin n (bs ++ b ∷ [])
AllWithin-snoc n [] b h k = (k, tt)
AllWithin-snoc n (c ∷ bs) b h k = (h.0, AllWithin-snoc n bs b h.1 k)

AllSorted-snoc : (l : Fronts) (bs : List Binding) (b : Binding) → AllSorted l bs → BindingSorted l b → AllSorted l (bs ++ b ∷ [])
AllSorted-snoc l [] b h k = (k, tt)
AllSorted-snoc l (c ∷ bs) b h k = (h.0, AllSorted-snoc l bs b h.1 k)

pub step : (n m : ℕ) (l k : Fronts) (bs cs : List Binding) (a b : Term) (d : Binding) → Reached n m l k bs cs a b → Within n a → Within n b →
    Unbound cs d → (OccursIn (key d) d → ⊥) → BindingWithin m d → BindingSorted k d →
    ((s : Sub) → Fits m k s → apply s (solved cs a) ≡ apply s (solved cs b) → Keeps s d) → Reached n m l k bs (cs ++ d ∷ []) a b
step n m l k bs cs a b d r wa wb un free wd sd forced = record {
  chain = Chain-snoc cs d r.chain un free;
  within = AllWithin-snoc m cs d r.within wd;
  sorted = AllSorted-snoc k cs d r.sorted sd;
  more = r.more;
  fronts = r.fronts;
  added = (r.added.0 ++ d ∷ [], ap (λ z. z ++ d ∷ []) r.added.1 ∙ append_assoc bs r.added.0 (d ∷ []));
  kept = λ s f h e. again s (r.kept s f h e) e;
}
  where
    again : (s : Sub) → Kept n m k s cs → apply s a ≡ apply s b → Kept n m k s (cs ++ d ∷ [])
    again s w e = record {
      to = w.to;
      agree = w.agree;
      fits = w.fits;
      solves = Solves-append w.to cs (d ∷ []) w.solves (forced w.to w.fits (solved_kept w.to cs a w.solves ∙ sym (apply_agree n s w.to a w.agree wa) ∙ e ∙ apply_agree n s w.to b w.agree wb ∙ sym (solved_kept w.to cs b w.solves)), tt);
    }

-- ---- a step with a new row variable

pub AllWithin-more : (m : ℕ) (bs : List Binding) → AllWithin m bs → AllWithin (m + 1) bs
AllWithin-more m [] h = tt
AllWithin-more m (b ∷ bs) h = ((wider (number (key b)) h.0.0, λ v o. wider (number v) (h.0.1 v o)), AllWithin-more m bs h.1)
  where
    wider : (v : ℕ) → v < m → v < m + 1
    wider v l = omega arith

pub renewed_agree : (m : ℕ) (s : Sub) (w : Row) → Agree m s (renewed s m w)
renewed_agree m s w = record { types = λ v lt. refl; rows = λ v lt. sym (renewed_off s m v w (apart_from v lt)) }
  where
    apart_from : (v : ℕ) → v < m → v ≡ m → ⊥
    apart_from v lt e = omega arith

agree_more : (n m : ℕ) (s t u : Sub) → n ≤ m → Agree n s t → Agree m t u → Agree n s u
agree_more n m s t u le a b = record {
  types = λ v lt. a.types v lt ∙ b.types v (wider v lt);
  rows = λ v lt. a.rows v lt ∙ b.rows v (wider v lt);
}
  where
    wider : (v : ℕ) → v < n → v < m
    wider v lt = omega arith

-- the new row variable's row lacks the names of both
fits_new : (m : ℕ) (k : Fronts) (s : Sub) (f g : List ℕ → Slot) (r : ℕ) → r < m → Fits m k s → ((n : List ℕ) → Present (f n) (k r n)) →
    Fits (m + 1) (more_fronts k m r g) (renewed s m (rest_row s f g r))
fits_new m k s f g r lt h p v lv x e =
    elim (eqb_tells v m) [
      | inl i ↦ ap (λ (w : Row). w.at x) (at_m v i.1) ∙ at_rest (f x) (g x) ((s.row_of r).at x) (k r x) (p x) (λ t. h r lt x t) (front_m v i.0 e)
      | inr i ↦ ap (λ (w : Row). w.at x) (renewed_off s m v (rest_row s f g r) i.1) ∙ h v (below v lv i.1) x (front_off v i.0 e)
    ]
  where
    at_m : (v : ℕ) → v ≡ m → (renewed s m (rest_row s f g r)).row_of v ≡ rest_row s f g r
    at_m v i = ap (renewed s m (rest_row s f g r)).row_of i ∙ renewed_at s m (rest_row s f g r)

    front_m : (v : ℕ) → (v == m) ≡ true → more_fronts k m r g v x ≡ true → (k r x || is_some (g x)) ≡ true
    front_m v i e = sym (chosen (v == m) i) ∙ e
      where
        chosen : (b : Bool) → b ≡ true → (if b then (k r x || is_some (g x)) else k v x) ≡ (k r x || is_some (g x))
        chosen true j = refl
        chosen false j = absurd (cc)

    front_off : (v : ℕ) → (v == m) ≡ false → more_fronts k m r g v x ≡ true → k v x ≡ true
    front_off v i e = sym (chosen (v == m) i) ∙ e
      where
        chosen : (b : Bool) → b ≡ false → (if b then (k r x || is_some (g x)) else k v x) ≡ k v x
        chosen true j = absurd (cc)
        chosen false j = refl

    below : (v : ℕ) → v < m + 1 → (v ≡ m → ⊥) → v < m
    below v l n = omega arith

    at_rest : (y z w : Slot) (b : Bool) → Present y b → (b ≡ true → w ≡ none) → (b || is_some z) ≡ true → only (only w y) z ≡ none
    at_rest y (some t) w b q c o = refl
    at_rest none none none b q c o = refl
    at_rest none none (some t) true q c o = absurd (q refl)
    at_rest none none (some t) false q c o = absurd (cc)
    at_rest (some u) none w b q c o = refl

-- ---- more fronts say the same of what was there

mutual
  pub sorted_agree : (k j : Fronts) (u : Term) → ((v : ℕ) → Occurs (row_var v) u → (x : List ℕ) → j v x ≡ k v x) → Sorted k u → Sorted j u
  sorted_agree k j (var v) e h = tt
  sorted_agree k j (con c) e h = tt
  sorted_agree k j (app a b) e h = (sorted_agree k j a (λ v o. e v (inl o)) h.0, sorted_agree k j b (λ v o. e v (inr o)) h.1)
  sorted_agree k j (fields f q) e h = (
    λ n. sorted_slot_agree k j (f n) (λ v o. e v (inl (n, o))) (h.0 n),
    λ r i n. (let P : Bool → Type 0 = λ b. Present (f n) b in subst P (sym (e r (inr i) n)) (h.1 r i n)),
  )

  pub sorted_slot_agree : (k j : Fronts) (x : Slot) → ((v : ℕ) → OccursSlot (row_var v) x → (n : List ℕ) → j v n ≡ k v n) → SortedSlot k x → SortedSlot j x
  sorted_slot_agree k j none e h = tt
  sorted_slot_agree k j (some t) e h = sorted_agree k j t e h

binding_agree : (m : ℕ) (k j : Fronts) (b : Binding) → ((v : ℕ) → v < m → (x : List ℕ) → j v x ≡ k v x) → BindingWithin m b → BindingSorted k b → BindingSorted j b
binding_agree m k j (to_type v t) e w h = sorted_agree k j t (λ q o. e q (w.1 (row_var q) o)) h
binding_agree m k j (to_row r y) e w h = record {
  slots = λ n. sorted_slot_agree k j (y.at n) (λ q o. e q (w.1 (row_var q) (inl (n, o)))) (h.slots n);
  follows = λ q i n. moved (y.at n) (k r n) (j r n) (k q n) (j q n) (e r w.0 n) (e q (w.1 (row_var q) (inr i)) n) (h.follows q i n);
}
  where
    moved : (x : Slot) (a b c d : Bool) → b ≡ a → d ≡ c → Follows x a c → Follows x b d
    moved none a b c d p q h = q ∙ h ∙ sym p
    moved (some t) a b c d p q h = (λ i. h.0 (sym p ∙ i), q ∙ h.1)

pub all_agree : (m : ℕ) (k j : Fronts) (bs : List Binding) → ((v : ℕ) → v < m → (x : List ℕ) → j v x ≡ k v x) → AllWithin m bs → AllSorted k bs → AllSorted j bs
all_agree m k j [] e w h = tt
all_agree m k j (b ∷ bs) e w h = (binding_agree m k j b e w.0 h.0, all_agree m k j bs e w.1 h.1)

pub fronts_off : (k : Fronts) (m r : ℕ) (g : List ℕ → Slot) (v : ℕ) → (v ≡ m → ⊥) → (x : List ℕ) → more_fronts k m r g v x ≡ k v x
fronts_off k m r g v n x = elim (eqb_tells v m) [ inl h ↦ absurd (n h.1) | inr h ↦ rw h.0 refl ]

pub fronts_at : (k : Fronts) (m r : ℕ) (g : List ℕ → Slot) (x : List ℕ) → more_fronts k m r g m x ≡ (k r x || is_some (g x))
fronts_at k m r g x = elim (eqb_tells m m) [ inl h ↦ rw h.0 refl | inr h ↦ absurd (h.1 refl) ]

-- the names of g that f lacks, and the new variable, may follow f
pub follows_new : (x y : Slot) (p q : Bool) → Present x p → q ≡ (p || is_some y) → Follows (only y x) p q
follows_new none none true q h e = absurd (h refl)
follows_new none none false q h e = e
follows_new none (some t) true q h e = absurd (h refl)
follows_new none (some t) false q h e = (λ i. absurd (cc), e)
follows_new (some u) none true q h e = e
follows_new (some u) none false q h e = absurd (cc)
follows_new (some u) (some t) true q h e = e
follows_new (some u) (some t) false q h e = absurd (cc)

-- the names of f that g lacks, and the new variable, may follow g
pub follows_other : (x y : Slot) (p c q : Bool) → Present x p → Present y c → q ≡ (p || is_some y) → Follows (only x y) c q
follows_other none none true c q h g e = absurd (h refl)
follows_other none none false true q h g e = absurd (g refl)
follows_other none none false false q h g e = e
follows_other none (some t) true c q h g e = absurd (h refl)
follows_other none (some t) false c q h g e = e ∙ sym g
follows_other (some u) none true c q h g e = (g, e)
follows_other (some u) none false c q h g e = absurd (cc)
follows_other (some u) (some t) true c q h g e = e ∙ sym g
follows_other (some u) (some t) false c q h g e = absurd (cc)

pub sorted_only : (k : Fronts) (x y : Slot) → SortedSlot k x → SortedSlot k (only x y)
sorted_only k x none h = h
sorted_only k x (some t) h = tt

pub occurs_only : (v : Variable) (x y : Slot) → OccursSlot v (only x y) → OccursSlot v x
occurs_only v x none o = o
occurs_only v x (some t) o = absurd o

-- one side stands after f and the other after g: the first variable gets the names that f lacks, and a new variable
module _ (n m : ℕ) (l k : Fronts) (bs cs : List Binding) (a b : Term) (f g : List ℕ → Slot) (r q : ℕ)
    (h : Reached n m l k bs cs a b) (wa : Within n a) (wb : Within n b)
    (sf : Sorted k (fields f (Some r))) (sg : Sorted k (fields g (Some q))) (wf : Within m (fields f (Some r))) (wg : Within m (fields g (Some q)))
    (un : Unbound cs (to_row r (others f g m))) (free : (x : List ℕ) → OccursSlot (row_var r) (only (g x) (f x)) → ⊥)
    (within : (s : Sub) → apply s (solved cs a) ≡ apply s (solved cs b) → apply s (fields f (Some r)) ≡ apply s (fields g (Some q))) where
  r_below : r < m
  r_below = wf (row_var r) (inr refl)

  q_below : q < m
  q_below = wg (row_var q) (inr refl)

  not_m : (v : ℕ) → v < m → v ≡ m → ⊥
  not_m v lt e = omega arith

  off : (v : ℕ) → v < m → (x : List ℕ) → more_fronts k m r g v x ≡ k v x
  off v lt x = fronts_off k m r g v (not_m v lt) x

  own_free : OccursRow (row_var r) (others f g m) → ⊥
  own_free (inl (x, o)) = free x o
  own_free (inr e) = not_m r r_below (some_is m r e)
    where
      some_is : (i j : ℕ) → Some i ≡ Some j → j ≡ i
      some_is i j p = cc

  own_within : (v : Variable) → OccursRow v (others f g m) → number v < m + 1
  own_within v (inl (x, o)) = let lt : number v < m = wg v (inl (x, occurs_only v (g x) (f x) o)) in omega (arith, lt)
  own_within (type_var w) (inr e) = absurd e
  own_within (row_var w) (inr e) = let i : w ≡ m = some_is m w e in omega (arith, i)
    where
      some_is : (i j : ℕ) → Some i ≡ Some j → j ≡ i
      some_is i j p = cc

  own_sorted : RowSorted (more_fronts k m r g) r (others f g m)
  own_sorted = record {
    slots = λ x. sorted_only (more_fronts k m r g) (g x) (f x) (sorted_slot_agree k (more_fronts k m r g) (g x) (λ v o. off v (wg (row_var v) (inl (x, o)))) (sg.0 x));
    follows = λ p e x.
        (let P : ℕ → Type 0 = λ z. Follows (only (g x) (f x)) (more_fronts k m r g r x) (more_fronts k m r g z x) in
        let w : Follows (only (g x) (f x)) (k r x) (more_fronts k m r g m x) = follows_new (f x) (g x) (k r x) (more_fronts k m r g m x) (sf.1 r refl x) (fronts_at k m r g x) in
        let Q : Bool → Type 0 = λ z. Follows (only (g x) (f x)) z (more_fronts k m r g m x) in
        subst P (some_is m p e) (subst Q (sym (off r r_below x)) w));
  }
    where
      some_is : (i j : ℕ) → Some i ≡ Some j → i ≡ j
      some_is i j p = cc

  from_present : (s : Sub) → Fits m k s → (v : ℕ) → v < m → (y : List ℕ → Slot) → ((x : List ℕ) → Present (y x) (k v x)) → (x : List ℕ) → Is (y x) → (s.row_of v).at x ≡ none
  from_present s fs v lt y p x i = at_slot (y x) (p x) i
    where
      at_slot : (z : Slot) → Present z (k v x) → Is z → (s.row_of v).at x ≡ none
      at_slot none c j = absurd j
      at_slot (some t) c j = fs v lt x c

  pub step_fresh : Reached n (m + 1) l (more_fronts k m r g) bs (cs ++ to_row r (others f g m) ∷ []) a b
  step_fresh = record {
    chain = Chain-snoc cs (to_row r (others f g m)) h.chain un own_free;
    within = AllWithin-snoc (m + 1) cs (to_row r (others f g m)) (AllWithin-more m cs h.within) (r_more, own_within);
    sorted = AllSorted-snoc (more_fronts k m r g) cs (to_row r (others f g m)) (all_agree m k (more_fronts k m r g) cs off h.within h.sorted) own_sorted;
    more = omega (arith, h.more);
    fronts = λ v lt x. off v (below_m v lt h.more) x ∙ h.fronts v lt x;
    added = (h.added.0 ++ to_row r (others f g m) ∷ [], ap (λ z. z ++ to_row r (others f g m) ∷ []) h.added.1 ∙ append_assoc bs h.added.0 (to_row r (others f g m) ∷ []));
    kept = λ s fs hs e. again s (h.kept s fs hs e) e;
  }
    where
      r_more : r < m + 1
      r_more = let lt = r_below in omega (arith, lt)

      below_m : (v : ℕ) → v < n → n ≤ m → v < m
      below_m v lt le = omega arith

      again : (s : Sub) → Kept n m k s cs → apply s a ≡ apply s b → Kept n (m + 1) (more_fronts k m r g) s (cs ++ to_row r (others f g m) ∷ [])
      again s w e =
          let eq : apply w.to (fields f (Some r)) ≡ apply w.to (fields g (Some q)) =
          within w.to (solved_kept w.to cs a w.solves ∙ sym (apply_agree n s w.to a w.agree wa) ∙ e ∙ apply_agree n s w.to b w.agree wb ∙ sym (solved_kept w.to cs b w.solves)) in
          let t : Sub = renewed w.to m (rest_row w.to f g r) in
          let ag : Agree m w.to t = renewed_agree m w.to (rest_row w.to f g r) in
          record {
            to = t;
            agree = agree_more n m s w.to t h.more w.agree ag;
            fits = fits_new m k w.to f g r r_below w.fits (sf.1 r refl);
            solves = Solves-append t cs (to_row r (others f g m) ∷ []) (solves_agree m w.to t cs ag h.within w.solves) (
              keeps_left k w.to f g r q m eq (from_present w.to w.fits r r_below f (sf.1 r refl)) (from_present w.to w.fits q q_below g (sg.1 q refl))
                  (not_m r r_below) (not_m q q_below) (λ x o. not_m m (wf (row_var m) (inl (x, o))) refl) (λ x o. not_m m (wg (row_var m) (inl (x, o))) refl),
              tt,
            );
          }

-- one side has every name of the other: the other's variable gets the names that it lacks, and what follows
module _ (s : Sub) (f g : List ℕ → Slot) (k : Option ℕ) (q : ℕ) (e : apply s (fields f k) ≡ apply s (fields g (Some q)))
    (lk : (x : List ℕ) → Is (f x) → (tail_row s k).at x ≡ none) (lg : (x : List ℕ) → Is (g x) → (s.row_of q).at x ≡ none)
    (all : (x : List ℕ) → Is (g x) → Is (f x)) where
  at_name : Term → List ℕ → Slot
  at_name (var v) x = none
  at_name (con h) x = none
  at_name (app a b) x = none
  at_name (fields y z) x = y x

  end_of : Term → Option ℕ
  end_of (var v) = None
  end_of (con h) = None
  end_of (app a b) = None
  end_of (fields y z) = z

  one : (x y z w : Slot) → or_else (apply_slot s x) z ≡ or_else (apply_slot s y) w → (Is x → z ≡ none) → (Is y → w ≡ none) → (Is y → Is x) → w ≡ or_else (apply_slot s (only x y)) z
  one none none z w p a b c = sym p
  one none (some t) z w p a b c = absurd (c tt)
  one (some u) none z w p a b c = sym p
  one (some u) (some t) z w p a b c = b tt ∙ sym (a tt)

  pub keeps_one : Keeps s (to_row q (record { at = λ x. only (f x) (g x); tail = k }))
  unfolding at_name end_of
  keeps_one = λ i. record {
    at = λ x. one (f x) (g x) ((tail_row s k).at x) ((s.row_of q).at x) (ap (λ t. at_name t x) e) (lk x) (lg x) (all x) i;
    tail = sym (ap end_of e) i;
  }
