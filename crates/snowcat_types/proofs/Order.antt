-- Whatever way the choices are made, the same nodes take their default: what is reached on one way holds in each typing.
use Rattle.std.proofs.Common.{◌≡◌, Bool, true, false, ◌⊎◌, inl, inr, List, [], ◌∷◌, ◌++◌, refl, sym, subst}
use Rattle.tla_meaning.specs.Outcomes.{before}
use Rattle.snowcat_rows.specs.Types.{Term}
use Rattle.snowcat_rows.specs.Substitutions.{Sub}
use Rattle.snowcat_types.specs.declared.waiting.Wait.{Wait}
use Rattle.snowcat_types.specs.declared.kinds.Kind.{Kind}
use Rattle.snowcat_types.specs.Requirements.{Requirement, MeetAll}
use Rattle.snowcat_types.specs.Waiting.{place_of, choice, default_kind}
use Rattle.snowcat_types.specs.Systems.{System, all_asked, all_waits}
use Rattle.snowcat_types.specs.Typings.{Each, decision, Decides, DecidesNothing, IsFirst, Reached, at_start, decided, by_default, IsTyping}
use Rattle.snowcat_types.proofs.Choices.{meet_left, meet_right, meet_append, choice_kind}

abbrev pub In : Wait → List Wait → Type 0
In x [] = ⊥
In x (w ∷ ws) = (x ≡ w) ⊎ In x ws

abbrev pub Distinct : List Wait → Type 0
Distinct [] = Unit {0}
Distinct (w ∷ ws) = (In w ws → ⊥) × Distinct ws

-- x stands before y
abbrev Ahead : Wait → Wait → List Wait → Type 0
Ahead x y [] = ⊥
Ahead x y (w ∷ ws) = ((x ≡ w) × In y ws) ⊎ Ahead x y ws

in_at : (x w : Wait) (ws : List Wait) → x ≡ w → In x ws → In w ws
in_at x w ws e i = let P : Wait → Type 0 = λ z. In z ws in subst P e i

in_put : (x w : Wait) (e l : List Wait) → In x (e ++ l) → In x (e ++ w ∷ l)
in_put x w [] l i = inr i
in_put x w (a ∷ e) l (inl i) = inl i
in_put x w (a ∷ e) l (inr i) = inr (in_put x w e l i)

in_cases : (x w : Wait) (e l : List Wait) → In x (e ++ w ∷ l) → (x ≡ w) ⊎ In x (e ++ l)
in_cases x w [] l i = i
in_cases x w (a ∷ e) l (inl i) = inr (inl i)
in_cases x w (a ∷ e) l (inr i) = elim (in_cases x w e l i) [ inl k ↦ inl k | inr k ↦ inr (inr k) ]

in_mid : (w : Wait) (e l : List Wait) → In w (e ++ w ∷ l)
in_mid w [] l = inl refl
in_mid w (a ∷ e) l = inr (in_mid w e l)

ahead_put : (x y w : Wait) (e l : List Wait) → Ahead x y (e ++ l) → Ahead x y (e ++ w ∷ l)
ahead_put x y w [] l i = inr i
ahead_put x y w (a ∷ e) l (inl i) = inl (i.0, in_put y w e l i.1)
ahead_put x y w (a ∷ e) l (inr i) = inr (ahead_put x y w e l i)

ahead_in : (x y : Wait) (ws : List Wait) → Ahead x y ws → In x ws × In y ws
ahead_in x y (w ∷ ws) (inl i) = (inl i.0, inr i.1)
ahead_in x y (w ∷ ws) (inr i) = (inr (ahead_in x y ws i).0, inr (ahead_in x y ws i).1)
ahead_in x y [] i = absurd i

not_both : (x y : Wait) (ws : List Wait) → Distinct ws → Ahead x y ws → Ahead y x ws → ⊥
not_both x y [] d i j = i
not_both x y (w ∷ ws) d (inl i) (inl j) = d.0 (in_at y w ws j.0 i.1)
not_both x y (w ∷ ws) d (inl i) (inr j) = d.0 (in_at x w ws i.0 (ahead_in y x ws j).1)
not_both x y (w ∷ ws) d (inr i) (inl j) = d.0 (in_at y w ws j.0 (ahead_in x y ws i).1)
not_both x y (w ∷ ws) d (inr i) (inr j) = not_both x y ws d.1 i j

distinct_less : (w : Wait) (e l : List Wait) → Distinct (e ++ w ∷ l) → Distinct (e ++ l) × (In w (e ++ l) → ⊥)
distinct_less w [] l d = (d.1, d.0)
distinct_less w (a ∷ e) l d =
    let k = distinct_less w e l d.1 in
    ((λ i. d.0 (in_put a w e l i), k.0), λ i. elim i [ inl q ↦ d.0 (in_at w a (e ++ w ∷ l) q (in_mid w e l)) | inr q ↦ k.1 q ])

-- where a node stands beside another one
data Placed (z x : Wait) (e l : List Wait) : Type 0 where
  earlier : In z e → Ahead z x (e ++ x ∷ l) → Placed z x e l
  here : z ≡ x → Placed z x e l
  later : In z l → Ahead x z (e ++ x ∷ l) → Placed z x e l

more_beside : (z x a : Wait) (e l : List Wait) → Placed z x e l → Placed z x (a ∷ e) l
more_beside z x a e l (earlier i j) = earlier (inr i) (inr j)
more_beside z x a e l (here q) = here q
more_beside z x a e l (later i j) = later i (inr j)

beside : (z x : Wait) (e l : List Wait) → In z (e ++ x ∷ l) → Placed z x e l
beside z x [] l (inl q) = here q
beside z x [] l (inr i) = later i (inl (refl, i))
beside z x (a ∷ e) l (inl q) = earlier (inl q) (inl (q, in_mid x e l))
beside z x (a ∷ e) l (inr i) = more_beside z x a e l (beside z x e l i)

pub each_at : (P : Wait → Type 0) (ws : List Wait) (x : Wait) → Each P ws → In x ws → P x
each_at P [] x h i = absurd i
each_at P (w ∷ ws) x h (inl e) = let Q : Wait → Type 0 = λ z. P z in subst Q (sym e) h.0
each_at P (w ∷ ws) x h (inr i) = each_at P ws x h.1 i

both_ways : (b : Bool) → b ≡ true → b ≡ false → ⊥
both_ways true e h = cc
both_ways false e h = cc

-- of two lists in one order, with a first node each that stands in the other too, the first nodes are the same
first_same : (W e l f m : List Wait) (z x : Wait) → Distinct W → ((a b : Wait) → Ahead a b (e ++ z ∷ l) → Ahead a b W) → ((a b : Wait) → Ahead a b (f ++ x ∷ m) → Ahead a b W) →
    IsFirst e z l → IsFirst f x m → In x (e ++ z ∷ l) → In z (f ++ x ∷ m) → z ≡ x
first_same W e l f m z x d ke kf fz fx ix iz = go (beside x z e l ix) (beside z x f m iz)
  where
    go : Placed x z e l → Placed z x f m → z ≡ x
    go (here q) b = sym q
    go a (here q) = q
    go (earlier i j) (earlier p q) = absurd (not_both x z W d (ke x z j) (kf z x q))
    go (earlier i j) (later p q) = absurd (both_ways (before (place_of z) (place_of x)) (each_at (λ u. before (place_of z) (place_of u) ≡ true) e x fz.before_earlier i) (each_at (λ u. before (place_of u) (place_of x) ≡ false) m z fx.not_behind p))
    go (later i j) (earlier p q) = absurd (both_ways (before (place_of x) (place_of z)) (each_at (λ u. before (place_of x) (place_of u) ≡ true) f z fx.before_earlier p) (each_at (λ u. before (place_of u) (place_of z) ≡ false) l x fz.not_behind i))
    go (later i j) (later p q) = absurd (not_both z x W d (ke z x j) (kf x z q))

module _ (A : List Requirement) (W : List Wait) (dW : Distinct W) where
  -- the nodes that were chosen
  abbrev pub Took : (rs : List Requirement) (ws ds : List Wait) → Reached A W rs ws ds → Wait → Type 0
  Took rs ws ds at_start x = ⊥
  Took rs ws ds (decided qs e l es w k r d) x = (x ≡ w) ⊎ Took qs (e ++ w ∷ l) es r x
  Took rs ws ds (by_default qs e l es w r n i) x = (x ≡ w) ⊎ Took qs (e ++ w ∷ l) es r x

  record InOrder (ws : List Wait) : Type 0 where
    pub distinct : Distinct ws
    pub from_all : (x : Wait) → In x ws → In x W
    pub ahead : (x y : Wait) → Ahead x y ws → Ahead x y W

  order_less : (w : Wait) (e l : List Wait) → InOrder (e ++ w ∷ l) → InOrder (e ++ l)
  order_less w e l o = record {
    distinct = (distinct_less w e l o.distinct).0;
    from_all = λ x i. o.from_all x (in_put x w e l i);
    ahead = λ x y i. o.ahead x y (ahead_put x y w e l i);
  }

  order : (rs : List Requirement) (ws ds : List Wait) → Reached A W rs ws ds → InOrder ws
  order rs ws ds at_start = record { distinct = dW; from_all = λ x i. i; ahead = λ x y i. i }
  order rs ws ds (decided qs e l es w k r d) = order_less w e l (order qs (e ++ w ∷ l) es r)
  order rs ws ds (by_default qs e l es w r n i) = order_less w e l (order qs (e ++ w ∷ l) es r)

  waits_or_took : (rs : List Requirement) (ws ds : List Wait) (r : Reached A W rs ws ds) (x : Wait) → In x W → In x ws ⊎ Took rs ws ds r x
  waits_or_took rs ws ds at_start x i = inl i
  waits_or_took rs ws ds (decided qs e l es w k r d) x i =
      elim (waits_or_took qs (e ++ w ∷ l) es r x i) [ inl j ↦ elim (in_cases x w e l j) [ inl q ↦ inr (inl q) | inr q ↦ inl q ] | inr j ↦ inr (inr j) ]
  waits_or_took rs ws ds (by_default qs e l es w r n h) x i =
      elim (waits_or_took qs (e ++ w ∷ l) es r x i) [ inl j ↦ elim (in_cases x w e l j) [ inl q ↦ inr (inl q) | inr q ↦ inl q ] | inr j ↦ inr (inr j) ]

  no_longer : (x w : Wait) (e l : List Wait) → Distinct (e ++ w ∷ l) → In x (e ++ l) → x ≡ w → ⊥
  no_longer x w e l d i q = (distinct_less w e l d).1 (in_at x w (e ++ l) q i)

  waits_not_took : (rs : List Requirement) (ws ds : List Wait) (r : Reached A W rs ws ds) (x : Wait) → In x ws → Took rs ws ds r x → ⊥
  waits_not_took rs ws ds at_start x i t = t
  waits_not_took rs ws ds (decided qs e l es w k r d) x i (inl q) = no_longer x w e l (order qs (e ++ w ∷ l) es r).distinct i q
  waits_not_took rs ws ds (decided qs e l es w k r d) x i (inr t) = waits_not_took qs (e ++ w ∷ l) es r x (in_put x w e l i) t
  waits_not_took rs ws ds (by_default qs e l es w r n h) x i (inl q) = no_longer x w e l (order qs (e ++ w ∷ l) es r).distinct i q
  waits_not_took rs ws ds (by_default qs e l es w r n h) x i (inr t) = waits_not_took qs (e ++ w ∷ l) es r x (in_put x w e l i) t

  module _ (s : Sub) where
    -- u meets what is asked and, at these nodes, the choice that s makes
    abbrev MeetsAt : (Wait → Type 0) → Sub → Type 0
    MeetsAt T u = MeetAll u A × ((x : Wait) → T x → MeetAll u (choice x (decision s x)))

    as_s : (u : Sub) (w : Wait) (k : Kind) → MeetAll s (choice w k) → MeetAll u (choice w (decision s w)) → MeetAll u (choice w k)
    as_s u w k h i = let P : Kind → Type 0 = λ j. MeetAll u (choice w j) in subst P (choice_kind s w k h) i

    to_s : (u : Sub) (w x : Wait) (k : Kind) → MeetAll s (choice w k) → x ≡ w → MeetAll u (choice w k) → MeetAll u (choice x (decision s x))
    to_s u w x k h e i =
        let P : Kind → Type 0 = λ j. MeetAll u (choice w j) in
        let Q : Wait → Type 0 = λ z. MeetAll u (choice z (decision s z)) in
        subst Q (sym e) (subst P (sym (choice_kind s w k h)) i)

    from_set : (rs : List Requirement) (ws ds : List Wait) (r : Reached A W rs ws ds) → MeetAll s rs → (u : Sub) → MeetsAt (Took rs ws ds r) u → MeetAll u rs
    from_set rs ws ds at_start h u m = m.0
    from_set rs ws ds (decided qs e l es w k r d) h u m =
        meet_append u qs (choice w k) (from_set qs (e ++ w ∷ l) es r (meet_left s qs (choice w k) h) u (m.0, λ x t. m.1 x (inr t))) (as_s u w k (meet_right s qs (choice w k) h) (m.1 w (inl refl)))
    from_set rs ws ds (by_default qs e l es w r n i) h u m =
        meet_append u qs (choice w (default_kind w)) (from_set qs (e ++ w ∷ l) es r (meet_left s qs (choice w (default_kind w)) h) u (m.0, λ x t. m.1 x (inr t)))
        (as_s u w (default_kind w) (meet_right s qs (choice w (default_kind w)) h) (m.1 w (inl refl)))

    to_set : (rs : List Requirement) (ws ds : List Wait) (r : Reached A W rs ws ds) → MeetAll s rs → (u : Sub) → MeetAll u rs → MeetsAt (Took rs ws ds r) u
    to_set rs ws ds at_start h u m = (m, λ x t. absurd t)
    to_set rs ws ds (decided qs e l es w k r d) h u m =
        let i = to_set qs (e ++ w ∷ l) es r (meet_left s qs (choice w k) h) u (meet_left u qs (choice w k) m) in
        (i.0, λ x t. elim t [ inl q ↦ to_s u w x k (meet_right s qs (choice w k) h) q (meet_right u qs (choice w k) m) | inr q ↦ i.1 x q ])
    to_set rs ws ds (by_default qs e l es w r n h2) h u m =
        let i = to_set qs (e ++ w ∷ l) es r (meet_left s qs (choice w (default_kind w)) h) u (meet_left u qs (choice w (default_kind w)) m) in
        (i.0, λ x t. elim t [ inl q ↦ to_s u w x (default_kind w) (meet_right s qs (choice w (default_kind w)) h) q (meet_right u qs (choice w (default_kind w)) m) | inr q ↦ i.1 x q ])

    -- more nodes chosen: what was decided is decided
    still : (rs qs : List Requirement) (ws ds vs es : List Wait) (r : Reached A W rs ws ds) (q : Reached A W qs vs es) → MeetAll s rs → MeetAll s qs →
        ((x : Wait) → Took rs ws ds r x → Took qs vs es q x) → (w : Wait) (k : Kind) → Decides rs w k → Decides qs w k
    still rs qs ws ds vs es r q hr hq f w k d =
        (d.0, λ u h. let m = to_set qs vs es q hq u h in d.1 u (from_set rs ws ds r hr u (m.0, λ x t. m.1 x (f x t))))

    -- a way on which nothing more is decided, and x is the first that waits, has chosen what another way chose before x
    module _ (qs : List Requirement) (f m es : List Wait) (x : Wait) (q : Reached A W qs (f ++ x ∷ m) es) (hq : MeetAll s qs) (stop : Each (DecidesNothing qs) (f ++ x ∷ m)) (fx : IsFirst f x m) where
      behind : (rs : List Requirement) (ws ds : List Wait) (r : Reached A W rs ws ds) → MeetAll s rs → In x ws → (z : Wait) → Took rs ws ds r z → Took qs (f ++ x ∷ m) es q z
      behind rs ws ds at_start h i z t = absurd t
      behind rs ws ds (decided ps e l cs w k r d) h i z (inr t) = behind ps (e ++ w ∷ l) cs r (meet_left s ps (choice w k) h) (in_put x w e l i) z t
      behind rs ws ds (decided ps e l cs w k r d) h i z (inl t) =
          let o = order ps (e ++ w ∷ l) cs r in
          let P : Wait → Type 0 = λ y. Took qs (f ++ x ∷ m) es q y in
          subst P (sym t) (elim (waits_or_took qs (f ++ x ∷ m) es q w (o.from_all w (in_mid w e l))) [
            | inl j ↦ absurd (each_at (DecidesNothing qs) (f ++ x ∷ m) w stop j k
                (still ps qs (e ++ w ∷ l) cs (f ++ x ∷ m) es r q (meet_left s ps (choice w k) h) hq (behind ps (e ++ w ∷ l) cs r (meet_left s ps (choice w k) h) (in_put x w e l i)) w k d))
            | inr j ↦ j
          ])
      behind rs ws ds (by_default ps e l cs w r n g) h i z (inr t) = behind ps (e ++ w ∷ l) cs r (meet_left s ps (choice w (default_kind w)) h) (in_put x w e l i) z t
      behind rs ws ds (by_default ps e l cs w r n g) h i z (inl t) =
          let o = order ps (e ++ w ∷ l) cs r in
          let P : Wait → Type 0 = λ y. Took qs (f ++ x ∷ m) es q y in
          subst P (sym t) (elim (waits_or_took qs (f ++ x ∷ m) es q w (o.from_all w (in_mid w e l))) [
            | inl j ↦ absurd (no_longer x w e l o.distinct i (sym (first_same W e l f m w x dW o.ahead (order qs (f ++ x ∷ m) es q).ahead g fx (in_put x w e l i) j)))
            | inr j ↦ j
          ])

    -- so the default of one way is that of the other
    module _ (ps : List Requirement) (e l cs : List Wait) (w : Wait) (r : Reached A W ps (e ++ w ∷ l) cs) (hr : MeetAll s ps) (none : Each (DecidesNothing ps) (e ++ w ∷ l)) (fw : IsFirst e w l) where
      meet : (rs : List Requirement) (ws ds : List Wait) (q : Reached A W rs ws ds) → MeetAll s rs →
          ((x : Wait) → Took rs ws ds q x → Took ps (e ++ w ∷ l) cs r x) ⊎ MeetAll s (choice w (default_kind w))
      meet rs ws ds at_start h = inl (λ x t. absurd t)
      meet rs ws ds (decided qs f m es x k q d) h =
          elim (meet qs (f ++ x ∷ m) es q (meet_left s qs (choice x k) h)) [
            | inr j ↦ inr j
            | inl j ↦ elim (waits_or_took ps (e ++ w ∷ l) cs r x ((order qs (f ++ x ∷ m) es q).from_all x (in_mid x f m))) [
              | inl i ↦ absurd (each_at (DecidesNothing ps) (e ++ w ∷ l) x none i k (still qs ps (f ++ x ∷ m) es (e ++ w ∷ l) cs q r (meet_left s qs (choice x k) h) hr j x k d))
              | inr i ↦ inl (λ y t. elim t [ inl p ↦ (let P : Wait → Type 0 = λ v. Took ps (e ++ w ∷ l) cs r v in subst P (sym p) i) | inr p ↦ j y p ])
            ]
          ]
      meet rs ws ds (by_default qs f m es x q n g) h =
          elim (meet qs (f ++ x ∷ m) es q (meet_left s qs (choice x (default_kind x)) h)) [
            | inr j ↦ inr j
            | inl j ↦ elim (waits_or_took ps (e ++ w ∷ l) cs r x ((order qs (f ++ x ∷ m) es q).from_all x (in_mid x f m))) [
              | inl i ↦ inr (same_default i j)
              | inr i ↦ inl (λ y t. elim t [ inl p ↦ (let P : Wait → Type 0 = λ v. Took ps (e ++ w ∷ l) cs r v in subst P (sym p) i) | inr p ↦ j y p ])
            ]
          ]
        where
          same_default : In x (e ++ w ∷ l) → ((y : Wait) → Took qs (f ++ x ∷ m) es q y → Took ps (e ++ w ∷ l) cs r y) → MeetAll s (choice w (default_kind w))
          same_default i j =
              let there : In w (f ++ x ∷ m) = elim (waits_or_took qs (f ++ x ∷ m) es q w ((order ps (e ++ w ∷ l) cs r).from_all w (in_mid w e l))) [
                | inl p ↦ p
                | inr p ↦ absurd (waits_not_took ps (e ++ w ∷ l) cs r w (in_mid w e l) (j w p))
              ] in
              let same : w ≡ x = first_same W e l f m w x dW (order ps (e ++ w ∷ l) cs r).ahead (order qs (f ++ x ∷ m) es q).ahead fw g i there in
              let P : Wait → Type 0 = λ v. MeetAll s (choice v (default_kind v)) in
              subst P (sym same) (meet_right s qs (choice x (default_kind x)) h)

    -- what is reached on any way is met by each typing
    pub always : (all : List Requirement) (ds : List Wait) → Reached A W all [] ds → MeetAll s all → (rs : List Requirement) (ws es : List Wait) → Reached A W rs ws es → MeetAll s rs
    always all ds t h rs ws es at_start = (to_set all [] ds t h s h).0
    always all ds t h rs ws es (decided ps e l cs w k r d) =
        let i = always all ds t h ps (e ++ w ∷ l) cs r in
        let o = order ps (e ++ w ∷ l) cs r in
        let m = to_set all [] ds t h s h in
        let took : Took all [] ds t w = elim (waits_or_took all [] ds t w (o.from_all w (in_mid w e l))) [ inl q ↦ absurd q | inr q ↦ q ] in
        let P : Kind → Type 0 = λ j. MeetAll s (choice w j) in
        meet_append s ps (choice w k) i (subst P (d.1 s i) (m.1 w took))
    always all ds t h rs ws es (by_default ps e l cs w r n g) =
        let i = always all ds t h ps (e ++ w ∷ l) cs r in
        let o = order ps (e ++ w ∷ l) cs r in
        let took : Took all [] ds t w = elim (waits_or_took all [] ds t w (o.from_all w (in_mid w e l))) [ inl q ↦ absurd q | inr q ↦ q ] in
        meet_append s ps (choice w (default_kind w)) i
        (elim (meet ps e l cs w r i n g all [] ds t h) [
          | inl j ↦ absurd (waits_not_took ps (e ++ w ∷ l) cs r w (in_mid w e l) (j w took))
          | inr j ↦ j
        ])

-- so where what is reached has no solution, there is no typing at all
pub none_at_all : (system : System) → Distinct (all_waits system) → (rs : List Requirement) (ws es : List Wait) → Reached (all_asked system) (all_waits system) rs ws es →
    ((s : Sub) → MeetAll s rs → ⊥) → (names : List Term) (parts : List (List Term)) (ds : List Wait) → IsTyping system names parts ds → ⊥
none_at_all system d rs ws es r n names parts ds t = n t.last (always (all_asked system) (all_waits system) d t.last t.all ds t.reached t.principal.meets rs ws es r)
