-- Paths whose steps are related stay so in conjunctions, alternatives and branches.
use Rattle.std.proofs.Common.{◌≡◌, Bool, true, false, List, [], ◌∷◌, ◌++◌, map, refl, sym, ap₂, Option, Some, if◌then◌else◌}
use Rattle.tla_meaning.specs.declared.place.Place.{Place}
use Rattle.tla_meaning.specs.Scopes.{or_else}
use Rattle.tla_meaning.proofs.Views.{false≢true}
use Rattle.kernel_trees.specs.Ways.{Way, has_ended, one_after, after, after_each, all_of, branch, any_of, alone}
use Rattle.kernel_reduction.specs.inner.SameWays.{Pairs, SameWay, SameWays}

pub pairs_append : {X Y : Type 0} (R : X → Y → Type 0) (xs : List X) (ys : List Y) (us : List X) (vs : List Y) →
    Pairs R xs ys → Pairs R us vs → Pairs R (xs ++ us) (ys ++ vs)
pairs_append R [] [] us vs h g = g
pairs_append R [] (y ∷ ys) us vs h g = absurd h
pairs_append R (x ∷ xs) [] us vs h g = absurd h
pairs_append R (x ∷ xs) (y ∷ ys) us vs h g = (h.0, pairs_append R xs ys us vs h.1 g)

-- items made of related items
pub pairs_map : {X Y U V : Type 0} (R : X → Y → Type 0) (Q : U → V → Type 0) (f : X → U) (g : Y → V) →
    ((x : X) (y : Y) → R x y → Q (f x) (g y)) → (xs : List X) (ys : List Y) → Pairs R xs ys → Pairs Q (map f xs) (map g ys)
pairs_map R Q f g q [] [] h = tt
pairs_map R Q f g q [] (y ∷ ys) h = absurd h
pairs_map R Q f g q (x ∷ xs) [] h = absurd h
pairs_map R Q f g q (x ∷ xs) (y ∷ ys) h = (q x y h.0, pairs_map R Q f g q xs ys h.1)

module _ {S T : Type 0} (R : S → T → Type 0) where
  pub same_alone : (x : S) (y : T) → R x y → SameWays R (alone x) (alone y)
  same_alone x y h = (record { taken = refl; steps = (h, tt) }, tt)

  pub same_after_one : (a : Way S) (b : Way T) (c : Way S) (d : Way T) → SameWay R a b → SameWay R c d → SameWay R (one_after a c) (one_after b d)
  same_after_one a b c d h g = record {
    taken = ap₂ or_else g.taken h.taken;
    steps = pairs_append R a.steps b.steps c.steps d.steps h.steps g.steps;
  }

  -- behind related steps, at one root
  pub same_branch : (front : List S) (front' : List T) (p q : Place) (ys : List (Way S)) (zs : List (Way T)) →
      Pairs R front front' → p ≡ q → SameWays R ys zs → SameWays R (branch front p ys) (branch front' q zs)
  same_branch front front' p q ys zs h e g = pairs_map (SameWay R) (SameWay R) _ _ (λ y z r. record {
    taken = ap₂ (λ (o : Option Place) (x : Place). or_else o (Some x)) r.taken e;
    steps = pairs_append R front front' y.steps z.steps h r.steps;
  }) ys zs g

  abbrev pub Alternative : Place × List (Way S) → Place × List (Way T) → Type 0
  Alternative a b = (a.0 ≡ b.0) × SameWays R a.1 b.1

  pub same_any : (as' : List (Place × List (Way S))) (bs : List (Place × List (Way T))) → Pairs Alternative as' bs → SameWays R (any_of as') (any_of bs)
  same_any [] [] h = tt
  same_any [] (b ∷ bs) h = absurd h
  same_any (a ∷ as') [] h = absurd h
  same_any (a ∷ as') (b ∷ bs) h =
      pairs_append (SameWay R) (branch [] a.0 a.1) (branch [] b.0 b.1) (any_of as') (any_of bs)
      (same_branch [] [] a.0 b.0 a.1 b.1 tt h.0.0 h.0.1) (same_any as' bs h.1)

  -- behind one more step
  pub same_behind : (x : S) (y : T) (as' : List (Way S)) (bs : List (Way T)) → R x y → SameWays R as' bs →
      SameWays R (map (λ a. record { taken = a.taken; steps = x ∷ a.steps }) as') (map (λ b. record { taken = b.taken; steps = y ∷ b.steps }) bs)
  same_behind x y as' bs h g =
      pairs_map (SameWay R) (SameWay R) _ _ (λ a b r. record { taken = r.taken; steps = (h, r.steps) }) as' bs g

  -- where related steps end a path alike
  module _ (e : S → Bool) (f : T → Bool) (alike : (x : S) (y : T) → R x y → e x ≡ f y) where
    pub same_ended : (xs : List S) (ys : List T) → Pairs R xs ys → has_ended e xs ≡ has_ended f ys
    same_ended [] [] h = refl
    same_ended [] (y ∷ ys) h = absurd h
    same_ended (x ∷ xs) [] h = absurd h
    same_ended (x ∷ []) (y ∷ []) h = alike x y h.0
    same_ended (x ∷ []) (y ∷ z ∷ ys) h = absurd h.1
    same_ended (x ∷ u ∷ xs) (y ∷ []) h = absurd h.1
    same_ended (x ∷ u ∷ xs) (y ∷ z ∷ ys) h = same_ended (u ∷ xs) (z ∷ ys) h.1

    same_after : (a : Way S) (b : Way T) (cs : List (Way S)) (ds : List (Way T)) → SameWay R a b → SameWays R cs ds → SameWays R (after e a cs) (after f b ds)
    same_after a b cs ds h g = by (has_ended e a.steps) (has_ended f b.steps) (same_ended a.steps b.steps h.steps)
      where
        by : (c d : Bool) → c ≡ d → SameWays R (if c then a ∷ [] else map (one_after a) cs) (if d then b ∷ [] else map (one_after b) ds)
        by true true q = (h, tt)
        by true false q = absurd (false≢true (sym q))
        by false true q = absurd (false≢true q)
        by false false q = pairs_map (SameWay R) (SameWay R) (one_after a) (one_after b) (λ c d r. same_after_one a b c d h r) cs ds g

    same_each : (as' : List (Way S)) (bs : List (Way T)) (cs : List (Way S)) (ds : List (Way T)) → SameWays R as' bs → SameWays R cs ds →
        SameWays R (after_each e as' cs) (after_each f bs ds)
    same_each [] [] cs ds h g = tt
    same_each [] (b ∷ bs) cs ds h g = absurd h
    same_each (a ∷ as') [] cs ds h g = absurd h
    same_each (a ∷ as') (b ∷ bs) cs ds h g =
        pairs_append (SameWay R) (after e a cs) (after f b ds) (after_each e as' cs) (after_each f bs ds)
        (same_after a b cs ds h.0 g) (same_each as' bs cs ds h.1 g)

    pub same_all : (ass : List (List (Way S))) (bss : List (List (Way T))) → Pairs (SameWays R) ass bss → SameWays R (all_of e ass) (all_of f bss)
    same_all [] [] h = (record { taken = refl; steps = tt }, tt)
    same_all [] (b ∷ bs) h = absurd h
    same_all (a ∷ as') [] h = absurd h
    same_all (a ∷ as') (b ∷ bs) h = same_each a b (all_of e as') (all_of f bs) h.0 (same_all as' bs h.1)
