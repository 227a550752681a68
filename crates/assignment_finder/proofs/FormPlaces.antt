-- The places of infinite sets in a form, by its operator, and the earliest of some places.
use Rattle.std.proofs.Common.{◌≡◌, inl, inr, ◌<◌, List, [], ◌∷◌, ◌++◌, map, flat_map, drop, refl, sym, ◌∙◌, ap, subst, false, true, Some, None, arith}
use Rattle.std.specs.Prelude.{Contains, slice_index_or}
use Rattle.std.proofs.lemmas.List.Elements.{Contains-append_cases, Contains-append_left, Contains-append_right}
use Rattle.tla_values.specs.declared.text.Text.{Text}
use Rattle.tla_meaning.specs.declared.place.Place.{Place}
use Rattle.tla_meaning.specs.Outcomes.{before, place_parts}
use Rattle.kernel_trees.specs.declared.kernel.Ker.{Ker, roll-Ker, out-Ker, roll-out-Ker}
use Rattle.kernel_trees.specs.declared.kernel.Ker.TheOpen.{Ker-F}
use Rattle.kernel_trees.specs.declared.kernel.Ker.TheFolds.{fold-roll-Ker}
use Rattle.kernel_trees.specs.declared.kernel.KerOp.{KerOp}
use Rattle.kernel_trees.specs.declared.kernel.KerOp.TheVariants as ker
use Rattle.kernel_trees.specs.Sound.{infinite_at, infinite_places}
use Rattle.assignment_finder.specs.inner.Places.{IsEarliest}
use Rattle.kernel_trees.proofs.Steps.{same_text_same}
use Rattle.assignment_finder.proofs.PlaceOrder.{asymmetric, equal_not_before, not_before}

places-roll : (x : Ker-F Ker) → infinite_places (roll-Ker x) ≡ infinite_at x.op x.place (map infinite_places x.args)
unfolding infinite_places
places-roll x = fold-roll-Ker (List Place) (λ x. infinite_at x.op x.place x.args) x

places_out : (k : Ker) → infinite_places k ≡ infinite_at (out-Ker k).op (out-Ker k).place (map infinite_places (out-Ker k).args)
places_out k =
    subst (λ (t : Ker). infinite_places t ≡ infinite_at (out-Ker k).op (out-Ker k).place (map infinite_places (out-Ker k).args))
    (roll-out-Ker k) (places-roll (out-Ker k))

places_by : (k : Ker) (o : KerOp) → (out-Ker k).op ≡ o →
    infinite_places k ≡ infinite_at o (out-Ker k).place (map infinite_places (out-Ker k).args)
places_by k o h = places_out k ∙ ap (λ (o : KerOp). infinite_at o (out-Ker k).place (map infinite_places (out-Ker k).args)) h

flat_of_map : (ks : List Ker) → flat_map (λ (ps : List Place). ps) (map infinite_places ks) ≡ flat_map infinite_places ks
flat_of_map [] = refl
flat_of_map (k ∷ ks) = ap (λ (ps : List Place). infinite_places k ++ ps) (flat_of_map ks)

flat_of_drop : (ks : List Ker) → flat_map (λ (ps : List Place). ps) (drop 1 (map infinite_places ks)) ≡ flat_map infinite_places (drop 1 ks)
flat_of_drop [] = refl
flat_of_drop (k ∷ ks) = flat_of_map ks

module _ (k : Ker) where
  pub of_int : (out-Ker k).op ≡ ker.IntForm → infinite_places k ≡ (out-Ker k).place ∷ []
  of_int h = places_by k ker.IntForm h

  pub of_nat : (out-Ker k).op ≡ ker.NatForm → infinite_places k ≡ (out-Ker k).place ∷ []
  of_nat h = places_by k ker.NatForm h

  pub of_text : (out-Ker k).op ≡ ker.TextForm → infinite_places k ≡ (out-Ker k).place ∷ []
  of_text h = places_by k ker.TextForm h

  -- `ks` are the operands
  module _ (ks : List Ker) (e : ks ≡ (out-Ker k).args) where
    all : flat_map (λ (ps : List Place). ps) (map infinite_places (out-Ker k).args) ≡ flat_map infinite_places (drop 0 ks)
    all = flat_of_map (out-Ker k).args ∙ ap (flat_map infinite_places) (sym e)

    pub of_sequences : (out-Ker k).op ≡ ker.SeqForm → infinite_places k ≡ (out-Ker k).place ∷ flat_map infinite_places (drop 0 ks)
    of_sequences h = places_by k ker.SeqForm h ∙ ap (λ (ps : List Place). (out-Ker k).place ∷ ps) all

    pub of_subsets : (out-Ker k).op ≡ ker.Subsets → infinite_places k ≡ flat_map infinite_places (drop 0 ks)
    of_subsets h = places_by k ker.Subsets h ∙ all

    pub of_records : (names : List Text) → (out-Ker k).op ≡ ker.RecForm names → infinite_places k ≡ flat_map infinite_places (drop 0 ks)
    of_records names h = places_by k (ker.RecForm names) h ∙ all

    pub of_tuples : (out-Ker k).op ≡ ker.TupForm → infinite_places k ≡ flat_map infinite_places (drop 0 ks)
    of_tuples h = places_by k ker.TupForm h ∙ all

    pub of_functions : (out-Ker k).op ≡ ker.Functions → infinite_places k ≡ flat_map infinite_places (drop 1 ks)
    of_functions h =
        places_by k ker.Functions h ∙ flat_of_drop (out-Ker k).args
        ∙ ap (λ (ks : List Ker). flat_map infinite_places (drop 1 ks)) (sym e)

-- no infinite set, and no form with parts
pub record IsPlain (o : KerOp) : Type 0 where
  pub no_int : o ≡ ker.IntForm → ⊥
  pub no_nat : o ≡ ker.NatForm → ⊥
  pub no_text : o ≡ ker.TextForm → ⊥
  pub no_sequences : o ≡ ker.SeqForm → ⊥
  pub no_subsets : o ≡ ker.Subsets → ⊥
  pub no_functions : o ≡ ker.Functions → ⊥
  pub no_records : (names : List Text) → o ≡ ker.RecForm names → ⊥
  pub no_tuples : o ≡ ker.TupForm → ⊥

plain_at : (o : KerOp) (p : Place) (ks : List (List Place)) → IsPlain o → infinite_at o p ks ≡ []
plain_at ker.IntForm p ks h = absurd (h.no_int refl)
plain_at ker.NatForm p ks h = absurd (h.no_nat refl)
plain_at ker.TextForm p ks h = absurd (h.no_text refl)
plain_at ker.SeqForm p ks h = absurd (h.no_sequences refl)
plain_at ker.Subsets p ks h = absurd (h.no_subsets refl)
plain_at ker.Functions p ks h = absurd (h.no_functions refl)
plain_at (ker.RecForm names) p ks h = absurd (h.no_records names refl)
plain_at ker.TupForm p ks h = absurd (h.no_tuples refl)
plain_at o p ks h = refl

pub of_plain : (k : Ker) → IsPlain (out-Ker k).op → infinite_places k ≡ []
of_plain k h = places_out k ∙ plain_at (out-Ker k).op (out-Ker k).place (map infinite_places (out-Ker k).args) h

-- ---- the earliest of some places

in_one : (p q : Place) → Contains (p ∷ []) q → p ≡ q
in_one p q h = let lt : h.0 < 1 = h.1 in let z : h.0 ≡ 0 = omega (arith, lt) in ap (λ n. slice_index_or (p ∷ []) n q) (sym z) ∙ h.2

one_in : (p : Place) → Contains (p ∷ []) p
one_in p = (0, omega arith, refl)

none_in : (q : Place) → Contains [] q → ⊥
none_in q h = let lt : h.0 < 0 = h.1 in absurd (omega (arith, lt))

itself : (p : Place) → before p p ≡ false
itself p = equal_not_before p p (same_text_same (place_parts p))

pub earliest_alone : (ps : List Place) (p : Place) → IsEarliest ps None → IsEarliest (ps ++ p ∷ []) (Some p)
earliest_alone ps p e = subst (λ (ps : List Place). IsEarliest (ps ++ p ∷ []) (Some p)) (sym e) (record {
  there = one_in p;
  first = λ q h. subst (λ (q : Place). before q p ≡ false) (in_one p q h) (itself p);
})

pub earliest_new : (ps : List Place) (p q : Place) → IsEarliest ps (Some q) → before p q ≡ true → IsEarliest (ps ++ p ∷ []) (Some p)
earliest_new ps p q h b = record {
  there = Contains-append_right ps (p ∷ []) p (one_in p);
  first = λ r k. elim (Contains-append_cases ps (p ∷ []) r k) [
    | inl a ↦ not_before p q r (asymmetric q p b) (h.first r a)
    | inr a ↦ subst (λ (r : Place). before r p ≡ false) (in_one p r a) (itself p)
  ];
}

pub earliest_old : (ps : List Place) (p q : Place) → IsEarliest ps (Some q) → before p q ≡ false → IsEarliest (ps ++ p ∷ []) (Some q)
earliest_old ps p q h b = record {
  there = Contains-append_left ps (p ∷ []) q h.there;
  first = λ r k. elim (Contains-append_cases ps (p ∷ []) r k) [
    | inl a ↦ h.first r a
    | inr a ↦ subst (λ (r : Place). before r q ≡ false) (in_one p r a) b
  ];
}
