-- The laws of the join: commutative, associative, idempotent, with no fault as its unit.
use Rattle.std.proofs.Common.{◌≡◌, ℕ, Bool, true, false, true≢false, List, [], ◌∷◌, ◌++◌, get_or, refl, sym, ◌∙◌, ap, subst}
use Rattle.std.specs.Prelude.{if◌then◌else◌}
use Rattle.std.specs.declared.cmp.Ordering.{Ordering}
use Rattle.std.specs.declared.cmp.Ordering.TheVariants.{Less, Equal, Greater}
use Rattle.std.specs.Ordering.{is_lt, is_eq, ordering_reverse}
use Rattle.std.proofs.lemmas.Cmp.{nat_list_cmp_total}
use Rattle.std.proofs.lemmas.Map.Text.{is_eq-slice_cmp}
use Rattle.std.proofs.lemmas.Slice.Eq.{bytes_eq-Decides}
use Rattle.tla_meaning.specs.declared.place.Place.{Place}
use Rattle.tla_meaning.specs.declared.outcome.Fault.{Fault}
use Rattle.tla_meaning.specs.declared.outcome.Fault.TheVariants.{NoFault, IsWrong, IsBig}
use Rattle.tla_meaning.specs.declared.outcome.Outcome.{Outcome}
use Rattle.tla_meaning.specs.Outcomes.{place_parts, place_cmp, least, join_faults, joined, fault_of}

-- ---- places

place_same : (p q : Place) → place_cmp p q ≡ Equal → p ≡ q
place_same p q e =
    let same : place_parts p ≡ place_parts q =
    (bytes_eq-Decides (place_parts p) (place_parts q)).0 (sym (is_eq-slice_cmp (place_parts p) (place_parts q)) ∙ ap is_eq e) in
    ap (λ (l : List ℕ). record { file = get_or l 0 0; line = get_or l 1 0; col = get_or l 2 0 }) same

reversed : (p q : Place) (o : Ordering) → place_cmp q p ≡ o → place_cmp p q ≡ ordering_reverse o
reversed p q o e = nat_list_cmp_total.antisymm (place_parts p) (place_parts q) ∙ ap ordering_reverse e

least_is : (p q : Place) (o : Ordering) → place_cmp q p ≡ o → least p q ≡ (if is_lt o then q else p)
least_is p q o e = ap (λ (x : Ordering). if is_lt x then q else p) e

least_comm_by : (p q : Place) (o : Ordering) → place_cmp q p ≡ o → least p q ≡ least q p
least_comm_by p q Less e = least_is p q Less e ∙ sym (least_is q p Greater (reversed p q Less e))
least_comm_by p q Equal e = let same : q ≡ p = place_same q p e in subst (λ (x : Place). least p x ≡ least x p) (sym same) refl
least_comm_by p q Greater e = least_is p q Greater e ∙ sym (least_is q p Less (reversed p q Greater e))

pub least_comm : (p q : Place) → least p q ≡ least q p
least_comm p q = least_comm_by p q (place_cmp q p) refl

pub least_same : (p : Place) → least p p ≡ p
least_same p = by_order (place_cmp p p) refl
  where
    by_order : (o : Ordering) → place_cmp p p ≡ o → least p p ≡ p
    by_order Less e = least_is p p Less e
    by_order Equal e = least_is p p Equal e
    by_order Greater e = least_is p p Greater e

-- where q is not before p, and r not before q, r is not before p
not_before : (p q r : Place) (a b c : Ordering) → place_cmp q p ≡ a → place_cmp r q ≡ b → place_cmp r p ≡ c → is_lt a ≡ false → is_lt b ≡ false → is_lt c ≡ false
not_before p q r a b Equal ea eb ec na nb = refl
not_before p q r a b Greater ea eb ec na nb = refl
not_before p q r Less b Less ea eb ec na nb = na
not_before p q r Equal b Less ea eb ec na nb =
    let same : q ≡ p = place_same q p ea in
    let less : place_cmp r q ≡ Less = subst (λ (x : Place). place_cmp r x ≡ Less) (sym same) ec in
    sym (ap is_lt less) ∙ ap is_lt eb ∙ nb
not_before p q r Greater b Less ea eb ec na nb =
    let less : place_cmp r q ≡ Less = nat_list_cmp_total.trans (place_parts r) (place_parts p) (place_parts q) ec (reversed p q Greater ea) in
    sym (ap is_lt less) ∙ ap is_lt eb ∙ nb

first_stays : (p q : Place) → is_lt (place_cmp q p) ≡ false → least p q ≡ p
first_stays p q n = ap (λ (b : Bool). if b then q else p) n

least_assoc_by : (p q r : Place) (a b : Ordering) → place_cmp q p ≡ a → place_cmp r q ≡ b → (c d : Bool) → is_lt a ≡ c → is_lt b ≡ d
    → least (least p q) r ≡ least p (least q r)
least_assoc_by p q r Less Less ea eb c d ec ed =
    let less : place_cmp r p ≡ Less = nat_list_cmp_total.trans (place_parts r) (place_parts q) (place_parts p) eb ea in
    ap (λ (x : Place). least x r) (least_is p q Less ea) ∙ least_is q r Less eb ∙ sym (least_is p r Less less) ∙ ap (least p) (sym (least_is q r Less eb))
least_assoc_by p q r Less b ea eb c false ec ed =
    let stays : least q r ≡ q = first_stays q r (ap is_lt eb ∙ ed) in
    ap (λ (x : Place). least x r) (least_is p q Less ea) ∙ stays ∙ sym (least_is p q Less ea) ∙ ap (least p) (sym stays)
least_assoc_by p q r a Less ea eb false d ec ed =
    ap (λ (x : Place). least x r) (first_stays p q (ap is_lt ea ∙ ec)) ∙ ap (least p) (sym (least_is q r Less eb))
least_assoc_by p q r a b ea eb false false ec ed =
    let stays : least q r ≡ q = first_stays q r (ap is_lt eb ∙ ed) in
    let here : least p q ≡ p = first_stays p q (ap is_lt ea ∙ ec) in
    let far : least p r ≡ p = first_stays p r (not_before p q r a b (place_cmp r p) ea eb refl ec ed) in
    ap (λ (x : Place). least x r) here ∙ far ∙ sym here ∙ ap (least p) (sym stays)
least_assoc_by p q r Equal b ea eb true d ec ed = absurd (true≢false (sym ec))
least_assoc_by p q r Greater b ea eb true d ec ed = absurd (true≢false (sym ec))
least_assoc_by p q r a Equal ea eb c true ec ed = absurd (true≢false (sym ed))
least_assoc_by p q r a Greater ea eb c true ec ed = absurd (true≢false (sym ed))

pub least_assoc : (p q r : Place) → least (least p q) r ≡ least p (least q r)
least_assoc p q r = least_assoc_by p q r (place_cmp q p) (place_cmp r q) refl refl (is_lt (place_cmp q p)) (is_lt (place_cmp r q)) refl refl

-- ---- faults

pub both_comm : (f g : Fault) → join_faults f g ≡ join_faults g f
both_comm NoFault NoFault = refl
both_comm NoFault (IsWrong q) = refl
both_comm NoFault (IsBig q) = refl
both_comm (IsWrong p) NoFault = refl
both_comm (IsWrong p) (IsWrong q) = ap IsWrong (least_comm p q)
both_comm (IsWrong p) (IsBig q) = refl
both_comm (IsBig p) NoFault = refl
both_comm (IsBig p) (IsWrong q) = refl
both_comm (IsBig p) (IsBig q) = ap IsBig (least_comm p q)

pub both_same : (f : Fault) → join_faults f f ≡ f
both_same NoFault = refl
both_same (IsWrong p) = ap IsWrong (least_same p)
both_same (IsBig p) = ap IsBig (least_same p)

pub both_unit : (f : Fault) → join_faults f NoFault ≡ f
both_unit NoFault = refl
both_unit (IsWrong p) = refl
both_unit (IsBig p) = refl

pub both_assoc : (f g h : Fault) → join_faults (join_faults f g) h ≡ join_faults f (join_faults g h)
both_assoc NoFault g h = refl
both_assoc (IsWrong p) NoFault h = refl
both_assoc (IsWrong p) (IsWrong q) NoFault = refl
both_assoc (IsWrong p) (IsWrong q) (IsWrong r) = ap IsWrong (least_assoc p q r)
both_assoc (IsWrong p) (IsWrong q) (IsBig r) = refl
both_assoc (IsWrong p) (IsBig q) NoFault = refl
both_assoc (IsWrong p) (IsBig q) (IsWrong r) = refl
both_assoc (IsWrong p) (IsBig q) (IsBig r) = refl
both_assoc (IsBig p) NoFault h = refl
both_assoc (IsBig p) (IsWrong q) NoFault = refl
both_assoc (IsBig p) (IsWrong q) (IsWrong r) = refl
both_assoc (IsBig p) (IsWrong q) (IsBig r) = refl
both_assoc (IsBig p) (IsBig q) NoFault = refl
both_assoc (IsBig p) (IsBig q) (IsWrong r) = refl
both_assoc (IsBig p) (IsBig q) (IsBig r) = ap IsBig (least_assoc p q r)

pub joined_append : (os more : List Outcome) → joined (os ++ more) ≡ join_faults (joined os) (joined more)
joined_append [] more = refl
joined_append (o ∷ os) more = ap (join_faults (fault_of o)) (joined_append os more) ∙ sym (both_assoc (fault_of o) (joined os) (joined more))
