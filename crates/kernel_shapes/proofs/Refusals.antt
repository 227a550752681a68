-- The refusal of a level's numbers does not depend on their order or on how often one stands there.
use Rattle.std.proofs.Common.{◌≡◌, Bool, true, false, not, true≢false, inl, inr, is_some, List, [], ◌∷◌, ◌++◌, Option, Some, None, option_map, refl, sym, ◌∙◌, ap, subst, if◌then◌else◌}
use Rattle.std.specs.declared.cmp.Ordering.{Ordering}
use Rattle.std.specs.declared.cmp.Ordering.TheVariants.{Less, Equal, Greater}
use Rattle.std.specs.Ordering.{nat_cmp, is_lt, is_eq, ordering_reverse}
use Rattle.std.specs.Cmp.Lexicographic.{slice_cmp}
use Rattle.std.proofs.lemmas.Cmp.{nat_list_cmp_total}
use Rattle.std.proofs.lemmas.Map.Text.{is_eq-slice_cmp}
use Rattle.std.proofs.lemmas.Slice.Eq.{bytes_eq-Decides}
use Rattle.kernel_trees.specs.Picks.{IsOneOf}
use Rattle.kernel_shapes.specs.Counts.{Count, Rank, first_of_two, either_rank, rank_of_one, first_rank, passes_limit, rank, refused_at, within_limits}
use Rattle.kernel_shapes.specs.Laws.{Refuses, SameRefusal}

abbrev cmp : Rank → Rank → Ordering
cmp a b = slice_cmp nat_cmp a b

one_rank : (a b : Rank) → cmp a b ≡ Equal → a ≡ b
one_rank a b e = (bytes_eq-Decides a b).0 (sym (is_eq-slice_cmp a b) ∙ ap is_eq e)

reversed : (a b : Rank) (o : Ordering) → cmp b a ≡ o → cmp a b ≡ ordering_reverse o
reversed a b o e = nat_list_cmp_total.antisymm a b ∙ ap ordering_reverse e

first_is : (a b : Rank) (o : Ordering) → cmp b a ≡ o → first_of_two a b ≡ (if is_lt o then b else a)
first_is a b o e = ap (λ (x : Ordering). if is_lt x then b else a) e

comm_by : (a b : Rank) (o : Ordering) → cmp b a ≡ o → first_of_two a b ≡ first_of_two b a
comm_by a b Less e = first_is a b Less e ∙ sym (first_is b a Greater (reversed a b Less e))
comm_by a b Equal e = subst (λ (x : Rank). first_of_two a x ≡ first_of_two x a) (sym (one_rank b a e)) refl
comm_by a b Greater e = first_is a b Greater e ∙ sym (first_is b a Less (reversed a b Greater e))

first_comm : (a b : Rank) → first_of_two a b ≡ first_of_two b a
first_comm a b = comm_by a b (cmp b a) refl

first_same : (a : Rank) → first_of_two a a ≡ a
first_same a = by (is_lt (cmp a a))
  where
    by : (b : Bool) → (if b then a else a) ≡ a
    by true = refl
    by false = refl

not_before : (p q r : Rank) (a b c : Ordering) → cmp q p ≡ a → cmp r q ≡ b → cmp r p ≡ c → is_lt a ≡ false → is_lt b ≡ false → is_lt c ≡ false
not_before p q r a b Equal ea eb ec na nb = refl
not_before p q r a b Greater ea eb ec na nb = refl
not_before p q r Less b Less ea eb ec na nb = na
not_before p q r Equal b Less ea eb ec na nb =
    let same : q ≡ p = one_rank q p ea in
    let less : cmp r q ≡ Less = subst (λ (x : Rank). cmp r x ≡ Less) (sym same) ec in
    sym (ap is_lt less) ∙ ap is_lt eb ∙ nb
not_before p q r Greater b Less ea eb ec na nb =
    let less : cmp r q ≡ Less = nat_list_cmp_total.trans r p q ec (reversed p q Greater ea) in
    sym (ap is_lt less) ∙ ap is_lt eb ∙ nb

stays : (a b : Rank) → is_lt (cmp b a) ≡ false → first_of_two a b ≡ a
stays a b n = ap (λ (x : Bool). if x then b else a) n

assoc_by : (p q r : Rank) (a b : Ordering) → cmp q p ≡ a → cmp r q ≡ b → (c d : Bool) → is_lt a ≡ c → is_lt b ≡ d
    → first_of_two (first_of_two p q) r ≡ first_of_two p (first_of_two q r)
assoc_by p q r Less Less ea eb c d ec ed =
    let less : cmp r p ≡ Less = nat_list_cmp_total.trans r q p eb ea in
    ap (λ (x : Rank). first_of_two x r) (first_is p q Less ea) ∙ first_is q r Less eb ∙ sym (first_is p r Less less) ∙ ap (first_of_two p) (sym (first_is q r Less eb))
assoc_by p q r Less b ea eb c false ec ed =
    let here : first_of_two q r ≡ q = stays q r (ap is_lt eb ∙ ed) in
    ap (λ (x : Rank). first_of_two x r) (first_is p q Less ea) ∙ here ∙ sym (first_is p q Less ea) ∙ ap (first_of_two p) (sym here)
assoc_by p q r a Less ea eb false d ec ed =
    ap (λ (x : Rank). first_of_two x r) (stays p q (ap is_lt ea ∙ ec)) ∙ ap (first_of_two p) (sym (first_is q r Less eb))
assoc_by p q r a b ea eb false false ec ed =
    let there : first_of_two q r ≡ q = stays q r (ap is_lt eb ∙ ed) in
    let here : first_of_two p q ≡ p = stays p q (ap is_lt ea ∙ ec) in
    let far : first_of_two p r ≡ p = stays p r (not_before p q r a b (cmp r p) ea eb refl ec ed) in
    ap (λ (x : Rank). first_of_two x r) here ∙ far ∙ sym here ∙ ap (first_of_two p) (sym there)
assoc_by p q r Equal b ea eb true d ec ed = absurd (true≢false (sym ec))
assoc_by p q r Greater b ea eb true d ec ed = absurd (true≢false (sym ec))
assoc_by p q r a Equal ea eb c true ec ed = absurd (true≢false (sym ed))
assoc_by p q r a Greater ea eb c true ec ed = absurd (true≢false (sym ed))

first_assoc : (p q r : Rank) → first_of_two (first_of_two p q) r ≡ first_of_two p (first_of_two q r)
first_assoc p q r = assoc_by p q r (cmp q p) (cmp r q) refl refl (is_lt (cmp q p)) (is_lt (cmp r q)) refl refl

pub either_comm : (a b : Option Rank) → either_rank a b ≡ either_rank b a
either_comm None None = refl
either_comm None (Some b) = refl
either_comm (Some a) None = refl
either_comm (Some a) (Some b) = ap Some (first_comm a b)

pub either_same : (a : Option Rank) → either_rank a a ≡ a
either_same None = refl
either_same (Some a) = ap Some (first_same a)

pub either_assoc : (a b c : Option Rank) → either_rank (either_rank a b) c ≡ either_rank a (either_rank b c)
either_assoc None b c = refl
either_assoc (Some a) None c = refl
either_assoc (Some a) (Some b) None = refl
either_assoc (Some a) (Some b) (Some c) = ap Some (first_assoc a b c)

-- the code may take the numbers in parts, in any order
pub rank_append : (cs ds : List Count) → first_rank (cs ++ ds) ≡ either_rank (first_rank cs) (first_rank ds)
rank_append [] ds = refl
rank_append (c ∷ cs) ds = ap (either_rank (rank_of_one c)) (rank_append cs ds) ∙ sym (either_assoc (rank_of_one c) (first_rank cs) (first_rank ds))

absorbed : (c : Count) (cs : List Count) → IsOneOf c cs → either_rank (rank_of_one c) (first_rank cs) ≡ first_rank cs
absorbed c [] h = absurd h
absorbed c (d ∷ cs) (inl e) =
    sym (either_assoc (rank_of_one c) (rank_of_one d) (first_rank cs))
    ∙ ap (λ (x : Option Rank). either_rank x (first_rank cs)) (ap (λ (x : Count). either_rank (rank_of_one x) (rank_of_one d)) e ∙ either_same (rank_of_one d))
absorbed c (d ∷ cs) (inr h) =
    sym (either_assoc (rank_of_one c) (rank_of_one d) (first_rank cs)) ∙ ap (λ (x : Option Rank). either_rank x (first_rank cs)) (either_comm (rank_of_one c) (rank_of_one d))
    ∙ either_assoc (rank_of_one d) (rank_of_one c) (first_rank cs) ∙ ap (either_rank (rank_of_one d)) (absorbed c cs h)

all_absorbed : (cs ds : List Count) → ((c : Count) → IsOneOf c cs → IsOneOf c ds) → either_rank (first_rank cs) (first_rank ds) ≡ first_rank ds
all_absorbed [] ds h = refl
all_absorbed (c ∷ cs) ds h =
    either_assoc (rank_of_one c) (first_rank cs) (first_rank ds) ∙ ap (either_rank (rank_of_one c)) (all_absorbed cs ds (λ d k. h d (inr k)))
    ∙ absorbed c ds (h c (inl refl))

-- the same numbers, in any order and any number of times, make the same refusal
pub each_same_refusal : (cs ds : List Count) → SameRefusal cs ds
each_same_refusal cs ds h k =
    ap (option_map refused_at) (sym (all_absorbed ds cs k) ∙ either_comm (first_rank ds) (first_rank cs) ∙ all_absorbed cs ds h)

-- ---- what is refused

some_either : (r : Rank) (o : Option Rank) → is_some (either_rank (Some r) o) ≡ true
some_either r None = refl
some_either r (Some q) = refl

ranked : (cs : List Count) → is_some (first_rank cs) ≡ not (within_limits cs)
ranked [] = refl
ranked (c ∷ cs) = by (passes_limit c) (ranked cs)
  where
    by : (b : Bool) → is_some (first_rank cs) ≡ not (within_limits cs) → is_some (either_rank (if b then Some (rank c) else None) (first_rank cs)) ≡ not (if b then false else within_limits cs)
    by true e = some_either (rank c) (first_rank cs)
    by false e = e

mapped : (o : Option Rank) → is_some (option_map refused_at o) ≡ is_some o
mapped None = refl
mapped (Some r) = refl

-- a level is refused where one of its numbers is past its limit
pub each_refuses : (cs : List Count) → Refuses cs
each_refuses cs = mapped (first_rank cs) ∙ ranked cs
