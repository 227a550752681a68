-- A tree whose names are given back means the same.
use Rattle.std.proofs.Common.{◌≡◌, ℕ, suc, ◌+◌, ◌-◌, ◌<◌, ◌≤◌, Bool, true, false, ◌||◌, arith, IsTrue, List, [], ◌∷◌, ◌++◌, map, zip, length, replicate, nat_lt, refl, ap, ap₂, ◌∙◌, sym, subst, Option, Some, None, if◌then◌else◌}
use Rattle.std.specs.Ordering.{is_eq, ordering_then}
use Rattle.std.specs.declared.cmp.Ordering.TheVariants.{Equal}
use Rattle.std.proofs.lemmas.Bool.{ltb-true, ltb-false}
use Rattle.std.proofs.lemmas.List.{length-replicate}
use Rattle.std.proofs.lemmas.Cmp.{nat_cmp_total, tied_itself}
use Rattle.tla_values.specs.Order.{text_cmp}
use Rattle.tla_values.specs.declared.value.Value.{Value}
use Rattle.tla_values.specs.declared.value.Value.TheVariants as value
use Rattle.tla_values.proofs.TotalLemmas.{texts_equal}
use Rattle.tla_meaning.specs.declared.expr.Expr.{Expr, roll-Expr}
use Rattle.tla_meaning.specs.declared.expr.Expr.TheOpen.{Expr-F}
use Rattle.tla_meaning.specs.declared.expr.Expr.TheFolds.{fold-roll-Expr, map-Expr, ind-Expr}
use Rattle.tla_meaning.specs.declared.op.Op.{Op}
use Rattle.tla_meaning.specs.declared.place.Place.{Place}
use Rattle.tla_meaning.specs.Numbers.{Width}
use Rattle.tla_meaning.specs.Scopes.{Scope, bind, bound_to, find_last, or_else, same_text}
use Rattle.tla_meaning.specs.Meaning.{Meaning, Role, Named, Held, Lets, Plain_role, role, view}
use Rattle.tla_meaning.specs.Actions.{meaning, denotation_of}
use Rattle.op_inliner.specs.Inlining.{rename_held}
use Rattle.op_inliner.specs.NamesBack.{among, without, longest, longer_name, free_name, own_name, own_names, all_binds, free_names, Open, inner_reads, outer_reads, backs, either_name, renamed_to, open_node, opened, with_names_back}
use Rattle.tla_meaning.specs.Renamings.{Renaming}
use Rattle.tla_meaning.proofs.MeaningLemmas.{meaning-roll}
use Rattle.tla_meaning.proofs.Views.{AllAgree, Marked, Survives, same-named, same-held, same-lets, same-under, view_same, false≢true}
use Rattle.tla_meaning.proofs.Laws.{find-append, more, unseen, in_bound, equal_of, none, apart-none, lets-none}
use Rattle.op_inliner.proofs.Inlined.{not_bound, or_no_left, or_no_right, held_role, role_held, sense_held}

pub opened-roll : (x : Expr-F Expr) → opened (roll-Expr x) ≡ open_node (map-Expr Expr Open opened x) (role x.op (length x.binds))
unfolding opened
opened-roll x = fold-roll-Expr Open (λ x. open_node x (role x.op (length x.binds))) x

-- ---- names and lists of names

pub text_self : (x : List ℕ) → text_cmp x x ≡ Equal
text_self [] = refl
text_self (n ∷ x) = ap (λ o. ordering_then o (text_cmp x x)) (tied_itself nat_cmp_total n) ∙ text_self x

same_self : (x : List ℕ) → same_text x x ≡ true
same_self x = ap is_eq (text_self x)

pub same_is : (x y : List ℕ) → same_text x y ≡ true → x ≡ y
same_is x y h = texts_equal x y (equal_of (text_cmp x y) h)

or_left : (b c d : Bool) → (IsTrue c → IsTrue d) → IsTrue (b || c) → IsTrue (b || d)
or_left true c d f h = refl
or_left false c d f h = f h

or_either : (b c : Bool) → IsTrue c → IsTrue (b || c)
or_either true c h = refl
or_either false c h = h

among_left : (x : List ℕ) (xs ys : List (List ℕ)) → IsTrue (among x xs) → IsTrue (among x (xs ++ ys))
among_left x [] ys h = absurd (false≢true h)
among_left x (z ∷ xs) ys h = or_left (same_text x z) (among x xs) (among x (xs ++ ys)) (among_left x xs ys) h

among_right : (x : List ℕ) (xs ys : List (List ℕ)) → IsTrue (among x ys) → IsTrue (among x (xs ++ ys))
among_right x [] ys h = h
among_right x (z ∷ xs) ys h = or_either (same_text x z) (among x (xs ++ ys)) (among_right x xs ys h)

among_first : (x y : List ℕ) (ys : List (List ℕ)) → IsTrue (same_text x y) → IsTrue (among x (y ∷ ys))
among_first x y ys h = ap (λ b. b || among x ys) h

among_rest : (x y : List ℕ) (ys : List (List ℕ)) → IsTrue (among x ys) → IsTrue (among x (y ∷ ys))
among_rest x y ys h = or_either (same_text x y) (among x ys) h

-- what is not among others stays
without_step : (x y : List ℕ) (xs ys : List (List ℕ)) → among x xs ≡ false → (IsTrue (among x ys) → IsTrue (among x (without xs ys))) →
    IsTrue (among x (y ∷ ys)) → (b : Bool) → same_text x y ≡ b → (d : Bool) → among y xs ≡ d → IsTrue (among x (if d then without xs ys else y ∷ without xs ys))
without_step x y xs ys k r h true e true f = absurd (false≢true (sym k ∙ ap (λ z. among z xs) (same_is x y e) ∙ f))
without_step x y xs ys k r h true e false f = among_first x y (without xs ys) e
without_step x y xs ys k r h false e true f = r (subst (λ c. IsTrue (c || among x ys)) e h)
without_step x y xs ys k r h false e false f = among_rest x y (without xs ys) (r (subst (λ c. IsTrue (c || among x ys)) e h))

among_without : (x : List ℕ) (xs ys : List (List ℕ)) → among x xs ≡ false → IsTrue (among x ys) → IsTrue (among x (without xs ys))
among_without x xs [] k h = h
among_without x xs (y ∷ ys) k h = without_step x y xs ys k (among_without x xs ys k) h (same_text x y) refl (among y xs) refl

map_step : (f : Renaming) (x y : List ℕ) (ys : List (List ℕ)) → (IsTrue (among x ys) → IsTrue (among (f x) (map f ys))) →
    IsTrue (among x (y ∷ ys)) → (b : Bool) → same_text x y ≡ b → IsTrue (among (f x) (map f (y ∷ ys)))
map_step f x y ys r h true e = among_first (f x) (f y) (map f ys) (ap (λ z. same_text (f x) (f z)) (sym (same_is x y e)) ∙ same_self (f x))
map_step f x y ys r h false e = among_rest (f x) (f y) (map f ys) (r (subst (λ c. IsTrue (c || among x ys)) e h))

among_map : (f : Renaming) (x : List ℕ) (ys : List (List ℕ)) → IsTrue (among x ys) → IsTrue (among (f x) (map f ys))
among_map f x [] h = h
among_map f x (y ∷ ys) h = map_step f x y ys (among_map f x ys) h (same_text x y) refl

-- ---- a free name is not taken

longest_first : (y : List ℕ) (ys : List (List ℕ)) → length y ≤ longest (y ∷ ys)
longest_first y ys = at (nat_lt (longest ys) (length y)) refl
  where
    at : (b : Bool) → nat_lt (longest ys) (length y) ≡ b → length y ≤ (if b then length y else longest ys)
    at true e = omega arith
    at false e = let k = ltb-false (longest ys) (length y) e in omega (arith, k)

longest_rest : (y : List ℕ) (ys : List (List ℕ)) → longest ys ≤ longest (y ∷ ys)
longest_rest y ys = at (nat_lt (longest ys) (length y)) refl
  where
    at : (b : Bool) → nat_lt (longest ys) (length y) ≡ b → longest ys ≤ (if b then length y else longest ys)
    at true e = let k = ltb-true (longest ys) (length y) e in omega (arith, k)
    at false e = omega arith

not_longer : (x : List ℕ) (ys : List (List ℕ)) → longest ys < length x → among x ys ≡ false
not_longer x [] h = refl
not_longer x (y ∷ ys) h = ap₂ (λ b c. b || c) (differ (same_text x y) refl) (not_longer x ys (let k = longest_rest y ys in omega (arith, h, k)))
  where
    differ : (b : Bool) → same_text x y ≡ b → b ≡ false
    differ true e = let k = ap length (same_is x y e) in let l = longest_first y ys in absurd (omega (arith, h, k, l))
    differ false e = refl

longest_front : (xs ys : List (List ℕ)) → longest xs ≤ longest (xs ++ ys)
longest_front [] ys = omega arith
longest_front (x ∷ xs) ys = at (nat_lt (longest xs) (length x)) (longest_front xs ys)
  where
    at : (b : Bool) → longest xs ≤ longest (xs ++ ys) → (if b then length x else longest xs) ≤ longest (x ∷ (xs ++ ys))
    at true k = longest_first x (xs ++ ys)
    at false k = let l = longest_rest x (xs ++ ys) in omega (arith, k, l)

length_padded : (x : List ℕ) (n : ℕ) → length (x ++ replicate n 39) ≡ length x + n
length_padded [] n = let k = length-replicate {A = ℕ} n 39 in omega (arith, k)
length_padded (y ∷ x) n = let k = length_padded x n in omega (arith, k)

longer : (x : List ℕ) (ys : List (List ℕ)) → longest ys < length (longer_name x ys)
longer x ys = let k = length_padded x (suc (longest ys) - length x) in omega (arith, k)

free_name_free : (there : List (List ℕ)) (x : List ℕ) (taken : List (List ℕ)) → among (free_name there x taken) taken ≡ false
free_name_free there x taken = at (among x taken) refl
  where
    at : (b : Bool) → among x taken ≡ b → among (if b then longer_name x (taken ++ there) else x) taken ≡ false
    at true e =
        not_longer (longer_name x (taken ++ there)) taken
        (let k = longest_front taken there in let l = longer x (taken ++ there) in omega (arith, k, l))
    at false e = e

-- one that is not the name's own is nowhere there
pub fresh_name : (there taken : List (List ℕ)) (x : List ℕ) → among x taken ≡ true → among (free_name there x taken) (taken ++ there) ≡ false
fresh_name there taken x e =
    ap (λ (b : Bool). among (if b then longer_name x (taken ++ there) else x) (taken ++ there)) e
    ∙ not_longer (longer_name x (taken ++ there)) (taken ++ there) (longer x (taken ++ there))

-- the new names are not taken
free_names_free : (there xs taken : List (List ℕ)) (z : List ℕ) → IsTrue (among z taken) → among z (free_names there xs taken) ≡ false
free_names_free there [] taken z h = refl
free_names_free there (x ∷ xs) taken z h =
    let y : List ℕ = free_name there (own_name x) taken in
    ap₂ (λ b c. b || c) (differ y (free_name_free there (own_name x) taken) (same_text z y) refl)
    (free_names_free there xs (y ∷ taken) z (among_rest z y taken h))
  where
    differ : (y : List ℕ) → among y taken ≡ false → (b : Bool) → same_text z y ≡ b → b ≡ false
    differ y k true e = absurd (false≢true (sym k ∙ ap (λ x. among x taken) (sym (same_is z y e)) ∙ h))
    differ y k false e = refl

-- ---- look-ups under the new names

abbrev first_of : List Value → Value
first_of [] = value.Bool false
first_of (v ∷ vs) = v

abbrev rest_of : List Value → List Value
rest_of [] = []
rest_of (v ∷ vs) = vs

bound_step : (y : List ℕ) (ys : List (List ℕ)) (vs : List Value) → bound_to (y ∷ ys) vs ≡ (y, first_of vs) ∷ bound_to ys (rest_of vs)
bound_step y ys [] = refl
bound_step y ys (v ∷ vs) = refl

some_case : (o q : Option (List ℕ)) (c d e : List ℕ) → either_name (or_else (or_else o (Some c)) q) d ≡ either_name (or_else o (Some c)) e
some_case None q c d e = refl
some_case (Some x) q c d e = refl

either_assoc : (o q r : Option (List ℕ)) (d : List ℕ) → either_name (or_else (or_else o q) r) d ≡ either_name (or_else o (or_else q r)) d
either_assoc None q r d = refl
either_assoc (Some x) q r d = refl

zip_step : (o q : Option (List ℕ)) (c d e : List ℕ) (b m : Bool) → IsTrue (b || m) →
    (IsTrue m → (q : Option (List ℕ)) (d e : List ℕ) → either_name (or_else o q) d ≡ either_name o e) →
    either_name (or_else (or_else o (if b then Some c else None)) q) d ≡ either_name (or_else o (if b then Some c else None)) e
zip_step o q c d e true m h r = some_case o q c d e
zip_step o q c d e false m h r = either_assoc o None q d ∙ r h q d e ∙ sym (r h None e e)

-- a name that has a new one
zip_some : (xs ys : List (List ℕ)) (z : List ℕ) → length xs ≤ length ys → IsTrue (among z xs) → (q : Option (List ℕ)) (d e : List ℕ) →
    either_name (or_else (find_last z (zip xs ys)) q) d ≡ either_name (find_last z (zip xs ys)) e
zip_some [] ys z l h q d e = absurd (false≢true h)
zip_some (x ∷ xs) [] z l h q d e = absurd (omega (arith, l))
zip_some (x ∷ xs) (y ∷ ys) z l h q d e =
    zip_step (find_last z (zip xs ys)) q y d e (same_text z x) (among z xs) h (zip_some xs ys z (omega (arith, l)))

zip_none : (xs ys : List (List ℕ)) (z : List ℕ) → among z xs ≡ false → find_last z (zip xs ys) ≡ None
zip_none [] ys z h = refl
zip_none (x ∷ xs) [] z h = refl
zip_none (x ∷ xs) (y ∷ ys) z h =
    ap₂ (λ o (b : Bool). or_else o (if b then Some y else None)) (zip_none xs ys z (or_no_right (same_text z x) (among z xs) h)) (or_no_left (same_text z x) (among z xs) h)

pub length_free : (there xs taken : List (List ℕ)) → length (free_names there xs taken) ≡ length xs
length_free there [] taken = refl
length_free there (x ∷ xs) taken = ap suc (length_free there xs (free_name there (own_name x) taken ∷ taken))

look_step : (there : List (List ℕ)) (x : List ℕ) (xs taken : List (List ℕ)) (z d : List ℕ) (vs : List Value) (c : List ℕ) (b m : Bool) → same_text z x ≡ b → among z xs ≡ m → IsTrue (b || m) →
    (IsTrue m → find_last (either_name (find_last z (zip xs (free_names there xs (c ∷ taken)))) d) (bound_to (free_names there xs (c ∷ taken)) (rest_of vs)) ≡ find_last z (bound_to xs (rest_of vs))) →
    find_last (either_name (or_else (find_last z (zip xs (free_names there xs (c ∷ taken)))) (if b then Some c else None)) d) (bound_to (c ∷ free_names there xs (c ∷ taken)) vs)
    ≡ or_else (find_last z (bound_to xs (rest_of vs))) (if b then Some (first_of vs) else None)
look_step there x xs taken z d vs c b true e f h r =
    let cs : List (List ℕ) = free_names there xs (c ∷ taken) in
    let n : List ℕ = either_name (find_last z (zip xs cs)) d in
    let l = length_free there xs (c ∷ taken) in
    ap (λ y. find_last y (bound_to (c ∷ cs) vs)) (zip_some xs cs z (omega (arith, l)) f (if b then Some c else None) d d)
    ∙ ap (find_last n) (bound_step c cs vs)
    ∙ ap (λ o. or_else o (if same_text n c then Some (first_of vs) else None)) (r refl)
    ∙ in_bound z xs (rest_of vs) (if same_text n c then Some (first_of vs) else None) (if b then Some (first_of vs) else None) f
look_step there x xs taken z d vs c true false e f h r =
    let cs : List (List ℕ) = free_names there xs (c ∷ taken) in
    ap (λ o. find_last (either_name (or_else o (Some c)) d) (bound_to (c ∷ cs) vs)) (zip_none xs cs z f)
    ∙ ap (find_last c) (bound_step c cs vs)
    ∙ ap₂ (λ o (k : Bool). or_else o (if k then Some (first_of vs) else None))
    (not_bound c cs (rest_of vs) (free_names_free there xs (c ∷ taken) c (among_first c c taken (same_self c)))) (same_self c)
    ∙ sym (ap (λ o. or_else o (Some (first_of vs))) (not_bound z xs (rest_of vs) f))
look_step there x xs taken z d vs c false false e f h r = absurd (false≢true h)

-- under its new name it has the value that it had
look : (there xs taken : List (List ℕ)) (z d : List ℕ) (vs : List Value) → IsTrue (among z xs) →
    find_last (either_name (find_last z (zip xs (free_names there xs taken))) d) (bound_to (free_names there xs taken) vs) ≡ find_last z (bound_to xs vs)
look there [] taken z d vs h = absurd (false≢true h)
look there (x ∷ xs) taken z d vs h =
    let c : List ℕ = free_name there (own_name x) taken in
    look_step there x xs taken z d vs c (same_text z x) (among z xs) refl refl h (look there xs (c ∷ taken) z d (rest_of vs))
    ∙ sym (ap (find_last z) (bound_step x xs vs))

-- ---- the law

-- each of these names has under its new name the value that it has in the second scope
abbrev pub Fits : Renaming → List (List ℕ) → Scope → Scope → Type 0
Fits f rs a b =
    ((z : List ℕ) → IsTrue (among z rs) → find_last (f z) a.bound ≡ find_last z b.bound)
    × ((z : List ℕ) → find_last z a.named ≡ find_last z b.named)

fits_survives : (f : Renaming) (rs : List (List ℕ)) → Survives none (Fits f rs)
fits_survives f rs = record {
  passed = λ xs as' a b g r. (r.0, λ x. more x a.named b.named (zip xs (map (λ a. λ _. a) as')) (r.1 x));
  defined = λ y d a b g r. (r.0, λ x. more x a.named b.named ((y, d) ∷ []) (r.1 x));
}

fits_bind : (there : List (List ℕ)) (f : Renaming) (xs qs rs : List (List ℕ)) (vs : List Value) (a b : Scope) →
    ((z : List ℕ) → IsTrue (among z (without xs qs)) → IsTrue (among z rs)) → Fits f rs a b →
    Fits (renamed_to xs (free_names there xs (map f (without xs qs))) f) qs (bind (free_names there xs (map f (without xs qs))) vs a) (bind xs vs b)
fits_bind there f xs qs rs vs a b s r = (λ z h. at z h (among z xs) refl, r.1)
  where
    taken : List (List ℕ)
    taken = map f (without xs qs)

    cs : List (List ℕ)
    cs = free_names there xs (map f (without xs qs))

    at : (z : List ℕ) → IsTrue (among z qs) → (c : Bool) → among z xs ≡ c →
        find_last (either_name (find_last z (zip xs (free_names there xs (map f (without xs qs))))) (f z)) (a.bound ++ bound_to (free_names there xs (map f (without xs qs))) vs)
        ≡ find_last z (b.bound ++ bound_to xs vs)
    at z h true e =
        let ts : List (List ℕ) = map f (without xs qs) in
        let n : List ℕ = either_name (find_last z (zip xs (free_names there xs ts))) (f z) in
        find-append n a.bound (bound_to (free_names there xs ts) vs)
        ∙ ap (λ o. or_else o (find_last n a.bound)) (look there xs ts z (f z) vs e)
        ∙ in_bound z xs vs (find_last n a.bound) (find_last z b.bound) e
        ∙ sym (find-append z b.bound (bound_to xs vs))
    at z h false e =
        let ts : List (List ℕ) = map f (without xs qs) in
        let k : IsTrue (among z (without xs qs)) = among_without z xs qs e h in
        ap (λ o. find_last (either_name o (f z)) (a.bound ++ bound_to (free_names there xs ts) vs)) (zip_none xs (free_names there xs ts) z e)
        ∙ unseen (f z) a.bound (bound_to (free_names there xs ts) vs) (not_bound (f z) (free_names there xs ts) vs (free_names_free there xs ts (f z) (among_map f z (without xs qs) k)))
        ∙ r.0 z (s z k)
        ∙ sym (unseen z b.bound (bound_to xs vs) (not_bound z xs vs e))

abbrev pub Backs : Width → Expr → Type 0
Backs w e = (f : Renaming) (r : List (List ℕ)) (a b : Scope) → Fits f (opened e).reads a b → meaning w ((opened e).back f r) a ≡ meaning w e b

abbrev Parts : Width → Type 0
Parts w = (e : Expr) × Backs w e

abbrev exprs : (w : Width) → List (Parts w) → List Expr
exprs w ys = map (λ y. y.0) ys

abbrev Within : List (List ℕ) → List (List ℕ) → Type 0
Within xs ys = (z : List ℕ) → IsTrue (among z xs) → IsTrue (among z ys)

marked_backs : (w : Width) (f : Renaming) (r : List (List ℕ)) (g : Renaming) (u : List (List ℕ)) (rs qs : List (List ℕ)) (ms : List Bool) (ys : List (Parts w)) →
    Within (outer_reads ms (map opened (exprs w ys))) rs → Within (inner_reads ms (map opened (exprs w ys))) qs →
    Marked (Fits f rs) (Fits g qs) ms (map (meaning w) (backs ms (map opened (exprs w ys)) f r g u)) (map (meaning w) (exprs w ys))
marked_backs w f r g u rs qs ms [] h k = tt
marked_backs w f r g u rs qs [] (y ∷ ys) h k =
    let here : List (List ℕ) = (opened y.0).reads in
    let more : List (List ℕ) = outer_reads [] (map opened (exprs w ys)) in (
      λ a b k. y.1 f r a b (λ z l. k.0 z (h z (among_left z here more l)), k.1),
      marked_backs w f r g u rs qs [] ys (λ z l. h z (among_right z here more l)) k,
    )
marked_backs w f r g u rs qs (true ∷ ms) (y ∷ ys) h k =
    let here : List (List ℕ) = (opened y.0).reads in
    let more : List (List ℕ) = inner_reads ms (map opened (exprs w ys)) in (
      λ a b j. y.1 g u a b (λ z l. j.0 z (k z (among_left z here more l)), j.1),
      marked_backs w f r g u rs qs ms ys h (λ z l. k z (among_right z here more l)),
    )
marked_backs w f r g u rs qs (false ∷ ms) (y ∷ ys) h k =
    let here : List (List ℕ) = (opened y.0).reads in
    let more : List (List ℕ) = outer_reads ms (map opened (exprs w ys)) in (
      λ a b k. y.1 f r a b (λ z l. k.0 z (h z (among_left z here more l)), k.1),
      marked_backs w f r g u rs qs ms ys (λ z l. h z (among_right z here more l)) k,
    )

all_agree : (R Q : Scope → Scope → Type 0) (ks ls : List Meaning) → Marked R Q [] ks ls → AllAgree R ks ls
all_agree R Q [] [] h = tt
all_agree R Q [] (l ∷ ls) h = h
all_agree R Q (k ∷ ks) [] h = h
all_agree R Q (k ∷ ks) (l ∷ ls) h = (h.0, all_agree R Q ks ls h.1)

nothing_inner : (w : Width) (ys : List (Parts w)) → Within (inner_reads [] (map opened (exprs w ys))) []
nothing_inner w [] z h = h
nothing_inner w (y ∷ ys) z h = nothing_inner w ys z h

-- children that all stand in the node's scope
agree_backs : (w : Width) (f : Renaming) (r : List (List ℕ)) (rs : List (List ℕ)) (ys : List (Parts w)) → Within (outer_reads [] (map opened (exprs w ys))) rs →
    AllAgree (Fits f rs) (map (meaning w) (backs [] (map opened (exprs w ys)) f r f r)) (map (meaning w) (exprs w ys))
agree_backs w f r rs ys h =
    all_agree (Fits f rs) (Fits f []) _ _ (marked_backs w f r f r rs [] [] ys h (nothing_inner w ys))

node_back : (w : Width) (p : Place) (o : Op) (xs : List (List ℕ)) (ys : List (Parts w)) (q : Role) → role o (length xs) ≡ q →
    (f : Renaming) (u : List (List ℕ)) (a b : Scope) → Fits f (open_node (record { place = p; op = o; args = map opened (exprs w ys); binds = xs }) q).reads a b →
    meaning w ((open_node (record { place = p; op = o; args = map opened (exprs w ys); binds = xs }) q).back f u) a
    ≡ denotation_of w p o (length xs) (view p q xs (map (meaning w) (exprs w ys)) b)
node_back w p o xs ys (Named z) e f u a b r =
    let rs : List (List ℕ) = outer_reads [] (map opened (exprs w ys)) in
    let es : List Expr = backs [] (map opened (exprs w ys)) f u f u in
    let ks : List Meaning = map (meaning w) es in
    let ls : List Meaning = map (meaning w) (exprs w ys) in
    ap (λ (m : Meaning). m a) (meaning-roll w (record { place = p; op = o; args = es; binds = xs }))
    ∙ ap (λ (q : Role). denotation_of w p o (length xs) (view p q xs ks a)) e
    ∙ ap (denotation_of w p o (length xs)) (view_same none (Fits f rs) (Fits f rs) (fits_survives f rs) p ks ls a b r (Named z) (Named z) xs xs
    (same-named (agree_backs w f u rs ys (λ z h. h)) (r.1 z)))
node_back w p o xs ys (Held z) e f u a b r =
    let rs : List (List ℕ) = z ∷ outer_reads [] (map opened (exprs w ys)) in
    let es : List Expr = backs [] (map opened (exprs w ys)) f u f u in
    let ks : List Meaning = map (meaning w) es in
    let ls : List Meaning = map (meaning w) (exprs w ys) in
    ap (λ (m : Meaning). m a) (meaning-roll w (record { place = p; op = rename_held (f z) o; args = es; binds = xs }))
    ∙ sense_held w p (f z) o (length xs) (view p (role (rename_held (f z) o) (length xs)) xs ks a)
    ∙ ap (λ (q : Role). denotation_of w p o (length xs) (view p q xs ks a)) (role_held (f z) o (length xs) ∙ ap (held_role (f z)) e)
    ∙ ap (denotation_of w p o (length xs)) (view_same none (Fits f rs) (Fits f rs) (fits_survives f rs) p ks ls a b r (Held (f z)) (Held z) xs xs
    (same-held (agree_backs w f u rs ys (λ y h. among_rest y z (outer_reads [] (map opened (exprs w ys))) h))
    (r.0 z (among_first z z (outer_reads [] (map opened (exprs w ys))) (same_self z)))))
node_back w p o xs ys (Lets ds) e f u a b r =
    let rs : List (List ℕ) = outer_reads [] (map opened (exprs w ys)) in
    let es : List Expr = backs [] (map opened (exprs w ys)) f u f u in
    let ks : List Meaning = map (meaning w) es in
    let ls : List Meaning = map (meaning w) (exprs w ys) in
    ap (λ (m : Meaning). m a) (meaning-roll w (record { place = p; op = o; args = es; binds = xs }))
    ∙ ap (λ (q : Role). denotation_of w p o (length xs) (view p q xs ks a)) e
    ∙ ap (denotation_of w p o (length xs)) (view_same none (Fits f rs) (Fits f rs) (fits_survives f rs) p ks ls a b r (Lets ds) (Lets ds) xs xs
    (same-lets (agree_backs w f u rs ys (λ z h. h)) (lets-none ds) (apart-none xs)))
node_back w p o xs ys (Plain_role ms) e f u a b r =
    let os : List Open = map opened (exprs w ys) in
    let qs : List (List ℕ) = inner_reads ms os in
    let out : List (List ℕ) = outer_reads ms os in
    let rs : List (List ℕ) = out ++ without xs qs in
    let ts : List (List ℕ) = map f (without xs qs) in
    let there : List (List ℕ) = own_names xs ++ all_binds os ++ u in
    let cs : List (List ℕ) = free_names there xs ts in
    let g : Renaming = renamed_to xs cs f in
    let es : List Expr = backs ms os f u g (u ++ cs) in
    let ks : List Meaning = map (meaning w) es in
    let ls : List Meaning = map (meaning w) (exprs w ys) in
    ap (λ (m : Meaning). m a) (meaning-roll w (record { place = p; op = o; args = es; binds = cs }))
    ∙ ap (λ n. denotation_of w p o n (view p (role o n) cs ks a)) (length_free there xs ts)
    ∙ ap (λ (q : Role). denotation_of w p o (length xs) (view p q cs ks a)) e
    ∙ ap (denotation_of w p o (length xs)) (view_same none (Fits f rs) (Fits g qs) (fits_survives f rs) p ks ls a b r (Plain_role ms) (Plain_role ms) cs xs
    (same-under (marked_backs w f u g (u ++ cs) rs qs ms ys (λ z h. among_left z out (without xs qs) h) (λ z h. h))
    (λ vs. fits_bind there f xs qs rs vs a b (λ z h. among_right z out (without xs qs) h) r)))

pub given_back : (w : Width) (e : Expr) → Backs w e
given_back w = ind-Expr (Backs w) (λ x y is.
    subst (λ (z : Expr-F Expr). Backs w (roll-Expr z)) is (λ f u a b r.
    let z : Expr-F Expr = map-Expr (Parts w) Expr (λ e. e.0) y in
    let i = opened-roll z in
    ap (λ (k : Open). meaning w (k.back f u) a) i
    ∙ node_back w z.place z.op z.binds y.args (role z.op (length z.binds)) refl f u a b (subst (λ (k : Open). Fits f k.reads a b) i r)
    ∙ sym (ap (λ (m : Meaning). m b) (meaning-roll w z))))

-- a tree means the same with its names given back
pub names_back_mean : (w : Width) (e : Expr) (a : Scope) → meaning w (with_names_back e) a ≡ meaning w e a
names_back_mean w e a = given_back w e (λ x. x) [] a a (λ z h. refl, λ z. refl)
