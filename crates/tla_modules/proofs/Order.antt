-- Modules are read in the order in which they are mentioned, and there are at most 64.
use Rattle.std.proofs.Common.{◌≡◌, ◌∙◌, ◌≤◌, ◌<◌, ◌==◌, Bool, true, false, cond, ℕ, zero, suc, List, [], ◌∷◌, ◌++◌, ◌&&◌, ◌||◌, map, length, Option, Some, None, refl, ap, sym, subst, append_assoc, append-nil, inl, inr, arith, length-append}
use Rattle.std.proofs.lemmas.Bool.{and_parts, eqb-false, false≢true}
use Rattle.std.proofs.lemmas.List.{map-append}
use Rattle.std.proofs.lemmas.List.Folds.{list_all-append}
use Rattle.std.specs.List.{list_all}
use Rattle.std.specs.Prelude.{◌⊎◌, not}
use Rattle.flat_modules.proofs.Names.{same_is, same_self}
use Rattle.tla_meaning.specs.declared.modules.Module.{Module}
use Rattle.tla_meaning.specs.Flattening.{Modules, mentioned_files}
use Rattle.tla_meaning.specs.ReadingOrder.{Course, Cycle, Next, TooMany, Whole, and_then, course, from_name, is_among, mention, one_by_one}
use Rattle.tla_meaning.specs.Scopes.{find_last, or_else, same_text}

abbrev pub names : Modules → List (List ℕ)
names ms = map (λ (x : List ℕ × Module). x.0) ms

-- ---- looking up

found_among : (x : List ℕ) (ms : Modules) (m : Module) → find_last x ms ≡ Some m → is_among x (names ms) ≡ true
found_among x [] m e = absurd (cc)
found_among x (y ∷ ys) m e = step (find_last x ys) (same_text x y.0) e (λ k h. found_among x ys k h)
  where
    step : (o : Option Module) (b : Bool) → or_else o (cond b (Some y.1) None) ≡ Some m → ((k : Module) → o ≡ Some k → is_among x (names ys) ≡ true) →
        (b || is_among x (names ys)) ≡ true
    step o true e f = refl
    step (Some k) false e f = f k refl
    step None false e f = absurd (cc)

or_none : (o : Option Module) → or_else o None ≡ o
or_none None = refl
or_none (Some v) = refl

or_assoc : (a b c : Option Module) → or_else (or_else a b) c ≡ or_else a (or_else b c)
or_assoc None b c = refl
or_assoc (Some v) b c = refl

find_behind : (x : List ℕ) (ms : Modules) (y : List ℕ × Module) → find_last x (ms ++ y ∷ []) ≡ or_else (cond (same_text x y.0) (Some y.1) None) (find_last x ms)
find_behind x [] y = sym (or_none (cond (same_text x y.0) (Some y.1) None))
find_behind x (z ∷ ms) y =
    ap (λ o. or_else o (cond (same_text x z.0) (Some z.1) None)) (find_behind x ms y)
    ∙ or_assoc (cond (same_text x y.0) (Some y.1) None) (find_last x ms) (cond (same_text x z.0) (Some z.1) None)

-- the last one is found
find_it : (ms : Modules) (y : List ℕ × Module) → find_last y.0 (ms ++ y ∷ []) ≡ Some y.1
find_it ms y = find_behind y.0 ms y ∙ ap (λ b. or_else (cond b (Some y.1) None) (find_last y.0 ms)) (same_self y.0)

-- one that was found is found as before, where the new name is none of them
find_as_before : (ms : Modules) (y : List ℕ × Module) (x : List ℕ) (m : Module) → find_last y.0 ms ≡ None → find_last x ms ≡ Some m → find_last x (ms ++ y ∷ []) ≡ Some m
find_as_before ms y x m none e = find_behind x ms y ∙ step (same_text x y.0) (λ h. same_is x y.0 h)
  where
    step : (b : Bool) → (b ≡ true → x ≡ y.0) → or_else (cond b (Some y.1) None) (find_last x ms) ≡ Some m
    step true f = let same : None ≡ Some m = sym none ∙ ap (λ z. find_last z ms) (sym (f refl)) ∙ e in absurd (cc)
    step false f = e

-- ---- names that are read once each

abbrev fresh : List (List ℕ) → List (List ℕ) → Bool
fresh front [] = true
fresh front (x ∷ xs) = not (is_among x front) && fresh (front ++ x ∷ []) xs

fresh_more : (front xs : List (List ℕ)) (x : List ℕ) → fresh front xs ≡ true → is_among x (front ++ xs) ≡ false → fresh front (xs ++ x ∷ []) ≡ true
fresh_more front [] x h k = ap (λ b. not b && true) (ap (is_among x) (sym (append-nil front)) ∙ k)
fresh_more front (y ∷ ys) x h k =
    let parts = and_parts (not (is_among y front)) (fresh (front ++ y ∷ []) ys) h in
    ap (λ b. b && fresh (front ++ y ∷ []) (ys ++ x ∷ [])) parts.0
    ∙ fresh_more (front ++ y ∷ []) ys x parts.1 (ap (is_among x) (append_assoc front (y ∷ []) ys) ∙ k)

not_false : (b : Bool) → not b ≡ true → b ≡ false
not_false true h = absurd (false≢true h)
not_false false h = refl

fresh_at : (front xs : List (List ℕ)) (x : List ℕ) (more : List (List ℕ)) → fresh front (xs ++ x ∷ more) ≡ true → is_among x (front ++ xs) ≡ false
fresh_at front [] x more h =
    ap (is_among x) (append-nil front) ∙ not_false (is_among x front) (and_parts (not (is_among x front)) (fresh (front ++ x ∷ []) more) h).0
fresh_at front (y ∷ ys) x more h =
    ap (is_among x) (sym (append_assoc front (y ∷ []) ys))
    ∙ fresh_at (front ++ y ∷ []) ys x more (and_parts (not (is_among y front)) (fresh (front ++ y ∷ []) (ys ++ x ∷ more)) h).1

-- ---- what was read is among the modules, once each, and at most 64 times

record Good (ms : Modules) (read : List (List ℕ)) : Type 0 where
  inside : list_all (λ x. is_among x (names ms)) read ≡ true
  apart : fresh [] read ≡ true
  few : length read ≤ 64

abbrev Sound : Modules → Course → Type 0
Sound ms (Whole r) = Good ms r
Sound ms (Next x r) = Good ms r × (find_last x ms ≡ None) × (length r < 64)
Sound ms (Cycle xs) = Unit {0}
Sound ms TooMany = Unit {0}

good_more : (ms : Modules) (read : List (List ℕ)) (x : List ℕ) (m : Module) → Good ms read → is_among x read ≡ false → length read < 64 → find_last x ms ≡ Some m →
    Good ms (read ++ x ∷ [])
good_more ms read x m g new lt e = record {
  inside =
      list_all-append (λ x. is_among x (names ms)) read (x ∷ [])
      ∙ ap (λ b. b && (is_among x (names ms) && true)) g.inside ∙ ap (λ b. b && true) (found_among x ms m e);
  apart = fresh_more [] read x g.apart new;
  few = omega (arith, length-append read (x ∷ []));
}

then_sound : (ms : Modules) (c : Course) (f : List (List ℕ) → Course) → Sound ms c → ((r : List (List ℕ)) → Good ms r → Sound ms (f r)) → Sound ms (and_then c f)
then_sound ms (Whole r) f h k = k r h
then_sound ms (Next x r) f h k = h
then_sound ms (Cycle xs) f h k = tt
then_sound ms TooMany f h k = tt

one_by_one_sound : (ms : Modules) (step : List ℕ → List (List ℕ) → Course) (xs read : List (List ℕ)) → ((x : List ℕ) (r : List (List ℕ)) → Good ms r → Sound ms (step x r)) →
    Good ms read → Sound ms (one_by_one step xs read)
one_by_one_sound ms step [] read h g = g
one_by_one_sound ms step (x ∷ xs) read h g = then_sound ms (step x read) (one_by_one step xs) (h x read g) (λ r k. one_by_one_sound ms step xs r h k)

below : (n : ℕ) → n ≤ 64 → (n == 64) ≡ false → n < 64
below n le h = let other = eqb-false n 64 h in omega arith

mention_sound : (n : ℕ) (ms : Modules) (chain : List (List ℕ)) (x : List ℕ) (read : List (List ℕ)) → Good ms read → Sound ms (mention n ms chain x read)
mention_sound zero ms chain x read g = tt
mention_sound (suc n) ms chain x read g =
    step (is_among x chain) (is_among x read) (length read == 64) (find_last x ms) refl refl refl (λ y r h. mention_sound n ms (chain ++ x ∷ []) y r h)
  where
    step : (a b c : Bool) (o : Option Module) → is_among x read ≡ b → (length read == 64) ≡ c → find_last x ms ≡ o →
        ((y : List ℕ) (r : List (List ℕ)) → Good ms r → Sound ms (mention n ms (chain ++ x ∷ []) y r)) →
        Sound ms (cond a (Cycle (from_name x chain ++ x ∷ [])) (cond b (Whole read) (cond c TooMany
        (elim o [ None ↦ Next x read | Some m ↦ one_by_one (mention n ms (chain ++ x ∷ [])) (mentioned_files m) (read ++ x ∷ []) ]))))
    step true b c o p q r k = tt
    step false true c o p q r k = g
    step false false true o p q r k = tt
    step false false false None p q r k = (g, r, below (length read) g.few q)
    step false false false (Some m) p q r k =
        one_by_one_sound ms (mention n ms (chain ++ x ∷ [])) (mentioned_files m) (read ++ x ∷ []) k (good_more ms read x m g p (below (length read) g.few q) r)

course_sound : (ms : Modules) (root : List ℕ) → Sound ms (course ms root)
course_sound ms root = step (find_last root ms) refl
  where
    step : (o : Option Module) → find_last root ms ≡ o →
        Sound ms (elim o [ None ↦ Next root [] | Some m ↦ one_by_one (mention 65 ms (root ∷ [])) (mentioned_files m) (root ∷ []) ])
    step None e = (record { inside = refl; apart = refl; few = omega arith }, e, omega arith)
    step (Some m) e =
        one_by_one_sound ms (mention 65 ms (root ∷ [])) (mentioned_files m) (root ∷ []) (λ y r h. mention_sound 65 ms (root ∷ []) y r h)
        (good_more ms [] root m (record { inside = refl; apart = refl; few = omega arith }) refl (omega arith) e)

-- ---- what was read stays in front

abbrev Starts : List (List ℕ) → List (List ℕ) → Type 0
Starts p r = (more : List (List ℕ)) × (r ≡ p ++ more)

abbrev Begins : List (List ℕ) → Course → Type 0
Begins p (Whole r) = Starts p r
Begins p (Next x r) = Starts p r
Begins p (Cycle xs) = Unit {0}
Begins p TooMany = Unit {0}

starts_more : (p r : List (List ℕ)) (x : List ℕ) → Starts p r → Starts p (r ++ x ∷ [])
starts_more p r x h = (h.0 ++ x ∷ [], ap (λ l. l ++ x ∷ []) h.1 ∙ append_assoc p h.0 (x ∷ []))

then_begins : (p : List (List ℕ)) (c : Course) (f : List (List ℕ) → Course) → Begins p c → ((r : List (List ℕ)) → Starts p r → Begins p (f r)) → Begins p (and_then c f)
then_begins p (Whole r) f h k = k r h
then_begins p (Next x r) f h k = h
then_begins p (Cycle xs) f h k = tt
then_begins p TooMany f h k = tt

one_by_one_begins : (p : List (List ℕ)) (step : List ℕ → List (List ℕ) → Course) (xs read : List (List ℕ)) →
    ((x : List ℕ) (r : List (List ℕ)) → Starts p r → Begins p (step x r)) → Starts p read → Begins p (one_by_one step xs read)
one_by_one_begins p step [] read h s = s
one_by_one_begins p step (x ∷ xs) read h s = then_begins p (step x read) (one_by_one step xs) (h x read s) (λ r k. one_by_one_begins p step xs r h k)

mention_begins : (p : List (List ℕ)) (n : ℕ) (ms : Modules) (chain : List (List ℕ)) (x : List ℕ) (read : List (List ℕ)) → Starts p read → Begins p (mention n ms chain x read)
mention_begins p zero ms chain x read s = tt
mention_begins p (suc n) ms chain x read s =
    step (is_among x chain) (is_among x read) (length read == 64) (find_last x ms) (λ y r h. mention_begins p n ms (chain ++ x ∷ []) y r h)
  where
    step : (a b c : Bool) (o : Option Module) → ((y : List ℕ) (r : List (List ℕ)) → Starts p r → Begins p (mention n ms (chain ++ x ∷ []) y r)) →
        Begins p (cond a (Cycle (from_name x chain ++ x ∷ [])) (cond b (Whole read) (cond c TooMany
        (elim o [ None ↦ Next x read | Some m ↦ one_by_one (mention n ms (chain ++ x ∷ [])) (mentioned_files m) (read ++ x ∷ []) ]))))
    step true b c o k = tt
    step false true c o k = s
    step false false true o k = tt
    step false false false None k = s
    step false false false (Some m) k = one_by_one_begins p (mention n ms (chain ++ x ∷ [])) (mentioned_files m) (read ++ x ∷ []) k (starts_more p read x s)

-- ---- one module more leads further

abbrev Goes : Course → Course → Type 0
Goes (Whole r) d = d ≡ Whole r
Goes (Next x r) d = (d ≡ Next x r) ⊎ Begins (r ++ x ∷ []) d
Goes (Cycle xs) d = d ≡ Cycle xs
Goes TooMany d = d ≡ TooMany

then_goes : (c d : Course) (f g : List (List ℕ) → Course) → Goes c d → ((r : List (List ℕ)) → Goes (f r) (g r)) →
    ((p r : List (List ℕ)) → Starts p r → Begins p (g r)) → Goes (and_then c f) (and_then d g)
then_goes (Whole r) d f g h k b = subst (λ e. Goes (f r) (and_then e g)) (sym h) (k r)
then_goes (Next x r) d f g (inl h) k b = inl (ap (λ e. and_then e g) h)
then_goes (Next x r) d f g (inr h) k b = inr (then_begins (r ++ x ∷ []) d g h (b (r ++ x ∷ [])))
then_goes (Cycle xs) d f g h k b = ap (λ e. and_then e g) h
then_goes TooMany d f g h k b = ap (λ e. and_then e g) h

one_by_one_goes : (f g : List ℕ → List (List ℕ) → Course) (xs read : List (List ℕ)) → ((x : List ℕ) (r : List (List ℕ)) → Goes (f x r) (g x r)) →
    ((p : List (List ℕ)) (x : List ℕ) (r : List (List ℕ)) → Starts p r → Begins p (g x r)) → Goes (one_by_one f xs read) (one_by_one g xs read)
one_by_one_goes f g [] read h b = refl
one_by_one_goes f g (x ∷ xs) read h b =
    then_goes (f x read) (g x read) (one_by_one f xs) (one_by_one g xs) (h x read) (λ r. one_by_one_goes f g xs r h b)
    (λ p r s. one_by_one_begins p g xs r (b p) s)

module _ (front ms : Modules) (same : (x : List ℕ) (m : Module) → find_last x front ≡ Some m → find_last x ms ≡ Some m) where
  mention_goes : (n : ℕ) (chain : List (List ℕ)) (x : List ℕ) (read : List (List ℕ)) → Goes (mention n front chain x read) (mention n ms chain x read)
  mention_goes zero chain x read = refl
  mention_goes (suc n) chain x read =
      step (is_among x chain) (is_among x read) (length read == 64) (find_last x front) (find_last x ms) (same x) (λ y r. mention_goes n (chain ++ x ∷ []) y r)
    where
      step : (a b c : Bool) (o q : Option Module) → ((m : Module) → o ≡ Some m → q ≡ Some m) →
          ((y : List ℕ) (r : List (List ℕ)) → Goes (mention n front (chain ++ x ∷ []) y r) (mention n ms (chain ++ x ∷ []) y r)) →
          Goes
          (cond a (Cycle (from_name x chain ++ x ∷ [])) (cond b (Whole read) (cond c TooMany
          (elim o [ None ↦ Next x read | Some m ↦ one_by_one (mention n front (chain ++ x ∷ [])) (mentioned_files m) (read ++ x ∷ []) ]))))
          (cond a (Cycle (from_name x chain ++ x ∷ [])) (cond b (Whole read) (cond c TooMany
          (elim q [ None ↦ Next x read | Some m ↦ one_by_one (mention n ms (chain ++ x ∷ [])) (mentioned_files m) (read ++ x ∷ []) ]))))
      step true b c o q s k = refl
      step false true c o q s k = refl
      step false false true o q s k = refl
      step false false false None None s k = inl refl
      step false false false None (Some m) s k =
          inr (one_by_one_begins (read ++ x ∷ []) (mention n ms (chain ++ x ∷ [])) (mentioned_files m) (read ++ x ∷ [])
          (λ y r h. mention_begins (read ++ x ∷ []) n ms (chain ++ x ∷ []) y r h) ([], sym (append-nil (read ++ x ∷ []))))
      step false false false (Some m) q s k =
          subst (λ z. Goes (one_by_one (mention n front (chain ++ x ∷ [])) (mentioned_files m) (read ++ x ∷ []))
          (elim z [ None ↦ Next x read | Some m ↦ one_by_one (mention n ms (chain ++ x ∷ [])) (mentioned_files m) (read ++ x ∷ []) ]))
          (sym (s m refl))
          (one_by_one_goes (mention n front (chain ++ x ∷ [])) (mention n ms (chain ++ x ∷ [])) (mentioned_files m) (read ++ x ∷ []) k
          (λ p y r h. mention_begins p n ms (chain ++ x ∷ []) y r h))

  course_goes : (root : List ℕ) → Goes (course front root) (course ms root)
  course_goes root = step (find_last root front) (find_last root ms) (same root)
    where
      step : (o q : Option Module) → ((m : Module) → o ≡ Some m → q ≡ Some m) →
          Goes (elim o [ None ↦ Next root [] | Some m ↦ one_by_one (mention 65 front (root ∷ [])) (mentioned_files m) (root ∷ []) ])
          (elim q [ None ↦ Next root [] | Some m ↦ one_by_one (mention 65 ms (root ∷ [])) (mentioned_files m) (root ∷ []) ])
      step None None s = inl refl
      step None (Some m) s =
          inr (one_by_one_begins (root ∷ []) (mention 65 ms (root ∷ [])) (mentioned_files m) (root ∷ [])
          (λ y r h. mention_begins (root ∷ []) 65 ms (root ∷ []) y r h) ([], refl))
      step (Some m) q s =
          subst (λ z. Goes (one_by_one (mention 65 front (root ∷ [])) (mentioned_files m) (root ∷ []))
          (elim z [ None ↦ Next root [] | Some m ↦ one_by_one (mention 65 ms (root ∷ [])) (mentioned_files m) (root ∷ []) ]))
          (sym (s m refl))
          (one_by_one_goes (mention 65 front (root ∷ [])) (mention 65 ms (root ∷ [])) (mentioned_files m) (root ∷ []) (λ y r. mention_goes 65 (root ∷ []) y r)
          (λ p y r h. mention_begins p 65 ms (root ∷ []) y r h))

-- ---- what is read are the modules in their order

abbrev pub Named : Modules → Course → Type 0
Named ms (Whole r) = r ≡ names ms
Named ms (Next x r) = r ≡ names ms
Named ms (Cycle xs) = Unit {0}
Named ms TooMany = Unit {0}

no_more : (ms : Modules) (r more : List (List ℕ)) → Good ms r → r ≡ names ms ++ more → r ≡ names ms
no_more ms r [] g e = e ∙ append-nil (names ms)
no_more ms r (y ∷ ys) g e =
    let all = subst (λ l. list_all (λ x. is_among x (names ms)) l ≡ true) e g.inside in
    let behind = (and_parts (list_all (λ x. is_among x (names ms)) (names ms)) (list_all (λ x. is_among x (names ms)) (y ∷ ys))
    (sym (list_all-append (λ x. is_among x (names ms)) (names ms) (y ∷ ys)) ∙ all)).1 in
    let there = (and_parts (is_among y (names ms)) (list_all (λ x. is_among x (names ms)) ys) behind).0 in
    let new = fresh_at [] (names ms) y ys (subst (λ l. fresh [] l ≡ true) e g.apart) in
    absurd (false≢true (sym new ∙ there))

exact : (ms : Modules) (p : List (List ℕ)) (c : Course) → p ≡ names ms → Sound ms c → Begins p c → Named ms c
exact ms p (Whole r) e g b = no_more ms r b.0 g (b.1 ∙ ap (λ l. l ++ b.0) e)
exact ms p (Next x r) e g b = no_more ms r b.0 g.0 (b.1 ∙ ap (λ l. l ++ b.0) e)
exact ms p (Cycle xs) e g b = tt
exact ms p TooMany e g b = tt

-- one module is read behind these, which were named
pub named_next : (before : Modules) (x : List ℕ × Module) (root : List ℕ) (read : List (List ℕ)) → Named before (course before root) → course before root ≡ Next x.0 read →
    Named (before ++ x ∷ []) (course (before ++ x ∷ []) root)
named_next before x root read named lead =
    let sound : Sound before (Next x.0 read) = subst (Sound before) lead (course_sound before root) in
    let is : read ≡ names before = subst (Named before) lead named in
    let more = before ++ x ∷ [] in
    let in_order : read ++ x.0 ∷ [] ≡ names more = ap (λ l. l ++ x.0 ∷ []) is ∙ sym (map-append (λ (x : List ℕ × Module). x.0) before (x ∷ [])) in
    from more (course more root) in_order (find_it before x) (course_sound more root)
    (subst (λ c. Goes c (course more root)) lead (course_goes before more (λ y m e. find_as_before before x y m sound.1 e) root))
  where
    from : (more : Modules) (c : Course) → read ++ x.0 ∷ [] ≡ names more → find_last x.0 more ≡ Some x.1 → Sound more c → Goes (Next x.0 read) c → Named more c
    from more c e found sound (inl h) = let none : find_last x.0 more ≡ None = (subst (Sound more) h sound).1 in let wrong : Some x.1 ≡ None = sym found ∙ none in absurd (cc)
    from more c e found sound (inr b) = exact more (read ++ x.0 ∷ []) c e sound b

names_length : (ms : Modules) → length (names ms) ≡ length ms
names_length [] = refl
names_length (x ∷ xs) = ap suc (names_length xs)

pub few_before : (before : Modules) (root x : List ℕ) (read : List (List ℕ)) → Named before (course before root) → course before root ≡ Next x read → length before < 64
few_before before root x read named lead =
    let sound : Sound before (Next x read) = subst (Sound before) lead (course_sound before root) in
    let is : read ≡ names before = subst (Named before) lead named in
    let size = ap length is in
    let same = names_length before in
    let lt : length read < 64 = sound.2 in
    omega arith
