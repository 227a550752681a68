-- Steps of giving names back.
use Rattle.std.proofs.Common.{◌≡◌, ◌≤◌, ◌<◌, ℕ, suc, ◌+◌, ◌-◌, Bool, true, false, List, [], ◌∷◌, ◌++◌, drop, get_or, length, map, replicate, take, zip, nat_lt, Option, Some, None, arith, refl, ap, ap₂, ◌∙◌, sym, if◌then◌else◌}
use Rattle.std.specs.Bool.{beq}
use Rattle.std.proofs.lemmas.List.{append-nil, append_assoc, drop_all, take_more}
use Rattle.tla_meaning.specs.declared.expr.Expr.{Expr, out-Expr, roll-Expr, roll-out-Expr}
use Rattle.tla_meaning.specs.declared.expr.Expr.TheFolds.{map-Expr}
use Rattle.tla_meaning.specs.declared.op.Op.{Op}
use Rattle.tla_meaning.specs.declared.op.Op.TheVariants as op
use Rattle.tla_meaning.specs.declared.place.Place.{Place}
use Rattle.tla_meaning.specs.Meaning.{role}
use Rattle.tla_meaning.specs.Renamings.{Renaming}
use Rattle.tla_meaning.specs.Scopes.{find_last, or_else, same_text}
use Rattle.tla_meaning.proofs.Laws.{find-append}
use Rattle.op_inliner.specs.declared.naming.Binder.{Binder}
use Rattle.op_inliner.specs.NamesBack.{Open, all_binds, among, backs, either_name, inner_reads, longer_name, longest, new_names, open_node, opened, outer_reads, own_names, renamed_to, without}
use Rattle.op_inliner.specs.inner.Building.{marks_in}
use Rattle.op_inliner.specs.inner.Naming.{Pairs, back_binds, back_op, backs_at, binds_names, child_back, longest_from, news, own_binds, own_read, reads_of, renaming}
use Rattle.op_inliner.proofs.BuildSteps.{length_taken, map_more}
use Rattle.op_inliner.proofs.FrameLemmas.{last_hit, last_miss}
use Rattle.op_inliner.proofs.GivenBack.{length_free, opened-roll}

-- ---- longer names

longest_is : (ys : List (List ℕ)) → longest ys ≡ longest_from 0 ys
longest_is [] = refl
longest_is (y ∷ ys) = ap (λ n. if nat_lt n (length y) then length y else n) (longest_is ys)

longest_two : (xs ys : List (List ℕ)) → longest (xs ++ ys) ≡ longest_from (longest_from 0 ys) xs
longest_two [] ys = longest_is ys
longest_two (x ∷ xs) ys = ap (λ n. if nat_lt n (length x) then length x else n) (longest_two xs ys)

pub longer_is : (x bytes : List ℕ) (taken there : List (List ℕ)) (n m k : ℕ) → n ≡ longest_from (longest_from 0 there) taken → m ≡ n + 1 → k ≡ m - length x →
    bytes ≡ x ++ replicate k 39 → bytes ≡ longer_name x (taken ++ there)
longer_is x bytes taken there n m k a b c d =
    let e = longest_two taken there in
    let f : k ≡ suc (longest (taken ++ there)) - length x = omega (arith, a, b, c, e) in
    d ∙ ap (λ k. x ++ replicate k 39) f

-- ---- lists that grow at the end

without_more : (bs xs : List (List ℕ)) (x : List ℕ) → without bs (xs ++ x ∷ []) ≡ without bs xs ++ (if among x bs then [] else x ∷ [])
without_more bs [] x = at (among x bs)
  where
    at : (b : Bool) → (if b then [] else x ∷ []) ≡ (if b then [] else x ∷ [])
    at b = refl
without_more bs (y ∷ xs) x = at (among y bs) (without_more bs xs x)
  where
    at : (b : Bool) → without bs (xs ++ x ∷ []) ≡ without bs xs ++ (if among x bs then [] else x ∷ []) →
        (if b then without bs (xs ++ x ∷ []) else y ∷ without bs (xs ++ x ∷ [])) ≡ (if b then without bs xs else y ∷ without bs xs) ++ (if among x bs then [] else x ∷ [])
    at true e = e
    at false e = ap (λ zs. y ∷ zs) e

all_binds_more : (ks : List Open) (k : Open) → all_binds (ks ++ k ∷ []) ≡ all_binds ks ++ k.binds
all_binds_more [] k = append-nil k.binds
all_binds_more (j ∷ ks) k = ap (λ zs. j.binds ++ zs) (all_binds_more ks k) ∙ sym (append_assoc j.binds (all_binds ks) k.binds)

abbrev some_reads : Bool → Open → List (List ℕ)
some_reads b k = if b then k.reads else []

inner_more : (ms : List Bool) (ks : List Open) (k : Open) → inner_reads ms (ks ++ k ∷ []) ≡ inner_reads ms ks ++ some_reads (get_or ms (length ks) false) k
inner_more [] [] k = refl
inner_more (true ∷ ms) [] k = append-nil k.reads
inner_more (false ∷ ms) [] k = refl
inner_more [] (j ∷ ks) k = inner_more [] ks k
inner_more (true ∷ ms) (j ∷ ks) k = ap (λ zs. j.reads ++ zs) (inner_more ms ks k) ∙ sym (append_assoc j.reads (inner_reads ms ks) (some_reads (get_or ms (length ks) false) k))
inner_more (false ∷ ms) (j ∷ ks) k = inner_more ms ks k

abbrev other_reads : Bool → Open → List (List ℕ)
other_reads b k = if b then [] else k.reads

outer_more : (ms : List Bool) (ks : List Open) (k : Open) → outer_reads ms (ks ++ k ∷ []) ≡ outer_reads ms ks ++ other_reads (get_or ms (length ks) false) k
outer_more [] [] k = append-nil k.reads
outer_more (true ∷ ms) [] k = refl
outer_more (false ∷ ms) [] k = append-nil k.reads
outer_more [] (j ∷ ks) k = ap (λ zs. j.reads ++ zs) (outer_more [] ks k) ∙ sym (append_assoc j.reads (outer_reads [] ks) k.reads)
outer_more (true ∷ ms) (j ∷ ks) k = outer_more ms ks k
outer_more (false ∷ ms) (j ∷ ks) k = ap (λ zs. j.reads ++ zs) (outer_more ms ks k) ∙ sym (append_assoc j.reads (outer_reads ms ks) (other_reads (get_or ms (length ks) false) k))

abbrev one_back : Bool → Open → Renaming → List (List ℕ) → Renaming → List (List ℕ) → Expr
one_back b k f r g u = if b then k.back g u else k.back f r

backs_more : (ms : List Bool) (ks : List Open) (k : Open) (f : Renaming) (r : List (List ℕ)) (g : Renaming) (u : List (List ℕ)) →
    backs ms (ks ++ k ∷ []) f r g u ≡ backs ms ks f r g u ++ one_back (get_or ms (length ks) false) k f r g u ∷ []
backs_more [] [] k f r g u = refl
backs_more (true ∷ ms) [] k f r g u = refl
backs_more (false ∷ ms) [] k f r g u = refl
backs_more [] (j ∷ ks) k f r g u = ap (λ (es : List Expr). j.back f r ∷ es) (backs_more [] ks k f r g u)
backs_more (true ∷ ms) (j ∷ ks) k f r g u = ap (λ (es : List Expr). j.back g u ∷ es) (backs_more ms ks k f r g u)
backs_more (false ∷ ms) (j ∷ ks) k f r g u = ap (λ (es : List Expr). j.back f r ∷ es) (backs_more ms ks k f r g u)

length_opened : (es : List Expr) → length (map opened es) ≡ length es
length_opened [] = refl
length_opened (e ∷ es) = ap suc (length_opened es)

opened_more : (es : List Expr) (i : ℕ) (e : Expr) → i < length es → e ≡ get_or es i e → map opened (take (i + 1) es) ≡ map opened (take i es) ++ opened e ∷ []
opened_more es i e h q =
    ap (map opened) (take_more es i e h) ∙ map_more opened (take i es) (get_or es i e) ∙ ap (λ (d : Expr). map opened (take i es) ++ opened d ∷ []) (sym q)

opened_count : (es : List Expr) (i : ℕ) → i < length es → length (map opened (take i es)) ≡ i
opened_count es i h = length_opened (take i es) ∙ length_taken es i h

-- ---- steps of the loops

pub without_step : (bs xs all old new : List (List ℕ)) (i : ℕ) (x : List ℕ) (b : Bool) → i < length xs → x ≡ get_or xs i x → all ≡ old ++ without bs (take i xs) → b ≡ among x bs →
    new ≡ all ++ (if b then [] else x ∷ []) → new ≡ old ++ without bs (take (i + 1) xs)
without_step bs xs all old new i x b h q a e n =
    n ∙ ap₂ (λ (ys : List (List ℕ)) (b : Bool). ys ++ (if b then [] else x ∷ [])) a e
    ∙ append_assoc old (without bs (take i xs)) (if among x bs then [] else x ∷ [])
    ∙ ap (λ (ys : List (List ℕ)). old ++ ys)
    (sym (ap (without bs) (take_more xs i x h ∙ ap (λ (y : List ℕ). take i xs ++ y ∷ []) (sym q)) ∙ without_more bs (take i xs) x))

pub binds_step : (es : List Expr) (all old new : List (List ℕ)) (i : ℕ) (e : Expr) → i < length es → e ≡ get_or es i e → all ≡ old ++ all_binds (map opened (take i es)) →
    new ≡ all ++ (opened e).binds → new ≡ old ++ all_binds (map opened (take (i + 1) es))
binds_step es all old new i e h q a n =
    n ∙ ap (λ (ys : List (List ℕ)). ys ++ (opened e).binds) a
    ∙ append_assoc old (all_binds (map opened (take i es))) (opened e).binds
    ∙ ap (λ (ys : List (List ℕ)). old ++ ys) (sym (ap all_binds (opened_more es i e h q) ∙ all_binds_more (map opened (take i es)) (opened e)))

abbrev taken_reads : Bool → Bool → Open → List (List ℕ)
taken_reads inner marked k = if inner then some_reads marked k else other_reads marked k

reads_more : (b : Bool) (ms : List Bool) (ks : List Open) (k : Open) → reads_of b ms (ks ++ k ∷ []) ≡ reads_of b ms ks ++ taken_reads b (get_or ms (length ks) false) k
reads_more true ms ks k = inner_more ms ks k
reads_more false ms ks k = outer_more ms ks k

pub reads_step : (b : Bool) (ms : List Bool) (es : List Expr) (all old new : List (List ℕ)) (i : ℕ) (e : Expr) → i < length es → e ≡ get_or es i e →
    all ≡ old ++ reads_of b ms (map opened (take i es)) → new ≡ all ++ taken_reads b (get_or ms i false) (opened e) → new ≡ old ++ reads_of b ms (map opened (take (i + 1) es))
reads_step b ms es all old new i e h q a n =
    n ∙ ap (λ (ys : List (List ℕ)). ys ++ taken_reads b (get_or ms i false) (opened e)) a
    ∙ append_assoc old (reads_of b ms (map opened (take i es))) (taken_reads b (get_or ms i false) (opened e))
    ∙ ap (λ (ys : List (List ℕ)). old ++ ys)
    (sym (ap (reads_of b ms) (opened_more es i e h q) ∙ reads_more b ms (map opened (take i es)) (opened e)
    ∙ ap (λ n. reads_of b ms (map opened (take i es)) ++ taken_reads b (get_or ms n false) (opened e)) (opened_count es i h)))

-- a child that is read, and one that is passed over
pub reads_taken : (b m n : Bool) (k : Open) (all new : List (List ℕ)) → n ≡ m → beq n b ≡ true → new ≡ all ++ k.reads → new ≡ all ++ taken_reads b m k
reads_taken true true n k all new d e f = f
reads_taken true false n k all new d e f = absurd (let g = sym (ap (λ (x : Bool). beq x true) d) ∙ e in cc)
reads_taken false true n k all new d e f = absurd (let g = sym (ap (λ (x : Bool). beq x false) d) ∙ e in cc)
reads_taken false false n k all new d e f = f

pub reads_passed : (b m n : Bool) (k : Open) (all : List (List ℕ)) → n ≡ m → beq n b ≡ false → all ≡ all ++ taken_reads b m k
reads_passed true true n k all d e = absurd (let g = sym (ap (λ (x : Bool). beq x true) d) ∙ e in cc)
reads_passed true false n k all d e = sym (append-nil all)
reads_passed false true n k all d e = sym (append-nil all)
reads_passed false false n k all d e = absurd (let g = sym (ap (λ (x : Bool). beq x false) d) ∙ e in cc)

pub backs_step : (b : Binder) (es : List Expr) (all new : List Expr) (i : ℕ) (e t : Expr) (ps : Pairs) → i < length es → e ≡ get_or es i e → all ≡ backs_at b (take i es) ps →
    new ≡ all ++ t ∷ [] → t ≡ child_back (get_or b.marks.now i false) e b ps →
    new ≡ backs_at b (take (i + 1) es) ps
backs_step b es all new i e t ps h q a n c =
    let qs : Pairs = ps ++ zip b.names.now b.new_names.now in
    n ∙ ap₂ (λ (us : List Expr) (u : Expr). us ++ u ∷ []) a c
    ∙ sym (ap (λ (ks : List Open). backs b.marks.now ks (renaming ps) (news ps) (renaming qs) (news qs)) (opened_more es i e h q)
    ∙ backs_more b.marks.now (map opened (take i es)) (opened e) (renaming ps) (news ps) (renaming qs) (news qs)
    ∙ ap (λ n. backs b.marks.now (map opened (take i es)) (renaming ps) (news ps) (renaming qs) (news qs) ++ one_back (get_or b.marks.now n false) (opened e) (renaming ps) (news ps) (renaming qs) (news qs) ∷ [])
    (opened_count es i h))

no_zip : (xs ys : List (List ℕ)) → ys ≡ [] → zip xs ys ≡ []
no_zip [] ys e = refl
no_zip (x ∷ xs) [] e = refl
no_zip (x ∷ xs) (y ∷ ys) e = absurd (cc)

pub pairs_end : (xs ys : List (List ℕ)) (i : ℕ) (now goal : Pairs) → length ys ≤ i → now ++ zip (drop i xs) (drop i ys) ≡ goal → now ≡ goal
pairs_end xs ys i now goal h e = sym (ap (λ zs. now ++ zs) (no_zip (drop i xs) (drop i ys) (drop_all i ys h)) ∙ append-nil now) ∙ e

-- ---- looking a new name up

pub pair_hit : (z : List ℕ) (ps : Pairs) (i j : ℕ) (p : List ℕ × List ℕ) → j ≡ i + 1 → i < length ps → p ≡ get_or ps i p → same_text z p.0 ≡ true → find_last z (take j ps) ≡ Some p.1
pair_hit z ps i j p e h q s =
    ap (λ k. find_last z (take k ps)) e ∙ ap (find_last z) (take_more ps i p h ∙ ap (λ (o : List ℕ × List ℕ). take i ps ++ o ∷ []) (sym q)) ∙ last_hit z p.0 p.1 (take i ps) s

pub pair_miss : (z : List ℕ) (ps : Pairs) (i j : ℕ) (p : List ℕ × List ℕ) → j ≡ i + 1 → i < length ps → p ≡ get_or ps i p → same_text z p.0 ≡ false → find_last z (take j ps) ≡ find_last z (take i ps)
pair_miss z ps i j p e h q s =
    ap (λ k. find_last z (take k ps)) e ∙ ap (find_last z) (take_more ps i p h ∙ ap (λ (o : List ℕ × List ℕ). take i ps ++ o ∷ []) (sym q)) ∙ last_miss z p.0 p.1 (take i ps) s

-- ---- what a node reads, binds and becomes

opened_is : (e : Expr) → opened e ≡ open_node (map-Expr Expr Open opened (out-Expr e)) (role (out-Expr e).op (length (out-Expr e).binds))
opened_is e = ap opened (sym (roll-out-Expr e)) ∙ opened-roll (out-Expr e)

abbrev opened_node : Place → Op → List Open → List (List ℕ) → Open
opened_node p o ks xs = open_node (record { place = p; op = o; args = ks; binds = xs }) (role o (length xs))

no_inner : (ks : List Open) → inner_reads [] ks ≡ []
no_inner [] = refl
no_inner (k ∷ ks) = no_inner ks

reads_by : (p : Place) (o : Op) (ks : List Open) (xs : List (List ℕ)) →
    (opened_node p o ks xs).reads ≡ (own_read o ++ outer_reads (marks_in (role o (length xs))) ks) ++ without xs (inner_reads (marks_in (role o (length xs))) ks)
reads_by p (op.Use z) ks xs = sym (ap (λ rs. outer_reads [] ks ++ without xs rs) (no_inner ks) ∙ append-nil (outer_reads [] ks))
reads_by p (op.Param z) ks xs = sym (ap (λ rs. outer_reads [] ks ++ without xs rs) (no_inner ks) ∙ append-nil (outer_reads [] ks))
reads_by p (op.Let ds) ks xs = sym (ap (λ rs. outer_reads [] ks ++ without xs rs) (no_inner ks) ∙ append-nil (outer_reads [] ks))
reads_by p (op.Bound z) ks xs = sym (ap (λ rs. (z ∷ outer_reads [] ks) ++ without xs rs) (no_inner ks) ∙ append-nil (z ∷ outer_reads [] ks))
reads_by p o ks xs = refl

pub reads_are : (e : Expr) → (opened e).reads ≡ (own_read (out-Expr e).op ++ outer_reads (marks_in (role (out-Expr e).op (length (out-Expr e).binds))) (map opened (out-Expr e).args))
    ++ without (out-Expr e).binds (inner_reads (marks_in (role (out-Expr e).op (length (out-Expr e).binds))) (map opened (out-Expr e).args))
reads_are e = ap (λ (k : Open). k.reads) (opened_is e) ∙ reads_by (out-Expr e).place (out-Expr e).op (map opened (out-Expr e).args) (out-Expr e).binds

binds_by : (p : Place) (o : Op) (ks : List Open) (xs : List (List ℕ)) → (opened_node p o ks xs).binds ≡ (if binds_names o then own_names xs else []) ++ all_binds ks
binds_by p (op.Use z) ks xs = refl
binds_by p (op.Param z) ks xs = refl
binds_by p (op.Let ds) ks xs = refl
binds_by p (op.Bound z) ks xs = refl
binds_by p o ks xs = refl

pub binds_are : (e : Expr) → (opened e).binds ≡ (if binds_names (out-Expr e).op then own_names (out-Expr e).binds else []) ++ all_binds (map opened (out-Expr e).args)
binds_are e = ap (λ (k : Open). k.binds) (opened_is e) ∙ binds_by (out-Expr e).place (out-Expr e).op (map opened (out-Expr e).args) (out-Expr e).binds

-- pairs are the renaming that a node adds
either_twice : (a b : Option (List ℕ)) (z : List ℕ) → either_name (or_else a b) z ≡ either_name a (either_name b z)
either_twice None b z = refl
either_twice (Some x) b z = refl

renaming_more : (ps : Pairs) (xs ys : List (List ℕ)) → renaming (ps ++ zip xs ys) ≡ renamed_to xs ys (renaming ps)
renaming_more ps xs ys = λ i z. (ap (λ (o : Option (List ℕ)). either_name o z) (find-append z ps (zip xs ys)) ∙ either_twice (find_last z (zip xs ys)) (find_last z ps) z) i

seconds : (xs ys : List (List ℕ)) → length ys ≡ length xs → news (zip xs ys) ≡ ys
seconds [] [] e = refl
seconds [] (y ∷ ys) e = absurd (omega (arith, e))
seconds (x ∷ xs) [] e = refl
seconds (x ∷ xs) (y ∷ ys) e = ap (λ zs. y ∷ zs) (seconds xs ys (omega (arith, e)))

news_two : (ps qs : Pairs) → news (ps ++ qs) ≡ news ps ++ news qs
news_two [] qs = refl
news_two (p ∷ ps) qs = ap (λ zs. p.1 ∷ zs) (news_two ps qs)

news_more : (ps : Pairs) (xs ys : List (List ℕ)) → length ys ≡ length xs → news (ps ++ zip xs ys) ≡ news ps ++ ys
news_more ps xs ys e = news_two ps (zip xs ys) ∙ ap (λ zs. news ps ++ zs) (seconds xs ys e)

no_backs : (ks : List Open) (f : Renaming) (r : List (List ℕ)) (g : Renaming) (u : List (List ℕ)) → backs [] ks f r f r ≡ backs [] ks f r g u
no_backs [] f r g u = refl
no_backs (k ∷ ks) f r g u = ap (λ (es : List Expr). k.back f r ∷ es) (no_backs ks f r g u)

abbrev binds_back : Op → List Bool → List (List ℕ) → List Open → Pairs → List (List ℕ)
binds_back o ms xs ks ps = if binds_names o then new_names ms xs ks (renaming ps) (news ps) else xs

abbrev back_at : Place → Op → List Bool → List Open → List (List ℕ) → List (List ℕ) → Pairs → Expr
back_at p o ms ks xs ys ps =
    let qs : Pairs = ps ++ zip xs ys in
    roll-Expr (record { place = p; op = back_op (renaming ps) o; args = backs ms ks (renaming ps) (news ps) (renaming qs) (news qs); binds = ys })

back_by : (p : Place) (o : Op) (ks : List Open) (xs : List (List ℕ)) (ps : Pairs) →
    (opened_node p o ks xs).back (renaming ps) (news ps) ≡ back_at p o (marks_in (role o (length xs))) ks xs (binds_back o (marks_in (role o (length xs))) xs ks ps) ps
back_by p (op.Use z) ks xs ps =
    ap (λ (es : List Expr). roll-Expr (record { place = p; op = op.Use z; args = es; binds = xs })) (no_backs ks (renaming ps) (news ps) (renaming (ps ++ zip xs xs)) (news (ps ++ zip xs xs)))
back_by p (op.Param z) ks xs ps =
    ap (λ (es : List Expr). roll-Expr (record { place = p; op = op.Param z; args = es; binds = xs })) (no_backs ks (renaming ps) (news ps) (renaming (ps ++ zip xs xs)) (news (ps ++ zip xs xs)))
back_by p (op.Let ds) ks xs ps =
    ap (λ (es : List Expr). roll-Expr (record { place = p; op = op.Let ds; args = es; binds = xs })) (no_backs ks (renaming ps) (news ps) (renaming (ps ++ zip xs xs)) (news (ps ++ zip xs xs)))
back_by p (op.Bound z) ks xs ps =
    ap (λ (es : List Expr). roll-Expr (record { place = p; op = op.Bound (renaming ps z); args = es; binds = xs })) (no_backs ks (renaming ps) (news ps) (renaming (ps ++ zip xs xs)) (news (ps ++ zip xs xs)))
back_by p o ks xs ps =
    let ms : List Bool = marks_in (role o (length xs)) in
    let ys : List (List ℕ) = new_names ms xs ks (renaming ps) (news ps) in
    let l = length_free (own_names xs ++ all_binds ks ++ news ps) xs (map (renaming ps) (without xs (inner_reads ms ks))) in
    λ i. roll-Expr (record { place = p; op = o; args = backs ms ks (renaming ps) (news ps) (sym (renaming_more ps xs ys) i) (sym (news_more ps xs ys l) i); binds = ys })

pub back_is : (e t : Expr) (o : Op) (ms : List Bool) (fs es : List Expr) (ys : List (List ℕ)) (b : Binder) (ps qs : Pairs) → qs ≡ ps → o ≡ back_op (renaming qs) (out-Expr e).op →
    ms ≡ marks_in (role (out-Expr e).op (length b.names.now)) → b.names.now ≡ (out-Expr e).binds → ys ≡ back_binds e b.marks.now qs → b.marks.now ≡ ms → b.new_names.now ≡ ys →
    fs ≡ (out-Expr e).args → es ≡ backs_at b fs ps → t ≡ roll-Expr (record { place = (out-Expr e).place; op = o; args = es; binds = ys }) → t ≡ (opened e).back (renaming ps) (news ps)
back_is e t o ms fs es ys b ps qs pe oe me ne ye be we fe ae te =
    let ks : List Open = map opened (out-Expr e).args in
    let ms' : List Bool = marks_in (role (out-Expr e).op (length (out-Expr e).binds)) in
    let ys' : List (List ℕ) = binds_back (out-Expr e).op ms' (out-Expr e).binds ks ps in
    let m : b.marks.now ≡ ms' = be ∙ me ∙ ap (λ (xs : List (List ℕ)). marks_in (role (out-Expr e).op (length xs))) ne in
    let y : ys ≡ ys' = ye ∙ (λ i. binds_back (out-Expr e).op (m i) (out-Expr e).binds ks (pe i)) in
    let w : b.new_names.now ≡ ys' = we ∙ y in
    te
    ∙ (λ i. roll-Expr (record { place = (out-Expr e).place; op = (oe ∙ ap (λ (ps : Pairs). back_op (renaming ps) (out-Expr e).op) pe) i; args = ae i; binds = y i }))
    ∙ (λ i. let rs : Pairs = ps ++ zip (ne i) (w i) in roll-Expr (record {
      place = (out-Expr e).place;
      op = back_op (renaming ps) (out-Expr e).op;
      args = backs (m i) (map opened (fe i)) (renaming ps) (news ps) (renaming rs) (news rs);
      binds = ys';
    }))
    ∙ sym (ap (λ (k : Open). k.back (renaming ps) (news ps)) (opened_is e) ∙ back_by (out-Expr e).place (out-Expr e).op ks (out-Expr e).binds ps)

-- ---- the parts of a step

pub without_pushed : (b : Bool) (x y : List ℕ) (all new : List (List ℕ)) → b ≡ false → new ≡ all ++ y ∷ [] → y ≡ x → new ≡ all ++ (if b then [] else x ∷ [])
without_pushed true x y all new e n p = absurd (cc)
without_pushed false x y all new e n p = n ∙ ap (λ (z : List ℕ). all ++ z ∷ []) p

pub without_kept : (b : Bool) (x : List ℕ) (all new : List (List ℕ)) → b ≡ true → new ≡ all → new ≡ all ++ (if b then [] else x ∷ [])
without_kept true x all new e n = n ∙ sym (append-nil all)
without_kept false x all new e n = absurd (cc)

pub reads_done : (e : Expr) (es : List Expr) (xs : List (List ℕ)) (ms : List Bool) (a0 a1 a2 inner a3 : List (List ℕ)) → es ≡ (out-Expr e).args → xs ≡ (out-Expr e).binds →
    ms ≡ marks_in (role (out-Expr e).op (length xs)) → a1 ≡ a0 ++ own_read (out-Expr e).op → a2 ≡ a1 ++ reads_of false ms (map opened es) → inner ≡ reads_of true ms (map opened es) → a3 ≡ a2 ++ without xs inner →
    a3 ≡ a0 ++ (opened e).reads
reads_done e es xs ms a0 a1 a2 inner a3 p q m h1 h2 h3 h4 =
    let ms' : List Bool = marks_in (role (out-Expr e).op (length (out-Expr e).binds)) in
    let mm : ms ≡ ms' = m ∙ ap (λ (ys : List (List ℕ)). marks_in (role (out-Expr e).op (length ys))) q in
    h4
    ∙ (λ i. (h2 ∙ ap (λ (zs : List (List ℕ)). zs ++ reads_of false ms (map opened es)) h1) i ++ without xs (h3 i))
    ∙ (λ i. ((a0 ++ own_read (out-Expr e).op) ++ reads_of false (mm i) (map opened (p i))) ++ without (q i) (reads_of true (mm i) (map opened (p i))))
    ∙ ap (λ (zs : List (List ℕ)). zs ++ without (out-Expr e).binds (reads_of true ms' (map opened (out-Expr e).args))) (append_assoc a0 (own_read (out-Expr e).op) (reads_of false ms' (map opened (out-Expr e).args)))
    ∙ append_assoc a0 (own_read (out-Expr e).op ++ reads_of false ms' (map opened (out-Expr e).args)) (without (out-Expr e).binds (reads_of true ms' (map opened (out-Expr e).args)))
    ∙ ap (λ (zs : List (List ℕ)). a0 ++ zs) (sym (reads_are e))

pub binds_done : (e : Expr) (es : List Expr) (a0 a1 a2 : List (List ℕ)) → es ≡ (out-Expr e).args → a1 ≡ a0 ++ own_binds e → a2 ≡ a1 ++ all_binds (map opened es) → a2 ≡ a0 ++ (opened e).binds
binds_done e es a0 a1 a2 p h1 h2 =
    h2 ∙ (λ i. h1 i ++ all_binds (map opened (p i)))
    ∙ append_assoc a0 (own_binds e) (all_binds (map opened (out-Expr e).args))
    ∙ ap (λ (zs : List (List ℕ)). a0 ++ zs) (sym (binds_are e))
