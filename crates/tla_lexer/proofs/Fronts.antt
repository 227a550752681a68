-- The beginnings of a text.
use Rattle.std.proofs.Common.{◌≡◌, ℕ, zero, suc, ◌+◌, ◌<◌, ◌≤◌, Bool, false, List, [], ◌∷◌, ◌++◌, length, take, drop, get_or, sym, ◌∙◌, ap, subst, arith, take-append-drop}
use Rattle.std.specs.List.{list_all}
use Rattle.std.proofs.lemmas.Bool.{and_left, and_right, both_ways}
use Rattle.std.proofs.lemmas.List.{drop_more, drop_all, length-append, length-take-le, take_at, drop_at, take-append-le, drop-append-le, drop-drop, append_assoc}
use Rattle.tla_lexer.specs.Classes.{StopsAt, StartsIn, BeginsWith}

pub StopsAt-drop : (p : ℕ → Bool) (text : List ℕ) (i d : ℕ) → i < length text → p (get_or text i d) ≡ false → StopsAt p (drop i text)
StopsAt-drop p text i d lt fails = subst (StopsAt p) (sym (drop_more text i d lt)) fails

pub StopsAt-end : (p : ℕ → Bool) (text : List ℕ) (i : ℕ) → length text ≤ i → StopsAt p (drop i text)
StopsAt-end p text i le = subst (StopsAt p) (sym (drop_all i text le)) tt

-- no longer beginning passes whole
passes_no_more : (p : ℕ → Bool) (run behind front rest : List ℕ) → run ++ behind ≡ front ++ rest → StopsAt p behind → length run < length front → list_all p front ≡ false
passes_no_more p [] [] [] rest e stops lt = absurd (omega arith)
passes_no_more p [] (c ∷ behind) [] rest e stops lt = absurd (omega arith)
passes_no_more p [] [] (d ∷ front) rest e stops lt = cc
passes_no_more p [] (c ∷ behind) (d ∷ front) rest e stops lt =
    let same : c ≡ d = cc in
    and_left (p d) (list_all p front) (ap p (sym same) ∙ stops)
passes_no_more p (a ∷ run) behind [] rest e stops lt = absurd (omega arith)
passes_no_more p (a ∷ run) behind (d ∷ front) rest e stops lt =
    let next : run ++ behind ≡ front ++ rest = cc in
    and_right (p d) (list_all p front) (passes_no_more p run behind front rest next stops (omega arith))

pub longer_fails : (p : ℕ → Bool) (text front rest : List ℕ) (n : ℕ) → BeginsWith p text n → text ≡ front ++ rest → n < length front → list_all p front ≡ false
longer_fails p text front rest n run e lt =
    passes_no_more p (take n text) (drop n text) front rest (take-append-drop n text ∙ e) run.stops (omega (arith, length-take-le n text run.within))

pub some_run : (p : ℕ → Bool) (text : List ℕ) (n : ℕ) → StartsIn p text → BeginsWith p text n → 0 < n
some_run p [] n starts run = absurd starts
some_run p (b ∷ text) zero starts run = absurd (both_ways (p b) run.stops starts)
some_run p (b ∷ text) (suc n) starts run = omega arith

pub StartsIn-front : (p : ℕ → Bool) (text front rest : List ℕ) → text ≡ front ++ rest → 0 < length front → StartsIn p text → StartsIn p front
StartsIn-front p text [] rest e some starts = absurd (omega arith)
StartsIn-front p [] (d ∷ front) rest e some starts = absurd starts
StartsIn-front p (b ∷ text) (d ∷ front) rest e some starts = let same : b ≡ d = cc in ap p (sym same) ∙ starts

pub length-front : (text front rest : List ℕ) → text ≡ front ++ rest → length front ≤ length text
length-front text front rest e = omega (arith, ap length e, length-append front rest)

pub front_is : (text front rest : List ℕ) (n : ℕ) → text ≡ front ++ rest → length front ≡ n → front ≡ take n text
front_is text front rest n e same = sym (ap (take n) e ∙ take_at front rest n same)

pub StartsIn-some : (p : ℕ → Bool) (text : List ℕ) → StartsIn p text → 0 < length text
StartsIn-some p [] starts = absurd starts
StartsIn-some p (b ∷ text) starts = omega arith

-- a beginning that is not shorter than n bytes goes on behind them
pub longer_front : (text front rest : List ℕ) (n : ℕ) → text ≡ front ++ rest → n ≤ length front → (front ≡ take n text ++ drop n front) × (drop n text ≡ drop n front ++ rest)
longer_front text front rest n e le =
    let start : take n text ≡ take n front = ap (take n) e ∙ take-append-le n front rest le in
    (sym (take-append-drop n front) ∙ ap (λ t. t ++ drop n front) (sym start), ap (drop n) e ∙ drop-append-le n front rest le)

-- what was read next, behind n bytes
pub read_on : (text read behind : List ℕ) (n k : ℕ) → n ≤ length text → drop n text ≡ read ++ behind → length read ≡ k
    → (drop (n + k) text ≡ behind) × (take (n + k) text ≡ take n text ++ read)
read_on text read behind n k le e size =
    let whole : text ≡ (take n text ++ read) ++ behind =
    sym (take-append-drop n text) ∙ ap (λ t. take n text ++ t) e ∙ sym (append_assoc (take n text) read behind) in
    let long : length (take n text ++ read) ≡ n + k = omega (arith, length-append (take n text) read, length-take-le n text le) in
    (sym (drop-drop k n text) ∙ ap (drop k) e ∙ drop_at read behind k size, ap (take (n + k)) whole ∙ take_at (take n text ++ read) behind (n + k) long)
