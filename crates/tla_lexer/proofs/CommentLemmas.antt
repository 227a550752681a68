-- Comments.
use Rattle.std.proofs.Common.{◌≡◌, ℕ, zero, suc, ◌+◌, ◌-◌, ◌<◌, ◌≤◌, Bool, true, false, List, [], ◌∷◌, ◌++◌, length, take, drop, Option, Some, None, add-one, refl, sym, ◌∙◌, ap, subst, arith}
use Rattle.std.specs.Prelude.{◌==◌, ◌&&◌, ◌||◌, not}
use Rattle.std.specs.List.{list_all, list_any}
use Rattle.std.proofs.lemmas.Bool.{and_parts, and_left, cond-true, cond-false, eqb-true, false≢true}
use Rattle.std.proofs.lemmas.List.{append-nil, append_assoc, length-append, length-take-le, length-drop, take-append-drop, take_all, drop-append-le}
use Rattle.tla_lexer.specs.declared.pieces.Piece.{Piece}
use Rattle.tla_lexer.specs.declared.pieces.Piece.TheVariants.{LineComment, BlockComment, OpenComment}
use Rattle.tla_lexer.specs.Classes.{is_line_feed, StartsIn, BeginsWith}
use Rattle.tla_lexer.specs.inner.Comments.{begins_with_pair}
use Rattle.tla_lexer.specs.Pieces.{parenthesis, backslash, open_behind, block_comment, IsFound}
use Rattle.tla_lexer.proofs.Fronts.{longer_fails, length-front, longer_front, read_on}
use Rattle.tla_lexer.proofs.Heads.{found, reads_parenthesis, reads_backslash}

-- ---- the two bytes that begin a comment

pair_starts : (x y : ℕ) (text : List ℕ) → begins_with_pair x y text ≡ true → StartsIn (λ b. b == x) text
pair_starts x y [] h = cc
pair_starts x y (b ∷ []) h = cc
pair_starts x y (b ∷ c ∷ text) h = (and_parts (b == x) (c == y) h).0

pair_front : (x y : ℕ) (text front rest : List ℕ) → begins_with_pair x y text ≡ true → text ≡ front ++ rest → 1 < length front → begins_with_pair x y front ≡ true
pair_front x y text [] rest h e long = absurd (omega arith)
pair_front x y text (p ∷ []) rest h e long = absurd (omega arith)
pair_front x y text (p ∷ q ∷ front) rest h e long = ap (begins_with_pair x y) (sym e) ∙ h

-- ---- comments to the end of the line

none_any : (q : ℕ → Bool) (s : List ℕ) → list_all (λ b. not (q b)) s ≡ true → list_any q s ≡ false
none_any q [] h = refl
none_any q (b ∷ s) h = one (q b) (list_all (λ c. not (q c)) s) (list_any q s) h (λ t. none_any q s t)
  where
    one : (p all any : Bool) → (not p && all) ≡ true → (all ≡ true → any ≡ false) → (p || any) ≡ false
    one true all any h f = cc
    one false all any h f = f h

some_any : (q : ℕ → Bool) (s : List ℕ) → list_all (λ b. not (q b)) s ≡ false → list_any q s ≡ true
some_any q [] h = cc
some_any q (b ∷ s) h = one (q b) (list_all (λ c. not (q c)) s) (list_any q s) h (λ t. some_any q s t)
  where
    one : (p all any : Bool) → (not p && all) ≡ false → (all ≡ false → any ≡ true) → (p || any) ≡ true
    one true all any h f = refl
    one false all any h f = f h

abbrev is_in_line : ℕ → Bool
is_in_line b = not (is_line_feed b)

abbrev backslash_whole : List ℕ → Option Piece
backslash_whole s = backslash (drop 1 s)

line_whole : (s : List ℕ) → begins_with_pair 92 42 s ≡ true → list_all is_in_line s ≡ true → backslash_whole s ≡ Some LineComment
line_whole [] h all = cc
line_whole (b ∷ []) h all = cc
line_whole (b ∷ c ∷ s) h all =
    let behind : list_all is_in_line s ≡ true = (and_parts (is_in_line c) (list_all is_in_line s) (and_parts (is_in_line b) (list_all is_in_line (c ∷ s)) all).1).1 in
    ap (λ x. backslash (x ∷ s)) (eqb-true c 42 (and_parts (b == 92) (c == 42) h).1)
    ∙ cond-false (list_any is_line_feed s) None (Some LineComment) (none_any is_line_feed s behind)

line_past : (s : List ℕ) → begins_with_pair 92 42 s ≡ true → list_all is_in_line s ≡ false → backslash_whole s ≡ None
line_past [] h fails = cc
line_past (b ∷ []) h fails = cc
line_past (b ∷ c ∷ s) h fails =
    let parts = and_parts (b == 92) (c == 42) h in
    let e : list_all is_in_line (92 ∷ 42 ∷ s) ≡ list_all is_in_line (b ∷ c ∷ s) =
    ap (λ x. list_all is_in_line (x ∷ 42 ∷ s)) (sym (eqb-true b 92 parts.0)) ∙ ap (λ x. list_all is_in_line (b ∷ x ∷ s)) (sym (eqb-true c 42 parts.1)) in
    ap (λ x. backslash (x ∷ s)) (eqb-true c 42 parts.1)
    ∙ cond-true (list_any is_line_feed s) None (Some LineComment) (some_any is_line_feed s (e ∙ fails))

line_long : (text : List ℕ) (n : ℕ) → begins_with_pair 92 42 text ≡ true → BeginsWith is_in_line text n → 2 ≤ n
line_long [] n h run = cc
line_long (b ∷ []) n h run = cc
line_long (b ∷ c ∷ text) zero h run =
    absurd (false≢true (sym run.stops ∙ ap is_in_line (eqb-true b 92 (and_parts (b == 92) (c == 42) h).0)))
line_long (b ∷ c ∷ text) (suc zero) h run =
    absurd (false≢true (sym run.stops ∙ ap is_in_line (eqb-true c 42 (and_parts (b == 92) (c == 42) h).1)))
line_long (b ∷ c ∷ text) (suc (suc n)) h run = omega arith

pub line_found : (text : List ℕ) (n : ℕ) → begins_with_pair 92 42 text ≡ true → BeginsWith is_in_line text n → IsFound text LineComment n
line_found text n h run =
    let long : 2 ≤ n = line_long text n h run in
    let size : length (take n text) ≡ n = length-take-le n text run.within in
    found backslash_whole text LineComment n (reads_backslash text (pair_starts 92 42 text h)) (omega arith) run.within
    (line_whole (take n text) (pair_front 92 42 text (take n text) (drop n text) h (sym (take-append-drop n text)) (omega arith)) run.pass)
    (λ front rest e lt. line_past front (pair_front 92 42 text front rest h e (omega arith)) (longer_fails is_in_line text front rest n run e lt))

-- ---- comments that nest

abbrev parenthesis_whole : List ℕ → Option Piece
parenthesis_whole s = parenthesis (drop 1 s)

comment_whole : (s : List ℕ) → begins_with_pair 40 42 s ≡ true → parenthesis_whole s ≡ block_comment (open_behind 1 (drop 2 s))
comment_whole [] h = cc
comment_whole (b ∷ []) h = cc
comment_whole (b ∷ c ∷ s) h = ap (λ x. parenthesis (x ∷ s)) (eqb-true c 42 (and_parts (b == 40) (c == 42) h).1)

-- behind the first `at` bytes so many comments are open, whatever of the text follows
pub record Knows (text : List ℕ) (at depth : ℕ) : Type 0 where
  pub begun : 2 ≤ at
  pub within : at ≤ length text
  pub state : (front rest : List ℕ) → drop at text ≡ front ++ rest → open_behind 1 (drop 2 (take at text) ++ front) ≡ open_behind depth front

pub knows_start : (text : List ℕ) → begins_with_pair 40 42 text ≡ true → Knows text 2 1
knows_start [] h = cc
knows_start (b ∷ []) h = cc
knows_start (b ∷ c ∷ text) h = record { begun = omega arith; within = omega arith; state = λ front rest e. refl }

knows_on : (text read behind : List ℕ) (at k depth new : ℕ) → Knows text at depth → drop at text ≡ read ++ behind → length read ≡ k
    → ((front rest : List ℕ) → behind ≡ front ++ rest → open_behind depth (read ++ front) ≡ open_behind new front) → Knows text (at + k) new
knows_on text read behind at k depth new knows e size step =
    let on = read_on text read behind at k knows.within e size in
    let room : at + k ≤ length text = omega (arith, ap length e, length-append read behind, length-drop at text, knows.within) in
    let cut : drop 2 (take (at + k) text) ≡ drop 2 (take at text) ++ read =
    ap (drop 2) on.1 ∙ drop-append-le 2 (take at text) read (omega (arith, length-take-le at text knows.within, knows.begun)) in
    record {
      begun = omega (arith, knows.begun);
      within = room;
      state = λ front rest e2.
          let here : behind ≡ front ++ rest = sym on.0 ∙ e2 in
          let there : drop at text ≡ (read ++ front) ++ rest = e ∙ ap (λ t. read ++ t) here ∙ sym (append_assoc read front rest) in
          ap (λ t. open_behind 1 (t ++ front)) cut ∙ ap (open_behind 1) (append_assoc (drop 2 (take at text)) read front)
          ∙ knows.state (read ++ front) rest there ∙ step front rest here;
    }

pub knows_opens : (text : List ℕ) (at depth : ℕ) → Knows text at depth → 0 < depth → begins_with_pair 40 42 (drop at text) ≡ true → Knows text (at + 2) (depth + 1)
knows_opens text at depth knows some h = opens (drop at text) refl h depth knows some
  where
    opens : (behind : List ℕ) → drop at text ≡ behind → begins_with_pair 40 42 behind ≡ true → (n : ℕ) → Knows text at n → 0 < n → Knows text (at + 2) (n + 1)
    opens [] e h n k some = cc
    opens (b ∷ []) e h n k some = cc
    opens (b ∷ c ∷ behind) e h zero k some = absurd (omega arith)
    opens (b ∷ c ∷ behind) e h (suc n) k some =
        subst (Knows text (at + 2)) (sym (add-one (suc n)))
        (knows_on text (b ∷ c ∷ []) behind at 2 (suc n) (suc (suc n)) k e refl
        (λ front rest e2. cond-true (b == 40 && c == 42) (open_behind (suc (suc n)) front) _ h))

apart_marks : (b c : ℕ) → (b == 42 && c == 41) ≡ true → (b == 40 && c == 42) ≡ false
apart_marks b c h = and_left (b == 40) (c == 42) (ap (λ x. x == 40) (eqb-true b 42 (and_parts (b == 42) (c == 41) h).0))

pub knows_closes : (text : List ℕ) (at depth : ℕ) → Knows text at depth → 0 < depth → begins_with_pair 42 41 (drop at text) ≡ true → Knows text (at + 2) (depth - 1)
knows_closes text at depth knows some h = closes (drop at text) refl h depth knows some
  where
    closes : (behind : List ℕ) → drop at text ≡ behind → begins_with_pair 42 41 behind ≡ true → (n : ℕ) → Knows text at n → 0 < n → Knows text (at + 2) (n - 1)
    closes [] e h n k some = cc
    closes (b ∷ []) e h n k some = cc
    closes (b ∷ c ∷ behind) e h zero k some = absurd (omega arith)
    closes (b ∷ c ∷ behind) e h (suc n) k some =
        subst (Knows text (at + 2)) (omega arith)
        (knows_on text (b ∷ c ∷ []) behind at 2 (suc n) n k e refl
        (λ front rest e2.
        cond-false (b == 40 && c == 42) (open_behind (suc (suc n)) front) _ (apart_marks b c h)
        ∙ cond-true (b == 42 && c == 41) (open_behind n front) (open_behind (suc n) (c ∷ front)) h))

pub knows_neither : (text : List ℕ) (at depth : ℕ) → Knows text at depth → 0 < depth → at < length text → begins_with_pair 40 42 (drop at text) ≡ false → begins_with_pair 42 41 (drop at text) ≡ false → Knows text (at + 1) depth
knows_neither text at depth knows some lt first second = neither (drop at text) refl (omega (arith, length-drop at text)) first second depth knows some
  where
    neither : (behind : List ℕ) → drop at text ≡ behind → 0 < length behind → begins_with_pair 40 42 behind ≡ false → begins_with_pair 42 41 behind ≡ false
        → (n : ℕ) → Knows text at n → 0 < n → Knows text (at + 1) n
    neither [] e more h1 h2 n k some = absurd (omega arith)
    neither (b ∷ behind) e more h1 h2 zero k some = absurd (omega arith)
    neither (b ∷ behind) e more h1 h2 (suc n) k some = knows_on text (b ∷ []) behind at 1 (suc n) (suc n) k e refl (λ front rest e2. plain behind front rest h1 h2 e2)
      where
        plain : (behind front rest : List ℕ) → begins_with_pair 40 42 (b ∷ behind) ≡ false → begins_with_pair 42 41 (b ∷ behind) ≡ false → behind ≡ front ++ rest
            → open_behind (suc n) (b ∷ front) ≡ open_behind (suc n) front
        plain behind [] rest h1 h2 e2 = refl
        plain [] (d ∷ front) rest h1 h2 e2 = cc
        plain (c ∷ behind) (d ∷ front) rest h1 h2 e2 =
            let same : c ≡ d = cc in
            cond-false (b == 40 && d == 42) (open_behind (suc (suc n)) front) _ (ap (λ x. b == 40 && x == 42) (sym same) ∙ h1)
            ∙ cond-false (b == 42 && d == 41) (open_behind n front) (open_behind (suc n) (d ∷ front)) (ap (λ x. b == 42 && x == 41) (sym same) ∙ h2)

open_so_far : (text : List ℕ) (at depth : ℕ) → Knows text at depth → open_behind 1 (drop 2 (take at text)) ≡ Some depth
open_so_far text at depth knows = ap (open_behind 1) (sym (append-nil (drop 2 (take at text)))) ∙ knows.state [] (drop at text) refl ∙ at_end depth
  where
    at_end : (n : ℕ) → open_behind n [] ≡ Some n
    at_end n = refl

pub closed_found : (text : List ℕ) (at : ℕ) → begins_with_pair 40 42 text ≡ true → Knows text at 0 → IsFound text BlockComment at
closed_found text at h knows =
    let size : length (take at text) ≡ at = length-take-le at text knows.within in
    found parenthesis_whole text BlockComment at (reads_parenthesis text (pair_starts 40 42 text h)) (omega (arith, knows.begun)) knows.within
    (comment_whole (take at text) (pair_front 40 42 text (take at text) (drop at text) h (sym (take-append-drop at text)) (omega (arith, knows.begun)))
    ∙ ap block_comment (open_so_far text at 0 knows))
    (λ front rest e lt.
    let parts = longer_front text front rest at e (omega arith) in
    let cut : drop 2 front ≡ drop 2 (take at text) ++ drop at front =
    ap (drop 2) parts.0 ∙ drop-append-le 2 (take at text) (drop at front) (omega (arith, knows.begun)) in
    comment_whole front (pair_front 40 42 text front rest h e (omega (arith, knows.begun)))
    ∙ ap block_comment (ap (open_behind 1) cut ∙ knows.state (drop at front) rest parts.1 ∙ nothing_behind (drop at front) (omega (arith, length-drop at front))))
  where
    nothing_behind : (s : List ℕ) → 0 < length s → open_behind 0 s ≡ None
    nothing_behind [] some = absurd (omega arith)
    nothing_behind (b ∷ s) some = refl

pub open_found : (text : List ℕ) (at depth : ℕ) → begins_with_pair 40 42 text ≡ true → Knows text at depth → 0 < depth → length text ≤ at → IsFound text OpenComment (length text)
open_found text at depth h knows some end =
    let same : at ≡ length text = omega (arith, knows.within) in
    let all : take at text ≡ take (length text) text = ap (λ n. take n text) same in
    found parenthesis_whole text OpenComment (length text) (reads_parenthesis text (pair_starts 40 42 text h)) (omega (arith, knows.begun)) (omega arith)
    (comment_whole (take (length text) text) (ap (begins_with_pair 40 42) (take_all (length text) text (omega arith)) ∙ h)
    ∙ ap block_comment (ap (λ t. open_behind 1 (drop 2 t)) (sym all) ∙ open_so_far text at depth knows) ∙ still_open depth some)
    (λ front rest e lt. absurd (omega (arith, length-front text front rest e)))
  where
    still_open : (n : ℕ) → 0 < n → block_comment (Some n) ≡ Some OpenComment
    still_open zero some = absurd (omega arith)
    still_open (suc n) some = refl
