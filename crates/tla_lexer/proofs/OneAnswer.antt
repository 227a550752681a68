-- A file has one run of tokens at most and one first fault at most, and not both.
use Rattle.std.proofs.Common.{◌≡◌, ℕ, ◌<◌, Bool, true, false, List, [], ◌∷◌, ◌++◌, length, Option, Some, None, Result, Ok, Err, refl, sym, ◌∙◌, ap, subst, inl, inr, ⊎_elim}
use Rattle.std.specs.Prelude.{◌⊎◌, ◌&&◌, not, alloc_error, MatchBool, MatchResult, IfOk, IfErr}
use Rattle.std.specs.Result.{IsErrAnd}
use Rattle.std.specs.List.{list_all}
use Rattle.std.proofs.lemmas.Bool.{and_parts, cases_order, false≢true, both_ways}
use Rattle.std.proofs.lemmas.List.{append_cancel_left, same_from_push}
use Rattle.std.proofs.lemmas.List.Folds.{list_all-append}
use Rattle.tla_meaning.specs.declared.place.Place.{Place}
use Rattle.tla_lexer.specs.declared.fault.LexFault.{LexFault}
use Rattle.tla_lexer.specs.declared.fault.LexFault.TheVariants.{BadToken, OpenComment as NotClosed, BigLiteral, NoHeader, Memory}
use Rattle.tla_lexer.specs.declared.pieces.Piece.{Piece}
use Rattle.tla_lexer.specs.declared.pieces.Piece.TheVariants.{OpenComment, BigNumber, Bad}
use Rattle.tla_lexer.specs.declared.token.Token.{Token}
use Rattle.tla_lexer.specs.Header.{begins_header, IsModuleIn, HasNoHeader}
use Rattle.tla_lexer.specs.Pieces.{piece_of, IsLongest}
use Rattle.tla_lexer.specs.Places.{place_behind}
use Rattle.tla_lexer.specs.Runs.{Laid, is_fault, is_last, IsRun, bytes_of, tokens_of, IsTokenRun, IsFirstFault, IsFault}
use Rattle.tla_lexer.proofs.Fronts.{front_is}

-- ---- one longest piece

some_none : {A : Type 0} (x : A) (o : Option A) → o ≡ Some x → o ≡ None → ⊥
some_none x o h k = let e : Some x ≡ None = sym h ∙ k in cc

not_longer : (text s t r : List ℕ) (p q : Piece) → IsLongest text p s → IsLongest text q t → text ≡ t ++ r → length s < length t → ⊥
not_longer text s t r p q first second e lt = some_none q (piece_of t) second.is_piece (first.longest t r e lt)

longest_same : (text s t r u : List ℕ) (p q : Piece) → IsLongest text p s → IsLongest text q t → text ≡ s ++ r → text ≡ t ++ u → (s ≡ t) × (p ≡ q)
longest_same text s t r u p q first second e f =
    ⊎_elim same_length
    (⊎_elim (λ lt. absurd (not_longer text s t u p q first second f lt)) (λ lt. absurd (not_longer text t s r q p second first e lt)))
    (cases_order (length s) (length t))
  where
    same_length : length s ≡ length t → (s ≡ t) × (p ≡ q)
    same_length size =
        let same : s ≡ t = front_is text s r (length s) e refl ∙ sym (front_is text t u (length s) f (sym size)) in
        let pieces : Some p ≡ Some q = sym first.is_piece ∙ ap piece_of same ∙ second.is_piece in
        let piece : p ≡ q = cc in
        (same, piece)

no_empty_piece : (p : Piece) (s rest : List ℕ) → [] ≡ s ++ rest → piece_of s ≡ Some p → ⊥
unfolding piece_of
no_empty_piece p [] rest e h = cc
no_empty_piece p (b ∷ s) rest e h = cc

-- ---- one run

both_last : (b c : Bool) (P Q R S : Type 0) → b ≡ c → MatchBool b P Q → MatchBool c R S → (P × R) ⊎ (Q × S)
both_last true true P Q R S same h k = inl (h, k)
both_last false false P Q R S same h k = inr (h, k)
both_last true false P Q R S same h k = cc
both_last false true P Q R S same h k = cc

run_same : (text : List ℕ) (xs ys : List Laid) → IsRun text xs → IsRun text ys → xs ≡ ys
run_same text [] [] first second = refl
run_same text [] (y ∷ ys) first second = absurd (no_empty_piece y.piece y.spelling second.0 (sym first ∙ second.1.0) second.1.1.0.is_piece)
run_same text (x ∷ xs) [] first second = absurd (no_empty_piece x.piece x.spelling first.0 (sym second ∙ first.1.0) first.1.1.0.is_piece)
run_same text (x ∷ xs) (y ∷ ys) first second =
    let same = longest_same text x.spelling y.spelling first.0 second.0 x.piece y.piece first.1.1.0 second.1.1.0 first.1.0 second.1.0 in
    let head : x ≡ y = ap (λ s. laid x.piece s) same.0 ∙ ap (λ p. laid p y.spelling) same.1 in
    let rest : first.0 ≡ second.0 =
    append_cancel_left x.spelling first.0 second.0 (sym first.1.0 ∙ second.1.0 ∙ ap (λ s. s ++ second.0) (sym same.0)) in
    let tail : xs ≡ ys =
    ⊎_elim
    (λ ends. ends.0 ∙ sym ends.1)
    (λ goes. run_same first.0 xs ys goes.0 (subst (λ (t : List ℕ). IsRun t ys) (sym rest) goes.1))
    (both_last (is_last x.piece) (is_last y.piece) (xs ≡ []) (IsRun first.0 xs) (ys ≡ []) (IsRun second.0 ys) (ap is_last same.1) first.1.1.1 second.1.1.1) in
    ap (λ h. h ∷ xs) head ∙ ap (λ t. y ∷ t) tail
  where
    laid : Piece → List ℕ → Laid
    laid p s = record { piece = p; spelling = s }

-- ---- one module

module_same : (file b1 t1 b2 t2 : List ℕ) → IsModuleIn file b1 t1 → IsModuleIn file b2 t2 → (b1 ≡ b2) × (t1 ≡ t2)
module_same file b1 t1 b2 t2 first second =
    ⊎_elim same_length
    (⊎_elim
    (λ lt. absurd (both_ways (begins_header t1) (second.first b1 t1 first.whole lt) first.begins))
    (λ lt. absurd (both_ways (begins_header t2) (first.first b2 t2 second.whole lt) second.begins)))
    (cases_order (length b1) (length b2))
  where
    same_length : length b1 ≡ length b2 → (b1 ≡ b2) × (t1 ≡ t2)
    same_length size =
        let same : b1 ≡ b2 = front_is file b1 t1 (length b1) first.whole refl ∙ sym (front_is file b2 t2 (length b1) second.whole (sym size)) in
        (same, append_cancel_left b1 t1 t2 (sym first.whole ∙ second.whole ∙ ap (λ b. b ++ t2) (sym same)))

no_module : (file before text : List ℕ) → IsModuleIn file before text → HasNoHeader file → ⊥
no_module file before text is none = both_ways (begins_header text) (none before text is.whole) is.begins

-- ---- one answer

pub tokens_same : (file : ℕ) (bytes : List ℕ) (ts us : List Token) → IsTokenRun file bytes ts → IsTokenRun file bytes us → ts ≡ us
tokens_same file bytes ts us first second =
    let modules = module_same bytes first.before first.text second.before second.text first.is_module second.is_module in
    let pieces = run_same first.text first.pieces second.pieces first.run (subst (λ (t : List ℕ). IsRun t second.pieces) (sym modules.1) second.run) in
    first.tokens_are ∙ ap (tokens_of file first.before []) pieces ∙ ap (λ b. tokens_of file b [] second.pieces) modules.0 ∙ sym second.tokens_are

faults_same : (file : ℕ) (bytes : List ℕ) (p q : Piece) (m n : Place) → IsFirstFault file bytes p m → IsFirstFault file bytes q n → (p ≡ q) × (m ≡ n)
faults_same file bytes p q m n first second =
    let modules = module_same bytes first.before first.text second.before second.text first.is_module second.is_module in
    let runs = run_same first.text _ _ first.run (subst (λ (t : List ℕ). IsRun t (second.pieces ++ record { piece = q; spelling = second.spelling } ∷ [])) (sym modules.1) second.run) in
    let parts = same_from_push first.pieces second.pieces (record { piece = p; spelling = first.spelling }) (record { piece = q; spelling = second.spelling }) runs in (
      ap (λ (x : Laid). x.piece) parts.1,
      first.place_is ∙ ap (λ b. place_behind file (b ++ bytes_of first.pieces)) modules.0 ∙ ap (λ xs. place_behind file (second.before ++ bytes_of xs)) parts.0 ∙ sym second.place_is,
    )

sound_apart : (file : ℕ) (bytes : List ℕ) (ts : List Token) (p : Piece) (m : Place) → is_fault p ≡ true → IsTokenRun file bytes ts → IsFirstFault file bytes p m → ⊥
sound_apart file bytes ts p m fault run first =
    let modules = module_same bytes run.before run.text first.before first.text run.is_module first.is_module in
    let x : Laid = record { piece = p; spelling = first.spelling } in
    let pieces = run_same run.text run.pieces (first.pieces ++ x ∷ []) run.run (subst (λ (t : List ℕ). IsRun t (first.pieces ++ x ∷ [])) (sym modules.1) first.run) in
    let all : (list_all (λ y. not (is_fault y.piece)) first.pieces && (not (is_fault p) && true)) ≡ true =
    sym (list_all-append (λ y. not (is_fault y.piece)) first.pieces (x ∷ [])) ∙ ap (list_all (λ y. not (is_fault y.piece))) (sym pieces) ∙ run.sound in
    let last = (and_parts (not (is_fault p)) true (and_parts (list_all (λ y. not (is_fault y.piece)) first.pieces) (not (is_fault p) && true) all).1).0 in
    false≢true (ap not (sym fault) ∙ last)

pub apart : (file : ℕ) (bytes : List ℕ) (ts : List Token) (e : LexFault) → IsTokenRun file bytes ts → IsFault file bytes e → ⊥
apart file bytes ts (BadToken m) run fault = sound_apart file bytes ts Bad m refl run fault
apart file bytes ts (NotClosed m) run fault = sound_apart file bytes ts OpenComment m refl run fault
apart file bytes ts (BigLiteral m) run fault = sound_apart file bytes ts BigNumber m refl run fault
apart file bytes ts (NoHeader f) run fault = no_module bytes run.before run.text run.is_module fault.1
apart file bytes ts (Memory a) run fault = fault

pub fault_same : (file : ℕ) (bytes : List ℕ) (d e : LexFault) → IsFault file bytes d → IsFault file bytes e → d ≡ e
fault_same file bytes (BadToken m) (BadToken n) first second = ap BadToken (faults_same file bytes Bad Bad m n first second).1
fault_same file bytes (NotClosed m) (NotClosed n) first second = ap NotClosed (faults_same file bytes OpenComment OpenComment m n first second).1
fault_same file bytes (BigLiteral m) (BigLiteral n) first second = ap BigLiteral (faults_same file bytes BigNumber BigNumber m n first second).1
fault_same file bytes (NoHeader f) (NoHeader g) first second = ap NoHeader (first.0 ∙ sym second.0)
fault_same file bytes (BadToken m) (NotClosed n) first second = let e = (faults_same file bytes Bad OpenComment m n first second).0 in cc
fault_same file bytes (BadToken m) (BigLiteral n) first second = let e = (faults_same file bytes Bad BigNumber m n first second).0 in cc
fault_same file bytes (NotClosed m) (BadToken n) first second = let e = (faults_same file bytes OpenComment Bad m n first second).0 in cc
fault_same file bytes (NotClosed m) (BigLiteral n) first second = let e = (faults_same file bytes OpenComment BigNumber m n first second).0 in cc
fault_same file bytes (BigLiteral m) (BadToken n) first second = let e = (faults_same file bytes BigNumber Bad m n first second).0 in cc
fault_same file bytes (BigLiteral m) (NotClosed n) first second = let e = (faults_same file bytes BigNumber OpenComment m n first second).0 in cc
fault_same file bytes (BadToken m) (NoHeader g) first second = absurd (no_module bytes first.before first.text first.is_module second.1)
fault_same file bytes (NotClosed m) (NoHeader g) first second = absurd (no_module bytes first.before first.text first.is_module second.1)
fault_same file bytes (BigLiteral m) (NoHeader g) first second = absurd (no_module bytes first.before first.text first.is_module second.1)
fault_same file bytes (NoHeader f) (BadToken n) first second = absurd (no_module bytes second.before second.text second.is_module first.1)
fault_same file bytes (NoHeader f) (NotClosed n) first second = absurd (no_module bytes second.before second.text second.is_module first.1)
fault_same file bytes (NoHeader f) (BigLiteral n) first second = absurd (no_module bytes second.before second.text second.is_module first.1)
fault_same file bytes (Memory a) e first second = absurd first
fault_same file bytes (BadToken m) (Memory a) first second = absurd second
fault_same file bytes (NotClosed m) (Memory a) first second = absurd second
fault_same file bytes (BigLiteral m) (Memory a) first second = absurd second
fault_same file bytes (NoHeader f) (Memory a) first second = absurd second

-- ---- what an answer says of every other

pub answer_run : (file : ℕ) (bytes : List ℕ) (r : Result (List Token) LexFault) → IfOk r (λ found. IsTokenRun file bytes found) → IfErr r (λ e. IsFault file bytes e ⊎ (e ≡ Memory alloc_error))
    → (others : List Token) → IsTokenRun file bytes others → MatchResult r (λ found. found ≡ others) (λ e. e ≡ Memory alloc_error)
answer_run file bytes (Ok found) run fault others is = tokens_same file bytes found others run is
answer_run file bytes (Err e) run fault others is = ⊎_elim (λ h. absurd (apart file bytes others e is h)) (λ h. h) fault

pub answer_fault : (file : ℕ) (bytes : List ℕ) (r : Result (List Token) LexFault) → IfOk r (λ found. IsTokenRun file bytes found) → IfErr r (λ e. IsFault file bytes e ⊎ (e ≡ Memory alloc_error))
    → (e : LexFault) → IsFault file bytes e → IsErrAnd r (λ d. (d ≡ e) ⊎ (d ≡ Memory alloc_error))
answer_fault file bytes (Ok found) run fault e is = absurd (apart file bytes found e run is)
answer_fault file bytes (Err d) run fault e is = ⊎_elim (λ h. inl (fault_same file bytes d e h is)) (λ h. inr h) fault
