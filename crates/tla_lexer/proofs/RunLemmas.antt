-- Runs of pieces: what was read so far, and that a text has one run at most.
use Rattle.std.proofs.Common.{◌≡◌, ℕ, ◌+◌, ◌≤◌, Bool, true, false, List, [], ◌∷◌, ◌++◌, length, take, drop, refl, sym, ◌∙◌, ap, subst, inl, inr}
use Rattle.std.specs.Prelude.{◌⊎◌, not, MatchBool, alloc_error}
use Rattle.std.specs.List.{list_all}
use Rattle.std.proofs.lemmas.Bool.{and_from}
use Rattle.std.proofs.lemmas.List.{append-nil, append_assoc, length-take-le, take-append-drop, drop_all}
use Rattle.std.proofs.lemmas.List.Folds.{list_all-append}
use Rattle.tla_meaning.specs.declared.place.Place.{Place}
use Rattle.tla_lexer.specs.declared.fault.LexFault.{LexFault}
use Rattle.tla_lexer.specs.declared.fault.LexFault.TheVariants.{BadToken, OpenComment as NotClosed, BigLiteral, NoHeader, Memory}
use Rattle.tla_lexer.specs.declared.pieces.Piece.{Piece}
use Rattle.tla_lexer.specs.declared.pieces.Piece.TheVariants.{Blanks, LineComment, BlockComment, OpenComment, Lexeme, BigNumber, Bad}
use Rattle.tla_lexer.specs.declared.token.Token.{Token}
use Rattle.tla_lexer.specs.Header.{IsModuleIn}
use Rattle.tla_lexer.specs.Pieces.{IsLongest, IsFound}
use Rattle.tla_lexer.specs.Places.{place_behind}
use Rattle.tla_lexer.specs.Runs.{Laid, is_fault, is_last, IsRun, bytes_of, notes_behind, token_of, tokens_of, IsTokenRun, IsFirstFault, IsFault, IsRefusal}
use Rattle.tla_lexer.proofs.Fronts.{read_on}

-- ---- pieces that were read, and those that follow

-- these pieces lead from the text to its rest, and none of them is the last
abbrev pub Leads : List ℕ → List Laid → List ℕ → Type 0
Leads text [] rest = text ≡ rest
Leads text (x ∷ xs) rest =
    (behind : List ℕ) × ((text ≡ x.spelling ++ behind) × (IsLongest text x.piece x.spelling × ((is_last x.piece ≡ false) × Leads behind xs rest)))

goes_on : (b : Bool) (P Q : Type 0) → b ≡ false → Q → MatchBool b P Q
goes_on true P Q h q = cc
goes_on false P Q h q = q

ends_here : (b : Bool) (P Q : Type 0) → b ≡ true → P → MatchBool b P Q
ends_here true P Q h p = p
ends_here false P Q h p = cc

leads_run : (text rest : List ℕ) (done more : List Laid) → Leads text done rest → IsRun rest more → IsRun text (done ++ more)
leads_run text rest [] more leads run = subst (λ (t : List ℕ). IsRun t more) (sym leads) run
leads_run text rest (x ∷ done) more leads run =
    (leads.0, (leads.1.0, (leads.1.1.0, goes_on (is_last x.piece) (done ++ more ≡ []) (IsRun leads.0 (done ++ more)) leads.1.1.1.0 (leads_run leads.0 rest done more leads.1.1.1.1 run))))

leads_on : (text rest behind : List ℕ) (done : List Laid) (x : Laid) → Leads text done rest → rest ≡ x.spelling ++ behind → IsLongest rest x.piece x.spelling → is_last x.piece ≡ false
    → Leads text (done ++ x ∷ []) behind
leads_on text rest behind [] x leads e is goes =
    (behind, (leads ∙ e, (subst (λ (t : List ℕ). IsLongest t x.piece x.spelling) (sym leads) is, (goes, refl))))
leads_on text rest behind (y ∷ done) x leads e is goes =
    (leads.0, (leads.1.0, (leads.1.1.0, (leads.1.1.1.0, leads_on leads.0 rest behind done x leads.1.1.1.1 e is goes))))

leads_sound : (text rest : List ℕ) (done : List Laid) → Leads text done rest → list_all (λ x. not (is_fault x.piece)) done ≡ true
leads_sound text rest [] leads = refl
leads_sound text rest (x ∷ done) leads =
    and_from (not (is_fault x.piece)) (list_all (λ y. not (is_fault y.piece)) done) (sound x.piece leads.1.1.1.0) (leads_sound leads.0 rest done leads.1.1.1.1)
  where
    sound : (p : Piece) → is_last p ≡ false → not (is_fault p) ≡ true
    sound OpenComment h = cc
    sound BigNumber h = cc
    sound Bad h = cc
    sound Blanks h = refl
    sound LineComment h = refl
    sound BlockComment h = refl
    sound (Lexeme kind) h = refl

-- ---- tokens of pieces that were read, and of those that follow

abbrev pub notes_of : List (List ℕ) → List Laid → List (List ℕ)
notes_of notes [] = notes
notes_of notes (x ∷ xs) = notes_of (notes_behind notes x.piece x.spelling) xs

tokens_split : (file : ℕ) (before : List ℕ) (notes : List (List ℕ)) (done more : List Laid)
    → tokens_of file before notes (done ++ more) ≡ tokens_of file before notes done ++ tokens_of file (before ++ bytes_of done) (notes_of notes done) more
tokens_split file before notes [] more = ap (λ b. tokens_of file b notes more) (sym (append-nil before))
tokens_split file before notes (x ∷ done) more =
    let own = token_of (place_behind file before) notes x.piece in
    let next = notes_behind notes x.piece x.spelling in
    ap (λ t. own ++ t) (tokens_split file (before ++ x.spelling) next done more)
    ∙ sym (append_assoc own (tokens_of file (before ++ x.spelling) next done) _)
    ∙ ap (λ b. (own ++ tokens_of file (before ++ x.spelling) next done) ++ tokens_of file b (notes_of next done) more) (append_assoc before x.spelling (bytes_of done))

notes_split : (notes : List (List ℕ)) (done : List Laid) (x : Laid) → notes_of notes (done ++ x ∷ []) ≡ notes_behind (notes_of notes done) x.piece x.spelling
notes_split notes [] x = refl
notes_split notes (y ∷ done) x = notes_split (notes_behind notes y.piece y.spelling) done x

bytes_split : (done : List Laid) (x : Laid) → bytes_of (done ++ x ∷ []) ≡ bytes_of done ++ x.spelling
bytes_split [] x = append-nil x.spelling
bytes_split (y ∷ done) x = ap (λ t. y.spelling ++ t) (bytes_split done x) ∙ sym (append_assoc y.spelling (bytes_of done) x.spelling)

-- ---- the state of the reader

-- from the module's start to the byte of this index: the pieces that were read, their tokens, and the notes since the last
pub record Reached (file : ℕ) (bytes : List ℕ) (start at : ℕ) (out : List Token) (notes : List (List ℕ)) : Type 0 where
  pub done : List Laid
  pub leads : Leads (drop start bytes) done (drop at bytes)
  pub read : take start bytes ++ bytes_of done ≡ take at bytes
  pub tokens : out ≡ tokens_of file (take start bytes) [] done
  pub notes_are : notes ≡ notes_of [] done

module _ (file : ℕ) (bytes : List ℕ) (start at : ℕ) (out : List Token) (notes : List (List ℕ)) (reached : Reached file bytes start at out notes) where
  own_tokens : (piece : Piece) (spelling : List ℕ) → out ++ token_of (place_behind file (take at bytes)) notes piece
      ≡ tokens_of file (take start bytes) [] (reached.done ++ record { piece = piece; spelling = spelling } ∷ [])
  own_tokens piece spelling =
      ap (λ t. t ++ token_of (place_behind file (take at bytes)) notes piece) reached.tokens
      ∙ ap (λ t. tokens_of file (take start bytes) [] reached.done ++ t)
      (ap (λ b. token_of (place_behind file b) notes piece) (sym reached.read)
      ∙ ap (λ n. token_of (place_behind file (take start bytes ++ bytes_of reached.done)) n piece) reached.notes_are
      ∙ sym (append-nil _))
      ∙ sym (tokens_split file (take start bytes) [] reached.done (record { piece = piece; spelling = spelling } ∷ []))

  pub reached_on : (piece : Piece) (n : ℕ) (out2 : List Token) (notes2 : List (List ℕ)) → at ≤ length bytes → IsFound (drop at bytes) piece n → is_last piece ≡ false
      → out2 ≡ out ++ token_of (place_behind file (take at bytes)) notes piece → notes2 ≡ notes_behind notes piece (take n (drop at bytes)) → Reached file bytes start (at + n) out2 notes2
  reached_on piece n out2 notes2 within is goes tokens_are notes_are =
      let spelling = take n (drop at bytes) in
      let x : Laid = record { piece = piece; spelling = spelling } in
      let whole : drop at bytes ≡ spelling ++ drop n (drop at bytes) = sym (take-append-drop n (drop at bytes)) in
      let on = read_on bytes spelling (drop n (drop at bytes)) at n within whole (length-take-le n (drop at bytes) is.within) in
      record {
        done = reached.done ++ x ∷ [];
        leads =
            leads_on (drop start bytes) (drop at bytes) (drop (at + n) bytes) reached.done x reached.leads
            (whole ∙ ap (λ t. spelling ++ t) (sym on.0)) is.is_longest goes;
        read =
            ap (λ t. take start bytes ++ t) (bytes_split reached.done x) ∙ sym (append_assoc (take start bytes) (bytes_of reached.done) spelling)
            ∙ ap (λ t. t ++ spelling) reached.read ∙ sym on.1;
        tokens = tokens_are ∙ own_tokens piece spelling;
        notes_are = notes_are ∙ ap (λ m. notes_behind m piece spelling) reached.notes_are ∙ sym (notes_split [] reached.done x);
      }

  -- the piece here is the last
  last_run : (piece : Piece) (n : ℕ) → IsFound (drop at bytes) piece n → is_last piece ≡ true
      → IsRun (drop start bytes) (reached.done ++ record { piece = piece; spelling = take n (drop at bytes) } ∷ [])
  last_run piece n is last =
      leads_run (drop start bytes) (drop at bytes) reached.done _ reached.leads
      (drop n (drop at bytes), (sym (take-append-drop n (drop at bytes)), (is.is_longest, ends_here (is_last piece) ([] ≡ []) _ last refl)))

  pub ended_run : (piece : Piece) (n : ℕ) (out2 : List Token) → IsModuleIn bytes (take start bytes) (drop start bytes) → IsFound (drop at bytes) piece n → is_last piece ≡ true → is_fault piece ≡ false
      → out2 ≡ out ++ token_of (place_behind file (take at bytes)) notes piece → IsTokenRun file bytes out2
  ended_run piece n out2 is_module is last sound tokens_are =
      let spelling = take n (drop at bytes) in
      let x : Laid = record { piece = piece; spelling = spelling } in
      record {
        before = take start bytes;
        text = drop start bytes;
        pieces = reached.done ++ x ∷ [];
        is_module = is_module;
        run = last_run piece n is last;
        sound =
            list_all-append (λ y. not (is_fault y.piece)) reached.done (x ∷ [])
            ∙ and_from _ _ (leads_sound (drop start bytes) (drop at bytes) reached.done reached.leads) (and_from (not (is_fault piece)) true (ap not sound) refl);
        tokens_are = tokens_are ∙ own_tokens piece spelling;
      }

  pub whole_run : IsModuleIn bytes (take start bytes) (drop start bytes) → length bytes ≤ at → IsTokenRun file bytes out
  whole_run is_module end = record {
    before = take start bytes;
    text = drop start bytes;
    pieces = reached.done;
    is_module = is_module;
    run =
        subst (λ (t : List Laid). IsRun (drop start bytes) t) (append-nil reached.done)
        (leads_run (drop start bytes) (drop at bytes) reached.done [] reached.leads (drop_all at bytes end));
    sound = leads_sound (drop start bytes) (drop at bytes) reached.done reached.leads;
    tokens_are = reached.tokens;
  }

  first_fault : (piece : Piece) (n : ℕ) (place : Place) → IsModuleIn bytes (take start bytes) (drop start bytes) → IsFound (drop at bytes) piece n → is_last piece ≡ true
      → place ≡ place_behind file (take at bytes) → IsFirstFault file bytes piece place
  first_fault piece n place is_module is last place_is = record {
    before = take start bytes;
    text = drop start bytes;
    pieces = reached.done;
    spelling = take n (drop at bytes);
    is_module = is_module;
    run = last_run piece n is last;
    place_is = place_is ∙ ap (place_behind file) (sym reached.read);
  }

  pub refused : (piece : Piece) (n : ℕ) (place : Place) (e : LexFault) → IsModuleIn bytes (take start bytes) (drop start bytes) → IsFound (drop at bytes) piece n
      → place ≡ place_behind file (take at bytes) → IsRefusal piece place e → IsFault file bytes e ⊎ (e ≡ Memory alloc_error)
  refused piece n place (BadToken p) is_module is place_is why =
      inl (subst (λ (q : Piece). IsFirstFault file bytes q p) why.0 (first_fault piece n p is_module is (ap is_last why.0) (why.1 ∙ place_is)))
  refused piece n place (NotClosed p) is_module is place_is why =
      inl (subst (λ (q : Piece). IsFirstFault file bytes q p) why.0 (first_fault piece n p is_module is (ap is_last why.0) (why.1 ∙ place_is)))
  refused piece n place (BigLiteral p) is_module is place_is why =
      inl (subst (λ (q : Piece). IsFirstFault file bytes q p) why.0 (first_fault piece n p is_module is (ap is_last why.0) (why.1 ∙ place_is)))
  refused piece n place (NoHeader f) is_module is place_is why = absurd why
  refused piece n place (Memory e) is_module is place_is why = inr (ap Memory refl)
