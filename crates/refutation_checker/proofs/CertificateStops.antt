-- Where the reader of a certificate stops, no certificate goes on so; and what is read is the only certificate.
use Rattle.std.proofs.Common.{◌≡◌, ℕ, ◌⊎◌, inl, inr, List, [], ◌∷◌, ◌++◌, length, flat_map, refl, sym, subst, ◌∙◌, ap, arith, append_assoc}
use Rattle.std.specs.Prelude.{All}
use Rattle.std.specs.List.{AllByRecursion}
use Rattle.std.proofs.lemmas.Grind.{flat_map-append}
use Rattle.std.proofs.lemmas.List.{append-nil, length-append, nil_from_length}
use Rattle.std.proofs.lemmas.List.Elements.{recursion_from_All, All-push, All-nil}
use Rattle.refutation_checker.specs.declared.section.Section.{Section}
use Rattle.refutation_checker.specs.Certificate.{section_lines, section_text, text_of_lines, first_line, certificate_lines, certificate_text, IsInGrammar, IsCertificate, IsFirstBadLine}
use Rattle.refutation_checker.specs.declared.faults.CertFault.{CertFault}
use Rattle.refutation_checker.specs.Faults.{AtLine}
use Rattle.refutation_checker.specs.inner.Reading.{Lacks}
use Rattle.refutation_checker.specs.Place.{Place}
use Rattle.refutation_checker.specs.inner.Sections.{Takes, StopsAtOnce, StopsInSection}
use Rattle.refutation_checker.proofs.Splits.{cut_same, lines_front, lines_same}
use Rattle.refutation_checker.proofs.Stops.{AtLine-weaker, takes_more, text-append}
use Rattle.refutation_checker.proofs.SectionTexts.{section_prefix}
use Rattle.refutation_checker.proofs.Feeds.{certificate_feeds, recursion-front, recursion-back}

-- a beginning of two joined lists ends in the first or in the second
append_split : {X : Type 0} (xs ys zs ws : List X) (w : X) → xs ++ ys ≡ zs ++ w ∷ ws → ((us : List X) × (xs ≡ zs ++ w ∷ us)) ⊎ ((us : List X) × (zs ≡ xs ++ us))
append_split [] ys zs ws w e = inr (zs, refl)
append_split (x ∷ xs) ys [] ws w e = inl (xs, (let same : x ≡ w = cc in cc))
append_split (x ∷ xs) ys (z ∷ zs) ws w e =
    let first : x ≡ z = cc in
    elim (append_split xs ys zs ws w (cc)) [
      | inl more ↦ inl (more.0, (let rest : xs ≡ zs ++ w ∷ more.0 = more.1 in cc))
      | inr more ↦ inr (more.0, (let rest : zs ≡ xs ++ more.0 = more.1 in cc))
    ]

-- sections that begin with the lines of these sections begin with these sections
beginning_in : (done sections : List Section) (lines : List (List ℕ)) → AllByRecursion IsInGrammar done → AllByRecursion IsInGrammar sections → flat_map section_lines sections ≡ flat_map section_lines done ++ lines → (more : List Section) × (AllByRecursion IsInGrammar more × ((sections ≡ done ++ more) × (flat_map section_lines more ≡ lines)))
beginning_in [] sections lines p q e = (sections, (q, (refl, e)))
beginning_in (d ∷ ds) [] lines p q e = absurd (cc)
beginning_in (d ∷ ds) (s ∷ ss) lines p q e =
    let both : (s ≡ d) × (flat_map section_lines ss ≡ flat_map section_lines ds ++ lines) = section_prefix s d (flat_map section_lines ss) (flat_map section_lines ds ++ lines) q.0 p.0 (e ∙ append_assoc (section_lines d) (flat_map section_lines ds) lines) in
    let rest : (more : List Section) × (AllByRecursion IsInGrammar more × ((ss ≡ ds ++ more) × (flat_map section_lines more ≡ lines))) = beginning_in ds ss lines p.1 q.1 both.1 in
    let first : s ≡ d = both.0 in
    let others : ss ≡ ds ++ rest.0 = rest.1.1.0 in
    (rest.0, (rest.1.0, (cc, rest.1.1.1)))

-- the lines that were read are no whole section, with or without more lines
section_ended : (a : Place) (n : ℕ) (stop : StopsInSection a n) (s : Section) (us : List (List ℕ)) → IsInGrammar s → stop.before ≡ section_lines s ++ us → ⊥
section_ended a n stop s us g e =
    let r : Section = stop.good.0 in
    let tail : List (List ℕ) = stop.good.1.1.0 in
    let lines : section_lines r ++ [] ≡ section_lines s ++ (us ++ tail) =
    append-nil (section_lines r) ∙ stop.good.1.1.1 ∙ ap (λ (t : List (List ℕ)). t ++ tail) e ∙ append_assoc (section_lines s) us tail in
    let rest : [] ≡ us ++ tail = (section_prefix r s [] (us ++ tail) stop.good.1.0 g lines).1 in
    let none : us ≡ [] = nil_from_length us (omega (arith, length-append us tail, ap length rest)) in
    stop.unfinished s g (e ∙ ap (λ (t : List (List ℕ)). section_lines s ++ t) none ∙ append-nil (section_lines s))

-- where a section stops, no list of sections goes on
no_more : (a : Place) (n : ℕ) (stop : StopsInSection a n) (more : List Section) (line after : List ℕ) (tail : List (List ℕ)) → AllByRecursion IsInGrammar more → Lacks 10 line → stop.bytes ≡ line ++ 10 ∷ after → flat_map section_lines more ≡ stop.before ++ line ∷ tail → ⊥
no_more a n stop [] line after tail fit lacks cut e = absurd (omega (arith, simp length-append at (ap length e)))
no_more a n stop (s ∷ ss) line after tail fit lacks cut e =
    elim (append_split (section_lines s) (flat_map section_lines ss) stop.before tail line e) [
      | inl found ↦ stop.bad s found.0 fit.0 line after lacks cut found.1
      | inr found ↦ section_ended a n stop s found.0 fit.0 found.1
    ]

-- nor does it end there, unless nothing was left to be read
no_end : (a : Place) (n : ℕ) (stop : StopsInSection a n) (more : List Section) → AllByRecursion IsInGrammar more → (a.rest ≡ [] → ⊥) → stop.bytes ≡ [] → flat_map section_lines more ≡ stop.before → ⊥
no_end a n stop [] fit some none e =
    some (stop.reached.rest ∙ ap (λ (t : List (List ℕ)). text_of_lines t ++ stop.bytes) (sym e) ∙ none)
no_end a n stop (s ∷ ss) fit some none e = section_ended a n stop s (flat_map section_lines ss) fit.0 (sym e)

-- sections that were read, and more lines of a certificate
beginning_of : (done sections : List Section) (lines : List (List ℕ)) → All IsInGrammar done → All IsInGrammar sections → certificate_lines sections ≡ certificate_lines done ++ lines → (more : List Section) × (AllByRecursion IsInGrammar more × ((sections ≡ done ++ more) × (flat_map section_lines more ≡ lines)))
beginning_of done sections lines p q e = beginning_in done sections lines (recursion_from_All IsInGrammar done p) (recursion_from_All IsInGrammar sections q) (cc)

-- the last line of a beginning has no line feed
last_lacks : (sections : List Section) (before tail : List (List ℕ)) (line : List ℕ) → All IsInGrammar sections → certificate_lines sections ≡ (before ++ line ∷ []) ++ tail → Lacks 10 line
last_lacks sections before tail line fit e =
    let F : List (List ℕ) → Type 0 = λ lines. AllByRecursion (Lacks 10) lines in
    (recursion-back (Lacks 10) before (line ∷ []) (recursion-front (Lacks 10) (before ++ line ∷ []) tail (subst F e (certificate_feeds sections fit)))).0

pub section_stops : (bytes : List ℕ) (done : List Section) (a : Place) (n : ℕ) → All IsInGrammar done → Takes (record { rest = bytes; taken = 0 }) a (certificate_lines done) → (a.rest ≡ [] → ⊥) → StopsInSection a n → IsFirstBadLine bytes n
section_stops bytes done a n fit taken some stop =
    let D : List (List ℕ) = certificate_lines done in record {
      before = D ++ stop.before;
      rest = stop.bytes;
      cut = taken.rest ∙ ap (λ t. text_of_lines D ++ t) stop.reached.rest ∙ sym (append_assoc (text_of_lines D) (text_of_lines stop.before) stop.bytes) ∙ ap (λ t. t ++ stop.bytes) (sym (text-append D stop.before));
      number = omega (arith, stop.reached.number, taken.taken, length-append D stop.before);
      good = (
        done ++ stop.good.0 ∷ [],
        (
          All-push IsInGrammar done stop.good.0 fit stop.good.1.0,
          (
            stop.good.1.1.0,
            ap (λ (t : List (List ℕ)). first_line ∷ t) (flat_map-append section_lines done (stop.good.0 ∷ []))
                ∙ ap (λ (t : List (List ℕ)). D ++ t) (append-nil (section_lines stop.good.0) ∙ stop.good.1.1.1) ∙ sym (append_assoc D stop.before stop.good.1.1.0),
          ),
        ),
      );
      bad = λ line more e begins.
          let lacks : Lacks 10 line = last_lacks begins.0 (D ++ stop.before) begins.1.1.0 line begins.1.0 begins.1.1.1 in
          let lines : certificate_lines begins.0 ≡ D ++ (stop.before ++ line ∷ begins.1.1.0) =
          begins.1.1.1 ∙ append_assoc (D ++ stop.before) (line ∷ []) begins.1.1.0 ∙ append_assoc D stop.before (line ∷ begins.1.1.0) in
          let found : (more : List Section) × (AllByRecursion IsInGrammar more × ((begins.0 ≡ done ++ more) × (flat_map section_lines more ≡ stop.before ++ line ∷ begins.1.1.0))) = beginning_of done begins.0 (stop.before ++ line ∷ begins.1.1.0) fit begins.1.0 lines in
          no_more a n stop found.0 line more begins.1.1.0 found.1.0 lacks e found.1.1.1;
      unfinished = λ none sections fits e.
          let found : (more : List Section) × (AllByRecursion IsInGrammar more × ((sections ≡ done ++ more) × (flat_map section_lines more ≡ stop.before))) = beginning_of done sections stop.before fit fits (sym e) in
          no_end a n stop found.0 found.1.0 some none found.1.1.1;
    }

pub first_stops : (bytes : List ℕ) (n : ℕ) → StopsAtOnce (λ line. line ≡ first_line) (record { rest = bytes; taken = 0 }) n → IsFirstBadLine bytes n
first_stops bytes n stop = record {
  before = [];
  rest = bytes;
  cut = refl;
  number = stop.0;
  good = ([], (All-nil IsInGrammar, (certificate_lines [], refl)));
  bad = λ line more e begins. stop.1 line more (last_lacks begins.0 [] begins.1.1.0 line begins.1.0 begins.1.1.1) e (let lines : first_line ∷ flat_map section_lines begins.0 ≡ line ∷ begins.1.1.0 = begins.1.1.1 in sym (let same : first_line ≡ line = cc in same));
  unfinished = λ none sections fits e. cc;
}

-- bytes are the certificate of one list of sections
pub certificate_same : (bytes : List ℕ) (done sections : List Section) → IsCertificate bytes done → IsCertificate bytes sections → done ≡ sections
certificate_same bytes done sections p q =
    let lines : certificate_lines done ≡ certificate_lines sections = lines_same (certificate_lines done) (certificate_lines sections) (certificate_feeds done p.0) (certificate_feeds sections q.0) (sym p.1 ∙ q.1) in
    let found : (more : List Section) × (AllByRecursion IsInGrammar more × ((sections ≡ done ++ more) × (flat_map section_lines more ≡ []))) = beginning_of done sections [] p.0 q.0 (sym lines ∙ sym (append-nil (certificate_lines done))) in
    let none : found.0 ≡ [] = no_lines found.0 found.1.1.1 in
    sym (append-nil done) ∙ ap (λ (t : List Section). done ++ t) (sym none) ∙ sym found.1.1.0
  where
    no_lines : (more : List Section) → flat_map section_lines more ≡ [] → more ≡ []
    no_lines [] e = refl
    no_lines (s ∷ ss) e = absurd (cc)

before_lacks : (bytes : List ℕ) (n : ℕ) (b : IsFirstBadLine bytes n) → AllByRecursion (Lacks 10) b.before
before_lacks bytes n b =
    let F : List (List ℕ) → Type 0 = λ lines. AllByRecursion (Lacks 10) lines in
    recursion-front (Lacks 10) b.before b.good.1.1.0 (subst F b.good.1.1.1 (certificate_feeds b.good.0 b.good.1.0))

-- and then no line is bad
pub certificate_good : (bytes : List ℕ) (n : ℕ) (sections : List Section) → IsFirstBadLine bytes n → IsCertificate bytes sections → ⊥
certificate_good bytes n sections b q =
    let lacks : AllByRecursion (Lacks 10) b.before = before_lacks bytes n b in
    let left : (more : List (List ℕ)) × ((certificate_lines sections ≡ b.before ++ more) × (b.rest ≡ text_of_lines more)) = lines_front b.before (certificate_lines sections) b.rest lacks (certificate_feeds sections q.0) (sym b.cut ∙ q.1) in
    go left.0 left.1.0 left.1.1
  where
    go : (more : List (List ℕ)) → certificate_lines sections ≡ b.before ++ more → b.rest ≡ text_of_lines more → ⊥
    go [] e r = b.unfinished r sections q.0 (sym (e ∙ append-nil b.before))
    go (line ∷ more) e r = b.bad line (text_of_lines more) (r ∙ append_assoc line (10 ∷ []) (text_of_lines more)) (sections, (q.0, (more, e ∙ sym (append_assoc b.before (line ∷ []) more))))

-- one reading of a text goes on where another ends
record GoesOn (xs ys : List (List ℕ)) (rest : List ℕ) : Type 0 where
  line : List ℕ
  more : List ℕ
  tail : List (List ℕ)
  lines : ys ≡ xs ++ line ∷ tail
  cut : rest ≡ line ++ 10 ∷ more

goes_on : (x : List ℕ) (xs ys : List (List ℕ)) (rest : List ℕ) → GoesOn xs ys rest → GoesOn (x ∷ xs) (x ∷ ys) rest
goes_on x xs ys rest g = record { line = g.line; more = g.more; tail = g.tail; lines = ap (λ (t : List (List ℕ)). x ∷ t) g.lines; cut = g.cut }

compare_lines : (xs ys : List (List ℕ)) (ss ts : List ℕ) → AllByRecursion (Lacks 10) xs → AllByRecursion (Lacks 10) ys → text_of_lines xs ++ ss ≡ text_of_lines ys ++ ts → (xs ≡ ys) ⊎ (GoesOn xs ys ss ⊎ GoesOn ys xs ts)
compare_lines [] [] ss ts p q e = inl refl
compare_lines [] (y ∷ ys) ss ts p q e = inr (inl (record { line = y; more = text_of_lines ys ++ ts; tail = ys; lines = refl; cut = e ∙ simp append_assoc }))
compare_lines (x ∷ xs) [] ss ts p q e = inr (inr (record { line = x; more = text_of_lines xs ++ ss; tail = xs; lines = refl; cut = sym e ∙ simp append_assoc }))
compare_lines (x ∷ xs) (y ∷ ys) ss ts p q e =
    let cut : (x ≡ y) × (text_of_lines xs ++ ss ≡ text_of_lines ys ++ ts) = cut_same 10 x y _ _ p.0 q.0 (simp append_assoc at e) in
    elim (compare_lines xs ys ss ts p.1 q.1 cut.1) [
      | inl same ↦ inl (let first : x ≡ y = cut.0 in cc)
      | inr others ↦ inr (elim others [
        | inl g ↦ inl (let G : List ℕ → Type 0 = λ z. GoesOn (x ∷ xs) (z ∷ ys) ss in subst G cut.0 (goes_on x xs ys ss g))
        | inr g ↦ inr (let G : List ℕ → Type 0 = λ z. GoesOn (z ∷ ys) (x ∷ xs) ts in subst G cut.0 (goes_on x ys xs ts g))
      ])
    ]

not_first : (bytes : List ℕ) (n m : ℕ) (b : IsFirstBadLine bytes n) (c : IsFirstBadLine bytes m) → GoesOn b.before c.before b.rest → ⊥
not_first bytes n m b c g =
    b.bad g.line g.more g.cut
    (c.good.0, (c.good.1.0, (g.tail ++ c.good.1.1.0, c.good.1.1.1 ∙ ap (λ (t : List (List ℕ)). t ++ c.good.1.1.0) (g.lines ∙ sym (append_assoc b.before (g.line ∷ []) g.tail)) ∙ append_assoc (b.before ++ g.line ∷ []) g.tail c.good.1.1.0)))

-- only one line is the first bad one
bad_line_same : (bytes : List ℕ) (n m : ℕ) → IsFirstBadLine bytes n → IsFirstBadLine bytes m → n ≡ m
bad_line_same bytes n m b c =
    elim (compare_lines b.before c.before b.rest c.rest (before_lacks bytes n b) (before_lacks bytes m c) (sym b.cut ∙ c.cut)) [
      | inl same ↦ omega (arith, b.number, c.number, ap length same)
      | inr others ↦ elim others [ inl g ↦ absurd (not_first bytes n m b c g) | inr g ↦ absurd (not_first bytes m n c b g) ]
    ]

pub sections_push : (bytes : List ℕ) (a b : Place) (done : List Section) (s : Section) → Takes (record { rest = bytes; taken = 0 }) a (certificate_lines done) → Takes a b (section_lines s) → Takes (record { rest = bytes; taken = 0 }) b (certificate_lines (done ++ s ∷ []))
sections_push bytes a b done s p q =
    let start : Place = record { rest = bytes; taken = 0 } in
    let T : List (List ℕ) → Type 0 = λ lines. Takes start b lines in
    let lines : certificate_lines done ++ section_lines s ≡ certificate_lines (done ++ s ∷ []) =
    ap (λ (t : List (List ℕ)). first_line ∷ t) (ap (λ (t : List (List ℕ)). flat_map section_lines done ++ t) (sym (append-nil (section_lines s))) ∙ sym (flat_map-append section_lines done (s ∷ []))) in
    subst T lines (takes_more start a b (certificate_lines done) (section_lines s) p q)

pub sections_whole : (bytes : List ℕ) (a : Place) (done : List Section) → All IsInGrammar done → Takes (record { rest = bytes; taken = 0 }) a (certificate_lines done) → a.rest ≡ [] → IsCertificate bytes done
sections_whole bytes a done fit taken none = (fit, taken.rest ∙ ap (λ t. text_of_lines (certificate_lines done) ++ t) none ∙ append-nil (text_of_lines (certificate_lines done)))

-- what is printed section by section
sections_text : (ss : List Section) → text_of_lines (flat_map section_lines ss) ≡ flat_map section_text ss
sections_text [] = refl
sections_text (s ∷ ss) = text-append (section_lines s) (flat_map section_lines ss) ∙ ap (λ t. section_text s ++ t) (sections_text ss)

pub printed_certificate : (bytes : List ℕ) (ss : List Section) → All IsInGrammar ss → bytes ≡ certificate_text ss → IsCertificate bytes ss
printed_certificate bytes ss fit e = (fit, e ∙ ap (λ t. text_of_lines (first_line ∷ []) ++ t) (sym (sections_text ss)) ∙ sym (text-append (first_line ∷ []) (flat_map section_lines ss)))

-- what a fault at the first bad line says of certificates and of other lines
pub no_certificate : (bytes : List ℕ) (e : CertFault) (sections : List Section) → AtLine e (IsFirstBadLine bytes) → IsCertificate bytes sections → AtLine e (λ n. ⊥)
no_certificate bytes e sections stop q = AtLine-weaker e (IsFirstBadLine bytes) (λ n. ⊥) (λ n b. certificate_good bytes n sections b q) stop

pub no_other_line : (bytes : List ℕ) (e : CertFault) (n : ℕ) → AtLine e (IsFirstBadLine bytes) → IsFirstBadLine bytes n → AtLine e (λ m. m ≡ n)
no_other_line bytes e n stop b = AtLine-weaker e (IsFirstBadLine bytes) (λ m. m ≡ n) (λ m d. bad_line_same bytes m n d b) stop
