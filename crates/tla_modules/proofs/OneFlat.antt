-- Files that are told make one flat module at most, and no refusal besides.
use Rattle.std.proofs.Common.{◌≡◌, ◌∙◌, ◌≤◌, ◌<◌, ℕ, false, List, [], ◌∷◌, ◌++◌, length, Option, Some, None, Result, Ok, Err, MatchResult, refl, ap, sym, subst, append_assoc, append-nil, inl, inr, arith}
use Rattle.std.specs.Prelude.{◌⊎◌}
use Rattle.tla_lexer.proofs.OneAnswer.{apart, tokens_same}
use Rattle.tla_lexer.specs.declared.token.Token.{Token}
use Rattle.tla_meaning.specs.declared.modules.Flat.{Flat}
use Rattle.tla_meaning.specs.declared.modules.Module.{Module}
use Rattle.tla_meaning.specs.Flattening.{Modules, flat_of, misuse_of}
use Rattle.tla_meaning.specs.ReadingOrder as order
use Rattle.tla_parser.proofs.Top.{one_spelling}
use Rattle.tla_parser.specs.Grammar.{SpelledWithin, Spells}
use Rattle.tla_parser.specs.Refused.{IsRefusal}
use Rattle.tla_parser.specs.declared.fault.ParseFault.{ParseFault}
use Rattle.tla_parser.specs.declared.fault.ParseFault.TheVariants as parse
use Rattle.tla_modules.specs.declared.fault.ModuleFault.{ModuleFault}
use Rattle.tla_modules.specs.declared.fault.ModuleFault.TheVariants.{Missing, NameDiffers, Cycle, Unknown, Twice, Arity, TooMany, Lex, Parse, Read, TooLong, Memory}
use Rattle.tla_modules.specs.declared.fault.ModuleRefusal.{ModuleRefusal}
use Rattle.tla_modules.specs.Answers.{IsFlatModule, IsTold}
use Rattle.tla_modules.specs.Refusals.{IsCause, IsMisspelled, IsOutside, IsRefused, IsUnread, is_want}
use Rattle.tla_modules.specs.Sources.{AreRead, AreWhole, IsGiven, IsHanded, IsRead, IsSpelled, LeadTo, course_of_root, file_of, module_limit}
use Rattle.tla_values.specs.FileNames.{module_name}
use Rattle.tool_outside.specs.Outside.{Folder, file_at}

-- ---- one module in a file

spelled_same : (n : ℕ) (bytes : List ℕ) (m k : Module) → IsSpelled n bytes m → IsSpelled n bytes k → m ≡ k
spelled_same n bytes m k a b =
    let same : a.tokens ≡ b.tokens = tokens_same n bytes a.tokens b.tokens a.run b.run in
    one_spelling b.tokens m k (subst (Spells m) same a.spells) b.spells

some_same : {X : Type 0} (o : Option X) (a b : X) → o ≡ Some a → o ≡ Some b → a ≡ b
some_same o a b h k = let e : Some a ≡ Some b = sym h ∙ k in cc

some_none : {X : Type 0} {P : Type 0} (o : Option X) (a : X) → o ≡ Some a → o ≡ None → P
some_none o a h k = let e : Some a ≡ None = sym h ∙ k in absurd (cc)

module _ (folder : Folder) where
  abbrev told : Option Folder
  told = Some folder

  bytes_same : (file a b : List ℕ) → IsHanded told file a → IsHanded told file b → a ≡ b
  bytes_same file a b h k = some_same (file_at folder file) a b h.handed.told k.handed.told

  given_same : (n : ℕ) (file : List ℕ) (m k : Module) → IsGiven told n file m → IsGiven told n file k → m ≡ k
  given_same n file m k a b =
      spelled_same n b.bytes m k (subst (λ l. IsSpelled n l m) (bytes_same file a.bytes b.bytes a.handed b.handed) a.spelled) b.spelled

  -- ---- a file that is not read

  refused_apart : (e : ParseFault) (ts : List Token) (m : Module) → IsRefusal e ts → is_want e ≡ false → Spells m ts → SpelledWithin 400 ts → ⊥
  refused_apart (parse.BadGrammar p) ts m h k s w = h.0 m s
  refused_apart (parse.NotSupported p f) ts m h k s w = h.0 m s
  refused_apart (parse.TooDeep p) ts m h k s w = h.1 w
  refused_apart (parse.Memory e) ts m h k s w = absurd (cc)

  misspelled_apart : (n : ℕ) (bytes x : List ℕ) (m : Module) (e : ModuleFault) → IsMisspelled n bytes x e → IsSpelled n bytes m → m.name ≡ x → IsOutside e
  misspelled_apart n bytes x m (Lex e) h s name = absurd (apart n bytes s.tokens e s.run h)
  misspelled_apart n bytes x m (Parse e) h s name =
      let same : h.tokens ≡ s.tokens = tokens_same n bytes h.tokens s.tokens h.run s.run in
      absurd (refused_apart e s.tokens m (subst (IsRefusal e) same h.refused) h.no_want s.spells s.within)
  misspelled_apart n bytes x m (NameDiffers y z) h s name =
      absurd (h.1 (h.0 ∙ sym name ∙ ap (λ (k : Module). k.name) (spelled_same n bytes m h.2 s h.3) ∙ sym h.4))
  misspelled_apart n bytes x m (Missing y) h s name = absurd h
  misspelled_apart n bytes x m (Cycle xs) h s name = absurd h
  misspelled_apart n bytes x m (Unknown y p) h s name = absurd h
  misspelled_apart n bytes x m (Twice y p q) h s name = absurd h
  misspelled_apart n bytes x m (Arity p i j) h s name = absurd h
  misspelled_apart n bytes x m TooMany h s name = absurd h
  misspelled_apart n bytes x m (Read f) h s name = tt
  misspelled_apart n bytes x m (TooLong f) h s name = absurd h
  misspelled_apart n bytes x m (Memory e) h s name = tt

  too_long : (file a b : List ℕ) → IsHanded told file a → file_at folder file ≡ Some b → module_limit < length b → ⊥
  too_long file a b h k l =
      let same : length a ≡ length b = ap length (some_same (file_at folder file) a b h.handed.told k) in
      let within : length a ≤ module_limit = h.handed.within in
      omega arith

  unread_apart : (n : ℕ) (file x : List ℕ) (m : Module) (e : ModuleFault) → IsUnread told n file x e → IsGiven told n file m → m.name ≡ x → IsOutside e
  unread_apart n file x m e (inr (bytes, handed, h)) g name =
      misspelled_apart n g.bytes x m e (subst (λ l. IsMisspelled n l x e) (bytes_same file bytes g.bytes handed g.handed) h) g.spelled name
  unread_apart n file x m (TooLong f) (inl h) g name = absurd (too_long file g.bytes h.1.0 g.handed h.1.1 h.1.2)
  unread_apart n file x m (Missing y) (inl h) g name = some_none (file_at folder file) g.bytes g.handed.handed.told (h.1 g.handed.text)
  unread_apart n file x m (Read f) (inl h) g name = tt
  unread_apart n file x m (Memory e) (inl h) g name = tt
  unread_apart n file x m (NameDiffers y z) (inl h) g name = absurd h
  unread_apart n file x m (Cycle xs) (inl h) g name = absurd h
  unread_apart n file x m (Unknown y p) (inl h) g name = absurd h
  unread_apart n file x m (Twice y p q) (inl h) g name = absurd h
  unread_apart n file x m (Arity p i j) (inl h) g name = absurd h
  unread_apart n file x m TooMany (inl h) g name = absurd h
  unread_apart n file x m (Lex e) (inl h) g name = absurd h
  unread_apart n file x m (Parse e) (inl h) g name = absurd h

  -- ---- two readings

  module _ (root : List ℕ) where
    next_same : (before : Modules) (x y : List ℕ) → LeadTo before root x → LeadTo before root y → x ≡ y
    next_same before x y h k = let e : order.Next x h.0 ≡ order.Next y k.0 = sym h.1 ∙ k.1 in cc

    read_same : (before : Modules) (x y : List ℕ × Module) → IsRead told root before x → IsRead told root before y → x ≡ y
    read_same before x y h k =
        let names : x.0 ≡ y.0 = next_same before x.0 y.0 h.next k.next in
        let sources : x.1 ≡ y.1 =
        given_same (length before) (file_of root y.0) x.1 y.1 (subst (λ z. IsGiven told (length before) (file_of root z) x.1) names h.given) k.given in
        ap (λ z. (z, x.1)) names ∙ ap (λ m. (y.0, m)) sources

    -- more is read behind these
    record Further (before as' bs : Modules) : Type 0 where
      next : List ℕ × Module
      rest : Modules
      split : bs ≡ as' ++ next ∷ rest
      read : IsRead told root (before ++ as') next

    record Held (before as' bs : Modules) : Type 0 where
      first : AreRead told root before as'
      second : AreRead told root before bs

    compare : (before as' bs : Modules) → AreRead told root before as' → AreRead told root before bs → (as' ≡ bs) ⊎ (Further before as' bs ⊎ Further before bs as')
    compare before [] [] h k = inl refl
    compare before [] (b ∷ bs) h k =
        inr (inl (record { next = b; rest = bs; split = refl; read = subst (λ l. IsRead told root l b) (sym (append-nil before)) k.0 }))
    compare before (a ∷ as') [] h k =
        inr (inr (record { next = a; rest = as'; split = refl; read = subst (λ l. IsRead told root l a) (sym (append-nil before)) h.0 }))
    compare before (a ∷ as') (b ∷ bs) h k =
        let same : a ≡ b = read_same before a b h.0 k.0 in
        step a b as' bs same (compare (before ++ a ∷ []) as' bs h.1 (subst (λ z. AreRead told root (before ++ z ∷ []) bs) (sym same) k.1))
      where
        step : (a b : List ℕ × Module) (as' bs : Modules) → a ≡ b → (as' ≡ bs) ⊎ (Further (before ++ a ∷ []) as' bs ⊎ Further (before ++ a ∷ []) bs as') →
            (a ∷ as' ≡ b ∷ bs) ⊎ (Further before (a ∷ as') (b ∷ bs) ⊎ Further before (b ∷ bs) (a ∷ as'))
        step a b as' bs same (inl e) = inl (ap (λ l. a ∷ l) e ∙ ap (λ z. z ∷ bs) same)
        step a b as' bs same (inr (inl f)) = inr (inl (record {
          next = f.next;
          rest = f.rest;
          split = ap (λ z. z ∷ bs) (sym same) ∙ ap (λ l. a ∷ l) f.split;
          read = subst (λ l. IsRead told root l f.next) (append_assoc before (a ∷ []) as') f.read;
        }))
        step a b as' bs same (inr (inr f)) = inr (inr (record {
          next = f.next;
          rest = f.rest;
          split = ap (λ z. z ∷ as') same ∙ ap (λ l. b ∷ l) f.split;
          read = subst (λ l. IsRead told root l f.next) (append_assoc before (a ∷ []) bs ∙ ap (λ z. before ++ z ∷ bs) same) f.read;
        }))

    whole_next : (ms : Modules) (x : List ℕ) → AreWhole ms root → LeadTo ms root x → ⊥
    whole_next ms x h k = let e : order.Whole h.0 ≡ order.Next x k.0 = sym h.1 ∙ k.1 in cc

    module _ (as' bs : Modules) (read_a : AreRead told root [] as') (read_b : AreRead told root [] bs) (whole : AreWhole as' root) where
      -- reading that goes no further is the same
      at_end : ((x : List ℕ) → LeadTo bs root x → ⊥) → as' ≡ bs
      at_end no_more = from (compare [] as' bs read_a read_b)
        where
          from : (as' ≡ bs) ⊎ (Further [] as' bs ⊎ Further [] bs as') → as' ≡ bs
          from (inl e) = e
          from (inr (inl f)) = absurd (whole_next as' f.next.0 whole f.read.next)
          from (inr (inr f)) = absurd (no_more f.next.0 f.read.next)

      whole_same : AreWhole bs root → as' ≡ bs
      whole_same w = at_end (λ x k. whole_next bs x w k)

      no_end : (c : order.Course) → course_of_root bs root ≡ c → ((x : List ℕ) (r : List (List ℕ)) → c ≡ order.Next x r → ⊥) → ((r : List (List ℕ)) → c ≡ order.Whole r → ⊥) → ⊥
      no_end c e f g =
          let same : as' ≡ bs = at_end (λ x k. f x k.0 (sym e ∙ k.1)) in
          g whole.0 (sym e ∙ ap (λ ms. course_of_root ms root) (sym same) ∙ whole.1)

      -- what is to be read next is given
      next_unread : (x : List ℕ) (e : ModuleFault) → LeadTo bs root x → IsUnread told (length bs) (file_of root x) x e → IsOutside e
      next_unread x e lead h = from (compare [] as' bs read_a read_b)
        where
          from : (as' ≡ bs) ⊎ (Further [] as' bs ⊎ Further [] bs as') → IsOutside e
          from (inl same) = absurd (whole_next as' x whole (subst (λ ms. LeadTo ms root x) (sym same) lead))
          from (inr (inl f)) = absurd (whole_next as' f.next.0 whole f.read.next)
          from (inr (inr f)) =
              let same : f.next.0 ≡ x = next_same bs f.next.0 x f.read.next lead in
              unread_apart (length bs) (file_of root x) x f.next.1 e h (subst (λ z. IsGiven told (length bs) (file_of root z) f.next.1) same f.read.given) (f.read.named ∙ same)

      no_misuse : {P : Type 0} (m : _) → misuse_of as' ≡ None → AreWhole bs root → misuse_of bs ≡ Some m → P
      no_misuse m none w h = some_none (misuse_of as') m (ap misuse_of (whole_same w) ∙ h) none

      no_cause : (files : List (List ℕ)) (e : ModuleFault) → misuse_of as' ≡ None → IsCause told root bs files e → IsOutside e
      no_cause files (Cycle xs) none h = absurd (no_end (order.Cycle xs) h.0 (λ x r k. cc) (λ r k. cc))
      no_cause files TooMany none h = absurd (no_end order.TooMany h.0 (λ x r k. cc) (λ r k. cc))
      no_cause files (Unknown x p) none h = no_misuse _ none h.0.0 h.0.1
      no_cause files (Twice x p q) none h = no_misuse _ none h.0.0 h.0.1
      no_cause files (Arity p m n) none h = no_misuse _ none h.0.0 h.0.1
      no_cause files (Memory e) none h = tt
      no_cause files (Missing y) none h = next_unread h.0 (Missing y) h.1 h.2
      no_cause files (NameDiffers y z) none h = next_unread h.0 (NameDiffers y z) h.1 h.2
      no_cause files (Lex e) none h = next_unread h.0 (Lex e) h.1 h.2
      no_cause files (Parse e) none h = next_unread h.0 (Parse e) h.1 h.2
      no_cause files (Read f) none h = tt
      no_cause files (TooLong f) none h = next_unread h.0 (TooLong f) h.1 h.2

-- ---- answers

one_flat : (held : Option Folder) (root : List ℕ) (f g : Flat) → IsTold held → IsFlatModule held root f → IsFlatModule held root g → g ≡ f
one_flat held root f g told a b = of_folder told.0 (subst (λ h. IsFlatModule h root f) told.1 a) (subst (λ h. IsFlatModule h root g) told.1 b)
  where
    of_folder : (folder : Folder) → IsFlatModule (Some folder) root f → IsFlatModule (Some folder) root g → g ≡ f
    of_folder folder a b =
        b.flat ∙ ap (λ ms. flat_of (file_of root) ms (module_name root)) (sym (whole_same folder root a.modules b.modules a.read b.read a.whole b.whole)) ∙ sym a.flat

pub no_refusal : (held : Option Folder) (root : List ℕ) (f : Flat) (r : ModuleRefusal) → IsTold held → IsFlatModule held root f → IsRefused held root r → IsOutside r.fault
no_refusal held root f r told a b = of_folder told.0 (subst (λ h. IsFlatModule h root f) told.1 a) (subst (λ h. IsRefused h root r) told.1 b)
  where
    of_folder : (folder : Folder) → IsFlatModule (Some folder) root f → IsRefused (Some folder) root r → IsOutside r.fault
    of_folder folder a b = no_cause folder root a.modules b.modules a.read b.read a.whole r.files r.fault a.known b.cause

pub one_answer : {held : Option Folder} {root : List ℕ} {f : Flat} (r : Result Flat ModuleRefusal) → IsTold held → IsFlatModule held root f →
    MatchResult r (IsFlatModule held root) (IsRefused held root) → MatchResult r (λ g. g ≡ f) (λ r. IsOutside r.fault)
one_answer {held} {root} {f} (Ok g) told a b = one_flat held root f g told a b
one_answer {held} {root} {f} (Err r) told a b = no_refusal held root f r told a b
