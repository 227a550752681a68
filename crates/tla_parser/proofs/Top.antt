-- What is read of a module's tokens, and of other tokens.
use Rattle.tla_lexer.specs.declared.token.Token.{Token as Tok}
use Rattle.tla_meaning.specs.declared.modules.Module.{Module}
use Rattle.tla_parser.specs.declared.items.Item.{Item}
use Rattle.std.proofs.lemmas.List.{reverse-reverse}
use Rattle.tla_parser.specs.declared.fault.ParseFault.{ParseFault}
use Rattle.tla_parser.specs.declared.fault.ParseFault.TheVariants.{BadGrammar, NotSupported, TooDeep, Memory}
use Rattle.std.proofs.Common.{ℕ, Bool, true, false, List, Some, None, reverse, inl, inr, refl, sym, ap, arith, append-nil, ◌≡◌, ◌<◌, ◌≤◌, ◌∷◌, ◌++◌, ◌∙◌, []}
use Rattle.tla_parser.proofs.Basics.{either}
use Rattle.tla_parser.proofs.Built.{posts_made}
use Rattle.tla_parser.proofs.FieldLaw.{codes_once}
use Rattle.tla_parser.proofs.ByTable.{module_parsed, module_written, one_written_module}
use Rattle.tla_parser.proofs.Image.{capped, image, image_form, image_run, images}
use Rattle.tla_parser.proofs.Laws.{clash}
use Rattle.tla_parser.proofs.Machine.{Frame, State, at_bin, at_form, at_pre, have, heading, module_of, parse_module, run, stuck, want}
use Rattle.tla_parser.specs.Aliases.{Alias, aliases_of}
use Rattle.tla_parser.specs.Fields.{once_in}
use Rattle.tla_parser.specs.Grammar.{AreSpelled, NothingSpells, SpelledWithin, Spells, module_for}
use Rattle.tla_parser.specs.Refused.{IsRefusal}
use Rattle.tla_parser.specs.Modules.{module_tree}
use Rattle.tla_parser.specs.Spelling.{items}
use Rattle.tla_parser.specs.declared.moves.Mark.TheVariants.{AtTop}
use Rattle.tla_parser.specs.declared.open.Code.{Code}
use Rattle.tla_parser.specs.declared.open.Mode.{Mode}
use Rattle.tla_parser.specs.declared.open.Mode.TheVariants.{Have, Read, Stuck, Want}
use Rattle.tla_parser.specs.declared.open.Open.{Open}
use Rattle.tla_parser.specs.declared.open.Open.TheVariants.{Before, Between, Within}
use Rattle.tla_parser.specs.inner.Building.{made, some_if}
use Rattle.tla_parser.specs.inner.Notes.{noted}
use Rattle.tla_parser.specs.Written.{Parts, deepest, tokens_of, top}
use Rattle.tla_parser.specs.Rules.{IsModule}
use Rattle.tla_parser.specs.inner.Derivations.{ahead, posts}
use Rattle.tla_parser.specs.inner.Refusals.{IsStanding}
use Rattle.tla_parser.specs.inner.Repeats.{once_codes}
use Rattle.tla_parser.specs.inner.Recognition.{advances, code_read, ended_module, ended_stack, finished, levels_read, module_start, outcome_mode, status}

pub record IsRead (ts : List Tok) : Type 0 where
  pub written : Parts
  pub by_rules : IsModule written
  pub tokens_so : tokens_of written ≡ ts
  pub code_so : code_read (advances module_start ts) ≡ posts written
  pub levels_so : levels_read (advances module_start ts) ≡ capped (deepest written)

pub read_as : (ts : List Tok) → image (run (heading top []) ts) ≡ advances module_start ts
read_as ts = image_run (heading top []) ts (AtTop, refl)

two_open : (f : Frame) (s : List Frame) (o : Open) → ended_stack (o ∷ images (f ∷ s)) ≡ false
two_open (at_pre p) s o = refl
two_open (at_bin a t) s o = refl
two_open (at_form ps) s o = refl

state_read : (st : State) → finished (image st) ≡ true → (ps : Parts) × (module_of st ≡ Some ps) × (code_read (image st) ≡ posts ps) × (levels_read (image st) ≡ capped (deepest ps))
state_read (heading qs []) h = (qs, rw h refl, refl, refl)
state_read (heading qs (f ∷ s)) h = absurd (clash (ended_stack (image_form qs (f ∷ s) ∷ images (f ∷ s))) h (two_open f s (image_form qs (f ∷ s))))
state_read (have w s) h = absurd (cc)
state_read (want s) h = absurd (cc)
state_read stuck h = absurd (cc)

pub read_module : (ts : List Tok) → finished (advances module_start ts) ≡ true → IsRead ts
read_module ts h =
    let e : image (run (heading top []) ts) ≡ advances module_start ts = read_as ts in
    let r : (ps : Parts) × (module_of (run (heading top []) ts) ≡ Some ps) × (code_read (image (run (heading top []) ts)) ≡ posts ps) × (levels_read (image (run (heading top []) ts)) ≡ capped (deepest ps)) = state_read (run (heading top []) ts) (ap finished e ∙ h) in
    let f : IsModule r.0 × (tokens_of r.0 ≡ ts) = module_written ts r.0 r.1 in
    record { written = r.0; by_rules = f.0; tokens_so = f.1; code_so = ap code_read (sym e) ∙ r.2; levels_so = ap levels_read (sym e) ∙ r.3 }

finished_state : (st : State) (ps : Parts) → module_of st ≡ Some ps → finished (image st) ≡ true
finished_state (heading qs []) ps h =
    elim (either (ended_module (ahead qs))) [ inl e ↦ e | inr e ↦ absurd (none_is ps (rw e at h)) ]
  where
    none_is : (u : Parts) → None ≡ Some u → ⊥
    none_is u e = cc
finished_state (heading qs (f ∷ s)) ps h = absurd (cc)
finished_state (have w s) ps h = absurd (cc)
finished_state (want s) ps h = absurd (cc)
finished_state stuck ps h = absurd (cc)

pub module_reads : (ts : List Tok) (ps : Parts) → IsModule ps → tokens_of ps ≡ ts → finished (advances module_start ts) ≡ true
module_reads ts ps i e =
    ap finished (sym (read_as ts)) ∙ finished_state (run (heading top []) ts) ps (ap parse_module (sym e) ∙ module_parsed ps i)

-- nothing spells what is not read as a whole
pub unread : (ts : List Tok) → finished (advances module_start ts) ≡ false → NothingSpells ts
unread ts h m s = clash (finished (advances module_start ts)) (module_reads ts s.written s.by_rules s.tokens_so) h

-- what is read names a field twice just where the module does
pub once_read : (ts : List Tok) (r : IsRead ts) → once_codes (code_read (advances module_start ts)) ≡ once_in r.written
once_read ts r = codes_once r.written (code_read (advances module_start ts)) r.code_so

-- what is read is spelled where it names no field twice
abbrev pub read_spells : (ts : List Tok) (m : Module) (r : IsRead ts) → m ≡ module_for ts r.written → once_codes (code_read (advances module_start ts)) ≡ true → Spells m ts
read_spells ts m r e d = record { written = r.written; by_rules = r.by_rules; tokens_so = r.tokens_so; module_so = sym e; fields_so = sym (once_read ts r) ∙ d }

-- and nothing is where it does
pub spelled_once : (ts : List Tok) (m : Module) → Spells m ts → (finished (advances module_start ts) ≡ true) × (once_codes (code_read (advances module_start ts)) ≡ true)
spelled_once ts m s =
    let f : finished (advances module_start ts) ≡ true = module_reads ts s.written s.by_rules s.tokens_so in
    let r : IsRead ts = read_module ts f in
    (f, once_read ts r ∙ ap once_in (one_written_module r.written s.written r.by_rules s.by_rules (r.tokens_so ∙ sym s.tokens_so)) ∙ s.fields_so)

pub one_spelling : (ts : List Tok) (m n : Module) → Spells m ts → Spells n ts → m ≡ n
one_spelling ts m n s r =
    sym s.module_so ∙ ap (λ (ps : Parts). module_for ts ps) (one_written_module s.written r.written s.by_rules r.by_rules (s.tokens_so ∙ sym r.tokens_so)) ∙ r.module_so

capped_past : (n : ℕ) → 400 < capped n → n ≤ 400 → ⊥
capped_past n h k = omega arith

-- a module with more levels is spelled within 400 by none
pub too_deep : (ts : List Tok) → 400 < levels_read (advances module_start ts) → SpelledWithin 400 ts → ⊥
too_deep ts k w =
    let s : Spells w.source ts = w.spelled in
    let r : IsRead ts = read_module ts (spelled_once ts w.source s).0 in
    let e : s.written ≡ r.written = one_written_module s.written r.written s.by_rules r.by_rules (s.tokens_so ∙ sym r.tokens_so) in
    let d : deepest s.written ≡ deepest r.written = ap deepest e in
    capped_past (deepest r.written) (omega (arith, r.levels_so)) (omega (arith, d, w.levels_so))

capped_within : (n : ℕ) → capped n ≤ 400 → n ≤ 400
capped_within n h = omega arith

pub within_levels : (ts : List Tok) (r : IsRead ts) → once_codes (code_read (advances module_start ts)) ≡ true → levels_read (advances module_start ts) ≤ 400 → SpelledWithin 400 ts
within_levels ts r o k = record {
  source = module_for ts r.written;
  spelled = read_spells ts (module_for ts r.written) r refl o;
  levels_so = capped_within (deepest r.written) (omega (arith, r.levels_so));
}

-- what was read makes the items of the module
pub items_made : (ps : Parts) (codes : List Code) (b : Bool) (xs : List Item) → codes ≡ posts ps → made codes (Some []) ≡ some_if b (reverse xs) → xs ≡ items ps
items_made ps codes b xs e h = by_flag b (sym (posts_made ps []) ∙ ap (λ (cs : List Code). made cs (Some [])) (sym e) ∙ h)
  where
    by_flag : (c : Bool) → Some (reverse (items ps) ++ []) ≡ some_if c (reverse xs) → xs ≡ items ps
    by_flag true q =
        let r : reverse xs ≡ reverse (items ps) = sym (some_items q) ∙ append-nil (reverse (items ps)) in
        sym (reverse-reverse xs) ∙ ap reverse r ∙ reverse-reverse (items ps)
      where
        some_items : {x y : List Item} → Some x ≡ Some y → x ≡ y
        some_items p = cc
    by_flag false q = absurd (cc)

-- ---- by the outcome

outcome_finished : (m : Mode) (s : List Open) (c : List Code) (k : ℕ) → outcome_mode m s ≡ None → finished (status m s c k) ≡ false
outcome_finished Want s c k h = refl
outcome_finished (Have w) s c k h = refl
outcome_finished Stuck s c k h = refl
outcome_finished Read [] c k h = refl
outcome_finished Read (f ∷ g ∷ s) c k h = refl
outcome_finished Read (Before p ∷ []) c k h = refl
outcome_finished Read (Between a o ∷ []) c k h = refl
outcome_finished Read (Within f ∷ []) c k h =
    elim (either (ended_module f.next)) [ inl e ↦ absurd (some_none (rw e at h)) | inr e ↦ e ]
  where
    some_none : Some f.levels ≡ None → ⊥
    some_none q = cc

outcome_some : (m : Mode) (s : List Open) (c : List Code) (k n : ℕ) → outcome_mode m s ≡ Some n → (finished (status m s c k) ≡ true) × (levels_read (status m s c k) ≡ n) × (code_read (status m s c k) ≡ c)
outcome_some Want s c k n h = absurd (cc)
outcome_some (Have w) s c k n h = absurd (cc)
outcome_some Stuck s c k n h = absurd (cc)
outcome_some Read [] c k n h = absurd (cc)
outcome_some Read (f ∷ g ∷ s) c k n h = absurd (cc)
outcome_some Read (Before p ∷ []) c k n h = absurd (cc)
outcome_some Read (Between a o ∷ []) c k n h = absurd (cc)
outcome_some Read (Within f ∷ []) c k n h =
    elim (either (ended_module f.next)) [ inl e ↦ (e, same_level (rw e at h), refl) | inr e ↦ absurd (none_some (rw e at h)) ]
  where
    none_some : None ≡ Some n → ⊥
    none_some q = cc

    same_level : Some f.levels ≡ Some n → f.levels ≡ n
    same_level q = cc

-- what the answer of the code says of the recognizer
pub record Reached (ts : List Tok) : Type 0 where
  pub mode : Mode
  pub stack : List Open
  pub code : List Code
  pub margin : ℕ
  pub so : status mode stack code margin ≡ advances module_start ts

pub reached_none : (ts : List Tok) (r : Reached ts) → outcome_mode r.mode r.stack ≡ None → NothingSpells ts
reached_none ts r h = unread ts (ap finished (sym r.so) ∙ outcome_finished r.mode r.stack r.code r.margin h)

-- a whole module was read
pub reached_whole : (ts : List Tok) (r : Reached ts) (n : ℕ) → outcome_mode r.mode r.stack ≡ Some n → (finished (advances module_start ts) ≡ true) × (levels_read (advances module_start ts) ≡ n) × (code_read (advances module_start ts) ≡ r.code)
reached_whole ts r n h =
    let o : (finished (status r.mode r.stack r.code r.margin) ≡ true) × (levels_read (status r.mode r.stack r.code r.margin) ≡ n) × (code_read (status r.mode r.stack r.code r.margin) ≡ r.code) = outcome_some r.mode r.stack r.code r.margin n h in
    (ap finished (sym r.so) ∙ o.0, ap levels_read (sym r.so) ∙ o.1, ap code_read (sym r.so) ∙ o.2)

-- where a field is named twice, nothing is spelled
pub reached_repeats : (ts : List Tok) (r : Reached ts) (n : ℕ) → outcome_mode r.mode r.stack ≡ Some n → once_codes r.code ≡ false → NothingSpells ts
reached_repeats ts r n h d m s = clash (once_codes r.code) (ap once_codes (sym (reached_whole ts r n h).2) ∙ (spelled_once ts m s).1) d

pub reached_deep : (ts : List Tok) (r : Reached ts) (n : ℕ) → outcome_mode r.mode r.stack ≡ Some n → once_codes r.code ≡ true → 400 < n → AreSpelled ts × (SpelledWithin 400 ts → ⊥)
reached_deep ts r n h d l =
    let o : (finished (advances module_start ts) ≡ true) × (levels_read (advances module_start ts) ≡ n) × (code_read (advances module_start ts) ≡ r.code) = reached_whole ts r n h in
    let i : IsRead ts = read_module ts o.0 in
    ((module_for ts i.written, read_spells ts (module_for ts i.written) i refl (ap once_codes o.2 ∙ d)), too_deep ts (omega (arith, o.1, l)))

pub reached_within : (ts : List Tok) (r : Reached ts) (n : ℕ) → outcome_mode r.mode r.stack ≡ Some n → once_codes r.code ≡ true → n ≤ 400 → SpelledWithin 400 ts
reached_within ts r n h d l =
    let o : (finished (advances module_start ts) ≡ true) × (levels_read (advances module_start ts) ≡ n) × (code_read (advances module_start ts) ≡ r.code) = reached_whole ts r n h in
    within_levels ts (read_module ts o.0) (ap once_codes o.2 ∙ d) (omega (arith, o.1, l))

-- the module of what was read
pub reached_module : (ts : List Tok) (r : Reached ts) (n : ℕ) (x : Module) → outcome_mode r.mode r.stack ≡ Some n → once_codes r.code ≡ true → ((ps : Parts) → r.code ≡ posts ps → x ≡ module_for ts ps) → Spells x ts
reached_module ts r n x h d made_of =
    let o : (finished (advances module_start ts) ≡ true) × (levels_read (advances module_start ts) ≡ n) × (code_read (advances module_start ts) ≡ r.code) = reached_whole ts r n h in
    let i : IsRead ts = read_module ts o.0 in
    read_spells ts x i (made_of i.written (sym o.2 ∙ i.code_so)) (ap once_codes o.2 ∙ d)

-- why what is not spelled is refused
pub refusal_so : (e : ParseFault) (ts : List Tok) → IsStanding e ts → NothingSpells ts → IsRefusal e ts
refusal_so (BadGrammar p) ts s n = (n, s.0, s.1)
refusal_so (NotSupported p form) ts s n = (n, s)
refusal_so (TooDeep p) ts s n = absurd s
refusal_so (Memory e) ts s n = tt

-- the module with the aliases that were read
pub noted_so : (ts us : List Tok) (x tree : Module) (found : List Alias) (ps : Parts) → x ≡ noted found tree → found ≡ aliases_of us → us ≡ ts → tree ≡ module_tree (items ps) → x ≡ module_for ts ps
noted_so ts us x tree found ps e f u q = e ∙ ap (λ (xs : List Alias). noted xs tree) (f ∙ ap aliases_of u) ∙ ap (noted (aliases_of ts)) q
