-- Names in scope by their keys, and what is told of those that a new name repeats.
use Rattle.std.proofs.Common.{◌≡◌, ◌∙◌, ◌+◌, ◌-◌, ◌<◌, ℕ, suc, Bool, true, false, cond, List, [], ◌∷◌, ◌++◌, map, filter, length, reverse, take, get_or, refl, ap, sym, arith, length-append, append_assoc, append-nil}
use Rattle.std.proofs.lemmas.Bool.{and_parts}
use Rattle.std.proofs.lemmas.Grind.{flat_map-append}
use Rattle.std.proofs.lemmas.List.{length-map, map-append, reverse-append, take-map, take_all, take_more}
use Rattle.std.proofs.lemmas.List.Elements.{filter-append}
use Rattle.std.proofs.Math.Seq.{take-append_seam}
use Rattle.std.specs.Prelude.{◌&&◌, ◌||◌, not, if◌then◌else◌}
use Rattle.tla_meaning.specs.declared.symbols.Entry.{Entry}
use Rattle.tla_meaning.specs.declared.symbols.Misuse.{Misuse}
use Rattle.tla_meaning.specs.declared.symbols.Misuse.TheVariants.{Twice}
use Rattle.tla_meaning.specs.Outcomes.{least}
use Rattle.tla_meaning.specs.Flattening.{declared_origins}
use Rattle.tla_meaning.specs.Scopes.{same_text}
use Rattle.tla_meaning.specs.Symbols.{is_announcement, is_declaration, is_inner, is_member, later, repeated, repeats, serves}
use Rattle.flat_modules.proofs.Names.{same_is}
use Rattle.flat_modules.proofs.Places.{IsAt, begins_at, filter_at, goes_on}
use Rattle.flat_modules.specs.inner.Places.{IsScope, key_of, keys_of, place_of}

-- ---- keys

abbrev pub name_key : Entry → ℕ
name_key e = key_of e.name

-- what serves for a name has its key
pub served : (f e : Entry) → serves f e ≡ true → name_key e ≡ key_of f.name
served f e h =
    let first = same_text e.name f.name in
    let two = and_parts first (same_text e.origin f.origin) in
    let three = and_parts (first && same_text e.origin f.origin) (e.exported || not f.exported) in
    let all = and_parts ((first && same_text e.origin f.origin) && (e.exported || not f.exported)) (if is_declaration e.kind then is_declaration f.kind else not (is_declaration f.kind)) h in
    ap key_of (same_is e.name f.name (two (three all.0).0).0)

-- and what a name repeats
pub repeated_key : (f e : Entry) → repeats f e ≡ true → name_key e ≡ key_of f.name
repeated_key f e h =
    let first = same_text f.name e.name in
    let two = and_parts first (not (is_member f.kind)) in
    let three = and_parts (first && not (is_member f.kind)) (not (is_announcement e.kind)) in
    let all = and_parts ((first && not (is_member f.kind)) && not (is_announcement e.kind)) (is_inner f.kind || not (same_text f.origin e.origin)) h in
    ap key_of (sym (same_is f.name e.name (two (three all.0).0).0))

-- ---- one name more, and one less

pub scope_more : (keys origins : List ℕ) (es : List Entry) (e : Entry) {more_keys more_origins : List ℕ} {more : List Entry} → IsScope keys origins es →
    more ≡ es ++ e ∷ [] → more_keys ≡ keys ++ key_of e.name ∷ [] → more_origins ≡ origins ++ declared_origins (e ∷ []) → IsScope more_keys more_origins more
scope_more keys origins es e s m k o = record {
  names = k ∙ ap (λ l. l ++ key_of e.name ∷ []) s.names ∙ sym (map-append name_key es (e ∷ [])) ∙ ap keys_of (sym m);
  declared =
      o ∙ ap (λ l. l ++ declared_origins (e ∷ [])) s.declared
      ∙ sym (flat_map-append (λ (e : Entry). if is_declaration e.kind then e.origin else []) es (e ∷ [])) ∙ ap declared_origins (sym m);
}

pub keys_next : (fs : List Entry) (i : ℕ) (f : Entry) → i < length fs → f ≡ get_or fs i f → keys_of (take i fs) ++ key_of f.name ∷ [] ≡ keys_of (take (i + 1) fs)
keys_next fs i f lt is =
    sym (ap keys_of (take_more fs i f lt ∙ ap (λ y. take i fs ++ y ∷ []) (sym is)) ∙ map-append name_key (take i fs) (f ∷ []))

pub scope_less : (keys origins : List ℕ) (es : List Entry) (n m : ℕ) (e : Entry) {less_keys less_origins origin : List ℕ} {less : List Entry} → IsScope keys origins es →
    length es ≡ suc n → e ≡ get_or es n e → origin ≡ declared_origins (e ∷ []) → m ≡ length origins - length origin →
    less ≡ take n es → less_keys ≡ take (length keys - 1) keys → less_origins ≡ take m origins → IsScope less_keys less_origins less
scope_less keys origins es n m e {less_keys} {less_origins} {origin} {less} s size is own long l k o =
    let front = take n es in
    let whole : es ≡ front ++ e ∷ [] = sym (take_all (n + 1) es (omega arith)) ∙ take_more es n e (omega arith) ∙ ap (λ y. front ++ y ∷ []) (sym is) in
    let many : length keys - 1 ≡ n = omega (arith, ap length s.names, length-map es name_key) in
    let split : origins ≡ declared_origins front ++ origin =
    s.declared ∙ ap declared_origins whole ∙ flat_map-append (λ (e : Entry). if is_declaration e.kind then e.origin else []) front (e ∷ [])
    ∙ ap (λ l. declared_origins front ++ l) (sym own) in
    let cut : m ≡ length (declared_origins front) = omega (arith, ap length split, length-append (declared_origins front) origin) in
    record {
      names = k ∙ ap (λ i. take i keys) many ∙ ap (take n) s.names ∙ take-map name_key n es ∙ ap keys_of (sym l);
      declared =
          o ∙ ap (λ i. take i origins) cut ∙ ap (take (length (declared_origins front))) split ∙ take-append_seam (declared_origins front) origin
          ∙ ap declared_origins (sym l);
    }

-- ---- those that a new name repeats, from the last to the first

pub told_at : (f : Entry) (es : List Entry) → repeated es f ≡ repeated (take (place_of (key_of f.name) (keys_of es)) es) f
told_at f es =
    ap (map (λ (e : Entry). Twice f.name (least e.place f.place) (later e.place f.place))) (filter_at name_key (key_of f.name) (repeats f) (repeated_key f) es)

told_append : (es fs : List Entry) (f : Entry) → repeated (es ++ fs) f ≡ repeated es f ++ repeated fs f
told_append es fs f =
    ap (map (λ (e : Entry). Twice f.name (least e.place f.place) (later e.place f.place))) (filter-append (repeats f) es fs)
    ∙ map-append (λ (e : Entry). Twice f.name (least e.place f.place) (later e.place f.place)) (filter (repeats f) es) (filter (repeats f) fs)

-- from a place, what is told of those before it, and those from there on were told from the last
pub record IsTold (f : Entry) (es : List Entry) (place : ℕ) (told : List Misuse) : Type 0 where
  pub at : IsAt name_key (λ (l : List Entry). repeated l f) (repeated (take place es) f) (key_of f.name) es place
  pub rest : repeated es f ≡ repeated (take place es) f ++ reverse told

pub told_begins : (f : Entry) (es : List Entry) {place : ℕ} {keys : List ℕ} {k : ℕ} {told : List Misuse} → place ≡ place_of k keys → k ≡ key_of f.name → keys ≡ keys_of es → told ≡ [] →
    IsTold f es place told
told_begins f es {place} {keys} {k} {told} p e s none =
    let begins = begins_at name_key (λ (l : List Entry). repeated l f) (key_of f.name) (told_at f) es (p ∙ ap (λ x. place_of x keys) e) s in record {
      at = record { within = begins.within; same = refl; there = begins.there };
      rest = sym begins.same ∙ sym (append-nil (repeated (take place es) f)) ∙ ap (λ l. repeated (take place es) f ++ l) (sym (ap reverse none));
    }

pub told_next : (f : Entry) (es : List Entry) (place next : ℕ) (e : Entry) {keys : List ℕ} {told more : List Misuse} → 0 < place → IsTold f es place told → e ≡ get_or es (place - 1) e →
    more ≡ told ++ repeated (e ∷ []) f → next ≡ place_of (get_or keys (place - 1) 0) (take (place - 1) keys) → keys ≡ keys_of es →
    IsTold f es next more × (next < place)
told_next f es place next e {keys} {told} {more} some is here m n k =
    let j = place - 1 in
    let up : place ≡ j + 1 = omega arith in
    let lt : j < length es = omega (arith, is.at.within) in
    let whole : repeated (take place es) f ≡ repeated (take j es) f ++ repeated (e ∷ []) f =
    ap (λ i. repeated (take i es) f) up ∙ ap (λ l. repeated l f) (take_more es j e lt ∙ ap (λ y. take j es ++ y ∷ []) (sym here)) ∙ told_append (take j es) (e ∷ []) f in
    let goes = goes_on name_key (λ (l : List Entry). repeated l f) (key_of f.name) (told_at f) es place next some is.at refl n k in
    let back : reverse more ≡ repeated (e ∷ []) f ++ reverse told =
    ap reverse m ∙ reverse-append told (repeated (e ∷ []) f) ∙ ap (λ l. l ++ reverse told) (alone (repeats f e)) in (
      record {
        at = record { within = goes.0.within; same = refl; there = goes.0.there };
        rest =
            is.rest ∙ ap (λ l. l ++ reverse told) whole ∙ append_assoc (repeated (take j es) f) (repeated (e ∷ []) f) (reverse told)
            ∙ ap (λ l. repeated (take j es) f ++ l) (sym back) ∙ ap (λ l. l ++ reverse more) (sym goes.0.same);
      },
      goes.1,
    )
  where
    alone : (b : Bool) →
        reverse (map (λ (e : Entry). Twice f.name (least e.place f.place) (later e.place f.place)) (cond b (e ∷ []) []))
        ≡ map (λ (e : Entry). Twice f.name (least e.place f.place) (later e.place f.place)) (cond b (e ∷ []) [])
    alone true = refl
    alone false = refl

pub told_ends : (f : Entry) (es : List Entry) (place : ℕ) {told : List Misuse} → place ≡ 0 → IsTold f es place told → reverse told ≡ repeated es f
told_ends f es place {told} none is = sym (is.rest ∙ ap (λ n. repeated (take n es) f ++ reverse told) none)
