-- What the code knows is what is known by the definition.
use Rattle.std.proofs.Common.{◌≡◌, ◌∙◌, ◌+◌, ◌<◌, Bool, ℕ, false, suc, List, [], ◌∷◌, ◌++◌, filter, map, take, length, get_or, refl, ap, sym, subst, if◌then◌else◌, Option, Some, None, append-nil, IfOk, Result, Ok, Err}
use Rattle.std.proofs.lemmas.Grind.{flat_map-append}
use Rattle.std.proofs.lemmas.List.{take_more}
use Rattle.tla_meaning.specs.declared.expr.Decl.{Decl}
use Rattle.tla_meaning.specs.declared.expr.Def.{Def}
use Rattle.tla_meaning.specs.declared.expr.Expr.{Expr}
use Rattle.tla_meaning.specs.declared.modules.Module.{Module}
use Rattle.tla_meaning.specs.declared.modules.Unit as modules
use Rattle.tla_meaning.specs.declared.modules.Unit.TheVariants as unit
use Rattle.tla_meaning.specs.declared.place.Place.{Place}
use Rattle.tla_meaning.specs.declared.symbols.Entry.{Entry}
use Rattle.tla_meaning.specs.declared.symbols.Misuse.{Misuse}
use Rattle.tla_meaning.specs.Flattening.{Known, Modules, after_extends, after_instance, after_module, after_unit, after_units, bare_instance, declared, defined, definition, definition_misuses, extended, instance, instance_entries, instance_names, is_definition, know, known_within, private_prefix, replaced, root_copy, standard_or, symbol_misuses, with_items, with_misuses}
use Rattle.tla_meaning.specs.Flattening as flat
use Rattle.tla_meaning.specs.Resolving.{resolved_in}
use Rattle.tla_meaning.specs.Scopes.{find_last}
use Rattle.tla_meaning.specs.StandardModules.{standard_module}
use Rattle.tla_meaning.specs.Symbols.{all_repeated, entry_of, least_from, with_new}
use Rattle.flat_modules.specs.declared.instances.Instance.{Instance}
use Rattle.flat_modules.specs.declared.instances.InstanceParts.{InstanceParts}
use Rattle.flat_modules.specs.declared.knowing.Knowing.{Knowing}
use Rattle.flat_modules.specs.inner.Flat.{misuses_among}
use Rattle.flat_modules.specs.inner.Gathering.{is_instance}
use Rattle.flat_modules.specs.inner.Instances.{IsInstance, from_outside, with_item}
use Rattle.flat_modules.specs.inner.Items.{item_of}
use Rattle.flat_modules.specs.inner.Learning.{IsKnown, Learns}
use Rattle.flat_modules.proofs.Walking.{least_append}

-- more is known, by what was in scope
pub learned : {o : Option Misuse} {old new : Knowing} (s : Known) (es : List Entry → List Entry) (is : List Entry → List flat.Item) (ms : List Entry → List Misuse) →
    IsKnown o old s → Learns old new (es old.resolving.scope) (is old.resolving.scope) (ms old.resolving.scope) →
    IsKnown o new (know s (es s.names) (is s.names) (ms s.names))
learned {o} {old} {new} s es is ms k l = record {
  scope = l.scope ∙ ap (λ n. with_new n (es n)) k.scope;
  items = l.items ∙ ap (λ n. with_items (map item_of old.items) (is n)) k.scope ∙ ap (λ j. with_items j (is s.names)) k.items;
  told =
      l.told ∙ ap (λ n. least_from old.resolving.told (ms n)) k.scope ∙ ap (λ o. least_from o (ms s.names)) k.told
      ∙ sym (least_append o s.misuses (ms s.names));
}

-- ---- the module of a name

pub within_standard : (d m : ℕ) (ms : Modules) (k : flat.Copy) (es : List Entry) → d ≡ suc m →
    Some es ≡ (if k.root then None else standard_module k.name) → record { names = es; items = []; misuses = [] } ≡ known_within d ms k
within_standard d m ms k es up is =
    ap (λ o. standard_or o (after_module (known_within m ms) k (find_last k.name ms))) is ∙ sym (ap (λ n. known_within n ms k) up)

pub within_file : (d m : ℕ) (ms : Modules) (k : flat.Copy) (o : Option Module) → d ≡ suc m →
    None ≡ (if k.root then None else standard_module k.name) → o ≡ find_last k.name ms → after_module (known_within m ms) k o ≡ known_within d ms k
within_file d m ms k o up is found =
    ap (after_module (known_within m ms) k) found
    ∙ ap (λ o. standard_or o (after_module (known_within m ms) k (find_last k.name ms))) is ∙ sym (ap (λ n. known_within n ms k) up)

-- ---- EXTENDS

abbrev one_extended : (flat.Copy → Known) → flat.Copy → Known → List ℕ → Known
one_extended inside k s m = after_extends inside k s (m ∷ [])

extends_more : (inside : flat.Copy → Known) (k : flat.Copy) (s : Known) (ms : List (List ℕ)) (m : List ℕ) →
    after_extends inside k s (ms ++ m ∷ []) ≡ one_extended inside k (after_extends inside k s ms) m
extends_more inside k s [] m = refl
extends_more inside k s (x ∷ ms) m = extends_more inside k (one_extended inside k s x) ms m

pub extends_step : {o : Option Misuse} {old new a : Knowing} (inside : flat.Copy → Known) (k j : flat.Copy) (s : Known) (ms : List (List ℕ)) (i : ℕ) (m : List ℕ) →
    i < length ms → m ≡ get_or ms i m → j ≡ extended k m →
    IsKnown o old (after_extends inside k s (take i ms)) → IsKnown None a (inside j) →
    Learns old new (filter (λ (e : Entry). e.exported) a.resolving.scope) (map item_of a.items)
    (all_repeated old.resolving.scope (filter (λ (e : Entry). e.exported) a.resolving.scope)) →
    IsKnown o new (after_extends inside k s (take (i + 1) ms))
extends_step {o} {old} {new} {a} inside k j s ms i m lt is copy known brought learns =
    let s2 = after_extends inside k s (take i ms) in
    let exported : List Entry → List Entry = filter (λ (e : Entry). e.exported) in
    let one = learned s2 (λ n. exported a.resolving.scope) (λ n. map item_of a.items) (λ n. all_repeated n (exported a.resolving.scope)) known learns in
    let k1 = subst (λ l. IsKnown o new (know s2 (exported l) (map item_of a.items) (all_repeated s2.names (exported l)))) brought.scope one in
    let k2 = subst (λ l. IsKnown o new (know s2 (exported (inside j).names) l (all_repeated s2.names (exported (inside j).names)))) brought.items k1 in
    let k3 = subst (λ l. IsKnown o new (know s2 (exported (inside l).names) (inside l).items (all_repeated s2.names (exported (inside l).names)))) copy k2 in
    subst (IsKnown o new) (sym (ap (after_extends inside k s) (take_more ms i m lt ∙ ap (λ y. take i ms ++ y ∷ []) (sym is)) ∙ extends_more inside k s (take i ms) m)) k3

-- ---- units

units_more : (inside : flat.Copy → Known) (k : flat.Copy) (s : Known) (us : List modules.Unit) (u : modules.Unit) →
    after_units inside k s (us ++ u ∷ []) ≡ after_unit inside k (after_units inside k s us) u
units_more inside k s [] u = refl
units_more inside k s (x ∷ us) u = units_more inside k (after_unit inside k s x) us u

pub units_next : (inside : flat.Copy → Known) (k : flat.Copy) (s : Known) (us : List modules.Unit) (i : ℕ) (u : modules.Unit) → i < length us → u ≡ get_or us i u →
    after_unit inside k (after_units inside k s (take i us)) u ≡ after_units inside k s (take (i + 1) us)
units_next inside k s us i u lt is =
    sym (ap (after_units inside k s) (take_more us i u lt ∙ ap (λ y. take i us ++ y ∷ []) (sym is)) ∙ units_more inside k s (take i us) u)

-- ---- INSTANCE

abbrev pub copy_with : List Entry → List (List ℕ × Expr) → List ℕ → List ℕ → List ℕ → List ℕ → flat.Copy
copy_with es cs m a b w = record {
  name = m;
  prefix = a;
  way = b;
  meant = λ x. replaced (w ++ x) es (entry_of x es) (find_last x cs);
  root = false;
}

pub same_copy : (es : List Entry) (cs : List (List ℕ × Expr)) {m n a c b d w v : List ℕ} → m ≡ n → a ≡ c → b ≡ d → w ≡ v →
    copy_with es cs m a b w ≡ copy_with es cs n c d v
same_copy es cs {m} {n} {a} {c} {b} {d} {w} {v} p q r t =
    ap (λ x. copy_with es cs x a b w) p ∙ ap (λ x. copy_with es cs n x b w) q ∙ ap (λ x. copy_with es cs n c x w) r ∙ ap (copy_with es cs n c d) t

-- the copy that the parts make
pub made_copy : (parts : InstanceParts) (k : flat.Copy) (es : List Entry) (u : Instance) →
    IsInstance parts (bare_instance k u.name.now u.module.now u.local u.place) →
    from_outside parts es u ≡ instance k es u.name.now u.module.now u.with.now u.local u.place
made_copy parts k es u p =
    same_copy es u.with.now refl p.prefix p.way p.with_prefix

pub instance_known : {o : Option Misuse} {old new a : Knowing} (inside : flat.Copy → Known) (k j : flat.Copy) (u : Instance) (parts : InstanceParts) (prefix : List ℕ) (s : Known) →
    IsKnown o old s → IsInstance parts (bare_instance k u.name.now u.module.now u.local u.place) →
    prefix ≡ parts.with_prefix.items → j ≡ from_outside parts old.resolving.scope u → IsKnown None a (inside j) →
    Learns old new (instance_names old.resolving.scope u.name.now u.local u.place ++ instance_entries u.name.now u.local a.resolving.scope)
    (map (with_item prefix old.resolving.scope) u.with.now ++ filter is_definition (map item_of a.items))
    (all_repeated old.resolving.scope (instance_names old.resolving.scope u.name.now u.local u.place ++ instance_entries u.name.now u.local a.resolving.scope)
    ++ with_misuses u.place old.resolving.scope a.resolving.scope u.with.now ++ symbol_misuses u.place old.resolving.scope u.with.now a.resolving.scope) →
    IsKnown o new (after_instance s (instance k s.names u.name.now u.module.now u.with.now u.local u.place) u.name.now u.with.now u.local u.place
    (inside (instance k s.names u.name.now u.module.now u.with.now u.local u.place)))
instance_known {o} {old} {new} {a} inside k j u parts prefix s known made at copy brought learns =
    let bare = bare_instance k u.name.now u.module.now u.local u.place in
    let own : List Entry → List Entry → List Entry = λ n l. instance_names n u.name.now u.local u.place ++ instance_entries u.name.now u.local l in
    let bad : List Entry → List Entry → List Misuse = λ n l. all_repeated n (own n l) ++ with_misuses u.place n l u.with.now ++ symbol_misuses u.place n u.with.now l in
    let brings : List ℕ → List flat.Item → List Entry → List flat.Item = λ w is n. map (with_item w n) u.with.now ++ filter is_definition is in
    let one = learned s (λ n. own n a.resolving.scope) (brings prefix (map item_of a.items)) (λ n. bad n a.resolving.scope) known learns in
    let k1 = subst (λ l. IsKnown o new (know s (own s.names l) (brings prefix (map item_of a.items) s.names) (bad s.names l))) brought.scope one in
    let k2 = subst (λ l. IsKnown o new (know s (own s.names (inside j).names) (brings prefix l s.names) (bad s.names (inside j).names))) brought.items k1 in
    let k3 = subst (λ w. IsKnown o new (know s (own s.names (inside j).names) (brings w (inside j).items s.names) (bad s.names (inside j).names))) (at ∙ made.with_prefix) k2 in
    let same : j ≡ instance k s.names u.name.now u.module.now u.with.now u.local u.place = copy ∙ made_copy parts k old.resolving.scope u made ∙ ap (λ n. instance k n u.name.now u.module.now u.with.now u.local u.place) known.scope in
    subst (λ c. IsKnown o new (know s (own s.names (inside c).names) (brings (bare.prefix ++ private_prefix bare) (inside c).items s.names) (bad s.names (inside c).names))) same k3

-- ---- units that mention no module

module _ {o : Option Misuse} {old new : Knowing} (inside : flat.Copy → Known) (k : flat.Copy) (s : Known) (u : modules.Unit) (known : IsKnown o old s) where
  pub declare_known : (ds es : List Decl) → u ≡ unit.Declare es → ds ≡ es →
      Learns old new (map (declared k) ds) (map (λ d. flat.Declares d) ds) (all_repeated old.resolving.scope (map (declared k) ds)) → IsKnown o new (after_unit inside k s u)
  declare_known ds es is same learns =
      subst (λ v. IsKnown o new (after_unit inside k s v)) (ap unit.Declare same ∙ sym is)
      (learned s (λ n. map (declared k) ds) (λ n. map (λ d. flat.Declares d) ds) (λ n. all_repeated n (map (declared k) ds)) known learns)

  pub assume_known : (e : Expr) → u ≡ unit.Assume e →
      Learns old new [] (flat.Assumes (resolved_in old.resolving.scope e).tree ∷ []) (resolved_in old.resolving.scope e).misuses → IsKnown o new (after_unit inside k s u)
  assume_known e is learns =
      subst (λ v. IsKnown o new (after_unit inside k s v)) (sym is)
      (learned s (λ n. []) (λ n. flat.Assumes (resolved_in n e).tree ∷ []) (λ n. (resolved_in n e).misuses) known learns)

  pub define_known : (d : Def) (local : Bool) → u ≡ unit.Define d local →
      Learns old new (defined k old.resolving.scope d local ∷ []) (flat.Defines (definition k old.resolving.scope d local) ∷ [])
      (definition_misuses k old.resolving.scope d local) → IsKnown o new (after_unit inside k s u)
  define_known d local is learns =
      subst (λ v. IsKnown o new (after_unit inside k s v)) (sym is)
      (learned s (λ n. defined k n d local ∷ []) (λ n. flat.Defines (definition k n d local) ∷ []) (λ n. definition_misuses k n d local) known learns)

pub no_instance : (u : modules.Unit) →
    ((i : Option (List ℕ)) (m : List ℕ) (cs : List (List ℕ × Expr)) (local : Bool) (p : Place) → u ≡ unit.Instance i m cs local p → ⊥) → is_instance u ≡ false
no_instance (unit.Instance i m cs local p) h = absurd (h i m cs local p refl)
no_instance (unit.Declare ds) h = refl
no_instance (unit.Assume e) h = refl
no_instance (unit.Theorem e) h = refl
no_instance (unit.Define d local) h = refl
no_instance (unit.Recursive xs) h = refl

pub if_ok : {X E : Type 0} (P Q : X → Type 0) (r : Result X E) → ((x : X) → P x → Q x) → IfOk r P → IfOk r Q
if_ok P Q (Ok x) f h = f x h
if_ok P Q (Err e) f h = tt

-- ---- what is told of all modules

pub misuse_step : {told : Option Misuse} {k : Knowing} (ms xs : Modules) (i : ℕ) (x : List ℕ × Module) {n : List ℕ} → i < length xs → x ≡ get_or xs i x → n ≡ x.0 →
    told ≡ least_from None (misuses_among ms (take i xs)) → IsKnown told k (flat.known ms (root_copy n [])) →
    k.resolving.told ≡ least_from None (misuses_among ms (take (i + 1) xs))
misuse_step {told} {k} ms xs i x {n} lt is name t h =
    let one = (flat.known ms (root_copy x.0 [])).misuses in
    let more : misuses_among ms (take (i + 1) xs) ≡ misuses_among ms (take i xs) ++ one =
    ap (misuses_among ms) (take_more xs i x lt ∙ ap (λ y. take i xs ++ y ∷ []) (sym is))
    ∙ flat_map-append (λ (y : List ℕ × Module). (flat.known ms (root_copy y.0 [])).misuses) (take i xs) (x ∷ [])
    ∙ ap (λ l. misuses_among ms (take i xs) ++ l) (append-nil one) in
    h.told ∙ ap (λ m. least_from told (flat.known ms (root_copy m [])).misuses) name ∙ ap (λ o. least_from o one) t
    ∙ sym (least_append None (misuses_among ms (take i xs)) one) ∙ ap (least_from None) (sym more)
