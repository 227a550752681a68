-- Steps of what becomes known of a module.
use Rattle.std.proofs.Common.{◌≡◌, ◌∙◌, ◌+◌, ◌<◌, ℕ, List, [], ◌∷◌, ◌++◌, map, filter, take, drop, length, get_or, refl, ap, sym, subst, append-nil, if◌then◌else◌, Option, OnOk, Result, Ok, Err}
use Rattle.std.specs.declared.alloc.AllocError.{AllocError}
use Rattle.std.proofs.lemmas.List.{take_more, drop_more, map-append}
use Rattle.std.proofs.lemmas.List.Elements.{filter-append}
use Rattle.std.specs.List.{list_any}
use Rattle.tla_meaning.specs.declared.expr.Def.{Def}
use Rattle.tla_meaning.specs.declared.expr.Expr.{Expr}
use Rattle.tla_meaning.specs.declared.place.Place.{Place}
use Rattle.tla_meaning.specs.declared.symbols.Entry.{Entry}
use Rattle.tla_meaning.specs.declared.symbols.Misuse.{Misuse}
use Rattle.tla_meaning.specs.Flattening.{instance_entries, instance_names, is_definition, is_own, same_item, symbol_misuses, with_items, with_misuses}
use Rattle.tla_meaning.specs.Flattening as flat
use Rattle.tla_meaning.specs.Resolving.{body_scope, resolver}
use Rattle.tla_meaning.specs.Symbols.{all_repeated, is_there, least_from, parameter, repeated, with_new}
use Rattle.flat_modules.specs.declared.instances.Instance.{Instance}
use Rattle.flat_modules.specs.declared.items.Item.{Item}
use Rattle.flat_modules.specs.declared.knowing.Knowing.{Knowing}
use Rattle.flat_modules.specs.declared.resolving.Resolving.{Resolving}
use Rattle.flat_modules.specs.inner.Instances.{with_body, with_item}
use Rattle.flat_modules.specs.inner.Items.{item_of}
use Rattle.flat_modules.specs.inner.Learning.{Learns, Remains, one_symbol, told_body, with_resolved}
use Rattle.flat_modules.specs.inner.Telling.{Tells, Told, own_count, own_scope}
use Rattle.flat_modules.proofs.Walking.{least_append, mapped_more, own_is_body, repeated_append, repeated_more}

-- one after another
pub new_append : (es fs gs : List Entry) → with_new es (fs ++ gs) ≡ with_new (with_new es fs) gs
new_append es [] gs = refl
new_append es (f ∷ fs) gs = new_append (if is_there es f then es else es ++ f ∷ []) fs gs

pub items_append : (is js ks : List flat.Item) → with_items is (js ++ ks) ≡ with_items (with_items is js) ks
items_append is [] ks = refl
items_append is (j ∷ js) ks = items_append (if list_any (same_item j) is then is else is ++ j ∷ []) js ks

-- more is told
pub told_more : {old mid new : Resolving} {ms ns : List Misuse} → Told old mid ms → Told mid new ns → Told old new (ms ++ ns)
told_more {old} {mid} {new} {ms} {ns} a b = record {
  scope = b.scope ∙ a.scope;
  told = b.told ∙ ap (λ o. least_from o ns) a.told ∙ sym (least_append old.told ms ns);
}

-- one new name more
pub names_next : {old mid new : Resolving} (fs : List Entry) (i : ℕ) (f : Entry) → i < length fs → f ≡ get_or fs i f →
    Told old mid (all_repeated old.scope (take i fs)) → Told mid new (repeated (mid.scope ++ take i fs) f) →
    Told old new (all_repeated old.scope (take (i + 1) fs))
names_next {old} {mid} {new} fs i f lt is a b =
    let more : all_repeated old.scope (take i fs) ++ repeated (mid.scope ++ take i fs) f ≡ all_repeated old.scope (take (i + 1) fs) =
    ap (λ l. all_repeated old.scope (take i fs) ++ repeated (l ++ take i fs) f) a.scope
    ∙ sym (repeated_more old.scope (take i fs) f)
    ∙ ap (λ y. all_repeated old.scope (take i fs ++ y ∷ [])) is
    ∙ ap (all_repeated old.scope) (sym (take_more fs i f lt)) in
    let t = told_more {new = new} a b in
    record { scope = t.scope; told = t.told ∙ ap (least_from old.told) more }

-- nothing is told yet, and one more of what remains
pub remains_all : (a : Resolving) (whole : List Misuse) → Remains a a whole whole
remains_all a whole = record { scope = refl; told = refl }

pub remains_next : {old mid new : Resolving} {whole rest more ms : List Misuse} → Remains old mid whole rest → rest ≡ ms ++ more → Told mid new ms → Remains old new whole more
remains_next {old} {mid} {new} {whole} {rest} {more} {ms} r is t = record {
  scope = t.scope ∙ r.scope;
  told = ap (λ o. least_from o more) t.told ∙ sym (least_append mid.told ms more) ∙ ap (least_from mid.told) (sym is) ∙ r.told;
}

pub remains_none : {old new : Resolving} {whole rest : List Misuse} → Remains old new whole rest → rest ≡ [] → Told old new whole
remains_none {old} {new} {whole} {rest} r none = record { scope = r.scope; told = ap (least_from new.told) (sym none) ∙ r.told }

pub with_next : (p : Place) (es inside : List Entry) (cs : List (List ℕ × Expr)) (i : ℕ) (c : List ℕ × Expr) → i < length cs → c ≡ get_or cs i c →
    with_misuses p es inside (drop i cs) ≡ (with_resolved p es inside c (drop (i + 1) cs)).misuses ++ with_misuses p es inside (drop (i + 1) cs)
with_next p es inside cs i c lt is = ap (with_misuses p es inside) (drop_more cs i c lt ∙ ap (λ y. y ∷ drop (i + 1) cs) (sym is))

pub symbol_next : (p : Place) (es : List Entry) (cs : List (List ℕ × Expr)) (ds : List Entry) (i : ℕ) (d : Entry) → i < length ds → d ≡ get_or ds i d →
    symbol_misuses p es cs (drop i ds) ≡ one_symbol p es cs d ++ symbol_misuses p es cs (drop (i + 1) ds)
symbol_next p es cs ds i d lt is = ap (symbol_misuses p es cs) (drop_more ds i d lt ∙ ap (λ y. y ∷ drop (i + 1) ds) (sym is))

-- a new name beside those in scope and the new ones before it
pub beside_told : {old mid new : Resolving} (fs : List Entry) (f : Entry) → Told old mid (repeated old.scope f) →
    new.scope ≡ mid.scope → new.told ≡ least_from mid.told (repeated fs f) → Told old new (repeated (old.scope ++ fs) f)
beside_told {old} {mid} {new} fs f a s t = record {
  scope = s ∙ a.scope;
  told =
      t ∙ ap (λ o. least_from o (repeated fs f)) a.told ∙ sym (least_append old.told (repeated old.scope f) (repeated fs f))
      ∙ ap (least_from old.told) (sym (repeated_append old.scope fs f));
}

-- one item more of those that come one by one
pub one_name : (es fs : List Entry) (f : Entry) {mid new : List Entry} → mid ≡ with_new es fs → new ≡ with_new mid (f ∷ []) → new ≡ with_new es (fs ++ f ∷ [])
one_name es fs f m n = n ∙ ap (λ l. with_new l (f ∷ [])) m ∙ sym (new_append es fs (f ∷ []))

pub one_item : (is : List flat.Item) (js : List Item) (j : Item) {mid new : List flat.Item} → mid ≡ with_items is (map item_of js) →
    new ≡ with_items mid (item_of j ∷ []) → new ≡ with_items is (map item_of (js ++ j ∷ []))
one_item is js j m n =
    n ∙ ap (λ l. with_items l (item_of j ∷ [])) m ∙ sym (items_append is (map item_of js) (item_of j ∷ []))
    ∙ ap (with_items is) (sym (map-append item_of js (j ∷ [])))

pub one_definition : (is : List flat.Item) (js : List Item) (j : Item) {mid new : List flat.Item} → mid ≡ with_items is (filter is_definition (map item_of js)) →
    new ≡ with_items mid (filter is_definition (item_of j ∷ [])) → new ≡ with_items is (filter is_definition (map item_of (js ++ j ∷ [])))
one_definition is js j m n =
    n ∙ ap (λ l. with_items l (filter is_definition (item_of j ∷ []))) m
    ∙ sym (items_append is (filter is_definition (map item_of js)) (filter is_definition (item_of j ∷ [])))
    ∙ ap (with_items is) (sym (filter-append is_definition (map item_of js) (item_of j ∷ [])))
    ∙ ap (λ l. with_items is (filter is_definition l)) (sym (map-append item_of js (j ∷ [])))

-- the same where they stand in a list
pub item_next : (is : List flat.Item) (js : List Item) (i : ℕ) (j k : Item) {mid new : List flat.Item} → i < length js → j ≡ get_or js i j → k ≡ j →
    mid ≡ with_items is (map item_of (take i js)) → new ≡ with_items mid (item_of k ∷ []) → new ≡ with_items is (map item_of (take (i + 1) js))
item_next is js i j k {mid} lt at same m n =
    one_item is (take i js) j m (n ∙ ap (λ y. with_items mid (item_of y ∷ [])) same)
    ∙ ap (λ l. with_items is (map item_of l)) (ap (λ y. take i js ++ y ∷ []) at ∙ sym (take_more js i j lt))

pub definition_next : (is : List flat.Item) (js : List Item) (i : ℕ) (j : Item) {mid new : List flat.Item} → i < length js → j ≡ get_or js i j →
    mid ≡ with_items is (filter is_definition (map item_of (take i js))) → new ≡ with_items mid (filter is_definition (item_of j ∷ [])) →
    new ≡ with_items is (filter is_definition (map item_of (take (i + 1) js)))
definition_next is js i j lt at m n =
    one_definition is (take i js) j m n
    ∙ ap (λ l. with_items is (filter is_definition (map item_of l))) (ap (λ y. take i js ++ y ∷ []) at ∙ sym (take_more js i j lt))

-- one name of WITH more
pub with_step : {old mid new : Resolving} (prefix : List ℕ) (p : Place) (inside : List Entry) (cs : List (List ℕ × Expr)) (i : ℕ) (c : List ℕ × Expr) (t : Expr)
    (made pushed : List Item) (j : Item) {rest : List (List ℕ × Expr)} →
    i < length cs → c ≡ get_or cs i c → rest ≡ drop (i + 1) cs → item_of j ≡ with_body prefix c t → pushed ≡ made ++ j ∷ [] →
    Remains old mid (with_misuses p old.scope inside cs) (with_misuses p old.scope inside (drop i cs))
    × (map item_of made ≡ map (with_item prefix old.scope) (take i cs)) →
    Told mid new (with_resolved p mid.scope inside c rest).misuses × (t ≡ (with_resolved p mid.scope inside c rest).tree) →
    Remains old new (with_misuses p old.scope inside cs) (with_misuses p old.scope inside (drop (i + 1) cs))
    × (map item_of pushed ≡ map (with_item prefix old.scope) (take (i + 1) cs))
with_step {old} {mid} {new} prefix p inside cs i c t made pushed j {rest} lt is at made_of push k h =
    let a = subst (λ l. Told mid new (with_resolved p mid.scope inside c l).misuses × (t ≡ (with_resolved p mid.scope inside c l).tree)) at h in
    let b = subst (λ l. Told mid new (with_resolved p l inside c (drop (i + 1) cs)).misuses × (t ≡ (with_resolved p l inside c (drop (i + 1) cs)).tree)) k.0.scope a in (
      remains_next k.0 (with_next p old.scope inside cs i c lt is) b.0,
      ap (map item_of) push ∙ map-append item_of made (j ∷ []) ∙ ap (λ l. l ++ item_of j ∷ []) k.1
          ∙ ap (λ y. map (with_item prefix old.scope) (take i cs) ++ y ∷ []) (made_of ∙ ap (with_body prefix c) b.1)
          ∙ sym (mapped_more (with_item prefix old.scope) cs i c lt is),
    )

-- a definition
pub definition_told : {old m1 m2 : Resolving} (new : Resolving) (f : Entry) (d : Def) {ps qs : List (List ℕ)} {own : Option ℕ} (r : Result Expr AllocError) →
    ps ≡ d.params → qs ≡ d.params → own ≡ own_count (length d.params) (is_own m2.scope d) →
    Told old m1 (repeated old.scope f) → Told m1 m2 (all_repeated m1.scope (map (parameter d.place) ps)) →
    Tells m2 new ((resolver d.body).resolve 0 (own_scope m2.scope d.place d.name qs own)) r →
    Tells old new (told_body old.scope f d) r
definition_told {old} {m1} {m2} new f d {ps} {qs} {own} (Err e) p q c a b h = tt
definition_told {old} {m1} {m2} new f d {ps} {qs} {own} (Ok t) p q c a b h =
    let es = old.scope in
    let mine : Told old m1 (repeated es f ++ []) = record { scope = a.scope; told = a.told ∙ ap (least_from old.told) (sym (append-nil (repeated es f))) } in
    let b1 = subst (λ l. Told m1 m2 (all_repeated m1.scope (map (parameter d.place) l))) p b in
    let b2 = subst (λ s. Told m1 m2 (all_repeated s (map (parameter d.place) d.params))) a.scope b1 in
    let same : own_scope m2.scope d.place d.name qs own ≡ body_scope es d.place d.name d.params (length d.params) (is_own es d) =
    ap (λ l. own_scope m2.scope d.place d.name l own) q ∙ ap (own_scope m2.scope d.place d.name d.params) c
    ∙ own_is_body m2.scope d.place d.name d.params (length d.params) (is_own m2.scope d)
    ∙ ap (λ s. body_scope s d.place d.name d.params (length d.params) (is_own s d)) (b2.scope ∙ a.scope) in
    let h3 = subst (λ s. Told m2 new ((resolver d.body).resolve 0 s).misuses × (t ≡ ((resolver d.body).resolve 0 s).tree)) same h in
    (told_more (told_more mine b2) h3.0, h3.1)

-- an INSTANCE
pub instance_learns : {old new : Knowing} {m1 m2 m3 : Resolving} (u : Instance) (prefix : List ℕ) (a : Knowing) (es inside : List Entry) (js : List Item) {is : List flat.Item} →
    inside ≡ a.resolving.scope →
    es ≡ instance_names old.resolving.scope u.name.now u.local u.place ++ instance_entries u.name.now u.local inside →
    Told old.resolving m1 (all_repeated old.resolving.scope es) →
    Told m1 m2 (with_misuses u.place m1.scope inside u.with.now) → map item_of js ≡ map (with_item prefix m1.scope) u.with.now →
    Told m2 m3 (symbol_misuses u.place m2.scope u.with.now inside) →
    new.resolving.scope ≡ with_new m3.scope es → new.resolving.told ≡ m3.told →
    is ≡ with_items (map item_of old.items) (map item_of js) →
    map item_of new.items ≡ with_items is (filter is_definition (map item_of a.items)) →
    Learns old new (instance_names old.resolving.scope u.name.now u.local u.place ++ instance_entries u.name.now u.local a.resolving.scope)
    (map (with_item prefix old.resolving.scope) u.with.now ++ filter is_definition (map item_of a.items))
    (all_repeated old.resolving.scope (instance_names old.resolving.scope u.name.now u.local u.place ++ instance_entries u.name.now u.local a.resolving.scope)
    ++ with_misuses u.place old.resolving.scope a.resolving.scope u.with.now ++ symbol_misuses u.place old.resolving.scope u.with.now a.resolving.scope)
instance_learns {old} {new} {m1} {m2} {m3} u prefix a es inside js {is} i e t1 t2 replaced t3 names told items more =
    let own = old.resolving.scope in
    let brought : List Entry → List Entry = λ l. instance_names own u.name.now u.local u.place ++ instance_entries u.name.now u.local l in
    let w2 = subst (λ s. Told m1 m2 (with_misuses u.place s inside u.with.now)) t1.scope t2 in
    let w3 = subst (λ s. Told m2 m3 (symbol_misuses u.place s u.with.now inside)) (w2.scope ∙ t1.scope) t3 in
    let all = told_more (told_more t1 w2) w3 in
    let whole : List Entry → List Entry → List Misuse =
    λ l k. all_repeated own l ++ with_misuses u.place own k u.with.now ++ symbol_misuses u.place own u.with.now k in
    record {
      scope = names ∙ ap (λ l. with_new l es) all.scope ∙ ap (with_new own) (e ∙ ap brought i);
      items =
          more ∙ ap (λ l. with_items l (filter is_definition (map item_of a.items)))
          (items ∙ ap (with_items (map item_of old.items)) (replaced ∙ ap (λ s. map (with_item prefix s) u.with.now) t1.scope))
          ∙ sym (items_append (map item_of old.items) (map (with_item prefix own) u.with.now) (filter is_definition (map item_of a.items)));
      told = told ∙ all.told ∙ ap (λ l. least_from old.resolving.told (whole l inside)) (e ∙ ap brought i) ∙ ap (λ l. least_from old.resolving.told (whole (brought a.resolving.scope) l)) i;
    }

pub on_ok : {X E A B : Type 0} (r : Result X E) → (A → B) → OnOk r A → OnOk r B
on_ok (Ok x) f a = f a
on_ok (Err e) f a = tt
