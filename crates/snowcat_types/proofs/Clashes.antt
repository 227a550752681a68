-- Where there is a clash there is no typing.
use Rattle.std.proofs.Common.{◌≡◌, List, [], ◌∷◌, ◌++◌, ap, sym, ◌∙◌, subst, append_assoc}
use Rattle.std.proofs.lemmas.List.{append-nil}
use Rattle.tla_meaning.specs.declared.job.Job.{Job}
use Rattle.tla_meaning.specs.declared.place.Place.{Place}
use Rattle.snowcat_rows.specs.declared.types.Ty.{Ty}
use Rattle.snowcat_rows.specs.Types.{Term, mean}
use Rattle.snowcat_rows.specs.Substitutions.{Sub}
use Rattle.snowcat_rows.specs.declared.types.Typed.{Typed}
use Rattle.snowcat_types.specs.declared.waiting.Wait.{Wait}
use Rattle.snowcat_types.specs.declared.kinds.Kind.{Kind}
use Rattle.snowcat_types.specs.Requirements.{Requirement, MeetAll}
use Rattle.snowcat_types.specs.Waiting.{choice, default_kind}
use Rattle.snowcat_types.specs.Systems.{Annotations, Entry, Asks, Waits, asked, waited, System, system, all_asked, all_waits, parts_of}
use Rattle.snowcat_types.specs.Typings.{Each, Decides, DecidesNothing, IsFirst, Reached, at_start, decided, by_default, IsTyping, Visited, nothing_yet, a_row, chosen, waits_on, Next, in_row, at_visit, afterwards, by_its_default, IsClash}
use Rattle.snowcat_types.specs.Answers.{IsTypedAs, IsClashOf, types_of_names, types_of_parts}
use Rattle.snowcat_types.proofs.Choices.{defaults_made, typing_or_none}
use Rattle.snowcat_types.proofs.Joining.{Going}
use Rattle.snowcat_types.proofs.Nodes.{asked-append, waited-append}
use Rattle.snowcat_types.proofs.OneReading.{one_annotation}
use Rattle.snowcat_types.proofs.Order.{Distinct, always}
use Rattle.snowcat_types.proofs.Running.{decides_else, nothing_else, both_more, visit_step}
use Rattle.snowcat_types.proofs.Waits.{distinct_waits}

-- ---- what was visited and chosen is reached, but for the order of what is asked

pub decide_by : (A done : List Requirement) (W earlier later ds : List Wait) (w : Wait) (k : Kind) → Going A W done (earlier ++ w ∷ later) ds →
    Decides done w k → Going A W (done ++ choice w k) (earlier ++ later) ds
decide_by A done W earlier later ds w k g d = record {
  rs = g.rs ++ choice w k;
  reached = decided g.rs earlier later ds w k g.reached (decides_else done g.rs w k g.to_done d);
  to_done = both_more g.rs done (choice w k) g.to_done;
  from_done = both_more done g.rs (choice w k) g.from_done;
}

pub default_by : (A done : List Requirement) (W earlier later ds : List Wait) (w : Wait) → Going A W done (earlier ++ w ∷ later) ds →
    Each (DecidesNothing done) (earlier ++ w ∷ later) → IsFirst earlier w later →
    Going A W (done ++ choice w (default_kind w)) (earlier ++ later) (ds ++ w ∷ [])
default_by A done W earlier later ds w g n i = record {
  rs = g.rs ++ choice w (default_kind w);
  reached = by_default g.rs earlier later ds w g.reached (nothing_else g.rs done (earlier ++ w ∷ later) g.from_done n) i;
  to_done = both_more g.rs done (choice w (default_kind w)) g.to_done;
  from_done = both_more done g.rs (choice w (default_kind w)) g.from_done;
}

pub going_on : (A d : List Requirement) (W us : List Wait) → Going A W d us [] → (rs : List Requirement) (ws ds : List Wait) → Reached d us rs ws ds → Going A W rs ws ds
going_on A d W us g rs ws ds at_start = g
going_on A d W us g rs ws ds (decided qs e l es w k r h) = decide_by A qs W e l es w k (going_on A d W us g qs (e ++ w ∷ l) es r) h
going_on A d W us g rs ws ds (by_default qs e l es w r n i) = default_by A qs W e l es w (going_on A d W us g qs (e ++ w ∷ l) es r) n i

asked_more : (ds : List Requirement) (es fs : List Entry) → ds ++ asked (es ++ fs) ≡ (ds ++ asked es) ++ asked fs
asked_more ds es fs = ap (λ z. ds ++ z) (asked-append es fs) ∙ sym (append_assoc ds (asked es) (asked fs))

-- one entry more, before any default
entry_more : (ds done : List Requirement) (es : List Entry) (ws : List Wait) (e : Entry) → Going (ds ++ asked es) (waited es) done ws [] →
    Going (ds ++ asked (es ++ e ∷ [])) (waited (es ++ e ∷ [])) (done ++ asked (e ∷ [])) (ws ++ waited (e ∷ [])) []
entry_more ds done es ws e g =
    let P : List Requirement → Type 0 = λ z. Going z (waited (es ++ e ∷ [])) (done ++ asked (e ∷ [])) (ws ++ waited (e ∷ [])) [] in
    let Q : List Wait → Type 0 = λ z. Going ((ds ++ asked es) ++ asked (e ∷ [])) z (done ++ asked (e ∷ [])) (ws ++ waited (e ∷ [])) [] in
    subst P (sym (asked_more ds es (e ∷ [])))
    (subst Q (sym (waited-append es (e ∷ []))) (visit_step (ds ++ asked es) (asked (e ∷ [])) done (waited es) (waited (e ∷ [])) ws g))

pub going_visited : (ds : List Requirement) (es : List Entry) (done : List Requirement) (ws : List Wait) → Visited ds es done ws →
    Going (ds ++ asked es) (waited es) done ws []
going_visited ds es done ws nothing_yet =
    let P : List Requirement → Type 0 = λ z. Going z [] ds [] [] in
    subst P (sym (append-nil ds)) (record { rs = ds; reached = at_start; to_done = λ u h. h; from_done = λ u h. h })
going_visited ds es done ws (a_row fs p rs d us v) =
    let g = entry_more ds d fs us (Asks p rs) (going_visited ds fs d us v) in
    let A : List Requirement = ds ++ asked (fs ++ Asks p rs ∷ []) in
    let W : List Wait = waited (fs ++ Asks p rs ∷ []) in
    let P : List Requirement → Type 0 = λ z. Going A W (d ++ z) (us ++ []) [] in
    let Q : List Wait → Type 0 = λ z. Going A W (d ++ rs) z [] in
    subst Q (append-nil us) (subst P (append-nil rs) g)
going_visited ds es done ws (chosen fs w k d us v h) =
    let g = entry_more ds d fs us (Waits w) (going_visited ds fs d us v) in
    let A : List Requirement = ds ++ asked (fs ++ Waits w ∷ []) in
    let W : List Wait = waited (fs ++ Waits w ∷ []) in
    let P : List Requirement → Type 0 = λ z. Going A W z (us ++ w ∷ []) [] in
    let Q : List Wait → Type 0 = λ z. Going A W (d ++ choice w k) z [] in
    subst Q (append-nil us) (decide_by A d W us [] [] w k (subst P (append-nil d) g) h)
going_visited ds es done ws (waits_on fs w d us v n) =
    let g = entry_more ds d fs us (Waits w) (going_visited ds fs d us v) in
    let A : List Requirement = ds ++ asked (fs ++ Waits w ∷ []) in
    let W : List Wait = waited (fs ++ Waits w ∷ []) in
    let P : List Requirement → Type 0 = λ z. Going A W z (us ++ w ∷ []) [] in
    subst P (append-nil d) g

-- ---- the nodes that took their default have it in each typing

abbrev HasDefault : Sub → Wait → Type 0
HasDefault s w = MeetAll s (choice w (default_kind w))

module _ (s : System) (names : List Term) (parts : List (List Term)) (es : List Wait) (d : Distinct (all_waits s)) (t : IsTyping s names parts es) where
  defaults_met : (done : List Requirement) (ws ds : List Wait) → Going (all_asked s) (all_waits s) done ws ds → Each (HasDefault t.last) ds
  defaults_met done ws ds g =
      defaults_made t.last (all_asked s) (all_waits s) g.rs ws ds g.reached
      (always (all_asked s) (all_waits s) d t.last t.all es t.reached t.principal.meets g.rs ws ds g.reached)

  listed_met : (done : List Requirement) (e : Entry) (q : Requirement) (ds : List Wait) → Next s done e q ds → Each (HasDefault t.last) ds
  listed_met done e q ds (in_row front back p first rest d2 r ws i v) = tt
  listed_met done e q ds (at_visit front back w k first rest d2 r ws i v c h) = tt
  listed_met done e q ds (afterwards w k first rest d2 rs r ws earlier later ls v h c i) =
      defaults_met rs (earlier ++ w ∷ later) ls (going_on (all_asked s) d2 (all_waits s) ws (going_visited s.declared s.entries d2 ws v) rs (earlier ++ w ∷ later) ls h)
  listed_met done e q ds (by_its_default w first rest d2 rs r ws earlier later ls v h n f i) =
      defaults_met (rs ++ choice w (default_kind w)) (earlier ++ later) (ls ++ w ∷ [])
      (default_by (all_asked s) rs (all_waits s) earlier later ls w
      (going_on (all_asked s) d2 (all_waits s) ws (going_visited s.declared s.entries d2 ws v) rs (earlier ++ w ∷ later) ls h) n f)

  pub no_clash : (p : Place) (x y : Term) (places : List Place) → IsClash s p x y places → ⊥
  no_clash p x y places c = typing_or_none s names parts es t c.listed (listed_met c.done c.entry c.asks c.listed c.next) c.none

pub clash_excludes : (job : Job) (t : Typed) (p : Place) (x y : Ty) (places : List Place) → IsTypedAs job t → IsClashOf job p x y places → ⊥
clash_excludes job t p x y places g h =
    let e : g.annotations ≡ h.annotations = one_annotation job g.annotations h.annotations g.are h.are in
    let P : Annotations → Type 0 = λ z. IsTyping (system z job) (types_of_names t) (types_of_parts t) g.defaults in
    no_clash (system h.annotations job) (types_of_names t) (types_of_parts t) g.defaults (distinct_waits h.annotations (parts_of job))
    (subst P e g.typing) p (mean x) (mean y) places h.clash
