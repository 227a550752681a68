-- A function that is made of choices: from one cell of each to the body's value there.
use Rattle.std.proofs.Common.{◌≡◌, ℕ, zero, suc, ◌+◌, ◌<◌, Bool, true, false, cond, ◌&&◌, ◌||◌, List, [], ◌∷◌, ◌++◌}
use Rattle.std.proofs.Common.{map, zip, length, take, get_or, All, Some, None, refl, ap, ◌∙◌, sym, arith}
use Rattle.std.specs.Prelude.{filter, if◌then◌else◌}
use Rattle.std.specs.List.{list_any}
use Rattle.std.proofs.lemmas.List.Elements.{All-cons, All-head, All-nil, All-tail}
use Rattle.sat_formula.specs.declared.lit.Lit.{Lit}
use Rattle.sat_formula.specs.Lit.{lit_value, IsBelow}
use Rattle.tla_values.specs.Order.{same_value}
use Rattle.tla_values.specs.Sets.{apply, function_of}
use Rattle.tla_values.specs.declared.value.Value.{Value}
use Rattle.tla_values.proofs.Extensional.{same_equal}
use Rattle.tla_meaning.specs.Meaning.{argument}
use Rattle.cell_arena.specs.declared.kinds.CellId.{CellId}
use Rattle.cell_arena.specs.declared.kinds.CellKind.{CellKind}
use Rattle.cell_arena.specs.Cells.{Cells as Arena}
use Rattle.cell_arena.specs.Decode.{decode, present_pairs}
use Rattle.cell_merge.specs.Arrows.{ArrowsNamed, LeadFrom}
use Rattle.cell_merge.specs.Sorts.{Sort, OfSort}
use Rattle.cell_merge.proofs.Graphs.{same-functions}
use Rattle.member_choices.specs.declared.choice.Choice.{Choice}
use Rattle.member_choices.specs.Choices.{AreChoices, ChoicesBelow, any_choice}
use Rattle.member_choices.specs.inner.Tests.{HaveValues, choice_arrows}

abbrev Arrow : Type 0
Arrow = Lit × CellId × CellId

-- ---- arrows for choices

arrows-push : (cs : List Choice) (xs ys : List CellId) (i : ℕ) (d : Choice) (e h : CellId) → i < length cs →
    i < length xs → i < length ys →
    choice_arrows (take (i + 1) cs) (take (i + 1) xs) (take (i + 1) ys) ≡
    choice_arrows (take i cs) (take i xs) (take i ys) ++ ((get_or cs i d).there, get_or xs i e, get_or ys i h) ∷ []
arrows-push [] xs ys i d e h lt le lf = absurd (omega arith)
arrows-push (c ∷ cs) [] ys i d e h lt le lf = absurd (omega arith)
arrows-push (c ∷ cs) (x ∷ xs) [] i d e h lt le lf = absurd (omega arith)
arrows-push (c ∷ cs) (x ∷ xs) (y ∷ ys) zero d e h lt le lf = refl
arrows-push (c ∷ cs) (x ∷ xs) (y ∷ ys) (suc i) d e h lt le lf =
    let n : suc i + 1 ≡ suc (i + 1) = omega arith in
    ap (λ (m : ℕ). choice_arrows (take m (c ∷ cs)) (take m (x ∷ xs)) (take m (y ∷ ys))) n
    ∙ ap (λ (es : List Arrow). (c.there, x, y) ∷ es)
    (arrows-push cs xs ys i d e h (omega arith) (omega arith) (omega arith))

pub arrows-more : (cs : List Choice) (xs ys : List CellId) (i : ℕ) (d : Choice) (e h : CellId)
    (out after : List Arrow) →
    i < length cs → i < length xs → i < length ys → out ≡ choice_arrows (take i cs) (take i xs) (take i ys) →
    after ≡ out ++ ((get_or cs i d).there, get_or xs i e, get_or ys i h) ∷ [] →
    after ≡ choice_arrows (take (i + 1) cs) (take (i + 1) xs) (take (i + 1) ys)
arrows-more cs xs ys i d e h out after lt le lf is pushed =
    pushed ∙ ap (λ (es : List Arrow). es ++ ((get_or cs i d).there, get_or xs i e, get_or ys i h) ∷ []) is
    ∙ sym (arrows-push cs xs ys i d e h lt le lf)

pub arrows-named : (n : ℕ) (cs : List Choice) (xs ys : List CellId) → ChoicesBelow n cs →
    ArrowsNamed n (choice_arrows cs xs ys)
arrows-named n [] xs ys h = All-nil (λ (e : Arrow). IsBelow n e.0)
arrows-named n (c ∷ cs) [] ys h = All-nil (λ (e : Arrow). IsBelow n e.0)
arrows-named n (c ∷ cs) (x ∷ xs) [] h = All-nil (λ (e : Arrow). IsBelow n e.0)
arrows-named n (c ∷ cs) (x ∷ xs) (y ∷ ys) h =
    let P : Choice → Type 0 = λ c. IsBelow n c.there in
    All-cons (λ (e : Arrow). IsBelow n e.0) (c.there, x, y) (choice_arrows cs xs ys) (All-head P c cs h)
    (arrows-named n cs xs ys (All-tail P c cs h))

pub arrows-lead : (ks : List CellKind) (s t : Sort) (cs : List Choice) (xs ys : List CellId) → All (OfSort ks s) xs →
    All (OfSort ks t) ys →
    LeadFrom ks s t (choice_arrows cs xs ys)
arrows-lead ks s t [] xs ys h k = All-nil (λ (e : Arrow). OfSort ks s e.1 × OfSort ks t e.2)
arrows-lead ks s t (c ∷ cs) [] ys h k = All-nil (λ (e : Arrow). OfSort ks s e.1 × OfSort ks t e.2)
arrows-lead ks s t (c ∷ cs) (x ∷ xs) [] h k = All-nil (λ (e : Arrow). OfSort ks s e.1 × OfSort ks t e.2)
arrows-lead ks s t (c ∷ cs) (x ∷ xs) (y ∷ ys) h k =
    All-cons (λ (e : Arrow). OfSort ks s e.1 × OfSort ks t e.2) (c.there, x, y) (choice_arrows cs xs ys)
    (All-head (OfSort ks s) x xs h, All-head (OfSort ks t) y ys k)
    (arrows-lead ks s t cs xs ys (All-tail (OfSort ks s) x xs h) (All-tail (OfSort ks t) y ys k))

-- ---- what the function gives

-- a rule for each argument: what the body gives of the values of which it is made
abbrev Follows : (List Value → Value) → (Value → Value) → List Value → Type 0
Follows h r vs = h vs ≡ r (argument vs)

-- of the arrows: the rule, where some choice that is there has the argument
given : (c : Arena) (a : List Bool) (cs : List Choice) (xs ys : List CellId) (h : List Value → Value)
    (r : Value → Value) (u : Value) →
    length xs ≡ length cs → length ys ≡ length cs → HaveValues c a cs xs argument → HaveValues c a cs ys h →
    All (λ (d : Choice). Follows h r (map (decode c a) d.cells)) cs →
    apply (present_pairs a (decode c a) (choice_arrows cs xs ys)) u ≡
    (if any_choice a (decode c a) (λ vs. same_value u (argument vs)) cs then Some (r u) else None)
unfolding HaveValues
given c a [] xs ys h r u n m p q f = refl
given c a (d ∷ cs) [] ys h r u n m p q f = absurd (omega arith)
given c a (d ∷ cs) (x ∷ xs) [] h r u n m p q f = absurd (omega arith)
given c a (d ∷ cs) (x ∷ xs) (y ∷ ys) h r u n m p q f =
    let P : Choice → Type 0 = λ (d : Choice). Follows h r (map (decode c a) d.cells) in
    split (lit_value d.there a) refl
    (given c a cs xs ys h r u (omega arith) (omega arith) (λ i e z lt on. p (suc i) e z (omega arith) on)
    (λ i e z lt on. q (suc i) e z (omega arith) on)
    (All-tail P d cs f))
  where
    vs : List Value
    vs = map (decode c a) d.cells

    rest : Bool
    rest = any_choice a (decode c a) (λ vs. same_value u (argument vs)) cs

    pairs : List (Value × Value)
    pairs = present_pairs a (decode c a) (choice_arrows cs xs ys)

    hits : (b : Bool) → same_value u (argument vs) ≡ b → h vs ≡ r (argument vs) →
        apply pairs u ≡ (if rest then Some (r u) else None) →
        (if b then Some (h vs) else apply pairs u) ≡ (if b || rest then Some (r u) else None)
    hits true e k g = ap Some (k ∙ ap r (sym (same_equal u (argument vs) e)))
    hits false e k g = g

    split : (t : Bool) → lit_value d.there a ≡ t → apply pairs u ≡ (if rest then Some (r u) else None) →
        apply (map (λ (e : Arrow). (decode c a e.1, decode c a e.2))
        (cond t ((d.there, x, y) ∷ filter (λ (e : Arrow). lit_value e.0 a) (choice_arrows cs xs ys))
        (filter (λ (e : Arrow). lit_value e.0 a) (choice_arrows cs xs ys)))) u ≡
        (if (t && same_value u (argument vs)) || rest then Some (r u) else None)
    split true e g =
        let P : Choice → Type 0 = λ (d : Choice). Follows h r (map (decode c a) d.cells) in
        ap (λ v. if same_value u v then Some (decode c a y) else apply pairs u) (p zero d x (omega arith) e)
        ∙ ap (λ v. if same_value u (argument vs) then Some v else apply pairs u) (q zero d y (omega arith) e)
        ∙ hits (same_value u (argument vs)) refl (All-head P d cs f) g
    split false e g = g

-- and of the pairs of all choices
told : (vss : List (List Value)) (h : List Value → Value) (r : Value → Value) (u : Value) → All (Follows h r) vss →
    apply (zip (map argument vss) (map h vss)) u ≡ (if list_any (λ vs. same_value u (argument vs)) vss then Some
    (r u) else None)
told [] h r u f = refl
told (vs ∷ vss) h r u f =
    hits (same_value u (argument vs)) refl (All-head (Follows h r) vs vss f)
    (told vss h r u (All-tail (Follows h r) vs vss f))
  where
    hits : (b : Bool) → same_value u (argument vs) ≡ b → h vs ≡ r (argument vs) →
        apply (zip (map argument vss) (map h vss)) u ≡ (if list_any (λ vs. same_value u (argument vs)) vss then Some
        (r u) else None) →
        (if b then Some (h vs) else apply (zip (map argument vss) (map h vss)) u) ≡
        (if b || list_any (λ vs. same_value u (argument vs)) vss then Some (r u) else None)
    hits true e k g = ap Some (k ∙ ap r (sym (same_equal u (argument vs) e)))
    hits false e k g = g

pub functions-one : (c : Arena) (a : List Bool) (cs : List Choice) (vss : List (List Value)) (xs ys : List CellId)
    (h : List Value → Value) (r : Value → Value) →
    length xs ≡ length cs → length ys ≡ length cs → AreChoices a (decode c a) cs vss → HaveValues c a cs xs argument →
    HaveValues c a cs ys h →
    All (λ (d : Choice). h (map (decode c a) d.cells) ≡ r (argument (map (decode c a) d.cells))) cs →
    All (λ vs. h vs ≡ r (argument vs)) vss →
    function_of (present_pairs a (decode c a) (choice_arrows cs xs ys)) ≡ function_of
    (zip (map argument vss) (map h vss))
functions-one c a cs vss xs ys h r n m choices p q f g = same-functions _ _ (λ u.
    given c a cs xs ys h r u n m p q f
    ∙ ap (λ (t : Bool). if t then Some (r u) else None) (choices (λ vs. same_value u (argument vs)))
    ∙ sym (told vss h r u g))
