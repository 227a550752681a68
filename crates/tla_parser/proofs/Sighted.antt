-- Which form a token shows is told by reading on.
use Rattle.std.proofs.Common.{Bool, true, false, not, ℕ, List, Option, Some, None, IsTrue, length, take, drop, get_or, inl, inr, arith, refl, sym, ap, subst, map, append_assoc, ◌≡◌, ◌<◌, ◌+◌, ◌⊎◌, ◌∷◌, ◌++◌, ◌&&◌, ◌||◌, ◌∙◌, []}
use Rattle.std.proofs.lemmas.List.{take_more, take_all, take-append-drop, length-drop}
use Rattle.std.specs.List.{list_all}
use Rattle.std.specs.Prelude.{◌-◌}
use Rattle.tla_lexer.specs.declared.token.Token.{Token}
use Rattle.tla_lexer.specs.declared.token.TokenKind.{TokenKind}
use Rattle.tla_meaning.specs.declared.place.Place.{Place}
use Rattle.tla_parser.proofs.Basics.{and_both, either, or_cases}
use Rattle.tla_parser.proofs.Faults.{begins_so, begun_unstuck}
use Rattle.tla_parser.proofs.GoesOn.{goes_tells}
use Rattle.tla_parser.proofs.Laws.{clash, same_self, same_sign-is}
use Rattle.tla_parser.proofs.Tracking.{Tells, last_next, split_end}
use Rattle.tla_parser.specs.Beginnings.{Follows, last_of}
use Rattle.tla_parser.specs.Operators.{after, is_prefix, same_sign}
use Rattle.tla_parser.specs.Rules.{IsWritten}
use Rattle.tla_parser.specs.Signs.{sign}
use Rattle.tla_parser.specs.Refused.{EndsInConstants, Goes, NoneStands, Shows, Stands, Sticks, Takes, WholeBefore, at_place, is_listed}
use Rattle.tla_parser.specs.declared.fault.Syntax.{Syntax}
use Rattle.tla_parser.specs.declared.fault.Syntax.TheVariants.{NestedModule, ParametrizedInstance, SymbolDefinition, Proof, OperatorParameter, TuplePattern}
use Rattle.tla_parser.specs.declared.signs.Role.TheVariants.{InfixRole}
use Rattle.tla_parser.specs.declared.signs.Sign.{Sign}
use Rattle.tla_parser.specs.declared.signs.Sign.TheVariants.{ConstantWord, InstanceWord, LeftAngle, LeftParen, ModuleWord, ProofWord, Underscore, Word}
use Rattle.tla_parser.specs.inner.Refusals.{IsBroken}
use Rattle.tla_parser.specs.inner.Sights.{IsFound, IsSight, Judges, constants_from, family, goes, name_from}

-- ---- signs

-- the token has the sign, as the test says
pub has_sign : (s x : Sign) (b : Bool) (t : Token) → x ≡ sign t → b ≡ same_sign x s → b ≡ true → sign t ≡ s
has_sign s x b t e f h = sym e ∙ same_sign-is x s (sym f ∙ h)

pub has_not : (s x : Sign) (b : Bool) (t : Token) → x ≡ sign t → b ≡ same_sign x s → b ≡ false → sign t ≡ s → ⊥
has_not s x b t e f h q = clash b (f ∙ ap (λ (k : Sign). same_sign k s) (e ∙ q) ∙ same_self s) h

pub sign_is : (s x : Sign) (b : Bool) (t : Token) → x ≡ sign t → b ≡ same_sign x s → sign t ≡ s → b ≡ true
sign_is s x b t e f q = f ∙ ap (λ (k : Sign). same_sign k s) (e ∙ q) ∙ same_self s

pub no_blank : (t : Token) → sign t ≡ Underscore → sign t ≡ LeftParen → ⊥
no_blank t e f = apart (sym e ∙ f)
  where
    apart : Underscore ≡ LeftParen → ⊥
    apart q = cc

-- ---- the ends of tokens

pub last_same : (f g : List Token) (t u : Token) → f ++ (t ∷ []) ≡ g ++ (u ∷ []) → (g ≡ f) × (u ≡ t)
last_same f g t u e = elim (split_end f g [] t u e) [
  | inl h ↦ (h.front_so, h.token_so)
  | inr h ↦ absurd (no_end h.rest h.rest_so)
]
  where
    no_end : (rest : List Token) → [] ≡ rest ++ (t ∷ []) → ⊥
    no_end [] q = cc
    no_end (x ∷ rest) q = cc

pub none_last : (f : List Token) (t : Token) → length (f ++ (t ∷ [])) ≡ 0 → ⊥
none_last [] t e = omega (arith, e)
none_last (x ∷ f) t e = omega (arith, e)

pub follows_last : (P : Token → Type 0) (front before : List Token) (t : Token) → front ≡ before ++ (t ∷ []) → Follows P (last_of front) → P t
follows_last P front before t e f = subst (λ (o : Option Token). Follows P o) (ap last_of e ∙ last_next before t) f

pub last_follows : (P : Token → Type 0) (front before : List Token) (t : Token) → front ≡ before ++ (t ∷ []) → P t → Follows P (last_of front)
last_follows P front before t e f = subst (λ (o : Option Token). Follows P o) (sym (ap last_of e ∙ last_next before t)) f

pub two_last : (ts before more f : List Token) (t s u v : Token) → ts ≡ before ++ (t ∷ []) → before ≡ more ++ (s ∷ []) → ts ≡ f ++ (u ∷ v ∷ []) → (u ≡ s) × (v ≡ t)
two_last ts before more f t s u v e g h =
    let k : (f ++ (u ∷ []) ≡ before) × (v ≡ t) = last_same before (f ++ (u ∷ [])) t v (sym e ∙ h ∙ sym (append_assoc f (u ∷ []) (v ∷ []))) in
    ((last_same more f s u (sym g ∙ sym k.0)).1, k.1)

pub last_two : (ts before more : List Token) (t s : Token) → ts ≡ before ++ (t ∷ []) → before ≡ more ++ (s ∷ []) → ts ≡ more ++ (s ∷ t ∷ [])
last_two ts before more t s e g = e ∙ ap (λ (us : List Token). us ++ (t ∷ [])) g ∙ append_assoc more (s ∷ []) (t ∷ [])

-- ---- reading on

pub took : (ks : List TokenKind) (front ahead : List Token) (t : Token) (b : Bool) → ahead ≡ map (at_place t.place) ks → b ≡ goes (front ++ ahead) → Tells b (Takes ks front t)
took ks front ahead t b e f =
    subst (λ (x : Bool). Tells x (Takes ks front t)) (sym (f ∙ ap (λ (us : List Token). goes (front ++ us)) e)) (goes_tells (front ++ map (at_place t.place) ks))

-- what a test tells, where something else is so
pub with_test : {A B : Type 0} (b : Bool) → A → Tells b B → (IsTrue b → A × B) × (A × B → IsTrue b)
with_test b a t = ((λ h. (a, t.yes h)), (λ k. elim (either b) [ inl e ↦ e | inr e ↦ absurd (t.no e k.1) ]))

-- ---- constants

record Listed (ts : List Token) : Type 0 where
  before : List Token
  word : Token
  names : List Token
  tokens_so : ts ≡ before ++ (word ∷ names)
  word_so : sign word ≡ ConstantWord
  names_so : list_all is_listed names ≡ true

listed_yes : (b : Bool) (ts : List Token) → constants_from b ts ≡ true → ((b ≡ true) × (list_all is_listed ts ≡ true)) ⊎ Listed ts
listed_yes b [] h = inl (h, refl)
listed_yes b (t ∷ ts) h = elim (listed_yes (same_sign (sign t) ConstantWord || (b && is_listed t)) ts h) [
  | inl k ↦ elim (or_cases (same_sign (sign t) ConstantWord) (b && is_listed t) k.0) [
    | inl w ↦ inr (record { before = []; word = t; names = ts; tokens_so = refl; word_so = same_sign-is (sign t) ConstantWord w; names_so = k.1 })
    | inr w ↦ (let p : (b ≡ true) × (is_listed t ≡ true) = and_both b (is_listed t) w in inl (p.0, rw (p.1, k.1) refl))
  ]
  | inr k ↦ inr (record { before = t ∷ k.before; word = k.word; names = k.names; tokens_so = ap (λ (us : List Token). t ∷ us) k.tokens_so; word_so = k.word_so; names_so = k.names_so })
]

listed_on : (ts : List Token) → list_all is_listed ts ≡ true → constants_from true ts ≡ true
listed_on [] h = refl
listed_on (t ∷ ts) h =
    let p : (is_listed t ≡ true) × (list_all is_listed ts ≡ true) = and_both (is_listed t) (list_all is_listed ts) h in
    ap (λ (x : Bool). constants_from x ts) (kept (same_sign (sign t) ConstantWord) (is_listed t) p.0) ∙ listed_on ts p.1
  where
    kept : (x y : Bool) → y ≡ true → (x || (true && y)) ≡ true
    kept true y e = refl
    kept false y e = e

listed_no : (b : Bool) (before : List Token) (word : Token) (names : List Token) → sign word ≡ ConstantWord → list_all is_listed names ≡ true → constants_from b (before ++ (word ∷ names)) ≡ true
listed_no b [] word names e h = ap (λ (x : Bool). constants_from x names) (begun (same_sign (sign word) ConstantWord) (b && is_listed word) (ap (λ (k : Sign). same_sign k ConstantWord) e ∙ same_self ConstantWord)) ∙ listed_on names h
  where
    begun : (x y : Bool) → x ≡ true → (x || y) ≡ true
    begun true y q = refl
    begun false y q = absurd (cc)
listed_no b (t ∷ before) word names e h = listed_no (same_sign (sign t) ConstantWord || (b && is_listed t)) before word names e h

name_yes : (b : Bool) (ts : List Token) → name_from b ts ≡ true → ((ts ≡ []) × (b ≡ true)) ⊎ Follows (λ t. sign t ≡ Word) (last_of ts)
name_yes b [] h = inl (refl, h)
name_yes b (t ∷ []) h = inr (same_sign-is (sign t) Word h)
name_yes b (t ∷ u ∷ ts) h = elim (name_yes (same_sign (sign t) Word) (u ∷ ts) h) [
  | inl k ↦ absurd (no_list k.0)
  | inr k ↦ inr k
]
  where
    no_list : u ∷ ts ≡ [] → ⊥
    no_list e = cc

name_no : (b : Bool) (ts : List Token) → Follows (λ t. sign t ≡ Word) (last_of ts) → name_from b ts ≡ true
name_no b [] h = absurd h
name_no b (t ∷ []) h = ap (λ (k : Sign). same_sign k Word) h ∙ same_self Word
name_no b (t ∷ u ∷ ts) h = name_no (same_sign (sign t) Word) (u ∷ ts) h

pub constants_tell : (ts : List Token) → Tells (constants_from false ts && name_from false ts) (EndsInConstants ts)
constants_tell ts = record {
  yes = λ h. (let k : (constants_from false ts ≡ true) × (name_from false ts ≡ true) = and_both (constants_from false ts) (name_from false ts) h in
      joined (listed_yes false ts k.0) (name_yes false ts k.1));
  no = λ h e. clash (constants_from false ts && name_from false ts) (both (constants_from false ts) (name_from false ts)
      (ap (λ (us : List Token). constants_from false us) e.tokens_so ∙ listed_no false e.before e.word e.names e.word_so e.names_so) (name_no false ts e.last_so)) h;
}
  where
    both : (a b : Bool) → a ≡ true → b ≡ true → (a && b) ≡ true
    both a b p q = rw (p, q) refl

    joined : ((false ≡ true) × (list_all is_listed ts ≡ true)) ⊎ Listed ts → ((ts ≡ []) × (false ≡ true)) ⊎ Follows (λ t. sign t ≡ Word) (last_of ts) → EndsInConstants ts
    joined (inl p) q = absurd (cc)
    joined (inr p) (inl q) = absurd (cc)
    joined (inr p) (inr q) = record { before = p.before; word = p.word; names = p.names; tokens_so = p.tokens_so; word_so = p.word_so; names_so = p.names_so; last_so = q }

-- ---- one form at most

family_infix : (s : Sign) → after s ≡ InfixRole → family s ≡ SymbolDefinition
unfolding after family
family_infix ModuleWord h = absurd (cc)
family_infix InstanceWord h = absurd (cc)
family_infix ProofWord h = absurd (cc)
family_infix Underscore h = absurd (cc)
family_infix LeftParen h = absurd (cc)
family_infix LeftAngle h = absurd (cc)
family_infix _ h = refl

family_prefix : (s : Sign) → is_prefix s ≡ true → family s ≡ SymbolDefinition
unfolding is_prefix family
family_prefix ModuleWord h = absurd (cc)
family_prefix InstanceWord h = absurd (cc)
family_prefix ProofWord h = absurd (cc)
family_prefix Underscore h = absurd (cc)
family_prefix LeftParen h = absurd (cc)
family_prefix LeftAngle h = absurd (cc)
family_prefix _ h = refl

families : (family ModuleWord ≡ NestedModule) × (family InstanceWord ≡ ParametrizedInstance) × (family ProofWord ≡ Proof) × (family Underscore ≡ OperatorParameter) × (family LeftParen ≡ OperatorParameter) × (family LeftAngle ≡ TuplePattern)
unfolding family
families = (refl, refl, refl, refl, refl, refl)

-- the sign tells which form may be shown
pub of_family : (form : Syntax) (p : Place) (front : List Token) (t : Token) (rest : List Token) → Shows form p front t rest → family (sign t) ≡ form
of_family NestedModule p front t rest s = ap family s.0 ∙ families.0
of_family ParametrizedInstance p front t rest s = ap family s.0 ∙ families.1
of_family Proof p front t rest s = ap family s.0 ∙ families.2
of_family OperatorParameter p front t rest (inl s) = ap family s.0 ∙ families.3
of_family OperatorParameter p front t rest (inr s) = ap family s.0 ∙ families.4
of_family TuplePattern p front t rest s = ap family s.0 ∙ families.5
of_family SymbolDefinition p front t rest s = elim s.2 [ inl k ↦ family_infix (sign t) k.0 | inr k ↦ family_prefix (sign t) k.0 ]

pub module_of : (s : Sign) → family s ≡ NestedModule → s ≡ ModuleWord
unfolding family
module_of ModuleWord h = refl
module_of InstanceWord h = absurd (cc)
module_of ProofWord h = absurd (cc)
module_of Underscore h = absurd (cc)
module_of LeftParen h = absurd (cc)
module_of LeftAngle h = absurd (cc)
module_of _ h = absurd (cc)

pub instance_of : (s : Sign) → family s ≡ ParametrizedInstance → s ≡ InstanceWord
unfolding family
instance_of InstanceWord h = refl
instance_of ModuleWord h = absurd (cc)
instance_of ProofWord h = absurd (cc)
instance_of Underscore h = absurd (cc)
instance_of LeftParen h = absurd (cc)
instance_of LeftAngle h = absurd (cc)
instance_of _ h = absurd (cc)

pub pattern_of : (s : Sign) → family s ≡ TuplePattern → s ≡ LeftAngle
unfolding family
pattern_of LeftAngle h = refl
pattern_of InstanceWord h = absurd (cc)
pattern_of ModuleWord h = absurd (cc)
pattern_of ProofWord h = absurd (cc)
pattern_of Underscore h = absurd (cc)
pattern_of LeftParen h = absurd (cc)
pattern_of _ h = absurd (cc)

pub proof_of : (s : Sign) → family s ≡ Proof → s ≡ ProofWord
unfolding family
proof_of ProofWord h = refl
proof_of LeftAngle h = absurd (cc)
proof_of InstanceWord h = absurd (cc)
proof_of ModuleWord h = absurd (cc)
proof_of Underscore h = absurd (cc)
proof_of LeftParen h = absurd (cc)
proof_of _ h = absurd (cc)

-- ---- the token at which reading sticks is one

pub first_same : (x y : Token) (xs ys : List Token) → x ∷ xs ≡ y ∷ ys → x ≡ y
first_same x y xs ys q = cc

pub rest_same : (x y : Token) (xs ys : List Token) → x ∷ xs ≡ y ∷ ys → xs ≡ ys
rest_same x y xs ys q = cc

later : (front : List Token) (t : Token) (more : List Token) → goes (front ++ (t ∷ [])) ≡ false → goes (front ++ (t ∷ more)) ≡ false
later front t more h = elim (either (goes (front ++ (t ∷ more)))) [
  | inr e ↦ e
  | inl e ↦ (let g : Goes (front ++ (t ∷ more)) = (goes_tells (front ++ (t ∷ more))).yes e in
      absurd ((goes_tells (front ++ (t ∷ []))).no h (more ++ g.0, subst (λ (us : List Token). IsWritten us) (moved g.0) g.1)))
]
  where
    moved : (us : List Token) → (front ++ (t ∷ more)) ++ us ≡ (front ++ (t ∷ [])) ++ (more ++ us)
    moved us = append_assoc front (t ∷ more) us ∙ sym (append_assoc front (t ∷ []) (more ++ us))

-- a test that holds of a front, and of no longer one, holds of one front alone
one_at : (P : List Token → Bool) → ((f : List Token) (x : Token) (more : List Token) → P (f ++ (x ∷ [])) ≡ false → P (f ++ (x ∷ more)) ≡ false) → (f g r s : List Token) (t u : Token) → f ++ (t ∷ r) ≡ g ++ (u ∷ s) → P f ≡ true → P (f ++ (t ∷ [])) ≡ false → P g ≡ true → P (g ++ (u ∷ [])) ≡ false → (g ≡ f) × (u ≡ t) × (s ≡ r)
one_at P m [] [] r s t u e a b c d = (refl, sym (first_same t u r s e), sym (rest_same t u r s e))
one_at P m [] (y ∷ g) r s t u e a b c d =
    absurd (clash (P (y ∷ g)) c (ap (λ (x : Token). P (x ∷ g)) (sym (first_same t y r (g ++ (u ∷ s)) e)) ∙ m [] t g b))
one_at P m (x ∷ f) [] r s t u e a b c d =
    absurd (clash (P (x ∷ f)) a (ap (λ (y : Token). P (y ∷ f)) (first_same x u (f ++ (t ∷ r)) s e) ∙ m [] u f d))
one_at P m (x ∷ f) (y ∷ g) r s t u e a b c d =
    let h : x ≡ y = first_same x y (f ++ (t ∷ r)) (g ++ (u ∷ s)) e in
    let k : (g ≡ f) × (u ≡ t) × (s ≡ r) =
    one_at (λ us. P (x ∷ us)) (λ us v more. m (x ∷ us) v more) f g r s t u (rest_same x y (f ++ (t ∷ r)) (g ++ (u ∷ s)) e) a b
    (ap (λ (z : Token). P (z ∷ g)) h ∙ c) (ap (λ (z : Token). P (z ∷ (g ++ (u ∷ [])))) h ∙ d) in
    (cons_as y x g f (sym h) k.0, k.1, k.2)
  where
    cons_as : (v w : Token) (xs ys : List Token) → v ≡ w → xs ≡ ys → v ∷ xs ≡ w ∷ ys
    cons_as v w xs ys p q = cc

pub one_stick : (f g r s : List Token) (t u : Token) → f ++ (t ∷ r) ≡ g ++ (u ∷ s) → goes f ≡ true → goes (f ++ (t ∷ [])) ≡ false → goes g ≡ true → goes (g ++ (u ∷ [])) ≡ false → (g ≡ f) × (u ≡ t) × (s ≡ r)
one_stick f g r s t u e a b c d = one_at goes later f g r s t u e a b c d

-- ---- what stands in the tokens

told_true : (ts : List Token) → Goes ts → goes ts ≡ true
told_true ts g = elim (either (goes ts)) [ inl e ↦ e | inr e ↦ absurd ((goes_tells ts).no e g) ]

told_false : (ts : List Token) → (Goes ts → ⊥) → goes ts ≡ false
told_false ts n = elim (either (goes ts)) [ inr e ↦ e | inl e ↦ absurd (n ((goes_tells ts).yes e)) ]

pub found : (ts front : List Token) (t : Token) (rest : List Token) (o : Option (Place × Syntax)) → ts ≡ front ++ (t ∷ rest) → goes front ≡ true → goes (front ++ (t ∷ [])) ≡ false → IsSight o front t rest → IsFound o ts
found ts front t rest (Some x) e a b s = record { front = front; token = t; rest = rest; tokens_so = e; goes = (goes_tells front).yes a; ends = (goes_tells (front ++ (t ∷ []))).no b; shown = s }
found ts front t rest None e a b s = λ form p st.
    let k : (st.front ≡ front) × (st.token ≡ t) × (st.rest ≡ rest) =
    one_stick front st.front rest st.rest t st.token (sym e ∙ st.tokens_so) a b (told_true st.front st.goes) (told_false (st.front ++ (st.token ∷ [])) st.ends) in
    s form p (subst (λ (us : List Token). Shows form p front t us) k.2
    (subst (λ (u : Token). Shows form p front u st.rest) k.1
    (subst (λ (us : List Token). Shows form p us st.token st.rest) k.0 st.shown)))

pub found_none : (ts : List Token) → goes ts ≡ true → IsFound None ts
found_none ts h = λ form p st.
    let g : Goes ts = (goes_tells ts).yes h in
    st.ends (st.rest ++ g.0, subst (λ (us : List Token). IsWritten us) (ap (λ (us : List Token). us ++ g.0) st.tokens_so ∙ append_assoc st.front (st.token ∷ st.rest) g.0 ∙ sym (append_assoc st.front (st.token ∷ []) (st.rest ++ g.0))) g.1)

-- a unit that began stands before the token with which reading sticks
inside : (P : List Token → Bool) → ((f : List Token) (x : Token) (more : List Token) → P (f ++ (x ∷ [])) ≡ false → P (f ++ (x ∷ more)) ≡ false) → (f g r s : List Token) (t u : Token) → f ++ (t ∷ r) ≡ g ++ (u ∷ s) → P (f ++ (t ∷ [])) ≡ true → P (g ++ (u ∷ [])) ≡ false → (q : List Token) × (g ≡ f ++ (t ∷ q))
inside P m [] [] r s t u e a b = absurd (clash (P (t ∷ [])) a (ap (λ (x : Token). P (x ∷ [])) (first_same t u r s e) ∙ b))
inside P m [] (y ∷ g) r s t u e a b = (g, ap (λ (x : Token). x ∷ g) (sym (first_same t y r (g ++ (u ∷ s)) e)))
inside P m (x ∷ f) [] r s t u e a b =
    absurd (clash (P ((x ∷ f) ++ (t ∷ []))) a (ap (λ (y : Token). P (y ∷ (f ++ (t ∷ [])))) (first_same x u (f ++ (t ∷ r)) s e) ∙ m [] u (f ++ (t ∷ [])) b))
inside P m (x ∷ f) (y ∷ g) r s t u e a b =
    let h : x ≡ y = first_same x y (f ++ (t ∷ r)) (g ++ (u ∷ s)) e in
    let k : (q : List Token) × (g ≡ f ++ (t ∷ q)) =
    inside (λ us. P (x ∷ us)) (λ us v more. m (x ∷ us) v more) f g r s t u (rest_same x y (f ++ (t ∷ r)) (g ++ (u ∷ s)) e) a
    (ap (λ (z : Token). P (z ∷ (g ++ (u ∷ [])))) h ∙ b) in
    (k.0, cons_as y x g (f ++ (t ∷ k.0)) (sym h) k.1)
  where
    cons_as : (v w : Token) (xs ys : List Token) → v ≡ w → xs ≡ ys → v ∷ xs ≡ w ∷ ys
    cons_as v w xs ys p q = cc

-- nothing stands behind a unit that is not whole
pub none_behind : (ts : List Token) → IsBroken ts → NoneStands ts
none_behind ts k = λ form p st.
    let s : Sticks form p ts = st.sticks in
    let i : (q : List Token) × (s.front ≡ k.front ++ (k.token ∷ q)) =
    inside goes later k.front s.front k.rest s.rest k.token s.token (sym k.tokens_so ∙ s.tokens_so)
    (ap not (begun_unstuck k.front k.token (begins_so k.front k.token k.begins)))
    (told_false (s.front ++ (s.token ∷ [])) s.ends) in
    k.broken (st.first k.front k.token i.0 i.1 k.begins)

-- the units are whole before what stands behind whole ones
pub first_in : (form : Syntax) (p : Place) (ts : List Token) → WholeBefore ts → Sticks form p ts → Stands form p ts
first_in form p ts w s = record {
  sticks = s;
  first = λ f t r e b. w f t (r ++ (s.token ∷ s.rest)) (s.tokens_so ∙ ap (λ (us : List Token). us ++ (s.token ∷ s.rest)) e ∙ append_assoc f (t ∷ r) (s.token ∷ s.rest)) b;
}

-- ---- what a token shows

pub no_sight : (form : Syntax) (front : List Token) (t : Token) (rest : List Token) → form ≡ family (sign t) → Judges form None front t rest → IsSight None front t rest
no_sight form front t rest e j = λ g p s.
    let q : form ≡ g = e ∙ of_family g p front t rest s in
    j p (subst (λ (x : Syntax). Shows x p front t rest) (sym q) s)

-- ---- where a slice is cut

pub cut : (ts : List Token) (i : ℕ) (t : Token) → i < length ts → t ≡ get_or ts i t → ts ≡ take i ts ++ (t ∷ take (length ts - (i + 1)) (drop (i + 1) ts))
cut ts i t l e =
    sym (take-append-drop (i + 1) ts) ∙ ap (λ (us : List Token). us ++ drop (i + 1) ts) (take_more ts i t l ∙ ap (λ (u : Token). take i ts ++ (u ∷ [])) (sym e))
    ∙ append_assoc (take i ts) (t ∷ []) (drop (i + 1) ts)
    ∙ ap (λ (us : List Token). take i ts ++ (t ∷ us)) (sym (take_all (length ts - (i + 1)) (drop (i + 1) ts) (omega (arith, length-drop (i + 1) ts))))

pub one_longer : (ts : List Token) (i : ℕ) (t : Token) → i < length ts → t ≡ get_or ts i t → take (i + 1) ts ≡ take i ts ++ (t ∷ [])
one_longer ts i t l e = take_more ts i t l ∙ ap (λ (u : Token). take i ts ++ (u ∷ [])) (sym e)
