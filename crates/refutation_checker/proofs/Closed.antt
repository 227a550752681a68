-- Lists of words that a 0 closes.
use Rattle.std.proofs.Common.{◌≡◌, ℕ, Bool, false, List, [], ◌∷◌, ◌++◌, Option, Some, None, flat_map, refl, sym, ◌∙◌, ap, append_assoc}
use Rattle.std.specs.Prelude.{All, IsTrue}
use Rattle.std.proofs.lemmas.Bool.{false≢true}
use Rattle.std.proofs.lemmas.List.Elements.{recursion_from_All}
use Rattle.std.specs.List.{AllByRecursion}
use Rattle.refutation_checker.specs.inner.Reading.{Lacks, behind_text, closed_text, SpellsNone, ClosesNone}
use Rattle.std.proofs.lemmas.List.{append-nil}
use Rattle.refutation_checker.proofs.Splits.{cut_same, cut_none}

-- words without blanks, none of which is the closing 0, each spelled by one item
pub record AreWords {X : Type 0} (f : X → List ℕ) (P : X → Type 0) : Type 0 where
  pub lacks : (x : X) → P x → Lacks 32 (f x)
  pub apart : (x : X) → P x → f x ≡ 48 ∷ [] → ⊥
  pub same : (x y : X) → P x → P y → f x ≡ f y → x ≡ y

-- a closed list's first word
pub closed_cons : {X : Type 0} (f : X → List ℕ) (x : X) (xs : List X) (b : Option (List ℕ)) → closed_text f (x ∷ xs) b ≡ f x ++ 32 ∷ closed_text f xs b
closed_cons f x xs b = simp append_assoc

zero_lacks : Lacks 32 (48 ∷ [])
zero_lacks = ((λ e. cc), tt)

-- no words are left at the closing 0
pub closed_end : {X : Type 0} {f : X → List ℕ} {P : X → Type 0} (w : AreWords f P) (xs : List X) (b c : Option (List ℕ)) → AllByRecursion P xs → 48 ∷ behind_text b ≡ closed_text f xs c → (xs ≡ []) × (b ≡ c)
closed_end w [] None None a e = (refl, refl)
closed_end w [] None (Some s) a e = absurd (cc)
closed_end w [] (Some r) None a e = absurd (cc)
closed_end w [] (Some r) (Some s) a e = let same : r ≡ s = cc in (refl, cc)
closed_end {f = f} w (x ∷ xs) None c a e = absurd (cut_none 32 (f x) (48 ∷ []) (closed_text f xs c) zero_lacks (e ∙ closed_cons f x xs c))
closed_end {f = f} w (x ∷ xs) (Some r) c a e =
    absurd (w.apart x a.0 (sym (cut_same 32 (48 ∷ []) (f x) r (closed_text f xs c) zero_lacks (w.lacks x a.0) (e ∙ closed_cons f x xs c)).0))

-- a word that is read before a blank is the next one
pub closed_word : {X : Type 0} {f : X → List ℕ} {P : X → Type 0} (w : AreWords f P) (xs : List X) (b : Option (List ℕ)) (word more : List ℕ) → AllByRecursion P xs → Lacks 32 word → (word ≡ 48 ∷ [] → ⊥) → word ++ 32 ∷ more ≡ closed_text f xs b → (x : X) × (P x × (word ≡ f x))
closed_word w [] None word more a l n e = absurd (cut_none 32 word (48 ∷ []) more zero_lacks (sym e))
closed_word w [] (Some r) word more a l n e = absurd (n (cut_same 32 word (48 ∷ []) more r l zero_lacks e).0)
closed_word {f = f} w (x ∷ xs) b word more a l n e =
    (x, (a.0, (cut_same 32 word (f x) more (closed_text f xs b) l (w.lacks x a.0) (e ∙ closed_cons f x xs b)).0))

-- without a blank there is only the closing 0
pub closed_last : {X : Type 0} {f : X → List ℕ} {P : X → Type 0} (w : AreWords f P) (xs : List X) (b : Option (List ℕ)) (word : List ℕ) → AllByRecursion P xs → Lacks 32 word → word ≡ closed_text f xs b → word ≡ 48 ∷ []
closed_last w [] None word a l e = e
closed_last w [] (Some r) word a l e = absurd (cut_none 32 (48 ∷ []) word r l e)
closed_last {f = f} w (x ∷ xs) b word a l e = absurd (cut_none 32 (f x) word (closed_text f xs b) l (e ∙ closed_cons f x xs b))

-- each reading of a text begins with the words that were read
pub closed_rest : {X : Type 0} {f : X → List ℕ} {P : X → Type 0} (w : AreWords f P) (xs ys : List X) (rest : List ℕ) (b : Option (List ℕ)) → AllByRecursion P xs → AllByRecursion P ys → flat_map (λ x. f x ++ 32 ∷ []) xs ++ rest ≡ closed_text f ys b → (zs : List X) × (AllByRecursion P zs × ((ys ≡ xs ++ zs) × (rest ≡ closed_text f zs b)))
closed_rest w [] ys rest b p q e = (ys, (q, (refl, e)))
closed_rest {f = f} w (x ∷ xs) [] rest None p q e =
    absurd (cut_none 32 (f x) (48 ∷ []) (flat_map (λ x. f x ++ 32 ∷ []) xs ++ rest) zero_lacks (sym e ∙ simp append_assoc))
closed_rest {f = f} w (x ∷ xs) [] rest (Some r) p q e =
    absurd (w.apart x p.0 (cut_same 32 (f x) (48 ∷ []) (flat_map (λ x. f x ++ 32 ∷ []) xs ++ rest) r (w.lacks x p.0) zero_lacks (simp append_assoc at e)).0)
closed_rest {X = X} {f = f} {P = P} w (x ∷ xs) (y ∷ ys) rest b p q e =
    let cut : (f x ≡ f y) × (flat_map (λ x. f x ++ 32 ∷ []) xs ++ rest ≡ closed_text f ys b) = cut_same 32 (f x) (f y) _ _ (w.lacks x p.0) (w.lacks y q.0) (simp append_assoc at e) in
    let first : x ≡ y = w.same x y p.0 q.0 cut.0 in
    let more : (zs : List X) × (AllByRecursion P zs × ((ys ≡ xs ++ zs) × (rest ≡ closed_text f zs b))) = closed_rest w xs ys rest b p.1 q.1 cut.1 in
    let others : ys ≡ xs ++ more.0 = more.1.1.0 in
    (more.0, (more.1.0, (cc, more.1.1.1)))

-- a closed list is spelled by one list of words, with one text behind it
pub closed_same : {X : Type 0} {f : X → List ℕ} {P : X → Type 0} (w : AreWords f P) (xs ys : List X) (b c : Option (List ℕ)) → AllByRecursion P xs → AllByRecursion P ys → closed_text f xs b ≡ closed_text f ys c → (xs ≡ ys) × (b ≡ c)
closed_same {X = X} {f = f} {P = P} w xs ys b c p q e =
    let more : (zs : List X) × (AllByRecursion P zs × ((ys ≡ xs ++ zs) × (48 ∷ behind_text b ≡ closed_text f zs c))) = closed_rest w xs ys (48 ∷ behind_text b) c p q e in
    let end : (more.0 ≡ []) × (b ≡ c) = closed_end w more.0 b c more.1.0 more.1.1.1 in
    (sym (append-nil xs) ∙ ap (λ t. xs ++ t) (sym end.0) ∙ sym more.1.1.0, end.1)

-- why a text is no closed list, where some of its words are read: the next word fits nothing and does not close it
pub none_here : {X : Type 0} {f : X → List ℕ} {P : X → Type 0} (w : AreWords f P) (xs : List X) (text rest word more : List ℕ) → All P xs → text ≡ flat_map (λ x. f x ++ 32 ∷ []) xs ++ rest → (rest ≡ word ++ 32 ∷ more) × Lacks 32 word → (word ≡ 48 ∷ [] → ⊥) → SpellsNone f P word → ClosesNone f P text
none_here {X = X} {f = f} {P = P} w xs text rest word more fit read cut unclosed none ys b fits e =
    let left : (zs : List X) × (AllByRecursion P zs × ((ys ≡ xs ++ zs) × (rest ≡ closed_text f zs b))) = closed_rest w xs ys rest b (recursion_from_All P xs fit) (recursion_from_All P ys fits) (sym read ∙ e) in
    let next : (x : X) × (P x × (word ≡ f x)) = closed_word w left.0 b word more left.1.0 cut.1 unclosed (sym cut.0 ∙ left.1.1.1) in
    none next.0 next.1.0 next.1.1

-- the last word does not close it
pub none_closing : {X : Type 0} {f : X → List ℕ} {P : X → Type 0} (w : AreWords f P) (xs : List X) (text rest : List ℕ) → All P xs → text ≡ flat_map (λ x. f x ++ 32 ∷ []) xs ++ rest → Lacks 32 rest → (rest ≡ 48 ∷ [] → ⊥) → ClosesNone f P text
none_closing {X = X} {f = f} {P = P} w xs text rest fit read lacks unclosed ys b fits e =
    let left : (zs : List X) × (AllByRecursion P zs × ((ys ≡ xs ++ zs) × (rest ≡ closed_text f zs b))) = closed_rest w xs ys rest b (recursion_from_All P xs fit) (recursion_from_All P ys fits) (sym read ∙ e) in
    unclosed (closed_last w left.0 b rest left.1.0 lacks left.1.1.1)

pub not_so : {P : Type 0} (b : Bool) → b ≡ false → (P → IsTrue b) → P → ⊥
not_so b e f p = false≢true (sym e ∙ f p)
