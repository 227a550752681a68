-- Scopes that are tied by numbers stay so where more names are bound with new numbers, and where the kernel binds
-- numbers that no name has.
use Rattle.std.proofs.Common.{◌≡◌, ℕ, Bool, true, false, not, ◌&&◌, List, [], ◌∷◌, ◌++◌, refl, sym, ◌∙◌, ap, subst, Option, Some, None, option_and_then, if◌then◌else◌}
use Rattle.std.specs.Prelude.{nat_eq}
use Rattle.std.proofs.lemmas.List.{append-nil, append_assoc}
use Rattle.std.proofs.lemmas.Map.Text.{is_eq-slice_cmp}
use Rattle.tla_values.specs.declared.value.Value.{Value}
use Rattle.tla_values.specs.declared.value.Value.TheVariants as value
use Rattle.tla_meaning.specs.Scopes.{Scope, bind, bound_to, find_last, or_else, same_text}
use Rattle.tla_meaning.proofs.Laws.{find-append, none≢some}
use Rattle.tla_meaning.proofs.Views.{and_left, and_right, false≢true}
use Rattle.kernel_trees.specs.Trees.{number_name, names_of}
use Rattle.kernel_trees.proofs.Steps.{same_text_same}
use Rattle.kernel_reduction.specs.Reduction.{Numbering, Tied, fresh, numbered, all_fresh}

pub some_same : {X : Type 0} {x y : X} → Some x ≡ Some y → x ≡ y
some_same q = cc

pub not_true : (b : Bool) → not b ≡ true → b ≡ false
not_true true h = absurd (false≢true h)
not_true false h = refl

-- numbers that differ stand for names that differ
pub names_apart : (k n : ℕ) → nat_eq k n ≡ false → same_text (number_name k) (number_name n) ≡ false
names_apart k n h = is_eq-slice_cmp (number_name k) (number_name n) ∙ ap (λ b. b && true) h

found_fresh : (ρ : Numbering) (x : List ℕ) (n k : ℕ) → fresh n ρ ≡ true → find_last x ρ ≡ Some k →
    same_text (number_name k) (number_name n) ≡ false
found_fresh [] x n k h q = absurd (none≢some q)
found_fresh (e ∷ ρ) x n k h q =
    by (find_last x ρ) (same_text x e.0) q (found_fresh ρ x n k (and_right (not (nat_eq e.1 n)) (fresh n ρ) h))
  where
    by : (o : Option ℕ) (b : Bool) → or_else o (if b then Some e.1 else None) ≡ Some k →
        (o ≡ Some k → same_text (number_name k) (number_name n) ≡ false) →
        same_text (number_name k) (number_name n) ≡ false
    by (Some j) b q rec = rec q
    by None true q rec =
        subst (λ j. same_text (number_name j) (number_name n) ≡ false) (some_same q)
        (names_apart e.1 n (not_true (nat_eq e.1 n) (and_left (not (nat_eq e.1 n)) (fresh n ρ) h)))
    by None false q rec = absurd (none≢some q)

module _ (ρ : Numbering) (a b : Scope) (r : Tied ρ a b) (n : ℕ) (h : fresh n ρ ≡ true) (v : Value) where
  old_names : (z : List ℕ) (o : Option ℕ) → find_last z ρ ≡ o →
      option_and_then (λ k. find_last (number_name k) b.bound) o
      ≡ option_and_then (λ k. find_last (number_name k) (b.bound ++ (number_name n, v) ∷ [])) o
  old_names z None q = refl
  old_names z (Some k) q =
      sym (find-append (number_name k) b.bound ((number_name n, v) ∷ [])
      ∙ ap (λ c. or_else (or_else None (if c then Some v else None)) (find_last (number_name k) b.bound))
      (found_fresh ρ z n k h q))

  new_name : find_last (number_name n) (b.bound ++ (number_name n, v) ∷ []) ≡ Some v
  new_name =
      find-append (number_name n) b.bound ((number_name n, v) ∷ [])
      ∙ ap (λ c. or_else (or_else None (if c then Some v else None)) (find_last (number_name n) b.bound))
      (same_text_same (number_name n))

  tied_by : (x z : List ℕ) (c : Bool) →
      or_else (or_else None (if c then Some v else None)) (find_last z a.bound)
      ≡ option_and_then (λ k. find_last (number_name k) (b.bound ++ (number_name n, v) ∷ []))
      (or_else (or_else None (if c then Some n else None)) (find_last z ρ))
  tied_by x z true = sym new_name
  tied_by x z false = r z ∙ old_names z (find_last z ρ) refl

  tied_one : (x : List ℕ) → Tied (ρ ++ (x, n) ∷ []) (bind (x ∷ []) (v ∷ []) a) (bind (number_name n ∷ []) (v ∷ []) b)
  tied_one x z =
      find-append z a.bound ((x, v) ∷ [])
      ∙ tied_by x z (same_text z x)
      ∙ ap (option_and_then (λ k. find_last (number_name k) (b.bound ++ (number_name n, v) ∷ [])))
      (sym (find-append z ρ ((x, n) ∷ [])))

  -- a number that no name has
  pub tied_unread : Tied ρ a (bind (number_name n ∷ []) (v ∷ []) b)
  tied_unread z = r z ∙ old_names z (find_last z ρ) refl

-- one more name in front
pub bind_front : (x : List ℕ) (v : Value) (es : List (List ℕ × Value)) (a : Scope) →
    (let c : Scope = bind (x ∷ []) (v ∷ []) a in record c { bound = c.bound ++ es })
    ≡ record a { bound = a.bound ++ (x, v) ∷ es }
bind_front x v es a = ap (λ l. record a { bound = l }) (append_assoc a.bound ((x, v) ∷ []) es)

-- under the names of a binder
pub tied_bind : (xs : List (List ℕ)) (ns : List ℕ) (vs : List Value) (ρ : Numbering) (a b : Scope) →
    all_fresh xs ns ρ ≡ true → Tied ρ a b →
    Tied (numbered xs ns ρ) (bind xs vs a) (bind (names_of ns) vs b)
tied_bind [] [] vs ρ a b h r = λ x. more x r
  where
    more : (x : List ℕ) → Tied ρ a b →
        find_last x (a.bound ++ []) ≡ option_and_then (λ n. find_last (number_name n) (b.bound ++ [])) (find_last x ρ)
    more x r = ap (find_last x) (append-nil a.bound) ∙ r x
        ∙ (λ i. option_and_then (λ n. find_last (number_name n) (sym (append-nil b.bound) i)) (find_last x ρ))
tied_bind [] (n ∷ ns) vs ρ a b h r = absurd (false≢true h)
tied_bind (x ∷ xs) [] vs ρ a b h r = absurd (false≢true h)
tied_bind (x ∷ xs) (n ∷ ns) [] ρ a b h r =
    let f : fresh n ρ ≡ true = and_left (fresh n ρ) (all_fresh xs ns (ρ ++ (x, n) ∷ [])) h in
    let g : all_fresh xs ns (ρ ++ (x, n) ∷ []) ≡ true = and_right (fresh n ρ) (all_fresh xs ns (ρ ++ (x, n) ∷ [])) h in
    let v : Value = value.Bool false in
    (λ z.
    (λ i. find_last z (sym (bind_front x v (bound_to xs []) a) i).bound)
    ∙ tied_bind xs ns [] (ρ ++ (x, n) ∷ []) (bind (x ∷ []) (v ∷ []) a) (bind (number_name n ∷ []) (v ∷ []) b) g
    (tied_one ρ a b r n f v x) z
    ∙ (λ i. option_and_then
    (λ k. find_last (number_name k) (bind_front (number_name n) v (bound_to (names_of ns) []) b i).bound)
    (find_last z (numbered xs ns (ρ ++ (x, n) ∷ [])))))
tied_bind (x ∷ xs) (n ∷ ns) (v ∷ vs) ρ a b h r =
    let f : fresh n ρ ≡ true = and_left (fresh n ρ) (all_fresh xs ns (ρ ++ (x, n) ∷ [])) h in
    let g : all_fresh xs ns (ρ ++ (x, n) ∷ []) ≡ true = and_right (fresh n ρ) (all_fresh xs ns (ρ ++ (x, n) ∷ [])) h in
    (λ z.
    (λ i. find_last z (sym (bind_front x v (bound_to xs vs) a) i).bound)
    ∙ tied_bind xs ns vs (ρ ++ (x, n) ∷ []) (bind (x ∷ []) (v ∷ []) a) (bind (number_name n ∷ []) (v ∷ []) b) g
    (tied_one ρ a b r n f v x) z
    ∙ (λ i. option_and_then
    (λ k. find_last (number_name k) (bind_front (number_name n) v (bound_to (names_of ns) vs) b i).bound)
    (find_last z (numbered xs ns (ρ ++ (x, n) ∷ [])))))

-- under two numbers that no name has, as those of a LET
pub tied_two : (m n : ℕ) (u v : Value) (ρ : Numbering) (a b : Scope) → fresh m ρ ≡ true → fresh n ρ ≡ true →
    Tied ρ a b →
    Tied ρ a (bind (number_name m ∷ number_name n ∷ []) (u ∷ v ∷ []) b)
tied_two m n u v ρ a b f g r = λ z.
    tied_unread ρ a (bind (number_name m ∷ []) (u ∷ []) b) (tied_unread ρ a b r m f u) n g v z
    ∙ (λ i. option_and_then
    (λ k. find_last (number_name k) (bind_front (number_name m) u ((number_name n, v) ∷ []) b i).bound) (find_last z ρ))
