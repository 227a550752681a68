-- What is built with types is built.
use Rattle.std.proofs.Common.{◌≡◌, ℕ, suc, true, false, not, ◌&&◌, List, [], ◌∷◌, ◌++◌, refl, sym, ap, subst, Option, None}
use Rattle.std.specs.Prelude.{nat_eq}
use Rattle.std.specs.List.{list_any}
use Rattle.tla_meaning.specs.declared.actions.Assignable.{Assignable}
use Rattle.tla_meaning.specs.declared.expr.Expr.{Expr}
use Rattle.tla_meaning.specs.declared.op.Op.{Op}
use Rattle.tla_meaning.specs.declared.place.Place.{Place}
use Rattle.tla_meaning.proofs.Views.{and_both, false≢true}
use Rattle.snowcat_rows.specs.declared.types.Ty.{Ty}
use Rattle.snowcat_rows.specs.declared.types.Ty.TheVariants as ty
use Rattle.kernel_trees.specs.declared.kernel.Ker.{Ker}
use Rattle.kernel_reduction.specs.Reduction.{Numbering, fresh, are_fresh, numbered}
use Rattle.kernel_reduction.specs.SoundLaws.{IsBuiltBeside}
use Rattle.kernel_reduction.specs.Making.{pair_type, let_of, pairs_type}
use Rattle.kernel_reduction.specs.Rows.{type_of, Level, Change, all_levels, level_numbers, indexes, all_plain}
use Rattle.kernel_reduction.specs.Builds as built
use Rattle.kernel_reduction.specs.Builds.{is_except_let, Builds, BuildsEach, BuildsArms, BuildsPath, BuildsChanges, BuildsNode}
use Rattle.kernel_reduction.specs.BuildsTyped as typed
use Rattle.kernel_reduction.specs.BuildsTyped.{BuildsTyped, EachTyped, ArmsTyped, PathTyped, ChangesTyped, TypedNode}
use Rattle.kernel_reduction.proofs.Shadowed.{Shadows, shadowed}
use Rattle.kernel_reduction.proofs.PathNumbers.{under, shadows, changes_fresh, changes_apart, two_new}

abbrev both : Ker → Ker → Ty
both k m = pair_type (type_of k) (type_of m)

-- the numbers of a LET around updates
pub let_numbers : (u n : ℕ) (ρ : Numbering) (x : List ℕ) (A B : Ty) {cs : List ℕ} {es : List Expr} {ts : List Ty}
    (ds : List Change) {us : List Ty} → all_plain (indexes ds) ≡ false →
    ChangesTyped ρ x (u ∷ n ∷ []) cs es ts ds us → is_except_let (let_of A B u n) (level_numbers ds) ρ ≡ true
let_numbers u n ρ x A B [] h d = absurd (false≢true (sym h))
let_numbers u n ρ x A B (c ∷ ds) h d =
    let r = two_new d in
    let ns : List ℕ = level_numbers (c ∷ ds) in
    let f : are_fresh (n ∷ ns) ρ ≡ true = and_both (fresh n ρ) (are_fresh ns ρ) r.named (changes_fresh d) in
    let g : are_fresh (u ∷ n ∷ ns) ρ ≡ true = and_both (fresh u ρ) (are_fresh (n ∷ ns) ρ) r.unread f in
    and_both (not (nat_eq u n) && are_fresh (u ∷ n ∷ ns) ρ) (not (list_any (nat_eq n) ns))
    (and_both (not (nat_eq u n)) (are_fresh (u ∷ n ∷ ns) ρ) (ap not r.apart) g) (ap not (changes_apart d))

mutual
  pub typed_is_built : {i : Option Assignable} {ρ : Numbering} {e : Expr} {ts : List Ty} {k : Ker} {us : List Ty} →
      BuildsTyped i ρ e ts k us → Builds i ρ e k
  typed_is_built (typed.at_node i ρ e t ts k us d) = built.at_node i ρ e k (node_built d)

  each_built : {i : Option Assignable} {ρ : Numbering} {es : List Expr} {ts : List Ty} {ks : List Ker} {us : List Ty} →
      EachTyped i ρ es ts ks us → BuildsEach i ρ es ks
  each_built (typed.none_left i ρ ts) = built.none_left i ρ
  each_built (typed.one_more i ρ e k es ks ts us vs d ds) =
      built.one_more i ρ e k es ks (typed_is_built d) (each_built ds)

  arms_built : {m : Assignable} {ρ : Numbering} {es : List Expr} {ts : List Ty} {xs : List (Ker × Ker)} {o : Option Ker}
      {us : List Ty} → ArmsTyped m ρ es ts xs o us → BuildsArms m ρ es xs o
  arms_built (typed.no_arms m ρ ts) = built.no_arms m ρ
  arms_built (typed.other_arm m ρ e k ts us d) = built.other_arm m ρ e k (typed_is_built d)
  arms_built (typed.one_arm m ρ c e g k es xs o ts us vs ws d1 d2 d3) =
      built.one_arm m ρ c e g k es xs o (typed_is_built d1) (typed_is_built d2) (arms_built d3)

  -- behind a level, whose number is the last one so far
  path_built : {ρ : Numbering} {x ms : List ℕ} {n : ℕ} {es : List Expr} {ts : List Ty} {ls : List Level} {k : Ker}
      {us : List Ty} (ns : List ℕ) (l : Level) (e : Expr) → ms ≡ ns ++ l.number ∷ [] → Builds None ρ e l.index →
      PathTyped ρ x ms n es ts ls k us → BuildsPath ρ x (suc n) (e ∷ es) (l ∷ ls) k
  path_built ns l e q b (typed.right_side ρ x ms f k ts us h d) =
      built.last_level ρ x e f l k b
      (shadowed (typed_is_built d) (numbered (x ∷ []) (l.number ∷ []) ρ)
      (subst (λ z. Shadows (under x z ρ) (ρ ++ (x, l.number) ∷ [])) (sym q) (shadows x ns l.number ρ)))
  path_built ns l e q b (typed.one_level ρ x ms n f es m ls k ts us vs d1 d2) =
      built.one_level ρ x (suc n) e (f ∷ es) l m ls k b (path_built ms m f refl (typed_is_built d1) d2)

  whole_path_built : {ρ : Numbering} {x ns : List ℕ} {n : ℕ} {es : List Expr} {ts : List Ty} {ls : List Level}
      {k : Ker} {us : List Ty} → PathTyped ρ x ns (suc n) es ts ls k us → BuildsPath ρ x (suc n) es ls k
  whole_path_built (typed.one_level ρ x ns _ e es l ls k ts us vs d1 d2) =
      path_built ns l e refl (typed_is_built d1) d2

  changes_built : {ρ : Numbering} {x ns : List ℕ} {cs : List ℕ} {es : List Expr} {ts : List Ty} {ds : List Change}
      {us : List Ty} → ChangesTyped ρ x ns cs es ts ds us → BuildsChanges ρ x cs es ds
  changes_built (typed.no_changes ρ x ns ts) = built.no_changes ρ x
  changes_built (typed.one_change ρ x ns n cs es d ds ts us vs g h) =
      built.one_change ρ x (suc n) cs es d ds (whole_path_built g) (changes_built h)

  node_built : {i : Option Assignable} {ρ : Numbering} {p : Place} {t : Ty} {o : Op} {es : List Expr}
      {xs : List (List ℕ)} {ts : List Ty} {k : Ker} {us : List Ty} → TypedNode i ρ p t o es xs ts k us →
      BuildsNode i ρ p o es xs k
  node_built (typed.boolean ρ p t b xs ts) = built.boolean ρ p b xs t
  node_built (typed.integer ρ p t i xs ts) = built.integer ρ p i xs t
  node_built (typed.text ρ p t s xs ts) = built.text ρ p s xs t
  node_built (typed.declared ρ p t i primed xs ts) = built.declared ρ p i primed [] xs t
  node_built (typed.bound_name ρ p t x n xs ts e) = built.bound_name ρ p x n xs t e
  node_built (typed.same ρ p t o ko es xs ks ts us e i ch d) = built.same ρ p o ko es xs t ks e i (each_built d)
  node_built (typed.range ρ p t es xs k l ts us d) = built.range ρ p es xs t k l (each_built d)
  node_built (typed.binder ρ p t o ko es xs ks bs ns ts us vs e i f d1 d2) =
      built.binder ρ p o ko es xs t ks bs ns e i f (each_built d1) (each_built d2)
  node_built (typed.fold ρ p t es xs bs ks ns ts us vs f d1 d2) =
      built.fold ρ p es xs t bs ks ns f (each_built d1) (each_built d2)
  node_built (typed.noted i ρ p t x es xs k ts us d) = built.noted i ρ p x es xs k (each_built d)
  node_built (typed.assign ρ p t es xs ks ts us d) = built.assign ρ p es xs ty.Bool ks (each_built d)
  node_built (typed.implies ρ p t es xs k l ts us d) = built.implies ρ p es xs ty.Bool k l (each_built d)
  node_built (typed.unequal ρ p t es xs ks ts us d) = built.unequal ρ p es xs ty.Bool ks (each_built d)
  node_built (typed.no_member ρ p t es xs ks ts us d) = built.no_member ρ p es xs ty.Bool ks (each_built d)
  node_built (typed.greater ρ p t es xs k l ts us d) = built.greater ρ p es xs ty.Bool k l (each_built d)
  node_built (typed.at_most ρ p t es xs k l ts us d) = built.at_most ρ p es xs ty.Bool k l (each_built d)
  node_built (typed.at_least ρ p t es xs ks ts us d) = built.at_least ρ p es xs ty.Bool ks (each_built d)
  node_built (typed.negative ρ p t es xs k ts us d) = built.negative ρ p es xs ty.Int (k ∷ []) (each_built d)
  node_built (typed.finite ρ p t es xs k n ts us f d) = built.finite ρ p es xs ty.Bool k n (each_built d)
  node_built (typed.truth_values ρ p t xs ts) = built.truth_values ρ p xs t ty.Bool
  node_built (typed.equivalent ρ p t es xs u n k m ts us a f d) =
      built.equivalent ρ p es xs (let_of ty.Bool (both k m) u n) (both k m) k m a (each_built d)
  node_built (typed.one_pair ρ p t es xs u n z k m ts us a f y d) =
      built.one_pair ρ p es xs (let_of t (both k m) u n) (both k m) (ty.Set (type_of k)) z k m a y.1 (each_built d)
  node_built (typed.power ρ p t es xs u n k m j ts us a f e le d) =
      built.power ρ p es xs (let_of t (type_of k) u n) ty.Bool k m j a e le (each_built d)
  node_built (typed.high_power ρ p t es xs u n k m j ts us a f e le d) =
      built.high_power ρ p es xs (let_of t (both k m) u n) (both k m) ty.Bool k m j a e le (each_built d)
  node_built (typed.field ρ p t es xs k m x ts us r e d) = built.field ρ p es xs t k m x e (each_built d)
  node_built (typed.low_item ρ p t es xs k m j ts us r e le d) = built.low_item ρ p es xs t k m j e le (each_built d)
  node_built (typed.high_item ρ p t es xs u n k m j ts us a f r e le d) =
      built.high_item ρ p es xs (let_of t (both k m) u n) (both k m) k m j a e le (each_built d)
  node_built (typed.except ρ p t cs e es x u n f d ds ts us vs pl le d1 d2) =
      built.except ρ p cs e es x t f d ds pl (changes_fresh d2) (typed_is_built d1) (changes_built d2)
  node_built (typed.except_let ρ p t cs e es x u n f ds ts us vs pl le re d1 d2) =
      let a : Ty = pairs_type f (all_levels ds) in
      built.except_let ρ p cs e es x (let_of t a u n) a f ds (let_numbers u n ρ x t a ds pl d2) pl (typed_is_built d1)
      (changes_built d2)
  node_built (typed.cases ρ p t other es xs ks ts us h d) = built.cases ρ p other es xs t ks h (each_built d)
  node_built (typed.as_value m ρ p t o es xs k ts us e d) = built.as_value m ρ p o es xs k e (node_built d)
  node_built (typed.conjunction m ρ p t es xs ks ts us d) = built.conjunction m ρ p es xs ty.Bool ks (each_built d)
  node_built (typed.disjunction m ρ p t es xs ks ts us d) = built.disjunction m ρ p es xs ty.Bool ks (each_built d)
  node_built (typed.choice m ρ p t es xs ks bs ns ts us vs f l d1 d2) =
      built.choice m ρ p es xs ty.Bool ks bs ns f (each_built d1) (each_built d2)
  node_built (typed.branches m ρ p t c es xs g k l ts us vs me d1 d2) =
      built.branches m ρ p c es xs ty.Bool ty.Bool g k l me (typed_is_built d1) (each_built d2)
  node_built (typed.split_cases m ρ p t other es xs ys o ts us me d) =
      built.split_cases m ρ p other es xs ty.Bool ys o me (arms_built d)

pub built_beside : (i : Option Assignable) (ρ : Numbering) (e : Expr) (ts : List Ty) (k : Ker) (us : List Ty) →
    IsBuiltBeside i ρ e ts k us
built_beside i ρ e ts k us d = typed_is_built d
