-- Types that made nodes need so that the table of shapes reads of them what it reads of the job's nodes: whether a tuple
-- is a sequence, and of what a domain is. Everything else of a type is free.
use Rattle.std.specs.Prelude.{◌≡◌, ℕ, zero, suc, List, [], ◌∷◌, take, drop, length, Option}
use Rattle.tla_meaning.specs.declared.actions.Assignable.{Assignable}
use Rattle.tla_meaning.specs.declared.expr.Expr.{Expr}
use Rattle.tla_meaning.specs.declared.op.Op.{Op}
use Rattle.tla_meaning.specs.declared.place.Place.{Place}
use Rattle.snowcat_rows.specs.declared.types.Ty.{Ty}
use Rattle.kernel_trees.specs.declared.kernel.Ker.{Ker}
use Rattle.kernel_trees.specs.declared.kernel.KerOp.{KerOp}
use Rattle.kernel_trees.specs.declared.kernel.KerOp.TheVariants as ker
use Rattle.kernel_trees.specs.TypeKinds.{Kind, kind_of}
use Rattle.kernel_shapes.specs.Kernel.{kind_or_truth, kinds_in}
use Rattle.kernel_shapes.specs.Rows.{a_sequence, a_tuple}
use Rattle.kernel_shapes.specs.Trees.{domain_row, first_kind, tuple_row}
use Rattle.kernel_reduction.specs.JobPaths.{nodes}
use Rattle.kernel_reduction.specs.Reduction.{Numbering}
use Rattle.kernel_reduction.specs.Rows.{Let, Level, Change, all_levels}
use Rattle.kernel_reduction.specs.Builds as rows
use Rattle.kernel_reduction.specs.Builds.{Builds, BuildsEach, BuildsArms, BuildsPath, BuildsChanges, BuildsNode}

-- a type without a kind stands in no sound tree
abbrev pub the_kind : Ty → Kind
the_kind a = kind_or_truth (kind_of a)

abbrev pub IsSequenceType : Ty → Type 0
IsSequenceType a = tuple_row (the_kind a) ≡ a_sequence

abbrev pub IsTupleType : Ty → Type 0
IsTupleType a = tuple_row (the_kind a) ≡ a_tuple

-- a LET is a fold over a sequence of one item
pub record LetTypes (l : Let) : Type 0 where
  pub wholes : IsSequenceType l.wholes
  pub items : IsSequenceType l.items

-- pairs of an operand and the indexes behind it
abbrev pub PairTypes : Ty → List Level → Type 0
PairTypes t [] = Unit {0}
PairTypes t (l ∷ ls) = IsTupleType t × PairTypes l.rest ls

-- the types behind those of the first n trees
abbrev pub behind : ℕ → List Expr → List Kind → List Kind
behind zero es ks = ks
behind (suc n) [] ks = ks
behind (suc n) (e ∷ es) ks = behind n es (drop (nodes e) ks)

abbrev pub first_of : List Ker → List Kind → Type 0
first_of [] ks = Unit {0}
first_of (k ∷ kers) ks = domain_row (first_kind ks) ≡ domain_row (first_kind (kinds_in k))

-- of a node whose operator stays: `ks` are the types of the job's node and of those below it
abbrev pub SameTable : KerOp → Ty → List Ker → List Kind → Type 0
SameTable ker.TupOf a kers ks = tuple_row (first_kind ks) ≡ tuple_row (the_kind a)
SameTable ker.SeqOf a kers ks = tuple_row (first_kind ks) ≡ tuple_row (the_kind a)
SameTable ker.Domain a kers ks = first_of kers (drop 1 ks)
SameTable ko a kers ks = Unit {0}

-- of a tree that is built, where the job's nodes have these types in preorder
abbrev mutual
  pub Fitting : {i : Option Assignable} {ρ : Numbering} {e : Expr} {k : Ker} → Builds i ρ e k → List Kind → Type 0
  Fitting (rows.at_node i ρ e k b) ks = FittingNode b ks

  pub FittingEach : {i : Option Assignable} {ρ : Numbering} {es : List Expr} {kers : List Ker} →
      BuildsEach i ρ es kers → List Kind → Type 0
  FittingEach (rows.none_left i ρ) ks = Unit {0}
  FittingEach (rows.one_more i ρ e k es kers b bs) ks =
      Fitting b (take (nodes e) ks) × FittingEach bs (drop (nodes e) ks)

  pub FittingPath : {ρ : Numbering} {x : List ℕ} {n : ℕ} {es : List Expr} {ls : List Level} {k : Ker} →
      BuildsPath ρ x n es ls k → List Kind → Type 0
  FittingPath (rows.last_level ρ x e f l k b c) ks =
      Fitting b (take (nodes e) ks) × Fitting c (take (nodes f) (drop (nodes e) ks))
  FittingPath (rows.one_level ρ x n e es l m ls k b c) ks =
      Fitting b (take (nodes e) ks) × FittingPath c (drop (nodes e) ks)

  pub FittingChanges : {ρ : Numbering} {x : List ℕ} {ns : List ℕ} {es : List Expr} {us : List Change} →
      BuildsChanges ρ x ns es us → List Kind → Type 0
  FittingChanges (rows.no_changes ρ x) ks = Unit {0}
  FittingChanges (rows.one_change ρ x n ns es u us b c) ks =
      FittingPath b ks × FittingChanges c (behind (suc n) es ks)

  pub FittingNode : {i : Option Assignable} {ρ : Numbering} {p : Place} {o : Op} {es : List Expr} {xs : List (List ℕ)}
      {k : Ker} → BuildsNode i ρ p o es xs k → List Kind → Type 0
  FittingNode (rows.boolean ρ p b xs a) ks = Unit {0}
  FittingNode (rows.integer ρ p i xs a) ks = Unit {0}
  FittingNode (rows.text ρ p s xs a) ks = Unit {0}
  FittingNode (rows.declared ρ p i primed es xs a) ks = Unit {0}
  FittingNode (rows.bound_name ρ p x n xs a f) ks = Unit {0}
  FittingNode (rows.same ρ p o ko es xs a kers f g b) ks = SameTable ko a kers ks × FittingEach b (drop 1 ks)
  FittingNode (rows.range ρ p es xs a k l b) ks = FittingEach b (drop 1 ks)
  FittingNode (rows.binder ρ p o ko es xs a kers bs ns f g h b c) ks =
      FittingEach b (drop 1 ks) × FittingEach c (behind (length xs) es (drop 1 ks))
  FittingNode (rows.fold ρ p es xs a bs kers ns h b c) ks =
      FittingEach b (drop 1 ks) × FittingEach c (behind 1 es (drop 1 ks))
  FittingNode (rows.noted i ρ p x es xs k b) ks = FittingEach b (drop 1 ks)
  FittingNode (rows.assign ρ p es xs a kers b) ks = FittingEach b (drop 1 ks)
  FittingNode (rows.implies ρ p es xs a k l b) ks = FittingEach b (drop 1 ks)
  FittingNode (rows.unequal ρ p es xs a kers b) ks = FittingEach b (drop 1 ks)
  FittingNode (rows.no_member ρ p es xs a kers b) ks = FittingEach b (drop 1 ks)
  FittingNode (rows.greater ρ p es xs a k l b) ks = FittingEach b (drop 1 ks)
  FittingNode (rows.at_most ρ p es xs a k l b) ks = FittingEach b (drop 1 ks)
  FittingNode (rows.at_least ρ p es xs a kers b) ks = FittingEach b (drop 1 ks)
  FittingNode (rows.negative ρ p es xs a kers b) ks = FittingEach b (drop 1 ks)
  FittingNode (rows.finite ρ p es xs a k n b) ks = FittingEach b (drop 1 ks)
  FittingNode (rows.truth_values ρ p xs a b) ks = Unit {0}
  FittingNode (rows.equivalent ρ p es xs l t k m f b) ks = LetTypes l × (IsTupleType t × FittingEach b (drop 1 ks))
  FittingNode (rows.one_pair ρ p es xs l t s z k m f g b) ks =
      LetTypes l × (IsTupleType t × FittingEach b (drop 1 ks))
  FittingNode (rows.power ρ p es xs l c k m n f g h b) ks = LetTypes l × FittingEach b (drop 1 ks)
  FittingNode (rows.high_power ρ p es xs l t c k m n f g h b) ks =
      LetTypes l × (IsTupleType t × FittingEach b (drop 1 ks))
  FittingNode (rows.field ρ p es xs a k m x f b) ks = FittingEach b (drop 1 ks)
  FittingNode (rows.low_item ρ p es xs a k m n f g b) ks = FittingEach b (drop 1 ks)
  FittingNode (rows.high_item ρ p es xs l t k m n f g h b) ks =
      LetTypes l × (IsTupleType t × FittingEach b (drop 1 ks))
  FittingNode (rows.except ρ p cs e es x a f u us g h b c) ks =
      Fitting b (take (nodes e) (drop 1 ks)) × FittingChanges c (drop (nodes e) (drop 1 ks))
  FittingNode (rows.except_let ρ p cs e es x l t f us g h b c) ks =
      LetTypes l × (PairTypes t (all_levels us)
      × (Fitting b (take (nodes e) (drop 1 ks)) × FittingChanges c (drop (nodes e) (drop 1 ks))))
  FittingNode (rows.cases ρ p other es xs a kers f b) ks = FittingEach b (drop 1 ks)
  FittingNode (rows.as_value m ρ p o es xs k f b) ks = FittingNode b ks
  FittingNode (rows.conjunction m ρ p es xs a kers b) ks = FittingEach b (drop 1 ks)
  FittingNode (rows.disjunction m ρ p es xs a kers b) ks = FittingEach b (drop 1 ks)
  FittingNode (rows.choice m ρ p es xs a kers bs ns h b c) ks =
      FittingEach b (drop 1 ks) × FittingEach c (behind (length xs) es (drop 1 ks))
  FittingNode (rows.branches m ρ p c es xs a d g k l f b e) ks =
      Fitting b (take (nodes c) (drop 1 ks)) × FittingEach e (drop (nodes c) (drop 1 ks))
  FittingNode (rows.split_cases m ρ p other es xs a ys o f b) ks = FittingArms b (drop 1 ks)

  pub FittingArms : {m : Assignable} {ρ : Numbering} {es : List Expr} {ys : List (Ker × Ker)} {o : Option Ker} →
      BuildsArms m ρ es ys o → List Kind → Type 0
  FittingArms (rows.no_arms m ρ) ks = Unit {0}
  FittingArms (rows.other_arm m ρ e k b) ks = Fitting b (take (nodes e) ks)
  FittingArms (rows.one_arm m ρ c e g k es xs o a b d) ks =
      Fitting a (take (nodes c) ks)
      × (Fitting b (take (nodes e) (drop (nodes c) ks)) × FittingArms d (drop (nodes e) (drop (nodes c) ks)))
