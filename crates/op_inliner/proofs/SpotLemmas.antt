-- What a spot becomes, followed to the root of its tree.
use Rattle.std.proofs.Common.{◌≡◌, ◌≤◌, ◌<◌, inl, inr, ℕ, zero, suc, Bool, true, false, IsTrue, List, [], ◌∷◌, get_or, length, map, Option, Some, None, arith, refl, ap, ap₂, ◌∙◌, sym, subst, if◌then◌else◌}
use Rattle.tla_meaning.specs.declared.expr.Expr.{Expr, out-Expr, roll-out-Expr}
use Rattle.tla_meaning.specs.declared.op.Op.{Op}
use Rattle.tla_meaning.specs.declared.op.Op.TheVariants as op
use Rattle.tla_meaning.specs.declared.place.Place.{Place}
use Rattle.tla_meaning.specs.Meaning.{role}
use Rattle.tla_meaning.specs.Scopes.{find_last}
use Rattle.op_inliner.specs.declared.frames.Closure.{Closure}
use Rattle.op_inliner.specs.declared.frames.Frame.{Frame}
use Rattle.op_inliner.specs.declared.parts.PartKind.{PartKind}
use Rattle.op_inliner.specs.declared.spots.Spot.{Spot}
use Rattle.op_inliner.specs.Inlining.{Names, Tree, Writing, called, let_names, level_names, pass_names, tree_at, trees, write, written}
use Rattle.op_inliner.specs.Primes.{Turned, equation, turned, turned_node}
use Rattle.op_inliner.specs.inner.Frames.{Grown, IsFound, Opens, names_at}
use Rattle.op_inliner.specs.inner.Spots.{IsOperand, IsRoot, Leads, Reaches, UnderNotes, Sight, Steps, aside, is_use, seen_under, sight}
use Rattle.op_inliner.proofs.FrameLemmas.{grown_length, grown_more, grown_names, grown_same}
use Rattle.op_inliner.proofs.Inlined.{written-roll}
use Rattle.op_inliner.proofs.Rolls.{turned-roll}

-- ---- what is written of a node

abbrev pub node_written : Place → Op → List Expr → List (List ℕ) → Writing
node_written p o es xs = write (record { place = p; op = o; args = map written es; binds = xs }) (role o (length xs))

pub written_is : (e : Expr) → written e ≡ node_written (out-Expr e).place (out-Expr e).op (out-Expr e).args (out-Expr e).binds
written_is e = ap written (sym (roll-out-Expr e)) ∙ written-roll (out-Expr e)

use_written : (e : Expr) (z : List ℕ) (ns : Names) (l : ℕ) → is_use (out-Expr e).op z →
    written e ns l ≡ called (out-Expr e).place (find_last z ns.named) (trees (map written (out-Expr e).args) ns) l
use_written e z ns l h =
    ap (λ (k : Writing). k ns l) (written_is e)
    ∙ elim h [
      | inl k ↦ ap (λ (o : Op). node_written (out-Expr e).place o (out-Expr e).args (out-Expr e).binds ns l) k
      | inr k ↦ ap (λ (o : Op). node_written (out-Expr e).place o (out-Expr e).args (out-Expr e).binds ns l) k
    ]

let_written : (e : Expr) (ds : List (List ℕ × ℕ)) (ns : Names) (l : ℕ) → (out-Expr e).op ≡ op.Let ds →
    written e ns l ≡ tree_at (out-Expr e).place (length ds) (trees (map written (out-Expr e).args) (let_names ds (out-Expr e).binds (map written (out-Expr e).args) ns)) l
let_written e ds ns l h =
    ap (λ (k : Writing). k ns l) (written_is e)
    ∙ ap (λ (o : Op). node_written (out-Expr e).place o (out-Expr e).args (out-Expr e).binds ns l) h

tree_there : (p : Place) (i : ℕ) (es : List Expr) (e : Expr) (ns : Names) (l : ℕ) → i < length es → e ≡ get_or es i e →
    tree_at p i (trees (map written es) ns) l ≡ written e ns l
tree_there p i [] e ns l h q = absurd (omega (arith, h))
tree_there p zero (f ∷ es) e ns l h q = ap (λ (f : Expr). written f ns l) (sym q)
tree_there p (suc i) (f ∷ es) e ns l h q = tree_there p i es e ns l (omega (arith, h)) q

-- ---- a spot that becomes the same

same_written : (old new : List Frame) (s r : Spot) → written r.e.now (names_at new r.scope) r.level ≡ written s.e.now (names_at old s.scope) s.level → r.primes ≡ s.primes →
    sight new r ≡ sight old s
same_written old new s r w p = λ i part c. seen_under (p i) (turned part c (w i))

pub leads_same : (fs : List Frame) (s : Spot) → s.scope ≤ length fs → Leads fs fs s s
leads_same fs s h = record { reaches = record { grown = grown_same fs; within = h; level = refl }; same = refl }

pub reaches_more : (fs gs hs : List Frame) (s r t : Spot) → Reaches fs gs s r → Reaches gs hs r t → Reaches fs hs s t
reaches_more fs gs hs s r t a b = record { grown = grown_more fs gs hs a.grown b.grown; within = b.within; level = b.level ∙ a.level }

pub leads_more : (fs gs hs : List Frame) (s r t : Spot) → Leads fs gs s r → Leads gs hs r t → Leads fs hs s t
leads_more fs gs hs s r t a b = record { reaches = reaches_more fs gs hs s r t a.reaches b.reaches; same = b.same ∙ a.same }

pub used_leads : (old new : List Frame) (s r : Spot) (z : List ℕ) (c : Closure) (es : List Expr) → is_use (out-Expr s.e.now).op z →
    IsFound old (find_last z (names_at old s.scope).named) c → es ≡ (out-Expr s.e.now).args →
    Opens old new r.scope (pass_names c.params.now (trees (map written es) (names_at old s.scope)) (names_at old c.scope)) →
    r.e.now ≡ c.body.now → r.level ≡ s.level → r.primes ≡ s.primes → Leads old new s r
used_leads old new s r z c es u f a o b l p =
    let ns : Names = names_at old s.scope in
    let ts : List Tree = trees (map written (out-Expr s.e.now).args) ns in
    record {
      reaches = record { grown = o.grown; within = o.within; level = l };
      same = same_written old new s r
          ((λ i. written (b i) (o.names i) (l i))
          ∙ ap (λ (es : List Expr). written c.body.now (pass_names c.params.now (trees (map written es) ns) (names_at old c.scope)) s.level) a
          ∙ sym (use_written s.e.now z ns s.level u ∙ ap (λ (d : Option (List Tree → Tree)). called (out-Expr s.e.now).place d ts s.level) f.is)) p;
    }

pub let_leads : (old new : List Frame) (s r : Spot) (ds : List (List ℕ × ℕ)) (xs : List (List ℕ)) (es : List Expr) → (out-Expr s.e.now).op ≡ op.Let ds →
    es ≡ (out-Expr s.e.now).args → xs ≡ (out-Expr s.e.now).binds → length ds < length es →
    Opens old new r.scope (let_names ds xs (map written es) (names_at old s.scope)) → r.e.now ≡ get_or es (length ds) r.e.now → r.level ≡ s.level → r.primes ≡ s.primes → Leads old new s r
let_leads old new s r ds xs es h a x w o b l p =
    let ns : Names = names_at old s.scope in record {
      reaches = record { grown = o.grown; within = o.within; level = l };
      same = same_written old new s r
          ((λ i. written r.e.now (o.names i) (l i))
          ∙ sym (tree_there (out-Expr s.e.now).place (length ds) es r.e.now (let_names ds xs (map written es) ns) s.level w b)
          ∙ (λ i. tree_at (out-Expr s.e.now).place (length ds) (trees (map written (a i)) (let_names ds (x i) (map written (a i)) ns)) s.level)
          ∙ sym (let_written s.e.now ds ns s.level h)) p;
    }

-- ---- primes and notes

pub seen_node : (fs : List Frame) (s : Spot) (o : Op) (es : List Expr) → (out-Expr s.e.now).op ≡ o → (out-Expr s.e.now).args ≡ es → (part : PartKind) (c : ℕ → Bool) →
    sight fs s part c ≡ seen_under s.primes (turned part c (node_written (out-Expr s.e.now).place o es (out-Expr s.e.now).binds (names_at fs s.scope) s.level))
seen_node fs s o es h a part c =
    ap (λ (k : Writing). seen_under s.primes (turned part c (k (names_at fs s.scope) s.level)))
    (written_is s.e.now ∙ ap₂ (λ (o : Op) (es : List Expr). node_written (out-Expr s.e.now).place o es (out-Expr s.e.now).binds) h a)

prime_sight : (fs : List Frame) (s r : Spot) (k : Expr) → (out-Expr s.e.now).op ≡ op.Prime → (out-Expr s.e.now).args ≡ k ∷ [] → IsOperand s k r → (part : PartKind) (c : ℕ → Bool) →
    sight fs r part c ≡ sight fs s part c
prime_sight fs s r k h a o part c =
    let ns : Names = names_at fs s.scope in
    (λ i. seen_under (o.primes i) (turned part c (written (o.tree i) (names_at fs (o.scope i)) (o.level i))))
    ∙ sym (seen_node fs s op.Prime (k ∷ []) h a part c
    ∙ ap (seen_under s.primes) (turned-roll part c (record { place = (out-Expr s.e.now).place; op = op.Prime; args = written k ns s.level ∷ []; binds = level_names s.level (out-Expr s.e.now).binds })))

pub prime_leads : (fs : List Frame) (s r : Spot) (k : Expr) (es : List Expr) → (out-Expr s.e.now).op ≡ op.Prime → es ≡ (out-Expr s.e.now).args → es ≡ k ∷ [] → s.scope ≤ length fs →
    IsOperand s k r → Leads fs fs s r
prime_leads fs s r k es h a b w o = record {
  reaches = record { grown = grown_same fs; within = subst (λ n. n ≤ length fs) (sym o.scope) w; level = o.level };
  same = λ i part c. prime_sight fs s r k h (sym a ∙ b) o part c i;
}

-- the node under a note
module _ (fs : List Frame) (s r : Spot) (x : List ℕ) (k : Expr) (op_is : (out-Expr s.e.now).op ≡ op.Noted x) (args_are : (out-Expr s.e.now).args ≡ k ∷ [])
    (tree : r.e.now ≡ k) (scope : r.scope ≡ s.scope) (level : r.level ≡ s.level) (primes : r.primes ≡ s.primes) (part : PartKind) (c : ℕ → Bool) where
  abbrev operand : Turned
  operand = turned part c (written k (names_at fs s.scope) s.level)

  abbrev whole : Turned
  whole = turned_node part c (record { place = (out-Expr s.e.now).place; op = op.Noted x; args = operand ∷ []; binds = level_names s.level (out-Expr s.e.now).binds })

  under_it : sight fs r part c ≡ seen_under s.primes operand
  under_it = λ i. seen_under (primes i) (turned part c (written (tree i) (names_at fs (scope i)) (level i)))

  around_it : sight fs s part c ≡ seen_under s.primes whole
  around_it =
      seen_node fs s (op.Noted x) (k ∷ []) op_is args_are part c
      ∙ ap (seen_under s.primes) (turned-roll part c (record { place = (out-Expr s.e.now).place; op = op.Noted x; args = written k (names_at fs s.scope) s.level ∷ []; binds = level_names s.level (out-Expr s.e.now).binds }))

  noted_tuple : (sight fs r part c).is_tuple ≡ (sight fs s part c).is_tuple
  noted_tuple = ap (λ (v : Sight). v.is_tuple) under_it ∙ sym (ap (λ (v : Sight). v.is_tuple) around_it)

  noted_kept : IsTrue (sight fs s part c).is_tuple → (sight fs r part c).kept ≡ (sight fs s part c).kept
  noted_kept h =
      let t : operand.is_tuple ≡ true = sym (ap (λ (v : Sight). v.is_tuple) around_it) ∙ h in
      ap (λ (v : Sight). v.kept) under_it
      ∙ sym (ap (λ (b : Bool). λ (q : Place). if b then operand.kept q s.primes else equation part c (out-Expr s.e.now).place (op.Noted x) (level_names s.level (out-Expr s.e.now).binds) (operand ∷ []) q s.primes) t)
      ∙ sym (ap (λ (v : Sight). v.kept) around_it)

pub under_same : (fs : List Frame) (s : Spot) → s.scope ≤ length fs → aside s ≡ false → UnderNotes fs fs s s
under_same fs s h a = record {
  reaches = record { grown = grown_same fs; within = h; level = refl };
  stays = a;
  tuple = λ part c. refl;
  kept = λ part c t. refl;
}

pub under_step : (old now new : List Frame) (s r t u : Spot) (x : List ℕ) (k : Expr) (es : List Expr) → UnderNotes old now s r → (out-Expr r.e.now).op ≡ op.Noted x →
    es ≡ (out-Expr r.e.now).args → es ≡ k ∷ [] → t.e.now ≡ k → t.scope ≡ r.scope → t.level ≡ r.level → t.primes ≡ r.primes → IsRoot now new t u → UnderNotes old new s u
under_step old now new s r t u x k es g o a b e sc l p h =
    let args = sym a ∙ b in
    let same = h.leads.same in record {
      reaches = record {
        grown = grown_more old now new g.reaches.grown h.leads.reaches.grown;
        within = h.leads.reaches.within;
        level = h.leads.reaches.level ∙ l ∙ g.reaches.level;
      };
      stays = h.stays;
      tuple = λ part c. (λ i. (same i part c).is_tuple) ∙ noted_tuple now r t x k o args e sc l p part c ∙ g.tuple part c;
      kept = λ part c y. (λ i. (same i part c).kept) ∙ noted_kept now r t x k o args e sc l p part c (g.tuple part c ∙ y) ∙ g.kept part c y;
    }

-- ---- slices of one and of two

pub single_is : {A : Type 0} (es : List A) (k : A) → 1 ≤ length es → length es < 2 → k ≡ get_or es 0 k → es ≡ k ∷ []
single_is [] k h l e = absurd (omega (arith, h))
single_is (x ∷ []) k h l e = ap (λ y. y ∷ []) (sym e)
single_is (x ∷ y ∷ es) k h l e = absurd (omega (arith, l))

pub pair_is : {A : Type 0} (es : List A) (k m : A) → 2 ≤ length es → length es < 3 → k ≡ get_or es 0 k → m ≡ get_or es 1 m → es ≡ k ∷ m ∷ []
pair_is [] k m h l e f = absurd (omega (arith, h))
pair_is (x ∷ []) k m h l e f = absurd (omega (arith, h))
pair_is (x ∷ y ∷ []) k m h l e f = ap₂ (λ u v. u ∷ v ∷ []) (sym e) (sym f)
pair_is (x ∷ y ∷ z ∷ es) k m h l e f = absurd (omega (arith, l))

-- ---- the loop

pub sight_stays : (old new : List Frame) (s : Spot) → Grown old new → s.scope ≤ length old → sight new s ≡ sight old s
sight_stays old new s g h = same_written old new s s (ap (λ ns. written s.e.now ns s.level) (grown_names old new s.scope g h)) refl

pub root_reached : (old now new : List Frame) (s r : Spot) (o : Option Spot) → Leads old now s r → Steps now new r o → o ≡ None → IsRoot old new s r
root_reached old now new s r None l h e =
    let g = h.0 in
    let n = grown_length now new g in
    let w = l.reaches.within in record {
      leads = record {
        reaches = record { grown = grown_more old now new l.reaches.grown g; within = omega (arith, w, n); level = l.reaches.level };
        same = sight_stays now new r g w ∙ l.same;
      };
      stays = h.1;
    }
root_reached old now new s r (Some t) l h e = absurd (cc)
