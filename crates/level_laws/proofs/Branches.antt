-- Branches over formulas that grow, and several merged.
use Rattle.std.proofs.Common.{◌≡◌, inl, inr, Bool, true, false, refl, sym, ◌∙◌, ap, subst}
use Rattle.level_laws.specs.Constraints.{Assignment, Constraint, Agree, Extended, Grown, IsFreeBit, IsTrueWhere, Reads, under}
use Rattle.level_laws.specs.Branches.{Ending, Held, Transition, BranchReading, Branch, IsMerged, never, either}
use Rattle.level_laws.proofs.Bits.{if_true, if_false}
use Rattle.level_laws.proofs.Growing.{agree_more, extended_more, extended_under, grown_refl, grown_trans, grown_under, reads_back, reads_more}

-- ---- growth

-- a branch stays one when the formula grows
pub branch_later : {E S : Type 0} (f g h : Constraint) (now : Assignment → E) (P : Transition E S) (x : BranchReading S) →
    Branch f g now P x → Grown g h → Branch f h now P x
branch_later f g h now P x b gr = record {
  grown = grown_trans f g h b.grown gr;
  ends_read = λ k. reads_more g.vars h.vars (x.ends k) gr.vars (b.ends_read k);
  next_reads = reads_more g.vars h.vars x.next gr.vars b.next_reads;
  sound = λ k a s e. b.sound k a (gr.stays a s) e;
  reach = λ a t s p.
      extended_more f g h a (λ c. (x.ends Held c ≡ true) × (x.next c ≡ t)) (λ c. (x.ends Held c ≡ true) × (x.next c ≡ t)) b.grown.vars gr (b.reach a t s p)
      (λ c d u ag. (reads_back g.vars (x.ends Held) true c d (b.ends_read Held) ag u.0, reads_back g.vars x.next t c d b.next_reads ag u.1));
  find = λ k a t s p.
      extended_more f g h a (λ c. x.ends k c ≡ true) (λ c. x.ends k c ≡ true) b.grown.vars gr (b.find k a t s p)
      (λ c d u ag. reads_back g.vars (x.ends k) true c d (b.ends_read k) ag u);
}

-- a branch over a formula is one over each formula before it whose variables `now` reads
pub branch_before : {E S : Type 0} (f g h : Constraint) (now : Assignment → E) (P : Transition E S) (x : BranchReading S) →
    Reads f.vars now → Grown f g → Branch g h now P x → Branch f h now P x
branch_before {E = E} {S = S} f g h now P x reads gr b = record {
  grown = grown_trans f g h gr b.grown;
  ends_read = b.ends_read;
  next_reads = b.next_reads;
  sound = b.sound;
  reach = λ a t s p. on a s (λ c. (x.ends Held c ≡ true) × (x.next c ≡ t)) (λ c sc e. b.reach c t sc (subst (λ (z : E). P Held z t) e p));
  find = λ k a t s p. on a s (λ c. x.ends k c ≡ true) (λ c sc e. b.find k c t sc (subst (λ (z : E). P k z t) e p));
}
  where
    on : (a : Assignment) → f.Sat a → (Q : Assignment → Type 0) → ((c : Assignment) → g.Sat c → now a ≡ now c → Extended g h c Q) → Extended f h a Q
    on a s Q go =
        let u = gr.extends a s in
        let v = go u.to u.satisfies (reads a u.to u.agrees) in
        record { to = v.to; agrees = agree_more f.vars g.vars a u.to v.to gr.vars u.agrees v.agrees; satisfies = v.satisfies; so = v.so }

-- a branch that is known everywhere is known where a literal is true
pub branch_under : {E S : Type 0} (f g : Constraint) (on : Assignment → Bool) (now : Assignment → E) (P : Transition E S) (x : BranchReading S) →
    Reads f.vars on → Branch f g now P x → Branch (under f on) (under g on) now P x
branch_under f g on now P x reads b = record {
  grown = grown_under f g on reads b.grown;
  ends_read = b.ends_read;
  next_reads = b.next_reads;
  sound = λ k a s e. b.sound k a s.0 e;
  reach = λ a t s p. extended_under f g on reads a (λ c. (x.ends Held c ≡ true) × (x.next c ≡ t)) s.1 (b.reach a t s.0 p);
  find = λ k a t s p. extended_under f g on reads a (λ c. x.ends k c ≡ true) s.1 (b.find k a t s.0 p);
}

-- the transition may be said otherwise
pub branch_same : {E S : Type 0} (f g : Constraint) (now : Assignment → E) (P Q : Transition E S) (x : BranchReading S) →
    ((k : Ending) (e : E) (t : S) → P k e t → Q k e t) → ((k : Ending) (e : E) (t : S) → Q k e t → P k e t) →
    Branch f g now P x → Branch f g now Q x
branch_same f g now P Q x to from b = record {
  grown = b.grown;
  ends_read = b.ends_read;
  next_reads = b.next_reads;
  sound = λ k a s e. to k (now a) (x.next a) (b.sound k a s e);
  reach = λ a t s q. b.reach a t s (from Held (now a) t q);
  find = λ k a t s q. b.find k a t s (from k (now a) t q);
}

-- a part of the next state
pub branch_onto : {E S T : Type 0} (f g : Constraint) (now : Assignment → E) (P : Transition E S) (Q : Transition E T) (x : BranchReading S) (part : S → T) →
    ((k : Ending) (e : E) (s : S) → P k e s → Q k e (part s)) → ((k : Ending) (e : E) (t : T) → Q k e t → (s : S) × (P k e s × (part s ≡ t))) →
    Branch f g now P x → Branch f g now Q (record { ends = x.ends; next = λ a. part (x.next a) })
branch_onto f g now P Q x part to from b = record {
  grown = b.grown;
  ends_read = b.ends_read;
  next_reads = λ a c ag. ap part (b.next_reads a c ag);
  sound = λ k a s e. to k (now a) (x.next a) (b.sound k a s e);
  reach = λ a t s q.
      let z = from Held (now a) t q in
      let u = b.reach a z.0 s z.1.0 in
      record { to = u.to; agrees = u.agrees; satisfies = u.satisfies; so = (u.so.0, ap part u.so.1 ∙ z.1.1) };
  find = λ k a t s q. let z = from k (now a) t q in b.find k a z.0 s z.1.0;
}

-- ---- a part that changes nothing

-- literals that are exact: an expression that is taken as a whole
abbrev pub stays : {E : Type 0} → (Ending → E → Type 0) → Transition E E
stays M k e t = (t ≡ e) × M k e

pub branch_still : {E : Type 0} (f g : Constraint) (now : Assignment → E) (M : Ending → E → Type 0) (ends : Ending → Assignment → Bool) →
    Reads f.vars now → Grown f g → ((k : Ending) → IsTrueWhere g (ends k) (λ a. M k (now a))) → Branch f g now (stays M) (record { ends = ends; next = now })
branch_still {E = E} f g now M ends reads gr exact = record {
  grown = gr;
  ends_read = λ k. (exact k).reads;
  next_reads = reads_more f.vars g.vars now gr.vars reads;
  sound = λ k a s e. (refl, ((exact k).exact a s).0 e);
  reach = λ a t s p.
      let u = gr.extends a s in
      let e : now a ≡ now u.to = reads a u.to u.agrees in
      record {
        to = u.to;
        agrees = u.agrees;
        satisfies = u.satisfies;
        so = (((exact Held).exact u.to u.satisfies).1 (subst (M Held) e p.1), sym e ∙ sym p.0);
      };
  find = λ k a t s p.
      let u = gr.extends a s in
      record {
        to = u.to;
        agrees = u.agrees;
        satisfies = u.satisfies;
        so = ((exact k).exact u.to u.satisfies).1 (subst (M k) (reads a u.to u.agrees) p.1);
      };
}

-- ---- several paths

-- of no path: literals that are nowhere true, and any next state
pub branch_never : {E S : Type 0} (f : Constraint) (now : Assignment → E) (x : BranchReading S) →
    ((k : Ending) → Reads f.vars (x.ends k)) → Reads f.vars x.next → ((k : Ending) (a : Assignment) → f.Sat a → x.ends k a ≡ true → ⊥) →
    Branch f f now (never E S) x
branch_never f now x l n none = record {
  grown = grown_refl f;
  ends_read = l;
  next_reads = n;
  sound = λ k a s e. none k a s e;
  reach = λ a t s p. absurd p;
  find = λ k a t s p. absurd p;
}

-- two branches over one formula, merged by a free bit
pub branch_either : {E S : Type 0} (f g h i : Constraint) (now : Assignment → E) (P Q : Transition E S) (x y r : BranchReading S) (free : Assignment → Bool) →
    Branch f g now P x → Branch f g now Q y → IsFreeBit g h free → Grown h i → IsMerged i free x y r →
    Branch f i now (either P Q) r
branch_either {E = E} {S = S} f g h i now P Q x y r free p q fr gr merged = record {
  grown = grown_trans f g i p.grown up;
  ends_read = λ k. (merged.ends k).reads;
  next_reads = merged.next.reads;
  sound = λ k a s e. sound_at k a s e (free a) refl;
  reach = reach_at;
  find = find_at;
}
  where
    up : Grown g i
    up = grown_trans g h i fr.grown gr

    sound_at : (k : Ending) (a : Assignment) → i.Sat a → r.ends k a ≡ true → (v : Bool) → free a ≡ v → either P Q k (now a) (r.next a)
    sound_at k a s e true b =
        let next : r.next a ≡ x.next a = merged.next.is a s ∙ if_true (free a) (x.next a) (y.next a) b in
        let end : x.ends k a ≡ true = sym ((merged.ends k).is a s ∙ if_true (free a) (x.ends k a) (y.ends k a) b) ∙ e in
        inl (subst (P k (now a)) (sym next) (p.sound k a (up.stays a s) end))
    sound_at k a s e false b =
        let next : r.next a ≡ y.next a = merged.next.is a s ∙ if_false (free a) (x.next a) (y.next a) b in
        let end : y.ends k a ≡ true = sym ((merged.ends k).is a s ∙ if_false (free a) (x.ends k a) (y.ends k a) b) ∙ e in
        inr (subst (Q k (now a)) (sym next) (q.sound k a (up.stays a s) end))

    -- an extension goes on with either value of the bit
    pick : (a : Assignment) (A B : Assignment → Type 0) (v : Bool) → Extended f g a A →
        ((b c : Assignment) → A b → Agree g.vars b c → i.Sat c → free c ≡ v → B c) → Extended f i a B
    pick a A B v u keep =
        let w = fr.either u.to u.satisfies v in
        let z = gr.extends w.to w.satisfies in
        let ag : Agree g.vars u.to z.to = agree_more g.vars h.vars u.to w.to z.to fr.grown.vars w.agrees z.agrees in
        record {
          to = z.to;
          agrees = agree_more f.vars g.vars a u.to z.to p.grown.vars u.agrees ag;
          satisfies = z.satisfies;
          so = keep u.to z.to u.so ag z.satisfies (reads_back h.vars free v w.to z.to fr.reads z.agrees w.so);
        }

    left_end : (k : Ending) (b c : Assignment) → x.ends k b ≡ true → Agree g.vars b c → i.Sat c → free c ≡ true → r.ends k c ≡ true
    left_end k b c e ag s o =
        (merged.ends k).is c s ∙ (if_true (free c) (x.ends k c) (y.ends k c) o ∙ reads_back g.vars (x.ends k) true b c (p.ends_read k) ag e)

    right_end : (k : Ending) (b c : Assignment) → y.ends k b ≡ true → Agree g.vars b c → i.Sat c → free c ≡ false → r.ends k c ≡ true
    right_end k b c e ag s o =
        (merged.ends k).is c s ∙ (if_false (free c) (x.ends k c) (y.ends k c) o ∙ reads_back g.vars (y.ends k) true b c (q.ends_read k) ag e)

    reach_at : (a : Assignment) (t : S) → f.Sat a → either P Q Held (now a) t → Extended f i a (λ b. (r.ends Held b ≡ true) × (r.next b ≡ t))
    reach_at a t s (inl w) =
        pick a (λ b. (x.ends Held b ≡ true) × (x.next b ≡ t)) (λ b. (r.ends Held b ≡ true) × (r.next b ≡ t)) true (p.reach a t s w)
        (λ b c u ag sc o. (
          left_end Held b c u.0 ag sc o,
          merged.next.is c sc ∙ (if_true (free c) (x.next c) (y.next c) o ∙ reads_back g.vars x.next t b c p.next_reads ag u.1),
        ))
    reach_at a t s (inr w) =
        pick a (λ b. (y.ends Held b ≡ true) × (y.next b ≡ t)) (λ b. (r.ends Held b ≡ true) × (r.next b ≡ t)) false (q.reach a t s w)
        (λ b c u ag sc o. (
          right_end Held b c u.0 ag sc o,
          merged.next.is c sc ∙ (if_false (free c) (x.next c) (y.next c) o ∙ reads_back g.vars y.next t b c q.next_reads ag u.1),
        ))

    find_at : (k : Ending) (a : Assignment) (t : S) → f.Sat a → either P Q k (now a) t → Extended f i a (λ b. r.ends k b ≡ true)
    find_at k a t s (inl w) = pick a (λ b. x.ends k b ≡ true) (λ b. r.ends k b ≡ true) true (p.find k a t s w) (left_end k)
    find_at k a t s (inr w) = pick a (λ b. y.ends k b ≡ true) (λ b. r.ends k b ≡ true) false (q.find k a t s w) (right_end k)

-- one path more: those so far are a branch over f, and the call for the next path begins where they stand
pub branch_more : {E S : Type 0} (f g h i j : Constraint) (now : Assignment → E) (P Q : Transition E S) (x y r : BranchReading S) (free : Assignment → Bool) →
    Reads f.vars now → Branch f g now P x → Branch g h now Q y → IsFreeBit h i free → Grown i j → IsMerged j free x y r →
    Branch f j now (either P Q) r
branch_more f g h i j now P Q x y r free reads p q fr gr merged =
    branch_either f h i j now P Q x y r free (branch_later f g h now P x p q.grown) (branch_before f g h now Q y reads p.grown q) fr gr merged
