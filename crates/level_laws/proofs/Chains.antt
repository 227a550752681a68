-- Parts that are encoded one behind the other.
use Rattle.std.proofs.Common.{◌≡◌, ◌⊎◌, inl, inr, Bool, true, false, sym, ◌∙◌, subst, if◌then◌else◌}
use Rattle.level_laws.specs.Constraints.{Assignment, Constraint, Agree, Extended, Grown, HasValue, Reads, under}
use Rattle.level_laws.specs.Branches.{Ending, Held, MetWrong, MetBig, Transition, BranchReading, Branch}
use Rattle.level_laws.specs.Chains.{then_goes, then_literals}
use Rattle.level_laws.proofs.Bits.{both_true, first_true, second_true, some_true, left_true, right_true}
use Rattle.level_laws.proofs.Growing.{agree_more, extended_more, grown_trans, reads_back, reads_more}

module _ {E S T : Type 0} (f g h i : Constraint) (now : Assignment → E) (P : Transition E S) (Q : Transition S T) (Over : S → T → Type 0)
    (x : BranchReading S) (y r : BranchReading T)
    (p : Branch f g now P x) (gh : Grown g h) (q : Branch (under g (x.ends Held)) (under h (x.ends Held)) x.next Q y) (hi : Grown h i)
    (value : (k : Ending) → HasValue i (r.ends k) (λ a. then_literals (λ k. x.ends k a) (λ k. y.ends k a) k))
    (same : (a : Assignment) → r.next a ≡ y.next a)
    (over : (a : Assignment) → i.Sat a → Over (x.next a) (y.next a)) where
  up : Grown g i
  up = grown_trans g h i gh hi

  next_reads : Reads i.vars r.next
  next_reads a b ag = same a ∙ (reads_more h.vars i.vars y.next hi.vars q.next_reads a b ag ∙ sym (same b))

  -- the second part, where the first holds
  abbrev Second : Ending → E → T → Type 0
  Second k e t = (s : S) × (P Held e s × Q k s t)

  second_sound : (k : Ending) (a : Assignment) → i.Sat a → x.ends Held a ≡ true → y.ends k a ≡ true → Second k (now a) (y.next a)
  second_sound k a s o e = (x.next a, (p.sound Held a (up.stays a s) o, q.sound k a (hi.stays a s, o) e))

  -- an extension in which the first part holds and the second ends so
  abbrev Ends : Ending → Assignment → Type 0
  Ends k b = (x.ends Held b ≡ true) × (y.ends k b ≡ true)

  second_goes : (k : Ending) (A B : Assignment → Type 0) (a : Assignment) (t : T) → f.Sat a → (n : Second k (now a) t) →
      ((c : Assignment) → (under g (x.ends Held)).Sat c → Q k (x.next c) t → Extended (under g (x.ends Held)) (under h (x.ends Held)) c (λ d. (y.ends k d ≡ true) × A d)) →
      ((b c : Assignment) → A b → Agree h.vars b c → B c) → Extended f i a (λ b. Ends k b × B b)
  second_goes k A B a t s n go keep =
      let u = p.reach a n.0 s n.1.0 in
      let v = go u.to (u.satisfies, u.so.0) (subst (λ (z : S). Q k z t) (sym u.so.1) n.1.1) in
      let w = hi.extends v.to v.satisfies.0 in
      let ag : Agree g.vars u.to w.to = agree_more g.vars h.vars u.to v.to w.to gh.vars v.agrees w.agrees in
      record {
        to = w.to;
        agrees = agree_more f.vars g.vars a u.to w.to p.grown.vars u.agrees ag;
        satisfies = w.satisfies;
        so = (
          (
            reads_back g.vars (x.ends Held) true u.to w.to (p.ends_read Held) ag u.so.0,
            reads_back h.vars (y.ends k) true v.to w.to (q.ends_read k) w.agrees v.so.0,
          ),
          keep v.to w.to v.so.1 w.agrees,
        );
      }

  second_find : (k : Ending) (a : Assignment) (t : T) → f.Sat a → Second k (now a) t → Extended f i a (Ends k)
  second_find k a t s n =
      let u = second_goes k (λ d. Unit {0}) (λ d. Unit {0}) a t s n
      (λ c sc e. let v = q.find k c t sc e in record { to = v.to; agrees = v.agrees; satisfies = v.satisfies; so = (v.so, tt) })
      (λ b c z ag. tt) in
      record { to = u.to; agrees = u.agrees; satisfies = u.satisfies; so = u.so.0 }

  -- a fault of the one or of the other
  abbrev Faults : Ending → E → T → Type 0
  Faults k e t = ((s : S) × (P k e s × Over s t)) ⊎ Second k e t

  abbrev fault_literal : Ending → Assignment → Bool
  fault_literal k a = if x.ends k a then true else (if x.ends Held a then y.ends k a else false)

  fault_sound : (k : Ending) (a : Assignment) → i.Sat a → fault_literal k a ≡ true → Faults k (now a) (y.next a)
  fault_sound k a s e = by (some_true (x.ends k a) (if x.ends Held a then y.ends k a else false) e)
    where
      by : (x.ends k a ≡ true) ⊎ ((if x.ends Held a then y.ends k a else false) ≡ true) → Faults k (now a) (y.next a)
      by (inl e) = inl (x.next a, (p.sound k a (up.stays a s) e, over a s))
      by (inr e) = inr (second_sound k a s (first_true (x.ends Held a) (y.ends k a) e) (second_true (x.ends Held a) (y.ends k a) e))

  fault_find : (k : Ending) (a : Assignment) (t : T) → f.Sat a → Faults k (now a) t → Extended f i a (λ b. fault_literal k b ≡ true)
  fault_find k a t s (inl n) =
      extended_more f g i a (λ b. x.ends k b ≡ true) (λ b. fault_literal k b ≡ true) p.grown.vars up (p.find k a n.0 s n.1.0)
      (λ b c e ag. left_true (x.ends k c) (if x.ends Held c then y.ends k c else false) (reads_back g.vars (x.ends k) true b c (p.ends_read k) ag e))
  fault_find k a t s (inr n) =
      let u = second_find k a t s n in
      record {
        to = u.to;
        agrees = u.agrees;
        satisfies = u.satisfies;
        so = right_true (x.ends k u.to) (if x.ends Held u.to then y.ends k u.to else false) (both_true (x.ends Held u.to) (y.ends k u.to) u.so.0 u.so.1);
      }

  -- the literals of the two parts as those of one
  pub branch_then : Branch f i now (then_goes P Q Over) r
  branch_then = record {
    grown = grown_trans f g i p.grown up;
    ends_read = λ k. (value k).reads;
    next_reads = next_reads;
    sound = λ k a s e. subst (then_goes P Q Over k (now a)) (sym (same a)) (sound k a s e);
    reach = λ a t s n.
        let u = second_goes Held (λ d. y.next d ≡ t) (λ d. y.next d ≡ t) a t s n (λ c sc e. q.reach c t sc e)
        (λ b c z ag. reads_back h.vars y.next t b c q.next_reads ag z) in
        record {
          to = u.to;
          agrees = u.agrees;
          satisfies = u.satisfies;
          so = (
            (value Held).is u.to u.satisfies ∙ both_true (x.ends Held u.to) (y.ends Held u.to) u.so.0.0 u.so.0.1,
            same u.to ∙ u.so.1,
          );
        };
    find = find;
  }
    where
      sound : (k : Ending) (a : Assignment) → i.Sat a → r.ends k a ≡ true → then_goes P Q Over k (now a) (y.next a)
      sound Held a s e =
          let b = sym ((value Held).is a s) ∙ e in
          second_sound Held a s (first_true (x.ends Held a) (y.ends Held a) b) (second_true (x.ends Held a) (y.ends Held a) b)
      sound MetWrong a s e = fault_sound MetWrong a s (sym ((value MetWrong).is a s) ∙ e)
      sound MetBig a s e = fault_sound MetBig a s (sym ((value MetBig).is a s) ∙ e)

      found : (k : Ending) (a : Assignment) → Extended f i a (λ b. then_literals (λ k. x.ends k b) (λ k. y.ends k b) k ≡ true) → Extended f i a (λ b. r.ends k b ≡ true)
      found k a u = record { to = u.to; agrees = u.agrees; satisfies = u.satisfies; so = (value k).is u.to u.satisfies ∙ u.so }

      find : (k : Ending) (a : Assignment) (t : T) → f.Sat a → then_goes P Q Over k (now a) t → Extended f i a (λ b. r.ends k b ≡ true)
      find Held a t s n =
          let u = second_find Held a t s n in
          found Held a (record {
            to = u.to;
            agrees = u.agrees;
            satisfies = u.satisfies;
            so = both_true (x.ends Held u.to) (y.ends Held u.to) u.so.0 u.so.1;
          })
      find MetWrong a t s n = found MetWrong a (fault_find MetWrong a t s n)
      find MetBig a t s n = found MetBig a (fault_find MetBig a t s n)
