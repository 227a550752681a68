-- Literals of two and of three parts, and branches that are known only where two literals are true.
use Rattle.std.proofs.Common.{◌≡◌, ◌↔◌, ℕ, Bool, true, false, refl, if◌then◌else◌, ◌&&◌}
use Rattle.level_laws.specs.Constraints.{Assignment, Constraint, Extended, Reads, under}
use Rattle.level_laws.specs.Branches.{Branch, BranchReading, Ending, Held, MetWrong, MetBig, Transition}
use Rattle.level_laws.specs.Chains.{then_literals}

-- ---- truth values

pub and_true : (b c : Bool) → b ≡ true → c ≡ true → (b && c) ≡ true
and_true true c p q = q
and_true false c p q = p

pub and_first : (b c : Bool) → (b && c) ≡ true → b ≡ true
and_first true c e = refl
and_first false c e = e

pub and_second : (b c : Bool) → (b && c) ≡ true → c ≡ true
and_second true c e = e
and_second false true e = refl
and_second false false e = e

-- ---- three parts

held_again : (a b c : Bool) →
    (if (if a then b else false) then c else false) ≡ (if a then (if b then c else false) else false)
held_again true b c = refl
held_again false b c = refl

fault_again : (f h g i j : Bool) →
    (if (if f then true else (if h then g else false)) then true else (if (if h then i else false) then j else false))
    ≡ (if f then true else (if h then (if g then true else (if i then j else false)) else false))
fault_again true h g i j = refl
fault_again false true g i j = refl
fault_again false false g i j = refl

pub then_again : (l m n : Ending → Bool) (k : Ending) →
    then_literals (λ j. then_literals l m j) n k ≡ then_literals l (λ j. then_literals m n j) k
then_again l m n Held = held_again (l Held) (m Held) (n Held)
then_again l m n MetWrong = fault_again (l MetWrong) (l Held) (m MetWrong) (m Held) (n MetWrong)
then_again l m n MetBig = fault_again (l MetBig) (l Held) (m MetBig) (m Held) (n MetBig)

pub then_same : (l m n o : Ending → Bool) (k : Ending) → ((j : Ending) → l j ≡ m j) → ((j : Ending) → n j ≡ o j) →
    then_literals l n k ≡ then_literals m o k
then_same l m n o Held p q = rw (p Held, q Held) refl
then_same l m n o MetWrong p q = rw (p MetWrong, p Held, q MetWrong) refl
then_same l m n o MetBig p q = rw (p MetBig, p Held, q MetBig) refl

pub then_reads : (n : ℕ) (l m : Ending → Assignment → Bool) (k : Ending) → ((j : Ending) → Reads n (l j)) →
    ((j : Ending) → Reads n (m j)) →
    Reads n (λ a. then_literals (λ j. l j a) (λ j. m j a) k)
then_reads n l m k p q a b ag =
    then_same (λ j. l j a) (λ j. l j b) (λ j. m j a) (λ j. m j b) k (λ j. p j a b ag) (λ j. q j a b ag)

-- ---- known where two literals are true

-- a literal that is true exactly where both are
pub branch_twice : {E S : Type 0} (f g : Constraint) (p q r : Assignment → Bool) (now : Assignment → E)
    (P : Transition E S) (x : BranchReading S) →
    ((a : Assignment) → f.Sat a → (r a ≡ true) ↔ ((p a ≡ true) × (q a ≡ true))) →
    ((a : Assignment) → g.Sat a → (r a ≡ true) ↔ ((p a ≡ true) × (q a ≡ true))) →
    Branch (under f r) (under g r) now P x → Branch (under (under f p) q) (under (under g p) q) now P x
branch_twice f g p q r now P x at_f at_g b = record {
  grown = record {
    vars = b.grown.vars;
    stays = λ a s. (((b.grown.stays a (to g at_g a s)).0, s.0.1), s.1);
    extends = λ a s. on a (λ c. Unit {0}) (b.grown.extends a (to f at_f a s));
  };
  ends_read = b.ends_read;
  next_reads = b.next_reads;
  sound = λ k a s e. b.sound k a (to g at_g a s) e;
  reach = λ a t s m. on a (λ c. (x.ends Held c ≡ true) × (x.next c ≡ t)) (b.reach a t (to f at_f a s) m);
  find = λ k a t s m. on a (λ c. x.ends k c ≡ true) (b.find k a t (to f at_f a s) m);
}
  where
    to : (h : Constraint) → ((a : Assignment) → h.Sat a → (r a ≡ true) ↔ ((p a ≡ true) × (q a ≡ true))) →
        (a : Assignment) → (under (under h p) q).Sat a → (under h r).Sat a
    to h at a s = (s.0.0, (at a s.0.0).1 (s.0.1, s.1))

    on : (a : Assignment) (Q : Assignment → Type 0) → Extended (under f r) (under g r) a Q →
        Extended (under (under f p) q) (under (under g p) q) a Q
    on a Q u =
        let z = (at_g u.to u.satisfies.0).0 u.satisfies.1 in
        record { to = u.to; agrees = u.agrees; satisfies = ((u.satisfies.0, z.0), z.1); so = u.so }
