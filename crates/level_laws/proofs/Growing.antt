-- Growth, and what goes up with it.
use Rattle.std.proofs.Common.{◌≡◌, ℕ, ◌≤◌, Bool, true, refl, sym, ◌∙◌, arith, lt_of_lt_of_le}
use Rattle.level_laws.specs.Constraints.{Assignment, Constraint, Agree, Allowed, Extended, Grown, HasValue, IsFreeBit, Reads, under}

-- ---- agreement

pub agree_less : (m n : ℕ) (a b : Assignment) → m ≤ n → Agree n a b → Agree m a b
agree_less m n a b le p i lt = p i (lt_of_lt_of_le lt le)

pub agree_more : (m n : ℕ) (a b c : Assignment) → m ≤ n → Agree m a b → Agree n b c → Agree m a c
agree_more m n a b c le p q i lt = p i lt ∙ q i (lt_of_lt_of_le lt le)

pub reads_more : {A : Type 0} (m n : ℕ) (f : Assignment → A) → m ≤ n → Reads m f → Reads n f
reads_more m n f le r a b p = r a b (agree_less m n a b le p)

-- what an older term had under one assignment it has under the other
pub reads_back : {A : Type 0} (n : ℕ) (f : Assignment → A) (v : A) (a b : Assignment) → Reads n f → Agree n a b → f a ≡ v → f b ≡ v
reads_back n f v a b r p e = sym (r a b p) ∙ e

-- ---- growth

pub grown_refl : (f : Constraint) → Grown f f
grown_refl f = record {
  vars = omega arith;
  stays = λ a h. h;
  extends = λ a h. record { to = a; agrees = λ i lt. refl; satisfies = h; so = tt };
}

pub grown_trans : (f g h : Constraint) → Grown f g → Grown g h → Grown f h
grown_trans f g h p q = record {
  vars = let x = p.vars in let y = q.vars in omega arith;
  stays = λ a s. p.stays a (q.stays a s);
  extends = λ a s.
      let u = p.extends a s in
      let v = q.extends u.to u.satisfies in
      record { to = v.to; agrees = agree_more f.vars g.vars a u.to v.to p.vars u.agrees v.agrees; satisfies = v.satisfies; so = tt };
}

-- an extension goes on, with what is kept by agreement
pub extended_more : (f g h : Constraint) (a : Assignment) (P Q : Assignment → Type 0) → f.vars ≤ g.vars → Grown g h →
    Extended f g a P → ((b c : Assignment) → P b → Agree g.vars b c → Q c) → Extended f h a Q
extended_more f g h a P Q le gr u keep =
    let v = gr.extends u.to u.satisfies in
    record {
      to = v.to;
      agrees = agree_more f.vars g.vars a u.to v.to le u.agrees v.agrees;
      satisfies = v.satisfies;
      so = keep u.to v.to u.so v.agrees;
    }

pub allowed_more : (f g : Constraint) (P Q : Assignment → Type 0) → Grown f g →
    Allowed f P → ((b c : Assignment) → P b → Agree f.vars b c → Q c) → Allowed g Q
allowed_more f g P Q gr u keep =
    let v = gr.extends u.at u.satisfies in
    record { at = v.to; satisfies = v.satisfies; so = keep u.at v.to u.so v.agrees }

pub value_later : {A : Type 0} (f g : Constraint) (r value : Assignment → A) → HasValue f r value → Grown f g → HasValue g r value
value_later f g r value h gr = record { reads = reads_more f.vars g.vars r gr.vars h.reads; is = λ a s. h.is a (gr.stays a s) }

-- ---- where one literal is true

module _ (f g : Constraint) (on : Assignment → Bool) (reads : Reads f.vars on) where
  -- an extension keeps the literal
  pub extended_under : (a : Assignment) (P : Assignment → Type 0) → on a ≡ true → Extended f g a P → Extended (under f on) (under g on) a P
  extended_under a P o u = record {
    to = u.to;
    agrees = u.agrees;
    satisfies = (u.satisfies, reads_back f.vars on true a u.to reads u.agrees o);
    so = u.so;
  }

  pub grown_under : Grown f g → Grown (under f on) (under g on)
  grown_under gr = record {
    vars = gr.vars;
    stays = λ a s. (gr.stays a s.0, s.1);
    extends = λ a s. extended_under a (λ b. Unit {0}) s.1 (gr.extends a s.0);
  }

  pub free_under : (free : Assignment → Bool) → IsFreeBit f g free → IsFreeBit (under f on) (under g on) free
  free_under free fr = record {
    grown = grown_under fr.grown;
    reads = fr.reads;
    either = λ a s v. extended_under a (λ b. free b ≡ v) s.1 (fr.either a s.0 v);
  }

pub value_under : {A : Type 0} (f : Constraint) (on : Assignment → Bool) (r value : Assignment → A) → HasValue f r value → HasValue (under f on) r value
value_under f on r value h = record { reads = h.reads; is = λ a s. h.is a s.0 }
