-- A module's parts never end in a form, and a form's parts never begin as a module.
use Rattle.std.proofs.Common.{Bool, true, false, refl, ◌≡◌}
use Rattle.tla_parser.proofs.Laws.{moves_stay, stays_at, stays_in}
use Rattle.tla_parser.specs.declared.moves.Class.{Class}
use Rattle.tla_parser.specs.declared.moves.Mark.TheVariants.{Finished}
use Rattle.tla_parser.specs.declared.moves.Next.{Next}
use Rattle.tla_parser.specs.declared.moves.Next.TheVariants.{Fail, Last, Reads, Shut, Wants}
use Rattle.tla_parser.specs.Written.{Parts, class, exp, from, of_module, start, tok, top}
use Rattle.tla_parser.specs.inner.Derivations.{ahead, delta, given, is_last, is_shut, point, resumed}
use Rattle.tla_parser.specs.inner.Moves.{in_units}

resumed_stays : (b : Bool) (n : Next) → stays_in b n ≡ true → stays_at b (resumed n) ≡ true
resumed_stays true (Reads m) h = h
resumed_stays true (Wants m) h = h
resumed_stays true (Last m) h = refl
resumed_stays true (Shut f) h = refl
resumed_stays true Fail h = refl
resumed_stays false (Reads m) h = h
resumed_stays false (Wants m) h = h
resumed_stays false (Last m) h = refl
resumed_stays false (Shut f) h = refl
resumed_stays false Fail h = refl

given_stays : (b : Bool) (n : Next) (c : Class) → stays_in b n ≡ true → stays_at b (given n c) ≡ true
given_stays true (Reads m) c h = refl
given_stays true (Wants m) c h = h
given_stays true (Last m) c h = cc
given_stays true (Shut f) c h = refl
given_stays true Fail c h = refl
given_stays false (Reads m) c h = refl
given_stays false (Wants m) c h = h
given_stays false (Last m) c h = h
given_stays false (Shut f) c h = refl
given_stays false Fail c h = refl

fails : (b : Bool) → stays_in b Fail ≡ true
fails true = refl
fails false = refl

mutual
  unfolding in_units

  pub point_stays : (ps : Parts) → stays_at (of_module ps) (point ps) ≡ true
  point_stays start = refl
  point_stays top = refl
  point_stays (from w) = refl
  point_stays (tok ps t) = resumed_stays (of_module ps) (delta (point ps) t) (moves_stay (of_module ps) (point ps) t (point_stays ps))
  point_stays (exp ps w) = given_stays (of_module ps) (ahead ps) (class w) (ahead_stays ps)

  pub ahead_stays : (ps : Parts) → stays_in (of_module ps) (ahead ps) ≡ true
  ahead_stays start = refl
  ahead_stays top = refl
  ahead_stays (from w) = refl
  ahead_stays (tok ps t) = moves_stay (of_module ps) (point ps) t (point_stays ps)
  ahead_stays (exp ps w) = fails (of_module ps)

shuts_it : (b : Bool) (n : Next) → stays_in b n ≡ true → is_shut n ≡ true → b ≡ false
shuts_it true (Shut f) h k = cc
shuts_it true (Reads m) h k = cc
shuts_it true (Wants m) h k = cc
shuts_it true (Last m) h k = cc
shuts_it true Fail h k = cc
shuts_it false n h k = refl

lasts_it : (b : Bool) (n : Next) → stays_in b n ≡ true → is_last n ≡ true → b ≡ false
lasts_it true (Last f) h k = cc
lasts_it true (Reads m) h k = cc
lasts_it true (Wants m) h k = cc
lasts_it true (Shut m) h k = cc
lasts_it true Fail h k = cc
lasts_it false n h k = refl

-- parts that make an expression are no module's
pub shut_parts : (ps : Parts) → is_shut (ahead ps) ≡ true → of_module ps ≡ false
shut_parts ps h = shuts_it (of_module ps) (ahead ps) (ahead_stays ps) h

pub last_parts : (ps : Parts) → is_last (ahead ps) ≡ true → of_module ps ≡ false
last_parts ps h = lasts_it (of_module ps) (ahead ps) (ahead_stays ps) h

finished_form : (b : Bool) → stays_in b (Reads Finished) ≡ true → b ≡ true
unfolding in_units
finished_form true h = refl
finished_form false h = cc

-- parts behind a module's end are a module's
pub finished_parts : (ps : Parts) → ahead ps ≡ Reads Finished → of_module ps ≡ true
finished_parts ps h = finished_form (of_module ps) (rw h at (ahead_stays ps))
