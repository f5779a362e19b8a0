-- Which frames are brought to which, and in how many moves.
use Rattle.std.proofs.Common.{◌≡◌, ℕ, suc, ◌+◌, ◌-◌, ◌*◌, ◌%◌, ◌<◌, ◌≤◌, true, ◌≢◌, refl, ap, ◌∙◌, arith}
use Rattle.std.proofs.lemmas.Nat.{mul-le}
use Rattle.slide.specs.Promise.{apart, exchanged, NotTooMany, SignTells}
use Rattle.slide.specs.Tiles.{Frame, gap, sign, proper}
use Rattle.slide.specs.Calls.{home, Solvable, Unsolvable}
use Rattle.reach.specs.Reached.{most, SevenEach, RoomLeft, AnyToAny, ExchangeMends}
use Rattle.slide.proofs.Proper.{is_proper, own_board}
use Rattle.slide.proofs.Home.{home_gap, home_proper, last_place}
use Rattle.slide.proofs.Back.{way_proper, way_back}
use Rattle.slide.proofs.Sign.{exchanged_proper, exchanged_sign, brings_sign, way_sign, never_by_sign}
use Rattle.slide.proofs.Ways.{Way, then, longer}
use Rattle.reach.proofs.Walks.{apart_lt, walk}
use Rattle.reach.proofs.Fill.{gap_cell}
use Rattle.reach.proofs.Targets.{brought}

-- what a walk of the gap costs at most
walk_cost : (t w a b : ℕ) → a < t → b < w → a + b + 2 ≤ t + w
walk_cost t w a b h k = omega arith

-- into order, with the same sign, in at most 7 times the sides together for each cell
pub seven_each : SevenEach
seven_each f pr s =
    let p = is_proper f pr in
    let r = brought f (home f) pr (home_proper f.wide f.tall p.wide p.tall) refl refl (home_gap f.wide f.tall p.wide p.tall) s in
    (r.ms, (r.can, r.end), r.short)

-- 7 and 5 are 12, and there are four cells at least
room : (w t : ℕ) → 2 ≤ w → 2 ≤ t → most w t + 20 * (w + t) ≤ 12 * (w * t) * (w + t)
room w t w2 t2 = omega (arith, mul-le 20 (w + t) (5 * (w * t)) (w + t) (omega (arith, mul-le 2 2 w t w2 t2)) (omega arith))

-- so the promised bound is kept, with room to spare
pub room_left : RoomLeft
room_left f pr s = let r = seven_each f pr s in let p = is_proper f pr in (r.0, r.1, omega (arith, r.2, room f.wide f.tall p.wide p.tall))

-- the bound that is promised, without the room
pub not_too_many : NotTooMany
not_too_many f pr s = let r = room_left f pr s in (r.0, r.1, omega (arith, r.2))

-- g is brought to a frame with the gap last, that is where f goes, and then the moves of g are made back
between : (f g : Frame) → proper f ≡ true → proper g ≡ true → g.wide ≡ f.wide → g.tall ≡ f.tall → sign f ≡ sign g → Way f (most f.wide f.tall + (g.tall + g.wide)) g
between f g pf pg ew et s =
    let q = is_proper g pg in
    let b = own_board g q.gapped in
    let c = gap_cell g.wide g.tall g b in
    let r = walk g.wide g.tall g.tall 0 (omega (arith, q.wide)) g c.row c.col (g.tall - 1) (g.wide - 1) b q.wide q.tall c.is c.below c.within
    (omega (arith, q.tall)) (omega (arith, q.wide)) (λ e _. omega (arith, c.below)) (λ e _. omega (arith, q.tall)) in
    let last : suc (gap r.to) ≡ r.to.wide * r.to.tall = rw (r.board.wide, r.board.tall) (ap suc r.gap ∙ last_place g.wide g.tall (omega (arith, q.wide)) (omega (arith, q.tall))) in
    let v = brought f r.to pf (way_proper pg r.way) (r.board.wide ∙ ew) (r.board.tall ∙ et) last (s ∙ way_sign pg r.way) in
    let rows = apart_lt g.tall c.row (g.tall - 1) c.below (omega (arith, q.tall)) in
    let cols = apart_lt g.wide c.col (g.wide - 1) c.within (omega (arith, q.wide)) in
    let costs = walk_cost g.tall g.wide (apart c.row (g.tall - 1)) (apart c.col (g.wide - 1)) rows cols in
    then v (longer {g = g} costs (way_back pg r.way))

-- the same, as moves
pub any_to_any : AnyToAny
any_to_any f g pf pg ew et s = let r = between f g pf pg ew et s in (r.ms, (r.can, r.end), omega (arith, r.short, ew, et))

-- moves keep the sign; and with the same sign there is a way
pub sign_tells : SignTells
sign_tells f g pf pg ew et = (λ r. brings_sign f g r.0 pf r.1, λ s. let r = between f g pf pg ew et s in (r.ms, (r.can, r.end)))

-- ---- in order, just if the sign is that of the frame in order
module _ (f : Frame) (pr : proper f ≡ true) where
  home_is_proper : proper (home f) ≡ true
  home_is_proper = let p = is_proper f pr in home_proper f.wide f.tall p.wide p.tall

  -- there are moves where it is, and none where it is not
  pub solvable_by_sign : sign f ≡ sign (home f) → Solvable f
  solvable_by_sign = (sign_tells f (home f) pr home_is_proper refl refl).1

  pub unsolvable_by_sign : sign f ≢ sign (home f) → Unsolvable f
  unsolvable_by_sign = never_by_sign f pr

-- two signs that both differ from a third are the same
other_signs : (a b c : ℕ) → b % 2 ≢ a % 2 → a % 2 ≢ c % 2 → b % 2 ≡ c % 2
other_signs a b c n m = omega arith

-- two tiles exchanged make the sign the other one, and there are only two
pub exchange_mends : ExchangeMends
unfolding exchanged
exchange_mends f i j pr hi hj n ni nj u =
    let o = other_signs _ _ _ (exchanged_sign f i j pr hi hj n ni nj) (λ e. let s = solvable_by_sign f pr e in u s.0 s.1) in
    solvable_by_sign (exchanged f i j) (exchanged_proper f i j pr hi hj n) o
