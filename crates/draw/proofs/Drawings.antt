-- Drawing where the order is accepted and the plan stands: 11, 12, or the point; and the pen's move by a drawing. Assumes nothing.
use mathlib.Core.Logic.{◌≢◌}
use mathlib.Core.Path.{◌≡◌, refl, ap, ◌∙◌}
use mathlib.Core.List.{List}
use Prim.Native.Nat.{ℕ, ◌+◌, ◌<◌, ◌≤◌, min}
use native.Mathlib.Omega.{arith}
use lib.ListN.{length}
use Rattle.model.specs.Limits.{most_bay, week}
use Rattle.model.specs.Records.{read}
use Rattle.model.specs.Orders.{read_order}
use Rattle.model.specs.Orders as orders
use Rattle.model.specs.Plans.{plan_records, slots_read}
use Rattle.model.specs.Line.{Point, point_at}
use Rattle.model.specs.Answers.{Answer, Drawn, Draws, Judges, Moves, at_end, done, draws, moves, no_such_dose, no_point, refusal, refuses, too_late}
use Rattle.model.proofs.Orders.{read_fits}
use Rattle.order.specs.Held.{ReadFrom, as_order, held_order, held_reading}
use Rattle.order.specs.declared.Order.{Order}
use Rattle.order.proofs.Settles.{as_held}
use Rattle.draw.specs.Drawing.{Drawable, Sound}
use Rattle.draw.proofs.Points.{stands_drawable}
use Rattle.std.proofs.Common.{Result, Ok, Err, is_ok, lit<, true}
use Rattle.model.proofs.Answers.{judged_zero}
use Rattle.draw.specs.Drawing.{as_refusal}
use Rattle.order.specs.declared.refusal.Refusal as of_order
use Rattle.order.specs.declared.refusal.Refusal.TheVariants.{Length, Kind, NotBlank, OutOfRange, NotOneFans, TooManyDoses, Clash, TrialBay}
use Rattle.judge.specs.declared.refusal.Refusal.TheVariants as judge
use Rattle.draw.specs.declared.Refusal.{Refusal}
use Rattle.draw.specs.declared.Refusal.TheVariants as refused

-- the order that was read again
held_again : (order : List ℕ) (held : Order) → ReadFrom most_bay order (Ok held) → (o : orders.Order) → read_order most_bay order ≡ read o → held ≡ held_order o
unfolding held_reading
held_again order held h o e = let same : Ok held ≡ Ok (held_order o) = h.whole ∙ ap held_reading e in cc

-- is there
pub reads_again : {order plan : List ℕ} → Sound order plan → (r : Result Order of_order.Refusal) → ReadFrom most_bay order r → is_ok r ≡ true
reads_again s (Ok held) h = refl
reads_again s (Err e) h = let clash = h.says ∙ s.accepts.reads in cc

held_count : (o : orders.Order) → (held_order o).count ≡ length o.doses
unfolding held_order
held_count o = refl

module _ {order plan : List ℕ} (s : Sound order plan) {held : Order} (h : ReadFrom most_bay order (Ok held)) (d t : ℕ) where
  abbrev o : orders.Order
  o = s.read_order

  pub count_again : held.count ≡ length o.doses
  count_again = rw (held_again order held h o s.accepts.reads) (held_count o)

  pub order_again : as_order held ≡ o
  order_again = rw (held_again order held h o s.accepts.reads) (as_held o (read_fits most_bay order o s.accepts.reads).few)

  pub drawable : d < held.count → Drawable plan d
  drawable l = stands_drawable order o s.accepts.reads plan s.stands d (omega (arith, count_again))

  pub draws_no_dose : (x : Drawn) → x ≡ no_point (refusal 11 0) → held.count ≤ d → Draws order plan d t x
  draws_no_dose x e l = rw e (no_such_dose o s.accepts s.stands (omega (arith, count_again)))

  pub draws_too_late : (x : Drawn) → x ≡ no_point (refusal 12 0) → d < held.count → week < t → Draws order plan d t x
  draws_too_late x e l g = rw e (too_late o s.accepts s.stands (omega (arith, count_again)) g)

  pub draws_point : (p : Point) → p ≡ point_at (as_order held) (slots_read (plan_records plan)) d t → d < held.count → t ≤ week
      → Draws order plan d t (record { answer = done; point = p })
  draws_point p e l g =
      rw (e ∙ ap (λ (u : orders.Order). point_at u (slots_read (plan_records plan)) d t) order_again)
      (draws o s.accepts s.stands (omega (arith, count_again)) g)

-- a refusal of the order or the plan
pub draws_refused : {order plan : List ℕ} {d t : ℕ} {a : Answer} {x : Drawn} → Judges order plan a → a.number ≢ 0 → x ≡ no_point a → Draws order plan d t x
draws_refused {a = a} j n e = rw e (refuses a j n)

-- every refusal has a number
refusal_some : (e : Refusal) → 0 < (as_refusal e).number
refusal_some (refused.Plan (judge.Order Length)) = lit< tt
refusal_some (refused.Plan (judge.Order (Kind k))) = lit< tt
refusal_some (refused.Plan (judge.Order (NotBlank k))) = lit< tt
refusal_some (refused.Plan (judge.Order (OutOfRange k))) = lit< tt
refusal_some (refused.Plan (judge.Order NotOneFans)) = lit< tt
refusal_some (refused.Plan (judge.Order TooManyDoses)) = lit< tt
refusal_some (refused.Plan (judge.Order (Clash k))) = lit< tt
refusal_some (refused.Plan (judge.Order (TrialBay k))) = lit< tt
refusal_some (refused.Plan (judge.TooFast f)) = lit< tt
refusal_some (refused.Plan judge.Falls) = lit< tt
refusal_some refused.NoDose = lit< tt
refusal_some refused.NoTick = lit< tt

-- the judge's answer 0: the order is accepted and the plan stands
pub judged_sound : {order plan : List ℕ} {a : Answer} → Judges order plan a → a.number ≡ 0 → Sound order plan
judged_sound j e = let s = judged_zero j e in record { read_order = s.0; accepts = s.1; stands = s.2 }

-- no refusal is 0
pub refusal_not_done : (e : Refusal) → (as_refusal e).number ≢ 0
refusal_not_done e z = absurd (omega (arith, z, refusal_some e))

-- ---- the pen

-- "its answer is the point at the new tick": a drawing at the next tick, 604,801 for a pen that is already at or past 604,800
pub moves_by : {order plan : List ℕ} {d next : ℕ} {x : Drawn} (t : ℕ) → next ≡ min t week + 1 → Draws order plan d next x
    → (x.answer.number ≢ 0 → Moves order plan (record { dose = d; tick = t }) x (record { dose = d; tick = t }))
    × (x.answer.number ≡ 0 → Moves order plan (record { dose = d; tick = t }) x (record { dose = d; tick = next }))
moves_by t q (refuses a j n) = (λ m. refuses a j n, λ e. absurd (n e))
moves_by t q (no_such_dose o acc st l) = (λ m. no_such_dose o acc st l, λ e. absurd (omega arith))
moves_by t q (too_late o acc st l g) = (λ m. at_end o acc st l (omega arith), λ e. absurd (omega arith))
moves_by {next = next} t q (draws o acc st l g) =
    let e : next ≡ t + 1 = omega arith in
    (λ m. absurd (m refl), λ z. rw e (moves o acc st l (omega arith)))
