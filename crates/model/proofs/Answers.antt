-- Answers are settled: refusals of an order, verdicts, points and pens are unique, and so is a plan where the shares are the same.
use mathlib.Core.Path.{◌≡◌, refl, sym, ap, ap₂, subst, fun_ext, ◌∙◌}
use mathlib.Core.Bool.{true}
use mathlib.Core.Logic.{◌≢◌, ◌⊎◌, inl, inr}
use mathlib.Core.List.{List, [], ◌∷◌, ◌++◌, map}
use Prim.Native.Nat.{ℕ, zero, suc, ◌+◌, ◌*◌, ◌≤◌, ◌<◌, ◌^◌}
use native.Mathlib.Nat.{eq-zero-or-pos}
use native.Mathlib.Omega.{arith}
use borrow.Author.Tests.{ne_eqb}
use lib.Dec.{T, eqb}
use Rattle.model.specs.Limits.{most_bay}
use Rattle.model.specs.Sets.{Doses}
use Rattle.model.specs.Records.{pick, refused}
use Rattle.model.specs.Orders.{Order, dose_at, read_order}
use Rattle.model.specs.Lists.{gather}
use Rattle.model.specs.Classes.{Setting, Row, P, Classes, free, remaining, reserved, class_p}
use Rattle.model.specs.Plans.{Class, Slot, plan_of, records_bytes}
use Rattle.model.specs.Layout.{Piece, Lane, cut, line, piece_slot, lane_slots, lane, interval_slots, table_slots, table_of, slots_of, class_at, classes_of}
use Rattle.model.specs.Intervals.{instant_at, setting_of, fans_present}
use Rattle.model.specs.Stands.{Stands}
use Rattle.model.specs.Answers.{Answer, refusal, FirstClass, above_top, too_fast, Refuses, unread, above, Accepts, Judges, Drawn, no_point, point_of, Draws, Pen, Moves, not_laid, laid_by, line_of, Laid, Lays, plan_bytes}
use Rattle.model.specs.Log.{read_log}
use Rattle.model.proofs.Sets.{Alike, weight_alike}
use Rattle.model.proofs.Sums.{sum_congr}
use Rattle.model.proofs.FanTime.{P-alike, open_fans-alike}
use Rattle.model.proofs.NextClass.{next_unique}
use Rattle.model.proofs.Sequence.{classes_unique, free_alike}
use Rattle.model.proofs.Readings.{no_refusal}
use Rattle.model.proofs.Given.{given_exactly, row_number}

-- ---- the order's answer

-- a refusal by reading is numbered 2 to 8, where every bay is open
pub unread_number : (order : List ℕ) (number place : ℕ) → read_order most_bay order ≡ refused number place → (2 ≤ number) × (number ≤ 8)
unread_number order number place e = elim (row_number ((given_exactly most_bay order number place).0 e)) [ inl n ↦ n | inr c ↦ absurd (omega (arith, c)) ]

-- an order has one reading
pub one_order : {last : ℕ} {order : List ℕ} {o o' : Order} → Accepts last order o → Accepts last order o' → o ≡ o'
one_order {last} {order} {o} {o'} a b = let e = a.reads in let f = b.reads in cc

-- the first of an order's classes is its first class, with all fans free
module _ (o : Order) (p : ℕ) (C : ℕ → Doses) (c : Classes (setting_of o) (fans_present o) p C) where
  pub first_next : 0 < p → FirstClass o (C 0)
  unfolding free remaining
  first_next some = c.next 0 some

  pub first_time : class_p (setting_of o) (fans_present o) C 0 ≡ P (setting_of o) (fans_present o) (C 0)
  unfolding free
  first_time = refl

  -- where there is no class, there is no dose
  pub no_doses : p ≡ 0 → (setting_of o).doses ≡ 0
  unfolding remaining
  no_doses e = elim (eq-zero-or-pos (setting_of o).doses) [ inl z ↦ z | inr l ↦ absurd (c.done 0 l (rw e tt)) ]

-- two first classes are one set, with one number, W and P
first_one : (o : Order) (A B : Doses) → FirstClass o A → FirstClass o B → too_fast o A ≡ too_fast o B
first_one o A B a b =
    let same = next_unique (setting_of o) (fans_present o) (λ k. true) A B a b in
    let set = weight_alike (setting_of o).doses (λ k. 2 ^ k) A B same in
    let weight = weight_alike (setting_of o).doses (setting_of o).grams A B same in
    let time = P-alike (setting_of o) (fans_present o) A B same in
    λ i. record { number = 9; place = 0; set = set i; weight = weight i; time = time i }

-- an order is refused in one way
pub refuses_one : {last : ℕ} {order : List ℕ} {a b : Answer} → Refuses last order a → Refuses last order b → a ≡ b
refuses_one (unread number place e) (unread number' place' e') =
    let n : number ≡ number' = cc in let p : place ≡ place' = cc in ap₂ refusal n p
refuses_one (unread number place e) (above o A f c t) = absurd (no_refusal number place o (sym e ∙ f))
refuses_one (above o A f c t) (unread number place e) = absurd (no_refusal number place o (sym e ∙ f))
refuses_one {last} {order} (above o A f c t) (above o' A' f' c' t') =
    let same : o' ≡ o = cc in
    first_one o A A' c (subst (λ (o : Order). FirstClass o A') same c') ∙ ap (λ (o : Order). too_fast o A') (sym same)

-- with a number from 2 to 9, or 15 where a bay is closed
pub refuses_number : {last : ℕ} {order : List ℕ} {a : Answer} → Refuses last order a → ((2 ≤ a.number) × (a.number ≤ 9)) ⊎ ((a.number ≡ 15) × (last < most_bay))
refuses_number {last} {order} (unread number place e) = elim (row_number ((given_exactly last order number place).0 e)) [
  | inl n ↦ inl (n.0, omega (arith, n))
  | inr c ↦ inr c
]
refuses_number (above o A f c t) = inl (omega arith, omega arith)

-- where every bay is open, from 2 to 9
pub refuses_open : {order : List ℕ} {a : Answer} → Refuses most_bay order a → (2 ≤ a.number) × (a.number ≤ 9)
refuses_open r = elim (refuses_number r) [ inl n ↦ n | inr c ↦ absurd (omega (arith, c)) ]

-- and never 0
pub refuses_some : {last : ℕ} {order : List ℕ} {a : Answer} → Refuses last order a → a.number ≢ 0
refuses_some r z = elim (refuses_number r) [ inl n ↦ omega (arith, n) | inr c ↦ omega (arith, c) ]

-- and no order is refused and accepted
pub refused_not_accepted : {last : ℕ} {order : List ℕ} {a : Answer} {o : Order} → Refuses last order a → Accepts last order o → ⊥
refused_not_accepted {last} {order} {a} {o} (unread number place e) g = no_refusal number place o (sym e ∙ g.reads)
refused_not_accepted {last} {order} {a} {o} (above o' A f c t) g =
    let r = g.reads in
    let same : o' ≡ o = cc in
    g.slow A (subst (λ (o : Order). FirstClass o A) same c) (subst (λ (o : Order). T (above_top o A)) same t)

-- ---- verdicts

-- plan bytes get one verdict
pub judges_one : {order plan : List ℕ} {a b : Answer} → Judges order plan a → Judges order plan b → a ≡ b
judges_one (Judges.refuses a r) (Judges.refuses b s) = refuses_one r s
judges_one (Judges.refuses a r) (Judges.falls o g h) = absurd (refused_not_accepted r g)
judges_one (Judges.refuses a r) (Judges.stands o g h) = absurd (refused_not_accepted r g)
judges_one (Judges.falls o g h) (Judges.refuses b s) = absurd (refused_not_accepted s g)
judges_one (Judges.falls o g h) (Judges.falls o' g' h') = refl
judges_one {order} {plan} (Judges.falls o g h) (Judges.stands o' g' h') = absurd (h (subst (λ (o : Order). Stands o plan) (one_order g' g) h'))
judges_one (Judges.stands o g h) (Judges.refuses b s) = absurd (refused_not_accepted s g)
judges_one {order} {plan} (Judges.stands o g h) (Judges.falls o' g' h') = absurd (h' (subst (λ (o : Order). Stands o plan) (one_order g g') h))
judges_one (Judges.stands o g h) (Judges.stands o' g' h') = refl

-- a plan that is judged 0 stands
pub judged_zero : {order plan : List ℕ} {a : Answer} → Judges order plan a → a.number ≡ 0 → (o : Order) × Accepts most_bay order o × Stands o plan
judged_zero (Judges.refuses a r) z = absurd (refuses_some r z)
judged_zero (Judges.falls o g h) z = absurd (omega arith)
judged_zero (Judges.stands o g h) z = (o, g, h)

-- ---- points and pens

-- a plan that stands is not refused
stands_refused : {order plan : List ℕ} {a : Answer} {o : Order} → Judges order plan a → a.number ≢ 0 → Accepts most_bay order o → Stands o plan → ⊥
stands_refused {o = o} j n g h = n (ap (λ (a : Answer). a.number) (judges_one j (Judges.stands o g h)))

-- one order, one count of doses
one_count : {last : ℕ} {order : List ℕ} {o o' : Order} → Accepts last order o → Accepts last order o' → (setting_of o).doses ≡ (setting_of o').doses
one_count g g' = ap (λ (o : Order). (setting_of o).doses) (one_order g g')

-- a dose at a tick has one point
pub draws_one : {order plan : List ℕ} {d t : ℕ} {a b : Drawn} → Draws order plan d t a → Draws order plan d t b → a ≡ b
draws_one (Draws.refuses a j n) (Draws.refuses b k m) = ap no_point (judges_one j k)
draws_one (Draws.refuses a j n) (Draws.no_such_dose o g h l) = absurd (stands_refused j n g h)
draws_one (Draws.refuses a j n) (Draws.too_late o g h l w) = absurd (stands_refused j n g h)
draws_one (Draws.refuses a j n) (Draws.draws o g h l w) = absurd (stands_refused j n g h)
draws_one (Draws.no_such_dose o g h l) (Draws.refuses b k m) = absurd (stands_refused k m g h)
draws_one (Draws.no_such_dose o g h l) (Draws.no_such_dose o' g' h' l') = refl
draws_one (Draws.no_such_dose o g h l) (Draws.too_late o' g' h' l' w') = absurd (omega (arith, one_count g g'))
draws_one (Draws.no_such_dose o g h l) (Draws.draws o' g' h' l' w') = absurd (omega (arith, one_count g g'))
draws_one (Draws.too_late o g h l w) (Draws.refuses b k m) = absurd (stands_refused k m g h)
draws_one (Draws.too_late o g h l w) (Draws.no_such_dose o' g' h' l') = absurd (omega (arith, one_count g g'))
draws_one (Draws.too_late o g h l w) (Draws.too_late o' g' h' l' w') = refl
draws_one (Draws.too_late o g h l w) (Draws.draws o' g' h' l' w') = absurd (omega arith)
draws_one (Draws.draws o g h l w) (Draws.refuses b k m) = absurd (stands_refused k m g h)
draws_one (Draws.draws o g h l w) (Draws.no_such_dose o' g' h' l') = absurd (omega (arith, one_count g g'))
draws_one (Draws.draws o g h l w) (Draws.too_late o' g' h' l' w') = absurd (omega arith)
draws_one {order} {plan} {d} {t} (Draws.draws o g h l w) (Draws.draws o' g' h' l' w') = ap (λ (o : Order). point_of o plan d t) (one_order g g')

-- a pen's answer is the point at its next tick, also where it is refused
pub pen_draws : {order plan : List ℕ} {pen : Pen} {x : Drawn} {to : Pen} → Moves order plan pen x to → Draws order plan pen.dose (pen.tick + 1) x
pen_draws (Moves.refuses a j n) = Draws.refuses a j n
pen_draws (Moves.no_such_dose o g h l) = Draws.no_such_dose o g h l
pen_draws (Moves.at_end o g h l w) = Draws.too_late o g h l (omega arith)
pen_draws (Moves.moves o g h l w) = Draws.draws o g h l (omega arith)

-- the answer tells where the pen is: a tick on where it is 0, and where it was with any other
abbrev pub pen_after : Pen → Drawn → Pen
pen_after pen x = pick (eqb x.answer.number 0) (record { dose = pen.dose; tick = pen.tick + 1 }) pen

-- it is there
pub pen_goes : {order plan : List ℕ} {pen : Pen} {x : Drawn} {to : Pen} → Moves order plan pen x to → to ≡ pen_after pen x
pen_goes (Moves.refuses a j n) = rw (ne_eqb a.number 0 n)
pen_goes (Moves.no_such_dose o g h l) = refl
pen_goes (Moves.at_end o g h l w) = refl
pen_goes (Moves.moves o g h l w) = refl

-- a pen moves in one way
pub moves_one : {order plan : List ℕ} {pen : Pen} {a b : Drawn} {to to' : Pen} → Moves order plan pen a to → Moves order plan pen b to' → (a ≡ b) × (to ≡ to')
moves_one {pen = pen} h k =
    let same = draws_one (pen_draws h) (pen_draws k) in
    (same, pen_goes h ∙ ap (pen_after pen) same ∙ sym (pen_goes k))

-- ---- logs

-- a log is laid in one way
pub lays_one : {order plan : List ℕ} {d : ℕ} {log : List ℕ} {a b : Laid} → Lays order plan d log a → Lays order plan d log b → a ≡ b
lays_one (Lays.refuses a j n) (Lays.refuses b k m) = ap not_laid (judges_one j k)
lays_one (Lays.refuses a j n) (Lays.no_such_dose o g h l) = absurd (stands_refused j n g h)
lays_one (Lays.refuses a j n) (Lays.lays o g h l) = absurd (stands_refused j n g h)
lays_one (Lays.no_such_dose o g h l) (Lays.refuses b k m) = absurd (stands_refused k m g h)
lays_one (Lays.no_such_dose o g h l) (Lays.no_such_dose o' g' h' l') = refl
lays_one (Lays.no_such_dose o g h l) (Lays.lays o' g' h' l') = absurd (omega (arith, one_count g g'))
lays_one (Lays.lays o g h l) (Lays.refuses b k m) = absurd (stands_refused k m g h)
lays_one (Lays.lays o g h l) (Lays.no_such_dose o' g' h' l') = absurd (omega (arith, one_count g g'))
lays_one {plan = plan} {d = d} {log = log} (Lays.lays o g h l) (Lays.lays o' g' h' l') =
    ap (λ (o : Order). laid_by (line_of plan d) (read_log (dose_at o d).bay log)) (one_order g g')

-- where drawing at some tick is refused, and not by 12, laying any log is refused so too
pub drawn_refused : {order plan log : List ℕ} {d t : ℕ} {y : Drawn} → Draws order plan d t y → y.answer.number ≢ 0 → y.answer.number ≢ 12
    → Lays order plan d log (not_laid y.answer)
drawn_refused (Draws.refuses a j n) z late = Lays.refuses a j n
drawn_refused (Draws.no_such_dose o g h l) z late = Lays.no_such_dose o g h l
drawn_refused (Draws.too_late o g h l w) z late = absurd (late refl)
drawn_refused (Draws.draws o g h l w) z late = absurd (z refl)

-- ---- plans

gather_congr : {A : Type 0} (n : ℕ) (f g : ℕ → List A) → ((k : ℕ) → k < n → f k ≡ g k) → gather n f ≡ gather n g
unfolding gather
gather_congr zero f g h = refl
gather_congr (suc n) f g h = ap₂ (λ x y. x ++ y) (gather_congr n f g (λ k l. h k (omega arith))) (h n (omega arith))

-- shares that agree give one line
line_congr : (L n : ℕ) (x y : ℕ → ℕ) → ((k : ℕ) → k < n → x k ≡ y k) → line L x n ≡ line L y n
unfolding line
line_congr L n x y h = gather_congr n _ _ (λ k l. ap₂ (λ (a b : ℕ). cut L k a b) (sum_congr k (λ i q. h i (omega arith))) (h k l))

module _ (o : Order) (p : ℕ) (C C' : ℕ → Doses) (c : Classes (setting_of o) (fans_present o) p C) (c' : Classes (setting_of o) (fans_present o) p C') where
  abbrev S : Setting
  S = setting_of o

  same_set : (i : ℕ) → i < p → Alike S.doses (C i) (C' i)
  same_set i l = classes_unique S (fans_present o) p p C C' c c' i l l

  same_free : (i : ℕ) → i < p → (j : ℕ) → free S (fans_present o) C i j ≡ free S (fans_present o) C' i j
  same_free i l = free_alike S (fans_present o) C C' i (λ h q. same_set h (omega arith))

  same_reserved : (i : ℕ) → i < p → (j : ℕ) → reserved S (fans_present o) C i j ≡ reserved S (fans_present o) C' i j
  same_reserved i l j = open_fans-alike S _ _ (C i) (C' i) j (same_free i l j) (same_set i l)

  same_time : (i : ℕ) → i < p → class_p S (fans_present o) C i ≡ class_p S (fans_present o) C' i
  same_time i l =
      P-alike S (free S (fans_present o) C i) (C i) (C' i) (same_set i l) ∙ ap (λ (row : Row). P S row (C' i)) (fun_ext (same_free i l))

  same_class_lem : (i : ℕ) → i < p → class_at o p C i ≡ class_at o p C' i
  same_class_lem i l =
      let doses = weight_alike S.doses (λ k. 1) (C i) (C' i) (same_set i l) in
      let weight = weight_alike S.doses S.grams (C i) (C' i) (same_set i l) in
      let time = same_time i l in
      λ t. record { number = i + 1; doses = doses t; weight = weight t; time = time t }

  -- the C records of an order are settled
  pub classes_settled : classes_of o p C ≡ classes_of o p C'
  classes_settled = gather_congr p _ _ (λ i l. ap (λ (k : Class). k ∷ []) (same_class_lem i l))

  -- and where the shares are the same, so are the slots
  module _ (x x' : ℕ → ℕ → ℕ → ℕ) (same : (i k j : ℕ) → i < p → k < S.doses → j < S.intervals → x i k j ≡ x' i k j) where
    same_lane : (i j : ℕ) → i < p → lane (table_of o p C x) i j ≡ lane (table_of o p C' x') i j
    same_lane i j l =
        let weight = weight_alike S.doses S.grams (C i) (C' i) (same_set i l) in
        let time = same_time i l in
        let below = sum_congr i (λ h q. same_reserved h (omega arith) j) in
        λ t. record { start = instant_at o j; len = S.len j; weight = weight t; time = time t; class = i + 1; below = below t }

    pub same_slots : slots_of o p C x ≡ slots_of o p C' x'
    unfolding table_slots interval_slots lane_slots
    same_slots =
        gather_congr S.intervals _ _ (λ j q. gather_congr p _ _ (λ i l.
        ap₂ (λ (w : Lane) (m : List Piece). map (piece_slot w) m) (same_lane i j l)
        (line_congr _ S.doses (λ k. x i k j) (λ k. x' i k j) (λ k r. same i k j l r q)
        ∙ ap (λ (w : Lane). line (w.len * w.weight) (λ k. x' i k j) S.doses) (same_lane i j l))))

    -- and every byte of the plan
    pub plan_settled : plan_bytes o p C x ≡ plan_bytes o p C' x'
    plan_settled = ap₂ (λ (l : List Class) (m : List Slot). records_bytes (plan_of l m)) classes_settled same_slots
