-- Demand 2's refusal over the answers themselves: for every order that passes 2 to 8, and 15 where it is planned, and every answer that planning,
-- judging, drawing, the pen and laying a log may give, "the top rate" is the refusal exactly if no plan exists, and the number, W and P that come
-- back show it.
use mathlib.Core.Bool.{true, Bool, false}
use mathlib.Core.Logic.{◌↔◌, inl, inr}
use mathlib.Core.Path.{◌≡◌, ◌∙◌, ap, refl, sym}
use mathlib.Core.List.{List}
use Prim.Native.Nat.{ℕ, ◌*◌, ◌<◌, ◌≤◌, zero, suc, ◌+◌, ◌^◌}
use lib.ListN.{length}
use native.Mathlib.Nat.{two-pow-succ}
use native.Mathlib.Omega.{arith}
use Rattle.model.specs.Limits.{last_open_bay, most_bay, plan_room}
use Rattle.model.specs.Sets.{Doses, on, sum, weight}
use Rattle.model.specs.Records.{read}
use Rattle.model.specs.Orders.{Order, read_order}
use Rattle.model.specs.Classes.{P, W, set_number}
use Rattle.model.specs.Intervals.{fans_present, setting_of}
use Rattle.model.specs.FreePlans.{FreePlan}
use Rattle.model.specs.Answers.{Answer, Drawn, Draws, FirstClass, Judges, Laid, Lays, Moves, Pen, Planned, Plans}
use Rattle.model.proofs.Sets.{Alike, weight_alike, on_below}
use Rattle.model.proofs.FanTime.{P-alike}
use Rattle.model.proofs.NextClass.{next_transport}
use Rattle.demands.proofs.Demand2.Refusing.{refused_names}
use Rattle.demands.proofs.Demand1.ByOrder.{OfOrder, drawn_order, judged_order, laid_order, order_accepted, order_refused, planned_order}
use Rattle.model.proofs.Answers.{pen_draws, refused_not_accepted}
use Rattle.demands.proofs.Demand2.{names_the_set, refused_exactly, the_set_shows_it}
use Rattle.model.proofs.Sums.{last}

-- ---- the number of a set, with bit k for dose k

-- n bits are below 2 ^ n
bits_below : (n : ℕ) (A : Doses) → weight n (λ k. 2 ^ k) A < 2 ^ n
unfolding weight sum
bits_below zero A = omega arith
bits_below (suc n) A = omega (arith, bits_below n A, on_below (A n) (2 ^ n), two-pow-succ n)

-- sets of one number are one set: the last bit weighs more than all before it
bits_one : (n : ℕ) (A B : Doses) → weight n (λ k. 2 ^ k) A ≡ weight n (λ k. 2 ^ k) B → Alike n A B
unfolding weight sum
bits_one zero A B e k l = absurd (omega arith)
bits_one (suc n) A B e k l =
    let r = last_bit (A n) (B n) (weight n (λ k. 2 ^ k) A) (weight n (λ k. 2 ^ k) B) (bits_below n A) (bits_below n B) e in
    let ih = bits_one n A B r.1 k in
    elim (last l) [ inl z ↦ rw z r.0 | inr m ↦ ih m ]
  where
    last_bit : (x y : Bool) (a b : ℕ) → a < 2 ^ n → b < 2 ^ n → a + on x (2 ^ n) ≡ b + on y (2 ^ n) → (x ≡ y) × (a ≡ b)
    last_bit true true a b p q f = (refl, omega arith)
    last_bit true false a b p q f = absurd (omega arith)
    last_bit false true a b p q f = absurd (omega arith)
    last_bit false false a b p q f = (refl, omega arith)

-- ---- answers

-- the set B is the first class, with the W and P of the answer, and these are above the top rate
pub record Shows (o : Order) (a : Answer) (B : Doses) : Type 0 where
  pub first : FirstClass o B
  pub weight : a.weight ≡ W (setting_of o) B
  pub time : a.time ≡ P (setting_of o) (fans_present o) B
  pub above : a.time * o.top_grams < a.weight * o.top_seconds

-- a number of a set, and every set of that number shows it: its bits alone say which doses
pub record Names (o : Order) (a : Answer) : Type 0 where
  pub set : Doses
  pub number : set_number (setting_of o).doses set ≡ a.set
  pub every : (B : Doses) → set_number (setting_of o).doses B ≡ a.set → Shows o a B

-- so no plan is within it
pub shows_none : (o : Order) (a : Answer) (B : Doses) → Shows o a B → FreePlan o → ⊥
shows_none o a B s = the_set_shows_it o B (rw (s.weight, s.time) at s.above)

module _ (last : ℕ) (order : List ℕ) (o : Order) (e : read_order last order ≡ read o) where
  nine : (a : Answer) → OfOrder last order a → (a.number ≡ 9) ↔ (FreePlan o → ⊥)
  nine a (order_refused b r) = (λ n. (refused_exactly last order o e).0 (a, r), λ no. ap (λ (x : Answer). x.number) (refused_names order o e a r).1)
  nine a (order_accepted number place o' g n p) = (
    λ z. absurd (n z),
    λ no. let r = (refused_exactly last order o e).1 no in absurd (refused_not_accepted r.1 g),
  )

  names : (a : Answer) → OfOrder last order a → a.number ≡ 9 → Names o a
  names a (order_accepted number place o' g n p) z = absurd (n z)
  names a (order_refused b r) z =
      let S = setting_of o in
      let given = names_the_set last order o e a r in
      let A = given.0 in
      let is = given.2 in
      let same : (B : Doses) → set_number S.doses B ≡ a.set → Alike S.doses A B =
      λ B h. bits_one S.doses A B (sym (h ∙ ap (λ (x : Answer). x.set) is)) in
      record {
        set = A;
        number = sym (ap (λ (x : Answer). x.set) is);
        every = λ B h. record {
          first = next_transport S (fans_present o) (fans_present o) (λ k. true) (λ k. true) A B (λ j. refl) (λ k l. refl) (same B h) given.1;
          weight = ap (λ (x : Answer). x.weight) is ∙ weight_alike S.doses S.grams A B (same B h);
          time = ap (λ (x : Answer). x.time) is ∙ P-alike S (fans_present o) A B (same B h);
          above = given.3;
        };
      }

-- ---- planning, into a buffer with room, an order that passes 15 too

module _ (order : List ℕ) (o : Order) (e : read_order last_open_bay order ≡ read o) (before : List ℕ) (room : plan_room ≤ length before)
    (r : Planned) (after : List ℕ) (h : Plans order before r after) where
  -- "An order with no other fault is refused for the top rate exactly if no plan within that rate exists"
  pub planning_refuses_exactly : (r.answer.number ≡ 9) ↔ (FreePlan o → ⊥)
  planning_refuses_exactly = nine last_open_bay order o e r.answer (planned_order room h)

  -- "and the set that shows it is named"
  pub planning_names_the_set : r.answer.number ≡ 9 → Names o r.answer
  planning_names_the_set = names last_open_bay order o e r.answer (planned_order room h)

module _ (order : List ℕ) (o : Order) (e : read_order most_bay order ≡ read o) where
  -- ---- "An order with no other fault is refused for the top rate exactly if no plan within that rate exists"

  -- by judging
  pub judging_refuses_exactly : (plan : List ℕ) (a : Answer) → Judges order plan a → (a.number ≡ 9) ↔ (FreePlan o → ⊥)
  judging_refuses_exactly plan a h = nine most_bay order o e a (judged_order h)

  -- by drawing
  pub drawing_refuses_exactly : (plan : List ℕ) (d t : ℕ) (x : Drawn) → Draws order plan d t x → (x.answer.number ≡ 9) ↔ (FreePlan o → ⊥)
  drawing_refuses_exactly plan d t x h = nine most_bay order o e x.answer (drawn_order h)

  -- by the pen
  pub pen_refuses_exactly : (plan : List ℕ) (pen : Pen) (x : Drawn) (to : Pen) → Moves order plan pen x to → (x.answer.number ≡ 9) ↔ (FreePlan o → ⊥)
  pen_refuses_exactly plan pen x to h = nine most_bay order o e x.answer (drawn_order (pen_draws h))

  -- by laying a log
  pub laying_refuses_exactly : (plan : List ℕ) (d : ℕ) (log : List ℕ) (x : Laid) → Lays order plan d log x → (x.answer.number ≡ 9) ↔ (FreePlan o → ⊥)
  laying_refuses_exactly plan d log x h = nine most_bay order o e x.answer (laid_order h)

  -- ---- "and the set that shows it is named"

  -- by judging
  pub judging_names_the_set : (plan : List ℕ) (a : Answer) → Judges order plan a → a.number ≡ 9 → Names o a
  judging_names_the_set plan a h = names most_bay order o e a (judged_order h)

  -- by drawing
  pub drawing_names_the_set : (plan : List ℕ) (d t : ℕ) (x : Drawn) → Draws order plan d t x → x.answer.number ≡ 9 → Names o x.answer
  drawing_names_the_set plan d t x h = names most_bay order o e x.answer (drawn_order h)

  -- by the pen
  pub pen_names_the_set : (plan : List ℕ) (pen : Pen) (x : Drawn) (to : Pen) → Moves order plan pen x to → x.answer.number ≡ 9 → Names o x.answer
  pen_names_the_set plan pen x to h = names most_bay order o e x.answer (drawn_order (pen_draws h))

  -- by laying a log
  pub laying_names_the_set : (plan : List ℕ) (d : ℕ) (log : List ℕ) (x : Laid) → Lays order plan d log x → x.answer.number ≡ 9 → Names o x.answer
  laying_names_the_set plan d log x h = names most_bay order o e x.answer (laid_order h)
