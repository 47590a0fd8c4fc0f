-- A row of the table of streams that passes its test is right. Assumes nothing.
use mathlib.Core.Bool.{Bool, true, false, not, ◌&&◌}
use mathlib.Core.List.{List, [], ◌∷◌, map}
use mathlib.Core.Path.{◌≡◌, refl, ap, ◌∙◌, sym, subst}
use Prim.Native.Nat.{ℕ, ◌<◌}
use native.Mathlib.Nat.{eq-zero-or-pos}
use native.Mathlib.Omega.{arith}
use mathlib.Core.Logic.{◌≢◌, inl, inr}
use borrow.Author.Tests.{eqb-false, eqb-true, ne_eqb}
use lib.Dec.{T, eqb, eqb→eq}
use lib.ListN.{length, get_or}
use Rattle.model.specs.Limits.{most_bay}
use Rattle.model.specs.Sets.{Doses, sum}
use Rattle.model.specs.Lists.{All, Along, beside, ended, gather, total}
use Rattle.model.specs.Records.{Reading, pick, read, refused}
use Rattle.model.specs.Orders.{Order, read_order}
use Rattle.model.specs.Classes.{Classes, P, W}
use Rattle.model.specs.Intervals.{fans_present, setting_of}
use Rattle.model.specs.Plans.{Class}
use Rattle.model.specs.Layout.{class_at, classes_of}
use Rattle.model.specs.Stands.{Stands}
use Rattle.model.specs.Answers.{Accepts, Answer, Judges, done, refusal}
use Rattle.model.specs.Season.{AddsUp, Comes, FirstRate, Season, accepted_with, first_class, no_first_class, no_rate, not_added_up, read_stream, refused_by, season_of}
use Rattle.model.specs.Cases.{Case, JudgingRight, case_sets, case_plan}
use Rattle.model.specs.CaseTests.{all_below, all_in, class_test, done_test, nothing_test, plan_test, point_test, reading_test, records_test, same_answer, same_list, shares_test, slow_test}
use Rattle.model.specs.SeasonCases.{SeasonCase, SeasonRight, added_test, case_outcome, first_in, judged_test, same_season, season_cases_pass, season_cases, season_test}
use Rattle.model.proofs.Answers.{first_next, first_time, judged_zero, no_doses, unread_number}
use Rattle.model.proofs.Lists.{gather_at, length_singles, total_gather}
use Rattle.model.proofs.Orders.{read_fits, three}
use Rattle.model.proofs.Season.{adds_up_one, classes_grams, stands_takes}
use Rattle.model.proofs.Sets.{and_left, and_right}
use Rattle.model.proofs.Sums.{sum_congr}
use Rattle.demands.proofs.Cases.{judging_right}
use Rattle.demands.proofs.Cases.Laws.{all_in_lem, same_answer_lem, same_list_lem}

-- ---- what a row of the bench comes to

-- what its C records say in all
records_total : (o : Order) (p : ℕ) (C : ℕ → Doses) (g : Class → ℕ) → total g (classes_of o p C) ≡ sum p (λ i. g (class_at o p C i))
unfolding total
records_total o p C g = total_gather g p (λ i. class_at o p C i ∷ []) ∙ sum_congr p (λ i l. omega arith)

-- the first of them
first_record : (l : List Class) (d : Class) → 0 < length l → first_in l ≡ record { weight = (get_or l 0 d).weight; time = (get_or l 0 d).time }
unfolding first_in
first_record [] d l = absurd (omega arith)
first_record (c ∷ cs) d l = refl

none_first : (o : Order) (p : ℕ) (C : ℕ → Doses) → p ≡ 0 → first_in (classes_of o p C) ≡ no_rate
unfolding first_in gather
none_first o p C z = rw z

module _ (o : Order) (p : ℕ) (C : ℕ → Doses) (c : Classes (setting_of o) (fans_present o) p C) where
  abbrev no_class : Class
  no_class = record { number = 0; doses = 0; weight = 0; time = 0 }

  -- the first C record has the first class's W and P
  first_right : FirstRate o (first_in (classes_of o p C))
  first_right = elim (eq-zero-or-pos p) [
    | inl z ↦ subst (FirstRate o) (sym (none_first o p C z)) (no_first_class (no_doses o p C c z))
    | inr l ↦ subst (FirstRate o) (sym (some l)) (first_class (C 0) (first_next o p C c l))
  ]
    where
      some : 0 < p → first_in (classes_of o p C) ≡ record { weight = W (setting_of o) (C 0); time = P (setting_of o) (fans_present o) (C 0) }
      some l =
          first_record (classes_of o p C) no_class (omega (arith, length_singles p (class_at o p C)))
          ∙ ap (λ (k : Class). record { weight = k.weight; time = k.time }) (gather_at p (class_at o p C) no_class 0 l)
          ∙ ap (λ (t : ℕ). record { weight = W (setting_of o) (C 0); time = t }) (first_time o p C c)

  -- an order whose C records are these comes to what they say
  by_records : {order : List ℕ} → Accepts most_bay order o → (plan : List ℕ) → Stands o plan → (classes : List Class) → classes ≡ classes_of o p C
      → Comes order (accepted_with (total (λ k. k.weight) classes) (total (λ k. k.time) classes) (first_in classes))
  by_records {order} g plan st classes e =
      let fit = read_fits most_bay order o g.reads in
      let grams = records_total o p C (λ k. k.weight) ∙ classes_grams o p C c in
      let seconds = records_total o p C (λ k. k.time) in
      rw (e, grams, seconds) (Comes.accepts o g plan st _ (stands_takes o fit plan st p C c) _ first_right)

-- a verdict that is neither 0 nor 10 is the order's own refusal
by_verdict : {order plan : List ℕ} {a : Answer} → Judges order plan a → a.number ≢ 0 → a.number ≢ 10 → Comes order (refused_by a.number)
by_verdict (Judges.refuses a r) some ten = Comes.refuses a r
by_verdict (Judges.falls o g h) some ten = absurd (ten refl)
by_verdict (Judges.stands o g h) some ten = absurd (some refl)

-- a row's plan is its own, so that it is not judged 10
never_ten : (c : Case) → T (judged_test c) → c.answer.number ≢ 10
unfolding judged_test reading_test plan_test
never_ten c t ten = go (read_order most_bay c.order) refl t
  where
    go : (r : Reading Order) → read_order most_bay c.order ≡ r → T (reading_test c r) → ⊥
    go (refused number place) e u =
        let told = same_answer (refusal number place) c.answer in
        let same = ap (λ (a : Answer). a.number) (same_answer_lem (refusal number place) c.answer (and_left told (not (eqb number 0)) (and_left (told && not (eqb number 0)) (nothing_test c) u))) in
        omega (arith, same, (unread_number c.order number place e).1)
    go (read o) e u =
        let plan = rw (ne_eqb c.answer.number 9 (λ n. omega arith)) at u in
        let found = all_below (length c.sets) (class_test o c) && all_below (setting_of o).doses (done_test o c) && slow_test o c in
        let laid = all_below (length c.sets) (shares_test o c) && records_test o c in
        let drawn = all_in (point_test o c) c.points in
        let told = same_answer done c.answer in
        omega (arith, ap (λ (a : Answer). a.number) (same_answer_lem done c.answer (and_right drawn told (and_right (found && laid) (drawn && told) plan))))

-- a row that is judged as it says comes to what it says
case_comes : (c : Case) → T (judged_test c) → Comes c.order (case_outcome c)
unfolding judged_test case_outcome
case_comes c t = go (eqb c.answer.number 0) refl
  where
    right : JudgingRight c
    right = judging_right c t

    go : (b : Bool) → eqb c.answer.number 0 ≡ b
        → Comes c.order (pick b (accepted_with (total (λ k. k.weight) c.classes) (total (λ k. k.time) c.classes) (first_in c.classes)) (refused_by c.answer.number))
    go true e =
        let s = judged_zero right.judged (eqb-true c.answer.number 0 e) in
        let sets = right.sets s.0 s.1 in
        by_records s.0 (length c.sets) (case_sets c) sets.are s.1 (case_plan c) s.2 c.classes sets.records
    go false e = by_verdict right.judged (eqb-false c.answer.number 0 e) (never_ten c t)

cases_come : (cs : List Case) → T (all_in judged_test cs) → Along Comes (map (λ c. c.order) cs) (map case_outcome cs)
unfolding all_in
cases_come [] t = ended
cases_come (c ∷ cs) t = beside (case_comes c (and_left (judged_test c) (all_in judged_test cs) t)) (cases_come cs (and_right (judged_test c) (all_in judged_test cs) t))

-- ---- a row of the table

same_season_lem : (a b : Season) → T (same_season a b) → a ≡ b
unfolding same_season
same_season_lem a b t =
    let one = eqb a.accepted b.accepted in
    let two = same_list eqb a.refused b.refused in
    let three' = eqb a.grams b.grams in
    let four = eqb a.seconds b.seconds in
    let five = eqb a.greatest.weight b.greatest.weight in
    let six = eqb a.greatest.time b.greatest.time in
    let f = three one two three' (and_left (one && two && three') (four && five && six) t) in
    let g = three four five six (and_right (one && two && three') (four && five && six) t) in
    let accepted = eqb→eq a.accepted b.accepted f.0 in
    let refused_alike = same_list_lem eqb eqb→eq a.refused b.refused f.1 in
    let grams = eqb→eq a.grams b.grams f.2 in
    let seconds = eqb→eq a.seconds b.seconds g.0 in
    let weight = eqb→eq a.greatest.weight b.greatest.weight g.1 in
    let time = eqb→eq a.greatest.time b.greatest.time g.2 in
    λ i. record { accepted = accepted i; refused = refused_alike i; grams = grams i; seconds = seconds i; greatest = record { weight = weight i; time = time i } }

-- a row that passes is right
pub season_row_right : (c : SeasonCase) → T (season_test c) → SeasonRight c
unfolding season_test added_test
season_row_right c t = record { adds = adds; only = λ x h. adds_up_one h adds }
  where
    -- an answer and figures that agree with the row's are the row's
    is_row : (a : Answer) (s : Season) → T (same_answer a c.added.answer) → T (same_season s c.added.season) → record { answer = a; season = s } ≡ c.added
    is_row a s u v =
        let answer = same_answer_lem a c.added.answer u in
        let season = same_season_lem s c.added.season v in
        λ i. record { answer = answer i; season = season i }

    go : (r : Reading (List (List ℕ))) → read_stream c.stream ≡ r → T (added_test c r) → AddsUp c.stream c.added
    go (refused number place) e u =
        let told = same_answer (refusal number place) c.added.answer in
        let figures = same_season (not_added_up (refusal number place)).season c.added.season in
        subst (AddsUp c.stream) (is_row (refusal number place) (not_added_up (refusal number place)).season (and_left told figures u) (and_right told figures u)) (AddsUp.refuses number place e)
    go (read orders) e u =
        let outcomes = map case_outcome c.orders in
        let cut = same_list (same_list eqb) orders (map (λ k. k.order) c.orders) in
        let judged = all_in judged_test c.orders in
        let told = same_answer done c.added.answer in
        let figures = same_season (season_of outcomes) c.added.season in
        let orders_right = and_left (cut && judged) (told && figures) u in
        let figures_right = and_right (cut && judged) (told && figures) u in
        let same = same_list_lem (same_list eqb) (same_list_lem eqb eqb→eq) orders (map (λ k. k.order) c.orders) (and_left cut judged orders_right) in
        let each = subst (λ (l : List (List ℕ)). Along Comes l outcomes) (sym same) (cases_come c.orders (and_right cut judged orders_right)) in
        subst (AddsUp c.stream) (is_row done (season_of outcomes) (and_left told figures figures_right) (and_right told figures figures_right)) (AddsUp.adds_up orders e outcomes each)

    adds : AddsUp c.stream c.added
    adds = go (read_stream c.stream) refl t

-- all rows
pub season_cases_right : All SeasonRight season_cases
season_cases_right = all_in_lem SeasonRight season_test season_row_right season_cases season_cases_pass
