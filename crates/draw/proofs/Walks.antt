-- Plan bytes record by record: what a walk over a dose's records comes to is what documents 01 and 02 say of its slots. Assumes nothing.
use mathlib.Core.Path.{◌≡◌, refl, sym, ap, ◌∙◌}
use mathlib.Core.Bool.{Bool, true, false, ◌&&◌}
use mathlib.Core.Logic.{inl, inr}
use mathlib.Core.List.{List, [], ◌∷◌}
use Prim.Native.Nat.{ℕ, zero, suc, ◌+◌, ◌*◌, ◌-◌, ◌/◌, ◌%◌, ◌<◌, ◌≤◌}
use native.Mathlib.Nat.{mul-le-mul_right, mul-lt-mul_of_pos_right, sub-zero}
use native.Mathlib.Numerals.{add-one}
use native.Mathlib.Omega.{arith}
use borrow.Author.Tests.{eqb-true, le-ltb, lt-ltb}
use lib.Dec.{eqb, ltb}
use lib.ListN.{length}
use Rattle.model.specs.Limits.{most_fan_time, most_grams}
use Rattle.model.specs.Sets.{on}
use Rattle.model.specs.Lists.{All, none, also, total}
use Rattle.model.specs.Records.{pick, read, refused, record_size, class_kind, slot_kind, blank_at, class_parts, slot_parts, record_at, read_from, read_all}
use Rattle.model.specs.Plans.{Slot, PlanRecord, class_record, slot_record, class_of, slot_of, plan_record_of, plan_records, slots_in, slots_read}
use Rattle.model.specs.Stands.{starts}
use Rattle.model.specs.Line.{finished, shut, idle, dosing, unfed, fed_by, units_before, time_of, feeds, starts_before, earlier, earliest, state_by, fed_at}
use Rattle.model.specs.Line as line
use Rattle.model.proofs.Fractions.{compare≤}
use Rattle.model.proofs.Readings.{no_refusal, passed, went_on}
use Rattle.records.specs.Plan.{kind_at, slot_in}
use Rattle.std.proofs.Common.{Option, Some, None}
use Rattle.std.proofs.Math.Logic.{∥∥₁_elim}
use mathlib.Core.HLevel.{×_prop}
use Rattle.std.proofs.Math.Bridge.{le_prop}
use native.Mathlib.Nat.{ℕ_set}
use Rattle.draw.specs.Drawing.{own_slot, slot_units, fed_of, kept_of, earlier_fed, fed_from, state_kept, Drawable}
use Rattle.std.specs.Option.{MatchOption}
use Rattle.records.specs.Held.{as_slot}
use Rattle.records.specs.declared.plan_records.Slot as records
use Rattle.draw.specs.declared.line.Fed.{Fed}
use Rattle.draw.proofs.Points.{slots_known}

-- ---- a dose's slots, one after the other

module _ {A : Type 0} (d : ℕ) (step : Slot → A → A) (end : A) where
  -- those of a list, each taken by `step`, the last first
  unfoldable pub along : List Slot → A
  along [] = end
  along (s ∷ slots) = pick (eqb d s.dose) (step s (along slots)) (along slots)

  -- those among n records from record k on
  unfoldable pub over : List ℕ → ℕ → ℕ → A
  over b k zero = end
  over b k (suc n) = pick (own_slot b k d) (step (slot_in b k) (over b (suc k) n)) (over b (suc k) n)

  -- one record that is read
  one_read : (b : List ℕ) (k : ℕ) (x : PlanRecord) → plan_record_of (record_at b k) k ≡ read x → (a : A) (rest : List PlanRecord) → a ≡ along (slots_in rest)
      → pick (own_slot b k d) (step (slot_in b k) a) a ≡ along (slots_in (x ∷ rest))
  unfolding plan_record_of along slots_in own_slot slot_in
  one_read b k x e a rest q = go (eqb (kind_at b k) class_kind) (eqb (kind_at b k) slot_kind) (blank_at class_parts r 0) (blank_at slot_parts r 0) refl refl e
    where
      r : List ℕ
      r = record_at b k

      go : (class slot class_blank slot_blank : Bool) → eqb (kind_at b k) class_kind ≡ class → eqb (kind_at b k) slot_kind ≡ slot
          → pick class (pick class_blank (read (class_record (class_of r))) (refused 10 0)) (pick slot (pick slot_blank (read (slot_record (slot_of r))) (refused 10 0)) (refused 10 0)) ≡ read x
          → pick (slot && eqb d (slot_of r).dose) (step (slot_of r) a) a ≡ along (slots_in (x ∷ rest))
      go true true y z f g e = absurd (omega (arith, eqb-true (kind_at b k) class_kind f, eqb-true (kind_at b k) slot_kind g))
      go true false true z f g e = let w : x ≡ class_record (class_of r) = cc in rw w q
      go true false false z f g e = absurd (no_refusal 10 0 x e)
      go false true y true f g e = let w : x ≡ slot_record (slot_of r) = cc in rw (w, ← q)
      go false true y false f g e = absurd (no_refusal 10 0 x e)
      go false false y z f g e = absurd (no_refusal 10 0 x e)

  -- records that are read
  over_read : (b : List ℕ) (n k : ℕ) (rs : List PlanRecord) → read_from plan_record_of b k n ≡ read rs → over b k n ≡ along (slots_in rs)
  unfolding read_from over along slots_in
  over_read b zero k rs e = let w : rs ≡ [] = cc in rw w
  over_read b (suc n) k rs e =
      let x = went_on (plan_record_of (record_at b k) k) _ rs e in
      let y = went_on (read_from plan_record_of b (suc k) n) _ rs x.2 in
      rw (same x.0 y.0 y.2) (one_read b k x.0 x.1 (over b (suc k) n) y.0 (over_read b n (suc k) y.0 y.1))
    where
      same : (a : PlanRecord) (rest : List PlanRecord) → read (a ∷ rest) ≡ read rs → rs ≡ a ∷ rest
      same a rest q = cc

  -- all records of plan bytes
  over_all : (b : List ℕ) (h : Drawable b d) → over b 0 (length b / record_size) ≡ along (slots_read (plan_records b))
  unfolding plan_records
  over_all b h =
      over_read b (length b / record_size) 0 h.records (passed (eqb (length b % record_size) 0) (read_all plan_record_of b) 10 0 h.records h.are).1
      ∙ ap along (sym (slots_known b d h))

  -- the first of them, and the others
  over_first : (b : List ℕ) (k m : ℕ) → 0 < m → over b k m ≡ pick (own_slot b k d) (step (slot_in b k) (over b (k + 1) (m - 1))) (over b (k + 1) (m - 1))
  unfolding over
  over_first b k zero h = absurd (omega arith)
  over_first b k (suc m) h = let q : suc m - 1 ≡ m = omega arith in rw (q, add-one k)

  pub over_none : (b : List ℕ) (k m : ℕ) → m ≡ 0 → end ≡ over b k m
  unfolding over
  over_none b k m e = rw e

  -- record k is such a slot, or it is none
  pub over_own : (b : List ℕ) (k m : ℕ) → 0 < m → true ≡ own_slot b k d → step (slot_in b k) (over b (k + 1) (m - 1)) ≡ over b k m
  over_own b k m l e = rw (over_first b k m l, ← e)

  pub over_other : (b : List ℕ) (k m : ℕ) → 0 < m → false ≡ own_slot b k d → over b (k + 1) (m - 1) ≡ over b k m
  over_other b k m l e = rw (over_first b k m l, ← e)

-- ---- units

abbrev units_step : ℕ → Slot → ℕ → ℕ
units_step t s u = slot_units s t + u

-- the units of m records from record k on
unfoldable pub units_left : List ℕ → ℕ → ℕ → ℕ → ℕ → ℕ
units_left b d t k m = over d (units_step t) 0 b k m

units_along : (slots : List Slot) (d t : ℕ) → along d (units_step t) 0 slots ≡ units_before slots d t
unfolding units_before along total slot_units
units_along [] d t = refl
units_along (s ∷ slots) d t = go (eqb d s.dose) (units_along slots d t)
  where
    go : (own : Bool) {a r : ℕ} → a ≡ r → pick own (slot_units s t + a) a ≡ on own (slot_units s t) + r
    go true e = ap (λ (u : ℕ). slot_units s t + u) e
    go false e = omega (arith, e)

-- record k is a slot of the dose that adds u, or it is none
module _ (b : List ℕ) (d t k m sum : ℕ) (l : 0 < m) (inv : sum + units_left b d t k m ≡ units_left b d t 0 (length b / record_size)) where
  pub units_more : own_slot b k d ≡ true → (u : ℕ) → u ≡ slot_units (slot_in b k) t → sum + u + units_left b d t (k + 1) (m - 1) ≡ units_left b d t 0 (length b / record_size)
  unfolding units_left
  units_more e u q = omega (arith, q, over_own d (units_step t) 0 b k m l (sym e))

  pub units_same : own_slot b k d ≡ false → sum + units_left b d t (k + 1) (m - 1) ≡ units_left b d t 0 (length b / record_size)
  unfolding units_left
  units_same e = omega (arith, over_other d (units_step t) 0 b k m l (sym e))

-- the units of all, which are no more than a dose may have
pub units_all : (b : List ℕ) (d : ℕ) → ∥ Drawable b d ∥₁ → (t : ℕ)
    → (units_left b d t 0 (length b / record_size) ≡ units_before (slots_read (plan_records b)) d t)
    × (units_before (slots_read (plan_records b)) d t ≤ most_grams * most_fan_time)
unfolding units_left
units_all b d had t = ∥∥₁_elim had (×_prop (ℕ_set _ _) le_prop) (λ h. (
  over_all d (units_step t) 0 b h ∙ units_along (slots_read (plan_records b)) d t,
  omega (arith, ap (λ (slots : List Slot). units_before slots d t) (slots_known b d h), h.units_most t, h.time_most),
))

pub units_end : (b : List ℕ) (d t k m sum : ℕ) → sum + units_left b d t k m ≡ units_left b d t 0 (length b / record_size) → m ≡ 0 → ∥ Drawable b d ∥₁
    → sum ≡ units_before (slots_read (plan_records b)) d t
unfolding units_left
units_end b d t k m sum inv e had = omega (arith, inv, over_none d (units_step t) 0 b k m e, (units_all b d had t).0)

-- ---- P of the first slot of a dose

abbrev time_step : Slot → ℕ → ℕ
time_step s p = s.time

-- as m records from record k on have it
unfoldable pub time_left : List ℕ → ℕ → ℕ → ℕ → ℕ
time_left b d k m = over d time_step 0 b k m

time_along : (slots : List Slot) (d : ℕ) → along d time_step 0 slots ≡ time_of slots d
unfolding along time_of
time_along [] d = refl
time_along (s ∷ slots) d = ap (pick (eqb d s.dose) s.time) (time_along slots d)

module _ {b : List ℕ} {d : ℕ} (h : Drawable b d) (k m : ℕ) (inv : time_left b d k m ≡ time_left b d 0 (length b / record_size)) where
  time_all : time_left b d 0 (length b / record_size) ≡ time_of (slots_read (plan_records b)) d
  unfolding time_left
  time_all = over_all d time_step 0 b h ∙ time_along (slots_read (plan_records b)) d

  pub time_found : 0 < m → true ≡ own_slot b k d → (slot_in b k).time ≡ time_of (slots_read (plan_records b)) d
  unfolding time_left
  time_found l e = over_own d time_step 0 b k m l e ∙ inv ∙ time_all

  pub time_again : 0 < m → false ≡ own_slot b k d → time_left b d (k + 1) (m - 1) ≡ time_left b d 0 (length b / record_size)
  unfolding time_left
  time_again l e = over_other d time_step 0 b k m l e ∙ inv

  pub time_end : m ≡ 0 → 0 ≡ time_of (slots_read (plan_records b)) d
  unfolding time_left
  time_end e = over_none d time_step 0 b k m e ∙ inv ∙ time_all

-- ---- the earliest slot of a dose that feeds a second

-- what is kept by m records from record k on
unfoldable pub fed_left : List ℕ → ℕ → ℕ → ℕ → ℕ → Option Fed
fed_left b d t k m = over d (fed_from t) None b k m

-- numbers compare as their products with a third do
scaled : (a b : ℕ) {x y w : ℕ} → 0 < w → x ≡ w → y ≡ w → ltb a b ≡ ltb (a * x) (b * y)
scaled a b {w = w} l e g = rw (e, g) (elim (compare≤ b a) [
  | inl h ↦ le-ltb a b h ∙ sym (le-ltb (a * w) (b * w) (mul-le-mul_right w h))
  | inr h ↦ lt-ltb a b h ∙ sym (lt-ltb (a * w) (b * w) (mul-lt-mul_of_pos_right h l))
])

-- a slot that feeds names the W w
data Names (w : ℕ) : line.Feeding → Type 0 where
  nobody : Names w unfed
  named : {s : Slot} → s.weight ≡ w → Names w (fed_by s)

module _ (d t w : ℕ) (some : 0 < w) where
  -- among slots that name one W the earlier by units is the earlier, and names it too
  by_units : (s : Slot) → s.weight ≡ w → {f : line.Feeding} → Names w f → (Some (earlier_fed s (kept_of f)) ≡ kept_of (earlier s f)) × Names w (earlier s f)
  unfolding earlier_fed kept_of earlier starts_before
  by_units s e nobody = (refl, named e)
  by_units s e (named {s = u} g) = (
    rw (scaled (starts u) (starts s) some e g) (kept (ltb (starts u * s.weight) (starts s * u.weight))),
    both (ltb (starts u * s.weight) (starts s * u.weight)),
  )
    where
      kept : (b : Bool) → Some (pick b (fed_of u) (fed_of s)) ≡ Some (fed_of (pick b u s))
      kept true = refl
      kept false = refl

      both : (b : Bool) → Names w (fed_by (pick b u s))
      both true = named g
      both false = named e

  -- so that what is kept along a dose's slots is that of the earliest
  kept_along : {slots : List Slot} → All (λ s. s.dose ≡ d → s.weight ≡ w) slots
      → (along d (fed_from t) None slots ≡ kept_of (earliest slots d t)) × Names w (earliest slots d t)
  unfolding along earliest fed_from kept_of
  kept_along none = (refl, nobody)
  kept_along (also {a = s} {l = slots} own rest) = go (eqb d s.dose) (feeds s t) refl (kept_along rest)
    where
      rest_of : line.Feeding
      rest_of = earliest slots d t

      go : (mine fed : Bool) → eqb d s.dose ≡ mine → {a : Option Fed} → (a ≡ kept_of rest_of) × Names w rest_of
          → (pick mine (pick fed (Some (earlier_fed s a)) a) a ≡ kept_of (pick (mine && fed) (earlier s rest_of) rest_of))
          × Names w (pick (mine && fed) (earlier s rest_of) rest_of)
      go true true e h =
          let r = by_units s (own (sym (eqb-true d s.dose e))) h.1 in
          (ap (λ (f : Option Fed). Some (earlier_fed s f)) h.0 ∙ r.0, r.1)
      go true false e h = h
      go false fed e h = h

-- by no record
pub fed_none : (b : List ℕ) (d t k m : ℕ) → m ≡ 0 → None ≡ fed_left b d t k m
unfolding fed_left
fed_none b d t = over_none d (fed_from t) None b

-- by one record more, the one in front of those that were passed: a slot of the dose that feeds the second, or another record
module _ (b : List ℕ) (d t k n : ℕ) (l : k < n) {f : Option Fed} (e : f ≡ fed_left b d t (k + 1) (n - (k + 1))) where
  fed_back : pick (own_slot b k d) (fed_from t (slot_in b k) f) f ≡ fed_left b d t k (n - k)
  unfolding fed_left
  fed_back =
      let fewer : n - k - 1 ≡ n - (k + 1) = omega arith in
      rw e (sym (rw fewer at (over_first d (fed_from t) None b k (n - k) (omega arith))))

  pub fed_more : own_slot b k d ≡ true → feeds (slot_in b k) t ≡ true → {x : Fed} → x ≡ earlier_fed (slot_in b k) f → Some x ≡ fed_left b d t k (n - k)
  unfolding fed_from
  fed_more own fed q = rw q (rw (own, fed) at fed_back)

  pub fed_other : own_slot b k d ≡ false → f ≡ fed_left b d t k (n - k)
  fed_other own = rw own at fed_back

  pub fed_not : own_slot b k d ≡ true → feeds (slot_in b k) t ≡ false → f ≡ fed_left b d t k (n - k)
  unfolding fed_from
  fed_not own fed = rw (own, fed) at fed_back

state_of_kept : (f : line.Feeding) → state_kept (kept_of f) ≡ state_by f
unfolding state_kept kept_of state_by
state_of_kept unfed = refl
state_of_kept (fed_by s) = refl

-- by all of them: what the states are is told by numbers, since that bytes are drawable is told without the records
state_code : line.State → ℕ
state_code finished = 0
state_code shut = 1
state_code idle = 2
state_code (dosing fan) = suc (suc (suc fan))

coded_state : ℕ → line.State
coded_state zero = finished
coded_state (suc zero) = shut
coded_state (suc (suc zero)) = idle
coded_state (suc (suc (suc fan))) = dosing fan

state_back : (s : line.State) → coded_state (state_code s) ≡ s
unfolding coded_state state_code
state_back finished = refl
state_back shut = refl
state_back idle = refl
state_back (dosing fan) = refl

fed_known : {b : List ℕ} {d : ℕ} → Drawable b d → (t k : ℕ) → k ≡ 0 → {f : Option Fed} → f ≡ fed_left b d t k (length b / record_size - k)
    → state_kept f ≡ fed_at (slots_read (plan_records b)) d t
unfolding fed_left fed_at
fed_known {b} {d} h t k z e =
    let kept = (kept_along d t _ h.some_weight h.one_weight).0 in
    ap state_kept (rw (z, sub-zero) at e ∙ over_all d (fed_from t) None b h ∙ (rw (← slots_known b d h) at kept))
    ∙ state_of_kept (earliest (slots_read (plan_records b)) d t)

pub fed_all : (b : List ℕ) (d t k : ℕ) → ∥ Drawable b d ∥₁ → k ≡ 0 → {f : Option Fed} → f ≡ fed_left b d t k (length b / record_size - k)
    → state_kept f ≡ fed_at (slots_read (plan_records b)) d t
fed_all b d t k had z {f} e =
    sym (state_back (state_kept f))
    ∙ ap coded_state (∥∥₁_elim had (ℕ_set _ _) (λ h. ap state_code (fed_known h t k z e)))
    ∙ state_back (fed_at (slots_read (plan_records b)) d t)

-- no slot is no slot of the dose
pub none_owned : {o : Option records.Slot} {own : Bool} (x : Slot) → MatchOption o (own ≡ false) (λ s. (own ≡ true) × (as_slot s ≡ x)) → o ≡ None → own ≡ false
none_owned {o = None} x m e = m
none_owned {o = Some s} x m e = cc
