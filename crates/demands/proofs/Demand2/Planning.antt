-- What planning an accepted order leaves in its buffer: a plan that stands, of as many records as are counted.
use mathlib.Core.Path.{◌∙◌, ◌≡◌, ap, refl, subst, sym}
use mathlib.Core.List.{List}
use Prim.Native.Nat.{ℕ, ◌+◌, ◌*◌, ◌-◌, ◌≤◌}
use native.Mathlib.Omega.{arith}
use lib.ListN.{drop, get_or, length, length-append, length-drop, take}
use lib.Seq.{get_or-append-add, get_or-drop, take-append_seam}
use Rattle.model.specs.Records.{record_size}
use Rattle.model.specs.Limits.{last_open_bay, plan_room}
use Rattle.model.specs.Orders.{Order}
use Rattle.model.specs.Stands.{Stands}
use Rattle.model.specs.Answers.{Accepts, Planned, Plans, done, no_room, overwritten, plan_bytes, plans, refuses}
use Rattle.model.proofs.Orders.{read_fits}
use Rattle.model.proofs.Planner.{plan_length, plan_room_lem}
use Rattle.model.proofs.Written.{plan_stands}
use Rattle.demands.proofs.Existence.{classes_of_lem, shares_of}
use Rattle.demands.proofs.Demand2.Refusing.{refused_names}

-- an accepted order has a plan that stands
pub accepted_plan : {last : ℕ} (order : List ℕ) (o : Order) → Accepts last order o → (plan : List ℕ) × Stands o plan
accepted_plan {last} order o a =
    let fit = read_fits last order o a.reads in
    let r = classes_of_lem o fit in
    let v = shares_of o r.0 r.1 r.2 in
    (plan_bytes o r.0 r.1 v.0, plan_stands o fit r.0 r.1 r.2 v.0 v.1)

-- what planning leaves: the plan in front of the rest of the buffer, and its counts
pub record Left (o : Order) (before after : List ℕ) (r : Planned) : Type 0 where
  pub plan : List ℕ
  pub stands : Stands o plan
  pub bytes : after ≡ overwritten before plan
  pub finished : r.answer ≡ done
  pub counted : length plan ≡ record_size * (r.classes + r.slots)

-- planning an accepted order with room for the plan leaves that
pub planned : (order before : List ℕ) (o : Order) → Accepts last_open_bay order o → plan_room ≤ length before → (r : Planned) (after : List ℕ) → Plans order before r after
    → Left o before after r
planned order before o a room r after (no_room small) = absurd (omega arith)
planned order before o a room r after (refuses l b refuse) =
    let n = refused_names order o a.reads b refuse in
    absurd (a.slow n.0.set n.0.first n.0.too_fast)
planned order before o a room r after (plans l o' a' p C c x v) =
    let reads = a.reads in
    let reads' = a'.reads in
    let same : o' ≡ o = cc in
    let fit = read_fits last_open_bay order o' a'.reads in
    record {
      plan = plan_bytes o' p C x;
      stands = subst (λ (o : Order). Stands o (plan_bytes o' p C x)) same (plan_stands o' fit p C c x v);
      bytes = refl;
      finished = refl;
      counted = plan_length o' fit p C c x v;
    }

-- ---- the bytes of the buffer

module _ (before plan : List ℕ) where
  -- the plan stands in front
  front_overwritten : take (length plan) (overwritten before plan) ≡ plan
  front_overwritten = take-append_seam plan (drop (length plan) before)

  -- as many bytes as before
  length_overwritten : length plan ≤ length before → length (overwritten before plan) ≡ length before
  length_overwritten h = omega (arith, length-append plan (drop (length plan) before), length-drop (length plan) before)

  -- those behind the plan as before
  behind_overwritten : (i : ℕ) → length plan ≤ i → get_or (overwritten before plan) i 0 ≡ get_or before i 0
  behind_overwritten i h =
      let n = length plan in
      let on : n + (i - n) ≡ i = omega arith in
      let seam : get_or (overwritten before plan) (n + (i - n)) 0 ≡ get_or before (n + (i - n)) 0 =
      get_or-append-add plan (drop n before) (i - n) 0 ∙ get_or-drop n before (i - n) 0 in
      rw on at seam

-- "success changes only the plan's own records", and a refusal, which has none, no byte
pub record Kept (before after : List ℕ) (r : Planned) : Type 0 where
  pub as_long : length after ≡ length before
  pub behind : (i : ℕ) → record_size * (r.classes + r.slots) ≤ i → get_or after i 0 ≡ get_or before i 0

pub kept : {order before : List ℕ} {r : Planned} {after : List ℕ} → Plans order before r after → Kept before after r
kept (no_room small) = record { as_long = refl; behind = λ i l. refl }
kept (refuses l b refuse) = record { as_long = refl; behind = λ i l. refl }
kept {order} {before} (plans l o a p C c x v) =
    let fit = read_fits last_open_bay order o a.reads in
    record {
      as_long = length_overwritten before (plan_bytes o p C x) (omega (arith, plan_room_lem o fit p C c x v));
      behind = λ i q. behind_overwritten before (plan_bytes o p C x) i (omega (arith, plan_length o fit p C c x v));
    }

-- the first records of the buffer are a plan that stands
pub plan_in_front : (order before : List ℕ) (o : Order) → Accepts last_open_bay order o → plan_room ≤ length before → (r : Planned) (after : List ℕ) → Plans order before r after
    → Stands o (take (record_size * (r.classes + r.slots)) after)
plan_in_front order before o a room r after h =
    let left = planned order before o a room r after h in
    let plan = left.plan in
    let front : take (record_size * (r.classes + r.slots)) after ≡ plan =
    ap (λ (n : ℕ). take n after) (sym left.counted) ∙ ap (take (length plan)) left.bytes ∙ front_overwritten before plan in
    subst (λ (b : List ℕ). Stands o b) (sym front) left.stands
