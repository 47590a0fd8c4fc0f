-- Two answers that planning allows: `plans_agree` of the model says that they agree on all but the slots and their number. Here: with the same
-- shares they are one answer and leave the same bytes, and no answer changes a byte past the records that it counts. Assumes nothing.
use mathlib.Core.Path.{◌∙◌, ◌≡◌, ap, refl, subst, sym}
use mathlib.Core.List.{List}
use Prim.Native.Nat.{ℕ, ◌+◌, ◌*◌, ◌<◌}
use native.Mathlib.Omega.{arith}
use lib.ListN.{drop, length}
use lib.Seq.{drop_at}
use Rattle.std.specs.Prelude.{Result, Ok, Err, eqb}
use Rattle.model.specs.Limits.{last_open_bay}
use Rattle.model.specs.Records.{pick, record_size}
use Rattle.model.specs.Sets.{Doses}
use Rattle.model.specs.Orders.{Order}
use Rattle.model.specs.Classes.{Classes}
use Rattle.model.specs.Intervals.{fans_present, setting_of}
use Rattle.model.specs.Answers.{Accepts, Answer, Planned, Plans, done, no_room, overwritten, plan_bytes, plans, refuses}
use Rattle.model.proofs.Orders.{read_fits}
use Rattle.model.proofs.Sequence.{count_unique}
use Rattle.model.proofs.Planner.{plan_length}
use Rattle.model.proofs.Answers.{one_order, plan_settled, refused_not_accepted, refuses_one}
use Rattle.order.specs.declared.refusal.Refusal.TheVariants as kind
use Rattle.order.specs.Held as held
use Rattle.plan.specs.declared.Planned as code
use Rattle.plan.specs.declared.refusal.Refusal.{Refusal}
use Rattle.plan.specs.declared.refusal.Refusal.TheVariants as is
use Rattle.plan.specs.Answered.{as_planned}

-- "success changes only the plan's own records", and a refusal counts none: past the records counted each byte is as it was
pub rest_unchanged : {order before after : List ℕ} {r : Planned} → Plans order before r after
    → drop (record_size * (r.classes + r.slots)) after ≡ drop (record_size * (r.classes + r.slots)) before
rest_unchanged (no_room small) = refl
rest_unchanged (refuses l a h) = refl
rest_unchanged {order} {before} (plans l o a p C c x v) =
    let size = plan_length o (read_fits last_open_bay order o a.reads) p C c x v in
    drop_at (plan_bytes o p C x) (drop (length (plan_bytes o p C x)) before) _ size ∙ ap (λ (n : ℕ). drop n before) size

-- the answer that says this
abbrev held_refusal : Answer → Refusal
held_refusal a =
    pick (eqb a.number 1) is.NoRoom (pick (eqb a.number 9) (is.TooFast (record { set = a.set; weight = a.weight; time = a.time })) (is.Order (held.held_refusal a.number a.place)))

abbrev held_planned : Planned → Result code.Planned Refusal
held_planned p = pick (eqb p.answer.number 0) (Ok (record { classes = p.classes; slots = p.slots })) (Err (held_refusal p.answer))

planned_back : (r : Result code.Planned Refusal) → held_planned (as_planned r) ≡ r
planned_back (Ok p) = refl
planned_back (Err is.NoRoom) = refl
planned_back (Err (is.TooFast f)) = refl
planned_back (Err (is.Order kind.Length)) = refl
planned_back (Err (is.Order (kind.Kind k))) = refl
planned_back (Err (is.Order (kind.NotBlank k))) = refl
planned_back (Err (is.Order (kind.OutOfRange k))) = refl
planned_back (Err (is.Order kind.NotOneFans)) = refl
planned_back (Err (is.Order kind.TooManyDoses)) = refl
planned_back (Err (is.Order (kind.Clash k))) = refl
planned_back (Err (is.Order (kind.TrialBay k))) = refl

-- answers that say the same are the same
pub planned_one : (r s : Result code.Planned Refusal) → as_planned r ≡ as_planned s → r ≡ s
planned_one r s e = sym (planned_back r) ∙ ap held_planned e ∙ planned_back s

-- the shares that an answer was planned with
unfoldable pub shares_of : {order before after : List ℕ} {r : Planned} → Plans order before r after → ℕ → ℕ → ℕ → ℕ
shares_of (no_room small) i k j = 0
shares_of (refuses l a h) i k j = 0
shares_of (plans l o a p C c x v) i k j = x i k j

-- two plans of an order with the same shares
module _ (o : Order) (p p' : ℕ) (C C' : ℕ → Doses) (c : Classes (setting_of o) (fans_present o) p C) (c' : Classes (setting_of o) (fans_present o) p' C')
    (x x' : ℕ → ℕ → ℕ → ℕ) (same : (i k j : ℕ) → i < p → k < (setting_of o).doses → j < (setting_of o).intervals → x i k j ≡ x' i k j) where
  pub count_same : p ≡ p'
  count_same = count_unique (setting_of o) (fans_present o) p p' C C' c c'

  pub bytes_same : plan_bytes o p C x ≡ plan_bytes o p' C' x'
  bytes_same =
      let d : Classes (setting_of o) (fans_present o) p C' = subst (λ (n : ℕ). Classes (setting_of o) (fans_present o) n C') (sym count_same) c' in
      plan_settled o p C C' c d x x' same ∙ ap (λ (n : ℕ). plan_bytes o n C' x') count_same

counted : {p p' n n' : ℕ} → p ≡ p' → n ≡ n'
    → ◌≡◌ {A = Planned} (record { answer = done; classes = p; slots = n }) (record { answer = done; classes = p'; slots = n' })
counted e f = rw (e, f)

-- with the same shares: the same answer, counts and bytes
pub same_shares : {order before after after' : List ℕ} {r r' : Planned} (h : Plans order before r after) (g : Plans order before r' after')
    → ((o : Order) → Accepts last_open_bay order o → (i k j : ℕ) → i < r.classes → k < (setting_of o).doses → j < (setting_of o).intervals → shares_of h i k j ≡ shares_of g i k j)
    → (r ≡ r') × (after ≡ after')
unfolding shares_of
same_shares (no_room small) (no_room small') s = (refl, refl)
same_shares (no_room small) (refuses l a h) s = absurd (omega arith)
same_shares (no_room small) (plans l o a p C c x v) s = absurd (omega arith)
same_shares (refuses l a h) (no_room small) s = absurd (omega arith)
same_shares (refuses l a h) (refuses l' b g) s = (rw (refuses_one h g), refl)
same_shares (refuses l a h) (plans l' o b p C c x v) s = absurd (refused_not_accepted h b)
same_shares (plans l o a p C c x v) (no_room small) s = absurd (omega arith)
same_shares (plans l o a p C c x v) (refuses l' b h) s = absurd (refused_not_accepted h a)
same_shares {order} {before} (plans l o a p C c x v) (plans l' q b p' C' c' x' v') s =
    let one : q ≡ o = one_order b a in
    let d : Classes (setting_of o) (fans_present o) p' C' = subst (λ (y : Order). Classes (setting_of y) (fans_present y) p' C') one c' in
    let count = count_same o p p' C C' c d x x' (s o a) in
    let bytes : plan_bytes o p C x ≡ plan_bytes q p' C' x' = bytes_same o p p' C C' c d x x' (s o a) ∙ ap (λ (y : Order). plan_bytes y p' C' x') (sym one) in
    let size = plan_length o (read_fits last_open_bay order o a.reads) p C c x v in
    let size' = plan_length q (read_fits last_open_bay order q b.reads) p' C' c' x' v' in
    (counted count (omega (arith, ap length bytes)), ap (overwritten before) bytes)
