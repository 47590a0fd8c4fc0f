-- Judging needs no search: sets with falling rates whose slots meet the clauses of "A plan stands" are the order's classes.
use mathlib.Core.Path.{◌≡◌, subst, sym}
use mathlib.Core.List.{List}
use Prim.Native.Nat.{ℕ}
use native.Mathlib.Omega.{arith}
use Rattle.model.specs.Sets.{Doses}
use Rattle.model.specs.Records.{read}
use Rattle.model.specs.Orders.{Order}
use Rattle.model.specs.Classes.{Classes, Row}
use Rattle.model.specs.Intervals.{fans_present, setting_of}
use Rattle.model.specs.Plans.{Slot, plan_of, plan_records}
use Rattle.model.specs.Layout.{classes_of}
use Rattle.model.specs.Stands.{SlotsStand, Stands}
use Rattle.model.proofs.FanTime.{weighs}
use Rattle.model.proofs.Certificate.{Falling, judged}
use Rattle.model.proofs.Orders.{Fit}
use Rattle.model.proofs.Windows.{heavy}
use Rattle.model.proofs.PlanPieces.{crew_all, grid_pos, house_of, pieces_run, pieces_total, pieces_of}

module _ (o : Order) (fit : Fit o) (p : ℕ) (C : ℕ → Doses) (f : Falling (setting_of o) (fans_present o) p C) (slots : List Slot) (st : SlotsStand o p C slots) where
  -- sets with falling rates, and slots that stand for them, are the order's classes
  pub certified_classes : Classes (setting_of o) (fans_present o) p C
  certified_classes =
      let pos = grid_pos o p C 1 (λ l h. weighs (setting_of o) (heavy o fit) (C l) (f.some l h)) (omega arith) in
      let falling = subst (λ (F : Row). Falling (setting_of o) F p C) (sym (crew_all o)) f in
      subst (λ (F : Row). Classes (setting_of o) F p C) (crew_all o)
      (judged (setting_of o) (house_of o) (pieces_of o p C 1 slots) (pieces_run o p C 1 slots st pos) p C (heavy o fit) pos falling (pieces_total o p C 1 slots st f.nest))

  -- so plan bytes with their records stand
  pub certified_stands : (plan : List ℕ) → plan_records plan ≡ read (plan_of (classes_of o p C) slots) → Stands o plan
  certified_stands plan e = record { count = p; sets = C; classes = certified_classes; slots = slots; records = e; stand = st }
