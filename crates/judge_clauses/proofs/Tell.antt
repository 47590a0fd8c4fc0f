-- From the tests that the code made to what they tell. Assumes nothing.
use mathlib.Core.Path.{◌≡◌, ◌∙◌, refl, sym}
use mathlib.Core.Bool.{Bool, true, false, ◌&&◌}
use mathlib.Core.List.{List}
use Prim.Native.Nat.{ℕ, ◌<◌, ◌≤◌}
use native.Mathlib.Omega.{arith}
use borrow.Author.Tests.{eqb-true, eqb-false, leb-true, leb-false, ltb-true, ltb-false}
use lib.Dec.{eqb, leb, ltb}
use Rattle.model.specs.Records.{record_at}
use Rattle.records.specs.Plan.{is_class, is_slot}
use Rattle.judge_clauses.specs.Tests.{ClassRow, SlotRow, Tells}

module _ {P : Type 0} where
  pub tells_on : P → Tells true P
  tells_on h = record { yes = λ e. h; no = λ e g. let z : ◌≡◌ {A = ℕ} 0 1 = cc in omega arith }

  pub tells_off : (P → ⊥) → Tells false P
  tells_off f = record { yes = λ e. let z : ◌≡◌ {A = ℕ} 0 1 = cc in absurd (omega arith); no = λ e. f }

  -- a test that the code made
  pub tells_not : {r : Bool} → Tells r P → r ≡ false → P → ⊥
  tells_not {r} t e = t.no e

  pub tells_was : {r : Bool} → Tells r P → r ≡ true → P
  tells_was {r} t e = t.yes e

  -- the last test decides
  pub tells_leb : (a b : ℕ) → (a ≤ b → P) → (P → a ≤ b) → Tells (leb a b) P
  tells_leb a b f g = record { yes = λ e. f (leb-true a b e); no = λ e h. let l : a ≤ b = g h in omega (arith, leb-false a b e) }

  pub tells_ltb : (a b : ℕ) → (a < b → P) → (P → a < b) → Tells (ltb a b) P
  tells_ltb a b f g = record { yes = λ e. f (ltb-true a b e); no = λ e h. let l : a < b = g h in omega (arith, ltb-false a b e) }

  pub tells_eqb : (a b : ℕ) → (a ≡ b → P) → (P → a ≡ b) → Tells (eqb a b) P
  tells_eqb a b f g = record { yes = λ e. f (eqb-true a b e); no = λ e h. eqb-false a b e (g h) }

  -- a test that tells of Q, where Q decides P
  pub tells_by : {Q : Type 0} {r : Bool} → Tells r Q → (Q → P) → (P → Q) → Tells r P
  tells_by t f g = record { yes = λ e. f (t.yes e); no = λ e h. t.no e (g h) }

  -- two tests that tell of P answer the same
  pub tells_one : {r s : Bool} → Tells r P → Tells s P → r ≡ s
  tells_one {r} {s} t u = go r s refl refl
    where
      go : (a b : Bool) → r ≡ a → s ≡ b → r ≡ s
      go true true e f = e ∙ sym f
      go true false e f = absurd (u.no f (t.yes e))
      go false true e f = absurd (t.no e (u.yes f))
      go false false e f = e ∙ sym f

-- ---- records

-- two tests as one: a number, and a Bool
tells_both : {P : Type 0} (k m : ℕ) (b : Bool) {t : Bool} → t ≡ eqb k m && b → (k ≡ m → b ≡ true → P) → (P → (k ≡ m) × (b ≡ true)) → Tells t P
tells_both {P} k m b e f g = rw e (go (eqb k m) b refl refl)
  where
    go : (x y : Bool) → eqb k m ≡ x → b ≡ y → Tells (x && y) P
    go true true p q = tells_on (f (eqb-true k m p) q)
    go true false p q = tells_off (λ h. let z : true ≡ false = sym (g h).1 ∙ q in let w : ◌≡◌ {A = ℕ} 0 1 = cc in omega arith)
    go false y p q = tells_off (λ h. eqb-false k m p (g h).0)

-- record i is a C with its zeros
pub tells_class : (plan : List ℕ) (i : ℕ) {t : Bool} → t ≡ is_class plan i → Tells t (ClassRow (record_at plan i))
unfolding is_class
tells_class plan i e = tells_both _ _ _ e (λ k b. record { kind = k; blank = b }) (λ h. (h.kind, h.blank))

-- or an S with its zeros
pub tells_slot : (plan : List ℕ) (i : ℕ) {t : Bool} → t ≡ is_slot plan i → Tells t (SlotRow (record_at plan i))
unfolding is_slot
tells_slot plan i e = tells_both _ _ _ e (λ k b. record { kind = k; blank = b }) (λ h. (h.kind, h.blank))
