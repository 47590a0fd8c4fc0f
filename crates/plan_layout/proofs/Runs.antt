-- Laws of records written one behind the other. Assumes nothing.
use mathlib.Core.Path.{◌≡◌, refl, sym, ap, ◌∙◌}
use mathlib.Core.List.{List, [], ◌∷◌, ◌++◌, append-nil, map, map-append}
use Prim.Native.Nat.{ℕ, ◌+◌, ◌*◌, ◌≤◌, ◌<◌}
use native.Mathlib.Numerals.{add-one}
use native.Mathlib.Omega.{arith}
use lib.ListN.{length, length-append, length-map}
use Rattle.model.specs.Records.{record_size}
use Rattle.records.specs.Written.{written}
use Rattle.records.proofs.Laws.{join, length_written, written_none}
use Rattle.model.specs.Lists.{gather}
use Rattle.model.specs.Plans.{PlanRecord, plan_record_bytes, records_bytes}
use Rattle.model.proofs.Lists.{length_gather, sum_before}
use Rattle.model.proofs.Plans.{length_records, records_append}
use Rattle.plan_layout.specs.declared.Plan.{Plan}
use Rattle.plan_layout.specs.Laying.{Wrote}
use Rattle.plan_layout.specs.Growing.{Fits, Grows}

-- one of n gathered lists and those before it fit where all fit
pub gather_fits : {A : Type 0} (f : ℕ → List A) (n k : ℕ) → k < n → length (gather k f) + length (f k) ≤ length (gather n f)
gather_fits f n k h = omega (arith, length_gather n f, length_gather k f, sum_before n (λ i. length (f i)) k h)

module _ {A : Type 0} {kind : A → PlanRecord} where
  -- the promise leaves no choice
  pub wrote_same : {l : List A} {b b₁ b₂ : List ℕ} {r r₁ r₂ : ℕ} → Wrote kind l b r b₁ r₁ → Wrote kind l b r b₂ r₂ → (b₁ ≡ b₂) × (r₁ ≡ r₂)
  wrote_same h g = (h.now ∙ sym g.now, h.next ∙ sym g.next)

  -- the buffer is as long as before
  pub wrote_length : {l : List A} {b b' : List ℕ} {r r' : ℕ} → Wrote kind l b r b' r' → length b' ≡ length b
  wrote_length {l} {b} {r = r} h = ap length h.now ∙ length_written b (record_size * r) (records_bytes (map kind l))

  -- no record
  pub wrote_none : (b : List ℕ) (r : ℕ) → Wrote kind [] b r b r
  unfolding records_bytes
  wrote_none b r = record { next = omega arith; now = written_none b (record_size * r) }

  -- one
  pub wrote_one : {a a' : A} {b b' : List ℕ} {r : ℕ} → a ≡ a' → b' ≡ written b (record_size * r) (plan_record_bytes (kind a)) → Wrote kind (a' ∷ []) b r b' (r + 1)
  unfolding records_bytes
  wrote_one {a} {a'} {b} {r = r} e f = record { next = refl; now = f ∙ ap (written b (record_size * r)) (ap (λ (v : A). plan_record_bytes (kind v)) e ∙ sym (append-nil (plan_record_bytes (kind a')))) }

  -- some, then more behind them
  pub wrote_more : {p q : List A} {b b₁ b₂ : List ℕ} {r r₁ r₂ : ℕ} → Wrote kind p b r b₁ r₁ → Wrote kind q b₁ r₁ b₂ r₂ → Wrote kind (p ++ q) b r b₂ r₂
  wrote_more {p} {q} {b} {r = r} h g = record {
    next = omega (arith, h.next, g.next, length-append p q);
    now =
        join b (records_bytes (map kind p)) (records_bytes (map kind q)) (record_size * r) h.now g.now
        (omega (arith, h.next, length_records (map kind p), length-map p kind))
        ∙ ap (written b (record_size * r)) (sym (ap records_bytes (map-append kind p q) ∙ records_append (map kind p) (map kind q)));
  }

  -- ---- the same of a plan that grows

  pub grows_none : {p : Plan} → Grows kind [] p p
  grows_none = record { same_reference = refl; wrote = wrote_none _ _ }

  pub grows_more : {l m : List A} {p q r : Plan} → Grows kind l p q → Grows kind m q r → Grows kind (l ++ m) p r
  grows_more h g = record { same_reference = g.same_reference ∙ h.same_reference; wrote = wrote_more h.wrote g.wrote }

  -- what is left of the room
  pub fits_behind : {l : List A} {p q : Plan} (m n : ℕ) → Fits m p → Grows kind l p q → length l + n ≤ m → Fits n q
  fits_behind m n f h e = omega (arith, f, h.wrote.next, wrote_length h.wrote, e)

  -- lists that are gathered, one at a time
  module _ (f : ℕ → List A) {p : Plan} where
    pub gather_none : Grows kind (gather 0 f) p p
    unfolding gather
    gather_none = grows_none

    pub gather_more : {q r : Plan} (k : ℕ) → Grows kind (gather k f) p q → Grows kind (f k) q r → Grows kind (gather (k + 1) f) p r
    unfolding gather
    gather_more k h g = rw add-one (grows_more h g)

    -- room for one of n
    pub gather_room : (n : ℕ) {q : Plan} (k : ℕ) → k < n → Fits (length (gather n f)) p → Grows kind (gather k f) p q → Fits (length (f k)) q
    gather_room n k l r h = fits_behind (length (gather n f)) (length (f k)) r h (gather_fits f n k l)
