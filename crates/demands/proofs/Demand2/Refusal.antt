-- Refusal 9 is exact: a plan under the top rate exists just where the first class is not above it.
use mathlib.Core.Path.{◌∙◌, ◌≡◌, ap, refl}
use Prim.Native.Nat.{◌*◌, ◌<◌, ◌≤◌, ℕ}
use native.Mathlib.Omega.{arith}
use lib.Dec.{T}
use Rattle.model.specs.Sets.{Doses, on, weight}
use Rattle.model.specs.Classes.{Classes, P, Setting, W, class_p}
use Rattle.model.proofs.Sums.{one_term}
use Rattle.model.proofs.Sets.{on_no, on_yes}
use Rattle.model.proofs.Sequence.{all_in_lem, one_class, stays_open, upto_find}
use Rattle.model.proofs.Moments.{House, Pieces, Runs, crew}
use Rattle.model.proofs.Certificate.{Totals}
use Rattle.demands.proofs.Demand2.FreeBound.{Delivers, top_bound}
use Rattle.demands.proofs.Demand2.OwnPlan.{Speeds, own_delivers, own_slow}
use Rattle.model.proofs.Products.{others, others_times, product, product_pos}

-- a plan with any moments and any rates up to the top, that delivers every dose
pub record FreePlan (S : Setting) (G : House S) (top_grams top_seconds : ℕ) : Type 0 where
  pub pieces : Pieces
  pub runs : Runs S G pieces
  pub cells : 0 < pieces.Q
  pub rate : ℕ → ℕ
  pub denominator : ℕ
  pub whole : 0 < denominator
  pub delivers : Delivers S pieces rate denominator
  pub slow : (i : ℕ) → i < pieces.m → rate i * top_seconds ≤ top_grams * denominator

module _ (S : Setting) (G : House S) (top_grams top_seconds : ℕ) where
  open S use {doses as n}

  -- none if any set is above the top, as the first class is where 9 is given
  pub none_if_refused : (A : Doses) → P S (crew G) A * top_grams < W S A * top_seconds → FreePlan S G top_grams top_seconds → ⊥
  none_if_refused A h f =
      omega (arith, top_bound S G f.pieces f.runs f.rate f.denominator f.delivers f.cells f.whole top_grams top_seconds f.slow A)

  -- one if the first class is not above it: the pieces of any plan of the classes, each at its class's rate
  module _ (p : ℕ) (C : ℕ → Doses) (c : Classes S (crew G) p C) (some : 0 < p → 0 < P S (crew G) (C 0)) (Z : Pieces) (runs : Runs S G Z) (cells : 0 < Z.Q)
      (totals : Totals S G Z p C) where
    abbrev Pl : ℕ → ℕ
    Pl l = class_p S (crew G) C l

    abbrev speed : ℕ → ℕ
    speed l = W S (C l) * others p Pl l

    fit : Speeds S (crew G) p C (product p Pl) speed
    fit l q = omega (arith, ap (λ (y : ℕ). W S (C l) * y) (others_times p Pl l q))

    -- the speed of the piece's class
    abbrev rate_of : ℕ → ℕ
    rate_of i = weight p speed (λ l. C l (Z.dose i))

    same : (i l : ℕ) → i < Z.m → l < p → T (C l (Z.dose i)) → rate_of i ≡ speed l
    unfolding weight
    same i l q r t =
        one_term p l (λ l'. on (C l' (Z.dose i)) (speed l')) r (λ l' r' ne. on_no (C l' (Z.dose i)) (speed l')
        (λ t'. ne (one_class S (crew G) p C c l' l (Z.dose i) r' r (runs.in_dose i q) t' t)))
        ∙ on_yes (C l (Z.dose i)) (speed l) t

    class_of : (k : ℕ) → k < n → 0 < p
    class_of k l = let r = upto_find C p k (all_in_lem S (crew G) p C c k l) in omega (arith, r.1)

    -- the plan
    pub one_if_accepted : (0 < p → W S (C 0) * top_seconds ≤ P S (crew G) (C 0) * top_grams) → FreePlan S G top_grams top_seconds
    one_if_accepted first = record {
      pieces = Z;
      runs = runs;
      cells = cells;
      rate = rate_of;
      denominator = product p Pl;
      whole = product_pos p Pl (λ l q. stays_open S (crew G) p C c (some (omega arith)) l q);
      delivers = λ k l. own_delivers S G Z runs p C c (product p Pl) speed fit (some (class_of k l)) rate_of same totals k l;
      slow = λ i l.
          let q = class_of (Z.dose i) (runs.in_dose i l) in
          own_slow S G Z runs p C c (product p Pl) speed fit (some q) rate_of same top_grams top_seconds (first q) i l;
    }

    -- its pieces are those
    pub own_pieces : (first : 0 < p → W S (C 0) * top_seconds ≤ P S (crew G) (C 0) * top_grams) → (one_if_accepted first).pieces ≡ Z
    unfolding one_if_accepted
    own_pieces first = refl
