-- The first number that a test takes, looked for one by one; and the first dose that clashes, as `no_clash` finds it. Assumes nothing.
use Prim.Native.Nat.{ℕ, zero, suc, ◌+◌, ◌-◌, ◌<◌}
use mathlib.Core.Path.{◌≡◌, refl, sym, ap, ◌∙◌}
use mathlib.Core.Bool.{Bool, true, false, ◌||◌}
use mathlib.Core.List.{List, [], ◌∷◌, ◌++◌, append_assoc, append-nil}
use native.Mathlib.Omega.{arith}
use native.Mathlib.Numerals.{add-one}
use native.Mathlib.Nat.{add-zero, zero-add}
use lib.ListN.{length, get_or, length-append, get_or-append}
use lib.Seq.{get_or-append_seam}
use Rattle.model.specs.Records.{pick, Reading, read, refused}
use Rattle.model.specs.Orders.{fans_entry, dose_entry, no_dose, doses_in, clash, clashes_any, no_clash}
use Rattle.model.specs.Orders as orders
use Rattle.order.specs.declared.Order.{Order}
use Rattle.order.specs.Held.{dose_held}
use Rattle.order.specs.Gathered.{first_of, clashes_earlier}
use Rattle.std.specs.Prelude.{Option, Some, None, is_some}

-- ---- a test asked of one number after the other

module _ (test : ℕ → Bool) where
  -- no number is left
  pub first_none : (k m : ℕ) → m ≡ 0 → first_of test k m ≡ None
  unfolding first_of
  first_none k m e = rw e

  -- the next is taken
  pub first_stop : (k m : ℕ) → 0 < m → test k ≡ true → first_of test k m ≡ Some k
  unfolding first_of
  first_stop k zero h e = absurd (let z : ⊥ = omega arith in z)
  first_stop k (suc m) h e = rw e

  -- the next is not
  pub first_on : (k m : ℕ) → 0 < m → test k ≡ false → first_of test k m ≡ first_of test (k + 1) (m - 1)
  unfolding first_of
  first_on k zero h e = absurd (let z : ⊥ = omega arith in z)
  first_on k (suc m) h e = let q : suc m - 1 ≡ m = omega arith in rw (q, add-one k) (rw e)

  -- the first is among them
  pub first_below : (k n i : ℕ) → first_of test k n ≡ Some i → i < k + n
  unfolding first_of
  first_below k zero i e = absurd (let z : ⊥ = cc in z)
  first_below k (suc n) i e = go (test k) (first_below (suc k) n i) e where
    go : (b : Bool) → (first_of test (suc k) n ≡ Some i → i < suc k + n) → pick b (Some k) (first_of test (suc k) n) ≡ Some i → i < k + suc n
    go true h q = let same : k ≡ i = cc in omega arith
    go false h q = omega (arith, h q)

-- ---- the first clash, for any length of rest

-- the record index of each D, from index k on
unfoldable pub places_in : ℕ → List orders.Entry → List ℕ
places_in k [] = []
places_in k (fans_entry f ∷ es) = places_in (suc k) es
places_in k (dose_entry d ∷ es) = k ∷ places_in (suc k) es

-- 8 with the place of a dose; or all doses
abbrev pub found : List orders.Dose → List ℕ → Option ℕ → Reading (List orders.Dose)
found all ps (Some k) = refused 8 (get_or ps k 0)
found all ps None = read all

module _ (rest : ℕ) where
  -- a dose clashes with one of these exactly if there is a first that it clashes with
  any_first : (d : orders.Dose) (at : ℕ → orders.Dose) (l : List orders.Dose) (k : ℕ) → ((j : ℕ) → j < length l → at (k + j) ≡ get_or l j no_dose)
      → is_some (first_of (λ j. clash rest d (at j)) k (length l)) ≡ clashes_any rest d l
  unfolding first_of clashes_any
  any_first d at [] k h = refl
  any_first d at (x ∷ l) k h =
      let here : at k ≡ x = ap at (sym (add-zero k)) ∙ h 0 (omega arith) in
      let next : (j : ℕ) → suc k + j ≡ k + suc j = λ j. omega arith in
      rw here (go (clash rest d x) _ (any_first d at l (suc k) (λ j q. ap at (next j) ∙ h (suc j) (omega arith))))
    where
      go : (b : Bool) (m : Option ℕ) → is_some m ≡ clashes_any rest d l → is_some (pick b (Some k) m) ≡ b || clashes_any rest d l
      go true m q = refl
      go false m q = q

  module _ (o : Order) (all : List orders.Dose) (held : (k : ℕ) → dose_held o k ≡ get_or all k no_dose) where
    -- what the records left give behind doses that do not clash
    pub first_found : (es : List orders.Entry) (front : List orders.Dose) (ps : List ℕ) (i : ℕ) → front ++ doses_in es ≡ all → length ps ≡ length front
        → no_clash rest front i es ≡ found all (ps ++ places_in i es) (first_of (clashes_earlier rest o) (length front) (length (doses_in es)))
    unfolding places_in no_clash doses_in first_of
    first_found [] front ps i e n =
        let same : front ≡ all = sym (append-nil front) ∙ e in ap read same
    first_found (fans_entry f ∷ es) front ps i e n = first_found es front ps (suc i) e n
    first_found (dose_entry d ∷ es) front ps i e n =
        rw test
        (go (clashes_any rest d front)
        (first_found es (front ++ d ∷ []) (ps ++ i ∷ []) (suc i) (append_assoc front (d ∷ []) (doses_in es) ∙ e)
        (omega (arith, length-append front (d ∷ []), length-append ps (i ∷ [])))))
      where
        here : dose_held o (length front) ≡ d
        here = held (length front) ∙ ap (λ (l : List orders.Dose). get_or l (length front) no_dose) (sym e) ∙ get_or-append_seam front d (doses_in es) no_dose

        before : (j : ℕ) → j < length front → dose_held o (0 + j) ≡ get_or front j no_dose
        before j q =
            ap (dose_held o) (zero-add j) ∙ held j ∙ ap (λ (l : List orders.Dose). get_or l j no_dose) (sym e)
            ∙ get_or-append front (d ∷ doses_in es) no_dose j q

        test : clashes_earlier rest o (length front) ≡ clashes_any rest d front
        test =
            ap (λ (x : orders.Dose). is_some (first_of (λ j. clash rest x (dose_held o j)) 0 (length front))) here
            ∙ any_first d (dose_held o) front 0 before

        longer : length (front ++ d ∷ []) ≡ suc (length front)
        longer = omega (arith, length-append front (d ∷ []))

        go : (b : Bool) {later : Reading (List orders.Dose)}
            → later ≡ found all ((ps ++ i ∷ []) ++ places_in (suc i) es) (first_of (clashes_earlier rest o) (length (front ++ d ∷ [])) (length (doses_in es)))
            → pick b (refused 8 i) later
            ≡ found all (ps ++ i ∷ places_in (suc i) es) (pick b (Some (length front)) (first_of (clashes_earlier rest o) (suc (length front)) (length (doses_in es))))
        go true h =
            ap (refused 8) (sym (rw n at (get_or-append_seam ps i (places_in (suc i) es) 0)))
        go false h = rw (append_assoc ps (i ∷ []) (places_in (suc i) es), longer) at h
