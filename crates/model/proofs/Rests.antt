-- Windows of one bay, for any length of rest (document 02, C-16: "shown once over the length of rest"): where no two clash they are apart, and else 8
-- has the place of the first that does; a longer rest asks for more. Assumes nothing.
use mathlib.Core.Bool.{Bool, true, false, not, ◌||◌}
use mathlib.Core.Logic.{◌↔◌, ◌⊎◌, inl, inr}
use mathlib.Core.Path.{◌≡◌, refl, sym, ap, subst, ◌∙◌}
use mathlib.Core.List.{List, [], ◌∷◌, ◌++◌, append_assoc, append-nil}
use Prim.Native.Nat.{ℕ, zero, suc, ◌+◌, ◌≤◌, ◌<◌}
use native.Mathlib.Nat.{eq-or-lt_of_le}
use native.Mathlib.Omega.{arith}
use borrow.Author.Tests.{eq-eqb, lt-leb}
use lib.Dec.{T, eqb, leb, eqb→eq, T_not, nleb→lt}
use lib.ListN.{length, get_or, length-append, get_or-append}
use lib.Seq.{get_or-append_seam}
use Rattle.model.specs.Lists.{All, none, also, Pairs, lone, then}
use Rattle.model.specs.Records.{pick, Reading, read, refused}
use Rattle.model.specs.Orders.{Dose, no_dose, Entry, fans_entry, dose_entry, doses_in, apart, clash, clashes_any, no_clash}
use Rattle.model.proofs.Sets.{and_left, and_right, or_elim, or_left, or_right}
use Rattle.model.proofs.Lists.{Pairs-append}
use Rattle.model.proofs.Sums.{last}
use Rattle.model.proofs.Fractions.{compare≤}
use Rattle.model.proofs.Readings.{no_refusal, Says, refusal_says, says_pick}

-- neither of two tests holds
neither : (a b : Bool) → T (not (a || b)) → T (not a) × T (not b)
neither true b u = elim u [ ]
neither false b u = (tt, u)

-- ---- no clash

module _ (rest : ℕ) where
  -- the doses that do not clash are all doses
  pub doses_read : (earlier : List Dose) (i : ℕ) (es : List Entry) (ds : List Dose) → no_clash rest earlier i es ≡ read ds → ds ≡ earlier ++ doses_in es
  unfolding no_clash doses_in
  doses_read earlier i [] ds e = let same : ds ≡ earlier = cc in same ∙ sym (append-nil earlier)
  doses_read earlier i (fans_entry f ∷ es) ds e = doses_read earlier (suc i) es ds e
  doses_read earlier i (dose_entry d ∷ es) ds e =
      doses_read (earlier ++ d ∷ []) (suc i) es ds (free (clashes_any rest d earlier) e) ∙ append_assoc earlier (d ∷ []) (doses_in es)
    where
      free : (b : Bool) {x : Reading (List Dose)} → pick b (refused 8 i) x ≡ read ds → x ≡ read ds
      free true q = absurd (no_refusal 8 i ds q)
      free false q = q

  -- a dose does not clash with an earlier one
  abbrev pub NoClash : Dose → Dose → Type 0
  NoClash x y = T (not (clash rest y x))

  no_clashes : (d : Dose) (l : List Dose) → T (not (clashes_any rest d l)) → All (λ x. All (NoClash x) (d ∷ [])) l
  unfolding clashes_any
  no_clashes d [] t = none
  no_clashes d (x ∷ l) t = let r = neither (clash rest d x) (clashes_any rest d l) t in also (also r.0 none) (no_clashes d l r.1)

  pub clear : (earlier : List Dose) (i : ℕ) (es : List Entry) (ds : List Dose) → Pairs NoClash earlier → no_clash rest earlier i es ≡ read ds
      → Pairs NoClash ds
  unfolding no_clash
  clear earlier i [] ds h e = let same : ds ≡ earlier = cc in rw same h
  clear earlier i (fans_entry f ∷ es) ds h e = clear earlier (suc i) es ds h e
  clear earlier i (dose_entry d ∷ es) ds h e =
      let r = past (clashes_any rest d earlier) e in
      clear (earlier ++ d ∷ []) (suc i) es ds (Pairs-append h (then none lone) (no_clashes d earlier r.0)) r.1
    where
      past : (b : Bool) {x : Reading (List Dose)} → pick b (refused 8 i) x ≡ read ds → T (not b) × (x ≡ read ds)
      past true q = absurd (no_refusal 8 i ds q)
      past false q = (tt, q)

-- what stands for a record past the last
abbrev pub no_entry : Entry
no_entry = dose_entry no_dose

-- "two doses of one bay with overlapping windows": each opens before the other has ended and rested; with no rest "touching is allowed"
pub record Overlap (rest : ℕ) (x y : Dose) : Type 0 where
  pub bay : x.bay ≡ y.bay
  pub opens : x.release < y.deadline + rest
  pub closes : y.release < x.deadline + rest

-- record i is a "D that overlaps an earlier one"
pub record OverlapsEarlier (rest : ℕ) (es : List Entry) (i : ℕ) : Type 0 where
  pub there : i < length es
  pub dose : Dose
  pub is : get_or es i no_entry ≡ dose_entry dose
  pub earlier : ℕ
  pub before : earlier < i
  pub other : Dose
  pub was : get_or es earlier no_entry ≡ dose_entry other
  pub overlap : Overlap rest dose other

-- ---- a clash, and no clash: windows that overlap and windows that are apart; 8 has the place of the first

doses_append : (front es : List Entry) → doses_in (front ++ es) ≡ doses_in front ++ doses_in es
unfolding doses_in
doses_append [] es = refl
doses_append (fans_entry f ∷ front) es = doses_append front es
doses_append (dose_entry d ∷ front) es = ap (λ (l : List Dose). d ∷ l) (doses_append front es)

module _ (rest : ℕ) where
  -- the test of two doses
  overlap_clash : (x y : Dose) → Overlap rest x y → T (clash rest x y)
  overlap_clash x y h =
      rw (eq-eqb x.bay y.bay h.bay, lt-leb (x.deadline + rest) y.release h.closes, lt-leb (y.deadline + rest) x.release h.opens) tt

  clash_overlap : (x y : Dose) → T (clash rest x y) → Overlap rest x y
  clash_overlap x y t =
      let bays = eqb x.bay y.bay in
      let gap = apart rest x y in
      let near = neither (leb (x.deadline + rest) y.release) _ (and_right bays (not gap) t) in
      record {
        bay = eqb→eq _ _ (and_left bays (not gap) t);
        opens = nleb→lt (y.deadline + rest) x.release near.1;
        closes = nleb→lt (x.deadline + rest) y.release near.0;
      }

  -- two doses of one bay that do not clash have the rest between their windows
  pub apart_windows : (x y : Dose) → NoClash rest x y → x.bay ≡ y.bay → (x.deadline + rest ≤ y.release) ⊎ (y.deadline + rest ≤ x.release)
  apart_windows x y t e = elim (compare≤ (x.deadline + rest) y.release) [
    | inl h ↦ inl h
    | inr closes ↦ elim (compare≤ (y.deadline + rest) x.release) [
      | inl h ↦ inr h
      | inr opens ↦ absurd (T_not (clash rest y x) t (overlap_clash y x (record { bay = sym e; opens = closes; closes = opens })))
    ]
  ]

  -- a dose that clashes with one of the records in front
  clashes_with : (d : Dose) (front : List Entry) → T (clashes_any rest d (doses_in front))
      → (h : ℕ) × (h < length front) × (e : Dose) × (get_or front h no_entry ≡ dose_entry e) × Overlap rest d e
  unfolding doses_in clashes_any
  clashes_with d [] t = elim t [ ]
  clashes_with d (fans_entry f ∷ front) t = let r = clashes_with d front t in (suc r.0, omega (arith, r.1), r.2, r.3, r.4)
  clashes_with d (dose_entry e ∷ front) t =
      let later = clashes_with d front in
      or_elim (clash rest d e) (clashes_any rest d (doses_in front)) t (λ u. (0, omega arith, e, refl, clash_overlap d e u))
      (λ u. let r = later u in (suc r.0, omega (arith, r.1), r.2, r.3, r.4))

  with_clashes : (d : Dose) (front : List Entry) (h : ℕ) (e : Dose) → h < length front → get_or front h no_entry ≡ dose_entry e → Overlap rest d e
      → T (clashes_any rest d (doses_in front))
  unfolding doses_in clashes_any
  with_clashes d [] h e l g o = absurd (omega arith)
  with_clashes d (fans_entry f ∷ front) zero e l g o = let z : ◌≡◌ {A = ℕ} 0 1 = cc in absurd (omega arith)
  with_clashes d (fans_entry f ∷ front) (suc h) e l g o = with_clashes d front h e (omega arith) g o
  with_clashes d (dose_entry x ∷ front) zero e l g o =
      let same : x ≡ e = cc in or_left (clash rest d x) (clashes_any rest d (doses_in front)) (rw same (overlap_clash d e o))
  with_clashes d (dose_entry x ∷ front) (suc h) e l g o =
      or_right (clash rest d x) (clashes_any rest d (doses_in front)) (with_clashes d front h e (omega arith) g o)

  module _ (all : List Entry) where
    -- no record overlaps an earlier one
    abbrev pub NoOverlaps : List Dose → Type 0
    NoOverlaps ds = (k : ℕ) → OverlapsEarlier rest all k → ⊥

    -- one is the first that does
    abbrev pub FirstOverlap : ℕ → ℕ → Type 0
    FirstOverlap number place = (number ≡ 8) × OverlapsEarlier rest all place × ((k : ℕ) → k < place → OverlapsEarlier rest all k → ⊥)

    -- record i, with the records in front of it and behind it
    module _ (front es : List Entry) (e : Entry) (i : ℕ) (a : all ≡ front ++ e ∷ es) (l : i ≡ length front) where
      at_seam : get_or all i no_entry ≡ e
      at_seam = rw (a, l) (get_or-append_seam front e es no_entry)

      in_front : (h : ℕ) → h < i → get_or all h no_entry ≡ get_or front h no_entry
      in_front h q = ap (λ (m : List Entry). get_or m h no_entry) a ∙ get_or-append front (e ∷ es) no_entry h (omega arith)

      regroup : all ≡ (front ++ e ∷ []) ++ es
      regroup = a ∙ sym (append_assoc front (e ∷ []) es)

      one_longer : suc i ≡ length (front ++ e ∷ [])
      one_longer = omega (arith, length-append front (e ∷ []))

      none_more : ((k : ℕ) → k < i → OverlapsEarlier rest all k → ⊥) → (OverlapsEarlier rest all i → ⊥) → (k : ℕ) → k < suc i → OverlapsEarlier rest all k → ⊥
      none_more so_far here k q o = elim (last q) [ inl z ↦ here (rw z at o) | inr m ↦ so_far k m o ]

    clash_says : (es front : List Entry) (earlier : List Dose) (i : ℕ) → all ≡ front ++ es → earlier ≡ doses_in front → i ≡ length front
        → ((k : ℕ) → k < i → OverlapsEarlier rest all k → ⊥) → Says (no_clash rest earlier i es) NoOverlaps FirstOverlap
    unfolding no_clash doses_in
    clash_says [] front earlier i a d l so_far = λ k o. so_far k (omega (arith, o.there, ap length a, length-append front [])) o
    clash_says (fans_entry f ∷ es) front earlier i a d l so_far =
        let e = fans_entry f in
        clash_says es (front ++ e ∷ []) earlier (suc i) (regroup front es e i a l) (d ∙ sym (append-nil (doses_in front)) ∙ sym (doses_append front (e ∷ [])))
        (one_longer front es e i a l) (none_more front es e i a l so_far no_dose_lem)
      where
        no_dose_lem : OverlapsEarlier rest all i → ⊥
        no_dose_lem o =
            let q = at_seam front es (fans_entry f) i a l in
            let g = o.is in
            let z : ◌≡◌ {A = ℕ} 0 1 = cc in omega arith
    clash_says (dose_entry x ∷ es) front earlier i a d l so_far =
        let e = dose_entry x in
        let later : (OverlapsEarlier rest all i → ⊥) → Says (no_clash rest (earlier ++ x ∷ []) (suc i) es) NoOverlaps FirstOverlap = λ free. clash_says es (front ++ e ∷ []) (earlier ++ x ∷ []) (suc i) (regroup front es e i a l)
        (ap (λ (m : List Dose). m ++ x ∷ []) d ∙ sym (doses_append front (e ∷ []))) (one_longer front es e i a l) (none_more front es e i a l so_far free) in
        says_pick NoOverlaps FirstOverlap (clashes_any rest x earlier) _ _ (λ t. (refl, overlaps (rw d at t), so_far)) (λ t. later (λ o. T_not (clashes_any rest x earlier) t (rw d (clashing o))))
      where
        overlaps : T (clashes_any rest x (doses_in front)) → OverlapsEarlier rest all i
        overlaps t =
            let r = clashes_with x front t in
            record {
              there = omega (arith, ap length a, length-append front (dose_entry x ∷ es));
              dose = x;
              is = at_seam front es (dose_entry x) i a l;
              earlier = r.0;
              before = omega (arith, r.1);
              other = r.2;
              was = in_front front es (dose_entry x) i a l r.0 (omega (arith, r.1)) ∙ r.3;
              overlap = r.4;
            }

        clashing : OverlapsEarlier rest all i → T (clashes_any rest x (doses_in front))
        clashing o =
            let q = at_seam front es (dose_entry x) i a l in
            let g = o.is in
            let same : o.dose ≡ x = cc in
            with_clashes x front o.earlier o.other (omega (arith, o.before)) (sym (in_front front es (dose_entry x) i a l o.earlier o.before) ∙ o.was)
            (rw same at o.overlap)

  -- 8 is given for the first, and is not where there is none
  pub first_clash_lem : (es : List Entry) → Says (no_clash rest [] 0 es) (NoOverlaps es) (FirstOverlap es)
  unfolding doses_in
  first_clash_lem es = clash_says es es [] [] 0 refl refl refl (λ k l. absurd (omega arith))

  pub clash_refuses : (es : List Entry) (i : ℕ) → OverlapsEarlier rest es i → ((k : ℕ) → k < i → OverlapsEarlier rest es k → ⊥) → no_clash rest [] 0 es ≡ refused 8 i
  clash_refuses es i o so_far = go (no_clash rest [] 0 es) (first_clash_lem es)
    where
      go : (x : Reading (List Dose)) → Says x (NoOverlaps es) (FirstOverlap es) → x ≡ refused 8 i
      go (read ds) s = absurd (s i o)
      go (refused number place) s = elim (compare≤ place i) [
        | inl h ↦ elim (eq-or-lt_of_le h) [ inl e ↦ let n = s.0 in cc | inr q ↦ absurd (so_far place q s.1) ]
        | inr q ↦ absurd (s.2 i q o)
      ]

-- ---- overlapping windows, in the words of the rule

-- two doses of one bay overlap under a rest exactly if neither release is at least so long after the other's deadline
pub overlaps_exactly : (rest : ℕ) (x y : Dose) → x.bay ≡ y.bay → Overlap rest x y ↔ ((x.deadline + rest ≤ y.release) ⊎ (y.deadline + rest ≤ x.release) → ⊥)
overlaps_exactly rest x y e = (
  λ o w. elim w [ inl h ↦ omega (arith, o.closes) | inr h ↦ omega (arith, o.opens) ],
  λ n. record {
    bay = e;
    opens = elim (compare≤ (y.deadline + rest) x.release) [ inl h ↦ absurd (n (inr h)) | inr h ↦ h ];
    closes = elim (compare≤ (x.deadline + rest) y.release) [ inl h ↦ absurd (n (inl h)) | inr h ↦ h ];
  },
)

-- ---- a longer rest

module _ (rest longer : ℕ) (more : rest ≤ longer) where
  -- what overlaps under a rest overlaps under a longer one
  overlaps_longer : (es : List Entry) (i : ℕ) → OverlapsEarlier rest es i → OverlapsEarlier longer es i
  overlaps_longer es i o =
      let w = o.overlap in
      record {
        there = o.there;
        dose = o.dose;
        is = o.is;
        earlier = o.earlier;
        before = o.before;
        other = o.other;
        was = o.was;
        overlap = record { bay = w.bay; opens = omega (arith, w.opens); closes = omega (arith, w.closes) };
      }

  -- windows that are apart under a longer rest are apart under a shorter one
  pub apart_shorter : (es : List Entry) (ds : List Dose) → no_clash longer [] 0 es ≡ read ds → no_clash rest [] 0 es ≡ read ds
  apart_shorter es ds e = go (no_clash rest [] 0 es) refl (first_clash_lem rest es)
    where
      free : NoOverlaps longer es ds
      free = subst (λ (x : Reading (List Dose)). Says x (NoOverlaps longer es) (FirstOverlap longer es)) e (first_clash_lem longer es)

      go : (x : Reading (List Dose)) → no_clash rest [] 0 es ≡ x → Says x (NoOverlaps rest es) (FirstOverlap rest es) → x ≡ read ds
      go (read l) q s = ap read (doses_read rest [] 0 es l q ∙ sym (doses_read longer [] 0 es ds e))
      go (refused number place) q s = absurd (free place (overlaps_longer es place s.1))

  -- and 8 under a shorter rest is 8 under a longer one, for that record or an earlier one
  pub clash_longer : (es : List Entry) (i : ℕ) → no_clash rest [] 0 es ≡ refused 8 i → (k : ℕ) × (k ≤ i) × (no_clash longer [] 0 es ≡ refused 8 k)
  clash_longer es i e =
      let first = refusal_says (NoOverlaps rest es) (FirstOverlap rest es) (no_clash rest [] 0 es) (first_clash_lem rest es) 8 i e in
      go (overlaps_longer es i first.1) (no_clash longer [] 0 es) refl (first_clash_lem longer es)
    where
      go : OverlapsEarlier longer es i → (x : Reading (List Dose)) → no_clash longer [] 0 es ≡ x → Says x (NoOverlaps longer es) (FirstOverlap longer es)
          → (k : ℕ) × (k ≤ i) × (no_clash longer [] 0 es ≡ refused 8 k)
      go o (read l) q s = absurd (s i o)
      go o (refused number place) q s = elim (compare≤ place i) [
        | inl h ↦ (place, h, q ∙ ap (λ (n : ℕ). refused n place) s.0)
        | inr h ↦ absurd (s.2 i h o)
      ]
