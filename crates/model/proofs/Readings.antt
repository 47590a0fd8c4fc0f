-- What a reading says, of its value or of its refusal: through a test, one check after another, and records in a row.
use mathlib.Core.Bool.{Bool, true, false, not}
use mathlib.Core.Logic.{inl, inr}
use mathlib.Core.Path.{◌≡◌, refl, sym, ap, subst, ◌∙◌}
use mathlib.Core.List.{List, [], ◌∷◌}
use Prim.Native.Nat.{ℕ, zero, suc, ◌+◌, ◌/◌, ◌<◌}
use native.Mathlib.Nat.{add-zero, eq-or-lt_of_le, zero-add}
use native.Mathlib.Omega.{arith}
use lib.Dec.{T}
use lib.ListN.{length, get_or}
use lib.Seq.{ext_get_or}
use Rattle.model.specs.Records.{pick, Reading, read, refused, and_then, record_size, record_at, read_from, read_all}
use Rattle.model.specs.Lists.{All, none, also}
use Rattle.model.proofs.Fractions.{compare≤}

-- ---- a reading that did not refuse

module _ {A : Type 0} where
  -- a refusal is no reading
  pub no_refusal : (number place : ℕ) (a : A) → ◌≡◌ {A = Reading A} (refused number place) (read a) → ⊥
  no_refusal number place a e = let z : ◌≡◌ {A = ℕ} 0 1 = cc in omega arith

  -- a test in front held
  pub passed : (b : Bool) (x : Reading A) (number place : ℕ) (a : A) → pick b x (refused number place) ≡ read a → T b × (x ≡ read a)
  passed true x number place a e = (tt, e)
  passed false x number place a e = absurd (no_refusal number place a e)

  -- and so did the check before
  pub went_on : {B : Type 0} (x : Reading B) (f : B → Reading A) (a : A) → and_then x f ≡ read a → (b : B) × (x ≡ read b) × (f b ≡ read a)
  went_on (read b) f a e = (b, refl, e)
  went_on (refused number place) f a e = absurd (no_refusal number place a e)

-- what holds of each record that is read holds of all
pub all_read : {A : Type 0} (P : A → Type 0) (each : List ℕ → ℕ → Reading A) → ((r : List ℕ) (i : ℕ) (a : A) → each r i ≡ read a → P a)
    → (bytes : List ℕ) (i n : ℕ) (l : List A) → read_from each bytes i n ≡ read l → All P l
unfolding read_from
all_read P each h bytes i zero l e = rw (same_read e) none
  where
    same_read : read [] ≡ read l → l ≡ []
    same_read q = cc
all_read P each h bytes i (suc n) l e =
    let r = went_on (each (record_at bytes i) i) _ l e in
    let s = went_on (read_from each bytes (suc i) n) _ l r.2 in
    let tail = all_read P each h bytes (suc i) n s.0 s.1 in
    rw (same_read r.0 s.0 s.2) (also (h (record_at bytes i) i r.0 r.1) tail)
  where
    same_read : (a : _) (rest : _) → read (a ∷ rest) ≡ read l → l ≡ a ∷ rest
    same_read a rest q = cc

-- ---- what a reading says

-- P of what is read, or Q of the refusal's number and place
abbrev pub Says : {A : Type 0} → Reading A → (A → Type 0) → (ℕ → ℕ → Type 0) → Type 0
Says (read a) P Q = P a
Says (refused number place) P Q = Q number place

module _ {A : Type 0} (P : A → Type 0) (Q : ℕ → ℕ → Type 0) where
  -- behind a test
  pub says_pick : (b : Bool) (x y : Reading A) → (T b → Says x P Q) → (T (not b) → Says y P Q) → Says (pick b x y) P Q
  says_pick true x y f g = f tt
  says_pick false x y f g = g tt

  -- behind another check
  pub says_then : {B : Type 0} (R : B → Type 0) (x : Reading B) (f : B → Reading A) → Says x R Q → ((b : B) → R b → Says (f b) P Q) → Says (and_then x f) P Q
  says_then R (read b) f r h = h b r
  says_then R (refused number place) f r h = r

  -- what a refusal says
  pub refusal_says : (x : Reading A) → Says x P Q → (number place : ℕ) → x ≡ refused number place → Q number place
  refusal_says x s number place e = subst (λ (x : Reading A). Says x P Q) e s

-- ---- records in a row

module _ {A : Type 0} (each : List ℕ → ℕ → Reading A) (bytes : List ℕ) (d : A) where
  -- record k as it is read
  abbrev pub at : ℕ → Reading A
  at k = each (record_at bytes k) k

  -- n records from record i on are read as l
  abbrev pub Listed : ℕ → ℕ → List A → Type 0
  Listed i n l = (length l ≡ n) × ((h : ℕ) → h < n → at (i + h) ≡ read (get_or l h d))

  -- one of them is the first that is refused
  abbrev pub First : ℕ → ℕ → ℕ → ℕ → Type 0
  First i n number place =
      (k : ℕ) × (k < n) × ((h : ℕ) → h < k → (a : A) × (at (i + h) ≡ read a)) × (at (i + k) ≡ refused number place)

  -- a walk gives the one or the other
  pub walk_says : (n i : ℕ) → Says (read_from each bytes i n) (Listed i n) (First i n)
  unfolding read_from
  walk_says zero i = (refl, λ h l. absurd (omega arith))
  walk_says (suc n) i = go (at i) refl (read_from each bytes (suc i) n) (walk_says n (suc i))
    where
      next : (h : ℕ) → at (i + suc h) ≡ at (suc i + h)
      next h = ap (λ (k : ℕ). at k) (omega arith)

      now : {x : Reading A} → at i ≡ x → at (i + 0) ≡ x
      now e = ap (λ (k : ℕ). at k) (add-zero i) ∙ e

      listed : (a : A) (l : List A) → at i ≡ read a → ((h : ℕ) → h < n → at (suc i + h) ≡ read (get_or l h d))
          → (h : ℕ) → h < suc n → at (i + h) ≡ read (get_or (a ∷ l) h d)
      listed a l e f zero q = now e
      listed a l e f (suc h) q = next h ∙ f h (omega arith)

      reads : (a : A) (k : ℕ) → at i ≡ read a → ((h : ℕ) → h < k → (a : A) × (at (suc i + h) ≡ read a))
          → (h : ℕ) → h < suc k → (a : A) × (at (i + h) ≡ read a)
      reads a k e f zero q = (a, now e)
      reads a k e f (suc h) q = let r = f h (omega arith) in (r.0, next h ∙ r.1)

      go : (x : Reading A) → at i ≡ x → (y : Reading (List A)) → Says y (Listed (suc i) n) (First (suc i) n)
          → Says (and_then x (λ a. and_then y (λ rest. read (a ∷ rest)))) (Listed i (suc n)) (First i (suc n))
      go (read a) e (read l) s = (ap suc s.0, listed a l e s.1)
      go (read a) e (refused number place) s = (suc s.0, omega (arith, s.1), reads a s.0 e s.2, next s.0 ∙ s.3)
      go (refused number place) e y s = (0, omega arith, λ h q. absurd (omega arith), now e)

  -- all records are read: each is as its member of the list
  pub all_listed : (l : List A) → read_all each bytes ≡ read l
      → (length l ≡ length bytes / record_size) × ((k : ℕ) → k < length bytes / record_size → at k ≡ read (get_or l k d))
  all_listed l e =
      let n = length bytes / record_size in
      let s = subst (λ (x : Reading (List A)). Says x (Listed 0 n) (First 0 n)) e (walk_says n 0) in
      (s.0, λ k q. ap (λ (h : ℕ). at h) (sym (zero-add k)) ∙ s.1 k q)

  -- all are read: so is the walk
  pub walk_read : (n i : ℕ) (l : List A) → Listed i n l → read_from each bytes i n ≡ read l
  walk_read n i l s = go (read_from each bytes i n) (walk_says n i)
    where
      go : (x : Reading (List A)) → Says x (Listed i n) (First i n) → x ≡ read l
      go (read m) t = ap read (ext_get_or d m l (t.0 ∙ sym s.0) (λ h q. let e = t.1 h (rw t.0 at q) in let f = s.1 h (rw t.0 at q) in cc))
      go (refused number place) t = let e = t.3 in absurd (no_refusal number place (get_or l t.0 d) (sym e ∙ s.1 t.0 t.1))

  -- one is the first that is refused: so is the walk
  pub walk_refused : (n i number place : ℕ) → First i n number place → read_from each bytes i n ≡ refused number place
  walk_refused n i number place s = go (read_from each bytes i n) (walk_says n i)
    where
      go : (x : Reading (List A)) → Says x (Listed i n) (First i n) → x ≡ refused number place
      go (read l) t = absurd (no_refusal number place (get_or l s.0 d) (sym s.3 ∙ t.1 s.0 s.1))
      go (refused number' place') t = elim (compare≤ s.0 t.0) [
        | inl h ↦ elim (eq-or-lt_of_le h) [
          | inl e ↦ let f : at (i + t.0) ≡ refused number place = ap (λ (k : ℕ). at (i + k)) (sym e) ∙ s.3 in let g = t.3 in cc
          | inr q ↦ let r = t.2 s.0 q in absurd (no_refusal number place r.0 (sym s.3 ∙ r.1))
        ]
        | inr q ↦ let r = s.2 t.0 q in absurd (no_refusal number' place' r.0 (sym t.3 ∙ r.1))
      ]
