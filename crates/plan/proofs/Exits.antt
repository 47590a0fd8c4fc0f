-- What `map_err` and `?` hand on. Assumes nothing.
use mathlib.Core.Path.{◌≡◌, refl, sym, ap, ◌∙◌}
use Rattle.std.specs.Prelude.{Result, Ok, Err, MatchResult}
use Rattle.std.specs.Result.{IsErrAnd}
use Rattle.std.proofs.lemmas.Result.{err_from_is_err_and}

never : {A B : Type 0} {x : A} {y : B} → ◌≡◌ {A = Result A B} (Ok x) (Err y) → ⊥
never e = cc

module _ {A E D : Type 0} {Q : E → D → Type 0} (f : E → D) (gives : (e : E) (d : D) → Q e d → d ≡ f e) where
  -- the error met, as f makes another of it
  pub error_out : {B : Type 0} (r : Result A E) {s : Result A D} {d : D} (back : Result B D) → MatchResult r (λ x. s ≡ Ok x) (λ e. IsErrAnd s (Q e)) → s ≡ Err d
      → IsErrAnd back (λ y. y ≡ d) → (e : E) × (r ≡ Err e) × (back ≡ Err (f e))
  error_out (Ok x) back h was out = absurd (never (sym h ∙ was))
  error_out (Err e) {s} {d} back h was out =
      let met : (y : D) × (s ≡ Err y) × Q e y = err_from_is_err_and s h in
      let handed : (y : D) × (back ≡ Err y) × (y ≡ d) = err_from_is_err_and back out in
      let taken : ◌≡◌ {A = Result A D} (Err d) (Err met.0) = sym was ∙ met.1 in
      let one : d ≡ met.0 = cc in
      (e, refl, handed.1 ∙ ap Err (handed.2 ∙ one ∙ gives e met.0 met.2))

  -- or the value
  pub value_in : (r : Result A E) {s : Result A D} {x : A} → MatchResult r (λ x. s ≡ Ok x) (λ e. IsErrAnd s (Q e)) → s ≡ Ok x → r ≡ Ok x
  value_in (Ok x) h was = cc
  value_in (Err e) h was = let met = err_from_is_err_and _ h in absurd (never (sym was ∙ met.1))
