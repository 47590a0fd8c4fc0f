-- What a program answers to its input.
use Rattle.std.specs.Prelude.{◌≡◌, ◌≢◌, ◌≤◌, Bool, true, false, Err, IfSome, List, Ok, Option, Result, ℕ, length, take}
use Rattle.std.specs.Io.KnownBytes.{Appends}
use Rattle.programs.specs.declared.Exit.{Exit}
use Rattle.programs.specs.declared.Exit.TheVariants.{Done, Refused, Failed}
use Rattle.programs.specs.declared.Unreadable.{Unreadable}

-- how many bytes of an input came
abbrev pub came : Result ℕ Unreadable → ℕ
came (Ok n) = n
came (Err unreadable) = unreadable.bytes

-- a text that says something stands in front of the text buffer: its length, as an `Err` where it is a refusal
abbrev pub Puts : (List ℕ → Bool → Type 0) → List ℕ → Result ℕ ℕ → Type 0
Puts Says text (Ok end) = (end ≤ length text) × Says (take end text) true
Puts Says text (Err end) = (end ≤ length text) × Says (take end text) false

-- the exit of an answer, and of a refusal
abbrev pub exit_of : Bool → Exit
exit_of true = Done
exit_of false = Refused

-- a text that says what the input comes to stands behind what the output held, and the exit tells whether it is a refusal
pub record Answered (Says : List ℕ → Bool → Type 0) (held held' : Option (List ℕ)) (exit : Exit) : Type 0 where
  pub text : List ℕ
  pub done : Bool
  pub says : Says text done
  pub written : Appends held held' text
  pub told : exit ≡ exit_of done

-- where the input's bytes are known: any exit but Failed says that the first `most` of them, or all, are answered
abbrev pub AnswersInput : ℕ → (List ℕ → List ℕ → Bool → Type 0) → Option (List ℕ) → Option (List ℕ) → Option (List ℕ) → Exit → Type 0
AnswersInput most Says given held held' exit = exit ≢ Failed → IfSome given (λ bytes. Answered (Says (take most bytes)) held held' exit)
