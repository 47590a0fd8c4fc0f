-- The exit statuses of the programs.
use Rattle.std.specs.Prelude.{◌≤◌, ℤ, pos, negsuc}
use Rattle.programs.specs.declared.Exit.{Exit}
use Rattle.programs.specs.declared.Exit.TheVariants.{Done, Refused, Failed}

-- 0, 1 or 2
abbrev pub Exits : ℤ → Type 0
Exits (pos n) = n ≤ 2
Exits (negsuc n) = ⊥

-- "0 where it planned, 1 where it printed a refusal, 2 where the input can't be read or the text can't be written whole"
abbrev pub status : Exit → ℤ
status Done = pos 0
status Refused = pos 1
status Failed = pos 2
