-- The code of a bound for tests.
use Rattle.std.specs.Prelude.{ℕ}
use Rattle.pg_trial.specs.declared.never.Never.{Never}

-- the code that a bound which never excludes was made with
abbrev pub code_in : Never → ℕ
code_in bound = bound.code
