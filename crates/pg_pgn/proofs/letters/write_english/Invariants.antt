use Rattle.pg_pgn.proofs.Common.{◌≡◌, ◌++◌, length, string_bytes, english}
use Rattle.pg_pgn.proofs.letters.write_english.Given as goal

-- what was written, and the rest in English, is the whole word in English
abbrev pub invariant-loop-byte : goal.invariant-loop-byte
invariant-loop-byte l = string_bytes l.text ++ english l.letters l.rest ≡ english l.letters l.fn.word

abbrev pub decreases-loop-byte : goal.decreases-loop-byte
decreases-loop-byte l = length l.rest
