-- The tariff that bytes state.
use Rattle.std.specs.Prelude.{pos, get_or, []}
use Rattle.pg_board.specs.lemmas.Codes.{number_of_color}
use Rattle.pg_tolls.specs.Tariffs.{Tariff}
use Rattle.pg_tolls.specs.declared.tariff.Tariff.{Tariff as Bytes}

-- White's weight and tolls come first
abbrev pub stated : Bytes → Tariff
stated t = record {
  weight = λ c. get_or t.weights (number_of_color c) 0;
  toll = λ c q. get_or (get_or t.tolls (number_of_color c) []) q (pos 0);
}
