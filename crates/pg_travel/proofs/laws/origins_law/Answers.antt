use Rattle.pg_travel.specs.lemmas.OriginsLemmas.{origins_of_game}
use Rattle.pg_travel.proofs.Common.{distances_of_game}
use Rattle.pg_travel.proofs.laws.origins_law.Goals as goal

pub returns : goal.returns
returns c = record { walks = origins_of_game; distances = distances_of_game }
