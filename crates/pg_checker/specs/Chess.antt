-- Chess as the rules that the walk goes by.
use Rattle.std.specs.Prelude.{◌≡◌, ◌≢◌, ◌↔◌, ℕ, ◌^◌, Option, Some, Bool, true, ◌&&◌, ◌==◌, List, ◌++◌, Result, Ok, Err, nat_lt, if◌then◌else◌}
use Rattle.std.specs.List.{Contains}
use Rattle.std.specs.Str.{bytes_eq}
use Rattle.pg_board.specs.declared.man.Color.{Color}
use Rattle.pg_board.specs.Placement.{Placement}
use Rattle.pg_board.specs.Equality.{placement_eq}
use Rattle.pg_position.specs.declared.state.State.{State}
use Rattle.pg_position.specs.declared.moves.Move.{Move}
use Rattle.pg_position.specs.Position.{IsPosition}
use Rattle.pg_position.specs.Step.{Legal}
use Rattle.pg_position.specs.Game.{Barren}
use Rattle.pg_position.specs.Equality.{state_eq}
use Rattle.pg_position.specs.Future.{SameFuture}
use Rattle.pg_moves.specs.Moves.{IsMoveList}
use Rattle.pg_moves.proofs.ListLemmas.{moves_of}
use Rattle.pg_moves.proofs.PlayLemmas.{play_of}
use Rattle.pg_certificate.specs.declared.fault.ReadFault.{ReadFault}
use Rattle.pg_certificate.specs.declared.fault.ReadFault.TheVariants as reading
use Rattle.pg_certificate.specs.declared.record.Record.{Record}
use Rattle.pg_certificate.specs.declared.record.Record.TheVariants.{Expand, Cut, Ref, Priced}
use Rattle.pg_certificate.specs.Spelling.{spelling, IsRecordOf}
use Rattle.pg_certificate.specs.Reading.{record_at}
use Rattle.pg_checker.specs.Tree.{Rules, Cause, Truncated, UnknownRecord}
use Rattle.pg_captures.specs.PriceLists.{PriceList}
use Rattle.pg_checker.specs.Equality.{lists}
use Rattle.pg_checker.specs.Futures.{future_eq}
use Rattle.pg_checker.specs.PriceBytes.{are_prices}

-- ---- what is asked of rules that are chess
-- what cuts nodes in a certificate of a version
pub record Cuts : Type 0 where
  pub version : ℕ
  -- whether the bound of a code excludes at a state with a number of plies left; None: no bound has the code
  pub bounds : ℕ → State → ℕ → Option Bool
  -- whether prices of a code and a colour exclude there; None: no prices have the code
  pub prices : ℕ → Color → List PriceList → State → ℕ → Option Bool

-- what excludes at a position, a bound or prices, hides no game that ends on the diagram d
pub record IsSoundCut (d : Placement) (cut : Cuts) : Type 0 where
  pub bounds : (code k : ℕ) (p : State) → IsPosition p → cut.bounds code p k ≡ Some true → Barren d p k
  pub prices : (code : ℕ) (color : Color) (prices : List PriceList) (k : ℕ) (p : State) → IsPosition p
      → cut.prices code color prices p k ≡ Some true → Barren d p k

-- the rules are those of chess, with the diagram d, n plies, and these games, and the records are those of this version
pub record IsChess (r : Rules State Move) (version : ℕ) (d : Placement) (n : ℕ) (games : List (List Move))
    : Type 0 where
  pub moves : (p : State) → IsMoveList p (r.moves p)
  pub play : (p : State) (m : Move) (q : State) → IsPosition p → Legal p m q → r.play p m ≡ q
  pub goal : (p : State) → (r.is_goal p ≡ true) ↔ (p.board ≡ d)
  pub plies : r.plies ≡ n
  pub listed : (g : List Move) → (r.is_listed g ≡ true) ↔ Contains games g
  -- in version 2 an entry stands for each position with the same future, else for an equal one
  pub equal : version ≢ 2 → (q p : State) → (r.is_same q p ≡ true) ↔ (q ≡ p)
  pub future : version ≡ 2 → (q p : State) → (r.is_same q p ≡ true) ↔ SameFuture q p
  pub write : (x : Record) → r.write x ≡ spelling x
  pub is_record : (x : Record) → (r.is_record x ≡ true) ↔ IsRecordOf version x

-- ---- reading
-- a refusal to read a record, by its name here; there is no other than these two
abbrev pub cause_of : ReadFault → Cause Move
cause_of (reading.UnknownRecord b) = UnknownRecord b
cause_of _ = Truncated

-- what was read, with the refusal by its name here
abbrev pub renamed : Result (Record × List ℕ) ReadFault → Result (Record × List ℕ) (Cause Move)
renamed (Ok got) = Ok got
renamed (Err e) = Err (cause_of e)

-- whether the record is one of this version
abbrev pub is_spelled : ℕ → Record → Bool
is_spelled version (Expand named) = true
is_spelled version (Cut code) = nat_lt code (2 ^ 8)
is_spelled version (Ref number) = nat_lt number (2 ^ 32)
is_spelled version (Priced code color prices) = (version == 2) && (nat_lt code (2 ^ 8) && are_prices prices)

-- what was read is taken where its spelling stands there: always, where the numbers are bytes
abbrev pub taken : ℕ → List ℕ → Result (Record × List ℕ) ReadFault → Result (Record × List ℕ) (Cause Move)
taken version bytes (Err e) = Err (cause_of e)
taken version bytes (Ok got) =
    if is_spelled version got.0 && bytes_eq bytes (spelling got.0 ++ got.1) then Ok got else Err Truncated

-- the record of this version at the front of bytes
unfoldable pub read : ℕ → List ℕ → Result (Record × List ℕ) (Cause Move)
read version bytes = taken version bytes (record_at version bytes)

-- ---- the rules
-- whether an entry of the first position may stand for the second: in
-- version 2 where they have the same future, else where they are equal
abbrev pub stands_for : ℕ → State → State → Bool
stands_for version q p = if version == 2 then future_eq q p else state_eq q p

-- chess, with the diagram d, n plies, a test of which games are listed, and the cuts and records of a version
unfoldable pub chess_with : Placement → ℕ → (List Move → Bool) → Cuts → Rules State Move
chess_with d n listed cut = record {
  moves = moves_of;
  play = play_of;
  is_goal = λ p. placement_eq p.board d;
  plies = n;
  is_listed = listed;
  is_same = stands_for cut.version;
  cut = cut.bounds;
  priced = cut.prices;
  write = spelling;
  is_record = is_spelled cut.version;
  read = read cut.version;
}

-- the same with the games of a list
abbrev pub chess : Placement → ℕ → List (List Move) → Cuts → Rules State Move
chess d n games cut = chess_with d n (lists games) cut

-- every game is listed
abbrev pub any_game : List Move → Bool
any_game game = true
