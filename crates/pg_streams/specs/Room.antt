-- How many bytes may still be written.
use Rattle.std.specs.Prelude.{◌≡◌, ◌-◌, ◌≤◌, ℕ, Option, Some, None, SomeIff}
use Rattle.pg_streams.specs.declared.limited.Limited.{Limited}
use Rattle.pg_streams.specs.declared.room.Room.{Room}

-- how many bytes still fit; none where some did not, so that no more do
abbrev pub left_of : Room → Option ℕ
left_of room = room.left

-- how many bytes a writer may still be handed
abbrev pub room_of : {W : Type 0} → Limited W → Option ℕ
room_of limited = left_of limited.room

-- the writer below a limit
abbrev pub writer_of : {W : Type 0} → Limited W → W
writer_of limited = limited.inner

-- what is left of a room after `count` bytes more
abbrev pub IsLeftAfter : Option ℕ → ℕ → Option ℕ → Type 0
IsLeftAfter None count new = new ≡ None
IsLeftAfter (Some left) count new = SomeIff new (count ≤ left) (left - count)
