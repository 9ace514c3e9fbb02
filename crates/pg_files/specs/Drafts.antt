-- Files that are written beside their place.
use Rattle.std.specs.Prelude.{ℕ, ◌≤◌, List, IfSome, IsNone}
use Rattle.std.specs.Fs.{permissions_mode}
use Rattle.std.specs.String.{string_bytes}
use Rattle.pg_files.specs.declared.writing.Draft.{Draft}

-- the name under which a draft stands
abbrev pub name_of_draft : {F : Type 0} → Draft F → List ℕ
name_of_draft draft = string_bytes draft.path

-- the path under which it is to be put
abbrev pub place_of_draft : {F : Type 0} → Draft F → List ℕ
place_of_draft draft = string_bytes draft.place.path

-- no file stood at its place when it was begun
abbrev pub IsNew : {F : Type 0} → Draft F → Type 0
IsNew draft = IsNone draft.place.permissions

-- what it gets of the file that stood at its place is who may read, write and run it, and no other bit of a mode
abbrev pub HasPlainRights : {F : Type 0} → Draft F → Type 0
HasPlainRights draft = IfSome draft.place.permissions (λ rights. permissions_mode rights ≤ 0o777)
