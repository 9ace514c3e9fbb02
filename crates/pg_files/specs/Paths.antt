-- Paths of drafts.
use Rattle.std.specs.Prelude.{◌≡◌, ◌≢◌, ◌≤◌, ◌<◌, ◌⊎◌, ◌++◌, ℕ, List, [], ◌∷◌, All, codes, length}
use Rattle.std.specs.Fmt.{decimal}
use Rattle.std.specs.Io.{StartsWith}

-- no byte is `/`
abbrev pub HasNoSlash : List ℕ → Type 0
HasNoSlash name = All (λ byte. byte ≢ 47) name

-- nothing, or a text that ends with `/`
abbrev pub IsFolder : List ℕ → Type 0
IsFolder folder = (folder ≡ []) ⊎ ((front : List ℕ) × (folder ≡ front ++ (47 ∷ [])))

-- the second path is that of a draft of the file at the first: in the same folder, `.NAME.pg-part-N`, where N is below
-- 1,000, and NAME the file's name, or a front of it of 242 bytes at most where that has more
pub record IsDraftPath (path draft : List ℕ) : Type 0 where
  pub folder : List ℕ
  pub name : List ℕ
  pub front : List ℕ
  pub number : ℕ
  pub is_folder : IsFolder folder
  pub is_name : HasNoSlash name
  pub parts : path ≡ folder ++ name
  pub begins : StartsWith name front
  pub short : length front ≤ 242
  pub whole : length name ≤ 242 → front ≡ name
  pub below : number < 1000
  pub spelled : draft ≡ folder ++ (codes "." ++ (front ++ (codes ".pg-part-" ++ decimal number)))
