-- The last slash of a path, and the path of a draft.
use Rattle.std.proofs.Common.{◌≡◌, ◌≢◌, ℕ, ◌+◌, ◌<◌, ◌≤◌, List, ◌++◌, drop, length, ap, subst, sym, ◌∙◌, lit<}
use Rattle.std.specs.Str.{NoCharPasses}
use Rattle.std.specs.Str.Pattern.{HasCharAt}
use Rattle.std.specs.Prelude.{◌==◌, codes}
use Rattle.std.specs.Fmt.{decimal}
use Rattle.std.specs.Io.{StartsWith}
use Rattle.std.proofs.lemmas.List.Elements.{All-from_get_or}
use Rattle.std.proofs.lemmas.Str.Pattern.{NoCharPasses-char}
use Rattle.pg_files.specs.Paths.{HasNoSlash, IsFolder, IsDraftPath}

-- no character is a slash
pub no_slash : (bytes : List ℕ) → NoCharPasses (λ c. c == 47) bytes → HasNoSlash bytes
no_slash bytes none =
    All-from_get_or (λ b. b ≢ 47) bytes 0 (λ i within. NoCharPasses-char 47 bytes i none (lit< tt) within)

-- what stands behind the last slash
pub behind_slash : (bytes name : List ℕ) (at j : ℕ) → NoCharPasses (λ c. c == 47) (drop j bytes) → HasCharAt 47 bytes at j
    → name ≡ drop (at + 1) bytes → HasNoSlash name
behind_slash bytes name at j none here is =
    no_slash name (subst (NoCharPasses (λ c. c == 47)) (ap (λ n. drop n bytes) here.ends ∙ sym is) none)

-- the path of a draft, of its parts
pub draft_spelled : (path draft folder name front : List ℕ) (number : ℕ) → path ≡ folder ++ name
    → IsFolder folder → HasNoSlash name
    → StartsWith name front → length front ≤ 242 → (length name ≤ 242 → front ≡ name) → number < 1000
    → draft ≡ folder ++ (codes "." ++ (front ++ (codes ".pg-part-" ++ decimal number))) → IsDraftPath path draft
draft_spelled path draft folder name front number parts is_folder is_name begins short whole below spelled = record {
  folder = folder;
  name = name;
  front = front;
  number = number;
  is_folder = is_folder;
  is_name = is_name;
  parts = parts;
  begins = begins;
  short = short;
  whole = whole;
  below = below;
  spelled = spelled;
}
