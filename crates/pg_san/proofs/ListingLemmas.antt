-- A text of games is read one line at a time.
use Rattle.pg_san.proofs.Common.{◌≡◌, ◌≢◌, ◌↔◌, ℕ, ◌+◌, ◌<◌, inl, inr, List, [], ◌∷◌, ◌++◌, length, refl, sym, ap, subst, arith, ◌∙◌, append_assoc, Result, Ok, Err, MatchResult, Contains, append-nil, length-append, Contains-append_left, Contains-push, Contains-push_cases, State, Move, array_state, IsGame, IsOnce, Contains-none, Contains-head, Contains-later, GamesFault, At, TooMany, Repeated, Memory, IsFromArray, IsGames, IsAdded, words, dash, lines, Spells, AreGame, IsGameLine, IsBadLine, Give, AreRead, IsListing, IsLine, IsLineFault, IsTextFault}
use Rattle.pg_san.specs.declared.listing.LineFault.{LineFault}
use Rattle.pg_san.specs.declared.listing.LineFault.TheVariants.{Word, NoMemory}
use Rattle.pg_san.specs.inner.LineReading.{IsWordsFault, IsGameFault, IsLineRead}

-- ---- a line
pub dash_line : (line : List ℕ) → words line ≢ [] → words line ≡ dash → IsGameLine line []
unfolding IsGameLine
dash_line line some e = (some, inl (e, refl))

game_line : (line : List ℕ) (g : List Move) → words line ≢ [] → words line ≢ dash → AreGame (words line) g → IsGameLine line g
unfolding IsGameLine
game_line line g some other h = (some, inr (other, h))

bad_line : (line : List ℕ) (e : LineFault) → words line ≢ [] → words line ≢ dash → IsWordsFault (words line) e → IsGameFault line e
unfolding IsBadLine
bad_line line NoMemory some other h = (h.0, game_line line h.0 some other h.1)
bad_line line (Word ply cause) some other h = (some, other, h)

pub read_line : {V : Type 0} (f : V → List Move) (line : List ℕ) (r : Result V LineFault) → words line ≢ [] → words line ≢ dash → MatchResult r (λ v. AreGame (words line) (f v)) (λ e. IsWordsFault (words line) e) → MatchResult r (λ v. IsGameLine line (f v)) (λ e. IsGameFault line e)
read_line f line (Ok v) some other h = game_line line (f v) some other h
read_line f line (Err e) some other h = bad_line line e some other h

-- what words spell is a game
spells_game : (p q : State) (ws : List (List ℕ)) (ms : List Move) → Spells p ws ms q → IsGame p ms q
unfolding Spells
spells_game p q [] ms s = subst (λ (x : List Move). IsGame p x q) (sym s.0) s.1
spells_game p q (w ∷ ws) ms s = elim s [
  | inl h ↦ spells_game p q ws ms h.1
  | inr h ↦ subst (λ (x : List Move). IsGame p x q) (sym h.1.3) (h.1.2, h.1.5, spells_game h.1.2 q ws h.1.1 h.1.6)
]

pub line_is_game : (line : List ℕ) (g : List Move) → IsGameLine line g → IsFromArray g
unfolding IsGameLine IsFromArray
line_is_game line g h = elim h.1 [
  | inl e ↦ (array_state, subst (λ (x : List Move). IsGame array_state x array_state) (sym e.1) refl)
  | inr s ↦ (s.1.0, spells_game array_state s.1.0 (words line) g s.1.1)
]

pub line_blank : (line : List ℕ) (gs : List (List Move)) → words line ≡ [] → IsLineRead line gs gs
unfolding IsLineRead
line_blank line gs e = inl (e, refl)

pub line_added : (line : List ℕ) (gs : List (List Move)) (g : List Move) (hs : List (List Move)) → IsGameLine line g → IsAdded gs g hs → IsLineRead line gs hs
unfolding IsLineRead
line_added line gs g hs h a = inr (g, h, a)

-- ---- the lines so far
-- the lines so far, as many as number says, give these games without a fault, and the list holds them; the others are left
pub record IsReadTo (all : List (List ℕ)) (left : List (List ℕ)) (number : ℕ) (games : List (List Move)) : Type 0 where
  pub before : List (List ℕ)
  pub found : List (List Move)
  pub is : all ≡ before ++ left
  pub counts : number ≡ length before
  pub read : AreRead before found
  pub sorted : IsGames games
  pub has : (g : List Move) → Contains games g ↔ Contains found g
  pub as_many : length games ≡ length found

pub read_none : (all : List (List ℕ)) → IsGames [] → IsReadTo all all 0 []
unfolding Give IsOnce
read_none all games = record {
  before = [];
  found = [];
  is = refl;
  counts = refl;
  read = record { gives = refl; once = tt; few = omega arith };
  sorted = games;
  has = λ g. (λ h. h, λ h. h);
  as_many = refl;
}

gives_skip : (ls : List (List ℕ)) (line : List ℕ) (gs : List (List Move)) → Give ls gs → words line ≡ [] → Give (ls ++ line ∷ []) gs
unfolding Give
gives_skip [] line gs h e = inl (e, h)
gives_skip (x ∷ xs) line gs h e = elim h [
  | inl k ↦ inl (k.0, gives_skip xs line gs k.1 e)
  | inr k ↦ inr (k.0, k.1, k.2, k.3, gives_skip xs line k.1 k.4 e)
]

gives_game : (ls : List (List ℕ)) (line : List ℕ) (gs : List (List Move)) (g : List Move) → Give ls gs → IsGameLine line g → Give (ls ++ line ∷ []) (gs ++ g ∷ [])
unfolding Give
gives_game [] line gs g h e = inr (g, [], ap (λ (x : List (List Move)). x ++ g ∷ []) h, e, refl)
gives_game (x ∷ xs) line gs g h e = elim h [
  | inl k ↦ inl (k.0, gives_game xs line gs g k.1 e)
  | inr k ↦ inr (k.0, k.1 ++ g ∷ [], ap (λ (x : List (List Move)). x ++ g ∷ []) k.2, k.3, gives_game xs line k.1 g k.4 e)
]

once_more : (gs : List (List Move)) (g : List Move) → IsOnce gs → ¬ Contains gs g → IsOnce (gs ++ g ∷ [])
unfolding IsOnce
once_more [] g h new = (λ c. Contains-none g c, tt)
once_more (x ∷ xs) g h new = (
  λ c. elim (Contains-push_cases xs g x c) [
    | inl k ↦ h.0 k
    | inr e ↦ new (subst (λ (y : List Move). Contains (x ∷ xs) y) (sym e) (Contains-head x xs))
  ],
  once_more xs g h.1 (λ c. new (Contains-later x g xs c)),
)

read_blank : (all left more : List (List ℕ)) (line : List ℕ) (n : ℕ) (games : List (List Move)) → IsReadTo all left n games → left ≡ line ∷ more → words line ≡ [] → IsReadTo all more (n + 1) games
read_blank all left more line n games r e blank = record {
  before = r.before ++ line ∷ [];
  found = r.found;
  is = r.is ∙ ap (λ (x : List (List ℕ)). r.before ++ x) e ∙ sym (append_assoc r.before (line ∷ []) more);
  counts = let c : n ≡ length r.before = r.counts in let l : length (r.before ++ line ∷ []) ≡ length r.before + 1 = length-append r.before (line ∷ []) in omega arith;
  read = record { gives = gives_skip r.before line r.found r.read.gives blank; once = r.read.once; few = r.read.few };
  sorted = r.sorted;
  has = r.has;
  as_many = r.as_many;
}

read_more : (all left more : List (List ℕ)) (line : List ℕ) (n : ℕ) (games hs : List (List Move)) (g : List Move) → IsReadTo all left n games → left ≡ line ∷ more → IsGameLine line g → IsAdded games g hs → IsReadTo all more (n + 1) hs
read_more all left more line n games hs g r e game added =
    let same : length games ≡ length r.found = r.as_many in
    let room : length games < 4096 = added.new.room in
    let longer : length (r.found ++ g ∷ []) ≡ length r.found + 1 = length-append r.found (g ∷ []) in
    let other : ¬ Contains r.found g = λ c. added.new.other ((r.has g).1 c) in
    record {
      before = r.before ++ line ∷ [];
      found = r.found ++ g ∷ [];
      is = r.is ∙ ap (λ (x : List (List ℕ)). r.before ++ x) e ∙ sym (append_assoc r.before (line ∷ []) more);
      counts = let c : n ≡ length r.before = r.counts in let l : length (r.before ++ line ∷ []) ≡ length r.before + 1 = length-append r.before (line ∷ []) in omega arith;
      read = record { gives = gives_game r.before line r.found g r.read.gives game; once = once_more r.found g r.read.once other; few = omega arith };
      sorted = added.games;
      has = λ x. (
        λ c. elim ((added.has x).0 c) [
          | inl h ↦ Contains-append_left r.found (g ∷ []) x ((r.has x).0 h)
          | inr i ↦ subst (λ (y : List Move). Contains (r.found ++ g ∷ []) y) (sym i) (Contains-push r.found g)
        ],
        λ c. (added.has x).1 (elim (Contains-push_cases r.found g x c) [ inl h ↦ inl ((r.has x).1 h) | inr i ↦ inr (sym i) ]),
      );
      as_many = let m : length hs ≡ length games + 1 = added.one_more in omega arith;
    }

pub read_line_more : (all left more : List (List ℕ)) (line : List ℕ) (n : ℕ) (games hs : List (List Move)) → IsReadTo all left n games → left ≡ line ∷ more → IsLineRead line games hs → IsReadTo all more (n + 1) hs
unfolding IsLineRead
read_line_more all left more line n games hs r e step = elim step [
  | inl b ↦ subst (IsReadTo all more (n + 1)) (sym b.1) (read_blank all left more line n games r e b.0)
  | inr k ↦ read_more all left more line n games hs k.0 r e k.1 k.2
]

pub read_all : (text : List ℕ) (left : List (List ℕ)) (n : ℕ) (games : List (List Move)) → IsReadTo (lines text) left n games → left ≡ [] → IsListing text games
read_all text left n games r e =
    let whole : lines text ≡ r.before = r.is ∙ ap (λ (x : List (List ℕ)). r.before ++ x) e ∙ append-nil r.before in
    record { found = r.found; read = subst (λ (x : List (List ℕ)). AreRead x r.found) (sym whole) r.read; sorted = r.sorted; has = r.has }

-- a line's fault behind the list is its fault behind the games in their order
fault_found : (line : List ℕ) (n : ℕ) (games found : List (List Move)) (fault : GamesFault) → ((g : List Move) → Contains games g ↔ Contains found g) → length games ≡ length found → IsLineFault line n games fault → IsLineFault line n found fault
fault_found line n games found (TooMany number) has same h = (h.0, h.1, sym same ∙ h.2)
fault_found line n games found (At number ply cause) has same h = (h.0, let room : length games < 4096 = h.1 in omega arith, h.2)
fault_found line n games found (Repeated number) has same h = (h.0, let room : length games < 4096 = h.1 in omega arith, (h.2.0, h.2.1, (has h.2.0).0 h.2.2))
fault_found line n games found Memory has same h = (let room : length games < 4096 = h.0 in omega arith, h.1)

line_there : (text : List ℕ) (left more : List (List ℕ)) (line : List ℕ) (n : ℕ) (games : List (List Move)) (r : IsReadTo (lines text) left n games) → left ≡ line ∷ more → IsLine text (n + 1) line r.found
line_there text left more line n games r e = record {
  before = r.before;
  after = more;
  is = r.is ∙ ap (λ (x : List (List ℕ)). r.before ++ x) e;
  counts = let c : n ≡ length r.before = r.counts in omega arith;
  read = r.read;
}

pub read_fault : (text : List ℕ) (left more : List (List ℕ)) (line : List ℕ) (n : ℕ) (games : List (List Move)) (fault : GamesFault) → IsReadTo (lines text) left n games → left ≡ line ∷ more → IsLineFault line (n + 1) games fault → IsTextFault text fault
read_fault text left more line n games Memory r e h = (n + 1, line, r.found, line_there text left more line n games r e, fault_found line (n + 1) games r.found Memory r.has r.as_many h)
read_fault text left more line n games (TooMany number) r e h = (n + 1, line, r.found, line_there text left more line n games r e, fault_found line (n + 1) games r.found (TooMany number) r.has r.as_many h)
read_fault text left more line n games (At number ply cause) r e h = (n + 1, line, r.found, line_there text left more line n games r e, fault_found line (n + 1) games r.found (At number ply cause) r.has r.as_many h)
read_fault text left more line n games (Repeated number) r e h = (n + 1, line, r.found, line_there text left more line n games r e, fault_found line (n + 1) games r.found (Repeated number) r.has r.as_many h)
