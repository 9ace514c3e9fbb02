-- The text of games is read as these games.
use Rattle.pg_pgn.proofs.Common.{◌≡◌, ◌≢◌, ℕ, suc, ◌+◌, ◌/◌, ◌%◌, ◌^◌, ◌<◌, ◌≤◌, inl, inr, Bool, true, false, List, [], ◌∷◌, ◌++◌, length, drop, take, Some, refl, sym, ap, subst, ◌∙◌, arith, append_assoc, append-nil, length-append, zero, ◌||◌, ◌==◌, not, nat_lt, codes, if◌then◌else◌, prefix_len, is_ascii_digit, cases_lt, eqb_tells, drop-append_seam, State, Move, Legal, array_state, IsSan, digits_len, dots_len, is_dot, English, Sign, Nothing, Heads, english, kind_of, is_word_byte, is_gap, tag_from, tag_name, tag_value, StartsWith, AreTokens, body, Reader, at_game, ended, moved, sign_of, word_sign, said, without_number, behind_number, Goes, Lead, IsFile, tags, gap, columns, spaced, number_text, number_columns, AreMoves, IsGameText, AreFurther, IsPgnText, AreShort, not-true}
use Rattle.std.specs.Fmt.{decimal}
use Rattle.std.proofs.lemmas.Fmt.{decimal_digit, decimal_step}
use Rattle.pg_pgn.specs.declared.signs.Sign.TheVariants.{Result as Ended}
use Rattle.pg_pgn.specs.Writing.{number}
use Rattle.pg_pgn.specs.declared.tokens.TagPart.TheVariants.{Bare}
use Rattle.pg_pgn.proofs.SanBytes.{member, passes, Every, member_passes, every_append, every_so, range, in_range}
use Rattle.pg_pgn.proofs.RoundLemmas.{Reaches, reaches_none, reaches_one, reaches_then, IsFront, Stops, prefix_all, word_kind, word_reaches, spaced_reaches, move_reaches, move_text}
use Rattle.pg_pgn.proofs.WritingLemmas.{around}

-- ---- numbers
-- the digits
ten : List ℕ
ten = range 48 10

digit_ten : (d : ℕ) → d < 10 → member ten (48 + d) ≡ true
unfolding ten
digit_ten d low = in_range 48 10 (48 + d) (omega arith) (omega (arith, low))

decimal_ten : (fuel n : ℕ) → n < fuel → n < 2 ^ 64 → Every (member ten) (decimal n)
unfolding Every
decimal_ten zero n short low = absurd (omega (arith, short))
decimal_ten (suc fuel) n short low = elim (cases_lt n 10) [
  | inl small ↦ rw (decimal_digit n small) (digit_ten n small, tt)
  | inr big ↦ (
      let less : n / 10 < fuel = omega (arith, short, big) in
      let low2 : n / 10 < 2 ^ 64 = omega (arith, low) in
      let last : n % 10 < 10 = omega arith in
      rw (decimal_step n big low) (every_append (member ten) (decimal (n / 10)) ((48 + n % 10) ∷ []) (decimal_ten fuel (n / 10) less low2) (digit_ten (n % 10) last, tt))
      )
]

-- a text that is not empty
HasFirst : List ℕ → Type 0
HasFirst xs = (b : ℕ) × (more : List ℕ) × (xs ≡ b ∷ more)

push_first : (xs : List ℕ) (b : ℕ) → HasFirst (xs ++ b ∷ [])
unfolding HasFirst
push_first [] b = (b, [], refl)
push_first (x ∷ xs) b = (x, xs ++ b ∷ [], refl)

one_first : (b : ℕ) → HasFirst (b ∷ [])
unfolding HasFirst
one_first b = (b, [], refl)

decimal_first : (n : ℕ) → n < 2 ^ 64 → HasFirst (decimal n)
decimal_first n low = elim (cases_lt n 10) [
  | inl small ↦ rw (decimal_digit n small) (one_first (48 + n))
  | inr big ↦ rw (decimal_step n big low) (push_first (decimal (n / 10)) (48 + n % 10))
]

digit_is : (b : ℕ) → member ten b ≡ true → is_ascii_digit b ≡ true
unfolding passes ten range
digit_is b h = member_passes is_ascii_digit ten b h refl

digit_word : (b : ℕ) → member ten b ≡ true → is_word_byte b ≡ true
unfolding passes ten range kind_of
digit_word b h = member_passes is_word_byte ten b h refl

digit_front : (b : ℕ) → member ten b ≡ true → IsFront b
unfolding passes ten range
digit_front b h = record { gap = not-true (is_gap b) (member_passes (λ x. not (is_gap x)) ten b h refl); shown = not-true (b == 37) (member_passes (λ x. not (x == 37)) ten b h refl) }

-- what is left of a word by these digits and dots
left_by : ℕ → List ℕ → List ℕ → List ℕ
left_by dots behind word = if nat_lt 0 dots || (length behind == 0) then behind else word

left_is : (word : List ℕ) → without_number word ≡ left_by (dots_len word) (behind_number word) word
unfolding without_number left_by
left_is word = refl

none_left : (word : List ℕ) → left_by 1 [] word ≡ []
unfolding left_by
none_left word = refl

-- a number and a dot say nothing
number_left : (ds : List ℕ) → Every is_ascii_digit ds → without_number (ds ++ codes ".") ≡ []
unfolding Stops
number_left ds every =
    let word = ds ++ codes "." in
    let digits : digits_len word ≡ length ds = prefix_all is_ascii_digit ds (codes ".") every refl in
    let dot : drop (digits_len word) word ≡ codes "." = ap (λ (n : ℕ). drop n word) digits ∙ drop-append_seam ds (codes ".") in
    let dots : dots_len word ≡ 1 = ap (prefix_len is_dot) dot in
    let behind : behind_number word ≡ [] = ap (λ (n : ℕ). drop n (drop (digits_len word) word)) dots ∙ ap (drop 1) dot in
    left_is word ∙ ap (λ (n : ℕ). left_by n (behind_number word) word) dots ∙ ap (λ (l : List ℕ). left_by 1 l word) behind ∙ none_left word

nothing_said : (text : List ℕ) → text ≡ [] → word_sign (english English text) ≡ Nothing
unfolding english
nothing_said text e = ap (λ (l : List ℕ). word_sign (english English l)) e

goes_nothing : (r : Reader) (text : List ℕ) → Goes Nothing r text r
unfolding Goes
goes_nothing r text = refl

tail_of : (p : ℕ → Bool) (b : ℕ) (w : List ℕ) → Every p (b ∷ w) → (p b ≡ true) × Every p w
unfolding Every
tail_of p b w h = h

dot_word : Every is_word_byte (codes ".")
unfolding Every kind_of
dot_word = (refl, tt)

number_reaches : (r : Reader) (n ply : ℕ) (rest : List ℕ) → ply / 2 + 1 < 2 ^ 64 → Stops is_word_byte rest → Reaches r (spaced n (number ply) ++ rest) r rest
unfolding HasFirst
number_reaches r n ply rest low stops =
    let k = ply / 2 + 1 in
    let (b, w, is) = decimal_first k low in
    let every : Every (member ten) (b ∷ w) = subst (Every (member ten)) is (decimal_ten (suc k) k (omega arith) low) in
    let parts = tail_of (member ten) b w every in
    let digits : Every is_ascii_digit (b ∷ w) = every_so (member ten) is_ascii_digit (b ∷ w) digit_is every in
    let bytes : Every is_word_byte (w ++ codes ".") = every_append is_word_byte w (codes ".") (every_so (member ten) is_word_byte w digit_word parts.1) dot_word in
    let sign : word_sign (said English (b ∷ (w ++ codes "."))) ≡ Nothing = nothing_said (without_number (b ∷ (w ++ codes "."))) (number_left (b ∷ w) digits) in
    let goes : Goes (word_sign (said English (b ∷ (w ++ codes ".")))) r (said English (b ∷ (w ++ codes "."))) r = subst (λ (x : Sign). Goes x r (said English (b ∷ (w ++ codes "."))) r) (sym sign) (goes_nothing r (said English (b ∷ (w ++ codes ".")))) in
    let word : Reaches r (b ∷ ((w ++ codes ".") ++ rest)) r rest = word_reaches r r b (w ++ codes ".") rest (word_kind (kind_of b) (digit_word b parts.0)) bytes stops goes in
    subst (λ (l : List ℕ). Reaches r (spaced n (l ++ codes ".") ++ rest) r rest) (sym is) (spaced_reaches r r n b (w ++ codes ".") rest (digit_front b parts.0) word)

-- ---- where a word stops
-- the text is not empty, and no word goes on at its front
Halts : List ℕ → Type 0
Halts [] = ⊥
Halts (b ∷ more) = is_word_byte b ≡ false

halts_append : (xs ys : List ℕ) → Halts xs → Halts (xs ++ ys)
unfolding Halts
halts_append [] ys h = absurd h
halts_append (x ∷ xs) ys h = h

stops_there : (xs : List ℕ) → Halts xs → Stops is_word_byte xs
unfolding Halts Stops
stops_there [] h = tt
stops_there (x ∷ xs) h = h

gap_by : (below : Bool) → Halts (if below then codes " " else codes "\n")
unfolding Halts kind_of
gap_by true = refl
gap_by false = refl

gap_halts : (n long : ℕ) → (n == 0) ≡ false → Halts (gap n long)
gap_halts n long some = rw some (gap_by (nat_lt (n + 1 + long) 80))

some_is : (n : ℕ) → 0 < n → (n == 0) ≡ false
some_is n low = elim (eqb_tells n 0) [
  | inl w ↦ (let e : n ≡ 0 = w.1 in absurd (omega (arith, e, low)))
  | inr w ↦ w.0
]

columns_by : (none below : Bool) (n long : ℕ) → 0 < long → 0 < (if none then long else (if below then n + 1 + long else long))
columns_by true below n long low = low
columns_by false true n long low = omega (arith, low)
columns_by false false n long low = low

columns_some : (n long : ℕ) → 0 < long → (columns n long == 0) ≡ false
columns_some n long low = some_is (columns n long) (columns_by (n == 0) (nat_lt (n + 1 + long) 80) n long low)

spaced_halts : (n : ℕ) (word : List ℕ) → (n == 0) ≡ false → Halts (spaced n word)
spaced_halts n word some = halts_append (gap n (length word)) word (gap_halts n (length word) some)

-- ---- the moves of a game
-- behind these moves, which lead there
after : Reader → List Move → State → Reader
after r ms q = record { games = r.games; moves = r.moves ++ ms; here = q; headed = r.headed; depth = r.depth }

after_none : (r : Reader) (q : State) → r.here ≡ q → after r [] q ≡ r
unfolding after
after_none r q here =
    ap (λ (ms : List Move). record { games = r.games; moves = ms; here = q; headed = r.headed; depth = r.depth }) (append-nil r.moves)
    ∙ ap (λ (x : State). record { games = r.games; moves = r.moves; here = x; headed = r.headed; depth = r.depth }) (sym here)

after_more : (r : Reader) (m : Move) (ms : List Move) (s q : State) → after (moved r m s) ms q ≡ after r (m ∷ ms) q
unfolding after
after_more r m ms s q = ap (λ (l : List Move). record { games = r.games; moves = l; here = q; headed = r.headed; depth = r.depth }) (append_assoc r.moves (m ∷ []) ms)

san_some : (p : State) (m : Move) (san : List ℕ) → IsSan p m san → 0 < length san
san_some p m san is = let t = move_text p m san is in let e : length san ≡ suc (length t.w) = ap length t.is in omega (arith, e)

number_some : (k : ℕ) (ds : List ℕ) → 0 < length (ds ++ codes ".")
number_some k ds = let e : length (ds ++ codes ".") ≡ length ds + 1 = length-append ds (codes ".") in omega (arith, e)

-- behind n columns, where n is not 0, the text of moves begins with no word
moves_halt_by : (odd : Bool) (n : ℕ) (num san rest : List ℕ) → (n == 0) ≡ false
    → Halts ((if odd then spaced n num else []) ++ (spaced (if odd then columns n (length num) else n) san ++ rest))
moves_halt_by true n num san rest some = halts_append (spaced n num) (spaced (columns n (length num)) san ++ rest) (spaced_halts n num some)
moves_halt_by false n num san rest some = halts_append (spaced n san) rest (spaced_halts n san some)

moves_stop : (n ply : ℕ) (p : State) (ms : List Move) (k : ℕ) (q : State) (text tail : List ℕ) → AreMoves n ply p ms k q text → (n == 0) ≡ false → Stops is_word_byte tail → Stops is_word_byte (text ++ tail)
unfolding AreMoves
moves_stop n ply p [] k q text tail (same, here, none) some stops = subst (λ (l : List ℕ). Stops is_word_byte (l ++ tail)) (sym none) stops
moves_stop n ply p (m ∷ ms) k q text tail (s, san, rest, legal, is, more, e) some stops =
    let halts = moves_halt_by (ply % 2 == 0) n (number ply) san rest some in
    subst (λ (l : List ℕ). Stops is_word_byte (l ++ tail)) (sym e) (stops_there _ (halts_append (number_text n ply ++ (spaced (number_columns n ply) san ++ rest)) tail halts))

-- the number before a move, if it has one
numbered_by : (odd : Bool) (r : Reader) (n ply : ℕ) (san rest : List ℕ) → ply / 2 + 1 < 2 ^ 64
    → Reaches r ((if odd then spaced n (number ply) else []) ++ (spaced (if odd then columns n (length (number ply)) else n) san ++ rest)) r (spaced (if odd then columns n (length (number ply)) else n) san ++ rest)
numbered_by true r n ply san rest low =
    let some : (columns n (length (number ply)) == 0) ≡ false = columns_some n (length (number ply)) (number_some ply (decimal (ply / 2 + 1))) in
    number_reaches r n ply (spaced (columns n (length (number ply))) san ++ rest) low (stops_there _ (halts_append (spaced (columns n (length (number ply))) san) rest (spaced_halts (columns n (length (number ply))) san some)))
numbered_by false r n ply san rest low = reaches_none r (spaced n san ++ rest)

moves_reach : (n ply : ℕ) (p : State) (ms : List Move) (k : ℕ) (q : State) (text tail : List ℕ) (r : Reader) → ply + length ms < 2 ^ 64 → AreMoves n ply p ms k q text → r.here ≡ p → r.depth ≡ 0 → Stops is_word_byte tail
    → Reaches r (text ++ tail) (after r ms q) tail
unfolding AreMoves
moves_reach n ply p [] k q text tail r low (same, here, none) at depth stops =
    subst (λ (l : List ℕ). Reaches r (l ++ tail) (after r [] q) tail) (sym none) (subst (λ (x : Reader). Reaches r tail x tail) (sym (after_none r q (at ∙ here))) (reaches_none r tail))
moves_reach n ply p (m ∷ ms) k q text tail r low (s, san, rest, legal, is, more, e) at depth stops =
    let mid = number_columns n ply in
    let next = columns mid (length san) in
    let legal2 : Legal r.here m s = subst (λ (x : State). Legal x m s) (sym at) legal in
    let is2 : IsSan r.here m san = subst (λ (x : State). IsSan x m san) (sym at) is in
    let some : (next == 0) ≡ false = columns_some mid (length san) (san_some p m san is) in
    let small : ply / 2 + 1 < 2 ^ 64 = omega (arith, low) in
    let low2 : (ply + 1) + length ms < 2 ^ 64 = omega (arith, low) in
    let one = numbered_by (ply % 2 == 0) r n ply san (rest ++ tail) small in
    let two = move_reaches r s m mid san (rest ++ tail) depth legal2 is2 (moves_stop next (ply + 1) s ms k q rest tail more some stops) in
    let three = moves_reach next (ply + 1) s ms k q rest tail (moved r m s) low2 more refl depth stops in
    let front = number_text n ply ++ (spaced mid san ++ (rest ++ tail)) in
    let whole : Reaches r front (after (moved r m s) ms q) tail =
    reaches_then r r (after (moved r m s) ms q) front (spaced mid san ++ (rest ++ tail)) tail one (reaches_then r (moved r m s) (after (moved r m s) ms q) (spaced mid san ++ (rest ++ tail)) (rest ++ tail) tail two three) in
    let grouped : text ++ tail ≡ front = ap (λ (l : List ℕ). l ++ tail) e ∙ around (number_text n ply) (spaced mid san) rest tail in
    subst (λ (l : List ℕ). Reaches r l (after r (m ∷ ms) q) tail) (sym grouped) (subst (λ (x : Reader). Reaches r front x tail) (after_more r m ms s q) whole)

-- ---- one game
star_starts : (rest : List ℕ) → StartsWith (42 ∷ rest) (42 ∷ []) rest
unfolding kind_of
star_starts rest = record { first = 42; more = rest; n = 0; is = refl; long = refl; token_is = refl; rest_is = refl }

star_goes : (r : Reader) (text : List ℕ) → r.depth ≡ 0 → Goes Ended r text (at_game (ended r) false)
unfolding Goes
star_goes r text depth = inr (depth, refl)

star_sign : sign_of English (42 ∷ []) ≡ Ended
unfolding kind_of
star_sign = refl

star_front : IsFront 42
star_front = record { gap = refl; shown = refl }

star_reaches : (r : Reader) (k : ℕ) (rest : List ℕ) → r.depth ≡ 0 → Reaches r (spaced k (codes "*") ++ rest) (at_game (ended r) false) rest
star_reaches r k rest depth =
    spaced_reaches r (at_game (ended r) false) k 42 [] rest star_front (reaches_one r (at_game (ended r) false) (42 ∷ rest) (42 ∷ []) rest (star_starts rest) (subst (λ (x : Sign). Goes x r (said English (42 ∷ [])) (at_game (ended r) false)) (sym star_sign) (star_goes r (said English (42 ∷ [])) depth)))

-- a line feed, where no line is hidden behind it
unfoldable pub Shows : List ℕ → Type 0
Shows [] = Unit {0}
Shows (b ∷ more) = (b == 37) ≡ false

feed_starts : (more : List ℕ) → Shows more → StartsWith (10 ∷ more) (10 ∷ []) more
unfolding Shows kind_of
feed_starts [] h = record { first = 10; more = []; n = 0; is = refl; long = refl; token_is = refl; rest_is = refl }
feed_starts (b ∷ more) h = record { first = 10; more = b ∷ more; n = 0; is = refl; long = rw h refl; token_is = refl; rest_is = refl }

feed_sign : sign_of English (10 ∷ []) ≡ Nothing
unfolding kind_of
feed_sign = refl

feed_reaches : (r : Reader) (more : List ℕ) → Shows more → Reaches r (10 ∷ more) r more
feed_reaches r more shows =
    reaches_one r r (10 ∷ more) (10 ∷ []) more (feed_starts more shows) (subst (λ (x : Sign). Goes x r (said English (10 ∷ [])) r) (sym feed_sign) (goes_nothing r (said English (10 ∷ []))))

heads : (games : List (List Move)) (headed : Bool) (text : List ℕ) → Goes Heads (at_game games headed) text (at_game games true)
unfolding Goes
heads games headed text = (refl, refl)

-- a tag pair and the line feed behind it, before what leads on
tag_reaches : (games : List (List Move)) (headed : Bool) (own mid more : List ℕ) (n : ℕ) → tag_from 0 Bare (own ++ (10 ∷ mid)) ≡ Some n
    → take n (own ++ (10 ∷ mid)) ≡ own → drop n (own ++ (10 ∷ mid)) ≡ 10 ∷ mid → sign_of English (91 ∷ own) ≡ Heads → Shows mid
    → Reaches (at_game games true) mid (at_game games true) more → Reaches (at_game games headed) (91 ∷ (own ++ (10 ∷ mid))) (at_game games true) more
unfolding kind_of
tag_reaches games headed own mid more n long token rest sign shows leads =
    let start = at_game games headed in
    let on = at_game games true in
    let starts : StartsWith (91 ∷ (own ++ (10 ∷ mid))) (91 ∷ own) (10 ∷ mid) =
    record { first = 91; more = own ++ (10 ∷ mid); n = n; is = refl; long = long; token_is = ap (λ (l : List ℕ). 91 ∷ l) (sym token); rest_is = sym rest } in
    let goes = subst (λ (x : Sign). Goes x start (said English (91 ∷ own)) on) (sym sign) (heads games headed (said English (91 ∷ own))) in
    reaches_then start on on (91 ∷ (own ++ (10 ∷ mid))) (10 ∷ mid) more (reaches_one start on (91 ∷ (own ++ (10 ∷ mid))) (91 ∷ own) (10 ∷ mid) starts goes)
    (reaches_then on on on (10 ∷ mid) mid more (feed_reaches on mid shows) leads)

-- the seven tags, and the empty line behind them
tags_reach : (games : List (List Move)) (more : List ℕ) → Shows more → Reaches (at_game games false) (tags ++ more) (at_game games true) more
unfolding Shows kind_of tag_from tag_name tag_value
tags_reach games more shows =
    let on = tag_reaches games true in
    let from = λ (k : ℕ). drop k tags ++ more in
    let result = on (codes "Result \"*\"]") (from 92) more 11 refl refl refl refl refl (feed_reaches (at_game games true) more shows) in
    let black = on (codes "Black \"?\"]") (from 79) more 10 refl refl refl refl refl result in
    let white = on (codes "White \"?\"]") (from 67) more 10 refl refl refl refl refl black in
    let round = on (codes "Round \"?\"]") (from 55) more 10 refl refl refl refl refl white in
    let date = on (codes "Date \"????.??.??\"]") (from 43) more 18 refl refl refl refl refl round in
    let site = on (codes "Site \"?\"]") (from 23) more 9 refl refl refl refl refl date in
    tag_reaches games false (codes "Event \"?\"]") (from 12) more 10 refl refl refl refl refl site

first_number : (y z : List ℕ) → Shows (((decimal 1 ++ codes ".") ++ y) ++ z)
unfolding Shows
first_number y z = subst (λ (l : List ℕ). Shows (((l ++ codes ".") ++ y) ++ z)) (sym (decimal_digit 1 (omega arith))) refl

-- the text of a game's moves, with what stands behind them, begins with a number or with `*`
moves_show : (game : List Move) (k : ℕ) (q : State) (moves rest : List ℕ) → AreMoves 0 0 array_state game k q moves → Shows (moves ++ (spaced k (codes "*") ++ rest))
unfolding AreMoves Shows
moves_show [] k q moves rest (same, here, none) =
    subst (λ (l : List ℕ). Shows (l ++ (spaced k (codes "*") ++ rest))) (sym none) (subst (λ (n : ℕ). Shows (spaced n (codes "*") ++ rest)) same refl)
moves_show (m ∷ ms) k q moves rest (s, san, more, legal, is, later, e) =
    subst (λ (l : List ℕ). Shows (l ++ (spaced k (codes "*") ++ rest))) (sym e) (first_number (spaced (number_columns 0 0) san ++ more) (spaced k (codes "*") ++ rest))

star_stops : (none below : Bool) (rest : List ℕ) → Stops is_word_byte (((if none then [] else (if below then codes " " else codes "\n")) ++ codes "*") ++ rest)
unfolding Stops kind_of
star_stops true below rest = refl
star_stops false true rest = refl
star_stops false false rest = refl

pub game_reaches : (games : List (List Move)) (game : List Move) (text more : List ℕ) → length game < 2 ^ 63 → IsGameText game text → Shows more → Reaches (at_game games false) (text ++ more) (at_game (games ++ game ∷ []) false) more
unfolding IsGameText after
game_reaches games game text more low (k, q, moves, are, e) shows =
    let star = codes "*" in
    let tail = spaced k star ++ (10 ∷ more) in
    let on = at_game games true in
    let done = after on game q in
    let stops : Stops is_word_byte tail = star_stops (k == 0) (nat_lt (k + 1 + 1) 80) (10 ∷ more) in
    let one = tags_reach games (moves ++ tail) (moves_show game k q moves (10 ∷ more) are) in
    let two = moves_reach 0 0 array_state game k q moves tail on (omega (arith, low)) are refl refl stops in
    let three = star_reaches done k (10 ∷ more) refl in
    let four = feed_reaches (at_game (ended done) false) more shows in
    let whole = reaches_then (at_game games false) on (at_game (ended done) false) (tags ++ (moves ++ tail)) (moves ++ tail) more one
    (reaches_then on done (at_game (ended done) false) (moves ++ tail) tail more two (reaches_then done (at_game (ended done) false) (at_game (ended done) false) tail (10 ∷ more) more three four)) in
    let front = spaced k star in
    let grouped : text ++ more ≡ tags ++ (moves ++ tail) =
    ap (λ (l : List ℕ). l ++ more) e ∙ append_assoc tags (moves ++ (front ++ codes "\n")) more
    ∙ ap (λ (l : List ℕ). tags ++ l) (append_assoc moves (front ++ codes "\n") more ∙ ap (λ (l : List ℕ). moves ++ l) (append_assoc front (codes "\n") more)) in
    subst (λ (l : List ℕ). Reaches (at_game games false) l (at_game (games ++ game ∷ []) false) more) (sym grouped) whole

-- ---- games
game_shows : (game : List Move) (own rest : List ℕ) → IsGameText game own → Shows (own ++ rest)
unfolding IsGameText Shows
game_shows game own rest (k, q, moves, are, e) = subst (λ (l : List ℕ). Shows (l ++ rest)) (sym e) refl

game_body : (game : List Move) (own rest : List ℕ) → IsGameText game own → body (own ++ rest) ≡ own ++ rest
unfolding IsGameText
game_body game own rest (k, q, moves, are, e) = subst (λ (l : List ℕ). body (l ++ rest) ≡ l ++ rest) (sym e) refl

further_shows : (gs : List (List Move)) (text : List ℕ) → AreFurther gs text → Shows text
unfolding AreFurther Shows
further_shows [] text none = subst Shows (sym none) tt
further_shows (g ∷ gs) text (own, rest, is, more, e) = subst Shows (sym e) refl

further_reaches : (games gs : List (List Move)) (text : List ℕ) → AreShort gs → AreFurther gs text → Reaches (at_game games false) text (at_game (games ++ gs) false) []
unfolding AreFurther AreShort
further_reaches games [] text short none =
    subst (λ (l : List ℕ). Reaches (at_game games false) l (at_game (games ++ []) false) []) (sym none) (subst (λ (x : List (List Move)). Reaches (at_game games false) [] (at_game x false) []) (sym (append-nil games)) (reaches_none (at_game games false) []))
further_reaches games (g ∷ gs) text (low, short) (own, rest, is, more, e) =
    let start = at_game games false in
    let one = at_game (games ++ g ∷ []) false in
    let all = at_game ((games ++ g ∷ []) ++ gs) false in
    let front = feed_reaches start (own ++ rest) (game_shows g own rest is) in
    let mid = game_reaches games g own rest low is (further_shows gs rest more) in
    let last = further_reaches (games ++ g ∷ []) gs rest short more in
    let whole : Reaches start (10 ∷ (own ++ rest)) all [] = reaches_then start start all (10 ∷ (own ++ rest)) (own ++ rest) [] front (reaches_then start one all (own ++ rest) rest [] mid last) in
    subst (λ (l : List ℕ). Reaches start l (at_game (games ++ g ∷ gs) false) []) (sym e) (subst (λ (x : List (List Move)). Reaches start (10 ∷ (own ++ rest)) (at_game x false) []) (append_assoc games (g ∷ []) gs) whole)

no_text : IsFile English [] []
unfolding IsFile AreTokens Lead
no_text = (at_game [] false, record { tokens = []; cut = refl; leads = refl }, refl, refl)

file_of : (games : List (List Move)) (text : List ℕ) → body text ≡ text → Reaches (at_game [] false) text (at_game games false) [] → IsFile English text games
unfolding IsFile
file_of games text same whole =
    (at_game games false, record { tokens = whole.tokens; cut = subst (λ (l : List ℕ). AreTokens l whole.tokens []) (sym same) whole.cut; leads = whole.leads }, refl, refl)

pub written_read : (games : List (List Move)) (text : List ℕ) → AreShort games → IsPgnText games text → IsFile English text games
unfolding IsPgnText AreShort
written_read [] text short none = subst (λ (l : List ℕ). IsFile English l []) (sym none) no_text
written_read (g ∷ gs) text (low, short) (own, rest, is, further, e) =
    let first = game_reaches [] g own rest low is (further_shows gs rest further) in
    let others = further_reaches (g ∷ []) gs rest short further in
    let whole : Reaches (at_game [] false) (own ++ rest) (at_game (g ∷ gs) false) [] = reaches_then (at_game [] false) (at_game (g ∷ []) false) (at_game (g ∷ gs) false) (own ++ rest) rest [] first others in
    subst (λ (l : List ℕ). IsFile English l (g ∷ gs)) (sym e) (file_of (g ∷ gs) (own ++ rest) (game_body g own rest is) whole)
