-- What is written is read as the games that were written.
use Rattle.pg_pgn.proofs.Common.{◌≡◌, ℕ, suc, ◌+◌, inl, inr, Bool, true, false, List, [], ◌∷◌, ◌++◌, Some, length, refl, sym, ap, subst, ◌∙◌, arith, append_assoc, ◌&&◌, ◌==◌, not, nat_lt, codes, Ok, if◌then◌else◌, prefix_len, is_ascii_digit, eqb_tells, take_at, drop-append_seam, State, Move, Legal, IsReading, IsSan, is_dot, English, TokenKind, Gap, LineEnd, Comment, LineComment, Tag, Glyph, Opens, Closes, Star, Word, Sign, Moves, english, written, kind_of, is_word, is_word_byte, is_gap, more_len, StartsWith, AreTokens, Reader, moved, sign_of, sign_by, word_sign, said, is_mark, without_number, Goes, Lead, gap, spaced, and_parts, not-true, and-false}
use Rattle.pg_san.proofs.LawLemmas.{itself, no_other}
use Rattle.pg_pgn.proofs.SanBytes.{member, passes, Every, member_passes, every_so, alphabet, initials, san_are, san_begun}

-- ---- tokens, one after another
-- the tokens at the front of a text lead a reader from r to s, and the rest stands behind them
pub record Reaches (r : Reader) (text : List ℕ) (s : Reader) (rest : List ℕ) : Type 0 where
  pub tokens : List (List ℕ)
  pub cut : AreTokens text tokens rest
  pub leads : Lead English r tokens s

pub reaches_none : (r : Reader) (text : List ℕ) → Reaches r text r text
unfolding AreTokens Lead
reaches_none r text = record { tokens = []; cut = refl; leads = refl }

pub reaches_one : (r s : Reader) (text token rest : List ℕ) → StartsWith text token rest → Goes (sign_of English token) r (said English token) s → Reaches r text s rest
unfolding AreTokens Lead
reaches_one r s text token rest starts goes = record { tokens = token ∷ []; cut = (rest, starts, refl); leads = (s, goes, refl) }

tokens_append : (text : List ℕ) (ts us : List (List ℕ)) (mid rest : List ℕ) → AreTokens text ts mid → AreTokens mid us rest → AreTokens text (ts ++ us) rest
unfolding AreTokens
tokens_append text [] us mid rest e h = subst (λ (x : List ℕ). AreTokens x us rest) (sym e) h
tokens_append text (t ∷ ts) us mid rest h k = (h.0, h.1, tokens_append h.0 ts us mid rest h.2 k)

leads_append : (r s t : Reader) (ts us : List (List ℕ)) → Lead English r ts s → Lead English s us t → Lead English r (ts ++ us) t
unfolding Lead
leads_append r s t [] us e h = subst (λ (x : Reader). Lead English x us t) e h
leads_append r s t (x ∷ xs) us h k = (h.0, h.1, leads_append h.0 s t xs us h.2 k)

pub reaches_then : (r s t : Reader) (a b c : List ℕ) → Reaches r a s b → Reaches s b t c → Reaches r a t c
reaches_then r s t a b c h k = record {
  tokens = h.tokens ++ k.tokens;
  cut = tokens_append a h.tokens k.tokens b c h.cut k.cut;
  leads = leads_append r s t h.tokens k.tokens h.leads k.leads;
}

-- ---- gaps
-- a byte that ends a gap, and is hidden by nothing
pub record IsFront (b : ℕ) : Type 0 where
  pub gap : is_gap b ≡ false
  pub shown : (b == 37) ≡ false

pub gap_passes : (none below : Bool) (r : Reader) (b : ℕ) (more : List ℕ) → IsFront b
    → Reaches r ((if none then [] else (if below then codes " " else codes "\n")) ++ b ∷ more) r (b ∷ more)
unfolding kind_of Goes
gap_passes true below r b more front = reaches_none r (b ∷ more)
gap_passes false true r b more front =
    reaches_one r r (32 ∷ b ∷ more) (32 ∷ []) (b ∷ more) (record { first = 32; more = b ∷ more; n = 0; is = refl; long = rw front.gap refl; token_is = refl; rest_is = refl }) refl
gap_passes false false r b more front =
    reaches_one r r (10 ∷ b ∷ more) (10 ∷ []) (b ∷ more) (record { first = 10; more = b ∷ more; n = 0; is = refl; long = rw front.shown refl; token_is = refl; rest_is = refl }) refl

-- ---- words
-- no word goes on at the front of this text
unfoldable pub Stops : (ℕ → Bool) → List ℕ → Type 0
Stops p [] = Unit {0}
Stops p (b ∷ more) = p b ≡ false

pub prefix_all : (p : ℕ → Bool) (xs rest : List ℕ) → Every p xs → Stops p rest → prefix_len p (xs ++ rest) ≡ length xs
unfolding Every Stops
prefix_all p [] [] h k = refl
prefix_all p [] (b ∷ more) h k = rw k refl
prefix_all p (x ∷ xs) rest h k = rw h.0 (let e : prefix_len p (xs ++ rest) ≡ length xs = prefix_all p xs rest h.1 k in omega (arith, e))

word_starts : (b : ℕ) (w rest : List ℕ) → kind_of b ≡ Word → Every is_word_byte w → Stops is_word_byte rest → StartsWith (b ∷ (w ++ rest)) (b ∷ w) rest
word_starts b w rest k every stops = record {
  first = b;
  more = w ++ rest;
  n = length w;
  is = refl;
  long = ap (λ (x : TokenKind). more_len x (w ++ rest)) k ∙ ap Some (prefix_all is_word_byte w rest every stops);
  token_is = ap (λ (l : List ℕ). b ∷ l) (sym (take_at w rest (length w) refl));
  rest_is = sym (drop-append_seam w rest);
}

word_says : (b : ℕ) (w : List ℕ) → kind_of b ≡ Word → sign_of English (b ∷ w) ≡ word_sign (said English (b ∷ w))
word_says b w k = ap (λ (x : TokenKind). sign_by x English (b ∷ w)) k

pub word_reaches : (r s : Reader) (b : ℕ) (w rest : List ℕ) → kind_of b ≡ Word → Every is_word_byte w → Stops is_word_byte rest → Goes (word_sign (said English (b ∷ w))) r (said English (b ∷ w)) s
    → Reaches r (b ∷ (w ++ rest)) s rest
word_reaches r s b w rest k every stops goes =
    reaches_one r s (b ∷ (w ++ rest)) (b ∷ w) rest (word_starts b w rest k every stops) (subst (λ (x : Sign). Goes x r (said English (b ∷ w)) s) (sym (word_says b w k)) goes)

-- ---- the text of a move
plain : ℕ → Bool
plain b = not (b == 58) && (not (b == 111) && nat_lt b 128)

plain_written : (b : ℕ) (more : List ℕ) → plain b ≡ true → written English b more ≡ b ∷ []
unfolding plain
plain_written b more h =
    let parts = and_parts (not (b == 58)) (not (b == 111) && nat_lt b 128) h in
    let others = and_parts (not (b == 111)) (nat_lt b 128) parts.1 in
    rw (not-true (b == 58) parts.0, not-true (b == 111) others.0, others.1) refl

english_same : (w : List ℕ) → Every plain w → english English w ≡ w
unfolding english Every
english_same [] h = refl
english_same (b ∷ w) h = rw (plain_written b w h.0, english_same w h.1) refl

same_both : (t : Bool) (w : List ℕ) → (if t then w else w) ≡ w
same_both true w = refl
same_both false w = refl

-- a word that begins with neither a digit nor a dot has no move number
numberless : (b : ℕ) (w : List ℕ) → is_ascii_digit b ≡ false → is_dot b ≡ false → without_number (b ∷ w) ≡ b ∷ w
unfolding without_number
numberless b w digit dot = rw (digit, dot) (same_both (length (b ∷ w) == 0) (b ∷ w))

-- ---- what is told of a byte by the list that it is in
pub word_kind : (k : TokenKind) → is_word k ≡ true → k ≡ Word
word_kind Word h = refl
word_kind Gap h = absurd cc
word_kind LineEnd h = absurd cc
word_kind Comment h = absurd cc
word_kind LineComment h = absurd cc
word_kind Tag h = absurd cc
word_kind Glyph h = absurd cc
word_kind Opens h = absurd cc
word_kind Closes h = absurd cc
word_kind Star h = absurd cc

-- a byte that a word may begin with, which is no digit, no dot and no mark
opens_move : ℕ → Bool
opens_move b =
    is_word_byte b && (not (is_gap b) && (not (b == 37) && (not (is_ascii_digit b) && (not (is_dot b) && (not (is_mark b)
    && (not (b == 48) && not (b == 49)))))))

pub record OpensMove (b : ℕ) : Type 0 where
  pub kind : kind_of b ≡ Word
  pub front : IsFront b
  pub digit : is_ascii_digit b ≡ false
  pub dot : is_dot b ≡ false
  pub mark : is_mark b ≡ false
  pub zero_not : (b == 48) ≡ false
  pub one_not : (b == 49) ≡ false

told : (b : ℕ) → opens_move b ≡ true → OpensMove b
unfolding opens_move
told b h =
    let p1 = and_parts (is_word_byte b) _ h in
    let p2 = and_parts (not (is_gap b)) _ p1.1 in
    let p3 = and_parts (not (b == 37)) _ p2.1 in
    let p4 = and_parts (not (is_ascii_digit b)) _ p3.1 in
    let p5 = and_parts (not (is_dot b)) _ p4.1 in
    let p6 = and_parts (not (is_mark b)) _ p5.1 in
    let p7 = and_parts (not (b == 48)) (not (b == 49)) p6.1 in
    record {
      kind = word_kind (kind_of b) p1.0;
      front = record { gap = not-true (is_gap b) p2.0; shown = not-true (b == 37) p3.0 };
      digit = not-true (is_ascii_digit b) p4.0;
      dot = not-true (is_dot b) p5.0;
      mark = not-true (is_mark b) p6.0;
      zero_not = not-true (b == 48) p7.0;
      one_not = not-true (b == 49) p7.1;
    }

initial_opens : (b : ℕ) → member initials b ≡ true → opens_move b ≡ true
unfolding passes initials opens_move kind_of
initial_opens b h = member_passes opens_move initials b h refl

letter_word : (b : ℕ) → member alphabet b ≡ true → is_word_byte b ≡ true
unfolding passes alphabet kind_of
letter_word b h = member_passes is_word_byte alphabet b h refl

letter_plain : (b : ℕ) → member alphabet b ≡ true → plain b ≡ true
unfolding passes alphabet plain
letter_plain b h = member_passes plain alphabet b h refl

-- neither `.` nor `p`, one of which is the second byte of `e.p.` and of `ep`
other : ℕ → Bool
other b = not (b == 46) && not (b == 112)

letter_other : (b : ℕ) → member alphabet b ≡ true → other b ≡ true
unfolding passes alphabet other
letter_other b h = member_passes other alphabet b h refl

none_longer : (n : ℕ) → (0 == suc n) ≡ false
none_longer n = elim (eqb_tells 0 (suc n)) [
  | inl w ↦ (let e : 0 ≡ suc n = w.1 in absurd (omega (arith, e)))
  | inr w ↦ w.0
]

-- a word that begins so, and goes on with neither `.` nor `p`, is a move
moves_sign : (b : ℕ) (w : List ℕ) → OpensMove b → Every other w → word_sign (b ∷ w) ≡ Moves
unfolding Every other
moves_sign b [] o h = rw (o.one_not, o.zero_not, o.mark, and-false (b == 101)) refl
moves_sign b (c ∷ v) o h =
    let long : (0 == suc (suc (length v))) ≡ false = none_longer (suc (length v)) in
    let parts = and_parts (not (c == 46)) (not (c == 112)) h.0 in
    rw (o.one_not, o.zero_not, o.mark, long, not-true (c == 46) parts.0, not-true (c == 112) parts.1, and-false (b == 101)) refl

-- ---- the text of a move
-- what is told of the text of a move: its first byte, and the others
pub record IsMoveText (san : List ℕ) : Type 0 where
  pub b : ℕ
  pub w : List ℕ
  pub is : san ≡ b ∷ w
  pub opening : OpensMove b
  pub bytes : Every is_word_byte w
  pub says : said English (b ∷ w) ≡ b ∷ w
  pub sign : word_sign (b ∷ w) ≡ Moves

tail_every : (p : ℕ → Bool) (b : ℕ) (w : List ℕ) → Every p (b ∷ w) → Every p w
unfolding Every
tail_every p b w h = h.1

pub move_text : (p : State) (m : Move) (san : List ℕ) → IsSan p m san → IsMoveText san
move_text p m san h =
    let begun = san_begun p m san h in
    let all : Every (member alphabet) (begun.first ∷ begun.more) = subst (Every (member alphabet)) begun.is (san_are p m san h) in
    let rest : Every (member alphabet) begun.more = tail_every (member alphabet) begun.first begun.more all in
    let o : OpensMove begun.first = told begun.first (initial_opens begun.first begun.among) in
    record {
      b = begun.first;
      w = begun.more;
      is = begun.is;
      opening = o;
      bytes = every_so (member alphabet) is_word_byte begun.more letter_word rest;
      says = ap (english English) (numberless begun.first begun.more o.digit o.dot) ∙ english_same (begun.first ∷ begun.more) (every_so (member alphabet) plain (begun.first ∷ begun.more) letter_plain all);
      sign = moves_sign begun.first begun.more o (every_so (member alphabet) other begun.more letter_other rest);
    }

-- what is written of a legal move is read as that move
reads_so : (p next : State) (m : Move) (san : List ℕ) → Legal p m next → IsSan p m san → IsReading p san (Ok m)
reads_so p next m san legal is = ((next, legal), itself p m san is, λ n l h. no_other p m n san is l h)

-- behind a gap, a word
pub spaced_reaches : (r s : Reader) (n b : ℕ) (w rest : List ℕ) → IsFront b → Reaches r (b ∷ (w ++ rest)) s rest → Reaches r (spaced n (b ∷ w) ++ rest) s rest
spaced_reaches r s n b w rest front word =
    let e : spaced n (b ∷ w) ++ rest ≡ gap n (length (b ∷ w)) ++ (b ∷ (w ++ rest)) = append_assoc (gap n (length (b ∷ w))) (b ∷ w) rest in
    subst (λ (l : List ℕ). Reaches r l s rest) (sym e) (reaches_then r r s (gap n (length (b ∷ w)) ++ (b ∷ (w ++ rest))) (b ∷ (w ++ rest)) rest (gap_passes (n == 0) (nat_lt (n + 1 + length (b ∷ w)) 80) r b (w ++ rest) front) word)

move_goes : (r : Reader) (next : State) (m : Move) (text : List ℕ) → r.depth ≡ 0 → Legal r.here m next → IsReading r.here text (Ok m) → Goes Moves r text (moved r m next)
unfolding Goes
move_goes r next m text depth legal reads = inr (depth, (m, next, reads, legal, refl))

pub move_reaches : (r : Reader) (next : State) (m : Move) (n : ℕ) (san rest : List ℕ) → r.depth ≡ 0 → Legal r.here m next → IsSan r.here m san → Stops is_word_byte rest
    → Reaches r (spaced n san ++ rest) (moved r m next) rest
move_reaches r next m n san rest depth legal is stops =
    let t = move_text r.here m san is in
    let reads : IsReading r.here (t.b ∷ t.w) (Ok m) = subst (λ (l : List ℕ). IsReading r.here l (Ok m)) t.is (reads_so r.here next m san legal is) in
    let goes : Goes Moves r (said English (t.b ∷ t.w)) (moved r m next) = subst (λ (l : List ℕ). Goes Moves r l (moved r m next)) (sym t.says) (move_goes r next m (t.b ∷ t.w) depth legal reads) in
    let sign : word_sign (said English (t.b ∷ t.w)) ≡ Moves = ap word_sign t.says ∙ t.sign in
    let word : Reaches r (t.b ∷ (t.w ++ rest)) (moved r m next) rest =
    word_reaches r (moved r m next) t.b t.w rest t.opening.kind t.bytes stops (subst (λ (x : Sign). Goes x r (said English (t.b ∷ t.w)) (moved r m next)) (sym sign) goes) in
    subst (λ (l : List ℕ). Reaches r (spaced n l ++ rest) (moved r m next) rest) (sym t.is) (spaced_reaches r (moved r m next) n t.b t.w rest t.opening.front word)
