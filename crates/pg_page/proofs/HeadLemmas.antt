-- The texts of the games make the list, and the parts make the head. Leads to the contract of `page`.
use Rattle.pg_page.proofs.Common.{◌≡◌, ◌≢◌, ◌∙◌, ◌↔◌, ℕ, ◌+◌, ◌-◌, ◌<◌, ◌≤◌, List, [], ◌∷◌, ◌++◌, Option, length, get_or, drop, refl, sym, ap, subst, arith, append_assoc, append-nil, length-append, add-one, nat_tests, codes, decimal, Appends, Placement, get, AddsSome, Grows, letter_of_kind, board_start, board_text, class_of, counts_text, man_text, men_text, square_text, escaped, AreGameItems, AreMoveTexts, IsGameItem, IsGameList, IsHead, answer_text, asked, caption_text, checked_text, end_words, front_text, headed_text, list_end, list_start, named_text, verdict_words, IsMoveText, AddsHead, front_at}
use Rattle.std.proofs.KnownBytes.{Appends-nil, Appends-trans}
use Rattle.std.proofs.lemmas.List.{drop_all, nil_from_length}
use Rattle.pg_board.specs.Squares.{file, rank}
use Rattle.pg_board.specs.declared.man.Man.{Man}
use Rattle.pg_board.specs.declared.man.Color.TheVariants.{White, Black}
use Rattle.pg_captures.specs.Counting.{men, any_man}
use Rattle.pg_checker.specs.declared.certify.Answer.{Answer}
use Rattle.pg_fen.specs.Lengths.{length_text}
use Rattle.pg_fen.specs.PlacementText.{placement_text}
use Rattle.pg_position.specs.declared.state.State.{State}
use Rattle.pg_position.specs.declared.moves.Move.{Move}
use Rattle.pg_position.specs.Array.{array_state}
use Rattle.pg_position.specs.Game.{IsGame}
use Rattle.pg_position.specs.Step.{Legal}
use Rattle.pg_san.specs.Games.{IsFromArray}
use Rattle.pg_texts.specs.Movetext.{AddsLongest, IsMovetext}
use Rattle.pg_page.specs.declared.heading.TheConstants.{CHECKED}

-- ---- the men of a board
pub no_men : (b : Placement) (held : Option (List ℕ)) → Appends held held (men_text b 0)
unfolding men_text
no_men b held = Appends-nil held

pub one_square_more : (b : Placement) (n : ℕ) (old mid new : Option (List ℕ)) → Appends old mid (men_text b n) → Appends mid new (square_text (get b n) n) → Appends old new (men_text b (n + 1))
unfolding men_text
one_square_more b n old mid new before more = subst (λ (k : ℕ). Appends old new (men_text b k)) (sym (add-one n)) (Appends-trans old mid new (men_text b n) (square_text (get b n) n) before more)

-- a piece of text that is given otherwise
given : (a b : Option (List ℕ)) (T : List ℕ → List ℕ) (x y : List ℕ) → x ≡ y → Appends a b (T x) → Appends a b (T y)
given a b T x y e p = subst (λ (t : List ℕ). Appends a b (T t)) e p

pub man_grows : (m : Man) (s x y letter : ℕ) (class : List ℕ) (a b c d e f : Option (List ℕ)) → class ≡ class_of m.color → letter ≡ letter_of_kind m.kind → x ≡ file s - 1 → y ≡ 8 - rank s
    → Appends a b (codes "<use class=\"" ++ (class ++ codes "\" href=\"#m")) → Appends b c (letter ∷ []) → Appends c d (codes "\" x=\"" ++ decimal x) → Appends d e (codes "\" y=\"" ++ decimal y) → Appends e f (codes "\" width=\"1\" height=\"1\"/>")
    → Appends a f (man_text m s)
man_grows m s x y letter class a b c d e f is_class is_letter is_x is_y p q r t u =
    let class_said = codes "<use class=\"" ++ (class_of m.color ++ codes "\" href=\"#m") in
    let letter_said = letter_of_kind m.kind ∷ [] in
    let x_said = codes "\" x=\"" ++ decimal (file s - 1) in
    let y_said = codes "\" y=\"" ++ decimal (8 - rank s) in
    let end = codes "\" width=\"1\" height=\"1\"/>" in
    let p2 : Appends a b class_said = given a b (λ t. codes "<use class=\"" ++ (t ++ codes "\" href=\"#m")) class (class_of m.color) is_class p in
    let q2 : Appends b c letter_said = subst (λ (n : ℕ). Appends b c (n ∷ [])) is_letter q in
    let r2 : Appends c d x_said = subst (λ (n : ℕ). Appends c d (codes "\" x=\"" ++ decimal n)) is_x r in
    let t2 : Appends d e y_said = subst (λ (n : ℕ). Appends d e (codes "\" y=\"" ++ decimal n)) is_y t in
    Appends-trans a b f class_said (letter_said ++ (x_said ++ (y_said ++ end))) p2 (Appends-trans b c f letter_said (x_said ++ (y_said ++ end)) q2 (Appends-trans c d f x_said (y_said ++ end) r2 (Appends-trans d e f y_said end t2 u)))

pub counts_grow : (d : Placement) (white black : ℕ) (a b c e : Option (List ℕ)) → white ≡ men White any_man d → black ≡ men Black any_man d
    → Appends a b (codes "(" ++ decimal white) → Appends b c (codes "+" ++ decimal black) → Appends c e (codes ")")
    → Appends a e (counts_text d)
counts_grow d white black a b c e is_white is_black p q r =
    let white_said = codes "(" ++ decimal (men White any_man d) in
    let black_said = codes "+" ++ decimal (men Black any_man d) in
    let p2 : Appends a b white_said = subst (λ (n : ℕ). Appends a b (codes "(" ++ decimal n)) is_white p in
    let q2 : Appends b c black_said = subst (λ (n : ℕ). Appends b c (codes "+" ++ decimal n)) is_black q in
    Appends-trans a b e white_said (black_said ++ codes ")") p2 (Appends-trans b c e black_said (codes ")") q2 r)

pub board_grows : (d x : Placement) (placement : List ℕ) (a b c e f g h i : Option (List ℕ)) → x ≡ d → placement ≡ placement_text d
    → Appends a b board_start → Appends b c (men_text x 64) → Appends c e (codes "</svg><figcaption>") → Appends e f (counts_text x) → Appends f g (codes "<br><code>") → Appends g h (escaped placement) → Appends h i (codes "</code></figcaption></figure>\n")
    → Appends a i (board_text d)
board_grows d x placement a b c e f g h i is_board is_placement p q r s t u v =
    let q2 : Appends b c (men_text d 64) = subst (λ (y : Placement). Appends b c (men_text y 64)) is_board q in
    let s2 : Appends e f (counts_text d) = subst (λ (y : Placement). Appends e f (counts_text y)) is_board s in
    let u2 : Appends g h (escaped (placement_text d)) = given g h escaped placement (placement_text d) is_placement u in
    let said = escaped (placement_text d) in
    let x5 = said ++ codes "</code></figcaption></figure>\n" in
    let x4 = codes "<br><code>" ++ x5 in
    let x3 = counts_text d ++ x4 in
    let x2 = codes "</svg><figcaption>" ++ x3 in
    let h5 : Appends g i x5 = Appends-trans g h i said (codes "</code></figcaption></figure>\n") u2 v in
    let h4 : Appends f i x4 = Appends-trans f g i (codes "<br><code>") x5 t h5 in
    let h3 : Appends e i x3 = Appends-trans e f i (counts_text d) x4 s2 h4 in
    let h2 : Appends c i x2 = Appends-trans c e i (codes "</svg><figcaption>") x3 r h3 in
    Appends-trans a b i board_start (men_text d 64 ++ x2) p (Appends-trans b c i (men_text d 64) x2 q2 h2)

-- ---- what stands before the games
pub framed_grows : (begin said before text behind : List ℕ) (a b c e f : Option (List ℕ)) → begin ≡ said
    → Appends a b begin → Appends b c before → Appends c e text → Appends e f behind
    → Appends a f (said ++ (before ++ (text ++ behind)))
framed_grows begin said before text behind a b c e f is_said p q r s =
    let p2 : Appends a b said = subst (λ (y : List ℕ). Appends a b y) is_said p in
    Appends-trans a b f said (before ++ (text ++ behind)) p2 (Appends-trans b c f before (text ++ behind) q (Appends-trans c e f text behind r s))

pub front_grows : (d : Placement) (plies n : ℕ) (title author placement length : List ℕ) (a b c e f g h i : Option (List ℕ)) → placement ≡ placement_text d → length ≡ length_text plies → n ≡ plies
    → Appends a b (named_text (caption_text title author length)) → Appends b c (escaped placement) → Appends c e (asked length) → Appends e f (decimal n) → Appends f g (codes "\">\n") → Appends g h (headed_text (caption_text title author length)) → Appends h i (board_text d)
    → Appends a i (front_text d plies title author)
front_grows d plies n title author placement length a b c e f g h i is_placement is_length is_plies p q r s t u v =
    let l = length_text plies in
    let said = escaped (placement_text d) in
    let end = codes "\">\n" in
    let named = named_text (caption_text title author l) in
    let headed = headed_text (caption_text title author l) in
    let p2 : Appends a b named = given a b (λ (y : List ℕ). named_text (caption_text title author y)) length l is_length p in
    let q2 : Appends b c said = given b c escaped placement (placement_text d) is_placement q in
    let r2 : Appends c e (asked l) = given c e asked length l is_length r in
    let s2 : Appends e f (decimal plies) = subst (λ (y : ℕ). Appends e f (decimal y)) is_plies s in
    let u2 : Appends g h headed = given g h (λ (y : List ℕ). headed_text (caption_text title author y)) length l is_length u in
    let x6 = headed ++ board_text d in
    let x5 = end ++ x6 in
    let x4 = decimal plies ++ x5 in
    let x3 = asked l ++ x4 in
    let x2 = said ++ x3 in
    let h6 : Appends g i x6 = Appends-trans g h i headed (board_text d) u2 v in
    let h5 : Appends f i x5 = Appends-trans f g i end x6 t h6 in
    let h4 : Appends e i x4 = Appends-trans e f i (decimal plies) x5 s2 h5 in
    let h3 : Appends c i x3 = Appends-trans c e i (asked l) x4 r2 h4 in
    Appends-trans a b i named x2 p2 (Appends-trans b c i said x3 q2 h3)

pub cooked_grows : (count : ℕ) (a b c : Option (List ℕ)) → count ≢ 0 → count ≢ 1 → Appends a b (codes "<strong>Cooked.</strong> " ++ decimal count) → Appends b c (codes " games of ") → Appends a c (verdict_words count)
cooked_grows count a b c some more p q =
    let e : verdict_words count ≡ (codes "<strong>Cooked.</strong> " ++ decimal count) ++ codes " games of " = grind (arith, nat_tests) in
    subst (λ (t : List ℕ). Appends a c t) (sym e) (Appends-trans a b c (codes "<strong>Cooked.</strong> " ++ decimal count) (codes " games of ") p q)

pub answer_grows : (plies n : ℕ) (x : Answer) (length_said end behind : List ℕ) (a b c d e f g : Option (List ℕ)) → n ≡ length x.games → length_said ≡ length_text plies → end ≡ end_words n → behind ≡ CHECKED.now
    → Appends a b (codes "<p id=\"verdict\">") → Appends b c (verdict_words n) → Appends c d length_said → Appends d e end → Appends e f (checked_text x.proved.records x.proved.named) → Appends f g behind
    → Appends a g (answer_text plies x)
answer_grows plies n x length_said end behind a b c d e f g is_count is_length is_end is_behind p q r s t u =
    let u2 : Appends f g CHECKED.now = subst (λ (y : List ℕ). Appends f g y) is_behind u in
    let m = length x.games in
    let q2 : Appends b c (verdict_words m) = subst (λ (y : ℕ). Appends b c (verdict_words y)) is_count q in
    let r2 : Appends c d (length_text plies) = subst (λ (y : List ℕ). Appends c d y) is_length r in
    let s2 : Appends d e (end_words m) = subst (λ (y : ℕ). Appends d e (end_words y)) is_count (subst (λ (y : List ℕ). Appends d e y) is_end s) in
    let checked = checked_text x.proved.records x.proved.named in
    let x5 = checked ++ CHECKED.now in
    let x4 = end_words m ++ x5 in
    let x3 = length_text plies ++ x4 in
    let h5 : Appends e g x5 = Appends-trans e f g checked CHECKED.now t u2 in
    let h4 : Appends d g x4 = Appends-trans d e g (end_words m) x5 s2 h5 in
    let h3 : Appends c g x3 = Appends-trans c d g (length_text plies) x4 r2 h4 in
    Appends-trans a b g (codes "<p id=\"verdict\">") (verdict_words m ++ x3) p (Appends-trans b c g (verdict_words m) x3 q2 h3)

-- ---- the moves of a game
-- the first n moves lead from the initial array to p and were appended, so that with the text of the others this is that
-- of the game; and the others are a game from p
pub record AreMovesTo (ms : List Move) (n : ℕ) (p : State) (old new : Option (List ℕ)) : Type 0 where
  pub text : List ℕ
  pub is : (more : List ℕ) → AreMoveTexts p (drop n ms) more → AreMoveTexts array_state ms (text ++ more)
  pub grows : Appends old new text
  pub last : State
  pub game : IsGame p (drop n ms) last

pub no_moves : (ms : List Move) (p : State) (held : Option (List ℕ)) → p ≡ array_state → IsFromArray ms → AreMovesTo ms 0 p held held
unfolding IsFromArray
no_moves ms p held e (r, game) = record {
  text = [];
  is = λ more h. subst (λ (x : State). AreMoveTexts x ms more) e h;
  grows = Appends-nil held;
  last = r;
  game = subst (λ (x : State). IsGame x ms r) (sym e) game;
}

-- the next move is legal
pub is_next : (ms : List Move) (n : ℕ) (m : Move) (p : State) (a b : Option (List ℕ)) → n < length ms → m ≡ get_or ms n m → (h : AreMovesTo ms n p a b) → (q : State) × Legal p m q × IsGame q (drop (n + 1) ms) h.last
is_next ms n m p a b low at h = subst (λ (x : List Move). IsGame p x h.last) (front_at ms n m low at) h.game

around : (text first more : List ℕ) → text ++ (first ++ 32 ∷ more) ≡ (text ++ (first ++ 32 ∷ [])) ++ more
around text first more = ap (λ (l : List ℕ). text ++ l) (sym (append_assoc first (32 ∷ []) more)) ∙ sym (append_assoc text (first ++ 32 ∷ []) more)

first_told : (p q : State) (m : Move) (ms : List Move) (first more : List ℕ) → Legal p m q → IsMoveText p m first → AreMoveTexts q ms more → AreMoveTexts p (m ∷ ms) (first ++ 32 ∷ more)
unfolding AreMoveTexts
first_told p q m ms first more legal is h = (q, first, more, legal, is, h, refl)

pub one_move_more : (ms : List Move) (n : ℕ) (m : Move) (p q : State) (first : List ℕ) (a b c e : Option (List ℕ)) → n < length ms → m ≡ get_or ms n m → AreMovesTo ms n p a b → ((r : State) → (q ≡ r) ↔ Legal p m r) → IsMoveText p m first → Appends b c first → Appends c e (32 ∷ []) → AreMovesTo ms (n + 1) q a e
one_move_more ms n m p q first a b c e low at h legal is word space =
    let (r, step, game) = is_next ms n m p a b low at h in
    let here = front_at ms n m low at in
    record {
      text = h.text ++ (first ++ 32 ∷ []);
      is =
          λ more told. subst (λ (x : List ℕ). AreMoveTexts array_state ms x) (around h.text first more)
          (h.is (first ++ 32 ∷ more) (subst (λ (x : List Move). AreMoveTexts p x (first ++ 32 ∷ more)) (sym here) (first_told p q m (drop (n + 1) ms) first more ((legal q).0 refl) is told)));
      grows = Appends-trans a b e h.text (first ++ 32 ∷ []) h.grows (Appends-trans b c e first (32 ∷ []) word space);
      last = h.last;
      game = subst (λ (x : State). IsGame x (drop (n + 1) ms) h.last) (sym ((legal r).1 step)) game;
    }

none_told : (p : State) → AreMoveTexts p [] []
unfolding AreMoveTexts
none_told p = refl

pub all_moves : (ms : List Move) (n : ℕ) (p : State) (a b : Option (List ℕ)) → length ms ≤ n → AreMovesTo ms n p a b → AddsSome (AreMoveTexts array_state ms) a b
all_moves ms n p a b high h =
    let none : drop n ms ≡ [] = drop_all n ms high in
    (h.text, subst (λ (x : List ℕ). AreMoveTexts array_state ms x) (append-nil h.text) (h.is [] (subst (λ (x : List Move). AreMoveTexts p x []) (sym none) (none_told p))), h.grows)

-- ---- the movetext of a game
-- the longest front of a game that is a game is the game
pub whole_game : (game : List Move) (a b : Option (List ℕ)) → IsFromArray game → AddsLongest game a b → AddsSome (IsMovetext game) a b
whole_game game a b from (front, long, some) =
    let l : length game ≤ length front = long.longest game [] (sym (append-nil game)) from in
    let k : length game ≡ length front + length long.rest = ap (λ (x : List Move). length x) long.is ∙ length-append front long.rest in
    let none : long.rest ≡ [] = nil_from_length long.rest (omega arith) in
    let e : game ≡ front = long.is ∙ ap (λ (x : List Move). front ++ x) none ∙ append-nil front in
    subst (λ (x : List Move). AddsSome (IsMovetext x) a b) (sym e) some

pub item_grows : (game : List Move) (a b c d e f : Option (List ℕ)) → Appends a b (codes "<li><span data-moves=\"") → AddsSome (AreMoveTexts array_state game) b c → Appends c d (codes "\">") → AddsSome (IsMovetext game) d e → Appends e f (codes "</span></li>\n") → AddsSome (IsGameItem game) a f
item_grows game a b c d e f p (moves, are, q) r (line, is, s) t = (
  codes "<li><span data-moves=\"" ++ (moves ++ (codes "\">" ++ (line ++ codes "</span></li>\n"))),
  record { moves = moves; movetext = line; are_moves = are; is_movetext = is; is = refl },
  Appends-trans a b f (codes "<li><span data-moves=\"") (moves ++ (codes "\">" ++ (line ++ codes "</span></li>\n"))) p (Appends-trans b c f moves (codes "\">" ++ (line ++ codes "</span></li>\n")) q (Appends-trans c d f (codes "\">") (line ++ codes "</span></li>\n") r (Appends-trans d e f line (codes "</span></li>\n") s t))),
)

-- ---- the list of the games
pub folded_grows : (count : ℕ) (a b c : Option (List ℕ)) → 20 < count → Appends a b (codes "<h2>The games</h2>\n<details><summary>" ++ decimal count) → Appends b c (codes " games</summary>\n<ol id=\"games\">\n") → Appends a c (list_start count)
folded_grows count a b c many p q =
    let e : list_start count ≡ (codes "<h2>The games</h2>\n<details><summary>" ++ decimal count) ++ codes " games</summary>\n<ol id=\"games\">\n" = grind (arith, nat_tests) in
    subst (λ (t : List ℕ). Appends a c t) (sym e) (Appends-trans a b c (codes "<h2>The games</h2>\n<details><summary>" ++ decimal count) (codes " games</summary>\n<ol id=\"games\">\n") p q)

pub list_grows : (games : List (List Move)) (n : ℕ) (end : List ℕ) (a b c d : Option (List ℕ)) → n ≡ length games → end ≡ list_end n → Appends a b (list_start n) → AddsSome (AreGameItems games) b c → Appends c d end → AddsSome (IsGameList games) a d
list_grows games n end a b c d is_count is_end p (items, are, q) r =
    let m = length games in
    let p2 : Appends a b (list_start m) = subst (λ (k : ℕ). Appends a b (list_start k)) is_count p in
    let r2 : Appends c d (list_end m) = subst (λ (k : ℕ). Appends c d (list_end k)) is_count (subst (λ (y : List ℕ). Appends c d y) is_end r) in (
      list_start m ++ (items ++ list_end m),
      (items, are, refl),
      Appends-trans a b d (list_start m) (items ++ list_end m) p2 (Appends-trans b c d items (list_end m) q r2),
    )

-- ---- the head, and the page that begins with it
pub head_grows : (d : Placement) (plies : ℕ) (title author : List ℕ) (x : Answer) (a b c e : Option (List ℕ)) → Appends a b (front_text d plies title author) → Appends b c (answer_text plies x) → AddsSome (IsGameList x.games) c e → AddsSome (IsHead d plies title author x) a e
head_grows d plies title author x a b c e p q (games, are, r) = (
  front_text d plies title author ++ (answer_text plies x ++ games),
  record { games = games; are_games = are; is = refl },
  Appends-trans a b e (front_text d plies title author) (answer_text plies x ++ games) p (Appends-trans b c e (answer_text plies x) games q r),
)

pub page_grows : (d : Placement) (plies : ℕ) (title author : List ℕ) (x : Answer) (a b c : Option (List ℕ)) → AddsSome (IsHead d plies title author x) a b → Grows b c → AddsHead d plies title author x a c
unfolding Grows
page_grows d plies title author x a b c (head, is, p) (rest, q) = (head, rest, is, Appends-trans a b c head rest p q)
