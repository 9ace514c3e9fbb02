-- A text is cut into its lines one at a time.
use Rattle.pg_san.proofs.Common.{◌≡◌, ℕ, suc, ◌+◌, ◌<◌, Bool, true, false, List, [], ◌∷◌, ◌++◌, length, get_or, take, drop, refl, sym, ap, ◌∙◌, arith, map, All, slice_split, get_or_default, take-append-drop, get_or-take, length-take-le, drop-cons, is_feed, lines}
use Rattle.std.specs.Str.Lines.{strip_carriage_return}
use Rattle.std.proofs.lemmas.List.Splits.{slice_split_at, slice_split_none}
use Rattle.memchr.specs.Find.{Nowhere, NoneBefore, Passes, is_byte}

-- no line feed up to n
no_feed : (b : Bool) → ¬ (b ≡ true) → b ≡ false
no_feed true h = absurd (h refl)
no_feed false h = refl

passes_no : (text : List ℕ) (k d : ℕ) → k < length text → ¬ Passes (is_byte 10) text k → is_feed (get_or text k d) ≡ false
passes_no text k d l h = let e : get_or text k d ≡ get_or text k 0 = get_or_default text k d 0 l in rw e (no_feed (is_feed (get_or text k 0)) h)

pub line_at : (text : List ℕ) (n : ℕ) → NoneBefore (Passes (is_byte 10) text) 0 (length text) n → Passes (is_byte 10) text n → lines text ≡ strip_carriage_return (take n text) ∷ lines (drop (n + 1) text)
unfolding lines
line_at text n none here =
    let l : n < length text = none.high in
    let len : length (take n text) ≡ n = length-take-le n text (omega arith) in
    let clear : All (λ x. is_feed x ≡ false) (take n text) = λ k d low. (let e : get_or (take n text) k d ≡ get_or text k d = get_or-take n text k d (omega arith) in rw e (passes_no text k d (omega arith) (none.before k (omega arith) (omega arith)))) in
    let one_more : n + 1 ≡ suc n = omega arith in
    let cut : text ≡ take n text ++ get_or text n 0 ∷ drop (n + 1) text = sym (take-append-drop n text) ∙ ap (λ (x : List ℕ). take n text ++ x) (rw one_more (drop-cons text n 0 l)) in
    let parts : slice_split is_feed text ≡ take n text ∷ slice_split is_feed (drop (n + 1) text) = ap (slice_split is_feed) cut ∙ slice_split_at is_feed (take n text) (get_or text n 0) (drop (n + 1) text) clear here in
    ap (map strip_carriage_return) parts

pub line_all : (text : List ℕ) → Nowhere (Passes (is_byte 10) text) 0 (length text) → lines text ≡ strip_carriage_return text ∷ []
unfolding lines
line_all text none = ap (map strip_carriage_return) (slice_split_none is_feed text (λ k d low. passes_no text k d low (none k (omega arith) low)))
