-- The lines of a list of moves grow by the line of one move more. Leads to the contract of writing a list of moves.
use Rattle.pg_texts.proofs.Common.{◌≡◌, ℕ, ◌+◌, ◌<◌, ◌≤◌, List, [], ◌∷◌, ◌++◌, Option, length, get_or, take, refl, sym, ap, subst, append_assoc, ◌∙◌, Appends-nil, Appends-trans, take_more, take_all, AddsSome, State, Move, IsSan, AreMoveLines, AddsLine}

lines_more : (p : State) (ms : List Move) (m : Move) (text line : List ℕ) → AreMoveLines p ms text → IsSan p m line → AreMoveLines p (ms ++ m ∷ []) (text ++ (line ++ 10 ∷ []))
unfolding AreMoveLines
lines_more p [] m text line h s = (line, [], s, refl, ap (λ (l : List ℕ). l ++ (line ++ 10 ∷ [])) h)
lines_more p (x ∷ xs) m text line (first, rest, is, more, e) s = (
  first,
  rest ++ (line ++ 10 ∷ []),
  is,
  lines_more p xs m rest line more s,
  ap (λ (l : List ℕ). l ++ (line ++ 10 ∷ [])) e ∙ append_assoc first (10 ∷ rest) (line ++ 10 ∷ []),
)

pub no_lines : (p : State) (ms : List Move) (held : Option (List ℕ)) → AddsSome (AreMoveLines p (take 0 ms)) held held
unfolding AreMoveLines
no_lines p ms held = ([], refl, Appends-nil held)

pub one_line_more : (p : State) (ms : List Move) (n : ℕ) (m : Move) (a b c : Option (List ℕ)) → n < length ms → m ≡ get_or ms n m → AddsSome (AreMoveLines p (take n ms)) a b → AddsLine (IsSan p m) b c → AddsSome (AreMoveLines p (take (n + 1) ms)) a c
one_line_more p ms n m a b c low at (text, lines, grows) (line, san, more) =
    let e : take (n + 1) ms ≡ take n ms ++ m ∷ [] = take_more ms n m low ∙ ap (λ (x : Move). take n ms ++ x ∷ []) (sym at) in (
      text ++ (line ++ 10 ∷ []),
      subst (λ (x : List Move). AreMoveLines p x (text ++ (line ++ 10 ∷ []))) (sym e) (lines_more p (take n ms) m text line lines san),
      Appends-trans a b c text (line ++ 10 ∷ []) grows more,
    )

pub all_lines : (p : State) (ms : List Move) (n : ℕ) (a b : Option (List ℕ)) → length ms ≤ n → AddsSome (AreMoveLines p (take n ms)) a b → AddsSome (AreMoveLines p ms) a b
all_lines p ms n a b l h = subst (λ (x : List Move). AddsSome (AreMoveLines p x) a b) (take_all n ms l) h
