-- What one more frame stands for.
use Rattle.pg_checker.proofs.Common.{◌≡◌, ℕ, ◌+◌, ◌<◌, ◌≤◌, List, [], ◌∷◌, ◌++◌, length, reverse, take, get_or, append-nil, Option, Some, None, refl, sym, ◌∙◌, ap, arith, reverse-append, take_more, length-append, Move, played, path, frame_of, frames_of, count_named, one_if}
use Rattle.pg_checker.specs.declared.machine.Frame.{Frame}

pub path_none : path (reverse {A = Frame} []) ≡ []
unfolding path
path_none = refl

pub path_more : (fs : List Frame) (f : Frame) → path (reverse (fs ++ (f ∷ []))) ≡ path (reverse fs) ++ played f.moves.last
unfolding path
path_more fs f = ap path (reverse-append fs (f ∷ []))

pub frames_more : (fs : List Frame) (f : Frame) → frames_of (reverse (fs ++ (f ∷ []))) ≡ frame_of f (reverse fs) ∷ frames_of (reverse fs)
unfolding frames_of
frames_more fs f = ap frames_of (reverse-append fs (f ∷ []))

pub count_more : (fs : List Frame) (f : Frame) → count_named (reverse (fs ++ (f ∷ []))) ≡ one_if f.named + count_named (reverse fs)
unfolding count_named
count_more fs f = ap count_named (reverse-append fs (f ∷ []))

-- the moves along one frame more
take_one : (fs : List Frame) (i : ℕ) (f : Frame) → i < length fs → f ≡ get_or fs i f → take (i + 1) fs ≡ take i fs ++ (f ∷ [])
take_one fs i f low is = take_more fs i f low ∙ ap (λ (x : Frame). take i fs ++ (x ∷ [])) (sym is)

pub along_some : (fs : List Frame) (i : ℕ) (f : Frame) (m : Move) (game new : List Move) → i < length fs → f ≡ get_or fs i f → f.moves.last ≡ Some m → (game ≡ path (reverse (take i fs))) × (length game ≤ i) → new ≡ game ++ (m ∷ []) → (new ≡ path (reverse (take (i + 1) fs))) × (length new ≤ i + 1)
along_some fs i f m game new low is last (e, few) pushed =
    let one : path (reverse (take (i + 1) fs)) ≡ path (reverse (take i fs)) ++ played f.moves.last = ap (λ (v : List Frame). path (reverse v)) (take_one fs i f low is) ∙ path_more (take i fs) f in
    let long : length new ≡ length game + 1 = ap length pushed ∙ length-append game (m ∷ []) in
    (pushed ∙ ap (λ (v : List Move). v ++ (m ∷ [])) e ∙ ap (λ (o : Option Move). path (reverse (take i fs)) ++ played o) (sym last) ∙ sym one, omega arith)

pub along_none : (fs : List Frame) (i : ℕ) (f : Frame) (game new : List Move) → i < length fs → f ≡ get_or fs i f → f.moves.last ≡ None → (game ≡ path (reverse (take i fs))) × (length game ≤ i) → new ≡ game → (new ≡ path (reverse (take (i + 1) fs))) × (length new ≤ i + 1)
along_none fs i f game new low is last (e, few) kept =
    let one : path (reverse (take (i + 1) fs)) ≡ path (reverse (take i fs)) ++ played f.moves.last = ap (λ (v : List Frame). path (reverse v)) (take_one fs i f low is) ∙ path_more (take i fs) f in
    let none : path (reverse (take i fs)) ++ played f.moves.last ≡ path (reverse (take i fs)) = ap (λ (o : Option Move). path (reverse (take i fs)) ++ played o) last ∙ append-nil (path (reverse (take i fs))) in
    (kept ∙ e ∙ sym (one ∙ none), rw kept (omega arith))
