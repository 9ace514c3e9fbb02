-- What a run appended to a buffer stands in the sink below it, once all of it is handed on.
use Rattle.pg_cli.proofs.Common.{◌≡◌, subst, ◌⊎◌, inl, inr, ◌++◌, ℕ, List, codes, Appends-kept, Option, Keeps, append_known, AddsSome, Placement, Terms, AddsRight, sink_of, Gathered, HasList}
use Rattle.pg_guide.specs.Why.{HasAnswer}
use Rattle.pg_page.specs.Page.{IsShown}

-- what a buffer counts as held
abbrev pub held_by : {W : Type 0} → (W → Option (List ℕ)) → Gathered W → Option (List ℕ)
held_by held b = append_known (held b.inner) b.bytes.items

-- a text of this kind, by a sink below a buffer that tells its bytes: the buffer before a run, after it, and with all of that handed on
pub handed : {W : Type 0} (held : W → Option (List ℕ)) (old mid new : Gathered W) (Is : List ℕ → Type 0)
    → AddsSome Is (held_by held old) (held_by held mid) → Keeps (held_by held mid) (held (sink_of new))
    → AddsSome Is (held_by held old) (held (sink_of new))
handed held old mid new Is h k = (h.0, h.1, Appends-kept (held_by held old) (held_by held mid) (held (sink_of new)) h.0 h.2 k)

-- what was appended stands there still where known bytes stay
pub right_kept : (a b c : Option (List ℕ)) → AddsRight a b → Keeps b c → AddsRight a c
unfolding AddsRight
right_kept a b c (lines, adds) k = (lines, Appends-kept a b c (lines ++ codes "the certificate is right\n") adds k)

pub page_kept : (t : Terms) (d : Placement) (n : ℕ) (x y title author : List ℕ) (a b c : Option (List ℕ)) → x ≡ title → y ≡ author → IsShown t d n x y a b → Keeps b c → IsShown t d n title author a c
page_kept t d n x y title author a b c is_title is_author shown k =
    let titled : IsShown t d n title y a b = subst (λ (s : List ℕ). IsShown t d n s y a b) is_title shown in
    let (games, exact, proved, (head, rest, is, adds)) = subst (λ (s : List ℕ). IsShown t d n title s a b) is_author titled in
    (games, exact, proved, (head, rest, is, Appends-kept a b c (head ++ rest) adds k))

-- with an answer a list is the exact one
pub or_list : {P : Type 0} (t : Terms) (d : Placement) (n : ℕ) → P ⊎ HasAnswer t d n → P ⊎ HasList d n
or_list t d n (inl h) = inl h
or_list t d n (inr h) = inr (h.0.games, h.1)
