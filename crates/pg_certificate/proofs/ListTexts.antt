-- Price lists and their bytes.
use Rattle.pg_certificate.proofs.Common.{◌≡◌, ℕ, zero, suc, ◌+◌, ◌*◌, ◌-◌, ◌≤◌, List, [], ◌∷◌, ◌++◌, length, take, drop, drop-drop, refl, sym, ap, subst, ◌∙◌, arith, suc-mul, zero-mul, take-add, append_assoc, length-append, length-take-le, length-drop, nil_from_length, take_at, drop_at, take-append-drop, All, PriceList, list_of, AreBytes, IsPriceList, lists_spelling, lists_of}
use Rattle.std.proofs.lemmas.List.Elements.{All-cons, All-head, All-tail}
use Rattle.pg_certificate.proofs.Grammars.{bytes_after}
use Rattle.pg_certificate.proofs.Pieces.{bytes_both, bytes_before}

abbrev AreLists : ℕ → ℕ → List PriceList → Type 0
AreLists a b ls = All (λ l. IsPriceList a b l) ls

no_lists : (a b : ℕ) → AreLists a b []
no_lists a b k d h = absurd (omega arith)

first_bytes : (n : ℕ) (l : List ℕ) → AreBytes l → AreBytes (take n l)
first_bytes n l fits = bytes_before (take n l) (drop n l) (subst AreBytes (sym (take-append-drop n l)) fits)

later_bytes : (n : ℕ) (l : List ℕ) → AreBytes l → AreBytes (drop n l)
later_bytes n l fits = bytes_after (take n l) (drop n l) (subst AreBytes (sym (take-append-drop n l)) fits)

-- a text of w + 1 lists of n bytes begins with one, and w are left behind it
one_more : (w n len : ℕ) → len ≡ suc w * n → (n ≤ len) × (len - n ≡ w * n)
one_more w n len e = let more : suc w * n ≡ w * n + n = suc-mul w n in (omega (arith, e, more), omega (arith, e, more))

pub many_lists : (w a b : ℕ) (l : List ℕ) → length (lists_of w a b l) ≡ w
many_lists zero a b l = refl
many_lists (suc w) a b l = let rest = many_lists w a b (drop (a + b) l) in omega (arith, rest)

pub are_lists : (w a b : ℕ) (l : List ℕ) → length l ≡ w * (a + b) → AreBytes l → AreLists a b (lists_of w a b l)
are_lists zero a b l e fits = no_lists a b
are_lists (suc w) a b l e fits =
    let more = one_more w (a + b) (length l) e in
    All-cons (λ l. IsPriceList a b l) (list_of (take a l) (take b (drop a l))) (lists_of w a b (drop (a + b) l))
    (record {
      sources = length-take-le a l (omega (arith, more.0));
      targets = length-take-le b (drop a l) (omega (arith, more.0, length-drop a l));
      source_bytes = first_bytes a l fits;
      target_bytes = first_bytes b (drop a l) (later_bytes a l fits);
    })
    (are_lists w a b (drop (a + b) l) (length-drop (a + b) l ∙ more.1) (later_bytes (a + b) l fits))

pub spelled_lists : (w a b : ℕ) (l : List ℕ) → length l ≡ w * (a + b) → lists_spelling (lists_of w a b l) ≡ l
spelled_lists zero a b l e = sym (nil_from_length l (e ∙ zero-mul (a + b)))
spelled_lists (suc w) a b l e =
    let more = one_more w (a + b) (length l) e in
    let rest : lists_spelling (lists_of w a b (drop (a + b) l)) ≡ drop (a + b) l = spelled_lists w a b (drop (a + b) l) (length-drop (a + b) l ∙ more.1) in
    ap (λ (m : List ℕ). (take a l ++ take b (drop a l)) ++ m) rest
    ∙ ap (λ (m : List ℕ). m ++ drop (a + b) l) (sym (take-add a b l))
    ∙ take-append-drop (a + b) l

-- ---- lists that fit, from their spelling

first_list : (u v rest : List ℕ) (a b : ℕ) → length u ≡ a → length v ≡ b → list_of (take a ((u ++ v) ++ rest)) (take b (drop a ((u ++ v) ++ rest))) ≡ list_of u v
first_list u v rest a b p q =
    let whole : (u ++ v) ++ rest ≡ u ++ (v ++ rest) = append_assoc u v rest in
    let first : take a ((u ++ v) ++ rest) ≡ u = ap (take a) whole ∙ take_at u (v ++ rest) a p in
    let second : take b (drop a ((u ++ v) ++ rest)) ≡ v = ap (λ (m : List ℕ). take b (drop a m)) whole ∙ ap (take b) (drop_at u (v ++ rest) a p) ∙ take_at v rest b q in
    ap (λ (m : List ℕ). list_of m (take b (drop a ((u ++ v) ++ rest)))) first ∙ ap (list_of u) second

pub lists_again : (w a b : ℕ) (ls : List PriceList) → length ls ≡ w → AreLists a b ls → lists_of w a b (lists_spelling ls) ≡ ls
lists_again zero a b [] e h = refl
lists_again zero a b (l ∷ ls) e h = absurd (omega arith)
lists_again (suc w) a b [] e h = absurd (omega arith)
lists_again (suc w) a b (l ∷ ls) e h =
    let is = All-head (λ x. IsPriceList a b x) l ls h in
    let len : length (l.u ++ l.v) ≡ a + b = omega (arith, length-append l.u l.v, is.sources, is.targets) in
    let rest : lists_of w a b (lists_spelling ls) ≡ ls = lists_again w a b ls (omega arith) (All-tail (λ x. IsPriceList a b x) l ls h) in
    ap (λ (m : List ℕ). list_of (take a ((l.u ++ l.v) ++ lists_spelling ls)) (take b (drop a ((l.u ++ l.v) ++ lists_spelling ls))) ∷ lists_of w a b m) (drop_at (l.u ++ l.v) (lists_spelling ls) (a + b) len)
    ∙ ap (λ (m : List PriceList). list_of (take a ((l.u ++ l.v) ++ lists_spelling ls)) (take b (drop a ((l.u ++ l.v) ++ lists_spelling ls))) ∷ m) rest
    ∙ ap (λ (x : PriceList). x ∷ ls) (first_list l.u l.v (lists_spelling ls) a b is.sources is.targets)

pub length_lists : (w a b : ℕ) (ls : List PriceList) → length ls ≡ w → AreLists a b ls → length (lists_spelling ls) ≡ w * (a + b)
length_lists zero a b [] e h = sym (zero-mul (a + b))
length_lists zero a b (l ∷ ls) e h = absurd (omega arith)
length_lists (suc w) a b [] e h = absurd (omega arith)
length_lists (suc w) a b (l ∷ ls) e h =
    let is = All-head (λ x. IsPriceList a b x) l ls h in
    let rest : length (lists_spelling ls) ≡ w * (a + b) = length_lists w a b ls (omega arith) (All-tail (λ x. IsPriceList a b x) l ls h) in
    let more : suc w * (a + b) ≡ w * (a + b) + (a + b) = suc-mul w (a + b) in
    omega (arith, rest, more, length-append l.u l.v, length-append (l.u ++ l.v) (lists_spelling ls), is.sources, is.targets)

pub list_bytes : (a b : ℕ) (ls : List PriceList) → AreLists a b ls → AreBytes (lists_spelling ls)
list_bytes a b [] h = λ i. omega arith
list_bytes a b (l ∷ ls) h =
    let is = All-head (λ x. IsPriceList a b x) l ls h in
    bytes_both (l.u ++ l.v) (lists_spelling ls) (bytes_both l.u l.v is.source_bytes is.target_bytes) (list_bytes a b ls (All-tail (λ x. IsPriceList a b x) l ls h))

-- ---- lists made one after the other

-- the next list stands at the front of the bytes that are left
pub next_list : (ls : List PriceList) (w a b at : ℕ) (bytes : List ℕ) (all : List PriceList) → ls ++ lists_of (suc w) a b (drop at bytes) ≡ all → (ls ++ list_of (take a (drop at bytes)) (take b (drop (at + a) bytes)) ∷ []) ++ lists_of w a b (drop (at + (a + b)) bytes) ≡ all
next_list ls w a b at bytes all e =
    let second : drop (at + a) bytes ≡ drop a (drop at bytes) = sym (drop-drop a at bytes) in
    let rest : drop (at + (a + b)) bytes ≡ drop (a + b) (drop at bytes) = sym (drop-drop (a + b) at bytes) in
    append_assoc ls (list_of (take a (drop at bytes)) (take b (drop (at + a) bytes)) ∷ []) (lists_of w a b (drop (at + (a + b)) bytes))
    ∙ ap (λ (m : List ℕ). ls ++ list_of (take a (drop at bytes)) (take b m) ∷ lists_of w a b (drop (at + (a + b)) bytes)) second
    ∙ ap (λ (m : List ℕ). ls ++ list_of (take a (drop at bytes)) (take b (drop a (drop at bytes))) ∷ lists_of w a b m) rest
    ∙ e
