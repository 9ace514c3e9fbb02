-- How a row of distances is made, kind by kind of its targets. Leads to the contract of `row`.
use Rattle.pg_travel.proofs.Common.{◌≡◌, ◌≢◌, ℕ, suc, ◌+◌, ◌-◌, ◌&&◌, not, cond, ◌<◌, ◌≤◌, inl, inr, Bool, true, false, Some, List, length, get_or, refl, sym, ap, subst, arith, ◌∙◌, eqb_tells, leb_tells, Color, Kind, Pawn, Knight, Bishop, Rook, Queen, King, Man, has, IsFirstFrom, HasNoneFrom, is_of, is_man, man, kind_eq, kind_decides, is_man_decides, Placement, get, Stands, men, any_man, number_among, knight, bishop, rook, queen, king, distance_of, stored, to_stood, IsRowFrom, IsWritten, IsWithKind, IsPieceRow, IsMask, IsUnmasked, IsUnreached}
use Rattle.pg_travel.proofs.RowTables.{grows}
use Rattle.pg_travel.proofs.SourceLemmas.{of_there, of_man, below_all, number_next, and_no}
use Rattle.pg_travel.proofs.TakenSets.{AreAll, IsWithout, other_than, taken_itself}

-- ---- numbers of men
-- of two men on two squares the later has the greater number
later : (d : Placement) (c : Color) (q s : ℕ) → is_of c (get d q) ≡ true → q < s → number_among c any_man d q < number_among c any_man d s
later d c q s there l = omega (arith, number_next d c q true there, grows d c (suc q) s (omega arith))

pub numbers_differ : (d : Placement) (c : Color) (q s : ℕ) → is_of c (get d q) ≡ true → is_of c (get d s) ≡ true → q ≢ s → number_among c any_man d q ≢ number_among c any_man d s
numbers_differ d c q s a b ne e = elim (leb_tells q s) [
  | inl w ↦ (let l : number_among c any_man d q < number_among c any_man d s = later d c q s a (omega (arith, w.1, ne)) in omega arith)
  | inr w ↦ (let l : number_among c any_man d s < number_among c any_man d q = later d c s q b (omega (arith, w.1)) in omega arith)
]

-- ---- the targets of a kind
-- so far as the targets left are still to be written
pub record IsGoing (d : Placement) (c : Color) (j : Kind) (n : ℕ) (f : ℕ → ℕ) (left : ℕ) (old new : List ℕ) : Type 0 where
  pub long : length new ≡ 16
  pub at : (o : Kind) (t i : ℕ) → t < 64 → Stands d c o t → number_among c any_man d t ≡ n + i → i < 16 → get_or new i 0 ≡ cond (kind_eq o j && not (has left t)) (f t) (get_or old i 0)
  pub past : (i : ℕ) → men c any_man d ≤ n + i → i < 16 → get_or new i 0 ≡ get_or old i 0

pub going_first : (d : Placement) (c : Color) (j : Kind) (n : ℕ) (f : ℕ → ℕ) (left : ℕ) (m : Man) (row : List ℕ) → length row ≡ 16 → m ≡ man c j → ((q : ℕ) → q < 64 → has left q ≡ is_man m (get d q)) → IsGoing d c j n f left row row
going_first d c j n f left m row long is marks = record {
  long = long;
  at = λ o t i lt there e small. go o t i lt there (kind_eq o j) refl;
  past = λ i l small. refl;
}
  where
    go : (o : Kind) (t i : ℕ) → t < 64 → Stands d c o t → (b : Bool) → kind_eq o j ≡ b → get_or row i 0 ≡ cond (kind_eq o j && not (has left t)) (f t) (get_or row i 0)
    go o t i lt there false e = sym (ap (λ (b : Bool). cond (b && not (has left t)) (f t) (get_or row i 0)) e)
    go o t i lt there true e =
        let same : o ≡ j = (kind_decides o j).0 e in
        let here : get d t ≡ Some m = there ∙ ap (λ (x : Kind). Some (man c x)) same ∙ ap Some (sym is) in
        let on : has left t ≡ true = marks t lt ∙ (is_man_decides m (get d t)).1 here in
        sym (ap (λ (b : Bool). cond b (f t) (get_or row i 0)) (ap (λ (b : Bool). kind_eq o j && not b) on ∙ and_no (kind_eq o j)))

pub going_next : (d : Placement) (c : Color) (j : Kind) (n : ℕ) (f : ℕ → ℕ) (left rest s number x : ℕ) (m : Man) (old row new : List ℕ) → m ≡ man c j → AreAll (λ q. get d q ≡ Some m) left → IsFirstFrom left 0 s → IsWithout left rest s → number ≡ number_among c any_man d s → x ≡ f s → IsWritten n number x row new → IsGoing d c j n f left old row → IsGoing d c j n f rest old new
going_next d c j n f left rest s number x m old row new is all first without numbered value written going = record {
  long = written.long;
  at = λ o t i lt there e small. elim (eqb_tells t s) [
    | inl w ↦
        (let there_s : Stands d c o s = subst (λ (q : ℕ). Stands d c o q) w.1 there in
        let same : o ≡ j = kind_of o there_s in
        let gone : has rest t ≡ false = taken_itself left rest s t without lt w.1 in
        written.there i small (numbered ∙ sym (ap (number_among c any_man d) w.1) ∙ e)
        ∙ value ∙ ap (λ (q : ℕ). f q) (sym w.1)
        ∙ sym (ap (λ (b : Bool). cond (b && not (has rest t)) (f t) (get_or old i 0)) ((kind_decides o j).1 same) ∙ ap (λ (b : Bool). cond (not b) (f t) (get_or old i 0)) gone))
    | inr w ↦
        (let ne : t ≢ s = w.1 in
        let off : number ≢ n + i = λ h. numbers_differ d c t s (of_there d c o t there) (of_there d c j s stands) ne (e ∙ sym h ∙ numbered) in
        written.other i small off ∙ going.at o t i lt there e small ∙ sym (ap (λ (b : Bool). cond (kind_eq o j && not b) (f t) (get_or old i 0)) (other_than left rest s t without lt ne)))
  ];
  past = λ i l small. written.other i small (λ h. omega (arith, numbered, h, l, below_all d c s low (of_there d c j s stands))) ∙ going.past i l small;
}
  where
    low : s < 64
    low = first.on_board

    stands : Stands d c j s
    stands = all s low first.member ∙ ap Some is

    kind_of : (o : Kind) → Stands d c o s → o ≡ j
    kind_of o there = let g : Some (man c o) ≡ Some (man c j) = sym there ∙ stands in let q : man c o ≡ man c j = cc in ap (λ (z : Man). z.kind) q

pub going_all : (d : Placement) (c : Color) (j : Kind) (n : ℕ) (f : ℕ → ℕ) (left : ℕ) (old new : List ℕ) → HasNoneFrom left 0 → IsGoing d c j n f left old new → IsWithKind d c j n f old new
going_all d c j n f left old new none going = record {
  long = going.long;
  at = λ o t i lt there e small. going.at o t i lt there e small ∙ ap (λ (b : Bool). cond b (f t) (get_or old i 0)) (ap (λ (b : Bool). kind_eq o j && not b) (none t (omega arith) lt) ∙ and_yes (kind_eq o j));
  past = going.past;
}
  where
    and_yes : (b : Bool) → (b && true) ≡ b
    and_yes true = refl
    and_yes false = refl

-- ---- a row, kind by kind
-- row has f of the kinds and squares of targets of these kinds, and 255 for others
pub record IsPart (d : Placement) (c : Color) (n : ℕ) (f : Kind → ℕ → ℕ) (done : Kind → Bool) (row : List ℕ) : Type 0 where
  pub long : length row ≡ 16
  pub at : (o : Kind) (t i : ℕ) → t < 64 → Stands d c o t → number_among c any_man d t ≡ n + i → i < 16 → get_or row i 0 ≡ cond (done o) (f o t) 255
  pub past : (i : ℕ) → men c any_man d ≤ n + i → i < 16 → get_or row i 0 ≡ 0

pub part_none : (d : Placement) (c : Color) (n left : ℕ) (f : Kind → ℕ → ℕ) (row : List ℕ) → left ≡ men c any_man d - n → IsUnreached left row → IsPart d c n f (λ o. false) row
part_none d c n left f row is h = record {
  long = h.long;
  at = λ o t i lt there e small. h.none i (omega (arith, is, e, below_all d c t lt (of_there d c o t there))) small;
  past = λ i l small. h.rest i (omega (arith, is, l)) small;
}

pub part_next : (d : Placement) (c : Color) (n : ℕ) (j : Kind) (f : Kind → ℕ → ℕ) (done : Kind → Bool) (old new : List ℕ) → IsPart d c n f done old → IsWithKind d c j n (f j) old new → IsPart d c n f (λ o. cond (kind_eq o j) true (done o)) new
part_next d c n j f done old new part with = record {
  long = with.long;
  at = λ o t i lt there e small. go o t i lt there e small (kind_eq o j) refl;
  past = λ i l small. with.past i l small ∙ part.past i l small;
}
  where
    go : (o : Kind) (t i : ℕ) → t < 64 → Stands d c o t → number_among c any_man d t ≡ n + i → i < 16 → (b : Bool) → kind_eq o j ≡ b → get_or new i 0 ≡ cond (cond (kind_eq o j) true (done o)) (f o t) 255
    go o t i lt there e small true g =
        with.at o t i lt there e small
        ∙ ap (λ (b : Bool). cond b (f j t) (get_or old i 0)) g
        ∙ ap (λ (x : Kind). f x t) (sym ((kind_decides o j).0 g))
        ∙ sym (ap (λ (b : Bool). cond (cond b true (done o)) (f o t) 255) g)
    go o t i lt there e small false g =
        with.at o t i lt there e small
        ∙ ap (λ (b : Bool). cond b (f j t) (get_or old i 0)) g
        ∙ part.at o t i lt there e small
        ∙ sym (ap (λ (b : Bool). cond (cond b true (done o)) (f o t) 255) g)

-- the distances of kind k from r to kinds on squares
abbrev pub steps_to : Color → Kind → ℕ → Kind → ℕ → ℕ
steps_to c k r o t = stored (distance_of c o k r t)

pub part_all : (d : Placement) (c : Color) (k : Kind) (r n : ℕ) (done : Kind → Bool) (row : List ℕ) → ((o : Kind) (t : ℕ) → done o ≡ false → distance_of c o k r t ≡ 64) → IsPart d c n (steps_to c k r) done row → IsRowFrom d c k r n row
unfolding IsRowFrom
part_all d c k r n done row others part = record {
  long = part.long;
  at = λ t i lt there e small. let o : (o : Kind) × (get d t ≡ Some (man c o)) = of_man c (get d t) there in go o.0 t i lt o.1 e small (done o.0) refl;
  rest = part.past;
}
  where
    go : (o : Kind) (t i : ℕ) → t < 64 → Stands d c o t → number_among c any_man d t ≡ n + i → i < 16 → (b : Bool) → done o ≡ b → get_or row i 0 ≡ to_stood c k r t (get d t)
    go o t i lt there e small true f =
        part.at o t i lt there e small
        ∙ ap (λ (b : Bool). cond b (stored (distance_of c o k r t)) 255) f
        ∙ sym (ap (to_stood c k r t) there)
    go o t i lt there e small false f =
        part.at o t i lt there e small
        ∙ ap (λ (b : Bool). cond b (stored (distance_of c o k r t)) 255) f
        ∙ sym (ap stored (others o t f))
        ∙ sym (ap (to_stood c k r t) there)

-- ---- whole rows
eq_back : (a b : Kind) → kind_eq a b ≡ false → kind_eq b a ≡ false
eq_back a b e = go (kind_eq b a) refl
  where
    go : (x : Bool) → kind_eq b a ≡ x → kind_eq b a ≡ false
    go false f = f
    go true f = absurd (let g : kind_eq a b ≡ true = (kind_decides a b).1 (sym ((kind_decides b a).0 f)) in cc)

-- a man but a pawn comes to be of no other kind
pub stays : (c : Color) (o k : Kind) (r t : ℕ) → k ≢ Pawn → kind_eq o k ≡ false → distance_of c o k r t ≡ 64
stays c o Pawn r t plain e = absurd (plain refl)
stays c o Knight r t plain e = ap (λ (b : Bool). cond b (knight r t) 64) (eq_back o Knight e)
stays c o Bishop r t plain e = ap (λ (b : Bool). cond b (bishop r t) 64) (eq_back o Bishop e)
stays c o Rook r t plain e = ap (λ (b : Bool). cond b (rook r t) 64) (eq_back o Rook e)
stays c o Queen r t plain e = ap (λ (b : Bool). cond b (queen r t) 64) (eq_back o Queen e)
stays c o King r t plain e = ap (λ (b : Bool). cond b (king r t) 64) (eq_back o King e)

pub officer_row : (d : Placement) (c : Color) (k : Kind) (r n left : ℕ) (none row : List ℕ) → k ≢ Pawn → left ≡ men c any_man d - n → IsUnreached left none → IsWithKind d c k n (λ t. stored (distance_of c k k r t)) none row → IsRowFrom d c k r n row
officer_row d c k r n left none row plain e free with =
    part_all d c k r n (λ o. cond (kind_eq o k) true false) row (λ o t f. stays c o k r t plain (other o (kind_eq o k) refl f)) (part_next d c n k (steps_to c k r) (λ o. false) none row (part_none d c n left (steps_to c k r) none e free) with)
  where
    other : (o : Kind) (b : Bool) → kind_eq o k ≡ b → cond (kind_eq o k) true false ≡ false → kind_eq o k ≡ false
    other o false g f = g
    other o true g f = absurd (let h : cond (kind_eq o k) true false ≡ true = ap (λ (b : Bool). cond b true false) g in cc)

-- the kinds that a pawn comes to be of
abbrev becomes : Kind → Bool
becomes o = cond (kind_eq o Queen) true (cond (kind_eq o Rook) true (cond (kind_eq o Bishop) true (cond (kind_eq o Knight) true (cond (kind_eq o Pawn) true false))))

never : (c : Color) (o : Kind) (r t : ℕ) → becomes o ≡ false → distance_of c o Pawn r t ≡ 64
never c King r t e = refl
never c Pawn r t e = absurd (let f : true ≡ false = e in cc)
never c Knight r t e = absurd (let f : true ≡ false = e in cc)
never c Bishop r t e = absurd (let f : true ≡ false = e in cc)
never c Rook r t e = absurd (let f : true ≡ false = e in cc)
never c Queen r t e = absurd (let f : true ≡ false = e in cc)

pub pawn_row : (d : Placement) (c : Color) (r n : ℕ) (none pawns knights bishops rooks row : List ℕ) → IsUnreached (men c any_man d - n) none → IsWithKind d c Pawn n (λ t. stored (distance_of c Pawn Pawn r t)) none pawns → IsWithKind d c Knight n (λ t. stored (distance_of c Knight Pawn r t)) pawns knights → IsWithKind d c Bishop n (λ t. stored (distance_of c Bishop Pawn r t)) knights bishops → IsWithKind d c Rook n (λ t. stored (distance_of c Rook Pawn r t)) bishops rooks → IsWithKind d c Queen n (λ t. stored (distance_of c Queen Pawn r t)) rooks row → IsRowFrom d c Pawn r n row
pawn_row d c r n none pawns knights bishops rooks row free p k b o q =
    part_all d c Pawn r n becomes row (λ k t f. never c k r t f)
    (part_next d c n Queen (steps_to c Pawn r) (λ k. cond (kind_eq k Rook) true (cond (kind_eq k Bishop) true (cond (kind_eq k Knight) true (cond (kind_eq k Pawn) true false)))) rooks row
    (part_next d c n Rook (steps_to c Pawn r) (λ k. cond (kind_eq k Bishop) true (cond (kind_eq k Knight) true (cond (kind_eq k Pawn) true false))) bishops rooks
    (part_next d c n Bishop (steps_to c Pawn r) (λ k. cond (kind_eq k Knight) true (cond (kind_eq k Pawn) true false)) knights bishops
    (part_next d c n Knight (steps_to c Pawn r) (λ k. cond (kind_eq k Pawn) true false) pawns knights
    (part_next d c n Pawn (steps_to c Pawn r) (λ k. false) none pawns (part_none d c n (men c any_man d - n) (steps_to c Pawn r) none refl free) p) k) b) o) q)

-- the kinds of other men
abbrev pieces : Kind → Bool
pieces o = cond (kind_eq o King) true (cond (kind_eq o Queen) true (cond (kind_eq o Rook) true (cond (kind_eq o Bishop) true (cond (kind_eq o Knight) true false))))

abbrev own_steps : Color → ℕ → Kind → ℕ → ℕ
own_steps c r o t = stored (distance_of c o o r t)

pub piece_row : (d : Placement) (c : Color) (r n left : ℕ) (none knights bishops rooks queens row : List ℕ) → left ≡ men c any_man d - n → IsUnreached left none → IsWithKind d c Knight n (λ t. stored (distance_of c Knight Knight r t)) none knights → IsWithKind d c Bishop n (λ t. stored (distance_of c Bishop Bishop r t)) knights bishops → IsWithKind d c Rook n (λ t. stored (distance_of c Rook Rook r t)) bishops rooks → IsWithKind d c Queen n (λ t. stored (distance_of c Queen Queen r t)) rooks queens → IsWithKind d c King n (λ t. stored (distance_of c King King r t)) queens row → IsPieceRow d c r n row
piece_row d c r n left none knights bishops rooks queens row e free k b o q g =
    done (part_next d c n King (own_steps c r) (λ k. cond (kind_eq k Queen) true (cond (kind_eq k Rook) true (cond (kind_eq k Bishop) true (cond (kind_eq k Knight) true false)))) queens row
    (part_next d c n Queen (own_steps c r) (λ k. cond (kind_eq k Rook) true (cond (kind_eq k Bishop) true (cond (kind_eq k Knight) true false))) rooks queens
    (part_next d c n Rook (own_steps c r) (λ k. cond (kind_eq k Bishop) true (cond (kind_eq k Knight) true false)) bishops rooks
    (part_next d c n Bishop (own_steps c r) (λ k. cond (kind_eq k Knight) true false) knights bishops
    (part_next d c n Knight (own_steps c r) (λ k. false) none knights (part_none d c n left (own_steps c r) none e free) k) b) o) q) g)
  where
    is_piece : (k : Kind) → k ≢ Pawn → pieces k ≡ true
    is_piece Pawn ne = absurd (ne refl)
    is_piece Knight ne = refl
    is_piece Bishop ne = refl
    is_piece Rook ne = refl
    is_piece Queen ne = refl
    is_piece King ne = refl

    done : IsPart d c n (own_steps c r) pieces row → IsPieceRow d c r n row
    done part = record {
      long = part.long;
      at = λ k t i ne lt there e small. part.at k t i lt there e small ∙ ap (λ (b : Bool). cond b (stored (distance_of c k k r t)) 255) (is_piece k ne);
      rest = part.past;
    }

-- ---- masks
pub mask_all : (d : Placement) (c : Color) (k : Kind) (n left : ℕ) (none mask : List ℕ) → left ≡ men c any_man d - n → IsUnreached left none → IsWithKind d c k n (λ t. 0) none mask → IsMask d c k n mask
mask_all d c k n left none mask e free with =
    let part : IsPart d c n (λ o t. 0) (λ o. cond (kind_eq o k) true false) mask = part_next d c n k (λ o t. 0) (λ o. false) none mask (part_none d c n left (λ o t. 0) none e free) with in
    record {
      long = part.long;
      at = λ o t i lt there f small. part.at o t i lt there f small ∙ same (kind_eq o k);
      rest = part.past;
    }
  where
    same : (b : Bool) → ◌≡◌ {A = ℕ} (cond (cond b true false) 0 255) (cond b 0 255)
    same true = refl
    same false = refl

-- a piece's row, where only targets of its kind count
pub row_unmasked : (d : Placement) (c : Color) (k : Kind) (r n : ℕ) (row mask new : List ℕ) → k ≢ Pawn → IsPieceRow d c r n row → IsMask d c k n mask → IsUnmasked mask row new → IsRowFrom d c k r n new
unfolding IsRowFrom
row_unmasked d c k r n row mask new plain pieces masks un = record {
  long = un.long;
  at = λ t i lt there e small. let o : (o : Kind) × (get d t ≡ Some (man c o)) = of_man c (get d t) there in go o.0 t i lt o.1 e small (kind_eq o.0 k) refl;
  rest = λ i l small. un.seen i small (masks.rest i l small) ∙ pieces.rest i l small;
}
  where
    go : (o : Kind) (t i : ℕ) → t < 64 → Stands d c o t → number_among c any_man d t ≡ n + i → i < 16 → (b : Bool) → kind_eq o k ≡ b → get_or new i 0 ≡ to_stood c k r t (get d t)
    go o t i lt there e small true f =
        let same : o ≡ k = (kind_decides o k).0 f in
        let stands : Stands d c k t = there ∙ ap (λ (x : Kind). Some (man c x)) same in
        un.seen i small (masks.at o t i lt there e small ∙ ap (λ (b : Bool). cond b 0 255) f)
        ∙ pieces.at k t i plain lt stands e small
        ∙ sym (ap (to_stood c k r t) stands)
    go o t i lt there e small false f =
        un.hidden i small (λ z. let x : get_or mask i 0 ≡ 255 = masks.at o t i lt there e small ∙ ap (λ (b : Bool). cond b 0 255) f in omega (arith, x, z))
        ∙ sym (ap stored (stays c o k r t plain f))
        ∙ sym (ap (to_stood c k r t) there)
