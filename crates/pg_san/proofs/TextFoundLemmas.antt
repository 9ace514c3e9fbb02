-- A whole text that is read is spelled: castling or a core, and the ends that came off it.
use Rattle.pg_san.proofs.Common.{◌≡◌, ℕ, ◌⊎◌, Bool, true, false, cond, List, [], ◌∷◌, ◌++◌, Option, Some, None, refl, sym, ap, subst, arith, ◌∙◌, inl, inr, reverse, nat_eq, codes, ◌||◌, ◌↔◌, option_map, option_and_then, nat_tests, reverse-reverse, Wing, KingSide, QueenSide, Core, Form, Castles, Moves, Said, core_of, castling_of, form_by, form_of, without_mark, without_marks, without_plus, without_check, byte_in, ep_in, dots_in, passing_by, passing_in, said_of, IsFormText, IsPassingText, IsCheckText, IsMark, IsMarksText, IsSaidText}
use Rattle.std.specs.Str.{bytes_eq}
use Rattle.std.proofs.lemmas.Slice.Eq.{bytes_eq-Decides}
use Rattle.pg_san.proofs.EndLemmas.{reversed_whole, said_again}
use Rattle.pg_san.proofs.FoundLemmas.{core_found}

-- ---- castling or a core
castling_found_by : (s t u v : Bool) (text : List ℕ) (c : Wing) → bytes_eq text (codes "O-O") ≡ s → bytes_eq text (codes "0-0") ≡ t → bytes_eq text (codes "O-O-O") ≡ u → bytes_eq text (codes "0-0-0") ≡ v
    → cond s (Some KingSide) (cond t (Some KingSide) (cond u (Some QueenSide) (cond v (Some QueenSide) None))) ≡ Some c → IsFormText text (Castles c)
castling_found_by true t u v text KingSide a b d e h = inl ((bytes_eq-Decides text (codes "O-O")).0 a)
castling_found_by true t u v text QueenSide a b d e h = absurd cc
castling_found_by false true u v text KingSide a b d e h = inr ((bytes_eq-Decides text (codes "0-0")).0 b)
castling_found_by false true u v text QueenSide a b d e h = absurd cc
castling_found_by false false true v text QueenSide a b d e h = inl ((bytes_eq-Decides text (codes "O-O-O")).0 d)
castling_found_by false false true v text KingSide a b d e h = absurd cc
castling_found_by false false false true text QueenSide a b d e h = inr ((bytes_eq-Decides text (codes "0-0-0")).0 e)
castling_found_by false false false true text KingSide a b d e h = absurd cc
castling_found_by false false false false text c a b d e h = absurd cc

castling_found : (text : List ℕ) (c : Wing) → castling_of text ≡ Some c → IsFormText text (Castles c)
castling_found text c h = castling_found_by (bytes_eq text (codes "O-O")) (bytes_eq text (codes "0-0")) (bytes_eq text (codes "O-O-O")) (bytes_eq text (codes "0-0-0")) text c refl refl refl refl h

core_form_found : (o : Option Core) (text : List ℕ) (form : Form) → core_of text ≡ o → option_map Moves o ≡ Some form → IsFormText text form
core_form_found None text form e h = absurd cc
core_form_found (Some core) text form e h = let s : Some (Moves core) ≡ Some form = h in let t : Moves core ≡ form = cc in subst (IsFormText text) t (core_found text core e)

form_found_by : (o : Option Wing) (text : List ℕ) (form : Form) → castling_of text ≡ o → form_by o text ≡ Some form → IsFormText text form
form_found_by (Some c) text form e h = let s : Some (Castles c) ≡ Some form = h in let t : Castles c ≡ form = cc in subst (IsFormText text) t (castling_found text c e)
form_found_by None text form e h = core_form_found (core_of text) text form refl h

form_found : (text : List ℕ) (form : Form) → form_of text ≡ Some form → IsFormText text form
form_found text form h = form_found_by (castling_of text) text form refl h

-- ---- the ends of a reversed text
-- one mark at most
abbrev MarkOff : List ℕ → List ℕ → Type 0
MarkOff text left = (text ≡ left) ⊎ ((b : ℕ) × IsMark b × (text ≡ b ∷ left))

mark_by : (s t : Bool) (b : ℕ) (more : List ℕ) → nat_eq b 33 ≡ s → nat_eq b 63 ≡ t → MarkOff (b ∷ more) (cond (s || t) more (b ∷ more))
mark_by true t b more e f = inr (b, inl (let i : b ≡ 33 = grind (arith, nat_tests) in i), refl)
mark_by false true b more e f = inr (b, inr (let i : b ≡ 63 = grind (arith, nat_tests) in i), refl)
mark_by false false b more e f = inl refl

mark_off : (text : List ℕ) → MarkOff text (without_mark text)
mark_off [] = inl refl
mark_off (b ∷ more) = mark_by (nat_eq b 33) (nat_eq b 63) b more refl refl

record MarksOff (text left : List ℕ) : Type 0 where
  marks : List ℕ
  marks_are : IsMarksText marks
  is : text ≡ reverse marks ++ left

two_marks : (text middle left : List ℕ) → MarkOff text middle → MarkOff middle left → MarksOff text left
two_marks text middle left (inl e) (inl f) = record { marks = []; marks_are = tt; is = e ∙ f }
two_marks text middle left (inl e) (inr (b, m, f)) = record { marks = b ∷ []; marks_are = m; is = e ∙ f }
two_marks text middle left (inr (a, k, e)) (inl f) = record { marks = a ∷ []; marks_are = k; is = e ∙ ap (λ (x : List ℕ). a ∷ x) f }
two_marks text middle left (inr (a, k, e)) (inr (b, m, f)) = record { marks = b ∷ a ∷ []; marks_are = (m, k); is = e ∙ ap (λ (x : List ℕ). a ∷ x) f }

marks_off : (text : List ℕ) → MarksOff text (without_marks text)
marks_off text = two_marks text (without_mark text) (without_mark (without_mark text)) (mark_off text) (mark_off (without_mark text))

record CheckOff (text left : List ℕ) : Type 0 where
  check : List ℕ
  check_is : IsCheckText check
  is : text ≡ reverse check ++ left

plus_by : (t : Bool) (b : ℕ) (more : List ℕ) → nat_eq b 43 ≡ t → CheckOff (43 ∷ b ∷ more) (cond t more (b ∷ more))
plus_by true b more e = let i : b ≡ 43 = grind (arith, nat_tests) in record { check = codes "++"; check_is = inr (inr (inl refl)); is = ap (λ (x : ℕ). 43 ∷ x ∷ more) i }
plus_by false b more e = record { check = codes "+"; check_is = inr (inl refl); is = refl }

plus_off : (more : List ℕ) → CheckOff (43 ∷ more) (without_plus more)
plus_off [] = record { check = codes "+"; check_is = inr (inl refl); is = refl }
plus_off (b ∷ more) = plus_by (nat_eq b 43) b more refl

check_by : (s t : Bool) (b : ℕ) (more : List ℕ) → nat_eq b 35 ≡ s → nat_eq b 43 ≡ t → CheckOff (b ∷ more) (cond s more (cond t (without_plus more) (b ∷ more)))
check_by true t b more e f = let i : b ≡ 35 = grind (arith, nat_tests) in record { check = codes "#"; check_is = inr (inr (inr refl)); is = ap (λ (x : ℕ). x ∷ more) i }
check_by false true b more e f = let i : b ≡ 43 = grind (arith, nat_tests) in subst (λ (x : ℕ). CheckOff (x ∷ more) (without_plus more)) (sym i) (plus_off more)
check_by false false b more e f = record { check = []; check_is = inl refl; is = refl }

check_off : (text : List ℕ) → CheckOff text (without_check text)
check_off [] = record { check = []; check_is = inl refl; is = refl }
check_off (b ∷ more) = check_by (nat_eq b 35) (nat_eq b 43) b more refl refl

byte_by : (t : Bool) (byte b : ℕ) (more left : List ℕ) → nat_eq b byte ≡ t → cond t (Some more) None ≡ Some left → b ∷ more ≡ byte ∷ left
byte_by false byte b more left e h = absurd cc
byte_by true byte b more left e h = let i : b ≡ byte = grind (arith, nat_tests) in let s : Some more ≡ Some left = h in let j : more ≡ left = cc in ap (λ (x : ℕ). x ∷ more) i ∙ ap (λ (x : List ℕ). byte ∷ x) j

byte_found : (byte : ℕ) (text left : List ℕ) → byte_in byte text ≡ Some left → text ≡ byte ∷ left
byte_found byte [] left h = absurd cc
byte_found byte (b ∷ more) left h = byte_by (nat_eq b byte) byte b more left refl h

then_found : (o : Option (List ℕ)) (byte : ℕ) (left : List ℕ) → option_and_then (byte_in byte) o ≡ Some left → o ≡ Some (byte ∷ left)
then_found None byte left h = absurd cc
then_found (Some text) byte left h = ap (λ (x : List ℕ). Some x) (byte_found byte text left h)

ep_found : (text left : List ℕ) → ep_in text ≡ Some left → text ≡ 112 ∷ 101 ∷ left
ep_found text left h = byte_found 112 text (101 ∷ left) (then_found (byte_in 112 text) 101 left h)

dots_found : (text left : List ℕ) → dots_in text ≡ Some left → text ≡ 46 ∷ 112 ∷ 46 ∷ 101 ∷ left
dots_found text left h =
    let a = then_found (option_and_then (byte_in 46) (option_and_then (byte_in 112) (byte_in 46 text))) 101 left h in
    let b = then_found (option_and_then (byte_in 112) (byte_in 46 text)) 46 (101 ∷ left) a in
    byte_found 46 text (112 ∷ 46 ∷ 101 ∷ left) (then_found (byte_in 46 text) 112 (46 ∷ 101 ∷ left) b)

record PassingOff (text : List ℕ) (off : Bool × List ℕ) : Type 0 where
  passing : List ℕ
  passing_is : IsPassingText passing off.0
  is : text ≡ reverse passing ++ off.1

passing_found_by : (o r : Option (List ℕ)) (text : List ℕ) → ep_in text ≡ o → dots_in text ≡ r → PassingOff text (passing_by o r text)
passing_found_by (Some left) r text e f = record { passing = codes "ep"; passing_is = inl refl; is = ep_found text left e }
passing_found_by None (Some left) text e f = record { passing = codes "e.p."; passing_is = inr refl; is = dots_found text left f }
passing_found_by None None text e f = record { passing = []; passing_is = refl; is = refl }

passing_off : (text : List ℕ) → PassingOff text (passing_in text)
passing_off text = passing_found_by (ep_in text) (dots_in text) text refl refl

-- ---- the whole
abbrev said_as : Form → Bool → Said
said_as form passing = record { form = form; passing = passing }

said_found_by : (o : Option Form) (off : Bool × List ℕ) (text check marks : List ℕ) (said : Said) → form_of (reverse off.1) ≡ o → option_map (λ (f : Form). record { form = f; passing = off.0 }) o ≡ Some said
    → IsCheckText check → IsMarksText marks → (p : PassingOff text off) → (whole : List ℕ) → reverse whole ≡ reverse marks ++ (reverse check ++ text) → IsSaidText whole said
said_found_by None off text check marks said e h c m p whole is = absurd cc
said_found_by (Some f) off text check marks said e h c m p whole is =
    let s : Some (said_as f off.0) ≡ Some said = h in
    let t : said_as f off.0 ≡ said = cc in
    let back : reverse whole ≡ reverse (reverse off.1 ++ (p.passing ++ (check ++ marks))) = is ∙ ap (λ (x : List ℕ). reverse marks ++ (reverse check ++ x)) (p.is ∙ ap (λ (x : List ℕ). reverse p.passing ++ x) (sym (reverse-reverse off.1))) ∙ sym (reversed_whole (reverse off.1) p.passing check marks) in
    subst (IsSaidText whole) t (record {
      front = reverse off.1;
      passing = p.passing;
      check = check;
      marks = marks;
      spelled = sym (reverse-reverse whole) ∙ ap reverse back ∙ reverse-reverse (reverse off.1 ++ (p.passing ++ (check ++ marks)));
      front_is = form_found (reverse off.1) f e;
      passing_is = p.passing_is;
      check_is = c;
      marks_is = m;
    })

pub said_found : (text : List ℕ) (said : Said) → said_of text ≡ Some said → IsSaidText text said
unfolding said_of
said_found text said h =
    let m = marks_off (reverse text) in
    let c = check_off (without_marks (reverse text)) in
    let p = passing_off (without_check (without_marks (reverse text))) in
    let is : reverse text ≡ reverse m.marks ++ (reverse c.check ++ without_check (without_marks (reverse text))) = m.is ∙ ap (λ (x : List ℕ). reverse m.marks ++ x) c.is in
    said_found_by (form_of (reverse (passing_in (without_check (without_marks (reverse text)))).1)) (passing_in (without_check (without_marks (reverse text)))) (without_check (without_marks (reverse text))) c.check m.marks said refl h c.check_is m.marks_are p text is

pub said_grammar : (text : List ℕ) (said : Said) → (said_of text ≡ Some said) ↔ IsSaidText text said
said_grammar text said = (said_found text said, said_again text said)

nothing_found : (o : Option Said) (text : List ℕ) → said_of text ≡ o → ((said : Said) → IsSaidText text said → ⊥) → o ≡ None
nothing_found None text e h = refl
nothing_found (Some said) text e h = absurd (h said (said_found text said e))

pub nothing_said : (text : List ℕ) → (said_of text ≡ None) ↔ ((said : Said) → IsSaidText text said → ⊥)
nothing_said text = (
  λ e said h. (let z : Some said ≡ None = sym (said_again text said h) ∙ e in cc),
  λ h. nothing_found (said_of text) text refl h,
)
