-- Readings and what they read: a reading meets a grammar where it takes just the texts of its values, is Truncated just where a text is cut short, and names the first byte with which no text goes on.
use Rattle.pg_certificate.proofs.Common.{◌≡◌, ◌≢◌, ℕ, ◌+◌, ◌<◌, ◌⊎◌, inl, inr, List, [], ◌∷◌, ◌++◌, length, Result, Ok, Err, refl, sym, ap, subst, ◌∙◌, arith, append-nil, append_assoc, get_or-append-add, ReadFault, Truncated, UnknownRecord, AreBytes, ◌>>=◌}

-- the bytes begin with a text
pub record Taken {A : Type 0} (S : A → List ℕ → Type 0) (bytes : List ℕ) : Type 0 where
  pub value : A
  pub text : List ℕ
  pub rest : List ℕ
  pub spelled : S value text
  pub parts : bytes ≡ text ++ rest

-- the bytes are less than a text
pub record Short {A : Type 0} (S : A → List ℕ → Type 0) (bytes : List ℕ) : Type 0 where
  pub whole : A
  pub text : List ℕ
  pub missing : List ℕ
  pub spelled : S whole text
  pub some : missing ≢ []
  pub parts : text ≡ bytes ++ missing

-- the byte x stands after less than a text, and no text goes on with it
pub record Unknown {A : Type 0} (S : A → List ℕ → Type 0) (bytes : List ℕ) (x : ℕ) : Type 0 where
  pub front : List ℕ
  pub rest : List ℕ
  pub parts : bytes ≡ front ++ x ∷ rest
  pub begun : Short S front
  pub none : (a : A) (text more : List ℕ) → S a text → text ≢ front ++ x ∷ more

abbrev pub Read : Type 0 → Type 0
Read A = Result (A × List ℕ) ReadFault

abbrev pub Meets : {A : Type 0} → (List ℕ → Read A) → (A → List ℕ → Type 0) → List ℕ → Type 0
Meets f S bytes = Taken S bytes ⊎ ((Short S bytes × (f bytes ≡ Err Truncated)) ⊎ ((x : ℕ) × Unknown S bytes x × (f bytes ≡ Err (UnknownRecord x))))

pub record Grammar {A : Type 0} (f : List ℕ → Read A) (S : A → List ℕ → Type 0) : Type 0 where
  pub again : (a : A) (text rest : List ℕ) → S a text → f (text ++ rest) ≡ Ok (a, rest)
  pub meets : (bytes : List ℕ) → AreBytes bytes → Meets f S bytes

-- ---- lists

pub splits : (xs ys us vs : List ℕ) → xs ++ ys ≡ us ++ vs → ((m : List ℕ) × (us ≡ xs ++ m) × (ys ≡ m ++ vs)) ⊎ ((m : List ℕ) × (xs ≡ us ++ m) × (vs ≡ m ++ ys))
splits [] ys us vs e = inl (us, refl, e)
splits (x ∷ xs) ys [] vs e = inr (x ∷ xs, refl, sym e)
splits (x ∷ xs) ys (u ∷ us) vs e =
    let same : x ≡ u = cc in
    let tail : xs ++ ys ≡ us ++ vs = cc in
    elim (splits xs ys us vs tail) [
      | inl r ↦ inl (r.0, rw (same, r.1) refl, r.2)
      | inr r ↦ inr (r.0, rw (same, r.1) refl, r.2)
    ]

pub none_left : (a b : List ℕ) → a ++ b ≡ [] → a ≡ []
none_left [] b e = refl
none_left (x ∷ a) b e = absurd cc

pub none_right : (a b : List ℕ) → a ++ b ≡ [] → b ≡ []
none_right [] b e = e
none_right (x ∷ a) b e = absurd cc

pub bytes_after : (text rest : List ℕ) → AreBytes (text ++ rest) → AreBytes rest
bytes_after text rest fits = λ i. subst (λ (n : ℕ). n < 256) (get_or-append-add text rest i 0) (fits (length text + i))

-- ---- a whole text

abbrev done : {A : Type 0} → A × List ℕ → Read A
done x = Ok x

pub done_is : {A : Type 0} (x y : A × List ℕ) → done x ≡ done y → x ≡ y
done_is x y e = cc

pub same_front : {A : Type 0} (f : List ℕ → Read A) (S : A → List ℕ → Type 0) → Grammar f S → (a b : A) (s t r q : List ℕ) → S a s → S b t → s ++ r ≡ t ++ q → (a ≡ b) × (r ≡ q)
same_front {A = A} f S g a b s t r q p h e =
    let same : (a, r) ≡ (b, q) = done_is (a, r) (b, q) (sym (g.again a s r p) ∙ ap f e ∙ g.again b t q h) in
    (ap (λ (x : A × List ℕ). x.0) same, ap (λ (x : A × List ℕ). x.1) same)

-- no text begins another
pub no_longer : {A : Type 0} (f : List ℕ → Read A) (S : A → List ℕ → Type 0) → Grammar f S → (a b : A) (s t m : List ℕ) → S a s → S b t → t ≡ s ++ m → m ≡ []
no_longer f S g a b s t m p h e = (same_front f S g a b s t m [] p h (sym e ∙ sym (append-nil t))).1

-- some value has a text
pub some_text : {A : Type 0} (f : List ℕ → Read A) (S : A → List ℕ → Type 0) → Grammar f S → (a : A) × (s : List ℕ) × S a s
some_text f S g = elim (g.meets [] (λ i. omega arith)) [
  | inl t ↦ (t.value, t.text, t.spelled)
  | inr (inl s) ↦ (s.0.whole, s.0.text, s.0.spelled)
  | inr (inr u) ↦ absurd (let no : u.1.front ++ u.0 ∷ u.1.rest ≡ [] = sym u.1.parts in let none : u.0 ∷ u.1.rest ≡ [] = none_right u.1.front (u.0 ∷ u.1.rest) no in cc)
]

-- ---- one reading after the other

pub record Then {A B : Type 0} (S : A → List ℕ → Type 0) (T : A → B → List ℕ → Type 0) (b : B) (text : List ℕ) : Type 0 where
  pub value : A
  pub first : List ℕ
  pub second : List ℕ
  pub at_first : S value first
  pub at_second : T value b second
  pub parts : text ≡ first ++ second

abbrev then_read : {A B : Type 0} → (List ℕ → Read A) → (A → List ℕ → Read B) → List ℕ → Read B
then_read f k bytes = f bytes >>= λ x. k x.0 x.1

longer_short : {A B : Type 0} (S : A → List ℕ → Type 0) (T : A → B → List ℕ → Type 0) → ((a : A) → (b : B) × (t : List ℕ) × T a b t) → (bytes : List ℕ) → Short S bytes → Short (Then S T) bytes
longer_short S T some bytes s =
    let t = some s.whole in
    record {
      whole = t.0;
      text = s.text ++ t.1;
      missing = s.missing ++ t.1;
      spelled = record { value = s.whole; first = s.text; second = t.1; at_first = s.spelled; at_second = t.2; parts = refl };
      some = λ h. s.some (none_left s.missing t.1 h);
      parts = ap (λ (l : List ℕ). l ++ t.1) s.parts ∙ append_assoc bytes s.missing t.1;
    }

later_short : {A B : Type 0} (S : A → List ℕ → Type 0) (T : A → B → List ℕ → Type 0) (a : A) (first bytes : List ℕ) → S a first → Short (T a) bytes → Short (Then S T) (first ++ bytes)
later_short S T a first bytes p s = record {
  whole = s.whole;
  text = first ++ s.text;
  missing = s.missing;
  spelled = record { value = a; first = first; second = s.text; at_first = p; at_second = s.spelled; parts = refl };
  some = s.some;
  parts = ap (λ (l : List ℕ). first ++ l) s.parts ∙ sym (append_assoc first bytes s.missing);
}

-- no text of the first reading goes on so, and so none of both
none_of_both : {A : Type 0} (f : List ℕ → Read A) (S : A → List ℕ → Type 0) → Grammar f S → (front : List ℕ) (x : ℕ) → Short S front → ((a : A) (text more : List ℕ) → S a text → text ≢ front ++ x ∷ more) → (a : A) (s t more : List ℕ) → S a s → s ++ t ≢ front ++ x ∷ more
none_of_both f S g front x begun none a s t more p e = elim (splits s t front (x ∷ more) e) [
  | inl r ↦ begun.some (none_right r.0 begun.missing (no_longer f S g a begun.whole s begun.text (r.0 ++ begun.missing) p begun.spelled (begun.parts ∙ ap (λ (l : List ℕ). l ++ begun.missing) r.1 ∙ append_assoc s r.0 begun.missing)))
  | inr r ↦ past r.0 r.1 r.2
]
  where
    past : (m : List ℕ) → s ≡ front ++ m → x ∷ more ≡ m ++ t → ⊥
    past [] h k =
        let same : s ≡ front = h ∙ append-nil front in
        begun.some (no_longer f S g a begun.whole s begun.text begun.missing p begun.spelled (begun.parts ∙ ap (λ (l : List ℕ). l ++ begun.missing) (sym same)))
    past (y ∷ m) h k =
        let same : y ≡ x = cc in
        none a s m p (h ∙ ap (λ (n : ℕ). front ++ n ∷ m) same)

then_again : {A B : Type 0} (f : List ℕ → Read A) (k : A → List ℕ → Read B) (S : A → List ℕ → Type 0) (T : A → B → List ℕ → Type 0) → Grammar f S → ((a : A) → Grammar (k a) (T a)) → (b : B) (text rest : List ℕ) → Then S T b text → then_read f k (text ++ rest) ≡ Ok (b, rest)
then_again {A = A} f k S T g h b text rest t =
    let whole : text ++ rest ≡ t.first ++ (t.second ++ rest) = ap (λ (l : List ℕ). l ++ rest) t.parts ∙ append_assoc t.first t.second rest in
    ap (then_read f k) whole ∙ ap (λ (r : Read A). r >>= λ x. k x.0 x.1) (g.again t.value t.first (t.second ++ rest) t.at_first) ∙ (h t.value).again b t.second rest t.at_second

then_taken : {A B : Type 0} (f : List ℕ → Read A) (k : A → List ℕ → Read B) (S : A → List ℕ → Type 0) (T : A → B → List ℕ → Type 0) → Grammar f S → ((a : A) → Grammar (k a) (T a)) → (a : A) (first rest : List ℕ) → S a first → AreBytes (first ++ rest) → Meets (then_read f k) (Then S T) (first ++ rest)
then_taken {A = A} f k S T g h a first rest p fits =
    let on : then_read f k (first ++ rest) ≡ k a rest = ap (λ (r : Read A). r >>= λ x. k x.0 x.1) (g.again a first rest p) in
    elim ((h a).meets rest (bytes_after first rest fits)) [
      | inl t ↦ inl (record {
        value = t.value;
        text = first ++ t.text;
        rest = t.rest;
        spelled = record { value = a; first = first; second = t.text; at_first = p; at_second = t.spelled; parts = refl };
        parts = ap (λ (l : List ℕ). first ++ l) t.parts ∙ sym (append_assoc first t.text t.rest);
      })
      | inr (inl s) ↦ inr (inl (later_short S T a first rest p s.0, on ∙ s.1))
      | inr (inr u) ↦ inr (inr (
        u.0,
        record {
          front = first ++ u.1.front;
          rest = u.1.rest;
          parts = ap (λ (l : List ℕ). first ++ l) u.1.parts ∙ sym (append_assoc first u.1.front (u.0 ∷ u.1.rest));
          begun = later_short S T a first u.1.front p u.1.begun;
          none = λ b text more t e.
              let same = same_front f S g t.value a t.first first t.second (u.1.front ++ u.0 ∷ more) t.at_first p (sym t.parts ∙ e ∙ append_assoc first u.1.front (u.0 ∷ more)) in
              u.1.none b t.second more (subst (λ (v : A). T v b t.second) same.0 t.at_second) same.1;
        },
        on ∙ u.2,
      ))
    ]

then_meets : {A B : Type 0} (f : List ℕ → Read A) (k : A → List ℕ → Read B) (S : A → List ℕ → Type 0) (T : A → B → List ℕ → Type 0) → Grammar f S → ((a : A) → Grammar (k a) (T a)) → (bytes : List ℕ) → AreBytes bytes → Meets (then_read f k) (Then S T) bytes
then_meets {A = A} f k S T g h bytes fits = elim (g.meets bytes fits) [
  | inl t ↦ subst (λ (l : List ℕ). Meets (then_read f k) (Then S T) l) (sym t.parts) (then_taken f k S T g h t.value t.text t.rest t.spelled (subst AreBytes t.parts fits))
  | inr (inl s) ↦ inr (inl (longer_short S T (λ a. some_text (k a) (T a) (h a)) bytes s.0, ap (λ (r : Read A). r >>= λ x. k x.0 x.1) s.1))
  | inr (inr u) ↦ inr (inr (
    u.0,
    record {
      front = u.1.front;
      rest = u.1.rest;
      parts = u.1.parts;
      begun = longer_short S T (λ a. some_text (k a) (T a) (h a)) u.1.front u.1.begun;
      none = λ b text more t e. none_of_both f S g u.1.front u.0 u.1.begun u.1.none t.value t.first t.second more t.at_first (sym t.parts ∙ e);
    },
    ap (λ (r : Read A). r >>= λ x. k x.0 x.1) u.2,
  ))
]

pub then_reads : {A B : Type 0} (f : List ℕ → Read A) (k : A → List ℕ → Read B) (S : A → List ℕ → Type 0) (T : A → B → List ℕ → Type 0) → Grammar f S → ((a : A) → Grammar (k a) (T a)) → Grammar (λ bytes. f bytes >>= λ x. k x.0 x.1) (Then S T)
then_reads f k S T g h = record { again = then_again f k S T g h; meets = then_meets f k S T g h }

-- ---- nothing more is read

abbrev pub Only : {A : Type 0} → A → A → List ℕ → Type 0
Only a b text = (b ≡ a) × (text ≡ [])

pub only_reads : {A : Type 0} (a : A) → Grammar (λ bytes. done (a, bytes)) (Only a)
only_reads {A = A} a = record {
  again = λ b text rest h. ap (λ (v : A). done (v, text ++ rest)) (sym h.0) ∙ ap (λ (l : List ℕ). done (b, l ++ rest)) h.1;
  meets = λ bytes fits. inl (record { value = a; text = []; rest = bytes; spelled = (refl, refl); parts = refl });
}

-- ---- the same texts, said otherwise

short_as : {A : Type 0} (S T : A → List ℕ → Type 0) → ((a : A) (text : List ℕ) → S a text → T a text) → (bytes : List ℕ) → Short S bytes → Short T bytes
short_as S T to bytes s = record { whole = s.whole; text = s.text; missing = s.missing; spelled = to s.whole s.text s.spelled; some = s.some; parts = s.parts }

pub as_reads : {A : Type 0} (f : List ℕ → Read A) (S T : A → List ℕ → Type 0) → ((a : A) (text : List ℕ) → S a text → T a text) → ((a : A) (text : List ℕ) → T a text → S a text) → Grammar f S → Grammar f T
as_reads f S T to back g = record {
  again = λ a text rest h. g.again a text rest (back a text h);
  meets = λ bytes fits. elim (g.meets bytes fits) [
    | inl t ↦ inl (record { value = t.value; text = t.text; rest = t.rest; spelled = to t.value t.text t.spelled; parts = t.parts })
    | inr (inl s) ↦ inr (inl (short_as S T to bytes s.0, s.1))
    | inr (inr u) ↦ inr (inr (u.0, record { front = u.1.front; rest = u.1.rest; parts = u.1.parts; begun = short_as S T to u.1.front u.1.begun; none = λ a text more h. u.1.none a text more (back a text h) }, u.2))
  ];
}

-- ---- what a reading that meets a grammar answers

not_done : {A : Type 0} (x : A × List ℕ) (d : ReadFault) → done x ≡ Err d → ⊥
not_done x d e = cc

abbrev refused : {A : Type 0} → ReadFault → Read A
refused d = Err d

pub reads_taken : {A : Type 0} (f : List ℕ → Read A) (S : A → List ℕ → Type 0) → Grammar f S → (bytes rest : List ℕ) (a : A) → AreBytes bytes → f bytes ≡ Ok (a, rest) → (text : List ℕ) × S a text × (bytes ≡ text ++ rest)
reads_taken {A = A} f S g bytes rest a fits e = elim (g.meets bytes fits) [
  | inl t ↦
      let same : (t.value, t.rest) ≡ (a, rest) = done_is (t.value, t.rest) (a, rest) (sym (g.again t.value t.text t.rest t.spelled) ∙ ap f (sym t.parts) ∙ e) in
      (t.text, subst (λ (x : A × List ℕ). S x.0 t.text) same t.spelled, subst (λ (x : A × List ℕ). bytes ≡ t.text ++ x.1) same t.parts)
  | inr (inl s) ↦ absurd (not_done (a, rest) Truncated (sym e ∙ s.1))
  | inr (inr u) ↦ absurd (not_done (a, rest) (UnknownRecord u.0) (sym e ∙ u.2))
]

taken_is : {A : Type 0} (f : List ℕ → Read A) (S : A → List ℕ → Type 0) → Grammar f S → (bytes : List ℕ) (t : Taken S bytes) → f bytes ≡ Ok (t.value, t.rest)
taken_is f S g bytes t = ap f t.parts ∙ g.again t.value t.text t.rest t.spelled

pub reads_short : {A : Type 0} (f : List ℕ → Read A) (S : A → List ℕ → Type 0) → Grammar f S → (bytes : List ℕ) → AreBytes bytes → f bytes ≡ Err Truncated → Short S bytes
reads_short f S g bytes fits e = elim (g.meets bytes fits) [
  | inl t ↦ absurd (not_done (t.value, t.rest) Truncated (sym (taken_is f S g bytes t) ∙ e))
  | inr (inl s) ↦ s.0
  | inr (inr u) ↦ absurd (let no : Err (UnknownRecord u.0) ≡ Err Truncated = sym u.2 ∙ e in cc)
]

pub short_reads : {A : Type 0} (f : List ℕ → Read A) (S : A → List ℕ → Type 0) → Grammar f S → (bytes : List ℕ) → AreBytes bytes → Short S bytes → f bytes ≡ Err Truncated
short_reads f S g bytes fits h = elim (g.meets bytes fits) [
  | inl t ↦ absurd (h.some (none_right t.rest h.missing (no_longer f S g t.value h.whole t.text h.text (t.rest ++ h.missing) t.spelled h.spelled (h.parts ∙ ap (λ (l : List ℕ). l ++ h.missing) t.parts ∙ append_assoc t.text t.rest h.missing))))
  | inr (inl s) ↦ s.1
  | inr (inr u) ↦ absurd (u.1.none h.whole h.text (u.1.rest ++ h.missing) h.spelled (h.parts ∙ ap (λ (l : List ℕ). l ++ h.missing) u.1.parts ∙ append_assoc u.1.front (u.0 ∷ u.1.rest) h.missing))
]

same_unknown : {A : Type 0} (x y : ℕ) → refused {A = A} (UnknownRecord x) ≡ refused (UnknownRecord y) → x ≡ y
same_unknown x y e = cc

pub reads_unknown : {A : Type 0} (f : List ℕ → Read A) (S : A → List ℕ → Type 0) → Grammar f S → (bytes : List ℕ) (x : ℕ) → AreBytes bytes → f bytes ≡ Err (UnknownRecord x) → Unknown S bytes x
reads_unknown {A = A} f S g bytes x fits e = elim (g.meets bytes fits) [
  | inl t ↦ absurd (not_done (t.value, t.rest) (UnknownRecord x) (sym (taken_is f S g bytes t) ∙ e))
  | inr (inl s) ↦ absurd (let no : Err Truncated ≡ Err (UnknownRecord x) = sym s.1 ∙ e in cc)
  | inr (inr u) ↦ subst (λ (n : ℕ). Unknown S bytes n) (same_unknown {A = A} u.0 x (sym u.2 ∙ e)) u.1
]

-- where no text goes on with a byte, none goes on past it
not_past : {A : Type 0} (S : A → List ℕ → Type 0) (front : List ℕ) (x : ℕ) → ((a : A) (text more : List ℕ) → S a text → text ≢ front ++ x ∷ more) → (a : A) (text rest more : List ℕ) → S a text → text ≢ (front ++ x ∷ rest) ++ more
not_past S front x none a text rest more h e = none a text (rest ++ more) h (e ∙ append_assoc front (x ∷ rest) more)

-- of two places where no text goes on neither is behind the other
same_place : {A : Type 0} (S : A → List ℕ → Type 0) (bytes : List ℕ) (x y : ℕ) → Unknown S bytes x → Unknown S bytes y → x ≡ y
same_place S bytes x y u v = elim (splits u.front (x ∷ u.rest) v.front (y ∷ v.rest) (sym u.parts ∙ v.parts)) [
  | inl r ↦ behind r.0 r.1 r.2
  | inr r ↦ before r.0 r.1 r.2
]
  where
    behind : (m : List ℕ) → v.front ≡ u.front ++ m → x ∷ u.rest ≡ m ++ y ∷ v.rest → x ≡ y
    behind [] h k = cc
    behind (z ∷ m) h k =
        let same : z ≡ x = cc in
        absurd (not_past S u.front x u.none v.begun.whole v.begun.text m v.begun.missing v.begun.spelled (v.begun.parts ∙ ap (λ (l : List ℕ). l ++ v.begun.missing) (h ∙ ap (λ (n : ℕ). u.front ++ n ∷ m) same)))

    before : (m : List ℕ) → u.front ≡ v.front ++ m → y ∷ v.rest ≡ m ++ x ∷ u.rest → x ≡ y
    before [] h k = cc
    before (z ∷ m) h k =
        let same : z ≡ y = cc in
        absurd (not_past S v.front y v.none u.begun.whole u.begun.text m u.begun.missing u.begun.spelled (u.begun.parts ∙ ap (λ (l : List ℕ). l ++ u.begun.missing) (h ∙ ap (λ (n : ℕ). v.front ++ n ∷ m) same)))

pub unknown_reads : {A : Type 0} (f : List ℕ → Read A) (S : A → List ℕ → Type 0) → Grammar f S → (bytes : List ℕ) (x : ℕ) → AreBytes bytes → Unknown S bytes x → f bytes ≡ Err (UnknownRecord x)
unknown_reads f S g bytes x fits h = elim (g.meets bytes fits) [
  | inl t ↦ absurd (none_of_both f S g h.front x h.begun h.none t.value t.text t.rest h.rest t.spelled (sym t.parts ∙ h.parts))
  | inr (inl s) ↦ absurd (not_past S h.front x h.none s.0.whole s.0.text h.rest s.0.missing s.0.spelled (s.0.parts ∙ ap (λ (l : List ℕ). l ++ s.0.missing) h.parts))
  | inr (inr u) ↦ u.2 ∙ ap (λ (n : ℕ). Err (UnknownRecord n)) (same_place S bytes u.0 x u.1 h)
]
