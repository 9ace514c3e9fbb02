-- A text that is a file of games has no fault, want of memory apart.
use Rattle.pg_pgn.proofs.Common.{◌≡◌, ◌≢◌, ℕ, ◌+◌, inl, inr, List, [], ◌∷◌, ◌++◌, Some, None, length, refl, sym, ap, subst, ◌∙◌, arith, Ok, Err, false, Move, SanFault, IsReading, Letters, TokenKind, Sign, Nothing, Heads, Fen, SetUp, Opening, Closing, Moves, PgnFault, At, Form, Memory, FormFault, StartsWith, AreTokens, IsUnclosed, body, more_len, kind_of, Reader, at_game, sign_of, said, Goes, Lead, IsFile, IsSignFault, IsFormFault, IsWordFault, IsFaultAt, IsFirstFault}
use Rattle.pg_san.proofs.OneAnswerLemmas.{one_reading}
use Rattle.pg_pgn.specs.declared.signs.Sign.TheVariants.{Result as Ended}
use Rattle.pg_pgn.proofs.LegalLemmas.{none_legal}
use Rattle.pg_pgn.proofs.OneLemmas.{head_same, tail_same, one_token, none_starts, one_way}

-- ---- what is left of a file behind the tokens at its front
tokens_left : (text : List ℕ) (ts us : List (List ℕ)) (rest : List ℕ) → AreTokens text ts [] → AreTokens text us rest → (vs : List (List ℕ)) × (ts ≡ us ++ vs) × AreTokens rest vs []
unfolding AreTokens
tokens_left text ts [] rest h k = (ts, refl, subst (λ (l : List ℕ). AreTokens l ts []) k h)
tokens_left text [] (u ∷ us) rest h k = absurd (none_starts text u k.0 h k.1)
tokens_left text (t ∷ ts) (u ∷ us) rest h k =
    let (same, left) = one_token text t h.0 u k.0 h.1 k.1 in
    let (vs, is, more) = tokens_left k.0 ts us rest (subst (λ (l : List ℕ). AreTokens l ts []) left h.2) k.2 in
    (vs, ap (λ (x : List ℕ). x ∷ ts) same ∙ ap (λ (x : List (List ℕ)). u ∷ x) is, more)

leads_left : (letters : Letters) (r s : Reader) (us vs : List (List ℕ)) → Lead letters r (us ++ vs) s → (m : Reader) × Lead letters r us m × Lead letters m vs s
unfolding Lead
leads_left letters r s [] vs h = (r, refl, h)
leads_left letters r s (u ∷ us) vs h =
    let (m, front, back) = leads_left letters h.0 s us vs h.2 in
    (m, (h.0, h.1, front), back)

-- ---- faults
sign_apart : (sign : Sign) (r s : Reader) (text : List ℕ) (f : FormFault) → Goes sign r text s → IsSignFault sign r f → ⊥
unfolding Goes
sign_apart Nothing r s text f h k = k
sign_apart Opening r s text f h k = k
sign_apart Closing r s text f h k = let d = k.0 in omega (arith, h.0, d)
sign_apart Heads r s text f h k = let d = h.0 in omega (arith, k.0, d)
sign_apart Fen r s text f h k = h
sign_apart SetUp r s text f h k = h
sign_apart Ended r s text f h k = k
sign_apart Moves r s text f h k = k

closed : (rest token left : List ℕ) (kind : TokenKind) → StartsWith rest token left → IsUnclosed rest kind → ⊥
closed rest token left kind h (first, more, is, at, none) =
    let e = sym h.is ∙ is in
    let f : h.first ≡ first = head_same h.first first h.more more e in
    let m : h.more ≡ more = tail_same h.first first h.more more e in
    let k : kind_of h.first ≡ kind = ap kind_of f ∙ at in
    let same : Some h.n ≡ None = sym h.long ∙ ap (λ (x : TokenKind). more_len x h.more) k ∙ ap (λ (l : List ℕ). more_len kind l) m ∙ none in
    absurd cc

none_open : (rest : List ℕ) (kind : TokenKind) → rest ≡ [] → IsUnclosed rest kind → ⊥
none_open rest kind none (first, more, is, at, h) =
    let l : length rest ≡ 0 = ap length none in
    let k : length rest ≡ length more + 1 = ap length is ∙ omega arith in
    omega (arith, l, k)

form_apart : (letters : Letters) (r s : Reader) (rest : List ℕ) (vs : List (List ℕ)) (f : FormFault) → s.depth ≡ 0 → AreTokens rest vs [] → Lead letters r vs s → IsFormFault letters r rest f → ⊥
unfolding AreTokens Lead IsFormFault
form_apart letters r s rest [] f depth cut leads (inl (none, deep, is)) =
    let d : s.depth ≡ r.depth = ap (λ (x : Reader). x.depth) leads in omega (arith, depth, d, deep)
form_apart letters r s rest [] f depth cut leads (inr (inl (inl (unclosed, is)))) = none_open rest _ cut unclosed
form_apart letters r s rest [] f depth cut leads (inr (inl (inr (unclosed, is)))) = none_open rest _ cut unclosed
form_apart letters r s rest [] f depth cut leads (inr (inr (token, left, starts, fault))) = none_starts rest token left cut starts
form_apart letters r s rest (v ∷ vs) f depth (next, starts, cut) leads (inl (none, deep, is)) = none_starts rest v next none starts
form_apart letters r s rest (v ∷ vs) f depth (next, starts, cut) leads (inr (inl (inl (unclosed, is)))) = closed rest v next _ starts unclosed
form_apart letters r s rest (v ∷ vs) f depth (next, starts, cut) leads (inr (inl (inr (unclosed, is)))) = closed rest v next _ starts unclosed
form_apart letters r s rest (v ∷ vs) f depth (next, starts, cut) (there, goes, leads) (inr (inr (token, left, begins, fault))) =
    let same : token ≡ v = (one_token rest token left v next begins starts).0 in
    sign_apart (sign_of letters v) r there (said letters v) f goes (subst (λ (x : List ℕ). IsSignFault (sign_of letters x) r f) same fault)

goes_reads : (r s : Reader) (text : List ℕ) (cause : SanFault) → r.depth ≡ 0 → Goes Moves r text s → IsReading r.here text (Err cause) → ⊥
unfolding Goes
goes_reads r s text cause depth (inl h) bad = omega (arith, h.0, depth)
goes_reads r s text cause depth (inr (d, (m, next, reads, legal, e))) bad =
    let same : Ok m ≡ Err cause = one_reading r.here text (Ok m) (Err cause) reads bad in absurd cc

word_apart : (letters : Letters) (r s : Reader) (rest : List ℕ) (vs : List (List ℕ)) (cause : SanFault) → AreTokens rest vs [] → Lead letters r vs s → IsWordFault letters r rest cause → ⊥
unfolding AreTokens Lead IsWordFault
word_apart letters r s rest [] cause cut leads (token, left, starts, sign, depth, bad) = none_starts rest token left cut starts
word_apart letters r s rest (v ∷ vs) cause (next, starts, cut) (there, goes, leads) (token, left, begins, sign, depth, bad) =
    let same : token ≡ v = (one_token rest token left v next begins starts).0 in
    let is : sign_of letters v ≡ Moves = ap (sign_of letters) (sym same) ∙ sign in
    goes_reads r there (said letters v) cause depth (subst (λ (x : Sign). Goes x r (said letters v) there) is goes) (subst (λ (x : List ℕ). IsReading r.here (said letters x) (Err cause)) same bad)

apart_by : (letters : Letters) (text : List ℕ) (f : PgnFault) (r s : Reader) (rest : List ℕ) (vs : List (List ℕ)) → f ≢ Memory → s.depth ≡ 0 → AreTokens rest vs [] → Lead letters r vs s → IsFaultAt letters text r rest f → ⊥
apart_by letters text Memory r s rest vs some depth cut leads at = some refl
apart_by letters text (At line column game ply word cause) r s rest vs some depth cut leads at = word_apart letters r s rest vs cause cut leads at.3
apart_by letters text (Form line column game fault) r s rest vs some depth cut leads at = form_apart letters r s rest vs fault depth cut leads at.2

pub file_or_fault : (letters : Letters) (text : List ℕ) (gs : List (List Move)) (f : PgnFault) → f ≢ Memory → IsFile letters text gs → ¬ IsFirstFault letters text f
unfolding IsFile IsFirstFault
file_or_fault letters text gs f some (s, file, depth, is) (r, rest, read, at) =
    let (vs, whole, cut) = tokens_left (body text) file.tokens read.tokens rest file.cut read.cut in
    let leads : Lead letters (at_game [] false) (read.tokens ++ vs) s = subst (λ (x : List (List ℕ)). Lead letters (at_game [] false) x s) whole file.leads in
    let (m, front, back) = leads_left letters (at_game [] false) s read.tokens vs leads in
    let same : m ≡ r = one_way letters (at_game [] false) m r read.tokens none_legal front read.leads in
    apart_by letters text f r s rest vs some depth cut (subst (λ (x : Reader). Lead letters x vs s) same back) at
