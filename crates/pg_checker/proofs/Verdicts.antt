-- What the check answers, from what its parts answer. Leads to the contract of `check`.
use Rattle.pg_checker.proofs.Common.{◌≡◌, ◌≢◌, ℕ, zero, suc, ◌+◌, inl, inr, Bool, true, false, cond, eqb, List, [], ◌∷◌, ◌++◌, length, Option, Some, None, IfSome, slice_get, Result, Ok, Err, refl, sym, ◌∙◌, ap, subst, arith, option_map, length-append, slice_get_within, get_or_from_slice_get, Placement, State, Move, array_state, IsPosition, Color, PriceList, pawn_prices_test_tells, travel_prices_test, travel_prices_test_tells, packed_of, packed_byte, Header, header_at, header_spelling, IsHeader, IsVersion, Record, Rules, spelling_all, IsSolution, IsExactAnswer, AreSolutions, IsListFault, Cuts, IsSoundCut, chess, chess_with, CheckRules, cuts_by, files_by, prices_by, Terms, terms, header_for, IsHeaded, IsCertified, Accepts, IsRefused, Refuses, StopsAt, Headed, HeaderFails, AreKnown, Answers, fault_of, CauseAt, RecordCause, no_budget, no_record, refused, Stops, FailsRead, answer, IsStopped, HasMore, Proved, Fault, ListFault, WrongLength, NotReaching, Stop}
use Rattle.pg_position.specs.Game.{Barren}
use Rattle.pg_captures.specs.Lists.{first_of}
use Rattle.pg_pawns.specs.lemmas.PawnPricesLaw.{pawn_prices_barren}
use Rattle.pg_travel.specs.lemmas.TravelPricesLaw.{travel_prices_barren}
use Rattle.std.proofs.lemmas.List.FromFn.{length-map-range_with_len}
use Rattle.pg_certificate.specs.declared.fault.ReadFault as reading_fault
use Rattle.pg_certificate.specs.declared.fault.ReadFault.TheVariants as reading
use Rattle.pg_certificate.proofs.HeaderLaws.{headers_again}
use Rattle.pg_certificate.specs.declared.record.Record.TheVariants.{Expand, Cut, Ref, Priced}
use Rattle.pg_checker.specs.Tree as tree
use Rattle.pg_checker.specs.Walk as walk
use Rattle.pg_checker.specs.declared.fault.Fault.TheVariants as fault
use Rattle.pg_checker.specs.inner.Halting as stop
use Rattle.pg_checker.proofs.Chess.{exact_with, plain_with, read_with, yes_is_exact}
use Rattle.pg_checker.proofs.Reading.{read_no_trailing}
use Rattle.pg_checker.proofs.Whole.{accepted, accepts, stopped, at_named}

-- ---- bounds and prices
true_of : (b : Bool) → Some b ≡ Some true → b ≡ true
true_of b e = cc

sound_files : (d : Placement) (p : State) (color : Color) (prices : List PriceList) (k : ℕ) → IsPosition p → files_by d p color prices ≡ true → Barren d p k
sound_files d p color [] k valid h = absurd (cc)
sound_files d p color (l ∷ []) k valid h = pawn_prices_barren d p color l valid ((pawn_prices_test_tells d p color l).0 h) k
sound_files d p color (l ∷ (m ∷ ls)) k valid h = absurd (cc)

-- prices that exclude hide no game
sound_prices : (d : Placement) (code : ℕ) (color : Color) (prices : List PriceList) (k : ℕ) (p : State) → IsPosition p → prices_by d code color prices p k ≡ Some true → Barren d p k
sound_prices d code color prices k p valid h = files (eqb code 3) h
  where
    travel : (b : Bool) → cond {A = Option Bool} b (Some (travel_prices_test d p k color prices)) None ≡ Some true → Barren d p k
    travel true e = travel_prices_barren d p k color prices valid ((travel_prices_test_tells d p k color prices).0 (true_of _ e))
    travel false e = absurd (cc)

    files : (b : Bool) → cond {A = Option Bool} b (Some (files_by d p color prices)) (cond (eqb code 4) (Some (travel_prices_test d p k color prices)) None) ≡ Some true → Barren d p k
    files true e = sound_files d p color prices k valid (true_of _ e)
    files false e = travel (eqb code 4) e

-- cuts by bounds that meet their law are sound
pub sound_cuts : {B : Type 0} (code_of : B → ℕ) (excluded : B → Placement → State → ℕ → Bool) (version : ℕ) (d : Placement) (bounds : List B)
    → ((b : B) (p : State) (k : ℕ) → IsPosition p → excluded b d p k ≡ true → Barren d p k) → IsSoundCut d (cuts_by code_of excluded version d bounds)
sound_cuts code_of excluded version d bounds law = record {
  bounds = λ code k p valid h. go k p valid (first_of code_of code bounds) h;
  prices = λ code color prices k p valid h. sound_prices d code color prices k p valid h;
}
  where
    go : (k : ℕ) (p : State) → IsPosition p → (o : Option _) → option_map (λ b. excluded b d p k) o ≡ Some true → Barren d p k
    go k p valid None e = absurd (cc)
    go k p valid (Some b) e = law b p k valid (let same : excluded b d p k ≡ true = cc in same)

-- ---- the list
listed_wrong : (d : Placement) (n : ℕ) (games : List (List Move)) (i : ℕ) (g : List Move) → slice_get games i ≡ Some g → ¬ IsSolution d n g → ¬ AreSolutions d n games
listed_wrong d n games i g at wrong all = wrong (all.are g (i, slice_get_within games i g at, get_or_from_slice_get games i g g at))

list_fault_refutes : (d : Placement) (n : ℕ) (games : List (List Move)) (e : ListFault) → IsListFault d n games e → ¬ AreSolutions d n games
list_fault_refutes d n games (WrongLength i) h = listed_wrong d n games i h.1.0 h.1.1 (λ s. h.1.2 s.0)
list_fault_refutes d n games (NotReaching i) h = listed_wrong d n games i h.1.0 h.1.1 h.1.3

-- ---- the certificate
packed_length : (d : Placement) → length (packed_of d) ≡ 32
unfolding packed_of
packed_length d = length-map-range_with_len (packed_byte d) 0 32

is_header : (version : ℕ) (d : Placement) (l : ℕ) → IsVersion version → IsHeader (header_for version d l)
is_header version d l known = record { known = known; whole = packed_length d }

headed_at : (version : ℕ) (d : Placement) (l : ℕ) (bytes rest : List ℕ) → IsHeaded version d l bytes rest → header_at bytes ≡ Ok (header_for version d l, rest)
headed_at version d l bytes rest h = ap header_at h.1 ∙ headers_again (header_for version d l) rest (is_header version d l h.0)

-- a result has one value, and no fault beside it
one_ok : {A E : Type 0} (a : Result A E) (x y : A) → a ≡ Ok x → a ≡ Ok y → x ≡ y
one_ok a x y e f = cc

one_answer : {A E : Type 0} (a : Result A E) (f : E) (x : A) → a ≡ Err f → a ≡ Ok x → ⊥
one_answer a f x e g = cc

abbrev Headers : Type 0
Headers = Result (Header × List ℕ) reading_fault.ReadFault

one_header : (a : Headers) (h k : Header) (x y : List ℕ) → a ≡ Ok (h, x) → a ≡ Ok (k, y) → h ≡ k
one_header a h k x y e f = ap (λ (v : Header × List ℕ). v.0) (one_ok a (h, x) (k, y) e f)

no_header : (a : Headers) (f : reading_fault.ReadFault) (k : Header) (y : List ℕ) → a ≡ Err f → a ≡ Ok (k, y) → ⊥
no_header a f k y e g = one_answer a f (k, y) e g

-- chess with the diagram d, n plies and these games, of which a test says what is listed, cut as said for each diagram
-- and version
abbrev pub rules_cut : (List (List Move) → List Move → Bool) → (Placement → ℕ → Cuts) → Placement → ℕ → List (List Move) → CheckRules
rules_cut test all d n games = record { plies = n; of = λ version. chess_with d n (test games) (all d version) }

-- a yes of the walk
pub walk_headline : (d : Placement) (l : ℕ) (games : List (List Move)) (all_cuts : Placement → ℕ → Cuts) (v : ℕ) (left : Option (List ℕ)) (a b : ℕ) (proved : Proved) → IsSoundCut d (all_cuts d v) → AreSolutions d l games → Answers (chess d l games (all_cuts d v)) left a b (Ok proved) → IsExactAnswer d l games
walk_headline d l games all_cuts v left a b proved sound all h = yes_is_exact d l games (all_cuts d v) sound a b h.0 (proved.records, proved.named) h.2 all

module _ (test : List (List Move) → List Move → Bool) (d : Placement) (l : ℕ) (games : List (List Move)) (all_cuts : Placement → ℕ → Cuts) where
  abbrev pub cuts : ℕ → Cuts
  cuts version = all_cuts d version

  -- the rules of each version
  abbrev pub rules : CheckRules
  rules = rules_cut test all_cuts d l games

  -- with these limits and known bytes
  abbrev pub by : ℕ → ℕ → Option (List ℕ) → Terms
  by a b known = terms (rules_cut test all_cuts) a b known

  -- what is certified begins with the header of its version
  certified_header : (a b : ℕ) (bytes : List ℕ) (proved : Proved) → (h : IsCertified rules d a b bytes proved) → IsHeaded h.version d l bytes (spelling_all (chess_with d l (test games) (cuts h.version)) h.trees)
  certified_header a b bytes proved h = (h.known, h.spelled)

  -- two headers of the same bytes are one
  same_front : (v w : ℕ) (bytes rest more : List ℕ) → IsHeaded v d l bytes rest → IsHeaded w d l bytes more → ◌≡◌ {A = Header × List ℕ} (header_for v d l, rest) (header_for w d l, more)
  same_front v w bytes rest more at other = one_ok (header_at bytes) (header_for v d l, rest) (header_for w d l, more) (headed_at v d l bytes rest at) (headed_at w d l bytes more other)

  -- and the rest is accepted
  certified_answer : (v a b : ℕ) (bytes rest : List ℕ) (proved : Proved) → IsHeaded v d l bytes rest → IsCertified rules d a b bytes proved → answer (chess_with d l (test games) (cuts v)) array_state a b rest ≡ Ok (proved.records, proved.named)
  certified_answer v a b bytes rest proved at h =
      let one : ◌≡◌ {A = Header × List ℕ} (header_for v d l, rest) (header_for h.version d l, spelling_all (chess_with d l (test games) (cuts h.version)) h.trees) = same_front v h.version bytes rest (spelling_all (chess_with d l (test games) (cuts h.version)) h.trees) at (certified_header a b bytes proved h) in
      let same : rest ≡ spelling_all (chess_with d l (test games) (cuts h.version)) h.trees = ap (λ (x : Header × List ℕ). x.1) one in
      let version : v ≡ h.version = ap (λ (x : Header × List ℕ). x.0.version) one in
      subst (λ (x : ℕ). answer (chess_with d l (test games) (cuts x)) array_state a b rest ≡ Ok (proved.records, proved.named)) (sym version)
      (accepts (chess_with d l (test games) (cuts h.version)) (exact_with d l (test games) (cuts h.version)) array_state a b rest (proved.records, proved.named)
      (record { trees = h.trees; fits = h.fits; bytes_are = same; records_are = h.records_are; named_are = h.named_are; records_fit = h.records_fit; named_fit = h.named_fit }))

  certified : (v a b : ℕ) (bytes rest : List ℕ) (proved : Proved) → IsHeaded v d l bytes rest → answer (chess_with d l (test games) (cuts v)) array_state a b rest ≡ Ok (proved.records, proved.named) → IsCertified rules d a b bytes proved
  certified v a b bytes rest proved at h =
      let k = accepted (chess_with d l (test games) (cuts v)) (exact_with d l (test games) (cuts v)) array_state a b rest (proved.records, proved.named) h in
      record { version = v; known = at.0; trees = k.trees; fits = k.fits; spelled = at.1 ∙ ap (λ (x : List ℕ). header_spelling (header_for v d l) ++ x) k.bytes_are; records_are = k.records_are; named_are = k.named_are; records_fit = k.records_fit; named_fit = k.named_fit }

  -- ---- a listed game is wrong
  pub listed_accepts : (a b : ℕ) (known : Option (List ℕ)) (e : ListFault) → IsListFault d l games e → Accepts (by a b known) d l games (Err (fault.Listed e))
  listed_accepts a b known e h = λ all. absurd (list_fault_refutes d l games e h all)

  pub listed_refuses : (e : ListFault) → IsListFault d l games e → IsListFault d l games e
  listed_refuses e h = h

  -- ---- the header is refused
  not_certified : (a b : ℕ) (known : Option (List ℕ)) → IfSome known (λ bytes. (version : ℕ) (rest : List ℕ) → ¬ IsHeaded version d l bytes rest) → IfSome known (λ bytes. (proved : Proved) → ¬ IsCertified rules d a b bytes proved)
  not_certified a b None h = tt
  not_certified a b (Some bytes) h = λ proved k. h k.version (spelling_all (chess_with d l (test games) (cuts k.version)) k.trees) (certified_header a b bytes proved k)

  refuted : (known : Option (List ℕ)) (failed : Bool) (e : Fault) → HeaderFails d l known failed e → e ≢ fault.Read → IfSome known (λ bytes. (version : ℕ) (rest : List ℕ) → ¬ IsHeaded version d l bytes rest)
  refuted None failed e h ne = tt
  refuted (Some bytes) failed fault.Read h ne = absurd (ne refl)
  refuted (Some bytes) failed fault.Truncated h ne = λ version rest at. (let long : length bytes ≡ length (header_spelling (header_for version d l) ++ rest) = ap length at.1 in let whole : length (header_spelling (header_for version d l) ++ rest) ≡ length (header_spelling (header_for version d l)) + length rest = length-append (header_spelling (header_for version d l)) rest in let packed : length (packed_of d) ≡ 32 = packed_length d in omega arith)
  refuted (Some bytes) failed fault.Magic h ne = λ version rest at. no_header (header_at bytes) reading.Magic (header_for version d l) rest h (headed_at version d l bytes rest at)
  refuted (Some bytes) failed fault.OtherLength h ne = λ version rest at. h.3 (ap (λ (v : Header). v.plies) (one_header (header_at bytes) h.0 (header_for version d l) h.1 rest h.2 (headed_at version d l bytes rest at)))
  refuted (Some bytes) failed fault.OtherDiagram h ne = λ version rest at. h.4 (ap (λ (v : Header). v.diagram) (one_header (header_at bytes) h.0 (header_for version d l) h.1 rest h.2 (headed_at version d l bytes rest at)))
  refuted (Some bytes) failed (fault.Listed x) h ne = absurd h
  refuted (Some bytes) failed fault.Budget h ne = absurd h
  refuted (Some bytes) failed (fault.UnknownRecord x) h ne = absurd h
  refuted (Some bytes) failed (fault.UnknownBound x) h ne = absurd h
  refuted (Some bytes) failed (fault.CutFails x) h ne = absurd h
  refuted (Some bytes) failed fault.RefUnknown h ne = absurd h
  refuted (Some bytes) failed fault.RefDiffers h ne = absurd h
  refuted (Some bytes) failed fault.RefFertile h ne = absurd h
  refuted (Some bytes) failed fault.TooManyNamed h ne = absurd h
  refuted (Some bytes) failed fault.Memory h ne = absurd h
  refuted (Some bytes) failed (fault.Shorter x) h ne = absurd h
  refuted (Some bytes) failed (fault.Unlisted x) h ne = absurd h
  refuted (Some bytes) failed fault.Trailing h ne = absurd h

  pub header_accepts : (a b : ℕ) (known : Option (List ℕ)) (failed : Bool) (e : Fault) → HeaderFails d l known failed e → Accepts (by a b known) d l games (Err e)
  header_accepts a b known failed fault.Read h = tt
  header_accepts a b known failed fault.Truncated h = λ all. not_certified a b known (refuted known failed fault.Truncated h (λ e. cc))
  header_accepts a b known failed fault.Magic h = λ all. not_certified a b known (refuted known failed fault.Magic h (λ e. cc))
  header_accepts a b known failed fault.OtherLength h = λ all. not_certified a b known (refuted known failed fault.OtherLength h (λ e. cc))
  header_accepts a b known failed fault.OtherDiagram h = λ all. not_certified a b known (refuted known failed fault.OtherDiagram h (λ e. cc))
  header_accepts a b known failed (fault.Listed x) h = absurd h
  header_accepts a b known failed fault.Budget h = absurd h
  header_accepts a b known failed (fault.UnknownRecord x) h = absurd h
  header_accepts a b known failed (fault.UnknownBound x) h = absurd h
  header_accepts a b known failed (fault.CutFails x) h = absurd h
  header_accepts a b known failed fault.RefUnknown h = absurd h
  header_accepts a b known failed fault.RefDiffers h = absurd h
  header_accepts a b known failed fault.RefFertile h = absurd h
  header_accepts a b known failed fault.TooManyNamed h = absurd h
  header_accepts a b known failed fault.Memory h = absurd h
  header_accepts a b known failed (fault.Shorter x) h = absurd h
  header_accepts a b known failed (fault.Unlisted x) h = absurd h
  header_accepts a b known failed fault.Trailing h = absurd h

  along : {P Q : List ℕ → Type 0} (known : Option (List ℕ)) → ((bytes : List ℕ) → P bytes → Q bytes) → IfSome known P → IfSome known Q
  along None f h = tt
  along (Some bytes) f h = f bytes h

  pub header_refuses : (a b : ℕ) (known : Option (List ℕ)) (failed : Bool) (e : Fault) → AreSolutions d l games → HeaderFails d l known failed e → Refuses (by a b known) d l games failed (Err e)
  header_refuses a b known failed fault.Read all h = (all, h)
  header_refuses a b known failed fault.Truncated all h = (all, along known (λ bytes x. inl x) h)
  header_refuses a b known failed fault.Magic all h = (all, h)
  header_refuses a b known failed fault.OtherLength all h = (all, h)
  header_refuses a b known failed fault.OtherDiagram all h = (all, h)
  header_refuses a b known failed (fault.Listed x) all h = absurd h
  header_refuses a b known failed fault.Budget all h = absurd h
  header_refuses a b known failed (fault.UnknownRecord x) all h = absurd h
  header_refuses a b known failed (fault.UnknownBound x) all h = absurd h
  header_refuses a b known failed (fault.CutFails x) all h = absurd h
  header_refuses a b known failed fault.RefUnknown all h = absurd h
  header_refuses a b known failed fault.RefDiffers all h = absurd h
  header_refuses a b known failed fault.RefFertile all h = absurd h
  header_refuses a b known failed fault.TooManyNamed all h = absurd h
  header_refuses a b known failed fault.Memory all h = absurd h
  header_refuses a b known failed (fault.Shorter x) all h = absurd h
  header_refuses a b known failed (fault.Unlisted x) all h = absurd h
  header_refuses a b known failed fault.Trailing all h = absurd h

  -- ---- the walk says yes
  pub walk_accepts : (v : ℕ) (known left : Option (List ℕ)) (a b : ℕ) (proved : Proved) → AreSolutions d l games → Headed d l known left v → Answers (chess_with d l (test games) (cuts v)) left a b (Ok proved) → Accepts (by a b known) d l games (Ok proved)
  walk_accepts v known left a b proved all at h = (all, go known left at h.1)
    where
      go : (known left : Option (List ℕ)) → Headed d l known left v → AreKnown left h.0 → IfSome known (λ bytes. IsCertified rules d a b bytes proved)
      go None left at k = tt
      go (Some bytes) None at k = absurd at
      go (Some bytes) (Some rest) at k = certified v a b bytes rest proved at (ap (answer (chess_with d l (test games) (cuts v)) array_state a b) k ∙ h.2)

  -- ---- the walk stops
  -- no front is stopped by bytes behind the certificate
  never_trailing : (v : ℕ) (k : ℕ) (p : State) (s : walk.WalkState State) → RecordCause (chess_with d l (test games) (cuts v)) k p s tree.Trailing → ⊥
  never_trailing v k p s (no_budget e f) = cc
  never_trailing v k p s (no_record e f) = read_no_trailing (cuts v).version s.rest (sym (ap (λ (read_ : List ℕ → Result (Record × List ℕ) (tree.Cause Move)). read_ s.rest) (read_with d l (test games) (cuts v))) ∙ f)
  never_trailing v k p s (refused e (Expand false) rest f g) = g
  never_trailing v k p s (refused e (Expand true) rest f g) = g
  never_trailing v k p s (refused e (Cut code) rest f g) = g
  never_trailing v k p s (refused e (Ref number) rest f g) = g
  never_trailing v k p s (refused e (Priced code color prices) rest f g) = g

  no_trailing : (v : ℕ) (n k : ℕ) (g : List Move) (p : State) (s : walk.WalkState State) → CauseAt (chess_with d l (test games) (cuts v)) n k g p s tree.Trailing → ⊥
  no_trailing v n zero g p s c = c
  no_trailing v n (suc k) g p s c = never_trailing v (suc k) p s c

  stopped_for : (v : ℕ) (a b : ℕ) (rest : List ℕ) (f : tree.Cause Move) → f ≢ tree.Trailing → answer (chess_with d l (test games) (cuts v)) array_state a b rest ≡ Err f → IsStopped (chess_with d l (test games) (cuts v)) array_state a b rest f
  stopped_for v a b rest f ne h = elim (stopped (chess_with d l (test games) (cuts v)) (exact_with d l (test games) (cuts v)) array_state a b rest f h) [ inl s ↦ s | inr t ↦ absurd (ne t.0) ]

  trailing_for : (v : ℕ) (a b : ℕ) (rest : List ℕ) → answer (chess_with d l (test games) (cuts v)) array_state a b rest ≡ Err tree.Trailing → HasMore (chess_with d l (test games) (cuts v)) array_state a b rest
  trailing_for v a b rest h = elim (stopped (chess_with d l (test games) (cuts v)) (exact_with d l (test games) (cuts v)) array_state a b rest tree.Trailing h) [ inl s ↦ absurd (no_trailing v _ s.place.plies s.place.game s.place.position s.state s.cause) | inr t ↦ t.1 ]

  -- what is refused is not certified
  not_both : (v : ℕ) (a b : ℕ) (bytes rest : List ℕ) (f : tree.Cause Move) → IsHeaded v d l bytes rest → answer (chess_with d l (test games) (cuts v)) array_state a b rest ≡ Err f → (proved : Proved) → ¬ IsCertified rules d a b bytes proved
  not_both v a b bytes rest f at h proved k = one_answer (answer (chess_with d l (test games) (cuts v)) array_state a b rest) f (proved.records, proved.named) h (certified_answer v a b bytes rest proved at k)

  because : (v : ℕ) (a b : ℕ) (known left : Option (List ℕ)) (c : (tree.Cause Move)) {Q : List ℕ → Type 0} → Headed d l known left v → Stops left b (λ bytes room. answer (chess_with d l (test games) (cuts v)) array_state a room bytes) (stop.Because c)
      → ((bytes rest : List ℕ) → IsHeaded v d l bytes rest → answer (chess_with d l (test games) (cuts v)) array_state a b rest ≡ Err c → Q bytes) → IfSome known Q
  unfolding Stops
  because v a b None left c at h f = tt
  because v a b (Some bytes) None c at h f = absurd at
  because v a b (Some bytes) (Some rest) c at h f = f bytes rest at h

  pub stop_accepts : (v : ℕ) (a b : ℕ) (known left : Option (List ℕ)) (s : Stop) → Headed d l known left v → Answers (chess_with d l (test games) (cuts v)) left a b (Err s) → Accepts (by a b known) d l games (Err (fault_of s))
  stop_accepts v a b known left stop.Memory at h = tt
  stop_accepts v a b known left stop.Read at h = tt
  stop_accepts v a b known left (stop.Because tree.Budget) at h = λ all. because v a b known left tree.Budget at h (λ bytes rest. not_both v a b bytes rest tree.Budget)
  stop_accepts v a b known left (stop.Because tree.Truncated) at h = λ all. because v a b known left tree.Truncated at h (λ bytes rest. not_both v a b bytes rest tree.Truncated)
  stop_accepts v a b known left (stop.Because (tree.UnknownRecord x)) at h = λ all. because v a b known left (tree.UnknownRecord x) at h (λ bytes rest. not_both v a b bytes rest (tree.UnknownRecord x))
  stop_accepts v a b known left (stop.Because (tree.UnknownBound x)) at h = λ all. because v a b known left (tree.UnknownBound x) at h (λ bytes rest. not_both v a b bytes rest (tree.UnknownBound x))
  stop_accepts v a b known left (stop.Because (tree.CutFails x)) at h = λ all. because v a b known left (tree.CutFails x) at h (λ bytes rest. not_both v a b bytes rest (tree.CutFails x))
  stop_accepts v a b known left (stop.Because tree.RefUnknown) at h = λ all. because v a b known left tree.RefUnknown at h (λ bytes rest. not_both v a b bytes rest tree.RefUnknown)
  stop_accepts v a b known left (stop.Because tree.RefDiffers) at h = λ all. because v a b known left tree.RefDiffers at h (λ bytes rest. not_both v a b bytes rest tree.RefDiffers)
  stop_accepts v a b known left (stop.Because tree.RefFertile) at h = λ all. because v a b known left tree.RefFertile at h (λ bytes rest. not_both v a b bytes rest tree.RefFertile)
  stop_accepts v a b known left (stop.Because tree.TooManyNamed) at h = λ all. because v a b known left tree.TooManyNamed at h (λ bytes rest. not_both v a b bytes rest tree.TooManyNamed)
  stop_accepts v a b known left (stop.Because (tree.Shorter x)) at h = λ all. because v a b known left (tree.Shorter x) at h (λ bytes rest. not_both v a b bytes rest (tree.Shorter x))
  stop_accepts v a b known left (stop.Because (tree.Unlisted x)) at h = λ all. because v a b known left (tree.Unlisted x) at h (λ bytes rest. not_both v a b bytes rest (tree.Unlisted x))
  stop_accepts v a b known left (stop.Because tree.Trailing) at h = λ all. because v a b known left tree.Trailing at h (λ bytes rest. not_both v a b bytes rest tree.Trailing)

  stops_at : (v : ℕ) (a b : ℕ) (f : tree.Cause Move) → f ≢ tree.Trailing → (bytes rest : List ℕ) → IsHeaded v d l bytes rest → answer (chess_with d l (test games) (cuts v)) array_state a b rest ≡ Err f → StopsAt (by a b None) d l games bytes f
  stops_at v a b f ne bytes rest at h = (v, rest, at, stopped_for v a b rest f ne h)

  memory_at : (v : ℕ) (a b : ℕ) (known left : Option (List ℕ)) → Headed d l known left v → Stops left b (λ bytes room. answer (chess_with d l (test games) (cuts v)) array_state a room bytes) stop.Memory → IfSome known (λ bytes. IsRefused (by a b known) d l games bytes fault.Memory)
  unfolding Stops
  memory_at v a b None left at h = tt
  memory_at v a b (Some bytes) None at h = absurd at
  memory_at v a b (Some bytes) (Some rest) at h = (v, rest, at, at_named (chess_with d l (test games) (cuts v)) (exact_with d l (test games) (cuts v)) (plain_with d l (test games) (cuts v)) array_state a b h.0 rest h.1 h.2)

  pub stop_refuses : (v : ℕ) (a b : ℕ) (known left : Option (List ℕ)) (failed : Bool) (s : Stop) → AreSolutions d l games → Headed d l known left v → FailsRead {X = Proved} failed (Err s) → Answers (chess_with d l (test games) (cuts v)) left a b (Err s) → Refuses (by a b known) d l games failed (Err (fault_of s))
  stop_refuses v a b known left failed stop.Memory all at r h = (all, memory_at v a b known left at h)
  stop_refuses v a b known left failed stop.Read all at r h = (all, r)
  stop_refuses v a b known left failed (stop.Because tree.Budget) all at r h = (all, because v a b known left tree.Budget at h (stops_at v a b tree.Budget (λ e. cc)))
  stop_refuses v a b known left failed (stop.Because tree.Truncated) all at r h = (all, because v a b known left tree.Truncated at h (λ bytes rest x y. inr (stops_at v a b tree.Truncated (λ e. cc) bytes rest x y)))
  stop_refuses v a b known left failed (stop.Because (tree.UnknownRecord x)) all at r h = (all, because v a b known left (tree.UnknownRecord x) at h (stops_at v a b (tree.UnknownRecord x) (λ e. cc)))
  stop_refuses v a b known left failed (stop.Because (tree.UnknownBound x)) all at r h = (all, because v a b known left (tree.UnknownBound x) at h (stops_at v a b (tree.UnknownBound x) (λ e. cc)))
  stop_refuses v a b known left failed (stop.Because (tree.CutFails x)) all at r h = (all, because v a b known left (tree.CutFails x) at h (stops_at v a b (tree.CutFails x) (λ e. cc)))
  stop_refuses v a b known left failed (stop.Because tree.RefUnknown) all at r h = (all, because v a b known left tree.RefUnknown at h (stops_at v a b tree.RefUnknown (λ e. cc)))
  stop_refuses v a b known left failed (stop.Because tree.RefDiffers) all at r h = (all, because v a b known left tree.RefDiffers at h (stops_at v a b tree.RefDiffers (λ e. cc)))
  stop_refuses v a b known left failed (stop.Because tree.RefFertile) all at r h = (all, because v a b known left tree.RefFertile at h (stops_at v a b tree.RefFertile (λ e. cc)))
  stop_refuses v a b known left failed (stop.Because tree.TooManyNamed) all at r h = (all, because v a b known left tree.TooManyNamed at h (stops_at v a b tree.TooManyNamed (λ e. cc)))
  stop_refuses v a b known left failed (stop.Because (tree.Shorter x)) all at r h = (all, because v a b known left (tree.Shorter x) at h (stops_at v a b (tree.Shorter x) (λ e. cc)))
  stop_refuses v a b known left failed (stop.Because (tree.Unlisted x)) all at r h = (all, because v a b known left (tree.Unlisted x) at h (stops_at v a b (tree.Unlisted x) (λ e. cc)))
  stop_refuses v a b known left failed (stop.Because tree.Trailing) all at r h = (all, because v a b known left tree.Trailing at h (λ bytes rest x y. (v, rest, x, trailing_for v a b rest y)))
