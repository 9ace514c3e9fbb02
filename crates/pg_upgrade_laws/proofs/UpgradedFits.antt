-- A certificate of version 1 fits as one of version 2. Leads to the law of that.
use Rattle.pg_upgrade_laws.proofs.Common.{◌≡◌, ℕ, ◌+◌, inl, inr, Bool, true, List, ◌++◌, length, get_or, All, refl, sym, ap, subst, ◌∙◌, arith, All-weaker, Record, header_spelling, IsRecordOf, IsCertificate, Rules, spelling_all, Certificate1, certificate_bytes, with_digit_2, upgrade_of, UpgradedIsCertified, CertifiedIsUpgraded}
use Rattle.std.proofs.lemmas.List.FromFn.{length-map-range_with_len}
use Rattle.pg_board.specs.Placement.{Placement}
use Rattle.pg_position.specs.declared.state.State.{State}
use Rattle.pg_position.specs.declared.moves.Move.{Move}
use Rattle.pg_position.specs.Array.{array_state}
use Rattle.pg_position.specs.lemmas.Equalities.{state_eq_decides}
use Rattle.pg_fen.specs.Packing.{packed_byte, packed_of}
use Rattle.pg_certificate.specs.declared.record.Record.TheVariants.{Expand, Cut, Ref, Priced}
use Rattle.pg_checker.specs.Check.{header_for}
use Rattle.pg_checker.specs.Chess.{Cuts, chess, chess_with, is_spelled, read, stands_for}
use Rattle.pg_checker.specs.Equality.{lists}
use Rattle.pg_checker.specs.Futures.{effective, future_eq}
use Rattle.pg_checker.proofs.Reading.{spelled_record}
use Rattle.pg_checker.proofs.Wider.{all_spelled_same, certificate_wider}
use Rattle.pg_upgrade_laws.proofs.Nodes.{all_nodes, many_all_nodes, all_nodes_spelled, certificate_nodes}
use Rattle.pg_upgrade_laws.proofs.ExactUpgrades.{certificate_counted}

-- an entry that stands for a position in version 1 does in version 2
stands_on : (q p : State) → stands_for 1 q p ≡ true → stands_for 2 q p ≡ true
unfolding future_eq
stands_on q p h =
    let same : q ≡ p = (state_eq_decides q p).0 h in
    (state_eq_decides (record q { passed = effective q }) (record p { passed = effective p })).1 (ap (λ (s : State). record s { passed = effective s }) same)

-- a record of version 1 is one of version 2
spelled_on : (x : Record) → is_spelled 1 x ≡ true → is_spelled 2 x ≡ true
spelled_on (Expand named) h = h
spelled_on (Cut code) h = h
spelled_on (Ref number) h = h
spelled_on (Priced code color prices) h = absurd cc

pub upgraded_certified : UpgradedIsCertified
unfolding chess_with
upgraded_certified d n games bounds prices max_records max_named old new k proved up is =
    let cuts : ℕ → Cuts = λ version. record { version = version; bounds = bounds; prices = prices } in
    let one : is.version ≡ 1 =
    (let fourth : 48 + up.certificate.header.version ≡ 48 + is.version = ap (λ (l : List ℕ). get_or l 3 0) (sym up.old_is ∙ is.spelled) in omega (arith, fourth, up.certificate.is_first)) in
    let fits : IsCertificate (chess d n games (cuts 1)) array_state is.trees = subst (λ (v : ℕ). IsCertificate (chess d n games (cuts v)) array_state is.trees) one is.fits in
    let text : old ≡ header_spelling (header_for 1 d n) ++ spelling_all (chess d n games (cuts 1)) is.trees = subst (λ (v : ℕ). old ≡ header_spelling (header_for v d n) ++ spelling_all (chess d n games (cuts v)) is.trees) one is.spelled in
    record {
      version = 2;
      known = inr refl;
      trees = is.trees;
      fits = certificate_wider (chess d n games (cuts 1)) (lists games) (stands_for 2) (is_spelled 2) (read 2) (λ g h. h) stands_on spelled_on array_state is.trees fits;
      spelled = up.new_is ∙ ap with_digit_2 text ∙ ap (λ (l : List ℕ). header_spelling (header_for 2 d n) ++ l) (sym (all_spelled_same (chess d n games (cuts 1)) (lists games) (stands_for 2) (is_spelled 2) (read 2) is.trees));
      records_are = is.records_are;
      named_are = is.named_are;
      records_fit = is.records_fit;
      named_fit = is.named_fit;
    }

packed_long : (d : Placement) → length (packed_of d) ≡ 32
unfolding packed_of
packed_long d = length-map-range_with_len (packed_byte d) 0 32

plain_spelled : (named : Bool) → is_spelled 1 (Expand named) ≡ true
plain_spelled named = refl

pub certified_upgraded : CertifiedIsUpgraded
unfolding chess_with
certified_upgraded d n games bounds prices max_records max_named bytes proved is first =
    let r : Rules State Move = chess d n games (record { version = 1; bounds = bounds; prices = prices }) in
    let fits : IsCertificate r array_state is.trees = subst (λ (v : ℕ). IsCertificate (chess d n games (record { version = v; bounds = bounds; prices = prices })) array_state is.trees) first is.fits in
    let text : bytes ≡ header_spelling (header_for 1 d n) ++ spelling_all r is.trees = subst (λ (v : ℕ). bytes ≡ header_spelling (header_for v d n) ++ spelling_all (chess d n games (record { version = v; bounds = bounds; prices = prices })) is.trees) first is.spelled in
    let are : All (λ x. IsRecordOf 1 x) (all_nodes is.trees) = All-weaker (λ x. is_spelled 1 x ≡ true) (λ x. IsRecordOf 1 x) (spelled_record 1) (all_nodes is.trees) (certificate_nodes r plain_spelled array_state is.trees fits) in
    let certificate : Certificate1 = record { header = header_for 1 d n; records = all_nodes is.trees; is_header = record { known = inl refl; whole = packed_long d }; is_first = refl; are_records = are } in
    let same : bytes ≡ certificate_bytes certificate = text ∙ ap (λ (l : List ℕ). header_spelling (header_for 1 d n) ++ l) (sym (all_nodes_spelled r is.trees)) in
    ap (upgrade_of max_records) same ∙ certificate_counted max_records proved.records certificate (many_all_nodes is.trees ∙ sym is.records_are) (omega (arith, is.records_are, is.records_fit))
