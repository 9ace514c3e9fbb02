-- What was opened begins with its header. Leads to the contracts of `open` and `answer_opened`.
use Rattle.pg_checker.proofs.Common.{◌≡◌, ℕ, List, [], Option, Some, None, IfSome, Ok, refl, subst, prepend_known, Placement, Header, ReaderState, Reads, to_come, header_at, header_spelling, IsVersion, header_for, Begins, OpenedState, behind, bytes_of, Headed}
use Rattle.pg_checker.proofs.Certifying.{left_alone}

known_begins : (Holds : Header → Type 0) (known after : Option (List ℕ)) (h : Header) → Reads {A = Header} header_at known after (Ok h) → Holds h
    → IfSome known (Begins Holds)
known_begins Holds None after h read_ holds = tt
known_begins Holds (Some bytes) None h read_ holds = absurd read_
known_begins Holds (Some bytes) (Some rest) h read_ holds = (h, rest, read_, holds)

pub begins : (Holds : Header → Type 0) (reader : ReaderState) (left after : Option (List ℕ)) (h : Header) → reader.held ≡ []
    → Reads {A = Header} header_at (to_come reader left) after (Ok h) → Holds h → IfSome left (Begins Holds)
begins Holds reader left after h e read_ holds =
    known_begins Holds left after h (subst (λ (v : Option (List ℕ)). Reads {A = Header} header_at v after (Ok h)) (left_alone reader left e) read_) holds

headed_for : (version : ℕ) (d : Placement) (n : ℕ) (after : Option (List ℕ)) → IsVersion version
    → Headed d n (prepend_known (header_spelling (header_for version d n)) after) after version
headed_for version d n None known = tt
headed_for version d n (Some rest) known = (known, refl)

-- they begin with its header
pub headed_by : (o : OpenedState) (left : Option (List ℕ)) → IsVersion o.version
    → Headed o.diagram o.plies (bytes_of o left) (behind o left) o.version
headed_by o left known = headed_for o.version o.diagram o.plies (behind o left) known
