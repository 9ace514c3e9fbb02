-- What holds of each of the six kinds holds of any kind; and so of men.
use Rattle.pg_board.specs.declared.man.Color.{Color}
use Rattle.pg_board.specs.declared.man.Color.TheVariants.{White, Black}
use Rattle.pg_board.specs.declared.man.Kind.{Kind}
use Rattle.pg_board.specs.declared.man.Kind.TheVariants.{Pawn, Knight, Bishop, Rook, Queen, King}

abbrev pub OfKinds : (Kind → Type 0) → Type 0
OfKinds P = P Pawn × P Knight × P Bishop × P Rook × P Queen × P King

pub each_kind : (P : Kind → Type 0) → OfKinds P → (k : Kind) → P k
each_kind P h Pawn = h.0
each_kind P h Knight = h.1
each_kind P h Bishop = h.2
each_kind P h Rook = h.3
each_kind P h Queen = h.4
each_kind P h King = h.5

pub each_man : (P : Color → Kind → Type 0) → OfKinds (P White) → OfKinds (P Black) → (c : Color) (k : Kind) → P c k
each_man P white black White k = each_kind (P White) white k
each_man P white black Black k = each_kind (P Black) black k
