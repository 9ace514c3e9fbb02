-- Texts one after the other are some text.
use Rattle.pg_certificate.proofs.Common.{ℕ, List, [], ◌++◌, Option, Appends-nil, Appends-trans, Appends}
use Rattle.pg_certificate.specs.Pushing.{Grows}

pub grows_none : (a : Option (List ℕ)) → Grows a a
unfolding Grows
grows_none a = ([], Appends-nil a)

pub grows_more : (a b c : Option (List ℕ)) (more : List ℕ) → Grows a b → Appends b c more → Grows a c
unfolding Grows
grows_more a b c more (text, p) q = (text ++ more, Appends-trans a b c text more p q)

pub grows_on : (a b c : Option (List ℕ)) → Grows a b → Grows b c → Grows a c
unfolding Grows
grows_on a b c (s, p) (t, q) = (s ++ t, Appends-trans a b c s t p q)
