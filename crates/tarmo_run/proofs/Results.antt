-- Clauses on results.
use Rattle.std.proofs.Common.{◌≡◌}
use Rattle.std.specs.Prelude.{Result, Ok, Err, OnOk, MatchResult}

pub on_ok_always : {T E P : Type 0} (r : Result T E) → P → OnOk r P
on_ok_always (Ok x) p = p
on_ok_always (Err e) p = tt

-- what holds of the fault holds of the result that has it
pub match_err : {T E : Type 0} (r : Result T E) (fault : E) (P : T → Type 0) (Q : E → Type 0) →
    r ≡ Err fault → Q fault → MatchResult r P Q
match_err (Ok x) fault P Q is q = cc
match_err (Err e) fault P Q is q = let same : e ≡ fault = cc in rw same q

pub on_ok_weaker : {T E P Q : Type 0} (r : Result T E) → (P → Q) → OnOk r P → OnOk r Q
on_ok_weaker (Ok x) f p = f p
on_ok_weaker (Err e) f p = tt
