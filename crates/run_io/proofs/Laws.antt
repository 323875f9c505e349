-- Laws of bytes that are told or not.
use Rattle.std.proofs.Common.{◌≡◌, List, [], ◌++◌, ℕ, Option, Some, None, refl, ap, sym, append_assoc, append-nil}
use Rattle.run_io.specs.Bytes.{appended, followed_by}

-- two pieces one after the other are one piece
pub appended_twice : (taken : Option (List ℕ)) (first second : List ℕ) → appended (appended taken first) second ≡ appended taken (first ++ second)
appended_twice None first second = refl
appended_twice (Some taken) first second = ap Some (append_assoc taken first second)

pub appended_nothing : (taken : Option (List ℕ)) → appended taken [] ≡ taken
appended_nothing None = refl
appended_nothing (Some taken) = ap Some (append-nil taken)

-- two pieces one after the other are one piece
pub followed_by_twice : (first second : List ℕ) (rest : Option (List ℕ)) → followed_by first (followed_by second rest) ≡ followed_by (first ++ second) rest
followed_by_twice first second None = refl
followed_by_twice first second (Some rest) = ap Some (sym (append_assoc first second rest))

pub followed_by_nothing : (rest : Option (List ℕ)) → followed_by [] rest ≡ rest
followed_by_nothing None = refl
followed_by_nothing (Some rest) = refl
