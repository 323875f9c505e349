-- A piece that is taken in parts.
use Rattle.std.proofs.Common.{◌≡◌, ◌≤◌, ◌+◌, ◌-◌, List, ◌++◌, ℕ, Option, length, take, drop, ap, sym, ◌∙◌, arith, min, length-drop}
use Rattle.std.proofs.lemmas.List.{length-take, take-append-le, take-append-drop, take-take, drop-drop}
use Rattle.std.proofs.Math.Seq.{take-add, take-length}
use Rattle.run_io.specs.Bytes.{appended}
use Rattle.run_io.proofs.Laws.{appended_twice}

-- what lies past an index, as the slice `piece[at..]` has it
rest_of_slice : (at : ℕ) (piece : List ℕ) → take (length piece - at) (drop at piece) ≡ drop at piece
rest_of_slice at piece = ap (λ n. take n (drop at piece)) (sym (length-drop at piece)) ∙ take-length (drop at piece)

-- a front of the piece was taken, and then a front of its rest
pub front_grows : (before middle now : Option (List ℕ)) (piece : List ℕ) (at n : ℕ) →
    middle ≡ appended before (take at piece) →
    now ≡ appended middle (take n (take (length piece - at) (drop at piece))) →
    now ≡ appended before (take (at + n) piece)
front_grows before middle now piece at n front more =
    more
    ∙ ap (λ rest. appended middle (take n rest)) (rest_of_slice at piece)
    ∙ ap (λ taken. appended taken (take n (drop at piece))) front
    ∙ appended_twice before (take at piece) (take n (drop at piece))
    ∙ ap (appended before) (sym (take-add at n piece))

-- A read gave the front of what was left: these bytes at the front of the buffer, and then the rest, are what was left.
pub read_gives : (bytes slice buf now : List ℕ) (at count most : ℕ) →
    slice ≡ bytes →
    count ≡ min most (length (take (length slice - at) (drop at slice))) →
    now ≡ take count (take (length slice - at) (drop at slice)) ++ drop count buf →
    drop at bytes ≡ take count now ++ drop (at + count) bytes
read_gives bytes slice buf now at count most same size given =
    let rest : List ℕ = take (length slice - at) (drop at slice) in
    let fits : count ≤ length (take count rest) = omega (arith, size, length-take count rest) in
    let front : take count now ≡ take count (drop at bytes) =
    ap (take count) given
    ∙ take-append-le count (take count rest) (drop count buf) fits
    ∙ take-take count count rest (omega arith)
    ∙ ap (take count) (rest_of_slice at slice ∙ ap (drop at) same) in
    sym (ap (λ xs. xs ++ drop (at + count) bytes) front
    ∙ ap (λ xs. take count (drop at bytes) ++ xs) (sym (drop-drop count at bytes))
    ∙ take-append-drop count (drop at bytes))
