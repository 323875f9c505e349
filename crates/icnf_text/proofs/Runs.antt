-- Runs of a reader over a text, in any pieces.
use Rattle.std.proofs.Common.{◌≡◌, ◌∙◌, ℕ, ◌+◌, ◌<◌, List, [], ◌∷◌, ◌++◌, length, take, get_or, refl, ap, sym, append_assoc, append-nil}
use Rattle.std.specs.Prelude.{true, false, Option, Some}
use Rattle.std.proofs.lemmas.List.{take_more}
use Rattle.icnf_text.specs.declared.statements.Numbered.{Numbered}
use Rattle.icnf_text.specs.declared.faults.Fault.{Fault}
use Rattle.icnf_text.specs.Judgement.{statements, wrong}
use Rattle.icnf_text.specs.Machine.{State, Step, quiet, start, read_byte, and_then, read_bytes, finished, HasRead}
use Rattle.icnf_text.proofs.Truth.{run, tells, ends, stopped_byte}

pub read_bytes-append : (step : Step) (xs ys : List ℕ) → read_bytes step (xs ++ ys) ≡ read_bytes (read_bytes step xs) ys
read_bytes-append step [] ys = refl
read_bytes-append step (x ∷ xs) ys = read_bytes-append (and_then step x) xs ys

pub state_after : (step : Step) (bytes : List ℕ) → (read_bytes step bytes).state ≡ (read_bytes (quiet step.state) bytes).state
state_after step [] = refl
state_after step (b ∷ bs) = state_after (and_then step b) bs ∙ sym (state_after (and_then (quiet step.state) b) bs)

pub given_after : (step : Step) (bytes : List ℕ) → (read_bytes step bytes).given ≡ step.given ++ (read_bytes (quiet step.state) bytes).given
given_after step [] = sym (append-nil step.given)
given_after step (b ∷ bs) =
    given_after (and_then step b) bs
    ∙ append_assoc step.given (read_byte step.state b).given (read_bytes (quiet (read_byte step.state b).state) bs).given
    ∙ ap (λ (g : List Numbered). step.given ++ g) (sym (given_after (and_then (quiet step.state) b) bs))

pub one_more : (step : Step) (xs : List ℕ) (i : ℕ) → i < length xs → read_bytes step (take (i + 1) xs) ≡ and_then (read_bytes step (take i xs)) (get_or xs i 0)
one_more step xs i within = ap (read_bytes step) (take_more xs i 0 within) ∙ read_bytes-append step (take i xs) (get_or xs i 0 ∷ [])

pub feed_read : (s new : State) (text piece : List ℕ) → new ≡ (read_bytes (quiet s) piece).state → HasRead s text → HasRead new (text ++ piece)
unfolding HasRead
feed_read s new text piece is has =
    is ∙ ap (λ (t : State). (read_bytes (quiet t) piece).state) has ∙ sym (state_after (run text) piece) ∙ ap (λ (t : Step). t.state) (sym (read_bytes-append (quiet start) text piece))

pub feed_given : (s : State) (text piece : List ℕ) (given : List Numbered) → given ≡ (read_bytes (quiet s) piece).given → HasRead s text → statements text false ++ given ≡ statements (text ++ piece) false
unfolding HasRead
feed_given s text piece given is has =
    ap (λ (g : List Numbered). g ++ given) (sym (tells text).1)
    ∙ ap (λ (g : List Numbered). (run text).given ++ g) (is ∙ ap (λ (t : State). (read_bytes (quiet t) piece).given) has)
    ∙ sym (given_after (run text) piece) ∙ ap (λ (t : Step). t.given) (sym (read_bytes-append (quiet start) text piece)) ∙ (tells (text ++ piece)).1

pub feed_fault : (s new : State) (text piece : List ℕ) → new ≡ (read_bytes (quiet s) piece).state → HasRead s text → new.fault ≡ wrong (text ++ piece) false
unfolding HasRead
feed_fault s new text piece is has = ap (λ (t : State). t.fault) (feed_read s new text piece is has) ∙ (tells (text ++ piece)).0

pub finish_given : (s : State) (text : List ℕ) (given : List Numbered) → given ≡ (finished s).given → HasRead s text → statements text false ++ given ≡ statements text true
unfolding HasRead
finish_given s text given is has =
    ap (λ (g : List Numbered). statements text false ++ g) (is ∙ ap (λ (t : State). (finished t).given) has) ∙ (ends text).1

pub finish_fault : (s : State) (text : List ℕ) (fault : Option Fault) → fault ≡ (finished s).state.fault → HasRead s text → fault ≡ wrong text true
unfolding HasRead
finish_fault s text fault is has = is ∙ ap (λ (t : State). (finished t).state.fault) has ∙ (ends text).0

pub byte_given : (old now new : List Numbered) (s : State) (b : ℕ) (step whole : Step) →
    new ≡ now ++ (read_byte s b).given → now ≡ old ++ step.given → s ≡ step.state → whole ≡ and_then step b → new ≡ old ++ whole.given
byte_given old now new s b step whole made was at is =
    made ∙ ap (λ (g : List Numbered). g ++ (read_byte s b).given) was
    ∙ append_assoc old step.given (read_byte s b).given
    ∙ ap (λ (t : State). old ++ (step.given ++ (read_byte t b).given)) at
    ∙ ap (λ (t : Step). old ++ t.given) (sym is)

pub byte_state : (new s : State) (b : ℕ) (step whole : Step) → new ≡ (read_byte s b).state → s ≡ step.state → whole ≡ and_then step b → new ≡ whole.state
byte_state new s b step whole made at is = made ∙ ap (λ (t : State). (read_byte t b).state) at ∙ ap (λ (t : Step). t.state) (sym is)

-- behind a fault nothing changes
stays_stopped : (s : State) (f : Fault) (bytes : List ℕ) → s.fault ≡ Some f → read_bytes (quiet s) bytes ≡ quiet s
stays_stopped s f [] h = refl
stays_stopped s f (b ∷ bs) h = ap (λ (t : Step). read_bytes (record { state = t.state; given = [] ++ t.given }) bs) (stopped_byte s b f h) ∙ stays_stopped s f bs h

pub feed_after_fault : (s new : State) (text piece : List ℕ) (given : List Numbered) (f : Fault) → new ≡ (read_bytes (quiet s) piece).state → given ≡ (read_bytes (quiet s) piece).given → HasRead s text → wrong text false ≡ Some f →
    (given ≡ []) × (new.fault ≡ Some f)
unfolding HasRead
feed_after_fault s new text piece given f is given_is has h =
    let fault : s.fault ≡ Some f = ap (λ (t : State). t.fault) has ∙ (tells text).0 ∙ h in
    let still = stays_stopped s f piece fault in
    (given_is ∙ ap (λ (t : Step). t.given) still, ap (λ (t : State). t.fault) (is ∙ ap (λ (t : Step). t.state) still) ∙ fault)
