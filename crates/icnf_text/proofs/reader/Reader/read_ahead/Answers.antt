use Rattle.std.proofs.Common.{◌∙◌, ◌≡◌, ◌+◌, ◌≤◌, ◌++◌, take, ap, subst, sym, append-nil, arith}
use Rattle.std.specs.Prelude.{None}
use Rattle.icnf_text.specs.Ahead.{IsBetween, end_read, number_read}
use Rattle.icnf_text.specs.Machine.{State, Step, quiet, read_bytes, zero_taken}
use Rattle.icnf_text.proofs.AheadRead.{end_step, number_step, end_between, number_between, end_bytes}
use Rattle.icnf_text.proofs.reader.Reader.read_ahead.Goals as goal

ended : (c : goal.In_ok-read_end) → read_bytes (quiet c.args.self.now) (take 2 c.args.bytes.now) ≡ record { state = end_read c.args.self.now; given = (zero_taken c.args.self.now.parse c.args.self.now.line).given }
ended c =
    let end = c.is_end.ensures c.if-is_end.true in
    let room : c.args.self.now.bytes + 2 ≤ 4294967296 = omega (arith, end.within, c.requires.room) in
    end_step c.args.self.now c.args.bytes.now c.requires.between end room

pub returns-then-is_end-clause-state : goal.returns-then-is_end-clause-state
returns-then-is_end-clause-state c = c.in_ok-read_end.ensures.state ∙ ap (λ (t : Step). t.state) (sym (ended c))

pub returns-then-is_end-clause-given : goal.returns-then-is_end-clause-given
returns-then-is_end-clause-given c = c.in_ok-read_end.ensures.given ∙ ap (λ (t : Step). c.args.given.now.items ++ t.given) (sym (ended c))

pub returns-then-is_end-clause-counted : goal.returns-then-is_end-clause-counted
returns-then-is_end-clause-counted c = ap (λ (s : State). s.bytes) c.in_ok-read_end.ensures.state ∙ end_bytes c.args.self.now

pub returns-then-is_end-clause-between : goal.returns-then-is_end-clause-between
returns-then-is_end-clause-between c = subst (λ (s : State). s.fault ≡ None → IsBetween s) (sym c.in_ok-read_end.ensures.state) (end_between c.args.self.now c.requires.between)

numbered : (c : goal.In_ok-read_number-in-Some) → read_bytes (quiet c.args.self.now) (take c.in-Some.number.size c.args.bytes.now) ≡ quiet (number_read c.args.self.now c.in-Some.number.negative c.in-Some.number.variable c.in-Some.number.size)
numbered c =
    let within = c.in-Some.ensures.within in
    let room : c.args.self.now.bytes + c.in-Some.number.size ≤ 4294967296 = omega (arith, within, c.requires.room) in
    number_step c.args.self.now c.args.bytes.now c.in-Some.number.negative c.in-Some.number.variable c.in-Some.number.size c.requires.between c.in-Some.ensures room

pub returns-in_ok-read_number-in-Some-clause-state :
    goal.returns-in_ok-read_number-in-Some-clause-state
returns-in_ok-read_number-in-Some-clause-state c = c.in_ok-read_number-in-Some.ensures ∙ ap (λ (t : Step). t.state) (sym (numbered c))

pub returns-in_ok-read_number-in-Some-clause-given :
    goal.returns-in_ok-read_number-in-Some-clause-given
returns-in_ok-read_number-in-Some-clause-given c = sym (append-nil c.args.given.now.items) ∙ ap (λ (t : Step). c.args.given.now.items ++ t.given) (sym (numbered c))

pub returns-in_ok-read_number-in-Some-clause-between :
    goal.returns-in_ok-read_number-in-Some-clause-between
returns-in_ok-read_number-in-Some-clause-between c =
    subst (λ (s : State). s.fault ≡ None → IsBetween s) (sym c.in_ok-read_number-in-Some.ensures) (number_between c.args.self.now c.in-Some.number.negative c.in-Some.number.variable c.in-Some.number.size c.requires.between)
