use Rattle.std.proofs.Common.{ℕ, List, Option, ◌∙◌, refl, sym, ap, map, length}
use Rattle.std.specs.Prelude.{IsTrue, Contains, ◌↔◌}
use Rattle.std.proofs.lemmas.Bool.{false≢true}
use Rattle.std.proofs.lemmas.Result.{IfOk-weaker}
use Rattle.sat_base.specs.Lit.{opposite, IsTautology}
use Rattle.sat_base.specs.declared.origins.Ref.{Ref}
use Rattle.trace_core.specs.Known.{Known, tag_of}
use Rattle.trace_core.specs.Propagation.{StandsInOneOf, ReachesConflict}
use Rattle.trace_core.specs.Trace.{IsOkStep, greatest}
use Rattle.trace_core.specs.Checked.{known_to, hinted}
use Rattle.trace_core.proofs.StepLemmas.{hinted_room, ok_exactly}
use Rattle.trace_core.proofs.step_check.is_ok.Goals as goal

pub returns-then-tag-step-clause-exact : goal.returns-then-tag-step-clause-exact
returns-then-tag-step-clause-exact c = (
  λ h. absurd (false≢true h),
  λ ok. absurd (c.if-tag-step.true (c.in-Some.ensures.tag ∙ ap (λ hints. greatest (map (λ hint. tag_of (known_to c.args.database.now.inputs c.args.database.now.steps hint)) hints)) c.items-hints.ensures ∙ sym ok.exact_tag)),
)

pub derives-requires-clause-room : goal.derives-requires-clause-room
derives-requires-clause-room c =
    hinted_room (length c.args.marks.now) c.args.database.now.inputs c.args.database.now.steps c.items-hints.result.now c.requires.inputs_room c.requires.steps_room

pub returns-clause-exact : goal.returns-clause-exact
returns-clause-exact c =
    let table : Ref → Option Known = known_to c.args.database.now.inputs c.args.database.now.steps in
    let clauses : List (List ℕ) = hinted c.args.database.now.inputs c.args.database.now.steps c.items-hints.result.now in
    let proper : ¬ IsTautology c.args.step.now.clause = λ both. false≢true (c.if-is_tautology.ensures.1 both) in
    IfOk-weaker c.derives.result
    (λ derived. IsTrue derived ↔ (((lit : ℕ) → Contains c.lits-lits.result.now lit → StandsInOneOf clauses lit) × ReachesConflict (map opposite c.lits-lits.result.now) clauses))
    (λ ok. IsTrue ok ↔ IsOkStep table c.args.step.now)
    (λ b is. ok_exactly table c.args.step.now c.lits-lits.result.now c.items-hints.result.now c.in-Some.tag b c.items-hints.ensures c.lits-lits.ensures.value c.if-tag-step.false
    (c.in-Some.ensures.known refl) c.in-Some.ensures.tag proper is)
    c.derives.ensures.derived
