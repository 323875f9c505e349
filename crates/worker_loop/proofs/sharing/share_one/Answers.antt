use Rattle.std.proofs.Common.{◌≡◌, ◌∙◌, ◌++◌, ◌∷◌, [], List, length, map, ap, arith, subst, sym}
use Rattle.std.specs.Arc.{arc_value}
use Rattle.std.proofs.lemmas.List.{map_push}
use Rattle.trace_core.specs.Known.{clause_of}
use Rattle.trace_core.specs.declared.derivation.Step.{Step}
use Rattle.trace_trim.specs.Packed.{ends_in}
use Rattle.entry_core.specs.Legal.{IsShareable}
use Rattle.board_core.specs.State.{State}
use Rattle.session.specs.Sharing.{Knows}
use Rattle.worker_loop.specs.Asked.{clause_at}
use Rattle.worker_loop.specs.Fits.{read_by}
use Rattle.worker_loop.specs.Shared.{HasSharedMore}
use Rattle.worker_loop.proofs.Sharings.{free_place, one_shared, shareable, shared_none}
use Rattle.worker_loop.proofs.sharing.share_one.Goals as goal

pub share-requires-clause-shareable : goal.share-requires-clause-shareable
share-requires-clause-shareable c =
    let (one, step, held, proper) = c.requires.lesson in
    let clause : c.lits.result.now ≡ one.clause =
    c.lits.ensures.value ∙ c.own_step.ensures.clause ∙ ap (λ (steps : List Step). clause_at steps c.args.number) c.steps.ensures.value ∙ ap clause_of step in
    subst (IsShareable c.args.board.now.journal) (sym (c.in_ok-clone.ensures.cases ∙ c.in_ok-packet-2.ensures.ok))
    (shareable c.args.bench.now c.args.board.now.journal one c.in_ok-packet.field-0 c.requires.fits c.steps.ensures.sound c.requires.read (c.in_ok-packet.ensures.sharable one step) held proper
    (omega (arith, c.if-lits-gt-SHORT.false, ap length clause)))

pub returns-in-Err-Full-clause-more : goal.returns-in-Err-Full-clause-more
returns-in-Err-Full-clause-more c =
    subst (λ (b : State). HasSharedMore c.args.board.now b c.args.caller) (sym c.in-Err-Full.ensures.err) (shared_none c.args.board.now c.args.caller)

pub returns-in-Err-Memory-clause-more : goal.returns-in-Err-Memory-clause-more
returns-in-Err-Memory-clause-more c =
    subst (λ (b : State). HasSharedMore c.args.board.now b c.args.caller) (sym c.in-Err-Memory.ensures.err) (shared_none c.args.board.now c.args.caller)

pub published-requires-clause-unknown : goal.published-requires-clause-unknown
published-requires-clause-unknown c =
    free_place c.args.bench.now c.in-Ok.place c.requires.fits.known (omega (arith, c.in-Ok.ensures.place, ap length c.requires.read))

pub returns-clause-shared : goal.returns-clause-shared
returns-clause-shared c =
    let (one, step, held, proper) = c.requires.lesson in
    let same : arc_value c.in_ok-clone.field-0 ≡ arc_value c.in_ok-packet-2.packet = c.in_ok-clone.ensures.cases in
    one_shared c.args.bench.now (record { session = c.published.new.self; packets = c.push.new.self }) c.args.board.now c.share.new.self c.args.caller c.in-Ok.place c.args.number c.in_ok-clone.field-0 one
    c.requires.fits c.requires.read c.in-Ok.ensures.ok
    (subst (Knows c.args.bench.now.session.solver c.published.new.self.solver c.in-Ok.place) (sym same) c.in_ok-published.ensures.ok.knows) c.in-Ok.ensures.place
    (ap (map arc_value) c.in_ok-push.ensures.items ∙ map_push arc_value c.args.bench.now.packets.items c.in_ok-packet-2.packet ∙ ap (λ (packet : List Step). read_by c.args.bench.now ++ packet ∷ []) (sym same))
    step (ap ends_in (same ∙ c.in_ok-packet-2.ensures.ok) ∙ (c.in_ok-packet.ensures.sharable one step).ends)
