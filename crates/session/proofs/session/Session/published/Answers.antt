use Rattle.std.proofs.Common.{◌≡◌, ◌∙◌, ◌++◌, ◌≤◌, ℕ, List, Option, None, length, take, ap, sym}
use Rattle.std.proofs.Common.{subst, arith}
use Rattle.std.specs.Prelude.{Contains, IsSome, replicate}
use Rattle.std.specs.Arc.{arc_value}
use Rattle.std.proofs.Math.Seq.{take-append_seam}
use Rattle.sat_base.specs.declared.origins.Ref.{Ref}
use Rattle.trace_core.specs.Known.{Known, item_at}
use Rattle.trace_trim.specs.Packed.{AreNumbersPacked, IsPack, name_of}
use Rattle.trace_core.proofs.Items.{item_at-within}
use Rattle.trace_trim.proofs.Packed.{packed_ends}
use Rattle.session.specs.Solver.{Solver, IsStep, inputs_of, packet_at, shared_by}
use Rattle.session.specs.Searching.{packets_of, solver_of}
use Rattle.session.proofs.Sound.{sound}
use Rattle.session.specs.Session.{SessionView}
use Rattle.session.specs.Publishing.{AreNamedAnew, AreNamesFit, Publishes}
use Rattle.session.proofs.Names.{ok_look_back}
use Rattle.session.proofs.Published.{grown_name, packed_within, published_fit, step_there}
use Rattle.session.proofs.session.Session.published.Goals as goal

pub packed_numbers-requires-clause-earlier : goal.packed_numbers-requires-clause-earlier
packed_numbers-requires-clause-earlier c =
    let s = c.self.inside.search in
    ok_look_back (inputs_of s.store.clauses) (shared_by (packets_of s)) s.steps
    (sound s c.self.invariant.kept).ok

pub know-requires-clause-held : goal.know-requires-clause-held
know-requires-clause-held c =
    let (one, is, held) = subst (λ (view : SessionView). (one : Known)
    × IsStep view.solver.steps c.args.step one × Contains view.solver.held one)
    (sym c.self.view_is) c.requires.held in
    let pack = subst (λ (view : SessionView). IsPack view.solver.steps view.names c.args.step
    (arc_value c.args.packet.now)) (sym c.self.view_is) c.requires.pack in
    record { one = one; last = packed_ends c.self.inside.search.steps c.self.inside.names.items c.args.step (arc_value c.args.packet.now) pack ∙ is; held = held }

-- the numbers that are packed, over the session's fields
packed : (c : goal.After-deref-in-Ok)
    → AreNumbersPacked c.self.inside.search.steps c.self.inside.names.items c.args.step c.in_ok-numbers.numbers.items
packed c =
    subst (λ (names : List (Option Ref)). AreNumbersPacked c.self.inside.search.steps names c.args.step c.in_ok-numbers.numbers.items) c.deref.ensures.value
    c.in_ok-numbers.ensures

there : (c : goal.After-deref-in-Ok) → IsSome (item_at c.self.inside.search.steps c.args.step)
there c =
    let (one, is, held) = subst (λ (view : SessionView). (one : Known)
    × IsStep view.solver.steps c.args.step one × Contains view.solver.held one)
    (sym c.self.view_is) c.requires.held in
    step_there c.self.inside.search.steps c.args.step one is

low : (c : goal.After-deref-in-Ok) → (number : ℕ) → Contains c.deref-in-Ok.result.now number
    → (1 ≤ number) × (number ≤ length c.reach.new.names.items)
low c number has =
    let s = c.self.inside.search in
    let earlier = ok_look_back (inputs_of s.store.clauses) (shared_by (packets_of s)) s.steps
    (sound s c.self.invariant.kept).ok in
    let within = packed_within s.steps c.self.inside.names.items c.args.step c.in_ok-numbers.numbers.items earlier (there c) (packed c) number (subst (λ (xs : List ℕ). Contains xs number) c.deref-in-Ok.ensures.value has) in
    (within.0, omega (arith, within.1, c.in_ok-reach.ensures.ok.2))

pub name_steps-requires-clause-low : goal.name_steps-requires-clause-low
name_steps-requires-clause-low c = low c

-- what names are after there is room
grown : (old now : List (Option Ref)) (count number : ℕ) → now ≡ old ++ replicate count None
    → name_of now number ≡ name_of old number
grown old now count number are = ap (λ (xs : List (Option Ref)). name_of xs number) are
    ∙ grown_name old count number

pub invariant_of-self-in-Ok : goal.invariant_of-self-in-Ok
invariant_of-self-in-Ok c =
    let s = c.self.inside.search in
    let names = c.self.inside.names.items in
    let e = c.know.ensures in
    let room = c.in_ok-reach.ensures.ok in
    let numbers = c.in_ok-numbers.numbers.items in
    let (one, is, held) = subst (λ (view : SessionView). (one : Known)
    × IsStep view.solver.steps c.args.step one × Contains view.solver.held one)
    (sym c.self.view_is) c.requires.held in
    let pack = subst (λ (view : SessionView). IsPack view.solver.steps view.names c.args.step
    (arc_value c.args.packet.now)) (sym c.self.view_is) c.requires.pack in
    let reached = subst (λ (xs : List
    (Option Ref)). AreNumbersPacked s.steps xs c.args.step numbers) c.deref.ensures.value
    c.in_ok-numbers.ensures in
    let within = item_at-within s.steps c.args.step
    (step_there s.steps c.args.step one is) in
    record {
      kept = e.kept;
      zero = e.depth ∙ c.self.invariant.zero;
      names = published_fit (solver_of s)
          (solver_of c.know.new.search) names c.reach.new.names.items c.name_steps.new.names.items c.args.step c.args.place (arc_value c.args.packet.now) numbers c.self.invariant.names
          c.in-Ok.ensures.ok (ap (λ
          (view : SessionView). packet_at view.solver.packets c.args.place) c.self.view_is
          ∙ c.requires.unknown) pack reached
          (λ number. grown names c.reach.new.names.items room.0 number room.1)
          (subst (AreNamedAnew c.reach.new.names.items c.name_steps.new.names.items c.args.place) c.deref-in-Ok.ensures.value c.name_steps.ensures.named)
          (omega (arith, c.name_steps.ensures.size, room.2, c.self.invariant.names.few, within.1));
    }

pub returns-in-Ok-clause-ok : goal.returns-in-Ok-clause-ok
returns-in-Ok-clause-ok c =
    let s = c.self.inside.search in
    let names = c.self.inside.names.items in
    let room = c.in_ok-reach.ensures.ok in
    let numbers = c.in_ok-numbers.numbers.items in
    let named = subst (AreNamedAnew c.reach.new.names.items c.name_steps.new.names.items c.args.place) c.deref-in-Ok.ensures.value c.name_steps.ensures.named in
    subst (λ (view : SessionView). Publishes view (record { solver = solver_of c.know.new.search; names = c.name_steps.new.names.items }) c.args.step c.args.place (arc_value c.args.packet.now)) c.self.view_is (record {
      knows = c.in-Ok.ensures.ok;
      numbers = numbers;
      packed = subst (λ (xs : List
          (Option Ref)). AreNumbersPacked s.steps xs c.args.step numbers) c.deref.ensures.value
          c.in_ok-numbers.ensures;
      names = record {
        named = named.named;
        others = λ number none. named.others number none
            ∙ grown names c.reach.new.names.items room.0 number room.1;
      };
    })

pub invariant_of-self-in-Err : goal.invariant_of-self-in-Err
invariant_of-self-in-Err c =
    let s = c.self.inside.search in
    let names = c.self.inside.names.items in
    let e = c.know.ensures in
    let room = c.in_ok-reach.ensures.ok in
    let same_names = c.truncate.ensures.items ∙ ap (take c.len-before.result) room.1
    ∙ ap (λ n. take n (names ++ replicate room.0 None))
    (let n : c.len-before.result ≡ length names = omega (arith, c.len-before.ensures) in n)
    ∙ take-append_seam names (replicate room.0 None) in
    record {
      kept = e.kept;
      zero = e.depth ∙ c.self.invariant.zero;
      names = subst (λ (solver : Solver). AreNamesFit solver c.truncate.new.self.items)
          (sym c.in-Err.ensures.err) (subst (AreNamesFit (solver_of s))
          (sym same_names) c.self.invariant.names);
    }
