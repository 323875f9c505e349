use Rattle.std.proofs.Common.{◌≡◌, ◌≤◌, ◌∙◌, ◌<◌, ℕ, List, ap, arith, length, refl, subst, sym}
use Rattle.std.specs.Prelude.{slice_index_or}
use Rattle.std.specs.Vec.{with_items}
use Rattle.std.proofs.lemmas.List.{take-append-le, take_all}
use Rattle.service.specs.Passes.{BoardPass}
use Rattle.tarmo_run.specs.declared.crew.Crew.{Crew}
use Rattle.tarmo_run.specs.Sides.{ComesBack}
use Rattle.tarmo_run.proofs.Gathering.{whole_after}
use Rattle.tarmo_run.proofs.sides.solve_text.Goals as goal

pub returns-clause-whole : goal.returns-clause-whole
returns-clause-whole g c =
    let lock = c.args.crew.now.service.lock in
    let written : List BoardPass = c.three_sides.new.workers in
    let new : Crew = record {
      service = c.args.crew.now.service;
      adder = c.three_sides.new.adder;
      printer = c.three_sides.new.printer;
      workers = with_items c.args.crew.now.workers c.three_sides.new.workers;
      room = c.args.crew.now.room;
    } in
    let number = c.args.crew.now.workers.len in
    let few : number ≤ length written =
    omega (arith, c.three_sides.auto.workers, c.as_mut_slice.ensures.len) in
    let all : length written ≤ number =
    omega (arith, c.three_sides.auto.workers, c.as_mut_slice.ensures.len) in
    let same : new.workers.items ≡ written =
    take-append-le number written _ few ∙ take_all number written all in
    whole_after c.args.crew.now new c.requires.gathered.whole refl refl c.three_sides.ensures.read.ready
    c.three_sides.ensures.printer
    (ap length same ∙ c.three_sides.auto.workers ∙ ap length c.as_mut_slice.ensures.value)
    (subst (λ (list : List BoardPass). (k : ℕ) (d : BoardPass) →
    k < length c.args.crew.now.workers.items →
    ComesBack lock (slice_index_or c.args.crew.now.workers.items k d) (slice_index_or list k d))
    (sym same)
    (subst (λ (list : List BoardPass). (k : ℕ) (d : BoardPass) → k < length list →
    ComesBack lock (slice_index_or list k d) (slice_index_or written k d))
    c.as_mut_slice.ensures.value c.three_sides.ensures.workers))
