use Rattle.std.proofs.Common.{◌∙◌, ◌<◌, length, map, ap, arith, refl, rules}
use Rattle.std.specs.Arc.{arc_value}
use Rattle.std.proofs.lemmas.List.{map-append, length-map}
use Rattle.worker_loop.proofs.Fitting.{few_read}
use Rattle.worker_loop.proofs.Sharings.{has_read}
use Rattle.worker_loop.proofs.sharing.read_packets.Goals as goal

pub overflow_cast-len : goal.overflow_cast-len
overflow_cast-len c =
    let few : length c.args.bench.now.packets.items < 4294967296 = few_read c.args.board.now.rules c.args.board.now.journal c.args.bench.now c.journal.ensures.legal c.requires.fits in
    search rules

pub returns-clause-fits : goal.returns-clause-fits
returns-clause-fits c =
    (has_read c.args.bench.now (record { session = c.args.bench.now.session; packets = c.append.new.self }) c.args.board.now.journal c.len.result (map arc_value c.in_ok-came.came.items) c.requires.fits refl
    (ap (map arc_value) c.in_ok-append.ensures.items ∙ map-append arc_value c.args.bench.now.packets.items c.in_ok-came.came.items) c.in_ok-came.ensures
    (omega (arith, c.len.ensures, length-map c.args.bench.now.packets.items arc_value))).1
