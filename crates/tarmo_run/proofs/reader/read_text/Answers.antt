use Rattle.tarmo_run.proofs.Finishing.{reads_same}
use Rattle.tarmo_run.proofs.reader.read_text.Goals as goal

pub returns : goal.returns
returns g c = record {
  ready = c.close_input.ensures.adder;
  through = reads_same _ _ _ _ _ _ _ c.close_input.ensures.more.segments
      c.read_source-ending.ensures.through;
  whole = c.read_source-ending.ensures.whole;
  later = c.read_source-ending.ensures.later;
  named = c.read_source-ending.ensures.opened;
}
