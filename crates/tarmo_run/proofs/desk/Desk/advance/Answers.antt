use Rattle.std.proofs.Common.{refl}
use Rattle.tarmo_run.proofs.Desks.{between_added}
use Rattle.tarmo_run.proofs.desk.Desk.advance.Goals as goal

pub work-requires : goal.work-requires
work-requires c = record {
  between = between_added c.args.self.now _ c.add_all-added.ensures.more refl
      refl c.requires.between;
}
