-- What a run did that wasn't cut short.
use Rattle.std.proofs.Common.{◌≡◌, ◌∙◌, ℕ, Bool, true, false, cond, ap, sym, subst, inl, inr}
use Rattle.std.specs.Prelude.{◌⊎◌, Result, Ok, Err, IfOk}
use Rattle.run_io.specs.declared.outside.Failed.{Failed}
use Rattle.entry_core.specs.Journal.{jobs}
use Rattle.board_core.specs.State.{State}
use Rattle.tarmo_run.specs.declared.endings.Ending.{Ending}
use Rattle.tarmo_run.specs.declared.endings.Ending.TheVariants.{Complete, Refused, Unread}
use Rattle.tarmo_run.specs.declared.endings.Ending.TheVariants.{Exhausted}
use Rattle.tarmo_run.specs.Output.{UnlessCutShort, is_one_so, is_starved, status_of}

-- what stands anyway
pub uncut : (ending : Ending) (P : Type 0) → P → UnlessCutShort ending P
uncut (Complete count) P p = p
uncut (Refused fault) P p = p
uncut Unread P p = tt
uncut Exhausted P p = tt

pub ok_uncut : (result : Result Ending Failed) (P : Type 0) → P →
    IfOk result (λ ending. UnlessCutShort ending P)
ok_uncut (Ok ending) P p = uncut ending P p
ok_uncut (Err fault) P p = tt

six_or : (b : Bool) (other status : ℕ) → status ≡ cond b 6 other → (status ≡ 6 → ⊥) →
    (status ≡ other → ⊥) → ⊥
six_or true other status is not_six not_other = not_six is
six_or false other status is not_six not_other = not_other is

-- what a run did whose status tells that it wasn't cut short
pub done_by_status : (ending told : Ending) (board : State) (status : ℕ) (P : Type 0) →
    (told ≡ ending) ⊎ (told ≡ Exhausted) → status ≡ status_of told board →
    UnlessCutShort ending P → (status ≡ 3 → ⊥) → (status ≡ 6 → ⊥) → P
done_by_status (Complete count) told board status P which is p not_three not_six = p
done_by_status (Refused fault) told board status P which is p not_three not_six = p
done_by_status Unread told board status P (inl same) is p not_three not_six =
    absurd (six_or (is_one_so is_starved board (jobs board.journal)) 3 status
    (is ∙ ap (λ (e : Ending). status_of e board) same) not_six not_three)
done_by_status Unread told board status P (inr memory) is p not_three not_six =
    absurd (six_or (is_one_so is_starved board (jobs board.journal)) 6 status
    (is ∙ ap (λ (e : Ending). status_of e board) memory) not_six not_six)
done_by_status Exhausted told board status P (inl same) is p not_three not_six =
    absurd (six_or (is_one_so is_starved board (jobs board.journal)) 6 status
    (is ∙ ap (λ (e : Ending). status_of e board) same) not_six not_six)
done_by_status Exhausted told board status P (inr memory) is p not_three not_six =
    absurd (six_or (is_one_so is_starved board (jobs board.journal)) 6 status
    (is ∙ ap (λ (e : Ending). status_of e board) memory) not_six not_six)

-- what wasn't cut short before the last line
pub told_uncut : (ending told : Ending) (P : Type 0) → (told ≡ ending) ⊎ (told ≡ Exhausted) →
    UnlessCutShort ending P → UnlessCutShort told P
told_uncut ending told P (inl same) p = subst (λ (e : Ending). UnlessCutShort e P) (sym same) p
told_uncut ending told P (inr memory) p =
    subst (λ (e : Ending). UnlessCutShort e P) (sym memory) tt

-- of two steps at most one finds that memory ran out
pub told_twice : (ending mid told : Ending) → (mid ≡ ending) ⊎ (mid ≡ Exhausted) →
    (told ≡ mid) ⊎ (told ≡ Exhausted) → (told ≡ ending) ⊎ (told ≡ Exhausted)
told_twice ending mid told first (inr memory) = inr memory
told_twice ending mid told (inl once) (inl again) = inl (again ∙ once)
told_twice ending mid told (inr memory) (inl again) = inr (again ∙ memory)
